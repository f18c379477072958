-- Retiring: what a batch has made of its device calls before it frees its first entry.
use Rattle.std.specs.Prelude.{◌≡◌, ℕ, ◌<◌, true, List, None}
use Rattle.nv_core.specs.state.Words.{HEADER, STORE}
use Rattle.nv_core.specs.state.Passes.{times}
use Rattle.nv_core.specs.steps.CleanerSteps.{holds_store, syncing}
use Rattle.nv_core.specs.invariant.Rooms.{KeepsRoomy}
use Rattle.nv_core.specs.invariant.Shapes.{IsStore}
use Rattle.nv_table.specs.state.States.{PassState}
use Rattle.nv_table.specs.steps.SeatSteps.{values_before}
use Rattle.nv_clean.specs.Cleaning.{CleanState, IsBehind}

-- Of the stores whose STORE it holds, these are still to be synced. Each is one of the mount's, and the header's part can take the stores of a move of its tail.
pub record IsSyncing (m : CleanState) (files : List ℕ) (start was now : PassState) : Type 0 where
  pub behind : IsBehind (syncing m.batch files) None m start was now
  pub there : (file : ℕ) → holds_store m.batch file ≡ true → file < was.view.opened.sizes.files
  pub once : (file : ℕ) → holds_store m.batch file ≡ true → times (STORE file) m.owned ≡ 1
  pub stores : (file : ℕ) → holds_store m.batch file ≡ true → IsStore (values_before was.view behind.works (STORE file))
  pub header_once : times HEADER m.owned ≡ 1
  pub header : KeepsRoomy (values_before was.view behind.works HEADER)
