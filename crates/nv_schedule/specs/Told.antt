-- Told: what a schedule tells of the calls of a thread.
use Rattle.std.specs.Prelude.{◌≡◌, ℕ, List, [], None}
use Rattle.nv_plain.specs.Histories.{Answered}
use Rattle.nv_core.specs.invariant.OneHistory.{calls_by}
use Rattle.nv_table.specs.invariant.Drawn.{drawn_by}
use Rattle.nv_table.specs.state.States.{PassState}
use Rattle.nv_table.specs.state.Views.{pass_of}
use Rattle.nv_mount.specs.declared.fds.Fd.{Fd}
use Rattle.nv_runner.specs.Lists.{AreMade, MadeCall, Stand, placed}
use Rattle.nv_schedule.specs.Listed.{listed_of}
use Rattle.nv_schedule.specs.Turns.{CallerState}
use Rattle.nv_schedule.specs.declared.caller.Work.{Work}
use Rattle.nv_schedule.specs.declared.caller.Work.TheVariants.{Calls, Batches}

-- The answered calls of a thread were answered so, one behind the other, as threads of a run are. Of all that are listed of it, its present call among them, each that has its place stands at it in the history,
-- behind all that its pass had seen; and the history has these of it, in their order, and no other.
pub record AreToldOf (fds : List Fd) (number : ℕ) (answered listed : List MadeCall) (start : PassState) (history : List Answered) : Type 0 where
  pub last : PassState
  pub made : AreMade fds None answered start last
  pub stand : Stand fds number (pass_of start.view).seen listed history
  pub own : calls_by number history ≡ placed fds number listed

-- the cleaner has none
abbrev pub IsToldOfWork : List Fd → (number : ℕ) → Work → (now start : PassState) → List Answered → Type 0
IsToldOfWork fds number (Calls thread) now start history = AreToldOf fds number thread.made (listed_of thread (drawn_by now.view)) start history
IsToldOfWork fds number (Batches cleaner) now start history = calls_by number history ≡ []

abbrev pub IsToldOf : List Fd → (number : ℕ) → CallerState → (start : PassState) → List Answered → Type 0
IsToldOf fds number caller start history = IsToldOfWork fds number caller.work caller.pass start history
