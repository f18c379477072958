-- Later histories: a history is a first part of each later one.
use Rattle.std.specs.Prelude.{◌≤◌, List, ◌++◌, length}
use Rattle.nv_core.specs.state.Words.{ORDER}
use Rattle.nv_core.specs.state.Core.{Core}
use Rattle.nv_core.specs.steps.Events.{Event, after_run, IsRun}
use Rattle.nv_core.specs.steps.Opening.{Mount, IsMount, opening}
use Rattle.nv_core.specs.invariant.OneHistory.{IsPrefix}

-- A history goes on in a later core, and ORDER, which is its length, comes no further than that one's.
pub record HistoryGoesOn (core later : Core) : Type 0 where
  pub begins : IsPrefix core.history later.history
  pub most : core.words ORDER ≤ length later.history

-- So it does in every run.
abbrev pub HistoriesGoOn : Type 0
HistoriesGoOn =
    (mount : Mount) (run more : List Event)
    → IsMount mount → IsRun mount.sizes (opening mount) (run ++ more)
    → HistoryGoesOn (after_run mount.sizes (opening mount) run) (after_run mount.sizes (opening mount) (run ++ more))
