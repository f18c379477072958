-- Laws of the core, over all its states and runs.
use Rattle.std.specs.Prelude.{List}
use Rattle.nv_core.specs.state.Words.{Sizes}
use Rattle.nv_core.specs.steps.Order.{Values}
use Rattle.nv_core.specs.state.Core.{Core}
use Rattle.nv_core.specs.steps.Events.{Event, EventEnabled, after_event, after_run, IsRun}
use Rattle.nv_core.specs.steps.Opening.{Mount, IsMount, opening}
use Rattle.nv_core.specs.invariant.Sound.{Sound}

-- The state at opening is sound.
abbrev pub OpeningIsSound : Type 0
OpeningIsSound = (mount : Mount) → IsMount mount → Sound mount.sizes mount.values (opening mount)

-- Every event that may come keeps the core sound: each kind of step, and each device call, ended well or failed.
abbrev pub EventsKeepSound : Type 0
EventsKeepSound =
    (sizes : Sizes) (first : Values) (core : Core) (event : Event)
    → Sound sizes first core → EventEnabled sizes event core → Sound sizes first (after_event sizes event core)

-- So every run from the opening leads to a sound state.
abbrev pub RunsAreSound : Type 0
RunsAreSound =
    (mount : Mount) (events : List Event)
    → IsMount mount → IsRun mount.sizes (opening mount) events → Sound mount.sizes mount.values (after_run mount.sizes (opening mount) events)
