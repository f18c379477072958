-- Frames: what a pass's events leave alone, what it sees of the core, and what of it its own events tell.
use Rattle.std.specs.Prelude.{◌≡◌, ◌≢◌, ◌⊎◌, ℕ, ◌≤◌, true, List, [], ◌++◌, length}
use Rattle.nv_core.specs.state.Words.{Sizes, Word, IsWord}
use Rattle.nv_core.specs.state.Passes.{Pass, times, IsOneOf}
use Rattle.nv_core.specs.steps.Ops.{Op, word_of}
use Rattle.nv_core.specs.invariant.Ownership.{Ownership}
use Rattle.nv_core.specs.invariant.ControlFacts.{ControlFacts}
use Rattle.nv_core.specs.steps.Order.{Values, Work, Enabled, CallEnabled}
use Rattle.nv_core.specs.state.Core.{Core, newcomer, values_stepped, values_worked, after_begin}
use Rattle.nv_core.specs.steps.Events.{Act, BeginsCall, TakesStep, CallsDevice, Event, EventEnabled, ActEnabled, after_event, after_run, IsRun, own}
use Rattle.nv_core.specs.steps.Opening.{Mount, IsMount, opening}
use Rattle.nv_core.specs.invariant.Sound.{Sound}

-- From one core to a later one nothing has changed but a pass, the cells that it owns, and words; and which passes there are only by pass 0.
pub record LeavesAlone (by : ℕ) (core next : Core) : Type 0 where
  pub passes : (number : ℕ) → number ≢ by → number ≤ core.made → next.passes number ≡ core.passes number
  pub values : (cell : Word) → times cell (core.passes by).owned ≡ 0 → next.values cell ≡ core.values cell
  pub made : by ≢ 0 → next.made ≡ core.made
  pub ended : by ≢ 0 → next.ended ≡ core.ended

-- No event changes more than that.
abbrev pub EventsLeaveOthers : Type 0
EventsLeaveOthers =
    (sizes : Sizes) (first : Values) (core : Core) (event : Event)
    → Sound sizes first core → EventEnabled sizes event core → LeavesAlone event.by core (after_event sizes event core)

-- the cells that a pass owns keep the same
abbrev pub AgreeOn : Pass → (one other : Values) → Type 0
AgreeOn pass one other = (cell : Word) → times cell pass.owned ≢ 0 → one cell ≡ other cell

-- What a pass may do next, and what that leaves among its owned cells, depends on nothing but itself and what the cells that it owns keep.
pub record DependsOnOwned (sizes : Sizes) (pass : Pass) (one other : Values) : Type 0 where
  pub steps : (op : Op) → Enabled sizes one pass op → Enabled sizes other pass op
  pub stepped : (op : Op) → Enabled sizes one pass op → AgreeOn pass (values_stepped sizes pass op one) (values_stepped sizes pass op other)
  pub works : (work : Work) → CallEnabled sizes one pass work → CallEnabled sizes other pass work
  pub worked : (work : Work) → CallEnabled sizes one pass work → AgreeOn pass (values_worked pass work one) (values_worked pass work other)

abbrev pub PassesDependOnOwned : Type 0
PassesDependOnOwned =
    (sizes : Sizes) (pass : Pass) (one other : Values)
    → Ownership sizes pass → ControlFacts sizes pass → AgreeOn pass one other → DependsOnOwned sizes pass one other

-- the word that an act's step is made on
abbrev pub IsOnWord : Sizes → (by : ℕ) → Core → Act → Type 0
IsOnWord sizes by core (BeginsCall call op found) = IsWord sizes (word_of sizes ((after_begin sizes by call core).passes by) op)
IsOnWord sizes by core (TakesStep op found) = IsWord sizes (word_of sizes (core.passes by) op)
IsOnWord sizes by core (CallsDevice work) = Unit {0}

-- Every step after a run is made on a word of the mount.
abbrev pub StepsAreOnWords : Type 0
StepsAreOnWords =
    (mount : Mount) (run : List Event) (by : ℕ) (act : Act)
    → IsMount mount → IsRun mount.sizes (opening mount) run → ActEnabled mount.sizes by (after_run mount.sizes (opening mount) run) act
    → IsOnWord mount.sizes by (after_run mount.sizes (opening mount) run) act

-- What a pass's own events tell: what it is, and what the cells that it owns keep; of pass 0 also which passes there are.
pub record StaysKnown (number : ℕ) (core next : Core) : Type 0 where
  pub pass : next.passes number ≡ core.passes number
  pub values : AgreeOn (core.passes number) next.values core.values
  pub made : number ≡ 0 → next.made ≡ core.made
  pub ended : number ≡ 0 → next.ended ≡ core.ended

-- Events of others don't change it, for a pass that is made.
abbrev pub OwnEventsTell : Type 0
OwnEventsTell =
    (mount : Mount) (number : ℕ) (run more : List Event)
    → IsMount mount → IsRun mount.sizes (opening mount) (run ++ more) → number ≤ (after_run mount.sizes (opening mount) run).made → own number more ≡ []
    → StaysKnown number (after_run mount.sizes (opening mount) run) (after_run mount.sizes (opening mount) (run ++ more))

-- a pass has seen as much as another: as long a history, HEAD, TAIL, and STOP
pub record Covers (one other : Pass) : Type 0 where
  pub seen : length one.seen ≤ length other.seen
  pub head : one.head ≤ other.head
  pub tail : one.tail ≤ other.tail
  pub stopped : one.stopped ≡ true → other.stopped ≡ true

-- A new pass has seen as much as pass 0, and as each pass that this took in.
abbrev pub NewcomersCover : Type 0
NewcomersCover = (core : Core) (number : ℕ) → (number ≡ 0) ⊎ IsOneOf core.ended number → Covers (core.passes number) (newcomer core)
