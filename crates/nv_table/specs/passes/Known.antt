-- Known: what a pass has seen, and those that it took in; and that no step of it finds less.
use Rattle.std.specs.Prelude.{◌≡◌, ℕ, ◌≤◌, ◌==◌, true, if◌then◌else◌, List, [], ◌∷◌, length, Option}
use Rattle.nv_plain.specs.declared.call.FileCall.{FileCall}
use Rattle.nv_core.specs.state.Cleaner as cleaner
use Rattle.nv_core.specs.state.Core.{with_seen}
use Rattle.nv_core.specs.state.Passes.{Pass}
use Rattle.nv_core.specs.state.Words.{STOP, ORDER, HEAD, TAIL}
use Rattle.nv_core.specs.steps.Frames.{Covers}
use Rattle.nv_core.specs.steps.Opening.{IsMount}
use Rattle.nv_core.specs.steps.Ops.{Op, Load, Place, Draw, ByCleaner}
use Rattle.nv_table.specs.invariant.BetweenSteps.{KnowsTaken}
use Rattle.nv_table.specs.state.Opened.{Opened, mount_of}
use Rattle.nv_table.specs.state.States.{PassState}
use Rattle.nv_table.specs.state.Views.{Past, PassView, pass_of, past_pass}
use Rattle.nv_table.specs.steps.StepContracts.{Postcondition}

-- those that it took in: pass 0 alone takes any in
abbrev pub taken_by : PassView → List Past
taken_by view = if view.number == 0 then view.ended else []

-- a pass that knows too what some that were taken in have seen
abbrev pub knowing : Opened → List Past → Pass → Pass
knowing opened [] pass = pass
knowing opened (past ∷ before) pass = with_seen (knowing opened before pass) (past_pass opened past)

-- A pass knows what it has seen, and what those that it took in had: the longest history of theirs, the greatest HEAD and TAIL, and STOP of any.
abbrev pub known_by : PassView → Pass
known_by view = knowing view.opened (taken_by view) (pass_of view)

-- ---- laws, of a step of its own

-- A load of STOP finds it set where that is known; a load finds HEAD or TAIL no lower than is known, and so does a draw; and ORDER is found no lower than the calls that are known.
abbrev pub FindsNoLess : Pass → Op → (found : ℕ) → Type 0
FindsNoLess known (Load STOP) found = known.stopped ≡ true → found ≡ 1
FindsNoLess known (Load ORDER) found = length known.seen ≤ found
FindsNoLess known (Load HEAD) found = known.head ≤ found
FindsNoLess known (Load TAIL) found = known.tail ≤ found
FindsNoLess known Draw found = known.head ≤ found
FindsNoLess known (Place reply) found = length known.seen ≤ found
FindsNoLess known (ByCleaner (cleaner.Load STOP)) found = known.stopped ≡ true → found ≡ 1
FindsNoLess known (ByCleaner (cleaner.Load HEAD)) found = known.head ≤ found
FindsNoLess known (ByCleaner (cleaner.Load TAIL)) found = known.tail ≤ found
FindsNoLess known op found = Unit {0}

-- So does each step of a pass.
abbrev pub StepsFindWhatIsKnown : Type 0
StepsFindWhatIsKnown =
    (old new : PassState) (opens : Option FileCall) (op : Op) (found : ℕ) → IsMount (mount_of old.view.opened) → (old.view.number ≡ 0 → KnowsTaken old.view)
    → Postcondition old opens op found new → FindsNoLess (known_by old.view) op found

-- And it knows no less then.
abbrev pub StepsForgetNothing : Type 0
StepsForgetNothing =
    (old new : PassState) (opens : Option FileCall) (op : Op) (found : ℕ) → IsMount (mount_of old.view.opened) → (old.view.number ≡ 0 → KnowsTaken old.view)
    → Postcondition old opens op found new → Covers (known_by old.view) (known_by new.view) × (new.view.number ≡ 0 → KnowsTaken new.view)
