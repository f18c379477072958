-- Orders: the deeds of a run, and events that stand in a run in their order.
use Rattle.std.specs.Prelude.{◌≡◌, Bool, true, false, List, [], ◌∷◌, ◌++◌, filter}
use Rattle.nv_core.specs.steps.Ops.{Op, Split, PutBack, Join}
use Rattle.nv_core.specs.steps.Events.{Act, TakesStep, Event}

-- it makes no other pass, takes none in, and puts nothing back on its way there
abbrev pub is_deed_op : Op → Bool
is_deed_op Split = false
is_deed_op (PutBack cell) = false
is_deed_op (Join number) = false
is_deed_op op = true

abbrev pub is_deed : Act → Bool
is_deed (TakesStep op found) = is_deed_op op
is_deed act = true

-- the events of a run by which calls and batches go on: all but those by which passes are made, put back what they own, and are taken in
abbrev pub deeds : List Event → List Event
deeds run = filter (λ event. is_deed event.act) run

-- all of some events are deeds
abbrev pub AreDeeds : List Event → Type 0
AreDeeds [] = Unit {0}
AreDeeds (event ∷ later) = (is_deed event.act ≡ true) × AreDeeds later

-- some events stand in a run in their order, maybe with others between
abbrev pub InTurn : List Event → (run : List Event) → Type 0
InTurn [] run = Unit {0}
InTurn (event ∷ later) run = (before : List Event) × (after : List Event) × (run ≡ before ++ event ∷ after) × InTurn later after

-- some events come in a run behind all that stand in another one
abbrev pub ComeBehind : List Event → (before after : List Event) → Type 0
ComeBehind events before after = (trail : List Event) → InTurn trail before → InTurn (trail ++ events) after
