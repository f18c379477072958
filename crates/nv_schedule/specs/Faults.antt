-- Faults: device calls that fail while a schedule is followed.
use Rattle.std.specs.Prelude.{◌≡◌, Bool, true, false, ◌||◌, List, [], ◌∷◌}
use Rattle.nv_core.specs.state.Values.{CallEnding, Failed}
use Rattle.nv_core.specs.steps.Events.{Act, CallsDevice, Event}
use Rattle.nv_core.specs.steps.Order.{Work}

-- a device call has failed
abbrev pub is_failed : CallEnding → Bool
is_failed (Failed came faults) = true
is_failed ending = false

-- one of some device calls has
abbrev pub some_failed : List Work → Bool
some_failed [] = false
some_failed (work ∷ later) = is_failed work.ending || some_failed later

-- an act is a device call that has failed
abbrev pub has_failed : Act → Bool
has_failed (CallsDevice work) = is_failed work.ending
has_failed act = false

-- one of some events is
abbrev pub some_fails : List Event → Bool
some_fails [] = false
some_fails (event ∷ later) = has_failed event.act || some_fails later

-- Where no cut came before them, none of these events is a device call that has failed.
abbrev pub FailOnlyCut : (cut : Bool) → List Event → Type 0
FailOnlyCut true events = Unit {0}
FailOnlyCut false events = some_fails events ≡ false
