-- Uncut: whether a device call has failed in a schedule, as long as no cut is reached.
use Rattle.std.specs.Prelude.{◌≡◌, true, false, List}
use Rattle.nv_core.specs.steps.Events.{Event}
use Rattle.nv_mount.specs.declared.fds.Fd.{Fd}
use Rattle.nv_schedule.specs.Cuts.{cut_behind}
use Rattle.nv_schedule.specs.Faults.{some_fails}
use Rattle.nv_schedule.specs.Following.{Follows, MeetsFault}
use Rattle.nv_schedule.specs.Turns.{CallerState}
use Rattle.nv_trace.specs.declared.token.Token.{Token}

-- None has in one that was followed, among whose tokens there is no cut.
abbrev pub UncutSchedulesAreWhole : Type 0
UncutSchedulesAreWhole =
    (fds : List Fd) (tokens : List Token) (callers : List CallerState) (trail : List Event) (then_ : List CallerState) → Follows fds false tokens callers trail then_ → cut_behind false tokens ≡ false → some_fails trail ≡ false

-- One has in one that met a fault.
abbrev pub FaultsAreMet : Type 0
FaultsAreMet = (fds : List Fd) (tokens : List Token) (callers : List CallerState) (trail : List Event) (then_ : List CallerState) → MeetsFault fds false tokens callers trail then_ → some_fails trail ≡ true
