-- Those that are left, and behind them those that were taken in, are all.
use Rattle.std.proofs.Common.{◌≡◌, ◌++◌, List, length}
use Rattle.std.specs.Prelude.{All, OnOk}
use Rattle.nv_schedule.specs.Following.{Stands}
use Rattle.nv_schedule.specs.Scheduled.{AreCallsOf, HasTakenIn, IsTaker}
use Rattle.nv_schedule.specs.Turns.{CallerState}
use Rattle.nv_schedule.proofs.ending.take_in_all.Given as goal

abbrev pub invariant-loop-caller : goal.invariant-loop-caller
invariant-loop-caller g l = record {
  zero : IsTaker l.mount l.zero;
  stand : All (Stands l.mount) l.callers.items;
  gone : List CallerState;
  all : l.initial.callers.items ≡ l.callers.items ++ gone;
  taken : HasTakenIn l.initial.zero l.zero gone;
  calls : OnOk l.noted (AreCallsOf gone l.calls);
}

abbrev pub decreases-loop-caller : goal.decreases-loop-caller
decreases-loop-caller g l = length l.callers.items
