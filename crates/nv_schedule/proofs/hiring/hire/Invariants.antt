-- So many threads are there.
use Rattle.std.proofs.Common.{◌≡◌, ◌≤◌, ◌-◌, length, map}
use Rattle.nv_table.specs.state.Views.{made_of}
use Rattle.nv_runner.specs.Workers.{IsZero}
use Rattle.nv_schedule.specs.Fresh.{AreFresh, thread_works}
use Rattle.nv_schedule.specs.Scheduled.{IsAside}
use Rattle.nv_schedule.specs.Turns.{CallerState}
use Rattle.nv_schedule.proofs.hiring.hire.Given as goal

abbrev pub invariant-loop-number : goal.invariant-loop-number
invariant-loop-number g l = record {
  zero : IsZero l.mount l.zero;
  fresh : AreFresh l.mount l.callers.items;
  count : made_of l.zero.view ≡ length l.callers.items;
  aside : IsAside l.initial.zero l.zero;
  ended : l.zero.view.ended ≡ l.initial.zero.view.ended;
  here : length l.callers.items ≡ l.number;
  few : l.number ≤ 8;
  works : map (λ (caller : CallerState). caller.work) l.callers.items ≡ thread_works l.calls l.number;
}

abbrev pub decreases-loop-number : goal.decreases-loop-number
decreases-loop-number g l = 8 - l.number
