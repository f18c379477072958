-- The works that are back, and behind them those that have a seat, are all, in their order.
use Rattle.std.proofs.Common.{◌≡◌, ◌+◌, ◌≤◌, ◌++◌, length, map}
use Rattle.std.specs.Prelude.{reverse, vec_capacity}
use Rattle.nv_table.specs.passes.Seats.{past_of}
use Rattle.nv_table.specs.state.Views.{made_of}
use Rattle.nv_runner.specs.Workers.{IsZero, IsZeroStill}
use Rattle.nv_session.proofs.WorkLaws.{works_of}
use Rattle.nv_session.proofs.hiring.take_in_all.Given as goal

abbrev pub invariant-loop-seat : goal.invariant-loop-seat
invariant-loop-seat g l = record {
  zero : IsZero l.mount l.zero;
  still : IsZeroStill l.initial.zero l.zero;
  ended : map (λ seat. past_of seat.session.view) l.seats.items ++ l.zero.view.ended ≡ map (λ seat. past_of seat.session.view) l.initial.seats.items ++ l.initial.zero.view.ended;
  made : made_of l.zero.view ≡ made_of l.initial.zero.view;
  works : l.works.items ++ reverse (works_of l.seats.items) ≡ l.initial.works.items ++ reverse (works_of l.initial.seats.items);
  room : length l.works.items + length l.seats.items ≤ vec_capacity l.works;
}

abbrev pub decreases-loop-seat : goal.decreases-loop-seat
decreases-loop-seat g l = length l.seats.items
