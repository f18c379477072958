-- The works that are left, and behind them those that have a seat, are all, in their order.
use Rattle.std.proofs.Common.{◌≡◌, ◌+◌, ◌≤◌, ◌++◌, length}
use Rattle.std.specs.Prelude.{All, reverse, vec_capacity}
use Rattle.nv_table.specs.state.Views.{made_of}
use Rattle.nv_runner.specs.Workers.{IsNewcomer, IsZero, IsZeroStill}
use Rattle.nv_session.proofs.WorkLaws.{works_of}
use Rattle.nv_session.proofs.hiring.hire.Given as goal

abbrev pub invariant-loop-work : goal.invariant-loop-work
invariant-loop-work g l = record {
  zero : IsZero l.mount l.zero;
  still : IsZeroStill l.initial.zero l.zero;
  ended : l.zero.view.ended ≡ l.initial.zero.view.ended;
  new : All (λ seat. IsNewcomer l.mount.board.opened l.initial.zero.view.ended seat.session) l.seats.items;
  made : made_of l.zero.view ≡ made_of l.initial.zero.view + length l.seats.items;
  works : l.works.items ++ reverse (works_of l.seats.items) ≡ l.initial.works.items;
  count : length l.works.items + length l.seats.items ≡ length l.initial.works.items;
  room : length l.works.items + length l.seats.items ≤ vec_capacity l.works;
  places : length l.works.items + length l.seats.items ≤ vec_capacity l.seats;
}

abbrev pub decreases-loop-work : goal.decreases-loop-work
decreases-loop-work g l = length l.works.items
