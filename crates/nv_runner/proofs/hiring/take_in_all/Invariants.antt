-- Those that are left, with those that were taken in, are all; and so are their calls.
use Rattle.std.proofs.Common.{◌≡◌, ◌+◌, ◌≤◌, ◌++◌, length, map}
use Rattle.std.specs.Prelude.{All, IsPermutation, vec_capacity}
use Rattle.std.specs.List.{flat_map}
use Rattle.nv_table.specs.passes.Seats.{past_of}
use Rattle.nv_table.specs.state.Views.{made_of}
use Rattle.nv_runner.specs.Workers.{IsReady, IsZero, IsZeroStill}
use Rattle.nv_runner.proofs.hiring.take_in_all.Given as goal

abbrev pub invariant-loop-worker : goal.invariant-loop-worker
invariant-loop-worker g l = record {
  zero : IsZero l.mount l.zero;
  still : IsZeroStill l.initial.zero l.zero;
  ready : All (IsReady l.mount) l.workers.items;
  room : length l.owners.items + length l.workers.items ≤ vec_capacity l.owners;
  ended : map (λ worker. past_of worker.pass.view) l.workers.items ++ l.zero.view.ended ≡ map (λ worker. past_of worker.pass.view) l.initial.workers.items ++ l.initial.zero.view.ended;
  made : made_of l.zero.view ≡ made_of l.initial.zero.view;
  owners :
      IsPermutation (flat_map g.C.Calls.made l.owners.items ++ flat_map (λ worker. worker.made) l.workers.items)
      (flat_map g.C.Calls.made l.initial.owners.items ++ flat_map (λ worker. worker.made) l.initial.workers.items);
}

abbrev pub decreases-loop-worker : goal.decreases-loop-worker
decreases-loop-worker g l = length l.workers.items
