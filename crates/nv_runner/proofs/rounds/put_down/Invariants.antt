-- Those that are left and those that were put down are all.
use Rattle.std.proofs.Common.{◌+◌, ◌≤◌, ◌++◌, length}
use Rattle.std.specs.Prelude.{IsPermutation, vec_capacity}
use Rattle.std.specs.List.{flat_map}
use Rattle.nv_runner.specs.Lists.{made_calls}
use Rattle.nv_runner.specs.Owners.{list_made}
use Rattle.nv_runner.proofs.rounds.put_down.Given as goal

abbrev pub invariant-loop-list : goal.invariant-loop-list
invariant-loop-list l = record {
  room : length l.answered.items + length (flat_map list_made l.lists.items) ≤ vec_capacity l.answered;
  put : IsPermutation (flat_map list_made l.lists.items ++ made_calls l.answered.items) (flat_map list_made l.initial.lists.items ++ made_calls l.initial.answered.items);
}

abbrev pub decreases-loop-list : goal.decreases-loop-list
decreases-loop-list l = length l.lists.items
