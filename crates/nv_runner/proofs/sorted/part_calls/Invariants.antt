-- Those that are left, with those that were put to their own, are all.
use Rattle.std.proofs.Common.{◌++◌, length, map}
use Rattle.std.specs.Prelude.{IsPermutation}
use Rattle.nv_runner.specs.Histories.{placed_calls}
use Rattle.nv_runner.specs.Lists.{made_calls}
use Rattle.nv_runner.specs.Sorted.{opened_call, opened_calls, placed_call, refused_call, refused_calls}
use Rattle.nv_runner.proofs.sorted.part_calls.Given as goal

abbrev pub invariant-loop-call : goal.invariant-loop-call
invariant-loop-call l = record {
  placed : IsPermutation (placed_calls (made_calls l.initial.answered.items)) (placed_calls (made_calls l.answered.items) ++ map placed_call l.placed.items);
  refused : IsPermutation (refused_calls (made_calls l.initial.answered.items)) (refused_calls (made_calls l.answered.items) ++ map refused_call l.refused.items);
  open_calls : IsPermutation (opened_calls (made_calls l.initial.answered.items)) (opened_calls (made_calls l.answered.items) ++ map opened_call l.open_calls.items);
}

abbrev pub decreases-loop-call : goal.decreases-loop-call
decreases-loop-call l = length l.answered.items
