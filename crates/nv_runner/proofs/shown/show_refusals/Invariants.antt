use Rattle.std.proofs.Common.{◌≡◌, ◌++◌, length, map}
use Rattle.std.specs.Vec.Iter.{into_iter_items, into_iter_len}
use Rattle.nv_runner.specs.FaithfulRuns.{shown_call, shown_refusals}
use Rattle.nv_runner.specs.Sorted.{refused_call}
use Rattle.nv_runner.proofs.shown.show_refusals.Given as goal

abbrev pub invariant-loop-one : goal.invariant-loop-one
invariant-loop-one l = record {
  shown : map shown_call l.shown.items ++ shown_refusals (map refused_call (into_iter_items l.one-iterator)) ≡ shown_refusals (map refused_call (into_iter_items l.initial.one-iterator));
  count : into_iter_len l.one-iterator ≡ length (into_iter_items l.one-iterator);
}
