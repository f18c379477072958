-- Not each refusal need be shown.
use Rattle.std.proofs.Common.{length, map, ap, arith}
use Rattle.std.proofs.lemmas.List.{length-map}
use Rattle.nv_runner.specs.FaithfulRuns.{shown_call}
use Rattle.nv_runner.specs.Sorted.{refused_call}
use Rattle.nv_runner.proofs.streams.StreamParts.{few_shown}
use Rattle.nv_runner.proofs.kept.KeptCalls.take.Goals as goal

pub overflow_add-self-2 : goal.overflow_add-self-2
overflow_add-self-2 c =
    let refused = c.args.sorted.refused.items in
    let shown = c.in_ok-shown.shown.items in
    let few = few_shown (map refused_call refused) in
    let long = length-map refused refused_call in
    let same = ap length c.in_ok-shown.ensures in
    let shown_long = length-map shown shown_call in
    omega (arith, few, long, same, shown_long, c.requires.refused)
