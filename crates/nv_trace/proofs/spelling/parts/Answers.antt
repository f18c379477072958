use Rattle.std.proofs.Common.{◌≡◌, ℕ, length, map, arith, ap, eqb, rules, tests, ◌∙◌}
use Rattle.std.specs.Slice.Iter.{split_callee}
use Rattle.nv_trace.specs.Grammar.{most_parts}
use Rattle.nv_trace.proofs.Fields.{parts_are}
use Rattle.std.proofs.lemmas.Iterator.Consumers.{YieldsList-turn, YieldsList-end}
use Rattle.std.proofs.lemmas.Iterator.Splits.{YieldsList-from_slice_split}
use Rattle.nv_trace.proofs.spelling.parts.Goals as goal

pub returns-in_err-ok-clause-parts : goal.returns-in_err-ok-clause-parts
returns-in_err-ok-clause-parts c =
    let callee = ap split_callee c.into_iter-part-iterator.ensures.into_iter_gives ∙ c.split-part-items.ensures.closure in
    let turn = YieldsList-turn (YieldsList-from_slice_split {s = c.into_iter-part-iterator.result} _ (λ (byte : ℕ). eqb byte c.args.separator) c.args.text.now (cc) (cc) callee (λ x r q k. search (rules, tests))) c.loop-part.yielded _ c.loop-part.yielded_by _ _ c.in-Some.part c.in-Some.is c.next.ensures.steps in
    let same = ap length (parts_are c.args.separator c.args.text.now) in
    let full : length c.loop-part.parts.items ≡ most_parts = grind (arith, c.try_push.ensures.full) in
    let count = ap length c.loop-part.invariant.parts in
    rw c.from_residual.ensures (omega arith)

pub returns-clause-parts : goal.returns-clause-parts
returns-clause-parts c =
    let callee = ap split_callee c.into_iter-part-iterator.ensures.into_iter_gives ∙ c.split-part-items.ensures.closure in
    let end = YieldsList-end (YieldsList-from_slice_split {s = c.into_iter-part-iterator.result} _ (λ (byte : ℕ). eqb byte c.args.separator) c.args.text.now (cc) (cc) callee (λ x r q k. search (rules, tests))) c.loop-part.yielded _ c.loop-part.yielded_by _ _ c.in-None.is c.next.ensures.steps in
    ap (map (λ field. field.now)) c.loop-part.invariant.parts ∙ end.0 ∙ parts_are c.args.separator c.args.text.now
