use Rattle.std.proofs.Common.{refl, arith}
use Rattle.std.proofs.lemmas.Result.{err_from_is_err_and}
use Rattle.nv_trace.specs.Grammar.{each_of, part_of}
use Rattle.nv_trace.proofs.PartLists.{next_spelled, none_spelled}
use Rattle.nv_trace.proofs.spelling.each_part_of.Goals as goal

pub loop-field-init : goal.loop-field-init
unfolding each_of
loop-field-init c = rw c.new-parts.ensures.items (record { read = refl; count = refl })

pub returns-in_err-part_of-clause-bad : goal.returns-in_err-part_of-clause-bad
returns-in_err-part_of-clause-bad c =
    let p = err_from_is_err_and c.from_residual.result c.from_residual.ensures.1 in
    rw (p.1, p.2) (none_spelled part_of (λ field. field.now) c.args.fields.now c.loop-field.field-index _ c.loop-field.parts.items c.in_err-part_of.field-0.0 c.loop-field-test.true c.loop-field.invariant.read c.in_err-part_of.ensures)

pub loop-field-preserved : goal.loop-field-preserved
loop-field-preserved c =
    let read = next_spelled part_of (λ field. field.now) c.args.fields.now c.loop-field.field-index _ c.loop-field.parts.items c.in_ok-part_of.field-0 c.loop-field-test.true c.loop-field.invariant.read c.in_ok-part_of.ensures in
    rw c.in_ok-push.ensures.items (record { read = read; count = grind (arith, c.loop-field.invariant.count) })
