use Rattle.std.proofs.Common.{refl, sym, arith}
use Rattle.std.proofs.lemmas.Result.{err_from_is_err_and}
use Rattle.nv_trace.specs.Grammar.{each_of, largest_count, number_of}
use Rattle.nv_trace.specs.declared.bad_line.Unsaid.TheVariants as unsaid
use Rattle.nv_trace.proofs.PartLists.{next_spelled, none_spelled}
use Rattle.nv_trace.proofs.spelling.each_len_of.Goals as goal

pub loop-field-init : goal.loop-field-init
unfolding each_of
loop-field-init c = rw c.new-lens.ensures.items (record { read = refl; count = refl })

pub returns-in_err-number-clause-bad : goal.returns-in_err-number-clause-bad
returns-in_err-number-clause-bad c =
    let p = err_from_is_err_and c.from_residual.result c.from_residual.ensures.1 in
    rw (p.1, p.2) (none_spelled (number_of largest_count) (λ field. field.now) c.args.fields.now c.loop-field.field-index _ c.loop-field.lens.items (unsaid.Bad c.in_err-number.field-0.0) c.loop-field-test.true c.loop-field.invariant.read (sym c.in_err-number.ensures.number))

pub loop-field-preserved : goal.loop-field-preserved
loop-field-preserved c =
    let read = next_spelled (number_of largest_count) (λ field. field.now) c.args.fields.now c.loop-field.field-index _ c.loop-field.lens.items c.in_ok-number.field-0 c.loop-field-test.true c.loop-field.invariant.read (sym c.in_ok-number.ensures.number) in
    rw c.in_ok-push.ensures.items (record { read = read; count = grind (arith, c.loop-field.invariant.count) })
