use Rattle.std.proofs.Common.{◌≡◌, arith}
use Rattle.std.proofs.lemmas.List.{take_all}
use Rattle.nv_trace.specs.Grammar.{value_of}
use Rattle.nv_trace.proofs.Numbers.{next_value}
use Rattle.nv_trace.proofs.spelling.value.Goals as goal

pub returns-in_err-checked_mul : goal.returns-in_err-checked_mul
returns-in_err-checked_mul c =
    let least = next_value c.args.digits.now c.loop-digit.digit-index c.loop-digit-test.true in
    rw c.from_residual.ensures (λ h. c.in_err-checked_mul.ensures (omega arith))

pub returns-in_err-value : goal.returns-in_err-value
returns-in_err-value c =
    let least = next_value c.args.digits.now c.loop-digit.digit-index c.loop-digit-test.true in
    rw c.from_residual-in_err-value.ensures (λ h. c.in_err-value.ensures (omega arith))

pub returns : goal.returns
returns c =
    let all = take_all c.loop-digit.digit-index c.args.digits.now c.loop-digit-test.false in
    let whole : c.loop-digit.value ≡ value_of c.args.digits.now = rw all at c.loop-digit.invariant.so_far in
    (omega arith, whole)
