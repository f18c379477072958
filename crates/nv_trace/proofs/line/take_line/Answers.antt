use Rattle.std.proofs.Common.{◌≡◌, ◌+◌, Ok, ap, sym, ◌∙◌, subst, false}
use Rattle.std.proofs.lemmas.Result.{err_from_is_err_and}
use Rattle.nv_trace.specs.Grammar.{and_then}
use Rattle.nv_trace.specs.Lines.{fields_of}
use Rattle.nv_trace.specs.Reading.{is_skipped, with_statement}
use Rattle.nv_trace.specs.Said.{IsUnsaid, said}
use Rattle.nv_trace.specs.Shape.{IsNumberedBelow}
use Rattle.nv_trace.proofs.Numbered.{numbered_on}
use Rattle.nv_trace.proofs.Schedules.{other_read, unsaid_on}
use Rattle.nv_trace.proofs.line.take_line.Goals as goal

pub returns-in_err-statement-clause-bad : goal.returns-in_err-statement-clause-bad
returns-in_err-statement-clause-bad c =
    let p = err_from_is_err_and c.from_residual-in_err-statement.result c.from_residual-in_err-statement.ensures.1 in
    let trace = c.args.trace.now in
    let line = c.args.line.now in
    let skipped : is_skipped line ≡ false = cc in
    let read = other_read trace c.args.number line c.requires skipped c.in_ok-check_line.ensures.clear in
    rw (p.1, p.2) (subst (λ told. IsUnsaid told c.in_err-statement.field-0.0) (sym read)
    (unsaid_on (said trace (fields_of line)) (λ statement. Ok (with_statement trace c.args.number statement)) c.in_err-statement.field-0.0 c.in_err-statement.ensures.read))

pub returns-clause-read : goal.returns-clause-read
returns-clause-read c =
    let trace = c.args.trace.now in
    let line = c.args.line.now in
    let skipped : is_skipped line ≡ false = cc in
    other_read trace c.args.number line c.requires skipped c.in_ok-check_line.ensures.clear
    ∙ ap (and_then (λ statement. Ok (with_statement trace c.args.number statement))) c.in_ok-statement.ensures.read ∙ ap Ok (sym c.in_ok-push.ensures.pushed)

pub returns-clause-numbered : goal.returns-clause-numbered
returns-clause-numbered c = λ numbered.
    subst (IsNumberedBelow (c.args.number + 1)) (sym c.in_ok-push.ensures.pushed)
    (numbered_on c.args.trace.now c.args.number c.in_ok-statement.statement numbered)
