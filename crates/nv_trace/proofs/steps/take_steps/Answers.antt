use Rattle.std.proofs.Common.{◌≡◌, Ok, ap, sym, ◌∙◌, subst, true, false}
use Rattle.std.specs.Option.{ok_or}
use Rattle.std.proofs.lemmas.Result.{err_from_is_err_and}
use Rattle.nv_trace.specs.Forms.{has_steps}
use Rattle.nv_trace.specs.Grammar.{and_then}
use Rattle.nv_trace.specs.Lines.{fields_of}
use Rattle.nv_trace.specs.Reading.{with_tokens}
use Rattle.nv_trace.specs.Said.{IsUnsaid}
use Rattle.nv_trace.specs.Tokens.{tokens_of}
use Rattle.nv_trace.specs.declared.bad_line.Why.TheVariants.{Form}
use Rattle.nv_trace.proofs.Schedules.{no_steps_read, steps_read, steps_refused, unsaid_on}
use Rattle.nv_trace.proofs.steps.take_steps.Goals as goal

pub returns-in_default-clause-bad : goal.returns-in_default-clause-bad
returns-in_default-clause-bad c = no_steps_read c.args.trace.now c.args.line.now c.in_default.ensures c.in_ok-check_line.ensures.clear

pub returns-then-not-has_steps-clause-bad : goal.returns-then-not-has_steps-clause-bad
returns-then-not-has_steps-clause-bad c =
    let has : has_steps c.args.trace.now.form ≡ false = cc in
    steps_refused c.args.trace.now c.args.line.now c.in-Some.fields.now c.in-Some.ensures c.in_ok-check_line.ensures.clear has

pub returns-in_err-tokens-clause-bad : goal.returns-in_err-tokens-clause-bad
returns-in_err-tokens-clause-bad c =
    let p = err_from_is_err_and c.from_residual-in_err-tokens.result c.from_residual-in_err-tokens.ensures.1 in
    let has : has_steps c.args.trace.now.form ≡ true = cc in
    let read = steps_read c.args.trace.now c.args.line.now c.in-Some.fields.now c.in-Some.ensures c.in_ok-check_line.ensures.clear has in
    let told = ok_or (tokens_of (fields_of c.in-Some.fields.now)) Form in
    rw (p.1, p.2) (subst (λ told. IsUnsaid told c.in_err-tokens.field-0.0) (sym read) (unsaid_on told (λ tokens. Ok (with_tokens c.args.trace.now tokens)) c.in_err-tokens.field-0.0 c.in_err-tokens.ensures.bad))

pub returns-clause-read : goal.returns-clause-read
returns-clause-read c =
    let has : has_steps c.args.trace.now.form ≡ true = cc in
    let read = steps_read c.args.trace.now c.args.line.now c.in-Some.fields.now c.in-Some.ensures c.in_ok-check_line.ensures.clear has in
    read ∙ ap (λ tokens. and_then (λ tokens. Ok (with_tokens c.args.trace.now tokens)) (ok_or tokens Form)) c.in_ok-tokens.ensures.read
    ∙ ap (λ tokens. Ok (with_tokens c.args.trace.now tokens)) (sym c.deref.ensures.value) ∙ ap Ok (sym c.in_ok-push_tokens.ensures.pushed)
