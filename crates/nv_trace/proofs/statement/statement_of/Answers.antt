use Rattle.std.proofs.Common.{◌==◌, ℕ, List, length, map, sym, ap, subst, ◌∙◌}
use Rattle.std.specs.List.{list_any}
use Rattle.nv_trace.specs.Lines.{fields_of}
use Rattle.nv_trace.specs.Said.{IsRead, said_by}
use Rattle.nv_trace.proofs.Fields.{any_mapped, empty_field, many_fields, no_empty_field}
use Rattle.nv_trace.proofs.statement.statement_of.Goals as goal

pub returns-in_default-clause-read : goal.returns-in_default-clause-read
returns-in_default-clause-read c = many_fields c.args.trace.now (fields_of c.args.line.now) c.in_default.ensures.parts

pub returns-then-has_empty-clause-read : goal.returns-then-has_empty-clause-read
returns-then-has_empty-clause-read c =
    let test : List ℕ → _ = λ field. length field == 0 in
    let same = ap (map (λ field. field.now)) c.as_slice-fields.ensures.value ∙ c.in-Some.ensures.parts in
    empty_field c.args.trace.now (fields_of c.args.line.now)
    (sym (ap (list_any test) same) ∙ sym (any_mapped test (λ field. field.now) c.as_slice-fields.result.now) ∙ sym c.has_empty.ensures ∙ c.if-has_empty.true)

pub returns-clause-read : goal.returns-clause-read
returns-clause-read c =
    let test : List ℕ → _ = λ field. length field == 0 in
    let same = ap (map (λ field. field.now)) c.as_slice-fields.ensures.value ∙ c.in-Some.ensures.parts in
    let some = no_empty_field c.args.trace.now (fields_of c.args.line.now)
    (sym (ap (list_any test) same) ∙ sym (any_mapped test (λ field. field.now) c.as_slice-fields.result.now) ∙ sym c.has_empty.ensures ∙ c.if-has_empty.false) in
    subst (IsRead c.by_fields.result) (ap (said_by c.args.trace.now) same ∙ sym some) c.by_fields.ensures.read
