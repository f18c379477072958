use Rattle.std.proofs.Common.{◌≡◌, length, map, arith}
use Rattle.std.proofs.lemmas.List.{length-map}
use Rattle.nv_trace.proofs.Fields.{no_form}
use Rattle.nv_trace.proofs.statement.by_fields.Goals as goal
use Rattle.nv_trace.proofs.statement.by_fields.Goals.{in_default-via-then-fields-lt1, in_default-via-else-fields-lt1+else-fields-lt2+else-fields-lt3+else-fields-lt4+else-fields-lt5+else-fields-lt6+else-fields-lt7}

pub returns-in_default-clause-read : goal.returns-in_default-clause-read
returns-in_default-clause-read c =
    let fields = map (λ field. field.now) c.args.fields.now in
    let count : length fields ≡ length c.args.fields.now = length-map c.args.fields.now (λ field. field.now) in
    elim c.in_default.branch [
      | in_default-via-then-fields-lt1 w ↦ no_form c.args.trace.now fields (λ e. grind (arith, e, count)) (λ e. grind (arith, e, count)) (λ e. grind (arith, e, count)) (λ e. grind (arith, e, count)) (λ e. grind (arith, e, count)) (λ e. grind (arith, e, count))
      | in_default-via-else-fields-lt1+else-fields-lt2+else-fields-lt3+else-fields-lt4+else-fields-lt5+else-fields-lt6+else-fields-lt7 w ↦
          no_form c.args.trace.now fields (λ e. grind (arith, e, count)) (λ e. grind (arith, e, count)) (λ e. grind (arith, e, count)) (λ e. grind (arith, e, count)) (λ e. grind (arith, e, count)) (λ e. grind (arith, e, count))
    ]
