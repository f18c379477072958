use Rattle.std.proofs.Common.{◌≡◌, length, map, ap, ◌∙◌, subst, arith}
use Rattle.std.proofs.lemmas.List.{take_all}
use Rattle.std.proofs.lemmas.Simd.{map-map}
use Rattle.std.specs.Fmt.{decimal}
use Rattle.std.specs.Prelude.{IfOk, string_bytes}
use Rattle.nv_trace.specs.Report.{listed}
use Rattle.nv_trace.proofs.report.part_lens_text.Goals as goal

pub returns : goal.returns
returns c =
    let parts = c.args.parts.now in
    let all = take_all c.loop-part.part-index parts (omega (arith, c.loop-part-test.false)) in
    let lens = c.deref.ensures.value ∙ c.loop-part.invariant ∙ ap (map (λ part. length part)) all in
    subst (λ texts. IfOk c.lens_text.result (λ text. string_bytes text ≡ listed texts)) (ap (map decimal) lens ∙ map-map decimal (λ part. length part) parts) c.lens_text.ensures
