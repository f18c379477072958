use Rattle.std.proofs.Common.{◌≡◌, ◌∙◌, ℕ, List, ap, arith, map, take}
use Rattle.std.proofs.lemmas.List.{take_all}
use Rattle.std.proofs.lemmas.Result.{IfOk-weaker}
use Rattle.nv_runner.specs.declared.sorted.Open.{Open}
use Rattle.nv_top.specs.Fates.{AreShownOpen, fated}
use Rattle.nv_top.specs.Outcomes.{fated_call}
use Rattle.nv_top.proofs.fates.life_fates.Goals as goal

pub returns : goal.returns
returns c =
    let first = c.args.found.now.first in
    let groups = c.args.found.now.groups in
    let begun = map (λ call. call.now) c.args.begun.now in
    let whole : take c.loop-one.one-index c.args.writes.now ≡ c.args.writes.now = take_all c.loop-one.one-index c.args.writes.now (omega arith) in
    IfOk-weaker c.with_begun.result
    (λ all. (first : ℕ) (groups : List ℕ) (writes : List Open) → map fated_call c.loop-one.all.items ≡ map (fated first groups) writes → AreShownOpen first groups writes begun (map fated_call all.items))
    (λ all. AreShownOpen first groups c.args.writes.now begun (map fated_call all.items))
    (λ all shown. shown first groups c.args.writes.now (c.loop-one.invariant ∙ ap (map (fated first groups)) whole))
    c.with_begun.ensures
