use Rattle.std.proofs.Common.{◌≡◌, ◌∙◌, ℕ, List, map}
use Rattle.std.proofs.lemmas.Result.{IfOk-weaker}
use Rattle.nv_runner.specs.KeptRounds.{kept_open_call}
use Rattle.nv_runner.specs.Sorted.{opened_call}
use Rattle.nv_runner.specs.declared.sorted.Open.{Open}
use Rattle.nv_top.specs.Fates.{AreShownOpen, fated}
use Rattle.nv_top.specs.Outcomes.{fated_call}
use Rattle.nv_top.proofs.FateLemmas.{fated_these}
use Rattle.nv_top.proofs.fates.open_fates.Goals as goal

pub returns : goal.returns
returns c =
    let first = c.args.found.now.first in
    let groups = c.args.found.now.groups in
    let begun = map (λ call. call.now) c.args.begun.now in
    IfOk-weaker c.with_begun.result
    (λ all. (first : ℕ) (groups : List ℕ) (writes : List Open) → map fated_call c.in_ok-all.all.items ≡ map (fated first groups) writes → AreShownOpen first groups writes begun (map fated_call all.items))
    (λ all. (these : List Open) → map kept_open_call c.args.writes.now ≡ map opened_call these → AreShownOpen first groups these begun (map fated_call all.items))
    (λ all shown these same. shown first groups these (c.in_ok-all.ensures ∙ fated_these first groups these (map kept_open_call c.args.writes.now) same))
    c.with_begun.ensures
