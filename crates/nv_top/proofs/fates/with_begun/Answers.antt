use Rattle.std.proofs.Common.{◌≡◌, ◌++◌, ◌∙◌, List, ap, arith, map, rules, subst, sym, take}
use Rattle.std.specs.Prelude.{IsPermutation}
use Rattle.std.proofs.lemmas.List.{take_all}
use Rattle.std.proofs.lemmas.List.Sorted.{IsNonDecreasingBy-from_sort_by_key, IsPermutation-map}
use Rattle.nv_runner.specs.Reports.{OpenCall}
use Rattle.nv_runner.proofs.SortedLaws.{falls_not}
use Rattle.nv_top.specs.Fates.{begun_call, fated}
use Rattle.nv_top.specs.Outcomes.{fated_call}
use Rattle.nv_top.specs.declared.outcome.Fated.{Fated}
use Rattle.nv_top.proofs.FateLemmas.{none_begun, shown_none, shown_some, some_begun}
use Rattle.nv_top.proofs.fates.with_begun.Goals as goal

pub returns-then-is_empty : goal.returns-then-is_empty
returns-then-is_empty c first groups these same =
    shown_none first groups these (map (λ call. call.now) c.args.begun.now) (map fated_call c.args.all.items)
    (none_begun (λ call. call.now) c.args.begun.now (sym c.is_empty.ensures ∙ c.if-is_empty.true)) same

pub returns : goal.returns
returns c first groups these same =
    let begun = map (λ call. call.now) c.args.begun.now in
    let shown : List Fated = c.sort_by_key.new.self.items in
    let all = map (fated first groups) these ++ map begun_call begun in
    let whole : take c.loop-call.call-index c.args.begun.now ≡ c.args.begun.now = take_all c.loop-call.call-index c.args.begun.now (omega arith) in
    let before : map fated_call c.loop-call.all.items ≡ all = c.loop-call.invariant ∙ ap (λ calls. calls ++ map begun_call (map (λ call. call.now) (take c.loop-call.call-index c.args.begun.now))) same
    ∙ ap (λ calls. map (fated first groups) these ++ map begun_call (map (λ call. call.now) calls)) whole in
    shown_some first groups these begun (map fated_call shown) (some_begun (λ call. call.now) c.args.begun.now (sym c.is_empty.ensures ∙ c.if-is_empty.false))
    (subst (λ (l : List OpenCall). IsPermutation l (map fated_call shown)) before (IsPermutation-map fated_call c.loop-call.all.items shown c.in_ok-sort_by_key.ensures.permutation))
    (falls_not fated_call (λ (o : OpenCall). o.call.line) shown (IsNonDecreasingBy-from_sort_by_key (λ (one : Fated). one.call.now.line) _ c.in_ok-sort_by_key.ensures.sorted (λ a r q k. search rules)))
