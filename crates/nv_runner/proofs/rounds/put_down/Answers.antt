-- What the last one that is left was told stands behind the others.
use Rattle.std.proofs.Common.{◌≡◌, ◌+◌, List, ◌∷◌, [], ◌++◌, length, sym, ap, subst, ◌∙◌, arith, append-nil, length-append}
use Rattle.std.specs.Prelude.{IsOk, IsPermutation, Result, is_ok, if◌then◌else◌}
use Rattle.std.specs.List.{flat_map}
use Rattle.std.specs.Option.{option_to_list}
use Rattle.std.proofs.lemmas.List.{length-map, map-append}
use Rattle.std.proofs.lemmas.List.Concat.{flat_map-append}
use Rattle.std.proofs.lemmas.List.Sorted.{IsPermutation-trans}
use Rattle.nv_runner.specs.declared.call_list.CallList.{CallList}
use Rattle.nv_runner.specs.Lists.{made_call, made_calls}
use Rattle.nv_runner.specs.Owners.{list_made}
use Rattle.nv_runner.proofs.RoundLists.{moved_behind}
use Rattle.nv_runner.proofs.rounds.put_down.Goals as goal

-- what is appended where there is room
appended : {A E : Type 0} {X : Type 0} (result : Result A E) (new more none : List X) → IsOk result → new ≡ (if is_ok result then more else none) → new ≡ more
appended result new more none ok is = is ∙ ap (λ b. if b then more else none) ok

pub loop-list-preserved : goal.loop-list-preserved
loop-list-preserved c =
    let list : CallList = c.in-Some.list in
    let before : List CallList = c.loop-list.lists.items in
    let front : List CallList = c.pop.new.self.items in
    let old = c.loop-list.answered.items in
    let more = c.into_answered-more.result.items in
    let made = list_made list in
    let all : before ≡ front ++ list ∷ [] = c.pop.ensures.items ∙ ap (λ r. front ++ option_to_list r) c.in-Some.is in
    let split : flat_map list_made before ≡ flat_map list_made front ++ (made ++ []) = ap (flat_map list_made) all ∙ flat_map-append list_made front (list ∷ []) in
    let same : made_calls more ≡ made = ap (λ v. made_calls v.items) c.into_answered-more.ensures in
    let long : length more ≡ length made = sym (length-map more made_call) ∙ ap length same in
    let many : length (flat_map list_made before) ≡ length (flat_map list_made front) + length made =
    ap length split ∙ length-append (flat_map list_made front) (made ++ []) ∙ ap (λ l. length (flat_map list_made front) + length l) (append-nil made) in
    let items : c.append.new.self.items ≡ old ++ more = appended c.append.result c.append.new.self.items (old ++ more) old (c.append.ensures.succeeds (omega (arith, many, long, c.loop-list.invariant.room))) c.append.ensures.items in
    let joined = length-append old more in
    let whole : made_calls c.append.new.self.items ≡ made_calls old ++ made = ap made_calls items ∙ map-append made_call old more ∙ ap (λ l. made_calls old ++ l) same in
    record {
      room = omega (arith, many, long, ap length items, joined, c.loop-list.invariant.room, c.append.ensures.capacity);
      put =
          IsPermutation-trans (flat_map list_made front ++ made_calls c.append.new.self.items) (flat_map list_made before ++ made_calls old) (flat_map list_made c.args.lists.items ++ made_calls c.args.answered.now.items)
          (subst (λ l. IsPermutation (flat_map list_made front ++ l) (flat_map list_made before ++ made_calls old)) (sym whole)
          (subst (λ l. IsPermutation (flat_map list_made front ++ (made_calls old ++ made)) (l ++ made_calls old)) (sym split) (moved_behind (flat_map list_made front) (made_calls old) made)))
          c.loop-list.invariant.put;
    }
