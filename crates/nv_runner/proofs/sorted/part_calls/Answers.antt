-- The last one of those that are left is put to its own.
use Rattle.std.proofs.Common.{◌≡◌, List, [], ◌∷◌, ◌++◌, map, sym, ap, subst, ◌∙◌, append-nil}
use Rattle.std.specs.Prelude.{IsPermutation}
use Rattle.std.specs.Option.{option_to_list}
use Rattle.std.proofs.lemmas.List.Sorted.{IsPermutation-refl}
use Rattle.nv_runner.specs.declared.answer.AnsweredCall.{AnsweredCall}
use Rattle.nv_runner.specs.Histories.{placed_calls, placed_in_answer}
use Rattle.nv_runner.specs.Lists.{made_calls}
use Rattle.nv_runner.specs.Sorted.{opened_call, opened_calls, opened_in_answer, placed_call, refused_call, refused_calls, refused_in_answer}
use Rattle.nv_runner.proofs.SortedLaws.{one_moved}
use Rattle.nv_runner.proofs.sorted.part_calls.Goals as goal

all_left : {X : Type 0} (all there : List X) → there ≡ [] → IsPermutation all (all ++ there)
all_left all there none = subst (IsPermutation all) (sym (ap (λ l. all ++ l) none ∙ append-nil all)) (IsPermutation-refl all)

pub loop-call-init : goal.loop-call-init
loop-call-init c =
    let made = made_calls c.args.answered.items in record {
      placed = all_left (placed_calls made) (map placed_call c.in_ok-placed.placed.items) (ap (map placed_call) c.in_ok-placed.ensures);
      refused = all_left (refused_calls made) (map refused_call c.new-refused.result.items) (ap (map refused_call) c.new-refused.ensures.items);
      open_calls = all_left (opened_calls made) (map opened_call c.new-open_calls.result.items) (ap (map opened_call) c.new-open_calls.ensures.items);
    }

pub loop-call-preserved : goal.loop-call-preserved
loop-call-preserved c =
    let made = made_calls c.args.answered.items in
    let before : List AnsweredCall = c.loop-call.answered.items in
    let left : List AnsweredCall = c.give_room_back.new.answered.items in
    let one : AnsweredCall = c.in-Some.call in
    let all : before ≡ left ++ one ∷ [] =
    c.pop.ensures.items ∙ ap (λ r. c.pop.new.self.items ++ option_to_list r) c.in-Some.is ∙ ap (λ (l : List AnsweredCall). l ++ one ∷ []) (sym c.give_room_back.ensures) in record {
      placed = one_moved (λ m. placed_in_answer m.call m.answer) (placed_calls made) (map placed_call c.loop-call.placed.items) (map placed_call c.put_one.new.placed.items) before left one all
          c.in_ok-put_one.ensures.placed c.loop-call.invariant.placed;
      refused = one_moved (λ m. refused_in_answer m.call m.answer) (refused_calls made) (map refused_call c.loop-call.refused.items) (map refused_call c.put_one.new.refused.items) before left one all
          c.in_ok-put_one.ensures.refused c.loop-call.invariant.refused;
      open_calls = one_moved (λ m. opened_in_answer m.call m.answer) (opened_calls made) (map opened_call c.loop-call.open_calls.items) (map opened_call c.put_one.new.open_calls.items) before left one all
          c.in_ok-put_one.ensures.open_calls c.loop-call.invariant.open_calls;
    }
