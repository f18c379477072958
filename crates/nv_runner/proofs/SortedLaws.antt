-- Sorted: each answered call is one that has a place, one that was refused or one that was left open.
use Rattle.std.proofs.Common.{◌≡◌, ℕ, List, [], ◌∷◌, ◌++◌, map, sym, ap, subst, ◌∙◌, arith, append_assoc}
use Rattle.std.specs.Prelude.{IsPermutation}
use Rattle.std.specs.List.{flat_map}
use Rattle.std.specs.List.Sorted.{IsNonDecreasingBy}
use Rattle.std.proofs.lemmas.List.{get_or-map, length-map, map-append}
use Rattle.std.proofs.lemmas.List.Concat.{flat_map-append}
use Rattle.std.proofs.lemmas.List.Sorted.{IsPermutation-refl, IsPermutation-cons, IsPermutation-trans, IsPermutation-sym, IsPermutation-middle, IsPermutation-append, IsPermutation-append_comm, IsPermutation-append_right, IsPermutation-map}
use Rattle.nv_trace.specs.declared.trace_call.TracedCall.{TracedCall}
use Rattle.nv_runner.specs.declared.answer.Answer.{Answer}
use Rattle.nv_runner.specs.declared.answer.AnsweredCall.{AnsweredCall}
use Rattle.nv_runner.specs.declared.answer.Answer.TheVariants.{Placed, Refused, Open}
use Rattle.nv_runner.specs.Histories.{PlacedCall, placed_calls, placed_in_answer}
use Rattle.nv_runner.specs.Lists.{MadeCall, made_call, made_calls}
use Rattle.nv_runner.specs.Sorted.{OpenedCall, RefusedCall, opened_calls, opened_in_answer, opened_made, placed_made, refused_calls, refused_in_answer, refused_made}

one_parted : (call : TracedCall) (answer : Answer) (made : List MadeCall) (placed : List PlacedCall) (refused : List RefusedCall) (opened : List OpenedCall)
    → IsPermutation made (map placed_made placed ++ map refused_made refused ++ map opened_made opened)
    → IsPermutation (record { call = call; answer = answer } ∷ made)
    (map placed_made (placed_in_answer call answer ++ placed) ++ map refused_made (refused_in_answer call answer ++ refused) ++ map opened_made (opened_in_answer call answer ++ opened))
one_parted call (Placed place reply) made placed refused opened parted =
    IsPermutation-cons (record { call = call; answer = Placed place reply }) made (map placed_made placed ++ map refused_made refused ++ map opened_made opened) parted
one_parted call (Refused refusal) made placed refused opened parted =
    let one : MadeCall = record { call = call; answer = Refused refusal } in
    let ones = map placed_made placed in
    let others = map refused_made refused in
    let last = map opened_made opened in
    IsPermutation-trans (one ∷ made) ((one ∷ (ones ++ others)) ++ last) ((ones ++ one ∷ others) ++ last) (IsPermutation-cons one made (ones ++ others ++ last) parted)
    (IsPermutation-append (one ∷ (ones ++ others)) (ones ++ one ∷ others) last last (IsPermutation-sym (ones ++ one ∷ others) (one ∷ (ones ++ others)) (IsPermutation-middle ones one others))
    (IsPermutation-refl last))
one_parted call (Open number) made placed refused opened parted =
    let one : MadeCall = record { call = call; answer = Open number } in
    let ones = map placed_made placed ++ map refused_made refused in
    let others = map opened_made opened in
    IsPermutation-trans (one ∷ made) (one ∷ (ones ++ others)) (ones ++ one ∷ others) (IsPermutation-cons one made (ones ++ others) parted)
    (IsPermutation-sym (ones ++ one ∷ others) (one ∷ (ones ++ others)) (IsPermutation-middle ones one others))

parted : (made : List MadeCall) → IsPermutation made (map placed_made (placed_calls made) ++ map refused_made (refused_calls made) ++ map opened_made (opened_calls made))
parted [] = IsPermutation-refl []
parted (m ∷ later) = one_parted m.call m.answer later (placed_calls later) (refused_calls later) (opened_calls later) (parted later)

-- in whatever order
pub listed : (made : List MadeCall) (placed : List PlacedCall) (refused : List RefusedCall) (opened : List OpenedCall) → IsPermutation (placed_calls made) placed → IsPermutation (refused_calls made) refused
    → IsPermutation (opened_calls made) opened → IsPermutation made (map placed_made placed ++ map refused_made refused ++ map opened_made opened)
listed made placed refused opened ones others left_open =
    let from = map placed_made (placed_calls made) ++ map refused_made (refused_calls made) in
    let to = map placed_made placed ++ map refused_made refused in
    IsPermutation-trans made (from ++ map opened_made (opened_calls made)) (to ++ map opened_made opened) (parted made)
    (IsPermutation-append from to (map opened_made (opened_calls made)) (map opened_made opened)
    (IsPermutation-append (map placed_made (placed_calls made)) (map placed_made placed) (map refused_made (refused_calls made)) (map refused_made refused)
    (IsPermutation-map placed_made (placed_calls made) placed ones) (IsPermutation-map refused_made (refused_calls made) refused others))
    (IsPermutation-map opened_made (opened_calls made) opened left_open))

moved_over : {X : Type 0} (all left one there : List X) → IsPermutation all ((left ++ one) ++ there) → IsPermutation all (left ++ (there ++ one))
moved_over all left one there is =
    IsPermutation-trans all (left ++ (one ++ there)) (left ++ (there ++ one)) (subst (IsPermutation all) (append_assoc left one there) is)
    (IsPermutation-append_right left (one ++ there) (there ++ one) (IsPermutation-append_comm one there))

-- what the last one of some calls gives goes from what is left to what is there
pub one_moved : {X : Type 0} (f : MadeCall → List X) (all there more : List X) (before left : List AnsweredCall) (one : AnsweredCall) → before ≡ left ++ one ∷ []
    → more ≡ there ++ flat_map f (made_call one ∷ []) → IsPermutation all (flat_map f (made_calls before) ++ there) → IsPermutation all (flat_map f (made_calls left) ++ more)
one_moved f all there more before left one is behind were =
    let ones = flat_map f (made_call one ∷ []) in
    let rest = flat_map f (made_calls left) in
    let parts : flat_map f (made_calls before) ≡ rest ++ ones =
    ap (λ l. flat_map f (made_calls l)) is ∙ ap (flat_map f) (map-append made_call left (one ∷ [])) ∙ flat_map-append f (made_calls left) (made_call one ∷ []) in
    subst (λ l. IsPermutation all (rest ++ l)) (sym behind) (moved_over all rest ones there (subst (λ l. IsPermutation all (l ++ there)) parts were))

-- what doesn't fall by what is read of each doesn't fall by the same
pub falls_not : {X Y : Type 0} (f : X → Y) (key : Y → ℕ) (xs : List X) → IsNonDecreasingBy (λ x. key (f x)) xs → IsNonDecreasingBy key (map f xs)
falls_not f key [] rises i j d before within = absurd (omega arith)
falls_not f key (x ∷ xs) rises i j d before within =
    let long = length-map (x ∷ xs) f in
    let at_i = get_or-map f (x ∷ xs) i x d (omega arith) in
    let at_j = get_or-map f (x ∷ xs) j x d (omega arith) in
    let up = rises i j x before (omega arith) in
    let key_i = ap key at_i in
    let key_j = ap key at_j in
    omega arith
