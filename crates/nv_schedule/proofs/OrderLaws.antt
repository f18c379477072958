-- Orders: events that stand in a run in their order, and are all that each pass has in it, are the run.
use Rattle.std.proofs.Common.{◌≡◌, ℕ, ◌≤◌, ◌==◌, Bool, true, false, if◌then◌else◌, List, [], ◌∷◌, ◌++◌, length, refl, sym, ap, ◌∙◌, arith, eq-eqb, length-append}
use Rattle.std.proofs.lemmas.List.{append_assoc}
use Rattle.std.proofs.lemmas.List.Elements.{filter-append}
use Rattle.nv_core.specs.steps.Events.{Event, own}
use Rattle.nv_table.proofs.state.ViewLaws.{own_both}
use Rattle.nv_schedule.specs.Orders.{AreDeeds, InTurn, deeds, is_deed}

-- ---- longer runs

pub in_turn_same : (xs : List Event) → InTurn xs xs
in_turn_same [] = tt
in_turn_same (x ∷ xs) = ([], xs, refl, in_turn_same xs)

pub in_turn_behind : (xs before ys : List Event) → InTurn xs ys → InTurn xs (before ++ ys)
in_turn_behind [] before ys turn = tt
in_turn_behind (x ∷ xs) before ys turn = (before ++ turn.0, turn.1, ap (λ l. before ++ l) turn.2 ∙ sym (append_assoc before turn.0 (x ∷ turn.1)), turn.3)

pub in_turn_more : (xs ys zs : List Event) → InTurn xs ys → InTurn xs (ys ++ zs)
in_turn_more [] ys zs turn = tt
in_turn_more (x ∷ xs) ys zs turn = (turn.0, turn.1 ++ zs, ap (λ l. l ++ zs) turn.2 ∙ append_assoc turn.0 (x ∷ turn.1) zs, in_turn_more xs turn.1 zs turn.3)

pub in_turn_both : (xs ys zs : List Event) → InTurn xs ys → InTurn (xs ++ zs) (ys ++ zs)
in_turn_both [] ys zs turn = in_turn_behind zs ys zs (in_turn_same zs)
in_turn_both (x ∷ xs) ys zs turn = (turn.0, turn.1 ++ zs, ap (λ l. l ++ zs) turn.2 ∙ append_assoc turn.0 (x ∷ turn.1) zs, in_turn_both xs turn.1 zs turn.3)

-- ---- how many a pass has

own_here : (event : Event) (later : List Event) → own event.by (event ∷ later) ≡ event ∷ own event.by later
own_here event later = ap (λ (b : Bool). if b then event ∷ own event.by later else own event.by later) (eq-eqb event.by event.by refl)

own_fewer : (number : ℕ) (x : Event) (xs ys : List Event) (b : Bool) → length (own number xs) ≤ length (own number ys)
    → length (if b then x ∷ own number xs else own number xs) ≤ length (if b then x ∷ own number ys else own number ys)
own_fewer number x xs ys true few = omega (arith, few)
own_fewer number x xs ys false few = few

pub in_turn_few : (number : ℕ) (xs ys : List Event) → InTurn xs ys → length (own number xs) ≤ length (own number ys)
in_turn_few number [] ys turn = omega arith
in_turn_few number (x ∷ xs) ys turn =
    let again = in_turn_few number xs turn.1 turn.3 in
    let here = own_fewer number x xs turn.1 (x.by == number) again in
    let all = ap (λ l. length (own number l)) turn.2 ∙ ap length (own_both number turn.0 (x ∷ turn.1)) ∙ length-append (own number turn.0) (own number (x ∷ turn.1)) in
    omega (arith, here, all)

-- ---- nothing lies between

rest_same : (number : ℕ) (x : Event) (xs ys : List Event) (b : Bool) → (if b then x ∷ own number xs else own number xs) ≡ (if b then x ∷ own number ys else own number ys) → own number xs ≡ own number ys
rest_same number x xs ys true same = cc
rest_same number x xs ys false same = same

nothing_before : (x : Event) (xs ys after : List Event) → InTurn xs after → ((number : ℕ) → own number (x ∷ xs) ≡ own number ys) → (((number : ℕ) → own number xs ≡ own number after) → xs ≡ after)
    → (before : List Event) → ys ≡ before ++ x ∷ after → x ∷ xs ≡ ys
nothing_before x xs ys after turn same later [] is =
    ap (λ l. x ∷ l) (later (λ number. rest_same number x xs after (x.by == number) (same number ∙ ap (own number) is))) ∙ sym is
nothing_before x xs ys after turn same later (first ∷ before) is =
    let few = in_turn_few first.by (x ∷ xs) (before ++ x ∷ after) (in_turn_behind (x ∷ xs) before (x ∷ after) ([], after, refl, turn)) in
    let all = ap length (same first.by ∙ ap (own first.by) is ∙ own_here first (before ++ x ∷ after)) in
    absurd (omega (arith, few, all))

pub trail_whole : (xs ys : List Event) → InTurn xs ys → ((number : ℕ) → own number xs ≡ own number ys) → xs ≡ ys
trail_whole [] [] turn same = refl
trail_whole [] (y ∷ ys) turn same = let none = ap length (same y.by ∙ own_here y ys) in absurd (omega (arith, none))
trail_whole (x ∷ xs) ys turn same = nothing_before x xs ys turn.1 turn.3 same (trail_whole xs turn.1 turn.3) turn.0 turn.2

-- ---- deeds

deed_kept : (event : Event) (later : List Event) → is_deed event.act ≡ true → deeds (event ∷ later) ≡ event ∷ deeds later
deed_kept event later is = ap (λ (b : Bool). if b then event ∷ deeds later else deeds later) is

pub in_turn_deeds : (xs ys : List Event) → AreDeeds xs → InTurn xs ys → InTurn xs (deeds ys)
in_turn_deeds [] ys are turn = tt
in_turn_deeds (x ∷ xs) ys are turn = (
  deeds turn.0,
  deeds turn.1,
  ap deeds turn.2 ∙ filter-append (λ (event : Event). is_deed event.act) turn.0 (x ∷ turn.1) ∙ ap (λ l. deeds turn.0 ++ l) (deed_kept x turn.1 are.0),
  in_turn_deeds xs turn.1 are.1 turn.3,
)

pub deeds_all : (xs : List Event) → AreDeeds xs → deeds xs ≡ xs
deeds_all [] are = refl
deeds_all (x ∷ xs) are = deed_kept x xs are.0 ∙ ap (λ l. x ∷ l) (deeds_all xs are.1)

pub are_deeds_both : (xs ys : List Event) → AreDeeds xs → AreDeeds ys → AreDeeds (xs ++ ys)
are_deeds_both [] ys are are_too = are_too
are_deeds_both (x ∷ xs) ys are are_too = (are.0, are_deeds_both xs ys are.1 are_too)

-- a pass's own deeds are the deeds of its own events
own_deeds_at : (number : ℕ) (event : Event) (later mine : List Event) (deed own_one : Bool)
    → (if own_one then (if deed then event ∷ mine else mine) else mine) ≡ (if deed then (if own_one then event ∷ mine else mine) else mine)
own_deeds_at number event later mine true true = refl
own_deeds_at number event later mine true false = refl
own_deeds_at number event later mine false true = refl
own_deeds_at number event later mine false false = refl

own_of_if : (number : ℕ) (event : Event) (later : List Event) (deed : Bool)
    → own number (if deed then event ∷ later else later) ≡ (if deed then (if event.by == number then event ∷ own number later else own number later) else own number later)
own_of_if number event later true = refl
own_of_if number event later false = refl

deeds_of_if : (event : Event) (later : List Event) (own_one : Bool)
    → deeds (if own_one then event ∷ later else later) ≡ (if own_one then (if is_deed event.act then event ∷ deeds later else deeds later) else deeds later)
deeds_of_if event later true = refl
deeds_of_if event later false = refl

pub own_deeds : (number : ℕ) (run : List Event) → own number (deeds run) ≡ deeds (own number run)
own_deeds number [] = refl
own_deeds number (event ∷ later) =
    own_of_if number event (deeds later) (is_deed event.act)
    ∙ ap (λ l. if is_deed event.act then (if event.by == number then event ∷ l else l) else l) (own_deeds number later)
    ∙ sym (own_deeds_at number event later (deeds (own number later)) (is_deed event.act) (event.by == number))
    ∙ sym (deeds_of_if event (own number later) (event.by == number))

pub trail_is : (trail run : List Event) → InTurn trail run → AreDeeds trail → ((number : ℕ) → own number trail ≡ deeds (own number run)) → deeds run ≡ trail
trail_is trail run turn are same = sym (trail_whole trail (deeds run) (in_turn_deeds trail run are turn) (λ number. same number ∙ sym (own_deeds number run)))
