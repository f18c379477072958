-- What a new pass has seen: what holds of all passes, and of two of them together, holds of it.
use Rattle.std.proofs.Common.{◌≡◌, ℕ, ◌≤◌, nat_lt, Bool, true, false, ◌||◌, List, [], ◌∷◌, length, inl, inr, refl, sym, ap, subst, arith}
use Rattle.std.proofs.lemmas.Bool.{ltb-true, lt-ltb, cases_lt}
use Rattle.nv_plain.specs.Histories.{Answered}
use Rattle.nv_core.specs.state.Passes.{IsOneOf}
use Rattle.nv_core.specs.steps.Frames.{Covers, NewcomersCover}
use Rattle.nv_core.proofs.state.Choices.{when_true, when_false, not_both}
use Rattle.std.specs.Prelude.{fold}
use Rattle.nv_core.specs.state.Passes.{Pass}
use Rattle.nv_core.specs.state.Core.{Core, with_seen, newcomer, fresh, longer}

inherits_from : (P : Pass → Type 0) (passes : ℕ → Pass) → ((one other : Pass) → P one → P other → P (with_seen one other)) → ((n : ℕ) → P (passes n)) → (pass : Pass) → P pass → (ended : List ℕ)
    → P (fold (λ pass number. with_seen pass (passes number)) pass ended)
inherits_from P passes both all pass is [] = is
inherits_from P passes both all pass is (number ∷ rest) = inherits_from P passes both all (with_seen pass (passes number)) (both pass (passes number) is (all number)) rest

pub inherits : (P : Pass → Type 0) (core : Core) → ((one other : Pass) → P one → P other → P (with_seen one other)) → ((n : ℕ) → P (core.passes n)) → ((pass : Pass) → P pass → P (fresh pass)) → P (newcomer core)
inherits P core both all last = last _ (inherits_from P core.passes both all (core.passes 0) (all 0) core.ended)

-- ---- it has seen as much as each of them

covers_self : (one : Pass) → Covers one one
covers_self one = record { seen = omega arith; head = omega arith; tail = omega arith; stopped = λ is. is }

covers_all : (one two three : Pass) → Covers one two → Covers two three → Covers one three
covers_all one two three a b = record { seen = (let x = a.seen in let y = b.seen in omega (arith, x, y)); head = (let x = a.head in let y = b.head in omega (arith, x, y)); tail = (let x = a.tail in let y = b.tail in omega (arith, x, y)); stopped = λ is. b.stopped (a.stopped is) }

both_lengths : (a b : List Answered) → (length a ≤ length (longer a b)) × (length b ≤ length (longer a b))
both_lengths a b = go (nat_lt (length a) (length b)) refl
  where
    go : (test : Bool) → nat_lt (length a) (length b) ≡ test → (length a ≤ length (longer a b)) × (length b ≤ length (longer a b))
    go true e = let l = ltb-true (length a) (length b) e in let s : longer a b ≡ b = when_true (nat_lt (length a) (length b)) b a e in let h = ap length s in (omega (arith, l, h), omega (arith, h))
    go false e = let s : longer a b ≡ a = when_false (nat_lt (length a) (length b)) b a e in let h = ap length s in
        elim (cases_lt (length a) (length b)) [ inl l ↦ absurd (not_both (lt-ltb (length a) (length b) l) e) | inr l ↦ (omega (arith, h), omega (arith, l, h)) ]

or_left : (a b : Bool) → a ≡ true → (a || b) ≡ true
or_left true b is = refl
or_left false b is = absurd (not_both is refl)

or_right : (a b : Bool) → b ≡ true → (a || b) ≡ true
or_right true b is = refl
or_right false b is = is

covers_one : (a b : Pass) → Covers a (with_seen a b)
covers_one a b = record { seen = (both_lengths a.seen b.seen).0; head = omega arith; tail = omega arith; stopped = or_left a.stopped b.stopped }

covers_other : (a b : Pass) → Covers b (with_seen a b)
covers_other a b = record { seen = (both_lengths a.seen b.seen).1; head = omega arith; tail = omega arith; stopped = or_right a.stopped b.stopped }

covers_from : (passes : ℕ → Pass) (one pass : Pass) → Covers one pass → (ended : List ℕ) → Covers one (fold (λ pass number. with_seen pass (passes number)) pass ended)
covers_from passes one pass is [] = is
covers_from passes one pass is (number ∷ rest) = covers_from passes one (with_seen pass (passes number)) (covers_all one pass (with_seen pass (passes number)) is (covers_one pass (passes number))) rest

covers_taken : (passes : ℕ → Pass) (pass : Pass) (ended : List ℕ) (number : ℕ) → IsOneOf ended number → Covers (passes number) (fold (λ pass number. with_seen pass (passes number)) pass ended)
covers_taken passes pass (one ∷ rest) number (inl e) = subst (λ n. Covers (passes n) (fold (λ pass number. with_seen pass (passes number)) (with_seen pass (passes one)) rest)) (sym e) (covers_from passes (passes one) (with_seen pass (passes one)) (covers_other pass (passes one)) rest)
covers_taken passes pass (one ∷ rest) number (inr is) = covers_taken passes (with_seen pass (passes one)) rest number is
covers_taken passes pass [] number is = absurd is

as_fresh : (one pass : Pass) → Covers one pass → Covers one (fresh pass)
as_fresh one pass is = record { seen = is.seen; head = is.head; tail = is.tail; stopped = is.stopped }

pub newcomers_cover : NewcomersCover
newcomers_cover core number (inl zero_) = as_fresh (core.passes number) _ (covers_from core.passes (core.passes number) (core.passes 0) (subst (λ n. Covers (core.passes number) (core.passes n)) zero_ (covers_self (core.passes number))) core.ended)
newcomers_cover core number (inr is) = as_fresh (core.passes number) _ (covers_taken core.passes (core.passes 0) core.ended number is)
