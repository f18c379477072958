-- Laws about calls by keys: those of some faults are the same calls in another order.
use Rattle.std.proofs.Common.{◌≡◌, ◌≢◌, ℕ, zero, suc, ◌+◌, ◌<◌, ◌≤◌, ◌==◌, ◌&&◌, Bool, true, false, if◌then◌else◌, cond, List, [], ◌∷◌, ◌++◌, map, filter, sum_by, IsPermutation, inl, inr, refl, sym, ap, subst, ◌∙◌, arith, eq-eqb, append-nil}
use Rattle.std.specs.List.{AllByRecursion}
use Rattle.std.proofs.lemmas.Bool.{cases_Bool, cases_eq, cases_lt, and_from, and_parts, eqb-true}
use Rattle.std.proofs.lemmas.List.{map-append}
use Rattle.std.proofs.lemmas.List.Elements.{filter-append, All-from_recursion, recursion_from_All}
use Rattle.std.proofs.lemmas.List.Sorted.{All-permutation, sum_by-IsPermutation}
use Rattle.std.proofs.lemmas.List.Sums.{sum_by-append, sum_by-cons}
use Rattle.nv_plain.specs.declared.call.FileCall.{FileCall}
use Rattle.nv_core.specs.state.Passes.{Fault, IsOneOf}
use Rattle.nv_core.specs.crash.CommutingWrites.{IsReordered}
use Rattle.nv_core.specs.log.LivePieces.{rising, call_if}

-- ---- in another order

all_of : {X : Type 0} (P : X → Type 0) (xs : List X) → ((x : X) → IsOneOf xs x → P x) → AllByRecursion P xs
all_of P [] each = tt
all_of P (first ∷ rest) each = (each first (inl refl), all_of P rest (λ x one. each x (inr one)))

all_at : {X : Type 0} (P : X → Type 0) (xs : List X) → AllByRecursion P xs → (x : X) → IsOneOf xs x → P x
all_at P [] all x one = absurd one
all_at P (first ∷ rest) all x (inl is) = subst P (sym is) all.0
all_at P (first ∷ rest) all x (inr later) = all_at P rest all.1 x later

pub moved_one : {X : Type 0} (xs ys : List X) → IsPermutation xs ys → (x : X) → IsOneOf ys x → IsOneOf xs x
moved_one xs ys moved =
    all_at (IsOneOf xs) ys (recursion_from_All (IsOneOf xs) ys (All-permutation (IsOneOf xs) xs ys moved (All-from_recursion (IsOneOf xs) xs (all_of (IsOneOf xs) xs (λ x one. one)))))

-- ---- how many of some faults pass a test and have a first number

module _ (kept : Fault → Bool) where
  abbrev counted : ℕ → Fault → ℕ
  counted n fault = if kept fault && fault.first == n then 1 else 0

  abbrev pub count : ℕ → List Fault → ℕ
  count n faults = sum_by (counted n) faults

  counted_is : (n : ℕ) (fault : Fault) → kept fault ≡ true → fault.first ≡ n → counted n fault ≡ 1
  counted_is n fault is first = ap (λ b. if b then 1 else 0) (and_from (kept fault) (fault.first == n) is (eq-eqb fault.first n first))

  counted_some : (n : ℕ) (fault : Fault) → 1 ≤ counted n fault → (kept fault ≡ true) × (fault.first ≡ n)
  counted_some n fault some = go (kept fault && fault.first == n) refl some
    where
      go : (test : Bool) → (kept fault && fault.first == n) ≡ test → 1 ≤ (if test then 1 else 0) → (kept fault ≡ true) × (fault.first ≡ n)
      go true is more = let both = and_parts (kept fault) (fault.first == n) is in (both.0, eqb-true fault.first n both.1)
      go false is more = absurd (omega (arith, more))

  pub counted_there : (n : ℕ) (faults : List Fault) (fault : Fault) → IsOneOf faults fault → kept fault ≡ true → fault.first ≡ n → 1 ≤ count n faults
  counted_there n [] fault one is first = absurd one
  counted_there n (other ∷ rest) fault (inl same) is first =
      let more = sum_by-cons (counted n) other rest in
      let here = ap (counted n) (sym same) ∙ counted_is n fault is first in omega (arith, more, here)
  counted_there n (other ∷ rest) fault (inr later) is first =
      let more = sum_by-cons (counted n) other rest in
      let behind = counted_there n rest fault later is first in omega (arith, more, behind)

  pub moved_count : (n : ℕ) (faults others : List Fault) → IsPermutation faults others → count n others ≡ count n faults
  moved_count n faults others moved = sum_by-IsPermutation (counted n) faults others moved

  -- one of them, and those beside it
  pub record IsFound (n : ℕ) (faults : List Fault) : Type 0 where
    pub before : List Fault
    pub fault : Fault
    pub behind : List Fault
    pub are : faults ≡ before ++ fault ∷ behind
    pub one : IsOneOf faults fault
    pub is : kept fault ≡ true
    pub first : fault.first ≡ n

  pub found : (n : ℕ) (faults : List Fault) → 1 ≤ count n faults → IsFound n faults
  found n [] some = absurd (omega (arith, some))
  found n (fault ∷ rest) some =
      let more = sum_by-cons (counted n) fault rest in
      elim (cases_lt 0 (counted n fault)) [
        | inl here ↦ let both = counted_some n fault here in record { before = []; fault = fault; behind = rest; are = refl; one = inl refl; is = both.0; first = both.1 }
        | inr none ↦
            let later = found n rest (omega (arith, some, more, none)) in
            record { before = fault ∷ later.before; fault = later.fault; behind = later.behind; are = ap (λ l. fault ∷ l) later.are; one = inr later.one; is = later.is; first = later.first }
      ]

  count_parts : (n : ℕ) (before : List Fault) (fault : Fault) (behind : List Fault) → count n (before ++ fault ∷ behind) ≡ counted n fault + count n (before ++ behind)
  count_parts n before fault behind =
      let a = sum_by-append (counted n) before (fault ∷ behind) in
      let b = sum_by-cons (counted n) fault behind in
      let c = sum_by-append (counted n) before behind in omega (arith, a, b, c)

  -- ---- their calls

  abbrev pub writes : List Fault → List FileCall
  writes faults = map (λ fault. fault.call) (filter kept faults)

  writes_parts : (before : List Fault) (fault : Fault) (behind : List Fault) → kept fault ≡ true → writes (before ++ fault ∷ behind) ≡ writes before ++ fault.call ∷ writes behind
  writes_parts before fault behind is =
      ap (map (λ (f : Fault). f.call)) (filter-append kept before (fault ∷ behind))
      ∙ map-append (λ (f : Fault). f.call) (filter kept before) (filter kept (fault ∷ behind))
      ∙ ap (λ test. writes before ++ map (λ (f : Fault). f.call) (cond test (fault ∷ filter kept behind) (filter kept behind))) is

  writes_both : (before behind : List Fault) → writes (before ++ behind) ≡ writes before ++ writes behind
  writes_both before behind = ap (map (λ (f : Fault). f.call)) (filter-append kept before behind) ∙ map-append (λ (f : Fault). f.call) (filter kept before) (filter kept behind)

  no_writes : (faults : List Fault) → ((n : ℕ) → count n faults ≡ 0) → writes faults ≡ []
  no_writes [] none = refl
  no_writes (fault ∷ rest) none = elim (cases_Bool (kept fault)) [
    | inl is ↦
        let some = counted_there fault.first (fault ∷ rest) fault (inl refl) is refl in
        let zero = none fault.first in absurd (omega (arith, some, zero))
    | inr is ↦
        ap (λ test. map (λ (f : Fault). f.call) (cond test (fault ∷ filter kept rest) (filter kept rest))) is
        ∙ no_writes rest (λ n. let more = sum_by-cons (counted n) fault rest in let zero = none n in omega (arith, more, zero))
  ]

  one_wider : (before : List Fault) (fault : Fault) (behind : List Fault) (other : Fault) → IsOneOf (before ++ behind) other → IsOneOf (before ++ fault ∷ behind) other
  one_wider [] fault behind other one = inr one
  one_wider (first ∷ before) fault behind other (inl is) = inl is
  one_wider (first ∷ before) fault behind other (inr later) = inr (one_wider before fault behind other later)

  -- what is so of the faults beside one that was found
  module _ (m : ℕ) (faults : List Fault) (f : IsFound m faults) where
    abbrev beside : List Fault
    beside = f.before ++ f.behind

    beside_count : (n : ℕ) → count n faults ≡ counted n f.fault + count n beside
    beside_count n = ap (count n) f.are ∙ count_parts n f.before f.fault f.behind

    beside_none : count m faults ≤ 1 → count m beside ≡ 0
    beside_none once = let c = beside_count m in let o = counted_is m f.fault f.is f.first in omega (arith, c, o, once)

    beside_same : (n : ℕ) → m ≢ n → count n beside ≡ count n faults
    beside_same n ne = elim (cases_lt 0 (counted n f.fault)) [
      | inl some ↦ absurd (ne (sym f.first ∙ (counted_some n f.fault some).1))
      | inr none ↦ (let c = beside_count n in omega (arith, c, none))
    ]

    beside_fewer : (n : ℕ) → count n beside ≤ count n faults
    beside_fewer n = let c = beside_count n in omega (arith, c)

    beside_within : (other : Fault) → IsOneOf beside other → IsOneOf faults other
    beside_within other one = subst (λ l. IsOneOf l other) (sym f.are) (one_wider f.before f.fault f.behind other one)

    -- its call comes first
    beside_reordered : (call : FileCall) (later : List FileCall) → f.fault.call ≡ call → IsReordered later (writes beside) → IsReordered (call ∷ later) (writes faults)
    beside_reordered call later is next = (
      writes f.before,
      writes f.behind,
      ap writes f.are ∙ writes_parts f.before f.fault f.behind f.is ∙ ap (λ c. writes f.before ++ c ∷ writes f.behind) is,
      subst (IsReordered later) (writes_both f.before f.behind) next,
    )

  -- ---- by keys: calls that some indices have, each of which is that of the fault whose first number is the index's key

  module _ (call_at : ℕ → FileCall) (key : ℕ → ℕ) (has : ℕ → Bool) where
    abbrev pub keyed : ℕ → List FileCall
    keyed i = call_if (has i) (call_at i)

    -- The indices of a range have keys of their own, and each key is that of a fault with the index's call.
    pub record AreKeyed (from many : ℕ) (faults : List Fault) : Type 0 where
      pub once : (n : ℕ) → count n faults ≤ 1
      pub apart : (i j : ℕ) → from ≤ i → i < j → j < from + many → has i ≡ true → has j ≡ true → key i ≢ key j
      pub there : (i : ℕ) → from ≤ i → i < from + many → has i ≡ true → 1 ≤ count (key i) faults
      pub calls_are : (i : ℕ) → from ≤ i → i < from + many → has i ≡ true → (fault : Fault) → IsOneOf faults fault → kept fault ≡ true → fault.first ≡ key i → fault.call ≡ call_at i

    -- So their calls, and then those of the faults that are left, are those of all in another order.
    pub record AreLeft (from many : ℕ) (faults : List Fault) : Type 0 where
      pub rest : List Fault
      pub reorders : (later : List FileCall) → IsReordered later (writes rest) → IsReordered (rising keyed from many ++ later) (writes faults)
      pub gone : (i : ℕ) → from ≤ i → i < from + many → has i ≡ true → count (key i) rest ≡ 0
      pub stay : (n : ℕ) → ((i : ℕ) → from ≤ i → i < from + many → has i ≡ true → key i ≢ n) → count n rest ≡ count n faults
      pub fewer : (n : ℕ) → count n rest ≤ count n faults
      pub within : (fault : Fault) → IsOneOf rest fault → IsOneOf faults fault

    left_none : (from many : ℕ) (faults : List Fault) → has from ≡ false → AreLeft (suc from) many faults → AreLeft from (suc many) faults
    left_none from many faults none next = record {
      rest = next.rest;
      reorders = λ later is. subst (λ b. IsReordered ((call_if b (call_at from) ++ rising keyed (suc from) many) ++ later) (writes faults)) (sym none) (next.reorders later is);
      gone = λ i low high is. elim (cases_eq i from) [
        | inl e ↦ absurd (not_both (sym is ∙ ap has e ∙ none))
        | inr ne ↦ next.gone i (omega (arith, low, ne)) (omega (arith, high)) is
      ];
      stay = λ n others. next.stay n (λ i low high. others i (omega (arith, low)) (omega (arith, high)));
      fewer = next.fewer;
      within = next.within;
    }
      where
        not_both : true ≡ false → ⊥
        not_both e = absurd cc

    left_one : (from many : ℕ) (faults : List Fault) (are : AreKeyed from (suc many) faults) → has from ≡ true → (f : IsFound (key from) faults) → AreLeft (suc from) many (f.before ++ f.behind) → AreLeft from (suc many) faults
    left_one from many faults are is f next = record {
      rest = next.rest;
      reorders = λ later these. subst (λ b. IsReordered ((call_if b (call_at from) ++ rising keyed (suc from) many) ++ later) (writes faults)) (sym is)
          (beside_reordered (key from) faults f (call_at from) (rising keyed (suc from) many ++ later)
          (are.calls_are from (omega arith) (omega arith) is f.fault f.one f.is f.first) (next.reorders later these));
      gone = λ i low high has_it. elim (cases_eq i from) [
        | inl e ↦
            let zero_there = beside_none (key from) faults f (are.once (key from)) in
            let less = next.fewer (key from) in
            subst (λ j. count (key j) next.rest ≡ 0) (sym e) (omega (arith, zero_there, less))
        | inr ne ↦ next.gone i (omega (arith, low, ne)) (omega (arith, high)) has_it
      ];
      stay = λ n others. next.stay n (λ i low high. others i (omega (arith, low)) (omega (arith, high))) ∙ beside_same (key from) faults f n (others from (omega arith) (omega arith) is);
      fewer = λ n. let a = next.fewer n in let b = beside_fewer (key from) faults f n in omega (arith, a, b);
      within = λ fault one. beside_within (key from) faults f fault (next.within fault one);
    }

    keyed_beside : (from many : ℕ) (faults : List Fault) (are : AreKeyed from (suc many) faults) → has from ≡ true → (f : IsFound (key from) faults) → AreKeyed (suc from) many (f.before ++ f.behind)
    keyed_beside from many faults are is f = record {
      once = λ n. let a = beside_fewer (key from) faults f n in let b = are.once n in omega (arith, a, b);
      apart = λ i j low less high. are.apart i j (omega (arith, low)) less (omega (arith, high));
      there = λ i low high has_it.
          let same = beside_same (key from) faults f (key i) (are.apart from i (omega arith) (omega (arith, low)) (omega (arith, high)) is has_it) in
          let some = are.there i (omega (arith, low)) (omega (arith, high)) has_it in omega (arith, same, some);
      calls_are = λ i low high has_it fault one. are.calls_are i (omega (arith, low)) (omega (arith, high)) has_it fault (beside_within (key from) faults f fault one);
    }

    pub left : (from many : ℕ) (faults : List Fault) → AreKeyed from many faults → AreLeft from many faults
    left from zero faults are = record {
      rest = faults;
      reorders = λ later is. is;
      gone = λ i low high. absurd (omega (arith, low, high));
      stay = λ n others. refl;
      fewer = λ n. omega arith;
      within = λ fault one. one;
    }
    left from (suc many) faults are = elim (cases_Bool (has from)) [
      | inl is ↦
          let f = found (key from) faults (are.there from (omega arith) (omega arith) is) in
          left_one from many faults are is f (left (suc from) many (f.before ++ f.behind) (keyed_beside from many faults are is f))
      | inr none ↦ left_none from many faults none (left (suc from) many faults record {
        once = are.once;
        apart = λ i j low less high. are.apart i j (omega (arith, low)) less (omega (arith, high));
        there = λ i low high. are.there i (omega (arith, low)) (omega (arith, high));
        calls_are = λ i low high. are.calls_are i (omega (arith, low)) (omega (arith, high));
      })
    ]

  -- where each number of a range is its own key, and no other is a first number, none is left
  pub all_left : (call_at : ℕ → FileCall) (has : ℕ → Bool) (from many : ℕ) (faults : List Fault) → AreKeyed call_at (λ n. n) has from many faults
      → ((n : ℕ) → 1 ≤ count n faults → (from ≤ n) × (n < from + many) × (has n ≡ true)) → IsReordered (rising (keyed call_at (λ n. n) has) from many) (writes faults)
  all_left call_at has from many faults are within =
      let rests = left call_at (λ n. n) has from many faults are in
      subst (λ calls. IsReordered calls (writes faults)) (append-nil (rising (keyed call_at (λ n. n) has) from many))
      (rests.reorders [] (no_writes rests.rest (λ n. elim (cases_lt 0 (count n rests.rest)) [
        | inr none ↦ omega (arith, none)
        | inl some ↦
            let in_range = within n (let less = rests.fewer n in omega (arith, some, less)) in
            rests.gone n in_range.0 in_range.1 in_range.2
      ])))
