-- Rounds: the calls of some threads are those of all threads, each once.
use Rattle.std.proofs.Common.{◌≡◌, ℕ, zero, suc, ◌+◌, ◌<◌, ◌≤◌, cond, List, [], ◌∷◌, ◌++◌, length, inl, inr, refl, sym, ap, subst, ◌∙◌, arith, append_assoc, append-nil, length-append, eq-eqb, ne_eqb}
use Rattle.std.specs.Prelude.{IsPermutation, Option, Some, None}
use Rattle.std.specs.List.{flat_map, range_with_len}
use Rattle.std.proofs.lemmas.Bool.{cases_eq}
use Rattle.std.proofs.lemmas.List.FromFn.{length-range_with_len}
use Rattle.std.proofs.lemmas.List.Sorted.{IsPermutation-append_comm, IsPermutation-append_right, IsPermutation-cons, IsPermutation-middle, IsPermutation-refl, IsPermutation-trans}
use Rattle.nv_core.specs.state.Passes.{IsOneOf}
use Rattle.nv_table.specs.state.Views.{AreDistinctNumbers}
use Rattle.nv_trace.specs.declared.trace_call.TracedCall.{TracedCall}
use Rattle.nv_runner.specs.Shifts.{calls_of_thread}
use Rattle.nv_runner.specs.Workers.{cleaner_thread, crew_of}

-- ---- numbers from one on

one_in_range : (from count number : ℕ) → IsOneOf (range_with_len from count) number → (from ≤ number) × (number < from + count)
one_in_range from zero number one = absurd one
one_in_range from (suc count) number (inl is) = (omega (arith, is), omega (arith, is))
one_in_range from (suc count) number (inr later) = let more = one_in_range (from + 1) count number later in (omega (arith, more.0), omega (arith, more.1))

pub distinct_range : (from count : ℕ) → AreDistinctNumbers (range_with_len from count)
distinct_range from zero = tt
distinct_range from (suc count) = (λ one. (let more = one_in_range (from + 1) count from one in absurd (omega (arith, more.0))), distinct_range (from + 1) count)

pub in_range : (from count number : ℕ) → from ≤ number → number < from + count → IsOneOf (range_with_len from count) number
in_range from zero number low high = absurd (omega arith)
in_range from (suc count) number low high = elim (cases_eq number from) [ inl is ↦ inl is | inr differ ↦ inr (in_range (from + 1) count number (omega arith) (omega arith)) ]

range_more : (from count : ℕ) → range_with_len from (suc count) ≡ range_with_len from count ++ (from + count) ∷ []
range_more from zero = (let same : from ≡ from + 0 = omega arith in ap (λ n. n ∷ []) same)
range_more from (suc count) = (let same : from + 1 + count ≡ from + suc count = omega arith in ap (λ l. from ∷ l) (range_more (from + 1) count ∙ ap (λ n. range_with_len (from + 1) count ++ n ∷ []) same))

pub range_push : (count : ℕ) → range_with_len 0 (count + 1) ≡ range_with_len 0 count ++ count ∷ []
range_push count =
    let one : count + 1 ≡ suc count = omega arith in
    let last : 0 + count ≡ count = omega arith in
    ap (range_with_len 0) one ∙ range_more 0 count ∙ ap (λ n. range_with_len 0 count ++ n ∷ []) last

-- ---- the threads of a crew

pub crew_push : (count : ℕ) (batch : Option ℕ) → crew_of (count + 1) batch ≡ crew_of count batch ++ count ∷ []
crew_push count None = range_push count
crew_push count (Some most) = ap (λ l. cleaner_thread ∷ l) (range_push count)

pub crew_long : (count : ℕ) (batch : Option ℕ) → length (crew_of count batch) ≤ count + 1
crew_long count None = omega (arith, length-range_with_len 0 count)
crew_long count (Some most) = omega (arith, length-range_with_len 0 count)

pub distinct_crew : (count : ℕ) (batch : Option ℕ) → count ≤ 8 → AreDistinctNumbers (crew_of count batch)
distinct_crew count None few = distinct_range 0 count
distinct_crew count (Some most) few = (λ one. (let low = one_in_range 0 count 8 one in absurd (omega (arith, low.1, few))), distinct_range 0 count)

pub in_crew : (count : ℕ) (batch : Option ℕ) (thread : ℕ) → thread < count → IsOneOf (crew_of count batch) thread
in_crew count None thread less = in_range 0 count thread (omega arith) (omega arith)
in_crew count (Some most) thread less = inr (in_range 0 count thread (omega arith) (omega arith))

-- ---- lists that are moved

pub moved_behind : {X : Type 0} (front answered more : List X) → IsPermutation (front ++ (answered ++ more)) ((front ++ (more ++ [])) ++ answered)
moved_behind front answered more =
    subst (IsPermutation (front ++ (answered ++ more)))
    (sym (append_assoc front more answered) ∙ ap (λ l. (front ++ l) ++ answered) (sym (append-nil more)))
    (IsPermutation-append_right front (answered ++ more) (more ++ answered) (IsPermutation-append_comm answered more))

-- ---- one call more

abbrev pub calls_of : (threads : List ℕ) → List TracedCall → List TracedCall
calls_of threads calls = flat_map (λ thread. calls_of_thread thread calls) threads

-- of none of these threads
none_more : (call : TracedCall) (calls : List TracedCall) (threads : List ℕ) → (IsOneOf threads call.thread → ⊥) → calls_of threads (call ∷ calls) ≡ calls_of threads calls
none_more call calls [] none = refl
none_more call calls (thread ∷ more) none =
    ap (λ b. cond b (call ∷ calls_of_thread thread calls) (calls_of_thread thread calls) ++ calls_of more (call ∷ calls)) (ne_eqb call.thread thread (λ is. none (inl is)))
    ∙ ap (λ l. calls_of_thread thread calls ++ l) (none_more call calls more (λ one. none (inr one)))

-- of one of them
one_more : (call : TracedCall) (calls : List TracedCall) (threads : List ℕ) → AreDistinctNumbers threads → IsOneOf threads call.thread → IsPermutation (calls_of threads (call ∷ calls)) (call ∷ calls_of threads calls)
one_more call calls [] distinct one = absurd one
one_more call calls (thread ∷ more) distinct one = elim (cases_eq call.thread thread) [
  | inl is ↦
      subst (λ l. IsPermutation l (call ∷ (calls_of_thread thread calls ++ calls_of more calls)))
      (sym
      (ap (λ b. cond b (call ∷ calls_of_thread thread calls) (calls_of_thread thread calls) ++ calls_of more (call ∷ calls)) (eq-eqb call.thread thread is)
      ∙ ap (λ l. call ∷ (calls_of_thread thread calls ++ l)) (none_more call calls more (λ there. distinct.0 (subst (IsOneOf more) is there)))))
      (IsPermutation-refl (call ∷ (calls_of_thread thread calls ++ calls_of more calls)))
  | inr differ ↦
      subst (λ l. IsPermutation l (call ∷ (calls_of_thread thread calls ++ calls_of more calls)))
      (sym (ap (λ b. cond b (call ∷ calls_of_thread thread calls) (calls_of_thread thread calls) ++ calls_of more (call ∷ calls)) (ne_eqb call.thread thread differ)))
      (IsPermutation-trans (calls_of_thread thread calls ++ calls_of more (call ∷ calls)) (calls_of_thread thread calls ++ call ∷ calls_of more calls) (call ∷ (calls_of_thread thread calls ++ calls_of more calls))
      (IsPermutation-append_right (calls_of_thread thread calls) (calls_of more (call ∷ calls)) (call ∷ calls_of more calls) (one_more call calls more distinct.1 (elim one [ inl is ↦ absurd (differ is) | inr later ↦ later ])))
      (IsPermutation-middle (calls_of_thread thread calls) call (calls_of more calls)))
]

-- The calls of the threads that all calls are of are all calls.
none_of_none : (threads : List ℕ) → calls_of threads [] ≡ []
none_of_none [] = refl
none_of_none (thread ∷ more) = none_of_none more

pub all_calls : (threads : List ℕ) (calls : List TracedCall) → AreDistinctNumbers threads → ((call : TracedCall) → IsOneOf calls call → IsOneOf threads call.thread) → IsPermutation (calls_of threads calls) calls
all_calls threads [] distinct there = subst (λ l. IsPermutation l []) (sym (none_of_none threads)) (IsPermutation-refl [])
all_calls threads (call ∷ calls) distinct there =
    IsPermutation-trans (calls_of threads (call ∷ calls)) (call ∷ calls_of threads calls) (call ∷ calls) (one_more call calls threads distinct (there call (inl refl)))
    (IsPermutation-cons call (calls_of threads calls) calls (all_calls threads calls distinct (λ c one. there c (inr one))))

-- Those of any threads are no more.
few_more : (call : TracedCall) (calls : List TracedCall) (threads : List ℕ) → AreDistinctNumbers threads → length (calls_of threads (call ∷ calls)) ≤ length (calls_of threads calls) + 1
few_more call calls [] distinct = omega arith
few_more call calls (thread ∷ more) distinct =
    let joined = length-append (calls_of_thread thread calls) (calls_of more calls) in
    elim (cases_eq call.thread thread) [
      | inl is ↦
          let none = none_more call calls more (λ there. distinct.0 (subst (IsOneOf more) is there)) in
          let same : calls_of (thread ∷ more) (call ∷ calls) ≡ call ∷ (calls_of_thread thread calls ++ calls_of more calls) =
          ap (λ b. cond b (call ∷ calls_of_thread thread calls) (calls_of_thread thread calls) ++ calls_of more (call ∷ calls)) (eq-eqb call.thread thread is) ∙ ap (λ l. call ∷ (calls_of_thread thread calls ++ l)) none in
          omega (arith, ap length same)
      | inr differ ↦
          let same : calls_of (thread ∷ more) (call ∷ calls) ≡ calls_of_thread thread calls ++ calls_of more (call ∷ calls) =
          ap (λ b. cond b (call ∷ calls_of_thread thread calls) (calls_of_thread thread calls) ++ calls_of more (call ∷ calls)) (ne_eqb call.thread thread differ) in
          omega (arith, ap length same, length-append (calls_of_thread thread calls) (calls_of more (call ∷ calls)), joined, few_more call calls more distinct.1)
    ]

pub few_calls : (threads : List ℕ) (calls : List TracedCall) → AreDistinctNumbers threads → length (calls_of threads calls) ≤ length calls
few_calls threads [] distinct = omega (arith, ap length (none_of_none threads))
few_calls threads (call ∷ calls) distinct = omega (arith, few_more call calls threads distinct, few_calls threads calls distinct)
