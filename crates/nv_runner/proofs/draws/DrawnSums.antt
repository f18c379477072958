-- Sums of what passes and calls have drawn.
use Rattle.std.proofs.Common.{◌≡◌, ℕ, ◌+◌, ◌≤◌, ◌==◌, not, Bool, true, false, if◌then◌else◌, List, [], ◌∷◌, map, filter, inl, inr, refl, sym, ap, subst, ◌∙◌, arith}
use Rattle.std.proofs.lemmas.Bool.{cases_eq, cases_lt, eq-eqb, ne_eqb}
use Rattle.std.proofs.lemmas.List.Sums.{sum_by-cons}
use Rattle.nv_core.specs.state.Passes.{IsOneOf}
use Rattle.nv_core.specs.state.Totals.{total}
use Rattle.nv_core.specs.state.Words.{Sizes}
use Rattle.nv_core.proofs.state.Choices.{if_both, when_true, when_false}
use Rattle.nv_core.proofs.state.TotalLaws.{total_apart, total_at, total_zeros}
use Rattle.nv_table.specs.state.Views.{AreDistinctNumbers}
use Rattle.nv_trace.specs.declared.trace_call.TracedCall.{TracedCall}
use Rattle.nv_runner.specs.Entries.{entries_of_calls, entries_taken}
use Rattle.nv_runner.specs.Faithful.{is_later, not_later}
use Rattle.nv_runner.specs.Lists.{MadeCall}
use Rattle.nv_runner.specs.RunRefusals.{calls_that_drew}
use Rattle.nv_runner.specs.Runs.{entries_drawn, entries_if, has_drawn}
use Rattle.nv_runner.proofs.histories.HistorySums.{added, added_same}

-- smaller values have a smaller sum
pub added_most : {X : Type 0} (few many : X → ℕ) (xs : List X) → ((x : X) → IsOneOf xs x → few x ≤ many x) → added few xs ≤ added many xs
added_most few many [] less = omega arith
added_most few many (x ∷ xs) less = let here = less x (inl refl) in let later = added_most few many xs (λ y there. less y (inr there)) in omega (arith, here, later)

-- The total over all numbers is no more than the sum over some, where each other one has nothing.
pub total_listed : (numbers : List ℕ) (count : ℕ) (value : ℕ → ℕ) → ((n : ℕ) → (IsOneOf numbers n → ⊥) → value n ≡ 0) → total count value ≤ added value numbers
total_listed [] count value none = let all = total_zeros count value (λ n below. none n (λ one. one)) in omega (arith, all)
total_listed (first ∷ rest) count value none =
    let apart = total_apart count first value in
    let others = total_listed rest count (λ n. if n == first then 0 else value n)
    (λ n absent. elim (cases_eq n first) [
      | inl is ↦ when_true (n == first) 0 (value n) (eq-eqb n first is)
      | inr ne ↦ when_false (n == first) 0 (value n) (ne_eqb n first ne) ∙ none n (λ one. elim one [ inl is ↦ ne is | inr later ↦ absent later ])
    ]) in
    let fewer = added_most (λ n. if n == first then 0 else value n) value rest (λ n there. if_both (λ v. v ≤ value n) (n == first) 0 (value n) (λ _. omega arith) (λ _. omega arith)) in
    omega (arith, apart, others, fewer)

-- And where no number is listed twice, and none from the last one on has anything, the sum is no more than the total.
pub listed_total : (listed : List ℕ) (count : ℕ) (value : ℕ → ℕ) → AreDistinctNumbers listed → ((n : ℕ) → count ≤ n → value n ≡ 0) → added value listed ≤ total count value
listed_total [] count value distinct none = omega arith
listed_total (first ∷ rest) count value distinct none = elim (cases_lt first count) [
  | inl less ↦ (
      let apart = total_at count first value (λ n. if n == first then 0 else value n) less (λ n ne. when_false (n == first) 0 (value n) (ne_eqb n first ne)) in
      let here : (if first == first then 0 else value first) ≡ 0 = when_true (first == first) 0 (value first) (eq-eqb first first refl) in
      let same = added_same (λ n. if n == first then 0 else value n) value rest (λ n one. when_false (n == first) 0 (value n) (ne_eqb n first (λ is. distinct.0 (subst (IsOneOf rest) is one)))) in
      let others = listed_total rest count (λ n. if n == first then 0 else value n) distinct.1 (λ n past. if_both (λ v. v ≡ 0) (n == first) 0 (value n) (λ _. refl) (λ _. none n past)) in
      omega (arith, apart, here, same, others)
      )
  | inr past ↦ (let nothing = none first past in let others = listed_total rest count value distinct.1 none in omega (arith, nothing, others))
]

-- ---- what calls have drawn

-- one call, and some
abbrev pub drew : Sizes → MadeCall → ℕ
drew sizes m = entries_drawn sizes m.call.call m.answer

-- one that doesn't come later than another
abbrev pub drew_before : Sizes → TracedCall → MadeCall → ℕ
drew_before sizes call m = entries_if (not (is_later call m.call)) (drew sizes m)

pub is_before : (sizes : Sizes) (call : TracedCall) (m : MadeCall) → is_later call m.call ≡ false → drew_before sizes call m ≡ drew sizes m
is_before sizes call m early = ap (λ b. entries_if (not b) (drew sizes m)) early

none_if : (b : Bool) → entries_if b 0 ≡ 0
none_if true = refl
none_if false = refl

-- as a sum over the calls that drew
one_more : (sizes : Sizes) (call traced : TracedCall) (rest : List TracedCall)
    → entries_of_calls sizes.page (not_later call (traced ∷ rest)) ≡ entries_if (not (is_later call traced)) (entries_taken sizes.page traced.call) + entries_of_calls sizes.page (not_later call rest)
one_more sizes call traced rest = by (not (is_later call traced))
  where
    by : (b : Bool) → entries_of_calls sizes.page (if b then traced ∷ not_later call rest else not_later call rest) ≡ entries_if b (entries_taken sizes.page traced.call) + entries_of_calls sizes.page (not_later call rest)
    by true = sum_by-cons (λ (t : TracedCall). entries_taken sizes.page t.call) traced (not_later call rest)
    by false = omega arith

pub drew_all : (sizes : Sizes) (call : TracedCall) (made : List MadeCall) → added (drew_before sizes call) made ≡ entries_of_calls sizes.page (not_later call (calls_that_drew made))
drew_all sizes call [] = refl
drew_all sizes call (m ∷ later) =
    ap (λ n. drew_before sizes call m + n) (drew_all sizes call later) ∙ by (has_drawn m.answer)
  where
    by : (drawn : Bool) → entries_if (not (is_later call m.call)) (entries_if drawn (entries_taken sizes.page m.call.call)) + entries_of_calls sizes.page (not_later call (calls_that_drew later))
        ≡ entries_of_calls sizes.page (not_later call (map (λ (m : MadeCall). m.call) (if drawn then m ∷ filter (λ (m : MadeCall). has_drawn m.answer) later else filter (λ (m : MadeCall). has_drawn m.answer) later)))
    by true = sym (one_more sizes call m.call (calls_that_drew later))
    by false = let none = none_if (not (is_later call m.call)) in omega (arith, none)

pub drew_total : (sizes : Sizes) (made : List MadeCall) → added (drew sizes) made ≡ entries_of_calls sizes.page (calls_that_drew made)
drew_total sizes [] = refl
drew_total sizes (m ∷ later) = ap (λ n. drew sizes m + n) (drew_total sizes later) ∙ by (has_drawn m.answer)
  where
    by : (drawn : Bool) → entries_if drawn (entries_taken sizes.page m.call.call) + entries_of_calls sizes.page (calls_that_drew later)
        ≡ entries_of_calls sizes.page (map (λ (m : MadeCall). m.call) (if drawn then m ∷ filter (λ (m : MadeCall). has_drawn m.answer) later else filter (λ (m : MadeCall). has_drawn m.answer) later))
    by true = sym (sum_by-cons (λ (t : TracedCall). entries_taken sizes.page t.call) m.call (calls_that_drew later))
    by false = omega arith
