-- One thread: the numbers that its calls drew are exact.
use Rattle.std.proofs.Common.{◌≡◌, ◌≢◌, ℕ, ◌+◌, ◌<◌, ◌≤◌, nat_lt, Bool, true, false, if◌then◌else◌, List, [], ◌∷◌, map, filter, inl, inr, refl, sym, ap, subst, ◌∙◌, arith}
use Rattle.std.specs.Prelude.{All, sum_by}
use Rattle.std.proofs.lemmas.Bool.{cases_lt, le-ltb, lt-ltb}
use Rattle.std.proofs.lemmas.List.Elements.{All-head, All-tail}
use Rattle.std.proofs.lemmas.List.Sorted.{All-permutation, IsPermutation-map}
use Rattle.std.proofs.lemmas.List.Sums.{sum_by-cons}
use Rattle.nv_core.specs.state.Passes.{IsOneOf}
use Rattle.nv_table.specs.state.Views.{AreDistinctNumbers}
use Rattle.nv_trace.specs.declared.trace_call.TraceCall.{TraceCall}
use Rattle.nv_trace.specs.declared.trace_call.TracedCall.{TracedCall}
use Rattle.nv_runner.specs.DrawnNumbers.{AreInARow, DrawnCall, OneThreadDrawsByLine}
use Rattle.nv_runner.specs.Histories.{ComesBefore, KeepOrder}
use Rattle.nv_runner.specs.Runs.{entries_if}
use Rattle.nv_runner.proofs.histories.HistoryMembers.{of_each, of_one, one_mapped}
use Rattle.nv_runner.proofs.histories.HistorySums.{added, added_mapped, added_moved, added_none}
use Rattle.nv_runner.proofs.LineLaws.{distinct_moved}

abbrev call_of : DrawnCall → TracedCall
call_of d = d.call

module _ (taken : TraceCall → ℕ) where
  -- what a call takes where it is of an earlier line
  abbrev before_line : (line : ℕ) → TracedCall → ℕ
  before_line line call = entries_if (nat_lt call.line line) (taken call.call)

  earlier_sum : (line : ℕ) (calls : List TracedCall) → sum_by (λ (call : TracedCall). taken call.call) (filter (λ (call : TracedCall). nat_lt call.line line) calls) ≡ added (before_line line) calls
  earlier_sum line [] = refl
  earlier_sum line (call ∷ later) = by (nat_lt call.line line) (earlier_sum line later)
    where
      rest : List TracedCall
      rest = filter (λ (call : TracedCall). nat_lt call.line line) later

      by : (b : Bool) → sum_by (λ (call : TracedCall). taken call.call) rest ≡ added (before_line line) later
          → sum_by (λ (call : TracedCall). taken call.call) (if b then call ∷ rest else rest) ≡ entries_if b (taken call.call) + added (before_line line) later
      by true same = sum_by-cons (λ (call : TracedCall). taken call.call) call rest ∙ ap (λ n. taken call.call + n) same
      by false same = let none = same in omega (arith, none)

  -- in a row that keeps the lines of one thread
  by_line : (thread next : ℕ) (drawn : List DrawnCall) → AreInARow taken next drawn → KeepOrder (map call_of drawn) → All (λ (call : TracedCall). call.thread ≡ thread) (map call_of drawn)
      → AreDistinctNumbers (map (λ (call : TracedCall). call.line) (map call_of drawn)) → (d : DrawnCall) → IsOneOf drawn d → d.number ≡ next + added (λ (e : DrawnCall). before_line d.call.line e.call) drawn
  by_line thread next [] row order threads distinct d one = absurd one
  by_line thread next (first ∷ later) row order threads distinct d (inl is) =
      let none = added_none (λ (e : DrawnCall). before_line first.call.line e.call) later (λ e there. ap (λ b. entries_if b (taken e.call.call)) (le-ltb e.call.line first.call.line (not_before e there))) in
      let here : before_line first.call.line first.call ≡ 0 = ap (λ b. entries_if b (taken first.call.call)) (le-ltb first.call.line first.call.line (omega arith)) in
      let number = row.0 in
      subst (λ (d : DrawnCall). d.number ≡ next + added (λ (e : DrawnCall). before_line d.call.line e.call) (first ∷ later)) (sym is) (omega (arith, none, here, number))
    where
      same_thread : (e : DrawnCall) → IsOneOf later e → e.call.thread ≡ first.call.thread
      same_thread e there =
          let Same : TracedCall → Type 0 = λ call. call.thread ≡ thread in
          of_one Same (map call_of later) e.call (All-tail Same first.call (map call_of later) threads) (one_mapped call_of later e there) ∙ sym (All-head Same first.call (map call_of later) threads)

      not_before : (e : DrawnCall) → IsOneOf later e → first.call.line ≤ e.call.line
      not_before e there =
          let none = of_one (λ (other : TracedCall). ComesBefore other first.call → ⊥) (map call_of later) e.call order.0 (one_mapped call_of later e there) in
          elim (cases_lt e.call.line first.call.line) [ inl less ↦ absurd (none (inr (same_thread e there, less))) | inr least ↦ least ]
  by_line thread next (first ∷ later) row order threads distinct d (inr one) =
      let rest = by_line thread (next + taken first.call.call) later row.1 order.1 (All-tail (λ (call : TracedCall). call.thread ≡ thread) first.call (map call_of later) threads) distinct.1 d one in
      let here : before_line d.call.line first.call ≡ taken first.call.call = ap (λ b. entries_if b (taken first.call.call)) (lt-ltb first.call.line d.call.line below) in
      omega (arith, rest, here)
    where
      same_thread : d.call.thread ≡ first.call.thread
      same_thread =
          let Same : TracedCall → Type 0 = λ call. call.thread ≡ thread in
          of_one Same (map call_of later) d.call (All-tail Same first.call (map call_of later) threads) (one_mapped call_of later d one) ∙ sym (All-head Same first.call (map call_of later) threads)

      apart : first.call.line ≢ d.call.line
      apart same = distinct.0 (subst (λ line. IsOneOf (map (λ (call : TracedCall). call.line) (map call_of later)) line) (sym same) (one_mapped (λ (call : TracedCall). call.line) (map call_of later) d.call (one_mapped call_of later d one)))

      below : first.call.line < d.call.line
      below =
          let none = of_one (λ (other : TracedCall). ComesBefore other first.call → ⊥) (map call_of later) d.call order.0 (one_mapped call_of later d one) in
          elim (cases_lt d.call.line first.call.line) [ inl less ↦ absurd (none (inr (same_thread, less))) | inr least ↦ (let ne = apart in omega (arith, least, ne)) ]

pub one_thread_draws_by_line : OneThreadDrawsByLine
one_thread_draws_by_line taken next thread calls drew threads lines =
    let drawn = drew.drawn in
    let drawn_calls = map call_of drawn in
    of_each (λ (d : DrawnCall). d.number ≡ next + sum_by (λ (call : TracedCall). taken call.call) (filter (λ (call : TracedCall). nat_lt call.line d.call.line) calls)) drawn (λ d one.
    let exact = by_line taken thread next drawn drew.row drew.in_order (All-permutation (λ (call : TracedCall). call.thread ≡ thread) calls drawn_calls drew.each_once threads)
    (distinct_moved (map (λ (call : TracedCall). call.line) calls) (map (λ (call : TracedCall). call.line) drawn_calls) (IsPermutation-map (λ (call : TracedCall). call.line) calls drawn_calls drew.each_once) lines) d one in
    let sum = earlier_sum taken d.call.line calls in
    let moved = added_moved (before_line taken d.call.line) calls drawn_calls drew.each_once in
    let mapped = added_mapped (before_line taken d.call.line) call_of drawn in
    omega (arith, exact, sum, moved, mapped))
