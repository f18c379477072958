-- Owners: the calls of the threads of a load are those of its rounds.
use Rattle.std.proofs.Common.{◌≡◌, ◌≢◌, ℕ, zero, suc, ◌+◌, ◌-◌, ◌*◌, ◌<◌, ◌≤◌, ◌==◌, cond, true, false, List, [], ◌∷◌, ◌++◌, length, map, get_or, inl, inr, refl, sym, ap, subst, ◌∙◌, arith, eq-eqb, ne_eqb}
use Rattle.std.specs.Prelude.{◌⊎◌, IsPermutation}
use Rattle.std.specs.List.{flat_map, range_with_len}
use Rattle.std.proofs.lemmas.Bool.{cases_eq, cases_lt}
use Rattle.std.proofs.lemmas.List.{append-nil, get_or-append-add, get_or_append_left, length-append}
use Rattle.nv_core.specs.state.Passes.{IsOneOf}
use Rattle.nv_pmem.specs.Draws.{draws_of}
use Rattle.nv_pmem.specs.declared.picker.Pick.TheVariants.{Seed}
use Rattle.nv_trace.specs.declared.trace_call.TraceCall.{TraceCall}
use Rattle.nv_trace.specs.declared.trace_call.TracedCall.{TracedCall}
use Rattle.nv_runner.specs.Lists.{MadeCall, calls_made}
use Rattle.nv_runner.specs.Owners.{AreShares}
use Rattle.nv_runner.specs.Rounds.{AreInLineOrder, AreInRoundOrder, IsNextRound}
use Rattle.nv_runner.specs.Shifts.{calls_of_thread}
use Rattle.nv_runner.proofs.histories.HistoryMembers.{of_each, one_at, one_mapped, one_moved, one_of_joined}
use Rattle.nv_runner.proofs.RoundLaws.{lines_within}
use Rattle.nv_load.specs.Generated.{drawn_calls, first_fills, first_round, generated_calls, in_lines, second_round, thread_calls}
use Rattle.nv_load.specs.declared.load.Load.{Load}
use Rattle.nv_load.proofs.ShapeLaws.{of_line, of_range}
use Rattle.nv_load.proofs.TraceLaws.{generated_in_lines}

-- ---- each thread's share

-- calls of this thread are all its own
own_in_lines : (line round thread : ℕ) (calls : List TraceCall) → calls_of_thread thread (in_lines line round thread calls) ≡ in_lines line round thread calls
own_in_lines line round thread [] = refl
own_in_lines line round thread (call ∷ later) =
    let one : TracedCall = record { line = line; round = round; thread = thread; call = call } in
    let rest = calls_of_thread thread (in_lines (line + 1) round thread later) in
    ap (λ b. cond b (one ∷ rest) rest) (eq-eqb thread thread refl) ∙ ap (λ l. one ∷ l) (own_in_lines (line + 1) round thread later)

-- and none is another's
other_in_lines : (line round thread other : ℕ) (calls : List TraceCall) → thread ≢ other → calls_of_thread other (in_lines line round thread calls) ≡ []
other_in_lines line round thread other [] differ = refl
other_in_lines line round thread other (call ∷ later) differ =
    let one : TracedCall = record { line = line; round = round; thread = thread; call = call } in
    let rest = calls_of_thread other (in_lines (line + 1) round thread later) in
    ap (λ b. cond b (one ∷ rest) rest) (ne_eqb thread other differ) ∙ other_in_lines (line + 1) round thread other later differ

of_joined : (thread : ℕ) (one other : List TracedCall) → calls_of_thread thread (one ++ other) ≡ calls_of_thread thread one ++ calls_of_thread thread other
of_joined thread [] other = refl
of_joined thread (call ∷ later) other = by (call.thread == thread) (of_joined thread later other)
  where
    by : (b : _) → calls_of_thread thread (later ++ other) ≡ calls_of_thread thread later ++ calls_of_thread thread other
        → cond b (call ∷ calls_of_thread thread (later ++ other)) (calls_of_thread thread (later ++ other)) ≡ cond b (call ∷ calls_of_thread thread later) (calls_of_thread thread later) ++ calls_of_thread thread other
    by b rest = elim b as (λ v. cond v (call ∷ calls_of_thread thread (later ++ other)) (calls_of_thread thread (later ++ other)) ≡ cond v (call ∷ calls_of_thread thread later) (calls_of_thread thread later) ++ calls_of_thread thread other) [ true ↦ ap (λ l. call ∷ l) rest | false ↦ rest ]

own_thread : (load : Load) (thread : ℕ) → calls_of_thread thread (thread_calls load thread) ≡ thread_calls load thread
own_thread load thread = own_in_lines (68 + thread * load.calls) 1 thread (drawn_calls load.threads thread load.calls (draws_of (Seed (load.seed + thread))))

other_thread : (load : Load) (thread other : ℕ) → thread ≢ other → calls_of_thread other (thread_calls load thread) ≡ []
other_thread load thread other differ = other_in_lines (68 + thread * load.calls) 1 thread other (drawn_calls load.threads thread load.calls (draws_of (Seed (load.seed + thread)))) differ

-- a thread has none among those of threads behind it
none_behind : (load : Load) (thread from count : ℕ) → thread < from → calls_of_thread thread (flat_map (thread_calls load) (range_with_len from count)) ≡ []
none_behind load thread from zero less = refl
none_behind load thread from (suc count) less =
    of_joined thread (thread_calls load from) (flat_map (thread_calls load) (range_with_len (from + 1) count))
    ∙ ap (λ l. l ++ calls_of_thread thread (flat_map (thread_calls load) (range_with_len (from + 1) count))) (other_thread load from thread (λ is. omega (arith, is, less)))
    ∙ none_behind load thread (from + 1) count (omega (arith, less))

-- and all its own among those from one on: of this one, or of those behind it
own_here : (load : Load) (thread from : ℕ) (rest : List TracedCall) → (from ≡ thread) ⊎ (from ≢ thread) → (from ≡ thread → calls_of_thread thread rest ≡ []) → (from ≢ thread → calls_of_thread thread rest ≡ thread_calls load thread)
    → calls_of_thread thread (thread_calls load from) ++ calls_of_thread thread rest ≡ thread_calls load thread
own_here load thread from rest (inl is) none all =
    ap (λ l. calls_of_thread thread (thread_calls load from) ++ l) (none is) ∙ append-nil (calls_of_thread thread (thread_calls load from))
    ∙ ap (λ n. calls_of_thread thread (thread_calls load n)) is ∙ own_thread load thread
own_here load thread from rest (inr differ) none all = ap (λ l. l ++ calls_of_thread thread rest) (other_thread load from thread differ) ∙ all differ

more_than : (from thread : ℕ) → from ≤ thread → from ≢ thread → from + 1 ≤ thread
more_than from thread low differ = elim (cases_lt from thread) [ inl less ↦ omega (arith, less) | inr back ↦ absurd (differ (omega (arith, back, low))) ]

own_among : (load : Load) (thread from count : ℕ) → from ≤ thread → thread < from + count → calls_of_thread thread (flat_map (thread_calls load) (range_with_len from count)) ≡ thread_calls load thread
own_among load thread from zero low high = absurd (omega arith)
own_among load thread from (suc count) low high =
    let rest = flat_map (thread_calls load) (range_with_len (from + 1) count) in
    of_joined thread (thread_calls load from) rest
    ∙ own_here load thread from rest (cases_eq from thread) (λ is. none_behind load thread (from + 1) count (omega (arith, is))) (λ differ. own_among load thread (from + 1) count (more_than from thread low differ) (omega (arith, high)))

-- of the first round all are thread 0's
pub first_share : AreShares first_round 0 (first_round ∷ [])
first_share = (sym (own_in_lines 3 0 0 first_fills), tt)

-- of the second each thread has its own
shares_from : (load : Load) (from count : ℕ) → from + count ≤ load.threads → AreShares (second_round load) from (map (thread_calls load) (range_with_len from count))
shares_from load from zero low = tt
shares_from load from (suc count) low = (sym (own_among load from 0 load.threads (omega arith) (omega (arith, low))), shares_from load (from + 1) count (omega (arith, low)))

pub second_shares : (load : Load) → AreShares (second_round load) 0 (map (thread_calls load) (range_with_len 0 load.threads))
second_shares load = shares_from load 0 load.threads (omega arith)

-- ---- the rounds

pub first_is : (call : TracedCall) → IsOneOf first_round call → (call.round ≡ 0) × (call.thread ≡ 0)
first_is call one = let is = of_line 3 0 0 first_fills call one in (is.round_is, is.thread_is)

pub second_is : (load : Load) (call : TracedCall) → IsOneOf (second_round load) call → (call.round ≡ 1) × (call.thread < load.threads)
second_is load call one =
    let joined = one_of_joined (thread_calls load) (range_with_len 0 load.threads) call one in
    let low = of_range 0 load.threads joined.0 joined.1 in
    let is = of_line (68 + joined.0 * load.calls) 1 joined.0 (drawn_calls load.threads joined.0 load.calls (draws_of (Seed (load.seed + joined.0)))) call joined.2 in
    (is.round_is, (let high = low.1 in let thread_is = is.thread_is in omega (arith, high, thread_is)))

pub all_lines : (load : Load) → AreInLineOrder (generated_calls load)
all_lines load = generated_in_lines load

pub first_next : IsNextRound 1 first_round []
first_next = record {
  round = 0;
  one = of_each (λ (c : TracedCall). c.round ≡ 0) first_round (λ c there. (first_is c there).0);
  before = of_each (λ (m : MadeCall). m.call.round < 0) [] (λ m there. absurd there);
  below = of_each (λ (c : TracedCall). c.thread < 1) first_round (λ c there. (let is = (first_is c there).1 in omega (arith, is)));
  line_order = let load : Load = record { seed = 0; calls = 0; threads = 1 } in lines_within [] first_round (second_round load) (all_lines load);
}

pub second_next : (load : Load) (made : List MadeCall) → IsPermutation (calls_made made) first_round → IsNextRound load.threads (second_round load) made
second_next load made all = record {
  round = 1;
  one = of_each (λ (c : TracedCall). c.round ≡ 1) (second_round load) (λ c there. (second_is load c there).0);
  before = of_each (λ (m : MadeCall). m.call.round < 1) made
      (λ m there. (let is = (first_is m.call (one_moved (calls_made made) first_round m.call all (one_mapped (λ (m : MadeCall). m.call) made m there))).0 in omega (arith, is)));
  below = of_each (λ (c : TracedCall). c.thread < load.threads) (second_round load) (λ c there. (second_is load c there).1);
  line_order = lines_within first_round (second_round load) [] (subst (λ l. AreInLineOrder (first_round ++ l)) (sym (append-nil (second_round load))) (all_lines load));
}

-- a call of the first round stands among the first ones, and one of the second behind them
first_at : (load : Load) (k : ℕ) (d : TracedCall) → k < length first_round → (get_or (generated_calls load) k d).round ≡ 0
first_at load k d inside =
    ap (λ (c : TracedCall). c.round) (get_or_append_left first_round (second_round load) d k inside) ∙ (first_is (get_or first_round k d) (one_at first_round k d (get_or first_round k d) inside refl)).0

second_at : (load : Load) (k rest : ℕ) (d : TracedCall) → k ≡ length first_round + rest → rest < length (second_round load) → (get_or (generated_calls load) k d).round ≡ 1
second_at load k rest d is inside =
    ap (λ n. (get_or (generated_calls load) n d).round) is ∙ ap (λ (c : TracedCall). c.round) (get_or-append-add first_round (second_round load) rest d)
    ∙ (second_is load (get_or (second_round load) rest d) (one_at (second_round load) rest d (get_or (second_round load) rest d) inside refl)).0

-- rounds don't fall along the calls
pub all_rounds : (load : Load) → AreInRoundOrder (generated_calls load)
all_rounds load i j d low within =
    let many = length-append first_round (second_round load) in
    elim (cases_lt i (length first_round)) [
      | inl early ↦ (let first = first_at load i d early in omega (arith, first))
      | inr late ↦
          (let first = second_at load i (i - length first_round) d (omega (arith, late)) (omega (arith, late, low, within, many)) in
          let then_ = second_at load j (j - length first_round) d (omega (arith, late, low)) (omega (arith, late, low, within, many)) in
          omega (arith, first, then_))
    ]
