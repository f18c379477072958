-- Traces: how many threads make the calls of one.
use Rattle.std.proofs.Common.{ℕ, ◌+◌, ◌<◌, ◌≤◌, List, [], ◌∷◌, fold, inl, inr, ap, arith}
use Rattle.std.specs.Prelude.{All}
use Rattle.std.proofs.Math.Nat.{le-max_left, le-max_right}
use Rattle.nv_core.specs.state.Passes.{IsOneOf}
use Rattle.nv_trace.specs.Traced.{with_thread}
use Rattle.nv_trace.specs.declared.trace_call.TracedCall.{TracedCall}
use Rattle.nv_runner.proofs.histories.HistoryMembers.{of_each}

-- the count doesn't fall along the calls
count_grows : (calls : List TracedCall) (count : ℕ) → count ≤ fold with_thread count calls
count_grows [] count = omega arith
count_grows (call ∷ rest) count = let more = count_grows rest (with_thread count call) in let least = le-max_left count (call.thread + 1) in omega (arith, more, least)

thread_below : (calls : List TracedCall) (count : ℕ) (call : TracedCall) → IsOneOf calls call → call.thread < fold with_thread count calls
thread_below [] count call one = absurd one
thread_below (first ∷ rest) count call (inl is) =
    let same = ap (λ (c : TracedCall). c.thread) is in
    let more = count_grows rest (with_thread count first) in
    let least = le-max_right count (first.thread + 1) in
    omega (arith, same, more, least)
thread_below (first ∷ rest) count call (inr later) = thread_below rest (with_thread count first) call later

-- each call's thread is one of so many
pub threads_below : (calls : List TracedCall) (count : ℕ) → All (λ call. call.thread < fold with_thread count calls) calls
threads_below calls count = of_each (λ (call : TracedCall). call.thread < fold with_thread count calls) calls (thread_below calls count)
