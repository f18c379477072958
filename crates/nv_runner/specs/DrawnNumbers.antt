-- Drawn numbers: in which order calls drew their numbers of the log, and which these are.
use Rattle.std.specs.Prelude.{◌≡◌, ℕ, ◌+◌, nat_lt, List, [], ◌∷◌, map, filter, sum_by, All, IsPermutation}
use Rattle.nv_table.specs.state.Views.{AreDistinctNumbers}
use Rattle.nv_trace.specs.declared.trace_call.TraceCall.{TraceCall}
use Rattle.nv_trace.specs.declared.trace_call.TracedCall.{TracedCall}
use Rattle.nv_runner.specs.Histories.{KeepOrder}

-- a call that drew numbers, one for each entry that it takes, and the first of them
pub record DrawnCall : Type 0 where
  pub call : TracedCall
  pub number : ℕ

-- The calls drew one after another, from this number on: each begins where the one before it ended.
abbrev pub AreInARow : (taken : TraceCall → ℕ) → (next : ℕ) → List DrawnCall → Type 0
AreInARow taken next [] = Unit {0}
AreInARow taken next (drawn ∷ later) = (drawn.number ≡ next) × AreInARow taken (next + taken drawn.call.call) later

-- Some calls drew in a row, each once, in an order that keeps each thread's lines and the rounds.
pub record DrewInARow (taken : TraceCall → ℕ) (next : ℕ) (calls : List TracedCall) : Type 0 where
  pub drawn : List DrawnCall
  pub each_once : IsPermutation calls (map (λ d. d.call) drawn)
  pub in_order : KeepOrder (map (λ d. d.call) drawn)
  pub row : AreInARow taken next drawn

-- Of one thread the order is that of its lines: where no two of its calls are of one line, each drew the first number and one more for each entry of the calls in earlier lines.
abbrev pub OneThreadDrawsByLine : Type 0
OneThreadDrawsByLine =
    (taken : TraceCall → ℕ) (next thread : ℕ) (calls : List TracedCall) (drew : DrewInARow taken next calls)
    → All (λ call. call.thread ≡ thread) calls → AreDistinctNumbers (map (λ call. call.line) calls)
    → All (λ d. d.number ≡ next + sum_by (λ call. taken call.call) (filter (λ call. nat_lt call.line d.call.line) calls)) drew.drawn
