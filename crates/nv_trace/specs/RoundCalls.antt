-- What the lines of a round add to a trace.
use Rattle.std.specs.Prelude.{◌≡◌, ℕ, ◌^◌, ◌<◌, ◌≤◌, List, ◌++◌, All}
use Rattle.nv_trace.specs.Traced.{Traced}
use Rattle.nv_trace.specs.declared.trace_call.TracedCall.{TracedCall}

-- Calls of its own round behind those that it holds, from this line on; behind a round no file and no descriptor; and no fewer rounds, as long as they are counted.
pub record AddsCalls (number : ℕ) (trace next : Traced) : Type 0 where
  pub calls : List TracedCall
  pub behind : next.calls ≡ trace.calls ++ calls
  pub round : All (λ call. call.round ≡ trace.rounds) calls
  pub lines : All (λ call. number ≤ call.line) calls
  pub declared : 0 < trace.rounds → (next.names ≡ trace.names) × (next.descriptors ≡ trace.descriptors)
  pub rounds : trace.rounds < 2 ^ 64 → trace.rounds ≤ next.rounds
