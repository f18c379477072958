-- An input that is read round by round, where the calls of a round are dropped once the next one is read.
use Rattle.std.specs.Prelude.{ℕ, List, [], ◌∷◌, ◌++◌}
use Rattle.nv_trace.specs.NextRound.{IsNextRound}
use Rattle.nv_trace.specs.Reading.{Ending, Whole, Bad, Long}
use Rattle.nv_trace.specs.Traced.{Traced}
use Rattle.nv_trace.specs.declared.reader.LineReader.{LineReader}
use Rattle.nv_trace.specs.declared.trace_call.TracedCall.{TracedCall}

-- the trace without its calls
abbrev pub without_calls : Traced → Traced
without_calls trace = record trace { calls = [] }

-- the trace with more calls, before its own
abbrev pub behind_calls : List TracedCall → Traced → Traced
behind_calls calls trace = record trace { calls = calls ++ trace.calls }

-- how an input ends, where these calls come before those of its trace
abbrev pub ends_behind : List TracedCall → Ending → Ending
ends_behind calls (Whole trace) = Whole (behind_calls calls trace)
ends_behind calls (Bad bad) = Bad bad
ends_behind calls Long = Long

-- a round that was read: the trace and the reader behind it, and the bytes that are still to come
pub record ReadRound : Type 0 where
  pub trace : Traced
  pub reader : LineReader
  pub behind : List ℕ

-- These rounds of an input are read from here on, one behind the other, each behind a trace without calls; then it goes on from there.
abbrev pub AreReadFrom : Traced → LineReader → (input : List ℕ) → List ReadRound → (Traced → LineReader → List ℕ → Type 0) → Type 0
AreReadFrom trace reader input [] P = P trace reader input
AreReadFrom trace reader input (round ∷ rounds) P =
    IsNextRound trace reader input round.trace round.reader round.behind × AreReadFrom (without_calls round.trace) round.reader round.behind rounds P

-- the calls of rounds, one behind the other
abbrev pub calls_read : List ReadRound → List TracedCall
calls_read [] = []
calls_read (round ∷ rounds) = round.trace.calls ++ calls_read rounds
