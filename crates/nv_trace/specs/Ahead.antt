-- A reader amid a line: what it makes of the bytes that it has read ahead.
use Rattle.std.specs.Prelude.{◌≡◌, ℕ, ◌+◌, ◌-◌, ◌<◌, ◌≤◌, Bool, true, false, List, [], ◌++◌, length, take, Option, Some, IfSome, vec_len}
use Rattle.nv_trace.specs.NextRound.{ahead}
use Rattle.nv_trace.specs.Pending.{HasEndedRound, HasTaken, IsStuckIn}
use Rattle.nv_trace.specs.Reading.{largest_input}
use Rattle.nv_trace.specs.Traced.{Traced}
use Rattle.nv_trace.specs.declared.pending_line.PendingLine.{PendingLine}
use Rattle.nv_trace.specs.declared.read_error.LineError.TheVariants as line_errors
use Rattle.nv_trace.specs.declared.read_error.ReadError.{ReadError}
use Rattle.nv_trace.specs.declared.read_error.ReadError.TheVariants as read_errors
use Rattle.nv_trace.specs.declared.reader.LineReader.{LineReader}

-- no more than the largest input was taken: a byte at least for each line that ended and those of the pending one
pub record IsWithinLines (reader : LineReader) : Type 0 where
  pub start : reader.start ≤ reader.end
  pub end : reader.end ≤ 65536
  pub room : vec_len reader.buffer ≡ 65536
  pub taken : reader.taken ≤ largest_input
  pub number : reader.pending.number + length reader.pending.line.items ≤ reader.taken + 1

-- bytes are ahead, of those that were and of what a read of the source gave, where it tells; none at the end of the input alone
pub record HasFilled (left new_left : Option (List ℕ)) (old reader : LineReader) (some : Bool) : Type 0 where
  pub start : reader.start ≤ reader.end
  pub end : reader.end ≤ 65536
  pub some_ahead : some ≡ true → reader.start < reader.end
  pub none_ahead : some ≡ false → reader.start ≡ reader.end
  pub rest : IfSome left (λ input. (rest : List ℕ) × (new_left ≡ Some rest) × (ahead old ++ input ≡ ahead reader ++ rest))
  pub at_end : some ≡ false → IfSome left (λ _. new_left ≡ Some [])

-- the bytes ahead were taken, up to one that ends a round
abbrev pub HasTakenAhead : Traced → LineReader → Traced → LineReader → (ended : Bool) → Type 0
HasTakenAhead old_trace old trace new true =
    (bytes : List ℕ) × (ahead old ≡ bytes ++ ahead new) × HasEndedRound old_trace old.pending bytes trace new.pending × (new.taken ≡ old.taken + length bytes)
HasTakenAhead old_trace old trace new false =
    (new.start ≡ new.end) × HasTaken old_trace old.pending (ahead old) trace new.pending × (new.taken ≡ old.taken + length (ahead old))

-- those within the limit have a bad line before any that ends a round, or end none, and others are behind them
abbrev pub IsAheadRefused : Traced → LineReader → Traced → ReadError → Type 0
IsAheadRefused old_trace old trace (read_errors.Bad bad) = IsStuckIn old_trace old.pending (take (largest_input - old.taken) (ahead old)) trace (line_errors.Bad bad)
IsAheadRefused old_trace old trace read_errors.InputLong =
    (largest_input < old.taken + length (ahead old)) × (pending : PendingLine) × HasTaken old_trace old.pending (take (largest_input - old.taken) (ahead old)) trace pending
IsAheadRefused old_trace old trace read_errors.Failed = Unit {0}
IsAheadRefused old_trace old trace read_errors.NoMemory = Unit {0}
