-- How an input ends, by what is kept of its front and by the bytes that are still to come.
use Rattle.std.specs.Prelude.{◌≡◌, ℕ, ◌+◌, ◌-◌, ◌≤◌, ◌==◌, nat_le, Bool, true, false, if◌then◌else◌, List, [], ◌∷◌, ◌++◌, length, take, slice_index, Option, Some, None}
use Rattle.std.specs.List.{list_any}
use Rattle.nv_trace.specs.Lines.{parts_between, onto_first, but_last, last_if_some}
use Rattle.nv_trace.specs.Traced.{Traced}
use Rattle.nv_trace.specs.Reading.{Ending, Whole, Bad, after_lines, long_unless_bad, largest_input, longest_line}
use Rattle.nv_trace.specs.declared.read_error.LineError.{LineError}
use Rattle.nv_trace.specs.declared.read_error.LineError.TheVariants as line_errors
use Rattle.nv_trace.specs.Rounds.{ends_round}
use Rattle.nv_trace.specs.declared.bad_line.BadLine.{BadLine}
use Rattle.nv_trace.specs.declared.pending_line.PendingLine.{PendingLine}

-- some bytes before the first part
abbrev pub onto_line : List ℕ → List (List ℕ) → List (List ℕ)
onto_line [] parts = parts
onto_line (byte ∷ line) parts = onto_first byte (onto_line line parts)

-- the lines that count: those that are ended, and of a whole input the pending one too
abbrev pub counted_lines : (whole : Bool) → List (List ℕ) → List (List ℕ)
counted_lines true parts = but_last parts ++ last_if_some parts
counted_lines false parts = but_last parts

-- How many more bytes are kept of an pending line, of which some are kept and more have come: of one that is skipped
-- one in all, and of others one more than the longest line has.
abbrev pub room_for : (line part : List ℕ) → ℕ
room_for line part = (if slice_index (line ++ part) 0 == 35 then 1 else longest_line + 1) - length line

-- how the lines end, after this trace, where these bytes are kept of the pending line
unfoldable pub ending_after : (whole : Bool) → Traced → (number : ℕ) → (line rest : List ℕ) → Ending
ending_after whole trace number line rest = after_lines trace number (counted_lines whole (onto_line line (parts_between 10 rest)))

-- the same, of what is kept of the pending line
abbrev pub lines_end : (whole : Bool) → Traced → PendingLine → (rest : List ℕ) → Ending
lines_end whole trace pending rest = ending_after whole trace pending.number pending.line.items rest

-- how the input ends, of which so many bytes were taken
unfoldable pub ending_from : Traced → (number : ℕ) → (line : List ℕ) → (taken : ℕ) → (rest : List ℕ) → Ending
ending_from trace number line taken rest =
    if nat_le (taken + length rest) largest_input then ending_after true trace number line rest
    else long_unless_bad (ending_after false trace number line (take (largest_input - taken) rest))

-- whether a round is ended by these bytes, behind those of an pending line
abbrev pub has_round_behind : (line rest : List ℕ) → Bool
has_round_behind line rest = list_any ends_round (but_last (onto_line line (parts_between 10 rest)))

-- these bytes were taken: what follows them is read as if all were still to come, and none of them ends a round
pub record HasTaken (old_trace : Traced) (old : PendingLine) (bytes : List ℕ) (trace : Traced) (pending : PendingLine) : Type 0 where
  pub lines : (whole : Bool) (rest : List ℕ) → lines_end whole trace pending rest ≡ lines_end whole old_trace old (bytes ++ rest)
  pub no_round : (rest : List ℕ) → has_round_behind pending.line.items rest ≡ has_round_behind old.line.items (bytes ++ rest)

-- they were taken, and the last of them, and none before it, ends a round
pub record HasEndedRound (old_trace : Traced) (old : PendingLine) (bytes : List ℕ) (trace : Traced) (pending : PendingLine) : Type 0 where
  pub lines : (whole : Bool) (rest : List ℕ) → lines_end whole trace pending rest ≡ lines_end whole old_trace old (bytes ++ rest)
  pub bare : pending.line.items ≡ []
  pub before : List ℕ
  pub is : bytes ≡ before ++ 10 ∷ []
  pub first : has_round_behind old.line.items before ≡ false
  pub ended : has_round_behind old.line.items bytes ≡ true

-- so many of them were, where they end a round, or else all
abbrev pub HasTakenLines : Traced → PendingLine → List ℕ → Traced → PendingLine → Option ℕ → Type 0
HasTakenLines old_trace old bytes trace pending None = HasTaken old_trace old bytes trace pending
HasTakenLines old_trace old bytes trace pending (Some count) = (count ≤ length bytes) × HasEndedRound old_trace old (take count bytes) trace pending

-- the lines end at this bad one; want of memory says nothing of them
abbrev pub EndsAt : LineError → Ending → Type 0
EndsAt (line_errors.Bad bad) ending = ending ≡ Bad bad
EndsAt line_errors.NoMemory ending = Unit {0}

-- one of them ends a line that is bad, and none before it ends a round; the trace is the one before that line
pub record IsStuckAt (old_trace : Traced) (old : PendingLine) (bytes : List ℕ) (trace : Traced) (bad : BadLine) : Type 0 where
  pub front : List ℕ
  pub behind : List ℕ
  pub is : bytes ≡ front ++ 10 ∷ behind
  pub no_round : has_round_behind old.line.items front ≡ false
  pub line : (whole : Bool) (rest : List ℕ) → lines_end whole old_trace old (front ++ 10 ∷ rest) ≡ Bad bad
  pub kept : lines_end false old_trace old front ≡ Whole trace

abbrev pub IsStuckIn : Traced → PendingLine → List ℕ → Traced → LineError → Type 0
IsStuckIn old_trace old bytes trace (line_errors.Bad bad) = IsStuckAt old_trace old bytes trace bad
IsStuckIn old_trace old bytes trace line_errors.NoMemory = Unit {0}
