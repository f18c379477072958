-- Reading a trace: which statements may follow which, and how an input ends.
use Rattle.std.specs.Prelude.{ℕ, ◌+◌, ◌==◌, nat_le, nat_lt, not, Bool, true, if◌then◌else◌, List, [], ◌∷◌, ◌++◌, length, take, Result, Ok, Err}
use Rattle.std.specs.List.{list_all}
use Rattle.nv_trace.specs.Lines.{ended_lines, fields_of, open_line}
use Rattle.nv_trace.specs.Lives.{lives_behind}
use Rattle.nv_trace.specs.Grammar.{and_then, is_printable}
use Rattle.nv_trace.specs.Said.{is_schedule, said, tokens_said}
use Rattle.nv_trace.specs.Streams.{counted}
use Rattle.nv_trace.specs.Traced.{Traced, empty_trace, lives_in}
use Rattle.nv_trace.specs.declared.bad_line.BadLine.{BadLine}
use Rattle.nv_trace.specs.declared.bad_line.Why.{Why}
use Rattle.nv_trace.specs.declared.bad_line.Why.TheVariants.{Long as LongLine, Bytes as OddBytes}
use Rattle.nv_trace.specs.declared.statement.Statement.{Statement}
use Rattle.nv_trace.specs.declared.statement.Statement.TheVariants.{File, Opened, Call, Round}
use Rattle.nv_trace.specs.declared.token.LineToken.{LineToken}
use Rattle.nv_trace.specs.declared.trace.Form.{Form}

-- the most bytes of a line that isn't skipped, and of an input
abbrev pub longest_line : ℕ
longest_line = 262400

abbrev pub largest_input : ℕ
largest_input = 67108864

-- the trace with one more statement
abbrev pub with_statement : Traced → ℕ → Statement → Traced
with_statement trace number (File name) = record trace { names = trace.names ++ name ∷ [] }
with_statement trace number (Opened descriptor) = record trace { descriptors = trace.descriptors ++ descriptor ∷ [] }
with_statement trace number (Call thread call) =
    record trace { calls = trace.calls ++ record { line = number; round = trace.rounds; thread = thread; call = call } ∷ [] }
with_statement trace number Round = record trace { rounds = counted trace.rounds }

-- the trace with more tokens
abbrev pub with_tokens : Traced → List LineToken → Traced
with_tokens trace tokens = record trace { lives = (lives_behind (lives_in trace) tokens).ended; tokens = (lives_behind (lives_in trace) tokens).tokens }

-- an empty line, and one that begins with `#`
abbrev pub is_skipped : List ℕ → Bool
is_skipped [] = true
is_skipped (first ∷ rest) = first == 35

-- the fields of a line that isn't skipped: it isn't too long, and each of its bytes prints
unfoldable pub fields_said : List ℕ → Result (List (List ℕ)) Why
fields_said line =
    if nat_lt longest_line (length line) then Err LongLine
    else if not (list_all is_printable line) then Err OddBytes
    else Ok (fields_of line)

-- the trace after the fields of a `steps` line
abbrev pub after_steps : Traced → List (List ℕ) → Result Traced Why
after_steps trace fields = and_then (λ tokens. Ok (with_tokens trace tokens)) (tokens_said trace fields)

-- the trace after the fields of any line
unfoldable pub after_fields : Traced → ℕ → List (List ℕ) → Result Traced Why
after_fields trace number fields =
    if is_schedule fields then after_steps trace fields
    else and_then (λ statement. Ok (with_statement trace number statement)) (said trace fields)

-- the trace after one more line, or why the line is bad
unfoldable pub after_line : Traced → ℕ → List ℕ → Result Traced Why
after_line trace number line = if is_skipped line then Ok trace else and_then (after_fields trace number) (fields_said line)

-- the trace after one more line that is to be a `steps` line, or why it is none
unfoldable pub after_schedule : Traced → List ℕ → Result Traced Why
after_schedule trace line = and_then (after_steps trace) (fields_said line)

-- how an input ends: as a whole trace, at its first bad line, or too long
pub data Ending : Type 0 where
  Whole : (trace : Traced) → Ending
  Bad : (bad : BadLine) → Ending
  Long : Ending

-- goes on behind a line, unless it is bad
abbrev pub unless_bad : (number : ℕ) → (Traced → Ending) → Result Traced Why → Ending
unless_bad number f (Ok next) = f next
unless_bad number f (Err why) = Bad (record { number = number; why = why })

-- the trace after more lines, the first of them with this number, or the first bad one
unfoldable pub after_lines : Traced → ℕ → List (List ℕ) → Ending
after_lines trace number [] = Whole trace
after_lines trace number (line ∷ lines) =
    unless_bad number (λ next. after_lines next (number + 1) lines) (after_line trace number line)

-- a bad line comes before the length
abbrev pub long_unless_bad : Ending → Ending
long_unless_bad (Whole trace) = Long
long_unless_bad (Bad bad) = Bad bad
long_unless_bad Long = Long

-- How an input ends that is read for this. Of one that is too long only the lines that end within the limit count.
unfoldable pub ending_of : Form → List ℕ → Ending
ending_of form input =
    if nat_le (length input) largest_input
    then after_lines (empty_trace form) 1 (ended_lines input ++ open_line input)
    else long_unless_bad (after_lines (empty_trace form) 1 (ended_lines (take largest_input input)))
