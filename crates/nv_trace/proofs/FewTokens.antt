-- A trace has no more tokens and lives than bytes were read.
use Rattle.std.proofs.Common.{◌≡◌, ◌+◌, ◌-◌, ◌≤◌, ◌<◌, ℕ, Bool, true, false, cond, List, [], ◌∷◌, ◌++◌, length, take, Option, Some, None, Result, Ok, Err, refl, sym, ap, arith, eqb, leb, ltb, not, subst, ◌∙◌, ◌&&◌}
use Rattle.std.specs.Prelude.{IfOk, IfSome, sum_by, codes}
use Rattle.std.specs.List.{list_all}
use Rattle.std.specs.Option.{ok_or, option_and_then, option_map}
use Rattle.std.proofs.lemmas.Bool.{leb-true}
use Rattle.std.proofs.lemmas.List.{length-append, length_push}
use Rattle.std.proofs.lemmas.List.Sums.{sum_by_push}
use Rattle.nv_trace.specs.Forms.{has_steps}
use Rattle.nv_trace.specs.Grammar.{and_then, is_printable, says}
use Rattle.nv_trace.specs.Lines.{but_last, ended_lines, fields_of, last_if_some, onto_first, open_line, parts_between}
use Rattle.nv_trace.specs.Lives.{TracedLife, TracedLives, lives_behind, with_token}
use Rattle.nv_trace.specs.NextRound.{IsLastRound, IsNextRound}
use Rattle.nv_trace.specs.Pending.{ending_after, ending_from}
use Rattle.nv_trace.specs.Reading.{Ending, Whole, Bad, Long, after_fields, after_line, after_lines, ending_of, fields_said, is_skipped, largest_input, long_unless_bad, longest_line, unless_bad, with_statement, with_tokens}
use Rattle.nv_trace.specs.Said.{is_schedule, said, tokens_said}
use Rattle.nv_trace.specs.Tokens.{token_of, tokens_of}
use Rattle.nv_trace.specs.Traced.{Traced, empty_trace, lives_in, token_count}
use Rattle.nv_trace.specs.declared.bad_line.Why.{Why}
use Rattle.nv_trace.specs.declared.bad_line.Why.TheVariants.{Form as BadForm, Long as LongLine, Bytes as OddBytes}
use Rattle.nv_trace.specs.declared.reader.LineReader.{LineReader}
use Rattle.nv_trace.specs.declared.statement.Statement.{Statement}
use Rattle.nv_trace.specs.declared.statement.Statement.TheVariants.{File, Opened, Call, Round}
use Rattle.nv_trace.specs.declared.token.LineToken.{LineToken}
use Rattle.nv_trace.specs.declared.token.LineToken.TheVariants.{Inside, Crash}
use Rattle.nv_trace.specs.declared.trace.Form.{Form}
use Rattle.nv_trace.proofs.Endings.{ending_at_start}

-- tokens and crashes
abbrev count_in : TracedLives → ℕ
count_in lives = sum_by (λ (life : TracedLife). length life.tokens) lives.ended + length lives.tokens + length lives.ended

abbrev counted_in : Traced → ℕ
counted_in trace = token_count trace + length trace.lives

one_counted : (lives : TracedLives) (token : LineToken) → count_in (with_token lives token) ≡ count_in lives + 1
one_counted lives (Inside token) = omega (arith, length_push lives.tokens token)
one_counted lives (Crash pick) =
    let life : TracedLife = record { tokens = lives.tokens; pick = pick } in
    omega (arith, sum_by_push (λ (life : TracedLife). length life.tokens) lives.ended life, length_push lives.ended life)

all_counted : (lives : TracedLives) (tokens : List LineToken) → count_in (lives_behind lives tokens) ≡ count_in lives + length tokens
all_counted lives [] = omega arith
all_counted lives (token ∷ tokens) = omega (arith, one_counted lives token, all_counted (with_token lives token) tokens)

-- as many tokens as fields
fields_counted : (fields : List (List ℕ)) → IfSome (tokens_of fields) (λ tokens. length tokens ≡ length fields)
unfolding tokens_of
fields_counted [] = refl
fields_counted (field ∷ fields) = on (token_of field) (tokens_of fields) (fields_counted fields)
  where
    on : (token : Option LineToken) (tokens : Option (List LineToken)) → IfSome tokens (λ tokens. length tokens ≡ length fields)
        → IfSome (option_and_then (λ token. option_map (λ tokens. token ∷ tokens) tokens) token) (λ tokens. length tokens ≡ length (field ∷ fields))
    on None tokens same = tt
    on (Some token) None same = tt
    on (Some token) (Some tokens) same = omega (arith, same)

-- no more fields than bytes, and one
onto_long : (byte : ℕ) (parts : List (List ℕ)) → length (onto_first byte parts) ≤ length parts + 1
onto_long byte [] = omega arith
onto_long byte (first ∷ rest) = omega arith

onto_some : (byte : ℕ) (parts : List (List ℕ)) → 0 < length parts → length (onto_first byte parts) ≡ length parts
onto_some byte [] some = absurd (omega arith)
onto_some byte (first ∷ rest) some = refl

parts_long : (separator : ℕ) (text : List ℕ) → (0 < length (parts_between separator text)) × (length (parts_between separator text) ≤ length text + 1)
unfolding parts_between
parts_long separator [] = (omega arith, omega arith)
parts_long separator (byte ∷ text) = on (eqb byte separator) (parts_between separator text) (parts_long separator text)
  where
    on : (test : Bool) (parts : List (List ℕ)) → (0 < length parts) × (length parts ≤ length text + 1)
        → (0 < length (cond test ([] ∷ parts) (onto_first byte parts))) × (length (cond test ([] ∷ parts) (onto_first byte parts)) ≤ length (byte ∷ text) + 1)
    on true parts few = (omega arith, omega (arith, few.1))
    on false parts few = let same = onto_some byte parts few.0 in (omega (arith, same, few.0), omega (arith, same, few.1))

IsWithin : ℕ → Result (List LineToken) Why → Type 0
IsWithin most read = IfOk read (λ tokens. length tokens ≤ most)

said_few : (trace : Traced) (fields : List (List ℕ)) (most : ℕ) → length fields ≤ most + 1 → IfOk (tokens_said trace fields) (λ tokens. length tokens ≤ most)
unfolding tokens_said
said_few trace [] most few = tt
said_few trace (word ∷ []) most few = tt
said_few trace (word ∷ field ∷ fields) most few = on (says word (codes "steps") && has_steps trace.form) (tokens_of (field ∷ fields)) (fields_counted (field ∷ fields))
  where
    on : (test : Bool) (tokens : Option (List LineToken)) → IfSome tokens (λ tokens. length tokens ≡ length (field ∷ fields)) → IfOk (cond test (ok_or tokens BadForm) (Err BadForm)) (λ tokens. length tokens ≤ most)
    on false tokens same = tt
    on true None same = tt
    on true (Some tokens) same = omega (arith, same, few)

-- a line adds no more than its bytes
module _ (trace : Traced) (number most : ℕ) where
  abbrev AddsFew : Result Traced Why → Type 0
  AddsFew read = IfOk read (λ next. counted_in next ≤ counted_in trace + most)

  tokens_add : (read : Result (List LineToken) Why) → IfOk read (λ tokens. length tokens ≤ most) → AddsFew (and_then (λ tokens. Ok (with_tokens trace tokens)) read)
  tokens_add (Ok tokens) few = omega (arith, all_counted (lives_in trace) tokens, few)
  tokens_add (Err why) few = tt

  statement_adds : (read : Result Statement Why) → AddsFew (and_then (λ statement. Ok (with_statement trace number statement)) read)
  statement_adds (Ok (File name)) = omega arith
  statement_adds (Ok (Opened descriptor)) = omega arith
  statement_adds (Ok (Call thread call)) = omega arith
  statement_adds (Ok Round) = omega arith
  statement_adds (Err why) = tt

  either_adds : (test : Bool) (a b : Result Traced Why) → AddsFew a → AddsFew b → AddsFew (cond test a b)
  either_adds true a b p q = p
  either_adds false a b p q = q

  fields_add : (fields : List (List ℕ)) → length fields ≤ most + 1 → AddsFew (after_fields trace number fields)
  unfolding after_fields
  fields_add fields few = either_adds (is_schedule fields) _ _ (tokens_add (tokens_said trace fields) (said_few trace fields most few)) (statement_adds (said trace fields))

line_adds : (trace : Traced) (number : ℕ) (line : List ℕ) → AddsFew trace number (length line) (after_line trace number line)
unfolding after_line fields_said
line_adds trace number line = either_adds trace number (length line) (is_skipped line) (Ok trace) _ (omega arith) (on (ltb longest_line (length line)) (not (list_all is_printable line)))
  where
    on : (long odd : Bool) → AddsFew trace number (length line) (and_then (after_fields trace number) (cond long (Err LongLine) (cond odd (Err OddBytes) (Ok (fields_of line)))))
    on true odd = tt
    on false true = tt
    on false false = fields_add trace number (length line) (fields_of line) (parts_long 32 line).1

-- and so do all lines
bytes_in : List (List ℕ) → ℕ
bytes_in [] = 0
bytes_in (line ∷ lines) = length line + bytes_in lines

EndsFew : ℕ → Ending → Type 0
EndsFew most (Whole trace) = counted_in trace ≤ most
EndsFew most (Bad bad) = Unit {0}
EndsFew most Long = Unit {0}

ends_fewer : (less most : ℕ) (ending : Ending) → less ≤ most → EndsFew less ending → EndsFew most ending
unfolding EndsFew
ends_fewer less most (Whole trace) more few = omega (arith, more, few)
ends_fewer less most (Bad bad) more few = tt
ends_fewer less most Long more few = tt

lines_few : (trace : Traced) (number : ℕ) (lines : List (List ℕ)) → EndsFew (counted_in trace + bytes_in lines) (after_lines trace number lines)
unfolding after_lines EndsFew bytes_in
lines_few trace number [] = omega arith
lines_few trace number (line ∷ lines) = on (after_line trace number line) (line_adds trace number line) (λ next. lines_few next (number + 1) lines)
  where
    on : (read : Result Traced Why) → AddsFew trace number (length line) read → ((next : Traced) → EndsFew (counted_in next + bytes_in lines) (after_lines next (number + 1) lines))
        → EndsFew (counted_in trace + (length line + bytes_in lines)) (unless_bad number (λ next. after_lines next (number + 1) lines) read)
    on (Ok next) adds few = ends_fewer (counted_in next + bytes_in lines) (counted_in trace + (length line + bytes_in lines)) (after_lines next (number + 1) lines) (omega (arith, adds)) (few next)
    on (Err why) adds few = tt

-- the lines of an input have no more bytes than it
onto_bytes : (byte : ℕ) (parts : List (List ℕ)) → bytes_in (onto_first byte parts) ≡ bytes_in parts + 1
unfolding bytes_in
onto_bytes byte [] = refl
onto_bytes byte (first ∷ rest) = omega arith

parts_bytes : (separator : ℕ) (text : List ℕ) → bytes_in (parts_between separator text) ≤ length text
unfolding parts_between bytes_in
parts_bytes separator [] = omega arith
parts_bytes separator (byte ∷ text) = on (eqb byte separator) (parts_between separator text) (parts_bytes separator text)
  where
    on : (test : Bool) (parts : List (List ℕ)) → bytes_in parts ≤ length text → bytes_in (cond test ([] ∷ parts) (onto_first byte parts)) ≤ length (byte ∷ text)
    on true parts few = omega (arith, few)
    on false parts few = omega (arith, onto_bytes byte parts, few)

split_bytes : (parts : List (List ℕ)) → bytes_in (but_last parts ++ last_if_some parts) ≤ bytes_in parts
unfolding bytes_in
split_bytes [] = omega arith
split_bytes ([] ∷ []) = omega arith
split_bytes ((byte ∷ bytes) ∷ []) = omega arith
split_bytes ([] ∷ second ∷ rest) = omega (arith, split_bytes (second ∷ rest))
split_bytes ((byte ∷ bytes) ∷ second ∷ rest) = omega (arith, split_bytes (second ∷ rest))

never_long : (most : ℕ) (ending : Ending) → EndsFew most (long_unless_bad ending)
unfolding EndsFew
never_long most (Whole trace) = tt
never_long most (Bad bad) = tt
never_long most Long = tt

front_bytes : (lines more : List (List ℕ)) → bytes_in lines ≤ bytes_in (lines ++ more)
unfolding bytes_in
front_bytes [] more = omega arith
front_bytes (line ∷ lines) more = omega (arith, front_bytes lines more)

-- an input that isn't too long adds no more than its bytes
from_few : (trace : Traced) (number taken most : ℕ) (rest : List ℕ) → (taken + length rest ≤ largest_input → counted_in trace + length rest ≤ most) → EndsFew most (ending_from trace number [] taken rest)
unfolding ending_from ending_after
from_few trace number taken most rest few = on (leb (taken + length rest) largest_input) refl
  where
    on : (test : Bool) → leb (taken + length rest) largest_input ≡ test
        → EndsFew most (cond test (after_lines trace number (ended_lines rest ++ open_line rest)) (long_unless_bad (ending_after false trace number [] (take (largest_input - taken) rest))))
    on true is =
        ends_fewer (counted_in trace + bytes_in (ended_lines rest ++ open_line rest)) most (after_lines trace number (ended_lines rest ++ open_line rest))
        (omega (arith, split_bytes (parts_between 10 rest), parts_bytes 10 rest, few (leb-true (taken + length rest) largest_input is)))
        (lines_few trace number (ended_lines rest ++ open_line rest))
    on false is = never_long most (ending_after false trace number [] (take (largest_input - taken) rest))

pub few_tokens : (form : Form) (input : List ℕ) (trace : Traced) → ending_of form input ≡ Whole trace → token_count trace + length trace.lives ≤ largest_input
unfolding EndsFew
few_tokens form input trace is =
    subst (EndsFew largest_input) (ending_at_start form input ∙ is) (from_few (empty_trace form) 1 0 largest_input input (λ fits. omega (arith, fits)))

-- a round adds no more than its bytes
pub round_few : (trace : Traced) (old : LineReader) (input : List ℕ) (next : Traced) (new : LineReader) (behind : List ℕ) → IsNextRound trace old input next new behind → counted_in next + length behind ≤ counted_in trace + length input
unfolding EndsFew
round_few trace old input next new behind round =
    let bytes = round.bytes in
    let few : counted_in next ≤ counted_in trace + bytes_in (ended_lines bytes) = subst (EndsFew (counted_in trace + bytes_in (ended_lines bytes))) round.read (lines_few trace old.pending.number (ended_lines bytes)) in
    omega (arith, few, front_bytes (ended_lines bytes) (open_line bytes), split_bytes (parts_between 10 bytes), parts_bytes 10 bytes, ap length round.rest, length-append bytes behind)

-- nor does the last one
pub last_few : (trace : Traced) (old : LineReader) (input : List ℕ) (next : Traced) → old.pending.line.items ≡ [] → IsLastRound trace old input next → counted_in next ≤ counted_in trace + length input
unfolding EndsFew
last_few trace old input next bare last =
    subst (EndsFew (counted_in trace + length input)) (ap (λ line. ending_from trace old.pending.number line old.taken input) (sym bare) ∙ last.whole)
    (from_few trace old.pending.number old.taken (counted_in trace + length input) input (λ fits. omega arith))
