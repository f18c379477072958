-- The rounds of an input, one behind the other, are all of it.
use Rattle.std.proofs.Common.{◌≡◌, ℕ, true, List, [], ◌∷◌, ◌++◌, refl, sym, ap, ◌∙◌}
use Rattle.std.proofs.lemmas.List.{append-nil, append_assoc}
use Rattle.nv_trace.specs.Lines.{ended_lines}
use Rattle.nv_trace.specs.NextRound.{IsAtLine, IsLastRound, IsNextRound, IsRoundRefused, input_ends}
use Rattle.nv_trace.specs.Pending.{ending_after, ending_from}
use Rattle.nv_trace.specs.ReadRounds.{AreReadFrom, ReadRound, behind_calls, calls_read, ends_behind, without_calls}
use Rattle.nv_trace.specs.Reading.{Ending, Whole, Bad, Long, ending_of}
use Rattle.nv_trace.specs.Refused.{IsRefusedAs}
use Rattle.nv_trace.specs.Traced.{Traced, empty_trace}
use Rattle.nv_trace.specs.declared.read_error.ReadError.{ReadError}
use Rattle.nv_trace.specs.declared.read_error.ReadError.TheVariants as read_errors
use Rattle.nv_trace.specs.declared.trace.Form.{Form}
use Rattle.nv_trace.specs.declared.reader.LineReader.{LineReader}
use Rattle.nv_trace.specs.declared.trace_call.TracedCall.{TracedCall}
use Rattle.nv_trace.proofs.Endings.{at_end, ending_at_start, open_ended}
use Rattle.nv_trace.proofs.Forgotten.{input_behind, round_ends}

pub behind_twice : (first more : List TracedCall) (ending : Ending) → ends_behind first (ends_behind more ending) ≡ ends_behind (first ++ more) ending
behind_twice first more (Whole trace) = ap (λ calls. Whole (record trace { calls = calls })) (sym (append_assoc first more trace.calls))
behind_twice first more (Bad bad) = refl
behind_twice first more Long = refl

pub behind_none : (ending : Ending) → ends_behind [] ending ≡ ending
behind_none (Whole trace) = refl
behind_none (Bad bad) = refl
behind_none Long = refl

-- behind a round its calls may be dropped
pub step : (trace : Traced) (old : LineReader) (input : List ℕ) (next : Traced) (new : LineReader) (behind : List ℕ) → IsNextRound trace old input next new behind
    → input_ends trace old input ≡ ends_behind next.calls (input_ends (without_calls next) new behind)
step trace old input next new behind round =
    ap (input_ends trace old) round.rest
    ∙ sym (round.goes_on behind)
    ∙ ap (λ calls. input_ends (record next { calls = calls }) new behind) (sym (append-nil next.calls))
    ∙ input_behind next.calls (without_calls next) new.pending.number new.pending.line.items new.taken behind (round_ends trace next old.pending.number (ended_lines round.bytes) round.round.ended round.read)

-- whatever follows it
pub step_before : {trace : Traced} {old : LineReader} {input : List ℕ} {next : Traced} {new : LineReader} {behind : List ℕ} (round : IsNextRound trace old input next new behind) (more : List ℕ)
    → input_ends trace old (round.bytes ++ more) ≡ ends_behind next.calls (input_ends (without_calls next) new more)
step_before {trace = trace} {old = old} {next = next} {new = new} round more =
    step trace old (round.bytes ++ more) next new more (record { bytes = round.bytes; round = round.round; rest = refl; read = round.read; goes_on = round.goes_on })

-- as those of all rounds are
pub chain : (rounds : List ReadRound) (trace : Traced) (reader : LineReader) (input : List ℕ) (P : Traced → LineReader → List ℕ → Type 0) (ending : Ending) → AreReadFrom trace reader input rounds P
    → ((trace : Traced) (reader : LineReader) (input : List ℕ) → P trace reader input → input_ends trace reader input ≡ ending) → input_ends trace reader input ≡ ends_behind (calls_read rounds) ending
chain [] trace reader input P ending read says = says trace reader input read ∙ sym (behind_none ending)
chain (round ∷ rounds) trace reader input P ending read says =
    step trace reader input round.trace round.reader round.behind read.0
    ∙ ap (ends_behind round.trace.calls) (chain rounds (without_calls round.trace) round.reader round.behind P ending read.1 says)
    ∙ behind_twice round.trace.calls (calls_read rounds) ending

-- before a line nothing more is said
pub nothing_more : (trace : Traced) (reader : LineReader) → IsAtLine reader → input_ends trace reader [] ≡ Whole trace
nothing_more trace reader at_line =
    at_end trace reader.pending reader.taken at_line.taken ∙ ap (λ line. ending_after true trace reader.pending.number line []) at_line.bare ∙ open_ended trace reader.pending.number []

-- the rounds so far are a front of the input
fronts : (rounds : List ReadRound) (trace : Traced) (reader : LineReader) (input : List ℕ) (last : Traced) → AreReadFrom trace reader input rounds (λ trace reader input. IsAtLine reader × (trace ≡ last))
    → (front : List ℕ) × (rest : List ℕ) × (input ≡ front ++ rest) × (input_ends trace reader front ≡ ends_behind (calls_read rounds) (Whole last))
fronts [] trace reader input last read = ([], input, refl, nothing_more trace reader read.0 ∙ ap Whole read.1 ∙ sym (behind_none (Whole last)))
fronts (round ∷ rounds) trace reader input last read =
    let first = read.0 in
    let later = fronts rounds (without_calls round.trace) round.reader round.behind last read.1 in (
      first.bytes ++ later.0,
      later.1,
      first.rest ∙ ap (λ behind. first.bytes ++ behind) later.2 ∙ sym (append_assoc first.bytes later.0 later.1),
      step_before first later.0 ∙ ap (ends_behind round.trace.calls) later.3 ∙ behind_twice round.trace.calls (calls_read rounds) (Whole last),
    )

pub from_start : (form : Form) (reader : LineReader) (input : List ℕ) → reader.pending.line.items ≡ [] → reader.pending.number ≡ 1 → reader.taken ≡ 0 → input_ends (empty_trace form) reader input ≡ ending_of form input
from_start form reader input bare number taken =
    ap (λ line. ending_from (empty_trace form) reader.pending.number line reader.taken input) bare
    ∙ ap (λ number. ending_from (empty_trace form) number [] reader.taken input) number
    ∙ ap (λ taken. ending_from (empty_trace form) 1 [] taken input) taken
    ∙ ending_at_start form input

module _ (form : Form) (reader : LineReader) (input : List ℕ) (bare : reader.pending.line.items ≡ []) (number : reader.pending.number ≡ 1) (taken : reader.taken ≡ 0) (rounds : List ReadRound) where
  pub made_whole : (last : Traced) → AreReadFrom (empty_trace form) reader input rounds (λ trace reader input. IsLastRound trace reader input last) → ending_of form input ≡ Whole (behind_calls (calls_read rounds) last)
  made_whole last read =
      sym (from_start form reader input bare number taken)
      ∙ chain rounds (empty_trace form) reader input (λ trace reader input. IsLastRound trace reader input last) (Whole last) read (λ trace reader input ends. ends.whole)

  pub made_front : (last : Traced) → AreReadFrom (empty_trace form) reader input rounds (λ trace reader input. IsAtLine reader × (trace ≡ last))
      → (front : List ℕ) × (rest : List ℕ) × (input ≡ front ++ rest) × (ending_of form front ≡ Whole (behind_calls (calls_read rounds) last))
  made_front last read =
      let front = fronts rounds (empty_trace form) reader input last read in
      (front.0, front.1, front.2, sym (from_start form reader front.0 bare number taken) ∙ front.3)

  pub made_refused : (last : Traced) (error : ReadError) → AreReadFrom (empty_trace form) reader input rounds (λ trace reader input. IsRoundRefused trace reader input last error) → IsRefusedAs form error input
  made_refused last (read_errors.Bad bad) read =
      sym (from_start form reader input bare number taken)
      ∙ chain rounds (empty_trace form) reader input (λ trace reader input. IsRoundRefused trace reader input last (read_errors.Bad bad)) (Bad bad) read (λ trace reader input ends. ends.whole)
  made_refused last read_errors.InputLong read =
      sym (from_start form reader input bare number taken)
      ∙ chain rounds (empty_trace form) reader input (λ trace reader input. IsRoundRefused trace reader input last read_errors.InputLong) Long read (λ trace reader input ends. ends.whole)
  made_refused last read_errors.Failed read = tt
  made_refused last read_errors.NoMemory read = tt
