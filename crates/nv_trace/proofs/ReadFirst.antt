-- Rounds of an input that were read are some first rounds of it.
use Rattle.std.proofs.Common.{◌≡◌, ℕ, true, false, ◌||◌, List, [], ◌∷◌, ◌++◌, codes, sym, ap, ◌∙◌}
use Rattle.std.specs.List.{list_any}
use Rattle.std.specs.Cmp.Lexicographic.{same_text}
use Rattle.std.proofs.Math.Bool.{or-false}
use Rattle.std.proofs.lemmas.Bool.{or_parts}
use Rattle.std.proofs.lemmas.List.{append-nil, append_assoc}
use Rattle.nv_trace.specs.FirstRounds.{AreFirstRounds, RoundsReadAreFirst}
use Rattle.nv_trace.specs.Lines.{but_last, ended_lines, parts_between}
use Rattle.nv_trace.specs.NextRound.{IsAtLine, input_ends}
use Rattle.nv_trace.specs.ReadRounds.{AreReadFrom, ReadRound, calls_read, ends_behind, without_calls}
use Rattle.nv_trace.specs.Reading.{Whole}
use Rattle.nv_trace.specs.Rounds.{IsRound, ends_round}
use Rattle.nv_trace.specs.Traced.{Traced, empty_trace}
use Rattle.nv_trace.specs.declared.reader.LineReader.{LineReader}
use Rattle.nv_trace.proofs.FirstRounds.{lines_before, lines_of}
use Rattle.nv_trace.proofs.Parts.{parts_some}
use Rattle.nv_trace.proofs.RoundChains.{behind_none, behind_twice, from_start, nothing_more, step_before}

-- ---- the last line of a round

last_line : (line : List ℕ) (lines : List (List ℕ)) → list_any ends_round (but_last (line ∷ lines)) ≡ false → list_any ends_round (line ∷ lines) ≡ true
    → (before : List (List ℕ)) × (line ∷ lines ≡ before ++ codes "round" ∷ [])
last_line line [] none some = ([], ap (λ line. line ∷ []) (same_text line (codes "round") (sym some ∙ or-false (ends_round line))))
last_line line (second ∷ lines) none some =
    let parts = or_parts (ends_round line) (list_any ends_round (but_last (second ∷ lines))) none in
    let later = last_line second lines parts.1 (ap (λ test. test || list_any ends_round (second ∷ lines)) (sym parts.0) ∙ some) in
    (line ∷ later.0, ap (λ lines. line ∷ lines) later.1)

round_last : {bytes : List ℕ} → IsRound bytes → (lines : List (List ℕ)) × (ended_lines bytes ≡ lines ++ codes "round" ∷ [])
round_last round =
    let parts = parts_some 10 round.before in
    let all = ap ended_lines round.is ∙ lines_before round.before ∙ parts.whole in
    let last = last_line parts.first parts.rest (ap (λ lines. list_any ends_round (but_last lines)) (sym parts.whole) ∙ round.first) (ap (list_any ends_round) (sym all) ∙ round.ended) in
    (last.0, all ∙ last.1)

-- ---- rounds, one behind the other

pub first_round : {input bytes : List ℕ} (behind : List ℕ) → IsRound bytes → input ≡ bytes ++ behind → AreFirstRounds input bytes
first_round behind round is =
    let last = round_last round in
    record { before = round.before; is = round.is; lines = last.0; last = last.1; rest = behind; first = is }

pub round_before : {input bytes behind later : List ℕ} → IsRound bytes → input ≡ bytes ++ behind → AreFirstRounds behind later → AreFirstRounds input (bytes ++ later)
round_before {bytes = bytes} {later = later} round is rounds =
    let lines = parts_between 10 round.before in
    record {
      before = bytes ++ rounds.before;
      is = ap (λ later. bytes ++ later) rounds.is ∙ sym (append_assoc bytes rounds.before (10 ∷ []));
      lines = lines ++ rounds.lines;
      last = ap (λ bytes. ended_lines (bytes ++ later)) round.is ∙ ap ended_lines (append_assoc round.before (10 ∷ []) later) ∙ lines_of round.before later
          ∙ ap (λ more. lines ++ more) rounds.last ∙ sym (append_assoc lines rounds.lines (codes "round" ∷ []));
      rest = rounds.rest;
      first = is ∙ ap (λ behind. bytes ++ behind) rounds.first ∙ sym (append_assoc bytes later rounds.rest);
    }

read_first : (first : ReadRound) (rounds : List ReadRound) (trace : Traced) (reader : LineReader) (input : List ℕ) (last : Traced)
    → AreReadFrom trace reader input (first ∷ rounds) (λ trace reader input. IsAtLine reader × (trace ≡ last))
    → (bytes : List ℕ) × AreFirstRounds input bytes × (input_ends trace reader bytes ≡ ends_behind (calls_read (first ∷ rounds)) (Whole last))
read_first first [] trace reader input last read =
    let round = read.0 in (
      round.bytes,
      first_round first.behind round.round round.rest,
      ap (input_ends trace reader) (sym (append-nil round.bytes))
          ∙ step_before round []
          ∙ ap (ends_behind first.trace.calls) (nothing_more (without_calls first.trace) first.reader read.1.0 ∙ ap Whole read.1.1 ∙ sym (behind_none (Whole last)))
          ∙ behind_twice first.trace.calls [] (Whole last),
    )
read_first first (second ∷ rounds) trace reader input last read =
    let round = read.0 in
    let later = read_first second rounds (without_calls first.trace) first.reader first.behind last read.1 in (
      round.bytes ++ later.0,
      round_before round.round round.rest later.1,
      step_before round later.0 ∙ ap (ends_behind first.trace.calls) later.2 ∙ behind_twice first.trace.calls (calls_read (second ∷ rounds)) (Whole last),
    )

pub rounds_read_are_first : RoundsReadAreFirst
rounds_read_are_first form reader input first rounds last at_line number taken read =
    let bytes = read_first first rounds (empty_trace form) reader input last read in
    (bytes.0, bytes.1, sym (from_start form reader bytes.0 at_line.bare number taken) ∙ bytes.2)
