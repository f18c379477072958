-- Where a round is refused, the rounds before it are the longest first rounds of the input that are a trace.
use Rattle.std.proofs.Common.{◌≡◌, ℕ, ◌+◌, ◌-◌, ◌<◌, ◌≤◌, Bool, true, false, ◌||◌, leb, List, [], ◌∷◌, ◌++◌, codes, length, get_or, take, drop, Result, Ok, Err, inl, inr, refl, sym, ap, subst, ◌∙◌, arith}
use Rattle.std.specs.List.{list_any}
use Rattle.std.proofs.lemmas.Bool.{cases_lt, false≢true}
use Rattle.std.proofs.lemmas.List.{append-nil, append_assoc, length-append, length-take, take-append-drop}
use Rattle.nv_trace.specs.FirstRounds.{AreFirstRounds, AreRoundsRead, RefusedRoundsAreTheLast, TellsOfInput}
use Rattle.nv_trace.specs.Lines.{ended_lines, open_line, parts_between}
use Rattle.nv_trace.specs.NextRound.{IsAtLine, IsBadRound, IsLongRound, IsNextRound, IsRoundRefused, input_ends}
use Rattle.nv_trace.specs.Pending.{ending_after, ending_from}
use Rattle.nv_trace.specs.ReadRounds.{AreReadFrom, ReadRound, calls_read, ends_behind, without_calls}
use Rattle.nv_trace.specs.Reading.{Ending, Whole, Bad, Long, after_line, after_lines, largest_input, long_unless_bad, unless_bad}
use Rattle.nv_trace.specs.Rounds.{IsRound, ends_round, has_round}
use Rattle.nv_trace.specs.Traced.{Traced, empty_trace}
use Rattle.nv_trace.specs.declared.bad_line.BadLine.{BadLine}
use Rattle.nv_trace.specs.declared.bad_line.Why.{Why}
use Rattle.nv_trace.specs.declared.read_error.ReadError.{ReadError}
use Rattle.nv_trace.specs.declared.read_error.ReadError.TheVariants as read_errors
use Rattle.nv_trace.specs.declared.reader.LineReader.{LineReader}
use Rattle.nv_trace.specs.declared.trace_call.TracedCall.{TracedCall}
use Rattle.nv_trace.proofs.Endings.{past_limit}
use Rattle.nv_trace.proofs.FirstRounds.{lines_before, lines_of, whole_by}
use Rattle.nv_trace.proofs.Parts.{parts_some}
use Rattle.nv_trace.proofs.ReadFirst.{first_round, round_before}
use Rattle.nv_trace.proofs.RoundChains.{behind_none, behind_twice, from_start, nothing_more, step_before}

-- ---- fronts of one list

-- the longer of two goes on behind the shorter one
goes_on : (short long behind rest : List ℕ) → short ++ behind ≡ long ++ rest → length short ≤ length long → (more : List ℕ) × (long ≡ short ++ more) × (behind ≡ more ++ rest)
goes_on [] long behind rest is fits = (long, refl, is)
goes_on (byte ∷ short) [] behind rest is fits = absurd (omega arith)
goes_on (byte ∷ short) (other ∷ long) behind rest is fits =
    let later = goes_on short long behind rest (ap (drop 1) is) (omega arith) in
    (later.0, ap (λ first. first ∷ long) (sym (ap (λ bytes. get_or bytes 0 0) is)) ∙ ap (λ bytes. byte ∷ bytes) later.1, later.2)

-- what the whole ends with its last part does
last_stays : {A : Type 0} (front : List A) (first : A) (rest before : List A) (last : A) → front ++ first ∷ rest ≡ before ++ last ∷ [] → (middle : List A) × (first ∷ rest ≡ middle ++ last ∷ [])
last_stays [] first rest before last is = (before, is)
last_stays (one ∷ front) first rest [] last is = absurd (omega (arith, ap length is, length-append front (first ∷ rest)))
last_stays (one ∷ front) first rest (other ∷ before) last is = last_stays front first rest before last (ap (drop 1) is)

feed_first : (bytes rest behind : List ℕ) → 0 < length bytes → bytes ++ rest ≡ 10 ∷ behind → (later : List ℕ) × (bytes ≡ 10 ∷ later)
feed_first [] rest behind some is = absurd (omega arith)
feed_first (byte ∷ later) rest behind some is = (later, ap (λ first. first ∷ later) (ap (λ bytes. get_or bytes 0 0) is))

-- ---- the lines of some first rounds

either_true : (a b : Bool) → b ≡ true → (a || b) ≡ true
either_true true b is = refl
either_true false b is = is

some_round : (lines more : List (List ℕ)) → list_any ends_round ((lines ++ codes "round" ∷ []) ++ more) ≡ true
some_round [] more = refl
some_round (line ∷ lines) more = either_true (ends_round line) _ (some_round lines more)

-- bytes that they are a front of have a round
round_within : {input other : List ℕ} (front more : List ℕ) → AreFirstRounds input other → front ≡ other ++ more → has_round front ≡ true
round_within {other = other} front more rounds is =
    let before = rounds.before in
    let lines : parts_between 10 before ≡ rounds.lines ++ codes "round" ∷ [] = sym (lines_before before) ∙ ap ended_lines (sym rounds.is) ∙ rounds.last in
    ap has_round (is ∙ ap (λ bytes. bytes ++ more) rounds.is ∙ append_assoc before (10 ∷ []) more)
    ∙ ap (list_any ends_round) (lines_of before more ∙ ap (λ lines. lines ++ ended_lines more) lines)
    ∙ some_round rounds.lines (ended_lines more)

some_first : {input other : List ℕ} → AreFirstRounds input other → 0 < length other
some_first rounds = omega (arith, ap length rounds.is, length-append rounds.before (10 ∷ []))

-- behind a round they are some first rounds of what is behind it
rounds_behind : {input bytes behind other : List ℕ} (more : List ℕ) → IsRound bytes → (rounds : AreFirstRounds input other) → other ≡ bytes ++ more → behind ≡ more ++ rounds.rest → 0 < length more → AreFirstRounds behind more
rounds_behind [] round rounds is rest some = absurd (omega arith)
rounds_behind {bytes = bytes} {other = other} (byte ∷ later) round rounds is rest some =
    let more = byte ∷ later in
    let feed = last_stays bytes byte later rounds.before 10 (sym is ∙ rounds.is) in
    let parts = parts_some 10 feed.0 in
    let ended : ended_lines more ≡ parts.first ∷ parts.rest = ap ended_lines feed.1 ∙ lines_before feed.0 ∙ parts.whole in
    let lines : ended_lines other ≡ parts_between 10 round.before ++ parts.first ∷ parts.rest =
    ap ended_lines (is ∙ ap (λ bytes. bytes ++ more) round.is ∙ append_assoc round.before (10 ∷ []) more) ∙ lines_of round.before more ∙ ap (λ lines. parts_between 10 round.before ++ lines) ended in
    let last = last_stays (parts_between 10 round.before) parts.first parts.rest rounds.lines (codes "round") (sym lines ∙ rounds.last) in
    record { before = feed.0; is = feed.1; lines = last.0; last = ended ∙ last.1; rest = rounds.rest; first = rest }

-- ---- endings

bad_not_whole : (bad : BadLine) (trace : Traced) → Bad bad ≡ Whole trace → ⊥
bad_not_whole bad trace is = cc

whole_not_bad : (bad : BadLine) (trace : Traced) → Whole trace ≡ Bad bad → ⊥
whole_not_bad bad trace is = cc

cut_not_whole : (ending : Ending) (trace : Traced) → long_unless_bad ending ≡ Whole trace → ⊥
cut_not_whole (Whole other) trace is = cc
cut_not_whole (Bad bad) trace is = cc
cut_not_whole Long trace is = cc

whole_behind : (calls : List TracedCall) (ending : Ending) (trace : Traced) → ends_behind calls ending ≡ Whole trace → (other : Traced) × (ending ≡ Whole other)
whole_behind calls (Whole other) trace is = (other, refl)
whole_behind calls (Bad bad) trace is = absurd (bad_not_whole bad trace is)
whole_behind calls Long trace is = absurd (cut_not_whole Long trace is)

-- lines behind a bad one are bad too
module _ (number : ℕ) (bad : BadLine) (lines more : List (List ℕ)) where
  on_bad : (after : Result Traced Why) → ((next : Traced) → after_lines next (number + 1) lines ≡ Bad bad → after_lines next (number + 1) (lines ++ more) ≡ Bad bad)
      → unless_bad number (λ next. after_lines next (number + 1) lines) after ≡ Bad bad → unless_bad number (λ next. after_lines next (number + 1) (lines ++ more)) after ≡ Bad bad
  on_bad (Ok next) on is = on next is
  on_bad (Err why) on is = is

stays_bad : (lines more : List (List ℕ)) (trace : Traced) (number : ℕ) (bad : BadLine) → after_lines trace number lines ≡ Bad bad → after_lines trace number (lines ++ more) ≡ Bad bad
unfolding after_lines
stays_bad [] more trace number bad is = absurd (whole_not_bad bad trace is)
stays_bad (line ∷ lines) more trace number bad is = on_bad number bad lines more (after_line trace number line) (λ next is. stays_bad lines more next (number + 1) bad is) is

-- an input that is whole is what its lines say
lines_say : (trace : Traced) (reader : LineReader) (bytes : List ℕ) (next : Traced) → reader.pending.line.items ≡ [] → input_ends trace reader bytes ≡ Whole next
    → after_lines trace reader.pending.number (ended_lines bytes ++ open_line bytes) ≡ Whole next
unfolding ending_from ending_after
lines_say trace reader bytes next bare is =
    ap (λ line. ending_after true trace reader.pending.number line bytes) (sym bare) ∙ whole_by (leb (reader.taken + length bytes) largest_input) _ _ next is

-- ---- a round that is refused

module _ (trace : Traced) (reader : LineReader) (input : List ℕ) (next : Traced) (at_line : IsAtLine reader) (other : List ℕ) (found : Traced) (rounds : AreFirstRounds input other) (whole : input_ends trace reader other ≡ Whole found) where
  -- they would have the bad line
  past_bad : (front later : List ℕ) (bad : BadLine) → after_lines trace reader.pending.number (ended_lines (front ++ 10 ∷ [])) ≡ Bad bad → other ≡ front ++ 10 ∷ later → ⊥
  past_bad front later bad line is =
      let number = reader.pending.number in
      let parts = parts_between 10 front in
      let all : ended_lines other ++ open_line other ≡ parts ++ (ended_lines later ++ open_line other) =
      ap (λ bytes. ended_lines bytes ++ open_line other) is ∙ ap (λ lines. lines ++ open_line other) (lines_of front later) ∙ append_assoc parts (ended_lines later) (open_line other) in
      let said : after_lines trace number parts ≡ Bad bad = ap (after_lines trace number) (sym (lines_before front)) ∙ line in
      bad_not_whole bad found
      (sym (stays_bad parts (ended_lines later ++ open_line other) trace number bad said) ∙ ap (after_lines trace number) (sym all) ∙ lines_say trace reader other found at_line.bare whole)

  none_bad : (bad : BadLine) → IsBadRound trace reader input next bad → ⊥
  none_bad bad refused = elim (cases_lt (length refused.front) (length other)) [
    | inl less ↦
        let past = goes_on refused.front other refused.rest rounds.rest (sym refused.is ∙ rounds.first) (omega arith) in
        let some : 0 < length past.0 = omega (arith, less, ap length past.1, length-append refused.front past.0) in
        elim refused.ends [
          | inl none ↦ absurd (omega (arith, some, ap length (sym past.2 ∙ none), length-append past.0 rounds.rest))
          | inr feed ↦
              let later = feed_first past.0 rounds.rest feed.0 some (sym past.2 ∙ feed.1) in
              past_bad refused.front later.0 bad refused.line (past.1 ∙ ap (λ bytes. refused.front ++ bytes) later.1)
        ]
    | inr fits ↦
        let within = goes_on other refused.front rounds.rest refused.rest (sym rounds.first ∙ refused.is) fits in
        false≢true (sym refused.no_round ∙ round_within refused.front within.0 rounds within.1)
  ]

  none_long : IsLongRound trace reader input next → ⊥
  none_long refused =
      let room = largest_input - reader.taken in
      elim (cases_lt room (length other)) [
        | inl less ↦ cut_not_whole _ found (sym (past_limit trace reader.pending reader.taken other (omega (arith, less, at_line.taken))) ∙ whole)
        | inr fits ↦
            let size : length input ≡ length other + length rounds.rest = ap length rounds.first ∙ length-append other rounds.rest in
            let within = goes_on other (take room input) rounds.rest (drop room input) (sym rounds.first ∙ sym (take-append-drop room input)) (omega (arith, fits, size, length-take room input)) in
            false≢true (sym refused.no_round ∙ round_within (take room input) within.0 rounds within.1)
      ]

  none_refused : (error : ReadError) → TellsOfInput error → IsRoundRefused trace reader input next error → ⊥
  none_refused (read_errors.Bad bad) tells refused = none_bad bad refused
  none_refused read_errors.InputLong tells refused = none_long refused
  none_refused read_errors.Failed tells refused = tells
  none_refused read_errors.NoMemory tells refused = tells

-- ---- the rounds before it

rounds_on : {input bytes : List ℕ} (behind later : List ℕ) (rounds : List ReadRound) → IsRound bytes → input ≡ bytes ++ behind → AreRoundsRead behind rounds later → AreFirstRounds input (bytes ++ later)
rounds_on {input = input} {bytes = bytes} behind later [] round is none =
    subst (AreFirstRounds input) (sym (ap (λ later. bytes ++ later) none ∙ append-nil bytes)) (first_round behind round is)
rounds_on behind later (first ∷ rounds) round is read = round_before round is read

module _ {trace : Traced} {old : LineReader} {input : List ℕ} {next : Traced} {new : LineReader} {behind : List ℕ} (round : IsNextRound trace old input next new behind) (later : List ℕ) where
  -- behind one more round none is longer either
  none_longer : ((other : List ℕ) (found : Traced) → AreFirstRounds behind other → input_ends (without_calls next) new other ≡ Whole found → length other ≤ length later)
      → (other : List ℕ) (found : Traced) → AreFirstRounds input other → input_ends trace old other ≡ Whole found → length other ≤ length (round.bytes ++ later)
  none_longer shorter other found rounds whole = elim (cases_lt (length round.bytes) (length other)) [
    | inl less ↦
        let more = goes_on round.bytes other behind rounds.rest (sym round.rest ∙ rounds.first) (omega arith) in
        let some : 0 < length more.0 = omega (arith, less, ap length more.1, length-append round.bytes more.0) in
        let ending = whole_behind next.calls (input_ends (without_calls next) new more.0) found (sym (step_before round more.0) ∙ ap (input_ends trace old) (sym more.1) ∙ whole) in
        let fits = shorter more.0 ending.0 (rounds_behind more.0 round.round rounds more.1 more.2 some) ending.1 in
        omega (arith, fits, ap length more.1, length-append round.bytes more.0, length-append round.bytes later)
    | inr fits ↦ omega (arith, fits, length-append round.bytes later)
  ]

module _ (last next : Traced) (error : ReadError) (tells : TellsOfInput error) where
  the_last : (rounds : List ReadRound) (trace : Traced) (reader : LineReader) (input : List ℕ)
      → AreReadFrom trace reader input rounds (λ trace reader input. (IsAtLine reader × (trace ≡ last)) × IsRoundRefused trace reader input next error)
      → (bytes : List ℕ) × AreRoundsRead input rounds bytes × (input_ends trace reader bytes ≡ ends_behind (calls_read rounds) (Whole last))
      × ((other : List ℕ) (found : Traced) → AreFirstRounds input other → input_ends trace reader other ≡ Whole found → length other ≤ length bytes)
  the_last [] trace reader input read = (
    [],
    refl,
    nothing_more trace reader read.0.0 ∙ ap Whole read.0.1 ∙ sym (behind_none (Whole last)),
    λ other found rounds whole. absurd (none_refused trace reader input next read.0.0 other found rounds whole error tells read.1),
  )
  the_last (first ∷ rounds) trace reader input read =
      let round = read.0 in
      let later = the_last rounds (without_calls first.trace) first.reader first.behind read.1 in (
        round.bytes ++ later.0,
        rounds_on first.behind later.0 rounds round.round round.rest later.1,
        step_before round later.0 ∙ ap (ends_behind first.trace.calls) later.2 ∙ behind_twice first.trace.calls (calls_read rounds) (Whole last),
        none_longer round later.0 later.3,
      )

pub refused_rounds_are_the_last : RefusedRoundsAreTheLast
refused_rounds_are_the_last form reader input rounds last next error at_line number taken read tells =
    let all = the_last last next error tells rounds (empty_trace form) reader input read in (
      all.0,
      all.1,
      sym (from_start form reader all.0 at_line.bare number taken) ∙ all.2,
      λ other found first whole. all.3 other found first (from_start form reader other at_line.bare number taken ∙ whole),
    )
