-- What the lines of a round add to a trace: calls of that round.
use Rattle.std.proofs.Common.{◌≡◌, ℕ, ◌+◌, ◌^◌, ◌<◌, ◌≤◌, Bool, true, false, ◌||◌, cond, eqb, leb, ltb, not, List, [], ◌∷◌, ◌++◌, codes, length, Result, Ok, Err, refl, sym, ap, subst, ◌∙◌, arith}
use Rattle.std.specs.Prelude.{IfOk}
use Rattle.std.specs.List.{list_all, list_any}
use Rattle.std.specs.Cmp.Lexicographic.{same_text}
use Rattle.std.proofs.lemmas.Bool.{false≢true}
use Rattle.std.proofs.lemmas.List.{append-nil, append_assoc}
use Rattle.std.proofs.lemmas.List.Elements.{All-append, All-cons, All-nil, All-weaker}
use Rattle.nv_trace.specs.Grammar.{and_then, is_printable, says}
use Rattle.nv_trace.specs.Forms.{has_rounds}
use Rattle.nv_trace.specs.Lines.{but_last, ended_lines, fields_of, last_if_some, onto_first, parts_between}
use Rattle.nv_trace.specs.NextRound.{IsAtLine, IsLastRound, IsNextRound}
use Rattle.nv_trace.specs.Pending.{ending_after, ending_from}
use Rattle.nv_trace.specs.Reading.{Ending, Whole, Bad, Long, after_fields, after_line, after_lines, after_steps, fields_said, is_skipped, largest_input, long_unless_bad, longest_line, unless_bad, with_statement, with_tokens}
use Rattle.nv_trace.specs.RoundCalls.{AddsCalls}
use Rattle.nv_trace.specs.Rounds.{ends_round}
use Rattle.nv_trace.specs.Said.{is_schedule, said, said_by, tokens_said}
use Rattle.nv_trace.specs.Streams.{counted}
use Rattle.nv_trace.specs.Traced.{Traced}
use Rattle.nv_trace.specs.declared.bad_line.Why.{Why}
use Rattle.nv_trace.specs.declared.bad_line.Why.TheVariants.{Form as BadForm, Long as LongLine, Bytes as OddBytes}
use Rattle.nv_trace.specs.declared.reader.LineReader.{LineReader}
use Rattle.nv_trace.specs.declared.statement.Statement.{Statement}
use Rattle.nv_trace.specs.declared.statement.Statement.TheVariants.{File, Opened, Call, Round}
use Rattle.nv_trace.specs.declared.trace_call.TracedCall.{TracedCall}
use Rattle.nv_trace.proofs.Forgotten.{has_round_begun}
use Rattle.nv_trace.proofs.Parts.{parts_some}
use Rattle.nv_trace.proofs.Fitting.{FitsAs, always, if_cond, said_fits, then_ok}

-- ---- one line

abbrev first_of : List (List ℕ) → List ℕ
first_of [] = []
first_of (first ∷ rest) = first

abbrev rest_of : List (List ℕ) → List (List ℕ)
rest_of [] = []
rest_of (first ∷ rest) = rest

part_by : (test : Bool) (byte : ℕ) (line word : List ℕ) → cond test ([] ∷ parts_between 32 line) (onto_first byte (parts_between 32 line)) ≡ word ∷ []
    → ((word : List ℕ) → parts_between 32 line ≡ word ∷ [] → line ≡ word) → byte ∷ line ≡ word
part_by true byte line word is on =
    let parts = parts_some 32 line in
    let none : parts_between 32 line ≡ [] = ap rest_of is in
    absurd (omega (arith, ap length (sym parts.whole ∙ none)))
part_by false byte line word is on =
    let parts = parts_some 32 line in
    let put : (byte ∷ parts.first) ∷ parts.rest ≡ word ∷ [] = ap (onto_first byte) (sym parts.whole) ∙ is in
    let alone : parts_between 32 line ≡ parts.first ∷ [] = parts.whole ∙ ap (λ rest. parts.first ∷ rest) (ap rest_of put) in
    ap (λ line. byte ∷ line) (on parts.first alone) ∙ ap first_of put

-- a line of one field is that field
one_part : (line word : List ℕ) → parts_between 32 line ≡ word ∷ [] → line ≡ word
unfolding parts_between
one_part [] word is = ap first_of is
one_part (byte ∷ line) word is = part_by (eqb byte 32) byte line word is (one_part line)

none_added : (number : ℕ) (trace next : Traced) → next.calls ≡ trace.calls → (0 < trace.rounds → (next.names ≡ trace.names) × (next.descriptors ≡ trace.descriptors)) → (trace.rounds < 2 ^ 64 → trace.rounds ≤ next.rounds)
    → AddsCalls number trace next
none_added number trace next same declared rounds = record {
  calls = [];
  behind = same ∙ sym (append-nil trace.calls);
  round = All-nil (λ (call : TracedCall). call.round ≡ trace.rounds);
  lines = All-nil (λ (call : TracedCall). number ≤ call.line);
  declared = declared;
  rounds = rounds;
}

-- what a line adds, and that only a `round` line ends a round
abbrev pub LineAdds : ℕ → (line : List ℕ) → Traced → Traced → Type 0
LineAdds number line trace next = AddsCalls number trace next × (ends_round line ≡ false → next.rounds ≡ trace.rounds)

module _ (trace : Traced) (number : ℕ) (line : List ℕ) where
  statement_adds : (statement : Statement) → FitsAs trace (fields_of line) statement → LineAdds number line trace (with_statement trace number statement)
  statement_adds (File name) early = (none_added number trace (with_statement trace number (File name)) refl (λ some. absurd (false≢true (sym early ∙ has_round_begun trace some))) (λ few. omega arith), λ _. refl)
  statement_adds (Opened descriptor) early =
      (none_added number trace (with_statement trace number (Opened descriptor)) refl (λ some. absurd (false≢true (sym early ∙ has_round_begun trace some))) (λ few. omega arith), λ _. refl)
  statement_adds (Call thread call) fits =
      let traced : TracedCall = record { line = number; round = trace.rounds; thread = thread; call = call } in (
        record {
          calls = traced ∷ [];
          behind = refl;
          round = All-cons (λ (call : TracedCall). call.round ≡ trace.rounds) traced [] refl (All-nil (λ (call : TracedCall). call.round ≡ trace.rounds));
          lines = All-cons (λ (call : TracedCall). number ≤ call.line) traced [] (omega arith) (All-nil (λ (call : TracedCall). number ≤ call.line));
          declared = λ some. (refl, refl);
          rounds = λ few. omega arith;
        },
        λ _. refl,
      )
  statement_adds Round fits =
      let this : ends_round line ≡ true = ap (λ line. says line (codes "round")) (one_part line fits.0 fits.1) ∙ fits.2 in
      (none_added number trace (with_statement trace number Round) refl (λ some. (refl, refl)) (λ few. grind arith), λ other. absurd (false≢true (sym other ∙ this)))

  read_adds : (read : Result Statement Why) → IfOk read (FitsAs trace (fields_of line)) → IfOk (and_then (λ statement. Ok (with_statement trace number statement)) read) (LineAdds number line trace)
  read_adds (Ok statement) fits = statement_adds statement fits
  read_adds (Err why) fits = tt

  fields_add : IfOk (after_fields trace number (fields_of line)) (LineAdds number line trace)
  unfolding after_fields
  fields_add = if_cond (is_schedule (fields_of line)) (after_steps trace (fields_of line)) (and_then (λ statement. Ok (with_statement trace number statement)) (said trace (fields_of line))) (LineAdds number line trace)
      (λ _. then_ok (λ tokens. Ok (with_tokens trace tokens)) (tokens_said trace (fields_of line)) (LineAdds number line trace)
      (always (tokens_said trace (fields_of line)) (λ tokens. LineAdds number line trace (with_tokens trace tokens)) (λ tokens. (none_added number trace (with_tokens trace tokens) refl (λ some. (refl, refl)) (λ few. omega arith), λ _. refl))))
      (λ _. read_adds (said trace (fields_of line)) (said_fits trace (fields_of line)))

  said_adds : IfOk (fields_said line) (λ fields. IfOk (after_fields trace number fields) (LineAdds number line trace))
  unfolding fields_said
  said_adds =
      let adds : List (List ℕ) → Type 0 = λ fields. IfOk (after_fields trace number fields) (LineAdds number line trace) in
      let printed : Result (List (List ℕ)) Why = cond (not (list_all is_printable line)) (Err OddBytes) (Ok (fields_of line)) in
      if_cond (ltb longest_line (length line)) (Err LongLine) printed adds (λ _. tt) (λ _. if_cond (not (list_all is_printable line)) (Err OddBytes) (Ok (fields_of line)) adds (λ _. tt) (λ _. fields_add))

  pub line_adds : IfOk (after_line trace number line) (LineAdds number line trace)
  unfolding after_line
  line_adds = if_cond (is_skipped line) (Ok trace) (and_then (after_fields trace number) (fields_said line)) (LineAdds number line trace) (λ _. (none_added number trace trace refl (λ some. (refl, refl)) (λ few. omega arith), λ _. refl))
      (λ _. then_ok (after_fields trace number) (fields_said line) (LineAdds number line trace) said_adds)

-- ---- more lines

joined : (number : ℕ) (trace middle next : Traced) → AddsCalls number trace middle → middle.rounds ≡ trace.rounds → AddsCalls (number + 1) middle next → AddsCalls number trace next
joined number trace middle next one same two = record {
  calls = one.calls ++ two.calls;
  behind = two.behind ∙ ap (λ calls. calls ++ two.calls) one.behind ∙ append_assoc trace.calls one.calls two.calls;
  round = All-append (λ (call : TracedCall). call.round ≡ trace.rounds) one.calls two.calls one.round (All-weaker (λ (call : TracedCall). call.round ≡ middle.rounds) (λ call. call.round ≡ trace.rounds) (λ call is. is ∙ same) two.calls two.round);
  lines = All-append (λ (call : TracedCall). number ≤ call.line) one.calls two.calls one.lines (All-weaker (λ (call : TracedCall). number + 1 ≤ call.line) (λ call. number ≤ call.line) (λ call above. omega arith) two.calls two.lines);
  declared =
      λ some.
      let first = one.declared some in
      let second = two.declared (omega (arith, same)) in
      (second.0 ∙ first.0, second.1 ∙ first.1);
  rounds =
      λ few.
      let first = one.rounds few in
      let second = two.rounds (omega (arith, few, same)) in
      omega (arith, first, second);
}

abbrev EndAdds : ℕ → Traced → Ending → Type 0
EndAdds number trace (Whole next) = AddsCalls number trace next
EndAdds number trace (Bad bad) = Unit {0}
EndAdds number trace Long = Unit {0}

abbrev EndCounts : Traced → Ending → Type 0
EndCounts trace (Whole next) = next.rounds ≡ counted trace.rounds
EndCounts trace (Bad bad) = Unit {0}
EndCounts trace Long = Unit {0}

end_joined : (number : ℕ) (trace middle : Traced) (ending : Ending) → AddsCalls number trace middle → middle.rounds ≡ trace.rounds → EndAdds (number + 1) middle ending → EndAdds number trace ending
end_joined number trace middle (Whole next) one same two = joined number trace middle next one same two
end_joined number trace middle (Bad bad) one same two = tt
end_joined number trace middle Long one same two = tt

end_counted : (trace middle : Traced) (ending : Ending) → middle.rounds ≡ trace.rounds → EndCounts middle ending → EndCounts trace ending
end_counted trace middle (Whole next) same counts = counts ∙ ap counted same
end_counted trace middle (Bad bad) same counts = tt
end_counted trace middle Long same counts = tt

or_left : (a b : Bool) → (a || b) ≡ false → a ≡ false
or_left true b none = none
or_left false b none = refl

or_right : (a b : Bool) → (a || b) ≡ false → b ≡ false
or_right true b none = absurd (false≢true (sym none))
or_right false b none = none

module _ (number : ℕ) (trace : Traced) (line : List ℕ) (lines : List (List ℕ)) where
  more_add : (after : Result Traced Why) → IfOk after (LineAdds number line trace) → ends_round line ≡ false → ((next : Traced) → EndAdds (number + 1) next (after_lines next (number + 1) lines))
      → EndAdds number trace (unless_bad number (λ next. after_lines next (number + 1) lines) after)
  more_add (Ok next) adds other on = end_joined number trace next (after_lines next (number + 1) lines) adds.0 (adds.1 other) (on next)
  more_add (Err why) adds other on = tt

  more_count : (after : Result Traced Why) → IfOk after (LineAdds number line trace) → ends_round line ≡ false → ((next : Traced) → EndCounts next (after_lines next (number + 1) lines))
      → EndCounts trace (unless_bad number (λ next. after_lines next (number + 1) lines) after)
  more_count (Ok next) adds other on = end_counted trace next (after_lines next (number + 1) lines) (adds.1 other) (on next)
  more_count (Err why) adds other on = tt

last_adds : (number : ℕ) (trace : Traced) (line : List ℕ) (after : Result Traced Why) → IfOk after (LineAdds number line trace) → EndAdds number trace (unless_bad number (λ next. after_lines next (number + 1) []) after)
unfolding after_lines
last_adds number trace line (Ok next) adds = adds.0
last_adds number trace line (Err why) adds = tt

-- lines that end no round, and at most one more
lines_add : (lines tail : List (List ℕ)) → list_any ends_round lines ≡ false → length tail ≤ 1 → (trace : Traced) (number : ℕ) → EndAdds number trace (after_lines trace number (lines ++ tail))
unfolding after_lines
lines_add [] [] none few trace number = none_added number trace trace refl (λ some. (refl, refl)) (λ few. omega arith)
lines_add [] (line ∷ []) none few trace number = last_adds number trace line (after_line trace number line) (line_adds trace number line)
lines_add [] (line ∷ second ∷ more) none few trace number = absurd (omega arith)
lines_add (line ∷ lines) tail none few trace number =
    more_add number trace line (lines ++ tail) (after_line trace number line) (line_adds trace number line) (or_left (ends_round line) (list_any ends_round lines) none)
    (λ next. lines_add lines tail (or_right (ends_round line) (list_any ends_round lines) none) few next (number + 1))

word_cases : (trace : Traced) (number : ℕ) (may : Bool) → IfOk (and_then (λ statement. Ok (with_statement trace number statement)) (cond may (Ok Round) (Err BadForm))) (λ next. next.rounds ≡ counted trace.rounds)
word_cases trace number true = refl
word_cases trace number false = tt

word_counts : (trace : Traced) (number : ℕ) → IfOk (after_line trace number (codes "round")) (λ next. next.rounds ≡ counted trace.rounds)
unfolding after_line fields_said after_fields said said_by parts_between
word_counts trace number = word_cases trace number (has_rounds trace.form)

last_counts : (number : ℕ) (trace : Traced) (after : Result Traced Why) → IfOk after (λ next. next.rounds ≡ counted trace.rounds) → EndCounts trace (unless_bad number (λ next. after_lines next (number + 1) []) after)
unfolding after_lines
last_counts number trace (Ok next) counts = counts
last_counts number trace (Err why) counts = tt

lines_count : (lines : List (List ℕ)) (last : List ℕ) → list_any ends_round lines ≡ false → ends_round last ≡ true → (trace : Traced) (number : ℕ) → EndCounts trace (after_lines trace number (lines ++ last ∷ []))
unfolding after_lines
lines_count [] last none this trace number =
    last_counts number trace (after_line trace number last) (subst (λ line. IfOk (after_line trace number line) (λ next. next.rounds ≡ counted trace.rounds)) (sym (same_text last (codes "round") (sym this))) (word_counts trace number))
lines_count (line ∷ lines) last none this trace number =
    more_count number trace line (lines ++ last ∷ []) (after_line trace number line) (line_adds trace number line) (or_left (ends_round line) (list_any ends_round lines) none)
    (λ next. lines_count lines last (or_right (ends_round line) (list_any ends_round lines) none) this next (number + 1))

-- ---- the bytes of a round

pushed_by : (test : Bool) (byte : ℕ) (parts fed : List (List ℕ)) (first : List ℕ) (rest : List (List ℕ)) → parts ≡ first ∷ rest → fed ≡ parts ++ [] ∷ []
    → cond test ([] ∷ fed) (onto_first byte fed) ≡ cond test ([] ∷ parts) (onto_first byte parts) ++ [] ∷ []
pushed_by true byte parts fed first rest some is = ap (λ parts. [] ∷ parts) is
pushed_by false byte parts fed first rest some is =
    ap (onto_first byte) (is ∙ ap (λ parts. parts ++ [] ∷ []) some) ∙ ap (λ parts. onto_first byte parts ++ [] ∷ []) (sym some)

-- a line feed more begins one more part
fed : (before : List ℕ) → parts_between 10 (before ++ 10 ∷ []) ≡ parts_between 10 before ++ [] ∷ []
unfolding parts_between
fed [] = refl
fed (byte ∷ before) =
    let parts = parts_some 10 before in
    pushed_by (eqb byte 10) byte (parts_between 10 before) (parts_between 10 (before ++ 10 ∷ [])) parts.first parts.rest parts.whole (fed before)

but_last_push : (parts : List (List ℕ)) (last : List ℕ) → but_last (parts ++ last ∷ []) ≡ parts
but_last_push [] last = refl
but_last_push (first ∷ []) last = refl
but_last_push (first ∷ second ∷ rest) last = ap (λ parts. first ∷ parts) (but_last_push (second ∷ rest) last)

split_last : (first : List ℕ) (rest : List (List ℕ)) → (last : List ℕ) × (first ∷ rest ≡ but_last (first ∷ rest) ++ last ∷ [])
split_last first [] = (first, refl)
split_last first (second ∷ rest) = let split = split_last second rest in (split.0, ap (λ parts. first ∷ parts) split.1)

few_last : (parts : List (List ℕ)) → length (last_if_some parts) ≤ 1
few_last [] = omega arith
few_last ([] ∷ []) = omega arith
few_last ((byte ∷ bytes) ∷ []) = omega arith
few_last (first ∷ second ∷ rest) = few_last (second ∷ rest)

-- ---- the law

last_only : (test : Bool) → (test || false) ≡ true → test ≡ true
last_only true any = refl
last_only false any = any

ends_with : (lines : List (List ℕ)) (last : List ℕ) → list_any ends_round lines ≡ false → list_any ends_round (lines ++ last ∷ []) ≡ true → ends_round last ≡ true
ends_with [] last none any = last_only (ends_round last) any
ends_with (line ∷ lines) last none any =
    ends_with lines last (or_right (ends_round line) (list_any ends_round lines) none)
    (ap (λ test. test || list_any ends_round (lines ++ last ∷ [])) (sym (or_left (ends_round line) (list_any ends_round lines) none)) ∙ any)

pub round_adds : (trace : Traced) (old : LineReader) (input : List ℕ) (next : Traced) (new : LineReader) (behind : List ℕ) → IsNextRound trace old input next new behind
    → AddsCalls old.pending.number trace next × (next.rounds ≡ counted trace.rounds)
round_adds trace old input next new behind round =
    let before = round.round.before in
    let number = old.pending.number in
    let parts = parts_some 10 before in
    let split = split_last parts.first parts.rest in
    let last = split.0 in
    let lines : ended_lines round.bytes ≡ ended_lines before ++ last ∷ [] =
    ap ended_lines round.round.is ∙ ap but_last (fed before) ∙ but_last_push (parts_between 10 before) [] ∙ parts.whole ∙ split.1 ∙ ap (λ parts. but_last parts ++ last ∷ []) (sym parts.whole) in
    let whole : after_lines trace number (ended_lines before ++ last ∷ []) ≡ Whole next = ap (after_lines trace number) (sym lines) ∙ round.read in
    let this : ends_round last ≡ true = ends_with (ended_lines before) last round.round.first (ap (list_any ends_round) (sym lines) ∙ round.round.ended) in (
      subst (EndAdds number trace) whole (lines_add (ended_lines before) (last ∷ []) round.round.first (omega arith) trace number),
      subst (EndCounts trace) whole (lines_count (ended_lines before) last round.round.first this trace number),
    )

abbrev IsWhole : Ending → Type 0
IsWhole (Whole trace) = Unit {0}
IsWhole (Bad bad) = ⊥
IsWhole Long = ⊥

not_long : (ending : Ending) → IsWhole (long_unless_bad ending) → ⊥
not_long (Whole trace) whole = whole
not_long (Bad bad) whole = whole
not_long Long whole = whole

whole_within : (test : Bool) (within past : Ending) (next : Traced) → cond test within (long_unless_bad past) ≡ Whole next → within ≡ Whole next
whole_within true within past next is = is
whole_within false within past next is = absurd (not_long past (subst IsWhole (sym is) tt))

pub last_round_adds : (trace : Traced) (old : LineReader) (input : List ℕ) (next : Traced) → IsAtLine old → IsLastRound trace old input next → AddsCalls old.pending.number trace next
unfolding ending_from ending_after
last_round_adds trace old input next at_line last =
    let number = old.pending.number in
    let said : ending_from trace number [] old.taken input ≡ Whole next = ap (λ line. ending_from trace number line old.taken input) (sym at_line.bare) ∙ last.whole in
    let within : after_lines trace number (ended_lines input ++ last_if_some (parts_between 10 input)) ≡ Whole next = whole_within (leb (old.taken + length input) largest_input) _ _ next said in
    subst (EndAdds number trace) within (lines_add (ended_lines input) (last_if_some (parts_between 10 input)) last.no_round (few_last (parts_between 10 input)) trace number)
