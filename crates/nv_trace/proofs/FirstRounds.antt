-- Some first rounds of an input that is a trace name its files.
use Rattle.std.proofs.Common.{◌≡◌, ℕ, ◌+◌, ◌<◌, Bool, true, false, ◌||◌, cond, eqb, leb, List, [], ◌∷◌, ◌++◌, codes, length, Result, Ok, Err, refl, sym, ap, ◌∙◌}
use Rattle.std.specs.Prelude.{IfOk}
use Rattle.std.specs.List.{list_any}
use Rattle.std.proofs.lemmas.List.{append-nil, append_assoc}
use Rattle.nv_trace.specs.FirstRounds.{FirstRoundsNameAll}
use Rattle.nv_trace.specs.Lines.{but_last, ended_lines, last_if_some, onto_first, open_line, parts_between}
use Rattle.nv_trace.specs.Reading.{Ending, Whole, Bad, Long, after_line, after_lines, ending_of, largest_input, long_unless_bad, unless_bad}
use Rattle.nv_trace.specs.Rounds.{ends_round}
use Rattle.nv_trace.specs.Traced.{Traced, empty_trace}
use Rattle.nv_trace.specs.declared.bad_line.Why.{Why}
use Rattle.nv_trace.specs.declared.trace.Form.{Form}
use Rattle.nv_trace.proofs.Forgotten.{line_stays, round_ends}
use Rattle.nv_trace.proofs.Parts.{parts_some}
use Rattle.nv_trace.proofs.RoundCalls.{LineAdds, line_adds}

-- ---- a line behind a round

abbrev KeepsNames : Traced → Traced → Type 0
KeepsNames trace next = (next.names ≡ trace.names) × (0 < next.rounds)

keeps : (trace : Traced) (number : ℕ) (line : List ℕ) (after : Result Traced Why) → 0 < trace.rounds → IfOk after (LineAdds number line trace) → IfOk after (λ next. 0 < next.rounds) → IfOk after (KeepsNames trace)
keeps trace number line (Ok next) some adds more = ((adds.0.declared some).0, more)
keeps trace number line (Err why) some adds more = tt

line_keeps : (trace : Traced) (number : ℕ) (line : List ℕ) → 0 < trace.rounds → IfOk (after_line trace number line) (KeepsNames trace)
line_keeps trace number line some = keeps trace number line (after_line trace number line) some (line_adds trace number line) (line_stays trace number line some)

-- ---- more lines

same_whole : (one other : Traced) → Whole one ≡ Whole other → one ≡ other
same_whole one other is = cc

module _ (number : ℕ) (trace whole : Traced) (lines : List (List ℕ)) where
  on_kept : (after : Result Traced Why) → IfOk after (KeepsNames trace) → ((next : Traced) → 0 < next.rounds → after_lines next (number + 1) lines ≡ Whole whole → whole.names ≡ next.names)
      → unless_bad number (λ next. after_lines next (number + 1) lines) after ≡ Whole whole → whole.names ≡ trace.names
  on_kept (Ok next) keeps on is = on next keeps.1 is ∙ keeps.0
  on_kept (Err why) keeps on is = cc

lines_keep : (lines : List (List ℕ)) (trace whole : Traced) (number : ℕ) → 0 < trace.rounds → after_lines trace number lines ≡ Whole whole → whole.names ≡ trace.names
unfolding after_lines
lines_keep [] trace whole number some is = ap (λ (trace : Traced). trace.names) (same_whole whole trace (sym is))
lines_keep (line ∷ lines) trace whole number some is =
    on_kept number trace whole lines (after_line trace number line) (line_keeps trace number line some) (λ next some is. lines_keep lines next whole (number + 1) some is) is

module _ (number : ℕ) (middle whole : Traced) (lines more : List (List ℕ)) where
  on_more : (after : Result Traced Why) → ((next : Traced) → after_lines next (number + 1) lines ≡ Whole middle → after_lines next (number + 1) (lines ++ more) ≡ Whole whole → whole.names ≡ middle.names)
      → unless_bad number (λ next. after_lines next (number + 1) lines) after ≡ Whole middle → unless_bad number (λ next. after_lines next (number + 1) (lines ++ more)) after ≡ Whole whole → whole.names ≡ middle.names
  on_more (Ok next) on first is = on next first is
  on_more (Err why) on first is = cc

more_keep : (lines more : List (List ℕ)) (trace middle whole : Traced) (number : ℕ) → 0 < middle.rounds → after_lines trace number lines ≡ Whole middle → after_lines trace number (lines ++ more) ≡ Whole whole → whole.names ≡ middle.names
unfolding after_lines
more_keep [] more trace middle whole number some first is = lines_keep more middle whole number some (ap (λ trace. after_lines trace number more) (same_whole middle trace (sym first)) ∙ is)
more_keep (line ∷ lines) more trace middle whole number some first is =
    on_more number middle whole lines more (after_line trace number line) (λ next first is. more_keep lines more next middle whole (number + 1) some first is) first is

-- ---- the lines of bytes that a line feed ends, and of what follows them

split_by : (test : Bool) (byte : ℕ) (parts all rest : List (List ℕ)) (first : List ℕ) (later : List (List ℕ)) → parts ≡ first ∷ later → all ≡ parts ++ rest
    → cond test ([] ∷ all) (onto_first byte all) ≡ cond test ([] ∷ parts) (onto_first byte parts) ++ rest
split_by true byte parts all rest first later some is = ap (λ parts. [] ∷ parts) is
split_by false byte parts all rest first later some is =
    ap (onto_first byte) (is ∙ ap (λ parts. parts ++ rest) some) ∙ ap (λ parts. onto_first byte parts ++ rest) (sym some)

split : (before rest : List ℕ) → parts_between 10 (before ++ 10 ∷ rest) ≡ parts_between 10 before ++ parts_between 10 rest
unfolding parts_between
split [] rest = refl
split (byte ∷ before) rest =
    let parts = parts_some 10 before in
    split_by (eqb byte 10) byte (parts_between 10 before) (parts_between 10 (before ++ 10 ∷ rest)) (parts_between 10 rest) parts.first parts.rest parts.whole (split before rest)

but_last_behind : (lines : List (List ℕ)) (first : List ℕ) (rest : List (List ℕ)) → but_last (lines ++ first ∷ rest) ≡ lines ++ but_last (first ∷ rest)
but_last_behind [] first rest = refl
but_last_behind (line ∷ []) first rest = refl
but_last_behind (line ∷ second ∷ lines) first rest = ap (λ lines. line ∷ lines) (but_last_behind (second ∷ lines) first rest)

last_behind : (lines : List (List ℕ)) (first : List ℕ) (rest : List (List ℕ)) → last_if_some (lines ++ first ∷ rest) ≡ last_if_some (first ∷ rest)
last_behind [] first rest = refl
last_behind (line ∷ []) first rest = refl
last_behind (line ∷ second ∷ lines) first rest = last_behind (second ∷ lines) first rest

module _ (before rest : List ℕ) where
  pub lines_of : ended_lines (before ++ 10 ∷ rest) ≡ parts_between 10 before ++ ended_lines rest
  lines_of =
      let parts = parts_some 10 rest in
      ap but_last (split before rest ∙ ap (λ more. parts_between 10 before ++ more) parts.whole) ∙ but_last_behind (parts_between 10 before) parts.first parts.rest ∙ ap (λ more. parts_between 10 before ++ but_last more) (sym parts.whole)

  pub open_of : open_line (before ++ 10 ∷ rest) ≡ open_line rest
  open_of =
      let parts = parts_some 10 rest in
      ap last_if_some (split before rest ∙ ap (λ more. parts_between 10 before ++ more) parts.whole) ∙ last_behind (parts_between 10 before) parts.first parts.rest ∙ ap last_if_some (sym parts.whole)

-- ---- inputs

pub whole_by : (test : Bool) (a b : Ending) (trace : Traced) → cond test a (long_unless_bad b) ≡ Whole trace → a ≡ Whole trace
whole_by true a b trace is = is
whole_by false a (Whole other) trace is = cc
whole_by false a (Bad bad) trace is = cc
whole_by false a Long trace is = cc

read_whole : (form : Form) (input : List ℕ) (trace : Traced) → ending_of form input ≡ Whole trace → after_lines (empty_trace form) 1 (ended_lines input ++ open_line input) ≡ Whole trace
unfolding ending_of
read_whole form input trace is = whole_by (leb (length input) largest_input) _ _ trace is

some_round : (lines : List (List ℕ)) → list_any ends_round (lines ++ codes "round" ∷ []) ≡ true
some_round [] = refl
some_round (line ∷ lines) = either (ends_round line) _ (some_round lines)
  where
    either : (a b : Bool) → b ≡ true → (a || b) ≡ true
    either true b is = refl
    either false b is = is

nothing_after : (ended_lines [] ≡ []) × (open_line [] ≡ [])
unfolding parts_between
nothing_after = (refl, refl)

pub lines_before : (before : List ℕ) → ended_lines (before ++ 10 ∷ []) ≡ parts_between 10 before
lines_before before = lines_of before [] ∙ ap (λ more. parts_between 10 before ++ more) nothing_after.0 ∙ append-nil (parts_between 10 before)

-- behind these rounds no line names a file
pub first_rounds_name_all : FirstRoundsNameAll
first_rounds_name_all form input bytes trace whole rounds first all =
    let before = rounds.before in
    let lines : ended_lines bytes ≡ parts_between 10 before = ap ended_lines rounds.is ∙ lines_before before in
    let none : open_line bytes ≡ [] = ap open_line rounds.is ∙ open_of before [] ∙ nothing_after.1 in
    let front : after_lines (empty_trace form) 1 (parts_between 10 before) ≡ Whole trace =
    ap (after_lines (empty_trace form) 1) (sym (ap (λ more. ended_lines bytes ++ more) none ∙ append-nil (ended_lines bytes) ∙ lines)) ∙ read_whole form bytes trace first in
    let input_is : input ≡ before ++ 10 ∷ rounds.rest = rounds.first ∙ ap (λ bytes. bytes ++ rounds.rest) rounds.is ∙ append_assoc before (10 ∷ []) rounds.rest in
    let more = ended_lines rounds.rest ++ open_line rounds.rest in
    let both : ended_lines input ++ open_line input ≡ parts_between 10 before ++ more =
    ap (λ input. ended_lines input ++ open_line input) input_is ∙ ap (λ lines. lines ++ open_line (before ++ 10 ∷ rounds.rest)) (lines_of before rounds.rest)
    ∙ ap (λ last. (parts_between 10 before ++ ended_lines rounds.rest) ++ last) (open_of before rounds.rest) ∙ append_assoc (parts_between 10 before) (ended_lines rounds.rest) (open_line rounds.rest) in
    let some = round_ends (empty_trace form) trace 1 (parts_between 10 before) (ap (list_any ends_round) (sym lines ∙ rounds.last) ∙ some_round rounds.lines) front in
    more_keep (parts_between 10 before) more (empty_trace form) trace whole 1 some front (ap (after_lines (empty_trace form) 1) (sym both) ∙ read_whole form input whole all)
