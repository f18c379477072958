-- How an input ends, as its bytes come.
use Rattle.std.proofs.Common.{◌≡◌, ◌≢◌, ℕ, suc, ◌+◌, ◌-◌, ◌<◌, ◌≤◌, Bool, true, false, eqb, ltb, leb, cond, min, List, [], ◌∷◌, ◌++◌, length, get_or, take, drop, not, Result, Ok, Err, inl, inr, refl, sym, ap, ◌∙◌, arith}
use Rattle.std.proofs.Math.Dec.{eqb-suc-zero}
use Rattle.std.proofs.Math.Nat.{zero-add}
use Rattle.std.specs.List.{list_all}
use Rattle.std.proofs.lemmas.Bool.{false≢true, ltb-true, lt-ltb, lt-leb, le-leb, cases_lt, cond-true, cond-false, eq-eqb, eqb-true}
use Rattle.std.proofs.lemmas.List.{append-nil, length-append, length-take, take-append-drop, take_all, get_or-take}
use Rattle.std.proofs.Math.Seq.{take-append-add}
use Rattle.nv_trace.specs.Lines.{fields_of, parts_between}
use Rattle.nv_trace.specs.Traced.{Traced, empty_trace}
use Rattle.nv_trace.specs.Grammar.{and_then, is_printable}
use Rattle.nv_trace.specs.Reading.{Ending, Whole, Bad, after_fields, after_line, after_lines, ending_of, fields_said, long_unless_bad, longest_line, largest_input, unless_bad}
use Rattle.nv_trace.specs.declared.bad_line.BadLine.{BadLine}
use Rattle.nv_trace.specs.declared.bad_line.Why.{Why}
use Rattle.nv_trace.specs.declared.bad_line.Why.TheVariants.{Long as LongLine, Bytes as OddBytes}
use Rattle.nv_trace.specs.declared.trace.Form.{Form}
use Rattle.nv_trace.specs.Pending.{onto_line, counted_lines, ending_after, ending_from, lines_end, room_for}
use Rattle.nv_trace.specs.declared.pending_line.PendingLine.{PendingLine}
use Rattle.nv_trace.proofs.Parts.{parts_some, onto_line_some, onto_line-append, parts-append, counted_more}

-- more bytes don't change what such a line says
abbrev pub is_settled : List ℕ → Bool
is_settled [] = false
is_settled (first ∷ rest) = cond (eqb first 35) true (ltb longest_line (length (first ∷ rest)))

settled_skipped : (line : List ℕ) → 0 < length line → get_or line 0 0 ≡ 35 → is_settled line ≡ true
settled_skipped [] some hash = absurd (omega arith)
settled_skipped (first ∷ rest) some hash = cond-true (eqb first 35) true _ (eq-eqb first 35 hash)

or_true : (test : Bool) → cond test true true ≡ true
or_true true = refl
or_true false = refl

settled_long : (line : List ℕ) → longest_line < length line → is_settled line ≡ true
settled_long [] long = absurd (omega arith)
settled_long (first ∷ rest) long =
    ap (cond (eqb first 35) true) (lt-ltb longest_line (length (first ∷ rest)) long) ∙ or_true (eqb first 35)

settled_cases : (skipped long longer : Bool) (trace : Result Traced Why) (after : List (List ℕ) → Result Traced Why) (read more : Result (List (List ℕ)) Why) → cond skipped true long ≡ true → (long ≡ true → longer ≡ true)
    → cond skipped trace (and_then after (cond longer (Err LongLine) more)) ≡ cond skipped trace (and_then after (cond long (Err LongLine) read))
settled_cases true long longer trace after read more settled up = refl
settled_cases false long longer trace after read more settled up = ap (and_then after) (cond-true longer (Err LongLine) more (up settled) ∙ sym (cond-true long (Err LongLine) read settled))

-- the fields of a line that isn't too long
abbrev printed_fields : List ℕ → Result (List (List ℕ)) Why
printed_fields line = cond (not (list_all is_printable line)) (Err OddBytes) (Ok (fields_of line))

settled_line : (trace : Traced) (number : ℕ) (line more : List ℕ) → is_settled line ≡ true → after_line trace number (line ++ more) ≡ after_line trace number line
unfolding after_line fields_said
settled_line trace number [] more settled = absurd (false≢true settled)
settled_line trace number (first ∷ rest) more settled =
    settled_cases (eqb first 35) (ltb longest_line (length (first ∷ rest))) (ltb longest_line (length (first ∷ (rest ++ more)))) (Ok trace) (after_fields trace number)
    (printed_fields (first ∷ rest)) (printed_fields (first ∷ (rest ++ more))) settled
    (λ long. lt-ltb longest_line (length (first ∷ (rest ++ more))) (omega (arith, ltb-true longest_line (length (first ∷ rest)) long, length-append rest more)))

settled_first : (whole : Bool) (trace : Traced) (number : ℕ) (line more : List ℕ) (rest : List (List ℕ)) → is_settled line ≡ true → after_lines trace number (counted_lines whole ((line ++ more) ∷ rest)) ≡ after_lines trace number (counted_lines whole (line ∷ rest))
unfolding after_lines
settled_first whole trace number [] more rest settled = absurd (false≢true settled)
settled_first true trace number (byte ∷ line) more [] settled =
    ap (λ after. unless_bad number (λ next. after_lines next (number + 1) []) after) (settled_line trace number (byte ∷ line) more settled)
settled_first false trace number (byte ∷ line) more [] settled = refl
settled_first whole trace number (byte ∷ line) more (first ∷ rest) settled =
    ap (after_lines trace number) (counted_more whole (byte ∷ (line ++ more)) first rest)
    ∙ ap (λ after. unless_bad number (λ next. after_lines next (number + 1) (counted_lines whole (first ∷ rest))) after) (settled_line trace number (byte ∷ line) more settled)
    ∙ ap (after_lines trace number) (sym (counted_more whole (byte ∷ line) first rest))

-- of a line that is settled nothing more has to be kept
settled_ending : (whole : Bool) (trace : Traced) (number : ℕ) (line more rest : List ℕ) → is_settled line ≡ true → ending_after whole trace number line rest ≡ after_lines trace number (counted_lines whole (onto_line line (onto_line more (parts_between 10 rest))))
unfolding ending_after
settled_ending whole trace number line more rest settled =
    let parts = parts_some 10 rest in
    let put : onto_line line (parts_between 10 rest) ≡ (line ++ parts.first) ∷ parts.rest = ap (onto_line line) parts.whole ∙ onto_line_some line parts.first parts.rest in
    let put_more : onto_line line (onto_line more (parts_between 10 rest)) ≡ (line ++ (more ++ parts.first)) ∷ parts.rest =
    ap (λ all. onto_line line (onto_line more all)) parts.whole ∙ ap (onto_line line) (onto_line_some more parts.first parts.rest) ∙ onto_line_some line (more ++ parts.first) parts.rest in
    ap (λ all. after_lines trace number (counted_lines whole all)) put
    ∙ settled_first whole trace number line parts.first parts.rest settled
    ∙ sym (settled_first whole trace number line (more ++ parts.first) parts.rest settled)
    ∙ ap (λ all. after_lines trace number (counted_lines whole all)) (sym put_more)

same_start : (line part : List ℕ) (room : ℕ) → 0 < length line + room → get_or (line ++ take room part) 0 0 ≡ get_or (line ++ part) 0 0
same_start [] part room some = get_or-take room part 0 0 (omega arith)
same_start (byte ∷ line) part room some = refl

abbrev most_kept : List ℕ → ℕ
most_kept line = cond (eqb (get_or line 0 0) 35) 1 (longest_line + 1)

pub kept_settled : (line part : List ℕ) (test : Bool) → eqb (get_or (line ++ part) 0 0) 35 ≡ test → cond test 1 (longest_line + 1) - length line < length part → is_settled (line ++ take (cond test 1 (longest_line + 1) - length line) part) ≡ true
kept_settled line part true hash less =
    let room = 1 - length line in
    settled_skipped (line ++ take room part) (omega (arith, length-append line (take room part), length-take room part))
    (same_start line part room (omega arith) ∙ eqb-true (get_or (line ++ part) 0 0) 35 hash)
kept_settled line part false hash less =
    let room = longest_line + 1 - length line in
    settled_long (line ++ take room part) (omega (arith, length-append line (take room part), length-take room part))

-- keeping so much of more bytes of a line does
pub kept_ending : (whole : Bool) (trace : Traced) (number : ℕ) (line part rest : List ℕ) → ((k : ℕ) → k < length part → get_or part k 0 ≢ 10) → ending_after whole trace number (line ++ take (min (length part) (room_for line part)) part) rest ≡ ending_after whole trace number line (part ++ rest)
unfolding ending_after
kept_ending whole trace number line part rest none =
    let room = room_for line part in
    let parts = parts_between 10 rest in
    let all : onto_line line (onto_line part parts) ≡ onto_line line (parts_between 10 (part ++ rest)) = ap (onto_line line) (sym (parts-append 10 part rest none)) in
    elim (cases_lt room (length part)) [
      | inl less ↦
          let front = take room part in
          let behind = drop room part in
          let kept : take (min (length part) room) part ≡ front = ap (λ count. take count part) (omega arith) in
          let joined : onto_line (line ++ front) (onto_line behind parts) ≡ onto_line line (onto_line part parts) =
          onto_line-append line front (onto_line behind parts) ∙ ap (onto_line line) (sym (onto_line-append front behind parts)) ∙ ap (λ bytes. onto_line line (onto_line bytes parts)) (take-append-drop room part) in
          ap (λ bytes. ending_after whole trace number (line ++ bytes) rest) kept
          ∙ settled_ending whole trace number (line ++ front) behind rest (kept_settled line part (eqb (get_or (line ++ part) 0 0) 35) refl less)
          ∙ ap (λ lines. after_lines trace number (counted_lines whole lines)) (joined ∙ all)
      | inr fits ↦
          let kept : take (min (length part) room) part ≡ part = take_all (min (length part) room) part (omega arith) in
          ap (λ bytes. ending_after whole trace number (line ++ bytes) rest) kept
          ∙ ap (λ lines. after_lines trace number (counted_lines whole lines)) (onto_line-append line part parts ∙ all)
    ]

pub line_ended : (whole : Bool) (trace : Traced) (number : ℕ) (line rest : List ℕ) → ending_after whole trace number line (10 ∷ rest) ≡ unless_bad number (λ next. ending_after whole next (number + 1) [] rest) (after_line trace number line)
unfolding ending_after parts_between after_lines
line_ended whole trace number line rest =
    let parts = parts_some 10 rest in
    let put : onto_line line ([] ∷ parts_between 10 rest) ≡ line ∷ parts_between 10 rest = onto_line_some line [] (parts_between 10 rest) ∙ ap (λ first. first ∷ parts_between 10 rest) (append-nil line) in
    let more : counted_lines whole (line ∷ parts_between 10 rest) ≡ line ∷ counted_lines whole (parts_between 10 rest) =
    ap (λ all. counted_lines whole (line ∷ all)) parts.whole ∙ counted_more whole line parts.first parts.rest ∙ ap (λ all. line ∷ counted_lines whole all) (sym parts.whole) in
    ap (λ all. after_lines trace number (counted_lines whole all)) put ∙ ap (after_lines trace number) more

-- an input that ends within a line
pub open_ended : (trace : Traced) (number : ℕ) (line : List ℕ) → ending_after true trace number line [] ≡ cond (eqb (length line) 0) (Whole trace) (unless_bad number Whole (after_line trace number line))
unfolding ending_after parts_between after_lines
open_ended trace number [] = refl
open_ended trace number (byte ∷ line) =
    ap (λ parts. after_lines trace number (counted_lines true parts)) (onto_line_some (byte ∷ line) [] [] ∙ ap (λ all. all ∷ []) (append-nil (byte ∷ line)))
    ∙ sym (cond-false (eqb (suc (length line)) 0) _ _ (eqb-suc-zero (length line)))

pub cut_off : (trace : Traced) (number : ℕ) (line : List ℕ) → ending_after false trace number line [] ≡ Whole trace
unfolding ending_after parts_between after_lines
cut_off trace number line = ap (λ parts. after_lines trace number (counted_lines false parts)) (onto_line_some line [] [])

pub ending_at_start : (form : Form) (input : List ℕ) → ending_from (empty_trace form) 1 [] 0 input ≡ ending_of form input
unfolding ending_from ending_after ending_of
ending_at_start form input =
    ap (λ count. cond (leb count largest_input) (ending_after true (empty_trace form) 1 [] input) (long_unless_bad (ending_after false (empty_trace form) 1 [] (take largest_input input)))) (zero-add (length input))

pub take_past : (room : ℕ) (bytes rest : List ℕ) → length bytes ≤ room → take room (bytes ++ rest) ≡ bytes ++ take (room - length bytes) rest
take_past room bytes rest fits =
    let count : room ≡ length bytes + (room - length bytes) = omega arith in
    ap (λ n. take n (bytes ++ rest)) count ∙ take-append-add bytes rest (room - length bytes)

same_cond : (test : Bool) (ending : Ending) → cond test ending ending ≡ ending
same_cond true ending = refl
same_cond false ending = refl

-- how an input ends, behind what is kept of an pending line
abbrev pub ends_from : Traced → PendingLine → (taken : ℕ) → (rest : List ℕ) → Ending
ends_from trace pending taken rest = ending_from trace pending.number pending.line.items taken rest

-- more bytes were taken, within the limit
pub continued : (old_trace trace : Traced) (old pending : PendingLine) (before taken : ℕ) (bytes rest : List ℕ) → taken ≤ largest_input → taken ≡ before + length bytes
    → ((whole : Bool) (rest : List ℕ) → lines_end whole trace pending rest ≡ lines_end whole old_trace old (bytes ++ rest))
    → ends_from trace pending taken rest ≡ ends_from old_trace old before (bytes ++ rest)
unfolding ending_from
continued old_trace trace old pending before taken bytes rest fits is_taken goes_on =
    let count : taken + length rest ≡ before + length (bytes ++ rest) = omega (arith, length-append bytes rest) in
    let room : largest_input - before - length bytes ≡ largest_input - taken = omega arith in
    let cut : bytes ++ take (largest_input - taken) rest ≡ take (largest_input - before) (bytes ++ rest) =
    sym (take_past (largest_input - before) bytes rest (omega arith) ∙ ap (λ n. bytes ++ take n rest) room) in
    let test = leb (before + length (bytes ++ rest)) largest_input in
    ap (λ n. cond (leb n largest_input) (lines_end true trace pending rest) (long_unless_bad (lines_end false trace pending (take (largest_input - taken) rest)))) count
    ∙ ap (λ ending. cond test ending (long_unless_bad (lines_end false trace pending (take (largest_input - taken) rest)))) (goes_on true rest)
    ∙ ap (λ ending. cond test (lines_end true old_trace old (bytes ++ rest)) (long_unless_bad ending)) (goes_on false (take (largest_input - taken) rest) ∙ ap (lines_end false old_trace old) cut)

-- they have a bad line
pub stopped : (old_trace : Traced) (old : PendingLine) (before : ℕ) (bytes rest : List ℕ) (line : BadLine) → before + length bytes ≤ largest_input
    → ((whole : Bool) (rest : List ℕ) → lines_end whole old_trace old (bytes ++ rest) ≡ Bad line) → ends_from old_trace old before (bytes ++ rest) ≡ Bad line
unfolding ending_from
stopped old_trace old before bytes rest line fits bad =
    let test = leb (before + length (bytes ++ rest)) largest_input in
    let cut = take_past (largest_input - before) bytes rest (omega arith) in
    ap (λ ending. cond test ending (long_unless_bad (lines_end false old_trace old (take (largest_input - before) (bytes ++ rest))))) (bad true rest)
    ∙ ap (λ ending. cond test (Bad line) (long_unless_bad ending)) (ap (lines_end false old_trace old) cut ∙ bad false (take (largest_input - before - length bytes) rest))
    ∙ same_cond test (Bad line)

-- bytes that pass the limit: those within it decide
pub past_limit : (old_trace : Traced) (old : PendingLine) (before : ℕ) (bytes : List ℕ) → largest_input < before + length bytes
    → ends_from old_trace old before bytes ≡ long_unless_bad (lines_end false old_trace old (take (largest_input - before) bytes))
unfolding ending_from
past_limit old_trace old before bytes past =
    cond-false (leb (before + length bytes) largest_input) (lines_end true old_trace old bytes) (long_unless_bad (lines_end false old_trace old (take (largest_input - before) bytes)))
    (lt-leb (before + length bytes) largest_input past)

-- nothing is left
pub at_end : (trace : Traced) (pending : PendingLine) (taken : ℕ) → taken ≤ largest_input → ends_from trace pending taken [] ≡ lines_end true trace pending []
unfolding ending_from
at_end trace pending taken fits =
    cond-true (leb (taken + 0) largest_input) (lines_end true trace pending []) (long_unless_bad (lines_end false trace pending (take (largest_input - taken) []))) (le-leb (taken + 0) largest_input (omega arith))
