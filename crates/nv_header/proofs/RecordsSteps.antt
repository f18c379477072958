-- The steps that write the records of all names, in version 2: their lines stand one behind the other.
use Rattle.std.proofs.Common.{◌≡◌, ℕ, ◌+◌, ◌-◌, ◌*◌, ◌/◌, ◌%◌, ◌<◌, ◌≤◌, ◌⊎◌, inl, inr, List, [], ◌∷◌, ◌++◌, length, slice_index_or, zero, suc, refl, sym, ap, ◌∙◌, subst, arith, zero-add}
use Rattle.std.proofs.lemmas.Bool.{cases_lt}
use Rattle.std.specs.List.{flat_map, range_with_len}
use Rattle.nv_plain.specs.Layouts.{version_2}
use Rattle.nv_pmem.specs.Images.{IsQuietLine, IsQuietPart}
use Rattle.nv_pmem.specs.Part.{Part, line_of}
use Rattle.nv_pmem.specs.Steps.{LineStep, Fence, DidLineStep, DidSome, PartHistory, word_in}
use Rattle.nv_pmem.proofs.ImageLaws.{IsStoredBy, open_line, quiet_line, fenced_more, mark_after_all, mark_after_all-append, quiet_after, quiet_still}
use Rattle.nv_pmem.proofs.LineLaws.{overlaid, overlaid-append, AreInside, inside_append}
use Rattle.nv_pmem.proofs.Ranges.{flat_map-split, flat_map-more}
use Rattle.nv_pmem.proofs.RowLaws.{stored_by-append}
use Rattle.nv_pmem.proofs.StepLaws.{after_steps, did_none, did_did, did_did_some, did_some_front}
use Rattle.nv_header.specs.Heads.{record_line}
use Rattle.nv_header.specs.HeaderSteps.{name_record, record_part, record_lines_steps, records_lines_steps, records_steps}
use Rattle.nv_header.proofs.RecordSteps.{line_steps, lines_steps, lines_only, lines_overlay, lines_inside, lines_marks, lines_marks-other, record_lines-are}
use Rattle.nv_header.proofs.RecordWords.{word_of_line}

-- ---- one name after another

-- the steps of one name's record
abbrev pub record_of_name : List (List ℕ) → ℕ → List LineStep
record_of_name names i = record_lines_steps version_2 i (slice_index_or names i [])

-- and of the first so many
abbrev pub first_records : List (List ℕ) → ℕ → List LineStep
first_records names count = flat_map (record_of_name names) (range_with_len 0 count)

pub records_none : (names : List (List ℕ)) (history : PartHistory) → DidLineStep (first_records names 0) history history
records_none names history = did_none _ history

first_records-more : (names : List (List ℕ)) (k : ℕ) → first_records names (k + 1) ≡ first_records names k ++ record_of_name names k
first_records-more names k = flat_map-more (record_of_name names) 0 k ∙ ap (λ j. first_records names k ++ record_of_name names j) (zero-add k)

pub records_more : (names : List (List ℕ)) (k : ℕ) {old between new : PartHistory} → DidLineStep (first_records names k) old between → DidLineStep (record_of_name names k) between new → DidLineStep (first_records names (k + 1)) old new
records_more names k {old} {between} {new} before one =
    let At : List LineStep → Type 0 = λ steps. DidLineStep steps old new in
    subst At (sym (first_records-more names k)) (did_did before one)

pub records_some_more : (names : List (List ℕ)) (k : ℕ) {old between new : PartHistory} → k < length names → DidLineStep (first_records names k) old between → DidSome (record_of_name names k) between new → DidSome (records_lines_steps version_2 names) old new
unfolding records_lines_steps
records_some_more names k {old} {between} {new} inside before one =
    let At : List LineStep → Type 0 = λ steps. DidSome steps old new in
    let rest = length names - (k + 1) in
    let all : length names ≡ k + 1 + rest = omega arith in
    let behind = flat_map (record_of_name names) (range_with_len (0 + (k + 1)) rest) in
    let cut = ap (first_records names) all
    ∙ flat_map-split (record_of_name names) 0 (k + 1) rest
    ∙ ap (λ front. front ++ behind) (first_records-more names k) in
    subst At (sym cut) (did_some_front behind (did_did_some before one))

pub records_all : (names : List (List ℕ)) (k : ℕ) {old new : PartHistory} → k ≡ length names → DidLineStep (first_records names k) old new → DidLineStep (records_lines_steps version_2 names) old new
unfolding records_lines_steps
records_all names k {old} {new} is did = let At : ℕ → Type 0 = λ count. DidLineStep (first_records names count) old new in subst At is did

-- ---- one line after another

-- line n of all records is one of name n / 4
abbrev pub part_of_records : List (List ℕ) → ℕ → List ℕ
part_of_records names n = record_part version_2 (slice_index_or names (n / 4) []) (n % 4)

-- the same lines, counted from another one
lines_shifted : (first by : ℕ) (bytes others : ℕ → List ℕ) (from count : ℕ) → ((k : ℕ) → from ≤ k → k < from + count → bytes (by + k) ≡ others k) → (start : ℕ) → start ≡ by + from → lines_steps first bytes start count ≡ lines_steps (first + by) others from count
lines_shifted first by bytes others from zero same start is = refl
lines_shifted first by bytes others from (suc count) same start is =
    let place : first + start ≡ first + by + from = omega arith in
    let rest = lines_shifted first by bytes others (from + 1) count (λ k low high. same k (omega arith) (omega arith)) (start + 1) (omega arith) in
    ap (λ n. line_steps n (bytes start) ++ lines_steps first bytes (start + 1) count) place
    ∙ ap (λ these. line_steps (first + by + from) these ++ lines_steps first bytes (start + 1) count) (ap bytes is ∙ same from (omega arith) (omega arith))
    ∙ ap (λ behind. line_steps (first + by + from) (others from) ++ behind) rest

lines_of_name : (names : List (List ℕ)) (i : ℕ) → lines_steps 18 (part_of_records names) (0 + 4 * i) 4 ≡ record_of_name names i
lines_of_name names i =
    let name = slice_index_or names i [] in
    let first : 18 + 4 * i ≡ record_line version_2 i = omega arith in
    lines_shifted 18 (4 * i) (part_of_records names) (record_part version_2 name) 0 4 (λ k low high.
    let whose : (4 * i + k) / 4 ≡ i = omega arith in
    let which : (4 * i + k) % 4 ≡ k = omega arith in
    ap (λ n. record_part version_2 (slice_index_or names n []) ((4 * i + k) % 4)) whose ∙ ap (record_part version_2 name) which) (0 + 4 * i) (omega arith)
    ∙ ap (λ n. lines_steps n (record_part version_2 name) 0 4) first
    ∙ sym (record_lines-are version_2 i name)

first_records-are : (names : List (List ℕ)) (count : ℕ) → first_records names count ≡ lines_steps 18 (part_of_records names) 0 (4 * count)
first_records-are names zero = refl
first_records-are names (suc count) =
    let whole = λ (k : ℕ). line_steps (18 + k) (part_of_records names k) in
    let size : 4 * count + 4 ≡ 4 * suc count = omega arith in
    let next : suc count ≡ count + 1 = omega arith in
    ap (first_records names) next
    ∙ first_records-more names count
    ∙ ap (λ front. front ++ record_of_name names count) (first_records-are names count)
    ∙ ap (λ last. lines_steps 18 (part_of_records names) 0 (4 * count) ++ last) (sym (lines_of_name names count))
    ∙ sym (flat_map-split whole 0 (4 * count) 4)
    ∙ ap (lines_steps 18 (part_of_records names) 0) size

-- the lines of all records
abbrev pub all_lines : List (List ℕ) → List LineStep
all_lines names = lines_steps 18 (part_of_records names) 0 (4 * length names)

records-are : (names : List (List ℕ)) → records_steps version_2 names ≡ all_lines names ++ Fence ∷ []
unfolding records_steps records_lines_steps
records-are names = ap (λ lines. lines ++ Fence ∷ []) (first_records-are names (length names))

-- ---- what they store

-- they store in the lines of records alone
pub records_only : (names : List (List ℕ)) (line word found : ℕ) → IsStoredBy (records_steps version_2 names) line word found → 18 ≤ line
records_only names line word found stored =
    let By : List LineStep → Type 0 = λ steps. IsStoredBy steps line word found in
    elim (stored_by-append (all_lines names) (Fence ∷ []) line word found (subst By (records-are names) stored)) [
      | inl here ↦ (lines_only 18 (part_of_records names) 0 (4 * length names) line word found here).0
      | inr rest ↦ elim rest [ inl none ↦ absurd none | inr none ↦ absurd none ]
    ]

-- each word of a name's record
pub records_overlay : (names : List (List ℕ)) (i k was : ℕ) → i < length names → k < 32 → overlaid (records_steps version_2 names) (record_line version_2 i + k / 8) (k % 8) was ≡ word_in (name_record version_2 (slice_index_or names i [])) k
records_overlay names i k was inside small =
    let name = slice_index_or names i [] in
    let line = record_line version_2 i + k / 8 in
    let n = 4 * i + k / 8 in
    let place : line ≡ 18 + n = omega arith in
    let whose : n / 4 ≡ i = omega arith in
    let which : n % 4 ≡ k / 8 = omega arith in
    let index : 8 * (k / 8) + k % 8 ≡ k = omega arith in
    ap (λ steps. overlaid steps line (k % 8) was) (records-are names)
    ∙ overlaid-append (all_lines names) (Fence ∷ []) line (k % 8) was
    ∙ ap (λ at. overlaid (all_lines names) at (k % 8) was) place
    ∙ lines_overlay 18 (part_of_records names) 0 (4 * length names) n (k % 8) was (omega arith) (omega arith) (omega arith)
    ∙ ap (λ j. word_in (record_part version_2 (slice_index_or names j []) (n % 4)) (k % 8)) whose
    ∙ ap (λ j. word_in (record_part version_2 name j) (k % 8)) which
    ∙ word_of_line version_2 name (k / 8) (k % 8) (omega arith)
    ∙ ap (word_in (name_record version_2 name)) index

pub records_inside : (names : List (List ℕ)) (lines : ℕ) → 18 + 4 * length names ≤ lines → AreInside lines (records_steps version_2 names)
records_inside names lines inside =
    let Inside : List LineStep → Type 0 = AreInside lines in
    subst Inside (sym (records-are names))
    (inside_append lines (all_lines names) (Fence ∷ []) (lines_inside 18 (part_of_records names) 0 (4 * length names) lines (omega arith)) tt)

-- ---- and which lines are quiet after them

pub records_settle : (names : List (List ℕ)) (line : ℕ) (part : Part) → 18 ≤ line → line < 18 + 4 * length names → IsQuietLine (line_of (after_steps (records_steps version_2 names) part) line)
records_settle names line part low high =
    quiet_after line (records_steps version_2 names) part
    (ap (λ steps. mark_after_all line steps open_line) (records-are names)
    ∙ mark_after_all-append line (all_lines names) (Fence ∷ []) open_line
    ∙ ap fenced_more (lines_marks 18 (part_of_records names) 0 (4 * length names) line open_line (omega arith) (omega arith)))

records_leave : (names : List (List ℕ)) (line : ℕ) (part : Part) → (line < 18) ⊎ (18 + 4 * length names ≤ line) → IsQuietLine (line_of part line) → IsQuietLine (line_of (after_steps (records_steps version_2 names) part) line)
records_leave names line part apart quiet =
    let beside : (line < 18 + 0) ⊎ (18 + 0 + 4 * length names ≤ line) = elim apart [ inl before ↦ inl (omega arith) | inr behind ↦ inr (omega arith) ] in
    quiet_still line (records_steps version_2 names) part
    (ap (λ steps. mark_after_all line steps quiet_line) (records-are names)
    ∙ mark_after_all-append line (all_lines names) (Fence ∷ []) quiet_line
    ∙ ap fenced_more (lines_marks-other 18 (part_of_records names) 0 (4 * length names) line quiet_line beside)) quiet

pub records_quiet : (names : List (List ℕ)) (part : Part) → IsQuietPart part → IsQuietPart (after_steps (records_steps version_2 names) part)
records_quiet names part quiet = record {
  lines = λ line. elim (cases_lt line 18) [
    | inl before ↦ records_leave names line part (inl before) (quiet.lines line)
    | inr from ↦ elim (cases_lt line (18 + 4 * length names)) [
      | inl inside ↦ records_settle names line part from inside
      | inr behind ↦ records_leave names line part (inr behind) (quiet.lines line)
    ]
  ];
}
