-- Parts of zeros: a blank region.
use Rattle.std.proofs.Common.{◌≡◌, ℕ, ◌+◌, ◌/◌, ◌<◌, ◌≤◌, List, [], ◌∷◌, ◌++◌, length, map, replicate, get_or, slice_index_or, zero, suc, sym, ap, ◌∙◌, subst, arith, inl, inr, refl, length-append}
use Rattle.std.proofs.lemmas.Bool.{cases_lt}
use Rattle.std.proofs.lemmas.List.{get_or-replicate, get_or_past, get_or-map, get_or_append_left, get_or_push, length-map, length-replicate}
use Rattle.nv_plain.specs.Layouts.{Layout}
use Rattle.nv_pmem.specs.Images.{IsQuietLine, IsQuietPart}
use Rattle.nv_pmem.specs.MemPart.{IsBlankMemPart, part_history, part_room}
use Rattle.nv_pmem.specs.Moments.{Tells}
use Rattle.nv_pmem.specs.Part.{Part, blank_line, line_of, part_word, newest, word_at}
use Rattle.nv_pmem.specs.Room.{Room}
use Rattle.nv_pmem.specs.Rows.{RowTells}
use Rattle.nv_pmem.specs.Steps.{PartHistory}
use Rattle.nv_pmem.specs.declared.mem_part.MemPart.{MemPart}
use Rattle.nv_pmem.proofs.ImageLaws.{quiet_blank, quiet_image}
use Rattle.nv_pmem.proofs.RowLaws.{blank_word, EachPart, row_tells_each, row_tells_more}
use Rattle.nv_header.specs.Regions.{part_lines, IsRoomy, HasParts, IsBlankRow}

-- lines of zeros are blank, and so are those that aren't there
line_of-zeros : (lines i : ℕ) → line_of (replicate lines blank_line) i ≡ blank_line
line_of-zeros lines i = elim (cases_lt i lines) [
  | inl inside ↦ get_or-replicate lines i blank_line blank_line inside
  | inr past ↦ get_or_past (replicate lines blank_line) i blank_line (omega (arith, length-replicate lines blank_line))
]

-- a part of zeros, or one that isn't there
record IsZeros (part : Part) : Type 0 where
  quiet : IsQuietPart part
  word : (line word : ℕ) → part_word part line word ≡ 0

zeros_of : (lines : ℕ) (part : Part) → part ≡ replicate lines blank_line → IsZeros part
zeros_of lines part is =
    let line = λ (i : ℕ). ap (λ these. line_of these i) is ∙ line_of-zeros lines i in
    record {
      quiet = record { lines = λ i. subst IsQuietLine (sym (line i)) quiet_blank };
      word = λ i j. ap (λ content. word_at (newest content) j) (line i) ∙ blank_word j;
    }

zeros_at : (count : ℕ) (parts : List Part) → EachPart (λ i part. IsZeros part) count parts → (i : ℕ) → IsZeros (slice_index_or parts i [])
zeros_at count parts each i = elim (cases_lt i count) [
  | inl inside ↦ each.has i inside
  | inr past ↦ zeros_of 0 (slice_index_or parts i []) (get_or_past parts i [] (omega (arith, each.long)))
]

blank_parts : (count : ℕ) (parts : List Part) → EachPart (λ i part. IsZeros part) count parts → IsBlankRow parts
blank_parts count parts each = record {
  quiet = record { each = λ i. (zeros_at count parts each i).quiet };
  blank = λ image is.
      let header = zeros_at count parts each 0 in
      quiet_image (slice_index_or parts 0 []) (image 0) 0 0 (header.quiet.lines 0) (is.each 0) ∙ header.word 0 0;
}

told_zeros : (lines : ℕ) (history : PartHistory) → history ≡ replicate lines blank_line ∷ [] → Tells history IsZeros
told_zeros lines history is =
    let At : PartHistory → Type 0 = λ these. Tells these IsZeros in
    subst At (sym is) (zeros_of lines (replicate lines blank_line) refl)

-- parts of zeros, which have had no other state, are a blank region
pub blank_row : (row : List PartHistory) (lines : ℕ → ℕ) → ((i : ℕ) → i < length row → slice_index_or row i [] ≡ replicate (lines i) blank_line ∷ []) → RowTells row IsBlankRow
blank_row row lines each =
    row_tells_more row (EachPart (λ i part. IsZeros part) (length row)) IsBlankRow (blank_parts (length row))
    (row_tells_each row (λ i part. IsZeros part) (λ i inside. told_zeros (lines i) (slice_index_or row i []) (each i inside)))

-- A part in memory is blank, and where it is the header's or an entry's it has its lines.
pub record IsBlankPart (layout : Layout) (page entries i : ℕ) (part : MemPart) : Type 0 where
  pub blank : IsBlankMemPart (part_room part).lines part
  pub lines : i ≤ entries → (part_room part).lines ≡ part_lines layout page i

-- each of some parts is
abbrev pub AreBlank : Layout → (page entries : ℕ) → List MemPart → Type 0
AreBlank layout page entries parts = (i : ℕ) (none : MemPart) → i < length parts → IsBlankPart layout page entries i (get_or parts i none)

roomy : (lines : ℕ) (part : MemPart) → IsBlankMemPart (part_room part).lines part → (part_room part).lines ≡ lines → IsRoomy lines (part_room part)
roomy lines part blank lines_is = record {
  there = omega arith;
  spare = λ line below. omega (arith, blank.spare line (omega arith));
}

-- They have the room of a region's parts,
pub blank_has_parts : (layout : Layout) (page entries : ℕ) (parts : List MemPart) → 1 + entries ≤ length parts → AreBlank layout page entries parts → HasParts layout page entries (map part_room parts)
blank_has_parts layout page entries [] count are = absurd (omega arith)
blank_has_parts layout page entries (first ∷ rest) count are =
    let parts = first ∷ rest in
    record {
      count = omega (arith, length-map parts part_room);
      each = λ i none within.
          let At : Room → Type 0 = IsRoomy (part_lines layout page i) in
          let inside : i < length parts = omega arith in
          let part = are i first inside in
          subst At (sym (get_or-map part_room parts i first none inside)) (roomy (part_lines layout page i) (get_or parts i first) part.blank (part.lines within));
    }

-- and are a blank region.
pub blank_tells : (layout : Layout) (page entries : ℕ) (parts : List MemPart) → AreBlank layout page entries parts → RowTells (map part_history parts) IsBlankRow
blank_tells layout page entries [] are = blank_row [] (λ i. 0) (λ i below. absurd (omega arith))
blank_tells layout page entries (first ∷ rest) are =
    let parts = first ∷ rest in
    blank_row (map part_history parts) (λ i. (part_room (get_or parts i first)).lines) (λ i below.
    let inside : i < length parts = omega (arith, length-map parts part_history) in
    get_or-map part_history parts i first [] inside ∙ (are i first inside).blank.history)

one_more : (layout : Layout) (page entries : ℕ) (parts : List MemPart) (part : MemPart) (lines : ℕ) → AreBlank layout page entries parts → (length parts ≤ entries → lines ≡ part_lines layout page (length parts)) → IsBlankMemPart lines part → AreBlank layout page entries (parts ++ part ∷ [])
one_more layout page entries parts part lines are lines_is blank i none below =
    let At : MemPart → Type 0 = IsBlankPart layout page entries i in
    elim (cases_lt i (length parts)) [
      | inl before ↦ subst At (sym (get_or_append_left parts (part ∷ []) none i before)) (are i none before)
      | inr last ↦
          let here : i ≡ length parts = omega (arith, length-append parts (part ∷ [])) in
          let Lines : ℕ → Type 0 = λ n. IsBlankMemPart n part in
          subst At (sym (get_or_push parts part none i (sym here)))
          (record {
            blank = subst Lines (sym blank.count) blank;
            lines = λ within. blank.count ∙ lines_is (omega arith) ∙ ap (part_lines layout page) (sym here);
          })
    ]

-- a part behind the header's has an entry's lines
pub entry_part : (layout : Layout) (page i : ℕ) → 1 ≤ i → 1 + page / 64 ≡ part_lines layout page i
entry_part layout page zero behind = absurd (omega arith)
entry_part layout page (suc i) behind = refl

-- blank parts, and one more behind them
pub part_more : (layout : Layout) (page entries : ℕ) (parts new : List MemPart) (part : MemPart) (lines : ℕ) → new ≡ parts ++ part ∷ [] → AreBlank layout page entries parts → (length parts ≤ entries → lines ≡ part_lines layout page (length parts)) → IsBlankMemPart lines part
    → (length new ≡ length parts + 1) × AreBlank layout page entries new
part_more layout page entries parts new part lines new_is are lines_is blank =
    let At : List MemPart → Type 0 = AreBlank layout page entries in (
      omega (arith, ap length new_is, length-append parts (part ∷ [])),
      subst At (sym new_is) (one_more layout page entries parts part lines are lines_is blank),
    )
