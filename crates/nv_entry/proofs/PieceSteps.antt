-- Entries: what the steps that write one store, which lines they leave quiet, and what a part reads as after them.
use Rattle.std.proofs.Common.{◌≡◌, ◌≢◌, ℕ, ◌+◌, ◌-◌, ◌<◌, ◌≤◌, ◌⊎◌, inl, inr, List, [], ◌∷◌, ◌++◌, length, map, zero, suc, refl, sym, ap, ◌∙◌, subst, arith, zero-add}
use Rattle.std.proofs.lemmas.Bool.{cases_eq, cases_lt, eq-eqb, ne_eqb}
use Rattle.std.specs.List.{flat_map, range_with_len}
use Rattle.nv_plain.specs.Images.{PartImage, entry_of, data_of, lines_for}
use Rattle.nv_pmem.specs.Calls.{Seen, EndedWell, EndedBadly, EachEnded, OneFailed}
use Rattle.nv_pmem.specs.Part.{Part, part_word}
use Rattle.nv_pmem.specs.Steps.{LineStep, StoreWord, Flush, line_stores, word_in}
use Rattle.nv_pmem.proofs.CallLaws.{each_each, each_failed, failed_front}
use Rattle.nv_pmem.proofs.ImageLaws.{IsStoredBy, Mark, open_line, noted_line, quiet_line, fenced_more, mark_after_all, mark_after_all-append}
use Rattle.nv_pmem.proofs.RowLaws.{stored_by-append}
use Rattle.nv_pmem.proofs.StepLaws.{after_steps}
use Rattle.nv_pmem.proofs.LineLaws.{overlaid, overlaid-append, AreInside, inside_append, word_of-after_steps}
use Rattle.nv_entry.specs.Group.{data_line, data_steps, entry_field_steps}
use Rattle.nv_pmem.proofs.Ranges.{flat_map-more, flat_map-split}
use Rattle.nv_entry.proofs.Data.{AreBytes, line_bytes-words, length-data_line, bytes_in_data_line, lines_bytes-data}

-- ---- the stores of a line

overlaid-line_stores_same : (line : ℕ) (bytes : List ℕ) (j was : ℕ) → j < 8 → overlaid (line_stores line bytes) line j was ≡ word_in bytes j
unfolding line_stores
overlaid-line_stores_same line bytes zero was small = rw (eq-eqb line line refl)
overlaid-line_stores_same line bytes (suc zero) was small = rw (eq-eqb line line refl)
overlaid-line_stores_same line bytes (suc (suc zero)) was small = rw (eq-eqb line line refl)
overlaid-line_stores_same line bytes (suc (suc (suc zero))) was small = rw (eq-eqb line line refl)
overlaid-line_stores_same line bytes (suc (suc (suc (suc zero)))) was small = rw (eq-eqb line line refl)
overlaid-line_stores_same line bytes (suc (suc (suc (suc (suc zero))))) was small = rw (eq-eqb line line refl)
overlaid-line_stores_same line bytes (suc (suc (suc (suc (suc (suc zero)))))) was small = rw (eq-eqb line line refl)
overlaid-line_stores_same line bytes (suc (suc (suc (suc (suc (suc (suc zero))))))) was small = rw (eq-eqb line line refl)
overlaid-line_stores_same line bytes (suc (suc (suc (suc (suc (suc (suc (suc j)))))))) was small = absurd (omega arith)

overlaid-line_stores_other : (line : ℕ) (bytes : List ℕ) (i j was : ℕ) → i ≢ line → overlaid (line_stores line bytes) i j was ≡ was
unfolding line_stores
overlaid-line_stores_other line bytes i j was differs = rw (ne_eqb i line differs)

inside_line_stores : (line lines : ℕ) (bytes : List ℕ) → line < lines → AreInside lines (line_stores line bytes)
unfolding line_stores
inside_line_stores line lines bytes inside = (inside, (inside, (inside, (inside, (inside, (inside, (inside, (inside, tt))))))))

-- a store of a line is one to it
stored_by_line : (line : ℕ) (value : ℕ → ℕ) (words : List ℕ) (i j found : ℕ) → IsStoredBy (map (λ word. StoreWord line word (value word)) words) i j found → i ≡ line
stored_by_line line value [] i j found none = absurd none
stored_by_line line value (word ∷ words) i j found (inl here) = here.0
stored_by_line line value (word ∷ words) i j found (inr later) = stored_by_line line value words i j found later

stored_by_line_stores : (line : ℕ) (bytes : List ℕ) (i j found : ℕ) → IsStoredBy (line_stores line bytes) i j found → i ≡ line
unfolding line_stores
stored_by_line_stores line bytes i j found stored =
    stored_by_line line (word_in bytes) (0 ∷ 1 ∷ 2 ∷ 3 ∷ 4 ∷ 5 ∷ 6 ∷ 7 ∷ []) i j found stored

mark-line_stores_same : (line : ℕ) (bytes : List ℕ) (mark : Mark) → mark_after_all line (line_stores line bytes) mark ≡ open_line
unfolding line_stores
mark-line_stores_same line bytes mark = rw (eq-eqb line line refl)

mark-line_stores_other : (line : ℕ) (bytes : List ℕ) (i : ℕ) (mark : Mark) → i ≢ line → mark_after_all i (line_stores line bytes) mark ≡ mark
unfolding line_stores
mark-line_stores_other line bytes i mark differs = rw (ne_eqb i line differs)

-- ---- a data line is stored and flushed

-- the steps of data line k
abbrev pub line_steps : List ℕ → ℕ → List LineStep
line_steps bytes k = line_stores (1 + k) (data_line bytes k) ++ Flush (1 + k) ∷ []

overlaid-line_steps_same : (bytes : List ℕ) (k j was : ℕ) → j < 8 → overlaid (line_steps bytes k) (1 + k) j was ≡ word_in (data_line bytes k) j
overlaid-line_steps_same bytes k j was small =
    overlaid-append (line_stores (1 + k) (data_line bytes k)) (Flush (1 + k) ∷ []) (1 + k) j was
    ∙ overlaid-line_stores_same (1 + k) (data_line bytes k) j was small

overlaid-line_steps_other : (bytes : List ℕ) (k i j was : ℕ) → i ≢ 1 + k → overlaid (line_steps bytes k) i j was ≡ was
overlaid-line_steps_other bytes k i j was differs =
    overlaid-append (line_stores (1 + k) (data_line bytes k)) (Flush (1 + k) ∷ []) i j was
    ∙ overlaid-line_stores_other (1 + k) (data_line bytes k) i j was differs

stored_by_line_steps : (bytes : List ℕ) (k i j found : ℕ) → IsStoredBy (line_steps bytes k) i j found → i ≡ 1 + k
stored_by_line_steps bytes k i j found stored =
    elim (stored_by-append (line_stores (1 + k) (data_line bytes k)) (Flush (1 + k) ∷ []) i j found stored) [
      | inl one ↦ stored_by_line_stores (1 + k) (data_line bytes k) i j found one
      | inr none ↦ elim none [ inl nothing ↦ absurd nothing | inr nothing ↦ absurd nothing ]
    ]

mark-line_steps_same : (bytes : List ℕ) (k : ℕ) (mark : Mark) → mark_after_all (1 + k) (line_steps bytes k) mark ≡ noted_line
mark-line_steps_same bytes k mark =
    mark_after_all-append (1 + k) (line_stores (1 + k) (data_line bytes k)) (Flush (1 + k) ∷ []) mark
    ∙ ap (mark_after_all (1 + k) (Flush (1 + k) ∷ [])) (mark-line_stores_same (1 + k) (data_line bytes k) mark)
    ∙ rw (eq-eqb (1 + k) (1 + k) refl)

mark-line_steps_other : (bytes : List ℕ) (k i : ℕ) (mark : Mark) → i ≢ 1 + k → mark_after_all i (line_steps bytes k) mark ≡ mark
mark-line_steps_other bytes k i mark differs =
    mark_after_all-append i (line_stores (1 + k) (data_line bytes k)) (Flush (1 + k) ∷ []) mark
    ∙ ap (mark_after_all i (Flush (1 + k) ∷ [])) (mark-line_stores_other (1 + k) (data_line bytes k) i mark differs)
    ∙ rw (ne_eqb i (1 + k) differs)

-- ---- several data lines

-- the steps of so many data lines, from one on
abbrev pub lines_steps : List ℕ → ℕ → ℕ → List LineStep
lines_steps bytes from count = flat_map (line_steps bytes) (range_with_len from count)

-- one data line more
lines_steps-more : (bytes : List ℕ) (k : ℕ) → lines_steps bytes 0 (k + 1) ≡ lines_steps bytes 0 k ++ line_steps bytes k
lines_steps-more bytes k =
    flat_map-more (line_steps bytes) 0 k ∙ ap (λ i. lines_steps bytes 0 k ++ line_steps bytes i) (zero-add k)

-- all of them, behind the first so many
data_steps-split : (bytes : List ℕ) (k : ℕ) → k < lines_for (length bytes) → data_steps bytes ≡ (lines_steps bytes 0 k ++ line_steps bytes k) ++ lines_steps bytes (0 + (k + 1)) (lines_for (length bytes) - (k + 1))
unfolding data_steps
data_steps-split bytes k inside =
    let all : lines_for (length bytes) ≡ k + 1 + (lines_for (length bytes) - (k + 1)) = omega arith in
    ap (lines_steps bytes 0) all
    ∙ flat_map-split (line_steps bytes) 0 (k + 1) (lines_for (length bytes) - (k + 1))
    ∙ ap (λ front. front ++ lines_steps bytes (0 + (k + 1)) (lines_for (length bytes) - (k + 1))) (lines_steps-more bytes k)

-- The calls of all data lines ended well.
pub each_data : (bytes : List ℕ) (count : ℕ) {old new : Seen} → count ≡ lines_for (length bytes) → EachEnded EndedWell (lines_steps bytes 0 count) old new → EachEnded EndedWell (data_steps bytes) old new
unfolding data_steps
each_data bytes count {old} {new} all ended =
    let Ended : ℕ → Type 0 = λ lines. EachEnded EndedWell (lines_steps bytes 0 lines) old new in subst Ended all ended

-- Those of one data line more did.
pub each_lines_more : (bytes : List ℕ) (k : ℕ) (content : List ℕ) {old between new : Seen} → content ≡ data_line bytes k → EachEnded EndedWell (lines_steps bytes 0 k) old between → EachEnded EndedWell (line_stores (1 + k) content ++ Flush (1 + k) ∷ []) between new
    → EachEnded EndedWell (lines_steps bytes 0 (k + 1)) old new
each_lines_more bytes k content {old} {between} {new} same before line =
    let Line : List ℕ → Type 0 = λ these. EachEnded EndedWell (line_stores (1 + k) these ++ Flush (1 + k) ∷ []) between new in
    let Ended : List LineStep → Type 0 = λ steps. EachEnded EndedWell steps old new in
    subst Ended (sym (lines_steps-more bytes k)) (each_each before (subst Line same line))

-- One of those of one line more, of those that there are, failed.
pub failed_lines_more : (bytes : List ℕ) (k : ℕ) (content : List ℕ) {old between new : Seen} → content ≡ data_line bytes k → k < lines_for (length bytes) → EachEnded EndedWell (lines_steps bytes 0 k) old between
    → OneFailed EndedWell EndedBadly (line_stores (1 + k) content ++ Flush (1 + k) ∷ []) between new → OneFailed EndedWell EndedBadly (data_steps bytes) old new
failed_lines_more bytes k content {old} {between} {new} same inside before line =
    let Line : List ℕ → Type 0 = λ these. OneFailed EndedWell EndedBadly (line_stores (1 + k) these ++ Flush (1 + k) ∷ []) between new in
    let Failed : List LineStep → Type 0 = λ steps. OneFailed EndedWell EndedBadly steps old new in
    subst Failed (sym (data_steps-split bytes k inside))
    (failed_front (lines_steps bytes (0 + (k + 1)) (lines_for (length bytes) - (k + 1))) (each_failed before (subst Line same line)))

overlaid-lines_steps_other : (bytes : List ℕ) (from count i j was : ℕ) → i ≤ from → overlaid (lines_steps bytes from count) i j was ≡ was
overlaid-lines_steps_other bytes from zero i j was low = refl
overlaid-lines_steps_other bytes from (suc count) i j was low =
    overlaid-append (line_steps bytes from) (lines_steps bytes (from + 1) count) i j was
    ∙ overlaid-lines_steps_other bytes (from + 1) count i j _ (omega arith)
    ∙ overlaid-line_steps_other bytes from i j was (omega arith)

overlaid-lines_steps_same : (bytes : List ℕ) (from count k j was : ℕ) → from ≤ k → k < from + count → j < 8 → overlaid (lines_steps bytes from count) (1 + k) j was ≡ word_in (data_line bytes k) j
overlaid-lines_steps_same bytes from zero k j was low high small = absurd (omega arith)
overlaid-lines_steps_same bytes from (suc count) k j was low high small =
    overlaid-append (line_steps bytes from) (lines_steps bytes (from + 1) count) (1 + k) j was
    ∙ elim (cases_eq k from) [
      | inl same ↦
          overlaid-lines_steps_other bytes (from + 1) count (1 + k) j _ (omega arith)
          ∙ ap (λ line. overlaid (line_steps bytes line) (1 + k) j was) (sym same)
          ∙ overlaid-line_steps_same bytes k j was small
      | inr differs ↦ overlaid-lines_steps_same bytes (from + 1) count k j _ (omega arith) (omega arith) small
    ]

inside_lines_steps : (bytes : List ℕ) (from count lines : ℕ) → 1 + from + count ≤ lines → AreInside lines (lines_steps bytes from count)
inside_lines_steps bytes from zero lines enough = tt
inside_lines_steps bytes from (suc count) lines enough =
    inside_append lines (line_steps bytes from) (lines_steps bytes (from + 1) count)
    (inside_append lines (line_stores (1 + from) (data_line bytes from)) (Flush (1 + from) ∷ [])
    (inside_line_stores (1 + from) lines (data_line bytes from) (omega arith)) tt)
    (inside_lines_steps bytes (from + 1) count lines (omega arith))

stored_by_lines_steps : (bytes : List ℕ) (from count i j found : ℕ) → IsStoredBy (lines_steps bytes from count) i j found → (1 + from ≤ i) × (i ≤ from + count)
stored_by_lines_steps bytes from zero i j found none = absurd none
stored_by_lines_steps bytes from (suc count) i j found stored =
    elim (stored_by-append (line_steps bytes from) (lines_steps bytes (from + 1) count) i j found stored) [
      | inl first ↦ let is = stored_by_line_steps bytes from i j found first in (omega arith, omega arith)
      | inr later ↦ let within = stored_by_lines_steps bytes (from + 1) count i j found later in (omega arith, omega arith)
    ]

mark-lines_steps_other : (bytes : List ℕ) (from count i : ℕ) (mark : Mark) → ((k : ℕ) → from ≤ k → k < from + count → i ≢ 1 + k) → mark_after_all i (lines_steps bytes from count) mark ≡ mark
mark-lines_steps_other bytes from zero i mark apart = refl
mark-lines_steps_other bytes from (suc count) i mark apart =
    mark_after_all-append i (line_steps bytes from) (lines_steps bytes (from + 1) count) mark
    ∙ ap (mark_after_all i (lines_steps bytes (from + 1) count)) (mark-line_steps_other bytes from i mark (apart from (omega arith) (omega arith)))
    ∙ mark-lines_steps_other bytes (from + 1) count i mark (λ k low high. apart k (omega arith) (omega arith))

mark-lines_steps_same : (bytes : List ℕ) (from count k : ℕ) (mark : Mark) → from ≤ k → k < from + count → mark_after_all (1 + k) (lines_steps bytes from count) mark ≡ noted_line
mark-lines_steps_same bytes from zero k mark low high = absurd (omega arith)
mark-lines_steps_same bytes from (suc count) k mark low high =
    mark_after_all-append (1 + k) (line_steps bytes from) (lines_steps bytes (from + 1) count) mark
    ∙ elim (cases_eq k from) [
      | inl same ↦
          let At : ℕ → Type 0 = λ line. mark_after_all (1 + k) (line_steps bytes line) mark ≡ noted_line in
          ap (mark_after_all (1 + k) (lines_steps bytes (from + 1) count)) (subst At same (mark-line_steps_same bytes k mark))
          ∙ mark-lines_steps_other bytes (from + 1) count (1 + k) noted_line (λ line above below. omega arith)
      | inr differs ↦ mark-lines_steps_same bytes (from + 1) count k _ (omega arith) (omega arith)
    ]

-- ---- an entry: its data, and then its fields

-- the steps of an entry
abbrev pub entry_steps : List ℕ → (file at size count leader : ℕ) → List LineStep
entry_steps bytes file at size count leader = data_steps bytes ++ entry_field_steps file at size count leader

inside_fields : (lines file at size count leader : ℕ) → 0 < lines → AreInside lines (entry_field_steps file at size count leader)
unfolding entry_field_steps
inside_fields lines file at size count leader some = (some, (some, (some, (some, (some, tt)))))

overlaid-fields_other : (file at size count leader k j was : ℕ) → overlaid (entry_field_steps file at size count leader) (1 + k) j was ≡ was
unfolding entry_field_steps
overlaid-fields_other file at size count leader k j was = let differs : 1 + k ≢ 0 = omega arith in rw (ne_eqb (1 + k) 0 differs)

-- what the fields store is in words 1 to 5 of line 0
stored_by_fields : (file at size count leader i j found : ℕ) → IsStoredBy (entry_field_steps file at size count leader) i j found → (i ≡ 0) × (1 ≤ j) × (j ≤ 5)
unfolding entry_field_steps
stored_by_fields file at size count leader i j found (inl here) = (here.0, omega arith, omega arith)
stored_by_fields file at size count leader i j found (inr (inl here)) = (here.0, omega arith, omega arith)
stored_by_fields file at size count leader i j found (inr (inr (inl here))) = (here.0, omega arith, omega arith)
stored_by_fields file at size count leader i j found (inr (inr (inr (inl here)))) = (here.0, omega arith, omega arith)
stored_by_fields file at size count leader i j found (inr (inr (inr (inr (inl here))))) = (here.0, omega arith, omega arith)
stored_by_fields file at size count leader i j found (inr (inr (inr (inr (inr (inl none)))))) = absurd none
stored_by_fields file at size count leader i j found (inr (inr (inr (inr (inr (inr (inl none))))))) = absurd none
stored_by_fields file at size count leader i j found (inr (inr (inr (inr (inr (inr (inr none))))))) = absurd none

mark-fields_same : (file at size count leader : ℕ) (mark : Mark) → mark_after_all 0 (entry_field_steps file at size count leader) mark ≡ quiet_line
unfolding entry_field_steps
mark-fields_same file at size count leader mark = refl

mark-fields_other : (file at size count leader i : ℕ) (mark : Mark) → i ≢ 0 → mark_after_all i (entry_field_steps file at size count leader) mark ≡ fenced_more mark
unfolding entry_field_steps
mark-fields_other file at size count leader i mark differs = rw (ne_eqb i 0 differs)

module _ (bytes : List ℕ) (file at size count leader : ℕ) where
  inside_entry : (lines : ℕ) → 1 + lines_for (length bytes) ≤ lines → AreInside lines (entry_steps bytes file at size count leader)
  unfolding data_steps
  inside_entry lines enough =
      inside_append lines (data_steps bytes) (entry_field_steps file at size count leader)
      (inside_lines_steps bytes 0 (lines_for (length bytes)) lines (omega arith)) (inside_fields lines file at size count leader (omega arith))

  -- a word of line 0 after the steps
  head_word : (part : Part) (j : ℕ) → 1 + lines_for (length bytes) ≤ length part
      → part_word (after_steps (entry_steps bytes file at size count leader) part) 0 j ≡ overlaid (entry_field_steps file at size count leader) 0 j (part_word part 0 j)
  unfolding data_steps
  head_word part j enough =
      word_of-after_steps (entry_steps bytes file at size count leader) part 0 j (inside_entry (length part) enough)
      ∙ overlaid-append (data_steps bytes) (entry_field_steps file at size count leader) 0 j (part_word part 0 j)
      ∙ ap (overlaid (entry_field_steps file at size count leader) 0 j) (overlaid-lines_steps_other bytes 0 (lines_for (length bytes)) 0 j (part_word part 0 j) (omega arith))

  -- a word of a data line after them
  data_word : (part : Part) (k j : ℕ) → 1 + lines_for (length bytes) ≤ length part → k < lines_for (length bytes) → j < 8
      → part_word (after_steps (entry_steps bytes file at size count leader) part) (1 + k) j ≡ word_in (data_line bytes k) j
  unfolding data_steps
  data_word part k j enough inside small =
      word_of-after_steps (entry_steps bytes file at size count leader) part (1 + k) j (inside_entry (length part) enough)
      ∙ overlaid-append (data_steps bytes) (entry_field_steps file at size count leader) (1 + k) j (part_word part (1 + k) j)
      ∙ overlaid-fields_other file at size count leader k j _
      ∙ overlaid-lines_steps_same bytes 0 (lines_for (length bytes)) k j _ (omega arith) (omega arith) small

  -- What has the words of line 0 reads as the entry's fields, whatever the commit word.
  pub entry_fields : (part : Part) (image : PartImage) → 1 + lines_for (length bytes) ≤ length part
      → ((j : ℕ) → 1 ≤ j → image 0 j ≡ part_word (after_steps (entry_steps bytes file at size count leader) part) 0 j)
      → entry_of image ≡ record { commit = image 0 0; file = file; at = at; size = size; count = count; leader = leader }
  unfolding entry_field_steps
  entry_fields part image enough same =
      let word_is = λ (j : ℕ) (some : 1 ≤ j). same j some ∙ head_word part j enough in
      λ i. record {
        commit = image 0 0;
        file = word_is 1 (omega arith) i;
        at = word_is 2 (omega arith) i;
        size = word_is 3 (omega arith) i;
        count = word_is 4 (omega arith) i;
        leader = word_is 5 (omega arith) i;
      }

  -- What has the words of the data lines reads as the bytes.
  pub entry_data : (part : Part) (image : PartImage) → AreBytes bytes → 1 + lines_for (length bytes) ≤ length part
      → ((k j : ℕ) → k < lines_for (length bytes) → image (1 + k) j ≡ part_word (after_steps (entry_steps bytes file at size count leader) part) (1 + k) j)
      → data_of image (length bytes) ≡ bytes
  entry_data part image are enough same =
      lines_bytes-data image bytes (λ k inside.
      line_bytes-words (image (1 + k)) (data_line bytes k) (length-data_line bytes k) (bytes_in_data_line bytes k are)
      (λ j small. same k j inside ∙ data_word part k j enough inside small))

  -- What is stored is in the data lines, or in words 1 to 5 of line 0.
  pub stored_by_entry : (i j found : ℕ) → IsStoredBy (entry_steps bytes file at size count leader) i j found → ((1 ≤ i) × (i ≤ lines_for (length bytes))) ⊎ ((i ≡ 0) × (1 ≤ j) × (j ≤ 5))
  unfolding data_steps
  stored_by_entry i j found stored =
      elim (stored_by-append (data_steps bytes) (entry_field_steps file at size count leader) i j found stored) [
        | inl in_data ↦
            let within = stored_by_lines_steps bytes 0 (lines_for (length bytes)) i j found in_data in
            inl (omega arith, omega arith)
        | inr field ↦ inr (stored_by_fields file at size count leader i j found field)
      ]

  mark-entry_data : (k : ℕ) (mark : Mark) → k < lines_for (length bytes) → mark_after_all (1 + k) (entry_steps bytes file at size count leader) mark ≡ quiet_line
  unfolding data_steps
  mark-entry_data k mark inside =
      mark_after_all-append (1 + k) (data_steps bytes) (entry_field_steps file at size count leader) mark
      ∙ ap (mark_after_all (1 + k) (entry_field_steps file at size count leader)) (mark-lines_steps_same bytes 0 (lines_for (length bytes)) k mark (omega arith) (omega arith))
      ∙ mark-fields_other file at size count leader (1 + k) noted_line (omega arith)

  -- The lines that it takes are quiet after it.
  pub mark-entry : (line : ℕ) (mark : Mark) → line ≤ lines_for (length bytes) → mark_after_all line (entry_steps bytes file at size count leader) mark ≡ quiet_line
  mark-entry line mark within = elim (cases_eq line 0) [
    | inl first ↦
        let At : ℕ → Type 0 = λ i. mark_after_all i (entry_steps bytes file at size count leader) mark ≡ quiet_line in
        subst At (sym first)
        (mark_after_all-append 0 (data_steps bytes) (entry_field_steps file at size count leader) mark
        ∙ mark-fields_same file at size count leader _)
    | inr later ↦
        let At : ℕ → Type 0 = λ i. mark_after_all i (entry_steps bytes file at size count leader) mark ≡ quiet_line in
        let index : 1 + (line - 1) ≡ line = omega arith in
        subst At index (mark-entry_data (line - 1) mark (omega arith))
  ]

  -- And each line that was quiet still is.
  pub mark-entry_still : (line : ℕ) → mark_after_all line (entry_steps bytes file at size count leader) quiet_line ≡ quiet_line
  unfolding data_steps
  mark-entry_still line = elim (cases_lt (lines_for (length bytes)) line) [
    | inl beyond ↦
        mark_after_all-append line (data_steps bytes) (entry_field_steps file at size count leader) quiet_line
        ∙ ap (mark_after_all line (entry_field_steps file at size count leader))
        (mark-lines_steps_other bytes 0 (lines_for (length bytes)) line quiet_line (λ k low high. omega arith))
        ∙ mark-fields_other file at size count leader line quiet_line (omega arith)
    | inr within ↦ mark-entry line quiet_line within
  ]
