-- Formatting: what the images of a row may be along its steps, and after them.
use Rattle.std.proofs.Common.{◌≡◌, ◌≢◌, ℕ, ◌+◌, ◌-◌, ◌%◌, ◌<◌, ◌≤◌, ◌⊎◌, inl, inr, List, [], ◌++◌, length, map, take, drop, slice_index_or, zero, suc, refl, sym, ap, ◌∙◌, subst, arith, append_assoc}
use Rattle.std.proofs.lemmas.Bool.{cases_eq, cases_lt, ne_eqb}
use Rattle.std.proofs.lemmas.List.{take_all}
use Rattle.std.specs.List.{flat_map, range_with_len}
use Rattle.nv_plain.specs.Images.{Image, header_magic}
use Rattle.nv_plain.specs.Layouts.{layout_of}
use Rattle.nv_plain.specs.declared.limits.Version.{Version}
use Rattle.nv_plain.specs.Recovered.{IsBlank}
use Rattle.nv_pmem.specs.Images.{IsPartImage, IsQuietLine, IsQuietPart}
use Rattle.nv_pmem.specs.Limits.{IsPageSize, IsEntryCount}
use Rattle.nv_pmem.specs.Part.{Part, line_of, part_word}
use Rattle.nv_pmem.specs.Room.{Room}
use Rattle.nv_pmem.specs.Rows.{RowStep, on_part, row_after, DidRow, DidSomeRow, RowTells, IsRowImage, InEachRowImage, EachRowMoment}
use Rattle.nv_pmem.specs.Runs.{run}
use Rattle.nv_pmem.specs.Steps.{LineStep, PartHistory, durable_store}
use Rattle.nv_pmem.proofs.OneOfRow.{lent}
use Rattle.nv_pmem.proofs.ImageLaws.{IsStoredBy, quiet_image, quiet_after, quiet_still}
use Rattle.nv_pmem.proofs.DurableLaws.{line_settled, quiet_settled}
use Rattle.nv_pmem.proofs.LineLaws.{overlaid, AreInside, word_of-after_steps, length-after_steps}
use Rattle.nv_pmem.proofs.RowLaws.{steps_on, steps_on-append, steps_on-same, steps_on-other, on_part-append, row_at, row_tells_both, row_tells_more, row_tells_did, each_row_moment, row_image_comes_from, stored_by_row-take}
use Rattle.nv_pmem.proofs.StepLaws.{after_steps, after_steps-append, Always, always_by_fronts, always_append, always_last}
use Rattle.nv_header.specs.Changes.{AreChangedBy}
use Rattle.nv_header.specs.HeaderSteps.{clear_steps, field_steps, blank_header_steps, format_steps}
use Rattle.nv_header.specs.Heads.{first_names}
use Rattle.nv_header.specs.Regions.{part_lines, HasEmptyLog, IsBlankOrFormatted, IsBlankRow, IsAtRest}
use Rattle.nv_header.proofs.Clearing.{clear_one}
use Rattle.nv_header.proofs.InRow.{HaveLines}
use Rattle.nv_header.proofs.VersionLaws.{sizes}

-- ---- what a step stores

-- a durable store stores this value in this word, and nothing else
pub only_stores : (line word value i j found : ℕ) → IsStoredBy (durable_store line word value) i j found → (i ≡ line) × (j ≡ word) × (found ≡ value)
unfolding durable_store
only_stores line word value i j found (inl here) = here
only_stores line word value i j found (inr (inl none)) = absurd none
only_stores line word value i j found (inr (inr (inl none))) = absurd none
only_stores line word value i j found (inr (inr (inr none))) = absurd none

-- the fields leave the magic
fields_leave_magic : (version : Version) (page entries found : ℕ) → IsStoredBy (field_steps (layout_of version) page entries) 0 0 found → ⊥
unfolding field_steps
fields_leave_magic version page entries found (inl here) = absurd (omega (arith, here.1))
fields_leave_magic version page entries found (inr (inl here)) = absurd (omega (arith, here.1))
fields_leave_magic version page entries found (inr (inr (inl here))) = absurd (omega (arith, here.1))
fields_leave_magic version page entries found (inr (inr (inr (inl here)))) = absurd (omega (arith, here.1))
fields_leave_magic version page entries found (inr (inr (inr (inr (inl here))))) = absurd (omega (arith, here.0))
fields_leave_magic version page entries found (inr (inr (inr (inr (inr (inl none)))))) = absurd none
fields_leave_magic version page entries found (inr (inr (inr (inr (inr (inr (inl none))))))) = absurd none
fields_leave_magic version page entries found (inr (inr (inr (inr (inr (inr (inr (inl none)))))))) = absurd none
fields_leave_magic version page entries found (inr (inr (inr (inr (inr (inr (inr (inr none)))))))) = absurd none

-- ---- the steps on each part

-- the clearing of entries doesn't touch a part before theirs
clear_before : (i from count : ℕ) → i < from → steps_on i (flat_map clear_one (range_with_len from count)) ≡ []
clear_before i from zero below = refl
clear_before i from (suc count) below =
    steps_on-append i (clear_one from) (flat_map clear_one (range_with_len (from + 1) count))
    ∙ ap (λ front. front ++ steps_on i (flat_map clear_one (range_with_len (from + 1) count))) (steps_on-other i from (durable_store 0 0 0) (omega arith))
    ∙ clear_before i (from + 1) count (omega arith)

-- nor one behind them
clear_behind : (i from count : ℕ) → from + count ≤ i → steps_on i (flat_map clear_one (range_with_len from count)) ≡ []
clear_behind i from zero above = refl
clear_behind i from (suc count) above =
    steps_on-append i (clear_one from) (flat_map clear_one (range_with_len (from + 1) count))
    ∙ ap (λ front. front ++ steps_on i (flat_map clear_one (range_with_len (from + 1) count))) (steps_on-other i from (durable_store 0 0 0) (omega arith))
    ∙ clear_behind i (from + 1) count (omega arith)

-- and each of theirs has its own
clear_at : (i from count : ℕ) → from ≤ i → i < from + count → steps_on i (flat_map clear_one (range_with_len from count)) ≡ durable_store 0 0 0
unfolding durable_store
clear_at i from zero low high = absurd (omega arith)
clear_at i from (suc count) low high =
    steps_on-append i (clear_one from) (flat_map clear_one (range_with_len (from + 1) count))
    ∙ elim (cases_eq i from) [
      | inl same ↦
          let At : ℕ → Type 0 = λ j. steps_on i (clear_one j) ≡ durable_store 0 0 0 in
          ap (λ front. front ++ steps_on i (flat_map clear_one (range_with_len (from + 1) count))) (subst At same (steps_on-same i (durable_store 0 0 0)))
          ∙ ap (λ rest. durable_store 0 0 0 ++ rest) (clear_before i (from + 1) count (omega arith))
      | inr differs ↦
          ap (λ front. front ++ steps_on i (flat_map clear_one (range_with_len (from + 1) count))) (steps_on-other i from (durable_store 0 0 0) differs)
          ∙ clear_at i (from + 1) count (omega arith) (omega arith)
    ]

-- the steps before the magic is stored
abbrev filling : (version : Version) → (page entries : ℕ) → List RowStep
filling version page entries = clear_steps entries ++ on_part 0 (field_steps (layout_of version) page entries)

format_steps-cut : (version : Version) (page entries : ℕ) → format_steps (layout_of version) page entries ≡ filling version page entries ++ on_part 0 (durable_store 0 0 header_magic)
unfolding format_steps blank_header_steps
format_steps-cut version page entries =
    ap (λ header. clear_steps entries ++ header) (on_part-append 0 (field_steps (layout_of version) page entries) (durable_store 0 0 header_magic))
    ∙ sym (append_assoc (clear_steps entries) (on_part 0 (field_steps (layout_of version) page entries)) (on_part 0 (durable_store 0 0 header_magic)))

filling_header : (version : Version) (page entries : ℕ) → steps_on 0 (filling version page entries) ≡ field_steps (layout_of version) page entries
unfolding clear_steps
filling_header version page entries =
    steps_on-append 0 (clear_steps entries) (on_part 0 (field_steps (layout_of version) page entries))
    ∙ ap (λ front. front ++ steps_on 0 (on_part 0 (field_steps (layout_of version) page entries))) (clear_before 0 1 entries (omega arith))
    ∙ steps_on-same 0 (field_steps (layout_of version) page entries)

-- of a part that isn't the header, those that clear it
filling_other : (version : Version) (page entries i : ℕ) (steps : List LineStep) → i ≢ 0 → steps_on i (clear_steps entries) ≡ steps → steps_on i (filling version page entries) ≡ steps ++ []
filling_other version page entries i steps differs is =
    steps_on-append i (clear_steps entries) (on_part 0 (field_steps (layout_of version) page entries))
    ∙ ap (λ front. front ++ steps_on i (on_part 0 (field_steps (layout_of version) page entries))) is
    ∙ ap (λ rest. steps ++ rest) (steps_on-other i 0 (field_steps (layout_of version) page entries) differs)

filling_entry : (version : Version) (page entries k : ℕ) → k < entries → steps_on (1 + k) (filling version page entries) ≡ durable_store 0 0 0
unfolding clear_steps durable_store
filling_entry version page entries k inside =
    filling_other version page entries (1 + k) (durable_store 0 0 0) (omega arith) (clear_at (1 + k) 1 entries (omega arith) (omega arith))

filling_behind : (version : Version) (page entries i : ℕ) → 1 + entries ≤ i → steps_on i (filling version page entries) ≡ []
unfolding clear_steps
filling_behind version page entries i above =
    filling_other version page entries i [] (omega arith) (clear_behind i 1 entries (omega arith))

-- ---- before the magic is stored

-- the parts of the header and of each entry have their lines
abbrev pub HasRoom : (version : Version) → (page entries : ℕ) → List Part → Type 0
HasRoom version page entries = HaveLines (layout_of version) page entries

blank_while_filling : (version : Version) (page entries : ℕ) (parts : List Part) → IsBlankRow parts → (count : ℕ) → InEachRowImage IsBlank (run row_after (take count (filling version page entries)) parts)
blank_while_filling version page entries parts blank count image is =
    let from = row_image_comes_from (take count (filling version page entries)) parts image is in
    elim (from.words 0 0 0) [
      | inl kept ↦ kept ∙ blank.blank from.before from.is
      | inr stored ↦
          let At : List LineStep → Type 0 = λ steps. IsStoredBy steps 0 0 (image 0 0 0) in
          absurd (fields_leave_magic version page entries (image 0 0 0)
          (subst At (filling_header version page entries) (stored_by_row-take count (filling version page entries) 0 0 0 (image 0 0 0) stored)))
    ]

-- ---- when all but the magic is stored

-- the words that an image then has
record IsFilled (version : Version) (page entries : ℕ) (image : Image) : Type 0 where
  blank : image 0 0 0 ≡ 0
  version_is : image 0 0 1 ≡ (layout_of version).version
  page_is : image 0 0 2 ≡ page
  entries_is : image 0 0 3 ≡ entries
  files : image 0 0 4 ≡ 0
  tail : image 0 1 0 ≡ 0
  cleared : (k : ℕ) → k < entries → image (1 + k) 0 0 ≡ 0

fields_inside : (version : Version) (page entries lines : ℕ) → 2 ≤ lines → AreInside lines (field_steps (layout_of version) page entries)
unfolding field_steps
fields_inside version page entries lines enough = (omega arith, (omega arith, (omega arith, (omega arith, (omega arith, tt)))))

fields_settle_0 : (version : Version) (page entries : ℕ) (part : Part) → IsQuietLine (line_of (after_steps (field_steps (layout_of version) page entries) part) 0)
unfolding field_steps
fields_settle_0 version page entries part = quiet_after 0 (field_steps (layout_of version) page entries) part refl

fields_settle_1 : (version : Version) (page entries : ℕ) (part : Part) → IsQuietLine (line_of (after_steps (field_steps (layout_of version) page entries) part) 1)
unfolding field_steps
fields_settle_1 version page entries part = quiet_after 1 (field_steps (layout_of version) page entries) part refl

fields_overlay : (version : Version) (page entries was : ℕ) → (overlaid (field_steps (layout_of version) page entries) 0 1 was ≡ (layout_of version).version) × (overlaid (field_steps (layout_of version) page entries) 0 2 was ≡ page) × (overlaid (field_steps (layout_of version) page entries) 0 3 was ≡ entries)
    × (overlaid (field_steps (layout_of version) page entries) 0 4 was ≡ 0) × (overlaid (field_steps (layout_of version) page entries) 1 0 was ≡ 0)
unfolding field_steps
fields_overlay version page entries was = (refl, refl, refl, refl, refl)

-- a word of the header's part, once its line is quiet
field_is : (version : Version) (page entries line word : ℕ) (part : Part) (image : Image) (at : Part) → at ≡ after_steps (field_steps (layout_of version) page entries) part → 2 ≤ length part → IsQuietLine (line_of (after_steps (field_steps (layout_of version) page entries) part) line) → IsPartImage at (image 0)
    → image 0 line word ≡ overlaid (field_steps (layout_of version) page entries) line word (part_word part line word)
field_is version page entries line word part image at at_is enough quiet is =
    let At : Part → Type 0 = λ these. IsPartImage these (image 0) in
    quiet_image (after_steps (field_steps (layout_of version) page entries) part) (image 0) line word quiet (subst At at_is is)
    ∙ word_of-after_steps (field_steps (layout_of version) page entries) part line word (fields_inside version page entries (length part) enough)

cleared_overlay : (was : ℕ) → overlaid (durable_store 0 0 0) 0 0 was ≡ 0
unfolding durable_store
cleared_overlay was = refl

clear_inside : (lines : ℕ) → 0 < lines → AreInside lines (durable_store 0 0 0)
unfolding durable_store
clear_inside lines some = (some, tt)

cleared_is : (part : Part) (words : ℕ → ℕ → ℕ) (at : Part) → at ≡ after_steps (durable_store 0 0 0) part → 0 < length part → IsPartImage at words → words 0 0 ≡ 0
cleared_is part words at at_is some is =
    let At : Part → Type 0 = λ these. IsPartImage these words in
    quiet_image (after_steps (durable_store 0 0 0) part) words 0 0 (line_settled 0 0 0 part) (subst At at_is is)
    ∙ word_of-after_steps (durable_store 0 0 0) part 0 0 (clear_inside (length part) some)
    ∙ cleared_overlay (part_word part 0 0)

-- any part has a line
some_lines : (version : Version) (page i lines : ℕ) → part_lines (layout_of version) page i ≤ lines → 0 < lines
some_lines version page zero lines enough = omega (arith, (sizes version).first, (sizes version).names)
some_lines version page (suc i) lines enough = omega arith

filled : (version : Version) (page entries : ℕ) (parts : List Part) → IsBlankRow parts → HasRoom version page entries parts → InEachRowImage (IsFilled version page entries) (run row_after (filling version page entries) parts)
filled version page entries parts blank room image is =
    let steps = filling version page entries in
    let part = slice_index_or parts 0 [] in
    let all : take (length steps) steps ≡ steps = take_all (length steps) steps (omega arith) in
    let Along : List RowStep → Type 0 = λ these. InEachRowImage IsBlank (run row_after these parts) in
    let At : List LineStep → Type 0 = λ these. slice_index_or (run row_after steps parts) 0 [] ≡ after_steps these part in
    let header_is = subst At (filling_header version page entries) (row_at 0 steps parts) in
    let enough : 2 ≤ length part = omega (arith, room.has 0 (omega arith), (sizes version).first, (sizes version).names) in
    let on_0 = λ (word : ℕ). field_is version page entries 0 word part image _ header_is enough (fields_settle_0 version page entries part) (is.each 0) in
    record {
      blank = subst Along all (blank_while_filling version page entries parts blank (length steps)) image is;
      version_is = on_0 1 ∙ (fields_overlay version page entries (part_word part 0 1)).0;
      page_is = on_0 2 ∙ (fields_overlay version page entries (part_word part 0 2)).1;
      entries_is = on_0 3 ∙ (fields_overlay version page entries (part_word part 0 3)).2;
      files = on_0 4 ∙ (fields_overlay version page entries (part_word part 0 4)).3;
      tail = field_is version page entries 1 0 part image _ header_is enough (fields_settle_1 version page entries part) (is.each 0) ∙ (fields_overlay version page entries (part_word part 1 0)).4;
      cleared = λ k inside.
          let entry = slice_index_or parts (1 + k) [] in
          let Entry_at : List LineStep → Type 0 = λ these. slice_index_or (run row_after steps parts) (1 + k) [] ≡ after_steps these entry in
          let has : part_lines (layout_of version) page (1 + k) ≤ length entry = room.has (1 + k) (omega arith) in
          cleared_is entry (image (1 + k)) _ (subst Entry_at (filling_entry version page entries k inside) (row_at (1 + k) steps parts)) (some_lines version page (1 + k) (length entry) has) (is.each (1 + k));
    }

-- ---- and when the magic is

-- what such an image reads as with the magic
formatted : (version : Version) (page entries : ℕ) (image : Image) → IsPageSize page → IsEntryCount entries → image 0 0 0 ≡ header_magic → image 0 0 1 ≡ (layout_of version).version → image 0 0 2 ≡ page → image 0 0 3 ≡ entries → image 0 0 4 ≡ 0 → image 0 1 0 ≡ 0 → ((k : ℕ) → k < entries → image (1 + k) 0 0 ≡ 0)
    → HasEmptyLog (layout_of version) page entries [] 0 image
unfolding first_names
formatted version page entries image page_ok entries_ok magic number page_is entries_is files tail cleared =
    let Page : ℕ → Type 0 = IsPageSize in
    let Entries : ℕ → Type 0 = IsEntryCount in
    record {
      header = record {
        readable = record {
          long_enough = omega arith;
          fields = record {
            magic = magic;
            version_is = number;
            page = subst Page (sym page_is) page_ok;
            entries = subst Entries (sym entries_is) entries_ok;
            files = omega arith;
            tail = omega arith;
          };
          names = λ i below. absurd (omega (arith, files));
        };
        page_is = page_is;
        entries_is = entries_is;
        names_are = ap (first_names (layout_of version) image) files;
        tail_is = tail;
      };
      log = record {
        uncommitted = λ number from commit.
            absurd (omega (arith, cleared (number % entries) (omega (arith, entries_ok.least)), commit));
      };
    }

-- from an image of before, in which at most the magic is another
with_magic : (version : Version) (page entries : ℕ) (image before : Image) → IsPageSize page → IsEntryCount entries → IsFilled version page entries before → (image 0 0 0 ≡ before 0 0 0) ⊎ (image 0 0 0 ≡ header_magic)
    → ((i line word : ℕ) → (i ≢ 0) ⊎ ((line ≢ 0) ⊎ (word ≢ 0)) → image i line word ≡ before i line word) → IsBlankOrFormatted (layout_of version) page entries image
with_magic version page entries image before page_ok entries_ok was (inl kept) others = inl (kept ∙ was.blank)
with_magic version page entries image before page_ok entries_ok was (inr stored) others =
    inr
    (formatted version page entries image page_ok entries_ok stored
    (others 0 0 1 (inr (inr (omega arith))) ∙ was.version_is)
    (others 0 0 2 (inr (inr (omega arith))) ∙ was.page_is)
    (others 0 0 3 (inr (inr (omega arith))) ∙ was.entries_is)
    (others 0 0 4 (inr (inr (omega arith))) ∙ was.files)
    (others 0 1 0 (inr (inl (omega arith))) ∙ was.tail)
    (λ k inside. others (1 + k) 0 0 (inl (omega arith)) ∙ was.cleared k inside))

-- the steps that store the magic touch no other word
magic_leaves : (i line word found : ℕ) → IsStoredBy (steps_on i (on_part 0 (durable_store 0 0 header_magic))) line word found → (i ≡ 0) × (line ≡ 0) × (word ≡ 0) × (found ≡ header_magic)
magic_leaves i line word found stored = elim (cases_eq i 0) [
  | inl same ↦
      let steps = durable_store 0 0 header_magic in
      let At : ℕ → Type 0 = λ j. steps_on i (on_part j steps) ≡ steps in
      let By : List LineStep → Type 0 = λ these. IsStoredBy these line word found in
      let here = only_stores 0 0 header_magic line word found (subst By (subst At same (steps_on-same i steps)) stored) in
      (same, here.0, here.1, here.2)
  | inr differs ↦
      let By : List LineStep → Type 0 = λ these. IsStoredBy these line word found in
      absurd (subst By (steps_on-other i 0 (durable_store 0 0 header_magic) differs) stored)
]

while_magic : (version : Version) (page entries : ℕ) (parts : List Part) → IsPageSize page → IsEntryCount entries → InEachRowImage (IsFilled version page entries) parts → (count : ℕ)
    → InEachRowImage (IsBlankOrFormatted (layout_of version) page entries) (run row_after (take count (on_part 0 (durable_store 0 0 header_magic))) parts)
while_magic version page entries parts page_ok entries_ok was count image is =
    let steps = on_part 0 (durable_store 0 0 header_magic) in
    let from = row_image_comes_from (take count steps) parts image is in
    with_magic version page entries image from.before page_ok entries_ok (was from.before from.is)
    (elim (from.words 0 0 0) [
      | inl kept ↦ inl kept
      | inr stored ↦ inr (magic_leaves 0 0 0 (image 0 0 0) (stored_by_row-take count steps 0 0 0 (image 0 0 0) stored)).3
    ])
    (λ i line word apart. elim (from.words i line word) [
      | inl kept ↦ kept
      | inr stored ↦
          let here = magic_leaves i line word (image i line word) (stored_by_row-take count steps i line word (image i line word) stored) in
          elim apart [
            | inl differs ↦ absurd (differs here.0)
            | inr rest ↦ elim rest [ inl differs ↦ absurd (differs here.1) | inr differs ↦ absurd (differs here.2) ]
          ]
    ])

-- Each image is blank or formatted, before each step and after the last.
format_always : (version : Version) (page entries : ℕ) (parts : List Part) → IsPageSize page → IsEntryCount entries → IsBlankRow parts → HasRoom version page entries parts
    → Always row_after (InEachRowImage (IsBlankOrFormatted (layout_of version) page entries)) (format_steps (layout_of version) page entries) parts
format_always version page entries parts page_ok entries_ok blank room =
    let P : List Part → Type 0 = InEachRowImage (IsBlankOrFormatted (layout_of version) page entries) in
    let first = filling version page entries in
    let last = on_part 0 (durable_store 0 0 header_magic) in
    let At : List RowStep → Type 0 = λ steps. Always row_after P steps parts in
    subst At (sym (format_steps-cut version page entries))
    (always_append row_after P first last parts
    (always_by_fronts row_after P first parts (λ count few image is. inl (blank_while_filling version page entries parts blank count image is)))
    (always_by_fronts row_after P last (run row_after first parts) (λ count few.
    while_magic version page entries (run row_after first parts) page_ok entries_ok (filled version page entries parts blank room) count)))

pub format_moments : (version : Version) (page entries : ℕ) {old new : List PartHistory} → IsPageSize page → IsEntryCount entries → RowTells old IsBlankRow → RowTells old (HasRoom version page entries) → DidSomeRow (format_steps (layout_of version) page entries) old new
    → EachRowMoment (InEachRowImage (IsBlankOrFormatted (layout_of version) page entries)) old new
format_moments version page entries {old} page_ok entries_ok blank room did =
    let P : List Part → Type 0 = InEachRowImage (IsBlankOrFormatted (layout_of version) page entries) in
    each_row_moment P
    (row_tells_more old (λ parts. IsBlankRow parts × HasRoom version page entries parts) (Always row_after P (format_steps (layout_of version) page entries))
    (λ parts both. format_always version page entries parts page_ok entries_ok both.0 both.1)
    (row_tells_both old IsBlankRow (HasRoom version page entries) blank room))
    did

-- ---- after all steps

quiet_fields : (version : Version) (page entries : ℕ) (part : Part) → IsQuietPart part → IsQuietPart (after_steps (field_steps (layout_of version) page entries) part)
unfolding field_steps
quiet_fields version page entries part quiet = record {
  lines = λ i. elim (cases_eq i 0) [
    | inl first ↦ quiet_after i (field_steps (layout_of version) page entries) part (rw first refl)
    | inr other ↦ elim (cases_eq i 1) [
      | inl second ↦ quiet_after i (field_steps (layout_of version) page entries) part (rw second refl)
      | inr beyond ↦ quiet_still i (field_steps (layout_of version) page entries) part (rw (ne_eqb i 0 other, ne_eqb i 1 beyond)) (quiet.lines i)
    ]
  ];
}

-- part i of the row after all steps is the part after those of filling, and of the magic
part_after : (version : Version) (page entries i : ℕ) (parts : List Part) → slice_index_or (run row_after (format_steps (layout_of version) page entries) parts) i []
    ≡ after_steps (steps_on i (on_part 0 (durable_store 0 0 header_magic))) (after_steps (steps_on i (filling version page entries)) (slice_index_or parts i []))
part_after version page entries i parts =
    let last = on_part 0 (durable_store 0 0 header_magic) in
    let part = slice_index_or parts i [] in
    row_at i (format_steps (layout_of version) page entries) parts
    ∙ ap (λ steps. after_steps (steps_on i steps) part) (format_steps-cut version page entries)
    ∙ ap (λ steps. after_steps steps part) (steps_on-append i (filling version page entries) last)
    ∙ after_steps-append (steps_on i (filling version page entries)) (steps_on i last) part

quiet_filled : (version : Version) (page entries i : ℕ) (part : Part) → IsQuietPart part → IsQuietPart (after_steps (steps_on i (filling version page entries)) part)
unfolding run
quiet_filled version page entries i part quiet =
    let At : List LineStep → Type 0 = λ steps. IsQuietPart (after_steps steps part) in
    elim (cases_eq i 0) [
      | inl first ↦
          let Here : ℕ → Type 0 = λ j. steps_on j (filling version page entries) ≡ field_steps (layout_of version) page entries in
          subst At (sym (subst Here (sym first) (filling_header version page entries))) (quiet_fields version page entries part quiet)
      | inr other ↦ elim (cases_lt i (1 + entries)) [
        | inl inside ↦
            let index : 1 + (i - 1) ≡ i = omega arith in
            let Here : ℕ → Type 0 = λ j. steps_on j (filling version page entries) ≡ durable_store 0 0 0 in
            subst At (sym (subst Here index (filling_entry version page entries (i - 1) (omega arith)))) (quiet_settled 0 0 0 part quiet)
        | inr above ↦ subst At (sym (filling_behind version page entries i above)) quiet
      ]
    ]

quiet_magic : (i : ℕ) (part : Part) → IsQuietPart part → IsQuietPart (after_steps (steps_on i (on_part 0 (durable_store 0 0 header_magic))) part)
unfolding run
quiet_magic i part quiet =
    let steps = durable_store 0 0 header_magic in
    let At : List LineStep → Type 0 = λ these. IsQuietPart (after_steps these part) in
    elim (cases_eq i 0) [
      | inl first ↦
          let Here : ℕ → Type 0 = λ j. steps_on i (on_part j steps) ≡ steps in
          subst At (sym (subst Here first (steps_on-same i steps))) (quiet_settled 0 0 header_magic part quiet)
      | inr other ↦ subst At (sym (steps_on-other i 0 steps other)) quiet
    ]

magic_overlay : (was : ℕ) → overlaid (durable_store 0 0 header_magic) 0 0 was ≡ header_magic
unfolding durable_store
magic_overlay was = refl

magic_inside : (lines : ℕ) → 0 < lines → AreInside lines (durable_store 0 0 header_magic)
unfolding durable_store
magic_inside lines some = (some, tt)

-- the magic is in each image
magic_is : (version : Version) (page entries : ℕ) (parts : List Part) (image : Image) → HasRoom version page entries parts → IsRowImage (run row_after (format_steps (layout_of version) page entries) parts) image → image 0 0 0 ≡ header_magic
magic_is version page entries parts image room is =
    let magic = durable_store 0 0 header_magic in
    let before = after_steps (steps_on 0 (filling version page entries)) (slice_index_or parts 0 []) in
    let long : 0 < length before = omega (arith, (sizes version).first, (sizes version).names, room.has 0 (omega arith), length-after_steps (steps_on 0 (filling version page entries)) (slice_index_or parts 0 [])) in
    let At : List LineStep → Type 0 = λ steps. slice_index_or (run row_after (format_steps (layout_of version) page entries) parts) 0 [] ≡ after_steps steps before in
    let At_part : Part → Type 0 = λ part. IsPartImage part (image 0) in
    let at = subst At_part (subst At (steps_on-same 0 magic) (part_after version page entries 0 parts)) (is.each 0) in
    quiet_image (after_steps magic before) (image 0) 0 0 (line_settled 0 0 header_magic before) at
    ∙ word_of-after_steps magic before 0 0 (magic_inside (length before) long)
    ∙ magic_overlay (part_word before 0 0)

-- not blank
is_formatted : (version : Version) (page entries : ℕ) (image : Image) → image 0 0 0 ≡ header_magic → IsBlankOrFormatted (layout_of version) page entries image → HasEmptyLog (layout_of version) page entries [] 0 image
is_formatted version page entries image magic (inl blank) = absurd (omega (arith, magic, blank))
is_formatted version page entries image magic (inr whole) = whole

at_rest : (version : Version) (page entries : ℕ) (parts : List Part) → IsPageSize page → IsEntryCount entries → IsBlankRow parts → HasRoom version page entries parts → IsAtRest (layout_of version) page entries [] 0 (run row_after (format_steps (layout_of version) page entries) parts)
at_rest version page entries parts page_ok entries_ok blank room =
    let P : List Part → Type 0 = InEachRowImage (IsBlankOrFormatted (layout_of version) page entries) in
    record {
      quiet = record {
        each = λ i.
            subst IsQuietPart (sym (part_after version page entries i parts))
            (quiet_magic i (after_steps (steps_on i (filling version page entries)) (slice_index_or parts i [])) (quiet_filled version page entries i (slice_index_or parts i []) (blank.quiet.each i)));
      };
      empty = λ image is.
          is_formatted version page entries image (magic_is version page entries parts image room is)
          (always_last row_after P (format_steps (layout_of version) page entries) parts (format_always version page entries parts page_ok entries_ok blank room) image is);
    }

-- After all steps the region is formatted.
pub format_tells : (version : Version) (page entries : ℕ) {old new : List PartHistory} → IsPageSize page → IsEntryCount entries → RowTells old IsBlankRow → RowTells old (HasRoom version page entries) → DidRow (format_steps (layout_of version) page entries) old new → RowTells new (IsAtRest (layout_of version) page entries [] 0)
format_tells version page entries {old} page_ok entries_ok blank room did =
    row_tells_did (λ parts. IsBlankRow parts × HasRoom version page entries parts) (IsAtRest (layout_of version) page entries [] 0)
    (row_tells_both old IsBlankRow (HasRoom version page entries) blank room)
    (λ parts both. at_rest version page entries parts page_ok entries_ok both.0 both.1)
    did

-- What formatting did, whichever answer came, to a vector of parts that was lent as a slice.
pub format_changed : {X : Type 0} (version : Version) (history : X → PartHistory) (room : X → Room) (device : X → ℕ) (page entries : ℕ) (parts now new : List X) (len : ℕ) → now ≡ parts → length parts ≡ len → length new ≡ length now → IsPageSize page → IsEntryCount entries → RowTells (map history parts) IsBlankRow → RowTells (map history parts) (HasRoom version page entries)
    → DidSomeRow (format_steps (layout_of version) page entries) (map history now) (map history new) → map (λ part. (room part).lines) new ≡ map (λ part. (room part).lines) now → map device new ≡ map device now
    → AreChangedBy history room device (format_steps (layout_of version) page entries) (IsBlankOrFormatted (layout_of version) page entries) parts (take len (new ++ drop (length new) parts))
format_changed version history room device page entries parts now new len same long still page_ok entries_ok blank has did lines devices =
    let begun = lent parts now new len same long still (λ old new. DidSomeRow (format_steps (layout_of version) page entries) (map history old) (map history new)) did in
    record {
      begun = begun;
      moments = format_moments version page entries page_ok entries_ok blank has begun;
      lines = lent parts now new len same long still (λ old new. map (λ part. (room part).lines) new ≡ map (λ part. (room part).lines) old) lines;
      devices = lent parts now new len same long still (λ old new. map device new ≡ map device old) devices;
    }
