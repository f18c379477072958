-- A name added: what the images of a row may be along its steps, and after them.
use Rattle.std.proofs.Common.{◌≡◌, ℕ, ◌+◌, ◌*◌, ◌/◌, ◌%◌, ◌<◌, ◌≤◌, ◌⊎◌, inl, inr, List, [], ◌∷◌, ◌++◌, length, map, take, drop, slice_index_or, refl, sym, ap, ◌∙◌, subst, arith, zero-add}
use Rattle.std.proofs.lemmas.Bool.{cases_eq, cases_lt}
use Rattle.std.proofs.lemmas.List.{take_all}
use Rattle.std.proofs.lemmas.List.FromFn.{map-range_with_len_more, get_or-map-range_with_len, length-map-range_with_len}
use Rattle.nv_plain.specs.Images.{Image, Header, header_of, name_of}
use Rattle.nv_plain.specs.Layouts.{layout_of}
use Rattle.nv_plain.specs.declared.limits.Version.{Version}
use Rattle.nv_pmem.specs.Images.{IsPartImage, IsQuietLine, IsQuietPart}
use Rattle.nv_pmem.specs.Limits.{IsPageSize, IsEntryCount}
use Rattle.nv_pmem.specs.Part.{Part, line_of, part_word}
use Rattle.nv_pmem.specs.Room.{Room}
use Rattle.nv_pmem.specs.Rows.{RowStep, on_part, row_after, DidRow, DidSomeRow, RowTells, IsRowImage, InEachRowImage, EachRowMoment}
use Rattle.nv_pmem.specs.Runs.{run}
use Rattle.nv_pmem.specs.Steps.{LineStep, Fence, PartHistory, word_in, durable_store}
use Rattle.nv_pmem.proofs.OneOfRow.{lent}
use Rattle.nv_pmem.proofs.ImageLaws.{IsStoredBy, Mark, open_line, quiet_line, fenced_more, mark_after_all, mark_after_all-append, quiet_image, quiet_after, quiet_still}
use Rattle.nv_pmem.proofs.DurableLaws.{line_settled, quiet_settled}
use Rattle.nv_pmem.proofs.LineLaws.{overlaid, overlaid-append, AreInside, inside_append, word_of-after_steps, length-after_steps}
use Rattle.nv_pmem.proofs.RowLaws.{steps_on, steps_on-same, steps_on-other, on_part-append, row_at, row_tells_both, row_tells_more, row_tells_did, each_row_moment, row_image_comes_from, stored_by-append, stored_by_row-take}
use Rattle.nv_pmem.proofs.StepLaws.{after_steps, after_steps-append, Always, always_by_fronts, always_append, always_last, did_some_none}
use Rattle.nv_header.specs.Additions.{CanAdd, HasNamesOrOneMore}
use Rattle.nv_header.specs.Changes.{AreChangedBy}
use Rattle.nv_header.specs.HeaderSteps.{name_record, record_part, record_lines_steps, record_steps, add_file_steps}
use Rattle.nv_header.specs.Heads.{HasFields, IsGoodName, first_names, record_line}
use Rattle.nv_header.specs.Regions.{HasNoneFrom, HasEmptyLog, IsAtRest}
use Rattle.nv_header.proofs.FormatLaws.{HasRoom, only_stores}
use Rattle.nv_header.proofs.RecordSteps.{lines_only, lines_overlay, lines_inside, lines_marks, lines_marks-other, record_lines-are}
use Rattle.nv_header.proofs.RecordWords.{AreBytes, SameRecord, HasRecord, same_name, same_names, good_still, name_fits, name_is, record_holds, word_of_line}
use Rattle.nv_header.proofs.VersionLaws.{sizes, record_line-before, record_line-inside, record_line-behind}

-- ---- an image in which no word is another but those of a record that isn't a name's yet

-- what an image keeps of one before it
pub record Keeps_log (version : Version) (entries count : ℕ) (image before : Image) : Type 0 where
  pub magic : image 0 0 0 ≡ before 0 0 0
  pub version_is : image 0 0 1 ≡ before 0 0 1
  pub page : image 0 0 2 ≡ before 0 0 2
  pub count_of_entries : image 0 0 3 ≡ before 0 0 3
  pub tail : image 0 1 0 ≡ before 0 1 0
  pub records : (j : ℕ) → j < count → SameRecord version image before j
  pub commits : (k : ℕ) → image (1 + k) 0 0 ≡ before (1 + k) 0 0

log_still : (version : Version) (entries next count : ℕ) (image before : Image) → Keeps_log version entries count image before → HasNoneFrom entries next before → HasNoneFrom entries next image
log_still version entries next count image before keeps log = record {
  uncommitted = λ number from commit. log.uncommitted number from (sym (keeps.commits (number % entries)) ∙ commit);
}

-- the names are those before, or the first so many
pub still : (version : Version) (page entries next : ℕ) (names : List (List ℕ)) (image before : Image) → Keeps_log version entries (length names) image before → image 0 0 4 ≡ before 0 0 4 → before 0 0 4 ≡ length names → HasEmptyLog (layout_of version) page entries names next before → HasEmptyLog (layout_of version) page entries names next image
still version page entries next names image before keeps files_is count log =
    let header_is : header_of image ≡ header_of before = λ i. record {
      magic = keeps.magic i;
      version = keeps.version_is i;
      page = keeps.page i;
      entries = keeps.count_of_entries i;
      files = files_is i;
      tail = keeps.tail i;
    } in
    let Fields : Header → Type 0 = HasFields (layout_of version) in
    let was = log.header in
    record {
      header = record {
        readable = record {
          long_enough = was.readable.long_enough;
          fields = subst Fields (sym header_is) was.readable.fields;
          names = λ j below.
              good_still version image before j (length names) (omega (arith, files_is, count)) keeps.records (was.readable.names j (omega (arith, files_is)));
        };
        page_is = keeps.page ∙ was.page_is;
        entries_is = keeps.count_of_entries ∙ was.entries_is;
        names_are =
            ap (first_names (layout_of version) image) (files_is ∙ count)
            ∙ same_names version image before (length names) keeps.records
            ∙ ap (first_names (layout_of version) before) (sym count)
            ∙ was.names_are;
        tail_is = keeps.tail ∙ was.tail_is;
      };
      log = log_still version entries next (length names) image before keeps log.log;
    }

-- ---- and one in which the record is a name's

pub count_is : (version : Version) (page entries next : ℕ) (names : List (List ℕ)) (image : Image) → HasEmptyLog (layout_of version) page entries names next image → image 0 0 4 ≡ length names
unfolding first_names
count_is version page entries next names image log =
    sym (length-map-range_with_len (name_of (layout_of version) image) 0 (image 0 0 4)) ∙ ap length log.header.names_are

pub name_at : (version : Version) (page entries next : ℕ) (names : List (List ℕ)) (image : Image) (j : ℕ) → HasEmptyLog (layout_of version) page entries names next image → j < length names → slice_index_or names j [] ≡ name_of (layout_of version) image j
unfolding first_names
name_at version page entries next names image j log below =
    ap (λ these. slice_index_or these j []) (sym log.header.names_are)
    ∙ get_or-map-range_with_len (name_of (layout_of version) image) 0 (image 0 0 4) j j [] (omega (arith, count_is version page entries next names image log)) (zero-add j)

one_more_names : (version : Version) (image before : Image) (names : List (List ℕ)) (name : List ℕ) → ((j : ℕ) → j < length names → SameRecord version image before j) → name_of (layout_of version) image (length names) ≡ name → first_names (layout_of version) before (length names) ≡ names → first_names (layout_of version) image (length names + 1) ≡ names ++ name ∷ []
unfolding first_names
one_more_names version image before names name same is before_is =
    map-range_with_len_more (name_of (layout_of version) image) 0 (length names) (length names) (zero-add (length names))
    ∙ ap (λ front. front ++ name_of (layout_of version) image (length names) ∷ []) (same_names version image before (length names) same ∙ before_is)
    ∙ ap (λ last. names ++ last ∷ []) is

one_more : (version : Version) (page entries next : ℕ) (names : List (List ℕ)) (name : List ℕ) (image before : Image) → CanAdd (layout_of version) names name → AreBytes name → Keeps_log version entries (length names) image before → image 0 0 4 ≡ length names + 1 → HasRecord version image (length names) name
    → HasEmptyLog (layout_of version) page entries names next before → HasEmptyLog (layout_of version) page entries (names ++ name ∷ []) next image
one_more version page entries next names name image before can are keeps files_is has log =
    let i = length names in
    let was = log.header in
    let fields = was.readable.fields in
    let fits = name_fits (layout_of version).name_limit name can.is_new.allowed in
    let count = count_is version page entries next names before log in
    let is = name_is version image i name fits are has in
    let Page : ℕ → Type 0 = IsPageSize in
    let Entries : ℕ → Type 0 = IsEntryCount in
    let Good : ℕ → Type 0 = IsGoodName (layout_of version) image in
    record {
      header = record {
        readable = record {
          long_enough = was.readable.long_enough;
          fields = record {
            magic = keeps.magic ∙ fields.magic;
            version_is = keeps.version_is ∙ fields.version_is;
            page = subst Page (sym keeps.page) fields.page;
            entries = subst Entries (sym keeps.count_of_entries) fields.entries;
            files = omega (arith, can.few);
            tail = omega (arith, keeps.tail, fields.tail);
          };
          names = λ j below. elim (cases_lt j i) [
            | inl earlier ↦ good_still version image before j i earlier keeps.records (was.readable.names j (omega (arith, count)))
            | inr last ↦
                let here : i ≡ j = omega (arith, files_is) in
                subst Good here (record {
                  whole = record_holds version image i name can.is_new.allowed are has;
                  new = λ k before_it equal.
                      can.is_new.new k before_it
                      (name_at version page entries next names before k log before_it ∙ sym (same_name version image before k (keeps.records k before_it)) ∙ equal ∙ is);
                })
          ];
        };
        page_is = keeps.page ∙ was.page_is;
        entries_is = keeps.count_of_entries ∙ was.entries_is;
        names_are =
            ap (first_names (layout_of version) image) files_is
            ∙ one_more_names version image before names name keeps.records is (ap (first_names (layout_of version) before) (sym count) ∙ was.names_are);
        tail_is = keeps.tail ∙ was.tail_is;
      };
      log = log_still version entries next i image before keeps log.log;
    }

-- ---- the steps

-- the steps on part 0 store in part 0
pub stored_in_header : (i line word found : ℕ) (steps : List LineStep) → IsStoredBy (steps_on i (on_part 0 steps)) line word found → (i ≡ 0) × IsStoredBy steps line word found
stored_in_header i line word found steps stored =
    let By : List LineStep → Type 0 = λ these. IsStoredBy these line word found in
    elim (cases_eq i 0) [
      | inl same ↦
          let At : ℕ → Type 0 = λ j. steps_on i (on_part j steps) ≡ steps in
          (same, subst By (subst At same (steps_on-same i steps)) stored)
      | inr differs ↦ absurd (subst By (steps_on-other i 0 steps differs) stored)
    ]

-- those of a record store in its lines
record_only : (version : Version) (i line word found : ℕ) (name : List ℕ) → IsStoredBy (record_steps (layout_of version) i name) line word found
    → (record_line (layout_of version) i ≤ line) × (line < record_line (layout_of version) i + (layout_of version).lines_per_name)
unfolding record_steps
record_only version i line word found name stored =
    let layout = layout_of version in
    elim (stored_by-append (record_lines_steps layout i name) (Fence ∷ []) line word found stored) [
      | inl here ↦
          let By : List LineStep → Type 0 = λ steps. IsStoredBy steps line word found in
          let is = lines_only (record_line layout i) (record_part layout name) 0 layout.lines_per_name line word found (subst By (record_lines-are layout i name) here) in
          (omega (arith, is.0), omega (arith, is.1))
      | inr rest ↦ elim rest [ inl none ↦ absurd none | inr none ↦ absurd none ]
    ]

pub kept_unless : {A : Type 0} (a b : ℕ) → (a ≡ b) ⊎ A → ¬ A → a ≡ b
kept_unless a b (inl kept) never = kept
kept_unless a b (inr one) never = absurd (never one)

-- what a change of lines from a record's on, or of the count, keeps
pub keeps_but_lines : (version : Version) (entries count first : ℕ) (image before : Image) → record_line (layout_of version) count ≤ first → ((i line word : ℕ) → (image i line word ≡ before i line word) ⊎ ((i ≡ 0) × (first ≤ line))) → Keeps_log version entries count image before
keeps_but_lines version entries count first image before from words =
    let behind = record_line-behind version count in
    record {
      magic = kept_unless _ _ (words 0 0 0) (λ one. omega (arith, one.1));
      version_is = kept_unless _ _ (words 0 0 1) (λ one. omega (arith, one.1));
      page = kept_unless _ _ (words 0 0 2) (λ one. omega (arith, one.1));
      count_of_entries = kept_unless _ _ (words 0 0 3) (λ one. omega (arith, one.1));
      tail = kept_unless _ _ (words 0 1 0) (λ one. omega (arith, one.1));
      records = λ j below k small.
          kept_unless _ _ (words 0 (record_line (layout_of version) j + k / 8) (k % 8)) (λ one. omega (arith, one.1, record_line-before version j count below));
      commits = λ k. kept_unless _ _ (words (1 + k) 0 0) (λ one. omega (arith, one.0));
    }

keeps_but_count : (version : Version) (entries count : ℕ) (image before : Image) → ((i line word : ℕ) → (image i line word ≡ before i line word) ⊎ ((i ≡ 0) × (line ≡ 0) × (word ≡ 4))) → Keeps_log version entries count image before
keeps_but_count version entries count image before words = record {
  magic = kept_unless _ _ (words 0 0 0) (λ one. omega (arith, one.2));
  version_is = kept_unless _ _ (words 0 0 1) (λ one. omega (arith, one.2));
  page = kept_unless _ _ (words 0 0 2) (λ one. omega (arith, one.2));
  count_of_entries = kept_unless _ _ (words 0 0 3) (λ one. omega (arith, one.2));
  tail = kept_unless _ _ (words 0 1 0) (λ one. omega (arith, one.1));
  records = λ j below k small.
      kept_unless _ _ (words 0 (record_line (layout_of version) j + k / 8) (k % 8)) (λ one. omega (arith, one.1, record_line-behind version j));
  commits = λ k. kept_unless _ _ (words (1 + k) 0 0) (λ one. omega (arith, one.0));
}

-- while the record is written the names are those before
while_record : (version : Version) (page entries next : ℕ) (names : List (List ℕ)) (name : List ℕ) (parts : List Part) → InEachRowImage (HasEmptyLog (layout_of version) page entries names next) parts → (count : ℕ)
    → InEachRowImage (HasEmptyLog (layout_of version) page entries names next) (run row_after (take count (on_part 0 (record_steps (layout_of version) (length names) name))) parts)
while_record version page entries next names name parts each count image is =
    let i = length names in
    let steps = record_steps (layout_of version) i name in
    let from = row_image_comes_from (take count (on_part 0 steps)) parts image is in
    let words = λ (p : ℕ) (line : ℕ) (word : ℕ).
    let Here : Type 0 = (image p line word ≡ from.before p line word) ⊎ ((p ≡ 0) × (record_line (layout_of version) i ≤ line)) in
    let found : Here = elim (from.words p line word) [
      | inl kept ↦ inl kept
      | inr stored ↦
          let here = stored_in_header p line word (image p line word) steps (stored_by_row-take count (on_part 0 steps) p line word (image p line word) stored) in
          inr (here.0, (record_only version i line word (image p line word) name here.1).0)
    ] in
    found in
    let log = each from.before from.is in
    still version page entries next names image from.before (keeps_but_lines version entries i (record_line (layout_of version) i) image from.before (omega arith) words)
    (kept_unless _ _ (words 0 0 4) (λ one. omega (arith, one.1, record_line-behind version i))) (count_is version page entries next names from.before log) log

-- ---- once the record is written

record_overlay : (version : Version) (i : ℕ) (name : List ℕ) (k was : ℕ) → k < 8 * (layout_of version).lines_per_name
    → overlaid (record_steps (layout_of version) i name) (record_line (layout_of version) i + k / 8) (k % 8) was ≡ word_in (name_record (layout_of version) name) k
unfolding record_steps
record_overlay version i name k was small =
    let layout = layout_of version in
    let first = record_line layout i in
    let index : 8 * (k / 8) + k % 8 ≡ k = omega arith in
    overlaid-append (record_lines_steps layout i name) (Fence ∷ []) (first + k / 8) (k % 8) was
    ∙ ap (λ steps. overlaid steps (first + k / 8) (k % 8) was) (record_lines-are layout i name)
    ∙ lines_overlay first (record_part layout name) 0 layout.lines_per_name (k / 8) (k % 8) was (omega arith) (omega arith) (omega arith)
    ∙ word_of_line layout name (k / 8) (k % 8) (omega arith)
    ∙ ap (word_in (name_record layout name)) index

record_inside : (version : Version) (i lines : ℕ) (name : List ℕ) → record_line (layout_of version) i + (layout_of version).lines_per_name ≤ lines → AreInside lines (record_steps (layout_of version) i name)
unfolding record_steps
record_inside version i lines name inside =
    let layout = layout_of version in
    let Inside : List LineStep → Type 0 = AreInside lines in
    inside_append lines (record_lines_steps layout i name) (Fence ∷ [])
    (subst Inside (sym (record_lines-are layout i name)) (lines_inside (record_line layout i) (record_part layout name) 0 layout.lines_per_name lines (omega arith))) tt

-- the marks of its lines end quiet, and those of others stay
record_marks : (version : Version) (i line : ℕ) (name : List ℕ) (mark : Mark) → record_line (layout_of version) i ≤ line → line < record_line (layout_of version) i + (layout_of version).lines_per_name → mark_after_all line (record_steps (layout_of version) i name) mark ≡ quiet_line
unfolding record_steps
record_marks version i line name mark low high =
    let layout = layout_of version in
    mark_after_all-append line (record_lines_steps layout i name) (Fence ∷ []) mark
    ∙ ap (λ steps. fenced_more (mark_after_all line steps mark)) (record_lines-are layout i name)
    ∙ ap fenced_more (lines_marks (record_line layout i) (record_part layout name) 0 layout.lines_per_name line mark (omega arith) (omega arith))

record_marks-other : (version : Version) (i line : ℕ) (name : List ℕ) → (line < record_line (layout_of version) i) ⊎ (record_line (layout_of version) i + (layout_of version).lines_per_name ≤ line) → mark_after_all line (record_steps (layout_of version) i name) quiet_line ≡ quiet_line
unfolding record_steps
record_marks-other version i line name apart =
    let layout = layout_of version in
    let first = record_line layout i in
    let beside : (line < first + 0) ⊎ (first + 0 + layout.lines_per_name ≤ line) = elim apart [ inl before ↦ inl (omega arith) | inr behind ↦ inr (omega arith) ] in
    mark_after_all-append line (record_lines_steps layout i name) (Fence ∷ []) quiet_line
    ∙ ap (λ steps. fenced_more (mark_after_all line steps quiet_line)) (record_lines-are layout i name)
    ∙ ap fenced_more (lines_marks-other first (record_part layout name) 0 layout.lines_per_name line quiet_line beside)

record_settles : (version : Version) (i line : ℕ) (name : List ℕ) (part : Part) → record_line (layout_of version) i ≤ line → line < record_line (layout_of version) i + (layout_of version).lines_per_name → IsQuietLine (line_of (after_steps (record_steps (layout_of version) i name) part) line)
record_settles version i line name part low high =
    quiet_after line (record_steps (layout_of version) i name) part (record_marks version i line name open_line low high)

record_quiet : (version : Version) (i : ℕ) (name : List ℕ) (part : Part) → IsQuietPart part → IsQuietPart (after_steps (record_steps (layout_of version) i name) part)
record_quiet version i name part quiet =
    let first = record_line (layout_of version) i in
    let steps = record_steps (layout_of version) i name in
    record {
      lines = λ line. elim (cases_lt line first) [
        | inl before ↦ quiet_still line steps part (record_marks-other version i line name (inl before)) (quiet.lines line)
        | inr from ↦ elim (cases_lt line (first + (layout_of version).lines_per_name)) [
          | inl inside ↦ record_settles version i line name part from inside
          | inr behind ↦ quiet_still line steps part (record_marks-other version i line name (inr behind)) (quiet.lines line)
        ]
      ];
    }

-- what each image then has
record IsRecorded (version : Version) (page entries next : ℕ) (names : List (List ℕ)) (name : List ℕ) (image : Image) : Type 0 where
  log : HasEmptyLog (layout_of version) page entries names next image
  words : HasRecord version image (length names) name

-- the header's part after steps on it
pub header_after : (steps : List LineStep) (parts : List Part) → slice_index_or (run row_after (on_part 0 steps) parts) 0 [] ≡ after_steps steps (slice_index_or parts 0 [])
header_after steps parts =
    row_at 0 (on_part 0 steps) parts ∙ ap (λ these. after_steps these (slice_index_or parts 0 [])) (steps_on-same 0 steps)

recorded : (version : Version) (page entries next : ℕ) (names : List (List ℕ)) (name : List ℕ) (parts : List Part) → length names < (layout_of version).file_limit → HasRoom version page entries parts → InEachRowImage (HasEmptyLog (layout_of version) page entries names next) parts
    → InEachRowImage (IsRecorded version page entries next names name) (run row_after (on_part 0 (record_steps (layout_of version) (length names) name)) parts)
recorded version page entries next names name parts few room each image is =
    let i = length names in
    let steps = record_steps (layout_of version) i name in
    let part = slice_index_or parts 0 [] in
    let row = on_part 0 steps in
    let all : take (length row) row ≡ row = take_all (length row) row (omega arith) in
    let Along : List RowStep → Type 0 = λ these. InEachRowImage (HasEmptyLog (layout_of version) page entries names next) (run row_after these parts) in
    let At : Part → Type 0 = λ these. IsPartImage these (image 0) in
    let first = record_line (layout_of version) i in
    let inside : first + (layout_of version).lines_per_name ≤ length part = omega (arith, room.has 0 (omega arith), record_line-inside version i few) in
    record {
      log = subst Along all (while_record version page entries next names name parts each (length row)) image is;
      words = λ k small.
          quiet_image (after_steps steps part) (image 0) (first + k / 8) (k % 8) (record_settles version i (first + k / 8) name part (omega arith) (omega arith)) (subst At (header_after steps parts) (is.each 0))
          ∙ word_of-after_steps steps part (first + k / 8) (k % 8) (record_inside version i (length part) name inside)
          ∙ record_overlay version i name k (part_word part (first + k / 8) (k % 8)) small;
    }

-- while the count is written it is the old one or one more
while_count : (version : Version) (page entries next : ℕ) (names : List (List ℕ)) (name : List ℕ) (parts : List Part) → CanAdd (layout_of version) names name → AreBytes name → InEachRowImage (IsRecorded version page entries next names name) parts → (count : ℕ)
    → InEachRowImage (HasNamesOrOneMore (layout_of version) page entries names name next) (run row_after (take count (on_part 0 (durable_store 0 4 (length names + 1)))) parts)
while_count version page entries next names name parts can are each count image is =
    let i = length names in
    let steps = durable_store 0 4 (i + 1) in
    let from = row_image_comes_from (take count (on_part 0 steps)) parts image is in
    let was = each from.before from.is in
    let stores = λ (p : ℕ) (line : ℕ) (word : ℕ) (stored : IsStoredBy (steps_on p (take count (on_part 0 steps))) line word (image p line word)).
    let here = stored_in_header p line word (image p line word) steps (stored_by_row-take count (on_part 0 steps) p line word (image p line word) stored) in
    let only = only_stores 0 4 (i + 1) line word (image p line word) here.1 in
    let all : (p ≡ 0) × (line ≡ 0) × (word ≡ 4) × (image p line word ≡ i + 1) = (here.0, only.0, only.1, only.2) in
    all in
    let words = λ (p : ℕ) (line : ℕ) (word : ℕ).
    let found : (image p line word ≡ from.before p line word) ⊎ ((p ≡ 0) × (line ≡ 0) × (word ≡ 4)) = elim (from.words p line word) [
      | inl kept ↦ inl kept
      | inr stored ↦ let all = stores p line word stored in inr (all.0, all.1, all.2)
    ] in
    found in
    let keeps = keeps_but_count version entries i image from.before words in
    elim (from.words 0 0 4) [
      | inl kept ↦ inl (still version page entries next names image from.before keeps kept (count_is version page entries next names from.before was.log) was.log)
      | inr stored ↦
          inr
          (one_more version page entries next names name image from.before can are keeps (stores 0 0 4 stored).3
          (λ k small. kept_unless _ _ (words 0 (record_line (layout_of version) i + k / 8) (k % 8)) (λ one. omega (arith, one.1, record_line-behind version i)) ∙ was.words k small) was.log)
    ]

add_always : (version : Version) (page entries next : ℕ) (names : List (List ℕ)) (name : List ℕ) (parts : List Part) → CanAdd (layout_of version) names name → AreBytes name → HasRoom version page entries parts → InEachRowImage (HasEmptyLog (layout_of version) page entries names next) parts
    → Always row_after (InEachRowImage (HasNamesOrOneMore (layout_of version) page entries names name next)) (on_part 0 (add_file_steps (layout_of version) (length names) name)) parts
unfolding add_file_steps
add_always version page entries next names name parts can are room each =
    let P : List Part → Type 0 = InEachRowImage (HasNamesOrOneMore (layout_of version) page entries names name next) in
    let first = record_steps (layout_of version) (length names) name in
    let last = durable_store 0 4 (length names + 1) in
    let At : List RowStep → Type 0 = λ steps. Always row_after P steps parts in
    subst At (sym (on_part-append 0 first last))
    (always_append row_after P (on_part 0 first) (on_part 0 last) parts
    (always_by_fronts row_after P (on_part 0 first) parts (λ count few image is. inl (while_record version page entries next names name parts each count image is)))
    (always_by_fronts row_after P (on_part 0 last) (run row_after (on_part 0 first) parts) (λ count few.
    while_count version page entries next names name (run row_after (on_part 0 first) parts) can are (recorded version page entries next names name parts can.few room each) count)))

pub add_moments : (version : Version) (page entries next : ℕ) (names : List (List ℕ)) (name : List ℕ) {old new : List PartHistory} → CanAdd (layout_of version) names name → AreBytes name → RowTells old (IsAtRest (layout_of version) page entries names next) → RowTells old (HasRoom version page entries)
    → DidSomeRow (on_part 0 (add_file_steps (layout_of version) (length names) name)) old new → EachRowMoment (InEachRowImage (HasNamesOrOneMore (layout_of version) page entries names name next)) old new
add_moments version page entries next names name {old} {new} can are rest room did =
    let P : List Part → Type 0 = InEachRowImage (HasNamesOrOneMore (layout_of version) page entries names name next) in
    let steps = on_part 0 (add_file_steps (layout_of version) (length names) name) in
    each_row_moment P
    (row_tells_more old (λ parts. IsAtRest (layout_of version) page entries names next parts × HasRoom version page entries parts) (Always row_after P steps)
    (λ parts both. add_always version page entries next names name parts can are both.1 both.0.empty)
    (row_tells_both old (IsAtRest (layout_of version) page entries names next) (HasRoom version page entries) rest room))
    did

-- where nothing is done the names are those before
pub names_stay : (version : Version) (page entries next : ℕ) (names : List (List ℕ)) (name : List ℕ) (row : List PartHistory) → RowTells row (IsAtRest (layout_of version) page entries names next) → EachRowMoment (InEachRowImage (HasNamesOrOneMore (layout_of version) page entries names name next)) row row
names_stay version page entries next names name row rest =
    let P : List Part → Type 0 = InEachRowImage (HasNamesOrOneMore (layout_of version) page entries names name next) in
    each_row_moment P {steps = []}
    (row_tells_more row (IsAtRest (layout_of version) page entries names next) P (λ parts at_rest image is. inl (at_rest.empty image is)) rest)
    did_some_none

-- ---- after all steps

count_overlay : (value was : ℕ) → overlaid (durable_store 0 4 value) 0 4 was ≡ value
unfolding durable_store
count_overlay value was = refl

count_inside : (value lines : ℕ) → 0 < lines → AreInside lines (durable_store 0 4 value)
unfolding durable_store
count_inside value lines some = (some, tt)

add_split : (version : Version) (i : ℕ) (name : List ℕ) (part : Part) → after_steps (add_file_steps (layout_of version) i name) part ≡ after_steps (durable_store 0 4 (i + 1)) (after_steps (record_steps (layout_of version) i name) part)
unfolding add_file_steps
add_split version i name part = after_steps-append (record_steps (layout_of version) i name) (durable_store 0 4 (i + 1)) part

-- the count is one more in each image
count_after : (version : Version) (page entries i : ℕ) (name : List ℕ) (parts : List Part) (image : Image) → HasRoom version page entries parts → IsRowImage (run row_after (on_part 0 (add_file_steps (layout_of version) i name)) parts) image → image 0 0 4 ≡ i + 1
count_after version page entries i name parts image room is =
    let last = durable_store 0 4 (i + 1) in
    let before = after_steps (record_steps (layout_of version) i name) (slice_index_or parts 0 []) in
    let long : 0 < length before = omega (arith, (sizes version).first, (sizes version).names, room.has 0 (omega arith), length-after_steps (record_steps (layout_of version) i name) (slice_index_or parts 0 [])) in
    let At : Part → Type 0 = λ part. IsPartImage part (image 0) in
    quiet_image (after_steps last before) (image 0) 0 4 (line_settled 0 4 (i + 1) before)
    (subst At (header_after (add_file_steps (layout_of version) i name) parts ∙ add_split version i name (slice_index_or parts 0 [])) (is.each 0))
    ∙ word_of-after_steps last before 0 4 (count_inside (i + 1) (length before) long)
    ∙ count_overlay (i + 1) (part_word before 0 4)

quiet_after_add : (version : Version) (i k : ℕ) (name : List ℕ) (parts : List Part) → IsQuietPart (slice_index_or parts k []) → IsQuietPart (slice_index_or (run row_after (on_part 0 (add_file_steps (layout_of version) i name)) parts) k [])
unfolding run
quiet_after_add version i k name parts quiet =
    let steps = add_file_steps (layout_of version) i name in
    elim (cases_eq k 0) [
      | inl first ↦
          let Here : ℕ → Type 0 = λ j. IsQuietPart (slice_index_or (run row_after (on_part 0 steps) parts) j []) in
          let Was : ℕ → Type 0 = λ j. IsQuietPart (slice_index_or parts j []) in
          subst Here (sym first)
          (subst IsQuietPart (sym (header_after steps parts ∙ add_split version i name (slice_index_or parts 0 [])))
          (quiet_settled 0 4 (i + 1) (after_steps (record_steps (layout_of version) i name) (slice_index_or parts 0 []))
          (record_quiet version i name (slice_index_or parts 0 []) (subst Was first quiet))))
      | inr other ↦
          subst IsQuietPart
          (sym (row_at k (on_part 0 steps) parts ∙ ap (λ these. after_steps these (slice_index_or parts k [])) (steps_on-other k 0 steps other))) quiet
    ]

added : (version : Version) (page entries next : ℕ) (names : List (List ℕ)) (name : List ℕ) (image : Image) → image 0 0 4 ≡ length names + 1 → HasNamesOrOneMore (layout_of version) page entries names name next image → HasEmptyLog (layout_of version) page entries (names ++ name ∷ []) next image
added version page entries next names name image count (inl old) = absurd (omega (arith, count, count_is version page entries next names image old))
added version page entries next names name image count (inr new) = new

added_rest : (version : Version) (page entries next : ℕ) (names : List (List ℕ)) (name : List ℕ) (parts : List Part) → CanAdd (layout_of version) names name → AreBytes name → HasRoom version page entries parts → IsAtRest (layout_of version) page entries names next parts
    → IsAtRest (layout_of version) page entries (names ++ name ∷ []) next (run row_after (on_part 0 (add_file_steps (layout_of version) (length names) name)) parts)
added_rest version page entries next names name parts can are room rest =
    let P : List Part → Type 0 = InEachRowImage (HasNamesOrOneMore (layout_of version) page entries names name next) in
    let steps = on_part 0 (add_file_steps (layout_of version) (length names) name) in
    record {
      quiet = record { each = λ k. quiet_after_add version (length names) k name parts (rest.quiet.each k) };
      empty = λ image is.
          added version page entries next names name image (count_after version page entries (length names) name parts image room is)
          (always_last row_after P steps parts (add_always version page entries next names name parts can are room rest.empty) image is);
    }

-- After all steps the region has the name.
pub add_tells : (version : Version) (page entries next : ℕ) (names : List (List ℕ)) (name : List ℕ) {old new : List PartHistory} → CanAdd (layout_of version) names name → AreBytes name → RowTells old (IsAtRest (layout_of version) page entries names next) → RowTells old (HasRoom version page entries)
    → DidRow (on_part 0 (add_file_steps (layout_of version) (length names) name)) old new → RowTells new (IsAtRest (layout_of version) page entries (names ++ name ∷ []) next)
add_tells version page entries next names name {old} {new} can are rest room did =
    row_tells_did (λ parts. IsAtRest (layout_of version) page entries names next parts × HasRoom version page entries parts) (IsAtRest (layout_of version) page entries (names ++ name ∷ []) next)
    (row_tells_both old (IsAtRest (layout_of version) page entries names next) (HasRoom version page entries) rest room)
    (λ parts both. added_rest version page entries next names name parts can are both.1 both.0)
    did

-- What adding did, whichever answer came, to a vector of parts that was lent as a slice.
pub add_changed : {X : Type 0} (version : Version) (history : X → PartHistory) (room : X → Room) (device : X → ℕ) (page entries next index : ℕ) (names : List (List ℕ)) (name : List ℕ) (parts now new : List X) (len : ℕ) → now ≡ parts → length parts ≡ len → length new ≡ length now → CanAdd (layout_of version) names name → AreBytes name → RowTells (map history parts) (IsAtRest (layout_of version) page entries names next) → RowTells (map history parts) (HasRoom version page entries)
    → index ≡ length names → DidSomeRow (on_part 0 (add_file_steps (layout_of version) index name)) (map history now) (map history new) → map (λ part. (room part).lines) new ≡ map (λ part. (room part).lines) now → map device new ≡ map device now
    → AreChangedBy history room device (on_part 0 (add_file_steps (layout_of version) (length names) name)) (HasNamesOrOneMore (layout_of version) page entries names name next) parts (take len (new ++ drop (length new) parts))
add_changed version history room device page entries next index names name parts now new len same long still can are rest has index_is did lines devices =
    let Steps : ℕ → Type 0 = λ i. DidSomeRow (on_part 0 (add_file_steps (layout_of version) i name)) (map history now) (map history new) in
    let begun = lent parts now new len same long still (λ old new. DidSomeRow (on_part 0 (add_file_steps (layout_of version) (length names) name)) (map history old) (map history new)) (subst Steps index_is did) in
    record {
      begun = begun;
      moments = add_moments version page entries next names name can are rest has begun;
      lines = lent parts now new len same long still (λ old new. map (λ part. (room part).lines) new ≡ map (λ part. (room part).lines) old) lines;
      devices = lent parts now new len same long still (λ old new. map device new ≡ map device old) devices;
    }

-- and where nothing was done
pub add_unchanged : {X : Type 0} (version : Version) (history : X → PartHistory) (room : X → Room) (device : X → ℕ) (page entries next : ℕ) (names : List (List ℕ)) (name : List ℕ) (parts : List X) → RowTells (map history parts) (IsAtRest (layout_of version) page entries names next)
    → AreChangedBy history room device (on_part 0 (add_file_steps (layout_of version) (length names) name)) (HasNamesOrOneMore (layout_of version) page entries names name next) parts parts
add_unchanged version history room device page entries next names name parts rest = record {
  begun = did_some_none;
  moments = names_stay version page entries next names name (map history parts) rest;
  lines = refl;
  devices = refl;
}
