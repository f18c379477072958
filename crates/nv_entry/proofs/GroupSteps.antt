-- Groups: what their steps do to each part, and what a power failure may leave of all of them.
use Rattle.std.proofs.Common.{◌≡◌, ◌≢◌, ℕ, ◌+◌, ◌-◌, ◌<◌, ◌≤◌, ◌⊎◌, inl, inr, List, [], ◌++◌, length, take, drop, slice_index_or, zero, suc, refl, sym, ap, ◌∙◌, subst, arith, zero-add}
use Rattle.std.proofs.lemmas.Bool.{cases_eq, cases_lt, eq-eqb, ne_eqb}
use Rattle.std.proofs.lemmas.List.{append-nil, get_or_past, take-append-le, length-append}
use Rattle.std.specs.List.{flat_map, range_with_len}
use Rattle.nv_plain.specs.Images.{PartImage, Image, data_of, lines_for}
use Rattle.nv_plain.specs.Pieces.{pages_touched, piece_of, piece_bytes}
use Rattle.nv_pmem.specs.Calls.{Seen, EndedWell, EndedBadly, OnOne, EachEnded, OneFailed}
use Rattle.nv_pmem.specs.Images.{IsPartImage, IsQuietPart}
use Rattle.nv_pmem.specs.Limits.{IsPageSize, entry_lines}
use Rattle.nv_pmem.specs.Part.{Part, part_word}
use Rattle.nv_pmem.specs.Rows.{RowStep, on_part, row_after, IsRowImage, InEachRowImage, AreQuiet}
use Rattle.nv_pmem.specs.Runs.{run}
use Rattle.nv_pmem.specs.Steps.{LineStep, durable_store}
use Rattle.nv_pmem.proofs.CallLaws.{each_none, each_each, each_failed, failed_front}
use Rattle.nv_pmem.proofs.DurableLaws.{line_settled}
use Rattle.nv_pmem.proofs.ImageLaws.{IsStoredBy, Mark, quiet_line, open_line, mark_after_all, mark_after_all-append, quiet_image, quiet_after, quiet_blank}
use Rattle.nv_pmem.proofs.LineLaws.{length-after_steps, word_of-after_steps}
use Rattle.nv_pmem.proofs.RowLaws.{steps_on, steps_on-append, steps_on-same, steps_on-other, take-on_part, row_at, length-row_after, EachPart, row_image_at, row_image_comes_from, stored_by-append, stored_by-take, stored_by_row-take, row_quiet_still}
use Rattle.nv_pmem.proofs.StepLaws.{run-append, after_steps, Always, always_by_fronts, always_append}
use Rattle.nv_entry.specs.Group.{count_at, data_steps, entry_field_steps, piece_steps, pieces_steps, group_steps, IsUncommitted, HoldsEntry, IsWholeGroup, IsUncommittedOrWhole, StoresOnly}
use Rattle.nv_entry.proofs.Data.{AreBytes, bytes_taken, bytes_dropped}
use Rattle.nv_entry.proofs.PieceRanges.{length-piece_bytes, piece_small, lines_fit}
use Rattle.nv_entry.proofs.PieceSteps.{entry_fields, entry_data, stored_by_entry, mark-entry, mark-entry_still}
use Rattle.nv_pmem.proofs.Ranges.{flat_map-more, flat_map-split}

-- ---- steps part by part

steps_on-parts_before : (steps : ℕ → List LineStep) (i from count : ℕ) → i < from → steps_on i (flat_map (λ k. on_part k (steps k)) (range_with_len from count)) ≡ []
steps_on-parts_before steps i from zero before = refl
steps_on-parts_before steps i from (suc count) before =
    let rest = flat_map (λ k. on_part k (steps k)) (range_with_len (from + 1) count) in
    steps_on-append i (on_part from (steps from)) rest
    ∙ ap (λ front. front ++ steps_on i rest) (steps_on-other i from (steps from) (omega arith))
    ∙ steps_on-parts_before steps i (from + 1) count (omega arith)

-- each part has its own steps
steps_on-parts : (steps : ℕ → List LineStep) (i from count : ℕ) → from ≤ i → i < from + count → steps_on i (flat_map (λ k. on_part k (steps k)) (range_with_len from count)) ≡ steps i
steps_on-parts steps i from zero low high = absurd (omega arith)
steps_on-parts steps i from (suc count) low high =
    let rest = flat_map (λ k. on_part k (steps k)) (range_with_len (from + 1) count) in
    steps_on-append i (on_part from (steps from)) rest
    ∙ elim (cases_eq i from) [
      | inl same ↦
          let At : ℕ → Type 0 = λ k. steps_on i (on_part k (steps k)) ≡ steps i in
          ap (λ front. front ++ steps_on i rest) (subst At same (steps_on-same i (steps i)))
          ∙ ap (λ back. steps i ++ back) (steps_on-parts_before steps i (from + 1) count (omega arith))
          ∙ append-nil (steps i)
      | inr differs ↦
          ap (λ front. front ++ steps_on i rest) (steps_on-other i from (steps from) differs)
          ∙ steps_on-parts steps i (from + 1) count (omega arith) (omega arith)
    ]

-- one entry more
pub pieces_steps-more : (page first file at : ℕ) (bytes : List ℕ) (k : ℕ) → pieces_steps page first file at bytes (k + 1) ≡ pieces_steps page first file at bytes k ++ on_part k (piece_steps page first file at bytes k)
unfolding pieces_steps
pieces_steps-more page first file at bytes k =
    let steps = λ (i : ℕ). on_part i (piece_steps page first file at bytes i) in
    flat_map-more steps 0 k ∙ ap (λ i. flat_map steps (range_with_len 0 k) ++ steps i) (zero-add k)

-- the steps behind those of the first so many entries
pub pieces_rest : (page first file at : ℕ) → List ℕ → (k count : ℕ) → List RowStep
pieces_rest page first file at bytes k count =
    flat_map (λ i. on_part i (piece_steps page first file at bytes i)) (range_with_len (0 + (k + 1)) (count - (k + 1)))

pub pieces_steps-split : (page first file at : ℕ) (bytes : List ℕ) (k count : ℕ) → k < count
    → pieces_steps page first file at bytes count ≡ (pieces_steps page first file at bytes k ++ on_part k (piece_steps page first file at bytes k)) ++ pieces_rest page first file at bytes k count
unfolding pieces_steps pieces_rest
pieces_steps-split page first file at bytes k count below =
    let steps = λ (i : ℕ). on_part i (piece_steps page first file at bytes i) in
    let all : count ≡ k + 1 + (count - (k + 1)) = omega arith in
    ap (λ n. flat_map steps (range_with_len 0 n)) all
    ∙ flat_map-split steps 0 (k + 1) (count - (k + 1))
    ∙ ap (λ front. front ++ flat_map steps (range_with_len (0 + (k + 1)) (count - (k + 1)))) (pieces_steps-more page first file at bytes k)

-- no entry
pub each_no_pieces : (page first file at : ℕ) (bytes : List ℕ) (row : List Seen) → EachEnded (OnOne EndedWell) (pieces_steps page first file at bytes 0) row row
unfolding pieces_steps
each_no_pieces page first file at bytes row = each_none

-- The calls of one entry more ended well.
pub each_pieces_more : (page first file at : ℕ) (bytes : List ℕ) (k : ℕ) {old between new : List Seen} → EachEnded (OnOne EndedWell) (pieces_steps page first file at bytes k) old between
    → EachEnded (OnOne EndedWell) (on_part k (piece_steps page first file at bytes k)) between new → EachEnded (OnOne EndedWell) (pieces_steps page first file at bytes (k + 1)) old new
each_pieces_more page first file at bytes k {old} {between} {new} before one =
    let Ended : List RowStep → Type 0 = λ calls. EachEnded (OnOne EndedWell) calls old new in
    subst Ended (sym (pieces_steps-more page first file at bytes k)) (each_each before one)

-- One of those of one entry more, of those that there are, failed.
pub failed_pieces_more : (page first file at : ℕ) (bytes : List ℕ) (k count : ℕ) {old between new : List Seen} → k < count → EachEnded (OnOne EndedWell) (pieces_steps page first file at bytes k) old between
    → OneFailed (OnOne EndedWell) (OnOne EndedBadly) (on_part k (piece_steps page first file at bytes k)) between new → OneFailed (OnOne EndedWell) (OnOne EndedBadly) (pieces_steps page first file at bytes count) old new
failed_pieces_more page first file at bytes k count {old} {between} {new} below before one =
    let Failed : List RowStep → Type 0 = λ calls. OneFailed (OnOne EndedWell) (OnOne EndedBadly) calls old new in
    subst Failed (sym (pieces_steps-split page first file at bytes k count below))
    (failed_front (pieces_rest page first file at bytes k count) (each_failed before one))

-- The steps of an entry, by what is known of its bytes and its fields.
pub piece_steps-from : (page first file at : ℕ) (bytes : List ℕ) (i from size piece_at count : ℕ) → from ≡ (piece_of at (length bytes) page i).from → size ≡ (piece_of at (length bytes) page i).size
    → piece_at ≡ (piece_of at (length bytes) page i).at → count ≡ count_at (pages_touched at (length bytes) page) i
    → data_steps (take (from + size - from) (drop from bytes)) ++ entry_field_steps file piece_at size count first ≡ piece_steps page first file at bytes i
unfolding piece_steps
piece_steps-from page first file at bytes i from size piece_at count from_is size_is at_is count_is =
    let piece = piece_of at (length bytes) page i in
    let taken : from + size - from ≡ size = omega arith in
    ap (λ n. data_steps (take n (drop from bytes)) ++ entry_field_steps file piece_at size count first) taken
    ∙ ap (λ n. data_steps (take size (drop n bytes)) ++ entry_field_steps file piece_at size count first) from_is
    ∙ ap (λ n. data_steps (take n (drop piece.from bytes)) ++ entry_field_steps file piece_at n count first) size_is
    ∙ ap (λ n. data_steps (piece_bytes bytes piece) ++ entry_field_steps file n piece.size count first) at_is
    ∙ ap (λ n. data_steps (piece_bytes bytes piece) ++ entry_field_steps file piece.at piece.size n first) count_is

-- ---- the commit

only_commits : (value line word found : ℕ) → IsStoredBy (durable_store 0 0 value) line word found → (line ≡ 0) × (word ≡ 0) × (found ≡ value)
unfolding durable_store
only_commits value line word found (inl here) = here
only_commits value line word found (inr (inl none)) = absurd none
only_commits value line word found (inr (inr (inl none))) = absurd none
only_commits value line word found (inr (inr (inr none))) = absurd none

-- a part of a row on which the steps are another's has none
stored_by_on_part : (i j : ℕ) (steps : List LineStep) (line word found : ℕ) → IsStoredBy (steps_on i (on_part j steps)) line word found → (i ≡ j) × IsStoredBy steps line word found
stored_by_on_part i j steps line word found stored =
    let At : List LineStep → Type 0 = λ these. IsStoredBy these line word found in
    elim (cases_eq i j) [
      | inl same ↦
          let On : ℕ → Type 0 = λ k. IsStoredBy (steps_on i (on_part k steps)) line word found in
          (same, subst At (steps_on-same i steps) (subst On (sym same) stored))
      | inr differs ↦ let none : IsStoredBy [] line word found = subst At (steps_on-other i j steps differs) stored in absurd none
    ]

mark-commit_still : (value i line : ℕ) → mark_after_all line (steps_on i (on_part 0 (durable_store 0 0 value))) quiet_line ≡ quiet_line
unfolding durable_store
mark-commit_still value i line = elim (cases_eq i 0) [
  | inl same ↦ rw (eq-eqb i 0 same) (elim (cases_eq line 0) [ inl first ↦ rw (eq-eqb line 0 first) | inr later ↦ rw (ne_eqb line 0 later) ])
  | inr differs ↦ rw (ne_eqb i 0 differs)
]

word-commit : (value : ℕ) (part : Part) → 0 < length part → part_word (after_steps (durable_store 0 0 value) part) 0 0 ≡ value
unfolding durable_store
word-commit value part inside = word_of-after_steps (durable_store 0 0 value) part 0 0 (inside, tt)

-- ---- a write's group

-- the entries are written
abbrev pub all_pieces : (page first file at : ℕ) → List ℕ → List RowStep
all_pieces page first file at bytes = pieces_steps page first file at bytes (pages_touched at (length bytes) page)

-- each part has the lines of an entry
abbrev pub HaveLines : (page count : ℕ) → List Part → Type 0
HaveLines page count = EachPart (λ i now. entry_lines page ≤ length now) count

module _ (page first file at : ℕ) (bytes : List ℕ) where
  steps_on-pieces : (i : ℕ) → i < pages_touched at (length bytes) page → steps_on i (all_pieces page first file at bytes) ≡ piece_steps page first file at bytes i
  unfolding pieces_steps
  steps_on-pieces i below =
      steps_on-parts (piece_steps page first file at bytes) i 0 (pages_touched at (length bytes) page) (omega arith) (omega arith)

  mark-piece_still : (i line : ℕ) → mark_after_all line (piece_steps page first file at bytes i) quiet_line ≡ quiet_line
  unfolding piece_steps
  mark-piece_still i line =
      let piece = piece_of at (length bytes) page i in
      mark-entry_still (piece_bytes bytes piece) file piece.at piece.size (count_at (pages_touched at (length bytes) page) i) first line

  -- a line that is quiet before all steps is quiet after them
  pub group_still : (i line : ℕ) → i < pages_touched at (length bytes) page → mark_after_all line (steps_on i (group_steps page first file at bytes)) quiet_line ≡ quiet_line
  unfolding group_steps
  group_still i line below =
      let pieces = all_pieces page first file at bytes in
      let commit = durable_store 0 0 (first + 1) in
      ap (λ these. mark_after_all line these quiet_line) (steps_on-append i pieces (on_part 0 commit))
      ∙ mark_after_all-append line (steps_on i pieces) (steps_on i (on_part 0 commit)) quiet_line
      ∙ ap (mark_after_all line (steps_on i (on_part 0 commit)))
      (ap (λ these. mark_after_all line these quiet_line) (steps_on-pieces i below) ∙ mark-piece_still i line)
      ∙ mark-commit_still (first + 1) i line

module _ (page first file at : ℕ) (bytes : List ℕ) (is_page : IsPageSize page) where
  -- ---- one entry

  size-piece : (i : ℕ) → i < pages_touched at (length bytes) page
      → length (piece_bytes bytes (piece_of at (length bytes) page i)) ≡ (piece_of at (length bytes) page i).size
  size-piece i below = length-piece_bytes bytes at page i (omega (arith, is_page.least)) below

  lines-piece : (i : ℕ) → i < pages_touched at (length bytes) page → 1 + lines_for (length (piece_bytes bytes (piece_of at (length bytes) page i))) ≤ entry_lines page
  lines-piece i below = lines_fit _ page is_page (omega (arith, size-piece i below, piece_small at (length bytes) page i))

  stored_by_piece : (i line word found : ℕ) → i < pages_touched at (length bytes) page → IsStoredBy (piece_steps page first file at bytes i) line word found
      → ((1 ≤ line) × (line ≤ lines_for (piece_of at (length bytes) page i).size)) ⊎ ((line ≡ 0) × (1 ≤ word) × (word ≤ 5))
  unfolding piece_steps
  stored_by_piece i line word found below stored =
      let piece = piece_of at (length bytes) page i in
      let At : ℕ → Type 0 = λ size. ((1 ≤ line) × (line ≤ lines_for size)) ⊎ ((line ≡ 0) × (1 ≤ word) × (word ≤ 5)) in
      subst At (size-piece i below)
      (stored_by_entry (piece_bytes bytes piece) file piece.at piece.size (count_at (pages_touched at (length bytes) page) i) first line word found stored)

  mark-piece : (i line : ℕ) (mark : Mark) → line ≤ lines_for (length (piece_bytes bytes (piece_of at (length bytes) page i)))
      → mark_after_all line (piece_steps page first file at bytes i) mark ≡ quiet_line
  unfolding piece_steps
  mark-piece i line mark within =
      let piece = piece_of at (length bytes) page i in
      mark-entry (piece_bytes bytes piece) file piece.at piece.size (count_at (pages_touched at (length bytes) page) i) first line mark within

  -- What has the words that a part has after the steps holds the entry, whatever the commit word.
  holds_entry : (i : ℕ) (part : Part) (image : PartImage) → AreBytes bytes → i < pages_touched at (length bytes) page → entry_lines page ≤ length part
      → ((line word : ℕ) → line ≤ lines_for (length (piece_bytes bytes (piece_of at (length bytes) page i))) → (line ≢ 0) ⊎ (word ≢ 0)
      → image line word ≡ part_word (after_steps (piece_steps page first file at bytes i) part) line word)
      → HoldsEntry page first file at bytes i image
  unfolding piece_steps
  holds_entry i part image are below enough same =
      let piece = piece_of at (length bytes) page i in
      let these = piece_bytes bytes piece in
      let count = count_at (pages_touched at (length bytes) page) i in
      let lines : 1 + lines_for (length these) ≤ length part = omega (arith, lines-piece i below) in
      let At : ℕ → Type 0 = λ size. data_of image size ≡ these in
      record {
        fields = entry_fields these file piece.at piece.size count first part image lines (λ j some. same 0 j (omega arith) (inr (omega arith)));
        bytes_are =
            subst At (size-piece i below)
            (entry_data these file piece.at piece.size count first part image
            (bytes_taken piece.size (drop piece.from bytes) (bytes_dropped piece.from bytes are)) lines
            (λ k j inside. same (1 + k) j (omega arith) (inl (omega arith))));
      }

  -- ---- no commit word before the commit

  no_commit_word : (i found : ℕ) → i < pages_touched at (length bytes) page → IsStoredBy (steps_on i (all_pieces page first file at bytes)) 0 0 found → ⊥
  no_commit_word i found below stored =
      let At : List LineStep → Type 0 = λ these. IsStoredBy these 0 0 found in
      elim (stored_by_piece i 0 0 found below (subst At (steps_on-pieces page first file at bytes i below) stored)) [
        | inl in_data ↦ omega arith
        | inr in_fields ↦ omega arith
      ]

  uncommitted_still : (some : List RowStep) → ((i found : ℕ) → i < pages_touched at (length bytes) page → IsStoredBy (steps_on i some) 0 0 found → ⊥) → (parts : List Part)
      → InEachRowImage (IsUncommitted first (pages_touched at (length bytes) page)) parts
      → InEachRowImage (IsUncommitted first (pages_touched at (length bytes) page)) (run row_after some parts)
  uncommitted_still some none parts was image is i below committed =
      let from = row_image_comes_from some parts image is in
      elim (from.words i 0 0) [
        | inl kept ↦ was from.before from.is i below (sym kept ∙ committed)
        | inr one ↦ none i (image i 0 0) below one
      ]

  pub group_open : (parts : List Part) (count : ℕ) → count + 3 ≤ length (group_steps page first file at bytes) → InEachRowImage (IsUncommitted first (pages_touched at (length bytes) page)) parts
      → InEachRowImage (IsUncommitted first (pages_touched at (length bytes) page)) (run row_after (take count (group_steps page first file at bytes)) parts)
  unfolding group_steps durable_store
  group_open parts count few was =
      let pieces = all_pieces page first file at bytes in
      let commit = on_part 0 (durable_store 0 0 (first + 1)) in
      let l : length (pieces ++ commit) ≡ length pieces + 3 = length-append pieces commit in
      subst (λ these. InEachRowImage (IsUncommitted first (pages_touched at (length bytes) page)) (run row_after these parts)) (sym (take-append-le count pieces commit (omega (arith, few, l))))
      (uncommitted_still (take count pieces) (λ i found below stored. no_commit_word i found below (stored_by_row-take count pieces i 0 0 found stored)) parts was)

  -- ---- after the entries are written

  -- Each part holds its entry, and no follower is committed.
  record IsWritten (image : Image) : Type 0 where
    followers : (i : ℕ) → 1 ≤ i → i < pages_touched at (length bytes) page → image i 0 0 ≢ first + i + 1
    entries : (i : ℕ) → i < pages_touched at (length bytes) page → HoldsEntry page first file at bytes i (image i)

  -- The entries stay, whatever stores of the leader's commit word are made.
  written_still : (parts : List Part) → AreBytes bytes → HaveLines page (pages_touched at (length bytes) page) parts
      → InEachRowImage (IsUncommitted first (pages_touched at (length bytes) page)) parts
      → (some : List LineStep) → ((line word found : ℕ) → IsStoredBy some line word found → (line ≡ 0) × (word ≡ 0) × (found ≡ first + 1))
      → (image : Image) → IsRowImage (run row_after (on_part 0 some) (run row_after (all_pieces page first file at bytes) parts)) image
      → IsWritten image
  written_still parts are lines was some only image is =
      let pieces = all_pieces page first file at bytes in
      let from = row_image_comes_from (on_part 0 some) (run row_after pieces parts) image is in
      let kept : (i line word : ℕ) → (i ≢ 0) ⊎ ((line ≢ 0) ⊎ (word ≢ 0)) → image i line word ≡ from.before i line word = λ i line word apart.
      elim (from.words i line word) [
        | inl same ↦ same
        | inr one ↦
            let here = stored_by_on_part i 0 some line word (image i line word) one in
            let place = only line word (image i line word) here.1 in
            elim apart [
              | inl other ↦ absurd (other here.0)
              | inr other ↦ elim other [ inl line_apart ↦ absurd (line_apart place.0) | inr word_apart ↦ absurd (word_apart place.1) ]
            ]
      ] in
      record {
        followers = λ i later below committed.
            uncommitted_still pieces no_commit_word parts was from.before from.is i below (sym (kept i 0 0 (inl (omega arith))) ∙ committed);
        entries = λ i below.
            let part = slice_index_or parts i [] in
            let steps = piece_steps page first file at bytes i in
            let At : List LineStep → Type 0 = λ these. IsPartImage (after_steps these part) (from.before i) in
            let before : IsPartImage (after_steps steps part) (from.before i) = subst At (steps_on-pieces page first file at bytes i below) (row_image_at pieces parts from.before i from.is) in
            holds_entry i part (image i) are below (lines.has i below) (λ line word within apart.
            kept i line word (inr apart)
            ∙ quiet_image (after_steps steps part) (from.before i) line word (quiet_after line steps part (mark-piece i line open_line within)) before);
      }

  or_whole : (image : Image) → IsWritten image → IsUncommittedOrWhole page first file at bytes image
  or_whole image written = elim (cases_eq (image 0 0 0) (first + 1)) [
    | inl committed ↦ inr (record { committed = committed; followers = written.followers; entries = written.entries })
    | inr other ↦ inl (λ i below committed. elim (cases_eq i 0) [
      | inl leads ↦
          let At : ℕ → Type 0 = λ k. image k 0 0 ≡ first + k + 1 in
          let number : first + 0 + 1 ≡ first + 1 = omega arith in
          other (subst At leads committed ∙ number)
      | inr follows ↦ written.followers i (omega arith) below committed
    ])
  ]

  -- ---- the whole group

  -- Along its steps a group is there as a whole or not at all.
  pub group_always : (parts : List Part) → AreBytes bytes → HaveLines page (pages_touched at (length bytes) page) parts
      → InEachRowImage (IsUncommitted first (pages_touched at (length bytes) page)) parts
      → Always row_after (InEachRowImage (IsUncommittedOrWhole page first file at bytes)) (group_steps page first file at bytes) parts
  unfolding group_steps
  group_always parts are lines was =
      let pieces = all_pieces page first file at bytes in
      let commit = durable_store 0 0 (first + 1) in
      let P : List Part → Type 0 = InEachRowImage (IsUncommittedOrWhole page first file at bytes) in
      let written = run row_after pieces parts in
      always_append row_after P pieces (on_part 0 commit) parts
      (always_by_fronts row_after P pieces parts (λ count few image is.
      inl (uncommitted_still (take count pieces)
      (λ i found below stored. no_commit_word i found below (stored_by_row-take count pieces i 0 0 found stored)) parts was image is)))
      (always_by_fronts row_after P (on_part 0 commit) written (λ count few.
      let At : List RowStep → Type 0 = λ these. P (run row_after these written) in
      subst At (sym (take-on_part 0 count commit))
      (λ image is.
      or_whole image
      (written_still parts are lines was (take count commit)
      (λ line word found stored. only_commits (first + 1) line word found (stored_by-take count commit line word found stored)) image is))))

  -- After them it is there.
  pub group_whole : (parts : List Part) → AreBytes bytes → 1 ≤ pages_touched at (length bytes) page → HaveLines page (pages_touched at (length bytes) page) parts
      → InEachRowImage (IsUncommitted first (pages_touched at (length bytes) page)) parts
      → InEachRowImage (IsWholeGroup page first file at bytes) (run row_after (group_steps page first file at bytes) parts)
  unfolding group_steps
  group_whole parts are some lines was image is =
      let pieces = all_pieces page first file at bytes in
      let commit = durable_store 0 0 (first + 1) in
      let before = run row_after pieces parts in
      let leader = slice_index_or before 0 [] in
      let Row : List Part → Type 0 = λ row. IsRowImage row image in
      let last : IsRowImage (run row_after (on_part 0 commit) before) image = subst Row (run-append row_after pieces (on_part 0 commit) parts) is in
      let written = written_still parts are lines was commit (only_commits (first + 1)) image last in
      let At : List LineStep → Type 0 = λ these. IsPartImage (after_steps these leader) (image 0) in
      let has_lines : 0 < length leader =
      omega (arith, ap length (row_at 0 pieces parts), length-after_steps (steps_on 0 pieces) (slice_index_or parts 0 []), lines.has 0 some) in
      record {
        committed =
            quiet_image (after_steps commit leader) (image 0) 0 0 (line_settled 0 0 (first + 1) leader)
            (subst At (steps_on-same 0 commit) (row_image_at (on_part 0 commit) before image 0 last))
            ∙ word-commit (first + 1) leader has_lines;
        followers = written.followers;
        entries = written.entries;
      }

  stored_by_group : (i line word found : ℕ) → i < pages_touched at (length bytes) page → IsStoredBy (steps_on i (group_steps page first file at bytes)) line word found
      → (((1 ≤ line) × (line ≤ lines_for (piece_of at (length bytes) page i).size)) ⊎ ((line ≡ 0) × (1 ≤ word) × (word ≤ 5)))
      ⊎ ((i ≡ 0) × (line ≡ 0) × (word ≡ 0) × (found ≡ first + 1))
  unfolding group_steps
  stored_by_group i line word found below stored =
      let pieces = all_pieces page first file at bytes in
      let commit = durable_store 0 0 (first + 1) in
      let At : List LineStep → Type 0 = λ these. IsStoredBy these line word found in
      elim (stored_by-append (steps_on i pieces) (steps_on i (on_part 0 commit)) line word found (subst At (steps_on-append i pieces (on_part 0 commit)) stored)) [
        | inl by_piece ↦ inl (stored_by_piece i line word found below (subst At (steps_on-pieces page first file at bytes i below) by_piece))
        | inr by_commit ↦
            let here = stored_by_on_part i 0 commit line word found by_commit in
            let place = only_commits (first + 1) line word found here.1 in
            inr (here.0, place.0, place.1, place.2)
      ]

  -- After the first so many of them nothing else is stored.
  pub group_stores : (was : List Part) (count : ℕ) → 1 ≤ pages_touched at (length bytes) page
      → InEachRowImage (StoresOnly page first file at bytes was) (run row_after (take count (group_steps page first file at bytes)) was)
  group_stores was count some image is =
      let group = group_steps page first file at bytes in
      let from = row_image_comes_from (take count group) was image is in
      let stored = λ (i line word : ℕ) (below : i < pages_touched at (length bytes) page) (one : IsStoredBy (steps_on i (take count group)) line word (image i line word)).
      stored_by_group i line word (image i line word) below (stored_by_row-take count group i line word (image i line word) one) in
      record {
        before = from.before;
        is = from.is;
        leader = elim (from.words 0 0 0) [
          | inl kept ↦ inl kept
          | inr one ↦ elim (stored 0 0 0 some one) [
            | inl by_piece ↦ elim by_piece [ inl in_data ↦ absurd (omega arith) | inr in_fields ↦ absurd (omega arith) ]
            | inr by_commit ↦ inr by_commit.3
          ]
        ];
        followers = λ i later below. elim (from.words i 0 0) [
          | inl kept ↦ kept
          | inr one ↦ elim (stored i 0 0 below one) [
            | inl by_piece ↦ elim by_piece [ inl in_data ↦ absurd (omega arith) | inr in_fields ↦ absurd (omega arith) ]
            | inr by_commit ↦ absurd (omega arith)
          ]
        ];
        behind_fields = λ i word below behind. elim (from.words i 0 word) [
          | inl kept ↦ kept
          | inr one ↦ elim (stored i 0 word below one) [
            | inl by_piece ↦ elim by_piece [ inl in_data ↦ absurd (omega arith) | inr in_fields ↦ absurd (omega arith) ]
            | inr by_commit ↦ absurd (omega arith)
          ]
        ];
        behind_data = λ i line word below behind. elim (from.words i line word) [
          | inl kept ↦ kept
          | inr one ↦ elim (stored i line word below one) [
            | inl by_piece ↦ elim by_piece [ inl in_data ↦ absurd (omega arith) | inr in_fields ↦ absurd (omega arith) ]
            | inr by_commit ↦ absurd (omega arith)
          ]
        ];
      }

  -- Quiet parts are quiet after them.
  pub group_quiet : (parts : List Part) → length parts ≡ pages_touched at (length bytes) page → AreQuiet parts → AreQuiet (run row_after (group_steps page first file at bytes) parts)
  group_quiet parts long quiet =
      let group = group_steps page first file at bytes in
      record {
        each = λ i. elim (cases_lt i (pages_touched at (length bytes) page)) [
          | inl below ↦ record { lines = λ line. row_quiet_still i line group parts (group_still page first file at bytes i line below) ((quiet.each i).lines line) }
          | inr past ↦
              let none : IsQuietPart [] = record { lines = λ line. quiet_blank } in
              subst IsQuietPart (sym (get_or_past (run row_after group parts) i [] (omega (arith, length-row_after group parts)))) none
        ];
      }
