-- Fitting steps: after all device calls of a group's commit each part says a piece that lies in one page, whatever it said before.
use Rattle.std.proofs.Common.{◌≡◌, ◌≢◌, ℕ, zero, suc, ◌+◌, ◌%◌, ◌<◌, ◌≤◌, ◌==◌, List, [], ◌∷◌, ◌++◌, length, inl, inr, refl, sym, ap, subst, ◌∙◌, arith}
use Rattle.std.specs.List.{flat_map, range_with_len}
use Rattle.std.proofs.lemmas.Bool.{cases_eq, cases_lt}
use Rattle.std.proofs.lemmas.List.{append-nil}
use Rattle.nv_plain.specs.Pieces.{pages_touched, piece_of, piece_bytes}
use Rattle.nv_pmem.specs.Laws.{StoredIsLoaded, OthersAreKept, StepsKeepLines, BlankIsZeros}
use Rattle.nv_pmem.specs.Part.{Part, blank_line, line_of, part_word}
use Rattle.nv_pmem.specs.Rows.{on_part, steps_on}
use Rattle.nv_pmem.specs.Runs.{run}
use Rattle.nv_pmem.specs.Steps.{LineStep, StoreWord, Flush, Fence, after_line_step, durable_store}
use Rattle.nv_pmem.specs.Stored.{LeaveWord}
use Rattle.nv_pmem.proofs.RowLaws.{steps_on-append, steps_on-same, steps_on-other}
use Rattle.nv_pmem.proofs.StepLaws.{run-append}
use Rattle.nv_entry.specs.Group.{count_at, data_steps, entry_field_steps, piece_steps, pieces_steps, group_steps}
use Rattle.nv_core.proofs.state.Choices.{if_both}
use Rattle.nv_core.proofs.crash.CrashPieces.{piece_page}

-- what loads of a part give, as the laws of parts say it
pub record LoadLaws : Type 0 where
  pub stored : StoredIsLoaded
  pub kept : OthersAreKept
  pub lines : StepsKeepLines
  pub blank : BlankIsZeros

-- the piece of the entry that a part says lies in one page
abbrev pub SaysFitting : ℕ → Part → Type 0
SaysFitting page part = part_word part 0 2 % page + part_word part 0 3 ≤ page

-- so it is after all device calls of a group on that part
abbrev pub GroupsFit : Type 0
GroupsFit =
    (page first file at : ℕ) (bytes : List ℕ) (i : ℕ) (part : Part)
    → 1 ≤ page → 0 < length bytes → i < pages_touched at (length bytes) page → SaysFitting page (run after_line_step (steps_on i (group_steps page first file at bytes)) part)

-- ---- the steps on one part

-- those of the parts from one on are none of an earlier one's
before_all : (steps : ℕ → List LineStep) (i from count : ℕ) → i < from → steps_on i (flat_map (λ k. on_part k (steps k)) (range_with_len from count)) ≡ []
before_all steps i from zero less = refl
before_all steps i from (suc count) less =
    steps_on-append i (on_part from (steps from)) (flat_map (λ k. on_part k (steps k)) (range_with_len (from + 1) count))
    ∙ ap (λ front. front ++ steps_on i (flat_map (λ k. on_part k (steps k)) (range_with_len (from + 1) count))) (steps_on-other i from (steps from) (omega (arith, less)))
    ∙ before_all steps i (from + 1) count (omega (arith, less))

-- each part has its own
own_steps : (steps : ℕ → List LineStep) (i from count : ℕ) → from ≤ i → i < from + count → steps_on i (flat_map (λ k. on_part k (steps k)) (range_with_len from count)) ≡ steps i
own_steps steps i from zero low high = absurd (omega (arith, low, high))
own_steps steps i from (suc count) low high =
    steps_on-append i (on_part from (steps from)) (flat_map (λ k. on_part k (steps k)) (range_with_len (from + 1) count))
    ∙ elim (cases_eq i from) [
      | inl same ↦
          ap (λ front. front ++ rest) (subst (λ k. steps_on i (on_part k (steps k)) ≡ steps i) same (steps_on-same i (steps i)))
          ∙ ap (λ back. steps i ++ back) (before_all steps i (from + 1) count (omega (arith, same))) ∙ append-nil (steps i)
      | inr ne ↦
          ap (λ front. front ++ rest) (steps_on-other i from (steps from) ne)
          ∙ own_steps steps i (from + 1) count (omega (arith, low, ne)) (omega (arith, high))
    ]
  where
    rest : List LineStep
    rest = steps_on i (flat_map (λ k. on_part k (steps k)) (range_with_len (from + 1) count))

-- the steps of a group on one of its parts: its piece's, and maybe those of the commit word
group_on : (page first file at : ℕ) (bytes : List ℕ) (i : ℕ) → i < pages_touched at (length bytes) page
    → steps_on i (group_steps page first file at bytes) ≡ piece_steps page first file at bytes i ++ steps_on i (on_part 0 (durable_store 0 0 (first + 1)))
unfolding group_steps pieces_steps
group_on page first file at bytes i less =
    steps_on-append i (flat_map (λ k. on_part k (piece_steps page first file at bytes k)) (range_with_len 0 (pages_touched at (length bytes) page))) (on_part 0 (durable_store 0 0 (first + 1)))
    ∙ ap (λ front. front ++ steps_on i (on_part 0 (durable_store 0 0 (first + 1))))
    (own_steps (piece_steps page first file at bytes) i 0 (pages_touched at (length bytes) page) (omega arith) (omega (arith, less)))

-- ---- words that steps leave

leaves_none : (line word : ℕ) → LeaveWord [] line word
leaves_none line word value found = found

leaves_store : (at other value line word : ℕ) (steps : List LineStep) → word ≢ other → LeaveWord steps line word → LeaveWord (StoreWord at other value ∷ steps) line word
leaves_store at other value line word steps ne leave found stored = elim stored [ inl here ↦ ne here.1 | inr later ↦ leave found later ]

leaves_flush : (at line word : ℕ) (steps : List LineStep) → LeaveWord steps line word → LeaveWord (Flush at ∷ steps) line word
leaves_flush at line word steps leave found stored = elim stored [ inl none ↦ none | inr later ↦ leave found later ]

leaves_fence : (line word : ℕ) (steps : List LineStep) → LeaveWord steps line word → LeaveWord (Fence ∷ steps) line word
leaves_fence line word steps leave found stored = elim stored [ inl none ↦ none | inr later ↦ leave found later ]

-- what steps leave, they leave on any one part
leaves_on : (i part line word : ℕ) (steps : List LineStep) → LeaveWord steps line word → LeaveWord (steps_on i (on_part part steps)) line word
leaves_on i part line word [] leave = leave
leaves_on i part line word (step ∷ steps) leave =
    let rest = leaves_on i part line word steps (λ found stored. leave found (inr stored)) in
    if_both (λ list. LeaveWord list line word) (i == part) (step ∷ steps_on i (on_part part steps)) (steps_on i (on_part part steps))
    (λ _ found stored. elim stored [ inl here ↦ leave found (inl here) | inr later ↦ rest found later ]) (λ _. rest)

-- the commit word's steps leave the other words
commit_leaves : (i value word : ℕ) → 1 ≤ word → LeaveWord (steps_on i (on_part 0 (durable_store 0 0 value))) 0 word
unfolding durable_store
commit_leaves i value word some =
    leaves_on i 0 0 word (StoreWord 0 0 value ∷ Flush 0 ∷ Fence ∷ [])
    (leaves_store 0 0 value 0 word (Flush 0 ∷ Fence ∷ []) (λ e. omega (arith, e, some)) (leaves_flush 0 0 word (Fence ∷ []) (leaves_fence 0 word [] (leaves_none 0 word))))

-- ---- what a part says

module _ (loads : LoadLaws) where
  -- after the steps that store the fields
  fields_say : (file at size count leader : ℕ) (part : Part) → 0 < length part
      → (part_word (run after_line_step (entry_field_steps file at size count leader) part) 0 2 ≡ at) × (part_word (run after_line_step (entry_field_steps file at size count leader) part) 0 3 ≡ size)
  unfolding run entry_field_steps
  fields_say file at size count leader part some =
      let one = loads.lines (StoreWord 0 1 file ∷ []) part in
      let two = loads.lines (StoreWord 0 1 file ∷ StoreWord 0 2 at ∷ []) part in (
        loads.kept (StoreWord 0 3 size ∷ StoreWord 0 4 count ∷ StoreWord 0 5 leader ∷ Flush 0 ∷ Fence ∷ []) (after_line_step (StoreWord 0 2 at) (after_line_step (StoreWord 0 1 file) part)) 0 2
            (leaves_store 0 3 size 0 2 (StoreWord 0 4 count ∷ StoreWord 0 5 leader ∷ Flush 0 ∷ Fence ∷ []) (λ e. omega (arith, e)) (later 2 (λ e. omega (arith, e)) (λ e. omega (arith, e))))
            ∙ loads.stored (after_line_step (StoreWord 0 1 file) part) 0 2 at (omega (arith, one, some)),
        loads.kept (StoreWord 0 4 count ∷ StoreWord 0 5 leader ∷ Flush 0 ∷ Fence ∷ []) (after_line_step (StoreWord 0 3 size) (after_line_step (StoreWord 0 2 at) (after_line_step (StoreWord 0 1 file) part))) 0 3
            (later 3 (λ e. omega (arith, e)) (λ e. omega (arith, e)))
            ∙ loads.stored (after_line_step (StoreWord 0 2 at) (after_line_step (StoreWord 0 1 file) part)) 0 3 size (omega (arith, two, some)),
      )
    where
      later : (word : ℕ) → word ≢ 4 → word ≢ 5 → LeaveWord (StoreWord 0 4 count ∷ StoreWord 0 5 leader ∷ Flush 0 ∷ Fence ∷ []) 0 word
      later word four five =
          leaves_store 0 4 count 0 word (StoreWord 0 5 leader ∷ Flush 0 ∷ Fence ∷ []) four
          (leaves_store 0 5 leader 0 word (Flush 0 ∷ Fence ∷ []) five (leaves_flush 0 0 word (Fence ∷ []) (leaves_fence 0 word [] (leaves_none 0 word))))

  -- a part without a line says nothing but zeros
  no_line : (part : Part) → length part ≡ 0 → line_of part 0 ≡ blank_line
  no_line [] none = refl
  no_line (line ∷ rest) none = absurd (omega (arith, none))

  blank_fits : (page : ℕ) (part : Part) → 1 ≤ page → length part ≡ 0 → SaysFitting page part
  blank_fits page part some none =
      let two = loads.blank part 0 2 (no_line part none) in
      let three = loads.blank part 0 3 (no_line part none) in
      subst (λ x. x % page + part_word part 0 3 ≤ page) (sym two) (omega (arith, three, some))

  -- after the steps of its piece, and those of the commit word
  piece_says : (page first file at : ℕ) (bytes : List ℕ) (i : ℕ) (part : Part) (word value : ℕ) → 1 ≤ word
      → ((before : Part) → 0 < length before → part_word (run after_line_step (entry_field_steps file (piece_of at (length bytes) page i).at (piece_of at (length bytes) page i).size (count_at (pages_touched at (length bytes) page) i) first) before) 0 word ≡ value)
      → i < pages_touched at (length bytes) page → 0 < length part → part_word (run after_line_step (steps_on i (group_steps page first file at bytes)) part) 0 word ≡ value
  unfolding piece_steps
  piece_says page first file at bytes i part word value some says less line =
      ap (λ list. part_word (run after_line_step list part) 0 word) (group_on page first file at bytes i less)
      ∙ ap (λ now. part_word now 0 word) (run-append after_line_step (lines ++ fields) commit part)
      ∙ loads.kept commit (run after_line_step (lines ++ fields) part) 0 word (commit_leaves i (first + 1) word some)
      ∙ ap (λ now. part_word now 0 word) (run-append after_line_step lines fields part)
      ∙ says (run after_line_step lines part) (let same = loads.lines lines part in omega (arith, same, line))
    where
      lines : List LineStep
      lines = data_steps (piece_bytes bytes (piece_of at (length bytes) page i))

      fields : List LineStep
      fields = entry_field_steps file (piece_of at (length bytes) page i).at (piece_of at (length bytes) page i).size (count_at (pages_touched at (length bytes) page) i) first

      commit : List LineStep
      commit = steps_on i (on_part 0 (durable_store 0 0 (first + 1)))

  pub groups_fit : GroupsFit
  groups_fit page first file at bytes i part some write less = elim (cases_lt 0 (length part)) [
    | inl line ↦
        let two = piece_says page first file at bytes i part 2 (piece_of at (length bytes) page i).at (omega arith) (λ before has. (fields_say file _ _ _ first before has).0) less line in
        let three = piece_says page first file at bytes i part 3 (piece_of at (length bytes) page i).size (omega arith) (λ before has. (fields_say file _ _ _ first before has).1) less line in
        subst (λ x. x % page + part_word (run after_line_step (steps_on i (group_steps page first file at bytes)) part) 0 3 ≤ page) (sym two)
        (subst (λ x. (piece_of at (length bytes) page i).at % page + x ≤ page) (sym three) (piece_page at (length bytes) page some write i less))
    | inr none ↦
        let same = loads.lines (steps_on i (group_steps page first file at bytes)) part in
        blank_fits page (run after_line_step (steps_on i (group_steps page first file at bytes)) part) some (omega (arith, same, none))
  ]
