-- The pieces of entries, of groups and of all groups, written to stores that may tell or not.
use Rattle.std.proofs.Common.{◌≡◌, ℕ, ◌+◌, ◌-◌, ◌^◌, ◌<◌, ◌≤◌, List, ◌∷◌, length, take, map, get_or, sym, ap, ◌∙◌, subst, arith}
use Rattle.std.proofs.lemmas.List.{length-map, take_all}
use Rattle.std.specs.Prelude.{fold}
use Rattle.std.specs.List.{range_with_len}
use Rattle.nv_plain.specs.Images.{Image, entry_at}
use Rattle.nv_plain.specs.Recovered.{with_entry, recovered}
use Rattle.nv_pmem.specs.Part.{Part}
use Rattle.nv_pmem.specs.Rows.{RowTells, row_words}
use Rattle.nv_pmem.specs.Steps as lines
use Rattle.nv_pmem.proofs.RowLaws.{row_tells_any, row_tells_more, row_tells_both}
use Rattle.nv_entry.specs.declared.bounds.Bounds.{Bounds}
use Rattle.nv_entry.specs.Checks.{SaysBounds}
use Rattle.nv_store.specs.Steps.{StoreHistory}
use Rattle.nv_store.specs.Store.{Store, IsWholeStore}
use Rattle.nv_pmem.specs.RowStates.{row_tells_at, row_tells_from}
use Rattle.nv_recover.specs.Applying.{AcrossTells, AcrossThroughout, ChangesAtMostOne, IsGroupOf, IsNumberOf, HasPiece, StaysAlike, OneWritten, LeftOrOneTorn}
use Rattle.nv_recover.specs.Changes.{ThroughoutRow}
use Rattle.nv_recover.specs.Groups.{AreGroups, numbers_of}
use Rattle.nv_recover.specs.Standing.{AreQuietStores, RecoverAlike, files_of}
use Rattle.nv_recover.specs.Telling.{AllTell}
use Rattle.nv_recover.specs.declared.group.Group.{Group}
use Rattle.nv_recover.proofs.ApplyLaws.{alike_none, alike_more, alike_left_or_torn, alike_from_quiet, written_files}
use Rattle.nv_recover.proofs.GroupLaws.{number_of, group_of, all_files}
use Rattle.nv_recover.proofs.Present.{presents_long, are_now_same}
use Rattle.nv_recover.proofs.RowMoments.{across_throughout, across_one}
use Rattle.nv_recover.proofs.StoreRows.{row_whole}
use Rattle.nv_recover.proofs.Throughout.{row_throughout_more}

-- stores that nothing was done to
pub unwritten : (parts : List lines.PartHistory) (row : List StoreHistory) (R : Image → List Store → List Store → Type 0) → ((image : Image) (was : List Store) → R image was was) → AcrossTells parts row row R
unwritten parts row R each =
    row_tells_any parts (λ these. RowTells row (λ was. RowTells row (R (row_words these) was)))
    (λ these. row_tells_from row (λ was. RowTells row (R (row_words these) was))
    (λ was are. row_tells_from row (R (row_words these) was)
    (λ now were. subst (R (row_words these) was) (are_now_same row was now are were) (each (row_words these) was))))

-- what the header says of an entry
pub size_within : (row : List lines.PartHistory) (bounds : Bounds) (number : ℕ) → RowTells row (λ parts. SaysBounds bounds (row_words parts)) → RowTells row (λ parts. IsNumberOf (row_words parts) number)
    → RowTells row (λ parts. (entry_at (row_words parts) number).size ≤ bounds.page)
size_within row bounds number says is =
    let Says : List Part → Type 0 = λ parts. SaysBounds bounds (row_words parts) in
    let Is : List Part → Type 0 = λ parts. IsNumberOf (row_words parts) number in
    row_tells_more row (λ parts. Says parts × Is parts) (λ parts. (entry_at (row_words parts) number).size ≤ bounds.page)
    (λ parts both. omega (arith, both.0.page, both.1.piece.in_page))
    (row_tells_both row Says Is says is)

-- no entry names a file that isn't there
pub file_there : (row : List lines.PartHistory) (bounds : Bounds) (number file at : ℕ) (bytes : List ℕ) → bounds.files ≤ file → RowTells row (λ parts. SaysBounds bounds (row_words parts)) → RowTells row (λ parts. IsNumberOf (row_words parts) number)
    → RowTells row (λ parts. HasPiece (row_words parts) number file at bytes) → RowTells row (λ parts. ⊥)
file_there row bounds number file at bytes past says is has =
    let Says : List Part → Type 0 = λ parts. SaysBounds bounds (row_words parts) in
    let Is : List Part → Type 0 = λ parts. IsNumberOf (row_words parts) number in
    let Has : List Part → Type 0 = λ parts. HasPiece (row_words parts) number file at bytes in
    let Both : List Part → Type 0 = λ parts. Is parts × Has parts in
    row_tells_more row (λ parts. Says parts × Both parts) (λ parts. ⊥)
    (λ parts all. omega (arith, all.0.files, all.1.0.piece.known, all.1.1.file_is))
    (row_tells_both row Says Both says (row_tells_both row Is Has is has))

module _ {X : Type 0} (history : X → StoreHistory) (told_whole : (x : X) (now : Store) (past : StoreHistory) → history x ≡ now ∷ past → IsWholeStore now) (row : List lines.PartHistory) (old new : List X) (number file at : ℕ) (bytes : List ℕ) (inside : file < length old) (is : RowTells row (λ parts. IsNumberOf (row_words parts) number)) (has : RowTells row (λ parts. HasPiece (row_words parts) number file at bytes)) where
  both_tell : RowTells row (λ parts. IsNumberOf (row_words parts) number × HasPiece (row_words parts) number file at bytes)
  both_tell =
      let Is : List Part → Type 0 = λ parts. IsNumberOf (row_words parts) number in
      let Has : List Part → Type 0 = λ parts. HasPiece (row_words parts) number file at bytes in
      row_tells_both row Is Has is has

  -- a piece that was written or torn
  pub entry_alike : RowTells (map history old) (λ was. RowTells (map history new) (LeftOrOneTorn file at (length bytes) was)) → AcrossTells row (map history old) (map history new) StaysAlike
  entry_alike torn =
      row_tells_more row (λ parts. IsNumberOf (row_words parts) number × HasPiece (row_words parts) number file at bytes)
      (λ parts. RowTells (map history old) (λ was. RowTells (map history new) (StaysAlike (row_words parts) was)))
      (λ parts both. row_tells_from (map history old) (λ was. RowTells (map history new) (StaysAlike (row_words parts) was))
      (λ was are. row_tells_more (map history new) (LeftOrOneTorn file at (length bytes) was) (StaysAlike (row_words parts) was)
      (λ now done.
      alike_left_or_torn (row_words parts) number file at bytes both.1 was now
      (omega (arith, presents_long (map history old) was are, length-map old history))
      (λ none. row_whole history told_whole old was are file none inside) both.0.among done)
      (row_tells_at (map history old) (λ was. RowTells (map history new) (LeftOrOneTorn file at (length bytes) was)) was are torn)))
      both_tell

  -- one that was written
  pub entry_written : RowTells (map history old) (λ was. RowTells (map history new) (OneWritten file at bytes was))
      → AcrossTells row (map history old) (map history new) (λ image was now. files_of now ≡ with_entry image (files_of was) number)
  entry_written wrote =
      row_tells_more row (λ parts. IsNumberOf (row_words parts) number × HasPiece (row_words parts) number file at bytes)
      (λ parts. RowTells (map history old) (λ was. RowTells (map history new) (λ now. files_of now ≡ with_entry (row_words parts) (files_of was) number)))
      (λ parts both. row_tells_from (map history old) (λ was. RowTells (map history new) (λ now. files_of now ≡ with_entry (row_words parts) (files_of was) number))
      (λ was are. row_tells_more (map history new) (OneWritten file at bytes was) (λ now. files_of now ≡ with_entry (row_words parts) (files_of was) number)
      (λ now done.
      written_files (row_words parts) number file at bytes both.1 was now
      (omega (arith, presents_long (map history old) was are, length-map old history)) done)
      (row_tells_at (map history old) (λ was. RowTells (map history new) (OneWritten file at bytes was)) was are wrote)))
      both_tell

-- ---- groups

pub group_tells_number : (row : List lines.PartHistory) (group : Group) (number : ℕ) → group.leader ≤ number → number < group.leader + group.count → RowTells row (λ parts. IsGroupOf (row_words parts) group) → RowTells row (λ parts. IsNumberOf (row_words parts) number)
group_tells_number row group number low high told =
    row_tells_more row (λ parts. IsGroupOf (row_words parts) group) (λ parts. IsNumberOf (row_words parts) number)
    (λ parts is. number_of (row_words parts) group number low high is) told

-- files after the entries of a group below a number
abbrev pub GroupSoFar : ℕ → ℕ → Image → List Store → List Store → Type 0
GroupSoFar leader number image was now = files_of now ≡ fold (with_entry image) (files_of was) (range_with_len leader (number - leader))

pub group_begun : (leader : ℕ) (image : Image) (was : List Store) → GroupSoFar leader leader image was was
group_begun leader image was =
    let none : leader - leader ≡ 0 = omega arith in
    ap (λ n. fold (with_entry image) (files_of was) (range_with_len leader n)) (sym none)

-- after all of them
pub group_all : (parts : List lines.PartHistory) (old new : List StoreHistory) (group : Group) (number : ℕ) → (group.leader + group.count ≤ 2 ^ 60 → number ≡ group.leader + group.count)
    → RowTells parts (λ these. IsGroupOf (row_words these) group) → AcrossTells parts old new (GroupSoFar group.leader number)
    → AcrossTells parts old new (λ image was now. files_of now ≡ fold (with_entry image) (files_of was) (range_with_len group.leader group.count))
group_all parts old new group number at_end told so_far =
    let Is : List Part → Type 0 = λ these. IsGroupOf (row_words these) group in
    let So_far : List Part → Type 0 = λ these. RowTells old (λ was. RowTells new (GroupSoFar group.leader number (row_words these) was)) in
    let All_of : List Part → Type 0 = λ these. RowTells old (λ was. RowTells new (λ now. files_of now ≡ fold (with_entry (row_words these)) (files_of was) (range_with_len group.leader group.count))) in
    row_tells_more parts (λ these. Is these × So_far these) All_of
    (λ these both.
    let at : number ≡ group.leader + group.count = at_end (omega (arith, both.0.whole.first.small, both.0.count)) in
    let count : number - group.leader ≡ group.count = omega arith in
    let At : ℕ → Type 0 = λ n. RowTells old (λ was. RowTells new (λ now. files_of now ≡ fold (with_entry (row_words these)) (files_of was) (range_with_len group.leader n))) in
    subst At count both.1)
    (row_tells_both parts Is So_far told so_far)

-- ---- all groups

pub groups_tell_group : (row : List lines.PartHistory) (groups : List Group) (i : ℕ) (d : Group) → i < length groups → RowTells row (λ parts. AreGroups (row_words parts) groups) → RowTells row (λ parts. IsGroupOf (row_words parts) (get_or groups i d))
groups_tell_group row groups i d inside told =
    row_tells_more row (λ parts. AreGroups (row_words parts) groups) (λ parts. IsGroupOf (row_words parts) (get_or groups i d))
    (λ parts are. group_of (row_words parts) groups i d inside are) told

-- files after the first so many of some groups
abbrev pub GroupsSoFar : List Group → ℕ → Image → List Store → List Store → Type 0
GroupsSoFar groups i image was now = files_of now ≡ fold (with_entry image) (files_of was) (numbers_of (take i groups))

-- after all of them
pub groups_all : (parts : List lines.PartHistory) (old new : List StoreHistory) (groups : List Group) (i : ℕ) → length groups ≤ i → RowTells parts (λ these. AreGroups (row_words these) groups) → AcrossTells parts old new (GroupsSoFar groups i)
    → AcrossTells parts old new (λ image was now. files_of now ≡ (recovered image (files_of was)).files)
groups_all parts old new groups i over told so_far =
    let Are : List Part → Type 0 = λ these. AreGroups (row_words these) groups in
    let So_far : List Part → Type 0 = λ these. RowTells old (λ was. RowTells new (GroupsSoFar groups i (row_words these) was)) in
    let All_of : List Part → Type 0 = λ these. RowTells old (λ was. RowTells new (λ now. files_of now ≡ (recovered (row_words these) (files_of was)).files)) in
    row_tells_more parts (λ these. Are these × So_far these) All_of
    (λ these both.
    row_tells_more old (λ was. RowTells new (GroupsSoFar groups i (row_words these) was))
    (λ was. RowTells new (λ now. files_of now ≡ (recovered (row_words these) (files_of was)).files))
    (λ was. row_tells_more new (GroupsSoFar groups i (row_words these) was) (λ now. files_of now ≡ (recovered (row_words these) (files_of was)).files)
    (λ now done.
    done
    ∙ ap (λ (some : List Group). fold (with_entry (row_words these)) (files_of was) (numbers_of some)) (take_all i groups over)
    ∙ all_files (row_words these) (files_of was) groups both.0))
    both.1)
    (row_tells_both parts Are So_far told so_far)

-- ---- each moment

-- one call after another
pub alike_throughout : (parts : List lines.PartHistory) (old between new : List StoreHistory) → (AllTell old → AllTell between)
    → AcrossThroughout parts old between StaysAlike → AcrossThroughout parts between new StaysAlike → AcrossThroughout parts old new StaysAlike
alike_throughout parts old between new tells first second =
    across_throughout parts old between new StaysAlike StaysAlike StaysAlike tells (λ image was now alike. alike) alike_more first second

-- an entry after others
pub entry_throughout : (parts : List lines.PartHistory) (old between new : List StoreHistory) → (AllTell old → AllTell between)
    → AcrossThroughout parts old between StaysAlike → ChangesAtMostOne between new → AcrossTells parts between new StaysAlike → AcrossThroughout parts old new StaysAlike
entry_throughout parts old between new tells first one after =
    alike_throughout parts old between new tells first (across_one parts between new StaysAlike alike_none one after)

-- stores that were quiet recover alike
pub quiet_alike : (parts : List lines.PartHistory) (old new : List StoreHistory) → RowTells old AreQuietStores → AcrossThroughout parts old new StaysAlike → AcrossThroughout parts old new RecoverAlike
quiet_alike parts old new quiet alike =
    row_tells_more parts (λ these. RowTells old (λ was. ThroughoutRow (StaysAlike (row_words these) was) old new)) (λ these. RowTells old (λ was. ThroughoutRow (RecoverAlike (row_words these) was) old new))
    (λ these told.
    let image = row_words these in
    row_tells_more old (λ was. AreQuietStores was × ThroughoutRow (StaysAlike image was) old new) (λ was. ThroughoutRow (RecoverAlike image was) old new)
    (λ was both. row_throughout_more (StaysAlike image was) (RecoverAlike image was) (λ now stays. alike_from_quiet image was now both.0 stays) both.1)
    (row_tells_both old AreQuietStores (λ was. ThroughoutRow (StaysAlike image was) old new) quiet told))
    alike
