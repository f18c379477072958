-- Laws about groups: what their steps, all or the first so many, make of parts that tell.
use Rattle.std.proofs.Common.{◌≡◌, ℕ, ◌+◌, ◌≤◌, List, ◌∷◌, All, length, map, sym, subst, ◌∙◌, arith}
use Rattle.std.proofs.lemmas.List.Elements.{All-weaker}
use Rattle.nv_plain.specs.Pieces.{pages_touched}
use Rattle.nv_pmem.specs.Calls.{Seen, EndedWell, EndedBadly, OnOne, EachEnded, OneFailed}
use Rattle.nv_pmem.specs.Limits.{IsPageSize, entry_lines}
use Rattle.nv_pmem.specs.Part.{Part}
use Rattle.nv_pmem.specs.Room.{Room}
use Rattle.nv_pmem.specs.Rows.{on_part, row_after, DidRow, DidSomeRow, RowTells, InEachRowImage, EachRowMoment, row_words, AreQuiet}
use Rattle.nv_pmem.specs.Steps.{PartHistory, durable_store}
use Rattle.nv_pmem.proofs.CallLaws.{failed_front}
use Rattle.nv_pmem.proofs.RowLaws.{row_tells_more, row_tells_both, row_tells_itself, row_tells_did, each_row_moment, row_image_of_now}
use Rattle.nv_pmem.proofs.StepLaws.{Always, always_by_fronts}
use Rattle.nv_entry.specs.Group.{pieces_steps, group_steps, IsReady, IsUncommitted, IsWholeGroup, IsUncommittedOrWhole, StoresOnly}
use Rattle.nv_entry.specs.Uncommitted.{AreUncommitted}
use Rattle.nv_entry.proofs.Data.{AreBytes}
use Rattle.nv_entry.proofs.GroupSteps.{all_pieces, HaveLines, group_always, group_whole, group_stores, group_quiet}
use Rattle.nv_entry.proofs.PartRows.{row_tells_lines}

-- Parts that are ready for the entries of a group.
pub record AreBegun {X : Type 0} (history : X → PartHistory) (room : X → Room) (page at : ℕ) (bytes : List ℕ) (parts : List X) (count : ℕ) : Type 0 where
  pub told : (x : X) (now : Part) (past : PartHistory) → history x ≡ now ∷ past → length now ≡ (room x).lines
  pub is_page : IsPageSize page
  pub are : AreBytes bytes
  pub some : 1 ≤ count
  pub pieces : pages_touched at (length bytes) page ≡ count
  pub long : length parts ≡ count
  pub ready : All (λ x. IsReady page (room x)) parts

module _ {X : Type 0} (history : X → PartHistory) (room : X → Room) (page first file at : ℕ) (bytes : List ℕ) (parts : List X) {count : ℕ} (begun : AreBegun history room page at bytes parts count) where
  tells_lines : RowTells (map history parts) (HaveLines page (pages_touched at (length bytes) page))
  tells_lines =
      row_tells_lines history (λ x. (room x).lines) (entry_lines page) (pages_touched at (length bytes) page) begun.told parts (begun.long ∙ sym begun.pieces)
      (All-weaker (λ x. IsReady page (room x)) (λ x. entry_lines page ≤ (room x).lines) (λ x is. is.lines) parts begun.ready)

  tells_both : AreUncommitted first count (map history parts) → RowTells (map history parts) (λ now. HaveLines page (pages_touched at (length bytes) page) now × InEachRowImage (IsUncommitted first (pages_touched at (length bytes) page)) now)
  tells_both uncommitted =
      let Open : ℕ → Type 0 = λ n. RowTells (map history parts) (InEachRowImage (IsUncommitted first n)) in
      row_tells_both (map history parts) (HaveLines page (pages_touched at (length bytes) page)) (InEachRowImage (IsUncommitted first (pages_touched at (length bytes) page)))
      tells_lines (subst Open (sym begun.pieces) uncommitted)

  -- At each moment the group is there as a whole or not at all, where none of its entries was committed.
  pub parts_moments : AreUncommitted first count (map history parts) → {new : List PartHistory} → DidSomeRow (group_steps page first file at bytes) (map history parts) new
      → EachRowMoment (InEachRowImage (IsUncommittedOrWhole page first file at bytes)) (map history parts) new
  parts_moments uncommitted did =
      let P : List Part → Type 0 = InEachRowImage (IsUncommittedOrWhole page first file at bytes) in
      each_row_moment P
      (row_tells_more (map history parts) _ (Always row_after P (group_steps page first file at bytes))
      (λ now both. group_always page first file at bytes begun.is_page now begun.are both.0 both.1)
      (tells_both uncommitted))
      did

  -- At each moment nothing else is stored.
  pub parts_others : {new : List PartHistory} → DidSomeRow (group_steps page first file at bytes) (map history parts) new
      → RowTells (map history parts) (λ was. EachRowMoment (InEachRowImage (StoresOnly page first file at bytes was)) (map history parts) new)
  parts_others {new} did =
      let group = group_steps page first file at bytes in
      row_tells_more (map history parts) (λ was. RowTells (map history parts) (λ now. now ≡ was))
      (λ was. EachRowMoment (InEachRowImage (StoresOnly page first file at bytes was)) (map history parts) new)
      (λ was same.
      let P : List Part → Type 0 = InEachRowImage (StoresOnly page first file at bytes was) in
      let Along : List Part → Type 0 = Always row_after P group in
      each_row_moment P
      (row_tells_more (map history parts) (λ now. now ≡ was) Along
      (λ now is.
      subst Along (sym is)
      (always_by_fronts row_after P group was (λ steps few. group_stores page first file at bytes begun.is_page was steps (omega (arith, begun.some, begun.pieces)))))
      same)
      did)
      (row_tells_itself (map history parts))

  -- At the end the group is there.
  pub parts_whole : AreUncommitted first count (map history parts) → {new : List PartHistory} → DidRow (group_steps page first file at bytes) (map history parts) new → RowTells new (InEachRowImage (IsWholeGroup page first file at bytes))
  parts_whole uncommitted did =
      row_tells_did _ (InEachRowImage (IsWholeGroup page first file at bytes)) (tells_both uncommitted)
      (λ now both. group_whole page first file at bytes begun.is_page now begun.are (omega (arith, begun.some, begun.pieces)) both.0 both.1)
      did

  -- And it is what the parts read as.
  pub parts_hold : AreUncommitted first count (map history parts) → {new : List PartHistory} → DidRow (group_steps page first file at bytes) (map history parts) new → RowTells new (λ now. IsWholeGroup page first file at bytes (row_words now))
  parts_hold uncommitted {new} did =
      row_tells_more new (InEachRowImage (IsWholeGroup page first file at bytes)) (λ now. IsWholeGroup page first file at bytes (row_words now))
      (λ now whole. whole (row_words now) (row_image_of_now now))
      (parts_whole uncommitted did)

  -- Quiet parts are quiet again.
  pub parts_quiet : {new : List PartHistory} → DidRow (group_steps page first file at bytes) (map history parts) new → RowTells (map history parts) AreQuiet → RowTells new AreQuiet
  parts_quiet did quiet =
      let Lines : List Part → Type 0 = HaveLines page (pages_touched at (length bytes) page) in
      row_tells_did (λ now. Lines now × AreQuiet now) AreQuiet (row_tells_both (map history parts) Lines AreQuiet tells_lines quiet)
      (λ now both. group_quiet page first file at bytes begun.is_page now both.0.long both.1)
      did

-- ---- the entries, and then the commit

-- The calls of a group's entries ended well, or one failed.
module _ (page first file at : ℕ) (bytes : List ℕ) {count : ℕ} {old new : List Seen} (pieces : pages_touched at (length bytes) page ≡ count) where
  pub failed_written : OneFailed (OnOne EndedWell) (OnOne EndedBadly) (pieces_steps page first file at bytes count) old new → OneFailed (OnOne EndedWell) (OnOne EndedBadly) (group_steps page first file at bytes) old new
  unfolding group_steps
  failed_written one =
      let Count : ℕ → Type 0 = λ n. OneFailed (OnOne EndedWell) (OnOne EndedBadly) (pieces_steps page first file at bytes n) old new in
      failed_front (on_part 0 (durable_store 0 0 (first + 1))) (subst Count (sym pieces) one)

  pub all_written : EachEnded (OnOne EndedWell) (pieces_steps page first file at bytes count) old new → EachEnded (OnOne EndedWell) (all_pieces page first file at bytes) old new
  all_written ended =
      let Count : ℕ → Type 0 = λ n. EachEnded (OnOne EndedWell) (pieces_steps page first file at bytes n) old new in
      subst Count (sym pieces) ended
