-- Commits: what the steps of a group make of its parts, one step after another. These laws are for whatever makes the steps, a call
-- or a machine: they speak of no device.
use Rattle.std.specs.Prelude.{◌≡◌, ℕ, ◌+◌, ◌<◌, ◌≤◌, List, [], length, take, slice_index, slice_index_or}
use Rattle.nv_plain.specs.Pieces.{pages_touched}
use Rattle.nv_pmem.specs.Limits.{IsPageSize, entry_lines}
use Rattle.nv_pmem.specs.Part.{Part}
use Rattle.nv_pmem.specs.Room.{Room}
use Rattle.nv_pmem.specs.RoomSteps.{EndWith}
use Rattle.nv_pmem.specs.Rows.{row_after, steps_on, InEachRowImage, AreQuiet, row_words}
use Rattle.nv_pmem.specs.Runs.{run}
use Rattle.nv_entry.specs.Group.{group_steps, IsUncommitted, IsUncommittedOrWhole, IsWholeGroup, StoresOnly, IsReady}

-- There is a part for each piece of a write, with the lines of an entry; the write has a byte, and each of its bytes is one.
pub record AreGroupParts (page at : ℕ) (bytes : List ℕ) (parts : List Part) : Type 0 where
  pub page_is : IsPageSize page
  pub bytes_are : (i : ℕ) → slice_index bytes i < 256
  pub some : 1 ≤ length parts
  pub count : length parts ≡ pages_touched at (length bytes) page
  pub lines : (i : ℕ) → i < length parts → entry_lines page ≤ length (slice_index_or parts i [])

-- none of the group's entries is committed
abbrev pub IsOpen : (page first at : ℕ) → List ℕ → List Part → Type 0
IsOpen page first at bytes parts = InEachRowImage (IsUncommitted first (pages_touched at (length bytes) page)) parts

-- the parts after the first so many steps of the group
abbrev pub after_some : (page first file at : ℕ) → List ℕ → (steps : ℕ) → List Part → List Part
after_some page first file at bytes steps parts = run row_after (take steps (group_steps page first file at bytes)) parts

-- and after all of them
abbrev pub after_group : (page first file at : ℕ) → List ℕ → List Part → List Part
after_group page first file at bytes parts = run row_after (group_steps page first file at bytes) parts

-- After each step the group is there as a whole or not at all.
abbrev pub GroupsAreAtomic : Type 0
GroupsAreAtomic =
    (page first file at : ℕ) (bytes : List ℕ) (parts : List Part) (steps : ℕ)
    → AreGroupParts page at bytes parts → IsOpen page first at bytes parts
    → InEachRowImage (IsUncommittedOrWhole page first file at bytes) (after_some page first file at bytes steps parts)

-- Before the store of its commit word, the third step from the end, none of its entries is committed.
abbrev pub GroupsStayOpen : Type 0
GroupsStayOpen =
    (page first file at : ℕ) (bytes : List ℕ) (parts : List Part) (steps : ℕ)
    → AreGroupParts page at bytes parts → IsOpen page first at bytes parts → steps + 3 ≤ length (group_steps page first file at bytes)
    → IsOpen page first at bytes (after_some page first file at bytes steps parts)

-- After each step an image is one of before, but for the data, the fields and the leader's commit word: this is the old one or the
-- group's, and those of the followers are the old ones.
abbrev pub GroupsStoreNothingElse : Type 0
GroupsStoreNothingElse =
    (page first file at : ℕ) (bytes : List ℕ) (parts : List Part) (steps : ℕ)
    → AreGroupParts page at bytes parts
    → InEachRowImage (StoresOnly page first file at bytes parts) (after_some page first file at bytes steps parts)

-- After all steps the group is there, in each image and as loads give it.
abbrev pub GroupsBecomeWhole : Type 0
GroupsBecomeWhole =
    (page first file at : ℕ) (bytes : List ℕ) (parts : List Part)
    → AreGroupParts page at bytes parts → IsOpen page first at bytes parts
    → InEachRowImage (IsWholeGroup page first file at bytes) (after_group page first file at bytes parts)

abbrev pub GroupsAreLoaded : Type 0
GroupsAreLoaded =
    (page first file at : ℕ) (bytes : List ℕ) (parts : List Part)
    → AreGroupParts page at bytes parts → IsOpen page first at bytes parts
    → IsWholeGroup page first file at bytes (row_words (after_group page first file at bytes parts))

-- And quiet parts are quiet again.
abbrev pub GroupsEndQuiet : Type 0
GroupsEndQuiet =
    (page first file at : ℕ) (bytes : List ℕ) (parts : List Part)
    → AreGroupParts page at bytes parts → AreQuiet parts → AreQuiet (after_group page first file at bytes parts)

-- Whatever room the steps leave, a part that is ready for an entry before them is ready again after them.
abbrev pub GroupsEndReady : Type 0
GroupsEndReady =
    (page first file at : ℕ) (bytes : List ℕ) (i : ℕ) (room : Room)
    → i < pages_touched at (length bytes) page → IsReady page room
    → EndWith (IsReady page) (steps_on i (group_steps page first file at bytes)) room
