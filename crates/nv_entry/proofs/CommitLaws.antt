-- The laws about the steps of a group.
use Rattle.std.proofs.Common.{ℕ, List, length, arith}
use Rattle.nv_plain.specs.Pieces.{pages_touched}
use Rattle.nv_pmem.specs.Part.{Part}
use Rattle.nv_pmem.specs.Rows.{row_after, InEachRowImage}
use Rattle.nv_pmem.proofs.RowLaws.{row_image_of_now}
use Rattle.nv_pmem.proofs.StepLaws.{always_front}
use Rattle.nv_entry.specs.Commits.{AreGroupParts, GroupsAreAtomic, GroupsStayOpen, GroupsStoreNothingElse, GroupsBecomeWhole, GroupsAreLoaded, GroupsEndQuiet}
use Rattle.nv_entry.specs.Group.{group_steps, IsUncommittedOrWhole}
use Rattle.nv_entry.proofs.GroupSteps.{HaveLines, group_always, group_open, group_whole, group_stores, group_quiet}

have_lines : (page at : ℕ) (bytes : List ℕ) (parts : List Part) → AreGroupParts page at bytes parts → HaveLines page (pages_touched at (length bytes) page) parts
have_lines page at bytes parts are = record { long = are.count; has = λ i inside. are.lines i (omega (arith, are.count)) }

pub groups_are_atomic : GroupsAreAtomic
groups_are_atomic page first file at bytes parts steps are open_ =
    always_front row_after (InEachRowImage (IsUncommittedOrWhole page first file at bytes)) (group_steps page first file at bytes) parts
    (group_always page first file at bytes are.page_is parts are.bytes_are (have_lines page at bytes parts are) open_) steps

pub groups_stay_open : GroupsStayOpen
groups_stay_open page first file at bytes parts steps are open_ few = group_open page first file at bytes are.page_is parts steps few open_

pub groups_store_nothing_else : GroupsStoreNothingElse
groups_store_nothing_else page first file at bytes parts steps are =
    group_stores page first file at bytes are.page_is parts steps (omega (arith, are.some, are.count))

pub groups_become_whole : GroupsBecomeWhole
groups_become_whole page first file at bytes parts are open_ =
    group_whole page first file at bytes are.page_is parts are.bytes_are (omega (arith, are.some, are.count)) (have_lines page at bytes parts are) open_

pub groups_are_loaded : GroupsAreLoaded
groups_are_loaded page first file at bytes parts are open_ =
    groups_become_whole page first file at bytes parts are open_ _ (row_image_of_now _)

pub groups_end_quiet : GroupsEndQuiet
groups_end_quiet page first file at bytes parts are quiet =
    group_quiet page first file at bytes are.page_is parts are.count quiet
