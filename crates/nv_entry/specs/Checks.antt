-- Checks: which entry of a committed group is the first to break a rule.
use Rattle.std.specs.Prelude.{◌≡◌, ◌⊎◌, ℕ, ◌+◌, ◌^◌, ◌<◌, ◌≤◌, min}
use Rattle.nv_plain.specs.Images.{Image, Entry, header_of, entry_at}
use Rattle.nv_plain.specs.Layouts.{Layout, layout_of}
use Rattle.nv_plain.specs.Recovered.{IsLeader, IsFollower, IsPiece, GoesOn, IsInGroup, IsGroup}
use Rattle.nv_entry.specs.declared.bounds.Bounds.{Bounds}
use Rattle.nv_entry.specs.declared.check.EntryWords.{EntryWords}
use Rattle.nv_entry.specs.declared.check.GroupCheck.{GroupCheck}
use Rattle.nv_entry.specs.declared.check.GroupCheck.TheVariants.{Whole, Bad}

-- a region's header says these bounds
pub record SaysBounds (bounds : Bounds) (image : Image) : Type 0 where
  pub version : (header_of image).version ≡ (layout_of bounds.version).version
  pub page : (header_of image).page ≡ bounds.page
  pub entries : (header_of image).entries ≡ bounds.entries
  pub files : (header_of image).files ≡ bounds.files
  pub tail : (header_of image).tail ≡ bounds.tail

-- an entry as its words read
abbrev pub as_entry : EntryWords → Entry
as_entry words = record {
  commit = words.commit;
  file = words.head.file;
  at = words.head.at;
  size = words.head.size;
  count = words.head.count;
  leader = words.head.leader;
}

-- A number of a committed group meets the rules that are its own: those of a leader or of a follower, of a piece, and of
-- the place behind the entry before it.
pub record IsGood (layout : Layout) (image : Image) (leader number : ℕ) : Type 0 where
  pub leads : number ≡ leader → IsLeader layout image leader
  pub follows : leader < number → IsFollower image leader number
  pub piece : IsPiece layout image leader number
  pub goes_on : (before : ℕ) → leader ≤ before → before + 1 ≡ number → GoesOn image before

-- The least number of a committed group that breaks a rule. Where its leader does, its count says nothing.
pub record IsFirstBad (layout : Layout) (image : Image) (leader number : ℕ) : Type 0 where
  pub among : (number ≡ leader) ⊎ (IsLeader layout image leader × IsInGroup image leader number)
  pub earlier : (before : ℕ) → leader ≤ before → before < number → IsGood layout image leader before
  pub bad : ¬ IsGood layout image leader number

-- what a check of a committed group says
abbrev pub SaysOfGroup : Layout → Image → (leader : ℕ) → GroupCheck → Type 0
SaysOfGroup layout image leader (Whole count) = IsGroup layout image leader × (count ≡ (entry_at image leader).count)
SaysOfGroup layout image leader (Bad number) = IsFirstBad layout image leader number

-- The numbers of a check are those of a group that begins at this leader, whatever the parts tell: a whole group has one entry at least
-- and no more than a group may have, and ends inside the window; a bad number is none before the leader, nor behind such a group.
abbrev pub IsOfGroup : Layout → Bounds → (leader : ℕ) → GroupCheck → Type 0
IsOfGroup layout bounds leader (Whole count) =
    (1 ≤ count) × (count ≤ min layout.group_limit bounds.entries) × (leader + count ≤ min (bounds.tail + bounds.entries) (2 ^ 60))
IsOfGroup layout bounds leader (Bad number) = (leader ≤ number) × (number < leader + min layout.group_limit bounds.entries)

-- a group's leader is of this file, and the bytes of one of its entries end here
pub record GroupEndsAt (image : Image) (leader number leaders_file end_at : ℕ) : Type 0 where
  pub file : (entry_at image leader).file ≡ leaders_file
  pub end : (entry_at image number).at + (entry_at image number).size ≡ end_at
