-- What an image of a region recovers to.
use Rattle.std.specs.Prelude.{◌≡◌, ◌≢◌, ℕ, ◌+◌, ◌*◌, ◌%◌, ◌^◌, ◌<◌, ◌≤◌, ◌==◌, if◌then◌else◌, min, List, filter, fold}
use Rattle.std.specs.List.{flat_map, range_with_len}
use Rattle.nv_plain.specs.Files.{Files, contents_of, with_contents, overwritten}
use Rattle.nv_plain.specs.Layouts.{Layout}
use Rattle.nv_plain.specs.Images.{Image, header_of, slot_part, entry_at, data_of}

-- a number in the window from the tail on, whose entry's commit word is one more
pub record IsCommitted (image : Image) (number : ℕ) : Type 0 where
  pub from_tail : (header_of image).tail ≤ number
  pub in_window : number < (header_of image).tail + (header_of image).entries
  pub commit : (entry_at image number).commit ≡ number + 1

-- a number of a group, as its leader says
pub record IsInGroup (image : Image) (leader number : ℕ) : Type 0 where
  pub first : leader ≤ number
  pub last : number < leader + (entry_at image leader).count

-- what the leader of a committed group has to meet
pub record IsLeader (layout : Layout) (image : Image) (leader : ℕ) : Type 0 where
  pub some : 1 ≤ (entry_at image leader).count
  pub few : (entry_at image leader).count ≤ min layout.group_limit (header_of image).entries
  pub in_window : leader + (entry_at image leader).count ≤ (header_of image).tail + (header_of image).entries
  pub small : leader + (entry_at image leader).count ≤ 2 ^ 60
  pub own : (entry_at image leader).leader ≡ leader

-- what a follower has to meet
pub record IsFollower (image : Image) (leader number : ℕ) : Type 0 where
  pub none : (entry_at image number).count ≡ 0
  pub of : (entry_at image number).leader ≡ leader
  pub uncommitted : (entry_at image number).commit ≢ number + 1

-- what each entry of a group has to meet
pub record IsPiece (layout : Layout) (image : Image) (leader number : ℕ) : Type 0 where
  pub known : (entry_at image number).file < (header_of image).files
  pub same : (entry_at image number).file ≡ (entry_at image leader).file
  pub some : 1 ≤ (entry_at image number).size
  pub in_page : (entry_at image number).at % (header_of image).page + (entry_at image number).size ≤ (header_of image).page
  pub in_file : (entry_at image number).at + (entry_at image number).size ≤ (header_of image).page * layout.page_limit

-- a follower's bytes go where those of the entry before it end
abbrev pub GoesOn : Image → ℕ → Type 0
GoesOn image number =
    (entry_at image (number + 1)).at ≡ (entry_at image number).at + (entry_at image number).size

-- A whole group: each rule on its leader, its followers and its pieces.
pub record IsGroup (layout : Layout) (image : Image) (leader : ℕ) : Type 0 where
  pub first : IsLeader layout image leader
  pub followers : (number : ℕ) → leader < number → IsInGroup image leader number → IsFollower image leader number
  pub pieces : (number : ℕ) → IsInGroup image leader number → IsPiece layout image leader number
  pub in_a_row : (number : ℕ) → leader ≤ number → IsInGroup image leader (number + 1) → GoesOn image number

-- An image fits where each committed number leads a whole group.
abbrev pub Fits : Layout → Image → Type 0
Fits layout image = (leader : ℕ) → IsCommitted image leader → IsGroup layout image leader

-- the committed numbers, rising
abbrev pub committed : Image → List ℕ
committed image =
    filter (λ number. (entry_at image number).commit == number + 1)
    (range_with_len (header_of image).tail (header_of image).entries)

-- the numbers of a group
abbrev pub group_numbers : Image → ℕ → List ℕ
group_numbers image leader = range_with_len leader (entry_at image leader).count

-- the end of the last of these groups, or the tail where there is none
abbrev pub next_after : Image → List ℕ → ℕ
next_after image groups = fold (λ next leader. leader + (entry_at image leader).count) (header_of image).tail groups

-- the files, overwritten by the piece of an entry
abbrev pub with_entry : Image → Files → ℕ → Files
with_entry image files number =
    let entry = entry_at image number in
    with_contents files entry.file
    (overwritten (contents_of files entry.file) entry.at (data_of (slot_part image number) entry.size))

-- What an image recovers to, over what the stores hold.
pub record Recovered : Type 0 where
  -- the tail
  pub first : ℕ
  -- the leaders of the committed groups, rising
  pub groups : List ℕ
  -- the end of the last committed group, or the tail
  pub next : ℕ
  -- the stores' bytes, overwritten by the pieces of the committed groups in rising number
  pub files : Files

abbrev pub recovered : Image → Files → Recovered
recovered image stores =
    let groups = committed image in
    record {
      first = (header_of image).tail;
      groups = groups;
      next = next_after image groups;
      files = fold (with_entry image) stores (flat_map (group_numbers image) groups);
    }

-- a region that isn't formatted: its magic is 0
abbrev pub IsBlank : Image → Type 0
IsBlank image = (header_of image).magic ≡ 0

-- The files that a region stands for, over what its stores hold: a blank one for just that, and another one for the files that
-- it recovers to.
abbrev pub region_files : Image → Files → Files
region_files image stores = if (header_of image).magic == 0 then stores else (recovered image stores).files
