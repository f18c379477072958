-- Groups: the device calls that write one, and what the parts of its entries then say. The entries of a group, and their parts,
-- are counted from 0, the leader first.
use Rattle.std.specs.Prelude.{◌≡◌, ◌≢◌, ◌⊎◌, ℕ, ◌+◌, ◌*◌, ◌<◌, ◌≤◌, ◌==◌, if◌then◌else◌, List, [], ◌∷◌, ◌++◌, length, take, drop}
use Rattle.std.specs.List.{flat_map, range_with_len}
use Rattle.nv_plain.specs.Files.{padded}
use Rattle.nv_plain.specs.Images.{PartImage, Image, Entry, entry_of, data_of, lines_for}
use Rattle.nv_plain.specs.Pieces.{pages_touched, piece_of, piece_bytes}
use Rattle.nv_pmem.specs.Limits.{entry_lines}
use Rattle.nv_pmem.specs.Part.{Part}
use Rattle.nv_pmem.specs.Room.{Room}
use Rattle.nv_pmem.specs.Rows.{RowStep, on_part, IsRowImage}
use Rattle.nv_pmem.specs.Steps.{LineStep, StoreWord, Flush, Fence, line_stores, durable_store}

-- data line i of some bytes, the last one padded with zeros
abbrev pub data_line : List ℕ → ℕ → List ℕ
data_line bytes i = padded (take 64 (drop (64 * i) bytes)) 64

-- each data line is stored and flushed, from line 1 on
unfoldable pub data_steps : List ℕ → List LineStep
data_steps bytes =
    flat_map (λ i. line_stores (1 + i) (data_line bytes i) ++ Flush (1 + i) ∷ []) (range_with_len 0 (lines_for (length bytes)))

-- then the fields are stored, words 1 to 5 of line 0, and flushed and fenced with the data
unfoldable pub entry_field_steps : (file at size count leader : ℕ) → List LineStep
entry_field_steps file at size count leader =
    StoreWord 0 1 file ∷ StoreWord 0 2 at ∷ StoreWord 0 3 size ∷ StoreWord 0 4 count ∷ StoreWord 0 5 leader ∷ Flush 0 ∷ Fence ∷ []

-- the number of entries that an entry of a group gives: all of them in the leader, none in a follower
abbrev pub count_at : (entries i : ℕ) → ℕ
count_at entries i = if i == 0 then entries else 0

-- the entry of piece i of a write to a file, in a group from number first on, with some commit word
abbrev pub piece_entry : (page first file at : ℕ) → List ℕ → (i commit : ℕ) → Entry
piece_entry page first file at bytes i commit =
    let piece = piece_of at (length bytes) page i in
    record {
      commit = commit;
      file = file;
      at = piece.at;
      size = piece.size;
      count = count_at (pages_touched at (length bytes) page) i;
      leader = first;
    }

-- what is done to the part of that entry before the commit
unfoldable pub piece_steps : (page first file at : ℕ) → List ℕ → ℕ → List LineStep
piece_steps page first file at bytes i =
    let piece = piece_of at (length bytes) page i in
    data_steps (piece_bytes bytes piece)
    ++ entry_field_steps file piece.at piece.size (count_at (pages_touched at (length bytes) page) i) first

-- the first so many entries are written, part by part
unfoldable pub pieces_steps : (page first file at : ℕ) → List ℕ → ℕ → List RowStep
pieces_steps page first file at bytes count =
    flat_map (λ i. on_part i (piece_steps page first file at bytes i)) (range_with_len 0 count)

-- What is done to the parts of a group: each entry is written, and last the leader's commit word, by itself.
unfoldable pub group_steps : (page first file at : ℕ) → List ℕ → List RowStep
group_steps page first file at bytes =
    pieces_steps page first file at bytes (pages_touched at (length bytes) page) ++ on_part 0 (durable_store 0 0 (first + 1))

-- none of so many entries is committed: no commit word is its entry's number and one
abbrev pub IsUncommitted : (first count : ℕ) → Image → Type 0
IsUncommitted first count image = (i : ℕ) → i < count → (entry_of (image i)).commit ≢ first + i + 1

-- A part holds the entry of piece i of a write, with whatever commit word.
pub record HoldsEntry (page first file at : ℕ) (bytes : List ℕ) (i : ℕ) (part : PartImage) : Type 0 where
  pub fields : entry_of part ≡ piece_entry page first file at bytes i (entry_of part).commit
  pub bytes_are : data_of part (piece_of at (length bytes) page i).size ≡ piece_bytes bytes (piece_of at (length bytes) page i)

-- A whole group: its leader is committed, no follower is by itself, and each part holds its entry.
pub record IsWholeGroup (page first file at : ℕ) (bytes : List ℕ) (image : Image) : Type 0 where
  pub committed : (entry_of (image 0)).commit ≡ first + 1
  pub followers : (i : ℕ) → 1 ≤ i → i < pages_touched at (length bytes) page → (entry_of (image i)).commit ≢ first + i + 1
  pub entries : (i : ℕ) → i < pages_touched at (length bytes) page → HoldsEntry page first file at bytes i (image i)

-- a group is there as a whole or not at all
abbrev pub IsUncommittedOrWhole : (page first file at : ℕ) → List ℕ → Image → Type 0
IsUncommittedOrWhole page first file at bytes image =
    IsUncommitted first (pages_touched at (length bytes) page) image ⊎ IsWholeGroup page first file at bytes image

-- An image is one of earlier states, but for what a group's writing stores: the data, the fields, and the leader's commit word.
pub record StoresOnly (page first file at : ℕ) (bytes : List ℕ) (was : List Part) (image : Image) : Type 0 where
  pub before : Image
  pub is : IsRowImage was before
  pub leader : (image 0 0 0 ≡ before 0 0 0) ⊎ (image 0 0 0 ≡ first + 1)
  pub followers : (i : ℕ) → 1 ≤ i → i < pages_touched at (length bytes) page → image i 0 0 ≡ before i 0 0
  pub behind_fields : (i word : ℕ) → i < pages_touched at (length bytes) page → 6 ≤ word → image i 0 word ≡ before i 0 word
  pub behind_data : (i line word : ℕ) → i < pages_touched at (length bytes) page
      → lines_for (piece_of at (length bytes) page i).size < line → image i line word ≡ before i line word

-- there is room in an entry's part for its lines, and each can take a whole entry's stores
pub record IsReady (page : ℕ) (room : Room) : Type 0 where
  pub lines : entry_lines page ≤ room.lines
  pub spare : (line : ℕ) → line < entry_lines page → 15 ≤ room.spare line
