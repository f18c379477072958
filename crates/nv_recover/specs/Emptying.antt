-- Emptying: what the parts of a region come to while its log is emptied.
use Rattle.std.specs.Prelude.{◌≡◌, ◌≢◌, ◌⊎◌, ℕ, ◌+◌, ◌<◌, ◌≤◌, List}
use Rattle.nv_plain.specs.Images.{Image, PartImage, header_of, entry_of}
use Rattle.nv_plain.specs.Layouts.{Layout, layout_of}
use Rattle.nv_plain.specs.Recovered.{IsCommitted}
use Rattle.nv_pmem.specs.Images.{InEachPartImage, IsQuietPart}
use Rattle.nv_pmem.specs.Moments.{Tells}
use Rattle.nv_pmem.specs.Part.{Part, part_word}
use Rattle.nv_entry.specs.declared.bounds.Bounds.{Bounds}
use Rattle.nv_header.specs.Regions.{ReadsAs, HasEmptyLog}
use Rattle.nv_recover.specs.Alike.{SayTheSame}

-- what a call makes of a device's state, where the device tells
abbrev pub BothTell : {S : Type 0} → List S → List S → (S → S → Type 0) → Type 0
BothTell old new R = Tells old (λ was. Tells new (R was))

-- A part's words are those of before, but that its commit word may be 0 where it was greater than this.
pub record IsTrimmed (most : ℕ) (was image : PartImage) : Type 0 where
  pub others : (line word : ℕ) → (line ≢ 0) ⊎ (word ≢ 0) → image line word ≡ was line word
  pub commit : (image 0 0 ≡ was 0 0) ⊎ ((image 0 0 ≡ 0) × (most < was 0 0))

-- whatever a power failure leaves of a part that was quiet is trimmed at most
abbrev pub MayBeTrimmed : ℕ → Part → Part → Type 0
MayBeTrimmed most was now = IsQuietPart was → InEachPartImage (IsTrimmed most (part_word was)) now

-- a part that was quiet is so, and its commit word isn't greater than this
abbrev pub HasSmallWord : ℕ → Part → Part → Type 0
HasSmallWord most was now = IsQuietPart was → IsQuietPart now × (part_word now 0 0 ≤ most)

-- No entry has a commit word past the window of the tail.
pub record HasNoneAbove (image : Image) : Type 0 where
  pub low : (slot : ℕ) → 1 ≤ slot → slot ≤ (header_of image).entries
      → (entry_of (image slot)).commit ≤ (header_of image).tail + (header_of image).entries

-- no number from this one on is committed
abbrev pub CommitsNoneFrom : ℕ → Image → Type 0
CommitsNoneFrom next image = (number : ℕ) → next ≤ number → ¬ IsCommitted image number

-- the header can be read, and it says these bounds and names
abbrev pub SaysBoundsAndNames : Bounds → List (List ℕ) → Image → Type 0
SaysBoundsAndNames bounds names image = ReadsAs (layout_of bounds.version) bounds.page bounds.entries names bounds.tail image

-- an image says the same of the log as another, or the log is empty and goes on with this number
abbrev pub SaysTheSameOrEmpty : Layout → (page entries : ℕ) → List (List ℕ) → (next : ℕ) → Image → Image → Type 0
SaysTheSameOrEmpty layout page entries names next was image =
    SayTheSame was image ⊎ HasEmptyLog layout page entries names next image
