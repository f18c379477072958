-- Walks: what has been listed of a log so far.
use Rattle.std.specs.Prelude.{◌≡◌, ℕ, ◌-◌, List, filter}
use Rattle.std.specs.List.{AllZip, range_with_len}
use Rattle.nv_plain.specs.Images.{Image, header_of, entry_at, layout_in}
use Rattle.nv_plain.specs.Recovered.{IsGroup}
use Rattle.nv_recover.specs.Finding.{commits_at}
use Rattle.nv_look.specs.Listings.{IsRow}
use Rattle.nv_look.specs.declared.listing.Row.{Row}

-- The rows are those of the committed numbers from the tail up to this one.
pub record HasListed (image : Image) (tail number : ℕ) (rows : List Row) : Type 0 where
  pub tail_is : (header_of image).tail ≡ tail
  pub listed : AllZip (IsRow image) (filter (commits_at image) (range_with_len tail (number - tail))) rows

-- a number leads a whole group of so many entries
abbrev pub IsWholeWalk : Image → (leader count : ℕ) → Type 0
IsWholeWalk image leader count = IsGroup (layout_in image) image leader × (count ≡ (entry_at image leader).count)
