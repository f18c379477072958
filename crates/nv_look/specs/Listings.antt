-- Listings: what the log of an image has at its committed numbers.
use Rattle.std.specs.Prelude.{◌≡◌, ℕ, List, sum_by}
use Rattle.std.specs.List.{AllZip}
use Rattle.nv_plain.specs.Images.{Image, entry_at, layout_in}
use Rattle.nv_plain.specs.Recovered.{IsGroup, committed, group_numbers}
use Rattle.nv_look.specs.declared.listing.Row.{Row}
use Rattle.nv_look.specs.declared.listing.Row.TheVariants.{Group, Bad}

-- how many bytes the entries of a group have
abbrev pub group_bytes : Image → (leader : ℕ) → ℕ
group_bytes image leader = sum_by (λ number. (entry_at image number).size) (group_numbers image leader)

-- A committed number is listed as the group that it leads, where that meets each rule of the log, and as a bad one where it doesn't.
abbrev pub IsRow : Image → (number : ℕ) → Row → Type 0
IsRow image number (Group leader count file at len) =
    (leader ≡ number) × IsGroup (layout_in image) image number × (count ≡ (entry_at image number).count) × (file ≡ (entry_at image number).file)
    × (at ≡ (entry_at image number).at) × (len ≡ group_bytes image number)
IsRow image number (Bad bad) = (bad ≡ number) × (¬ IsGroup (layout_in image) image number)

-- Each committed number is listed, rising, and nothing else.
abbrev pub IsListing : Image → List Row → Type 0
IsListing image rows = AllZip (IsRow image) (committed image) rows
