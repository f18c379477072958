-- The next name of a header, after those before it.
use Rattle.std.specs.Prelude.{◌≡◌, ℕ, ◌<◌, List, Option, Some, None}
use Rattle.nv_plain.specs.Images.{Image, name_of}
use Rattle.nv_plain.specs.Layouts.{Layout}
use Rattle.nv_header.specs.Heads.{IsGoodName, first_names}
use Rattle.nv_header.specs.declared.head.HeadError.{HeadError}
use Rattle.nv_header.specs.declared.head.HeadError.TheVariants.{Truncated, BadMagic, BadVersion, BadGeometry, BadName, RegionFault, NoMemory}
use Rattle.nv_header.specs.Refusals.{IsBadName}

-- name i is good, and this; or there is none, and it is bad
abbrev pub IsNextName : Layout → Image → List (List ℕ) → ℕ → Option (List ℕ) → Type 0
IsNextName layout image earlier i (Some name) =
    earlier ≡ first_names layout image i → IsGoodName layout image i × (name ≡ name_of layout image i)
IsNextName layout image earlier i None = earlier ≡ first_names layout image i → ¬ (IsGoodName layout image i)

-- all names are good, and these
pub record AreNames (layout : Layout) (image : Image) (count : ℕ) (names : List (List ℕ)) : Type 0 where
  pub good : (i : ℕ) → i < count → IsGoodName layout image i
  pub same : names ≡ first_names layout image count

-- a refusal by the names
abbrev pub IsNameRefusal : Layout → Image → HeadError → Type 0
IsNameRefusal layout image (Truncated found wanted) = ⊥
IsNameRefusal layout image BadMagic = ⊥
IsNameRefusal layout image (BadVersion found) = ⊥
IsNameRefusal layout image (BadGeometry field found) = ⊥
IsNameRefusal layout image (BadName i) = IsBadName layout image i
IsNameRefusal layout image RegionFault = Unit {0}
IsNameRefusal layout image NoMemory = Unit {0}
