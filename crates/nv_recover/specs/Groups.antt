-- Groups: what a walk over the log finds.
use Rattle.std.specs.Prelude.{◌≡◌, ℕ, ◌≤◌, List, map, All}
use Rattle.std.specs.List.{flat_map, range_with_len}
use Rattle.nv_plain.specs.Images.{Image, entry_at, layout_in}
use Rattle.nv_plain.specs.Layouts.{Layout}
use Rattle.nv_plain.specs.Recovered.{IsCommitted, Fits, committed}
use Rattle.nv_entry.specs.Checks.{IsFirstBad}
use Rattle.nv_recover.specs.declared.group.Group.{Group}

-- the leaders of some groups
abbrev pub leaders_of : List Group → List ℕ
leaders_of groups = map (λ group. group.leader) groups

-- the numbers of their entries
abbrev pub numbers_of : List Group → List ℕ
numbers_of groups = flat_map (λ group. range_with_len group.leader group.count) groups

-- An image fits, and these are its committed groups, rising.
pub record AreGroups (image : Image) (groups : List Group) : Type 0 where
  pub fits : Fits (layout_in image) image
  pub leaders : leaders_of groups ≡ committed image
  pub counts : All (λ group. group.count ≡ (entry_at image group.leader).count) groups

-- Of all entries of committed groups this number is the least that breaks a rule.
pub record IsLeastBad (layout : Layout) (image : Image) (number : ℕ) : Type 0 where
  pub leader : ℕ
  pub commits : IsCommitted image leader
  pub breaks : IsFirstBad layout image leader number
  pub least : (other bad : ℕ) → IsCommitted image other → IsFirstBad layout image other bad → number ≤ bad

-- An image that fits has no such number.
abbrev pub FittingHasNoBad : Type 0
FittingHasNoBad = (layout : Layout) (image : Image) (number : ℕ) → Fits layout image → ¬ IsLeastBad layout image number
