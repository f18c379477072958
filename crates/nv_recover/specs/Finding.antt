-- A walk over the log: which groups it has found so far.
use Rattle.std.specs.Prelude.{◌≡◌, ℕ, ◌+◌, ◌-◌, ◌<◌, ◌==◌, Bool, List, All, filter}
use Rattle.std.specs.List.{range_with_len}
use Rattle.nv_plain.specs.Images.{Image, header_of, entry_at, layout_in}
use Rattle.nv_plain.specs.Recovered.{IsCommitted, IsGroup}
use Rattle.nv_recover.specs.Groups.{leaders_of}
use Rattle.nv_recover.specs.declared.group.Group.{Group}

-- whether a number is committed, where it is in the window
abbrev pub commits_at : Image → ℕ → Bool
commits_at image number = (entry_at image number).commit == number + 1

-- What a walk has found of the numbers from the tail up to this one.
pub record HasFound (image : Image) (tail number : ℕ) (groups : List Group) : Type 0 where
  pub tail_is : (header_of image).tail ≡ tail
  pub fits : (leader : ℕ) → IsCommitted image leader → leader < number → IsGroup (layout_in image) image leader
  pub leaders : leaders_of groups ≡ filter (commits_at image) (range_with_len tail (number - tail))
  pub counts : All (λ group. group.count ≡ (entry_at image group.leader).count) groups
