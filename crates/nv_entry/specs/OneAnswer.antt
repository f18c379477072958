-- One answer: a committed group is whole, or one number is its first bad one.
use Rattle.std.specs.Prelude.{◌≡◌, ℕ}
use Rattle.nv_plain.specs.Images.{Image}
use Rattle.nv_plain.specs.Layouts.{Layout}
use Rattle.nv_plain.specs.Recovered.{IsGroup}
use Rattle.nv_entry.specs.Checks.{IsFirstBad}

-- A whole group has no bad number.
abbrev pub WholeIsNotBad : Type 0
WholeIsNotBad =
    (layout : Layout) (image : Image) (leader number : ℕ) → IsGroup layout image leader → ¬ IsFirstBad layout image leader number

-- And no group has two first ones.
abbrev pub IsBadOnce : Type 0
IsBadOnce =
    (layout : Layout) (image : Image) (leader one other : ℕ)
    → IsFirstBad layout image leader one → IsFirstBad layout image leader other → one ≡ other
