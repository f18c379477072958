-- Changes: what a call did to the parts of a region, whichever answer came.
use Rattle.std.specs.Prelude.{◌≡◌, ℕ, List, Vec, Result, Ok, Err, map}
use Rattle.nv_plain.specs.Images.{Image}
use Rattle.nv_pmem.specs.Room.{Room}
use Rattle.nv_pmem.specs.Rows.{RowStep, DidSomeRow, InEachRowImage, EachRowMoment}
use Rattle.nv_pmem.specs.Steps.{PartHistory}
use Rattle.nv_header.specs.declared.region.Region.{Region}

-- The parts are the same devices in the same order, with as many lines. Of these device calls the first so many were made, and
-- at each moment every image had this property.
pub record AreChangedBy {X : Type 0} (history : X → PartHistory) (room : X → Room) (device : X → ℕ) (steps : List RowStep) (P : Image → Type 0) (old new : List X) : Type 0 where
  pub begun : DidSomeRow steps (map history old) (map history new)
  pub moments : EachRowMoment (InEachRowImage P) (map history old) (map history new)
  pub lines : map (λ part. (room part).lines) new ≡ map (λ part. (room part).lines) old
  pub devices : map device new ≡ map device old

-- the parts after a call of `format` or `migrate`, in a region or by themselves
abbrev pub parts_after_format : {L A E : Type 0} {g : _} → Result (Region L g) (Vec L A × E) → List L
parts_after_format (Ok region) = region.parts.items
parts_after_format (Err failed) = failed.0.items

-- and after one of `add_file`
abbrev pub parts_after_adding : {L A E : Type 0} {g : _} → Result (Region L g × ℕ) (Vec L A × E) → List L
parts_after_adding (Ok added) = added.0.parts.items
parts_after_adding (Err failed) = failed.0.items
