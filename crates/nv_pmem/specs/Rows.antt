-- Rows: parts that are written together. The parts of a row are counted from 0, and the calls on them have one order.
use Rattle.std.specs.Prelude.{◌≡◌, ℕ, ◌≤◌, ◌==◌, if◌then◌else◌, List, [], ◌∷◌, length, map, take, slice_index_or, slice_set}
use Rattle.std.specs.List.{AllZip}
use Rattle.nv_plain.specs.Images.{Image}
use Rattle.nv_pmem.specs.Images.{IsPartImage, IsQuietPart}
use Rattle.nv_pmem.specs.Part.{Part, part_word}
use Rattle.nv_pmem.specs.Room.{Room, Keeps}
use Rattle.nv_pmem.specs.Runs.{run, Ran, RanSome, grown}
use Rattle.nv_pmem.specs.Steps.{LineStep, PartHistory, after_line_step}

-- a step on one part of a row
pub record RowStep : Type 0 where
  pub part : ℕ
  pub step : LineStep

-- the same part for each of some steps
abbrev pub on_part : ℕ → List LineStep → List RowStep
on_part part [] = []
on_part part (step ∷ steps) = record { part = part; step = step } ∷ on_part part steps

-- those of a row's steps that are on this part
abbrev pub steps_on : ℕ → List RowStep → List LineStep
steps_on i [] = []
steps_on i (one ∷ steps) = if i == one.part then one.step ∷ steps_on i steps else steps_on i steps

-- the states of the parts after one more step
abbrev pub row_after : RowStep → List Part → List Part
row_after one parts = slice_set parts one.part (after_line_step one.step (slice_index_or parts one.part []))

-- the histories of the parts after one more step
abbrev pub row_grown : RowStep → List PartHistory → List PartHistory
row_grown one row = slice_set row one.part (grown after_line_step one.step (slice_index_or row one.part []))

-- all of the steps were made, in their order
abbrev pub DidRow : List RowStep → List PartHistory → List PartHistory → Type 0
DidRow steps old new = Ran row_grown steps old new

-- some of the steps were made, in their order: the first so many
abbrev pub DidSomeRow : List RowStep → List PartHistory → List PartHistory → Type 0
DidSomeRow steps old new = RanSome row_grown steps old new

-- the present states, where all devices of a row tell, have a property
abbrev pub RowTells : {S : Type 0} → List (List S) → (List S → Type 0) → Type 0
RowTells [] P = P []
RowTells ([] ∷ row) P = Unit {0}
RowTells ((now ∷ past) ∷ row) P = RowTells row (λ others. P (now ∷ others))

-- the words of the present states of a row, as loads give them
abbrev pub row_words : List Part → Image
row_words parts i = part_word (slice_index_or parts i [])

-- each part of a row is quiet
pub record AreQuiet (parts : List Part) : Type 0 where
  pub each : (i : ℕ) → IsQuietPart (slice_index_or parts i [])

-- An image of a row: one of each of its parts, freely.
pub record IsRowImage (parts : List Part) (image : Image) : Type 0 where
  pub each : (i : ℕ) → IsPartImage (slice_index_or parts i []) (image i)

-- each image of a row has a property
abbrev pub InEachRowImage : (Image → Type 0) → List Part → Type 0
InEachRowImage P parts = (image : Image) → IsRowImage parts image → P image

-- Each moment of a call, where all parts tell, has a property. There is one order of steps that leads from the old histories to
-- the new ones, and the property holds before each of these steps and after the last. Any step may fail and end the call, so a
-- call that makes its steps in another order is found out there.
pub record EachRowMoment (P : List Part → Type 0) (old new : List PartHistory) : Type 0 where
  pub steps : List RowStep
  pub did : DidRow steps old new
  pub each : (count : ℕ) → count ≤ length steps → RowTells (run row_grown (take count steps) old) P

-- Parts were read and not written: they are the same devices in the same states, and no line can take less than before.
pub record AreOnlyRead {P : Type 0} (history : P → PartHistory) (room : P → Room) (device : P → ℕ) (old new : List P) : Type 0 where
  pub histories : map history new ≡ map history old
  pub rooms : AllZip (λ before now. Keeps (room before) (room now)) old new
  pub devices : map device new ≡ map device old
