-- Looking: what is shown of a region, and what a bench tells to which all came back.
use Rattle.std.specs.Prelude.{◌≡◌, ℕ, List, length, map, take, Option, option_map, IfSome}
use Rattle.nv_plain.specs.Files.{Files}
use Rattle.nv_plain.specs.Images.{layout_in}
use Rattle.nv_plain.specs.Layouts.{layout_of}
use Rattle.nv_plain.specs.Recovered.{Fits}
use Rattle.nv_pmem.specs.Part.{Part}
use Rattle.nv_pmem.specs.RowStates.{AreNow}
use Rattle.nv_pmem.specs.Rows.{RowTells, row_words}
use Rattle.nv_pmem.specs.Steps as lines
use Rattle.nv_store.specs.Steps.{StoreHistory}
use Rattle.nv_bench.specs.Benches.{BenchState, with_faults}
use Rattle.nv_bench.specs.Holding.{Holding}
use Rattle.nv_header.specs.Heads.{IsHeadOf}
use Rattle.nv_header.specs.declared.head.Head.{Head}
use Rattle.nv_look.specs.Texts.{IsLookText}
use Rattle.nv_look.specs.declared.error.LookError.{LookError}
use Rattle.nv_look.specs.declared.error.LookError.TheVariants as looks
use Rattle.nv_open.specs.Held.{header_names, returned}
use Rattle.nv_open.specs.Lending.{stores_lent, stores_named}
use Rattle.nv_open.specs.Refusals.{AreLong, header_part, head_image}
use Rattle.nv_open.specs.declared.error.OpenError.{OpenError}
use Rattle.nv_open.specs.declared.error.OpenError.TheVariants as error

-- why a region isn't shown that can be read
abbrev pub of_looking : LookError → OpenError
of_looking looks.RegionFault = error.Fault
of_looking looks.NoMemory = error.NoMemory

-- The text shows the region of these parts, with these files: its header can be read, whatever version it is of, and the lines that it says are there.
pub record ShowsRegion (parts : List Part) (files : List (List ℕ)) (text : List ℕ) : Type 0 where
  pub head : Head
  pub says : IsHeadOf (layout_of head.version) (length (header_part parts)) (head_image parts) head
  pub long : AreLong parts
  pub text_is : IsLookText head (row_words parts) files text

-- It shows the region with its files, and each committed number leads a whole group.
pub record ShowsFiles (parts : List Part) (files : Files) (text : List ℕ) : Type 0 where
  pub fits : Fits (layout_in (row_words parts)) (row_words parts)
  pub shown : ShowsRegion parts files.contents text

-- the first so many names of a region
abbrev pub names_until : ℕ → List Part → List (List ℕ)
names_until count parts = take count (header_names parts)

-- What a bench tells to which the stores of those names came back that its parts say so: all devices are in the states that they
-- were in, and those stores stand behind the others.
abbrev pub told_by : (names : List Part → List (List ℕ)) → Option Holding → Option Holding
told_by names told = option_map (λ holding. returned (names holding.parts) holding) told

-- The stores of those names are lent that the parts say so, in the states that they were in at home.
pub record HasLentBy {X Y : Type 0} (part_history : X → lines.PartHistory) (store_history : Y → StoreHistory) (names : List Part → List (List ℕ)) (old new : BenchState) (parts : List X) (stores : List Y) : Type 0 where
  pub lent_names : List (List ℕ)
  pub are : RowTells (map part_history parts) (λ told. lent_names ≡ names told)
  pub lent : new ≡ with_faults new.faults (stores_lent lent_names old)
  pub one_each : length stores ≡ length lent_names
  pub told : IfSome old.told (λ holding. AreNow (map store_history stores) (stores_named lent_names holding.stores))
