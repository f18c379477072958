-- Begun: what opening makes of the parts that a bench gives, before names are added and after.
use Rattle.std.specs.Prelude.{◌≡◌, ℕ, ◌<◌, true, false, List, [], ◌++◌, length}
use Rattle.nv_plain.specs.Files.{Files}
use Rattle.nv_plain.specs.Layouts.{mount_layout}
use Rattle.nv_pmem.specs.Part.{Part}
use Rattle.nv_pmem.specs.declared.geometry.Geometry.{Geometry}
use Rattle.nv_store.specs.Steps.{StoreHistory}
use Rattle.nv_bench.specs.Holding.{Holding, NamedStore}
use Rattle.nv_bench.specs.Opening.{is_blank}
use Rattle.nv_recover.specs.Standing.{files_of}
use Rattle.nv_recover.specs.declared.recovering.Recovered.{Recovered}
use Rattle.nv_open.specs.Adding.{new_names, all_names}
use Rattle.nv_open.specs.Held.{HoldFiles, IsRecovered, files_named}
use Rattle.nv_open.specs.Lending.{stores_named}
use Rattle.nv_open.specs.Refusals.{IsRefusedFor}
use Rattle.nv_open.specs.declared.error.Refusal.{Refusal}
use Rattle.nv_open.specs.declared.error.Refusal.TheVariants.{TooManyFiles}

-- A blank region becomes one of the geometry that is wanted, with no name.
pub record IsFormatted (geometry : Geometry) (page entries : ℕ) (names : List (List ℕ)) (next : ℕ) : Type 0 where
  pub page_is : page ≡ geometry.page
  pub entries_is : entries ≡ geometry.entries
  pub names_are : names ≡ []
  pub next_is : next ≡ 0

-- Any other one is recovered, and is as its header says.
pub record IsRegionKept (parts : List Part) (page entries : ℕ) (names : List (List ℕ)) (next : ℕ) : Type 0 where
  pub found : Recovered
  pub recovered : IsRecovered parts page entries names next found

-- so it begins
pub record IsOpeningBegun (parts : List Part) (geometry : Geometry) (page entries : ℕ) (names : List (List ℕ)) (next : ℕ) : Type 0 where
  pub formatted : is_blank parts ≡ true → IsFormatted geometry page entries names next
  pub kept : is_blank parts ≡ false → IsRegionKept parts page entries names next

-- files, and behind them those of the stores of these names
abbrev pub files_behind : Files → List (List ℕ) → List NamedStore → Files
files_behind files names stores = record { contents = files.contents ++ (files_of (stores_named names stores)).contents }

-- The files that are there when it is opened: those that the bench stood for, and then what the stores of the new names hold.
abbrev pub files_with : List Part → (known wanted : List (List ℕ)) → List NamedStore → Files
files_with parts known wanted stores = files_behind (files_named parts known stores) (new_names known wanted) stores

-- A region is opened, with the wanted names: those that it had, and behind them those of the wanted ones that are new.
pub record IsRegionOpened (holding : Holding) (geometry : Geometry) (wanted : List (List ℕ)) (page entries : ℕ) (names : List (List ℕ)) (next : ℕ) (row : List StoreHistory) : Type 0 where
  pub known : List (List ℕ)
  pub begun : IsOpeningBegun holding.parts geometry page entries known next
  pub names_are : names ≡ all_names known wanted
  pub files : HoldFiles row (files_with holding.parts known wanted holding.stores)

-- With the wanted names there would be more than a mount's version allows.
pub record HasTooMany (parts : List Part) (geometry : Geometry) (wanted : List (List ℕ)) : Type 0 where
  pub page : ℕ
  pub entries : ℕ
  pub known : List (List ℕ)
  pub next : ℕ
  pub begun : IsOpeningBegun parts geometry page entries known next
  pub many : mount_layout.file_limit < length (all_names known wanted)

-- Why it isn't opened: it isn't blank and is refused, or it would have too many files.
pub record IsNotOpened (parts : List Part) (geometry : Geometry) (wanted : List (List ℕ)) (why : Refusal) : Type 0 where
  pub not_blank : ¬ (why ≡ TooManyFiles) → (is_blank parts ≡ false) × IsRefusedFor parts why
  pub many : why ≡ TooManyFiles → HasTooMany parts geometry wanted
