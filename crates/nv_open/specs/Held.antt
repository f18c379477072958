-- Held: which files a bench stands for, and which the stores that were opened hold.
use Rattle.std.specs.Prelude.{◌≡◌, ℕ, List, [], ◌++◌, map, Option, option_map, IfSome}
use Rattle.nv_plain.specs.Files.{Files}
use Rattle.nv_plain.specs.Images.{header_of}
use Rattle.nv_plain.specs.Recovered.{region_files}
use Rattle.nv_pmem.specs.Part.{Part}
use Rattle.nv_pmem.specs.RowStates.{AreNow}
use Rattle.nv_pmem.specs.Rows.{RowTells, row_words}
use Rattle.nv_pmem.specs.Steps as lines
use Rattle.nv_store.specs.Steps.{StoreHistory}
use Rattle.nv_store.specs.Store.{Store}
use Rattle.nv_bench.specs.Benches.{BenchState, with_faults}
use Rattle.nv_bench.specs.Holding.{Holding, NamedStore, named_stores}
use Rattle.nv_header.specs.Heads.{first_names}
use Rattle.nv_recover.specs.Recovering.{HasFoundAll}
use Rattle.nv_recover.specs.Standing.{AreQuietStores, files_of}
use Rattle.nv_recover.specs.declared.recovering.Recovered.{Recovered}
use Rattle.nv_open.specs.Lending.{stores_named, without_stores, stores_lent}
use Rattle.nv_open.specs.Refusals.{head_image, head_layout, CanBeRead, AreLong}
use Rattle.nv_open.specs.declared.error.Refusal.{Refusal}
use Rattle.nv_open.specs.declared.error.Refusal.TheVariants.{Truncated, BadMagic, BadVersion, BadGeometry, BadName, BadEntry, TooManyFiles}

-- the names that the header says
abbrev pub header_names : List Part → List (List ℕ)
header_names parts = first_names (head_layout parts) (head_image parts) (header_of (head_image parts)).files

-- The files that parts and stores stand for, whose names these are: those of the region, over what the stores of its names hold.
abbrev pub files_named : List Part → List (List ℕ) → List NamedStore → Files
files_named parts names stores = region_files (row_words parts) (files_of (stores_named names stores))

-- Stores tell that they hold these files, and that they are durable.
pub record HoldFiles (row : List StoreHistory) (files : Files) : Type 0 where
  pub held : List Store
  pub are : AreNow row held
  pub files_are : files_of held ≡ files
  pub quiet : AreQuietStores held

-- What is opened of a region that was written before: what its header says, and where recovery found that its log goes on.
pub record IsRecovered (parts : List Part) (page entries : ℕ) (names : List (List ℕ)) (next : ℕ) (found : Recovered) : Type 0 where
  pub readable : CanBeRead parts
  pub long : AreLong parts
  pub page_is : page ≡ (header_of (head_image parts)).page
  pub entries_is : entries ≡ (header_of (head_image parts)).entries
  pub names_are : names ≡ header_names parts
  pub log : HasFoundAll (row_words parts) found
  pub next_is : next ≡ found.next

-- ---- where the region is refused

-- The names whose stores were opened before the refusal: those of the header, where an entry is bad.
abbrev pub names_opened : Refusal → List Part → List (List ℕ)
names_opened (Truncated found wanted) parts = []
names_opened BadMagic parts = []
names_opened (BadVersion found) parts = []
names_opened (BadGeometry field found) parts = []
names_opened (BadName i) parts = []
names_opened (BadEntry number) parts = header_names parts
names_opened TooManyFiles parts = []

-- what a bench holds to which the stores of these names came back: they stand behind the others, also those that weren't there
abbrev pub returned : List (List ℕ) → Holding → Holding
returned names holding = record {
  parts = holding.parts;
  stores = without_stores names holding.stores ++ named_stores names (stores_named names holding.stores);
}

-- What a bench tells after a refusal: that it holds what it did, but that the stores which were opened came back.
abbrev pub told_after : Refusal → Option Holding → Option Holding
told_after why told = option_map (λ holding. returned (names_opened why holding.parts) holding) told

-- Of parts and stores that are lent nothing is written: the parts tell what they told, and the stores what they were lent with.
pub record AreUnwritten {X Y : Type 0} (part_history : X → lines.PartHistory) (store_history : Y → StoreHistory) (why : Refusal) (old new : BenchState) (before now : List X) (stores : List Y) : Type 0 where
  pub parts : map part_history now ≡ map part_history before
  pub lent : RowTells (map part_history before) (λ told. new ≡ with_faults new.faults (stores_lent (names_opened why told) old))
  pub held : IfSome old.told (λ holding. RowTells (map part_history before) (λ told.
      AreNow (map store_history stores) (stores_named (names_opened why told) holding.stores)))
