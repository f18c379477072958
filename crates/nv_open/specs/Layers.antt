-- Layers: what each step of an opening leaves, said once for the next one that takes it.
use Rattle.std.specs.Prelude.{◌≡◌, ℕ, ◌+◌, ◌<◌, ◌≤◌, true, false, List, [], length, map, All, IfSome}
use Rattle.nv_plain.specs.Files.{Files}
use Rattle.nv_plain.specs.Layouts.{mount_layout, mount_version}
use Rattle.nv_pmem.specs.Moments.{Tells}
use Rattle.nv_pmem.specs.Part.{Part}
use Rattle.nv_pmem.specs.Room.{Room}
use Rattle.nv_pmem.specs.RowStates.{AreNow}
use Rattle.nv_pmem.specs.Rows.{AreQuiet, RowTells}
use Rattle.nv_pmem.specs.Steps as lines
use Rattle.nv_pmem.specs.declared.geometry.Geometry.{Geometry}
use Rattle.nv_store.specs.Steps.{StoreHistory}
use Rattle.nv_store.specs.Store.{IsQuietStore}
use Rattle.nv_bench.specs.Benches.{BenchState, with_faults}
use Rattle.nv_bench.specs.Holding.{NamedStore}
use Rattle.nv_bench.specs.Opening.{is_blank, is_of_version_1}
use Rattle.nv_header.specs.Laws.{HasSpare}
use Rattle.nv_header.specs.Needs.{HasLines}
use Rattle.nv_recover.specs.Telling.{AllTell}
use Rattle.nv_recover.specs.declared.recovering.Recovered.{Recovered}
use Rattle.nv_open.specs.Adding.{all_names, new_names}
use Rattle.nv_open.specs.Begun.{IsNotOpened, IsOpeningBegun, IsRegionOpened, files_behind}
use Rattle.nv_open.specs.Held.{AreUnwritten, HoldFiles, IsRecovered, files_named}
use Rattle.nv_open.specs.Lending.{stores_lent}
use Rattle.nv_open.specs.Refusals.{IsRefusedFor, header_part, rooms_of}
use Rattle.nv_open.specs.Unopened.{GivesBack, HasHeader, HasRest, HasSome, HaveSameLines, InEachImage, IsAtRestWith, IsGood, IsUntouched, RestsUnopened, StandForFiles, StandsAsBefore, StandsOpening, line_counts}
use Rattle.nv_open.specs.declared.error.OpenError.{OpenError}
use Rattle.nv_open.specs.declared.error.OpenError.TheVariants.{Refused}
use Rattle.nv_open.specs.declared.error.Refusal.{Refusal}
use Rattle.nv_open.specs.declared.error.Refusal.TheVariants.{TooManyFiles}

-- ---- before

-- The parts of a region that a bench has lent, and no store yet: they take what an opening stores, and nothing of them or of the stores at home
-- waits for a flush or a sync.
pub record AreLentParts {X : Type 0} (part_history : X → lines.PartHistory) (room : X → Room) (bench : BenchState) (parts : List X) : Type 0 where
  pub is_open : bench.is_open ≡ true
  pub home : bench.lent ≡ []
  pub spare : All HasSpare (map room parts)
  pub quiet : RowTells (map part_history parts) AreQuiet
  pub synced : IfSome bench.told (λ holding. All (λ (named : NamedStore). IsQuietStore named.store) holding.stores)
  pub tell : IfSome bench.told (λ holding. AllTell (map part_history parts))

-- The header of version 1 has the lines that one of a mount's version needs.
abbrev pub HasMountHeader : List Part → Type 0
HasMountHeader parts = is_of_version_1 parts ≡ true → mount_layout.header_lines ≤ length (header_part parts)

-- Parts have the lines that a mount needs of what is made of them: blank ones those of a geometry, and others those of a header.
pub record HasMountLines (geometry : Geometry) (parts : List Part) : Type 0 where
  pub blank : is_blank parts ≡ true → HasLines mount_layout geometry.page geometry.entries (rooms_of parts)
  pub header : HasMountHeader parts

-- ---- a region that is open

-- A region of these names and parts is open: the stores of its names are lent, one each and durable, and its parts tell.
pub record HasStoresOpen {X Y : Type 0} (part_history : X → lines.PartHistory) (store_history : Y → StoreHistory) (old new : BenchState) (before : List X) (stores : List Y) (names : List (List ℕ)) (parts : List X) : Type 0 where
  pub lent : new ≡ with_faults new.faults (stores_lent names old)
  pub one_each : length stores ≡ length names
  pub quiet : All (λ (store : Y). Tells (store_history store) IsQuietStore) stores
  pub tell : IfSome old.told (λ holding. AllTell (map part_history parts))
  pub lines_kept : IfSome old.told (λ holding. HaveSameLines (map part_history before) (map part_history parts))

-- It was recovered, and its stores hold its files.
pub record IsRecoveredOpen {X Y : Type 0} (part_history : X → lines.PartHistory) (store_history : Y → StoreHistory) (old new : BenchState) (before : List X) (stores : List Y) (page entries : ℕ) (names : List (List ℕ)) (next : ℕ) (parts : List X) (found : Recovered) : Type 0 where
  pub devices : HasStoresOpen part_history store_history old new before stores names parts
  pub recovered : RowTells (map part_history before) (λ told. IsRecovered told page entries names next found)
  pub files : IfSome old.told (λ holding. RowTells (map part_history before) (λ told. HoldFiles (map store_history stores) (files_named told names holding.stores)))

-- It was formatted or recovered, and its stores hold its files.
pub record IsBegunOpen {X Y : Type 0} (part_history : X → lines.PartHistory) (store_history : Y → StoreHistory) (old new : BenchState) (before : List X) (stores : List Y) (geometry : Geometry) (page entries : ℕ) (names : List (List ℕ)) (next : ℕ) (parts : List X) : Type 0 where
  pub devices : HasStoresOpen part_history store_history old new before stores names parts
  pub begun : RowTells (map part_history before) (λ told. IsOpeningBegun told geometry page entries names next)
  pub files : IfSome old.told (λ holding. RowTells (map part_history before) (λ told. HoldFiles (map store_history stores) (files_named told names holding.stores)))

-- It has the wanted names too.
pub record IsOpenedOpen {X Y : Type 0} (part_history : X → lines.PartHistory) (store_history : Y → StoreHistory) (old new : BenchState) (before : List X) (stores : List Y) (geometry : Geometry) (wanted : List (List ℕ)) (page entries : ℕ) (names : List (List ℕ)) (next : ℕ) (parts : List X) : Type 0 where
  pub devices : HasStoresOpen part_history store_history old new before stores names parts
  pub known : (known : List (List ℕ)) × (names ≡ all_names known wanted)
  pub opened : IfSome old.told (λ holding. RowTells (map part_history before) (λ told.
      IsRegionOpened (record { parts = told; stores = holding.stores }) geometry wanted page entries names next (map store_history stores)))

-- ---- a region that is not

-- Its recovery failed, and these parts and stores came of it.
pub record IsNotRecovered {X Y : Type 0} (part_history : X → lines.PartHistory) (store_history : Y → StoreHistory) (old new : BenchState) (before back : List X) (stores : List Y) (error : OpenError) : Type 0 where
  pub refused : (why : Refusal) → error ≡ Refused why → RowTells (map part_history before) (λ told. IsRefusedFor told why)
  pub unwritten : (why : Refusal) → error ≡ Refused why → AreUnwritten part_history store_history why old new before back stores
  pub standing : IfSome old.told (λ holding. RowTells (map part_history before) (λ told. HasHeader told
      → GivesBack part_history store_history (StandsAsBefore (record { parts = told; stores = holding.stores })) new back stores))
  pub untouched : IfSome old.told (λ holding. RowTells (map part_history before) (λ told. ¬ (IsGood told)
      → GivesBack part_history store_history (IsUntouched (record { parts = told; stores = holding.stores })) new back stores))

-- It was neither formatted nor recovered, or not carried over to a mount's version.
pub record IsNotBegun {X Y : Type 0} (part_history : X → lines.PartHistory) (store_history : Y → StoreHistory) (old new : BenchState) (before back : List X) (stores : List Y) (geometry : Geometry) (error : OpenError) : Type 0 where
  pub refused : (why : Refusal) → error ≡ Refused why → IfSome old.told (λ holding. RowTells (map part_history before) (λ told. (is_blank told ≡ false) × IsRefusedFor told why))
  pub unwritten : (why : Refusal) → error ≡ Refused why → AreUnwritten part_history store_history why old new before back stores
  pub standing : (wanted : List (List ℕ)) → IfSome old.told (λ holding. RowTells (map part_history before) (λ told. StandForFiles told
      → GivesBack part_history store_history (StandsOpening (line_counts told) geometry (record { parts = told; stores = holding.stores }) wanted) new back stores))
  pub untouched : IfSome old.told (λ holding. RowTells (map part_history before) (λ told. is_blank told ≡ false → ¬ (IsGood told)
      → GivesBack part_history store_history (IsUntouched (record { parts = told; stores = holding.stores })) new back stores))

-- It was not opened with the wanted names.
pub record IsUnopened {X Y : Type 0} (part_history : X → lines.PartHistory) (store_history : Y → StoreHistory) (old new : BenchState) (before back : List X) (stores : List Y) (geometry : Geometry) (wanted : List (List ℕ)) (error : OpenError) : Type 0 where
  pub refused : (why : Refusal) → error ≡ Refused why → IfSome old.told (λ holding. RowTells (map part_history before) (λ told. IsNotOpened told geometry wanted why))
  pub unwritten : (why : Refusal) → error ≡ Refused why → ¬ (why ≡ TooManyFiles) → AreUnwritten part_history store_history why old new before back stores
  pub rests : error ≡ Refused TooManyFiles → IfSome old.told (λ holding. RowTells (map part_history before) (λ told.
      GivesBack part_history store_history (RestsUnopened (record { parts = told; stores = holding.stores }) geometry wanted) new back stores))
  pub standing : IfSome old.told (λ holding. RowTells (map part_history before) (λ told. StandForFiles told
      → GivesBack part_history store_history (StandsOpening (line_counts told) geometry (record { parts = told; stores = holding.stores }) wanted) new back stores))
  pub untouched : IfSome old.told (λ holding. RowTells (map part_history before) (λ told. is_blank told ≡ false → ¬ (IsGood told)
      → GivesBack part_history store_history (IsUntouched (record { parts = told; stores = holding.stores })) new back stores))

-- ---- names that are added to an open region

-- The new ones of the wanted names were added to a region of the known ones, and their stores stand behind those that it had.
pub record HasAdded {X Y : Type 0} (part_history : X → lines.PartHistory) (store_history : Y → StoreHistory) (old new : BenchState) (region_geometry geometry : Geometry) (known wanted names : List (List ℕ)) (region_next next : ℕ) (before parts : List X) (stores_before stores : List Y) : Type 0 where
  pub geometry_is : geometry ≡ region_geometry
  pub names_are : names ≡ all_names known wanted
  pub next_is : next ≡ region_next
  pub more : new ≡ with_faults new.faults (stores_lent (new_names known wanted) old)
  pub files : (files : Files) → HoldFiles (map store_history stores_before) files → IfSome old.told (λ holding. HoldFiles (map store_history stores) (files_behind files (new_names known wanted) holding.stores))
  pub one_each : length stores ≡ length stores_before + length (new_names known wanted)
  pub quiet : All (λ (store : Y). Tells (store_history store) IsQuietStore) stores_before → All (λ (store : Y). Tells (store_history store) IsQuietStore) stores
  pub tell : AllTell (map part_history before) → AllTell (map part_history parts)
  pub lines_kept : HaveSameLines (map part_history before) (map part_history parts)

-- They were not, or not all of them.
pub record HasNotAdded {X Y : Type 0} (part_history : X → lines.PartHistory) (store_history : Y → StoreHistory) (old new : BenchState) (page entries : ℕ) (known wanted : List (List ℕ)) (next : ℕ) (before back : List X) (stores_before stores : List Y) (error : OpenError) : Type 0 where
  pub refused : (why : Refusal) → error ≡ Refused why → (why ≡ TooManyFiles) × (mount_layout.file_limit < length (all_names known wanted))
  pub rests : (files : Files) → HoldFiles (map store_history stores_before) files → error ≡ Refused TooManyFiles → IfSome old.told (λ holding. AllTell (map part_history before)
      → GivesBack part_history store_history (IsAtRestWith mount_version page entries known next files holding.stores) new back stores)
  pub standing : (files : Files) → HoldFiles (map store_history stores_before) files → IfSome old.told (λ holding. (told : List Part) → AreNow (map part_history before) told
      → GivesBack part_history store_history (λ now. InEachImage (HasSome mount_version page entries (length known) (all_names known wanted) (files_behind files (new_names known wanted) holding.stores)) now × HasRest (line_counts told) known holding.stores now) new back stores)
