-- Leaving: what a command leaves on its devices.
use Rattle.std.specs.Prelude.{◌≡◌, ℕ, List, ◌++◌, length, map, Option, Some}
use Rattle.nv_plain.specs.Files.{Files}
use Rattle.nv_plain.specs.Layouts.{layout_of}
use Rattle.nv_plain.specs.declared.limits.Version.{Version}
use Rattle.nv_pmem.specs.Part.{Part}
use Rattle.nv_pmem.specs.RowStates.{AreNow}
use Rattle.nv_pmem.specs.Steps as lines
use Rattle.nv_pmem.specs.declared.geometry.Geometry.{Geometry}
use Rattle.nv_bench.specs.Holding.{Holding, named_stores}
use Rattle.nv_bench.specs.Opening.{opened}
use Rattle.nv_header.specs.Needs.{HasLines}
use Rattle.nv_header.specs.Regions.{IsAtRest}
use Rattle.nv_open.specs.Lending.{without_stores}
use Rattle.nv_open.specs.Refusals.{rooms_of}
use Rattle.nv_store.specs.Steps as stores
use Rattle.nv_store.specs.Store.{Store}
use Rattle.nv_recover.specs.Standing.{AreQuietStores, files_of}

-- The parts are a region of this version with these names, at rest with an empty log, and have its lines; the stores hold these files, durable.
pub record AreLeft {X Y : Type 0} (version : Version) (history : X → lines.PartHistory) (held : Y → stores.StoreHistory) (names : List (List ℕ)) (files : Files) (parts : List X) (backing : List Y) : Type 0 where
  pub page : ℕ
  pub entries : ℕ
  pub next : ℕ
  pub now : List Part
  pub now_are : AreNow (map history parts) now
  pub rest : IsAtRest (layout_of version) page entries names next now
  pub long : HasLines (layout_of version) page entries (rooms_of now)
  pub disks : List Store
  pub disks_are : AreNow (map held backing) disks
  pub files_are : files_of disks ≡ files
  pub synced : AreQuietStores disks

-- What a bench holds at the end: a region of this version with these names, at rest with an empty log, which has its lines, and as many parts as it had when
-- it was opened, where this geometry was wanted of a blank one; the stores of these names, which hold these files, durable; and the other stores, as they were.
pub record IsLeft (version : Version) (want : Option Geometry) (names : List (List ℕ)) (files : Files) (was now : Holding) : Type 0 where
  pub page : ℕ
  pub entries : ℕ
  pub next : ℕ
  pub rest : IsAtRest (layout_of version) page entries names next now.parts
  pub long : HasLines (layout_of version) page entries (rooms_of now.parts)
  pub many : length now.parts ≡ length (opened want was.parts)
  pub disks : List Store
  pub stores_are : now.stores ≡ without_stores names was.stores ++ named_stores names disks
  pub files_are : files_of disks ≡ files
  pub synced : AreQuietStores disks

-- a bench tells that it holds that
pub record Leaves (version : Version) (want : Option Geometry) (names : List (List ℕ)) (files : Files) (was : Holding) (told : Option Holding) : Type 0 where
  pub now : Holding
  pub told_is : told ≡ Some now
  pub left : IsLeft version want names files was now
