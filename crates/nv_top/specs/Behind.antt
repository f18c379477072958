-- Behind: what power leaves of the devices of a run of the core.
use Rattle.std.specs.Prelude.{◌≡◌, ℕ, ◌<◌, ◌≤◌, List, [], slice_index_or, Some}
use Rattle.nv_pmem.specs.Rows.{row_words}
use Rattle.nv_pmem.specs.declared.picker.Pick.{Pick}
use Rattle.nv_bench.specs.Benches.{BenchState}
use Rattle.nv_bench.specs.Holding.{Holding, NamedStore}
use Rattle.nv_bench.specs.Powered.{powered}
use Rattle.nv_store.specs.Store.{Store}
use Rattle.nv_open.specs.Lending.{stores_named}
use Rattle.nv_recover.specs.Standing.{files_of}
use Rattle.nv_core.specs.content.StorePages.{store_of_value}
use Rattle.nv_core.specs.log.Written.{IsPart}
use Rattle.nv_core.specs.state.Words.{STORE}
use Rattle.nv_table.specs.state.Layout.{cell_of}
use Rattle.nv_table.specs.state.Views.{PassView, values_of}
use Rattle.nv_mount.specs.WholeWrites.{LeavesWholeWrites}
use Rattle.nv_runner.specs.Faithful.{Basis}
use Rattle.nv_top.specs.Stopping.{HasLostPower}

-- A bench holds at home what the cells of a run kept at its end, as a pass saw it last: the parts of the header and of the entries, and the stores of these names.
pub record HoldsCells (view : PassView) (names : List (List ℕ)) (home : Holding) : Type 0 where
  pub parts : (slot : ℕ) → slot ≤ view.opened.sizes.entries → IsPart (values_of view (cell_of view.opened.sizes slot)) (slice_index_or home.parts slot [])
  pub stores : (file : ℕ) (none : Store) → file < view.opened.sizes.files → store_of_value (values_of view (STORE file)) ≡ Some (slice_index_or (stores_named names home.stores) file none)

-- Power went off behind the run that a pass saw last so, and left the image that the pick names of what that run's cells kept. It recovers to the files after the history of all callers and then the kept ones of their writes in flight,
-- each whole.
pub record HasLostPowerBehind (view : PassView) (pick : Pick) (before : List Pick) (basis : Basis) (many : ℕ) (others : List NamedStore) (bench : BenchState) : Type 0 where
  pub lost : HasLostPower pick before basis many others bench
  pub home : Holding
  pub cells : HoldsCells view basis.names home
  pub power_is : lost.power ≡ powered pick home
  pub whole : LeavesWholeWrites view basis.files basis.names (row_words lost.power.parts) (files_of (stores_named basis.names lost.power.stores))
