-- Closed at rest: what comes out of a mount that is closed where its log is empty.
use Rattle.std.specs.Prelude.{◌≡◌, ℕ, ◌+◌, List, [], take, All}
use Rattle.nv_plain.specs.Files.{Files}
use Rattle.nv_plain.specs.Histories.{after}
use Rattle.nv_plain.specs.Layouts.{mount_layout}
use Rattle.nv_plain.specs.Recovered.{committed}
use Rattle.nv_pmem.specs.Moments.{Tells}
use Rattle.nv_pmem.specs.Rows.{RowTells, InEachRowImage}
use Rattle.nv_pmem.specs.Steps.{PartHistory}
use Rattle.nv_store.specs.Steps.{StoreHistory}
use Rattle.nv_store.specs.Store.{IsQuietStore}
use Rattle.nv_header.specs.Regions.{IsAtRest}
use Rattle.nv_core.specs.state.Words.{Sizes, STOP, HEAD, TAIL}
use Rattle.nv_core.specs.content.Content.{Opens}
use Rattle.nv_core.specs.crash.CrashImages.{OpensRegion}
use Rattle.nv_core.specs.log.LogContent.{OpensLog}
use Rattle.nv_table.specs.invariant.Idle.{TakenHoldNothing}
use Rattle.nv_table.specs.state.Opened.{mount_of}
use Rattle.nv_table.specs.state.Views.{PassView, pass_of}
use Rattle.nv_mount.specs.LoneWords.{word_then}
use Rattle.nv_mount.specs.Telling.{StoresHave}
use Rattle.nv_mount.specs.WholeRuns.{history_then}

-- A pass has left the log empty: no cell is held by it or by one that it took in, and after its last step TAIL is HEAD and STOP is 0.
pub record HasEmptiedLog (view : PassView) : Type 0 where
  pub owned : (pass_of view).owned ≡ []
  pub taken : TakenHoldNothing view
  pub none : word_then view TAIL ≡ word_then view HEAD
  pub going : word_then view STOP ≡ 0

-- The stores have these files, and are durable. The parts of the header and of the entries are a region at rest with these names, which goes on with
-- this number: they are quiet, and no image of them has a committed number.
pub record AreAtRest (sizes : Sizes) (names : List (List ℕ)) (files : Files) (parts : List PartHistory) (stores : List StoreHistory) (next : ℕ) : Type 0 where
  pub have : StoresHave stores files
  pub durable : All (λ history. Tells history IsQuietStore) stores
  pub region : RowTells (take (1 + sizes.entries) parts) (IsAtRest mount_layout sizes.page sizes.entries names next)
  pub none : RowTells (take (1 + sizes.entries) parts) (InEachRowImage (λ image. committed image ≡ []))

-- the files after the history as a pass saw it last
abbrev pub files_then : PassView → Files → Files
files_then view files = after (history_then view) files

-- Where no number is in the log of a mount, and neither pass 0 nor one that it took in holds a cell, the stores that come out have the files after the history, whatever STOP says.
abbrev pub HaveFilesWhereEmpty : PassView → (stores : List StoreHistory) → Type 0
HaveFilesWhereEmpty view stores =
    (files : Files) → OpensLog (mount_of view.opened) view.opened.next → Opens (mount_of view.opened) files
    → (pass_of view).owned ≡ [] → TakenHoldNothing view → word_then view TAIL ≡ word_then view HEAD → StoresHave stores (files_then view files)

-- Where pass 0 has left the log of a mount empty, the stores that come out have the files after the history, and stores and parts are at rest.
abbrev pub RestsWhereEmpty : PassView → (parts : List PartHistory) (stores : List StoreHistory) (tail : ℕ) → Type 0
RestsWhereEmpty view parts stores tail =
    (files : Files) (names : List (List ℕ)) → OpensLog (mount_of view.opened) view.opened.next → Opens (mount_of view.opened) files
    → OpensRegion (mount_of view.opened) names → HasEmptiedLog view → AreAtRest view.opened.sizes names (files_then view files) parts stores tail
