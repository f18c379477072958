-- Stored: what lies below a number of the log is in the stores, whatever a power failure leaves.
use Rattle.std.specs.Prelude.{ℕ, ◌≤◌, List}
use Rattle.nv_plain.specs.Files.{Files}
use Rattle.nv_plain.specs.Images.{Image}
use Rattle.nv_plain.specs.Recovered.{recovered}
use Rattle.nv_core.specs.content.StorePages.{HasFiles}
use Rattle.nv_core.specs.crash.CrashImages.{AreImagesOfStores, OpensRegion}
use Rattle.nv_core.specs.crash.PersistentTail.{PersistentTail}
use Rattle.nv_core.specs.log.EntryImages.{IsRegionImage}
use Rattle.nv_core.specs.log.Groups.{Log}
use Rattle.nv_core.specs.log.LogContent.{OpensLog, log_after_run}
use Rattle.nv_core.specs.steps.Opening.{opening}
use Rattle.nv_table.specs.state.Opened.{mount_of, state_of}
use Rattle.nv_table.specs.state.Views.{PassView, values_of}

-- Where parts and stores tell: the mount opened an empty log and a region with these names, over these files.
pub record WasOpened (view : PassView) (files : Files) (names : List (List ℕ)) : Type 0 where
  pub log : OpensLog (mount_of view.opened) (mount_of view.opened).next
  pub files_are : HasFiles (mount_of view.opened).sizes (mount_of view.opened).values files
  pub region : OpensRegion (mount_of view.opened) names

-- There no image, as the pass has seen the mount last, has a persistent tail below this number, so no entry below it is read again; and each byte of a store that isn't durable lies in the piece of an
-- entry that is no lower.
pub record IsStored (view : PassView) (below : ℕ) : Type 0 where
  pub images : (files : Files) (names : List (List ℕ)) (image : Image) (bytes : Files) → WasOpened view files names
      → IsRegionImage view.opened.sizes (values_of view) image → AreImagesOfStores view.opened.sizes (values_of view) bytes → below ≤ (recovered image bytes).first
  pub stores : (files : Files) (names : List (List ℕ)) (log : Log) → WasOpened view files names
      → PersistentTail view.opened.sizes below (log_after_run view.opened.sizes (opening (mount_of view.opened)) view.run log) (state_of view.opened view.run)
