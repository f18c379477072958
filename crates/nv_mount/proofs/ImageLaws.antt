-- Laws about the images of what comes out of a mount that is closed.
use Rattle.std.proofs.Common.{◌≡◌, ℕ, ◌+◌, ◌≤◌, List, [], length, get_or, map, sym, ap, subst, ◌∙◌, arith}
use Rattle.std.specs.Prelude.{Option, Some, None}
use Rattle.std.proofs.lemmas.List.{length-map}
use Rattle.nv_plain.specs.Files.{Files, contents_of}
use Rattle.nv_plain.specs.Made.{HistoriesAreMadeRight}
use Rattle.nv_pmem.specs.Part.{Part}
use Rattle.nv_pmem.specs.Room.{Room}
use Rattle.nv_pmem.specs.RowStates.{AreNow, row_tells_from}
use Rattle.nv_pmem.specs.Steps.{PartHistory}
use Rattle.nv_store.specs.Images.{IsStoreImage}
use Rattle.nv_store.specs.Steps.{StoreHistory}
use Rattle.nv_store.specs.Store.{Store}
use Rattle.nv_recover.specs.Standing.{AreStoreImages}
use Rattle.nv_core.specs.steps.Frames.{OwnEventsTell}
use Rattle.nv_core.specs.steps.Opening.{IsMount}
use Rattle.nv_core.specs.invariant.Flights.{FlightsAreNumbered, NoTwoInFlightOfAPage}
use Rattle.nv_core.specs.invariant.InvariantLaws.{RunsAreSound}
use Rattle.nv_core.specs.crash.CrashImages.{AreImagesOfStores, AddedInAnyOrder, FaultsAreFated, RunsKeepRegion, StatesSurviveCrashes}
use Rattle.nv_core.specs.log.LogContent.{GroupsAreInImages, NoOldWordCounts, RunsKeepTheLog}
use Rattle.nv_core.specs.log.Written.{IsPart}
use Rattle.nv_table.specs.invariant.BetweenSteps.{KnowsTaken}
use Rattle.nv_table.specs.state.Layout.{cell_of}
use Rattle.nv_table.specs.state.Opened.{mount_of}
use Rattle.nv_table.specs.state.SlotValues.{present, part_value, store_value}
use Rattle.nv_table.specs.state.Views.{PassView, made_of, values_of}
use Rattle.nv_mount.specs.WholeRuns.{IsWholeRun}
use Rattle.nv_mount.specs.WholeWrites.{CrashesLeaveWholeWrites}
use Rattle.nv_mount.proofs.ClosedFilesLaws.{part_shown, store_shown}
use Rattle.nv_mount.proofs.ListLaws.{now_at, now_many}
use Rattle.nv_mount.proofs.LastStateLaws.{last_log, region_image}
use Rattle.nv_mount.proofs.WholeWriteLaws.{leaves}

abbrev told_or : {S : Type 0} → S → Option S → S
told_or none None = none
told_or none (Some one) = one

module _ {L B : Type 0} (device : L → ℕ) (history : L → PartHistory) (faults : L → ℕ) (room : L → Room) (store_device : B → ℕ) (store_history : B → StoreHistory) (store_faults : B → ℕ)
    (view : PassView) (parts : List L) (stores : List B) (placed tail : ℕ) (parts_many : 1 + view.opened.sizes.entries ≤ length parts) (stores_many : length stores ≡ view.opened.sizes.files)
    (whole : IsWholeRun view (map (part_value device history faults room) parts) (map (store_value store_device store_history store_faults) stores) placed tail)
    (right : HistoriesAreMadeRight) (sound : RunsAreSound) (tell : OwnEventsTell) (keeps : RunsKeepTheLog) (in_images : GroupsAreInImages) (none_old : NoOldWordCounts) (region_stays : RunsKeepRegion) (survive : StatesSurviveCrashes) (fated : FaultsAreFated) (ordered : AddedInAnyOrder)
    (flights : FlightsAreNumbered) (pages : NoTwoInFlightOfAPage) (mount : IsMount (mount_of view.opened)) (zero_is : view.number ≡ 0) (knows : KnowsTaken view) (all : length view.ended ≡ made_of view) where
  part_at : (states : List Part) → AreNow (map history parts) states → (i : ℕ) → i ≤ view.opened.sizes.entries → IsPart (values_of view (cell_of view.opened.sizes i)) (get_or states i [])
  part_at states are i least =
      part_shown device history faults room store_device store_history store_faults view parts stores placed tail parts_many stores_many whole i least (get_or states i [])
      (now_at (map history parts) states are i [] (let long = length-map parts history in omega (arith, parts_many, long, least)))

  store_images : (held : List Store) → AreNow (map store_history stores) held → (bytes : Files) → AreStoreImages held bytes → AreImagesOfStores view.opened.sizes (values_of view) bytes
  store_images held are bytes images =
      let many : length held ≡ view.opened.sizes.files = now_many (map store_history stores) held are ∙ length-map stores store_history ∙ stores_many in
      record {
        count = images.count ∙ many;
        each = λ file store less told.
            let now = now_at (map store_history stores) held are file store (let long = length-map stores store_history in omega (arith, long, stores_many, less)) in
            let shown = store_shown device history faults room store_device store_history store_faults view parts stores placed tail parts_many stores_many whole file less in
            let same : get_or held file store ≡ store = ap (told_or store) (sym (ap present now.is) ∙ sym shown ∙ told) in
            subst (λ (s : Store). IsStoreImage s (contents_of bytes file)) same (images.each file store (omega (arith, many, less)));
      }

  pub whole_writes : CrashesLeaveWholeWrites view (map history parts) (map store_history stores)
  whole_writes files names log opens region =
      row_tells_from (map history parts) _ (λ states are image is.
      row_tells_from (map store_history stores) _ (λ held now bytes images.
      leaves right sound tell in_images none_old survive fated ordered flights pages view mount whole.is_run zero_is knows all files names
      (last_log sound keeps region_stays view mount whole.is_run files names log opens region) image bytes
      (region_image view.opened.sizes (values_of view) states (part_at states are) image is) (store_images held now bytes images)))
