-- Laws of a mount that is closed: each clause of `close` about what comes out, from what closing its board gives.
use Rattle.std.proofs.Common.{◌≡◌, ℕ, ◌+◌, ◌≤◌, List, drop, length, map, sym, ap, subst}
use Rattle.std.specs.List.{All}
use Rattle.nv_plain.specs.Made.{HistoriesAreMadeRight}
use Rattle.nv_pmem.specs.Room.{Room}
use Rattle.nv_pmem.specs.RowStates.{EachPartHasOne}
use Rattle.nv_pmem.specs.Steps.{PartHistory}
use Rattle.nv_store.specs.Steps.{StoreHistory}
use Rattle.nv_core.specs.steps.Opening.{IsMount}
use Rattle.nv_core.specs.steps.Frames.{OwnEventsTell}
use Rattle.nv_core.specs.invariant.InvariantLaws.{RunsAreSound}
use Rattle.nv_core.specs.content.Content.{RunsKeepContent}
use Rattle.nv_core.specs.crash.CrashImages.{AddedInAnyOrder, FaultsAreFated, RunsKeepRegion, StatesSurviveCrashes}
use Rattle.nv_core.specs.invariant.Flights.{FlightsAreNumbered, NoTwoInFlightOfAPage}
use Rattle.nv_core.specs.crash.EmptyLog.{EmptyLogsRest}
use Rattle.nv_core.specs.log.LogContent.{GroupsAreInImages, NoOldWordCounts, RunsKeepTheLog}
use Rattle.nv_table.specs.ends.Closing.{IsClosed}
use Rattle.nv_table.specs.invariant.BetweenSteps.{KnowsTaken}
use Rattle.nv_table.specs.state.Opened.{Opened, mount_of, IsRunOf}
use Rattle.nv_table.specs.state.SlotValues.{part_value, store_value, slot_value}
use Rattle.nv_table.specs.state.States.{BoardState, PassState, IsOf}
use Rattle.nv_table.specs.state.Views.{made_of}
use Rattle.nv_mount.specs.ClosedAtRest.{HaveFilesWhereEmpty, RestsWhereEmpty}
use Rattle.nv_mount.specs.ClosedFiles.{ReadAsFiles}
use Rattle.nv_mount.specs.OneHistories.{HasOneHistory}
use Rattle.nv_mount.specs.Telling.{AllDevicesTell, DevicesGoOnTelling, IsTelling, KeepLines}
use Rattle.nv_mount.specs.WholeRuns.{IsWholeRun}
use Rattle.nv_mount.specs.WholeWrites.{CrashesLeaveWholeWrites}
use Rattle.nv_mount.proofs.ClosedAtRestLaws.{have_files, rests_where_empty}
use Rattle.nv_mount.proofs.ClosedFilesLaws.{read_as_files}
use Rattle.nv_mount.proofs.HistoryLaws.{one_history}
use Rattle.nv_mount.proofs.TellingLaws.{keep_lines, parts_tell, spares_told, stores_tell}
use Rattle.nv_mount.proofs.WholeRunLaws.{whole_run, parts_many, stores_many}
use Rattle.nv_mount.proofs.ImageLaws.{whole_writes}

module _ {L B : Type 0} (device : L → ℕ) (history : L → PartHistory) (faults : L → ℕ) (room : L → Room) (store_device : B → ℕ) (store_history : B → StoreHistory) (store_faults : B → ℕ)
    (board : BoardState) (pass : PassState) (parts : List L) (stores : List B) (placed tail : ℕ) (of_board : IsOf board pass)
    (closed : IsClosed device store_device (slot_value (part_value device history faults room) (store_value store_device store_history store_faults)) board pass parts stores placed tail)
    (sound : RunsAreSound) (mount : IsMount (mount_of pass.view.opened)) (is_run : IsRunOf pass.view.opened pass.view.run)
    (zero_is : pass.view.number ≡ 0) (knows : KnowsTaken pass.view) (all : length pass.view.ended ≡ made_of pass.view) where
  many_parts : 1 + pass.view.opened.sizes.entries ≤ length parts
  many_parts = parts_many (part_value device history faults room) (store_value store_device store_history store_faults) device store_device board pass parts stores placed tail of_board closed sound mount is_run zero_is knows all

  many_stores : length stores ≡ pass.view.opened.sizes.files
  many_stores = stores_many (part_value device history faults room) (store_value store_device store_history store_faults) device store_device board pass parts stores placed tail of_board closed sound mount is_run zero_is knows all

  pub whole : IsWholeRun pass.view (map (part_value device history faults room) parts) (map (store_value store_device store_history store_faults) stores) placed tail
  whole = whole_run (part_value device history faults room) (store_value store_device store_history store_faults) device store_device board pass parts stores placed tail of_board closed sound mount is_run zero_is knows all

  pub has_one_history : OwnEventsTell → RunsKeepContent → HasOneHistory pass.view placed
  has_one_history tell content = one_history sound pass.view mount is_run zero_is knows all tell content _ _ placed tail whole

  pub reads : RunsKeepTheLog → ReadAsFiles pass.view (map store_history stores) tail
  reads keeps = read_as_files device history faults room store_device store_history store_faults pass.view parts stores placed tail many_parts many_stores whole sound keeps mount

  pub have : HistoriesAreMadeRight → OwnEventsTell → RunsKeepTheLog → RunsKeepRegion → EmptyLogsRest → EachPartHasOne → HaveFilesWhereEmpty pass.view (map store_history stores)
  have right tell keeps region_stays empty each =
      have_files device history faults room store_device store_history store_faults pass.view parts stores placed tail many_parts many_stores whole
      right sound tell keeps region_stays empty each mount zero_is knows all

  pub rests : HistoriesAreMadeRight → OwnEventsTell → RunsKeepTheLog → RunsKeepRegion → EmptyLogsRest → EachPartHasOne → RestsWhereEmpty pass.view (map history parts) (map store_history stores) tail
  rests right tell keeps region_stays empty each =
      rests_where_empty device history faults room store_device store_history store_faults pass.view parts stores placed tail many_parts many_stores whole
      right sound tell keeps region_stays empty each mount zero_is knows all

  pub crash : HistoriesAreMadeRight → OwnEventsTell → RunsKeepTheLog → GroupsAreInImages → NoOldWordCounts → RunsKeepRegion → StatesSurviveCrashes → FaultsAreFated → AddedInAnyOrder → FlightsAreNumbered → NoTwoInFlightOfAPage
      → CrashesLeaveWholeWrites pass.view (map history parts) (map store_history stores)
  crash right tell keeps in_images none_old region_stays survive fated ordered flights pages =
      whole_writes device history faults room store_device store_history store_faults pass.view parts stores placed tail many_parts many_stores whole
      right sound tell keeps in_images none_old region_stays survive fated ordered flights pages mount zero_is knows all

  pub go_on_telling : RunsKeepTheLog → DevicesGoOnTelling pass (map history parts) (map store_history stores)
  go_on_telling keeps files log opens spare =
      let part = part_value device history faults room in
      let store = store_value store_device store_history store_faults in
      let same : board.opened.sizes.entries ≡ pass.view.opened.sizes.entries = ap (λ (o : Opened). o.sizes.entries) (sym of_board.same_mount) in
      let behind : AllDevicesTell (map history (drop (1 + pass.view.opened.sizes.entries) parts)) =
      subst (λ n. AllDevicesTell (map history (drop (1 + n) parts))) same
      (spares_told device history faults room store (drop (1 + board.opened.sizes.entries) parts) (subst (λ values. All IsTelling values) (sym closed.same_spare) spare)) in (
        parts_tell device history faults room store_device store_history store_faults pass.view parts stores placed tail many_parts many_stores whole sound keeps mount files log opens behind,
        stores_tell device history faults room store_device store_history store_faults pass.view parts stores placed tail many_parts many_stores whole sound keeps mount files log opens,
      )

  pub lines_stay : KeepLines pass (map history parts)
  lines_stay =
      let part = part_value device history faults room in
      let same : board.opened.sizes.entries ≡ pass.view.opened.sizes.entries = ap (λ (o : Opened). o.sizes.entries) (sym of_board.same_mount) in
      keep_lines device history faults room store_device store_history store_faults pass.view parts stores placed tail many_parts many_stores whole pass.spare
      (subst (λ n. map part (drop (1 + n) parts) ≡ pass.spare) same closed.same_spare)
