-- Laws about what the stores of a closed mount read as.
use Rattle.std.proofs.Common.{◌≡◌, ℕ, ◌+◌, ◌-◌, ◌<◌, ◌≤◌, ◌++◌, false, List, [], get_or, length, map, sym, ap, subst, ◌∙◌, arith}
use Rattle.nv_plain.specs.Files.{Files}
use Rattle.nv_plain.specs.Made.{after_calls, made_calls}
use Rattle.std.specs.Prelude.{Some}
use Rattle.nv_pmem.specs.Part.{Part}
use Rattle.nv_pmem.specs.Room.{Room}
use Rattle.nv_pmem.specs.RowStates.{IsNow}
use Rattle.nv_pmem.specs.Steps.{PartHistory}
use Rattle.nv_store.specs.Steps.{StoreHistory}
use Rattle.nv_core.specs.state.Values.{Bare}
use Rattle.nv_core.specs.state.Words.{Sizes, HEAD, TAIL, STORE}
use Rattle.nv_core.specs.state.Core.{Core}
use Rattle.nv_core.specs.log.Groups.{Log}
use Rattle.nv_core.specs.invariant.InvariantLaws.{RunsAreSound}
use Rattle.nv_core.specs.log.LivePieces.{store_files, to_place, rising, call_if, is_live, piece_call, LivePieces}
use Rattle.nv_core.specs.log.LogContent.{RunsKeepTheLog}
use Rattle.nv_core.specs.log.Written.{IsPart}
use Rattle.nv_core.specs.steps.Opening.{IsMount}
use Rattle.nv_core.specs.content.StorePages.{store_of_value}
use Rattle.nv_table.specs.state.Layout.{cell_of}
use Rattle.nv_table.specs.state.Opened.{mount_of}
use Rattle.nv_table.specs.state.SlotValues.{present, part_value, store_value}
use Rattle.nv_table.specs.state.Views.{PassView, values_of}
use Rattle.nv_mount.specs.ClosedFiles.{ReadAsFiles}
use Rattle.nv_mount.specs.WholeRuns.{IsWholeRun}
use Rattle.nv_mount.proofs.WholeRunLaws.{there}

-- an empty log has no live piece
pub no_pieces : (sizes : Sizes) (log : Log) (opened : Files) (core : Core) → LivePieces sizes log opened core → core.words TAIL ≡ core.words HEAD
    → after_calls (made_calls opened core.history ++ to_place core) opened ≡ store_files sizes core.values
no_pieces sizes log opened core live none =
    let zero : core.words HEAD - core.words TAIL ≡ 0 = omega (arith, none) in
    live.files
    ∙ ap (λ n. after_calls (rising (λ number. call_if (is_live sizes log core number) (piece_call sizes (log.group number) number)) (core.words TAIL) n) (store_files sizes core.values)) zero

module _ {L B : Type 0} (device : L → ℕ) (history : L → PartHistory) (faults : L → ℕ) (room : L → Room) (store_device : B → ℕ) (store_history : B → StoreHistory) (store_faults : B → ℕ)
    (view : PassView) (parts : List L) (stores : List B) (placed tail : ℕ) (parts_many : 1 + view.opened.sizes.entries ≤ length parts) (stores_many : length stores ≡ view.opened.sizes.files)
    (whole : IsWholeRun view (map (part_value device history faults room) parts) (map (store_value store_device store_history store_faults) stores) placed tail) where
  -- what comes out as a store shows what its cell kept at last
  pub store_shown : (file : ℕ) → file < view.opened.sizes.files → store_of_value (values_of view (STORE file)) ≡ present (get_or (map store_history stores) file [])
  store_shown file less =
      let one = there (store_value store_device store_history store_faults) store_history Bare [] stores file (omega (arith, stores_many, less)) in
      ap store_of_value (sym (whole.stores_show file less) ∙ one.2) ∙ ap present (sym one.3)

  -- and as a part
  pub part_shown : (i : ℕ) → i ≤ view.opened.sizes.entries → (state : Part) → IsNow (get_or (map history parts) i []) state → IsPart (values_of view (cell_of view.opened.sizes i)) state
  part_shown i least state now =
      let one = there (part_value device history faults room) history Bare [] parts i (omega (arith, parts_many, least)) in
      let told : present (history one.0) ≡ Some state = ap present (sym one.3 ∙ now.is) in
      subst (λ value. IsPart value state) (sym one.2 ∙ whole.parts_show i least) told

  pub read_as_files : RunsAreSound → RunsKeepTheLog → IsMount (mount_of view.opened) → ReadAsFiles view (map store_history stores) tail
  read_as_files sound keeps mount = record {
    tail_is = whole.tail_is;
    reads = λ files first log opens none.
        let log_then = (sound (mount_of view.opened) view.run mount whole.is_run).grouped.log in
        no_pieces view.opened.sizes _ files _ (keeps (mount_of view.opened) files first log_then (λ _. false) view.run mount log opens.stores whole.is_run).live none;
    are = store_shown;
  }
