-- Laws about what comes out of a mount that is closed where its log is empty.
use Rattle.std.proofs.Common.{◌≡◌, ℕ, zero, suc, ◌+◌, ◌<◌, ◌≤◌, false, List, [], ◌∷◌, ◌++◌, length, get_or, map, take, inl, inr, refl, sym, ap, subst, ◌∙◌, arith, append-nil}
use Rattle.std.specs.Prelude.{Some}
use Rattle.std.specs.List.{All, AllZip, range_with_len}
use Rattle.std.proofs.Math.ListN.{get_or-eq_default}
use Rattle.std.proofs.lemmas.Bool.{cases_lt}
use Rattle.std.proofs.lemmas.List.{get_or_default, get_or-take, length-map, length-take-le}
use Rattle.std.proofs.lemmas.Nat.{mod_below}
use Rattle.nv_plain.specs.Files.{Files}
use Rattle.nv_plain.specs.Images.{Image}
use Rattle.nv_plain.specs.Layouts.{mount_layout}
use Rattle.nv_plain.specs.Recovered.{committed}
use Rattle.nv_plain.specs.Made.{after_calls, made_calls, HistoriesAreMadeRight}
use Rattle.nv_pmem.specs.Images.{IsPartImage, IsQuietPart}
use Rattle.nv_pmem.specs.Moments.{Tells}
use Rattle.nv_pmem.specs.Part.{Part}
use Rattle.nv_pmem.specs.Room.{Room}
use Rattle.nv_pmem.specs.Rows.{IsRowImage, InEachRowImage}
use Rattle.nv_pmem.specs.RowStates.{IsNow, AreNow, EachPartHasOne, row_tells_from}
use Rattle.nv_pmem.specs.Steps.{PartHistory}
use Rattle.nv_pmem.proofs.ImageLaws.{quiet_blank}
use Rattle.nv_store.specs.Steps.{StoreHistory}
use Rattle.nv_store.specs.Store.{Store, IsQuietStore}
use Rattle.nv_header.specs.Regions.{ReadsAs, HasEmptyLog, IsAtRest}
use Rattle.nv_core.specs.state.Words.{Sizes, STOP, HEAD, TAIL, HEADER, STORE, ENTRY, slot_of_entry}
use Rattle.nv_core.specs.state.Values.{Value, AStore}
use Rattle.nv_core.specs.state.Core.{Core}
use Rattle.nv_core.specs.steps.Opening.{IsMount}
use Rattle.nv_core.specs.invariant.InvariantLaws.{RunsAreSound}
use Rattle.nv_core.specs.invariant.Sound.{Sound}
use Rattle.nv_core.specs.content.Content.{Opens}
use Rattle.nv_core.specs.content.StorePages.{store_of_value}
use Rattle.nv_core.specs.crash.CrashImages.{OpensRegion, RunsKeepRegion}
use Rattle.nv_core.specs.crash.EmptyLog.{HasAllInStores, EmptyLogsRest}
use Rattle.nv_core.specs.log.EntryImages.{IsRegionImage}
use Rattle.nv_core.specs.log.LivePieces.{store_bytes, store_files, told_bytes}
use Rattle.nv_core.specs.log.LogContent.{OpensLog, RunsKeepTheLog}
use Rattle.nv_core.specs.log.Written.{IsPart}
use Rattle.nv_core.proofs.crash.CrashGroups.{some_entries}
use Rattle.nv_core.proofs.log.ImageLaws.{part_one}
use Rattle.nv_table.specs.invariant.BetweenSteps.{KnowsTaken}
use Rattle.nv_table.specs.invariant.Idle.{TakenHoldNothing}
use Rattle.nv_table.specs.state.Layout.{cell_of}
use Rattle.nv_table.specs.state.Opened.{Opened, mount_of, state_of}
use Rattle.nv_table.specs.state.SlotValues.{present, part_value, store_value}
use Rattle.nv_table.specs.state.Views.{PassView, first_view, pass_of, made_of}
use Rattle.nv_mount.specs.ClosedAtRest.{HasEmptiedLog, AreAtRest, HaveFilesWhereEmpty, RestsWhereEmpty, files_then}
use Rattle.nv_mount.specs.LoneWords.{word_then}
use Rattle.nv_mount.specs.Telling.{IsSeen, StoresHave}
use Rattle.nv_mount.specs.WholeRuns.{IsWholeRun}
use Rattle.nv_core.specs.steps.Frames.{OwnEventsTell}
use Rattle.nv_mount.proofs.ClosedFilesLaws.{no_pieces, store_shown, part_shown}
use Rattle.nv_mount.proofs.ListLaws.{now_many}
use Rattle.nv_mount.proofs.LastStateLaws.{LastLog, last_log, none_hold, none_to_place, header_kept, entry_kept, region_image}

-- ---- what stores tell

bytes_are : (value : Value) → store_bytes value ≡ told_bytes (store_of_value value)
bytes_are (AStore device) = refl
bytes_are value = refl

seen_here : (history : StoreHistory) (value : Value) → store_of_value value ≡ present history → (store : Store) → store_of_value value ≡ Some store → IsSeen history (store_bytes value)
seen_here [] value shown store told = absurd cc
seen_here (now ∷ past) value shown store told = sym (bytes_are value ∙ ap told_bytes shown)

zip_seen : (row : List StoreHistory) (bytes : ℕ → List ℕ) (from : ℕ) → ((i : ℕ) → i < length row → IsSeen (get_or row i []) (bytes (from + i))) → AllZip IsSeen row (map bytes (range_with_len from (length row)))
zip_seen [] bytes from seen = tt
zip_seen (history ∷ row) bytes from seen = (
  subst (λ n. IsSeen history (bytes n)) (omega arith) (seen 0 (omega arith)),
  zip_seen row bytes (from + 1) (λ i less. subst (λ n. IsSeen (get_or row i []) (bytes n)) (omega arith) (seen (suc i) (omega (arith, less)))),
)

tells_quiet : (history : StoreHistory) → ((store : Store) → present history ≡ Some store → IsQuietStore store) → Tells history IsQuietStore
tells_quiet [] each = tt
tells_quiet (now ∷ past) each = each now refl

-- ---- rows

quiet_none : IsQuietPart []
quiet_none = record { lines = λ line. quiet_blank }

-- ---- a pass that has made no step yet

pub begins_empty : (view : PassView) (opened : Opened) → view ≡ first_view opened → HasEmptiedLog view
begins_empty view opened is = record {
  owned = ap (λ (v : PassView). (pass_of v).owned) is;
  taken = subst TakenHoldNothing (sym is) (λ past one. absurd one);
  none = subst (λ (v : PassView). word_then v TAIL ≡ word_then v HEAD) (sym is) refl;
  going = ap (λ (v : PassView). word_then v STOP) is;
}

module _ {L B : Type 0} (device : L → ℕ) (history : L → PartHistory) (faults : L → ℕ) (room : L → Room) (store_device : B → ℕ) (store_history : B → StoreHistory) (store_faults : B → ℕ)
    (view : PassView) (parts : List L) (stores : List B) (placed tail : ℕ) (parts_many : 1 + view.opened.sizes.entries ≤ length parts) (stores_many : length stores ≡ view.opened.sizes.files)
    (whole : IsWholeRun view (map (part_value device history faults room) parts) (map (store_value store_device store_history store_faults) stores) placed tail)
    (right : HistoriesAreMadeRight) (sound : RunsAreSound) (tell : OwnEventsTell) (keeps : RunsKeepTheLog) (region_stays : RunsKeepRegion) (rests : EmptyLogsRest) (each : EachPartHasOne)
    (mount : IsMount (mount_of view.opened)) (zero_is : view.number ≡ 0) (knows : KnowsTaken view) (all : length view.ended ≡ made_of view) where
  abbrev sizes : Sizes
  sizes = view.opened.sizes

  abbrev at_last : Core
  at_last = state_of view.opened view.run

  -- the parts of the header and of the entries, and how many there are
  abbrev row : List PartHistory
  row = take (1 + sizes.entries) (map history parts)

  row_long : length row ≡ 1 + sizes.entries
  row_long = length-take-le (1 + sizes.entries) (map history parts) (let long = length-map parts history in omega (arith, parts_many, long))

  histories_many : length (map store_history stores) ≡ sizes.files
  histories_many = length-map stores store_history ∙ stores_many

  is_sound : Sound sizes (mount_of view.opened).values at_last
  is_sound = sound (mount_of view.opened) view.run mount whole.is_run

  -- ---- the stores

  store_here : (file : ℕ) → file < sizes.files → store_of_value (at_last.values (STORE file)) ≡ present (get_or (map store_history stores) file [])
  store_here = store_shown device history faults room store_device store_history store_faults view parts stores placed tail parts_many stores_many whole

  -- they have these files, where all of them tell, and read so
  have_these : (files : Files) → ((file : ℕ) → file < sizes.files → (store : Store) × (store_of_value (at_last.values (STORE file)) ≡ Some store)) → files ≡ store_files sizes at_last.values → StoresHave (map store_history stores) files
  have_these files told are =
      subst (λ (fs : Files). AllZip IsSeen (map store_history stores) fs.contents) (sym are)
      (subst (λ n. AllZip IsSeen (map store_history stores) (map (λ file. store_bytes (at_last.values (STORE file))) (range_with_len 0 n))) histories_many
      (zip_seen (map store_history stores) (λ file. store_bytes (at_last.values (STORE file))) 0 (λ file less.
      let within : file < sizes.files = omega (arith, histories_many, less) in
      let tells = told file within in
      let from : file ≡ 0 + file = omega arith in
      subst (λ n. IsSeen (get_or (map store_history stores) file []) (store_bytes (at_last.values (STORE n)))) from
      (seen_here (get_or (map store_history stores) file []) (at_last.values (STORE file)) (store_here file within) tells.0 tells.1))))

  pub have_files : HaveFilesWhereEmpty view (map store_history stores)
  have_files files log opens owned taken none =
      let first = is_sound.grouped.log in
      let content = keeps (mount_of view.opened) files view.opened.next first (λ _. false) view.run mount log opens.stores whole.is_run in
      have_these (files_then view files) (λ file within. content.tell.each file within)
      (sym (right at_last.history files) ∙ ap (λ calls. after_calls calls files) (sym (append-nil (made_calls files at_last.history)))
      ∙ ap (λ calls. after_calls (made_calls files at_last.history ++ calls) files)
      (sym (none_to_place sizes (mount_of view.opened).values _ _ at_last is_sound content.flight (none_hold sound view mount whole.is_run zero_is knows all tell owned taken)))
      ∙ no_pieces sizes _ files at_last content.live none)

  module _ (files : Files) (names : List (List ℕ)) (log : OpensLog (mount_of view.opened) view.opened.next) (opens : Opens (mount_of view.opened) files)
      (region : OpensRegion (mount_of view.opened) names) (emptied : HasEmptiedLog view) where
    idle : (by : ℕ) → (at_last.passes by).owned ≡ []
    idle = none_hold sound view mount whole.is_run zero_is knows all tell emptied.owned emptied.taken

    last : LastLog view files names
    last = last_log sound keeps region_stays view mount whole.is_run files names log opens region

    in_stores : HasAllInStores sizes files last.tails at_last
    in_stores =
        rests sizes (mount_of view.opened).values files names last.tails last.log last.placed at_last is_sound last.content last.region
        record { none = emptied.none; going = emptied.going; idle = idle }

    -- the header's tail is TAIL
    tail_least : last.tails.least ≡ tail
    tail_least =
        let low = last.region.low in
        let order = last.content.retired.order in
        let high = last.content.retired.high in
        let none = emptied.none in
        let retired = whole.tail_is in
        omega (arith, low, order, high, none, retired)

    -- ---- the stores

    durable : All (λ history. Tells history IsQuietStore) (map store_history stores)
    durable = λ file none less.
        let within : file < sizes.files = omega (arith, histories_many, less) in
        subst (λ (h : StoreHistory). Tells h IsQuietStore) (get_or_default (map store_history stores) file [] none less)
        (tells_quiet (get_or (map store_history stores) file []) (λ store told. in_stores.stores file store within (store_here file within ∙ told)))

    -- ---- the parts

    module _ (states : List Part) (are : AreNow row states) where
      part_at : (i : ℕ) → i ≤ sizes.entries → IsPart (at_last.values (cell_of sizes i)) (get_or states i [])
      part_at i least =
          let now = each row states i are (omega (arith, row_long, least)) in
          let here : IsNow (get_or (map history parts) i []) (get_or states i []) =
          subst (λ h. IsNow h (get_or states i [])) (get_or-take (1 + sizes.entries) (map history parts) i [] (omega (arith, least))) now in
          part_shown device history faults room store_device store_history store_faults view parts stores placed tail parts_many stores_many whole i least (get_or states i []) here

      header_at : IsPart (at_last.values HEADER) (get_or states 0 [])
      header_at = header_kept sizes at_last.values states part_at

      entry_at : (slot : ℕ) → slot < sizes.entries → IsPart (at_last.values (ENTRY slot)) (get_or states (1 + slot) [])
      entry_at = entry_kept sizes at_last.values states part_at

      quiet_at : (i : ℕ) → IsQuietPart (get_or states i [])
      quiet_at zero = in_stores.header (get_or states 0 []) header_at
      quiet_at (suc slot) = elim (cases_lt slot sizes.entries) [
        | inl less ↦
            let blank = in_stores.entries slot less in
            let next : 1 + slot ≡ suc slot = omega arith in
            subst (λ i. IsQuietPart (get_or states i [])) next
            (subst IsQuietPart (part_one (at_last.values (ENTRY slot)) blank.part (get_or states (1 + slot) []) blank.is (entry_at slot less)) blank.quiet)
        | inr past ↦
            subst IsQuietPart (sym (get_or-eq_default states [] (let long = now_many row states are in omega (arith, long, row_long, past)))) quiet_none
      ]

      image_at : (image : Image) → IsRowImage states image → IsRegionImage sizes at_last.values image
      image_at = region_image sizes at_last.values states part_at

      tail_at : (image : Image) → IsRowImage states image → image 0 1 0 ≡ tail
      tail_at image is = elim (last.content.header.tail_is (get_or states 0 []) header_at (image 0) (is.each 0)) [
        | inl least ↦ least ∙ tail_least
        | inr next ↦ next ∙ in_stores.tail ∙ tail_least
      ]

      empty_at : InEachRowImage (HasEmptyLog mount_layout sizes.page sizes.entries names tail) states
      empty_at image is =
          let reads = last.region.header image (image_at image is) in
          record {
            header = subst (λ t. ReadsAs mount_layout sizes.page sizes.entries names t image) (tail_at image is) reads;
            log = record {
              uncommitted = λ number low.
                  let slot = slot_of_entry sizes number in
                  let less = mod_below number sizes.entries (some_entries sizes names (image 0 1 0) image reads) in
                  let blank = in_stores.entries slot less in
                  let same_part = part_one (at_last.values (ENTRY slot)) (get_or states (1 + slot) []) blank.part (entry_at slot less) blank.is in
                  blank.stale (image (1 + slot)) (subst (λ (p : Part). IsPartImage p (image (1 + slot))) same_part (is.each (1 + slot))) number refl (omega (arith, tail_least, low));
            };
          }

    pub at_rest : AreAtRest sizes names (files_then view files) (map history parts) (map store_history stores) tail
    at_rest = record {
      have = have_files files log opens emptied.owned emptied.taken emptied.none;
      durable = durable;
      region = row_tells_from row (IsAtRest mount_layout sizes.page sizes.entries names tail) (λ states are. record { quiet = record { each = quiet_at states are }; empty = empty_at states are });
      none = row_tells_from row (InEachRowImage (λ image. committed image ≡ [])) (λ states are image is. in_stores.committed image (image_at states are image is));
    }

  pub rests_where_empty : RestsWhereEmpty view (map history parts) (map store_history stores) tail
  rests_where_empty files names log opens region emptied = at_rest files names log opens region emptied
