-- Stands: that whatever is left of devices can take the place of what they were.
use Rattle.std.proofs.Common.{◌≡◌, ℕ, inl, All, List, [], ◌∷◌, length, map, get_or, slice_index, slice_index_or, take, refl, sym, ap, subst, ◌∙◌, arith}
use Rattle.std.proofs.lemmas.List.{length-map, get_or-map}
use Rattle.std.proofs.lemmas.List.Elements.{All-nil, All-cons}
use Rattle.nv_plain.specs.Files.{Files}
use Rattle.nv_plain.specs.Images.{Image, header_of, layout_in, version_in}
use Rattle.nv_plain.specs.Layouts.{Layout, layout_of}
use Rattle.nv_plain.proofs.OwnLayouts.{layout_same}
use Rattle.nv_plain.specs.Recovered.{Fits, Recovered as Recovery, recovered}
use Rattle.nv_pmem.specs.Part.{Part}
use Rattle.nv_pmem.specs.RowStates.{AreNow, TellingRowsHaveStates, row_tells_at}
use Rattle.nv_pmem.specs.Runs.{run}
use Rattle.nv_pmem.specs.Rows.{AreQuiet, IsRowImage, RowTells, row_words}
use Rattle.nv_pmem.proofs.ImageLaws.{quiet_image as quiet_line}
use Rattle.nv_bench.specs.Holding.{Holding, NamedStore}
use Rattle.nv_store.specs.Images.{IsStoreImage}
use Rattle.nv_store.specs.Steps.{StoreHistory}
use Rattle.nv_store.specs.Store.{IsQuietStore, IsWholeStore, Store}
use Rattle.nv_header.specs.Heads.{IsHead, first_names}
use Rattle.nv_header.specs.Regions.{ReadsAs}
use Rattle.nv_recover.specs.Alike.{SayTheSame}
use Rattle.nv_recover.specs.Changes.{Devices, devices_after_change}
use Rattle.nv_recover.specs.Interrupted.{IsRecoveryStop, PromisesKeepTelling, Start}
use Rattle.nv_recover.specs.Recovering.{StandThroughout}
use Rattle.nv_recover.specs.Standing.{AreQuietStores, AreStoreImages, StandsStill, TakesPlace, files_of}
use Rattle.nv_recover.proofs.AlikeLaws.{same_fits, same_recovered}
use Rattle.nv_recover.proofs.ApplyLaws.{quiet_image}
use Rattle.nv_recover.proofs.EmptyLaws.{same_words, reads_too}
use Rattle.nv_recover.proofs.StandLaws.{header_alike}
use Rattle.nv_recover.proofs.Interrupted.{end_is_stop, promise_is_run}
use Rattle.nv_recover.specs.Telling.{TellingStoresHaveStates}
use Rattle.nv_open.specs.Held.{header_names}
use Rattle.nv_open.specs.Lending.{stores_named}
use Rattle.nv_open.specs.Unopened.{HasHeader, HasRest, StandAsBefore, StandsAsBefore, line_counts, names_in}
use Rattle.nv_open.proofs.Returns.{states_tell}
use Rattle.nv_open.proofs.Versions.{own_layout}

-- Quiet devices have one image, which takes the place of itself.
pub stands_quiet : (parts : List Part) (stores : List Store) → AreQuiet parts → AreQuietStores stores → HasHeader parts → StandsStill (row_words parts) (files_of stores) parts stores
stands_quiet parts stores quiet still readable other bytes is are =
    let image = row_words parts in
    let version = version_in image in
    let here : (part line word : ℕ) → other part line word ≡ image part line word =
    λ part line word. quiet_line (slice_index_or parts part []) (other part) line word ((quiet.each part).lines line) (is.each part) in
    let same : SayTheSame image other = same_words image other here in
    let header = header_of image in
    let names = first_names (layout_of version) image header.files in
    let own : IsHead (layout_of version) (layout_of version).header_lines image = subst (λ (layout : Layout). IsHead layout layout.header_lines image) (own_layout image) readable in
    let reads : ReadsAs (layout_of version) header.page header.entries names header.tail image =
    record { readable = own; page_is = refl; entries_is = refl; names_are = refl; tail_is = refl } in
    let too = reads_too version header.page header.entries names header.tail image other (here 0) reads in
    let log = same_recovered image other same in
    record {
      header = header_alike version header.page header.entries names header.tail header.tail image other reads too;
      log = inl (record { first = λ files. ap (λ (all : Recovery). all.first) (log files); groups = λ files. ap (λ (all : Recovery). all.groups) (log files); next = λ files. ap (λ (all : Recovery). all.next) (log files) });
      files = λ fits. record {
        fits = subst (λ layout. Fits layout other) (sym (layout_same image other (here 0 0 1))) (same_fits image other same (layout_in image) fits);
        recovers = ap (λ (all : Recovery). all.files) (log bytes) ∙ ap (λ (files : Files). (recovered image files).files) (quiet_image stores bytes still are);
      };
    }

-- What one stop of a recovery comes to takes the place of what was before.
stop_stands : (before after : Start) → IsRecoveryStop before after → TakesPlace before.image before.bytes after.image after.bytes
stop_stands before after stop =
    let devices = run devices_after_change (take stop.count stop.run_is.steps) stop.old in
    let Stands : List Part → List Store → Type 0 = StandsStill before.image before.bytes in
    row_tells_at devices.stores (Stands stop.parts) stop.stores stop.stores_are
    (row_tells_at devices.parts (λ parts. RowTells devices.stores (Stands parts)) stop.parts stop.parts_are (stop.run_is.each stop.count stop.no_more))
    after.image after.bytes stop.image stop.bytes

-- So it is after the last change of a recovery.
stands_after : (old new : Devices) (parts now : List Part) (stores held : List Store) → StandThroughout old new → AreNow old.parts parts → AreNow old.stores stores → AreNow new.parts now → AreNow new.stores held
    → StandsStill (row_words parts) (files_of stores) now held
stands_after old new parts now stores held promise parts_are stores_are now_are held_are image bytes is are =
    let before : Start = record { image = row_words parts; bytes = files_of stores } in
    let after : Start = record { image = image; bytes = bytes } in
    stop_stands before after (end_is_stop before after old new now held (promise_is_run old new parts stores parts_are stores_are promise) now_are held_are is are)

-- whole stores may be left with their durable bytes
pub durable_images : (disks : List Store) → All IsWholeStore disks → AreStoreImages disks (record { contents = map (λ (store : Store). store.durable) disks })
durable_images disks whole = record {
  count = length-map disks (λ (store : Store). store.durable);
  each = λ i none less.
      subst (λ bytes. IsStoreImage (get_or disks i none) bytes) (sym (get_or-map (λ (store : Store). store.durable) disks i none [] less))
      record { no_shorter = omega arith; no_longer = (whole i none less).no_longer; synced = λ j not. refl };
}

-- stores that tell are whole
pub whole_now : {Y : Type 0} (history : Y → StoreHistory) (told_whole : (y : Y) (now : Store) (past : StoreHistory) → history y ≡ now ∷ past → IsWholeStore now) (stores : List Y) (held : List Store)
    → AreNow (map history stores) held → All IsWholeStore held
whole_now history told_whole [] [] are = All-nil IsWholeStore
whole_now history told_whole [] (now ∷ held) are = absurd are
whole_now history told_whole (store ∷ stores) [] are = absurd are
whole_now history told_whole (store ∷ stores) (now ∷ held) are =
    All-cons IsWholeStore now held (told_whole store now are.0.past are.0.is) (whole_now history told_whole stores held are.1)

-- the names that the header says of parts are those that their words say
pub names_read : (parts : List Part) → header_names parts ≡ first_names (layout_in (row_words parts)) (row_words parts) (header_of (row_words parts)).files
unfolding first_names layout_in
names_read parts = refl

-- What a recovery leaves that failed.
pub stood : (old new : Devices) (parts : List Part) (stores : List Store) → PromisesKeepTelling → TellingRowsHaveStates → TellingStoresHaveStates → StandThroughout old new → AreNow old.parts parts → AreNow old.stores stores
    → ((held : List Store) → AreNow new.stores held → All IsWholeStore held) → StandAsBefore parts stores new.parts new.stores
stood old new parts stores keep part_states store_states promise parts_are stores_are whole =
    let tell = keep old new (states_tell old.parts parts parts_are) (states_tell old.stores stores stores_are) promise in
    let now = part_states new.parts tell.0 in
    let (held, held_are) = (store_states new.stores).0 tell.1 in
    let stands = stands_after old new parts now.states stores held promise parts_are stores_are now.are held_are in
    record {
      now = now.states;
      held = held;
      now_are = now.are;
      held_are = held_are;
      same_names = λ image is.
          (stands image (record { contents = map (λ (store : Store). store.durable) held }) is (durable_images held (whole held held_are))).header.names
          ∙ sym (names_read parts);
      stands = stands;
    }

-- quiet stores may be left as they are
pub own_images : (stores : List Store) → AreQuietStores stores → AreStoreImages stores (files_of stores)
own_images stores quiet = record {
  count = length-map stores (λ (store : Store). store.seen);
  each = λ i none less.
      let still = quiet i none less in
      subst (λ bytes. IsStoreImage (get_or stores i none) bytes) (sym (get_or-map (λ (store : Store). store.seen) stores i none [] less))
      (own_image (get_or stores i none) still);
}
  where
    own_image : (store : Store) → IsQuietStore store → IsStoreImage store store.seen
    own_image store still =
        let long = ap (λ (bytes : List ℕ). length bytes) still.durable in
        record { no_shorter = omega (arith, long); no_longer = omega arith; synced = λ j not. ap (λ (bytes : List ℕ). slice_index bytes j) (sym still.durable) }

-- What only was read stands as before, with stores that are as they were.
pub stands_read : (parts : List Part) (stores : List NamedStore) (back : Holding) → AreQuiet parts → AreQuietStores (stores_named (header_names parts) stores) → HasHeader parts
    → back.parts ≡ parts → stores_named (header_names parts) back.stores ≡ stores_named (header_names parts) stores → HasRest (line_counts parts) (header_names parts) stores back → StandsAsBefore (record { parts = parts; stores = stores }) back
stands_read parts stores back quiet still readable same_parts same_stores rest =
    let names = header_names parts in
    let here = stands_quiet parts (stores_named names stores) quiet still readable in
    let Names : List Part → Type 0 = λ now. (image : Image) → IsRowImage now image → names_in image ≡ names in
    record {
      same_names =
          subst Names (sym same_parts)
          (λ image is.
          (here image (files_of (stores_named names stores)) is (own_images (stores_named names stores) still)).header.names
          ∙ sym (names_read parts));
      stands =
          subst (λ now. StandsStill (row_words parts) (files_of (stores_named names stores)) now (stores_named names back.stores)) (sym same_parts)
          (subst (λ held. StandsStill (row_words parts) (files_of (stores_named names stores)) parts held) (sym same_stores) here);
      rest = rest;
    }
