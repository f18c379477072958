-- Recoveries that are stopped, one after another: by induction over the stops.
use Rattle.std.proofs.Common.{◌≡◌, ◌⊎◌, inl, inr, List, [], ◌∷◌, length, take, refl, sym, ap, ◌∙◌, subst, arith}
use Rattle.std.proofs.lemmas.List.{take_all}
use Rattle.nv_plain.specs.Files.{Files}
use Rattle.nv_plain.specs.Images.{Image, header_of, layout_in}
use Rattle.nv_plain.specs.Recovered.{next_after, recovered}
use Rattle.nv_pmem.specs.Part.{Part}
use Rattle.nv_pmem.specs.Rows.{IsRowImage, RowTells}
use Rattle.nv_pmem.specs.Runs.{run}
use Rattle.nv_store.specs.Store.{Store}
use Rattle.nv_header.specs.Heads.{first_names}
use Rattle.nv_pmem.specs.RowStates.{AreNow, row_tells_at}
use Rattle.nv_recover.specs.Changes.{Devices, devices_after_change}
use Rattle.nv_recover.specs.Interrupted.{HasDoneLog, Start, StartReads, StartFits, files_from, start_of, IsRecoveryRun, IsRecoveryStop, AreStops, last_of}
use Rattle.nv_recover.specs.Recovering.{StandThroughout}
use Rattle.nv_recover.specs.Standing.{AreStoreImages, HasEmptiedLog, HasSameLog, StandsFor, StandsStill, ReadsAlike, TakesPlace}
use Rattle.nv_recover.specs.Telling.{AllTell}
use Rattle.nv_recover.proofs.AlikeLaws.{no_commit}
use Rattle.nv_recover.proofs.EmptyLaws.{empty_none}
use Rattle.nv_recover.proofs.Present.{presents}
use Rattle.nv_recover.proofs.RowMoments.{still_tell}

-- what one stop comes to takes the place of before
stop_stands : (before after : Start) → IsRecoveryStop before after → TakesPlace before.image before.bytes after.image after.bytes
stop_stands before after stop =
    let devices = run devices_after_change (take stop.count stop.run_is.steps) stop.old in
    let Stands : List Part → List Store → Type 0 = StandsStill before.image before.bytes in
    row_tells_at devices.stores (Stands stop.parts) stop.stores stop.stores_are
    (row_tells_at devices.parts (λ parts. RowTells devices.stores (Stands parts)) stop.parts stop.parts_are (stop.run_is.each stop.count stop.no_more))
    after.image after.bytes stop.image stop.bytes

-- the clause of `recover` is a run
pub promise_is_run : (old new : Devices) (parts : List Part) (stores : List Store) → AreNow old.parts parts → AreNow old.stores stores → StandThroughout old new → IsRecoveryRun (start_of parts stores) old new
promise_is_run old new parts stores parts_are stores_are promise =
    let Runs : List Part → List Store → Type 0 = λ these held. IsRecoveryRun (start_of these held) old new in
    row_tells_at old.stores (Runs parts) stores stores_are (row_tells_at old.parts (λ these. RowTells old.stores (Runs these)) parts parts_are promise)

-- and the devices still tell
pub promise_keeps_telling : (old new : Devices) → AllTell old.parts → AllTell old.stores → StandThroughout old new → AllTell new.parts × AllTell new.stores
promise_keeps_telling old new parts_tell stores_tell promise =
    let parts = presents old.parts parts_tell in
    let stores = presents old.stores stores_tell in
    let through = promise_is_run old new parts.states stores.states parts.are stores.are promise in
    let Tell : Devices → Type 0 = λ devices. AllTell devices.parts × AllTell devices.stores in
    subst Tell (sym through.did.states) (still_tell through.steps old (parts_tell, stores_tell))

-- after its last change there is one moment more
pub end_is_stop : (before after : Start) (old new : Devices) (parts : List Part) (stores : List Store) → IsRecoveryRun before old new → AreNow new.parts parts → AreNow new.stores stores
    → IsRowImage parts after.image → AreStoreImages stores after.bytes → IsRecoveryStop before after
end_is_stop before after old new parts stores runs parts_are stores_are image bytes =
    let all : run devices_after_change (take (length runs.steps) runs.steps) old ≡ new =
    ap (λ steps. run devices_after_change steps old) (take_all (length runs.steps) runs.steps (omega arith)) ∙ sym runs.did.states in
    let Parts : Devices → Type 0 = λ devices. AreNow devices.parts parts in
    let Stores : Devices → Type 0 = λ devices. AreNow devices.stores stores in
    record {
      old = old;
      new = new;
      run_is = runs;
      count = length runs.steps;
      no_more = omega arith;
      parts = parts;
      stores = stores;
      parts_are = subst Parts (sym all) parts_are;
      stores_are = subst Stores (sym all) stores_are;
      image = image;
      bytes = bytes;
    }

-- a log that was emptied is done
emptied_done : (image other : Image) → HasEmptiedLog image other → HasDoneLog image other
emptied_done image other empty =
    let none = λ (stores : Files). no_commit other (empty_none (header_of image).page (header_of image).entries (first_names (layout_in image) image (header_of image).files) (recovered image stores).next other (empty stores)) in
    record {
      first = λ stores. (empty stores).header.tail_is;
      groups = none;
      next = λ stores. ap (next_after other) (none stores) ∙ (empty stores).header.tail_is;
    }

-- one log after another
log_then : (first between last : Image) → HasSameLog first between ⊎ HasEmptiedLog first between → HasSameLog between last ⊎ HasDoneLog between last → HasSameLog first last ⊎ HasDoneLog first last
log_then first between last (inl one) (inl two) = inl (record {
  first = λ stores. two.first stores ∙ one.first stores;
  groups = λ stores. two.groups stores ∙ one.groups stores;
  next = λ stores. two.next stores ∙ one.next stores;
})
log_then first between last (inl one) (inr two) = inr (record {
  first = λ stores. two.first stores ∙ one.next stores;
  groups = two.groups;
  next = λ stores. two.next stores ∙ one.next stores;
})
log_then first between last (inr empty) (inl two) =
    let one = emptied_done first between empty in
    inr (record {
      first = λ stores. two.first stores ∙ one.first stores;
      groups = λ stores. two.groups stores ∙ one.groups stores;
      next = λ stores. two.next stores ∙ one.next stores;
    })
log_then first between last (inr empty) (inr two) =
    let one = emptied_done first between empty in
    inr (record {
      first = λ stores. two.first stores ∙ one.next stores;
      groups = two.groups;
      next = λ stores. two.next stores ∙ one.next stores;
    })

-- What any number of stops come to has the first log, or one that is done;
pub stops_log : (first : Start) (later : List Start) → AreStops first later → HasSameLog first.image (last_of first later).image ⊎ HasDoneLog first.image (last_of first later).image
stops_log first [] stops = inl (record { first = λ stores. refl; groups = λ stores. refl; next = λ stores. refl })
stops_log first (next ∷ later) stops =
    log_then first.image next.image (last_of next later).image (stop_stands first next stops.0).log (stops_log next later stops.1)

-- it has a header that reads alike,
pub stops_read : (first : Start) (later : List Start) → AreStops first later → StartReads first → ReadsAlike first.image (last_of first later).image
stops_read first [] stops reads = record { version = refl; readable = reads; page = refl; entries = refl; names = refl }
stops_read first (next ∷ later) stops reads =
    let one = (stop_stands first next stops.0).header in
    let all = stops_read next later stops.1 one.readable in
    record {
      version = all.version ∙ one.version;
      readable = all.readable;
      page = all.page ∙ one.page;
      entries = all.entries ∙ one.entries;
      names = all.names ∙ one.names;
    }

-- and stands for the same files.
pub stops_stand : (first : Start) (later : List Start) → AreStops first later → StartFits first
    → StandsFor (last_of first later).image (last_of first later).bytes (files_from first)
stops_stand first [] stops fits = record { fits = fits; recovers = refl }
stops_stand first (next ∷ later) stops fits =
    let one = (stop_stands first next stops.0).files fits in
    let all = stops_stand next later stops.1 one.fits in
    record { fits = all.fits; recovers = all.recovers ∙ one.recovers }
