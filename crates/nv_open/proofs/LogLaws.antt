-- What a recovery gives of parts and stores that tell.
use Rattle.std.proofs.Common.{◌≡◌, ℕ, suc, ◌≤◌, List, [], ◌∷◌, length, map, refl, sym, ap, ◌∙◌, subst, arith}
use Rattle.std.proofs.lemmas.List.{length-map}
use Rattle.nv_plain.specs.Images.{layout_in}
use Rattle.nv_plain.specs.Layouts.{layout_of}
use Rattle.nv_plain.specs.Recovered.{region_files}
use Rattle.nv_pmem.specs.Moments.{Tells}
use Rattle.nv_pmem.specs.Part.{Part}
use Rattle.nv_pmem.specs.Room.{Room}
use Rattle.nv_pmem.specs.RowStates.{AreNow, row_tells_from, row_tells_at}
use Rattle.nv_pmem.specs.Rows.{RowTells, row_words}
use Rattle.nv_pmem.specs.Steps as lines
use Rattle.nv_store.specs.Store.{Store}
use Rattle.nv_header.specs.Heads.{IsHead, IsHeadOf, header_image}
use Rattle.nv_header.specs.Needs.{HasLines, header_history, header_lines_in}
use Rattle.nv_header.specs.declared.head.Head.{Head}
use Rattle.nv_recover.specs.Applying.{AcrossTells}
use Rattle.nv_recover.specs.Changes.{Devices}
use Rattle.nv_recover.specs.Groups.{IsLeastBad, FittingHasNoBad}
use Rattle.nv_recover.specs.Interrupted.{PromisesKeepTelling}
use Rattle.nv_recover.specs.Recovering.{HasFoundAll, HoldRecovered, StandThroughout, UnfitIsUnwritten}
use Rattle.nv_recover.specs.Standing.{ReadableStandsForRecovered, files_of}
use Rattle.nv_recover.specs.Telling.{AllTell, TellingStoresHaveStates}
use Rattle.nv_recover.specs.declared.error.RecoverError.{RecoverError}
use Rattle.nv_recover.specs.declared.error.RecoverError.TheVariants as recovery
use Rattle.nv_recover.specs.declared.recovering.Recovered.{Recovered}
use Rattle.nv_open.specs.Held.{HoldFiles, IsRecovered}
use Rattle.nv_open.specs.Unopened.{IsGood}
use Rattle.nv_plain.specs.Recovered.{Fits}
use Rattle.nv_open.specs.Refusals.{of_recovery, header_part, head_layout, CanBeRead, IsRefusedFor, IsBadLog}
use Rattle.nv_open.specs.declared.error.OpenError.TheVariants as error
use Rattle.nv_open.specs.declared.error.Refusal.{Refusal}
use Rattle.nv_open.specs.declared.error.Refusal.TheVariants.{BadEntry}
use Rattle.nv_open.proofs.HeadLaws.{can_told, head_told, long_told, names_told, refused_is, some_part}
use Rattle.nv_open.proofs.Versions.{least_lines}

-- an image of all parts has the header of the first
pub whole_image : (told : List Part) → CanBeRead told → IsHead (head_layout told) (length (header_part told)) (row_words told)
whole_image told can = record {
  long_enough = can.long_enough;
  fields = can.fields;
  names = λ i below. let good = can.names i below in record { whole = good.whole; new = good.new };
}

-- the stores hold the files that parts and stores stood for
pub files_held : (old new : Devices) (was : List Store) → ReadableStandsForRecovered → TellingStoresHaveStates → PromisesKeepTelling
    → AreNow old.stores was → AllTell old.parts → StandThroughout old new → AcrossTells old.parts old.stores new.stores HoldRecovered
    → ((told : List Part) → AreNow old.parts told → CanBeRead told)
    → RowTells old.parts (λ told. HoldFiles new.stores (region_files (row_words told) (files_of was)))
files_held old new was readable states keep was_are tell stand across can =
    let after : AllTell new.stores = (keep old new tell ((states old.stores).1 (was, was_are)) stand).1 in
    let (held, are) = (states new.stores).0 after in
    row_tells_from old.parts (λ told. HoldFiles new.stores (region_files (row_words told) (files_of was))) (λ told told_are.
    let holds : HoldRecovered (row_words told) was held = row_tells_at new.stores _ held are (row_tells_at old.stores _ was was_are (row_tells_at old.parts _ told told_are across)) in
    record {
      held = held;
      are = are;
      files_are = holds.files ∙ sym (readable (head_layout told) (length (header_part told)) (row_words told) (files_of was) (whole_image told (can told told_are)));
      quiet = holds.synced;
    })

module _ {X : Type 0} (history : X → lines.PartHistory) (room : X → Room) (told_lines : (p : X) (now : Part) (past : lines.PartHistory) → history p ≡ now ∷ past → length now ≡ (room p).lines)
    (parts : List X) (one : Head) (has : HasLines (layout_of one.version) one.geometry.page one.geometry.entries (map room parts))
    (is : Tells (header_history (map history parts)) (λ now. IsHeadOf (layout_of one.version) (header_lines_in (map room parts)) (header_image now) one)) where
  some : 1 ≤ length parts
  some = some_part room parts (λ short. omega (arith, has.header, least_lines one.version))

  -- the header can be read
  pub can_be_read : (told : List Part) → AreNow (map history parts) told → CanBeRead told
  can_be_read told are = can_told history room told_lines parts told one some are is

  -- and says what is recovered
  pub recovered_told : (page entries : ℕ) (names : List (List ℕ)) (next : ℕ) (found : Recovered)
      → page ≡ one.geometry.page → entries ≡ one.geometry.entries → names ≡ one.names → next ≡ found.next
      → RowTells (map history parts) (λ told. HasFoundAll (row_words told) found)
      → RowTells (map history parts) (λ told. IsRecovered told page entries names next found)
  recovered_told page entries names next found page_is entries_is names_are next_is all =
      row_tells_from (map history parts) (λ told. IsRecovered told page entries names next found) (λ told are.
      let says = head_told history room told_lines parts told one some are is in
      record {
        readable = can_be_read told are;
        long = long_told history room told_lines parts told one some are is has;
        page_is = page_is ∙ says.page;
        entries_is = entries_is ∙ says.entries;
        names_are = names_are ∙ sym (names_told history room told_lines parts told one some are is);
        log = row_tells_at (map history parts) (λ these. HasFoundAll (row_words these) found) told are all;
        next_is = next_is;
      })

  -- nothing is written of one that isn't good
  pub unwritten_unless_good : (old new : Devices) → old.parts ≡ map history parts → UnfitIsUnwritten old new → RowTells (map history parts) (λ told. ¬ (IsGood told) → (new.parts ≡ old.parts) × (new.stores ≡ old.stores))
  unwritten_unless_good old new row unfit =
      row_tells_from (map history parts) (λ told. ¬ (IsGood told) → (new.parts ≡ old.parts) × (new.stores ≡ old.stores)) (λ told are not_good.
      let same : new ≡ old =
      row_tells_at old.parts (λ told. ¬ (Fits (layout_in (row_words told)) (row_words told)) → new ≡ old) told (subst (λ (row : List lines.PartHistory). AreNow row told) (sym row) are) unfit
      (λ fits. not_good (record { readable = can_be_read told are; long = long_told history room told_lines parts told one some are is has; fits = fits })) in
      (ap (λ (devices : Devices). devices.parts) same, ap (λ (devices : Devices). devices.stores) same))

  -- a refusal of the log names the least bad entry
  pub refused_by_log : (refusal : RecoverError) (why : Refusal) → of_recovery refusal ≡ error.Refused why
      → ((number : ℕ) → refusal ≡ recovery.BadEntry number → RowTells (map history parts) (λ told. IsLeastBad (layout_in (row_words told)) (row_words told) number))
      → RowTells (map history parts) (λ told. IsRefusedFor told why × IsBadLog why)
  refused_by_log (recovery.BadEntry number) why same bad =
      subst (λ (one : Refusal). RowTells (map history parts) (λ told. IsRefusedFor told one × IsBadLog one)) (refused_is (BadEntry number) why same)
      (row_tells_from (map history parts) (λ told. IsRefusedFor told (BadEntry number) × IsBadLog (BadEntry number)) (λ told are.
      ((can_be_read told are, long_told history room told_lines parts told one some are is has, row_tells_at (map history parts) _ told are (bad number refl)), tt)))
  refused_by_log recovery.RegionFault why same bad = cc
  refused_by_log recovery.StoreFault why same bad = cc
  refused_by_log recovery.NoMemory why same bad = cc

-- and nothing is written then
pub unwritten_log : (old new : Devices) (refusal : RecoverError) (why : Refusal) → FittingHasNoBad → of_recovery refusal ≡ error.Refused why
    → ((number : ℕ) → refusal ≡ recovery.BadEntry number → RowTells old.parts (λ told. IsLeastBad (layout_in (row_words told)) (row_words told) number))
    → UnfitIsUnwritten old new → RowTells old.parts (λ told. new.stores ≡ old.stores)
unwritten_log old new (recovery.BadEntry number) why good same bad unfit =
    row_tells_from old.parts (λ told. new.stores ≡ old.stores) (λ told are.
    ap (λ (devices : Devices). devices.stores) (row_tells_at old.parts _ told are unfit (λ fits. good (layout_in (row_words told)) (row_words told) number fits (row_tells_at old.parts _ told are (bad number refl)))))
unwritten_log old new recovery.RegionFault why good same bad unfit = cc
unwritten_log old new recovery.StoreFault why good same bad unfit = cc
unwritten_log old new recovery.NoMemory why good same bad unfit = cc

-- a row has a present state for each of its devices
pub states_many : {S : Type 0} (row : List (List S)) (states : List S) → AreNow row states → length states ≡ length row
states_many [] [] are = refl
states_many [] (now ∷ states) are = absurd are
states_many (history ∷ row) [] are = absurd are
states_many (history ∷ row) (now ∷ states) are = ap suc (states_many row states are.1)

-- devices that are in their places are as many
pub as_many : {Y : Type 0} (device : Y → ℕ) (old new : List Y) → map device new ≡ map device old → length new ≡ length old
as_many device old new same = sym (length-map new device) ∙ ap length same ∙ length-map old device
