-- What each step of an opening leaves, put together of what its calls did.
use Rattle.std.proofs.Common.{◌≡◌, ◌+◌, ℕ, List, [], ◌++◌, ◌⊎◌, inl, inr, length, map, take, zero, suc, refl, true, false, sym, ap, ◌∙◌, subst, arith, length-append}
use Rattle.std.specs.Prelude.{All, IfSome, Option, None, Some, option_map, Vec, Result, Ok, Err, IfOk, IfErr}
use Rattle.nv_plain.specs.Files.{Files}
use Rattle.nv_plain.specs.Images.{Image, version_in}
use Rattle.nv_plain.specs.Layouts.{layout_of, mount_layout, mount_version}
use Rattle.nv_plain.specs.declared.limits.Version.{Version}
use Rattle.nv_pmem.specs.Moments.{Tells}
use Rattle.nv_pmem.specs.Part.{Part}
use Rattle.nv_pmem.specs.RowStates.{AreNow, TellingRowsHaveStates, row_tells_at, row_tells_from}
use Rattle.nv_pmem.specs.Rows.{InEachRowImage, RowTells}
use Rattle.nv_pmem.specs.Steps as lines
use Rattle.nv_pmem.specs.declared.geometry.Geometry.{Geometry}
use Rattle.nv_store.specs.Steps.{StoreHistory}
use Rattle.nv_store.specs.Store.{IsQuietStore}
use Rattle.nv_bench.specs.Benches.{BenchState, with_faults}
use Rattle.nv_bench.specs.Holding.{Holding, NamedStore}
use Rattle.nv_bench.specs.Naming.{HasDistinctStores}
use Rattle.nv_bench.specs.Opening.{is_blank}
use Rattle.nv_bench.specs.declared.bench.BenchError.{BenchError}
use Rattle.nv_bench.specs.declared.bench.BenchError.TheVariants.{Failed, NoMemory}
use Rattle.nv_header.specs.Changes.{parts_after_format}
use Rattle.nv_header.specs.FileNames.{AreFileNames}
use Rattle.nv_header.specs.Regions.{HasEmptyLog}
use Rattle.nv_header.specs.declared.region.Region.{Region}
use Rattle.nv_recover.specs.Answers.{answer_of, parts_after}
use Rattle.nv_recover.specs.Telling.{AllTell}
use Rattle.nv_recover.specs.declared.recovering.Recovered.{Recovered}
use Rattle.nv_open.specs.Held.{AreUnwritten, HoldFiles, IsRecovered, files_named}
use Rattle.nv_open.specs.Adding.{all_names, new_names}
use Rattle.nv_open.specs.Begun.{IsFormatted, IsOpeningBegun, files_behind}
use Rattle.nv_open.specs.Layers.{HasAdded, HasNotAdded, IsBegunOpen, IsNotBegun, IsNotRecovered, IsOpenedOpen, IsRecoveredOpen, IsUnopened}
use Rattle.nv_open.specs.Lending.{stores_lent, without_named}
use Rattle.nv_open.specs.Refusals.{IsRefusedFor, head_image, of_bench}
use Rattle.nv_open.specs.Unopened.{GivesBack, HasFirstNames, HasHeader, HasRest, HasSome, HaveSameLines, InEachImage, IsGood, IsUntouched, RestsUnopened, StandForFiles, StandsAsBefore, StandsOpening, TellRow, line_counts, version_known}
use Rattle.nv_open.specs.declared.error.OpenError.{OpenError}
use Rattle.nv_open.specs.declared.error.OpenError.TheVariants as error
use Rattle.nv_open.specs.declared.error.Refusal.{Refusal}
use Rattle.nv_open.specs.declared.error.Refusal.TheVariants.{TooManyFiles}
use Rattle.nv_open.proofs.Beginnings.{begun_formatted, begun_kept, files_blank, if_some_any, if_some_map, refused_kept, unwritten_since}
use Rattle.nv_open.proofs.GivenBack.{at_some, if_some}
use Rattle.nv_open.proofs.LineCounts.{lines_behind}
use Rattle.nv_open.proofs.Openings.{opened_none}
use Rattle.nv_open.proofs.Partly.{kept_version, row_more}
use Rattle.nv_open.proofs.PartlyBack.{added_back, alone_are, kept_back, never_too_many, too_many_rest, with_wanted}
use Rattle.nv_open.proofs.WithWanted.{lent_both, not_opened, opened_passed, still_quiet, too_many}
use Rattle.std.proofs.lemmas.List.Elements.{All-nil}

-- a bench refuses nothing
pub never_by_bench : {A : Type 0} (why : Refusal) (of : BenchError) (told : OpenError) → told ≡ of_bench of → told ≡ error.Refused why → A
never_by_bench why Failed told is refused = absurd (let both : error.Fault ≡ error.Refused why = sym is ∙ refused in cc)
never_by_bench why NoMemory told is refused = absurd (let both : error.NoMemory ≡ error.Refused why = sym is ∙ refused in cc)

-- nor does a fault
pub never_by_fault : {A : Type 0} (why : Refusal) (told : OpenError) → told ≡ error.Fault → told ≡ error.Refused why → A
never_by_fault why told is refused = absurd (let both : error.Fault ≡ error.Refused why = sym is ∙ refused in cc)

-- nor does want of memory
pub never_by_memory : {A : Type 0} (why : Refusal) → error.NoMemory ≡ error.Refused why → A
never_by_memory why refused = absurd (let both : error.NoMemory ≡ error.Refused why = refused in cc)

-- a region that was opened, and isn't blank, is good
pub good_begun : (told : List Part) (geometry : Geometry) (page entries : ℕ) (names : List (List ℕ)) (next : ℕ) → IsOpeningBegun told geometry page entries names next → is_blank told ≡ false → IsGood told
good_begun told geometry page entries names next begun kept =
    let recovered = (begun.kept kept).recovered in record { readable = recovered.readable; long = recovered.long; fits = recovered.log.fits }

pub never_bad : (found : Option Holding) (row : List lines.PartHistory) (P : Holding → List Part → Type 0) → RowTells row (λ told. is_blank told ≡ false → ¬ (IsGood told) → ⊥)
    → IfSome found (λ holding. RowTells row (λ told. is_blank told ≡ false → ¬ (IsGood told) → P holding told))
never_bad None row P never = tt
never_bad (Some holding) row P never =
    row_tells_from row (λ told. is_blank told ≡ false → ¬ (IsGood told) → P holding told) (λ told are kept not_good. absurd (row_tells_at row (λ told. is_blank told ≡ false → ¬ (IsGood told) → ⊥) told are never kept not_good))

pub not_blank : (found : Option Holding) (row : List lines.PartHistory) (P : Holding → List Part → Type 0) → IfSome found (λ holding. RowTells row (λ told. ¬ (IsGood told) → P holding told))
    → IfSome found (λ holding. RowTells row (λ told. is_blank told ≡ false → ¬ (IsGood told) → P holding told))
not_blank None row P each = tt
not_blank (Some holding) row P each =
    row_tells_from row (λ told. is_blank told ≡ false → ¬ (IsGood told) → P holding told) (λ told are kept. row_tells_at row (λ told. ¬ (IsGood told) → P holding told) told are each)

-- the lines of the parts that an error left
pub lines_left : {X A E : Type 0} {g : _} (part_history : X → lines.PartHistory) (row : List lines.PartHistory) (result : Result (Region X g) (Vec X A × E)) → HaveSameLines row (map part_history (parts_after_format result))
    → IfErr result (λ failed. HaveSameLines row (map part_history failed.0.items))
lines_left part_history row (Ok region) alike = tt
lines_left part_history row (Err failed) alike = alike

pub lines_after : {X A E : Type 0} {g : _} (part_history : X → lines.PartHistory) (row : List lines.PartHistory) (result : Result (Region X g × Recovered) (Vec X A × E)) → HaveSameLines row (map part_history (parts_after result))
    → IfErr result (λ failed. HaveSameLines row (map part_history failed.0.items))
lines_after part_history row (Ok done) alike = tt
lines_after part_history row (Err failed) alike = alike

-- a version that is that of a mount is known of any region
pub mounted : (row : List lines.PartHistory) → RowTells row (λ told. (mount_version ≡ version_known told) ⊎ (mount_version ≡ mount_version))
mounted row = row_tells_from row (λ told. (mount_version ≡ version_known told) ⊎ (mount_version ≡ mount_version)) (λ told are. inr refl)

module _ {X Y : Type 0} (part_history : X → lines.PartHistory) (store_history : Y → StoreHistory) (old new : BenchState) (before : List X) (stores : List Y) where
  -- ---- a recovery

  pub is_recovered : {A : Type 0} {g : _} (result : Result (Region X g × Recovered) (Vec X A × OpenError)) (names : List (List ℕ)) (back : List X)
      → new ≡ with_faults new.faults (stores_lent names old) → length stores ≡ length names → map part_history back ≡ map part_history before
      → IfOk result (λ done. done.0.names ≡ names)
      → IfOk result (λ done. RowTells (map part_history back) (λ told. IsRecovered told done.0.geometry.page done.0.geometry.entries done.0.names done.0.next done.1))
      → IfOk result (λ done. IfSome old.told (λ holding. RowTells (map part_history before) (λ told. HoldFiles (map store_history stores) (files_named told done.0.names holding.stores))))
      → IfOk result (λ done. All (λ (store : Y). Tells (store_history store) IsQuietStore) stores)
      → IfOk result (λ done. IfSome old.told (λ holding. AllTell (map part_history done.0.parts.items)))
      → HaveSameLines (map part_history back) (map part_history (parts_after result))
      → IfOk result (λ done. IsRecoveredOpen part_history store_history old new before stores done.0.geometry.page done.0.geometry.entries done.0.names done.0.next done.0.parts.items done.1)
  is_recovered (Ok done) names back lent one_each same are recovered files quiet tell alike = record {
    devices = record {
      lent = subst (λ (these : List (List ℕ)). new ≡ with_faults new.faults (stores_lent these old)) (sym are) lent;
      one_each = one_each ∙ ap length (sym are);
      quiet = quiet;
      tell = tell;
      lines_kept = if_some_any old.told (subst (λ (row : List lines.PartHistory). HaveSameLines row (map part_history done.0.parts.items)) same alike);
    };
    recovered = subst (λ (row : List lines.PartHistory). RowTells row (λ told. IsRecovered told done.0.geometry.page done.0.geometry.entries done.0.names done.0.next done.1)) same recovered;
    files = files;
  }
  is_recovered (Err failed) names back lent one_each same are recovered files quiet tell alike = tt

  pub not_recovered : {A : Type 0} {g : _} (result : Result (Region X g × Recovered) (Vec X A × OpenError))
      → ((why : Refusal) → answer_of result ≡ Err (error.Refused why) → RowTells (map part_history before) (λ told. IsRefusedFor told why))
      → ((why : Refusal) → answer_of result ≡ Err (error.Refused why) → AreUnwritten part_history store_history why old new before (parts_after result) stores)
      → IfErr result (λ failed. IfSome old.told (λ holding. RowTells (map part_history before) (λ told. HasHeader told
      → GivesBack part_history store_history (StandsAsBefore (record { parts = told; stores = holding.stores })) new failed.0.items stores)))
      → IfErr result (λ failed. IfSome old.told (λ holding. RowTells (map part_history before) (λ told. ¬ (IsGood told)
      → GivesBack part_history store_history (IsUntouched (record { parts = told; stores = holding.stores })) new failed.0.items stores)))
      → IfErr result (λ failed. IsNotRecovered part_history store_history old new before failed.0.items stores failed.1)
  not_recovered (Ok done) refused unwritten standing untouched = tt
  not_recovered (Err failed) refused unwritten standing untouched = record {
    refused = λ why is. refused why (ap Err is);
    unwritten = λ why is. unwritten why (ap Err is);
    standing = standing;
    untouched = untouched;
  }

  -- ---- a beginning

  pub formatted_begins : {A : Type 0} {g : _} (result : Result (Region X g) (Vec X A × OpenError)) (back : List X) (geometry : Geometry)
      → new ≡ with_faults new.faults (stores_lent [] old) → stores ≡ [] → map part_history back ≡ map part_history before → RowTells (map part_history before) (λ told. is_blank told ≡ true)
      → IfSome old.told (λ holding. AllTell (map part_history before))
      → IfOk result (λ region. IsFormatted geometry region.geometry.page region.geometry.entries region.names region.next)
      → HaveSameLines (map part_history back) (map part_history (parts_after_format result))
      → (AllTell (map part_history back) → IfOk result (λ region. AllTell (map part_history region.parts.items)))
      → IfOk result (λ region. IsBegunOpen part_history store_history old new before stores geometry region.geometry.page region.geometry.entries region.names region.next region.parts.items)
  formatted_begins (Ok region) back geometry none no_store same blank tell formatted alike tells = record {
    devices = record {
      lent = subst (λ (these : List (List ℕ)). new ≡ with_faults new.faults (stores_lent these old)) (sym formatted.names_are) none;
      one_each = ap length no_store ∙ sym (ap length formatted.names_are);
      quiet = subst (λ (these : List Y). All (λ (store : Y). Tells (store_history store) IsQuietStore) these) (sym no_store) (All-nil (λ (store : Y). Tells (store_history store) IsQuietStore));
      tell = if_some_map old.told tell (λ told. tells (subst AllTell (sym same) told));
      lines_kept = if_some_any old.told (subst (λ (row : List lines.PartHistory). HaveSameLines row (map part_history region.parts.items)) same alike);
    };
    begun = begun_formatted (map part_history before) geometry region.geometry.page region.geometry.entries region.names region.next blank formatted;
    files = files_blank (map part_history before) (map store_history stores) old.told region.names formatted.names_are (ap (map store_history) no_store) blank;
  }
  formatted_begins (Err failed) back geometry none no_store same blank tell formatted alike tells = tt

  pub recovered_begins : (back parts : List X) (geometry : Geometry) (page entries : ℕ) (names : List (List ℕ)) (next : ℕ) (found : Recovered)
      → map part_history back ≡ map part_history before → RowTells (map part_history before) (λ told. is_blank told ≡ false)
      → IsRecoveredOpen part_history store_history old new back stores page entries names next parts found
      → IsBegunOpen part_history store_history old new before stores geometry page entries names next parts
  recovered_begins back parts geometry page entries names next found same blank is = record {
    devices = record { lent = is.devices.lent; one_each = is.devices.one_each; quiet = is.devices.quiet; tell = is.devices.tell; lines_kept = subst (λ (row : List lines.PartHistory). IfSome old.told (λ holding. HaveSameLines row (map part_history parts))) same is.devices.lines_kept };
    begun =
        begun_kept (map part_history before) geometry page entries names next found blank
        (subst (λ (row : List lines.PartHistory). RowTells row (λ told. IsRecovered told page entries names next found)) same is.recovered);
    files = subst (λ (row : List lines.PartHistory). IfSome old.told (λ holding. RowTells row (λ told. HoldFiles (map store_history stores) (files_named told names holding.stores)))) same is.files;
  }

  pub not_formatted : {A : Type 0} {g : _} (result : Result (Region X g) (Vec X A × OpenError)) (geometry : Geometry)
      → ((why : Refusal) → IfErr result (λ failed. failed.1 ≡ error.Refused why → IfSome old.told (λ holding. RowTells (map part_history before) (λ told. (is_blank told ≡ false) × IsRefusedFor told why))))
      → ((why : Refusal) → IfErr result (λ failed. failed.1 ≡ error.Refused why → AreUnwritten part_history store_history why old new before failed.0.items stores))
      → ((wanted : List (List ℕ)) → IfErr result (λ failed. IfSome old.told (λ holding. RowTells (map part_history before) (λ told. StandForFiles told
      → GivesBack part_history store_history (StandsOpening (line_counts told) geometry (record { parts = told; stores = holding.stores }) wanted) new failed.0.items stores))))
      → IfErr result (λ failed. IfSome old.told (λ holding. RowTells (map part_history before) (λ told. is_blank told ≡ false → ¬ (IsGood told)
      → GivesBack part_history store_history (IsUntouched (record { parts = told; stores = holding.stores })) new failed.0.items stores)))
      → IfErr result (λ failed. IsNotBegun part_history store_history old new before failed.0.items stores geometry failed.1)
  not_formatted (Ok region) geometry refused unwritten standing untouched = tt
  not_formatted (Err failed) geometry refused unwritten standing untouched = record { refused = refused; unwritten = unwritten; standing = standing; untouched = untouched }

  pub not_recovered_begins : (back left : List X) (geometry : Geometry) (error : OpenError)
      → map part_history back ≡ map part_history before → RowTells (map part_history before) (λ told. is_blank told ≡ false)
      → IsNotRecovered part_history store_history old new back left stores error
      → IsNotBegun part_history store_history old new before left stores geometry error
  not_recovered_begins back left geometry error same blank is = record {
    refused = λ why refused.
        if_some_any old.told
        (refused_kept (map part_history before) why blank (subst (λ (row : List lines.PartHistory). RowTells row (λ told. IsRefusedFor told why)) same (is.refused why refused)));
    unwritten = λ why refused. unwritten_since part_history store_history why old new before back left stores same (is.unwritten why refused);
    standing = λ wanted.
        kept_back part_history store_history old new (map part_history before) left stores geometry wanted blank
        (subst (λ (row : List lines.PartHistory). IfSome old.told (λ holding. RowTells row (λ told. HasHeader told
        → GivesBack part_history store_history (StandsAsBefore (record { parts = told; stores = holding.stores })) new left stores))) same is.standing);
    untouched =
        not_blank old.told (map part_history before) (λ holding told. GivesBack part_history store_history (IsUntouched (record { parts = told; stores = holding.stores })) new left stores)
        (subst (λ (row : List lines.PartHistory). IfSome old.told (λ holding. RowTells row (λ told. ¬ (IsGood told)
        → GivesBack part_history store_history (IsUntouched (record { parts = told; stores = holding.stores })) new left stores))) same is.untouched);
  }

  -- the same of parts that tell the same
  pub begun_since : (back parts : List X) (geometry : Geometry) (page entries : ℕ) (names : List (List ℕ)) (next : ℕ) → map part_history back ≡ map part_history before
      → IsBegunOpen part_history store_history old new back stores geometry page entries names next parts → IsBegunOpen part_history store_history old new before stores geometry page entries names next parts
  begun_since back parts geometry page entries names next same is = record {
    devices = record { lent = is.devices.lent; one_each = is.devices.one_each; quiet = is.devices.quiet; tell = is.devices.tell; lines_kept = subst (λ (row : List lines.PartHistory). IfSome old.told (λ holding. HaveSameLines row (map part_history parts))) same is.devices.lines_kept };
    begun = subst (λ (row : List lines.PartHistory). RowTells row (λ told. IsOpeningBegun told geometry page entries names next)) same is.begun;
    files = subst (λ (row : List lines.PartHistory). IfSome old.told (λ holding. RowTells row (λ told. HoldFiles (map store_history stores) (files_named told names holding.stores)))) same is.files;
  }

  pub not_begun_since : (back left : List X) (geometry : Geometry) (error : OpenError) → map part_history back ≡ map part_history before
      → IsNotBegun part_history store_history old new back left stores geometry error → IsNotBegun part_history store_history old new before left stores geometry error
  not_begun_since back left geometry error same is = record {
    refused = λ why refused. subst (λ (row : List lines.PartHistory). IfSome old.told (λ holding. RowTells row (λ told. (is_blank told ≡ false) × IsRefusedFor told why))) same (is.refused why refused);
    unwritten = λ why refused. unwritten_since part_history store_history why old new before back left stores same (is.unwritten why refused);
    standing = λ wanted.
        subst (λ (row : List lines.PartHistory). IfSome old.told (λ holding. RowTells row (λ told. StandForFiles told
        → GivesBack part_history store_history (StandsOpening (line_counts told) geometry (record { parts = told; stores = holding.stores }) wanted) new left stores))) same (is.standing wanted);
    untouched =
        subst (λ (row : List lines.PartHistory). IfSome old.told (λ holding. RowTells row (λ told. is_blank told ≡ false → ¬ (IsGood told)
        → GivesBack part_history store_history (IsUntouched (record { parts = told; stores = holding.stores })) new left stores))) same is.untouched;
  }

  -- ---- names that are added

  pub is_added : {A : Type 0} {g : _} (result : Result (Region X g) (Vec X A × OpenError)) (region_geometry : Geometry) (known wanted missing : List (List ℕ)) (region_next : ℕ) (stores_before : List Y)
      → missing ≡ new_names known wanted
      → new ≡ with_faults new.faults (stores_lent missing old)
      → ((files : Files) → HoldFiles (map store_history stores_before) files → IfSome old.told (λ holding. HoldFiles (map store_history stores) (files_behind files missing holding.stores)))
      → length stores ≡ length stores_before + length missing
      → (All (λ (store : Y). Tells (store_history store) IsQuietStore) stores_before → All (λ (store : Y). Tells (store_history store) IsQuietStore) stores)
      → IfOk result (λ added. added.geometry ≡ region_geometry) → IfOk result (λ added. added.names ≡ known ++ missing) → IfOk result (λ added. added.next ≡ region_next)
      → (AllTell (map part_history before) → IfOk result (λ added. AllTell (map part_history added.parts.items)))
      → HaveSameLines (map part_history before) (map part_history (parts_after_format result))
      → IfOk result (λ added. HasAdded part_history store_history old new region_geometry added.geometry known wanted added.names region_next added.next before added.parts.items stores_before stores)
  is_added (Ok added) region_geometry known wanted missing region_next stores_before are more files one_each quiet geometry_is names_are next_is tell alike = record {
    geometry_is = geometry_is;
    names_are = names_are ∙ ap (λ (these : List (List ℕ)). known ++ these) are;
    next_is = next_is;
    more = subst (λ (these : List (List ℕ)). new ≡ with_faults new.faults (stores_lent these old)) are more;
    files = λ held holds. subst (λ (these : List (List ℕ)). IfSome old.told (λ holding. HoldFiles (map store_history stores) (files_behind held these holding.stores))) are (files held holds);
    one_each = one_each ∙ ap (λ (these : List (List ℕ)). length stores_before + length these) are;
    quiet = quiet;
    tell = tell;
    lines_kept = alike;
  }
  is_added (Err failed) region_geometry known wanted missing region_next stores_before are more files one_each quiet geometry_is names_are next_is tell alike = tt

  pub not_added : {A : Type 0} {g : _} (result : Result (Region X g) (Vec X A × OpenError)) (page entries : ℕ) (known wanted : List (List ℕ)) (next : ℕ) (stores_before : List Y)
      → ((why : Refusal) → IfErr result (λ failed. ¬ (failed.1 ≡ error.Refused why)))
      → ((files : Files) → HoldFiles (map store_history stores_before) files → IfErr result (λ failed. IfSome old.told (λ holding. (told : List Part) → AreNow (map part_history before) told
      → GivesBack part_history store_history (λ now. InEachImage (HasSome mount_version page entries (length known) (all_names known wanted) (files_behind files (new_names known wanted) holding.stores)) now × HasRest (line_counts told) known holding.stores now) new failed.0.items stores)))
      → IfErr result (λ failed. HasNotAdded part_history store_history old new page entries known wanted next before failed.0.items stores_before stores failed.1)
  not_added (Ok added) page entries known wanted next stores_before never standing = tt
  not_added (Err failed) page entries known wanted next stores_before never standing = record {
    refused = λ why is. absurd (never why is);
    rests = λ files holds is. absurd (never TooManyFiles is);
    standing = standing;
  }

-- ---- a region that is carried over

-- none of the names that are to come is there
none_yet : (version : Version) (page entries : ℕ) (known more : List (List ℕ)) (next : ℕ) (image : Image) → HasFirstNames version page entries known [] next image → HasFirstNames version page entries known more next image
none_yet version page entries known more next image has =
    let no_name : take has.count [] ≡ take 0 more = take_none has.count in
    record { now = has.now; now_is = has.now_is; count = 0; empty = subst (λ (names : List (List ℕ)). HasEmptyLog (layout_of has.now) page entries (known ++ names) next image) no_name has.empty }
  where
    no_names : List (List ℕ)
    no_names = []

    take_none : (count : ℕ) → take count no_names ≡ no_names
    take_none zero = refl
    take_none (suc count) = refl

module _ {X Y A : Type 0} {g : _} (part_history : X → lines.PartHistory) (store_history : Y → StoreHistory) (old new : BenchState) (before region_parts : List X) (stores : List Y) (geometry : Geometry)
    (region_geometry : Geometry) (known : List (List ℕ)) (next : ℕ) (begun : IsBegunOpen part_history store_history old new before stores geometry region_geometry.page region_geometry.entries known next region_parts)
    (states : TellingRowsHaveStates) (result : Result (Region X g) (Vec X A × OpenError)) where
  pub carried_begins : IfOk result (λ carried. carried.geometry ≡ region_geometry) → IfOk result (λ carried. carried.names ≡ known) → IfOk result (λ carried. carried.next ≡ next)
      → HaveSameLines (map part_history region_parts) (map part_history (parts_after_format result))
      → (AllTell (map part_history region_parts) → IfOk result (λ carried. AllTell (map part_history carried.parts.items)))
      → IfOk result (λ carried. IsBegunOpen part_history store_history old new before stores geometry carried.geometry.page carried.geometry.entries carried.names carried.next carried.parts.items)
  carried_begins = by result
    where
      by : (result : Result (Region X g) (Vec X A × OpenError)) → IfOk result (λ carried. carried.geometry ≡ region_geometry) → IfOk result (λ carried. carried.names ≡ known) → IfOk result (λ carried. carried.next ≡ next)
          → HaveSameLines (map part_history region_parts) (map part_history (parts_after_format result))
          → (AllTell (map part_history region_parts) → IfOk result (λ carried. AllTell (map part_history carried.parts.items)))
          → IfOk result (λ carried. IsBegunOpen part_history store_history old new before stores geometry carried.geometry.page carried.geometry.entries carried.names carried.next carried.parts.items)
      by (Err failed) geometry_is names_are next_is alike tells = tt
      by (Ok carried) geometry_is names_are next_is alike tells =
          let Begun : Geometry → List (List ℕ) → ℕ → Type 0 = λ sizes names next. IsBegunOpen part_history store_history old new before stores geometry sizes.page sizes.entries names next carried.parts.items in
          let here : Begun region_geometry known next = record {
            devices = record {
              lent = begun.devices.lent;
              one_each = begun.devices.one_each;
              quiet = begun.devices.quiet;
              tell = if_some_map old.told begun.devices.tell tells;
              lines_kept =
                  if_some old.told (λ holding. HaveSameLines (map part_history before) (map part_history carried.parts.items)) (λ holding told_is.
                  lines_behind states (map part_history before) (map part_history region_parts) (map part_history carried.parts.items) (at_some old.told (λ holding. AllTell (map part_history region_parts)) holding told_is begun.devices.tell)
                  (at_some old.told (λ holding. HaveSameLines (map part_history before) (map part_history region_parts)) holding told_is begun.devices.lines_kept) alike);
            };
            begun = begun.begun;
            files = begun.files;
          } in
          subst (λ (sizes : Geometry). Begun sizes carried.names carried.next) (sym geometry_is)
          (subst (λ (names : List (List ℕ)). Begun region_geometry names carried.next) (sym names_are) (subst (λ (n : ℕ). Begun region_geometry known n) (sym next_is) here))

  -- Where that failed it stands as after a recovery, in one of the two versions.
  pub not_carried : (version : Version) → RowTells (map part_history before) (λ told. is_blank told ≡ false) → RowTells (map part_history before) (λ told. version ≡ version_in (head_image told))
      → HasDistinctStores new → old.lent ≡ [] → AreFileNames mount_layout known → IfSome old.told (λ holding. All (λ (named : NamedStore). IsQuietStore named.store) holding.stores)
      → ((why : Refusal) → IfErr result (λ failed. ¬ (failed.1 ≡ error.Refused why)))
      → (AllTell (map part_history region_parts) → IfErr result (λ failed.
      TellRow (InEachRowImage (HasFirstNames version region_geometry.page region_geometry.entries known [] next)) (map part_history failed.0.items)))
      → HaveSameLines (map part_history region_parts) (map part_history (parts_after_format result))
      → IfErr result (λ failed. IsNotBegun part_history store_history old new before failed.0.items stores geometry failed.1)
  not_carried version kept of named home are_names synced = by result
    where
      row : List lines.PartHistory
      row = map part_history before

      mid_told : new.told ≡ option_map (without_named known) old.told
      mid_told = ap (λ (state : BenchState). state.told) begun.devices.lent

      known_version : RowTells row (λ told. (version ≡ version_known told) ⊎ (version ≡ mount_version))
      known_version =
          row_tells_from row (λ told. (version ≡ version_known told) ⊎ (version ≡ mount_version)) (λ told are.
          inl (row_tells_at row (λ told. version ≡ version_in (head_image told)) told are of ∙ sym (kept_version told (row_tells_at row (λ told. is_blank told ≡ false) told are kept))))

      by : (result : Result (Region X g) (Vec X A × OpenError)) → ((why : Refusal) → IfErr result (λ failed. ¬ (failed.1 ≡ error.Refused why)))
          → (AllTell (map part_history region_parts) → IfErr result (λ failed.
          TellRow (InEachRowImage (HasFirstNames version region_geometry.page region_geometry.entries known [] next)) (map part_history failed.0.items)))
          → HaveSameLines (map part_history region_parts) (map part_history (parts_after_format result))
          → IfErr result (λ failed. IsNotBegun part_history store_history old new before failed.0.items stores geometry failed.1)
      by (Ok carried) never left alike = tt
      by (Err failed) never left alike = record {
        refused = λ why is. absurd (never why is);
        unwritten = λ why is. absurd (never why is);
        standing = λ wanted.
            let none = opened_none {Y = Y} store_history (λ store. 0) new stores stores refl in
            if_some old.told (λ holding. RowTells row (λ told. StandForFiles told
            → GivesBack part_history store_history (StandsOpening (line_counts told) geometry (record { parts = told; stores = holding.stores }) wanted) new failed.0.items stores)) (λ holding told_is.
            at_some old.told (λ holding. RowTells row (λ told. StandForFiles told
            → GivesBack part_history store_history (StandsOpening (line_counts told) geometry (record { parts = told; stores = holding.stores }) wanted) new failed.0.items stores)) holding told_is
            (with_wanted {T = ℕ} part_history store_history (Err failed) (λ (failed : Vec X A × OpenError). failed.0.items) old.told new.told new row (map part_history region_parts) (map store_history stores) stores geometry
            version region_geometry.page region_geometry.entries known wanted next known_version states (at_some old.told (λ holding. HaveSameLines row (map part_history region_parts)) holding told_is begun.devices.lines_kept) mid_told begun.begun begun.files begun.devices.tell
            (λ files holds.
            added_back part_history store_history new new (map part_history region_parts) failed.0.items stores stores none.stores version known wanted [] region_geometry.page region_geometry.entries next files named
            (ap (λ (state : BenchState). state.lent) begun.devices.lent ∙ ap (λ (front : List (List ℕ)). front ++ known) home) (alone_are known are_names) begun.devices.one_each holds
            (still_quiet (length stores) old new (record { names = known; lent = begun.devices.lent; one_each = begun.devices.one_each }) synced) none.behind none.lent none.told
            (λ tell. row_more (HasFirstNames version region_geometry.page region_geometry.entries known [] next) (HasFirstNames version region_geometry.page region_geometry.entries known (new_names known wanted) next)
            (map part_history failed.0.items) (λ image has. none_yet version region_geometry.page region_geometry.entries known (new_names known wanted) next image has) (left tell)) alike)));
        untouched =
            never_bad old.told row (λ holding told. GivesBack part_history store_history (IsUntouched (record { parts = told; stores = holding.stores })) new failed.0.items stores)
            (row_tells_from row (λ told. is_blank told ≡ false → ¬ (IsGood told) → ⊥) (λ told are kept not_good.
            not_good (good_begun told geometry region_geometry.page region_geometry.entries known next
            (row_tells_at row (λ told. IsOpeningBegun told geometry region_geometry.page region_geometry.entries known next) told are begun.begun) kept)));
      }

module _ {X Y A : Type 0} {g : _} (part_history : X → lines.PartHistory) (store_history : Y → StoreHistory) (old mid new : BenchState) (before region_parts : List X) (stores_mid stores : List Y) (geometry : Geometry) (wanted : List (List ℕ))
    (region_geometry : Geometry) (known : List (List ℕ)) (next : ℕ) (begun : IsBegunOpen part_history store_history old mid before stores_mid geometry region_geometry.page region_geometry.entries known next region_parts) (states : TellingRowsHaveStates) (result : Result (Region X g) (Vec X A × OpenError)) where
  mid_told : mid.told ≡ option_map (without_named known) old.told
  mid_told = ap (λ (state : BenchState). state.told) begun.devices.lent

  pub added_opens : IfOk result (λ added. HasAdded part_history store_history mid new region_geometry added.geometry known wanted added.names next added.next region_parts added.parts.items stores_mid stores)
      → IfOk result (λ added. IsOpenedOpen part_history store_history old new before stores geometry wanted added.geometry.page added.geometry.entries added.names added.next added.parts.items)
  added_opens = by result
    where
      by : (result : Result (Region X g) (Vec X A × OpenError))
          → IfOk result (λ added. HasAdded part_history store_history mid new region_geometry added.geometry known wanted added.names next added.next region_parts added.parts.items stores_mid stores)
          → IfOk result (λ added. IsOpenedOpen part_history store_history old new before stores geometry wanted added.geometry.page added.geometry.entries added.names added.next added.parts.items)
      by (Err failed) is = tt
      by (Ok added) is = record {
        devices = record {
          lent =
              subst (λ (these : List (List ℕ)). new ≡ with_faults new.faults (stores_lent these old)) (sym is.names_are) (lent_both known (new_names known wanted) old mid new begun.devices.lent is.more);
          one_each = omega (arith, is.one_each, begun.devices.one_each, ap length is.names_are, length-append known (new_names known wanted));
          quiet = is.quiet begun.devices.quiet;
          tell = if_some_map old.told begun.devices.tell is.tell;
          lines_kept =
              if_some old.told (λ holding. HaveSameLines (map part_history before) (map part_history added.parts.items)) (λ holding told_is.
              lines_behind states (map part_history before) (map part_history region_parts) (map part_history added.parts.items) (at_some old.told (λ holding. AllTell (map part_history region_parts)) holding told_is begun.devices.tell)
              (at_some old.told (λ holding. HaveSameLines (map part_history before) (map part_history region_parts)) holding told_is begun.devices.lines_kept) is.lines_kept);
        };
        known = (known, is.names_are);
        opened =
            opened_passed {E = OpenError} (λ (one : Geometry × (List (List ℕ) × ℕ)). one.0.page) (λ one. one.0.entries) (λ one. one.1.1) (λ one. one.1.0) (Ok (added.geometry, (added.names, added.next))) old.told mid.told (map part_history before) geometry wanted
            region_geometry.page region_geometry.entries known next (map store_history stores_mid) (map store_history stores) mid_told begun.begun begun.files is.files is.names_are (ap (λ (one : Geometry). one.page) is.geometry_is)
            (ap (λ (one : Geometry). one.entries) is.geometry_is) is.next_is;
      }

  pub not_added_opens : IfErr result (λ failed. HasNotAdded part_history store_history mid new region_geometry.page region_geometry.entries known wanted next region_parts failed.0.items stores_mid stores failed.1)
      → IfErr result (λ failed. IsUnopened part_history store_history old new before failed.0.items stores geometry wanted failed.1)
  not_added_opens = by result
    where
      by : (result : Result (Region X g) (Vec X A × OpenError))
          → IfErr result (λ failed. HasNotAdded part_history store_history mid new region_geometry.page region_geometry.entries known wanted next region_parts failed.0.items stores_mid stores failed.1)
          → IfErr result (λ failed. IsUnopened part_history store_history old new before failed.0.items stores geometry wanted failed.1)
      by (Ok added) is = tt
      by (Err failed) is = record {
        refused = λ why refused.
            if_some_any old.told
            (too_many (map part_history before) geometry wanted region_geometry.page region_geometry.entries known next why begun.begun (is.refused why refused).0 (is.refused why refused).1);
        unwritten = λ why refused other. absurd (other (is.refused why refused).0);
        rests =
            too_many_rest {T = ℕ} part_history store_history (Err failed) (λ (failed : Vec X A × OpenError). failed.0.items) (λ (failed : Vec X A × OpenError). failed.1 ≡ error.Refused TooManyFiles) old.told mid.told new (map part_history before) (map part_history region_parts)
            (map store_history stores_mid) stores geometry region_geometry.page region_geometry.entries known wanted next mid_told begun.begun begun.files begun.devices.tell (λ refused. (is.refused TooManyFiles refused).1) is.rests;
        standing = if_some old.told (λ holding. RowTells (map part_history before) (λ told. StandForFiles told
            → GivesBack part_history store_history (StandsOpening (line_counts told) geometry (record { parts = told; stores = holding.stores }) wanted) new failed.0.items stores)) (λ holding told_is.
            at_some old.told (λ holding. RowTells (map part_history before) (λ told. StandForFiles told
            → GivesBack part_history store_history (StandsOpening (line_counts told) geometry (record { parts = told; stores = holding.stores }) wanted) new failed.0.items stores)) holding told_is
            (with_wanted {T = ℕ} part_history store_history (Err failed) (λ (failed : Vec X A × OpenError). failed.0.items) old.told mid.told new (map part_history before) (map part_history region_parts) (map store_history stores_mid) stores geometry
            mount_version region_geometry.page region_geometry.entries known wanted next (mounted (map part_history before)) states (at_some old.told (λ holding. HaveSameLines (map part_history before) (map part_history region_parts)) holding told_is begun.devices.lines_kept) mid_told begun.begun begun.files begun.devices.tell is.standing));
        untouched =
            never_bad old.told (map part_history before) (λ holding told. GivesBack part_history store_history (IsUntouched (record { parts = told; stores = holding.stores })) new failed.0.items stores)
            (row_tells_from (map part_history before) (λ told. is_blank told ≡ false → ¬ (IsGood told) → ⊥) (λ told are kept not_good.
            not_good (good_begun told geometry region_geometry.page region_geometry.entries known next
            (row_tells_at (map part_history before) (λ told. IsOpeningBegun told geometry region_geometry.page region_geometry.entries known next) told are begun.begun) kept)));
      }

pub not_begun_opens : {X Y : Type 0} (part_history : X → lines.PartHistory) (store_history : Y → StoreHistory) (old new : BenchState) (before back : List X) (stores : List Y) (geometry : Geometry) (wanted : List (List ℕ)) (error : OpenError)
    → IsNotBegun part_history store_history old new before back stores geometry error → IsUnopened part_history store_history old new before back stores geometry wanted error
not_begun_opens part_history store_history old new before back stores geometry wanted error is = record {
  refused = λ why refused. if_some_map old.told (is.refused why refused) (not_opened (map part_history before) geometry wanted why);
  unwritten = λ why refused other. is.unwritten why refused;
  rests = λ refused.
      never_too_many old.told (map part_history before)
      (λ holding told. GivesBack part_history store_history (RestsUnopened (record { parts = told; stores = holding.stores }) geometry wanted) new back stores)
      (is.refused TooManyFiles refused);
  standing = is.standing wanted;
  untouched = is.untouched;
}
