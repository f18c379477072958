-- What a bench tells to which the devices of an opening come back that failed.
use Rattle.std.proofs.Common.{◌≡◌, ℕ, ◌+◌, ◌<◌, zero, suc, Bool, true, false, not, cond, List, [], ◌∷◌, ◌++◌, ◌⊎◌, length, map, take, inl, inr, refl, sym, ap, subst, ◌∙◌, arith}
use Rattle.std.specs.Prelude.{All, Contains, Option, Some, None, IfSome, Result, Ok, Err, IfErr, option_map}
use Rattle.std.proofs.Math.Seq.{take-append-add}
use Rattle.std.proofs.lemmas.List.{append-nil, get_or-take, length-map, length-take, map-append}
use Rattle.std.proofs.lemmas.List.Elements.{Contains-append_left}
use Rattle.nv_plain.specs.Files.{Files}
use Rattle.nv_plain.specs.Images.{Image, header_of, layout_in, version_in}
use Rattle.nv_plain.specs.Layouts.{mount_layout, mount_version}
use Rattle.nv_plain.specs.declared.limits.Version.{Version}
use Rattle.nv_plain.specs.Recovered.{Fits}
use Rattle.nv_pmem.specs.Laws.{QuietPartHasOneImage}
use Rattle.nv_pmem.specs.Part.{Part}
use Rattle.nv_pmem.specs.RowStates.{AreNow, TellingRowsHaveStates, row_tells_at, row_tells_from}
use Rattle.nv_pmem.specs.Rows.{AreQuiet, InEachRowImage, RowTells, row_words}
use Rattle.nv_pmem.specs.Steps as lines
use Rattle.nv_pmem.specs.declared.geometry.Geometry.{Geometry}
use Rattle.nv_store.specs.Steps.{StoreHistory}
use Rattle.nv_store.specs.Store.{IsQuietStore, Store}
use Rattle.nv_bench.specs.Benches.{BenchState, with_faults}
use Rattle.nv_bench.specs.Holding.{Holding, NamedStore, store_of}
use Rattle.nv_bench.specs.Naming.{AreDistinct, HasDistinctStores, names_of}
use Rattle.nv_bench.specs.Opening.{is_blank, opened}
use Rattle.nv_header.specs.FileNames.{AreFileNames}
use Rattle.nv_header.specs.Heads.{IsHead}
use Rattle.nv_header.specs.Regions.{HasEmptyLog, IsAtRest, IsBlankOrFormatted}
use Rattle.nv_recover.specs.Standing.{files_of}
use Rattle.nv_recover.specs.Telling.{AllTell}
use Rattle.nv_open.specs.Adding.{all_names, is_known, new_names}
use Rattle.nv_open.specs.Begun.{IsOpeningBegun, files_behind, files_with}
use Rattle.nv_open.specs.Held.{HoldFiles, files_named}
use Rattle.nv_open.specs.Lending.{stores_lent, stores_named, without_named, without_stores}
use Rattle.nv_open.specs.Unopened.{HasHeader, GivesBack, HasFirstNames, HasRest, HasSome, HaveSameLines, InEachImage, IsAtRestWith, RestsUnopened, StandForFiles, StandsAsBefore, StandsOpening, StandsUnopened, StandsWithSome, TellRow, as_opened, entries_known, line_counts, names_known, page_known, version_known}
use Rattle.nv_open.specs.Refusals.{IsRefusedFor}
use Rattle.nv_open.specs.declared.error.Refusal.TheVariants.{TooManyFiles}
use Rattle.nv_open.proofs.Additions.{are_now_append}
use Rattle.nv_open.proofs.AsHeld.{begun_before, files_cases}
use Rattle.nv_open.proofs.BlankLaws.{blank_row}
use Rattle.nv_open.proofs.GivenBack.{at_some, if_some, told_with}
use Rattle.nv_open.proofs.LineCounts.{lines_at}
use Rattle.nv_open.proofs.LogLaws.{states_many}
use Rattle.nv_open.proofs.Openings.{store_of_others}
use Rattle.nv_open.proofs.Partly.{begun_back, blank_entries, blank_known, blank_left, blank_page, blank_version, kept_entries, kept_known, kept_left, kept_page, kept_version}
use Rattle.nv_open.proofs.Returns.{states_tell}
use Rattle.nv_open.proofs.Sized.{blank_stays, opened_reads}
use Rattle.nv_open.proofs.Lengthened.{reads_head, reads_names}
use Rattle.nv_open.proofs.WithWanted.{new_stores, not_contained}

-- ---- what is given back, more or less said of it

pub gives_more : {X Y : Type 0} (part_history : X → lines.PartHistory) (store_history : Y → StoreHistory) (P Q : Holding → Type 0) (bench : BenchState) (parts : List X) (stores : List Y) → ((back : Holding) → P back → Q back)
    → GivesBack part_history store_history P bench parts stores → GivesBack part_history store_history Q bench parts stores
gives_more part_history store_history P Q bench parts stores step gives = record {
  now = gives.now;
  held = gives.held;
  now_are = gives.now_are;
  held_are = gives.held_are;
  tells = record { now = gives.tells.now; told_is = gives.tells.told_is; is_so = step gives.tells.now gives.tells.is_so };
}

by_test : {A : Type 0} (b : Bool) → (b ≡ true → A) → (b ≡ false → A) → A
by_test true yes_so no_so = yes_so refl
by_test false yes_so no_so = no_so refl

-- what stands as before stands so too
pub opening_kept : (geometry : Geometry) (was back : Holding) (wanted : List (List ℕ)) → is_blank was.parts ≡ false → HasHeader was.parts → Fits (layout_in (row_words was.parts)) (row_words was.parts) → StandsAsBefore was back → StandsOpening (line_counts was.parts) geometry was wanted back
opening_kept geometry was back wanted blank can fits stands =
    let known = names_known was.parts in
    record {
      images = kept_left geometry was back wanted blank can fits stands;
      rest = record {
        lines_are = stands.rest.lines_are;
        others = λ name other. stands.rest.others name
            (λ there. other (Contains-append_left known (new_names known wanted) name (subst (λ names. Contains names name) (sym (kept_known was.parts blank)) there)));
      };
    }

module _ {X Y : Type 0} (part_history : X → lines.PartHistory) (store_history : Y → StoreHistory) (old new : BenchState) (row : List lines.PartHistory) (parts : List X) (stores : List Y) (geometry : Geometry) (wanted : List (List ℕ)) where
  abbrev was : List Part → Holding → Holding
  was told holding = record { parts = told; stores = holding.stores }

  abbrev Back : List Part → Holding → Type 0
  Back told holding = GivesBack part_history store_history (StandsOpening (line_counts told) geometry (was told holding) wanted) new parts stores

  abbrev Left : Type 0
  Left = IfSome old.told (λ holding. RowTells row (λ told. StandForFiles told → Back told holding))

  -- a region that stands as before
  pub kept_back : RowTells row (λ told. is_blank told ≡ false)
      → IfSome old.told (λ holding. RowTells row (λ told. HasHeader told → GivesBack part_history store_history (StandsAsBefore (record { parts = told; stores = holding.stores })) new parts stores)) → Left
  kept_back blank stands =
      if_some old.told (λ holding. RowTells row (λ told. StandForFiles told → Back told holding)) (λ holding told_is.
      row_tells_from row (λ told. StandForFiles told → Back told holding) (λ told are stand.
      let kept = row_tells_at row (λ told. is_blank told ≡ false) told are blank in
      gives_more part_history store_history (StandsAsBefore (was told holding)) (StandsOpening (line_counts told) geometry (was told holding) wanted) new parts stores
      (λ back. opening_kept geometry (was told holding) back wanted kept (stand.readable kept) (stand.fits kept))
      (row_tells_at row (λ told. HasHeader told → GivesBack part_history store_history (StandsAsBefore (was told holding)) new parts stores) told are
      (at_some old.told (λ holding. RowTells row (λ told. HasHeader told → GivesBack part_history store_history (StandsAsBefore (was told holding)) new parts stores)) holding told_is stands) (stand.readable kept))))

  -- a blank one, to which no store came
  blank_at : (holding : Holding) (told now : List Part) → old.told ≡ Some holding → old.lent ≡ [] → new ≡ with_faults new.faults (stores_lent [] old) → AreNow (map store_history stores) [] → is_blank told ≡ true
      → AreNow (map part_history parts) now → line_counts now ≡ line_counts told → InEachRowImage (IsBlankOrFormatted mount_layout geometry.page geometry.entries) now → Back told holding
  blank_at holding told now told_is home is none blank now_are counted each = record {
    now = now;
    held = [];
    now_are = now_are;
    held_are = none;
    tells = record {
      now = record { parts = now; stores = holding.stores ++ [] };
      told_is = told_with old new [] holding now [] told_is home is;
      is_so = record {
        images = blank_left geometry (was told holding) (record { parts = now; stores = holding.stores ++ [] }) wanted blank each;
        rest = record { lines_are = counted; others = λ name other. ap (store_of name) (append-nil holding.stores) };
      };
    };
  }

  no_store : stores ≡ [] → AreNow (map store_history stores) []
  no_store none = subst (λ (these : List Y). AreNow (map store_history these) []) (sym none) tt

  pub blank_back : old.lent ≡ [] → new ≡ with_faults new.faults (stores_lent [] old) → stores ≡ [] → RowTells row (λ told. is_blank told ≡ true) → IfSome old.told (λ holding. AllTell row)
      → (AllTell row → TellRow (InEachRowImage (IsBlankOrFormatted mount_layout geometry.page geometry.entries)) (map part_history parts)) → HaveSameLines row (map part_history parts) → Left
  blank_back home is none blank tell left alike =
      if_some old.told (λ holding. RowTells row (λ told. StandForFiles told → Back told holding)) (λ holding told_is.
      let now = left (at_some old.told (λ holding. AllTell row) holding told_is tell) in
      row_tells_from row (λ told. StandForFiles told → Back told holding) (λ told are stand.
      blank_at holding told now.now told_is home is (no_store none) (row_tells_at row (λ told. is_blank told ≡ true) told are blank) now.now_are
      (lines_at row (map part_history parts) told now.now alike are now.now_are) now.is_so))

  -- parts that were only read, blank or not
  pub read_left : QuietPartHasOneImage → HasDistinctStores old → old.lent ≡ [] → new ≡ with_faults new.faults (stores_lent [] old) → stores ≡ [] → map part_history parts ≡ row → RowTells row AreQuiet
      → IfSome old.told (λ holding. All (λ (named : NamedStore). IsQuietStore named.store) holding.stores)
      → IfSome old.told (λ holding. RowTells row (λ told. HasHeader told → GivesBack part_history store_history (StandsAsBefore (record { parts = told; stores = holding.stores })) new parts stores)) → Left
  read_left one named home is none same quiet synced stands =
      if_some old.told (λ holding. RowTells row (λ told. StandForFiles told → Back told holding)) (λ holding told_is.
      row_tells_from row (λ told. StandForFiles told → Back told holding) (λ told are stand.
      by_test (is_blank told)
      (λ blank. blank_at holding told told told_is home is (no_store none) blank (subst (λ (these : List lines.PartHistory). AreNow these told) (sym same) are) refl
      (λ image is_image. inl ((blank_row one told (row_tells_at row AreQuiet told are quiet) blank).blank image is_image)))
      (λ kept. gives_more part_history store_history (StandsAsBefore (was told holding)) (StandsOpening (line_counts told) geometry (was told holding) wanted) new parts stores
      (λ back. opening_kept geometry (was told holding) back wanted kept (stand.readable kept) (stand.fits kept))
      (row_tells_at row (λ told. HasHeader told → GivesBack part_history store_history (StandsAsBefore (was told holding)) new parts stores) told are
      (at_some old.told (λ holding. RowTells row (λ told. HasHeader told → GivesBack part_history store_history (StandsAsBefore (was told holding)) new parts stores)) holding told_is stands) (stand.readable kept)))))

-- ---- a region that was begun

-- the first of some file names are such too
first_are : (count : ℕ) (names : List (List ℕ)) → AreFileNames mount_layout names → AreFileNames mount_layout (take count names)
first_are count names are =
    let long = length-take count names in
    record {
      few = (let few = are.few in omega (arith, long, few));
      allowed = λ i below. (let At = are.allowed i (omega (arith, long, below)) in rw (get_or-take count names i [] (omega (arith, long, below))) At);
      distinct = λ i j less below same.
          are.distinct i j less (omega (arith, long, below))
          (sym (get_or-take count names i [] (omega (arith, long, less, below))) ∙ same ∙ get_or-take count names j [] (omega (arith, long, below)));
    }

pub some_are : (count : ℕ) (known missing : List (List ℕ)) → AreFileNames mount_layout (known ++ missing) → AreFileNames mount_layout (known ++ take count missing)
some_are count known missing are = subst (AreFileNames mount_layout) (take-append-add known missing count) (first_are (length known + count) (known ++ missing) are)

pub alone_are : (known : List (List ℕ)) → AreFileNames mount_layout known → AreFileNames mount_layout (known ++ [])
alone_are known are = subst (AreFileNames mount_layout) (sym (append-nil known)) are

-- a new name is none of the known ones
new_apart : (known wanted : List (List ℕ)) (name : List ℕ) → Contains (new_names known wanted) name → ¬ (Contains known name)
new_apart known [] name there = absurd (let below = there.1 in omega (arith, below))
new_apart known (first ∷ wanted) name there = by (is_known known first) refl (λ later. new_apart known wanted name later) there
  where
    by : (is : Bool) → is_known known first ≡ is → (Contains (new_names known wanted) name → ¬ (Contains known name)) → Contains (cond (not is) (first ∷ new_names known wanted) (new_names known wanted)) name → ¬ (Contains known name)
    by true is rest there = rest there
    by false is rest (zero, inside, same) = subst (λ one. ¬ (Contains known one)) same (not_contained known first is)
    by false is rest (suc k, inside, same) = rest (k, omega (arith, inside), same)

distinct_front : (front back : List (List ℕ)) → AreDistinct (front ++ back) → AreDistinct front
distinct_front [] back distinct = tt
distinct_front (first ∷ front) back distinct = (λ there. distinct.0 (Contains-append_left front back first there), distinct_front front back distinct.1)

-- parts of a region that are at rest
pub rest_left : (row : List lines.PartHistory) (page entries : ℕ) (known more : List (List ℕ)) (next : ℕ) → TellingRowsHaveStates → AllTell row → RowTells row (IsAtRest mount_layout page entries known next)
    → TellRow (InEachRowImage (HasFirstNames mount_version page entries known more next)) row
rest_left row page entries known more next states tell rest =
    let now = states row tell in
    let at_rest = row_tells_at row (IsAtRest mount_layout page entries known next) now.states now.are rest in
    record {
      now = now.states;
      now_are = now.are;
      is_so = λ image is. record { now = mount_version; now_is = inr refl; count = 0; empty = subst (λ names. HasEmptyLog mount_layout page entries names next image) (sym (append-nil known)) (at_rest.empty image is) };
    }

module _ {X Y : Type 0} (part_history : X → lines.PartHistory) (store_history : Y → StoreHistory) (old new : BenchState) (row : List lines.PartHistory) (parts : List X) (before now stores : List Y) (version : Version) (known wanted more : List (List ℕ)) (page entries next : ℕ) (files : Files)
    (named : HasDistinctStores old) (lent : old.lent ≡ known) (are : AreFileNames mount_layout (known ++ more)) (one_each : length before ≡ length known) (holds : HoldFiles (map store_history before) files)
    (synced : IfSome old.told (λ holding. All (λ (named : NamedStore). IsQuietStore named.store) holding.stores)) (behind : now ≡ before ++ stores) (is : new ≡ with_faults new.faults (stores_lent more old))
    (stores_are : IfSome old.told (λ holding. AreNow (map store_history stores) (stores_named more holding.stores))) where
  abbrev Added : (counts : List ℕ) → Holding → Holding → Type 0
  Added counts holding back = InEachImage (HasSome version page entries (length known) (all_names known wanted) (files_behind files (new_names known wanted) holding.stores)) back × HasRest counts known holding.stores back

  pub added_back : (AllTell row → TellRow (InEachRowImage (HasFirstNames version page entries known (new_names known wanted) next)) (map part_history parts)) → HaveSameLines row (map part_history parts)
      → IfSome old.told (λ holding. (told : List Part) → AreNow row told → GivesBack part_history store_history (Added (line_counts told) holding) new parts now)
  added_back left alike =
      if_some old.told (λ holding. (told : List Part) → AreNow row told → GivesBack part_history store_history (Added (line_counts told) holding) new parts now) (λ holding told_is told told_are.
      let end = left (states_tell row told told_are) in
      let home = holding.stores in
      let Distinct : List (List ℕ) → Type 0 = λ names. AreDistinct (names_of home ++ names) in
      let distinct = subst Distinct lent (at_some old.told (λ holding. AreDistinct (names_of holding.stores ++ old.lent)) holding told_is named) in
      let long : length known ≡ length holds.held = sym (states_many (map store_history before) holds.held holds.are ∙ length-map before store_history ∙ one_each) in
      let rows : map store_history before ++ map store_history stores ≡ map store_history now = sym (map-append store_history before stores) ∙ ap (map store_history) (sym behind) in
      let all_are = subst (λ (row : List StoreHistory). AreNow row (holds.held ++ stores_named more home)) rows
      (are_now_append (map store_history before) (map store_history stores) holds.held (stores_named more home) holds.are
      (at_some old.told (λ holding. AreNow (map store_history stores) (stores_named more holding.stores)) holding told_is stores_are)) in
      begun_back version home known (new_names known wanted) more holds.held files page entries next distinct (distinct_front (names_of home) known distinct) are long holds.files_are holds.quiet
      (at_some old.told (λ holding. All (λ (named : NamedStore). IsQuietStore named.store) holding.stores) holding told_is synced) (new_apart known wanted)
      part_history store_history old new parts now holding (line_counts told) told_is refl lent is end (lines_at row (map part_history parts) told end.now alike told_are end.now_are) all_are)

-- ---- and then it was to get more names

-- the names of a region that was begun are those that it was known by
known_names : (told : List Part) (geometry : Geometry) (page entries : ℕ) (names : List (List ℕ)) (next : ℕ) → IsOpeningBegun told geometry page entries names next → names_known told ≡ names
known_names told geometry page entries names next begun =
    by_test (is_blank told) (λ blank. blank_known told blank ∙ sym (begun.formatted blank).names_are) (λ kept. kept_known told kept ∙ sym (begun.kept kept).recovered.names_are)

-- and so are its sizes
pub known_page : (told : List Part) (geometry : Geometry) (page entries : ℕ) (names : List (List ℕ)) (next : ℕ) → IsOpeningBegun told geometry page entries names next → page_known told geometry ≡ page
known_page told geometry page entries names next begun =
    by_test (is_blank told) (λ blank. blank_page told geometry blank ∙ sym (begun.formatted blank).page_is) (λ kept. kept_page told geometry kept ∙ sym (begun.kept kept).recovered.page_is)

pub known_entries : (told : List Part) (geometry : Geometry) (page entries : ℕ) (names : List (List ℕ)) (next : ℕ) → IsOpeningBegun told geometry page entries names next → entries_known told geometry ≡ entries
known_entries told geometry page entries names next begun =
    by_test (is_blank told) (λ blank. blank_entries told geometry blank ∙ sym (begun.formatted blank).entries_is) (λ kept. kept_entries told geometry kept ∙ sym (begun.kept kept).recovered.entries_is)

-- what is said of an image of one version, said of another one
some_version : (version other : Version) (page entries least : ℕ) (names : List (List ℕ)) (files : Files) (image : Image) (bytes : Files) → (version ≡ other) ⊎ (version ≡ mount_version)
    → HasSome version page entries least names files image bytes → HasSome other page entries least names files image bytes
some_version version other page entries least names files image bytes same some = record {
  count = some.count;
  enough = some.enough;
  version_is = elim some.version_is [
    | inl is ↦ elim same [
      | inl known ↦ inl (is ∙ known)
      | inr mount ↦ inr (is ∙ mount)
    ]
    | inr is ↦ inr is
  ];
  readable = some.readable;
  page_is = some.page_is;
  entries_is = some.entries_is;
  names_are = some.names_are;
  stands = some.stands;
}

pub with_wanted : {T X Y E : Type 0} (part_history : X → lines.PartHistory) (store_history : Y → StoreHistory) (result : Result T E) (parts_of : E → List X) (told mid : Option Holding) (new : BenchState) (row region_row : List lines.PartHistory) (store_row : List StoreHistory) (stores : List Y)
    (geometry : Geometry) (version : Version) (page entries : ℕ) (names wanted : List (List ℕ)) (next : ℕ) → RowTells row (λ told. (version ≡ version_known told) ⊎ (version ≡ mount_version))
    → TellingRowsHaveStates → HaveSameLines row region_row → mid ≡ option_map (without_named names) told
    → RowTells row (λ told. IsOpeningBegun told geometry page entries names next)
    → IfSome told (λ holding. RowTells row (λ parts. HoldFiles store_row (files_named parts names holding.stores)))
    → IfSome told (λ holding. AllTell region_row)
    → ((files : Files) → HoldFiles store_row files → IfErr result (λ failed. IfSome mid (λ holding. (told : List Part) → AreNow region_row told
    → GivesBack part_history store_history (λ now. InEachImage (HasSome version page entries (length names) (all_names names wanted) (files_behind files (new_names names wanted) holding.stores)) now × HasRest (line_counts told) names holding.stores now) new (parts_of failed) stores)))
    → IfErr result (λ failed. IfSome told (λ holding. RowTells row (λ told. StandForFiles told
    → GivesBack part_history store_history (StandsOpening (line_counts told) geometry (record { parts = told; stores = holding.stores }) wanted) new (parts_of failed) stores)))
with_wanted part_history store_history (Ok done) parts_of told mid new row region_row store_row stores geometry version page entries names wanted next known states alike is begun files tell standing = tt
with_wanted part_history store_history (Err failed) parts_of None mid new row region_row store_row stores geometry version page entries names wanted next known states alike is begun files tell standing = tt
with_wanted {T} {X} {Y} {E} part_history store_history (Err failed) parts_of (Some holding) mid new row region_row store_row stores geometry version page entries names wanted next known states alike is begun files tell standing =
    let Was : List Part → Holding = λ told. record { parts = told; stores = holding.stores } in
    row_tells_from row (λ told. StandForFiles told → GivesBack part_history store_history (StandsOpening (line_counts told) geometry (Was told) wanted) new (parts_of failed) stores) (λ told are stand.
    let here = files_named told names holding.stores in
    let here_begun = row_tells_at row (λ told. IsOpeningBegun told geometry page entries names next) told are begun in
    let same : names_known told ≡ names = known_names told geometry page entries names next here_begun in
    let region = states region_row (at_some (Some holding) (λ holding. AllTell region_row) holding refl tell) in
    let left : Holding = record { parts = holding.parts; stores = without_stores names holding.stores } in
    let gives = at_some mid
    (λ holding. (told : List Part) → AreNow region_row told → GivesBack part_history store_history (λ now. InEachImage (HasSome version page entries (length names) (all_names names wanted) (files_behind here (new_names names wanted) holding.stores)) now × HasRest (line_counts told) names holding.stores now) new (parts_of failed) stores)
    left is (standing here (row_tells_at row (λ parts. HoldFiles store_row (files_named parts names holding.stores)) told are files)) region.states region.are in
    let those : files_behind here (new_names names wanted) left.stores ≡ files_with told names wanted holding.stores =
    ap (λ (stores : List Store). record { contents = here.contents ++ (files_of stores).contents }) (new_stores names wanted holding.stores) in
    let of = version_known told in
    let Some_of : Files → Image → Files → Type 0 = λ files image bytes. HasSome version page entries (length names) (all_names names wanted) files image bytes in
    let By : List (List ℕ) → Image → Files → Type 0 = λ names image bytes. HasSome version page entries (length names) (all_names names wanted) (files_with told names wanted holding.stores) image bytes in
    let All_of : Image → Files → (page entries : ℕ) → Type 0 = λ image bytes page entries. HasSome version page entries (length (names_known told)) (all_names (names_known told) wanted) (files_with told (names_known told) wanted holding.stores) image bytes in
    gives_more part_history store_history (λ now. InEachImage (Some_of (files_behind here (new_names names wanted) left.stores)) now × HasRest (line_counts region.states) names left.stores now) (StandsOpening (line_counts told) geometry (Was told) wanted) new (parts_of failed) stores
    (λ back both. record {
      images = λ image bytes is_image are_bytes. inr
          (some_version version of (page_known told geometry) (entries_known told geometry) (length (names_known told)) (all_names (names_known told) wanted) (files_with told (names_known told) wanted holding.stores) image bytes
          (row_tells_at row (λ told. (version ≡ version_known told) ⊎ (version ≡ mount_version)) told are known)
          (subst (λ page. All_of image bytes page (entries_known told geometry)) (sym (known_page told geometry page entries names next here_begun))
          (subst (λ entries. All_of image bytes page entries) (sym (known_entries told geometry page entries names next here_begun))
          (subst (λ names. By names image bytes) (sym same) (subst (λ files. Some_of files image bytes) those (both.0 image bytes is_image are_bytes))))));
      rest = record {
        lines_are = both.1.lines_are ∙ lines_at row region_row told region.states alike are region.are;
        others = λ name other.
            let absent : ¬ (Contains names name) = λ there. other (subst (λ known. Contains (all_names known wanted) name) (sym same) (Contains-append_left names (new_names names wanted) name there)) in
            both.1.others name absent ∙ store_of_others name names holding.stores absent;
      };
    })
    gives)

-- nothing was added to it, since there would be too many
pub too_many_rest : {T X Y E : Type 0} (part_history : X → lines.PartHistory) (store_history : Y → StoreHistory) (result : Result T E) (parts_of : E → List X) (Refused : E → Type 0) (told mid : Option Holding) (new : BenchState) (row region_row : List lines.PartHistory) (store_row : List StoreHistory) (stores : List Y)
    (geometry : Geometry) (page entries : ℕ) (names wanted : List (List ℕ)) (next : ℕ) → mid ≡ option_map (without_named names) told
    → RowTells row (λ told. IsOpeningBegun told geometry page entries names next)
    → IfSome told (λ holding. RowTells row (λ parts. HoldFiles store_row (files_named parts names holding.stores)))
    → IfSome told (λ holding. AllTell region_row)
    → IfErr result (λ failed. Refused failed → 64 < length (all_names names wanted))
    → ((files : Files) → HoldFiles store_row files → IfErr result (λ failed. Refused failed → IfSome mid (λ holding. AllTell region_row
    → GivesBack part_history store_history (IsAtRestWith mount_version page entries names next files holding.stores) new (parts_of failed) stores)))
    → IfErr result (λ failed. Refused failed → IfSome told (λ holding. RowTells row (λ told.
    GivesBack part_history store_history (RestsUnopened (record { parts = told; stores = holding.stores }) geometry wanted) new (parts_of failed) stores)))
too_many_rest part_history store_history (Ok done) parts_of Refused told mid new row region_row store_row stores geometry page entries names wanted next is begun files tell many rests = tt
too_many_rest part_history store_history (Err failed) parts_of Refused None mid new row region_row store_row stores geometry page entries names wanted next is begun files tell many rests = λ refused. tt
too_many_rest part_history store_history (Err failed) parts_of Refused (Some holding) mid new row region_row store_row stores geometry page entries names wanted next is begun files tell many rests = λ refused.
    let Was : List Part → Holding = λ told. record { parts = told; stores = holding.stores } in
    row_tells_from row (λ told. GivesBack part_history store_history (RestsUnopened (Was told) geometry wanted) new (parts_of failed) stores) (λ told are.
    let here = files_named told names holding.stores in
    let left : Holding = record { parts = holding.parts; stores = without_stores names holding.stores } in
    let gives = at_some mid (λ holding. AllTell region_row → GivesBack part_history store_history (IsAtRestWith mount_version page entries names next here holding.stores) new (parts_of failed) stores) left is
    (rests here (row_tells_at row (λ parts. HoldFiles store_row (files_named parts names holding.stores)) told are files) refused) tell in
    gives_more part_history store_history (IsAtRestWith mount_version page entries names next here left.stores) (RestsUnopened (Was told) geometry wanted) new (parts_of failed) stores
    (λ back at_rest. record {
      page = page;
      entries = entries;
      known = names;
      next = next;
      begun = row_tells_at row (λ told. IsOpeningBegun told geometry page entries names next) told are begun;
      many = many refused;
      rests = at_rest;
    })
    gives)

-- a region that is refused was not opened, so it never has too many
pub never_too_many : (told : Option Holding) (row : List lines.PartHistory) (P : Holding → List Part → Type 0) → IfSome told (λ holding. RowTells row (λ told. (is_blank told ≡ false) × IsRefusedFor told TooManyFiles))
    → IfSome told (λ holding. RowTells row (λ told. P holding told))
never_too_many told row P refused =
    if_some told (λ holding. RowTells row (λ told. P holding told)) (λ holding told_is.
    row_tells_from row (λ told. P holding told) (λ parts are.
    absurd (row_tells_at row (λ told. (is_blank told ≡ false) × IsRefusedFor told TooManyFiles) parts are
    (at_some told (λ holding. RowTells row (λ told. (is_blank told ≡ false) × IsRefusedFor told TooManyFiles)) holding told_is refused)).1))

-- ---- as the bench held it before its parts were made those of a geometry

pub rests_before : (geometry : Geometry) (was : Holding) (wanted : List (List ℕ)) (now : Holding) → RestsUnopened (as_opened geometry was) geometry wanted now → RestsUnopened was geometry wanted now
rests_before geometry was wanted now is = record {
  page = is.page;
  entries = is.entries;
  known = is.known;
  next = is.next;
  begun = begun_before geometry geometry was.parts is.page is.entries is.known is.next is.begun;
  many = is.many;
  rests =
      subst (λ files. IsAtRestWith mount_version is.page is.entries is.known is.next files (without_stores is.known was.stores) now)
      (files_cases geometry was.parts is.known was.stores (is_blank was.parts) refl) is.rests;
}

made_known : (geometry : Geometry) (parts : List Part) → names_known (opened (Some geometry) parts) ≡ names_known parts
made_known geometry parts =
    let made = opened (Some geometry) parts in
    by_test (is_blank parts) (λ blank. blank_known made (blank_stays geometry parts ∙ blank) ∙ sym (blank_known parts blank))
    (λ kept. kept_known made (blank_stays geometry parts ∙ kept) ∙ reads_names parts made (opened_reads geometry parts kept) ∙ sym (kept_known parts kept))

made_version : (geometry : Geometry) (parts : List Part) → version_known (opened (Some geometry) parts) ≡ version_known parts
made_version geometry parts =
    let made = opened (Some geometry) parts in
    by_test (is_blank parts) (λ blank. blank_version made (blank_stays geometry parts ∙ blank) ∙ sym (blank_version parts blank))
    (λ kept. kept_version made (blank_stays geometry parts ∙ kept) ∙ ap version_in (reads_head parts made (opened_reads geometry parts kept)) ∙ sym (kept_version parts kept))

made_page : (geometry : Geometry) (parts : List Part) → page_known (opened (Some geometry) parts) geometry ≡ page_known parts geometry
made_page geometry parts =
    let made = opened (Some geometry) parts in
    by_test (is_blank parts) (λ blank. blank_page made geometry (blank_stays geometry parts ∙ blank) ∙ sym (blank_page parts geometry blank))
    (λ kept. kept_page made geometry (blank_stays geometry parts ∙ kept) ∙ ap (λ (image : Image). (header_of image).page) (reads_head parts made (opened_reads geometry parts kept)) ∙ sym (kept_page parts geometry kept))

made_entries : (geometry : Geometry) (parts : List Part) → entries_known (opened (Some geometry) parts) geometry ≡ entries_known parts geometry
made_entries geometry parts =
    let made = opened (Some geometry) parts in
    by_test (is_blank parts) (λ blank. blank_entries made geometry (blank_stays geometry parts ∙ blank) ∙ sym (blank_entries parts geometry blank))
    (λ kept. kept_entries made geometry (blank_stays geometry parts ∙ kept) ∙ ap (λ (image : Image). (header_of image).entries) (reads_head parts made (opened_reads geometry parts kept)) ∙ sym (kept_entries parts geometry kept))

before_made : (geometry : Geometry) (was : Holding) (wanted : List (List ℕ)) (image : Image) (bytes : Files) → StandsWithSome geometry (as_opened geometry was) wanted image bytes → StandsWithSome geometry was wanted image bytes
before_made geometry was wanted image bytes stands =
    let parts = opened (Some geometry) was.parts in
    let stays : is_blank parts ≡ is_blank was.parts = blank_stays geometry was.parts in
    let same = made_known geometry was.parts in
    elim stands [
      | inl blank ↦ inl (sym stays ∙ blank.0, blank.1)
      | inr some ↦
          let version = version_known parts in
          let page = page_known parts geometry in
          let entries = entries_known parts geometry in
          let By : List (List ℕ) → Type 0 = λ known. HasSome version page entries (length known) (all_names known wanted) (files_with parts known wanted was.stores) image bytes in
          let known = names_known was.parts in
          let Of : Files → Type 0 = λ files. HasSome version page entries (length known) (all_names known wanted) (files_behind files (new_names known wanted) was.stores) image bytes in
          let Sized : (version : Version) (page entries : ℕ) → Type 0 = λ version page entries. HasSome version page entries (length known) (all_names known wanted) (files_with was.parts known wanted was.stores) image bytes in
          inr
          (subst (λ version. Sized version (page_known was.parts geometry) (entries_known was.parts geometry)) (made_version geometry was.parts)
          (subst (λ page. Sized version page (entries_known was.parts geometry)) (made_page geometry was.parts)
          (subst (λ entries. Sized version page entries) (made_entries geometry was.parts)
          (subst Of (files_cases geometry was.parts known was.stores (is_blank was.parts) refl) (subst By same some)))))
    ]

pub unopened_made : (geometry : Geometry) (was : Holding) (wanted : List (List ℕ)) (now : Holding) → StandsOpening (line_counts (opened (Some geometry) was.parts)) geometry (as_opened geometry was) wanted now
    → StandsUnopened was geometry wanted now
unopened_made geometry was wanted now stands = record {
  either = inr (record {
    images = λ image bytes is are. before_made geometry was wanted image bytes (stands.images image bytes is are);
    rest = record {
      lines_are = stands.rest.lines_are;
      others = λ name other. stands.rest.others name (subst (λ known. ¬ (Contains (all_names known wanted) name)) (sym (made_known geometry was.parts)) other);
    };
  });
}

pub made_stand : (geometry : Geometry) (parts : List Part) → StandForFiles parts → StandForFiles (opened (Some geometry) parts)
made_stand geometry parts stand =
    let made = opened (Some geometry) parts in
    record {
      readable = λ kept.
          let was = sym (blank_stays geometry parts) ∙ kept in
          subst (λ (image : Image). IsHead (layout_in image) (layout_in image).header_lines image) (sym (opened_reads geometry parts was).words) (stand.readable was);
      fits = λ kept. (let was = sym (blank_stays geometry parts) ∙ kept in subst (λ (image : Image). Fits (layout_in image) image) (sym (opened_reads geometry parts was).words) (stand.fits was));
    }
