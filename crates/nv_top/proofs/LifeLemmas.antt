-- Lives: what a bench tells to which the devices of a run come back, and what power and a recovery make of that.
use Rattle.std.proofs.Common.{◌≡◌, ◌≢◌, ℕ, ◌<◌, Bool, true, false, cond, All, List, [], ◌∷◌, ◌++◌, length, map, slice_index_or, inl, inr, refl, sym, ap, subst, ◌∙◌, arith, Option, Some}
use Rattle.std.specs.Prelude.{Contains, IfSome, option_map}
use Rattle.std.proofs.lemmas.List.Elements.{All-nil, All-cons, All-head, All-tail}
use Rattle.nv_plain.specs.Files.{Files}
use Rattle.nv_plain.specs.Images.{Image, header_of, layout_in, version_in}
use Rattle.nv_plain.specs.Layouts.{Layout, layout_of, mount_layout, mount_version}
use Rattle.nv_plain.specs.declared.limits.Version.{Version}
use Rattle.nv_plain.proofs.OwnLayouts.{layout_is}
use Rattle.nv_pmem.specs.Laws.{QuietPartHasOneImage}
use Rattle.nv_pmem.specs.Part.{Part}
use Rattle.nv_pmem.specs.RowStates.{AreNow, row_tells_at, row_tells_from}
use Rattle.nv_pmem.specs.Rows.{AreQuiet, InEachRowImage, IsRowImage, RowTells, row_words}
use Rattle.nv_pmem.specs.Steps as lines
use Rattle.nv_pmem.proofs.ImageLaws.{image_of_now}
use Rattle.nv_pmem.specs.declared.picker.Pick.{Pick}
use Rattle.nv_store.specs.Steps as stores
use Rattle.nv_store.specs.Store.{IsQuietStore, IsWholeStore, Store}
use Rattle.nv_bench.specs.Benches.{BenchState, with_faults}
use Rattle.nv_bench.specs.Holding.{Holding, IsQuietHolding, NamedStore, is_named, named_stores, store_of}
use Rattle.nv_bench.specs.Laws.{AreWholeStores, PowerLeavesAnImage}
use Rattle.nv_bench.specs.Naming.{AreDistinct, names_of}
use Rattle.nv_bench.specs.Powered.{powered, powered_parts}
use Rattle.nv_pmem.specs.Draws.{draws_of}
use Rattle.nv_header.specs.Heads.{IsHead}
use Rattle.nv_header.specs.Regions.{IsAtRest, ReadsAs}
use Rattle.nv_recover.specs.Standing.{AreQuietStores, AreStoreImages, ReadableStandsForRecovered, files_of}
use Rattle.nv_recover.specs.Telling.{AllTell}
use Rattle.nv_recover.specs.declared.recovering.Recovered as recover
use Rattle.nv_recover.proofs.AlikeLaws.{empty_fits, empty_recovered, fits_own, fits_said}
use Rattle.nv_recover.proofs.ApplyLaws.{quiet_image}
use Rattle.nv_recover.proofs.EmptyLaws.{empty_none}
use Rattle.nv_recover.proofs.StandLaws.{emptied_log, header_alike}
use Rattle.nv_open.specs.Held.{IsRecovered, files_named, header_names}
use Rattle.nv_open.specs.Lending.{stores_named, without_stores}
use Rattle.nv_open.specs.Unopened.{HasHeader, InEachImage, StandsAsBefore, TellsOf, line_counts, names_in}
use Rattle.nv_open.proofs.Homes.{back_again, in_front, not_given, others_again}
use Rattle.nv_open.proofs.Openings.{store_of_others}
use Rattle.nv_open.proofs.Returns.{named_quiet}
use Rattle.nv_open.specs.Refusals.{head_image}
use Rattle.nv_open.proofs.Stands.{durable_images, names_read, own_images}
use Rattle.nv_open.proofs.Versions.{empty_names, own_layout}
use Rattle.nv_trace.specs.Reading.{ending_of, Whole}
use Rattle.nv_trace.specs.declared.trace.Form.TheVariants as forms
use Rattle.nv_trace.specs.Traced.{Traced}
use Rattle.nv_words.specs.declared.words.Command.{Command}
use Rattle.nv_words.specs.declared.words.Command.TheVariants.{Run, Sched, Recover, Look, Gen}
use Rattle.nv_open.proofs.GivenBack.{still_stands, still_untouched}
use Rattle.nv_core.specs.state.Values.{Value}
use Rattle.nv_table.specs.state.Opened.{Opened, mount_of}
use Rattle.nv_mount.specs.Telling.{mounted_lines}
use Rattle.nv_runner.specs.Faithful.{Basis}
use Rattle.nv_runner.specs.Histories.{PlacedCall}
use Rattle.nv_runner.specs.Lives.{RecoversBehind}
use Rattle.nv_runner.specs.ShownLives.{LeaveLifeBehind}
use Rattle.nv_load.specs.Generated.{generated}
use Rattle.nv_top.specs.Loads.{load_options}
use Rattle.nv_top.specs.Headline.{LeavesLife}
use Rattle.nv_top.specs.LifeRows.{LeaveLives}
use Rattle.nv_top.specs.Lives.{AreLeftSo, HasLived, LeavesRun, TellsNothing}
use Rattle.nv_top.specs.Ready.{IsRunnable}
use Rattle.nv_words.specs.declared.words.RunOptions.{RunOptions}
use Rattle.nv_top.proofs.CommandLemmas.{if_told, told_at}
use Rattle.nv_top.proofs.HeadlineLemmas.{of_read}
use Rattle.nv_top.proofs.HomeLemmas.{any_images}
use Rattle.nv_top.proofs.PoweredHomes.{found_powered, powered_lines}
use Rattle.nv_top.proofs.NameLemmas.{mount_names}
use Rattle.nv_top.proofs.RowLemmas.{all_tell, present}

-- ---- stores that are found

quiet_found : (name : List ℕ) (stores : List NamedStore) → All (λ (named : NamedStore). IsQuietStore named.store) stores → IsQuietStore (store_of name stores)
quiet_found name stores still = All-head IsQuietStore (store_of name stores) [] (named_quiet (name ∷ []) stores still)

-- ---- whole stores

either_whole : (is : Bool) (first other : Store) → IsWholeStore first → IsWholeStore other → IsWholeStore (cond is first other)
either_whole true first other one rest = one
either_whole false first other one rest = rest

whole_of : (name : List ℕ) (stores : List NamedStore) → All (λ (named : NamedStore). IsWholeStore named.store) stores → IsWholeStore (store_of name stores)
whole_of name [] whole = record { flags = refl; no_longer = omega arith; synced = λ i not. refl }
whole_of name (first ∷ rest) whole =
    either_whole (is_named name first) first.store (store_of name rest) (All-head (λ (named : NamedStore). IsWholeStore named.store) first rest whole)
    (whole_of name rest (All-tail (λ (named : NamedStore). IsWholeStore named.store) first rest whole))

pub all_whole : (names : List (List ℕ)) (stores : List NamedStore) → All (λ (named : NamedStore). IsWholeStore named.store) stores → All IsWholeStore (stores_named names stores)
all_whole [] stores whole = All-nil IsWholeStore
all_whole (name ∷ names) stores whole = All-cons IsWholeStore (store_of name stores) (stores_named names stores) (whole_of name stores whole) (all_whole names stores whole)

-- quiet parts have one image
pub one_image : QuietPartHasOneImage → (parts : List Part) (image : Image) → AreQuiet parts → IsRowImage parts image → image ≡ row_words parts
one_image one parts image quiet is =
    let same : (part line word : ℕ) → image part line word ≡ row_words parts part line word =
    λ part line word. one (slice_index_or parts part []) (image part) line word ((quiet.each part).lines line) (is.each part) in
    λ i part line word. same part line word i

-- ---- a bench to which the devices came back

module _ (basis : Basis) (trace : Traced) where
  abbrev Behind : List PlacedCall → Image → Files → Type 0
  Behind history image bytes = RecoversBehind basis trace history image bytes

  -- whatever is left of what it holds
  images_home : (shown : List PlacedCall) (part_row : List lines.PartHistory) (store_row : List stores.StoreHistory) (life : LeaveLifeBehind basis trace shown part_row store_row) (now : List Part) (held : List Store) (all : List NamedStore) → AreNow part_row now → AreNow store_row held
      → All IsWholeStore held → stores_named basis.names all ≡ held → InEachImage (Behind (shown ++ life.later)) (record { parts = now; stores = all })
  images_home shown part_row store_row life now held all now_are held_are whole same image bytes is are =
      let every = row_tells_at store_row (λ held. (bytes : Files) → AreStoreImages held bytes → Behind (shown ++ life.later) image bytes) held held_are
      (row_tells_at part_row (InEachRowImage (λ image. RowTells store_row (λ held. (bytes : Files) → AreStoreImages held bytes → Behind (shown ++ life.later) image bytes))) now now_are life.images image is) in
      let behind = every (record { contents = map (λ (store : Store). store.durable) held }) (durable_images held whole) in
      let read = mount_names image behind.readable ∙ behind.names_are in
      every bytes (subst (λ stores. AreStoreImages stores bytes) same (subst (λ names. AreStoreImages (stores_named names all) bytes) read are))

  pub lived_home : {X Y : Type 0} {Tells : Basis → Traced → (shown later : List PlacedCall) → Type 0} (shown : List PlacedCall) (history : X → lines.PartHistory) (held : Y → stores.StoreHistory)
      (parts : List X) (backing : List Y) (counts : List ℕ) (told : Option Holding) (home : List NamedStore) (whole : (holding : Holding) → told ≡ Some holding → AreWholeStores holding) → AreLeftSo Tells history held basis trace shown counts parts backing
      → ((disks : List Store) → AreNow (map held backing) disks → stores_named basis.names (home ++ named_stores basis.names disks) ≡ disks)
      → ((now : List Part) (disks : List Store) → AreNow (map history parts) now → AreNow (map held backing) disks → told ≡ Some (record { parts = now; stores = home ++ named_stores basis.names disks }))
      → HasLived Tells basis trace shown counts home told
  lived_home shown history held parts backing counts told home whole left same gives =
      let now = present (map history parts) left.parts_tell in
      let disks = present (map held backing) left.stores_tell in
      let all = home ++ named_stores basis.names disks.states in
      let told_is = gives now.states disks.states now.are disks.are in
      let here = same disks.states disks.are in
      record {
        history = shown ++ left.life.later;
        begins = (left.life.later, refl);
        rounds = left.rounds;
        is = left.life.is;
        images = record {
          now = record { parts = now.states; stores = all };
          told_is = told_is;
          is_so = (
            images_home shown (map history parts) (map held backing) left.life now.states disks.states all now.are disks.are
                (subst (All IsWholeStore) here (all_whole basis.names all (whole (record { parts = now.states; stores = all }) told_is))) here,
            record {
              lines_are = row_tells_at (map history parts) (λ now. line_counts now ≡ counts) now.states now.are left.lines_are;
              others = λ name other. in_front name home (named_stores basis.names disks.states) (not_given name basis.names disks.states other);
            },
          );
        };
      }

  -- ---- power

  pub lived_powered : {Tells : Basis → Traced → (shown later : List PlacedCall) → Type 0} {shown : List PlacedCall} → QuietPartHasOneImage → PowerLeavesAnImage → (pick : Pick) (counts : List ℕ) (stores : List NamedStore) → All (λ (named : NamedStore). IsQuietStore named.store) stores → (home off : Option Holding) → ((holding : Holding) → home ≡ Some holding → AreWholeStores holding) → off ≡ option_map (powered pick) home
      → HasLived Tells basis trace shown counts stores home → HasLived Tells basis trace shown counts stores off
  lived_powered {Tells} {shown} one power pick counts stores still home off whole powers lived =
      let before = lived.images.now in
      let after = powered pick before in
      let both = power pick before (whole before lived.images.told_is) in
      record {
        history = lived.history;
        begins = lived.begins;
        rounds = lived.rounds;
        is = lived.is;
        images = record {
          now = after;
          told_is = powers ∙ ap (option_map (powered pick)) lived.images.told_is;
          is_so = (
            λ image bytes is are.
                let same = one_image one after.parts image both.1.parts is in
                let names = names_in image in
                let here = quiet_image (stores_named names after.stores) bytes (named_quiet names after.stores both.1.stores) are in
                lived.images.is_so.0 image bytes (subst (λ (image : Image). IsRowImage before.parts image) (sym same) both.0.parts)
                (subst (λ (files : Files). AreStoreImages (stores_named names before.stores) files) (sym here) (any_images names before after both.0)),
            record {
              lines_are = powered_lines (draws_of pick) before.parts ∙ lived.images.is_so.1.lines_are;
              others = λ name other.
                  let found = lived.images.is_so.1.others name other in
                  found_powered (powered_parts (draws_of pick) before.parts).1 name before.stores (whole before lived.images.told_is) (subst IsQuietStore (sym found) (quiet_found name stores still)) ∙ found;
            },
          );
        };
      }

  -- ---- a recovery

  pub lived_recovered : {Tells : Basis → Traced → (shown later : List PlacedCall) → Type 0} {shown : List PlacedCall} → QuietPartHasOneImage → (was : Option Holding) (told : Option Holding) → IfSome was IsQuietHolding → (counts : List ℕ) (stores : List NamedStore) (lived : HasLived Tells basis trace shown counts stores was) → (HasHeader lived.images.now.parts → TellsOf (StandsAsBefore lived.images.now) told)
      → HasLived Tells basis trace shown counts stores told
  lived_recovered {Tells} {shown} one was told quiet counts stores lived stands =
      let before = lived.images.now in
      let still : IsQuietHolding before = subst (λ (one : Option Holding). IfSome one IsQuietHolding) lived.images.told_is quiet in
      let first = row_words before.parts in
      let names = header_names before.parts in
      let base = files_of (stores_named names before.stores) in
      let read = names_read before.parts in
      let here : RecoversBehind basis trace lived.history first base =
      lived.images.is_so.0 first base (record { each = λ i. image_of_now (slice_index_or before.parts i []) })
      (subst (λ names. AreStoreImages (stores_named names before.stores) base) read (own_images (stores_named names before.stores) (named_quiet names before.stores still.stores))) in
      let named = read ∙ mount_names first here.readable ∙ here.names_are in
      let own : layout_in first ≡ mount_layout = layout_is mount_version first here.readable.fields.version_is in
      let after = stands (subst (λ (layout : Layout). IsHead layout layout.header_lines first) (sym own) here.readable) in
      record {
        history = lived.history;
        begins = lived.begins;
        rounds = lived.rounds;
        is = lived.is;
        images = record {
          now = after.now;
          told_is = after.told_is;
          is_so = (
            λ image bytes is are.
                let same = after.is_so.same_names image is in
                let place = after.is_so.stands image bytes is (subst (λ names. AreStoreImages (stores_named names after.now.stores) bytes) same are) in
                let version = here.readable.fields.version_is in
                let said : IsHead mount_layout mount_layout.header_lines image =
                subst (λ (layout : Layout). IsHead layout layout.header_lines image) (layout_is mount_version image (place.header.version ∙ version)) place.header.readable in
                let stand = place.files (fits_own mount_version first version here.fits) in
                record {
                  readable = said;
                  page_is = place.header.page ∙ here.page_is;
                  entries_is = place.header.entries ∙ here.entries_is;
                  names_are = sym (mount_names image said) ∙ same ∙ named;
                  fits = fits_said mount_version image (place.header.version ∙ version) stand.fits;
                  kept = here.kept;
                  of_trace = here.of_trace;
                  own_lines = here.own_lines;
                  files = stand.recovers ∙ here.files;
                },
            record {
              lines_are = after.is_so.rest.lines_are ∙ lived.images.is_so.1.lines_are;
              others = λ name other. after.is_so.rest.others name (subst (λ names. ¬ (Contains names name)) (sym named) other) ∙ lived.images.is_so.1.others name other;
            },
          );
        };
      }

  -- ---- by what the bench held before the stores were lent

  pub lived_on : {Tells : Basis → Traced → (shown later : List PlacedCall) → Type 0} {shown : List PlacedCall} → (counts made : List ℕ) (stores : List NamedStore) (told : Option Holding) → counts ≡ made → HasLived Tells basis trace shown counts (without_stores basis.names stores) told → HasLived Tells basis trace shown made stores told
  lived_on {Tells} {shown} counts made stores told same lived = record {
    history = lived.history;
    begins = lived.begins;
    rounds = lived.rounds;
    is = lived.is;
    images = record {
      now = lived.images.now;
      told_is = lived.images.told_is;
      is_so = (
        lived.images.is_so.0,
        record {
          lines_are = lived.images.is_so.1.lines_are ∙ same;
          others = λ name other. lived.images.is_so.1.others name other ∙ store_of_others name basis.names stores other;
        },
      );
    };
  }

-- ---- what a recovery leaves that was finished

module _ (stand_so : ReadableStandsForRecovered) (was : Holding) (page entries next : ℕ) (names : List (List ℕ)) (found : recover.Recovered) (now : List Part) (held : List Store)
    (version : Version) (own : version ≡ version_in (head_image was.parts)) (recovered_so : IsRecovered was.parts page entries names next found) (rest : IsAtRest (layout_of version) page entries names next now) (files_are : files_of held ≡ files_named was.parts names was.stores) (quiet : AreQuietStores held)
    (distinct : AreDistinct (names_of was.stores)) (counted : line_counts now ≡ line_counts was.parts) (long : length names ≡ length held) (differ : (i j : ℕ) → i < j → j < length names → slice_index_or names i [] ≢ slice_index_or names j []) where
  abbrev back : Holding
  back = record { parts = now; stores = without_stores names was.stores ++ named_stores names held }

  abbrev first : Image
  first = row_words was.parts

  pub recovered_stands : HasHeader was.parts → StandsAsBefore was back
  recovered_stands readable =
      let same : names ≡ header_names was.parts = recovered_so.names_are in
      let read = names_read was.parts in
      let there : stores_named (header_names was.parts) back.stores ≡ held = subst (λ names. stores_named names back.stores ≡ held) same (back_again names was.stores held distinct long differ) in
      record {
        same_names = λ image is. empty_names version page entries names next image (rest.empty image is) ∙ same;
        rest = record { lines_are = counted; others = λ name other. others_again name names was.stores held (subst (λ these. ¬ (Contains these name)) (sym same) other) };
        stands = λ image bytes is are.
            let empty = rest.empty image is in
            let none = empty_none page entries names next image empty in
            let base = files_of (stores_named (header_names was.parts) was.stores) in
            let tail = (header_of first).tail in
            let said : ReadsAs (layout_in first) page entries names tail first =
            record { readable = readable; page_is = sym recovered_so.page_is; entries_is = sym recovered_so.entries_is; names_are = sym (same ∙ read); tail_is = refl } in
            let reads = subst (λ (layout : Layout). ReadsAs layout page entries names tail first) (own_layout first ∙ ap layout_of (sym own)) said in
            record {
              header = header_alike version page entries names tail next first image reads empty.header;
              log = inr (emptied_log version page entries names tail next first image (λ files. recovered_so.next_is ∙ recovered_so.log.next files) reads empty);
              files = λ fits. record {
                fits = empty_fits (layout_in image) image none;
                recovers =
                    empty_recovered image bytes none ∙ quiet_image held bytes quiet (subst (λ stores. AreStoreImages stores bytes) there are) ∙ files_are
                    ∙ ap (λ names. files_named was.parts names was.stores) same ∙ stand_so (layout_in first) (layout_in first).header_lines first base readable;
              };
            };
      }

-- ---- where nothing was run

same_first : {S : Type 0} (a b : S) (past other : List S) → a ∷ past ≡ b ∷ other → a ≡ b
same_first a b past other is = cc

same_states : {S : Type 0} (row : List (List S)) (one other : List S) → AreNow row one → AreNow row other → one ≡ other
same_states [] [] [] a b = refl
same_states [] [] (y ∷ other) a b = absurd b
same_states [] (x ∷ one) other a b = absurd a
same_states (history ∷ row) [] other a b = absurd a
same_states (history ∷ row) (x ∷ one) [] a b = absurd b
same_states {S} (history ∷ row) (x ∷ one) (y ∷ other) a b =
    ap (λ (s : S). s ∷ one) (same_first x y a.0.past b.0.past (sym a.0.is ∙ b.0.is)) ∙ ap (λ (rest : List S). y ∷ rest) (same_states row one other a.1 b.1)

pub rest_lives : {X Y : Type 0} {Tells : Basis → Traced → (shown later : List PlacedCall) → Type 0} (history : X → lines.PartHistory) (held : Y → stores.StoreHistory) (basis : Basis) (trace : Traced) (parts : List X) (backing : List Y) (states : List Part) (disks : List Store) (next : ℕ)
    → AreNow (map history parts) states → AreNow (map held backing) disks → RowTells (map history parts) (IsAtRest mount_layout basis.sizes.page basis.sizes.entries basis.names next) → AreQuietStores disks → files_of disks ≡ basis.files → Tells basis trace [] []
    → AreLeftSo Tells history held basis trace [] (line_counts states) parts backing
rest_lives history held basis trace parts backing states disks next are disks_are rest quiet files_are tells = record {
  rounds = tells;
  parts_tell = all_tell (map history parts) states are;
  stores_tell = all_tell (map held backing) disks disks_are;
  lines_are = row_tells_from (map history parts) (λ now. line_counts now ≡ line_counts states) (λ now now_are. ap line_counts (same_states (map history parts) now states now_are are));
  life = record {
    later = [];
    is = record { legal = tt; of_trace = λ p one. absurd one; in_order = tt };
    images =
        row_tells_from (map history parts) (InEachRowImage (λ image. RowTells (map held backing) (λ held. (bytes : Files) → AreStoreImages held bytes → RecoversBehind basis trace [] image bytes))) (λ these these_are image is.
        let empty = (row_tells_at (map history parts) (IsAtRest mount_layout basis.sizes.page basis.sizes.entries basis.names next) these these_are rest).empty image is in
        let none = empty_none basis.sizes.page basis.sizes.entries basis.names next image empty in
        row_tells_from (map held backing) (λ held. (bytes : Files) → AreStoreImages held bytes → RecoversBehind basis trace [] image bytes) (λ those those_are bytes images.
        record {
          readable = empty.header.readable;
          page_is = empty.header.page_is;
          entries_is = empty.header.entries_is;
          names_are = empty.header.names_are;
          fits = empty_fits mount_layout image none;
          kept = [];
          of_trace = λ call one. absurd one;
          own_lines = tt;
          files = empty_recovered image bytes none ∙ quiet_image disks bytes quiet (subst (λ stores. AreStoreImages stores bytes) (same_states (map held backing) those disks those_are disks_are) images) ∙ files_are;
        }));
  };
}

-- stores that tell the same
pub left_same : {X Y : Type 0} {Tells : Basis → Traced → (shown later : List PlacedCall) → Type 0} (history : X → lines.PartHistory) (held : Y → stores.StoreHistory) (basis : Basis) (trace : Traced) (shown : List PlacedCall) (counts : List ℕ) (parts was : List X) (backing before : List Y) → map history parts ≡ map history was → map held backing ≡ map held before
    → AreLeftSo Tells history held basis trace shown counts was before → AreLeftSo Tells history held basis trace shown counts parts backing
left_same history held basis trace shown counts parts was backing before same_parts same_stores left = record {
  parts_tell = subst AllTell (sym same_parts) left.parts_tell;
  stores_tell = subst AllTell (sym same_stores) left.stores_tell;
  lines_are = subst (λ row. RowTells row (λ now. line_counts now ≡ counts)) (sym same_parts) left.lines_are;
  life = record { later = left.life.later; is = left.life.is; images = subst (Images (map held backing)) (sym same_parts) (subst (λ row. Images row (map history was)) (sym same_stores) left.life.images) };
  rounds = left.rounds;
}
  where
    Images : List stores.StoreHistory → List lines.PartHistory → Type 0
    Images store_row part_row = RowTells part_row (InEachRowImage (λ image. RowTells store_row (λ held. (bytes : Files) → AreStoreImages held bytes → RecoversBehind basis trace (shown ++ left.life.later) image bytes)))

-- what was told of the rounds tells this too
pub left_tells : {X Y : Type 0} {Tells Others : Basis → Traced → (shown later : List PlacedCall) → Type 0} (history : X → lines.PartHistory) (held : Y → stores.StoreHistory) (basis : Basis) (trace : Traced) (shown : List PlacedCall) (counts : List ℕ) (parts : List X) (backing : List Y)
    → ((later : List PlacedCall) → Tells basis trace shown later → Others basis trace shown later) → AreLeftSo Tells history held basis trace shown counts parts backing → AreLeftSo Others history held basis trace shown counts parts backing
left_tells history held basis trace shown counts parts backing tells left = record {
  parts_tell = left.parts_tell;
  stores_tell = left.stores_tell;
  lines_are = left.lines_are;
  life = left.life;
  rounds = tells left.life.later left.rounds;
}

-- the lines of parts that come out of a mount, by those that it was opened with
pub lines_home : (parts : List lines.PartHistory) (begun ended : Opened) (was spare : List Value) → begun ≡ ended → spare ≡ was → RowTells parts (λ now. line_counts now ≡ mounted_lines (mount_of ended) spare)
    → RowTells parts (λ now. line_counts now ≡ mounted_lines (mount_of begun) was)
lines_home parts begun ended was spare same alike keeps =
    subst (λ (o : Opened). RowTells parts (λ now. line_counts now ≡ mounted_lines (mount_of o) was)) (sym same)
    (subst (λ (values : List Value). RowTells parts (λ now. line_counts now ≡ mounted_lines (mount_of ended) values)) alike keeps)

-- a run of a bench of which nothing was lent
pub still_run : (Tells : Basis → Traced → (shown later : List PlacedCall) → Type 0) (old new : BenchState) (options : RunOptions) (trace : Traced) → QuietPartHasOneImage → new ≡ with_faults new.faults old → IfSome old.told IsQuietHolding → IfSome old.told (λ was. LeavesRun Tells options was trace [] new.told)
still_run Tells old new options trace one is quiet =
    if_told old.told (λ was. LeavesRun Tells options was trace [] new.told) (λ was told. record {
      stands = λ stand. inl (refl, inl (ap (λ (bench : BenchState). bench.told) is ∙ told));
      untouched = λ kept bad. (refl, inl (still_untouched old new was is told));
    })

-- ---- by the input

-- a schedule of the trace that the whole input is
pub schedule_from : (failed : Type 0) (options : RunOptions) (left : Option (List ℕ)) (old new : BenchState) (trace : Traced) → trace.form ≡ forms.Sched → IsRunnable trace → IfSome left (λ input. ending_of forms.Sched input ≡ Whole trace) → IfSome old.told (λ was. LeaveLives options old new was trace)
    → IfSome old.told (λ was. LeavesLife failed (Sched options) left old new was [])
schedule_from failed options left old new trace is_form runnable whole leaves =
    if_told old.told (λ was. LeavesLife failed (Sched options) left old new was []) (λ was is. inr (of_read forms.Sched left trace (λ trace. LeaveLives options old new was trace) is_form runnable whole (told_at old.told (λ was. LeaveLives options old new was trace) was is leaves)))

-- a command whose bench wasn't opened
pub life_unread : (failed : Type 0) (command : Command) (left : Option (List ℕ)) (old new : BenchState) → QuietPartHasOneImage → new ≡ with_faults new.faults old → IfSome old.told IsQuietHolding → IfSome old.told (λ was. LeavesLife failed command left old new was [])
life_unread failed (Run options) left old new one is quiet = if_told old.told (λ was. LeavesLife failed (Run options) left old new was []) (λ was told. inl (refl, ap (λ (bench : BenchState). bench.told) is ∙ told))
life_unread failed (Sched options) left old new one is quiet = if_told old.told (λ was. LeavesLife failed (Sched options) left old new was []) (λ was told. inl (ap (λ (bench : BenchState). bench.told) is ∙ told))
life_unread failed Recover left old new one is quiet = if_told old.told (λ was. LeavesLife failed Recover left old new was []) (λ was told. record { stands = λ readable. still_stands old new was is told quiet readable; untouched = λ bad. still_untouched old new was is told })
life_unread failed (Look files) left old new one is quiet = if_told old.told (λ was. LeavesLife failed (Look files) left old new was []) (λ was told. tt)
life_unread failed (Gen load) left old new one is quiet = still_run TellsNothing old new load_options (generated load) one is quiet
