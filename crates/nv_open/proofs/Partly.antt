-- Partly: what an opening leaves that failed.
use Rattle.std.proofs.Common.{◌≡◌, ◌≢◌, ℕ, ◌+◌, ◌<◌, suc, Bool, true, false, cond, All, List, [], ◌∷◌, ◌++◌, length, map, get_or, slice_index_or, take, inl, inr, refl, sym, ap, subst, ◌∙◌, arith, append_assoc, length-append}
use Rattle.std.specs.Prelude.{Contains, Option, Some, fold, if◌then◌else◌, option_map}
use Rattle.std.specs.List.{flat_map}
use Rattle.std.proofs.Math.Seq.{take-append_seam, take-append-add}
use Rattle.std.proofs.lemmas.List.{append-nil, get_or_append_left, get_or-append-add, get_or_default, length-map, length-set, map-append, take-map, take_all}
use Rattle.std.proofs.lemmas.List.Elements.{All-nil, All-cons, All-append, Contains-append_right}
use Rattle.nv_plain.specs.Files.{Files}
use Rattle.nv_plain.specs.Images.{Image, header_of, layout_in, version_in}
use Rattle.nv_plain.specs.Layouts.{layout_of, mount_layout, mount_version}
use Rattle.nv_plain.specs.declared.limits.Version.{Version}
use Rattle.nv_plain.specs.declared.limits.Version.TheVariants.{One, Two}
use Rattle.nv_header.specs.Migrations.{HasEmptyLogInEither}
use Rattle.nv_plain.specs.Recovered.{Fits, committed, group_numbers, recovered, with_entry}
use Rattle.nv_pmem.specs.Part.{Part}
use Rattle.nv_pmem.specs.Rows.{EachRowMoment, InEachRowImage, RowTells, row_grown, row_words}
use Rattle.nv_pmem.specs.RowStates.{AreNow, TellingRowsHaveStates, row_tells_at}
use Rattle.nv_pmem.specs.Runs.{run}
use Rattle.nv_pmem.specs.Steps as lines
use Rattle.nv_pmem.specs.declared.geometry.Geometry.{Geometry}
use Rattle.nv_store.specs.Steps.{StoreHistory}
use Rattle.nv_store.specs.Store.{IsQuietStore, Store}
use Rattle.nv_bench.specs.Benches.{BenchState, with_faults}
use Rattle.nv_bench.specs.Holding.{Holding, NamedStore, named_stores, store_of}
use Rattle.nv_bench.specs.Naming.{AreDistinct, names_of}
use Rattle.nv_bench.specs.Opening.{is_blank}
use Rattle.nv_header.specs.FileNames.{AreFileNames}
use Rattle.nv_header.specs.Regions.{HasEmptyLog, IsBlankOrFormatted}
use Rattle.nv_recover.specs.Standing.{AreQuietStores, AreStoreImages, StandsFor, files_of}
use Rattle.nv_recover.specs.Telling.{AllTell}
use Rattle.nv_recover.proofs.AlikeLaws.{empty_fits, empty_recovered}
use Rattle.nv_recover.proofs.ApplyLaws.{quiet_image}
use Rattle.nv_recover.proofs.EmptyLaws.{empty_none}
use Rattle.nv_open.specs.Adding.{new_names}
use Rattle.nv_open.specs.Begun.{files_behind, files_with}
use Rattle.nv_open.specs.Held.{files_named, header_names}
use Rattle.nv_open.specs.Lending.{stores_lent, stores_named, without_named, without_stores}
use Rattle.nv_open.specs.Refusals.{head_image}
use Rattle.nv_open.specs.Unopened.{GivesBack, HasFirstNames, HasHeader, HasRest, HasSome, InEachImage, StandsAsBefore, StandsWithSome, TellRow, entries_known, first_files, line_counts, names_in, names_known, page_known, version_known}
use Rattle.nv_open.proofs.GivenBack.{among}
use Rattle.nv_open.proofs.Homes.{NotNamed, all_away, all_behind, all_in_front, behind, found_same, in_front, kept_in_all, not_given, one_or_none, other_name, own_stores}
use Rattle.nv_open.proofs.Openings.{store_of_others}
use Rattle.nv_open.proofs.Returns.{named_quiet}
use Rattle.nv_open.proofs.Tells.{did_tells}
use Rattle.nv_open.proofs.Versions.{empty_names, empty_readable, empty_version, version_same}

-- ---- parts after the last step of a call

moment_end : (P : List Part → Type 0) (old new : List lines.PartHistory) → EachRowMoment P old new → RowTells new P
moment_end P old new moments =
    let all : run row_grown (take (length moments.steps) moments.steps) old ≡ new =
    ap (λ steps. run row_grown steps old) (take_all (length moments.steps) moments.steps (omega arith)) ∙ sym moments.did.states in
    let At : List lines.PartHistory → Type 0 = λ row. RowTells row P in
    subst At all (moments.each (length moments.steps) (omega arith))

pub row_end : (P : Image → Type 0) (old new : List lines.PartHistory) → TellingRowsHaveStates → AllTell old → EachRowMoment (InEachRowImage P) old new → TellRow (InEachRowImage P) new
row_end P old new states tell moments =
    let now = states new (did_tells moments.steps old new moments.did tell) in
    record { now = now.states; now_are = now.are; is_so = row_tells_at new (InEachRowImage P) now.states now.are (moment_end (InEachRowImage P) old new moments) }

pub row_more : (P Q : Image → Type 0) (row : List lines.PartHistory) → ((image : Image) → P image → Q image) → TellRow (InEachRowImage P) row → TellRow (InEachRowImage Q) row
row_more P Q row step has = record { now = has.now; now_are = has.now_are; is_so = λ image is. step image (has.is_so image is) }

-- ---- a region of either version

pub or_one : (version : Version) → ¬ (version ≡ Two) → One ≡ version
or_one One other = refl
or_one Two other = absurd (other refl)

-- one that was being carried over has its names, and no more
pub in_either : (version : Version) (page entries : ℕ) (names : List (List ℕ)) (next : ℕ) (image : Image) → One ≡ version → HasEmptyLogInEither page entries names next image → HasFirstNames version page entries names [] next image
in_either version page entries names next image known either = elim either [
  | inl first ↦ record { now = One; now_is = inl known; count = 0; empty = subst (λ (these : List (List ℕ)). HasEmptyLog (layout_of One) page entries these next image) (sym (append-nil names)) first }
  | inr second ↦ record { now = Two; now_is = inr refl; count = 0; empty = subst (λ (these : List (List ℕ)). HasEmptyLog (layout_of Two) page entries these next image) (sym (append-nil names)) second }
]

-- ---- files of an image

many_entries : (image : Image) (numbers : List ℕ) (files : Files) → length (fold (with_entry image) files numbers).contents ≡ length files.contents
many_entries image [] files = refl
many_entries image (number ∷ later) files = many_entries image later (with_entry image files number) ∙ length-set files.contents _ _

pub many_recovered : (image : Image) (files : Files) → length (recovered image files).files.contents ≡ length files.contents
many_recovered image files = many_entries image (flat_map (group_numbers image) (committed image)) files

-- one whose log is empty stands for what the stores hold
empty_stands : (version : Version) (page entries : ℕ) (names : List (List ℕ)) (next : ℕ) (image : Image) (bytes files : Files) → HasEmptyLog (layout_of version) page entries names next image → bytes ≡ files → StandsFor image bytes files
empty_stands version page entries names next image bytes files empty same =
    let none = empty_none page entries names next image empty in
    record { fits = empty_fits (layout_in image) image none; recovers = empty_recovered image bytes none ∙ same }

same_contents : (bytes : Files) (contents : List (List ℕ)) → bytes.contents ≡ contents → bytes ≡ record { contents = contents }
same_contents bytes contents same = ap (λ these. let files : Files = record { contents = these } in files) same

no_length : {X : Type 0} (xs : List X) → length xs ≡ 0 → xs ≡ []
no_length [] is = refl
no_length (x ∷ xs) is = absurd (omega (arith, is))

-- ---- a blank region

pub blank_known : (parts : List Part) → is_blank parts ≡ true → names_known parts ≡ []
blank_known parts blank = ap (λ (test : Bool). if test then [] else header_names parts) blank

pub kept_known : (parts : List Part) → is_blank parts ≡ false → names_known parts ≡ header_names parts
kept_known parts blank = ap (λ (test : Bool). if test then [] else header_names parts) blank

-- and so its sizes
pub blank_page : (parts : List Part) (geometry : Geometry) → is_blank parts ≡ true → page_known parts geometry ≡ geometry.page
blank_page parts geometry blank = ap (λ (test : Bool). if test then geometry.page else (header_of (head_image parts)).page) blank

pub blank_version : (parts : List Part) → is_blank parts ≡ true → version_known parts ≡ mount_version
blank_version parts blank = ap (λ (test : Bool). if test then mount_version else version_in (head_image parts)) blank

pub blank_entries : (parts : List Part) (geometry : Geometry) → is_blank parts ≡ true → entries_known parts geometry ≡ geometry.entries
blank_entries parts geometry blank = ap (λ (test : Bool). if test then geometry.entries else (header_of (head_image parts)).entries) blank

pub kept_page : (parts : List Part) (geometry : Geometry) → is_blank parts ≡ false → page_known parts geometry ≡ (header_of (head_image parts)).page
kept_page parts geometry blank = ap (λ (test : Bool). if test then geometry.page else (header_of (head_image parts)).page) blank

pub kept_version : (parts : List Part) → is_blank parts ≡ false → version_known parts ≡ version_in (head_image parts)
kept_version parts blank = ap (λ (test : Bool). if test then mount_version else version_in (head_image parts)) blank

pub kept_entries : (parts : List Part) (geometry : Geometry) → is_blank parts ≡ false → entries_known parts geometry ≡ (header_of (head_image parts)).entries
kept_entries parts geometry blank = ap (λ (test : Bool). if test then geometry.entries else (header_of (head_image parts)).entries) blank

-- its formatting failed, or had not begun
pub blank_left : (geometry : Geometry) (was back : Holding) (wanted : List (List ℕ)) → is_blank was.parts ≡ true → InEachRowImage (IsBlankOrFormatted mount_layout geometry.page geometry.entries) back.parts → InEachImage (StandsWithSome geometry was wanted) back
blank_left geometry was back wanted blank each image bytes is are = elim (each image is) [
  | inl none ↦ inl (blank, none)
  | inr empty ↦
      let no_name : names_in image ≡ [] = empty_names mount_version geometry.page geometry.entries [] 0 image empty in
      let no_store : length bytes.contents ≡ 0 = are.count ∙ ap (λ names. length (stores_named names back.stores)) no_name in
      let known = names_known was.parts in
      let none : length known ≡ 0 = ap (λ (names : List (List ℕ)). length names) (blank_known was.parts blank) in
      inr (record {
        count = 0;
        enough = omega (arith, none);
        version_is = inr (empty_version mount_version geometry.page geometry.entries [] 0 image empty);
        readable = empty_readable mount_version geometry.page geometry.entries [] 0 image empty;
        page_is = empty.header.page_is ∙ sym (blank_page was.parts geometry blank);
        entries_is = empty.header.entries_is ∙ sym (blank_entries was.parts geometry blank);
        names_are = no_name;
        stands = empty_stands mount_version geometry.page geometry.entries [] 0 image bytes (record { contents = [] }) empty (same_contents bytes [] (no_length bytes.contents no_store));
      })
]

-- ---- a region that stands as before

pub kept_left : (geometry : Geometry) (was back : Holding) (wanted : List (List ℕ)) → is_blank was.parts ≡ false → HasHeader was.parts → Fits (layout_in (row_words was.parts)) (row_words was.parts) → StandsAsBefore was back → InEachImage (StandsWithSome geometry was wanted) back
kept_left geometry was back wanted blank can fits stands image bytes is are =
    let names = header_names was.parts in
    let known = names_known was.parts in
    let same : known ≡ names = kept_known was.parts blank in
    let read = stands.same_names image is in
    let place = stands.stands image bytes is (subst (λ these. AreStoreImages (stores_named these back.stores) bytes) read are) in
    let base = files_of (stores_named names was.stores) in
    let log = recovered (row_words was.parts) base in
    let named : files_named was.parts known was.stores ≡ log.files =
    ap (λ these. files_named was.parts these was.stores) same ∙ ap (λ (test : Bool). cond test base log.files) blank in
    let many : length (files_named was.parts known was.stores).contents ≡ length known =
    ap (λ (files : Files). length files.contents) named ∙ many_recovered (row_words was.parts) base ∙ length-map (stores_named names was.stores) (λ (store : Store). store.seen)
    ∙ length-map names (λ name. store_of name was.stores) ∙ sym (ap (λ (these : List (List ℕ)). length these) same) in
    let new = (files_of (stores_named (new_names known wanted) was.stores)).contents in
    let front : first_files (length known) (files_with was.parts known wanted was.stores) ≡ files_named was.parts known was.stores =
    same_contents (first_files (length known) (files_with was.parts known wanted was.stores)) (files_named was.parts known was.stores).contents
    (ap (λ n. take n ((files_named was.parts known was.stores).contents ++ new)) (sym many) ∙ take-append_seam (files_named was.parts known was.stores).contents new) in
    let stand = place.files fits in
    inr (record {
      count = length known;
      enough = omega arith;
      version_is = inl (version_same (row_words was.parts) image place.header.version ∙ sym (kept_version was.parts blank));
      readable = place.header.readable;
      page_is = place.header.page ∙ sym (kept_page was.parts geometry blank);
      entries_is = place.header.entries ∙ sym (kept_entries was.parts geometry blank);
      names_are = read ∙ sym same ∙ sym (take-append_seam known (new_names known wanted));
      stands = record { fits = stand.fits; recovers = stand.recovers ∙ sym named ∙ sym front };
    })

-- ---- stores that came back, and names that were added

named_append : (a b : List (List ℕ)) (x y : List Store) → length a ≡ length x → named_stores (a ++ b) (x ++ y) ≡ named_stores a x ++ named_stores b y
named_append [] b [] y long = refl
named_append [] b (store ∷ x) y long = absurd (omega (arith, long))
named_append (name ∷ a) b [] y long = absurd (omega (arith, long))
named_append (name ∷ a) b (store ∷ x) y long = ap (λ (rest : List NamedStore). record { name = name; store = store } ∷ rest) (named_append a b x y (omega (arith, long)))

-- a name behind others is none of these
apart_names : (front back : List (List ℕ)) (name : List ℕ) → AreFileNames mount_layout (front ++ back) → Contains back name → ¬ (Contains front name)
apart_names front back name are (j, below, is) (k, inside, at) =
    let all : length (front ++ back) ≡ length front + length back = length-append front back in
    let first : get_or (front ++ back) k [] ≡ name = get_or_append_left front back [] k inside ∙ get_or_default front k [] name inside ∙ at in
    let last : get_or (front ++ back) (length front + j) [] ≡ name = get_or-append-add front back j [] ∙ get_or_default back j [] name below ∙ is in
    are.distinct k (length front + j) (omega (arith, inside)) (omega (arith, below, all)) (first ∙ sym last)

-- a lent name is at no store at home
away_at : (home : List NamedStore) (lent : List (List ℕ)) (name : List ℕ) → AreDistinct (names_of home ++ lent) → Contains lent name → All (NotNamed name) home
away_at [] lent name distinct there = All-nil (NotNamed name)
away_at (first ∷ home) lent name distinct there =
    All-cons (NotNamed name) first home
    (other_name first.name name (λ same. distinct.0 (subst (λ one. Contains (names_of home ++ lent) one) (sym same) (Contains-append_right (names_of home) lent name there)))) (away_at home lent name distinct.1 there)

all_from : (names : List (List ℕ)) (P : List ℕ → Type 0) → ((name : List ℕ) → Contains names name → P name) → All P names
all_from [] P each = All-nil P
all_from (name ∷ names) P each =
    All-cons P name names (each name (0, omega arith, refl)) (all_from names P (λ other there. each other (suc there.0, (let below = there.1 in omega (arith, below)), there.2)))

module _ (home : List NamedStore) (known more : List (List ℕ)) (held : List Store) (distinct : AreDistinct (names_of home ++ known)) (own : AreDistinct (names_of home)) (are : AreFileNames mount_layout (known ++ more)) (long : length known ≡ length held) where
  abbrev others : List NamedStore
  others = without_stores more home

  abbrev added : List NamedStore
  added = named_stores more (stores_named more home)

  abbrev back : List NamedStore
  back = others ++ (named_stores known held ++ added)

  abbrev Alone : (i j : ℕ) → Type 0
  Alone i j = i < j → j < length known → slice_index_or known i [] ≢ slice_index_or known j []

  known_differ : (i j : ℕ) → Alone i j
  known_differ i j less below =
      let all : length (known ++ more) ≡ length known + length more = length-append known more in
      λ same. are.distinct i j less (omega (arith, below, all))
      (get_or_append_left known more [] i (omega (arith, less, below)) ∙ same ∙ sym (get_or_append_left known more [] j below))

  -- the known names find theirs
  known_back : stores_named known back ≡ held
  known_back =
      all_behind known others (named_stores known held ++ added) (all_from known (λ name. All (NotNamed name) others) (λ name there. kept_in_all (NotNamed name) more home (away_at home known name distinct there)))
      ∙ all_in_front known (named_stores known held) added
      (all_from known (λ name. All (NotNamed name) added) (λ name there. not_given name more (stores_named more home) (λ behind_it. apart_names known more name are behind_it there)))
      ∙ own_stores known held long known_differ

  -- and any other name the one that it had
  other_back : (name : List ℕ) → ¬ (Contains known name) → store_of name back ≡ store_of name home
  other_back name apart =
      let front : back ≡ (others ++ named_stores known held) ++ added = sym (append_assoc others (named_stores known held) added) in
      ap (λ (stores : List NamedStore). store_of name stores) front ∙ elim (one_or_none more name) [
        | inl there ↦
            let Away : List ℕ → Type 0 = λ one. All (NotNamed one) others in
            behind name (others ++ named_stores known held) added
            (All-append (NotNamed name) others (named_stores known held) (subst Away there.2 (all_away more home own there.0 name there.1)) (not_given name known held apart))
            ∙ found_same name more home there
        | inr absent ↦
            in_front name (others ++ named_stores known held) added (not_given name more (stores_named more home) absent)
            ∙ in_front name others (named_stores known held) (not_given name known held apart) ∙ store_of_others name more home absent
      ]

  others_back : (names : List (List ℕ)) → ((name : List ℕ) → Contains names name → ¬ (Contains known name)) → stores_named names back ≡ stores_named names home
  others_back [] apart = refl
  others_back (name ∷ names) apart =
      ap (λ (store : Store). store ∷ stores_named names back) (other_back name (apart name (0, omega arith, refl)))
      ∙ ap (λ (stores : List Store). store_of name home ∷ stores) (others_back names (λ other there. apart other (suc there.0, (let below = there.1 in omega (arith, below)), there.2)))

  pub all_back : (names : List (List ℕ)) → ((name : List ℕ) → Contains names name → ¬ (Contains known name)) → stores_named (known ++ names) back ≡ held ++ stores_named names home
  all_back names apart =
      map-append (λ name. store_of name back) known names ∙ ap (λ (stores : List Store). stores ++ stores_named names back) known_back
      ∙ ap (λ (stores : List Store). held ++ stores) (others_back names apart)

quiet_first : (names : List (List ℕ)) (stores : List NamedStore) → All (λ (named : NamedStore). IsQuietStore named.store) stores → AreQuietStores (stores_named names stores)
quiet_first names stores quiet = named_quiet names stores quiet

-- ---- a region that was begun

-- an image of it has its names, and the first of the new ones
module _ (version : Version) (home : List NamedStore) (known new more : List (List ℕ)) (held : List Store) (files : Files) (page entries next : ℕ) (distinct : AreDistinct (names_of home ++ known)) (own : AreDistinct (names_of home))
    (are : AreFileNames mount_layout (known ++ more)) (long : length known ≡ length held) (files_are : files_of held ≡ files) (quiet : AreQuietStores held) (still : All (λ (named : NamedStore). IsQuietStore named.store) home)
    (apart : (name : List ℕ) → Contains new name → ¬ (Contains known name)) where
  pub begun_left : (back : Holding) → InEachRowImage (HasFirstNames version page entries known new next) back.parts → back.stores ≡ without_stores more home ++ (named_stores known held ++ named_stores more (stores_named more home))
      → InEachImage (HasSome version page entries (length known) (known ++ new) (files_behind files new home)) back
  begun_left back each stores image bytes is images =
      let has = each image is in
      let first = take has.count new in
      let read : names_in image ≡ known ++ first = empty_names has.now page entries (known ++ first) next image has.empty in
      let these : stores_named (names_in image) back.stores ≡ held ++ stores_named first home =
      ap (λ names. stores_named names back.stores) read ∙ ap (λ (all : List NamedStore). stores_named (known ++ first) all) stores
      ∙ all_back home known more held distinct own are long first (λ name there. apart name (among has.count new name there)) in
      let all_quiet : AreQuietStores (held ++ stores_named first home) = All-append IsQuietStore held (stores_named first home) quiet (quiet_first first home still) in
      let bytes_are = quiet_image (held ++ stores_named first home) bytes all_quiet (subst (λ all. AreStoreImages all bytes) these images) in
      let Seen : List Store → List (List ℕ) = λ all. map (λ (store : Store). store.seen) all in
      let files_long : length files.contents ≡ length known = ap (λ (all : Files). length all.contents) (sym files_are) ∙ length-map held (λ (store : Store). store.seen) ∙ sym long in
      let shown : Seen (held ++ stores_named first home) ≡ take (length known + has.count) (files.contents ++ Seen (stores_named new home)) =
      map-append (λ (store : Store). store.seen) held (stores_named first home)
      ∙ ap (λ front. front ++ Seen (stores_named first home)) (ap (λ (all : Files). all.contents) files_are)
      ∙ ap (λ rest. files.contents ++ rest) (sym (take-map (λ (store : Store). store.seen) has.count (stores_named new home) ∙ ap Seen (take-map (λ name. store_of name home) has.count new)))
      ∙ sym (take-append-add files.contents (Seen (stores_named new home)) has.count)
      ∙ ap (λ n. take (n + has.count) (files.contents ++ Seen (stores_named new home))) files_long in
      record {
        count = length known + has.count;
        enough = omega arith;
        version_is = elim has.now_is [
          | inl same ↦ inl (empty_version has.now page entries (known ++ first) next image has.empty ∙ same)
          | inr mount ↦ inr (empty_version has.now page entries (known ++ first) next image has.empty ∙ mount)
        ];
        readable = empty_readable has.now page entries (known ++ first) next image has.empty;
        page_is = has.empty.header.page_is;
        entries_is = has.empty.header.entries_is;
        names_are = read ∙ sym (take-append-add known new has.count);
        stands =
            empty_stands has.now page entries (known ++ first) next image bytes (first_files (length known + has.count) (files_behind files new home)) has.empty
            (bytes_are ∙ same_contents (files_of (held ++ stores_named first home)) (take (length known + has.count) (files.contents ++ Seen (stores_named new home))) shown);
      }

  -- and that is what a bench is given back
  pub begun_back : {X Y : Type 0} (part_history : X → lines.PartHistory) (store_history : Y → StoreHistory) (old bench : BenchState) (parts : List X) (stores : List Y) (left : Holding) (counts : List ℕ) → old.told ≡ Some left → left.stores ≡ home → old.lent ≡ known
      → bench ≡ with_faults bench.faults (stores_lent more old) → (row : TellRow (InEachRowImage (HasFirstNames version page entries known new next)) (map part_history parts)) → line_counts row.now ≡ counts
      → AreNow (map store_history stores) (held ++ stores_named more home)
      → GivesBack part_history store_history (λ now. InEachImage (HasSome version page entries (length known) (known ++ new) (files_behind files new home)) now × HasRest counts known home now) bench parts stores
  begun_back part_history store_history old bench parts stores left counts told at_home lent is row counted held_are =
      let now_held = held ++ stores_named more home in
      let all : List NamedStore = without_stores more home ++ (named_stores known held ++ named_stores more (stores_named more home)) in
      let back : Holding = record { parts = row.now; stores = all } in
      let gives : List (List ℕ) → Holding → Holding = λ names holding. record { parts = row.now; stores = holding.stores ++ named_stores names now_held } in
      let told_is : bench.told ≡ Some (without_named more left) = ap (λ (state : BenchState). state.told) is ∙ ap (λ (one : Option Holding). option_map (without_named more) one) told in
      let lent_is : bench.lent ≡ known ++ more = ap (λ (state : BenchState). state.lent) is ∙ ap (λ (front : List (List ℕ)). front ++ more) lent in
      record {
        now = row.now;
        held = now_held;
        now_are = row.now_are;
        held_are = held_are;
        tells = record {
          now = back;
          told_is =
              ap (λ (one : Option Holding). option_map (gives bench.lent) one) told_is ∙ ap (λ names. Some (gives names (without_named more left))) lent_is
              ∙ ap (λ (stores : List NamedStore). Some (record { parts = row.now; stores = without_stores more stores ++ named_stores (known ++ more) now_held })) at_home
              ∙ ap (λ (given : List NamedStore). Some (record { parts = row.now; stores = without_stores more home ++ given })) (named_append known more held (stores_named more home) long);
          is_so = (
            begun_left back row.is_so refl,
            record {
              lines_are = counted;
              others = λ name other. other_back home known more held distinct own are long name other;
            },
          );
        };
      }
