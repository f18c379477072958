-- A region migrated: what the images of a row may be along its steps, and after them.
use Rattle.std.proofs.Common.{◌≡◌, ℕ, ◌+◌, ◌*◌, ◌/◌, ◌%◌, ◌<◌, ◌≤◌, ◌⊎◌, inl, inr, IsTrue, true, nat_le, not, ◌==◌, ◌&&◌, List, [], ◌++◌, length, map, take, drop, get_or, slice_index, slice_index_or, zero, suc, refl, sym, ap, ◌∙◌, subst, arith}
use Rattle.std.proofs.lemmas.Bool.{cases_eq, cases_lt, and_parts, and_from, le-leb}
use Rattle.std.proofs.lemmas.Bool.Decides.{nat_tests}
use Rattle.std.proofs.lemmas.List.{take_all, get_or_past}
use Rattle.std.proofs.lemmas.List.Sums.{AllPass-from_list_all}
use Rattle.std.specs.List.{list_all}
use Rattle.nv_plain.specs.Images.{Image, name_of}
use Rattle.nv_plain.specs.Layouts.{layout_of, version_1, version_2}
use Rattle.nv_plain.specs.Names.{is_name, is_name_byte}
use Rattle.nv_plain.specs.declared.limits.Version.{Version}
use Rattle.nv_plain.specs.declared.limits.Version.TheVariants.{One, Two}
use Rattle.nv_pmem.specs.Images.{IsPartImage, IsQuietPart}
use Rattle.nv_pmem.specs.Limits.{IsPageSize, IsEntryCount}
use Rattle.nv_pmem.specs.Part.{Part, part_word}
use Rattle.nv_pmem.specs.Room.{Room}
use Rattle.nv_pmem.specs.Rows.{RowStep, on_part, row_after, DidRow, DidSomeRow, RowTells, IsRowImage, InEachRowImage, EachRowMoment}
use Rattle.nv_pmem.specs.Runs.{run}
use Rattle.nv_pmem.specs.Steps.{PartHistory, durable_store}
use Rattle.nv_pmem.proofs.DurableLaws.{line_settled, quiet_settled}
use Rattle.nv_pmem.proofs.ImageLaws.{IsStoredBy, quiet_image}
use Rattle.nv_pmem.proofs.LineLaws.{overlaid, AreInside, word_of-after_steps, length-after_steps}
use Rattle.nv_pmem.proofs.OneOfRow.{lent}
use Rattle.nv_pmem.proofs.Ranges.{map-same}
use Rattle.nv_pmem.proofs.RowLaws.{steps_on, steps_on-other, on_part-append, row_at, row_tells_both, row_tells_more, row_tells_did, each_row_moment, row_image_comes_from, stored_by_row-take}
use Rattle.nv_pmem.proofs.StepLaws.{after_steps, after_steps-append, Always, always_by_fronts, always_append, always_last, did_some_none}
use Rattle.nv_header.specs.Changes.{AreChangedBy}
use Rattle.nv_header.specs.FileNames.{AreFileNames}
use Rattle.nv_header.specs.HeaderSteps.{records_steps, version_2_steps, migrate_steps}
use Rattle.nv_header.specs.Heads.{IsGoodName, first_names, record_line}
use Rattle.nv_header.specs.Migrations.{HasEmptyLogInEither}
use Rattle.nv_header.specs.Regions.{part_lines, IsRoomy, HasParts, HasEmptyLog, IsAtRest, IsRegion}
use Rattle.nv_header.proofs.AddLaws.{still, keeps_but_lines, kept_unless, count_is, name_at, stored_in_header, header_after}
use Rattle.nv_header.proofs.FormatLaws.{HasRoom, only_stores}
use Rattle.nv_header.proofs.RecordWords.{AreBytes, HasRecord, name_fits, name_is, record_holds}
use Rattle.nv_header.proofs.RecordsSteps.{records_only, records_overlay, records_inside, records_settle, records_quiet}

-- ---- the names

-- a name of version 1 is one of version 2
longer_name : (name : List ℕ) → IsTrue (is_name 56 name) → IsTrue (is_name 248 name)
longer_name name allowed =
    let enough = nat_le 1 (length name) in
    let few = nat_le (length name) 56 in
    let no_dot = not (slice_index name 0 == 46) in
    let bytes = list_all is_name_byte name in
    let all = and_parts (enough && few && no_dot) bytes allowed in
    let front = and_parts (enough && few) no_dot all.0 in
    let sizes = and_parts enough few front.0 in
    let fits : length name ≤ 248 = omega (arith, name_fits 56 name allowed) in
    and_from _ _ (and_from _ _ (and_from _ _ sizes.0 (le-leb (length name) 248 fits)) front.1) all.1

pub names_of_2 : (names : List (List ℕ)) → AreFileNames version_1 names → AreFileNames version_2 names
names_of_2 names are = record {
  few = omega (arith, are.few);
  allowed = λ i inside. longer_name (slice_index_or names i []) (are.allowed i inside);
  distinct = are.distinct;
}

part_of_2 : (version : Version) (page entries : ℕ) (rooms : List Room) → ((none : Room) → IsRoomy version_2.header_lines (slice_index_or rooms 0 none)) → HasParts (layout_of version) page entries rooms → (i : ℕ) (none : Room) → i ≤ entries → IsRoomy (part_lines version_2 page i) (slice_index_or rooms i none)
part_of_2 version page entries rooms header has zero none within = header none
part_of_2 version page entries rooms header has (suc i) none within = has.each (suc i) none within

-- the parts of a region, where that of its header has the lines of version 2
pub parts_of_2 : (version : Version) (page entries : ℕ) (rooms : List Room) → ((none : Room) → IsRoomy version_2.header_lines (slice_index_or rooms 0 none)) → HasParts (layout_of version) page entries rooms → HasParts version_2 page entries rooms
parts_of_2 version page entries rooms header has = record {
  count = has.count;
  each = λ i none within. part_of_2 version page entries rooms header has i none within;
}

small_byte : (byte : ℕ) → is_name_byte byte ≡ true → byte < 256
small_byte byte may = grind (arith, nat_tests)

-- a name's bytes are bytes
name_bytes : (most : ℕ) (name : List ℕ) → IsTrue (is_name most name) → AreBytes name
name_bytes most name allowed i =
    let front = nat_le 1 (length name) && nat_le (length name) most && not (slice_index name 0 == 46) in
    let bytes = AllPass-from_list_all is_name_byte name (and_parts front (list_all is_name_byte name) allowed).1 in
    elim (cases_lt i (length name)) [
      | inl inside ↦ small_byte (get_or name i 0) (bytes i 0 inside)
      | inr past ↦ omega (arith, get_or_past name i 0 past)
    ]

-- ---- while the records are written

while_records : (page entries next : ℕ) (names : List (List ℕ)) (parts : List Part) → length names ≤ 16 → InEachRowImage (HasEmptyLog version_1 page entries names next) parts → (count : ℕ)
    → InEachRowImage (HasEmptyLog version_1 page entries names next) (run row_after (take count (on_part 0 (records_steps version_2 names))) parts)
while_records page entries next names parts few each count image is =
    let steps = records_steps version_2 names in
    let from = row_image_comes_from (take count (on_part 0 steps)) parts image is in
    let words = λ (p : ℕ) (line : ℕ) (word : ℕ).
    let found : (image p line word ≡ from.before p line word) ⊎ ((p ≡ 0) × (18 ≤ line)) = elim (from.words p line word) [
      | inl kept ↦ inl kept
      | inr stored ↦
          let here = stored_in_header p line word (image p line word) steps (stored_by_row-take count (on_part 0 steps) p line word (image p line word) stored) in
          inr (here.0, records_only names line word (image p line word) here.1)
    ] in
    found in
    let log = each from.before from.is in
    still One page entries next names image from.before (keeps_but_lines One entries (length names) 18 image from.before (omega arith) words)
    (kept_unless _ _ (words 0 0 4) (λ one. omega (arith, one.1))) (count_is One page entries next names from.before log) log

-- ---- once they are durable

-- what each image then has: the header of version 1, and the records of version 2
record IsReady (page entries next : ℕ) (names : List (List ℕ)) (image : Image) : Type 0 where
  log : HasEmptyLog version_1 page entries names next image
  words : (i : ℕ) → i < length names → HasRecord Two image i (slice_index_or names i [])

ready : (page entries next : ℕ) (names : List (List ℕ)) (parts : List Part) → length names ≤ 16 → HasRoom Two page entries parts → InEachRowImage (HasEmptyLog version_1 page entries names next) parts
    → InEachRowImage (IsReady page entries next names) (run row_after (on_part 0 (records_steps version_2 names)) parts)
ready page entries next names parts few room each image is =
    let steps = records_steps version_2 names in
    let part = slice_index_or parts 0 [] in
    let row = on_part 0 steps in
    let all : take (length row) row ≡ row = take_all (length row) row (omega arith) in
    let Along : List RowStep → Type 0 = λ these. InEachRowImage (HasEmptyLog version_1 page entries names next) (run row_after these parts) in
    let At : Part → Type 0 = λ these. IsPartImage these (image 0) in
    let inside : 18 + 4 * length names ≤ length part = omega (arith, room.has 0 (omega arith)) in
    record {
      log = subst Along all (while_records page entries next names parts few each (length row)) image is;
      words = λ i below k small.
          quiet_image (after_steps steps part) (image 0) (record_line version_2 i + k / 8) (k % 8) (records_settle names (record_line version_2 i + k / 8) part (omega arith) (omega arith)) (subst At (header_after steps parts) (is.each 0))
          ∙ word_of-after_steps steps part (record_line version_2 i + k / 8) (k % 8) (records_inside names (length part) inside)
          ∙ records_overlay names i k (part_word part (record_line version_2 i + k / 8) (k % 8)) below (omega arith);
    }

-- ---- while the version is written

-- an image in which at most the version is another
IsButVersion : (image before : Image) → Type 0
IsButVersion image before = (i line word : ℕ) → (image i line word ≡ before i line word) ⊎ ((i ≡ 0) × (line ≡ 0) × (word ≡ 1))

in_version_1 : (page entries next : ℕ) (names : List (List ℕ)) (image before : Image) → IsButVersion image before → image 0 0 1 ≡ before 0 0 1 → HasEmptyLog version_1 page entries names next before → HasEmptyLog version_1 page entries names next image
unfolding IsButVersion
in_version_1 page entries next names image before words kept log =
    still One page entries next names image before (record {
      magic = kept_unless _ _ (words 0 0 0) (λ one. omega (arith, one.2));
      version_is = kept;
      page = kept_unless _ _ (words 0 0 2) (λ one. omega (arith, one.2));
      count_of_entries = kept_unless _ _ (words 0 0 3) (λ one. omega (arith, one.2));
      tail = kept_unless _ _ (words 0 1 0) (λ one. omega (arith, one.1));
      records = λ j below k small. kept_unless _ _ (words 0 (record_line version_1 j + k / 8) (k % 8)) (λ one. omega (arith, one.1));
      commits = λ k. kept_unless _ _ (words (1 + k) 0 0) (λ one. omega (arith, one.0));
    }) (kept_unless _ _ (words 0 0 4) (λ one. omega (arith, one.2))) (count_is One page entries next names before log) log

-- a name of each record
name_in_2 : (names : List (List ℕ)) (image : Image) (i : ℕ) → AreFileNames version_2 names → i < length names → HasRecord Two image i (slice_index_or names i []) → name_of version_2 image i ≡ slice_index_or names i []
name_in_2 names image i are below has =
    let name = slice_index_or names i [] in
    name_is Two image i name (name_fits 248 name (are.allowed i below)) (name_bytes 248 name (are.allowed i below)) has

good_in_2 : (names : List (List ℕ)) (image : Image) (i : ℕ) → AreFileNames version_2 names → i < length names → ((j : ℕ) → j < length names → HasRecord Two image j (slice_index_or names j [])) → IsGoodName version_2 image i
good_in_2 names image i are below has =
    let name = slice_index_or names i [] in
    record {
      whole = record_holds Two image i name (are.allowed i below) (name_bytes 248 name (are.allowed i below)) (has i below);
      new = λ j before equal.
          are.distinct j i before below
          (sym (name_in_2 names image j are (omega arith) (has j (omega arith))) ∙ equal ∙ name_in_2 names image i are below (has i below));
    }

names_in_2 : (page entries next : ℕ) (names : List (List ℕ)) (image before : Image) → AreFileNames version_2 names → ((i : ℕ) → i < length names → HasRecord Two image i (slice_index_or names i [])) → HasEmptyLog version_1 page entries names next before → first_names version_2 image (length names) ≡ names
unfolding first_names
names_in_2 page entries next names image before are has log =
    map-same (name_of version_2 image) (name_of version_1 before) 0 (length names) (λ i low high.
    name_in_2 names image i are (omega arith) (has i (omega arith)) ∙ name_at One page entries next names before i log (omega arith))
    ∙ ap (first_names version_1 before) (sym (count_is One page entries next names before log))
    ∙ log.header.names_are

in_version_2 : (page entries next : ℕ) (names : List (List ℕ)) (image before : Image) → AreFileNames version_2 names → IsButVersion image before → image 0 0 1 ≡ 2 → IsReady page entries next names before → HasEmptyLog version_2 page entries names next image
unfolding IsButVersion
in_version_2 page entries next names image before are words number was =
    let log = was.log in
    let fields = log.header.readable.fields in
    let magic = kept_unless _ _ (words 0 0 0) (λ one. omega (arith, one.2)) in
    let page_is = kept_unless _ _ (words 0 0 2) (λ one. omega (arith, one.2)) in
    let entries_is = kept_unless _ _ (words 0 0 3) (λ one. omega (arith, one.2)) in
    let tail_is = kept_unless _ _ (words 0 1 0) (λ one. omega (arith, one.1)) in
    let files : image 0 0 4 ≡ length names = kept_unless _ _ (words 0 0 4) (λ one. omega (arith, one.2)) ∙ count_is One page entries next names before log in
    let has = λ (i : ℕ) (below : i < length names).
    let Has : Type 0 = HasRecord Two image i (slice_index_or names i []) in
    let here : Has = λ k small. kept_unless _ _ (words 0 (record_line version_2 i + k / 8) (k % 8)) (λ one. omega (arith, one.1)) ∙ was.words i below k small in
    here in
    let Page : ℕ → Type 0 = IsPageSize in
    let Entries : ℕ → Type 0 = IsEntryCount in
    record {
      header = record {
        readable = record {
          long_enough = omega arith;
          fields = record {
            magic = magic ∙ fields.magic;
            version_is = number;
            page = subst Page (sym page_is) fields.page;
            entries = subst Entries (sym entries_is) fields.entries;
            files = omega (arith, files, are.few);
            tail = omega (arith, tail_is, fields.tail);
          };
          names = λ i below. good_in_2 names image i are (omega (arith, files)) has;
        };
        page_is = page_is ∙ log.header.page_is;
        entries_is = entries_is ∙ log.header.entries_is;
        names_are = ap (first_names version_2 image) files ∙ names_in_2 page entries next names image before are has log;
        tail_is = tail_is ∙ log.header.tail_is;
      };
      log = record {
        uncommitted = λ number from commit.
            log.log.uncommitted number from (sym (kept_unless _ _ (words (1 + number % entries) 0 0) (λ one. omega (arith, one.0))) ∙ commit);
      };
    }

while_version : (page entries next : ℕ) (names : List (List ℕ)) (parts : List Part) → AreFileNames version_2 names → InEachRowImage (IsReady page entries next names) parts → (count : ℕ)
    → InEachRowImage (HasEmptyLogInEither page entries names next) (run row_after (take count (on_part 0 (durable_store 0 1 2))) parts)
unfolding IsButVersion
while_version page entries next names parts are each count image is =
    let steps = durable_store 0 1 2 in
    let from = row_image_comes_from (take count (on_part 0 steps)) parts image is in
    let was = each from.before from.is in
    let stores = λ (p : ℕ) (line : ℕ) (word : ℕ) (stored : IsStoredBy (steps_on p (take count (on_part 0 steps))) line word (image p line word)).
    let here = stored_in_header p line word (image p line word) steps (stored_by_row-take count (on_part 0 steps) p line word (image p line word) stored) in
    let only = only_stores 0 1 2 line word (image p line word) here.1 in
    let all : (p ≡ 0) × (line ≡ 0) × (word ≡ 1) × (image p line word ≡ 2) = (here.0, only.0, only.1, only.2) in
    all in
    let words = λ (p : ℕ) (line : ℕ) (word : ℕ).
    let found : (image p line word ≡ from.before p line word) ⊎ ((p ≡ 0) × (line ≡ 0) × (word ≡ 1)) = elim (from.words p line word) [
      | inl kept ↦ inl kept
      | inr stored ↦ let all = stores p line word stored in inr (all.0, all.1, all.2)
    ] in
    found in
    elim (from.words 0 0 1) [
      | inl kept ↦ inl (in_version_1 page entries next names image from.before words kept was.log)
      | inr stored ↦ inr (in_version_2 page entries next names image from.before are words (stores 0 0 1 stored).3 was)
    ]

-- ---- all steps

migrate_always : (page entries next : ℕ) (names : List (List ℕ)) (parts : List Part) → AreFileNames version_1 names → HasRoom Two page entries parts → InEachRowImage (HasEmptyLog version_1 page entries names next) parts
    → Always row_after (InEachRowImage (HasEmptyLogInEither page entries names next)) (on_part 0 (version_2_steps names)) parts
unfolding version_2_steps
migrate_always page entries next names parts are room each =
    let P : List Part → Type 0 = InEachRowImage (HasEmptyLogInEither page entries names next) in
    let first = records_steps version_2 names in
    let last = durable_store 0 1 2 in
    let At : List RowStep → Type 0 = λ steps. Always row_after P steps parts in
    subst At (sym (on_part-append 0 first last))
    (always_append row_after P (on_part 0 first) (on_part 0 last) parts
    (always_by_fronts row_after P (on_part 0 first) parts (λ count few image is. inl (while_records page entries next names parts are.few each count image is)))
    (always_by_fronts row_after P (on_part 0 last) (run row_after (on_part 0 first) parts) (λ count few.
    while_version page entries next names (run row_after (on_part 0 first) parts) (names_of_2 names are) (ready page entries next names parts are.few room each) count)))

migrate_moments : (page entries next : ℕ) (names : List (List ℕ)) {old new : List PartHistory} → AreFileNames version_1 names → RowTells old (IsAtRest version_1 page entries names next) → RowTells old (HasRoom Two page entries)
    → DidSomeRow (on_part 0 (version_2_steps names)) old new → EachRowMoment (InEachRowImage (HasEmptyLogInEither page entries names next)) old new
migrate_moments page entries next names {old} are rest room did =
    let P : List Part → Type 0 = InEachRowImage (HasEmptyLogInEither page entries names next) in
    each_row_moment P
    (row_tells_more old (λ parts. IsAtRest version_1 page entries names next parts × HasRoom Two page entries parts) (Always row_after P (on_part 0 (version_2_steps names)))
    (λ parts both. migrate_always page entries next names parts are both.1 both.0.empty)
    (row_tells_both old (IsAtRest version_1 page entries names next) (HasRoom Two page entries) rest room))
    did

-- ---- after all steps

version_overlay : (was : ℕ) → overlaid (durable_store 0 1 2) 0 1 was ≡ 2
unfolding durable_store
version_overlay was = refl

version_inside : (lines : ℕ) → 0 < lines → AreInside lines (durable_store 0 1 2)
unfolding durable_store
version_inside lines some = (some, tt)

migrate_split : (names : List (List ℕ)) (part : Part) → after_steps (version_2_steps names) part ≡ after_steps (durable_store 0 1 2) (after_steps (records_steps version_2 names) part)
unfolding version_2_steps
migrate_split names part = after_steps-append (records_steps version_2 names) (durable_store 0 1 2) part

-- the version is 2 in each image
version_after : (page entries : ℕ) (names : List (List ℕ)) (parts : List Part) (image : Image) → HasRoom Two page entries parts → IsRowImage (run row_after (on_part 0 (version_2_steps names)) parts) image → image 0 0 1 ≡ 2
version_after page entries names parts image room is =
    let last = durable_store 0 1 2 in
    let part = slice_index_or parts 0 [] in
    let before = after_steps (records_steps version_2 names) part in
    let long : 0 < length before = omega (arith, room.has 0 (omega arith), length-after_steps (records_steps version_2 names) part) in
    let At : Part → Type 0 = λ these. IsPartImage these (image 0) in
    quiet_image (after_steps last before) (image 0) 0 1 (line_settled 0 1 2 before)
    (subst At (header_after (version_2_steps names) parts ∙ migrate_split names part) (is.each 0))
    ∙ word_of-after_steps last before 0 1 (version_inside (length before) long)
    ∙ version_overlay (part_word before 0 1)

quiet_after_migrating : (k : ℕ) (names : List (List ℕ)) (parts : List Part) → IsQuietPart (slice_index_or parts k []) → IsQuietPart (slice_index_or (run row_after (on_part 0 (version_2_steps names)) parts) k [])
unfolding run
quiet_after_migrating k names parts quiet =
    let steps = version_2_steps names in
    let part = slice_index_or parts 0 [] in
    elim (cases_eq k 0) [
      | inl first ↦
          let Here : ℕ → Type 0 = λ j. IsQuietPart (slice_index_or (run row_after (on_part 0 steps) parts) j []) in
          let Was : ℕ → Type 0 = λ j. IsQuietPart (slice_index_or parts j []) in
          subst Here (sym first)
          (subst IsQuietPart (sym (header_after steps parts ∙ migrate_split names part))
          (quiet_settled 0 1 2 (after_steps (records_steps version_2 names) part) (records_quiet names part (subst Was first quiet))))
      | inr other ↦
          subst IsQuietPart
          (sym (row_at k (on_part 0 steps) parts ∙ ap (λ these. after_steps these (slice_index_or parts k [])) (steps_on-other k 0 steps other))) quiet
    ]

is_migrated : (page entries next : ℕ) (names : List (List ℕ)) (image : Image) → image 0 0 1 ≡ 2 → HasEmptyLogInEither page entries names next image → HasEmptyLog version_2 page entries names next image
is_migrated page entries next names image number (inl old) = absurd (omega (arith, number, old.header.readable.fields.version_is))
is_migrated page entries next names image number (inr new) = new

migrated_rest : (page entries next : ℕ) (names : List (List ℕ)) (parts : List Part) → AreFileNames version_1 names → HasRoom Two page entries parts → IsAtRest version_1 page entries names next parts
    → IsAtRest version_2 page entries names next (run row_after (on_part 0 (version_2_steps names)) parts)
migrated_rest page entries next names parts are room rest =
    let P : List Part → Type 0 = InEachRowImage (HasEmptyLogInEither page entries names next) in
    let steps = on_part 0 (version_2_steps names) in
    record {
      quiet = record { each = λ k. quiet_after_migrating k names parts (rest.quiet.each k) };
      empty = λ image is.
          is_migrated page entries next names image (version_after page entries names parts image room is)
          (always_last row_after P steps parts (migrate_always page entries next names parts are room rest.empty) image is);
    }

-- After all steps the region is of version 2.
pub migrate_tells : (page entries next : ℕ) (names : List (List ℕ)) {old new : List PartHistory} → AreFileNames version_1 names → RowTells old (IsAtRest version_1 page entries names next) → RowTells old (HasRoom Two page entries)
    → DidRow (on_part 0 (version_2_steps names)) old new → RowTells new (IsAtRest version_2 page entries names next)
migrate_tells page entries next names {old} {new} are rest room did =
    row_tells_did (λ parts. IsAtRest version_1 page entries names next parts × HasRoom Two page entries parts) (IsAtRest version_2 page entries names next)
    (row_tells_both old (IsAtRest version_1 page entries names next) (HasRoom Two page entries) rest room)
    (λ parts both. migrated_rest page entries next names parts are both.1 both.0)
    did

-- What migrating did, whichever answer came, to a vector of parts that was lent as a slice.
pub migrate_changed : {X : Type 0} (version : Version) (history : X → PartHistory) (room : X → Room) (device : X → ℕ) (page entries next : ℕ) (names : List (List ℕ)) (parts now new : List X) (len : ℕ) → version ≡ One → now ≡ parts → length parts ≡ len → length new ≡ length now → IsRegion (layout_of version) page entries names next (map room parts) (map history parts)
    → RowTells (map history parts) (HasRoom Two page entries) → DidSomeRow (on_part 0 (version_2_steps names)) (map history now) (map history new) → map (λ part. (room part).lines) new ≡ map (λ part. (room part).lines) now → map device new ≡ map device now
    → AreChangedBy history room device (on_part 0 (migrate_steps version names)) (HasEmptyLogInEither page entries names next) parts (take len (new ++ drop (length new) parts))
migrate_changed Two history room device page entries next names parts now new len first same long still region has did lines devices = absurd cc
migrate_changed One history room device page entries next names parts now new len first same long still region has did lines devices =
    let begun = lent parts now new len same long still (λ old new. DidSomeRow (on_part 0 (version_2_steps names)) (map history old) (map history new)) did in
    record {
      begun = begun;
      moments = migrate_moments page entries next names region.names_are region.tells has begun;
      lines = lent parts now new len same long still (λ old new. map (λ part. (room part).lines) new ≡ map (λ part. (room part).lines) old) lines;
      devices = lent parts now new len same long still (λ old new. map device new ≡ map device old) devices;
    }

-- and where the region was of version 2
pub migrate_unchanged : {X : Type 0} (version : Version) (history : X → PartHistory) (room : X → Room) (device : X → ℕ) (page entries next : ℕ) (names : List (List ℕ)) (parts : List X) → version ≡ Two → IsRegion (layout_of version) page entries names next (map room parts) (map history parts)
    → AreChangedBy history room device (on_part 0 (migrate_steps version names)) (HasEmptyLogInEither page entries names next) parts parts
migrate_unchanged One history room device page entries next names parts second region = absurd cc
migrate_unchanged Two history room device page entries next names parts second region =
    let P : List Part → Type 0 = InEachRowImage (HasEmptyLogInEither page entries names next) in
    record {
      begun = did_some_none;
      moments =
          each_row_moment P {steps = []}
          (row_tells_more (map history parts) (IsAtRest version_2 page entries names next) P (λ parts at_rest image is. inr (at_rest.empty image is)) region.tells)
          did_some_none;
      lines = refl;
      devices = refl;
    }
