-- Laws about what a mount opens: the files of its stores, and the empty log of its region.
use Rattle.std.proofs.Common.{◌≡◌, ℕ, zero, suc, ◌+◌, ◌<◌, ◌≤◌, ◌⊎◌, false, List, [], ◌∷◌, length, get_or, map, drop, Option, inl, inr, refl, sym, ap, subst, ◌∙◌, arith}
use Rattle.std.specs.Prelude.{Some, None}
use Rattle.std.specs.List.{All, AllZip}
use Rattle.std.proofs.lemmas.Bool.{cases_lt}
use Rattle.std.proofs.lemmas.List.{get_or-map, length-map}
use Rattle.std.proofs.lemmas.Slice.Zip.{AllZip-long}
use Rattle.nv_plain.specs.Files.{Files, contents_of}
use Rattle.nv_plain.specs.Layouts.{mount_layout}
use Rattle.nv_pmem.specs.Moments.{Tells}
use Rattle.nv_pmem.specs.Part.{Part}
use Rattle.nv_pmem.specs.Room.{Room}
use Rattle.nv_pmem.specs.RowStates.{AreNow, EachPartHasOne, row_tells_at, row_tells_from}
use Rattle.nv_pmem.specs.Rows.{RowTells}
use Rattle.nv_pmem.specs.Steps.{PartHistory}
use Rattle.nv_store.specs.Steps.{StoreHistory}
use Rattle.nv_store.specs.Store.{Store, IsQuietStore}
use Rattle.nv_header.specs.Regions.{part_lines, IsAtRest, IsRegion}
use Rattle.nv_header.proofs.InRow.{HaveLines, told_room}
use Rattle.nv_core.specs.state.Words.{Sizes, STORE, PAGE}
use Rattle.nv_core.specs.state.Values.{Value, Bare, APart, AStore, ABuffer, is_valid}
use Rattle.nv_core.specs.content.StorePages.{store_of_value}
use Rattle.nv_core.specs.log.Written.{IsPart}
use Rattle.nv_core.specs.content.Content.{Opens}
use Rattle.nv_core.specs.log.LogContent.{OpensLog}
use Rattle.nv_core.specs.crash.CrashImages.{StoresQuiet, OpensRegion}
use Rattle.nv_core.specs.crash.RegionsAtRest.{KeepRow, RegionsAtRestOpen}
use Rattle.nv_table.specs.declared.slot.PageBuffer.{PageBuffer}
use Rattle.nv_table.specs.state.Layout.{cell_of}
use Rattle.nv_table.specs.state.SlotValues.{present, part_value, store_value, buffer_value, slot_value}
use Rattle.nv_table.specs.state.Opened.{Opened, held_in, mount_of}
use Rattle.nv_table.specs.ends.OpeningSlots.{IsFreshBuffer, AreOpeningSlots}
use Rattle.nv_table.specs.state.States.{PassState}
use Rattle.nv_table.proofs.state.LayoutLaws.{slot_there}
use Rattle.nv_table.proofs.state.ShapeLaws.{each_held, held_part, held_store, no_store}
use Rattle.nv_mount.specs.declared.fds.Fd.{Fd}
use Rattle.nv_mount.specs.Mounts.{MountState, AreLengths, IsOpened}
use Rattle.nv_mount.specs.Telling.{HasLongParts, IsSeen, StoresHave, lines_kept, mounted_lines, told_lines}
use Rattle.nv_mount.proofs.TellingLaws.{lines_in_slots, shown_lines}

-- ---- what stores tell

-- the store of a file tells, and reads as it
seen_at : (row : List StoreHistory) (contents : List (List ℕ)) → AllZip IsSeen row contents → (i : ℕ) → i < length row
    → (store : Store) × (present (get_or row i []) ≡ Some store) × (store.seen ≡ get_or contents i [])
seen_at [] contents are i less = absurd (omega arith)
seen_at (history ∷ row) [] are i less = absurd are
seen_at ([] ∷ row) (bytes ∷ contents) are zero less = absurd are.0
seen_at ((now ∷ past) ∷ row) (bytes ∷ contents) are zero less = (now, refl, are.0)
seen_at (history ∷ row) (bytes ∷ contents) are (suc i) less = seen_at row contents are.1 i (omega arith)

-- its length is the file's
length_at : (row : List StoreHistory) (lengths : List ℕ) (contents : List (List ℕ)) → AreLengths row lengths → AllZip IsSeen row contents → (i : ℕ) → i < length row
    → get_or lengths i 0 ≡ length (get_or contents i [])
length_at [] lengths contents told are i less = absurd (omega arith)
length_at (history ∷ row) [] contents told are i less = absurd told
length_at (history ∷ row) (len ∷ lengths) [] told are i less = absurd are
length_at ([] ∷ row) (len ∷ lengths) (bytes ∷ contents) told are zero less = absurd are.0
length_at ((now ∷ past) ∷ row) (len ∷ lengths) (bytes ∷ contents) told are zero less = told.0 ∙ ap length are.0
length_at (history ∷ row) (len ∷ lengths) (bytes ∷ contents) told are (suc i) less = length_at row lengths contents told.1 are.1 i (omega arith)

-- a store that tells is durable where what it tells is
quiet_told : (history : StoreHistory) (store : Store) → Tells history IsQuietStore → present history ≡ Some store → IsQuietStore store
quiet_told [] store told is = absurd cc
quiet_told (now ∷ past) store told is = let same : now ≡ store = cc in subst IsQuietStore same told

-- ---- buffers at opening

no_store_of : (buffer : Option PageBuffer) → store_of_value (buffer_value buffer) ≡ None
no_store_of None = refl
no_store_of (Some buffer) = refl

not_valid : (page : ℕ) (buffer : Option PageBuffer) → IsFreshBuffer page buffer ⊎ (buffer ≡ None) → is_valid (buffer_value buffer) ≡ false
not_valid page None is = refl
not_valid page (Some buffer) (inl fresh) = fresh.1
not_valid page (Some buffer) (inr none) = absurd cc

-- the lines of the part that a value keeps
shown_by : (value : Value) (one : Part) → IsPart value one → lines_kept value ≡ length one
shown_by (APart device spares) one is = ap told_lines is
shown_by Bare one is = absurd is
shown_by (AStore device) one is = absurd is
shown_by (ABuffer buffer) one is = absurd is

-- ---- the mount

module _ {L B : Type 0} (device : L → ℕ) (history : L → PartHistory) (faults : L → ℕ) (room : L → Room) (store_device : B → ℕ) (store_history : B → StoreHistory) (store_faults : B → ℕ)
    (sizes : Sizes) (next : ℕ) (parts : List L) (stores : List B) (fds : List Fd) (mount : MountState) (pass : PassState)
    (is : IsOpened (slot_value (part_value device history faults room) (store_value store_device store_history store_faults)) store_device store_history store_faults
    sizes next parts stores fds mount pass)
    (enough : 1 + sizes.entries ≤ length parts) (many : length stores ≡ sizes.files) where
  abbrev opened : Opened
  opened = mount.board.opened

  abbrev part : L → Value
  part = part_value device history faults room

  abbrev store : B → Value
  store = store_value store_device store_history store_faults

  are : AreOpeningSlots opened.sizes parts is.asked is.begun.slots
  are = subst (λ (s : Sizes). AreOpeningSlots s parts is.asked is.begun.slots) (sym is.begun.sizes_are) is.begun.are_slots

  enough_then : 1 + opened.sizes.entries ≤ length parts
  enough_then = let same = ap (λ (s : Sizes). s.entries) is.begun.sizes_are in omega (arith, enough, same)

  files_then : length stores ≡ opened.sizes.files
  files_then = many ∙ sym (ap (λ (s : Sizes). s.files) is.begun.sizes_are)

  asked_many : length is.asked ≡ opened.sizes.files
  asked_many = sym (length-map is.asked store_device) ∙ ap length is.same_devices ∙ length-map stores store_device ∙ files_then

  -- what the cells of stores tell
  store_told : (file : ℕ) → file < opened.sizes.files → store_of_value ((mount_of opened).values (STORE file)) ≡ present (get_or (map store_history stores) file [])
  store_told file less =
      let one = held_store part store opened parts is.asked is.begun.slots is.begun.slots_show are enough_then asked_many store_history file less in
      ap store_of_value one.1 ∙ sym (ap present (one.2 [])) ∙ ap (λ (row : List StoreHistory). present (get_or row file [])) is.same_histories

  store_none : (file : ℕ) → opened.sizes.files ≤ file → store_of_value ((mount_of opened).values (STORE file)) ≡ None
  store_none =
      no_store part store opened parts is.asked is.begun.slots is.begun.slots_show are enough_then asked_many (λ value. store_of_value value ≡ None) refl no_store_of

  -- The files that its stores have are those that the mount opens.
  pub opens_files : (files : Files) → StoresHave (map store_history stores) files → Opens (mount_of opened) files
  opens_files files have = record {
    stores = record {
      count = AllZip-long IsSeen row files.contents have ∙ row_many;
      tell = record { each = λ file less. let at = here file less in (at.0, store_told file less ∙ at.1) };
      seen = record { seen = seen };
    };
    lengths = λ file less.
        ap (λ (ns : List ℕ). get_or ns file 0) is.begun.lengths_are
        ∙ length_at row is.lengths files.contents is.told have file (omega (arith, row_many, less));
    fresh = λ page.
        each_held part store opened parts is.asked is.begun.slots is.begun.slots_show are (λ value. is_valid value ≡ false) refl (λ one. refl)
        (λ k d less. refl) (not_valid opened.sizes.page) (PAGE page);
  }
    where
      row : List StoreHistory
      row = map store_history stores

      row_many : length (map store_history stores) ≡ opened.sizes.files
      row_many = length-map stores store_history ∙ files_then

      here : (file : ℕ) → file < opened.sizes.files
          → (store : Store) × (present (get_or (map store_history stores) file []) ≡ Some store) × (store.seen ≡ contents_of files file)
      here file less = seen_at (map store_history stores) files.contents have file (omega (arith, row_many, less))

      seen : (file : ℕ) (store : Store) → store_of_value ((mount_of opened).values (STORE file)) ≡ Some store → store.seen ≡ contents_of files file
      seen file store told = elim (cases_lt file opened.sizes.files) [
        | inl less ↦
            let at = here file less in
            let both : Some at.0 ≡ Some store = sym at.1 ∙ sym (store_told file less) ∙ told in
            let same : at.0 ≡ store = cc in
            subst (λ (s : Store). s.seen ≡ contents_of files file) same at.2
        | inr past ↦ absurd (let none = store_none file past in cc)
      ]

  -- its stores are durable
  stores_quiet : All (λ one. Tells (store_history one) IsQuietStore) stores → StoresQuiet (mount_of opened).values
  stores_quiet quiet = record {
    each = λ file. each_held part store opened parts is.asked is.begun.slots is.begun.slots_show are (λ value. (state : Store) → store_of_value value ≡ Some state → IsQuietStore state)
        (λ state told. absurd cc) (λ one state told. absurd cc) asked_quiet (λ buffer _ state told. absurd (let none = no_store_of buffer in cc)) (STORE file);
  }
    where
      asked_quiet : All (λ one. (state : Store) → store_of_value (store_value store_device store_history store_faults one) ≡ Some state → IsQuietStore state) is.asked
      asked_quiet = λ k d less state told.
          let same = length-map is.asked store_history in
          let same_too = length-map stores store_history in
          let alike = ap length is.same_histories in
          let there : k < length stores = omega (arith, same, same_too, alike, less) in
          let at : store_history (get_or is.asked k d) ≡ store_history (get_or stores k d) =
          sym (get_or-map store_history is.asked k d [] less) ∙ ap (λ (row : List StoreHistory). get_or row k []) is.same_histories ∙ get_or-map store_history stores k d [] there in
          quiet_told (store_history (get_or is.asked k d)) state (subst (λ (h : StoreHistory). Tells h IsQuietStore) (sym at) (quiet k d there)) told

  -- Its parts tell what they told of their lines.
  pub opens_lines : RowTells (map history parts) (λ now. mounted_lines (mount_of opened) pass.spare ≡ map (λ part. length part) now)
  opens_lines =
      let same : opened.sizes.entries ≡ sizes.entries = ap (λ (s : Sizes). s.entries) is.begun.sizes_are in
      row_tells_from (map history parts) (λ now. mounted_lines (mount_of opened) pass.spare ≡ map (λ part. length part) now) (λ now now_are.
      lines_in_slots part parts (1 + opened.sizes.entries) (λ slot. lines_kept ((mount_of opened).values (cell_of opened.sizes slot))) pass.spare enough_then (λ i less.
      let one = held_part part store opened parts is.asked is.begun.slots is.begun.slots_show are enough_then (λ one. lines_kept (part one)) i (omega (arith, less)) in
      let place = slot_there opened.sizes i (omega (arith, less)) in
      ap (λ place. lines_kept (held_in opened.slots place)) place.0 ∙ ap lines_kept one.1 ∙ sym (one.2 0))
      (subst (λ n. pass.spare ≡ map part (drop (1 + n) parts)) (sym same) is.begun.spare)
      ∙ sym (shown_lines device history faults room parts now now_are))

  -- The log of its region is empty, and the mount opens it.
  module _ (names : List (List ℕ)) (names_many : length names ≡ sizes.files) (few_pages : sizes.pages ≤ 1024)
      (region : IsRegion mount_layout sizes.page sizes.entries names next (map room parts) (map history parts))
      (told_lines : (one : L) (now : Part) (past : PartHistory) → history one ≡ now ∷ past → length now ≡ (room one).lines)
      (each : EachPartHasOne) (states : List Part) (now : AreNow (map history parts) states) where
    part_at : (i : ℕ) → i ≤ opened.sizes.entries → IsPart (get_or opened.slots i Bare) (get_or states i [])
    part_at i least =
        let one = held_part part store opened parts is.asked is.begun.slots is.begun.slots_show are enough_then history i least in
        let long = length-map parts history in
        let less : i < length (map history parts) = omega (arith, long, enough_then, least) in
        let state = each (map history parts) states i now less in
        let told : present (history one.0) ≡ Some (get_or states i []) = sym (ap present (one.2 [])) ∙ ap present state.is in
        subst (λ value. IsPart value (get_or states i [])) (sym one.1) told

    lines : (i : ℕ) → i ≤ opened.sizes.entries → part_lines mount_layout opened.sizes.page i ≤ length (get_or states i [])
    lines i least =
        let has = row_tells_at (map history parts) (HaveLines mount_layout sizes.page sizes.entries) states now
        (told_room history room mount_layout sizes.page sizes.entries parts told_lines region.parts) in
        let same = ap (λ (s : Sizes). part_lines mount_layout s.page i) is.begun.sizes_are in
        let entries = ap (λ (s : Sizes). s.entries) is.begun.sizes_are in
        let long = has.has i (omega (arith, entries, least)) in
        omega (arith, same, long)

    keep_row : KeepRow opened.sizes (mount_of opened).values states
    keep_row = record {
      header = part_at 0 (omega arith);
      header_lines = let long = lines 0 (omega arith) in omega (arith, long);
      entries = λ slot less. part_at (1 + slot) (omega (arith, less));
      lines = λ slot less.
          let one : 1 + slot ≡ suc slot = omega arith in
          let long = lines (1 + slot) (omega (arith, less)) in
          let same = ap (part_lines mount_layout opened.sizes.page) one in
          omega (arith, same, long);
    }

    at_rest : IsAtRest mount_layout opened.sizes.page opened.sizes.entries names opened.next states
    at_rest =
        subst (λ (s : Sizes). IsAtRest mount_layout s.page s.entries names opened.next states) (sym is.begun.sizes_are)
        (subst (λ n. IsAtRest mount_layout sizes.page sizes.entries names n states) (sym is.begun.next_is)
        (row_tells_at (map history parts) (IsAtRest mount_layout sizes.page sizes.entries names next) states now region.tells))

    pub opens_log : RegionsAtRestOpen → All (λ one. Tells (store_history one) IsQuietStore) stores → OpensLog (mount_of opened) next
    opens_log opens quiet =
        let pages = ap (λ (s : Sizes). s.pages) is.begun.sizes_are in
        let both = opens (mount_of opened) names states at_rest keep_row (names_many ∙ sym (ap (λ (s : Sizes). s.files) is.begun.sizes_are))
        (omega (arith, pages, few_pages)) (stores_quiet quiet) in
        subst (OpensLog (mount_of opened)) is.begun.next_is both.0

    pub opens_region : RegionsAtRestOpen → All (λ one. Tells (store_history one) IsQuietStore) stores → OpensRegion (mount_of opened) names
    opens_region opens quiet =
        let pages = ap (λ (s : Sizes). s.pages) is.begun.sizes_are in
        let both = opens (mount_of opened) names states at_rest keep_row (names_many ∙ sym (ap (λ (s : Sizes). s.files) is.begun.sizes_are))
        (omega (arith, pages, few_pages)) (stores_quiet quiet) in
        both.1

    pub has_long_parts : HasLongParts (mount_of opened)
    has_long_parts slot least =
        let place = slot_there opened.sizes slot (omega (arith, least)) in
        let enough = lines slot least in
        omega (arith, enough, ap (λ place. lines_kept (held_in opened.slots place)) place.0, shown_by (get_or opened.slots slot Bare) (get_or states slot []) (part_at slot least))
