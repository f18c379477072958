-- Laws about what tells: a part that tells when it is mounted tells when the mount is closed, and so does a store.
use Rattle.std.proofs.Common.{◌≡◌, ℕ, zero, suc, ◌+◌, ◌-◌, ◌<◌, ◌≤◌, Bool, true, false, List, [], ◌∷◌, ◌++◌, length, get_or, map, take, drop, inl, inr, Option, refl, sym, ap, subst, ◌∙◌, arith}
use Rattle.std.specs.Prelude.{Some, None, is_some}
use Rattle.std.specs.List.{All, range_with_len}
use Rattle.std.proofs.lemmas.Bool.{cases_lt}
use Rattle.std.proofs.lemmas.List.{drop-map, ext_get_or, get_or-drop, get_or-take, get_or_default, length-drop, length-map, length-take-le, take-append-drop}
use Rattle.std.proofs.lemmas.List.FromFn.{get_or-map-range_with_len, length-map-range_with_len}
use Rattle.std.proofs.lemmas.Simd.{map-map}
use Rattle.std.proofs.lemmas.List.Elements.{All-nil, All-cons, All-head, All-tail}
use Rattle.nv_plain.specs.Files.{Files}
use Rattle.nv_pmem.specs.Part.{Part as PartState}
use Rattle.nv_pmem.specs.Room.{Room}
use Rattle.nv_pmem.specs.RowStates.{AreNow, row_tells_from}
use Rattle.nv_pmem.specs.Rows.{RowTells}
use Rattle.nv_pmem.specs.Steps.{PartHistory}
use Rattle.nv_pmem.proofs.LineLaws.{length-after_step}
use Rattle.nv_store.specs.Store.{Store as StoreState}
use Rattle.nv_store.specs.Steps.{StoreHistory}
use Rattle.nv_core.specs.state.Words.{Sizes, Word, PAGE, ENTRY}
use Rattle.nv_core.specs.state.Values.{Value, Bare, APart, AStore, ABuffer, Job, PartStep, PageRead, PieceRead, PieceWrite, StoreSync, CallEnding, called, emptied, filled, has_come, part_after, patched, received}
use Rattle.nv_core.specs.state.Passes.{Control, GiveVictim, Searching, Pass}
use Rattle.nv_core.specs.state.Core.{Core, with_value, values_robbed, values_stepped, values_worked, after_begin}
use Rattle.nv_core.specs.steps.Events.{Act, BeginsCall, TakesStep, CallsDevice, Event, after_act, after_event, after_run}
use Rattle.nv_core.specs.steps.Opening.{IsMount, opening}
use Rattle.nv_core.specs.steps.Ops.{Op}
use Rattle.nv_core.specs.steps.Order.{Values, Work}
use Rattle.nv_core.specs.content.Content.{Opens}
use Rattle.nv_core.specs.invariant.InvariantLaws.{RunsAreSound}
use Rattle.nv_core.specs.log.LogContent.{OpensLog, RunsKeepTheLog}
use Rattle.nv_core.specs.log.Written.{IsPart}
use Rattle.nv_core.proofs.state.Changes.{by_word}
use Rattle.nv_core.proofs.state.ValueLaws.{Steady, steady_stepped, steady_worked}
use Rattle.nv_table.specs.declared.slot.Slot.TheVariants.{Part}
use Rattle.nv_table.specs.state.Layout.{cell_of}
use Rattle.nv_table.specs.state.Opened.{mount_of}
use Rattle.nv_table.specs.state.SlotValues.{present, part_value, store_value, slot_value}
use Rattle.nv_table.specs.state.Views.{PassView}
use Rattle.nv_table.proofs.state.LayoutLaws.{cell_there}
use Rattle.nv_mount.specs.Telling.{AllDevicesTell, IsTelling, lines_kept, mounted_lines, told_lines}
use Rattle.nv_mount.specs.WholeRuns.{IsWholeRun}
use Rattle.nv_mount.proofs.ClosedFilesLaws.{store_shown}
use Rattle.nv_mount.proofs.WholeRunLaws.{there}

-- ---- whether a value's part tells, and its lines

abbrev count_told : Option PartState → ℕ
count_told None = 0
count_told (Some part) = 1 + length part

abbrev parts_told : Value → ℕ
parts_told (APart device spares) = count_told device.told
parts_told value = 0

told_after : (job : Job) (came : Bool) (told : Option PartState) → count_told (part_after job came told) ≡ count_told told
told_after (PartStep step spares) true None = refl
told_after (PartStep step spares) true (Some part) = ap (λ n. 1 + n) (length-after_step step part)
told_after (PartStep step spares) false told = refl
told_after (PageRead at bytes) came told = refl
told_after (PieceRead at bytes) came told = refl
told_after (PieceWrite at bytes left) came told = refl
told_after StoreSync came told = refl

told_called : (job : Job) (how : CallEnding) (value : Value) → parts_told (called job how value) ≡ parts_told value
told_called job how Bare = refl
told_called job how (APart device spares) = told_after job (has_come how) device.told
told_called job how (AStore device) = refl
told_called job how (ABuffer buffer) = refl

told_steady : Steady parts_told
told_steady = record { filled_is = fills; patched_is = patches }
  where
    fills : (bytes : List ℕ) (value : Value) → parts_told (filled bytes value) ≡ parts_told value
    fills bytes (ABuffer (Some buffer)) = refl
    fills bytes value = refl

    patches : (at : ℕ) (bytes : List ℕ) (value : Value) → parts_told (patched at bytes value) ≡ parts_told value
    patches at bytes (ABuffer (Some buffer)) = refl
    patches at bytes value = refl

told_emptied : (value : Value) → parts_told (emptied value) ≡ parts_told value
told_emptied (ABuffer buffer) = refl
told_emptied value = refl

told_received : (other value : Value) → parts_told (received other value) ≡ parts_told value
told_received (ABuffer (Some buffer)) (ABuffer None) = refl
told_received other value = refl

told_robbed : (pages : List ℕ) (control : Control) (values : Values) (cell : Word) → parts_told (values_robbed pages control values cell) ≡ parts_told (values cell)
told_robbed pages (Searching page tries (GiveVictim buffer victim)) values =
    by_word (λ other v. parts_told v ≡ parts_told (values other)) (with_value values (PAGE page) (received (values (PAGE victim)) (values (PAGE page)))) (PAGE victim) (emptied (values (PAGE victim)))
    (told_emptied (values (PAGE victim)))
    (λ other ne. by_word (λ other v. parts_told v ≡ parts_told (values other)) values (PAGE page) (received (values (PAGE victim)) (values (PAGE page)))
    (told_received (values (PAGE victim)) (values (PAGE page))) (λ other ne. refl) other)
told_robbed pages control values = λ cell. refl

told_stepped : (sizes : Sizes) (pass : Pass) (op : Op) (values : Values) (cell : Word) → parts_told (values_stepped sizes pass op values cell) ≡ parts_told (values cell)
told_stepped = steady_stepped parts_told told_steady told_robbed

told_worked : (pass : Pass) (work : Work) (values : Values) (cell : Word) → parts_told (values_worked pass work values cell) ≡ parts_told (values cell)
told_worked pass work values cell =
    steady_worked parts_told told_steady pass work values cell
    ∙ by_word (λ other v. parts_told v ≡ parts_told (values other)) values work.cell (called work.job work.ending (values work.cell)) (told_called work.job work.ending (values work.cell)) (λ other ne. refl) cell

told_act : (sizes : Sizes) (by : ℕ) (act : Act) (core : Core) (cell : Word) → parts_told ((after_act sizes by act core).values cell) ≡ parts_told (core.values cell)
told_act sizes by (BeginsCall call op found) core cell = told_stepped sizes ((after_begin sizes by call core).passes by) op core.values cell
told_act sizes by (TakesStep op found) core cell = told_stepped sizes (core.passes by) op core.values cell
told_act sizes by (CallsDevice work) core cell = told_worked (core.passes by) work core.values cell

-- no event changes it
told_run : (sizes : Sizes) (core : Core) (run : List Event) (cell : Word) → parts_told ((after_run sizes core run).values cell) ≡ parts_told (core.values cell)
told_run sizes core [] cell = refl
told_run sizes core (event ∷ later) cell = told_run sizes (after_event sizes event core) later cell ∙ told_act sizes event.by event.act core cell

-- nor how many lines it tells
kept_told : (value : Value) → lines_kept value ≡ parts_told value - 1
kept_told (APart device spares) = go device.told
  where
    go : (told : Option PartState) → told_lines told ≡ count_told told - 1
    go None = refl
    go (Some part) = omega arith
kept_told Bare = refl
kept_told (AStore device) = refl
kept_told (ABuffer buffer) = refl

kept_run : (sizes : Sizes) (core : Core) (run : List Event) (cell : Word) → lines_kept ((after_run sizes core run).values cell) ≡ lines_kept (core.values cell)
kept_run sizes core run cell = kept_told ((after_run sizes core run).values cell) ∙ ap (λ n. n - 1) (told_run sizes core run cell) ∙ sym (kept_told (core.values cell))

told_part : (value : Value) (part : PartState) → IsPart value part → parts_told value ≡ 1 + length part
told_part (APart device spares) part is = ap count_told is
told_part Bare part is = absurd is
told_part (AStore device) part is = absurd is
told_part (ABuffer buffer) part is = absurd is

some_told : (history : PartHistory) (lines : ℕ) → count_told (present history) ≡ 1 + lines → 0 < length history
some_told [] lines told = absurd (omega (arith, told))
some_told (now ∷ past) lines told = omega arith

some_present : (history : StoreHistory) (store : StoreState) → present history ≡ Some store → 0 < length history
some_present [] store told = absurd cc
some_present (now ∷ past) store told = omega arith

-- ---- the lines of parts

-- parts that tell show their lines
pub shown_lines : {L : Type 0} (device : L → ℕ) (history : L → PartHistory) (faults : L → ℕ) (room : L → Room) (parts : List L) (now : List PartState)
    → AreNow (map history parts) now → map (λ part. length part) now ≡ map (λ one. lines_kept (part_value device history faults room one)) parts
shown_lines device history faults room [] [] are = refl
shown_lines device history faults room [] (state ∷ now) are = absurd are
shown_lines device history faults room (part ∷ parts) [] are = absurd are
shown_lines device history faults room (part ∷ parts) (state ∷ now) are =
    ap (λ (n : ℕ). n ∷ map (λ one. length one) now) (sym (ap (λ (these : PartHistory). told_lines (present these)) are.0.is))
    ∙ ap (λ (counts : List ℕ). lines_kept (part_value device history faults room part) ∷ counts) (shown_lines device history faults room parts now are.1)

-- parts of which the first so many show the lines of cells
pub lines_in_slots : {L : Type 0} (value : L → Value) (parts : List L) (many : ℕ) (of_slot : ℕ → ℕ) (spare : List Value) → many ≤ length parts
    → ((i : ℕ) → i < many → of_slot i ≡ get_or (map (λ one. lines_kept (value one)) parts) i 0) → spare ≡ map value (drop many parts)
    → map of_slot (range_with_len 0 many) ++ map (λ one. lines_kept one) spare ≡ map (λ one. lines_kept (value one)) parts
lines_in_slots value parts many of_slot spare enough each same =
    let all = map (λ one. lines_kept (value one)) parts in
    let long : length all ≡ length parts = length-map parts (λ one. lines_kept (value one)) in
    let few : length (take many all) ≡ many = length-take-le many all (omega (arith, enough, long)) in
    let front : map of_slot (range_with_len 0 many) ≡ take many all =
    ext_get_or 0 (map of_slot (range_with_len 0 many)) (take many all) (length-map-range_with_len of_slot 0 many ∙ sym few) (λ i less.
    let below : i < many = omega (arith, less, length-map-range_with_len of_slot 0 many) in
    get_or-map-range_with_len of_slot 0 many i i 0 below (omega arith) ∙ each i below ∙ sym (get_or-take many all i 0 below)) in
    ap (λ (counts : List ℕ). counts ++ map (λ one. lines_kept one) spare) front
    ∙ ap (λ (counts : List ℕ). take many all ++ counts) (ap (map (λ one. lines_kept one)) same ∙ map-map (λ one. lines_kept one) value (drop many parts) ∙ sym (drop-map (λ one. lines_kept (value one)) many parts))
    ∙ take-append-drop many all

-- ---- parts that have no slot

module _ {L B : Type 0} (device : L → ℕ) (history : L → PartHistory) (faults : L → ℕ) (room : L → Room) (store : B → Value) where
  spare_told : (one : L) → IsTelling (part_value device history faults room one) → 0 < length (history one)
  spare_told one is = go (history one) is
    where
      go : (these : PartHistory) → is_some (present these) ≡ true → 0 < length these
      go [] told = absurd cc
      go (now ∷ past) told = omega arith

  told_spare : (one : L) → 0 < length (history one) → IsTelling (part_value device history faults room one)
  told_spare one some = go (history one) some
    where
      go : (these : PartHistory) → 0 < length these → is_some (present these) ≡ true
      go [] none = absurd (omega (arith, none))
      go (now ∷ past) some = refl

  pub spares_told : (parts : List L) → All IsTelling (map (λ part. slot_value (part_value device history faults room) store (Part part)) parts) → AllDevicesTell (map history parts)
  spares_told [] all = All-nil (λ (h : PartHistory). 0 < length h)
  spares_told (one ∷ parts) all =
      let value = λ (part : L). slot_value (part_value device history faults room) store (Part part) in
      All-cons (λ (h : PartHistory). 0 < length h) (history one) (map history parts) (spare_told one (All-head IsTelling (value one) (map value parts) all))
      (spares_told parts (All-tail IsTelling (value one) (map value parts) all))

  pub told_spares : (parts : List L) → AllDevicesTell (map history parts) → All IsTelling (map (λ part. slot_value (part_value device history faults room) store (Part part)) parts)
  told_spares [] all = All-nil IsTelling
  told_spares (one ∷ parts) all =
      let value = λ (part : L). slot_value (part_value device history faults room) store (Part part) in
      All-cons IsTelling (value one) (map value parts) (told_spare one (All-head (λ (h : PartHistory). 0 < length h) (history one) (map history parts) all))
      (told_spares parts (All-tail (λ (h : PartHistory). 0 < length h) (history one) (map history parts) all))

pub all_behind : {S : Type 0} (n : ℕ) (row : List (List S)) → AllDevicesTell row → AllDevicesTell (drop n row)
all_behind n row all = λ k d less.
    let long = length-drop n row in
    subst (λ h. 0 < length h) (sym (get_or-drop n row k d)) (all (n + k) d (omega (arith, long, less)))

-- ---- what comes out of a mount

module _ {L B : Type 0} (device : L → ℕ) (history : L → PartHistory) (faults : L → ℕ) (room : L → Room) (store_device : B → ℕ) (store_history : B → StoreHistory) (store_faults : B → ℕ)
    (view : PassView) (parts : List L) (stores : List B) (placed tail : ℕ) (parts_many : 1 + view.opened.sizes.entries ≤ length parts) (stores_many : length stores ≡ view.opened.sizes.files)
    (whole : IsWholeRun view (map (part_value device history faults room) parts) (map (store_value store_device store_history store_faults) stores) placed tail) where
  abbrev sizes : Sizes
  sizes = view.opened.sizes

  part_tells : (i : ℕ) → i ≤ sizes.entries → (part : PartState) → IsPart ((mount_of view.opened).values (cell_of sizes i)) part → 0 < length (get_or (map history parts) i [])
  part_tells i least part is =
      let one = there (part_value device history faults room) history Bare [] parts i (omega (arith, parts_many, least)) in
      let told : parts_told (part_value device history faults room one.0) ≡ 1 + length part =
      ap parts_told (sym one.2 ∙ whole.parts_show i least) ∙ told_run sizes (opening (mount_of view.opened)) view.run (cell_of sizes i) ∙ told_part ((mount_of view.opened).values (cell_of sizes i)) part is in
      subst (λ h. 0 < length h) (sym one.3) (some_told (history one.0) (length part) told)

  -- no part has more or fewer lines
  pub keep_lines : (spare : List Value) → map (part_value device history faults room) (drop (1 + sizes.entries) parts) ≡ spare
      → RowTells (map history parts) (λ now. map (λ part. length part) now ≡ mounted_lines (mount_of view.opened) spare)
  keep_lines spare same =
      let value = part_value device history faults room in
      row_tells_from (map history parts) (λ now. map (λ part. length part) now ≡ mounted_lines (mount_of view.opened) spare) (λ now are.
      shown_lines device history faults room parts now are
      ∙ sym (lines_in_slots value parts (1 + sizes.entries) (λ slot. lines_kept ((mount_of view.opened).values (cell_of sizes slot))) spare parts_many (λ i less.
      let one = there value (λ one. lines_kept (value one)) Bare 0 parts i (omega (arith, parts_many, less)) in
      sym (kept_run sizes (opening (mount_of view.opened)) view.run (cell_of sizes i)) ∙ sym (ap lines_kept (whole.parts_show i (omega (arith, less)))) ∙ ap lines_kept one.2 ∙ sym one.3) (sym same)))

  module _ (sound : RunsAreSound) (keeps : RunsKeepTheLog) (mount : IsMount (mount_of view.opened)) (files : Files) (log : OpensLog (mount_of view.opened) view.opened.next) (opens : Opens (mount_of view.opened) files) where
    slot_tells : (i : ℕ) → i ≤ sizes.entries → 0 < length (get_or (map history parts) i [])
    slot_tells zero least = part_tells zero least log.header.part log.header.is
    slot_tells (suc slot) least =
        let less : slot < sizes.entries = omega (arith, least) in
        let blank = log.blank slot less in
        let next : 1 + slot ≡ suc slot = omega arith in
        let cell : cell_of sizes (1 + slot) ≡ ENTRY slot = (cell_there sizes (ENTRY slot) (1 + slot) less refl).1 in
        subst (λ i. 0 < length (get_or (map history parts) i [])) next
        (part_tells (1 + slot) (omega (arith, less)) blank.part (subst (λ c. IsPart ((mount_of view.opened).values c) blank.part) (sym cell) blank.is))

    pub parts_tell : AllDevicesTell (map history (drop (1 + sizes.entries) parts)) → AllDevicesTell (map history parts)
    parts_tell behind = λ k d less. elim (cases_lt k (1 + sizes.entries)) [
      | inl slot ↦ subst (λ h. 0 < length h) (get_or_default (map history parts) k [] d less) (slot_tells k (omega (arith, slot)))
      | inr past ↦
          let same = drop-map history (1 + sizes.entries) parts in
          let long = length-drop (1 + sizes.entries) (map history parts) in
          let at : (1 + sizes.entries) + (k - (1 + sizes.entries)) ≡ k = omega (arith, past) in
          let there : get_or (drop (1 + sizes.entries) (map history parts)) (k - (1 + sizes.entries)) d ≡ get_or (map history parts) k d =
          get_or-drop (1 + sizes.entries) (map history parts) (k - (1 + sizes.entries)) d ∙ ap (λ i. get_or (map history parts) i d) at in
          subst (λ h. 0 < length h) there
          (subst (λ row. AllDevicesTell row) (sym same) behind (k - (1 + sizes.entries)) d (omega (arith, long, less, past)))
    ]

    pub stores_tell : AllDevicesTell (map store_history stores)
    stores_tell = λ k d less.
        let log_then = (sound (mount_of view.opened) view.run mount whole.is_run).grouped.log in
        let content = keeps (mount_of view.opened) files view.opened.next log_then (λ _. false) view.run mount log opens.stores whole.is_run in
        let within : k < sizes.files = let long = length-map stores store_history in omega (arith, long, less, stores_many) in
        let told = content.tell.each k within in
        subst (λ h. 0 < length h) (get_or_default (map store_history stores) k [] d less)
        (some_present (get_or (map store_history stores) k []) told.0
        (sym (store_shown device history faults room store_device store_history store_faults view parts stores placed tail parts_many stores_many whole k within) ∙ told.1))
