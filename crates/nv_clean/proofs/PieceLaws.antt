-- Pieces: the piece of an entry that a batch holds is read, and written to its store.
use Rattle.std.proofs.Common.{◌≡◌, ℕ, ◌+◌, ◌<◌, ◌≤◌, ◌^◌, false, if◌then◌else◌, List, [], length, refl, sym, ap, subst, ◌∙◌, arith}
use Rattle.std.specs.Prelude.{Option, Some, None, Result, Ok, Err, OnOk, OnErr, IfOk}
use Rattle.std.proofs.lemmas.Nat.{mod_below}
use Rattle.std.proofs.Math.Nat.{mod-le}
use Rattle.nv_plain.specs.Faults.{Rose}
use Rattle.nv_plain.specs.Images.{entry_of, data_of}
use Rattle.nv_plain.specs.Layouts.{mount_layout}
use Rattle.nv_pmem.specs.Part.{Part, part_word}
use Rattle.nv_store.specs.declared.backing.StoreError.{StoreError}
use Rattle.nv_store.specs.declared.backing.StoreError.TheVariants.{Fault, NoMemory}
use Rattle.nv_core.specs.state.Words.{Sizes, Word, ENTRY, STORE, slot_of_entry}
use Rattle.nv_core.specs.state.Cleaner.{Batch}
use Rattle.nv_core.specs.state.Cleaner as cleaner
use Rattle.nv_core.specs.state.Core.{Core, with_value}
use Rattle.nv_core.specs.state.Passes.{Cleaning, IsHeldEntry, IsOneOf, times}
use Rattle.nv_core.specs.state.Values.{Value, Bare, APart, AStore, ABuffer, PageRead, PieceRead, PieceWrite, Made, Failed, Refused, called, faults_of}
use Rattle.nv_core.specs.steps.CleanerSteps.{group_file}
use Rattle.nv_core.specs.steps.Order.{Values, CallMayEnd, CallMayLeave, SaysPiece, SaysPieceOf}
use Rattle.nv_core.specs.steps.Opening.{IsMount}
use Rattle.nv_core.specs.invariant.ControlFacts.{FactsAt}
use Rattle.nv_core.specs.invariant.InvariantLaws.{RunsAreSound}
use Rattle.nv_core.specs.invariant.Ownership.{HoldsLocks}
use Rattle.nv_core.specs.invariant.Rooms.{KeepsReady}
use Rattle.nv_core.specs.invariant.Shapes.{HasShape, HaveShapes, IsStore}
use Rattle.nv_core.specs.invariant.Sound.{Sound}
use Rattle.nv_core.specs.log.FittingPieces.{ReadyPiecesFit}
use Rattle.nv_core.specs.log.Progress.{IsBatchUnderWay}
use Rattle.nv_core.proofs.state.Changes.{by_word}
use Rattle.nv_table.specs.state.Layout.{slot_total, cell_of}
use Rattle.nv_table.specs.state.Opened.{mount_of, IsRunOf, state_of}
use Rattle.nv_table.specs.state.States.{PassState}
use Rattle.nv_table.specs.state.Views.{OwnsSlots, pass_of, values_of, still_owned, slot_times}
use Rattle.nv_table.specs.steps.SeatSteps.{values_before}
use Rattle.nv_table.proofs.state.LayoutLaws.{cell_there}
use Rattle.nv_table.proofs.steps.OwnedSlotLaws.{still_owned_all}
use Rattle.nv_mirror.proofs.StepLaws.{between_self}
use Rattle.nv_pages.specs.Altered.{IsAltered}
use Rattle.nv_pages.specs.DeviceCalls.{HasCalled, HasWritten}
use Rattle.nv_pages.specs.PageWork.{OfKept, HasFailedCall, IsReadable, entry_slot, store_slot}
use Rattle.nv_pages.proofs.AlterLaws.{altered_as}
use Rattle.nv_clean.specs.declared.batch.CleanControl.TheVariants as cleans
use Rattle.nv_clean.specs.declared.batch.CleanRefusal.TheVariants.{RegionFault}
use Rattle.nv_clean.specs.Cleaning.{CleanState, HasReadPiece, IsBehind, IsGroupHeld, IsUnderWay, control_at, control_of, write_refusal, written_at}
use Rattle.nv_clean.specs.OwnedCells.{most_cells}
use Rattle.nv_clean.proofs.BehindLaws.{behind_call, behind_more}
use Rattle.nv_clean.proofs.FactLaws.{written_places, written_room}

-- ---- what is so by an answer

pub if_ok : {T E : Type 0} {A : Type 0} {P Q : T → Type 0} (result : Result T E) → OnOk result A → IfOk result P → ((value : T) → A → P value → Q value) → IfOk result Q
if_ok (Ok value) so is then_so = then_so value so is
if_ok (Err error) so is then_so = tt

pub if_err : {T E : Type 0} {A B : Type 0} (result : Result T E) → OnErr result A → (A → B) → OnErr result B
if_err (Ok value) is then_so = tt
if_err (Err error) is then_so = then_so is

-- ---- a slot of a cell that a pass owns

pub slot_once : (sizes : Sizes) (kept : Values) (cells : List Word) (slots : List (ℕ × Value)) (cell : Word) (slot : ℕ) → OwnsSlots sizes (λ value. value) kept cells slots → slot < slot_total sizes → cell_of sizes slot ≡ cell → times cell cells ≡ 1
    → slot_times slot slots ≡ 1
slot_once sizes kept cells slots cell slot owns low is once = owns.each slot low ∙ ap (λ c. times c cells) is ∙ once

pub slot_keeps : (sizes : Sizes) (kept : Values) (cells : List Word) (slots : List (ℕ × Value)) (cell : Word) (slot : ℕ) → OwnsSlots sizes (λ value. value) kept cells slots → cell_of sizes slot ≡ cell → (value : Value) → IsOneOf slots (slot, value)
    → value ≡ kept cell
slot_keeps sizes kept cells slots cell slot owns is value one = owns.shows slot value one ∙ ap kept is

-- ---- a read of a piece

called_made : (at : ℕ) (bytes : List ℕ) (value : Value) → called (PieceRead at bytes) Made value ≡ value
called_made at bytes Bare = refl
called_made at bytes (APart device spares) = refl
called_made at bytes (AStore device) = refl
called_made at bytes (ABuffer buffer) = refl

called_failed : (at faults : ℕ) (bytes : List ℕ) (value : Value) → called (PieceRead at bytes) (Failed false faults) value ≡ called (PageRead 0 []) (Failed false faults) value
called_failed at faults bytes Bare = refl
called_failed at faults bytes (APart device spares) = refl
called_failed at faults bytes (AStore device) = refl
called_failed at faults bytes (ABuffer buffer) = refl

may_end : (value : Value) → CallMayEnd value Made
may_end Bare = tt
may_end (APart device spares) = tt
may_end (AStore device) = tt
may_end (ABuffer buffer) = tt

may_leave : (at : ℕ) (bytes : List ℕ) (value : Value) → CallMayLeave value (PieceRead at bytes) Made
may_leave at bytes Bare = tt
may_leave at bytes (APart device spares) = tt
may_leave at bytes (AStore device) = tt
may_leave at bytes (ABuffer buffer) = tt

may_leave_failed : (at faults : ℕ) (bytes : List ℕ) (value : Value) → CallMayLeave value (PieceRead at bytes) (Failed false faults)
may_leave_failed at faults bytes Bare = tt
may_leave_failed at faults bytes (APart device spares) = tt
may_leave_failed at faults bytes (AStore device) = tt
may_leave_failed at faults bytes (ABuffer buffer) = tt

may_fail : (sizes : Sizes) (faults : ℕ) (value : Value) → KeepsReady sizes value → Rose (faults_of value) faults → CallMayEnd value (Failed false faults)
may_fail sizes faults (APart device spares) ready rose = rose
may_fail sizes faults value ready rose = absurd ready

-- a part says some piece, whatever it tells
record SomePiece (sizes : Sizes) (value : Value) : Type 0 where
  at : ℕ
  bytes : List ℕ
  says : SaysPieceOf sizes at bytes value

some_piece : (sizes : Sizes) (value : Value) → KeepsReady sizes value → SomePiece sizes value
some_piece sizes (APart device spares) ready = go device.told refl
  where
    go : (told : Option Part) → device.told ≡ told → SomePiece sizes (APart device spares)
    go None is = record { at = 0; bytes = []; says = subst (SaysPiece sizes 0 []) (sym is) (let low = mod-le 0 sizes.page in omega (arith, low)) }
    go (Some part) is = record {
      at = (entry_of (part_word part)).at;
      bytes = data_of (part_word part) (entry_of (part_word part)).size;
      says = subst (SaysPiece sizes (entry_of (part_word part)).at (data_of (part_word part) (entry_of (part_word part)).size)) (sym is) (refl, refl);
    }
some_piece sizes value ready = absurd ready

pub store_by : (page : ℕ) (first now : Value) → IsStore first → HasShape page first now → IsStore now
store_by page (AStore one) (AStore other) store shape = tt
store_by page (AStore one) now store shape = absurd shape
store_by page first now store shape = absurd store

-- ---- what is so where the piece is read next

module _ (sound : RunsAreSound) (was : PassState) (mount : IsMount (mount_of was.view.opened)) (run : IsRunOf was.view.opened was.view.run) (m : CleanState) (at : ℕ) (stands : m.control ≡ cleans.WriteBack at) (start : PassState) (way : IsUnderWay m start was) where
  abbrev sizes : Sizes
  sizes = was.view.opened.sizes

  abbrev core : Core
  core = state_of was.view.opened was.view.run

  abbrev number : ℕ
  number = m.batch.reached + at

  abbrev entry : Word
  entry = ENTRY (slot_of_entry sizes number)

  abbrev file : ℕ
  file = group_file sizes m.batch

  core_sound : Sound sizes (mount_of was.view.opened).values core
  core_sound = sound (mount_of was.view.opened) was.view.run mount run

  here : (core.passes was.view.number).control ≡ Cleaning m.batch (cleaner.ReadPiece at)
  here = way.called.control_is ∙ ap (control_at sizes m.batch) stands

  goes : IsBatchUnderWay sizes core_sound.grouped.log core m.batch (cleaner.ReadPiece at)
  goes = core_sound.grouped.progress.each was.view.number m.batch (cleaner.ReadPiece at) here tt

  pub reads_within : at < length m.batch.pages
  reads_within = subst (FactsAt sizes (core.passes was.view.number)) here (core_sound.control_facts was.view.number).at

  pub reads_low : m.batch.reached + at < 2 ^ 60
  reads_low = let high = (goes.looked at reads_within).within.1 in let small = core_sound.window.small in omega (arith, high, small)

  entry_owned : times entry m.owned ≡ 1
  entry_owned = sym (ap (times entry) way.called.owned_is) ∙ (core_sound.ownership was.view.number).held number (subst (λ s. IsHeldEntry s number) (sym here) (omega arith, omega arith))

  store_owned : times (STORE file) m.owned ≡ 1
  store_owned =
      let locks : HoldsLocks sizes (core.passes was.view.number) (Cleaning m.batch (cleaner.ReadPiece at)) = subst (HoldsLocks sizes (core.passes was.view.number)) here (core_sound.ownership was.view.number).locks in
      sym (ap (times (STORE file)) way.called.owned_is) ∙ locks (STORE file) (λ slot e. cc) ∙ ap (λ b. if b then 1 else 0) (goes.stored tt)

  -- the group at hand, of which this entry is held
  pub group_held : sizes.files ≤ mount_layout.file_limit → IsGroupHeld m (at + 1)
  group_held limit = record {
    within = let w = reads_within in omega (arith, w);
    places = written_places sizes (mount_of was.view.opened).values core was.view.number core_sound m.batch at here;
    room = λ more. subst (λ owned. length owned < most_cells) way.called.owned_is (written_room sizes (mount_of was.view.opened).values core was.view.number core_sound m.batch limit at here more);
  }

  pub store_file : file < sizes.files
  store_file = goes.files file (goes.stored tt)

  abbrev behind : IsBehind (Cleaning m.batch (cleaner.ReadPiece at)) None m start was was
  behind = record {
    control = control_of sizes m;
    called = way.called;
    apart = way.apart;
    between = between_self was;
    works = [];
    due = tt;
    stands_so = way.called.control_is ∙ ap (control_at sizes m.batch) stands;
    refused = refl;
    shows = way.called.still;
  }

  all_owned : still_owned (pass_of was.view) ≡ m.owned
  all_owned = still_owned_all (pass_of was.view) way.called.left ∙ way.called.owned_is

  module _ (fit : ReadyPiecesFit) (some_entry : 0 < sizes.entries) (some_byte : 1 ≤ sizes.page) where
    entry_at : (entry_slot sizes number < slot_total sizes) × (cell_of sizes (entry_slot sizes number) ≡ entry)
    entry_at = cell_there sizes entry (entry_slot sizes number) (mod_below number sizes.entries some_entry) refl

    readable : IsReadable sizes (values_of was.view entry)
    readable = (
      core_sound.rooms.ready (slot_of_entry sizes number) (mod_below number sizes.entries some_entry) (goes.looked at reads_within).readied,
      fit (mount_of was.view.opened) was.view.run (slot_of_entry sizes number) mount some_byte run (goes.looked at reads_within).readied,
    )

    -- its slot is owned once, and holds a part that can be read
    pub entry_slot_once : slot_times (entry_slot sizes number) was.now ≡ 1
    entry_slot_once = slot_once sizes (values_of was.view) (still_owned (pass_of was.view)) was.now entry (entry_slot sizes number) way.called.still entry_at.0 entry_at.1 (ap (times entry) all_owned ∙ entry_owned)

    pub entry_slot_reads : (value : Value) → IsOneOf was.now (entry_slot sizes number, value) → IsReadable sizes value
    entry_slot_reads value one =
        subst (IsReadable sizes) (sym (slot_keeps sizes (values_of was.view) (still_owned (pass_of was.view)) was.now entry (entry_slot sizes number) way.called.still entry_at.1 value one)) readable

    -- ---- it was read

    module _ (now : PassState) where
      read_called : (offset : ℕ) (bytes : List ℕ) → IsAltered (λ kept. kept) was now → HasCalled entry (PieceRead offset bytes) Made was now
      read_called offset bytes altered = record {
        ends = λ kept cells owns. may_end (kept entry);
        leaves = λ kept cells owns. may_leave offset bytes (kept entry);
        altered = altered_as (λ kept. kept) (λ kept. with_value kept entry (called (PieceRead offset bytes) Made (kept entry))) was now altered
            (λ kept cells owns. by_word (λ other value. value ≡ kept other) kept entry (called (PieceRead offset bytes) Made (kept entry)) (called_made offset bytes (kept entry)) (λ other ne. refl));
      }

      pub was_read : (offset : ℕ) (bytes : List ℕ) → IsAltered (λ kept. kept) was now → OfKept was (λ kept. SaysPieceOf sizes offset bytes (kept entry)) → IsStore ((mount_of was.view.opened).values (STORE file))
          → HaveShapes sizes.page (mount_of was.view.opened).values (values_of was.view) → HasReadPiece m at offset bytes start was now
      was_read offset bytes altered says first shapes = record {
        behind = behind_more (Cleaning m.batch (cleaner.ReadPiece at)) None m start was was behind entry (PieceRead offset bytes) Made now (read_called offset bytes altered) (λ kept. refl)
            record { at = offset; bytes = bytes; cell = refl; job = refl; says = said } entry_owned (Cleaning m.batch (cleaner.WriteBack at)) refl;
        says = subst (SaysPieceOf sizes offset bytes) (sym (same_there entry)) said;
        there = store_file;
        once = store_owned;
        store = subst IsStore (sym (same_there (STORE file))) (store_by sizes.page ((mount_of was.view.opened).values (STORE file)) (values_of was.view (STORE file)) first (shapes (STORE file)));
      }
        where
          said : SaysPieceOf sizes offset bytes (values_of was.view entry)
          said = says (values_of was.view) (still_owned (pass_of was.view)) way.called.still

          same_there : (cell : Word) → with_value (values_of was.view) entry (called (PieceRead offset bytes) Made (values_of was.view entry)) cell ≡ values_of was.view cell
          same_there cell = by_word (λ other value. value ≡ values_of was.view other) (values_of was.view) entry (called (PieceRead offset bytes) Made (values_of was.view entry)) (called_made offset bytes (values_of was.view entry)) (λ other ne. refl) cell

      -- and where that failed STOP is set next
      pub read_failed : HasFailedCall entry was now → IsBehind (Cleaning m.batch (cleaner.SetStop (at + 1))) (Some RegionFault) m start was now
      read_failed failed =
          behind_call (Cleaning m.batch (cleaner.ReadPiece at)) None m start was was behind entry (PieceRead piece.at piece.bytes) (Failed false failed.faults) now
          (may_fail sizes failed.faults (values_of was.view entry) readable.0 (failed.rose (values_of was.view) (still_owned (pass_of was.view)) way.called.still))
          (may_leave_failed piece.at failed.faults piece.bytes (values_of was.view entry))
          (altered_as (λ kept. with_value kept entry (called (PageRead 0 []) (Failed false failed.faults) (kept entry))) (λ kept. with_value kept entry (called (PieceRead piece.at piece.bytes) (Failed false failed.faults) (kept entry)))
          was now failed.altered (λ kept cells owns cell. ap (λ value. with_value kept entry value cell) (called_failed piece.at failed.faults piece.bytes (kept entry))))
          (λ kept. refl) record { at = piece.at; bytes = piece.bytes; cell = refl; job = refl; says = piece.says } entry_owned (Cleaning m.batch (cleaner.SetStop (at + 1))) refl
        where
          piece : SomePiece sizes (values_of was.view entry)
          piece = some_piece sizes (values_of was.view entry) readable.0

-- ---- it is written back

module _ (m : CleanState) (at offset : ℕ) (bytes : List ℕ) (start was now : PassState) (read : HasReadPiece m at offset bytes start was now) where
  abbrev write_sizes : Sizes
  write_sizes = was.view.opened.sizes

  abbrev to_file : ℕ
  to_file = group_file write_sizes m.batch

  store_at : (store_slot write_sizes to_file < slot_total write_sizes) × (cell_of write_sizes (store_slot write_sizes to_file) ≡ STORE to_file)
  store_at = cell_there write_sizes (STORE to_file) (store_slot write_sizes to_file) read.there refl

  owned_all : still_owned (pass_of was.view) ≡ m.owned
  owned_all = still_owned_all (pass_of was.view) read.behind.called.left ∙ read.behind.called.owned_is

  -- the slot of the store is owned once, and holds a store
  pub store_slot_once : slot_times (store_slot write_sizes to_file) now.now ≡ 1
  store_slot_once =
      slot_once write_sizes (values_before was.view read.behind.works) (still_owned (pass_of was.view)) now.now (STORE to_file) (store_slot write_sizes to_file) read.behind.shows store_at.0 store_at.1 (ap (times (STORE to_file)) owned_all ∙ read.once)

  pub store_slot_is : (value : Value) → IsOneOf now.now (store_slot write_sizes to_file, value) → IsStore value
  store_slot_is value one =
      subst IsStore (sym (slot_keeps write_sizes (values_before was.view read.behind.works) (still_owned (pass_of was.view)) now.now (STORE to_file) (store_slot write_sizes to_file) read.behind.shows store_at.1 value one)) read.store

  pub has_written : (next : PassState) (result : Result (Unit {0}) StoreError) → HasWritten to_file offset bytes result now next → IsBehind (written_at m.batch at result) (write_refusal result) m start was next
  has_written next (Ok done) is =
      behind_more (Cleaning m.batch (cleaner.WriteBack at)) None m start was now read.behind (STORE to_file) (PieceWrite offset bytes is.0) Made next is.1 (λ kept. refl)
      record { at = offset; bytes = bytes; left = is.0; cell = refl; job = refl; says = read.says } read.once _ refl
  has_written next (Err Fault) is =
      behind_more (Cleaning m.batch (cleaner.WriteBack at)) None m start was now read.behind (STORE to_file) (PieceWrite offset bytes is.0) (Failed false is.1) next is.2 (λ kept. refl)
      record { at = offset; bytes = bytes; left = is.0; cell = refl; job = refl; says = read.says } read.once _ refl
  has_written next (Err NoMemory) is =
      behind_more (Cleaning m.batch (cleaner.WriteBack at)) None m start was now read.behind (STORE to_file) (PieceWrite offset bytes is.0) Refused next is.1 (λ kept. refl)
      record { at = offset; bytes = bytes; left = is.0; cell = refl; job = refl; says = read.says } read.once _ refl
