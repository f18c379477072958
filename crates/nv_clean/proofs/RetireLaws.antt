-- Retiring: the stores of a batch are synced, and the header's tail is moved.
use Rattle.std.proofs.Common.{◌≡◌, ℕ, ◌+◌, ◌==◌, ◌<◌, Bool, true, false, if◌then◌else◌, List, [], ◌∷◌, ◌++◌, length, refl, sym, ap, ap₂, subst, ◌∙◌}
use Rattle.std.specs.Prelude.{Option, Some, None, Result, Ok, Err, OnOk, OnErr}
use Rattle.nv_pmem.specs.Steps.{LineStep}
use Rattle.nv_pmem.specs.declared.lines.RegionFault.{RegionFault}
use Rattle.nv_header.specs.HeaderSteps.{tail_steps}
use Rattle.nv_core.specs.state.Words.{Sizes, Word, HEADER, STORE}
use Rattle.nv_core.specs.state.Cleaner.{Batch, CleanerControl}
use Rattle.nv_core.specs.state.Cleaner as cleaner
use Rattle.nv_core.specs.state.Core.{Core, control_worked, with_value, worked, values_worked}
use Rattle.nv_core.specs.state.Spares.{Spares}
use Rattle.nv_core.specs.state.Passes.{Control, Cleaning, IsOneOf, Pass, times}
use Rattle.nv_core.specs.state.Values.{Value, Bare, APart, AStore, ABuffer, PartStep, StoreSync, CallEnding, Made, Failed, Refused, called}
use Rattle.nv_core.specs.steps.CleanerSteps.{after_cleaner_work, holds_store, rising_files, syncing}
use Rattle.nv_core.specs.steps.Order.{Values, Work, CallDue, CallMayLeave, CleanerCallDue, IsTailCall}
use Rattle.nv_core.specs.steps.Opening.{IsMount}
use Rattle.nv_core.specs.invariant.InvariantLaws.{RunsAreSound}
use Rattle.nv_core.specs.invariant.Ownership.{HoldsLocks}
use Rattle.nv_core.specs.invariant.Rooms.{KeepsRoomy, MovesRoomy}
use Rattle.nv_core.specs.invariant.Shapes.{HaveShapes, IsStore}
use Rattle.nv_core.specs.invariant.Sound.{Sound}
use Rattle.nv_core.specs.log.Progress.{HasLoadedTail}
use Rattle.nv_core.proofs.state.Changes.{by_word}
use Rattle.nv_table.specs.state.Layout.{slot_total, cell_of}
use Rattle.nv_table.specs.state.Opened.{mount_of, IsRunOf, state_of}
use Rattle.nv_table.specs.state.States.{PassState}
use Rattle.nv_table.specs.state.Views.{PassView, OwnsSlots, pass_of, values_of, still_owned, slot_times}
use Rattle.nv_table.specs.steps.SeatSteps.{AreDue, pass_worked, values_after, values_before}
use Rattle.nv_table.proofs.invariant.DrawnLaws.{calls_leave}
use Rattle.nv_table.proofs.state.LayoutLaws.{cell_there}
use Rattle.nv_table.proofs.steps.OwnedSlotLaws.{owns_slots_kept, still_owned_all}
use Rattle.nv_mirror.specs.PassSteps.{either_of}
use Rattle.nv_mirror.proofs.StepLaws.{between_self}
use Rattle.nv_pages.specs.DeviceCalls.{AreTailCalls, HasCalled, HasMovedTail, TailCallsAreDue, part_seen}
use Rattle.nv_pages.specs.PageWork.{store_slot}
use Rattle.nv_clean.specs.declared.batch.CleanControl.TheVariants as cleans
use Rattle.nv_clean.specs.declared.batch.CleanRefusal.{CleanRefusal}
use Rattle.nv_clean.specs.declared.batch.CleanRefusal.TheVariants as refusals
use Rattle.nv_clean.specs.Cleaning.{CleanState, IsAfterCalls, IsBehind, IsUnderWay, call_refusal, calls_refusal, control_at, control_of}
use Rattle.nv_clean.specs.Retiring.{IsSyncing}
use Rattle.nv_clean.proofs.BehindLaws.{behind_more, shows_now, values_more}
use Rattle.nv_clean.proofs.PieceLaws.{slot_keeps, slot_once, store_by}

-- ---- some calls more

due_append : (sizes : Sizes) (works more : List Work) (values : Values) (pass : Pass) → AreDue sizes values pass works → AreDue sizes (values_after sizes works pass values) (pass_worked sizes works pass) more
    → AreDue sizes values pass (works ++ more)
due_append sizes [] more values pass due rest = rest
due_append sizes (first ∷ later) more values pass due rest = (due.0, due_append sizes later more _ _ due.1 rest)

worked_append : (sizes : Sizes) (works more : List Work) (pass : Pass) → pass_worked sizes (works ++ more) pass ≡ pass_worked sizes more (pass_worked sizes works pass)
worked_append sizes [] more pass = refl
worked_append sizes (first ∷ later) more pass = worked_append sizes later more (worked sizes first pass)

values_append : (sizes : Sizes) (works more : List Work) (pass : Pass) (values : Values)
    → values_after sizes (works ++ more) pass values ≡ values_after sizes more (pass_worked sizes works pass) (values_after sizes works pass values)
values_append sizes [] more pass values = refl
values_append sizes (first ∷ later) more pass values = values_append sizes later more (worked sizes first pass) (values_worked pass first values)

either_assoc : {T : Type 0} (one other third : Option T) → either_of one (either_of other third) ≡ either_of (either_of one other) third
either_assoc None other third = refl
either_assoc (Some one) other third = refl

calls_append : (works more : List Work) → calls_refusal (works ++ more) ≡ either_of (calls_refusal works) (calls_refusal more)
calls_append [] more = refl
calls_append (first ∷ later) more = ap (either_of (call_refusal first.cell first.ending)) (calls_append later more) ∙ either_assoc (call_refusal first.cell first.ending) (calls_refusal later) (calls_refusal more)

-- ---- the calls of a move of the tail

-- there are no more, where none is due
no_more_due : (sizes : Sizes) (batch : Batch) (inner : CleanerControl) (works : List Work) (values : Values) (pass : Pass) → pass.control ≡ Cleaning batch inner
    → ((kept : Values) (work : Work) → CleanerCallDue sizes kept batch work inner → ⊥) → AreDue sizes values pass works → works ≡ []
no_more_due sizes batch inner [] values pass at none due = refl
no_more_due sizes batch inner (work ∷ later) values pass at none due = absurd (none values work (subst (CallDue sizes values pass work) at due.0.due))

never_refused : (value : Value) (step : LineStep) (spares : Spares) → CallMayLeave value (PartStep step spares) Refused → ⊥
never_refused Bare step spares may = may
never_refused (APart device before) step spares may = may
never_refused (AStore device) step spares may = may
never_refused (ABuffer buffer) step spares may = may

-- none has failed where the first entry is freed next, and one has where STOP is set
module _ (sizes : Sizes) (batch : Batch) where
  abbrev Ended : List Work → Control → Type 0
  Ended works last = (last ≡ Cleaning batch (cleaner.FreeEntry batch.tail) → calls_refusal works ≡ None) × (last ≡ Cleaning batch (cleaner.SetStop 0) → calls_refusal works ≡ Some refusals.RegionFault)

  at_header : (cell : Word) (later : List Work) (ending : CallEnding) (refusal : Option CleanRefusal) → cell ≡ HEADER → later ≡ [] → call_refusal HEADER ending ≡ refusal → either_of (call_refusal cell ending) (calls_refusal later) ≡ either_of refusal None
  at_header cell later ending refusal header none is = ap₂ (λ c l. either_of (call_refusal c ending) (calls_refusal l)) header none ∙ ap (λ r. either_of r None) is

  tail_ended : (works : List Work) (count : ℕ) (values : Values) (pass : Pass) → pass.control ≡ Cleaning batch (cleaner.MoveHeaderTail count) → AreDue sizes values pass works → Ended works (pass_worked sizes works pass).control
  tail_ended [] count values pass at due = (λ so. absurd (clash_free (sym at ∙ so)), λ so. absurd (clash_stop (sym at ∙ so)))
    where
      clash_free : Cleaning batch (cleaner.MoveHeaderTail count) ≡ Cleaning batch (cleaner.FreeEntry batch.tail) → ⊥
      clash_free e = cc

      clash_stop : Cleaning batch (cleaner.MoveHeaderTail count) ≡ Cleaning batch (cleaner.SetStop 0) → ⊥
      clash_stop e = cc
  tail_ended (work ∷ later) count values pass at due =
      by_ending (λ here. tail_ended later (count + 1) (values_worked pass work values) (worked sizes work pass) here due.1) work.ending refl (subst (CallDue sizes values pass work) at due.0.due)
    where
      then_at : (ending : CallEnding) → work.ending ≡ ending → (worked sizes work pass).control ≡ after_cleaner_work batch ending (cleaner.MoveHeaderTail count)
      then_at Made is = ap₂ (λ e c. control_worked sizes pass e c) is at
      then_at (Failed came faults) is = ap₂ (λ e c. control_worked sizes pass e c) is at
      then_at Refused is = ap₂ (λ e c. control_worked sizes pass e c) is at

      at_stop : (came : Bool) (faults : ℕ) → work.ending ≡ Failed came faults → IsTailCall batch.reached count work → Ended (work ∷ later) (pass_worked sizes later (worked sizes work pass)).control
      at_stop came faults is call =
          let here = then_at (Failed came faults) is in
          let none = no_more_due sizes batch (cleaner.SetStop 0) later (values_worked pass work values) (worked sizes work pass) here (λ kept one never. never) due.1 in
          let last : (pass_worked sizes later (worked sizes work pass)).control ≡ Cleaning batch (cleaner.SetStop 0) = ap (λ l. (pass_worked sizes l (worked sizes work pass)).control) none ∙ here in (
            λ so. absurd (stops_not (sym last ∙ so)),
            λ so. ap (λ e. either_of (call_refusal work.cell e) (calls_refusal later)) is ∙ at_header work.cell later (Failed came faults) (Some refusals.RegionFault) call.cell none refl,
          )
        where
          stops_not : Cleaning batch (cleaner.SetStop 0) ≡ Cleaning batch (cleaner.FreeEntry batch.tail) → ⊥
          stops_not e = cc

      at_free : work.ending ≡ Made → (worked sizes work pass).control ≡ Cleaning batch (cleaner.FreeEntry batch.tail) → IsTailCall batch.reached count work → Ended (work ∷ later) (pass_worked sizes later (worked sizes work pass)).control
      at_free is here call =
          let none = no_more_due sizes batch (cleaner.FreeEntry batch.tail) later (values_worked pass work values) (worked sizes work pass) here (λ kept one never. never) due.1 in
          let last : (pass_worked sizes later (worked sizes work pass)).control ≡ Cleaning batch (cleaner.FreeEntry batch.tail) = ap (λ l. (pass_worked sizes l (worked sizes work pass)).control) none ∙ here in (
            λ so. ap (λ e. either_of (call_refusal work.cell e) (calls_refusal later)) is ∙ at_header work.cell later Made None call.cell none refl,
            λ so. absurd (frees_not (sym last ∙ so)),
          )
        where
          frees_not : Cleaning batch (cleaner.FreeEntry batch.tail) ≡ Cleaning batch (cleaner.SetStop 0) → ⊥
          frees_not e = cc

      at_more : ((worked sizes work pass).control ≡ Cleaning batch (cleaner.MoveHeaderTail (count + 1)) → Ended later (pass_worked sizes later (worked sizes work pass)).control) → work.ending ≡ Made → (worked sizes work pass).control ≡ Cleaning batch (cleaner.MoveHeaderTail (count + 1)) → IsTailCall batch.reached count work → Ended (work ∷ later) (pass_worked sizes later (worked sizes work pass)).control
      at_more goes is here call =
          let rest = goes here in
          let first : call_refusal work.cell work.ending ≡ None = ap₂ call_refusal call.cell is in
          (λ so. ap (λ r. either_of r (calls_refusal later)) first ∙ rest.0 so, λ so. ap (λ r. either_of r (calls_refusal later)) first ∙ rest.1 so)

      by_made : ((worked sizes work pass).control ≡ Cleaning batch (cleaner.MoveHeaderTail (count + 1)) → Ended later (pass_worked sizes later (worked sizes work pass)).control) → (b : Bool) → (count + 1 == length (tail_steps batch.reached)) ≡ b → work.ending ≡ Made → IsTailCall batch.reached count work → Ended (work ∷ later) (pass_worked sizes later (worked sizes work pass)).control
      by_made goes true whole is call = at_free is (then_at Made is ∙ ap (λ b. if b then Cleaning batch (cleaner.FreeEntry batch.tail) else Cleaning batch (cleaner.MoveHeaderTail (count + 1))) whole) call
      by_made goes false part is call = at_more goes is (then_at Made is ∙ ap (λ b. if b then Cleaning batch (cleaner.FreeEntry batch.tail) else Cleaning batch (cleaner.MoveHeaderTail (count + 1))) part) call

      by_ending : ((worked sizes work pass).control ≡ Cleaning batch (cleaner.MoveHeaderTail (count + 1)) → Ended later (pass_worked sizes later (worked sizes work pass)).control) → (ending : CallEnding) → work.ending ≡ ending → IsTailCall batch.reached count work → Ended (work ∷ later) (pass_worked sizes later (worked sizes work pass)).control
      by_ending goes Made is call = by_made goes (count + 1 == length (tail_steps batch.reached)) refl is call
      by_ending goes (Failed came faults) is call = at_stop came faults is call
      by_ending goes Refused is call = absurd (never_refused (values work.cell) call.step call.spares (subst (λ e. CallMayLeave (values work.cell) (PartStep call.step call.spares) e) is (subst (λ j. CallMayLeave (values work.cell) j work.ending) call.job due.0.leaves)))

-- a store that is synced is one still
called_store : (ending : CallEnding) (value : Value) → IsStore value → IsStore (called StoreSync ending value)
called_store ending (AStore device) store = tt
called_store ending value store = absurd store

-- ---- where a batch retires

module _ (sound : RunsAreSound) (was : PassState) (mount : IsMount (mount_of was.view.opened)) (run : IsRunOf was.view.opened was.view.run) (m : CleanState) (at : m.control ≡ cleans.Retire) (start : PassState) (way : IsUnderWay m start was) where
  abbrev sizes : Sizes
  sizes = was.view.opened.sizes

  abbrev core : Core
  core = state_of was.view.opened was.view.run

  core_sound : Sound sizes (mount_of was.view.opened).values core
  core_sound = sound (mount_of was.view.opened) was.view.run mount run

  -- what is so there
  record Holds : Type 0 where
    there : (file : ℕ) → holds_store m.batch file ≡ true → file < sizes.files
    once : (file : ℕ) → holds_store m.batch file ≡ true → times (STORE file) m.owned ≡ 1
    header_once : times HEADER m.owned ≡ 1
    header : KeepsRoomy (values_of was.view HEADER)

  holds_at : (inner : CleanerControl) → (core.passes was.view.number).control ≡ Cleaning m.batch inner → HasLoadedTail inner
      → ((file : ℕ) → times (STORE file) (core.passes was.view.number).owned ≡ (if holds_store m.batch file then 1 else 0)) → times HEADER (core.passes was.view.number).owned ≡ 1
      → KeepsRoomy (values_of was.view HEADER) → Holds
  holds_at inner here loaded stores header roomy = record {
    there = (core_sound.grouped.progress.each was.view.number m.batch inner here loaded).files;
    once = λ file is. sym (ap (times (STORE file)) way.called.owned_is) ∙ stores file ∙ ap (λ (b : Bool). if b then 1 else 0) is;
    header_once = sym (ap (times HEADER) way.called.owned_is) ∙ header;
    header = roomy;
  }

  abbrev Owns : Control → Type 0
  Owns control = HoldsLocks sizes (core.passes was.view.number) control

  abbrev Moves : Control → Type 0
  Moves control = MovesRoomy control (core.values HEADER)

  holds : (files : List ℕ) → (core.passes was.view.number).control ≡ syncing m.batch files → Holds
  holds [] here =
      let locks : Owns (Cleaning m.batch (cleaner.MoveHeaderTail 0)) = subst Owns here (core_sound.ownership was.view.number).locks in
      let roomy : Moves (Cleaning m.batch (cleaner.MoveHeaderTail 0)) = subst Moves here (core_sound.rooms.moving was.view.number) in
      holds_at (cleaner.MoveHeaderTail 0) here tt (λ file. locks (STORE file) (λ slot e. cc)) (locks HEADER (λ slot e. cc)) (roomy tt)
  holds (file ∷ rest) here =
      let locks : Owns (Cleaning m.batch (cleaner.SyncStores (file ∷ rest))) = subst Owns here (core_sound.ownership was.view.number).locks in
      let roomy : Moves (Cleaning m.batch (cleaner.SyncStores (file ∷ rest))) = subst Moves here (core_sound.rooms.moving was.view.number) in
      holds_at (cleaner.SyncStores (file ∷ rest)) here tt (λ file. locks (STORE file) (λ slot e. cc)) (locks HEADER (λ slot e. cc)) (roomy tt)

  pub syncing_begins : ((file : ℕ) → file < sizes.files → IsStore ((mount_of was.view.opened).values (STORE file))) → HaveShapes sizes.page (mount_of was.view.opened).values (values_of was.view)
      → IsSyncing m (rising_files sizes m.batch) start was was
  syncing_begins first shapes = record {
    behind = record {
      control = control_of sizes m;
      called = way.called;
      apart = way.apart;
      between = between_self was;
      works = [];
      due = tt;
      stands_so = way.called.control_is ∙ ap (control_at sizes m.batch) at;
      refused = refl;
      shows = way.called.still;
    };
    there = is.there;
    once = is.once;
    stores = λ file held. store_by sizes.page ((mount_of was.view.opened).values (STORE file)) (values_of was.view (STORE file)) (first file (is.there file held)) (shapes (STORE file));
    header_once = is.header_once;
    header = is.header;
  }
    where
      is : Holds
      is = holds (rising_files sizes m.batch) (way.called.control_is ∙ ap (control_at sizes m.batch) at)

-- ---- a store is synced

module _ (m : CleanState) (file : ℕ) (rest : List ℕ) (start was now : PassState) (is : IsSyncing m (file ∷ rest) start was now) (held : holds_store m.batch file ≡ true) where
  abbrev sync_sizes : Sizes
  sync_sizes = was.view.opened.sizes

  abbrev sync_values : Values
  sync_values = values_before was.view is.behind.works

  store_at : (store_slot sync_sizes file < slot_total sync_sizes) × (cell_of sync_sizes (store_slot sync_sizes file) ≡ STORE file)
  store_at = cell_there sync_sizes (STORE file) (store_slot sync_sizes file) (is.there file held) refl

  owned_all : still_owned (pass_of was.view) ≡ m.owned
  owned_all = still_owned_all (pass_of was.view) is.behind.called.left ∙ is.behind.called.owned_is

  -- its slot is owned once, and holds a store
  pub sync_slot_once : slot_times (store_slot sync_sizes file) now.now ≡ 1
  sync_slot_once =
      slot_once sync_sizes sync_values (still_owned (pass_of was.view)) now.now (STORE file) (store_slot sync_sizes file) is.behind.shows store_at.0 store_at.1 (ap (times (STORE file)) owned_all ∙ is.once file held)

  pub sync_slot_is : (value : Value) → IsOneOf now.now (store_slot sync_sizes file, value) → IsStore value
  sync_slot_is value one =
      subst IsStore (sym (slot_keeps sync_sizes sync_values (still_owned (pass_of was.view)) now.now (STORE file) (store_slot sync_sizes file) is.behind.shows store_at.1 value one)) (is.stores file held)

  pub was_synced : (next : PassState) → HasCalled (STORE file) StoreSync Made now next → IsSyncing m rest start was next
  was_synced next call = record {
    behind = behind_more (syncing m.batch (file ∷ rest)) None m start was now is.behind (STORE file) StoreSync Made next call (λ kept. refl) (refl, refl) (is.once file held) (syncing m.batch rest) refl;
    there = is.there;
    once = is.once;
    stores = λ other holds. subst (λ (values : Values). IsStore (values (STORE other))) (sym then_values)
        (by_word (λ word value. IsStore (sync_values word) → IsStore value) sync_values (STORE file) (called StoreSync Made (sync_values (STORE file))) (called_store Made (sync_values (STORE file))) (λ word ne store. store) (STORE other) (is.stores other holds));
    header_once = is.header_once;
    header = subst (λ (values : Values). KeepsRoomy (values HEADER)) (sym then_values) is.header;
  }
    where
      then_values : values_before was.view (is.behind.works ++ (record { cell = STORE file; job = StoreSync; ending = Made }) ∷ []) ≡ with_value sync_values (STORE file) (called StoreSync Made (sync_values (STORE file)))
      then_values = values_more sync_sizes is.behind.works (record { cell = STORE file; job = StoreSync; ending = Made }) (pass_of was.view) (values_of was.view)

  -- and where that failed STOP is set next
  pub sync_failed : (faults : ℕ) (next : PassState) → HasCalled (STORE file) StoreSync (Failed false faults) now next → IsBehind (Cleaning m.batch (cleaner.SetStop 0)) (Some refusals.StoreFault) m start was next
  sync_failed faults next call =
      behind_more (syncing m.batch (file ∷ rest)) None m start was now is.behind (STORE file) StoreSync (Failed false faults) next call (λ kept. refl) (refl, refl) (is.once file held) (Cleaning m.batch (cleaner.SetStop 0)) refl

-- ---- the header's tail is moved

module _ (m : CleanState) (start was now : PassState) (is : IsSyncing m [] start was now) where
  abbrev tail_sizes : Sizes
  tail_sizes = was.view.opened.sizes

  abbrev tail_values : Values
  tail_values = values_before was.view is.behind.works

  abbrev tail_pass : Pass
  tail_pass = pass_worked tail_sizes is.behind.works (pass_of was.view)

  header_at : (0 < slot_total tail_sizes) × (cell_of tail_sizes 0 ≡ HEADER)
  header_at = cell_there tail_sizes HEADER 0 tt refl

  cells_all : still_owned (pass_of was.view) ≡ m.owned
  cells_all = still_owned_all (pass_of was.view) is.behind.called.left ∙ is.behind.called.owned_is

  -- its slot is owned once, and holds a part with room
  pub header_slot_once : slot_times 0 now.now ≡ 1
  header_slot_once = slot_once tail_sizes tail_values (still_owned (pass_of was.view)) now.now HEADER 0 is.behind.shows header_at.0 header_at.1 (ap (times HEADER) cells_all ∙ is.header_once)

  pub header_slot_is : (value : Value) → IsOneOf now.now (0, value) → KeepsRoomy value
  header_slot_is value one = subst KeepsRoomy (sym (slot_keeps tail_sizes tail_values (still_owned (pass_of was.view)) now.now HEADER 0 is.behind.shows header_at.1 value one)) is.header

  module _ (next : PassState) (result : Result (Unit {0}) RegionFault) (moved : HasMovedTail m.batch.reached result now next) (due : TailCallsAreDue) where
    calls : AreTailCalls tail_sizes tail_values tail_pass m.batch moved.identity moved.now result
    calls =
        due tail_sizes tail_values tail_pass m.batch moved.identity moved.was moved.now result is.behind.stands_so
        (ap (times HEADER) (calls_leave (λ (p : Pass). p.owned) (λ sizes work p. refl) tail_sizes is.behind.works (pass_of was.view) ∙ is.behind.called.owned_is) ∙ is.header_once)
        (moved.kept tail_values (still_owned (pass_of was.view)) (shows_now (syncing m.batch []) None m start was now is.behind)) moved.calls

    behind_calls : (stands : Control) (refusal : Option CleanRefusal) → (pass_worked tail_sizes calls.works tail_pass).control ≡ stands → calls_refusal calls.works ≡ refusal → IsBehind stands refusal m start was next
    behind_calls stands refusal so refused = record {
      control = is.behind.control;
      called = is.behind.called;
      apart = is.behind.apart;
      between = record { table = moved.altered.table ∙ is.behind.between.table; view = moved.altered.view ∙ is.behind.between.view; spare = moved.altered.spare ∙ is.behind.between.spare };
      works = is.behind.works ++ calls.works;
      due = due_append tail_sizes is.behind.works calls.works (values_of was.view) (pass_of was.view) is.behind.due calls.due;
      stands_so = ap (λ (p : Pass). p.control) (worked_append tail_sizes is.behind.works calls.works (pass_of was.view)) ∙ so;
      refused = calls_append is.behind.works calls.works ∙ ap (λ r. either_of r (calls_refusal calls.works)) is.behind.refused ∙ refused;
      shows = subst (λ (values : Values). OwnsSlots tail_sizes (λ value. value) values (still_owned (pass_of was.view)) next.now) (sym (values_append tail_sizes is.behind.works calls.works (pass_of was.view) (values_of was.view)))
          (owns_slots_kept tail_sizes (λ value. value) (with_value tail_values HEADER (part_seen moved.identity moved.now)) _ (still_owned (pass_of was.view)) next.now (λ cell some. calls.kept cell)
          (subst (λ (v : PassView). OwnsSlots v.opened.sizes (λ value. value) (with_value tail_values HEADER (part_seen moved.identity moved.now)) (still_owned (pass_of was.view)) next.now) is.behind.between.view
          (moved.altered.owns_slots tail_values (still_owned (pass_of was.view)) (shows_now (syncing m.batch []) None m start was now is.behind))));
    }

    behind_tail : ((pass_worked tail_sizes calls.works tail_pass).control ≡ Cleaning m.batch (cleaner.FreeEntry m.batch.tail) → IsBehind (Cleaning m.batch (cleaner.FreeEntry m.batch.tail)) None m start was next)
        × ((pass_worked tail_sizes calls.works tail_pass).control ≡ Cleaning m.batch (cleaner.SetStop 0) → IsBehind (Cleaning m.batch (cleaner.SetStop 0)) (Some refusals.RegionFault) m start was next)
    behind_tail =
        let ended = tail_ended tail_sizes m.batch calls.works 0 tail_values tail_pass is.behind.stands_so calls.due in (
          λ so. behind_calls (Cleaning m.batch (cleaner.FreeEntry m.batch.tail)) None so (ended.0 so),
          λ so. behind_calls (Cleaning m.batch (cleaner.SetStop 0)) (Some refusals.RegionFault) so (ended.1 so),
        )

pub tail_moved : (m : CleanState) (now next : PassState) (result : Result (Unit {0}) RegionFault) → HasMovedTail m.batch.reached result now next → TailCallsAreDue
    → OnOk result ((start was : PassState) → IsSyncing m [] start was now → IsBehind (Cleaning m.batch (cleaner.FreeEntry m.batch.tail)) None m start was next)
tail_moved m now next (Ok done) moved due = λ start was is. (behind_tail m start was now is next (Ok done) moved due).0 (calls m start was now is next (Ok done) moved due).freeing
tail_moved m now next (Err fault) moved due = tt

pub tail_failed : (m : CleanState) (now next : PassState) (result : Result (Unit {0}) RegionFault) → HasMovedTail m.batch.reached result now next → TailCallsAreDue
    → OnErr result ((start was : PassState) → IsSyncing m [] start was now → IsBehind (Cleaning m.batch (cleaner.SetStop 0)) (Some refusals.RegionFault) m start was next)
tail_failed m now next (Ok done) moved due = tt
tail_failed m now next (Err fault) moved due = λ start was is. (behind_tail m start was now is next (Err fault) moved due).1 (calls m start was now is next (Err fault) moved due).failing

-- ---- and the first entry is freed

pub frees_next : (m : CleanState) (start was now : PassState) → IsBehind (Cleaning m.batch (cleaner.FreeEntry m.batch.tail)) None m start was now → IsAfterCalls (record m { control = cleans.FreeEntry m.batch.tail }) start was now
frees_next m start was now behind = record {
  control = behind.control;
  called = behind.called;
  apart = behind.apart;
  between = behind.between;
  works = behind.works;
  due = behind.due;
  stands_so = behind.stands_so;
  refused = behind.refused;
  shows = behind.shows;
}

pub some_not_none : {T : Type 0} {A : Type 0} (value : T) → Some value ≡ None → A
some_not_none value e = absurd (cc)
