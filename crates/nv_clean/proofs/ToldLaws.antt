-- Told: what the steps of a batch have come to, behind each of them.
use Rattle.std.proofs.Common.{◌≡◌, ◌⊎◌, inl, inr, ℕ, zero, suc, ◌+◌, ◌==◌, nat_lt, nat_le, not, ◌&&◌, ◌||◌, Bool, true, false, if◌then◌else◌, List, [], ◌∷◌, length, refl, sym, ap, ap₂, subst, ◌∙◌, arith, eq-eqb, eqb-true}
use Rattle.std.specs.Prelude.{Option, Some, None, is_some, option_map}
use Rattle.std.proofs.lemmas.Bool.{ltb-true}
use Rattle.nv_pmem.specs.Steps.{LineStep}
use Rattle.nv_header.specs.HeaderSteps.{tail_steps}
use Rattle.nv_core.specs.state.Words.{Sizes, Word, STOP, HEAD, TAIL, HEADER, STORE, ENTRY, CLEANER, CLEANUP, kind_of, place, ready, slot_of_entry}
use Rattle.nv_core.specs.state.Cleaner.{Batch, CleanerControl, LoadTail, LoadHead, WriteBack, CleanEntry, SyncStores, MoveHeaderTail, FreeEntry, TakeHeader, SetStop, RefusedReturnEntry, CleanerOp, TakeCleaner}
use Rattle.nv_core.specs.state.Cleaner as cleaner
use Rattle.nv_core.specs.state.Core.{control_worked, worked, values_worked}
use Rattle.nv_core.specs.state.Passes.{Control, Idle, Cleaning, Pass}
use Rattle.nv_core.specs.state.Spares.{Spares}
use Rattle.nv_core.specs.state.Values.{Value, Bare, APart, AStore, ABuffer, PartStep, PieceRead, StoreSync, CallEnding, Made, Failed, Refused}
use Rattle.nv_core.specs.steps.CleanerSteps.{after_cleaner_work, count_of, group_file, group_page, may_pass, next_cleaner_op, syncing}
use Rattle.nv_core.specs.steps.ControlSteps.{after_by_cleaner}
use Rattle.nv_core.specs.steps.Frames.{OwnEventsTell}
use Rattle.nv_core.specs.steps.Opening.{IsMount}
use Rattle.nv_core.specs.steps.Ops.{Op, ByCleaner, cleaner_move, moved}
use Rattle.nv_core.specs.steps.Order.{Values, Work, CallDue, CallEnabled, CallMayLeave, CleanerCallDue, IsBatchEntry, next_step, step_at}
use Rattle.nv_core.specs.invariant.InvariantLaws.{RunsAreSound}
use Rattle.nv_core.proofs.invariant.CleanerLocks.{cleaner_op_is}
use Rattle.nv_core.proofs.state.Choices.{if_both}
use Rattle.nv_table.specs.state.Opened.{mount_of}
use Rattle.nv_table.specs.state.States.{PassState}
use Rattle.nv_table.specs.state.Views.{PassView, pass_of}
use Rattle.nv_table.specs.steps.SeatSteps.{AreDue, pass_worked}
use Rattle.nv_table.proofs.invariant.StepAt.{IsMadeAt, made_at}
use Rattle.nv_mirror.specs.PassSteps.{PassStep, HasTaken, either_of}
use Rattle.nv_clean.specs.declared.batch.CleanRefusal.{CleanRefusal}
use Rattle.nv_clean.specs.declared.batch.CleanRefusal.TheVariants.{Idle as IdleRefusal, Busy, Stopped, RegionFault, StoreFault, NoMemory}
use Rattle.nv_clean.specs.declared.batch.CleanControl.{CleanControl}
use Rattle.nv_clean.specs.declared.batch.CleanControl.TheVariants as cleans
use Rattle.nv_clean.specs.Answers.{busy_at, cleans_in, refusal_in, refused_by, tail_in, unless_cleaned}
use Rattle.nv_clean.specs.CleanSteps.{first_refusal, is_fault, refusal_at, unless_free}
use Rattle.nv_clean.specs.Cleaning.{IsPlain, call_refusal, calls_refusal, files_from, inner_at}
use Rattle.nv_clean.proofs.TellLaws.{Amid, PendingAt, Tells, TellsAt, TellsBy, either_none, elsewhere, has_passed, last_give, tells_on, unless_none, unpassed}

-- ---- a device call

either_assoc : {T : Type 0} (one other third : Option T) → either_of one (either_of other third) ≡ either_of (either_of one other) third
either_assoc None other third = refl
either_assoc (Some one) other third = refl

-- only a write to a store may be refused
not_refused : (value : Value) (step : LineStep) (spares : Spares) → CallMayLeave value (PartStep step spares) Refused → ⊥
not_refused Bare step spares may = may
not_refused (APart device before) step spares may = may
not_refused (AStore device) step spares may = may
not_refused (ABuffer buffer) step spares may = may

read_not_refused : (value : Value) (at : ℕ) (bytes : List ℕ) → CallMayLeave value (PieceRead at bytes) Refused → ⊥
read_not_refused Bare at bytes may = may
read_not_refused (APart device before) at bytes may = may
read_not_refused (AStore device) at bytes may = may
read_not_refused (ABuffer buffer) at bytes may = may

sync_not_refused : (value : Value) → CallMayLeave value StoreSync Refused → ⊥
sync_not_refused Bare may = may
sync_not_refused (APart device before) may = may
sync_not_refused (AStore device) may = may
sync_not_refused (ABuffer buffer) may = may

not_below : (n : ℕ) → nat_lt n n ≡ false
not_below n = go (nat_lt n n) refl
  where
    go : (b : Bool) → nat_lt n n ≡ b → b ≡ false
    go true is = absurd (let low = ltb-true n n is in omega (arith, low))
    go false is = refl

module _ (sizes : Sizes) (steps : List PassStep) (values : Values) (batch : Batch) (work : Work) (pending : Option CleanRefusal) where
  abbrev After : Control → CallEnding → Type 0
  After control ending = Amid sizes control steps (either_of pending (call_refusal work.cell ending))

  -- none has gone wrong
  well : pending ≡ None → either_of pending (call_refusal work.cell Made) ≡ None
  well none = ap (λ p. either_of p (call_refusal work.cell Made)) none

  -- one has
  ill : (cell : Word) (ending : CallEnding) → pending ≡ None → work.cell ≡ cell → is_fault (call_refusal cell ending) ≡ true → is_fault (either_of pending (call_refusal work.cell ending)) ≡ true
  ill cell ending none is fault = ap₂ (λ p c. is_fault (either_of p (call_refusal c ending))) none is ∙ fault

  abbrev Goes : Type 0
  Goes = TellsBy batch.tail steps sizes (has_passed batch) false None false

  made_on : (inner : CleanerControl) → TellsAt sizes batch inner steps → PendingAt inner pending → CleanerCallDue sizes values batch work inner → After (after_cleaner_work batch Made inner) Made
  made_on (cleaner.ReadPiece i) t none due = ((t.0, tt), well none)
  made_on (WriteBack i) t none due =
      if_both (λ c. After c Made) (i + 1 == length batch.pages) (Cleaning batch (CleanEntry 0)) (Cleaning batch (cleaner.HoldEntry (i + 1))) (λ e. ((t.0, tt), well none)) (λ e. ((t.0, tt), well none))
  made_on (SyncStores (file ∷ rest)) t none due = go rest
    where
      go : (files : List ℕ) → After (syncing batch files) Made
      go [] = ((t.0, tt), well none)
      go (one ∷ later) = ((t.0, tt), well none)
  made_on (MoveHeaderTail count) t none due =
      if_both (λ c. After c Made) (count + 1 == length (tail_steps batch.reached)) (Cleaning batch (FreeEntry batch.tail)) (Cleaning batch (MoveHeaderTail (count + 1)))
      (λ e. ((subst (TellsBy batch.tail steps sizes (has_passed batch) false None) (sym (not_below batch.tail)) t.0, tt), well none)) (λ e. ((t.0, tt), well none))
  made_on inner t none due = absurd due

  failed_on : (came : Bool) (faults : ℕ) (inner : CleanerControl) → TellsAt sizes batch inner steps → PendingAt inner pending → CleanerCallDue sizes values batch work inner → After (after_cleaner_work batch (Failed came faults) inner) (Failed came faults)
  failed_on came faults (cleaner.ReadPiece i) t none due = ((t.0, tt), ill (ENTRY (slot_of_entry sizes (batch.reached + i))) (Failed came faults) none due.cell refl)
  failed_on came faults (WriteBack i) t none due = ((t.0, tt), ill (STORE (group_file sizes batch)) (Failed came faults) none due.cell refl)
  failed_on came faults (SyncStores (file ∷ rest)) t none due = ((t.0, tt), ill (STORE file) (Failed came faults) none due.0 refl)
  failed_on came faults (MoveHeaderTail count) t none due = ((t.0, tt), ill HEADER (Failed came faults) none due.cell refl)
  failed_on came faults inner t none due = absurd due

  refused_on : (inner : CleanerControl) → TellsAt sizes batch inner steps → PendingAt inner pending → CleanerCallDue sizes values batch work inner → CallMayLeave (values work.cell) work.job Refused → After (after_cleaner_work batch Refused inner) Refused
  refused_on (cleaner.ReadPiece i) t none due leaves = absurd (read_not_refused (values work.cell) due.at due.bytes (subst (λ job. CallMayLeave (values work.cell) job Refused) due.job leaves))
  refused_on (WriteBack i) t none due leaves = ((t.0, tt), (λ zero. ap₂ (λ p c. either_of p (call_refusal c Refused)) none due.cell, λ some. absurd (some refl)))
  refused_on (SyncStores (file ∷ rest)) t none due leaves = absurd (sync_not_refused (values work.cell) (subst (λ job. CallMayLeave (values work.cell) job Refused) due.1 leaves))
  refused_on (MoveHeaderTail count) t none due leaves = absurd (not_refused (values work.cell) due.step due.spares (subst (λ job. CallMayLeave (values work.cell) job Refused) due.job leaves))
  refused_on inner t none due leaves = absurd due

module _ (sizes : Sizes) (steps : List PassStep) where
  work_on : (values : Values) (pass : Pass) (work : Work) (pending : Option CleanRefusal) (control : Control) → pass.control ≡ control → Amid sizes control steps pending → CallEnabled sizes values pass work
      → Amid sizes (worked sizes work pass).control steps (either_of pending (call_refusal work.cell work.ending))
  work_on values pass work pending (Cleaning batch inner) at amid may = by_ending work.ending refl
    where
      due : CleanerCallDue sizes values batch work inner
      due = subst (CallDue sizes values pass work) at may.due

      by_ending : (ending : CallEnding) → work.ending ≡ ending → Amid sizes (control_worked sizes pass work.ending pass.control) steps (either_of pending (call_refusal work.cell work.ending))
      by_ending Made is =
          subst (λ e. Amid sizes (control_worked sizes pass e pass.control) steps (either_of pending (call_refusal work.cell e))) (sym is)
          (subst (λ c. Amid sizes (control_worked sizes pass Made c) steps (either_of pending (call_refusal work.cell Made))) (sym at) (made_on sizes steps values batch work pending inner amid.0 amid.1 due))
      by_ending (Failed came faults) is =
          subst (λ e. Amid sizes (control_worked sizes pass e pass.control) steps (either_of pending (call_refusal work.cell e))) (sym is)
          (subst (λ c. Amid sizes (control_worked sizes pass (Failed came faults) c) steps (either_of pending (call_refusal work.cell (Failed came faults)))) (sym at) (failed_on sizes steps values batch work pending came faults inner amid.0 amid.1 due))
      by_ending Refused is =
          subst (λ e. Amid sizes (control_worked sizes pass e pass.control) steps (either_of pending (call_refusal work.cell e))) (sym is)
          (subst (λ c. Amid sizes (control_worked sizes pass Refused c) steps (either_of pending (call_refusal work.cell Refused))) (sym at)
          (refused_on sizes steps values batch work pending inner amid.0 amid.1 due (subst (CallMayLeave (values work.cell) work.job) is may.leaves)))
  work_on values pass work pending Idle at amid may = absurd (subst (CallDue sizes values pass work) at may.due)
  work_on values pass work pending control at amid may = absurd amid

  pub works_on : (works : List Work) (values : Values) (pass : Pass) (pending : Option CleanRefusal) → Amid sizes pass.control steps pending → AreDue sizes values pass works
      → Amid sizes (pass_worked sizes works pass).control steps (either_of pending (calls_refusal works))
  works_on [] values pass pending amid due = subst (Amid sizes pass.control steps) (sym (either_none pending)) amid
  works_on (work ∷ later) values pass pending amid due =
      subst (Amid sizes (pass_worked sizes later (worked sizes work pass)).control steps) (sym (either_assoc pending (call_refusal work.cell work.ending) (calls_refusal later)))
      (works_on later (values_worked pass work values) (worked sizes work pass) (either_of pending (call_refusal work.cell work.ending)) (work_on values pass work pending pass.control refl amid due.0) due.1)

-- ---- device calls leave a batch at hand

-- where it may stand amid its device calls, and behind them
abbrev pub IsMid : CleanerControl → Type 0
IsMid (cleaner.HoldEntry i) = Unit {0}
IsMid (cleaner.ReadPiece i) = Unit {0}
IsMid (WriteBack i) = Unit {0}
IsMid (CleanEntry i) = Unit {0}
IsMid (SyncStores files) = Unit {0}
IsMid (MoveHeaderTail count) = Unit {0}
IsMid (FreeEntry number) = Unit {0}
IsMid (SetStop held) = Unit {0}
IsMid (RefusedReturnEntry i end) = i ≡ 0
IsMid inner = ⊥

abbrev pub IsMidOf : Batch → Control → Type 0
IsMidOf batch (Cleaning other inner) = (other ≡ batch) × IsMid inner
IsMidOf batch control = ⊥

module _ (batch : Batch) where
  mid_on : (other : Batch) → other ≡ batch → (ending : CallEnding) (inner : CleanerControl) → IsMid inner → IsMidOf batch (after_cleaner_work other ending inner)
  mid_on other same Made (cleaner.ReadPiece i) mid = (same, tt)
  mid_on other same Made (WriteBack i) mid = if_both (IsMidOf batch) (i + 1 == length other.pages) (Cleaning other (CleanEntry 0)) (Cleaning other (cleaner.HoldEntry (i + 1))) (λ e. (same, tt)) (λ e. (same, tt))
  mid_on other same Made (SyncStores (file ∷ rest)) mid = go rest
    where
      go : (files : List ℕ) → IsMidOf batch (syncing other files)
      go [] = (same, tt)
      go (one ∷ later) = (same, tt)
  mid_on other same Made (MoveHeaderTail count) mid =
      if_both (IsMidOf batch) (count + 1 == length (tail_steps other.reached)) (Cleaning other (FreeEntry other.tail)) (Cleaning other (MoveHeaderTail (count + 1))) (λ e. (same, tt)) (λ e. (same, tt))
  mid_on other same Made inner mid = (same, mid)
  mid_on other same (Failed came faults) (cleaner.ReadPiece i) mid = (same, tt)
  mid_on other same (Failed came faults) (WriteBack i) mid = (same, tt)
  mid_on other same (Failed came faults) inner mid = (same, tt)
  mid_on other same Refused (WriteBack i) mid = (same, refl)
  mid_on other same Refused inner mid = (same, mid)

  work_mid : (sizes : Sizes) (pass : Pass) (ending : CallEnding) (control : Control) → IsMidOf batch control → IsMidOf batch (control_worked sizes pass ending control)
  work_mid sizes pass Made (Cleaning other inner) mid = mid_on other mid.0 Made inner mid.1
  work_mid sizes pass (Failed came faults) (Cleaning other inner) mid = mid_on other mid.0 (Failed came faults) inner mid.1
  work_mid sizes pass Refused (Cleaning other inner) mid = mid_on other mid.0 Refused inner mid.1
  work_mid sizes pass ending control mid = absurd mid

  pub works_mid : (sizes : Sizes) (works : List Work) (pass : Pass) → IsMidOf batch pass.control → IsMidOf batch (pass_worked sizes works pass).control
  works_mid sizes [] pass mid = mid
  works_mid sizes (work ∷ later) pass mid = works_mid sizes later (worked sizes work pass) (work_mid sizes pass work.ending pass.control mid)

-- there are none where none is due
pub none_due : (sizes : Sizes) (works : List Work) (values : Values) (pass : Pass) (control : Control) → pass.control ≡ control → ((kept : Values) (work : Work) → CallDue sizes kept pass work control → ⊥) → AreDue sizes values pass works → works ≡ []
none_due sizes [] values pass control at none due = refl
none_due sizes (work ∷ later) values pass control at none due = absurd (none values work (subst (CallDue sizes values pass work) at due.0.due))

-- ---- a step

the_cleaner_op : CleanerOp → Op → CleanerOp
the_cleaner_op other (ByCleaner op) = op
the_cleaner_op other op = other

no_entry : (op : CleanerOp) (batch : Batch) (inner : CleanerControl) → IsBatchEntry (ByCleaner op) (Cleaning batch inner) → ⊥
no_entry (TakeCleaner most) batch inner entry = entry
no_entry op batch inner entry = entry

entry_is : (op : CleanerOp) → IsBatchEntry (ByCleaner op) Idle → (most : ℕ) × (op ≡ TakeCleaner most)
entry_is (TakeCleaner most) entry = (most, refl)
entry_is op entry = absurd entry

next_is : (one : Option CleanerOp) (op : CleanerOp) → option_map (λ cleaner_op. ByCleaner cleaner_op) one ≡ Some (ByCleaner op) → one ≡ Some op
unfolding the_cleaner_op
next_is None op is = absurd (cc)
next_is (Some one) op is = go is
  where
    go : ◌≡◌ {A = Option Op} (Some (ByCleaner one)) (Some (ByCleaner op)) → ◌≡◌ {A = Option CleanerOp} (Some one) (Some op)
    go e = let same : one ≡ op = cc in ap Some same

module _ (sound : RunsAreSound) (tell : OwnEventsTell) (old new : PassState) (works : List Work) (op : CleanerOp) (found : ℕ)
    (taken : HasTaken record { opens = None; works = works; op = ByCleaner op; found = found } old new) (mount : IsMount (mount_of old.view.opened)) where
  abbrev pub one_step : PassStep
  one_step = record { opens = None; works = works; op = ByCleaner op; found = found }

  abbrev before : PassView
  before = taken.before.view

  abbrev step_sizes : Sizes
  step_sizes = before.opened.sizes

  pub is_made : IsMadeAt before taken.stepped.steps.run taken.stepped.works None (ByCleaner op) found
  is_made = made_at sound tell before new.view taken.stepped.works None (ByCleaner op) found (subst (λ (v : PassView). IsMount (mount_of v.opened)) (sym taken.between.view) mount) taken.stepped.steps

  abbrev pub mid_pass : Pass
  mid_pass = pass_worked step_sizes taken.stepped.works (pass_of before)

  pub by_core : (batch : Batch) (inner : CleanerControl) → mid_pass.control ≡ Cleaning batch inner → next_cleaner_op step_sizes mid_pass.owned batch inner ≡ Some op
  by_core batch inner at = elim (subst (λ (p : Pass). (next_step step_sizes is_made.core.values p ≡ Some (ByCleaner op)) ⊎ IsBatchEntry (ByCleaner op) p.control) is_made.own is_made.may.may) [
    | inl next ↦ next_is (next_cleaner_op step_sizes mid_pass.owned batch inner) op (sym (ap (step_at step_sizes is_made.core.values mid_pass) at) ∙ next)
    | inr entry ↦ absurd (no_entry op batch inner (subst (IsBatchEntry (ByCleaner op)) at entry))
  ]

  module _ (steps : List PassStep) where
    -- the core's state in which it was made
    pub at_core : (batch : Batch) (inner : CleanerControl) → mid_pass.control ≡ Cleaning batch inner → (is_made.core.passes before.number).control ≡ Cleaning batch inner
    at_core batch inner at = ap (λ (p : Pass). p.control) is_made.own ∙ at

    pub told_then : (batch : Batch) (inner : CleanerControl) → mid_pass.control ≡ Cleaning batch inner → TellsAt step_sizes batch inner steps → PendingAt inner (calls_refusal works) → Tells step_sizes (pass_of new.view).control (one_step ∷ steps)
    told_then batch inner at t pending =
        subst (λ c. Tells step_sizes c (one_step ∷ steps)) (sym (ap (λ (p : Pass). p.control) taken.stepped.pass ∙ ap (after_by_cleaner step_sizes (moved (cleaner_move step_sizes op found) mid_pass.owned) op found) at))
        (tells_on step_sizes (mount_of before.opened).values is_made.core before.number is_made.sound batch steps None works found (moved (cleaner_move step_sizes op found) mid_pass.owned) inner
        (at_core batch inner at) t pending op (ap (λ (p : Pass). next_cleaner_op step_sizes p.owned batch inner) is_made.own ∙ by_core batch inner at))

    -- ---- why the batch is refused, as its machine notes it

    abbrev Says : (was : Option CleanRefusal) → Option CleanRefusal
    Says was = either_of was (refused_by step_sizes (cleans_in steps) (tail_in steps) works (ByCleaner op) found)

    silent : (was : Option CleanRefusal) (one : CleanerOp) → refused_by step_sizes (cleans_in steps) (tail_in steps) works (ByCleaner one) found ≡ None → Some one ≡ Some op → was ≡ Says was
    silent was one none is =
        sym (ap (either_of was) (ap (λ o. refused_by step_sizes (cleans_in steps) (tail_in steps) works (ByCleaner o) found) (cleaner_op_is one op is) ∙ none) ∙ either_none was)

    by_one : (was said : Option CleanRefusal) (one : CleanerOp) → said ≡ either_of was (refused_by step_sizes (cleans_in steps) (tail_in steps) works (ByCleaner one) found) → Some one ≡ Some op → said ≡ Says was
    by_one was said one so is = so ∙ sym (ap (λ o. either_of was (refused_by step_sizes (cleans_in steps) (tail_in steps) works (ByCleaner o) found)) (cleaner_op_is one op is))

    busy_same : (f b : Bool) (was : Option CleanRefusal) (refusal : CleanRefusal) → (if f then was else either_of was (if b then Some refusal else None)) ≡ either_of was (if not b then None else (if f then None else Some refusal))
    busy_same true true was refusal = sym (either_none was)
    busy_same true false was refusal = sym (either_none was)
    busy_same false true was refusal = refl
    busy_same false false was refusal = refl

    busy : (batch : Batch) (was : Option CleanRefusal) (cell : Word) → cleans_in steps ≡ has_passed batch → unless_free batch was found (place step_sizes cell) ≡ either_of was (unless_cleaned (cleans_in steps) (busy_at step_sizes cell found))
    busy batch was cell cleaned =
        busy_same (found == 0) (batch.reached == batch.tail) was (Busy (place step_sizes cell)) ∙ sym (ap (λ b. either_of was (unless_cleaned b (busy_at step_sizes cell found))) cleaned)

    first_same : (b : Bool) (was : Option CleanRefusal) (refusal : CleanRefusal) → either_of was (if b then Some refusal else None) ≡ either_of was (if not b then None else Some refusal)
    first_same true was refusal = refl
    first_same false was refusal = refl

    module _ (batch : Batch) (was : Option CleanRefusal) where
      -- what is told of the next ENTRY
      module _ (i : ℕ) (t : TellsAt step_sizes batch (cleaner.LoadEntry i) steps) where
        abbrev slot : ℕ
        slot = slot_of_entry step_sizes (batch.reached + i)

        abbrev told : (cleaned here loaded : Bool) → Option CleanRefusal
        told cleaned here loaded = either_of was (if cleaned then None else (if here && not loaded then Some (IdleRefusal (tail_in steps)) else None))

        abbrev noted : (first ends : Bool) → Option CleanRefusal
        noted first ends = if ends then either_of was (if first then Some (IdleRefusal batch.tail) else None) else was

        noted_later : (ends : Bool) → noted false ends ≡ was
        noted_later true = either_none was
        noted_later false = refl

        noted_first : (k : Bool) → noted true (not k) ≡ told false true k
        noted_first true = sym (either_none was)
        noted_first false = ap (λ tail. either_of was (Some (IdleRefusal tail))) (sym t.0.tail_is)

        passes : (k : Bool) → k && true ≡ k
        passes true = refl
        passes false = refl

        may_pass_is : (batch.reached == batch.tail) ≡ true → may_pass batch found ≡ (kind_of found == ready)
        may_pass_is first = ap (λ b. kind_of found == ready && (b || nat_le (batch.reached + count_of found) (batch.tail + batch.most))) first ∙ passes (kind_of found == ready)

        looked : (batch.reached ≡ batch.tail → (i == 0) ≡ false → (slot == slot_of_entry step_sizes batch.tail) ≡ false)
            → noted (batch.reached == batch.tail) (i == 0 && not (may_pass batch found)) ≡ told (cleans_in steps) (slot == slot_of_entry step_sizes (tail_in steps)) (kind_of found == ready)
        looked far = by_first (batch.reached == batch.tail) refl
          where
            by_place : (batch.reached == batch.tail) ≡ true → (b : Bool) → (i == 0) ≡ b → noted true (i == 0 && not (may_pass batch found)) ≡ told false (slot == slot_of_entry step_sizes (tail_in steps)) (kind_of found == ready)
            by_place first true leader =
                let same_number : batch.reached + i ≡ batch.tail = let none = eqb-true i 0 leader in let e = eqb-true batch.reached batch.tail first in omega (arith, none, e) in
                let here : (slot == slot_of_entry step_sizes (tail_in steps)) ≡ true = eq-eqb slot (slot_of_entry step_sizes (tail_in steps)) (ap (slot_of_entry step_sizes) (same_number ∙ sym t.0.tail_is)) in
                ap₂ (λ z k. noted true (z && not k)) leader (may_pass_is first) ∙ noted_first (kind_of found == ready) ∙ sym (ap (λ h. told false h (kind_of found == ready)) here)
            by_place first false other =
                ap (λ z. noted true (z && not (may_pass batch found))) other ∙ sym (either_none was)
                ∙ sym (ap (λ h. told false h (kind_of found == ready)) (ap (λ tail. slot == slot_of_entry step_sizes tail) t.0.tail_is ∙ far (eqb-true batch.reached batch.tail first) other))

            by_first : (b : Bool) → (batch.reached == batch.tail) ≡ b → noted (batch.reached == batch.tail) (i == 0 && not (may_pass batch found)) ≡ told (cleans_in steps) (slot == slot_of_entry step_sizes (tail_in steps)) (kind_of found == ready)
            by_first true first =
                ap (λ b. noted b (i == 0 && not (may_pass batch found))) first ∙ by_place first (i == 0) refl
                ∙ sym (ap (λ c. told c (slot == slot_of_entry step_sizes (tail_in steps)) (kind_of found == ready)) (t.0.cleaned_is ∙ ap not first))
            by_first false later =
                ap (λ b. noted b (i == 0 && not (may_pass batch found))) later ∙ noted_later (i == 0 && not (may_pass batch found)) ∙ sym (either_none was)
                ∙ sym (ap (λ c. told c (slot == slot_of_entry step_sizes (tail_in steps)) (kind_of found == ready)) (t.0.cleaned_is ∙ ap not later))

      end_same : (f b : Bool) (refusal : CleanRefusal) → b ≡ true → (if f then was else either_of was (if b then Some refusal else None)) ≡ either_of was (if f then None else Some refusal)
      end_same true b refusal e = sym (either_none was)
      end_same false b refusal e = ap (λ b. either_of was (if b then Some refusal else None)) e

      not_false : (b : Bool) → not b ≡ false → b ≡ true
      not_false true is = refl
      not_false false is = absurd (cc)

      abbrev Stands : CleanerControl → Type 0
      Stands inner = mid_pass.control ≡ Cleaning batch inner

      first_stop : Stands cleaner.LoadStop → (batch.reached == batch.tail) ≡ true
      first_stop at =
          not_false (batch.reached == batch.tail) (unpassed step_sizes (mount_of before.opened).values is_made.core before.number is_made.sound batch steps None works found [] cleaner.LoadStop (at_core batch cleaner.LoadStop at) tt)

      far_away : (i : ℕ) → Stands (cleaner.LoadEntry (suc i)) → batch.reached ≡ batch.tail → (slot_of_entry step_sizes (batch.reached + suc i) == slot_of_entry step_sizes batch.tail) ≡ false
      far_away i at =
          elsewhere step_sizes (mount_of before.opened).values is_made.core before.number is_made.sound batch steps None works found [] i (at_core batch (cleaner.LoadEntry (suc i)) at)

      same_head : TellsAt step_sizes batch LoadHead steps
          → (if nat_lt batch.reached found then was else either_of was (if batch.reached == batch.tail then Some (IdleRefusal batch.tail) else None)) ≡ either_of was (if nat_lt (tail_in steps) found then None else Some (IdleRefusal (tail_in steps)))
      same_head t =
          end_same (nat_lt batch.reached found) (batch.reached == batch.tail) (IdleRefusal batch.tail) (eq-eqb batch.reached batch.tail t.1)
          ∙ ap₂ (λ low tail. either_of was (if nat_lt low found then None else Some (IdleRefusal tail))) (t.1 ∙ sym t.0.tail_is) (sym t.0.tail_is)

      pub same_said : (control : CleanControl) → IsPlain control → Stands (inner_at step_sizes batch control) → TellsAt step_sizes batch (inner_at step_sizes batch control) steps → works ≡ [] → refusal_at step_sizes batch was control found ≡ Says was
      same_said cleans.TakeHeader plain at t none = by_one was _ (cleaner.Take HEADER) (busy batch was HEADER t.0.cleaned_is) (by_core batch TakeHeader at)
      same_said cleans.LoadStop plain at t none = by_one was _ (cleaner.Load STOP) (end_same (found == 0) (batch.reached == batch.tail) Stopped (first_stop at)) (by_core batch cleaner.LoadStop at)
      same_said cleans.LoadTail plain at t none = silent was (cleaner.Load TAIL) refl (by_core batch LoadTail at)
      same_said cleans.LoadHead plain at t none = by_one was _ (cleaner.Load HEAD) (same_head t) (by_core batch LoadHead at)
      same_said (cleans.LoadEntry zero) plain at t none =
          by_one was _ (cleaner.Load (ENTRY (slot_of_entry step_sizes (batch.reached + zero)))) (looked zero t (λ start never. absurd (cc))) (by_core batch (cleaner.LoadEntry zero) at)
      same_said (cleans.LoadEntry (suc i)) plain at t none =
          by_one was _ (cleaner.Load (ENTRY (slot_of_entry step_sizes (batch.reached + suc i)))) (looked (suc i) t (λ start other. far_away i at start)) (by_core batch (cleaner.LoadEntry (suc i)) at)
      same_said (cleans.TakeCleanup i) plain at t none = by_one was _ (cleaner.Take (CLEANUP (group_page batch i))) (busy batch was (CLEANUP (group_page batch i)) t.0.cleaned_is) (by_core batch (cleaner.TakeCleanup i) at)
      same_said cleans.TakeStore plain at t none = by_one was _ (cleaner.Take (STORE (group_file step_sizes batch))) (busy batch was (STORE (group_file step_sizes batch)) t.0.cleaned_is) (by_core batch cleaner.TakeStore at)
      same_said (cleans.HoldEntry i) plain at t none = silent was (cleaner.Hold (batch.reached + i)) refl (by_core batch (cleaner.HoldEntry i) at)
      same_said (cleans.CleanEntry i) plain at t none = silent was (cleaner.Clean (batch.reached + i)) refl (by_core batch (cleaner.CleanEntry i) at)
      same_said (cleans.SubtractDirty i) plain at t none = silent was (cleaner.Subtract (group_page batch i)) refl (by_core batch (cleaner.SubtractDirty i) at)
      same_said (cleans.GiveCleanup i) plain at t none = silent was (cleaner.Give (CLEANUP (group_page batch i))) refl (by_core batch (cleaner.GiveCleanup i) at)
      same_said (cleans.ReturnEntry i end) plain at t none =
          silent was (cleaner.Return (batch.reached + i)) (ap (λ w. unless_cleaned (cleans_in steps) (calls_refusal w)) none ∙ unless_none (cleans_in steps)) (by_core batch (cleaner.RefusedReturnEntry i end) at)
      same_said (cleans.ReturnFailed i end) plain at t none =
          silent was (cleaner.Return (batch.reached + i)) (ap (λ w. unless_cleaned (cleans_in steps) (calls_refusal w)) none ∙ unless_none (cleans_in steps)) (by_core batch (cleaner.FailedReturnEntry i end) at)
      same_said (cleans.UndoCleanup i) plain at t none = silent was (cleaner.Give (CLEANUP (group_page batch i))) refl (by_core batch (cleaner.RefusedGiveCleanup i) at)
      same_said (cleans.FreeEntry number) plain at t none = silent was (cleaner.Free number) refl (by_core batch (FreeEntry number) at)
      same_said cleans.AdvanceTail plain at t none = silent was (cleaner.MoveTail batch.reached) refl (by_core batch cleaner.AdvanceTail at)
      same_said (cleans.GiveStore file) plain at t none =
          silent was (cleaner.Give (STORE file)) refl (by_core batch (cleaner.GiveStores (file ∷ files_from step_sizes batch (file + 1))) at)
      same_said cleans.GiveHeader plain at t none = silent was (cleaner.Give HEADER) refl (by_core batch cleaner.GiveHeader at)
      same_said cleans.GiveCleaner plain at t none = silent was (cleaner.Give CLEANER) refl (by_core batch cleaner.GiveCleaner at)
      same_said cleans.GiveBack plain at t none =
          let gave = last_give mid_pass.owned op (by_core batch cleaner.GiveBack at) in silent was (cleaner.Give gave.0) refl (ap Some (sym gave.1))
      same_said cleans.Begin plain at t none = absurd plain
      same_said (cleans.WriteBack i) plain at t none = absurd plain
      same_said cleans.Retire plain at t none = absurd plain
      same_said cleans.Over plain at t none = absurd plain

      -- ---- behind device calls

      -- what is noted then
      abbrev pub said_behind : (calls : Option CleanRefusal) → Option CleanRefusal
      said_behind None = was
      said_behind (Some RegionFault) = Some RegionFault
      said_behind (Some StoreFault) = Some StoreFault
      said_behind (Some refusal) = first_refusal batch was refusal

      quietly : (one : CleanerOp) → calls_refusal works ≡ None → refused_by step_sizes (cleans_in steps) (tail_in steps) works (ByCleaner one) found ≡ None → Some one ≡ Some op → said_behind (calls_refusal works) ≡ Says was
      quietly one well none is = ap said_behind well ∙ silent was one none is

      faulty : (calls : Option CleanRefusal) → is_fault calls ≡ true → was ≡ None → said_behind calls ≡ either_of was calls
      faulty (Some RegionFault) fault none = sym (ap (λ w. either_of w (Some RegionFault)) none)
      faulty (Some StoreFault) fault none = sym (ap (λ w. either_of w (Some StoreFault)) none)
      faulty (Some NoMemory) fault none = absurd (cc)
      faulty (Some Stopped) fault none = absurd (cc)
      faulty (Some (IdleRefusal n)) fault none = absurd (cc)
      faulty (Some (Busy n)) fault none = absurd (cc)
      faulty None fault none = absurd (cc)

      pub behind_said : (inner : CleanerControl) → Stands inner → IsMid inner → TellsAt step_sizes batch inner steps → PendingAt inner (calls_refusal works) → was ≡ refusal_in step_sizes steps → said_behind (calls_refusal works) ≡ Says was
      behind_said (cleaner.HoldEntry i) at mid t pending same = quietly (cleaner.Hold (batch.reached + i)) pending refl (by_core batch (cleaner.HoldEntry i) at)
      behind_said (CleanEntry i) at mid t pending same = quietly (cleaner.Clean (batch.reached + i)) pending refl (by_core batch (CleanEntry i) at)
      behind_said (FreeEntry number) at mid t pending same = quietly (cleaner.Free number) pending refl (by_core batch (FreeEntry number) at)
      behind_said (SetStop held) at mid t pending same =
          by_one was _ cleaner.Stop (faulty (calls_refusal works) pending (same ∙ no_some (refusal_in step_sizes steps) t.0.refused_is)) (by_core batch (SetStop held) at)
        where
          no_some : (o : Option CleanRefusal) → is_some o ≡ false → o ≡ None
          no_some None is = refl
          no_some (Some refusal) is = absurd (cc)
      behind_said (RefusedReturnEntry i end) at mid t pending same =
          by_one was _ (cleaner.Return (batch.reached + i))
          (ap said_behind (pending.0 mid) ∙ first_same (batch.reached == batch.tail) was NoMemory
          ∙ sym (ap₂ (λ c r. either_of was (unless_cleaned c r)) t.0.cleaned_is (pending.0 mid))) (by_core batch (RefusedReturnEntry i end) at)
      behind_said (cleaner.ReadPiece i) at mid t pending same = let none = by_core batch (cleaner.ReadPiece i) at in absurd (cc)
      behind_said (WriteBack i) at mid t pending same = let none = by_core batch (WriteBack i) at in absurd (cc)
      behind_said (SyncStores files) at mid t pending same = let none = by_core batch (SyncStores files) at in absurd (cc)
      behind_said (MoveHeaderTail count) at mid t pending same = let none = by_core batch (MoveHeaderTail count) at in absurd (cc)
      behind_said inner at mid t pending same = absurd mid
