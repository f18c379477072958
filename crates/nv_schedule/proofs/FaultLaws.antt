-- Faults: a step tells of the device calls that lie before it whether one of them has failed.
use Rattle.std.proofs.Common.{◌≡◌, ℕ, ◌+◌, ◌||◌, ◌&&◌, not, ◌⊎◌, Bool, true, false, List, [], ◌∷◌, inl, inr, refl, sym, ap, subst, ◌∙◌}
use Rattle.std.specs.Prelude.{Option, Some, None, Err, is_some}
use Rattle.nv_plain.specs.declared.call.FileCall.{FileCall}
use Rattle.nv_core.specs.invariant.InvariantLaws.{RunsAreSound}
use Rattle.nv_core.specs.state.Cleaner.{Batch, CleanerControl, WriteBack, SyncStores, MoveHeaderTail}
use Rattle.nv_core.specs.state.Cleaner as cleaner
use Rattle.nv_core.specs.state.Core.{control_worked, values_worked, worked}
use Rattle.nv_core.specs.state.Passes.{Control, CommitGroup, Cleaning, Pass, PledgePage, ReadPiece, ReadStore, first_page}
use Rattle.nv_core.specs.state.Values.{CallEnding, Failed, Made, PageRead, PartStep, PieceRead, Refused, StoreSync, Value, APart, AStore}
use Rattle.nv_core.specs.state.Words.{Sizes, STORE, Word}
use Rattle.nv_core.specs.steps.Events.{Act, Event}
use Rattle.nv_core.specs.steps.Frames.{OwnEventsTell}
use Rattle.nv_core.specs.steps.Opening.{IsMount}
use Rattle.nv_core.specs.steps.Ops.{Op, ByCleaner, Split, PutBack, Join}
use Rattle.nv_core.specs.steps.Order.{CallDue, CallMayLeave, CleanerCallDue, Enabled, Values, Work, page_start}
use Rattle.nv_core.specs.state.Spares.{Spares}
use Rattle.nv_core.proofs.state.Choices.{if_both}
use Rattle.nv_core.proofs.steps.AtCall.{IsAtCall, IsOfCall, at_call, to_call}
use Rattle.nv_core.proofs.steps.NextSteps.{next_steps_may_come}
use Rattle.nv_pmem.specs.Steps.{LineStep}
use Rattle.nv_table.specs.invariant.Idle.{IsIdle}
use Rattle.nv_table.specs.state.Opened.{Opened, mount_of}
use Rattle.nv_table.specs.state.States.{PassState}
use Rattle.nv_table.specs.state.Views.{PassView, pass_of, values_of}
use Rattle.nv_table.specs.steps.SeatSteps.{AreDue, act_of, events, pass_before}
use Rattle.nv_table.proofs.invariant.StepAt.{IsMadeAt, made_at}
use Rattle.nv_table.proofs.steps.RunsOn.{IsPlain, step_of}
use Rattle.nv_mirror.specs.OwnSteps.{is_own}
use Rattle.nv_mirror.specs.PassSteps.{HasTaken, PassStep, either_of, fault_at, fault_by, fault_in}
use Rattle.nv_mirror.specs.declared.answers.Refusal.{Refusal}
use Rattle.nv_calls.specs.calls.Advances.{IsOneOrNone, Standing}
use Rattle.nv_calls.specs.declared.progress.Progress.{Progress}
use Rattle.nv_calls.specs.declared.progress.Progress.TheVariants.{Ended}
use Rattle.nv_clean.specs.CleanSteps.{HasMadeOne, is_fault}
use Rattle.nv_clean.specs.Cleaning.{CleanState, call_refusal, calls_refusal}
use Rattle.nv_clean.specs.declared.batch.CleanRefusal.{CleanRefusal}
use Rattle.nv_schedule.specs.Faults.{FailOnlyCut, has_failed, is_failed, some_failed, some_fails}
use Rattle.nv_schedule.specs.Hands.{IsOneOrNoStep}

-- ---- events

act_fails_not : (opens : Option FileCall) (op : Op) (found : ℕ) → has_failed (act_of opens op found) ≡ false
act_fails_not None op found = refl
act_fails_not (Some call) op found = refl

works_fail : (number : ℕ) (works : List Work) (act : Act) → has_failed act ≡ false → some_fails (events number works act) ≡ some_failed works
works_fail number [] act not = ap (λ b. b || false) not
works_fail number (work ∷ later) act not = ap (λ b. is_failed work.ending || b) (works_fail number later act not)

pub step_fails : (number : ℕ) (step : PassStep) → some_fails (events number step.works (act_of step.opens step.op step.found)) ≡ some_failed step.works
step_fails number step = works_fail number step.works (act_of step.opens step.op step.found) (act_fails_not step.opens step.op step.found)

-- ---- the device calls of a call

first_some : (one other : Option Refusal) → is_some one ≡ true → true ≡ is_some (either_of one other)
first_some (Some refusal) other some = refl
first_some None other some = absurd (cc)

-- one that ended so tells it, and what comes behind it
abbrev TellsCall : Word → (later : List Work) → CallEnding → Type 0
TellsCall cell later ending = (is_failed ending || some_failed later) ≡ is_some (either_of (fault_by cell ending) (fault_in later))

module _ (sizes : Sizes) where
  -- one that fails is on the part of an entry, or on a store
  fails_there : (values : Values) (pass : Pass) (work : Work) (came : Bool) (faults : ℕ) (control : Control) → IsAtCall control → CallDue sizes values pass work control → is_some (fault_by work.cell (Failed came faults)) ≡ true
  fails_there values pass work came faults (CommitGroup calls) at due = ap (λ cell. is_some (fault_at cell)) due.cell
  fails_there values pass work came faults (ReadStore page dirty) at due = ap (λ cell. is_some (fault_at cell)) due.cell
  fails_there values pass work came faults (ReadPiece page number) at due = ap (λ cell. is_some (fault_at cell)) due.cell
  fails_there values pass work came faults (Cleaning batch inner) at due = absurd at
  fails_there values pass work came faults control at due = absurd due

  stays_at_call : (pass : Pass) (ending : CallEnding) (control : Control) → IsAtCall control → IsAtCall (control_worked sizes pass ending control)
  stays_at_call pass Made (CommitGroup calls) at = if_both IsAtCall _ (PledgePage (first_page sizes pass.call)) (CommitGroup (calls + 1)) (λ _. tt) (λ _. tt)
  stays_at_call pass Made (ReadStore page dirty) at = tt
  stays_at_call pass Made (ReadPiece page number) at = tt
  stays_at_call pass (Failed came faults) (CommitGroup calls) at = tt
  stays_at_call pass (Failed came faults) (ReadStore page dirty) at = tt
  stays_at_call pass (Failed came faults) (ReadPiece page number) at = tt
  stays_at_call pass ending (Cleaning batch inner) at = absurd at
  stays_at_call pass Made control at = at
  stays_at_call pass (Failed came faults) control at = at
  stays_at_call pass Refused control at = at

  call_fails : (works : List Work) (values : Values) (pass : Pass) → IsAtCall pass.control → AreDue sizes values pass works → some_failed works ≡ is_some (fault_in works)
  call_fails [] values pass at due = refl
  call_fails (work ∷ later) values pass at due = by (call_fails later (values_worked pass work values) (worked sizes work pass) (stays_at_call pass work.ending pass.control at) due.1) work.ending refl
    where
      by : some_failed later ≡ is_some (fault_in later) → (ending : CallEnding) → work.ending ≡ ending → TellsCall work.cell later work.ending
      by rest Made is = subst (TellsCall work.cell later) (sym is) rest
      by rest (Failed came faults) is = subst (TellsCall work.cell later) (sym is) (first_some (fault_by work.cell (Failed came faults)) (fault_in later) (fails_there values pass work came faults pass.control at due.0.due))
      by rest Refused is = subst (TellsCall work.cell later) (sym is) rest

-- ---- those of a batch

part_takes : (value : Value) (step : LineStep) (spares : Spares) → CallMayLeave value (PartStep step spares) Refused → ⊥
part_takes (APart device before) step spares leaves = leaves
part_takes (AStore device) step spares leaves = leaves
part_takes value step spares leaves = leaves

page_takes : (value : Value) (at : ℕ) (bytes : List ℕ) → CallMayLeave value (PageRead at bytes) Refused → ⊥
page_takes (APart device before) at bytes leaves = leaves
page_takes (AStore device) at bytes leaves = leaves
page_takes value at bytes leaves = leaves

piece_takes : (value : Value) (at : ℕ) (bytes : List ℕ) → CallMayLeave value (PieceRead at bytes) Refused → ⊥
piece_takes (APart device before) at bytes leaves = leaves
piece_takes (AStore device) at bytes leaves = leaves
piece_takes value at bytes leaves = leaves

sync_takes : (value : Value) → CallMayLeave value StoreSync Refused → ⊥
sync_takes (APart device before) leaves = leaves
sync_takes (AStore device) leaves = leaves
sync_takes value leaves = leaves

module _ (sizes : Sizes) where
  -- none comes where none is due
  pub none_comes : (works : List Work) (values : Values) (pass : Pass) (control : Control) → pass.control ≡ control → ((kept : Values) (work : Work) → CallDue sizes kept pass work control → ⊥) → AreDue sizes values pass works → works ≡ []
  none_comes [] values pass control at none due = refl
  none_comes (work ∷ later) values pass control at none due = absurd (none values work (subst (CallDue sizes values pass work) at due.0.due))

  module _ (values : Values) (pass : Pass) (work : Work) (later : List Work) (leaves : CallMayLeave (values work.cell) work.job Refused) (is : work.ending ≡ Refused) (due : AreDue sizes (values_worked pass work values) (worked sizes work pass) later) where
    -- one that a store refused for want of memory is the last one
    refused_last : (control : Control) → pass.control ≡ control → CallDue sizes values pass work control → later ≡ []
    refused_last (CommitGroup calls) at one = absurd (part_takes (values work.cell) one.row.step one.spares (subst (λ job. CallMayLeave (values work.cell) job Refused) one.job leaves))
    refused_last (ReadStore page dirty) at one = absurd (page_takes (values work.cell) (page_start sizes pass.call page) one.bytes (subst (λ job. CallMayLeave (values work.cell) job Refused) one.job leaves))
    refused_last (ReadPiece page number) at one = absurd (piece_takes (values work.cell) one.at one.bytes (subst (λ job. CallMayLeave (values work.cell) job Refused) one.job leaves))
    refused_last (Cleaning batch inner) at one = inside inner at one
      where
        inside : (inner : CleanerControl) → pass.control ≡ Cleaning batch inner → CleanerCallDue sizes values batch work inner → later ≡ []
        inside (cleaner.ReadPiece i) at one = absurd (piece_takes (values work.cell) one.at one.bytes (subst (λ job. CallMayLeave (values work.cell) job Refused) one.job leaves))
        inside (WriteBack i) at one =
            none_comes later (values_worked pass work values) (worked sizes work pass) (Cleaning batch (cleaner.RefusedReturnEntry 0 (i + 1)))
            (ap (λ e. control_worked sizes pass e pass.control) is ∙ ap (control_worked sizes pass Refused) at) (λ kept next next_due. next_due) due
        inside (SyncStores (file ∷ rest)) at one = absurd (sync_takes (values work.cell) (subst (λ job. CallMayLeave (values work.cell) job Refused) one.1 leaves))
        inside (MoveHeaderTail calls) at one = absurd (part_takes (values work.cell) one.step one.spares (subst (λ job. CallMayLeave (values work.cell) job Refused) one.job leaves))
        inside inner at one = absurd one
    refused_last control at one = absurd one

-- one that ended so tells it, and what comes behind it
abbrev TellsClean : Word → (later : List Work) → CallEnding → Type 0
TellsClean cell later ending = (is_failed ending || some_failed later) ≡ is_fault (either_of (call_refusal cell ending) (calls_refusal later))

fault_first : (one other : Option CleanRefusal) → is_fault one ≡ true → true ≡ is_fault (either_of one other)
fault_first (Some refusal) other fault = sym fault
fault_first None other fault = absurd (cc)

fault_there : (came : Bool) (faults : ℕ) (cell : Word) → is_fault (call_refusal cell (Failed came faults)) ≡ true
fault_there came faults (STORE file) = refl
fault_there came faults cell = refl

clean_fails : (sizes : Sizes) (works : List Work) (values : Values) (pass : Pass) → AreDue sizes values pass works → some_failed works ≡ is_fault (calls_refusal works)
clean_fails sizes [] values pass due = refl
clean_fails sizes (work ∷ later) values pass due = by (clean_fails sizes later (values_worked pass work values) (worked sizes work pass) due.1) work.ending refl
  where
    by : some_failed later ≡ is_fault (calls_refusal later) → (ending : CallEnding) → work.ending ≡ ending → TellsClean work.cell later work.ending
    by rest Made is = subst (TellsClean work.cell later) (sym is) rest
    by rest (Failed came faults) is = subst (TellsClean work.cell later) (sym is) (fault_first (call_refusal work.cell (Failed came faults)) (calls_refusal later) (fault_there came faults work.cell))
    by rest Refused is =
        subst (TellsClean work.cell later) (sym is)
        (ap some_failed (refused_last sizes values pass work later (subst (CallMayLeave (values work.cell) work.job) is due.0.leaves) is due.1 pass.control refl due.0.due))

-- ---- a step

-- what is due of the pass before it
pub step_due : (step : PassStep) (old new : PassState) → HasTaken step old new → AreDue old.view.opened.sizes (values_of old.view) (pass_of old.view) step.works
step_due step old new taken =
    subst (λ (v : PassView). AreDue v.opened.sizes (values_of v) (pass_of v) step.works) taken.between.view
    (subst (AreDue taken.before.view.opened.sizes (values_of taken.before.view) (pass_of taken.before.view)) taken.works_are taken.stepped.due)

either_other : (one other : Option Refusal) → is_some one ≡ false → is_some (either_of one other) ≡ is_some other
either_other None other none = refl
either_other (Some refusal) other none = absurd (cc)

pub call_tells : {Machine : Type 0} (allowed : Type 0) (standing : Machine → Standing) (early : Option Refusal) (m next : Machine) (old new : PassState) (progress : Progress)
    → ((refusal : Refusal) → early ≡ Some refusal → progress ≡ Ended (Err refusal) → allowed) → IsOneOrNone standing early m next old new progress
    → IsAtCall (pass_of old.view).control → IsOneOrNoStep allowed (is_some (standing m).fault) (is_some (standing next).fault) old new
call_tells allowed standing early m next old new progress such (inl none) at = inl (none.same, ap (λ n. is_some (standing n).fault) none.stays, such none.refusal none.early_is none.answer)
call_tells allowed standing early m next old new progress such (inr one) at =
    inr (
      one.step,
      one.is,
      λ was.
          call_fails old.view.opened.sizes one.step.works (values_of old.view) (pass_of old.view) at (step_due one.step old new one.is)
          ∙ sym (ap is_some one.fault ∙ either_other (standing m).fault (fault_in one.step.works) was),
    )

pub batch_tells : (sizes : Sizes) (m next : CleanState) (old new : PassState) → HasMadeOne sizes m next old new → IsOneOrNoStep ⊥ (is_fault m.refusal) (is_fault next.refusal) old new
batch_tells sizes m next old new one =
    inr (
      one.step,
      one.taken,
      λ was.
          clean_fails old.view.opened.sizes one.step.works (values_of old.view) (pass_of old.view) (step_due one.step old new one.taken)
          ∙ sym (one.fault ∙ ap (λ b. b || is_fault (calls_refusal one.step.works)) was),
    )

-- the same with what it tells told otherwise
pub told_so : (allowed other : Type 0) (was was_so faulted faulted_so : Bool) (old new : PassState) → was ≡ was_so → faulted ≡ faulted_so → (allowed → other) → IsOneOrNoStep allowed was faulted old new → IsOneOrNoStep other was_so faulted_so old new
told_so allowed other was was_so faulted faulted_so old new same same_now such (inl none) = inl (none.0, sym same_now ∙ none.1 ∙ same, such none.2)
told_so allowed other was was_so faulted faulted_so old new same same_now such (inr one) = inr (one.0, one.1, λ not. one.2 (same ∙ not) ∙ same_now)

-- ---- a pass whose last step is one of a call

pub own_of_call : (call : FileCall) (refusal : Option Refusal) (op : Op) → is_own call refusal op ≡ true → IsOfCall op
own_of_call call None Split own = absurd (cc)
own_of_call call None (PutBack cell) own = absurd (cc)
own_of_call call None (Join number) own = absurd (cc)
own_of_call call None (ByCleaner op) own = absurd (cc)
own_of_call call (Some refusal) Split own = absurd (cc)
own_of_call call (Some refusal) (PutBack cell) own = absurd (cc)
own_of_call call (Some refusal) (Join number) own = absurd (cc)
own_of_call call (Some refusal) (ByCleaner op) own = absurd (cc)
own_of_call call refusal op own = tt

of_call_plain : (op : Op) → IsOfCall op → IsPlain op
of_call_plain Split of = absurd of
of_call_plain (PutBack cell) of = absurd of
of_call_plain (Join number) of = absurd of
of_call_plain op of = tt

-- so it is since a start, if it has made any step
abbrev pub IsBehindCall : (begun now : PassState) → Type 0
IsBehindCall begun now = (now ≡ begun) ⊎ ((step : PassStep) × (middle : PassState) × HasTaken step middle now × IsOfCall step.op)

-- then it is at no batch
module _ (sound : RunsAreSound) (tell : OwnEventsTell) (step : PassStep) (middle now : PassState) (taken : HasTaken step middle now) (of : IsOfCall step.op) (mount : IsMount (mount_of now.view.opened)) where
  abbrev seen : PassView
  seen = taken.before.view

  abbrev there : Pass
  there = pass_before seen step.opens taken.stepped.works

  come : IsMadeAt seen taken.stepped.steps.run taken.stepped.works step.opens step.op step.found
  come = made_at sound tell seen now.view taken.stepped.works step.opens step.op step.found (subst (λ (o : Opened). IsMount (mount_of o)) (ap (λ (v : PassView). v.opened) taken.stepped.steps.is) mount) taken.stepped.steps

  may : Enabled seen.opened.sizes come.core.values there step.op
  may = subst (λ p. Enabled seen.opened.sizes come.core.values p step.op) come.own (step_of seen.opened.sizes seen.number come.core step.op (of_call_plain step.op of) come.may.may)

  behind_step : IsAtCall (pass_of now.view).control
  behind_step =
      subst IsAtCall (sym (ap (λ (p : Pass). p.control) taken.stepped.pass))
      (to_call seen.opened.sizes there step.op step.found of (at_call seen.opened.sizes come.core.values there step.op of (next_steps_may_come seen.opened.sizes come.core.values there step.op may)))

pub behind_call : RunsAreSound → OwnEventsTell → (begun now : PassState) → IsIdle begun → IsMount (mount_of now.view.opened) → IsBehindCall begun now → IsAtCall (pass_of now.view).control
behind_call sound tell begun now idle mount (inl same) = subst (λ (p : PassState). IsAtCall (pass_of p.view).control) (sym same) (subst IsAtCall (sym idle.control) tt)
behind_call sound tell begun now idle mount (inr last) = behind_step sound tell last.0 last.1 now last.2 last.3 mount

-- ---- as long as no cut was reached

pub fails_only_cut : (cut faulted : Bool) (made : List Event) → (cut ≡ false → some_fails made ≡ faulted) → (cut ≡ false → faulted ≡ false) → FailOnlyCut cut made
fails_only_cut true faulted made failed whole = tt
fails_only_cut false faulted made failed whole = failed refl ∙ whole refl

pub met_fault : (cut faulted : Bool) → faulted && not cut ≡ true → (cut ≡ false) × (faulted ≡ true)
met_fault false true met = (refl, refl)
met_fault true true met = absurd (cc)
met_fault cut false met = absurd (cc)

pub unmet : (cut faulted : Bool) → faulted && not cut ≡ false → cut ≡ false → faulted ≡ false
unmet cut false not uncut = refl
unmet false true not uncut = absurd (cc)
unmet true true not uncut = absurd (cc)
