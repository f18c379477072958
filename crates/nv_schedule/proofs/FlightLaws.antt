-- Flights: the writes in flight of a caller's pass are its calls that are listed as open.
use Rattle.std.proofs.Common.{◌≡◌, ℕ, Bool, true, false, List, [], ◌∷◌, ◌++◌, if◌then◌else◌, refl, sym, ap, subst, ◌∙◌}
use Rattle.std.specs.Prelude.{Option, Some, None}
use Rattle.nv_plain.specs.declared.call.FileCall.{FileCall}
use Rattle.nv_core.specs.invariant.InvariantLaws.{RunsAreSound}
use Rattle.nv_core.specs.steps.Frames.{OwnEventsTell}
use Rattle.nv_core.specs.steps.Opening.{IsMount}
use Rattle.nv_core.specs.state.Passes.{Control, Fault, Pass, SeizeEntry, CommitGroup, PledgePage, ReadyEntry, TakePlace, SetStopAfterCommit, is_write}
use Rattle.nv_core.specs.steps.PassSteps.{fault_of}
use Rattle.nv_core.specs.steps.Ops.{Op}
use Rattle.nv_table.specs.passes.Seats.{after_passing}
use Rattle.nv_table.specs.invariant.Drawn.{drawn_at, drawn_by, inherited_of, lost_of, or_else}
use Rattle.nv_table.specs.invariant.Idle.{IsIdle}
use Rattle.nv_table.specs.state.Opened.{mount_of}
use Rattle.nv_table.specs.state.States.{PassState}
use Rattle.nv_table.specs.state.Views.{pass_of}
use Rattle.nv_mount.specs.WholeWrites.{at_hand}
use Rattle.nv_mirror.specs.Controls.{InCall, Mirror, MirroredControl, control_mirror, drawings, readings, mirrored_control}
use Rattle.nv_mirror.specs.PassSteps.{is_fault, refusal_in}
use Rattle.nv_mirror.specs.declared.answers.Refusal.{Refusal}
use Rattle.nv_calls.specs.histories.Faults.{OpenWrite, open_in, open_writes}
use Rattle.nv_runner.proofs.OpenRunLaws.{open_append}
use Rattle.nv_schedule.specs.Flights.{flights_of}
use Rattle.nv_schedule.proofs.KeptFaultLaws.{FaultedBy, call_faults}

-- ---- the writes in flight of a pass

abbrev pub open_flights : PassState → List OpenWrite
open_flights pass = open_in (flights_of (pass_of pass.view))

opens_one : (fault : Fault) (before : List Fault) → is_write fault.call ≡ true → open_in (fault ∷ before) ≡ record { call = fault.call; first = fault.first } ∷ open_in before
opens_one fault before is = ap (λ b. if b then record { call = fault.call; first = fault.first } ∷ open_in before else open_in before) is

opens_none : (fault : Fault) (before : List Fault) → is_write fault.call ≡ false → open_in (fault ∷ before) ≡ open_in before
opens_none fault before is = ap (λ b. if b then record { call = fault.call; first = fault.first } ∷ open_in before else open_in before) is

-- a step between passes leaves them
same_at_hand : (one other : Pass) → fault_of one ≡ fault_of other → (control : Control) → at_hand one control ≡ at_hand other control
same_at_hand one other same (SeizeEntry number) = ap (λ fault. fault ∷ []) same
same_at_hand one other same (CommitGroup calls) = ap (λ fault. fault ∷ []) same
same_at_hand one other same (PledgePage page) = ap (λ fault. fault ∷ []) same
same_at_hand one other same (ReadyEntry number) = ap (λ fault. fault ∷ []) same
same_at_hand one other same TakePlace = ap (λ fault. fault ∷ []) same
same_at_hand one other same SetStopAfterCommit = ap (λ fault. fault ∷ []) same
same_at_hand one other same control = refl

pub passing_flights : (op : Op) (pass then_ : Pass) → then_ ≡ after_passing op pass → flights_of then_ ≡ flights_of pass
passing_flights op pass then_ is = ap flights_of is ∙ ap (λ l. l ++ pass.faulted) (same_at_hand (after_passing op pass) pass refl pass.control)

-- one whose call is no write has none at hand
unwritten_at_hand : (pass : Pass) → is_write pass.call ≡ false → (control : Control) → open_in (at_hand pass control) ≡ []
unwritten_at_hand pass none (SeizeEntry number) = opens_none (fault_of pass) [] none
unwritten_at_hand pass none (CommitGroup calls) = opens_none (fault_of pass) [] none
unwritten_at_hand pass none (PledgePage page) = opens_none (fault_of pass) [] none
unwritten_at_hand pass none (ReadyEntry number) = opens_none (fault_of pass) [] none
unwritten_at_hand pass none TakePlace = opens_none (fault_of pass) [] none
unwritten_at_hand pass none SetStopAfterCommit = opens_none (fault_of pass) [] none
unwritten_at_hand pass none control = refl

-- a control state in which none is at hand
abbrev pub IsClear : Control → Type 0
IsClear control = ((pass : Pass) → at_hand pass control ≡ []) × ((first : ℕ) (write : Bool) (lost : Option ℕ) → drawn_at first write lost control ≡ lost)

-- and one in which a write is
abbrev pub IsAtHand : Control → Type 0
IsAtHand control = ((pass : Pass) → at_hand pass control ≡ fault_of pass ∷ []) × ((first : ℕ) (lost : Option ℕ) → drawn_at first true lost control ≡ Some first)

pub clear_flights : (pass : PassState) → IsClear (pass_of pass.view).control → open_flights pass ≡ open_writes pass
clear_flights pass clear = ap (λ l. open_in (l ++ (pass_of pass.view).faulted)) (clear.0 (pass_of pass.view))

pub idle_flights : (pass : PassState) → IsIdle pass → open_flights pass ≡ open_writes pass
idle_flights pass idle = ap (λ control. open_in (at_hand (pass_of pass.view) control ++ (pass_of pass.view).faulted)) idle.control

-- ---- of a call in mid-call

-- what a machine mirrors of a pass
pub record Shows {State : Type 0} (mirror : Mirror State) : Type 0 where
  pub shown : State → MirroredControl
  pub same : (pass : Pass) → shown (mirror.of pass) ≡ mirrored_control pass

abbrev pub shows_control : Shows control_mirror
shows_control = record { shown = λ is. is; same = λ pass. refl }

abbrev pub shows_drawing : Shows drawings
shows_drawing = record { shown = λ is. is.mirrored_control; same = λ pass. refl }

abbrev pub shows_reading : Shows readings
shows_reading = record { shown = λ is. is.mirrored_control; same = λ pass. refl }

-- In flight or not: it stands in front of the open writes of before, and its pass tells its number; or these are what they were.
abbrev pub FliesSo : (flies : Bool) → FileCall → (begun now : PassState) → Type 0
FliesSo true call begun now = (first : ℕ) × (open_flights now ≡ record { call = call; first = first } ∷ open_writes begun) × (drawn_by now.view ≡ Some first)
FliesSo false call begun now = open_flights now ≡ open_writes begun

-- a fault that came in it is that of a write
faulted_opens : (begun now : PassState) → (fault : Fault) → is_write fault.call ≡ true → (pass_of now.view).faulted ≡ fault ∷ (pass_of begun.view).faulted
    → open_writes now ≡ record { call = fault.call; first = fault.first } ∷ open_writes begun
faulted_opens begun now fault write is = ap open_in is ∙ opens_one fault (pass_of begun.view).faulted write

-- no write
unwritten_flights : (stops : Bool) (call : FileCall) (begun now : PassState) → is_write call ≡ false → (pass_of now.view).call ≡ call → FaultedBy stops begun now → open_flights now ≡ open_writes begun
unwritten_flights stops call begun now none same by =
    open_append (at_hand (pass_of now.view) (pass_of now.view).control) (pass_of now.view).faulted
    ∙ ap (λ l. l ++ open_writes now) (unwritten_at_hand (pass_of now.view) (ap is_write same ∙ none) (pass_of now.view).control) ∙ faults stops by
  where
    faults : (stops : Bool) → FaultedBy stops begun now → open_writes now ≡ open_writes begun
    faults true by = ap open_in by.2 ∙ opens_none by.0 (pass_of begun.view).faulted (ap is_write (by.1 ∙ same) ∙ none)
    faults false by = ap open_in by

-- a write that has none at hand: in flight where a fault has ended it
clear_flies : (stops : Bool) (call : FileCall) (begun now : PassState) → is_write call ≡ true → (pass_of now.view).call ≡ call → IsClear (pass_of now.view).control → FaultedBy stops begun now → FliesSo stops call begun now
clear_flies true call begun now write same clear by =
    let pass = pass_of now.view in
    let is_one : is_write by.0.call ≡ true = ap is_write (by.1 ∙ same) ∙ write in (
      by.0.first,
      clear_flights now clear ∙ faulted_opens begun now by.0 is_one by.2 ∙ ap (λ c. record { call = c; first = by.0.first } ∷ open_writes begun) (by.1 ∙ same),
      ap (λ lost. or_else lost (inherited_of now.view.opened now.view.ended)) (clear.1 pass.first (is_write pass.call) (lost_of pass.faulted) ∙ ap lost_of by.2 ∙ last by.0 (pass_of begun.view).faulted is_one),
    )
  where
    last : (fault : Fault) (before : List Fault) → is_write fault.call ≡ true → lost_of (fault ∷ before) ≡ Some fault.first
    last fault before is = ap (λ b. if b then Some fault.first else lost_of before) is
clear_flies false call begun now write same clear by = clear_flights now clear ∙ ap open_in by

-- one that has it at hand
at_hand_flies : (call : FileCall) (begun now : PassState) → is_write call ≡ true → (pass_of now.view).call ≡ call → IsAtHand (pass_of now.view).control → FaultedBy false begun now → FliesSo true call begun now
at_hand_flies call begun now write same hand by =
    let pass = pass_of now.view in
    let is_one : is_write pass.call ≡ true = ap is_write same ∙ write in (
      pass.first,
      ap (λ l. open_in (l ++ pass.faulted)) (hand.0 pass) ∙ opens_one (fault_of pass) pass.faulted is_one ∙ ap (λ c. record { call = c; first = pass.first } ∷ open_in pass.faulted) same
          ∙ ap (λ l. record { call = call; first = pass.first } ∷ open_in l) by,
      ap (λ b. or_else (drawn_at pass.first b (lost_of pass.faulted) pass.control) (inherited_of now.view.opened now.view.ended)) is_one
          ∙ ap (λ n. or_else n (inherited_of now.view.opened now.view.ended)) (hand.1 pass.first (lost_of pass.faulted)),
    )

-- ---- as its machine mirrors its pass

module _ {State : Type 0} (mirror : Mirror State) (shows : Shows mirror) (call : FileCall) (is : State) (refusal : Option Refusal) (place : Option ℕ) (begun now : PassState) (sound : RunsAreSound) (tell : OwnEventsTell)
    (mount : IsMount (mount_of begun.view.opened)) where
  shown_now : InCall mirror call None is refusal place begun now → mirrored_control (pass_of now.view) ≡ shows.shown is
  shown_now c = sym (shows.same (pass_of now.view)) ∙ ap shows.shown c.mirrors

  call_now : InCall mirror call None is refusal place begun now → (shows.shown is).call ≡ call → (pass_of now.view).call ≡ call
  call_now c is_call = ap (λ (m : MirroredControl). m.call) (shown_now c) ∙ is_call

  -- one that is to begin
  begins_flights : (one : FileCall) → InCall mirror call (Some one) is refusal place begun now → open_flights now ≡ open_writes begun
  begins_flights one c = ap open_flights c.fresh ∙ idle_flights begun c.idle

  pub unwritten_call : (opens : Option FileCall) → InCall mirror call opens is refusal place begun now → (shows.shown is).call ≡ call → is_write call ≡ false → open_flights now ≡ open_writes begun
  unwritten_call None c is_call none = unwritten_flights (is_fault refusal) call begun now none (call_now c is_call) (call_faults mirror call None is refusal place begun now sound tell mount c)
  unwritten_call (Some one) c is_call none = begins_flights one c

  pub clear_call : (opens : Option FileCall) → InCall mirror call opens is refusal place begun now → (shows.shown is).call ≡ call → is_write call ≡ true → IsClear (shows.shown is).control → FliesSo (is_fault refusal) call begun now
  clear_call None c is_call write clear =
      clear_flies (is_fault refusal) call begun now write (call_now c is_call) (subst IsClear (sym (ap (λ (m : MirroredControl). m.control) (shown_now c))) clear)
      (call_faults mirror call None is refusal place begun now sound tell mount c)
  clear_call (Some one) c is_call write clear =
      let none : None ≡ refusal = ap (refusal_in now.view.opened.sizes call) (sym c.own.1) ∙ c.refused in
      subst (λ r. FliesSo (is_fault r) call begun now) none (begins_flights one c)

  pub at_hand_call : InCall mirror call None is refusal place begun now → (shows.shown is).call ≡ call → is_write call ≡ true → is_fault refusal ≡ false → IsAtHand (shows.shown is).control → FliesSo true call begun now
  at_hand_call c is_call write mild hand =
      at_hand_flies call begun now write (call_now c is_call) (subst IsAtHand (sym (ap (λ (m : MirroredControl). m.control) (shown_now c))) hand)
      (subst (λ b. FaultedBy b begun now) mild (call_faults mirror call None is refusal place begun now sound tell mount c))
