-- Faults: by which steps a pass keeps one more fault, and so what calls make of its open writes.
use Rattle.std.proofs.Common.{◌≡◌, ◌⊎◌, inl, inr, ℕ, ◌||◌, Bool, true, false, if◌then◌else◌, List, [], ◌∷◌, length, refl, sym, ap, subst, ◌∙◌}
use Rattle.std.specs.Prelude.{Option, Some, None, Result, Ok, Err}
use Rattle.std.specs.List.{slice_get}
use Rattle.nv_plain.specs.Modes.{can_read, can_write}
use Rattle.nv_plain.specs.declared.call.FileCall.{FileCall}
use Rattle.nv_plain.specs.declared.call.FileCall.TheVariants.{Read, Write, Sync}
use Rattle.nv_plain.specs.declared.call.Reply.TheVariants.{Done as Replied}
use Rattle.nv_core.specs.state.Words.{Sizes, STOP, ORDER}
use Rattle.nv_core.specs.state.Passes.{Control, Fault, Pass, SetStopAfterRead, SetStopAfterPiece, SetStopAfterCommit, is_read, is_write, plain_call}
use Rattle.nv_core.specs.invariant.ControlFacts.{ControlFacts, FactsAt}
use Rattle.nv_core.specs.invariant.InvariantLaws.{RunsAreSound}
use Rattle.nv_core.specs.steps.Frames.{OwnEventsTell}
use Rattle.nv_core.specs.steps.Opening.{IsMount}
use Rattle.nv_core.specs.steps.Ops.{Op, Load, Place, Stop}
use Rattle.nv_core.specs.steps.Order.{Enabled, IsFailing, Work}
use Rattle.nv_core.specs.steps.PassSteps.{fault_of, faulted_after}
use Rattle.nv_core.proofs.steps.NextSteps.{next_steps_may_come}
use Rattle.nv_table.specs.state.Opened.{Opened, mount_of}
use Rattle.nv_table.specs.state.States.{PassState}
use Rattle.nv_table.specs.state.Views.{PassView, pass_of}
use Rattle.nv_table.specs.steps.SeatSteps.{pass_before, pass_worked, with_call}
use Rattle.nv_table.specs.steps.StepContracts.{Postcondition}
use Rattle.nv_table.proofs.invariant.DrawnLaws.{calls_leave}
use Rattle.nv_table.proofs.invariant.StepAt.{IsMadeAt, made_at}
use Rattle.nv_table.proofs.steps.RunsOn.{step_of}
use Rattle.nv_mount.specs.declared.fds.Fd.{Fd}
use Rattle.nv_mirror.specs.declared.answers.Done.{Done}
use Rattle.nv_mirror.specs.declared.answers.Refusal.{Refusal}
use Rattle.nv_mirror.specs.declared.answers.Refusal.TheVariants.{BadFd, Busy, Raced, Stopped, Spent}
use Rattle.nv_mirror.specs.Answers.{refusal_in_answer}
use Rattle.nv_mirror.specs.OwnSteps.{AreOwnAs, gives_back, is_own}
use Rattle.nv_mirror.specs.PassSteps.{PassStep, HasMade, HasTaken, is_fault, is_stop, refusal_in, stops_in}
use Rattle.nv_mirror.proofs.StopLaws.{own_plain, sets_stop}
use Rattle.nv_calls.specs.calls.Asks.{IsMadeAsRead, IsMadeAsWrite, asks_read, asks_write}
use Rattle.nv_calls.specs.calls.EarlyRefusals.{early_refusal}
use Rattle.nv_calls.specs.calls.EndedCalls.{IsCallOver}
use Rattle.nv_calls.specs.fsync.SyncRuns.{IsSyncRun, file_of_fd}
use Rattle.nv_calls.specs.histories.Faults.{OpensBy, ReadsOpenNothing, ReadsOpenNothingAs, SyncsOpenNothing, WritesOpen, WritesOpenAs, open_in, open_writes}
use Rattle.nv_calls.specs.histories.Tries.{Try, WereBusyAs}
use Rattle.nv_calls.specs.reads.Reads.{IsReadOverAs}
use Rattle.nv_calls.specs.writes.Writes.{IsWriteOverAs, WereMadeAgainAs, is_made_again}
use Rattle.nv_calls.proofs.histories.HeedsLaws.{early_tells, made_opened, refusal_tells, untold_mild}
use Rattle.nv_calls.proofs.reads.OverLaws.{call_over}

-- ---- one step

-- its pass as it finds it keeps the faults of before, and the call at hand, if it begins none
with_call_faulted : (sizes : Sizes) (opens : Option FileCall) (pass : Pass) → (with_call sizes opens pass).faulted ≡ pass.faulted
with_call_faulted sizes None pass = refl
with_call_faulted sizes (Some call) pass = refl

before_faulted : (view : PassView) (opens : Option FileCall) (works : List Work) → (pass_before view opens works).faulted ≡ (pass_of view).faulted
before_faulted view opens works =
    with_call_faulted view.opened.sizes opens (pass_worked view.opened.sizes works (pass_of view))
    ∙ calls_leave (λ (p : Pass). p.faulted) (λ sizes work pass. refl) view.opened.sizes works (pass_of view)

worked_call : (view : PassView) (works : List Work) → (pass_worked view.opened.sizes works (pass_of view)).call ≡ (pass_of view).call
worked_call view works = calls_leave (λ (p : Pass). p.call) (λ sizes work pass. refl) view.opened.sizes works (pass_of view)

-- only one that sets STOP adds a fault
stays_faulted : (pass : Pass) (op : Op) → is_stop op ≡ false → faulted_after pass op ≡ pass.faulted
stays_faulted pass Stop is = absurd (cc)
stays_faulted pass op is = refl

stop_of : (op : Op) → is_stop op ≡ true → op ≡ Stop
stop_of Stop is = refl
stop_of op is = absurd (cc)

step_leaves : (old new : PassState) (opens : Option FileCall) (op : Op) (found : ℕ) → Postcondition old opens op found new → is_stop op ≡ false → (pass_of new.view).faulted ≡ (pass_of old.view).faulted
step_leaves old new opens op found is plain =
    ap (λ (p : Pass). p.faulted) is.pass ∙ stays_faulted (pass_before old.view opens is.works) op plain ∙ before_faulted old.view opens is.works

taken_leaves : (step : PassStep) (old new : PassState) → HasTaken step old new → is_stop step.op ≡ false → (pass_of new.view).faulted ≡ (pass_of old.view).faulted
taken_leaves step old new taken plain =
    step_leaves taken.before new step.opens step.op step.found taken.stepped plain ∙ ap (λ (view : PassView). (pass_of view).faulted) taken.between.view

-- ---- the steps of a call

-- a call of some bytes, by which alone a device can fail
abbrev HasBytes : FileCall → Type 0
HasBytes call = (is_read call ≡ true) ⊎ (is_write call ≡ true)

-- it is its pass's last fault, where one of its steps has set STOP; else there is none more
abbrev FaultedBy : (stops : Bool) → FileCall → (start now : PassState) → Type 0
FaultedBy true call start now = (fault : Fault) × (fault.call ≡ call) × HasBytes call × ((pass_of now.view).faulted ≡ fault ∷ (pass_of start.view).faulted)
FaultedBy false call start now = (pass_of now.view).faulted ≡ (pass_of start.view).faulted

faulted_on : (stops : Bool) (call : FileCall) (start middle now : PassState) → (pass_of now.view).faulted ≡ (pass_of middle.view).faulted → FaultedBy stops call start middle → FaultedBy stops call start now
faulted_on true call start middle now same by = (by.0, by.1, by.2, same ∙ by.3)
faulted_on false call start middle now same by = same ∙ by

or_set : (b : Bool) → b ≡ false → b || true ≡ true
or_set b off = ap (λ c. c || true) off

or_unset : (b : Bool) → b || false ≡ b
or_unset true = refl
or_unset false = refl

-- a step that sets STOP comes in a call that is not refused so far
open_so_far : (call : FileCall) (refusal : Option Refusal) (op : Op) → op ≡ Stop → is_own call refusal op ≡ true → refusal ≡ None
open_so_far call None op is own = refl
open_so_far call (Some refusal) op is own = let never : gives_back call refusal Stop ≡ true = sym (ap (gives_back call refusal) is) ∙ own in absurd (cc)

-- where a device has failed, it was one of a call of some bytes
bytes_at : (sizes : Sizes) (pass : Pass) (control : Control) → FactsAt sizes pass control → IsFailing control → HasBytes pass.call
bytes_at sizes pass (SetStopAfterRead page dirty) facts fails = inl facts.0
bytes_at sizes pass (SetStopAfterPiece page number) facts fails = inl facts.0.0
bytes_at sizes pass SetStopAfterCommit facts fails = inr facts.write
bytes_at sizes pass control facts fails = absurd fails

module _ (sizes : Sizes) (asked call : FileCall) (is_made : plain_call asked ≡ call) (sound : RunsAreSound) (tell : OwnEventsTell) (start : PassState) (mount : IsMount (mount_of start.view.opened)) where
  -- a step that sets STOP, where the call at hand is this one
  module _ (step : PassStep) (middle now : PassState) (opened : middle.view.opened ≡ start.view.opened) (taken : HasTaken step middle now) (refusal : Option Refusal) (own : is_own call refusal step.op ≡ true) where
    abbrev there : Pass
    there = pass_before taken.before.view step.opens taken.stepped.works

    abbrev here_sizes : Sizes
    here_sizes = taken.before.view.opened.sizes

    come : IsMadeAt taken.before.view taken.stepped.steps.run taken.stepped.works step.opens step.op step.found
    come = made_at sound tell taken.before.view now.view taken.stepped.works step.opens step.op step.found
        (subst (λ (o : Opened). IsMount (mount_of o)) (sym (ap (λ (v : PassView). v.opened) taken.between.view ∙ opened)) mount) taken.stepped.steps

    may : Enabled here_sizes come.core.values there step.op
    may = subst (λ p. Enabled here_sizes come.core.values p step.op) come.own (step_of here_sizes taken.before.view.number come.core step.op (own_plain call refusal step.op own) come.may.may)

    facts : ControlFacts here_sizes there
    facts = subst (ControlFacts here_sizes) come.own (come.sound.control_facts taken.before.view.number)

    has_bytes : step.op ≡ Stop → HasBytes there.call
    has_bytes is =
        bytes_at here_sizes there there.control facts.at (next_steps_may_come here_sizes come.core.values there Stop (subst (Enabled here_sizes come.core.values there) is may))

    faulted_then : step.op ≡ Stop → (pass_of now.view).faulted ≡ fault_of there ∷ (pass_of middle.view).faulted
    faulted_then is =
        ap (λ (p : Pass). p.faulted) taken.stepped.pass ∙ ap (faulted_after there) is
        ∙ ap (λ faults. fault_of there ∷ faults) (before_faulted taken.before.view step.opens taken.stepped.works ∙ ap (λ (view : PassView). (pass_of view).faulted) taken.between.view)

    -- one more fault, behind those at the start
    adds : there.call ≡ call → (pass_of middle.view).faulted ≡ (pass_of start.view).faulted → step.op ≡ Stop → FaultedBy true call start now
    adds same before is = (fault_of there, same, subst HasBytes same (has_bytes is), faulted_then is ∙ ap (λ faults. fault_of there ∷ faults) before)

    -- the call at hand behind it
    call_then : there.call ≡ call → (pass_of now.view).call ≡ call
    call_then same = ap (λ (p : Pass). p.call) taken.stepped.pass ∙ same

    begins_call : step.opens ≡ Some asked → there.call ≡ call
    begins_call opens = ap (λ o. (with_call here_sizes o (pass_worked here_sizes taken.stepped.works (pass_of taken.before.view))).call) opens ∙ is_made

    goes_on_call : step.opens ≡ None → (pass_of middle.view).call ≡ call → there.call ≡ call
    goes_on_call opens before =
        ap (λ o. (with_call here_sizes o (pass_worked here_sizes taken.stepped.works (pass_of taken.before.view))).call) opens
        ∙ worked_call taken.before.view taken.stepped.works ∙ ap (λ (view : PassView). (pass_of view).call) taken.between.view ∙ before

    -- it adds its fault, or none
    step_on : (stops : Bool) → there.call ≡ call → (step.op ≡ Stop → stops ≡ false) → FaultedBy stops call start middle → FaultedBy (stops || is_stop step.op) call start now
    step_on stops same first before = by (is_stop step.op) refl
      where
        by : (b : Bool) → is_stop step.op ≡ b → FaultedBy (stops || is_stop step.op) call start now
        by true is =
            let stop = stop_of step.op is in
            subst (λ b. FaultedBy b call start now) (sym (ap (λ b. stops || b) is ∙ or_set stops (first stop)))
            (adds same (subst (λ b. FaultedBy b call start middle) (first stop) before) stop)
        by false is =
            subst (λ b. FaultedBy b call start now) (sym (ap (λ b. stops || b) is ∙ or_unset stops)) (faulted_on stops call start middle now (taken_leaves step middle now taken is) before)

  -- what is so of the pass after some steps
  record Stands (stops : Bool) (now : PassState) : Type 0 where
    at_hand : (pass_of now.view).call ≡ call
    faulted : FaultedBy stops call start now

  stands : (steps : List PassStep) (now : PassState) → start.view.opened.sizes ≡ sizes → HasMade steps start now → AreOwnAs sizes asked call steps → Stands (stops_in steps) now
  stands [] now same made own = absurd own
  stands (step ∷ []) now same made own =
      let opened = ap (λ (p : PassState). p.view.opened) made.1 in
      let here = begins_call step made.0 now opened made.2 None own.1 own.0 in
      record {
        at_hand = call_then step made.0 now opened made.2 None own.1 here;
        faulted = step_on step made.0 now opened made.2 None own.1 false here (λ is. refl) (ap (λ (p : PassState). (pass_of p.view).faulted) made.1);
      }
  stands (step ∷ (other ∷ earlier)) now same made own =
      let was = stands (other ∷ earlier) made.0 same made.1 own.2 in
      let opened = made_opened (other ∷ earlier) start made.0 made.1 in
      let refusal = refusal_in sizes call (other ∷ earlier) in
      let here = goes_on_call step made.0 now opened made.2 refusal own.1 own.0 was.at_hand in
      let sets = sets_stop sizes call sound tell start mount asked (other ∷ earlier) made.0 made.1 own.2 in
      record {
        at_hand = call_then step made.0 now opened made.2 refusal own.1 here;
        faulted = step_on step made.0 now opened made.2 refusal own.1 (stops_in (other ∷ earlier)) here
            (λ is. sets ∙ ap is_fault (open_so_far call refusal step.op is own.1)) was.faulted;
      }

-- ---- open writes among faults

opens_one : (fault : Fault) (before : List Fault) → is_write fault.call ≡ true → open_in (fault ∷ before) ≡ record { call = fault.call; first = fault.first } ∷ open_in before
opens_one fault before is = ap (λ b. if b then record { call = fault.call; first = fault.first } ∷ open_in before else open_in before) is

opens_none : (fault : Fault) (before : List Fault) → is_write fault.call ≡ false → open_in (fault ∷ before) ≡ open_in before
opens_none fault before is = ap (λ b. if b then record { call = fault.call; first = fault.first } ∷ open_in before else open_in before) is

-- one that is to be made again was ended by no fault
again_mild : (refusal : Refusal) → is_made_again refusal ≡ true → is_fault (Some refusal) ≡ false
again_mild (Busy cell) again = refl
again_mild (Raced seen found) again = refl
again_mild refusal again = absurd (cc)

-- ---- a call that is over

module _ (sound : RunsAreSound) (tell : OwnEventsTell) where
  -- it was barred by what it asks for, and made no step; or it was that of its file
  abbrev Ended : (early : Option Refusal) → (file : Option ℕ) → (asks : ℕ → FileCall) → (start now : PassState) → Result Done Refusal → Type 0
  Ended early file asks start now result =
      ((is_fault (refusal_in_answer result) ≡ false) × (now ≡ start))
      ⊎ ((early ≡ None) × (one : ℕ) × (file ≡ Some one) × FaultedBy (is_fault (refusal_in_answer result)) (plain_call (asks one)) start now)

  ended_by : (early : Option Refusal) (file : Option ℕ) (asks : ℕ → FileCall) (start now : PassState) (result : Result Done Refusal) → refusal_tells early ≡ false → IsMount (mount_of start.view.opened)
      → IsCallOver early file asks start now result → Ended early file asks start now result
  ended_by (Some refusal) file asks start now result silent mount over =
      inl (ap (λ r. is_fault (refusal_in_answer r)) over.0 ∙ untold_mild (Some refusal) silent, over.1)
  ended_by None file asks start now result silent mount over =
      let ended = over.2 in
      let sizes = start.view.opened.sizes in
      let asked = asks over.0 in
      let call = plain_call asked in
      let sets = sets_stop sizes call sound tell start mount asked ended.steps now ended.made ended.own ∙ ap is_fault ended.refused in
      inr (refl, over.0, over.1, subst (λ b. FaultedBy b call start now) sets (stands sizes asked call refl sound tell start mount ended.steps now refl ended.made ended.own).faulted)

  ended_opened : (early : Option Refusal) (file : Option ℕ) (asks : ℕ → FileCall) (start now : PassState) (result : Result Done Refusal) → IsCallOver early file asks start now result → now.view.opened ≡ start.view.opened
  ended_opened (Some refusal) file asks start now result over = ap (λ (p : PassState). p.view.opened) over.1
  ended_opened None file asks start now result over = over.2.mount

  -- ---- writes

  write_of : (file at : ℕ) (bytes : List ℕ) → HasBytes (Write file at bytes) → is_write (Write file at bytes) ≡ true
  write_of file at bytes has = elim has [
    | inl read ↦ absurd (cc)
    | inr write ↦ write
  ]

  -- its fault is an open write, if there is one
  write_opens : (ends : Bool) (fds : List Fd) (fd at : ℕ) (bytes : List ℕ) (start now : PassState) (file : ℕ) → early_refusal can_write start.view.opened.sizes fds fd at (length bytes) ≡ None
      → file_of_fd fds fd ≡ Some file → FaultedBy ends (Write file at bytes) start now → OpensBy ends fds fd at bytes start now
  write_opens true fds fd at bytes start now file early known by =
      let fault = by.0 in
      let write = write_of file at bytes by.2 in
      record {
        early = early;
        file = file;
        file_is = known;
        write = write;
        first = fault.first;
        opens = ap open_in by.3 ∙ opens_one fault (pass_of start.view).faulted (ap is_write by.1 ∙ write)
            ∙ ap (λ (call : FileCall). record { call = call; first = fault.first } ∷ open_writes start) by.1;
      }
  write_opens false fds fd at bytes start now file early known by = ap open_in by

  over_opens : (asks : ℕ → FileCall) (fds : List Fd) (fd at : ℕ) (bytes : List ℕ) (start now : PassState) (result : Result Done Refusal) → IsMadeAsWrite asks at bytes → IsMount (mount_of start.view.opened)
      → IsWriteOverAs asks fds fd at (length bytes) start now result → OpensBy (is_fault (refusal_in_answer result)) fds fd at bytes start now
  over_opens asks fds fd at bytes start now result is_made mount over =
      let sizes = start.view.opened.sizes in
      elim (ended_by (early_refusal can_write sizes fds fd at (length bytes)) (file_of_fd fds fd) asks start now result (early_tells can_write sizes (slice_get fds fd) at (length bytes)) mount over) [
        | inl barred ↦ subst (λ b. OpensBy b fds fd at bytes start now) (sym barred.0) (ap open_writes barred.1)
        | inr ended ↦
            write_opens (is_fault (refusal_in_answer result)) fds fd at bytes start now ended.1 ended.0 ended.2
            (subst (λ call. FaultedBy (is_fault (refusal_in_answer result)) call start now) (is_made ended.1) ended.3)
      ]

  -- those that are to be made again open none
  again_opens : (asks : ℕ → FileCall) (fds : List Fd) (fd at : ℕ) (bytes : List ℕ) (tries : List Refusal) (start now : PassState) → IsMadeAsWrite asks at bytes → IsMount (mount_of start.view.opened)
      → WereMadeAgainAs asks fds fd at (length bytes) tries start now → (open_writes now ≡ open_writes start) × (now.view.opened ≡ start.view.opened)
  again_opens asks fds fd at bytes [] start now is_made mount made = (ap open_writes made, ap (λ (p : PassState). p.view.opened) made)
  again_opens asks fds fd at bytes (last ∷ earlier) start now is_made mount made =
      let middle = made.0 in
      let before = again_opens asks fds fd at bytes earlier start middle is_made mount made.1 in
      let opens = over_opens asks fds fd at bytes middle now (Err last) is_made (subst (λ (o : Opened). IsMount (mount_of o)) (sym before.1) mount) made.3 in (
        subst (λ b. OpensBy b fds fd at bytes middle now) (again_mild last made.2) opens ∙ before.0,
        ended_opened (early_refusal can_write middle.view.opened.sizes fds fd at (length bytes)) (file_of_fd fds fd) asks middle now (Err last) made.3 ∙ before.1,
      )

  opens_since : (ends : Bool) (fds : List Fd) (fd at : ℕ) (bytes : List ℕ) (start last now : PassState) → open_writes last ≡ open_writes start → last.view.opened ≡ start.view.opened
      → OpensBy ends fds fd at bytes last now → OpensBy ends fds fd at bytes start now
  opens_since true fds fd at bytes start last now before same is = record {
    early = ap (λ (o : Opened). early_refusal can_write o.sizes fds fd at (length bytes)) (sym same) ∙ is.early;
    file = is.file;
    file_is = is.file_is;
    write = is.write;
    first = is.first;
    opens = is.opens ∙ ap (λ others. record { call = Write is.file at bytes; first = is.first } ∷ others) before;
  }
  opens_since false fds fd at bytes start last now before same is = is ∙ before

  pub made_writes_open : WritesOpenAs
  made_writes_open asks fds fd at bytes start now result is_made mount tried =
      let before = again_opens asks fds fd at bytes tried.tries start tried.last is_made mount tried.again in
      opens_since (is_fault (refusal_in_answer result)) fds fd at bytes start tried.last now before.0 before.1
      (over_opens asks fds fd at bytes tried.last now result is_made (subst (λ (o : Opened). IsMount (mount_of o)) (sym before.1) mount) tried.over)

  pub writes_open : WritesOpen
  writes_open fds fd at bytes start now result = made_writes_open (asks_write at bytes) fds fd at bytes start now result (λ file. refl)

  -- ---- reads

  -- a read's fault is none
  read_opens : (ends : Bool) (file at len : ℕ) (start now : PassState) → FaultedBy ends (Read file at len) start now → open_writes now ≡ open_writes start
  read_opens true file at len start now by = ap open_in by.3 ∙ opens_none by.0 (pass_of start.view).faulted (ap is_write by.1)
  read_opens false file at len start now by = ap open_in by

  read_over_opens : (asks : ℕ → ℕ → FileCall) (fds : List Fd) (fd at : ℕ) (list : List ℕ) (start now : PassState) (result : Result Done Refusal) → IsMadeAsRead asks at (length list) → IsMount (mount_of start.view.opened)
      → IsReadOverAs asks fds fd at list start now result → (open_writes now ≡ open_writes start) × (now.view.opened ≡ start.view.opened)
  read_over_opens asks fds fd at list start now result is_made mount over =
      let sizes = start.view.opened.sizes in
      let early = early_refusal can_read sizes fds fd at (length list) in
      let called = call_over asks fds fd at list start now result over in (
        elim (ended_by early (file_of_fd fds fd) (asks (length list)) start now result (early_tells can_read sizes (slice_get fds fd) at (length list)) mount called) [
          | inl barred ↦ ap open_writes barred.1
          | inr ended ↦
              read_opens (is_fault (refusal_in_answer result)) ended.1 at (length list) start now
              (subst (λ call. FaultedBy (is_fault (refusal_in_answer result)) call start now) (is_made ended.1) ended.3)
        ],
        ended_opened early (file_of_fd fds fd) (asks (length list)) start now result called,
      )

  busy_opens : (asks : ℕ → ℕ → FileCall) (fds : List Fd) (fd at len : ℕ) (tries : List Try) (start now : PassState) → IsMadeAsRead asks at len → IsMount (mount_of start.view.opened)
      → WereBusyAs asks fds fd at len tries start now → (open_writes now ≡ open_writes start) × (now.view.opened ≡ start.view.opened)
  busy_opens asks fds fd at len [] start now is_made mount busy = (ap open_writes busy, ap (λ (p : PassState). p.view.opened) busy)
  busy_opens asks fds fd at len (last ∷ earlier) start now is_made mount busy =
      let before = busy_opens asks fds fd at len earlier start busy.0 is_made mount busy.1 in
      let over = read_over_opens asks fds fd at last.list busy.0 now (Err (Busy last.cell)) (subst (IsMadeAsRead asks at) (sym busy.2) is_made)
      (subst (λ (o : Opened). IsMount (mount_of o)) (sym before.1) mount) busy.3 in
      (over.0 ∙ before.0, over.1 ∙ before.1)

  pub made_reads_open_nothing : ReadsOpenNothingAs
  made_reads_open_nothing asks fds fd at list start now result is_made mount tried =
      let before = busy_opens asks fds fd at (length list) tried.tries start tried.last is_made mount tried.busy in
      (read_over_opens asks fds fd at list tried.last now result is_made (subst (λ (o : Opened). IsMount (mount_of o)) (sym before.1) mount) tried.over).0 ∙ before.0

  pub reads_open_nothing : ReadsOpenNothing
  reads_open_nothing fds fd at list start now result = made_reads_open_nothing (asks_read at) fds fd at list start now result (λ file. refl)

-- ---- syncs

sync_leaves : (file : Option ℕ) (start now : PassState) (result : Result Done Refusal) → IsSyncRun file start now result → (pass_of now.view).faulted ≡ (pass_of start.view).faulted
sync_leaves None start now (Err BadFd) sync_run = ap (λ (p : PassState). (pass_of p.view).faulted) sync_run
sync_leaves (Some file) start now (Err Stopped) sync_run = step_leaves start now (Some (Sync file)) (Load STOP) sync_run.found sync_run.stop refl
sync_leaves (Some file) start now (Err (Spent found)) sync_run =
    step_leaves sync_run.begun now None (Load ORDER) found sync_run.order refl ∙ step_leaves start sync_run.begun (Some (Sync file)) (Load STOP) 0 sync_run.stop refl
sync_leaves (Some file) start now (Ok done) sync_run =
    step_leaves sync_run.loaded now None (Place Replied) done.place sync_run.places refl
    ∙ step_leaves sync_run.begun sync_run.loaded None (Load ORDER) sync_run.found sync_run.order refl
    ∙ step_leaves start sync_run.begun (Some (Sync file)) (Load STOP) 0 sync_run.stop refl
sync_leaves file start now result sync_run = absurd sync_run

pub syncs_open_nothing : SyncsOpenNothing
syncs_open_nothing fds fd start now result sync_run = ap open_in (sync_leaves (file_of_fd fds fd) start now result sync_run)
