-- Grown: how the run that a thread's pass has seen goes on by its present call, wherever that stands.
use Rattle.std.proofs.Common.{◌≡◌, ◌==◌, ℕ, Bool, true, false, if◌then◌else◌, List, [], ◌∷◌, ◌++◌, length, refl, sym, ap, subst, ◌∙◌, append-nil}
use Rattle.std.specs.Prelude.{Option, Some, None, Err, Result}
use Rattle.std.specs.Borrow.{Bor}
use Rattle.std.proofs.lemmas.List.{append_assoc}
use Rattle.nv_plain.specs.declared.call.FileCall.{FileCall}
use Rattle.nv_core.specs.invariant.OneHistory.{IsPrefix}
use Rattle.nv_core.specs.state.Cleaner as cleaner
use Rattle.nv_core.specs.state.Passes.{Pass}
use Rattle.nv_core.specs.state.Words.{Sizes, STOP, Word}
use Rattle.nv_core.specs.steps.Events.{Event, TakesStep}
use Rattle.nv_core.specs.steps.Opening.{IsMount}
use Rattle.nv_core.specs.steps.Ops.{Op, Load, Stop, ByCleaner, PutBack}
use Rattle.nv_core.specs.steps.Order.{Work as DeviceWork}
use Rattle.nv_core.specs.steps.PassSteps.{stopped_after}
use Rattle.nv_table.specs.invariant.Idle.{IsIdle}
use Rattle.nv_table.specs.passes.PassesMade.{PutsBack}
use Rattle.nv_table.specs.state.Opened.{Opened, mount_of}
use Rattle.nv_table.specs.state.States.{PassState}
use Rattle.nv_table.specs.state.Views.{PassView, pass_of}
use Rattle.nv_table.specs.steps.SeatSteps.{pass_before, pass_worked, with_call}
use Rattle.nv_table.specs.steps.StepContracts.{Postcondition}
use Rattle.nv_table.proofs.invariant.DrawnLaws.{calls_leave}
use Rattle.nv_mount.specs.declared.fds.Fd.{Fd}
use Rattle.nv_mirror.specs.Controls.{InCall, Mirror}
use Rattle.nv_mirror.specs.PassSteps.{PassStep, HasMade, HasTaken}
use Rattle.nv_mirror.specs.declared.answers.Refusal.{Refusal}
use Rattle.nv_mirror.specs.declared.answers.Refusal.TheVariants.{Busy}
use Rattle.nv_cache.specs.RunningReads as read
use Rattle.nv_cache.specs.declared.read.RunningRead.{RunningRead}
use Rattle.nv_cache.specs.declared.read.RunningRead.TheVariants as running_reads
use Rattle.nv_ring.specs.RunningWrites as write
use Rattle.nv_ring.specs.WriteSteps.{with_list}
use Rattle.nv_ring.specs.declared.write.RunningWrite.{RunningWrite}
use Rattle.nv_ring.specs.declared.write.RunningWrite.TheVariants as running_writes
use Rattle.nv_calls.specs.declared.reading.ReadControl.{ReadControl}
use Rattle.nv_calls.specs.declared.reading.ReadControl.TheVariants as read_controls
use Rattle.nv_calls.specs.declared.syncing.SyncControl.{SyncControl}
use Rattle.nv_calls.specs.declared.syncing.SyncControl.TheVariants as sync_controls
use Rattle.nv_calls.specs.declared.writing.WriteControl.{WriteControl}
use Rattle.nv_calls.specs.declared.writing.WriteControl.TheVariants as write_controls
use Rattle.nv_calls.specs.fsync.SyncMachines as syncs
use Rattle.nv_calls.specs.histories.Heeds.{HasSeenStop}
use Rattle.nv_calls.specs.histories.Tries.{Try, WereBusyAs}
use Rattle.nv_calls.specs.reads.ReadMachines as reads
use Rattle.nv_calls.specs.calls.Asks.{asks_read, asks_readv, asks_write, asks_writev}
use Rattle.nv_calls.specs.declared.reading.ReadMachine.{ReadMachine}
use Rattle.nv_calls.specs.declared.writing.WriteMachine.{WriteMachine}
use Rattle.std.specs.List.{concat, sum}
use Rattle.nv_calls.specs.writes.WriteMachines as writes
use Rattle.nv_calls.specs.writes.Writes.{WereMadeAgainAs}
use Rattle.nv_clean.specs.Cleaning.{CleanState}
use Rattle.nv_clean.specs.declared.batch.CleanRefusal.{CleanRefusal}
use Rattle.nv_clean.specs.declared.clean.Cleaned.{Cleaned}
use Rattle.nv_trace.specs.declared.trace_call.TraceCall.{TraceCall}
use Rattle.nv_trace.specs.declared.trace_call.TraceCall.TheVariants.{Pread, Pwrite, Preadv, Pwritev, Fsync}
use Rattle.nv_trace.specs.declared.trace_call.TracedCall.{TracedCall}
use Rattle.nv_runner.specs.Lists.{AreMade, MadeCall}
use Rattle.nv_runner.proofs.RunLaws.{step_went}
use Rattle.nv_runner.proofs.ShiftRuns.{chain}
use Rattle.nv_runner.proofs.StopSeen.{seen_on}
use Rattle.nv_schedule.specs.Callers.{AreBatches, IsAtBatch, IsAtCall}
use Rattle.nv_schedule.specs.Hands.{IsTrying}
use Rattle.nv_schedule.specs.Tries.{WereTried}
use Rattle.nv_schedule.specs.Turns.{HasCome}
use Rattle.nv_schedule.specs.declared.caller.Work.{Work}
use Rattle.nv_schedule.specs.declared.caller.Work.TheVariants.{Calls, Batches}
use Rattle.nv_schedule.specs.declared.hand.Hand.{Hand}
use Rattle.nv_schedule.specs.declared.hand.Hand.TheVariants.{Reading, Writing, ReadingParts, WritingParts, Syncing}
use Rattle.nv_schedule.proofs.AnswerLaws.{CallLaws, all_answered, read_heeds, write_heeds}
use Rattle.nv_table.specs.passes.Seats.{PassingTells}

-- the same pass has seen a run go on, and knows that STOP is set where it knew before
pub record HasGrown (start now : PassState) : Type 0 where
  pub more : List Event
  pub run : now.view.run ≡ start.view.run ++ more
  pub opened : now.view.opened ≡ start.view.opened
  pub stays : HasSeenStop start → HasSeenStop now

grown_self : (start now : PassState) → now ≡ start → HasGrown start now
grown_self start now same = record {
  more = [];
  run = ap (λ (p : PassState). p.view.run) same ∙ sym (append-nil start.view.run);
  opened = ap (λ (p : PassState). p.view.opened) same;
  stays = λ seen. subst HasSeenStop (sym same) seen;
}

pub grown_on : (old middle new : PassState) → HasGrown old middle → HasGrown middle new → HasGrown old new
grown_on old middle new one more = record {
  more = one.more ++ more.more;
  run = more.run ∙ ap (λ r. r ++ more.more) one.run ∙ append_assoc old.view.run one.more more.more;
  opened = more.opened ∙ one.opened;
  stays = λ seen. more.stays (one.stays seen);
}

-- ---- a step

with_call_stopped : (sizes : Sizes) (opens : Option FileCall) (pass : Pass) → (with_call sizes opens pass).stopped ≡ pass.stopped
with_call_stopped sizes None pass = refl
with_call_stopped sizes (Some call) pass = refl

before_stopped : (view : PassView) (opens : Option FileCall) (works : List DeviceWork) → (pass_before view opens works).stopped ≡ (pass_of view).stopped
before_stopped view opens works =
    with_call_stopped view.opened.sizes opens (pass_worked view.opened.sizes works (pass_of view))
    ∙ calls_leave (λ (p : Pass). p.stopped) (λ sizes work pass. refl) view.opened.sizes works (pass_of view)

kept_if : (b one : Bool) → one ≡ true → (if b then one else true) ≡ true
kept_if true one seen = seen
kept_if false one seen = refl

-- a pass never forgets that STOP is set
stays_stopped : (pass : Pass) (op : Op) (found : ℕ) → pass.stopped ≡ true → stopped_after pass op found ≡ true
stays_stopped pass (Load STOP) found seen = kept_if (found == 0) pass.stopped seen
stays_stopped pass Stop found seen = refl
stays_stopped pass (ByCleaner (cleaner.Load STOP)) found seen = kept_if (found == 0) pass.stopped seen
stays_stopped pass (ByCleaner cleaner.Stop) found seen = refl
stays_stopped pass op found seen = seen

step_stays : (old new : PassState) (opens : Option FileCall) (op : Op) (found : ℕ) → Postcondition old opens op found new → HasSeenStop old → HasSeenStop new
step_stays old new opens op found is seen =
    ap (λ (p : Pass). p.stopped) is.pass ∙ stays_stopped (pass_before old.view opens is.works) op found (before_stopped old.view opens is.works ∙ seen)

step_grown : (old new : PassState) (opens : Option FileCall) (op : Op) (found : ℕ) → Postcondition old opens op found new → HasGrown old new
step_grown old new opens op found is =
    let went = step_went false old new opens op found (λ only. absurd (cc)) is in
    record { more = went.more; run = went.run; opened = went.opened; stays = step_stays old new opens op found is }

pub taken_grown : (step : PassStep) (old new : PassState) → HasTaken step old new → HasGrown old new
taken_grown step old new taken =
    let same = taken.between.view in
    let grown = step_grown taken.before new step.opens step.op step.found taken.stepped in
    record {
      more = grown.more;
      run = grown.run ∙ ap (λ (v : PassView). v.run ++ grown.more) same;
      opened = grown.opened ∙ ap (λ (v : PassView). v.opened) same;
      stays = λ seen. grown.stays (subst (λ (v : PassView). (pass_of v).stopped ≡ true) (sym same) seen);
    }

pub made_grown : (steps : List PassStep) (start now : PassState) → HasMade steps start now → HasGrown start now
made_grown [] start now same = grown_self start now same
made_grown (step ∷ earlier) start now made = grown_on start made.0 now (made_grown earlier start made.0 made.1) (taken_grown step made.0 now made.2)

-- ---- tries

module _ (laws : CallLaws) (fds : List Fd) where
  mounted : (old new : PassState) → HasGrown old new → IsMount (mount_of old.view.opened) → IsMount (mount_of new.view.opened)
  mounted old new grown mount = subst (λ (o : Opened). IsMount (mount_of o)) (sym grown.opened) mount

  busy_grown : (asks : (len file : ℕ) → FileCall) (fd at len : ℕ) (tries : List Try) (start now : PassState) → IsMount (mount_of start.view.opened) → WereBusyAs asks fds fd at len tries start now → HasGrown start now
  busy_grown asks fd at len [] start now mount same = grown_self start now same
  busy_grown asks fd at len (last ∷ earlier) start now mount busy =
      let before = busy_grown asks fd at len earlier start busy.0 mount busy.1 in
      let heeds = read_heeds laws asks fds fd at last.list busy.0 now (Err (Busy last.cell)) (mounted start busy.0 before mount) busy.3 in
      grown_on start busy.0 now before (made_grown heeds.steps busy.0 now heeds.made)

  again_grown : (asks : (file : ℕ) → FileCall) (fd at len : ℕ) (tries : List Refusal) (start now : PassState) → IsMount (mount_of start.view.opened) → WereMadeAgainAs asks fds fd at len tries start now → HasGrown start now
  again_grown asks fd at len [] start now mount same = grown_self start now same
  again_grown asks fd at len (last ∷ earlier) start now mount again =
      let before = again_grown asks fd at len earlier start again.0 mount again.1 in
      let heeds = write_heeds laws asks fds fd at len again.0 now (Err last) (mounted start again.0 before mount) again.3 in
      grown_on start again.0 now before (made_grown heeds.steps again.0 now heeds.made)

  tried_grown : (call : TraceCall) (start now : PassState) → IsMount (mount_of start.view.opened) → WereTried fds call start now → HasGrown start now
  tried_grown (Pread fd at len) start now mount tried = busy_grown (asks_read at) fd at len tried.0 start now mount tried.1
  tried_grown (Pwrite fd at bytes) start now mount tried = again_grown (asks_write at bytes) fd at (length bytes) tried.0 start now mount tried.1
  tried_grown (Preadv fd at lens) start now mount tried = busy_grown (asks_readv at lens) fd at (sum lens) tried.0 start now mount tried.1
  tried_grown (Pwritev fd at parts) start now mount tried = again_grown (asks_writev at parts) fd at (length (concat parts)) tried.0 start now mount tried.1
  tried_grown (Fsync fd) start now mount same = grown_self start now same

  -- ---- a call that is tried

  in_call_grown : {State : Type 0} (mirror : Mirror State) (call : FileCall) (opens : Option FileCall) (is : State) (refusal : Option Refusal) (place : Option ℕ) (begun now : PassState)
      → InCall mirror call opens is refusal place begun now → HasGrown begun now
  in_call_grown mirror call opens is refusal place begun now c = made_grown c.steps begun now c.made

  read_grown : (call : FileCall) (list room : List ℕ) (begun now : PassState) (r : RunningRead) → read.IsOpen r → read.StandsAt call r list room begun now → HasGrown begun now
  read_grown call list room begun now (running_reads.Pageless m) open_ s = in_call_grown _ _ _ _ _ _ begun now s.1.1
  read_grown call list room begun now (running_reads.Front m) open_ s = in_call_grown _ _ _ _ _ _ begun now s.1.1
  read_grown call list room begun now (running_reads.Search of_ m) open_ s = in_call_grown _ _ _ _ _ _ begun now s.3.called
  read_grown call list room begun now (running_reads.Load of_ m) open_ s = in_call_grown _ _ _ _ _ _ begun now s.3.1.called
  read_grown call list room begun now (running_reads.TakePlace m) open_ s = in_call_grown _ _ _ _ _ _ begun now s.2.1.called
  read_grown call list room begun now (running_reads.Release m copied) open_ s = in_call_grown _ _ _ _ _ _ begun now s.1.1
  read_grown call list room begun now (running_reads.Over result) open_ s = absurd open_

  write_grown : (call : FileCall) (begun now : PassState) (w : RunningWrite) → write.IsOpen w → write.IsUnderWay call w begun now → HasGrown begun now
  write_grown call begun now (running_writes.Pageless m) open_ s = in_call_grown _ _ _ _ _ _ begun now s.1.1
  write_grown call begun now (running_writes.Front m) open_ s = in_call_grown _ _ _ _ _ _ begun now s.2.1
  write_grown call begun now (running_writes.Draw m) open_ s = in_call_grown _ _ _ _ _ _ begun now s.1.1.called
  write_grown call begun now (running_writes.Append m) open_ s = in_call_grown _ _ _ _ _ _ begun now s.1.1.called
  write_grown call begun now (running_writes.Release m) open_ s = in_call_grown _ _ _ _ _ _ begun now s.1.1
  write_grown call begun now (running_writes.Over result) open_ s = absurd open_

  lent_grown : (call : FileCall) (lent : Bor (List ℕ)) (begun now : PassState) (w : RunningWrite) → write.IsOpen w → write.IsUnderWay call (with_list lent w) begun now → HasGrown begun now
  lent_grown call lent begun now (running_writes.Pageless w) open_ way = write_grown call begun now (with_list lent (running_writes.Pageless w)) open_ way
  lent_grown call lent begun now (running_writes.Front w) open_ way = write_grown call begun now (with_list lent (running_writes.Front w)) open_ way
  lent_grown call lent begun now (running_writes.Draw w) open_ way = write_grown call begun now (with_list lent (running_writes.Draw w)) open_ way
  lent_grown call lent begun now (running_writes.Append w) open_ way = write_grown call begun now (with_list lent (running_writes.Append w)) open_ way
  lent_grown call lent begun now (running_writes.Release w) open_ way = write_grown call begun now (with_list lent (running_writes.Release w)) open_ way
  lent_grown call lent begun now (running_writes.Over result) open_ way = absurd open_

  at_read : (asks : (len file : ℕ) → FileCall) (m : ReadMachine) (list : List ℕ) (begun now : PassState) (control : ReadControl) → reads.StandsAt asks fds m list begun now control → HasGrown begun now
  at_read asks m list begun now read_controls.Begin s = grown_self begun now s.1
  at_read asks m list begun now (read_controls.Running running) s = read_grown _ _ _ begun now running s.0 s.1.way.stands

  at_write : (asks : (file : ℕ) → FileCall) (m : WriteMachine) (bytes : List ℕ) (begun now : PassState) (control : WriteControl) → writes.StandsAt asks fds m bytes begun now control → HasGrown begun now
  at_write asks m bytes begun now write_controls.Begin s = grown_self begun now s.1
  at_write asks m bytes begun now (write_controls.Running running) s = lent_grown _ s.1 begun now running s.0 s.2.way

  trying_grown : (call : TraceCall) (hand : Hand) (begun now : PassState) → IsTrying fds call hand begun now → HasGrown begun now
  trying_grown call (Reading r) begun now t = at_read (asks_read r.machine.at) r.machine r.list.items begun now r.machine.control t.1.stands
  trying_grown call (Writing m) begun now t = at_write (asks_write m.at t.0) m t.0 begun now m.control t.2.stands
  trying_grown call (ReadingParts r) begun now t = at_read (asks_readv r.machine.at r.parts.lens) r.machine r.parts.list begun now r.machine.control t.2.stands
  trying_grown call (WritingParts w) begun now t = at_write (asks_writev w.machine.at w.parts) w.machine (concat w.parts) begun now w.machine.control t.1.stands
  trying_grown call (Syncing m) begun now t = at_sync m.control t.1
    where
      at_sync : (control : SyncControl) → syncs.StandsAt fds m.fd begun now control → HasGrown begun now
      at_sync sync_controls.Begin s = grown_self begun now s.1
      at_sync (sync_controls.Running running) s = in_call_grown _ _ _ _ _ _ begun now s.1.running.way.1

  -- by what its pass is at since the last answer
  pub at_call_grown : (left : List TracedCall) (hand : Option Hand) (last now : PassState) → IsMount (mount_of last.view.opened) → IsAtCall fds left hand last now → HasGrown last now
  at_call_grown [] hand last now mount at = grown_self last now at.1
  at_call_grown (call ∷ later) None last now mount at = tried_grown call.call last now mount at.0
  at_call_grown (call ∷ later) (Some hand) last now mount at = grown_on last at.0 now (tried_grown call.call last at.0 mount at.1) (trying_grown call.call hand at.0 now at.2)

-- ---- callers

batches_grown : (most : ℕ) (results : List (Result Cleaned CleanRefusal)) (start now : PassState) → AreBatches most results start now → HasGrown start now
batches_grown most [] start now same = grown_self start now same
batches_grown most (last ∷ earlier) start now are = grown_on start are.0 now (batches_grown most earlier start are.0 are.1) (made_grown are.2.over.steps are.0 now are.2.over.made)

batch_grown : (most : ℕ) (machine : Option CleanState) (last now : PassState) → IsAtBatch most machine last now → HasGrown last now
batch_grown most None last now at = grown_self last now at.0
batch_grown most (Some machine) last now at = made_grown at.1.told.steps last now at.1.told.made

pub answered_grown : (fds : List Fd) (made : List MadeCall) (start last : PassState) → AreMade fds None made start last → HasGrown start last
answered_grown fds made start last are =
    let all = chain fds None start.view.opened.sizes made start last refl are in
    record { more = all.on.more; run = all.on.run; opened = all.opened; stays = seen_on fds None made start last are }

pub caller_grown : CallLaws → (fds : List Fd) (work : Work) (start now : PassState) → IsMount (mount_of start.view.opened) → IsIdle start → HasCome fds work start now → HasGrown start now
caller_grown laws fds (Calls thread) start now mount idle come =
    let all = all_answered laws fds thread.made start come.last mount idle come.made in
    grown_on start come.last now (answered_grown fds thread.made start come.last all.each)
    (at_call_grown laws fds thread.left thread.hand come.last now (subst (λ (o : Opened). IsMount (mount_of o)) (sym all.opened) mount) come.at)
caller_grown laws fds (Batches cleaner) start now mount idle come =
    grown_on start come.last now (batches_grown cleaner.most come.results start come.last come.batches) (batch_grown cleaner.most cleaner.machine come.last now come.at)

-- ---- what is put back

passing_begins : (old new : PassView) (op : Op) (found : ℕ) → PassingTells old op found new → IsPrefix old.run new.run
passing_begins old new op found passed =
    let event : Event = record { by = old.number; act = TakesStep op found } in (
      passed.knew.all.rest ++ event ∷ [],
      ap (λ (v : PassView). v.run) passed.is ∙ ap (λ r. r ++ event ∷ []) passed.knew.all.goes_on ∙ append_assoc old.run passed.knew.all.rest (event ∷ []),
    )

pub puts_begin : (cells : List (Word × ℕ)) (old last : PassView) → PutsBack cells old last → IsPrefix old.run last.run
puts_begin [] old last same = ([], ap (λ (v : PassView). v.run) same ∙ sym (append-nil old.run))
puts_begin (one ∷ rest) old last back =
    let first = passing_begins old back.0 (PutBack one.0) one.1 back.1 in
    let later = puts_begin rest back.0 last back.2 in
    (first.0 ++ later.0, later.1 ∙ ap (λ r. r ++ later.0) first.1 ∙ append_assoc old.run first.0 later.0)

-- all but what it still owns stays as it was
pub puts_left : {X : Type 0} (read_of : Pass → X) (stays : (pass : Pass) (left : List Word) → read_of (record pass { left = left }) ≡ read_of pass) (cells : List (Word × ℕ)) (old last : PassView) → PutsBack cells old last
    → read_of (pass_of last) ≡ read_of (pass_of old)
puts_left read_of stays [] old last same = ap (λ (v : PassView). read_of (pass_of v)) same
puts_left read_of stays (one ∷ rest) old last back = puts_left read_of stays rest back.0 last back.2 ∙ ap read_of back.1.pass ∙ stays (pass_of old) _
