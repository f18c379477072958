-- Try ends: by which steps a try of a call is over, goes on, or was over before the call began anew.
use Rattle.std.proofs.Common.{◌≡◌, ◌⊎◌, ℕ, ◌^◌, Bool, true, if◌then◌else◌, List, [], ◌∷◌, length, inl, inr, refl, sym, ap, subst, ◌∙◌}
use Rattle.std.specs.List.{concat, sum}
use Rattle.std.specs.Prelude.{Option, Some, None, Result, Ok, Err}
use Rattle.std.proofs.lemmas.Bool.{le-ltb, lt-ltb, ne_eqb, true≢false}
use Rattle.nv_plain.specs.Modes.{can_read, can_write}
use Rattle.nv_plain.specs.declared.call.FileCall.{FileCall}
use Rattle.nv_plain.specs.declared.call.FileCall.TheVariants.{Read, Write, Sync}
use Rattle.nv_plain.specs.declared.call.Reply.TheVariants.{Done as Replied}
use Rattle.nv_core.specs.state.Passes.{plain_call}
use Rattle.nv_core.specs.state.Words.{ORDER, STOP}
use Rattle.nv_core.specs.steps.Opening.{IsMount}
use Rattle.nv_core.specs.steps.Ops.{Load, Op, Place}
use Rattle.nv_table.specs.invariant.Idle.{IsIdle}
use Rattle.nv_table.specs.state.Opened.{Opened, mount_of}
use Rattle.nv_table.specs.state.States.{PassState}
use Rattle.nv_table.specs.state.Views.{PassView}
use Rattle.nv_table.specs.steps.StepContracts.{Postcondition}
use Rattle.nv_mount.specs.declared.fds.Fd.{Fd}
use Rattle.nv_op.specs.Ops.{call_asked}
use Rattle.nv_mirror.specs.Answers.{place_in_answer, refusal_in_answer}
use Rattle.nv_mirror.specs.Controls.{IsOver}
use Rattle.nv_mirror.specs.OwnSteps.{AreOwnAs, is_own}
use Rattle.nv_mirror.specs.PassSteps.{HasMade, HasTaken, PassStep, either_of, refusal_in}
use Rattle.nv_mirror.specs.declared.answers.Done.{Done}
use Rattle.nv_mirror.specs.declared.answers.Refusal.{Refusal}
use Rattle.nv_mirror.specs.declared.answers.Refusal.TheVariants.{BadFd, Busy, Spent, Stopped}
use Rattle.nv_calls.specs.calls.Asks.{asks_read, asks_readv, asks_write, asks_writev}
use Rattle.nv_calls.specs.declared.reading.ReadMachine.{ReadMachine}
use Rattle.nv_calls.specs.declared.writing.WriteMachine.{WriteMachine}
use Rattle.nv_calls.specs.calls.EarlyRefusals.{early_refusal}
use Rattle.nv_calls.specs.calls.EndedCalls.{IsOverBy}
use Rattle.nv_calls.specs.declared.reading.ReadControl.{ReadControl}
use Rattle.nv_calls.specs.declared.reading.ReadControl.TheVariants as read_controls
use Rattle.nv_calls.specs.declared.syncing.SyncControl.{SyncControl}
use Rattle.nv_calls.specs.declared.syncing.SyncControl.TheVariants as sync_controls
use Rattle.nv_calls.specs.declared.writing.WriteControl.{WriteControl}
use Rattle.nv_calls.specs.declared.writing.WriteControl.TheVariants as write_controls
use Rattle.nv_calls.specs.fsync.SyncMachines as syncs
use Rattle.nv_calls.specs.fsync.SyncRuns.{IsSyncRun, file_of_fd}
use Rattle.nv_calls.specs.histories.Tries.{Try, WereBusyAs}
use Rattle.nv_calls.specs.reads.ReadMachines as reads
use Rattle.nv_calls.specs.reads.Reads.{IsReadDoneAs, IsReadOverAs}
use Rattle.nv_calls.specs.writes.WriteMachines as writes
use Rattle.nv_calls.specs.writes.Writes.{IsWriteOverAs, WereMadeAgainAs}
use Rattle.nv_trace.specs.declared.trace_call.TraceCall.{TraceCall}
use Rattle.nv_trace.specs.declared.trace_call.TraceCall.TheVariants.{Pread, Pwrite, Preadv, Pwritev, Fsync}
use Rattle.nv_runner.specs.Calls.{call_on, fd_of}
use Rattle.nv_runner.specs.Refusals.{early_of_call, unless_file}
use Rattle.nv_schedule.specs.Hands.{IsTrying}
use Rattle.nv_schedule.specs.Tries.{IsTryOver, WereTried, begins_anew_by}
use Rattle.nv_schedule.specs.declared.hand.Hand.{Hand}
use Rattle.nv_schedule.specs.declared.hand.Hand.TheVariants.{Reading, Writing, ReadingParts, WritingParts, Syncing}
use Rattle.nv_schedule.proofs.AnswerLaws.{CallLaws, tried_since}
use Rattle.nv_schedule.proofs.AskedLaws.{IsAskedRead, IsAskedWrite, asked_read, asked_readv, asked_write, asked_writev}
use Rattle.nv_schedule.proofs.BarredLaws.{for_good}
use Rattle.nv_schedule.proofs.BusyLaws.{IsMidCall, IsOnWay, lent_way, read_way, sync_way}
use Rattle.nv_schedule.proofs.turns.WayLaws.{of_trying}

-- ---- a try that is over

-- Nothing barred the call; it was over by these steps, its own, which were refused so, or not.
pub record HasEndedBy (fds : List Fd) (call : TraceCall) (start now : PassState) (refusal : Option Refusal) : Type 0 where
  pub opened : now.view.opened ≡ start.view.opened
  pub unbarred : early_of_call now.view.opened.sizes fds call ≡ None
  pub file : ℕ
  pub file_is : file_of_fd fds (fd_of call) ≡ Some file
  pub steps : List PassStep
  pub made : HasMade steps start now
  pub own : AreOwnAs now.view.opened.sizes (call_on call file) (plain_call (call_on call file)) steps
  pub refused : refusal_in now.view.opened.sizes (plain_call (call_on call file)) steps ≡ refusal

-- or it was refused by what it asks for
pub record HasEndedEarly (fds : List Fd) (call : TraceCall) (start now : PassState) (result : Result Done Refusal) : Type 0 where
  pub refusal : Refusal
  pub early : early_of_call start.view.opened.sizes fds call ≡ Some refusal
  pub result_is : result ≡ Err refusal
  pub same : now ≡ start

abbrev pub EndsSo : List Fd → TraceCall → (start now : PassState) → Result Done Refusal → Type 0
EndsSo fds call start now result = HasEndedEarly fds call start now result ⊎ HasEndedBy fds call start now (refusal_in_answer result)

ends_by : (fds : List Fd) (call : TraceCall) (start now : PassState) (result : Result Done Refusal) (early : Option Refusal) (file : Option ℕ) (IsDone : ℕ → Type 0) → early_of_call start.view.opened.sizes fds call ≡ early
    → ((one : ℕ) → file ≡ Some one → early_of_call start.view.opened.sizes fds call ≡ None → IsDone one → HasEndedBy fds call start now (refusal_in_answer result)) → IsOverBy early file IsDone start now result → EndsSo fds call start now result
ends_by fds call start now result (Some refusal) file IsDone early by over = inl record { refusal = refusal; early = early; result_is = over.0; same = over.1 }
ends_by fds call start now result None file IsDone early by over = inr (by over.0 over.1 early over.2)

by_over : (fds : List Fd) (call : TraceCall) (file : ℕ) (start now : PassState) (refusal : Option Refusal) (place : Option ℕ) → file_of_fd fds (fd_of call) ≡ Some file → early_of_call start.view.opened.sizes fds call ≡ None
    → IsOver (call_on call file) refusal place start now → HasEndedBy fds call start now refusal
by_over fds call file start now refusal place file_is none over = record {
  opened = over.mount;
  unbarred = ap (λ (o : Opened). early_of_call o.sizes fds call) over.mount ∙ none;
  file = file;
  file_is = file_is;
  steps = over.steps;
  made = over.made;
  own = subst (λ (o : Opened). AreOwnAs o.sizes (call_on call file) (plain_call (call_on call file)) over.steps) (sym over.mount) over.own;
  refused = ap (λ (o : Opened). refusal_in o.sizes (plain_call (call_on call file)) over.steps) over.mount ∙ over.refused;
}

read_ends : (call : TraceCall) (asks : (len file : ℕ) → FileCall) (fds : List Fd) (fd at len : ℕ) (list : List ℕ) (start now : PassState) (result : Result Done Refusal) → IsAskedRead call asks fd at len → length list ≡ len
    → IsReadOverAs asks fds fd at list start now result → EndsSo fds call start now result
read_ends call asks fds fd at len list start now result is size over =
    ends_by fds call start now result (early_refusal can_read start.view.opened.sizes fds fd at (length list)) (file_of_fd fds fd) (λ file. IsReadDoneAs (asks (length list) file) list start now result)
    (is.bars start.view.opened.sizes fds ∙ ap (early_refusal can_read start.view.opened.sizes fds fd at) (sym size))
    (λ one file_is none done.
    by_over fds call one start now (refusal_in_answer result) (place_in_answer result) (ap (file_of_fd fds) is.fd_is ∙ file_is) none
    (subst (λ asked. IsOver asked (refusal_in_answer result) (place_in_answer result) start now) (ap (λ n. asks n one) size ∙ is.asks_is one) done.over))
    over

write_ends : (call : TraceCall) (asks : (file : ℕ) → FileCall) (fds : List Fd) (fd at : ℕ) (bytes : List ℕ) (start now : PassState) (result : Result Done Refusal) → IsAskedWrite call asks fd at bytes
    → IsWriteOverAs asks fds fd at (length bytes) start now result → EndsSo fds call start now result
write_ends call asks fds fd at bytes start now result is over =
    ends_by fds call start now result (early_refusal can_write start.view.opened.sizes fds fd at (length bytes)) (file_of_fd fds fd)
    (λ file. IsOver (asks file) (refusal_in_answer result) (place_in_answer result) start now) (is.bars start.view.opened.sizes fds)
    (λ one file_is none done.
    by_over fds call one start now (refusal_in_answer result) (place_in_answer result) (ap (file_of_fd fds) is.write.fd_is ∙ file_is) none
    (subst (λ asked. IsOver asked (refusal_in_answer result) (place_in_answer result) start now) (is.asks_is one) done))
    over

-- ---- a sync

abbrev step_by : (opens : Option FileCall) (op : Op) (found : ℕ) (old new : PassState) → Postcondition old opens op found new → PassStep
step_by opens op found old new is = record { opens = opens; works = is.works; op = op; found = found }

taken_by : (opens : Option FileCall) (op : Op) (found : ℕ) (old new : PassState) (is : Postcondition old opens op found new) → HasTaken (step_by opens op found old new is) old new
taken_by opens op found old new is = record { before = old; between = record { table = refl; view = refl; spare = refl }; stepped = is; works_are = refl }

same_mount : (opens : Option FileCall) (op : Op) (found : ℕ) (old new : PassState) → Postcondition old opens op found new → new.view.opened ≡ old.view.opened
same_mount opens op found old new is = ap (λ (v : PassView). v.opened) is.steps.is

sync_ends : (fds : List Fd) (fd : ℕ) (file : Option ℕ) (start now : PassState) (result : Result Done Refusal) → file_of_fd fds fd ≡ file → IsSyncRun file start now result → EndsSo fds (Fsync fd) start now result
sync_ends fds fd None start now (Err BadFd) is run = inl record { refusal = BadFd; early = ap unless_file is; result_is = refl; same = run }
sync_ends fds fd (Some file) start now (Err Stopped) is run =
    inr record {
      opened = same_mount (Some (Sync file)) (Load STOP) run.found start now run.stop;
      unbarred = ap unless_file is;
      file = file;
      file_is = is;
      steps = step_by (Some (Sync file)) (Load STOP) run.found start now run.stop ∷ [];
      made = (start, refl, taken_by (Some (Sync file)) (Load STOP) run.found start now run.stop);
      own = (refl, refl);
      refused = ap (λ b. if b then None else Some Stopped) (ne_eqb run.found 0 run.set);
    }
sync_ends fds fd (Some file) start now (Err (Spent found)) is run =
    inr record {
      opened = same_mount None (Load ORDER) found run.begun now run.order ∙ same_mount (Some (Sync file)) (Load STOP) 0 start run.begun run.stop;
      unbarred = ap unless_file is;
      file = file;
      file_is = is;
      steps = step_by None (Load ORDER) found run.begun now run.order ∷ step_by (Some (Sync file)) (Load STOP) 0 start run.begun run.stop ∷ [];
      made = (run.begun, (start, refl, taken_by (Some (Sync file)) (Load STOP) 0 start run.begun run.stop), taken_by None (Load ORDER) found run.begun now run.order);
      own = (refl, refl, (refl, refl));
      refused = ap (λ b. if b then None else Some (Spent found)) (le-ltb found (2 ^ 60) run.spent);
    }
sync_ends fds fd (Some file) start now (Ok done) is run =
    let low = lt-ltb run.found (2 ^ 60) run.low in
    inr record {
      opened = same_mount None (Place Replied) done.place run.loaded now run.places ∙ same_mount None (Load ORDER) run.found run.begun run.loaded run.order
          ∙ same_mount (Some (Sync file)) (Load STOP) 0 start run.begun run.stop;
      unbarred = ap unless_file is;
      file = file;
      file_is = is;
      steps = step_by None (Place Replied) done.place run.loaded now run.places ∷ step_by None (Load ORDER) run.found run.begun run.loaded run.order
          ∷ step_by (Some (Sync file)) (Load STOP) 0 start run.begun run.stop ∷ [];
      made = (
        run.loaded,
        (run.begun, (start, refl, taken_by (Some (Sync file)) (Load STOP) 0 start run.begun run.stop), taken_by None (Load ORDER) run.found run.begun run.loaded run.order),
        taken_by None (Place Replied) done.place run.loaded now run.places,
      );
      own = (refl, ap (λ b. is_own (Sync file) (if b then None else Some (Spent run.found)) (Place Replied)) low, (refl, refl, (refl, refl)));
      refused = ap (λ (b : Bool). either_of (if b then None else Some (Spent run.found)) None) low;
    }
sync_ends fds fd file start now result is run = absurd run

-- ---- any call

pub over_ends : (fds : List Fd) (call : TraceCall) (list : List ℕ) (start now : PassState) (result : Result Done Refusal) → IsTryOver fds call list start now result → EndsSo fds call start now result
over_ends fds (Pread fd at len) list start now result over = read_ends (Pread fd at len) (asks_read at) fds fd at len list start now result (asked_read fd at len) over.0 over.1
over_ends fds (Pwrite fd at bytes) list start now result over = write_ends (Pwrite fd at bytes) (asks_write at bytes) fds fd at bytes start now result (asked_write fd at bytes) over.1
over_ends fds (Preadv fd at lens) list start now result over = read_ends (Preadv fd at lens) (asks_readv at lens) fds fd at (sum lens) list start now result (asked_readv fd at lens) over.0 over.1
over_ends fds (Pwritev fd at parts) list start now result over = write_ends (Pwritev fd at parts) (asks_writev at parts) fds fd at (concat parts) start now result (asked_writev fd at parts) over.1
over_ends fds (Fsync fd) list start now result over = sync_ends fds fd (file_of_fd fds fd) start now result refl over.sync_run

-- ---- one that goes on

-- Nothing barred it, and it is in mid-call.
pub record IsTriedOn (fds : List Fd) (call : TraceCall) (start now : PassState) : Type 0 where
  pub opened : now.view.opened ≡ start.view.opened
  pub unbarred : early_of_call now.view.opened.sizes fds call ≡ None
  pub file : ℕ
  pub file_is : file_of_fd fds (fd_of call) ≡ Some file
  pub mid : IsMidCall (call_on call file) start now

abbrev pub TriesOn : List Fd → TraceCall → (start now : PassState) → Type 0
TriesOn fds call start now = (now ≡ start) ⊎ IsTriedOn fds call start now

on_file : (fds : List Fd) (call : TraceCall) (file : ℕ) (start now : PassState) → now.view.opened ≡ start.view.opened → file_of_fd fds (fd_of call) ≡ Some file → early_of_call start.view.opened.sizes fds call ≡ None
    → IsOnWay (call_on call file) start now → TriesOn fds call start now
on_file fds call file start now same file_is none (inl still) = inl still
on_file fds call file start now same file_is none (inr mid) =
    inr record { opened = same; unbarred = ap (λ (o : Opened). early_of_call o.sizes fds call) same ∙ none; file = file; file_is = file_is; mid = mid }

pub trying_on : (fds : List Fd) (call : TraceCall) (hand : Hand) (start now : PassState) → IsTrying fds call hand start now → TriesOn fds call start now
trying_on fds call hand start now trying = by hand trying
  where
    same : now.view.opened ≡ start.view.opened
    same = (of_trying fds call hand start now trying).mount

    -- a read stands there, asked so
    at_read : (asks : (len file : ℕ) → FileCall) (m : ReadMachine) (list : List ℕ) → IsAskedRead call asks m.fd m.at m.len → (control : ReadControl) → reads.StandsAt asks fds m list start now control → TriesOn fds call start now
    at_read asks m list is read_controls.Begin s = inl s.1
    at_read asks m list is (read_controls.Running running) s =
        on_file fds call s.1.file start now same (ap (file_of_fd fds) is.fd_is ∙ s.1.file_is) (is.bars start.view.opened.sizes fds ∙ s.1.early)
        (subst (λ asked. IsOnWay asked start now) (is.asks_is s.1.file) (read_way start now (asks m.len s.1.file) (Read s.1.file m.at m.len) list _ running s.0 s.1.way.stands s.1.asks))

    -- and a write
    at_write : (asks : (file : ℕ) → FileCall) (m : WriteMachine) (bytes : List ℕ) → IsAskedWrite call asks m.fd m.at bytes → length bytes ≡ m.len → (control : WriteControl) → writes.StandsAt asks fds m bytes start now control
        → TriesOn fds call start now
    at_write asks m bytes is room write_controls.Begin s = inl s.1
    at_write asks m bytes is room (write_controls.Running running) s =
        on_file fds call s.2.file start now same (ap (file_of_fd fds) is.write.fd_is ∙ s.2.file_is)
        (is.bars start.view.opened.sizes fds ∙ ap (early_refusal can_write start.view.opened.sizes fds m.fd m.at) room ∙ s.2.early)
        (subst (λ asked. IsOnWay asked start now) (is.asks_is s.2.file) (lent_way start now (asks s.2.file) (Write s.2.file m.at bytes) s.1 running s.0 s.2.way s.2.asks))

    by : (hand : Hand) → IsTrying fds call hand start now → TriesOn fds call start now
    by (Reading r) t =
        let m = r.machine in
        at_read (asks_read m.at) m r.list.items (subst (λ c. IsAskedRead c (asks_read m.at) m.fd m.at m.len) (sym t.0) (asked_read m.fd m.at m.len)) m.control t.1.stands
    by (Writing m) t = at_write (asks_write m.at t.0) m t.0 (subst (λ c. IsAskedWrite c (asks_write m.at t.0) m.fd m.at t.0) (sym t.1) (asked_write m.fd m.at t.0)) t.2.room m.control t.2.stands
    by (ReadingParts r) t =
        let m = r.machine in
        let lens = r.parts.lens in
        at_read (asks_readv m.at lens) m r.parts.list
        (subst (λ c. IsAskedRead c (asks_readv m.at lens) m.fd m.at m.len) (sym t.0) (subst (IsAskedRead (Preadv m.fd m.at lens) (asks_readv m.at lens) m.fd m.at) t.1 (asked_readv m.fd m.at lens))) m.control t.2.stands
    by (WritingParts w) t =
        let m = w.machine in
        at_write (asks_writev m.at w.parts) m (concat w.parts) (subst (λ c. IsAskedWrite c (asks_writev m.at w.parts) m.fd m.at (concat w.parts)) (sym t.0) (asked_writev m.fd m.at w.parts)) t.1.room m.control t.1.stands
    by (Syncing m) t = subst (λ (c : TraceCall). TriesOn fds c start now) (sym t.0) (at_sync m.control t.1)
      where
        at_sync : (control : SyncControl) → syncs.StandsAt fds m.fd start now control → TriesOn fds (Fsync m.fd) start now
        at_sync sync_controls.Begin s = inl s.1
        at_sync (sync_controls.Running running) s =
            on_file fds (Fsync m.fd) s.1.file start now same s.1.file_is (ap unless_file s.1.file_is)
            (sync_way start now (Sync s.1.file) running.asked running.control s.0 s.1.running.way.1 s.1.running.asks)

-- ---- tries before it began anew

-- The last of some tries of a call was over by its steps, and refused by what makes the call begin anew.
pub record HasBegunAnew (fds : List Fd) (call : TraceCall) (start now : PassState) : Type 0 where
  pub begun : PassState
  pub idle : IsIdle begun
  pub refusal : Refusal
  pub anew : begins_anew_by call refusal ≡ true
  pub ended : HasEndedBy fds call begun now (Some refusal)
  pub opened : now.view.opened ≡ start.view.opened

last_try : (laws : CallLaws) (fds : List Fd) (call : TraceCall) (start begun now : PassState) (refusal : Refusal) → IsMount (mount_of start.view.opened) → IsIdle start → WereTried fds call start begun → begins_anew_by call refusal ≡ true
    → EndsSo fds call begun now (Err refusal) → HasBegunAnew fds call start now
last_try laws fds call start begun now refusal mount idle tried anew (inl early) =
    absurd (true≢false (sym anew ∙ ap (begins_anew_by call) (err_same refusal early.refusal early.result_is) ∙ for_good begun.view.opened.sizes fds call early.refusal early.early))
  where
    err_same : (one other : Refusal) → ◌≡◌ {A = Result Done Refusal} (Err one) (Err other) → one ≡ other
    err_same one other same = cc
last_try laws fds call start begun now refusal mount idle tried anew (inr ended) =
    let before = tried_since laws fds call start begun mount tried in
    record { begun = begun; idle = before.idle idle; refusal = refusal; anew = anew; ended = ended; opened = ended.opened ∙ before.opened }

busy_anew : (laws : CallLaws) (call : TraceCall) (asks : (len file : ℕ) → FileCall) (fds : List Fd) (fd at len : ℕ) (tries : List Try) (start now : PassState) → IsAskedRead call asks fd at len → IsMount (mount_of start.view.opened) → IsIdle start
    → WereBusyAs asks fds fd at len tries start now → (now ≡ start) ⊎ HasBegunAnew fds call start now
busy_anew laws call asks fds fd at len [] start now is mount idle same = inl same
busy_anew laws call asks fds fd at len (last ∷ earlier) start now is mount idle busy =
    inr (last_try laws fds call start busy.0 now (Busy last.cell) mount idle (is.tried_is fds start busy.0 earlier busy.1) (is.busy last.cell)
    (read_ends call asks fds fd at len last.list busy.0 now (Err (Busy last.cell)) is busy.2 busy.3))

again_anew : (laws : CallLaws) (call : TraceCall) (asks : (file : ℕ) → FileCall) (fds : List Fd) (fd at : ℕ) (bytes : List ℕ) (tries : List Refusal) (start now : PassState) → IsAskedWrite call asks fd at bytes → IsMount (mount_of start.view.opened) → IsIdle start
    → WereMadeAgainAs asks fds fd at (length bytes) tries start now → (now ≡ start) ⊎ HasBegunAnew fds call start now
again_anew laws call asks fds fd at bytes [] start now is mount idle same = inl same
again_anew laws call asks fds fd at bytes (last ∷ earlier) start now is mount idle again =
    inr (last_try laws fds call start again.0 now last mount idle (is.tried_is fds start again.0 earlier again.1) (is.anew last ∙ again.2) (write_ends call asks fds fd at bytes again.0 now (Err last) is again.3))

pub tried_anew : (laws : CallLaws) (fds : List Fd) (call : TraceCall) (start now : PassState) → IsMount (mount_of start.view.opened) → IsIdle start → WereTried fds call start now → (now ≡ start) ⊎ HasBegunAnew fds call start now
tried_anew laws fds (Pread fd at len) start now mount idle tried = busy_anew laws (Pread fd at len) (asks_read at) fds fd at len tried.0 start now (asked_read fd at len) mount idle tried.1
tried_anew laws fds (Pwrite fd at bytes) start now mount idle tried = again_anew laws (Pwrite fd at bytes) (asks_write at bytes) fds fd at bytes tried.0 start now (asked_write fd at bytes) mount idle tried.1
tried_anew laws fds (Preadv fd at lens) start now mount idle tried = busy_anew laws (Preadv fd at lens) (asks_readv at lens) fds fd at (sum lens) tried.0 start now (asked_readv fd at lens) mount idle tried.1
tried_anew laws fds (Pwritev fd at parts) start now mount idle tried = again_anew laws (Pwritev fd at parts) (asks_writev at parts) fds fd at (concat parts) tried.0 start now (asked_writev fd at parts) mount idle tried.1
tried_anew laws fds (Fsync fd) start now mount idle same = inl same
