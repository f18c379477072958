-- Answers: a call that is made one step at a time is answered as one that is made whole.
use Rattle.std.proofs.Common.{◌≡◌, ℕ, Bool, true, false, ◌&&◌, List, [], ◌∷◌, ◌++◌, length, refl, sym, ap, subst, ◌∙◌}
use Rattle.std.specs.List.{concat, sum}
use Rattle.std.specs.Prelude.{IfOk, OnErr, Option, Some, None, Result, Ok, Err, take}
use Rattle.std.proofs.lemmas.Bool.{true≢false}
use Rattle.nv_plain.specs.Modes.{can_read, can_write}
use Rattle.nv_plain.specs.declared.call.FileCall.TheVariants.{Sync}
use Rattle.nv_plain.specs.declared.call.FileCall.{FileCall}
use Rattle.nv_plain.specs.declared.call.Reply.{Reply}
use Rattle.nv_plain.specs.declared.call.Reply.TheVariants as replies
use Rattle.nv_core.specs.state.Words.{Sizes}
use Rattle.nv_core.specs.invariant.InvariantLaws.{RunsAreSound}
use Rattle.nv_core.specs.steps.Frames.{OwnEventsTell}
use Rattle.nv_core.specs.steps.Opening.{IsMount}
use Rattle.nv_table.specs.invariant.Drawn.{drawn_by}
use Rattle.nv_table.specs.invariant.Idle.{IsIdle, IsLater}
use Rattle.nv_table.specs.state.Opened.{Opened, mount_of}
use Rattle.nv_table.specs.state.States.{PassState}
use Rattle.nv_table.specs.state.Views.{PassView}
use Rattle.nv_table.proofs.steps.CallLaws.{later_on, later_self}
use Rattle.nv_mount.specs.declared.fds.Fd.{Fd}
use Rattle.nv_mirror.specs.Answers.{IsPlacedAs, IsSyncPlaced, IsUnplaced, place_in_answer, refusal_in_answer}
use Rattle.nv_mirror.specs.Controls.{IsOver}
use Rattle.nv_mirror.specs.PassSteps.{is_fault}
use Rattle.nv_mirror.specs.declared.answers.Done.{Done}
use Rattle.nv_mirror.specs.declared.answers.Refusal.{Refusal}
use Rattle.nv_mirror.specs.declared.answers.Refusal.TheVariants.{Busy, BadFd, Raced, RegionFault, Spent, Stopped, StoreFault}
use Rattle.nv_calls.specs.calls.EarlyRefusals.{early_refusal}
use Rattle.nv_calls.specs.calls.EndedCalls.{IsOverBy}
use Rattle.nv_calls.specs.fsync.SyncMachines.{IsSyncEnded}
use Rattle.nv_calls.specs.fsync.SyncRuns.{IsSyncRun, file_of_fd}
use Rattle.nv_calls.specs.histories.Faults.{OpensBy, ReadsOpenNothingAs, SyncsOpenNothing, WritesOpenAs, open_writes}
use Rattle.nv_calls.specs.histories.Heeds.{CallsHeedStop, HasSeenStop, HeedsStop, SyncsHeedStop}
use Rattle.nv_calls.specs.histories.Tries.{IsTriedAs, Try, WereBusyAs}
use Rattle.nv_calls.specs.reads.Reads.{IsReadDoneAs, IsReadOverAs}
use Rattle.nv_calls.specs.writes.WriteLaws.{RefusedWritesLeaveWordsAs}
use Rattle.nv_calls.specs.writes.Writes.{IsWriteOverAs, IsWriteTriedAs, WereMadeAgainAs, is_made_again}
use Rattle.nv_calls.specs.calls.Asks.{IsMadeAsRead, asks_read, asks_readv, asks_write, asks_writev}
use Rattle.nv_calls.proofs.reads.OverLaws.{call_over}
use Rattle.nv_trace.specs.declared.trace_call.TraceCall.{TraceCall}
use Rattle.nv_trace.specs.declared.trace_call.TraceCall.TheVariants.{Pread, Pwrite, Preadv, Pwritev, Fsync}
use Rattle.nv_runner.specs.declared.answer.Answer.{Answer}
use Rattle.nv_runner.specs.declared.answer.Answer.TheVariants.{Placed, Refused}
use Rattle.nv_runner.specs.Calls.{IsAdmitted, IsAnswered, Tells, opened_by, says_stop, wants_room}
use Rattle.nv_runner.specs.OpenWrites.{without_place}
use Rattle.nv_runner.specs.Lists.{AreMade, MadeCall}
use Rattle.nv_runner.specs.Runs.{GoesOn}
use Rattle.nv_runner.specs.TryLaws.{ReadsGoOn, SyncsGoOn, WritesGoOn, write_drawn}
use Rattle.nv_runner.specs.Tries.{AnswersAs}
use Rattle.nv_runner.proofs.CallLaws.{read_admitted, without_answers, write_admitted}
use Rattle.nv_runner.proofs.OpenLaws.{told_behind}
use Rattle.nv_runner.proofs.TryLaws.{answer_on, write_answer_on}
use Rattle.nv_schedule.specs.Callers.{AreAnswered, IsAnsweredBy}
use Rattle.nv_schedule.specs.Tries.{IsTryOver, WereTried, answer_of, begins_anew, begins_anew_by, refused_answer, reply_to}
use Rattle.nv_schedule.proofs.AskedLaws.{IsAskedRead, IsAskedWrite, asked_read, asked_readv, asked_write, asked_writev}
use Rattle.nv_schedule.proofs.turns.WayLaws.{over_idle}

-- the laws of calls
pub record CallLaws : Type 0 where
  pub calls_heed : CallsHeedStop
  pub syncs_heed : SyncsHeedStop
  pub writes_leave : RefusedWritesLeaveWordsAs
  pub writes_open : WritesOpenAs
  pub reads_open : ReadsOpenNothingAs
  pub syncs_open : SyncsOpenNothing
  pub reads_go : ReadsGoOn
  pub writes_go : WritesGoOn
  pub syncs_go : SyncsGoOn
  pub sound : RunsAreSound
  pub tell : OwnEventsTell

-- ---- tries

-- A pass has placed nothing since, and is idle again.
pub record IsSince (start now : PassState) : Type 0 where
  pub later : IsLater start now
  pub unplaced : IsUnplaced start.view now.view
  pub opened : now.view.opened ≡ start.view.opened
  pub idle : IsIdle start → IsIdle now
  pub stays : HasSeenStop start → HasSeenStop now

since_self : (pass : PassState) → IsSince pass pass
since_self pass = record { later = later_self pass; unplaced = record { seen = refl; mine = refl }; opened = refl; idle = λ i. i; stays = λ s. s }

since_on : (old middle new : PassState) → IsSince old middle → IsSince middle new → IsSince old new
since_on old middle new one more = record {
  later = later_on old middle new one.later more.later;
  unplaced = record { seen = more.unplaced.seen ∙ one.unplaced.seen; mine = more.unplaced.mine ∙ one.unplaced.mine };
  opened = more.opened ∙ one.opened;
  idle = λ i. more.idle (one.idle i);
  stays = λ s. more.stays (one.stays s);
}

mounted : (old new : PassState) → new.view.opened ≡ old.view.opened → IsMount (mount_of old.view.opened) → IsMount (mount_of new.view.opened)
mounted old new same mount = subst (λ (o : Opened). IsMount (mount_of o)) (sym same) mount

-- a call that is over
record HasGone (start now : PassState) : Type 0 where
  later : IsLater start now
  opened : now.view.opened ≡ start.view.opened

gone_by : (early : Option Refusal) (file : Option ℕ) (IsDone : ℕ → Type 0) (start now : PassState) (result : Result Done Refusal) → ((one : ℕ) → IsDone one → HasGone start now) → IsOverBy early file IsDone start now result → HasGone start now
gone_by (Some bar) file IsDone start now result by over = subst (HasGone start) (sym over.1) (record { later = later_self start; opened = refl })
gone_by None file IsDone start now result by over = by over.0 over.2

unplaced_by : (early : Option Refusal) (file : Option ℕ) (IsDone : ℕ → Type 0) (start now : PassState) (result : Result Done Refusal) → ((one : ℕ) → IsDone one → IsUnplaced start.view now.view)
    → IsOverBy early file IsDone start now result → IsUnplaced start.view now.view
unplaced_by (Some bar) file IsDone start now result by over = subst (λ (p : PassState). IsUnplaced start.view p.view) (sym over.1) (record { seen = refl; mine = refl })
unplaced_by None file IsDone start now result by over = by over.0 over.2

done_by : (early : Option Refusal) (file : Option ℕ) (IsDone : ℕ → Type 0) (start now : PassState) (done : Done) → IsOverBy early file IsDone start now (Ok done) → (one : ℕ) × (file ≡ Some one) × IsDone one
done_by (Some bar) file IsDone start now done over = absurd (differ over.0)
  where
    differ : ◌≡◌ {A = Result Done Refusal} (Ok done) (Err bar) → ⊥
    differ is = cc
done_by None file IsDone start now done over = over

-- ---- reads

pub read_heeds : CallLaws → (asks : (len file : ℕ) → FileCall) (fds : List Fd) (fd at : ℕ) (list : List ℕ) (start now : PassState) (result : Result Done Refusal) → IsMount (mount_of start.view.opened) → IsReadOverAs asks fds fd at list start now result
    → HeedsStop start now result
read_heeds laws asks fds fd at list start now result mount over =
    laws.calls_heed can_read fds fd at (length list) (asks (length list)) start now result mount (call_over asks fds fd at list start now result over)

pub write_heeds : CallLaws → (asks : (file : ℕ) → FileCall) (fds : List Fd) (fd at len : ℕ) (start now : PassState) (result : Result Done Refusal) → IsMount (mount_of start.view.opened) → IsWriteOverAs asks fds fd at len start now result
    → HeedsStop start now result
write_heeds laws asks fds fd at len start now result mount over = laws.calls_heed can_write fds fd at len asks start now result mount over

module _ (asks : (len file : ℕ) → FileCall) (fds : List Fd) (fd at : ℕ) (list : List ℕ) (start now : PassState) (result : Result Done Refusal) (over : IsReadOverAs asks fds fd at list start now result) where
  read_gone : HasGone start now
  read_gone =
      gone_by (early_refusal can_read start.view.opened.sizes fds fd at (length list)) (file_of_fd fds fd) (λ file. IsReadDoneAs (asks (length list) file) list start now result) start now result
      (λ one is. record { later = is.over.later; opened = is.over.mount }) over

read_unplaced : (asks : (len file : ℕ) → FileCall) (fds : List Fd) (fd at : ℕ) (list : List ℕ) (start now : PassState) (refusal : Refusal) → IsReadOverAs asks fds fd at list start now (Err refusal) → IsUnplaced start.view now.view
read_unplaced asks fds fd at list start now refusal over =
    unplaced_by (early_refusal can_read start.view.opened.sizes fds fd at (length list)) (file_of_fd fds fd) (λ file. IsReadDoneAs (asks (length list) file) list start now (Err refusal)) start now (Err refusal) (λ one is. is.told) over

module _ (laws : CallLaws) (call : TraceCall) (asks : (len file : ℕ) → FileCall) (fds : List Fd) (fd at len : ℕ) (is : IsAskedRead call asks fd at len) where
  read_since : (list : List ℕ) (start now : PassState) (refusal : Refusal) → IsMount (mount_of start.view.opened) → length list ≡ len → IsReadOverAs asks fds fd at list start now (Err refusal) → IsSince start now
  read_since list start now refusal mount size over =
      let gone = read_gone asks fds fd at list start now (Err refusal) over in
      record {
        later = gone.later;
        unplaced = read_unplaced asks fds fd at list start now refusal over;
        opened = gone.opened;
        idle = λ idle. over_idle fds call list start now (Err refusal) idle (is.over_is fds list start now (Err refusal) size over);
        stays = (read_heeds laws asks fds fd at list start now (Err refusal) mount over).stays;
      }

  busy_since : (tries : List Try) (start now : PassState) → IsMount (mount_of start.view.opened) → WereBusyAs asks fds fd at len tries start now → IsSince start now
  busy_since [] start now mount same = subst (IsSince start) (sym same) (since_self start)
  busy_since (last ∷ earlier) start now mount busy =
      let before = busy_since earlier start busy.0 mount busy.1 in
      since_on start busy.0 now before (read_since last.list busy.0 now (Busy last.cell) (mounted start busy.0 before.opened mount) busy.2 busy.3)

-- ---- writes

module _ (asks : (file : ℕ) → FileCall) (fds : List Fd) (fd at len : ℕ) (start now : PassState) where
  write_gone : (result : Result Done Refusal) → IsWriteOverAs asks fds fd at len start now result → HasGone start now
  write_gone result over =
      gone_by (early_refusal can_write start.view.opened.sizes fds fd at len) (file_of_fd fds fd) (λ file. IsOver (asks file) (refusal_in_answer result) (place_in_answer result) start now) start now result
      (λ one is. record { later = is.later; opened = is.mount }) over

  write_unplaced : (refusal : Refusal) → IsWriteOverAs asks fds fd at len start now (Err refusal) → IsUnplaced start.view now.view
  write_unplaced refusal over =
      unplaced_by (early_refusal can_write start.view.opened.sizes fds fd at len) (file_of_fd fds fd) (λ file. IsOver (asks file) (Some refusal) None start now) start now (Err refusal) (λ one is. is.told) over

module _ (laws : CallLaws) (call : TraceCall) (asks : (file : ℕ) → FileCall) (fds : List Fd) (fd at : ℕ) (bytes : List ℕ) (is : IsAskedWrite call asks fd at bytes) where
  write_since : (start now : PassState) (refusal : Refusal) → IsMount (mount_of start.view.opened) → IsWriteOverAs asks fds fd at (length bytes) start now (Err refusal) → IsSince start now
  write_since start now refusal mount over =
      let gone = write_gone asks fds fd at (length bytes) start now (Err refusal) over in
      record {
        later = gone.later;
        unplaced = write_unplaced asks fds fd at (length bytes) start now refusal over;
        opened = gone.opened;
        idle = λ idle. over_idle fds call [] start now (Err refusal) idle (is.over_is fds [] start now (Err refusal) tt over);
        stays = (write_heeds laws asks fds fd at (length bytes) start now (Err refusal) mount over).stays;
      }

  again_since : (tries : List Refusal) (start now : PassState) → IsMount (mount_of start.view.opened) → WereMadeAgainAs asks fds fd at (length bytes) tries start now → IsSince start now
  again_since [] start now mount same = subst (IsSince start) (sym same) (since_self start)
  again_since (last ∷ earlier) start now mount again =
      let before = again_since earlier start again.0 mount again.1 in
      since_on start again.0 now before (write_since again.0 now last (mounted start again.0 before.opened mount) again.3)

-- all tries of a call
pub tried_since : CallLaws → (fds : List Fd) (call : TraceCall) (start now : PassState) → IsMount (mount_of start.view.opened) → WereTried fds call start now → IsSince start now
tried_since laws fds (Pread fd at len) start now mount tried = busy_since laws (Pread fd at len) (asks_read at) fds fd at len (asked_read fd at len) tried.0 start now mount tried.1
tried_since laws fds (Pwrite fd at bytes) start now mount tried = again_since laws (Pwrite fd at bytes) (asks_write at bytes) fds fd at bytes (asked_write fd at bytes) tried.0 start now mount tried.1
tried_since laws fds (Preadv fd at lens) start now mount tried = busy_since laws (Preadv fd at lens) (asks_readv at lens) fds fd at (sum lens) (asked_readv fd at lens) tried.0 start now mount tried.1
tried_since laws fds (Pwritev fd at parts) start now mount tried = again_since laws (Pwritev fd at parts) (asks_writev at parts) fds fd at (concat parts) (asked_writev fd at parts) tried.0 start now mount tried.1
tried_since laws fds (Fsync fd) start now mount same = subst (IsSince start) (sym same) (since_self start)

-- ---- the answer of a read

module _ (laws : CallLaws) (call : TraceCall) (asks : (len file : ℕ) → FileCall) (fds : List Fd) (fd at len : ℕ) (is : IsAskedRead call asks fd at len) (start begun now : PassState) (list : List ℕ) (mount : IsMount (mount_of start.view.opened))
    (idle : IsIdle start) (tries : List Try) (busy : WereBusyAs asks fds fd at len tries start begun) (size : length list ≡ len) where
  read_before : IsSince start begun
  read_before = busy_since laws call asks fds fd at len is tries start begun mount busy

  made_so : IsMadeAsRead asks at (length list)
  made_so = subst (IsMadeAsRead asks at) (sym size) is.made

  module _ (result : Result Done Refusal) (over : IsReadOverAs asks fds fd at list begun now result) where
    read_heeded : HeedsStop begun now result
    read_heeded = read_heeds laws asks fds fd at list begun now result (mounted start begun read_before.opened mount) over

    read_tried : IsTriedAs asks fds fd at list start now result
    read_tried = record { tries = tries; last = begun; busy = subst (λ n. WereBusyAs asks fds fd at n tries start begun) (sym size) busy; over = over; stays = read_before.stays; heeds = read_heeded }

    read_idle : IsIdle now
    read_idle = over_idle fds call list begun now result (read_before.idle idle) (is.over_is fds list begun now result size over)

    -- all but what it tells
    read_answered : (answer : Answer) → AnswersAs answer result → Tells fds None call start now answer → (says_stop answer ≡ true → HasSeenStop now)
        → IsAdmitted now.view.opened.sizes fds call answer → opened_by fds call answer ≡ []
        → IfOk result (λ done. (file : ℕ) × (reply : Reply) × IsPlacedAs start.view now.view (asks (length list) file) reply done.place) → OnErr result (IsUnplaced start.view now.view) → IsAnswered fds None call start now answer
    read_answered answer answers told stop admitted none placed unplaced =
        let gone = read_gone asks fds fd at list begun now result over in
        record {
          opened = gone.opened ∙ read_before.opened;
          later = later_on start begun now read_before.later gone.later;
          made = record { result = result; by = is.made_is fds start now result (list, size, read_tried); answers = answers };
          told = told;
          stays = λ seen. read_heeded.stays (read_before.stays seen);
          stop = stop;
          opens = laws.reads_open asks fds fd at list start now result made_so mount read_tried ∙ sym (ap (λ l. l ++ open_writes start) none);
          admitted = admitted;
          on = answer_on None now.view.opened.sizes call answer start now (is.takes now.view.opened.sizes.page) (laws.reads_go fds asks fd at list start now result made_so mount idle read_idle placed unplaced read_tried);
        }

  read_done : (done : Done) → IsReadOverAs asks fds fd at list begun now (Ok done) → IsAnswered fds None call start now (Placed done.place (reply_to call list done.len))
  read_done done over =
      let early = early_refusal can_read begun.view.opened.sizes fds fd at (length list) in
      let one = done_by early (file_of_fd fds fd) (λ file. IsReadDoneAs (asks (length list) file) list begun now (Ok done)) begun now done over in
      let told = is.tells fds list start begun now done size read_before.later read_before.unplaced read_before.opened (one.0, one.1, one.2.told) in
      read_answered (Ok done) over (Placed done.place (reply_to call list done.len)) (done.len, refl) told
      (λ says. absurd (cc)) (is.admits now.view.opened.sizes fds (read_admitted asks fds fd at len list begun now done size over)) refl (
        told.0,
        reply_to call list done.len,
        subst (λ asked. IsPlacedAs start.view now.view asked (reply_to call list done.len) done.place) (sym (ap (λ n. asks n told.0) size ∙ is.asks_is told.0)) told.2,
      ) tt

  read_refused : (refusal : Refusal) → IsReadOverAs asks fds fd at list begun now (Err refusal) → begins_anew_by call refusal ≡ false → IsAnswered fds None call start now (Refused refusal)
  read_refused refusal over good =
      let still = since_on start begun now read_before (read_since laws call asks fds fd at len is list begun now refusal (mounted start begun read_before.opened mount) size over) in
      read_answered (Err refusal) over (Refused refusal) refl (record { kept = still.unplaced; lasting = is.lasting refusal good }) (read_heeded (Err refusal) over).told tt refl tt still.unplaced

-- ---- of a write

unbarred : (sizes : Sizes) (fds : List Fd) (call : TraceCall) (refusal : Refusal) (drawn : Option ℕ) → IsAdmitted sizes fds call (without_place refusal drawn)
unbarred sizes fds call RegionFault (Some number) = tt
unbarred sizes fds call RegionFault None = tt
unbarred sizes fds call StoreFault (Some number) = tt
unbarred sizes fds call StoreFault None = tt
unbarred sizes fds call refusal drawn = tt

no_room : (b : Bool) → false ≡ (b && false)
no_room true = refl
no_room false = refl

module _ (laws : CallLaws) (call : TraceCall) (asks : (file : ℕ) → FileCall) (fds : List Fd) (fd at : ℕ) (bytes : List ℕ) (is : IsAskedWrite call asks fd at bytes) (start begun now : PassState) (mount : IsMount (mount_of start.view.opened))
    (idle : IsIdle start) (tries : List Refusal) (again : WereMadeAgainAs asks fds fd at (length bytes) tries start begun) where
  write_before : IsSince start begun
  write_before = again_since laws call asks fds fd at bytes is tries start begun mount again

  mount_then : IsMount (mount_of begun.view.opened)
  mount_then = mounted start begun write_before.opened mount

  module _ (result : Result Done Refusal) (count : IfOk result (λ (done : Done). done.len ≡ length bytes)) (over : IsWriteOverAs asks fds fd at (length bytes) begun now result) where
    write_tried : IsWriteTriedAs asks fds fd at (length bytes) start now result
    write_tried = record {
      tries = tries;
      last = begun;
      again = again;
      over = over;
      left = laws.writes_leave asks fds fd at bytes begun now result is.made mount_then (write_before.idle idle) over;
      stays = write_before.stays;
      heeds = write_heeds laws asks fds fd at (length bytes) begun now result mount_then over;
    }

    write_idle : IsIdle now
    write_idle = over_idle fds call [] begun now result (write_before.idle idle) (is.over_is fds [] begun now result count over)

    write_goes_on : now.view.opened ≡ start.view.opened → IfOk result (λ done. (file : ℕ) × (reply : Reply) × IsPlacedAs start.view now.view (asks file) reply done.place) → OnErr result (IsUnplaced start.view now.view)
        → GoesOn None (write_drawn now.view.opened.sizes at (length bytes) result) start now
    write_goes_on same placed unplaced =
        subst (λ (o : Opened). GoesOn None (write_drawn o.sizes at (length bytes) result) start now) (sym same) (laws.writes_go fds asks fd at bytes start now result is.made mount idle write_idle placed unplaced write_tried)

  write_done : (done : Done) → done.len ≡ length bytes → IsWriteOverAs asks fds fd at (length bytes) begun now (Ok done) → IsAnswered fds None call start now (Placed done.place (replies.Count (length bytes)))
  unfolding write_tried
  write_done done count over =
      let early = early_refusal can_write begun.view.opened.sizes fds fd at (length bytes) in
      let one = done_by early (file_of_fd fds fd) (λ file. IsOver (asks file) None (Some done.place) begun now) begun now done over in
      let there = one.2.told in
      let told = is.tells fds start begun now done count write_before.later write_before.unplaced write_before.opened
      (one.0, one.1, subst (λ (reply : Reply). IsPlacedAs begun.view now.view (asks one.0) reply done.place) (is.counts one.0 there.0 there.1) there.2) in
      let gone = write_gone asks fds fd at (length bytes) begun now (Ok done) over in
      let tried = write_tried (Ok done) count over in
      record {
        opened = gone.opened ∙ write_before.opened;
        later = later_on start begun now write_before.later gone.later;
        made = record { result = Ok done; by = is.made_is fds start now (Ok done) record { full = []; last = start; before = refl; tried = tried }; answers = (done.len, refl) };
        told = told;
        stays = λ seen. tried.heeds.stays (write_before.stays seen);
        stop = λ says. absurd (cc);
        opens = laws.writes_open asks fds fd at bytes start now (Ok done) is.made mount tried;
        admitted = is.admits now.view.opened.sizes fds (write_admitted asks fds fd at (length bytes) start now done tried);
        on = subst (λ n. GoesOn None n start now) (sym (is.takes now.view.opened.sizes.page))
            (write_goes_on (Ok done) count over (gone.opened ∙ write_before.opened)
            (told.0, replies.Count (length bytes), subst (λ asked. IsPlacedAs start.view now.view asked (replies.Count (length bytes)) done.place) (sym (is.asks_is told.0)) told.2) tt);
      }

  write_refused : (refusal : Refusal) (answer : Answer) → IsWriteOverAs asks fds fd at (length bytes) begun now (Err refusal) → is_made_again refusal ≡ false → answer ≡ without_place refusal (drawn_by now.view)
      → IsAnswered fds None call start now answer
  unfolding write_tried
  write_refused refusal answer over good answer_is =
      let gone = write_gone asks fds fd at (length bytes) begun now (Err refusal) over in
      let still = since_on start begun now write_before (write_since laws call asks fds fd at bytes is begun now refusal mount_then over) in
      let tried = write_tried (Err refusal) tt over in
      let so = told_behind asks fds None call fd at bytes start.view.opened start start now now refusal false answer is.write (write_idle (Err refusal) tt over) refl refl (record { seen = refl; mine = refl }) still.unplaced refl tried
      (laws.writes_open asks fds fd at bytes start now (Err refusal) is.made mount tried) good (no_room (wants_room refusal)) refl (λ none. refl) answer_is in
      record {
        opened = gone.opened ∙ write_before.opened;
        later = later_on start begun now write_before.later gone.later;
        made = record {
          result = Err refusal;
          by = is.made_is fds start now (Err refusal) record { full = []; last = start; before = refl; tried = tried };
          answers = subst (λ (a : Answer). AnswersAs a (Err refusal)) (sym answer_is) (without_answers refusal (drawn_by now.view));
        };
        told = so.told;
        stays = λ seen. tried.heeds.stays (write_before.stays seen);
        stop = so.stop;
        opens = so.opens;
        admitted = subst (IsAdmitted now.view.opened.sizes fds call) (sym answer_is) (unbarred now.view.opened.sizes fds call refusal (drawn_by now.view));
        on = write_answer_on fds None now.view.opened.sizes at (length bytes) call start now refusal (drawn_by now.view) answer (is.takes now.view.opened.sizes.page) is.lasts answer_is so.told
            (write_goes_on (Err refusal) tt over (gone.opened ∙ write_before.opened) tt still.unplaced);
      }

  -- with the answer that it has
  write_over : (list : List ℕ) (result : Result Done Refusal) → IfOk result (λ (done : Done). done.len ≡ length bytes) → IsWriteOverAs asks fds fd at (length bytes) begun now result → begins_anew call result ≡ false
      → IsAnswered fds None call start now (answer_of call list result (drawn_by now.view))
  write_over list (Ok done) count over good =
      subst (λ reply. IsAnswered fds None call start now (Placed done.place reply)) (ap replies.Count (sym count) ∙ sym (is.replies_so list done.len)) (write_done done count over)
  write_over list (Err refusal) count over good = write_refused refusal (refused_answer call refusal (drawn_by now.view)) over (sym (is.anew refusal) ∙ good) (is.refused_so refusal (drawn_by now.view))

-- ---- of a sync

sync_opened : (file : Option ℕ) (old new : PassState) (result : Result Done Refusal) → IsSyncRun file old new result → new.view.opened ≡ old.view.opened
sync_opened None old new (Err BadFd) run = ap (λ (p : PassState). p.view.opened) run
sync_opened (Some file) old new (Err Stopped) run = ap (λ (v : PassView). v.opened) run.stop.steps.is
sync_opened (Some file) old new (Err (Spent found)) run = ap (λ (v : PassView). v.opened) run.order.steps.is ∙ ap (λ (v : PassView). v.opened) run.stop.steps.is
sync_opened (Some file) old new (Ok done) run =
    ap (λ (v : PassView). v.opened) run.places.steps.is ∙ ap (λ (v : PassView). v.opened) run.order.steps.is ∙ ap (λ (v : PassView). v.opened) run.stop.steps.is
sync_opened file old new result run = absurd run

sync_file : (file : Option ℕ) (old new : PassView) (place : ℕ) → IsSyncPlaced file old new place → (one : ℕ) × (file ≡ Some one) × IsPlacedAs old new (Sync one) replies.Done place
sync_file (Some file) old new place placed = (file, refl, placed.0)
sync_file None old new place placed = absurd placed

module _ (laws : CallLaws) (fds : List Fd) (fd : ℕ) (start now : PassState) (mount : IsMount (mount_of start.view.opened)) (idle : IsIdle start) where
  sync_done : (done : Done) → IsSyncEnded (file_of_fd fds fd) start now (Ok done) → IsAnswered fds None (Fsync fd) start now (Placed done.place replies.Done)
  sync_done done over = record {
    opened = sync_opened (file_of_fd fds fd) start now (Ok done) over.sync_run;
    later = over.later;
    made = record { result = Ok done; by = over.sync_run; answers = (done.len, refl) };
    told = sync_file (file_of_fd fds fd) start.view now.view done.place over.told.0;
    stays = (laws.syncs_heed fds fd start now (Ok done) mount over.sync_run).stays;
    stop = λ says. absurd (cc);
    opens = laws.syncs_open fds fd start now (Ok done) over.sync_run;
    admitted = tt;
    on = answer_on None now.view.opened.sizes (Fsync fd) (Placed done.place replies.Done) start now refl (laws.syncs_go fds fd start now (Ok done) mount idle over.idle over.told.0 tt over.sync_run);
  }

  sync_refused : (refusal : Refusal) → IsSyncEnded (file_of_fd fds fd) start now (Err refusal) → IsAnswered fds None (Fsync fd) start now (Refused refusal)
  sync_refused refusal over = record {
    opened = sync_opened (file_of_fd fds fd) start now (Err refusal) over.sync_run;
    later = over.later;
    made = record { result = Err refusal; by = over.sync_run; answers = refl };
    told = record { kept = over.told; lasting = tt };
    stays = (laws.syncs_heed fds fd start now (Err refusal) mount over.sync_run).stays;
    stop = (laws.syncs_heed fds fd start now (Err refusal) mount over.sync_run).told;
    opens = laws.syncs_open fds fd start now (Err refusal) over.sync_run;
    admitted = tt;
    on = answer_on None now.view.opened.sizes (Fsync fd) (Refused refusal) start now refl (laws.syncs_go fds fd start now (Err refusal) mount idle over.idle tt over.told over.sync_run);
  }

-- ---- of any call

over_answered : CallLaws → (fds : List Fd) (call : TraceCall) (start begun now : PassState) (list : List ℕ) (result : Result Done Refusal) → IsMount (mount_of start.view.opened) → IsIdle start → WereTried fds call start begun
    → IsTryOver fds call list begun now result → begins_anew call result ≡ false → IsAnswered fds None call start now (answer_of call list result (drawn_by now.view))
over_answered laws fds (Pread fd at len) start begun now list (Ok done) mount idle tried over good =
    read_done laws (Pread fd at len) (asks_read at) fds fd at len (asked_read fd at len) start begun now list mount idle tried.0 tried.1 over.0 done over.1
over_answered laws fds (Pread fd at len) start begun now list (Err refusal) mount idle tried over good =
    read_refused laws (Pread fd at len) (asks_read at) fds fd at len (asked_read fd at len) start begun now list mount idle tried.0 tried.1 over.0 refusal over.1 good
over_answered laws fds (Preadv fd at lens) start begun now list (Ok done) mount idle tried over good =
    read_done laws (Preadv fd at lens) (asks_readv at lens) fds fd at (sum lens) (asked_readv fd at lens) start begun now list mount idle tried.0 tried.1 over.0 done over.1
over_answered laws fds (Preadv fd at lens) start begun now list (Err refusal) mount idle tried over good =
    read_refused laws (Preadv fd at lens) (asks_readv at lens) fds fd at (sum lens) (asked_readv fd at lens) start begun now list mount idle tried.0 tried.1 over.0 refusal over.1 good
over_answered laws fds (Pwrite fd at bytes) start begun now list result mount idle tried over good =
    write_over laws (Pwrite fd at bytes) (asks_write at bytes) fds fd at bytes (asked_write fd at bytes) start begun now mount idle tried.0 tried.1 list result over.0 over.1 good
over_answered laws fds (Pwritev fd at parts) start begun now list result mount idle tried over good =
    write_over laws (Pwritev fd at parts) (asks_writev at parts) fds fd at (concat parts) (asked_writev fd at parts) start begun now mount idle tried.0 tried.1 list result over.0 over.1 good
over_answered laws fds (Fsync fd) start begun now list (Ok done) mount idle same over good =
    sync_done laws fds fd start now mount idle done (subst (λ (p : PassState). IsSyncEnded (file_of_fd fds fd) p now (Ok done)) same over)
over_answered laws fds (Fsync fd) start begun now list (Err refusal) mount idle same over good =
    sync_refused laws fds fd start now mount idle refusal (subst (λ (p : PassState). IsSyncEnded (file_of_fd fds fd) p now (Err refusal)) same over)

pub call_answered : CallLaws → (fds : List Fd) (call : TraceCall) (start now : PassState) (answer : Answer) → IsMount (mount_of start.view.opened) → IsIdle start → IsAnsweredBy fds call start now answer
    → IsAnswered fds None call start now answer × IsIdle now
call_answered laws fds call start now answer mount idle by = (
  subst (IsAnswered fds None call start now) (sym by.answer_is) (over_answered laws fds call start by.begun now by.list by.result mount idle by.tried by.over by.for_good),
  over_idle fds call by.list by.begun now by.result ((tried_since laws fds call start by.begun mount by.tried).idle idle) by.over,
)

-- ---- tries open nothing

again_mild : (refusal : Refusal) → is_made_again refusal ≡ true → is_fault (Some refusal) ≡ false
again_mild (Busy cell) again = refl
again_mild (Raced seen found) again = refl
again_mild refusal again = absurd (cc)

busy_opens : (laws : CallLaws) (call : TraceCall) (asks : (len file : ℕ) → FileCall) (fds : List Fd) (fd at len : ℕ) (is : IsAskedRead call asks fd at len) (tries : List Try) (start now : PassState) → IsMount (mount_of start.view.opened) → IsIdle start
    → WereBusyAs asks fds fd at len tries start now → open_writes now ≡ open_writes start
busy_opens laws call asks fds fd at len is [] start now mount idle same = ap open_writes same
busy_opens laws call asks fds fd at len is (last ∷ earlier) start now mount idle busy =
    laws.reads_open asks fds fd at last.list start now (Err (Busy last.cell)) (subst (IsMadeAsRead asks at) (sym busy.2) is.made) mount
    (read_tried laws call asks fds fd at len is start busy.0 now last.list mount idle earlier busy.1 busy.2 (Err (Busy last.cell)) busy.3)

again_opens : (laws : CallLaws) (call : TraceCall) (asks : (file : ℕ) → FileCall) (fds : List Fd) (fd at : ℕ) (bytes : List ℕ) (is : IsAskedWrite call asks fd at bytes) (tries : List Refusal) (start now : PassState) → IsMount (mount_of start.view.opened) → IsIdle start
    → WereMadeAgainAs asks fds fd at (length bytes) tries start now → open_writes now ≡ open_writes start
again_opens laws call asks fds fd at bytes is [] start now mount idle same = ap open_writes same
again_opens laws call asks fds fd at bytes is (last ∷ earlier) start now mount idle again =
    subst (λ b. OpensBy b fds fd at bytes start now) (again_mild last again.2)
    (laws.writes_open asks fds fd at bytes start now (Err last) is.made mount (write_tried laws call asks fds fd at bytes is start again.0 now mount idle earlier again.1 (Err last) tt again.3))

pub tried_opens : CallLaws → (fds : List Fd) (call : TraceCall) (start now : PassState) → IsMount (mount_of start.view.opened) → IsIdle start → WereTried fds call start now → open_writes now ≡ open_writes start
tried_opens laws fds (Pread fd at len) start now mount idle tried = busy_opens laws (Pread fd at len) (asks_read at) fds fd at len (asked_read fd at len) tried.0 start now mount idle tried.1
tried_opens laws fds (Pwrite fd at bytes) start now mount idle tried = again_opens laws (Pwrite fd at bytes) (asks_write at bytes) fds fd at bytes (asked_write fd at bytes) tried.0 start now mount idle tried.1
tried_opens laws fds (Preadv fd at lens) start now mount idle tried = busy_opens laws (Preadv fd at lens) (asks_readv at lens) fds fd at (sum lens) (asked_readv fd at lens) tried.0 start now mount idle tried.1
tried_opens laws fds (Pwritev fd at parts) start now mount idle tried = again_opens laws (Pwritev fd at parts) (asks_writev at parts) fds fd at (concat parts) (asked_writev fd at parts) tried.0 start now mount idle tried.1
tried_opens laws fds (Fsync fd) start now mount idle same = ap open_writes same

-- ---- the calls of a thread

pub record HaveBeenMade (fds : List Fd) (made : List MadeCall) (start last : PassState) : Type 0 where
  pub each : AreMade fds None made start last
  pub idle : IsIdle last
  pub opened : last.view.opened ≡ start.view.opened
  pub number : last.view.number ≡ start.view.number

pub all_answered : CallLaws → (fds : List Fd) (made : List MadeCall) (start last : PassState) → IsMount (mount_of start.view.opened) → IsIdle start → AreAnswered fds made start last → HaveBeenMade fds made start last
all_answered laws fds [] start last mount idle same = subst (HaveBeenMade fds [] start) (sym same) (record { each = refl; idle = idle; opened = refl; number = refl })
all_answered laws fds (m ∷ later) start last mount idle are =
    let one = call_answered laws fds m.call.call start are.0 m.answer mount idle are.1 in
    let rest = all_answered laws fds later are.0 last (mounted start are.0 one.0.opened mount) one.1 are.2 in
    record { each = (are.0, one.0, rest.each); idle = rest.idle; opened = rest.opened ∙ one.0.opened; number = rest.number ∙ one.0.later.number }
