-- Ways: what is so of a pass whose call is tried, or whose try is over.
use Rattle.std.proofs.Common.{◌≡◌, ℕ, true, List, [], ◌∷◌, ◌++◌, length, inl, inr, refl, sym, ap, subst, ◌∙◌}
use Rattle.std.specs.Borrow.{Bor}
use Rattle.std.specs.List.{concat}
use Rattle.nv_plain.specs.Calls.{filled}
use Rattle.std.specs.Prelude.{Option, Some, None, Result, Ok, Err, take}
use Rattle.nv_plain.specs.Modes.{can_read, can_write}
use Rattle.nv_plain.specs.declared.call.FileCall.{FileCall}
use Rattle.nv_plain.specs.declared.call.FileCall.TheVariants.{Read, Write, Readv, Writev, Sync}
use Rattle.nv_plain.specs.Made.{reply_from}
use Rattle.nv_core.specs.state.Passes.{at_of, file_of}
use Rattle.nv_table.specs.steps.SeatSteps.{with_call}
use Rattle.nv_op.specs.declared.asked.Asked.{Asked}
use Rattle.nv_mirror.specs.Fronts as front
use Rattle.nv_mirror.specs.declared.front.FrontControl.{FrontControl}
use Rattle.nv_mirror.specs.declared.front.FrontControl.TheVariants as fronts
use Rattle.nv_mirror.specs.declared.front.FrontMachine.{FrontMachine}
use Rattle.nv_core.specs.steps.Opening.{IsMount}
use Rattle.nv_table.specs.invariant.Idle.{IsIdle}
use Rattle.nv_table.specs.passes.PassesMade.{IsShownStill}
use Rattle.nv_table.proofs.steps.CallLaws.{idle_is_still}
use Rattle.nv_table.specs.state.Opened.{mount_of}
use Rattle.nv_table.specs.state.States.{PassState}
use Rattle.nv_table.specs.state.Views.{pass_of}
use Rattle.nv_mount.specs.declared.fds.Fd.{Fd}
use Rattle.nv_plain.specs.declared.call.Reply.{Reply}
use Rattle.nv_plain.specs.declared.call.Reply.TheVariants as replies
use Rattle.nv_mirror.specs.Answers.{IsPlacedAs, IsListPlaced, IsUnplaced, place_in_answer, refusal_in_answer}
use Rattle.nv_mirror.specs.Controls.{InCall, IsOver, IsReplyTo, IsUnbegunCall, Mirror, Told}
use Rattle.nv_mirror.specs.OwnSteps.{AreOwnSoFar}
use Rattle.nv_mirror.specs.PassSteps.{HasMade, PassStep}
use Rattle.nv_mirror.specs.declared.answers.Done.{Done}
use Rattle.nv_mirror.specs.declared.answers.Refusal.{Refusal}
use Rattle.nv_mirror.specs.declared.answers.Refusal.TheVariants.{Busy}
use Rattle.nv_cache.specs.declared.read.RunningRead.{RunningRead}
use Rattle.nv_cache.specs.declared.read.RunningRead.TheVariants as running_reads
use Rattle.nv_cache.specs.RunningReads as read
use Rattle.nv_cache.specs.ReadSteps.{answer_at, read_answer}
use Rattle.nv_cache.specs.Searches.{search_call_of}
use Rattle.nv_mirror.specs.Loads.{load_call_of}
use Rattle.nv_mirror.specs.Pageless as pageless
use Rattle.nv_mirror.specs.Pageless.{pageless_place_at}
use Rattle.nv_mirror.specs.declared.pageless.PagelessControl.{PagelessControl}
use Rattle.nv_mirror.specs.declared.pageless.PagelessControl.TheVariants as pageless_controls
use Rattle.nv_ring.specs.declared.write.RunningWrite.{RunningWrite}
use Rattle.nv_ring.specs.declared.write.RunningWrite.TheVariants as running_writes
use Rattle.nv_ring.specs.RunningWrites as write
use Rattle.nv_ring.specs.WriteSteps.{with_list, write_place}
use Rattle.nv_op.specs.Ops.{call_asked, opened_by}
use Rattle.nv_calls.specs.calls.Asks.{asks_read, asks_readv, asks_write, asks_writev}
use Rattle.nv_calls.specs.calls.CallAnswers.{done_at}
use Rattle.nv_calls.specs.calls.EarlyRefusals.{early_refusal}
use Rattle.nv_calls.specs.calls.EndedCalls.{IsOverBy}
use Rattle.nv_calls.specs.declared.reading.ReadControl.{ReadControl}
use Rattle.nv_calls.specs.declared.reading.ReadControl.TheVariants as read_controls
use Rattle.nv_calls.specs.declared.syncing.SyncControl.{SyncControl}
use Rattle.nv_calls.specs.declared.syncing.SyncControl.TheVariants as sync_controls
use Rattle.nv_calls.specs.declared.writing.WriteControl.{WriteControl}
use Rattle.nv_calls.specs.declared.writing.WriteControl.TheVariants as write_controls
use Rattle.nv_calls.specs.fsync.SyncMachines as syncs
use Rattle.nv_calls.specs.fsync.SyncRuns.{file_of_fd}
use Rattle.nv_calls.specs.reads.ReadMachines as reads
use Rattle.nv_calls.specs.reads.Reads.{IsReadDone, IsReadDoneAs}
use Rattle.nv_calls.specs.writes.WriteLaws.{RefusedWritesLeaveWordsAs}
use Rattle.nv_calls.specs.writes.WriteMachines as writes
use Rattle.nv_trace.specs.declared.trace_call.TraceCall.{TraceCall}
use Rattle.nv_trace.specs.declared.trace_call.TraceCall.TheVariants.{Pread, Pwrite, Preadv, Pwritev, Fsync}
use Rattle.nv_schedule.proofs.AskedLaws.{listed_bytes, readv_placed}
use Rattle.nv_schedule.proofs.FaultLaws.{IsBehindCall, own_of_call}
use Rattle.nv_schedule.specs.declared.hand.Hand.{Hand}
use Rattle.nv_schedule.specs.declared.hand.Hand.TheVariants.{Reading, Writing, ReadingParts, WritingParts, Syncing}
use Rattle.nv_schedule.specs.Hands.{IsTrying}
use Rattle.nv_runner.specs.Calls.{call_on, fd_of}
use Rattle.nv_schedule.specs.Listed.{placed_at_hand, reply_at_hand}
use Rattle.nv_schedule.specs.Tries.{IsTryOver, WereTried, begins_anew}

-- the call of a file has its place, and this reply there; or the history is as its pass saw it at the start
abbrev HasToldSo : FileCall → (reply : ℕ → Reply) → Option Done → (begun now : PassState) → Type 0
HasToldSo call reply None begun now = IsUnplaced begun.view now.view
HasToldSo call reply (Some done) begun now = IsPlacedAs begun.view now.view call (reply done.len) done.place

-- Its pass was idle at the start, and has put nothing back; it is the same mount; no device call has come since its last step; and that, if there is any since the start, is one of a call.
record UnderwayOf (call : FileCall) (reply : ℕ → Reply) (done : Option Done) (begun now : PassState) : Type 0 where
  pub idle : IsIdle begun
  pub left : (pass_of now.view).left ≡ []
  pub mount : now.view.opened ≡ begun.view.opened
  pub number : now.view.number ≡ begun.view.number
  pub still : IsShownStill now
  pub told : HasToldSo call reply done begun now
  pub behind : IsBehindCall begun now

way_of : {State : Type 0} (mirror : Mirror State) (asked call : FileCall) (opens : Option FileCall) (is : State) (refusal : Option Refusal) (place : Option ℕ) (begun now : PassState) (reply : ℕ → Reply) (done : Option Done)
    → HasToldSo asked reply done begun now → InCall mirror call opens is refusal place begun now → UnderwayOf asked reply done begun now
way_of mirror asked call opens is refusal place begun now reply done told c = record {
  idle = c.idle;
  left = c.left;
  mount = c.mount;
  number = c.later.number;
  still = c.still;
  told = told;
  behind = last_of c.asked opens c.steps c.made c.own c.fresh;
}
  where
    last_of : (asked : FileCall) (opens : Option FileCall) (steps : List PassStep) → HasMade steps begun now → AreOwnSoFar opens now.view.opened.sizes asked call steps → IsUnbegunCall opens begun now → IsBehindCall begun now
    last_of asked (Some one) steps made own fresh = inl fresh
    last_of asked None [] made own fresh = absurd own
    last_of asked None (step ∷ []) made own fresh = inr (step, made.0, made.2, own_of_call call None step.op own.1)
    last_of asked None (step ∷ (other ∷ earlier)) made own fresh = inr (step, made.0, made.2, own_of_call call _ step.op own.1)

-- what a call has told that has begun
told_as : {State : Type 0} (mirror : Mirror State) (asked call : FileCall) (is : State) (refusal : Option Refusal) (place : Option ℕ) (begun now : PassState) → (pass_of now.view).asked ≡ asked
    → InCall mirror call None is refusal place begun now → Told asked place begun now
told_as mirror asked call is refusal place begun now asks c = subst (λ one. Told one place begun now) (sym c.asks ∙ asks) c.told

-- A call in mid-call has its place already.
pub record HasPlaceAlready (fds : List Fd) (call : TraceCall) (reply : Reply) (place : ℕ) (begun now : PassState) : Type 0 where
  pub file : ℕ
  pub file_is : file_of_fd fds (fd_of call) ≡ Some file
  pub placed : IsPlacedAs begun.view now.view (call_on call file) reply place

-- or the history is as its pass saw it before
abbrev pub IsPresentTold : List Fd → TraceCall → (reply : ℕ → Reply) → Option Done → (begun now : PassState) → Type 0
IsPresentTold fds call reply None begun now = IsUnplaced begun.view now.view
IsPresentTold fds call reply (Some done) begun now = HasPlaceAlready fds call (reply done.len) done.place begun now

-- so is that of a descriptor's file
pub record Underway (fds : List Fd) (call : TraceCall) (reply : ℕ → Reply) (done : Option Done) (begun now : PassState) : Type 0 where
  pub idle : IsIdle begun
  pub left : (pass_of now.view).left ≡ []
  pub mount : now.view.opened ≡ begun.view.opened
  pub number : now.view.number ≡ begun.view.number
  pub still : IsShownStill now
  pub told : IsPresentTold fds call reply done begun now
  pub behind : IsBehindCall begun now

of_file : (fds : List Fd) (call : TraceCall) (file : ℕ) (begun now : PassState) (reply : ℕ → Reply) (done : Option Done) → file_of_fd fds (fd_of call) ≡ Some file → UnderwayOf (call_on call file) reply done begun now
    → Underway fds call reply done begun now
of_file fds call file begun now reply done file_is way = record { idle = way.idle; left = way.left; mount = way.mount; number = way.number; still = way.still; told = by done way.told; behind = way.behind }
  where
    by : (answer : Option Done) → HasToldSo (call_on call file) reply answer begun now → IsPresentTold fds call reply answer begun now
    by None none = none
    by (Some answer) placed = record { file = file; file_is = file_is; placed = placed }

of_begin : (fds : List Fd) (call : TraceCall) (begun now : PassState) (reply : ℕ → Reply) → IsIdle begun → now ≡ begun → Underway fds call reply None begun now
of_begin fds call begun now reply idle same =
    subst (Underway fds call reply None begun) (sym same) record { idle = idle; left = idle.left; mount = refl; number = refl; still = idle_is_still begun idle; told = record { seen = refl; mine = refl }; behind = inl refl }

-- ---- a read that is tried

-- the first bytes of its list are its reply, or what its parts get
abbrev first_of : List ℕ → ℕ → Reply
first_of list len = replies.Bytes (take len list)

abbrev parts_of : (lens list : List ℕ) → ℕ → Reply
parts_of lens list len = replies.Parts (filled lens (take len list))

read_placed : (call : FileCall) (list : List ℕ) (begun now : PassState) (done : Done) → call ≡ Read (file_of call) (at_of call) (length list) → IsListPlaced call list begun.view now.view done
    → HasToldSo call (first_of list) (Some done) begun now
read_placed call list begun now done asks is =
    subst (λ bytes. IsPlacedAs begun.view now.view call (replies.Bytes bytes) done.place) (sym (listed_bytes call list begun.view now.view done is))
    (subst (λ c. IsPlacedAs begun.view now.view call (reply_from c (replies.Bytes is.bytes)) done.place) asks is.placed)

-- one without a page has no place before it is over
pageless_told : (given asked : FileCall) (reply : ℕ → Reply) (answer : Option ℕ → Option Done) (control : PagelessControl) (begun now : PassState) → answer None ≡ None → pageless.IsOpen control
    → Told given (pageless_place_at control) begun now → HasToldSo asked reply (answer (pageless_place_at control)) begun now
pageless_told given asked reply answer control begun now none open_ told =
    subst (λ place. Told given place begun now → HasToldSo asked reply (answer place) begun now) (sym (unplaced control open_)) (λ told. subst (λ done. HasToldSo asked reply done begun now) (sym none) told) told
  where
    unplaced : (control : PagelessControl) → pageless.IsOpen control → pageless_place_at control ≡ None
    unplaced pageless_controls.Begin open_ = refl
    unplaced pageless_controls.LoadOrder open_ = refl
    unplaced pageless_controls.TakePlace open_ = refl
    unplaced (pageless_controls.Over result) open_ = absurd open_

module _ (asked call : FileCall) (reply : ℕ → Reply) (list room : List ℕ) (begun now : PassState) (placed : (done : Done) → IsListPlaced asked list begun.view now.view done → HasToldSo asked reply (Some done) begun now) where
  of_read : (r : RunningRead) → read.IsOpen r → read.StandsAt call r list room begun now → read.asked_in asked r now ≡ asked → UnderwayOf asked reply (read_answer r) begun now
  of_read (running_reads.Pageless m) open_ s asks = way_of _ asked _ _ _ _ _ begun now reply _ (pageless_told _ asked reply (λ place. answer_at place 0) m.control begun now refl open_ s.1.1.told) s.1.1
  of_read (running_reads.Front m) open_ s asks = way_of _ asked _ _ _ _ _ begun now reply None s.1.1.told s.1.1
  of_read (running_reads.Search of_ m) open_ s asks = way_of _ asked _ _ _ _ _ begun now reply None s.3.called.told s.3.called
  of_read (running_reads.Load of_ m) open_ s asks = way_of _ asked _ _ _ _ _ begun now reply None s.3.1.called.told s.3.1.called
  of_read (running_reads.TakePlace m) open_ s asks = way_of _ asked _ _ _ _ _ begun now reply None s.2.1.called.told s.2.1.called
  of_read (running_reads.Release m copied) open_ s asks =
      way_of _ asked _ _ _ _ _ begun now reply (Some record { place = m.place; len = copied })
      (placed record { place = m.place; len = copied } (subst (λ c. IsListPlaced c list begun.view now.view record { place = m.place; len = copied }) asks s.2)) s.1.1
  of_read (running_reads.Over result) open_ s asks = absurd open_

-- ---- a write

-- It counts all its bytes.
module _ (asked call : FileCall) (len : ℕ) (begun now : PassState) (counts : (reply : Reply) → IsReplyTo asked reply → reply ≡ replies.Count len) where
  write_told : (place : Option ℕ) → Told asked place begun now → HasToldSo asked replies.Count (done_at len place) begun now
  write_told None told = told
  write_told (Some place) told = subst (λ reply. IsPlacedAs begun.view now.view asked reply place) (counts told.0 told.1) told.2

  of_write : (w : RunningWrite) → write.IsOpen w → write.IsUnderWay call w begun now → write.asked_in asked w now ≡ asked → UnderwayOf asked replies.Count (done_at len (write_place w)) begun now
  of_write (running_writes.Pageless m) open_ s asks = way_of _ asked _ _ _ _ _ begun now replies.Count _ (pageless_told _ asked replies.Count (done_at len) m.control begun now refl open_ s.1.1.told) s.1.1
  of_write (running_writes.Front m) open_ s asks = way_of _ asked _ _ _ _ _ begun now replies.Count None s.2.1.told s.2.1
  of_write (running_writes.Draw m) open_ s asks = way_of _ asked _ _ _ _ _ begun now replies.Count None s.1.1.called.told s.1.1.called
  of_write (running_writes.Append m) open_ s asks = way_of _ asked _ _ _ _ _ begun now replies.Count _ (write_told _ (told_as _ asked _ _ _ _ begun now asks s.1.1.called)) s.1.1.called
  of_write (running_writes.Release m) open_ s asks = way_of _ asked _ _ _ _ _ begun now replies.Count (done_at len (Some m.place)) (write_told (Some m.place) (told_as _ asked _ _ _ _ begun now asks s.1.1)) s.1.1
  of_write (running_writes.Over result) open_ s asks = absurd open_

  of_put_in : (lent : Bor (List ℕ)) (w : RunningWrite) → write.IsOpen w → write.IsUnderWay call (with_list lent w) begun now → write.asked_in asked (with_list lent w) now ≡ asked → UnderwayOf asked replies.Count (done_at len (write_place w)) begun now
  of_put_in lent (running_writes.Pageless w) open_ way asks = of_write (with_list lent (running_writes.Pageless w)) open_ way asks
  of_put_in lent (running_writes.Front w) open_ way asks = of_write (with_list lent (running_writes.Front w)) open_ way asks
  of_put_in lent (running_writes.Draw w) open_ way asks = of_write (with_list lent (running_writes.Draw w)) open_ way asks
  of_put_in lent (running_writes.Append w) open_ way asks = of_write (with_list lent (running_writes.Append w)) open_ way asks
  of_put_in lent (running_writes.Release w) open_ way asks = of_write (with_list lent (running_writes.Release w)) open_ way asks
  of_put_in lent (running_writes.Over result) open_ way asks = absurd open_

-- ---- any call that is tried

pub of_trying : (fds : List Fd) (call : TraceCall) (hand : Hand) (begun now : PassState) → IsTrying fds call hand begun now → Underway fds call (reply_at_hand hand) (placed_at_hand hand) begun now
of_trying fds call (Reading r) begun now t = subst (λ (c : TraceCall). Underway fds c (first_of r.list.items) (reads.placed_by r.machine) begun now) (sym t.0) (at_read r.machine.control t.1.stands)
  where
    at_read : (control : ReadControl) → reads.StandsAt (asks_read r.machine.at) fds r.machine r.list.items begun now control
        → Underway fds (Pread r.machine.fd r.machine.at r.machine.len) (first_of r.list.items) (reads.answer_at control) begun now
    at_read read_controls.Begin s = of_begin fds _ begun now (first_of r.list.items) s.0 s.1
    at_read (read_controls.Running running) s =
        let asked = Read s.1.file r.machine.at r.machine.len in
        of_file fds (Pread r.machine.fd r.machine.at r.machine.len) s.1.file begun now (first_of r.list.items) (read_answer running) s.1.file_is
        (of_read asked asked (first_of r.list.items) r.list.items _ begun now (λ done. read_placed asked r.list.items begun now done s.1.way.asks) running s.0 s.1.way.stands s.1.asks)
of_trying fds call (Writing m) begun now t = subst (λ (c : TraceCall). Underway fds c replies.Count (writes.placed_by m) begun now) (sym t.1) (at_write m.control t.2.stands)
  where
    at_write : (control : WriteControl) → writes.StandsAt (asks_write m.at t.0) fds m t.0 begun now control → Underway fds (Pwrite m.fd m.at t.0) replies.Count (done_at m.len (writes.place_at control)) begun now
    at_write write_controls.Begin s = of_begin fds _ begun now replies.Count s.0 s.1
    at_write (write_controls.Running running) s =
        let asked = Write s.2.file m.at t.0 in
        of_file fds (Pwrite m.fd m.at t.0) s.2.file begun now replies.Count (done_at m.len (write_place running)) s.2.file_is
        (of_put_in asked asked m.len begun now (λ reply is. is ∙ ap replies.Count t.2.room) s.1 running s.0 s.2.way s.2.asks)
of_trying fds call (ReadingParts r) begun now t = subst (λ (c : TraceCall). Underway fds c (parts_of r.parts.lens r.parts.list) (reads.placed_by r.machine) begun now) (sym t.0) (at_read r.machine.control t.2.stands)
  where
    at_read : (control : ReadControl) → reads.StandsAt (asks_readv r.machine.at r.parts.lens) fds r.machine r.parts.list begun now control
        → Underway fds (Preadv r.machine.fd r.machine.at r.parts.lens) (parts_of r.parts.lens r.parts.list) (reads.answer_at control) begun now
    at_read read_controls.Begin s = of_begin fds _ begun now (parts_of r.parts.lens r.parts.list) s.0 s.1
    at_read (read_controls.Running running) s =
        of_file fds (Preadv r.machine.fd r.machine.at r.parts.lens) s.1.file begun now (parts_of r.parts.lens r.parts.list) (read_answer running) s.1.file_is
        (of_read (Readv s.1.file r.machine.at r.parts.lens) (Read s.1.file r.machine.at r.machine.len) (parts_of r.parts.lens r.parts.list) r.parts.list _ begun now
        (λ done is. readv_placed s.1.file r.machine.at r.parts.lens r.parts.list begun.view now.view done is) running s.0 s.1.way.stands s.1.asks)
of_trying fds call (WritingParts w) begun now t = subst (λ (c : TraceCall). Underway fds c replies.Count (writes.placed_by w.machine) begun now) (sym t.0) (at_write w.machine.control t.1.stands)
  where
    at_write : (control : WriteControl) → writes.StandsAt (asks_writev w.machine.at w.parts) fds w.machine (concat w.parts) begun now control
        → Underway fds (Pwritev w.machine.fd w.machine.at w.parts) replies.Count (done_at w.machine.len (writes.place_at control)) begun now
    at_write write_controls.Begin s = of_begin fds _ begun now replies.Count s.0 s.1
    at_write (write_controls.Running running) s =
        of_file fds (Pwritev w.machine.fd w.machine.at w.parts) s.2.file begun now replies.Count (done_at w.machine.len (write_place running)) s.2.file_is
        (of_put_in (Writev s.2.file w.machine.at w.parts) (Write s.2.file w.machine.at (concat w.parts)) w.machine.len begun now (λ reply is. is ∙ ap replies.Count t.1.room) s.1 running s.0 s.2.way s.2.asks)
of_trying fds call (Syncing m) begun now t = subst (λ (c : TraceCall). Underway fds c (λ len. replies.Done) (syncs.placed_by m) begun now) (sym t.0) (at_sync m.control t.1)
  where
    at_sync : (control : SyncControl) → syncs.StandsAt fds m.fd begun now control → Underway fds (Fsync m.fd) (λ len. replies.Done) (done_at 0 (pageless_place_at (syncs.at_step control))) begun now
    at_sync sync_controls.Begin s = of_begin fds _ begun now (λ len. replies.Done) s.0 s.1
    at_sync (sync_controls.Running running) s =
        of_file fds (Fsync m.fd) s.1.file begun now (λ len. replies.Done) (done_at 0 (pageless_place_at running.control)) s.1.file_is
        (way_of _ (Sync s.1.file) _ _ _ _ _ begun now (λ len. replies.Done) _
        (pageless_told _ (Sync s.1.file) (λ len. replies.Done) (done_at 0) running.control begun now refl s.0 s.1.running.way.1.told) s.1.running.way.1)

-- ---- a try that is over

-- its pass is idle again
pub over_idle : (fds : List Fd) (call : TraceCall) (list : List ℕ) (begun now : PassState) (result : Result Done Refusal) → IsIdle begun → IsTryOver fds call list begun now result → IsIdle now
over_idle fds (Pread fd at len) list begun now result idle over = by (early_refusal can_read begun.view.opened.sizes fds fd at (length list)) over.1
  where
    by : (early : Option Refusal) → IsOverBy early (file_of_fd fds fd) (λ file. IsReadDone file at list begun now result) begun now result → IsIdle now
    by (Some bar) ended = subst IsIdle (sym ended.1) idle
    by None ended = ended.2.over.idle
over_idle fds (Pwrite fd at bytes) list begun now result idle over = by (early_refusal can_write begun.view.opened.sizes fds fd at (length bytes)) over.1
  where
    by : (early : Option Refusal) → IsOverBy early (file_of_fd fds fd) (λ file. IsOver (Write file at bytes) (refusal_in_answer result) (place_in_answer result) begun now) begun now result → IsIdle now
    by (Some bar) ended = subst IsIdle (sym ended.1) idle
    by None ended = ended.2.idle
over_idle fds (Preadv fd at lens) list begun now result idle over = by (early_refusal can_read begun.view.opened.sizes fds fd at (length list)) over.1
  where
    by : (early : Option Refusal) → IsOverBy early (file_of_fd fds fd) (λ file. IsReadDoneAs (Readv file at lens) list begun now result) begun now result → IsIdle now
    by (Some bar) ended = subst IsIdle (sym ended.1) idle
    by None ended = ended.2.over.idle
over_idle fds (Pwritev fd at parts) list begun now result idle over = by (early_refusal can_write begun.view.opened.sizes fds fd at (length (concat parts))) over.1
  where
    by : (early : Option Refusal) → IsOverBy early (file_of_fd fds fd) (λ file. IsOver (Writev file at parts) (refusal_in_answer result) (place_in_answer result) begun now) begun now result → IsIdle now
    by (Some bar) ended = subst IsIdle (sym ended.1) idle
    by None ended = ended.2.idle
over_idle fds (Fsync fd) list begun now result idle over = over.idle

-- one try more, after which the call begins anew
pub tried_more : RefusedWritesLeaveWordsAs → (fds : List Fd) (call : TraceCall) (list : List ℕ) (last begun now : PassState) (result : Result Done Refusal) → IsMount (mount_of begun.view.opened) → IsIdle begun
    → WereTried fds call last begun → IsTryOver fds call list begun now result → begins_anew call result ≡ true → WereTried fds call last now
tried_more leave fds (Pread fd at len) list last begun now (Err (Busy cell)) mount idle tried over anew = (record { cell = cell; list = list } ∷ tried.0, (begun, tried.1, over.0, over.1))
tried_more leave fds (Pread fd at len) list last begun now (Err refusal) mount idle tried over anew = absurd (cc)
tried_more leave fds (Pread fd at len) list last begun now (Ok done) mount idle tried over anew = absurd (cc)
tried_more leave fds (Pwrite fd at bytes) list last begun now (Err refusal) mount idle tried over anew =
    (refusal ∷ tried.0, (begun, tried.1, anew, over.1, leave (asks_write at bytes) fds fd at bytes begun now (Err refusal) (λ file. refl) mount idle over.1))
tried_more leave fds (Pwrite fd at bytes) list last begun now (Ok done) mount idle tried over anew = absurd (cc)
tried_more leave fds (Preadv fd at lens) list last begun now (Err (Busy cell)) mount idle tried over anew = (record { cell = cell; list = list } ∷ tried.0, (begun, tried.1, over.0, over.1))
tried_more leave fds (Preadv fd at lens) list last begun now (Err refusal) mount idle tried over anew = absurd (cc)
tried_more leave fds (Preadv fd at lens) list last begun now (Ok done) mount idle tried over anew = absurd (cc)
tried_more leave fds (Pwritev fd at parts) list last begun now (Err refusal) mount idle tried over anew =
    (refusal ∷ tried.0, (begun, tried.1, anew, over.1, leave (asks_writev at parts) fds fd at (concat parts) begun now (Err refusal) (λ file. refl) mount idle over.1))
tried_more leave fds (Pwritev fd at parts) list last begun now (Ok done) mount idle tried over anew = absurd (cc)
tried_more leave fds (Fsync fd) list last begun now (Err refusal) mount idle tried over anew = absurd (cc)
tried_more leave fds (Fsync fd) list last begun now (Ok done) mount idle tried over anew = absurd (cc)
