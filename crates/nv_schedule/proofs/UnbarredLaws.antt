-- Unbarred: a call that has its place, also in mid-call, is not barred.
use Rattle.std.proofs.Common.{◌≡◌, ℕ, suc, ◌<◌, Bool, true, false, List, [], ◌∷◌, length, inl, inr, refl, sym, ap, subst, ◌∙◌, arith}
use Rattle.std.specs.Prelude.{None, Ok, Option, Result, Some, slice_index_or}
use Rattle.nv_plain.specs.Modes.{can_write}
use Rattle.nv_plain.specs.declared.call.Reply.{Reply}
use Rattle.nv_core.specs.state.Passes.{IsOneOf}
use Rattle.nv_core.specs.state.Words.{Sizes}
use Rattle.nv_core.specs.steps.Opening.{IsMount}
use Rattle.nv_table.specs.invariant.Drawn.{drawn_by}
use Rattle.nv_table.specs.state.Opened.{Opened, mount_of}
use Rattle.nv_table.specs.state.States.{PassState}
use Rattle.nv_mount.specs.Mounts.{MountState}
use Rattle.nv_mount.specs.declared.fds.Fd.{Fd}
use Rattle.nv_mirror.specs.PassSteps.{either_of}
use Rattle.nv_mirror.specs.Pageless.{pageless_place_at}
use Rattle.nv_mirror.specs.declared.answers.Done.{Done}
use Rattle.nv_calls.specs.calls.CallAnswers.{done_at}
use Rattle.nv_calls.specs.calls.EarlyRefusals.{early_refusal}
use Rattle.nv_calls.specs.declared.reading.ReadControl.{ReadControl}
use Rattle.nv_calls.specs.declared.reading.ReadControl.TheVariants as read_controls
use Rattle.nv_calls.specs.declared.syncing.SyncControl.{SyncControl}
use Rattle.nv_calls.specs.declared.syncing.SyncControl.TheVariants as sync_controls
use Rattle.nv_calls.specs.declared.writing.WriteControl.{WriteControl}
use Rattle.nv_calls.specs.declared.writing.WriteControl.TheVariants as write_controls
use Rattle.nv_calls.specs.calls.Asks.{asks_read, asks_readv, asks_write, asks_writev}
use Rattle.nv_plain.specs.declared.call.FileCall.{FileCall}
use Rattle.nv_plain.specs.Modes.{can_read}
use Rattle.std.specs.List.{concat}
use Rattle.nv_calls.specs.declared.reading.ReadMachine.{ReadMachine}
use Rattle.nv_calls.specs.declared.writing.WriteMachine.{WriteMachine}
use Rattle.nv_calls.specs.fsync.SyncMachines as syncs
use Rattle.nv_calls.specs.fsync.SyncRuns.{file_of_fd}
use Rattle.nv_calls.specs.reads.ReadMachines as reads
use Rattle.nv_calls.specs.writes.WriteMachines as writes
use Rattle.nv_trace.specs.declared.token.Token.{Token}
use Rattle.nv_trace.specs.declared.trace_call.TraceCall.{TraceCall}
use Rattle.nv_trace.specs.declared.trace_call.TraceCall.TheVariants.{Pread, Pwrite, Preadv, Pwritev, Fsync}
use Rattle.nv_trace.specs.declared.trace_call.TracedCall.{TracedCall}
use Rattle.nv_runner.specs.declared.answer.Answer.{Answer}
use Rattle.nv_runner.specs.declared.answer.Answer.TheVariants.{Placed}
use Rattle.nv_runner.specs.Calls.{IsUnbarred, fd_of}
use Rattle.nv_runner.specs.Lists.{AreMade, MadeCall}
use Rattle.nv_runner.specs.Refusals.{early_of_call, unless_file}
use Rattle.nv_runner.proofs.histories.HistoryMembers.{one_either}
use Rattle.nv_runner.proofs.ShiftRuns.{chain, made_at_one}
use Rattle.nv_schedule.specs.Callers.{IsAtCall, ThreadHasCome, ThreadState}
use Rattle.nv_schedule.specs.Hands.{IsTrying}
use Rattle.nv_schedule.specs.Listed.{all_listed, has_drawn_at_hand, listed, listed_as, listed_by, listed_of, listed_present, open_answer, placed_answer, placed_at_hand, reply_at_hand, told_at_hand, told_present}
use Rattle.nv_schedule.specs.RefusedCalls.{PlacedAreUnbarred}
use Rattle.nv_schedule.specs.Scheduled.{HasFollowed}
use Rattle.nv_schedule.specs.Turns.{CallerState, HasCome}
use Rattle.nv_schedule.specs.declared.caller.Work.{Work}
use Rattle.nv_schedule.specs.declared.caller.Work.TheVariants.{Calls, Batches}
use Rattle.nv_schedule.specs.declared.hand.Hand.{Hand}
use Rattle.nv_schedule.specs.declared.hand.Hand.TheVariants.{Reading, Writing, ReadingParts, WritingParts, Syncing}
use Rattle.nv_schedule.specs.declared.schedule_error.ScheduleError.{ScheduleError}
use Rattle.nv_schedule.proofs.AnswerLaws.{CallLaws, all_answered, tried_since}
use Rattle.nv_schedule.proofs.BegunLaws.{any_caller}

-- ---- whose a listed call is

pub record IsListedOfSome (callers : List CallerState) (m : MadeCall) : Type 0 where
  pub place : ℕ
  pub there : place < length callers
  pub one : (d : CallerState) → IsOneOf (listed (slice_index_or callers place d)) m

pub listed_of_some : (callers : List CallerState) (m : MadeCall) → IsOneOf (all_listed callers) m → IsListedOfSome callers m
listed_of_some [] m one = absurd one
listed_of_some (caller ∷ later) m one = elim (one_either (all_listed later) (listed caller) m one) [
  | inl others ↦ (let found = listed_of_some later m others in record { place = suc found.place; there = (let less = found.there in omega (arith, less)); one = found.one })
  | inr own ↦ record { place = 0; there = omega arith; one = λ d. own }
]

-- ---- an answered call

early_none : (sizes : Sizes) (fds : List Fd) (call : TraceCall) (file : ℕ) → file_of_fd fds (fd_of call) ≡ Some file → IsUnbarred sizes fds call → early_of_call sizes fds call ≡ None
early_none sizes fds (Pread fd at len) file file_is unbarred = unbarred
early_none sizes fds (Pwrite fd at bytes) file file_is unbarred = unbarred
early_none sizes fds (Preadv fd at lens) file file_is unbarred = unbarred
early_none sizes fds (Pwritev fd at parts) file file_is unbarred = unbarred
early_none sizes fds (Fsync fd) file file_is unbarred = ap unless_file file_is

pub answered_free : (fds : List Fd) (made : List MadeCall) (start last : PassState) (call : TracedCall) (place : ℕ) (reply : Reply) → AreMade fds None made start last
    → IsOneOf made (record { call = call; answer = Placed place reply }) → early_of_call start.view.opened.sizes fds call.call ≡ None
answered_free fds made start last call place reply are one =
    let at = made_at_one fds None made (record { call = call; answer = Placed place reply }) start last are one in
    let same : at.now.view.opened ≡ start.view.opened = at.told.opened ∙ (chain fds None start.view.opened.sizes at.before start at.old refl at.first).opened in
    ap (λ (o : Opened). early_of_call o.sizes fds call.call) (sym same) ∙ early_none at.now.view.opened.sizes fds call.call at.told.told.0 at.told.told.1 at.told.admitted

-- ---- one in mid-call

module _ (fds : List Fd) (begun now : PassState) (done : Done) where
  read_free : (asks : (len file : ℕ) → FileCall) (m : ReadMachine) (list : List ℕ) (control : ReadControl) → reads.answer_at control ≡ Some done → reads.StandsAt asks fds m list begun now control
      → early_refusal can_read begun.view.opened.sizes fds m.fd m.at m.len ≡ None
  read_free asks m list read_controls.Begin is s = absurd (cc)
  read_free asks m list (read_controls.Running running) is s = s.1.early

  write_free : (asks : (file : ℕ) → FileCall) (m : WriteMachine) (bytes : List ℕ) → length bytes ≡ m.len → (control : WriteControl) → done_at m.len (writes.place_at control) ≡ Some done → writes.StandsAt asks fds m bytes begun now control
      → early_refusal can_write begun.view.opened.sizes fds m.fd m.at (length bytes) ≡ None
  write_free asks m bytes room write_controls.Begin is s = absurd (cc)
  write_free asks m bytes room (write_controls.Running running) is s = ap (early_refusal can_write begun.view.opened.sizes fds m.fd m.at) room ∙ s.2.early

  hand_free : (call : TraceCall) (hand : Hand) → IsTrying fds call hand begun now → placed_at_hand hand ≡ Some done → early_of_call begun.view.opened.sizes fds call ≡ None
  hand_free call (Reading r) t is = ap (early_of_call begun.view.opened.sizes fds) t.0 ∙ read_free (asks_read r.machine.at) r.machine r.list.items r.machine.control is t.1.stands
  hand_free call (Writing m) t is = ap (early_of_call begun.view.opened.sizes fds) t.1 ∙ write_free (asks_write m.at t.0) m t.0 t.2.room m.control is t.2.stands
  hand_free call (ReadingParts r) t is =
      ap (early_of_call begun.view.opened.sizes fds) t.0 ∙ ap (early_refusal can_read begun.view.opened.sizes fds r.machine.fd r.machine.at) t.1
      ∙ read_free (asks_readv r.machine.at r.parts.lens) r.machine r.parts.list r.machine.control is t.2.stands
  hand_free call (WritingParts w) t is =
      ap (early_of_call begun.view.opened.sizes fds) t.0 ∙ write_free (asks_writev w.machine.at w.parts) w.machine (concat w.parts) t.1.room w.machine.control is t.1.stands
  hand_free call (Syncing m) t is = subst (λ (c : TraceCall). early_of_call begun.view.opened.sizes fds c ≡ None) (sym t.0) (at_sync m.control is t.1)
    where
      at_sync : (control : SyncControl) → done_at 0 (pageless_place_at (syncs.at_step control)) ≡ Some done → syncs.StandsAt fds m.fd begun now control → early_of_call begun.view.opened.sizes fds (Fsync m.fd) ≡ None
      at_sync sync_controls.Begin is s = absurd (cc)
      at_sync (sync_controls.Running running) is s = ap unless_file s.1.file_is

placed_done : (placed_is : Option Done) (reply_to : ℕ → Reply) (has_drawn : Bool) (drawn : Option ℕ) (place : ℕ) (reply : Reply) → either_of (placed_answer placed_is reply_to) (open_answer has_drawn drawn) ≡ Some (Placed place reply)
    → (done : Done) × (placed_is ≡ Some done)
placed_done (Some done) reply_to has_drawn drawn place reply is = (done, refl)
placed_done None reply_to true (Some number) place reply is = absurd (cc)
placed_done None reply_to true None place reply is = absurd (cc)
placed_done None reply_to false drawn place reply is = absurd (cc)

listed_is : (first : TracedCall) (answer : Option Answer) (call : TracedCall) (place : ℕ) (reply : Reply) → IsOneOf (listed_as first answer) (record { call = call; answer = Placed place reply })
    → (call ≡ first) × (answer ≡ Some (Placed place reply))
listed_is first None call place reply one = absurd one
listed_is first (Some answer) call place reply (inl is) = (ap (λ (m : MadeCall). m.call) is, ap Some (sym (ap (λ (m : MadeCall). m.answer) is)))
listed_is first (Some answer) call place reply (inr none) = absurd none

pub present_free : CallLaws → (fds : List Fd) (left : List TracedCall) (hand : Option Hand) (drawn : Option ℕ) (last now : PassState) (call : TracedCall) (place : ℕ) (reply : Reply) → IsMount (mount_of last.view.opened)
    → IsAtCall fds left hand last now → IsOneOf (listed_present left (told_present hand drawn)) (record { call = call; answer = Placed place reply }) → early_of_call last.view.opened.sizes fds call.call ≡ None
present_free laws fds [] hand drawn last now call place reply mount at one = absurd one
present_free laws fds (first ∷ later) None drawn last now call place reply mount at one = absurd one
present_free laws fds (first ∷ later) (Some hand) drawn last now call place reply mount at one =
    let is = listed_is first (told_at_hand hand drawn) call place reply one in
    let done = placed_done (placed_at_hand hand) (reply_at_hand hand) (has_drawn_at_hand hand) drawn place reply is.1 in
    let free = hand_free fds at.0 now done.0 first.call hand at.2 done.1 in
    let same = (tried_since laws fds first.call last at.0 mount at.1).opened in
    subst (λ (c : TracedCall). early_of_call last.view.opened.sizes fds c.call ≡ None) (sym is.0) (ap (λ (o : Opened). early_of_call o.sizes fds first.call) (sym same) ∙ free)

-- ---- of a schedule

module _ (laws : CallLaws) (mount : MountState) (tokens : List Token) (calls : List TracedCall) (batch : ℕ) (done : Result (Unit {0}) ScheduleError) (then_ : List CallerState) (zero_then : PassState)
    (followed : HasFollowed mount tokens calls batch done then_ zero_then) (is_mount : IsMount (mount_of mount.board.opened)) (call : TracedCall) (place : ℕ) (reply : Reply) where
  abbrev m : MadeCall
  m = record { call = call; answer = Placed place reply }

  thread_free : (i : ℕ) (d : CallerState) (less : i < length followed.first) (thread : ThreadState) → ThreadHasCome mount.fds thread (slice_index_or followed.first i d).pass (slice_index_or then_ i d).pass
      → IsOneOf (listed_of thread (drawn_by (slice_index_or then_ i d).pass.view)) (record { call = call; answer = Placed place reply }) → early_of_call mount.board.opened.sizes mount.fds call.call ≡ None
  thread_free i d less thread come one =
      let start = (slice_index_or followed.first i d).pass in
      let end = (slice_index_or then_ i d).pass in
      let fresh = followed.fresh i d less in
      let same : start.view.opened ≡ mount.board.opened = fresh.board.same_mount in
      let start_mount : IsMount (mount_of start.view.opened) = subst (λ (o : Opened). IsMount (mount_of o)) (sym same) is_mount in
      let made = all_answered laws mount.fds thread.made start come.last start_mount fresh.idle come.made in
      let last_mount : IsMount (mount_of come.last.view.opened) = subst (λ (o : Opened). IsMount (mount_of o)) (sym made.opened) start_mount in
      elim (one_either thread.made (listed_present thread.left (told_present thread.hand (drawn_by end.view))) m one) [
        | inl answered ↦ ap (λ (o : Opened). early_of_call o.sizes mount.fds call.call) (sym same) ∙ answered_free mount.fds thread.made start come.last call place reply made.each answered
        | inr present ↦ ap (λ (o : Opened). early_of_call o.sizes mount.fds call.call) (sym (made.opened ∙ same))
            ∙ present_free laws mount.fds thread.left thread.hand (drawn_by end.view) come.last end call place reply last_mount come.at present
      ]

  work_free : (i : ℕ) (d : CallerState) (less : i < length followed.first) (work : Work) → HasCome mount.fds work (slice_index_or followed.first i d).pass (slice_index_or then_ i d).pass
      → IsOneOf (listed_by work (drawn_by (slice_index_or then_ i d).pass.view)) (record { call = call; answer = Placed place reply }) → early_of_call mount.board.opened.sizes mount.fds call.call ≡ None
  work_free i d less (Calls thread) come one = thread_free i d less thread come one
  work_free i d less (Batches cleaner) come one = absurd one

  pub all_free : IsOneOf (all_listed then_) (record { call = call; answer = Placed place reply }) → early_of_call mount.board.opened.sizes mount.fds call.call ≡ None
  all_free one =
      let whose = listed_of_some then_ m one in
      let d = any_caller zero_then in
      let less : whose.place < length followed.first = (let n = followed.count in let within = whose.there in omega (arith, within, n)) in
      work_free whose.place d less (slice_index_or then_ whose.place d).work (followed.come whose.place d less).come (whose.one d)

pub placed_are_unbarred : CallLaws → PlacedAreUnbarred
placed_are_unbarred laws mount tokens calls batch then_ zero told is_mount same followed are call place reply one =
    let there = subst (λ l. IsOneOf l (record { call = call; answer = Placed place reply })) are.answered one in
    ap (λ (o : Opened). early_of_call o.sizes mount.fds call.call) same ∙ all_free laws mount tokens calls batch (Ok tt) then_ zero followed is_mount call place reply there
