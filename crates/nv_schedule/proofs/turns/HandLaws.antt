-- Hands: a try goes on as its machine does.
use Rattle.std.proofs.Common.{◌≡◌, List, [], ◌++◌, length, ℕ, sym, ap, subst, ◌∙◌, arith}
use Rattle.std.proofs.lemmas.Grind.{common_steps}
use Rattle.std.specs.List.{concat, sum}
use Rattle.std.specs.Prelude.{IfOk, None, Option, Some, Result, Ok, Err, drop, take}
use Rattle.nv_mirror.specs.declared.answers.Done.{Done}
use Rattle.nv_mirror.specs.declared.answers.Refusal.{Refusal}
use Rattle.nv_calls.specs.calls.CallAnswers.{done_at, done_of}
use Rattle.nv_table.specs.state.States.{PassState}
use Rattle.nv_mount.specs.declared.fds.Fd.{Fd}
use Rattle.nv_calls.specs.declared.progress.Progress.{Progress}
use Rattle.nv_calls.specs.declared.progress.Progress.TheVariants.{More, Ended}
use Rattle.nv_calls.specs.declared.syncing.SyncMachine.{SyncMachine}
use Rattle.nv_calls.specs.declared.writing.WriteMachine.{WriteMachine}
use Rattle.nv_calls.specs.fsync.SyncMachines.{SyncGoes}
use Rattle.nv_calls.specs.reads.ReadMachines.{IsSameRead, ReadGoes, ReadvGoes}
use Rattle.nv_calls.specs.writes.WriteMachines.{IsSameWrite, WriteGoes, WritevGoes, place_so_far}
use Rattle.nv_trace.specs.declared.trace_call.TraceCall.{TraceCall}
use Rattle.nv_trace.specs.declared.trace_call.TraceCall.TheVariants.{Pread, Pwrite, Preadv, Pwritev, Fsync}
use Rattle.nv_schedule.specs.declared.hand.ReadAtHand.{ReadAtHand}
use Rattle.nv_schedule.specs.declared.hand.ReadvAtHand.{ReadvAtHand}
use Rattle.nv_schedule.specs.declared.hand.WritevAtHand.{WritevAtHand}
use Rattle.nv_schedule.specs.declared.hand.Hand.TheVariants.{Reading, Writing, ReadingParts, WritingParts, Syncing}
use Rattle.nv_schedule.specs.Hands.{IsTrying, TryGoes, list_at_hand}
use Rattle.nv_schedule.specs.Listed.{reply_at_hand}
use Rattle.nv_schedule.specs.declared.hand.Hand.{Hand}
use Rattle.nv_schedule.specs.Tries.{IsTryOver, reply_to}

-- ---- a read

module _ (fds : List Fd) (call : TraceCall) (old new : ReadAtHand) (begun pass now : PassState) (same : IsSameRead old.machine new.machine) (size : length new.list.items ≡ length old.list.items)
    (trying : IsTrying fds call (Reading old) begun pass) where
  read_call : call ≡ Pread new.machine.fd new.machine.at new.machine.len
  read_call =
      trying.0
      ∙ ap (λ fd. Pread fd old.machine.at old.machine.len) (sym same.fd)
      ∙ ap (λ at. Pread new.machine.fd at old.machine.len) (sym same.at)
      ∙ ap (λ len. Pread new.machine.fd new.machine.at len) (sym same.len)

  pub read_goes : (progress : Progress) → ReadGoes fds begun new.machine new.list.items now progress → TryGoes fds call (Reading new) begun now progress
  read_goes More way = (read_call, way)
  read_goes (Ended result) over =
      subst (λ c. IsTryOver fds c new.list.items begun now result) (sym read_call)
      (size ∙ trying.1.size ∙ sym same.len, over.2)

-- ---- a write

-- one that is done has written all its bytes
written : (len all : ℕ) (result : Result Done Refusal) (place : Option ℕ) → len ≡ all → done_at len place ≡ done_of result → IfOk result (λ (done : Done). done.len ≡ all)
written len all (Err refusal) place same is = tt
written len all (Ok done) None same is = absurd (cc)
written len all (Ok done) (Some place) same is =
    let one : ◌≡◌ {A = Done} (record { place = place; len = len }) done = cc in
    sym (ap (λ (d : Done). d.len) one) ∙ same

-- what a write writes
abbrev pub bytes_in : TraceCall → List ℕ
bytes_in (Pwrite fd at bytes) = bytes
bytes_in call = []

pub same_bytes : (call : TraceCall) (fd at other_fd other_at : ℕ) (bytes others list : List ℕ) → call ≡ Pwrite fd at bytes → call ≡ Pwrite other_fd other_at others → list ≡ others → bytes ≡ list
same_bytes call fd at other_fd other_at bytes others list is is_too same = sym (ap bytes_in is) ∙ ap bytes_in is_too ∙ sym same

module _ (fds : List Fd) (call : TraceCall) (old new : WriteMachine) (begun pass now : PassState) (same : IsSameWrite old new) (trying : IsTrying fds call (Writing old) begun pass) where
  write_call : call ≡ Pwrite new.fd new.at trying.0
  write_call =
      trying.1
      ∙ ap (λ fd. Pwrite fd old.at trying.0) (sym same.fd)
      ∙ ap (λ at. Pwrite new.fd at trying.0) (sym same.at)

  pub write_goes : (progress : Progress) → WriteGoes fds begun new trying.0 now progress → TryGoes fds call (Writing new) begun now progress
  write_goes More way = (trying.0, write_call, way)
  write_goes (Ended result) over = subst (λ c. IsTryOver fds c [] begun now result) (sym write_call) (written new.len (length trying.0) result (place_so_far new) (same.len ∙ sym trying.2.room) over.0, over.2)

-- ---- of parts

module _ (fds : List Fd) (call : TraceCall) (old new : ReadvAtHand) (begun pass now : PassState) (same : IsSameRead old.machine new.machine) (lens : new.parts.lens ≡ old.parts.lens) (size : length new.parts.list ≡ sum new.parts.lens) (trying : IsTrying fds call (ReadingParts old) begun pass) where
  readv_call : call ≡ Preadv new.machine.fd new.machine.at new.parts.lens
  readv_call =
      trying.0
      ∙ ap (λ fd. Preadv fd old.machine.at old.parts.lens) (sym same.fd)
      ∙ ap (λ at. Preadv new.machine.fd at old.parts.lens) (sym same.at)
      ∙ ap (Preadv new.machine.fd new.machine.at) (sym lens)

  pub readv_goes : (progress : Progress) → ReadvGoes fds begun new.machine new.parts now progress → TryGoes fds call (ReadingParts new) begun now progress
  readv_goes More way = (readv_call, ap sum lens ∙ trying.1 ∙ sym same.len, way)
  readv_goes (Ended result) over = subst (λ c. IsTryOver fds c new.parts.list begun now result) (sym readv_call) (size, over.2)

module _ (fds : List Fd) (call : TraceCall) (old new : WritevAtHand) (begun pass now : PassState) (same : IsSameWrite old.machine new.machine) (parts : new.parts ≡ old.parts)
    (trying : IsTrying fds call (WritingParts old) begun pass) where
  writev_call : call ≡ Pwritev new.machine.fd new.machine.at new.parts
  writev_call =
      trying.0
      ∙ ap (λ fd. Pwritev fd old.machine.at old.parts) (sym same.fd)
      ∙ ap (λ at. Pwritev new.machine.fd at old.parts) (sym same.at)
      ∙ ap (Pwritev new.machine.fd new.machine.at) (sym parts)

  pub writev_goes : (progress : Progress) → WritevGoes fds begun new.machine new.parts now progress → TryGoes fds call (WritingParts new) begun now progress
  writev_goes More way = (writev_call, way)
  writev_goes (Ended result) over =
      subst (λ c. IsTryOver fds c [] begun now result) (sym writev_call)
      (written new.machine.len (length (concat new.parts)) result (place_so_far new.machine) (same.len ∙ sym trying.1.room ∙ ap (λ (all : List (List ℕ)). length (concat all)) (sym parts)) over.0, over.2)

-- ---- a sync

module _ (fds : List Fd) (call : TraceCall) (old new : SyncMachine) (begun pass now : PassState) (same : new.fd ≡ old.fd) (trying : IsTrying fds call (Syncing old) begun pass) where
  sync_call : call ≡ Fsync new.fd
  sync_call = trying.0 ∙ ap Fsync (sym same)

  pub sync_goes : (progress : Progress) → SyncGoes fds begun new now progress → TryGoes fds call (Syncing new) begun now progress
  sync_goes More way = (sync_call, way)
  sync_goes (Ended result) over = subst (λ c. IsTryOver fds c [] begun now result) (sym sync_call) over.1

-- ---- a list that is written through a slice of all of it

pub laid_whole : (len : ℕ) (old new : List ℕ) → len ≡ length old → length new ≡ length old → take len (new ++ drop (length new) old) ≡ new
laid_whole len old new is same = grind (arith, common_steps)
