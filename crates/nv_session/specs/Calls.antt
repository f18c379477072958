-- Calls: what a call of a session does. It has its place and its reply, or its refusal's cause, and its pass goes on.
use Rattle.std.specs.Prelude.{◌≡◌, ◌≢◌, ℕ, zero, suc, false, List, Some, Result, Ok, Err, IfOk, OnErr, OnOk}
use Rattle.nv_table.specs.invariant.Idle.{IsLater}
use Rattle.nv_table.specs.state.States.{PassState}
use Rattle.nv_mount.specs.ClosedAtRest.{HasEmptiedLog}
use Rattle.nv_mount.specs.Mounts.{MountState}
use Rattle.nv_mirror.specs.Answers.{IsReadPlaced, IsSyncPlaced, IsUnplaced}
use Rattle.nv_mirror.specs.declared.answers.Done.{Done}
use Rattle.nv_mirror.specs.declared.answers.Refusal.{Refusal}
use Rattle.nv_mirror.specs.declared.answers.Refusal.TheVariants.{Busy, StoreFault}
use Rattle.nv_calls.specs.fsync.SyncRuns.{IsSyncRun, file_of_fd}
use Rattle.nv_calls.specs.histories.Complete.{IsCompleteSync}
use Rattle.nv_calls.specs.histories.GoingOn.{GoesOnAtLast, SyncGoesOn}
use Rattle.nv_calls.specs.histories.Heeds.{SyncHeedsStop}
use Rattle.nv_calls.specs.histories.Tries.{IsTried}
use Rattle.nv_calls.specs.reads.Reads.{IsReadOver}
use Rattle.nv_calls.specs.writes.Writes.{IsWritePlaced, IsWriteTried, ends_to_be_made_again}
use Rattle.nv_clean.specs.Answers.{IsCleanOver}
use Rattle.nv_clean.specs.declared.batch.CleanRefusal.{CleanRefusal}
use Rattle.nv_clean.specs.declared.batch.CleanRefusal.TheVariants.{Idle}
use Rattle.nv_clean.specs.declared.clean.Cleaned.{Cleaned}

-- A read is one `pread`: the bytes came to the front of the buffer, in its place; or it was refused, for no lock.
pub record HasRead (mount : MountState) (fd at : ℕ) (buf : List ℕ) (old new : PassState) (result : Result Done Refusal) : Type 0 where
  pub later : IsLater old new
  pub spare : new.spare ≡ old.spare
  pub done : IfOk result (λ done. (file : ℕ) × (file_of_fd mount.fds fd ≡ Some file) × IsReadPlaced file at buf old.view new.view done)
  pub kept : OnErr result (IsUnplaced old.view new.view)
  pub free : (cell : ℕ) → result ≢ Err (Busy cell)
  pub over : (last : PassState) × IsUnplaced old.view last.view × IsReadOver mount.fds fd at buf last new result
  pub tried : IsTried mount.fds fd at buf old new result
  pub known : GoesOnAtLast old new result

-- A write is one `pwrite`: the bytes stand in the file, in its place; or it was refused, for no lock and for no other write, and by no store.
pub record HasWritten (mount : MountState) (fd at : ℕ) (bytes : List ℕ) (old new : PassState) (result : Result Done Refusal) : Type 0 where
  pub later : IsLater old new
  pub spare : new.spare ≡ old.spare
  pub done : IfOk result (λ done. (file : ℕ) × (file_of_fd mount.fds fd ≡ Some file) × IsWritePlaced file at bytes old.view new.view done)
  pub kept : OnErr result (IsUnplaced old.view new.view)
  pub free : ends_to_be_made_again result ≡ false
  pub tried : IsWriteTried mount.fds fd at bytes old new result
  pub known : GoesOnAtLast old new result
  pub stores : result ≢ Err StoreFault

-- A sync is one `try_fsync`, which takes its place alone.
pub record HasSynced (mount : MountState) (fd : ℕ) (old new : PassState) (result : Result Done Refusal) : Type 0 where
  pub later : IsLater old new
  pub spare : new.spare ≡ old.spare
  pub done : IfOk result (λ done. IsSyncPlaced (file_of_fd mount.fds fd) old.view new.view done.place)
  pub len : IfOk result (λ done. done.len ≡ 0)
  pub kept : OnErr result (IsUnplaced old.view new.view)
  pub sync_run : IsSyncRun (file_of_fd mount.fds fd) old new result
  pub stop : SyncHeedsStop mount.fds fd old new result
  pub known : SyncGoesOn mount.fds fd old new result
  pub complete : IsCompleteSync mount.fds fd old new result

-- A batch of the cleaner is one `try_clean`, of at most so many entries.
pub record HasRetired (most : ℕ) (old new : PassState) (result : Result Cleaned CleanRefusal) : Type 0 where
  pub later : IsLater old new
  pub spare : new.spare ≡ old.spare
  pub kept : IsUnplaced old.view new.view
  pub over : IsCleanOver most old new result

-- What cleaning until the log is empty is answered, by its last batch: done where there was nothing to clean, and else what that was refused for.
abbrev pub AnswersLast : Result Cleaned CleanRefusal → Result (Unit {0}) CleanRefusal → Type 0
AnswersLast (Ok cleaned) result = ⊥
AnswersLast (Err (Idle at)) result = result ≡ Ok tt
AnswersLast (Err refusal) result = result ≡ Err refusal

-- So many batches of at most so many entries came one after another, and nothing else. Each carried entries to their files.
abbrev pub HaveCarried : (most count : ℕ) (start now : PassState) → Type 0
HaveCarried most zero start now = now ≡ start
HaveCarried most (suc count) start now =
    (middle : PassState) × HaveCarried most count start middle × (cleaned : Cleaned) × IsCleanOver most middle now (Ok cleaned)

-- Batches of at most so many entries came one after another, and nothing else. Each before the last one carried entries; the last one answers, and where it found nothing to clean it has left the log empty.
pub record HasCleanedAll (most : ℕ) (old new : PassState) (result : Result (Unit {0}) CleanRefusal) : Type 0 where
  pub later : IsLater old new
  pub spare : new.spare ≡ old.spare
  pub kept : IsUnplaced old.view new.view
  pub count : ℕ
  pub last : PassState
  pub carried : HaveCarried most count old last
  pub before : IsUnplaced old.view last.view
  pub batch : Result Cleaned CleanRefusal
  pub over : IsCleanOver most last new batch
  pub answer : AnswersLast batch result
  pub emptied : OnOk result (HasEmptiedLog new.view)
