-- Try laws: how runs go on by the calls of a pass that are over, with all their tries, and by the batches of a cleaner.
use Rattle.std.specs.Prelude.{ℕ, List, length, Option, Some, None, Result, Ok, Err, IfOk, OnErr}
use Rattle.nv_plain.specs.declared.call.FileCall.{FileCall}
use Rattle.nv_plain.specs.declared.call.Reply.{Reply}
use Rattle.nv_plain.specs.Pieces.{pages_touched}
use Rattle.nv_core.specs.state.Words.{Sizes}
use Rattle.nv_core.specs.steps.Opening.{IsMount}
use Rattle.nv_table.specs.invariant.Idle.{IsIdle}
use Rattle.nv_table.specs.state.Opened.{mount_of}
use Rattle.nv_table.specs.state.States.{PassState}
use Rattle.nv_mount.specs.declared.fds.Fd.{Fd}
use Rattle.nv_mirror.specs.declared.answers.Done.{Done}
use Rattle.nv_mirror.specs.declared.answers.Refusal.{Refusal}
use Rattle.nv_mirror.specs.Answers.{IsPlacedAs, IsSyncPlaced, IsUnplaced}
use Rattle.nv_mirror.specs.PassSteps.{is_fault}
use Rattle.nv_calls.specs.fsync.SyncRuns.{IsSyncRun, file_of_fd}
use Rattle.nv_calls.specs.calls.Asks.{IsMadeAsRead, IsMadeAsWrite}
use Rattle.nv_calls.specs.histories.Tries.{IsTriedAs}
use Rattle.nv_calls.specs.writes.Writes.{IsWriteTriedAs}
use Rattle.nv_clean.specs.Answers.{IsCleanOver}
use Rattle.nv_clean.specs.declared.batch.CleanRefusal.{CleanRefusal}
use Rattle.nv_clean.specs.declared.clean.Cleaned.{Cleaned}
use Rattle.nv_runner.specs.Runs.{GoesOn, entries_if}
use Rattle.nv_runner.specs.Tries.{HasRunBatches}

-- a read draws nothing, whatever it is asked as
abbrev pub ReadsGoOn : Type 0
ReadsGoOn =
    (fds : List Fd) (asks : (len file : ℕ) → FileCall) (fd at : ℕ) (list : List ℕ) (start now : PassState) (result : Result Done Refusal)
    → IsMadeAsRead asks at (length list) → IsMount (mount_of start.view.opened) → IsIdle start → IsIdle now
    → IfOk result (λ done. (file : ℕ) × (reply : Reply) × IsPlacedAs start.view now.view (asks (length list) file) reply done.place) → OnErr result (IsUnplaced start.view now.view)
    → IsTriedAs asks fds fd at list start now result → GoesOn None 0 start now

-- how many numbers a write draws by what it is answered: one for each page, where it has its place, or a device fault ended it
abbrev pub write_drawn : Sizes → (at len : ℕ) → Result Done Refusal → ℕ
write_drawn sizes at len (Ok done) = pages_touched at len sizes.page
write_drawn sizes at len (Err refusal) = entries_if (is_fault (Some refusal)) (pages_touched at len sizes.page)

abbrev pub WritesGoOn : Type 0
WritesGoOn =
    (fds : List Fd) (asks : (file : ℕ) → FileCall) (fd at : ℕ) (bytes : List ℕ) (start now : PassState) (result : Result Done Refusal)
    → IsMadeAsWrite asks at bytes → IsMount (mount_of start.view.opened) → IsIdle start → IsIdle now
    → IfOk result (λ done. (file : ℕ) × (reply : Reply) × IsPlacedAs start.view now.view (asks file) reply done.place) → OnErr result (IsUnplaced start.view now.view)
    → IsWriteTriedAs asks fds fd at (length bytes) start now result → GoesOn None (write_drawn start.view.opened.sizes at (length bytes) result) start now

-- a sync draws nothing
abbrev pub SyncsGoOn : Type 0
SyncsGoOn =
    (fds : List Fd) (fd : ℕ) (start now : PassState) (result : Result Done Refusal)
    → IsMount (mount_of start.view.opened) → IsIdle start → IsIdle now
    → IfOk result (λ done. IsSyncPlaced (file_of_fd fds fd) start.view now.view done.place) → OnErr result (IsUnplaced start.view now.view)
    → IsSyncRun (file_of_fd fds fd) start now result → GoesOn None 0 start now

-- and so does a batch, which comes only where one may be run
abbrev pub BatchesGoOn : Type 0
BatchesGoOn =
    (worker batch : ℕ) (start now : PassState) (result : Result Cleaned CleanRefusal)
    → IsIdle start → IsIdle now → IsUnplaced start.view now.view → IsCleanOver batch start now result → GoesOn (Some worker) 0 start now

-- ---- what batches a pass ran: none where it is as it was, one by a whole batch, and those of two parts

abbrev pub NoBatchIsRun : Type 0
NoBatchIsRun = (worker : Option ℕ) (pass : PassState) → HasRunBatches worker pass pass

abbrev pub OneBatchIsRun : Type 0
OneBatchIsRun = (batch : ℕ) (start now : PassState) (result : Result Cleaned CleanRefusal) → IsCleanOver batch start now result → HasRunBatches (Some batch) start now

abbrev pub BatchesFollow : Type 0
BatchesFollow = (worker : Option ℕ) (start middle now : PassState) → HasRunBatches worker start middle → HasRunBatches worker middle now → HasRunBatches worker start now
