-- Laws of writes that are over, whatever made their steps.
use Rattle.std.specs.Prelude.{ℕ, List, length, Result}
use Rattle.std.specs.List.{concat}
use Rattle.nv_plain.specs.Modes.{can_write}
use Rattle.nv_plain.specs.declared.call.FileCall.{FileCall}
use Rattle.nv_plain.specs.declared.call.FileCall.TheVariants.{Write}
use Rattle.nv_core.specs.steps.Opening.{IsMount}
use Rattle.nv_table.specs.invariant.Idle.{IsIdle}
use Rattle.nv_table.specs.state.Opened.{mount_of}
use Rattle.nv_table.specs.state.States.{PassState}
use Rattle.nv_mount.specs.declared.fds.Fd.{Fd}
use Rattle.nv_mirror.specs.declared.answers.Done.{Done}
use Rattle.nv_mirror.specs.declared.answers.Refusal.{Refusal}
use Rattle.nv_calls.specs.calls.Asks.{IsMadeAsWrite, asks_writev}
use Rattle.nv_calls.specs.fsync.SyncRuns.{file_of_fd}
use Rattle.nv_calls.specs.histories.Complete.{IsComplete}
use Rattle.nv_calls.specs.histories.Heeds.{HeedsStop}
use Rattle.nv_calls.specs.histories.Unmoved.{LeavesWords}
use Rattle.nv_calls.specs.calls.EarlyRefusals.{early_refusal}
use Rattle.nv_calls.specs.writes.Writes.{IsWriteOver, IsWriteOverAs}

-- each heeds STOP
abbrev pub WritesHeedStop : Type 0
WritesHeedStop =
    (fds : List Fd) (fd at : ℕ) (bytes : List ℕ) (start now : PassState) (result : Result Done Refusal)
    → IsMount (mount_of start.view.opened) → IsWriteOver fds fd at bytes start now result → HeedsStop start now result

-- one that is refused, and for no device fault, leaves all words but locks, and these as they were
abbrev pub RefusedWritesLeaveWordsAs : Type 0
RefusedWritesLeaveWordsAs =
    (asks : (file : ℕ) → FileCall) (fds : List Fd) (fd at : ℕ) (bytes : List ℕ) (start now : PassState) (result : Result Done Refusal)
    → IsMadeAsWrite asks at bytes → IsMount (mount_of start.view.opened) → IsIdle start → IsWriteOverAs asks fds fd at (length bytes) start now result → LeavesWords start now result

abbrev pub RefusedWritesLeaveWords : Type 0
RefusedWritesLeaveWords =
    (fds : List Fd) (fd at : ℕ) (bytes : List ℕ) (start now : PassState) (result : Result Done Refusal)
    → IsMount (mount_of start.view.opened) → IsIdle start → IsWriteOver fds fd at bytes start now result → LeavesWords start now result

-- each is done where its steps find what they need
abbrev pub IsCompleteWrite : List Fd → (fd at : ℕ) → List ℕ → (start now : PassState) → Result Done Refusal → Type 0
IsCompleteWrite fds fd at bytes start now result =
    IsComplete (λ file. Write file at bytes) (early_refusal can_write start.view.opened.sizes fds fd at (length bytes)) (file_of_fd fds fd) start now result

abbrev pub IsCompleteWritev : List Fd → (fd at : ℕ) → List (List ℕ) → (start now : PassState) → Result Done Refusal → Type 0
IsCompleteWritev fds fd at parts start now result =
    IsComplete (asks_writev at parts) (early_refusal can_write start.view.opened.sizes fds fd at (length (concat parts))) (file_of_fd fds fd) start now result

abbrev pub WritesAreComplete : Type 0
WritesAreComplete =
    (fds : List Fd) (fd at : ℕ) (bytes : List ℕ) (start now : PassState) (result : Result Done Refusal)
    → IsWriteOver fds fd at bytes start now result → IsCompleteWrite fds fd at bytes start now result
