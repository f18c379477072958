-- Going on: a call goes on from all that its pass knows, by itself and by those that it took in.
use Rattle.std.specs.Prelude.{◌≡◌, ℕ, ◌≤◌, true, List, length, Option, Some, Result, Err, IfOk}
use Rattle.nv_plain.specs.declared.call.FileCall.{FileCall}
use Rattle.nv_core.specs.steps.Frames.{Covers}
use Rattle.nv_core.specs.steps.Opening.{IsMount}
use Rattle.nv_table.specs.invariant.BetweenSteps.{KnowsTaken}
use Rattle.nv_table.specs.passes.Known.{known_by}
use Rattle.nv_table.specs.state.Opened.{mount_of}
use Rattle.nv_table.specs.state.States.{PassState}
use Rattle.nv_mount.specs.declared.fds.Fd.{Fd}
use Rattle.nv_mirror.specs.declared.answers.Done.{Done}
use Rattle.nv_mirror.specs.declared.answers.Refusal.{Refusal}
use Rattle.nv_mirror.specs.declared.answers.Refusal.TheVariants.{Stopped}
use Rattle.nv_mirror.specs.PassSteps.{PassStep, HasMade}
use Rattle.nv_calls.specs.calls.EndedCalls.{IsCallOver}
use Rattle.nv_calls.specs.fsync.SyncRuns.{IsSyncRun, file_of_fd}
use Rattle.nv_calls.specs.histories.Heeds.{loads_stop}
use Rattle.nv_calls.specs.reads.Reads.{IsReadOver}
use Rattle.nv_calls.specs.writes.Writes.{IsWriteOver}

-- Where STOP is known to be set it is answered so, once it comes to its load of STOP; its place, if it has one, comes behind all calls that are known; and its pass knows no less then.
pub record GoesOn (start now : PassState) (result : Result Done Refusal) : Type 0 where
  pub steps : List PassStep
  pub made : HasMade steps start now
  pub heeds : (known_by start.view).stopped ≡ true → loads_stop steps ≡ true → result ≡ Err Stopped
  pub behind : IfOk result (λ done. length (known_by start.view).seen ≤ done.place)
  pub keeps : Covers (known_by start.view) (known_by now.view)

-- So an fsync, which comes to that load with its first step.
pub record SyncGoesOn (fds : List Fd) (fd : ℕ) (start now : PassState) (result : Result Done Refusal) : Type 0 where
  pub heeds : (known_by start.view).stopped ≡ true → (file : ℕ) → file_of_fd fds fd ≡ Some file → result ≡ Err Stopped
  pub behind : IfOk result (λ done. length (known_by start.view).seen ≤ done.place)
  pub keeps : Covers (known_by start.view) (known_by now.view)

-- So the last try of a call that waits.
pub record GoesOnAtLast (start now : PassState) (result : Result Done Refusal) : Type 0 where
  pub last : PassState
  pub before : Covers (known_by start.view) (known_by last.view)
  pub goes : GoesOn last now result

-- ---- laws: so does each call that is over, whatever made its steps

abbrev pub CallsGoOn : Type 0
CallsGoOn =
    (early : Option Refusal) (file : Option ℕ) (asks : (file : ℕ) → FileCall) (start now : PassState) (result : Result Done Refusal)
    → IsMount (mount_of start.view.opened) → (start.view.number ≡ 0 → KnowsTaken start.view) → IsCallOver early file asks start now result → GoesOn start now result

-- so reads, writes and fsyncs
abbrev pub ReadsGoOn : Type 0
ReadsGoOn =
    (fds : List Fd) (fd at : ℕ) (list : List ℕ) (start now : PassState) (result : Result Done Refusal)
    → IsMount (mount_of start.view.opened) → (start.view.number ≡ 0 → KnowsTaken start.view) → IsReadOver fds fd at list start now result → GoesOn start now result

abbrev pub WritesGoOn : Type 0
WritesGoOn =
    (fds : List Fd) (fd at : ℕ) (bytes : List ℕ) (start now : PassState) (result : Result Done Refusal)
    → IsMount (mount_of start.view.opened) → (start.view.number ≡ 0 → KnowsTaken start.view) → IsWriteOver fds fd at bytes start now result → GoesOn start now result

abbrev pub SyncsGoOn : Type 0
SyncsGoOn =
    (fds : List Fd) (fd : ℕ) (start now : PassState) (result : Result Done Refusal)
    → IsMount (mount_of start.view.opened) → (start.view.number ≡ 0 → KnowsTaken start.view) → IsSyncRun (file_of_fd fds fd) start now result → SyncGoesOn fds fd start now result
