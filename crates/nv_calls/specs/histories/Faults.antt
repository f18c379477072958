-- Faults: which writes of a pass device faults have ended.
use Rattle.std.specs.Prelude.{◌≡◌, ℕ, Bool, true, false, if◌then◌else◌, List, [], ◌∷◌, length, Some, None, Result}
use Rattle.nv_plain.specs.Modes.{can_write}
use Rattle.nv_plain.specs.declared.call.FileCall.{FileCall}
use Rattle.nv_plain.specs.declared.call.FileCall.TheVariants.{Write}
use Rattle.nv_core.specs.state.Passes.{Fault, is_write}
use Rattle.nv_core.specs.steps.Opening.{IsMount}
use Rattle.nv_table.specs.state.Opened.{mount_of}
use Rattle.nv_table.specs.state.Views.{pass_of}
use Rattle.nv_table.specs.state.States.{PassState}
use Rattle.nv_mount.specs.declared.fds.Fd.{Fd}
use Rattle.nv_mirror.specs.declared.answers.Done.{Done}
use Rattle.nv_mirror.specs.declared.answers.Refusal.{Refusal}
use Rattle.nv_mirror.specs.Answers.{refusal_in_answer}
use Rattle.nv_mirror.specs.PassSteps.{is_fault}
use Rattle.nv_calls.specs.calls.Asks.{IsMadeAsRead, IsMadeAsWrite}
use Rattle.nv_calls.specs.calls.EarlyRefusals.{early_refusal}
use Rattle.nv_calls.specs.fsync.SyncRuns.{file_of_fd, IsSyncRun}
use Rattle.nv_calls.specs.histories.Tries.{IsTried, IsTriedAs}
use Rattle.nv_calls.specs.writes.Writes.{IsWriteTried, IsWriteTriedAs}

-- a write that a device fault ended, and the first number that it drew
pub record OpenWrite : Type 0 where
  pub call : FileCall
  pub first : ℕ

-- those among some faults, in their order
abbrev pub open_in : List Fault → List OpenWrite
open_in [] = []
open_in (fault ∷ before) = if is_write fault.call then record { call = fault.call; first = fault.first } ∷ open_in before else open_in before

-- a pass's, the last of them first
abbrev pub open_writes : PassState → List OpenWrite
open_writes pass = open_in (pass_of pass.view).faulted

-- A write of a descriptor's file is its pass's last open one: nothing that it asks for bars it, and it has drawn numbers.
pub record IsOpened (fds : List Fd) (fd at : ℕ) (bytes : List ℕ) (start now : PassState) : Type 0 where
  pub early : early_refusal can_write start.view.opened.sizes fds fd at (length bytes) ≡ None
  pub file : ℕ
  pub file_is : file_of_fd fds fd ≡ Some file
  pub write : is_write (Write file at bytes) ≡ true
  pub first : ℕ
  pub opens : open_writes now ≡ record { call = Write file at bytes; first = first } ∷ open_writes start

-- so it is where a device fault ended it; else these are what they were
abbrev pub OpensBy : (fault : Bool) → List Fd → (fd at : ℕ) → List ℕ → (start now : PassState) → Type 0
OpensBy true fds fd at bytes start now = IsOpened fds fd at bytes start now
OpensBy false fds fd at bytes start now = open_writes now ≡ open_writes start

-- ---- laws: what became of them by a call that is over, whatever made its steps, and by all that were to be made again before it

-- A write is an open one as what it is made as, whatever it was asked as.
abbrev pub WritesOpenAs : Type 0
WritesOpenAs =
    (asks : (file : ℕ) → FileCall) (fds : List Fd) (fd at : ℕ) (bytes : List ℕ) (start now : PassState) (result : Result Done Refusal)
    → IsMadeAsWrite asks at bytes → IsMount (mount_of start.view.opened) → IsWriteTriedAs asks fds fd at (length bytes) start now result
    → OpensBy (is_fault (refusal_in_answer result)) fds fd at bytes start now

abbrev pub ReadsOpenNothingAs : Type 0
ReadsOpenNothingAs =
    (asks : (len file : ℕ) → FileCall) (fds : List Fd) (fd at : ℕ) (list : List ℕ) (start now : PassState) (result : Result Done Refusal)
    → IsMadeAsRead asks at (length list) → IsMount (mount_of start.view.opened) → IsTriedAs asks fds fd at list start now result → open_writes now ≡ open_writes start

abbrev pub WritesOpen : Type 0
WritesOpen =
    (fds : List Fd) (fd at : ℕ) (bytes : List ℕ) (start now : PassState) (result : Result Done Refusal)
    → IsMount (mount_of start.view.opened) → IsWriteTried fds fd at bytes start now result → OpensBy (is_fault (refusal_in_answer result)) fds fd at bytes start now

abbrev pub ReadsOpenNothing : Type 0
ReadsOpenNothing =
    (fds : List Fd) (fd at : ℕ) (list : List ℕ) (start now : PassState) (result : Result Done Refusal)
    → IsMount (mount_of start.view.opened) → IsTried fds fd at list start now result → open_writes now ≡ open_writes start

abbrev pub SyncsOpenNothing : Type 0
SyncsOpenNothing =
    (fds : List Fd) (fd : ℕ) (start now : PassState) (result : Result Done Refusal) → IsSyncRun (file_of_fd fds fd) start now result → open_writes now ≡ open_writes start
