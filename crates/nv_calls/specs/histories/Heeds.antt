-- Heeds: a pass that has seen STOP is stopped for good.
use Rattle.std.specs.Prelude.{◌≡◌, ℕ, Bool, true, false, ◌||◌, List, [], ◌∷◌, Some, Result, Err}
use Rattle.nv_plain.specs.declared.call.FileCall.{FileCall}
use Rattle.nv_plain.specs.declared.mode.Mode.{Mode}
use Rattle.nv_core.specs.state.Words.{STOP}
use Rattle.nv_core.specs.steps.Ops.{Op, Load}
use Rattle.nv_core.specs.steps.Opening.{IsMount}
use Rattle.nv_table.specs.state.Opened.{mount_of}
use Rattle.nv_table.specs.state.Views.{pass_of}
use Rattle.nv_table.specs.state.States.{PassState}
use Rattle.nv_mount.specs.declared.fds.Fd.{Fd}
use Rattle.nv_mirror.specs.declared.answers.Done.{Done}
use Rattle.nv_mirror.specs.declared.answers.Refusal.{Refusal}
use Rattle.nv_mirror.specs.declared.answers.Refusal.TheVariants.{Stopped, RegionFault, StoreFault}
use Rattle.nv_calls.specs.calls.EarlyRefusals.{early_refusal}
use Rattle.nv_calls.specs.calls.EndedCalls.{IsCallOver}
use Rattle.nv_calls.specs.fsync.SyncRuns.{file_of_fd, IsSyncRun}
use Rattle.nv_mirror.specs.Answers.{refusal_in_answer}
use Rattle.nv_mirror.specs.PassSteps.{PassStep, HasMade, is_fault, stops_in}
use Rattle.nv_calls.specs.reads.Reads.{IsReadOver}

-- it has seen STOP as 1, or set it
abbrev pub HasSeenStop : PassState → Type 0
HasSeenStop pass = (pass_of pass.view).stopped ≡ true

-- a step loads STOP
abbrev pub is_stop_load : Op → Bool
is_stop_load (Load STOP) = true
is_stop_load op = false

-- some steps come to a load of STOP
abbrev pub loads_stop : List PassStep → Bool
loads_stop [] = false
loads_stop (step ∷ earlier) = loads_stop earlier || is_stop_load step.op

-- an answer tells that STOP is set
abbrev pub tells_stop : Result Done Refusal → Bool
tells_stop (Err Stopped) = true
tells_stop (Err RegionFault) = true
tells_stop (Err StoreFault) = true
tells_stop result = false

-- A call of a pass by which it goes on: one that had seen STOP still has; so has one that is told of it; and a call of one that had is answered that the
-- mount is stopped, where it comes to its load of STOP, and only there is a call answered so. One of its steps sets STOP exactly where it is answered that a
-- device has failed.
pub record HeedsStop (start now : PassState) (result : Result Done Refusal) : Type 0 where
  pub steps : List PassStep
  pub made : HasMade steps start now
  pub stays : HasSeenStop start → HasSeenStop now
  pub told : tells_stop result ≡ true → HasSeenStop now
  pub heeds : HasSeenStop start → loads_stop steps ≡ true → result ≡ Err Stopped
  pub looked : result ≡ Err Stopped → loads_stop steps ≡ true
  pub sets : stops_in steps ≡ is_fault (refusal_in_answer result)

-- So an fsync, which comes to that load with its first step.
pub record SyncHeedsStop (fds : List Fd) (fd : ℕ) (start now : PassState) (result : Result Done Refusal) : Type 0 where
  pub stays : HasSeenStop start → HasSeenStop now
  pub told : tells_stop result ≡ true → HasSeenStop now
  pub heeds : HasSeenStop start → (file : ℕ) → file_of_fd fds fd ≡ Some file → result ≡ Err Stopped

-- ---- laws: so does each call that is over, whatever made its steps

abbrev pub CallsHeedStop : Type 0
CallsHeedStop =
    (may : Mode → Bool) (fds : List Fd) (fd at len : ℕ) (asks : (file : ℕ) → FileCall) (start now : PassState) (result : Result Done Refusal)
    → IsMount (mount_of start.view.opened) → IsCallOver (early_refusal may start.view.opened.sizes fds fd at len) (file_of_fd fds fd) asks start now result → HeedsStop start now result

-- so reads and fsyncs
abbrev pub ReadsHeedStop : Type 0
ReadsHeedStop =
    (fds : List Fd) (fd at : ℕ) (list : List ℕ) (start now : PassState) (result : Result Done Refusal)
    → IsMount (mount_of start.view.opened) → IsReadOver fds fd at list start now result → HeedsStop start now result

abbrev pub SyncsHeedStop : Type 0
SyncsHeedStop =
    (fds : List Fd) (fd : ℕ) (start now : PassState) (result : Result Done Refusal)
    → IsMount (mount_of start.view.opened) → IsSyncRun (file_of_fd fds fd) start now result → SyncHeedsStop fds fd start now result
