-- Reads alone: what a read of pass 0 is answered while no other pass is out.
use Rattle.std.specs.Prelude.{◌≢◌, ℕ, List, Result, Err}
use Rattle.nv_plain.specs.declared.call.FileCall.{FileCall}
use Rattle.nv_core.specs.steps.Opening.{IsMount}
use Rattle.nv_table.specs.passes.Alone.{IsAlone}
use Rattle.nv_table.specs.state.Opened.{mount_of}
use Rattle.nv_table.specs.invariant.BetweenSteps.{KnowsTaken}
use Rattle.nv_table.specs.state.States.{PassState}
use Rattle.nv_mount.specs.declared.fds.Fd.{Fd}
use Rattle.nv_mirror.specs.declared.answers.Done.{Done}
use Rattle.nv_mirror.specs.declared.answers.Refusal.{Refusal}
use Rattle.nv_mirror.specs.declared.answers.Refusal.TheVariants.{Busy}
use Rattle.nv_calls.specs.reads.Reads.{IsReadOver, IsReadOverAs}

-- It has found no lock held, whatever it was asked as.
abbrev pub NoReadIsBusyAs : Type 0
NoReadIsBusyAs =
    (asks : (len file : ℕ) → FileCall) (fds : List Fd) (fd at : ℕ) (list : List ℕ) (start now : PassState) (result : Result Done Refusal) (cell : ℕ)
    → IsMount (mount_of start.view.opened) → KnowsTaken start.view → IsAlone start.view → IsReadOverAs asks fds fd at list start now result → result ≢ Err (Busy cell)

-- so a read
abbrev pub NoReadIsBusy : Type 0
NoReadIsBusy =
    (fds : List Fd) (fd at : ℕ) (list : List ℕ) (start now : PassState) (result : Result Done Refusal) (cell : ℕ)
    → IsMount (mount_of start.view.opened) → KnowsTaken start.view → IsAlone start.view → IsReadOver fds fd at list start now result → result ≢ Err (Busy cell)
