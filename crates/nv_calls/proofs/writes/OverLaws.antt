-- Over: what is so of a write that is over, and of one that goes on.
use Rattle.std.proofs.Common.{◌≡◌, ℕ, ◌<◌, List, length, refl, sym, subst}
use Rattle.std.specs.List.{concat}
use Rattle.std.specs.Prelude.{Option, Some, None, Result, Ok, Err, IfOk, OnErr}
use Rattle.nv_plain.specs.Modes.{can_write}
use Rattle.nv_plain.specs.declared.call.FileCall.{FileCall}
use Rattle.nv_plain.specs.declared.call.Reply.{Reply}
use Rattle.nv_plain.specs.declared.call.Reply.TheVariants.{Count}
use Rattle.nv_table.specs.invariant.Idle.{IsIdle, IsLater}
use Rattle.nv_table.specs.state.Opened.{Opened}
use Rattle.nv_table.specs.state.States.{PassState}
use Rattle.nv_table.proofs.steps.CallLaws.{later_self}
use Rattle.nv_mount.specs.declared.fds.Fd.{Fd}
use Rattle.nv_mirror.specs.declared.answers.Done.{Done}
use Rattle.nv_mirror.specs.declared.answers.Refusal.{Refusal}
use Rattle.nv_mirror.specs.Answers.{IsPlacedAs, IsUnplaced, place_in_answer}
use Rattle.nv_mirror.specs.Controls.{IsReplyTo, Told}
use Rattle.nv_calls.specs.calls.Advances.{IsFewer}
use Rattle.nv_calls.specs.declared.progress.Progress.{Progress}
use Rattle.nv_calls.specs.declared.progress.Progress.TheVariants.{More, Ended}
use Rattle.nv_calls.specs.declared.writing.WriteMachine.{WriteMachine}
use Rattle.nv_calls.specs.writes.WriteMachines.{IsWriteUnderWay, IsWriteUnderWayAs, WriteGoes, WriteGoesAs, measure}
use Rattle.nv_calls.specs.calls.Asks.{asks_write, asks_writev}
use Rattle.nv_calls.specs.calls.EarlyRefusals.{early_refusal}
use Rattle.nv_calls.specs.calls.EndedCalls.{IsCallOver}
use Rattle.nv_calls.specs.fsync.SyncRuns.{file_of_fd}
use Rattle.nv_calls.specs.writes.Writes.{IsWriteOver, IsWriteOverAs, IsWritePlaced, IsWritevPlaced}

-- a write that isn't over is under way
pub under_way_as : (asks : ℕ → FileCall) (fds : List Fd) (start : PassState) (m : WriteMachine) (list : List ℕ) (now : PassState) (progress : Progress) → ((result : Result Done Refusal) → progress ≡ Ended result → ⊥)
    → WriteGoesAs asks fds start m list now progress → IsWriteUnderWayAs asks fds m list start now
under_way_as asks fds start m list now More open_ goes = goes
under_way_as asks fds start m list now (Ended result) open_ goes = absurd (open_ result refl)

pub under_way : (fds : List Fd) (start : PassState) (m : WriteMachine) (list : List ℕ) (now : PassState) (progress : Progress) → ((result : Result Done Refusal) → progress ≡ Ended result → ⊥)
    → WriteGoes fds start m list now progress → IsWriteUnderWay fds m list start now
under_way fds start m list now = under_way_as (asks_write m.at list) fds start m list now

-- by fewer steps, of the same mount
pub fewer_now : (old new : PassState) (m next : WriteMachine) (progress : Progress) → ((result : Result Done Refusal) → progress ≡ Ended result → ⊥) → new.view.opened ≡ old.view.opened
    → IsFewer (measure old.view.opened.sizes) m next progress → measure new.view.opened.sizes next < measure old.view.opened.sizes m
fewer_now old new m next More open_ same less = subst (λ (o : Opened). measure o.sizes next < measure old.view.opened.sizes m) (sym same) less
fewer_now old new m next (Ended result) open_ same less = absurd (open_ result refl)

-- its pass is idle again, and the one that it was
leaves_by : (by : Option Refusal) (file : Option ℕ) (asks : ℕ → FileCall) (start now : PassState) (result : Result Done Refusal) → IsIdle start → IsCallOver by file asks start now result → IsIdle now × IsLater start now
leaves_by (Some refusal) file asks start now result idle over = subst (λ (p : PassState). IsIdle p × IsLater start p) (sym over.1) (idle, later_self start)
leaves_by None file asks start now result idle over = (over.2.idle, over.2.later)

pub leaves_idle_as : (asks : ℕ → FileCall) (fds : List Fd) (fd at len : ℕ) (start now : PassState) (result : Result Done Refusal) → IsIdle start → IsWriteOverAs asks fds fd at len start now result → IsIdle now × IsLater start now
leaves_idle_as asks fds fd at len start now result idle over = leaves_by (early_refusal can_write start.view.opened.sizes fds fd at len) (file_of_fd fds fd) asks start now result idle over

pub leaves_idle : (fds : List Fd) (fd at : ℕ) (list : List ℕ) (start now : PassState) (result : Result Done Refusal) → IsIdle start → IsWriteOver fds fd at list start now result → IsIdle now × IsLater start now
leaves_idle fds fd at list start now result idle over = leaves_idle_as (asks_write at list) fds fd at (length list) start now result idle over

-- ---- what is told of each write

-- it has its place, if it is done, as a write that was asked so, and tells that it wrote so many bytes
abbrev pub IsDoneAs : (asks : ℕ → FileCall) → List Fd → (fd len : ℕ) → (start now : PassState) → Result Done Refusal → Type 0
IsDoneAs asks fds fd len start now result =
    IfOk result (λ done. (file : ℕ) × (file_of_fd fds fd ≡ Some file) × (done.len ≡ len) × IsPlacedAs start.view now.view (asks file) (Count len) done.place)

pub record IsTold (asks : ℕ → FileCall) (fds : List Fd) (fd len : ℕ) (start now : PassState) (result : Result Done Refusal) : Type 0 where
  pub idle : IsIdle now
  pub later : IsLater start now
  pub spare : now.spare ≡ start.spare
  pub done : IsDoneAs asks fds fd len start now result
  pub kept : OnErr result (IsUnplaced start.view now.view)

-- a call whose reply is so many bytes, whichever its file is
abbrev Counts : (asks : ℕ → FileCall) → (len : ℕ) → Type 0
Counts asks len = (file : ℕ) (reply : Reply) → IsReplyTo (asks file) reply → reply ≡ Count len

told_done : (asks : ℕ → FileCall) (fds : List Fd) (fd len : ℕ) (start now : PassState) (result : Result Done Refusal) → Counts asks len → IfOk result (λ done. done.len ≡ len) → (file : ℕ) → file_of_fd fds fd ≡ Some file
    → Told (asks file) (place_in_answer result) start now → IsDoneAs asks fds fd len start now result
told_done asks fds fd len start now (Ok done) counts count file is told =
    (file, is, count, subst (λ reply. IsPlacedAs start.view now.view (asks file) reply done.place) (counts file told.0 told.1) told.2)
told_done asks fds fd len start now (Err refusal) counts count file is told = tt

told_kept : (asked : FileCall) (start now : PassState) (result : Result Done Refusal) → Told asked (place_in_answer result) start now → OnErr result (IsUnplaced start.view now.view)
told_kept asked start now (Ok done) told = tt
told_kept asked start now (Err refusal) told = told

told_by : (by : Option Refusal) (asks : ℕ → FileCall) (fds : List Fd) (fd len : ℕ) (start now : PassState) (result : Result Done Refusal) → Counts asks len → IfOk result (λ done. done.len ≡ len) → IsIdle start
    → IsCallOver by (file_of_fd fds fd) asks start now result → IsTold asks fds fd len start now result
told_by (Some refusal) asks fds fd len start now result counts count idle over =
    subst (λ (p : PassState). IsTold asks fds fd len start p result) (sym over.1)
    (subst (IsTold asks fds fd len start start) (sym over.0) record { idle = idle; later = later_self start; spare = refl; done = tt; kept = record { seen = refl; mine = refl } })
told_by None asks fds fd len start now result counts count idle over = record {
  idle = over.2.idle;
  later = over.2.later;
  spare = over.2.spare;
  done = told_done asks fds fd len start now result counts count over.0 over.1 over.2.told;
  kept = told_kept (asks over.0) start now result over.2.told;
}

pub over_told : (asks : ℕ → FileCall) (fds : List Fd) (fd at len : ℕ) (start now : PassState) (result : Result Done Refusal) → Counts asks len → IfOk result (λ done. done.len ≡ len) → IsIdle start
    → IsWriteOverAs asks fds fd at len start now result → IsTold asks fds fd len start now result
over_told asks fds fd at len start now result = told_by (early_refusal can_write start.view.opened.sizes fds fd at len) asks fds fd len start now result

-- so a write of bytes, and one of parts
pub bytes_placed : (fds : List Fd) (fd at : ℕ) (bytes : List ℕ) (start now : PassState) (result : Result Done Refusal) → IsDoneAs (asks_write at bytes) fds fd (length bytes) start now result
    → IfOk result (λ done. (file : ℕ) × (file_of_fd fds fd ≡ Some file) × IsWritePlaced file at bytes start.view now.view done)
bytes_placed fds fd at bytes start now (Ok done) is = (is.0, is.1, record { count = is.2; placed = is.3 })
bytes_placed fds fd at bytes start now (Err refusal) is = tt

pub parts_placed : (fds : List Fd) (fd at : ℕ) (parts : List (List ℕ)) (start now : PassState) (result : Result Done Refusal) → IsDoneAs (asks_writev at parts) fds fd (length (concat parts)) start now result
    → IfOk result (λ done. (file : ℕ) × (file_of_fd fds fd ≡ Some file) × IsWritevPlaced file at parts start.view now.view done)
parts_placed fds fd at parts start now (Ok done) is = (is.0, is.1, record { count = is.2; placed = is.3 })
parts_placed fds fd at parts start now (Err refusal) is = tt
