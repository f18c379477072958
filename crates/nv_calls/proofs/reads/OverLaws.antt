-- Over: what is so of a read that is over, and of one that goes on.
use Rattle.std.proofs.Common.{◌≡◌, ℕ, ◌<◌, List, length, refl, sym, ap, subst, ◌∙◌}
use Rattle.std.specs.Prelude.{Option, Some, None, Result, Ok, Err, IfOk, OnErr}
use Rattle.nv_plain.specs.Modes.{can_read}
use Rattle.nv_plain.specs.declared.call.FileCall.{FileCall}
use Rattle.nv_plain.specs.declared.call.FileCall.TheVariants.{Read}
use Rattle.nv_core.specs.invariant.InvariantLaws.{RunsAreSound}
use Rattle.nv_core.specs.state.Passes.{plain_call}
use Rattle.nv_core.specs.steps.Frames.{OwnEventsTell}
use Rattle.nv_core.specs.steps.Opening.{IsMount}
use Rattle.nv_table.specs.invariant.Idle.{IsIdle, IsLater}
use Rattle.nv_table.specs.state.Views.{pass_of}
use Rattle.nv_table.specs.state.Opened.{Opened, mount_of}
use Rattle.nv_table.specs.state.States.{PassState}
use Rattle.nv_table.proofs.steps.CallLaws.{later_self}
use Rattle.nv_mount.specs.declared.fds.Fd.{Fd}
use Rattle.nv_mirror.specs.declared.answers.Done.{Done}
use Rattle.nv_mirror.specs.declared.answers.Refusal.{Refusal}
use Rattle.nv_mirror.specs.Answers.{HasTold, IsListPlaced, IsUnplaced, place_in_answer, refusal_in_answer}
use Rattle.nv_mirror.specs.Controls.{IsOver}
use Rattle.nv_mirror.specs.OwnSteps.{AreOwnAs}
use Rattle.nv_mirror.specs.PassSteps.{is_fault}
use Rattle.nv_mirror.proofs.OwnLaws.{own_are_passing}
use Rattle.nv_mirror.proofs.StopLaws.{sets_stop}
use Rattle.nv_cache.specs.declared.read.RunningRead.TheVariants.{Over}
use Rattle.nv_cache.specs.RunningReads.{IsUnderWay}
use Rattle.nv_calls.specs.calls.Advances.{IsFewer}
use Rattle.nv_calls.specs.calls.Asks.{asks_read}
use Rattle.nv_calls.specs.calls.EarlyRefusals.{early_refusal}
use Rattle.nv_calls.specs.calls.EndedCalls.{IsCallOver, IsOverBy}
use Rattle.nv_calls.specs.declared.progress.Progress.{Progress}
use Rattle.nv_calls.specs.declared.progress.Progress.TheVariants.{More, Ended}
use Rattle.nv_calls.specs.declared.reading.ReadMachine.{ReadMachine}
use Rattle.nv_calls.specs.fsync.SyncRuns.{file_of_fd}
use Rattle.nv_calls.specs.reads.ReadMachines.{IsReadUnderWay, IsReadUnderWayAs, ReadGoes, ReadGoesAs, measure}
use Rattle.nv_calls.specs.reads.Reads.{IsReadDoneAs, IsReadOver, IsReadOverAs}

-- ---- a read that is over

pub done_of_file : RunsAreSound → OwnEventsTell → (asked : FileCall) (file at : ℕ) (list : List ℕ) (start now : PassState) (result : Result Done Refusal) → plain_call asked ≡ Read file at (length list)
    → IsMount (mount_of start.view.opened) → IsOver asked (refusal_in_answer result) (place_in_answer result) start now → HasTold asked list start.view now.view result → IsReadDoneAs asked list start now result
done_of_file sound tell asked file at list start now result is_made mount over told =
    let sizes = start.view.opened.sizes in
    let own = subst (λ call. AreOwnAs sizes asked call over.steps) is_made over.own in
    let stopped = sets_stop sizes (plain_call asked) sound tell start mount asked over.steps now over.made over.own ∙ ap is_fault over.refused in
    record { over = over; stopped = stopped; alone = λ unplaced mild. own_are_passing file at (length list) sizes asked over.steps own (over.placed ∙ unplaced) (stopped ∙ mild); told = told }

-- one that is made as a read of a file, by its steps
pub done_by : RunsAreSound → OwnEventsTell → (asked : FileCall) (file at : ℕ) (list room : List ℕ) (start now : PassState) (result : Result Done Refusal) → plain_call asked ≡ Read file at (length list)
    → IsMount (mount_of start.view.opened) → IsUnderWay (Read file at (length list)) (Over result) list room start now → (pass_of now.view).asked ≡ asked → IsReadDoneAs asked list start now result
done_by sound tell asked file at list room start now result is_made mount way asks =
    done_of_file sound tell asked file at list start now result is_made mount
    (subst (λ one. IsOver one (refusal_in_answer result) (place_in_answer result) start now) (sym way.stands.0.2.asks ∙ asks) way.stands.0.2)
    (subst (λ one. HasTold one list start.view now.view result) asks way.stands.1)

-- that its descriptor's file was asked for
pub over_as : (asks : ℕ → ℕ → FileCall) (fds : List Fd) (fd at : ℕ) (list : List ℕ) (start now : PassState) (result : Result Done Refusal) → (file : ℕ) → early_refusal can_read start.view.opened.sizes fds fd at (length list) ≡ None
    → file_of_fd fds fd ≡ Some file → IsReadDoneAs (asks (length list) file) list start now result → IsReadOverAs asks fds fd at list start now result
over_as asks fds fd at list start now result file early known done =
    subst (λ by. IsOverBy by (file_of_fd fds fd) (λ one. IsReadDoneAs (asks (length list) one) list start now result) start now result) (sym early) (file, known, done)

-- as any call
steps_by : (asks : ℕ → FileCall) (by : Option Refusal) (file : Option ℕ) (list : List ℕ) (start now : PassState) (result : Result Done Refusal) → IsOverBy by file (λ one. IsReadDoneAs (asks one) list start now result) start now result
    → IsCallOver by file asks start now result
steps_by asks (Some refusal) file list start now result over = over
steps_by asks None file list start now result over = (over.0, over.1, over.2.over)

pub call_over : (asks : ℕ → ℕ → FileCall) (fds : List Fd) (fd at : ℕ) (list : List ℕ) (start now : PassState) (result : Result Done Refusal) → IsReadOverAs asks fds fd at list start now result
    → IsCallOver (early_refusal can_read start.view.opened.sizes fds fd at (length list)) (file_of_fd fds fd) (asks (length list)) start now result
call_over asks fds fd at list start now result over = steps_by (asks (length list)) (early_refusal can_read start.view.opened.sizes fds fd at (length list)) (file_of_fd fds fd) list start now result over

-- ---- what is told of each read

-- it has its place, if it is done, as a read that was asked so
abbrev IsDoneAs : (asks : ℕ → ℕ → FileCall) → List Fd → (fd : ℕ) → (list : List ℕ) → (start now : PassState) → Result Done Refusal → Type 0
IsDoneAs asks fds fd list start now result = IfOk result (λ done. (file : ℕ) × (file_of_fd fds fd ≡ Some file) × IsListPlaced (asks (length list) file) list start.view now.view done)

told_done : (asks : ℕ → ℕ → FileCall) (fds : List Fd) (fd file : ℕ) (list : List ℕ) (start now : PassState) (result : Result Done Refusal) → file_of_fd fds fd ≡ Some file
    → HasTold (asks (length list) file) list start.view now.view result → IsDoneAs asks fds fd list start now result
told_done asks fds fd file list start now (Ok done) is told = (file, is, told)
told_done asks fds fd file list start now (Err refusal) is told = tt

told_kept : (asked : FileCall) (list : List ℕ) (start now : PassState) (result : Result Done Refusal) → HasTold asked list start.view now.view result → OnErr result (IsUnplaced start.view now.view)
told_kept asked list start now (Ok done) told = tt
told_kept asked list start now (Err refusal) told = told

pub record IsTold (asks : ℕ → ℕ → FileCall) (fds : List Fd) (fd : ℕ) (list : List ℕ) (start now : PassState) (result : Result Done Refusal) : Type 0 where
  pub idle : IsIdle now
  pub later : IsLater start now
  pub spare : now.spare ≡ start.spare
  pub done : IsDoneAs asks fds fd list start now result
  pub kept : OnErr result (IsUnplaced start.view now.view)

told_by : (asks : ℕ → ℕ → FileCall) (by : Option Refusal) (fds : List Fd) (fd : ℕ) (list : List ℕ) (start now : PassState) (result : Result Done Refusal) → IsIdle start
    → IsOverBy by (file_of_fd fds fd) (λ one. IsReadDoneAs (asks (length list) one) list start now result) start now result → IsTold asks fds fd list start now result
told_by asks (Some refusal) fds fd list start now result idle over =
    subst (λ (p : PassState). IsTold asks fds fd list start p result) (sym over.1)
    (subst (IsTold asks fds fd list start start) (sym over.0) record { idle = idle; later = later_self start; spare = refl; done = tt; kept = record { seen = refl; mine = refl } })
told_by asks None fds fd list start now result idle over = record {
  idle = over.2.over.idle;
  later = over.2.over.later;
  spare = over.2.over.spare;
  done = told_done asks fds fd over.0 list start now result over.1 over.2.told;
  kept = told_kept (asks (length list) over.0) list start now result over.2.told;
}

pub over_told_as : (asks : ℕ → ℕ → FileCall) (fds : List Fd) (fd at : ℕ) (list : List ℕ) (start now : PassState) (result : Result Done Refusal) → IsIdle start → IsReadOverAs asks fds fd at list start now result
    → IsTold asks fds fd list start now result
over_told_as asks fds fd at list start now result idle over = told_by asks (early_refusal can_read start.view.opened.sizes fds fd at (length list)) fds fd list start now result idle over

pub over_told : (fds : List Fd) (fd at : ℕ) (list : List ℕ) (start now : PassState) (result : Result Done Refusal) → IsIdle start → IsReadOver fds fd at list start now result → IsTold (asks_read at) fds fd list start now result
over_told fds fd at list start now result = over_told_as (asks_read at) fds fd at list start now result

-- ---- a read that goes on

-- which is not over is under way
pub goes_on_as : (asks : ℕ → ℕ → FileCall) (fds : List Fd) (start : PassState) (m : ReadMachine) (list : List ℕ) (now : PassState) (progress : Progress) → ((result : Result Done Refusal) → progress ≡ Ended result → ⊥)
    → ReadGoesAs asks fds start m list now progress → IsReadUnderWayAs asks fds m list start now
goes_on_as asks fds start m list now More open_ goes = goes
goes_on_as asks fds start m list now (Ended result) open_ goes = absurd (open_ result refl)

pub goes_on : (fds : List Fd) (start : PassState) (m : ReadMachine) (list : List ℕ) (now : PassState) (progress : Progress) → ((result : Result Done Refusal) → progress ≡ Ended result → ⊥)
    → ReadGoes fds start m list now progress → IsReadUnderWay fds m list start now
goes_on fds start m list now = goes_on_as (asks_read m.at) fds start m list now

-- by fewer steps, of the same mount
pub fewer : (old new : PassState) (m next : ReadMachine) (progress : Progress) → ((result : Result Done Refusal) → progress ≡ Ended result → ⊥) → new.view.opened ≡ old.view.opened
    → IsFewer (measure old.view.opened.sizes) m next progress → measure new.view.opened.sizes next < measure old.view.opened.sizes m
fewer old new m next More open_ same less = subst (λ (o : Opened). measure o.sizes next < measure old.view.opened.sizes m) (sym same) less
fewer old new m next (Ended result) open_ same less = absurd (open_ result refl)
