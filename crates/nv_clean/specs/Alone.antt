-- Alone: what a batch of pass 0 is answered while no other pass is out.
use Rattle.std.specs.Prelude.{◌≡◌, ℕ, ◌+◌, ◌<◌, ◌≤◌, if◌then◌else◌, Result, Ok, Err}
use Rattle.nv_core.specs.state.Words.{STOP, HEAD, TAIL}
use Rattle.nv_core.specs.steps.Opening.{IsMount}
use Rattle.nv_table.specs.invariant.BetweenSteps.{KnowsTaken}
use Rattle.nv_table.specs.invariant.Idle.{IsIdle}
use Rattle.nv_table.specs.passes.Alone.{IsAlone}
use Rattle.nv_table.specs.state.Opened.{mount_of}
use Rattle.nv_table.specs.state.States.{PassState}
use Rattle.nv_table.specs.state.Views.{PassView}
use Rattle.nv_mount.specs.ClosedAtRest.{HasEmptiedLog}
use Rattle.nv_mount.specs.LoneWords.{word_then}
use Rattle.nv_clean.specs.declared.batch.CleanRefusal.{CleanRefusal}
use Rattle.nv_clean.specs.declared.batch.CleanRefusal.TheVariants.{Idle, Busy, Stopped}
use Rattle.nv_clean.specs.declared.clean.Cleaned.{Cleaned}
use Rattle.nv_clean.specs.Answers.{HasEnded, tells_fault}

-- how many entries it has retired
abbrev pub retired_of : Result Cleaned CleanRefusal → ℕ
retired_of (Ok cleaned) = cleaned.retired
retired_of (Err refusal) = 0

-- Why a batch that began where STOP, TAIL and HEAD were so is answered so. No lock is ever found held. It has found STOP set where it says so, and else at 0; then the log was empty exactly where
-- the answer is that there is nothing to clean.
abbrev pub IsCauseOf : (stop tail head : ℕ) → Result Cleaned CleanRefusal → Type 0
IsCauseOf stop tail head (Ok cleaned) = (stop ≡ 0) × (tail + cleaned.retired ≤ head)
IsCauseOf stop tail head (Err (Idle at)) = (stop ≡ 0) × (tail ≡ head) × (at ≡ tail)
IsCauseOf stop tail head (Err (Busy cell)) = ⊥
IsCauseOf stop tail head (Err Stopped) = stop ≡ 1
IsCauseOf stop tail head (Err refusal) = (stop ≡ 0) × (tail < head)

-- Of the words of the log it has moved TAIL, past what it retired, and no other; it has set STOP exactly where a device has failed; and its pass is alone still. Where there was nothing to clean
-- the pass has left the log empty.
pub record IsAnsweredAlone (start now : PassView) (result : Result Cleaned CleanRefusal) : Type 0 where
  pub cause : IsCauseOf (word_then start STOP) (word_then start TAIL) (word_then start HEAD) result
  pub stop : word_then now STOP ≡ (if tells_fault result then 1 else word_then start STOP)
  pub tail : word_then now TAIL ≡ word_then start TAIL + retired_of result
  pub head : word_then now HEAD ≡ word_then start HEAD
  pub knows : KnowsTaken now
  pub alone : IsAlone now
  pub emptied : (at : ℕ) → result ≡ Err (Idle at) → HasEmptiedLog now

-- So it is of every whole batch.
abbrev pub BatchesAloneAreAnswered : Type 0
BatchesAloneAreAnswered =
    (most : ℕ) (start now : PassState) (result : Result Cleaned CleanRefusal)
    → IsMount (mount_of start.view.opened) → KnowsTaken start.view → IsAlone start.view → IsIdle start → HasEnded most start now result → IsAnsweredAlone start.view now.view result
