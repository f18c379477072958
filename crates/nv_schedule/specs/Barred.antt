-- Barred: calls that are refused by what they ask for, and so answered by an advance that makes no step.
use Rattle.std.specs.Prelude.{◌≡◌, ◌≢◌, Bool, true, List, [], ◌∷◌, Some, None, Err}
use Rattle.nv_core.specs.state.Words.{Sizes}
use Rattle.nv_mount.specs.declared.fds.Fd.{Fd}
use Rattle.nv_mirror.specs.declared.answers.Refusal.{Refusal}
use Rattle.nv_calls.specs.declared.progress.Progress.{Progress}
use Rattle.nv_calls.specs.declared.progress.Progress.TheVariants.{Ended}
use Rattle.nv_trace.specs.declared.trace_call.TraceCall.{TraceCall}
use Rattle.nv_trace.specs.declared.trace_call.TracedCall.{TracedCall}
use Rattle.nv_runner.specs.Refusals.{early_of_call}

-- What it asks for bars a call, and that is what it was refused for.
pub record IsRefusedEarly (sizes : Sizes) (fds : List Fd) (call : TraceCall) (progress : Progress) : Type 0 where
  pub refusal : Refusal
  pub early : early_of_call sizes fds call ≡ Some refusal
  pub ended : progress ≡ Ended (Err refusal)

-- What it asks for bars a call, and it was answered.
pub record IsAnsweredEarly (sizes : Sizes) (fds : List Fd) (call : TraceCall) (answered : Bool) : Type 0 where
  pub over : answered ≡ true
  pub barred : early_of_call sizes fds call ≢ None

-- so it is of the first of some calls
abbrev pub IsFirstAnsweredEarly : Sizes → List Fd → List TracedCall → (answered : Bool) → Type 0
IsFirstAnsweredEarly sizes fds [] answered = ⊥
IsFirstAnsweredEarly sizes fds (call ∷ later) answered = IsAnsweredEarly sizes fds call.call answered
