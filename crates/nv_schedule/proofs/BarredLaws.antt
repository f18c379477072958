-- Barred: a call that is refused by what it asks for doesn't begin anew.
use Rattle.std.proofs.Common.{◌≡◌, false, List, refl, sym, subst, ◌∙◌}
use Rattle.std.specs.Prelude.{Option, Some, None, Result, Err, MatchOption, ⊤}
use Rattle.nv_core.specs.state.Words.{Sizes}
use Rattle.nv_mount.specs.declared.fds.Fd.{Fd}
use Rattle.nv_mirror.specs.declared.answers.Done.{Done}
use Rattle.nv_mirror.specs.declared.answers.Refusal.{Refusal}
use Rattle.nv_mirror.specs.declared.answers.Refusal.TheVariants.{BadFd, TooFar, TooLong}
use Rattle.nv_calls.specs.declared.progress.Progress.{Progress}
use Rattle.nv_calls.specs.declared.progress.Progress.TheVariants.{More, Ended}
use Rattle.nv_trace.specs.declared.trace_call.TraceCall.{TraceCall}
use Rattle.nv_trace.specs.declared.trace_call.TraceCall.TheVariants.{Pread, Pwrite, Preadv, Pwritev, Fsync}
use Rattle.nv_runner.specs.Refusals.{early_of_call}
use Rattle.nv_runner.proofs.CauseLaws.{early_such}
use Rattle.nv_schedule.specs.Barred.{IsRefusedEarly}
use Rattle.nv_schedule.specs.Tries.{begins_anew, begins_anew_by}

bad : (call : TraceCall) → begins_anew_by call BadFd ≡ false
bad (Pread fd at len) = refl
bad (Pwrite fd at bytes) = refl
bad (Preadv fd at lens) = refl
bad (Pwritev fd at parts) = refl
bad (Fsync fd) = refl

far : (call : TraceCall) → begins_anew_by call TooFar ≡ false
far (Pread fd at len) = refl
far (Pwrite fd at bytes) = refl
far (Preadv fd at lens) = refl
far (Pwritev fd at parts) = refl
far (Fsync fd) = refl

long : (call : TraceCall) → begins_anew_by call TooLong ≡ false
long (Pread fd at len) = refl
long (Pwrite fd at bytes) = refl
long (Preadv fd at lens) = refl
long (Pwritev fd at parts) = refl
long (Fsync fd) = refl

pub for_good : (sizes : Sizes) (fds : List Fd) (call : TraceCall) (refusal : Refusal) → early_of_call sizes fds call ≡ Some refusal → begins_anew_by call refusal ≡ false
for_good sizes fds call refusal is =
    subst (λ (early : Option Refusal). MatchOption early ⊤ (λ r. begins_anew_by call r ≡ false)) is
    (early_such (λ r. begins_anew_by call r ≡ false) (bad call) (far call) (long call) sizes fds call)

ended_alike : (one other : Result Done Refusal) → Ended one ≡ Ended other → one ≡ other
ended_alike one other is = cc

pub not_anew : (sizes : Sizes) (fds : List Fd) (call : TraceCall) (progress : Progress) (ended : Result Done Refusal) → progress ≡ Ended ended → IsRefusedEarly sizes fds call progress → begins_anew call ended ≡ false
not_anew sizes fds call progress ended is early =
    subst (λ (r : Result Done Refusal). begins_anew call r ≡ false) (sym (ended_alike ended (Err early.refusal) (sym is ∙ early.ended))) (for_good sizes fds call early.refusal early.early)

pub not_more : (sizes : Sizes) (fds : List Fd) (call : TraceCall) (progress : Progress) → progress ≡ More → IsRefusedEarly sizes fds call progress → ⊥
not_more sizes fds call progress is early = differ (sym is ∙ early.ended)
  where
    differ : More ≡ Ended (Err early.refusal) → ⊥
    differ same = absurd (cc)

pub is_barred : (sizes : Sizes) (fds : List Fd) (call : TraceCall) (progress : Progress) → IsRefusedEarly sizes fds call progress → early_of_call sizes fds call ≡ None → ⊥
is_barred sizes fds call progress early none = differ (sym none ∙ early.early)
  where
    differ : None ≡ Some early.refusal → ⊥
    differ same = absurd (cc)
