-- Threads: how a thread's calls go on.
use Rattle.std.proofs.Common.{◌≡◌, ◌-◌, ◌≤◌, true, List, [], ◌∷◌, ◌++◌, length, drop, get_or, refl, sym, ap, subst, ◌∙◌, arith}
use Rattle.std.specs.Prelude.{Some, None, take}
use Rattle.std.proofs.lemmas.Bool.{true≢false}
use Rattle.std.proofs.lemmas.Grind.{common_steps}
use Rattle.nv_table.specs.invariant.Idle.{IsIdle}
use Rattle.nv_table.specs.state.States.{PassState}
use Rattle.nv_mount.specs.declared.fds.Fd.{Fd}
use Rattle.nv_trace.specs.declared.trace_call.TraceCall.{TraceCall}
use Rattle.nv_trace.specs.declared.trace_call.TraceCall.TheVariants.{Pread, Pwrite, Preadv, Pwritev, Fsync}
use Rattle.nv_trace.specs.declared.trace_call.TracedCall.{TracedCall}
use Rattle.nv_runner.specs.declared.answer.Answer.{Answer}
use Rattle.nv_runner.specs.Lists.{MadeCall}
use Rattle.nv_schedule.specs.Callers.{AreAnswered, CallGoes, IsAnsweredBy, IsAtCall, ThreadHasCome, ThreadState}
use Rattle.nv_schedule.specs.Tries.{WereTried}

-- ---- its calls

-- the first one of some, and the others
pub first_and_rest : (calls : List TracedCall) (call : TracedCall) → 1 ≤ length calls → call ≡ get_or calls 0 call → calls ≡ call ∷ drop 1 calls
first_and_rest [] call some is = absurd (omega (arith, some))
first_and_rest (first ∷ later) call some is = ap (λ c. c ∷ later) (sym is)

-- all calls but the first
pub rest_whole : (calls : List TracedCall) → take (length calls - 1) (drop 1 calls) ≡ drop 1 calls
rest_whole calls = grind (arith, common_steps)

-- a call that hasn't begun
pub none_tried : (fds : List Fd) (call : TraceCall) (now : PassState) → WereTried fds call now now
none_tried fds (Pread fd at len) now = ([], refl)
none_tried fds (Pwrite fd at bytes) now = ([], refl)
none_tried fds (Preadv fd at lens) now = ([], refl)
none_tried fds (Pwritev fd at parts) now = ([], refl)
none_tried fds (Fsync fd) now = refl

pub at_next : (fds : List Fd) (left : List TracedCall) (now : PassState) → IsIdle now → IsAtCall fds left None now now
at_next fds [] now idle = (refl, refl, idle)
at_next fds (call ∷ later) now idle = (none_tried fds call.call now, idle)

-- one more answer
answered_on : (fds : List Fd) (made : List MadeCall) (call : TracedCall) (answer : Answer) (start last now : PassState) → AreAnswered fds made start last → IsAnsweredBy fds call.call last now answer
    → AreAnswered fds (made ++ record { call = call; answer = answer } ∷ []) start now
answered_on fds [] call answer start last now same one = (now, subst (λ (s : PassState). IsAnsweredBy fds call.call s now answer) same one, refl)
answered_on fds (m ∷ later) call answer start last now are one = (are.0, are.1, answered_on fds later call answer are.0 last now are.2 one)

-- ---- an advance

module _ (fds : List Fd) (old new : ThreadState) (call : TracedCall) (later : List TracedCall) (start pass now : PassState) (present : old.left ≡ call ∷ later) where
  pub at_present : (last : PassState) → IsAtCall fds old.left old.hand last pass → IsAtCall fds (call ∷ later) old.hand last pass
  at_present last at = subst (λ left. IsAtCall fds left old.hand last pass) present at

  -- it goes on
  pub come_on : new.left ≡ old.left → new.made ≡ old.made → new.begun ≡ true
      → ((after : List TracedCall) (last : PassState) → IsAtCall fds (call ∷ after) old.hand last pass → CallGoes fds call after new.hand last now None) → ThreadHasCome fds old start pass → ThreadHasCome fds new start now
  come_on same_left same_made has_begun goes come = record {
    last = come.last;
    made = subst (λ made. AreAnswered fds made start come.last) (sym same_made) come.made;
    at = subst (λ left. IsAtCall fds left new.hand come.last now) (sym (same_left ∙ present)) (goes later come.last (at_present come.last come.at));
    unbegun = λ not. absurd (true≢false (sym has_begun ∙ not));
  }

  -- it is answered
  pub come_past : (answer : Answer) → new.made ≡ old.made ++ record { call = call; answer = answer } ∷ []
      → ((after : List TracedCall) (last : PassState) → IsAtCall fds (call ∷ after) old.hand last pass → CallGoes fds call after new.hand last now (Some answer)) → ThreadHasCome fds old start pass
      → ThreadHasCome fds new start now
  come_past answer more goes come =
      let gone = goes later come.last (at_present come.last come.at) in
      record {
        last = now;
        made = subst (λ made. AreAnswered fds made start now) (sym more) (answered_on fds old.made call answer start come.last now come.made gone.1);
        at = subst (λ hand. IsAtCall fds new.left hand now now) (sym gone.0) (at_next fds new.left now gone.2);
        unbegun = λ not. (gone.0, refl);
      }
