-- The first call is the thread's.
use Rattle.std.proofs.Common.{◌≡◌, List, ◌∷◌, get_or, sym, ap, subst, ◌∙◌}
use Rattle.nv_trace.specs.declared.trace_call.TracedCall.{TracedCall}
use Rattle.nv_runner.specs.Owners.{IsAtOwn}
use Rattle.nv_runner.specs.Shifts.{calls_of_thread}
use Rattle.nv_runner.proofs.OwnerLaws.{own_first}
use Rattle.nv_runner.proofs.call_list.CallListCalls.present.Goals as goal

pub returns : goal.returns
returns c =
    let list = c.args.self.now in
    let ready = c.requires in
    let behind = calls_of_thread list.thread ready.later in
    let here : get_or list.rest.now 0 c.index-self-0.result ≡ ready.call = ap (λ (l : List TracedCall). get_or l 0 c.index-self-0.result) ready.rest in
    (behind, own_first list.thread list.rest.now ready.call ready.later (subst (IsAtOwn list.thread) (sym ready.rest) ready.own) ready.rest ∙ ap (λ (call : TracedCall). call ∷ behind) (sym here))
