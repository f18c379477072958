-- One more call was made, of those that are left.
use Rattle.std.proofs.Common.{◌≡◌, List, [], ◌∷◌, ◌++◌, refl, sym, ap, subst, ◌∙◌, append-nil}
use Rattle.nv_pages.proofs.StoreLaws.{on_err}
use Rattle.nv_table.specs.state.States.{PassState}
use Rattle.nv_table.proofs.steps.CallLaws.{later_on}
use Rattle.nv_trace.specs.declared.trace_call.TracedCall.{TracedCall}
use Rattle.std.specs.Prelude.{Ok}
use Rattle.nv_runner.specs.Calls.{IsAnswered}
use Rattle.nv_runner.specs.Lists.{AllWereMade, AreMade, MadeCall, SomeWereMade, calls_made}
use Rattle.nv_runner.proofs.ListLaws.{listed_on, made_on, some_made}
use Rattle.nv_runner.proofs.list.make_all.Goals as goal

pub loop-rooms-preserved : goal.loop-rooms-preserved
loop-rooms-preserved g c =
    let fds = c.args.mount.now.fds in
    let worker = c.args.worker in
    let start = c.args.pass.now in
    let old = c.loop-rooms.pass in
    let new = c.make_call.new.pass in
    let made : List MadeCall = g.C.Calls.made c.loop-rooms.calls in
    let left : List TracedCall = g.C.Calls.left c.loop-rooms.calls in
    let later : List TracedCall = g.C.Calls.left c.put.new.self in
    let call : TracedCall = c.put.ensures.0 in
    let first : left ≡ call ∷ later = sym c.in_ok-ready.ensures.left ∙ c.put.ensures.1 in
    let at_hand : call ≡ c.present-call.result.now = cc (c.put.ensures.1, c.present-call.ensures.1) in
    let m : MadeCall = record { call = call; answer = c.in_ok-answer.answer } in
    let more : g.C.Calls.made c.put.new.self ≡ made ++ m ∷ [] = c.put.ensures.2 ∙ ap (λ l. l ++ m ∷ []) c.in_ok-ready.ensures.made in
    record {
      board = c.make_call.ensures.board;
      idle = c.make_call.ensures.idle;
      later = later_on start old new c.loop-rooms.invariant.later c.make_call.ensures.later;
      workspace = c.make_call.ensures.workspace;
      bare = c.make_call.ensures.bare;
      listed = ap (λ l. calls_made l ++ later) more ∙ listed_on made call m.answer (g.C.Calls.left c.args.calls.now) left later c.loop-rooms.invariant.listed first;
      each = subst (λ l. AreMade fds worker l start new) (sym more)
          (made_on fds worker made m start old new c.loop-rooms.invariant.each
          (subst (λ (t : TracedCall). IsAnswered fds worker t.call old new c.in_ok-answer.answer) (sym at_hand) c.in_ok-answer.ensures.answered));
    }

pub returns-in_err-rooms-clause-memory : goal.returns-in_err-rooms-clause-memory
returns-in_err-rooms-clause-memory g c =
    let all = g.C.Calls.left c.args.calls.now in
    let made = g.C.Calls.made c.take_rooms.new.self in
    let none : made ≡ [] = c.take_rooms.ensures.made ∙ c.requires.none in
    let some : SomeWereMade c.args.mount.now.fds c.args.worker all [] c.args.pass.now c.args.pass.now = some_made c.args.mount.now.fds c.args.worker all all [] c.args.pass.now c.args.pass.now c.in_err-rooms.ensures.memory refl refl in
    on_err c.from_residual.result (SomeWereMade c.args.mount.now.fds c.args.worker all made c.args.pass.now c.args.pass.now)
    (subst (λ l. SomeWereMade c.args.mount.now.fds c.args.worker all l c.args.pass.now c.args.pass.now) (sym none) some)

pub returns-in_err-ready-clause-memory : goal.returns-in_err-ready-clause-memory
returns-in_err-ready-clause-memory g c =
    let fds = c.args.mount.now.fds in
    let all = g.C.Calls.left c.args.calls.now in
    let start = c.args.pass.now in
    let now = c.loop-rooms.pass in
    let some = some_made fds c.args.worker all (g.C.Calls.left c.loop-rooms.calls) (g.C.Calls.made c.loop-rooms.calls) start now c.in_err-ready.ensures.memory c.loop-rooms.invariant.listed c.loop-rooms.invariant.each in
    on_err c.from_residual-in_err-ready.result (SomeWereMade fds c.args.worker all (g.C.Calls.made c.ready.new.self) start now)
    (subst (λ l. SomeWereMade fds c.args.worker all l start now) (sym c.in_err-ready.ensures.made) some)

pub returns-in_err-answer-clause-memory : goal.returns-in_err-answer-clause-memory
returns-in_err-answer-clause-memory g c =
    let fds = c.args.mount.now.fds in
    let all = g.C.Calls.left c.args.calls.now in
    let start = c.args.pass.now in
    let old = c.loop-rooms.pass in
    let some : SomeWereMade fds c.args.worker all (g.C.Calls.made c.loop-rooms.calls) start old = record {
      next = c.present-call.result.now;
      left = c.present-call.ensures.0;
      some = ap (λ l. calls_made (g.C.Calls.made c.loop-rooms.calls) ++ l) (sym c.present-call.ensures.1 ∙ c.in_ok-ready.ensures.left) ∙ c.loop-rooms.invariant.listed;
      each = c.loop-rooms.invariant.each;
    } in
    on_err c.from_residual-in_err-answer.result (SomeWereMade fds c.args.worker all (g.C.Calls.made c.ready.new.self) start c.make_call.new.pass)
    (subst (λ l. SomeWereMade fds c.args.worker all l start c.make_call.new.pass) (sym c.in_ok-ready.ensures.made)
    (subst (λ (p : PassState). SomeWereMade fds c.args.worker all (g.C.Calls.made c.loop-rooms.calls) start p) (sym c.in_err-answer.ensures.memory) some))

pub returns-clause-made : goal.returns-clause-made
returns-clause-made g c =
    let fds = c.args.mount.now.fds in
    let made = g.C.Calls.made c.loop-rooms.calls in
    let none : g.C.Calls.left c.loop-rooms.calls ≡ [] = c.in_ok-ready.ensures.none (ap Ok c.if-branch.false) in
    let all : calls_made made ≡ g.C.Calls.left c.args.calls.now = sym (append-nil (calls_made made)) ∙ ap (λ l. calls_made made ++ l) (sym none) ∙ c.loop-rooms.invariant.listed in
    subst (λ l. AllWereMade fds c.args.worker (g.C.Calls.left c.args.calls.now) l c.args.pass.now c.loop-rooms.pass) (sym c.in_ok-ready.ensures.made) record { all = all; each = c.loop-rooms.invariant.each }
