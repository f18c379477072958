-- The workers have served since their passes were made.
use Rattle.std.proofs.Common.{◌≡◌, true, List, sym, subst, ◌∙◌, arith}
use Rattle.std.specs.Prelude.{All}
use Rattle.std.proofs.lemmas.List.Elements.{All-weaker}
use Rattle.nv_runner.specs.Workers.{HasMadeAll, HasServed, HasShare, IsNewWorker, IsReady, WorkerState}
use Rattle.nv_runner.proofs.ServedLaws.{all_served_new, written}
use Rattle.nv_runner.proofs.round.serve.Goals as goal

pub returns-in_err-hire-clause-ready : goal.returns-in_err-hire-clause-ready
returns-in_err-hire-clause-ready g c =
    All-weaker (IsNewWorker c.args.mount.now c.args.zero.now.view.ended) (IsReady c.args.mount.now) (λ (w : WorkerState g.row.L.Denot g.row.B.Denot) new. new.ready) c.hire.new.workers.items c.hire.ensures.new

pub returns-in_err-hire-clause-served : goal.returns-in_err-hire-clause-served
returns-in_err-hire-clause-served g c = λ calls below shares. all_served_new c.args.mount.now c.args.batch c.args.zero.now.view.ended calls c.hire.new.workers.items c.hire.ensures.new

pub returns-then-all_done-clause-served : goal.returns-then-all_done-clause-served
returns-then-all_done-clause-served g c =
    let ended = c.args.zero.now.view.ended in
    λ calls below shares.
    subst (All (HasServed c.args.mount.now c.args.batch ended calls)) (sym (written c.hire.new.workers.len c.hire.new.workers.items c.serve_all.new.workers (omega arith) (omega arith)))
    (c.serve_all.ensures.served ended calls (subst (All (IsNewWorker c.args.mount.now ended)) (sym c.as_mut_slice.ensures.value) c.hire.ensures.new)
    (subst (All (HasShare calls)) (sym c.as_mut_slice.ensures.value) (c.hire.ensures.shares calls below shares)))

pub returns-else-all_done-clause-served : goal.returns-else-all_done-clause-served
returns-else-all_done-clause-served g c =
    let ended = c.args.zero.now.view.ended in
    λ calls below shares.
    subst (All (HasServed c.args.mount.now c.args.batch ended calls)) (sym (written c.hire.new.workers.len c.hire.new.workers.items c.serve_all.new.workers (omega arith) (omega arith)))
    (c.serve_all.ensures.served ended calls (subst (All (IsNewWorker c.args.mount.now ended)) (sym c.as_mut_slice.ensures.value) c.hire.ensures.new)
    (subst (All (HasShare calls)) (sym c.as_mut_slice.ensures.value) (c.hire.ensures.shares calls below shares)))

pub returns-then-all_done-clause-ready : goal.returns-then-all_done-clause-ready
returns-then-all_done-clause-ready g c =
    subst (All (IsReady c.args.mount.now)) (sym (written c.hire.new.workers.len c.hire.new.workers.items c.serve_all.new.workers (omega arith) (omega arith))) c.serve_all.ensures.ready

pub returns-else-all_done-clause-ready : goal.returns-else-all_done-clause-ready
returns-else-all_done-clause-ready g c =
    subst (All (IsReady c.args.mount.now)) (sym (written c.hire.new.workers.len c.hire.new.workers.items c.serve_all.new.workers (omega arith) (omega arith))) c.serve_all.ensures.ready

pub returns-then-all_done-clause-all : goal.returns-then-all_done-clause-all
returns-then-all_done-clause-all g c =
    let W = WorkerState g.row.L.Denot g.row.B.Denot in
    let now : List W = c.serve_all.new.workers in
    let whole = written c.hire.new.workers.len c.hire.new.workers.items now (omega arith) (omega arith) in
    let done : All (λ (w : W). w.done ≡ true) now = subst (All (λ (w : W). w.done ≡ true)) (c.deref.ensures.value ∙ whole) (c.all_done.ensures c.if-all_done.true) in
    λ calls below shares.
    let share = subst (All (HasShare calls)) (sym c.as_mut_slice.ensures.value) (c.hire.ensures.shares calls below shares) in
    subst (All (HasMadeAll calls)) (sym whole) (λ k d inside. c.serve_all.ensures.all calls share k d inside (done k d inside))
