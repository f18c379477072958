-- One more thread has a worker.
use Rattle.std.proofs.Common.{◌≡◌, List, [], ◌∷◌, ◌++◌, length, map, sym, ap, subst, ◌∙◌, arith}
use Rattle.std.specs.Prelude.{All}
use Rattle.std.proofs.lemmas.List.{length-map, length_push, map_push}
use Rattle.std.proofs.lemmas.List.Elements.{All-push, All-tail}
use Rattle.std.specs.Vec.Iter.{into_iter_items}
use Rattle.nv_table.specs.state.Views.{AreDistinctNumbers, Past}
use Rattle.nv_runner.specs.Owners.{AreShares}
use Rattle.nv_runner.specs.Shifts.{calls_of_thread}
use Rattle.nv_runner.specs.Workers.{HasShare, IsNewWorker, WorkerState, crew_of, threads_of}
use Rattle.nv_runner.proofs.PassLaws.{still_on}
use Rattle.nv_runner.proofs.RoundLists.{crew_long, crew_push, distinct_crew}
use Rattle.nv_runner.proofs.hiring.hire.Goals as goal

pub loop-owner-preserved : goal.loop-owner-preserved
loop-owner-preserved g c =
    let W = WorkerState g.row.L.Denot g.row.B.Denot in
    let left = g.C.Calls.left in
    let steps = c.in-Some.ensures.steps in
    let owner = c.in-Some.owner in
    let rest = into_iter_items c.next.new.self in
    let so_far = c.loop-owner.invariant in
    let thread = c.loop-owner.thread in
    let hired = c.in_ok-hire_one.ensures.hired in
    let before : List W = c.loop-owner.workers.items in
    let New = IsNewWorker c.args.mount.now c.args.zero.now.view.ended in
    let is_new : New hired.worker = subst (λ (l : List Past). IsNewWorker c.args.mount.now l hired.worker) so_far.ended hired.is_new in
    let long = length_push before hired.worker in
    record {
      zero = c.hire_one.ensures.zero;
      still = still_on c.args.zero.now c.loop-owner.zero c.hire_one.new.zero so_far.still c.hire_one.ensures.still;
      ended = c.hire_one.ensures.ended ∙ so_far.ended;
      new = subst (All New) (sym hired.more) (All-push New before hired.worker so_far.new is_new);
      made = omega (arith, hired.made, so_far.made, ap length hired.more, long);
      threads = ap threads_of hired.more ∙ map_push (λ (w : W). w.thread) before hired.worker
          ∙ ap (λ l. l ++ hired.worker.thread ∷ []) so_far.threads ∙ ap (λ n. crew_of thread c.args.batch ++ n ∷ []) hired.thread
          ∙ sym (crew_push thread c.args.batch);
      many = omega (arith, so_far.many, ap length steps.0);
      count = omega (arith, so_far.count, ap length steps.0, steps.1);
      fresh = All-tail (λ (o : g.row.C.Denot). g.C.Calls.made o ≡ []) owner rest (subst (All (λ (o : g.row.C.Denot). g.C.Calls.made o ≡ [])) steps.0 so_far.fresh);
      shares = λ calls below shares.
          let so = so_far.shares calls below shares in
          let here = subst (λ l. AreShares calls thread (map left l)) steps.0 so.1 in
          let share : HasShare calls hired.worker = hired.left ∙ here.0 ∙ ap (λ n. calls_of_thread n calls) (sym hired.thread) in
          (subst (All (HasShare calls)) (sym hired.more) (All-push (HasShare calls) before hired.worker so.0 share), here.1);
    }

pub hire_one-requires-clause-few : goal.hire_one-requires-clause-few
hire_one-requires-clause-few g c =
    let inv = c.loop-owner.invariant in
    omega (arith, inv.made, ap length inv.threads, length-map c.loop-owner.workers.items (λ (w : WorkerState g.row.L.Denot g.row.B.Denot). w.thread), crew_long c.loop-owner.thread c.args.batch, c.requires.few, c.requires.threads, inv.many, ap length c.in-Some.ensures.steps.0)

pub returns-in_err-hire_one-clause-few : goal.returns-in_err-hire_one-clause-few
returns-in_err-hire_one-clause-few g c =
    let inv = c.loop-owner.invariant in
    omega (arith, ap length c.in_err-hire_one.ensures.none, ap length inv.threads, length-map c.loop-owner.workers.items (λ (w : WorkerState g.row.L.Denot g.row.B.Denot). w.thread), crew_long c.loop-owner.thread c.args.batch, c.requires.threads, inv.many, ap length c.in-Some.ensures.steps.0)

pub returns-in_err-hire_one-clause-distinct : goal.returns-in_err-hire_one-clause-distinct
returns-in_err-hire_one-clause-distinct g c =
    let inv = c.loop-owner.invariant in
    subst (λ l. AreDistinctNumbers (threads_of l)) (sym c.in_err-hire_one.ensures.none)
    (subst AreDistinctNumbers (sym inv.threads) (distinct_crew c.loop-owner.thread c.args.batch (omega (arith, c.requires.threads, inv.many, ap length c.in-Some.ensures.steps.0))))

pub returns-clause-few : goal.returns-clause-few
returns-clause-few g c =
    let inv = c.loop-owner.invariant in
    omega (arith, ap length inv.threads, length-map c.loop-owner.workers.items (λ (w : WorkerState g.row.L.Denot g.row.B.Denot). w.thread), crew_long c.loop-owner.thread c.args.batch, c.requires.threads, inv.many)

pub returns-clause-distinct : goal.returns-clause-distinct
returns-clause-distinct g c =
    let inv = c.loop-owner.invariant in
    subst AreDistinctNumbers (sym inv.threads) (distinct_crew c.loop-owner.thread c.args.batch (omega (arith, c.requires.threads, inv.many)))

pub returns-in_err-hire_one-clause-still : goal.returns-in_err-hire_one-clause-still
returns-in_err-hire_one-clause-still g c = still_on c.args.zero.now c.loop-owner.zero c.hire_one.new.zero c.loop-owner.invariant.still c.hire_one.ensures.still
