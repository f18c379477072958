-- The last one that is left is taken in.
use Rattle.std.proofs.Common.{◌≡◌, ◌+◌, List, [], ◌∷◌, ◌++◌, length, map, refl, sym, ap, subst, ◌∙◌, arith, append_assoc}
use Rattle.std.specs.Prelude.{IfSome}
use Rattle.std.specs.List.{flat_map}
use Rattle.std.specs.Option.{option_to_list}
use Rattle.std.proofs.lemmas.List.{length_push, map_push}
use Rattle.std.proofs.lemmas.List.Elements.{All-pop}
use Rattle.std.proofs.lemmas.List.Sorted.{IsPermutation-refl}
use Rattle.nv_table.specs.invariant.Idle.{IsIdle}
use Rattle.nv_table.specs.passes.Seats.{past_of}
use Rattle.nv_table.specs.state.States.{IsOf, PassState}
use Rattle.nv_table.specs.state.Views.{Past}
use Rattle.nv_runner.specs.Lists.{MadeCall}
use Rattle.nv_runner.specs.Owners.{if_owner}
use Rattle.nv_runner.specs.Workers.{IsReady, WorkerState}
use Rattle.nv_runner.proofs.OwnerLaws.{owner_back}
use Rattle.nv_runner.proofs.PassLaws.{still_on, still_same}
use Rattle.nv_runner.proofs.hiring.take_in_all.Goals as goal

pub take_in-requires-clause-board : goal.take_in-requires-clause-board
take_in-requires-clause-board g c =
    let W = WorkerState g.row.L.Denot g.row.B.Denot in
    let P : W → Type 0 = IsReady c.args.mount.now in
    let ready = subst (λ r. IfSome r P) c.in-Some.is (All-pop P c.loop-worker.workers.items c.pop.new.self.items c.pop.result c.pop.ensures.items c.loop-worker.invariant.ready).1 in
    let same : c.in-Some.worker.pass ≡ c.worker.inside.pass = cc (ap (λ (v : W). v.pass) c.worker.view_is) in
    subst (λ (p : PassState). IsOf c.args.mount.now.board p) same ready.board

pub take_in-requires-clause-other : goal.take_in-requires-clause-other
take_in-requires-clause-other g c =
    let W = WorkerState g.row.L.Denot g.row.B.Denot in
    let P : W → Type 0 = IsReady c.args.mount.now in
    let ready = subst (λ r. IfSome r P) c.in-Some.is (All-pop P c.loop-worker.workers.items c.pop.new.self.items c.pop.result c.pop.ensures.items c.loop-worker.invariant.ready).1 in
    let same : c.in-Some.worker.pass ≡ c.worker.inside.pass = cc (ap (λ (v : W). v.pass) c.worker.view_is) in
    subst (λ (p : PassState). p.view.number ≡ 0 → ⊥) same ready.other

pub take_in-requires-clause-idle : goal.take_in-requires-clause-idle
take_in-requires-clause-idle g c =
    let W = WorkerState g.row.L.Denot g.row.B.Denot in
    let P : W → Type 0 = IsReady c.args.mount.now in
    let ready = subst (λ r. IfSome r P) c.in-Some.is (All-pop P c.loop-worker.workers.items c.pop.new.self.items c.pop.result c.pop.ensures.items c.loop-worker.invariant.ready).1 in
    let same : c.in-Some.worker.pass ≡ c.worker.inside.pass = cc (ap (λ (v : W). v.pass) c.worker.view_is) in
    subst IsIdle same ready.idle

pub put_owner-requires : goal.put_owner-requires
put_owner-requires g c =
    let W = WorkerState g.row.L.Denot g.row.B.Denot in
    let all : length c.loop-worker.workers.items ≡ length c.pop.new.self.items + 1 = ap length (c.pop.ensures.items ∙ ap (λ r. c.pop.new.self.items ++ option_to_list r) c.in-Some.is) ∙ length_push c.pop.new.self.items c.in-Some.worker in
    omega (arith, c.loop-worker.invariant.room, all)

pub loop-worker-init : goal.loop-worker-init
loop-worker-init g c = record {
  zero = c.requires.zero;
  still = still_same c.args.zero.now c.args.zero.now refl;
  ready = c.requires.ready;
  room = c.requires.room;
  ended = refl;
  made = refl;
  owners = IsPermutation-refl (flat_map g.C.Calls.made c.args.owners.now.items ++ flat_map (λ (w : WorkerState g.row.L.Denot g.row.B.Denot). w.made) c.args.workers.items);
}

pub loop-worker-preserved : goal.loop-worker-preserved
loop-worker-preserved g c =
    let W = WorkerState g.row.L.Denot g.row.B.Denot in
    let P : W → Type 0 = IsReady c.args.mount.now in
    let past : W → Past = λ v. past_of v.pass.view in
    let made : W → List MadeCall = λ v. v.made in
    let w : W = c.in-Some.worker in
    let before : List W = c.loop-worker.workers.items in
    let front : List W = c.pop.new.self.items in
    let ended = c.loop-worker.zero.view.ended in
    let all : before ≡ front ++ w ∷ [] = c.pop.ensures.items ∙ ap (λ r. front ++ option_to_list r) c.in-Some.is in
    let same_pass : w.pass ≡ c.worker.inside.pass = cc (ap (λ (v : W). v.pass) c.worker.view_is) in
    let same_made : w.made ≡ if_owner g.C.Calls.made c.worker.inside.calls = cc (ap (λ (v : W). v.made) c.worker.view_is) in
    let long : length before ≡ length front + 1 = ap length all ∙ length_push front w in
    record {
      zero = c.take_in.ensures.zero;
      still = still_on c.args.zero.now c.loop-worker.zero c.take_in.new.zero c.loop-worker.invariant.still c.take_in.ensures.still;
      ready = (All-pop P before front c.pop.result c.pop.ensures.items c.loop-worker.invariant.ready).0;
      room = omega (arith, long, c.loop-worker.invariant.room, c.put_owner.ensures.few, c.put_owner.ensures.room);
      ended = ap (λ l. map past front ++ l) (c.take_in.ensures.ended ∙ ap (λ (p : PassState). past_of p.view ∷ ended) (sym same_pass)) ∙ sym (append_assoc (map past front) (past w ∷ []) ended)
          ∙ ap (λ l. l ++ ended) (sym (ap (map past) all ∙ map_push past front w)) ∙ c.loop-worker.invariant.ended;
      made = c.take_in.ensures.made ∙ c.loop-worker.invariant.made;
      owners = owner_back g.C.Calls.made made c.loop-worker.owners.items c.put_owner.new.owners.items c.worker.inside.calls front before w
          (flat_map g.C.Calls.made c.args.owners.now.items ++ flat_map made c.args.workers.items) all same_made c.put_owner.ensures.made c.loop-worker.invariant.owners;
    }
