-- The last one that is left is taken in, and its calls are put down.
use Rattle.std.proofs.Common.{◌≡◌, ℕ, List, [], ◌∷◌, ◌++◌, sym, ap, subst, ◌∙◌, append_assoc}
use Rattle.std.specs.Prelude.{IfSome, OnOk, Option, map}
use Rattle.std.proofs.lemmas.List.{append-nil}
use Rattle.nv_runner.specs.Lists.{made_calls}
use Rattle.std.specs.Option.{option_to_list}
use Rattle.std.proofs.lemmas.List.Elements.{All-pop}
use Rattle.nv_table.specs.invariant.Drawn.{drawn_by}
use Rattle.nv_table.specs.passes.PassesMade.{IsShownStill, IsTakenIn}
use Rattle.nv_table.specs.state.States.{IsOf, PassState}
use Rattle.nv_schedule.specs.Following.{Stands}
use Rattle.nv_schedule.specs.Listed.{listed_by, unanswered_by}
use Rattle.nv_schedule.specs.Turns.{CallerState}
use Rattle.nv_schedule.specs.declared.caller.Work.{Work}
use Rattle.nv_schedule.proofs.EndLaws.{calls_more, no_calls, none_taken, stands_still, taken_more}
use Rattle.nv_schedule.proofs.ending.take_in_all.Goals as goal

pub loop-caller-init : goal.loop-caller-init
loop-caller-init g c = record {
  zero = c.requires.zero;
  stand = c.requires.stand;
  gone = [];
  all = sym (append-nil c.args.callers.items);
  taken = none_taken c.args.zero.now c.requires.none;
  calls = no_calls c.args.calls.now c.requires.no_answered c.requires.no_unanswered;
}

pub take_in-requires-clause-board : goal.take_in-requires-clause-board
take_in-requires-clause-board g c =
    let P : CallerState → Type 0 = Stands c.args.mount.now in
    let stands = subst (λ r. IfSome r P) c.in-Some.is (All-pop P c.loop-caller.callers.items c.pop.new.self.items c.pop.result c.pop.ensures.items c.loop-caller.invariant.stand).1 in
    let same : c.in-Some.caller.pass ≡ c.caller.inside.pass = cc (ap (λ (v : CallerState). v.pass) c.caller.view_is) in
    subst (IsOf c.args.mount.now.board) same stands.0

pub take_in-requires-clause-other : goal.take_in-requires-clause-other
take_in-requires-clause-other g c =
    let P : CallerState → Type 0 = Stands c.args.mount.now in
    let stands = subst (λ r. IfSome r P) c.in-Some.is (All-pop P c.loop-caller.callers.items c.pop.new.self.items c.pop.result c.pop.ensures.items c.loop-caller.invariant.stand).1 in
    let same : c.in-Some.caller.pass ≡ c.caller.inside.pass = cc (ap (λ (v : CallerState). v.pass) c.caller.view_is) in
    subst (λ (p : PassState). p.view.number ≡ 0 → ⊥) same stands.1

pub take_in-requires-clause-still : goal.take_in-requires-clause-still
take_in-requires-clause-still g c =
    let P : CallerState → Type 0 = Stands c.args.mount.now in
    let stands = subst (λ r. IfSome r P) c.in-Some.is (All-pop P c.loop-caller.callers.items c.pop.new.self.items c.pop.result c.pop.ensures.items c.loop-caller.invariant.stand).1 in
    let same : c.in-Some.caller.pass ≡ c.caller.inside.pass = cc (ap (λ (v : CallerState). v.pass) c.caller.view_is) in
    subst IsShownStill same (stands_still c.args.mount.now.fds c.in-Some.caller.work stands.2 c.in-Some.caller.pass stands.3)

pub loop-caller-preserved : goal.loop-caller-preserved
loop-caller-preserved g c =
    let P : CallerState → Type 0 = Stands c.args.mount.now in
    let so_far = c.loop-caller.invariant in
    let w : CallerState = c.in-Some.caller in
    let before : List CallerState = c.loop-caller.callers.items in
    let front : List CallerState = c.pop.new.self.items in
    let all : before ≡ front ++ w ∷ [] = c.pop.ensures.items ∙ ap (λ r. front ++ option_to_list r) c.in-Some.is in
    let same_pass : c.caller.inside.pass ≡ w.pass = cc (ap (λ (v : CallerState). v.pass) c.caller.view_is) in
    let same_work : c.caller.inside.work ≡ w.work = cc (ap (λ (v : CallerState). v.work) c.caller.view_is) in
    let drawn : c.drawn.result ≡ drawn_by w.pass.view = c.drawn.ensures ∙ ap (λ (p : PassState). drawn_by p.view) same_pass in
    record {
      zero = c.take_in.ensures.zero;
      stand = (All-pop P before front c.pop.result c.pop.ensures.items so_far.stand).0;
      gone = w ∷ so_far.gone;
      all = so_far.all ∙ ap (λ (l : List CallerState). l ++ so_far.gone) all ∙ append_assoc front (w ∷ []) so_far.gone;
      taken = taken_more c.args.zero.now c.loop-caller.zero c.take_in.new.zero so_far.gone w c.requires.zero.number so_far.zero.number so_far.taken
          (subst (λ (p : PassState). IsTakenIn c.loop-caller.zero p c.take_in.new.zero) same_pass c.take_in.ensures.taken);
      calls = calls_more c.loop-caller.noted c.note.result c.both-noted.result so_far.gone w c.loop-caller.calls c.note.new.calls c.both-noted.ensures so_far.calls
          (subst (λ (drawn : Option ℕ). OnOk c.note.result (made_calls c.note.new.calls.answered.items ≡ made_calls c.loop-caller.calls.answered.items ++ listed_by w.work drawn)) drawn
          (subst (λ (k : Work). OnOk c.note.result (made_calls c.note.new.calls.answered.items ≡ made_calls c.loop-caller.calls.answered.items ++ listed_by k c.drawn.result)) same_work c.note.ensures.answered))
          (subst (λ (drawn : Option ℕ). OnOk c.note.result (map (λ call. call.now) c.note.new.calls.unanswered.items ≡ map (λ call. call.now) c.loop-caller.calls.unanswered.items ++ unanswered_by w.work drawn)) drawn
          (subst (λ (k : Work). OnOk c.note.result (map (λ call. call.now) c.note.new.calls.unanswered.items ≡ map (λ call. call.now) c.loop-caller.calls.unanswered.items ++ unanswered_by k c.drawn.result)) same_work c.note.ensures.unanswered));
    }
