-- The try at hand goes on, or the call begins anew, or is answered.
use Rattle.std.proofs.Common.{◌∷◌, true, false, refl, sym, ap, subst, ◌∙◌}
use Rattle.std.specs.Prelude.{Option, is_some}
use Rattle.std.proofs.lemmas.Bool.{true≢false}
use Rattle.nv_table.specs.state.Opened.{Opened, mount_of}
use Rattle.nv_core.specs.steps.Opening.{IsMount}
use Rattle.nv_schedule.specs.declared.hand.Hand.{Hand}
use Rattle.nv_schedule.specs.Barred.{IsAnsweredEarly, IsRefusedEarly}
use Rattle.nv_schedule.specs.Callers.{IsAtCall}
use Rattle.nv_schedule.specs.Faulted.{fault_at_hand, hand_faulted}
use Rattle.nv_schedule.specs.Hands.{TryGoes, list_at_hand}
use Rattle.nv_schedule.specs.Tries.{answer_of}
use Rattle.nv_schedule.proofs.BarredLaws.{is_barred, not_anew, not_more}
use Rattle.nv_schedule.proofs.FaultLaws.{told_so}
use Rattle.nv_schedule.proofs.turns.WayLaws.{of_trying, over_idle, tried_more}
use Rattle.nv_schedule.proofs.thread.advance_call.Goals as goal

pub advance-progress-requires-clause-trying : goal.advance-progress-requires-clause-trying
advance-progress-requires-clause-trying g c =
    let t = c.in_ok-tried.ensures.taken c.args.mount.now.fds c.requires.at.0 c.requires.at.1 c.args.pass.now c.requires.at.2 in
    (t.0, t.2)

pub returns-in-More-clause-goes : goal.returns-in-More-clause-goes
returns-in-More-clause-goes g c = λ later last at.
    let t = c.in_ok-tried.ensures.taken c.args.mount.now.fds later last c.args.pass.now at in
    (t.0, t.1, subst (TryGoes c.args.mount.now.fds c.args.call.now.call c.advance-progress.new.self t.0 c.advance-progress.new.pass) c.in-More.is (c.advance-progress.ensures.goes t.0 t.2))

pub returns-then-anew-clause-goes : goal.returns-then-anew-clause-goes
returns-then-anew-clause-goes g c = λ later last at.
    let fds = c.args.mount.now.fds in
    let call = c.args.call.now.call in
    let t = c.in_ok-tried.ensures.taken fds later last c.args.pass.now at in
    let way = of_trying fds call c.in_ok-tried.tried t.0 c.args.pass.now t.2 in
    let over = subst (TryGoes fds call c.advance-progress.new.self t.0 c.advance-progress.new.pass) c.in-Ended.is (c.advance-progress.ensures.goes t.0 t.2) in
    subst (λ (hand : Option Hand). IsAtCall fds (c.args.call.now ∷ later) hand last c.advance-progress.new.pass) (sym c.in_ok-tried.ensures.none) (
      tried_more c.refused_writes_leave_words.ensures.made fds call (list_at_hand c.advance-progress.new.self) last t.0 c.advance-progress.new.pass c.in-Ended.ended
          (subst (λ (o : Opened). IsMount (mount_of o)) way.mount c.sees_a_run.ensures.mount) way.idle t.1 over (sym c.anew.ensures ∙ c.if-anew.true),
      over_idle fds call (list_at_hand c.advance-progress.new.self) t.0 c.advance-progress.new.pass c.in-Ended.ended way.idle over,
    )

pub returns-else-anew-clause-goes : goal.returns-else-anew-clause-goes
returns-else-anew-clause-goes g c = λ later last at.
    let fds = c.args.mount.now.fds in
    let call = c.args.call.now.call in
    let t = c.in_ok-tried.ensures.taken fds later last c.args.pass.now at in
    let way = of_trying fds call c.in_ok-tried.tried t.0 c.args.pass.now t.2 in
    let over = subst (TryGoes fds call c.advance-progress.new.self t.0 c.advance-progress.new.pass) c.in-Ended.is (c.advance-progress.ensures.goes t.0 t.2) in (
      c.in_ok-tried.ensures.none,
      record {
        begun = t.0;
        tried = t.1;
        list = list_at_hand c.advance-progress.new.self;
        result = c.in-Ended.ended;
        over = over;
        for_good = sym c.anew.ensures ∙ c.if-anew.false;
        answer_is =
            c.answer-answer.ensures
            ∙ ap (answer_of call (list_at_hand c.advance-progress.new.self) c.in-Ended.ended) c.drawn.ensures;
      },
      over_idle fds call (list_at_hand c.advance-progress.new.self) t.0 c.advance-progress.new.pass c.in-Ended.ended way.idle over,
    )

pub returns-in-More-clause-moved : goal.returns-in-More-clause-moved
returns-in-More-clause-moved g c =
    let fds = c.args.mount.now.fds in
    let sizes = c.args.pass.now.view.opened.sizes in
    let call = c.args.call.now.call in
    let progress = c.advance-progress.result in
    told_so (IsRefusedEarly sizes fds call progress) (IsAnsweredEarly sizes fds call false) (is_some (fault_at_hand c.in_ok-tried.tried)) (hand_faulted c.args.hand.now) (is_some (fault_at_hand c.advance-progress.new.self)) c.faulted-faulted.result
    c.args.pass.now c.advance-progress.new.pass c.in_ok-tried.ensures.faulted (sym c.faulted-faulted.ensures) (λ early. absurd (not_more sizes fds call progress c.in-More.is early)) c.advance-progress.ensures.moved

pub returns-then-anew-clause-moved : goal.returns-then-anew-clause-moved
returns-then-anew-clause-moved g c =
    let fds = c.args.mount.now.fds in
    let sizes = c.args.pass.now.view.opened.sizes in
    let call = c.args.call.now.call in
    let progress = c.advance-progress.result in
    told_so (IsRefusedEarly sizes fds call progress) (IsAnsweredEarly sizes fds call false) (is_some (fault_at_hand c.in_ok-tried.tried)) (hand_faulted c.args.hand.now) (is_some (fault_at_hand c.advance-progress.new.self)) c.faulted-faulted.result
    c.args.pass.now c.advance-progress.new.pass c.in_ok-tried.ensures.faulted (sym c.faulted-faulted.ensures) (λ early. absurd (true≢false (sym (sym c.anew.ensures ∙ c.if-anew.true) ∙ not_anew sizes fds call progress c.in-Ended.ended c.in-Ended.is early))) c.advance-progress.ensures.moved

pub returns-else-anew-clause-moved : goal.returns-else-anew-clause-moved
returns-else-anew-clause-moved g c =
    let fds = c.args.mount.now.fds in
    let sizes = c.args.pass.now.view.opened.sizes in
    let call = c.args.call.now.call in
    let progress = c.advance-progress.result in
    told_so (IsRefusedEarly sizes fds call progress) (IsAnsweredEarly sizes fds call true) (is_some (fault_at_hand c.in_ok-tried.tried)) (hand_faulted c.args.hand.now) (is_some (fault_at_hand c.advance-progress.new.self)) c.faulted-faulted.result
    c.args.pass.now c.advance-progress.new.pass c.in_ok-tried.ensures.faulted (sym c.faulted-faulted.ensures) (λ early. record { over = refl; barred = is_barred sizes fds call progress early }) c.advance-progress.ensures.moved

pub answer-answer-requires : goal.answer-answer-requires
answer-answer-requires g c = c.advance-progress.ensures.replies
