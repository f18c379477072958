-- The batch at hand goes on, or is over.
use Rattle.std.proofs.Common.{ℕ, Bool, true, false, sym, ap, subst, ◌∙◌}
use Rattle.std.specs.Prelude.{Some}
use Rattle.nv_clean.specs.Answers.{BatchGoes}
use Rattle.nv_clean.specs.CleanSteps.{is_fault}
use Rattle.nv_schedule.specs.Callers.{BatchState, CleanerHasCome}
use Rattle.nv_schedule.specs.Hands.{IsOneOrNoStep}
use Rattle.nv_schedule.specs.Turns.{BatchCame}
use Rattle.nv_schedule.proofs.FaultLaws.{batch_tells}
use Rattle.nv_schedule.proofs.BatchLaws.{batch_more, batch_over}
use Rattle.nv_schedule.proofs.batches.Batches.turn.Goals as goal

pub advance-progress-requires-clause-open : goal.advance-progress-requires-clause-open
advance-progress-requires-clause-open g c = (c.take_up-machine.ensures.come c.requires.come.0 c.args.pass.now c.requires.come.1).at.0

pub advance-progress-requires-clause-under_way : goal.advance-progress-requires-clause-under_way
advance-progress-requires-clause-under_way g c =
    let come = c.take_up-machine.ensures.come c.requires.come.0 c.args.pass.now c.requires.come.1 in
    (c.args.self.now.most, come.last, come.at.1)

pub returns-in-More-clause-come : goal.returns-in-More-clause-come
returns-in-More-clause-come g c = λ start come.
    subst (λ (most : ℕ). CleanerHasCome (record { most = most; machine = Some c.advance-progress.new.self }) start c.advance-progress.new.pass) (sym (ap (λ (b : BatchState). b.most) (c.self.view_is ∙ c.take_up-machine.ensures.none)))
    (batch_more c.args.self.now.most c.take_up-machine.result c.advance-progress.new.self start c.args.pass.now c.advance-progress.new.pass (c.take_up-machine.ensures.come start c.args.pass.now come)
    (λ most begun way. subst (BatchGoes most begun c.advance-progress.new.self c.advance-progress.new.pass) c.in-More.is (c.advance-progress.ensures.goes most begun way)))

pub returns-in-Ended-clause-come : goal.returns-in-Ended-clause-come
returns-in-Ended-clause-come g c = λ start come.
    subst (λ (b : BatchState). CleanerHasCome b start c.advance-progress.new.pass) (sym c.take_up-machine.ensures.none)
    (batch_over c.args.self.now.most c.take_up-machine.result c.advance-progress.new.self start c.args.pass.now c.advance-progress.new.pass c.in-Ended.field-0 (c.take_up-machine.ensures.come start c.args.pass.now come)
    (λ most begun way. subst (BatchGoes most begun c.advance-progress.new.self c.advance-progress.new.pass) c.in-Ended.is (c.advance-progress.ensures.goes most begun way)))

pub returns-in-More-clause-moved : goal.returns-in-More-clause-moved
returns-in-More-clause-moved g c =
    let tells = batch_tells c.args.mount.now.board.opened.sizes c.take_up-machine.result c.advance-progress.new.self c.args.pass.now c.advance-progress.new.pass c.advance-progress.ensures.one in
    subst (λ (was : Bool). IsOneOrNoStep ⊥ was c.faulted-faulted.result c.args.pass.now c.advance-progress.new.pass) c.take_up-machine.ensures.faulted
    (subst (λ (faulted : Bool). IsOneOrNoStep ⊥ (is_fault c.take_up-machine.result.refusal) faulted c.args.pass.now c.advance-progress.new.pass) (sym c.faulted-faulted.ensures) tells)

pub returns-in-Ended-clause-moved : goal.returns-in-Ended-clause-moved
returns-in-Ended-clause-moved g c =
    let tells = batch_tells c.args.mount.now.board.opened.sizes c.take_up-machine.result c.advance-progress.new.self c.args.pass.now c.advance-progress.new.pass c.advance-progress.ensures.one in
    subst (λ (was : Bool). IsOneOrNoStep ⊥ was c.faulted-faulted.result c.args.pass.now c.advance-progress.new.pass) c.take_up-machine.ensures.faulted
    (subst (λ (faulted : Bool). IsOneOrNoStep ⊥ (is_fault c.take_up-machine.result.refusal) faulted c.args.pass.now c.advance-progress.new.pass) (sym c.faulted-faulted.ensures) tells)

pub returns-in-More-clause-batch : goal.returns-in-More-clause-batch
returns-in-More-clause-batch g c = λ begun at.
    let way = c.take_up-machine.ensures.at begun c.args.pass.now at in
    subst (λ (most : ℕ). BatchCame false most (Some c.advance-progress.new.self) begun c.advance-progress.new.pass) (sym (ap (λ (b : BatchState). b.most) (c.self.view_is ∙ c.take_up-machine.ensures.none)))
    (subst (BatchGoes c.args.self.now.most begun c.advance-progress.new.self c.advance-progress.new.pass) c.in-More.is (c.advance-progress.ensures.goes c.args.self.now.most begun way.1))

pub returns-in-Ended-clause-batch : goal.returns-in-Ended-clause-batch
returns-in-Ended-clause-batch g c = λ begun at.
    let way = c.take_up-machine.ensures.at begun c.args.pass.now at in
    subst (λ (b : BatchState). BatchCame true b.most b.machine begun c.advance-progress.new.pass) (sym c.take_up-machine.ensures.none)
    (c.in-Ended.field-0, subst (BatchGoes c.args.self.now.most begun c.advance-progress.new.self c.advance-progress.new.pass) c.in-Ended.is (c.advance-progress.ensures.goes c.args.self.now.most begun way.1))
