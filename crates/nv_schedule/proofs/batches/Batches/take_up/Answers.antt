-- One that is under way stays so, and a new one begins.
use Rattle.std.proofs.Common.{sym, ap, subst, ◌∙◌}
use Rattle.std.specs.Prelude.{Option, Some}
use Rattle.nv_clean.specs.Cleaning.{CleanState}
use Rattle.nv_schedule.specs.Callers.{BatchState, CleanerHasCome, IsAtBatch}
use Rattle.nv_schedule.proofs.BatchLaws.{batch_at, batch_taken_up, new_machine}
use Rattle.nv_schedule.proofs.batches.Batches.take_up.Goals as goal
use Rattle.nv_schedule.proofs.batches.Batches.take_up.Goals.{in-Some, in-None}

pub returns-clause-come : goal.returns-clause-come
returns-clause-come c = λ start now come.
    let was : Option CleanState → Type 0 = λ m. CleanerHasCome (record { most = c.args.self.now.most; machine = m }) start now in
    let come_so : was c.take.result = subst was (ap (λ (b : BatchState). b.machine) (sym c.self.view_is) ∙ sym c.take.ensures.value) come in
    elim c.match-take.branch [
      | in-Some w ↦ subst was (w.in-Some.is ∙ ap Some (sym w.result-is)) come_so
      | in-None w ↦ batch_taken_up c.args.self.now.most start now c.match-take.result (w.result-is ∙ w.new.ensures ∙ ap (λ (b : BatchState). new_machine b.most) c.self.view_is) (subst was w.in-None.is come_so)
    ]

pub returns-clause-at : goal.returns-clause-at
returns-clause-at c = λ begun now at.
    let was : Option CleanState → Type 0 = λ m. IsAtBatch c.args.self.now.most m begun now in
    let at_so : was c.take.result = subst was (ap (λ (b : BatchState). b.machine) (sym c.self.view_is) ∙ sym c.take.ensures.value) at in
    elim c.match-take.branch [
      | in-Some w ↦ subst was (w.in-Some.is ∙ ap Some (sym w.result-is)) at_so
      | in-None w ↦ batch_at c.args.self.now.most begun now c.match-take.result (w.result-is ∙ w.new.ensures ∙ ap (λ (b : BatchState). new_machine b.most) c.self.view_is) (subst was w.in-None.is at_so)
    ]
