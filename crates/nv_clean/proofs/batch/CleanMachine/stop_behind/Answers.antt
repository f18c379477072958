-- STOP is set behind these calls.
use Rattle.std.specs.Prelude.{Some}
use Rattle.std.proofs.Common.{Bool, if◌then◌else◌, ◌∙◌, sym, ap, eq-eqb, ne_eqb}
use Rattle.nv_core.specs.state.Cleaner.{Batch}
use Rattle.nv_core.specs.state.Cleaner as cleaner
use Rattle.nv_core.specs.state.Passes.{Cleaning}
use Rattle.nv_core.specs.steps.CleanerSteps.{withdrawing}
use Rattle.nv_clean.specs.Cleaning.{CleanState}
use Rattle.nv_clean.proofs.MeasureLaws.{stop_falls}
use Rattle.nv_clean.proofs.BehindLaws.{stop_due, stop_made, stop_then}
use Rattle.nv_clean.proofs.batch.CleanMachine.stop_behind.Goals as goal

pub perform_after-requires-clause-due : goal.perform_after-requires-clause-due
perform_after-requires-clause-due g c = stop_due c.args.held (Some c.args.refusal) c.args.self.now c.requires.way.0 c.requires.way.1 c.args.pass.now c.requires.way.2 g.W.Says.said c.requires.said

pub returns-then-held-eq0-clause-one : goal.returns-then-held-eq0-clause-one
returns-then-held-eq0-clause-one g c start was behind = stop_made c.args.held (Some c.args.refusal) c.args.self.now start was c.args.pass.now behind g.W.Says.said c.requires.said c.perform_after.result c.perform_after.new.pass c.perform_after.ensures.stepped.0 c.perform_after.ensures.stepped.1

pub returns-else-held-eq0-clause-one : goal.returns-else-held-eq0-clause-one
returns-else-held-eq0-clause-one g c start was behind = stop_made c.args.held (Some c.args.refusal) c.args.self.now start was c.args.pass.now behind g.W.Says.said c.requires.said c.perform_after.result c.perform_after.new.pass c.perform_after.ensures.stepped.0 c.perform_after.ensures.stepped.1

pub returns-then-held-eq0-clause-way : goal.returns-then-held-eq0-clause-way
returns-then-held-eq0-clause-way g c start was behind =
    let m = c.args.self.now in
    stop_then c.args.held (Some c.args.refusal) m start was c.args.pass.now behind g.W.Says.said c.requires.said c.perform_after.result c.perform_after.new.pass c.perform_after.ensures.stepped.0 c.perform_after.ensures.stepped.1
    c.withdraw.new.self c.withdraw.ensures.begun (c.withdraw.ensures.owned ∙ ap (λ (m : CleanState). m.owned) c.self.view_is) (ap (λ (batch : Batch). batch.files) c.withdraw.ensures.batch ∙ ap (λ (m : CleanState). m.batch.files) c.self.view_is)
    (λ s. c.withdraw.ensures.control s ∙ ap (λ (m : CleanState). withdrawing m.owned m.batch) c.self.view_is
    ∙ sym (ap (λ (b : Bool). if b then withdrawing m.owned m.batch else Cleaning m.batch (cleaner.FailedReturnEntry 0 c.args.held)) (eq-eqb c.args.held 0 c.if-held-eq0.true)))

pub returns-else-held-eq0-clause-way : goal.returns-else-held-eq0-clause-way
returns-else-held-eq0-clause-way g c start was behind =
    let m = c.args.self.now in
    stop_then c.args.held (Some c.args.refusal) m start was c.args.pass.now behind g.W.Says.said c.requires.said c.perform_after.result c.perform_after.new.pass c.perform_after.ensures.stepped.0 c.perform_after.ensures.stepped.1
    _ tt (ap (λ (m : CleanState). m.owned) c.self.view_is) (ap (λ (m : CleanState). m.batch.files) c.self.view_is)
    (λ s. ap (λ (m : CleanState). Cleaning m.batch (cleaner.FailedReturnEntry 0 c.args.held)) c.self.view_is
    ∙ sym (ap (λ (b : Bool). if b then withdrawing m.owned m.batch else Cleaning m.batch (cleaner.FailedReturnEntry 0 c.args.held)) (ne_eqb c.args.held 0 c.if-held-eq0.false)))

pub returns-then-held-eq0-clause-falls : goal.returns-then-held-eq0-clause-falls
returns-then-held-eq0-clause-falls g c =
    let m = c.args.self.now in
    stop_falls c.args.board.now.opened.sizes m c.withdraw.new.self c.args.held (c.withdraw.ensures.owned ∙ ap (λ (m : CleanState). m.owned) c.self.view_is) c.withdraw.ensures.begun
    (c.withdraw.ensures.control c.args.board.now.opened.sizes ∙ ap (λ (m : CleanState). withdrawing m.owned m.batch) c.self.view_is
    ∙ sym (ap (λ (b : Bool). if b then withdrawing m.owned m.batch else Cleaning m.batch (cleaner.FailedReturnEntry 0 c.args.held)) (eq-eqb c.args.held 0 c.if-held-eq0.true)))
