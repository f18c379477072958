-- A batch begins where CLEANER is found free.
use Rattle.std.proofs.Common.{◌≡◌, ◌∙◌, sym, ap, subst, refl}
use Rattle.nv_clean.specs.declared.batch.CleanControl.TheVariants as cleans
use Rattle.nv_clean.specs.Cleaning.{CleanState, IsUnderWay}
use Rattle.nv_clean.proofs.StepLaws.{one_free, one_held, begin_free, begin_held}
use Rattle.nv_clean.proofs.batch.CleanMachine.begin.Goals as goal

pub returns-then-found-eq0-clause-one : goal.returns-then-found-eq0-clause-one
returns-then-found-eq0-clause-one g c =
    one_free c.args.pass.now _ (subst (λ (m : CleanState). m.control ≡ cleans.Begin) (sym c.self.view_is) c.requires.at) c.requires.way.0 (subst (λ (m : CleanState). IsUnderWay m c.requires.way.0 c.args.pass.now) (sym c.self.view_is) c.requires.way.1) c.perform-found.result c.perform-found.new.pass c.perform-found.ensures.stepped
    c.if-found-eq0.true c.args.board.now.opened.sizes _ refl c.args.self.now c.self.view_is

pub returns-then-found-eq0-clause-way : goal.returns-then-found-eq0-clause-way
returns-then-found-eq0-clause-way g c start way =
    begin_free c.args.pass.now _ (subst (λ (m : CleanState). m.control ≡ cleans.Begin) (sym c.self.view_is) c.requires.at) start (subst (λ (m : CleanState). IsUnderWay m start c.args.pass.now) (sym c.self.view_is) way) c.perform-found.result c.perform-found.new.pass c.perform-found.ensures.stepped c.if-found-eq0.true _ refl refl c.follow.ensures

pub returns-else-found-eq0-clause-one : goal.returns-else-found-eq0-clause-one
returns-else-found-eq0-clause-one g c =
    one_held c.args.pass.now _ (subst (λ (m : CleanState). m.control ≡ cleans.Begin) (sym c.self.view_is) c.requires.at) c.requires.way.0 (subst (λ (m : CleanState). IsUnderWay m c.requires.way.0 c.args.pass.now) (sym c.self.view_is) c.requires.way.1) c.perform-found.result c.perform-found.new.pass c.perform-found.ensures.stepped
    c.if-found-eq0.false c.args.board.now.opened.sizes _ (ap (λ (m : CleanState). m.refusal) (c.self-else-found-eq0.view_is ∙ c.refuse.ensures)) c.args.self.now c.self.view_is

pub returns-else-found-eq0-clause-way : goal.returns-else-found-eq0-clause-way
returns-else-found-eq0-clause-way g c start way =
    begin_held c.args.pass.now _ (subst (λ (m : CleanState). m.control ≡ cleans.Begin) (sym c.self.view_is) c.requires.at) start (subst (λ (m : CleanState). IsUnderWay m start c.args.pass.now) (sym c.self.view_is) way) c.perform-found.result c.perform-found.new.pass c.perform-found.ensures.stepped c.if-found-eq0.false _ refl
    (ap (λ (m : CleanState). m.batch) (c.self-else-found-eq0.view_is ∙ c.refuse.ensures))
    (ap (λ (m : CleanState). m.owned) (c.self-else-found-eq0.view_is ∙ c.refuse.ensures) ∙ c.follow.ensures)
