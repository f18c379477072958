-- The step is the core's, behind these calls.
use Rattle.std.proofs.Common.{◌≡◌, ◌<◌, ◌∙◌, sym, ap, subst}
use Rattle.std.specs.Prelude.{Some}
use Rattle.nv_core.specs.state.Words.{Sizes}
use Rattle.nv_core.specs.steps.CleanerSteps.{next_cleaner_op}
use Rattle.nv_op.specs.CleanerOps.{core_cleaner_op}
use Rattle.nv_table.specs.state.Keys.{sizes_of}
use Rattle.nv_table.specs.state.Opened.{Opened}
use Rattle.nv_clean.specs.Cleaning.{CleanState, ComesBehind, Fits, IsAfterCalls, SaysStands, control_of, inner_at, refusal_behind}
use Rattle.nv_clean.specs.CleanSteps.{clean_kind, refusal_at}
use Rattle.nv_clean.proofs.CleanStepLaws.{behind_silent, next_kind_is}
use Rattle.nv_core.specs.steps.CleanerSteps.{after_cleaner_op}
use Rattle.nv_core.specs.steps.Ops.{cleaner_move, moved}
use Rattle.nv_clean.specs.Measures.{clean_measure}
use Rattle.nv_clean.proofs.FactLaws.{behind_counted}
use Rattle.nv_clean.proofs.MeasureLaws.{step_falls}
use Rattle.nv_clean.proofs.BehindLaws.{after_due, after_made, after_then, comes_plain}
use Rattle.nv_clean.proofs.batch.CleanMachine.step_behind.Goals as goal

pub perform_after-found-requires-clause-due : goal.perform_after-found-requires-clause-due
perform_after-found-requires-clause-due g c =
    let m = c.args.self.now in
    let same = c.layout-layout.ensures ∙ sym (ap (λ (o : Opened). o.sizes) c.requires.board.same_mount) in
    after_due m c.requires.way.0 c.requires.way.1 c.args.pass.now c.requires.way.2 c.requires.behind (core_cleaner_op c.next-op.result) g.W.Says.said c.requires.said
    (subst (λ (s : Sizes). next_cleaner_op s m.owned m.batch (inner_at s m.batch m.control) ≡ Some (core_cleaner_op c.next-op.result)) same c.next-op.ensures.next)

pub returns-clause-one : goal.returns-clause-one
returns-clause-one g c start was behind =
    let m = c.args.self.now in
    after_made m start was c.args.pass.now behind c.requires.behind (core_cleaner_op c.next-op.result) c.perform_after-found.result c.perform_after-found.new.pass c.perform_after-found.ensures.stepped.0
    g.W.Says.said c.requires.said c.perform_after-found.ensures.stepped.1 (clean_kind m) (next_kind_is (sizes_of c.layout-layout.result) m.owned m.batch m.control (comes_plain m.control c.requires.behind) (core_cleaner_op c.next-op.result) c.next-op.ensures.next)

pub returns-clause-refusal : goal.returns-clause-refusal
returns-clause-refusal g c =
    let m = c.args.self.now in
    c.follow-2.ensures.refusal ∙ ap (λ (m : CleanState). refusal_at (sizes_of c.layout-layout.result) m.batch m.refusal m.control c.perform_after-found.result) c.self.view_is
    ∙ behind_silent (sizes_of c.layout-layout.result) m.batch m.refusal m.control c.perform_after-found.result c.requires.behind

pub returns-clause-falls : goal.returns-clause-falls
returns-clause-falls g c =
    let m = c.args.self.now in
    let sizes = sizes_of c.layout-layout.result in
    let op = core_cleaner_op c.next-op.result in
    let found = c.perform_after-found.result in
    let same = c.layout-layout.ensures ∙ sym (ap (λ (o : Opened). o.sizes) c.requires.board.same_mount) in
    subst (λ (s : Sizes). clean_measure s c.follow-2.new.self < clean_measure s m) c.layout-layout.ensures
    (step_falls sizes m c.follow-2.new.self op found c.follow.new.self (comes_plain m.control c.requires.behind)
    (subst (λ (s : Sizes). Fits s m) (sym same) c.requires.fits) (behind_counted m.batch m.control found c.requires.behind)
    c.next-op.ensures.next (c.follow.ensures ∙ ap (λ (m : CleanState). moved (cleaner_move sizes op found) m.owned) c.self.view_is) c.follow-2.ensures.owned c.follow-2.ensures.begun
    (c.follow-2.ensures.control ∙ ap (λ (m : CleanState). after_cleaner_op sizes c.follow.new.self m.batch (inner_at sizes m.batch m.control) found) c.self.view_is))

pub returns-clause-way : goal.returns-clause-way
returns-clause-way g c start was behind =
    let pass = c.args.pass.now in
    let same = c.layout-layout.ensures ∙ sym (ap (λ (o : Opened). o.sizes) c.requires.board.same_mount) in
    after_then _ start was pass (subst (λ (m : CleanState). IsAfterCalls m start was pass) (sym c.self.view_is) behind) (subst (λ (m : CleanState). ComesBehind m.control) (sym c.self.view_is) c.requires.behind)
    (core_cleaner_op c.next-op.result) c.perform_after-found.result c.perform_after-found.new.pass c.perform_after-found.ensures.stepped.0
    g.W.Says.said (subst (λ (m : CleanState). SaysStands g.W.Says.said (control_of pass.view.opened.sizes m) (refusal_behind m.control) pass) (sym c.self.view_is) c.requires.said) c.perform_after-found.ensures.stepped.1
    (subst (λ (m : CleanState). next_cleaner_op pass.view.opened.sizes m.owned m.batch (inner_at pass.view.opened.sizes m.batch m.control) ≡ Some (core_cleaner_op c.next-op.result)) (sym c.self.view_is)
    (subst (λ (s : Sizes). next_cleaner_op s c.args.self.now.owned c.args.self.now.batch (inner_at s c.args.self.now.batch c.args.self.now.control) ≡ Some (core_cleaner_op c.next-op.result)) same c.next-op.ensures.next))
    (sizes_of c.layout-layout.result) same c.follow-2.new.self c.follow.new.self c.follow-2.ensures.begun c.follow.ensures c.follow-2.ensures.owned c.follow-2.ensures.control c.follow-2.ensures.files
