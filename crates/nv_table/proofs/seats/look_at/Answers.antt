use Rattle.std.proofs.Common.{subst}
use Rattle.nv_table.specs.passes.Moments.{SeesTold, SharesMoment}
use Rattle.nv_table.specs.passes.PassesMade.{ExportedViewState}
use Rattle.nv_table.specs.state.States.{PassState}
use Rattle.nv_table.proofs.passes.MomentLaws.{shares}
use Rattle.nv_table.proofs.seats.look_at.Goals as goal

pub invariant_of-pass : goal.invariant_of-pass
invariant_of-pass g c = rw c.forget.ensures.forgetful (rw c.look.ensures.same (rw c.import_view.ensures.imported c.pass.invariant))

pub returns-clause-shares : goal.returns-clause-shares
returns-clause-shares g c =
    subst (λ (pass : PassState). SharesMoment pass.view c.args.exported.run) c.pass.view_is
    (subst (λ (exported : ExportedViewState). SharesMoment c.pass.inside.seat.me.0 exported.run) c.exported.view_is
    (shares c.pass.inside.seat.me.0 c.exported.inside.seat.me.0 (subst (λ me. SeesTold me.0) c.import_view.ensures.imported c.look.ensures.told)))
