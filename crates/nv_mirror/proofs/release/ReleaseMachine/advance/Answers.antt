-- Each step is the core's.
use Rattle.std.proofs.Common.{sym, subst}
use Rattle.std.specs.Prelude.{None}
use Rattle.nv_table.specs.steps.StepContracts.{Postcondition}
use Rattle.nv_op.specs.declared.op.Op.{Op}
use Rattle.nv_op.specs.Ops.{core_op_of}
use Rattle.nv_mirror.specs.declared.release.ReleaseMachine.{ReleaseMachine}
use Rattle.nv_mirror.specs.Releases.{IsUnderWay}
use Rattle.nv_mirror.proofs.ReleaseLaws.{release_on}
use Rattle.nv_mirror.proofs.release.ReleaseMachine.advance.Goals as goal

pub returns-clause-way : goal.returns-clause-way
returns-clause-way g c start way =
    let m = c.args.self.now in
    let pass = c.args.pass.now in
    let new = c.perform.new.pass in
    let found = c.perform.result in
    subst (λ (next : ReleaseMachine). IsUnderWay next start new) (sym c.after.ensures)
    (release_on m start pass new found way.0 m.control way.0.stands c.requires.open way.1
    (subst (λ (op : Op). Postcondition pass None (core_op_of pass.view op) found new) c.next.ensures c.perform.ensures.stepped))
