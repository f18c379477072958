-- Each step is the core's.
use Rattle.std.proofs.Common.{sym, subst}
use Rattle.std.specs.Prelude.{Option}
use Rattle.nv_table.specs.state.Opened.{Opened}
use Rattle.nv_table.specs.steps.StepContracts.{Postcondition}
use Rattle.nv_table.specs.steps.CallSteps.{Precondition}
use Rattle.nv_op.specs.declared.asked.Asked.{Asked}
use Rattle.nv_op.specs.declared.op.Op.{Op}
use Rattle.nv_op.specs.Ops.{Fits as OpFits, begun_as, core_op_of, opened_by}
use Rattle.nv_table.specs.state.Views.{pass_of}
use Rattle.nv_mirror.specs.declared.pageless.PagelessControl.{PagelessControl}
use Rattle.nv_mirror.specs.Pageless.{Fits, IsInCall, pageless_op, pageless_opens}
use Rattle.nv_mirror.proofs.PagelessLaws.{pageless_due, pageless_fits, pageless_on}
use Rattle.nv_mirror.proofs.StepLaws.{opened_same}
use Rattle.nv_mirror.proofs.pageless.PagelessMachine.advance.Goals as goal

pub perform_asked-found-requires-clause-fits : goal.perform_asked-found-requires-clause-fits
perform_asked-found-requires-clause-fits g c =
    let m = c.args.self.now in
    let pass = c.args.pass.now in
    let opens = begun_as g.A.Asks.call (opened_by c.opens.result) in
    subst (λ (op : Op). OpFits pass.view.opened.sizes opens (pass_of pass.view) op) (sym c.next.ensures) (pageless_fits pass.view.opened.sizes opens (pass_of pass.view) m.control)

pub perform_asked-found-requires-clause-due : goal.perform_asked-found-requires-clause-due
perform_asked-found-requires-clause-due g c =
    let m = c.args.self.now in
    let pass = c.args.pass.now in
    let way = c.requires.way.1 in
    subst (λ (opens : Option Asked). Precondition pass (begun_as g.A.Asks.call (opened_by opens)) (core_op_of pass.view c.next.result)) (sym c.opens.ensures)
    (subst (λ (op : Op). Precondition pass (begun_as g.A.Asks.call (opened_by (pageless_opens m))) (core_op_of pass.view op)) (sym c.next.ensures)
    (pageless_due g.A.Asks.call m.asked m.control c.requires.way.0 pass c.requires.makes way.0 c.requires.open way.1))

pub returns-clause-one : goal.returns-clause-one
returns-clause-one g c =
    let m = c.args.self.now in
    let pass = c.args.pass.now in
    let found = c.perform_asked-found.result in
    let new = c.perform_asked-found.new.pass in (
      found,
      subst (λ (opens : Option Asked). Postcondition pass (begun_as g.A.Asks.call (opened_by opens)) (core_op_of pass.view (pageless_op m.control)) found new) c.opens.ensures
          (subst (λ (op : Op). Postcondition pass (begun_as g.A.Asks.call (opened_by c.opens.result)) (core_op_of pass.view op) found new) c.next.ensures c.perform_asked-found.ensures.stepped),
      c.after-self.ensures,
    )

pub returns-clause-way : goal.returns-clause-way
returns-clause-way g c start way =
    let m = c.args.self.now in
    let pass = c.args.pass.now in
    let new = c.perform_asked-found.new.pass in
    let found = c.perform_asked-found.result in
    let step = subst (λ (opens : Option Asked). Postcondition pass (begun_as g.A.Asks.call (opened_by opens)) (core_op_of pass.view (pageless_op m.control)) found new) c.opens.ensures
    (subst (λ (op : Op). Postcondition pass (begun_as g.A.Asks.call (opened_by c.opens.result)) (core_op_of pass.view op) found new) c.next.ensures c.perform_asked-found.ensures.stepped) in (
      subst (λ (o : Opened). Fits o.sizes m.asked) (sym (opened_same pass new (begun_as g.A.Asks.call (opened_by (pageless_opens m))) (core_op_of pass.view (pageless_op m.control)) found step)) way.0,
      subst (λ (control : PagelessControl). IsInCall m.asked control start new) (sym c.after-self.ensures)
          (pageless_on m.asked start pass new found way.0 g.A.Asks.call m.control c.requires.makes
          (record { sound = c.runs_are_sound.ensures.runs; content = c.runs_keep_content.ensures.runs; legally = c.history_goes_on.ensures.legal; mount = c.sees_a_run.ensures.mount }) c.requires.open way.1 step),
    )
