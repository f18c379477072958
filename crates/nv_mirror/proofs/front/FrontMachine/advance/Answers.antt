-- Each step is the core's.
use Rattle.std.proofs.Common.{◌<◌, sym, ap, subst, ◌∙◌}
use Rattle.std.specs.Prelude.{Option}
use Rattle.nv_core.specs.state.Words.{Sizes}
use Rattle.nv_table.specs.state.Keys.{sizes_of}
use Rattle.nv_table.specs.state.Opened.{Opened}
use Rattle.nv_table.specs.steps.StepContracts.{Postcondition}
use Rattle.nv_table.specs.steps.CallSteps.{Precondition}
use Rattle.nv_op.specs.declared.asked.Asked.{Asked}
use Rattle.nv_op.specs.declared.op.Op.{Op}
use Rattle.nv_table.specs.state.Views.{pass_of}
use Rattle.nv_op.specs.Ops.{Fits as OpFits, begun_as, core_op_of, opened_by}
use Rattle.nv_mirror.specs.declared.front.FrontMachine.{FrontMachine}
use Rattle.nv_mirror.specs.Fronts.{IsUnderWay, front_op, front_opens, front_after, front_measure}
use Rattle.nv_mirror.proofs.FrontLaws.{front_fits, front_due, front_on}
use Rattle.nv_mirror.proofs.MeasureLaws.{front_less}
use Rattle.nv_mirror.proofs.front.FrontMachine.advance.Goals as goal

pub perform_asked-found-requires-clause-fits : goal.perform_asked-found-requires-clause-fits
perform_asked-found-requires-clause-fits g c =
    let m = c.args.self.now in
    let pass = c.args.pass.now in
    let opens = begun_as g.A.Asks.call (opened_by c.opens.result) in
    subst (λ (op : Op). OpFits pass.view.opened.sizes opens (pass_of pass.view) op) (sym c.next.ensures) (front_fits pass.view.opened.sizes opens (pass_of pass.view) m m.control)

pub perform_asked-found-requires-clause-due : goal.perform_asked-found-requires-clause-due
perform_asked-found-requires-clause-due g c =
    let m = c.args.self.now in
    let pass = c.args.pass.now in
    let way = c.requires.way.1 in
    subst (λ (opens : Option Asked). Precondition pass (begun_as g.A.Asks.call (opened_by opens)) (core_op_of pass.view c.next.result)) (sym c.opens.ensures)
    (subst (λ (op : Op). Precondition pass (begun_as g.A.Asks.call (opened_by (front_opens m))) (core_op_of pass.view op)) (sym c.next.ensures)
    (front_due g.A.Asks.call m m.control c.requires.way.0 pass c.requires.makes way.0 way.0.stands c.requires.open way.1))

pub returns-clause-one : goal.returns-clause-one
returns-clause-one g c =
    let m = c.args.self.now in
    let pass = c.args.pass.now in
    let new = c.perform_asked-found.new.pass in
    let found = c.perform_asked-found.result in
    let same = c.layout-layout.ensures ∙ sym (ap (λ (o : Opened). o.sizes) c.requires.board.same_mount) in (
      found,
      subst (λ (opens : Option Asked). Postcondition pass (begun_as g.A.Asks.call (opened_by opens)) (core_op_of pass.view (front_op m)) found new) c.opens.ensures
          (subst (λ (op : Op). Postcondition pass (begun_as g.A.Asks.call (opened_by c.opens.result)) (core_op_of pass.view op) found new) c.next.ensures c.perform_asked-found.ensures.stepped),
      c.after.ensures ∙ ap (λ (s : Sizes). front_after s m found) same,
    )

pub returns-clause-falls : goal.returns-clause-falls
returns-clause-falls g c =
    let m = c.args.self.now in
    let fits = c.requires.way.1.0 in
    subst (λ (next : FrontMachine). front_measure next < front_measure m) (sym c.after.ensures) (front_less (sizes_of c.layout-layout.result) m m.control c.perform_asked-found.result fits.within fits.stands c.requires.open)

pub returns-clause-way : goal.returns-clause-way
returns-clause-way g c start way =
    let m = c.args.self.now in
    let pass = c.args.pass.now in
    let new = c.perform_asked-found.new.pass in
    let found = c.perform_asked-found.result in
    let same = c.layout-layout.ensures ∙ sym (ap (λ (o : Opened). o.sizes) c.requires.board.same_mount) in
    subst (λ (next : FrontMachine). IsUnderWay next start new) (sym (c.after.ensures ∙ ap (λ (s : Sizes). front_after s m found) same))
    (front_on m start pass new found way.0 g.A.Asks.call m.control c.requires.makes way.0.stands c.requires.open way.1
    (subst (λ (opens : Option Asked). Postcondition pass (begun_as g.A.Asks.call (opened_by opens)) (core_op_of pass.view (front_op m)) found new) c.opens.ensures
    (subst (λ (op : Op). Postcondition pass (begun_as g.A.Asks.call (opened_by c.opens.result)) (core_op_of pass.view op) found new) c.next.ensures c.perform_asked-found.ensures.stepped)))
