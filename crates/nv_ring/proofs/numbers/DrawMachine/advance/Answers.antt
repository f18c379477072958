-- Each step is the core's.
use Rattle.std.proofs.Common.{◌<◌, sym, ap, subst, ◌∙◌}
use Rattle.std.specs.Prelude.{None}
use Rattle.nv_core.specs.state.Words.{Sizes}
use Rattle.nv_table.specs.state.Keys.{sizes_of}
use Rattle.nv_table.specs.state.Opened.{Opened}
use Rattle.nv_table.specs.state.Views.{pass_of}
use Rattle.nv_table.specs.steps.CallSteps.{Precondition}
use Rattle.nv_table.specs.steps.StepContracts.{Postcondition}
use Rattle.nv_op.specs.declared.op.Op.{Op}
use Rattle.nv_op.specs.Ops.{Fits as OpFits, core_op_of}
use Rattle.nv_ring.specs.declared.numbers.DrawMachine.{DrawMachine}
use Rattle.nv_ring.specs.Draws.{HasCome, HasComeAt, IsUnderWay, draw_after, draw_measure, draw_op}
use Rattle.nv_mirror.proofs.StepLaws.{opened_same}
use Rattle.nv_ring.proofs.AnswerLaws.{comes_on}
use Rattle.nv_ring.proofs.DrawLaws.{draw_due, draw_fits, draw_less, draw_on}
use Rattle.nv_ring.proofs.numbers.DrawMachine.advance.Goals as goal

pub perform-found-requires-clause-fits : goal.perform-found-requires-clause-fits
perform-found-requires-clause-fits g c =
    let m = c.args.self.now in
    let pass = c.args.pass.now in
    let way = c.requires.way.1 in
    subst (λ (op : Op). OpFits pass.view.opened.sizes None (pass_of pass.view) op) (sym c.next.ensures) (draw_fits m m.control c.requires.way.0 pass way.0 c.requires.open way.1)

pub perform-found-requires-clause-due : goal.perform-found-requires-clause-due
perform-found-requires-clause-due g c =
    let m = c.args.self.now in
    let pass = c.args.pass.now in
    let way = c.requires.way.1 in
    subst (λ (op : Op). Precondition pass None (core_op_of pass.view op)) (sym c.next.ensures) (draw_due m m.control c.requires.way.0 pass c.requires.open way.1)

pub returns-clause-one : goal.returns-clause-one
returns-clause-one g c =
    let m = c.args.self.now in
    let pass = c.args.pass.now in
    let found = c.perform-found.result in
    let same = c.layout-layout.ensures ∙ sym (ap (λ (o : Opened). o.sizes) c.requires.board.same_mount) in (
      found,
      subst (λ (op : Op). Postcondition pass None (core_op_of pass.view op) found c.perform-found.new.pass) c.next.ensures c.perform-found.ensures.stepped,
      c.after.ensures ∙ ap (λ (s : Sizes). draw_after s m found) same,
    )

pub returns-clause-falls : goal.returns-clause-falls
returns-clause-falls g c =
    let m = c.args.self.now in
    subst (λ (next : DrawMachine). draw_measure next < draw_measure m) (sym c.after.ensures) (draw_less (sizes_of c.layout-layout.result) m m.control c.perform-found.result c.requires.open)

pub returns-clause-way : goal.returns-clause-way
returns-clause-way g c start way =
    let m = c.args.self.now in
    let pass = c.args.pass.now in
    let new = c.perform-found.new.pass in
    let found = c.perform-found.result in
    let same = c.layout-layout.ensures ∙ sym (ap (λ (o : Opened). o.sizes) c.requires.board.same_mount) in
    subst (λ (next : DrawMachine). IsUnderWay next start new) (sym (c.after.ensures ∙ ap (λ (s : Sizes). draw_after s m found) same))
    (draw_on m start pass new found way.0 m.control way.0.stands c.requires.open way.1
    (subst (λ (op : Op). Postcondition pass None (core_op_of pass.view op) found new) c.next.ensures c.perform-found.ensures.stepped))

pub returns-clause-answer : goal.returns-clause-answer
returns-clause-answer g c began so =
    let m = c.args.self.now in
    let pass = c.args.pass.now in
    let new = c.perform-found.new.pass in
    let found = c.perform-found.result in
    let start = c.requires.way.0 in
    let way = c.requires.way.1 in
    let same = c.layout-layout.ensures ∙ sym (ap (λ (o : Opened). o.sizes) c.requires.board.same_mount) in
    let step = subst (λ (op : Op). Postcondition pass None (core_op_of pass.view op) found new) c.next.ensures c.perform-found.ensures.stepped in
    let later = draw_on m start pass new found way.0 m.control way.0.stands c.requires.open way.1 step in
    let comes = comes_on m began pass new found c.runs_are_sound.ensures.runs c.passes_are_left_alone.ensures.own c.sees_a_run.ensures.mount start m.control c.requires.open way.1 step later.1 so in
    subst (λ (next : DrawMachine). HasCome next began new) (sym (c.after.ensures ∙ ap (λ (s : Sizes). draw_after s m found) same))
    (subst (λ (o : Opened). HasComeAt o.sizes (draw_after pass.view.opened.sizes m found) (draw_after pass.view.opened.sizes m found).control began new)
    (sym (opened_same pass new None (core_op_of pass.view (draw_op m)) found step)) comes)
