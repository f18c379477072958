-- Each step is the core's.
use Rattle.std.proofs.Common.{◌<◌, sym, ap, subst, ◌∙◌, refl}
use Rattle.std.specs.Prelude.{None, false}
use Rattle.nv_core.specs.state.Words.{Sizes}
use Rattle.nv_core.specs.steps.Ops.{Op as CoreOp}
use Rattle.nv_table.specs.state.Keys.{sizes_of}
use Rattle.nv_table.specs.state.Opened.{Opened}
use Rattle.nv_table.specs.state.Views.{pass_of}
use Rattle.nv_table.specs.steps.CallSteps.{Precondition}
use Rattle.nv_table.specs.steps.StepContracts.{Postcondition}
use Rattle.nv_op.specs.declared.op.Op.{Op}
use Rattle.nv_op.specs.Ops.{Fits, core_op_of}
use Rattle.nv_mirror.specs.declared.load.LoadMachine.{LoadMachine}
use Rattle.nv_mirror.specs.Loads.{IsUnderWay, load_after, load_op, load_measure}
use Rattle.nv_mirror.proofs.HadLaws.{plain_keeps, plain_values}
use Rattle.nv_mirror.proofs.LoadLaws.{load_fits, load_due, load_free, load_on, unfaulted}
use Rattle.nv_mirror.proofs.LoadMeasures.{load_plain_open, load_less}
use Rattle.nv_mirror.proofs.StepLaws.{between_self, no_fault, taken_by}
use Rattle.nv_mirror.proofs.load.LoadMachine.step.Goals as goal

pub perform-found-requires-clause-fits : goal.perform-found-requires-clause-fits
perform-found-requires-clause-fits g c =
    let m = c.args.self.now in
    let pass = c.args.pass.now in
    let same = c.layout-layout.ensures ∙ sym (ap (λ (o : Opened). o.sizes) c.requires.board.same_mount) in
    subst (λ (op : Op). Fits pass.view.opened.sizes None (pass_of pass.view) op) (sym (c.next.ensures ∙ ap (λ (s : Sizes). load_op s m false) same))
    (load_fits pass.view.opened.sizes (pass_of pass.view) m m.control)

pub perform-found-requires-clause-due : goal.perform-found-requires-clause-due
perform-found-requires-clause-due g c =
    let m = c.args.self.now in
    let pass = c.args.pass.now in
    let same = c.layout-layout.ensures ∙ sym (ap (λ (o : Opened). o.sizes) c.requires.board.same_mount) in
    subst (λ (op : Op). Precondition pass None (core_op_of pass.view op)) (sym (c.next.ensures ∙ ap (λ (s : Sizes). load_op s m false) same))
    (load_due m c.requires.way.0 c.requires.way.1 pass m.control c.requires.plain c.requires.way.2.1)

pub returns-clause-one : goal.returns-clause-one
returns-clause-one g c =
    let m = c.args.self.now in
    let pass = c.args.pass.now in
    let found = c.perform-found.result in
    let new = c.perform-found.new.pass in
    let same = c.layout-layout.ensures ∙ sym (ap (λ (o : Opened). o.sizes) c.requires.board.same_mount) in
    let op : CoreOp = core_op_of pass.view (load_op pass.view.opened.sizes m false) in
    let stepped : Postcondition pass None op found new =
    subst (λ (op : Op). Postcondition pass None (core_op_of pass.view op) found new) (c.next.ensures ∙ ap (λ (s : Sizes). load_op s m false) same) c.perform-found.ensures.stepped in
    record {
      failed = false;
      step = record { opens = None; works = stepped.works; op = op; found = found };
      taken = taken_by pass pass new None op found (between_self pass) stepped;
      opens = refl;
      op = refl;
      fault = no_fault pass new None op found (load_free m c.requires.way.0 c.requires.way.1 pass m.control c.requires.plain c.requires.way.2.1) stepped ∙ sym (unfaulted m.control);
      next = c.after.ensures ∙ ap (λ (s : Sizes). load_after s m false found) same;
    }

pub returns-clause-falls : goal.returns-clause-falls
returns-clause-falls g c =
    let m = c.args.self.now in
    subst (λ (next : LoadMachine). load_measure next < load_measure m) (sym c.after.ensures)
    (load_less (sizes_of c.layout-layout.result) m m.control false c.perform-found.result c.perform-found.type_inv c.requires.way.2.0.stands (load_plain_open m.control c.requires.plain))

pub returns-clause-others : goal.returns-clause-others
returns-clause-others g c =
    let m = c.args.self.now in
    let pass = c.args.pass.now in
    let found = c.perform-found.result in
    let new = c.perform-found.new.pass in
    let way = c.requires.way.2 in
    let same = c.layout-layout.ensures ∙ sym (ap (λ (o : Opened). o.sizes) c.requires.board.same_mount) in
    plain_keeps m m.control c.requires.way.0 c.requires.way.1 pass way.0 way.1 c.requires.plain (core_op_of pass.view (load_op pass.view.opened.sizes m false)) found new
    (subst (λ (op : Op). Postcondition pass None (core_op_of pass.view op) found new) (c.next.ensures ∙ ap (λ (s : Sizes). load_op s m false) same) c.perform-found.ensures.stepped)
    (plain_values m m.control c.requires.way.0 c.requires.way.1 pass way.0 way.1 c.requires.plain)

pub returns-clause-way : goal.returns-clause-way
returns-clause-way g c room start way =
    let m = c.args.self.now in
    let pass = c.args.pass.now in
    let new = c.perform-found.new.pass in
    let found = c.perform-found.result in
    let same = c.layout-layout.ensures ∙ sym (ap (λ (o : Opened). o.sizes) c.requires.board.same_mount) in
    subst (λ (next : LoadMachine). IsUnderWay next room start new) (sym (c.after.ensures ∙ ap (λ (s : Sizes). load_after s m false found) same))
    (load_on m room start pass new found way.0 m.control way.0.stands c.requires.plain way.1
    (subst (λ (op : Op). Postcondition pass None (core_op_of pass.view op) found new) (c.next.ensures ∙ ap (λ (s : Sizes). load_op s m false) same) c.perform-found.ensures.stepped))
