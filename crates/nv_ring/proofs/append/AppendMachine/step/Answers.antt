-- Each step is the core's.
use Rattle.std.proofs.Common.{◌<◌, sym, ap, subst, ◌∙◌, refl}
use Rattle.std.specs.Prelude.{None, false}
use Rattle.nv_core.specs.state.Words.{Sizes}
use Rattle.nv_table.specs.state.Keys.{sizes_of}
use Rattle.nv_table.specs.state.Opened.{Opened}
use Rattle.nv_table.specs.state.Views.{pass_of}
use Rattle.nv_table.specs.steps.CallSteps.{Precondition}
use Rattle.nv_table.specs.steps.StepContracts.{Postcondition}
use Rattle.nv_op.specs.declared.op.Op.{Op}
use Rattle.nv_op.specs.Ops.{Fits, core_op_of}
use Rattle.nv_ring.specs.declared.append.AppendMachine.{AppendMachine}
use Rattle.nv_ring.specs.Appends.{IsUnderWay, append_after, append_op, append_measure}
use Rattle.nv_ring.proofs.AppendLaws.{some_pages, append_fits, append_free, append_due, append_on, sets_no_stop}
use Rattle.nv_ring.proofs.AppendMeasures.{plain_open, append_less}
use Rattle.nv_mirror.proofs.StepLaws.{between_self, no_fault, taken_by}
use Rattle.nv_ring.proofs.append.AppendMachine.step.Goals as goal

pub perform-found-requires-clause-fits : goal.perform-found-requires-clause-fits
perform-found-requires-clause-fits g c =
    let m = c.args.self.now in
    let pass = c.args.pass.now in
    let way = c.requires.way.1 in
    subst (λ (op : Op). Fits pass.view.opened.sizes None (pass_of pass.view) op) (sym c.next.ensures) (append_fits m m.control c.requires.way.0 pass way.0 c.requires.plain way.1)

pub perform-found-requires-clause-due : goal.perform-found-requires-clause-due
perform-found-requires-clause-due g c =
    let m = c.args.self.now in
    let pass = c.args.pass.now in
    let way = c.requires.way.1 in
    subst (λ (op : Op). Precondition pass None (core_op_of pass.view op)) (sym c.next.ensures) (append_due m m.control c.requires.way.0 pass c.requires.plain way.1)

pub returns-clause-one : goal.returns-clause-one
returns-clause-one g c =
    let m = c.args.self.now in
    let pass = c.args.pass.now in
    let found = c.perform-found.result in
    let same = c.layout-layout.ensures ∙ sym (ap (λ (o : Opened). o.sizes) c.requires.board.same_mount) in
    let stepped = subst (λ (op : Op). Postcondition pass None (core_op_of pass.view op) found c.perform-found.new.pass) c.next.ensures c.perform-found.ensures.stepped in record {
      failed = false;
      step = record { opens = None; works = stepped.works; op = core_op_of pass.view (append_op m false); found = found };
      taken = taken_by pass pass c.perform-found.new.pass None (core_op_of pass.view (append_op m false)) found (between_self pass) stepped;
      opens = refl;
      op = refl;
      fault = no_fault pass c.perform-found.new.pass None (core_op_of pass.view (append_op m false)) found (append_free m m.control c.requires.way.0 pass c.requires.plain c.requires.way.1.1) stepped ∙ sym (sets_no_stop pass.view m m.control);
      next = c.after.ensures ∙ ap (λ (s : Sizes). append_after s m false found) same;
    }

pub returns-clause-falls : goal.returns-clause-falls
returns-clause-falls g c =
    let m = c.args.self.now in
    let fits = c.requires.way.1.0 in
    subst (λ (next : AppendMachine). append_measure next < append_measure m) (sym c.after.ensures)
    (append_less (sizes_of c.layout-layout.result) m m.control false c.perform-found.result (some_pages c.args.pass.now.view.opened.sizes m fits) fits.stands (plain_open m.control c.requires.plain))

pub returns-clause-way : goal.returns-clause-way
returns-clause-way g c start way =
    let m = c.args.self.now in
    let pass = c.args.pass.now in
    let new = c.perform-found.new.pass in
    let found = c.perform-found.result in
    let same = c.layout-layout.ensures ∙ sym (ap (λ (o : Opened). o.sizes) c.requires.board.same_mount) in
    subst (λ (next : AppendMachine). IsUnderWay next start new) (sym (c.after.ensures ∙ ap (λ (s : Sizes). append_after s m false found) same))
    (append_on m start pass new found way.0 m.control
    (record { sound = c.runs_are_sound.ensures.runs; content = c.runs_keep_content.ensures.runs; legally = c.history_goes_on.ensures.legal; mount = c.sees_a_run.ensures.mount }) way.0.stands c.requires.plain way.1
    (subst (λ (op : Op). Postcondition pass None (core_op_of pass.view op) found new) c.next.ensures c.perform-found.ensures.stepped))
