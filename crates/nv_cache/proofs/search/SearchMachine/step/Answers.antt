-- Each step is the core's.
use Rattle.std.proofs.Common.{sym, ap, subst, ◌∙◌}
use Rattle.std.specs.Prelude.{None}
use Rattle.nv_core.specs.state.Words.{Sizes}
use Rattle.nv_table.specs.state.Keys.{sizes_of}
use Rattle.nv_table.specs.state.Opened.{Opened}
use Rattle.nv_table.specs.state.Views.{pass_of}
use Rattle.nv_table.specs.steps.CallSteps.{Precondition}
use Rattle.nv_table.specs.steps.StepContracts.{Postcondition}
use Rattle.nv_op.specs.declared.op.Op.{Op}
use Rattle.nv_op.specs.Ops.{Fits, core_op_of}
use Rattle.nv_cache.specs.Searches.{search_after}
use Rattle.nv_cache.proofs.AdvanceLaws.{advanced}
use Rattle.nv_cache.proofs.SearchLaws.{search_due, search_fits}
use Rattle.nv_cache.proofs.search.SearchMachine.step.Goals as goal

pub perform-found-requires-clause-fits : goal.perform-found-requires-clause-fits
perform-found-requires-clause-fits g c =
    let before = c.rob-lacks.new.pass in
    subst (λ (op : Op). Fits before.view.opened.sizes None (pass_of before.view) op) (sym c.next.ensures) (search_fits before.view.opened.sizes (pass_of before.view) c.args.self c.args.self.control)

pub perform-found-requires-clause-due : goal.perform-found-requires-clause-due
perform-found-requires-clause-due g c =
    let m = c.args.self in
    let before = c.rob-lacks.new.pass in
    let way = c.requires.way.1 in
    subst (λ (op : Op). Precondition before None (core_op_of before.view op)) (sym c.next.ensures)
    (search_due m c.requires.way.0 c.args.pass.now way.fits m.control c.requires.open way.fits.stands way.knows way.called before c.rob-lacks.ensures.moved.altered)

pub returns-clause-advanced : goal.returns-clause-advanced
returns-clause-advanced g c =
    let m = c.args.self in
    let before = c.rob-lacks.new.pass in
    let new = c.perform-found.new.pass in
    let found = c.perform-found.result in
    let same = c.layout.ensures ∙ sym (ap (λ (o : Opened). o.sizes) c.requires.board.same_mount) in
    advanced m c.after.result c.requires.way.0 c.args.pass.now before new found c.rob-lacks.result c.requires.open c.requires.way.1 c.rob-lacks.ensures.moved
    (subst (λ (op : Op). Postcondition before None (core_op_of before.view op) found new) c.next.ensures c.perform-found.ensures.stepped)
    (◌∙◌ {b = search_after (sizes_of c.layout.result) m found c.rob-lacks.result} c.after.ensures (ap (λ (s : Sizes). search_after s m found c.rob-lacks.result) same)) c.runs_are_sound.ensures.runs c.sees_a_run.ensures.mount
