-- The pass stands before the pledge, and the machine goes on with the core.
use Rattle.std.proofs.Common.{◌<◌, sym, ap, subst, refl, ◌∙◌}
use Rattle.std.specs.Prelude.{false}
use Rattle.nv_core.specs.invariant.Shapes.{HaveShapes}
use Rattle.nv_core.specs.state.Words.{Sizes}
use Rattle.nv_table.specs.state.Keys.{sizes_of}
use Rattle.nv_table.specs.state.Opened.{Opened, mount_of}
use Rattle.nv_op.specs.Ops.{core_op_of}
use Rattle.nv_ring.specs.declared.append.AppendControl.TheVariants as appends
use Rattle.nv_ring.specs.declared.append.AppendMachine.{AppendMachine}
use Rattle.nv_ring.specs.Appends.{FitsAt, IsInCall, IsOpen, IsUnderWay, HasStepped, append_op_at, append_after, append_after_at, append_measure}
use Rattle.nv_ring.proofs.AppendLaws.{some_pages}
use Rattle.nv_ring.proofs.AppendMeasures.{append_less}
use Rattle.nv_ring.proofs.PledgeLaws.{before_next, pledge_on, pledge_stepped}
use Rattle.nv_ring.proofs.append.AppendMachine.pledge.Goals as goal

pub pledge_page-found-requires-clause-before : goal.pledge_page-found-requires-clause-before
pledge_page-found-requires-clause-before g c =
    let m = c.args.self.now in
    let pass = c.args.pass.now in
    let opened = pass.view.opened in
    let own = subst (FitsAt m) c.requires.at c.requires.way.1.0.stands in
    before_next m c.args.pledged c.requires.way.0 pass c.requires.way.1.0 own.0 (mount_of opened).values
    (c.cells_keep_their_shapes.ensures (mount_of opened) pass.view.run c.sees_a_run.ensures.mount
    (subst (λ (o : Opened). HaveShapes o.sizes.page (mount_of o).values (mount_of o).values) (sym c.requires.board.same_mount) c.keeps_stores_and_buffers.ensures.shapes) c.sees_a_run.ensures.run)
    (subst (λ control. IsInCall m control c.requires.way.0 pass) c.requires.at c.requires.way.1.1)

pub returns-clause-one : goal.returns-clause-one
returns-clause-one g c =
    let m = c.args.self.now in
    let pass = c.args.pass.now in
    let new = c.pledge_page-found.new.pass in
    let found = c.pledge_page-found.result in
    let same = c.layout-layout.ensures ∙ sym (ap (λ (o : Opened). o.sizes) c.requires.board.same_mount) in
    subst (λ next. HasStepped m next pass new) (sym (c.after.ensures ∙ ap (λ (s : Sizes). append_after s m false found) same))
    (pledge_stepped m c.args.pledged pass new found (ap (λ control. core_op_of pass.view (append_op_at m control false)) (sym c.requires.at)) c.pledge_page-found.ensures.pledged)

pub returns-clause-falls : goal.returns-clause-falls
returns-clause-falls g c =
    let m = c.args.self.now in
    let fits = c.requires.way.1.0 in
    subst (λ (next : AppendMachine). append_measure next < append_measure m) (sym c.after.ensures)
    (append_less (sizes_of c.layout-layout.result) m m.control false c.pledge_page-found.result (some_pages c.args.pass.now.view.opened.sizes m fits) fits.stands (subst IsOpen (sym c.requires.at) tt))

pub returns-clause-way : goal.returns-clause-way
returns-clause-way g c start way =
    let m = c.args.self.now in
    let pass = c.args.pass.now in
    let new = c.pledge_page-found.new.pass in
    let found = c.pledge_page-found.result in
    let same = c.layout-layout.ensures ∙ sym (ap (λ (o : Opened). o.sizes) c.requires.board.same_mount) in
    let own = subst (FitsAt m) c.requires.at way.0.stands in
    let on = subst (λ control. IsInCall m control start pass) c.requires.at way.1 in
    subst (λ next. IsUnderWay next start new) (sym (c.after.ensures ∙ ap (λ (s : Sizes). append_after s m false found) same ∙ ap (λ control. append_after_at pass.view.opened.sizes m control false found) c.requires.at))
    (pledge_on m c.args.pledged start pass new found way.0 own.0 own.1 on.before (appends.PledgePage c.args.pledged) on.called refl c.pledge_page-found.ensures.pledged)
