-- Behind the device calls the pass stands before its first pledge, or before STOP, and the machine goes on with the core.
use Rattle.std.proofs.Common.{◌≡◌, ◌<◌, ◌+◌, sym, ap, subst, refl, ◌∙◌, arith}
use Rattle.std.specs.Prelude.{false, true}
use Rattle.nv_core.specs.steps.Ops.{Pledge}
use Rattle.nv_core.specs.invariant.Shapes.{HaveShapes}
use Rattle.nv_core.specs.state.Words.{Sizes}
use Rattle.nv_table.specs.state.Keys.{sizes_of}
use Rattle.nv_table.specs.state.Opened.{Opened, mount_of}
use Rattle.nv_op.specs.Ops.{core_op_of}
use Rattle.nv_ring.specs.declared.append.AppendControl.TheVariants as appends
use Rattle.nv_ring.specs.declared.append.AppendMachine.{AppendMachine}
use Rattle.nv_ring.specs.Appends.{FitsAt, IsInCall, IsOpen, IsUnderWay, HasStepped, append_op_at, append_after, append_after_at, append_measure, append_measure_at}
use Rattle.nv_ring.proofs.AppendLaws.{some_pages}
use Rattle.nv_ring.proofs.AppendMeasures.{append_less}
use Rattle.nv_ring.proofs.PledgeLaws.{before_first, pledge_on, pledge_stepped, pledged_behind, between_made, stop_due, stop_on, stop_stepped}
use Rattle.nv_ring.proofs.append.AppendMachine.commit.Goals as goal

pub perform_after-requires-clause-due : goal.perform_after-requires-clause-due
perform_after-requires-clause-due g c =
    let pass = c.args.pass.now in
    let mid = c.commit_entries.new.pass in
    let made = c.in_default.ensures.committed in
    stop_due c.args.self.now c.requires.way.0 pass mid (subst (λ control. IsInCall c.args.self.now control c.requires.way.0 pass) c.requires.at c.requires.way.1.1) (between_made pass mid _ made)
    made.works made.due made.failing made.owns_slots

pub returns-in_default-clause-one : goal.returns-in_default-clause-one
returns-in_default-clause-one g c =
    stop_stepped c.args.self.now c.args.pass.now c.commit_entries.new.pass c.perform_after.new.pass c.perform_after.result c.requires.at
    (between_made c.args.pass.now c.commit_entries.new.pass _ c.in_default.ensures.committed) c.perform_after.ensures.stepped.0 c.perform_after.ensures.stepped.1

pub returns-in_default-clause-falls : goal.returns-in_default-clause-falls
returns-in_default-clause-falls g c =
    let m = c.args.self.now in
    let sizes = c.args.pass.now.view.opened.sizes in
    let fits = c.requires.way.1.0 in
    subst (λ control. append_measure (record m { control = appends.BreakEntry 0 }) < append_measure_at m control) (sym c.requires.at)
    (append_less sizes m appends.CommitGroup true 0 (some_pages sizes m fits) (subst (FitsAt m) c.requires.at fits.stands) tt)

pub returns-in_default-clause-way : goal.returns-in_default-clause-way
returns-in_default-clause-way g c start way =
    let m = c.args.self.now in
    let pass = c.args.pass.now in
    let mid = c.commit_entries.new.pass in
    stop_on m start pass mid (subst (λ control. IsInCall m control start pass) c.requires.at way.1) (between_made pass mid _ c.in_default.ensures.committed)
    c.perform_after.new.pass c.perform_after.result way.0 (some_pages pass.view.opened.sizes m way.0) (subst (FitsAt m) c.requires.at way.0.stands) c.perform_after.ensures.stepped.0 c.perform_after.ensures.stepped.1

pub pledge_page-found-requires-clause-before : goal.pledge_page-found-requires-clause-before
pledge_page-found-requires-clause-before g c =
    let m = c.args.self.now in
    let pass = c.args.pass.now in
    let opened = pass.view.opened in
    let fits = c.requires.way.1.0 in
    let made = c.in-Ok.ensures.committed in
    before_first m c.requires.way.0 pass c.commit_entries.new.pass fits (mount_of opened).values
    (c.cells_keep_their_shapes.ensures (mount_of opened) pass.view.run c.sees_a_run.ensures.mount
    (subst (λ (o : Opened). HaveShapes o.sizes.page (mount_of o).values (mount_of o).values) (sym c.requires.board.same_mount) c.keeps_stores_and_buffers.ensures.shapes) c.sees_a_run.ensures.run)
    (subst (λ control. IsInCall m control c.requires.way.0 pass) c.requires.at c.requires.way.1.1) _ made made.pledging (some_pages opened.sizes m fits)

pub returns-clause-one : goal.returns-clause-one
returns-clause-one g c =
    let m = c.args.self.now in
    let pass = c.args.pass.now in
    let mid = c.commit_entries.new.pass in
    let new = c.pledge_page-found.new.pass in
    let found = c.pledge_page-found.result in
    let same = c.layout-layout.ensures ∙ sym (ap (λ (o : Opened). o.sizes) c.requires.board.same_mount) in
    let page : m.page + 0 ≡ m.page = omega arith in
    subst (λ next. HasStepped m next pass new) (sym (c.after.ensures ∙ ap (λ (s : Sizes). append_after s m false found) same))
    (pledge_stepped m 0 pass new found (ap Pledge page ∙ ap (λ control. core_op_of pass.view (append_op_at m control false)) (sym c.requires.at))
    (pledged_behind (m.page + 0) found pass mid new (between_made pass mid _ c.in-Ok.ensures.committed) c.pledge_page-found.ensures.pledged))

pub returns-clause-falls : goal.returns-clause-falls
returns-clause-falls g c =
    let m = c.args.self.now in
    let fits = c.requires.way.1.0 in
    subst (λ (next : AppendMachine). append_measure next < append_measure m) (sym c.after.ensures)
    (append_less (sizes_of c.layout-layout.result) m m.control false c.pledge_page-found.result (some_pages c.args.pass.now.view.opened.sizes m fits) fits.stands (subst IsOpen (sym c.requires.at) tt))

pub returns-clause-way : goal.returns-clause-way
returns-clause-way g c start way =
    let m = c.args.self.now in
    let pass = c.args.pass.now in
    let mid = c.commit_entries.new.pass in
    let new = c.pledge_page-found.new.pass in
    let found = c.pledge_page-found.result in
    let same = c.layout-layout.ensures ∙ sym (ap (λ (o : Opened). o.sizes) c.requires.board.same_mount) in
    let on = subst (λ control. IsInCall m control start pass) c.requires.at way.1 in
    subst (λ next. IsUnderWay next start new) (sym (c.after.ensures ∙ ap (λ (s : Sizes). append_after s m false found) same ∙ ap (λ control. append_after_at pass.view.opened.sizes m control false found) c.requires.at))
    (pledge_on m 0 start pass new found way.0 (some_pages pass.view.opened.sizes m way.0) (subst (FitsAt m) c.requires.at way.0.stands) on.before appends.CommitGroup on.called refl
    (pledged_behind (m.page + 0) found pass mid new (between_made pass mid _ c.in-Ok.ensures.committed) c.pledge_page-found.ensures.pledged))
