-- Its buffer is filled, and CLEANUP is given back.
use Rattle.std.proofs.Common.{◌≡◌, ◌<◌, ◌≤◌, false, length, refl, sym, ap, subst, ◌∙◌}
use Rattle.std.specs.Prelude.{Some}
use Rattle.nv_core.specs.steps.Ops.{Give}
use Rattle.nv_core.specs.state.Words.{CLEANUP, page_total}
use Rattle.nv_core.specs.state.Values.{Buffer, ABuffer}
use Rattle.nv_core.specs.state.Passes.{IsOneOf}
use Rattle.nv_table.specs.state.Opened.{Opened, mount_of}
use Rattle.nv_table.specs.state.Views.{slot_times}
use Rattle.nv_op.specs.Ops.{core_op_of}
use Rattle.nv_pages.specs.PageWork.{page_slot}
use Rattle.nv_mirror.specs.PassSteps.{fault_in}
use Rattle.nv_mirror.specs.declared.load.LoadControl.TheVariants as loads
use Rattle.nv_mirror.specs.Loads.{fault_then, load_after_at, load_op_at}
use Rattle.nv_mirror.proofs.LoadSlots.{altered_self, shapes_kept, page_there, page_slot_once, page_room}
use Rattle.nv_mirror.proofs.LoadWorks.{at_control, between_by, unlock_alone, unlock_due, unlock_on, unlock_keeps, works_stepped}
use Rattle.nv_mirror.proofs.load.LoadMachine.finish.Goals as goal

pub fill_page-requires-clause-page : goal.fill_page-requires-clause-page
fill_page-requires-clause-page g c =
    let m = c.args.self.now in
    let pass = c.args.pass.now in
    subst (λ (o : Opened). m.page < page_total o.sizes) c.requires.board.same_mount (page_there m loads.GiveCleanup c.args.room.now c.requires.way.0 pass c.requires.way.1.0 (at_control c.requires.way.1 c.requires.at))

pub fill_page-requires-clause-owns_slots : goal.fill_page-requires-clause-owns_slots
fill_page-requires-clause-owns_slots g c =
    let m = c.args.self.now in
    let pass = c.args.pass.now in
    subst (λ (o : Opened). slot_times (page_slot o.sizes m.page) pass.now ≡ 1) c.requires.board.same_mount
    (page_slot_once m loads.GiveCleanup c.args.room.now c.requires.way.0 pass c.requires.way.1.0 (at_control c.requires.way.1 c.requires.at) pass (altered_self pass))

pub fill_page-requires-clause-room : goal.fill_page-requires-clause-room
fill_page-requires-clause-room g c =
    let m = c.args.self.now in
    let pass = c.args.pass.now in
    let bytes = c.args.room.now in
    subst (λ (o : Opened). (buffer : Buffer) → IsOneOf pass.now (page_slot o.sizes m.page, ABuffer (Some buffer)) → length bytes ≤ length buffer.bytes) c.requires.board.same_mount
    (page_room m loads.GiveCleanup bytes c.requires.way.0 pass c.requires.way.1.0 (at_control c.requires.way.1 c.requires.at) pass (altered_self pass) (mount_of pass.view.opened).values
    (shapes_kept c.args.board.now pass c.requires.board c.cells_keep_their_shapes.ensures c.sees_a_run.ensures.mount c.sees_a_run.ensures.run c.keeps_stores_and_buffers.ensures.shapes)
    bytes c.requires.room)

pub perform-requires-clause-due : goal.perform-requires-clause-due
perform-requires-clause-due g c =
    unlock_due c.args.self.now c.args.room.now c.requires.way.0 c.args.pass.now c.fill_page.new.pass c.requires.way.1.0 (at_control c.requires.way.1 c.requires.at) c.fill_page.ensures

pub returns-clause-one : goal.returns-clause-one
returns-clause-one g c =
    let m = c.args.self.now in
    let pass = c.args.pass.now in
    let new = c.perform.new.pass in
    let found = c.perform.result in
    let step = c.perform.ensures.stepped in
    works_stepped m loads.GiveCleanup c.args.room.now c.requires.way.0 pass (at_control c.requires.way.1 c.requires.at) c.fill_page.new.pass new
    (between_by _ pass c.fill_page.new.pass c.fill_page.ensures) step.works (Give (CLEANUP m.page)) found step refl false _
    (ap (λ control. core_op_of pass.view (load_op_at pass.view.opened.sizes m control false)) (sym c.requires.at))
    (ap fault_in (unlock_alone m c.args.room.now c.requires.way.0 pass c.fill_page.new.pass c.requires.way.1.0 (at_control c.requires.way.1 c.requires.at) c.fill_page.ensures new found step) ∙ ap (λ control. fault_then control false) (sym c.requires.at))
    (ap (λ control. load_after_at pass.view.opened.sizes m control false found) (sym c.requires.at))

pub returns-clause-others : goal.returns-clause-others
returns-clause-others g c =
    unlock_keeps c.args.self.now c.args.room.now c.requires.way.0 c.args.pass.now c.fill_page.new.pass c.requires.way.1.0 (at_control c.requires.way.1 c.requires.at) c.fill_page.ensures
    c.perform.new.pass c.perform.result c.perform.ensures.stepped

pub returns-clause-way : goal.returns-clause-way
returns-clause-way g c start way =
    unlock_on c.args.self.now c.args.room.now start c.args.pass.now c.fill_page.new.pass way.0 (at_control way c.requires.at) c.fill_page.ensures c.perform.new.pass c.perform.result c.perform.ensures.stepped
