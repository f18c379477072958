-- The slot of the store has one, and the buffer of the page has room for a page.
use Rattle.std.proofs.Common.{◌≡◌, ◌<◌, ◌≤◌, length, subst, ◌∙◌}
use Rattle.std.specs.Prelude.{Some}
use Rattle.nv_core.specs.state.Words.{page_total}
use Rattle.nv_core.specs.state.Values.{Buffer, ABuffer}
use Rattle.nv_core.specs.state.Passes.{IsOneOf}
use Rattle.nv_table.specs.state.Opened.{Opened, mount_of}
use Rattle.nv_table.specs.state.Views.{slot_times}
use Rattle.nv_pages.specs.PageWork.{page_slot, store_slot}
use Rattle.nv_mirror.specs.declared.load.LoadControl.TheVariants as loads
use Rattle.nv_mirror.proofs.LoadSlots.{shapes_kept, store_kept, store_shown, page_there, page_slot_once, page_room}
use Rattle.nv_mirror.proofs.LoadWorks.{store_slot_once}
use Rattle.nv_mirror.proofs.load.LoadMachine.fetch.Goals as goal

pub read_store-requires-clause-owns_slots : goal.read_store-requires-clause-owns_slots
read_store-requires-clause-owns_slots g c =
    let m = c.args.self in
    let pass = c.args.pass.now in
    subst (λ (o : Opened). slot_times (store_slot o.sizes m.file) pass.now ≡ 1) c.requires.board.same_mount (store_slot_once m c.args.dirty c.requires.way.0 c.requires.way.1 pass c.requires.fits c.requires.way.2)

pub read_store-requires-clause-store : goal.read_store-requires-clause-store
read_store-requires-clause-store g c =
    let pass = c.args.pass.now in
    store_shown c.args.board.now pass c.requires.board c.cells_keep_their_shapes.ensures c.sees_a_run.ensures.mount c.sees_a_run.ensures.run c.keeps_stores_and_buffers.ensures.shapes
    c.requires.way.2.called.still c.args.self.file c.keeps_stores_and_buffers.ensures.stores c.requires.fits.allowed.known

pub returns-in_err-read_store-clause-store : goal.returns-in_err-read_store-clause-store
returns-in_err-read_store-clause-store g c =
    store_kept c.args.board.now c.args.pass.now c.requires.board c.cells_keep_their_shapes.ensures c.sees_a_run.ensures.mount c.sees_a_run.ensures.run c.keeps_stores_and_buffers.ensures.shapes
    c.args.self.file c.keeps_stores_and_buffers.ensures.stores c.requires.fits.allowed.known

pub fill_page-requires-clause-page : goal.fill_page-requires-clause-page
fill_page-requires-clause-page g c =
    let m = c.args.self in
    let pass = c.args.pass.now in
    subst (λ (o : Opened). m.page < page_total o.sizes) c.requires.board.same_mount (page_there m (loads.ReadStore c.args.dirty) c.requires.way.0 c.requires.way.1 pass c.requires.fits c.requires.way.2)

pub fill_page-requires-clause-owns_slots : goal.fill_page-requires-clause-owns_slots
fill_page-requires-clause-owns_slots g c =
    let m = c.args.self in
    let pass = c.args.pass.now in
    let mid = c.read_store.new.pass in
    subst (λ (o : Opened). slot_times (page_slot o.sizes m.page) mid.now ≡ 1) c.requires.board.same_mount
    (page_slot_once m (loads.ReadStore c.args.dirty) c.requires.way.0 c.requires.way.1 pass c.requires.fits c.requires.way.2 mid c.in_ok-read_store.ensures.same)

pub fill_page-requires-clause-room : goal.fill_page-requires-clause-room
fill_page-requires-clause-room g c =
    let m = c.args.self in
    let pass = c.args.pass.now in
    let mid = c.read_store.new.pass in
    let bytes = c.read_store.new.into in
    subst (λ (o : Opened). (buffer : Buffer) → IsOneOf mid.now (page_slot o.sizes m.page, ABuffer (Some buffer)) → length bytes ≤ length buffer.bytes) c.requires.board.same_mount
    (page_room m (loads.ReadStore c.args.dirty) c.requires.way.0 c.requires.way.1 pass c.requires.fits c.requires.way.2 mid c.in_ok-read_store.ensures.same (mount_of pass.view.opened).values
    (shapes_kept c.args.board.now pass c.requires.board c.cells_keep_their_shapes.ensures c.sees_a_run.ensures.mount c.sees_a_run.ensures.run c.keeps_stores_and_buffers.ensures.shapes)
    bytes (c.read_store.auto.into ∙ c.requires.room))
