-- The piece is read, and the entry is returned, or STOP is set.
use Rattle.std.proofs.Common.{◌%◌, take, true, false, refl, sym, ap, subst, ◌∙◌}
use Rattle.nv_plain.specs.Files.{overwritten}
use Rattle.nv_core.specs.steps.Ops.{Return, Stop}
use Rattle.nv_core.specs.state.Words.{Sizes}
use Rattle.nv_core.specs.state.Values.{Made}
use Rattle.nv_table.specs.state.Opened.{Opened}
use Rattle.nv_table.specs.state.Views.{PassView}
use Rattle.nv_op.specs.Ops.{core_op_of}
use Rattle.nv_mirror.specs.PassSteps.{fault_in}
use Rattle.nv_mirror.specs.PieceReads.{piece_read}
use Rattle.nv_mirror.specs.declared.load.LoadControl.TheVariants as loads
use Rattle.nv_mirror.specs.Loads.{HasStepped, IsUnderWay, fault_then, load_after_at, load_op_at}
use Rattle.nv_mirror.proofs.LoadWorks.{at_control, between_by, piece_stands, piece_once, return_on, return_keeps, break_on, break_keeps, works_stepped}
use Rattle.nv_mirror.proofs.PieceReadLaws.{return_due, stop_due}
use Rattle.nv_mirror.proofs.load.LoadMachine.patch.Goals as goal

pub perform_after-requires-clause-due : goal.perform_after-requires-clause-due
perform_after-requires-clause-due g c =
    let m = c.args.self.now in
    let pass = c.args.pass.now in
    let room = c.args.room.now in
    let start = c.requires.way.0 in
    let way = at_control c.requires.way.1 c.requires.at in
    stop_due pass c.read_piece.new.pass m.page c.args.number way.called.still way.called.left (piece_stands m c.args.number room start pass c.requires.way.1.0 way)
    (piece_once m c.args.number room start pass c.requires.way.1.0 way) c.in_default.ensures.ready c.in_default.ensures.failed

pub returns-in_default-clause-one : goal.returns-in_default-clause-one
returns-in_default-clause-one g c =
    let m = c.args.self.now in
    let pass = c.args.pass.now in
    let failed = c.in_default.ensures.failed in
    let found = c.perform_after.result in
    let step = c.perform_after.ensures.stepped.0 in
    works_stepped m (loads.ReadPiece c.args.number) c.args.room.now c.requires.way.0 pass (at_control c.requires.way.1 c.requires.at) c.read_piece.new.pass c.perform_after.new.pass
    (record { table = failed.altered.table; view = failed.altered.view; spare = failed.altered.spare }) step.works Stop found step refl true _
    (ap (λ control. core_op_of pass.view (load_op_at pass.view.opened.sizes m control true)) (sym c.requires.at))
    (ap fault_in c.perform_after.ensures.stepped.1.is ∙ ap (λ control. fault_then control true) (sym c.requires.at))
    (ap (λ control. load_after_at pass.view.opened.sizes m control true found) (sym c.requires.at))

pub returns-in_default-clause-others : goal.returns-in_default-clause-others
returns-in_default-clause-others g c =
    let failed = c.in_default.ensures.failed in
    break_keeps c.args.self.now c.args.number c.args.room.now c.requires.way.0 c.args.pass.now c.requires.way.1.0 (at_control c.requires.way.1 c.requires.at) c.read_piece.new.pass c.perform_after.new.pass
    (record { table = failed.altered.table; view = failed.altered.view; spare = failed.altered.spare }) c.perform_after.result c.perform_after.ensures.stepped.0 c.perform_after.ensures.stepped.1

pub returns-in_default-clause-way : goal.returns-in_default-clause-way
returns-in_default-clause-way g c start way =
    let failed = c.in_default.ensures.failed in
    break_on c.args.self.now c.args.number c.args.room.now start c.args.pass.now way.0 (at_control way c.requires.at) c.read_piece.new.pass c.perform_after.new.pass
    (record { table = failed.altered.table; view = failed.altered.view; spare = failed.altered.spare }) c.perform_after.result c.perform_after.ensures.stepped.0 c.perform_after.ensures.stepped.1

pub perform_read-requires-clause-due : goal.perform_read-requires-clause-due
perform_read-requires-clause-due g c =
    let m = c.args.self.now in
    let pass = c.args.pass.now in
    let room = c.args.room.now in
    let start = c.requires.way.0 in
    let way = at_control c.requires.way.1 c.requires.at in
    return_due pass c.read_piece.new.pass m.page c.args.number way.called.still way.called.left (piece_stands m c.args.number room start pass c.requires.way.1.0 way)
    (piece_once m c.args.number room start pass c.requires.way.1.0 way) c.in-Ok.read.at (take c.in-Ok.read.size c.read_piece.new.into) c.in-Ok.ensures.same c.in-Ok.ensures.says

pub returns-clause-one : goal.returns-clause-one
returns-clause-one g c =
    let m = c.args.self.now in
    let pass = c.args.pass.now in
    let new = c.perform_read.new.pass in
    let found = c.perform_read.result in
    let step = c.perform_read.ensures.stepped.0 in
    subst (λ control. HasStepped m (record m { control = control }) pass new) (sym c.scan_behind-self.ensures)
    (works_stepped m (loads.ReadPiece c.args.number) c.args.room.now c.requires.way.0 pass (at_control c.requires.way.1 c.requires.at) c.read_piece.new.pass new
    (between_by (λ kept. kept) pass c.read_piece.new.pass c.in-Ok.ensures.same) step.works (Return c.args.number) found step refl false _
    (ap (λ control. core_op_of pass.view (load_op_at pass.view.opened.sizes m control false)) (sym c.requires.at))
    (ap fault_in c.perform_read.ensures.stepped.1 ∙ ap (λ control. fault_then control false) (sym c.requires.at))
    (ap (λ control. load_after_at pass.view.opened.sizes m control false found) (sym c.requires.at)))

pub returns-clause-others : goal.returns-clause-others
returns-clause-others g c =
    let pass = c.args.pass.now in
    let begins = c.in-Ok.read.at in
    let bytes = take c.in-Ok.read.size c.read_piece.new.into in
    return_keeps c.args.self.now c.args.number c.args.room.now c.requires.way.0 pass c.requires.way.1.0 (at_control c.requires.way.1 c.requires.at) c.read_piece.new.pass c.perform_read.new.pass
    (between_by (λ kept. kept) pass c.read_piece.new.pass c.in-Ok.ensures.same) c.perform_read.result begins bytes c.perform_read.ensures.stepped.0
    (c.perform_read.ensures.stepped.1 ∙ ap (λ (v : PassView). piece_read v.opened.sizes c.args.number begins bytes Made) c.in-Ok.ensures.same.view)

pub returns-clause-way : goal.returns-clause-way
returns-clause-way g c start way =
    let m = c.args.self.now in
    let pass = c.args.pass.now in
    let new = c.perform_read.new.pass in
    let begins = c.in-Ok.read.at in
    let room = c.args.room.now in
    let bytes = take c.in-Ok.read.size c.read_piece.new.into in
    let same = c.layout-layout.ensures ∙ sym (ap (λ (o : Opened). o.sizes) c.requires.board.same_mount) in
    subst (λ control. IsUnderWay (record m { control = control }) c.patch.new.page start new) (sym c.scan_behind-self.ensures)
    (subst (λ laid. IsUnderWay (load_after_at pass.view.opened.sizes m (loads.ReadPiece c.args.number) false 0) laid start new) (sym (c.patch.ensures ∙ ap (λ (s : Sizes). overwritten room (begins % s.page) bytes) same))
    (return_on m c.args.number room start pass way.0 (at_control way c.requires.at) c.read_piece.new.pass new
    (between_by (λ kept. kept) pass c.read_piece.new.pass c.in-Ok.ensures.same) c.perform_read.result begins bytes c.perform_read.ensures.stepped.0
    (c.perform_read.ensures.stepped.1 ∙ ap (λ (v : PassView). piece_read v.opened.sizes c.args.number begins bytes Made) c.in-Ok.ensures.same.view)))
