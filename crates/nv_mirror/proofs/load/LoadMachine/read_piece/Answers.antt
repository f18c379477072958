-- The part of the entry is in its slot, and its piece may be read.
use Rattle.std.proofs.Common.{◌≡◌, sym, ap, subst, ◌∙◌}
use Rattle.nv_core.specs.state.Values.{Value}
use Rattle.nv_core.specs.state.Passes.{IsOneOf}
use Rattle.nv_table.specs.state.Opened.{Opened}
use Rattle.nv_table.specs.state.Views.{slot_times}
use Rattle.nv_pages.specs.PageWork.{IsReadable, entry_slot}
use Rattle.nv_mirror.proofs.LoadWorks.{piece_stands, piece_once}
use Rattle.nv_mirror.proofs.PieceReadLaws.{readable, slot_held, slot_keeps, some_byte, some_entry}
use Rattle.nv_mirror.proofs.load.LoadMachine.read_piece.Goals as goal

pub read_entry-requires-clause-owns_slots : goal.read_entry-requires-clause-owns_slots
read_entry-requires-clause-owns_slots g c =
    let pass = c.args.pass.now in
    let way = c.requires.way.2 in
    let same = c.layout-layout.ensures ∙ sym (ap (λ (o : Opened). o.sizes) c.requires.board.same_mount) in
    subst (λ (o : Opened). slot_times (entry_slot o.sizes c.args.number) pass.now ≡ 1) c.requires.board.same_mount
    (slot_held pass c.args.number way.called.still way.called.left (some_entry c.layout-layout.result.limits same) (piece_once c.args.self c.args.number c.requires.way.0 c.requires.way.1 pass c.requires.fits way))

pub read_entry-requires-clause-part : goal.read_entry-requires-clause-part
read_entry-requires-clause-part g c =
    let pass = c.args.pass.now in
    let way = c.requires.way.2 in
    let same = c.layout-layout.ensures ∙ sym (ap (λ (o : Opened). o.sizes) c.requires.board.same_mount) in
    subst (λ (o : Opened). (value : Value) → IsOneOf pass.now (entry_slot o.sizes c.args.number, value) → IsReadable o.sizes value) c.requires.board.same_mount
    (λ value one.
    subst (IsReadable pass.view.opened.sizes) (sym (slot_keeps pass c.args.number way.called.still (some_entry c.layout-layout.result.limits same) value one))
    (readable c.runs_are_sound.ensures.runs c.held_pieces_fit.ensures pass c.args.self.page c.args.number c.sees_a_run.ensures.mount c.sees_a_run.ensures.run (some_entry c.layout-layout.result.limits same) (some_byte c.layout-layout.result.limits same)
    (piece_stands c.args.self c.args.number c.requires.way.0 c.requires.way.1 pass c.requires.fits way)))

pub returns-clause-ready : goal.returns-clause-ready
returns-clause-ready g c =
    let pass = c.args.pass.now in
    let same = c.layout-layout.ensures ∙ sym (ap (λ (o : Opened). o.sizes) c.requires.board.same_mount) in
    (readable c.runs_are_sound.ensures.runs c.held_pieces_fit.ensures pass c.args.self.page c.args.number c.sees_a_run.ensures.mount c.sees_a_run.ensures.run (some_entry c.layout-layout.result.limits same) (some_byte c.layout-layout.result.limits same)
    (piece_stands c.args.self c.args.number c.requires.way.0 c.requires.way.1 pass c.requires.fits c.requires.way.2)).0
