use Rattle.std.proofs.Common.{ℕ, ◌<◌, refl, ap, subst}
use Rattle.nv_core.specs.invariant.Shapes.{HaveShapes, IsStore}
use Rattle.nv_core.specs.state.Words.{STORE}
use Rattle.nv_table.specs.ends.Begun.{BeganFilled}
use Rattle.nv_table.specs.state.SlotValues.{part_value, store_value, slot_value}
use Rattle.nv_table.specs.state.Keys.{opened_of}
use Rattle.nv_table.specs.state.Opened.{Opened, mount_of}
use Rattle.nv_table.specs.state.States.{BoardState}
use Rattle.nv_table.proofs.state.ShapeLaws.{have_shapes, keeps_stores}
use Rattle.nv_table.proofs.board.Board.keeps_stores_and_buffers.Goals as goal

pub returns-clause-stores : goal.returns-clause-stores
returns-clause-stores g c =
    let slots = c.self.inside.table.shared.key.value.slots.items in
    let part = part_value g.L.Lines.device g.L.Lines.history g.L.Lines.fault_count g.L.Lines.room in
    let store = store_value g.B.Backing.device g.B.Backing.history g.B.Backing.fault_count in
    let opened = opened_of (slot_value part store) c.self.inside.table.shared.key.value in
    let began : BeganFilled opened.sizes slots = subst (λ sizes. BeganFilled sizes slots) c.self.invariant.0 c.self.invariant.3 in
    subst (λ (o : Opened). (file : ℕ) → file < o.sizes.files → IsStore ((mount_of o).values (STORE file))) (ap (λ (b : BoardState). b.opened) c.self.view_is)
    (keeps_stores part store opened began.parts began.stores slots refl began.are_slots began.many_parts began.many_stores (λ one. tt))

pub returns-clause-shapes : goal.returns-clause-shapes
returns-clause-shapes g c =
    let slots = c.self.inside.table.shared.key.value.slots.items in
    let part = part_value g.L.Lines.device g.L.Lines.history g.L.Lines.fault_count g.L.Lines.room in
    let store = store_value g.B.Backing.device g.B.Backing.history g.B.Backing.fault_count in
    let opened = opened_of (slot_value part store) c.self.inside.table.shared.key.value in
    let began : BeganFilled opened.sizes slots = subst (λ sizes. BeganFilled sizes slots) c.self.invariant.0 c.self.invariant.3 in
    subst (λ (o : Opened). HaveShapes o.sizes.page (mount_of o).values (mount_of o).values) (ap (λ (b : BoardState). b.opened) c.self.view_is)
    (have_shapes part store opened began.parts began.stores slots refl began.are_slots (λ one. tt) (λ one. tt))
