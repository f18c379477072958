-- The piece is that of the entry at hand.
use Rattle.std.proofs.Common.{◌≡◌, ℕ, ◌+◌, ◌<◌, ◌≤◌, ◌^◌, take, ◌∙◌, sym, ap, subst, arith}
use Rattle.nv_core.specs.state.Words.{Sizes, STORE, ENTRY, slot_of_entry}
use Rattle.nv_core.specs.state.Values.{Value}
use Rattle.nv_core.specs.state.Passes.{IsOneOf}
use Rattle.nv_core.specs.steps.CleanerSteps.{group_file}
use Rattle.nv_core.specs.steps.Order.{SaysPieceOf}
use Rattle.nv_core.specs.invariant.Shapes.{HaveShapes, IsStore}
use Rattle.nv_table.specs.state.Opened.{Opened, mount_of}
use Rattle.nv_table.specs.state.Views.{slot_times}
use Rattle.nv_pages.specs.PageWork.{IsReadable, OfKept, HasFailedCall}
use Rattle.nv_clean.specs.Cleaning.{CleanState}
use Rattle.nv_clean.proofs.PieceLaws.{reads_low, entry_slot_once, entry_slot_reads, store_file, was_read, read_failed, if_ok, if_err}
use Rattle.nv_clean.proofs.batch.CleanMachine.read_piece.Goals as goal

pub overflow_add-self-inside : goal.overflow_add-self-inside
overflow_add-self-inside g c =
    let m = c.args.self.now in
    let low = reads_low c.runs_are_sound.ensures.runs c.args.pass.now c.sees_a_run.ensures.mount c.sees_a_run.ensures.run m c.args.at c.requires.at c.requires.way.0 c.requires.way.1 in
    let here : c.self.inside.reached + c.args.at < 2 ^ 60 = subst (λ (m : CleanState). m.batch.reached + c.args.at < 2 ^ 60) (sym c.self.view_is) low in omega (arith, here)

pub read_entry-requires-clause-owns_slots : goal.read_entry-requires-clause-owns_slots
read_entry-requires-clause-owns_slots g c =
    let m = c.args.self.now in
    let same = c.layout-layout.ensures ∙ sym (ap (λ (o : Opened). o.sizes) c.requires.board.same_mount) in
    subst (λ (m : CleanState). slot_times (1 + slot_of_entry c.args.board.now.opened.sizes (m.batch.reached + c.args.at)) c.args.pass.now.now ≡ 1) (sym c.self.view_is)
    (subst (λ (o : Opened). slot_times (1 + slot_of_entry o.sizes (m.batch.reached + c.args.at)) c.args.pass.now.now ≡ 1) c.requires.board.same_mount
    (entry_slot_once c.runs_are_sound.ensures.runs c.args.pass.now c.sees_a_run.ensures.mount c.sees_a_run.ensures.run m c.args.at c.requires.at c.requires.way.0 c.requires.way.1 c.ready_pieces_fit.ensures (subst (λ (s : Sizes). 0 < s.entries) same (let l = c.layout-layout.result.limits.least_entries in omega (arith, l))) (subst (λ (s : Sizes). 1 ≤ s.page) same (let l = c.layout-layout.result.limits.least_page in omega (arith, l)))))

pub read_entry-requires-clause-part : goal.read_entry-requires-clause-part
read_entry-requires-clause-part g c =
    let m = c.args.self.now in
    let same = c.layout-layout.ensures ∙ sym (ap (λ (o : Opened). o.sizes) c.requires.board.same_mount) in
    subst (λ (m : CleanState). (value : Value) → IsOneOf c.args.pass.now.now (1 + slot_of_entry c.args.board.now.opened.sizes (m.batch.reached + c.args.at), value) → IsReadable c.args.board.now.opened.sizes value) (sym c.self.view_is)
    (subst (λ (o : Opened). (value : Value) → IsOneOf c.args.pass.now.now (1 + slot_of_entry o.sizes (m.batch.reached + c.args.at), value) → IsReadable o.sizes value) c.requires.board.same_mount
    (entry_slot_reads c.runs_are_sound.ensures.runs c.args.pass.now c.sees_a_run.ensures.mount c.sees_a_run.ensures.run m c.args.at c.requires.at c.requires.way.0 c.requires.way.1 c.ready_pieces_fit.ensures (subst (λ (s : Sizes). 0 < s.entries) same (let l = c.layout-layout.result.limits.least_entries in omega (arith, l))) (subst (λ (s : Sizes). 1 ≤ s.page) same (let l = c.layout-layout.result.limits.least_page in omega (arith, l)))))

pub returns-clause-read : goal.returns-clause-read
returns-clause-read g c =
    let m = c.args.self.now in
    let pass = c.args.pass.now in
    let new = c.read_entry.new.pass in
    let same = c.layout-layout.ensures ∙ sym (ap (λ (o : Opened). o.sizes) c.requires.board.same_mount) in
    if_ok c.read_entry.result c.read_entry.ensures.same c.read_entry.ensures.says
    (λ read altered says start way.
    was_read c.runs_are_sound.ensures.runs c.args.pass.now c.sees_a_run.ensures.mount c.sees_a_run.ensures.run m c.args.at c.requires.at start way c.ready_pieces_fit.ensures (subst (λ (s : Sizes). 0 < s.entries) same (let l = c.layout-layout.result.limits.least_entries in omega (arith, l))) (subst (λ (s : Sizes). 1 ≤ s.page) same (let l = c.layout-layout.result.limits.least_page in omega (arith, l)))
    new read.at (take read.size c.read_entry.new.into) altered
    (subst (λ (o : Opened). OfKept pass (λ kept. SaysPieceOf o.sizes read.at (take read.size c.read_entry.new.into) (kept (ENTRY (slot_of_entry o.sizes (m.batch.reached + c.args.at)))))) (sym c.requires.board.same_mount)
    (subst (λ (m : CleanState). OfKept pass (λ kept. SaysPieceOf c.args.board.now.opened.sizes read.at (take read.size c.read_entry.new.into) (kept (ENTRY (slot_of_entry c.args.board.now.opened.sizes (m.batch.reached + c.args.at)))))) c.self.view_is says))
    (subst (λ (o : Opened). (file : ℕ) → file < o.sizes.files → IsStore ((mount_of o).values (STORE file))) (sym c.requires.board.same_mount) c.keeps_stores_and_buffers.ensures.stores (group_file pass.view.opened.sizes m.batch)
    (store_file c.runs_are_sound.ensures.runs c.args.pass.now c.sees_a_run.ensures.mount c.sees_a_run.ensures.run m c.args.at c.requires.at start way))
    (c.cells_keep_their_shapes.ensures (mount_of pass.view.opened) pass.view.run c.sees_a_run.ensures.mount
    (subst (λ (o : Opened). HaveShapes o.sizes.page (mount_of o).values (mount_of o).values) (sym c.requires.board.same_mount) c.keeps_stores_and_buffers.ensures.shapes) c.sees_a_run.ensures.run))

pub returns-clause-failed : goal.returns-clause-failed
returns-clause-failed g c =
    let m = c.args.self.now in
    let pass = c.args.pass.now in
    let new = c.read_entry.new.pass in
    let same = c.layout-layout.ensures ∙ sym (ap (λ (o : Opened). o.sizes) c.requires.board.same_mount) in
    if_err c.read_entry.result c.read_entry.ensures.failed
    (λ failed start way.
    read_failed c.runs_are_sound.ensures.runs c.args.pass.now c.sees_a_run.ensures.mount c.sees_a_run.ensures.run m c.args.at c.requires.at start way c.ready_pieces_fit.ensures (subst (λ (s : Sizes). 0 < s.entries) same (let l = c.layout-layout.result.limits.least_entries in omega (arith, l))) (subst (λ (s : Sizes). 1 ≤ s.page) same (let l = c.layout-layout.result.limits.least_page in omega (arith, l))) new
    (subst (λ (o : Opened). HasFailedCall (ENTRY (slot_of_entry o.sizes (m.batch.reached + c.args.at))) pass new) (sym c.requires.board.same_mount)
    (subst (λ (m : CleanState). HasFailedCall (ENTRY (slot_of_entry c.args.board.now.opened.sizes (m.batch.reached + c.args.at))) pass new) c.self.view_is failed)))
