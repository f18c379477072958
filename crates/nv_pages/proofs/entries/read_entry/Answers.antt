-- The part comes back with the same states and room, and its count rose exactly where it failed.
use Rattle.std.proofs.Common.{◌≡◌, ◌<◌, ◌%◌, subst, [], false, arith, length}
use Rattle.nv_plain.specs.Faults.{Rose}
use Rattle.nv_core.specs.state.Words.{Sizes, ENTRY, slot_of_entry}
use Rattle.nv_core.specs.state.Passes.{IsOneOf}
use Rattle.nv_core.specs.state.Values.{Bare, PageRead, Failed, called, faults_of}
use Rattle.nv_table.specs.steps.Exchanges.{Exchanges}
use Rattle.nv_table.specs.state.SlotValues.{part_value, store_value, slot_value}
use Rattle.nv_pages.specs.PageWork.{HasFailedCall, IsReadable, entry_slot}
use Rattle.nv_pages.proofs.AlterLaws.{altered_same, altered_by, was_kept}
use Rattle.nv_pages.proofs.EntryLaws.{at_entry, part_lines, part_same, part_failed}
use Rattle.nv_pages.proofs.StoreLaws.{on_err}
use Rattle.nv_pages.proofs.entries.read_entry.Goals as goal

pub read_piece-read-requires-clause-lines : goal.read_piece-read-requires-clause-lines
read_piece-read-requires-clause-lines g c =
    let sizes = c.args.board.now.opened.sizes in
    let shown_part = part_value g.L.Lines.device g.L.Lines.history g.L.Lines.fault_count g.L.Lines.room in
    let shown = slot_value (part_value g.L.Lines.device g.L.Lines.history g.L.Lines.fault_count g.L.Lines.room) (store_value g.B.Backing.device g.B.Backing.history g.B.Backing.fault_count) in
    let was : IsOneOf c.args.pass.now.now (entry_slot sizes c.args.number, shown_part c.in-Part.part) =
    subst (λ slot. IsOneOf c.args.pass.now.now (slot, shown_part c.in-Part.part)) c.slot_of_entry-slot.ensures
    (subst (λ held. IsOneOf c.args.pass.now.now (c.slot_of_entry-slot.result, shown held)) c.in-Part.is c.exchange-held.ensures.slots.was) in
    let readable : IsReadable sizes (shown_part c.in-Part.part) = c.requires.part (shown_part c.in-Part.part) was in
    let whole : sizes.page % 64 ≡ 0 = subst (λ (s : Sizes). s.page % 64 ≡ 0) c.layout-layout.ensures c.layout-layout.result.limits.whole_lines in
    part_lines g.L.Lines.device g.L.Lines.history g.L.Lines.fault_count g.L.Lines.room sizes c.in-Part.part (length c.args.into.now) c.requires.page whole readable.0

pub returns-clause-same : goal.returns-clause-same
returns-clause-same g c =
    let shown_part = part_value g.L.Lines.device g.L.Lines.history g.L.Lines.fault_count g.L.Lines.room in
    let shown = slot_value (part_value g.L.Lines.device g.L.Lines.history g.L.Lines.fault_count g.L.Lines.room) (store_value g.B.Backing.device g.B.Backing.history g.B.Backing.fault_count) in
    let some : 0 < c.args.board.now.opened.sizes.entries = subst (λ (s : Sizes). 0 < s.entries) c.layout-layout.ensures (let l = c.layout-layout.result.limits.least_entries in omega (arith, l)) in
    altered_same c.args.pass.now c.exchange-held.new.pass c.put.new.pass c.slot_of_entry-slot.result (ENTRY (slot_of_entry c.args.board.now.opened.sizes c.args.number))
    (shown_part c.in-Part.part) (shown_part c.read_piece-read.new.part)
    (at_entry c.args.board.now c.args.pass.now c.args.number c.slot_of_entry-slot.result c.requires.board some c.slot_of_entry-slot.ensures)
    (subst (λ held. Exchanges c.slot_of_entry-slot.result (shown held) Bare c.args.pass.now c.exchange-held.new.pass) c.in-Part.is c.exchange-held.ensures)
    c.put.ensures
    (part_same g.L.Lines.device g.L.Lines.history g.L.Lines.fault_count g.L.Lines.room c.in-Part.part c.read_piece-read.new.part
    c.in_ok-head.ensures.history c.in_ok-head.ensures.device c.in_ok-head.ensures.same_room c.in_ok-head.ensures.cause)

pub returns-in_err-head-clause-failed : goal.returns-in_err-head-clause-failed
returns-in_err-head-clause-failed g c =
    let cell = ENTRY (slot_of_entry c.args.board.now.opened.sizes c.args.number) in
    let shown_part = part_value g.L.Lines.device g.L.Lines.history g.L.Lines.fault_count g.L.Lines.room in
    let shown = slot_value (part_value g.L.Lines.device g.L.Lines.history g.L.Lines.fault_count g.L.Lines.room) (store_value g.B.Backing.device g.B.Backing.history g.B.Backing.fault_count) in
    let faults = g.L.Lines.fault_count c.read_piece-read.new.part in
    let some : 0 < c.args.board.now.opened.sizes.entries = subst (λ (s : Sizes). 0 < s.entries) c.layout-layout.ensures (let l = c.layout-layout.result.limits.least_entries in omega (arith, l)) in
    let at = at_entry c.args.board.now c.args.pass.now c.args.number c.slot_of_entry-slot.result c.requires.board some c.slot_of_entry-slot.ensures in
    let away : Exchanges c.slot_of_entry-slot.result (shown_part c.in-Part.part) Bare c.args.pass.now c.exchange-held.new.pass =
    subst (λ held. Exchanges c.slot_of_entry-slot.result (shown held) Bare c.args.pass.now c.exchange-held.new.pass) c.in-Part.is c.exchange-held.ensures in
    on_err c.from_residual.result (HasFailedCall cell c.args.pass.now c.put.new.pass)
    record {
      faults = faults;
      rose = λ kept cells owns_slots.
          subst (λ value. Rose (faults_of value) faults)
          (was_kept c.args.pass.now c.exchange-held.new.pass c.slot_of_entry-slot.result cell (shown_part c.in-Part.part) Bare at away kept cells owns_slots)
          c.in_err-head.ensures.cause;
      altered = altered_by c.args.pass.now c.exchange-held.new.pass c.put.new.pass c.slot_of_entry-slot.result cell (shown_part c.in-Part.part) (shown_part c.read_piece-read.new.part) at away
          c.put.ensures (called (PageRead 0 []) (Failed false faults))
          (part_failed g.L.Lines.device g.L.Lines.history g.L.Lines.fault_count g.L.Lines.room c.in-Part.part c.read_piece-read.new.part
          c.in_err-head.ensures.history c.in_err-head.ensures.device c.in_err-head.ensures.same_room);
    }
