-- The store comes back with the same states, and its count rose exactly where it failed.
use Rattle.std.proofs.Common.{subst, [], false}
use Rattle.nv_plain.specs.Faults.{Rose}
use Rattle.nv_core.specs.state.Words.{STORE}
use Rattle.nv_core.specs.state.Values.{Bare, PageRead, Failed, called, faults_of}
use Rattle.nv_table.specs.steps.Exchanges.{Exchanges}
use Rattle.nv_table.specs.state.SlotValues.{part_value, store_value, slot_value}
use Rattle.nv_pages.specs.PageWork.{HasFailedCall}
use Rattle.nv_pages.proofs.AlterLaws.{at_store, altered_same, altered_by, was_kept}
use Rattle.nv_pages.proofs.StoreLaws.{store_same, store_failed, on_err}
use Rattle.nv_pages.proofs.stores.read_store.Goals as goal

pub returns-clause-same : goal.returns-clause-same
returns-clause-same g c =
    let shown_store = store_value g.B.Backing.device g.B.Backing.history g.B.Backing.fault_count in
    let shown = slot_value (part_value g.L.Lines.device g.L.Lines.history g.L.Lines.fault_count g.L.Lines.room) (store_value g.B.Backing.device g.B.Backing.history g.B.Backing.fault_count) in
    altered_same c.args.pass.now c.exchange-held.new.pass c.put.new.pass c.slot_of_store-slot.result (STORE c.args.file) (shown_store c.in-Store.store) (shown_store c.pread-read.new.self)
    (at_store c.args.board.now c.args.pass.now c.args.file c.slot_of_store-slot.result c.requires.board c.requires.file c.slot_of_store-slot.ensures)
    (subst (λ held. Exchanges c.slot_of_store-slot.result (shown held) Bare c.args.pass.now c.exchange-held.new.pass) c.in-Store.is c.exchange-held.ensures)
    c.put.ensures
    (store_same g.B.Backing.device g.B.Backing.history g.B.Backing.fault_count c.in-Store.store c.pread-read.new.self c.in_ok-count.ensures.history c.in_ok-count.ensures.device c.in_ok-count.ensures.cause)

pub returns-in_err-count-clause-failed : goal.returns-in_err-count-clause-failed
returns-in_err-count-clause-failed g c =
    let shown_store = store_value g.B.Backing.device g.B.Backing.history g.B.Backing.fault_count in
    let shown = slot_value (part_value g.L.Lines.device g.L.Lines.history g.L.Lines.fault_count g.L.Lines.room) (store_value g.B.Backing.device g.B.Backing.history g.B.Backing.fault_count) in
    let faults = g.B.Backing.fault_count c.pread-read.new.self in
    let at = at_store c.args.board.now c.args.pass.now c.args.file c.slot_of_store-slot.result c.requires.board c.requires.file c.slot_of_store-slot.ensures in
    let away : Exchanges c.slot_of_store-slot.result (shown_store c.in-Store.store) Bare c.args.pass.now c.exchange-held.new.pass =
    subst (λ held. Exchanges c.slot_of_store-slot.result (shown held) Bare c.args.pass.now c.exchange-held.new.pass) c.in-Store.is c.exchange-held.ensures in
    on_err c.from_residual.result (HasFailedCall (STORE c.args.file) c.args.pass.now c.put.new.pass)
    record {
      faults = faults;
      rose = λ kept cells owns_slots.
          subst (λ value. Rose (faults_of value) faults)
          (was_kept c.args.pass.now c.exchange-held.new.pass c.slot_of_store-slot.result (STORE c.args.file) (shown_store c.in-Store.store) Bare at away kept cells owns_slots)
          c.in_err-count.ensures.cause;
      altered = altered_by c.args.pass.now c.exchange-held.new.pass c.put.new.pass c.slot_of_store-slot.result (STORE c.args.file) (shown_store c.in-Store.store) (shown_store c.pread-read.new.self) at away
          c.put.ensures (called (PageRead 0 []) (Failed false faults))
          (store_failed g.B.Backing.device g.B.Backing.history g.B.Backing.fault_count c.in-Store.store c.pread-read.new.self c.in_err-count.ensures.history c.in_err-count.ensures.device);
    }
