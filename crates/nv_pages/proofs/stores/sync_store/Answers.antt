-- The store comes back as the call has left it.
use Rattle.std.proofs.Common.{subst}
use Rattle.nv_core.specs.state.Values.{Bare}
use Rattle.nv_table.specs.steps.Exchanges.{Exchanges}
use Rattle.nv_table.specs.state.SlotValues.{part_value, store_value, slot_value}
use Rattle.nv_pages.proofs.AlterLaws.{at_store}
use Rattle.nv_pages.proofs.CalledLaws.{store_synced}
use Rattle.nv_pages.proofs.stores.sync_store.Goals as goal

pub returns : goal.returns
returns g c =
    let shown = slot_value (part_value g.L.Lines.device g.L.Lines.history g.L.Lines.fault_count g.L.Lines.room) (store_value g.B.Backing.device g.B.Backing.history g.B.Backing.fault_count) in
    store_synced g.B.Backing.device g.B.Backing.history g.B.Backing.fault_count c.in-Store.store c.sync-synced.new.self c.sync-synced.ensures.device c.args.file c.slot_of_store-slot.result c.args.pass.now c.exchange-held.new.pass c.put.new.pass
    (at_store c.args.board.now c.args.pass.now c.args.file c.slot_of_store-slot.result c.requires.board c.requires.file c.slot_of_store-slot.ensures)
    (subst (λ held. Exchanges c.slot_of_store-slot.result (shown held) Bare c.args.pass.now c.exchange-held.new.pass) c.in-Store.is c.exchange-held.ensures)
    c.put.ensures c.sync-synced.result c.sync-synced.ensures.done c.sync-synced.ensures.failed c.sync-synced.ensures.cause
