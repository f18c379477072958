-- The header's part comes back as the calls have left it.
use Rattle.std.proofs.Common.{subst}
use Rattle.nv_pmem.specs.Calls.{seen_of}
use Rattle.nv_header.specs.HeaderSteps.{tail_steps}
use Rattle.nv_core.specs.state.Passes.{IsOneOf}
use Rattle.nv_core.specs.state.Values.{Bare}
use Rattle.nv_table.specs.steps.Exchanges.{Exchanges}
use Rattle.nv_table.specs.state.SlotValues.{part_value, store_value, slot_value}
use Rattle.nv_pages.proofs.CalledLaws.{err_calls, tail_spare, tail_moved}
use Rattle.nv_pages.proofs.tails.move_header_tail.Goals as goal

pub store_durably-moved-requires-clause-spare : goal.store_durably-moved-requires-clause-spare
store_durably-moved-requires-clause-spare g c =
    let shown_part = part_value g.L.Lines.device g.L.Lines.history g.L.Lines.fault_count g.L.Lines.room in
    let shown = slot_value shown_part (store_value g.B.Backing.device g.B.Backing.history g.B.Backing.fault_count) in
    tail_spare g.L.Lines.device g.L.Lines.history g.L.Lines.fault_count g.L.Lines.room c.in-Part.header
    (c.requires.part (shown_part c.in-Part.header) (subst (λ held. IsOneOf c.args.pass.now.now (0, shown held)) c.in-Part.is c.exchange-held.ensures.slots.was))

pub returns-in_err-moved : goal.returns-in_err-moved
returns-in_err-moved g c =
    let shown = slot_value (part_value g.L.Lines.device g.L.Lines.history g.L.Lines.fault_count g.L.Lines.room) (store_value g.B.Backing.device g.B.Backing.history g.B.Backing.fault_count) in
    tail_moved g.L.Lines.device g.L.Lines.history g.L.Lines.fault_count g.L.Lines.room c.in-Part.header c.store_durably-moved.new.part c.store_durably-moved.ensures.device c.args.pass.now c.exchange-held.new.pass c.put.new.pass
    (subst (λ held. Exchanges 0 (shown held) Bare c.args.pass.now c.exchange-held.new.pass) c.in-Part.is c.exchange-held.ensures) c.put.ensures c.args.tail c.from_residual.result
    (err_calls (tail_steps c.args.tail) (seen_of g.L.Lines.history g.L.Lines.room g.L.Lines.fault_count c.in-Part.header) (seen_of g.L.Lines.history g.L.Lines.room g.L.Lines.fault_count c.store_durably-moved.new.part) c.from_residual.result
    c.from_residual.ensures.0 c.in_err-moved.ensures.calls.failed)

pub returns : goal.returns
returns g c =
    let shown = slot_value (part_value g.L.Lines.device g.L.Lines.history g.L.Lines.fault_count g.L.Lines.room) (store_value g.B.Backing.device g.B.Backing.history g.B.Backing.fault_count) in
    tail_moved g.L.Lines.device g.L.Lines.history g.L.Lines.fault_count g.L.Lines.room c.in-Part.header c.store_durably-moved.new.part c.store_durably-moved.ensures.device c.args.pass.now c.exchange-held.new.pass c.put.new.pass
    (subst (λ held. Exchanges 0 (shown held) Bare c.args.pass.now c.exchange-held.new.pass) c.in-Part.is c.exchange-held.ensures) c.put.ensures c.args.tail _
    record { well = c.in_ok-moved.ensures.calls.well; failed = tt }
