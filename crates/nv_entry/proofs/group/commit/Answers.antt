use Rattle.std.proofs.Common.{get_or, refl, arith}
use Rattle.nv_pmem.specs.Calls.{seen_of}
use Rattle.nv_pmem.proofs.CallLaws.{each_in_row, failed_in_row, all_well, calls_failed}
use Rattle.nv_entry.proofs.group.commit.Goals as goal

pub returns-in_err-store_durably-clause-calls : goal.returns-in_err-store_durably-clause-calls
returns-in_err-store_durably-clause-calls g c =
    calls_failed _ c.from_residual.ensures.0
    (failed_in_row (seen_of g.L.Lines.history g.L.Lines.room g.L.Lines.fault_count) c.args.parts.now 0 (get_or c.args.parts.now 0 c.index-parts-0.result) c.store_durably.new.part c.index-parts-0.result (omega arith) refl
    c.in_err-store_durably.ensures.calls.failed)

pub returns-clause-calls : goal.returns-clause-calls
returns-clause-calls g c =
    all_well _
    (each_in_row (seen_of g.L.Lines.history g.L.Lines.room g.L.Lines.fault_count) c.args.parts.now 0 (get_or c.args.parts.now 0 c.index-parts-0.result) c.store_durably.new.part c.index-parts-0.result (omega arith) refl
    c.in_ok-store_durably.ensures.calls.well)
