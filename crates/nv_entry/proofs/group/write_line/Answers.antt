use Rattle.std.proofs.Common.{[], ◌∷◌, arith}
use Rattle.nv_pmem.specs.Steps.{Flush}
use Rattle.nv_pmem.proofs.CallLaws.{one_well, one_failed, line_well, line_failed, all_well, calls_failed, each_each, each_failed, failed_front}
use Rattle.nv_entry.proofs.group.write_line.Goals as goal

pub returns-in_err-store_line-clause-calls : goal.returns-in_err-store_line-clause-calls
returns-in_err-store_line-clause-calls g c =
    rw (← c.with_zeros-content.ensures)
    (calls_failed _ c.from_residual.ensures.0
    (failed_front (Flush c.args.line ∷ []) (line_failed c.args.line _ _ _ c.requires.line c.store_line.ensures.begun c.store_line.ensures.room c.in_err-store_line.ensures.cause)))

pub returns-in_err-flush-clause-calls : goal.returns-in_err-flush-clause-calls
returns-in_err-flush-clause-calls g c =
    rw (← c.with_zeros-content.ensures)
    (calls_failed _ c.from_residual-in_err-flush.ensures.0
    (each_failed (line_well c.args.line _ _ _ c.requires.line c.in_ok-store_line.ensures.done c.store_line.ensures.room c.in_ok-store_line.ensures.cause)
    (one_failed c.flush.ensures.begun c.flush.ensures.room c.in_err-flush.ensures.cause)))

pub returns-clause-calls : goal.returns-clause-calls
returns-clause-calls g c =
    rw (← c.with_zeros-content.ensures)
    (all_well _
    (each_each (line_well c.args.line _ _ _ c.requires.line c.in_ok-store_line.ensures.done c.store_line.ensures.room c.in_ok-store_line.ensures.cause)
    (one_well (omega (arith, c.requires.line, c.store_line.ensures.room.lines)) c.in_ok-flush.ensures.done (c.flush.ensures.room, c.in_ok-flush.ensures.flushed) c.in_ok-flush.ensures.cause)))
