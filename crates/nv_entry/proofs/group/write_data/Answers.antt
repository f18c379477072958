use Rattle.std.proofs.Common.{refl, ◌∙◌, arith}
use Rattle.nv_pmem.proofs.CallLaws.{each_none, all_well, calls_failed}
use Rattle.nv_entry.proofs.Data.{data_line-cut}
use Rattle.nv_entry.proofs.PieceSteps.{each_data, each_lines_more, failed_lines_more}
use Rattle.nv_entry.proofs.Rooms.{writes_lines_more}
use Rattle.nv_entry.proofs.group.write_data.Goals as goal

pub loop-k-init : goal.loop-k-init
loop-k-init g c = record {
  calls = each_none;
  room = record { written = λ k below. absurd (omega arith); head = omega arith; rest = λ line above. omega arith };
  lines = refl;
  faults = refl;
  device = refl;
}

pub returns-in_err-write_line-clause-calls : goal.returns-in_err-write_line-clause-calls
returns-in_err-write_line-clause-calls g c =
    calls_failed _ c.from_residual.ensures.0
    (failed_lines_more c.args.bytes.now c.loop-k.k _
    (data_line-cut c.args.bytes.now c.loop-k.k c.min-end.result (omega arith) c.min-end.ensures) (omega arith)
    c.loop-k.invariant.calls c.in_err-write_line.ensures.calls.failed)

pub loop-k-preserved : goal.loop-k-preserved
loop-k-preserved g c = record {
  calls =
      each_lines_more c.args.bytes.now c.loop-k.k _
      (data_line-cut c.args.bytes.now c.loop-k.k c.min-end.result (omega arith) c.min-end.ensures)
      c.loop-k.invariant.calls c.in_ok-write_line.ensures.calls.well;
  room = writes_lines_more c.loop-k.k c.loop-k.invariant.room c.in_ok-write_line.ensures.room c.in_ok-write_line.ensures.flushed;
  lines = c.in_ok-write_line.ensures.room.lines ∙ c.loop-k.invariant.lines;
  faults = c.in_ok-write_line.ensures.cause ∙ c.loop-k.invariant.faults;
  device = c.in_ok-write_line.ensures.device ∙ c.loop-k.invariant.device;
}

pub returns-clause-calls : goal.returns-clause-calls
returns-clause-calls g c = all_well _ (each_data c.args.bytes.now c.loop-k.k (omega arith) c.loop-k.invariant.calls)
