use Rattle.std.proofs.lemmas.Result.{on_ok_weaker}
use Rattle.std.proofs.Common.{length}
use Rattle.nv_plain.specs.Images.{lines_for}
use Rattle.nv_pmem.proofs.CallLaws.{calls_failed, failed_front, each_then}
use Rattle.nv_entry.specs.Group.{entry_field_steps}
use Rattle.nv_entry.proofs.Rooms.{stays_ready}
use Rattle.nv_entry.proofs.group.write_entry.Goals as goal

pub returns-in_err-write_data-clause-calls : goal.returns-in_err-write_data-clause-calls
returns-in_err-write_data-clause-calls g c =
    calls_failed _ c.from_residual.ensures.0
    (failed_front (entry_field_steps c.args.head.file c.args.head.at c.args.head.size c.args.head.count c.args.head.leader) c.in_err-write_data.ensures.calls.failed)

pub returns-clause-calls : goal.returns-clause-calls
returns-clause-calls g c = each_then c.in_ok-write_data.ensures.calls.well c.write_head.ensures.calls

pub returns-clause-ready : goal.returns-clause-ready
returns-clause-ready g c =
    on_ok_weaker c.write_head.result (stays_ready (lines_for (length c.args.bytes.now)) c.in_ok-write_data.ensures.room) c.write_head.ensures.room
