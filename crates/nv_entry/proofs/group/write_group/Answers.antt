-- The entries are written, and then the leader's commit word.
use Rattle.std.proofs.Common.{rules}
use Rattle.nv_pmem.proofs.CallLaws.{calls_failed, each_then, parts_began, parts_done}
use Rattle.nv_entry.specs.Group.{group_steps}
use Rattle.nv_entry.proofs.GroupLaws.{failed_written, all_written}
use Rattle.nv_entry.proofs.group.write_group.Goals as goal

pub returns-in_err-write_pieces-clause-calls : goal.returns-in_err-write_pieces-clause-calls
returns-in_err-write_pieces-clause-calls g c =
    calls_failed _ (search rules)
    (failed_written c.args.page c.args.first c.args.file c.args.at c.args.bytes.now c.requires.pieces c.in_err-write_pieces.ensures.calls.failed)

pub returns-in_err-write_pieces-clause-begun : goal.returns-in_err-write_pieces-clause-begun
returns-in_err-write_pieces-clause-begun g c =
    parts_began g.L.Lines.history g.L.Lines.room g.L.Lines.fault_count _ _ (returns-in_err-write_pieces-clause-calls g c)

pub returns-clause-calls : goal.returns-clause-calls
unfolding group_steps
returns-clause-calls g c =
    each_then (all_written c.args.page c.args.first c.args.file c.args.at c.args.bytes.now c.requires.pieces c.in_ok-write_pieces.ensures.calls.well) c.commit.ensures.calls

pub returns-clause-begun : goal.returns-clause-begun
returns-clause-begun g c = parts_began g.L.Lines.history g.L.Lines.room g.L.Lines.fault_count _ _ (returns-clause-calls g c)

pub returns-clause-done : goal.returns-clause-done
returns-clause-done g c = parts_done g.L.Lines.history g.L.Lines.room g.L.Lines.fault_count _ _ (returns-clause-calls g c)
