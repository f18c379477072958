use Rattle.std.proofs.Common.{map}
use Rattle.nv_pmem.proofs.ReadLaws.{only_read_none}
use Rattle.nv_recover.proofs.StandLaws.{alike_still, alike_synced, hold_synced}
use Rattle.nv_recover.proofs.recovering.replay.Goals as goal

pub returns-in_err-page-clause-read : goal.returns-in_err-page-clause-read
returns-in_err-page-clause-read g c = only_read_none g.L.Lines.history g.L.Lines.room g.L.Lines.device c.args.parts.now

pub returns-in_err-page-clause-moments : goal.returns-in_err-page-clause-moments
returns-in_err-page-clause-moments g c = alike_still (map g.L.Lines.history c.args.parts.now) (map g.B.Backing.history c.args.stores.now) c.requires.quiet

pub returns-in_err-sync_all-clause-moments : goal.returns-in_err-sync_all-clause-moments
returns-in_err-sync_all-clause-moments g c =
    alike_synced (map g.L.Lines.history c.args.parts.now) (map g.B.Backing.history c.args.stores.now) (map g.B.Backing.history c.write_groups.new.stores)
    (map g.B.Backing.history c.sync_all.new.stores) c.write_groups.ensures.tells c.write_groups.ensures.moments c.sync_all.ensures.moments

pub returns-clause-moments : goal.returns-clause-moments
returns-clause-moments g c =
    alike_synced (map g.L.Lines.history c.args.parts.now) (map g.B.Backing.history c.args.stores.now) (map g.B.Backing.history c.write_groups.new.stores)
    (map g.B.Backing.history c.sync_all.new.stores) c.write_groups.ensures.tells c.write_groups.ensures.moments c.sync_all.ensures.moments

pub returns-clause-done : goal.returns-clause-done
returns-clause-done g c =
    hold_synced (map g.L.Lines.history c.args.parts.now) (map g.B.Backing.history c.args.stores.now) (map g.B.Backing.history c.write_groups.new.stores)
    (map g.B.Backing.history c.sync_all.new.stores) c.write_groups.ensures.tells c.in_ok-write_groups.ensures.written c.in_ok-sync_all.ensures.synced
    c.sync_all.ensures.seen
