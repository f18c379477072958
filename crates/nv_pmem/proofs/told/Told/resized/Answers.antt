use Rattle.nv_pmem.proofs.MadeLaws.{padded_more}
use Rattle.nv_pmem.proofs.told.Told.resized.Goals as goal

pub loop-line-preserved : goal.loop-line-preserved
loop-line-preserved c =
    let more = padded_more c.args.self.now.lines.items c.args.count c.loop-line.line c.loop-line-test.true in
    cc (more, c.in_ok-push.ensures.items, c.line.ensures)
