use Rattle.nv_top.proofs.LineLemmas.{region_lines}
use Rattle.nv_top.proofs.recovery.parts_have_lines.Goals as goal

pub returns : goal.returns
returns g c layout page entries now has are = region_lines g.L.Lines.history g.L.Lines.room g.met.L.Lines.told_lines layout page entries c.args.parts.now.items has now are
