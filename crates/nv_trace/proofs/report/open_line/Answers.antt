use Rattle.std.proofs.Common.{arith}
use Rattle.std.proofs.lemmas.Grind.{common_steps}
use Rattle.nv_trace.specs.Report.{open_text}
use Rattle.nv_trace.proofs.report.open_line.Goals as goal

pub returns : goal.returns
unfolding open_text
returns c = grind (arith, common_steps)
