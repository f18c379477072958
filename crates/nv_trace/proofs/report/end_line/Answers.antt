use Rattle.std.proofs.Common.{arith}
use Rattle.std.proofs.lemmas.Grind.{common_steps}
use Rattle.nv_trace.specs.Report.{end_text}
use Rattle.nv_trace.proofs.report.end_line.Goals as goal

pub returns : goal.returns
unfolding end_text
returns c = grind (arith, common_steps)
