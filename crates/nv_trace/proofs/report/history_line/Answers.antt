use Rattle.std.proofs.Common.{arith}
use Rattle.std.proofs.lemmas.Grind.{common_steps}
use Rattle.nv_trace.specs.Report.{history_text}
use Rattle.nv_trace.proofs.report.history_line.Goals as goal

pub returns : goal.returns
unfolding history_text
returns c = grind (arith, common_steps)
