use Rattle.std.proofs.Common.{arith}
use Rattle.std.proofs.lemmas.Grind.{common_steps}
use Rattle.nv_trace.specs.Report.{recovered_text}
use Rattle.nv_trace.proofs.report.recovered_line.Goals as goal

pub returns : goal.returns
unfolding recovered_text
returns c = grind (arith, common_steps)
