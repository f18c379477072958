use Rattle.std.proofs.Common.{arith}
use Rattle.std.proofs.lemmas.Grind.{common_steps}
use Rattle.nv_trace.specs.Report.{file_text}
use Rattle.nv_trace.proofs.report.file_line.Goals as goal

pub returns : goal.returns
unfolding file_text
returns c = grind (arith, common_steps)
