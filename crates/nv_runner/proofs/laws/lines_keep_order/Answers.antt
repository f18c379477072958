-- By how often each line is there.
use Rattle.nv_runner.proofs.LineLaws.{lines_tell_rounds, open_in_lines, refused_in_lines}
use Rattle.nv_runner.proofs.laws.lines_keep_order.Goals as goal

pub returns : goal.returns
returns c = record { rounds = lines_tell_rounds; refused = refused_in_lines; open_calls = open_in_lines }
