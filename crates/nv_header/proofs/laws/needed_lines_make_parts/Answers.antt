use Rattle.nv_header.proofs.NeededParts.{lines_make_parts}
use Rattle.nv_header.proofs.laws.needed_lines_make_parts.Goals as goal

pub returns : goal.returns
returns c = lines_make_parts
