use Rattle.std.proofs.Common.{arith}
use Rattle.nv_entry.proofs.PieceRanges.{piece_inside}
use Rattle.nv_entry.proofs.span.cut.Goals as goal

pub returns-clause-inside : goal.returns-clause-inside
returns-clause-inside c = omega (arith, piece_inside c.args.at c.args.len c.args.page c.args.i (omega (arith, c.requires.page.least)) c.requires.piece)
