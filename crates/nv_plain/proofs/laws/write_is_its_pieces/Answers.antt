use Rattle.nv_plain.proofs.PieceLemmas.{with_pieces-pieces_of}
use Rattle.nv_plain.proofs.laws.write_is_its_pieces.Goals as goal

pub returns : goal.returns
returns c = with_pieces-pieces_of
