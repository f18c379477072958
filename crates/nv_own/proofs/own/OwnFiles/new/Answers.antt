-- What the stores had is what the mount opened.
use Rattle.nv_own.proofs.OwnLaws.{tells_files}
use Rattle.nv_own.proofs.own.OwnFiles.new.Goals as goal

pub returns-clause-files : goal.returns-clause-files
returns-clause-files g c = tells_files c.args.first c.is_alone.ensures.board
