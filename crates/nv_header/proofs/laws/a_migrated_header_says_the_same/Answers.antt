use Rattle.nv_header.proofs.MigratedHeads.{either_says_the_same, either_is_read}
use Rattle.nv_header.proofs.laws.a_migrated_header_says_the_same.Goals as goal

pub returns : goal.returns
returns c = record { said = either_says_the_same; read = either_is_read }
