use Rattle.clap.specs.Words.{app_of}
use Rattle.nv_words.proofs.WordLemmas.{free_is_simple}
use Rattle.nv_words.proofs.parser.parse_words.Goals as goal

pub returns-in-Ok-clause-taken : goal.returns-in-Ok-clause-taken
returns-in-Ok-clause-taken c =
    ((c.in-Ok.ensures.matches (free_is_simple (app_of c.args.parser) c.requires)).0, c.in-Ok.ensures.kinds c.requires)
