use Rattle.std.proofs.Common.{map, rules}
use Rattle.std.specs.Prelude.{string_bytes}
use Rattle.clap.specs.Words.{app_of}
use Rattle.nv_words.proofs.WordLemmas.{run_is_free, run_said, run_unsaid}
use Rattle.nv_words.proofs.parsing.parse_run.Goals as goal

pub parse_options-requires : goal.parse_options-requires
parse_options-requires c = run_is_free (app_of c.in_ok-parser.parser) c.in_ok-parser.ensures

pub returns-in_err-options-clause-usage : goal.returns-in_err-options-clause-usage
returns-in_err-options-clause-usage c = λ refused.
    run_unsaid (app_of c.in_ok-parser.parser) (map string_bytes c.args.words.now) c.in_ok-parser.ensures (c.parse_options.ensures.usage (search rules))

pub returns-clause-command : goal.returns-clause-command
returns-clause-command c =
    run_said (app_of c.in_ok-parser.parser) (map string_bytes c.args.words.now) c.in_ok-options.options c.in_ok-parser.ensures c.in_ok-options.ensures.options
