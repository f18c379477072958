use Rattle.std.proofs.Common.{◌≡◌, fold, take}
use Rattle.clap.specs.Words.{app_of, with_rule}
use Rattle.nv_words.specs.Words.{option_rule}
use Rattle.nv_words.proofs.parser.with_options.Given as goal

abbrev pub invariant-loop-name : goal.invariant-loop-name
invariant-loop-name l = app_of l.parser ≡ fold (λ app name. with_rule app (option_rule name.now)) (app_of l.fn.parser) (take l.name-index l.names)
