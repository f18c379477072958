use Rattle.std.proofs.Common.{◌∙◌, ap, ap₂, true, fold}
use Rattle.clap.specs.Simple.{app_of_fields}
use Rattle.clap.specs.Words.{App, with_rule}
use Rattle.nv_words.specs.Words.{option_names, option_rule, run_app}
use Rattle.nv_words.proofs.parser.run_parser.Goals as goal

pub returns : goal.returns
unfolding run_app
returns c =
    let first = c.in_ok-parser.ensures.shape c.noworker_arg.ensures.local ∙ ap₂ with_rule c.new.ensures.app c.noworker_arg.ensures.rule in
    let all = c.in_ok-parser-2.ensures ∙ ap (λ app. fold (λ app name. with_rule app (option_rule name)) app option_names) first in
    ap app_of_fields c.disable_help_flag.ensures ∙ ap (λ (app : App). record { top = record app.top { disable_help_flag = true }; subs = app.subs }) all
