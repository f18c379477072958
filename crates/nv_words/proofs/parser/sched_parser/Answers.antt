use Rattle.std.proofs.Common.{◌∙◌, ap, true, fold}
use Rattle.clap.specs.Simple.{app_of_fields}
use Rattle.clap.specs.Words.{App, with_rule}
use Rattle.nv_words.specs.Words.{option_rule, sched_app, sched_names}
use Rattle.nv_words.proofs.parser.sched_parser.Goals as goal

pub returns : goal.returns
unfolding sched_app
returns c =
    let all = c.in_ok-parser.ensures ∙ ap (λ app. fold (λ app name. with_rule app (option_rule name)) app sched_names) c.new.ensures.app in
    ap app_of_fields c.disable_help_flag.ensures ∙ ap (λ (app : App). record { top = record app.top { disable_help_flag = true }; subs = app.subs }) all
