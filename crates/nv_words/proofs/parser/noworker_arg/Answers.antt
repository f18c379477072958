use Rattle.std.proofs.Common.{◌∙◌, ap, Some}
use Rattle.std.specs.Prelude.{codes}
use Rattle.clap.specs.Words.{Rule, rule_of}
use Rattle.clap.specs.declared.builder.action.ArgAction.TheVariants.{SetTrue}
use Rattle.clap.specs.declared.builder.arg.Arg.{Arg}
use Rattle.nv_words.proofs.parser.noworker_arg.Goals as goal

pub returns-clause-rule : goal.returns-clause-rule
returns-clause-rule c =
    let set : Arg → Arg = λ arg. record arg { action = Some SetTrue } in
    let flag : Rule → Rule = λ rule. record rule { long = Some (codes "noworker"); action = Some SetTrue } in
    ap rule_of (c.action.ensures ∙ ap set c.long.ensures) ∙ ap flag c.new.ensures.rule

pub returns-clause-local : goal.returns-clause-local
returns-clause-local c =
    let set : Arg → Arg = λ arg. record arg { action = Some SetTrue } in
    ap (λ (arg : Arg). arg.global) (c.action.ensures ∙ ap set c.long.ensures) ∙ c.new.ensures.optional.1
