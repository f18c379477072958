use Rattle.std.proofs.Common.{◌∙◌, ap, sym, [], List, ℕ, Bor, fold, get_or, arith}
use Rattle.std.proofs.lemmas.List.{take_all}
use Rattle.std.proofs.lemmas.List.Sums.{fold_more}
use Rattle.clap.specs.Words.{App, app_of, with_rule}
use Rattle.nv_words.specs.Words.{option_rule}
use Rattle.nv_words.proofs.WordLemmas.{named_added}
use Rattle.nv_words.proofs.parser.with_options.Goals as goal

pub loop-name-preserved : goal.loop-name-preserved
loop-name-preserved c =
    let also : App → Bor (List ℕ) → App = λ app name. with_rule app (option_rule name.now) in
    let none : Bor (List ℕ) = record { ref_ptr = (0, 0); now = [] } in
    let name = get_or c.args.names.now c.loop-name.name-index none in
    c.in_ok-parser.ensures ∙ ap (λ app. also app name) c.loop-name.invariant
    ∙ sym (fold_more also (app_of c.args.parser) c.args.names.now c.loop-name.name-index none (omega (arith, c.loop-name-test.true)))

pub returns : goal.returns
returns c =
    let all = take_all c.loop-name.name-index c.args.names.now c.loop-name-test.false in
    c.loop-name.invariant ∙ ap (λ names. fold (λ app name. with_rule app (option_rule name.now)) (app_of c.args.parser) names) all
    ∙ named_added (app_of c.args.parser) c.args.names.now
