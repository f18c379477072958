use Rattle.std.proofs.Common.{◌∙◌, ap, map, rules, sym}
use Rattle.std.specs.Prelude.{string_bytes}
use Rattle.std.specs.Result.{result_ok}
use Rattle.clap.proofs.WalkLemmas.{list_any-map}
use Rattle.clap.specs.Words.{app_of, found_of, rows_of}
use Rattle.nv_words.specs.Words.{is_dashes, options_behind}
use Rattle.nv_words.proofs.WordLemmas.{none_dashes, none_refused, ok_found, taken}
use Rattle.nv_words.proofs.parser.parse_options.Goals as goal

pub returns-then-has_dashes-clause-usage : goal.returns-then-has_dashes-clause-usage
returns-then-has_dashes-clause-usage c = λ refused.
    none_dashes (app_of c.args.parser) (map string_bytes c.args.words.now) (sym (list_any-map is_dashes string_bytes c.args.words.now) ∙ sym c.has_dashes.ensures ∙ c.if-has_dashes.true)

pub returns-in_err-matches-clause-usage : goal.returns-in_err-matches-clause-usage
returns-in_err-matches-clause-usage c = λ refused.
    none_refused (app_of c.args.parser) (map string_bytes c.args.words.now) (c.parse_words.ensures.refused (search rules))

pub returns-clause-options : goal.returns-clause-options
returns-clause-options c =
    let app = app_of c.args.parser in
    let words = map string_bytes c.args.words.now in
    let dashes = sym (list_any-map is_dashes string_bytes c.args.words.now) ∙ sym c.has_dashes.ensures ∙ c.if-has_dashes.false in
    let said = taken app words (rows_of (found_of c.in_ok-matches.matches)) dashes c.in_ok-matches.ensures.taken.1 c.in_ok-matches.ensures.taken.0 in
    ok_found c.ok_or.result (options_behind app words) (said ∙ sym c.options_of.ensures ∙ c.ok_or.ensures.ok_part)

pub returns-clause-usage : goal.returns-clause-usage
returns-clause-usage c = λ refused.
    let app = app_of c.args.parser in
    let words = map string_bytes c.args.words.now in
    let dashes = sym (list_any-map is_dashes string_bytes c.args.words.now) ∙ sym c.has_dashes.ensures ∙ c.if-has_dashes.false in
    let said = taken app words (rows_of (found_of c.in_ok-matches.matches)) dashes c.in_ok-matches.ensures.taken.1 c.in_ok-matches.ensures.taken.0 in
    said ∙ sym c.options_of.ensures ∙ c.ok_or.ensures.ok_part ∙ ap result_ok refused
