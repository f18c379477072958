use Rattle.std.proofs.Common.{◌∙◌, ap, map, sym}
use Rattle.std.specs.Prelude.{codes, string_bytes}
use Rattle.std.specs.Str.{bytes_eq}
use Rattle.nv_words.proofs.WordLemmas.{begun, begun_gen, begun_look, begun_run, begun_sched}
use Rattle.nv_words.proofs.parsing.parse_command.Goals as goal

pub returns-in-len1-up-clause-command : goal.returns-in-len1-up-clause-command
returns-in-len1-up-clause-command c =
    let text_is = ap (λ word. bytes_eq word (codes "run")) (c.as_str.ensures.value ∙ ap string_bytes c.first-item.is) in
    let is = begun c.args.words.now c.first-item.result (codes "run") c.in-len1-up.len_at_least (sym text_is ∙ sym c.eq.ensures ∙ c.if-eq.true) in
    rw (begun_run (map string_bytes c.args.words.now) _ is) c.parse_run.ensures.command

pub returns-in-len1-up-clause-usage : goal.returns-in-len1-up-clause-usage
returns-in-len1-up-clause-usage c refused =
    let text_is = ap (λ word. bytes_eq word (codes "run")) (c.as_str.ensures.value ∙ ap string_bytes c.first-item.is) in
    let is = begun c.args.words.now c.first-item.result (codes "run") c.in-len1-up.len_at_least (sym text_is ∙ sym c.eq.ensures ∙ c.if-eq.true) in
    begun_run (map string_bytes c.args.words.now) _ is ∙ c.parse_run.ensures.usage refused

pub returns-in-len1-up-2-clause-command : goal.returns-in-len1-up-2-clause-command
returns-in-len1-up-2-clause-command c =
    let text_is = ap (λ word. bytes_eq word (codes "sched")) (c.as_str-2.ensures.value ∙ ap string_bytes c.first-item-2.is) in
    let is = begun c.args.words.now c.first-item-2.result (codes "sched") c.in-len1-up.len_at_least (sym text_is ∙ sym c.eq-2.ensures ∙ c.if-eq-2.true) in
    rw (begun_sched (map string_bytes c.args.words.now) _ is) c.parse_sched.ensures.command

pub returns-in-len1-up-2-clause-usage : goal.returns-in-len1-up-2-clause-usage
returns-in-len1-up-2-clause-usage c refused =
    let text_is = ap (λ word. bytes_eq word (codes "sched")) (c.as_str-2.ensures.value ∙ ap string_bytes c.first-item-2.is) in
    let is = begun c.args.words.now c.first-item-2.result (codes "sched") c.in-len1-up.len_at_least (sym text_is ∙ sym c.eq-2.ensures ∙ c.if-eq-2.true) in
    begun_sched (map string_bytes c.args.words.now) _ is ∙ c.parse_sched.ensures.usage refused

pub returns-in-len1-up-3-clause-command : goal.returns-in-len1-up-3-clause-command
returns-in-len1-up-3-clause-command c =
    let text_is = ap (λ word. bytes_eq word (codes "look")) (c.as_str-3.ensures.value ∙ ap string_bytes c.first-item-3.is) in
    let is = begun c.args.words.now c.first-item-3.result (codes "look") c.in-len1-up.len_at_least (sym text_is ∙ sym c.eq-3.ensures ∙ c.if-eq-4.true) in
    rw (begun_look (map string_bytes c.args.words.now) _ is) c.parse_look.ensures.command

pub returns-in-len1-up-3-clause-usage : goal.returns-in-len1-up-3-clause-usage
returns-in-len1-up-3-clause-usage c refused =
    let text_is = ap (λ word. bytes_eq word (codes "look")) (c.as_str-3.ensures.value ∙ ap string_bytes c.first-item-3.is) in
    let is = begun c.args.words.now c.first-item-3.result (codes "look") c.in-len1-up.len_at_least (sym text_is ∙ sym c.eq-3.ensures ∙ c.if-eq-4.true) in
    begun_look (map string_bytes c.args.words.now) _ is ∙ c.parse_look.ensures.usage refused

pub returns-in-len1-up-4-clause-command : goal.returns-in-len1-up-4-clause-command
returns-in-len1-up-4-clause-command c =
    let text_is = ap (λ word. bytes_eq word (codes "gen")) (c.as_str-4.ensures.value ∙ ap string_bytes c.first-item-4.is) in
    let is = begun c.args.words.now c.first-item-4.result (codes "gen") c.in-len1-up.len_at_least (sym text_is ∙ sym c.eq-4.ensures ∙ c.if-eq-5.true) in
    rw (begun_gen (map string_bytes c.args.words.now) _ is) c.parse_load.ensures.command

pub returns-in-len1-up-4-clause-usage : goal.returns-in-len1-up-4-clause-usage
returns-in-len1-up-4-clause-usage c refused =
    let text_is = ap (λ word. bytes_eq word (codes "gen")) (c.as_str-4.ensures.value ∙ ap string_bytes c.first-item-4.is) in
    let is = begun c.args.words.now c.first-item-4.result (codes "gen") c.in-len1-up.len_at_least (sym text_is ∙ sym c.eq-4.ensures ∙ c.if-eq-5.true) in
    begun_gen (map string_bytes c.args.words.now) _ is ∙ c.parse_load.ensures.usage refused
