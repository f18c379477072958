use Rattle.std.proofs.Common.{◌≡◌, ◌++◌, ◌+◌, ◌∷◌, [], drop, ap, ◌∙◌, sym}
use Rattle.std.proofs.lemmas.List.{drop_all, append-nil}
use Rattle.nv_look.specs.Texts.{name_text, names_text}
use Rattle.nv_look.proofs.TextLemmas.{drop-at, goes_on}
use Rattle.nv_look.proofs.showing.push_names.Goals as goal

pub loop-i-preserved : goal.loop-i-preserved
loop-i-preserved c =
    let names = c.args.names.now in
    let i = c.loop-i.i in
    let name = c.index-names-i.result in
    let next : drop i names ≡ name ∷ drop (i + 1) names = drop-at names i name c.loop-i-test.true c.index-names-i.is in
    let rest = names_text (i + 1) (drop (i + 1) names) in
    goes_on c.loop-i.text.items (name_text i name) rest (c.args.text.now.items ++ names_text 0 names) c.push_name.new.text.items
    (c.in_ok-push_name.ensures ∙ ap (λ n. c.loop-i.text.items ++ name_text i n) c.as_slice.ensures)
    (ap (λ these. c.loop-i.text.items ++ names_text i these) (sym next) ∙ c.loop-i.invariant)

pub returns : goal.returns
returns c =
    let i = c.loop-i.i in
    let done : drop i c.args.names.now ≡ [] = drop_all i c.args.names.now c.loop-i-test.false in
    sym (append-nil c.loop-i.text.items) ∙ ap (λ these. c.loop-i.text.items ++ names_text i these) (sym done) ∙ c.loop-i.invariant
