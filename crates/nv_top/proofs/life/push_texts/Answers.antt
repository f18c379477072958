use Rattle.std.proofs.Common.{◌≡◌, ◌++◌, ◌+◌, ◌∷◌, [], List, map, drop, ap, ◌∙◌, sym}
use Rattle.std.proofs.lemmas.List.{drop_all, append-nil}
use Rattle.nv_top.specs.LifeLines.{line_kept, texts_of}
use Rattle.nv_top.specs.declared.life.RefusedLine.{RefusedLine}
use Rattle.nv_look.proofs.TextLemmas.{drop-at, goes_on}
use Rattle.nv_top.proofs.life.push_texts.Goals as goal

pub loop-one-preserved : goal.loop-one-preserved
loop-one-preserved c =
    let next : drop c.loop-one.one-index c.args.lines.now ≡ c.one-item.result ∷ drop (c.loop-one.one-index + 1) c.args.lines.now =
    drop-at c.args.lines.now c.loop-one.one-index c.one-item.result c.loop-one-test.true c.one-item.is in
    let later = texts_of (map line_kept (drop (c.loop-one.one-index + 1) c.args.lines.now)) in
    goes_on c.loop-one.text.items c.one-item.result.text later (c.args.text.now.items ++ texts_of (map line_kept c.args.lines.now))
    c.push.new.text.items c.in_ok-push.ensures
    (ap (λ (ps : List RefusedLine). c.loop-one.text.items ++ texts_of (map line_kept ps)) (sym next) ∙ c.loop-one.invariant)

pub returns : goal.returns
returns c =
    let done : drop c.loop-one.one-index c.args.lines.now ≡ [] = drop_all c.loop-one.one-index c.args.lines.now c.loop-one-test.false in
    let rest : texts_of (map line_kept (drop c.loop-one.one-index c.args.lines.now)) ≡ [] =
    ap (λ (ps : List RefusedLine). texts_of (map line_kept ps)) done in
    sym (append-nil c.loop-one.text.items) ∙ ap (λ l. c.loop-one.text.items ++ l) (sym rest) ∙ c.loop-one.invariant
