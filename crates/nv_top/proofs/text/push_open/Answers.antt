use Rattle.std.proofs.Common.{◌≡◌, ◌++◌, ◌+◌, ◌∷◌, [], List, map, drop, ap, ◌∙◌, sym}
use Rattle.std.proofs.lemmas.List.{drop_all, append-nil}
use Rattle.nv_top.specs.Reports.{open_lines}
use Rattle.nv_top.specs.Outcomes.{fated_call}
use Rattle.nv_top.specs.declared.outcome.Fated.{Fated}
use Rattle.nv_look.proofs.TextLemmas.{drop-at, goes_on}
use Rattle.nv_top.proofs.text.push_open.Goals as goal

pub loop-o-preserved : goal.loop-o-preserved
loop-o-preserved c =
    let next : drop c.loop-o.o-index c.args.fated.now ≡ c.o-item.result ∷ drop (c.loop-o.o-index + 1) c.args.fated.now =
    drop-at c.args.fated.now c.loop-o.o-index c.o-item.result c.loop-o-test.true c.o-item.is in
    let lines : open_lines (map fated_call (drop c.loop-o.o-index c.args.fated.now))
    ≡ open_lines (map fated_call (c.o-item.result ∷ drop (c.loop-o.o-index + 1) c.args.fated.now)) =
    ap (λ (ps : List Fated). open_lines (map fated_call ps)) next in
    goes_on c.loop-o.text.items c.in_ok-open_line.field-0
    (open_lines (map fated_call (drop (c.loop-o.o-index + 1) c.args.fated.now)))
    (c.args.text.now.items ++ open_lines (map fated_call c.args.fated.now))
    c.push-in-loop-o.new.text.items c.in_ok-push.ensures
    (ap (λ l. c.loop-o.text.items ++ l) (ap (λ t. t ++ open_lines (map fated_call (drop (c.loop-o.o-index + 1) c.args.fated.now))) c.in_ok-open_line.ensures ∙ sym lines)
    ∙ c.loop-o.invariant)

pub returns : goal.returns
returns c =
    let done : drop c.loop-o.o-index c.args.fated.now ≡ [] = drop_all c.loop-o.o-index c.args.fated.now c.loop-o-test.false in
    let rest : open_lines (map fated_call (drop c.loop-o.o-index c.args.fated.now)) ≡ [] =
    ap (λ (ps : List Fated). open_lines (map fated_call ps)) done in
    sym (append-nil c.loop-o.text.items) ∙ ap (λ l. c.loop-o.text.items ++ l) (sym rest) ∙ c.loop-o.invariant
