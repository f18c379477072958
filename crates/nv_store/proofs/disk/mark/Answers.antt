use Rattle.std.proofs.Common.{◌≡◌, ◌-◌, true, length, take, drop, replicate, ap, ◌∙◌, rules, arith, length-take, length-drop}
use borrow.Rule.Slice.PartMut.{put_mid}
use Rattle.nv_store.proofs.Flags.{marked_filled, marked_outside}
use Rattle.nv_store.proofs.disk.mark.Goals as goal

pub returns-then-at-end : goal.returns-then-at-end
returns-then-at-end c =
    let count = c.min-end.result - c.args.at in
    let len : length (take count (drop c.args.at c.args.flags.now)) ≡ count =
    simp (length-take, length-drop) (omega arith) in
    let filled : c.fill.new.self ≡ replicate count true =
    c.fill.ensures.after (λ y same. search rules) ∙ ap (λ n. replicate n true) len in
    ap (put_mid c.args.at count c.args.flags.now) filled
    ∙ marked_filled c.args.at c.args.count c.min-end.result c.args.flags.now (omega arith) c.if-at-end.true

pub returns-else-at-end : goal.returns-else-at-end
returns-else-at-end c = marked_outside c.args.at c.args.count c.args.flags.now (omega arith)
