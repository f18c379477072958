use Rattle.std.proofs.Common.{◌≡◌, ◌-◌, false, length, take, drop, replicate, ap, ◌∙◌, rules, arith, length-take, length-drop}
use borrow.Rule.Slice.PartMut.{put_mid}
use Rattle.nv_store.proofs.Spans.{cleared, clear_already}
use Rattle.nv_store.proofs.disk.clear.Goals as goal

pub returns-then-from-end : goal.returns-then-from-end
returns-then-from-end c =
    let count = c.min-end.result - c.args.from in
    let len : length (take count (drop c.args.from c.args.flags.now)) ≡ count =
    simp (length-take, length-drop) (omega arith) in
    let filled : c.fill.new.self ≡ replicate count false =
    c.fill.ensures.after (λ y same. search rules) ∙ ap (λ n. replicate n false) len in
    ap (put_mid c.args.from count c.args.flags.now) filled
    ∙ cleared c.args.from c.args.to c.min-end.result c.args.flags.now c.requires (omega arith) c.if-from-end.true

pub returns-else-from-end : goal.returns-else-from-end
returns-else-from-end c = clear_already c.args.from c.args.to c.args.flags.now c.requires (omega arith)
