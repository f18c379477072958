use Rattle.std.proofs.Common.{◌≡◌, ◌-◌, length, take, drop, ap, ◌∙◌, arith}
use borrow.Rule.Slice.PartMut.{put_mid}
use Rattle.nv_store.proofs.Spans.{settled, settled_already}
use Rattle.nv_store.proofs.disk.settle.Goals as goal

pub returns-then-from-end : goal.returns-then-from-end
returns-then-from-end c =
    let count = c.min-end.result - c.args.from in
    let copied : c.copy_from_slice.new.self ≡ take count (drop c.args.from c.args.source.now) = cc in
    ap (put_mid c.args.from count c.args.bytes.now) copied
    ∙ settled c.args.from c.args.to c.min-end.result c.args.bytes.now c.args.source.now c.requires.same c.requires.long (omega arith) c.if-from-end.true

pub returns-else-from-end : goal.returns-else-from-end
returns-else-from-end c = settled_already c.args.from c.args.to c.args.bytes.now c.args.source.now c.requires.same c.requires.long (omega arith)
