use Rattle.std.proofs.Common.{◌++◌, map, ap, ◌∙◌, refl, arith}
use Rattle.std.proofs.lemmas.List.{take_all}
use Rattle.nv_table.specs.declared.slot.Slot.TheVariants.{Page}
use Rattle.nv_table.proofs.state.MoveLaws.{none_yet, one_more}
use Rattle.nv_table.proofs.opening.put_buffers.Goals as goal

pub loop-page-init : goal.loop-page-init
loop-page-init g c = record {
  moved = none_yet Page _ _ _ _ refl c.reverse.ensures.items;
  len = omega arith;
  places = omega arith;
}

pub loop-page-preserved : goal.loop-page-preserved
loop-page-preserved g c = record {
  moved = one_more Page _ _ _ _ _ _ _ _ c.loop-page.invariant.moved (omega arith) c.take_last.ensures.items c.push_reserved.ensures.items;
  len = omega arith;
  places = omega arith;
}

pub returns : goal.returns
returns g c =
    c.loop-page.invariant.moved.moved_are ∙ ap (λ buffers. c.args.slots.now.items ++ map Page buffers)
    (take_all c.loop-page._page c.args.buffers.items (omega (arith, c.loop-page-test.false, c.len-page-end.ensures, c.reverse.ensures.len)))
