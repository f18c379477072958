use Rattle.std.proofs.Common.{◌++◌, map, take, drop, reverse, ap, ◌∙◌, refl, arith}
use Rattle.std.proofs.lemmas.List.{reverse-reverse}
use Rattle.nv_table.specs.declared.slot.Slot.TheVariants.{Store}
use Rattle.nv_table.proofs.state.MoveLaws.{none_yet, one_more}
use Rattle.nv_table.proofs.opening.put_stores.Goals as goal

pub loop-store-init : goal.loop-store-init
loop-store-init g c = record {
  moved = none_yet Store _ _ _ _ refl c.reverse.ensures.items;
  len = omega arith;
  places = omega arith;
  store_places = omega arith;
}

pub loop-store-preserved : goal.loop-store-preserved
loop-store-preserved g c = record {
  moved = one_more Store _ _ _ _ _ _ _ _ c.loop-store.invariant.moved (omega arith) c.take_last.ensures.items c.push_reserved.ensures.items;
  len = omega arith;
  places = omega arith;
  store_places = omega arith;
}

pub returns-clause-slots : goal.returns-clause-slots
returns-clause-slots g c =
    c.loop-store.invariant.moved.moved_are ∙ ap (λ many. c.args.slots.now.items ++ map Store (take many c.args.stores.now.items)) (omega arith)

pub returns-clause-stores : goal.returns-clause-stores
returns-clause-stores g c =
    c.reverse-2.ensures.items ∙ ap reverse c.loop-store.invariant.moved.left_are ∙ reverse-reverse (drop c.loop-store._store c.args.stores.now.items)
    ∙ ap (λ many. drop many c.args.stores.now.items) (omega arith)
