use Rattle.std.proofs.Common.{◌++◌, map, take, drop, reverse, ap, ◌∙◌, refl, arith}
use Rattle.std.proofs.lemmas.List.{reverse-reverse}
use Rattle.nv_table.specs.declared.slot.Slot.TheVariants.{Part}
use Rattle.nv_table.proofs.state.MoveLaws.{none_yet, one_more}
use Rattle.nv_table.proofs.opening.put_parts.Goals as goal

pub loop-part-init : goal.loop-part-init
loop-part-init g c = record {
  moved = none_yet Part _ _ _ _ refl c.reverse.ensures.items;
  len = omega arith;
  places = omega arith;
  part_places = omega arith;
}

pub loop-part-preserved : goal.loop-part-preserved
loop-part-preserved g c = record {
  moved = one_more Part _ _ _ _ _ _ _ _ c.loop-part.invariant.moved (omega arith) c.take_last.ensures.items c.push_reserved.ensures.items;
  len = omega arith;
  places = omega arith;
  part_places = omega arith;
}

pub returns-clause-slots : goal.returns-clause-slots
returns-clause-slots g c =
    c.loop-part.invariant.moved.moved_are ∙ ap (λ many. c.args.slots.now.items ++ map Part (take many c.args.parts.now.items)) (omega arith)

pub returns-clause-parts : goal.returns-clause-parts
returns-clause-parts g c =
    c.reverse-2.ensures.items ∙ ap reverse c.loop-part.invariant.moved.left_are ∙ reverse-reverse (drop c.loop-part._part c.args.parts.now.items)
    ∙ ap (λ many. drop many c.args.parts.now.items) (omega arith)
