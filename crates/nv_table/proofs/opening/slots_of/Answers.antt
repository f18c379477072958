use Rattle.std.proofs.Common.{◌≡◌, List, [], ◌++◌, map, ap, ap₂, ◌∙◌, arith}
use Rattle.std.proofs.lemmas.List.{drop_all, take_all}
use Rattle.nv_table.specs.declared.slot.Slot.TheVariants.{Store, Page}
use Rattle.nv_table.proofs.opening.slots_of.Goals as goal

-- three lists that came one behind the other
three_joined : {X : Type 0} (none one two three first second more third : List X) → none ≡ [] → one ≡ none ++ first → two ≡ one ++ more → more ≡ second → three ≡ two ++ third
    → three ≡ first ++ second ++ third
three_joined none one two three first second more third empty came then all last =
    last ∙ ap (λ slots. slots ++ third) (then ∙ ap₂ (λ slots most. slots ++ most) (came ∙ ap (λ slots. slots ++ first) empty) all)

pub returns-clause-slots : goal.returns-clause-slots
returns-clause-slots g c = record {
  buffers = c.in-Ok.buffers.items;
  are_buffers = c.in-Ok.ensures;
  are = three_joined c.in-Ok-with_capacity.slots.items c.put_parts.new.slots.items c.put_stores.new.slots.items c.put_buffers.new.slots.items _ (map Store c.args.stores.items) _
      (map Page c.in-Ok.buffers.items) c.in-Ok-with_capacity.ensures.items c.put_parts.ensures.slots c.put_stores.ensures.slots
      (ap (map Store) (take_all c.args.layout.files c.args.stores.items (omega (arith, c.requires.stores)))) c.put_buffers.ensures;
}

pub returns-clause-stores : goal.returns-clause-stores
returns-clause-stores g c = c.put_stores.ensures.stores ∙ drop_all c.args.layout.files c.args.stores.items (omega (arith, c.requires.stores))
