use Rattle.std.proofs.Common.{◌≡◌, false, length, take, refl, sym, ap, subst, ◌∙◌, arith}
use Rattle.std.proofs.lemmas.List.{with_items_is, length-take, get_or-take}
use Rattle.nv_store.specs.Disk.{disk_store}
use Rattle.nv_store.specs.Picked.{redrawn, image_with}
use Rattle.nv_store.specs.Replaced.{replaced}
use Rattle.nv_store.specs.Spans.{LieWithin}
use Rattle.nv_store.proofs.Spans.{front_within}
use Rattle.nv_store.proofs.StoreLaws.{whole_same}
use Rattle.nv_store.proofs.ImageLaws.{whole_replaced, front_is_first, replaced_in, replaced_is_image_with}
use Rattle.nv_store.proofs.disk.Disk.cut.Goals as goal

pub invariant_of-self : goal.invariant_of-self
invariant_of-self c =
    let disk = c.args.self.now in
    let store = disk_store disk in
    let len = c.args.len in
    let other = redrawn store.unsynced c.args.picker.now in
    let now : c.redraw.new.bytes ≡ replaced store.unsynced other (take len store.seen) =
    replaced_in (λ flags. redrawn flags c.args.picker.now) c.redraw.ensures.bytes c.deref.ensures.value (c.deref_mut.ensures.value ∙ c.truncate.ensures.items) in
    let back = with_items_is c.truncate.new.self c.redraw.new.bytes (omega (arith, c.redraw.auto.bytes, c.deref_mut.ensures.len)) in
    let first = front_is_first store len disk.whole c.requires.durable c.requires.seen in
    record {
      whole =
          whole_same _ _ (back ∙ now) refl c.truncate-2.ensures.items
          (whole_replaced store (take len store.seen) other (take len store.unsynced) disk.whole first
          (omega (arith, length-take len store.unsynced, length-take len store.seen, disk.whole.flags))
          (λ i inside. get_or-take len store.unsynced i false (omega (arith, length-take len store.seen))));
      span = subst (LieWithin disk.from disk.to) (sym c.truncate-2.ensures.items) (front_within disk.from disk.to len store.unsynced disk.span);
      room = omega (arith, disk.room, c.truncate.ensures.len);
    }

pub returns-clause-seen : goal.returns-clause-seen
returns-clause-seen c =
    let disk = c.args.self.now in
    let store = disk_store disk in
    let len = c.args.len in
    let other = redrawn store.unsynced c.args.picker.now in
    let now : c.redraw.new.bytes ≡ replaced store.unsynced other (take len store.seen) =
    replaced_in (λ flags. redrawn flags c.args.picker.now) c.redraw.ensures.bytes c.deref.ensures.value (c.deref_mut.ensures.value ∙ c.truncate.ensures.items) in
    let back = with_items_is c.truncate.new.self c.redraw.new.bytes (omega (arith, c.redraw.auto.bytes, c.deref_mut.ensures.len)) in
    let first = front_is_first store len disk.whole c.requires.durable c.requires.seen in
    let all : length (take len store.seen) ≡ len = omega (arith, length-take len store.seen, c.requires.seen) in
    back ∙ now ∙ replaced_is_image_with store (take len store.seen) other disk.whole first ∙ ap (λ n. image_with store n other) all
