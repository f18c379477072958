use Rattle.std.proofs.Common.{◌≡◌, refl, ◌∙◌, arith}
use Rattle.std.proofs.lemmas.List.{with_items_is}
use Rattle.nv_store.specs.Disk.{disk_store}
use Rattle.nv_store.specs.Replaced.{replaced}
use Rattle.nv_store.proofs.StoreLaws.{whole_same}
use Rattle.nv_store.proofs.ImageLaws.{whole_replaced, all_are_first, replaced_in, replaced_is_image_with}
use Rattle.nv_store.proofs.disk.Disk.tear.Goals as goal

pub invariant_of-self : goal.invariant_of-self
invariant_of-self c =
    let disk = c.args.self.now in
    let store = disk_store disk in
    let now : c.tear.new.bytes ≡ replaced store.unsynced (λ i. 0xa5) store.seen =
    replaced_in (λ flags i. 0xa5) c.tear.ensures c.deref.ensures.value c.deref_mut.ensures.value in
    let back = with_items_is disk.seen c.tear.new.bytes (omega (arith, c.tear.auto.bytes, c.deref_mut.ensures.len)) in
    let first = all_are_first store disk.whole in
    record {
      whole =
          whole_same _ _ (back ∙ now) refl refl
          (whole_replaced store store.seen (λ i. 0xa5) store.unsynced disk.whole first disk.whole.flags (λ i inside. refl));
      span = disk.span;
      room = disk.room;
    }

pub returns : goal.returns
returns c =
    let disk = c.args.self.now in
    let store = disk_store disk in
    let now : c.tear.new.bytes ≡ replaced store.unsynced (λ i. 0xa5) store.seen =
    replaced_in (λ flags i. 0xa5) c.tear.ensures c.deref.ensures.value c.deref_mut.ensures.value in
    let back = with_items_is disk.seen c.tear.new.bytes (omega (arith, c.tear.auto.bytes, c.deref_mut.ensures.len)) in
    back ∙ now ∙ replaced_is_image_with store store.seen (λ i. 0xa5) disk.whole (all_are_first store disk.whole)
