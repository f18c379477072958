use Rattle.std.proofs.Common.{◌≡◌, sym, ap, subst}
use Rattle.nv_store.specs.Store.{Store, quiet_store}
use Rattle.nv_store.specs.Images.{IsStoreImage}
use Rattle.nv_store.specs.Picked.{picked_image}
use Rattle.nv_store.specs.MemStore.{store_now}
use Rattle.nv_store.proofs.ImageLaws.{picked_is_image}
use Rattle.nv_store.proofs.mem_store.MemStore.image.Goals as goal

pub returns-clause-image : goal.returns-clause-image
returns-clause-image c =
    let store = store_now c.args.self.now in
    let now : store_now record { told = c.lose_power.new.self; fault_counter = c.args.self.now.fault_counter } ≡ quiet_store (picked_image store c.args.picker.now) = cc (c.lose_power.ensures.image) in
    subst (IsStoreImage store) (sym (ap (λ (s : Store). s.seen) now)) (picked_is_image store c.args.picker.now c.args.self.now.told.disk.whole)
