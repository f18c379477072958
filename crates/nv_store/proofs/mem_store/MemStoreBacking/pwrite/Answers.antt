use Rattle.std.proofs.Common.{length, map, refl, inr}
use Rattle.nv_pmem.proofs.StepLaws.{did_one}
use Rattle.nv_store.specs.Disk.{disk_store}
use Rattle.nv_store.specs.Torn.{with_marks}
use Rattle.nv_store.specs.MemStore.{store_now}
use Rattle.nv_store.proofs.StoreLaws.{marks_are_torn}
use Rattle.nv_store.proofs.mem_store.MemStoreBacking.pwrite.Goals as goal

pub returns-then-is_err-clause-failed : goal.returns-then-is_err-clause-failed
returns-then-is_err-clause-failed c =
    let store = store_now c.args.self.now in
    let count = length c.args.bytes.now in
    inr (record {
      now = store;
      past = map disk_store c.args.self.now.told.past.states;
      told = refl;
      next = with_marks c.args.at count store;
      torn = marks_are_torn c.args.at count store;
      states = c.mark.ensures;
    })

pub returns-in-Ok-clause-done : goal.returns-in-Ok-clause-done
returns-in-Ok-clause-done c = did_one c.in-Ok.ensures.done
