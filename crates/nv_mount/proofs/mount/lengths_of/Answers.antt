use Rattle.std.proofs.Common.{◌<◌, length, ◌∙◌, arith}
use Rattle.std.proofs.Math.Seq.{map-set_same}
use Rattle.nv_pmem.proofs.ReadLaws.{faults_set_same}
use Rattle.nv_mount.proofs.AskLaws.{lengths_more}
use Rattle.nv_mount.proofs.mount.lengths_of.Goals as goal

pub returns-in_err-len-clause-histories : goal.returns-in_err-len-clause-histories
returns-in_err-len-clause-histories g c =
    map-set_same g.B.Backing.history c.loop-store.stores c.loop-store.store-index c.len.new.self c.store-item.result c.len.ensures.history
    ∙ c.loop-store.invariant.histories

pub returns-in_err-len-clause-devices : goal.returns-in_err-len-clause-devices
returns-in_err-len-clause-devices g c =
    map-set_same g.B.Backing.device c.loop-store.stores c.loop-store.store-index c.len.new.self c.store-item.result c.len.ensures.device
    ∙ c.loop-store.invariant.devices

pub returns-in_err-push-clause-histories : goal.returns-in_err-push-clause-histories
returns-in_err-push-clause-histories g c =
    map-set_same g.B.Backing.history c.loop-store.stores c.loop-store.store-index c.len.new.self c.store-item.result c.len.ensures.history
    ∙ c.loop-store.invariant.histories

pub returns-in_err-push-clause-devices : goal.returns-in_err-push-clause-devices
returns-in_err-push-clause-devices g c =
    map-set_same g.B.Backing.device c.loop-store.stores c.loop-store.store-index c.len.new.self c.store-item.result c.len.ensures.device
    ∙ c.loop-store.invariant.devices

pub loop-store-preserved : goal.loop-store-preserved
loop-store-preserved g c =
    let stores = c.loop-store.stores in
    let i = c.loop-store.store-index in
    let inside : i < length stores = omega arith in
    record {
      histories =
          map-set_same g.B.Backing.history stores i c.len.new.self c.store-item.result c.len.ensures.history
          ∙ c.loop-store.invariant.histories;
      devices =
          map-set_same g.B.Backing.device stores i c.len.new.self c.store-item.result c.len.ensures.device
          ∙ c.loop-store.invariant.devices;
      faults =
          map-set_same g.B.Backing.fault_count stores i c.len.new.self c.store-item.result c.in_ok-len.ensures.cause
          ∙ c.loop-store.invariant.faults;
      sum =
          faults_set_same g.B.Backing.fault_count stores i c.len.new.self c.store-item.result inside c.in_ok-len.ensures.cause
          ∙ c.loop-store.invariant.sum;
      count = omega (arith, c.loop-store.invariant.count, c.in_ok-push.ensures.len);
      told =
          rw c.in_ok-push.ensures.items
          (lengths_more g.B.Backing.history c.args.stores.now stores i c.store-item.result c.loop-store.lengths.items c.in_ok-len.field-0 inside
          c.loop-store.invariant.histories c.loop-store.invariant.told c.in_ok-len.ensures.len);
    }
