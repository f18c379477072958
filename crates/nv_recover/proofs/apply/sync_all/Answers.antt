use Rattle.std.proofs.Common.{◌+◌, ◌<◌, List, length, map, get_or, slice_set, refl, sym, ◌∙◌, subst, arith}
use Rattle.std.proofs.Math.Seq.{map-set_same}
use Rattle.std.proofs.lemmas.List.{length-map}
use Rattle.nv_pmem.specs.Rows.{RowTells}
use Rattle.nv_pmem.proofs.ReadLaws.{faults_set_same}
use Rattle.nv_store.specs.Steps.{StoreHistory, Sync}
use Rattle.nv_recover.specs.Changes.{ThroughoutRow}
use Rattle.nv_recover.specs.Standing.{LeaveNoMore}
use Rattle.nv_recover.specs.Telling.{AllTell}
use Rattle.nv_recover.proofs.RowMoments.{rows_still, rows_one_more}
use Rattle.nv_recover.proofs.StoreRows.{RowSynced, row_unsynced, row_synced_more, row_synced_images, row_synced_seen, row_synced_all, row_goes_on, row_did_one, did_tells, quiet_on, synced_is_quiet}
use Rattle.nv_recover.proofs.apply.sync_all.Goals as goal

pub loop-store-init : goal.loop-store-init
loop-store-init g c =
    let row : List StoreHistory = map g.B.Backing.history c.args.stores.now in
    record {
      moments = rows_still row LeaveNoMore (row_synced_images g.B.Backing.history g.met.B.Backing.told_whole c.args.stores.now row 0 (row_unsynced row));
      synced = row_unsynced row;
      quiet = λ k d below. absurd (omega arith);
      tells = λ tell. tell;
      faults = refl;
      devices = refl;
    }

pub returns-in_err-sync-clause-moments : goal.returns-in_err-sync-clause-moments
returns-in_err-sync-clause-moments g c =
    let old : List StoreHistory = map g.B.Backing.history c.args.stores.now in
    let At : List StoreHistory → Type 0 = λ row. RowTells old (λ was. ThroughoutRow (LeaveNoMore was) old row) in
    subst At (sym (map-set_same g.B.Backing.history c.loop-store.stores c.loop-store.store-index c.sync.new.self c.store-item.result c.in_err-sync.ensures.failed))
    c.loop-store.invariant.moments

pub returns-in_err-sync-clause-seen : goal.returns-in_err-sync-clause-seen
returns-in_err-sync-clause-seen g c =
    let old : List StoreHistory = map g.B.Backing.history c.args.stores.now in
    let i = c.loop-store.store-index in
    let At : List StoreHistory → Type 0 = λ row. RowSynced i old row in
    row_synced_seen old (map g.B.Backing.history (slice_set c.loop-store.stores i c.sync.new.self)) i
    (subst At (sym (map-set_same g.B.Backing.history c.loop-store.stores i c.sync.new.self c.store-item.result c.in_err-sync.ensures.failed)) c.loop-store.invariant.synced)

pub returns-in_err-sync-clause-tells : goal.returns-in_err-sync-clause-tells
returns-in_err-sync-clause-tells g c =
    let Tell : List StoreHistory → Type 0 = λ row. AllTell (map g.B.Backing.history c.args.stores.now) → AllTell row in
    subst Tell (sym (map-set_same g.B.Backing.history c.loop-store.stores c.loop-store.store-index c.sync.new.self c.store-item.result c.in_err-sync.ensures.failed))
    c.loop-store.invariant.tells

pub returns-in_err-sync-clause-devices : goal.returns-in_err-sync-clause-devices
returns-in_err-sync-clause-devices g c =
    map-set_same g.B.Backing.device c.loop-store.stores c.loop-store.store-index c.sync.new.self c.store-item.result c.sync.ensures.device
    ∙ c.loop-store.invariant.devices

pub loop-store-preserved : goal.loop-store-preserved
loop-store-preserved g c =
    let old : List StoreHistory = map g.B.Backing.history c.args.stores.now in
    let stores = c.loop-store.stores in
    let i = c.loop-store.store-index in
    let inside : i < length stores = omega arith in
    let new : List StoreHistory = map g.B.Backing.history (slice_set stores i c.sync.new.self) in
    let synced =
    row_synced_more g.B.Backing.history old stores i c.store-item.result c.sync.new.self inside
    (omega (arith, c.loop-store.auto.stores, length-map c.args.stores.now g.B.Backing.history)) c.loop-store.invariant.tells
    c.in_ok-sync.ensures.done c.loop-store.invariant.synced in
    record {
      moments =
          rows_one_more old (map g.B.Backing.history stores) new LeaveNoMore c.loop-store.invariant.moments
          (row_did_one g.B.Backing.history stores i c.store-item.result c.sync.new.self inside Sync c.in_ok-sync.ensures.done)
          (row_synced_images g.B.Backing.history g.met.B.Backing.told_whole c.args.stores.now new (i + 1) synced);
      synced = synced;
      quiet = λ k d below. quiet_on g.B.Backing.history stores i k c.sync.new.self d inside below c.loop-store.invariant.quiet (synced_is_quiet (g.B.Backing.history (get_or stores i c.store-item.result)) (g.B.Backing.history c.sync.new.self) c.in_ok-sync.ensures.done);
      tells = λ tell.
          row_goes_on g.B.Backing.history stores i c.store-item.result c.sync.new.self inside
          (did_tells Sync (g.B.Backing.history (get_or stores i c.store-item.result)) (g.B.Backing.history c.sync.new.self) c.in_ok-sync.ensures.done)
          (c.loop-store.invariant.tells tell);
      faults =
          faults_set_same g.B.Backing.fault_count stores i c.sync.new.self c.store-item.result inside c.in_ok-sync.ensures.cause
          ∙ c.loop-store.invariant.faults;
      devices =
          map-set_same g.B.Backing.device stores i c.sync.new.self c.store-item.result c.sync.ensures.device
          ∙ c.loop-store.invariant.devices;
    }

pub returns-clause-synced : goal.returns-clause-synced
returns-clause-synced g c =
    row_synced_all (map g.B.Backing.history c.args.stores.now) (map g.B.Backing.history c.loop-store.stores) c.loop-store.store-index
    (omega (arith, length-map c.args.stores.now g.B.Backing.history)) c.loop-store.invariant.synced

pub returns-clause-seen : goal.returns-clause-seen
returns-clause-seen g c =
    row_synced_seen (map g.B.Backing.history c.args.stores.now) (map g.B.Backing.history c.loop-store.stores) c.loop-store.store-index c.loop-store.invariant.synced
