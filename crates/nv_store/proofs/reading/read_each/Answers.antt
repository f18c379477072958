-- Each store shows its bytes, and none is changed.
use Rattle.std.proofs.Common.{◌≡◌, List, [], ◌∷◌, ◌++◌, map, take, slice_set, Vec, ℕ, sym, ap, ◌∙◌, arith}
use Rattle.std.proofs.lemmas.List.{map-append, take_more, take_all}
use Rattle.nv_pmem.proofs.OneOfRow.{same_in_row, same_sum_in_row}
use Rattle.nv_store.proofs.RowReads.{all_seen, length_seen, shown_at}
use Rattle.nv_store.proofs.reading.read_each.Given.{Over}
use Rattle.nv_store.proofs.reading.read_each.Goals.{After-read_all}
use Rattle.nv_store.proofs.reading.read_each.Goals as goal

-- what a read leaves of all stores
histories : (g : Over) (c : After-read_all g) → map g.B.Backing.history (slice_set c.loop-store.stores c.loop-store.store-index c.read_all.new.store) ≡ map g.B.Backing.history c.args.stores.now
histories g c =
    same_in_row g.B.Backing.history c.loop-store.stores c.loop-store.store-index c.store-item.result c.read_all.new.store c.store-item.result c.store-item.is
    (c.read_all.ensures.history ∙ ap g.B.Backing.history (sym c.store-item.is))
    ∙ c.loop-store.invariant.histories

devices : (g : Over) (c : After-read_all g) → map g.B.Backing.device (slice_set c.loop-store.stores c.loop-store.store-index c.read_all.new.store) ≡ map g.B.Backing.device c.args.stores.now
devices g c =
    same_in_row g.B.Backing.device c.loop-store.stores c.loop-store.store-index c.store-item.result c.read_all.new.store c.store-item.result c.store-item.is
    (c.read_all.ensures.device ∙ ap g.B.Backing.device (sym c.store-item.is))
    ∙ c.loop-store.invariant.devices

pub loop-store-preserved : goal.loop-store-preserved
loop-store-preserved g c =
    let i = c.loop-store.store-index in
    let item = c.store-item.result in
    let after = (goal.at.loop-store-preserved g c).After-read_all in
    record {
      histories = histories g after;
      devices = devices g after;
      faults =
          same_sum_in_row g.B.Backing.fault_count c.loop-store.stores i item c.read_all.new.store item (omega arith) c.store-item.is (c.in_ok-read_all.ensures.cause ∙ ap g.B.Backing.fault_count (sym c.store-item.is))
          ∙ c.loop-store.invariant.faults;
      count = omega (arith, c.loop-store.invariant.count, c.in_ok-push.ensures.items, c.in_ok-push.ensures.len);
      bytes = λ now are.
          let read : List ℕ = c.in_ok-read_all.field-0.items in
          let shown = shown_at g.B.Backing.history c.args.stores.now c.loop-store.stores i item now (λ seen. read ≡ seen) c.loop-store.invariant.histories are (omega arith) c.in_ok-read_all.ensures.bytes in
          let Bytes = Vec ℕ Rattle.std.proofs.Common.Global in
          ap (λ (these : List Bytes). map (λ (bytes : Bytes). bytes.items) these) c.in_ok-push.ensures.items
          ∙ map-append (λ (bytes : Bytes). bytes.items) c.loop-store.all.items (c.in_ok-read_all.field-0 ∷ [])
          ∙ ap (λ these. these ++ read ∷ []) (c.loop-store.invariant.bytes now are)
          ∙ ap (λ bytes. take i (all_seen now) ++ bytes ∷ []) shown
          ∙ sym (take_more (all_seen now) i [] (omega (arith, length_seen g.B.Backing.history c.args.stores.now now are)));
    }

pub returns-in_err-read_all-clause-histories : goal.returns-in_err-read_all-clause-histories
returns-in_err-read_all-clause-histories g c = histories g (goal.at.returns-in_err-read_all-clause-histories g c).After-read_all

pub returns-in_err-read_all-clause-devices : goal.returns-in_err-read_all-clause-devices
returns-in_err-read_all-clause-devices g c = devices g (goal.at.returns-in_err-read_all-clause-devices g c).After-read_all

pub returns-in_err-push-clause-histories : goal.returns-in_err-push-clause-histories
returns-in_err-push-clause-histories g c = histories g (goal.at.returns-in_err-push-clause-histories g c).After-read_all

pub returns-in_err-push-clause-devices : goal.returns-in_err-push-clause-devices
returns-in_err-push-clause-devices g c = devices g (goal.at.returns-in_err-push-clause-devices g c).After-read_all

pub returns-clause-bytes : goal.returns-clause-bytes
returns-clause-bytes g c = λ now are.
    c.loop-store.invariant.bytes now are ∙ take_all c.loop-store.store-index (all_seen now) (omega (arith, length_seen g.B.Backing.history c.args.stores.now now are))
