-- Each store shows its bytes, and none is changed.
use Rattle.std.proofs.Common.{◌≡◌, [], ◌∷◌, ◌++◌, map, take, slice_set, sym, ap, ◌∙◌, arith}
use Rattle.std.proofs.lemmas.List.{take_more, take_all}
use Rattle.nv_pmem.proofs.OneOfRow.{same_in_row, same_sum_in_row}
use Rattle.nv_store.proofs.RowReads.{all_seen, length_seen, shown_at}
use Rattle.nv_top.proofs.files.read_files.Given.{Over}
use Rattle.nv_top.proofs.files.read_files.Goals.{After-read_file}
use Rattle.nv_top.proofs.files.read_files.Goals as goal

-- what a read leaves of all stores
histories : (g : Over) (c : After-read_file g) → map g.B.Backing.history (slice_set c.loop-store.stores c.loop-store.store-index c.read_file.new.store) ≡ map g.B.Backing.history c.args.stores.now
histories g c =
    same_in_row g.B.Backing.history c.loop-store.stores c.loop-store.store-index c.store-item.result c.read_file.new.store c.store-item.result c.store-item.is
    (c.read_file.ensures.history ∙ ap g.B.Backing.history (sym c.store-item.is))
    ∙ c.loop-store.invariant.histories

pub loop-store-preserved : goal.loop-store-preserved
loop-store-preserved g c =
    let i = c.loop-store.store-index in
    let item = c.store-item.result in
    record {
      histories = histories g (goal.at.loop-store-preserved g c).After-read_file;
      faults =
          same_sum_in_row g.B.Backing.fault_count c.loop-store.stores i item c.read_file.new.store item (omega arith) c.store-item.is (c.in_ok-read_file.ensures.cause ∙ ap g.B.Backing.fault_count (sym c.store-item.is))
          ∙ c.loop-store.invariant.faults;
      count = omega (arith, c.loop-store.invariant.count, c.in_ok-push.ensures.items, c.in_ok-push.ensures.len);
      bytes = λ now are.
          let shown = shown_at g.B.Backing.history c.args.stores.now c.loop-store.stores i item now (λ seen. c.in_ok-read_file.field-0 ≡ seen) c.loop-store.invariant.histories are (omega arith) c.in_ok-read_file.ensures.bytes in
          c.in_ok-push.ensures.items
          ∙ ap (λ these. these ++ c.in_ok-read_file.field-0 ∷ []) (c.loop-store.invariant.bytes now are)
          ∙ ap (λ bytes. take i (all_seen now) ++ bytes ∷ []) shown
          ∙ sym (take_more (all_seen now) i [] (omega (arith, length_seen g.B.Backing.history c.args.stores.now now are)));
    }

pub returns-in_err-read_file-clause-histories : goal.returns-in_err-read_file-clause-histories
returns-in_err-read_file-clause-histories g c = histories g (goal.at.returns-in_err-read_file-clause-histories g c).After-read_file

pub returns-in_err-push-clause-histories : goal.returns-in_err-push-clause-histories
returns-in_err-push-clause-histories g c = histories g (goal.at.returns-in_err-push-clause-histories g c).After-read_file

pub returns-clause-bytes : goal.returns-clause-bytes
returns-clause-bytes g c = λ now are.
    c.loop-store.invariant.bytes now are ∙ take_all c.loop-store.store-index (all_seen now) (omega (arith, length_seen g.B.Backing.history c.args.stores.now now are))
