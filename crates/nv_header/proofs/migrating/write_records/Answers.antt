use Rattle.std.proofs.Common.{◌≡◌, ℕ, ◌+◌, ◌<◌, List, [], length, slice_index_or, refl, ap, ◌∙◌, subst, arith}
use Rattle.std.proofs.lemmas.List.{get_or_default}
use Rattle.nv_plain.specs.Layouts.{version_2}
use Rattle.nv_pmem.specs.Steps.{DidLineStep, DidSome}
use Rattle.nv_pmem.proofs.StepLaws.{did_some_all}
use Rattle.nv_header.specs.HeaderSteps.{record_lines_steps}
use Rattle.nv_header.specs.Heads.{record_line}
use Rattle.nv_header.proofs.NotedLaws.{notes_none, notes_more}
use Rattle.nv_header.proofs.RecordsSteps.{records_none, records_more, records_some_more, records_all}
use Rattle.nv_header.proofs.migrating.write_records.Goals as goal

-- the name that a record is written of
item_is : (names items : List (List ℕ)) (i : ℕ) (item name : List ℕ) → i < length items → items ≡ names → item ≡ slice_index_or items i item → name ≡ item → name ≡ slice_index_or names i []
item_is names items i item name inside items_are at is =
    is ∙ at ∙ get_or_default items i item [] inside ∙ ap (λ these. slice_index_or these i []) items_are

pub loop-index-init : goal.loop-index-init
loop-index-init g c = record { did = records_none c.args.names.now _; room = notes_none _ _; faults = refl; device = refl }

pub returns-in_err-write_record-clause-begun : goal.returns-in_err-write_record-clause-begun
returns-in_err-write_record-clause-begun g c =
    let Named : List ℕ → Type 0 = λ name. DidSome (record_lines_steps version_2 c.loop-index.index name) (g.L.Lines.history c.loop-index.header) (g.L.Lines.history c.write_record.new.header) in
    records_some_more c.args.names.now c.loop-index.index (omega (arith, ap length c.as_slice-names.ensures)) c.loop-index.invariant.did
    (subst Named (item_is c.args.names.now c.as_slice-names.result.now c.loop-index.index _ c.as_slice.result.now (omega arith) c.as_slice-names.ensures c.index-names-index.is c.as_slice.ensures) c.write_record.ensures.begun)

pub loop-index-preserved : goal.loop-index-preserved
loop-index-preserved g c =
    let Named : List ℕ → Type 0 = λ name. DidLineStep (record_lines_steps version_2 c.loop-index.index name) (g.L.Lines.history c.loop-index.header) (g.L.Lines.history c.write_record.new.header) in record {
      did = records_more c.args.names.now c.loop-index.index c.loop-index.invariant.did (subst Named (item_is c.args.names.now c.as_slice-names.result.now c.loop-index.index _ c.as_slice.result.now (omega arith) c.as_slice-names.ensures c.index-names-index.is c.as_slice.ensures) c.in_ok-write_record.ensures.done);
      room =
          notes_more (record_line version_2 c.loop-index.index) (record_line version_2 (c.loop-index.index + 1)) (omega arith) c.loop-index.invariant.room
          c.in_ok-write_record.ensures.room;
      faults = c.in_ok-write_record.ensures.cause ∙ c.loop-index.invariant.faults;
      device = c.write_record.ensures.device ∙ c.loop-index.invariant.device;
    }

pub returns-clause-done : goal.returns-clause-done
returns-clause-done g c = records_all c.args.names.now c.loop-index.index (omega (arith, ap length c.as_slice-names.ensures)) c.loop-index.invariant.did

pub returns-clause-begun : goal.returns-clause-begun
returns-clause-begun g c = did_some_all (returns-clause-done g c)
