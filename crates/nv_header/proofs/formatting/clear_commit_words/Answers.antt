use Rattle.std.proofs.Common.{get_or, ◌+◌, ◌<◌, length, refl, ◌∙◌, arith}
use Rattle.std.proofs.lemmas.List.{length-map}
use Rattle.nv_plain.specs.Layouts.{layout_of}
use Rattle.nv_pmem.specs.Steps.{durable_store}
use Rattle.nv_pmem.proofs.StepLaws.{did_some_all}
use Rattle.nv_header.proofs.Clearing.{cleared_none, cleared_more, cleared_some_more, cleared_all}
use Rattle.nv_pmem.proofs.OneOfRow.{did_in_row, did_some_in_row, same_in_row, same_sum_in_row}
use Rattle.nv_header.proofs.InRow.{roomy_part, has_parts_set, stays_settled, roomy_line_0}
use Rattle.nv_header.proofs.formatting.clear_commit_words.Goals as goal

pub loop-entry-init : goal.loop-entry-init
loop-entry-init g c = record { did = cleared_none _; parts = c.requires.parts; lines = refl; cause = refl; devices = refl }

pub store_durably-requires-clause-line : goal.store_durably-requires-clause-line
store_durably-requires-clause-line g c =
    (roomy_line_0 c.args.version c.args.geometry.page (1 + c.loop-entry.entry) _
    (roomy_part g.L.Lines.room (layout_of c.args.version) c.args.geometry.page c.args.geometry.entries c.loop-entry.parts (1 + c.loop-entry.entry) (get_or c.loop-entry.parts (1 + c.loop-entry.entry) c.index-parts-entry.result) c.index-parts-entry.result
    c.loop-entry.invariant.parts (omega arith) refl)).0

pub store_durably-requires-clause-spare : goal.store_durably-requires-clause-spare
store_durably-requires-clause-spare g c =
    (roomy_line_0 c.args.version c.args.geometry.page (1 + c.loop-entry.entry) _
    (roomy_part g.L.Lines.room (layout_of c.args.version) c.args.geometry.page c.args.geometry.entries c.loop-entry.parts (1 + c.loop-entry.entry) (get_or c.loop-entry.parts (1 + c.loop-entry.entry) c.index-parts-entry.result) c.index-parts-entry.result
    c.loop-entry.invariant.parts (omega arith) refl)).1

pub returns-in_err-store_durably-clause-begun : goal.returns-in_err-store_durably-clause-begun
returns-in_err-store_durably-clause-begun g c =
    cleared_some_more c.args.geometry.entries c.loop-entry.entry (1 + c.loop-entry.entry) refl (omega arith) c.loop-entry.invariant.did
    (did_some_in_row g.L.Lines.history c.loop-entry.parts (1 + c.loop-entry.entry) (get_or c.loop-entry.parts (1 + c.loop-entry.entry) c.index-parts-entry.result) c.store_durably.new.part c.index-parts-entry.result
    (omega (arith, c.loop-entry.invariant.parts.count, length-map c.loop-entry.parts g.L.Lines.room)) refl
    c.store_durably.ensures.begun)

pub returns-in_err-store_durably-clause-lines : goal.returns-in_err-store_durably-clause-lines
returns-in_err-store_durably-clause-lines g c =
    same_in_row (λ part. (g.L.Lines.room part).lines) c.loop-entry.parts (1 + c.loop-entry.entry) (get_or c.loop-entry.parts (1 + c.loop-entry.entry) c.index-parts-entry.result) c.store_durably.new.part c.index-parts-entry.result
    refl c.store_durably.ensures.room.lines
    ∙ c.loop-entry.invariant.lines

pub returns-in_err-store_durably-clause-devices : goal.returns-in_err-store_durably-clause-devices
returns-in_err-store_durably-clause-devices g c =
    same_in_row g.L.Lines.device c.loop-entry.parts (1 + c.loop-entry.entry) (get_or c.loop-entry.parts (1 + c.loop-entry.entry) c.index-parts-entry.result) c.store_durably.new.part c.index-parts-entry.result
    refl c.store_durably.ensures.device
    ∙ c.loop-entry.invariant.devices

pub loop-entry-preserved : goal.loop-entry-preserved
loop-entry-preserved g c =
    let i = 1 + c.loop-entry.entry in
    let parts = c.loop-entry.parts in
    let item = c.index-parts-entry.result in
    let was = get_or parts i item in
    let new = c.store_durably.new.part in
    let inside : i < length parts = omega (arith, c.loop-entry.invariant.parts.count, length-map c.loop-entry.parts g.L.Lines.room) in
    record {
      did =
          cleared_more c.loop-entry.entry i (c.loop-entry.entry + 1) refl refl c.loop-entry.invariant.did
          (did_in_row g.L.Lines.history parts i was new item {steps = durable_store 0 0 0} inside refl c.in_ok-store_durably.ensures.done);
      parts =
          has_parts_set g.L.Lines.room (layout_of c.args.version) c.args.geometry.page c.args.geometry.entries parts i was new item inside refl
          (stays_settled 1 0 c.store_durably.ensures.room c.in_ok-store_durably.ensures.settled) c.loop-entry.invariant.parts;
      lines = same_in_row (λ part. (g.L.Lines.room part).lines) parts i was new item refl c.store_durably.ensures.room.lines ∙ c.loop-entry.invariant.lines;
      cause = same_sum_in_row g.L.Lines.fault_count parts i was new item inside refl c.in_ok-store_durably.ensures.cause ∙ c.loop-entry.invariant.cause;
      devices = same_in_row g.L.Lines.device parts i was new item refl c.store_durably.ensures.device ∙ c.loop-entry.invariant.devices;
    }

pub returns-clause-done : goal.returns-clause-done
returns-clause-done g c = cleared_all c.args.geometry.entries c.loop-entry.entry (omega arith) c.loop-entry.invariant.did

pub returns-clause-begun : goal.returns-clause-begun
returns-clause-begun g c = did_some_all (returns-clause-done g c)
