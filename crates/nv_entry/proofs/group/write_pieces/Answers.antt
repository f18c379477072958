-- One entry more, by the part at hand.
use Rattle.std.proofs.Common.{◌≡◌, ℕ, ◌<◌, length, get_or, map, refl, subst, ◌∙◌, arith}
use Rattle.std.proofs.lemmas.List.Elements.{All-set}
use Rattle.nv_pmem.specs.Calls.{EachEnded, EndedWell, OnOne, seen_of}
use Rattle.nv_pmem.proofs.CallLaws.{each_in_row, failed_in_row, all_well, calls_failed}
use Rattle.nv_pmem.proofs.OneOfRow.{same_in_row, same_sum_in_row}
use Rattle.nv_entry.specs.Group.{IsReady, piece_steps, pieces_steps}
use Rattle.nv_entry.proofs.GroupSteps.{each_no_pieces, each_pieces_more, failed_pieces_more}
use Rattle.nv_entry.proofs.group.write_pieces.Goals as goal

pub loop-i-init : goal.loop-i-init
loop-i-init g c = record {
  calls = each_no_pieces c.args.page c.args.first c.args.file c.args.at c.args.bytes.now _;
  ready = c.requires.ready;
  lines = refl;
  faults = refl;
  devices = refl;
}

pub returns-in_err-write_piece-clause-calls : goal.returns-in_err-write_piece-clause-calls
returns-in_err-write_piece-clause-calls g c =
    let i = c.loop-i.i in
    let item = c.index-parts-i.result in
    let was = get_or c.loop-i.parts i item in
    calls_failed _ c.from_residual.ensures.0
    (failed_pieces_more c.args.page c.args.first c.args.file c.args.at c.args.bytes.now i (length c.args.parts.now) (omega arith) c.loop-i.invariant.calls
    (failed_in_row (seen_of g.L.Lines.history g.L.Lines.room g.L.Lines.fault_count) c.loop-i.parts i was c.write_piece.new.part item (omega arith) refl
    {steps = piece_steps c.args.page c.args.first c.args.file c.args.at c.args.bytes.now i} c.in_err-write_piece.ensures.calls.failed))

pub returns-in_err-write_piece-clause-lines : goal.returns-in_err-write_piece-clause-lines
returns-in_err-write_piece-clause-lines g c =
    let item = c.index-parts-i.result in
    same_in_row (λ part. (g.L.Lines.room part).lines) c.loop-i.parts c.loop-i.i (get_or c.loop-i.parts c.loop-i.i item) c.write_piece.new.part item
    refl c.write_piece.ensures.lines
    ∙ c.loop-i.invariant.lines

pub returns-in_err-write_piece-clause-devices : goal.returns-in_err-write_piece-clause-devices
returns-in_err-write_piece-clause-devices g c =
    let item = c.index-parts-i.result in
    same_in_row g.L.Lines.device c.loop-i.parts c.loop-i.i (get_or c.loop-i.parts c.loop-i.i item) c.write_piece.new.part item
    refl c.write_piece.ensures.device
    ∙ c.loop-i.invariant.devices

pub loop-i-preserved : goal.loop-i-preserved
loop-i-preserved g c =
    let i = c.loop-i.i in
    let bytes = c.args.bytes.now in
    let item = c.index-parts-i.result in
    let was = get_or c.loop-i.parts i item in
    let part = c.write_piece.new.part in
    let inside : i < length c.loop-i.parts = omega arith in
    let Ready = λ (part : g.row.L.Denot). IsReady c.args.page (g.L.Lines.room part) in
    record {
      calls =
          each_pieces_more c.args.page c.args.first c.args.file c.args.at bytes i c.loop-i.invariant.calls
          (each_in_row (seen_of g.L.Lines.history g.L.Lines.room g.L.Lines.fault_count) c.loop-i.parts i was part item inside refl {steps = piece_steps c.args.page c.args.first c.args.file c.args.at bytes i} c.in_ok-write_piece.ensures.calls.well);
      ready =
          All-set Ready c.loop-i.parts i part c.in_ok-write_piece.ensures.ready c.loop-i.invariant.ready;
      lines =
          same_in_row (λ part. (g.L.Lines.room part).lines) c.loop-i.parts i was part item refl c.write_piece.ensures.lines
          ∙ c.loop-i.invariant.lines;
      faults = same_sum_in_row g.L.Lines.fault_count c.loop-i.parts i was part item inside refl c.in_ok-write_piece.ensures.cause ∙ c.loop-i.invariant.faults;
      devices = same_in_row g.L.Lines.device c.loop-i.parts i was part item refl c.write_piece.ensures.device ∙ c.loop-i.invariant.devices;
    }

pub returns-clause-calls : goal.returns-clause-calls
returns-clause-calls g c =
    let seen = seen_of g.L.Lines.history g.L.Lines.room g.L.Lines.fault_count in
    let Ended : ℕ → Type 0 = λ count. EachEnded (OnOne EndedWell) (pieces_steps c.args.page c.args.first c.args.file c.args.at c.args.bytes.now count)
    (map seen c.args.parts.now) (map seen c.loop-i.parts) in
    let all : c.loop-i.i ≡ length c.args.parts.now = omega arith in
    all_well _ (subst Ended all c.loop-i.invariant.calls)
