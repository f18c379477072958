use Rattle.std.proofs.Common.{get_or, refl, ◌∙◌, arith}
use Rattle.std.proofs.lemmas.List.{length-map}
use Rattle.std.proofs.lemmas.Result.{on_ok_weaker}
use Rattle.nv_plain.specs.Layouts.{layout_of}
use Rattle.nv_pmem.specs.Rows.{on_part}
use Rattle.nv_pmem.proofs.StepLaws.{did_did, did_did_some, did_some_front}
use Rattle.nv_header.specs.HeaderSteps.{blank_header_steps, format_steps}
use Rattle.nv_pmem.proofs.OneOfRow.{did_in_row, did_some_in_row, same_in_row}
use Rattle.nv_header.proofs.InRow.{roomy_part, has_parts_set}
use Rattle.nv_header.proofs.formatting.write_region.Goals as goal

pub write_header-requires : goal.write_header-requires
write_header-requires g c = record {
  room =
      roomy_part g.L.Lines.room (layout_of c.args.version) c.args.geometry.page c.args.geometry.entries c.clear_commit_words.new.parts 0 (get_or c.clear_commit_words.new.parts 0 c.index-parts-0.result) c.index-parts-0.result
      c.in_ok-clear_commit_words.ensures.parts (omega arith) refl;
}

pub returns-in_err-clear_commit_words-clause-begun : goal.returns-in_err-clear_commit_words-clause-begun
unfolding format_steps
returns-in_err-clear_commit_words-clause-begun g c =
    did_some_front (on_part 0 (blank_header_steps (layout_of c.args.version) c.args.geometry.page c.args.geometry.entries)) c.clear_commit_words.ensures.begun

pub returns-clause-begun : goal.returns-clause-begun
unfolding format_steps
returns-clause-begun g c =
    did_did_some c.in_ok-clear_commit_words.ensures.done
    (did_some_in_row g.L.Lines.history c.clear_commit_words.new.parts 0 (get_or c.clear_commit_words.new.parts 0 c.index-parts-0.result) c.write_header.new.header c.index-parts-0.result
    (omega (arith, c.in_ok-clear_commit_words.ensures.parts.count, length-map c.clear_commit_words.new.parts g.L.Lines.room))
    refl c.write_header.ensures.begun)

pub returns-clause-done : goal.returns-clause-done
unfolding format_steps
returns-clause-done g c =
    on_ok_weaker c.write_header.result
    (λ done. did_did c.in_ok-clear_commit_words.ensures.done
    (did_in_row g.L.Lines.history c.clear_commit_words.new.parts 0 (get_or c.clear_commit_words.new.parts 0 c.index-parts-0.result) c.write_header.new.header c.index-parts-0.result
    (omega (arith, c.in_ok-clear_commit_words.ensures.parts.count, length-map c.clear_commit_words.new.parts g.L.Lines.room))
    refl done))
    c.write_header.ensures.done

pub returns-clause-parts : goal.returns-clause-parts
returns-clause-parts g c =
    on_ok_weaker c.write_header.result
    (λ stays. has_parts_set g.L.Lines.room (layout_of c.args.version) c.args.geometry.page c.args.geometry.entries c.clear_commit_words.new.parts 0
    (get_or c.clear_commit_words.new.parts 0 c.index-parts-0.result) c.write_header.new.header c.index-parts-0.result
    (omega (arith, c.in_ok-clear_commit_words.ensures.parts.count, length-map c.clear_commit_words.new.parts g.L.Lines.room))
    refl stays c.in_ok-clear_commit_words.ensures.parts)
    c.write_header.ensures.room

pub returns-clause-lines : goal.returns-clause-lines
returns-clause-lines g c =
    same_in_row (λ part. (g.L.Lines.room part).lines) c.clear_commit_words.new.parts 0 (get_or c.clear_commit_words.new.parts 0 c.index-parts-0.result) c.write_header.new.header c.index-parts-0.result
    refl c.write_header.ensures.lines
    ∙ c.clear_commit_words.ensures.lines

pub returns-clause-devices : goal.returns-clause-devices
returns-clause-devices g c =
    same_in_row g.L.Lines.device c.clear_commit_words.new.parts 0 (get_or c.clear_commit_words.new.parts 0 c.index-parts-0.result) c.write_header.new.header c.index-parts-0.result
    refl c.write_header.ensures.device
    ∙ c.clear_commit_words.ensures.devices
