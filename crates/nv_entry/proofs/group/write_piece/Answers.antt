-- The piece is cut, and its entry is written.
use Rattle.std.proofs.Common.{List, ap, ◌∙◌, subst}
use Rattle.std.proofs.lemmas.Result.{on_ok_weaker}
use Rattle.nv_pmem.specs.Calls.{PartCalls, seen_of}
use Rattle.nv_pmem.specs.Steps.{LineStep}
use Rattle.nv_pmem.proofs.CallLaws.{part_began, part_done}
use Rattle.nv_entry.specs.Group.{count_at}
use Rattle.nv_entry.proofs.GroupSteps.{piece_steps-from}
use Rattle.nv_entry.proofs.Rooms.{ready_still}
use Rattle.nv_entry.proofs.group.write_piece.Goals as goal

pub returns-clause-calls : goal.returns-clause-calls
returns-clause-calls g c =
    let i = c.args.i in
    let span = c.cut-span.result in
    let steps = piece_steps-from c.args.page c.args.first c.args.file c.args.at c.args.bytes.now i span.from span.size span.at c.group_count.result
    c.cut-span.ensures.from c.cut-span.ensures.size c.cut-span.ensures.at (c.group_count.ensures ∙ ap (λ n. count_at n i) c.piece_count.ensures) in
    let seen = seen_of g.L.Lines.history g.L.Lines.room g.L.Lines.fault_count in
    let One : List LineStep → Type 0 = λ these. PartCalls these (seen c.args.part.now) (seen c.write_entry.new.part) c.write_entry.result in
    subst One steps c.write_entry.ensures.calls

pub returns-clause-begun : goal.returns-clause-begun
returns-clause-begun g c = part_began (returns-clause-calls g c)

pub returns-clause-done : goal.returns-clause-done
returns-clause-done g c = part_done (returns-clause-calls g c)

pub returns-clause-ready : goal.returns-clause-ready
returns-clause-ready g c =
    on_ok_weaker c.write_entry.result
    (λ stays. ready_still c.args.page (g.L.Lines.room c.args.part.now) (g.L.Lines.room c.write_entry.new.part) c.write_entry.ensures.lines stays c.requires.ready)
    c.write_entry.ensures.ready
