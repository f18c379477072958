use Rattle.std.proofs.Common.{◌<◌, ◌≤◌, length, subst, sym, ◌∙◌, arith}
use Rattle.std.proofs.lemmas.Grind.{common_steps}
use Rattle.nv_plain.specs.Pieces.{pages_touched}
use Rattle.nv_pmem.specs.MemPart.{part_room}
use Rattle.nv_pmem.specs.declared.mem_part.MemPart.{MemPart}
use Rattle.nv_device_tests.proofs.TestParts.{size_told, where_ok}
use Rattle.nv_device_tests.proofs.commits.committed_part.Goals as goal

pub returns-clause-size : goal.returns-clause-size
returns-clause-size c =
    let bytes = c.args.bytes.now in
    let parts = c.commit_group.new.parts in
    let inside : c.args.i < length parts.items = grind (arith, common_steps) in
    let below : c.args.i < pages_touched c.args.at (length bytes) 64 = omega (arith, c.requires.some, c.requires.pieces) in
    size_told 64 5 1 c.args.at bytes parts.items c.args.i c.remove.result c.remove.ensures.value inside below
    (where_ok c.commit_group.result (sym c.is_err.ensures.value ∙ c.if-is_err.false) (c.commit_group.ensures.holds c.in_ok-parts.ensures.uncommitted))

pub returns-clause-lines : goal.returns-clause-lines
returns-clause-lines c =
    let inside : c.args.i < length c.commit_group.new.parts.items = grind (arith, common_steps) in
    let ready = where_ok c.commit_group.result (sym c.is_err.ensures.value ∙ c.if-is_err.false) c.commit_group.ensures.ready c.args.i c.remove.result inside in
    let At : MemPart → Type 0 = λ part. 2 ≤ (part_room part).lines in
    subst At (sym c.remove.ensures.value) (omega (arith, ready.lines))
