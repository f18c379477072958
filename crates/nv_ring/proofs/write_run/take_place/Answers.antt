-- It goes on with its call, step by step.
use Rattle.std.proofs.Common.{◌∙◌}
use Rattle.nv_mirror.proofs.AskedLaws.{asked_taken}
use Rattle.nv_ring.proofs.RunningLaws.{append_goes}
use Rattle.nv_ring.proofs.write_run.take_place.Goals as goal

pub returns-in_default-control : goal.returns-in_default-control
returns-in_default-control g c = record {
  board = c.step.ensures.board;
  asks = asked_taken c.step.ensures.one.step c.args.pass.now c.step.new.pass c.step.ensures.one.opens c.step.ensures.one.taken;
  way = λ call start before. append_goes c.args.append.now c.step.new.self c.args.pass.now c.step.new.pass call start c.step.ensures.one before.0 (c.step.ensures.way start before.1);
}

pub returns-clause-asks : goal.returns-clause-asks
returns-clause-asks g c =
    asked_taken c.step-2.ensures.one.step c.step.new.pass c.step-2.new.pass c.step-2.ensures.one.opens c.step-2.ensures.one.taken
    ∙ asked_taken c.step.ensures.one.step c.args.pass.now c.step.new.pass c.step.ensures.one.opens c.step.ensures.one.taken

pub returns-clause-way : goal.returns-clause-way
returns-clause-way g c call start before =
    let then_ = append_goes c.args.append.now c.step.new.self c.args.pass.now c.step.new.pass call start c.step.ensures.one before.0 (c.step.ensures.way start before.1) in
    append_goes c.step.new.self c.step-2.new.self c.step.new.pass c.step-2.new.pass call start c.step-2.ensures.one then_.0 (c.step-2.ensures.way start then_.1)
