-- Each advance is one step more of the batch.
use Rattle.std.proofs.Common.{◌∙◌, sym, ap, subst}
use Rattle.nv_table.specs.state.Opened.{Opened}
use Rattle.nv_clean.specs.Answers.{IsCleanOver, IsTold}
use Rattle.nv_clean.specs.Cleaning.{CleanState, IsUnderWay}
use Rattle.nv_clean.proofs.NotedLaws.{told_on}
use Rattle.nv_clean.proofs.StoredLaws.{seen_stored, seen_tail}
use Rattle.nv_clean.proofs.OverLaws.{new_told, new_way, open_at, over_at, over_idle, over_low, over_told}
use Rattle.nv_clean.proofs.clean.run.Goals as goal

pub loop-machine-init : goal.loop-machine-init
loop-machine-init g c =
    let start = c.args.pass.now in (
      c.requires.board,
      c.requires.page,
      subst (λ (m : CleanState). IsUnderWay m start start) (sym c.new-machine.ensures) (new_way c.args.batch start c.requires.idle),
      subst (λ (m : CleanState). IsTold c.args.batch m start start) (sym c.new-machine.ensures) (new_told c.args.batch start),
    )

pub loop-machine-preserved : goal.loop-machine-preserved
loop-machine-preserved g c =
    let start = c.args.pass.now in
    let m = c.loop-machine.machine in
    let way = c.make_step.ensures.way start c.loop-machine.invariant.2 in (
      c.make_step.ensures.board,
      c.make_step.auto.piece ∙ c.loop-machine.invariant.1,
      way,
      told_on c.runs_are_sound.ensures.runs c.passes_are_left_alone.ensures.own c.args.batch m c.make_step.new.self start c.loop-machine.pass c.make_step.new.pass c.args.board.now.opened.sizes c.make_step.ensures.one
          (ap (λ (o : Opened). o.sizes) (sym c.requires.board.same_mount)) c.sees_a_run.ensures.mount c.loop-machine.invariant.2 way c.make_step.ensures.begun c.loop-machine.invariant.3
          (open_at m.control (sym c.is_over.ensures ∙ c.loop-machine-test.true)),
    )

pub answer-requires : goal.answer-requires
answer-requires g c =
    let m = c.loop-machine.machine in
    over_low c.runs_are_sound.ensures.runs c.passes_are_left_alone.ensures.own c.args.batch m c.args.pass.now c.loop-machine.pass c.sees_a_run.ensures.mount c.loop-machine.invariant.2 c.loop-machine.invariant.3
    (over_at m.control (sym c.is_over.ensures ∙ c.loop-machine-test.false))

pub returns-clause-idle : goal.returns-clause-idle
returns-clause-idle g c =
    let m = c.loop-machine.machine in
    over_idle c.runs_are_sound.ensures.runs m c.args.pass.now c.loop-machine.pass c.sees_a_run-2.ensures.mount c.sees_a_run-2.ensures.run c.loop-machine.invariant.2
    (over_at m.control (sym c.is_over.ensures ∙ c.loop-machine-test.false))

pub returns-clause-over : goal.returns-clause-over
returns-clause-over g c =
    let m = c.loop-machine.machine in
    subst (IsCleanOver c.args.batch c.args.pass.now c.loop-machine.pass) (sym c.answer.ensures)
    (over_told c.runs_are_sound.ensures.runs c.passes_are_left_alone.ensures.own c.args.batch m c.args.pass.now c.loop-machine.pass c.sees_a_run.ensures.mount c.loop-machine.invariant.2 c.loop-machine.invariant.3
    (over_at m.control (sym c.is_over.ensures ∙ c.loop-machine-test.false))
    (over_idle c.runs_are_sound.ensures.runs m c.args.pass.now c.loop-machine.pass c.sees_a_run-2.ensures.mount c.sees_a_run-2.ensures.run c.loop-machine.invariant.2 (over_at m.control (sym c.is_over.ensures ∙ c.loop-machine-test.false)))
    (seen_stored c.runs_are_sound.ensures.runs c.crashes_leave_whole_writes.ensures.runs c.crashes_leave_whole_writes.ensures.region c.runs_keep_the_log.ensures.runs c.loop-machine.pass.view c.sees_a_run-2.ensures.mount c.sees_a_run-2.ensures.run)
    (seen_tail c.runs_are_sound.ensures.runs c.crashes_leave_whole_writes.ensures.runs c.crashes_leave_whole_writes.ensures.region c.runs_keep_the_log.ensures.runs c.loop-machine.pass.view c.sees_a_run-2.ensures.mount c.sees_a_run-2.ensures.run))
