-- One step more of the batch, or its end.
use Rattle.std.proofs.Common.{◌∙◌, sym, ap, subst}
use Rattle.nv_core.specs.steps.Opening.{IsMount}
use Rattle.nv_table.specs.state.Opened.{Opened, mount_of}
use Rattle.nv_table.specs.state.States.{BoardState}
use Rattle.nv_clean.specs.Answers.{IsCleanOver}
use Rattle.nv_clean.proofs.NotedLaws.{told_on}
use Rattle.nv_clean.proofs.StoredLaws.{seen_stored, seen_tail}
use Rattle.nv_clean.proofs.OverLaws.{open_at, over_at, over_idle, over_low, over_told}
use Rattle.nv_clean.proofs.batch.CleanMachine.advance.Goals as goal

pub answer-requires : goal.answer-requires
answer-requires g c =
    let most = c.requires.under_way.0 in
    let start = c.requires.under_way.1 in
    let way = c.requires.under_way.2.way in
    let m = c.args.self.now in
    let next = c.make_step.new.self in
    let mount = subst (λ (o : Opened). IsMount (mount_of o)) way.called.mount c.sees_a_run.ensures.mount in
    let same = ap (λ (b : BoardState). b.opened.sizes) c.board-board.ensures ∙ ap (λ (o : Opened). o.sizes) (sym c.requires.board.same_mount) ∙ ap (λ (o : Opened). o.sizes) way.called.mount in
    let way_new = c.make_step.ensures.way start way in
    over_low c.runs_are_sound.ensures.runs c.passes_are_left_alone.ensures.own most next start c.make_step.new.pass mount way_new
    (told_on c.runs_are_sound.ensures.runs c.passes_are_left_alone.ensures.own most m next start c.args.pass.now c.make_step.new.pass c.board-board.result.now.opened.sizes c.make_step.ensures.one same mount way way_new c.make_step.ensures.begun
    c.requires.under_way.2.told c.requires.open)
    (over_at next.control (sym c.is_over.ensures ∙ c.if-is_over.true))

pub returns-then-is_over-clause-goes : goal.returns-then-is_over-clause-goes
returns-then-is_over-clause-goes g c most start under_way =
    let way = under_way.way in
    let m = c.args.self.now in
    let next = c.make_step.new.self in
    let new = c.make_step.new.pass in
    let mount = subst (λ (o : Opened). IsMount (mount_of o)) way.called.mount c.sees_a_run.ensures.mount in
    let same = ap (λ (b : BoardState). b.opened.sizes) c.board-board.ensures ∙ ap (λ (o : Opened). o.sizes) (sym c.requires.board.same_mount) ∙ ap (λ (o : Opened). o.sizes) way.called.mount in
    let way_new = c.make_step.ensures.way start way in
    let over = over_at next.control (sym c.is_over.ensures ∙ c.if-is_over.true) in
    let idle = over_idle c.runs_are_sound.ensures.runs next start new c.sees_a_run-2.ensures.mount c.sees_a_run-2.ensures.run way_new over in record {
      idle = idle;
      later = way_new.called.later;
      spare = way_new.called.spare;
      kept = way_new.called.unplaced;
      over = subst (IsCleanOver most start new) (sym c.answer.ensures)
          (over_told c.runs_are_sound.ensures.runs c.passes_are_left_alone.ensures.own most next start new mount way_new
          (told_on c.runs_are_sound.ensures.runs c.passes_are_left_alone.ensures.own most m next start c.args.pass.now new c.board-board.result.now.opened.sizes c.make_step.ensures.one same mount way way_new c.make_step.ensures.begun
          under_way.told c.requires.open) over idle (seen_stored c.runs_are_sound.ensures.runs c.crashes_leave_whole_writes.ensures.runs c.crashes_leave_whole_writes.ensures.region c.runs_keep_the_log.ensures.runs new.view c.sees_a_run-2.ensures.mount c.sees_a_run-2.ensures.run)
          (seen_tail c.runs_are_sound.ensures.runs c.crashes_leave_whole_writes.ensures.runs c.crashes_leave_whole_writes.ensures.region c.runs_keep_the_log.ensures.runs new.view c.sees_a_run-2.ensures.mount c.sees_a_run-2.ensures.run));
    }

pub returns-else-is_over-clause-goes : goal.returns-else-is_over-clause-goes
returns-else-is_over-clause-goes g c most start under_way =
    let way = under_way.way in
    let m = c.args.self.now in
    let next = c.make_step.new.self in
    let mount = subst (λ (o : Opened). IsMount (mount_of o)) way.called.mount c.sees_a_run.ensures.mount in
    let same = ap (λ (b : BoardState). b.opened.sizes) c.board-board.ensures ∙ ap (λ (o : Opened). o.sizes) (sym c.requires.board.same_mount) ∙ ap (λ (o : Opened). o.sizes) way.called.mount in
    let way_new = c.make_step.ensures.way start way in (
      open_at next.control (sym c.is_over.ensures ∙ c.if-is_over.false),
      record {
        way = way_new;
        told = told_on c.runs_are_sound.ensures.runs c.passes_are_left_alone.ensures.own most m next start c.args.pass.now c.make_step.new.pass c.board-board.result.now.opened.sizes c.make_step.ensures.one same mount way way_new
            c.make_step.ensures.begun under_way.told c.requires.open;
      },
    )
