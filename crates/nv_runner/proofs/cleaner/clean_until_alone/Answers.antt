-- Each batch goes on behind those before it.
use Rattle.std.proofs.Common.{sym, subst, rules}
use Rattle.std.specs.Prelude.{Some}
use Rattle.nv_table.specs.state.States.{PassState}
use Rattle.nv_runner.specs.OpenWrites.{KeepsFaults}
use Rattle.nv_runner.specs.Runs.{GoesOn}
use Rattle.nv_runner.specs.Tries.{HasRunBatches}
use Rattle.nv_runner.proofs.OpenRunLaws.{cleaning_keeps}
use Rattle.nv_runner.proofs.TryLaws.{on_both}
use Rattle.nv_runner.proofs.cleaner.clean_until_alone.Goals as goal
use Rattle.nv_runner.proofs.cleaner.clean_until_alone.Goals.{in-None, in-Some+then-load-le1, in-Some+else-load-le1+in-Err}

pub loop-preserved-in-Ok : goal.loop-preserved-in-Ok
loop-preserved-in-Ok g c =
    let so_far = c.loop.invariant in
    let clean = c.try_clean.ensures in
    record {
      board = clean.board;
      idle = clean.idle;
      later = search rules;
      keeps = cleaning_keeps c.args.pass.now c.loop.pass c.try_clean.new.pass c.args.batch c.try_clean.result so_far.keeps clean.over;
      on = on_both (Some c.args.batch) 0 0 c.args.pass.now c.loop.pass c.try_clean.new.pass so_far.later.number so_far.on
          (c.tries_go_on.ensures.batches c.args.batch c.args.batch c.loop.pass c.try_clean.new.pass c.try_clean.result so_far.idle clean.idle clean.kept clean.over);
      batches = c.batches_come_one_by_one.ensures.follow (Some c.args.batch) c.args.pass.now c.loop.pass c.try_clean.new.pass so_far.batches
          (c.batches_come_one_by_one.ensures.one c.args.batch c.loop.pass c.try_clean.new.pass c.try_clean.result clean.over);
      unplaced = search rules;
      next = search rules;
      finite = search rules;
    }

pub loop-preserved : goal.loop-preserved
loop-preserved g c =
    let so_far = c.loop.invariant in
    let clean = c.try_clean.ensures in
    record {
      board = clean.board;
      idle = clean.idle;
      later = search rules;
      keeps = cleaning_keeps c.args.pass.now c.loop.pass c.try_clean.new.pass c.args.batch c.try_clean.result so_far.keeps clean.over;
      on = on_both (Some c.args.batch) 0 0 c.args.pass.now c.loop.pass c.try_clean.new.pass so_far.later.number so_far.on
          (c.tries_go_on.ensures.batches c.args.batch c.args.batch c.loop.pass c.try_clean.new.pass c.try_clean.result so_far.idle clean.idle clean.kept clean.over);
      batches = c.batches_come_one_by_one.ensures.follow (Some c.args.batch) c.args.pass.now c.loop.pass c.try_clean.new.pass so_far.batches
          (c.batches_come_one_by_one.ensures.one c.args.batch c.loop.pass c.try_clean.new.pass c.try_clean.result clean.over);
      unplaced = search rules;
      next = search rules;
      finite = search rules;
    }

pub returns-clause-on : goal.returns-clause-on
returns-clause-on g c =
    let so_far = c.loop.invariant in
    elim c.match-next.branch [
      | in-None w ↦ subst (λ (p : PassState). GoesOn (Some c.args.batch) 0 c.args.pass.now p) (sym w.pass-is) so_far.on
      | in-Some+then-load-le1 w ↦ subst (λ (p : PassState). GoesOn (Some c.args.batch) 0 c.args.pass.now p) (sym w.pass-is) so_far.on
      | in-Some+else-load-le1+in-Err w ↦
          (let clean = w.try_clean.ensures in
          subst (λ (p : PassState). GoesOn (Some c.args.batch) 0 c.args.pass.now p) (sym w.pass-is)
          (on_both (Some c.args.batch) 0 0 c.args.pass.now c.loop.pass w.try_clean.new.pass so_far.later.number so_far.on
          (c.tries_go_on.ensures.batches c.args.batch c.args.batch c.loop.pass w.try_clean.new.pass w.try_clean.result so_far.idle clean.idle clean.kept clean.over)))
    ]

pub returns-clause-keeps : goal.returns-clause-keeps
returns-clause-keeps g c =
    let so_far = c.loop.invariant in
    elim c.match-next.branch [
      | in-None w ↦ subst (λ (p : PassState). KeepsFaults c.args.pass.now p) (sym w.pass-is) so_far.keeps
      | in-Some+then-load-le1 w ↦ subst (λ (p : PassState). KeepsFaults c.args.pass.now p) (sym w.pass-is) so_far.keeps
      | in-Some+else-load-le1+in-Err w ↦ subst (λ (p : PassState). KeepsFaults c.args.pass.now p) (sym w.pass-is)
          (cleaning_keeps c.args.pass.now c.loop.pass w.try_clean.new.pass c.args.batch w.try_clean.result so_far.keeps w.try_clean.ensures.over)
    ]

pub returns-clause-batches : goal.returns-clause-batches
returns-clause-batches g c =
    let so_far = c.loop.invariant in
    elim c.match-next.branch [
      | in-None w ↦ subst (λ (p : PassState). HasRunBatches (Some c.args.batch) c.args.pass.now p) (sym w.pass-is) so_far.batches
      | in-Some+then-load-le1 w ↦ subst (λ (p : PassState). HasRunBatches (Some c.args.batch) c.args.pass.now p) (sym w.pass-is) so_far.batches
      | in-Some+else-load-le1+in-Err w ↦ subst (λ (p : PassState). HasRunBatches (Some c.args.batch) c.args.pass.now p) (sym w.pass-is)
          (c.batches_come_one_by_one.ensures.follow (Some c.args.batch) c.args.pass.now c.loop.pass w.try_clean.new.pass so_far.batches
          (c.batches_come_one_by_one.ensures.one c.args.batch c.loop.pass w.try_clean.new.pass w.try_clean.result w.try_clean.ensures.over))
    ]
