-- Each batch comes behind those before it.
use Rattle.std.proofs.Common.{◌∙◌, rules}
use Rattle.std.specs.Prelude.{Some}
use Rattle.nv_runner.proofs.TryLaws.{batches_follow, on_both}
use Rattle.nv_runner.proofs.cleaning.clean_all.Goals as goal

pub returns-in_err-clean_one-clause-cleaned : goal.returns-in_err-clean_one-clause-cleaned
returns-in_err-clean_one-clause-cleaned g c =
    let so_far = c.loop.invariant in
    let more = c.clean_one.ensures.cleaned in
    record {
      left = more.left;
      later = record {
        number = more.later.number ∙ so_far.later.number;
        ended = more.later.ended ∙ so_far.later.ended;
        made = λ none. more.later.made (so_far.later.number ∙ none) ∙ so_far.later.made none;
      };
      spare = more.spare ∙ so_far.spare;
      kept = record { seen = more.kept.seen ∙ so_far.unplaced.seen; mine = more.kept.mine ∙ so_far.unplaced.mine };
      keeps = record { opens = more.keeps.opens ∙ so_far.keeps.opens; stays = λ seen. more.keeps.stays (so_far.keeps.stays seen) };
      on = on_both (Some c.args.batch) 0 0 c.args.pass.now c.loop.pass c.clean_one.new.pass so_far.later.number so_far.on more.on;
      batches = batches_follow (Some c.args.batch) c.args.pass.now c.loop.pass c.clean_one.new.pass so_far.batches more.batches;
    }

pub returns-then-not-branch-clause-cleaned : goal.returns-then-not-branch-clause-cleaned
returns-then-not-branch-clause-cleaned g c =
    let so_far = c.loop.invariant in
    let more = c.clean_one.ensures.cleaned in
    record {
      left = more.left;
      later = record {
        number = more.later.number ∙ so_far.later.number;
        ended = more.later.ended ∙ so_far.later.ended;
        made = λ none. more.later.made (so_far.later.number ∙ none) ∙ so_far.later.made none;
      };
      spare = more.spare ∙ so_far.spare;
      kept = record { seen = more.kept.seen ∙ so_far.unplaced.seen; mine = more.kept.mine ∙ so_far.unplaced.mine };
      keeps = record { opens = more.keeps.opens ∙ so_far.keeps.opens; stays = λ seen. more.keeps.stays (so_far.keeps.stays seen) };
      on = on_both (Some c.args.batch) 0 0 c.args.pass.now c.loop.pass c.clean_one.new.pass so_far.later.number so_far.on more.on;
      batches = batches_follow (Some c.args.batch) c.args.pass.now c.loop.pass c.clean_one.new.pass so_far.batches more.batches;
    }

pub loop-preserved : goal.loop-preserved
loop-preserved g c =
    let so_far = c.loop.invariant in
    let more = c.clean_one.ensures.cleaned in
    record {
      board = more.left.board_is;
      idle = more.left.idle;
      later = record {
        number = more.later.number ∙ so_far.later.number;
        ended = more.later.ended ∙ so_far.later.ended;
        made = λ none. more.later.made (so_far.later.number ∙ none) ∙ so_far.later.made none;
      };
      spare = more.spare ∙ so_far.spare;
      unplaced = record { seen = more.kept.seen ∙ so_far.unplaced.seen; mine = more.kept.mine ∙ so_far.unplaced.mine };
      keeps = record { opens = more.keeps.opens ∙ so_far.keeps.opens; stays = λ seen. more.keeps.stays (so_far.keeps.stays seen) };
      on = on_both (Some c.args.batch) 0 0 c.args.pass.now c.loop.pass c.clean_one.new.pass so_far.later.number so_far.on more.on;
      batches = batches_follow (Some c.args.batch) c.args.pass.now c.loop.pass c.clean_one.new.pass so_far.batches more.batches;
      taken = more.left.taken;
      alone = more.left.alone;
      next = search rules;
      finite = search rules;
    }
