use Rattle.std.proofs.Common.{◌∙◌, ◌++◌, ◌∷◌, [], sym}
use Rattle.nv_table.proofs.passes.BetweenLaws.{puts_more}
use Rattle.nv_table.proofs.seats.put_back.Goals as goal

pub loop-pass-preserved : goal.loop-pass-preserved
loop-pass-preserved g c =
    let before = c.loop-pass.invariant in
    let after = c.put_back_first.ensures in
    record {
      table = after.board.same_table ∙ sym c.requires.board.same_table;
      opened = after.board.same_mount ∙ sym c.requires.board.same_mount;
      still = after.still;
      spare = after.spare ∙ before.spare;
      back = (before.back.0 ++ after.back.0 ∷ [], puts_more before.back.0 after.back.0 c.args.pass.now.view c.loop-pass.pass.view c.put_back_first.new.pass.view before.back.1 after.back.1);
    }
