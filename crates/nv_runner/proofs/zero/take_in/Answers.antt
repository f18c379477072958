-- It stands first among those that pass 0 has taken in then.
use Rattle.std.proofs.Common.{◌∙◌}
use Rattle.nv_runner.proofs.PassLaws.{join_number, join_of, join_still, taken_first}
use Rattle.nv_runner.proofs.zero.take_in.Goals as goal

pub returns-clause-zero : goal.returns-clause-zero
returns-clause-zero g c =
    let old = c.args.zero.now in
    let new = c.join_pass.new.pass in
    let taken = c.join_pass.ensures.taken in
    record {
      board = join_of c.args.mount.now.board old c.args.other new taken c.requires.zero.board;
      number = join_number old c.args.other new taken ∙ c.requires.zero.number;
      idle = c.passes_stay_between_calls.ensures.join c.args.mount.now.board old c.args.other new c.requires.zero.board c.requires.board taken c.requires.zero.idle c.requires.idle;
    }

pub returns-clause-still : goal.returns-clause-still
returns-clause-still g c = join_still c.args.zero.now c.args.other c.join_pass.new.pass c.join_pass.ensures.taken

pub returns-clause-ended : goal.returns-clause-ended
returns-clause-ended g c = taken_first c.passes_are_left_alone.ensures.own c.args.zero.now c.args.other c.join_pass.new.pass c.sees_a_run.ensures.mount c.requires.idle c.join_pass.ensures.taken
