-- Both rounds are those of the load.
use Rattle.std.proofs.Common.{[], subst, append-nil}
use Rattle.nv_runner.specs.Shifts.{HasRun}
use Rattle.nv_runner.proofs.PassLaws.{still_on}
use Rattle.nv_load.proofs.RunLaws.{both_made, first_only}
use Rattle.nv_load.proofs.running.run_both.Goals as goal

pub returns-in_err-run_first-clause-ran : goal.returns-in_err-run_first-clause-ran
returns-in_err-run_first-clause-ran g c =
    first_only c.args.mount.now.fds c.args.batch c.args.load c.run_first.new.zero c.run_first.new.zero c.args.counts.now c.run_first.new.counts c.run_first.result c.from_residual.result c.from_residual.ensures.0
    c.run_first.ensures.ran c.requires.none

pub returns-clause-still : goal.returns-clause-still
returns-clause-still g c = still_on c.args.zero.now c.run_first.new.zero c.run_second.new.zero c.run_first.ensures.still c.run_second.ensures.still

pub returns-clause-ran : goal.returns-clause-ran
returns-clause-ran g c =
    let first = c.in_ok-run_first.ensures.ran in
    let fds = c.args.mount.now.fds in
    let run = subst (λ l. HasRun fds c.args.batch l c.run_first.new.zero) (append-nil first.made) first.ran.run in
    both_made fds c.args.batch c.args.load c.run_first.new.zero c.run_second.new.zero c.args.counts.now c.run_first.new.counts c.run_second.new.counts c.run_second.result first.made first.all first.ran
    (first.counted [] c.requires.none) (c.run_second.ensures.ran first.made first.all run)
