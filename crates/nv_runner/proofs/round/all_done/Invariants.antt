-- Those so far have done theirs.
use Rattle.std.proofs.Common.{◌≡◌, true, take}
use Rattle.std.specs.Prelude.{All}
use Rattle.nv_runner.proofs.round.all_done.Given as goal

abbrev pub invariant-loop-worker : goal.invariant-loop-worker
invariant-loop-worker g l = All (λ worker. worker.done ≡ true) (take l.worker-index l.workers)
