-- The second round comes behind the first.
use Rattle.std.proofs.Common.{sym, subst}
use Rattle.nv_runner.specs.Rounds.{IsNextRound}
use Rattle.nv_load.specs.Generated.{second_round}
use Rattle.nv_load.proofs.OwnerLaws.{second_next}
use Rattle.nv_load.proofs.RunLaws.{none_made}
use Rattle.nv_load.proofs.running.run_second.Goals as goal

pub returns-clause-ran : goal.returns-clause-ran
returns-clause-ran g c = λ before all run.
    c.run_owners.ensures.ran (second_round c.args.load) before c.in_ok-owners.ensures.shares
    (subst (λ n. IsNextRound n (second_round c.args.load) before) (sym c.in_ok-owners.ensures.many) (second_next c.args.load before all)) run

pub returns-in_err-owners-clause-ran : goal.returns-in_err-owners-clause-ran
returns-in_err-owners-clause-ran g c = λ before all run.
    none_made c.args.mount.now.fds c.args.batch (second_round c.args.load) before c.args.zero.now c.args.counts.now c.from_residual.result c.from_residual.ensures.0 run
