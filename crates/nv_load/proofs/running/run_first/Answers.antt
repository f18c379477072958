-- The first round comes behind none.
use Rattle.std.proofs.Common.{[], refl, sym, subst}
use Rattle.nv_runner.specs.Rounds.{IsNextRound}
use Rattle.nv_runner.proofs.ShiftLaws.{run_first}
use Rattle.nv_load.specs.Generated.{first_round}
use Rattle.nv_load.proofs.OwnerLaws.{first_next}
use Rattle.nv_load.proofs.RunLaws.{none_made}
use Rattle.nv_load.proofs.running.run_first.Goals as goal

pub returns-clause-ran : goal.returns-clause-ran
returns-clause-ran g c =
    c.run_owners.ensures.ran first_round [] c.in_ok-owners.ensures.shares (subst (λ n. IsNextRound n first_round []) (sym c.in_ok-owners.ensures.one) first_next)
    (run_first c.args.mount.now.fds c.args.batch [] c.args.zero.now refl c.requires.new)

pub returns-in_err-owners-clause-ran : goal.returns-in_err-owners-clause-ran
returns-in_err-owners-clause-ran g c =
    none_made c.args.mount.now.fds c.args.batch first_round [] c.args.zero.now c.args.counts.now c.from_residual.result c.from_residual.ensures.0 (run_first c.args.mount.now.fds c.args.batch [] c.args.zero.now refl c.requires.new)
