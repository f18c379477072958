-- The numbers of those that pass 0 has taken in are the core's.
use Rattle.nv_runner.proofs.PassLaws.{distinct_taken}
use Rattle.nv_runner.proofs.rounds.run_rounds.Goals as goal

pub returns-clause-distinct : goal.returns-clause-distinct
returns-clause-distinct g c = distinct_taken c.run_all-result.new.zero.view c.sees_a_run.ensures.run (c.has_taken_in.ensures c.run_all-result.ensures.zero.number)
