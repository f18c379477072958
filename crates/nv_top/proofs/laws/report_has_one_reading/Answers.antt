use Rattle.std.proofs.lemmas.Fmt.{decimal_injective}
use Rattle.nv_top.proofs.ReadingLemmas.{one_lives_reading, one_reading, one_recovery_reading}
use Rattle.nv_top.proofs.laws.report_has_one_reading.Goals as goal

pub returns-clause-lines : goal.returns-clause-lines
returns-clause-lines c = one_reading

pub returns-clause-lives : goal.returns-clause-lives
returns-clause-lives c = one_lives_reading

pub returns-clause-recoveries : goal.returns-clause-recoveries
returns-clause-recoveries c = one_recovery_reading

pub returns-clause-numbers : goal.returns-clause-numbers
returns-clause-numbers c = decimal_injective
