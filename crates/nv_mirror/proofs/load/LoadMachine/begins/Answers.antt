use Rattle.nv_mirror.proofs.LoadAnswerLaws.{run_begins}
use Rattle.nv_mirror.proofs.LoadWays.{load_begins}
use Rattle.nv_mirror.proofs.load.LoadMachine.begins.Goals as goal

pub returns-clause-run : goal.returns-clause-run
returns-clause-run c now control = run_begins c.args.self.now now control

pub returns-clause-way : goal.returns-clause-way
returns-clause-way c room start now fits control misses = load_begins c.args.self.now room start now fits control misses
