-- It gives back what its read holds.
use Rattle.nv_mirror.proofs.LoadWays.{load_back}
use Rattle.nv_mirror.proofs.load.LoadMachine.give_back.Goals as goal

pub returns-clause-way : goal.returns-clause-way
returns-clause-way c room start now way = load_back c.args.self room start now c.in-Refused.refusal c.in-Refused.is way
