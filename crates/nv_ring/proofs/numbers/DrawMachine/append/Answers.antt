-- It goes on with its first entry.
use Rattle.nv_ring.proofs.WaysLaws.{append_way}
use Rattle.nv_ring.proofs.numbers.DrawMachine.append.Goals as goal

pub returns-clause-way : goal.returns-clause-way
returns-clause-way c start now way = append_way c.args.self start now c.requires.drawn way
