-- By the calls, the first of them first.
use Rattle.nv_runner.proofs.ListLaws.{made_mine, made_stand}
use Rattle.nv_runner.proofs.laws.made_calls_stand_in_order.Goals as goal

pub returns : goal.returns
returns c = record { mine = made_mine; stand = made_stand }
