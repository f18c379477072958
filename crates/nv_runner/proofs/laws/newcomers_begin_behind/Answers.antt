-- By the one step of pass 0.
use Rattle.nv_runner.proofs.NewcomerLaws.{joins_go_on, newcomers_are_unborn, newcomers_begin_behind, splits_go_on}
use Rattle.nv_runner.proofs.laws.newcomers_begin_behind.Goals as goal

pub returns : goal.returns
returns c = record { unborn = newcomers_are_unborn; behind = newcomers_begin_behind; splits = splits_go_on; joins = joins_go_on }
