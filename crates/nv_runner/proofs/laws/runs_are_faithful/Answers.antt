-- Field by field.
use Rattle.nv_runner.proofs.FaithfulLaws.{emptied_logs_go_on, files_are_of_the_history, runs_are_faithful}
use Rattle.nv_runner.proofs.KeptWholeLaws.{open_calls_are_kept_whole}
use Rattle.nv_runner.proofs.NumberLaws.{runs_are_numbered}
use Rattle.nv_runner.proofs.laws.runs_are_faithful.Goals as goal

pub returns : goal.returns
returns c = record { faithful = runs_are_faithful; numbers = runs_are_numbered; tails = emptied_logs_go_on; files = files_are_of_the_history; kept = open_calls_are_kept_whole }
