-- Call for call.
use Rattle.nv_runner.proofs.histories.HistoryThreads.{descriptors_say_files, threads_are_legal}
use Rattle.nv_runner.proofs.laws.history_of_threads_is_legal.Goals as goal

pub returns : goal.returns
returns c = record { legal = threads_are_legal; files = descriptors_say_files }
