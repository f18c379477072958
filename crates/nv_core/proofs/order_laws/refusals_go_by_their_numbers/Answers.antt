use Rattle.nv_core.proofs.steps.RefusalLaws.{refusals_are_exact, loads_are_kept, last_taken_first, lengths_are_exact, searches_end, batches_are_exact}
use Rattle.nv_core.proofs.order_laws.refusals_go_by_their_numbers.Goals as goal

pub returns : goal.returns
returns c = record { refusals = refusals_are_exact; loads = loads_are_kept; back = last_taken_first; lengths = lengths_are_exact; searches = searches_end; batches = batches_are_exact }
