use Rattle.std.proofs.Common.{refl}
use Rattle.nv_core.proofs.walks.Walked.{walk_begins, read_is_walked, write_is_walked, fault_is_walked, search_is_walked, tries_are_walked}
use Rattle.nv_core.proofs.invariant_laws.walks_are_runs.Goals as goal

pub returns : goal.returns
returns c = record { mount = walk_begins; place = refl; words = refl; read = read_is_walked; write = write_is_walked; fault = fault_is_walked; search = search_is_walked; tries = tries_are_walked }
