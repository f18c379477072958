-- Runs, one behind another.
use Rattle.std.proofs.Common.{◌≡◌, List, [], ◌∷◌, ◌++◌, refl}
use Rattle.nv_core.specs.state.Words.{Sizes}
use Rattle.nv_core.specs.state.Core.{Core}
use Rattle.nv_core.specs.steps.Events.{Event, after_event, after_run, IsRun}

pub run_both : (sizes : Sizes) (core : Core) (one other : List Event) → IsRun sizes core one → IsRun sizes (after_run sizes core one) other → IsRun sizes core (one ++ other)
run_both sizes core [] other a b = b
run_both sizes core (event ∷ one) other a b = (a.0, run_both sizes (after_event sizes event core) one other a.1 b)

pub run_parts : (sizes : Sizes) (core : Core) (one other : List Event) → IsRun sizes core (one ++ other) → IsRun sizes core one × IsRun sizes (after_run sizes core one) other
run_parts sizes core [] other run = (tt, run)
run_parts sizes core (event ∷ one) other run = let parts = run_parts sizes (after_event sizes event core) one other run.1 in ((run.0, parts.0), parts.1)

pub after_parts : (sizes : Sizes) (core : Core) (one other : List Event) → after_run sizes core (one ++ other) ≡ after_run sizes (after_run sizes core one) other
after_parts sizes core [] other = refl
after_parts sizes core (event ∷ one) other = after_parts sizes (after_event sizes event core) one other
