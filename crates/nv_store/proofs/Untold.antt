-- A store that tells nothing has done each step.
use Rattle.std.proofs.Common.{[], ◌∷◌, refl}
use Rattle.nv_pmem.specs.Runs.{run}
use Rattle.nv_store.specs.Steps.{StoreStep, DidStoreStep}

pub did_untold : (step : StoreStep) → DidStoreStep (step ∷ []) [] []
unfolding run
did_untold step = record { states = refl }
