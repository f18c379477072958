-- Steps made: those of a pass since it began its last call, read off the run.
use Rattle.std.specs.Prelude.{ℕ, List, [], ◌∷◌, ◌++◌, Some, None}
use Rattle.nv_core.specs.steps.Events.{Act, BeginsCall, TakesStep, CallsDevice, Event, own}
use Rattle.nv_core.specs.steps.Order.{Work}
use Rattle.nv_mirror.specs.PassSteps.{PassStep}

-- some steps, the last of them first, and the device calls that came since
pub record StepsMade : Type 0 where
  pub steps : List PassStep
  pub works : List Work

-- and one act more: a step comes behind those device calls; one that begins a call is its first, and comes behind none
abbrev pub made_on : Act → StepsMade → StepsMade
made_on (BeginsCall call op found) made = record { steps = record { opens = Some call; works = []; op = op; found = found } ∷ []; works = [] }
made_on (TakesStep op found) made = record { steps = record { opens = None; works = made.works; op = op; found = found } ∷ made.steps; works = [] }
made_on (CallsDevice work) made = record { steps = made.steps; works = made.works ++ work ∷ [] }

abbrev pub made_by : List Event → StepsMade → StepsMade
made_by [] made = made
made_by (event ∷ later) made = made_by later (made_on event.act made)

-- those of a pass in a run
abbrev pub made_in : (number : ℕ) → (run : List Event) → StepsMade
made_in number run = made_by (own number run) (record { steps = []; works = [] })

abbrev pub steps_in : (number : ℕ) → (run : List Event) → List PassStep
steps_in number run = (made_in number run).steps
