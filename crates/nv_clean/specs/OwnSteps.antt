-- Own steps: the steps of one batch, among which there is no call's and no other batch's.
use Rattle.std.specs.Prelude.{◌≡◌, Bool, true, false, List, [], ◌∷◌, None}
use Rattle.nv_core.specs.state.Cleaner.{TakeCleaner}
use Rattle.nv_core.specs.steps.Ops.{Op, ByCleaner}
use Rattle.nv_mirror.specs.PassSteps.{PassStep}

-- a batch begins by the take of CLEANER
abbrev pub begins_batch : Op → Bool
begins_batch (ByCleaner (TakeCleaner most)) = true
begins_batch op = false

-- and each of its other steps is a cleaner's, and not that
abbrev pub comes_in_batch : Op → Bool
comes_in_batch (ByCleaner (TakeCleaner most)) = false
comes_in_batch (ByCleaner cleaner_op) = true
comes_in_batch op = false

-- a step may come in a batch behind these
abbrev pub is_own : (earlier : List PassStep) → Op → Bool
is_own [] op = begins_batch op
is_own (step ∷ earlier) op = comes_in_batch op

-- They are those of a batch, the last of them first: none of them begins a call.
abbrev pub AreOwn : List PassStep → Type 0
AreOwn [] = Unit {0}
AreOwn (step ∷ earlier) = (step.opens ≡ None) × (is_own earlier step.op ≡ true) × AreOwn earlier
