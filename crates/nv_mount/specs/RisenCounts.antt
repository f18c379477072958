-- Risen counts: what the devices of a mount that is closed tell of STOP.
use Rattle.std.specs.Prelude.{◌≡◌, ◌⊎◌, ℕ, ◌+◌, true, sum_by}
use Rattle.nv_core.specs.state.Passes.{IsOneOf}
use Rattle.nv_core.specs.state.Values.{faults_of}
use Rattle.nv_table.specs.state.Views.{Past, PassView, pass_of, past_pass}
use Rattle.nv_table.specs.state.States.{PassState}

-- pass 0, or one of those that it took in, has seen STOP as 1, or set it
abbrev pub SawStop : PassView → Type 0
SawStop view = ((pass_of view).stopped ≡ true) ⊎ ((past : Past) × IsOneOf view.ended past × ((past_pass view.opened past).stopped ≡ true))

-- how often the devices had failed when the mount was opened: those of its slots, and the parts that have none
abbrev pub failed_before : PassState → ℕ
failed_before pass = sum_by faults_of pass.view.opened.slots + sum_by faults_of pass.spare
