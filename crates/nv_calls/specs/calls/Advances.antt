-- Advances: one step of a call that is made one step at a time.
use Rattle.std.specs.Prelude.{◌≡◌, ◌⊎◌, ℕ, ◌<◌, Option, Some, None, Err}
use Rattle.nv_table.specs.state.States.{PassState}
use Rattle.nv_op.specs.declared.kinds.Kind.{Kind}
use Rattle.nv_op.specs.Kinds.{kind_of_op}
use Rattle.nv_mirror.specs.declared.answers.Refusal.{Refusal}
use Rattle.nv_mirror.specs.PassSteps.{PassStep, HasTaken, either_of, fault_in, place_by}
use Rattle.nv_calls.specs.declared.progress.Progress.{Progress}
use Rattle.nv_calls.specs.declared.progress.Progress.TheVariants.{More, Ended}

-- What a call tells between two steps: the kind of its next step, where no device call before that fails; its place, once it has one; and the fault of a
-- device call before one of its steps, once there was one.
pub record Standing : Type 0 where
  pub kind : Kind
  pub place : Option ℕ
  pub fault : Option Refusal

-- Its pass has made one step, after the device calls that lie before it. It was of the kind that was said, where none of these has failed; the call has
-- had a fault where it had one before, or one of them has failed; and it has its place where it had one before, or took it by this step.
pub record IsOneStep (before after : Standing) (old new : PassState) : Type 0 where
  pub step : PassStep
  pub is : HasTaken step old new
  pub kind : fault_in step.works ≡ None → kind_of_op step.op ≡ before.kind
  pub fault : after.fault ≡ either_of before.fault (fault_in step.works)
  pub place : after.place ≡ either_of before.place (place_by step.op step.found)

-- It has made no step, since the call is refused by what it asks for; and its machine is as it was.
pub record IsNoStep {Machine : Type 0} (early : Option Refusal) (m next : Machine) (old new : PassState) (progress : Progress) : Type 0 where
  pub refusal : Refusal
  pub early_is : early ≡ Some refusal
  pub answer : progress ≡ Ended (Err refusal)
  pub stays : next ≡ m
  pub same : new ≡ old

-- An advance makes one step, or, where the call is refused before its first step, none.
abbrev pub IsOneOrNone : {Machine : Type 0} → (standing : Machine → Standing) → (early : Option Refusal) → (m next : Machine) → (old new : PassState) → Progress → Type 0
IsOneOrNone standing early m next old new progress = IsNoStep early m next old new progress ⊎ IsOneStep (standing m) (standing next) old new

-- A call that goes on has fewer steps before it.
abbrev pub IsFewer : {Machine : Type 0} → (measure : Machine → ℕ) → (m next : Machine) → Progress → Type 0
IsFewer measure m next More = measure next < measure m
IsFewer measure m next (Ended result) = Unit {0}
