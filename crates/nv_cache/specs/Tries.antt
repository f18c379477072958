-- Tries: what the tries of a search for a buffer found, told by their steps.
use Rattle.std.specs.Prelude.{◌≡◌, ◌≢◌, ℕ, zero, suc, ◌*◌, ◌%◌, ◌<◌, true, false, List, [], ◌∷◌, Option, Some, None}
use Rattle.nv_plain.specs.declared.call.FileCall.{FileCall}
use Rattle.nv_core.specs.invariant.ControlFacts.{IsPage}
use Rattle.nv_core.specs.state.Values.{ABuffer, buffers_in, bytes_in, lacks_buffer}
use Rattle.nv_core.specs.state.Words.{Sizes, HINT, PAGE}
use Rattle.nv_core.specs.steps.Ops.{Op, Load, Take, Give, Turn, Hint}
use Rattle.nv_table.specs.state.States.{PassState}
use Rattle.nv_table.specs.state.Views.{values_of}
use Rattle.nv_mirror.specs.PassSteps.{PassStep, HasMade, HasTaken}

-- a step that begins no call, and before which no device call lies
abbrev pub plain_step : Op → (found : ℕ) → PassStep
plain_step op found = record { opens = None; works = []; op = op; found = found }

-- ---- the steps of a try, the last of them first

-- HAND rises, and the HINT of the buffer that it was found at names a page, the victim
abbrev pub hinting : Sizes → (page hand victim : ℕ) → List PassStep
hinting sizes page hand victim = plain_step (Load (HINT (hand % sizes.buffers))) victim ∷ plain_step (Turn page) hand ∷ []

-- then the victim's lock is tried
abbrev pub trying : Sizes → (page hand victim lock : ℕ) → List PassStep
trying sizes page hand victim lock = plain_step (Take (PAGE victim)) lock ∷ hinting sizes page hand victim

-- and where it was free it is given back
abbrev pub robbing : Sizes → (page hand victim given : ℕ) → List PassStep
robbing sizes page hand victim given = plain_step (Give (PAGE victim)) given ∷ trying sizes page hand victim 0

-- ---- what a try found

-- A try found nothing: the page that its HINT names is one of the call's own; or its lock was held; or it had no buffer, when it was held.
pub data FoundNothing (sizes : Sizes) (call : FileCall) (page : ℕ) (was now : PassState) : Type 0 where
  OwnPage : (hand victim : ℕ) → IsPage sizes call victim → HasMade (hinting sizes page hand victim) was now → FoundNothing sizes call page was now
  HeldVictim : (hand victim lock : ℕ) → (IsPage sizes call victim → ⊥) → lock ≢ 0 → HasMade (trying sizes page hand victim lock) was now → FoundNothing sizes call page was now
  EmptyVictim : (hand victim given : ℕ) → (IsPage sizes call victim → ⊥) → (made : HasMade (robbing sizes page hand victim given) was now) → buffers_in (values_of made.0.view (PAGE victim)) ≡ 0
      → FoundNothing sizes call page was now

-- so many tries, one after another, found nothing, and the page lacks a buffer after each
abbrev pub AllFoundNothing : Sizes → FileCall → (page count : ℕ) → (was now : PassState) → Type 0
AllFoundNothing sizes call page zero was now = now ≡ was
AllFoundNothing sizes call page (suc count) was now = (middle : PassState) × AllFoundNothing sizes call page count was middle × FoundNothing sizes call page middle now × (lacks_buffer (values_of now.view (PAGE page)) ≡ true)

-- ---- a try under way, of a buffer

pub record HasTurned (sizes : Sizes) (page buffer : ℕ) (was now : PassState) : Type 0 where
  pub hand : ℕ
  pub buffer_is : buffer ≡ hand % sizes.buffers
  pub made : HasMade (plain_step (Turn page) hand ∷ []) was now

pub record HasHinted (sizes : Sizes) (page buffer victim : ℕ) (was now : PassState) : Type 0 where
  pub hand : ℕ
  pub buffer_is : buffer ≡ hand % sizes.buffers
  pub made : HasMade (hinting sizes page hand victim) was now

pub record HoldsVictim (sizes : Sizes) (page buffer victim : ℕ) (was now : PassState) : Type 0 where
  pub hand : ℕ
  pub buffer_is : buffer ≡ hand % sizes.buffers
  pub made : HasMade (trying sizes page hand victim 0) was now

-- The victim had a buffer: it lacks one now, and the page has that one, which isn't valid.
pub record HasRobbed (sizes : Sizes) (call : FileCall) (page buffer : ℕ) (was now : PassState) : Type 0 where
  pub hand : ℕ
  pub victim : ℕ
  pub given : ℕ
  pub elsewhere : IsPage sizes call victim → ⊥
  pub buffer_is : buffer ≡ hand % sizes.buffers
  pub made : HasMade (robbing sizes page hand victim given) was now
  pub had : buffers_in (values_of made.0.view (PAGE victim)) ≡ 1
  pub emptied : lacks_buffer (values_of now.view (PAGE victim)) ≡ true
  pub moved : values_of now.view (PAGE page) ≡ ABuffer (Some record { bytes = bytes_in (values_of made.0.view (PAGE victim)); valid = false })

-- A try found a victim that had a buffer, which is the page's, and the HINT of the try's buffer is the page.
pub record FoundBuffer (sizes : Sizes) (call : FileCall) (page buffer : ℕ) (was now : PassState) : Type 0 where
  pub middle : PassState
  pub robbed : HasRobbed sizes call page buffer was middle
  pub hint : ℕ
  pub hinted : HasTaken (plain_step (Hint buffer page) hint) middle now
  pub still : values_of now.view (PAGE page) ≡ values_of middle.view (PAGE page)

-- ---- what a search found

-- None where each of its tries found nothing, two for each buffer of the mount; or the buffer of the try behind some, fewer, that found nothing, by its number.
abbrev pub IsOutcome : Sizes → FileCall → (page : ℕ) → Option ℕ → (was now : PassState) → Type 0
IsOutcome sizes call page None was now = AllFoundNothing sizes call page (2 * sizes.buffers) was now
IsOutcome sizes call page (Some buffer) was now =
    (tries : ℕ) × (tries < 2 * sizes.buffers) × (middle : PassState) × AllFoundNothing sizes call page tries was middle × FoundBuffer sizes call page buffer middle now
