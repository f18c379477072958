-- Call steps: when a step of a pass is due, and what the place of a call tells.
use Rattle.std.specs.Prelude.{◌≡◌, ◌⊎◌, ℕ, List, [], ◌∷◌, ◌++◌, length, Option}
use Rattle.nv_plain.specs.Histories.{Answered}
use Rattle.nv_plain.specs.declared.call.FileCall.{FileCall}
use Rattle.nv_plain.specs.declared.call.Reply.{Reply}
use Rattle.nv_plain.specs.declared.call.Reply.TheVariants.{Bytes}
use Rattle.nv_core.specs.state.Words.{Sizes, Word, IsWord}
use Rattle.nv_core.specs.state.Passes.{Control, Pass, TakePlace, plain_call}
use Rattle.nv_core.specs.state.Cleaner as cleaner
use Rattle.nv_core.specs.invariant.ControlFacts.{ControlFacts}
use Rattle.nv_core.specs.steps.Ops.{Op, word_of, Take, Place, ByCleaner}
use Rattle.nv_core.specs.steps.Order.{Values, Work, Enabled, plain_reply, gathered}
use Rattle.nv_core.specs.steps.PassSteps.{as_answered}
use Rattle.nv_table.specs.state.Views.{PassView, pass_of, values_of}
use Rattle.nv_table.specs.steps.SeatSteps.{AreDue, MayOpen, pass_worked, pass_before, values_before}
use Rattle.nv_table.specs.state.States.{PassState}
use Rattle.nv_table.specs.steps.StepContracts.{ShowsWork}

-- ---- the place of a call

-- the reply that a call takes its place with: that of a read of pages is what it has of them
abbrev pub reply_at : Sizes → Values → Pass → Control → Reply
reply_at sizes values pass TakePlace = plain_reply pass.call
reply_at sizes values pass control = Bytes (gathered sizes values pass)

abbrev pub place_op : PassView → Op
place_op view = Place (reply_at view.opened.sizes (values_of view) (pass_of view) (pass_of view).control)

-- ---- when they come

-- The step is the next one of the pass, after some device calls on what it owns, and what it owns shows what they leave.
pub record Precondition (pass : PassState) (opens : Option FileCall) (op : Op) : Type 0 where
  pub works : List Work
  pub due : AreDue pass.view.opened.sizes (values_of pass.view) (pass_of pass.view) works
  pub begins : MayOpen pass.view.opened.sizes opens (pass_worked pass.view.opened.sizes works (pass_of pass.view))
  pub may : Enabled pass.view.opened.sizes (values_before pass.view works) (pass_before pass.view opens works) op
  pub staying : (pass_of pass.view).left ≡ []
  pub holds : ShowsWork pass opens op works

-- Such a step is made on a word of the mount, and finds its pass where the order of steps lets it stand.
pub record Stands (pass : PassState) (opens : Option FileCall) (op : Op) (works : List Work) : Type 0 where
  pub on : IsWord pass.view.opened.sizes (word_of pass.view.opened.sizes (pass_before pass.view opens works) op)
  pub stands : ControlFacts pass.view.opened.sizes (pass_before pass.view opens works)

abbrev pub DueStepsStand : PassState → Type 0
DueStepsStand pass = (opens : Option FileCall) (op : Op) (due : Precondition pass opens op) → Stands pass opens op due.works

-- ---- a take, by a call or by a cleaner

abbrev pub IsTake : Op → Word → Type 0
IsTake op cell = (op ≡ Take cell) ⊎ (op ≡ ByCleaner (cleaner.Take cell))

-- ---- what the place of a call tells

-- the call as it ends the history
abbrev pub answered_at : PassView → Answered
answered_at view = as_answered view.number (pass_of view) (reply_at view.opened.sizes (values_of view) (pass_of view) (pass_of view).control)

-- It has its place behind as many calls as ORDER was found at; the pass has seen the history up to there, and has one more call of its own. It
-- was made as the plain call that was asked.
pub record IsPlaced (old new : PassView) (found : ℕ) : Type 0 where
  pub made : (pass_of old).call ≡ plain_call (pass_of old).asked
  pub before : List Answered
  pub count : found ≡ length before
  pub seen : (pass_of new).seen ≡ before ++ answered_at old ∷ []
  pub mine : (pass_of new).mine ≡ (pass_of old).mine ++ answered_at old ∷ []
