-- Idle: a pass between two calls.
use Rattle.std.specs.Prelude.{◌≡◌, []}
use Rattle.nv_core.specs.state.Passes.{IsOneOf, Idle}
use Rattle.nv_table.specs.state.Views.{Past, PassView, pass_of, past_pass, made_of}
use Rattle.nv_table.specs.state.States.{PassState}

-- Of the passes that it took in none holds a cell: the lock of one that did is shut for good.
abbrev pub TakenHoldNothing : PassView → Type 0
TakenHoldNothing view = (past : Past) → IsOneOf view.ended past → (past_pass view.opened past).owned ≡ []

-- It has no call at hand, it owns nothing, it has put nothing back, and those that it took in hold nothing either.
pub record IsIdle (pass : PassState) : Type 0 where
  pub control : (pass_of pass.view).control ≡ Idle
  pub owned : (pass_of pass.view).owned ≡ []
  pub left : (pass_of pass.view).left ≡ []
  pub nothing : pass.now ≡ []
  pub taken : TakenHoldNothing pass.view

-- It is the same pass after some steps of its own. Pass 0 has made no other pass by these, and taken none in.
pub record IsLater (old new : PassState) : Type 0 where
  pub number : new.view.number ≡ old.view.number
  pub ended : new.view.ended ≡ old.view.ended
  pub made : old.view.number ≡ 0 → made_of new.view ≡ made_of old.view
