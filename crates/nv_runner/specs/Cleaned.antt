-- Cleaned: what batches of the cleaner leave of pass 0, which makes them while no other pass is out.
use Rattle.std.specs.Prelude.{◌≡◌, ℕ, Some}
use Rattle.nv_table.specs.invariant.BetweenSteps.{KnowsTaken}
use Rattle.nv_table.specs.invariant.Idle.{IsIdle, IsLater}
use Rattle.nv_table.specs.passes.Alone.{IsAlone}
use Rattle.nv_table.specs.state.States.{BoardState, IsOf, PassState}
use Rattle.nv_mirror.specs.Answers.{IsUnplaced}
use Rattle.nv_runner.specs.OpenWrites.{KeepsFaults}
use Rattle.nv_runner.specs.Runs.{GoesOn}
use Rattle.nv_runner.specs.Tries.{HasRunBatches}

-- It is between calls, and knows what it has taken, which is all.
pub record IsLeftAlone (board : BoardState) (pass : PassState) : Type 0 where
  pub board_is : IsOf board pass
  pub idle : IsIdle pass
  pub taken : KnowsTaken pass.view
  pub alone : IsAlone pass.view

-- It is so still, behind batches of so many entries at most, and nothing else: nothing was placed or drawn, and the writes that faults had ended are left.
pub record HasCleaned (board : BoardState) (batch : ℕ) (old new : PassState) : Type 0 where
  pub left : IsLeftAlone board new
  pub later : IsLater old new
  pub spare : new.spare ≡ old.spare
  pub kept : IsUnplaced old.view new.view
  pub keeps : KeepsFaults old new
  pub on : GoesOn (Some batch) 0 old new
  pub batches : HasRunBatches (Some batch) old new
