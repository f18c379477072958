-- Newcomers: how the passes that pass 0 makes and takes in lie in the run.
use Rattle.std.specs.Prelude.{◌≡◌, ℕ, [], Option}
use Rattle.nv_core.specs.state.Passes.{IsOneOf}
use Rattle.nv_core.specs.steps.Events.{own}
use Rattle.nv_core.specs.invariant.OneHistory.{IsPrefix}
use Rattle.nv_table.specs.invariant.BetweenSteps.{KnowsTaken}
use Rattle.nv_table.specs.passes.PassesMade.{IsSplit, IsTakenIn}
use Rattle.nv_table.specs.state.States.{PassState}
use Rattle.nv_table.specs.state.Views.{Past}
use Rattle.nv_runner.specs.Runs.{GoesOn}

-- No event of a new pass comes before it.
abbrev pub NewcomersAreUnborn : Type 0
NewcomersAreUnborn = (old new other : PassState) → IsSplit old new other → own other.view.number other.view.run ≡ []

-- It begins in a run behind all of those that pass 0 had taken in.
abbrev pub NewcomersBeginBehind : Type 0
NewcomersBeginBehind = (old new other : PassState) → KnowsTaken old.view → IsSplit old new other → (past : Past) → IsOneOf old.view.ended past → IsPrefix past.run other.view.run

-- Pass 0 draws nothing by making a pass, nor by taking one in, and makes no cleaner's step.
abbrev pub SplitsGoOn : Type 0
SplitsGoOn = (worker : Option ℕ) (old new other : PassState) → IsSplit old new other → GoesOn worker 0 old new

abbrev pub JoinsGoOn : Type 0
JoinsGoOn = (worker : Option ℕ) (old other new : PassState) → IsTakenIn old other new → GoesOn worker 0 old new
