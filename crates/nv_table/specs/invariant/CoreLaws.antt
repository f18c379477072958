-- The laws of the core that the table cites.
use Rattle.nv_core.specs.state.Words.{PlacesDiffer}
use Rattle.nv_core.specs.invariant.InvariantLaws.{RunsAreSound}
use Rattle.nv_core.specs.steps.Frames.{EventsLeaveOthers, PassesDependOnOwned, StepsAreOnWords, OwnEventsTell}

pub record CoreLaws : Type 0 where
  pub runs : RunsAreSound
  pub others : EventsLeaveOthers
  pub owned : PassesDependOnOwned
  pub words : StepsAreOnWords
  pub own : OwnEventsTell
  pub places : PlacesDiffer
