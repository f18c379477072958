use Rattle.nv_core.proofs.log.FittingSteps.{LoadLaws, groups_fit}
use Rattle.nv_core.proofs.log.FittingLaws.{ready_pieces_fit}
use Rattle.nv_core.proofs.fitting_laws.ready_pieces_fit.Goals as goal

pub returns : goal.returns
returns c =
    let loads : LoadLaws = record {
      stored = c.loads_follow_calls.ensures.stored;
      kept = c.loads_follow_calls.ensures.kept;
      lines = c.loads_follow_calls.ensures.lines;
      blank = c.loads_follow_calls.ensures.blank;
    } in
    ready_pieces_fit c.runs_are_sound.ensures.opening c.runs_are_sound.ensures.events (groups_fit loads)
