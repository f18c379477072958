use Rattle.nv_open.proofs.BlankLaws.{blank_answer}
use Rattle.nv_open.proofs.formatting.are_blank.Goals as goal

pub returns-clause-told : goal.returns-clause-told
returns-clause-told g c =
    blank_answer c.loads_follow_calls.ensures.blank g.L.Lines.history g.L.Lines.room g.met.L.Lines.told_lines c.args.parts.now c.is_blank.result c.is_blank.ensures.no_lines c.is_blank.ensures.told
