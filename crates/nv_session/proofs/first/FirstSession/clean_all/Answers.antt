-- A batch that carried entries comes behind those before it.
use Rattle.std.proofs.Common.{◌∙◌, rules}
use Rattle.std.specs.Prelude.{suc}
use Rattle.nv_session.proofs.first.FirstSession.clean_all.Goals as goal

pub loop-preserved : goal.loop-preserved
loop-preserved g c =
    let so_far = c.loop.invariant in
    let more = c.in-Ok.ensures in
    record {
      bench = more.bench ∙ so_far.bench;
      mount = more.mount ∙ so_far.mount;
      later = record {
        number = more.retired.later.number ∙ so_far.later.number;
        ended = more.retired.later.ended ∙ so_far.later.ended;
        made = λ none. more.retired.later.made (so_far.later.number ∙ none) ∙ so_far.later.made none;
      };
      spare = more.retired.spare ∙ so_far.spare;
      carried = (suc so_far.carried.0, (c.loop.self.pass, so_far.carried.1, c.in-Ok.field-0, more.retired.over));
      kept = record { seen = more.retired.kept.seen ∙ so_far.kept.seen; mine = more.retired.kept.mine ∙ so_far.kept.mine };
      next = search rules;
      finite = search rules;
    }
