-- Its own, or else what it has inherited.
use Rattle.std.proofs.Common.{ap, ap₂, ◌∙◌}
use Rattle.nv_table.specs.invariant.Drawn.{or_else, drawn_by}
use Rattle.nv_table.specs.state.States.{PassState}
use Rattle.nv_table.proofs.pass.Pass.drawn.Goals as goal

pub returns : goal.returns
returns g c = c.or_else.ensures ∙ ap₂ or_else c.self.invariant.0.drawn_is c.self.invariant.2 ∙ ap (λ (p : PassState). drawn_by p.view) c.self.view_is
