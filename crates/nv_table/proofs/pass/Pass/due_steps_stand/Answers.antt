use Rattle.std.proofs.Common.{ap}
use Rattle.std.specs.Vec.{vec_capacity}
use Rattle.nv_table.specs.state.States.{PassState}
use Rattle.nv_table.proofs.steps.StepLaws.{due_stands}
use Rattle.nv_table.proofs.pass.Pass.due_steps_stand.Goals as goal

pub returns : goal.returns
returns g c opens op due =
    let inside = c.self.inside in
    due_stands c.args.self.now inside.seat.me inside.number inside.made inside.joined inside.held.items (vec_capacity inside.held) opens op
    (ap (λ (p : PassState). p.view) c.self.view_is) c.self.invariant.0 c.laws_of_the_core.ensures due
