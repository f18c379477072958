use Rattle.std.proofs.Common.{◌≡◌, ◌≤◌, ap, ◌∙◌, subst, arith}
use Rattle.nv_table.specs.state.Views.{made_of}
use Rattle.nv_table.specs.state.States.{PassState}
use Rattle.nv_table.proofs.passes.BetweenLaws.{few_taken}
use Rattle.nv_table.proofs.pass.Pass.joined.Goals as goal

pub returns-clause-most : goal.returns-clause-most
returns-clause-most g c =
    let pass = c.self.inside in
    let zero : pass.seat.me.0.number ≡ 0 = ap (λ (p : PassState). p.view.number) c.self.view_is ∙ c.requires.zero in
    let few = few_taken c.runs_are_sound.ensures.runs pass.seat.me.0 pass.seat.me.1 pass.number pass.made pass.joined pass.held.items _ c.self.invariant.0 zero in
    subst (λ (p : PassState). pass.joined ≤ made_of p.view) c.self.view_is (omega (arith, few, (c.self.invariant.0.keeper zero).made_is))
