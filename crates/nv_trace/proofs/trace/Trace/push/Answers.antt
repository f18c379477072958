use Rattle.std.proofs.Common.{List, ℕ, sym, subst, arith}
use Rattle.nv_trace.specs.Shape.{IsWellFormed, MayFollow}
use Rattle.nv_trace.specs.Traced.{Traced}
use Rattle.nv_trace.specs.declared.statement.Statement.TheVariants.{File}
use Rattle.nv_trace.proofs.Shapes.{goes_on}
use Rattle.nv_trace.proofs.trace.Trace.push.Goals as goal

pub invariant_of-self : goal.invariant_of-self
invariant_of-self c =
    let trace : Traced = record { form = c.self.inside.form; names = c.self.inside.names.items; descriptors = c.self.inside.descriptors.items; calls = c.self.inside.calls.items; rounds = c.self.inside.rounds; lives = c.self.inside.lives.ended; tokens = c.self.inside.lives.tokens } in
    let may : MayFollow trace (File c.in-File.name) = subst (λ trace. MayFollow trace (File c.in-File.name)) (sym c.self.view_is) (subst (MayFollow c.args.self.now) c.in-File.is c.requires) in
    subst (λ (names : List (List ℕ)). IsWellFormed (record trace { names = names })) (sym c.in_ok-push-in-File.ensures.items) (goes_on trace c.args.number (File c.in-File.name) may (omega arith) c.self.invariant)
