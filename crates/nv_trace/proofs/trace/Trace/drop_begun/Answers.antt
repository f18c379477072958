use Rattle.std.proofs.Common.{List, drop, get_or, length, sym, ap, subst, ◌∙◌, arith}
use Rattle.std.specs.List.Sorted.{IsStrictlyIncreasing}
use Rattle.nv_trace.specs.Lives.{behind_begun}
use Rattle.nv_trace.specs.Shape.{IsWellFormed}
use Rattle.nv_trace.specs.Traced.{Traced, lines_in}
use Rattle.nv_trace.specs.declared.trace_call.TracedCall.{TracedCall}
use Rattle.nv_trace.proofs.Begun.{behind_is_part, each_behind, formed_behind, its, length-part, lines_behind}
use Rattle.nv_trace.proofs.trace.Trace.drop_begun.Goals as goal

pub invariant_of-self : goal.invariant_of-self
invariant_of-self c =
    let trace : Traced = record { form = c.self.inside.form; names = c.self.inside.names.items; descriptors = c.self.inside.descriptors.items; calls = c.self.inside.calls.items; rounds = c.self.inside.rounds; lives = c.self.inside.lives.ended; tokens = c.self.inside.lives.tokens } in
    subst (λ (calls : List TracedCall). IsWellFormed (record trace { calls = calls })) (sym c.drop_first.ensures) (formed_behind trace c.args.begun c.self.invariant)

pub returns-clause-each : goal.returns-clause-each
returns-clause-each c = λ thread.
    ap (its thread) (c.drop_first.ensures) ∙ each_behind thread c.args.begun c.self.inside.calls.items
    ∙ ap (λ (trace : Traced). drop (get_or c.args.begun thread 0) (its thread trace.calls)) c.self.view_is

pub returns-clause-fewer : goal.returns-clause-fewer
returns-clause-fewer c =
    let part = length-part (behind_begun c.args.begun c.self.inside.calls.items) c.self.inside.calls.items (behind_is_part c.args.begun c.self.inside.calls.items) in
    omega (arith, part, ap length c.drop_first.ensures, ap (λ (trace : Traced). length trace.calls) c.self.view_is)

pub returns-clause-lines : goal.returns-clause-lines
returns-clause-lines c =
    let trace : Traced = record { form = c.self.inside.form; names = c.self.inside.names.items; descriptors = c.self.inside.descriptors.items; calls = c.self.inside.calls.items; rounds = c.self.inside.rounds; lives = c.self.inside.lives.ended; tokens = c.self.inside.lives.tokens } in
    λ rise. subst (λ (calls : List TracedCall). IsStrictlyIncreasing (lines_in (record trace { calls = calls }))) (sym c.drop_first.ensures)
    (lines_behind trace c.args.begun (subst (λ (trace : Traced). IsStrictlyIncreasing (lines_in trace)) (sym c.self.view_is) rise))

pub returns-clause-well_formed : goal.returns-clause-well_formed
returns-clause-well_formed c =
    let trace : Traced = record { form = c.self.inside.form; names = c.self.inside.names.items; descriptors = c.self.inside.descriptors.items; calls = c.self.inside.calls.items; rounds = c.self.inside.rounds; lives = c.self.inside.lives.ended; tokens = c.self.inside.lives.tokens } in
    subst (λ (calls : List TracedCall). IsWellFormed (record trace { calls = calls })) (sym c.drop_first.ensures) (formed_behind trace c.args.begun c.self.invariant)
