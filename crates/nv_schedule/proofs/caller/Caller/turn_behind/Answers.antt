-- Between two looks the pass made its step.
use Rattle.std.proofs.Common.{◌≡◌, sym, ap, subst, ◌∙◌}
use Rattle.nv_table.specs.passes.Moments.{SharesMoment, longer}
use Rattle.nv_table.specs.state.States.{PassState}
use Rattle.nv_schedule.specs.Turns.{CallerState}
use Rattle.nv_schedule.proofs.BehindLaws.{turned_behind}
use Rattle.nv_schedule.proofs.caller.Caller.turn_behind.Goals as goal

pub returns-clause-turned : goal.returns-clause-turned
returns-clause-turned g c =
    let pass = c.self.inside.pass in
    let then_ = c.self-2.inside.pass in
    let mid : CallerState = record { pass = c.look_at-before.new.pass; work = c.self.inside.work } in
    let new : CallerState = record { pass = c.look_at.new.pass; work = c.self-2.inside.work } in
    let is : ◌≡◌ {A = PassState} pass c.args.self.now.pass = ap (λ (s : CallerState). s.pass) c.self.view_is in
    turned_behind c.args.mount.now.fds c.turn-result.result c.args.self.now mid c.turn-result.new.self new c.args.view.run c.look_at-before.result.run c.look_at.result.run
    (ap (λ (p : PassState). record { pass = p; work = c.self.inside.work }) c.look_at-before.ensures.pass ∙ c.self.view_is)
    (sym c.self-2.view_is ∙ ap (λ (p : PassState). record { pass = p; work = c.self-2.inside.work }) (sym c.look_at.ensures.pass))
    (c.look_at-before.ensures.longer ∙ ap (λ (p : PassState). longer p.view.run c.args.view.run) is)
    (c.look_at.ensures.longer ∙ ap (λ (p : PassState). longer p.view.run c.look_at-before.result.run) (sym c.look_at.ensures.pass))
    (subst (λ (p : PassState). SharesMoment p.view c.args.view.run) is c.look_at-before.ensures.shares)
    (subst (λ (p : PassState). SharesMoment p.view c.look_at-before.result.run) (sym c.look_at.ensures.pass) c.look_at.ensures.shares)
    c.turn-result.ensures.turned
