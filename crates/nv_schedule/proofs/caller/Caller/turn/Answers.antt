-- An advance of its thread, or of its cleaner.
use Rattle.std.proofs.Common.{List, sym, subst}
use Rattle.std.specs.Prelude.{IfOk}
use Rattle.nv_core.specs.steps.Events.{Event}
use Rattle.nv_schedule.specs.Turns.{CallerState, TurnTells}
use Rattle.nv_schedule.specs.declared.caller.Work.{Work}
use Rattle.nv_schedule.specs.declared.caller.Work.TheVariants.{Calls, Batches}
use Rattle.nv_schedule.proofs.turns.TurnLaws.{cleaner_turned, thread_turned}
use Rattle.nv_schedule.proofs.caller.Caller.turn.Goals as goal

pub returns-in-Calls-clause-turned : goal.returns-in-Calls-clause-turned
returns-in-Calls-clause-turned g c =
    let fds = c.args.mount.now.fds in
    let new : CallerState = record { pass = c.turn.new.pass; work = Calls c.turn.new.self } in
    subst (λ (old : CallerState). IfOk c.turn.result (λ turned. (events : List Event) × TurnTells fds turned events old new)) c.self.view_is
    (subst (λ (work : Work). IfOk c.turn.result (λ turned. (events : List Event) × TurnTells fds turned events (record { pass = c.self.inside.pass; work = work }) new)) (sym c.in-Calls.is)
    (thread_turned fds c.turn.result c.in-Calls.thread c.turn.new.self c.self.inside.pass c.turn.new.pass c.turn.ensures.moved c.turn.ensures.none c.turn.ensures.ends c.turn.ensures.call c.turn.ensures.come))

pub returns-in-Batches-clause-turned : goal.returns-in-Batches-clause-turned
returns-in-Batches-clause-turned g c =
    let fds = c.args.mount.now.fds in
    let turned = c.turn-in-Batches.result in
    let new : CallerState = record { pass = c.turn-in-Batches.new.pass; work = Batches c.turn-in-Batches.new.self } in
    subst (λ (old : CallerState). (events : List Event) × TurnTells fds turned events old new) c.self.view_is
    (subst (λ (work : Work). (events : List Event) × TurnTells fds turned events (record { pass = c.self.inside.pass; work = work }) new) (sym c.in-Batches.is)
    (cleaner_turned fds turned c.in-Batches.batches c.turn-in-Batches.new.self c.self.inside.pass c.turn-in-Batches.new.pass c.turn-in-Batches.ensures.moved c.turn-in-Batches.ensures.none c.turn-in-Batches.ensures.most c.turn-in-Batches.ensures.ends c.turn-in-Batches.ensures.batch
    c.turn-in-Batches.ensures.come))
