-- A sync that is over has told what its steps tell.
use Rattle.std.proofs.Common.{◌≡◌, rules}
use Rattle.std.specs.Prelude.{Ok, Err}
use Rattle.nv_mirror.specs.declared.pageless.PagelessControl.TheVariants.{Over}
use Rattle.nv_calls.proofs.fsync.MachineLaws.{ended_of, steps_of}
use Rattle.nv_calls.proofs.sync.try_fsync.Goals as goal

pub returns-in-Over-Ok-clause-idle : goal.returns-in-Over-Ok-clause-idle
returns-in-Over-Ok-clause-idle g c =
    let is : c.loop-sync.sync.control ≡ Over (Ok c.in-Over-Ok.place) = search rules in
    (ended_of c.args.mount.now.fds c.args.fd c.loop-sync.sync (Ok c.in-Over-Ok.place) c.args.pass.now c.loop-sync.pass is c.loop-sync.invariant.of).idle

pub returns-in-Over-Ok-clause-stop : goal.returns-in-Over-Ok-clause-stop
returns-in-Over-Ok-clause-stop g c =
    let is : c.loop-sync.sync.control ≡ Over (Ok c.in-Over-Ok.place) = search rules in
    c.ended_calls_heed_stop.ensures.syncs c.args.mount.now.fds c.args.fd c.args.pass.now c.loop-sync.pass (Ok record { place = c.in-Over-Ok.place; len = 0 }) c.sees_a_run.ensures.mount
    (ended_of c.args.mount.now.fds c.args.fd c.loop-sync.sync (Ok c.in-Over-Ok.place) c.args.pass.now c.loop-sync.pass is c.loop-sync.invariant.of).sync_run

pub returns-in-Over-Ok-clause-known : goal.returns-in-Over-Ok-clause-known
returns-in-Over-Ok-clause-known g c =
    let is : c.loop-sync.sync.control ≡ Over (Ok c.in-Over-Ok.place) = search rules in
    c.calls_go_on_from_what_is_known.ensures.syncs c.args.mount.now.fds c.args.fd c.args.pass.now c.loop-sync.pass (Ok record { place = c.in-Over-Ok.place; len = 0 }) c.sees_a_run.ensures.mount c.has_taken_in.ensures
    (ended_of c.args.mount.now.fds c.args.fd c.loop-sync.sync (Ok c.in-Over-Ok.place) c.args.pass.now c.loop-sync.pass is c.loop-sync.invariant.of).sync_run

pub returns-in-Over-Err-clause-known : goal.returns-in-Over-Err-clause-known
returns-in-Over-Err-clause-known g c =
    let is : c.loop-sync.sync.control ≡ Over (Err c.in-Over-Err.refusal) = search rules in
    c.calls_go_on_from_what_is_known.ensures.syncs c.args.mount.now.fds c.args.fd c.args.pass.now c.loop-sync.pass (Err c.in-Over-Err.refusal) c.sees_a_run.ensures.mount c.has_taken_in.ensures
    (ended_of c.args.mount.now.fds c.args.fd c.loop-sync.sync (Err c.in-Over-Err.refusal) c.args.pass.now c.loop-sync.pass is c.loop-sync.invariant.of).sync_run

pub returns-in-Over-Err-clause-idle : goal.returns-in-Over-Err-clause-idle
returns-in-Over-Err-clause-idle g c =
    let is : c.loop-sync.sync.control ≡ Over (Err c.in-Over-Err.refusal) = search rules in
    (ended_of c.args.mount.now.fds c.args.fd c.loop-sync.sync (Err c.in-Over-Err.refusal) c.args.pass.now c.loop-sync.pass is c.loop-sync.invariant.of).idle

pub loop-sync-preserved : goal.loop-sync-preserved
loop-sync-preserved g c = record {
  board = search rules;
  of = steps_of c.args.mount.now.fds c.args.fd c.loop-sync.sync c.advance.new.self c.args.pass.now c.loop-sync.pass c.advance.new.pass _ (search rules) c.advance.ensures.asked c.advance.ensures.one.1 c.advance.ensures.one.2
      (c.advance.ensures.way c.args.pass.now c.loop-sync.invariant.of.running.way) c.loop-sync.invariant.of;
}
