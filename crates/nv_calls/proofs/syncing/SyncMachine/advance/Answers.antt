-- The sync of the descriptor's file makes the step, and goes on from there.
use Rattle.std.proofs.Common.{sym, ap, subst, inr}
use Rattle.nv_table.specs.state.Opened.{Opened}
use Rattle.nv_calls.specs.declared.progress.Progress.{Progress}
use Rattle.nv_calls.specs.declared.syncing.SyncControl.TheVariants as syncs
use Rattle.nv_calls.specs.fsync.SyncMachines.{SyncGoes}
use Rattle.nv_calls.proofs.fsync.MachineLaws.{goes_on, one_step, steps_of}
use Rattle.nv_calls.proofs.syncing.SyncMachine.advance.Goals as goal

pub advance-requires-clause-way : goal.advance-requires-clause-way
advance-requires-clause-way g c =
    let start = c.requires.under_way.0 in
    (start, (c.in-Ok.ensures.way start c.args.pass.now (ap (λ (o : Opened). o.sizes) c.requires.board.same_mount) c.requires.under_way.1).running.way)

pub returns-clause-one : goal.returns-clause-one
returns-clause-one g c =
    let m = c.args.self.now in
    let start = c.requires.under_way.0 in
    let of = c.in-Ok.ensures.way start c.args.pass.now (ap (λ (o : Opened). o.sizes) c.requires.board.same_mount) c.requires.under_way.1 in
    let one = c.advance.ensures.one in
    inr (one_step m c.in-Ok.sync c.advance.new.self start c.args.pass.now c.advance.new.pass one.0 c.in-Ok.ensures.stands c.in-Ok.ensures.more of.running.way one.1 one.2)

pub returns-clause-goes : goal.returns-clause-goes
returns-clause-goes g c start way =
    let m = c.args.self.now in
    let fds = c.args.mount.now.fds in
    let new = c.advance.new.pass in
    let of = c.in-Ok.ensures.way start c.args.pass.now (ap (λ (o : Opened). o.sizes) c.requires.board.same_mount) way in
    let one = c.advance.ensures.one in
    subst (λ (progress : Progress). SyncGoes fds start (record m { control = syncs.Running c.advance.new.self }) new progress) (sym c.progress.ensures)
    (goes_on fds m c.advance.new.self start new
    (steps_of fds m.fd c.in-Ok.sync c.advance.new.self start c.args.pass.now new one.0 c.in-Ok.ensures.more c.advance.ensures.asked one.1 one.2 (c.advance.ensures.way start of.running.way) of))
