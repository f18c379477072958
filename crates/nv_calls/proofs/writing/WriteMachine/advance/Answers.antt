-- The write with its list in makes the step, and goes on with it taken out.
use Rattle.std.proofs.Common.{◌≡◌, sym, ap, subst, inr, ◌∙◌}
use Rattle.nv_core.specs.state.Passes.{plain_call}
use Rattle.nv_ring.specs.RunningWrites.{IsUnderWay, asked_in}
use Rattle.nv_ring.proofs.AskedLaws.{made_is}
use Rattle.nv_plain.specs.declared.call.FileCall.TheVariants.{Write}
use Rattle.nv_table.specs.state.Opened.{Opened}
use Rattle.nv_ring.specs.declared.write.RunningWrite.{RunningWrite}
use Rattle.nv_calls.specs.calls.Asks.{asks_write}
use Rattle.nv_calls.specs.calls.Advances.{IsOneOrNone}
use Rattle.nv_calls.specs.declared.writing.WriteControl.TheVariants as writes
use Rattle.nv_calls.specs.declared.progress.Progress.{Progress}
use Rattle.nv_calls.specs.writes.WriteMachines.{IsOfFile, WriteGoes, early_of, progress_of, standing}
use Rattle.nv_calls.proofs.writes.MachineLaws.{goes_on, steps_on}
use Rattle.nv_calls.proofs.writing.WriteMachine.advance.Goals as goal

pub advance-requires-clause-way : goal.advance-requires-clause-way
advance-requires-clause-way g c =
    let start = c.requires.under_way.0 in
    let put = c.in-Ok.ensures in
    let of = put.way (asks_write c.args.self.now.at c.args.list.now) start c.args.pass.now (ap (λ (o : Opened). o.sizes) c.requires.board.same_mount) c.requires.under_way.1 in
    let call = Write of.file c.args.self.now.at c.args.list.now in
    (start, subst (λ made. IsUnderWay (plain_call made) c.in-Ok.write start c.args.pass.now) (sym (made_is call c.in-Ok.write start c.args.pass.now put.more of.way)) of.way)

pub returns-clause-one : goal.returns-clause-one
returns-clause-one g c =
    let m = c.args.self.now in
    let sizes = c.args.mount.now.board.opened.sizes in
    subst (λ (write : RunningWrite). IsOneOrNone standing (early_of c.args.pass.now.view.opened.sizes c.args.mount.now.fds m) m (record m { control = writes.Running write }) c.args.pass.now c.advance.new.pass c.progress.result) (sym c.with_list.ensures)
    (inr (steps_on sizes c.args.mount.now.fds m c.args.list _ c.in-Ok.write c.advance.new.self c.args.pass.now c.advance.new.pass c.in-Ok.ensures c.advance.ensures.one))

pub returns-clause-goes : goal.returns-clause-goes
returns-clause-goes g c start way =
    let m = c.args.self.now in
    let fds = c.args.mount.now.fds in
    let list = c.args.list in
    let new = c.advance.new.pass in
    let of = c.in-Ok.ensures.way (asks_write m.at list.now) start c.args.pass.now (ap (λ (o : Opened). o.sizes) c.requires.board.same_mount) way in
    let call = Write of.file m.at list.now in
    let asks =
    subst (λ made. asked_in made c.advance.new.self new ≡ asked_in made c.in-Ok.write c.args.pass.now) (made_is call c.in-Ok.write start c.args.pass.now c.in-Ok.ensures.more of.way) c.advance.ensures.asks
    ∙ of.asks in
    let next : IsOfFile (asks_write m.at list.now) fds m list.now c.advance.new.self start new =
    record { early = of.early; file = of.file; file_is = of.file_is; asks = asks; way = c.advance.ensures.way call start of.way } in
    subst (λ (progress : Progress). WriteGoes fds start (record m { control = writes.Running c.with_list.result }) list.now new progress) (sym c.progress.ensures)
    (subst (λ (write : RunningWrite). WriteGoes fds start (record m { control = writes.Running write }) list.now new (progress_of m.len c.advance.new.self)) (sym c.with_list.ensures)
    (goes_on (asks_write m.at list.now) fds m list _ way.room start new c.advance.new.self c.advance.ensures.settled next))
