-- It stands where it stood.
use Rattle.std.proofs.Common.{sym, subst}
use Rattle.nv_calls.specs.writes.WriteMachines.{IsPutInAs, StandsAt}
use Rattle.nv_calls.proofs.writes.MachineLaws.{puts_running}
use Rattle.nv_calls.proofs.writing.WriteMachine.put_in.Goals as goal

pub returns-in-Running : goal.returns-in-Running
returns-in-Running g c =
    let m = c.args.self.now in
    let fds = c.args.mount.now.fds in
    let sizes = c.args.mount.now.board.opened.sizes in
    let way = c.requires.under_way in
    let stands = subst (StandsAt way.0 fds m c.args.list.now way.1 way.2) c.in-Running.is way.4.stands in
    subst (IsPutInAs sizes fds m c.args.list.now) (sym c.with_list.ensures) (puts_running sizes fds m c.args.list way.4.room c.in-Running.write c.in-Running.is stands.0)
