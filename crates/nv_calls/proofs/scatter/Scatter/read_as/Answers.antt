-- The room has what the read left in it.
use Rattle.std.proofs.Common.{◌≡◌, length, sym, subst, rules}
use Rattle.std.specs.Prelude.{Ok}
use Rattle.nv_calls.specs.reads.Reads.{IsReadDoneAs}
use Rattle.nv_calls.proofs.FilledLemmas.{room_is}
use Rattle.nv_calls.proofs.scatter.Scatter.read_as.Goals as goal

pub returns-in-Ok-clause-done : goal.returns-in-Ok-clause-done
returns-in-Ok-clause-done g c =
    let list = c.read_as-result.new.list in
    let room = c.self.inside.room in
    let size : length list ≡ length room.items = search rules in
    let whole : room.len ≡ length room.items = search rules in
    let done = subst (IsReadDoneAs g.A.Asks.call list c.args.pass.now c.read_as-result.new.pass) c.in-Ok.is c.read_as-result.ensures.done in
    subst (λ l. IsReadDoneAs g.A.Asks.call l c.args.pass.now c.read_as-result.new.pass (Ok c.in-Ok.done)) (sym (room_is room.len room.items list size whole)) done

pub returns-in_default-clause-done : goal.returns-in_default-clause-done
returns-in_default-clause-done g c =
    let list = c.read_as-result.new.list in
    let room = c.self.inside.room in
    let size : length list ≡ length room.items = search rules in
    let whole : room.len ≡ length room.items = search rules in
    subst (λ l. IsReadDoneAs g.A.Asks.call l c.args.pass.now c.read_as-result.new.pass c.read_as-result.result) (sym (room_is room.len room.items list size whole)) c.read_as-result.ensures.done
