-- The write with the joined bytes in makes the step, and goes on with them taken out.
use Rattle.std.proofs.Common.{◌≡◌, List, ℕ, sym, ap, subst, inr, ◌∙◌}
use Rattle.std.specs.List.{concat}
use Rattle.nv_plain.specs.declared.call.FileCall.{FileCall}
use Rattle.nv_plain.specs.declared.call.FileCall.TheVariants.{Write, Writev}
use Rattle.nv_core.specs.state.Passes.{at_of, file_of, plain_call}
use Rattle.nv_table.specs.state.Opened.{Opened}
use Rattle.nv_ring.specs.declared.write.RunningWrite.{RunningWrite}
use Rattle.nv_ring.specs.RunningWrites.{IsUnderWay, asked_in, made_call}
use Rattle.nv_ring.proofs.AskedLaws.{made_is}
use Rattle.nv_calls.specs.calls.Advances.{IsOneOrNone}
use Rattle.nv_calls.specs.calls.Asks.{asks_writev}
use Rattle.nv_calls.specs.declared.progress.Progress.{Progress}
use Rattle.nv_calls.specs.declared.writing.WriteControl.TheVariants as writes
use Rattle.nv_calls.specs.writes.WriteMachines.{IsOfFile, IsWriteUnderWayAs, WriteGoesAs, early_of, progress_of, standing}
use Rattle.nv_calls.proofs.writes.MachineLaws.{goes_on_parts, steps_on}
use Rattle.nv_calls.proofs.writing.WriteMachine.advance_parts.Goals as goal

-- it is asked as a vectored write of these parts, of what it is made as
asked_is : (made : FileCall) (file at : ℕ) (bytes : List ℕ) (parts : List (List ℕ)) → made ≡ Write file at bytes → Writev (file_of made) (at_of made) parts ≡ Writev file at parts
asked_is made file at bytes parts is = ap (λ call. Writev (file_of call) (at_of call) parts) is

pub put_in-requires : goal.put_in-requires
put_in-requires g c =
    let m = c.args.self.now in
    let parts = c.args.parts.now in
    let start = c.requires.under_way.0 in
    let now = c.args.pass.now in
    let under_way = subst (λ list. IsWriteUnderWayAs (asks_writev m.at parts) c.args.mount.now.fds m list start now) (sym c.joined.ensures) c.requires.under_way.1 in
    record { under_way = (asks_writev m.at parts, start, now, c.requires.board.same_mount, under_way) }

pub advance_in_parts-requires-clause-way : goal.advance_in_parts-requires-clause-way
advance_in_parts-requires-clause-way g c =
    let m = c.args.self.now in
    let parts = c.args.parts.now in
    let start = c.requires.under_way.0 in
    let now = c.args.pass.now in
    let put = c.in-Ok.ensures in
    let list = c.joined.result.now in
    let under_way = subst (λ l. IsWriteUnderWayAs (asks_writev m.at parts) c.args.mount.now.fds m l start now) (sym c.joined.ensures) c.requires.under_way.1 in
    let of = put.way (asks_writev m.at parts) start now (ap (λ (o : Opened). o.sizes) c.requires.board.same_mount) under_way in
    let call = Write of.file m.at list in
    let plain : plain_call (Writev (file_of (made_call c.in-Ok.write)) (at_of (made_call c.in-Ok.write)) parts) ≡ call =
    ap plain_call (asked_is (made_call c.in-Ok.write) of.file m.at list parts (made_is call c.in-Ok.write start now put.more of.way)) ∙ ap (Write of.file m.at) (sym c.joined.ensures) in
    (start, subst (λ made. IsUnderWay made c.in-Ok.write start now) (sym plain) of.way)

pub returns-clause-one : goal.returns-clause-one
returns-clause-one g c =
    let m = c.args.self.now in
    let sizes = c.args.mount.now.board.opened.sizes in
    subst (λ (write : RunningWrite). IsOneOrNone standing (early_of c.args.pass.now.view.opened.sizes c.args.mount.now.fds m) m (record m { control = writes.Running write }) c.args.pass.now c.advance_in_parts.new.pass c.progress.result) (sym c.with_list.ensures)
    (inr (steps_on sizes c.args.mount.now.fds m c.joined.result _ c.in-Ok.write c.advance_in_parts.new.write c.args.pass.now c.advance_in_parts.new.pass c.in-Ok.ensures c.advance_in_parts.ensures.one))

pub returns-clause-goes : goal.returns-clause-goes
returns-clause-goes g c start way =
    let m = c.args.self.now in
    let fds = c.args.mount.now.fds in
    let parts = c.args.parts.now in
    let old = c.args.pass.now in
    let new = c.advance_in_parts.new.pass in
    let write = c.in-Ok.write in
    let after = c.advance_in_parts.new.write in
    let list = c.joined.result in
    let asks = asks_writev m.at parts in
    let under_way = subst (λ l. IsWriteUnderWayAs asks fds m l start old) (sym c.joined.ensures) way in
    let of = c.in-Ok.ensures.way asks start old (ap (λ (o : Opened). o.sizes) c.requires.board.same_mount) under_way in
    let call = Write of.file m.at list.now in
    let is = asked_is (made_call write) of.file m.at list.now parts (made_is call write start old c.in-Ok.ensures.more of.way) in
    let same = subst (λ made. asked_in made after new ≡ asked_in made write old) is c.advance_in_parts.ensures.asks ∙ of.asks in
    let next : IsOfFile asks fds m list.now after start new = record { early = of.early; file = of.file; file_is = of.file_is; asks = same; way = c.advance_in_parts.ensures.way call start of.way } in
    subst (λ (progress : Progress). WriteGoesAs asks fds start (record m { control = writes.Running c.with_list.result }) (concat parts) new progress) (sym c.progress.ensures)
    (subst (λ (w : RunningWrite). WriteGoesAs asks fds start (record m { control = writes.Running w }) (concat parts) new (progress_of m.len after)) (sym c.with_list.ensures)
    (goes_on_parts fds m list _ parts c.joined.ensures under_way.room start new after c.advance_in_parts.ensures.settled next))
