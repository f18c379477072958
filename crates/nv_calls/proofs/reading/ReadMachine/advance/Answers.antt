-- Its read makes the step, in front of the machine's room, and goes on from there.
use Rattle.std.proofs.Common.{◌≡◌, length, take, refl, sym, ap, subst, inr, rules}
use Rattle.nv_plain.specs.declared.call.FileCall.TheVariants.{Read}
use Rattle.nv_core.specs.state.Words.{Sizes}
use Rattle.nv_core.specs.steps.Opening.{IsMount}
use Rattle.nv_table.specs.state.Opened.{Opened, mount_of}
use Rattle.nv_core.specs.state.Passes.{plain_call}
use Rattle.nv_cache.specs.RunningReads.{IsUnderWay, asked_in}
use Rattle.nv_cache.proofs.AskedLaws.{made_is}
use Rattle.nv_calls.specs.calls.Asks.{asks_read}
use Rattle.nv_calls.specs.reads.ReadMachines.{IsBegunAs}
use Rattle.nv_calls.proofs.reads.MachineLaws.{goes_after, steps_on}
use Rattle.nv_calls.proofs.reading.ReadMachine.advance.Goals as goal

pub advance_in-requires-clause-way : goal.advance_in-requires-clause-way
advance_in-requires-clause-way g c =
    let m = c.args.self.now in
    let pass = c.args.pass.now in
    let start = c.requires.under_way.0 in
    let of = c.in-Ok.ensures.way (asks_read m.at) c.args.list.now start pass (ap (λ (o : Opened). o.sizes) c.requires.board.same_mount) c.requires.under_way.1 in
    let page : pass.view.opened.sizes.page ≡ c.layout-page.result.page = search rules in
    let call = Read of.file m.at m.len in
    let way = subst (λ n. IsUnderWay call c.in-Ok.read c.args.list.now (take n m.room) start pass) page of.way in
    (start, subst (λ made. IsUnderWay (plain_call made) c.in-Ok.read c.args.list.now (take c.layout-page.result.page m.room) start pass) (sym (made_is call c.in-Ok.read _ _ start pass c.in-Ok.ensures.more way)) way)

pub returns-clause-one : goal.returns-clause-one
returns-clause-one g c =
    let m = c.args.self.now in
    let begun = subst (λ (s : Sizes). IsBegunAs s c.args.mount.now.fds m c.in-Ok.read) (sym (ap (λ (o : Opened). o.sizes) c.requires.board.same_mount)) c.in-Ok.ensures in
    inr (steps_on c.args.mount.now.fds m m.room c.in-Ok.read c.advance_in.new.read c.args.pass.now c.advance_in.new.pass begun c.advance_in.ensures.one)

pub returns-clause-goes : goal.returns-clause-goes
returns-clause-goes g c start way =
    let m = c.args.self.now in
    let pass = c.args.pass.now in
    let new = c.advance_in.new.pass in
    let list = c.advance_in.new.list in
    let room = c.advance_in.new.room in
    let of = c.in-Ok.ensures.way (asks_read m.at) c.args.list.now start pass (ap (λ (o : Opened). o.sizes) c.requires.board.same_mount) way in
    let page : pass.view.opened.sizes.page ≡ c.layout-page.result.page = search rules in
    let same : new.view.opened ≡ pass.view.opened = search rules in
    let size : length room ≡ new.view.opened.sizes.page = search rules in
    let call = Read of.file m.at m.len in
    let way_in = subst (λ n. IsUnderWay call c.in-Ok.read c.args.list.now (take n m.room) start pass) page of.way in
    goes_after c.runs_are_sound.ensures.runs c.passes_are_left_alone.ensures.own (asks_read m.at) c.args.mount.now.fds m list room _ c.in-Ok.read c.advance_in.new.read start pass new c.progress.result (λ file. refl)
    (subst (λ (o : Opened). IsMount (mount_of o)) (sym same) c.sees_a_run.ensures.mount) size c.progress.ensures c.advance_in.ensures.settled (c.args.list.now, of)
    (c.advance_in.ensures.way call start way_in)
    (subst (λ made. asked_in made c.advance_in.new.read new ≡ asked_in made c.in-Ok.read pass) (made_is call c.in-Ok.read _ _ start pass c.in-Ok.ensures.more way_in) c.advance_in.ensures.asks)
