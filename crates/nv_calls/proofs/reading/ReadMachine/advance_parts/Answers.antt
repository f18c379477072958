-- Its read makes the step, in front of the machine's room and in that of the parts, and goes on from there.
use Rattle.std.proofs.Common.{◌≡◌, length, take, sym, ap, subst, inr, ◌∙◌, rules}
use Rattle.std.specs.List.{sum}
use Rattle.nv_plain.specs.declared.call.FileCall.TheVariants.{Read, Readv}
use Rattle.nv_core.specs.state.Passes.{at_of, file_of, plain_call}
use Rattle.nv_core.specs.state.Words.{Sizes}
use Rattle.nv_core.specs.steps.Opening.{IsMount}
use Rattle.nv_table.specs.state.Opened.{Opened, mount_of}
use Rattle.nv_cache.specs.RunningReads.{IsUnderWay, asked_in, made_call}
use Rattle.nv_cache.proofs.AskedLaws.{made_is}
use Rattle.nv_calls.specs.calls.Asks.{asks_readv}
use Rattle.nv_calls.specs.reads.ReadMachines.{IsBegunAs, got_now, got_so_far}
use Rattle.nv_calls.specs.reads.Reads.{HaveGot}
use Rattle.nv_calls.proofs.reads.MachineLaws.{goes_after_parts, steps_on}
use Rattle.nv_calls.proofs.reads.PartLaws.{asked_is, got_so}
use Rattle.nv_calls.proofs.reading.ReadMachine.advance_parts.Goals as goal

pub advance_in_parts-requires-clause-way : goal.advance_in_parts-requires-clause-way
advance_in_parts-requires-clause-way g c =
    let m = c.args.self.now in
    let pass = c.args.pass.now in
    let lens = c.args.parts.now.lens in
    let list = c.args.parts.now.list in
    let emptied = c.empty.ensures in
    let start = c.requires.under_way.0 in
    let of = c.in-Ok.ensures.way (asks_readv m.at lens) list start pass (ap (λ (o : Opened). o.sizes) c.requires.board.same_mount) c.requires.under_way.1 in
    let page : pass.view.opened.sizes.page ≡ c.layout-page.result.page = search rules in
    let call = Read of.file m.at m.len in
    let way = subst (λ n. IsUnderWay call c.in-Ok.read list (take n m.room) start pass) page of.way in
    let total : sum c.empty.new.self.lens ≡ m.len = sym emptied.got.1 ∙ ap length emptied.list ∙ c.requires.under_way.1.size in
    let plain : plain_call (Readv (file_of (made_call c.in-Ok.read)) (at_of (made_call c.in-Ok.read)) c.empty.new.self.lens) ≡ call =
    ap plain_call (asked_is (made_call c.in-Ok.read) of.file m.at m.len c.empty.new.self.lens (made_is call c.in-Ok.read _ _ start pass c.in-Ok.ensures.more way)) ∙ ap (Read of.file m.at) total in (
      start,
      subst (λ made. IsUnderWay made c.in-Ok.read c.empty.new.self.list (take c.layout-page.result.page m.room) start pass) (sym plain)
          (subst (λ l. IsUnderWay call c.in-Ok.read l (take c.layout-page.result.page m.room) start pass) (sym emptied.list) way),
    )

pub returns-clause-one : goal.returns-clause-one
returns-clause-one g c =
    let m = c.args.self.now in
    let begun = subst (λ (s : Sizes). IsBegunAs s c.args.mount.now.fds m c.in-Ok.read) (sym (ap (λ (o : Opened). o.sizes) c.requires.board.same_mount)) c.in-Ok.ensures in
    inr (steps_on c.args.mount.now.fds m m.room c.in-Ok.read c.advance_in_parts.new.read c.args.pass.now c.advance_in_parts.new.pass begun c.advance_in_parts.ensures.one)

pub returns-clause-got : goal.returns-clause-got
returns-clause-got g c =
    let after = c.advance_in_parts.new.read in
    let parts = c.advance_in_parts.new.parts in
    let got = c.advance_in_parts.ensures.got in
    let have : HaveGot (got_now after) c.args.parts.now parts = (got.0 ∙ c.empty.ensures.got.0, got.1, got.2, got.3) in
    subst (λ n. HaveGot n c.args.parts.now parts) (sym (ap got_so_far c.progress.ensures ∙ got_so after)) have

pub returns-clause-goes : goal.returns-clause-goes
returns-clause-goes g c start under_way =
    let m = c.args.self.now in
    let pass = c.args.pass.now in
    let fds = c.args.mount.now.fds in
    let lens = c.args.parts.now.lens in
    let before = c.args.parts.now.list in
    let emptied = c.empty.ensures in
    let new = c.advance_in_parts.new.pass in
    let parts = c.advance_in_parts.new.parts in
    let room = c.advance_in_parts.new.room in
    let read = c.in-Ok.read in
    let after = c.advance_in_parts.new.read in
    let of = c.in-Ok.ensures.way (asks_readv m.at lens) before start pass (ap (λ (o : Opened). o.sizes) c.requires.board.same_mount) under_way in
    let page : pass.view.opened.sizes.page ≡ c.layout-page.result.page = search rules in
    let same : new.view.opened ≡ pass.view.opened = search rules in
    let size : length room ≡ new.view.opened.sizes.page = search rules in
    let call = Read of.file m.at m.len in
    let way = subst (λ n. IsUnderWay call read before (take n m.room) start pass) page of.way in
    let way_in = subst (λ l. IsUnderWay call read l (take c.layout-page.result.page m.room) start pass) (sym emptied.list) way in
    let total : sum lens ≡ m.len = ap sum (sym emptied.got.0) ∙ sym emptied.got.1 ∙ ap length emptied.list ∙ under_way.size in
    let asked = asked_is (made_call read) of.file m.at m.len c.empty.new.self.lens (made_is call read _ _ start pass c.in-Ok.ensures.more way) ∙ ap (Readv of.file m.at) emptied.got.0 in
    goes_after_parts c.runs_are_sound.ensures.runs c.passes_are_left_alone.ensures.own fds m lens parts room _ read after start pass new c.progress.result (c.advance_in_parts.ensures.got.0 ∙ emptied.got.0) total
    (subst (λ (o : Opened). IsMount (mount_of o)) (sym same) c.sees_a_run.ensures.mount) size c.progress.ensures c.advance_in_parts.ensures.settled (before, of) (c.advance_in_parts.ensures.way call start way_in)
    (subst (λ made. asked_in made after new ≡ asked_in made read pass) asked c.advance_in_parts.ensures.asks)
