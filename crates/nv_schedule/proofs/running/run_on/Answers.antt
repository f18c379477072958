-- What the callers followed stands in the run that pass 0 is told.
use Rattle.std.proofs.Common.{◌≡◌, false, List, length, sym, ap, subst, ◌∙◌, rules}
use Rattle.std.specs.Prelude.{All}
use Rattle.nv_table.specs.state.States.{PassState}
use Rattle.nv_table.specs.passes.PassesMade.{imported_by}
use Rattle.nv_table.specs.state.Views.{made_of}
use Rattle.nv_runner.specs.Workers.{IsZero}
use Rattle.nv_schedule.specs.Following.{IsWell, ScheduleTells, Stands}
use Rattle.nv_schedule.specs.Going.{AllGoOn, HaveBegun}
use Rattle.nv_schedule.specs.Ran.{RunTells}
use Rattle.nv_schedule.specs.Scheduled.{IsAside}
use Rattle.nv_schedule.specs.Turns.{CallerState}
use Rattle.nv_schedule.proofs.EndLaws.{aside_on, told_aside}
use Rattle.nv_schedule.proofs.RanLaws.{begun_fresh, begun_none, begun_on, fresh_stand, fresh_well, run_tells, written_whole, zero_told}
use Rattle.nv_schedule.proofs.running.run_on.Goals as goal

pub follow-after-requires-clause-stand : goal.follow-after-requires-clause-stand
follow-after-requires-clause-stand g c κs within =
    subst (All (Stands c.args.mount.now)) (sym c.as_mut_slice.ensures.value) (fresh_stand c.args.mount.now c.hire.new.callers.items c.hire.ensures.fresh)

pub follow-after-requires-clause-well : goal.follow-after-requires-clause-well
follow-after-requires-clause-well g c κs within = subst (All IsWell) (sym c.as_mut_slice.ensures.value) (fresh_well c.args.mount.now c.hire.new.callers.items c.hire.ensures.fresh)

pub returns-clause-tells : goal.returns-clause-tells
returns-clause-tells g c =
    let mount = c.args.mount.now in
    let tokens = c.args.tokens.now in
    let calls = c.args.calls.now in
    let done = c.follow-after.result.1 in
    let then_ = c.follow-after.new.callers in
    let len : c.hire.new.callers.len ≡ length c.hire.new.callers.items = search rules in
    let size : length then_ ≡ length c.hire.new.callers.items = c.follow-after.auto.callers ∙ ap length c.as_mut_slice.ensures.value in
    let bench = g.D.Bench.state c.args.bench.now in
    let armed = g.D.Bench.state c.follow-after.new.bench in
    let tells = subst (λ (first : List CallerState). ScheduleTells mount.fds false tokens first then_ c.export_view-view.result.run c.follow-after.result.0.run bench armed done) c.as_mut_slice.ensures.value c.follow-after.ensures.tells in
    subst (λ (callers : List CallerState). RunTells mount tokens calls c.args.batch callers c.import_view.new.to bench armed done) (sym (written_whole c.hire.new.callers.len c.hire.new.callers.items then_ len size))
    (subst (λ (zero : PassState). RunTells mount tokens calls c.args.batch then_ zero bench armed done) (sym c.import_view.ensures.to)
    (run_tells mount tokens calls c.args.batch c.hire.new.callers.items then_ c.export_view-view.new.from c.export_view-view.result.run c.follow-after.result.0.run bench armed done c.in_ok-hire.ensures.fresh c.in_ok-hire.ensures.works tells))

pub returns-clause-zero : goal.returns-clause-zero
returns-clause-zero g c =
    subst (IsZero c.args.mount.now) (sym c.import_view.ensures.to)
    (zero_told c.args.mount.now c.export_view-view.new.from c.follow-after.result.0.run (subst (IsZero c.args.mount.now) (sym c.export_view-view.ensures.from) c.hire.ensures.zero))

pub returns-clause-aside : goal.returns-clause-aside
returns-clause-aside g c =
    let after = c.follow-after.result.0.run in
    aside_on c.args.zero.now c.hire.new.zero c.import_view.new.to c.hire.ensures.aside
    (subst (IsAside c.hire.new.zero) (sym (c.import_view.ensures.to ∙ ap (λ (p : PassState). imported_by p after) c.export_view-view.ensures.from)) (told_aside c.hire.new.zero after))

pub returns-clause-ended : goal.returns-clause-ended
returns-clause-ended g c =
    ap (λ (p : PassState). p.view.ended) c.import_view.ensures.to ∙ ap (λ (p : PassState). p.view.ended) c.export_view-view.ensures.from ∙ c.hire.ensures.ended

pub returns-clause-count : goal.returns-clause-count
returns-clause-count g c =
    let then_ = c.follow-after.new.callers in
    let len : c.hire.new.callers.len ≡ length c.hire.new.callers.items = search rules in
    let size : length then_ ≡ length c.hire.new.callers.items = c.follow-after.auto.callers ∙ ap length c.as_mut_slice.ensures.value in
    ap (λ (p : PassState). made_of p.view) c.import_view.ensures.to
    ∙ ap (λ (p : PassState). made_of p.view) c.export_view-view.ensures.from
    ∙ c.hire.ensures.count
    ∙ sym size
    ∙ sym (ap length (written_whole c.hire.new.callers.len c.hire.new.callers.items then_ len size))

pub returns-clause-stand : goal.returns-clause-stand
returns-clause-stand g c =
    let then_ = c.follow-after.new.callers in
    let len : c.hire.new.callers.len ≡ length c.hire.new.callers.items = search rules in
    let size : length then_ ≡ length c.hire.new.callers.items = c.follow-after.auto.callers ∙ ap length c.as_mut_slice.ensures.value in
    subst (All (Stands c.args.mount.now)) (sym (written_whole c.hire.new.callers.len c.hire.new.callers.items then_ len size)) c.follow-after.ensures.stand

pub returns-in_err-hire-clause-stand : goal.returns-in_err-hire-clause-stand
returns-in_err-hire-clause-stand g c = fresh_stand c.args.mount.now c.hire.new.callers.items c.hire.ensures.fresh

pub returns-clause-begun : goal.returns-clause-begun
returns-clause-begun g c =
    let mount = c.args.mount.now in
    let calls = c.args.calls.now in
    let first = c.hire.new.callers.items in
    let then_ = c.follow-after.new.callers in
    let len : c.hire.new.callers.len ≡ length first = search rules in
    let size : length then_ ≡ length first = c.follow-after.auto.callers ∙ ap length c.as_mut_slice.ensures.value in
    subst (HaveBegun mount calls c.args.batch) (sym (written_whole c.hire.new.callers.len first then_ len size))
    (begun_on mount calls c.args.batch first then_ c.hire.ensures.fresh c.hire.ensures.some
    (subst (λ (callers : List CallerState). AllGoOn mount.fds callers then_) c.as_mut_slice.ensures.value c.follow-after.ensures.on))

pub returns-in_err-hire-clause-begun : goal.returns-in_err-hire-clause-begun
returns-in_err-hire-clause-begun g c = begun_fresh c.args.mount.now c.args.calls.now c.args.batch c.hire.new.callers.items c.hire.ensures.fresh c.hire.ensures.some

pub returns-in_err-workspace-clause-begun : goal.returns-in_err-workspace-clause-begun
returns-in_err-workspace-clause-begun g c = begun_none c.args.mount.now c.args.calls.now c.args.batch c.args.callers.now.items c.requires.none
