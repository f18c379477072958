use Rattle.std.proofs.Common.{[], ◌≡◌, ◌∷◌, ◌+◌, ℕ, List, ◌-◌, ◌^◌, ◌≤◌, Ok, Some, IfSome, length, map, max, option_map, sum_by, sym, ap, subst, ◌∙◌, arith}
use Rattle.std.proofs.lemmas.List.{length-map}
use Rattle.std.proofs.lemmas.Result.{IfOk-weaker, on_ok_weaker}
use Rattle.nv_plain.specs.Faults.{Rose, saturated}
use Rattle.nv_plain.specs.Layouts.{mount_layout}
use Rattle.nv_bench.specs.Benches.{BenchState, told_back, left_last}
use Rattle.nv_bench.specs.Holding.{Holding, IsQuietHolding}
use Rattle.nv_bench.specs.Powered.{powered}
use Rattle.nv_header.specs.FileNames.{AreFileNames}
use Rattle.nv_core.specs.steps.Opening.{IsMount}
use Rattle.nv_table.specs.state.Opened.{Opened, mount_of}
use Rattle.nv_mount.specs.Telling.{mounted_lines}
use Rattle.nv_mount.specs.RisenCounts.{SawStop, failed_before}
use Rattle.nv_runner.specs.Faithful.{Basis}
use Rattle.nv_top.specs.Runs.{BeginsMount}
use Rattle.nv_schedule.specs.Cuts.{CutTells}
use Rattle.nv_schedule.specs.CoreRuns.{HasRunInCore}
use Rattle.nv_schedule.specs.declared.scheduled.ScheduledCalls.{ScheduledCalls}
use Rattle.nv_top.specs.Commands.{HasRecovered}
use Rattle.nv_top.specs.Scheduling.{HasUsedTurns, ShowsOutcome, ShowsScheduled}
use Rattle.nv_top.specs.Stopping.{IsAway, IsOff, IsSettledStop}
use Rattle.nv_top.proofs.SchedulingLemmas.{armed_at_all, armed_at_some, failed_cut, has_scheduled, has_used, of_trace, ok_settled, on_any, settled_memory, still_all, still_some, uncut_low, uncut_same}
use Rattle.nv_top.proofs.PoweredHomes.{part_shown, parts_counted, store_shown}
use Rattle.nv_top.proofs.StoppingLemmas.{HasClosedOver, at_some, failed_same, home_with, if_some, left_behind, none_unless, quiet_after, rose_home}
use Rattle.nv_top.proofs.UnrefusedLemmas.{never_refused}
use Rattle.nv_top.specs.Lives.{HasLived, TellsNothing}
use Rattle.nv_top.proofs.ScheduleLifeLemmas.{scheduled_home, scheduled_recovered}
use Rattle.nv_top.proofs.scheduling.schedule_mount.Goals as goal

pub show_outcome-requires-clause-at_home : goal.show_outcome-requires-clause-at_home
show_outcome-requires-clause-at_home g c κs within =
    let state = g.T.Bench.state in
    let Quiet : BenchState → Type 0 = λ s. IfSome s.told IsQuietHolding in
    record {
      closed = ap (λ (s : BenchState). s.is_open) c.in_ok-power.ensures.off ∙ ap (λ (s : BenchState). s.is_open) c.give_back.ensures.taken;
      home = ap (λ (s : BenchState). s.lent) c.in_ok-power.ensures.off ∙ ap (λ (s : BenchState). s.lent) c.give_back.ensures.taken;
      quiet =
          subst Quiet (sym c.in_ok-power.ensures.off)
          (quiet_after c.args.options.image (state c.give_back.new.self).told c.power_leaves_an_image.ensures (λ holding is. g.met.T.Bench.whole c.give_back.new.self holding is));
    }

pub returns-clause-scheduled : goal.returns-clause-scheduled
returns-clause-scheduled g c =
    let state = g.T.Bench.state in
    let start = state c.args.bench.now in
    let home = state c.give_back.new.self in
    let off = state c.power.new.self in
    let last = state c.show_outcome.new.bench in
    let mount = c.args.mount in
    let pass = c.args.pass in
    let trace = c.args.trace.now in
    let options = c.args.options in
    let place = c.args.place in
    let final = c.args.last in
    let armed = state c.run_schedule-closed.new.bench in
    let outcome = c.run_schedule-closed.result.outcome in
    let came = c.run_schedule-closed.result.closed in
    let ran = c.run_schedule-closed.ensures.ran in
    let zero = ran.0 in
    let parts = map g.T.Part.Lines.history came.parts.items in
    let held = map g.T.Store.Backing.history came.stores.items in
    let sums = sum_by g.T.Part.Lines.fault_count came.parts.items + sum_by g.T.Store.Backing.fault_count came.stores.items in
    let many : length held ≡ mount.board.opened.sizes.files = length-map came.stores.items g.T.Store.Backing.history ∙ ran.2.many_stores in
    let failed : Type 0 = Rose (saturated (start.faults + failed_before pass)) last.faults in
    let many_made = 1 + mount.board.opened.sizes.entries + length pass.spare in
    let home_faults : home.faults ≡ saturated (start.faults + sums) =
    ap (λ (s : BenchState). s.faults) c.give_back.ensures.taken ∙ ap (λ (s : BenchState). saturated (s.faults + sums)) c.run_schedule-closed.ensures.armed in
    let no_less : saturated (start.faults + sums) ≤ last.faults =
    omega (arith, home_faults, ap (λ (s : BenchState). s.faults) c.in_ok-power.ensures.off, c.show_outcome.ensures.never_falls) in
    let saw : SawStop zero.view → failed = λ seen.
    rose_home start.faults (failed_before pass) sums last.faults no_less (subst (λ count. Rose count sums) (failed_same pass zero ran.1.opened ran.1.spare) (ran.3.stopped seen)) in
    IfOk-weaker c.show_outcome.result
    (λ lines. IfSome off.told (λ holding. ShowsOutcome place final holding outcome last.told lines))
    (λ lines. (basis : Basis) → BeginsMount basis trace mount pass → basis.names ≡ start.lent
    → IfSome start.told (λ left. IsAway basis.names left → ShowsScheduled failed options start.picked basis trace many_made left.stores last place final lines))
    (λ lines shown basis begins named.
    if_some start.told (λ left. IsAway basis.names left → ShowsScheduled failed options start.picked basis trace many_made left.stores last place final lines)
    (λ left told_is away.
    let over : HasClosedOver basis trace mount pass zero _ _ parts held sums came.placed came.tail = record {
      begins = begins;
      new = c.requires.new;
      opened = ran.1.opened;
      spare = ran.1.spare;
      closed = ran.3;
    } in
    let allowed : AreFileNames mount_layout basis.names = subst (λ names. AreFileNames mount_layout names) (sym named) c.requires.names in
    let behind =
    left_behind basis trace mount pass zero _ _ parts held sums came.placed came.tail over c.power_leaves_an_image.ensures (omega (arith, ran.2.many_parts, length-map came.parts.items g.T.Part.Lines.history)) many
    (part_shown g.T.Part.Lines.device g.T.Part.Lines.history g.T.Part.Lines.fault_count g.T.Part.Lines.room came.parts.items)
    (store_shown g.T.Store.Backing.device g.T.Store.Backing.history g.T.Store.Backing.fault_count came.stores.items)
    allowed options.image left (at_some start.told IsQuietHolding left told_is c.requires.quiet).stores home.told off.told
    (λ now disks now_are disks_are. c.give_back.ensures.told now disks now_are disks_are
    ∙ ap (λ (s : BenchState). told_back now disks s) c.run_schedule-closed.ensures.armed
    ∙ ap (λ (told : _). option_map (λ (holding : Holding). home_with holding start.lent now disks) told) told_is
    ∙ ap (λ names. Some (home_with left names now disks)) (sym named))
    (ap (λ (s : BenchState). s.told) c.in_ok-power.ensures.off) (λ holding is. g.met.T.Bench.whole c.give_back.new.self holding is) away in
    has_scheduled basis trace mount pass zero _ _ parts held sums came.placed came.tail over options start armed outcome
    (of_trace c.args.mount c.args.trace.now c.args.options.batch c.args.pass ran.0 start armed c.run_schedule-closed.result.outcome c.tokens.result.now c.calls.result.now c.tokens.ensures.tokens c.calls.ensures.calls ran.1) c.requires.cache failed saw allowed c.requires.trace.well_formed (omega (arith, c.requires.trace.few)) c.requires.trace.lines c.requires.no_rounds (subst (λ (o : Opened). IsMount (mount_of o)) c.requires.board.same_mount c.sees_a_run.ensures.mount)
    (c.schedules_run_in_the_core.ensures mount trace.tokens trace.calls options.batch pass zero start armed c.run_schedule-closed.result.outcome
    (of_trace c.args.mount c.args.trace.now c.args.options.batch c.args.pass ran.0 start armed c.run_schedule-closed.result.outcome c.tokens.result.now c.calls.result.now c.tokens.ensures.tokens c.calls.ensures.calls ran.1))
    c.schedules_begin_in_order.ensures c.schedules_are_told.ensures.told c.schedules_are_told.ensures.legal c.schedules_are_faithful.ensures c.history_of_threads_is_legal.ensures.files c.open_calls_are_the_faults.ensures.kept
    c.images_stand_for_files.ensures.files start.picked last place final lines behind.before behind.after
    (at_some off.told (λ holding. ShowsOutcome place final holding outcome last.told lines) behind.after behind.off_is shown)
    (ap left_last c.show_outcome.ensures.back ∙ ap left_last c.in_ok-power.ensures.off
    ∙ ap (option_map (powered options.image)) behind.given_is ∙ ap Some (sym behind.after_is))
    (ap (λ (s : BenchState). s.picked) c.show_outcome.ensures.back ∙ ap (λ (s : BenchState). s.picked) c.in_ok-power.ensures.off
    ∙ ap (λ (s : BenchState). options.image ∷ s.picked) c.give_back.ensures.taken ∙ ap (λ (s : BenchState). options.image ∷ s.picked) c.run_schedule-closed.ensures.armed)
    behind.cells behind.after_is many_made
    (behind.many_are ∙ length-map came.parts.items g.T.Part.Lines.history
    ∙ parts_counted _ came.parts.items (1 + mount.board.opened.sizes.entries) pass.spare ran.2.many_parts (ran.2.same_spare ∙ ran.1.spare))
    left.stores behind.others_are behind.whole))
    c.show_outcome.ensures.shown

pub returns-clause-never : goal.returns-clause-never
returns-clause-never g c why is basis begins named =
    let state = g.T.Bench.state in
    let start = state c.args.bench.now in
    let home = state c.give_back.new.self in
    let off = state c.power.new.self in
    let mount = c.args.mount in
    let pass = c.args.pass in
    let trace = c.args.trace.now in
    let came = c.run_schedule-closed.result.closed in
    let ran = c.run_schedule-closed.ensures.ran in
    let zero = ran.0 in
    let parts = map g.T.Part.Lines.history came.parts.items in
    let held = map g.T.Store.Backing.history came.stores.items in
    let sums = sum_by g.T.Part.Lines.fault_count came.parts.items + sum_by g.T.Store.Backing.fault_count came.stores.items in
    let many : length held ≡ mount.board.opened.sizes.files = length-map came.stores.items g.T.Store.Backing.history ∙ ran.2.many_stores in
    none_unless start.told (λ left told_is.
    let over : HasClosedOver basis trace mount pass zero _ _ parts held sums came.placed came.tail = record {
      begins = begins;
      new = c.requires.new;
      opened = ran.1.opened;
      spare = ran.1.spare;
      closed = ran.3;
    } in
    never_refused basis trace mount pass zero _ _ parts held sums came.placed came.tail over c.power_leaves_an_image.ensures c.images_stand_for_files.ensures.good
    c.a_header_has_one_answer.ensures.not_unread many c.args.options.image left home.told off.told
    (λ now disks now_are disks_are. c.give_back.ensures.told now disks now_are disks_are
    ∙ ap (λ (s : BenchState). told_back now disks s) c.run_schedule-closed.ensures.armed
    ∙ ap (λ (told : _). option_map (λ (holding : Holding). home_with holding start.lent now disks) told) told_is
    ∙ ap (λ names. Some (home_with left names now disks)) (sym named))
    (ap (λ (s : BenchState). s.told) c.in_ok-power.ensures.off) (λ holding is. g.met.T.Bench.whole c.give_back.new.self holding is) why
    (c.show_outcome.ensures.refused why is))

pub returns-then-has_failed-clause-cause : goal.returns-then-has_failed-clause-cause
returns-then-has_failed-clause-cause g c =
    let state = g.T.Bench.state in
    let start = state c.args.bench.now in
    let home = state c.give_back.new.self in
    let cut = c.run_schedule-closed.result.cut in
    let failed = c.has_failed.ensures.failed c.if-has_failed.true in
    let same : state c.run_schedule-closed.new.bench ≡ start = subst (λ cut. CutTells cut start (state c.run_schedule-closed.new.bench)) failed.0 c.run_schedule-closed.ensures.cut in
    let settled : home.settled ≡ start.settled = ap (λ (s : BenchState). s.settled) c.give_back.ensures.taken ∙ ap (λ (s : BenchState). s.settled) same in
    let low = c.requires.settled in
    let more = failed.1 in
    let most : home.faults ≤ 2 ^ 64 - 1 = (let is = ap (λ (s : BenchState). s.faults) c.give_back.ensures.taken in omega (arith, is)) in
    record { never_falls = omega (arith, settled, low, more); more = omega (arith, settled, low, more, most) }

pub returns-in_err-power-clause-cause : goal.returns-in_err-power-clause-cause
returns-in_err-power-clause-cause g c =
    let state = g.T.Bench.state in
    let start = state c.args.bench.now in
    let armed = state c.run_schedule-closed.new.bench in
    let home = state c.give_back.new.self in
    let off = state c.power.new.self in
    let most : home.faults ≤ 2 ^ 64 - 1 = (let is = ap (λ (s : BenchState). s.faults) c.give_back.ensures.taken in omega (arith, is)) in
    let kept = ap (λ (s : BenchState). s.settled) c.give_back.ensures.taken in
    settled_memory c.from_residual.result (max c.args.before off.settled) off.faults c.from_residual.ensures.1
    (subst (λ (s : BenchState). s.faults ≤ max c.args.before s.settled) (sym c.in_err-power.ensures.memory)
    (failed_cut c.run_schedule-closed.result.cut start armed home c.args.before c.run_schedule-closed.ensures.cut (c.has_failed.ensures.sound c.if-has_failed.false) kept most))

pub returns-clause-cause : goal.returns-clause-cause
returns-clause-cause g c =
    let state = g.T.Bench.state in
    let start = state c.args.bench.now in
    let home = state c.give_back.new.self in
    let off = state c.power.new.self in
    let last = state c.show_outcome.new.bench in
    let came = c.run_schedule-closed.result.closed in
    let ran = c.run_schedule-closed.ensures.ran in
    let sums = sum_by g.T.Part.Lines.fault_count came.parts.items + sum_by g.T.Store.Backing.fault_count came.stores.items in
    let grew : failed_before c.args.pass ≤ sums = subst (λ count. count ≤ sums) (failed_same c.args.pass ran.0 ran.1.opened ran.1.spare) ran.3.grew in
    let home_faults : home.faults ≡ saturated (start.faults + sums) =
    ap (λ (s : BenchState). s.faults) c.give_back.ensures.taken ∙ ap (λ (s : BenchState). saturated (s.faults + sums)) c.run_schedule-closed.ensures.armed in
    let off_faults = ap (λ (s : BenchState). s.faults) c.in_ok-power.ensures.off in
    let settled : last.settled ≡ home.faults = ap (λ (s : BenchState). s.settled) c.show_outcome.ensures.back ∙ ap (λ (s : BenchState). s.settled) c.in_ok-power.ensures.off in
    let before = c.requires.before in
    subst (λ count. IsSettledStop count last.faults c.show_outcome.result) (omega (arith, grew, home_faults, off_faults, settled, before)) c.show_outcome.ensures.cause

pub returns-clause-never_falls : goal.returns-clause-never_falls
returns-clause-never_falls g c =
    let state = g.T.Bench.state in
    let start = state c.args.bench.now in
    let home = state c.give_back.new.self in
    let came = c.run_schedule-closed.result.closed in
    let ran = c.run_schedule-closed.ensures.ran in
    let sums = sum_by g.T.Part.Lines.fault_count came.parts.items + sum_by g.T.Store.Backing.fault_count came.stores.items in
    let grew : failed_before c.args.pass ≤ sums = subst (λ count. count ≤ sums) (failed_same c.args.pass ran.0 ran.1.opened ran.1.spare) ran.3.grew in
    let home_faults : home.faults ≡ saturated (start.faults + sums) =
    ap (λ (s : BenchState). s.faults) c.give_back.ensures.taken ∙ ap (λ (s : BenchState). saturated (s.faults + sums)) c.run_schedule-closed.ensures.armed in
    let off_faults = ap (λ (s : BenchState). s.faults) c.in_ok-power.ensures.off in
    let more = c.show_outcome.ensures.never_falls in
    let before = c.requires.before in
    omega (arith, grew, home_faults, off_faults, more, before)

pub returns-then-has_failed-clause-cuts : goal.returns-then-has_failed-clause-cuts
returns-then-has_failed-clause-cuts g c =
    let state = g.T.Bench.state in
    let tokens = c.args.trace.now.tokens in
    let start = state c.args.bench.now in
    let armed = state c.run_schedule-closed.new.bench in
    let ran = c.run_schedule-closed.ensures.ran in
    still_some tokens start armed (state c.give_back.new.self)
    (armed_at_some c.args.mount tokens c.args.trace.now.calls c.args.options.batch ran.0 start armed c.run_schedule-closed.result.outcome
    (of_trace c.args.mount c.args.trace.now c.args.options.batch c.args.pass ran.0 start armed c.run_schedule-closed.result.outcome c.tokens.result.now c.calls.result.now c.tokens.ensures.tokens c.calls.ensures.calls ran.1).told)
    (ap (λ (s : BenchState). s.arms) c.give_back.ensures.taken) (ap (λ (s : BenchState). s.armed) c.give_back.ensures.taken)

pub returns-in_err-power-clause-cuts : goal.returns-in_err-power-clause-cuts
returns-in_err-power-clause-cuts g c =
    let state = g.T.Bench.state in
    let tokens = c.args.trace.now.tokens in
    let start = state c.args.bench.now in
    let armed = state c.run_schedule-closed.new.bench in
    let ran = c.run_schedule-closed.ensures.ran in
    still_some tokens start armed (state c.power.new.self)
    (armed_at_some c.args.mount tokens c.args.trace.now.calls c.args.options.batch ran.0 start armed c.run_schedule-closed.result.outcome
    (of_trace c.args.mount c.args.trace.now c.args.options.batch c.args.pass ran.0 start armed c.run_schedule-closed.result.outcome c.tokens.result.now c.calls.result.now c.tokens.ensures.tokens c.calls.ensures.calls ran.1).told)
    (ap (λ (s : BenchState). s.arms) c.in_err-power.ensures.memory ∙ ap (λ (s : BenchState). s.arms) c.give_back.ensures.taken)
    (ap (λ (s : BenchState). s.armed) c.in_err-power.ensures.memory ∙ ap (λ (s : BenchState). s.armed) c.give_back.ensures.taken)

pub returns-clause-cuts : goal.returns-clause-cuts
returns-clause-cuts g c =
    let state = g.T.Bench.state in
    let tokens = c.args.trace.now.tokens in
    let start = state c.args.bench.now in
    let armed = state c.run_schedule-closed.new.bench in
    let ran = c.run_schedule-closed.ensures.ran in
    still_some tokens start armed (state c.show_outcome.new.bench)
    (armed_at_some c.args.mount tokens c.args.trace.now.calls c.args.options.batch ran.0 start armed c.run_schedule-closed.result.outcome
    (of_trace c.args.mount c.args.trace.now c.args.options.batch c.args.pass ran.0 start armed c.run_schedule-closed.result.outcome c.tokens.result.now c.calls.result.now c.tokens.ensures.tokens c.calls.ensures.calls ran.1).told)
    (ap (λ (s : BenchState). s.arms) c.show_outcome.ensures.back ∙ ap (λ (s : BenchState). s.arms) c.in_ok-power.ensures.off ∙ ap (λ (s : BenchState). s.arms) c.give_back.ensures.taken)
    (ap (λ (s : BenchState). s.armed) c.show_outcome.ensures.back ∙ ap (λ (s : BenchState). s.armed) c.in_ok-power.ensures.off ∙ ap (λ (s : BenchState). s.armed) c.give_back.ensures.taken)

pub returns-clause-all_cuts : goal.returns-clause-all_cuts
returns-clause-all_cuts g c =
    let state = g.T.Bench.state in
    let tokens = c.args.trace.now.tokens in
    let start = state c.args.bench.now in
    let armed = state c.run_schedule-closed.new.bench in
    let last = state c.show_outcome.new.bench in
    let outcome = c.run_schedule-closed.result.outcome in
    let ran = c.run_schedule-closed.ensures.ran in
    on_ok_weaker c.show_outcome.result (λ (followed : (calls : ScheduledCalls) × (outcome ≡ Ok calls)).
    still_all tokens start armed last (armed_at_all c.args.mount tokens c.args.trace.now.calls c.args.options.batch ran.0 start armed outcome
    (of_trace c.args.mount c.args.trace.now c.args.options.batch c.args.pass ran.0 start armed c.run_schedule-closed.result.outcome c.tokens.result.now c.calls.result.now c.tokens.ensures.tokens c.calls.ensures.calls ran.1).told followed.0 followed.1)
    (ap (λ (s : BenchState). s.arms) c.show_outcome.ensures.back ∙ ap (λ (s : BenchState). s.arms) c.in_ok-power.ensures.off ∙ ap (λ (s : BenchState). s.arms) c.give_back.ensures.taken)
    (ap (λ (s : BenchState). s.armed) c.show_outcome.ensures.back ∙ ap (λ (s : BenchState). s.armed) c.in_ok-power.ensures.off ∙ ap (λ (s : BenchState). s.armed) c.give_back.ensures.taken))
    c.show_outcome.ensures.followed

pub returns-then-has_failed-clause-life : goal.returns-then-has_failed-clause-life
returns-then-has_failed-clause-life g c basis begins named =
    let state = g.T.Bench.state in
    let start = state c.args.bench.now in
    let armed = state c.run_schedule-closed.new.bench in
    let home = state c.give_back.new.self in
    let trace = c.args.trace.now in
    let outcome = c.run_schedule-closed.result.outcome in
    let came = c.run_schedule-closed.result.closed in
    let ran = c.run_schedule-closed.ensures.ran in
    let many = length-map came.stores.items g.T.Store.Backing.history ∙ ran.2.many_stores in
    let made = mounted_lines (mount_of c.args.mount.board.opened) c.args.pass.spare in
    let scheduled =
    of_trace c.args.mount trace c.args.options.batch c.args.pass ran.0 start armed outcome c.tokens.result.now c.calls.result.now c.tokens.ensures.tokens c.calls.ensures.calls ran.1 in
    scheduled_home g.T.Part.Lines.history g.T.Store.Backing.history trace c.args.mount c.args.pass ran.0 _ _ came.parts.items came.stores.items _ came.placed came.tail c.args.options.batch start armed outcome home.told c.schedules_leave_lives.ensures
    c.requires.trace.well_formed c.requires.trace.lines c.requires.no_rounds c.requires.new scheduled ran.3 many c.requires.names c.run_schedule-closed.ensures.armed c.give_back.ensures.told (λ holding is. g.met.T.Bench.whole c.give_back.new.self holding is)
    basis begins named

pub returns-in_err-power-clause-life : goal.returns-in_err-power-clause-life
returns-in_err-power-clause-life g c basis begins named =
    let state = g.T.Bench.state in
    let start = state c.args.bench.now in
    let armed = state c.run_schedule-closed.new.bench in
    let home = state c.give_back.new.self in
    let trace = c.args.trace.now in
    let outcome = c.run_schedule-closed.result.outcome in
    let came = c.run_schedule-closed.result.closed in
    let ran = c.run_schedule-closed.ensures.ran in
    let many = length-map came.stores.items g.T.Store.Backing.history ∙ ran.2.many_stores in
    let made = mounted_lines (mount_of c.args.mount.board.opened) c.args.pass.spare in
    let scheduled =
    of_trace c.args.mount trace c.args.options.batch c.args.pass ran.0 start armed outcome c.tokens.result.now c.calls.result.now c.tokens.ensures.tokens c.calls.ensures.calls ran.1 in
    let lived =
    scheduled_home g.T.Part.Lines.history g.T.Store.Backing.history trace c.args.mount c.args.pass ran.0 _ _ came.parts.items came.stores.items _ came.placed came.tail c.args.options.batch start armed outcome home.told c.schedules_leave_lives.ensures
    c.requires.trace.well_formed c.requires.trace.lines c.requires.no_rounds c.requires.new scheduled ran.3 many c.requires.names c.run_schedule-closed.ensures.armed c.give_back.ensures.told (λ holding is. g.met.T.Bench.whole c.give_back.new.self holding is)
    basis begins named in
    subst (λ told. IfSome start.told (λ left. IsAway basis.names left → HasLived TellsNothing basis trace [] made left.stores told)) (sym (ap (λ (s : BenchState). s.told) c.in_err-power.ensures.memory)) lived

pub returns-clause-life : goal.returns-clause-life
returns-clause-life g c basis begins named =
    let state = g.T.Bench.state in
    let start = state c.args.bench.now in
    let armed = state c.run_schedule-closed.new.bench in
    let home = state c.give_back.new.self in
    let trace = c.args.trace.now in
    let outcome = c.run_schedule-closed.result.outcome in
    let came = c.run_schedule-closed.result.closed in
    let ran = c.run_schedule-closed.ensures.ran in
    let many = length-map came.stores.items g.T.Store.Backing.history ∙ ran.2.many_stores in
    let made = mounted_lines (mount_of c.args.mount.board.opened) c.args.pass.spare in
    let scheduled =
    of_trace c.args.mount trace c.args.options.batch c.args.pass ran.0 start armed outcome c.tokens.result.now c.calls.result.now c.tokens.ensures.tokens c.calls.ensures.calls ran.1 in
    let off = state c.power.new.self in
    let last = state c.show_outcome.new.bench in
    let lived =
    scheduled_home g.T.Part.Lines.history g.T.Store.Backing.history trace c.args.mount c.args.pass ran.0 _ _ came.parts.items came.stores.items _ came.placed came.tail c.args.options.batch start armed outcome home.told c.schedules_leave_lives.ensures
    c.requires.trace.well_formed c.requires.trace.lines c.requires.no_rounds c.requires.new scheduled ran.3 many c.requires.names c.run_schedule-closed.ensures.armed c.give_back.ensures.told (λ holding is. g.met.T.Bench.whole c.give_back.new.self holding is)
    basis begins named in
    let Home : Holding → Type 0 = λ left. IsAway basis.names left → HasLived TellsNothing basis trace [] made left.stores home.told in
    if_some start.told (λ left. IsAway basis.names left → HasLived TellsNothing basis trace [] made left.stores last.told) (λ left told_is away.
    scheduled_recovered basis trace c.args.options.image made left.stores (at_some start.told IsQuietHolding left told_is c.requires.quiet).stores home.told off.told last.told c.images_follow_calls.ensures.quiet c.power_leaves_an_image.ensures (λ holding is. g.met.T.Bench.whole c.give_back.new.self holding is)
    (ap (λ (s : BenchState). s.told) c.in_ok-power.ensures.off) c.show_outcome.ensures.standing (at_some start.told Home left told_is lived away))

pub returns-clause-used : goal.returns-clause-used
returns-clause-used g c is basis begins named =
    let state = g.T.Bench.state in
    let start = state c.args.bench.now in
    let home = state c.give_back.new.self in
    let off = state c.power.new.self in
    let last = state c.show_outcome.new.bench in
    let mount = c.args.mount in
    let pass = c.args.pass in
    let trace = c.args.trace.now in
    let options = c.args.options in
    let armed = state c.run_schedule-closed.new.bench in
    let came = c.run_schedule-closed.result.closed in
    let ran = c.run_schedule-closed.ensures.ran in
    let zero = ran.0 in
    let parts = map g.T.Part.Lines.history came.parts.items in
    let held = map g.T.Store.Backing.history came.stores.items in
    let sums = sum_by g.T.Part.Lines.fault_count came.parts.items + sum_by g.T.Store.Backing.fault_count came.stores.items in
    let many : length held ≡ mount.board.opened.sizes.files = length-map came.stores.items g.T.Store.Backing.history ∙ ran.2.many_stores in
    let failed : Type 0 = Rose (saturated (start.faults + failed_before pass)) last.faults in
    let many_made = 1 + mount.board.opened.sizes.entries + length pass.spare in
    let home_faults : home.faults ≡ saturated (start.faults + sums) =
    ap (λ (s : BenchState). s.faults) c.give_back.ensures.taken ∙ ap (λ (s : BenchState). saturated (s.faults + sums)) c.run_schedule-closed.ensures.armed in
    let no_less : saturated (start.faults + sums) ≤ last.faults =
    omega (arith, home_faults, ap (λ (s : BenchState). s.faults) c.in_ok-power.ensures.off, c.show_outcome.ensures.never_falls) in
    let saw : SawStop zero.view → failed = λ seen.
    rose_home start.faults (failed_before pass) sums last.faults no_less (subst (λ count. Rose count sums) (failed_same pass zero ran.1.opened ran.1.spare) (ran.3.stopped seen)) in
    if_some start.told (λ left. IsAway basis.names left → HasUsedTurns failed options basis trace many_made left.stores start last)
    (λ left told_is away.
    let over : HasClosedOver basis trace mount pass zero _ _ parts held sums came.placed came.tail = record {
      begins = begins;
      new = c.requires.new;
      opened = ran.1.opened;
      spare = ran.1.spare;
      closed = ran.3;
    } in
    let allowed : AreFileNames mount_layout basis.names = subst (λ names. AreFileNames mount_layout names) (sym named) c.requires.names in
    let behind =
    left_behind basis trace mount pass zero _ _ parts held sums came.placed came.tail over c.power_leaves_an_image.ensures (omega (arith, ran.2.many_parts, length-map came.parts.items g.T.Part.Lines.history)) many
    (part_shown g.T.Part.Lines.device g.T.Part.Lines.history g.T.Part.Lines.fault_count g.T.Part.Lines.room came.parts.items)
    (store_shown g.T.Store.Backing.device g.T.Store.Backing.history g.T.Store.Backing.fault_count came.stores.items)
    allowed options.image left (at_some start.told IsQuietHolding left told_is c.requires.quiet).stores home.told off.told
    (λ now disks now_are disks_are. c.give_back.ensures.told now disks now_are disks_are
    ∙ ap (λ (s : BenchState). told_back now disks s) c.run_schedule-closed.ensures.armed
    ∙ ap (λ (told : _). option_map (λ (holding : Holding). home_with holding start.lent now disks) told) told_is
    ∙ ap (λ names. Some (home_with left names now disks)) (sym named))
    (ap (λ (s : BenchState). s.told) c.in_ok-power.ensures.off) (λ holding is. g.met.T.Bench.whole c.give_back.new.self holding is) away in
    let recovered = at_some off.told (λ holding. (text : List ℕ) × HasRecovered holding last.told text) behind.after behind.off_is (c.show_outcome.ensures.recovered is) in
    has_used basis trace mount pass zero _ _ parts held sums came.placed came.tail over options start armed
    (subst (HasRunInCore mount.board.opened mount.fds trace.tokens trace.calls options.batch zero.view start armed) (c.show_outcome.ensures.used is)
    (c.schedules_run_in_the_core.ensures mount trace.tokens trace.calls options.batch pass zero start armed c.run_schedule-closed.result.outcome
    (of_trace mount trace options.batch pass zero start armed c.run_schedule-closed.result.outcome c.tokens.result.now c.calls.result.now c.tokens.ensures.tokens c.calls.ensures.calls ran.1)))
    c.requires.cache failed saw c.images_stand_for_files.ensures.files last recovered.0 behind.before behind.after recovered.1
    (ap left_last c.show_outcome.ensures.back ∙ ap left_last c.in_ok-power.ensures.off
    ∙ ap (option_map (powered options.image)) behind.given_is ∙ ap Some (sym behind.after_is))
    (ap (λ (s : BenchState). s.picked) c.show_outcome.ensures.back ∙ ap (λ (s : BenchState). s.picked) c.in_ok-power.ensures.off
    ∙ ap (λ (s : BenchState). options.image ∷ s.picked) c.give_back.ensures.taken ∙ ap (λ (s : BenchState). options.image ∷ s.picked) c.run_schedule-closed.ensures.armed)
    behind.cells behind.after_is many_made
    (behind.many_are ∙ length-map came.parts.items g.T.Part.Lines.history
    ∙ parts_counted _ came.parts.items (1 + mount.board.opened.sizes.entries) pass.spare ran.2.many_parts (ran.2.same_spare ∙ ran.1.spare))
    left.stores behind.others_are
    (ap (λ (s : BenchState). s.arms) c.show_outcome.ensures.back ∙ ap (λ (s : BenchState). s.arms) c.in_ok-power.ensures.off ∙ ap (λ (s : BenchState). s.arms) c.give_back.ensures.taken)
    (ap (λ (s : BenchState). s.armed) c.show_outcome.ensures.back ∙ ap (λ (s : BenchState). s.armed) c.in_ok-power.ensures.off ∙ ap (λ (s : BenchState). s.armed) c.give_back.ensures.taken)
    behind.whole)

pub returns-clause-off : goal.returns-clause-off
returns-clause-off g c =
    let state = g.T.Bench.state in
    let options = c.args.options in
    let off : IsOff options.image (state c.args.bench.now) (state c.show_outcome.new.bench) = record {
      picked = ap (λ (s : BenchState). s.picked) c.show_outcome.ensures.back ∙ ap (λ (s : BenchState). s.picked) c.in_ok-power.ensures.off
          ∙ ap (λ (s : BenchState). options.image ∷ s.picked) c.give_back.ensures.taken ∙ ap (λ (s : BenchState). options.image ∷ s.picked) c.run_schedule-closed.ensures.armed;
      power = option_map (powered options.image) (state c.give_back.new.self).told;
      lefts = ap (λ (s : BenchState). s.lefts) c.show_outcome.ensures.back ∙ ap (λ (s : BenchState). s.lefts) c.in_ok-power.ensures.off
          ∙ ap (λ (s : BenchState). option_map (powered options.image) (state c.give_back.new.self).told ∷ s.lefts) c.give_back.ensures.taken
          ∙ ap (λ (s : BenchState). option_map (powered options.image) (state c.give_back.new.self).told ∷ s.lefts) c.run_schedule-closed.ensures.armed;
    } in
    on_any c.show_outcome.result off

pub returns-clause-uncut : goal.returns-clause-uncut
returns-clause-uncut g c =
    let state = g.T.Bench.state in
    let tokens = c.args.trace.now.tokens in
    let start = state c.args.bench.now in
    let armed = state c.run_schedule-closed.new.bench in
    let home = state c.give_back.new.self in
    let off = state c.power.new.self in
    let last = state c.show_outcome.new.bench in
    let outcome = c.run_schedule-closed.result.outcome in
    let ran = c.run_schedule-closed.ensures.ran in
    let most : home.faults ≤ 2 ^ 64 - 1 = (let is = ap (λ (s : BenchState). s.faults) c.give_back.ensures.taken in omega (arith, is)) in
    ok_settled c.show_outcome.result off.faults last.faults c.show_outcome.ensures.followed c.show_outcome.ensures.cause (λ followed same none.
    let as_before = uncut_same c.args.mount tokens c.args.trace.now.calls c.args.options.batch ran.0 start armed outcome
    (of_trace c.args.mount c.args.trace.now c.args.options.batch c.args.pass ran.0 start armed outcome c.tokens.result.now c.calls.result.now c.tokens.ensures.tokens c.calls.ensures.calls ran.1).told followed.0 followed.1 none in
    let low = uncut_low c.run_schedule-closed.result.cut start armed home c.args.before c.run_schedule-closed.ensures.cut as_before (c.has_failed.ensures.sound c.if-has_failed.false) c.requires.settled most in
    omega (arith, low, same, ap (λ (s : BenchState). s.faults) c.in_ok-power.ensures.off))
