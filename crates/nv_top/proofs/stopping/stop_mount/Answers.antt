use Rattle.std.proofs.Common.{rules, ◌≡◌, ◌≢◌, ◌+◌, ◌≤◌, ◌∙◌, List, ℕ, map, refl, sum_by, sym, ap, subst, arith, length}
use Rattle.std.specs.Prelude.{◌++◌, [], IfSome, Result, Ok, Err, Option, Some, max}
use Rattle.std.proofs.lemmas.List.{length-map}
use Rattle.std.proofs.lemmas.Result.{IfOk-weaker}
use Rattle.nv_runner.specs.ToldRounds.{TellsRounds}
use Rattle.nv_plain.specs.Faults.{Rose, saturated}
use Rattle.nv_bench.specs.Benches.{BenchState}
use Rattle.nv_bench.specs.Holding.{Holding, IsQuietHolding}
use Rattle.nv_bench.specs.Laws.{AreWholeStores}
use Rattle.nv_mount.specs.RisenCounts.{failed_before}
use Rattle.nv_mount.specs.Telling.{mounted_lines}
use Rattle.nv_table.specs.state.Opened.{mount_of}
use Rattle.nv_runner.specs.EndedRuns.{HasOutcome}
use Rattle.nv_runner.specs.Faithful.{Basis}
use Rattle.nv_runner.specs.KeptRounds.{AreKeptOf}
use Rattle.nv_runner.specs.Reports.{history_lines}
use Rattle.nv_runner.specs.Sorted.{placed_call}
use Rattle.nv_runner.specs.declared.sorted.SortedCalls.{SortedCalls}
use Rattle.nv_runner.specs.declared.stream.StreamError.{StreamError}
use Rattle.nv_runner.specs.declared.stream.StreamError.TheVariants as ends
use Rattle.nv_top.specs.Ran.{answer_of}
use Rattle.nv_top.specs.Lives.{HasLived}
use Rattle.nv_top.specs.Runs.{BeginsMount}
use Rattle.nv_top.specs.Stopped.{HasStoppedBehind}
use Rattle.nv_top.specs.Stopping.{IsAway, IsSettledStop, ShowsRecovered}
use Rattle.nv_top.specs.declared.ending.Stop.TheVariants.{NoMemory}
use Rattle.nv_top.specs.declared.show.Show.TheVariants as shows
use Rattle.nv_top.proofs.RanLemmas.{runnable_all, streamed_on}
use Rattle.nv_top.proofs.ReportedLemmas.{counted_settled}
use Rattle.nv_top.proofs.StoppingLemmas.{quiet_after}
use Rattle.nv_top.proofs.StreamStopLemmas.{all_placed, as_error, as_told, given_up, kept_calls, memory_alone, memory_answered, never_told, never_wanting, stopped_home, stopped_off, stopped_recovered, told_behind}
use Rattle.nv_top.proofs.stopping.stop_mount.Goals as goal
use Rattle.nv_top.proofs.stopping.stop_mount.Goals.{in-Err+in-NoMemory-1, in-Ok-2}

abbrev as_ended : StreamError → Result (Unit {0}) StreamError
as_ended error = Err error

pub show_recovered-told-requires-clause-at_home : goal.show_recovered-told-requires-clause-at_home
show_recovered-told-requires-clause-at_home g c κs within =
    let state = g.T.Bench.state in
    let Quiet : BenchState → Type 0 = λ s. IfSome s.told IsQuietHolding in
    record {
      closed = ap (λ (s : BenchState). s.is_open) c.in_ok-power.ensures.off ∙ ap (λ (s : BenchState). s.is_open) c.give_back.ensures.taken;
      home = ap (λ (s : BenchState). s.lent) c.in_ok-power.ensures.off ∙ ap (λ (s : BenchState). s.lent) c.give_back.ensures.taken;
      quiet =
          subst Quiet (sym c.in_ok-power.ensures.off)
          (quiet_after c.args.plan.image (state c.give_back.new.self).told c.power_leaves_an_image.ensures (λ holding is. g.met.T.Bench.whole c.give_back.new.self holding is));
    }

pub returns-in-Err-Write-clause-ran : goal.returns-in-Err-Write-clause-ran
returns-in-Err-Write-clause-ran g c =
    let state = g.T.Bench.state in
    let start = state c.args.bench.now in
    let home = state c.give_back.new.self in
    let mount = c.args.mount in
    let pass = c.args.pass in
    let ended = c.run_stream-closed.result.ended in
    let calls = c.run_stream-closed.result.calls in
    let came = c.run_stream-closed.result.closed in
    let did = c.run_stream-closed.ensures in
    let zero = did.ran.0 in
    let stream = did.ran.1 in
    let by = did.ran.3 in
    let streamed =
    streamed_on shows.Report mount.fds c.args.plan pass c.args.input.now _ (g.I.Source.left c.run_stream-closed.new.src) _ _ _ _ _ _ ended calls zero stream did.at_end (λ last. ap g.I.Source.left (did.unread last)) did.read_failed did.read_kept did.write_failed did.write_kept refl in
    let runnable = runnable_all shows.Report c.args.input.now _ ended stream.all c.requires.input streamed.trace in
    let whole : (holding : Holding) → home.told ≡ Some holding → AreWholeStores holding = λ holding is. g.met.T.Bench.whole c.give_back.new.self holding is in
    let sums = sum_by g.T.Part.Lines.fault_count came.parts.items + sum_by g.T.Store.Backing.fault_count came.stores.items in
    let last_faults : ℕ = (home).faults in
    let failed : Type 0 = Rose (saturated (start.faults + failed_before pass)) last_faults in
    let home_faults : home.faults ≡ saturated (start.faults + sums) = ap (λ (s : BenchState). s.faults) c.give_back.ensures.taken ∙ ap (λ (s : BenchState). saturated (s.faults + sums)) c.arm.ensures in
    let no_less : saturated (start.faults + sums) ≤ last_faults = omega (arith, home_faults) in
    let came_home =
    stopped_home g.T.Part.Lines.history g.T.Store.Backing.history mount pass zero c.args.plan stream.all stream.outcome stream.shown _ _ came.parts.items came.stores.items _ came.placed came.tail c.args.k start (state c.arm.new.self) home.told last_faults
    c.runs_leave_shown_lives.ensures runnable c.requires.new stream.ran stream.first_shown stream.over no_less by (length-map came.stores.items g.T.Store.Backing.history ∙ did.ran.2.many_stores) c.requires.names c.arm.ensures c.give_back.ensures.told whole in
    let made = mounted_lines (mount_of mount.board.opened) pass.spare in
    let Lived : Basis → List ℕ → Option Holding → Type 0 = λ basis counts told. IfSome start.told (λ left. IsAway basis.names left → HasLived (TellsRounds failed c.args.plan.worker) basis stream.all stream.shown counts left.stores told) in
    let IsBegun : Basis → List ℕ → Type 0 = λ basis counts. BeginsMount basis stream.all mount pass × (basis.names ≡ start.lent) × (counts ≡ made) in
    let at_home : (basis : Basis) (counts : List ℕ) → IsBegun basis counts → Lived basis counts home.told = λ basis counts begun. subst (λ counts. Lived basis counts home.told) (sym begun.2) (came_home basis begun.0 begun.1) in
    let sink : c.in-Err-Write.field-0 ≡ ends.Write = (rw c.in-Err-Write.is at c.in-Err-Write.field-0-is) in
    let wrote = c.in-Err-Write.is ∙ ap as_ended sink in
    let taken = c.give_back.ensures.taken in
    given_up ended stream.all stream.shown streamed runnable (sym (ap (λ (ended : _). answer_of ended (Err NoMemory)) wrote))
    (omega (arith, ap (λ (s : BenchState). s.settled) taken, ap (λ (s : BenchState). s.settled) c.arm.ensures, ap (λ (s : BenchState). s.faults) taken))
    (ap (λ (s : BenchState). s.arms) taken ∙ ap (λ (s : BenchState). s.arms) c.arm.ensures) at_home

pub returns-in_err-power-clause-ran : goal.returns-in_err-power-clause-ran
returns-in_err-power-clause-ran g c =
    let state = g.T.Bench.state in
    let start = state c.args.bench.now in
    let home = state c.give_back.new.self in
    let mount = c.args.mount in
    let pass = c.args.pass in
    let ended = c.run_stream-closed.result.ended in
    let calls = c.run_stream-closed.result.calls in
    let came = c.run_stream-closed.result.closed in
    let did = c.run_stream-closed.ensures in
    let zero = did.ran.0 in
    let stream = did.ran.1 in
    let by = did.ran.3 in
    let streamed =
    streamed_on shows.Report mount.fds c.args.plan pass c.args.input.now _ (g.I.Source.left c.run_stream-closed.new.src) _ _ _ _ _ _ ended calls zero stream did.at_end (λ last. ap g.I.Source.left (did.unread last)) did.read_failed did.read_kept did.write_failed did.write_kept refl in
    let runnable = runnable_all shows.Report c.args.input.now _ ended stream.all c.requires.input streamed.trace in
    let whole : (holding : Holding) → home.told ≡ Some holding → AreWholeStores holding = λ holding is. g.met.T.Bench.whole c.give_back.new.self holding is in
    let sums = sum_by g.T.Part.Lines.fault_count came.parts.items + sum_by g.T.Store.Backing.fault_count came.stores.items in
    let last_faults : ℕ = (state c.power.new.self).faults in
    let failed : Type 0 = Rose (saturated (start.faults + failed_before pass)) last_faults in
    let home_faults : home.faults ≡ saturated (start.faults + sums) = ap (λ (s : BenchState). s.faults) c.give_back.ensures.taken ∙ ap (λ (s : BenchState). saturated (s.faults + sums)) c.arm.ensures in
    let no_less : saturated (start.faults + sums) ≤ last_faults = omega (arith, home_faults, ap (λ (s : BenchState). s.faults) c.in_err-power.ensures.memory) in
    let came_home =
    stopped_home g.T.Part.Lines.history g.T.Store.Backing.history mount pass zero c.args.plan stream.all stream.outcome stream.shown _ _ came.parts.items came.stores.items _ came.placed came.tail c.args.k start (state c.arm.new.self) home.told last_faults
    c.runs_leave_shown_lives.ensures runnable c.requires.new stream.ran stream.first_shown stream.over no_less by (length-map came.stores.items g.T.Store.Backing.history ∙ did.ran.2.many_stores) c.requires.names c.arm.ensures c.give_back.ensures.told whole in
    let made = mounted_lines (mount_of mount.board.opened) pass.spare in
    let Lived : Basis → List ℕ → Option Holding → Type 0 = λ basis counts told. IfSome start.told (λ left. IsAway basis.names left → HasLived (TellsRounds failed c.args.plan.worker) basis stream.all stream.shown counts left.stores told) in
    let IsBegun : Basis → List ℕ → Type 0 = λ basis counts. BeginsMount basis stream.all mount pass × (basis.names ≡ start.lent) × (counts ≡ made) in
    let at_home : (basis : Basis) (counts : List ℕ) → IsBegun basis counts → Lived basis counts home.told = λ basis counts begun. subst (λ counts. Lived basis counts home.told) (sym begun.2) (came_home basis begun.0 begun.1) in
    let taken = c.give_back.ensures.taken in
    let same = c.in_err-power.ensures.memory in
    let other : ended ≢ Err ends.Write = elim c.match-ended.branch [
      | in-Err+in-NoMemory-1 w ↦ search rules
      | in-Ok-2 w ↦ search rules
    ] in
    given_up ended stream.all stream.shown streamed runnable (as_error c.from_residual.result NoMemory c.from_residual.ensures.1 ∙ memory_answered ended other)
    (omega (arith, ap (λ (s : BenchState). s.settled) same, ap (λ (s : BenchState). s.faults) same, ap (λ (s : BenchState). s.settled) taken, ap (λ (s : BenchState). s.settled) c.arm.ensures, ap (λ (s : BenchState). s.faults) taken))
    (ap (λ (s : BenchState). s.arms) same ∙ ap (λ (s : BenchState). s.arms) taken ∙ ap (λ (s : BenchState). s.arms) c.arm.ensures)
    (λ basis counts begun. subst (Lived basis counts) (sym (ap (λ (s : BenchState). s.told) same)) (at_home basis counts begun))

pub returns-in_err-kept-clause-ran : goal.returns-in_err-kept-clause-ran
returns-in_err-kept-clause-ran g c =
    let state = g.T.Bench.state in
    let start = state c.args.bench.now in
    let home = state c.give_back.new.self in
    let mount = c.args.mount in
    let pass = c.args.pass in
    let ended = c.run_stream-closed.result.ended in
    let calls = c.run_stream-closed.result.calls in
    let came = c.run_stream-closed.result.closed in
    let did = c.run_stream-closed.ensures in
    let zero = did.ran.0 in
    let stream = did.ran.1 in
    let by = did.ran.3 in
    let streamed =
    streamed_on shows.Report mount.fds c.args.plan pass c.args.input.now _ (g.I.Source.left c.run_stream-closed.new.src) _ _ _ _ _ _ ended calls zero stream did.at_end (λ last. ap g.I.Source.left (did.unread last)) did.read_failed did.read_kept did.write_failed did.write_kept refl in
    let runnable = runnable_all shows.Report c.args.input.now _ ended stream.all c.requires.input streamed.trace in
    let whole : (holding : Holding) → home.told ≡ Some holding → AreWholeStores holding = λ holding is. g.met.T.Bench.whole c.give_back.new.self holding is in
    let sums = sum_by g.T.Part.Lines.fault_count came.parts.items + sum_by g.T.Store.Backing.fault_count came.stores.items in
    let last_faults : ℕ = (state c.power.new.self).faults in
    let failed : Type 0 = Rose (saturated (start.faults + failed_before pass)) last_faults in
    let home_faults : home.faults ≡ saturated (start.faults + sums) = ap (λ (s : BenchState). s.faults) c.give_back.ensures.taken ∙ ap (λ (s : BenchState). saturated (s.faults + sums)) c.arm.ensures in
    let no_less : saturated (start.faults + sums) ≤ last_faults = omega (arith, home_faults, ap (λ (s : BenchState). s.faults) c.in_ok-power.ensures.off) in
    let came_home =
    stopped_home g.T.Part.Lines.history g.T.Store.Backing.history mount pass zero c.args.plan stream.all stream.outcome stream.shown _ _ came.parts.items came.stores.items _ came.placed came.tail c.args.k start (state c.arm.new.self) home.told last_faults
    c.runs_leave_shown_lives.ensures runnable c.requires.new stream.ran stream.first_shown stream.over no_less by (length-map came.stores.items g.T.Store.Backing.history ∙ did.ran.2.many_stores) c.requires.names c.arm.ensures c.give_back.ensures.told whole in
    let made = mounted_lines (mount_of mount.board.opened) pass.spare in
    let Lived : Basis → List ℕ → Option Holding → Type 0 = λ basis counts told. IfSome start.told (λ left. IsAway basis.names left → HasLived (TellsRounds failed c.args.plan.worker) basis stream.all stream.shown counts left.stores told) in
    let IsBegun : Basis → List ℕ → Type 0 = λ basis counts. BeginsMount basis stream.all mount pass × (basis.names ≡ start.lent) × (counts ≡ made) in
    let at_home : (basis : Basis) (counts : List ℕ) → IsBegun basis counts → Lived basis counts home.told = λ basis counts begun. subst (λ counts. Lived basis counts home.told) (sym begun.2) (came_home basis begun.0 begun.1) in
    let off = state c.power.new.self in
    let powers = ap (λ (s : BenchState). s.told) c.in_ok-power.ensures.off in
    let at_off : (basis : Basis) (counts : List ℕ) → IsBegun basis counts → Lived basis counts off.told = λ basis counts begun.
    stopped_off (TellsRounds failed c.args.plan.worker) basis stream.all stream.shown c.args.plan.image counts start.told home.told off.told c.images_follow_calls.ensures.quiet c.power_leaves_an_image.ensures c.requires.quiet whole powers (at_home basis counts begun) in
    let taken = c.give_back.ensures.taken in
    let power = c.in_ok-power.ensures.off in
    let other : ended ≢ Err ends.Write = elim c.match-ended.branch [
      | in-Err+in-NoMemory-1 w ↦ search rules
      | in-Ok-2 w ↦ search rules
    ] in
    let wanting = memory_alone c.args.plan pass zero calls stream.outcome c.args.k c.in_err-kept.field-0.0 c.requires.stop stream.ran stream.kept c.in_err-kept.was in
    given_up ended stream.all stream.shown streamed runnable (as_error c.from_residual-in_err-kept.result _ c.from_residual-in_err-kept.ensures.1 ∙ ap as_told wanting ∙ memory_answered ended other)
    (omega (arith, ap (λ (s : BenchState). s.settled) power, ap (λ (s : BenchState). s.faults) power))
    (ap (λ (s : BenchState). s.arms) power ∙ ap (λ (s : BenchState). s.arms) taken ∙ ap (λ (s : BenchState). s.arms) c.arm.ensures) at_off

pub returns-clause-ran : goal.returns-clause-ran
returns-clause-ran g c =
    let state = g.T.Bench.state in
    let start = state c.args.bench.now in
    let home = state c.give_back.new.self in
    let mount = c.args.mount in
    let pass = c.args.pass in
    let ended = c.run_stream-closed.result.ended in
    let calls = c.run_stream-closed.result.calls in
    let came = c.run_stream-closed.result.closed in
    let did = c.run_stream-closed.ensures in
    let zero = did.ran.0 in
    let stream = did.ran.1 in
    let by = did.ran.3 in
    let streamed =
    streamed_on shows.Report mount.fds c.args.plan pass c.args.input.now _ (g.I.Source.left c.run_stream-closed.new.src) _ _ _ _ _ _ ended calls zero stream did.at_end (λ last. ap g.I.Source.left (did.unread last)) did.read_failed did.read_kept did.write_failed did.write_kept refl in
    let runnable = runnable_all shows.Report c.args.input.now _ ended stream.all c.requires.input streamed.trace in
    let whole : (holding : Holding) → home.told ≡ Some holding → AreWholeStores holding = λ holding is. g.met.T.Bench.whole c.give_back.new.self holding is in
    let sums = sum_by g.T.Part.Lines.fault_count came.parts.items + sum_by g.T.Store.Backing.fault_count came.stores.items in
    let last_faults : ℕ = (state c.show_recovered-told.new.bench).faults in
    let failed : Type 0 = Rose (saturated (start.faults + failed_before pass)) last_faults in
    let home_faults : home.faults ≡ saturated (start.faults + sums) = ap (λ (s : BenchState). s.faults) c.give_back.ensures.taken ∙ ap (λ (s : BenchState). saturated (s.faults + sums)) c.arm.ensures in
    let no_less : saturated (start.faults + sums) ≤ last_faults = omega (arith, home_faults, ap (λ (s : BenchState). s.faults) c.in_ok-power.ensures.off, c.show_recovered-told.ensures.never_falls) in
    let came_home =
    stopped_home g.T.Part.Lines.history g.T.Store.Backing.history mount pass zero c.args.plan stream.all stream.outcome stream.shown _ _ came.parts.items came.stores.items _ came.placed came.tail c.args.k start (state c.arm.new.self) home.told last_faults
    c.runs_leave_shown_lives.ensures runnable c.requires.new stream.ran stream.first_shown stream.over no_less by (length-map came.stores.items g.T.Store.Backing.history ∙ did.ran.2.many_stores) c.requires.names c.arm.ensures c.give_back.ensures.told whole in
    let made = mounted_lines (mount_of mount.board.opened) pass.spare in
    let Lived : Basis → List ℕ → Option Holding → Type 0 = λ basis counts told. IfSome start.told (λ left. IsAway basis.names left → HasLived (TellsRounds failed c.args.plan.worker) basis stream.all stream.shown counts left.stores told) in
    let IsBegun : Basis → List ℕ → Type 0 = λ basis counts. BeginsMount basis stream.all mount pass × (basis.names ≡ start.lent) × (counts ≡ made) in
    let at_home : (basis : Basis) (counts : List ℕ) → IsBegun basis counts → Lived basis counts home.told = λ basis counts begun. subst (λ counts. Lived basis counts home.told) (sym begun.2) (came_home basis begun.0 begun.1) in
    let off = state c.power.new.self in
    let powers = ap (λ (s : BenchState). s.told) c.in_ok-power.ensures.off in
    let at_off : (basis : Basis) (counts : List ℕ) → IsBegun basis counts → Lived basis counts off.told = λ basis counts begun.
    stopped_off (TellsRounds failed c.args.plan.worker) basis stream.all stream.shown c.args.plan.image counts start.told home.told off.told c.images_follow_calls.ensures.quiet c.power_leaves_an_image.ensures c.requires.quiet whole powers (at_home basis counts begun) in
    let last = state c.show_recovered-told.new.bench in
    let told = c.show_recovered-told.result in
    let recovery = c.show_recovered-told.ensures in
    let taken = c.give_back.ensures.taken in
    let power = c.in_ok-power.ensures.off in
    let kept = kept_calls calls stream.outcome c.in_ok-kept.kept c.in_ok-kept.was stream.kept in
    let sorted = kept.0 in
    let out : HasOutcome mount.fds c.args.plan stream.all.calls pass (Ok sorted) zero = subst (λ outcome. HasOutcome mount.fds c.args.plan stream.all.calls pass outcome zero) kept.1 stream.ran in
    let same : last.settled ≡ off.faults = ap (λ (s : BenchState). s.settled) recovery.back ∙ ap (λ (s : BenchState). s.settled) power ∙ sym (ap (λ (s : BenchState). s.faults) power) in
    let at_last : max off.faults last.settled ≡ last.settled = omega (arith, same) in
    let never = λ (basis : Basis) (counts : List ℕ) (begun : IsBegun basis counts).
    never_told g.T.Part.Lines.device g.T.Part.Lines.history g.T.Part.Lines.fault_count g.T.Part.Lines.room g.T.Store.Backing.device g.T.Store.Backing.history g.T.Store.Backing.fault_count mount pass zero c.args.plan stream.all sorted came.parts.items
    came.stores.items came.placed came.tail c.args.k start (state c.arm.new.self) home off last runnable c.requires.new out did.ran.2 by c.arm.ensures taken c.give_back.ensures.told whole power recovery.back c.power_leaves_an_image.ensures basis begun.0 begun.1 in
    let behind = λ (basis : Basis) (counts : List ℕ) (begun : IsBegun basis counts).
    told_behind g.T.Part.Lines.device g.T.Part.Lines.history g.T.Part.Lines.fault_count g.T.Part.Lines.room g.T.Store.Backing.device g.T.Store.Backing.history g.T.Store.Backing.fault_count mount pass zero c.args.plan stream.all sorted came.parts.items
    came.stores.items came.placed came.tail c.args.k start (state c.arm.new.self) home off last runnable c.requires.new out did.ran.2 by c.arm.ensures taken c.give_back.ensures.told whole power recovery.back c.power_leaves_an_image.ensures basis begun.0 begun.1 in
    record {
      ended = ended;
      told = told;
      answered = c.answer.ensures;
      all = stream.all;
      shown = stream.shown;
      streamed = streamed;
      memory = λ wanting. never_wanting calls c.in_ok-kept.kept told c.in_ok-kept.was (did.memory wanting);
      runnable = runnable;
      turns = recovery.turns;
      settled = λ armed. subst (λ settled. IsSettledStop settled last.faults told) at_last (counted_settled off.faults last.faults last.settled told (omega (arith, same)) recovery.cause);
      cause = λ same. absurd (omega (arith, same, ap (λ (s : BenchState). s.arms) recovery.back, ap (λ (s : BenchState). s.arms) power, ap (λ (s : BenchState). s.arms) taken, ap (λ (s : BenchState). s.arms) c.arm.ensures));
      never = λ why is basis counts begun. never basis counts begun c.images_stand_for_files.ensures.good c.a_header_has_one_answer.ensures.not_unread why (recovery.refused why is);
      life = λ basis counts begun. stopped_recovered (TellsRounds failed c.args.plan.worker) basis stream.all stream.shown counts start.told off.told last.told c.images_follow_calls.ensures.quiet
          (subst (λ told. IfSome told IsQuietHolding) (sym powers) (quiet_after c.args.plan.image home.told c.power_leaves_an_image.ensures whole)) recovery.standing (at_off basis counts begun);
      ran = IfOk-weaker told
          (λ text. IfSome off.told (λ holding. (sorted : SortedCalls) → AreKeptOf c.in_ok-kept.kept sorted → ShowsRecovered holding sorted [] last.told (history_lines 0 (map placed_call sorted.placed.items) ++ text.items)))
          (λ text. (basis : Basis) (counts : List ℕ) → IsBegun basis counts → IfSome start.told (λ left. IsAway basis.names left
          → HasStoppedBehind (Rose (saturated (start.faults + failed_before pass)) last.faults) c.args.plan.worker c.args.plan.image start.picked basis stream.all stream.shown (1 + mount.board.opened.sizes.entries + length pass.spare) left.stores last text.items))
          (λ text shows basis counts begun.
          behind basis counts begun c.requires.names c.requires.quiet no_less c.runs_are_told.ensures c.history_of_threads_is_legal.ensures.legal c.history_of_threads_is_legal.ensures.files c.open_calls_are_the_faults.ensures.kept c.runs_are_faithful.ensures.faithful
          c.runs_are_faithful.ensures.numbers c.images_stand_for_files.ensures.files c.runs_are_faithful.ensures.kept c.in_ok-kept.kept kept.2 stream.shown (all_placed stream.outcome sorted stream.shown kept.1 stream.all_shown) text.items shows)
          recovery.shown;
    }
