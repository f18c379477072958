-- The outcome of the rounds, and of the cleaning behind them.
use Rattle.std.proofs.Common.{◌≡◌, false, true, refl, sym, ap, ◌∙◌, arith}
use Rattle.std.specs.Prelude.{IsOk, Option, Some, None, Result, Ok, Err, OnOk, is_err, is_none, is_some}
use Rattle.std.proofs.lemmas.List.Sorted.{IsPermutation-refl}
use Rattle.nv_table.specs.passes.Alone.{IsAlone}
use Rattle.nv_runner.specs.declared.run_error.RunError.TheVariants as errors
use Rattle.nv_runner.specs.Histories.{RoundsRise}
use Rattle.nv_runner.specs.Lists.{calls_made}
use Rattle.nv_table.specs.state.Views.{PassView}
use Rattle.nv_runner.proofs.OutcomeLaws.{IsCleaned, memory_is_no_fault, not_both, not_cleaned, ok_is_no_fault, outcome_is, rises_within, stop_was_seen}
use Rattle.nv_runner.specs.EndedRuns.{batch_of}
use Rattle.nv_runner.proofs.ShiftLines.{run_lines}
use Rattle.nv_runner.proofs.TryLaws.{no_batch}
use Rattle.nv_runner.proofs.running.end_rounds.Goals as goal

-- what went well was brought to its end
went_well : {T E A : Type 0} (result : Result T E) → OnOk result A → is_err result ≡ false → A
went_well (Ok done) all well = all
went_well (Err error) all well = absurd (cc)

-- what is no error went well
well : {T E : Type 0} (result : Result T E) → is_err result ≡ false → IsOk result
well (Ok done) fine = refl
well (Err error) fine = absurd (cc)

pub returns-then-is_some-clause-brought : goal.returns-then-is_some-clause-brought
returns-then-is_some-clause-brought g c = λ _. well c.args.rounds (sym c.is_err.ensures.value ∙ c.if-is_err.false)

pub returns-clause-brought : goal.returns-clause-brought
returns-clause-brought g c = λ _. well c.args.rounds (sym c.is_err.ensures.value ∙ c.if-is_err.false)

pub returns-then-is_err-clause-outcome : goal.returns-then-is_err-clause-outcome
returns-then-is_err-clause-outcome g c =
    let mount = c.args.mount.now in
    let zero = c.args.pass.now in
    let knows = c.has_taken_in.ensures c.requires.zero.number in
    let alone : IsAlone zero.view = record { zero = c.requires.zero.number; all = c.requires.all_in; free = c.requires.zero.idle.taken } in
    λ calls made start outcome rounds all is.
    let rise : RoundsRise (calls_made made) = rises_within calls made (c.lines_keep_order.ensures.rounds calls calls rounds.line_order rounds.round_order (IsPermutation-refl calls)).1 rounds.within in
    let own = run_lines mount.fds (batch_of c.args.plan) calls made zero rounds.run rounds.line_order rounds.within in
    outcome_is mount.fds c.args.plan calls made start zero mount.board.opened rounds.new (c.requires.zero.board.same_mount ∙ sym (ap (λ (view : PassView). view.opened) rounds.new)) rounds.still
    rounds.run c.sees_a_run.ensures.mount c.sees_a_run.ensures.run knows c.requires.zero.number c.requires.all_in zero (not_cleaned zero c.requires.zero.idle knows alone)
    c.runs_are_sound.ensures.runs c.histories_go_on.ensures c.refusals_in_runs_have_causes.ensures.causes c.refusals_in_runs_have_causes.ensures.heads c.refusals_in_runs_have_causes.ensures.room c.runs_draw_in_a_row.ensures.draws c.open_calls_are_the_faults.ensures.faults rounds.within own rise rounds.distinct
    c.sees_a_run.ensures.run (Err errors.NoMemory) tt (λ going. tt) (λ is. absurd (memory_is_no_fault {T = Unit {0}} is)) (λ stop. refl) (λ going. no_batch (Some c.args.plan.batch) zero) outcome is

pub returns-then-is_some-clause-outcome : goal.returns-then-is_some-clause-outcome
returns-then-is_some-clause-outcome g c =
    let mount = c.args.mount.now in
    let zero = c.args.pass.now in
    let knows = c.has_taken_in.ensures c.requires.zero.number in
    let alone : IsAlone zero.view = record { zero = c.requires.zero.number; all = c.requires.all_in; free = c.requires.zero.idle.taken } in
    λ calls made start outcome rounds all is.
    let rise : RoundsRise (calls_made made) = rises_within calls made (c.lines_keep_order.ensures.rounds calls calls rounds.line_order rounds.round_order (IsPermutation-refl calls)).1 rounds.within in
    let own = run_lines mount.fds (batch_of c.args.plan) calls made zero rounds.run rounds.line_order rounds.within in
    outcome_is mount.fds c.args.plan calls made start zero mount.board.opened rounds.new (c.requires.zero.board.same_mount ∙ sym (ap (λ (view : PassView). view.opened) rounds.new)) rounds.still
    rounds.run c.sees_a_run.ensures.mount c.sees_a_run.ensures.run knows c.requires.zero.number c.requires.all_in zero (not_cleaned zero c.requires.zero.idle knows alone)
    c.runs_are_sound.ensures.runs c.histories_go_on.ensures c.refusals_in_runs_have_causes.ensures.causes c.refusals_in_runs_have_causes.ensures.heads c.refusals_in_runs_have_causes.ensures.room c.runs_draw_in_a_row.ensures.draws c.open_calls_are_the_faults.ensures.faults rounds.within own rise rounds.distinct
    c.sees_a_run.ensures.run (Ok tt) (went_well c.args.rounds all (sym c.is_err.ensures.value ∙ c.if-is_err.false)) (λ going. absurd (not_both c.args.plan.stop (sym c.is_some.ensures ∙ c.if-is_some.true) going)) (λ is. absurd (ok_is_no_fault {T = Unit {0}} tt is)) (λ stop. refl) (λ going. no_batch (Some c.args.plan.batch) zero) outcome is

not_some : {T : Type 0} (stop : Option T) → is_some stop ≡ false → is_none stop ≡ true
not_some (Some call) none = absurd (cc)
not_some None none = refl

ok_any : {T E A : Type 0} (result : Result T E) → A → OnOk result A
ok_any (Ok done) all = all
ok_any (Err error) all = tt

pub returns-clause-outcome : goal.returns-clause-outcome
returns-clause-outcome g c =
    let mount = c.args.mount.now in
    let zero = c.args.pass.now in
    let knows = c.has_taken_in.ensures c.requires.zero.number in
    let alone : IsAlone zero.view = record { zero = c.requires.zero.number; all = c.requires.all_in; free = c.requires.zero.idle.taken } in
    let now = c.clean_all-cleaned.new.pass in
    let cleaning = c.clean_all-cleaned.ensures in
    let clean = cleaning.cleaned in
    let cleaned : IsCleaned zero now = record {
      opened = clean.left.board_is.same_mount ∙ sym c.requires.zero.board.same_mount;
      ended = clean.later.ended;
      spare = clean.spare;
      unplaced = clean.kept;
      keeps = clean.keeps;
      more = clean.on.more;
      run = clean.on.run;
      drawn = (let drew = clean.on.drawn in omega (arith, drew));
      idle = clean.left.idle;
      taken = clean.left.taken;
      alone = clean.left.alone;
    } in
    λ calls made start outcome rounds all is.
    let rise : RoundsRise (calls_made made) = rises_within calls made (c.lines_keep_order.ensures.rounds calls calls rounds.line_order rounds.round_order (IsPermutation-refl calls)).1 rounds.within in
    let own = run_lines mount.fds (batch_of c.args.plan) calls made zero rounds.run rounds.line_order rounds.within in
    outcome_is mount.fds c.args.plan calls made start zero mount.board.opened rounds.new (c.requires.zero.board.same_mount ∙ sym (ap (λ (view : PassView). view.opened) rounds.new)) rounds.still
    rounds.run c.sees_a_run.ensures.mount c.sees_a_run.ensures.run knows c.requires.zero.number c.requires.all_in now cleaned
    c.runs_are_sound.ensures.runs c.histories_go_on.ensures c.refusals_in_runs_have_causes.ensures.causes c.refusals_in_runs_have_causes.ensures.heads c.refusals_in_runs_have_causes.ensures.room c.runs_draw_in_a_row.ensures.draws c.open_calls_are_the_faults.ensures.faults rounds.within own rise rounds.distinct
    c.sees_a_run-2.ensures.run c.clean_all-cleaned.result (ok_any c.clean_all-cleaned.result (went_well c.args.rounds all (sym c.is_err.ensures.value ∙ c.if-is_err.false))) (λ going. cleaning.emptied) (λ is. (not_some c.args.plan.stop (sym c.is_some.ensures ∙ c.if-is_some.false), stop_was_seen c.runs_are_sound.ensures.runs c.passes_are_left_alone.ensures.own now.view c.sees_a_run-2.ensures.mount c.sees_a_run-2.ensures.run clean.left.alone.zero clean.left.taken clean.left.alone.all (cleaning.fault is))) (λ stop. absurd (not_both c.args.plan.stop stop (not_some c.args.plan.stop (sym c.is_some.ensures ∙ c.if-is_some.false)))) (λ going. clean.batches) outcome is
