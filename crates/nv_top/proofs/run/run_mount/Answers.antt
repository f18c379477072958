use Rattle.nv_top.specs.Lives.{tells_as}
use Rattle.nv_top.proofs.CauseLemmas.{cause_grows}
use Rattle.nv_top.proofs.CauseLemmas.{rose_on}
use Rattle.nv_mount.specs.RisenCounts.{SawStop}
use Rattle.nv_runner.specs.Reports.{history_lines}
use Rattle.std.proofs.Common.{◌≡◌, ◌++◌, ◌+◌, ◌≤◌, ◌∙◌, ℕ, List, [], All, Ok, Err, length, map, sym, ap, subst, sum_by, arith}
use Rattle.std.specs.Prelude.{IfOk, Result}
use Rattle.std.proofs.lemmas.List.{length-map}
use Rattle.std.proofs.lemmas.Result.{IfOk-weaker}
use Rattle.nv_plain.specs.Faults.{Rose}
use Rattle.nv_plain.specs.Layouts.{mount_layout}
use Rattle.nv_pmem.specs.RowStates.{AreNow}
use Rattle.nv_store.specs.Store.{Store}
use Rattle.nv_recover.specs.Standing.{files_of}
use Rattle.nv_header.specs.FileNames.{AreFileNames}
use Rattle.nv_core.specs.crash.CrashImages.{OpensRegion}
use Rattle.nv_core.specs.state.Values.{Value}
use Rattle.nv_core.specs.steps.Opening.{IsMount}
use Rattle.nv_table.specs.state.Opened.{Opened, mount_of}
use Rattle.nv_table.specs.state.Views.{first_view}
use Rattle.nv_mount.specs.RisenCounts.{failed_before}
use Rattle.nv_runner.specs.EndedRuns.{HasOutcome}
use Rattle.nv_runner.specs.Faithful.{Basis}
use Rattle.nv_runner.specs.FaithfulRuns.{IsMountOf}
use Rattle.nv_top.specs.Outcomes.{shown_report}
use Rattle.nv_top.specs.Runs.{BeginsMount, HasRunBehind, IsQuietSpare}
use Rattle.nv_top.specs.Ran.{AreOf, IsToldAs, shown_of}
use Rattle.nv_top.specs.Shows.{text_as}
use Rattle.nv_top.specs.declared.ran.RanCalls.{RanCalls}
use Rattle.nv_top.specs.declared.show.Show.{Show}
use Rattle.nv_runner.specs.declared.run_error.RunError.{RunError}
use Rattle.nv_runner.specs.declared.sorted.SortedCalls.{SortedCalls}
use Rattle.nv_top.proofs.RanLemmas.{life_all, runnable_all, shown_is, shown_report_is, told_calls, told_error}
use Rattle.nv_top.specs.Stops.{RunHasCause}
use Rattle.nv_top.proofs.CauseLemmas.{ended_cause, told_cause}
use Rattle.nv_top.proofs.RunLemmas.{has_run}
use Rattle.nv_top.proofs.StoppingLemmas.{failed_same}
use Rattle.nv_core.specs.content.Content.{Opens}
use Rattle.nv_core.specs.log.LogContent.{OpensLog}
use Rattle.nv_mount.specs.Telling.{HasLongParts, IsTelling, mounted_lines}
use Rattle.nv_top.specs.Lives.{AreLeftSo}
use Rattle.nv_top.proofs.LifeLemmas.{left_same, lines_home}
use Rattle.std.proofs.Common.{refl}
use Rattle.nv_top.proofs.run.run_mount.Goals as goal
use Rattle.nv_top.proofs.run.run_mount.Goals.{in-Ok, in-Err}

pub returns-clause-count : goal.returns-clause-count
returns-clause-count g c =
    let held = g.B.Backing.history in
    let came = c.run_shown-closed.result.closed in
    let many = c.run_shown-closed.ensures.ran.5.many_stores in
    elim c.match-calls.branch [
      | in-Ok w ↦
          ap (λ stores. length stores.items) w.stores-is ∙ sym (length-map w.show_run-report.new.stores.items held) ∙ ap (λ row. length row) w.show_run-report.ensures.histories
          ∙ length-map came.stores.items held ∙ many
      | in-Err w ↦ ap (λ stores. length stores.items) w.stores-is ∙ many
    ]

pub returns-clause-ran : goal.returns-clause-ran
returns-clause-ran g c =
    let history = g.L.Lines.history in
    let held = g.B.Backing.history in
    let mount = c.args.mount in
    let pass = c.args.pass in
    let plan = c.args.plan in
    let show = c.args.show in
    let names = c.args.names.now in
    let came = c.run_shown-closed.result.closed in
    let ran = c.run_shown-closed.ensures.ran in
    let all = ran.0 in
    let shown = ran.1 in
    let zero = ran.2 in
    let streamed = ran.3 in
    let run = ran.4 in
    let by = ran.6 in
    let runnable = runnable_all show c.args.input.now _ c.run_shown-closed.result.ended all c.requires.input streamed.trace in
    let out = run.ran.run_out in
    let here = sym c.requires.board.same_mount in
    let there : mount.board.opened ≡ zero.view.opened = here ∙ sym out.mount in
    let counts = mounted_lines (mount_of mount.board.opened) pass.spare in
    let parts_now = sum_by g.L.Lines.fault_count came.parts.items in
    let stores_now = sum_by g.B.Backing.fault_count came.stores.items in
    let stores_last = sum_by g.B.Backing.fault_count c.match-calls.stores.items in
    let failed : Type 0 = Rose (failed_before pass) (parts_now + stores_last) in
    let grew : stores_now ≤ stores_last = elim c.match-calls.branch [
      | in-Ok w ↦
          subst (λ stores. stores_now ≤ sum_by g.B.Backing.fault_count stores.items) (sym w.stores-is)
          (cause_grows stores_now (sum_by g.B.Backing.fault_count w.show_run-report.new.stores.items) w.show_run-report.result w.show_run-report.ensures.never w.show_run-report.ensures.cause)
      | in-Err w ↦ subst (λ stores. stores_now ≤ sum_by g.B.Backing.fault_count stores.items) (sym w.stores-is) (omega arith)
    ] in
    let stops : SawStop zero.view → failed = λ seen.
    rose_on (failed_before pass) (parts_now + stores_now) (parts_now + stores_last) (omega (arith, grew)) (subst (λ count. Rose count (parts_now + stores_now)) (failed_same pass zero run.ran.run_out.mount run.ran.run_out.spare) (by.stopped seen)) in
    let left : (basis : Basis) → BeginsMount basis all mount pass → AreLeftSo (tells_as show failed plan.worker) history held basis all shown counts came.parts.items came.stores.items = λ basis begins.
    let tell = by.telling basis.files (subst (λ (o : Opened). OpensLog (mount_of o) o.next) there begins.is_mount.log) (subst (λ (o : Opened). Opens (mount_of o) basis.files) there begins.is_mount.files)
    (subst (λ (values : List Value). All IsTelling values) (sym out.spare) begins.spare) in
    let life = life_all show basis all mount.fds plan pass zero c.run_shown-closed.result.calls shown _ _ (map history came.parts.items) (map held came.stores.items) _ _ _ failed c.runs_leave_lives.ensures c.runs_leave_shown_lives.ensures runnable
    (subst (λ (o : Opened). IsMountOf basis all o mount.fds) here begins.is_mount) (subst (λ (o : Opened). OpensRegion (mount_of o) basis.names) here begins.region) (c.requires.new ∙ ap first_view here) run by stops in
    record {
      parts_tell = tell.0;
      stores_tell = tell.1;
      lines_are = lines_home (map history came.parts.items) mount.board.opened zero.view.opened pass.spare zero.spare there out.spare by.lines;
      life = life.0;
      rounds = life.1;
    } in
    let Shows : List _ → List ℕ → Type 0 = λ backing text. (basis : Basis) → BeginsMount basis all mount pass → basis.names ≡ names → All IsQuietSpare pass.spare → HasRunBehind history held show plan.worker basis all shown text came.parts.items backing in (
      all,
      shown,
      streamed,
      elim c.match-calls.branch [
        | in-Ok w ↦ λ basis begins. left_same history held basis all shown counts came.parts.items came.parts.items c.match-calls.stores.items came.stores.items refl (ap (λ stores. map held stores.items) w.stores-is ∙ w.show_run-report.ensures.histories) (left basis begins)
        | in-Err w ↦ λ basis begins. left_same history held basis all shown counts came.parts.items came.parts.items c.match-calls.stores.items came.stores.items refl (ap (λ stores. map held stores.items) w.stores-is) (left basis begins)
      ],
      elim c.match-calls.branch [
        | in-Ok w ↦
            let told = told_calls show w.in-Ok.calls run.outcome (subst (λ (r : Result RanCalls RunError). IsToldAs show r run.outcome) w.in-Ok.is run.told) in
            let sorted = told.0 in
            let outcome : HasOutcome mount.fds plan all.calls pass (Ok sorted) zero = subst (λ outcome. HasOutcome mount.fds plan all.calls pass outcome zero) told.1 run.ran in
            let these : shown ≡ shown_of show sorted = shown_is show all.calls run.ran.made run.outcome sorted shown told.1 run.first in
            let same_board = out.mount ∙ c.requires.board.same_mount in
            subst (λ report. IfOk report (λ text. Shows c.match-calls.stores.items text.items)) (sym w.report-is)
            (IfOk-weaker w.show_run-report.result
            (λ text. (show : Show) (sorted : SortedCalls) → AreOf show w.in-Ok.calls sorted → (now : List Store) → AreNow (map held came.stores.items) now → history_lines 0 (shown_of show sorted) ++ text.items ≡ text_as show (shown_report sorted [] names (files_of now)))
            (λ text. Shows c.match-calls.stores.items text.items)
            (λ text says basis begins named spare.
            let over =
            has_run g.L.Lines.device history g.L.Lines.fault_count g.L.Lines.room g.B.Backing.device held g.B.Backing.fault_count
            basis all mount.fds plan pass zero sorted mount.board came.parts.items came.stores.items came.placed came.tail
            c.runs_are_sound.ensures.runs c.passes_are_left_alone.ensures.own c.runs_keep_the_log.ensures.runs c.crashes_leave_whole_writes.ensures.region c.empty_logs_rest.ensures.rest
            c.unstopped_runs_leave_nothing_open.ensures
            same_board (c.requires.new ∙ ap first_view (sym c.requires.board.same_mount)) (subst (λ (o : Opened). IsMount (mount_of o)) (sym out.mount) c.sees_a_run.ensures.mount) c.requires.stop
            runnable.well_formed runnable.few runnable.lines (subst (λ these. AreFileNames mount_layout these) (sym named) c.requires.names)
            (subst (λ (o : Opened). IsMountOf basis all o mount.fds) (sym c.requires.board.same_mount) begins.is_mount)
            (subst (λ (o : Opened). OpensRegion (mount_of o) basis.names) (sym same_board) begins.region)
            (subst (λ (values : List Value). All IsQuietSpare values) (sym out.spare) spare)
            (subst (λ (o : Opened). HasLongParts (mount_of o)) (sym same_board) begins.long)
            outcome ran.5 by show (history_lines 0 shown ++ text.items) c.match-calls.stores.items
            (ap (λ stores. map held stores.items) w.stores-is ∙ w.show_run-report.ensures.histories)
            (λ now are. ap (λ calls. history_lines 0 calls ++ text.items) these
            ∙ subst (λ names. history_lines 0 (shown_of show sorted) ++ text.items ≡ text_as show (shown_report sorted [] names (files_of now))) (sym named) (says show sorted told.2 now are)) in
            (over.0, λ is. over.1 ∙ sym (shown_report_is show sorted is) ∙ sym these))
            w.show_run-report.ensures.text)
        | in-Err w ↦ subst (λ report. IfOk report (λ text. Shows c.match-calls.stores.items text.items)) (sym w.report-is) tt
      ],
    )

pub returns-clause-cause : goal.returns-clause-cause
returns-clause-cause g c =
    let pass = c.args.pass in
    let came = c.run_shown-closed.result.closed in
    let ran = c.run_shown-closed.ensures.ran in
    let run = ran.4 in
    let by = ran.6 in
    let parts = sum_by g.L.Lines.fault_count came.parts.items in
    let mid = sum_by g.B.Backing.fault_count came.stores.items in
    let before : failed_before ran.2 ≡ failed_before pass = failed_same pass ran.2 run.ran.run_out.mount run.ran.run_out.spare in
    let grew : failed_before pass ≤ parts + mid = subst (λ (n : ℕ). n ≤ parts + mid) before by.grew in
    elim c.match-calls.branch [
      | in-Ok w ↦
          let shown = w.show_run-report in
          let told = told_cause (failed_before pass) parts mid (sum_by g.B.Backing.fault_count shown.new.stores.items) shown.result grew shown.ensures.never shown.ensures.cause in
          subst (λ report. RunHasCause (failed_before pass) (parts + sum_by g.B.Backing.fault_count c.match-calls.stores.items) report) (sym w.report-is)
          (subst (λ stores. RunHasCause (failed_before pass) (parts + sum_by g.B.Backing.fault_count stores.items) shown.result) (sym w.stores-is) told)
      | in-Err w ↦
          subst (λ stores. RunHasCause (failed_before pass) (parts + sum_by g.B.Backing.fault_count stores.items) c.match-calls.report) (sym w.stores-is)
          (ended_cause (failed_before pass) (parts + mid) w.in-Err.error w.into.result c.match-calls.report w.report-is w.into.ensures grew
          (λ fault. subst (λ (n : ℕ). Rose n (parts + mid)) before (by.stopped (run.ran.fault (told_error c.args.show w.in-Err.error run.outcome (subst (λ (r : Result RanCalls RunError). IsToldAs c.args.show r run.outcome) w.in-Err.is run.told) ∙ ap Err fault)).1)))
    ]
