-- Outcomes: what became of the calls of a trace, from the state of pass 0 after the rounds, and after the log was cleaned.
use Rattle.std.proofs.Common.{◌≡◌, ℕ, ◌+◌, ◌^◌, ◌≤◌, true, false, List, [], ◌++◌, length, inl, inr, refl, sym, ap, subst, ◌∙◌, arith, append-nil, length-append}
use Rattle.std.specs.Prelude.{All, IsPermutation, Option, Some, None, Result, Ok, Err, IfOk, OnOk, is_none, is_some, if◌then◌else◌}
use Rattle.std.specs.List.{concat, flat_map}
use Rattle.std.proofs.lemmas.Bool.{cases_eq, ltb-true, true≢false}
use Rattle.std.proofs.lemmas.List.Sorted.{IsPermutation-sym}
use Rattle.nv_plain.specs.declared.call.Reply.{Reply}
use Rattle.nv_core.specs.state.Passes.{IsOneOf, Pass, is_write, plain_call}
use Rattle.nv_core.specs.state.Words.{Sizes, HEAD, STOP}
use Rattle.nv_core.specs.steps.Events.{Event}
use Rattle.nv_core.specs.steps.Frames.{OwnEventsTell}
use Rattle.nv_core.specs.steps.Opening.{IsMount, opening}
use Rattle.nv_core.specs.invariant.Draws.{drawn_of}
use Rattle.nv_core.specs.invariant.InvariantLaws.{RunsAreSound}
use Rattle.nv_core.specs.invariant.LaterHistories.{HistoriesGoOn}
use Rattle.nv_core.proofs.invariant.HistoryLaws.{begins_all}
use Rattle.nv_table.specs.invariant.BetweenSteps.{KnowsTaken}
use Rattle.nv_table.specs.invariant.Idle.{IsIdle}
use Rattle.nv_table.specs.passes.Alone.{IsAlone}
use Rattle.nv_table.specs.passes.Seats.{past_of}
use Rattle.nv_table.specs.state.Opened.{Opened, IsRunOf, mount_of, state_of}
use Rattle.nv_table.specs.state.States.{PassState}
use Rattle.nv_table.specs.state.Views.{AreDistinctNumbers, Past, PassView, first_view, made_of, numbers, pass_of, past_pass}
use Rattle.nv_mount.specs.ClosedAtRest.{HasEmptiedLog}
use Rattle.nv_mount.specs.LoneWords.{word_then}
use Rattle.nv_mount.specs.RisenCounts.{SawStop}
use Rattle.nv_mount.specs.WholeRuns.{history_then}
use Rattle.nv_mount.specs.declared.fds.Fd.{Fd}
use Rattle.nv_mount.proofs.WholeRunLaws.{all_taken, joined_then, not_made}
use Rattle.nv_mirror.specs.Answers.{IsUnplaced}
use Rattle.nv_mirror.specs.declared.answers.Refusal.{Refusal}
use Rattle.nv_calls.specs.fsync.SyncRuns.{file_of_fd}
use Rattle.nv_calls.specs.histories.Faults.{open_in, open_writes}
use Rattle.nv_calls.specs.histories.Heeds.{HasSeenStop}
use Rattle.nv_trace.specs.declared.trace_call.TraceCall.{TraceCall}
use Rattle.nv_trace.specs.declared.trace_call.TraceCall.TheVariants.{Pread, Pwrite, Preadv, Pwritev, Fsync}
use Rattle.nv_trace.specs.declared.trace_call.TracedCall.{TracedCall}
use Rattle.nv_runner.specs.Entries.{entries_of_calls}
use Rattle.nv_runner.specs.declared.answer.Answer.TheVariants.{Placed, Open}
use Rattle.nv_runner.specs.declared.plan.Plan.{Plan}
use Rattle.nv_runner.specs.declared.run_error.RunError.{RunError}
use Rattle.nv_runner.specs.declared.run_error.RunError.TheVariants.{NoMemory, Fault}
use Rattle.nv_runner.specs.declared.sorted.SortedCalls.{SortedCalls}
use Rattle.nv_runner.specs.Calls.{IsUnbarred, IsUnbarredWrite, call_on, fd_of}
use Rattle.nv_runner.specs.EndedRuns.{HasOutcome, HasRunOut, IsOutcomeOf, IsRefusedSo, batch_of}
use Rattle.nv_runner.specs.Faithful.{IsWrite, not_later}
use Rattle.nv_runner.specs.Histories.{RoundsRise}
use Rattle.nv_runner.specs.Lists.{MadeCall, calls_made}
use Rattle.nv_runner.specs.OpenRuns.{OpenInRun}
use Rattle.nv_runner.specs.OpenWrites.{KeepsFaults}
use Rattle.nv_runner.specs.Refusals.{early_of_call, unless_file, word_seen}
use Rattle.nv_runner.specs.Rounds.{AreCallsOf}
use Rattle.nv_runner.specs.RunNumbers.{HaveDrawn, RunsDrawInARow}
use Rattle.nv_runner.specs.RunRefusals.{DrawsHaveRoom, HeadsCountCalls, IsRefusedInRun, IsRunOfPasses, RefusalsInRunsHaveCauses, calls_that_drew}
use Rattle.nv_runner.specs.Runs.{CleansNothing, OnlyMakesPasses}
use Rattle.nv_runner.specs.Shifts.{HasRun, IsShift, Shift}
use Rattle.nv_runner.specs.Sorted.{AreSortedOut, HaveOwnLines}
use Rattle.nv_runner.specs.Tries.{HasRunBatches}
use Rattle.nv_runner.specs.Workers.{IsZeroStill}
use Rattle.nv_runner.proofs.histories.HistoryMembers.{of_one, one_mapped, one_moved, one_of_joined, one_of_mapped}
use Rattle.nv_runner.proofs.NewcomerLaws.{unmade_own}
use Rattle.nv_runner.proofs.PassLaws.{unplaced_on}
use Rattle.nv_runner.proofs.ShiftRuns.{MadeAt, chain, made_at_one}
use Rattle.nv_runner.proofs.StopSeen.{seen_by_zero}

-- ---- STOP, where pass 0 has taken in all that it made

-- where it is 1 a pass has seen it so
pub stop_was_seen : RunsAreSound → OwnEventsTell → (view : PassView) → IsMount (mount_of view.opened) → IsRunOf view.opened view.run → view.number ≡ 0 → KnowsTaken view → length view.ended ≡ made_of view
    → word_then view STOP ≡ 1 → SawStop view
stop_was_seen sound tell view mount is_run zero_is knows all set =
    let known = (sound (mount_of view.opened) view.run mount is_run).stop.known set in
    let Stopped : ℕ → Type 0 = λ n. ((state_of view.opened view.run).passes n).stopped ≡ true in
    elim (cases_eq known.0 0) [
      | inl none ↦ inl (subst Stopped (none ∙ sym zero_is) known.2)
      | inr some ↦ (let taken = all_taken sound view mount is_run zero_is knows all known.0 (omega (arith, some)) known.1 in
          inr (
            taken.0,
            taken.1,
            sym (ap (λ (p : Pass). p.stopped) (joined_then sound view mount is_run zero_is knows all tell taken.0 taken.1)) ∙ subst Stopped (sym taken.2) known.2,
          ))
    ]

-- ---- what an answer tells

-- a call that has its place was not barred
early_none : (sizes : Sizes) (fds : List Fd) (call : TraceCall) (file : ℕ) → file_of_fd fds (fd_of call) ≡ Some file → IsUnbarred sizes fds call → early_of_call sizes fds call ≡ None
early_none sizes fds (Pread fd at len) file file_is unbarred = unbarred
early_none sizes fds (Pwrite fd at bytes) file file_is unbarred = unbarred
early_none sizes fds (Preadv fd at lens) file file_is unbarred = unbarred
early_none sizes fds (Pwritev fd at parts) file file_is unbarred = unbarred
early_none sizes fds (Fsync fd) file file_is unbarred = ap unless_file file_is

-- a write that a fault ended is one of some bytes
of_some_bytes : (call : TraceCall) (file : ℕ) → is_write (plain_call (call_on call file)) ≡ true → IsWrite call
of_some_bytes (Pread fd at len) file write = absurd (true≢false (sym write))
of_some_bytes (Pwrite fd at bytes) file write = ltb-true 0 (length bytes) write
of_some_bytes (Preadv fd at lens) file write = absurd (true≢false (sym write))
of_some_bytes (Pwritev fd at parts) file write = ltb-true 0 (length (concat parts)) write
of_some_bytes (Fsync fd) file write = absurd (true≢false (sym write))

-- and nothing bars it
bars_nothing : (sizes : Sizes) (fds : List Fd) (call : TraceCall) → IsUnbarredWrite sizes fds call → early_of_call sizes fds call ≡ None
bars_nothing sizes fds (Pread fd at len) unbarred = absurd unbarred
bars_nothing sizes fds (Pwrite fd at bytes) unbarred = unbarred
bars_nothing sizes fds (Preadv fd at lens) unbarred = absurd unbarred
bars_nothing sizes fds (Pwritev fd at parts) unbarred = unbarred
bars_nothing sizes fds (Fsync fd) unbarred = absurd unbarred

-- ---- pass 0 after its log was cleaned, or where it was not

-- It has placed nothing more, and no fault has ended a write of it; it is between two calls, and alone.
pub record IsCleaned (zero now : PassState) : Type 0 where
  pub opened : now.view.opened ≡ zero.view.opened
  pub ended : now.view.ended ≡ zero.view.ended
  pub spare : now.spare ≡ zero.spare
  pub unplaced : IsUnplaced zero.view now.view
  pub keeps : KeepsFaults zero now
  pub more : List Event
  pub run : now.view.run ≡ zero.view.run ++ more
  pub drawn : drawn_of now.view.opened.sizes (pass_of now.view) ≡ drawn_of zero.view.opened.sizes (pass_of zero.view)
  pub idle : IsIdle now
  pub taken : KnowsTaken now.view
  pub alone : IsAlone now.view

pub not_cleaned : (zero : PassState) → IsIdle zero → KnowsTaken zero.view → IsAlone zero.view → IsCleaned zero zero
not_cleaned zero idle taken alone = record {
  opened = refl;
  ended = refl;
  spare = refl;
  unplaced = record { seen = refl; mine = refl };
  keeps = record { opens = refl; stays = λ seen. seen };
  more = [];
  run = sym (append-nil zero.view.run);
  drawn = refl;
  idle = idle;
  taken = taken;
  alone = alone;
}

-- ---- a run

module _ (fds : List Fd) (plan : Plan) (calls : List TracedCall) (made : List MadeCall) (start zero : PassState) (opened : Opened) (new : start.view ≡ first_view opened) (same_mount : zero.view.opened ≡ start.view.opened)
    (still : IsZeroStill start zero) (run : HasRun fds (batch_of plan) made zero) (mount : IsMount (mount_of zero.view.opened)) (is_run : IsRunOf zero.view.opened zero.view.run) (knows : KnowsTaken zero.view)
    (zero_is : zero.view.number ≡ 0) (all_in : length zero.view.ended ≡ made_of zero.view) where
  abbrev worker : Option ℕ
  worker = batch_of plan

  -- ---- pass 0 after the rounds

  whole : RunsAreSound → IsRunOfPasses zero.view
  whole sound = record {
    is_run = is_run;
    joined = knows.behind;
    others = λ number ne none. unmade_own zero.view.opened.sizes number zero.view.run (opening (mount_of zero.view.opened)) is_run (not_made sound zero.view mount is_run zero_is knows all_in number ne none);
  }

  undrawn : drawn_of zero.view.opened.sizes (pass_of zero.view) ≡ 0
  undrawn =
      let more = (still.on None).drawn in
      let same = ap (λ (v : PassView). drawn_of v.opened.sizes (pass_of v)) new in
      let first : drawn_of opened.sizes (pass_of (first_view opened)) ≡ 0 = omega arith in
      omega (arith, more, same, first)

  uncleaned : worker ≡ None → CleansNothing zero.view.number zero.view.run
  uncleaned none =
      let on = still.on worker in
      subst (CleansNothing zero.view.number) (sym (on.run ∙ ap (λ (v : PassView). v.run ++ on.more) new)) (subst (λ n. CleansNothing n on.more) (sym still.number) (on.calls none))

  unopened : open_writes zero ≡ []
  unopened = still.opens ∙ ap (λ (v : PassView). open_in (pass_of v).faulted) new

  -- ---- one of its calls

  -- with its shift
  pub record HasMade (m : MadeCall) : Type 0 where
    pub shift : Shift
    pub there : IsOneOf run.shifts shift
    pub is : IsShift fds worker zero.view.opened shift
    pub at : MadeAt fds worker shift.made m shift.start is.last

  has_made : (m : MadeCall) → IsOneOf made m → HasMade m
  has_made m one =
      let found = one_of_joined (λ (s : Shift). s.made) run.shifts m (one_moved made (flat_map (λ (s : Shift). s.made) run.shifts) m run.listed one) in
      let is = of_one (IsShift fds worker zero.view.opened) run.shifts found.0 run.each found.1 in
      record { shift = found.0; there = found.1; is = is; at = made_at_one fds worker found.0.made m found.0.start is.last is.made found.2 }

  seen_at : (m : MadeCall) (has : HasMade m) → HasSeenStop has.at.now → SawStop zero.view
  seen_at m has seen =
      seen_by_zero fds worker has.shift zero has.is (subst (λ l. IsOneOf l (past_of has.shift.now.view)) run.pasts (one_mapped (λ (s : Shift). past_of s.now.view) run.shifts has.shift has.there)) has.at.after has.at.now has.at.rest seen

  old_opened : (m : MadeCall) (has : HasMade m) → has.at.old.view.opened ≡ zero.view.opened
  old_opened m has =
      (chain fds worker zero.view.opened.sizes has.at.before has.shift.start has.at.old (ap (λ (o : Opened). o.sizes) has.is.mount) has.at.first).opened ∙ has.is.mount

  -- ---- and when it has cleaned the log

  module _ (now : PassState) (cleaned : IsCleaned zero now) where
    run_now : HasRun fds worker made now
    run_now = record {
      shifts = run.shifts;
      pasts = run.pasts ∙ sym cleaned.ended;
      each = subst (λ (o : Opened). All (IsShift fds worker o) run.shifts) (sym cleaned.opened) run.each;
      in_order = run.in_order;
      listed = run.listed;
    }

    run_out : HasRunOut fds worker made start now
    run_out = record {
      mount = cleaned.opened ∙ same_mount;
      spare = cleaned.spare ∙ still.spare;
      run = run_now;
      idle = cleaned.idle;
      unplaced = unplaced_on start.view zero.view now.view still.unplaced cleaned.unplaced;
      taken = cleaned.taken;
      alone = cleaned.alone;
    }

    -- what the calls drew HEAD counts
    drawn_now : RunsAreSound → HeadsCountCalls → AreDistinctNumbers (numbers zero.view.ended) → IsRunOf now.view.opened now.view.run
        → word_then now.view HEAD ≡ now.view.opened.next + entries_of_calls now.view.opened.sizes.page (calls_that_drew made)
    drawn_now sound heads distinct is_run_now =
        let mount_now = subst (λ (o : Opened). IsMount (mount_of o)) (sym cleaned.opened) mount in
        heads fds worker made now run_now mount_now
        record {
          is_run = is_run_now;
          joined = cleaned.taken.behind;
          others = λ number ne none.
              unmade_own now.view.opened.sizes number now.view.run (opening (mount_of now.view.opened)) is_run_now
              (not_made sound now.view mount_now is_run_now cleaned.alone.zero cleaned.taken cleaned.alone.all number ne none);
        }
        (subst (λ (l : List Past). AreDistinctNumbers (numbers l)) (sym cleaned.ended) distinct) (cleaned.drawn ∙ undrawn)

    -- and HEAD comes to no more than the last number
    small_now : RunsAreSound → HeadsCountCalls → AreDistinctNumbers (numbers zero.view.ended) → IsRunOf now.view.opened now.view.run
        → now.view.opened.next + entries_of_calls now.view.opened.sizes.page (calls_that_drew made) ≤ 2 ^ 60
    small_now sound heads distinct is_run_now =
        let mount_now = subst (λ (o : Opened). IsMount (mount_of o)) (sym cleaned.opened) mount in
        let most = (sound (mount_of now.view.opened) now.view.run mount_now is_run_now).window.small in
        let counted = drawn_now sound heads distinct is_run_now in
        omega (arith, most, counted)

    saw_now : SawStop zero.view → SawStop now.view
    saw_now saw = elim saw [
      | inl own ↦ inl (cleaned.keeps.stays own)
      | inr past ↦ inr (past.0, subst (λ (l : List Past). IsOneOf l past.0) (sym cleaned.ended) past.1, ap (λ (o : Opened). (past_pass o past.0).stopped) cleaned.opened ∙ past.2)
    ]

    longer : HistoriesGoOn → IsRunOf now.view.opened now.view.run → length (history_then zero.view) ≤ length (history_then now.view)
    longer goes_on is_run_now =
        let o = zero.view.opened in
        let both : IsRunOf o (zero.view.run ++ cleaned.more) = subst (IsRunOf o) cleaned.run (subst (λ (p : Opened). IsRunOf p now.view.run) cleaned.opened is_run_now) in
        let begins = (goes_on (mount_of o) zero.view.run cleaned.more mount both).begins in
        let same : history_then now.view ≡ (state_of o (zero.view.run ++ cleaned.more)).history = ap (λ (p : Opened). (state_of p now.view.run).history) cleaned.opened ∙ ap (λ r. (state_of o r).history) cleaned.run in
        let joined = length-append (history_then zero.view) begins.0 in
        let long = ap length (same ∙ begins.1) in
        omega (arith, joined, long)

    refused_so : HistoriesGoOn → IsRunOf now.view.opened now.view.run → (call : TracedCall) (refusal : Refusal) → IsRefusedInRun fds worker made zero call refusal → IsRefusedSo fds worker made now call refusal
    refused_so goes_on is_run_now call refusal is =
        let order = is.order in
        let more = longer goes_on is_run_now in
        record {
          now = is.now;
          opened = is.opened ∙ sym cleaned.opened;
          cause = is.cause;
          seen = λ seen. saw_now (is.seen seen);
          order = omega (arith, order, more);
          head = subst (λ (o : Opened). word_seen is.now HEAD ≤ o.next + entries_of_calls o.sizes.page (not_later call (calls_that_drew made))) (sym cleaned.opened) is.head;
          tail = λ none always. is.tail none (uncleaned none) ∙ sym (ap (λ (o : Opened). o.next) cleaned.opened);
          behind = begins_all is.now.view.run zero.view.run now.view.run is.behind (cleaned.more, cleaned.run);
        }

    not_barred : (call : TracedCall) (place : ℕ) (reply : Reply) → IsOneOf made (record { call = call; answer = Placed place reply }) → early_of_call now.view.opened.sizes fds call.call ≡ None
    not_barred call place reply one =
        let has = has_made (record { call = call; answer = Placed place reply }) one in
        let told = has.at.told in
        let same = told.opened ∙ old_opened (record { call = call; answer = Placed place reply }) has ∙ sym cleaned.opened in
        ap (λ (o : Opened). early_of_call o.sizes fds call.call) (sym same) ∙ early_none has.at.now.view.opened.sizes fds call.call told.told.0 told.told.1 told.admitted

    open_stopped : (call : TracedCall) (number : ℕ) → IsOneOf made (record { call = call; answer = Open number }) → SawStop now.view × IsWrite call.call × (early_of_call now.view.opened.sizes fds call.call ≡ None)
    open_stopped call number one =
        let m : MadeCall = record { call = call; answer = Open number } in
        let has = has_made m one in
        let told = has.at.told.told in
        let unbarred = subst (λ (o : Opened). IsUnbarredWrite o.sizes fds call.call) (old_opened m has ∙ sym cleaned.opened) told.unbarred in (
          saw_now (seen_at m has told.seen),
          of_some_bytes call.call told.file told.write,
          bars_nothing now.view.opened.sizes fds call.call unbarred,
        )

    -- ---- what is answered

    sorted_in : {T : Type 0} (result : Result T RunError) (outcome : Result SortedCalls RunError) → OnOk result (IsPermutation (calls_made made) calls) → IsOutcomeOf result made outcome
        → IfOk outcome (λ sorted. AreSortedOut made sorted × IsPermutation calls (calls_made made))
    sorted_in (Ok done) (Ok sorted) all is = (is, IsPermutation-sym (calls_made made) calls all)
    sorted_in (Ok done) (Err error) all is = tt
    sorted_in (Err error) (Ok sorted) all is = absurd is
    sorted_in (Err error) (Err other) all is = tt

    emptied_in : {T : Type 0} (result : Result T RunError) (outcome : Result SortedCalls RunError) → OnOk result (HasEmptiedLog now.view) → IsOutcomeOf result made outcome → OnOk outcome (HasEmptiedLog now.view)
    emptied_in (Ok done) (Ok sorted) emptied is = emptied
    emptied_in (Ok done) (Err error) emptied is = tt
    emptied_in (Err error) (Ok sorted) emptied is = absurd is
    emptied_in (Err error) (Err other) emptied is = tt

    fault_in : {T : Type 0} (result : Result T RunError) (outcome : Result SortedCalls RunError) → (result ≡ Err Fault → (is_none plan.stop ≡ true) × SawStop now.view) → IsOutcomeOf result made outcome → outcome ≡ Err Fault → (is_none plan.stop ≡ true) × SawStop now.view
    fault_in (Ok done) (Ok sorted) saw is fault = absurd (cc)
    fault_in (Ok done) (Err error) saw is fault = absurd (cc)
    fault_in (Err error) (Ok sorted) saw is fault = absurd is
    fault_in (Err error) (Err other) saw is fault = saw (ap (λ (e : RunError). Err e) (sym is ∙ same fault))
      where
        same : ◌≡◌ {A = Result SortedCalls RunError} (Err other) (Err Fault) → other ≡ Fault
        same e = cc

    without : plan.worker ≡ false → worker ≡ None
    without none = ap (λ b. if b then Some plan.batch else None) none

    pub outcome_is : {T : Type 0} → RunsAreSound → HistoriesGoOn → RefusalsInRunsHaveCauses → HeadsCountCalls → DrawsHaveRoom → RunsDrawInARow → OpenInRun → AreCallsOf calls made → HaveOwnLines (calls_made made) → RoundsRise (calls_made made) → AreDistinctNumbers (numbers zero.view.ended)
        → IsRunOf now.view.opened now.view.run → (result : Result T RunError) → OnOk result (IsPermutation (calls_made made) calls) → (is_none plan.stop ≡ true → OnOk result (HasEmptiedLog now.view))
        → (result ≡ Err Fault → (is_none plan.stop ≡ true) × SawStop now.view) → (is_some plan.stop ≡ true → now ≡ zero) → (is_none plan.stop ≡ true → HasRunBatches (Some plan.batch) zero now) → (outcome : Result SortedCalls RunError) → IsOutcomeOf result made outcome
        → (out : HasOutcome fds plan calls start outcome now) × (out.made ≡ made)
    outcome_is sound goes_on causes heads has_room draw are_open within own rise distinct is_run_now result all emptied fault stays batches outcome is = (
      record {
        made = made;
        run_out = run_out;
        sorted = sorted_in result outcome all is;
        emptied = λ going. emptied_in result outcome (emptied going) is;
        uncleaned = λ stop. subst (OnlyMakesPasses start) (sym (stays stop)) still.makes;
        cleaned = λ going. (zero, still.makes, batches going);
        fault = fault_in result outcome fault is;
        causes = λ call refusal one. refused_so goes_on is_run_now call refusal (causes fds worker made zero run mount (whole sound) undrawn rise call refusal one);
        not_barred = not_barred;
        left_open = are_open fds worker made now run_now (cleaned.keeps.opens ∙ unopened);
        open_stopped = open_stopped;
        drawn = subst (λ (o : Opened). HaveDrawn o.sizes o.next made) (sym cleaned.opened) (draw fds worker made zero run mount (whole sound) distinct undrawn rise);
        within = within;
        own = own;
        counted = drawn_now sound heads distinct is_run_now;
        small = small_now sound heads distinct is_run_now;
        room = λ none. subst (λ (o : Opened). entries_of_calls o.sizes.page (calls_that_drew made) ≤ o.sizes.entries) (sym cleaned.opened)
            (has_room fds worker made zero run mount (whole sound) distinct (without none) (uncleaned (without none)));
      },
      refl,
    )

-- ---- what a run begins with

-- the calls that were made are some of a trace, whose lines tell of its rounds
pub rises_within : (calls : List TracedCall) (made : List MadeCall) → RoundsRise calls → AreCallsOf calls made → RoundsRise (calls_made made)
rises_within calls made rise within a b one other =
    let of_a = one_of_mapped (λ (m : MadeCall). m.call) made a one in
    let of_b = one_of_mapped (λ (m : MadeCall). m.call) made b other in
    rise a b (subst (IsOneOf calls) of_a.2 (within of_a.0 of_a.1)) (subst (IsOneOf calls) of_b.2 (within of_b.0 of_b.1))

-- a run that is to be stopped is not one that goes on
pub not_both : {T : Type 0} (stop : Option T) → is_some stop ≡ true → is_none stop ≡ true → ⊥
not_both (Some call) some none = absurd (cc)
not_both None some none = absurd (cc)

-- want of memory is no fault, nor is success
pub memory_is_no_fault : {T : Type 0} → ◌≡◌ {A = Result T RunError} (Err NoMemory) (Err Fault) → ⊥
memory_is_no_fault is = cc

pub ok_is_no_fault : {T : Type 0} (done : T) → ◌≡◌ {A = Result T RunError} (Ok done) (Err Fault) → ⊥
ok_is_no_fault done is = cc
