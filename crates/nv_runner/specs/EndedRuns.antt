-- Ended runs: a mount over which calls of a trace were made, and what it tells when pass 0 closes it.
use Rattle.std.specs.Prelude.{◌≡◌, ℕ, ◌+◌, ◌^◌, ◌≤◌, true, false, List, is_none, is_some, IsPermutation, Option, Some, None, Result, Ok, Err, IfOk, OnOk, if◌then◌else◌}
use Rattle.std.specs.List.{flat_map}
use Rattle.nv_plain.specs.Faults.{Rose}
use Rattle.nv_plain.specs.declared.call.Reply.{Reply}
use Rattle.nv_pmem.specs.Steps.{PartHistory}
use Rattle.nv_store.specs.Steps.{StoreHistory}
use Rattle.nv_core.specs.state.Passes.{IsOneOf}
use Rattle.nv_core.specs.state.Values.{Value}
use Rattle.nv_core.specs.state.Words.{HEAD}
use Rattle.nv_table.specs.invariant.BetweenSteps.{KnowsTaken}
use Rattle.nv_table.specs.invariant.Idle.{IsIdle}
use Rattle.nv_table.specs.passes.Alone.{IsAlone}
use Rattle.nv_table.specs.state.Opened.{Opened}
use Rattle.nv_table.specs.state.States.{PassState}
use Rattle.nv_table.specs.state.Views.{AreDistinctNumbers, first_view, numbers}
use Rattle.nv_mount.specs.ClosedAtRest.{HasEmptiedLog, RestsWhereEmpty}
use Rattle.nv_mount.specs.LoneWords.{word_then}
use Rattle.nv_mount.specs.OneHistories.{HasOneHistory}
use Rattle.nv_mount.specs.RisenCounts.{SawStop, failed_before}
use Rattle.nv_mount.specs.Telling.{DevicesGoOnTelling, KeepLines}
use Rattle.nv_mount.specs.WholeRuns.{IsWholeRun}
use Rattle.nv_mount.specs.WholeWrites.{CrashesLeaveWholeWrites, faults_then}
use Rattle.nv_mount.specs.declared.fds.Fd.{Fd}
use Rattle.nv_mirror.specs.Answers.{IsUnplaced}
use Rattle.nv_mirror.specs.declared.answers.Refusal.{Refusal}
use Rattle.nv_calls.specs.histories.Faults.{open_in}
use Rattle.nv_trace.specs.declared.trace_call.TracedCall.{TracedCall}
use Rattle.nv_runner.specs.Entries.{entries_of_calls}
use Rattle.nv_runner.specs.declared.plan.Plan.{Plan}
use Rattle.nv_runner.specs.declared.run_error.RunError.{RunError}
use Rattle.nv_runner.specs.declared.run_error.RunError.TheVariants.{Fault, NoMemory}
use Rattle.nv_runner.specs.declared.sorted.SortedCalls.{SortedCalls}
use Rattle.nv_runner.specs.declared.answer.Answer.TheVariants.{Placed, Refused, Open}
use Rattle.nv_runner.specs.Faithful.{IsWrite}
use Rattle.nv_runner.specs.Lists.{MadeCall, calls_made}
use Rattle.nv_runner.specs.OpenRuns.{open_of}
use Rattle.nv_runner.specs.Refusals.{early_of_call}
use Rattle.nv_runner.specs.RunNumbers.{HaveDrawn}
use Rattle.nv_runner.specs.RunRefusals.{IsRefusedWhile, calls_that_drew}
use Rattle.nv_runner.specs.Runs.{OnlyMakesPasses}
use Rattle.nv_runner.specs.Shifts.{HasRun}
use Rattle.nv_runner.specs.Rounds.{AreCallsOf, AreInLineOrder, AreInRoundOrder}
use Rattle.nv_runner.specs.Sorted.{AreSortedOut, HaveOwnLines, OpenedCall, opened_calls}
use Rattle.nv_runner.specs.Tries.{HasRunBatches}
use Rattle.nv_runner.specs.Workers.{IsZeroStill}

-- the entries of a batch, where a worker runs any
abbrev pub batch_of : Plan → Option ℕ
batch_of plan = if plan.worker then Some plan.batch else None

-- Pass 0 was new at the start. Since then passes have made these calls; it has taken all of them in, is between calls, and has made none itself.
pub record HasRunOut (fds : List Fd) (worker : Option ℕ) (made : List MadeCall) (start zero : PassState) : Type 0 where
  pub mount : zero.view.opened ≡ start.view.opened
  pub spare : zero.spare ≡ start.spare
  pub run : HasRun fds worker made zero
  pub idle : IsIdle zero
  pub unplaced : IsUnplaced start.view zero.view
  pub taken : KnowsTaken zero.view
  pub alone : IsAlone zero.view

-- What a mount that pass 0 has closed so tells: its whole run, the one history of all calls, the stores and the region where its log is empty, and what a power failure leaves; and that devices have
-- failed where a pass saw STOP set, and never less often than before; and all devices tell where all told, and keep their lines.
pub record IsClosedBy (zero : PassState) (part_values store_values : List Value) (parts : List PartHistory) (stores : List StoreHistory) (faults placed tail : ℕ) : Type 0 where
  pub whole : IsWholeRun zero.view part_values store_values placed tail
  pub history : HasOneHistory zero.view placed
  pub rest : RestsWhereEmpty zero.view parts stores tail
  pub crash : CrashesLeaveWholeWrites zero.view parts stores
  pub stopped : SawStop zero.view → Rose (failed_before zero) faults
  pub grew : failed_before zero ≤ faults
  pub telling : DevicesGoOnTelling zero parts stores
  pub lines : KeepLines zero parts

-- why a call of such a run was refused, whatever batches pass 0 has run since
abbrev pub IsRefusedSo : List Fd → (worker : Option ℕ) → List MadeCall → (zero : PassState) → TracedCall → Refusal → Type 0
IsRefusedSo fds worker made zero call refusal = IsRefusedWhile (Unit {0}) fds worker made zero call refusal

-- What became of the calls of a trace: passes made them, and pass 0 came to this. All of them were made, and are sorted out, where the run was brought to its end; then the log is empty, unless the
-- run is one that is stopped, whose log pass 0 leaves as the calls left it. Else pass 0 runs batches of the plan's bound behind the last round, and does nothing else there. Each is a call of the trace, and no two are of one line. A fault is answered only of a run that isn't, and where a pass has seen STOP set. Each refusal has its cause; the writes that faults ended are the calls that were left open, each of some bytes, which came only where
-- a pass has seen STOP set; and without a worker the calls drew no more numbers than the log has entries. They drew them in a row, from the number that came next at opening, and HEAD counts their entries, no further than the last number.
pub record HasOutcome (fds : List Fd) (plan : Plan) (calls : List TracedCall) (start : PassState) (outcome : Result SortedCalls RunError) (zero : PassState) : Type 0 where
  pub made : List MadeCall
  pub run_out : HasRunOut fds (batch_of plan) made start zero
  pub sorted : IfOk outcome (λ sorted. AreSortedOut made sorted × IsPermutation calls (calls_made made))
  pub emptied : is_none plan.stop ≡ true → OnOk outcome (HasEmptiedLog zero.view)
  pub uncleaned : is_some plan.stop ≡ true → OnlyMakesPasses start zero
  pub cleaned : is_none plan.stop ≡ true → (before : PassState) × OnlyMakesPasses start before × HasRunBatches (Some plan.batch) before zero
  pub fault : outcome ≡ Err Fault → (is_none plan.stop ≡ true) × SawStop zero.view
  pub causes : (call : TracedCall) (refusal : Refusal) → IsOneOf made (record { call = call; answer = Refused refusal }) → IsRefusedSo fds (batch_of plan) made zero call refusal
  pub not_barred : (call : TracedCall) (place : ℕ) (reply : Reply) → IsOneOf made (record { call = call; answer = Placed place reply }) → early_of_call zero.view.opened.sizes fds call.call ≡ None
  pub left_open : (left : List OpenedCall) → IsPermutation (opened_calls made) left → IsPermutation (flat_map (open_of fds) left) (open_in (faults_then zero.view))
  pub open_stopped : (call : TracedCall) (number : ℕ) → IsOneOf made (record { call = call; answer = Open number }) → SawStop zero.view × IsWrite call.call × (early_of_call zero.view.opened.sizes fds call.call ≡ None)
  pub within : AreCallsOf calls made
  pub own : HaveOwnLines (calls_made made)
  pub drawn : HaveDrawn zero.view.opened.sizes zero.view.opened.next made
  pub counted : word_then zero.view HEAD ≡ zero.view.opened.next + entries_of_calls zero.view.opened.sizes.page (calls_that_drew made)
  pub small : zero.view.opened.next + entries_of_calls zero.view.opened.sizes.page (calls_that_drew made) ≤ 2 ^ 60
  pub room : plan.worker ≡ false → entries_of_calls zero.view.opened.sizes.page (calls_that_drew made) ≤ zero.view.opened.sizes.entries

-- Pass 0 of a mount was new at the start. Since then these of some calls were made, round by round in the order of their lines; it has taken in all passes that made them, and did nothing else.
pub record HaveRunRounds (fds : List Fd) (worker : Option ℕ) (opened : Opened) (calls : List TracedCall) (made : List MadeCall) (start zero : PassState) : Type 0 where
  pub new : start.view ≡ first_view opened
  pub still : IsZeroStill start zero
  pub run : HasRun fds worker made zero
  pub distinct : AreDistinctNumbers (numbers zero.view.ended)
  pub within : AreCallsOf calls made
  pub line_order : AreInLineOrder calls
  pub round_order : AreInRoundOrder calls

-- What is answered of a run that came to this: its error; or its calls, sorted out, or that memory was wanting for that.
abbrev pub IsOutcomeOf : {T : Type 0} → Result T RunError → List MadeCall → Result SortedCalls RunError → Type 0
IsOutcomeOf (Ok done) made (Ok sorted) = AreSortedOut made sorted
IsOutcomeOf (Ok done) made (Err error) = error ≡ NoMemory
IsOutcomeOf (Err error) made (Ok sorted) = ⊥
IsOutcomeOf (Err error) made (Err other) = other ≡ error
