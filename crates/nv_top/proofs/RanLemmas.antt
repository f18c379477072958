-- The calls of a run, as what is shown of it needs them, and what it read and wrote meanwhile.
use Rattle.std.proofs.Common.{◌≡◌, ℕ, Bool, true, false, List, [], ◌++◌, map, Option, Some, None, Result, Ok, Err, inl, refl, sym, ap, subst, ◌∙◌, arith, ◌≤◌}
use Rattle.std.specs.Prelude.{◌≢◌, IfSome, IsOk}
use Rattle.std.proofs.lemmas.List.{append-nil}
use Rattle.std.proofs.lemmas.List.Elements.{All-nil}
use Rattle.std.specs.Prelude.{All}
use Rattle.nv_runner.specs.Streams.{IsRoundAtHand}
use Rattle.nv_runner.proofs.histories.HistoryMembers.{of_one}
use Rattle.nv_plain.specs.Faults.{Rose}
use Rattle.nv_pmem.specs.Steps.{PartHistory}
use Rattle.nv_store.specs.Steps.{StoreHistory}
use Rattle.nv_core.specs.crash.CrashImages.{OpensRegion}
use Rattle.nv_core.specs.state.Values.{Value}
use Rattle.nv_table.specs.state.Opened.{mount_of}
use Rattle.nv_table.specs.state.States.{PassState}
use Rattle.nv_table.specs.state.Views.{first_view}
use Rattle.nv_mount.specs.Mounts.{MountState}
use Rattle.nv_mount.specs.declared.fds.Fd.{Fd}
use Rattle.nv_trace.specs.NextRound.{IsAtLine, ahead}
use Rattle.nv_trace.specs.ReadRounds.{without_calls}
use Rattle.nv_trace.specs.Shape.{IsWellFormed}
use Rattle.nv_trace.specs.Streams.{Appends}
use Rattle.nv_trace.specs.Traced.{Traced}
use Rattle.nv_trace.specs.declared.read_error.ReadError.TheVariants as read_errors
use Rattle.nv_trace.specs.declared.reader.LineReader.{LineReader}
use Rattle.nv_trace.specs.declared.trace.Descriptor.{Descriptor}
use Rattle.nv_mount.specs.RisenCounts.{SawStop}
use Rattle.nv_trace.specs.declared.trace_call.TracedCall.{TracedCall}
use Rattle.nv_runner.specs.EndedRuns.{IsClosedBy}
use Rattle.nv_runner.specs.Faithful.{Basis, descriptors_in}
use Rattle.nv_runner.specs.FaithfulRuns.{IsMountOf, as_fd}
use Rattle.nv_runner.specs.Histories.{PlacedCall}
use Rattle.nv_runner.specs.Lists.{MadeCall}
use Rattle.nv_runner.specs.Lives.{LeaveLife, RunsLeaveLives}
use Rattle.nv_runner.specs.ShownLives.{LeaveLifeBehind, RunsLeaveShownLives}
use Rattle.nv_runner.specs.ToldRounds.{TellsRounds}
use Rattle.nv_load.specs.declared.load.Load.{Load}
use Rattle.nv_runner.specs.Streams.{HasStreamed, IsAllRead}
use Rattle.nv_runner.specs.declared.kept.KeptCalls.{KeptCalls}
use Rattle.nv_runner.specs.declared.plan.Plan.{Plan}
use Rattle.nv_runner.specs.declared.run_error.RunError.{RunError}
use Rattle.nv_runner.specs.declared.sorted.SortedCalls.{SortedCalls}
use Rattle.nv_runner.specs.declared.stream.StreamError.{StreamError}
use Rattle.nv_runner.specs.declared.stream.StreamError.TheVariants as ends
use Rattle.nv_top.specs.Ran.{AreOf, AreShown, HasRunCalls, HasStreamedOn, IsRunInput, IsToldAs, IsTraceOf, MayShow, shown_of}
use Rattle.nv_top.specs.Ready.{IsRunnable}
use Rattle.std.specs.Result.{IsErrAnd}
use Rattle.std.specs.Global.{Vec}
use Rattle.nv_bench.specs.Benches.{BenchState}
use Rattle.nv_open.specs.declared.error.Refusal.{Refusal}
use Rattle.nv_top.specs.Headline.{IsRunRefused}
use Rattle.nv_top.specs.Lives.{LeavesRun, tells_as}
use Rattle.nv_top.specs.RunInputs.{HasRunToEnd}
use Rattle.nv_top.specs.Stops.{StopHasCause}
use Rattle.nv_top.specs.declared.ending.Stop.{Stop}
use Rattle.nv_top.specs.declared.ending.Stop.TheVariants.{Region}
use Rattle.nv_words.specs.declared.words.RunOptions.{RunOptions}
use Rattle.nv_top.specs.Runs.{BeginsMount}
use Rattle.nv_top.specs.Shows.{trace_run}
use Rattle.nv_top.specs.declared.input.Input.{Input}
use Rattle.nv_top.specs.declared.ran.RanCalls.{RanCalls}
use Rattle.nv_top.specs.declared.show.Show.{Show}
use Rattle.nv_top.specs.declared.show.Show.TheVariants as shows

-- ---- what is told

-- what is told of calls, or of an error
pub told_calls : (show : Show) (calls : RanCalls) (outcome : Result SortedCalls RunError) → IsToldAs show (Ok calls) outcome → (sorted : SortedCalls) × (outcome ≡ Ok sorted) × AreOf show calls sorted
told_calls show calls (Ok sorted) told = (sorted, refl, told)
told_calls show calls (Err error) told = absurd told

pub told_error : (show : Show) (error : RunError) (outcome : Result SortedCalls RunError) → IsToldAs show (Err error) outcome → outcome ≡ Err error
told_error show error (Ok sorted) told = absurd told
told_error show error (Err other) told = ap Err told

abbrev as_outcome : SortedCalls → Result SortedCalls RunError
as_outcome sorted = Ok sorted

-- of a run that was brought to its end all calls that have a place were shown before it
pub shown_is : (show : Show) (calls : List TracedCall) (made : List MadeCall) (outcome : Result SortedCalls RunError) (sorted : SortedCalls) (shown : List PlacedCall) → outcome ≡ Ok sorted → AreShown show calls made outcome shown → shown ≡ shown_of show sorted
shown_is shows.Report calls made (Ok one) sorted shown is are = are.2 ∙ ap (shown_of shows.Report) (same_sorted one sorted is)
  where
    same_sorted : (one other : SortedCalls) → as_outcome one ≡ as_outcome other → one ≡ other
    same_sorted one other is = cc
shown_is shows.Report calls made (Err error) sorted shown is are = cc
shown_is (shows.Summary load) calls made outcome sorted shown is are = are

pub shown_report_is : (show : Show) (sorted : SortedCalls) → show ≡ shows.Report → shown_of show sorted ≡ shown_of shows.Report sorted
shown_report_is show sorted is = ap (λ show. shown_of show sorted) is

-- ---- the trace of the calls

-- the trace that is run has the files and the descriptors of the one that is there
pub names_all : (show : Show) (input : Input) (given : Option (List ℕ)) (ended : Result (Unit {0}) StreamError) (all : Traced) → IsTraceOf show input given ended all → all.names ≡ input.trace.names
names_all shows.Report input given ended all trace = trace.0.names
names_all (shows.Summary load) input given ended all trace = ap (λ (trace : Traced). trace.names) trace.1

descriptors_all : (show : Show) (input : Input) (given : Option (List ℕ)) (ended : Result (Unit {0}) StreamError) (all : Traced) → IsTraceOf show input given ended all → all.descriptors ≡ input.trace.descriptors
descriptors_all shows.Report input given ended all trace = trace.0.descriptors
descriptors_all (shows.Summary load) input given ended all trace = ap (λ (trace : Traced). trace.descriptors) trace.1

pub runnable_all : (show : Show) (input : Input) (given : Option (List ℕ)) (ended : Result (Unit {0}) StreamError) (all : Traced) → IsRunInput show input → IsTraceOf show input given ended all → IsRunnable all
runnable_all shows.Report input given ended all at_hand trace = record { well_formed = trace.0.well_formed; lines = trace.0.lines; few = trace.0.few }
runnable_all (shows.Summary load) input given ended all at_hand trace = subst IsRunnable (sym trace.1) at_hand.2

begins_with : (basis : Basis) (one other : Traced) (mount : MountState) (pass : PassState) → other.names ≡ one.names → other.descriptors ≡ one.descriptors → BeginsMount basis one mount pass → BeginsMount basis other mount pass
begins_with basis one other mount pass names descriptors begins =
    let is = begins.is_mount in
    let With : List (List ℕ) → List Descriptor → List Descriptor = λ names descriptors. descriptors_in basis.names (record one { names = names; descriptors = descriptors }) in
    let same : descriptors_in basis.names other ≡ descriptors_in basis.names one = ap (λ names. With names other.descriptors) names ∙ ap (With one.names) descriptors in
    record {
      is_mount = record { page = is.page; entries = is.entries; pages = is.pages; next = is.next; names = is.names; fds_are = is.fds_are ∙ ap (map as_fd) (sym same); files = is.files; log = is.log };
      region = begins.region;
      spare = begins.spare;
      long = begins.long;
    }

pub begins_all : (show : Show) (input : Input) (given : Option (List ℕ)) (ended : Result (Unit {0}) StreamError) (all : Traced) → IsTraceOf show input given ended all
    → (basis : Basis) (mount : MountState) (pass : PassState) → BeginsMount basis input.trace mount pass → BeginsMount basis all mount pass
begins_all show input given ended all trace basis mount pass begins =
    begins_with basis input.trace all mount pass (names_all show input given ended all trace) (descriptors_all show input given ended all trace) begins

-- ---- where nothing further was read

abbrev as_end : StreamError → Result (Unit {0}) StreamError
as_end error = Err error

abbrev well_ended : Result (Unit {0}) StreamError
well_ended = Ok tt

pub nothing_written : (written : Option (List ℕ)) → Appends written written []
nothing_written None = tt
nothing_written (Some bytes) = ap Some (sym (append-nil bytes))

all_at_hand : (more : Bool) (trace : Traced) (reader : LineReader) (input : List ℕ) → IsAtLine reader → IsAllRead more trace reader input (Err ends.NoMemory) trace
all_at_hand true trace reader input at = record {
  rounds = [];
  last = without_calls trace;
  read = inl (record { at_line = at; last_is = refl });
  all_is = sym (ap (λ calls. record trace { calls = calls }) (append-nil (trace.calls ++ []) ∙ append-nil trace.calls));
}
all_at_hand false trace reader input at = (refl, tt)

at_hand_read : (input : Input) (given : Option (List ℕ)) → IsAtLine input.reader → IfSome given (λ bytes. IsAllRead input.more input.trace input.reader (ahead input.reader ++ bytes) (Err ends.NoMemory) input.trace)
at_hand_read input None at = tt
at_hand_read input (Some bytes) at = all_at_hand input.more input.trace input.reader (ahead input.reader ++ bytes) at

at_hand_trace : (show : Show) (input : Input) (given : Option (List ℕ)) → IsRunInput show input → IsWellFormed input.trace → IsTraceOf show input given (Err ends.NoMemory) (trace_run show input.trace)
at_hand_trace shows.Report input given at_hand formed = (
  record {
    form = refl;
    names = refl;
    descriptors = refl;
    well_formed = formed;
    lines = at_hand.numbered.line_order;
    few = omega (arith, at_hand.numbered.few, at_hand.at_line.number, at_hand.at_line.taken);
  },
  at_hand_read input given at_hand.at_line,
)
at_hand_trace (shows.Summary load) input given at_hand formed = (tt, refl)

none_shown : (show : Show) → MayShow show []
none_shown shows.Report = tt
none_shown (shows.Summary load) = refl

pub unread : (show : Show) (input : Input) (given written : Option (List ℕ)) (reads writes : ℕ) → IsRunInput show input → IsWellFormed input.trace
    → HasStreamedOn show input given given reads reads written written writes writes (Err ends.NoMemory) (trace_run show input.trace) []
unread show input given written reads writes at_hand formed = record {
  trace = at_hand_trace show input given at_hand formed;
  may_show = none_shown show;
  written = nothing_written written;
  wrote = λ is. absurd (not_write is);
  at_end = λ is more. cc;
  unread = λ last. refl;
  read_failed = λ is. absurd (not_read is);
  read_kept = λ other. refl;
  write_failed = λ is. absurd (not_write is);
  write_kept = λ other. refl;
}
  where
    not_write : as_end ends.NoMemory ≡ as_end ends.Write → ⊥
    not_write is = cc

    not_read : as_end ends.NoMemory ≡ as_end (ends.Read read_errors.Failed) → ⊥
    not_read is = cc

-- ---- lives

-- a life of a run of which no call was shown
pub life_behind : (basis : Basis) (trace : Traced) (parts : List PartHistory) (stores : List StoreHistory) → LeaveLife basis trace parts stores → LeaveLifeBehind basis trace [] parts stores
life_behind basis trace parts stores life = record { later = life.history; is = life.is; images = life.images }

-- what is told where a pass has seen STOP set is told where devices failed, if they did then
pub told_failed : {seen failed : Type 0} (worker : Bool) (basis : Basis) (trace : Traced) (shown later : List PlacedCall) → (seen → failed) → TellsRounds seen worker basis trace shown later → TellsRounds failed worker basis trace shown later
told_failed worker basis trace shown later stops tells = record { late = tells.late; told = λ unfailed. tells.told (λ saw. unfailed (stops saw)) }

pub told_as_failed : {seen failed : Type 0} (show : Show) (worker : Bool) (basis : Basis) (trace : Traced) (shown later : List PlacedCall) → (seen → failed) → tells_as show seen worker basis trace shown later → tells_as show failed worker basis trace shown later
told_as_failed shows.Report worker basis trace shown later stops tells = told_failed worker basis trace shown later stops tells
told_as_failed (shows.Summary load) worker basis trace shown later stops tells = tt

-- of one round at hand there is nothing to tell: none is before it
pub told_at_hand : (failed : Type 0) (worker : Bool) (basis : Basis) (more : Bool) (trace : Traced) (reader : LineReader) → IsRoundAtHand more trace reader → TellsRounds failed worker basis trace [] []
told_at_hand failed worker basis more trace reader hand = record {
  late = All-nil (λ (p : PlacedCall). All (λ (call : TracedCall). call.round ≤ p.call.round) trace.calls);
  told = λ unfailed call earlier.
      (let less = earlier.1.2 in
      let here = of_one (λ (c : TracedCall). c.round ≡ hand.round) trace.calls call hand.one earlier.0 in
      let there = of_one (λ (c : TracedCall). c.round ≡ hand.round) trace.calls earlier.1.0 hand.one earlier.1.1 in
      absurd (omega (arith, less, here, there)));
}

pub told_of_first : (show : Show) (failed : Type 0) (worker : Bool) (basis : Basis) (input : Input) → IsRunInput show input → tells_as show failed worker basis (trace_run show input.trace) [] []
told_of_first shows.Report failed worker basis input hand = told_at_hand failed worker basis input.more input.trace input.reader hand
told_of_first (shows.Summary load) failed worker basis input hand = tt

-- Whatever a run came to, a life is left that begins with what was shown of it, and what is told of its rounds is so.
pub life_all : (show : Show) (basis : Basis) (all : Traced) (fds : List Fd) (plan : Plan) (start zero : PassState) (calls : Result RanCalls RunError) (shown : List PlacedCall) (part_values store_values : List Value) (parts : List PartHistory)
    (stores : List StoreHistory) (faults placed tail : ℕ) (failed : Type 0)
    → RunsLeaveLives → RunsLeaveShownLives → IsRunnable all → IsMountOf basis all start.view.opened fds → OpensRegion (mount_of start.view.opened) basis.names → start.view ≡ first_view start.view.opened
    → HasRunCalls show fds plan start calls all shown zero → IsClosedBy zero part_values store_values parts stores faults placed tail → (SawStop zero.view → failed)
    → (life : LeaveLifeBehind basis all shown parts stores) × tells_as show failed plan.worker basis all shown life.later
life_all shows.Report basis all fds plan start zero calls shown part_values store_values parts stores faults placed tail failed lives shown_lives runnable mount region new run by stops =
    let life = shown_lives basis all fds plan start zero run.outcome shown part_values store_values parts stores faults placed tail runnable.well_formed runnable.lines mount region new run.ran run.first.0 by in
    (life.1, told_failed plan.worker basis all shown life.1.later stops (life.2 (omega (arith, runnable.few)) run.first.1))
life_all (shows.Summary load) basis all fds plan start zero calls shown part_values store_values parts stores faults placed tail failed lives shown_lives runnable mount region new run by stops =
    let life = lives basis all fds plan start zero run.outcome part_values store_values parts stores faults placed tail runnable.well_formed runnable.lines mount region new run.ran by in
    (subst (λ shown. LeaveLifeBehind basis all shown parts stores) (sym run.first) (life_behind basis all parts stores life), tt)

-- ---- the rounds of an input

-- what was read and written is what the stream of the rounds says
pub streamed_on : (show : Show) (fds : List Fd) (plan : Plan) (start : PassState) (input : Input) (given left : Option (List ℕ)) (reads reads_now : ℕ) (before now : Option (List ℕ)) (writes writes_now : ℕ) (ended : Result (Unit {0}) StreamError)
    (calls : Result KeptCalls RunError) (zero : PassState) (stream : HasStreamed fds plan start input.more input.trace input.reader given before now ended calls zero)
    → (IsOk ended → input.more ≡ true → IfSome given (λ bytes. left ≡ Some [])) → (input.more ≡ false → left ≡ given)
    → (ended ≡ Err (ends.Read read_errors.Failed) → Rose reads reads_now) → (ended ≢ Err (ends.Read read_errors.Failed) → reads_now ≡ reads)
    → (ended ≡ Err ends.Write → Rose writes writes_now) → (ended ≢ Err ends.Write → writes_now ≡ writes)
    → show ≡ shows.Report → HasStreamedOn show input given left reads reads_now before now writes writes_now ended stream.all stream.shown
streamed_on show fds plan start input given left reads reads_now before now writes writes_now ended calls zero stream at_end unread read_failed read_kept write_failed write_kept is = subst (λ (show : Show). HasStreamedOn show input given left reads reads_now before now writes writes_now ended stream.all stream.shown) (sym is) (record {
  trace = (stream.trace, stream.read);
  may_show = tt;
  written = stream.written;
  wrote = stream.wrote;
  at_end = at_end;
  unread = unread;
  read_failed = read_failed;
  read_kept = read_kept;
  write_failed = write_failed;
  write_kept = write_kept;
})

-- a load reads nothing, and writes nothing before its end
pub loaded_on : (show : Show) (load : Load) (input : Input) (given written : Option (List ℕ)) (reads writes : ℕ) → input.more ≡ false → show ≡ shows.Summary load → HasStreamedOn show input given given reads reads written written writes writes (Ok tt) (trace_run (shows.Summary load) input.trace) []
loaded_on show load input given written reads writes last is = subst (λ (show : Show). HasStreamedOn show input given given reads reads written written writes writes (Ok tt) (trace_run (shows.Summary load) input.trace) []) (sym is) (record {
  trace = (tt, refl);
  may_show = refl;
  written = nothing_written written;
  wrote = λ is. absurd (not_ended ends.Write is);
  at_end = λ done more. absurd (not_both (sym last ∙ more));
  unread = λ last. refl;
  read_failed = λ is. absurd (not_ended (ends.Read read_errors.Failed) is);
  read_kept = λ other. refl;
  write_failed = λ is. absurd (not_ended ends.Write is);
  write_kept = λ other. refl;
})
  where
    not_ended : (error : StreamError) → well_ended ≡ as_end error → ⊥
    not_ended error is = cc

    not_both : false ≡ true → ⊥
    not_both is = cc

-- ---- a run that no round was made of

abbrev as_stop : Stop → Result (Vec ℕ) Stop
as_stop stop = Err stop

pub unrun : (show : Show) (options : RunOptions) (input : Input) (given written : Option (List ℕ)) (reads writes : ℕ) (old new : BenchState) (all : Traced) (result : Result (Vec ℕ) Stop) (stop : Stop) → IsErrAnd result (λ error. error ≡ stop)
    → HasStreamedOn show input given given reads reads written written writes writes (Err ends.NoMemory) all [] → IsRunnable all → StopHasCause old.faults new.faults stop → IfSome old.told (λ was. LeavesRun (tells_as show (Rose old.faults new.faults) options.worker) options was all [] new.told)
    → ((why : Refusal) → stop ≡ Region why → IfSome old.told (λ holding. IsRunRefused options holding all.names old new why))
    → HasRunToEnd show options input given given reads reads written written writes writes old new result
unrun show options input given written reads writes old new all (Ok text) stop is streamed runnable cause life refused = absurd is
unrun show options input given written reads writes old new all (Err error) stop is streamed runnable cause life refused = record {
  ended = Err ends.NoMemory;
  told = Err stop;
  answered = ap as_stop is;
  all = all;
  shown = [];
  streamed = streamed;
  memory = λ same. refl;
  runnable = runnable;
  cause = cause;
  life = life;
  ran = tt;
  refused = λ why same. refused why (same_stop stop (Region why) same);
  unbegun = λ why same. (refl, refl);
}
  where
    same_stop : (one other : Stop) → as_stop one ≡ as_stop other → one ≡ other
    same_stop one other is = cc
