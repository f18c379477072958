-- Next commands: what a command asks of a bench, and that one that ended with status 0 leaves it so for the next.
use Rattle.std.specs.Prelude.{◌≡◌, ◌⊎◌, ℕ, ◌^◌, ◌<◌, ◌≤◌, Bool, false, List, [], ◌∷◌, ◌++◌, length, Option, Some, IfSome}
use Rattle.std.specs.List.{concat, flat_map}
use Rattle.nv_plain.specs.declared.call.Reply.TheVariants.{Count}
use Rattle.nv_plain.specs.Faults.{Rose}
use Rattle.nv_plain.specs.Files.{Files}
use Rattle.nv_plain.specs.Histories.{Answered, IsLegal, after}
use Rattle.nv_plain.specs.Images.{header_of}
use Rattle.nv_bench.specs.Benches.{BenchState}
use Rattle.nv_bench.specs.Holding.{Holding, IsQuietHolding}
use Rattle.nv_bench.specs.Naming.{AreDistinct, names_of}
use Rattle.nv_open.specs.Adding.{all_names, new_names}
use Rattle.nv_open.specs.Begun.{files_behind}
use Rattle.nv_open.specs.Held.{files_named, header_names}
use Rattle.nv_open.specs.Refusals.{head_image}
use Rattle.nv_table.specs.state.Views.{PassView}
use Rattle.nv_mount.specs.RisenCounts.{SawStop}
use Rattle.nv_runner.specs.Faithful.{Basis, IsFaithful, descriptors_in, file_call, files_shown, history_of}
use Rattle.nv_runner.specs.Reports.{OpenCall, Report}
use Rattle.nv_schedule.specs.FaithfulSchedules.{IsFaithfulSchedule}
use Rattle.nv_trace.specs.declared.report.Fate.{Fate}
use Rattle.nv_trace.specs.declared.report.Fate.TheVariants.{Kept, Lost, Unanswered}
use Rattle.nv_trace.specs.declared.trace.Descriptor.{Descriptor}
use Rattle.nv_trace.specs.declared.trace_call.TraceCall.{TraceCall}
use Rattle.nv_trace.specs.declared.trace_call.TraceCall.TheVariants.{Pread, Pwrite, Preadv, Pwritev, Fsync}
use Rattle.nv_trace.specs.Shape.{IsWellFormed}
use Rattle.nv_trace.specs.Traced.{Traced}
use Rattle.nv_top.specs.Commands.{HasRecovered, HasRunOn, IsBasis, IsLookedAt, recovery_of}
use Rattle.nv_top.specs.Followed.{HasFollowed}
use Rattle.nv_top.specs.Headline.{HasInput, HasStopped, IsLeftBy, IsShown, expected_faults}
use Rattle.nv_top.specs.Runs.{next_behind}
use Rattle.nv_top.specs.Stopping.{next_in}
use Rattle.nv_top.specs.declared.show.Show.{Show}
use Rattle.nv_words.specs.declared.words.Command.{Command}
use Rattle.nv_words.specs.declared.words.RunOptions.{RunOptions}

-- A bench is as a command asks for it.
pub record IsReady (bench : BenchState) : Type 0 where
  pub closed : bench.is_open ≡ false
  pub home : bench.lent ≡ []
  pub quiet : IfSome bench.told IsQuietHolding
  pub arms : bench.arms < 2 ^ 63
  pub settled : bench.settled ≤ bench.faults

-- A bench that tells is ready for a second command by what the clauses of the top call say of a first one with status 0: what is back, the counts, and what is shown. It was armed less than 2^63 times.
abbrev pub NextIsReady : Type 0
NextIsReady =
    (command : Command) (input : Option (List ℕ)) (old new : BenchState) (holding : Holding) (text : List ℕ)
    → IsReady old → old.told ≡ Some holding → new.arms < 2 ^ 63 → HasInput command input
    → IsLeftBy command old new → new.faults ≡ expected_faults old new → IsShown command input old new holding text → IsReady new

-- A run begins with the region that another one left: its sizes, its names and behind them the new ones, and the number behind the last that was drawn.
pub record BeginsBehind (first : Basis) (report : Report) (wanted : List (List ℕ)) (second : Basis) : Type 0 where
  pub page : second.sizes.page ≡ first.sizes.page
  pub entries : second.sizes.entries ≡ first.sizes.entries
  pub names : second.names ≡ all_names first.names wanted
  pub next : second.next ≡ next_behind first report

-- So does the next run on a bench, whatever sizes it asks for.
abbrev pub NextBeginsBehind : Type 0
NextBeginsBehind =
    (show : Show) (options later : RunOptions) (holding : Holding) (told : Option Holding) (trace : Traced) (text : List ℕ) (ran : HasRunOn show options holding told trace text) (wanted : List (List ℕ)) (basis : Basis)
    → IsBasis later ran.left.now wanted basis → BeginsBehind ran.basis ran.report wanted basis

-- A run begins with a region of these sizes, whatever it asks for, at this number.
pub record BeginsAt (page entries next : ℕ) (basis : Basis) : Type 0 where
  pub page_is : basis.sizes.page ≡ page
  pub entries_is : basis.sizes.entries ≡ entries
  pub next_is : basis.next ≡ next

-- Behind a run that was stopped it begins with the sizes of that one, at the number behind the log that power left.
abbrev pub NextBeginsBehindStop : Type 0
NextBeginsBehindStop =
    (options later : RunOptions) (old new : BenchState) (holding : Holding) (trace : Traced) (text : List ℕ) (run : HasStopped (Rose old.faults new.faults) options old.picked holding new trace text) (wanted : List (List ℕ)) (basis : Basis)
    → IsBasis later run.stopped.left.lost.rests.now wanted basis → BeginsAt run.basis.sizes.page run.basis.sizes.entries (next_in run.stopped.left.lost.power.parts run.basis.files) basis

-- So does a run behind a schedule.
abbrev pub NextBeginsBehindSchedule : Type 0
NextBeginsBehindSchedule =
    (options later : RunOptions) (old new : BenchState) (holding : Holding) (trace : Traced) (run : HasFollowed (Rose old.faults new.faults) options old.picked holding new trace) (wanted : List (List ℕ)) (basis : Basis)
    → IsBasis later run.scheduled.left.lost.rests.now wanted basis → BeginsAt run.basis.sizes.page run.basis.sizes.entries (next_in run.scheduled.left.lost.power.parts run.basis.files) basis

-- Behind a recovery it begins with the sizes that the header said, at the next number that the recovery shows.
abbrev pub NextBeginsBehindRecovery : Type 0
NextBeginsBehindRecovery =
    (later : RunOptions) (holding : Holding) (told : Option Holding) (text : List ℕ) (recovered : HasRecovered holding told text) (wanted : List (List ℕ)) (basis : Basis)
    → IsBasis later recovered.left.now wanted basis
    → BeginsAt (header_of (head_image holding.parts)).page (header_of (head_image holding.parts)).entries (recovery_of holding).next basis

-- ---- the files that a next command finds

-- No two stores have the same name: so it is wherever a bench tells and nothing is lent, by a law of each (`named`).
abbrev pub HasOwnNames : Holding → Type 0
HasOwnNames holding = AreDistinct (names_of holding.stores)

-- A run begins with these names and files, on a bench that holds this: behind them stand the new names, and what their stores hold.
pub record BeginsWith (names : List (List ℕ)) (files : Files) (holding : Holding) (wanted : List (List ℕ)) (basis : Basis) : Type 0 where
  pub names_are : basis.names ≡ all_names names wanted
  pub files_are : basis.files ≡ files_behind files (new_names names wanted) holding.stores

-- A bench that holds this stands for these files, under these names: a recovery shows them, and a look; and each run begins with them, whatever it asks for.
pub record FindsFiles (names : List (List ℕ)) (files : Files) (holding : Holding) : Type 0 where
  pub names_are : header_names holding.parts ≡ names
  pub files_are : files_named holding.parts names holding.stores ≡ files
  pub begins : (options : RunOptions) (wanted : List (List ℕ)) (basis : Basis) → IsBasis options holding wanted basis → BeginsWith names files holding wanted basis

-- Behind a run without a stop, also one of a load, a command finds the files that the run's report shows.
abbrev pub NextFindsRun : Type 0
NextFindsRun =
    (show : Show) (options : RunOptions) (holding : Holding) (told : Option Holding) (trace : Traced) (text : List ℕ) (ran : HasRunOn show options holding told trace text)
    → HasOwnNames ran.left.now → FindsFiles ran.basis.names (files_shown ran.basis trace ran.report) ran.left.now

-- So it does behind a run that was stopped: the kept ones of its open writes are whole in them, and nothing is of the lost ones.
abbrev pub NextFindsStopped : Type 0
NextFindsStopped =
    (options : RunOptions) (old new : BenchState) (holding : Holding) (trace : Traced) (text : List ℕ) (run : HasStopped (Rose old.faults new.faults) options old.picked holding new trace text)
    → HasOwnNames run.stopped.left.lost.rests.now → FindsFiles run.basis.names (files_shown run.basis trace run.stopped.report) run.stopped.left.lost.rests.now

-- So it does behind a schedule: it finds those that the bench stood for as power left it.
abbrev pub NextFindsScheduled : Type 0
NextFindsScheduled =
    (options : RunOptions) (old new : BenchState) (holding : Holding) (trace : Traced) (run : HasFollowed (Rose old.faults new.faults) options old.picked holding new trace)
    → HasOwnNames run.scheduled.left.lost.rests.now
    → FindsFiles run.basis.names (files_named run.scheduled.left.lost.power.parts run.basis.names run.scheduled.left.lost.power.stores) run.scheduled.left.lost.rests.now

-- Behind a recovery it finds the files that the recovery shows, which are those that the bench stood for before.
abbrev pub NextFindsRecovered : Type 0
NextFindsRecovered =
    (holding : Holding) (told : Option Holding) (text : List ℕ) (recovered : HasRecovered holding told text)
    → HasOwnNames recovered.left.now
    → FindsFiles (header_names holding.parts) (files_named holding.parts (header_names holding.parts) holding.stores) recovered.left.now

-- A run behind a look begins as it would have without the look.
abbrev pub NextFindsLooked : Type 0
NextFindsLooked =
    (files : Bool) (old new : BenchState) (holding now : Holding) → IsLookedAt files old new → old.told ≡ Some holding → new.told ≡ Some now → HasOwnNames holding
    → (options : RunOptions) (wanted : List (List ℕ)) (basis : Basis) → IsBasis options now wanted basis → IsBasis options holding wanted basis

-- So the files that it finds behind a schedule are those that the schedule's report shows.
abbrev pub NextFindsShown : Type 0
NextFindsShown =
    (options : RunOptions) (old new : BenchState) (holding : Holding) (trace : Traced) (run : HasFollowed (Rose old.faults new.faults) options old.picked holding new trace)
    → HasOwnNames run.scheduled.left.lost.rests.now → FindsFiles run.basis.names (files_shown run.basis trace run.scheduled.report) run.scheduled.left.lost.rests.now

-- ---- the history of two commands

-- a write that was kept, as one that was done: it is answered with the count of its bytes; any other call changes nothing
abbrev pub done_write : List Descriptor → (thread : ℕ) → TraceCall → List Answered
done_write descriptors thread (Pread fd at len) = []
done_write descriptors thread (Pwrite fd at bytes) = record { caller = thread; call = file_call descriptors (Pwrite fd at bytes); reply = Count (length bytes) } ∷ []
done_write descriptors thread (Preadv fd at lens) = []
done_write descriptors thread (Pwritev fd at parts) = record { caller = thread; call = file_call descriptors (Pwritev fd at parts); reply = Count (length (concat parts)) } ∷ []
done_write descriptors thread (Fsync fd) = []

-- an open call, if it is a write that was kept; a lost one is none
abbrev pub done_so : List Descriptor → OpenCall → Fate → List Answered
done_so descriptors o Kept = done_write descriptors o.call.thread o.call.call
done_so descriptors o Lost = []
done_so descriptors o Unanswered = []

-- all that a run, or a schedule, did of its files: the calls of its history, and behind them the kept ones of its open writes
abbrev pub done_by : Basis → Traced → Report → List Answered
done_by basis trace report =
    let descriptors = descriptors_in basis.names trace in
    history_of descriptors report.history ++ flat_map (λ o. done_so descriptors o o.fate) report.open_calls

-- A report is faithful: of a run by which no device failed, of one that was stopped, or of a schedule, where some may have.
abbrev pub IsReportOf : (worker : Bool) → Basis → Traced → Report → Type 0
IsReportOf worker basis trace report =
    IsFaithful ⊥ worker basis trace report ⊎ (((last : PassView) × IsFaithful (SawStop last) worker basis trace report) ⊎ ((before : ℕ) × (now : ℕ) × IsFaithfulSchedule (Rose before now) basis trace report))

-- Two commands, one behind the other on one bench, each a run, stopped or not, or a schedule, have one history: what the first did and then what the second did, legal from the files that the first began with
-- and, behind them, those of the second's new names. It leaves the files that the second shows.
abbrev pub RunsHaveOneHistory : Type 0
RunsHaveOneHistory =
    (options asked : RunOptions) (holding now : Holding) (trace next : Traced) (first second : Basis) (report last : Report)
    → IsBasis options holding trace.names first → IsReportOf options.worker first trace report → IsWellFormed trace
    → FindsFiles first.names (files_shown first trace report) now
    → IsBasis asked now next.names second → IsReportOf asked.worker second next last
    → let all = files_behind first.files (new_names first.names next.names) now.stores in
    let both = done_by first trace report ++ done_by second next last in
    IsLegal both all × (files_shown second next last ≡ after both all)
