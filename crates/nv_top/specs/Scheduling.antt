-- Scheduling: a schedule that is followed over a bench, and what it leaves.
use Rattle.std.specs.Prelude.{◌≡◌, ℕ, ◌*◌, min, Bool, List, ◌++◌, map, Option, Result, Ok}
use Rattle.nv_pmem.specs.Rows.{row_words}
use Rattle.nv_pmem.specs.declared.picker.Pick.{Pick}
use Rattle.nv_bench.specs.Benches.{BenchState}
use Rattle.nv_bench.specs.Holding.{Holding, NamedStore}
use Rattle.nv_open.specs.Held.{files_named}
use Rattle.nv_recover.specs.Recovering.{HasFoundAll}
use Rattle.nv_recover.specs.declared.recovering.Recovered as recover
use Rattle.nv_core.specs.crash.CrashImages.{OpensRegion}
use Rattle.nv_table.specs.state.Opened.{Opened, mount_of, state_of}
use Rattle.nv_table.specs.state.Views.{PassView}
use Rattle.nv_mount.specs.RisenCounts.{SawStop}
use Rattle.nv_mount.specs.Telling.{HasLongParts}
use Rattle.nv_mount.specs.declared.fds.Fd.{Fd}
use Rattle.nv_trace.specs.Traced.{Traced}
use Rattle.nv_trace.specs.declared.token.Token.{Token}
use Rattle.nv_trace.specs.declared.trace_call.TracedCall.{TracedCall}
use Rattle.nv_runner.specs.Faithful.{Basis, descriptors_in, files_shown}
use Rattle.nv_runner.specs.FaithfulRuns.{IsMountOf, as_fd}
use Rattle.nv_runner.specs.Lists.{MadeCall, made_calls}
use Rattle.nv_runner.specs.Reports.{Report}
use Rattle.nv_runner.specs.Sorted.{AreSortedOut, opened_call}
use Rattle.nv_runner.specs.declared.sorted.SortedCalls.{SortedCalls}
use Rattle.nv_schedule.specs.Actors.{Actor}
use Rattle.nv_schedule.specs.CoreRuns.{AreListed, IsRunBy, IsRunUpTo}
use Rattle.nv_schedule.specs.Cuts.{armed_by, cuts_of}
use Rattle.nv_schedule.specs.FaithfulSchedules.{IsFaithfulSchedule}
use Rattle.nv_schedule.specs.declared.schedule_error.ScheduleError.{ScheduleError}
use Rattle.nv_schedule.specs.declared.scheduled.ScheduledCalls.{ScheduledCalls}
use Rattle.nv_top.specs.Readings.{HavePlainNames}
use Rattle.nv_top.specs.Behind.{HasLostPowerBehind}
use Rattle.nv_top.specs.Fates.{AreShownOpen}
use Rattle.nv_top.specs.LifeLines.{AreLinesOf, ShowsLife}
use Rattle.nv_top.specs.Outcomes.{shown_report}
use Rattle.nv_top.specs.Stopped.{IsRunOfReport}
use Rattle.nv_top.specs.declared.life.LifeLines.{LifeLines}
use Rattle.nv_words.specs.declared.words.RunOptions.{RunOptions}

-- a bench was armed at each of the cuts among these tokens, one after another, with its number
abbrev pub IsArmedAt : List Token → (old new : BenchState) → Type 0
IsArmedAt tokens old new = (new.arms ≡ (armed_by (cuts_of tokens) old).arms) × (new.armed ≡ (armed_by (cuts_of tokens) old).armed)

-- some first ones of these tokens were reached
abbrev pub IsArmedAtSome : List Token → (old new : BenchState) → Type 0
IsArmedAtSome tokens old new = (reached : List Token) × (later : List Token) × (tokens ≡ reached ++ later) × IsArmedAt reached old new

-- A schedule was followed to its end; the lines are those of a report of what a recovery made of a bench that held this.
pub record ShowsOutcome (place : ℕ) (last : Bool) (holding : Holding) (outcome : Result ScheduledCalls ScheduleError) (told : Option Holding) (lines : LifeLines) : Type 0 where
  pub calls : ScheduledCalls
  pub is_ok : outcome ≡ Ok calls
  pub sorted : SortedCalls
  pub sorted_out : AreSortedOut (made_calls calls.answered.items) sorted
  pub shown : ShowsLife place last holding sorted (map (λ call. call.now) calls.unanswered.items) told lines

-- the descriptors of a trace, over the files of a basis
abbrev pub fds_in : Basis → Traced → List Fd
fds_in basis trace = map as_fd (descriptors_in basis.names trace)

-- A mount was opened from this basis, whose names are those of the region, for a run of the trace, with a buffer for each page of its files, up to as many as are asked for. The parts of the header and of the entries have their lines.
pub record IsOpenedFor (basis : Basis) (trace : Traced) (cache : ℕ) (opened : Opened) : Type 0 where
  pub is_mount : IsMountOf basis trace opened (fds_in basis trace)
  pub region : OpensRegion (mount_of opened) basis.names
  pub long : HasLongParts (mount_of opened)
  pub cached : opened.sizes.buffers ≡ min cache (opened.sizes.files * opened.sizes.pages)

-- The schedule of a trace was played over a mount of this basis up to a token that made 100,000 advances and didn't come to its point: that was a run of the core. The bench was armed at the cuts before that token, and power went off behind that
-- run. A pass saw STOP set only where this says so.
pub record HasUsedTurns (failed : Type 0) (options : RunOptions) (basis : Basis) (trace : Traced) (many : ℕ) (others : List NamedStore) (old bench : BenchState) : Type 0 where
  pub opened : Opened
  pub begins : IsOpenedFor basis trace options.cache opened
  pub then_ : List Actor
  pub last : PassView
  pub run : IsRunUpTo opened (fds_in basis trace) trace.tokens trace.calls options.batch then_ last
  pub stopped : SawStop last → failed
  pub armed_at : IsArmedAt run.played.before old bench
  pub left : HasLostPowerBehind last options.image old.picked basis many others bench

-- A life of a schedule: that of a trace was played over a mount of this basis, which was a run of the core, whose history and writes in flight are the report's. The calls that it lists are those that were begun, with what that run's passes tell
-- of them. Power went off behind it; what it left stood for the files that are shown, and the fates are by the log of that. The report is faithful to the trace; devices failed, and a pass saw STOP set, only where this says so.
pub record HasScheduledOn (failed : Type 0) (options : RunOptions) (before : List Pick) (basis : Basis) (trace : Traced) (many : ℕ) (others : List NamedStore) (bench : BenchState) : Type 0 where
  pub opened : Opened
  pub begins : IsOpenedFor basis trace options.cache opened
  pub then_ : List Actor
  pub last : PassView
  pub run : IsRunBy opened (fds_in basis trace) trace.tokens trace.calls options.batch then_ last
  pub listed : List MadeCall
  pub unanswered : List TracedCall
  pub told : AreListed opened (fds_in basis trace) (state_of opened last.run).history then_ listed unanswered
  pub stopped : SawStop last → failed
  pub sorted : SortedCalls
  pub sorted_out : AreSortedOut listed sorted
  pub report : Report
  pub faithful : IsFaithfulSchedule failed basis trace report
  pub ran : IsRunOfReport basis trace report (map opened_call sorted.open_calls.items) last
  pub plain : HavePlainNames report.files
  pub left : HasLostPowerBehind last options.image before basis many others bench
  pub shows : files_named left.lost.power.parts basis.names left.lost.power.stores ≡ files_shown basis trace report
  pub found : recover.Recovered
  pub log : HasFoundAll (row_words left.lost.power.parts) found
  pub are_open : AreShownOpen found.first found.groups sorted.open_calls.items unanswered report.open_calls
  pub report_is : report ≡ shown_report sorted report.open_calls basis.names (files_named left.lost.power.parts basis.names left.lost.power.stores)

-- and the lines are those of its report
abbrev pub ShowsScheduled : (failed : Type 0) (options : RunOptions) (before : List Pick) (basis : Basis) (trace : Traced) (many : ℕ) (others : List NamedStore) (bench : BenchState) (place : ℕ) (last : Bool) (lines : LifeLines) → Type 0
ShowsScheduled failed options before basis trace many others bench place last lines =
    (life : HasScheduledOn failed options before basis trace many others bench) × AreLinesOf place last life.report lines
