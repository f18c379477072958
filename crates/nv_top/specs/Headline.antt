-- The top call: what each command makes of a bench, and what it shows.
use Rattle.std.specs.Prelude.{◌≡◌, ◌⊎◌, ◌≤◌, ℕ, Bool, List, [], length, true, if◌then◌else◌, Option, Some, None, IfSome, option_map, max}
use Rattle.std.specs.Option.{option_and_then}
use Rattle.nv_plain.specs.Faults.{Rose}
use Rattle.nv_plain.specs.Layouts.{mount_layout}
use Rattle.nv_pmem.specs.Part.{Part}
use Rattle.nv_pmem.specs.declared.picker.Pick.{Pick}
use Rattle.nv_bench.specs.Benches.{BenchState}
use Rattle.nv_bench.specs.Holding.{Holding}
use Rattle.nv_bench.specs.Opening.{is_blank, opened}
use Rattle.nv_open.specs.Held.{told_after}
use Rattle.nv_open.specs.Lending.{without_stores}
use Rattle.nv_open.specs.Refusals.{IsRefusedFor}
use Rattle.nv_open.specs.Unopened.{IsGood, as_opened}
use Rattle.nv_open.specs.declared.error.Refusal.{Refusal}
use Rattle.nv_open.specs.declared.error.Refusal.TheVariants as refusals
use Rattle.nv_trace.specs.Reading.{ending_of, Whole}
use Rattle.nv_trace.specs.declared.trace.Form.{Form}
use Rattle.nv_trace.specs.declared.trace.Form.TheVariants as forms
use Rattle.nv_trace.specs.Traced.{Traced}
use Rattle.nv_top.specs.Commands.{HasLooked, HasRecovered, HasRunOn, IsBasis, IsGivenBack, IsLookedAt, IsNotRun, IsNotShown, RestsNotRun}
use Rattle.nv_runner.specs.Faithful.{Basis}
use Rattle.nv_runner.specs.Histories.{PlacedCall}
use Rattle.nv_load.specs.Generated.{generated}
use Rattle.nv_top.specs.LifeRows.{ArePickedAll, ArePickedSome, IsPickedLast, IsUncutWhole, LeaveLives, ShowsLives, UseTurns, all_tokens, picks_of}
use Rattle.nv_top.specs.Lives.{LeavesRecovery, LeavesRun, TellsNothing}
use Rattle.nv_top.specs.Loads.{HasGenerated, load_options}
use Rattle.nv_top.specs.declared.show.Show.TheVariants.{Report}
use Rattle.nv_top.specs.Endings.{IsTrace, OfRead}
use Rattle.nv_runner.specs.ToldRounds.{TellsRounds}
use Rattle.nv_top.specs.Rounds.{OfReadSoFar, OfRunRounds}
use Rattle.nv_top.specs.declared.ending.Stop.{Stop}
use Rattle.nv_top.specs.Scheduling.{IsArmedAt, IsArmedAtSome}
use Rattle.nv_top.specs.Stopped.{HasStoppedOn}
use Rattle.nv_top.specs.Stopping.{IsAllBack, IsPickedOnce, IsPoweredBack}
use Rattle.nv_words.specs.Words.{command_of}
use Rattle.nv_words.specs.declared.words.Command.{Command}
use Rattle.nv_words.specs.declared.words.Command.TheVariants.{Run, Sched, Recover, Look, Gen}
use Rattle.nv_words.specs.declared.words.RunOptions.{RunOptions}

-- a bench may stop a run, if it is to be stopped: only one whose devices can be armed and powered off does
abbrev pub may_stop : (images : Bool) → (stop : Option ℕ) → Bool
may_stop images None = true
may_stop images (Some k) = images

-- a command, where a bench can follow it
abbrev pub possible : (images : Bool) → Command → Option Command
possible images (Run options) = if may_stop images options.stop then Some (Run options) else None
possible images (Sched options) = if images then Some (Sched options) else None
possible images Recover = Some Recover
possible images (Look files) = Some (Look files)
possible images (Gen load) = Some (Gen load)

-- the command that words are over such a bench
abbrev pub command_over : (images : Bool) → List (List ℕ) → Option Command
command_over images words = option_and_then (possible images) (command_of words)

-- what a command reads its input for
abbrev pub form_of : Command → Form
form_of (Run options) = forms.Run
form_of (Sched options) = forms.Sched
form_of Recover = forms.Run
form_of (Look files) = forms.Run
form_of (Gen load) = forms.Run

-- and the command that words are over such a bench
abbrev pub form_by : Option Command → Form
form_by None = forms.Run
form_by (Some command) = form_of command

abbrev pub form_over : (images : Bool) → List (List ℕ) → Form
form_over images words = form_by (command_over images words)

-- how a run leaves a bench: all that was lent is back; a stop armed it once more, unless the log wasn't opened, and then power went off with this pick alone
abbrev pub IsLeftAfter : (stop : Option ℕ) → Pick → (old new : BenchState) → Type 0
IsLeftAfter None pick old new = IsGivenBack old new
IsLeftAfter (Some k) pick old new = (IsPoweredBack k old new ⊎ IsGivenBack old new) × IsPickedOnce pick old new

-- a schedule armed it at some first cuts of the trace that it read, one after another; or there is no such trace, and it armed nothing
abbrev pub IsArmedBySome : (input : Option (List ℕ)) → (old new : BenchState) → Type 0
IsArmedBySome input old new = (new.arms ≡ old.arms) ⊎ OfRead forms.Sched input (λ trace. IsArmedAtSome (all_tokens trace) old new)

-- at all of them
abbrev pub IsArmedByAll : (input : Option (List ℕ)) → (old new : BenchState) → Type 0
IsArmedByAll input old new = OfRead forms.Sched input (λ trace. IsArmedAt (all_tokens trace) old new)

-- power went off with some first ones of the picks of its lives in turn
abbrev pub IsPickedBySome : RunOptions → (input : Option (List ℕ)) → (old new : BenchState) → Type 0
IsPickedBySome options input old new = (new.picked ≡ old.picked) ⊎ OfRead forms.Sched input (λ trace. ArePickedSome (picks_of options trace) old new)

-- with all of them
abbrev pub IsPickedByAll : RunOptions → (input : Option (List ℕ)) → (old new : BenchState) → Type 0
IsPickedByAll options input old new = OfRead forms.Sched input (λ trace. ArePickedAll (picks_of options trace) old new)

-- no device has failed in a schedule where no token of it is a cut
abbrev pub IsWholeByInput : (input : Option (List ℕ)) → (old new : BenchState) → Type 0
IsWholeByInput input old new = OfRead forms.Sched input (λ trace. IsUncutWhole trace old new)

-- power went off with some first ones of those picks, and with one at least
abbrev pub IsPickedAtLast : RunOptions → (input : Option (List ℕ)) → (old new : BenchState) → Type 0
IsPickedAtLast options input old new = OfRead forms.Sched input (λ trace. IsPickedLast (picks_of options trace) old new)

-- how a command leaves it
abbrev pub IsLeftBy : Command → (old new : BenchState) → Type 0
IsLeftBy (Run options) old new = IsLeftAfter options.stop options.image old new
IsLeftBy (Sched options) old new = IsAllBack new
IsLeftBy Recover old new = IsGivenBack old new
IsLeftBy (Look files) old new = IsLookedAt files old new
IsLeftBy (Gen load) old new = IsGivenBack old new

-- the count of faults that a fault's status stands above: that at entry, and that when power went off
abbrev pub expected_faults : (old new : BenchState) → ℕ
expected_faults old new = max old.faults new.settled

-- the command is a run
abbrev pub IsRun : Option Command → Type 0
IsRun over = (options : RunOptions) × (over ≡ Some (Run options))

-- The text is that of a faithful report of a run of the trace that was stopped, on a bench that held this, and had lost power with those picks, and is that now. It has as many parts as it had when it was opened, and the stores of other
-- names as they were.
pub record HasStopped (failed : Type 0) (options : RunOptions) (before : List Pick) (holding : Holding) (bench : BenchState) (trace : Traced) (text : List ℕ) : Type 0 where
  pub basis : Basis
  pub begun : IsBasis options holding trace.names basis
  pub stopped : HasStoppedOn failed options.worker options.image before basis trace (length (opened (Some begun.geometry) holding.parts)) (without_stores basis.names holding.stores) bench text

-- what the report of a run of a trace, stopped or not, shows of a bench that held this
abbrev pub IsShownOf : (stop : Option ℕ) → RunOptions → (old new : BenchState) → Holding → Traced → (text : List ℕ) → Type 0
IsShownOf None options old new holding trace text = HasRunOn Report options holding new.told trace text
IsShownOf (Some k) options old new holding trace text = HasStopped (Rose old.faults new.faults) options old.picked holding new trace text

-- the calls that have their place in that report
abbrev pub history_of_shown : (stop : Option ℕ) (options : RunOptions) (old new : BenchState) (holding : Holding) (trace : Traced) (text : List ℕ) → IsShownOf stop options old new holding trace text → List PlacedCall
history_of_shown None options old new holding trace text run = run.report.history
history_of_shown (Some k) options old new holding trace text run = run.stopped.report.history

-- A run was one of first rounds of its input, whose placed calls were shown, before this stopped it: the bench is left as by one that would have shown the rest of the report too.
abbrev pub HasRunRounds : RunOptions → Stop → (input : Option (List ℕ)) → (shown : List PlacedCall) → (old new : BenchState) → Holding → Type 0
HasRunRounds options stop input shown old new holding =
    OfRunRounds stop input (λ trace. (text : List ℕ) × (run : IsShownOf options.stop options old new holding trace text) × (history_of_shown options.stop options old new holding trace text run ≡ shown))

-- so was that of the trace that was read
abbrev pub UsesTurns : RunOptions → (input : Option (List ℕ)) → (old new : BenchState) → Holding → Type 0
UsesTurns options input old new holding = OfRead forms.Sched input (UseTurns options old new holding)

-- what the report of a command shows of a bench that held this, and of the input that it had
abbrev pub IsShown : Command → (input : Option (List ℕ)) → (old new : BenchState) → Holding → (text : List ℕ) → Type 0
IsShown (Run options) input old new holding text = OfRead forms.Run input (λ trace. IsShownOf options.stop options old new holding trace text)
IsShown (Sched options) input old new holding text = OfRead forms.Sched input (λ trace. ShowsLives options old new holding trace text)
IsShown Recover input old new holding text = HasRecovered holding new.told text
IsShown (Look files) input old new holding text = HasLooked files holding text
IsShown (Gen load) input old new holding text = HasGenerated load holding new.told text

-- what a command reads is a trace, or it reads nothing
abbrev pub HasInput : Command → (input : Option (List ℕ)) → Type 0
HasInput (Run options) input = (bytes : List ℕ) × (input ≡ Some bytes) × IsTrace forms.Run bytes
HasInput (Sched options) input = (bytes : List ℕ) × (input ≡ Some bytes) × IsTrace forms.Sched bytes
HasInput Recover input = Unit {0}
HasInput (Look files) input = Unit {0}
HasInput (Gen load) input = Unit {0}

-- why the calls of a trace that is read for this aren't made on a bench that held that
abbrev pub HasTraceRefusal : Form → RunOptions → (input : Option (List ℕ)) → Holding → Refusal → Type 0
HasTraceRefusal form options input holding why = IfSome input (λ input. (trace : Traced) × (ending_of form input ≡ Whole trace) × IsNotRun options holding trace.names why)

-- why a command is refused by the region of a bench that held this
abbrev pub HasRefusal : Command → (input : Option (List ℕ)) → Holding → Refusal → Type 0
HasRefusal (Run options) input holding why = HasTraceRefusal forms.Run options input holding why
HasRefusal (Sched options) input holding why = HasTraceRefusal forms.Sched options input holding why
HasRefusal Recover input holding why = IsRefusedFor holding.parts why
HasRefusal (Look files) input holding why = IsNotShown files holding why
HasRefusal (Gen load) input holding why = IsNotRun load_options holding (generated load).names why

-- Nothing stands in the way of a command: it has its input, the region of the bench that held this isn't refused, and neither the source's count nor the bench's rose.
pub record IsUnhindered (command : Command) (input : Option (List ℕ)) (holding : Holding) (read_failed device_failed : Type 0) : Type 0 where
  pub has_input : HasInput command input
  pub not_refused : (why : Refusal) → ¬ (HasRefusal command input holding why)
  pub read : ¬ read_failed
  pub devices : ¬ device_failed

-- Nothing stands in the way of a run of any trace of no more files than a mount has over a blank region, whatever its options, where neither count rose.
abbrev pub PlainIsUnhindered : Type 0
PlainIsUnhindered =
    (options : RunOptions) (input : List ℕ) (trace : Traced) (holding : Holding) → ending_of forms.Run input ≡ Whole trace → is_blank holding.parts ≡ true → length trace.names ≤ mount_layout.file_limit
    → (before now settled faults : ℕ) → ¬ (Rose before now) → ¬ (Rose settled faults) → IsUnhindered (Run options) (Some input) holding (Rose before now) (Rose settled faults)

-- A command that shows what it does, of an input that tells, wasn't refused by the region.
abbrev pub ShownIsNotRefused : Type 0
ShownIsNotRefused =
    (command : Command) (input : Option (List ℕ)) (old new : BenchState) (holding : Holding) (text : List ℕ)
    → HasInput command input → IsShown command input old new holding text → (why : Refusal) → ¬ (HasRefusal command input holding why)

-- A region that is refused for its bytes isn't good.
abbrev pub RefusedIsNotGood : Type 0
RefusedIsNotGood = (parts : List Part) (why : Refusal) → IsRefusedFor parts why → ¬ (IsGood parts)

-- A region that was refused is as it was, unless it was refused for its files.
abbrev pub IsRegionUnwritten : (old new : Option Holding) → Refusal → Type 0
IsRegionUnwritten old new why = ¬ (why ≡ refusals.TooManyFiles) → new ≡ told_after why old

-- A run of a trace that names these files isn't made on a bench that held that, for this refusal: a region that was refused is left as the bench opened it, and at rest one of too many files.
pub record IsRunRefused (options : RunOptions) (was : Holding) (wanted : List (List ℕ)) (old new : BenchState) (why : Refusal) : Type 0 where
  pub not_run : IsNotRun options was wanted why
  pub unwritten : IsRegionUnwritten (option_map (as_opened not_run.geometry) old.told) new.told why
  pub rests : why ≡ refusals.TooManyFiles → RestsNotRun options was wanted new.told

-- why a command is refused by the region of a bench that held this, and what it leaves of it; a schedule is refused before power goes off
abbrev pub IsCommandRefused : Command → (input : Option (List ℕ)) → (old new : BenchState) → Holding → Refusal → Type 0
IsCommandRefused (Run options) input old new holding why = OfReadSoFar input (λ trace. IsRunRefused options holding trace.names old new why)
IsCommandRefused (Sched options) input old new holding why = OfRead forms.Sched input (λ trace. IsRunRefused options holding trace.names old new why) × (new.picked ≡ old.picked)
IsCommandRefused Recover input old new holding why = IsRefusedFor holding.parts why × IsRegionUnwritten old.told new.told why
IsCommandRefused (Look files) input old new holding why = IsNotShown files holding why
IsCommandRefused (Gen load) input old new holding why = IsRunRefused load_options holding (generated load).names old new why

-- What a command leaves of a bench that had an input, and held this, where its devices failed only if this says so: of a run, unless the bench is as it was, what one of the trace does that was read; of a schedule the same, life by life, which shows
-- no call before its end; and of a look its frame says all.
abbrev pub LeavesLife : (failed : Type 0) → Command → (input : Option (List ℕ)) → (old new : BenchState) → (was : Holding) → (shown : List PlacedCall) → Type 0
LeavesLife failed (Run options) input old new was shown = ((shown ≡ []) × (new.told ≡ Some was)) ⊎ OfReadSoFar input (λ trace. LeavesRun (TellsRounds failed options.worker) options was trace shown new.told)
LeavesLife failed (Sched options) input old new was shown = (new.told ≡ Some was) ⊎ OfRead forms.Sched input (λ trace. LeaveLives options old new was trace)
LeavesLife failed Recover input old new was shown = LeavesRecovery was new.told
LeavesLife failed (Look files) input old new was shown = Unit {0}
LeavesLife failed (Gen load) input old new was shown = LeavesRun TellsNothing load_options was (generated load) [] new.told
