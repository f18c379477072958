-- Reported: what a command comes to: its report or its stop, the source, and the bench.
use Rattle.std.specs.Prelude.{◌≡◌, ◌≢◌, ◌⊎◌, ◌≤◌, ℕ, Bool, List, [], ◌++◌, Option, Some, None, IfSome, Result, Err, IfOk, IfErr, OnOk}
use Rattle.std.specs.Global.{Vec}
use Rattle.nv_plain.specs.Faults.{Rose}
use Rattle.nv_bench.specs.Benches.{BenchState}
use Rattle.nv_load.specs.declared.load.Load.{Load}
use Rattle.nv_open.specs.declared.error.Refusal.{Refusal}
use Rattle.nv_runner.specs.Histories.{PlacedCall}
use Rattle.nv_trace.specs.declared.trace.Form.TheVariants as forms
use Rattle.nv_top.specs.Endings.{IsTrace}
use Rattle.nv_top.specs.Headline.{HasRunRounds, IsArmedByAll, IsArmedBySome, IsCommandRefused, IsLeftBy, IsRun, IsShown, IsUnhindered, IsWholeByInput, IsPickedAtLast, IsPickedByAll, IsPickedBySome, LeavesLife, UsesTurns, expected_faults, form_by}
use Rattle.nv_runner.specs.Reports.{history_lines}
use Rattle.nv_top.specs.Rounds.{HasNoRounds}
use Rattle.nv_top.specs.Stops.{ComesFromInput, IsCauseOf, IsFollowed, IsOwnStop}
use Rattle.nv_top.specs.declared.ending.Stop.{Stop}
use Rattle.nv_top.specs.declared.ending.Stop.TheVariants.{Usage, Read, Write, Device, Region, NoMemory, Turns}
use Rattle.nv_words.specs.declared.words.Command.{Command}
use Rattle.nv_words.specs.declared.words.Command.TheVariants.{Run, Sched, Recover, Look, Gen}
use Rattle.nv_words.specs.declared.words.RunOptions.{RunOptions}

-- What a command comes to, if the words are one: its report, or why there is none, each with its cause. Before its end it has shown these placed calls, whose lines the report begins with. The source held the input `given`, and holds `left` of
-- it, with so many faults before and now; the bench was `old`, and is `new`.
pub record HasReported (over : Option Command) (given left : Option (List ℕ)) (before now : ℕ) (old new : BenchState) (shown : List PlacedCall) (result : Result (Vec ℕ) Stop) : Type 0 where
  -- Only a run shows calls before its end, and only there the sink's fault is the end.
  pub early : (shown ≡ []) ⊎ IsRun over
  pub write : result ≡ Err Write → IsRun over × (shown ≢ [])
  -- All that was lent is back.
  pub back : (command : Command) → over ≡ Some command → IsLeftBy command old new
  -- A schedule armed it at its cuts, with their numbers: at the first ones of them, or, where it was followed to its end, at all. Where no trace was read it armed nothing.
  pub cuts : (options : RunOptions) → over ≡ Some (Sched options) → IsArmedBySome given old new
  pub all_cuts : (options : RunOptions) → over ≡ Some (Sched options) → OnOk result (IsArmedByAll given old new)
  -- The words decide before anything is read or opened, and take memory to read.
  pub usage : result ≡ Err Usage → over ≡ None
  pub command : over ≡ None → ((result ≡ Err Usage) ⊎ (result ≡ Err NoMemory)) × (left ≡ given) × (new ≡ old)
  -- The input of a run is a trace, or its first bad line or its length is told, and that of a schedule a trace with tokens; then it was read to its end. The other commands have none.
  pub bad_line : IfErr result (λ stop. IfSome given (IsCauseOf (form_by over) stop))
  pub good_input : (options : RunOptions) → over ≡ Some (Run options) → OnOk result (IfSome given (λ input. IsTrace forms.Run input × (left ≡ Some [])))
  pub good_schedule : (options : RunOptions) → over ≡ Some (Sched options) → IsFollowed result → IfSome given (λ input. IsTrace forms.Sched input × (left ≡ Some []))
  pub unread : over ≡ Some Recover → left ≡ given
  pub unread_look : (files : Bool) → over ≡ Some (Look files) → left ≡ given
  pub unread_load : (load : Load) → over ≡ Some (Gen load) → left ≡ given
  -- A fault of the source, or of the bench, is told exactly where its count rose; but of a run behind some rounds a device's fault, or want of memory, is told before the source's, and the sink's before a device's. A stop's own faults, until
  -- power goes off, are none.
  pub read_fault : result ≡ Err Read → Rose before now
  pub read_sound : result ≢ Err Read → (now ≡ before) ⊎ (IsRun over × ((result ≡ Err Device) ⊎ (result ≡ Err NoMemory)))
  pub device_fault : result ≡ Err Device → Rose (expected_faults old new) new.faults
  pub device_sound : result ≢ Err Device → result ≢ Err Write → new.faults ≤ expected_faults old new
  -- Power went off with the picks of some first lives of a schedule in turn, and with no other; where it was followed to its end, with all of them.
  pub picked : (options : RunOptions) → over ≡ Some (Sched options) → IsPickedBySome options given old new
  pub all_picked : (options : RunOptions) → over ≡ Some (Sched options) → OnOk result (IsPickedByAll options given old new)
  -- Only a schedule uses its turns up, and power went off then, with the pick of that life: its tokens were followed up to one that made 100,000 advances short of its point, and what power left behind that run was recovered.
  pub turns : result ≡ Err Turns → (options : RunOptions) × (over ≡ Some (Sched options)) × IsPickedAtLast options given old new
  pub turns_used : result ≡ Err Turns → (options : RunOptions) → over ≡ Some (Sched options) → IfSome old.told (UsesTurns options given old new)
  -- A region is refused at entry, for its bytes or for too many files, before anything is shown, and never after a power failure. It is as it was then, or, where there would be too many files, at rest.
  pub region : (why : Refusal) → result ≡ Err (Region why) → (command : Command) → over ≡ Some command → IfSome old.told (λ holding. IsCommandRefused command given old new holding why)
  pub unarmed : (why : Refusal) → result ≡ Err (Region why) → IfSome old.told (λ holding. (new.arms ≡ old.arms) × (shown ≡ []))
  -- Where nothing stands in its way a command is followed to its end, unless memory is wanting, a token of a schedule has used its advances up, or the sink has failed before. Then no device has failed, but for a stop's own faults.
  pub complete : (command : Command) → over ≡ Some command → IfSome old.told (λ holding. IsUnhindered command given holding (Rose before now) (Rose (expected_faults old new) new.faults) → IfErr result IsOwnStop)
  pub counts : OnOk result (new.faults ≡ expected_faults old new)
  -- Of a schedule without a cut it is that at entry: no fault of a life is forgotten at the loss of power behind it.
  pub uncut : (options : RunOptions) → over ≡ Some (Sched options) → OnOk result (IsWholeByInput given old new)
  -- Whatever it comes to, the count of the bench's faults is no lower than it was.
  pub never_falls : old.faults ≤ new.faults
  -- Whatever it comes to, a bench that stood for files stands for them still, or for those after a legal history of calls of the trace, which begins with those that were shown, and some other calls, each whole, in whatever state power
  -- leaves it. What is in that history of a run and wasn't shown is of the last round that was read, and unless devices failed each call of the earlier ones was shown, or refused with a cause. It has as many parts as before, or as were made of a blank region, and its other stores are as they were; and a region that is refused for its bytes is as it was.
  pub life : (command : Command) → over ≡ Some command → IfSome old.told (λ was. LeavesLife (Rose old.faults new.faults) command given old new was shown)
  -- Where the words or the input stopped it the bench is as it was, and nothing was shown: a run's input has no round that could be run then, unless the source failed. Or a run was one of first rounds, as many as could be run, all of whose
  -- placed calls were shown.
  pub stopped : IfErr result (λ stop. ComesFromInput stop
      → ((new ≡ old) × (shown ≡ []) × (IsRun over → HasNoRounds stop given)) ⊎ ((options : RunOptions) × (over ≡ Some (Run options)) × IfSome old.told (HasRunRounds options stop given shown old new)))
  -- The report, with what was shown before, is what the command shows, and the bench holds what it shows.
  pub report : IfOk result (λ text. (command : Command) → over ≡ Some command → IfSome old.told (λ holding. IsShown command given old new holding (history_lines 0 shown ++ text.items)))
