-- What a command shows and why it is refused, from what its run does.
use Rattle.std.proofs.Common.{◌≡◌, ◌++◌, ℕ, ◌≤◌, Bool, true, false, List, [], if◌then◌else◌, Option, Some, None, refl, ap, subst, ◌∙◌}
use Rattle.std.specs.Prelude.{IfSome, option_map}
use Rattle.std.proofs.lemmas.List.{append-nil}
use Rattle.nv_bench.specs.Benches.{BenchState}
use Rattle.nv_bench.specs.Holding.{Holding, IsQuietHolding, NamedStore}
use Rattle.nv_bench.specs.Naming.{AreDistinct, HasDistinctStores, names_of}
use Rattle.nv_open.specs.Lending.{without_named}
use Rattle.nv_open.proofs.Homes.{kept_in_all}
use Rattle.nv_open.specs.Held.{told_after}
use Rattle.nv_open.specs.Refusals.{IsRefusedFor}
use Rattle.nv_open.specs.declared.error.Refusal.{Refusal}
use Rattle.nv_pmem.specs.Laws.{BlankIsQuiet}
use Rattle.nv_store.specs.Store.{IsQuietStore}
use Rattle.nv_load.specs.Generated.{IsLoad}
use Rattle.nv_load.specs.declared.load.Load.{Load}
use Rattle.nv_trace.specs.Reading.{ending_of, Whole}
use Rattle.nv_trace.specs.declared.trace.Form.{Form}
use Rattle.nv_trace.specs.declared.trace.Form.TheVariants as forms
use Rattle.nv_trace.specs.Traced.{Traced}
use Rattle.nv_top.specs.Endings.{OfRead}
use Rattle.nv_top.specs.Headline.{IsCommandRefused, IsRunRefused, command_over, may_stop, possible}
use Rattle.nv_top.specs.Ready.{IsRunnable}
use Rattle.nv_words.specs.Words.{AreInLimits, command_of}
use Rattle.nv_words.specs.declared.words.Command.{Command}
use Rattle.nv_words.specs.declared.words.Command.TheVariants.{Run, Sched, Recover, Look, Gen}
use Rattle.nv_words.specs.declared.words.RunOptions.{RunOptions}
use Rattle.nv_top.proofs.CommandLemmas.{if_told, told_at}
use Rattle.nv_words.proofs.LimitLemmas.{and_then_some, load_in_limits, run_in_limits, sched_in_limits, stop_from_one}

-- ---- words

runs_on : (images : Bool) (command : Command) (options : RunOptions) → possible images command ≡ Some (Run options) → (command ≡ Run options) × (may_stop images options.stop ≡ true)
runs_on images (Run one) options is = by_test (may_stop images one.stop) refl is where
  by_test : (test : Bool) → may_stop images one.stop ≡ test → (if test then Some (Run one) else None) ≡ Some (Run options) → (Run one ≡ Run options) × (may_stop images options.stop ≡ true)
  by_test true may is =
      let same : one ≡ options = cc in
      let May : RunOptions → Type 0 = λ options. may_stop images options.stop ≡ true in
      (ap Run same, subst May same may)
  by_test false may is = cc
runs_on images (Sched one) options is = by_test images is where
  by_test : (test : Bool) → (if test then Some (Sched one) else None) ≡ Some (Run options) → (Sched one ≡ Run options) × (may_stop images options.stop ≡ true)
  by_test true is = cc
  by_test false is = cc
runs_on images Recover options is = cc
runs_on images (Look files) options is = cc
runs_on images (Gen load) options is = cc

run_over : (images : Bool) (words : List (List ℕ)) (options : RunOptions) → command_over images words ≡ Some (Run options)
    → (command_of words ≡ Some (Run options)) × (may_stop images options.stop ≡ true)
run_over images words options run =
    let command = and_then_some (possible images) (command_of words) (Run options) run in
    let both = runs_on images command.0 options command.2 in
    (command.1 ∙ ap Some both.0, both.1)

stop_by : (images : Bool) (stop : Option ℕ) → may_stop images stop ≡ true → IfSome stop (λ k. 1 ≤ k) → IfSome stop (λ k. 1 ≤ k × images ≡ true)
stop_by images None may counts = tt
stop_by images (Some k) may counts = (counts, may)

-- a run that a bench can stop is stopped at a device call from the first one on, over devices that lose power
pub stop_possible : (images : Bool) (words : List (List ℕ)) (options : RunOptions) → command_over images words ≡ Some (Run options) → IfSome options.stop (λ k. 1 ≤ k × images ≡ true)
stop_possible images words options run =
    let over = run_over images words options run in
    stop_by images options.stop over.1 (stop_from_one words options over.0)

-- a run that a bench can follow has sizes within their limits
pub run_limits : (images : Bool) (words : List (List ℕ)) (options : RunOptions) → command_over images words ≡ Some (Run options) → AreInLimits options
run_limits images words options run = run_in_limits words options (run_over images words options run).0

pub schedules_on : (images : Bool) (command : Command) (options : RunOptions) → possible images command ≡ Some (Sched options) → (command ≡ Sched options) × (images ≡ true)
schedules_on images (Run one) options is = by_test (may_stop images one.stop) is where
  by_test : (test : Bool) → (if test then Some (Run one) else None) ≡ Some (Sched options) → (Run one ≡ Sched options) × (images ≡ true)
  by_test true is = cc
  by_test false is = cc
schedules_on images (Sched one) options is = by_test images refl is where
  by_test : (test : Bool) → images ≡ test → (if test then Some (Sched one) else None) ≡ Some (Sched options) → (Sched one ≡ Sched options) × (images ≡ true)
  by_test true same is = (cc, same)
  by_test false same is = cc
schedules_on images Recover options is = cc
schedules_on images (Look files) options is = cc
schedules_on images (Gen load) options is = cc

-- a schedule that a bench can follow has sizes within their limits, and the bench's devices lose power
pub schedule_limits : (images : Bool) (words : List (List ℕ)) (options : RunOptions) → command_over images words ≡ Some (Sched options) → AreInLimits options × (images ≡ true)
schedule_limits images words options is =
    let command = and_then_some (possible images) (command_of words) (Sched options) is in
    let both = schedules_on images command.0 options command.2 in
    (sched_in_limits words options (command.1 ∙ ap Some both.0), both.1)

loads_on : (images : Bool) (command : Command) (load : Load) → possible images command ≡ Some (Gen load) → command ≡ Gen load
loads_on images (Run one) load is = by_test (may_stop images one.stop) is where
  by_test : (test : Bool) → (if test then Some (Run one) else None) ≡ Some (Gen load) → Run one ≡ Gen load
  by_test true is = cc
  by_test false is = cc
loads_on images (Sched one) load is = by_test images is where
  by_test : (test : Bool) → (if test then Some (Sched one) else None) ≡ Some (Gen load) → Sched one ≡ Gen load
  by_test true is = cc
  by_test false is = cc
loads_on images Recover load is = cc
loads_on images (Look files) load is = cc
loads_on images (Gen one) load is = cc

-- a load that words ask for is within its limits
pub load_limits : (images : Bool) (words : List (List ℕ)) (load : Load) → command_over images words ≡ Some (Gen load) → IsLoad load
load_limits images words load is =
    let command = and_then_some (possible images) (command_of words) (Gen load) is in
    load_in_limits words load (command.1 ∙ ap Some (loads_on images command.0 load command.2))

-- ---- what is shown, and refused

-- what is so of a trace that was read
pub of_read : (form : Form) (left : Option (List ℕ)) (trace : Traced) (P : Traced → Type 0) → trace.form ≡ form → IsRunnable trace → IfSome left (λ input. ending_of form input ≡ Whole trace) → P trace → OfRead form left P
of_read form None trace P is runnable whole holds = (trace, is, runnable, holds)
of_read form (Some input) trace P is runnable whole holds = (trace, whole, holds)

-- and of what a bench held besides
pub of_held : (form : Form) (left : Option (List ℕ)) (told : Option Holding) (trace : Traced) (P : Holding → Traced → Type 0) → trace.form ≡ form → IsRunnable trace → IfSome left (λ input. ending_of form input ≡ Whole trace)
    → IfSome told (λ holding. P holding trace) → IfSome told (λ holding. OfRead form left (P holding))
of_held form left told trace P is runnable whole holds =
    if_told told (λ holding. OfRead form left (P holding)) (λ holding is_told. of_read form left trace (P holding) is runnable whole (told_at told (λ holding. P holding trace) holding is_told holds))

-- ---- stores that are away

-- the names of the stores of a bench differ, where none is lent
pub home_distinct : (old : BenchState) (holding : Holding) → HasDistinctStores old → old.told ≡ Some holding → old.lent ≡ [] → AreDistinct (names_of holding.stores)
home_distinct old holding named told home =
    let Distinct : List (List ℕ) → Type 0 = λ lent. AreDistinct (names_of holding.stores ++ lent) in
    subst AreDistinct (append-nil (names_of holding.stores)) (subst Distinct home (told_at old.told (λ holding. AreDistinct (names_of holding.stores ++ old.lent)) holding told named))

-- what is left of a holding of which stores are lent is quiet as it was
pub quiet_left : (blank : BlankIsQuiet) (names : List (List ℕ)) (told : Option Holding) → IfSome told IsQuietHolding
    → IfSome (option_map (without_named names) (option_map (λ (holding : Holding). record { parts = []; stores = holding.stores }) told)) IsQuietHolding
quiet_left blank names None quiet = tt
quiet_left blank names (Some holding) quiet = record {
  parts = record { each = λ i. record { lines = λ line. blank } };
  stores = kept_in_all (λ (named : NamedStore). IsQuietStore named.store) names holding.stores quiet.stores;
}

pub same_some : {one other : Command} → Some one ≡ Some other → one ≡ other
same_some {one} {other} is = cc

-- why a schedule is refused
pub schedule_refused : (options : RunOptions) (left : Option (List ℕ)) (old new : BenchState) (trace : Traced) (why : Refusal) → trace.form ≡ forms.Sched → IsRunnable trace
    → IfSome left (λ input. ending_of forms.Sched input ≡ Whole trace)
    → IfSome old.told (λ holding. IsRunRefused options holding trace.names old new why × (new.picked ≡ old.picked))
    → IfSome old.told (λ holding. IsCommandRefused (Sched options) left old new holding why)
schedule_refused options left old new trace why form runnable whole refused =
    let Refused : Holding → Type 0 = λ holding. IsRunRefused options holding trace.names old new why × (new.picked ≡ old.picked) in
    if_told old.told (λ holding. IsCommandRefused (Sched options) left old new holding why) (λ holding told.
    let all = told_at old.told Refused holding told refused in
    (of_read forms.Sched left trace (λ trace. IsRunRefused options holding trace.names old new why) form runnable whole all.0, all.1))

-- why a recovery is refused
pub recovery_refused : (left : Option (List ℕ)) (old new : BenchState) (why : Refusal)
    → IfSome old.told (λ holding. IsRefusedFor holding.parts why) → new.told ≡ told_after why old.told
    → IfSome old.told (λ holding. IsCommandRefused Recover left old new holding why)
recovery_refused left old new why refused unwritten =
    if_told old.told (λ holding. IsCommandRefused Recover left old new holding why) (λ holding told.
    (told_at old.told (λ holding. IsRefusedFor holding.parts why) holding told refused, λ not_many. unwritten))
