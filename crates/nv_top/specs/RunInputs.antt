-- Run inputs: what a run of the rounds of an input comes to, or one of a load, over a bench and over what it lent.
use Rattle.std.specs.Prelude.{◌≡◌, ◌≢◌, ◌≤◌, ℕ, ◌+◌, Bool, List, [], ◌++◌, Option, None, IfSome, Result, Err, IfOk, IsErr}
use Rattle.std.specs.Global.{Vec}
use Rattle.nv_plain.specs.Faults.{Rose}
use Rattle.nv_pmem.specs.declared.picker.Pick.{Pick}
use Rattle.nv_bench.specs.Benches.{BenchState}
use Rattle.nv_open.specs.declared.error.Refusal.{Refusal}
use Rattle.nv_trace.specs.Traced.{Traced}
use Rattle.nv_runner.specs.Faithful.{Basis}
use Rattle.nv_runner.specs.Histories.{PlacedCall}
use Rattle.nv_runner.specs.Reports.{history_lines}
use Rattle.nv_runner.specs.declared.stream.StreamError.{StreamError}
use Rattle.nv_runner.specs.declared.stream.StreamError.TheVariants as ends
use Rattle.nv_top.specs.Commands.{HasRunOnBehind}
use Rattle.nv_top.specs.Headline.{IsLeftAfter, IsRunRefused, IsShownOf, expected_faults, history_of_shown}
use Rattle.nv_runner.specs.ToldRounds.{TellsRounds}
use Rattle.nv_top.specs.Lives.{HasLived, LeavesRun, tells_as}
use Rattle.nv_top.specs.Ran.{HasStreamedOn, answer_of}
use Rattle.nv_top.specs.Ready.{IsRunnable}
use Rattle.nv_top.specs.Stopped.{HasStoppedBehind}
use Rattle.nv_top.specs.Stopping.{IsAway, IsSettledStop}
use Rattle.nv_top.specs.Stops.{CountHasCause}
use Rattle.nv_top.specs.declared.ending.Stop.{Stop}
use Rattle.nv_top.specs.declared.ending.Stop.TheVariants.{Region, Turns}
use Rattle.nv_top.specs.declared.input.Input.{Input}
use Rattle.nv_top.specs.declared.show.Show.{Show}
use Rattle.nv_top.specs.declared.show.Show.TheVariants.{Report}
use Rattle.nv_words.specs.declared.words.RunOptions.{RunOptions}

-- Each answers what it was to tell, as its rounds ended. Its calls are of this trace, and these placed ones of them were shown before its end. The source was to give so much behind the first round; the bench was `old`, and is `new`.

-- A run that is brought to its end. A region that is refused refuses it before anything is shown.
pub record HasRunToEnd (show : Show) (options : RunOptions) (input : Input) (given left : Option (List ℕ)) (reads_before reads_now : ℕ) (before now : Option (List ℕ)) (writes_before writes_now : ℕ) (old new : BenchState) (result : Result (Vec ℕ) Stop) : Type 0 where
  pub ended : Result (Unit {0}) StreamError
  pub told : Result (Vec ℕ) Stop
  pub answered : result ≡ answer_of ended told
  pub all : Traced
  pub shown : List PlacedCall
  pub streamed : HasStreamedOn show input given left reads_before reads_now before now writes_before writes_now ended all shown
  pub memory : ended ≡ Err ends.NoMemory → IsErr told
  pub runnable : IsRunnable all
  pub cause : CountHasCause old.faults new.faults told
  pub life : IfSome old.told (λ was. LeavesRun (tells_as show (Rose old.faults new.faults) options.worker) options was all shown new.told)
  pub ran : IfOk told (λ text. IfSome old.told (λ holding. HasRunOnBehind show options holding new.told all shown text.items))
  pub refused : (why : Refusal) → told ≡ Err (Region why) → IfSome old.told (λ holding. IsRunRefused options holding all.names old new why)
  pub unbegun : (why : Refusal) → told ≡ Err (Region why) → (shown ≡ []) × (ended ≡ Err ends.NoMemory)

-- A run that is to be stopped, over what its bench lent: it began on such a basis, with parts of so many lines each, when devices had failed so often. Where the bench was armed its cause is by the count of when power went off, and where it
-- wasn't, by that of before.
pub record HasStoppedInput (IsBegun : Basis → (counts : List ℕ) → Traced → Type 0) (worker : Bool) (pick : Pick) (failed : ℕ) (many : ℕ)
    (input : Input) (given left : Option (List ℕ)) (reads_before reads_now : ℕ) (before now : Option (List ℕ)) (writes_before writes_now : ℕ) (old new : BenchState) (result : Result (Vec ℕ) Stop) : Type 0 where
  pub ended : Result (Unit {0}) StreamError
  pub told : Result (Vec ℕ) Stop
  pub answered : result ≡ answer_of ended told
  pub all : Traced
  pub shown : List PlacedCall
  pub streamed : HasStreamedOn Report input given left reads_before reads_now before now writes_before writes_now ended all shown
  pub memory : ended ≡ Err ends.NoMemory → IsErr told
  pub runnable : IsRunnable all
  pub turns : told ≢ Err Turns
  pub settled : new.arms ≡ old.arms + 1 → IsSettledStop new.settled new.faults told
  pub cause : new.arms ≡ old.arms → CountHasCause failed new.faults told
  pub never : (why : Refusal) → told ≡ Err (Region why) → (basis : Basis) (counts : List ℕ) → IsBegun basis counts all → old.told ≡ None
  pub life : (basis : Basis) (counts : List ℕ) → IsBegun basis counts all → IfSome old.told (λ home. IsAway basis.names home → HasLived (TellsRounds (Rose failed new.faults) worker) basis all shown counts home.stores new.told)
  pub ran : IfOk told (λ text. (basis : Basis) (counts : List ℕ) → IsBegun basis counts all → IfSome old.told (λ home. IsAway basis.names home → HasStoppedBehind (Rose failed new.faults) worker pick old.picked basis all shown many home.stores new text.items))

-- A run over a bench, which may be stopped.
pub record HasRunInput (stop : Option ℕ) (options : RunOptions) (input : Input) (given left : Option (List ℕ)) (reads_before reads_now : ℕ) (before now : Option (List ℕ)) (writes_before writes_now : ℕ) (old new : BenchState) (result : Result (Vec ℕ) Stop) : Type 0 where
  pub ended : Result (Unit {0}) StreamError
  pub told : Result (Vec ℕ) Stop
  pub answered : result ≡ answer_of ended told
  pub all : Traced
  pub shown : List PlacedCall
  pub streamed : HasStreamedOn Report input given left reads_before reads_now before now writes_before writes_now ended all shown
  pub memory : ended ≡ Err ends.NoMemory → IsErr told
  pub runnable : IsRunnable all
  pub back : IsLeftAfter stop options.image old new
  pub cause : IsSettledStop (expected_faults old new) new.faults told
  pub turns : told ≢ Err Turns
  pub never_falls : old.faults ≤ new.faults
  pub life : IfSome old.told (λ was. LeavesRun (TellsRounds (Rose old.faults new.faults) options.worker) options was all shown new.told)
  pub ran : IfOk told (λ text. IfSome old.told (λ holding.
      (run : IsShownOf stop options old new holding all (history_lines 0 shown ++ text.items)) × (history_of_shown stop options old new holding all (history_lines 0 shown ++ text.items) run ≡ shown)))
  pub refused : (why : Refusal) → told ≡ Err (Region why) → IfSome old.told (λ holding. IsRunRefused options holding all.names old new why)
  pub unbegun : (why : Refusal) → told ≡ Err (Region why) → IfSome old.told (λ holding. (new.arms ≡ old.arms) × (shown ≡ []) × (ended ≡ Err ends.NoMemory))
