-- A run of the rounds of an input that isn't stopped, and one as its options say.
use Rattle.std.proofs.Common.{◌≡◌, ℕ, ◌≤◌, List, [], ◌++◌, Option, Some, None, Result, Err, refl, sym, ap, subst, arith}
use Rattle.std.specs.Prelude.{IfSome}
use Rattle.std.specs.Global.{Vec}
use Rattle.nv_bench.specs.Benches.{BenchState}
use Rattle.nv_bench.specs.Holding.{Holding}
use Rattle.nv_runner.specs.Reports.{history_lines}
use Rattle.nv_runner.specs.declared.stream.StreamError.TheVariants as ends
use Rattle.nv_top.specs.Headline.{IsShownOf, history_of_shown}
use Rattle.nv_top.specs.Commands.{HasRunOnBehind, IsGivenBack}
use Rattle.nv_top.specs.Ready.{IsReady}
use Rattle.nv_top.specs.RunInputs.{HasRunInput, HasRunToEnd}
use Rattle.nv_top.specs.declared.show.Show.TheVariants.{Report}
use Rattle.nv_top.specs.declared.ending.Stop.{Stop}
use Rattle.nv_top.specs.declared.input.Input.{Input}
use Rattle.nv_words.specs.declared.words.RunOptions.{RunOptions}
use Rattle.nv_top.proofs.CommandLemmas.{if_told, told_at}
use Rattle.nv_top.proofs.ReportedLemmas.{counted_not_turns, counted_settled}
use Rattle.nv_top.proofs.StoppingLemmas.{count_grows}
use Rattle.std.proofs.lemmas.Result.{IfOk-weaker}

abbrev AsAnswer : Type 0
AsAnswer = Result (Vec ℕ) Stop

-- ---- a run that isn't stopped

pub unstopped_run : (options : RunOptions) (input : Input) (given left : Option (List ℕ)) (reads reads_now : ℕ) (before now : Option (List ℕ)) (writes writes_now : ℕ) (old new : BenchState) (result : AsAnswer) → IsReady old → IsGivenBack old new
    → HasRunToEnd Report options input given left reads reads_now before now writes writes_now old new result → HasRunInput None options input given left reads reads_now before now writes writes_now old new result
unstopped_run options input given left reads reads_now before now writes writes_now old new result ready back ran =
    let same = ap (λ (state : BenchState). state.settled) back in
    let settled = ready.settled in
    let low : new.settled ≤ old.faults = omega (arith, same, settled) in
    let Whole : Holding → Vec ℕ → Type 0 = λ holding text.
    (run : IsShownOf None options old new holding ran.all (history_lines 0 ran.shown ++ text.items)) × (history_of_shown None options old new holding ran.all (history_lines 0 ran.shown ++ text.items) run ≡ ran.shown) in
    record {
      ended = ran.ended;
      told = ran.told;
      answered = ran.answered;
      all = ran.all;
      shown = ran.shown;
      streamed = ran.streamed;
      memory = ran.memory;
      runnable = ran.runnable;
      back = back;
      cause = counted_settled old.faults new.faults new.settled ran.told low ran.cause;
      turns = counted_not_turns old.faults new.faults ran.told ran.cause;
      never_falls = count_grows old.faults new.faults ran.told ran.cause;
      life = ran.life;
      ran = IfOk-weaker ran.told (λ text. IfSome old.told (λ holding. HasRunOnBehind Report options holding new.told ran.all ran.shown text.items)) (λ text. IfSome old.told (λ holding. Whole holding text)) (λ text shows.
          if_told old.told (λ holding. Whole holding text) (λ holding told.
          let both = told_at old.told (λ holding. HasRunOnBehind Report options holding new.told ran.all ran.shown text.items) holding told shows in (both.0, both.1 refl))) ran.ran;
      refused = ran.refused;
      unbegun = λ why is. if_told old.told (λ holding. (new.arms ≡ old.arms) × (ran.shown ≡ []) × (ran.ended ≡ Err ends.NoMemory)) (λ holding told. let none = ran.unbegun why is in (ap (λ (state : BenchState). state.arms) back, none.0, none.1));
    }

-- ---- as the options say

pub run_not_stopped : (options : RunOptions) (input : Input) (given left : Option (List ℕ)) (reads reads_now : ℕ) (before now : Option (List ℕ)) (writes writes_now : ℕ) (old new : BenchState) (result : AsAnswer) → options.stop ≡ None → IsReady old → IsGivenBack old new
    → HasRunToEnd Report options input given left reads reads_now before now writes writes_now old new result → HasRunInput options.stop options input given left reads reads_now before now writes writes_now old new result
run_not_stopped options input given left reads reads_now before now writes writes_now old new result is ready back ran =
    subst (λ stop. HasRunInput stop options input given left reads reads_now before now writes writes_now old new result) (sym is) (unstopped_run options input given left reads reads_now before now writes writes_now old new result ready back ran)

pub run_stopped : (options : RunOptions) (k : ℕ) (input : Input) (given left : Option (List ℕ)) (reads reads_now : ℕ) (before now : Option (List ℕ)) (writes writes_now : ℕ) (old new : BenchState) (result : AsAnswer) → options.stop ≡ Some k
    → HasRunInput (Some k) options input given left reads reads_now before now writes writes_now old new result → HasRunInput options.stop options input given left reads reads_now before now writes writes_now old new result
run_stopped options k input given left reads reads_now before now writes writes_now old new result is ran =
    subst (λ stop. HasRunInput stop options input given left reads reads_now before now writes writes_now old new result) (sym is) ran
