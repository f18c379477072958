-- Life over: what a life of a schedule has come to on its bench, and what all of them have.
use Rattle.std.specs.Prelude.{◌≡◌, ◌≤◌, ℕ, List, [], ◌∷◌, ◌++◌, IfSome, Result, Err, IfOk, OnOk}
use Rattle.std.specs.Global.{Vec}
use Rattle.nv_bench.specs.Benches.{BenchState}
use Rattle.nv_bench.specs.Holding.{Holding}
use Rattle.nv_open.specs.declared.error.Refusal.{Refusal}
use Rattle.nv_runner.specs.Reports.{Report}
use Rattle.nv_schedule.specs.Cuts.{cuts_of}
use Rattle.nv_trace.specs.Lives.{TracedLife}
use Rattle.nv_trace.specs.Traced.{Traced}
use Rattle.nv_top.specs.Followed.{HasUsedTurnsOn}
use Rattle.nv_top.specs.Headline.{IsRunRefused, expected_faults}
use Rattle.nv_top.specs.LifeLines.{AreKeptLives, KeepALineEach}
use Rattle.nv_top.specs.LifeRows.{ArePickedAll, ArePickedSome, HasEnded, IsPickedLast, IsUncutWhole, LeaveLives, ShowsLives, UseTurns, all_tokens, picks_of}
use Rattle.nv_top.specs.Lives.{LeavesRun, TellsNothing}
use Rattle.nv_top.specs.Ready.{IsAtHome, IsRunnable}
use Rattle.nv_top.specs.Scheduling.{IsArmedAt, IsArmedAtSome}
use Rattle.nv_top.specs.Stopping.{IsAllBack, IsOff, IsOffOnce, IsSettledStop, StopSettles}
use Rattle.nv_top.specs.declared.ending.Stop.{Stop}
use Rattle.nv_top.specs.declared.ending.Stop.TheVariants.{Region, Turns}
use Rattle.nv_top.specs.declared.life.LivesShown.{LivesShown}
use Rattle.nv_words.specs.declared.words.RunOptions.{RunOptions}

-- A life of a trace was stopped by this: all that was lent is back; it armed the bench at some first ones of its cuts; power went off once more, with its pick, or it didn't; and the stop has its cause by what the devices failed. Where a token has used its
-- advances up power went off, and where the region was refused it didn't.
pub record IsLifeStopped (options : RunOptions) (trace : Traced) (old new : BenchState) (stop : Stop) : Type 0 where
  pub back : IsAllBack new
  pub cuts : IsArmedAtSome trace.tokens old new
  pub off : IsOffOnce options.image old new
  pub cause : StopSettles (expected_faults old new) new.faults stop
  pub settles : old.settled ≤ new.settled
  pub never_falls : old.faults ≤ new.faults
  pub turns : stop ≡ Turns → new.picked ≡ options.image ∷ old.picked
  pub used : stop ≡ Turns → IfSome old.told (λ was. HasUsedTurnsOn options old new was trace)
  pub life : IfSome old.told (λ was. LeavesRun TellsNothing options was trace [] new.told)
  pub refused : (why : Refusal) → stop ≡ Region why → IfSome old.told (λ was. IsRunRefused options was trace.names old new why × (new.picked ≡ old.picked))
  pub unarmed : (why : Refusal) → stop ≡ Region why → IfSome old.told (λ was. new.arms ≡ old.arms)

-- A crash ended a life of a trace, which is left with the calls that none has begun, and its lines stand behind those that were kept: the bench was armed at all its cuts, power went off with its pick, and the bench is ready for the next life.
pub record IsLifeEnded (options : RunOptions) (trace : Traced) (life : TracedLife) (left : Traced) (old new : BenchState) (kept more : LivesShown) : Type 0 where
  pub armed : IsArmedAt life.tokens old new
  pub off : IsOff life.pick old new
  pub at_home : IsAtHome new
  pub counts : new.faults ≡ expected_faults old new
  pub settles : old.settled ≤ new.settled
  pub never_falls : old.faults ≤ new.faults
  pub uncut : cuts_of life.tokens ≡ [] → new.faults ≡ old.faults
  pub rest : left ≡ record trace { calls = left.calls }
  pub runnable : IsRunnable left
  pub each : KeepALineEach more
  pub ended : IfSome old.told (λ was. (now : Holding) × (one : HasEnded options trace life trace.calls left.calls old new was now)
      × ((before : List Report) → AreKeptLives kept before → AreKeptLives more (before ++ one.followed.scheduled.report ∷ [])))

-- What the lives of a trace have come to, whatever that is: all that was lent is back; the bench was armed at some first ones of their cuts, and at all where they were followed to their end; power went off with some first ones of their picks, or with all; and the rest
-- is that of the life which was the last.
pub record AreLivesOver (options : RunOptions) (trace : Traced) (old new : BenchState) (result : Result (Vec ℕ) Stop) : Type 0 where
  pub runnable : IsRunnable trace
  pub back : IsAllBack new
  pub cuts : IsArmedAtSome (all_tokens trace) old new
  pub all_cuts : OnOk result (IsArmedAt (all_tokens trace) old new)
  pub picked : ArePickedSome (picks_of options trace) old new
  pub all_picked : OnOk result (ArePickedAll (picks_of options trace) old new)
  pub cause : IsSettledStop (expected_faults old new) new.faults result
  pub never_falls : old.faults ≤ new.faults
  pub uncut : OnOk result (IsUncutWhole trace old new)
  pub turns : result ≡ Err Turns → IsPickedLast (picks_of options trace) old new
  pub used : result ≡ Err Turns → IfSome old.told (λ was. UseTurns options old new was trace)
  pub life : IfSome old.told (λ was. LeaveLives options old new was trace)
  pub followed : IfOk result (λ text. IfSome old.told (λ was. ShowsLives options old new was trace text.items))
  pub refused : (why : Refusal) → result ≡ Err (Region why) → IfSome old.told (λ was. IsRunRefused options was trace.names old new why × (new.picked ≡ old.picked))
  pub unarmed : (why : Refusal) → result ≡ Err (Region why) → IfSome old.told (λ was. new.arms ≡ old.arms)
