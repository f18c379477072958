-- Life rows: the lives of a schedule, one behind the other on one bench.
use Rattle.std.specs.Prelude.{◌≡◌, ◌≤◌, ℕ, List, [], ◌∷◌, ◌++◌, map, IsPermutation, Some}
use Rattle.std.specs.List.Sorted.{IsStrictlyIncreasing}
use Rattle.nv_plain.specs.Faults.{Rose}
use Rattle.nv_pmem.specs.declared.picker.Pick.{Pick}
use Rattle.nv_bench.specs.Benches.{BenchState}
use Rattle.nv_bench.specs.Holding.{Holding}
use Rattle.nv_bench.specs.Naming.{AreDistinct, names_of}
use Rattle.nv_trace.specs.Lives.{TracedLife}
use Rattle.nv_trace.specs.Traced.{Traced}
use Rattle.nv_trace.specs.declared.token.Token.{Token}
use Rattle.nv_trace.specs.declared.trace_call.TracedCall.{TracedCall}
use Rattle.nv_runner.specs.Faithful.{listed_calls}
use Rattle.nv_runner.specs.Reports.{Report}
use Rattle.nv_runner.specs.Shifts.{calls_of_thread}
use Rattle.nv_schedule.specs.Cuts.{cuts_of}
use Rattle.nv_top.specs.Followed.{HasFollowed, HasUsedTurnsOn}
use Rattle.nv_top.specs.LifeLines.{IsTextOfLives}
use Rattle.nv_top.specs.Lives.{LeavesRun, TellsNothing}
use Rattle.nv_top.specs.Scheduling.{IsArmedAt}
use Rattle.nv_top.specs.Stopping.{IsOffOnce}
use Rattle.nv_words.specs.declared.words.RunOptions.{RunOptions}

-- ---- one life

-- The calls that a life has not begun: of each thread all but its first ones, which the life lists, in the order of their lines.
pub record AreNotBegun (calls listed left : List TracedCall) : Type 0 where
  pub begun : List TracedCall
  pub each_once : IsPermutation listed begun
  pub first : (thread : ℕ) → calls_of_thread thread calls ≡ calls_of_thread thread begun ++ calls_of_thread thread left
  pub in_order : IsStrictlyIncreasing (map (λ call. call.line) left)

-- the trace that a life follows: with the calls that no life before it has begun, and its own tokens
abbrev pub trace_of : Traced → (calls : List TracedCall) → (tokens : List Token) → Traced
trace_of trace calls tokens = record trace { calls = calls; tokens = tokens; lives = [] }

-- with this pick power goes off behind it
abbrev pub with_pick : Pick → RunOptions → RunOptions
with_pick pick options = record options { image = pick }

-- A crash ended a life: its tokens were followed with these calls, on a bench that held this, which was armed at their cuts; power went off behind it with the crash's pick, and left this of the bench, which was recovered; and the bench holds that now, no two of its stores having one name. Without a cut no device of it has failed.
pub record HasEnded (options : RunOptions) (trace : Traced) (life : TracedLife) (calls left : List TracedCall) (old new : BenchState) (was now : Holding) : Type 0 where
  pub followed : HasFollowed (Rose old.faults new.faults) (with_pick life.pick options) old.picked was new (trace_of trace calls life.tokens)
  pub armed : IsArmedAt life.tokens old new
  pub left_so : new.lefts ≡ Some followed.scheduled.left.lost.power ∷ old.lefts
  pub no_less : old.faults ≤ new.faults
  pub uncut : cuts_of life.tokens ≡ [] → new.faults ≡ old.faults
  pub tells : new.told ≡ Some now
  pub own : AreDistinct (names_of now.stores)
  pub not_begun : AreNotBegun calls (listed_calls followed.scheduled.report) left

-- ---- lives in turn

-- Crashes ended these lives of a trace in turn, and these are their reports: each begins on what the one before it left, with the calls that none before it has begun.
abbrev pub HaveEnded : RunOptions → Traced → List TracedLife → (calls left : List TracedCall) → (old new : BenchState) → (was now : Holding) → List Report → Type 0
HaveEnded options trace [] calls left old new was now reports = (left ≡ calls) × (new ≡ old) × (now ≡ was) × (reports ≡ [])
HaveEnded options trace (life ∷ later) calls left old new was now reports =
    (behind : List TracedCall) × (then_ : BenchState) × (held : Holding) × (rest : List Report)
    × (one : HasEnded options trace life calls behind old then_ was held) × (reports ≡ one.followed.scheduled.report ∷ rest) × HaveEnded options trace later behind left then_ new held now rest

-- The text is that of the report of the lives of a trace, which were followed in turn on a bench that held this: those that crashes end, and then the last one, of which the same is so.
pub record ShowsLives (options : RunOptions) (old new : BenchState) (was : Holding) (trace : Traced) (text : List ℕ) : Type 0 where
  pub left : List TracedCall
  pub mid : BenchState
  pub here : Holding
  pub reports : List Report
  pub ended : HaveEnded options trace trace.lives trace.calls left old mid was here reports
  pub last : HasFollowed (Rose mid.faults new.faults) options mid.picked here new (trace_of trace left trace.tokens)
  pub armed : IsArmedAt trace.tokens mid new
  pub left_so : new.lefts ≡ Some last.scheduled.left.lost.power ∷ mid.lefts
  pub no_less : mid.faults ≤ new.faults
  pub uncut : cuts_of trace.tokens ≡ [] → new.faults ≡ mid.faults
  pub text_is : IsTextOfLives reports last.scheduled.report text

-- ---- lives that aren't followed to the end of all

-- the tokens and the pick of the life behind some: the first of the later ones, or the last of the trace
abbrev pub tokens_next : Traced → List TracedLife → List Token
tokens_next trace [] = trace.tokens
tokens_next trace (life ∷ later) = life.tokens

abbrev pub pick_next : RunOptions → List TracedLife → Pick
pick_next options [] = options.image
pick_next options (life ∷ later) = life.pick

-- Some first lives of a trace were ended by crashes, on a bench that held this; and on what they left of it something is so of the next one, with its pick and its trace. Since then power went off once more at most, with its pick.
pub record OfNextLife (IsSo : RunOptions → (mid : BenchState) → (was : Holding) → Traced → Type 0) (options : RunOptions) (old new : BenchState) (was : Holding) (trace : Traced) : Type 0 where
  pub first : List TracedLife
  pub later : List TracedLife
  pub lives_are : trace.lives ≡ first ++ later
  pub left : List TracedCall
  pub mid : BenchState
  pub here : Holding
  pub reports : List Report
  pub ended : HaveEnded options trace first trace.calls left old mid was here reports
  pub off : IsOffOnce (pick_next options later) mid new
  pub no_less : mid.faults ≤ new.faults
  pub next : IsSo (with_pick (pick_next options later) options) mid here (trace_of trace left (tokens_next trace later))

-- a token of it used its advances up
abbrev pub UseTurns : RunOptions → (old new : BenchState) → Holding → Traced → Type 0
UseTurns options old new was trace = OfNextLife (λ options mid here life. HasUsedTurnsOn options mid new here life) options old new was trace

-- What lives leave of a bench, whatever the last of them was ended by.
abbrev pub LeaveLives : RunOptions → (old new : BenchState) → (was : Holding) → Traced → Type 0
LeaveLives options old new was trace = OfNextLife (λ options mid here life. LeavesRun TellsNothing options here life [] new.told) options old new was trace

-- ---- what they make of a bench

-- power went off with these picks, one after another
abbrev pub picked_behind : (picks before : List Pick) → List Pick
picked_behind [] before = before
picked_behind (pick ∷ later) before = picked_behind later (pick ∷ before)

-- the picks of the lives of a trace: those of its crashes, and then the last one's
abbrev pub picks_of : RunOptions → Traced → List Pick
picks_of options trace = map (λ (life : TracedLife). life.pick) trace.lives ++ options.image ∷ []

-- power went off with some first ones of these picks
abbrev pub ArePickedSome : (picks : List Pick) → (old new : BenchState) → Type 0
ArePickedSome picks old new = (first : List Pick) × (later : List Pick) × (picks ≡ first ++ later) × (new.picked ≡ picked_behind first old.picked)

-- with all of them
abbrev pub ArePickedAll : (picks : List Pick) → (old new : BenchState) → Type 0
ArePickedAll picks old new = new.picked ≡ picked_behind picks old.picked

-- with some first ones of them, this one the last
abbrev pub IsPickedLast : (picks : List Pick) → (old new : BenchState) → Type 0
IsPickedLast picks old new = (first : List Pick) × (pick : Pick) × (later : List Pick) × (picks ≡ first ++ pick ∷ later) × (new.picked ≡ pick ∷ picked_behind first old.picked)

-- the tokens of all lives in turn
abbrev pub tokens_of_lives : List TracedLife → List Token
tokens_of_lives [] = []
tokens_of_lives (life ∷ later) = life.tokens ++ tokens_of_lives later

abbrev pub all_tokens : Traced → List Token
all_tokens trace = tokens_of_lives trace.lives ++ trace.tokens

-- no device has failed where none of them is a cut
abbrev pub IsUncutWhole : Traced → (old new : BenchState) → Type 0
IsUncutWhole trace old new = cuts_of (all_tokens trace) ≡ [] → new.faults ≡ old.faults
