-- Stream rounds: what one round of a stream comes to, and all of them so far.
use Rattle.std.specs.Prelude.{◌≡◌, ◌≢◌, ◌⊎◌, ℕ, ◌<◌, ◌≤◌, Bool, List, [], ◌∷◌, ◌++◌, length, All, IsPermutation, Option, IfSome, Result, Ok, Err, IfOk}
use Rattle.std.specs.List.Sorted.{IsNonDecreasingBy}
use Rattle.nv_table.specs.state.States.{PassState}
use Rattle.nv_mount.specs.declared.fds.Fd.{Fd}
use Rattle.nv_trace.specs.NextRound.{ahead}
use Rattle.nv_trace.specs.Traced.{Traced}
use Rattle.nv_trace.specs.declared.reader.LineReader.{LineReader}
use Rattle.nv_trace.specs.declared.trace_call.TracedCall.{TracedCall}
use Rattle.nv_runner.specs.declared.kept.KeptCalls.{KeptCalls}
use Rattle.nv_runner.specs.declared.run_error.RunError.{RunError}
use Rattle.nv_runner.specs.declared.sorted.SortedCalls.{SortedCalls}
use Rattle.nv_runner.specs.declared.stream.StreamError.{StreamError}
use Rattle.nv_runner.specs.declared.stream.StreamError.TheVariants.{NoMemory, Read, Write}
use Rattle.nv_runner.specs.Histories.{PlacedCall, placed_calls}
use Rattle.nv_runner.specs.KeptRounds.{AreKept, AreRoundsOver}
use Rattle.nv_runner.specs.Lists.{MadeCall, calls_made}
use Rattle.nv_runner.specs.Reports.{history_lines}
use Rattle.nv_runner.specs.Rounds.{AreCallsOf, HasRunRound}
use Rattle.nv_runner.specs.Shifts.{HasRun}
use Rattle.nv_runner.specs.Sorted.{AreSortedOut, OpenedCall, RefusedCall, opened_calls, refused_calls}
use Rattle.nv_runner.specs.Streams.{HasWritten, IsAllRead, IsTraceFrom}

-- The calls of a round were made, behind those of the rounds before it; all of them, and they are sorted out, where memory was not wanting.
pub record HasRunSorted (fds : List Fd) (worker : Option ℕ) (calls : List TracedCall) (before : List MadeCall) (zero : PassState) {E : Type 0} (result : Result SortedCalls E) : Type 0 where
  pub made : List MadeCall
  pub ran : HasRunRound fds worker calls before made zero
  pub sorted : IfOk result (λ sorted. AreSortedOut made sorted × IsPermutation (calls_made made) calls)

-- ---- what has its place, round by round

-- calls that have a place, in the order of their rounds, and in a round by their places
abbrev pub StandInTurn : List PlacedCall → Type 0
StandInTurn [] = Unit {0}
StandInTurn (p ∷ later) = All (λ q. (p.call.round < q.call.round) ⊎ (p.place ≤ q.place)) later × StandInTurn later

-- Calls that were made are these: those that have a place, round by round, those that were refused and those that were left open, by their lines.
pub record ArePartedAs (made : List MadeCall) (placed : List PlacedCall) (refused : List RefusedCall) (opened : List OpenedCall) : Type 0 where
  pub placed_are : IsPermutation (placed_calls made) placed
  pub in_turn : StandInTurn placed
  pub refused_are : IsPermutation (refused_calls made) refused
  pub by_line : IsNonDecreasingBy (λ r. r.call.line) refused
  pub opened_are : IsPermutation (opened_calls made) opened
  pub open_by_line : IsNonDecreasingBy (λ o. o.call.line) opened

-- ---- one round

-- All of its calls were made, and what is to be kept of them was taken.
pub record HasKeptRound (calls : List TracedCall) (made : List MadeCall) (before now : Option (List ℕ)) (old new : KeptCalls) (ended : Result (Unit {0}) StreamError) : Type 0 where
  pub all : IsPermutation (calls_made made) calls
  pub placed : List PlacedCall
  pub refused : List RefusedCall
  pub opened : List OpenedCall
  pub parted : ArePartedAs made placed refused opened
  pub kept : (p : List PlacedCall) (r : List RefusedCall) (o : List OpenedCall) → AreKept old p r o → AreKept new (p ++ placed) (r ++ refused) (o ++ opened)
  pub written : HasWritten before now ended (history_lines old.placed placed)
  pub wrote : ended ≡ Err Write → placed ≢ []

-- Where memory was wanting some first ones of each thread's were made, and nothing was written.
abbrev pub IsRoundEnded : List TracedCall → List MadeCall → (before now : Option (List ℕ)) → (old new : KeptCalls) → Result (Unit {0}) StreamError → Type 0
IsRoundEnded calls made before now old new (Ok done) = HasKeptRound calls made before now old new (Ok done)
IsRoundEnded calls made before now old new (Err NoMemory) = now ≡ before
IsRoundEnded calls made before now old new (Err (Read error)) = ⊥
IsRoundEnded calls made before now old new (Err Write) = HasKeptRound calls made before now old new (Err Write)

-- The calls of a round were made, behind those of the rounds before it, and the lines of those that have a place were written.
pub record HasRunWritten (fds : List Fd) (worker : Option ℕ) (calls : List TracedCall) (earlier : List MadeCall) (zero : PassState) (before now : Option (List ℕ)) (old new : KeptCalls) (result : Result (Unit {0}) StreamError) : Type 0 where
  pub made : List MadeCall
  pub ran : HasRunRound fds worker calls earlier made zero
  pub ended : IsRoundEnded calls made before now old new result

-- ---- all of them

abbrev pub kept_if : Result (Unit {0}) RunError → KeptCalls → Result KeptCalls RunError
kept_if (Ok done) kept = Ok kept
kept_if (Err error) kept = Err error

-- Rounds were run as they were read, and this is how they ended: all calls of those that were read were made, and their lines written, where memory was not wanting; else some first ones of each thread's of the last.
pub record HasRunRead (fds : List Fd) (worker : Option ℕ) (more : Bool) (first : Traced) (reader : LineReader) (left before now : Option (List ℕ)) (kept : KeptCalls) (zero : PassState) (ended : Result (Unit {0}) StreamError) : Type 0 where
  pub all : Traced
  pub trace : IsTraceFrom first all
  pub read : IfSome left (λ input. IsAllRead more first reader (ahead reader ++ input) ended all)
  pub made : List MadeCall
  pub run : HasRun fds worker made zero
  pub within : AreCallsOf all.calls made
  pub few : length made ≤ 67108865
  pub all_made : ended ≢ Err NoMemory → IsPermutation (calls_made made) all.calls
  pub placed : List PlacedCall
  pub later : List PlacedCall
  pub refused : List RefusedCall
  pub opened : List OpenedCall
  pub placed_are : IsPermutation (placed_calls made) (placed ++ later)
  pub in_turn : StandInTurn (placed ++ later)
  pub over : AreRoundsOver all.calls made later
  pub parted : ended ≢ Err NoMemory → ArePartedAs made placed refused opened
  pub kept_are : ended ≢ Err NoMemory → AreKept kept placed refused opened
  pub written : HasWritten before now ended (history_lines 0 placed)
  pub wrote : ended ≡ Err Write → placed ≢ []
