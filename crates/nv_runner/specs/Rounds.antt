-- Rounds: the calls of one round among those of a trace.
use Rattle.std.specs.Prelude.{◌≡◌, ◌⊎◌, ℕ, ◌<◌, ◌≤◌, List, ◌++◌, length, map, Option, take, drop, slice_index_or, All, IsPermutation, Result, OnOk}
use Rattle.std.specs.List.Sorted.{IsNonDecreasingBy, IsStrictlyIncreasing}
use Rattle.nv_core.specs.state.Passes.{IsOneOf}
use Rattle.nv_table.specs.state.States.{PassState}
use Rattle.nv_mount.specs.declared.fds.Fd.{Fd}
use Rattle.nv_trace.specs.declared.trace_call.TracedCall.{TracedCall}
use Rattle.nv_runner.specs.Lists.{MadeCall, calls_made}
use Rattle.nv_runner.specs.Shifts.{HasRun}

-- calls stand in the order of their lines
abbrev pub AreInLineOrder : List TracedCall → Type 0
AreInLineOrder calls = IsStrictlyIncreasing (map (λ call. call.line) calls)

-- their rounds don't fall along them
abbrev pub AreInRoundOrder : List TracedCall → Type 0
AreInRoundOrder calls = IsNonDecreasingBy (λ call. call.round) calls

-- Some calls are those of one round, in the order of their lines, by so many threads; and the rounds of those that were made came before it.
pub record IsNextRound (threads : ℕ) (calls : List TracedCall) (made : List MadeCall) : Type 0 where
  pub round : ℕ
  pub one : All (λ call. call.round ≡ round) calls
  pub before : All (λ m. m.call.round < round) made
  pub below : All (λ call. call.thread < threads) calls
  pub line_order : AreInLineOrder calls

-- each call that was made is one of these
abbrev pub AreCallsOf : List TracedCall → List MadeCall → Type 0
AreCallsOf calls made = (m : MadeCall) → IsOneOf made m → IsOneOf calls m.call

-- each was made before, or is one of these
abbrev pub AreMoreOf : List TracedCall → (before now : List MadeCall) → Type 0
AreMoreOf calls before now = (m : MadeCall) → IsOneOf now m → IsOneOf before m ⊎ IsOneOf calls m.call

-- So many calls of a round were made, behind those of the rounds before it: each is one of these, and with the others they are those of shifts that pass 0 has taken in.
pub record HasRunRound (fds : List Fd) (worker : Option ℕ) (calls : List TracedCall) (before made : List MadeCall) (zero : PassState) : Type 0 where
  pub run : HasRun fds worker (made ++ before) zero
  pub within : AreCallsOf calls made
  pub few : length made ≤ length calls

-- so many first ones of some calls are of one round, and the others of later ones
pub record IsRoundLong (calls : List TracedCall) (count : ℕ) : Type 0 where
  pub round : ℕ
  pub first : (d : TracedCall) → (slice_index_or calls 0 d).round ≡ round
  pub some : 0 < count
  pub within : count ≤ length calls
  pub one : All (λ call. call.round ≡ round) (take count calls)
  pub later : All (λ call. round < call.round) (drop count calls)

-- They are listed, with those that were listed before, and all of the round were made where it was brought to its end.
pub record HasRunListed (fds : List Fd) (worker : Option ℕ) (calls : List TracedCall) (before : List MadeCall) (zero : PassState) (old new : List MadeCall) {E : Type 0} (result : Result (Unit {0}) E) : Type 0 where
  pub made : List MadeCall
  pub ran : HasRunRound fds worker calls before made zero
  pub listed : IsPermutation new (made ++ old)
  pub all : OnOk result (IsPermutation (calls_made made) calls)
