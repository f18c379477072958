-- Load runs: what a run of a load comes to.
use Rattle.std.specs.Prelude.{◌≡◌, ℕ, ◌≤◌, List, ◌++◌, length, map, IsPermutation, OnOk, Option, Result, Ok, Err}
use Rattle.nv_table.specs.state.States.{PassState}
use Rattle.nv_mount.specs.declared.fds.Fd.{Fd}
use Rattle.nv_trace.specs.declared.trace_call.TracedCall.{TracedCall}
use Rattle.nv_runner.specs.Lists.{MadeCall, calls_made}
use Rattle.nv_runner.specs.Rounds.{AreCallsOf, HasRunRound}
use Rattle.nv_runner.specs.Shifts.{HasRun}
use Rattle.nv_runner.specs.Sorted.{placed_call}
use Rattle.nv_runner.specs.declared.run_error.RunError.{RunError}
use Rattle.nv_runner.specs.declared.sorted.SortedCalls.{SortedCalls}
use Rattle.nv_load.specs.Counts.{counts_of, counts_of_placed}
use Rattle.nv_load.specs.Generated.{generated_calls}
use Rattle.nv_load.specs.declared.load.Load.{Load}
use Rattle.nv_load.specs.declared.counts.Counts.{Counts}

-- The calls of a round were made, behind those of the rounds before it, all of them where it was brought to its end, and what is counted of them was added.
pub record HasCountedRound (fds : List Fd) (worker : Option ℕ) (calls : List TracedCall) (before : List MadeCall) (zero : PassState) (old new : Counts) {E : Type 0} (result : Result (Unit {0}) E) : Type 0 where
  pub made : List MadeCall
  pub ran : HasRunRound fds worker calls before made zero
  pub all : OnOk result (IsPermutation (calls_made made) calls)
  pub counted : (earlier : List MadeCall) → old ≡ counts_of earlier → new ≡ counts_of (earlier ++ made)

-- The calls of both rounds of a load were made, all of them where they were brought to their end, and this is what is counted of them.
pub record HaveCountedBoth (fds : List Fd) (worker : Option ℕ) (load : Load) (zero : PassState) (counts : Counts) {E : Type 0} (result : Result (Unit {0}) E) : Type 0 where
  pub made : List MadeCall
  pub run : HasRun fds worker made zero
  pub within : AreCallsOf (generated_calls load) made
  pub few : length made ≤ length (generated_calls load)
  pub all : OnOk result (IsPermutation (calls_made made) (generated_calls load))
  pub counted : counts ≡ counts_of made

-- what was counted, or why there is nothing to tell
abbrev pub if_ok : {E : Type 0} → Result (Unit {0}) E → Counts → Result Counts E
if_ok (Ok done) counts = Ok counts
if_ok (Err error) counts = Err error

-- What was counted of a run is of the calls that it is sorted out to, whether or not there is a list of them; or it was ended by this error.
abbrev pub IsCountOf : Result Counts RunError → Result SortedCalls RunError → Type 0
IsCountOf (Ok counts) (Ok sorted) = counts ≡ counts_of_placed (map placed_call sorted.placed.items)
IsCountOf (Ok counts) (Err error) = ⊥
IsCountOf (Err error) (Ok sorted) = ⊥
IsCountOf (Err error) (Err other) = error ≡ other
