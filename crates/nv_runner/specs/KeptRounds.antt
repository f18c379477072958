-- Kept rounds: what is kept of the calls of rounds that ended, once the lines of those that have a place were written.
use Rattle.std.specs.Prelude.{◌≡◌, ◌<◌, ◌≤◌, List, ◌++◌, length, map, All, IsPermutation, Result, Ok, Err}
use Rattle.std.specs.List.Sorted.{IsNonDecreasingBy}
use Rattle.nv_core.specs.state.Passes.{IsOneOf}
use Rattle.nv_trace.specs.declared.trace_call.TracedCall.{TracedCall}
use Rattle.nv_runner.specs.declared.kept.KeptCalls.{KeptCalls}
use Rattle.nv_runner.specs.declared.kept.KeptOpen.{KeptOpen}
use Rattle.nv_runner.specs.declared.run_error.RunError.{RunError}
use Rattle.nv_runner.specs.declared.sorted.SortedCalls.{SortedCalls}
use Rattle.nv_runner.specs.FaithfulRuns.{shown_refusals}
use Rattle.nv_runner.specs.Histories.{PlacedCall, placed_calls}
use Rattle.nv_runner.specs.Lists.{MadeCall, calls_made}
use Rattle.nv_runner.specs.Reports.{refused_lines}
use Rattle.nv_runner.specs.Sorted.{OpenedCall, RefusedCall, opened_call, placed_call, refused_call}

abbrev pub kept_open_call : KeptOpen → OpenedCall
kept_open_call kept = record { call = kept.call; number = kept.number }

-- How many have a place; the lines of the refusals that are shown, and how many these are; and those that were left open.
pub record AreKept (kept : KeptCalls) (placed : List PlacedCall) (refused : List RefusedCall) (open_calls : List OpenedCall) : Type 0 where
  pub placed_are : kept.placed ≡ length placed
  pub lines : kept.refused.items ≡ refused_lines (shown_refusals refused)
  pub refused_are : kept.refused_count ≡ length (shown_refusals refused)
  pub open_are : map kept_open_call kept.open_calls.items ≡ open_calls

-- What is kept is that of the calls of these lists: of those that have a place, of the refused ones and of those that were left open.
abbrev pub AreKeptOf : KeptCalls → SortedCalls → Type 0
AreKeptOf kept sorted = AreKept kept (map placed_call sorted.placed.items) (map refused_call sorted.refused.items) (map opened_call sorted.open_calls.items)

-- What is kept of a run is of the calls that it is sorted out to, whether or not there is a list of them; or it was ended by this error.
abbrev pub IsKeptOf : Result KeptCalls RunError → Result SortedCalls RunError → Type 0
IsKeptOf (Ok kept) (Ok sorted) = AreKeptOf kept sorted
IsKeptOf (Ok kept) (Err error) = ⊥
IsKeptOf (Err error) (Ok sorted) = ⊥
IsKeptOf (Err error) (Err other) = other ≡ error

-- The first of the calls that have a place, by their places.
pub record AreFirstPlaced (made : List MadeCall) (first : List PlacedCall) : Type 0 where
  pub later : List PlacedCall
  pub all : IsPermutation (placed_calls made) (first ++ later)
  pub by_place : IsNonDecreasingBy (λ p. p.place) (first ++ later)

-- ---- rounds that are over

-- a call is of a round behind which some calls have another
abbrev pub IsOfEarlierRound : List TracedCall → TracedCall → Type 0
IsOfEarlierRound calls call = IsOneOf calls call × ((other : TracedCall) × IsOneOf calls other × (call.round < other.round))

-- these placed calls are all of the last round of some calls
abbrev pub AreOfLastRound : List TracedCall → List PlacedCall → Type 0
AreOfLastRound calls placed = All (λ p. All (λ call. call.round ≤ p.call.round) calls) placed

-- All calls of the rounds before the last were made, and what is not shown of those that have a place is of the last. No more were made than there are.
pub record AreRoundsOver (calls : List TracedCall) (made : List MadeCall) (later : List PlacedCall) : Type 0 where
  pub few : length made ≤ length calls
  pub all_made : (call : TracedCall) → IsOfEarlierRound calls call → IsOneOf (calls_made made) call
  pub late : AreOfLastRound calls later
