-- Shares: the calls of each pass of a run, where each thread's are made by one pass, whether or not that is between calls at the end.
use Rattle.std.specs.Prelude.{◌≡◌, ℕ, List, [], map, All, IsPermutation}
use Rattle.std.specs.List.{flat_map}
use Rattle.std.specs.List.Sorted.{IsNonDecreasingBy, IsStrictlyIncreasing}
use Rattle.nv_plain.specs.Histories.{Answered}
use Rattle.nv_core.specs.state.Passes.{IsOneOf}
use Rattle.nv_core.specs.invariant.OneHistory.{calls_by}
use Rattle.nv_table.specs.state.Views.{AreDistinctNumbers}
use Rattle.nv_mount.specs.declared.fds.Fd.{Fd}
use Rattle.nv_runner.specs.Histories.{AreHistory, PlacedCall, placed_calls}
use Rattle.nv_runner.specs.Lists.{MadeCall, Stand, placed}

-- the calls that one pass made, those of one thread, with what they were answered; and what it had seen before the first of them
pub record Share : Type 0 where
  pub number : ℕ
  pub thread : ℕ
  pub seen : List Answered
  pub made : List MadeCall

-- They are the thread's, in the order of its lines. Those that have a place stand in the history one behind the other, and the pass has no other calls in it.
pub record IsShareOf (fds : List Fd) (history : List Answered) (share : Share) : Type 0 where
  pub own : All (λ m. m.call.thread ≡ share.thread) share.made
  pub in_lines : IsStrictlyIncreasing (map (λ m. m.call.line) share.made)
  pub stand : Stand fds share.number share.seen share.made history
  pub placed_are : calls_by share.number history ≡ placed fds share.number share.made

-- Each pass has one share, and each thread; and nobody else has any calls in the history.
pub record AreShares (fds : List Fd) (history : List Answered) (shares : List Share) : Type 0 where
  pub each : All (IsShareOf fds history) shares
  pub passes : AreDistinctNumbers (map (λ share. share.number) shares)
  pub threads : AreDistinctNumbers (map (λ share. share.thread) shares)
  pub others : (number : ℕ) → (IsOneOf (map (λ share. share.number) shares) number → ⊥) → calls_by number history ≡ []

-- Sorted by their places, the placed calls of such shares are the history, where all calls are of one round.
abbrev pub SharesAreHistory : Type 0
SharesAreHistory =
    (fds : List Fd) (history : List Answered) (shares : List Share) (made : List MadeCall) (round : ℕ) (sorted : List PlacedCall)
    → AreShares fds history shares → IsPermutation made (flat_map (λ share. share.made) shares) → All (λ m. m.call.round ≡ round) made
    → IsPermutation (placed_calls made) sorted → IsNonDecreasingBy (λ p. p.place) sorted
    → AreHistory fds sorted history
