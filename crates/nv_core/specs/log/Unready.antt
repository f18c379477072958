-- Unready writes: those whose leader was never made ready, be it drawn, being filled or broken.
use Rattle.std.specs.Prelude.{◌≡◌, ◌≢◌, ℕ, ◌+◌, ◌≤◌, Bool, true, false}
use Rattle.nv_core.specs.state.Words.{Sizes, was_readied, broken}
use Rattle.nv_core.specs.state.Passes.{BreakEntry, Fault, IsOneOf}
use Rattle.nv_core.specs.steps.PassSteps.{fault_of}
use Rattle.nv_core.specs.invariant.ControlFacts.{IsPage}
use Rattle.nv_core.specs.invariant.CleanerNumbers.{IsFreed}
use Rattle.nv_core.specs.state.Core.{Core}
use Rattle.nv_core.specs.invariant.LogWindow.{InWindow, entry_word_at}
use Rattle.nv_core.specs.log.Groups.{Group, Log}
use Rattle.nv_core.specs.log.Pieces.{page_of_number}

-- the group that a call had drawn which a fault ended
abbrev pub group_of_fault : Fault → Group
group_of_fault fault = record { call = fault.call; first = fault.first; entries = fault.entries }

-- a group is that of a call which a fault ended
pub record IsOfFault (core : Core) (group : Group) : Type 0 where
  pub by : ℕ
  pub fault : Fault
  pub ended : IsOneOf (core.passes by).faulted fault
  pub is : group ≡ group_of_fault fault

-- a number is the leader's of a group of the window, and was never made ready
pub record IsUnready (sizes : Sizes) (log : Log) (core : Core) (number : ℕ) : Type 0 where
  pub within : InWindow core number
  pub leads : (log.group number).first ≡ number
  pub unready : was_readied (entry_word_at sizes core number) ≢ true
  pub unfreed : (by : ℕ) → IsFreed (core.passes by).control number → ⊥

-- A broken entry is one of a call that a fault ended. A write whose leader was never made ready has no place, and no number above its own is of one
-- of its pages, be it broken too.
pub record Unready (sizes : Sizes) (log : Log) (placed : ℕ → Bool) (core : Core) : Type 0 where
  pub breaking : (by number : ℕ) → (core.passes by).control ≡ BreakEntry number → IsOneOf (core.passes by).faulted (fault_of (core.passes by))
  pub broken : (number : ℕ) → InWindow core number → entry_word_at sizes core number ≡ broken → IsOfFault core (log.group number)
  pub unplaced : (number : ℕ) → IsUnready sizes log core number → placed number ≡ false
  pub apart : (number other : ℕ) → IsUnready sizes log core number → InWindow core other → number + (log.group number).entries ≤ other
      → IsPage sizes (log.group number).call (page_of_number sizes (log.group other) other) → ⊥
