-- Stale commit words: none of an earlier turn comes back.
use Rattle.std.specs.Prelude.{◌≡◌, ◌≢◌, ℕ, ◌+◌, ◌<◌, ◌≤◌}
use Rattle.nv_core.specs.state.Words.{Sizes, free, slot_of_entry}
use Rattle.nv_core.specs.state.Core.{Core}
use Rattle.nv_core.specs.invariant.LogWindow.{InWindow, entry_word_at}
use Rattle.nv_core.specs.log.Groups.{Log}
use Rattle.nv_core.specs.log.EntryImages.{InEachImageOf}

-- a number is the leader's of a group whose leader is filling, made ready or broken
pub record LeadsGroup (sizes : Sizes) (log : Log) (core : Core) (number : ℕ) : Type 0 where
  pub within : InWindow core number
  pub leads : (log.group number).first ≡ number
  pub taken : entry_word_at sizes core number ≢ free

-- In every image of the region a commit word that is one more than a number of its slot, at or above the tail that the header has, is
-- the leader's of a group that stands there.
pub record StaleWords (sizes : Sizes) (tail : ℕ) (log : Log) (core : Core) : Type 0 where
  pub each : InEachImageOf sizes core.values (λ image.
      (slot number : ℕ) → slot < sizes.entries → slot_of_entry sizes number ≡ slot → tail ≤ number → image (1 + slot) 0 0 ≡ number + 1
      → LeadsGroup sizes log core number)
