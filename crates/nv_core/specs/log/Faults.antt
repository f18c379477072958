-- Faults: what the log has of a write that a fault ended.
use Rattle.std.specs.Prelude.{◌≡◌, ◌≢◌, ℕ, ◌<◌, Bool, true, false}
use Rattle.nv_core.specs.state.Words.{Sizes, HEAD}
use Rattle.nv_core.specs.state.Passes.{Fault, IsOneOf, is_write}
use Rattle.nv_core.specs.state.Core.{Core}
use Rattle.nv_core.specs.log.Groups.{Log}
use Rattle.nv_core.specs.log.InFlight.{IsFlying}
use Rattle.nv_core.specs.log.Unready.{group_of_fault, IsUnready}

-- Its first number was drawn, the log has its group there, it has no place, it was never made ready, and no write in flight has that number.
pub record IsRecorded (sizes : Sizes) (log : Log) (placed : ℕ → Bool) (core : Core) (fault : Fault) : Type 0 where
  pub below : fault.first < core.words HEAD
  pub group : log.group fault.first ≡ group_of_fault fault
  pub unplaced : placed fault.first ≡ false
  pub unready : IsUnready sizes log core fault.first
  pub other : (by : ℕ) → IsFlying (core.passes by) (core.passes by).control → (core.passes by).first ≢ fault.first

-- So it is of each.
pub record Faults (sizes : Sizes) (log : Log) (placed : ℕ → Bool) (core : Core) : Type 0 where
  pub each : (by : ℕ) (fault : Fault) → IsOneOf (core.passes by).faulted fault → is_write fault.call ≡ true → IsRecorded sizes log placed core fault
