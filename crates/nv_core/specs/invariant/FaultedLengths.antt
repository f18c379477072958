-- Broken lengths: what became of the length of a file that a broken write was to make longer.
use Rattle.std.specs.Prelude.{◌≡◌, ℕ, ◌+◌, ◌<◌, true}
use Rattle.nv_core.specs.state.Words.{SIZE}
use Rattle.nv_core.specs.state.Passes.{Fault, IsOneOf, file_of, at_of, len_of, is_write, times}
use Rattle.nv_core.specs.state.Core.{Core}
use Rattle.nv_core.specs.invariant.FaultedWrites.{HasChecked}

-- a broken write that was to make its file longer: it ends past the LENGTH that it had loaded
abbrev pub IsExtending : Fault → Type 0
IsExtending fault = (is_write fault.call ≡ true) × (fault.length < at_of fault.call + len_of fault.call)

-- A pass that has loaded STOP as 0 holds no SIZE of a file that a broken write was to make longer. No two broken writes were to make one file longer.
pub record BrokenLengths (core : Core) : Type 0 where
  pub files : (number other : ℕ) (fault : Fault) → IsOneOf (core.passes number).faulted fault → IsExtending fault
      → HasChecked (core.passes other).control → times (SIZE (file_of fault.call)) (core.passes other).owned ≡ 0
  pub one : (number other : ℕ) (fault more : Fault) → IsOneOf (core.passes number).faulted fault → IsOneOf (core.passes other).faulted more
      → IsExtending fault → IsExtending more → file_of fault.call ≡ file_of more.call → number ≡ other
