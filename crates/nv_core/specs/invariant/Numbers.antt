-- Numbers: which passes there are.
use Rattle.std.specs.Prelude.{◌≡◌, ℕ, ◌<◌, ◌≤◌, []}
use Rattle.nv_core.specs.state.Passes.{IsOneOf, Idle, Pass}
use Rattle.nv_core.specs.state.Core.{Core}

-- a pass that isn't made yet: it has no call, holds nothing, and has called nothing
pub record IsUnborn (pass : Pass) : Type 0 where
  pub idle : pass.control ≡ Idle
  pub owned : pass.owned ≡ []
  pub mine : pass.mine ≡ []
  pub faulted : pass.faulted ≡ []
  pub left : pass.left ≡ []

-- The passes are 0 and those that were made. Those that pass 0 took in are among these, and are not 0.
pub record Numbers (core : Core) : Type 0 where
  pub unborn : (number : ℕ) → core.made < number → IsUnborn (core.passes number)
  pub ended : (number : ℕ) → IsOneOf core.ended number → (1 ≤ number) × (number ≤ core.made)
