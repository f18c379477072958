-- Leaders: what an entry that was made ready, and isn't cleaned, says of its group's leader.
use Rattle.std.specs.Prelude.{◌≡◌, ◌⊎◌, ℕ, true, false}
use Rattle.nv_core.specs.state.Words.{Sizes, filling}
use Rattle.nv_core.specs.state.Core.{Core}
use Rattle.nv_core.specs.invariant.LogWindow.{InWindow, entry_word_at}
use Rattle.nv_core.specs.log.Groups.{Log}
use Rattle.nv_core.specs.log.LivePieces.{is_ready, is_cleaned}

-- The leader of such an entry was made ready too, or is still being filled: it is neither free nor broken.
pub record Leaders (sizes : Sizes) (log : Log) (core : Core) : Type 0 where
  pub each : (number : ℕ) → InWindow core number → is_ready sizes core number ≡ true → is_cleaned sizes core number ≡ false
      → (is_ready sizes core (log.group number).first ≡ true) ⊎ (entry_word_at sizes core (log.group number).first ≡ filling)
