-- Locks: a cell is shut exactly where one pass owns it.
use Rattle.std.specs.Prelude.{◌≡◌, ◌≢◌, ℕ, ◌≤◌, Bool, true, false}
use Rattle.nv_core.specs.state.Words.{Word, is_shut, is_lock}
use Rattle.nv_core.specs.state.Passes.{times}
use Rattle.nv_core.specs.state.Core.{Core}

-- how often each pass owns a cell
abbrev pub holds : Core → Word → ℕ → ℕ
holds core cell number = times cell (core.passes number).owned

-- one pass holds it, once, and no other does
pub record IsHeldOnce (times : ℕ → ℕ) : Type 0 where
  pub by : ℕ
  pub once : times by ≡ 1
  pub others : (number : ℕ) → number ≢ by → times number ≡ 0

-- an open cell is no pass's, a shut one in one pass's
pub record Keyed (shut : Bool) (times : ℕ → ℕ) : Type 0 where
  pub free : shut ≡ false → (number : ℕ) → times number ≡ 0
  pub held : shut ≡ true → IsHeldOnce times

-- A lock's word is 0 or 1, and each cell is keyed by its word.
pub record Locks (core : Core) : Type 0 where
  pub bit : (cell : Word) → is_lock cell ≡ true → core.words cell ≤ 1
  pub keyed : (cell : Word) → Keyed (is_shut cell (core.words cell)) (holds core cell)
