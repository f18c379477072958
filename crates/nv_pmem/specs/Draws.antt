-- Draws: which image a picker takes, and the words that it draws for it.
use Rattle.std.specs.Prelude.{ℕ}
use Rattle.rand_xoshiro.specs.SplitMix64.{mix_u64}
use Rattle.nv_pmem.specs.declared.picker.Pick.{Pick}
use Rattle.nv_pmem.specs.declared.picker.Pick.TheVariants.{Old, New, Torn, Mixed, Seed}

-- a pick, and the state of the SplitMix64 that draws for it
pub record Draws : Type 0 where
  pub pick : Pick
  pub state : ℕ

-- the state in which the generator begins: the seed, if there is one
abbrev pub first_state : Pick → ℕ
first_state Old = 0
first_state New = 0
first_state Torn = 0
first_state Mixed = 0
first_state (Seed state) = state

abbrev pub draws_of : Pick → Draws
draws_of pick = record { pick = pick; state = first_state pick }

-- the word that is drawn next
unfoldable pub next_word : Draws → ℕ
next_word draws = (mix_u64 draws.state).0

-- and the draws after it
unfoldable pub after_draw : Draws → Draws
after_draw draws = record { pick = draws.pick; state = (mix_u64 draws.state).1 }
