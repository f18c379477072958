-- Fills of blocks, byte by byte.
use Rattle.std.proofs.Common.{◌≡◌, ℕ, ◌+◌, ◌-◌, ◌*◌, ◌<◌, ◌≤◌, max, List, length, replicate, get_or, inl, inr, sym, ap, ◌∙◌, arith}
use Rattle.std.proofs.lemmas.Bool.{cases_lt}
use Rattle.std.proofs.lemmas.List.{get_or-replicate, length-replicate}
use Rattle.nv_plain.specs.Files.{overwritten}
use Rattle.nv_plain.proofs.FileLemmas.{get_or-overwritten_above, get_or-overwritten_below, get_or-overwritten_inside, length-overwritten}

-- the bytes after a block is filled
abbrev pub with_block : (bytes : List ℕ) (block byte : ℕ) → List ℕ
with_block bytes block byte = overwritten bytes (96 * block) (replicate 96 byte)

-- a place lies in a block
pub record IsInBlock (block place : ℕ) : Type 0 where
  pub low : 96 * block ≤ place
  pub high : place < 96 * block + 96

long : (byte : ℕ) → length (replicate 96 byte) ≡ 96
long byte = length-replicate 96 byte

-- its own bytes are the filling one
pub filled_here : (bytes : List ℕ) (block byte place : ℕ) → IsInBlock block place → get_or (with_block bytes block byte) place 0 ≡ byte
filled_here bytes block byte place is =
    get_or-overwritten_inside bytes (replicate 96 byte) (96 * block) place is.low (omega (arith, is.high, long byte))
    ∙ get_or-replicate 96 (place - 96 * block) byte 0 (omega (arith, is.low, is.high))

-- those of another block are as they were
pub filled_there : (bytes : List ℕ) (block byte other place : ℕ) → IsInBlock other place → (block ≡ other → ⊥) → get_or (with_block bytes block byte) place 0 ≡ get_or bytes place 0
filled_there bytes block byte other place is differ = elim (cases_lt block other) [
  | inl less ↦ get_or-overwritten_above bytes (replicate 96 byte) (96 * block) place (omega (arith, is.low, less, long byte))
  | inr more ↦ elim (cases_lt other block) [
    | inl less ↦ get_or-overwritten_below bytes (replicate 96 byte) (96 * block) place (omega (arith, is.high, less))
    | inr same ↦ absurd (differ (omega (arith, more, same)))
  ]
]

-- the file reaches to the block's end
pub filled_long : (bytes : List ℕ) (block byte : ℕ) → length (with_block bytes block byte) ≡ max (length bytes) (96 * block + 96)
filled_long bytes block byte =
    let reach = length-overwritten bytes (replicate 96 byte) (96 * block) (omega (arith, long byte)) in
    reach ∙ ap (λ n. max (length bytes) (96 * block + n)) (long byte)

-- a byte tells with what its block was filled
pub same_filling : (one other : ℕ) → replicate {A = ℕ} 96 one ≡ replicate 96 other → one ≡ other
same_filling one other same = sym (get_or-replicate 96 0 one 0 (omega arith)) ∙ ap (λ (bytes : List ℕ). get_or bytes 0 0) same ∙ get_or-replicate 96 0 other 0 (omega arith)
