-- Images that stand for the same files.
use Rattle.std.specs.Prelude.{◌≡◌, ◌≢◌, ◌⊎◌, ◌↔◌, ℕ, ◌+◌, ◌<◌, ◌≤◌}
use Rattle.nv_plain.specs.Images.{Image, header_of, entry_at}

-- Two images say the same of the log: their headers and entries are alike, but for commit words that commit nothing.
pub record SayTheSame (image other : Image) : Type 0 where
  pub header : (line word : ℕ) → other 0 line word ≡ image 0 line word
  pub words : (part line word : ℕ) → 1 ≤ part → (line ≢ 0) ⊎ (word ≢ 0) → other part line word ≡ image part line word
  pub commits : (number : ℕ) → (header_of image).tail ≤ number → number < (header_of image).tail + (header_of image).entries
      → ((entry_at other number).commit ≡ number + 1) ↔ ((entry_at image number).commit ≡ number + 1)
