-- The header stays: but for its tail it reads in each image as at opening, and no part has more or fewer lines.
use Rattle.std.specs.Prelude.{◌≡◌, ◌≢◌, ◌⊎◌, ℕ, ◌<◌, length}
use Rattle.nv_pmem.specs.Part.{Part, part_word}
use Rattle.nv_pmem.specs.Images.{InEachPartImage, IsQuietPart}
use Rattle.nv_header.specs.Laws.{after_some_tail}
use Rattle.nv_core.specs.state.Words.{HEADER, ENTRY}
use Rattle.nv_core.specs.steps.Order.{Values}
use Rattle.nv_core.specs.log.Written.{IsPart}
use Rattle.nv_core.specs.log.Tails.{Tails}

-- The header's part is what the calls of a move that came have made of a quiet part, which has the least of these tails in its word 0 of
-- line 1.
pub record IsMovedPart (tails : Tails) (part : Part) : Type 0 where
  pub before : Part
  pub quiet : IsQuietPart before
  pub long : 1 < length before
  pub reads : part_word before 1 0 ≡ tails.least
  pub is : part ≡ after_some_tail tails.next tails.calls before

-- In every image the header's part reads as at opening but for its tail, which is one of these two. Each part has as many lines as at
-- opening.
pub record HeaderStays (first : Values) (tails : Tails) (now : Values) : Type 0 where
  pub words : (was part : Part) → IsPart (first HEADER) was → IsPart (now HEADER) part
      → InEachPartImage (λ image. (line word : ℕ) → (line ≢ 1) ⊎ (word ≢ 0) → image line word ≡ part_word was line word) part
  pub tail_is : (part : Part) → IsPart (now HEADER) part → InEachPartImage (λ image. (image 1 0 ≡ tails.least) ⊎ (image 1 0 ≡ tails.next)) part
  pub moved : (part : Part) → IsPart (now HEADER) part → IsMovedPart tails part
  pub header_lines : (was part : Part) → IsPart (first HEADER) was → IsPart (now HEADER) part → length part ≡ length was
  pub entry_lines : (slot : ℕ) (was part : Part) → IsPart (first (ENTRY slot)) was → IsPart (now (ENTRY slot)) part → length part ≡ length was
