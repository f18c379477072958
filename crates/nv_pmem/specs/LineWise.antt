-- The memory of whole lines, in which a power failure leaves one of the contents that a line had since it was last made durable. Where
-- each word is left by itself, as in this crate, what it leaves may be left too, and more.
use Rattle.std.specs.Prelude.{◌≡◌, ℕ, ◌+◌, ◌-◌, ◌≤◌, List, [], ◌∷◌, ◌++◌, length, map, drop, replicate, slice_index, slice_index_or, slice_set, Option, Some, None}
use Rattle.nv_plain.specs.Images.{PartImage}
use Rattle.nv_pmem.specs.Images.{IsPartImage}
use Rattle.nv_pmem.specs.Picked.{settled}
use Rattle.nv_pmem.specs.Runs.{run}
use Rattle.nv_pmem.specs.Steps.{LineStep, StoreWord, Flush, Fence, after_line_step}

-- ---- whole lines

-- A line: the content that was last made durable and those that it had since, oldest first; and how many of these later contents a flush
-- found, if there was one since the last fence.
pub record WholeLine : Type 0 where
  pub oldest : List ℕ
  pub later : List (List ℕ)
  pub flushed : Option ℕ

-- a line that has one content
abbrev pub whole_settled : List ℕ → WholeLine
whole_settled content = record { oldest = content; later = []; flushed = None }

-- a line that a part doesn't have is zeros
abbrev pub whole_line_of : List WholeLine → ℕ → WholeLine
whole_line_of part line = slice_index_or part line (whole_settled (replicate 8 0))

-- a content, counted from the oldest, and the newest
abbrev pub whole_content : WholeLine → ℕ → List ℕ
whole_content line count = slice_index_or (line.oldest ∷ line.later) count line.oldest

abbrev pub whole_newest : WholeLine → List ℕ
whole_newest line = slice_index_or line.later (length line.later - 1) line.oldest

-- A store appends a content: the newest with one word changed.
abbrev pub whole_stored : ℕ → ℕ → WholeLine → WholeLine
whole_stored word value line =
    let newest = whole_newest line in
    let content = slice_set (newest ++ replicate (word + 1 - length newest) 0) word value in
    record { oldest = line.oldest; later = line.later ++ content ∷ []; flushed = line.flushed }

-- A flush notes the newest content, and a fence makes it the oldest possible one.
abbrev pub whole_flushed : WholeLine → WholeLine
whole_flushed line = record { oldest = line.oldest; later = line.later; flushed = Some (length line.later) }

abbrev pub whole_fenced_at : WholeLine → Option ℕ → WholeLine
whole_fenced_at line None = line
whole_fenced_at line (Some count) = record {
  oldest = slice_index_or (line.oldest ∷ line.later) count (whole_newest line);
  later = drop count line.later;
  flushed = None;
}

abbrev pub whole_fenced : WholeLine → WholeLine
whole_fenced line = whole_fenced_at line line.flushed

-- a part of whole lines after a step
abbrev pub after_whole_step : LineStep → List WholeLine → List WholeLine
after_whole_step (StoreWord line word value) part = slice_set part line (whole_stored word value (whole_line_of part line))
after_whole_step (Flush line) part = slice_set part line (whole_flushed (whole_line_of part line))
after_whole_step Fence part = map whole_fenced part

-- An image of whole lines: each is left with one of its contents.
pub record IsWholeImage (part : List WholeLine) (image : PartImage) : Type 0 where
  pub lines : (line : ℕ) → (count : ℕ) × (count ≤ length (whole_line_of part line).later) × ((word : ℕ) → image line word ≡ slice_index (whole_content (whole_line_of part line) count) word)

-- ---- what it leaves and what is left of words

-- After any steps on lines that had one content each, an image of whole lines is one of words.
abbrev pub WholeImagesAreLeft : Type 0
WholeImagesAreLeft =
    (contents : List (List ℕ)) (steps : List LineStep) (image : PartImage)
    → IsWholeImage (run after_whole_step steps (map whole_settled contents)) image → IsPartImage (run after_line_step steps (map settled contents)) image

-- There is one of words that isn't one of whole lines: in a line of zeros word 0 was stored before word 1, and the later store alone is left.
abbrev pub two_stores : List LineStep
two_stores = StoreWord 0 0 1 ∷ StoreWord 0 1 2 ∷ []

pub record LaterStoreIsLeft : Type 0 where
  pub image : PartImage
  pub first : image 0 0 ≡ 0
  pub second : image 0 1 ≡ 2
  pub left : IsPartImage (run after_line_step two_stores (map settled (replicate 8 0 ∷ []))) image
  pub not_whole : ¬ (IsWholeImage (run after_whole_step two_stores (map whole_settled (replicate 8 0 ∷ []))) image)
