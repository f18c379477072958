-- Opening words: the words that a mount begins with, in the order of their places.
use Rattle.std.specs.Prelude.{◌≡◌, ℕ, ◌<◌, List, [], length, slice_index}
use Rattle.nv_core.specs.state.Words.{Sizes}
use Rattle.nv_core.specs.steps.Opening.{Mount, opening_word}
use Rattle.nv_table.specs.state.Layout.{word_total, word_of_place}
use Rattle.nv_table.specs.state.Opened.{mount_of}

-- a mount of these sizes, next number and lengths, as far as its words go
abbrev pub worded : Sizes → (next : ℕ) → (lengths : List ℕ) → Mount
worded sizes next lengths = mount_of record { sizes = sizes; next = next; lengths = lengths; slots = [] }

-- There are as many as the mount has places, and the one at each place is that of the opening.
pub record AreOpeningWords (sizes : Sizes) (next : ℕ) (lengths words : List ℕ) : Type 0 where
  pub count : length words ≡ word_total sizes
  pub each : (place : ℕ) → place < word_total sizes → slice_index words place ≡ opening_word (worded sizes next lengths) (word_of_place sizes place)
