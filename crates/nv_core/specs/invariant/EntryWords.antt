-- ENTRY words: what an entry's word says.
use Rattle.std.specs.Prelude.{◌≡◌, ℕ, ◌<◌, ◌≤◌}
use Rattle.nv_plain.specs.Layouts.{mount_layout}
use Rattle.nv_core.specs.state.Words.{Sizes, Word, ENTRY, free, filling, ready, cleaned, broken, entry_word, page_total}

-- An entry that is free, being filled or broken says no more than that. One that was made ready says the page of its piece, and how many
-- entries its group has: 0 in a follower.
pub data IsEntryWord (sizes : Sizes) (word : ℕ) : Type 0 where
  SaysFree : word ≡ free → IsEntryWord sizes word
  SaysFilling : word ≡ filling → IsEntryWord sizes word
  SaysBroken : word ≡ broken → IsEntryWord sizes word
  SaysReadied : (kind count page : ℕ) → ready ≤ kind → kind ≤ cleaned → word ≡ entry_word kind count page → count ≤ mount_layout.group_limit → page < page_total sizes → IsEntryWord sizes word

pub record EntryWords (sizes : Sizes) (words : Word → ℕ) : Type 0 where
  pub each : (slot : ℕ) → IsEntryWord sizes (words (ENTRY slot))
