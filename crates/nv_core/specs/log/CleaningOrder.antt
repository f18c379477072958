-- Cleaning's order: what a step of a cleaner has before it.
use Rattle.std.specs.Prelude.{◌≡◌, ℕ, ◌<◌, ◌≤◌, Bool, Some}
use Rattle.nv_plain.specs.Files.{Files}
use Rattle.nv_plain.specs.Calls.{files_after}
use Rattle.nv_store.specs.Store.{Store, IsQuietStore}
use Rattle.nv_core.specs.state.Words.{Sizes, STORE, kind_of, page_of, cleaned}
use Rattle.nv_core.specs.state.Cleaner.{Batch, MoveHeaderTail, Clean, Subtract, Free}
use Rattle.nv_core.specs.state.Passes.{Cleaning}
use Rattle.nv_core.specs.steps.Ops.{ByCleaner}
use Rattle.nv_core.specs.steps.Order.{Values}
use Rattle.nv_core.specs.state.Core.{Core}
use Rattle.nv_core.specs.steps.Events.{FoundEnabled}
use Rattle.nv_core.specs.content.PagesAfter.{file_of_page}
use Rattle.nv_core.specs.content.StorePages.{store_of_value}
use Rattle.nv_core.specs.invariant.LogWindow.{InWindow, entry_word_at}
use Rattle.nv_core.specs.log.Groups.{Log}
use Rattle.nv_core.specs.log.Pieces.{page_of_number}
use Rattle.nv_core.specs.log.LivePieces.{piece_call, store_files}
use Rattle.nv_core.specs.log.Tails.{Tails}
use Rattle.nv_core.specs.log.LogContent.{LogContent}
use Rattle.nv_core.specs.invariant.Sound.{Sound}

-- An entry is returned as cleaned when its store has its piece: to write that again would change nothing.
abbrev pub NoCleanBeforeTheStore : Type 0
NoCleanBeforeTheStore =
    (sizes : Sizes) (first : Values) (opened : Files) (tails : Tails) (log : Log) (placed : ℕ → Bool) (core : Core) (by number found : ℕ)
    → Sound sizes first core → LogContent sizes first opened tails log placed core → FoundEnabled sizes by core (ByCleaner (Clean number)) found
    → files_after (piece_call sizes (log.group number) number) (store_files sizes core.values) ≡ store_files sizes core.values

-- a number of the window whose entry is cleaned, and of a page
pub record IsCleanedOn (sizes : Sizes) (core : Core) (page number : ℕ) : Type 0 where
  pub within : InWindow core number
  pub kind : kind_of (entry_word_at sizes core number) ≡ cleaned
  pub page_is : page_of (entry_word_at sizes core number) ≡ page

-- DIRTY of a page is lowered when an entry of that page is cleaned.
abbrev pub NoSubtractBeforeTheClean : Type 0
NoSubtractBeforeTheClean =
    (sizes : Sizes) (first : Values) (core : Core) (by page found : ℕ) → Sound sizes first core → FoundEnabled sizes by core (ByCleaner (Subtract page)) found
    → (number : ℕ) × IsCleanedOn sizes core page number

-- The header's tail is moved when each store that has a piece of the batch is durable.
abbrev pub NoMoveBeforeTheSync : Type 0
NoMoveBeforeTheSync =
    (sizes : Sizes) (first : Values) (opened : Files) (tails : Tails) (log : Log) (placed : ℕ → Bool) (core : Core) (by calls number : ℕ) (batch : Batch) (store : Store)
    → LogContent sizes first opened tails log placed core → (core.passes by).control ≡ Cleaning batch (MoveHeaderTail calls)
    → batch.tail ≤ number → number < batch.reached
    → store_of_value (core.values (STORE (file_of_page sizes (page_of_number sizes (log.group number) number)))) ≡ Some store → IsQuietStore store

-- An entry is freed when each image of the header has a tail above its number.
abbrev pub NoFreeBeforeTheTail : Type 0
NoFreeBeforeTheTail =
    (sizes : Sizes) (first : Values) (opened : Files) (tails : Tails) (log : Log) (placed : ℕ → Bool) (core : Core) (by number found : ℕ)
    → Sound sizes first core → LogContent sizes first opened tails log placed core → FoundEnabled sizes by core (ByCleaner (Free number)) found
    → (number < tails.least) × (tails.calls ≡ 0)
