-- Patched pages: what a page becomes when the pieces of its entries come over it, and when that is the page after the history.
use Rattle.std.specs.Prelude.{◌≡◌, ℕ, zero, suc, ◌-◌, ◌<◌, ◌==◌, ◌&&◌, not, Bool, if◌then◌else◌, List, Some}
use Rattle.nv_plain.specs.Files.{Files}
use Rattle.nv_store.specs.Store.{Store}
use Rattle.nv_core.specs.state.Words.{Sizes, HEAD, TAIL, STORE}
use Rattle.nv_core.specs.steps.Order.{Values}
use Rattle.nv_core.specs.invariant.ControlFacts.{IsPage}
use Rattle.nv_core.specs.state.Core.{Core}
use Rattle.nv_core.specs.log.Groups.{Log}
use Rattle.nv_core.specs.log.Pieces.{page_of_number}
use Rattle.nv_core.specs.log.InFlight.{IsFlying}
use Rattle.nv_core.specs.log.LivePieces.{is_ready, is_cleaned}
use Rattle.nv_core.specs.content.PagesAfter.{page_from, file_of_page, start_of_page, page_now}
use Rattle.nv_core.specs.content.StorePages.{store_of_value}
use Rattle.nv_core.specs.content.ValidBuffers.{with_own_pieces}
use Rattle.nv_core.specs.log.Tails.{Tails}
use Rattle.nv_core.specs.log.LogContent.{LogContent}
use Rattle.nv_core.specs.invariant.Sound.{Sound}

-- the page, overwritten by the number's piece where a test holds
abbrev pub patched_by_number : Sizes → Log → (ℕ → Bool) → (page number : ℕ) → List ℕ → List ℕ
patched_by_number sizes log test page number bytes = if test number then with_own_pieces sizes (log.group number).call page bytes else bytes

-- and by those of so many numbers from one on, in rising number
abbrev pub patched_where : Sizes → Log → (ℕ → Bool) → (page from count : ℕ) → List ℕ → List ℕ
patched_where sizes log test page from zero bytes = bytes
patched_where sizes log test page from (suc count) bytes = patched_where sizes log test page (suc from) count (patched_by_number sizes log test page from bytes)

-- whether a number's entry was made ready, and is of a page
abbrev pub was_on : Sizes → Log → Core → (page number : ℕ) → Bool
was_on sizes log core page number = is_ready sizes core number && page_of_number sizes (log.group number) number == page

-- and isn't cleaned
abbrev pub is_on : Sizes → Log → Core → (page number : ℕ) → Bool
is_on sizes log core page number = (is_ready sizes core number && not (is_cleaned sizes core number)) && page_of_number sizes (log.group number) number == page

-- the page, overwritten by the pieces of its entries that aren't cleaned
abbrev pub patched_from : Sizes → Log → Core → (page from count : ℕ) → List ℕ → List ℕ
patched_from sizes log core page from count bytes = patched_where sizes log (is_on sizes log core page) page from count bytes

-- no write in flight is on a page
abbrev pub IsStill : Sizes → Core → (page : ℕ) → Type 0
IsStill sizes core page = (by : ℕ) → IsFlying (core.passes by) (core.passes by).control → IsPage sizes (core.passes by).call page → ⊥

-- a page is, after the history, the bytes of a store overwritten so by all of its entries that were made ready, and by those alone that aren't
-- cleaned
pub record IsPatched (sizes : Sizes) (opened : Files) (log : Log) (core : Core) (page : ℕ) (bytes : List ℕ) : Type 0 where
  pub all : page_now sizes opened core page ≡ patched_where sizes log (was_on sizes log core page) page (core.words TAIL) (core.words HEAD - core.words TAIL) bytes
  pub uncleaned : page_now sizes opened core page ≡ patched_from sizes log core page (core.words TAIL) (core.words HEAD - core.words TAIL) bytes

-- In a sound state in which the content of the log is right, a page with no write in flight is, after the history, its store's page as it is,
-- overwritten by the pieces of its entries.
abbrev pub PagesArePatched : Type 0
PagesArePatched =
    (sizes : Sizes) (first : Values) (opened : Files) (tails : Tails) (log : Log) (placed : ℕ → Bool) (core : Core) (page : ℕ) (store : Store)
    → Sound sizes first core → LogContent sizes first opened tails log placed core → IsStill sizes core page
    → file_of_page sizes page < sizes.files → store_of_value (core.values (STORE (file_of_page sizes page))) ≡ Some store
    → IsPatched sizes opened log core page (page_from store.seen (start_of_page sizes page) sizes.page)
