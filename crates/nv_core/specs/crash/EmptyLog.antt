-- Empty logs: where no number is in the log the files are in their stores; and where STOP is 0 and no pass holds a cell, all is quiet.
use Rattle.std.specs.Prelude.{◌≡◌, ℕ, ◌<◌, Bool, List, [], ◌++◌, Some}
use Rattle.nv_plain.specs.Files.{Files}
use Rattle.nv_plain.specs.Recovered.{committed}
use Rattle.nv_plain.specs.Made.{after_calls, made_calls}
use Rattle.nv_pmem.specs.Part.{Part}
use Rattle.nv_pmem.specs.Images.{IsQuietPart}
use Rattle.nv_store.specs.Store.{Store, IsQuietStore}
use Rattle.nv_core.specs.state.Words.{Sizes, STOP, HEAD, TAIL, HEADER, STORE, ENTRY}
use Rattle.nv_core.specs.steps.Order.{Values}
use Rattle.nv_core.specs.state.Core.{Core}
use Rattle.nv_core.specs.content.StorePages.{store_of_value}
use Rattle.nv_core.specs.log.LivePieces.{to_place, store_files}
use Rattle.nv_core.specs.log.Tails.{Tails}
use Rattle.nv_core.specs.log.Groups.{Log}
use Rattle.nv_core.specs.log.Written.{IsPart, IsBlankEntry}
use Rattle.nv_core.specs.log.EntryImages.{InEachImageOf}
use Rattle.nv_core.specs.log.LogContent.{LogContent}
use Rattle.nv_core.specs.crash.CrashImages.{HasRegion}
use Rattle.nv_core.specs.invariant.Sound.{Sound}

-- Where no number is in the log, the stores read as the files after the history and the writes that are placed next, whatever passes do and STOP says.
abbrev pub EmptyLogsAreStored : Type 0
EmptyLogsAreStored =
    (sizes : Sizes) (first : Values) (opened : Files) (tails : Tails) (log : Log) (placed : ℕ → Bool) (core : Core)
    → LogContent sizes first opened tails log placed core → core.words TAIL ≡ core.words HEAD
    → after_calls (made_calls opened core.history ++ to_place core) opened ≡ store_files sizes core.values

-- the log is empty, nothing has failed, and no pass holds a cell
pub record IsLogEmpty (core : Core) : Type 0 where
  pub none : core.words TAIL ≡ core.words HEAD
  pub going : core.words STOP ≡ 0
  pub idle : (by : ℕ) → (core.passes by).owned ≡ []

-- The stores read as the files after the history, and are durable. The header's part is quiet, with one tail; and so is the part of each
-- entry, in which no commit word counts. So no image of the region has a committed number.
pub record HasAllInStores (sizes : Sizes) (opened : Files) (tails : Tails) (core : Core) : Type 0 where
  pub files : after_calls (made_calls opened core.history ++ to_place core) opened ≡ store_files sizes core.values
  pub stores : (file : ℕ) (store : Store) → file < sizes.files → store_of_value (core.values (STORE file)) ≡ Some store → IsQuietStore store
  pub header : (part : Part) → IsPart (core.values HEADER) part → IsQuietPart part
  pub tail : tails.next ≡ tails.least
  pub entries : (slot : ℕ) → slot < sizes.entries → IsBlankEntry sizes (core.values (ENTRY slot)) tails.least slot
  pub committed : InEachImageOf sizes core.values (λ image. committed image ≡ [])

-- So it is of every sound state with an empty log in which the content of the log and the region are right.
abbrev pub EmptyLogsRest : Type 0
EmptyLogsRest =
    (sizes : Sizes) (first : Values) (opened : Files) (names : List (List ℕ)) (tails : Tails) (log : Log) (placed : ℕ → Bool) (core : Core)
    → Sound sizes first core → LogContent sizes first opened tails log placed core → HasRegion sizes names tails log core → IsLogEmpty core
    → HasAllInStores sizes opened tails core
