-- Closed files: what the stores of a mount that is closed read as, where its log is empty.
use Rattle.std.specs.Prelude.{◌≡◌, ℕ, ◌<◌, List, [], ◌++◌, slice_index_or}
use Rattle.nv_plain.specs.Files.{Files}
use Rattle.nv_plain.specs.Made.{after_calls, made_calls}
use Rattle.nv_store.specs.Steps.{StoreHistory}
use Rattle.nv_core.specs.state.Words.{HEAD, TAIL, STORE}
use Rattle.nv_core.specs.content.Content.{Opens}
use Rattle.nv_core.specs.log.LivePieces.{store_files, to_place}
use Rattle.nv_core.specs.log.LogContent.{OpensLog}
use Rattle.nv_core.specs.content.StorePages.{store_of_value}
use Rattle.nv_table.specs.state.SlotValues.{present}
use Rattle.nv_table.specs.state.Opened.{mount_of, state_of}
use Rattle.nv_table.specs.state.Views.{PassView, values_of}
use Rattle.nv_mount.specs.LoneWords.{word_then}
use Rattle.nv_mount.specs.WholeRuns.{history_then}

-- The state as pass 0 saw it last has a tail; where no number is in the log, the stores are the files after the history and the writes that are to
-- be placed.
pub record ReadAsFiles (view : PassView) (stores : List StoreHistory) (tail : ℕ) : Type 0 where
  pub tail_is : tail ≡ word_then view TAIL
  pub reads : (files : Files) (first : ℕ) → OpensLog (mount_of view.opened) first → Opens (mount_of view.opened) files → word_then view TAIL ≡ word_then view HEAD
      → after_calls (made_calls files (history_then view) ++ to_place (state_of view.opened view.run)) files ≡ store_files view.opened.sizes (values_of view)
  pub are : (file : ℕ) → file < view.opened.sizes.files → store_of_value (values_of view (STORE file)) ≡ present (slice_index_or stores file [])
