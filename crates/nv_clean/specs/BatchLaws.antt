-- Batch laws: what follows from what a whole batch tells, and what its words mean on batches written out by hand.
use Rattle.std.specs.Prelude.{◌≡◌, ◌≢◌, ℕ, ◌+◌, ◌<◌, ◌≤◌, true, false, List, [], ◌∷◌, None, Some, Result, Ok, Err, slice_index}
use Rattle.nv_plain.specs.Files.{Files, contents_of}
use Rattle.nv_plain.specs.Images.{Image}
use Rattle.nv_plain.specs.Recovered.{recovered}
use Rattle.nv_store.specs.Store.{Store}
use Rattle.nv_core.specs.content.StorePages.{store_of_value}
use Rattle.nv_core.specs.crash.CrashImages.{AreImagesOfStores}
use Rattle.nv_core.specs.crash.PersistentTail.{IsInAPiece}
use Rattle.nv_core.specs.log.EntryImages.{IsRegionImage}
use Rattle.nv_core.specs.log.Groups.{Log}
use Rattle.nv_core.specs.log.LogContent.{log_after_run}
use Rattle.nv_core.specs.state.Cleaner.{CleanerOp, TakeCleaner, Clean, Subtract, Free, MoveTail}
use Rattle.nv_core.specs.state.Cleaner as cleaner
use Rattle.nv_core.specs.state.Passes.{IsOneOf}
use Rattle.nv_core.specs.state.Words.{STOP, HEAD, TAIL, CLEANER, HEADER, STORE, ENTRY, CLEANUP}
use Rattle.nv_core.specs.steps.Opening.{opening}
use Rattle.nv_core.specs.steps.Ops.{ByCleaner}
use Rattle.nv_core.specs.walks.Walks.{walk_sizes}
use Rattle.nv_mirror.specs.PassSteps.{PassStep}
use Rattle.nv_mount.specs.LoneWords.{word_then}
use Rattle.nv_table.specs.state.Opened.{mount_of, state_of}
use Rattle.nv_table.specs.state.States.{PassState}
use Rattle.nv_table.specs.state.Views.{PassView, values_of}
use Rattle.nv_clean.specs.declared.batch.CleanRefusal.{CleanRefusal}
use Rattle.nv_clean.specs.declared.clean.Cleaned.{Cleaned}
use Rattle.nv_clean.specs.Answers.{HasEnded, tail_in, tells_stop}
use Rattle.nv_clean.specs.CleanSteps.{is_fault}
use Rattle.nv_clean.specs.Heeds.{IsHeld}
use Rattle.nv_clean.specs.Stored.{IsStored, WasOpened}
use Rattle.nv_clean.specs.WholeGroups.{AreGroups, leads_in}
use Rattle.nv_clean.specs.WordsLeft.{ArePassing, cleaned_of, held_by, lowered_of}

-- ---- whole batches

-- Where a batch tells of STOP, each later one of its pass is held up by that, or before it comes to it.
abbrev pub StoppedPassesAreHeld : Type 0
StoppedPassesAreHeld =
    (most more : ℕ) (start middle now : PassState) (first later : Result Cleaned CleanRefusal) → tells_stop first ≡ true → HasEnded most start middle first → HasEnded more middle now later
    → (refusal : CleanRefusal) × (later ≡ Err refusal) × IsHeld middle.view.opened.sizes refusal

-- One that retires something retires the whole group that it found at TAIL, and moves TAIL past it.
abbrev pub FirstGroupsAreRetired : Type 0
FirstGroupsAreRetired =
    (most : ℕ) (start now : PassState) (cleaned : Cleaned) (ended : HasEnded most start now (Ok cleaned))
    → (count : ℕ) × (leads_in start.view.opened.sizes (tail_in ended.over.steps) count ended.over.steps ≡ true) × (count ≤ cleaned.retired) × (tail_in ended.over.steps + count ≤ word_then now.view TAIL)

-- One that is refused while no device fails gives all back, cleans no entry and lowers no DIRTY.
abbrev pub RefusedBatchesCleanNothing : Type 0
RefusedBatchesCleanNothing =
    (most : ℕ) (start now : PassState) (refusal : CleanRefusal) (ended : HasEnded most start now (Err refusal)) → is_fault (Some refusal) ≡ false
    → (held_by start.view.opened.sizes ended.over.steps ≡ []) × ((page : ℕ) → (cleaned_of page ended.over.steps ≡ 0) × (lowered_of page ended.over.steps ≡ 0))

-- ---- what is stored

-- No image recovers a group from below what is stored, and each byte of a store that no piece from there on has is in each image as reads give it.
abbrev pub StoredStaysStored : Type 0
StoredStaysStored =
    (view : PassView) (below : ℕ) (files : Files) (names : List (List ℕ)) (log : Log) (image : Image) (bytes : Files) → IsStored view below → WasOpened view files names
    → IsRegionImage view.opened.sizes (values_of view) image → AreImagesOfStores view.opened.sizes (values_of view) bytes
    → ((leader : ℕ) → IsOneOf (recovered image bytes).groups leader → below ≤ leader)
    × ((file i : ℕ) (store : Store) → file < view.opened.sizes.files → store_of_value (values_of view (STORE file)) ≡ Some store
    → (IsInAPiece view.opened.sizes below (log_after_run view.opened.sizes (opening (mount_of view.opened)) view.run log) (state_of view.opened view.run) file i → ⊥)
    → slice_index (contents_of bytes file) i ≡ slice_index store.seen i)

-- ---- by hand

abbrev pub did : CleanerOp → (found : ℕ) → PassStep
did op found = record { opens = None; works = []; op = ByCleaner op; found = found }

-- A log with TAIL at 5 and HEAD at 8: a group of two, on pages 3 and 4, and behind it one of page 3. A batch of at most two cleans the first, and meets the second.
abbrev pub retiring : List PassStep
retiring =
    did (cleaner.Give CLEANER) 1
    ∷ did (cleaner.Give HEADER) 1
    ∷ did (cleaner.Give (STORE 0)) 1
    ∷ did (MoveTail 7) 5
    ∷ did (Free 6) 4100
    ∷ did (Free 5) 3092
    ∷ did (cleaner.Load (ENTRY 7)) 3082
    ∷ did (cleaner.Give (CLEANUP 4)) 1
    ∷ did (cleaner.Give (CLEANUP 3)) 1
    ∷ did (Subtract 4) 1
    ∷ did (Subtract 3) 2
    ∷ did (Clean 6) 4099
    ∷ did (Clean 5) 3091
    ∷ did (cleaner.Hold 6) 4098
    ∷ did (cleaner.Hold 5) 3090
    ∷ did (cleaner.Take (STORE 0)) 0
    ∷ did (cleaner.Take (CLEANUP 4)) 0
    ∷ did (cleaner.Take (CLEANUP 3)) 0
    ∷ did (cleaner.Load (ENTRY 6)) 4098
    ∷ did (cleaner.Load (ENTRY 5)) 3090
    ∷ did (cleaner.Load HEAD) 8
    ∷ did (cleaner.Load TAIL) 5
    ∷ did (cleaner.Load STOP) 0
    ∷ did (cleaner.Take HEADER) 0
    ∷ did (TakeCleaner 2) 0
    ∷ []

-- One that holds the group's first entry, whose store has no memory for the write; and what it does then.
abbrev pub holding : List PassStep
holding =
    did (cleaner.Hold 5) 3090
    ∷ did (cleaner.Take (STORE 0)) 0
    ∷ did (cleaner.Take (CLEANUP 4)) 0
    ∷ did (cleaner.Take (CLEANUP 3)) 0
    ∷ did (cleaner.Load (ENTRY 6)) 4098
    ∷ did (cleaner.Load (ENTRY 5)) 3090
    ∷ did (cleaner.Load HEAD) 8
    ∷ did (cleaner.Load TAIL) 5
    ∷ did (cleaner.Load STOP) 0
    ∷ did (cleaner.Take HEADER) 0
    ∷ did (TakeCleaner 2) 0
    ∷ []

abbrev pub returning : List PassStep
returning =
    did (cleaner.Give CLEANER) 1
    ∷ did (cleaner.Give HEADER) 1
    ∷ did (cleaner.Give (STORE 0)) 1
    ∷ did (cleaner.Give (CLEANUP 3)) 1
    ∷ did (cleaner.Give (CLEANUP 4)) 1
    ∷ did (cleaner.Return 5) 3091
    ∷ holding

pub record BatchesByHand : Type 0 where
  pub whole : AreGroups walk_sizes retiring 5 (2 ∷ []) 7
  pub halved : AreGroups walk_sizes retiring 5 (1 ∷ []) 6 → ⊥
  pub beyond : AreGroups walk_sizes retiring 5 [] 7 → ⊥
  pub cleaned : (cleaned_of 3 retiring ≡ 1) × (cleaned_of 4 retiring ≡ 1) × (cleaned_of 5 retiring ≡ 0)
  pub lowered : (lowered_of 3 retiring ≡ 1) × (lowered_of 4 retiring ≡ 1) × (lowered_of 5 retiring ≡ 0)
  pub changes : ArePassing retiring → ⊥
  pub held : held_by walk_sizes holding ≡ ENTRY 5 ∷ STORE 0 ∷ CLEANUP 4 ∷ CLEANUP 3 ∷ HEADER ∷ CLEANER ∷ []
  pub returned : ArePassing returning × (held_by walk_sizes returning ≡ [])
