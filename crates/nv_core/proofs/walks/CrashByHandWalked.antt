-- The images by hand are those that the crash law speaks of.
use Rattle.std.proofs.Common.{◌≡◌, ◌⊎◌, ℕ, zero, suc, ◌<◌, Bool, true, false, ◌&&◌, List, [], ◌∷◌, ◌++◌, map, replicate, Some, inl, inr, refl, sym, ap, subst, ◌∙◌, arith}
use Rattle.std.specs.Prelude.{◌+◌, slice_index}
use Rattle.nv_plain.specs.Files.{Files, contents_of}
use Rattle.nv_plain.specs.Images.{Image, Entry, entry_of, PartImage}
use Rattle.nv_plain.specs.Recovered.{recovered}
use Rattle.nv_plain.specs.declared.call.FileCall.{FileCall}
use Rattle.nv_plain.specs.declared.call.FileCall.TheVariants.{Read, Write, Sync}
use Rattle.nv_plain.specs.Made.{after_calls, made_calls}
use Rattle.nv_pmem.specs.Part.{Part, word_of, line_of, part_word, word_at, newest, stored, flushed, fenced}
use Rattle.nv_pmem.specs.Images.{IsPartImage, PowerMayLeave}
use Rattle.nv_pmem.specs.Laws as lines
use Rattle.nv_pmem.specs.Steps.{line_stores, durable_store}
use Rattle.nv_store.specs.Store.{Store, is_unsynced, durable_byte}
use Rattle.nv_store.specs.Images.{IsStoreImage}
use Rattle.nv_entry.specs.Group.{group_steps, pieces_steps, piece_steps, data_steps, entry_field_steps}
use Rattle.nv_core.specs.state.Words.{STORE, ENTRY, TAIL, HEAD}
use Rattle.nv_core.specs.steps.Events.{IsRun}
use Rattle.nv_core.specs.steps.Opening.{opening}
use Rattle.nv_core.specs.content.StorePages.{store_of_value}
use Rattle.nv_core.specs.log.Groups.{Log}
use Rattle.nv_core.specs.log.EntryImages.{IsRegionImage}
use Rattle.nv_core.specs.log.LivePieces.{call_if}
use Rattle.nv_core.specs.log.LogContent.{log_after_run, placed_after_run}
use Rattle.nv_core.specs.crash.CrashImages.{AreImagesOfStores, is_committed, added_writes, RunsSurviveCrashes}
use Rattle.nv_core.specs.walks.Walks.{walk_sizes, walk_mount, walk_bytes, walk_read, walk_write}
use Rattle.nv_core.specs.walks.WalkOpens.{walk_files, WalkOpensLog}
use Rattle.nv_core.specs.walks.CrashByHand.{walk_placed, placed_core, written_files, hand_store, hand_clean, hand_next, late_bytes, hand_late, cleaned_core, hand_events, hand_core, hand_entries, torn_files, two_files, three_files, LeavesImages, ImagesByHand}
use Rattle.nv_core.proofs.state.Choices.{not_both}
use Rattle.nv_core.proofs.walks.Walked.{walk_begins, read_is_walked, write_is_walked}
use Rattle.nv_core.proofs.walks.HandWalked.{clean_run, next_run, late_run}
use Rattle.nv_core.proofs.walks.WalkOpened.{walk_opens_files, walk_opens_region}
use Rattle.nv_core.proofs.crash.CrashRegions.{region_of, region_is}
use Rattle.nv_core.proofs.steps.RunLaws.{run_both}

-- what was last made durable
abbrev oldest_of : Part → PartImage
oldest_of part line word = (word_of (line_of part line) word).oldest

oldest_is : (part : Part) → IsPartImage part (oldest_of part)
unfolding PowerMayLeave
oldest_is part = record { lines = λ line word. (0, omega arith, refl) }

-- whatever log one begins with
abbrev any_log : Log
any_log = record { group = λ number. record { call = Sync 0; first = 0; entries = 0 }; calls = λ number. 0 }

abbrev none_placed : ℕ → Bool
none_placed number = false

-- ---- the run

placed_run : IsRun walk_sizes (opening walk_mount) walk_placed
placed_run = run_both walk_sizes (opening walk_mount) walk_read walk_write read_is_walked.is_run write_is_walked.is_run

hand_run : IsRun walk_sizes (opening walk_mount) hand_events
hand_run = run_both walk_sizes (opening walk_mount) walk_placed (hand_clean ++ (hand_next ++ hand_late)) placed_run
    (run_both walk_sizes placed_core hand_clean (hand_next ++ hand_late) clean_run (run_both walk_sizes cleaned_core hand_next hand_late next_run late_run))

hand_words : map hand_core.words (TAIL ∷ HEAD ∷ ENTRY 0 ∷ ENTRY 1 ∷ ENTRY 2 ∷ []) ≡ 0 ∷ 3 ∷ 12 ∷ 1034 ∷ 1 ∷ []
unfolding group_steps pieces_steps piece_steps data_steps entry_field_steps line_stores durable_store
hand_words = refl

hand_history : made_calls walk_files hand_core.history ≡ Read 0 0 16 ∷ Write 0 0 walk_bytes ∷ []
unfolding group_steps pieces_steps piece_steps data_steps entry_field_steps line_stores durable_store
hand_history = refl

-- ---- the stores

hand_told : store_of_value (hand_core.values (STORE 0)) ≡ Some hand_store
unfolding group_steps pieces_steps piece_steps data_steps entry_field_steps line_stores durable_store
hand_told = refl

told_store : (store : Store) → Some hand_store ≡ Some store → hand_store ≡ store
told_store store e = cc

-- the cleaner's write may have left any five bytes
any_five : (a b c d e : ℕ) → IsStoreImage hand_store (a ∷ b ∷ c ∷ d ∷ e ∷ replicate 123 97)
any_five a b c d e = record { no_shorter = omega arith; no_longer = omega arith; synced = synced }
  where
    synced : (i : ℕ) → is_unsynced hand_store i ≡ false → slice_index (a ∷ b ∷ c ∷ d ∷ e ∷ replicate 123 97) i ≡ durable_byte hand_store i
    synced zero none = absurd (not_both refl none)
    synced (suc zero) none = absurd (not_both refl none)
    synced (suc (suc zero)) none = absurd (not_both refl none)
    synced (suc (suc (suc zero))) none = absurd (not_both refl none)
    synced (suc (suc (suc (suc zero)))) none = absurd (not_both refl none)
    synced (suc (suc (suc (suc (suc i))))) none = refl

five_left : (a b c d e : ℕ) → AreImagesOfStores walk_sizes hand_core.values (record { contents = (a ∷ b ∷ c ∷ d ∷ e ∷ replicate 123 97) ∷ [] })
five_left a b c d e = record { count = refl; each = each }
  where
    each : (file : ℕ) (store : Store) → file < 1 → store_of_value (hand_core.values (STORE file)) ≡ Some store → IsStoreImage store (contents_of (record { contents = (a ∷ b ∷ c ∷ d ∷ e ∷ replicate 123 97) ∷ [] }) file)
    each zero store low told = subst (λ s. IsStoreImage s (a ∷ b ∷ c ∷ d ∷ e ∷ replicate 123 97)) (told_store store (sym hand_told ∙ told)) (any_five a b c d e)
    each (suc file) store low told = absurd (omega (arith, low))

-- ---- the region

-- the third write's commit word is the newest value of its word, and not the oldest
newest_entries : map (λ slot. entry_of (region_of part_word hand_core.values (1 + slot))) (0 ∷ 1 ∷ 2 ∷ []) ≡ hand_entries 3
unfolding group_steps pieces_steps piece_steps data_steps entry_field_steps line_stores durable_store newest stored flushed fenced word_at
newest_entries = refl

oldest_entries : map (λ slot. entry_of (region_of oldest_of hand_core.values (1 + slot))) (0 ∷ 1 ∷ 2 ∷ []) ≡ hand_entries 0
unfolding group_steps pieces_steps piece_steps data_steps entry_field_steps line_stores durable_store newest stored flushed fenced word_at
oldest_entries = refl

newest_commits : is_committed walk_sizes (region_of part_word hand_core.values) 2 ≡ true
unfolding group_steps pieces_steps piece_steps data_steps entry_field_steps line_stores durable_store newest stored flushed fenced word_at
newest_commits = refl

oldest_commits : is_committed walk_sizes (region_of oldest_of hand_core.values) 2 ≡ false
unfolding group_steps pieces_steps piece_steps data_steps entry_field_steps line_stores durable_store newest stored flushed fenced word_at
oldest_commits = refl

-- ---- the law

-- the calls that an image stands for, by whether the third write is committed in it
abbrev hand_calls_left : Bool → List FileCall
hand_calls_left test = Read 0 0 16 ∷ Write 0 0 walk_bytes ∷ Write 0 64 walk_bytes ∷ (call_if (test && true) (Write 0 3 late_bytes) ++ [])

abbrev hand_log : Log
hand_log = log_after_run walk_sizes (opening walk_mount) hand_events any_log

abbrev hand_placed : ℕ → Bool
hand_placed = placed_after_run walk_sizes (opening walk_mount) hand_events none_placed

hand_added : (image : Image) → made_calls walk_files hand_core.history ++ added_writes walk_sizes hand_log hand_placed hand_core image ≡ hand_calls_left (is_committed walk_sizes image 2)
unfolding group_steps pieces_steps piece_steps data_steps entry_field_steps line_stores durable_store
hand_added image = refl

two_left : after_calls (hand_calls_left false) walk_files ≡ two_files
two_left = refl

three_left : after_calls (hand_calls_left true) walk_files ≡ three_files
three_left = refl

module _ (survive : RunsSurviveCrashes) (opens : WalkOpensLog) where
  recovers : (image : Image) (bytes : Files) (test : Bool) → IsRegionImage walk_sizes hand_core.values image → AreImagesOfStores walk_sizes hand_core.values bytes → is_committed walk_sizes image 2 ≡ test
      → (recovered image bytes).files ≡ after_calls (hand_calls_left test) walk_files
  recovers image bytes test is left commits =
      (survive walk_mount walk_files ((97 ∷ []) ∷ []) any_log none_placed hand_events walk_begins opens walk_opens_files.stores walk_opens_region hand_run image bytes is left).files
      ∙ ap (λ calls. after_calls calls walk_files) (hand_added image) ∙ ap (λ one. after_calls (hand_calls_left one) walk_files) commits

  one_of_two : (image : Image) (bytes : Files) (test : Bool) → IsRegionImage walk_sizes hand_core.values image → AreImagesOfStores walk_sizes hand_core.values bytes → is_committed walk_sizes image 2 ≡ test
      → ((recovered image bytes).files ≡ two_files) ⊎ ((recovered image bytes).files ≡ three_files)
  one_of_two image bytes false is left commits = inl (recovers image bytes false is left commits ∙ two_left)
  one_of_two image bytes true is left commits = inr (recovers image bytes true is left commits ∙ three_left)

  leaves : (leave : Part → PartImage) (bytes files : Files) (entries : List Entry) (test : Bool) → ((part : Part) → IsPartImage part (leave part)) → AreImagesOfStores walk_sizes hand_core.values bytes
      → map (λ slot. entry_of (region_of leave hand_core.values (1 + slot))) (0 ∷ 1 ∷ 2 ∷ []) ≡ entries → is_committed walk_sizes (region_of leave hand_core.values) 2 ≡ test
      → after_calls (hand_calls_left test) walk_files ≡ files → LeavesImages (region_of leave hand_core.values) bytes entries files
  leaves leave bytes files entries test each left say commits stand =
      let is : IsRegionImage walk_sizes hand_core.values (region_of leave hand_core.values) = region_is walk_sizes leave each hand_core.values in
      record { region = is; stores = left; entries_are = say; recovers = recovers (region_of leave hand_core.values) bytes test is left commits ∙ stand }

  pub images_are_by_hand : lines.LoadsAreAnImage → ImagesByHand
  images_are_by_hand loads = record {
    is_run = hand_run;
    words = hand_words;
    unplaced = hand_history;
    each = λ image bytes is left. one_of_two image bytes (is_committed walk_sizes image 2) is left refl;
    old = (region_of oldest_of hand_core.values, leaves oldest_of walk_files two_files (hand_entries 0) false oldest_is (five_left 97 97 97 97 97) oldest_entries oldest_commits two_left);
    new = (region_of oldest_of hand_core.values, leaves oldest_of written_files two_files (hand_entries 0) false oldest_is (five_left 1 2 3 4 5) oldest_entries oldest_commits two_left);
    torn = (region_of part_word hand_core.values, leaves part_word torn_files three_files (hand_entries 3) true loads (five_left 1 2 0 0 0) newest_entries newest_commits three_left);
  }
