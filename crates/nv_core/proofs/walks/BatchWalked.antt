-- The batch walks are runs.
use Rattle.std.proofs.Common.{◌≡◌, Some, replicate, option_map, refl, arith}
use Rattle.nv_plain.specs.Layouts.{mount_layout}
use Rattle.nv_pmem.specs.Part.{newest, stored, flushed, fenced, word_at}
use Rattle.nv_pmem.specs.Steps.{Fence, Flush, StoreWord, line_stores, durable_store}
use Rattle.nv_store.specs.Store.{quiet_store, marked}
use Rattle.nv_store.specs.Steps.{Write as StoreWrite, after_store_step}
use Rattle.nv_entry.specs.Group.{group_steps, pieces_steps, piece_steps, data_steps, entry_field_steps}
use Rattle.nv_core.specs.state.Words.{HEADER, ENTRY}
use Rattle.nv_core.specs.state.Values.{APart}
use Rattle.nv_core.specs.steps.Order.{SaysPieceOf}
use Rattle.nv_core.specs.walks.Walks.{walk_sizes, walk_bytes, header_spares}
use Rattle.nv_core.specs.walks.DirtyWalks.{dirty_core}
use Rattle.nv_core.specs.walks.BatchWalks.{walk_batch, once_written_back, twice_written_back, moved_header, batch_core, BatchIsWalked}
use Rattle.nv_core.proofs.walks.WalkRooms.{any_stays}
use Rattle.nv_core.proofs.steps.Tabled.{come, tabled}

-- the parts of the two entries have their pieces
first_says : SaysPieceOf walk_sizes 0 walk_bytes (dirty_core.values (ENTRY 0))
unfolding group_steps pieces_steps piece_steps data_steps entry_field_steps line_stores durable_store newest stored flushed fenced word_at
first_says = (refl, refl)

second_says : SaysPieceOf walk_sizes 64 walk_bytes (dirty_core.values (ENTRY 1))
unfolding group_steps pieces_steps piece_steps data_steps entry_field_steps line_stores durable_store newest stored flushed fenced word_at
second_says = (refl, refl)

-- what the two writes to the store leave of it
first_leaves : Some once_written_back ≡ option_map (after_store_step (StoreWrite 0 walk_bytes)) (Some (quiet_store (replicate 128 97)))
unfolding marked
first_leaves = refl

second_leaves : Some twice_written_back ≡ option_map (after_store_step (StoreWrite 64 walk_bytes)) (Some once_written_back)
unfolding marked
second_leaves = refl

-- the header's part with the new tail
header_moves : batch_core.values HEADER ≡ APart record { told = Some moved_header; faults = 0; identity = 0 } header_spares
unfolding newest stored flushed fenced
header_moves = refl

pub batch_is_walked : BatchIsWalked
unfolding group_steps pieces_steps piece_steps data_steps entry_field_steps line_stores durable_store
batch_is_walked = record {
  is_run = tabled walk_sizes dirty_core walk_batch refl (come walk_sizes 0 _ _ refl (λ none. none) record { due = record { at = 0; bytes = walk_bytes; cell = refl; job = refl; says = first_says }; ends = tt; leaves = tt; here = refl }, (come walk_sizes 0 _ _ refl (λ none. none) record { due = record { at = 0; bytes = walk_bytes; left = Some once_written_back; cell = refl; job = refl; says = first_says }; ends = tt; leaves = first_leaves; here = refl }, (come walk_sizes 0 _ _ refl (λ none. none) record { due = record { at = 64; bytes = walk_bytes; cell = refl; job = refl; says = second_says }; ends = tt; leaves = tt; here = refl }, (come walk_sizes 0 _ _ refl (λ none. none) record { due = record { at = 64; bytes = walk_bytes; left = Some twice_written_back; cell = refl; job = refl; says = second_says }; ends = tt; leaves = second_leaves; here = refl }, (come walk_sizes 0 _ _ refl (λ none. none) record { due = (refl, refl); ends = tt; leaves = tt; here = refl }, (come walk_sizes 0 _ _ refl (λ none. none) record { due = record { step = StoreWord 1 0 2; there = omega arith; at = refl; cell = refl; spares = header_spares; job = refl }; ends = tt; leaves = any_stays mount_layout.header_lines (StoreWord 1 0 2) refl; here = refl }, (come walk_sizes 0 _ _ refl (λ none. none) record { due = record { step = Flush 1; there = omega arith; at = refl; cell = refl; spares = header_spares; job = refl }; ends = tt; leaves = any_stays mount_layout.header_lines (Flush 1) refl; here = refl }, (come walk_sizes 0 _ _ refl (λ none. none) record { due = record { step = Fence; there = omega arith; at = refl; cell = refl; spares = header_spares; job = refl }; ends = tt; leaves = any_stays mount_layout.header_lines Fence refl; here = refl }, tt))))))));
  words = refl;
  rests = (refl, refl);
  store = refl;
  header = header_moves;
}
