-- Stores: the bytes of a file on a disk with a page cache, and what of them is durable.
use Rattle.std.specs.Prelude.{◌≡◌, ℕ, ◌+◌, ◌≤◌, ◌&&◌, ◌||◌, nat_le, nat_lt, Bool, false, List, length, map, replicate, slice_index, slice_index_or}
use Rattle.std.specs.List.{range_with_len}

-- A store: the bytes that reads give, the bytes last made durable, and for each byte that reads give whether it was
-- written since.
pub record Store : Type 0 where
  pub seen : List ℕ
  pub durable : List ℕ
  pub unsynced : List Bool

-- a store whose bytes are all durable
abbrev pub quiet_store : List ℕ → Store
quiet_store bytes = record { seen = bytes; durable = bytes; unsynced = replicate (length bytes) false }

-- whether the byte at an offset was written since the last sync
abbrev pub is_unsynced : Store → ℕ → Bool
is_unsynced store i = slice_index_or store.unsynced i false

-- the durable byte at an offset; past the durable length, zero
abbrev pub durable_byte : Store → ℕ → ℕ
durable_byte store i = slice_index store.durable i

-- A store is whole where each byte has its flag, the durable bytes are no more than those that reads give, and a byte
-- that wasn't written since the last sync is the durable one.
pub record IsWholeStore (store : Store) : Type 0 where
  pub flags : length store.unsynced ≡ length store.seen
  pub no_longer : length store.durable ≤ length store.seen
  pub synced : (i : ℕ) → is_unsynced store i ≡ false → slice_index store.seen i ≡ durable_byte store i

-- It is quiet where no byte was written since the last sync, and reads give the durable bytes.
pub record IsQuietStore (store : Store) : Type 0 where
  pub none : (i : ℕ) → is_unsynced store i ≡ false
  pub durable : store.durable ≡ store.seen

-- whether an offset is one of so many from one on
abbrev pub is_in_range : ℕ → ℕ → ℕ → Bool
is_in_range at count i = nat_le at i && nat_lt i (at + count)

-- The flags of so many bytes after a write to a range: a byte was written since the last sync where it lies in the range,
-- or was so before.
unfoldable pub marked : ℕ → ℕ → ℕ → List Bool → List Bool
marked at count len flags = map (λ i. is_in_range at count i || slice_index_or flags i false) (range_with_len 0 len)
