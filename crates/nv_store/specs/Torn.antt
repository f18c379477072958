-- Torn writes: what a write that failed may leave.
use Rattle.std.specs.Prelude.{◌≡◌, ℕ, ◌≤◌, ◌⊎◌, List, ◌∷◌, length, take}
use Rattle.nv_plain.specs.Files.{overwritten}
use Rattle.nv_store.specs.Store.{Store, marked}
use Rattle.nv_store.specs.Steps.{StoreHistory}

-- A write of so many bytes is torn where any bytes came in their place, up to any length from the old one on. The part of
-- the range below that length is then written and not yet durable, whatever came.
pub record IsTorn (at count : ℕ) (old new : Store) : Type 0 where
  pub bytes : List ℕ
  pub many : length bytes ≡ count
  pub no_shorter : length old.seen ≤ length new.seen
  pub seen : new.seen ≡ take (length new.seen) (overwritten old.seen at bytes)
  pub durable : new.durable ≡ old.durable
  pub unsynced : new.unsynced ≡ marked at count (length new.seen) old.unsynced

-- The least that a torn write leaves: what there was of the range counts as written.
abbrev pub with_marks : ℕ → ℕ → Store → Store
with_marks at count store =
    record { seen = store.seen; durable = store.durable; unsynced = marked at count (length store.seen) store.unsynced }

-- the states go on by one more, in which a write to the present one is torn
pub record Tore (at count : ℕ) (old new : StoreHistory) : Type 0 where
  pub now : Store
  pub past : StoreHistory
  pub told : old ≡ now ∷ past
  pub next : Store
  pub torn : IsTorn at count now next
  pub states : new ≡ next ∷ old

-- a write that failed left the states as they were, or was torn
abbrev pub LeftOrTore : ℕ → ℕ → StoreHistory → StoreHistory → Type 0
LeftOrTore at count old new = (new ≡ old) ⊎ Tore at count old new
