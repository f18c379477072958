-- Devices in memory that have lost power.
use Rattle.std.proofs.Common.{◌≡◌, ℕ, ◌+◌, ◌<◌, List, [], ◌∷◌, All, length, get_or, set, map, slice_index_or, zero, suc, arith}
use Rattle.std.proofs.lemmas.List.Elements.{All-cons, All-head, All-tail}
use Rattle.nv_pmem.specs.Images.{IsQuietPart}
use Rattle.nv_pmem.specs.MemPart.{part_history, part_now, part_room}
use Rattle.nv_pmem.specs.Part.{Part}
use Rattle.nv_pmem.specs.Rows.{RowTells, AreQuiet}
use Rattle.nv_pmem.specs.declared.mem_part.MemPart.{MemPart}
use Rattle.nv_pmem.proofs.ImageLaws.{quiet_blank}
use Rattle.nv_pmem.proofs.RowLaws.{row_tells_more}
use Rattle.nv_store.specs.MemStore.{store_history, store_now}
use Rattle.nv_store.specs.Store.{IsQuietStore}
use Rattle.nv_store.specs.declared.mem_store.MemStore.{MemStore}
use Rattle.nv_recover.specs.Standing.{AreQuietStores}

-- a part that has
pub record HasLostPower (part : MemPart) : Type 0 where
  pub quiet : IsQuietPart (part_now part)
  pub spare : (line : ℕ) → (part_room part).spare line ≡ 15

-- a store that has
abbrev pub StoreHasLostPower : MemStore → Type 0
StoreHasLostPower store = IsQuietStore (store_now store)

-- the first so many of a list have a property
abbrev pub First : {X : Type 0} → (X → Type 0) → ℕ → List X → Type 0
First {X} P count xs = (i : ℕ) (none : X) → i < count → P (get_or xs i none)

-- and then one more
pub first_more : {X : Type 0} (P : X → Type 0) (xs : List X) (at : ℕ) (x : X) → at < length xs → P x → First P at xs → First P (at + 1) (set xs at x)
first_more P [] at x inside holds front i none below = absurd (omega arith)
first_more P (y ∷ ys) zero x inside holds front zero none below = holds
first_more P (y ∷ ys) zero x inside holds front (suc i) none below = absurd (omega arith)
first_more P (y ∷ ys) (suc at) x inside holds front zero none below = front 0 none (omega arith)
first_more P (y ∷ ys) (suc at) x inside holds front (suc i) none below =
    first_more P ys at x (omega arith) holds (λ k d before. front (suc k) d (omega arith)) i none (omega arith)

quiet_nothing : (i : ℕ) → IsQuietPart (slice_index_or [] i [])
quiet_nothing i = record { lines = λ line. quiet_blank }

quiet_more : (now : Part) (others : List Part) → IsQuietPart now → AreQuiet others → (i : ℕ) → IsQuietPart (slice_index_or (now ∷ others) i [])
quiet_more now others quiet are zero = quiet
quiet_more now others quiet are (suc i) = are.each i

-- parts that have lost power are quiet
pub quiet_row : (parts : List MemPart) → All HasLostPower parts → RowTells (map part_history parts) AreQuiet
quiet_row [] lost = record { each = quiet_nothing }
quiet_row (part ∷ parts) lost =
    row_tells_more (map part_history parts) AreQuiet (λ others. AreQuiet (part_now part ∷ others))
    (λ others are. record { each = quiet_more (part_now part) others (All-head HasLostPower part parts lost).quiet are })
    (quiet_row parts (All-tail HasLostPower part parts lost))

-- and so are stores
pub quiet_stores : (stores : List MemStore) → All StoreHasLostPower stores → RowTells (map store_history stores) AreQuietStores
quiet_stores [] lost = λ i none below. absurd (omega arith)
quiet_stores (store ∷ stores) lost =
    row_tells_more (map store_history stores) AreQuietStores (λ others. AreQuietStores (store_now store ∷ others))
    (λ others are. All-cons IsQuietStore (store_now store) others (All-head StoreHasLostPower store stores lost) are)
    (quiet_stores stores (All-tail StoreHasLostPower store stores lost))
