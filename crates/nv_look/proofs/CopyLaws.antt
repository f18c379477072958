-- Copies of stores: each has one state.
use Rattle.std.proofs.Common.{◌≡◌, ℕ, List, [], ◌∷◌, Vec, Global, map, refl, ap}
use Rattle.std.proofs.lemmas.List.Elements.{All-nil, All-cons}
use Rattle.nv_pmem.specs.RowStates.{AreNow}
use Rattle.nv_pmem.specs.Rows.{RowTells}
use Rattle.nv_store.proofs.StoreLaws.{quiet_is_quiet}
use Rattle.nv_store.specs.Store.{IsQuietStore, Store, quiet_store}
use Rattle.nv_store.specs.Steps.{StoreHistory}
use Rattle.nv_recover.specs.Standing.{AreQuietStores}

abbrev pub Held : Type 0
Held = Vec ℕ Global

-- the state of a copy of these bytes, and its history
abbrev pub copy_of : Held → Store
copy_of bytes = quiet_store bytes.items

abbrev pub copied : Held → StoreHistory
copied bytes = quiet_store bytes.items ∷ []

pub copies_now : (held : List Held) → AreNow (map copied held) (map copy_of held)
copies_now [] = tt
copies_now (bytes ∷ rest) = (record { past = []; is = refl }, copies_now rest)

quiet_copies : (held : List Held) → AreQuietStores (map copy_of held)
quiet_copies [] = All-nil IsQuietStore
quiet_copies (bytes ∷ rest) = All-cons IsQuietStore (copy_of bytes) (map copy_of rest) (quiet_is_quiet bytes.items) (quiet_copies rest)

tells_copies : (held : List Held) (P : List Store → Type 0) → P (map copy_of held) → RowTells (map copied held) P
tells_copies [] P is = is
tells_copies (bytes ∷ rest) P is = tells_copies rest (λ others. P (copy_of bytes ∷ others)) is

pub copies_quiet : (held : List Held) → RowTells (map copied held) AreQuietStores
copies_quiet held = tells_copies held AreQuietStores (quiet_copies held)

-- they hold the bytes
pub copies_seen : (held : List Held) → map (λ (store : Store). store.seen) (map copy_of held) ≡ map (λ (bytes : Held). bytes.items) held
copies_seen [] = refl
copies_seen (bytes ∷ rest) = ap (λ these. bytes.items ∷ these) (copies_seen rest)
