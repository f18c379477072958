-- Telling: devices that tell what they hold.
use Rattle.std.specs.Prelude.{◌≡◌, ◌<◌, ◌↔◌, List, length, All}
use Rattle.nv_pmem.specs.RowStates.{AreNow}
use Rattle.nv_store.specs.Steps.{StoreHistory}
use Rattle.nv_store.specs.Store.{Store}

-- each of these devices tells
abbrev pub AllTell : {S : Type 0} → List (List S) → Type 0
AllTell row = All (λ history. 0 < length history) row

-- A row of stores has present states where all of them tell, and nowhere else;
abbrev pub TellingStoresHaveStates : Type 0
TellingStoresHaveStates = (row : List StoreHistory) → AllTell row ↔ ((states : List Store) × AreNow row states)

-- and it has no others.
abbrev pub StoresHaveOneState : Type 0
StoresHaveOneState = (row : List StoreHistory) (one other : List Store) → AreNow row one → AreNow row other → one ≡ other
