-- What contracts see of a store in memory.
use Rattle.std.specs.Prelude.{◌≡◌, ℕ, List, [], ◌∷◌}
use Rattle.std.proofs.Common.{subst}
use Rattle.nv_store.specs.declared.mem_store.MemStore.{MemStore}
use Rattle.nv_store.specs.Store.{Store, IsWholeStore, quiet_store}
use Rattle.nv_store.specs.Steps.{StoreHistory}
use Rattle.nv_store.specs.Disk.{disk_store}
use Rattle.nv_store.specs.Told.{told_store_history}

-- A store in memory is told from others by nothing.
abbrev pub store_device : MemStore → ℕ
store_device store = 0

-- its states, the present one first
abbrev pub store_history : MemStore → StoreHistory
store_history store = told_store_history store.told

-- its present state
abbrev pub store_now : MemStore → Store
store_now store = disk_store store.told.disk

-- how often it has failed, up to 2^64 - 1
abbrev pub store_faults : MemStore → ℕ
store_faults store = store.fault_counter

-- it holds these bytes, durable, has had no other state and has never failed
pub record IsNewStore (bytes : List ℕ) (store : MemStore) : Type 0 where
  pub history : store_history store ≡ quiet_store bytes ∷ []
  pub faults : store_faults store ≡ 0

-- the present state is whole
pub store_told_whole : (store : MemStore) (now : Store) (past : StoreHistory) → store_history store ≡ now ∷ past → IsWholeStore now
store_told_whole store now past told =
    let same : disk_store store.told.disk ≡ now = cc in subst IsWholeStore same store.told.disk.whole
