-- What contracts see of a store over a file: how often it has failed. It tells nothing.
use Rattle.std.specs.Prelude.{◌≡◌, ℕ, [], ◌∷◌}
use Rattle.nv_store.specs.declared.file_store.FileStore.{FileStore}
use Rattle.nv_store.specs.Store.{Store, IsWholeStore}
use Rattle.nv_store.specs.Steps.{StoreHistory}

module _ {F : Type 0} where
  -- A store over a file is told from others by nothing.
  abbrev pub store_device : FileStore F → ℕ
  store_device store = 0

  -- it has no states that it tells
  abbrev pub store_history : FileStore F → StoreHistory
  store_history store = []

  -- how often it has failed, up to 2^64 - 1
  abbrev pub store_faults : FileStore F → ℕ
  store_faults store = store.fault_counter

  pub store_told_whole : (store : FileStore F) (now : Store) (past : StoreHistory) → store_history store ≡ now ∷ past → IsWholeStore now
  store_told_whole store now past told = cc
