-- Steps: what the calls of a store do, one after another, and the states that it has had.
use Rattle.std.specs.Prelude.{ℕ, List, length}
use Rattle.nv_plain.specs.Files.{overwritten}
use Rattle.nv_pmem.specs.Runs.{Ran, grown}
use Rattle.nv_store.specs.Store.{Store, quiet_store, marked}

-- what one call does to a store
pub data StoreStep : Type 0 where
  Write : (at : ℕ) (bytes : List ℕ) → StoreStep
  Sync : StoreStep

-- The store after a step. A write changes what reads give, and a sync makes that durable.
abbrev pub after_store_step : StoreStep → Store → Store
after_store_step (Write at bytes) store =
    let seen = overwritten store.seen at bytes in
    record { seen = seen; durable = store.durable; unsynced = marked at (length bytes) (length seen) store.unsynced }
after_store_step Sync store = quiet_store store.seen

-- The states that a store has had, the present one first. It is empty for one that doesn't tell.
abbrev pub StoreHistory : Type 0
StoreHistory = List Store

-- all of the steps were made, in their order
abbrev pub DidStoreStep : List StoreStep → StoreHistory → StoreHistory → Type 0
DidStoreStep steps old new = Ran (grown after_store_step) steps old new
