-- A disk in memory.
use Rattle.std.specs.Prelude.{ℕ, ◌≤◌, vec_capacity}
use Rattle.nv_store.specs.declared.disk.Disk.{Disk}
use Rattle.nv_store.specs.Store.{Store}

-- the store that it is
abbrev pub disk_store : Disk → Store
disk_store disk = record { seen = disk.seen.items; durable = disk.durable.items; unsynced = disk.unsynced.items }

-- it has the room for a length, and for making as much durable
pub record DiskHasRoom (len : ℕ) (disk : Disk) : Type 0 where
  pub seen : len ≤ vec_capacity disk.seen
  pub durable : len ≤ vec_capacity disk.durable
  pub unsynced : len ≤ vec_capacity disk.unsynced
