-- A disk in memory, with the states that it has had.
use Rattle.std.specs.Prelude.{◌∷◌, map}
use Rattle.nv_store.specs.declared.told.Told.{Told}
use Rattle.nv_store.specs.Steps.{StoreHistory}
use Rattle.nv_store.specs.Disk.{disk_store}

-- its states, the present one first
abbrev pub told_store_history : Told → StoreHistory
told_store_history told = disk_store told.disk ∷ map disk_store told.past.states
