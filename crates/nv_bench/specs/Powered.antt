-- Powering off: the image of all devices that a pick names.
use Rattle.std.specs.Prelude.{List, [], ◌∷◌}
use Rattle.nv_pmem.specs.Draws.{Draws, draws_of}
use Rattle.nv_pmem.specs.Part.{Part}
use Rattle.nv_pmem.specs.Picked.{picked}
use Rattle.nv_pmem.specs.declared.picker.Pick.{Pick}
use Rattle.nv_store.specs.Picked.{picked_image, draws_after}
use Rattle.nv_store.specs.Store.{Store, quiet_store}
use Rattle.nv_bench.specs.Holding.{NamedStore, Holding}

-- parts, one after another, and the draws after them
unfoldable pub powered_parts : Draws → List Part → List Part × Draws
powered_parts draws [] = ([], draws)
powered_parts draws (part ∷ parts) =
    let one = picked draws part in
    let rest = powered_parts one.1 parts in
    (one.0 ∷ rest.0, rest.1)

-- stores, one after another
unfoldable pub powered_stores : Draws → List NamedStore → List NamedStore
powered_stores draws [] = []
powered_stores draws (named ∷ stores) =
    record { name = named.name; store = quiet_store (picked_image named.store draws) }
    ∷ powered_stores (draws_after named.store draws) stores

-- the same without their names, and the draws after them
unfoldable pub stores_left : Draws → List Store → List Store × Draws
stores_left draws [] = ([], draws)
stores_left draws (store ∷ stores) =
    let rest = stores_left (draws_after store draws) stores in
    (quiet_store (picked_image store draws) ∷ rest.0, rest.1)

-- The devices after a power failure: the parts in their order, then the stores in theirs, from one stream of draws.
abbrev pub powered : Pick → Holding → Holding
powered pick holding =
    let parts = powered_parts (draws_of pick) holding.parts in
    record { parts = parts.0; stores = powered_stores parts.1 holding.stores }
