use Rattle.std.proofs.Common.{◌≡◌, [], ◌∷◌, Vec, Global, ℕ, map, take}
use Rattle.nv_store.specs.MemStore.{store_history}
use Rattle.nv_store.specs.Store.{quiet_store}
use Rattle.nv_look.proofs.dry.copies_of.Given as goal

-- the first so many have their copies
abbrev pub invariant-loop-bytes : goal.invariant-loop-bytes
invariant-loop-bytes l =
    map store_history l.copies.items ≡ map (λ (bytes : Vec ℕ Global). quiet_store bytes.items ∷ []) (take l.bytes-index l.held)
