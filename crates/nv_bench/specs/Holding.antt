-- Holdings: what the devices of a bench hold.
use Rattle.std.specs.Prelude.{ℕ, nat_eq, Bool, if◌then◌else◌, List, [], ◌∷◌, map, All}
use Rattle.std.specs.List.{zip}
use lib.Pointwise.{pointwise}
use Rattle.nv_pmem.specs.Part.{Part}
use Rattle.nv_pmem.specs.Rows.{AreQuiet}
use Rattle.nv_store.specs.Store.{Store, IsQuietStore, quiet_store}

-- a store under its name
pub record NamedStore : Type 0 where
  pub name : List ℕ
  pub store : Store

-- The devices at home: the parts of the region, and the stores, in the order in which they were made or given back.
pub record Holding : Type 0 where
  pub parts : List Part
  pub stores : List NamedStore

-- whether a store has this name
abbrev pub is_named : List ℕ → NamedStore → Bool
is_named name named = pointwise nat_eq named.name name

-- the store of a name; an empty one, where there is none
abbrev pub store_of : List ℕ → List NamedStore → Store
store_of name [] = quiet_store []
store_of name (first ∷ rest) = if is_named name first then first.store else store_of name rest

-- the other stores
abbrev pub without_store : List ℕ → List NamedStore → List NamedStore
without_store name [] = []
without_store name (first ∷ rest) = if is_named name first then rest else first ∷ without_store name rest

-- stores under their names
abbrev pub named_stores : List (List ℕ) → List Store → List NamedStore
named_stores names stores = map (λ pair. record { name = pair.0; store = pair.1 }) (zip names stores)

-- each device is quiet
pub record IsQuietHolding (holding : Holding) : Type 0 where
  pub parts : AreQuiet holding.parts
  pub stores : All (λ named. IsQuietStore named.store) holding.stores
