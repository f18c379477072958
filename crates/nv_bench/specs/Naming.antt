-- Naming: the stores of a bench are told apart by their names.
use Rattle.std.specs.Prelude.{ℕ, List, [], ◌∷◌, ◌++◌, map, Contains, IfSome}
use mathlib.Core.HLevel.{Unit-prop, ¬_prop, ×_prop}
use Rattle.nv_bench.specs.Benches.{BenchState}
use Rattle.nv_bench.specs.Holding.{NamedStore}

-- no name is one of those behind it
abbrev pub AreDistinct : List (List ℕ) → Type 0
AreDistinct [] = Unit {0}
AreDistinct (first ∷ rest) = ¬ (Contains rest first) × AreDistinct rest

pub AreDistinct-prop : (names : List (List ℕ)) → IsProp (AreDistinct names)
AreDistinct-prop [] = Unit-prop
AreDistinct-prop (first ∷ rest) = ×_prop ¬_prop (AreDistinct-prop rest)

-- the names of stores
abbrev pub names_of : List NamedStore → List (List ℕ)
names_of stores = map (λ named. named.name) stores

-- no two stores of a bench, at home or lent, have the same name
abbrev pub HasDistinctStores : BenchState → Type 0
HasDistinctStores bench = IfSome bench.told (λ holding. AreDistinct (names_of holding.stores ++ bench.lent))
