-- Laws about stores in memory: whole ones, and those that lose power.
use Rattle.std.proofs.Common.{◌≡◌, ℕ, List, [], ◌∷◌, map, refl, ap}
use Rattle.nv_pmem.specs.Draws.{Draws}
use Rattle.nv_pmem.specs.RowStates.{IsNow, AreNow}
use Rattle.nv_store.specs.MemStore.{store_now, store_history}
use Rattle.nv_store.specs.Picked.{picked_image, draws_after}
use Rattle.nv_store.specs.Steps.{StoreHistory}
use Rattle.nv_store.specs.Store.{Store, quiet_store}
use Rattle.nv_store.specs.declared.mem_store.MemStore.{MemStore}
use Rattle.nv_bench.specs.Holding.{NamedStore, named_stores}
use Rattle.nv_bench.specs.Powered.{powered_stores, stores_left}
use Rattle.nv_bench.proofs.Through.{through}

-- a store that loses power, and the draws after it
abbrev pub left : Draws → Store → Store × Draws
left draws store = (quiet_store (picked_image store draws), draws_after store draws)

-- stores lose power one after another
pub left_through : (draws : Draws) (stores : List Store) → through left draws stores ≡ stores_left draws stores
unfolding through stores_left
left_through draws [] = refl
left_through draws (store ∷ stores) =
    let one = left draws store in
    ap (λ (rest : List Store × Draws). let all : List Store × Draws = (one.0 ∷ rest.0, rest.1) in all) (left_through one.1 stores)

-- each keeps its name
pub named_left : (draws : Draws) (names : List (List ℕ)) (stores : List Store) → named_stores names (stores_left draws stores).0 ≡ powered_stores draws (named_stores names stores)
unfolding stores_left powered_stores
named_left draws [] stores = refl
named_left draws (name ∷ names) [] = refl
named_left draws (name ∷ names) (store ∷ stores) =
    ap (λ (rest : List NamedStore). record { name = name; store = quiet_store (picked_image store draws) } ∷ rest) (named_left (draws_after store draws) names stores)

-- a state that was put before others
pub first_of : (a b : Store) (p q : StoreHistory) → a ∷ p ≡ b ∷ q → a ≡ b
first_of a b p q same = cc

now_is : (history : StoreHistory) (now at_home : Store) (past : StoreHistory) → history ≡ at_home ∷ past → IsNow history now → now ≡ at_home
now_is history now at_home past same is = let other = is.is in cc

-- what stores in memory tell is their present state
pub are_stores : (stores : List MemStore) (now : List Store) → AreNow (map store_history stores) now → now ≡ map store_now stores
are_stores [] [] are = refl
are_stores [] (one ∷ now) are = absurd are
are_stores (store ∷ stores) [] are = absurd are
are_stores (store ∷ stores) (one ∷ now) are =
    let first : one ≡ store_now store = now_is (store_history store) one (store_now store) _ refl are.0 in
    let rest = are_stores stores now are.1 in
    cc

-- the present state of a store that had no other
pub now_of_first : (now made : Store) (past : StoreHistory) → now ∷ past ≡ made ∷ [] → now ≡ made
now_of_first now made past same = cc
