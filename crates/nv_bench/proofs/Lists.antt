-- Laws about lists: names beside stores, and sums.
use Rattle.std.proofs.Common.{◌≡◌, ℕ, ◌+◌, ◌<◌, ◌≤◌, Bool, true, false, nat_eq, List, [], ◌∷◌, ◌++◌, length, map, get_or, take, drop, suc, refl, sym, ap, ◌∙◌, arith, sum_by}
use Rattle.std.specs.Prelude.{if◌then◌else◌, Option, Some, None, option_map, Result, Ok, Err, IsOk, is_ok}
use Rattle.std.specs.List.{remove, take-map, drop-map}
use lib.Pointwise.{pointwise}
use Rattle.std.proofs.lemmas.List.{drop_more, drop_all, map-append}
use Rattle.std.proofs.lemmas.List.Sums.{sum-map}
use Rattle.nv_store.specs.Store.{Store, quiet_store}
use Rattle.nv_bench.specs.Holding.{NamedStore, store_of, without_store, named_stores}
use Rattle.nv_bench.specs.Places.{place_of}

-- ---- sums

-- a sum over elements that a function can't tell from others
pub sum_by-same : {X : Type 0} (f : X → ℕ) (xs ys : List X) → map f xs ≡ map f ys → sum_by f xs ≡ sum_by f ys
sum_by-same f xs ys same = cc (sum-map f xs, sum-map f ys)

-- ---- the place of a name

test_of : {T : Type 0} (b : Bool) (x y : T) → b ≡ true → (if b then x else y) ≡ x
test_of true x y is = refl
test_of false x y is = cc

other_of : {T : Type 0} (b : Bool) (x y : T) → b ≡ false → (if b then x else y) ≡ y
other_of true x y is = cc
other_of false x y is = refl

one_later : (i : ℕ) (place : Option ℕ) → option_map (λ k. i + k) (option_map suc place) ≡ option_map (λ k. (i + 1) + k) place
one_later i None = refl
one_later i (Some k) = ap Some (omega arith)

from_none : (place : Option ℕ) → option_map (λ k. 0 + k) place ≡ place
from_none None = refl
from_none (Some k) = ap Some (omega arith)

-- A search through names that has passed the first i.
pub record Passed (name : List ℕ) (names : List (List ℕ)) (i : ℕ) : Type 0 where
  pub place : place_of name names ≡ option_map (λ k. i + k) (place_of name (drop i names))

pub passed_none : (name : List ℕ) (names : List (List ℕ)) → Passed name names 0
passed_none name names = record { place = sym (from_none (place_of name names)) }

pub passed_more : (name : List ℕ) (names : List (List ℕ)) (i : ℕ) (d : List ℕ) → i < length names → Passed name names i → pointwise nat_eq (get_or names i d) name ≡ false → Passed name names (i + 1)
passed_more name names i d inside so_far other = record {
  place =
      so_far.place ∙ ap (λ these. option_map (λ k. i + k) (place_of name these)) (drop_more names i d inside)
      ∙ ap (option_map (λ k. i + k)) (other_of (pointwise nat_eq (get_or names i d) name) (Some 0) (option_map suc (place_of name (drop (i + 1) names))) other)
      ∙ one_later i (place_of name (drop (i + 1) names));
}

pub passed_here : (name : List ℕ) (names : List (List ℕ)) (i : ℕ) (d : List ℕ) → i < length names → Passed name names i → pointwise nat_eq (get_or names i d) name ≡ true → Some i ≡ place_of name names
passed_here name names i d inside so_far this = sym (
    so_far.place ∙ ap (λ these. option_map (λ k. i + k) (place_of name these)) (drop_more names i d inside)
    ∙ ap (option_map (λ k. i + k)) (test_of (pointwise nat_eq (get_or names i d) name) (Some 0) (option_map suc (place_of name (drop (i + 1) names))) this)
    ∙ ap Some (omega arith))

pub passed_all : (name : List ℕ) (names : List (List ℕ)) (i : ℕ) → length names ≤ i → Passed name names i → None ≡ place_of name names
passed_all name names i over so_far = sym (so_far.place ∙ ap (λ these. option_map (λ k. i + k) (place_of name these)) (drop_all i names over))

-- ---- the store of a name

-- a place leads to the store, and to the others
pub record Leads (name : List ℕ) (names : List (List ℕ)) (stores : List Store) (i : ℕ) : Type 0 where
  pub inside : i < length names
  pub store : (none : Store) → store_of name (named_stores names stores) ≡ get_or stores i none
  pub others : without_store name (named_stores names stores) ≡ named_stores (remove names i) (remove stores i)

leads_more : (name first : List ℕ) (names : List (List ℕ)) (store : Store) (stores : List Store) (k : ℕ) → pointwise nat_eq first name ≡ false → Leads name names stores k → Leads name (first ∷ names) (store ∷ stores) (suc k)
leads_more name first names store stores k other leads = record {
  inside = let below = leads.inside in omega arith;
  store = λ none. other_of (pointwise nat_eq first name) store (store_of name (named_stores names stores)) other ∙ leads.store none;
  others =
      other_of (pointwise nat_eq first name) (named_stores names stores) (record { name = first; store = store } ∷ without_store name (named_stores names stores)) other
      ∙ ap (λ (rest : List NamedStore). record { name = first; store = store } ∷ rest) leads.others;
}

leads_first : (name first : List ℕ) (names : List (List ℕ)) (store : Store) (stores : List Store) → pointwise nat_eq first name ≡ true → Leads name (first ∷ names) (store ∷ stores) 0
leads_first name first names store stores this = record {
  inside = omega arith;
  store = λ none. test_of (pointwise nat_eq first name) store (store_of name (named_stores names stores)) this;
  others = test_of (pointwise nat_eq first name) (named_stores names stores) (record { name = first; store = store } ∷ without_store name (named_stores names stores)) this;
}

bool_cases : (P : Type 0) (b : Bool) → (b ≡ true → P) → (b ≡ false → P) → P
bool_cases P true so otherwise = so refl
bool_cases P false so otherwise = otherwise refl

option_cases : (P : Type 0) (place : Option ℕ) → (place ≡ None → P) → ((k : ℕ) → place ≡ Some k → P) → P
option_cases P None without with_one = without refl
option_cases P (Some k) without with_one = with_one k refl

pub place_leads : (name : List ℕ) (names : List (List ℕ)) (stores : List Store) (i : ℕ) → length names ≡ length stores → Some i ≡ place_of name names → Leads name names stores i
place_leads name [] stores i long is = cc
place_leads name (first ∷ names) [] i long is = absurd (omega (arith, long))
place_leads name (first ∷ names) (store ∷ stores) i long is =
    let rest : length names ≡ length stores = omega (arith, long) in
    bool_cases (Leads name (first ∷ names) (store ∷ stores) i) (pointwise nat_eq first name)
    (λ this.
    let here : i ≡ 0 = let e = is ∙ test_of (pointwise nat_eq first name) (Some 0) (option_map suc (place_of name names)) this in cc in
    rw here (leads_first name first names store stores this))
    (λ other.
    let later = is ∙ other_of (pointwise nat_eq first name) (Some 0) (option_map suc (place_of name names)) other in
    option_cases (Leads name (first ∷ names) (store ∷ stores) i) (place_of name names)
    (λ none. let never : Some i ≡ option_map suc None = later ∙ ap (option_map suc) none in cc)
    (λ k some.
    let here : i ≡ suc k = let e : Some i ≡ option_map suc (Some k) = later ∙ ap (option_map suc) some in cc in
    rw here (leads_more name first names store stores k other (place_leads name names stores k rest (sym some)))))

none_before : (place : Option ℕ) → None ≡ option_map suc place → None ≡ place
none_before None is = refl
none_before (Some k) is = cc

-- where the name has no place, there is no store of it
pub no_place_store : (name : List ℕ) (names : List (List ℕ)) (stores : List Store) → None ≡ place_of name names → store_of name (named_stores names stores) ≡ quiet_store []
no_place_store name [] stores is = refl
no_place_store name (first ∷ names) [] is = refl
no_place_store name (first ∷ names) (store ∷ stores) is =
    bool_cases (store_of name (named_stores (first ∷ names) (store ∷ stores)) ≡ quiet_store []) (pointwise nat_eq first name)
    (λ this. let e = is ∙ test_of (pointwise nat_eq first name) (Some 0) (option_map suc (place_of name names)) this in cc)
    (λ other.
    let later = is ∙ other_of (pointwise nat_eq first name) (Some 0) (option_map suc (place_of name names)) other in
    other_of (pointwise nat_eq first name) store (store_of name (named_stores names stores)) other
    ∙ no_place_store name names stores (none_before (place_of name names) later))

pub no_place_others : (name : List ℕ) (names : List (List ℕ)) (stores : List Store) → None ≡ place_of name names → without_store name (named_stores names stores) ≡ named_stores names stores
no_place_others name [] stores is = refl
no_place_others name (first ∷ names) [] is = refl
no_place_others name (first ∷ names) (store ∷ stores) is =
    bool_cases (without_store name (named_stores (first ∷ names) (store ∷ stores)) ≡ named_stores (first ∷ names) (store ∷ stores)) (pointwise nat_eq first name)
    (λ this. let e = is ∙ test_of (pointwise nat_eq first name) (Some 0) (option_map suc (place_of name names)) this in cc)
    (λ other.
    let later = is ∙ other_of (pointwise nat_eq first name) (Some 0) (option_map suc (place_of name names)) other in
    other_of (pointwise nat_eq first name) (named_stores names stores) (record { name = first; store = store } ∷ without_store name (named_stores names stores)) other
    ∙ ap (λ (rest : List NamedStore). record { name = first; store = store } ∷ rest) (no_place_others name names stores (none_before (place_of name names) later)))

pub named_stores-append : (names more : List (List ℕ)) (stores others : List Store) → length names ≡ length stores → named_stores (names ++ more) (stores ++ others) ≡ named_stores names stores ++ named_stores more others
named_stores-append [] more [] others long = refl
named_stores-append [] more (store ∷ stores) others long = absurd (omega (arith, long))
named_stores-append (name ∷ names) more [] others long = absurd (omega (arith, long))
named_stores-append (name ∷ names) more (store ∷ stores) others long =
    ap (λ (rest : List NamedStore). record { name = name; store = store } ∷ rest) (named_stores-append names more stores others (omega (arith, long)))

pub map-remove : {X Y : Type 0} (f : X → Y) (xs : List X) (i : ℕ) → map f (remove xs i) ≡ remove (map f xs) i
map-remove f xs i =
    map-append f (take i xs) (drop (suc i) xs)
    ∙ ap (λ front. front ++ map f (drop (suc i) xs)) (sym (take-map f i xs))
    ∙ ap (λ rest. take i (map f xs) ++ rest) (sym (drop-map f (suc i) xs))

-- what is chosen where a call went well
pub chosen_ok : {T E X : Type 0} (result : Result T E) (x y : X) → IsOk result → (if is_ok result then x else y) ≡ x
chosen_ok (Ok value) x y is = refl
chosen_ok (Err error) x y is = cc

-- one more store under its name
pub named_stores-one : {N S : Type 0} (name_of : N → List ℕ) (store_of : S → Store) (names more : List N) (stores others : List S) (one : N) (another : S) (name : List ℕ) (store : Store)
    {was : List NamedStore} → length (map name_of names) ≡ length (map store_of stores) → more ≡ names ++ one ∷ [] → others ≡ stores ++ another ∷ []
    → name_of one ≡ name → store_of another ≡ store → named_stores (map name_of names) (map store_of stores) ≡ was
    → named_stores (map name_of more) (map store_of others) ≡ was ++ record { name = name; store = store } ∷ []
named_stores-one name_of store_of names more stores others one another name store {was} long names_are stores_are name_is store_is so_far =
    ap (λ these. named_stores these (map store_of others)) (ap (map name_of) names_are ∙ map-append name_of names (one ∷ []))
    ∙ ap (λ (these : List Store). named_stores (map name_of names ++ name_of one ∷ []) these) (ap (map store_of) stores_are ∙ map-append store_of stores (another ∷ []))
    ∙ named_stores-append (map name_of names) (name_of one ∷ []) (map store_of stores) (store_of another ∷ []) long
    ∙ ap (λ (front : List NamedStore). front ++ record { name = name_of one; store = store_of another } ∷ []) so_far
    ∙ ap (λ (bytes : List ℕ). was ++ record { name = bytes; store = store_of another } ∷ []) name_is
    ∙ ap (λ (held : Store). was ++ record { name = name; store = held } ∷ []) store_is
