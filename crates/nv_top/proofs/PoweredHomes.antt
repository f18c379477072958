-- Powered homes: what a power failure leaves of the stores of other names, and of what the cells of a run kept.
use Rattle.std.proofs.Common.{◌≡◌, ◌<◌, ◌≤◌, ◌+◌, ℕ, Bool, true, false, zero, suc, All, List, [], ◌∷◌, ◌++◌, Some, length, map, drop, get_or, replicate, refl, sym, ap, ◌∙◌, arith}
use Rattle.std.specs.Prelude.{if◌then◌else◌, nat_eq}
use Rattle.std.specs.Cmp.Lexicographic.{other_text}
use Rattle.std.proofs.lemmas.List.{append-nil, ext_get_or, get_or-replicate, length-drop, length-map, length-replicate}
use Rattle.std.proofs.lemmas.List.Elements.{All-cons, All-head, All-nil, All-tail}
use lib.Pointwise.{pointwise}
use Rattle.nv_pmem.specs.Draws.{Draws}
use Rattle.nv_pmem.specs.Part.{Part}
use Rattle.nv_pmem.specs.Picked.{picked}
use Rattle.nv_pmem.specs.Room.{Room}
use Rattle.nv_pmem.specs.RowStates.{IsNow}
use Rattle.nv_pmem.specs.Steps.{PartHistory}
use Rattle.nv_pmem.proofs.PickedLaws.{length-picked}
use Rattle.nv_store.specs.Images.{IsStoreImage}
use Rattle.nv_store.specs.Picked.{draws_after, picked_image}
use Rattle.nv_store.specs.Steps.{StoreHistory}
use Rattle.nv_store.specs.Store.{IsQuietStore, IsWholeStore, Store, quiet_store}
use Rattle.nv_store.proofs.ImageLaws.{image_of_quiet, picked_is_image}
use Rattle.nv_bench.specs.Holding.{NamedStore, is_named, named_stores, store_of, without_store}
use Rattle.nv_bench.specs.Powered.{powered_parts, powered_stores, stores_left}
use Rattle.nv_bench.proofs.StoreLaws.{named_left}
use Rattle.nv_core.specs.content.StorePages.{store_of_value}
use Rattle.nv_core.specs.log.Written.{IsPart}
use Rattle.nv_core.specs.state.Values.{Bare, Value}
use Rattle.nv_open.specs.Lending.{without_stores}
use Rattle.nv_open.specs.Unopened.{line_counts}
use Rattle.nv_open.proofs.Homes.{NotNamed}
use Rattle.nv_table.specs.state.SlotValues.{part_value, present, store_value}

-- ---- parts

-- power leaves as many
pub powered_many : (draws : Draws) (parts : List Part) → length (powered_parts draws parts).0 ≡ length parts
unfolding powered_parts
powered_many draws [] = refl
powered_many draws (part ∷ parts) = ap suc (powered_many (picked draws part).1 parts)

-- and as many lines of each
pub powered_lines : (draws : Draws) (parts : List Part) → line_counts (powered_parts draws parts).0 ≡ line_counts parts
unfolding powered_parts
powered_lines draws [] = refl
powered_lines draws (part ∷ parts) =
    ap (λ (n : ℕ). n ∷ line_counts (powered_parts (picked draws part).1 parts).0) (length-picked draws part) ∙ ap (λ (counts : List ℕ). length part ∷ counts) (powered_lines (picked draws part).1 parts)

-- parts of which those behind the first so many show some values
pub parts_counted : {X : Type 0} (shown : X → Value) (parts : List X) (count : ℕ) (spare : List Value) → count ≤ length parts → map shown (drop count parts) ≡ spare → length parts ≡ count + length spare
parts_counted shown parts count spare least same =
    let behind = length-drop count parts in
    let all = sym (length-map (drop count parts) shown) ∙ ap (λ (values : List Value). length values) same in
    omega (arith, least, behind, all)

-- ---- quiet stores

-- an image of a quiet store, made durable, is that store
quiet_again : (store : Store) (bytes : List ℕ) → IsWholeStore store → IsQuietStore store → IsStoreImage store bytes → quiet_store bytes ≡ store
quiet_again store bytes whole quiet image =
    let flags : replicate (length store.seen) false ≡ store.unsynced =
    ext_get_or false (replicate (length store.seen) false) store.unsynced (length-replicate {A = Bool} (length store.seen) false ∙ sym whole.flags)
    (λ i inside. get_or-replicate (length store.seen) i false false (let long = length-replicate {A = Bool} (length store.seen) false in omega (arith, inside, long)) ∙ sym (quiet.none i)) in
    let made : quiet_store store.seen ≡ store = λ i. record { seen = store.seen; durable = sym quiet.durable i; unsynced = flags i } in
    ap quiet_store (image_of_quiet store bytes quiet image) ∙ made

all_left : {X : Type 0} (P : X → Type 0) (xs ys : List X) → All P (xs ++ ys) → All P xs
all_left P [] ys all = All-nil P
all_left P (x ∷ xs) ys all = All-cons P x xs (All-head P x (xs ++ ys) all) (all_left P xs ys (All-tail P x (xs ++ ys) all))

abbrev IsStill : NamedStore → Type 0
IsStill named = IsQuietStore named.store

abbrev IsSound : NamedStore → Type 0
IsSound named = IsWholeStore named.store

-- quiet stores in front stay as they are
powered_behind : (draws : Draws) (home given : List NamedStore) → All IsSound home → All IsStill home → (later : Draws) × (powered_stores draws (home ++ given) ≡ home ++ powered_stores later given)
unfolding powered_stores
powered_behind draws [] given whole still = (draws, refl)
powered_behind draws (first ∷ home) given whole still =
    let one : quiet_store (picked_image first.store draws) ≡ first.store =
    quiet_again first.store (picked_image first.store draws) (All-head IsSound first home whole) (All-head IsStill first home still) (picked_is_image first.store draws (All-head IsSound first home whole)) in
    let rest = powered_behind (draws_after first.store draws) home given (All-tail IsSound first home whole) (All-tail IsStill first home still) in
    let again : NamedStore → List NamedStore → List NamedStore = λ named others. named ∷ others in (
      rest.0,
      ap (λ (store : Store). again (record { name = first.name; store = store }) (powered_stores (draws_after first.store draws) (home ++ given))) one ∙ ap (again first) rest.1,
    )

-- ---- the stores of other names

own_again : (name : List ℕ) → pointwise nat_eq name name ≡ true
own_again name = by (pointwise nat_eq name name) refl
  where
    by : (b : Bool) → pointwise nat_eq name name ≡ b → pointwise nat_eq name name ≡ true
    by true is = is
    by false is = absurd (other_text name name (sym is) refl)

without_first : (name : List ℕ) (home : List NamedStore) (store : Store) (rest : List NamedStore) → All (NotNamed name) home → without_store name (home ++ record { name = name; store = store } ∷ rest) ≡ home ++ rest
without_first name [] store rest away =
    let own : NamedStore = record { name = name; store = store } in
    ap (λ (is : Bool). if is then rest else own ∷ without_store name rest) (own_again name)
without_first name (first ∷ home) store rest away =
    let all = home ++ record { name = name; store = store } ∷ rest in
    ap (λ (is : Bool). if is then all else first ∷ without_store name all) (All-head (NotNamed name) first home away)
    ∙ ap (λ others. first ∷ others) (without_first name home store rest (All-tail (NotNamed name) first home away))

-- those in front of the stores of these names
all_without : (names : List (List ℕ)) (home : List NamedStore) (stores : List Store) → length names ≡ length stores → All (λ name. All (NotNamed name) home) names → without_stores names (home ++ named_stores names stores) ≡ home
all_without [] home stores long away = append-nil home
all_without (name ∷ names) home [] long away = absurd (omega (arith, long))
all_without (name ∷ names) home (store ∷ stores) long away =
    ap (without_stores names) (without_first name home store (named_stores names stores) (All-head (λ name. All (NotNamed name) home) name names away))
    ∙ all_without names home stores (omega (arith, long)) (All-tail (λ name. All (NotNamed name) home) name names away)

left_many : (draws : Draws) (stores : List Store) → length (stores_left draws stores).0 ≡ length stores
unfolding stores_left
left_many draws [] = refl
left_many draws (store ∷ stores) = ap suc (left_many (draws_after store draws) stores)

-- Power leaves the stores of other names as they are, where they are quiet.
pub others_left : (draws : Draws) (names : List (List ℕ)) (home : List NamedStore) (stores : List Store) → length names ≡ length stores → All (λ name. All (NotNamed name) home) names
    → All IsSound (home ++ named_stores names stores) → All IsStill home → without_stores names (powered_stores draws (home ++ named_stores names stores)) ≡ home
others_left draws names home stores long away whole still =
    let given = named_stores names stores in
    let behind = powered_behind draws home given (all_left IsSound home given whole) still in
    ap (without_stores names) (behind.1 ∙ ap (λ these. home ++ these) (sym (named_left behind.0 names stores)))
    ∙ all_without names home (stores_left behind.0 stores).0 (long ∙ sym (left_many behind.0 stores)) away

-- so is a store that a name finds
pub found_powered : (draws : Draws) (name : List ℕ) (stores : List NamedStore) → All IsSound stores → IsQuietStore (store_of name stores) → store_of name (powered_stores draws stores) ≡ store_of name stores
unfolding powered_stores
found_powered draws name [] whole quiet = refl
found_powered draws name (first ∷ rest) whole quiet = by (is_named name first) quiet (found_powered (draws_after first.store draws) name rest (All-tail IsSound first rest whole))
  where
    by : (is : Bool) → IsQuietStore (if is then first.store else store_of name rest)
        → (IsQuietStore (store_of name rest) → store_of name (powered_stores (draws_after first.store draws) rest) ≡ store_of name rest)
        → (if is then quiet_store (picked_image first.store draws) else store_of name (powered_stores (draws_after first.store draws) rest)) ≡ (if is then first.store else store_of name rest)
    by true quiet again =
        quiet_again first.store (picked_image first.store draws) (All-head IsSound first rest whole) quiet (picked_is_image first.store draws (All-head IsSound first rest whole))
    by false quiet again = again quiet

-- ---- what cells show of devices that tell

pub part_shown : {L : Type 0} (device : L → ℕ) (history : L → PartHistory) (faults : L → ℕ) (room : L → Room) (items : List L) (slot : ℕ) (now : Part) → slot < length (map history items)
    → IsNow (get_or (map history items) slot []) now → IsPart (get_or (map (part_value device history faults room) items) slot Bare) now
part_shown device history faults room [] slot now inside is = absurd (omega (arith, inside))
part_shown device history faults room (item ∷ items) zero now inside is = ap present is.is
part_shown device history faults room (item ∷ items) (suc slot) now inside is = part_shown device history faults room items slot now (omega (arith, inside)) is

pub store_shown : {B : Type 0} (device : B → ℕ) (history : B → StoreHistory) (faults : B → ℕ) (items : List B) (file : ℕ) (now : Store) → file < length (map history items)
    → IsNow (get_or (map history items) file []) now → store_of_value (get_or (map (store_value device history faults) items) file Bare) ≡ Some now
store_shown device history faults [] file now inside is = absurd (omega (arith, inside))
store_shown device history faults (item ∷ items) zero now inside is = ap present is.is
store_shown device history faults (item ∷ items) (suc file) now inside is = store_shown device history faults items file now (omega (arith, inside)) is
