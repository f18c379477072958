-- Rows of devices: the present states of all, and what a store of a row shows.
use Rattle.std.proofs.Common.{◌≡◌, ℕ, ◌<◌, List, [], ◌∷◌, length, map, get_or, slice_index_or, zero, suc, refl, sym, ap, ◌∙◌, subst, arith}
use Rattle.std.proofs.lemmas.List.{length-map, get_or-map}
use Rattle.nv_pmem.specs.Moments.{Tells}
use Rattle.nv_pmem.specs.RowStates.{IsNow, AreNow, tells_at}
use Rattle.nv_store.specs.Steps.{StoreHistory}
use Rattle.nv_store.specs.Store.{Store, quiet_store}

-- each device of a row that tells has a present state
pub now_at : {S : Type 0} (row : List (List S)) (states : List S) (i : ℕ) (none : S) → AreNow row states → i < length row → IsNow (slice_index_or row i []) (slice_index_or states i none)
now_at [] states i none are inside = absurd (omega arith)
now_at (history ∷ row) [] i none are inside = absurd are
now_at (history ∷ row) (now ∷ states) zero none are inside = are.0
now_at (history ∷ row) (now ∷ states) (suc i) none are inside = now_at row states i none are.1 (omega arith)

pub length_now : {S : Type 0} (row : List (List S)) (states : List S) → AreNow row states → length states ≡ length row
length_now [] [] are = refl
length_now [] (now ∷ states) are = absurd are
length_now (history ∷ row) [] are = absurd are
length_now (history ∷ row) (now ∷ states) are = ap suc (length_now row states are.1)

-- the bytes that the stores show
abbrev pub all_seen : List Store → List (List ℕ)
all_seen = map (λ (store : Store). store.seen)

pub length_seen : {X : Type 0} (history : X → StoreHistory) (stores : List X) (now : List Store) → AreNow (map history stores) now → length (all_seen now) ≡ length stores
length_seen history stores now are = length-map now (λ (store : Store). store.seen) ∙ length_now (map history stores) now are ∙ length-map stores history

-- what a store tells of the bytes that it shows is so of its own of all, where no store's history has changed meanwhile
pub shown_at : {X : Type 0} (history : X → StoreHistory) (first stores : List X) (i : ℕ) (d : X) (now : List Store) (P : List ℕ → Type 0) → map history stores ≡ map history first → AreNow (map history first) now → i < length stores
    → Tells (history (get_or stores i d)) (λ store. P store.seen) → P (get_or (all_seen now) i [])
shown_at history first stores i d now P same are inside tells =
    let none = quiet_store [] in
    let Are : List StoreHistory → Type 0 = λ row. AreNow row now in
    let still : AreNow (map history stores) now = subst Are (sym same) are in
    let there : i < length now = omega (arith, length_now (map history stores) now still, length-map stores history) in
    let Is : StoreHistory → Type 0 = λ one. IsNow one (slice_index_or now i none) in
    let one = subst Is (get_or-map history stores i d [] inside) (now_at (map history stores) now i none still (omega (arith, length-map stores history))) in
    subst P (sym (get_or-map (λ (store : Store). store.seen) now i none [] there)) (tells_at (history (get_or stores i d)) (λ store. P store.seen) (slice_index_or now i none) one tells)
