-- Laws about the lengths that stores tell, one after another.
use Rattle.std.proofs.Common.{◌≡◌, ℕ, ◌+◌, ◌<◌, List, [], ◌∷◌, ◌++◌, length, map, take, get_or, sym, subst, arith}
use Rattle.std.proofs.lemmas.List.{take_more, get_or-map, length-map}
use Rattle.nv_pmem.specs.Moments.{Tells}
use Rattle.nv_store.specs.Steps.{StoreHistory}
use Rattle.nv_mount.specs.Mounts.{AreLengths}

lengths_push : (row : List StoreHistory) (lengths : List ℕ) (history : StoreHistory) (len : ℕ) → AreLengths row lengths
    → Tells history (λ store. len ≡ length store.seen) → AreLengths (row ++ history ∷ []) (lengths ++ len ∷ [])
lengths_push [] [] history len are one = (one, tt)
lengths_push [] (other ∷ lengths) history len are one = absurd are
lengths_push (now ∷ row) [] history len are one = absurd are
lengths_push (now ∷ row) (other ∷ lengths) history len are one = (are.0, lengths_push row lengths history len are.1 one)

-- one more store has told its length
pub lengths_more : {B : Type 0} (history : B → StoreHistory) (old stores : List B) (i : ℕ) (d : B) (lengths : List ℕ) (len : ℕ) → i < length stores
    → map history stores ≡ map history old → AreLengths (take i (map history old)) lengths
    → Tells (history (get_or stores i d)) (λ store. len ≡ length store.seen) → AreLengths (take (i + 1) (map history old)) (lengths ++ len ∷ [])
lengths_more history old stores i d lengths len inside same are one =
    let Of : List StoreHistory → Type 0 = λ row. AreLengths row (lengths ++ len ∷ []) in
    let Before : List StoreHistory → Type 0 = λ row. AreLengths (take i row) lengths in
    let At : List StoreHistory → Type 0 = λ row. AreLengths (take (i + 1) row) (lengths ++ len ∷ []) in
    let row : List StoreHistory = map history stores in
    let there : i < length row = omega (arith, length-map stores history) in
    let Told : StoreHistory → Type 0 = λ told. Tells told (λ store. len ≡ length store.seen) in
    subst At same
    (subst Of (sym (take_more row i [] there))
    (lengths_push (take i row) lengths (get_or row i []) len (subst Before (sym same) are) (subst Told (sym (get_or-map history stores i d [] inside)) one)))
