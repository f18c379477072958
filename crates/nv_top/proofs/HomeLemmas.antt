-- Stores at home: which one a name finds, before power goes off and after it.
use Rattle.std.proofs.Common.{◌≡◌, ◌≢◌, ℕ, ◌<◌, Bool, true, false, cond, zero, suc, All, List, [], ◌∷◌, ◌++◌, length, map, get_or, slice_index, slice_index_or, refl, sym, ap, subst, ◌∙◌, arith}
use Rattle.std.specs.Prelude.{nat_eq}
use Rattle.std.proofs.lemmas.List.{ext_get_or, length-map}
use Rattle.std.proofs.lemmas.List.Elements.{All-head, All-tail}
use lib.Pointwise.{pointwise}
use Rattle.nv_store.specs.Images.{IsStoreImage}
use Rattle.nv_store.specs.Store.{Store, IsQuietStore}
use Rattle.nv_bench.specs.Holding.{Holding, NamedStore, is_named, named_stores, store_of}
use Rattle.nv_bench.specs.Laws.{IsHoldingImage}
use Rattle.nv_open.specs.Lending.{stores_named}
use Rattle.nv_recover.specs.Standing.{AreStoreImages, files_of}
use Rattle.nv_open.proofs.Homes.{all_behind, own_stores}

-- the bytes of an image of a quiet store are its own
seen_again : (store : Store) (bytes : List ℕ) → IsQuietStore store → IsStoreImage store bytes → bytes ≡ store.seen
seen_again store bytes quiet image =
    let long : length store.durable ≡ length store.seen = ap (λ (these : List ℕ). length these) quiet.durable in
    ext_get_or 0 bytes store.seen (omega (arith, image.no_shorter, image.no_longer, long))
    (λ i inside. image.synced i (quiet.none i) ∙ ap (λ (these : List ℕ). slice_index these i) quiet.durable)

-- what stores were, and an image of each of them, under the same names
record AreImagesOf (was now : List NamedStore) : Type 0 where
  names : map (λ (named : NamedStore). named.name) now ≡ map (λ (named : NamedStore). named.name) was
  images : (i : ℕ) (none : NamedStore) → i < length was → IsStoreImage (get_or was i none).store (get_or now i none).store.seen

same_head : (a b : List ℕ) (xs ys : List (List ℕ)) → a ∷ xs ≡ b ∷ ys → a ≡ b
same_head a b xs ys is = cc

same_tail : (a b : List ℕ) (xs ys : List (List ℕ)) → a ∷ xs ≡ b ∷ ys → xs ≡ ys
same_tail a b xs ys is = cc

either : (is : Bool) (now was now_rest was_rest : Store) → now.seen ≡ was.seen → now_rest.seen ≡ was_rest.seen → (cond is now now_rest).seen ≡ (cond is was was_rest).seen
either true now was now_rest was_rest one others = one
either false now was now_rest was_rest one others = others

found_again : (name : List ℕ) (was now : List NamedStore) → AreImagesOf was now → All (λ (named : NamedStore). IsQuietStore named.store) was → (store_of name now).seen ≡ (store_of name was).seen
found_again name [] [] images quiet = refl
found_again name [] (n ∷ now) images quiet = let never = images.names in absurd cc
found_again name (w ∷ was) [] images quiet = let never = images.names in absurd cc
found_again name (w ∷ was) (n ∷ now) images quiet =
    let Names = map (λ (named : NamedStore). named.name) in
    let same : n.name ≡ w.name = same_head n.name w.name (Names now) (Names was) images.names in
    let rest : AreImagesOf was now = record {
      names = same_tail n.name w.name (Names now) (Names was) images.names;
      images = λ i none inside. images.images (suc i) none (omega arith);
    } in
    let one : n.store.seen ≡ w.store.seen =
    seen_again w.store n.store.seen (All-head (λ (named : NamedStore). IsQuietStore named.store) w was quiet) (images.images zero w (omega arith)) in
    let others = found_again name was now rest (All-tail (λ (named : NamedStore). IsQuietStore named.store) w was quiet) in
    ap (λ known. (cond (pointwise nat_eq known name) n.store (store_of name now)).seen) same
    ∙ either (pointwise nat_eq w.name name) n.store w.store (store_of name now) (store_of name was) one others

all_again : (names : List (List ℕ)) (was now : List NamedStore) → AreImagesOf was now → All (λ (named : NamedStore). IsQuietStore named.store) was
    → map (λ (store : Store). store.seen) (stores_named names now) ≡ map (λ (store : Store). store.seen) (stores_named names was)
all_again [] was now images quiet = refl
all_again (name ∷ names) was now images quiet =
    ap (λ bytes. bytes ∷ map (λ (store : Store). store.seen) (stores_named names now)) (found_again name was now images quiet)
    ∙ ap (λ others. (store_of name was).seen ∷ others) (all_again names was now images quiet)

-- After power went off the stores of these names hold what those held that came back.
pub files_again : (names : List (List ℕ)) (home : List NamedStore) (stores : List Store) (was now : Holding) → was.stores ≡ home ++ named_stores names stores → length names ≡ length stores
    → ((i j : ℕ) → i < j → j < length names → slice_index_or names i [] ≢ slice_index_or names j [])
    → All (λ name. All (λ named. is_named name named ≡ false) home) names
    → IsHoldingImage was now → All (λ (named : NamedStore). IsQuietStore named.store) was.stores → files_of (stores_named names now.stores) ≡ files_of stores
files_again names home stores was now back long distinct away image quiet =
    ap (λ (contents : List (List ℕ)). record { contents = contents }) (all_again names was.stores now.stores (record { names = image.names; images = image.stores }) quiet)
    ∙ ap (λ (stores : List NamedStore). files_of (stores_named names stores)) back
    ∙ ap files_of (all_behind names home (named_stores names stores) away ∙ own_stores names stores long distinct)

-- ---- an image of stores that may not be quiet

either_image : (is : Bool) (now was now_rest was_rest : Store) → IsStoreImage was now.seen → IsStoreImage was_rest now_rest.seen → IsStoreImage (cond is was was_rest) (cond is now now_rest).seen
either_image true now was now_rest was_rest one others = one
either_image false now was now_rest was_rest one others = others

found_image : (name : List ℕ) (was now : List NamedStore) → AreImagesOf was now → IsStoreImage (store_of name was) (store_of name now).seen
found_image name [] [] images = record { no_shorter = omega arith; no_longer = omega arith; synced = λ i not. refl }
found_image name [] (n ∷ now) images = let never = images.names in absurd cc
found_image name (w ∷ was) [] images = let never = images.names in absurd cc
found_image name (w ∷ was) (n ∷ now) images =
    let Names = map (λ (named : NamedStore). named.name) in
    let same : n.name ≡ w.name = same_head n.name w.name (Names now) (Names was) images.names in
    let rest : AreImagesOf was now = record {
      names = same_tail n.name w.name (Names now) (Names was) images.names;
      images = λ i none inside. images.images (suc i) none (omega arith);
    } in
    subst (λ known. IsStoreImage (store_of name (w ∷ was)) (cond (pointwise nat_eq known name) n.store (store_of name now)).seen) (sym same)
    (either_image (pointwise nat_eq w.name name) n.store w.store (store_of name now) (store_of name was) (images.images zero w (omega arith)) (found_image name was now rest))

images_named : (names : List (List ℕ)) (was now : List NamedStore) → AreImagesOf was now → (i : ℕ) (none : Store) → i < length (stores_named names was)
    → IsStoreImage (get_or (stores_named names was) i none) (get_or (map (λ (store : Store). store.seen) (stores_named names now)) i [])
images_named [] was now images i none inside = absurd (omega arith)
images_named (name ∷ names) was now images zero none inside = found_image name was now images
images_named (name ∷ names) was now images (suc i) none inside = images_named names was now images i none (omega arith)

-- After power went off the stores of these names hold an image of those that came back.
pub images_again : (names : List (List ℕ)) (home : List NamedStore) (stores : List Store) (was now : Holding) → was.stores ≡ home ++ named_stores names stores → length names ≡ length stores
    → ((i j : ℕ) → i < j → j < length names → slice_index_or names i [] ≢ slice_index_or names j [])
    → All (λ name. All (λ named. is_named name named ≡ false) home) names
    → IsHoldingImage was now → AreStoreImages stores (files_of (stores_named names now.stores))
images_again names home stores was now back long distinct away image =
    let same : stores_named names was.stores ≡ stores =
    ap (stores_named names) back ∙ all_behind names home (named_stores names stores) away ∙ own_stores names stores long distinct in
    let images : AreImagesOf was.stores now.stores = record { names = image.names; images = image.stores } in
    let Images : List Store → Type 0 = λ these. (i : ℕ) (none : Store) → i < length these
    → IsStoreImage (get_or these i none) (get_or (map (λ (store : Store). store.seen) (stores_named names now.stores)) i []) in
    record {
      count = length-map (stores_named names now.stores) (λ (store : Store). store.seen) ∙ length-map names (λ name. store_of name now.stores) ∙ long;
      each = subst Images same (images_named names was.stores now.stores images);
    }

-- So do the stores of any names.
pub any_images : (names : List (List ℕ)) (was now : Holding) → IsHoldingImage was now → AreStoreImages (stores_named names was.stores) (files_of (stores_named names now.stores))
any_images names was now image = record {
  count =
      length-map (stores_named names now.stores) (λ (store : Store). store.seen) ∙ length-map names (λ name. store_of name now.stores) ∙ sym (length-map names (λ name. store_of name was.stores));
  each = λ i none inside. images_named names was.stores now.stores (record { names = image.names; images = image.stores }) i none inside;
}
