-- What power leaves: an image of each device, and all of them quiet.
use Rattle.std.proofs.Common.{◌≡◌, ℕ, ◌<◌, List, [], ◌∷◌, length, map, get_or, zero, suc, refl, ap, ◌∙◌, arith}
use Rattle.std.specs.Prelude.{All}
use Rattle.std.proofs.lemmas.List.Elements.{All-cons, All-map}
use Rattle.nv_pmem.specs.Draws.{Draws, draws_of}
use Rattle.nv_pmem.specs.Images.{IsPartImage, IsQuietPart}
use Rattle.nv_pmem.specs.Part.{Part, part_word}
use Rattle.nv_pmem.specs.Picked.{picked}
use Rattle.nv_pmem.proofs.ImageLaws.{image_of_now, quiet_blank}
use Rattle.nv_pmem.specs.Made.{part_in}
use Rattle.nv_pmem.proofs.MadeLaws.{part_in_quiet}
use Rattle.nv_pmem.proofs.PickedLaws.{picked_is_image, picked_is_quiet}
use Rattle.nv_store.specs.Images.{IsStoreImage}
use Rattle.nv_store.specs.Picked.{picked_image, draws_after}
use Rattle.nv_store.specs.Store.{IsWholeStore, IsQuietStore, quiet_store}
use Rattle.nv_store.proofs.ImageLaws.{picked_is_image as store_is_image}
use Rattle.nv_store.proofs.StoreLaws.{quiet_is_quiet}
use Rattle.nv_pmem.specs.declared.picker.Pick.{Pick}
use Rattle.nv_bench.specs.Holding.{NamedStore, Holding}
use Rattle.nv_bench.specs.Laws.{PowerLeavesAnImage}
use Rattle.nv_bench.specs.Powered.{powered_parts, powered_stores, powered}

no_part_quiet : IsQuietPart []
no_part_quiet = record { lines = λ line. quiet_blank }

pub part_images : (draws : Draws) (parts : List Part) (i : ℕ) → IsPartImage (get_or parts i []) (part_word (get_or (powered_parts draws parts).0 i []))
unfolding powered_parts
part_images draws [] i = image_of_now []
part_images draws (part ∷ parts) zero = picked_is_image draws part
part_images draws (part ∷ parts) (suc i) = part_images (picked draws part).1 parts i

pub parts_quiet : (draws : Draws) (parts : List Part) (i : ℕ) → IsQuietPart (get_or (powered_parts draws parts).0 i [])
unfolding powered_parts
parts_quiet draws [] i = no_part_quiet
parts_quiet draws (part ∷ parts) zero = picked_is_quiet draws part
parts_quiet draws (part ∷ parts) (suc i) = parts_quiet (picked draws part).1 parts i

pub names_kept : (draws : Draws) (stores : List NamedStore) → map (λ (named : NamedStore). named.name) (powered_stores draws stores) ≡ map (λ (named : NamedStore). named.name) stores
unfolding powered_stores
names_kept draws [] = refl
names_kept draws (named ∷ stores) = ap (λ rest. named.name ∷ rest) (names_kept (draws_after named.store draws) stores)

pub store_images : (draws : Draws) (stores : List NamedStore) (i : ℕ) (none : NamedStore) → All (λ (named : NamedStore). IsWholeStore named.store) stores → i < length stores
    → IsStoreImage (get_or stores i none).store (get_or (powered_stores draws stores) i none).store.seen
unfolding powered_stores
store_images draws [] i none whole inside = absurd (omega arith)
store_images draws (named ∷ stores) zero none whole inside = store_is_image named.store draws (whole 0 none inside)
store_images draws (named ∷ stores) (suc i) none whole inside =
    store_images (draws_after named.store draws) stores i none (λ k d below. whole (suc k) d (omega arith)) (omega arith)

pub stores_quiet : (draws : Draws) (stores : List NamedStore) → All (λ (named : NamedStore). IsQuietStore named.store) (powered_stores draws stores)
unfolding powered_stores
stores_quiet draws [] = λ k d inside. absurd (omega arith)
stores_quiet draws (named ∷ stores) =
    All-cons (λ (one : NamedStore). IsQuietStore one.store) (record { name = named.name; store = quiet_store (picked_image named.store draws) }) (powered_stores (draws_after named.store draws) stores)
    (quiet_is_quiet (picked_image named.store draws)) (stores_quiet (draws_after named.store draws) stores)

pub power_leaves : PowerLeavesAnImage
power_leaves pick holding whole =
    let draws = draws_of pick in
    let after = (powered_parts draws holding.parts).1 in (
      record {
        parts = record { each = part_images draws holding.parts };
        names = names_kept after holding.stores;
        stores = λ i none inside. store_images after holding.stores i none whole inside;
      },
      record { parts = record { each = parts_quiet draws holding.parts }; stores = stores_quiet after holding.stores },
    )

-- a holding that lost power, device by device
pub holding_left : (pick : Pick) (first second : Draws) (parts now : List Part) (stores left : List NamedStore) → first ≡ draws_of pick
    → now ≡ (powered_parts first parts).0 → second ≡ (powered_parts first parts).1 → left ≡ powered_stores second stores
    → let was : Holding = record { parts = parts; stores = stores } in let is : Holding = record { parts = now; stores = left } in is ≡ powered pick was
holding_left pick first second parts now stores left begins parts_are draws_are stores_are =
    let same : now ≡ (powered_parts (draws_of pick) parts).0 = parts_are ∙ ap (λ draws. (powered_parts draws parts).0) begins in
    let draws : second ≡ (powered_parts (draws_of pick) parts).1 = draws_are ∙ ap (λ draws. (powered_parts draws parts).1) begins in
    let others : left ≡ powered_stores (powered_parts (draws_of pick) parts).1 stores = stores_are ∙ ap (λ draws. powered_stores draws stores) draws in
    λ i. record { parts = same i; stores = others i }

-- parts that were made of bytes are quiet, and stores too
pub quiet_parts : {A : Type 0} (bytes_of : A → List ℕ) (xs : List A) (i : ℕ) → IsQuietPart (get_or (map (λ x. part_in (bytes_of x)) xs) i [])
quiet_parts bytes_of [] i = no_part_quiet
quiet_parts bytes_of (x ∷ xs) zero = part_in_quiet (bytes_of x)
quiet_parts bytes_of (x ∷ xs) (suc i) = quiet_parts bytes_of xs i

abbrev pub stored_as : {A : Type 0} → (A → List ℕ) → (A → List ℕ) → A → NamedStore
stored_as name_of bytes_of x = record { name = name_of x; store = quiet_store (bytes_of x) }

pub quiet_stores : {A : Type 0} (name_of bytes_of : A → List ℕ) (xs : List A) → All (λ (named : NamedStore). IsQuietStore named.store) (map (stored_as name_of bytes_of) xs)
quiet_stores name_of bytes_of xs =
    All-map (λ (named : NamedStore). IsQuietStore named.store) (stored_as name_of bytes_of) xs (λ k d inside. quiet_is_quiet (bytes_of (get_or xs k d)))
