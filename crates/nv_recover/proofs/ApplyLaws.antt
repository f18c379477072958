-- Laws about the pieces of a log, written to the stores one after another.
use Rattle.std.proofs.Common.{◌≡◌, inl, inr, ℕ, ◌<◌, List, [], ◌∷◌, length, map, set, slice_index_or, refl, sym, ap, ◌∙◌, subst, arith}
use Rattle.std.proofs.lemmas.Bool.{cases_eq}
use Rattle.std.proofs.lemmas.List.{ext_get_or, length-map, get_or-map, map-set, set-set, get_or-set_same, get_or-set_other, length-set}
use Rattle.std.specs.Prelude.{fold}
use Rattle.nv_plain.specs.Files.{Files, contents_of, with_contents, overwritten}
use Rattle.nv_plain.specs.Images.{Image, entry_at, slot_part, data_of}
use Rattle.nv_plain.specs.Recovered.{with_entry, recovered}
use Rattle.nv_store.specs.Images.{IsStoreImage}
use Rattle.nv_store.specs.Steps.{Write, after_store_step}
use Rattle.nv_store.specs.Store.{Store, IsWholeStore}
use Rattle.nv_store.proofs.ImageLaws.{image_of_quiet}
use Rattle.nv_store.proofs.WriteLaws.{covered}
use Rattle.nv_recover.specs.Applying.{AreAmong, HasPiece, StaysAlike, OneWritten, OneTorn, LeftOrOneTorn}
use Rattle.nv_recover.specs.Standing.{AreStoreImages, AreQuietStores, RecoverAlike, files_of}
use Rattle.nv_recover.proofs.Overlays.{same_after_all}

-- ---- images that recover alike

pub alike_none : (image : Image) (was : List Store) → StaysAlike image was was
alike_none image was bytes are = record { before = bytes; is_image = are; same = refl }

pub alike_more : (image : Image) (was between now : List Store) → StaysAlike image was between → StaysAlike image between now → StaysAlike image was now
alike_more image was between now first second bytes are =
    let later = second bytes are in
    let earlier = first later.before later.is_image in
    record { before = earlier.before; is_image = earlier.is_image; same = later.same ∙ earlier.same }

pub alike_same : (image : Image) (was now : List Store) → now ≡ was → StaysAlike image was now
alike_same image was now same =
    let Alike : List Store → Type 0 = StaysAlike image was in
    subst Alike (sym same) (alike_none image was)

same_files : (a b : Files) → a.contents ≡ b.contents → a ≡ b
same_files a b same = ap (λ contents. let files : Files = record { contents = contents } in files) same

seen_at : (stores : List Store) (i : ℕ) (none : Store) → i < length stores → contents_of (files_of stores) i ≡ (slice_index_or stores i none).seen
seen_at stores i none inside = get_or-map (λ (store : Store). store.seen) stores i none [] inside

blank : Store
blank = record { seen = []; durable = []; unsynced = [] }

-- quiet stores have one image
pub quiet_image : (stores : List Store) (bytes : Files) → AreQuietStores stores → AreStoreImages stores bytes → bytes ≡ files_of stores
quiet_image stores bytes quiet are =
    let seen : Store → List ℕ = λ store. store.seen in
    same_files bytes (files_of stores)
    (ext_get_or [] bytes.contents (map seen stores) (are.count ∙ sym (length-map stores seen))
    (λ i inside.
    let within : i < length stores = omega (arith, are.count) in
    image_of_quiet (slice_index_or stores i blank) (contents_of bytes i) (quiet i blank within) (are.each i blank within)
    ∙ sym (seen_at stores i blank within)))

-- Where the stores were quiet, what is left of them recovers to what it would have without the writes.
pub alike_from_quiet : (image : Image) (was now : List Store) → AreQuietStores was → StaysAlike image was now → RecoverAlike image was now
alike_from_quiet image was now quiet alike bytes are =
    let some = alike bytes are in
    some.same ∙ ap (λ files. (recovered image files).files) (quiet_image was some.before quiet some.is_image)

-- ---- one write

-- what an entry makes of files, by its piece
entry_is : (image : Image) (number file at : ℕ) (bytes : List ℕ) (files : Files) → HasPiece image number file at bytes
    → with_entry image files number ≡ with_contents files file (overwritten (contents_of files file) at bytes)
entry_is image number file at bytes files piece =
    let Placed = λ (file at : ℕ) (these : List ℕ). with_contents files file (overwritten (contents_of files file) at these) in
    let data_is = data_of (slot_part image number) (entry_at image number).size in
    ap (λ k. Placed k (entry_at image number).at data_is) piece.file_is
    ∙ ap (λ k. Placed file k data_is) piece.at_is
    ∙ ap (Placed file at) piece.bytes_are

contents_same : (files : Files) (file : ℕ) (bytes : List ℕ) → file < length files.contents → contents_of (with_contents files file bytes) file ≡ bytes
contents_same files file bytes inside = get_or-set_same files.contents file bytes [] inside

contents_again : (files : Files) (file : ℕ) (bytes more : List ℕ) → with_contents (with_contents files file bytes) file more ≡ with_contents files file more
contents_again files file bytes more =
    same_files (with_contents (with_contents files file bytes) file more) (with_contents files file more) (set-set files.contents file bytes more)

module _ (image : Image) (number file at : ℕ) (bytes : List ℕ) (piece : HasPiece image number file at bytes) where
  same_once : (these : Files) (other : List ℕ) → file < length these.contents → overwritten (contents_of these file) at bytes ≡ overwritten other at bytes
      → with_entry image these number ≡ with_entry image (with_contents these file other) number
  same_once these other inside same =
      entry_is image number file at bytes these piece
      ∙ ap (with_contents these file) same
      ∙ ap (λ old. with_contents these file (overwritten old at bytes)) (sym (contents_same these file other inside))
      ∙ sym (contents_again these file other (overwritten (contents_of (with_contents these file other) file) at bytes))
      ∙ sym (entry_is image number file at bytes (with_contents these file other) piece)

  same_at_last : (these before : Files) → AreAmong image (number ∷ []) → with_entry image these number ≡ with_entry image before number
      → (recovered image these).files ≡ (recovered image before).files
  same_at_last these before among same =
      ap (fold (with_entry image) these) among.all
      ∙ same_after_all image among.before number among.after these before same
      ∙ sym (ap (fold (with_entry image) before) among.all)

  -- A piece that was written, or torn, leaves the stores alike.
  pub alike_torn : (was now : List Store) → file < length was → ((none : Store) → IsWholeStore (slice_index_or was file none)) → AreAmong image (number ∷ [])
      → OneTorn file at (length bytes) was now → StaysAlike image was now
  alike_torn was now inside whole among torn these are =
      let long : length now ≡ length was = ap length torn.is ∙ length-set was file torn.new in
      let IsOne : Store → Type 0 = λ store. IsStoreImage store (contents_of these file) in
      let new_is : slice_index_or now file torn.old ≡ torn.new =
      ap (λ stores. slice_index_or stores file torn.old) torn.is ∙ get_or-set_same was file torn.new torn.old inside in
      let cover = covered at bytes torn.old torn.new (contents_of these file) (subst IsWholeStore (torn.old_is torn.old) (whole torn.old)) torn.torn
      (subst IsOne new_is (are.each file torn.old (omega arith))) in
      let before = with_contents these file cover.before in
      record {
        before = before;
        is_image = record {
          count = length-set these.contents file cover.before ∙ are.count ∙ long;
          each = λ i none within. elim (cases_eq i file) [
            | inl same ↦
                let At : ℕ → Type 0 = λ k. IsStoreImage (slice_index_or was k none) (contents_of before k) in
                let Of : Store → Type 0 = λ store. IsStoreImage store (contents_of before file) in
                subst At (sym same)
                (subst Of (sym (torn.old_is none))
                (subst (IsStoreImage torn.old) (sym (contents_same these file cover.before (omega (arith, are.count)))) cover.is_image))
            | inr differs ↦
                let Of : Store → Type 0 = λ store. IsStoreImage store (contents_of before i) in
                subst Of (ap (λ stores. slice_index_or stores i none) torn.is ∙ get_or-set_other was file i torn.new none differs)
                (subst (IsStoreImage (slice_index_or now i none)) (sym (get_or-set_other these.contents file i cover.before [] differs))
                (are.each i none (omega arith)))
          ];
        };
        same = same_at_last these before among (same_once these cover.before (omega (arith, are.count)) cover.same);
      }

  pub alike_left_or_torn : (was now : List Store) → file < length was → ((none : Store) → IsWholeStore (slice_index_or was file none)) → AreAmong image (number ∷ [])
      → LeftOrOneTorn file at (length bytes) was now → StaysAlike image was now
  alike_left_or_torn was now inside whole among (inl same) = alike_same image was now same
  alike_left_or_torn was now inside whole among (inr torn) = alike_torn was now inside whole among torn

  -- and one that was written is then read
  pub written_files : (was now : List Store) → file < length was → OneWritten file at bytes was now → files_of now ≡ with_entry image (files_of was) number
  written_files was now inside one =
      let seen : Store → List ℕ = λ store. store.seen in
      ap files_of one.is
      ∙ same_files (files_of (set was file (after_store_step (Write at bytes) one.old))) (with_contents (files_of was) file (overwritten one.old.seen at bytes))
      (map-set seen was file (after_store_step (Write at bytes) one.old))
      ∙ ap (λ old. with_contents (files_of was) file (overwritten old at bytes)) (sym (ap seen (one.old_is one.old)) ∙ sym (seen_at was file one.old inside))
      ∙ sym (entry_is image number file at bytes (files_of was) piece)
