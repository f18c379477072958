-- What a row says of its header, by what the head that was read of it says.
use Rattle.std.proofs.Common.{◌≡◌, ℕ, ◌≤◌, List, [], ◌∷◌, length, slice_index_or, refl, sym, ap, ◌∙◌, subst, arith}
use Rattle.std.proofs.lemmas.List.{length-map}
use Rattle.std.proofs.lemmas.List.FromFn.{length-range_with_len}
use Rattle.std.specs.List.{range_with_len}
use Rattle.nv_plain.specs.Images.{Image, header_of, layout_in, name_of}
use Rattle.nv_plain.specs.Layouts.{Layout, layout_of}
use Rattle.nv_plain.proofs.OwnLayouts.{layout_is}
use Rattle.nv_pmem.specs.Moments.{Tells}
use Rattle.nv_pmem.specs.Part.{Part}
use Rattle.nv_pmem.specs.Rows.{RowTells, row_words}
use Rattle.nv_pmem.specs.Steps.{PartHistory}
use Rattle.nv_pmem.proofs.RowLaws.{row_tells_more, row_tells_both}
use Rattle.nv_entry.specs.declared.bounds.Bounds.{Bounds}
use Rattle.nv_entry.specs.Checks.{SaysBounds}
use Rattle.nv_entry.proofs.Checking.{row_tells_part}
use Rattle.nv_header.specs.declared.head.Head.{Head}
use Rattle.nv_header.specs.Heads.{IsHeadOf, header_image, first_names}
use Rattle.nv_header.specs.Needs.{header_history}
use Rattle.nv_header.specs.Regions.{ReadsAs}
use Rattle.nv_recover.specs.Bounding.{HasBounds}

header_first : (row : List PartHistory) → header_history row ≡ slice_index_or row 0 []
header_first [] = refl
header_first (history ∷ row) = refl

reads_as : (lines : ℕ) (head : Head) (bounds : Bounds) (parts : List Part) → HasBounds head bounds → IsHeadOf (layout_of head.version) lines (header_image (slice_index_or parts 0 [])) head
    → ReadsAs (layout_of head.version) bounds.page bounds.entries head.names bounds.tail (row_words parts)
unfolding first_names
reads_as lines head bounds parts has is = record {
  readable = record {
    long_enough = omega arith;
    fields = is.readable.fields;
    names = λ i below. let good = is.readable.names i below in record { whole = good.whole; new = good.new };
  };
  page_is = sym is.page ∙ has.page;
  entries_is = sym is.entries ∙ has.entries;
  names_are = sym is.names;
  tail_is = sym is.tail ∙ has.tail;
}

says_bounds : (lines : ℕ) (head : Head) (bounds : Bounds) (parts : List Part) → HasBounds head bounds → IsHeadOf (layout_of head.version) lines (header_image (slice_index_or parts 0 [])) head → SaysBounds bounds (row_words parts)
unfolding first_names
says_bounds lines head bounds parts has is =
    let image = header_image (slice_index_or parts 0 []) in
    let files = (header_of image).files in
    record {
      version = is.readable.fields.version_is ∙ ap (λ version. (layout_of version).version) has.version;
      page = sym is.page ∙ has.page;
      entries = sym is.entries ∙ has.entries;
      files =
          sym (length-range_with_len 0 files) ∙ sym (length-map (range_with_len 0 files) (name_of (layout_of head.version) image)) ∙ ap length (sym is.names) ∙ has.files;
      tail = sym is.tail ∙ has.tail;
    }

told_first : (row : List PartHistory) (Q : Part → Type 0) (P : List Part → Type 0) → 1 ≤ length row → ((parts : List Part) → Q (slice_index_or parts 0 []) → P parts) → Tells (header_history row) Q → RowTells row P
told_first row Q P some step told =
    let At : PartHistory → Type 0 = λ history. Tells history Q in
    row_tells_more row (λ parts. Q (slice_index_or parts 0 [])) P step
    (row_tells_part row 0 Q (omega arith) (subst At (header_first row) told))

-- The row says what the head does.
pub row_reads_as : (lines : ℕ) (head : Head) (bounds : Bounds) (row : List PartHistory) → HasBounds head bounds → 1 ≤ length row → Tells (header_history row) (λ now. IsHeadOf (layout_of head.version) lines (header_image now) head)
    → RowTells row (λ parts. ReadsAs (layout_of bounds.version) bounds.page bounds.entries head.names bounds.tail (row_words parts))
row_reads_as lines head bounds row has some told =
    told_first row (λ now. IsHeadOf (layout_of head.version) lines (header_image now) head) (λ parts. ReadsAs (layout_of bounds.version) bounds.page bounds.entries head.names bounds.tail (row_words parts))
    some
    (λ parts is.
    subst (λ version. ReadsAs (layout_of version) bounds.page bounds.entries head.names bounds.tail (row_words parts)) has.version
    (reads_as lines head bounds parts has is))
    told

pub row_says_bounds : (lines : ℕ) (head : Head) (bounds : Bounds) (row : List PartHistory) → HasBounds head bounds → 1 ≤ length row → Tells (header_history row) (λ now. IsHeadOf (layout_of head.version) lines (header_image now) head)
    → RowTells row (λ parts. SaysBounds bounds (row_words parts))
row_says_bounds lines head bounds row has some told =
    told_first row (λ now. IsHeadOf (layout_of head.version) lines (header_image now) head) (λ parts. SaysBounds bounds (row_words parts)) some
    (λ parts. says_bounds lines head bounds parts has) told

-- What the row tells by the version of its bounds, it tells by its own.
pub by_own : (row : List PartHistory) (bounds : Bounds) (P : Layout → Image → Type 0) → RowTells row (λ parts. SaysBounds bounds (row_words parts))
    → RowTells row (λ parts. P (layout_of bounds.version) (row_words parts)) → RowTells row (λ parts. P (layout_in (row_words parts)) (row_words parts))
by_own row bounds P says told =
    let Says : List Part → Type 0 = λ parts. SaysBounds bounds (row_words parts) in
    let Told : List Part → Type 0 = λ parts. P (layout_of bounds.version) (row_words parts) in
    row_tells_more row (λ parts. Says parts × Told parts) (λ parts. P (layout_in (row_words parts)) (row_words parts))
    (λ parts both. subst (λ layout. P layout (row_words parts)) (sym (layout_is bounds.version (row_words parts) both.0.version)) both.1)
    (row_tells_both row Says Told says told)
