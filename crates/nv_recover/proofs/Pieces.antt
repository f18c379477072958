-- The piece that the part in a number's slot holds.
use Rattle.std.proofs.Common.{◌≡◌, ℕ, ◌+◌, ◌%◌, ◌<◌, ◌≤◌, List, [], ◌++◌, length, length-append, length-drop, take, drop, slice_index_or, sym, ap, ◌∙◌, subst, arith}
use Rattle.std.proofs.Math.Seq.{take-append_seam}
use Rattle.nv_plain.specs.Images.{Image, PartImage, entry_at, entry_of, slot_part, data_of, lines_for}
use Rattle.nv_pmem.specs.Limits.{IsPageSize, entry_lines}
use Rattle.nv_pmem.specs.Moments.{Tells}
use Rattle.nv_pmem.specs.Part.{Part, part_word}
use Rattle.nv_pmem.specs.Rows.{RowTells, row_words}
use Rattle.nv_pmem.specs.Steps.{PartHistory}
use Rattle.nv_pmem.proofs.RowLaws.{row_tells_more, row_tells_both}
use Rattle.nv_entry.specs.declared.bounds.Bounds.{Bounds}
use Rattle.nv_entry.specs.declared.piece.PieceHead.{PieceHead}
use Rattle.nv_entry.specs.Checks.{SaysBounds}
use Rattle.nv_entry.specs.Reading.{head_of, IsFilled}
use Rattle.nv_entry.proofs.Checking.{row_tells_part}
use Rattle.nv_recover.specs.Applying.{HasPiece}

-- the front of a buffer that was filled
filled_front : (part : Part) (size : ℕ) (old new : List ℕ) → IsFilled part size old new → length new ≡ length old → size ≤ length old → take size new ≡ data_of (part_word part) size
filled_front part size old new filled long fits =
    let bytes = data_of (part_word part) size in
    let size_is : size ≡ length bytes =
    omega (arith, ap length filled, length-append bytes (drop size old), length-drop size old) in
    ap (take size) filled ∙ ap (λ n. take n (bytes ++ drop size old)) size_is ∙ take-append_seam bytes (drop size old)

-- what was read of a part is the piece of the number in whose slot it stands
read_piece_is : (image : Image) (part : Part) (number : ℕ) (head : PieceHead) (old new : List ℕ) → slot_part image number ≡ part_word part → head ≡ head_of part → IsFilled part head.size old new → length new ≡ length old → head.size ≤ length old
    → HasPiece image number head.file head.at (take head.size new)
read_piece_is image part number head old new same is filled long fits = record {
  file_is = ap (λ (words : PartImage). words 0 1) same ∙ ap (λ (one : PieceHead). one.file) (sym is);
  at_is = ap (λ (words : PartImage). words 0 2) same ∙ ap (λ (one : PieceHead). one.at) (sym is);
  bytes_are =
      ap (λ (words : PartImage). data_of words (words 0 3)) same
      ∙ ap (data_of (part_word part)) (ap (λ (one : PieceHead). one.size) (sym is))
      ∙ sym (filled_front part head.size old new filled long fits);
}

slot_is : (bounds : Bounds) (number : ℕ) (parts : List Part) → SaysBounds bounds (row_words parts) → slot_part (row_words parts) number ≡ part_word (slice_index_or parts (1 + number % bounds.entries) [])
slot_is bounds number parts says = ap (λ entries. row_words parts (1 + number % entries)) says.entries

module _ (row : List PartHistory) (bounds : Bounds) (number : ℕ) (inside : 1 + number % bounds.entries < length row) (header : RowTells row (λ parts. SaysBounds bounds (row_words parts))) where
  -- what that part tells, the row tells
  pub slot_tells : (P : Part → Type 0) (Q : List Part → Type 0) → ((parts : List Part) (part : Part) → slot_part (row_words parts) number ≡ part_word part → P part → Q parts)
      → Tells (slice_index_or row (1 + number % bounds.entries) []) P → RowTells row Q
  slot_tells P Q step told =
      let Says : List Part → Type 0 = λ parts. SaysBounds bounds (row_words parts) in
      let Has : List Part → Type 0 = λ parts. P (slice_index_or parts (1 + number % bounds.entries) []) in
      row_tells_more row (λ parts. Says parts × Has parts) Q
      (λ parts both. step parts (slice_index_or parts (1 + number % bounds.entries) []) (slot_is bounds number parts both.0) both.1)
      (row_tells_both row Says Has header (row_tells_part row (1 + number % bounds.entries) P inside told))

  -- a piece that was read
  pub slot_piece : (head : PieceHead) (old new : List ℕ) → length new ≡ length old → head.size ≤ length old
      → Tells (slice_index_or row (1 + number % bounds.entries) []) (λ now. (head ≡ head_of now) × IsFilled now head.size old new)
      → RowTells row (λ parts. HasPiece (row_words parts) number head.file head.at (take head.size new))
  slot_piece head old new long fits told =
      slot_tells (λ now. (head ≡ head_of now) × IsFilled now head.size old new) (λ parts. HasPiece (row_words parts) number head.file head.at (take head.size new))
      (λ parts part same both. read_piece_is (row_words parts) part number head old new same both.0 both.1 long fits)
      told

  -- a piece that was too long
  pub slot_too_long : (limit : ℕ) → RowTells row (λ parts. (entry_at (row_words parts) number).size ≤ limit)
      → Tells (slice_index_or row (1 + number % bounds.entries) []) (λ now. limit < (entry_of (part_word now)).size) → RowTells row (λ parts. ⊥)
  slot_too_long limit few told =
      let Few : List Part → Type 0 = λ parts. (entry_at (row_words parts) number).size ≤ limit in
      let Many : List Part → Type 0 = λ parts. limit < (entry_at (row_words parts) number).size in
      row_tells_more row (λ parts. Few parts × Many parts) (λ parts. ⊥) (λ parts both. omega (arith, both.0, both.1))
      (row_tells_both row Few Many few
      (slot_tells (λ now. limit < (entry_of (part_word now)).size) Many
      (λ parts part same long. let At : PartImage → Type 0 = λ words. limit < words 0 3 in subst At (sym same) long)
      told))

-- the lines of a page
pub lines_of_page : (page : ℕ) → IsPageSize page → 1 + lines_for page ≡ entry_lines page
lines_of_page page is = omega (arith, is.whole_lines)
