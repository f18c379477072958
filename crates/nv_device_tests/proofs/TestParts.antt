-- Parts in memory that are all zeros, and groups that they hold.
use Rattle.std.proofs.Common.{Result, Ok, Err, OnOk, false, ◌≡◌, ℕ, ◌<◌, ◌≤◌, List, [], All, length, get_or, map, replicate, sym, ap, ◌∙◌, subst, refl, arith}
use Rattle.std.specs.Result.{is_err}
use Rattle.std.proofs.lemmas.List.{get_or-map, length-map}
use Rattle.std.proofs.lemmas.List.Elements.{All-map, All-replicate}
use Rattle.nv_plain.specs.Images.{entry_of}
use Rattle.nv_plain.specs.Pieces.{pages_touched}
use Rattle.nv_pmem.specs.MemPart.{part_history, IsBlankMemPart}
use Rattle.nv_pmem.specs.Moments.{Tells}
use Rattle.nv_pmem.specs.Part.{Line, Part, blank_line, line_of, part_word}
use Rattle.nv_pmem.specs.Rows.{RowTells, InEachRowImage, row_words}
use Rattle.nv_pmem.specs.Steps.{PartHistory}
use Rattle.nv_pmem.specs.declared.mem_part.MemPart.{MemPart}
use Rattle.nv_pmem.proofs.RowLaws.{all_blank, row_blank_images, row_tells_more, row_tells_part}
use Rattle.nv_entry.specs.Group.{IsUncommitted, IsWholeGroup}
use Rattle.nv_entry.proofs.PieceRanges.{piece_small}

-- a part of zeros tells lines of zeros
tells_zeros : (lines : ℕ) (part : MemPart) → IsBlankMemPart lines part → Tells (part_history part) (λ now. (line : ℕ) → line_of now line ≡ blank_line)
tells_zeros lines part blank =
    subst (λ (history : PartHistory). Tells history (λ now. (line : ℕ) → line_of now line ≡ blank_line)) (sym blank.history)
    (all_blank (replicate lines blank_line) (All-replicate (λ (line : Line). line ≡ blank_line) lines blank_line refl))

-- none of some parts of zeros is committed
pub zeros_uncommitted : (lines first count : ℕ) (parts : List MemPart) → All (IsBlankMemPart lines) parts → RowTells (map part_history parts) (InEachRowImage (IsUncommitted first count))
zeros_uncommitted lines first count parts blank =
    row_tells_more (map part_history parts) (InEachRowImage (λ image. (i line word : ℕ) → image i line word ≡ 0)) (InEachRowImage (IsUncommitted first count))
    (λ now zeros image is i below committed. absurd (omega (arith, zeros image is i 0 0, committed)))
    (row_blank_images (map part_history parts)
    (λ i inside.
    All-map (λ (history : PartHistory). Tells history (λ now. (line : ℕ) → line_of now line ≡ blank_line)) part_history parts
    (λ k d below. tells_zeros lines (get_or parts k d) (blank k d below)) i [] inside))

-- each part in memory tells
tell : (parts : List MemPart) → All (λ history. 0 < length history) (map part_history parts)
tell parts = All-map (λ (history : PartHistory). 0 < length history) part_history parts (λ k d inside. omega arith)

-- a part of a group has no more bytes than a page
pub size_told : (page first file at : ℕ) (bytes : List ℕ) (parts : List MemPart) (i : ℕ) (part : MemPart) → part ≡ get_or parts i part → i < length parts → i < pages_touched at (length bytes) page
    → RowTells (map part_history parts) (λ now. IsWholeGroup page first file at bytes (row_words now)) → Tells (part_history part) (λ now. (entry_of (part_word now)).size ≤ page)
size_told page first file at bytes parts i part is inside below holds =
    let Fits : Part → Type 0 = λ now. (entry_of (part_word now)).size ≤ page in
    let At : PartHistory → Type 0 = λ history. Tells history Fits in
    subst At (get_or-map part_history parts i part [] inside ∙ ap part_history (sym is))
    (row_tells_part (map part_history parts) i (λ now. IsWholeGroup page first file at bytes (row_words now)) Fits (omega (arith, length-map parts part_history)) (tell parts)
    (λ now whole. omega (arith, ap (λ e. e.size) (whole.entries i below).fields, piece_small at (length bytes) page i)) holds)

-- what a result that is no error says
pub where_ok : {T E P : Type 0} (result : Result T E) → is_err result ≡ false → OnOk result P → P
where_ok (Ok _) fine holds = holds
where_ok (Err _) failed holds = absurd (cc)
