-- Pieces: each lies inside its page and inside the write.
use Rattle.std.proofs.Common.{◌≡◌, ℕ, ◌+◌, ◌<◌, ◌≤◌, List, length, drop, arith, length-drop}
use Rattle.std.proofs.lemmas.List.{length-take}
use Rattle.nv_plain.specs.Images.{lines_for}
use Rattle.nv_plain.proofs.PieceLemmas.{page_start_below}
use Rattle.nv_plain.specs.Pieces.{pages_touched, piece_of, piece_bytes}
use Rattle.nv_pmem.specs.Limits.{IsPageSize, entry_lines}

-- a piece has no byte behind the write's last
pub piece_inside : (at len page i : ℕ) → 1 ≤ page → i < pages_touched at len page → (piece_of at len page i).from + (piece_of at len page i).size ≤ len
piece_inside at len page i some_page below = omega (arith, page_start_below at len page i some_page below)

-- and no more than a page
pub piece_small : (at len page i : ℕ) → (piece_of at len page i).size ≤ page
piece_small at len page i = omega arith

pub length-piece_bytes : (bytes : List ℕ) (at page i : ℕ) → 1 ≤ page → i < pages_touched at (length bytes) page → length (piece_bytes bytes (piece_of at (length bytes) page i)) ≡ (piece_of at (length bytes) page i).size
length-piece_bytes bytes at page i some_page below =
    let piece = piece_of at (length bytes) page i in
    omega (arith, piece_inside at (length bytes) page i some_page below, length-take piece.size (drop piece.from bytes), length-drop piece.from bytes)

-- so its lines are among those of an entry
pub lines_fit : (size page : ℕ) → IsPageSize page → size ≤ page → 1 + lines_for size ≤ entry_lines page
lines_fit size page is fits = omega (arith, is.whole_lines)
