-- Pieces: a write, cut at page boundaries.
use Rattle.std.specs.Prelude.{◌≡◌, ◌≤◌, ℕ, ◌+◌, ◌-◌, ◌*◌, ◌/◌, ◌==◌, if◌then◌else◌, min, max, List, length, take, drop, map, fold}
use Rattle.std.specs.List.{range_with_len}
use Rattle.nv_plain.specs.Files.{overwritten}

-- some bytes of a write, inside one page: where they go in the file, which of the write's bytes they are
pub record Piece : Type 0 where
  pub at : ℕ
  pub from : ℕ
  pub size : ℕ

-- how many pages len bytes at an offset touch
abbrev pub pages_touched : ℕ → ℕ → ℕ → ℕ
pages_touched at len page = if len == 0 then 0 else (at + len - 1) / page - at / page + 1

-- where piece i begins: at the write's offset, or else at the start of the i-th page after the one of the offset
abbrev pub piece_start : ℕ → ℕ → ℕ → ℕ
piece_start at page i = max at ((at / page + i) * page)

-- piece i of a write: up to the end of its page, or of the write
abbrev pub piece_of : ℕ → ℕ → ℕ → ℕ → Piece
piece_of at len page i = record {
  at = piece_start at page i;
  from = piece_start at page i - at;
  size = min (at + len) ((at / page + i + 1) * page) - piece_start at page i;
}

-- the pieces of a write, rising
abbrev pub pieces_of : ℕ → ℕ → ℕ → List Piece
pieces_of at len page = map (piece_of at len page) (range_with_len 0 (pages_touched at len page))

-- the bytes of a piece of a write
abbrev pub piece_bytes : List ℕ → Piece → List ℕ
piece_bytes bytes piece = take piece.size (drop piece.from bytes)

-- the bytes of a file, overwritten by a piece of a write
abbrev pub with_piece : List ℕ → List ℕ → Piece → List ℕ
with_piece written bytes piece = overwritten bytes piece.at (piece_bytes written piece)

-- the bytes of a file, overwritten by the pieces of a write, one after another
abbrev pub with_pieces : List ℕ → List ℕ → List Piece → List ℕ
with_pieces written bytes pieces = fold (with_piece written) bytes pieces

-- A write is the same as its pieces, one after another.
abbrev pub WriteIsItsPieces : Type 0
WriteIsItsPieces =
    (bytes written : List ℕ) (at page : ℕ) → 1 ≤ page
    → with_pieces written bytes (pieces_of at (length written) page) ≡ overwritten bytes at written
