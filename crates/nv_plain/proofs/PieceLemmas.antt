-- The pieces of a write, one after another, are the write.
use Rattle.std.proofs.Common.{◌≡◌, ℕ, suc, zero, ◌+◌, ◌-◌, ◌*◌, ◌/◌, ◌<◌, ◌≤◌, max, min, List, length, take, drop, map, ap, sym, ◌∙◌, arith, inl, inr}
use Rattle.std.proofs.lemmas.Bool.{cases_lt}
use Rattle.std.proofs.Math.Nat.{mul-le-mul_right, div-mul-le_self, le-div_iff_mul-le}
use Rattle.std.proofs.Math.Seq.{take-add}
use Rattle.std.specs.List.{range_with_len}
use Rattle.std.proofs.lemmas.List.{take_all, length-take}
use Rattle.std.proofs.lemmas.Bool.Decides.{nat_tests}
use Rattle.nv_plain.specs.Files.{overwritten}
use Rattle.nv_plain.specs.Pieces.{pages_touched, piece_start, piece_of, pieces_of, with_piece, with_pieces}
use Rattle.nv_plain.proofs.FileLemmas.{overwritten-append}

pages_touched_none : (at len page : ℕ) → len ≡ 0 → pages_touched at len page ≡ 0
pages_touched_none at len page none = grind (arith, nat_tests)

pages_touched_some : (at len page : ℕ) → 0 < len → pages_touched at len page ≡ (at + len - 1) / page - at / page + 1
pages_touched_some at len page some = grind (arith, nat_tests)

-- the page of an offset is at or below that of the last byte
page_rising : (at len page : ℕ) → 1 ≤ page → 0 < len → at / page ≤ (at + len - 1) / page
page_rising at len page some_page some = (le-div_iff_mul-le some_page).1 (omega (arith, div-mul-le_self at page))

-- where the page of piece i begins, if there is a piece i
pub page_start_below : (at len page i : ℕ) → 1 ≤ page → i < pages_touched at len page → (at / page + i) * page < at + len
page_start_below at len page i some_page below =
    elim (cases_lt 0 len) [
      | inl some ↦
          let last = (at + len - 1) / page in
          let page_of : at / page + i ≤ last =
          omega (arith, page_rising at len page some_page some, pages_touched_some at len page some) in
          omega (arith, mul-le-mul_right page page_of, div-mul-le_self (at + len - 1) page)
      | inr none ↦ absurd (omega (arith, pages_touched_none at len page (omega arith)))
    ]

-- the page behind the last piece begins at or behind the write's end
page_start_behind : (at len page : ℕ) → 1 ≤ page → at + len ≤ max at ((at / page + pages_touched at len page) * page)
page_start_behind at len page some_page =
    elim (cases_lt 0 len) [
      | inl some ↦
          let last = (at + len - 1) / page in
          let behind : at / page + pages_touched at len page ≡ last + 1 =
          omega (arith, page_rising at len page some_page some, pages_touched_some at len page some) in
          let ends : at + len ≤ (last + 1) * page = omega arith in
          omega (arith, ends, ap (λ n. n * page) behind)
      | inr none ↦ omega arith
    ]

-- how many bytes of the write the pieces before piece i have
reached : (at len page i : ℕ) → ℕ
reached at len page i = min (at + len) (piece_start at page i) - at

module _ (at len page : ℕ) (some : 1 ≤ page) where
  reached_none : reached at len page 0 ≡ 0
  unfolding reached
  reached_none = omega (arith, div-mul-le_self at page)

  -- a piece begins where the pieces before it end, before the write's end
  reached_start : (i : ℕ) → i < pages_touched at len page → at + reached at len page i ≡ piece_start at page i
  unfolding reached
  reached_start i below = omega (arith, page_start_below at len page i some below)

  reached_within : (i : ℕ) → reached at len page i ≤ len
  unfolding reached
  reached_within i = omega arith

  reached_more : (i : ℕ) → i < pages_touched at len page → reached at len page i + (piece_of at len page i).size ≡ reached at len page (i + 1)
  unfolding reached
  reached_more i below =
      let in_page : at < (at / page + 1) * page = omega arith in
      omega (arith, page_start_below at len page i some below, in_page)

  reached_all : (i : ℕ) → i ≡ pages_touched at len page → reached at len page i ≡ len
  unfolding reached
  reached_all i all = rw all (omega (arith, page_start_behind at len page some))

module _ (bytes written : List ℕ) (at page : ℕ) (some : 1 ≤ page) where
  -- the file after the pieces before piece i
  state : ℕ → List ℕ
  state i = overwritten bytes at (take (reached at (length written) page i) written)

  state_more : (i : ℕ) → i < pages_touched at (length written) page → with_piece written (state i) (piece_of at (length written) page i) ≡ state (i + 1)
  unfolding state
  state_more i below =
      let len = length written in
      let before = reached at len page i in
      let size = (piece_of at len page i).size in
      let starts : piece_start at page i ≡ at + length (take before written) =
      omega (arith, length-take before written, reached_within at len page some i, reached_start at len page some i below) in
      let from : piece_start at page i - at ≡ before = omega (arith, reached_start at len page some i below) in
      let taken = take-add before size written in
      let joined = overwritten-append bytes (take before written) (take size (drop before written)) at in
      let more = reached_more at len page some i below in
      ap (λ n. overwritten (state i) (piece_start at page i) (take size (drop n written))) from
      ∙ ap (λ n. overwritten (state i) n (take size (drop before written))) starts
      ∙ (joined ∙ ap (overwritten bytes at) (sym taken) ∙ ap (λ n. overwritten bytes at (take n written)) more)

  state_all : (n i : ℕ) → i + n ≡ pages_touched at (length written) page
      → with_pieces written (state i) (map (piece_of at (length written) page) (range_with_len i n)) ≡ overwritten bytes at written
  unfolding state
  state_all zero i ends =
      ap (overwritten bytes at) (take_all _ written (omega (arith, reached_all at (length written) page some i (omega arith))))
  state_all (suc n) i ends =
      ap (λ bytes. with_pieces written bytes (map (piece_of at (length written) page) (range_with_len (i + 1) n))) (state_more i (omega arith))
      ∙ state_all n (i + 1) (omega arith)

  pub with_pieces-pieces_of : with_pieces written bytes (pieces_of at (length written) page) ≡ overwritten bytes at written
  unfolding state
  with_pieces-pieces_of =
      ap (λ n. with_pieces written (overwritten bytes at (take n written)) (pieces_of at (length written) page)) (sym (reached_none at (length written) page some))
      ∙ state_all (pages_touched at (length written) page) 0 (omega arith)
