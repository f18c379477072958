-- Pieces of a write: each has a byte and lies in one page, and the next one goes on where it ends.
use Rattle.std.proofs.Common.{◌≡◌, ℕ, zero, suc, ◌+◌, ◌-◌, ◌*◌, ◌/◌, ◌%◌, ◌<◌, ◌≤◌, min, if◌then◌else◌, sym, ap, subst, ◌∙◌, arith, mul-le-mul_right}
use Rattle.std.proofs.lemmas.Bool.{ne_eqb}
use Rattle.std.proofs.lemmas.Nat.{mod_below, div-add-mod', mod-mul-add}
use Rattle.nv_plain.specs.Pieces.{pages_touched, piece_of}

module _ (at len page : ℕ) (some : 1 ≤ page) (more : 0 < len) where
  touched : pages_touched at len page ≡ (at + len - 1) / page - at / page + 1
  touched = ap (λ c. if c then 0 else (at + len - 1) / page - at / page + 1) (ne_eqb len 0 (omega (arith, more)))

  -- a page of the write begins before its end
  begins : (i : ℕ) → i < pages_touched at len page → 1 ≤ i → (at / page + i) * page < at + len
  begins i less one =
      let t = touched in
      let le : at / page + i ≤ (at + len - 1) / page = omega (arith, t, less, one) in
      let m : (at / page + i) * page ≤ (at + len - 1) / page * page = mul-le-mul_right page le in
      let x : (at + len - 1) / page * page + (at + len - 1) % page ≡ at + len - 1 = div-add-mod' (at + len - 1) page in
      omega (arith, m, x, more)

  module _ (i : ℕ) (less : i < pages_touched at len page) where
    next_page : (at / page + i + 1) * page ≡ (at / page + i) * page + page
    next_page = omega arith

    first_low : at / page * page ≤ at
    first_low = let a : at / page * page + at % page ≡ at = div-add-mod' at page in omega (arith, a)

    -- the page's start is before the end, and its end behind the offset
    low : (at / page + i) * page < at + len
    low = zero_or i less
      where
        zero_or : (j : ℕ) → j < pages_touched at len page → (at / page + j) * page < at + len
        zero_or zero below = let f = first_low in let z : at / page + zero ≡ at / page = omega arith in subst (λ q. q * page < at + len) (sym z) (omega (arith, f, more))
        zero_or (suc j) below = begins (suc j) below (omega arith)

    high : at < (at / page + i + 1) * page
    high =
        let a : at / page * page + at % page ≡ at = div-add-mod' at page in
        let b : at % page < page = mod_below at page some in
        let m : at / page * page ≤ (at / page + i) * page = mul-le-mul_right page (omega arith) in
        let n = next_page in omega (arith, a, b, m, n)

    pub piece_some : 1 ≤ (piece_of at len page i).size
    piece_some = let l = low in let h = high in let n = next_page in omega (arith, l, h, n, some, more)

    pub piece_end : (piece_of at len page i).at + (piece_of at len page i).size ≡ min (at + len) ((at / page + i + 1) * page)
    piece_end = let l = low in let h = high in let n = next_page in omega (arith, l, h, n, some, more)

    pub piece_in : (piece_of at len page i).at + (piece_of at len page i).size ≤ at + len
    piece_in = let e = piece_end in omega (arith, e)

    pub piece_page : (piece_of at len page i).at % page + (piece_of at len page i).size ≤ page
    piece_page =
        let h = high in let n = next_page in let e = piece_end in
        let rest : (piece_of at len page i).at - (at / page + i) * page < page = omega (arith, h, n, some) in
        let sum : (at / page + i) * page + ((piece_of at len page i).at - (at / page + i) * page) ≡ (piece_of at len page i).at = omega arith in
        let m : (piece_of at len page i).at % page ≡ (piece_of at len page i).at - (at / page + i) * page =
        ap (λ x. x % page) (sym sum) ∙ mod-mul-add (at / page + i) page ((piece_of at len page i).at - (at / page + i) * page) rest in
        omega (arith, m, e, n, sum)

  -- and the next piece goes on there
  pub piece_next : (i : ℕ) → i + 1 < pages_touched at len page → (piece_of at len page (i + 1)).at ≡ (piece_of at len page i).at + (piece_of at len page i).size
  piece_next i less =
      let e = piece_end i (omega (arith, less)) in
      let b = begins (i + 1) less (omega arith) in
      let h = high i (omega (arith, less)) in
      let s : (at / page + (i + 1)) * page ≡ (at / page + i + 1) * page = ap (λ q. q * page) (omega arith) in
      omega (arith, e, b, h, s)
