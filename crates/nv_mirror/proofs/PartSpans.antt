-- Part spans: which bytes of a page belong to a read's reply, by where the page begins.
use Rattle.std.proofs.Common.{◌≡◌, ℕ, zero, suc, ◌+◌, ◌-◌, ◌*◌, ◌/◌, ◌%◌, ◌<◌, ◌≤◌, if◌then◌else◌, min, sym, ap, ◌∙◌, arith, mul-le-mul_right}
use Rattle.std.proofs.lemmas.Bool.{ne_eqb}
use Rattle.std.proofs.lemmas.Nat.{mod_below, div-add-mod', mod-mul-add}
use Rattle.std.proofs.Math.Nat.{le-div_iff_mul-le}
use Rattle.nv_plain.specs.Pieces.{pages_touched, piece_of}

module _ (at len page : ℕ) (some : 1 ≤ page) where
  abbrev pub begin_at : ℕ → ℕ
  begin_at i = (at / page + i) * page

  touched : 0 < len → pages_touched at len page ≡ (at + len - 1) / page - at / page + 1
  touched more = ap (λ c. if c then 0 else (at + len - 1) / page - at / page + 1) (ne_eqb len 0 (omega (arith, more)))

  -- what begins before the end is one of them
  pub low_touched : (i : ℕ) → 0 < len → begin_at i < at + len → i < pages_touched at len page
  low_touched i more low =
      let t = touched more in
      let below : (at / page + i) * page ≤ at + len - 1 = omega (arith, low) in
      let quotient : at / page + i ≤ (at + len - 1) / page = (le-div_iff_mul-le {k = page} {x = at / page + i} {y = at + len - 1} some).1 below in
      omega (arith, t, quotient)

  next_begin : (i : ℕ) → begin_at (i + 1) ≡ begin_at i + page
  next_begin i = omega arith

  -- and the other way
  pub touched_low : (i : ℕ) → i < pages_touched at len page → begin_at i < at + len
  touched_low i less = by i less
    where
      more : 0 < len
      more = some_len len less
        where
          some_len : (n : ℕ) → i < pages_touched at n page → 0 < n
          some_len zero below = absurd (omega (arith, below))
          some_len (suc n) below = omega arith

      by : (j : ℕ) → j < pages_touched at len page → begin_at j < at + len
      by zero below = let a : at / page * page + at % page ≡ at = div-add-mod' at page in let z : begin_at zero ≡ at / page * page = omega arith in omega (arith, a, z, more)
      by (suc j) below =
          let t = touched more in
          let quotient : at / page + suc j ≤ (at + len - 1) / page = omega (arith, t, below) in
          let m : begin_at (suc j) ≤ (at + len - 1) / page * page = mul-le-mul_right page quotient in
          let a : (at + len - 1) / page * page + (at + len - 1) % page ≡ at + len - 1 = div-add-mod' (at + len - 1) page in
          omega (arith, m, a, more)

  module _ (i : ℕ) where
    -- its page ends behind where the reply begins
    high : at < begin_at i + page
    high =
        let a : at / page * page + at % page ≡ at = div-add-mod' at page in
        let b : at % page < page = mod_below at page some in
        let m : at / page * page ≤ begin_at i = mul-le-mul_right page (omega arith) in
        omega (arith, a, b, m)

    next_page : (at / page + i + 1) * page ≡ begin_at i + page
    next_page = omega arith

    -- the offset of its first byte in the page
    pub part_offset : (piece_of at len page i).at % page ≡ at - (at / page + i) * page
    part_offset =
        let h = high in
        let rest : at - begin_at i < page = omega (arith, h, some) in
        let sum : begin_at i + (at - begin_at i) ≡ (piece_of at len page i).at = omega arith in
        ap (λ x. x % page) (sym sum) ∙ mod-mul-add (at / page + i) page (at - begin_at i) rest

    -- and how many they are
    pub part_size : i < pages_touched at len page → (piece_of at len page i).size ≡ min (at + len - (at / page + i) * page) page - (at - (at / page + i) * page)
    part_size less = let low = touched_low i less in let h = high in let n = next_page in omega (arith, low, h, n)

    pub part_inside : i < pages_touched at len page → (piece_of at len page i).from + (piece_of at len page i).size ≤ len
    part_inside less = let low = touched_low i less in let h = high in let n = next_page in omega (arith, low, h, n)
