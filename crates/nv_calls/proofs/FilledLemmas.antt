-- Filled: parts as they stand among the bytes that fill them.
use Rattle.std.proofs.Common.{◌≡◌, ℕ, zero, suc, ◌+◌, ◌-◌, ◌<◌, ◌≤◌, List, [], ◌∷◌, ◌++◌, length, take, drop, get_or, min, inl, inr, refl, sym, ap, ap₂, ◌∙◌, append-nil, arith}
use Rattle.std.specs.List.{concat, sum}
use Rattle.std.proofs.lemmas.List.{drop-drop, drop-take, length-drop, length-take, take-append-drop, take-take, take_all}
use Rattle.std.proofs.lemmas.List.Sums.{sum_by-cons}
use Rattle.std.proofs.lemmas.Bool.{cases_lt}
use Rattle.std.proofs.Math.ListN.{drop_of_length-le}
use Rattle.std.proofs.Math.Seq.{take-length, take-nil}
use Rattle.nv_plain.specs.Calls.{filled}

sum_first : (len : ℕ) (lens : List ℕ) → sum (len ∷ lens) ≡ len + sum lens
sum_first len lens = sum_by-cons (λ x. x) len lens

pub length-filled : (lens bytes : List ℕ) → length (filled lens bytes) ≡ length lens
length-filled [] bytes = refl
length-filled (len ∷ lens) bytes = ap suc (length-filled lens (drop len bytes))

-- where the bytes fill the parts, these joined are the bytes
pub concat-filled : (lens bytes : List ℕ) → sum lens ≡ length bytes → concat (filled lens bytes) ≡ bytes
concat-filled [] [] same = refl
concat-filled [] (byte ∷ bytes) same = absurd (omega (arith, same))
concat-filled (len ∷ lens) bytes same =
    let s = sum_first len lens in
    let d = length-drop len bytes in
    ap (λ rest. take len bytes ++ rest) (concat-filled lens (drop len bytes) (omega (arith, d, s, same))) ∙ take-append-drop len bytes

-- so where some parts are left short
pub concat-filled-within : (lens bytes : List ℕ) → length bytes ≤ sum lens → concat (filled lens bytes) ≡ bytes
concat-filled-within [] [] less = refl
concat-filled-within [] (byte ∷ bytes) less = absurd (omega (arith, less))
concat-filled-within (len ∷ lens) bytes less =
    let s = sum_first len lens in
    let d = length-drop len bytes in
    ap (λ rest. take len bytes ++ rest) (concat-filled-within lens (drop len bytes) (omega (arith, d, s, less))) ∙ take-append-drop len bytes

take_front : (len : ℕ) (bytes more : List ℕ) → len ≤ length bytes → take len (bytes ++ more) ≡ take len bytes
take_front zero bytes more less = refl
take_front (suc len) [] more less = absurd (omega (arith, less))
take_front (suc len) (byte ∷ bytes) more less = ap (λ rest. byte ∷ rest) (take_front len bytes more (omega (arith, less)))

drop_front : (len : ℕ) (bytes more : List ℕ) → len ≤ length bytes → drop len (bytes ++ more) ≡ drop len bytes ++ more
drop_front zero bytes more less = refl
drop_front (suc len) [] more less = absurd (omega (arith, less))
drop_front (suc len) (byte ∷ bytes) more less = drop_front len bytes more (omega (arith, less))

-- one part more, with its bytes
pub filled-more : (lens bytes more : List ℕ) → sum lens ≡ length bytes → filled (lens ++ length more ∷ []) (bytes ++ more) ≡ filled lens bytes ++ more ∷ []
filled-more [] [] more same = ap (λ part. part ∷ []) (take-length more)
filled-more [] (byte ∷ bytes) more same = absurd (omega (arith, same))
filled-more (len ∷ lens) bytes more same =
    let s = sum_first len lens in
    let d = length-drop len bytes in
    let low : len ≤ length bytes = omega (arith, s, same) in
    ap₂ (λ part rest. part ∷ filled (lens ++ length more ∷ []) rest) (take_front len bytes more low) (drop_front len bytes more low)
    ∙ ap (λ rest. take len bytes ∷ rest) (filled-more lens (drop len bytes) more (omega (arith, d, s, same)))

-- one part more, that no byte is left for
pub filled-none : (lens bytes : List ℕ) (len : ℕ) → length bytes ≤ sum lens → filled (lens ++ len ∷ []) bytes ≡ filled lens bytes ++ [] ∷ []
filled-none [] [] zero less = refl
filled-none [] [] (suc len) less = refl
filled-none [] (byte ∷ bytes) len less = absurd (omega (arith, less))
filled-none (first ∷ lens) bytes len less =
    let s = sum_first first lens in
    let d = length-drop first bytes in
    ap (λ rest. take first bytes ∷ rest) (filled-none lens (drop first bytes) len (omega (arith, d, s, less)))

-- part i stands behind those before it
pub get_or-filled : (lens bytes : List ℕ) (i : ℕ) → i < length lens → get_or (filled lens bytes) i [] ≡ take (get_or lens i 0) (drop (sum (take i lens)) bytes)
get_or-filled [] bytes i less = absurd (omega (arith, less))
get_or-filled (len ∷ lens) bytes zero less = refl
get_or-filled (len ∷ lens) bytes (suc i) less =
    get_or-filled lens (drop len bytes) i (omega (arith, less))
    ∙ ap (take (get_or lens i 0)) (drop-drop (sum (take i lens)) len bytes)
    ∙ ap (λ from. take (get_or lens i 0) (drop from bytes)) (sym (sum_first len (take i lens)))

-- what lies between two places below an end is what lies below it from the first place on
pub slice-take : (from len end : ℕ) (bytes : List ℕ) → end ≤ length bytes
    → take (min (from + len) end - min from end) (drop (min from end) bytes) ≡ take len (drop from (take end bytes))
slice-take from len end bytes less = elim (cases_lt end from) [
  | inl past ↦
      let low : length (take end bytes) ≤ from = let t = length-take end bytes in omega (arith, t, past) in
      let none : min (from + len) end - min from end ≡ 0 = omega (arith, past) in
      ap (λ n. take n (drop (min from end) bytes)) none ∙ sym (ap (take len) (drop_of_length-le (take end bytes) low) ∙ take-nil len)
  | inr within ↦
      let whole : end ≡ from + (end - from) = omega (arith, within) in
      let first : min from end ≡ from = omega (arith, within) in
      let count : min (from + len) end - min from end ≡ min len (end - from) = omega (arith, within) in
      ap₂ (λ n m. take n (drop m bytes)) count first
      ∙ sym (ap (take len) (ap (λ n. drop from (take n bytes)) whole ∙ drop-take from (end - from) bytes) ∙ shorter len (end - from) (drop from bytes))
]
  where
    shorter : (n m : ℕ) (bytes : List ℕ) → take n (take m bytes) ≡ take (min n m) bytes
    shorter n m bytes = elim (cases_lt m n) [
      | inl less ↦
          let t = length-take m bytes in
          let all : take n (take m bytes) ≡ take m bytes = take_all n (take m bytes) (omega (arith, t, less)) in
          all ∙ ap (λ k. take k bytes) (let e : m ≡ min n m = omega (arith, less) in e)
      | inr low ↦ take-take n m bytes low ∙ ap (λ k. take k bytes) (let e : n ≡ min n m = omega (arith, low) in e)
    ]

-- a whole room that was lent has what was left in it
pub room_is : (len : ℕ) (old new : List ℕ) → length new ≡ length old → len ≡ length old → take len (new ++ drop (length new) old) ≡ new
room_is len old new size whole =
    let left : length old ≤ length new = omega (arith, size) in
    let all : length new ≤ len = omega (arith, size, whole) in
    ap (λ rest. take len (new ++ rest)) (drop_of_length-le old left) ∙ ap (take len) (append-nil new) ∙ take_all len new all
