-- Lists made along a range of numbers.
use Rattle.std.proofs.Common.{◌≡◌, ℕ, ◌+◌, ◌*◌, ◌<◌, ◌≤◌, List, ◌∷◌, ◌++◌, length, map, take, drop, zero, suc, refl, sym, ap, ◌∙◌, arith, append_assoc, zero-add, add-zero, length-append}
use Rattle.std.proofs.Math.Nat.{suc-add, mul-zero}
use Rattle.std.proofs.Math.Seq.{take-add}
use Rattle.std.proofs.lemmas.List.{append-nil, length-take, length-drop, drop-drop}
use Rattle.std.proofs.lemmas.Slice.{take-put_mid}
use Rattle.std.specs.Int.{to_le_bytes, w64}
use Rattle.std.specs.List.{flat_map, range_with_len}
use borrow.Rule.Slice.PartMut.{put_mid}

-- functions that are the same number by number
pub map-same : {A : Type 0} (f g : ℕ → A) (from count : ℕ) → ((k : ℕ) → from ≤ k → k < from + count → f k ≡ g k) → map f (range_with_len from count) ≡ map g (range_with_len from count)
map-same f g from zero each = refl
map-same f g from (suc count) each =
    ap (λ first. first ∷ map f (range_with_len (from + 1) count)) (each from (omega arith) (omega arith))
    ∙ ap (λ rest. g from ∷ rest) (map-same f g (from + 1) count (λ k low high. each k (omega arith) (omega arith)))

pub flat_map-same : {A : Type 0} (f g : ℕ → List A) (from count : ℕ) → ((k : ℕ) → from ≤ k → k < from + count → f k ≡ g k) → flat_map f (range_with_len from count) ≡ flat_map g (range_with_len from count)
flat_map-same f g from zero each = refl
flat_map-same f g from (suc count) each =
    ap (λ front. front ++ flat_map f (range_with_len (from + 1) count)) (each from (omega arith) (omega arith))
    ∙ ap (λ rest. g from ++ rest) (flat_map-same f g (from + 1) count (λ k low high. each k (omega arith) (omega arith)))

-- a range in two parts
pub flat_map-split : {A : Type 0} (f : ℕ → List A) (from count more : ℕ) → flat_map f (range_with_len from (count + more)) ≡ flat_map f (range_with_len from count) ++ flat_map f (range_with_len (from + count) more)
flat_map-split f from zero more = rw (zero-add more, add-zero from)
flat_map-split f from (suc count) more =
    let begin : from + 1 + count ≡ from + suc count = omega arith in
    rw (suc-add count more)
    (ap (λ rest. f from ++ rest) (flat_map-split f (from + 1) count more)
    ∙ sym (append_assoc (f from) (flat_map f (range_with_len (from + 1) count)) (flat_map f (range_with_len (from + 1 + count) more)))
    ∙ ap (λ start. f from ++ flat_map f (range_with_len (from + 1) count) ++ flat_map f (range_with_len start more)) begin)

-- one number more
pub flat_map-more : {A : Type 0} (f : ℕ → List A) (from count : ℕ) → flat_map f (range_with_len from (count + 1)) ≡ flat_map f (range_with_len from count) ++ f (from + count)
flat_map-more f from count =
    flat_map-split f from count 1 ∙ ap (λ last. flat_map f (range_with_len from count) ++ last) (append-nil (f (from + count)))

-- a range that begins one later
pub flat_map-after_one : {A : Type 0} (f : ℕ → List A) (from count : ℕ) → flat_map f (range_with_len (1 + from) count) ≡ flat_map (λ k. f (1 + k)) (range_with_len from count)
flat_map-after_one f from zero = refl
flat_map-after_one f from (suc count) =
    let next : 1 + from + 1 ≡ 1 + (from + 1) = omega arith in
    ap (λ rest. f (1 + from) ++ rest)
    (ap (λ start. flat_map f (range_with_len start count)) next ∙ flat_map-after_one f (from + 1) count)

-- some parts of a list, all of one size, are a part of it
pub parts_joined : {A : Type 0} (size : ℕ) (xs : List A) (from count : ℕ) → flat_map (λ k. take size (drop (size * k) xs)) (range_with_len from count) ≡ take (size * count) (drop (size * from) xs)
parts_joined size xs from zero = rw (mul-zero size)
parts_joined size xs from (suc count) =
    let all : size + size * count ≡ size * suc count = omega arith in
    let next : size * (from + 1) ≡ size * from + size = omega arith in
    ap (λ rest. take size (drop (size * from) xs) ++ rest)
    (parts_joined size xs (from + 1) count
    ∙ ap (λ n. take (size * count) (drop n xs)) next
    ∙ ap (take (size * count)) (sym (drop-drop size (size * from) xs)))
    ∙ sym (take-add size (size * count) (drop (size * from) xs))
    ∙ ap (λ n. take n (drop (size * from) xs)) all

-- ---- bytes put into a buffer

pub length-put_mid : (at size : ℕ) (xs ys : List ℕ) → at + size ≤ length xs → length ys ≡ size → length (put_mid at size xs ys) ≡ length xs
length-put_mid at size xs ys fits is =
    omega (
      arith,
      length-append (take at xs) (ys ++ drop size (drop at xs)),
      length-append ys (drop size (drop at xs)),
      length-take at xs,
      length-drop size (drop at xs),
      length-drop at xs,
    )

-- one word more at the end of those that stand in front, which are counted from some number on
pub word_put : (words : ℕ → ℕ) (from count value : ℕ) (bytes copy : List ℕ) (size : ℕ) → 8 * count ≤ length bytes → copy ≡ to_le_bytes w64 value → value ≡ words (from + count) → take (8 * count) bytes ≡ flat_map (λ k. to_le_bytes w64 (words k)) (range_with_len from count) → take (8 * (count + 1)) (put_mid (8 * count) size bytes copy) ≡ flat_map (λ k. to_le_bytes w64 (words k)) (range_with_len from (count + 1))
word_put words from count value bytes copy size fits is value_is before =
    take-put_mid (8 * count) size bytes copy (8 * (count + 1)) (omega (arith, ap length is)) fits
    ∙ ap (λ front. front ++ copy) before
    ∙ ap (λ last. flat_map (λ k. to_le_bytes w64 (words k)) (range_with_len from count) ++ last) (is ∙ ap (to_le_bytes w64) value_is)
    ∙ sym (flat_map-more (λ k. to_le_bytes w64 (words k)) from count)
