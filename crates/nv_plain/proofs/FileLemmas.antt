-- What `overwritten` leaves.
use lib.Seq.{paste}
use Rattle.std.proofs.Common.{◌≡◌, ℕ, ◌+◌, ◌-◌, ◌<◌, ◌≤◌, max, List, [], ◌∷◌, ◌++◌, length, get_or, take, drop, replicate, refl, ap, sym, ◌∙◌, arith, inl, inr, add-zero}
use Rattle.std.proofs.lemmas.Bool.{cases_lt}
use Rattle.std.proofs.lemmas.List.{length-append, length-take, length-drop, length-replicate, get_or_append_left, get_or-append_right, get_or-take, get_or-drop, get_or-replicate, get_or_past, append-nil, append_assoc, take_at, take_all, drop_at, ext_get_or, drop-drop}
use Rattle.nv_plain.specs.Files.{padded, overwritten}

pub length-padded : (bytes : List ℕ) (len : ℕ) → length (padded bytes len) ≡ max (length bytes) len
length-padded bytes len = simp (length-append, length-replicate) (omega arith)

-- at the default 0, zeros read like what stands past an end
get_or-zeros : (count k : ℕ) → get_or (replicate {A = ℕ} count 0) k 0 ≡ 0
get_or-zeros count k =
    elim (cases_lt k count) [
      | inl below ↦ get_or-replicate count k 0 0 below
      | inr past ↦ get_or_past (replicate count 0) k 0 (omega (arith, length-replicate {A = ℕ} count 0))
    ]

pub get_or-padded : (bytes : List ℕ) (len k : ℕ) → get_or (padded bytes len) k 0 ≡ get_or bytes k 0
get_or-padded bytes len k =
    elim (cases_lt k (length bytes)) [
      | inl below ↦ get_or_append_left bytes _ 0 k below
      | inr past ↦ get_or-append_right bytes _ (length bytes) k 0 refl past ∙ get_or-zeros (len - length bytes) (k - length bytes) ∙ sym (get_or_past bytes k 0 past)
    ]

-- what stands before the data
front : List ℕ → ℕ → List ℕ
front bytes at = take at (padded bytes at)

length-front : (bytes : List ℕ) (at : ℕ) → length (front bytes at) ≡ at
unfolding front
length-front bytes at = length-take at (padded bytes at) ∙ omega (arith, length-padded bytes at)

overwritten_some : (bytes source : List ℕ) (at : ℕ) → 0 < length source → overwritten bytes at source ≡ (front bytes at ++ source) ++ drop (at + length source) bytes
unfolding front
overwritten_some bytes [] at h = absurd (omega arith)
overwritten_some bytes (first ∷ rest) at h = refl

module _ (bytes source : List ℕ) (at : ℕ) where
  length_written : length (front bytes at ++ source) ≡ at + length source
  length_written = rw length-append (omega (arith, length-front bytes at))

  pub length-overwritten : 0 < length source → length (overwritten bytes at source) ≡ max (length bytes) (at + length source)
  length-overwritten some = rw (overwritten_some bytes source at some) (simp (length-append, length-drop, length-front) (omega arith))

  pub get_or-overwritten_inside : (k : ℕ) → at ≤ k → k < at + length source → get_or (overwritten bytes at source) k 0 ≡ get_or source (k - at) 0
  get_or-overwritten_inside k low high =
      rw (overwritten_some bytes source at (omega arith))
      (get_or_append_left (front bytes at ++ source) _ 0 k (omega (arith, length_written))
      ∙ get_or-append_right (front bytes at) source at k 0 (length-front bytes at) low)

pub get_or-overwritten_below : (bytes source : List ℕ) (at k : ℕ) → k < at → get_or (overwritten bytes at source) k 0 ≡ get_or bytes k 0
unfolding front
get_or-overwritten_below bytes [] at k below = refl
get_or-overwritten_below bytes (first ∷ rest) at k below =
    let source = first ∷ rest in
    get_or_append_left (front bytes at ++ source) _ 0 k (omega (arith, length_written bytes source at))
    ∙ get_or_append_left (front bytes at) source 0 k (omega (arith, length-front bytes at))
    ∙ get_or-take at (padded bytes at) k 0 below
    ∙ get_or-padded bytes at k

pub get_or-overwritten_above : (bytes source : List ℕ) (at k : ℕ) → at + length source ≤ k → get_or (overwritten bytes at source) k 0 ≡ get_or bytes k 0
unfolding front
get_or-overwritten_above bytes [] at k above = refl
get_or-overwritten_above bytes (first ∷ rest) at k above =
    let source = first ∷ rest in
    let after = at + length source in
    get_or-append_right (front bytes at ++ source) (drop after bytes) after k 0 (length_written bytes source at) above
    ∙ get_or-drop after bytes (k - after) 0
    ∙ ap (λ i. get_or bytes i 0) (omega arith)

-- a gap reads as zeros
pub get_or-overwritten_gap : (bytes source : List ℕ) (at k : ℕ) → length bytes ≤ k → k < at → get_or (overwritten bytes at source) k 0 ≡ 0
get_or-overwritten_gap bytes source at k past below =
    get_or-overwritten_below bytes source at k below ∙ get_or_past bytes k 0 past

-- no write makes a file shorter
pub length-overwritten_grows : (bytes source : List ℕ) (at : ℕ) → length bytes ≤ length (overwritten bytes at source)
length-overwritten_grows bytes [] at = omega arith
length-overwritten_grows bytes (first ∷ rest) at = omega (arith, length-overwritten bytes (first ∷ rest) at (omega arith))

-- a write that ends within a file keeps its length
pub length-overwritten_within : (bytes source : List ℕ) (at : ℕ) → at + length source ≤ length bytes → length (overwritten bytes at source) ≡ length bytes
length-overwritten_within bytes [] at within = refl
length-overwritten_within bytes (first ∷ rest) at within = omega (arith, length-overwritten bytes (first ∷ rest) at (omega arith))

-- a write where what was written so far ends
overwritten_behind : (start rest source : List ℕ) (at : ℕ) → length start ≡ at → 0 < length source → overwritten (start ++ rest) at source ≡ (start ++ source) ++ drop (length source) rest
unfolding front
overwritten_behind start rest source at ends some =
    let zeros = replicate {A = ℕ} (at - length (start ++ rest)) 0 in
    let same_front : front (start ++ rest) at ≡ start = ap (take at) (append_assoc start rest zeros) ∙ take_at start (rest ++ zeros) at ends in
    let same_end : drop (at + length source) (start ++ rest) ≡ drop (length source) rest =
    sym (drop-drop (length source) at (start ++ rest)) ∙ ap (drop (length source)) (drop_at start rest at ends) in
    overwritten_some (start ++ rest) source at some ∙ cc

-- two writes, the second where the first ends, are one write
pub overwritten-append : (bytes first second : List ℕ) (at : ℕ) → overwritten (overwritten bytes at first) (at + length first) second ≡ overwritten bytes at (first ++ second)
overwritten-append bytes [] second at = rw add-zero refl
overwritten-append bytes (x ∷ xs) [] at = ap (overwritten bytes at) (sym (append-nil (x ∷ xs)))
overwritten-append bytes (x ∷ xs) (y ∷ ys) at =
    let first = x ∷ xs in
    let second = y ∷ ys in
    let behind = overwritten_behind (front bytes at ++ first) (drop (at + length first) bytes) second (at + length first) (length_written bytes first at) (omega arith) in
    let whole = overwritten_some bytes first at (omega arith) in
    let both = overwritten_some bytes (first ++ second) at (omega arith) in
    let lengths : at + length first + length second ≡ at + length (first ++ second) = omega (arith, length-append first second) in
    ap (λ v. overwritten v (at + length first) second) whole
    ∙ behind
    ∙ simp (append_assoc, drop-drop) (cc)
    ∙ sym both

-- what is pasted over bytes that reach at least as far
pub overwritten-padded : (bytes source : List ℕ) (at : ℕ) → 0 < length source → paste (padded bytes (at + length source)) at source (length source) ≡ overwritten bytes at source
unfolding front
overwritten-padded bytes source at some =
    let after = at + length source in
    let grown = padded bytes after in
    let padding : length grown ≡ max (length bytes) after = length-padded bytes after in
    let same_front : take at grown ≡ take at (padded bytes at) =
    ext_get_or 0 (take at grown) (take at (padded bytes at))
    (omega (arith, length-take at grown, length-take at (padded bytes at), length-padded bytes at))
    (λ k below. let k_below : k < at = omega (arith, length-take at grown) in
    get_or-take at grown k 0 k_below
    ∙ get_or-padded bytes after k
    ∙ sym (get_or-padded bytes at k)
    ∙ sym (get_or-take at (padded bytes at) k 0 k_below)) in
    let same_end : drop after grown ≡ drop after bytes =
    ext_get_or 0 (drop after grown) (drop after bytes)
    (omega (arith, length-drop after grown, length-drop after bytes))
    (λ k below. get_or-drop after grown k 0
    ∙ get_or-padded bytes after (after + k)
    ∙ sym (get_or-drop after bytes k 0)) in
    let whole = overwritten_some bytes source at some in
    let all = take_all (length source) source (omega arith) in
    cc
