-- Pages of plain bytes: what a read gathers page by page is what it reads, and what a write leaves of each page.
use Rattle.std.proofs.Common.{◌≡◌, ℕ, zero, suc, ◌+◌, ◌-◌, ◌*◌, ◌/◌, ◌%◌, ◌<◌, ◌≤◌, ◌==◌, min, max, List, [], ◌∷◌, ◌++◌, length, get_or, take, drop, replicate, refl, sym, ap, ap₂, ◌∙◌, arith, inl, inr}
use Rattle.std.specs.List.{flat_map, range_with_len}
use Rattle.std.proofs.lemmas.Bool.{cases_lt, eqb-true, eqb-false}
use Rattle.std.proofs.lemmas.List.{length-append, length-take, length-drop, length-replicate, get_or_append_left, get_or-append_right, get_or-take, get_or-drop, get_or-replicate, get_or_past, append-nil, append_assoc, ext_get_or, drop-drop}
use Rattle.std.proofs.lemmas.Nat.{mod-mul-add}
use Rattle.std.proofs.Math.Seq.{take-add}
use Rattle.std.proofs.Math.Nat.{mul-le-mul_right, div-mul-le_self, le-div_iff_mul-le}
use Rattle.nv_plain.specs.Files.{bytes_at, padded, overwritten}
use Rattle.nv_plain.specs.Pieces.{pages_touched, piece_start, piece_of, piece_bytes}
use Rattle.nv_core.specs.content.PagesAfter.{page_from}
use Rattle.nv_core.specs.content.PlainLaws.{PlainLaws}
use Rattle.nv_core.proofs.state.Choices.{if_both}

-- ---- no write makes a file shorter

pub never_shorter : (plain : PlainLaws) (bytes source : List ℕ) (at : ℕ) → length bytes ≤ length (overwritten bytes at source)
never_shorter plain bytes [] at = omega arith
never_shorter plain bytes (first ∷ rest) at = omega (arith, plain.reach bytes (first ∷ rest) at (omega arith))

-- ---- zeros behind some bytes

length-padded : (bytes : List ℕ) (len : ℕ) → length (padded bytes len) ≡ max (length bytes) len
length-padded bytes len = simp (length-append, length-replicate) (omega arith)

get_or-zeros : (count k : ℕ) → get_or (replicate {A = ℕ} count 0) k 0 ≡ 0
get_or-zeros count k = elim (cases_lt k count) [
  | inl below ↦ get_or-replicate count k 0 0 below
  | inr past ↦ get_or_past (replicate count 0) k 0 (omega (arith, length-replicate {A = ℕ} count 0))
]

get_or-padded : (bytes : List ℕ) (len k : ℕ) → get_or (padded bytes len) k 0 ≡ get_or bytes k 0
get_or-padded bytes len k = elim (cases_lt k (length bytes)) [
  | inl below ↦ get_or_append_left bytes _ 0 k below
  | inr past ↦ get_or-append_right bytes _ (length bytes) k 0 refl past ∙ get_or-zeros (len - length bytes) (k - length bytes) ∙ sym (get_or_past bytes k 0 past)
]

-- ---- pages

pub length-page_from : (bytes : List ℕ) (start page : ℕ) → length (page_from bytes start page) ≡ page
length-page_from bytes start page = let a = length-padded (bytes_at bytes start page) page in let b = length-take page (drop start bytes) in omega (arith, a, b)

pub get_or-page_from : (bytes : List ℕ) (start page k : ℕ) → k < page → get_or (page_from bytes start page) k 0 ≡ get_or bytes (start + k) 0
get_or-page_from bytes start page k low =
    get_or-padded (bytes_at bytes start page) page k
    ∙ get_or-take page (drop start bytes) k 0 low
    ∙ get_or-drop start bytes k 0

-- bytes of a page are bytes of the whole
pub cut_page : (bytes : List ℕ) (start off size page : ℕ) → off + size ≤ page → start + off + size ≤ length bytes
    → bytes_at (page_from bytes start page) off size ≡ bytes_at bytes (start + off) size
cut_page bytes start off size page in_page in_bytes =
    ext_get_or 0 (bytes_at (page_from bytes start page) off size) (bytes_at bytes (start + off) size)
    (omega (arith, length-take size (drop off (page_from bytes start page)), length-drop off (page_from bytes start page), length-page_from bytes start page, length-take size (drop (start + off) bytes), length-drop (start + off) bytes))
    (λ k below. let low : k < size = omega (arith, length-take size (drop off (page_from bytes start page))) in
    get_or-take size (drop off (page_from bytes start page)) k 0 low
    ∙ get_or-drop off (page_from bytes start page) k 0
    ∙ get_or-page_from bytes start page (off + k) (omega (arith, low))
    ∙ ap (λ n. get_or bytes n 0) (omega arith)
    ∙ sym (get_or-drop (start + off) bytes k 0)
    ∙ sym (get_or-take size (drop (start + off) bytes) k 0 low))

-- What a write leaves of a page that it touches: the page, overwritten by the bytes that fall into it. Those begin at an offset of the page,
-- and at another one of the write.
module _ (plain : PlainLaws) (bytes source : List ℕ) (at start page off from size : ℕ) (starts : start + off ≡ at + from) (some : 0 < size) (in_page : off + size ≤ page) (in_write : from + size ≤ length source)
    (low : 0 < off → from ≡ 0) (high : off + size < page → from + size ≡ length source) where
  length_cut : length (take size (drop from source)) ≡ size
  length_cut = omega (arith, length-take size (drop from source), length-drop from source)

  patched_at : (k : ℕ) → k < page → get_or (page_from (overwritten bytes at source) start page) k 0 ≡ get_or (overwritten (page_from bytes start page) off (take size (drop from source))) k 0
  patched_at k below = get_or-page_from (overwritten bytes at source) start page k below ∙ elim (cases_lt k off) [
    | inl before ↦
        plain.outside bytes source at (start + k) (inl (let l = low (omega arith) in omega (arith, starts, l, before)))
        ∙ sym (get_or-page_from bytes start page k below)
        ∙ sym (plain.outside (page_from bytes start page) (take size (drop from source)) off k (inl before))
    | inr past ↦ elim (cases_lt k (off + size)) [
      | inl within ↦
          plain.inside bytes source at (start + k) (omega (arith, starts, past)) (omega (arith, starts, within, in_write))
          ∙ ap (λ n. get_or source n 0) (omega (arith, starts, past))
          ∙ sym (get_or-drop from source (k - off) 0)
          ∙ sym (get_or-take size (drop from source) (k - off) 0 (omega (arith, past, within)))
          ∙ sym (plain.inside (page_from bytes start page) (take size (drop from source)) off k past (omega (arith, within, length_cut)))
      | inr behind ↦
          plain.outside bytes source at (start + k) (inr (let h = high (omega arith) in omega (arith, starts, behind, h)))
          ∙ sym (get_or-page_from bytes start page k below)
          ∙ sym (plain.outside (page_from bytes start page) (take size (drop from source)) off k (inr (omega (arith, behind, length_cut))))
    ]
  ]

  pub patch_page : page_from (overwritten bytes at source) start page ≡ overwritten (page_from bytes start page) off (take size (drop from source))
  patch_page =
      let one = length-page_from (overwritten bytes at source) start page in
      ext_get_or 0 (page_from (overwritten bytes at source) start page) (overwritten (page_from bytes start page) off (take size (drop from source)))
      (omega (arith, one, length-page_from bytes start page, plain.reach (page_from bytes start page) (take size (drop from source)) off (omega (arith, length_cut, some)), length_cut, in_page))
      (λ k below. patched_at k (omega (arith, one, below)))

-- and of a page that it doesn't touch
pub untouched_page : (plain : PlainLaws) (bytes source : List ℕ) (at start page : ℕ) → (start + page ≤ at) → page_from (overwritten bytes at source) start page ≡ page_from bytes start page
untouched_page plain bytes source at start page before =
    let one = length-page_from (overwritten bytes at source) start page in
    ext_get_or 0 (page_from (overwritten bytes at source) start page) (page_from bytes start page) (omega (arith, one, length-page_from bytes start page))
    (λ k below. let low : k < page = omega (arith, one, below) in
    get_or-page_from (overwritten bytes at source) start page k low
    ∙ plain.outside bytes source at (start + k) (inl (omega (arith, low, before)))
    ∙ sym (get_or-page_from bytes start page k low))

pub untouched_above : (plain : PlainLaws) (bytes source : List ℕ) (at start page : ℕ) → at + length source ≤ start → page_from (overwritten bytes at source) start page ≡ page_from bytes start page
untouched_above plain bytes source at start page behind =
    let one = length-page_from (overwritten bytes at source) start page in
    ext_get_or 0 (page_from (overwritten bytes at source) start page) (page_from bytes start page) (omega (arith, one, length-page_from bytes start page))
    (λ k below. let low : k < page = omega (arith, one, below) in
    get_or-page_from (overwritten bytes at source) start page k low
    ∙ plain.outside bytes source at (start + k) (inr (omega (arith, low, behind)))
    ∙ sym (get_or-page_from bytes start page k low))

-- ---- a read, page by page

pages_touched_some : (at len page : ℕ) → 0 < len → pages_touched at len page ≡ (at + len - 1) / page - at / page + 1
pages_touched_some at len page some = if_both (λ n. n ≡ (at + len - 1) / page - at / page + 1) (len == 0) 0 ((at + len - 1) / page - at / page + 1) (λ e. absurd (let z = eqb-true len 0 e in omega arith)) (λ _. refl)

pub pages_touched_none : (at len page : ℕ) → len ≡ 0 → pages_touched at len page ≡ 0
pages_touched_none at len page none = if_both (λ n. n ≡ 0) (len == 0) 0 ((at + len - 1) / page - at / page + 1) (λ _. refl) (λ e. absurd (eqb-false len 0 e none))

-- the page of an offset is at or below that of the last byte
page_rising : (at len page : ℕ) → 1 ≤ page → 0 < len → at / page ≤ (at + len - 1) / page
page_rising at len page some_page some = (le-div_iff_mul-le some_page).1 (omega (arith, div-mul-le_self at page))

-- where page i of some bytes begins, if there is one
pub page_start_below : (at len page i : ℕ) → 1 ≤ page → i < pages_touched at len page → (at / page + i) * page < at + len
page_start_below at len page i some_page below = elim (cases_lt 0 len) [
  | inl some ↦
      let last = (at + len - 1) / page in
      let low : at / page + i ≤ last = omega (arith, page_rising at len page some_page some, pages_touched_some at len page some) in
      omega (arith, mul-le-mul_right page low, div-mul-le_self (at + len - 1) page)
  | inr none ↦ absurd (omega (arith, pages_touched_none at len page (omega arith)))
]

-- the page behind the last one begins at or behind the end
pub page_start_behind : (at len page i : ℕ) → 1 ≤ page → 0 < len → pages_touched at len page ≤ i → at + len ≤ (at / page + i) * page
page_start_behind at len page i some_page some all =
    let last = (at + len - 1) / page in
    let behind : last + 1 ≤ at / page + i = omega (arith, page_rising at len page some_page some, pages_touched_some at len page some) in
    let ends : at + len ≤ (last + 1) * page = omega arith in
    omega (arith, ends, mul-le-mul_right page behind)

module _ (at len page i : ℕ) (some_page : 1 ≤ page) where
  start : ℕ
  start = (at / page + i) * page

  next_start : (at / page + i + 1) * page ≡ start + page
  unfolding start
  next_start = omega arith

  -- the offset is below the end of its page, and so of each later one
  below_next : at < start + page
  unfolding start
  below_next =
      let in_page : at < (at / page + 1) * page = omega arith in
      let up = mul-le-mul_right page (let l : at / page + 1 ≤ at / page + i + 1 = omega arith in l) in
      omega (arith, in_page, up, next_start)

  -- where the piece begins in its page
  pub piece_off : (piece_of at len page i).at % page ≡ piece_start at page i - (at / page + i) * page
  unfolding start
  piece_off =
      let off = piece_start at page i - start in
      let is : piece_start at page i ≡ (at / page + i) * page + off = omega arith in
      ap (λ n. n % page) is ∙ mod-mul-add (at / page + i) page off (omega (arith, below_next))

-- one number more
range_more : {A : Type 0} (f : ℕ → List A) (from count : ℕ) → flat_map f (range_with_len from (suc count)) ≡ flat_map f (range_with_len from count) ++ f (from + count)
range_more f from zero = append-nil (f from) ∙ ap f (omega arith)
range_more f from (suc count) =
    let begin : from + 1 + count ≡ from + suc count = omega arith in
    ap (λ rest. f from ++ rest) (range_more f (from + 1) count)
    ∙ sym (append_assoc (f from) (flat_map f (range_with_len (from + 1) count)) (f (from + 1 + count)))
    ∙ ap (λ last. (f from ++ flat_map f (range_with_len (from + 1) count)) ++ f last) begin

module _ (bytes : List ℕ) (at len page : ℕ) (some_page : 1 ≤ page) (within : at + len ≤ length bytes) (read : ℕ → List ℕ)
    (reads : (i : ℕ) → i < pages_touched at len page → read i ≡ page_from bytes ((at / page + i) * page) page) where
  part : ℕ → List ℕ
  part i = let piece = piece_of at len page i in bytes_at (read i) (piece.at % page) piece.size

  -- how many bytes the pieces before piece i have
  reached : ℕ → ℕ
  reached i = min (at + len) (piece_start at page i) - at

  part_is : (i : ℕ) → i < pages_touched at len page → part i ≡ bytes_at bytes (at + reached i) (piece_of at len page i).size
  unfolding part reached start
  part_is i there =
      let s = (at / page + i) * page in
      let off = piece_start at page i - s in
      let size = (piece_of at len page i).size in
      let low = page_start_below at len page i some_page there in
      let next = next_start at len page i some_page in
      let up = below_next at len page i some_page in
      ap (λ b. bytes_at b ((piece_of at len page i).at % page) size) (reads i there)
      ∙ ap (λ o. bytes_at (page_from bytes s page) o size) (piece_off at len page i some_page)
      ∙ cut_page bytes s off size page (omega (arith, next, up)) (omega (arith, low, within, next, up))
      ∙ ap (λ a. bytes_at bytes a size) (omega (arith, low))

  reached_more : (i : ℕ) → i < pages_touched at len page → reached (i + 1) ≡ reached i + (piece_of at len page i).size
  unfolding reached start
  reached_more i there =
      let low = page_start_below at len page i some_page there in
      let next = next_start at len page i some_page in
      let up = below_next at len page i some_page in
      let again : (at / page + (i + 1)) * page ≡ (at / page + i + 1) * page = ap (λ n. n * page) (omega arith) in
      omega (arith, low, next, up, again)

  front : (i : ℕ) → i ≤ pages_touched at len page → flat_map part (range_with_len 0 i) ≡ take (reached i) (drop at bytes)
  unfolding part reached start
  front zero there =
      let zero_more : at / page + 0 ≡ at / page = omega arith in
      let l = div-mul-le_self at page in
      let z : (at / page + 0) * page ≡ at / page * page = ap (λ n. n * page) zero_more in
      let none : reached 0 ≡ 0 = omega (arith, l, z) in
      sym (ap (λ n. take n (drop at bytes)) none)
  front (suc i) there =
      let one : suc i ≡ i + 1 = omega arith in
      let from : 0 + i ≡ i = omega arith in
      let less : i < pages_touched at len page = omega (arith, there) in
      let here : part (0 + i) ≡ take (piece_of at len page i).size (drop (reached i) (drop at bytes)) =
      ap part from ∙ part_is i less ∙ ap (take (piece_of at len page i).size) (sym (drop-drop (reached i) at bytes)) in
      let more : reached i + (piece_of at len page i).size ≡ reached (suc i) = sym (reached_more i less) ∙ ap reached (sym one) in
      range_more part 0 i
      ∙ ap₂ (λ (one two : List ℕ). one ++ two) (front i (omega (arith, there))) here
      ∙ sym (take-add (reached i) (piece_of at len page i).size (drop at bytes))
      ∙ ap (λ n. take n (drop at bytes)) more

  all_reached : reached (pages_touched at len page) ≡ len
  unfolding reached
  all_reached = elim (cases_lt 0 len) [
    | inl some ↦ let b = page_start_behind at len page (pages_touched at len page) some_page some (omega arith) in omega (arith, b)
    | inr none ↦ omega arith
  ]

  pub read_pages : flat_map (λ i. let piece = piece_of at len page i in bytes_at (read i) (piece.at % page) piece.size) (range_with_len 0 (pages_touched at len page)) ≡ bytes_at bytes at len
  unfolding part reached start
  read_pages = front (pages_touched at len page) (omega arith) ∙ ap (λ n. take n (drop at bytes)) all_reached

-- what a write leaves of the page of one of its pieces
pub patch_piece : (plain : PlainLaws) (bytes source : List ℕ) (at page i : ℕ) → 1 ≤ page → 0 < length source → i < pages_touched at (length source) page
    → page_from (overwritten bytes at source) ((at / page + i) * page) page
    ≡ overwritten (page_from bytes ((at / page + i) * page) page) ((piece_of at (length source) page i).at % page) (piece_bytes source (piece_of at (length source) page i))
unfolding start
patch_piece plain bytes source at page i some_page some there =
    let s = (at / page + i) * page in
    let p = piece_start at page i in
    let size = (piece_of at (length source) page i).size in
    let low = page_start_below at (length source) page i some_page there in
    let next = next_start at (length source) page i some_page in
    let up = below_next at (length source) page i some_page in
    patch_page plain bytes source at s page (p - s) (p - at) size (omega arith) (omega (arith, some, low, next, up)) (omega (arith, next, up)) (omega (arith, low)) (λ behind. omega (arith, behind)) (λ short. omega (arith, short, low, next, up))
    ∙ ap (λ o. overwritten (page_from bytes s page) o (take size (drop (p - at) source))) (sym (piece_off at (length source) page i some_page))
