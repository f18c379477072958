-- Bytes in lines: what the words of a line read as.
use Rattle.std.proofs.Common.{◌≡◌, ℕ, ◌+◌, ◌-◌, ◌*◌, ◌<◌, ◌≤◌, min, inl, inr, List, ◌++◌, length, get_or, take, drop, replicate, refl, sym, ap, ◌∙◌, arith, length-append, length-drop}
use Rattle.std.proofs.Math.Seq.{take-append-add}
use Rattle.std.proofs.lemmas.Bool.{cases_lt}
use Rattle.std.proofs.lemmas.List.{append-nil, length-take, length-replicate, take_all, take-append-le, drop-append-le, take-replicate, take-take, take_at, get_or-take, get_or-drop, get_or_past, get_or_append_left, get_or-append_right, get_or-replicate}
use Rattle.std.proofs.lemmas.Nat.{le_bytes_8}
use Rattle.std.specs.Int.{to_le_bytes, w64}
use Rattle.nv_plain.specs.Files.{padded}
use Rattle.nv_plain.specs.Images.{PartImage, line_bytes, lines_bytes, lines_for}
use Rattle.nv_pmem.specs.Steps.{word_in}
use Rattle.nv_entry.specs.Group.{data_line}
use Rattle.nv_pmem.proofs.Ranges.{flat_map-same, flat_map-after_one, parts_joined}

-- each is a byte
abbrev pub AreBytes : List ℕ → Type 0
AreBytes bytes = (i : ℕ) → get_or bytes i 0 < 256

pub bytes_taken : (count : ℕ) (bytes : List ℕ) → AreBytes bytes → AreBytes (take count bytes)
bytes_taken count bytes are i = elim (cases_lt i count) [
  | inl less ↦ rw (get_or-take count bytes i 0 less) (are i)
  | inr past ↦ rw (get_or_past (take count bytes) i 0 (omega (arith, length-take count bytes))) (omega arith)
]

pub bytes_dropped : (count : ℕ) (bytes : List ℕ) → AreBytes bytes → AreBytes (drop count bytes)
bytes_dropped count bytes are i = rw (get_or-drop count bytes i 0) (are (count + i))

zeros_are_bytes : (count : ℕ) → AreBytes (replicate count 0)
zeros_are_bytes count i = elim (cases_lt i count) [
  | inl less ↦ rw (get_or-replicate {A = ℕ} count i 0 0 less) (omega arith)
  | inr past ↦ rw (get_or_past (replicate {A = ℕ} count 0) i 0 (omega (arith, length-replicate {A = ℕ} count 0))) (omega arith)
]

bytes_padded : (count : ℕ) (bytes : List ℕ) → AreBytes bytes → AreBytes (bytes ++ replicate count 0)
bytes_padded count bytes are i = elim (cases_lt i (length bytes)) [
  | inl less ↦ rw (get_or_append_left bytes (replicate count 0) 0 i less) (are i)
  | inr past ↦ rw (get_or-append_right bytes (replicate count 0) (length bytes) i 0 refl past) (zeros_are_bytes count (i - length bytes))
]

length_word : (bytes : List ℕ) (j : ℕ) → length bytes ≡ 64 → j < 0 + 8 → length (take 8 (drop (8 * j) bytes)) ≡ 8
length_word bytes j long high = omega (arith, length-take 8 (drop (8 * j) bytes), length-drop (8 * j) bytes)

-- the words of 64 bytes read as these bytes
pub line_bytes-words : (words : ℕ → ℕ) (bytes : List ℕ) → length bytes ≡ 64 → AreBytes bytes → ((j : ℕ) → j < 8 → words j ≡ word_in bytes j) → line_bytes words ≡ bytes
line_bytes-words words bytes long are each =
    flat_map-same (λ j. to_le_bytes w64 (words j)) (λ j. take 8 (drop (8 * j) bytes)) 0 8 (λ j _ high.
    le_bytes_8 (take 8 (drop (8 * j) bytes)) (words j) (length_word bytes j long high) (bytes_taken 8 (drop (8 * j) bytes) (bytes_dropped (8 * j) bytes are)) (each j (omega arith)))
    ∙ parts_joined 8 bytes 0 8
    ∙ take_all 64 bytes (omega arith)

-- ---- the last line is padded

-- the first of a list, padded, are the first of the padded list
padded_part : (xs : List ℕ) (size more : ℕ) → size ≤ length xs + more → padded (take size xs) size ≡ take size (xs ++ replicate more 0)
padded_part xs size more enough = elim (cases_lt (length xs) size) [
  | inl less ↦
      let all : take size xs ≡ xs = take_all size xs (omega arith) in
      let size_is : length xs + (size - length xs) ≡ size = omega arith in
      ap (λ these. padded these size) all
      ∙ ap (λ these. xs ++ these) (sym (take-replicate (size - length xs) more 0 (omega arith)))
      ∙ sym (take-append-add xs (replicate more 0) (size - length xs))
      ∙ ap (λ n. take n (xs ++ replicate more 0)) size_is
  | inr enough_already ↦
      let none : size - length (take size xs) ≡ 0 = omega (arith, length-take size xs) in
      ap (λ n. take size xs ++ replicate n 0) none
      ∙ append-nil (take size xs)
      ∙ sym (take-append-le size xs (replicate more 0) enough_already)
]

pub length-data_line : (bytes : List ℕ) (k : ℕ) → length (data_line bytes k) ≡ 64
length-data_line bytes k =
    let part = take 64 (drop (64 * k) bytes) in
    omega (arith, length-append part (replicate (64 - length part) 0), length-replicate {A = ℕ} (64 - length part) 0, length-take 64 (drop (64 * k) bytes))

pub bytes_in_data_line : (bytes : List ℕ) (k : ℕ) → AreBytes bytes → AreBytes (data_line bytes k)
bytes_in_data_line bytes k are =
    bytes_padded _ (take 64 (drop (64 * k) bytes)) (bytes_taken 64 (drop (64 * k) bytes) (bytes_dropped (64 * k) bytes are))

-- a data line, cut from the bytes
pub data_line-cut : (bytes : List ℕ) (k end : ℕ) → 64 * k ≤ length bytes → end ≡ min (length bytes) (64 * k + 64) → padded (take (end - 64 * k) (drop (64 * k) bytes)) 64 ≡ data_line bytes k
data_line-cut bytes k end inside is =
    let rest = drop (64 * k) bytes in
    ap (λ part. padded part 64)
    (elim (cases_lt (length bytes) (64 * k + 64)) [
      | inl short ↦
          take_all (end - 64 * k) rest (omega (arith, length-drop (64 * k) bytes))
          ∙ sym (take_all 64 rest (omega (arith, length-drop (64 * k) bytes)))
      | inr long ↦ let size : end - 64 * k ≡ 64 = omega arith in ap (λ n. take n rest) size
    ])

-- the data lines are parts of the bytes, which are padded
data_line-part : (bytes : List ℕ) (k : ℕ) → k < lines_for (length bytes) → data_line bytes k ≡ take 64 (drop (64 * k) (padded bytes (64 * lines_for (length bytes))))
data_line-part bytes k inside =
    let more = 64 * lines_for (length bytes) - length bytes in
    padded_part (drop (64 * k) bytes) 64 more (omega (arith, length-drop (64 * k) bytes))
    ∙ ap (take 64) (sym (drop-append-le (64 * k) bytes (replicate more 0) (omega arith)))

-- Lines that read as the data lines of some bytes read as the bytes.
pub lines_bytes-data : (part : PartImage) (bytes : List ℕ) → ((k : ℕ) → k < lines_for (length bytes) → line_bytes (part (1 + k)) ≡ data_line bytes k) → take (length bytes) (lines_bytes part 1 (lines_for (length bytes))) ≡ bytes
lines_bytes-data part bytes each =
    let lines = lines_for (length bytes) in
    let whole = padded bytes (64 * lines) in
    ap (take (length bytes))
    (flat_map-after_one (λ line. line_bytes (part line)) 0 lines
    ∙ flat_map-same (λ k. line_bytes (part (1 + k))) (λ k. take 64 (drop (64 * k) whole)) 0 lines (λ k _ high.
    each k (omega arith) ∙ data_line-part bytes k (omega arith))
    ∙ parts_joined 64 whole 0 lines)
    ∙ take-take (length bytes) (64 * lines) whole (omega arith)
    ∙ take_at bytes (replicate (64 * lines - length bytes) 0) (length bytes) refl
