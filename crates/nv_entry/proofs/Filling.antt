-- Buffers that are filled from the front.
use Rattle.std.proofs.Common.{◌≡◌, ℕ, ◌+◌, ◌-◌, ◌*◌, ◌≤◌, min, List, [], ◌∷◌, ◌++◌, length, take, drop, zero, suc, refl, sym, ap, ◌∙◌, subst, arith, length-append, length-drop, zero-add}
use Rattle.std.proofs.Math.Seq.{take-append-add}
use Rattle.std.proofs.lemmas.List.{length-take, take_all}
use Rattle.std.proofs.lemmas.Slice.{take-put_mid}
use Rattle.std.specs.Int.{to_le_bytes, w64}
use Rattle.std.specs.List.{flat_map, range_with_len}
use borrow.Rule.Slice.PartMut.{put_mid}
use Rattle.nv_plain.specs.Images.{PartImage, line_bytes, lines_bytes}
use Rattle.nv_pmem.specs.Part.{part_word}
use Rattle.nv_pmem.specs.Moments.{Tells}
use Rattle.nv_pmem.specs.Steps.{PartHistory}
use Rattle.nv_pmem.proofs.Ranges.{flat_map-more, length-put_mid, word_put}

-- ---- a word of a line

-- the bytes of the first so many words of a line
abbrev pub first_words : (ℕ → ℕ) → ℕ → List ℕ
first_words words count = flat_map (λ word. to_le_bytes w64 (words word)) (range_with_len 0 count)

-- one word more of a part's line
pub told_word_put : (history : PartHistory) (line word value : ℕ) (bytes copy : List ℕ) (size : ℕ) → 8 * word ≤ length bytes → copy ≡ to_le_bytes w64 value → Tells history (λ now. take (8 * word) bytes ≡ first_words (part_word now line) word) → Tells history (λ now. value ≡ part_word now line word) → Tells history (λ now. take (8 * (word + 1)) (put_mid (8 * word) size bytes copy) ≡ first_words (part_word now line) (word + 1))
told_word_put [] line word value bytes copy size fits is before loaded = tt
told_word_put (now ∷ past) line word value bytes copy size fits is before loaded =
    word_put (part_word now line) 0 word value bytes copy size fits is (loaded ∙ ap (part_word now line) (sym (zero-add word))) before

-- ---- a line of a part

length-lines_bytes : (part : PartImage) (from count : ℕ) → length (lines_bytes part from count) ≡ 64 * count
length-lines_bytes part from zero = refl
length-lines_bytes part from (suc count) =
    omega (arith, length-append (line_bytes (part from)) (lines_bytes part (from + 1) count), length-lines_bytes part (from + 1) count)

line_put : (part : PartImage) (k end : ℕ) (into copy line : List ℕ) → 64 * k ≤ end → 64 * k ≤ length into → copy ≡ take (end - 64 * k) line → length copy ≡ end - 64 * k → line ≡ line_bytes (part (1 + k)) → take (64 * k) into ≡ take (64 * k) (lines_bytes part 1 k) → take end (put_mid (64 * k) (end - 64 * k) into copy) ≡ take end (lines_bytes part 1 (k + 1))
line_put part k end into copy line rises fits is size line_is before =
    let front = lines_bytes part 1 k in
    let end_is : length front + (end - 64 * k) ≡ end = omega (arith, length-lines_bytes part 1 k) in
    take-put_mid (64 * k) (end - 64 * k) into copy end (omega arith) fits
    ∙ ap (λ these. these ++ copy) (before ∙ take_all (64 * k) front (omega (arith, length-lines_bytes part 1 k)))
    ∙ ap (λ these. front ++ these) (is ∙ ap (take (end - 64 * k)) line_is)
    ∙ sym (take-append-add front (line_bytes (part (1 + k))) (end - 64 * k))
    ∙ ap (λ n. take n (front ++ line_bytes (part (1 + k)))) end_is
    ∙ ap (take end) (sym (flat_map-more (λ i. line_bytes (part i)) 1 k))

-- one line more of a part's data
pub told_line_put : (history : PartHistory) (k end : ℕ) (into copy line : List ℕ) → 64 * k ≤ length into → end ≡ min (length into) (64 * k + 64) → copy ≡ take (end - 64 * k) line → length copy ≡ length (take (end - 64 * k) (drop (64 * k) into)) → Tells history (λ now. line ≡ line_bytes (part_word now (1 + k))) → Tells history (λ now. take (min (64 * k) (length into)) into ≡ take (min (64 * k) (length into)) (lines_bytes (part_word now) 1 k)) → let new = put_mid (64 * k) (end - 64 * k) into copy in Tells history (λ now. take (min (64 * (k + 1)) (length new)) new ≡ take (min (64 * (k + 1)) (length new)) (lines_bytes (part_word now) 1 (k + 1)))
told_line_put [] k end into copy line fits end_is is size loaded before = tt
told_line_put (now ∷ past) k end into copy line fits end_is is same_size loaded before =
    let size : length copy ≡ end - 64 * k =
    omega (arith, same_size, length-take (end - 64 * k) (drop (64 * k) into), length-drop (64 * k) into) in
    let new = put_mid (64 * k) (end - 64 * k) into copy in
    let read : min (64 * k) (length into) ≡ 64 * k = omega arith in
    let reads : min (64 * (k + 1)) (length new) ≡ end =
    omega (arith, length-put_mid (64 * k) (end - 64 * k) into copy (omega arith) size) in
    let At : ℕ → Type 0 = λ n. take n into ≡ take n (lines_bytes (part_word now) 1 k) in
    let Then : ℕ → Type 0 = λ n. take n new ≡ take n (lines_bytes (part_word now) 1 (k + 1)) in
    subst Then (sym reads)
    (line_put (part_word now) k end into copy line (omega arith) fits is size loaded (subst At read before))
