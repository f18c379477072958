-- The steps that write a name's record: what they store, and which lines are quiet after them.
use Rattle.std.proofs.Common.{◌≡◌, ◌≢◌, ℕ, ◌+◌, ◌-◌, ◌*◌, ◌<◌, ◌≤◌, ◌⊎◌, inl, inr, List, [], ◌∷◌, ◌++◌, length, take, drop, replicate, zero, suc, refl, sym, ap, ◌∙◌, subst, arith, zero-add, length-append}
use Rattle.std.proofs.lemmas.Bool.{cases_eq, eq-eqb, ne_eqb}
use Rattle.std.proofs.Math.Seq.{take-append-add}
use Rattle.std.proofs.lemmas.List.{length-replicate, take_all, take-replicate}
use Rattle.std.specs.Int.{to_le_bytes, w64}
use Rattle.std.specs.List.{flat_map, range_with_len}
use Rattle.nv_plain.specs.Files.{padded}
use Rattle.nv_plain.specs.Layouts.{Layout, layout_of, version_2}
use Rattle.nv_plain.specs.declared.limits.Version.{Version}
use Rattle.nv_plain.specs.declared.limits.Version.TheVariants.{One, Two}
use Rattle.nv_pmem.specs.Steps.{LineStep, Flush, DidLineStep, DidSome, PartHistory, line_stores, word_in}
use Rattle.nv_pmem.proofs.ImageLaws.{IsStoredBy, Mark, noted_line, mark_after_all, mark_after_all-append}
use Rattle.nv_pmem.proofs.LineLaws.{overlaid, overlaid-append, AreInside, inside_append}
use Rattle.nv_pmem.proofs.Ranges.{flat_map-split, flat_map-more}
use Rattle.nv_pmem.proofs.RowLaws.{stored_by-append}
use Rattle.nv_pmem.proofs.StepLaws.{did_none, did_did, did_did_some, did_some_front}
use Rattle.nv_header.specs.Heads.{record_line}
use Rattle.nv_header.specs.HeaderSteps.{name_record, record_part, record_line_steps, record_lines_steps}

-- ---- one line

-- a line is stored and flushed
unfoldable pub line_steps : (line : ℕ) → List ℕ → List LineStep
line_steps line bytes = line_stores line bytes ++ Flush line ∷ []

line_only : (line : ℕ) (bytes : List ℕ) (i j found : ℕ) → IsStoredBy (line_steps line bytes) i j found → i ≡ line
unfolding line_steps line_stores
line_only line bytes i j found (inl here) = here.0
line_only line bytes i j found (inr (inl here)) = here.0
line_only line bytes i j found (inr (inr (inl here))) = here.0
line_only line bytes i j found (inr (inr (inr (inl here)))) = here.0
line_only line bytes i j found (inr (inr (inr (inr (inl here))))) = here.0
line_only line bytes i j found (inr (inr (inr (inr (inr (inl here)))))) = here.0
line_only line bytes i j found (inr (inr (inr (inr (inr (inr (inl here))))))) = here.0
line_only line bytes i j found (inr (inr (inr (inr (inr (inr (inr (inl here)))))))) = here.0
line_only line bytes i j found (inr (inr (inr (inr (inr (inr (inr (inr (inl none))))))))) = absurd none
line_only line bytes i j found (inr (inr (inr (inr (inr (inr (inr (inr (inr none))))))))) = absurd none

line_overlay : (line : ℕ) (bytes : List ℕ) (k was : ℕ) → k < 8 → overlaid (line_steps line bytes) line k was ≡ word_in bytes k
unfolding line_steps line_stores
line_overlay line bytes zero was small = rw (eq-eqb line line refl)
line_overlay line bytes (suc zero) was small = rw (eq-eqb line line refl)
line_overlay line bytes (suc (suc zero)) was small = rw (eq-eqb line line refl)
line_overlay line bytes (suc (suc (suc zero))) was small = rw (eq-eqb line line refl)
line_overlay line bytes (suc (suc (suc (suc zero)))) was small = rw (eq-eqb line line refl)
line_overlay line bytes (suc (suc (suc (suc (suc zero))))) was small = rw (eq-eqb line line refl)
line_overlay line bytes (suc (suc (suc (suc (suc (suc zero)))))) was small = rw (eq-eqb line line refl)
line_overlay line bytes (suc (suc (suc (suc (suc (suc (suc zero))))))) was small = rw (eq-eqb line line refl)
line_overlay line bytes (suc (suc (suc (suc (suc (suc (suc (suc k)))))))) was small = absurd (omega arith)

line_overlay-other : (line : ℕ) (bytes : List ℕ) (i k was : ℕ) → i ≢ line → overlaid (line_steps line bytes) i k was ≡ was
unfolding line_steps line_stores
line_overlay-other line bytes i k was differs = rw (ne_eqb i line differs) refl

line_inside : (line lines : ℕ) (bytes : List ℕ) → line < lines → AreInside lines (line_steps line bytes)
unfolding line_steps line_stores
line_inside line lines bytes inside = (inside, (inside, (inside, (inside, (inside, (inside, (inside, (inside, tt))))))))

line_marks : (line i : ℕ) (bytes : List ℕ) (mark : Mark) → i ≡ line → mark_after_all i (line_steps line bytes) mark ≡ noted_line
unfolding line_steps line_stores
line_marks line i bytes mark same = rw (eq-eqb i line same) refl

line_marks-other : (line i : ℕ) (bytes : List ℕ) (mark : Mark) → i ≢ line → mark_after_all i (line_steps line bytes) mark ≡ mark
unfolding line_steps line_stores
line_marks-other line i bytes mark differs = rw (ne_eqb i line differs) refl

-- ---- some lines, one behind the other

-- each of so many lines has its bytes stored and flushed
abbrev pub lines_steps : (first : ℕ) → (ℕ → List ℕ) → (from count : ℕ) → List LineStep
lines_steps first bytes from count = flat_map (λ k. line_steps (first + k) (bytes k)) (range_with_len from count)

pub lines_only : (first : ℕ) (bytes : ℕ → List ℕ) (from count i j found : ℕ) → IsStoredBy (lines_steps first bytes from count) i j found → (first + from ≤ i) × (i < first + from + count)
lines_only first bytes from zero i j found stored = absurd stored
lines_only first bytes from (suc count) i j found stored =
    elim (stored_by-append (line_steps (first + from) (bytes from)) (lines_steps first bytes (from + 1) count) i j found stored) [
      | inl here ↦ let is = line_only (first + from) (bytes from) i j found here in (omega arith, omega arith)
      | inr later ↦ let is = lines_only first bytes (from + 1) count i j found later in (omega (arith, is.0), omega (arith, is.1))
    ]

pub lines_overlay-other : (first : ℕ) (bytes : ℕ → List ℕ) (from count i k was : ℕ) → (i < first + from) ⊎ (first + from + count ≤ i) → overlaid (lines_steps first bytes from count) i k was ≡ was
lines_overlay-other first bytes from zero i k was apart = refl
lines_overlay-other first bytes from (suc count) i k was apart =
    let differs : i ≢ first + from = λ same. elim apart [ inl before ↦ omega arith | inr behind ↦ omega arith ] in
    let still : (i < first + (from + 1)) ⊎ (first + (from + 1) + count ≤ i) = elim apart [ inl before ↦ inl (omega arith) | inr behind ↦ inr (omega arith) ] in
    overlaid-append (line_steps (first + from) (bytes from)) (lines_steps first bytes (from + 1) count) i k was
    ∙ lines_overlay-other first bytes (from + 1) count i k (overlaid (line_steps (first + from) (bytes from)) i k was) still
    ∙ line_overlay-other (first + from) (bytes from) i k was differs

pub lines_overlay : (first : ℕ) (bytes : ℕ → List ℕ) (from count n k was : ℕ) → from ≤ n → n < from + count → k < 8 → overlaid (lines_steps first bytes from count) (first + n) k was ≡ word_in (bytes n) k
lines_overlay first bytes from zero n k was low high small = absurd (omega arith)
lines_overlay first bytes from (suc count) n k was low high small =
    overlaid-append (line_steps (first + from) (bytes from)) (lines_steps first bytes (from + 1) count) (first + n) k was
    ∙ elim (cases_eq n from) [
      | inl same ↦
          let At : ℕ → Type 0 = λ m. overlaid (line_steps (first + m) (bytes m)) (first + n) k was ≡ word_in (bytes n) k in
          lines_overlay-other first bytes (from + 1) count (first + n) k (overlaid (line_steps (first + from) (bytes from)) (first + n) k was) (inl (omega arith))
          ∙ subst At same (line_overlay (first + n) (bytes n) k was small)
      | inr differs ↦ lines_overlay first bytes (from + 1) count n k (overlaid (line_steps (first + from) (bytes from)) (first + n) k was) (omega arith) (omega arith) small
    ]

pub lines_inside : (first : ℕ) (bytes : ℕ → List ℕ) (from count lines : ℕ) → first + from + count ≤ lines → AreInside lines (lines_steps first bytes from count)
lines_inside first bytes from zero lines inside = tt
lines_inside first bytes from (suc count) lines inside =
    inside_append lines (line_steps (first + from) (bytes from)) (lines_steps first bytes (from + 1) count)
    (line_inside (first + from) lines (bytes from) (omega arith)) (lines_inside first bytes (from + 1) count lines (omega arith))

pub lines_marks-other : (first : ℕ) (bytes : ℕ → List ℕ) (from count i : ℕ) (mark : Mark) → (i < first + from) ⊎ (first + from + count ≤ i) → mark_after_all i (lines_steps first bytes from count) mark ≡ mark
lines_marks-other first bytes from zero i mark apart = refl
lines_marks-other first bytes from (suc count) i mark apart =
    let differs : i ≢ first + from = λ same. elim apart [ inl before ↦ omega arith | inr behind ↦ omega arith ] in
    let still : (i < first + (from + 1)) ⊎ (first + (from + 1) + count ≤ i) = elim apart [ inl before ↦ inl (omega arith) | inr behind ↦ inr (omega arith) ] in
    mark_after_all-append i (line_steps (first + from) (bytes from)) (lines_steps first bytes (from + 1) count) mark
    ∙ lines_marks-other first bytes (from + 1) count i (mark_after_all i (line_steps (first + from) (bytes from)) mark) still
    ∙ line_marks-other (first + from) i (bytes from) mark differs

pub lines_marks : (first : ℕ) (bytes : ℕ → List ℕ) (from count i : ℕ) (mark : Mark) → first + from ≤ i → i < first + from + count → mark_after_all i (lines_steps first bytes from count) mark ≡ noted_line
lines_marks first bytes from zero i mark low high = absurd (omega arith)
lines_marks first bytes from (suc count) i mark low high =
    mark_after_all-append i (line_steps (first + from) (bytes from)) (lines_steps first bytes (from + 1) count) mark
    ∙ elim (cases_eq i (first + from)) [
      | inl same ↦
          lines_marks-other first bytes (from + 1) count i (mark_after_all i (line_steps (first + from) (bytes from)) mark) (inl (omega arith))
          ∙ line_marks (first + from) i (bytes from) mark same
      | inr differs ↦ lines_marks first bytes (from + 1) count i (mark_after_all i (line_steps (first + from) (bytes from)) mark) (omega arith) (omega arith)
    ]

-- ---- made one after another

pub lines_none : (first : ℕ) (bytes : ℕ → List ℕ) (history : PartHistory) → DidLineStep (lines_steps first bytes 0 0) history history
lines_none first bytes history = did_none _ history

pub lines_more : (first : ℕ) (bytes : ℕ → List ℕ) (k next : ℕ) {old between new : PartHistory} → next ≡ k + 1 → DidLineStep (lines_steps first bytes 0 k) old between → DidLineStep (line_steps (first + k) (bytes k)) between new → DidLineStep (lines_steps first bytes 0 next) old new
lines_more first bytes k next {old} {between} {new} is before one =
    let At : List LineStep → Type 0 = λ steps. DidLineStep steps old new in
    let Next : ℕ → Type 0 = λ count. DidLineStep (lines_steps first bytes 0 count) old new in
    subst Next (sym is) (subst At (sym (flat_map-more (λ j. line_steps (first + j) (bytes j)) 0 k ∙ ap (λ j. lines_steps first bytes 0 k ++ line_steps (first + j) (bytes j)) (zero-add k))) (did_did before one))

pub lines_some_more : (first : ℕ) (bytes : ℕ → List ℕ) (k count : ℕ) {old between new : PartHistory} → k < count → DidLineStep (lines_steps first bytes 0 k) old between → DidSome (line_steps (first + k) (bytes k)) between new → DidSome (lines_steps first bytes 0 count) old new
lines_some_more first bytes k count {old} {between} {new} inside before one =
    let At : List LineStep → Type 0 = λ steps. DidSome steps old new in
    let all : count ≡ k + 1 + (count - (k + 1)) = omega arith in
    let whole = λ (j : ℕ). line_steps (first + j) (bytes j) in
    let cut = ap (λ n. flat_map whole (range_with_len 0 n)) all
    ∙ flat_map-split whole 0 (k + 1) (count - (k + 1))
    ∙ ap (λ front. front ++ flat_map whole (range_with_len (0 + (k + 1)) (count - (k + 1))))
    (flat_map-more whole 0 k ∙ ap (λ j. lines_steps first bytes 0 k ++ whole j) (zero-add k)) in
    subst At (sym cut)
    (did_some_front (flat_map whole (range_with_len (0 + (k + 1)) (count - (k + 1)))) (did_did_some before one))

-- ---- a record

-- the steps of a record are those of its lines
pub record_lines-are : (layout : Layout) (i : ℕ) (name : List ℕ) → record_lines_steps layout i name ≡ lines_steps (record_line layout i) (record_part layout name) 0 layout.lines_per_name
unfolding record_lines_steps record_line_steps line_steps
record_lines-are layout i name = refl

-- a line of a record is one of the longest record of the name
pub record_part-longest : (version : Version) (name : List ℕ) (k : ℕ) → length name ≤ (layout_of version).name_limit → k < (layout_of version).lines_per_name → take 64 (drop (64 * k) (name_record version_2 name)) ≡ record_part (layout_of version) name k
unfolding name_record
record_part-longest One name k fits inside =
    let front = to_le_bytes w64 (length name) in
    let first : k ≡ 0 = omega arith in
    let more = 248 - length name in
    let cut : take (56 - length name) (replicate {A = ℕ} more 0) ≡ replicate (56 - length name) 0 = take-replicate (56 - length name) more 0 (omega arith) in
    let size : length name + (56 - length name) ≡ 56 = omega arith in
    let At : ℕ → Type 0 = λ j. take 64 (drop (64 * j) (front ++ padded name 248)) ≡ take 64 (drop (64 * j) (front ++ padded name 56)) in
    let short : take 64 (front ++ padded name 56) ≡ front ++ padded name 56 =
    take_all 64 (front ++ padded name 56) (omega (arith, length-append front (padded name 56), length-append name (replicate {A = ℕ} (56 - length name) 0), length-replicate {A = ℕ} (56 - length name) 0)) in
    subst At (sym first)
    (take-append-add front (padded name 248) 56
    ∙ ap (λ n. front ++ take n (padded name 248)) (sym size)
    ∙ ap (λ these. front ++ these) (take-append-add name (replicate more 0) (56 - length name) ∙ ap (λ these. name ++ these) cut)
    ∙ sym short)
record_part-longest Two name k fits inside = refl
