-- Laws about lines: what a load gives after steps. Nothing above this crate opens the words of a line.
use Rattle.std.proofs.Common.{◌≡◌, ◌≢◌, ℕ, ◌+◌, ◌-◌, ◌<◌, ◌==◌, ◌&&◌, if◌then◌else◌, inl, inr, List, [], ◌∷◌, ◌++◌, length, map, replicate, get_or, drop, slice_set, Option, Some, None, zero, suc, refl, sym, ap, ◌∙◌, subst, arith, length-append}
use Rattle.std.proofs.lemmas.Bool.{cases_eq, cases_lt, eq-eqb, ne_eqb}
use Rattle.std.proofs.lemmas.List.{length-set, length-map, length-replicate, get_or-set_same, get_or-set_other, get_or_default, get_or_past, get_or_push, get_or-map, length_push, length-drop, get_or-drop, set_past}
use Rattle.nv_pmem.specs.Part.{Word, Line, Part, settled_word, blank_line, word_of, newest_value, stored_value, flushed_word, fenced_at, fenced_word, newest, word_at, stored, flushed, fenced, line_of, part_word}
use Rattle.nv_pmem.specs.Runs.{run}
use Rattle.nv_pmem.specs.Steps.{LineStep, StoreWord, Flush, Fence, after_line_step}
use Rattle.nv_pmem.specs.Stored.{LeaveWord}
use Rattle.nv_pmem.proofs.StepLaws.{after_steps}

-- ---- a word of a line

blanks : (count word : ℕ) → get_or (replicate count (settled_word 0)) word (settled_word 0) ≡ settled_word 0
blanks zero word = refl
blanks (suc count) zero = refl
blanks (suc count) (suc word) = blanks count word

-- words of 0 behind a line read as the line does
with_blanks : (line : Line) (count word : ℕ) → word_of (line ++ replicate count (settled_word 0)) word ≡ word_of line word
with_blanks [] count word = blanks count word
with_blanks (first ∷ line) count zero = refl
with_blanks (first ∷ line) count (suc word) = with_blanks line count word

-- a store is of its word,
pub word_of-stored_same : (word value : ℕ) (line : Line) → word_of (stored word value line) word ≡ stored_value value (word_of line word)
unfolding stored
word_of-stored_same word value line =
    let more = replicate (word + 1 - length line) (settled_word 0) in
    get_or-set_same (line ++ more) word (stored_value value (word_of line word)) (settled_word 0)
    (omega (arith, length-append line more, length-replicate (word + 1 - length line) (settled_word 0)))

-- and of no other;
pub word_of-stored_other : (word value : ℕ) (line : Line) (other : ℕ) → other ≢ word → word_of (stored word value line) other ≡ word_of line other
unfolding stored
word_of-stored_other word value line other differs =
    get_or-set_other (line ++ replicate (word + 1 - length line) (settled_word 0)) word other (stored_value value (word_of line word)) (settled_word 0) differs
    ∙ with_blanks line (word + 1 - length line) other

-- a flush is of each word that is there,
pub word_of-flushed : (P : Word → Type 0) (line : Line) (word : ℕ) → P (flushed_word (word_of line word)) → P (word_of line word) → P (word_of (flushed line) word)
unfolding flushed
word_of-flushed P [] word noted none = none
word_of-flushed P (first ∷ line) zero noted none = noted
word_of-flushed P (first ∷ line) (suc word) noted none = word_of-flushed P line word noted none

-- and so is a fence.
pub word_of-fenced : (line : Line) (word : ℕ) → word_of (fenced line) word ≡ fenced_word (word_of line word)
unfolding fenced
word_of-fenced [] word = refl
word_of-fenced (first ∷ line) zero = refl
word_of-fenced (first ∷ line) (suc word) = word_of-fenced line word

-- ---- what a load gives

-- the newest value of a word
pub word_at-newest : (line : Line) (word : ℕ) → word_at (newest line) word ≡ newest_value (word_of line word)
unfolding word_at newest
word_at-newest [] word = refl
word_at-newest (first ∷ line) zero = refl
word_at-newest (first ∷ line) (suc word) = word_at-newest line word

newest-flushed : (line : Line) → newest (flushed line) ≡ newest line
unfolding newest flushed
newest-flushed [] = refl
newest-flushed (word ∷ line) = ap (λ rest. newest_value word ∷ rest) (newest-flushed line)

-- the last of some things, or the first of them all
pub last_of : {X : Type 0} (first : X) (rest : List X) (count : ℕ) → count ≡ length rest → get_or (first ∷ rest) count first ≡ get_or rest (count - 1) first
last_of first rest zero end = sym (get_or_past rest (0 - 1) first (omega arith))
last_of first rest (suc count) end = ap (λ i. get_or rest i first) (omega arith)

-- the newest of some things is left where those before one of them are dropped
pub newest_left : {X : Type 0} (first : X) (rest : List X) (count : ℕ) → get_or (drop count rest) (length (drop count rest) - 1) (get_or (first ∷ rest) count (get_or rest (length rest - 1) first)) ≡ get_or rest (length rest - 1) first
newest_left first rest count =
    let newest_of = get_or rest (length rest - 1) first in
    elim (cases_lt count (length rest)) [
      | inl less ↦
          get_or-drop count rest (length (drop count rest) - 1) (get_or (first ∷ rest) count newest_of)
          ∙ get_or_default rest (count + (length (drop count rest) - 1)) _ first (omega (arith, length-drop count rest))
          ∙ ap (λ i. get_or rest i first) (omega (arith, length-drop count rest))
      | inr past ↦
          get_or_past (drop count rest) (length (drop count rest) - 1) _ (omega (arith, length-drop count rest))
          ∙ elim (cases_lt (length rest) count) [
            | inl beyond ↦ get_or_past (first ∷ rest) count newest_of (omega arith)
            | inr last ↦
                get_or_default (first ∷ rest) count newest_of first (omega arith)
                ∙ last_of first rest count (omega arith)
                ∙ ap (λ i. get_or rest i first) (omega arith)
          ]
    ]

-- so a fence leaves the newest value
pub newest-fenced_at : (word : Word) (noted : Option ℕ) → newest_value (fenced_at word noted) ≡ newest_value word
newest-fenced_at word None = refl
newest-fenced_at word (Some count) = newest_left word.oldest word.later count

pub newest-fenced : (line : Line) → newest (fenced line) ≡ newest line
unfolding newest fenced
newest-fenced [] = refl
newest-fenced (word ∷ line) =
    ap (λ value. value ∷ newest (fenced line)) (newest-fenced_at word word.flushed) ∙ ap (λ rest. newest_value word ∷ rest) (newest-fenced line)

-- ---- a line of a part

pub line_of-set_same : (part : Part) (line : ℕ) (content : Line) → line < length part → line_of (slice_set part line content) line ≡ content
line_of-set_same part line content inside = get_or-set_same part line content blank_line inside

pub line_of-set_other : (part : Part) (line other : ℕ) (content : Line) → other ≢ line → line_of (slice_set part line content) other ≡ line_of part other
line_of-set_other part line other content differs = get_or-set_other part line other content blank_line differs

-- a line changed, its newest content as it was
newest-set : (part : Part) (line : ℕ) (content : Line) (i : ℕ) → newest content ≡ newest (line_of part line) → newest (line_of (slice_set part line content) i) ≡ newest (line_of part i)
newest-set part line content i same = elim (cases_eq i line) [
  | inl here ↦ elim (cases_lt line (length part)) [
    | inl inside ↦
        ap (λ k. newest (line_of (slice_set part line content) k)) here
        ∙ ap newest (line_of-set_same part line content inside) ∙ same ∙ ap (λ k. newest (line_of part k)) (sym here)
    | inr past ↦ ap (λ these. newest (line_of these i)) (set_past part line content past)
  ]
  | inr differs ↦ ap newest (line_of-set_other part line i content differs)
]

pub line_of-map : (f : Line → Line) (part : Part) (line : ℕ) → f blank_line ≡ blank_line → line_of (map f part) line ≡ f (line_of part line)
line_of-map f part line blank = elim (cases_lt line (length part)) [
  | inl less ↦ get_or-map f part line blank_line blank_line less
  | inr past ↦
      get_or_past (map f part) line blank_line (omega (arith, length-map part f))
      ∙ sym blank ∙ ap f (sym (get_or_past part line blank_line past))
]

pub fenced-blank : fenced blank_line ≡ blank_line
unfolding fenced
fenced-blank = refl

-- ---- what a load gives after a step

word_at-stored : (word value other : ℕ) (line : Line) → word_at (newest (stored word value line)) other ≡ (if other == word then value else word_at (newest line) other)
word_at-stored word value other line =
    word_at-newest (stored word value line) other
    ∙ elim (cases_eq other word) [
      | inl same ↦
          rw (eq-eqb other word same)
          (ap (λ k. newest_value (word_of (stored word value line) k)) same ∙ ap newest_value (word_of-stored_same word value line)
          ∙ get_or_push (word_of line word).later value (word_of line word).oldest (length ((word_of line word).later ++ value ∷ []) - 1)
          (omega (arith, length_push (word_of line word).later value)))
      | inr differs ↦
          rw (ne_eqb other word differs)
          (ap newest_value (word_of-stored_other word value line other differs) ∙ sym (word_at-newest line other))
    ]

-- after a store the value at its word, and at any other what was there
pub word_of-after_store : (part : Part) (line word value i j : ℕ) → line < length part → part_word (after_line_step (StoreWord line word value) part) i j ≡ (if (i == line) && (j == word) then value else part_word part i j)
word_of-after_store part line word value i j inside = elim (cases_eq i line) [
  | inl same ↦
      rw (eq-eqb i line same)
      (ap (λ k. part_word (after_line_step (StoreWord line word value) part) k j) same
      ∙ ap (λ content. word_at (newest content) j) (line_of-set_same part line (stored word value (line_of part line)) inside)
      ∙ word_at-stored word value j (line_of part line)
      ∙ ap (λ k. if j == word then value else part_word part k j) (sym same))
  | inr differs ↦
      rw (ne_eqb i line differs)
      (ap (λ content. word_at (newest content) j) (line_of-set_other part line i (stored word value (line_of part line)) differs))
]

-- a flush leaves every word
pub word_of-after_flush : (part : Part) (line i j : ℕ) → part_word (after_line_step (Flush line) part) i j ≡ part_word part i j
word_of-after_flush part line i j =
    ap (λ content. word_at content j) (newest-set part line (flushed (line_of part line)) i (newest-flushed (line_of part line)))

-- and so does a fence
pub word_of-after_fence : (part : Part) (i j : ℕ) → part_word (after_line_step Fence part) i j ≡ part_word part i j
word_of-after_fence part i j =
    ap (λ content. word_at (newest content) j) (line_of-map fenced part i fenced-blank)
    ∙ ap (λ content. word_at content j) (newest-fenced (line_of part i))

-- ---- the number of lines

-- each step keeps the number of lines
pub length-after_step : (step : LineStep) (part : Part) → length (after_line_step step part) ≡ length part
length-after_step (StoreWord line word value) part = length-set part line (stored word value (line_of part line))
length-after_step (Flush line) part = length-set part line (flushed (line_of part line))
length-after_step Fence part = length-map part fenced

pub length-after_steps : (steps : List LineStep) (part : Part) → length (after_steps steps part) ≡ length part
unfolding run
length-after_steps [] part = refl
length-after_steps (step ∷ steps) part = length-after_steps steps (after_line_step step part) ∙ length-after_step step part

-- ---- what a load gives after a list of steps

-- a word's value after some steps, which had a value before them
abbrev pub overlaid : List LineStep → ℕ → ℕ → ℕ → ℕ
overlaid [] i j was = was
overlaid (StoreWord line word value ∷ steps) i j was = overlaid steps i j (if (i == line) && (j == word) then value else was)
overlaid (Flush line ∷ steps) i j was = overlaid steps i j was
overlaid (Fence ∷ steps) i j was = overlaid steps i j was

pub overlaid-append : (first rest : List LineStep) (i j was : ℕ) → overlaid (first ++ rest) i j was ≡ overlaid rest i j (overlaid first i j was)
overlaid-append [] rest i j was = refl
overlaid-append (StoreWord line word value ∷ steps) rest i j was = overlaid-append steps rest i j (if (i == line) && (j == word) then value else was)
overlaid-append (Flush line ∷ steps) rest i j was = overlaid-append steps rest i j was
overlaid-append (Fence ∷ steps) rest i j was = overlaid-append steps rest i j was

-- each store is to one of so many lines
abbrev pub AreInside : ℕ → List LineStep → Type 0
AreInside lines [] = Unit {0}
AreInside lines (StoreWord line word value ∷ steps) = (line < lines) × AreInside lines steps
AreInside lines (Flush line ∷ steps) = AreInside lines steps
AreInside lines (Fence ∷ steps) = AreInside lines steps

pub inside_append : (lines : ℕ) (first rest : List LineStep) → AreInside lines first → AreInside lines rest → AreInside lines (first ++ rest)
inside_append lines [] rest a b = b
inside_append lines (StoreWord line word value ∷ steps) rest a b = (a.0, inside_append lines steps rest a.1 b)
inside_append lines (Flush line ∷ steps) rest a b = inside_append lines steps rest a b
inside_append lines (Fence ∷ steps) rest a b = inside_append lines steps rest a b

still_inside : (step : LineStep) (steps : List LineStep) (part : Part) → AreInside (length part) steps → AreInside (length (after_line_step step part)) steps
still_inside step steps part inside = let At : ℕ → Type 0 = λ lines. AreInside lines steps in subst At (sym (length-after_step step part)) inside

-- a word after some steps
pub word_of-after_steps : (steps : List LineStep) (part : Part) (i j : ℕ) → AreInside (length part) steps → part_word (after_steps steps part) i j ≡ overlaid steps i j (part_word part i j)
unfolding run
word_of-after_steps [] part i j inside = refl
word_of-after_steps (StoreWord line word value ∷ steps) part i j inside =
    let step = StoreWord line word value in
    word_of-after_steps steps (after_line_step step part) i j (still_inside step steps part inside.1)
    ∙ ap (overlaid steps i j) (word_of-after_store part line word value i j inside.0)
word_of-after_steps (Flush line ∷ steps) part i j inside =
    word_of-after_steps steps (after_line_step (Flush line) part) i j (still_inside (Flush line) steps part inside)
    ∙ ap (overlaid steps i j) (word_of-after_flush part line i j)
word_of-after_steps (Fence ∷ steps) part i j inside =
    word_of-after_steps steps (after_line_step Fence part) i j (still_inside Fence steps part inside)
    ∙ ap (overlaid steps i j) (word_of-after_fence part i j)

-- ---- words that no step stores

-- a store leaves each other word
kept_by_store : (part : Part) (line word value i j : ℕ) → ¬ ((i ≡ line) × (j ≡ word)) → part_word (after_line_step (StoreWord line word value) part) i j ≡ part_word part i j
kept_by_store part line word value i j other = elim (cases_lt line (length part)) [
  | inl inside ↦
      word_of-after_store part line word value i j inside
      ∙ elim (cases_eq i line) [
        | inl same ↦ elim (cases_eq j word) [
          | inl at ↦ absurd (other (same, at))
          | inr apart ↦ rw (ne_eqb j word apart, eq-eqb i line same) refl
        ]
        | inr differs ↦ rw (ne_eqb i line differs) refl
      ]
  | inr past ↦ ap (λ these. part_word these i j) (set_past part line (stored word value (line_of part line)) past)
]

-- and steps that don't store a word leave it
pub kept_by_steps : (steps : List LineStep) (part : Part) (i j : ℕ) → LeaveWord steps i j → part_word (after_steps steps part) i j ≡ part_word part i j
unfolding run
kept_by_steps [] part i j none = refl
kept_by_steps (StoreWord line word value ∷ steps) part i j none =
    kept_by_steps steps (after_line_step (StoreWord line word value) part) i j (λ found later. none found (inr later))
    ∙ kept_by_store part line word value i j (λ both. none value (inl (both.0, both.1, refl)))
kept_by_steps (Flush line ∷ steps) part i j none =
    kept_by_steps steps (after_line_step (Flush line) part) i j (λ found later. none found (inr later)) ∙ word_of-after_flush part line i j
kept_by_steps (Fence ∷ steps) part i j none =
    kept_by_steps steps (after_line_step Fence part) i j (λ found later. none found (inr later)) ∙ word_of-after_fence part i j

pub stored_is_loaded : (part : Part) (line word value : ℕ) → line < length part → part_word (after_line_step (StoreWord line word value) part) line word ≡ value
stored_is_loaded part line word value inside =
    word_of-after_store part line word value line word inside ∙ rw (eq-eqb line line refl, eq-eqb word word refl) refl
