-- Laws about images: what steps add to what a power failure may leave, and which lines are quiet after them. Nothing above
-- this crate opens the words of a line.
use Rattle.std.proofs.Common.{◌≡◌, ◌≢◌, ℕ, ◌+◌, ◌-◌, ◌<◌, ◌≤◌, ◌==◌, if◌then◌else◌, ◌⊎◌, inl, inr, List, [], ◌∷◌, ◌++◌, length, get_or, drop, slice_set, Option, Some, None, zero, suc, refl, sym, ap, ◌∙◌, subst, arith}
use Rattle.std.proofs.lemmas.Bool.{cases_eq, cases_lt, eq-eqb, ne_eqb}
use Rattle.std.proofs.lemmas.List.{get_or_append_left, get_or_past, get_or_push, get_or_default, get_or-drop, length-drop, length-set, drop_all, length_push, set_past}
use Rattle.nv_plain.specs.Images.{PartImage}
use Rattle.nv_pmem.specs.Part.{Word, Line, Part, blank_line, word_of, newest_value, stored_value, fenced_at, newest, word_at, stored, flushed, fenced, line_of, part_word}
use Rattle.nv_pmem.specs.Images.{MayHave, PowerMayLeave, IsPartImage, InEachPartImage, later_values, IsQuietLine}
use Rattle.nv_pmem.specs.Runs.{run}
use Rattle.nv_pmem.specs.Steps.{LineStep, StoreWord, Flush, Fence, after_line_step}
use Rattle.nv_pmem.specs.Stored.{LeaveLine}
pub use Rattle.nv_pmem.specs.Stored.{IsStored, IsStoredBy, ComesFrom}
use Rattle.nv_pmem.proofs.StepLaws.{after_steps}
use Rattle.nv_pmem.proofs.LineLaws.{last_of, word_of-stored_same, word_of-stored_other, word_of-flushed, word_of-fenced, word_at-newest, line_of-set_same, line_of-set_other, line_of-map, fenced-blank}

-- ---- one line

-- the newest value of a word
pub has_newest : (word : Word) → MayHave word (newest_value word)
has_newest word = (length word.later, omega arith, sym (last_of word.oldest word.later (length word.later) refl))

-- what a load sees may be left
pub may_leave_newest : (line : Line) → PowerMayLeave line (word_at (newest line))
unfolding PowerMayLeave
may_leave_newest line word = subst (MayHave (word_of line word)) (sym (word_at-newest line word)) (has_newest (word_of line word))

-- after a store a word has that value, or one of before
has_stored : (value : ℕ) (word : Word) (found : ℕ) → MayHave (stored_value value word) found → MayHave word found ⊎ (found ≡ value)
has_stored value word found (count, there, is) =
    let more = length_push word.later value in
    elim (cases_lt (length word.later) count) [
      | inl last ↦ inr (is ∙ get_or_push (word.oldest ∷ word.later) value word.oldest count (omega arith))
      | inr earlier ↦ inl (count, earlier, is ∙ get_or_append_left (word.oldest ∷ word.later) (value ∷ []) word.oldest count (omega arith))
    ]

-- A line's words after a store: as they might be left before it, but for the word stored, which may be the value.
pub record LeavesStored (line : Line) (word value : ℕ) (words : ℕ → ℕ) : Type 0 where
  pub before : ℕ → ℕ
  pub may : PowerMayLeave line before
  pub stored : (words word ≡ before word) ⊎ (words word ≡ value)
  pub others : (other : ℕ) → other ≢ word → words other ≡ before other

-- words of which one is another
unfoldable with_word : (ℕ → ℕ) → ℕ → ℕ → ℕ → ℕ
with_word words word value other = if other == word then value else words other

with_word-same : (words : ℕ → ℕ) (word value other : ℕ) → other ≡ word → with_word words word value other ≡ value
unfolding with_word
with_word-same words word value other same = rw (eq-eqb other word same) refl

with_word-other : (words : ℕ → ℕ) (word value other : ℕ) → other ≢ word → with_word words word value other ≡ words other
unfolding with_word
with_word-other words word value other differs = rw (ne_eqb other word differs) refl

-- a line of which one word has another of its values
may_leave_with : (line : Line) (words : ℕ → ℕ) (word value : ℕ) → ((other : ℕ) → other ≢ word → MayHave (word_of line other) (words other)) → MayHave (word_of line word) value → PowerMayLeave line (with_word words word value)
unfolding PowerMayLeave
may_leave_with line words word value others here other = elim (cases_eq other word) [
  | inl same ↦
      let At : ℕ → Type 0 = λ k. MayHave (word_of line k) value in
      subst (MayHave (word_of line other)) (sym (with_word-same words word value other same)) (subst At (sym same) here)
  | inr differs ↦ subst (MayHave (word_of line other)) (sym (with_word-other words word value other differs)) (others other differs)
]

may_leave_stored : (word value : ℕ) (line : Line) (words : ℕ → ℕ) → PowerMayLeave (stored word value line) words → LeavesStored line word value words
unfolding PowerMayLeave
may_leave_stored word value line words may =
    let others : (other : ℕ) → other ≢ word → MayHave (word_of line other) (words other) =
    λ other differs.
    let At : Word → Type 0 = λ one. MayHave one (words other) in subst At (word_of-stored_other word value line other differs) (may other) in
    let Here : Word → Type 0 = λ one. MayHave one (words word) in
    let with_value = λ (was : ℕ) (has : MayHave (word_of line word) was) (stored : (words word ≡ was) ⊎ (words word ≡ value)).
    let left : LeavesStored line word value words = record {
      before = with_word words word was;
      may = may_leave_with line words word was others has;
      stored = elim stored [
        | inl kept ↦ inl (kept ∙ sym (with_word-same words word was word refl))
        | inr new ↦ inr new
      ];
      others = λ other differs. sym (with_word-other words word was other differs);
    } in
    left in
    elim (has_stored value (word_of line word) (words word) (subst Here (word_of-stored_same word value line) (may word))) [
      | inl earlier ↦ with_value (words word) earlier (inl refl)
      | inr last ↦ with_value (newest_value (word_of line word)) (has_newest (word_of line word)) (inr last)
    ]

may_leave_flushed : (line : Line) (words : ℕ → ℕ) → PowerMayLeave (flushed line) words → PowerMayLeave line words
unfolding PowerMayLeave
may_leave_flushed line words may word =
    let Was : Word → Type 0 = λ now. MayHave now (words word) → MayHave (word_of line word) (words word) in
    word_of-flushed Was line word (λ has. has) (λ has. has) (may word)

has_fenced_at : (word : Word) (noted : Option ℕ) (found : ℕ) → MayHave (fenced_at word noted) found → MayHave word found
has_fenced_at word None found has = has
has_fenced_at word (Some count) found (zero, there, is) = elim (cases_lt (length word.later) count) [
  | inl beyond ↦ (
    length word.later,
    omega arith,
    is ∙ get_or_past (word.oldest ∷ word.later) count _ (omega arith) ∙ sym (last_of word.oldest word.later (length word.later) refl),
  )
  | inr within ↦ (count, within, is ∙ get_or_default (word.oldest ∷ word.later) count _ word.oldest (omega arith))
]
has_fenced_at word (Some count) found (suc k, there, is) =
    let within : k + count < length word.later = omega (arith, there, length-drop count word.later) in (
      suc (count + k),
      omega arith,
      is ∙ get_or-drop count word.later k _ ∙ get_or_default word.later (count + k) _ word.oldest (omega arith),
    )

may_leave_fenced : (line : Line) (words : ℕ → ℕ) → PowerMayLeave (fenced line) words → PowerMayLeave line words
unfolding PowerMayLeave
may_leave_fenced line words may word =
    let Has : Word → Type 0 = λ now. MayHave now (words word) in
    has_fenced_at (word_of line word) (word_of line word).flushed (words word) (subst Has (word_of-fenced line word) (may word))

-- the words of a quiet line have had no later value
pub front_none : (front rest : List ℕ) → front ++ rest ≡ [] → front ≡ []
front_none [] rest none = refl
front_none (first ∷ front) rest none = absurd (cc)

pub rest_none : (front rest : List ℕ) → front ++ rest ≡ [] → rest ≡ []
rest_none [] rest none = none
rest_none (first ∷ front) rest none = absurd (cc)

no_later : (line : Line) (word : ℕ) → later_values line ≡ [] → (word_of line word).later ≡ []
no_later [] word none = refl
no_later (first ∷ line) zero none = front_none first.later (later_values line) none
no_later (first ∷ line) (suc word) none = no_later line word (rest_none first.later (later_values line) none)

-- a word that has one value is left as a load sees it
has_one : (word : Word) (found : ℕ) → word.later ≡ [] → MayHave word found → found ≡ newest_value word
has_one word found none (count, there, is) =
    let first : count ≡ length word.later = omega (arith, there, ap length none) in
    is ∙ last_of word.oldest word.later count first ∙ ap (λ k. get_or word.later (k - 1) word.oldest) first

-- a quiet line is left as a load sees it
pub may_leave_quiet : (line : Line) (words : ℕ → ℕ) (word : ℕ) → IsQuietLine line → PowerMayLeave line words → words word ≡ word_at (newest line) word
unfolding PowerMayLeave IsQuietLine
may_leave_quiet line words word quiet may =
    has_one (word_of line word) (words word) (no_later line word quiet) (may word) ∙ sym (word_at-newest line word)

-- ---- a part

-- What a load gives is one of the images.
pub image_of_now : (part : Part) → IsPartImage part (part_word part)
image_of_now part = record { lines = λ line. may_leave_newest (line_of part line) }

-- an image of which one line is another
unfoldable with_line : PartImage → ℕ → (ℕ → ℕ) → PartImage
with_line image line words i = if i == line then words else image i

with_line-same : (image : PartImage) (line i : ℕ) (words : ℕ → ℕ) → i ≡ line → with_line image line words i ≡ words
unfolding with_line
with_line-same image line i words same = rw (eq-eqb i line same)

with_line-other : (image : PartImage) (line i : ℕ) (words : ℕ → ℕ) → i ≢ line → with_line image line words i ≡ image i
unfolding with_line
with_line-other image line i words differs = rw (ne_eqb i line differs)

-- one step
image_after_store : (part : Part) (line word value : ℕ) (image : PartImage) → line < length part → IsPartImage (after_line_step (StoreWord line word value) part) image → ComesFrom part (StoreWord line word value ∷ []) image
image_after_store part line word value image inside is =
    let At : Line → Type 0 = λ content. PowerMayLeave content (image line) in
    let here = may_leave_stored word value (line_of part line) (image line) (subst At (line_of-set_same part line (stored word value (line_of part line)) inside) (is.lines line)) in
    record {
      before = with_line image line here.before;
      is = record {
        lines = λ i. elim (cases_eq i line) [
          | inl same ↦
              let Line_at : ℕ → Type 0 = λ k. PowerMayLeave (line_of part k) here.before in
              let Words : (ℕ → ℕ) → Type 0 = PowerMayLeave (line_of part i) in
              subst Words (sym (with_line-same image line i here.before same)) (subst Line_at (sym same) here.may)
          | inr differs ↦
              let Content : Line → Type 0 = λ content. PowerMayLeave content (image i) in
              let Words : (ℕ → ℕ) → Type 0 = PowerMayLeave (line_of part i) in
              subst Words (sym (with_line-other image line i here.before differs))
              (subst Content (line_of-set_other part line i (stored word value (line_of part line)) differs) (is.lines i))
        ];
      };
      words = λ i j. elim (cases_eq i line) [
        | inl same ↦
            let was = ap (λ words. words j) (with_line-same image line i here.before same) in
            elim (cases_eq j word) [
              | inl at ↦ elim here.stored [
                | inl kept ↦
                    inl (ap (λ k. image k j) same ∙ ap (image line) at ∙ kept ∙ ap here.before (sym at) ∙ sym was)
                | inr new ↦ inr (inl (same, at, ap (λ k. image k j) same ∙ ap (image line) at ∙ new))
              ]
              | inr apart ↦ inl (ap (λ k. image k j) same ∙ here.others j apart ∙ sym was)
            ]
        | inr differs ↦ inl (ap (λ words. words j) (sym (with_line-other image line i here.before differs)))
      ];
    }

same_image : (part : Part) (steps : List LineStep) (image : PartImage) → IsPartImage part image → ComesFrom part steps image
same_image part steps image is = record { before = image; is = is; words = λ i j. inl refl }

pub image_after_flush : (part : Part) (line : ℕ) (image : PartImage) → IsPartImage (after_line_step (Flush line) part) image → IsPartImage part image
image_after_flush part line image is = record {
  lines = λ i. elim (cases_eq i line) [
    | inl same ↦ elim (cases_lt line (length part)) [
      | inl inside ↦
          let Line_at : ℕ → Type 0 = λ k. PowerMayLeave (line_of part k) (image i) in
          let Content : Line → Type 0 = λ content. PowerMayLeave content (image i) in
          subst Line_at (sym same)
          (may_leave_flushed (line_of part line) (image i)
          (subst Content (ap (line_of (after_line_step (Flush line) part)) same ∙ line_of-set_same part line (flushed (line_of part line)) inside) (is.lines i)))
      | inr past ↦
          let At : Part → Type 0 = λ these. PowerMayLeave (line_of these i) (image i) in
          subst At (set_past part line (flushed (line_of part line)) past) (is.lines i)
    ]
    | inr differs ↦
        let Content : Line → Type 0 = λ content. PowerMayLeave content (image i) in
        subst Content (line_of-set_other part line i (flushed (line_of part line)) differs) (is.lines i)
  ];
}

pub image_after_fence : (part : Part) (image : PartImage) → IsPartImage (after_line_step Fence part) image → IsPartImage part image
image_after_fence part image is = record {
  lines = λ i.
      let Content : Line → Type 0 = λ content. PowerMayLeave content (image i) in
      may_leave_fenced (line_of part i) (image i) (subst Content (line_of-map fenced part i fenced-blank) (is.lines i));
}

image_after_step : (step : LineStep) (part : Part) (image : PartImage) → IsPartImage (after_line_step step part) image → ComesFrom part (step ∷ []) image
image_after_step (StoreWord line word value) part image is = elim (cases_lt line (length part)) [
  | inl inside ↦ image_after_store part line word value image inside is
  | inr past ↦
      let At : Part → Type 0 = λ these. IsPartImage these image in
      same_image part (StoreWord line word value ∷ []) image (subst At (set_past part line (stored word value (line_of part line)) past) is)
]
image_after_step (Flush line) part image is = same_image part (Flush line ∷ []) image (image_after_flush part line image is)
image_after_step Fence part image is = same_image part (Fence ∷ []) image (image_after_fence part image is)

-- a word of an image after more steps
goes_back : (step : LineStep) (steps : List LineStep) (i j found between was : ℕ) → (found ≡ between) ⊎ IsStoredBy steps i j found → (between ≡ was) ⊎ IsStoredBy (step ∷ []) i j between → (found ≡ was) ⊎ IsStoredBy (step ∷ steps) i j found
goes_back step steps i j found between was (inr later) earlier = inr (inr later)
goes_back step steps i j found between was (inl same) (inl kept) = inl (same ∙ kept)
goes_back step steps i j found between was (inl same) (inr (inl stored)) =
    let At : ℕ → Type 0 = IsStored step i j in inr (inl (subst At (sym same) stored))
goes_back step steps i j found between was (inl same) (inr (inr none)) = absurd none

-- An image after some steps: each word is as in an image of before, or is one of the values stored to it since.
pub image_comes_from : (steps : List LineStep) (part : Part) (image : PartImage) → IsPartImage (after_steps steps part) image → ComesFrom part steps image
unfolding run
image_comes_from [] part image is = same_image part [] image is
image_comes_from (step ∷ steps) part image is =
    let later = image_comes_from steps (after_line_step step part) image is in
    let earlier = image_after_step step part later.before later.is in
    record {
      before = earlier.before;
      is = earlier.is;
      words = λ i j. goes_back step steps i j (image i j) (later.before i j) (earlier.before i j) (later.words i j) (earlier.words i j);
    }

-- Steps that store nothing leave no other image than before.
pub image_after_nothing : (steps : List LineStep) (part : Part) (image : PartImage) → ((line : ℕ) → LeaveLine steps line) → IsPartImage (after_steps steps part) image → IsPartImage part image
unfolding run
image_after_nothing [] part image none is = is
image_after_nothing (StoreWord line word value ∷ steps) part image none is = absurd (none line word value (inl (refl, refl, refl)))
image_after_nothing (Flush line ∷ steps) part image none is =
    image_after_flush part line image
    (image_after_nothing steps (after_line_step (Flush line) part) image (λ i j found later. none i j found (inr later)) is)
image_after_nothing (Fence ∷ steps) part image none is =
    image_after_fence part image (image_after_nothing steps (after_line_step Fence part) image (λ i j found later. none i j found (inr later)) is)

-- What each image has of a word it has after steps that store only such values to it.
pub each_word_after : (steps : List LineStep) (part : Part) (i j : ℕ) (P : ℕ → Type 0) → InEachPartImage (λ image. P (image i j)) part → ((found : ℕ) → IsStoredBy steps i j found → P found) → InEachPartImage (λ image. P (image i j)) (after_steps steps part)
each_word_after steps part i j P each stored image is =
    let from = image_comes_from steps part image is in
    elim (from.words i j) [
      | inl same ↦ subst P (sym same) (each from.before from.is)
      | inr one ↦ stored (image i j) one
    ]

-- ---- quiet lines

-- A quiet line is left as a load sees it.
pub quiet_image : (part : Part) (image : PartImage) (i j : ℕ) → IsQuietLine (line_of part i) → IsPartImage part image → image i j ≡ part_word part i j
quiet_image part image i j quiet is = may_leave_quiet (line_of part i) (image i) j quiet (is.lines i)

-- What flushes have led to: a line is open, or the next fence makes it quiet, or it is.
pub data Mark : Type 0 where
  open_line : Mark
  noted_line : Mark
  quiet_line : Mark

abbrev pub noted_more : Mark → Mark
noted_more open_line = noted_line
noted_more noted_line = noted_line
noted_more quiet_line = quiet_line

abbrev pub fenced_more : Mark → Mark
fenced_more open_line = open_line
fenced_more noted_line = quiet_line
fenced_more quiet_line = quiet_line

-- a line's mark after a step
abbrev pub mark_after : ℕ → LineStep → Mark → Mark
mark_after i (StoreWord line word value) mark = if i == line then open_line else mark
mark_after i (Flush line) mark = if i == line then noted_more mark else mark
mark_after i Fence mark = fenced_more mark

-- and after some steps
abbrev pub mark_after_all : ℕ → List LineStep → Mark → Mark
mark_after_all i [] mark = mark
mark_after_all i (step ∷ steps) mark = mark_after_all i steps (mark_after i step mark)

pub mark_after_all-append : (i : ℕ) (first rest : List LineStep) (mark : Mark) → mark_after_all i (first ++ rest) mark ≡ mark_after_all i rest (mark_after_all i first mark)
mark_after_all-append i [] rest mark = refl
mark_after_all-append i (step ∷ steps) rest mark = mark_after_all-append i steps rest (mark_after i step mark)

-- what a mark says of a line
abbrev pub HasMark : Mark → Line → Type 0
HasMark open_line line = Unit {0}
HasMark noted_line line = IsQuietLine (fenced line)
HasMark quiet_line line = IsQuietLine line

fenced_none : (word : Word) (noted : Option ℕ) → word.later ≡ [] → (fenced_at word noted).later ≡ []
fenced_none word None none = none
fenced_none word (Some count) none = ap (drop count) none ∙ drop_all count [] (omega arith)

quiet_fenced : (line : Line) → IsQuietLine line → IsQuietLine (fenced line)
unfolding IsQuietLine fenced
quiet_fenced [] quiet = refl
quiet_fenced (word ∷ line) quiet =
    rw (fenced_none word word.flushed (front_none word.later (later_values line) quiet))
    (quiet_fenced line (rest_none word.later (later_values line) quiet))

quiet_flushed : (line : Line) → IsQuietLine line → IsQuietLine (flushed line)
unfolding IsQuietLine flushed
quiet_flushed [] quiet = refl
quiet_flushed (word ∷ line) quiet =
    rw (front_none word.later (later_values line) quiet) (quiet_flushed line (rest_none word.later (later_values line) quiet))

pub noted_flushed : (line : Line) → IsQuietLine (fenced (flushed line))
unfolding IsQuietLine flushed fenced
noted_flushed [] = refl
noted_flushed (word ∷ line) = rw (drop_all (length word.later) word.later (omega arith)) (noted_flushed line)

pub quiet_blank : IsQuietLine blank_line
unfolding IsQuietLine
quiet_blank = refl

has_noted : (mark : Mark) (line : Line) → HasMark mark line → HasMark (noted_more mark) (flushed line)
has_noted open_line line has = noted_flushed line
has_noted noted_line line has = noted_flushed line
has_noted quiet_line line has = quiet_flushed line has

has_fenced : (mark : Mark) (line : Line) → HasMark mark line → HasMark (fenced_more mark) (fenced line)
has_fenced open_line line has = tt
has_fenced noted_line line has = has
has_fenced quiet_line line has = quiet_fenced line has

has_any : (mark : Mark) (line : Line) → IsQuietLine line → HasMark mark line
has_any open_line line quiet = tt
has_any noted_line line quiet = quiet_fenced line quiet
has_any quiet_line line quiet = quiet

-- a line that a part doesn't have is quiet
beyond : (part : Part) (i : ℕ) → length part ≤ i → IsQuietLine (line_of part i)
beyond part i past = subst IsQuietLine (sym (get_or_past part i blank_line past)) quiet_blank

has_set : (mark new : Mark) (part : Part) (line i : ℕ) (content : Line) → (HasMark mark (line_of part line) → HasMark new content) → HasMark mark (line_of part i)
    → HasMark (if i == line then new else mark) (line_of (slice_set part line content) i)
has_set mark new part line i content step has = elim (cases_eq i line) [
  | inl same ↦
      rw (eq-eqb i line same)
      (elim (cases_lt line (length part)) [
        | inl inside ↦
            let At : ℕ → Type 0 = λ k. HasMark mark (line_of part k) in
            let After : Line → Type 0 = HasMark new in
            subst After (sym (ap (line_of (slice_set part line content)) same ∙ line_of-set_same part line content inside)) (step (subst At same has))
        | inr past ↦
            has_any new (line_of (slice_set part line content) i)
            (beyond (slice_set part line content) i (omega (arith, length-set part line content)))
      ])
  | inr differs ↦
      let After : Line → Type 0 = HasMark mark in
      rw (ne_eqb i line differs) (subst After (sym (line_of-set_other part line i content differs)) has)
]

has_after_step : (i : ℕ) (step : LineStep) (part : Part) (mark : Mark) → HasMark mark (line_of part i) → HasMark (mark_after i step mark) (line_of (after_line_step step part) i)
has_after_step i (StoreWord line word value) part mark has =
    has_set mark open_line part line i (stored word value (line_of part line)) (λ _. tt) has
has_after_step i (Flush line) part mark has =
    has_set mark (noted_more mark) part line i (flushed (line_of part line)) (has_noted mark (line_of part line)) has
has_after_step i Fence part mark has =
    let After : Line → Type 0 = HasMark (fenced_more mark) in
    subst After (sym (line_of-map fenced part i fenced-blank)) (has_fenced mark (line_of part i) has)

-- The marks say what is so.
pub has_mark : (i : ℕ) (steps : List LineStep) (part : Part) (mark : Mark) → HasMark mark (line_of part i) → HasMark (mark_after_all i steps mark) (line_of (after_steps steps part) i)
unfolding run
has_mark i [] part mark has = has
has_mark i (step ∷ steps) part mark has = has_mark i steps (after_line_step step part) (mark_after i step mark) (has_after_step i step part mark has)

-- So a line whose marks end quiet is quiet, whatever it was.
pub quiet_after : (i : ℕ) (steps : List LineStep) (part : Part) → mark_after_all i steps open_line ≡ quiet_line → IsQuietLine (line_of (after_steps steps part) i)
quiet_after i steps part marks =
    let At : Mark → Type 0 = λ mark. HasMark mark (line_of (after_steps steps part) i) in
    subst At marks (has_mark i steps part open_line tt)

-- and a quiet one whose marks stay quiet
pub quiet_still : (i : ℕ) (steps : List LineStep) (part : Part) → mark_after_all i steps quiet_line ≡ quiet_line → IsQuietLine (line_of part i) → IsQuietLine (line_of (after_steps steps part) i)
quiet_still i steps part marks quiet =
    let At : Mark → Type 0 = λ mark. HasMark mark (line_of (after_steps steps part) i) in
    subst At marks (has_mark i steps part quiet_line quiet)

-- A mark stays quiet where nothing is stored in the line,
mark_stays : (i : ℕ) (steps : List LineStep) → LeaveLine steps i → mark_after_all i steps quiet_line ≡ quiet_line
mark_stays i [] none = refl
mark_stays i (StoreWord line word value ∷ steps) none = elim (cases_eq i line) [
  | inl same ↦ absurd (none word value (inl (same, refl, refl)))
  | inr differs ↦ rw (ne_eqb i line differs) (mark_stays i steps (λ j found later. none j found (inr later)))
]
mark_stays i (Flush line ∷ steps) none = elim (cases_eq i line) [
  | inl same ↦ rw (eq-eqb i line same) (mark_stays i steps (λ j found later. none j found (inr later)))
  | inr differs ↦ rw (ne_eqb i line differs) (mark_stays i steps (λ j found later. none j found (inr later)))
]
mark_stays i (Fence ∷ steps) none = mark_stays i steps (λ j found later. none j found (inr later))

-- and that of a flushed line comes to be quiet by a fence.
mark_settles : (i : ℕ) (between : List LineStep) → LeaveLine between i → mark_after_all i (between ++ Fence ∷ []) noted_line ≡ quiet_line
mark_settles i [] none = refl
mark_settles i (StoreWord line word value ∷ steps) none = elim (cases_eq i line) [
  | inl same ↦ absurd (none word value (inl (same, refl, refl)))
  | inr differs ↦ rw (ne_eqb i line differs, mark_after_all) (mark_settles i steps (λ j found later. none j found (inr later)))
]
mark_settles i (Flush line ∷ steps) none = elim (cases_eq i line) [
  | inl same ↦ rw (eq-eqb i line same, mark_after_all) (mark_settles i steps (λ j found later. none j found (inr later)))
  | inr differs ↦ rw (ne_eqb i line differs, mark_after_all) (mark_settles i steps (λ j found later. none j found (inr later)))
]
mark_settles i (Fence ∷ steps) none =
    mark_after_all-append i steps (Fence ∷ []) quiet_line ∙ ap fenced_more (mark_stays i steps (λ j found later. none j found (inr later)))

-- So a line is quiet after a flush and then a fence, with no store in it between them,
pub quiet_settled_line : (line : ℕ) (between : List LineStep) (part : Part) → LeaveLine between line → IsQuietLine (line_of (after_steps (Flush line ∷ (between ++ Fence ∷ [])) part) line)
quiet_settled_line line between part none =
    quiet_after line (Flush line ∷ (between ++ Fence ∷ [])) part (rw (eq-eqb line line refl, mark_after_all) (mark_settles line between none))

-- and stays so until there is one.
pub quiet_stays : (line : ℕ) (steps : List LineStep) (part : Part) → LeaveLine steps line → IsQuietLine (line_of part line) → IsQuietLine (line_of (after_steps steps part) line)
quiet_stays line steps part none quiet = quiet_still line steps part (mark_stays line steps none) quiet
