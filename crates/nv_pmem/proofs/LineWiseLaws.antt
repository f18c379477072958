-- An image of whole lines is one of words, and there are others.
use Rattle.std.proofs.Common.{◌≡◌, ◌≢◌, ℕ, ◌+◌, ◌-◌, ◌≤◌, inl, inr, List, [], ◌∷◌, ◌++◌, length, map, replicate, get_or, drop, slice_index, slice_set, Option, Some, None, zero, suc, refl, sym, ap, ◌∙◌, subst, arith, length-append}
use Rattle.std.proofs.lemmas.Bool.{cases_eq, cases_lt}
use Rattle.std.proofs.lemmas.List.{get_or-set_same, get_or-set_other, get_or_append_left, get_or_push, get_or_default, length_push, length-set, length-map, length-replicate, length-drop, drop-append-le, set_past}
use Rattle.std.proofs.Math.ListN.{get_or-map}
use Rattle.nv_plain.specs.Images.{PartImage}
use Rattle.nv_pmem.specs.Images.{MayHave, PowerMayLeave, IsPartImage}
use Rattle.nv_pmem.specs.LineWise.{WholeLine, whole_settled, whole_line_of, whole_content, whole_newest, whole_stored, whole_flushed, whole_fenced_at, whole_fenced, after_whole_step, IsWholeImage, WholeImagesAreLeft, two_stores, LaterStoreIsLeft}
use Rattle.nv_pmem.specs.Part.{Word, Line, Part, settled_word, word_of, newest_value, stored_value, fenced_at, fenced_word, stored, flushed, fenced, line_of}
use Rattle.nv_pmem.specs.Picked.{settled}
use Rattle.nv_pmem.specs.Runs.{run}
use Rattle.nv_pmem.specs.Steps.{LineStep, StoreWord, Flush, Fence, after_line_step}
use Rattle.nv_pmem.proofs.ImageLaws.{has_newest}
use Rattle.nv_pmem.proofs.LineLaws.{last_of, newest_left, newest-fenced_at, word_of-stored_same, word_of-stored_other, word_of-flushed, word_of-fenced, line_of-set_same, line_of-set_other, line_of-map, fenced-blank}

-- ---- a content with one word changed

with_word : List ℕ → ℕ → ℕ → List ℕ
with_word content word value = slice_set (content ++ replicate (word + 1 - length content) 0) word value

zeros : (count i : ℕ) → get_or {A = ℕ} (replicate count 0) i 0 ≡ 0
zeros zero i = refl
zeros (suc count) zero = refl
zeros (suc count) (suc i) = zeros count i

with_zeros : (content : List ℕ) (count i : ℕ) → get_or (content ++ replicate count 0) i 0 ≡ get_or content i 0
with_zeros [] count i = zeros count i
with_zeros (value ∷ content) count zero = refl
with_zeros (value ∷ content) count (suc i) = with_zeros content count i

word-with_word_same : (content : List ℕ) (word value : ℕ) → slice_index (with_word content word value) word ≡ value
unfolding with_word
word-with_word_same content word value =
    let more = replicate (word + 1 - length content) 0 in
    get_or-set_same (content ++ more) word value 0 (omega (arith, length-append content more, length-replicate {A = ℕ} (word + 1 - length content) 0))

word-with_word_other : (content : List ℕ) (word value other : ℕ) → other ≢ word → slice_index (with_word content word value) other ≡ slice_index content other
unfolding with_word
word-with_word_other content word value other differs =
    get_or-set_other (content ++ replicate (word + 1 - length content) 0) word other value 0 differs ∙ with_zeros content (word + 1 - length content) other

-- ---- a line of words covers a whole one

-- Each content's words are among its own, and the newest are the same.
record Covers (whole : WholeLine) (words : ℕ → Word) : Type 0 where
  has : (word count : ℕ) → count ≤ length whole.later → MayHave (words word) (slice_index (whole_content whole count) word)
  newest : (word : ℕ) → newest_value (words word) ≡ slice_index (whole_newest whole) word

-- a word has each of its values after a store too
still_has : (value : ℕ) (word : Word) (found : ℕ) → MayHave word found → MayHave (stored_value value word) found
still_has value word found (count, there, is) = (
  count,
  omega (arith, there, length_push word.later value),
  is ∙ sym (get_or_append_left (word.oldest ∷ word.later) (value ∷ []) word.oldest count (omega (arith, there))),
)

newest-stored : (value : ℕ) (word : Word) → newest_value (stored_value value word) ≡ value
newest-stored value word = get_or_push word.later value word.oldest (length (word.later ++ value ∷ []) - 1) (omega (arith, length_push word.later value))

stored_long : (word value : ℕ) (whole : WholeLine) → length (whole_stored word value whole).later ≡ length whole.later + 1
stored_long word value whole = length_push whole.later _

-- the words of a line after a store
record AreStored (word value : ℕ) (old new : ℕ → Word) : Type 0 where
  same : new word ≡ stored_value value (old word)
  others : (other : ℕ) → other ≢ word → new other ≡ old other

module _ (word value : ℕ) (whole : WholeLine) (old new : ℕ → Word) (are : AreStored word value old new) (covers : Covers whole old) where
  content : List ℕ
  content = with_word (whole_newest whole) word value

  has_more : (other found : ℕ) → MayHave (old other) found → MayHave (new other) found
  has_more other found has = elim (cases_eq other word) [
    | inl same ↦
        let At : ℕ → Type 0 = λ k. MayHave (old k) found → MayHave (new k) found in
        let Has : Word → Type 0 = λ one. MayHave one found in
        subst At (sym same) (λ was. subst Has (sym are.same) (still_has value (old word) found was)) has
    | inr differs ↦ let Has : Word → Type 0 = λ one. MayHave one found in subst Has (sym (are.others other differs)) has
  ]

  newest_is : (other : ℕ) → newest_value (new other) ≡ slice_index content other
  unfolding content
  newest_is other = elim (cases_eq other word) [
    | inl same ↦
        ap (λ k. newest_value (new k)) same ∙ ap newest_value are.same ∙ newest-stored value (old word)
        ∙ sym (word-with_word_same (whole_newest whole) word value) ∙ ap (slice_index (with_word (whole_newest whole) word value)) (sym same)
    | inr differs ↦
        ap newest_value (are.others other differs) ∙ covers.newest other ∙ sym (word-with_word_other (whole_newest whole) word value other differs)
  ]

  last_content : (count : ℕ) → count ≡ length whole.later + 1 → whole_content (whole_stored word value whole) count ≡ content
  unfolding content with_word
  last_content count last = get_or_push (whole.oldest ∷ whole.later) content whole.oldest count (omega arith)

  newest_content : whole_newest (whole_stored word value whole) ≡ content
  unfolding content with_word
  newest_content =
      get_or_push whole.later content whole.oldest (length (whole.later ++ content ∷ []) - 1) (omega (arith, length_push whole.later content))

  earlier_content : (count : ℕ) → count ≤ length whole.later → whole_content (whole_stored word value whole) count ≡ whole_content whole count
  unfolding content with_word
  earlier_content count there = get_or_append_left (whole.oldest ∷ whole.later) (content ∷ []) whole.oldest count (omega arith)

  covers_stored : Covers (whole_stored word value whole) new
  covers_stored = record {
    has = λ other count there. elim (cases_lt (length whole.later) count) [
      | inl last ↦
          subst (MayHave (new other)) (newest_is other ∙ ap (λ these. slice_index these other) (sym (last_content count (omega (arith, there, stored_long word value whole)))))
          (has_newest (new other))
      | inr earlier ↦
          subst (MayHave (new other)) (ap (λ these. slice_index these other) (sym (earlier_content count earlier)))
          (has_more other (slice_index (whole_content whole count) other) (covers.has other count earlier))
    ];
    newest = λ other. newest_is other ∙ ap (λ these. slice_index these other) (sym newest_content);
  }

-- ---- and does so after each step

-- what was noted is there
abbrev IsThere : Option ℕ → ℕ → Type 0
IsThere None len = Unit {0}
IsThere (Some count) len = count ≤ len

record Follows (whole : WholeLine) (line : Line) : Type 0 where
  now : Covers whole (word_of line)
  fenced : Covers (whole_fenced whole) (λ word. fenced_word (word_of line word))
  noted : IsThere whole.flushed (length whole.later)
  words_noted : (word : ℕ) → IsThere (word_of line word).flushed (length (word_of line word).later)

there_more : (noted : Option ℕ) (len more : ℕ) → len ≤ more → IsThere noted len → IsThere noted more
there_more None len more long there = tt
there_more (Some count) len more long there = omega (arith, there, long)

-- the oldest that a fence leaves is the same behind a store
first_left : {X : Type 0} (first : X) (rest : List X) (value : X) (count : ℕ) (newest later : X) → count ≤ length rest → get_or (first ∷ (rest ++ value ∷ [])) count later ≡ get_or (first ∷ rest) count newest
first_left first rest value count newest later there =
    get_or_default (first ∷ (rest ++ value ∷ [])) count later first (omega (arith, there, length_push rest value))
    ∙ get_or_append_left (first ∷ rest) (value ∷ []) first count (omega (arith, there))
    ∙ get_or_default (first ∷ rest) count first newest (omega (arith, there))

-- a store and then a fence are a fence and then a store
fence_store : (value : ℕ) (word : Word) (noted : Option ℕ) → IsThere noted (length word.later) → word.flushed ≡ noted → fenced_at (stored_value value word) noted ≡ stored_value value (fenced_at word noted)
fence_store value word None there is = refl
fence_store value word (Some count) there is =
    let Made : ℕ → List ℕ → Word = λ oldest later. record { oldest = oldest; later = later; flushed = None } in
    ap (λ oldest. Made oldest (drop count (word.later ++ value ∷ []))) (first_left word.oldest word.later value count (newest_value word) (newest_value (stored_value value word)) there)
    ∙ ap (Made (get_or (word.oldest ∷ word.later) count (newest_value word))) (drop-append-le count word.later (value ∷ []) there)

whole_newest-fenced_at : (whole : WholeLine) (noted : Option ℕ) → whole_newest (whole_fenced_at whole noted) ≡ whole_newest whole
whole_newest-fenced_at whole None = refl
whole_newest-fenced_at whole (Some count) = newest_left whole.oldest whole.later count

whole_fence_store : (word value : ℕ) (whole : WholeLine) (noted : Option ℕ) → IsThere noted (length whole.later) → whole_fenced_at (whole_stored word value whole) noted ≡ whole_stored word value (whole_fenced_at whole noted)
whole_fence_store word value whole None there = refl
whole_fence_store word value whole (Some count) there =
    let Made : List ℕ → List (List ℕ) → WholeLine = λ oldest later. record { oldest = oldest; later = later; flushed = None } in
    let changed = λ (newest : List ℕ). slice_set (newest ++ replicate (word + 1 - length newest) 0) word value in
    let content = changed (whole_newest whole) in
    let oldest = get_or (whole.oldest ∷ whole.later) count (whole_newest whole) in
    ap (λ first. Made first (drop count (whole.later ++ content ∷ []))) (first_left whole.oldest whole.later content count (whole_newest whole) (whole_newest (whole_stored word value whole)) there)
    ∙ ap (Made oldest) (drop-append-le count whole.later (content ∷ []) there)
    ∙ ap (λ newest. Made oldest (drop count whole.later ++ changed newest ∷ [])) (sym (newest_left whole.oldest whole.later count))

follows_stored : (word value : ℕ) (whole : WholeLine) (line : Line) → Follows whole line → Follows (whole_stored word value whole) (stored word value line)
follows_stored word value whole line follows =
    let new = stored word value line in
    record {
      now = covers_stored word value whole (word_of line) (word_of new) (record { same = word_of-stored_same word value line; others = word_of-stored_other word value line }) follows.now;
      fenced =
          let Is : WholeLine → Type 0 = λ one. Covers one (λ k. fenced_word (word_of new k)) in
          subst Is (sym (whole_fence_store word value whole whole.flushed follows.noted))
          (covers_stored word value (whole_fenced whole) (λ k. fenced_word (word_of line k)) (λ k. fenced_word (word_of new k))
          (record {
            same = ap fenced_word (word_of-stored_same word value line) ∙ fence_store value (word_of line word) (word_of line word).flushed (follows.words_noted word) refl;
            others = λ other differs. ap fenced_word (word_of-stored_other word value line other differs);
          })
          follows.fenced);
      noted = there_more whole.flushed (length whole.later) (length (whole_stored word value whole).later) (omega (arith, stored_long word value whole)) follows.noted;
      words_noted = λ other.
          let Is : Word → Type 0 = λ one. IsThere one.flushed (length one.later) in
          elim (cases_eq other word) [
            | inl same ↦
                let At : ℕ → Type 0 = λ k. IsThere (word_of new k).flushed (length (word_of new k).later) in
                subst At (sym same)
                (subst Is (sym (word_of-stored_same word value line))
                (there_more (word_of line word).flushed (length (word_of line word).later) (length ((word_of line word).later ++ value ∷ [])) (omega (arith, length_push (word_of line word).later value)) (follows.words_noted word)))
            | inr differs ↦ subst Is (sym (word_of-stored_other word value line other differs)) (follows.words_noted other)
          ];
    }

-- words that are the same cover as much
covers_words : (whole : WholeLine) (old new : ℕ → Word) → ((word : ℕ) → new word ≡ old word) → Covers whole old → Covers whole new
covers_words whole old new same covers = record {
  has = λ word count there.
      let Has : Word → Type 0 = λ one. MayHave one (slice_index (whole_content whole count) word) in subst Has (sym (same word)) (covers.has word count there);
  newest = λ word. ap newest_value (same word) ∙ covers.newest word;
}

-- words that have the newest content cover a line that has no other
covers_one : (whole : WholeLine) (words : ℕ → Word) → length whole.later ≡ 0 → ((word : ℕ) → newest_value (words word) ≡ slice_index (whole_newest whole) word) → Covers whole words
covers_one whole words none newest = record {
  has = λ word count there.
      let here : count ≡ length whole.later = omega (arith, there, none) in
      subst (MayHave (words word)) (newest word ∙ ap (λ these. slice_index these word) (sym (last_of whole.oldest whole.later count here ∙ ap (λ k. get_or whole.later (k - 1) whole.oldest) here)))
      (has_newest (words word));
  newest = newest;
}

follows_flushed : (whole : WholeLine) (line : Line) → Follows whole line → Follows (whole_flushed whole) (flushed line)
follows_flushed whole line follows =
    let newest : (word : ℕ) → newest_value (word_of (flushed line) word) ≡ slice_index (whole_newest whole) word =
    λ word.
    let Is : Word → Type 0 = λ one. newest_value one ≡ slice_index (whole_newest whole) word in
    word_of-flushed Is line word (follows.now.newest word) (follows.now.newest word) in
    record {
      now = record {
        has = λ word count there.
            let Has : Word → Type 0 = λ one. MayHave one (slice_index (whole_content whole count) word) in
            word_of-flushed Has line word (follows.now.has word count there) (follows.now.has word count there);
        newest = newest;
      };
      fenced = covers_one (whole_fenced (whole_flushed whole)) (λ word. fenced_word (word_of (flushed line) word)) (omega (arith, length-drop (length whole.later) whole.later))
          (λ word.
          newest-fenced_at (word_of (flushed line) word) (word_of (flushed line) word).flushed ∙ newest word
          ∙ ap (λ these. slice_index these word) (sym (newest_left whole.oldest whole.later (length whole.later))));
      noted = omega arith;
      words_noted = λ word.
          let Is : Word → Type 0 = λ one. IsThere one.flushed (length one.later) in
          word_of-flushed Is line word (omega arith) (follows.words_noted word);
    }

-- a fence behind a fence does nothing
fenced_unnoted : (word : Word) (noted : Option ℕ) → word.flushed ≡ noted → (fenced_at word noted).flushed ≡ None
fenced_unnoted word None is = is
fenced_unnoted word (Some count) is = refl

whole_unnoted : (whole : WholeLine) (noted : Option ℕ) → whole.flushed ≡ noted → (whole_fenced_at whole noted).flushed ≡ None
whole_unnoted whole None is = is
whole_unnoted whole (Some count) is = refl

follows_fenced : (whole : WholeLine) (line : Line) → Follows whole line → Follows (whole_fenced whole) (fenced line)
follows_fenced whole line follows =
    let words_none : (word : ℕ) → (word_of (fenced line) word).flushed ≡ None = λ word. ap (λ one. one.flushed) (word_of-fenced line word) ∙ fenced_unnoted (word_of line word) (word_of line word).flushed refl in
    let none : (whole_fenced whole).flushed ≡ None = whole_unnoted whole whole.flushed refl in
    let now : Covers (whole_fenced whole) (word_of (fenced line)) = covers_words (whole_fenced whole) (λ word. fenced_word (word_of line word)) (word_of (fenced line)) (word_of-fenced line) follows.fenced in
    record {
      now = now;
      fenced =
          let Is : WholeLine → Type 0 = λ one. Covers one (λ word. fenced_word (word_of (fenced line) word)) in
          subst Is (sym (ap (whole_fenced_at (whole_fenced whole)) none))
          (covers_words (whole_fenced whole) (word_of (fenced line)) (λ word. fenced_word (word_of (fenced line) word))
          (λ word. ap (fenced_at (word_of (fenced line) word)) (words_none word)) now);
      noted = let Is : Option ℕ → Type 0 = λ noted. IsThere noted (length (whole_fenced whole).later) in subst Is (sym none) tt;
      words_noted = λ word.
          let Is : Option ℕ → Type 0 = λ noted. IsThere noted (length (word_of (fenced line) word).later) in subst Is (sym (words_none word)) tt;
    }

settled_covers : (content : List ℕ) → Covers (whole_settled content) (word_of (settled content))
settled_covers content =
    covers_one (whole_settled content) (word_of (settled content)) refl (λ word. ap newest_value (get_or-map settled_word content word 0))

follows_settled : (content : List ℕ) → Follows (whole_settled content) (settled content)
follows_settled content = record {
  now = settled_covers content;
  fenced = covers_words (whole_settled content) (word_of (settled content)) (λ word. fenced_word (word_of (settled content) word)) (λ word. ap fenced_word (get_or-map settled_word content word 0) ∙ sym (get_or-map settled_word content word 0)) (settled_covers content);
  noted = tt;
  words_noted = λ word.
      let Is : Word → Type 0 = λ one. IsThere one.flushed (length one.later) in subst Is (sym (get_or-map settled_word content word 0)) tt;
}

-- ---- a part

record FollowsPart (wholes : List WholeLine) (part : Part) : Type 0 where
  lines : length wholes ≡ length part
  each : (line : ℕ) → Follows (whole_line_of wholes line) (line_of part line)

follows_set : (wholes : List WholeLine) (part : Part) (at : ℕ) (whole : WholeLine) (line : Line) → FollowsPart wholes part → Follows whole line → FollowsPart (slice_set wholes at whole) (slice_set part at line)
follows_set wholes part at whole line follows one = record {
  lines = length-set wholes at whole ∙ follows.lines ∙ sym (length-set part at line);
  each = λ i. elim (cases_lt at (length part)) [
    | inl inside ↦ elim (cases_eq i at) [
      | inl same ↦
          let At : ℕ → Type 0 = λ k. Follows (whole_line_of (slice_set wholes at whole) k) (line_of (slice_set part at line) k) in
          let First : WholeLine → Type 0 = λ these. Follows these (line_of (slice_set part at line) at) in
          subst At (sym same)
          (subst First (sym (get_or-set_same wholes at whole (whole_settled (replicate 8 0)) (omega (arith, inside, follows.lines))))
          (subst (Follows whole) (sym (line_of-set_same part at line inside)) one))
      | inr differs ↦
          let First : WholeLine → Type 0 = λ these. Follows these (line_of (slice_set part at line) i) in
          subst First (sym (get_or-set_other wholes at i whole (whole_settled (replicate 8 0)) differs))
          (subst (Follows (whole_line_of wholes i)) (sym (line_of-set_other part at i line differs)) (follows.each i))
    ]
    | inr past ↦
        let First : List WholeLine → Type 0 = λ these. Follows (whole_line_of these i) (line_of (slice_set part at line) i) in
        let Second : Part → Type 0 = λ these. Follows (whole_line_of wholes i) (line_of these i) in
        subst First (sym (set_past wholes at whole (omega (arith, past, follows.lines)))) (subst Second (sym (set_past part at line past)) (follows.each i))
  ];
}

follows_step : (step : LineStep) (wholes : List WholeLine) (part : Part) → FollowsPart wholes part → FollowsPart (after_whole_step step wholes) (after_line_step step part)
follows_step (StoreWord line word value) wholes part follows =
    follows_set wholes part line (whole_stored word value (whole_line_of wholes line)) (stored word value (line_of part line)) follows (follows_stored word value (whole_line_of wholes line) (line_of part line) (follows.each line))
follows_step (Flush line) wholes part follows =
    follows_set wholes part line (whole_flushed (whole_line_of wholes line)) (flushed (line_of part line)) follows (follows_flushed (whole_line_of wholes line) (line_of part line) (follows.each line))
follows_step Fence wholes part follows = record {
  lines = length-map wholes whole_fenced ∙ follows.lines ∙ sym (length-map part fenced);
  each = λ i.
      let First : WholeLine → Type 0 = λ these. Follows these (line_of (map fenced part) i) in
      subst First (sym (get_or-map whole_fenced wholes i (whole_settled (replicate 8 0))))
      (subst (Follows (whole_fenced (whole_line_of wholes i))) (sym (line_of-map fenced part i fenced-blank)) (follows_fenced (whole_line_of wholes i) (line_of part i) (follows.each i)));
}

follows_steps : (steps : List LineStep) (wholes : List WholeLine) (part : Part) → FollowsPart wholes part → FollowsPart (run after_whole_step steps wholes) (run after_line_step steps part)
unfolding run
follows_steps [] wholes part follows = follows
follows_steps (step ∷ steps) wholes part follows = follows_steps steps (after_whole_step step wholes) (after_line_step step part) (follows_step step wholes part follows)

follows_first : (contents : List (List ℕ)) → FollowsPart (map whole_settled contents) (map settled contents)
follows_first contents = record {
  lines = length-map contents whole_settled ∙ sym (length-map contents settled);
  each = λ i.
      let First : WholeLine → Type 0 = λ these. Follows these (line_of (map settled contents) i) in
      let content = get_or contents i (replicate 8 0) in
      subst First (sym (get_or-map whole_settled contents i (replicate 8 0)))
      (subst (Follows (whole_settled content)) (sym (get_or-map settled contents i (replicate 8 0))) (follows_settled content));
}

-- an image of lines that words follow
left_of : (wholes : List WholeLine) (part : Part) (image : PartImage) → FollowsPart wholes part → IsWholeImage wholes image → IsPartImage part image
unfolding PowerMayLeave
left_of wholes part image follows is = record {
  lines = λ line word.
      let one = is.lines line in
      subst (MayHave (word_of (line_of part line) word)) (sym (one.2 word)) ((follows.each line).now.has word one.0 one.1);
}

pub whole_images_are_left : WholeImagesAreLeft
whole_images_are_left contents steps image is =
    left_of (run after_whole_step steps (map whole_settled contents)) (run after_line_step steps (map settled contents)) image
    (follows_steps steps (map whole_settled contents) (map settled contents) (follows_first contents)) is

-- ---- and one that isn't an image of whole lines

second_alone : PartImage
second_alone zero (suc zero) = 2
second_alone line word = 0

zero_has : (count word : ℕ) → MayHave (word_of (replicate count (settled_word 0)) word) 0
zero_has zero word = (0, omega arith, refl)
zero_has (suc count) zero = (0, omega arith, refl)
zero_has (suc count) (suc word) = zero_has count word

second_left : IsPartImage (run after_line_step two_stores (map settled (replicate 8 0 ∷ []))) second_alone
unfolding PowerMayLeave run stored second_alone
second_left = record { lines = lines }
  where
    lines : (line word : ℕ) → MayHave (word_of (line_of (run after_line_step two_stores (map settled (replicate 8 0 ∷ []))) line) word) (second_alone line word)
    lines zero zero = (0, omega arith, refl)
    lines zero (suc zero) = (1, omega arith, refl)
    lines zero (suc (suc word)) = zero_has 6 word
    lines (suc line) word = zero_has 8 word

not_left : (count : ℕ) → count ≤ 2 → ((word : ℕ) → second_alone 0 word ≡ slice_index (whole_content (whole_line_of (run after_whole_step two_stores (map whole_settled (replicate 8 0 ∷ []))) 0) count) word) → ⊥
unfolding run second_alone
not_left zero there are = let second : 2 ≡ 0 = are 1 in omega (arith, second)
not_left (suc zero) there are = let first : 0 ≡ 1 = are 0 in omega (arith, first)
not_left (suc (suc zero)) there are = let first : 0 ≡ 1 = are 0 in omega (arith, first)
not_left (suc (suc (suc count))) there are = omega (arith, there)

pub later_store_is_left : LaterStoreIsLeft
unfolding run second_alone
later_store_is_left = record {
  image = second_alone;
  first = refl;
  second = refl;
  left = second_left;
  not_whole = λ is. let one = is.lines 0 in not_left one.0 one.1 one.2;
}
