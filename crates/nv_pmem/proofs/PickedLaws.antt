-- Laws about picked images: they are images, and quiet; and one more line.
use Rattle.std.proofs.Common.{◌≡◌, ◌≢◌, ℕ, ◌+◌, ◌-◌, ◌%◌, ◌<◌, ◌≤◌, ◌==◌, if◌then◌else◌, Bool, true, false, [], ◌∷◌, ◌++◌, length, get_or, set, take, drop, zero, suc, refl, sym, ap, subst, ◌∙◌, arith, append_assoc, length-append}
use Rattle.std.proofs.lemmas.Bool.{ne_eqb}
use Rattle.std.proofs.lemmas.List.{take_more, drop_more, get_or_at, set_at, length-take, length-drop, take_all, drop_all, append-nil}
use Rattle.std.specs.List.{refill}
use Rattle.nv_pmem.specs.Draws.{Draws, next_word, after_draw}
use Rattle.nv_pmem.specs.Images.{MayHave, PowerMayLeave, IsPartImage, later_values, IsQuietLine, IsQuietPart}
use Rattle.nv_pmem.specs.Part.{Word, Line, Part, word_of, newest_value, newest, word_at, line_of, part_word}
use Rattle.nv_pmem.specs.Picked.{value_of, taken, picked_word, picked_from, picked_line, picked}
use Rattle.nv_pmem.specs.declared.picker.Pick.{Pick}
use Rattle.nv_pmem.specs.declared.picker.Pick.TheVariants.{Old, New, Torn, Mixed, Seed}
use Rattle.nv_pmem.specs.Told.{most_later, spare_of}
use Rattle.nv_pmem.proofs.ImageLaws.{image_of_now, quiet_blank, front_none, rest_none}
use Rattle.nv_pmem.proofs.LineLaws.{word_at-newest}

-- ---- one line more

picked-append : (draws : Draws) (part rest : Part) → picked draws (part ++ rest) ≡ ((picked draws part).0 ++ (picked (picked draws part).1 rest).0, (picked (picked draws part).1 rest).1)
unfolding picked
picked-append draws [] rest = refl
picked-append draws (line ∷ part) rest =
    let one = picked_line draws line in
    ap (λ (more : Part × Draws). let all : Part × Draws = (one.0 ∷ more.0, more.1) in all) (picked-append one.1 part rest)

picked-one : (draws : Draws) (line : Line) → picked draws (line ∷ []) ≡ ((picked_line draws line).0 ∷ [], (picked_line draws line).1)
unfolding picked
picked-one draws line = refl

-- the first so many lines of a part and one more
pub picked-more : (draws : Draws) (part : Part) (i : ℕ) (line : Line) → i < length part → line ≡ get_or part i line → picked draws (take (i + 1) part) ≡ ((picked draws (take i part)).0 ++ (picked_line (picked draws (take i part)).1 line).0 ∷ [], (picked_line (picked draws (take i part)).1 line).1)
picked-more draws part i line inside is =
    ap (picked draws) (take_more part i line inside ∙ ap (λ one. take i part ++ one ∷ []) (sym is))
    ∙ picked-append draws (take i part) (line ∷ [])
    ∙ ap (λ (more : Part × Draws). let all : Part × Draws = ((picked draws (take i part)).0 ++ more.0, more.1) in all)
    (picked-one (picked draws (take i part)).1 line)

pub length-picked : (draws : Draws) (part : Part) → length (picked draws part).0 ≡ length part
unfolding picked
length-picked draws [] = refl
length-picked draws (line ∷ part) = ap suc (length-picked (picked_line draws line).1 part)

-- A loop over a part's lines, one line further.
pub record PicksFirst (draws : Draws) (part : Part) (i : ℕ) (lines : Part) (now : Draws) : Type 0 where
  pub are : lines ≡ (picked draws (take i part)).0 ++ drop i part
  pub draws_are : now ≡ (picked draws (take i part)).1

pub picks_more : (draws : Draws) (part : Part) (i : ℕ) (lines : Part) (now : Draws) (line left : Line) (after : Draws) → i < length part → PicksFirst draws part i lines now → line ≡ get_or lines i line → (left, after) ≡ picked_line now line → PicksFirst draws part (i + 1) (set lines i left) after
picks_more draws part i lines now line left after inside so_far is one =
    let front = (picked draws (take i part)).0 in
    let long : length front ≡ i = length-picked draws (take i part) ∙ omega (arith, length-take i part) in
    let parts : lines ≡ front ++ get_or part i line ∷ drop (i + 1) part = so_far.are ∙ ap (λ rest. front ++ rest) (drop_more part i line inside) in
    let read : line ≡ get_or part i line = is ∙ ap (λ these. get_or these i line) parts ∙ get_or_at front _ _ line i long in
    let more = picked-more draws part i line inside read in
    let here : (left, after) ≡ picked_line (picked draws (take i part)).1 line = one ∙ ap (λ these. picked_line these line) so_far.draws_are in
    record {
      are =
          ap (λ these. set these i left) parts ∙ set_at front _ _ left i long ∙ sym (append_assoc front (left ∷ []) _)
          ∙ ap (λ these. these ++ drop (i + 1) part)
          (ap (λ (p : Line × Draws). front ++ p.0 ∷ []) here ∙ sym (ap (λ (p : Part × Draws). p.0) more));
      draws_are = ap (λ (p : Line × Draws). p.1) here ∙ sym (ap (λ (p : Part × Draws). p.1) more);
    }

-- after the last line
pub picks_all_draws : (draws : Draws) (part : Part) (i : ℕ) (lines : Part) (now : Draws) → length part ≤ i → PicksFirst draws part i lines now → now ≡ (picked draws part).1
picks_all_draws draws part i lines now over so_far = so_far.draws_are ∙ ap (λ these. (picked draws these).1) (take_all i part over)

-- the loop's lines then, put back into their vector
pub picks_all : (draws : Draws) (part : Part) (i len : ℕ) (lines : Part) (now : Draws) → length part ≤ i → length part ≤ len → PicksFirst draws part i lines now → refill len part lines ≡ (picked draws part).0
picks_all draws part i len lines now over long so_far =
    let all : lines ≡ (picked draws part).0 = so_far.are ∙ rw (take_all i part over, drop_all i part over, append-nil) in
    rw (
      all,
      drop_all (length (picked draws part).0) part (omega (arith, length-picked draws part)),
      append-nil,
      take_all len (picked draws part).0 (omega (arith, length-picked draws part)),
    )

-- ---- one word more of a line

picked_from-append : (draws : Draws) (at : ℕ) (line rest : Line) → picked_from draws at (line ++ rest) ≡ ((picked_from draws at line).0 ++ (picked_from (picked_from draws at line).1 (at + length line) rest).0, (picked_from (picked_from draws at line).1 (at + length line) rest).1)
unfolding picked_from
picked_from-append draws at [] rest = ap (λ k. picked_from draws k rest) (omega arith)
picked_from-append draws at (word ∷ line) rest =
    let one = picked_word draws at word in
    ap (λ (more : Line × Draws). let all : Line × Draws = (one.0 ∷ more.0, more.1) in all) (picked_from-append one.1 (at + 1) line rest)
    ∙ ap (λ k.
    let more = picked_from (picked_from one.1 (at + 1) line).1 k rest in
    let all : Line × Draws = (one.0 ∷ ((picked_from one.1 (at + 1) line).0 ++ more.0), more.1) in
    all)
    (omega arith)

picked_from-one : (draws : Draws) (at : ℕ) (word : Word) → picked_from draws at (word ∷ []) ≡ ((picked_word draws at word).0 ∷ [], (picked_word draws at word).1)
unfolding picked_from
picked_from-one draws at word = refl

-- the first so many words of a line and one more
picked_from-more : (draws : Draws) (line : Line) (i : ℕ) (word : Word) → i < length line → word ≡ get_or line i word
    → picked_from draws 0 (take (i + 1) line) ≡ ((picked_from draws 0 (take i line)).0 ++ (picked_word (picked_from draws 0 (take i line)).1 i word).0 ∷ [], (picked_word (picked_from draws 0 (take i line)).1 i word).1)
picked_from-more draws line i word inside is =
    let so_far = picked_from draws 0 (take i line) in
    let place : 0 + length (take i line) ≡ i = omega (arith, length-take i line) in
    ap (picked_from draws 0) (take_more line i word inside ∙ ap (λ one. take i line ++ one ∷ []) (sym is))
    ∙ picked_from-append draws 0 (take i line) (word ∷ [])
    ∙ ap (λ (more : Line × Draws). let all : Line × Draws = (so_far.0 ++ more.0, more.1) in all)
    (ap (λ k. picked_from so_far.1 k (word ∷ [])) place ∙ picked_from-one so_far.1 i word)

length-picked_from : (draws : Draws) (at : ℕ) (line : Line) → length (picked_from draws at line).0 ≡ length line
unfolding picked_from
length-picked_from draws at [] = refl
length-picked_from draws at (word ∷ line) = ap suc (length-picked_from (picked_word draws at word).1 (at + 1) line)

-- A loop over a line's words, one word further.
pub record PicksWords (draws : Draws) (line : Line) (i : ℕ) (words : Line) (now : Draws) : Type 0 where
  pub are : words ≡ (picked_from draws 0 (take i line)).0 ++ drop i line
  pub draws_are : now ≡ (picked_from draws 0 (take i line)).1

pub words_none : (draws : Draws) (line : Line) → PicksWords draws line 0 line draws
unfolding picked_from
words_none draws line = record { are = refl; draws_are = refl }

pub words_more : (draws : Draws) (line : Line) (i : ℕ) (words : Line) (now : Draws) (word left : Word) (after : Draws) → i < length line → PicksWords draws line i words now → word ≡ get_or words i word → (left, after) ≡ picked_word now i word → PicksWords draws line (i + 1) (set words i left) after
words_more draws line i words now word left after inside so_far is one =
    let front = (picked_from draws 0 (take i line)).0 in
    let long : length front ≡ i = length-picked_from draws 0 (take i line) ∙ omega (arith, length-take i line) in
    let parts : words ≡ front ++ get_or line i word ∷ drop (i + 1) line = so_far.are ∙ ap (λ rest. front ++ rest) (drop_more line i word inside) in
    let read : word ≡ get_or line i word = is ∙ ap (λ these. get_or these i word) parts ∙ get_or_at front _ _ word i long in
    let more = picked_from-more draws line i word inside read in
    let here : (left, after) ≡ picked_word (picked_from draws 0 (take i line)).1 i word = one ∙ ap (λ these. picked_word these i word) so_far.draws_are in
    record {
      are =
          ap (λ these. set these i left) parts ∙ set_at front _ _ left i long ∙ sym (append_assoc front (left ∷ []) _)
          ∙ ap (λ these. these ++ drop (i + 1) line)
          (ap (λ (p : Word × Draws). front ++ p.0 ∷ []) here ∙ sym (ap (λ (p : Line × Draws). p.0) more));
      draws_are = ap (λ (p : Word × Draws). p.1) here ∙ sym (ap (λ (p : Line × Draws). p.1) more);
    }

-- after the last word
pub words_all : (draws : Draws) (line : Line) (i : ℕ) (words : Line) (now : Draws) → length line ≤ i → PicksWords draws line i words now → (words, now) ≡ picked_line draws line
unfolding picked_line
words_all draws line i words now over so_far =
    let all = picked_from draws 0 (take i line) in
    ap (λ (these : Line). let both : Line × Draws = (these, now) in both) (so_far.are ∙ ap (λ rest. all.0 ++ rest) (drop_all i line over) ∙ append-nil all.0)
    ∙ ap (λ (draw : Draws). let both : Line × Draws = (all.0, draw) in both) so_far.draws_are
    ∙ ap (picked_from draws 0) (take_all i line over)

pub length-words : (draws : Draws) (line : Line) (i : ℕ) (words : Line) (now : Draws) → PicksWords draws line i words now → length words ≡ length line
length-words draws line i words now so_far =
    let front = (picked_from draws 0 (take i line)).0 in
    ap length so_far.are
    ∙ omega (arith, length-append front (drop i line), length-picked_from draws 0 (take i line), length-take i line, length-drop i line)

-- ---- they are images, and quiet

seed_within : (count word : ℕ) (draws after : Draws) → (if◌then◌else◌ {A = ℕ × Draws} (count == 0) (0, draws) (word % (count + 1), after)).0 ≤ count
seed_within zero word draws after = omega arith
seed_within (suc count) word draws after = let some : suc count ≢ 0 = omega arith in rw (ne_eqb (suc count) 0 some) (omega arith)

mixed_within : (even : Bool) (count : ℕ) → (if even then 0 else count) ≤ count
mixed_within true count = omega arith
mixed_within false count = omega arith

taken_within : (pick : Pick) (draws : Draws) (at : ℕ) (word : Word) → (taken pick draws at word).0 ≤ length word.later
taken_within Old draws at word = omega arith
taken_within New draws at word = omega arith
taken_within Torn draws at word = omega arith
taken_within Mixed draws at word = mixed_within (at % 2 == 0) (length word.later)
taken_within (Seed seed) draws at word = seed_within (length word.later) (next_word draws) draws (after_draw draws)

-- a word that lost power has a value that it may have
picked_word_may : (draws : Draws) (at : ℕ) (word : Word) → MayHave word (newest_value (picked_word draws at word).0)
unfolding picked_word value_of
picked_word_may draws at word = ((taken draws.pick draws at word).0, taken_within draws.pick draws at word, refl)

picked_from_may : (draws : Draws) (at : ℕ) (line : Line) (word : ℕ) → MayHave (word_of line word) (newest_value (word_of (picked_from draws at line).0 word))
unfolding picked_from
picked_from_may draws at [] word = (0, omega arith, refl)
picked_from_may draws at (first ∷ line) zero = picked_word_may draws at first
picked_from_may draws at (first ∷ line) (suc word) = picked_from_may (picked_word draws at first).1 (at + 1) line word

picked_line_may : (draws : Draws) (line : Line) → PowerMayLeave line (word_at (newest (picked_line draws line).0))
unfolding PowerMayLeave picked_line
picked_line_may draws line word =
    subst (MayHave (word_of line word)) (sym (word_at-newest (picked_from draws 0 line).0 word)) (picked_from_may draws 0 line word)

picked_from_quiet : (draws : Draws) (at : ℕ) (line : Line) → later_values (picked_from draws at line).0 ≡ []
unfolding picked_from picked_word
picked_from_quiet draws at [] = refl
picked_from_quiet draws at (word ∷ line) = picked_from_quiet (picked_word draws at word).1 (at + 1) line

picked_line_quiet : (draws : Draws) (line : Line) → IsQuietLine (picked_line draws line).0
unfolding IsQuietLine picked_line
picked_line_quiet draws line = picked_from_quiet draws 0 line

may_leave_picked : (draws : Draws) (part : Part) (i : ℕ) → PowerMayLeave (line_of part i) (part_word (picked draws part).0 i)
unfolding picked
may_leave_picked draws [] i = (image_of_now []).lines i
may_leave_picked draws (line ∷ part) zero = picked_line_may draws line
may_leave_picked draws (line ∷ part) (suc i) = may_leave_picked (picked_line draws line).1 part i

pub picked_is_image : (draws : Draws) (part : Part) → IsPartImage part (part_word (picked draws part).0)
picked_is_image draws part = record { lines = may_leave_picked draws part }

quiet_line_picked : (draws : Draws) (part : Part) (i : ℕ) → IsQuietLine (line_of (picked draws part).0 i)
unfolding picked
quiet_line_picked draws [] i = quiet_blank
quiet_line_picked draws (line ∷ part) zero = picked_line_quiet draws line
quiet_line_picked draws (line ∷ part) (suc i) = quiet_line_picked (picked_line draws line).1 part i

pub picked_is_quiet : (draws : Draws) (part : Part) → IsQuietPart (picked draws part).0
picked_is_quiet draws part = record { lines = quiet_line_picked draws part }

-- a quiet line can take 15 stores
most_none : (line : Line) → later_values line ≡ [] → most_later line ≡ 0
most_none [] none = refl
most_none (word ∷ line) none =
    omega (arith, ap length (front_none word.later (later_values line) none), most_none line (rest_none word.later (later_values line) none))

pub quiet_line_spare : (line : Line) → IsQuietLine line → spare_of line ≡ 15
unfolding IsQuietLine
quiet_line_spare line quiet = ap (λ most. 15 - most) (most_none line quiet)

pub quiet_spare : (part : Part) (line : ℕ) → IsQuietPart part → spare_of (line_of part line) ≡ 15
quiet_spare part line quiet = quiet_line_spare (line_of part line) (quiet.lines line)
