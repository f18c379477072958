-- Room of a line that is stored, step by step; and what the stores of a line make of its words.
use Rattle.std.proofs.Common.{◌≡◌, ◌≢◌, ℕ, ◌+◌, ◌<◌, ◌≤◌, List, [], ◌∷◌, length, map, zero, suc, inl, inr, refl, sym, ap, subst, ◌∙◌, arith}
use Rattle.std.proofs.lemmas.Bool.{cases_eq, cases_lt}
use Rattle.std.proofs.lemmas.List.FromFn.{map-range_with_len_more}
use Rattle.std.specs.List.{range_with_len}
use Rattle.nv_pmem.specs.Part.{Part, word_of, line_of, stored, stored_value}
use Rattle.nv_pmem.specs.Room.{Room, Takes}
use Rattle.nv_pmem.specs.RoomSteps.{LineIsItsStores}
use Rattle.nv_pmem.specs.Runs.{run}
use Rattle.nv_pmem.specs.Steps.{LineStep, StoreWord, after_line_step, line_stores}
use Rattle.nv_pmem.specs.Told.{room_of}
use Rattle.nv_pmem.proofs.LineLaws.{word_of-stored_same, word_of-stored_other, line_of-set_same, line_of-set_other, length-after_steps}
use Rattle.nv_pmem.proofs.Rooms.{IsOneMore, none_more, one_more_stored, takes_words}
use Rattle.nv_pmem.proofs.StepLaws.{after_steps, after_steps-append}

-- ---- one store of a line after another

-- The first of them takes what the line's call did, and none behind it takes more.
takes_no_more : (line : ℕ) (room : Room) → Takes 1 line room room
takes_no_more line room = record {
  lines = refl;
  spare = omega arith;
  after_fence = omega arith;
  other_spare = λ other ne. omega arith;
  other_after_fence = λ other ne. omega arith;
}

pub line_is_its_stores : LineIsItsStores
unfolding line_stores
line_is_its_stores line bytes old new all =
    let more = takes_no_more line new in (
      new,
      all,
      (new, more, (new, more, (new, more, (new, more, (new, more, (new, more, (new, more, refl))))))),
    )

-- ---- the first so many words of a line stored

abbrev pub front_stores : (line : ℕ) (value : ℕ → ℕ) (count : ℕ) → List LineStep
front_stores line value count = map (λ word. StoreWord line word (value word)) (range_with_len 0 count)

module _ (line : ℕ) (value : ℕ → ℕ) (part : Part) (inside : line < length part) where
  abbrev after : ℕ → Part
  after count = after_steps (front_stores line value count) part

  after-none : after 0 ≡ part
  unfolding run
  after-none = refl

  after-more : (count : ℕ) → after (count + 1) ≡ after_line_step (StoreWord line count (value count)) (after count)
  unfolding run
  after-more count =
      ap (λ steps. after_steps steps part) (map-range_with_len_more (λ word. StoreWord line word (value word)) 0 count count (omega arith))
      ∙ after_steps-append (front_stores line value count) (StoreWord line count (value count) ∷ []) part

  still_inside : (count : ℕ) → line < length (after count)
  still_inside count = omega (arith, length-after_steps (front_stores line value count) part)

  -- no other line is changed,
  others_after : (count other : ℕ) → other ≢ line → line_of (after count) other ≡ line_of part other
  others_after zero other ne = ap (λ these. line_of these other) after-none
  others_after (suc count) other ne =
      let next : suc count ≡ count + 1 = omega arith in
      ap (λ n. line_of (after n) other) next ∙ ap (λ these. line_of these other) (after-more count)
      ∙ line_of-set_other (after count) line other (stored count (value count) (line_of (after count) line)) ne ∙ others_after count other ne

  line_after : (count : ℕ) → line_of (after (suc count)) line ≡ stored count (value count) (line_of (after count) line)
  line_after count =
      let next : suc count ≡ count + 1 = omega arith in
      ap (λ n. line_of (after n) line) next ∙ ap (λ these. line_of these line) (after-more count)
      ∙ line_of-set_same (after count) line (stored count (value count) (line_of (after count) line)) (still_inside count)

  -- nor a word that isn't stored yet,
  pub unstored_after : (count word : ℕ) → count ≤ word → word_of (line_of (after count) line) word ≡ word_of (line_of part line) word
  unstored_after zero word behind = ap (λ these. word_of (line_of these line) word) after-none
  unstored_after (suc count) word behind =
      ap (λ these. word_of these word) (line_after count)
      ∙ word_of-stored_other count (value count) (line_of (after count) line) word (omega arith) ∙ unstored_after count word (omega arith)

  -- and each of the others once.
  stored_after : (count word : ℕ) → word < count → word_of (line_of (after count) line) word ≡ stored_value (value word) (word_of (line_of part line) word)
  stored_after zero word below = absurd (omega arith)
  stored_after (suc count) word below = ap (λ these. word_of these word) (line_after count) ∙ elim (cases_eq word count) [
    | inl same ↦
        ap (λ k. word_of (stored count (value count) (line_of (after count) line)) k) same
        ∙ word_of-stored_same count (value count) (line_of (after count) line)
        ∙ ap (stored_value (value count)) (unstored_after count count (omega arith))
        ∙ ap (λ k. stored_value (value k) (word_of (line_of part line) k)) (sym same)
    | inr differs ↦
        word_of-stored_other count (value count) (line_of (after count) line) word differs ∙ stored_after count word (omega arith)
  ]

  one_more_after : (count word : ℕ) → IsOneMore (word_of (line_of part line) word) (word_of (line_of (after count) line) word)
  one_more_after count word = elim (cases_lt word count) [
    | inl below ↦ subst (IsOneMore (word_of (line_of part line) word)) (sym (stored_after count word below)) (one_more_stored (value word) (word_of (line_of part line) word))
    | inr behind ↦ subst (IsOneMore (word_of (line_of part line) word)) (sym (unstored_after count word behind)) (none_more (word_of (line_of part line) word))
  ]

  -- So they take one of what the line can take.
  pub takes_front : (count : ℕ) → Takes 1 line (room_of part) (room_of (after count))
  takes_front count =
      takes_words part (after count) line (length-after_steps (front_stores line value count) part) (others_after count) (one_more_after count)
