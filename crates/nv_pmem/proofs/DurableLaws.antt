-- Laws about the durable store of a word.
use Rattle.std.proofs.Common.{◌≡◌, inl, inr, ℕ, ◌<◌, List, [], ◌∷◌, length, take, refl, ◌∙◌}
use Rattle.std.proofs.lemmas.Bool.{cases_eq, eq-eqb, ne_eqb}
use Rattle.nv_plain.specs.Images.{PartImage}
use Rattle.nv_pmem.specs.Images.{InEachPartImage, IsOldOrStored, IsQuietLine, IsQuietPart}
use Rattle.nv_pmem.specs.Moments.{Tells, EachMoment}
use Rattle.nv_pmem.specs.Part.{Part, line_of, part_word}
use Rattle.nv_pmem.specs.Steps.{LineStep, PartHistory, DidLineStep, DidSome, after_line_step, durable_store}
use Rattle.nv_pmem.proofs.ImageLaws.{IsStoredBy, ComesFrom, image_comes_from, quiet_image, quiet_after, quiet_still}
use Rattle.nv_pmem.proofs.LineLaws.{word_of-after_steps}
use Rattle.nv_pmem.proofs.RowLaws.{stored_by-take}
use Rattle.nv_pmem.proofs.StepLaws.{after_steps, always_by_fronts, each_moment, tells_after}

-- it stores this value in this word, and nothing else
only_stores : (line word value i j found : ℕ) → IsStoredBy (durable_store line word value) i j found → (i ≡ line) × (j ≡ word) × (found ≡ value)
unfolding durable_store
only_stores line word value i j found (inl here) = here
only_stores line word value i j found (inr (inl none)) = absurd none
only_stores line word value i j found (inr (inr (inl none))) = absurd none
only_stores line word value i j found (inr (inr (inr none))) = absurd none

-- an image that comes from steps which store nothing but one word
stores_one_word : (was : Part) (steps : List LineStep) (line word value : ℕ) (image : PartImage) → ((i j found : ℕ) → IsStoredBy steps i j found → (i ≡ line) × (j ≡ word) × (found ≡ value)) → ComesFrom was steps image → IsOldOrStored was line word value image
stores_one_word was steps line word value image only from = record {
  before = from.before;
  is = from.is;
  stored = elim (from.words line word) [
    | inl kept ↦ inl kept
    | inr one ↦ inr (only line word (image line word) one).2
  ];
  others = λ i j other. elim (from.words i j) [
    | inl kept ↦ kept
    | inr one ↦
        let here = only i j (image i j) one in
        elim other [ inl apart ↦ absurd (apart here.0) | inr apart ↦ absurd (apart here.1) ]
  ];
}

old_or_stored : (was : Part) (line word value count : ℕ) → InEachPartImage (IsOldOrStored was line word value) (after_steps (take count (durable_store line word value)) was)
old_or_stored was line word value count image is =
    let steps = take count (durable_store line word value) in
    stores_one_word was steps line word value image
    (λ i j found one. only_stores line word value i j found (stored_by-take count (durable_store line word value) i j found one))
    (image_comes_from steps was image is)

-- At each moment a word is as it was or as it is stored.
pub durable_moments : (line word value : ℕ) {old new : PartHistory} → DidSome (durable_store line word value) old new → Tells old (λ was. EachMoment (InEachPartImage (IsOldOrStored was line word value)) old new)
durable_moments line word value {old = []} did = tt
durable_moments line word value {old = now ∷ past} did =
    let P : Part → Type 0 = InEachPartImage (IsOldOrStored now line word value) in
    each_moment P (always_by_fronts after_line_step P (durable_store line word value) now (λ count few. old_or_stored now line word value count)) did

-- The line is quiet after it, and each other line that was.
pub line_settled : (line word value : ℕ) (part : Part) → IsQuietLine (line_of (after_steps (durable_store line word value) part) line)
unfolding durable_store
line_settled line word value part = quiet_after line (durable_store line word value) part (rw (eq-eqb line line refl))

pub quiet_settled : (line word value : ℕ) (part : Part) → IsQuietPart part → IsQuietPart (after_steps (durable_store line word value) part)
unfolding durable_store
quiet_settled line word value part quiet = record {
  lines = λ i. elim (cases_eq i line) [
    | inl same ↦ quiet_after i (durable_store line word value) part (rw (eq-eqb i line same))
    | inr differs ↦ quiet_still i (durable_store line word value) part (rw (ne_eqb i line differs)) (quiet.lines i)
  ];
}

stored_word : (line word value : ℕ) (part : Part) → line < length part → part_word (after_steps (durable_store line word value) part) line word ≡ value
unfolding durable_store
stored_word line word value part inside =
    word_of-after_steps (durable_store line word value) part line word (inside, tt) ∙ rw (eq-eqb line line refl, eq-eqb word word refl)

-- Each image has the value after it.
pub durable_value : (line word value : ℕ) {old new : PartHistory} → Tells old (λ now. line < length now) → DidLineStep (durable_store line word value) old new → Tells new (InEachPartImage (λ image. image line word ≡ value))
durable_value line word value told did =
    tells_after (λ now. line < length now) (InEachPartImage (λ image. image line word ≡ value)) told
    (λ now inside image is.
    quiet_image (after_steps (durable_store line word value) now) image line word (line_settled line word value now) is
    ∙ stored_word line word value now inside)
    did

pub durable_quiet : (line word value : ℕ) {old new : PartHistory} → DidLineStep (durable_store line word value) old new → Tells old IsQuietPart → Tells new IsQuietPart
durable_quiet line word value did told = tells_after IsQuietPart IsQuietPart told (quiet_settled line word value) did
