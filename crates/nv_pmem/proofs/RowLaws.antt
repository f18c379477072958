-- Laws about rows: what steps on several parts make of each of them, of their histories and of their images.
use Rattle.std.proofs.Common.{◌≡◌, ◌≢◌, ℕ, ◌<◌, ◌⊎◌, inl, inr, List, [], ◌∷◌, ◌++◌, All, length, take, drop, replicate, slice_set, slice_index_or, zero, suc, refl, sym, ap, ◌∙◌, subst, arith}
use Rattle.std.proofs.lemmas.Bool.{cases_eq, cases_lt, eq-eqb, ne_eqb}
use Rattle.std.proofs.lemmas.List.{get_or-set_same, get_or-set_other, get_or_past, length-set, length-take, set_past, set-get_or, set-set, take-append-drop, take-take, take_at}
use Rattle.std.proofs.lemmas.List.Elements.{All-head, All-tail}
use Rattle.nv_plain.specs.Images.{PartImage, Image}
use Rattle.nv_pmem.specs.Images.{IsPartImage, IsQuietLine}
use Rattle.nv_pmem.specs.Moments.{Tells}
use Rattle.nv_pmem.specs.Part.{Part, settled_word, blank_line, word_of, newest_value, newest, word_at, line_of, part_word}
use Rattle.nv_pmem.specs.Rows.{RowStep, on_part, row_after, row_grown, DidRow, DidSomeRow, RowTells, row_words, IsRowImage, InEachRowImage, EachRowMoment}
pub use Rattle.nv_pmem.specs.Rows.{steps_on}
use Rattle.nv_pmem.specs.Runs.{run, grown}
use Rattle.nv_pmem.specs.Steps.{LineStep, StoreWord, Flush, Fence, PartHistory, after_line_step, DidLineStep, DidSome}
use Rattle.nv_pmem.proofs.ImageLaws.{image_of_now, IsStoredBy, image_comes_from, open_line, quiet_line, mark_after_all, quiet_image, quiet_after, quiet_blank, quiet_still}
use Rattle.nv_pmem.proofs.LineLaws.{word_at-newest}
use Rattle.nv_pmem.proofs.StepLaws.{after_steps, Always, always_front}

-- ---- the steps on one part

pub steps_on-append : (i : ℕ) (first rest : List RowStep) → steps_on i (first ++ rest) ≡ steps_on i first ++ steps_on i rest
steps_on-append i [] rest = refl
steps_on-append i (one ∷ steps) rest = elim (cases_eq i one.part) [
  | inl same ↦ rw (eq-eqb i one.part same) (ap (λ more. one.step ∷ more) (steps_on-append i steps rest))
  | inr differs ↦ rw (ne_eqb i one.part differs) (steps_on-append i steps rest)
]

pub steps_on-same : (i : ℕ) (steps : List LineStep) → steps_on i (on_part i steps) ≡ steps
steps_on-same i [] = refl
steps_on-same i (step ∷ steps) = rw (eq-eqb i i refl) (ap (λ more. step ∷ more) (steps_on-same i steps))

pub steps_on-other : (i j : ℕ) (steps : List LineStep) → i ≢ j → steps_on i (on_part j steps) ≡ []
steps_on-other i j [] differs = refl
steps_on-other i j (step ∷ steps) differs = rw (ne_eqb i j differs) (steps_on-other i j steps differs)

-- the first so many of a row's steps are the first so many of each part's
steps_on-split : (i count : ℕ) (steps : List RowStep) → steps_on i (take count steps) ++ steps_on i (drop count steps) ≡ steps_on i steps
steps_on-split i count steps =
    sym (steps_on-append i (take count steps) (drop count steps)) ∙ ap (steps_on i) (take-append-drop count steps)

pub steps_on-take : (i count : ℕ) (steps : List RowStep) → steps_on i (take count steps) ≡ take (length (steps_on i (take count steps))) (steps_on i steps)
steps_on-take i count steps =
    let front = steps_on i (take count steps) in
    sym (take_at front (steps_on i (drop count steps)) (length front) refl)
    ∙ ap (take (length front)) (steps_on-split i count steps)

pub on_part-append : (i : ℕ) (first rest : List LineStep) → on_part i (first ++ rest) ≡ on_part i first ++ on_part i rest
on_part-append i [] rest = refl
on_part-append i (step ∷ steps) rest = ap (λ more. record { part = i; step = step } ∷ more) (on_part-append i steps rest)

pub length-on_part : (i : ℕ) (steps : List LineStep) → length (on_part i steps) ≡ length steps
length-on_part i [] = refl
length-on_part i (step ∷ steps) = ap suc (length-on_part i steps)

pub take-on_part : (i count : ℕ) (steps : List LineStep) → take count (on_part i steps) ≡ on_part i (take count steps)
take-on_part i zero steps = refl
take-on_part i (suc count) [] = refl
take-on_part i (suc count) (step ∷ steps) = ap (λ more. record { part = i; step = step } ∷ more) (take-on_part i count steps)

-- ---- what they make of the part

-- one step on its part of a row
abbrev along : {X : Type 0} → (LineStep → List X → List X) → RowStep → List (List X) → List (List X)
along after one row = slice_set row one.part (after one.step (slice_index_or row one.part []))

along-same : {X : Type 0} (after : LineStep → List X → List X) → ((step : LineStep) → after step [] ≡ []) → (i : ℕ) (one : RowStep) (row : List (List X)) → i ≡ one.part
    → slice_index_or (along after one row) i [] ≡ after one.step (slice_index_or row i [])
along-same after none i one row same =
    let done = after one.step (slice_index_or row one.part []) in
    ap (λ k. slice_index_or (slice_set row one.part done) k []) same
    ∙ elim (cases_lt one.part (length row)) [
      | inl inside ↦ get_or-set_same row one.part done [] inside
      | inr past ↦
          ap (λ these. slice_index_or these one.part []) (set_past row one.part done past)
          ∙ get_or_past row one.part [] past
          ∙ sym (none one.step)
          ∙ ap (after one.step) (sym (get_or_past row one.part [] past))
    ]
    ∙ ap (λ k. after one.step (slice_index_or row k [])) (sym same)

run-at : {X : Type 0} (after : LineStep → List X → List X) → ((step : LineStep) → after step [] ≡ []) → (i : ℕ) (steps : List RowStep) (row : List (List X))
    → slice_index_or (run (along after) steps row) i [] ≡ run after (steps_on i steps) (slice_index_or row i [])
unfolding run
run-at after none i [] row = refl
run-at after none i (one ∷ steps) row =
    run-at after none i steps (along after one row)
    ∙ elim (cases_eq i one.part) [
      | inl same ↦ rw (eq-eqb i one.part same) (ap (run after (steps_on i steps)) (along-same after none i one row same))
      | inr differs ↦
          rw (ne_eqb i one.part differs)
          (ap (run after (steps_on i steps)) (get_or-set_other row one.part i (after one.step (slice_index_or row one.part [])) [] differs))
    ]

length-run : {X : Type 0} (after : LineStep → List X → List X) (steps : List RowStep) (row : List (List X)) → length (run (along after) steps row) ≡ length row
unfolding run
length-run after [] row = refl
length-run after (one ∷ steps) row =
    length-run after steps (along after one row) ∙ length-set row one.part (after one.step (slice_index_or row one.part []))

after_step-none : (step : LineStep) → after_line_step step [] ≡ []
after_step-none (StoreWord line word value) = refl
after_step-none (Flush line) = refl
after_step-none Fence = refl

-- A part after steps on its row has come to what the steps on it lead to.
pub row_at : (i : ℕ) (steps : List RowStep) (parts : List Part) → slice_index_or (run row_after steps parts) i [] ≡ after_steps (steps_on i steps) (slice_index_or parts i [])
row_at i steps parts = run-at after_line_step after_step-none i steps parts

-- And so has its history.
pub row_history_at : (i : ℕ) (steps : List RowStep) (row : List PartHistory) → slice_index_or (run row_grown steps row) i [] ≡ run (grown after_line_step) (steps_on i steps) (slice_index_or row i [])
row_history_at i steps row = run-at (grown after_line_step) (λ step. refl) i steps row

pub length-row_after : (steps : List RowStep) (parts : List Part) → length (run row_after steps parts) ≡ length parts
length-row_after steps parts = length-run after_line_step steps parts

pub length-row_grown : (steps : List RowStep) (row : List PartHistory) → length (run row_grown steps row) ≡ length row
length-row_grown steps row = length-run (grown after_line_step) steps row

-- ---- runs on one part

run-on_part : (i : ℕ) (steps : List LineStep) (row : List PartHistory) → i < length row
    → run row_grown (on_part i steps) row ≡ slice_set row i (run (grown after_line_step) steps (slice_index_or row i []))
unfolding run
run-on_part i [] row inside = sym (set-get_or row i [])
run-on_part i (step ∷ steps) row inside =
    let one = grown after_line_step step (slice_index_or row i []) in
    let next = slice_set row i one in
    run-on_part i steps next (omega (arith, length-set row i one))
    ∙ ap (λ history. slice_set next i (run (grown after_line_step) steps history)) (get_or-set_same row i one [] inside)
    ∙ set-set row i one (run (grown after_line_step) steps one)

-- what was done to one part was done to the row
pub did_row_on : (i : ℕ) {steps : List LineStep} (row : List PartHistory) {history : PartHistory} → i < length row → DidLineStep steps (slice_index_or row i []) history → DidRow (on_part i steps) row (slice_set row i history)
did_row_on i {steps} row inside did =
    record { states = ap (slice_set row i) did.states ∙ sym (run-on_part i steps row inside) }

pub did_some_row_on : (i : ℕ) {steps : List LineStep} (row : List PartHistory) {history : PartHistory} → i < length row → DidSome steps (slice_index_or row i []) history → DidSomeRow (on_part i steps) row (slice_set row i history)
did_some_row_on i {steps} row inside did = record {
  count = did.count;
  no_more = omega (arith, did.no_more, length-on_part i steps);
  states =
      ap (slice_set row i) did.states
      ∙ sym (run-on_part i (take did.count steps) row inside)
      ∙ ap (λ these. run row_grown these row) (sym (take-on_part i did.count steps));
}

-- and what was done to a row was done to each part
pub did_row_at : (i : ℕ) {steps : List RowStep} {old new : List PartHistory} → DidRow steps old new → DidLineStep (steps_on i steps) (slice_index_or old i []) (slice_index_or new i [])
did_row_at i {steps} {old} did =
    record { states = ap (λ (row : List PartHistory). slice_index_or row i []) did.states ∙ row_history_at i steps old }

pub did_some_row_at : (i : ℕ) {steps : List RowStep} {old new : List PartHistory} → DidSomeRow steps old new → DidSome (steps_on i steps) (slice_index_or old i []) (slice_index_or new i [])
did_some_row_at i {steps} {old} did = record {
  count = length (steps_on i (take did.count steps));
  no_more =
      omega (arith, ap length (steps_on-take i did.count steps), length-take (length (steps_on i (take did.count steps))) (steps_on i steps));
  states =
      ap (λ (row : List PartHistory). slice_index_or row i []) did.states
      ∙ row_history_at i (take did.count steps) old
      ∙ ap (λ these. run (grown after_line_step) these (slice_index_or old i [])) (steps_on-take i did.count steps);
}

-- ---- what a row tells

-- what the present states have more, by what they have
pub row_tells_more : {S : Type 0} (row : List (List S)) (P Q : List S → Type 0) → ((parts : List S) → P parts → Q parts) → RowTells row P → RowTells row Q
row_tells_more [] P Q step told = step [] told
row_tells_more ([] ∷ row) P Q step told = tt
row_tells_more ((now ∷ past) ∷ row) P Q step told =
    row_tells_more row (λ parts. P (now ∷ parts)) (λ parts. Q (now ∷ parts)) (λ parts. step (now ∷ parts)) told

-- what holds of all parts
pub row_tells_any : {S : Type 0} (row : List (List S)) (P : List S → Type 0) → ((parts : List S) → P parts) → RowTells row P
row_tells_any [] P each = each []
row_tells_any ([] ∷ row) P each = tt
row_tells_any ((now ∷ past) ∷ row) P each = row_tells_any row (λ parts. P (now ∷ parts)) (λ parts. each (now ∷ parts))

-- what they have, and what they have besides
pub row_tells_both : {S : Type 0} (row : List (List S)) (P Q : List S → Type 0) → RowTells row P → RowTells row Q → RowTells row (λ parts. P parts × Q parts)
row_tells_both [] P Q a b = (a, b)
row_tells_both ([] ∷ row) P Q a b = tt
row_tells_both ((now ∷ past) ∷ row) P Q a b = row_tells_both row (λ parts. P (now ∷ parts)) (λ parts. Q (now ∷ parts)) a b

each_more : (P : ℕ → Part → Type 0) (now : Part) (parts : List Part) (count : ℕ) → P 0 now → ((i : ℕ) → i < count → P (suc i) (slice_index_or parts i []))
    → (i : ℕ) → i < suc count → P i (slice_index_or (now ∷ parts) i [])
each_more P now parts count first rest zero below = first
each_more P now parts count first rest (suc i) below = rest i (omega arith)

-- Each part of a row has a property of its place.
pub record EachPart (P : ℕ → Part → Type 0) (count : ℕ) (parts : List Part) : Type 0 where
  pub long : length parts ≡ count
  pub has : (i : ℕ) → i < count → P i (slice_index_or parts i [])

-- what each part tells by itself, the row tells of each
pub row_tells_each : (row : List PartHistory) (P : ℕ → Part → Type 0) → ((i : ℕ) → i < length row → Tells (slice_index_or row i []) (P i)) → RowTells row (EachPart P (length row))
row_tells_each [] P each = record { long = refl; has = λ i below. absurd (omega arith) }
row_tells_each ([] ∷ row) P each = tt
row_tells_each ((now ∷ past) ∷ row) P each =
    row_tells_more row (EachPart (λ i. P (suc i)) (length row)) (λ parts. EachPart P (suc (length row)) (now ∷ parts))
    (λ parts later. record {
      long = ap suc later.long;
      has = each_more P now parts (length row) (each 0 (omega arith)) later.has;
    })
    (row_tells_each row (λ i. P (suc i)) (λ i below. each (suc i) (omega arith)))

-- the present states are the present states
pub row_tells_itself : (row : List PartHistory) → RowTells row (λ was. RowTells row (λ parts. parts ≡ was))
row_tells_itself [] = refl
row_tells_itself ([] ∷ row) = tt
row_tells_itself ((now ∷ past) ∷ row) =
    row_tells_more row (λ was. RowTells row (λ parts. parts ≡ was)) (λ was. RowTells row (λ parts. now ∷ parts ≡ now ∷ was))
    (λ was. row_tells_more row (λ parts. parts ≡ was) (λ parts. now ∷ parts ≡ now ∷ was) (λ parts same. ap (λ rest. now ∷ rest) same))
    (row_tells_itself row)

-- A row of one part tells what the part does.
pub row_tells_lone : (history : PartHistory) (P : List Part → Type 0) → RowTells (history ∷ []) P → Tells history (λ now. P (now ∷ []))
row_tells_lone [] P told = tt
row_tells_lone (now ∷ past) P told = told

pub lone_tells_row : (history : PartHistory) (P : List Part → Type 0) → Tells history (λ now. P (now ∷ [])) → RowTells (history ∷ []) P
lone_tells_row [] P told = tt
lone_tells_row (now ∷ past) P told = told

row_tells_fact : (row : List PartHistory) (A : Type 0) → All (λ history. 0 < length history) row → RowTells row (λ parts. A) → A
row_tells_fact [] A tell told = told
row_tells_fact ([] ∷ row) A tell told = absurd (omega (arith, All-head (λ (history : PartHistory). 0 < length history) [] row tell))
row_tells_fact ((now ∷ past) ∷ row) A tell told = row_tells_fact row A (All-tail (λ (history : PartHistory). 0 < length history) (now ∷ past) row tell) told

-- What a row of which all parts tell says of one of them, the part tells.
pub row_tells_part : (row : List PartHistory) (i : ℕ) (P : List Part → Type 0) (Q : Part → Type 0) → i < length row → All (λ history. 0 < length history) row
    → ((parts : List Part) → P parts → Q (slice_index_or parts i [])) → RowTells row P → Tells (slice_index_or row i []) Q
row_tells_part [] i P Q inside tell step told = absurd (omega arith)
row_tells_part ([] ∷ row) i P Q inside tell step told = absurd (omega (arith, All-head (λ (history : PartHistory). 0 < length history) [] row tell))
row_tells_part ((now ∷ past) ∷ row) zero P Q inside tell step told =
    row_tells_fact row (Q now) (All-tail (λ (history : PartHistory). 0 < length history) (now ∷ past) row tell)
    (row_tells_more row (λ parts. P (now ∷ parts)) (λ parts. Q now) (λ parts. step (now ∷ parts)) told)
row_tells_part ((now ∷ past) ∷ row) (suc i) P Q inside tell step told =
    row_tells_part row i (λ parts. P (now ∷ parts)) Q (omega arith) (All-tail (λ (history : PartHistory). 0 < length history) (now ∷ past) row tell)
    (λ parts. step (now ∷ parts)) told

row_tells_step : (row : List PartHistory) (i : ℕ) (step : LineStep) (P : List Part → Type 0) → RowTells row (λ parts. P (slice_set parts i (after_line_step step (slice_index_or parts i []))))
    → RowTells (slice_set row i (grown after_line_step step (slice_index_or row i []))) P
row_tells_step [] i step P told = told
row_tells_step ([] ∷ row) zero step P told = tt
row_tells_step ([] ∷ row) (suc i) step P told = tt
row_tells_step ((now ∷ past) ∷ row) zero step P told = told
row_tells_step ((now ∷ past) ∷ row) (suc i) step P told = row_tells_step row i step (λ parts. P (now ∷ parts)) told

-- what the present states have after some steps, by what those before them have
pub row_tells_after : (steps : List RowStep) (row : List PartHistory) (P : List Part → Type 0) → RowTells row (λ parts. P (run row_after steps parts)) → RowTells (run row_grown steps row) P
unfolding run
row_tells_after [] row P told = told
row_tells_after (one ∷ steps) row P told =
    row_tells_after steps (row_grown one row) P (row_tells_step row one.part one.step (λ parts. P (run row_after steps parts)) told)

-- and after a call that made them
pub row_tells_did : {steps : List RowStep} {old new : List PartHistory} (P Q : List Part → Type 0) → RowTells old P → ((parts : List Part) → P parts → Q (run row_after steps parts)) → DidRow steps old new → RowTells new Q
row_tells_did {steps} {old} P Q told step did =
    let Told : List PartHistory → Type 0 = λ row. RowTells row Q in
    subst Told (sym did.states)
    (row_tells_after steps old Q (row_tells_more old P (λ parts. Q (run row_after steps parts)) step told))

-- ---- each moment

-- What holds along some steps holds at each moment of a call that made the first so many of them.
pub each_row_moment : (P : List Part → Type 0) {steps : List RowStep} {old new : List PartHistory} → RowTells old (Always row_after P steps) → DidSomeRow steps old new → EachRowMoment P old new
each_row_moment P {steps} {old} told did = record {
  steps = take did.count steps;
  did = record { states = did.states };
  each = λ count few.
      let front = take count (take did.count steps) in
      let is : front ≡ take count steps = take-take count did.count steps (omega (arith, few, length-take did.count steps)) in
      row_tells_after front old P
      (row_tells_more old (Always row_after P steps) (λ parts. P (run row_after front parts))
      (λ parts always.
      let At : List RowStep → Type 0 = λ these. P (run row_after these parts) in
      subst At (sym is) (always_front row_after P steps parts always count))
      told);
}

-- ---- images

pub row_image_of_now : (parts : List Part) → IsRowImage parts (row_words parts)
row_image_of_now parts = record { each = λ i. image_of_now (slice_index_or parts i []) }

-- An image of a row after some steps has, of each part, an image of it after the steps on it.
pub row_image_at : (steps : List RowStep) (parts : List Part) (image : Image) (i : ℕ) → IsRowImage (run row_after steps parts) image → IsPartImage (after_steps (steps_on i steps) (slice_index_or parts i [])) (image i)
row_image_at steps parts image i is =
    let At : Part → Type 0 = λ part. IsPartImage part (image i) in subst At (row_at i steps parts) (is.each i)

-- Each word of an image is as in an image of other states of the row, or was stored since by one of some steps on its part.
pub record RowComesFrom (parts : List Part) (steps : List RowStep) (image : Image) : Type 0 where
  pub before : Image
  pub is : IsRowImage parts before
  pub words : (i line word : ℕ) → (image i line word ≡ before i line word) ⊎ IsStoredBy (steps_on i steps) line word (image i line word)

-- An image after some steps: each word is as in an image of before, or is one of the values stored to it since.
pub row_image_comes_from : (steps : List RowStep) (parts : List Part) (image : Image) → IsRowImage (run row_after steps parts) image → RowComesFrom parts steps image
row_image_comes_from steps parts image is =
    let from = λ (i : ℕ). image_comes_from (steps_on i steps) (slice_index_or parts i []) (image i) (row_image_at steps parts image i is) in
    record {
      before = λ i. (from i).before;
      is = record { each = λ i. (from i).is };
      words = λ i. (from i).words;
    }

-- what is stored by some steps and others is stored by some or by others
pub stored_by-append : (first rest : List LineStep) (i j found : ℕ) → IsStoredBy (first ++ rest) i j found → IsStoredBy first i j found ⊎ IsStoredBy rest i j found
stored_by-append [] rest i j found stored = inr stored
stored_by-append (step ∷ steps) rest i j found (inl here) = inl (inl here)
stored_by-append (step ∷ steps) rest i j found (inr later) = elim (stored_by-append steps rest i j found later) [
  | inl front ↦ inl (inr front)
  | inr back ↦ inr back
]

pub stored_by_front : (first rest : List LineStep) (i j found : ℕ) → IsStoredBy first i j found → IsStoredBy (first ++ rest) i j found
stored_by_front [] rest i j found stored = absurd stored
stored_by_front (step ∷ steps) rest i j found (inl here) = inl here
stored_by_front (step ∷ steps) rest i j found (inr later) = inr (stored_by_front steps rest i j found later)

-- and by the first so many of some steps, by one of these
pub stored_by-take : (count : ℕ) (steps : List LineStep) (i j found : ℕ) → IsStoredBy (take count steps) i j found → IsStoredBy steps i j found
stored_by-take count steps i j found stored =
    let At : List LineStep → Type 0 = λ these. IsStoredBy these i j found in
    subst At (take-append-drop count steps) (stored_by_front (take count steps) (drop count steps) i j found stored)

pub stored_by_row-take : (count : ℕ) (steps : List RowStep) (i line word found : ℕ) → IsStoredBy (steps_on i (take count steps)) line word found → IsStoredBy (steps_on i steps) line word found
stored_by_row-take count steps i line word found stored =
    let At : List LineStep → Type 0 = λ these. IsStoredBy these line word found in
    subst At (steps_on-split i count steps)
    (stored_by_front (steps_on i (take count steps)) (steps_on i (drop count steps)) line word found stored)

-- ---- quiet lines

-- A line of a part whose marks end quiet is quiet, whatever it was.
pub row_quiet_after : (i line : ℕ) (steps : List RowStep) (parts : List Part) → mark_after_all line (steps_on i steps) open_line ≡ quiet_line → IsQuietLine (line_of (slice_index_or (run row_after steps parts) i []) line)
row_quiet_after i line steps parts marks =
    let At : Part → Type 0 = λ part. IsQuietLine (line_of part line) in
    subst At (sym (row_at i steps parts)) (quiet_after line (steps_on i steps) (slice_index_or parts i []) marks)

-- And so is a quiet one whose marks stay quiet.
pub row_quiet_still : (i line : ℕ) (steps : List RowStep) (parts : List Part) → mark_after_all line (steps_on i steps) quiet_line ≡ quiet_line → IsQuietLine (line_of (slice_index_or parts i []) line) → IsQuietLine (line_of (slice_index_or (run row_after steps parts) i []) line)
row_quiet_still i line steps parts marks quiet =
    let At : Part → Type 0 = λ part. IsQuietLine (line_of part line) in
    subst At (sym (row_at i steps parts)) (quiet_still line (steps_on i steps) (slice_index_or parts i []) marks quiet)

-- ---- blank parts

-- a line of zeros has no other word
zero_words : (count word : ℕ) → newest_value (word_of (replicate count (settled_word 0)) word) ≡ 0
zero_words zero word = refl
zero_words (suc count) zero = refl
zero_words (suc count) (suc word) = zero_words count word

pub blank_word : (word : ℕ) → word_at (newest blank_line) word ≡ 0
blank_word word = word_at-newest blank_line word ∙ zero_words 8 word

-- so loads of it give zeros
pub word_of-blank : (part : Part) (line word : ℕ) → line_of part line ≡ blank_line → part_word part line word ≡ 0
word_of-blank part line word blank = ap (λ content. word_at (newest content) word) blank ∙ blank_word word

-- An image of a part of which each line is zeros, durable, has no other word.
pub blank_image : (part : Part) (image : PartImage) → ((line : ℕ) → line_of part line ≡ blank_line) → IsPartImage part image → (line word : ℕ) → image line word ≡ 0
blank_image part image blank is line word =
    quiet_image part image line word (subst IsQuietLine (sym (blank line)) quiet_blank) is
    ∙ word_of-blank part line word (blank line)

pub all_blank : (part : Part) → All (λ line. line ≡ blank_line) part → (line : ℕ) → line_of part line ≡ blank_line
all_blank part all line = elim (cases_lt line (length part)) [
  | inl inside ↦ all line blank_line inside
  | inr past ↦ get_or_past part line blank_line past
]

-- And so an image of a row of such parts.
pub row_blank_images : (row : List PartHistory) → ((i : ℕ) → i < length row → Tells (slice_index_or row i []) (λ now. (line : ℕ) → line_of now line ≡ blank_line))
    → RowTells row (InEachRowImage (λ image. (i line word : ℕ) → image i line word ≡ 0))
row_blank_images row each =
    row_tells_more row (EachPart (λ i now. (line : ℕ) → line_of now line ≡ blank_line) (length row))
    (InEachRowImage (λ image. (i line word : ℕ) → image i line word ≡ 0))
    (λ parts blank image is i.
    blank_image (slice_index_or parts i []) (image i)
    (elim (cases_lt i (length row)) [
      | inl inside ↦ blank.has i inside
      | inr past ↦
          let Blank : Part → Type 0 = λ part. (line : ℕ) → line_of part line ≡ blank_line in
          subst Blank (sym (get_or_past parts i [] (omega (arith, blank.long)))) (λ line. refl)
    ])
    (is.each i))
    (row_tells_each row (λ i now. (line : ℕ) → line_of now line ≡ blank_line) each)
