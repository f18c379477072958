-- The parts of a region whose commit words are cleared, and whose tail moves then.
use Rattle.std.proofs.Common.{◌≡◌, ◌⊎◌, ◌↔◌, inl, inr, ℕ, ◌+◌, ◌<◌, ◌≤◌, List, [], length, map, drop, get_or, slice_index_or, slice_set, refl, sym, ap, ◌∙◌, subst, arith}
use Rattle.std.proofs.lemmas.Bool.{cases_eq, cases_lt}
use Rattle.std.proofs.lemmas.List.{get_or-map, get_or_past, get_or-set_same, get_or-set_other, drop-set-lt, length-map, length-set, map-set}
use Rattle.nv_plain.specs.Images.{Image}
use Rattle.nv_pmem.specs.Images.{IsPartImage, IsQuietPart}
use Rattle.nv_pmem.specs.Part.{Part, part_word}
use Rattle.nv_pmem.specs.Moments.{Tells, EachMoment}
use Rattle.nv_pmem.specs.Rows.{RowTells, InEachRowImage, row_words, AreQuiet}
use Rattle.nv_pmem.specs.Steps.{PartHistory}
use Rattle.nv_pmem.proofs.ImageLaws.{quiet_image}
use Rattle.nv_pmem.proofs.RowLaws.{row_tells_both}
use Rattle.nv_entry.specs.declared.bounds.Bounds.{Bounds}
use Rattle.nv_entry.specs.Checks.{SaysBounds}
use Rattle.nv_pmem.specs.RowStates.{row_tells_at, row_tells_from}
use Rattle.nv_recover.specs.Alike.{SayTheSame}
use Rattle.nv_recover.specs.Changes.{ThroughoutRow}
use Rattle.nv_recover.specs.Emptying.{BothTell, MayBeTrimmed, HasSmallWord, HasNoneAbove}
use Rattle.nv_recover.specs.Telling.{AllTell}
use Rattle.nv_recover.proofs.EmptyLaws.{same_trimmed}
use Rattle.nv_recover.proofs.EmptyParts.{same_untrimmed, untrimmed}
use Rattle.nv_recover.proofs.Present.{presents_tell, RowsTell, both_itself, both_more, both_both, EachPair, rows_each, rows_more, rows_new, tells_set}
use Rattle.nv_recover.proofs.RowMoments.{device_throughout}
use Rattle.nv_recover.proofs.Throughout.{throughout_then}

-- ---- a part in its row

pub part_history : {X : Type 0} (history : X → PartHistory) (parts : List X) (i : ℕ) (was d : X) → i < length parts → was ≡ get_or parts i d → history was ≡ slice_index_or (map history parts) i []
part_history history parts i was d inside is = ap history is ∙ sym (get_or-map history parts i d [] inside)

-- the parts behind one that is changed
pub further_same : {X : Type 0} (history : X → PartHistory) (parts : List X) (i past : ℕ) (new : X) → i < past → drop past (map history (slice_set parts i new)) ≡ drop past (map history parts)
further_same history parts i past new before = ap (drop past) (map-set history parts i new) ∙ drop-set-lt past (map history parts) i (history new) before

-- ---- the words that are cleared, part by part

-- The commit words of the first so many entries are cleared, and no other part is touched.
pub record AreClearedTo (most count : ℕ) (old new : List PartHistory) : Type 0 where
  pub long : length new ≡ length old
  pub untouched : (i : ℕ) → (i ≡ 0) ⊎ (count < i) → slice_index_or new i [] ≡ slice_index_or old i []
  pub cleared : (i : ℕ) → 1 ≤ i → i ≤ count → BothTell (slice_index_or old i []) (slice_index_or new i []) (λ was now. MayBeTrimmed most was now × HasSmallWord most was now)
  pub tells : AllTell old ↔ AllTell new

pub cleared_none : (most : ℕ) (row : List PartHistory) → AreClearedTo most 0 row row
cleared_none most row = record {
  long = refl;
  untouched = λ i apart. refl;
  cleared = λ i some few. absurd (omega arith);
  tells = (λ all. all, λ all. all);
}

-- one more
pub cleared_more : (most count : ℕ) (old between : List PartHistory) (history : PartHistory) → AreClearedTo most count old between → 1 + count < length between
    → BothTell (slice_index_or between (1 + count) []) history (MayBeTrimmed most) → BothTell (slice_index_or between (1 + count) []) history (HasSmallWord most)
    → (0 < length (slice_index_or between (1 + count) [])) ↔ (0 < length history) → AreClearedTo most (count + 1) old (slice_set between (1 + count) history)
cleared_more most count old between history before inside trimmed small tells =
    let i = 1 + count in
    let Both : Part → Part → Type 0 = λ was now. MayBeTrimmed most was now × HasSmallWord most was now in
    let set = tells_set between i history tells in
    record {
      long = length-set between i history ∙ before.long;
      untouched = λ j apart.
          get_or-set_other between i j history [] (elim apart [ inl first ↦ omega arith | inr past ↦ omega arith ])
          ∙ before.untouched j (elim apart [ inl first ↦ inl first | inr past ↦ inr (omega arith) ]);
      cleared = λ j some few. elim (cases_eq j i) [
        | inl same ↦
            let Old : PartHistory → Type 0 = λ these. BothTell these history Both in
            let New : PartHistory → Type 0 = λ these. BothTell (slice_index_or old j []) these Both in
            let old_is : slice_index_or between i [] ≡ slice_index_or old j [] =
            ap (λ k. slice_index_or between k []) (sym same) ∙ before.untouched j (inr (omega arith)) in
            subst New (sym (ap (λ k. slice_index_or (slice_set between i history) k []) same ∙ get_or-set_same between i history [] inside))
            (subst Old old_is (both_both (slice_index_or between i []) history (MayBeTrimmed most) (HasSmallWord most) trimmed small))
        | inr differs ↦
            let New : PartHistory → Type 0 = λ these. BothTell (slice_index_or old j []) these Both in
            subst New (sym (get_or-set_other between i j history [] differs)) (before.cleared j some (omega arith))
      ];
      tells = (λ all. set.0 (before.tells.0 all), λ all. before.tells.1 (set.1 all));
    }

-- ---- what that makes of the row

-- part i of a row: the header is the same, and any part trimmed at most
pub record IsKept (most i : ℕ) (was now : Part) : Type 0 where
  pub header : i ≡ 0 → now ≡ was
  pub trimmed : MayBeTrimmed most was now

kept_rows : (most count : ℕ) (old new : List PartHistory) → length old ≡ count → length new ≡ count → slice_index_or new 0 [] ≡ slice_index_or old 0 []
    → ((i : ℕ) → 1 ≤ i → i < count → BothTell (slice_index_or old i []) (slice_index_or new i []) (MayBeTrimmed most)) → RowsTell old new (EachPair (IsKept most) count)
kept_rows most count old new long_old long_new header each =
    rows_each old new (IsKept most) count long_old long_new (λ i below. elim (cases_eq i 0) [
      | inl first ↦
          let was = slice_index_or old i [] in
          let same : slice_index_or new i [] ≡ was = ap (λ k. slice_index_or new k []) first ∙ header ∙ ap (λ k. slice_index_or old k []) (sym first) in
          let At : PartHistory → Type 0 = λ history. BothTell was history (IsKept most i) in
          subst At (sym same)
          (both_more was was (λ before now. now ≡ before) (IsKept most i) (λ before now is. record { header = λ _. is; trimmed = untrimmed most before now is }) (both_itself was))
      | inr other ↦
          both_more (slice_index_or old i []) (slice_index_or new i []) (MayBeTrimmed most) (IsKept most i)
          (λ before now trimmed. record { header = λ zero. absurd (other zero); trimmed = trimmed })
          (each i (omega arith) below)
    ])

-- what was done to all parts so far, and what is done to one more
pub stopped_rows : (most done count : ℕ) (old between : List PartHistory) (history : PartHistory) → AreClearedTo most done old between → length old ≡ count → BothTell (slice_index_or between (1 + done) []) history (MayBeTrimmed most)
    → RowsTell old (slice_set between (1 + done) history) (EachPair (IsKept most) count)
stopped_rows most done count old between history before long trimmed =
    let i = 1 + done in
    let new = slice_set between i history in
    kept_rows most count old new long (omega (arith, length-set between i history, before.long))
    (get_or-set_other between i 0 history [] (omega arith) ∙ before.untouched 0 (inl refl))
    (λ j some below. elim (cases_eq j i) [
      | inl same ↦
          let Old : PartHistory → Type 0 = λ these. BothTell these history (MayBeTrimmed most) in
          let New : PartHistory → Type 0 = λ these. BothTell (slice_index_or old j []) these (MayBeTrimmed most) in
          subst New (sym (ap (λ k. slice_index_or new k []) same ∙ get_or-set_same between i history [] (omega (arith, before.long))))
          (subst Old (ap (λ k. slice_index_or between k []) (sym same) ∙ before.untouched j (inr (omega arith))) trimmed)
      | inr differs ↦
          let New : PartHistory → Type 0 = λ these. BothTell (slice_index_or old j []) these (MayBeTrimmed most) in
          subst New (sym (get_or-set_other between i j history [] differs))
          (elim (cases_lt done j) [
            | inl past ↦ same_untrimmed most (slice_index_or old j []) (slice_index_or between j []) (before.untouched j (inr past))
            | inr within ↦
                both_more (slice_index_or old j []) (slice_index_or between j []) (λ was now. MayBeTrimmed most was now × HasSmallWord most was now) (MayBeTrimmed most)
                (λ was now both. both.0) (before.cleared j some within)
          ])
    ])

-- all parts were done
pub cleared_rows : (most done count : ℕ) (old new : List PartHistory) → AreClearedTo most done old new → length old ≡ count → RowsTell old new (EachPair (IsKept most) count)
cleared_rows most done count old new before long =
    kept_rows most count old new long (omega (arith, before.long)) (before.untouched 0 (inl refl))
    (λ j some below. elim (cases_lt done j) [
      | inl past ↦ same_untrimmed most (slice_index_or old j []) (slice_index_or new j []) (before.untouched j (inr past))
      | inr within ↦
          both_more (slice_index_or old j []) (slice_index_or new j []) (λ was now. MayBeTrimmed most was now × HasSmallWord most was now) (MayBeTrimmed most)
          (λ was now both. both.0) (before.cleared j some within)
    ])

-- a part is no entry's, or is one of the entries'
cases_kept : (entries i : ℕ) → ((i ≡ 0) ⊎ (entries < i)) ⊎ ((1 ≤ i) × (i ≤ entries))
cases_kept entries i = elim (cases_eq i 0) [
  | inl first ↦ inl (inl first)
  | inr other ↦ elim (cases_lt entries i) [
    | inl past ↦ inl (inr past)
    | inr within ↦ inr (omega arith, omega arith)
  ]
]

-- and part i has a small word then, if it is an entry's, and is as it was, if it isn't
pub record IsCleared (most entries i : ℕ) (was now : Part) : Type 0 where
  pub kept : (i ≡ 0) ⊎ (entries < i) → now ≡ was
  pub small : 1 ≤ i → i ≤ entries → HasSmallWord most was now

pub small_rows : (most entries : ℕ) (old new : List PartHistory) → AreClearedTo most entries old new → RowsTell old new (EachPair (IsCleared most entries) (length old))
small_rows most entries old new before =
    rows_each old new (IsCleared most entries) (length old) refl before.long (λ i below. elim (cases_kept entries i) [
      | inl kept ↦
          let was = slice_index_or old i [] in
          let At : PartHistory → Type 0 = λ history. BothTell was history (IsCleared most entries i) in
          subst At (sym (before.untouched i kept))
          (both_more was was (λ earlier now. now ≡ earlier) (IsCleared most entries i)
          (λ earlier now is. record { kept = λ _. is; small = λ some few. elim kept [ inl first ↦ absurd (omega arith) | inr past ↦ absurd (omega arith) ] })
          (both_itself was))
      | inr within ↦
          both_more (slice_index_or old i []) (slice_index_or new i []) (λ was now. MayBeTrimmed most was now × HasSmallWord most was now) (IsCleared most entries i)
          (λ earlier now both. record { kept = λ kept. elim kept [ inl first ↦ absurd (omega (arith, within.0)) | inr past ↦ absurd (omega (arith, within.1)) ]; small = λ some few. both.1 })
          (before.cleared i within.0 within.1)
    ])

-- ---- images of the row

-- a part behind the row's is none
kept_at : (most count : ℕ) (was now : List Part) → EachPair (IsKept most) count was now → (i : ℕ) → IsKept most i (slice_index_or was i []) (slice_index_or now i [])
kept_at most count was now pairs i = elim (cases_lt i count) [
  | inl inside ↦ pairs.has i inside
  | inr past ↦
      let none : slice_index_or now i [] ≡ slice_index_or was i [] =
      get_or_past now i [] (omega (arith, pairs.now_long)) ∙ sym (get_or_past was i [] (omega (arith, pairs.was_long))) in
      record { header = λ zero. none; trimmed = untrimmed most (slice_index_or was i []) (slice_index_or now i []) none }
]

pub quiet_same : (was now : Part) (image : Image) (i line word : ℕ) → now ≡ was → IsQuietPart was → IsPartImage now (image i) → image i line word ≡ part_word was line word
quiet_same was now image i line word same quiet is =
    let At : Part → Type 0 = λ part. IsPartImage part (image i) in
    quiet_image was (image i) line word (quiet.lines line) (subst At same is)

kept_same : (bounds : Bounds) (count : ℕ) (was now : List Part) → AreQuiet was → SaysBounds bounds (row_words was) → EachPair (IsKept (bounds.tail + bounds.entries)) count was now → InEachRowImage (SayTheSame (row_words was)) now
kept_same bounds count was now quiet says pairs image is =
    let most = bounds.tail + bounds.entries in
    let kept = kept_at most count was now pairs in
    same_trimmed (row_words was) image most (omega (arith, says.tail, says.entries))
    (λ line word. quiet_same (slice_index_or was 0 []) (slice_index_or now 0 []) image 0 line word ((kept 0).header refl) (quiet.each 0) (is.each 0))
    (λ i some. (kept i).trimmed (quiet.each i) (image i) (is.each i))

pub rows_same : (bounds : Bounds) (count : ℕ) (old new : List PartHistory) → RowTells old AreQuiet → RowTells old (λ was. SaysBounds bounds (row_words was)) → RowsTell old new (EachPair (IsKept (bounds.tail + bounds.entries)) count)
    → RowsTell old new (λ was. InEachRowImage (SayTheSame (row_words was)))
rows_same bounds count old new quiet says rows =
    let Says : List Part → Type 0 = λ was. SaysBounds bounds (row_words was) in
    rows_more old new (λ was. AreQuiet was × Says was) (EachPair (IsKept (bounds.tail + bounds.entries)) count) (λ was. InEachRowImage (SayTheSame (row_words was)))
    (λ was now both. kept_same bounds count was now both.0 both.1)
    (row_tells_both old AreQuiet Says quiet says) rows

-- ---- the row when all words are cleared

still_quiet : (most entries count : ℕ) (was now : List Part) → AreQuiet was → EachPair (IsCleared most entries) count was now → AreQuiet now
still_quiet most entries count was now quiet pairs = record {
  each = λ i.
      let Quiet : Part → Type 0 = IsQuietPart in
      elim (cases_lt i count) [
        | inl inside ↦ elim (cases_kept entries i) [
          | inl kept ↦ subst Quiet (sym ((pairs.has i inside).kept kept)) (quiet.each i)
          | inr within ↦ ((pairs.has i inside).small within.0 within.1 (quiet.each i)).0
        ]
        | inr past ↦
            subst Quiet (get_or_past was i [] (omega (arith, pairs.was_long)) ∙ sym (get_or_past now i [] (omega (arith, pairs.now_long)))) (quiet.each i)
      ];
}

none_above : (bounds : Bounds) (count : ℕ) (was now : List Part) → 1 + bounds.entries ≤ count → AreQuiet was → SaysBounds bounds (row_words was) → EachPair (IsCleared (bounds.tail + bounds.entries) bounds.entries) count was now → HasNoneAbove (row_words now)
none_above bounds count was now some quiet says pairs =
    let header : slice_index_or now 0 [] ≡ slice_index_or was 0 [] = (pairs.has 0 (omega arith)).kept (inl refl) in
    let words = λ (line word : ℕ). ap (λ (part : Part). part_word part line word) header in
    record {
      low = λ slot first few.
          let within : slot ≤ bounds.entries = omega (arith, words 0 3, says.entries) in
          let here = (pairs.has slot (omega arith)).small first within (quiet.each slot) in
          omega (arith, here.1, words 0 3, words 1 0, says.entries, says.tail);
    }

pub rows_quiet : (most entries count : ℕ) (old new : List PartHistory) → (AllTell new → AllTell old) → RowTells old AreQuiet → RowsTell old new (EachPair (IsCleared most entries) count) → RowTells new AreQuiet
rows_quiet most entries count old new back quiet rows =
    rows_new old new AreQuiet back
    (rows_more old new AreQuiet (EachPair (IsCleared most entries) count) (λ was now. AreQuiet now) (still_quiet most entries count) quiet rows)

pub rows_none_above : (bounds : Bounds) (count : ℕ) (old new : List PartHistory) → 1 + bounds.entries ≤ count → (AllTell new → AllTell old) → RowTells old AreQuiet → RowTells old (λ was. SaysBounds bounds (row_words was))
    → RowsTell old new (EachPair (IsCleared (bounds.tail + bounds.entries) bounds.entries) count) → RowTells new (λ now. HasNoneAbove (row_words now))
rows_none_above bounds count old new some back quiet says rows =
    let Says : List Part → Type 0 = λ was. SaysBounds bounds (row_words was) in
    rows_new old new (λ now. HasNoneAbove (row_words now)) back
    (rows_more old new (λ was. AreQuiet was × Says was) (EachPair (IsCleared (bounds.tail + bounds.entries) bounds.entries) count) (λ was now. HasNoneAbove (row_words now))
    (λ was now both. none_above bounds count was now some both.0 both.1)
    (row_tells_both old AreQuiet Says quiet says) rows)

-- ---- devices, of which one is cleared

pub devices_tell : {X : Type 0} (history : X → PartHistory) (parts : List X) (i : ℕ) (was new d : X) → i < length parts → was ≡ get_or parts i d → (0 < length (history was)) ↔ (0 < length (history new))
    → AllTell (map history parts) ↔ AllTell (map history (slice_set parts i new))
devices_tell history parts i was new d inside is tells =
    let From : PartHistory → Type 0 = λ these. (0 < length these) ↔ (0 < length (history new)) in
    let To : List PartHistory → Type 0 = λ row. AllTell (map history parts) ↔ AllTell row in
    subst To (sym (map-set history parts i new)) (tells_set (map history parts) i (history new) (subst From (part_history history parts i was d inside is) tells))

-- While one is, each image says the same as before.
pub clearing_throughout : {X : Type 0} (history : X → PartHistory) (bounds : Bounds) (done : ℕ) (old : List PartHistory) (parts : List X) (was new d : X)
    → RowTells old AreQuiet → RowTells old (λ these. SaysBounds bounds (row_words these)) → AreClearedTo (bounds.tail + bounds.entries) done old (map history parts) → 1 + done < length parts → was ≡ get_or parts (1 + done) d
    → Tells (history was) (λ before. EachMoment (MayBeTrimmed (bounds.tail + bounds.entries) before) (history was) (history new))
    → RowTells old (λ these. ThroughoutRow (InEachRowImage (SayTheSame (row_words these))) old (map history parts))
    → RowTells old (λ these. ThroughoutRow (InEachRowImage (SayTheSame (row_words these))) old (map history (slice_set parts (1 + done) new)))
clearing_throughout history bounds done old parts was new d quiet says before inside is moments through =
    let most = bounds.tail + bounds.entries in
    let Same : List Part → List Part → Type 0 = λ these. InEachRowImage (SayTheSame (row_words these)) in
    let between : List PartHistory = map history parts in
    let after : List PartHistory = map history (slice_set parts (1 + done) new) in
    row_tells_from old (λ these. ThroughoutRow (Same these) old after)
    (λ these are.
    throughout_then (λ row. RowTells row (Same these))
    (row_tells_at old (λ these. ThroughoutRow (Same these) old between) these are through)
    (device_throughout history parts (1 + done) was new d (MayBeTrimmed most) (Same these) inside is (before.tells.0 (presents_tell old these are))
    (λ states trimmed.
    row_tells_at old (λ these. RowTells (slice_set between (1 + done) states) (Same these)) these are
    (rows_same bounds (length old) old (slice_set between (1 + done) states) quiet says
    (stopped_rows most done (length old) old between states before refl trimmed)))
    moments))

pub devices_more : {X : Type 0} (history : X → PartHistory) (most done : ℕ) (old : List PartHistory) (parts : List X) (was new d : X) → AreClearedTo most done old (map history parts) → 1 + done < length parts
    → was ≡ get_or parts (1 + done) d → BothTell (history was) (history new) (MayBeTrimmed most) → BothTell (history was) (history new) (HasSmallWord most) → (0 < length (history was)) ↔ (0 < length (history new))
    → AreClearedTo most (done + 1) old (map history (slice_set parts (1 + done) new))
devices_more history most done old parts was new d before inside is trimmed small tells =
    let i = 1 + done in
    let old_is = part_history history parts i was d inside is in
    let Trimmed : PartHistory → Type 0 = λ these. BothTell these (history new) (MayBeTrimmed most) in
    let Small : PartHistory → Type 0 = λ these. BothTell these (history new) (HasSmallWord most) in
    let Told : PartHistory → Type 0 = λ these. (0 < length these) ↔ (0 < length (history new)) in
    let To : List PartHistory → Type 0 = λ row. AreClearedTo most (done + 1) old row in
    subst To (sym (map-set history parts i new))
    (cleared_more most done old (map history parts) (history new) before (omega (arith, length-map parts history)) (subst Trimmed old_is trimmed) (subst Small old_is small) (subst Told old_is tells))
