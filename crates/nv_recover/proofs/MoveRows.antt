-- The parts of a region whose tail moves.
use Rattle.std.proofs.Common.{◌≡◌, ◌≢◌, inl, inr, ℕ, ◌^◌, ◌≤◌, List, [], length, map, get_or, slice_index_or, slice_set, zero, suc, refl, sym, ap, ◌∙◌, subst, arith}
use Rattle.std.proofs.lemmas.Bool.{cases_eq, cases_lt}
use Rattle.std.proofs.lemmas.List.{get_or_past, get_or-set_same, get_or-set_other, length-map, length-set, map-set}
use Rattle.nv_plain.specs.Images.{Image}
use Rattle.nv_plain.specs.Layouts.{layout_of}
use Rattle.nv_plain.specs.declared.limits.Version.{Version}
use Rattle.nv_pmem.specs.Images.{IsQuietPart}
use Rattle.nv_pmem.specs.Part.{Part}
use Rattle.nv_pmem.specs.Moments.{Tells, EachMoment}
use Rattle.nv_pmem.specs.Rows.{RowTells, IsRowImage, InEachRowImage, row_words, AreQuiet}
use Rattle.nv_pmem.specs.Steps.{PartHistory}
use Rattle.nv_pmem.proofs.RowLaws.{row_image_of_now, row_tells_more, row_tells_both}
use Rattle.nv_header.specs.Regions.{ReadsAs, IsAtRest}
use Rattle.nv_pmem.specs.RowStates.{row_tells_at, row_tells_from}
use Rattle.nv_recover.specs.Alike.{SayTheSame}
use Rattle.nv_recover.specs.Changes.{ThroughoutRow}
use Rattle.nv_recover.specs.Emptying.{BothTell, HasNoneAbove, CommitsNoneFrom, SaysTheSameOrEmpty}
use Rattle.nv_recover.specs.Telling.{AllTell}
use Rattle.nv_recover.proofs.EmptyLaws.{same_words, same_same, none_too, reads_too, moved_empty}
use Rattle.nv_recover.proofs.EmptyParts.{IsMoved, MayBeMoved, HasTail}
use Rattle.nv_recover.proofs.EmptyRows.{quiet_same, part_history}
use Rattle.nv_recover.proofs.Present.{presents_tell, RowsTell, both_itself, both_more, both_both, EachPair, rows_each, rows_more, rows_new}
use Rattle.nv_recover.proofs.RowMoments.{device_throughout, rows_throughout}
use Rattle.nv_recover.proofs.Throughout.{row_throughout_more}

-- ---- the header changes, and no other part

record IsFirst (R : Part → Part → Type 0) (i : ℕ) (was now : Part) : Type 0 where
  header : i ≡ 0 → R was now
  others : i ≢ 0 → now ≡ was

first_rows : (R : Part → Part → Type 0) (count : ℕ) (row : List PartHistory) (history : PartHistory) → length row ≡ count → 1 ≤ count → BothTell (slice_index_or row 0 []) history R → RowsTell row (slice_set row 0 history) (EachPair (IsFirst R) count)
first_rows R count row history long some told =
    let new = slice_set row 0 history in
    rows_each row new (IsFirst R) count long (omega (arith, length-set row 0 history)) (λ i below. elim (cases_eq i 0) [
      | inl first ↦
          let Old : PartHistory → Type 0 = λ these. BothTell these history R in
          let New : PartHistory → Type 0 = λ these. BothTell (slice_index_or row i []) these (IsFirst R i) in
          subst New (sym (ap (λ k. slice_index_or new k []) first ∙ get_or-set_same row 0 history [] (omega arith)))
          (both_more (slice_index_or row i []) history R (IsFirst R i) (λ was now here. record { header = λ _. here; others = λ other. absurd (other first) })
          (subst Old (ap (λ k. slice_index_or row k []) (sym first)) told))
      | inr other ↦
          let was = slice_index_or row i [] in
          let New : PartHistory → Type 0 = λ these. BothTell was these (IsFirst R i) in
          subst New (sym (get_or-set_other row 0 i history [] other))
          (both_more was was (λ before now. now ≡ before) (IsFirst R i) (λ before now is. record { header = λ zero. absurd (other zero); others = λ _. is }) (both_itself was))
    ])

other_same : (R : Part → Part → Type 0) (count : ℕ) (was now : List Part) → EachPair (IsFirst R) count was now → (i : ℕ) → i ≢ 0 → slice_index_or now i [] ≡ slice_index_or was i []
other_same R count was now pairs i other = elim (cases_lt i count) [
  | inl inside ↦ (pairs.has i inside).others other
  | inr past ↦ get_or_past now i [] (omega (arith, pairs.now_long)) ∙ sym (get_or_past was i [] (omega (arith, pairs.was_long)))
]

-- ---- images of the row

-- a row whose tail can be moved, and its log so be emptied
pub record CanMove (version : Version) (page entries : ℕ) (names : List (List ℕ)) (tail next : ℕ) (was : List Part) : Type 0 where
  pub quiet : AreQuiet was
  pub above : HasNoneAbove (row_words was)
  pub none : CommitsNoneFrom next (row_words was)
  pub reads : ReadsAs (layout_of version) page entries names tail (row_words was)

kept_words : (next : ℕ) (was image : Image) → IsMoved next (was 0) (image 0) → image 0 1 0 ≡ was 0 1 0 → ((part line word : ℕ) → 1 ≤ part → image part line word ≡ was part line word) → (part line word : ℕ) → image part line word ≡ was part line word
kept_words next was image moved kept others zero line word = elim (cases_eq line 1) [
  | inl one ↦ elim (cases_eq word 0) [
    | inl first ↦ ap (λ k. image 0 k word) one ∙ ap (image 0 1) first ∙ kept ∙ ap (was 0 1) (sym first) ∙ ap (λ k. was 0 k word) (sym one)
    | inr apart ↦ moved.others line word (inr apart)
  ]
  | inr apart ↦ moved.others line word (inl apart)
]
kept_words next was image moved kept others (suc part) line word = others (suc part) line word (omega arith)

other_words : (R : Part → Part → Type 0) (count : ℕ) (was now : List Part) (image : Image) → AreQuiet was → EachPair (IsFirst R) count was now → IsRowImage now image → (part line word : ℕ) → 1 ≤ part → image part line word ≡ row_words was part line word
other_words R count was now image quiet pairs is part line word some =
    quiet_same (slice_index_or was part []) (slice_index_or now part []) image part line word (other_same R count was now pairs part (omega arith)) (quiet.each part) (is.each part)

same_or_empty : (version : Version) (page entries : ℕ) (names : List (List ℕ)) (tail next count : ℕ) (was now : List Part) → 1 ≤ count → tail ≤ next → next ≤ 2 ^ 60 → CanMove version page entries names tail next was → EachPair (IsFirst (MayBeMoved next)) count was now
    → InEachRowImage (SaysTheSameOrEmpty (layout_of version) page entries names next (row_words was)) now
same_or_empty version page entries names tail next count was now some low small can pairs image is =
    let moved = (pairs.has 0 (omega arith)).header refl (can.quiet.each 0) (image 0) (is.each 0) in
    let others = other_words (MayBeMoved next) count was now image can.quiet pairs is in
    elim moved.tail [
      | inl kept ↦ inl (same_words (row_words was) image (kept_words next (row_words was) image moved kept others))
      | inr new ↦ inr (moved_empty version page entries names tail next (row_words was) image moved.others others new low small can.above can.none can.reads)
    ]

-- the tail is moved, and durable
abbrev pub IsTailMoved : ℕ → Part → Part → Type 0
IsTailMoved next was now = MayBeMoved next was now × HasTail next was now

at_rest : (version : Version) (page entries : ℕ) (names : List (List ℕ)) (tail next count : ℕ) (was now : List Part) → 1 ≤ count → tail ≤ next → next ≤ 2 ^ 60 → CanMove version page entries names tail next was → EachPair (IsFirst (IsTailMoved next)) count was now
    → IsAtRest (layout_of version) page entries names next now
at_rest version page entries names tail next count was now some low small can pairs =
    let header = (pairs.has 0 (omega arith)).header refl in
    record {
      quiet = record {
        each = λ i.
            let Quiet : Part → Type 0 = IsQuietPart in
            elim (cases_eq i 0) [
              | inl first ↦
                  let At : ℕ → Type 0 = λ k. IsQuietPart (slice_index_or now k []) in
                  subst At (sym first) (header.1 (can.quiet.each 0)).0
              | inr other ↦ subst Quiet (sym (other_same (IsTailMoved next) count was now pairs i other)) (can.quiet.each i)
            ];
      };
      empty = λ image is.
          moved_empty version page entries names tail next (row_words was) image (header.0 (can.quiet.each 0) (image 0) (is.each 0)).others
          (other_words (IsTailMoved next) count was now image can.quiet pairs is)
          ((header.1 (can.quiet.each 0)).1 (image 0) (is.each 0)) low small can.above can.none can.reads;
    }

-- ---- what the devices tell

rows_can : (version : Version) (page entries : ℕ) (names : List (List ℕ)) (tail next : ℕ) (row : List PartHistory) → RowTells row AreQuiet → RowTells row (λ was. HasNoneAbove (row_words was)) → RowTells row (λ was. CommitsNoneFrom next (row_words was))
    → RowTells row (λ was. ReadsAs (layout_of version) page entries names tail (row_words was)) → RowTells row (CanMove version page entries names tail next)
rows_can version page entries names tail next row quiet above none reads =
    let Above : List Part → Type 0 = λ was. HasNoneAbove (row_words was) in
    let None : List Part → Type 0 = λ was. CommitsNoneFrom next (row_words was) in
    let Reads : List Part → Type 0 = λ was. ReadsAs (layout_of version) page entries names tail (row_words was) in
    row_tells_more row (λ was. (AreQuiet was × Above was) × (None was × Reads was)) (CanMove version page entries names tail next)
    (λ was all. record { quiet = all.0.0; above = all.0.1; none = all.1.0; reads = all.1.1 })
    (row_tells_both row (λ was. AreQuiet was × Above was) (λ was. None was × Reads was)
    (row_tells_both row AreQuiet Above quiet above) (row_tells_both row None Reads none reads))

moved_row : (version : Version) (page entries : ℕ) (names : List (List ℕ)) (tail next : ℕ) (row : List PartHistory) (header : PartHistory) → 1 ≤ length row → tail ≤ next → next ≤ 2 ^ 60
    → RowTells row (CanMove version page entries names tail next) → BothTell (slice_index_or row 0 []) header (MayBeMoved next)
    → RowsTell row (slice_set row 0 header) (λ was. InEachRowImage (SaysTheSameOrEmpty (layout_of version) page entries names next (row_words was)))
moved_row version page entries names tail next row header some low small can moved =
    let count = length row in
    rows_more row (slice_set row 0 header) (CanMove version page entries names tail next) (EachPair (IsFirst (MayBeMoved next)) count)
    (λ was. InEachRowImage (SaysTheSameOrEmpty (layout_of version) page entries names next (row_words was)))
    (λ was now. same_or_empty version page entries names tail next count was now (omega arith) low small)
    can (first_rows (MayBeMoved next) count row header refl (omega arith) moved)

-- While the tail moves, each image says the same as before, or has an empty log.
pub moving_throughout : {X : Type 0} (history : X → PartHistory) (version : Version) (page entries : ℕ) (names : List (List ℕ)) (tail next : ℕ) (parts : List X) (was new d : X) → 1 ≤ length parts → was ≡ get_or parts 0 d → tail ≤ next → next ≤ 2 ^ 60
    → RowTells (map history parts) (CanMove version page entries names tail next) → Tells (history was) (λ before. EachMoment (MayBeMoved next before) (history was) (history new))
    → RowTells (map history parts) (λ these. ThroughoutRow (InEachRowImage (SaysTheSameOrEmpty (layout_of version) page entries names next (row_words these))) (map history parts) (map history (slice_set parts 0 new)))
moving_throughout history version page entries names tail next parts was new d some is low small can moments =
    let row : List PartHistory = map history parts in
    let after : List PartHistory = map history (slice_set parts 0 new) in
    let Says : List Part → List Part → Type 0 = λ these. InEachRowImage (SaysTheSameOrEmpty (layout_of version) page entries names next (row_words these)) in
    row_tells_from row (λ these. ThroughoutRow (Says these) row after)
    (λ these are.
    device_throughout history parts 0 was new d (MayBeMoved next) (Says these) (omega arith) is (presents_tell row these are)
    (λ header moved.
    row_tells_at row (λ these. RowTells (slice_set row 0 header) (Says these)) these are
    (moved_row version page entries names tail next row header (omega (arith, length-map parts history)) low small can moved))
    moments)

pub rest_rows : {X : Type 0} (history : X → PartHistory) (version : Version) (page entries : ℕ) (names : List (List ℕ)) (tail next : ℕ) (parts : List X) (was new d : X) → 1 ≤ length parts → was ≡ get_or parts 0 d → tail ≤ next → next ≤ 2 ^ 60
    → (AllTell (map history (slice_set parts 0 new)) → AllTell (map history parts))
    → RowTells (map history parts) (CanMove version page entries names tail next) → BothTell (history was) (history new) (MayBeMoved next) → BothTell (history was) (history new) (HasTail next)
    → RowTells (map history (slice_set parts 0 new)) (IsAtRest (layout_of version) page entries names next)
rest_rows history version page entries names tail next parts was new d some is low small back can moved settled =
    let row : List PartHistory = map history parts in
    let count = length row in
    let long = length-map parts history in
    let after = slice_set row 0 (history new) in
    let From : PartHistory → Type 0 = λ these. BothTell these (history new) (IsTailMoved next) in
    let Back : List PartHistory → Type 0 = λ these. AllTell these → AllTell row in
    let To : List PartHistory → Type 0 = λ these. RowTells these (IsAtRest (layout_of version) page entries names next) in
    subst To (sym (map-set history parts 0 new))
    (rows_new row after (IsAtRest (layout_of version) page entries names next) (subst Back (map-set history parts 0 new) back)
    (rows_more row after (CanMove version page entries names tail next) (EachPair (IsFirst (IsTailMoved next)) count) (λ before now. IsAtRest (layout_of version) page entries names next now)
    (λ before now. at_rest version page entries names tail next count before now (omega arith) low small)
    can
    (first_rows (IsTailMoved next) count row (history new) refl (omega arith)
    (subst From (part_history history parts 0 was d some is) (both_both (history was) (history new) (MayBeMoved next) (HasTail next) moved settled)))))

-- ---- after parts that say the same of the log

same_now : (old new : List PartHistory) → RowsTell old new (λ was. InEachRowImage (SayTheSame (row_words was))) → RowsTell old new (λ was now. SayTheSame (row_words was) (row_words now))
same_now old new same =
    row_tells_more old (λ was. RowTells new (InEachRowImage (SayTheSame (row_words was)))) (λ was. RowTells new (λ now. SayTheSame (row_words was) (row_words now)))
    (λ was. row_tells_more new (InEachRowImage (SayTheSame (row_words was))) (λ now. SayTheSame (row_words was) (row_words now))
    (λ now each. each (row_words now) (row_image_of_now now)))
    same

-- what an image says of the log, rows say that say the same
carried : (P : Image → Type 0) (old new : List PartHistory) → ((was now : Image) → SayTheSame was now → P was → P now) → (AllTell new → AllTell old) → RowsTell old new (λ was. InEachRowImage (SayTheSame (row_words was)))
    → RowTells old (λ was. P (row_words was)) → RowTells new (λ now. P (row_words now))
carried P old new step back same told =
    rows_new old new (λ now. P (row_words now)) back
    (rows_more old new (λ was. P (row_words was)) (λ was now. SayTheSame (row_words was) (row_words now)) (λ was now. P (row_words now))
    (λ was now has says. step (row_words was) (row_words now) says has) told (same_now old new same))

none_carried : (next : ℕ) (old new : List PartHistory) → (AllTell new → AllTell old) → RowsTell old new (λ was. InEachRowImage (SayTheSame (row_words was))) → RowTells old (λ was. CommitsNoneFrom next (row_words was)) → RowTells new (λ now. CommitsNoneFrom next (row_words now))
none_carried next old new back same told =
    carried (CommitsNoneFrom next) old new (λ was now says. none_too was now next says) back same told

reads_carried : (version : Version) (page entries : ℕ) (names : List (List ℕ)) (tail : ℕ) (old new : List PartHistory) → (AllTell new → AllTell old) → RowsTell old new (λ was. InEachRowImage (SayTheSame (row_words was)))
    → RowTells old (λ was. ReadsAs (layout_of version) page entries names tail (row_words was)) → RowTells new (λ now. ReadsAs (layout_of version) page entries names tail (row_words now))
reads_carried version page entries names tail old new back same told =
    carried (ReadsAs (layout_of version) page entries names tail) old new (λ was now says. reads_too version page entries names tail was now says.header) back same told

-- Images that say the same, and then images that do or have an empty log.
pub same_then : (version : Version) (page entries : ℕ) (names : List (List ℕ)) (next : ℕ) (old between new : List PartHistory) → (AllTell old → AllTell between)
    → RowTells old (λ was. ThroughoutRow (InEachRowImage (SayTheSame (row_words was))) old between)
    → RowTells between (λ was. ThroughoutRow (InEachRowImage (SaysTheSameOrEmpty (layout_of version) page entries names next (row_words was))) between new)
    → RowTells old (λ was. ThroughoutRow (InEachRowImage (SaysTheSameOrEmpty (layout_of version) page entries names next (row_words was))) old new)
same_then version page entries names next old between new on same later =
    let Same : List Part → List Part → Type 0 = λ was. InEachRowImage (SayTheSame (row_words was)) in
    let Says : List Part → List Part → Type 0 = λ was. InEachRowImage (SaysTheSameOrEmpty (layout_of version) page entries names next (row_words was)) in
    rows_throughout old between new Same Says Says on (λ was now each image is. inl (each image is))
    (λ was mid now says each image is. elim (each image is) [
      | inl kept ↦ inl (same_same (row_words was) (row_words mid) image (says (row_words mid) (row_image_of_now mid)) kept)
      | inr empty ↦ inr empty
    ])
    same later

pub same_alone : (version : Version) (page entries : ℕ) (names : List (List ℕ)) (next : ℕ) (old new : List PartHistory) → RowTells old (λ was. ThroughoutRow (InEachRowImage (SayTheSame (row_words was))) old new)
    → RowTells old (λ was. ThroughoutRow (InEachRowImage (SaysTheSameOrEmpty (layout_of version) page entries names next (row_words was))) old new)
same_alone version page entries names next old new same =
    let Same : List Part → List Part → Type 0 = λ was. InEachRowImage (SayTheSame (row_words was)) in
    let Says : List Part → List Part → Type 0 = λ was. InEachRowImage (SaysTheSameOrEmpty (layout_of version) page entries names next (row_words was)) in
    row_tells_more old (λ was. ThroughoutRow (Same was) old new) (λ was. ThroughoutRow (Says was) old new)
    (λ was through. row_throughout_more (Same was) (Says was) (λ now each image is. inl (each image is)) through)
    same

-- a row whose words are cleared can have its tail moved
pub can_after : (version : Version) (page entries : ℕ) (names : List (List ℕ)) (tail next : ℕ) (old new : List PartHistory) → (AllTell new → AllTell old) → RowsTell old new (λ was. InEachRowImage (SayTheSame (row_words was)))
    → RowTells new AreQuiet → RowTells new (λ now. HasNoneAbove (row_words now)) → RowTells old (λ was. CommitsNoneFrom next (row_words was)) → RowTells old (λ was. ReadsAs (layout_of version) page entries names tail (row_words was))
    → RowTells new (CanMove version page entries names tail next)
can_after version page entries names tail next old new back same quiet above none reads =
    rows_can version page entries names tail next new quiet above (none_carried next old new back same none) (reads_carried version page entries names tail old new back same reads)
