-- Unfilling: parts and stores come back out of slots, one slot after another.
use Rattle.std.proofs.Common.{◌≡◌, ℕ, zero, suc, ◌+◌, ◌≤◌, List, [], ◌∷◌, ◌++◌, length, take, drop, map, refl, sym, ap, subst, ◌∙◌, arith, append_assoc, append-nil, length-append}
use Rattle.std.specs.Prelude.{Option}
use mathlib.Core.Option.{some, some-injective, some-ne-none}
use lib.ListN.{get_elem?}
use Rattle.atomic_table.proofs.Lists.{drop_at}
use Rattle.nv_core.specs.state.Words.{Sizes}
use Rattle.nv_table.specs.declared.slot.Slot.{Slot}
use Rattle.nv_table.specs.declared.slot.Slot.TheVariants.{Away, Part, Store, Page}
use Rattle.nv_table.specs.declared.slot.PageBuffer.{PageBuffer}
use Rattle.nv_table.specs.ends.OpeningSlots.{in_slots, AreOpeningSlots, parts_in, stores_in}

-- ---- what is among slots

pub parts_both : {L B : Type 0} (one other : List (Slot L B)) → parts_in (one ++ other) ≡ parts_in one ++ parts_in other
parts_both [] other = refl
parts_both (Away ∷ rest) other = parts_both rest other
parts_both (Part part ∷ rest) other = ap (λ ps. part ∷ ps) (parts_both rest other)
parts_both (Store store ∷ rest) other = parts_both rest other
parts_both (Page buffer ∷ rest) other = parts_both rest other

pub stores_both : {L B : Type 0} (one other : List (Slot L B)) → stores_in (one ++ other) ≡ stores_in one ++ stores_in other
stores_both [] other = refl
stores_both (Away ∷ rest) other = stores_both rest other
stores_both (Part part ∷ rest) other = stores_both rest other
stores_both (Store store ∷ rest) other = ap (λ ss. store ∷ ss) (stores_both rest other)
stores_both (Page buffer ∷ rest) other = stores_both rest other

parts_of_parts : (L B : Type 0) (parts : List L) → parts_in {L = L} {B = B} (map Part parts) ≡ parts
parts_of_parts L B [] = refl
parts_of_parts L B (part ∷ rest) = ap (λ ps. part ∷ ps) (parts_of_parts L B rest)

parts_of_stores : (L B : Type 0) (stores : List B) → parts_in {L = L} {B = B} (map Store stores) ≡ []
parts_of_stores L B [] = refl
parts_of_stores L B (store ∷ rest) = parts_of_stores L B rest

parts_of_pages : (L B : Type 0) (buffers : List (Option PageBuffer)) → parts_in {L = L} {B = B} (map Page buffers) ≡ []
parts_of_pages L B [] = refl
parts_of_pages L B (buffer ∷ rest) = parts_of_pages L B rest

stores_of_parts : (L B : Type 0) (parts : List L) → stores_in {L = L} {B = B} (map Part parts) ≡ []
stores_of_parts L B [] = refl
stores_of_parts L B (part ∷ rest) = stores_of_parts L B rest

stores_of_stores : (L B : Type 0) (stores : List B) → stores_in {L = L} {B = B} (map Store stores) ≡ stores
stores_of_stores L B [] = refl
stores_of_stores L B (store ∷ rest) = ap (λ ss. store ∷ ss) (stores_of_stores L B rest)

stores_of_pages : (L B : Type 0) (buffers : List (Option PageBuffer)) → stores_in {L = L} {B = B} (map Page buffers) ≡ []
stores_of_pages L B [] = refl
stores_of_pages L B (buffer ∷ rest) = stores_of_pages L B rest

-- parts and stores that were put into slots are the ones there
pub parts_back : {L B : Type 0} (parts : List L) (stores : List B) (buffers : List (Option PageBuffer)) → parts_in (in_slots parts stores buffers) ≡ parts
parts_back {L = L} {B = B} parts stores buffers =
    parts_both (map Part parts ++ map Store stores) (map Page buffers)
    ∙ ap (λ ps. ps ++ parts_in {L = L} {B = B} (map Page buffers)) (parts_both (map Part parts) (map Store stores)
    ∙ ap (λ ps. ps ++ parts_in {L = L} {B = B} (map Store stores)) (parts_of_parts L B parts) ∙ ap (λ ps. parts ++ ps) (parts_of_stores L B stores) ∙ append-nil parts)
    ∙ ap (λ ps. parts ++ ps) (parts_of_pages L B buffers) ∙ append-nil parts

pub stores_back : {L B : Type 0} (parts : List L) (stores : List B) (buffers : List (Option PageBuffer)) → stores_in (in_slots parts stores buffers) ≡ stores
stores_back {L = L} {B = B} parts stores buffers =
    stores_both (map Part parts ++ map Store stores) (map Page buffers)
    ∙ ap (λ ss. ss ++ stores_in {L = L} {B = B} (map Page buffers)) (stores_both (map Part parts) (map Store stores)
    ∙ ap (λ ss. ss ++ stores_in {L = L} {B = B} (map Store stores)) (stores_of_parts L B parts) ∙ stores_of_stores L B stores)
    ∙ ap (λ ss. stores ++ ss) (stores_of_pages L B buffers) ∙ append-nil stores

pub parts_came : {L B : Type 0} (sizes : Sizes) (parts : List L) (stores : List B) (slots : List (Slot L B)) → AreOpeningSlots sizes parts stores slots
    → parts_in slots ≡ take (1 + sizes.entries) parts
parts_came {L = L} {B = B} sizes parts stores slots are =
    ap (λ (all : List (Slot L B)). parts_in all) are.are ∙ parts_back (take (1 + sizes.entries) parts) stores are.buffers

pub stores_came : {L B : Type 0} (sizes : Sizes) (parts : List L) (stores : List B) (slots : List (Slot L B)) → AreOpeningSlots sizes parts stores slots
    → stores_in slots ≡ stores
stores_came {L = L} {B = B} sizes parts stores slots are =
    ap (λ (all : List (Slot L B)). stores_in all) are.are ∙ stores_back (take (1 + sizes.entries) parts) stores are.buffers

-- ---- one slot after another

-- Some first slots are done: their parts and stores stand behind those that were there.
pub record HasUnfilled {L B : Type 0} (all done left : List (Slot L B)) (parts_first parts : List L) (stores_first stores : List B) : Type 0 where
  pub goes_on : done ++ left ≡ all
  pub parts_are : parts ≡ parts_first ++ parts_in done
  pub stores_are : stores ≡ stores_first ++ stores_in done

module _ {L B : Type 0} (all done left rest : List (Slot L B)) (parts_first parts : List L) (stores_first stores : List B) (slot : Slot L B)
    (has : HasUnfilled all done left parts_first parts stores_first stores) (next : left ≡ slot ∷ rest) where
  goes : (done ++ slot ∷ []) ++ rest ≡ all
  goes = append_assoc done (slot ∷ []) rest ∙ ap (λ xs. done ++ xs) (sym next) ∙ has.goes_on

  pub one_unfilled : (parts_next : List L) (stores_next : List B) → parts_next ≡ parts ++ parts_in (slot ∷ []) → stores_next ≡ stores ++ stores_in (slot ∷ [])
      → HasUnfilled all (done ++ slot ∷ []) rest parts_first parts_next stores_first stores_next
  one_unfilled parts_next stores_next parts_is stores_is = record {
    goes_on = goes;
    parts_are = parts_is ∙ ap (λ ps. ps ++ parts_in (slot ∷ [])) has.parts_are ∙ append_assoc parts_first (parts_in done) (parts_in (slot ∷ []))
        ∙ ap (λ ps. parts_first ++ ps) (sym (parts_both done (slot ∷ [])));
    stores_are = stores_is ∙ ap (λ ss. ss ++ stores_in (slot ∷ [])) has.stores_are ∙ append_assoc stores_first (stores_in done) (stores_in (slot ∷ []))
        ∙ ap (λ ss. stores_first ++ ss) (sym (stores_both done (slot ∷ [])));
  }

  -- what the next one holds finds its place
  pub part_fits : length parts + length (parts_in (slot ∷ [])) ≤ length parts_first + length (parts_in all)
  part_fits =
      let a : length parts ≡ length (parts_first ++ parts_in done) = ap length has.parts_are in
      let b = length-append parts_first (parts_in done) in
      let c : length (parts_in all) ≡ length (parts_in (done ++ slot ∷ []) ++ parts_in rest) = ap (λ (xs : List (Slot L B)). length (parts_in xs)) (sym goes) ∙ ap length (parts_both (done ++ slot ∷ []) rest) in
      let d = length-append (parts_in (done ++ slot ∷ [])) (parts_in rest) in
      let e : length (parts_in (done ++ slot ∷ [])) ≡ length (parts_in done ++ parts_in (slot ∷ [])) = ap length (parts_both done (slot ∷ [])) in
      let f = length-append (parts_in done) (parts_in (slot ∷ [])) in
      omega (arith, a, b, c, d, e, f)

  pub store_fits : length stores + length (stores_in (slot ∷ [])) ≤ length stores_first + length (stores_in all)
  store_fits =
      let a : length stores ≡ length (stores_first ++ stores_in done) = ap length has.stores_are in
      let b = length-append stores_first (stores_in done) in
      let c : length (stores_in all) ≡ length (stores_in (done ++ slot ∷ []) ++ stores_in rest) = ap (λ (xs : List (Slot L B)). length (stores_in xs)) (sym goes) ∙ ap length (stores_both (done ++ slot ∷ []) rest) in
      let d = length-append (stores_in (done ++ slot ∷ [])) (stores_in rest) in
      let e : length (stores_in (done ++ slot ∷ [])) ≡ length (stores_in done ++ stores_in (slot ∷ [])) = ap length (stores_both done (slot ∷ [])) in
      let f = length-append (stores_in done) (stores_in (slot ∷ [])) in
      omega (arith, a, b, c, d, e, f)

-- the same, by the slots' numbers
slot_at : {S : Type 0} (all : List S) (i : ℕ) (slot : S) → get_elem? all i ≡ some slot → take (suc i) all ≡ take i all ++ slot ∷ []
slot_at [] i slot at = absurd (some-ne-none slot (sym at))
slot_at (first ∷ others) zero slot at = ap (λ x. x ∷ []) (some-injective first slot at)
slot_at (first ∷ others) (suc i) slot at = ap (λ xs. first ∷ xs) (slot_at others i slot at)

module _ {L B : Type 0} (all : List (Slot L B)) (i : ℕ) (parts_first parts : List L) (stores_first stores : List B) (slot : Slot L B)
    (has : HasUnfilled all (take i all) (drop i all) parts_first parts stores_first stores) (at : get_elem? all i ≡ some slot) where
  pub slot_fits : (length parts + length (parts_in (slot ∷ [])) ≤ length parts_first + length (parts_in all))
      × (length stores + length (stores_in (slot ∷ [])) ≤ length stores_first + length (stores_in all))
  slot_fits = (
    part_fits all (take i all) (drop i all) (drop (suc i) all) parts_first parts stores_first stores slot has (drop_at all i slot at),
    store_fits all (take i all) (drop i all) (drop (suc i) all) parts_first parts stores_first stores slot has (drop_at all i slot at),
  )

  pub slot_unfilled : (parts_next : List L) (stores_next : List B) → parts_next ≡ parts ++ parts_in (slot ∷ []) → stores_next ≡ stores ++ stores_in (slot ∷ [])
      → HasUnfilled all (take (i + 1) all) (drop (i + 1) all) parts_first parts_next stores_first stores_next
  slot_unfilled parts_next stores_next parts_is stores_is =
      let next : suc i ≡ i + 1 = omega arith in
      subst (λ n. HasUnfilled all (take n all) (drop n all) parts_first parts_next stores_first stores_next) next
      (subst (λ done. HasUnfilled all done (drop (suc i) all) parts_first parts_next stores_first stores_next) (sym (slot_at all i slot at))
      (one_unfilled all (take i all) (drop i all) (drop (suc i) all) parts_first parts stores_first stores slot has (drop_at all i slot at) parts_next stores_next parts_is stores_is))
