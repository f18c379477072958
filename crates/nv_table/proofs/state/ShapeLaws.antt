-- Shapes: what the cells of a mount keep when it begins is of the shapes that they go on with, and each file has a store.
use Rattle.std.proofs.Common.{◌≡◌, ℕ, zero, suc, ◌+◌, ◌-◌, ◌<◌, ◌≤◌, ◌⊎◌, List, [], ◌∷◌, ◌++◌, length, get_or, map, take, Option, inl, inr, refl, sym, ap, subst, ◌∙◌, arith}
use Rattle.std.specs.Prelude.{Some, None}
use Rattle.std.specs.List.{All}
use Rattle.std.proofs.lemmas.Bool.{cases_lt}
use Rattle.std.proofs.lemmas.List.Elements.{All-head, All-tail}
use Rattle.std.proofs.lemmas.List.{append_assoc, get_or-append_right, length-map, length-take-le}
use Rattle.nv_core.specs.state.Words.{Word, STORE}
use Rattle.nv_core.specs.state.Values.{Value, Bare}
use Rattle.nv_core.specs.invariant.Shapes.{HasShape, HaveShapes, IsStore}
use Rattle.nv_table.specs.declared.slot.Slot.{Slot}
use Rattle.nv_table.specs.declared.slot.PageBuffer.{PageBuffer}
use Rattle.nv_table.specs.state.SlotValues.{buffer_value, slot_value}
use Rattle.nv_table.specs.state.Layout.{slot_of_cell}
use Rattle.nv_table.specs.state.Opened.{Opened, mount_of, held_in}
use Rattle.nv_table.specs.ends.OpeningSlots.{IsFreshBuffer, AreOpeningSlots}
use Rattle.nv_table.proofs.ends.MountLaws.{shown_slots, part_there}

-- ---- what each of some values has

-- each value of a list has a property, and so has what stands behind its end
abbrev EachIs : (Value → Type 0) → List Value → Type 0
EachIs P values = (i : ℕ) → P (get_or values i Bare)

each_append : (P : Value → Type 0) (first next : List Value) → EachIs P first → EachIs P next → EachIs P (first ++ next)
each_append P [] next one more i = more i
each_append P (value ∷ first) next one more zero = one zero
each_append P (value ∷ first) next one more (suc i) = each_append P first next (λ j. one (suc j)) more i

each_map : {X : Type 0} (P : Value → Type 0) (value : X → Value) → P Bare → (xs : List X) → All (λ x. P (value x)) xs → EachIs P (map value xs)
each_map P value bare [] all i = bare
each_map P value bare (x ∷ xs) all zero = All-head (λ x. P (value x)) x xs all
each_map P value bare (x ∷ xs) all (suc i) = each_map P value bare xs (All-tail (λ x. P (value x)) x xs all) i

all_so : {X : Type 0} (P : X → Type 0) → ((x : X) → P x) → (xs : List X) → All P xs
all_so P so xs = λ k d less. so (get_or xs k d)

each_buffer : (P : Value → Type 0) (buffers : List (Option PageBuffer)) → P Bare → ((i : ℕ) → P (buffer_value (get_or buffers i None))) → EachIs P (map buffer_value buffers)
each_buffer P [] bare each i = bare
each_buffer P (buffer ∷ buffers) bare each zero = each zero
each_buffer P (buffer ∷ buffers) bare each (suc i) = each_buffer P buffers bare (λ j. each (suc j)) i

-- a store among some, with something else of it
store_there : {B Y : Type 0} (store : B → Value) (tells : B → Y) (stores : List B) (rest : List Value) (i : ℕ) → i < length stores
    → (one : B) × (get_or (map store stores ++ rest) i Bare ≡ store one) × ((none : Y) → get_or (map tells stores) i none ≡ tells one)
store_there store tells [] rest i less = absurd (omega arith)
store_there store tells (one ∷ stores) rest zero less = (one, refl, λ none. refl)
store_there store tells (one ∷ stores) rest (suc i) less = store_there store tells stores rest i (omega arith)

-- ---- the mount

module _ {L B : Type 0} (part : L → Value) (store : B → Value) (opened : Opened) (parts : List L) (stores : List B) (slots : List (Slot L B))
    (shows : opened.slots ≡ map (slot_value part store) slots) (are : AreOpeningSlots opened.sizes parts stores slots) where
  slots_are : opened.slots ≡ map part (take (1 + opened.sizes.entries) parts) ++ (map store stores ++ map buffer_value are.buffers)
  slots_are =
      shows ∙ ap (map (slot_value part store)) are.are ∙ shown_slots part store (take (1 + opened.sizes.entries) parts) stores are.buffers
      ∙ append_assoc (map part (take (1 + opened.sizes.entries) parts)) (map store stores) (map buffer_value are.buffers)

  -- What nothing has, and each part, each store and each buffer that doesn't count, each cell has.
  pub each_held : (P : Value → Type 0) → P Bare → ((one : L) → P (part one)) → All (λ one. P (store one)) stores
      → ((buffer : Option PageBuffer) → IsFreshBuffer opened.sizes.page buffer ⊎ (buffer ≡ None) → P (buffer_value buffer)) → (cell : Word) → P ((mount_of opened).values cell)
  each_held P bare each_part each_store buffer cell = go (slot_of_cell opened.sizes cell)
    where
      of_page : (i : ℕ) → IsFreshBuffer opened.sizes.page (get_or are.buffers i None) ⊎ (get_or are.buffers i None ≡ None)
      of_page i = elim (cases_lt i opened.sizes.buffers) [ inl less ↦ inl (are.are_buffers.first i less) | inr past ↦ inr (are.are_buffers.others i past) ]

      each_slot : EachIs P opened.slots
      each_slot =
          let first : List L = take (1 + opened.sizes.entries) parts in
          let behind : EachIs P (map store stores ++ map buffer_value are.buffers) =
          each_append P (map store stores) (map buffer_value are.buffers) (each_map P store bare stores each_store)
          (each_buffer P are.buffers bare (λ i. buffer (get_or are.buffers i None) (of_page i))) in
          subst (EachIs P) (sym slots_are)
          (each_append P (map part first) (map store stores ++ map buffer_value are.buffers)
          (each_map P part bare first (all_so (λ one. P (part one)) each_part first)) behind)

      go : (slot : Option ℕ) → P (held_in opened.slots slot)
      go None = bare
      go (Some slot) = each_slot slot

  -- the part of a slot, with something else of it
  pub held_part : 1 + opened.sizes.entries ≤ length parts → {Y : Type 0} (tells : L → Y) (i : ℕ) → i ≤ opened.sizes.entries
      → (one : L) × (get_or opened.slots i Bare ≡ part one) × ((none : Y) → get_or (map tells parts) i none ≡ tells one)
  held_part enough tells i least =
      let one = part_there part tells (1 + opened.sizes.entries) parts (map store stores ++ map buffer_value are.buffers) i (omega arith) (omega arith) in
      (one.0, ap (λ (all : List Value). get_or all i Bare) slots_are ∙ one.1, one.2)

  -- what stands behind the parts
  behind : 1 + opened.sizes.entries ≤ length parts → (i : ℕ) → get_or opened.slots (1 + opened.sizes.entries + i) Bare ≡ get_or (map store stores ++ map buffer_value are.buffers) i Bare
  behind enough i =
      let front = map part (take (1 + opened.sizes.entries) parts) in
      let rest = map store stores ++ map buffer_value are.buffers in
      let slot = 1 + opened.sizes.entries + i in
      let long : length front ≡ 1 + opened.sizes.entries = length-map (take (1 + opened.sizes.entries) parts) part ∙ length-take-le (1 + opened.sizes.entries) parts enough in
      ap (λ (all : List Value). get_or all slot Bare) slots_are ∙ get_or-append_right front rest (1 + opened.sizes.entries) slot Bare long (omega arith)
      ∙ ap (λ n. get_or rest n Bare) (omega arith)

  -- the store of a file, with something else of it
  pub held_store : 1 + opened.sizes.entries ≤ length parts → length stores ≡ opened.sizes.files → {Y : Type 0} (tells : B → Y) (file : ℕ) → file < opened.sizes.files
      → (one : B) × ((mount_of opened).values (STORE file) ≡ store one) × ((none : Y) → get_or (map tells stores) file none ≡ tells one)
  held_store enough many tells file less =
      let one = store_there store tells stores (map buffer_value are.buffers) file (omega arith) in
      (one.0, behind enough file ∙ one.1, one.2)

  -- what nothing has, and each buffer, a cell has that would be the store of a file that isn't there
  pub no_store : 1 + opened.sizes.entries ≤ length parts → length stores ≡ opened.sizes.files → (P : Value → Type 0) → P Bare → ((buffer : Option PageBuffer) → P (buffer_value buffer))
      → (file : ℕ) → opened.sizes.files ≤ file → P ((mount_of opened).values (STORE file))
  no_store enough many P bare each file past =
      let at = length-map stores store in
      subst P
      (sym (behind enough file ∙ get_or-append_right (map store stores) (map buffer_value are.buffers) opened.sizes.files file Bare (at ∙ many) past))
      (each_map P buffer_value bare are.buffers (all_so (λ buffer. P (buffer_value buffer)) each are.buffers) (file - opened.sizes.files))

  -- ---- shapes

  pub have_shapes : ((one : L) → HasShape opened.sizes.page (part one) (part one)) → ((one : B) → HasShape opened.sizes.page (store one) (store one))
      → HaveShapes opened.sizes.page (mount_of opened).values (mount_of opened).values
  have_shapes part_shaped store_shaped =
      each_held (λ value. HasShape opened.sizes.page value value) tt
      part_shaped
      (all_so (λ one. HasShape opened.sizes.page (store one) (store one)) store_shaped stores)
      buffer_shaped
    where
      buffer_shaped : (buffer : Option PageBuffer) → IsFreshBuffer opened.sizes.page buffer ⊎ (buffer ≡ None) → HasShape opened.sizes.page (buffer_value buffer) (buffer_value buffer)
      buffer_shaped None is = tt
      buffer_shaped (Some buffer) (inl fresh) = omega (arith, fresh.0)
      buffer_shaped (Some buffer) (inr none) = absurd cc

  pub keeps_stores : 1 + opened.sizes.entries ≤ length parts → length stores ≡ opened.sizes.files → ((one : B) → IsStore (store one)) → (file : ℕ) → file < opened.sizes.files
      → IsStore ((mount_of opened).values (STORE file))
  keeps_stores enough many is file less =
      let one = held_store enough many store file less in
      subst IsStore (sym one.1) (is one.0)
