-- Mounts: what a mount begins with is one of the core, where its parts are those of a region at rest.
use Rattle.std.proofs.Common.{◌≡◌, ℕ, zero, suc, ◌+◌, ◌^◌, ◌<◌, ◌≤◌, List, [], ◌∷◌, ◌++◌, length, get_or, map, take, Option, inl, inr, refl, sym, ap, subst, ◌∙◌, arith}
use Rattle.std.specs.Prelude.{Some, None}
use Rattle.std.proofs.lemmas.Bool.{cases_lt}
use Rattle.std.proofs.lemmas.List.{append_assoc, map-append, get_or-append_right, length-map, length-append, length-take-le}
use Rattle.nv_plain.specs.Layouts.{mount_layout}
use Rattle.nv_pmem.specs.Limits.{entry_lines}
use Rattle.nv_pmem.specs.Part.{Part}
use Rattle.nv_pmem.specs.Room.{Room}
use Rattle.nv_header.specs.Regions.{IsRoomy, HasParts, part_lines}
use Rattle.nv_core.specs.state.Totals.{total}
use Rattle.nv_core.specs.state.Words.{Sizes, page_total, PAGE}
use Rattle.nv_core.specs.state.Spares.{SparesTell}
use Rattle.nv_core.specs.state.Values.{Value, Bare, buffers_in}
use Rattle.nv_core.specs.invariant.Rooms.{KeepsReady, KeepsRoomy}
use Rattle.nv_core.specs.steps.Opening.{IsMount}
use Rattle.nv_table.specs.declared.slot.Slot.{Slot}
use Rattle.nv_table.specs.declared.slot.Slot.TheVariants.{Part as PartSlot, Store as StoreSlot, Page as PageSlot}
use Rattle.nv_table.specs.declared.slot.PageBuffer.{PageBuffer}
use Rattle.nv_table.specs.state.SlotValues.{part_value, buffer_value, slot_value}
use Rattle.nv_table.specs.state.Layout.{slot_total}
use Rattle.nv_table.specs.state.Limits.{MountIsWithinLimits}
use Rattle.nv_table.specs.state.Opened.{Opened, mount_of}
use Rattle.nv_table.specs.ends.OpeningSlots.{IsFreshBuffer, in_slots, AreOpeningSlots}

-- ---- how many buffers there are

total_first : (count many : ℕ) (value : ℕ → ℕ) → many ≤ count → ((n : ℕ) → n < many → value n ≡ 1) → ((n : ℕ) → n < count → many ≤ n → value n ≡ 0) → total count value ≡ many
unfolding total
total_first zero many value most one none = omega arith
total_first (suc count) many value most one none = elim (cases_lt count many) [
  | inl all ↦
      let before = total_first count count value (omega arith) (λ n less. one n (omega arith)) (λ n less past. absurd (omega arith)) in
      let here = one count all in
      omega arith
  | inr past ↦
      let before = total_first count many value past one (λ n less over. none n (omega arith) over) in
      let here = none count (omega arith) past in
      omega arith
]

fresh_counts : (size : ℕ) (buffer : Option PageBuffer) → IsFreshBuffer size buffer → buffers_in (buffer_value buffer) ≡ 1
fresh_counts size None fresh = absurd fresh
fresh_counts size (Some buffer) fresh = refl

buffer_there : (buffers : List (Option PageBuffer)) (page : ℕ) → page < length buffers → get_or (map buffer_value buffers) page Bare ≡ buffer_value (get_or buffers page None)
buffer_there [] page less = absurd (omega arith)
buffer_there (one ∷ rest) zero less = refl
buffer_there (one ∷ rest) (suc page) less = buffer_there rest page (omega arith)

-- ---- what the slots show

map_formed : {X Y Z : Type 0} (form : X → Y) (show : Y → Z) (value : X → Z) → ((x : X) → show (form x) ≡ value x) → (xs : List X) → map show (map form xs) ≡ map value xs
map_formed form show value is [] = refl
map_formed form show value is (one ∷ rest) = ap (λ v. v ∷ map show (map form rest)) (is one) ∙ ap (λ vs. value one ∷ vs) (map_formed form show value is rest)

module _ {L B : Type 0} (part : L → Value) (store : B → Value) where
  pub shown_slots : (parts : List L) (stores : List B) (buffers : List (Option PageBuffer))
      → map (slot_value part store) (in_slots parts stores buffers) ≡ (map part parts ++ map store stores) ++ map buffer_value buffers
  shown_slots parts stores buffers =
      map-append (slot_value part store) (map PartSlot parts ++ map StoreSlot stores) (map PageSlot buffers)
      ∙ ap (λ vs. vs ++ map (slot_value part store) (map PageSlot buffers)) (map-append (slot_value part store) (map PartSlot parts) (map StoreSlot stores))
      ∙ ap (λ vs. (vs ++ map (slot_value part store) (map StoreSlot stores)) ++ map (slot_value part store) (map PageSlot buffers)) (map_formed PartSlot (slot_value part store) part (λ x. refl) parts)
      ∙ ap (λ vs. (map part parts ++ vs) ++ map (slot_value part store) (map PageSlot buffers)) (map_formed StoreSlot (slot_value part store) store (λ x. refl) stores)
      ∙ ap (λ vs. (map part parts ++ map store stores) ++ vs) (map_formed PageSlot (slot_value part store) buffer_value (λ x. refl) buffers)

-- a part in its slot, with its room, or with something else of it
pub part_there : {L Y : Type 0} (part : L → Value) (room : L → Y) (many : ℕ) (parts : List L) (rest : List Value) (i : ℕ) → i < many → i < length parts
    → (one : L) × (get_or (map part (take many parts) ++ rest) i Bare ≡ part one) × ((none : Y) → get_or (map room parts) i none ≡ room one)
part_there part room zero parts rest i less there = absurd (omega arith)
part_there part room (suc many) [] rest i less there = absurd (omega arith)
part_there part room (suc many) (one ∷ parts) rest zero less there = (one, refl, λ none. refl)
part_there part room (suc many) (one ∷ parts) rest (suc i) less there = part_there part room many parts rest i (omega arith) (omega arith)

-- ---- the mount

module _ {L B : Type 0} (sizes : Sizes) (parts : List L) (stores : List B) (slots : List (Slot L B)) (are : AreOpeningSlots sizes parts stores slots)
    (enough : 1 + sizes.entries ≤ length parts) (many_stores : length stores ≡ sizes.files) where
  pub slots_counted : length slots ≡ slot_total sizes
  slots_counted =
      let front : List (Slot L B) = map PartSlot (take (1 + sizes.entries) parts) in
      let middle : List (Slot L B) = map StoreSlot stores in
      let back : List (Slot L B) = map PageSlot are.buffers in
      let u : length slots ≡ length ((front ++ middle) ++ back) = ap length are.are in
      let p : length front ≡ length (take (1 + sizes.entries) parts) = length-map (take (1 + sizes.entries) parts) PartSlot in
      let q = length-take-le (1 + sizes.entries) parts enough in
      let r : length middle ≡ length stores = length-map stores StoreSlot in
      let s : length back ≡ length are.buffers = length-map are.buffers PageSlot in
      let t = are.are_buffers.count in
      omega (arith, length-append (front ++ middle) back, length-append front middle)

  page_held : (part : L → Value) (store : B → Value) (page : ℕ) → page < page_total sizes
      → get_or (map (slot_value part store) slots) (1 + sizes.entries + sizes.files + page) Bare ≡ buffer_value (get_or are.buffers page None)
  page_held part store page less =
      let front = map part (take (1 + sizes.entries) parts) ++ map store stores in
      let long : length front ≡ 1 + sizes.entries + sizes.files =
      let b = length-append (map part (take (1 + sizes.entries) parts)) (map store stores) in
      let p = length-map (take (1 + sizes.entries) parts) part in
      let q = length-take-le (1 + sizes.entries) parts enough in
      let r = length-map stores store in
      omega arith in
      ap (λ (all : List Value). get_or all (1 + sizes.entries + sizes.files + page) Bare)
      (ap (map (slot_value part store)) are.are ∙ shown_slots part store (take (1 + sizes.entries) parts) stores are.buffers)
      ∙ get_or-append_right front (map buffer_value are.buffers) (1 + sizes.entries + sizes.files) (1 + sizes.entries + sizes.files + page) Bare long (omega arith)
      ∙ ap (λ n. get_or (map buffer_value are.buffers) n Bare) (omega arith)
      ∙ buffer_there are.buffers page (omega (arith, are.are_buffers.count))

  part_held : (part : L → Value) (store : B → Value) (room : L → Room) (i : ℕ) → i ≤ sizes.entries
      → (one : L) × (get_or (map (slot_value part store) slots) i Bare ≡ part one) × ((none : Room) → get_or (map room parts) i none ≡ room one)
  part_held part store room i least =
      let one = part_there part room (1 + sizes.entries) parts (map store stores ++ map buffer_value are.buffers) i (omega arith) (omega arith) in (
        one.0,
        ap (λ (all : List Value). get_or all i Bare)
            (ap (map (slot_value part store)) are.are ∙ shown_slots part store (take (1 + sizes.entries) parts) stores are.buffers
            ∙ append_assoc (map part (take (1 + sizes.entries) parts)) (map store stores) (map buffer_value are.buffers))
            ∙ one.1,
        one.2,
      )

module _ {L B : Type 0} (device : L → ℕ) (history : L → List Part) (faults : L → ℕ) (room : L → Room) (store : B → Value) where
  part_ready : SparesTell → (sizes : Sizes) (one : L) → IsRoomy (entry_lines sizes.page) (room one) → KeepsReady sizes (part_value device history faults room one)
  part_ready tell sizes one roomy = (tell (room one)).ready sizes.page record { lines = roomy.there; spare = roomy.spare }

  pub is_mount : SparesTell → (opened : Opened) (parts : List L) (stores : List B) (slots : List (Slot L B))
      → opened.slots ≡ map (slot_value (part_value device history faults room) store) slots → MountIsWithinLimits opened.sizes → length stores ≡ opened.sizes.files
      → HasParts mount_layout opened.sizes.page opened.sizes.entries (map room parts) → opened.next ≤ 2 ^ 60 → AreOpeningSlots opened.sizes parts stores slots
      → IsMount (mount_of opened)
  is_mount tell opened parts stores slots shows limits many has small are = record {
    small = small;
    buffers = record {
      many = total_first (page_total opened.sizes) opened.sizes.buffers (λ page. buffers_in ((mount_of opened).values (PAGE page))) limits.most_buffers
          (λ page less. ap buffers_in (page_is page (omega (arith, limits.most_buffers))) ∙ fresh_counts opened.sizes.page (get_or are.buffers page None) (are.are_buffers.first page less))
          (λ page less past. ap buffers_in (page_is page less) ∙ ap (λ b. buffers_in (buffer_value b)) (are.are_buffers.others page past));
    };
    ready = λ slot less.
        let one = part_is (1 + slot) (omega arith) in
        let roomy = has.each (1 + slot) (room one.0) (omega arith) in
        let lined : part_lines mount_layout opened.sizes.page (1 + slot) ≡ entry_lines opened.sizes.page = ap (part_lines mount_layout opened.sizes.page) (one_and slot) in
        subst (KeepsReady opened.sizes) (sym one.1)
        (part_ready tell opened.sizes one.0 (subst (IsRoomy (entry_lines opened.sizes.page)) (one.2 (room one.0))
        (subst (λ n. IsRoomy n (get_or (map room parts) (1 + slot) (room one.0))) lined roomy)));
    header =
        let one = part_is 0 (omega arith) in
        let roomy = has.each 0 (room one.0) (omega arith) in
        subst KeepsRoomy (sym one.1) ((tell (room one.0)).roomy mount_layout.header_lines (subst (IsRoomy mount_layout.header_lines) (one.2 (room one.0)) roomy));
  }
    where
      part : L → Value
      part = part_value device history faults room

      enough : 1 + opened.sizes.entries ≤ length parts
      enough = omega (arith, has.count, length-map parts room)

      one_and : (n : ℕ) → 1 + n ≡ suc n
      one_and n = omega arith

      page_is : (page : ℕ) → page < page_total opened.sizes → (mount_of opened).values (PAGE page) ≡ buffer_value (get_or are.buffers page None)
      page_is page less = ap (λ (all : List Value). get_or all (1 + opened.sizes.entries + opened.sizes.files + page) Bare) shows ∙ page_held opened.sizes parts stores slots are enough many part store page less

      part_is : (i : ℕ) → i ≤ opened.sizes.entries → (one : L) × (get_or opened.slots i Bare ≡ part one) × ((none : Room) → get_or (map room parts) i none ≡ room one)
      part_is i least =
          let one = part_held opened.sizes parts stores slots are enough many part store room i least in
          (one.0, ap (λ (all : List Value). get_or all i Bare) shows ∙ one.1, one.2)
