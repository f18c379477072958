-- Closed: what comes out of the slots of a board that is closed are the devices that came in, in their order.
use Rattle.std.proofs.Common.{◌≡◌, ℕ, zero, suc, ◌+◌, ◌<◌, ◌≤◌, List, [], ◌∷◌, ◌++◌, length, get_or, map, take, drop, refl, sym, ap, ap₂, subst, ◌∙◌, arith, append_assoc, length-append}
use Rattle.std.proofs.lemmas.List.{length-map, length-take-le, take-append-le, take_all, take-map, drop-map, drop_at, map-append, get_or-take, get_or-append_right}
use Rattle.std.proofs.lemmas.Simd.{map-map}
use mathlib.Core.Option.{some, some-injective, some-ne-none}
use lib.ListN.{get_elem?}
use Rattle.nv_pmem.specs.Part.{Part as PartState}
use Rattle.nv_pmem.specs.Room.{Room}
use Rattle.nv_store.specs.Store.{Store as StoreState}
use Rattle.nv_core.specs.state.Words.{Sizes, Word, STORE}
use Rattle.nv_core.specs.state.Values.{Value, Bare, identity_of}
use Rattle.nv_core.specs.state.Core.{Core}
use Rattle.nv_core.specs.steps.Events.{Event, after_run}
use Rattle.nv_core.specs.steps.Opening.{opening}
use Rattle.nv_table.specs.declared.slot.Slot.{Slot}
use Rattle.nv_table.specs.passes.PassesMade.{PutsBack}
use Rattle.nv_table.specs.ends.Closing.{IsClosed}
use Rattle.nv_table.specs.state.SlotValues.{part_value, store_value, buffer_value, slot_value}
use Rattle.nv_table.specs.state.Layout.{slot_total, cell_of}
use Rattle.nv_table.specs.state.Opened.{Opened, mount_of, held_in, state_of}
use Rattle.nv_table.specs.ends.OpeningSlots.{in_slots, AreOpeningSlots, parts_in, stores_in}
use Rattle.nv_table.specs.state.Views.{PassView}
use Rattle.nv_table.specs.state.States.{BoardState, PassState, IsOf}
use Rattle.nv_table.specs.ends.CompleteRuns.{IsCompleteRun}
use Rattle.nv_table.proofs.passes.BetweenLaws.{puts_opened}
use Rattle.nv_table.proofs.state.LayoutLaws.{slot_there, cell_there}
use Rattle.nv_table.proofs.ends.MountLaws.{shown_slots, slots_counted}
use Rattle.nv_table.proofs.state.SortLaws.{sort_of, same_sort, same_device, measure_alike, AreSorted, sorted, first_devices, next_devices}
use Rattle.nv_table.proofs.ends.UnfillLaws.{parts_back, stores_back}

-- the number at a place
pub number_at : (ns : List ℕ) (i n : ℕ) → get_elem? ns i ≡ some n → get_or ns i 0 ≡ n
number_at [] i n at = absurd (some-ne-none n (sym at))
number_at (m ∷ ns) zero n at = some-injective m n at
number_at (m ∷ ns) (suc i) n at = number_at ns i n at

-- what is among sorted slots
pub sorted_parts : {L B : Type 0} (many_parts many_stores : ℕ) (slots : List (Slot L B)) (order : AreSorted many_parts many_stores slots) → parts_in slots ≡ order.parts
sorted_parts {L = L} {B = B} many_parts many_stores slots order = ap (λ (all : List (Slot L B)). parts_in all) order.are ∙ parts_back order.parts order.stores order.buffers

pub sorted_stores : {L B : Type 0} (many_parts many_stores : ℕ) (slots : List (Slot L B)) (order : AreSorted many_parts many_stores slots) → stores_in slots ≡ order.stores
sorted_stores {L = L} {B = B} many_parts many_stores slots order = ap (λ (all : List (Slot L B)). stores_in all) order.are ∙ stores_back order.parts order.stores order.buffers

module _ {L B : Type 0} (device : L → ℕ) (history : L → List PartState) (faults : L → ℕ) (room : L → Room)
    (store_device : B → ℕ) (store_history : B → List StoreState) (store_faults : B → ℕ)
    (opened : Opened) (first last : List (Slot L B)) (parts : List L) (stores : List B)
    (shows : opened.slots ≡ map (slot_value (part_value device history faults room) (store_value store_device store_history store_faults)) first)
    (are : AreOpeningSlots opened.sizes parts stores first) (enough : 1 + opened.sizes.entries ≤ length parts) (many_stores : length stores ≡ opened.sizes.files)
    (many : length last ≡ slot_total opened.sizes) (view : PassView) (mount_is : view.opened ≡ opened) (placed tail : ℕ)
    (whole : IsCompleteRun view (map (slot_value (part_value device history faults room) (store_value store_device store_history store_faults)) last) placed tail) where
  abbrev shown : Slot L B → Value
  shown = slot_value (part_value device history faults room) (store_value store_device store_history store_faults)

  -- the slots measure as they did at first, by what no event changes
  alike : (measure : Value → ℕ) → ((sizes : Sizes) (core : Core) (run : List Event) (cell : Word) → measure ((after_run sizes core run).values cell) ≡ measure (core.values cell))
      → map measure (map shown last) ≡ map measure (map shown first)
  alike measure stays =
      let a : length (map shown last) ≡ length last = length-map last shown in
      let b : length (map shown first) ≡ length first = length-map first shown in
      let c = slots_counted opened.sizes parts stores first are enough many_stores in
      let d : slot_total view.opened.sizes ≡ slot_total opened.sizes = ap (λ (o : Opened). slot_total o.sizes) mount_is in
      measure_alike measure (map shown last) (map shown first) (omega (arith, a, b, c, many)) (λ i less. here i (omega (arith, a, d, many, less)))
    where
      here : (i : ℕ) → i < slot_total view.opened.sizes → measure (get_or (map shown last) i Bare) ≡ measure (get_or (map shown first) i Bare)
      here i less =
          ap measure (whole.each i less)
          ∙ stays view.opened.sizes (opening (mount_of view.opened)) whole.run (cell_of view.opened.sizes i)
          ∙ ap (λ slot. measure (held_in view.opened.slots slot)) (slot_there view.opened.sizes i less).0
          ∙ ap (λ (o : Opened). measure (get_or o.slots i Bare)) mount_is
          ∙ ap (λ (all : List Value). measure (get_or all i Bare)) shows

  -- and so they are in their first order
  pub in_order : AreSorted (1 + opened.sizes.entries) opened.sizes.files last
  in_order =
      let order = sorted device history faults room store_device store_history store_faults (take (1 + opened.sizes.entries) parts) stores are.buffers last
      (alike sort_of same_sort ∙ ap (λ (all : List (Slot L B)). map sort_of (map shown all)) are.are) in
      record {
        parts = order.parts;
        stores = order.stores;
        buffers = order.buffers;
        are = order.are;
        parts_many = order.parts_many ∙ length-take-le (1 + opened.sizes.entries) parts enough;
        stores_many = order.stores_many ∙ many_stores;
      }

  -- of the first devices
  devices : map identity_of (map shown (in_slots in_order.parts in_order.stores in_order.buffers)) ≡ map identity_of opened.slots
  devices =
      ap (λ (all : List (Slot L B)). map identity_of (map shown all)) (sym in_order.are) ∙ alike identity_of same_device ∙ ap (map identity_of) (sym shows)

  part_devices : map device in_order.parts ≡ map identity_of (take (1 + opened.sizes.entries) opened.slots)
  part_devices =
      sym (first_devices device history faults room store_device store_history store_faults in_order.parts in_order.stores in_order.buffers)
      ∙ ap₂ take in_order.parts_many devices ∙ take-map identity_of (1 + opened.sizes.entries) opened.slots

  store_devices : map store_device in_order.stores ≡ map identity_of (take opened.sizes.files (drop (1 + opened.sizes.entries) opened.slots))
  store_devices =
      sym (next_devices device history faults room store_device store_history store_faults in_order.parts in_order.stores in_order.buffers)
      ∙ ap₂ take in_order.stores_many (ap₂ drop in_order.parts_many devices)
      ∙ ap (take opened.sizes.files) (drop-map identity_of (1 + opened.sizes.entries) opened.slots)
      ∙ take-map identity_of opened.sizes.files (drop (1 + opened.sizes.entries) opened.slots)

  -- What comes out of a board then.
  pub is_closed : (board : BoardState) (pass : PassState) (cells : List (Word × ℕ)) (spare : List L) (parts_out : List L) (stores_out : List B)
      → board.opened ≡ opened → pass.spare ≡ map (part_value device history faults room) spare → PutsBack cells pass.view view → parts_out ≡ parts_in last ++ spare → stores_out ≡ stores_in last
      → IsClosed device store_device shown board pass parts_out stores_out placed tail
  is_closed board pass cells spare parts_out stores_out opened_is spare_is back parts_are stores_are = record {
    cells = cells;
    last = view;
    back = back;
    many_parts =
        let a : length parts_out ≡ length (in_order.parts ++ spare) = ap length parts_here in
        let b = length-append in_order.parts spare in
        let c = in_order.parts_many in
        let d : 1 + board.opened.sizes.entries ≡ 1 + opened.sizes.entries = ap (λ (o : Opened). 1 + o.sizes.entries) opened_is in
        omega (arith, a, b, c, d);
    many_stores = ap length stores_here ∙ in_order.stores_many ∙ sym (ap (λ (o : Opened). o.sizes.files) opened_is);
    many_slots = ap (λ (o : Opened). length o.slots) opened_is ∙ ap (length {A = Value}) shows ∙ length-map first shown ∙ slots_counted opened.sizes parts stores first are enough many_stores
        ∙ sym (ap (λ (o : Opened). slot_total o.sizes) opened_is);
    buffers = in_order.buffers;
    whole = subst (λ (all : List (Slot L B)). IsCompleteRun view (map shown all) placed tail) (in_order.are ∙ ap₂ (λ ps ss. in_slots ps ss in_order.buffers) (sym first_parts) (sym stores_here)) whole;
    same_parts = ap (map device) parts_here ∙ map-append device in_order.parts spare
        ∙ ap₂ (λ ds more. ds ++ more) (part_devices ∙ sym (ap (λ (o : Opened). map identity_of (take (1 + o.sizes.entries) o.slots)) opened_is))
        (sym (ap (map identity_of) spare_is ∙ map-map identity_of (part_value device history faults room) spare));
    same_spare = ap (map (part_value device history faults room)) last_parts ∙ sym spare_is;
    same_stores = ap (map store_device) stores_here ∙ store_devices
        ∙ sym (ap (λ (o : Opened). map identity_of (take o.sizes.files (drop (1 + o.sizes.entries) o.slots))) opened_is);
  }
    where
      parts_here : parts_out ≡ in_order.parts ++ spare
      parts_here = parts_are ∙ ap (λ ps. ps ++ spare) (sorted_parts (1 + opened.sizes.entries) opened.sizes.files last in_order)

      stores_here : stores_out ≡ in_order.stores
      stores_here = stores_are ∙ sorted_stores (1 + opened.sizes.entries) opened.sizes.files last in_order

      first_parts : take (1 + board.opened.sizes.entries) parts_out ≡ in_order.parts
      first_parts =
          let c = in_order.parts_many in
          ap₂ (λ n ps. take n ps) (ap (λ (o : Opened). 1 + o.sizes.entries) opened_is ∙ sym c) parts_here
          ∙ take-append-le (length in_order.parts) in_order.parts spare (omega arith) ∙ take_all (length in_order.parts) in_order.parts (omega arith)

      last_parts : drop (1 + board.opened.sizes.entries) parts_out ≡ spare
      last_parts =
          ap₂ (λ n ps. drop n ps) (ap (λ (o : Opened). 1 + o.sizes.entries) opened_is) parts_here
          ∙ drop_at in_order.parts spare (1 + opened.sizes.entries) in_order.parts_many

-- ---- what the devices hold then

value_there : {X : Type 0} (value : X → Value) (xs : List X) (rest : List Value) (i : ℕ) (none : X) → i < length xs → get_or (map value xs ++ rest) i Bare ≡ value (get_or xs i none)
value_there value [] rest i none less = absurd (omega arith)
value_there value (x ∷ xs) rest zero none less = refl
value_there value (x ∷ xs) rest (suc i) none less = value_there value xs rest i none (omega arith)

module _ {L B : Type 0} (part : L → Value) (store : B → Value) (part_device : L → ℕ) (store_device : B → ℕ) (board : BoardState) (pass : PassState) (parts : List L) (stores : List B)
    (placed tail : ℕ) (of_board : IsOf board pass) (closed : IsClosed part_device store_device (slot_value part store) board pass parts stores placed tail) where
  abbrev first_parts : List L
  first_parts = take (1 + board.opened.sizes.entries) parts

  -- what a slot held is what its cell keeps in the state that the whole run leads to
  slot_kept : (slot : ℕ) → slot < slot_total board.opened.sizes → get_or (map part first_parts ++ (map store stores ++ map buffer_value closed.buffers)) slot Bare
      ≡ (state_of board.opened closed.whole.run).values (cell_of board.opened.sizes slot)
  slot_kept slot less =
      let same : closed.last.opened ≡ board.opened = puts_opened closed.cells pass.view closed.last closed.back ∙ of_board.same_mount in
      sym (ap (λ (all : List Value). get_or all slot Bare) (shown_slots part store first_parts stores closed.buffers ∙ append_assoc (map part first_parts) (map store stores) (map buffer_value closed.buffers)))
      ∙ closed.whole.each slot (subst (λ (o : Opened). slot < slot_total o.sizes) (sym same) less)
      ∙ ap (λ (o : Opened). (state_of o closed.whole.run).values (cell_of o.sizes slot)) same

  -- The header's part is part 0, and part 1 + i that of entry i.
  pub part_kept : (i : ℕ) (none : L) → i ≤ board.opened.sizes.entries → part (get_or parts i none) ≡ (state_of board.opened closed.whole.run).values (cell_of board.opened.sizes i)
  part_kept i none least =
      let long = length-take-le (1 + board.opened.sizes.entries) parts closed.many_parts in
      ap part (sym (get_or-take (1 + board.opened.sizes.entries) parts i none (omega arith)))
      ∙ sym (value_there part first_parts (map store stores ++ map buffer_value closed.buffers) i none (omega (arith, long)))
      ∙ slot_kept i (omega arith)

  pub store_kept : (file : ℕ) (none : B) → file < board.opened.sizes.files → store (get_or stores file none) ≡ (state_of board.opened closed.whole.run).values (STORE file)
  store_kept file none less =
      let slot = 1 + board.opened.sizes.entries + file in
      let at = cell_there board.opened.sizes (STORE file) slot less refl in
      let front : length (map part first_parts) ≡ 1 + board.opened.sizes.entries = length-map first_parts part ∙ length-take-le (1 + board.opened.sizes.entries) parts closed.many_parts in
      sym (value_there store stores (map buffer_value closed.buffers) file none (omega (arith, closed.many_stores)))
      ∙ ap (λ n. get_or (map store stores ++ map buffer_value closed.buffers) n Bare) (omega arith)
      ∙ sym (get_or-append_right (map part first_parts) (map store stores ++ map buffer_value closed.buffers) (1 + board.opened.sizes.entries) slot Bare front (omega arith))
      ∙ slot_kept slot at.0 ∙ ap (state_of board.opened closed.whole.run).values at.1
