-- Sorts: what a cell keeps stays of its sort, and of its device, through every run; so the slots hold parts, stores and buffers in their first order.
use Rattle.std.proofs.Common.{◌≡◌, ℕ, suc, ◌<◌, List, [], ◌∷◌, length, get_or, map, take, drop, Option, refl, ap, ap₂, ◌∙◌, arith}
use Rattle.std.specs.Prelude.{Some, None}
use Rattle.nv_pmem.specs.Part.{Part as PartState}
use Rattle.nv_pmem.specs.Room.{Room}
use Rattle.nv_store.specs.Store.{Store as StoreState}
use Rattle.nv_core.specs.state.Words.{Sizes, Word, PAGE}
use Rattle.nv_core.specs.state.Values.{Value, Bare, APart, AStore, ABuffer, Job, CallEnding, called, identity_of, emptied, received, filled, patched}
use Rattle.nv_core.specs.state.Passes.{Control, GiveVictim, Searching, Pass}
use Rattle.nv_core.specs.steps.Ops.{Op}
use Rattle.nv_core.specs.steps.Order.{Values, Work}
use Rattle.nv_core.specs.state.Core.{Core, with_value, values_worked, values_robbed, values_stepped, after_begin}
use Rattle.nv_core.specs.steps.Events.{Act, BeginsCall, TakesStep, CallsDevice, Event, after_act, after_event, after_run}
use Rattle.nv_core.proofs.state.Changes.{by_word}
use Rattle.nv_core.proofs.state.ValueLaws.{Steady, identity_steady, identity_robbed, identity_worked, steady_stepped, steady_worked}
use Rattle.nv_table.specs.declared.slot.Slot.{Slot}
use Rattle.nv_table.specs.declared.slot.Slot.TheVariants.{Away, Part, Store, Page}
use Rattle.nv_table.specs.declared.slot.PageBuffer.{PageBuffer}
use Rattle.nv_table.specs.state.SlotValues.{part_value, store_value, buffer_value, slot_value}
use Rattle.nv_table.specs.ends.OpeningSlots.{in_slots}

-- ---- of which sort a value is

abbrev pub sort_of : Value → ℕ
sort_of Bare = 0
sort_of (APart device spares) = 1
sort_of (AStore device) = 2
sort_of (ABuffer buffer) = 3

sort_filled : (bytes : List ℕ) (value : Value) → sort_of (filled bytes value) ≡ sort_of value
sort_filled bytes (ABuffer (Some buffer)) = refl
sort_filled bytes value = refl

sort_patched : (at : ℕ) (bytes : List ℕ) (value : Value) → sort_of (patched at bytes value) ≡ sort_of value
sort_patched at bytes (ABuffer (Some buffer)) = refl
sort_patched at bytes value = refl

sort_emptied : (value : Value) → sort_of (emptied value) ≡ sort_of value
sort_emptied (ABuffer buffer) = refl
sort_emptied value = refl

sort_received : (other value : Value) → sort_of (received other value) ≡ sort_of value
sort_received (ABuffer (Some buffer)) (ABuffer None) = refl
sort_received other value = refl

sort_called : (job : Job) (how : CallEnding) (value : Value) → sort_of (called job how value) ≡ sort_of value
sort_called job how Bare = refl
sort_called job how (APart device spares) = refl
sort_called job how (AStore device) = refl
sort_called job how (ABuffer buffer) = refl

sort_steady : Steady sort_of
sort_steady = record { filled_is = sort_filled; patched_is = sort_patched }

sort_robbed : (pages : List ℕ) (control : Control) (values : Values) (cell : Word) → sort_of (values_robbed pages control values cell) ≡ sort_of (values cell)
sort_robbed pages (Searching page tries (GiveVictim buffer victim)) values =
    by_word (λ other v. sort_of v ≡ sort_of (values other)) (with_value values (PAGE page) (received (values (PAGE victim)) (values (PAGE page)))) (PAGE victim) (emptied (values (PAGE victim)))
    (sort_emptied (values (PAGE victim)))
    (λ other ne. by_word (λ other v. sort_of v ≡ sort_of (values other)) values (PAGE page) (received (values (PAGE victim)) (values (PAGE page)))
    (sort_received (values (PAGE victim)) (values (PAGE page))) (λ other ne. refl) other)
sort_robbed pages control values = λ cell. refl

sort_worked : (pass : Pass) (work : Work) (values : Values) (cell : Word) → sort_of (values_worked pass work values cell) ≡ sort_of (values cell)
sort_worked pass work values cell =
    steady_worked sort_of sort_steady pass work values cell
    ∙ by_word (λ other v. sort_of v ≡ sort_of (values other)) values work.cell (called work.job work.ending (values work.cell)) (sort_called work.job work.ending (values work.cell)) (λ other ne. refl) cell

-- ---- through a run

-- a measure of values that no event changes
record Stays (measure : Value → ℕ) : Type 0 where
  stepped : (sizes : Sizes) (pass : Pass) (op : Op) (values : Values) (cell : Word) → measure (values_stepped sizes pass op values cell) ≡ measure (values cell)
  worked : (pass : Pass) (work : Work) (values : Values) (cell : Word) → measure (values_worked pass work values cell) ≡ measure (values cell)

module _ (measure : Value → ℕ) (stays : Stays measure) where
  stays_act : (sizes : Sizes) (by : ℕ) (act : Act) (core : Core) (cell : Word) → measure ((after_act sizes by act core).values cell) ≡ measure (core.values cell)
  stays_act sizes by (BeginsCall call op found) core cell = stays.stepped sizes ((after_begin sizes by call core).passes by) op core.values cell
  stays_act sizes by (TakesStep op found) core cell = stays.stepped sizes (core.passes by) op core.values cell
  stays_act sizes by (CallsDevice work) core cell = stays.worked (core.passes by) work core.values cell

  stays_run : (sizes : Sizes) (core : Core) (run : List Event) (cell : Word) → measure ((after_run sizes core run).values cell) ≡ measure (core.values cell)
  stays_run sizes core [] cell = refl
  stays_run sizes core (event ∷ later) cell = stays_run sizes (after_event sizes event core) later cell ∙ stays_act sizes event.by event.act core cell

-- No event changes of which sort a value is, nor of which device.
pub same_sort : (sizes : Sizes) (core : Core) (run : List Event) (cell : Word) → sort_of ((after_run sizes core run).values cell) ≡ sort_of (core.values cell)
same_sort = stays_run sort_of record { stepped = steady_stepped sort_of sort_steady sort_robbed; worked = sort_worked }

pub same_device : (sizes : Sizes) (core : Core) (run : List Event) (cell : Word) → identity_of ((after_run sizes core run).values cell) ≡ identity_of (core.values cell)
same_device = stays_run identity_of record { stepped = steady_stepped identity_of identity_steady identity_robbed; worked = identity_worked }

-- ---- the order of slots

-- two lists whose values measure the same
pub measure_alike : (measure : Value → ℕ) (one other : List Value) → length one ≡ length other → ((i : ℕ) → i < length one → measure (get_or one i Bare) ≡ measure (get_or other i Bare))
    → map measure one ≡ map measure other
measure_alike measure [] [] many each = refl
measure_alike measure [] (second ∷ rest) many each = absurd (omega arith)
measure_alike measure (first ∷ others) [] many each = absurd (omega arith)
measure_alike measure (first ∷ others) (second ∷ rest) many each =
    ap₂ (λ n ns. n ∷ ns) (each 0 (omega arith)) (measure_alike measure others rest (omega arith) (λ i less. each (suc i) (omega arith)))

-- the first of some numbers
abbrev first_of : List ℕ → ℕ
first_of [] = 4
first_of (n ∷ ns) = n

sort_of_buffer : (buffer : Option PageBuffer) → sort_of (buffer_value buffer) ≡ 3
sort_of_buffer None = refl
sort_of_buffer (Some buffer) = refl

none : {X : Type 0} (xs : List X) → length xs ≡ 0 → xs ≡ []
none [] many = refl
none (x ∷ xs) many = absurd (omega arith)

-- Slots that are parts, then stores, then buffers.
pub record AreSorted {L B : Type 0} (many_parts many_stores : ℕ) (slots : List (Slot L B)) : Type 0 where
  pub parts : List L
  pub stores : List B
  pub buffers : List (Option PageBuffer)
  pub are : slots ≡ in_slots parts stores buffers
  pub parts_many : length parts ≡ many_parts
  pub stores_many : length stores ≡ many_stores

module _ {L B : Type 0} (device : L → ℕ) (history : L → List PartState) (faults : L → ℕ) (room : L → Room)
    (store_device : B → ℕ) (store_history : B → List StoreState) (store_faults : B → ℕ) where
  abbrev shows : Slot L B → Value
  shows = slot_value (part_value device history faults room) (store_value store_device store_history store_faults)

  -- slots whose values are of the sorts of parts, stores and buffers are sorted
  pub sorted : (parts : List L) (stores : List B) (buffers : List (Option PageBuffer)) (slots : List (Slot L B)) → map sort_of (map shows slots) ≡ map sort_of (map shows (in_slots parts stores buffers))
      → AreSorted (length parts) (length stores) slots
  sorted (part ∷ parts) stores buffers (Part one ∷ slots) alike =
      let others = sorted parts stores buffers slots (ap (drop 1) alike) in
      record {
        parts = one ∷ others.parts;
        stores = others.stores;
        buffers = others.buffers;
        are = ap (λ all. Part one ∷ all) others.are;
        parts_many = ap suc others.parts_many;
        stores_many = others.stores_many;
      }
  sorted (part ∷ parts) stores buffers [] alike = absurd (let e = ap first_of alike in omega arith)
  sorted (part ∷ parts) stores buffers (Away ∷ slots) alike = absurd (let e = ap first_of alike in omega arith)
  sorted (part ∷ parts) stores buffers (Store one ∷ slots) alike = absurd (let e = ap first_of alike in omega arith)
  sorted (part ∷ parts) stores buffers (Page one ∷ slots) alike = absurd (let k = sort_of_buffer one in let e = ap first_of alike in omega arith)
  sorted [] (store ∷ stores) buffers (Store one ∷ slots) alike =
      let others = sorted [] stores buffers slots (ap (drop 1) alike) in
      record {
        parts = [];
        stores = one ∷ others.stores;
        buffers = others.buffers;
        are = ap (λ all. Store one ∷ all) (others.are ∙ ap (λ ps. in_slots ps others.stores others.buffers) (none others.parts others.parts_many));
        parts_many = refl;
        stores_many = ap suc others.stores_many;
      }
  sorted [] (store ∷ stores) buffers [] alike = absurd (let e = ap first_of alike in omega arith)
  sorted [] (store ∷ stores) buffers (Away ∷ slots) alike = absurd (let e = ap first_of alike in omega arith)
  sorted [] (store ∷ stores) buffers (Part one ∷ slots) alike = absurd (let e = ap first_of alike in omega arith)
  sorted [] (store ∷ stores) buffers (Page one ∷ slots) alike = absurd (let k = sort_of_buffer one in let e = ap first_of alike in omega arith)
  sorted [] [] (buffer ∷ buffers) (Page one ∷ slots) alike =
      let others = sorted [] [] buffers slots (ap (drop 1) alike) in
      record {
        parts = [];
        stores = [];
        buffers = one ∷ others.buffers;
        are = ap (λ all. Page one ∷ all) (others.are ∙ ap₂ (λ ps ss. in_slots ps ss others.buffers) (none others.parts others.parts_many) (none others.stores others.stores_many));
        parts_many = refl;
        stores_many = refl;
      }
  sorted [] [] (buffer ∷ buffers) [] alike = absurd (let k = sort_of_buffer buffer in let e = ap first_of alike in omega arith)
  sorted [] [] (buffer ∷ buffers) (Away ∷ slots) alike = absurd (let k = sort_of_buffer buffer in let e = ap first_of alike in omega arith)
  sorted [] [] (buffer ∷ buffers) (Part one ∷ slots) alike = absurd (let k = sort_of_buffer buffer in let e = ap first_of alike in omega arith)
  sorted [] [] (buffer ∷ buffers) (Store one ∷ slots) alike = absurd (let k = sort_of_buffer buffer in let e = ap first_of alike in omega arith)
  sorted [] [] [] (slot ∷ slots) alike = absurd (let many = ap length alike in omega arith)
  sorted [] [] [] [] alike = record { parts = []; stores = []; buffers = []; are = refl; parts_many = refl; stores_many = refl }

  -- the devices of slots in that order: first those of the parts, and next those of the stores
  pub first_devices : (parts : List L) (stores : List B) (buffers : List (Option PageBuffer)) → take (length parts) (map identity_of (map shows (in_slots parts stores buffers))) ≡ map device parts
  first_devices [] stores buffers = refl
  first_devices (part ∷ parts) stores buffers = ap (λ ds. device part ∷ ds) (first_devices parts stores buffers)

  pub next_devices : (parts : List L) (stores : List B) (buffers : List (Option PageBuffer))
      → take (length stores) (drop (length parts) (map identity_of (map shows (in_slots parts stores buffers)))) ≡ map store_device stores
  next_devices [] [] buffers = refl
  next_devices [] (store ∷ stores) buffers = ap (λ ds. store_device store ∷ ds) (next_devices [] stores buffers)
  next_devices (part ∷ parts) stores buffers = next_devices parts stores buffers
