-- Laid cells: the parts of a write's entries come out of their slots and go back into them.
use Rattle.std.proofs.Common.{◌≡◌, ◌≢◌, ◌⊎◌, ℕ, zero, suc, ◌+◌, ◌<◌, nat_lt, if◌then◌else◌, List, [], ◌∷◌, ◌++◌, length, map, append_assoc, inl, inr, refl, sym, ap, ap₂, subst, ◌∙◌, arith}
use Rattle.std.proofs.lemmas.Bool.{cases_eq, cases_Bool, cases_lt, lt-ltb, le-ltb}
use Rattle.std.proofs.lemmas.List.{map-append, length-map}
use Rattle.std.proofs.lemmas.Nat.{mod_below}
use Rattle.nv_core.specs.state.Words.{Sizes, Word, ENTRY, same, slot_of_entry}
use Rattle.nv_core.specs.state.Values.{Value, Bare}
use Rattle.nv_core.specs.state.Core.{with_value}
use Rattle.nv_core.specs.state.Passes.{IsOneOf, times}
use Rattle.nv_core.specs.steps.Order.{Values}
use Rattle.nv_core.specs.invariant.Rooms.{KeepsReady}
use Rattle.nv_core.proofs.state.Changes.{word_here, word_else, same_true, differ}
use Rattle.nv_table.specs.steps.Exchanges.{Exchanges}
use Rattle.nv_table.specs.state.Layout.{slot_total, cell_of}
use Rattle.nv_table.specs.state.Views.{PassView, pass_of, values_of, still_owned, OwnsSlots, slot_times}
use Rattle.nv_table.specs.state.States.{PassState}
use Rattle.nv_table.proofs.steps.OwnedSlotLaws.{owns_slots_kept}
use Rattle.nv_table.proofs.state.LayoutLaws.{cell_there}
use Rattle.nv_pages.specs.CommitCalls.{entry_cell}
use Rattle.nv_pages.specs.Commits.{laid_parts, in_row, HasEntries, HasLaid}
use Rattle.nv_pages.specs.PageWork.{entry_slot}
use Rattle.nv_pages.proofs.AlterLaws.{altered_one, was_kept}
use Rattle.nv_pages.proofs.CommitLaws.{cells_differ}

-- ---- what laid cells keep

module _ (cells : ℕ → Word) (values : ℕ → Value) (kept : Values) where
  pub laid_else : (count : ℕ) (cell : Word) → ((i : ℕ) → i < count → cell ≢ cells i) → laid_parts cells count values kept cell ≡ kept cell
  laid_else zero cell none = refl
  laid_else (suc before) cell none =
      word_else (laid_parts cells before values kept) (cells before) (values before) cell (none before (omega arith))
      ∙ laid_else before cell (λ i less. none i (omega (arith, less)))

  pub laid_here : (count i : ℕ) → i < count → ((j : ℕ) → j < count → j ≢ i → cells i ≢ cells j) → laid_parts cells count values kept (cells i) ≡ values i
  laid_here zero i less apart = absurd (omega (arith, less))
  laid_here (suc before) i less apart = elim (cases_eq i before) [
    | inl same ↦ subst (λ n. laid_parts cells (suc before) values kept (cells n) ≡ values n) (sym same) (word_here (laid_parts cells before values kept) (cells before) (values before))
    | inr other ↦
        word_else (laid_parts cells before values kept) (cells before) (values before) (cells i) (apart before (omega arith) (λ same. other (sym same)))
        ∙ laid_here before i (omega (arith, less, other)) (λ j low. apart j (omega (arith, low)))
  ]

-- the same values leave the same
pub laid_same : (cells : ℕ → Word) (count : ℕ) (values other : ℕ → Value) (kept : Values) → ((i : ℕ) → i < count → values i ≡ other i) → (cell : Word) → laid_parts cells count values kept cell ≡ laid_parts cells count other kept cell
laid_same cells zero values other kept is cell = refl
laid_same cells (suc before) values other kept is cell =
    ap₂ (λ (value : Value) (rest : Value). if same cell (cells before) then value else rest) (is before (omega arith)) (laid_same cells before values other kept (λ i low. is i (omega (arith, low))) cell)

-- a cell is one of so many, or none of them
pub found_or_none : (cells : ℕ → Word) (count : ℕ) (cell : Word) → ((i : ℕ) × (i < count) × (cell ≡ cells i)) ⊎ ((i : ℕ) → i < count → cell ≢ cells i)
found_or_none cells zero cell = inr (λ i less. absurd (omega (arith, less)))
found_or_none cells (suc before) cell = elim (cases_Bool (same cell (cells before))) [
  | inl is ↦ inl (before, omega arith, same_true cell (cells before) is)
  | inr not_last ↦ elim (found_or_none cells before cell) [
    | inl found ↦ inl (found.0, (let low = found.1 in omega (arith, low)), found.2)
    | inr none ↦ inr (λ i less. elim (cases_eq i before) [
      | inl last ↦ subst (λ n. cell ≢ cells n) (sym last) (differ cell (cells before) not_last)
      | inr other ↦ none i (omega (arith, less, other))
    ])
  ]
]

-- what is so of each of so many cells, and of all others
pub of_cells : (cells : ℕ → Word) (count : ℕ) (P : Word → Type 0) → ((i : ℕ) → i < count → P (cells i)) → ((cell : Word) → ((i : ℕ) → i < count → cell ≢ cells i) → P cell) → (cell : Word) → P cell
of_cells cells count P each else_ cell = elim (found_or_none cells count cell) [
  | inl found ↦ subst P (sym found.2) (each found.0 found.1)
  | inr none ↦ else_ cell none
]

-- one of them keeps something else
module _ (cells : ℕ → Word) (count m : ℕ) (values other : ℕ → Value) (kept : Values) (apart : (i j : ℕ) → i < count → j < count → i ≢ j → cells i ≢ cells j) (less : m < count)
    (same : (i : ℕ) → i < count → i ≢ m → other i ≡ values i) where
  laid_at : (i : ℕ) → i < count → (other_values : ℕ → Value) → laid_parts cells count other_values kept (cells i) ≡ other_values i
  laid_at i low other_values = laid_here cells other_values kept count i low (λ j high ne. apart i j low high (λ e. ne (sym e)))

  relaid_at : (i : ℕ) → i < count → laid_parts cells count other kept (cells i) ≡ with_value (laid_parts cells count values kept) (cells m) (other m) (cells i)
  relaid_at i low = elim (cases_eq i m) [
    | inl is ↦
        laid_at i low other ∙ ap other is
        ∙ sym (subst (λ n. with_value (laid_parts cells count values kept) (cells m) (other m) (cells n) ≡ other m) (sym is) (word_here (laid_parts cells count values kept) (cells m) (other m)))
    | inr ne ↦ laid_at i low other ∙ same i low ne ∙ sym (laid_at i low values) ∙ sym (word_else (laid_parts cells count values kept) (cells m) (other m) (cells i) (apart i m low less ne))
  ]

  relaid_else : (cell : Word) → ((i : ℕ) → i < count → cell ≢ cells i) → laid_parts cells count other kept cell ≡ with_value (laid_parts cells count values kept) (cells m) (other m) cell
  relaid_else cell none =
      laid_else cells other kept count cell none ∙ sym (laid_else cells values kept count cell none)
      ∙ sym (word_else (laid_parts cells count values kept) (cells m) (other m) cell (none m less))

  pub relaid : (cell : Word) → laid_parts cells count other kept cell ≡ with_value (laid_parts cells count values kept) (cells m) (other m) cell
  relaid = of_cells cells count (λ cell. laid_parts cells count other kept cell ≡ with_value (laid_parts cells count values kept) (cells m) (other m) cell) relaid_at relaid_else

-- ---- rows

pub in_row_push : (row : List Value) (one : Value) (i : ℕ) → i < length row → in_row (row ++ one ∷ []) i ≡ in_row row i
in_row_push [] one i less = absurd (omega (arith, less))
in_row_push (first ∷ rest) one zero less = refl
in_row_push (first ∷ rest) one (suc i) less = in_row_push rest one i (omega (arith, less))

pub in_row_last : (row : List Value) (one : Value) → in_row (row ++ one ∷ []) (length row) ≡ one
in_row_last [] one = refl
in_row_last (first ∷ rest) one = in_row_last rest one

-- of a row with one more at its end
pub row_more : {X : Type 0} (shown : X → Value) (items next : List X) (one : X) (kept : ℕ → Value) (count : ℕ) → next ≡ items ++ one ∷ [] → length items ≡ count
    → ((i : ℕ) → i < count → in_row (map shown items) i ≡ kept i) → shown one ≡ kept count → (i : ℕ) → i < count + 1 → in_row (map shown next) i ≡ kept i
row_more shown items next one kept count are long each last i less =
    ap (λ row. in_row row i) (ap (map shown) are ∙ map-append shown items (one ∷ [])) ∙ by (cases_eq i count)
  where
    many : length (map shown items) ≡ count
    many = length-map items shown ∙ long

    by : (i ≡ count) ⊎ (i ≢ count) → in_row (map shown items ++ shown one ∷ []) i ≡ kept i
    by (inl same) = ap (in_row (map shown items ++ shown one ∷ [])) (same ∙ sym many) ∙ in_row_last (map shown items) (shown one) ∙ last ∙ ap kept (sym same)
    by (inr other) = in_row_push (map shown items) (shown one) i (omega (arith, less, other, many)) ∙ each i (omega (arith, less, other))

-- ---- the cells of entries

module _ (sizes : Sizes) (some : 0 < sizes.entries) (number : ℕ) where
  there : (entry_slot sizes number < slot_total sizes) × (cell_of sizes (entry_slot sizes number) ≡ ENTRY (slot_of_entry sizes number))
  there = cell_there sizes (ENTRY (slot_of_entry sizes number)) (entry_slot sizes number) (mod_below number sizes.entries some) refl

  pub slot_low : entry_slot sizes number < slot_total sizes
  slot_low = there.0

  pub slot_cell : cell_of sizes (entry_slot sizes number) ≡ ENTRY (slot_of_entry sizes number)
  slot_cell = there.1

-- ---- one more

module _ (first count : ℕ) (values : ℕ → Value) (old mid new : PassState) (slot : ℕ) (out into : Value) (laid_so : HasLaid first count values old mid)
    (at : cell_of old.view.opened.sizes slot ≡ entry_cell old.view.opened.sizes first count) (moved : Exchanges slot out into mid new) where
  at_mid : cell_of mid.view.opened.sizes slot ≡ entry_cell old.view.opened.sizes first count
  at_mid = ap (λ (s : PassView). cell_of s.opened.sizes slot) laid_so.view ∙ at

  cells_mid : OwnsSlots mid.view.opened.sizes (λ value. value) (laid_parts (entry_cell old.view.opened.sizes first) count values (values_of old.view)) (still_owned (pass_of old.view)) mid.now
  cells_mid = subst (λ (s : PassView). OwnsSlots s.opened.sizes (λ value. value) (laid_parts (entry_cell old.view.opened.sizes first) count values (values_of old.view)) (still_owned (pass_of old.view)) mid.now) (sym laid_so.view) laid_so.owns_slots

  pub out_was : out ≡ laid_parts (entry_cell old.view.opened.sizes first) count values (values_of old.view) (entry_cell old.view.opened.sizes first count)
  out_was = was_kept mid new slot (entry_cell old.view.opened.sizes first count) out into at_mid moved _ _ cells_mid

  pub laid_more : into ≡ values count → HasLaid first (count + 1) values old new
  laid_more is = subst (λ n. HasLaid first n values old new) one record {
    table = moved.table ∙ laid_so.table;
    view = moved.view ∙ laid_so.view;
    spare = moved.spare ∙ laid_so.spare;
    owns_slots = subst (λ value. OwnsSlots old.view.opened.sizes (λ value. value) (with_value before (entry_cell old.view.opened.sizes first count) value) (still_owned (pass_of old.view)) new.now) is next;
  }
    where
      one : suc count ≡ count + 1
      one = omega arith

      before : Values
      before = laid_parts (entry_cell old.view.opened.sizes first) count values (values_of old.view)

      next : OwnsSlots old.view.opened.sizes (λ value. value) (with_value before (entry_cell old.view.opened.sizes first count) into) (still_owned (pass_of old.view)) new.now
      next = subst (λ (s : PassView). OwnsSlots s.opened.sizes (λ value. value) (with_value before (entry_cell old.view.opened.sizes first count) into) (still_owned (pass_of old.view)) new.now) laid_so.view
          ((altered_one mid new slot (entry_cell old.view.opened.sizes first count) out into at_mid moved).owns_slots before (still_owned (pass_of old.view)) cells_mid)

-- ---- an entry that is taken out

module _ (pass now : PassState) (first count i : ℕ) (has : HasEntries pass.view first count) (less : i < count) (laid_so : HasLaid first i (λ i. Bare) pass now) where
  some : 0 < pass.view.opened.sizes.entries
  some = let few = has.few in omega (arith, few, less)

  -- its slot is there, and keeps what its cell kept
  pub entry_still_owned : slot_times (entry_slot pass.view.opened.sizes (first + i)) now.now ≡ 1
  entry_still_owned =
      laid_so.owns_slots.each (entry_slot pass.view.opened.sizes (first + i)) (slot_low pass.view.opened.sizes some (first + i))
      ∙ ap (λ cell. times cell (still_owned (pass_of pass.view))) (slot_cell pass.view.opened.sizes some (first + i)) ∙ has.here i less

  still_kept : laid_parts (entry_cell pass.view.opened.sizes first) i (λ i. Bare) (values_of pass.view) (entry_cell pass.view.opened.sizes first i) ≡ values_of pass.view (entry_cell pass.view.opened.sizes first i)
  still_kept =
      laid_else (entry_cell pass.view.opened.sizes first) (λ i. Bare) (values_of pass.view) i (entry_cell pass.view.opened.sizes first i)
      (λ j low. cells_differ pass.view.opened.sizes first i j count less (omega (arith, low, less)) has.few (λ same. omega (arith, same, low)))

  pub entry_ready : (value : Value) → IsOneOf now.now (entry_slot pass.view.opened.sizes (first + i), value) → KeepsReady pass.view.opened.sizes value
  entry_ready value one =
      subst (KeepsReady pass.view.opened.sizes)
      (sym (laid_so.owns_slots.shows (entry_slot pass.view.opened.sizes (first + i)) value one
      ∙ ap (laid_parts (entry_cell pass.view.opened.sizes first) i (λ i. Bare) (values_of pass.view)) (slot_cell pass.view.opened.sizes some (first + i)) ∙ still_kept))
      (has.ready i less)

  module _ (next : PassState) (out : Value) (moved : Exchanges (entry_slot pass.view.opened.sizes (first + i)) out Bare now next) where
    pub entry_out : out ≡ values_of pass.view (entry_cell pass.view.opened.sizes first i)
    entry_out =
        out_was first i (λ i. Bare) pass now next (entry_slot pass.view.opened.sizes (first + i)) out Bare laid_so (slot_cell pass.view.opened.sizes some (first + i)) moved ∙ still_kept

    pub one_out : HasLaid first (i + 1) (λ i. Bare) pass next
    one_out = laid_more first i (λ i. Bare) pass now next (entry_slot pass.view.opened.sizes (first + i)) out Bare laid_so (slot_cell pass.view.opened.sizes some (first + i)) moved refl

-- ---- parts that go back

-- what the cells of entries keep where those of the first so many are still out of their slots, and the others of a row are back
abbrev pub lying : (row : List Value) (left : ℕ) → ℕ → Value
lying row left i = if nat_lt i left then Bare else in_row row i

-- the last one that is out goes back
module _ (old now next : PassState) (first count left : ℕ) (row : List Value) (out into : Value) (has : HasEntries old.view first count) (less : left < count) (laid_so : HasLaid first count (lying row (left + 1)) old now) where
  some_entry : 0 < old.view.opened.sizes.entries
  some_entry = let few = has.few in omega (arith, few, less)

  apart : (i j : ℕ) → i < count → j < count → i ≢ j → entry_cell old.view.opened.sizes first i ≢ entry_cell old.view.opened.sizes first j
  apart i j low high ne = cells_differ old.view.opened.sizes first i j count low high has.few ne

  pub slot_still_owned : slot_times (entry_slot old.view.opened.sizes (first + left)) now.now ≡ 1
  slot_still_owned =
      laid_so.owns_slots.each (entry_slot old.view.opened.sizes (first + left)) (slot_low old.view.opened.sizes some_entry (first + left))
      ∙ ap (λ cell. times cell (still_owned (pass_of old.view))) (slot_cell old.view.opened.sizes some_entry (first + left)) ∙ has.here left less

  pub slot_bare : (value : Value) → IsOneOf now.now (entry_slot old.view.opened.sizes (first + left), value) → value ≡ Bare
  slot_bare value one =
      laid_so.owns_slots.shows (entry_slot old.view.opened.sizes (first + left)) value one
      ∙ ap (laid_parts (entry_cell old.view.opened.sizes first) count (lying row (left + 1)) (values_of old.view)) (slot_cell old.view.opened.sizes some_entry (first + left))
      ∙ laid_here (entry_cell old.view.opened.sizes first) (lying row (left + 1)) (values_of old.view) count left less (λ j high ne. apart left j less high (λ e. ne (sym e)))
      ∙ ap (λ b. if b then Bare else in_row row left) (lt-ltb left (left + 1) (omega arith))

  module _ (moved : Exchanges (entry_slot old.view.opened.sizes (first + left)) Bare into now next) (is : into ≡ in_row row left) where
    abbrev before : Values
    before = laid_parts (entry_cell old.view.opened.sizes first) count (lying row (left + 1)) (values_of old.view)

    at_now : cell_of now.view.opened.sizes (entry_slot old.view.opened.sizes (first + left)) ≡ entry_cell old.view.opened.sizes first left
    at_now = ap (λ (s : PassView). cell_of s.opened.sizes (entry_slot old.view.opened.sizes (first + left))) laid_so.view ∙ slot_cell old.view.opened.sizes some_entry (first + left)

    placed : OwnsSlots old.view.opened.sizes (λ value. value) (with_value before (entry_cell old.view.opened.sizes first left) into) (still_owned (pass_of old.view)) next.now
    placed = subst (λ (s : PassView). OwnsSlots s.opened.sizes (λ value. value) (with_value before (entry_cell old.view.opened.sizes first left) into) (still_owned (pass_of old.view)) next.now) laid_so.view
        ((altered_one now next (entry_slot old.view.opened.sizes (first + left)) (entry_cell old.view.opened.sizes first left) Bare into at_now moved).owns_slots before (still_owned (pass_of old.view))
        (subst (λ (s : PassView). OwnsSlots s.opened.sizes (λ value. value) before (still_owned (pass_of old.view)) now.now) (sym laid_so.view) laid_so.owns_slots))

    into_is : into ≡ lying row left left
    into_is = is ∙ sym (ap (λ b. if b then Bare else in_row row left) (le-ltb left left (omega arith)))

    others_same : (i : ℕ) → i < count → i ≢ left → lying row left i ≡ lying row (left + 1) i
    others_same i low ne = elim (cases_lt i left) [
      | inl below ↦ ap (λ b. if b then Bare else in_row row i) (lt-ltb i left below ∙ sym (lt-ltb i (left + 1) (omega (arith, below))))
      | inr above ↦ ap (λ b. if b then Bare else in_row row i) (le-ltb i left above ∙ sym (le-ltb i (left + 1) (omega (arith, above, ne))))
    ]

    pub one_back : HasLaid first count (lying row left) old next
    one_back = record {
      table = moved.table ∙ laid_so.table;
      view = moved.view ∙ laid_so.view;
      spare = moved.spare ∙ laid_so.spare;
      owns_slots = owns_slots_kept old.view.opened.sizes (λ value. value) (with_value before (entry_cell old.view.opened.sizes first left) into)
          (laid_parts (entry_cell old.view.opened.sizes first) count (lying row left) (values_of old.view)) (still_owned (pass_of old.view)) next.now
          (λ cell some. relaid (entry_cell old.view.opened.sizes first) count left (lying row (left + 1)) (lying row left) (values_of old.view) apart less others_same cell
          ∙ ap (λ value. with_value before (entry_cell old.view.opened.sizes first left) value cell) (sym into_is)) placed;
    }

-- which one it is
pub last_back : {X : Type 0} (shown : X → Value) (all left : List X) (one : X) (back : List X) → all ≡ (left ++ one ∷ []) ++ back → in_row (map shown all) (length left) ≡ shown one
last_back {X = X} shown all left one back is = ap (λ items. in_row (map shown items) (length left)) (is ∙ append_assoc left (one ∷ []) back) ∙ here left
  where
    here : (before : List X) → in_row (map shown (before ++ one ∷ back)) (length before) ≡ shown one
    here [] = refl
    here (first ∷ rest) = here rest

-- all are out, and all are back
pub all_out : (first count : ℕ) (row : List Value) (old now : PassState) → HasLaid first count (λ i. Bare) old now → HasLaid first count (lying row count) old now
all_out first count row old now is = record {
  table = is.table;
  view = is.view;
  spare = is.spare;
  owns_slots = owns_slots_kept old.view.opened.sizes (λ value. value) (laid_parts (entry_cell old.view.opened.sizes first) count (λ i. Bare) (values_of old.view))
      (laid_parts (entry_cell old.view.opened.sizes first) count (lying row count) (values_of old.view)) (still_owned (pass_of old.view)) now.now
      (λ cell some. laid_same (entry_cell old.view.opened.sizes first) count (lying row count) (λ i. Bare) (values_of old.view) (λ i low. ap (λ b. if b then Bare else in_row row i) (lt-ltb i count low)) cell) is.owns_slots;
}
