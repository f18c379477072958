-- Owned slots: what a pass owns and what it has put back, and the slots that its seat has taken for them.
use Rattle.std.proofs.Common.{◌≡◌, ◌≢◌, ◌⊎◌, ℕ, ◌+◌, ◌<◌, ◌≤◌, if◌then◌else◌, List, [], ◌∷◌, inl, inr, refl, sym, ap, subst, ◌∙◌, arith, eq-eqb, ne_eqb}
use Rattle.std.specs.Prelude.{Some, None}
use Rattle.std.proofs.lemmas.Bool.{cases_eq}
use Rattle.nv_core.specs.state.Words.{Sizes, Word}
use Rattle.nv_core.specs.state.Values.{Value}
use Rattle.nv_core.specs.state.Passes.{Pass, IsOneOf, times, without}
use Rattle.nv_core.specs.steps.Order.{Values}
use Rattle.nv_core.proofs.invariant.LockLaws.{times_here, times_else, times_without, times_without_else}
use Rattle.nv_core.proofs.content.BufferLaws.{less_times}
use Rattle.nv_table.specs.state.Layout.{slot_total, slot_of_cell, cell_of}
use Rattle.nv_table.specs.state.Views.{without_all, still_owned, slot_times, OwnsSlots}
use Rattle.nv_table.proofs.state.LayoutLaws.{slot_there}

-- ---- what a pass owns

-- no more than its owned cells have
pub few_left : (cell : Word) (left owned : List Word) → times cell (without_all left owned) ≤ times cell owned
few_left cell [] owned = omega arith
few_left cell (first ∷ rest) owned =
    let one = less_times cell first (without_all rest owned) in
    let more = few_left cell rest owned in
    omega (arith, one, more)

pub still_owned_none : (cell : Word) (pass : Pass) → times cell pass.owned ≡ 0 → times cell (still_owned pass) ≡ 0
still_owned_none cell pass none = let few = few_left cell pass.left pass.owned in omega (arith, few, none)

-- and all of them, where it has put nothing back
pub still_owned_all : (pass : Pass) → pass.left ≡ [] → still_owned pass ≡ pass.owned
still_owned_all pass none = ap (λ left. without_all left pass.owned) none

-- ---- one of some

pub slot_here : {S : Type 0} (slot : ℕ) (held : S) (slots : List (ℕ × S)) → slot_times slot ((slot, held) ∷ slots) ≡ 1 + slot_times slot slots
slot_here slot held slots = ap (λ b. (if b then 1 else 0) + slot_times slot slots) (eq-eqb slot slot refl)

pub slot_else : {S : Type 0} (slot other : ℕ) (held : S) (slots : List (ℕ × S)) → slot ≢ other → slot_times slot ((other, held) ∷ slots) ≡ slot_times slot slots
slot_else slot other held slots ne =
    let e : slot_times slot ((other, held) ∷ slots) ≡ 0 + slot_times slot slots = ap (λ b. (if b then 1 else 0) + slot_times slot slots) (ne_eqb slot other ne) in
    omega (arith, e)

-- a slot that is one of some is there at least once
pub slot_some : {S : Type 0} (slots : List (ℕ × S)) (slot : ℕ) (held : S) → IsOneOf slots (slot, held) → 1 ≤ slot_times slot slots
slot_some [] slot held one = absurd one
slot_some (first ∷ rest) slot held (inl is) =
    let e : slot_times slot (first ∷ rest) ≡ 1 + slot_times slot rest = ap (λ b. (if b then 1 else 0) + slot_times slot rest) (eq-eqb slot first.0 (ap (λ one. one.0) is)) in
    omega (arith, e)
slot_some (first ∷ rest) slot held (inr later) = let again = slot_some rest slot held later in omega (arith, again)

-- ---- cells of slots

-- two slots have two cells
pub cells_apart : (sizes : Sizes) (slot other : ℕ) → slot < slot_total sizes → other < slot_total sizes → slot ≢ other → cell_of sizes slot ≢ cell_of sizes other
cells_apart sizes slot other low low_other ne is =
    ne (some_is (sym (slot_there sizes slot low).0 ∙ ap (slot_of_cell sizes) is ∙ (slot_there sizes other low_other).0))
  where
    some_is : {a b : ℕ} → Some a ≡ Some b → a ≡ b
    some_is e = cc

-- a cell that has no slot is no slot's
pub cell_apart : (sizes : Sizes) (slot : ℕ) (cell : Word) → slot < slot_total sizes → slot_of_cell sizes cell ≡ None → cell_of sizes slot ≢ cell
cell_apart sizes slot cell low none is = clash (sym (slot_there sizes slot low).0 ∙ ap (slot_of_cell sizes) is ∙ none)
  where
    clash : {a : ℕ} → Some a ≡ None → ⊥
    clash e = cc

-- ---- slots taken and given back

module _ {S : Type 0} (sizes : Sizes) (shown : S → Value) where
  -- a slot's cell is among the owned cells
  pub owns_slots_some : (kept : Values) (cells : List Word) (slots : List (ℕ × S)) → OwnsSlots sizes shown kept cells slots
      → (slot : ℕ) (held : S) → IsOneOf slots (slot, held) → 1 ≤ times (cell_of sizes slot) cells
  owns_slots_some kept cells slots owns_slots slot held one =
      let some = slot_some slots slot held one in
      let e = owns_slots.each slot (owns_slots.within slot held one) in
      omega (arith, some, e)

  -- what the cells keep changes
  pub owns_slots_kept : (kept now : Values) (cells : List Word) (slots : List (ℕ × S)) → ((cell : Word) → times cell cells ≢ 0 → now cell ≡ kept cell)
      → OwnsSlots sizes shown kept cells slots → OwnsSlots sizes shown now cells slots
  owns_slots_kept kept now cells slots is owns_slots = record {
    within = owns_slots.within;
    each = owns_slots.each;
    shows = λ slot held one. let some = owns_slots_some kept cells slots owns_slots slot held one in owns_slots.shows slot held one ∙ sym (is (cell_of sizes slot) (λ none. omega (arith, some, none)));
  }

  -- the owned cells change, but for cells that have no slot
  pub owns_slots_cells : (kept : Values) (cells others : List Word) (slots : List (ℕ × S))
      → ((slot : ℕ) → slot < slot_total sizes → times (cell_of sizes slot) others ≡ times (cell_of sizes slot) cells)
      → OwnsSlots sizes shown kept cells slots → OwnsSlots sizes shown kept others slots
  owns_slots_cells kept cells others slots is owns_slots = record {
    within = owns_slots.within;
    each = λ slot low. owns_slots.each slot low ∙ sym (is slot low);
    shows = owns_slots.shows;
  }

  -- a slot is taken
  pub owns_slots_taken : (kept : Values) (cells : List Word) (slots : List (ℕ × S)) (slot : ℕ) (held : S) → slot < slot_total sizes → shown held ≡ kept (cell_of sizes slot)
      → OwnsSlots sizes shown kept cells slots → OwnsSlots sizes shown kept (cell_of sizes slot ∷ cells) ((slot, held) ∷ slots)
  owns_slots_taken kept cells slots slot held low shows owns_slots = record { within = within; each = each; shows = shows_each }
    where
      within : (other : ℕ) (one : S) → IsOneOf ((slot, held) ∷ slots) (other, one) → other < slot_total sizes
      within other one (inl is) = let e : other ≡ slot = ap (λ pair. pair.0) is in omega (arith, e, low)
      within other one (inr later) = owns_slots.within other one later

      each_at : (other : ℕ) → other < slot_total sizes → slot_times other slots ≡ times (cell_of sizes other) cells
          → ((other ≡ slot) ⊎ (other ≢ slot)) → slot_times other ((slot, held) ∷ slots) ≡ times (cell_of sizes other) (cell_of sizes slot ∷ cells)
      each_at other below is (inl at) =
          subst (λ n. slot_times n ((slot, held) ∷ slots) ≡ times (cell_of sizes n) (cell_of sizes slot ∷ cells)) (sym at)
          (slot_here slot held slots ∙ ap (λ n. 1 + n) (owns_slots.each slot low) ∙ sym (times_here (cell_of sizes slot) cells))
      each_at other below is (inr ne) =
          slot_else other slot held slots ne ∙ is ∙ sym (times_else (cell_of sizes other) (cell_of sizes slot) cells (cells_apart sizes other slot below low ne))

      each : (other : ℕ) → other < slot_total sizes → slot_times other ((slot, held) ∷ slots) ≡ times (cell_of sizes other) (cell_of sizes slot ∷ cells)
      each other below = each_at other below (owns_slots.each other below) (cases_eq other slot)

      shows_each : (other : ℕ) (one : S) → IsOneOf ((slot, held) ∷ slots) (other, one) → shown one ≡ kept (cell_of sizes other)
      shows_each other one (inl is) = ap (λ pair. shown pair.1) is ∙ shows ∙ ap (λ pair. kept (cell_of sizes pair.0)) (sym is)
      shows_each other one (inr later) = owns_slots.shows other one later

  -- the first slot is given back
  pub owns_slots_given : (kept : Values) (cells : List Word) (slots : List (ℕ × S)) (slot : ℕ) (held : S)
      → OwnsSlots sizes shown kept cells ((slot, held) ∷ slots) → OwnsSlots sizes shown kept (without (cell_of sizes slot) cells) slots
  owns_slots_given kept cells slots slot held owns_slots = record {
    within = λ other one later. owns_slots.within other one (inr later);
    each = λ other below. each_at other below (owns_slots.each other below) (cases_eq other slot);
    shows = λ other one later. owns_slots.shows other one (inr later);
  }
    where
      low : slot < slot_total sizes
      low = owns_slots.within slot held (inl refl)

      each_at : (other : ℕ) → other < slot_total sizes → slot_times other ((slot, held) ∷ slots) ≡ times (cell_of sizes other) cells
          → ((other ≡ slot) ⊎ (other ≢ slot)) → slot_times other slots ≡ times (cell_of sizes other) (without (cell_of sizes slot) cells)
      each_at other below is (inl at) =
          subst (λ n. slot_times n slots ≡ times (cell_of sizes n) (without (cell_of sizes slot) cells)) (sym at)
          (let e = owns_slots.each slot low in
          let here = slot_here slot held slots in
          let less = times_without (cell_of sizes slot) cells (omega (arith, e, here)) in
          omega (arith, e, here, less))
      each_at other below is (inr ne) =
          sym (slot_else other slot held slots ne) ∙ is ∙ sym (times_without_else (cell_of sizes other) (cell_of sizes slot) cells (cells_apart sizes other slot below low ne))
