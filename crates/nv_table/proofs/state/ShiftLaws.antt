-- Moves: which slot a step moves, as the core says it and as the caller does.
use Rattle.std.proofs.Common.{arith, ◌≡◌, ◌≢◌, refl, sym, ap, ◌∙◌, subst, ℕ, ◌-◌, ◌==◌, Bool, true, false, if◌then◌else◌, List, [], ◌∷◌, ◌++◌, length, take, drop, map, length-append}
use Rattle.std.proofs.Math.Seq.{drop-append_seam, take-append_seam}
use Rattle.std.specs.Prelude.{Option, Some, None}
use Rattle.atomic_table.specs.Table.{rest}
use Rattle.nv_core.specs.state.Words.{Sizes, Word}
use Rattle.nv_core.specs.steps.Ops.{Move, Stays as NoMove, Comes as Coming, Goes as Going}
use Rattle.nv_table.specs.steps.SeatSteps.{came, went, Moved, IsFirst, IsInFront}
use Rattle.nv_table.specs.state.Layout.{slot_of_cell}
use Rattle.nv_table.specs.steps.Moving.{shift_said, comes_by}
use Rattle.nv_table.specs.state.States.{Shift, Rests, In, Out, coming, going, shift_of}
use Rattle.nv_table.specs.declared.stepping.Moves.{Moves}
use Rattle.nv_table.specs.declared.stepping.Moves.TheVariants.{Stays, Comes, ComesIfFree, Goes}

-- ---- what the caller says

-- a slot that comes
pub comes_in : (shift : Shift) (slot : ℕ) → comes_by shift ≡ Some slot → shift ≡ In slot
comes_in Rests slot is = absurd cc
comes_in (In other) slot is = cc
comes_in (Out other) slot is = absurd cc

pub same_slot : {slot other : ℕ} → Out slot ≡ Out other → slot ≡ other
same_slot e = cc

-- no slot goes but where the caller says so
pub none_out : (moves : Moves) (found slot : ℕ) → ((other : ℕ) → moves ≢ Goes other) → shift_said moves found ≡ Out slot → ⊥
none_out Stays found slot stays is = cc
none_out (Comes other) found slot stays is = cc
none_out (ComesIfFree other) found slot stays is = by_test (found == 0) is
  where
    by_test : (b : Bool) → (if b then In other else Rests) ≡ Out slot → ⊥
    by_test true e = cc
    by_test false e = cc
none_out (Goes other) found slot stays is = stays other refl

-- and then none moves where none comes
pub none_moves : (moves : Moves) (found : ℕ) → ((other : ℕ) → moves ≢ Goes other) → comes_by (shift_said moves found) ≡ None → shift_said moves found ≡ Rests
none_moves moves found stays none = by_shift (shift_said moves found) refl none
  where
    by_shift : (shift : Shift) → shift_said moves found ≡ shift → comes_by shift ≡ None → shift ≡ Rests
    by_shift Rests is none = refl
    by_shift (In slot) is none = absurd cc
    by_shift (Out slot) is none = absurd (none_out moves found slot stays is)

-- ---- what the core says

-- the cell of a slot that goes
pub cell_out : (sizes : Sizes) (move : Move) (slot : ℕ) → shift_of sizes move ≡ Out slot → (cell : Word) × (move ≡ Going cell) × (slot_of_cell sizes cell ≡ Some slot)
cell_out sizes NoMove slot is = absurd cc
cell_out sizes (Coming cell) slot is = by_slot (slot_of_cell sizes cell) is
  where
    by_slot : (o : Option ℕ) → coming o ≡ Out slot → (other : Word) × (Coming cell ≡ Going other) × (slot_of_cell sizes other ≡ Some slot)
    by_slot None e = absurd cc
    by_slot (Some other) e = absurd cc
cell_out sizes (Going cell) slot is = (cell, refl, by_slot (slot_of_cell sizes cell) is)
  where
    by_slot : (o : Option ℕ) → going o ≡ Out slot → o ≡ Some slot
    by_slot None e = absurd cc
    by_slot (Some other) e = cc

-- a slot that goes stands in front, where one does
pub in_front : {S : Type 0} (sizes : Sizes) (move : Move) (slots : List (ℕ × S)) → ((slot : ℕ) → shift_of sizes move ≡ Out slot → IsFirst (Some slot) slots) → IsInFront sizes move slots
in_front sizes NoMove slots first = tt
in_front sizes (Coming cell) slots first = tt
in_front sizes (Going cell) slots first = by_slot (slot_of_cell sizes cell) first
  where
    by_slot : (o : Option ℕ) → ((slot : ℕ) → going o ≡ Out slot → IsFirst (Some slot) slots) → IsFirst o slots
    by_slot None first_ = tt
    by_slot (Some slot) first_ = first_ slot refl

-- ---- what a pass has written down

abbrev pub shifted : Shift → List ℕ → List ℕ
shifted Rests held = held
shifted (In slot) held = slot ∷ held
shifted (Out slot) held = drop 1 held

module _ {S : Type 0} where
  rest_written : (slots : List (ℕ × S)) → map (λ one. one.0) (rest slots) ≡ drop 1 (map (λ one. one.0) slots)
  rest_written [] = refl
  rest_written (first ∷ others) = refl

  came_written : (o : Option ℕ) (old new : List (ℕ × S)) → came o old new → map (λ one. one.0) new ≡ shifted (coming o) (map (λ one. one.0) old)
  came_written None old new is = ap (map (λ one. one.0)) is
  came_written (Some slot) old new is = ap (map (λ one. one.0)) is.1

  went_written : (o : Option ℕ) (old new : List (ℕ × S)) → went o old new → map (λ one. one.0) new ≡ shifted (going o) (map (λ one. one.0) old)
  went_written None old new is = ap (map (λ one. one.0)) is
  went_written (Some slot) old new is = ap (map (λ one. one.0)) is ∙ rest_written old

  -- the slots that are then taken
  pub moved_written : (sizes : Sizes) (move : Move) (old new : List (ℕ × S)) → Moved sizes move old new → map (λ one. one.0) new ≡ shifted (shift_of sizes move) (map (λ one. one.0) old)
  moved_written sizes NoMove old new is = ap (map (λ one. one.0)) is
  moved_written sizes (Coming cell) old new is = came_written (slot_of_cell sizes cell) old new is
  moved_written sizes (Going cell) old new is = went_written (slot_of_cell sizes cell) old new is

-- a slot that comes is written behind the others, which then stand behind it
pub written_first : (held : List ℕ) (slot count : ℕ) → count ≡ length held → drop count (held ++ slot ∷ []) ++ take count (held ++ slot ∷ []) ≡ slot ∷ held
written_first held slot count is =
    subst (λ n. drop n (held ++ slot ∷ []) ++ take n (held ++ slot ∷ []) ≡ slot ∷ held) (sym is)
    (rw (drop-append_seam held (slot ∷ []), take-append_seam held (slot ∷ [])) refl)

-- one that goes stood first, and is written last before it is struck out
pub struck_out : (held : List ℕ) → take (length (drop 1 held ++ take 1 held) - 1) (drop 1 held ++ take 1 held) ≡ drop 1 held
struck_out [] = refl
struck_out (first ∷ others) =
    let count : length (others ++ first ∷ []) - 1 ≡ length others = omega (arith, length-append others (first ∷ [])) in
    ap (λ n. take n (others ++ first ∷ [])) count ∙ take-append_seam others (first ∷ [])
