-- Held: what a step gives back is among the owned cells of its pass.
use Rattle.std.proofs.Common.{◌≡◌, ℕ, ◌+◌, ◌≤◌, ◌==◌, Bool, true, false, if◌then◌else◌, List, refl, sym, ap, subst, ◌∙◌, arith}
use Rattle.nv_core.specs.state.Words.{Sizes, Word, ENTRY, slot_of_entry}
use Rattle.nv_core.specs.state.Cleaner.{CleanEntry, RefusedReturnEntry, FailedReturnEntry, CleanerOp, TakeCleaner, Clean}
use Rattle.nv_core.specs.state.Cleaner as cleaner
use Rattle.nv_core.specs.state.Passes.{Control, ReadyEntry, BreakEntry, Cleaning, Pass, IsFilling, IsHeldEntry, times}
use Rattle.nv_core.specs.steps.Ops.{Op, Take, Give, Ready, Break, Return, ByCleaner, Move, Stays, Comes, Goes, move_of, cleaner_move}
use Rattle.nv_core.specs.steps.Order.{Values, Enabled}
use Rattle.nv_core.specs.steps.StepKinds.{CleanerEnabled, EnabledByKind}
use Rattle.nv_core.specs.invariant.ControlFacts.{ControlFacts, FactsAt}
use Rattle.nv_core.specs.invariant.Ownership.{Ownership, HoldsLocks}
use Rattle.nv_core.proofs.invariant.KeepsLocks.{given_held, readying_next}
use Rattle.nv_core.proofs.invariant.CleanerLocks.{cleaner_give_held}
use Rattle.nv_core.proofs.steps.CleanerOps.{IsTending, IsDropping, CleanerReturn_it, Undoes_it, tending}
use Rattle.nv_core.proofs.steps.NextSteps.{next_steps_may_come}

-- what holds of both branches holds of the choice
pub if_both : {T : Type 0} (P : T → Type 0) (b : Bool) (one other : T) → P one → P other → P (if b then one else other)
if_both P true one other so not_so = so
if_both P false one other so not_so = not_so

-- a cell that goes is owned by some pass
abbrev pub IsInOwned : Move → List Word → Type 0
IsInOwned (Goes cell) owned = 1 ≤ times cell owned
IsInOwned move owned = Unit {0}

module _ (sizes : Sizes) (pass : Pass) (holds : Ownership sizes pass) (stands : ControlFacts sizes pass) where
  -- an entry that it fills, and one that it holds
  fills_one : (number : ℕ) → IsFilling pass.control pass.first pass.entries number → 1 ≤ times (ENTRY (slot_of_entry sizes number)) pass.owned
  fills_one number fills = let one = holds.filling number fills in omega (arith, one)

  holds_one : (number : ℕ) → IsHeldEntry pass.control number → 1 ≤ times (ENTRY (slot_of_entry sizes number)) pass.owned
  holds_one number held = let one = holds.held number held in omega (arith, one)

  stands_at : (control : Control) → pass.control ≡ control → FactsAt sizes pass control
  stands_at control is = subst (FactsAt sizes pass) is stands.at

  yielded : (cell : Word) (control : Control) → FactsAt sizes pass control → HoldsLocks sizes pass control → CleanerEnabled sizes pass (cleaner.Give cell) control → 1 ≤ times cell pass.owned
  yielded cell (Cleaning batch inner) at held may = cleaner_give_held sizes pass batch inner cell may at held
  yielded cell control at held may = absurd may

  cleaned : (number : ℕ) → CleanerEnabled sizes pass (Clean number) pass.control → IsHeldEntry pass.control number
  cleaned number may = go t.control t.made
    where
      t : IsTending pass (Clean number)
      t = tending sizes pass (Clean number) tt may

      go : pass.control ≡ Cleaning t.batch t.inner → (i : ℕ) × (t.inner ≡ CleanEntry i) × (number ≡ t.batch.reached + i) → IsHeldEntry pass.control number
      go at made =
          let here : pass.control ≡ Cleaning t.batch (CleanEntry made.0) = at ∙ ap (Cleaning t.batch) made.1 in
          let less = stands_at (Cleaning t.batch (CleanEntry made.0)) here in
          let is = made.2 in subst (λ s. IsHeldEntry s number) (sym here) (omega (arith, is), omega (arith, is, less))

  dropped : (number : ℕ) → CleanerEnabled sizes pass (cleaner.Return number) pass.control → IsHeldEntry pass.control number
  dropped number may = go t.control t.made
    where
      t : IsTending pass (cleaner.Return number)
      t = tending sizes pass (cleaner.Return number) tt may

      go : pass.control ≡ Cleaning t.batch t.inner → IsDropping t.batch t.inner number → IsHeldEntry pass.control number
      go at (CleanerReturn_it i end e is) =
          let here : pass.control ≡ Cleaning t.batch (RefusedReturnEntry i end) = at ∙ ap (Cleaning t.batch) e in
          let less = (stands_at (Cleaning t.batch (RefusedReturnEntry i end)) here).0 in
          subst (λ s. IsHeldEntry s number) (sym here) (omega (arith, is), omega (arith, is, less))
      go at (Undoes_it i end e is) =
          let here : pass.control ≡ Cleaning t.batch (FailedReturnEntry i end) = at ∙ ap (Cleaning t.batch) e in
          let less = (stands_at (Cleaning t.batch (FailedReturnEntry i end)) here).0 in
          subst (λ s. IsHeldEntry s number) (sym here) (omega (arith, is), omega (arith, is, less))

  cleaner_op_held : (cleaner_op : CleanerOp) (found : ℕ) → CleanerEnabled sizes pass cleaner_op pass.control → IsInOwned (cleaner_move sizes cleaner_op found) pass.owned
  cleaner_op_held (TakeCleaner most) found may = if_both (λ m. IsInOwned m pass.owned) (found == 0) (Comes _) Stays tt tt
  cleaner_op_held (cleaner.Take cell) found may = if_both (λ m. IsInOwned m pass.owned) (found == 0) (Comes cell) Stays tt tt
  cleaner_op_held (cleaner.Give cell) found may = yielded cell pass.control stands.at holds.locks may
  cleaner_op_held (cleaner.Return number) found may = holds_one number (dropped number may)
  cleaner_op_held (Clean number) found may = holds_one number (cleaned number may)
  cleaner_op_held cleaner_op found may = tt

  by_kind : (values : Values) (op : Op) (found : ℕ) → EnabledByKind sizes values pass op → IsInOwned (move_of sizes op found) pass.owned
  by_kind values (Take cell) found may = if_both (λ m. IsInOwned m pass.owned) (found == 0) (Comes cell) Stays tt tt
  by_kind values (Give cell) found may = given_held sizes pass cell pass.control stands.at stands.pages holds.locks may
  by_kind values (Ready number) found may =
      fills_one number (subst (λ s. IsFilling s pass.first pass.entries number) (sym may) (readying_next pass.first pass.entries number (stands_at (ReadyEntry number) may).1))
  by_kind values (Break number) found may =
      let among = (stands_at (BreakEntry number) may).1 in
      fills_one number (subst (λ s. IsFilling s pass.first pass.entries number) (sym may) (omega arith, among.1))
  by_kind values (Return number) found may = holds_one number (subst (λ s. IsHeldEntry s number) (sym may.2) refl)
  by_kind values (ByCleaner cleaner_op) found may = cleaner_op_held cleaner_op found may
  by_kind values op found may = tt

  pub goes_held : (values : Values) (op : Op) (found : ℕ) → Enabled sizes values pass op → IsInOwned (move_of sizes op found) pass.owned
  goes_held values op found may = by_kind values op found (next_steps_may_come sizes values pass op may)
