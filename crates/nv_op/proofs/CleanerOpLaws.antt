-- The steps of a batch: where they are due, their words rise and fall with no carry.
use Rattle.std.proofs.Common.{◌≡◌, ◌≢◌, ℕ, zero, suc, ◌+◌, ◌-◌, ◌%◌, ◌^◌, ◌<◌, ◌≤◌, ◌==◌, if◌then◌else◌, inl, inr, refl, sym, ap, subst, ◌∙◌, arith, eq-eqb, ne_eqb}
use Rattle.std.proofs.lemmas.Bool.{cases_lt}
use Rattle.nv_core.specs.state.Words.{Sizes, DIRTY}
use Rattle.nv_core.specs.state.Passes.{Idle, Cleaning}
use Rattle.nv_core.specs.state.Cleaner.{Batch, CleanerControl, SubtractDirty, Clean as CleanStep, Subtract as SubtractStep}
use Rattle.nv_core.specs.state.Cleaner as cleaner
use Rattle.nv_core.specs.state.Core.{Core}
use Rattle.nv_core.specs.steps.CleanerSteps.{cleaner_value, group_page}
use Rattle.nv_core.specs.steps.Order.{Values}
use Rattle.nv_core.specs.steps.StepKinds.{CleanerEnabled}
use Rattle.nv_core.specs.invariant.ControlFacts.{FactsAt}
use Rattle.nv_core.specs.invariant.DirtyCounters.{owed, owed_by_all}
use Rattle.nv_core.specs.invariant.Sound.{Sound}
use Rattle.nv_core.proofs.invariant.PageLists.{count_drop}
use Rattle.nv_core.proofs.state.Choices.{when_true, when_false}
use Rattle.nv_core.proofs.state.TotalLaws.{total_at}
use Rattle.nv_core.proofs.steps.CleanerOps.{tending, cleaner_hold_hand, cleans_hand, cleaner_return_hand}
use Rattle.nv_core.proofs.steps.WordLaws.{cleaner_op_locks}
use Rattle.nv_table.specs.state.Changes.{changed}
use Rattle.nv_table.specs.state.Layout.{slot_of_cell}
use Rattle.nv_table.specs.state.States.{shift_of}
use Rattle.nv_table.specs.steps.Moving.{shift_said}
use Rattle.nv_table.proofs.steps.CallOps.{locked}
use Rattle.nv_core.specs.steps.Ops.{cleaner_move}
use Rattle.nv_op.specs.declared.cleaner_op.CleanerOp.{CleanerOp}
use Rattle.nv_op.specs.declared.cleaner_op.CleanerOp.TheVariants.{TakeCleaner, Load, Take, Give, Hold, Return, Clean, Subtract, Free, MoveTail, Stop}
use Rattle.nv_op.specs.Words.{core_word}
use Rattle.nv_op.specs.CleanerOps.{core_cleaner_op, word_of_cleaner_op, cleaner_change, cleaner_moves}

-- ---- the slot that it moves

pub cleaner_moves_so : (sizes : Sizes) (op : CleanerOp) (found : ℕ)
    → shift_of sizes (cleaner_move sizes (core_cleaner_op op) found) ≡ shift_said (cleaner_moves op (slot_of_cell sizes (core_word (word_of_cleaner_op sizes op)))) found
cleaner_moves_so sizes (TakeCleaner most) zero = refl
cleaner_moves_so sizes (TakeCleaner most) (suc more) = grind (arith)
cleaner_moves_so sizes (Take cell) zero = grind (arith)
cleaner_moves_so sizes (Take cell) (suc more) = grind (arith)
cleaner_moves_so sizes (Give cell) found = grind (arith)
cleaner_moves_so sizes (Load word) found = refl
cleaner_moves_so sizes (Hold number) found = refl
cleaner_moves_so sizes (Return number) found = refl
cleaner_moves_so sizes (Clean number) found = refl
cleaner_moves_so sizes (Subtract page) found = refl
cleaner_moves_so sizes (Free number) found = refl
cleaner_moves_so sizes (MoveTail tail) found = refl
cleaner_moves_so sizes Stop found = refl

-- ---- its value

rises : (word kind : ℕ) → word < 2 ^ 64 → word % 8 ≡ kind → kind < 7 → word + 1 ≡ (word + 1) % 2 ^ 64
rises word kind low is small = omega (arith, low, is, small)

falls : (word : ℕ) → word < 2 ^ 64 → 1 ≤ word → word - 1 ≡ (word + (2 ^ 64 - 1)) % 2 ^ 64
falls word low some = omega (arith, low, some)

module _ (sizes : Sizes) (first : Values) (core : Core) (by : ℕ) (sound : Sound sizes first core) where
  -- what a cleaner owes of a page is no more than what all owe
  owed_within : (page : ℕ) (batch : Batch) (inner : CleanerControl) → (core.passes by).control ≡ Cleaning batch inner → owed (core.passes by).control page ≤ owed_by_all core page
  owed_within page batch inner at = elim (cases_lt by (core.made + 1)) [
    | inl made ↦
        let value : ℕ → ℕ = λ n. owed (core.passes n).control page in
        let without : ℕ → ℕ = λ n. if n == by then 0 else value n in
        let same = total_at (core.made + 1) by value without made (λ n other. when_false (n == by) 0 (value n) (ne_eqb n by other)) in
        let none : without by ≡ 0 = when_true (by == by) 0 (value by) (eq-eqb by by refl) in
        omega (arith, same, none)
    | inr unborn ↦ absurd (not_idle batch inner (sym at ∙ (sound.numbers.unborn by (omega (arith, unborn))).idle))
  ]
    where
      not_idle : (batch : Batch) (inner : CleanerControl) → Cleaning batch inner ≢ Idle
      not_idle batch inner e = cc

  -- a page has as many entries as all owe, and more
  dirty_more : (page : ℕ) → owed_by_all core page ≤ core.words (DIRTY page)
  dirty_more page = let is = sound.dirty.sum page in omega (arith, is)

  -- the page of which DIRTY is about to fall has an entry
  subtracts_some : (page : ℕ) → CleanerEnabled sizes (core.passes by) (SubtractStep page) (core.passes by).control → 1 ≤ core.words (DIRTY page)
  subtracts_some page may =
      let t = tending sizes (core.passes by) (SubtractStep page) tt may in
      let at : (core.passes by).control ≡ Cleaning t.batch (SubtractDirty t.made.0) = t.control ∙ ap (Cleaning t.batch) t.made.1 in
      let within = subst (FactsAt sizes (core.passes by)) at (sound.control_facts by).at in
      let owes = ap (λ s. owed s page) at in
      let more = count_drop t.batch.pages t.made.0 page within in
      let one : ◌≡◌ {A = ℕ} (if page == group_page t.batch t.made.0 then 1 else 0) 1 = when_true (page == group_page t.batch t.made.0) 1 0 (eq-eqb page (group_page t.batch t.made.0) t.made.2) in
      let all = owed_within page t.batch (SubtractDirty t.made.0) at in
      let dirty = dirty_more page in
      omega (arith, owes, more, one, all, dirty)

  pub cleaner_value_so : (op : CleanerOp) → CleanerEnabled sizes (core.passes by) (core_cleaner_op op) (core.passes by).control → core.words (core_word (word_of_cleaner_op sizes op)) < 2 ^ 64
      → cleaner_value (core_cleaner_op op) (core.words (core_word (word_of_cleaner_op sizes op))) ≡ changed (cleaner_change op) (core.words (core_word (word_of_cleaner_op sizes op)))
  cleaner_value_so (TakeCleaner most) may low = locked (core.words (core_word (word_of_cleaner_op sizes (TakeCleaner most)))) (sound.locks.bit (core_word (word_of_cleaner_op sizes (TakeCleaner most))) refl)
  cleaner_value_so (Take cell) may low = locked (core.words (core_word cell)) (sound.locks.bit (core_word cell) (cleaner_op_locks sizes (core.passes by) (cleaner.Take (core_word cell)) (core.passes by).control may))
  cleaner_value_so (Load word) may low = refl
  cleaner_value_so (Give cell) may low = refl
  cleaner_value_so (Hold number) may low =
      let hand = cleaner_hold_hand sizes first core sound by _ number record { may = may; is = refl } in rises _ 2 low hand.kind_is (omega arith)
  cleaner_value_so (Return number) may low =
      let hand = cleaner_return_hand sizes first core sound by _ number record { may = may; is = refl } in let kind = hand.kind_is in falls _ low (omega (arith, kind))
  cleaner_value_so (Clean number) may low =
      let hand = cleans_hand sizes first core sound by _ number record { may = may; is = refl } in rises _ 3 low hand.kind_is (omega arith)
  cleaner_value_so (Subtract page) may low = falls _ low (subtracts_some page may)
  cleaner_value_so (Free number) may low = refl
  cleaner_value_so (MoveTail tail) may low = refl
  cleaner_value_so Stop may low = refl
