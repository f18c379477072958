-- Device calls: each is on a cell of the mount.
use Rattle.std.proofs.Common.{◌≡◌, ℕ, ◌+◌, ◌<◌, ◌≤◌, Bool, true, false, ◌∷◌, refl, sym, ap, subst, ◌∙◌, arith}
use Rattle.std.proofs.lemmas.Nat.{mod_below}
use Rattle.nv_plain.specs.declared.call.FileCall.{FileCall}
use Rattle.nv_core.specs.state.Words.{Sizes, STORE, IsWord, slot_of_entry}
use Rattle.nv_core.specs.state.Cleaner.{Batch, CleanerControl, WriteBack, SyncStores, MoveHeaderTail}
use Rattle.nv_core.specs.state.Cleaner as cleaner
use Rattle.nv_core.specs.steps.CleanerSteps.{holds_store, group_file}
use Rattle.nv_core.specs.state.Passes.{Control, CommitGroup, ReadStore, ReadPiece, Cleaning, IsAllowed, page_count, times}
use Rattle.nv_core.specs.steps.Order.{Values, Work, CallEnabled, CallDue, CleanerCallDue}
use Rattle.nv_core.specs.state.Core.{Core}
use Rattle.nv_core.specs.invariant.ControlFacts.{FactsAt, has_call}
use Rattle.nv_core.specs.invariant.Ownership.{HoldsLocks, one_if}
use Rattle.nv_core.specs.invariant.Sound.{Sound}
use Rattle.nv_core.proofs.invariant.WindowLaws.{slot_within}

-- a call with a page needs a slot
some_slot : (sizes : Sizes) (call : FileCall) (number : ℕ) → IsAllowed sizes call → 1 ≤ page_count sizes call → slot_of_entry sizes number < sizes.entries
some_slot sizes call number allowed some = mod_below number sizes.entries (let few = allowed.short in omega (arith, few, some))

module _ (sizes : Sizes) (first : Values) (by : ℕ) (core : Core) (work : Work) (sound : Sound sizes first core) (may : CallEnabled sizes core.values (core.passes by) work) where
  of_cleaner_word : (batch : Batch) (inner : CleanerControl) → (core.passes by).control ≡ Cleaning batch inner → CleanerCallDue sizes core.values batch work inner → IsWord sizes work.cell
  of_cleaner_word batch (cleaner.ReadPiece i) at due = subst (IsWord sizes) (sym due.cell)
      (slot_within sizes core (batch.reached + i) sound.window ((sound.grouped.progress.each by batch (cleaner.ReadPiece i) at tt).looked i (subst (FactsAt sizes (core.passes by)) at (sound.control_facts by).at)).within)
  of_cleaner_word batch (WriteBack i) at due = let way = sound.grouped.progress.each by batch (WriteBack i) at tt in subst (IsWord sizes) (sym due.cell) (way.files (group_file sizes batch) (way.stored tt))
  of_cleaner_word batch (SyncStores (file ∷ rest)) at due = subst (IsWord sizes) (sym due.0) ((sound.grouped.progress.each by batch (SyncStores (file ∷ rest)) at tt).files file (go (holds_store batch file) held))
    where
      held : one_if (holds_store batch file) ≡ 1
      held = sym ((subst (HoldsLocks sizes (core.passes by)) at (sound.ownership by).locks) (STORE file) (λ slot e. cc)) ∙ ap (λ c. times c (core.passes by).owned) (sym due.0) ∙ may.here

      go : (b : Bool) → one_if b ≡ 1 → b ≡ true
      go true is = refl
      go false is = absurd (omega (arith, is))
  of_cleaner_word batch (MoveHeaderTail calls) at due = subst (IsWord sizes) (sym due.cell) tt
  of_cleaner_word batch inner at due = absurd due

  -- a device call that may come is on a cell of the mount
  pub worked_word : IsWord sizes work.cell
  worked_word = go (core.passes by).control refl (sound.control_facts by).at may.due
    where
      go : (control : Control) → (core.passes by).control ≡ control → FactsAt sizes (core.passes by) control → CallDue sizes core.values (core.passes by) work control → IsWord sizes work.cell
      go (CommitGroup calls) at stands due = let some = stands.some in let many = stands.many in
          subst (IsWord sizes) (sym due.cell) (some_slot sizes (core.passes by).call ((core.passes by).first + due.row.part) ((sound.control_facts by).allowed (ap has_call at)) (omega (arith, some, many)))
      go (ReadStore page dirty) at stands due = subst (IsWord sizes) (sym due.cell) ((sound.control_facts by).allowed (ap has_call at)).known
      go (ReadPiece page number) at stands due = let low = stands.0.1.0 in let high = stands.0.1.1 in
          subst (IsWord sizes) (sym due.cell) (some_slot sizes (core.passes by).call number ((sound.control_facts by).allowed (ap has_call at)) (omega (arith, low, high)))
      go (Cleaning batch inner) at stands due = of_cleaner_word batch inner at due
      go control at stands due = absurd due
