-- Writes back: what follows the write of an entry's piece.
use Rattle.std.proofs.Common.{◌≡◌, ℕ, ◌+◌, ◌==◌, Bool, true, false, if◌then◌else◌, length, refl, sym, ap, subst, ◌∙◌}
use Rattle.std.specs.Prelude.{Some, None, Err}
use Rattle.nv_core.specs.state.Words.{Sizes}
use Rattle.nv_core.specs.state.Cleaner as cleaner
use Rattle.nv_core.specs.state.Passes.{Cleaning}
use Rattle.nv_core.specs.steps.CleanerSteps.{each_next}
use Rattle.nv_op.specs.declared.kinds.Kind.TheVariants.{Stop, Return, Hold}
use Rattle.nv_store.specs.declared.backing.StoreError.{StoreError}
use Rattle.nv_table.specs.state.States.{PassState}
use Rattle.nv_clean.specs.declared.batch.CleanControl.{CleanControl}
use Rattle.nv_clean.specs.declared.batch.CleanControl.TheVariants as cleans
use Rattle.nv_clean.specs.declared.batch.CleanRefusal.{CleanRefusal}
use Rattle.nv_clean.specs.declared.batch.CleanRefusal.TheVariants.{Idle, Busy, Stopped, RegionFault, StoreFault, NoMemory}
use Rattle.nv_clean.specs.Cleaning.{CallsDevices, CleanState, IsAfterCalls, IsBehind, IsGroupHeld, control_at, control_of, refusal_behind, write_refusal, written_at}
use Rattle.nv_clean.specs.CleanSteps.{HasMadeOne, HasSteppedBehind, clean_kind, first_refusal, is_fault, kind_at, refusal_then}
use Rattle.nv_clean.proofs.BehindLaws.{behind_as}
use Rattle.nv_clean.proofs.CleanStepLaws.{calls_silent, made_behind}
use Rattle.nv_clean.proofs.MeasureLaws.{both}

fault_told : (sizes : Sizes) (m : CleanState) (refusal : CleanRefusal) (found : ℕ) → is_fault (Some refusal) ≡ true → Some refusal ≡ refusal_then sizes m (Some refusal) found
fault_told sizes m RegionFault found fault = refl
fault_told sizes m StoreFault found fault = refl
fault_told sizes m NoMemory found fault = absurd (let e : false ≡ true = fault in cc)
fault_told sizes m Stopped found fault = absurd (let e : false ≡ true = fault in cc)
fault_told sizes m (Idle at) found fault = absurd (let e : false ≡ true = fault in cc)
fault_told sizes m (Busy cell) found fault = absurd (let e : false ≡ true = fault in cc)

-- the write's answer is this error
pub by_error : (m : CleanState) (at : ℕ) (start was now : PassState) (error other : StoreError) → error ≡ other → IsBehind (written_at m.batch at (Err error)) (write_refusal (Err error)) m start was now
    → IsBehind (written_at m.batch at (Err other)) (write_refusal (Err other)) m start was now
by_error m at start was now error other is = subst (λ e. IsBehind (written_at m.batch at (Err e)) (write_refusal (Err e)) m start was now) is

module _ (m : CleanState) (at : ℕ) (stands : m.control ≡ cleans.WriteBack at) (group : IsGroupHeld m (at + 1)) where
  calls : CallsDevices m.control
  calls = subst CallsDevices (sym stands) tt

  -- ---- the next entry is held, or the first one cleaned

  abbrev holding : Bool → CleanControl
  holding b = if b then cleans.CleanEntry 0 else cleans.HoldEntry (at + 1)

  abbrev is_last : Bool
  is_last = at + 1 == length m.batch.pages

  abbrev pub holding_next : CleanState
  holding_next = record m { control = holding is_last }

  module _ (mid : CleanState) (is : mid ≡ holding_next) where
    pub hold_behind : (start was now : PassState) → IsBehind (each_next m.batch at (cleaner.HoldEntry (at + 1)) (Cleaning m.batch (cleaner.CleanEntry 0))) None m start was now → IsAfterCalls mid start was now
    hold_behind start was now behind =
        subst (λ (mid : CleanState). IsAfterCalls mid start was now) (sym is)
        (subst (λ r. IsBehind (control_of now.view.opened.sizes holding_next) r holding_next start was now) (both (λ b. None ≡ refusal_behind (holding b)) is_last refl refl)
        (behind_as _ (control_of now.view.opened.sizes holding_next) None m holding_next start was now behind
        (both (λ b. (if b then Cleaning m.batch (cleaner.CleanEntry 0) else Cleaning m.batch (cleaner.HoldEntry (at + 1))) ≡ control_at now.view.opened.sizes m.batch (holding b)) is_last refl refl) refl refl))

    pub hold_one : (sizes : Sizes) (next : CleanState) (was new : PassState) → HasSteppedBehind (clean_kind mid) (refusal_behind mid.control) was new → next.refusal ≡ mid.refusal → HasMadeOne sizes m next was new
    hold_one sizes next was new one refusal =
        made_behind sizes m next was new (clean_kind mid) (refusal_behind mid.control) calls one
        (λ well. ap clean_kind is ∙ both (λ b. kind_at m.batch (holding b) ≡ (if b then Return else Hold)) is_last refl refl ∙ ap (kind_at m.batch) (sym stands))
        (λ found. refusal ∙ ap (λ (mid : CleanState). mid.refusal) is ∙ sym (calls_silent sizes m.batch m.refusal m.control found calls) ∙ ap (λ r. refusal_then sizes m r found) (sym silent))
      where
        silent : refusal_behind mid.control ≡ None
        silent = ap (λ (mid : CleanState). refusal_behind mid.control) is ∙ both (λ b. refusal_behind (holding b) ≡ None) is_last refl refl

  -- ---- the first one is returned

  abbrev pub returning : CleanState
  returning = record m { control = cleans.ReturnEntry 0 (at + 1); refusal = first_refusal m.batch m.refusal NoMemory }

  module _ (mid : CleanState) (is : mid ≡ returning) where
    pub return_behind : (start was now : PassState) → IsBehind (Cleaning m.batch (cleaner.RefusedReturnEntry 0 (at + 1))) (Some NoMemory) m start was now → IsAfterCalls mid start was now
    return_behind start was now behind =
        subst (λ (mid : CleanState). IsAfterCalls mid start was now) (sym is)
        (behind_as (Cleaning m.batch (cleaner.RefusedReturnEntry 0 (at + 1))) (Cleaning m.batch (cleaner.RefusedReturnEntry 0 (at + 1))) (Some NoMemory) m returning start was now behind refl refl refl)

    pub return_one : (sizes : Sizes) (next : CleanState) (was new : PassState) → HasSteppedBehind (clean_kind mid) (refusal_behind mid.control) was new → next.refusal ≡ mid.refusal → HasMadeOne sizes m next was new
    return_one sizes next was new one refusal =
        made_behind sizes m next was new (clean_kind mid) (refusal_behind mid.control) calls one (λ well. absurd (no_refusal (sym told ∙ well)))
        (λ found. refusal ∙ ap (λ (mid : CleanState). mid.refusal) is ∙ ap (λ r. refusal_then sizes m r found) (sym told))
      where
        told : refusal_behind mid.control ≡ Some NoMemory
        told = ap (λ (mid : CleanState). refusal_behind mid.control) is

        no_refusal : Some NoMemory ≡ None → ⊥
        no_refusal e = cc

  -- ---- STOP is set

  pub fail_one : (refusal : CleanRefusal) → is_fault (Some refusal) ≡ true → (sizes : Sizes) (next : CleanState) (was new : PassState) → HasSteppedBehind Stop (Some refusal) was new → next.refusal ≡ Some refusal → HasMadeOne sizes m next was new
  fail_one refusal fault sizes next was new one told =
      made_behind sizes m next was new Stop (Some refusal) calls one (λ well. absurd (no_refusal well)) (λ found. told ∙ fault_told sizes m refusal found fault)
    where
      no_refusal : Some refusal ≡ None → ⊥
      no_refusal e = cc
