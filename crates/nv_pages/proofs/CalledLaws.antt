-- Called: a device that was out of its slot for one call, and came back.
use Rattle.std.proofs.Common.{◌≡◌, ◌⊎◌, ℕ, ◌≤◌, false, true, List, [], ◌∷◌, length, inl, inr, refl, sym, ap, ap₂, subst, ◌∙◌, arith}
use Rattle.std.specs.Prelude.{Some, option_map, Result, Ok, Err, OnOk, OnErr}
use Rattle.std.specs.Result.{IsErr}
use Rattle.nv_plain.specs.Faults.{HasCause}
use Rattle.nv_plain.specs.Layouts.{mount_layout}
use Rattle.nv_pmem.specs.Calls.{Seen, EndedWell, EndedBadly, OneFailed, PartCalls, seen_of}
use Rattle.nv_pmem.specs.Part.{Part}
use Rattle.nv_pmem.specs.Room.{Room}
use Rattle.nv_pmem.specs.Runs.{run, grown}
use Rattle.nv_pmem.specs.Steps.{LineStep}
use Rattle.nv_pmem.specs.declared.lines.RegionFault.{RegionFault}
use Rattle.nv_header.specs.HeaderSteps.{tail_steps}
use Rattle.nv_header.specs.Regions.{IsRoomy}
use Rattle.nv_core.specs.invariant.Rooms.{KeepsRoomy}
use Rattle.nv_core.proofs.state.SparesLaws.{spares_tell}
use Rattle.nv_store.specs.Store.{Store}
use Rattle.nv_store.specs.Steps.{StoreStep, Write, Sync, after_store_step, DidStoreStep}
use Rattle.nv_store.specs.Torn.{LeftOrTore}
use Rattle.nv_store.specs.Causes.{HasWriteCause}
use Rattle.nv_store.specs.declared.backing.StoreError.{StoreError}
use Rattle.nv_store.specs.declared.backing.StoreError.TheVariants.{Fault, NoMemory}
use Rattle.nv_store.specs.declared.backing.StoreFault.{StoreFault}
use Rattle.nv_core.specs.state.Words.{Word, HEADER, STORE}
use Rattle.nv_core.specs.state.Spares.{spares_of}
use Rattle.nv_core.specs.state.Values.{Value, Bare, APart, AStore, Job, PieceWrite, StoreSync, CallEnding, Made, Failed, Refused, called}
use Rattle.nv_core.specs.steps.Order.{CallMayEnd, CallMayLeave, IsTornOf}
use Rattle.nv_table.specs.state.Layout.{cell_of}
use Rattle.nv_table.specs.state.SlotValues.{present, part_value, store_value}
use Rattle.nv_table.specs.state.States.{PassState}
use Rattle.nv_table.specs.steps.Exchanges.{Exchanges}
use Rattle.nv_pages.specs.DeviceCalls.{HasCalled, HasWritten, HasSynced, HasMovedTail, part_seen}
use Rattle.nv_pages.proofs.AlterLaws.{was_kept, altered_back, altered_by}

-- its cell keeps what the call left of it
pub has_called : (old mid new : PassState) (slot : ℕ) (cell : Word) (out into : Value) → cell_of old.view.opened.sizes slot ≡ cell → Exchanges slot out Bare old mid → Exchanges slot Bare into mid new
    → (job : Job) (ending : CallEnding) → into ≡ called job ending out → CallMayEnd out ending → CallMayLeave out job ending → HasCalled cell job ending old new
has_called old mid new slot cell out into at away back job ending is ends leaves = record {
  ends = λ kept cells owns_slots. subst (λ value. CallMayEnd value ending) (was_kept old mid slot cell out Bare at away kept cells owns_slots) ends;
  leaves = λ kept cells owns_slots. subst (λ value. CallMayLeave value job ending) (was_kept old mid slot cell out Bare at away kept cells owns_slots) leaves;
  altered = altered_by old mid new slot cell out into at away back (called job ending) is;
}

-- ---- a store's states

pub present_grown : {T S : Type 0} (after : T → S → S) (step : T) (states : List S) → present (grown after step states) ≡ option_map (after step) (present states)
present_grown after step [] = refl
present_grown after step (now ∷ past) = refl

one_step : (step : StoreStep) (old new : List Store) → DidStoreStep (step ∷ []) old new → present new ≡ option_map (after_store_step step) (present old)
unfolding run
one_step step old new did = ap present did.states ∙ present_grown after_store_step step old

torn : (at count : ℕ) (old new : List Store) → LeftOrTore at count old new → (present new ≡ present old) ⊎ IsTornOf at count (present old) (present new)
torn at count old new (inl same) = inl (ap present same)
torn at count old new (inr tore) =
    inr (subst (λ states. IsTornOf at count (present states) (present new)) (sym tore.told) (subst (λ states. IsTornOf at count (Some tore.now) (present states)) (sym tore.states) tore.torn))

module _ {B : Type 0} (device : B → ℕ) (history : B → List Store) (faults : B → ℕ) (was now : B) (same_device : device now ≡ device was) (file slot : ℕ) (old mid new : PassState)
    (there : cell_of old.view.opened.sizes slot ≡ STORE file) (away : Exchanges slot (store_value device history faults was) Bare old mid) (back : Exchanges slot Bare (store_value device history faults now) mid new) where
  -- a write
  pub store_written : (at : ℕ) (bytes : List ℕ) (result : Result (Unit {0}) StoreError) → OnOk result (DidStoreStep (Write at bytes ∷ []) (history was) (history now)) → OnErr result (LeftOrTore at (length bytes) (history was) (history now))
      → (result ≡ Err NoMemory → history now ≡ history was) → HasWriteCause (faults was) (faults now) result → HasWritten file at bytes result old new
  store_written at bytes (Ok done) did tore still cause = (
    present (history now),
    has_called old mid new slot (STORE file) _ _ there away back (PieceWrite at bytes (present (history now))) Made
        (ap₂ (λ count which. AStore record { told = present (history now); faults = count; identity = which }) cause same_device) tt (one_step (Write at bytes) (history was) (history now) did),
  )
  store_written at bytes (Err Fault) did tore still cause = (
    present (history now),
    faults now,
    has_called old mid new slot (STORE file) _ _ there away back (PieceWrite at bytes (present (history now))) (Failed false (faults now))
        (ap (λ which. AStore record { told = present (history now); faults = faults now; identity = which }) same_device) cause (torn at (length bytes) (history was) (history now) tore),
  )
  store_written at bytes (Err NoMemory) did tore still cause = (
    present (history now),
    has_called old mid new slot (STORE file) _ _ there away back (PieceWrite at bytes (present (history now))) Refused
        (ap₂ (λ count which. AStore record { told = present (history now); faults = count; identity = which }) cause same_device) tt (ap present (still refl)),
  )

  -- a sync
  pub store_synced : (result : Result (Unit {0}) StoreFault) → OnOk result (DidStoreStep (Sync ∷ []) (history was) (history now)) → OnErr result (history now ≡ history was) → HasCause (faults was) (faults now) result → HasSynced file result old new
  store_synced (Ok done) did still cause =
      has_called old mid new slot (STORE file) _ _ there away back StoreSync Made
      (ap₂ (λ told count. AStore record { told = told; faults = count; identity = device now }) (one_step Sync (history was) (history now) did) cause
      ∙ ap (λ which. AStore record { told = option_map (after_store_step Sync) (present (history was)); faults = faults was; identity = which }) same_device) tt tt
  store_synced (Err fault) did still cause = (
    faults now,
    has_called old mid new slot (STORE file) _ _ there away back StoreSync (Failed false (faults now))
        (ap₂ (λ told which. AStore record { told = told; faults = faults now; identity = which }) (ap present still) same_device) cause tt,
  )

-- ---- the header's part

not_so : false ≡ true → ⊥
not_so e = cc

-- calls of which one failed, told by an answer that says so
pub err_calls : {E : Type 0} (steps : List LineStep) (was now : Seen) (result : Result (Unit {0}) E) → IsErr result → OneFailed EndedWell EndedBadly steps was now → PartCalls steps was now result
err_calls steps was now (Ok done) is failed = absurd (not_so is)
err_calls steps was now (Err fault) is failed = record { well = tt; failed = failed }

module _ {L : Type 0} (device : L → ℕ) (history : L → List Part) (faults : L → ℕ) (room : L → Room) where
  -- its line of the tail can take one more content
  pub tail_spare : (header : L) → KeepsRoomy (part_value device history faults room header) → 1 ≤ (room header).spare 1
  tail_spare header roomy = let is : IsRoomy mount_layout.header_lines (room header) = (spares_tell (room header)).was_roomy mount_layout.header_lines roomy in let spare = is.spare 1 (omega arith) in omega (arith, spare)

  pub tail_moved : (was now : L) → device now ≡ device was → (old mid new : PassState) → Exchanges 0 (part_value device history faults room was) Bare old mid → Exchanges 0 Bare (part_value device history faults room now) mid new
      → (tail : ℕ) (result : Result (Unit {0}) RegionFault) → PartCalls (tail_steps tail) (seen_of history room faults was) (seen_of history room faults now) result → HasMovedTail tail result old new
  tail_moved was now same_device old mid new away back tail result calls = record {
    identity = device was;
    was = seen_of history room faults was;
    now = seen_of history room faults now;
    kept = λ kept cells owns_slots. sym (was_kept old mid 0 HEADER (part_value device history faults room was) Bare refl away kept cells owns_slots);
    calls = calls;
    altered = altered_back old mid new 0 HEADER (part_value device history faults room was) (part_seen (device was) (seen_of history room faults now)) refl away
        (subst (λ which. Exchanges 0 Bare (APart record { told = present (history now); faults = faults now; identity = which } (spares_of (room now))) mid new) same_device back);
  }
