-- Stores: what a slot shows of a store that was read.
use Rattle.std.proofs.Common.{◌≡◌, ℕ, List, [], false, Result, Ok, Err, ap, ap₂, ◌∙◌}
use Rattle.std.specs.Prelude.{OnErr}
use Rattle.nv_store.specs.Store.{Store}
use Rattle.nv_core.specs.state.Values.{AStore, PageRead, Failed, called}
use Rattle.nv_table.specs.state.SlotValues.{present, store_value}

module _ {B : Type 0} (device : B → ℕ) (history : B → List Store) (faults : B → ℕ) (old new : B) (same_history : history new ≡ history old) (same_device : device new ≡ device old) where
  -- it went well
  pub store_same : faults new ≡ faults old → store_value device history faults new ≡ store_value device history faults old
  store_same same_faults =
      ap₂ (λ states which. AStore record { told = present states; faults = faults new; identity = which }) same_history same_device
      ∙ ap (λ count. AStore record { told = present (history old); faults = count; identity = device old }) same_faults

  -- it failed
  pub store_failed : store_value device history faults new ≡ called (PageRead 0 []) (Failed false (faults new)) (store_value device history faults old)
  store_failed = ap₂ (λ states which. AStore record { told = present states; faults = faults new; identity = which }) same_history same_device

-- what holds at all holds where there is an error
pub on_err : {T E : Type 0} (result : Result T E) (P : Type 0) → P → OnErr result P
on_err (Ok value) P is = tt
on_err (Err fault) P is = is
