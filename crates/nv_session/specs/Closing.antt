-- Closing: the end of a mount, whose devices go back to the bench that lent them.
use Rattle.std.specs.Prelude.{◌≡◌, ℕ, ◌+◌, List, None, map, sum_by}
use Rattle.nv_pmem.specs.Part.{Part as PartState}
use Rattle.nv_pmem.specs.RowStates.{AreNow}
use Rattle.nv_pmem.specs.Steps.{PartHistory}
use Rattle.nv_store.specs.Steps.{StoreHistory}
use Rattle.nv_store.specs.Store.{Store as StoreState}
use Rattle.nv_bench.specs.Benches.{BenchState, taken_back, told_back}
use Rattle.nv_core.specs.state.Values.{Value}
use Rattle.nv_table.specs.declared.slot.Slot.{Slot}
use Rattle.nv_table.specs.ends.Closing.{IsClosed}
use Rattle.nv_runner.specs.EndedRuns.{IsClosedBy}
use Rattle.nv_session.specs.Sessions.{FirstState}

-- what contracts see of the parts and stores of a bench
pub record Views (L B : Type 0) : Type 0 where
  pub part_device : L → ℕ
  pub part_history : L → PartHistory
  pub part_faults : L → ℕ
  pub part_value : L → Value
  pub store_device : B → ℕ
  pub store_history : B → StoreHistory
  pub store_faults : B → ℕ
  pub store_value : B → Value
  pub shown : Slot L B → Value

-- The mount's parts and stores came out when pass 0 closed it, with all that is told then; and the bench has taken them back, and tells what they hold.
pub record HasClosed {L B : Type 0} (views : Views L B) (first : FirstState) (bench : BenchState) : Type 0 where
  pub parts : List L
  pub stores : List B
  pub placed : ℕ
  pub tail : ℕ
  pub closed : IsClosed views.part_device views.store_device views.shown first.mount.board first.pass parts stores placed tail
  pub told : IsClosedBy first.pass (map views.part_value parts) (map views.store_value stores) (map views.part_history parts) (map views.store_history stores)
      (sum_by views.part_faults parts + sum_by views.store_faults stores) placed tail
  pub back : bench ≡ taken_back bench.told (sum_by views.part_faults parts + sum_by views.store_faults stores) first.bench
  pub tells : (now : List PartState) (held : List StoreState) → AreNow (map views.part_history parts) now → AreNow (map views.store_history stores) held → bench.told ≡ told_back now held first.bench
  pub untold : first.bench.told ≡ None → bench.told ≡ None
