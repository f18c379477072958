-- Benches in memory that are quiet.
use Rattle.std.proofs.Common.{◌≡◌, refl, sym, subst}
use Rattle.std.specs.Prelude.{Option, IfSome, Result, Ok, Err, OnOk, option_map}
use Rattle.nv_pmem.specs.declared.picker.Pick.{Pick}
use Rattle.nv_bench.specs.Holding.{Holding, IsQuietHolding}
use Rattle.nv_bench.specs.Laws.{PowerLeavesAnImage}
use Rattle.nv_bench.specs.MemBench.{held_by, mem_state, mem_whole}
use Rattle.nv_bench.specs.Powered.{powered}
use Rattle.nv_bench.specs.declared.mem_bench.MemBench.{MemBench}

pub on_ok_map : {T E : Type 0} (P Q : Type 0) (result : Result T E) → (P → Q) → OnOk result P → OnOk result Q
on_ok_map P Q (Ok value) step has = step has
on_ok_map P Q (Err error) step has = tt

-- after a power failure
pub quiet_after : PowerLeavesAnImage → (pick : Pick) (bench : MemBench) (told : Option Holding) → told ≡ option_map (powered pick) (mem_state bench).told → IfSome told IsQuietHolding
quiet_after law pick bench told is =
    subst (λ (one : Option Holding). IfSome one IsQuietHolding) (sym is) (law pick (held_by bench) (mem_whole bench (held_by bench) refl)).1
