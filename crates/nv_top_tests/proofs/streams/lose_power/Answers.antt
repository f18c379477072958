use Rattle.std.proofs.Common.{sym, subst}
use Rattle.std.specs.Prelude.{◌≡◌, Result, Ok, Err, IfSome, OnOk}
use Rattle.nv_plain.specs.declared.memory.NoMemory.{NoMemory}
use Rattle.nv_pmem.specs.declared.picker.Pick.{Pick}
use Rattle.nv_pmem.specs.declared.picker.Pick.TheVariants.{Old}
use Rattle.nv_bench.specs.Benches.{BenchState, powered_off}
use Rattle.nv_bench.specs.Holding.{IsQuietHolding}
use Rattle.nv_bench.specs.Laws.{PowerLeavesAnImage}
use Rattle.nv_bench.specs.MemBench.{mem_state, mem_whole}
use Rattle.nv_bench.specs.declared.mem_bench.MemBench.{MemBench}
use Rattle.nv_top.proofs.StoppingLemmas.{quiet_after}
use Rattle.nv_top_tests.proofs.streams.lose_power.Goals as goal

-- once power went off all is quiet
quiet_off : (result : Result (Unit {0}) NoMemory) (pick : Pick) (old new : MemBench) → PowerLeavesAnImage → OnOk result (mem_state new ≡ powered_off pick (mem_state old))
    → OnOk result (IfSome (mem_state new).told IsQuietHolding)
quiet_off (Ok done) pick old new law off =
    subst (λ (bench : BenchState). IfSome bench.told IsQuietHolding) (sym off) (quiet_after pick (mem_state old).told law (mem_whole old))
quiet_off (Err wanting) pick old new law off = tt

pub returns-clause-quiet : goal.returns-clause-quiet
returns-clause-quiet c = quiet_off c.power.result Old c.args.bench.now c.power.new.self c.power_leaves_an_image.ensures c.power.ensures.off
