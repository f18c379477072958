use Rattle.std.proofs.Common.{ℕ, [], map, get_or}
use Rattle.nv_plain.specs.Layouts.{mount_layout}
use Rattle.nv_pmem.specs.Limits.{entry_lines}
use Rattle.nv_pmem.specs.Made.{resized}
use Rattle.nv_pmem.specs.MemPart.{part_now}
use Rattle.nv_pmem.specs.Part.{Part}
use Rattle.nv_bench.proofs.PartLaws.{sized_more, faults_more}
use Rattle.nv_bench.proofs.parts.sized_parts.Goals as goal

pub loop-i-preserved : goal.loop-i-preserved
loop-i-preserved c =
    let entry : ℕ → Part = λ i. resized (entry_lines c.args.geometry.page) (get_or (map part_now c.args.parts.now) i []) in
    record {
      made = sized_more entry (resized mount_layout.header_lines (get_or (map part_now c.args.parts.now) 0 [])) c.loop-i.made.items c.push-in-loop-i.new.self.items c.in_ok-entry.entry c.loop-i.i
          c.in_ok-push-2.ensures.items c.loop-i.invariant.made c.in_ok-entry.ensures.history;
      faults = faults_more c.loop-i.made.items c.push-in-loop-i.new.self.items c.in_ok-entry.entry c.in_ok-push-2.ensures.items c.loop-i.invariant.faults c.in_ok-entry.ensures.faults;
    }
