use Rattle.std.proofs.Common.{◌≡◌, ◌-◌, map, sum_by}
use Rattle.std.specs.Prelude.{fold}
use Rattle.std.specs.List.{range_with_len}
use Rattle.nv_plain.specs.Recovered.{with_entry}
use Rattle.nv_pmem.specs.Rows.{AreOnlyRead}
use Rattle.nv_recover.specs.Applying.{AcrossTells, AcrossThroughout, StaysAlike}
use Rattle.nv_recover.specs.Standing.{files_of}
use Rattle.nv_recover.specs.Telling.{AllTell}
use Rattle.nv_recover.proofs.apply.write_group.Given as goal

-- the entries below this number are written
abbrev pub invariant-loop-number : goal.invariant-loop-number
invariant-loop-number g l = record {
  read : AreOnlyRead g.L.Lines.history g.L.Lines.room g.L.Lines.device l.fn.parts l.parts;
  moments : AcrossThroughout (map g.L.Lines.history l.fn.parts) (map g.B.Backing.history l.fn.stores) (map g.B.Backing.history l.stores) StaysAlike;
  written : AcrossTells (map g.L.Lines.history l.fn.parts) (map g.B.Backing.history l.fn.stores) (map g.B.Backing.history l.stores)
      (λ image was now. files_of now ≡ fold (with_entry image) (files_of was) (range_with_len l.fn.group.leader (l.number - l.fn.group.leader)));
  tells : AllTell (map g.B.Backing.history l.fn.stores) → AllTell (map g.B.Backing.history l.stores);
  region_faults : sum_by g.L.Lines.fault_count l.parts ≡ sum_by g.L.Lines.fault_count l.fn.parts;
  store_faults : sum_by g.B.Backing.fault_count l.stores ≡ sum_by g.B.Backing.fault_count l.fn.stores;
  devices : map g.B.Backing.device l.stores ≡ map g.B.Backing.device l.fn.stores;
}
