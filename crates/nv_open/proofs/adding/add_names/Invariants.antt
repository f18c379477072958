use Rattle.std.proofs.Common.{◌≡◌, ◌++◌, map, take, sum_by}
use Rattle.nv_plain.specs.Layouts.{mount_version}
use Rattle.nv_recover.specs.Telling.{AllTell}
use Rattle.nv_open.proofs.adding.add_names.Given as goal

-- the names before this one are added
abbrev pub invariant-loop-name : goal.invariant-loop-name
invariant-loop-name g l = record {
  names : l.region.names ≡ l.fn.region.names ++ take l.name-index l.fn.names;
  version : l.region.version ≡ mount_version;
  geometry : l.region.geometry ≡ l.fn.region.geometry;
  tell : AllTell (map g.L.Lines.history l.fn.region.parts.items) → AllTell (map g.L.Lines.history l.region.parts.items);
  counts : map (λ part. (g.L.Lines.room part).lines) l.region.parts.items ≡ map (λ part. (g.L.Lines.room part).lines) l.fn.region.parts.items;
  next : l.region.next ≡ l.fn.region.next;
  faults : sum_by g.L.Lines.fault_count l.region.parts.items ≡ sum_by g.L.Lines.fault_count l.fn.region.parts.items;
}
