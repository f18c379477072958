use Rattle.std.proofs.Common.{map, refl}
use Rattle.nv_plain.specs.Layouts.{layout_of}
use Rattle.nv_pmem.specs.MemPart.{part_room}
use Rattle.nv_tests.proofs.TestRegions.{all_spare}
use Rattle.nv_tests.proofs.recoveries.listed.Goals as goal

pub look-requires-clause-parts : goal.look-requires-clause-parts
look-requires-clause-parts c =
    let geometry = c.in_ok-head.head.geometry in
    let read = c.read_head.new.parts in
    c.needed_lines_make_parts.ensures (layout_of c.in_ok-head.head.version) geometry.page geometry.entries (map part_room read) ((c.in_ok-check_lines.ensures.exact).0 refl)
    (all_spare c.lose_power.new.parts read c.lose_power.ensures.spare c.in_ok-head.ensures.read.rooms)
