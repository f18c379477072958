use Rattle.std.proofs.Common.{◌≡◌, ◌++◌, List, length, map, take, drop, refl, sym, ◌∙◌, subst, arith}
use Rattle.std.specs.List.{AllZip}
use Rattle.nv_plain.specs.Layouts.{layout_of}
use Rattle.nv_pmem.specs.MemPart.{part_room}
use Rattle.nv_pmem.specs.Room.{Keeps}
use Rattle.nv_pmem.specs.declared.mem_part.MemPart.{MemPart}
use Rattle.nv_header.specs.Needs.{HasLines}
use Rattle.nv_header.specs.Regions.{HasParts}
use Rattle.nv_tests.proofs.TestRegions.{all_spare, written_back}
use Rattle.nv_tests.proofs.recoveries.recovery.Goals as goal

pub recover-requires-clause-parts : goal.recover-requires-clause-parts
recover-requires-clause-parts c =
    let layout = layout_of c.in_ok-head.head.version in
    let page = c.in_ok-head.head.geometry.page in
    let entries = c.in_ok-head.head.geometry.entries in
    let len = c.args.parts.len in
    let lost = c.lose_power.new.parts in
    let read = c.read_head.new.parts in
    let lost_back = take len (lost ++ drop (length lost) c.args.parts.items) in
    let read_back = take len (read ++ drop (length read) lost_back) in
    let lost_fits : length lost ≡ len = omega (arith, c.lose_power.auto.parts, c.deref_mut.ensures.len) in
    let lost_is : lost_back ≡ lost = written_back len lost (drop (length lost) c.args.parts.items) lost_fits in
    let was_is : c.deref_mut-3.result.now ≡ lost = c.deref_mut-3.ensures.value ∙ lost_is in
    let read_fits : length read ≡ len = omega (arith, c.read_head.auto.parts, c.deref_mut-3.ensures.len) in
    let read_is : read_back ≡ read = written_back len read (drop (length read) lost_back) read_fits in
    let Kept : List MemPart → Type 0 = λ old. AllZip (λ old new. Keeps (part_room old) (part_room new)) old read in
    let Long : List MemPart → Type 0 = λ parts. HasLines layout page entries (map part_room parts) in
    let Has : List MemPart → Type 0 = λ parts. HasParts layout page entries (map part_room parts) in
    let lines = (c.in_ok-check_lines.ensures.exact).0 refl in
    subst Has (sym read_is)
    (c.needed_lines_make_parts.ensures layout page entries (map part_room read) (subst Long (c.deref.ensures.value ∙ read_is) lines)
    (all_spare lost read c.lose_power.ensures.spare (subst Kept was_is c.in_ok-head.ensures.read.rooms)))
