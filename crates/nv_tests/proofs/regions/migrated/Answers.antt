use Rattle.std.proofs.Common.{◌≡◌, get_or, sym, ap, ◌∙◌, arith}
use Rattle.std.proofs.lemmas.List.{length-map}
use Rattle.nv_plain.specs.Layouts.{layout_of}
use Rattle.nv_pmem.specs.MemPart.{part_room}
use Rattle.nv_tests.proofs.HeaderRoom.{header_roomy}
use Rattle.nv_tests.proofs.regions.migrated.Goals as goal

pub migrate-requires : goal.migrate-requires
migrate-requires c =
    let region = c.from_parts.result in
    let item = c.index.result.now in
    let first : item ≡ get_or c.into_parts_and_names-parts.result.0.items 0 item = c.index.ensures in
    let same = first ∙ ap (λ parts. get_or parts.items 0 item) (sym c.from_parts.ensures.parts) in
    record {
      header = λ none.
          header_roomy 274 region.parts.items (layout_of region.version) region.geometry.page region.geometry.entries region.names region.next item none
          (omega (arith, region.is_region.parts.count, length-map region.parts.items part_room))
          (omega (arith, c.header_lines.ensures, c.lines.ensures, c.if-lines-header_lines.false, ap (λ part. (part_room part).lines) same)) region.is_region.tells;
    }
