use Rattle.std.proofs.Common.{get_or, refl, subst, arith}
use Rattle.std.proofs.lemmas.List.{get_or-map}
use Rattle.std.proofs.lemmas.Result.{on_ok_weaker}
use Rattle.nv_plain.specs.Layouts.{version_2}
use Rattle.nv_pmem.specs.Room.{Room}
use Rattle.nv_header.specs.Regions.{IsRoomy}
use Rattle.nv_pmem.proofs.OneOfRow.{did_in_row, did_some_in_row, same_in_row}
use Rattle.nv_header.proofs.InRow.{has_parts_set}
use Rattle.nv_header.proofs.migrating.write_version_2.Goals as goal

pub store_version_2-requires-clause-room : goal.store_version_2-requires-clause-room
store_version_2-requires-clause-room g c =
    let parts = c.args.parts.now in
    let At : Room → Type 0 = IsRoomy version_2.header_lines in
    subst At (get_or-map g.L.Lines.room parts 0 c.index-parts-0.result (g.L.Lines.room c.index-parts-0.result) (omega arith))
    (c.requires.room (g.L.Lines.room c.index-parts-0.result))

pub returns-clause-begun : goal.returns-clause-begun
returns-clause-begun g c =
    did_some_in_row g.L.Lines.history c.args.parts.now 0 (get_or c.args.parts.now 0 c.index-parts-0.result) c.store_version_2.new.header c.index-parts-0.result (omega arith) refl c.store_version_2.ensures.begun

pub returns-clause-done : goal.returns-clause-done
returns-clause-done g c =
    on_ok_weaker c.store_version_2.result
    (did_in_row g.L.Lines.history c.args.parts.now 0 (get_or c.args.parts.now 0 c.index-parts-0.result) c.store_version_2.new.header c.index-parts-0.result (omega arith) refl)
    c.store_version_2.ensures.done

pub returns-clause-parts : goal.returns-clause-parts
returns-clause-parts g c =
    on_ok_weaker c.store_version_2.result
    (λ stays page entries has. has_parts_set g.L.Lines.room version_2 page entries c.args.parts.now 0 (get_or c.args.parts.now 0 c.index-parts-0.result) c.store_version_2.new.header c.index-parts-0.result
    (omega arith) refl stays has)
    c.store_version_2.ensures.room

pub returns-clause-lines : goal.returns-clause-lines
returns-clause-lines g c =
    same_in_row (λ part. (g.L.Lines.room part).lines) c.args.parts.now 0 (get_or c.args.parts.now 0 c.index-parts-0.result) c.store_version_2.new.header c.index-parts-0.result refl c.store_version_2.ensures.lines

pub returns-clause-devices : goal.returns-clause-devices
returns-clause-devices g c =
    same_in_row g.L.Lines.device c.args.parts.now 0 (get_or c.args.parts.now 0 c.index-parts-0.result) c.store_version_2.new.header c.index-parts-0.result refl c.store_version_2.ensures.device
