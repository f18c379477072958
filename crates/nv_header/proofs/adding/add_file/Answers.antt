use Rattle.std.proofs.Common.{ℕ, List, ◌++◌, length, take, drop, map, sym, subst, arith}
use Rattle.nv_plain.specs.Layouts.{layout_of}
use Rattle.nv_pmem.specs.Rows.{on_part, DidRow}
use Rattle.nv_pmem.proofs.OneOfRow.{lent}
use Rattle.nv_header.specs.HeaderSteps.{add_file_steps}
use Rattle.nv_header.specs.Regions.{IsRegion, HasParts}
use Rattle.nv_header.proofs.AddLaws.{add_changed, add_unchanged, add_tells}
use Rattle.nv_header.proofs.FileNameLaws.{file_names_more}
use Rattle.nv_header.proofs.InRow.{told_room}
use Rattle.nv_header.proofs.adding.add_file.Goals as goal

pub returns-in-Err-clause-changed : goal.returns-in-Err-clause-changed
returns-in-Err-clause-changed g c =
    let region = c.args.region in
    add_unchanged c.args.region.version g.L.Lines.history g.L.Lines.room g.L.Lines.device region.geometry.page region.geometry.entries region.next region.names c.args.name.now
    region.parts.items region.is_region.tells

pub invariant_of-region-in-Ok-write_name : goal.invariant_of-region-in-Ok-write_name
invariant_of-region-in-Ok-write_name g c =
    let region = c.args.region in
    let page = region.geometry.page in
    let entries = region.geometry.entries in
    let name = c.args.name.now in
    let now = take region.parts.len (c.write_name.new.parts ++ drop (length c.write_name.new.parts) region.parts.items) in
    let Named : List (List ℕ) → Type 0 = λ names. IsRegion (layout_of c.args.region.version) page entries names region.next (map g.L.Lines.room now) (map g.L.Lines.history now) in
    let Steps : ℕ → Type 0 = λ i. DidRow (on_part 0 (add_file_steps (layout_of c.args.region.version) i name)) (map g.L.Lines.history c.deref_mut.result.now) (map g.L.Lines.history c.write_name.new.parts) in
    record {
      is_region = subst Named (sym c.in-Ok.ensures.names) (record {
        parts = lent c.args.region.parts.items c.deref_mut.result.now c.write_name.new.parts c.args.region.parts.len c.deref_mut.ensures.value (omega (arith, c.args.region.parts.ok.0)) c.write_name.auto.parts
            (λ old new. HasParts (layout_of c.args.region.version) page entries (map g.L.Lines.room old) → HasParts (layout_of c.args.region.version) page entries (map g.L.Lines.room new))
            (c.in-Ok-write_name.ensures.parts page entries) region.is_region.parts;
        names_are = file_names_more (layout_of c.args.region.version) region.names name c.in-Ok.ensures.added.few c.in-Ok.ensures.added.is_new region.is_region.names_are;
        number = region.is_region.number;
        tells =
            add_tells c.args.region.version page entries region.next region.names name c.in-Ok.ensures.added (λ i. omega (arith, c.type_inv.name i)) region.is_region.tells
            (told_room g.L.Lines.history g.L.Lines.room (layout_of c.args.region.version) page entries region.parts.items g.met.L.Lines.told_lines region.is_region.parts)
            (lent c.args.region.parts.items c.deref_mut.result.now c.write_name.new.parts c.args.region.parts.len c.deref_mut.ensures.value (omega (arith, c.args.region.parts.ok.0)) c.write_name.auto.parts
            (λ old new. DidRow (on_part 0 (add_file_steps (layout_of c.args.region.version) (length region.names) name)) (map g.L.Lines.history old) (map g.L.Lines.history new))
            (subst Steps c.len-index.ensures c.in-Ok-write_name.ensures.done));
      });
    }

pub returns-in-Ok-write_name-clause-done : goal.returns-in-Ok-write_name-clause-done
returns-in-Ok-write_name-clause-done g c =
    let Steps : ℕ → Type 0 = λ i. DidRow (on_part 0 (add_file_steps (layout_of c.args.region.version) i c.args.name.now)) (map g.L.Lines.history c.deref_mut.result.now) (map g.L.Lines.history c.write_name.new.parts) in
    lent c.args.region.parts.items c.deref_mut.result.now c.write_name.new.parts c.args.region.parts.len c.deref_mut.ensures.value (omega (arith, c.args.region.parts.ok.0)) c.write_name.auto.parts
    (λ old new. DidRow (on_part 0 (add_file_steps (layout_of c.args.region.version) (length c.args.region.names) c.args.name.now)) (map g.L.Lines.history old) (map g.L.Lines.history new))
    (subst Steps c.len-index.ensures c.in-Ok-write_name.ensures.done)

pub returns-in-Ok-write_name-clause-changed : goal.returns-in-Ok-write_name-clause-changed
returns-in-Ok-write_name-clause-changed g c =
    let region = c.args.region in
    add_changed c.args.region.version g.L.Lines.history g.L.Lines.room g.L.Lines.device region.geometry.page region.geometry.entries region.next c.len-index.result region.names c.args.name.now
    region.parts.items c.deref_mut.result.now c.write_name.new.parts region.parts.len c.deref_mut.ensures.value (omega (arith, region.parts.ok.0)) c.write_name.auto.parts
    c.in-Ok.ensures.added (λ i. omega (arith, c.type_inv.name i)) region.is_region.tells
    (told_room g.L.Lines.history g.L.Lines.room (layout_of c.args.region.version) _ _ region.parts.items g.met.L.Lines.told_lines region.is_region.parts)
    c.len-index.ensures c.write_name.ensures.begun c.write_name.ensures.lines c.write_name.ensures.devices

pub returns-in-Err-write_name-clause-changed : goal.returns-in-Err-write_name-clause-changed
returns-in-Err-write_name-clause-changed g c =
    let region = c.args.region in
    add_changed c.args.region.version g.L.Lines.history g.L.Lines.room g.L.Lines.device region.geometry.page region.geometry.entries region.next c.len-index.result region.names c.args.name.now
    region.parts.items c.deref_mut.result.now c.write_name.new.parts region.parts.len c.deref_mut.ensures.value (omega (arith, region.parts.ok.0)) c.write_name.auto.parts
    c.in-Ok.ensures.added (λ i. omega (arith, c.type_inv.name i)) region.is_region.tells
    (told_room g.L.Lines.history g.L.Lines.room (layout_of c.args.region.version) _ _ region.parts.items g.met.L.Lines.told_lines region.is_region.parts)
    c.len-index.ensures c.write_name.ensures.begun c.write_name.ensures.lines c.write_name.ensures.devices
