use Rattle.std.proofs.Common.{map, sym, subst, arith}
use Rattle.nv_plain.specs.Layouts.{version_2}
use Rattle.nv_plain.specs.declared.limits.Version.{Version}
use Rattle.nv_pmem.specs.Rows.{on_part, DidRow}
use Rattle.nv_pmem.proofs.OneOfRow.{lent}
use Rattle.nv_pmem.proofs.StepLaws.{did_none}
use Rattle.nv_header.specs.HeaderSteps.{version_2_steps, migrate_steps}
use Rattle.nv_header.specs.Regions.{HasParts}
use Rattle.nv_header.proofs.MigrateLaws.{names_of_2, parts_of_2, migrate_changed, migrate_unchanged, migrate_tells}
use Rattle.nv_header.proofs.InRow.{region_as, told_room}
use Rattle.nv_header.proofs.migrating.migrate.Goals as goal

pub returns-in-Two-clause-changed : goal.returns-in-Two-clause-changed
returns-in-Two-clause-changed g c =
    let region = c.args.region in
    migrate_unchanged region.version g.L.Lines.history g.L.Lines.room g.L.Lines.device region.geometry.page region.geometry.entries region.next region.names region.parts.items
    c.in-Two.is region.is_region

pub returns-in-Two-clause-done : goal.returns-in-Two-clause-done
returns-in-Two-clause-done g c =
    let row = map g.L.Lines.history c.args.region.parts.items in
    let By : Version → Type 0 = λ version. DidRow (on_part 0 (migrate_steps version c.args.region.names)) row row in
    subst By (sym c.in-Two.is) (did_none _ row)

pub invariant_of-result : goal.invariant_of-result
invariant_of-result g c =
    let region = c.args.region in
    let was = region_as c.in-One.is region.is_region in
    let page = region.geometry.page in
    let entries = region.geometry.entries in
    let has = parts_of_2 region.version page entries (map g.L.Lines.room region.parts.items) c.requires.header region.is_region.parts in
    record {
      is_region = record {
        parts = lent region.parts.items c.deref_mut.result.now c.write_version_2.new.parts region.parts.len c.deref_mut.ensures.value (omega (arith, region.parts.ok.0)) c.write_version_2.auto.parts
            (λ old new. HasParts version_2 page entries (map g.L.Lines.room old) → HasParts version_2 page entries (map g.L.Lines.room new))
            (c.in-Ok.ensures.parts page entries) has;
        names_are = names_of_2 region.names was.names_are;
        number = was.number;
        tells =
            migrate_tells page entries region.next region.names was.names_are was.tells
            (told_room g.L.Lines.history g.L.Lines.room version_2 page entries region.parts.items g.met.L.Lines.told_lines has)
            (lent region.parts.items c.deref_mut.result.now c.write_version_2.new.parts region.parts.len c.deref_mut.ensures.value (omega (arith, region.parts.ok.0)) c.write_version_2.auto.parts
            (λ old new. DidRow (on_part 0 (version_2_steps region.names)) (map g.L.Lines.history old) (map g.L.Lines.history new)) c.in-Ok.ensures.done);
      };
    }

pub returns-in-Ok-clause-changed : goal.returns-in-Ok-clause-changed
returns-in-Ok-clause-changed g c =
    let region = c.args.region in
    migrate_changed region.version g.L.Lines.history g.L.Lines.room g.L.Lines.device region.geometry.page region.geometry.entries region.next region.names
    region.parts.items c.deref_mut.result.now c.write_version_2.new.parts region.parts.len c.in-One.is c.deref_mut.ensures.value (omega (arith, region.parts.ok.0)) c.write_version_2.auto.parts
    region.is_region
    (told_room g.L.Lines.history g.L.Lines.room version_2 _ _ region.parts.items g.met.L.Lines.told_lines
    (parts_of_2 region.version _ _ (map g.L.Lines.room region.parts.items) c.requires.header region.is_region.parts))
    c.write_version_2.ensures.begun c.write_version_2.ensures.lines c.write_version_2.ensures.devices

pub returns-in-Err-clause-changed : goal.returns-in-Err-clause-changed
returns-in-Err-clause-changed g c =
    let region = c.args.region in
    migrate_changed region.version g.L.Lines.history g.L.Lines.room g.L.Lines.device region.geometry.page region.geometry.entries region.next region.names
    region.parts.items c.deref_mut.result.now c.write_version_2.new.parts region.parts.len c.in-One.is c.deref_mut.ensures.value (omega (arith, region.parts.ok.0)) c.write_version_2.auto.parts
    region.is_region
    (told_room g.L.Lines.history g.L.Lines.room version_2 _ _ region.parts.items g.met.L.Lines.told_lines
    (parts_of_2 region.version _ _ (map g.L.Lines.room region.parts.items) c.requires.header region.is_region.parts))
    c.write_version_2.ensures.begun c.write_version_2.ensures.lines c.write_version_2.ensures.devices
