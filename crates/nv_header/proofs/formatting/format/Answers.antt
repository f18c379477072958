use Rattle.std.proofs.Common.{List, ◌++◌, length, take, drop, sym, subst, ℕ, arith, map}
use Rattle.nv_plain.specs.Layouts.{layout_of}
use Rattle.nv_pmem.specs.Rows.{DidRow}
use Rattle.nv_pmem.proofs.OneOfRow.{lent}
use Rattle.nv_header.specs.HeaderSteps.{format_steps}
use Rattle.nv_header.specs.Regions.{IsRegion, HasParts}
use Rattle.nv_header.proofs.FormatLaws.{format_changed, format_tells}
use Rattle.nv_header.proofs.FileNameLaws.{no_file_names}
use Rattle.nv_header.proofs.InRow.{told_room}
use Rattle.nv_header.proofs.formatting.format.Goals as goal

pub returns-in-Ok-clause-done : goal.returns-in-Ok-clause-done
returns-in-Ok-clause-done g c =
    lent c.args.parts.items c.deref_mut.result.now c.write_region.new.parts c.args.parts.len c.deref_mut.ensures.value (omega (arith, c.args.parts.ok.0)) c.write_region.auto.parts
    (λ old new. DidRow (format_steps (layout_of c.args.version) c.args.geometry.page c.args.geometry.entries) (map g.L.Lines.history old) (map g.L.Lines.history new))
    c.in-Ok.ensures.done

pub invariant_of-result : goal.invariant_of-result
invariant_of-result g c =
    let page = c.args.geometry.page in
    let entries = c.args.geometry.entries in
    let now = take c.args.parts.len (c.write_region.new.parts ++ drop (length c.write_region.new.parts) c.args.parts.items) in
    let Named : List (List ℕ) → Type 0 = λ names. IsRegion (layout_of c.args.version) page entries names 0 (map g.L.Lines.room now) (map g.L.Lines.history now) in
    record {
      is_region = subst Named (sym c.new-names.ensures) (record {
        parts = lent c.args.parts.items c.deref_mut.result.now c.write_region.new.parts c.args.parts.len c.deref_mut.ensures.value (omega (arith, c.args.parts.ok.0)) c.write_region.auto.parts (λ old new. HasParts (layout_of c.args.version) page entries (map g.L.Lines.room new)) c.in-Ok.ensures.parts;
        names_are = no_file_names (layout_of c.args.version);
        number = omega arith;
        tells =
            format_tells c.args.version page entries c.args.geometry.page_in_limits c.args.geometry.entries_in_limits c.requires.blank
            (told_room g.L.Lines.history g.L.Lines.room (layout_of c.args.version) page entries c.args.parts.items g.met.L.Lines.told_lines c.requires.parts)
            (lent c.args.parts.items c.deref_mut.result.now c.write_region.new.parts c.args.parts.len c.deref_mut.ensures.value (omega (arith, c.args.parts.ok.0)) c.write_region.auto.parts
            (λ old new. DidRow (format_steps (layout_of c.args.version) page entries) (map g.L.Lines.history old) (map g.L.Lines.history new)) c.in-Ok.ensures.done);
      });
    }

pub returns-in-Ok-clause-changed : goal.returns-in-Ok-clause-changed
returns-in-Ok-clause-changed g c =
    format_changed c.args.version g.L.Lines.history g.L.Lines.room g.L.Lines.device c.args.geometry.page c.args.geometry.entries c.args.parts.items c.deref_mut.result.now c.write_region.new.parts
    c.args.parts.len c.deref_mut.ensures.value (omega (arith, c.args.parts.ok.0)) c.write_region.auto.parts c.args.geometry.page_in_limits c.args.geometry.entries_in_limits
    c.requires.blank (told_room g.L.Lines.history g.L.Lines.room (layout_of c.args.version) _ _ c.args.parts.items g.met.L.Lines.told_lines c.requires.parts)
    c.write_region.ensures.begun c.write_region.ensures.lines c.write_region.ensures.devices

pub returns-in-Err-clause-changed : goal.returns-in-Err-clause-changed
returns-in-Err-clause-changed g c =
    format_changed c.args.version g.L.Lines.history g.L.Lines.room g.L.Lines.device c.args.geometry.page c.args.geometry.entries c.args.parts.items c.deref_mut.result.now c.write_region.new.parts
    c.args.parts.len c.deref_mut.ensures.value (omega (arith, c.args.parts.ok.0)) c.write_region.auto.parts c.args.geometry.page_in_limits c.args.geometry.entries_in_limits
    c.requires.blank (told_room g.L.Lines.history g.L.Lines.room (layout_of c.args.version) _ _ c.args.parts.items g.met.L.Lines.told_lines c.requires.parts)
    c.write_region.ensures.begun c.write_region.ensures.lines c.write_region.ensures.devices
