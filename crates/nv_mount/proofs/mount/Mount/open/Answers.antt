use Rattle.std.proofs.Common.{◌+◌, ◌≤◌, drop, length, map, refl, sym, subst, arith}
use Rattle.std.specs.List.{All}
use Rattle.std.proofs.lemmas.Grind.{common_steps}
use Rattle.std.proofs.lemmas.List.{drop-map, length-map}
use Rattle.nv_header.proofs.InRow.{region_as}
use Rattle.nv_table.specs.ends.Begun.{begun_sizes}
use Rattle.nv_table.specs.state.SlotValues.{store_value}
use Rattle.nv_mount.specs.Telling.{AllDevicesTell, IsTelling}
use Rattle.nv_mount.proofs.ClosedAtRestLaws.{begins_empty}
use Rattle.nv_mount.proofs.OpenLaws.{has_long_parts, opens_files, opens_lines, opens_log, opens_region}
use Rattle.nv_mount.proofs.StoppedLaws.{counts_opened}
use Rattle.nv_mount.proofs.TellingLaws.{all_behind, told_spares}
use Rattle.nv_mount.proofs.mount.Mount.open.Goals as goal

pub returns-in-Ok-new-clause-opened : goal.returns-in-Ok-new-clause-opened
returns-in-Ok-new-clause-opened g c = grind (arith, common_steps)

pub returns-in-Ok-new-clause-files : goal.returns-in-Ok-new-clause-files
returns-in-Ok-new-clause-files g c =
    let region = c.args.region in
    let sizes = begun_sizes region.geometry.page region.geometry.entries (length region.names) c.args.pages c.args.cache in
    let enough : 1 + sizes.entries ≤ length region.parts.items = omega (arith, region.is_region.parts.count, length-map region.parts.items g.L.Lines.room) in
    opens_files g.L.Lines.device g.L.Lines.history g.L.Lines.fault_count g.L.Lines.room g.B.Backing.device g.B.Backing.history g.B.Backing.fault_count
    sizes region.next region.parts.items c.args.stores.items c.args.fds _ c.in-Ok-new.pass (returns-in-Ok-new-clause-opened g c) enough c.requires.stores

pub returns-in-Ok-new-clause-log : goal.returns-in-Ok-new-clause-log
returns-in-Ok-new-clause-log g c tell =
    let region = c.args.region in
    let sizes = begun_sizes region.geometry.page region.geometry.entries (length region.names) c.args.pages c.args.cache in
    let enough : 1 + sizes.entries ≤ length region.parts.items = omega (arith, region.is_region.parts.count, length-map region.parts.items g.L.Lines.room) in
    let states = c.rows_have_states.ensures.some (map g.L.Lines.history region.parts.items) tell in
    opens_log g.L.Lines.device g.L.Lines.history g.L.Lines.fault_count g.L.Lines.room g.B.Backing.device g.B.Backing.history g.B.Backing.fault_count
    sizes region.next region.parts.items c.args.stores.items c.args.fds _ c.in-Ok-new.pass (returns-in-Ok-new-clause-opened g c) enough c.requires.stores
    region.names refl c.requires.few_pages (region_as c.requires.version region.is_region) g.met.L.Lines.told_lines c.rows_have_states.ensures.each states.states states.are
    c.regions_at_rest_open.ensures c.requires.quiet

pub returns-in-Ok-new-clause-region : goal.returns-in-Ok-new-clause-region
returns-in-Ok-new-clause-region g c tell =
    let region = c.args.region in
    let sizes = begun_sizes region.geometry.page region.geometry.entries (length region.names) c.args.pages c.args.cache in
    let enough : 1 + sizes.entries ≤ length region.parts.items = omega (arith, region.is_region.parts.count, length-map region.parts.items g.L.Lines.room) in
    let states = c.rows_have_states.ensures.some (map g.L.Lines.history region.parts.items) tell in
    opens_region g.L.Lines.device g.L.Lines.history g.L.Lines.fault_count g.L.Lines.room g.B.Backing.device g.B.Backing.history g.B.Backing.fault_count
    sizes region.next region.parts.items c.args.stores.items c.args.fds _ c.in-Ok-new.pass (returns-in-Ok-new-clause-opened g c) enough c.requires.stores
    region.names refl c.requires.few_pages (region_as c.requires.version region.is_region) g.met.L.Lines.told_lines c.rows_have_states.ensures.each states.states states.are
    c.regions_at_rest_open.ensures c.requires.quiet

pub returns-in-Ok-new-clause-counts : goal.returns-in-Ok-new-clause-counts
returns-in-Ok-new-clause-counts g c =
    let region = c.args.region in
    counts_opened g.L.Lines.device g.L.Lines.history g.L.Lines.fault_count g.L.Lines.room g.B.Backing.device g.B.Backing.history g.B.Backing.fault_count
    (begun_sizes region.geometry.page region.geometry.entries (length region.names) c.args.pages c.args.cache) region.next region.parts.items c.args.stores.items c.args.fds _ c.in-Ok-new.pass
    (returns-in-Ok-new-clause-opened g c)

pub returns-in-Ok-new-clause-empty : goal.returns-in-Ok-new-clause-empty
returns-in-Ok-new-clause-empty g c =
    let begun = (returns-in-Ok-new-clause-opened g c).begun in
    begins_empty c.in-Ok-new.pass.view _ begun.view

pub returns-in-Ok-new-clause-spare : goal.returns-in-Ok-new-clause-spare
returns-in-Ok-new-clause-spare g c tell =
    let begun = (returns-in-Ok-new-clause-opened g c).begun in
    let many = 1 + (begun_sizes c.args.region.geometry.page c.args.region.geometry.entries (length c.args.region.names) c.args.pages c.args.cache).entries in
    let parts = c.args.region.parts.items in
    let behind = all_behind many (map g.L.Lines.history parts) tell in
    subst (λ values. All IsTelling values) (sym begun.spare)
    (told_spares g.L.Lines.device g.L.Lines.history g.L.Lines.fault_count g.L.Lines.room (store_value g.B.Backing.device g.B.Backing.history g.B.Backing.fault_count) (drop many parts)
    (subst (λ row. AllDevicesTell row) (drop-map g.L.Lines.history many parts) behind))

pub returns-in-Ok-new-clause-long : goal.returns-in-Ok-new-clause-long
returns-in-Ok-new-clause-long g c tell =
    let region = c.args.region in
    let sizes = begun_sizes region.geometry.page region.geometry.entries (length region.names) c.args.pages c.args.cache in
    let enough : 1 + sizes.entries ≤ length region.parts.items = omega (arith, region.is_region.parts.count, length-map region.parts.items g.L.Lines.room) in
    let states = c.rows_have_states.ensures.some (map g.L.Lines.history region.parts.items) tell in
    has_long_parts g.L.Lines.device g.L.Lines.history g.L.Lines.fault_count g.L.Lines.room g.B.Backing.device g.B.Backing.history g.B.Backing.fault_count
    sizes region.next region.parts.items c.args.stores.items c.args.fds _ c.in-Ok-new.pass (returns-in-Ok-new-clause-opened g c) enough c.requires.stores
    region.names refl c.requires.few_pages (region_as c.requires.version region.is_region) g.met.L.Lines.told_lines c.rows_have_states.ensures.each states.states states.are

pub returns-in-Ok-new-clause-lines : goal.returns-in-Ok-new-clause-lines
returns-in-Ok-new-clause-lines g c =
    let region = c.args.region in
    let sizes = begun_sizes region.geometry.page region.geometry.entries (length region.names) c.args.pages c.args.cache in
    let enough : 1 + sizes.entries ≤ length region.parts.items = omega (arith, region.is_region.parts.count, length-map region.parts.items g.L.Lines.room) in
    opens_lines g.L.Lines.device g.L.Lines.history g.L.Lines.fault_count g.L.Lines.room g.B.Backing.device g.B.Backing.history g.B.Backing.fault_count
    sizes region.next region.parts.items c.args.stores.items c.args.fds _ c.in-Ok-new.pass (returns-in-Ok-new-clause-opened g c) enough c.requires.stores
