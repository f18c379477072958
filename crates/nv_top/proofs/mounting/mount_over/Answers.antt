use Rattle.std.proofs.Common.{◌≡◌, ◌+◌, ◌*◌, ◌<◌, List, length, map, refl, sym, ap, subst, ◌∙◌}
use Rattle.std.specs.Prelude.{All, min}
use Rattle.std.proofs.lemmas.List.Elements.{All-map}
use Rattle.nv_plain.specs.Layouts.{mount_layout}
use Rattle.nv_pmem.specs.Part.{Part}
use Rattle.nv_pmem.specs.RowStates.{row_tells_at}
use Rattle.nv_header.proofs.InRow.{region_as}
use Rattle.nv_header.specs.Regions.{IsAtRest}
use Rattle.nv_core.specs.log.LogContent.{OpensLog}
use Rattle.nv_core.specs.state.Values.{Value}
use Rattle.nv_core.specs.state.Words.{Sizes}
use Rattle.nv_recover.specs.Standing.{files_of}
use Rattle.nv_table.specs.state.Opened.{mount_of}
use Rattle.nv_mount.specs.declared.fds.Fd.{Fd}
use Rattle.nv_runner.specs.Faithful.{descriptors_in}
use Rattle.nv_runner.specs.FaithfulRuns.{as_fd}
use Rattle.nv_top.specs.Runs.{IsQuietSpare}
use Rattle.nv_top.proofs.NameLemmas.{descriptors_known}
use Rattle.nv_top.proofs.RowLemmas.{all_tell, stores_have}
use Rattle.nv_top.proofs.RunLemmas.{quiet_behind}
use Rattle.nv_top.proofs.mounting.mount_over.Goals as goal

pub open-requires-clause-fds : goal.open-requires-clause-fds
open-requires-clause-fds g c =
    let names = c.args.region.names in
    let trace = c.args.trace.now in
    let Known : List Fd → Type 0 = λ fds. All (λ (fd : Fd). fd.file < length names) fds in
    subst Known (sym (c.in-Ok.ensures ∙ ap (λ these. map as_fd (descriptors_in these trace)) (c.as_slice.ensures ∙ c.names.ensures)))
    (All-map (λ (fd : Fd). fd.file < length names) as_fd (descriptors_in names trace) (descriptors_known names trace c.requires.well_formed c.requires.known))

pub returns-in-Ok-open-clause-begins : goal.returns-in-Ok-open-clause-begins
returns-in-Ok-open-clause-begins g c parts now parts_are now_are =
    let made = c.in-Ok-open.ensures in
    let begun = made.opened.begun in
    let mount = mount_of c.in-Ok-open.made.0.board.opened in
    let trace = c.args.trace.now in
    let tell = all_tell (map g.L.Lines.history c.args.region.parts.items) parts parts_are in
    record {
      is_mount = record {
        page = sym (ap (λ (s : Sizes). s.page) begun.sizes_are);
        entries = sym (ap (λ (s : Sizes). s.entries) begun.sizes_are);
        pages = sym (ap (λ (s : Sizes). s.pages) begun.sizes_are);
        next = sym begun.next_is;
        names = sym (ap (λ (s : Sizes). s.files) begun.sizes_are);
        fds_are = made.opened.fds_are ∙ c.in-Ok.ensures ∙ ap (λ these. map as_fd (descriptors_in these trace)) (c.as_slice.ensures ∙ c.names.ensures);
        files = made.files (files_of now) (stores_have (map g.B.Backing.history c.args.stores.items) now now_are);
        log = subst (λ n. OpensLog mount n) (sym begun.next_is) (made.log tell);
      };
      region = made.region tell;
      spare = made.spare tell;
      long = made.long tell;
    }

pub returns-in-Ok-open-clause-spare : goal.returns-in-Ok-open-clause-spare
returns-in-Ok-open-clause-spare g c parts are =
    let region = c.args.region in
    let history = g.L.Lines.history in
    let Rest : List Part → Type 0 = IsAtRest mount_layout region.geometry.page region.geometry.entries region.names region.next in
    let rest : Rest parts = row_tells_at (map history region.parts.items) Rest parts are (region_as c.requires.version region.is_region).tells in
    subst (λ (values : List Value). All IsQuietSpare values) (sym c.in-Ok-open.ensures.opened.begun.spare)
    (quiet_behind g.L.Lines.device history g.L.Lines.fault_count g.L.Lines.room (1 + region.geometry.entries) region.parts.items parts are rest.quiet.each)

pub returns-in-Ok-open-clause-cache : goal.returns-in-Ok-open-clause-cache
returns-in-Ok-open-clause-cache g c =
    let Has : Sizes → Type 0 = λ sizes. sizes.buffers ≡ min c.args.options.cache (sizes.files * sizes.pages) in
    subst Has (sym c.in-Ok-open.ensures.opened.begun.sizes_are) refl
