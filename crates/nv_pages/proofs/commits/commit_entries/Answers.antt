-- What the pass has by the core's invariant is what the calls ask, and what is told of the calls are the device calls that are due.
use Rattle.std.proofs.Common.{◌≡◌, ℕ, length, arith, ap, subst, sym, refl, ◌∙◌, map}
use Rattle.std.specs.Prelude.{All}
use Rattle.nv_plain.specs.Pieces.{pages_touched}
use Rattle.nv_entry.specs.Group.{IsReady}
use Rattle.nv_core.specs.state.Words.{Sizes}
use Rattle.nv_table.specs.state.Keys.{sizes_of}
use Rattle.nv_table.specs.state.Opened.{Opened}
use Rattle.nv_table.specs.state.Views.{values_of}
use Rattle.nv_pages.specs.CommitCalls.{entry_cell}
use Rattle.nv_pages.proofs.CommittingLaws.{IsReadyToCommit, ready_to_commit, parts_ready, same_count, entries_then, out_then, made}
use Rattle.nv_pages.proofs.commits.commit_entries.Given.{Over}
use Rattle.nv_pages.proofs.commits.commit_entries.Goals.{After-layout-layout, After-commit_group-written}
use Rattle.nv_pages.proofs.commits.commit_entries.Goals as goal

-- the board is of the mount of its pass
same_sizes : (g : Over) (c : After-layout-layout g) → sizes_of c.layout-layout.result ≡ c.args.pass.now.view.opened.sizes
same_sizes g c = c.layout-layout.ensures ∙ ap (λ (opened : Opened). opened.sizes) (sym c.requires.board.same_mount)

-- a commit of so many entries may begin
ready : (g : Over) (c : After-layout-layout g) (count : ℕ) → count ≡ pages_touched c.args.at (length c.args.bytes.now) c.layout-layout.result.page → IsReadyToCommit c.args.pass.now c.args.first c.args.at c.args.bytes.now count
ready g c count many =
    ready_to_commit (sizes_of c.layout-layout.result) count c.args.pass.now c.args.first c.args.file c.args.at c.args.bytes.now
    c.layout-layout.result.limits (same_sizes g c) c.runs_are_sound.ensures.runs c.sees_a_run.ensures.mount c.sees_a_run.ensures.run c.requires.write many

-- the parts are on the devices that they were on
same_devices : (g : Over) (c : After-commit_group-written g) → map g.L.Lines.device c.commit_group-written.new.parts.items ≡ map g.L.Lines.device c.take_parts.new.parts.items
same_devices g c = c.commit_group-written.ensures.devices

pub piece_count-count-requires-clause-range : goal.piece_count-count-requires-clause-range
piece_count-count-requires-clause-range g c =
    (ready g (goal.at.piece_count-count-requires-clause-range g c).After-layout-layout _ refl).range

pub take_parts-requires-clause-entries : goal.take_parts-requires-clause-entries
take_parts-requires-clause-entries g c =
    (ready g (goal.at.take_parts-requires-clause-entries g c).After-layout-layout c.piece_count-count.result c.piece_count-count.ensures).entries

pub take_parts-requires-clause-small : goal.take_parts-requires-clause-small
take_parts-requires-clause-small g c =
    (ready g (goal.at.take_parts-requires-clause-small g c).After-layout-layout c.piece_count-count.result c.piece_count-count.ensures).small

pub commit_group-written-requires-clause-some : goal.commit_group-written-requires-clause-some
commit_group-written-requires-clause-some g c =
    let may = ready g (goal.at.commit_group-written-requires-clause-some g c).After-layout-layout c.piece_count-count.result c.piece_count-count.ensures in
    let some = may.some in let count = c.take_parts.ensures.count in let ok = c.take_parts.new.parts.ok.0 in omega (arith, some, count, ok)

pub commit_group-written-requires-clause-pieces : goal.commit_group-written-requires-clause-pieces
commit_group-written-requires-clause-pieces g c =
    let pieces = c.piece_count-count.ensures in let count = c.take_parts.ensures.count in let ok = c.take_parts.new.parts.ok.0 in omega (arith, pieces, count, ok)

pub commit_group-written-requires-clause-range : goal.commit_group-written-requires-clause-range
commit_group-written-requires-clause-range g c =
    (ready g (goal.at.commit_group-written-requires-clause-range g c).After-layout-layout c.piece_count-count.result c.piece_count-count.ensures).range

pub commit_group-written-requires-clause-numbers : goal.commit_group-written-requires-clause-numbers
commit_group-written-requires-clause-numbers g c =
    let may = ready g (goal.at.commit_group-written-requires-clause-numbers g c).After-layout-layout c.piece_count-count.result c.piece_count-count.ensures in
    let small = may.small in let count = c.take_parts.ensures.count in let ok = c.take_parts.new.parts.ok.0 in omega (arith, small, count, ok)

pub commit_group-written-requires-clause-ready : goal.commit_group-written-requires-clause-ready
commit_group-written-requires-clause-ready g c =
    let sizes = c.args.pass.now.view.opened.sizes in
    let same = same_sizes g (goal.at.commit_group-written-requires-clause-ready g c).After-layout-layout in
    let may = ready g (goal.at.commit_group-written-requires-clause-ready g c).After-layout-layout c.piece_count-count.result c.piece_count-count.ensures in
    let items = c.take_parts.new.parts.items in
    subst (λ (s : Sizes). All (λ part. IsReady s.page (g.L.Lines.room part)) items) (sym same)
    (parts_ready g.L.Lines.device g.L.Lines.history g.L.Lines.fault_count g.L.Lines.room sizes items (λ i. values_of c.args.pass.now.view (entry_cell sizes c.args.first i))
    (λ i less. c.take_parts.ensures.parts i (let count = c.take_parts.ensures.count in omega (arith, less, count)))
    (λ i less. may.entries.ready i (let count = c.take_parts.ensures.count in omega (arith, less, count))))

pub lay_parts-requires-clause-entries : goal.lay_parts-requires-clause-entries
lay_parts-requires-clause-entries g c =
    let items = c.take_parts.new.parts in
    let same = same_sizes g (goal.at.lay_parts-requires-clause-entries g c).After-layout-layout in
    let may = ready g (goal.at.lay_parts-requires-clause-entries g c).After-layout-layout c.piece_count-count.result c.piece_count-count.ensures in
    let devices = same_devices g (goal.at.lay_parts-requires-clause-entries g c).After-commit_group-written in
    entries_then g.L.Lines.device g.L.Lines.history g.L.Lines.fault_count g.L.Lines.room c.args.pass.now c.take_parts.new.pass c.take_parts.new.pass (sizes_of c.layout-layout.result) c.args.first c.args.file c.args.at c.args.bytes.now
    items.items _ c.commit_group-written.result c.piece_count-count.result same c.requires.write may.entries c.commits_are_due.ensures c.take_parts.ensures.laid c.take_parts.ensures.count devices

pub lay_parts-requires-clause-small : goal.lay_parts-requires-clause-small
lay_parts-requires-clause-small g c =
    let items = c.take_parts.new.parts in
    let same = same_sizes g (goal.at.lay_parts-requires-clause-small g c).After-layout-layout in
    let may = ready g (goal.at.lay_parts-requires-clause-small g c).After-layout-layout c.piece_count-count.result c.piece_count-count.ensures in
    let devices = same_devices g (goal.at.lay_parts-requires-clause-small g c).After-commit_group-written in
    let many = same_count g.L.Lines.device items.items _ devices in let count = c.take_parts.ensures.count in let small = may.small in omega (arith, small, many, count)

pub lay_parts-requires-clause-out : goal.lay_parts-requires-clause-out
lay_parts-requires-clause-out g c =
    let items = c.take_parts.new.parts in
    let same = same_sizes g (goal.at.lay_parts-requires-clause-out g c).After-layout-layout in
    let may = ready g (goal.at.lay_parts-requires-clause-out g c).After-layout-layout c.piece_count-count.result c.piece_count-count.ensures in
    let devices = same_devices g (goal.at.lay_parts-requires-clause-out g c).After-commit_group-written in
    out_then g.L.Lines.device g.L.Lines.history g.L.Lines.fault_count g.L.Lines.room c.args.pass.now c.take_parts.new.pass c.take_parts.new.pass (sizes_of c.layout-layout.result) c.args.first c.args.file c.args.at c.args.bytes.now
    items.items _ c.commit_group-written.result c.piece_count-count.result same c.requires.write may.entries c.commits_are_due.ensures c.take_parts.ensures.laid c.take_parts.ensures.count devices

pub returns-clause-committed : goal.returns-clause-committed
returns-clause-committed g c =
    let items = c.take_parts.new.parts in
    let same = same_sizes g (goal.at.returns-clause-committed g c).After-layout-layout in
    let may = ready g (goal.at.returns-clause-committed g c).After-layout-layout c.piece_count-count.result c.piece_count-count.ensures in
    let devices = same_devices g (goal.at.returns-clause-committed g c).After-commit_group-written in
    made g.L.Lines.device g.L.Lines.history g.L.Lines.fault_count g.L.Lines.room c.args.pass.now c.take_parts.new.pass c.lay_parts.new.pass (sizes_of c.layout-layout.result) c.args.first c.args.file c.args.at c.args.bytes.now
    items.items _ c.commit_group-written.result c.piece_count-count.result same c.requires.write may.entries c.commits_are_due.ensures c.take_parts.ensures.laid c.take_parts.ensures.count devices
    c.piece_count-count.ensures c.take_parts.ensures.parts
    c.commit_group-written.ensures.calls
    c.lay_parts.ensures.laid
