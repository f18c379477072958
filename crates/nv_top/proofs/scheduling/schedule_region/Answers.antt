use Rattle.std.proofs.Common.{[], ◌≡◌, ◌+◌, ℕ, List, IfSome, map, subst, sum_by, sym, ap, arith}
use Rattle.std.proofs.lemmas.Result.{IfOk-weaker}
use Rattle.nv_plain.specs.Faults.{Rose, saturated}
use Rattle.nv_pmem.specs.Part.{Part}
use Rattle.nv_pmem.specs.RowStates.{AreNow, row_tells_at}
use Rattle.nv_store.specs.Store.{Store}
use Rattle.nv_bench.specs.Benches.{BenchState}
use Rattle.nv_recover.specs.Standing.{files_of}
use Rattle.nv_mount.specs.RisenCounts.{failed_before}
use Rattle.nv_open.specs.Unopened.{line_counts}
use Rattle.nv_table.specs.state.Opened.{mount_of}
use Rattle.nv_mount.specs.Telling.{mounted_lines}
use Rattle.nv_runner.specs.Faithful.{Basis}
use Rattle.nv_header.proofs.InRow.{region_as}
use Rattle.nv_top.specs.Runs.{BeginsMount, basis_over}
use Rattle.nv_top.specs.Scheduling.{HasUsedTurns, ShowsScheduled}
use Rattle.nv_top.specs.Stopping.{IsAway}
use Rattle.nv_top.proofs.SchedulingLemmas.{armed_none}
use Rattle.nv_top.proofs.StoppingLemmas.{stop_grows}
use Rattle.std.proofs.Common.{◌∙◌, length, refl}
use Rattle.std.specs.Prelude.{Option, Some, option_map}
use Rattle.std.proofs.lemmas.List.{length-map}
use Rattle.nv_bench.specs.Holding.{Holding, named_stores}
use Rattle.nv_open.proofs.Homes.{all_behind, own_stores}
use Rattle.nv_store.proofs.RowReads.{length_now}
use Rattle.nv_top.specs.Lives.{AreLeftSo, HasLived, TellsNothing}
use Rattle.nv_top.proofs.LifeLemmas.{left_same, lived_home, rest_lives}
use Rattle.nv_top.proofs.RunLemmas.{quiet_stores}
use Rattle.nv_top.proofs.StoppingLemmas.{home_with, if_some}
use Rattle.nv_top.proofs.scheduling.schedule_region.Goals as goal

pub returns-in-Ok-clause-scheduled : goal.returns-in-Ok-clause-scheduled
returns-in-Ok-clause-scheduled g c =
    let history = g.T.Part.Lines.history in
    let held = g.T.Store.Backing.history in
    let region = c.args.opened.region in
    let stores = c.args.opened.stores.items in
    let trace = c.args.trace.now in
    let options = c.args.options in
    let place = c.args.place in
    let final = c.args.last in
    let start = g.T.Bench.state c.args.bench.now in
    let last = g.T.Bench.state c.schedule_mount.new.bench in
    let before = sum_by g.T.Part.Lines.fault_count region.parts.items + sum_by g.T.Store.Backing.fault_count stores in
    let mounted = failed_before c.in-Ok.pass in
    let made = 1 + c.in-Ok.mount.board.opened.sizes.entries + length c.in-Ok.pass.spare in
    IfOk-weaker c.schedule_mount.result
    (λ lines. (basis : Basis) → BeginsMount basis trace c.in-Ok.mount c.in-Ok.pass → basis.names ≡ start.lent
    → IfSome start.told (λ left. IsAway basis.names left → ShowsScheduled (Rose (saturated (start.faults + mounted)) last.faults) options start.picked basis trace made left.stores last place final lines))
    (λ lines. (parts : List Part) (now : List Store) → AreNow (map history region.parts.items) parts → AreNow (map held stores) now
    → IfSome start.told (λ left. IsAway region.names left → ShowsScheduled (Rose (saturated (start.faults + before)) last.faults) options start.picked (basis_over region options.pages (files_of now)) trace (length region.parts.items) left.stores last place final lines))
    (λ lines ran parts now parts_are now_are.
    let basis = basis_over region options.pages (files_of now) in
    let Counted : ℕ → ℕ → Type 0 = λ count many. IfSome start.told (λ left. IsAway region.names left → ShowsScheduled (Rose (saturated (start.faults + count)) last.faults) options start.picked basis trace many left.stores last place final lines) in
    subst (λ many. Counted before many) c.in-Ok.ensures.parts (subst (λ count. Counted count made) c.in-Ok.ensures.counts (ran basis (c.in-Ok.ensures.begins parts now parts_are now_are) (sym c.requires.lent))))
    c.schedule_mount.ensures.scheduled

pub returns-in-Ok-clause-never : goal.returns-in-Ok-clause-never
returns-in-Ok-clause-never g c why is parts now parts_are now_are =
    c.schedule_mount.ensures.never why is (basis_over c.args.opened.region c.args.options.pages (files_of now)) (c.in-Ok.ensures.begins parts now parts_are now_are) (sym c.requires.lent)

pub returns-in-Err-clause-never_falls : goal.returns-in-Err-clause-never_falls
returns-in-Err-clause-never_falls g c =
    let region = c.args.opened.region in
    let failed = c.in-Err.field-0 in
    let before = sum_by g.T.Part.Lines.fault_count region.parts.items + sum_by g.T.Store.Backing.fault_count c.args.opened.stores.items in
    let now = sum_by g.T.Part.Lines.fault_count failed.parts.items + sum_by g.T.Store.Backing.fault_count failed.stores.items in
    omega (arith, stop_grows before now failed.stop c.in-Err.ensures.cause, ap (λ (s : BenchState). s.faults) c.give_back.ensures.taken, c.requires.before)

pub returns-in-Err-clause-cuts : goal.returns-in-Err-clause-cuts
returns-in-Err-clause-cuts g c =
    armed_none c.args.trace.now.tokens (g.T.Bench.state c.args.bench.now) (g.T.Bench.state c.give_back.new.self)
    (ap (λ (s : BenchState). s.arms) c.give_back.ensures.taken) (ap (λ (s : BenchState). s.armed) c.give_back.ensures.taken)

pub returns-in-Ok-clause-life : goal.returns-in-Ok-clause-life
returns-in-Ok-clause-life g c parts now parts_are now_are =
    let region = c.args.opened.region in
    let start = g.T.Bench.state c.args.bench.now in
    let last = g.T.Bench.state c.schedule_mount.new.bench in
    let basis = basis_over region c.args.options.pages (files_of now) in
    subst (λ counts. IfSome start.told (λ left. IsAway region.names left → HasLived TellsNothing basis c.args.trace.now [] counts left.stores last.told))
    (row_tells_at (map g.T.Part.Lines.history region.parts.items) (λ told. mounted_lines (mount_of c.in-Ok.mount.board.opened) c.in-Ok.pass.spare ≡ line_counts told) parts parts_are c.in-Ok.ensures.lines)
    (c.schedule_mount.ensures.life basis (c.in-Ok.ensures.begins parts now parts_are now_are) (sym c.requires.lent))

pub returns-in-Err-clause-life : goal.returns-in-Err-clause-life
returns-in-Err-clause-life g c parts now parts_are now_are =
    let history = g.T.Part.Lines.history in
    let held = g.T.Store.Backing.history in
    let region = c.args.opened.region in
    let stores = c.args.opened.stores.items in
    let trace = c.args.trace.now in
    let start = g.T.Bench.state c.args.bench.now in
    let home = g.T.Bench.state c.give_back.new.self in
    let basis = basis_over region c.args.options.pages (files_of now) in
    let rest = rest_lives {Tells = TellsNothing} history held basis trace region.parts.items stores parts now region.next parts_are now_are (region_as c.args.opened.version region.is_region).tells (quiet_stores held stores now now_are c.requires.synced) refl tt in
    let left_so : AreLeftSo TellsNothing history held basis trace [] (line_counts parts) c.in-Err.field-0.parts.items c.in-Err.field-0.stores.items = left_same history held basis trace [] (line_counts parts) c.in-Err.field-0.parts.items region.parts.items c.in-Err.field-0.stores.items stores c.in-Err.ensures.same_parts c.in-Err.ensures.same_stores rest in
    if_some start.told (λ left. IsAway region.names left → HasLived TellsNothing basis trace [] (line_counts parts) left.stores home.told) (λ left told_is away.
    lived_home basis trace [] history held c.in-Err.field-0.parts.items c.in-Err.field-0.stores.items (line_counts parts) home.told left.stores (λ holding is. g.met.T.Bench.whole c.give_back.new.self holding is) left_so
    (λ disks are. all_behind region.names left.stores (named_stores region.names disks) away
    ∙ own_stores region.names disks (sym (length_now (map held c.in-Err.field-0.stores.items) disks are ∙ ap length (c.in-Err.ensures.same_stores) ∙ length-map stores held ∙ c.requires.stores)) region.is_region.names_are.distinct)
    (λ back disks back_are disks_are. c.give_back.ensures.told back disks back_are disks_are
    ∙ ap (λ (told : Option Holding). option_map (λ (holding : Holding). home_with holding start.lent back disks) told) told_is ∙ ap (λ names. Some (home_with left names back disks)) c.requires.lent))

pub returns-in-Ok-clause-used : goal.returns-in-Ok-clause-used
returns-in-Ok-clause-used g c is parts now parts_are now_are =
    let region = c.args.opened.region in
    let options = c.args.options in
    let start = g.T.Bench.state c.args.bench.now in
    let last = g.T.Bench.state c.schedule_mount.new.bench in
    let before = sum_by g.T.Part.Lines.fault_count region.parts.items + sum_by g.T.Store.Backing.fault_count c.args.opened.stores.items in
    let made = 1 + c.in-Ok.mount.board.opened.sizes.entries + length c.in-Ok.pass.spare in
    let basis = basis_over region options.pages (files_of now) in
    let Counted : ℕ → ℕ → Type 0 = λ count many. IfSome start.told (λ left. IsAway region.names left → HasUsedTurns (Rose (saturated (start.faults + count)) last.faults) options basis c.args.trace.now many left.stores start last) in
    subst (λ many. Counted before many) c.in-Ok.ensures.parts (subst (λ count. Counted count made) c.in-Ok.ensures.counts
    (c.schedule_mount.ensures.used is basis (c.in-Ok.ensures.begins parts now parts_are now_are) (sym c.requires.lent)))
