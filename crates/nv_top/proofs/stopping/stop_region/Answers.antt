use Rattle.std.proofs.Common.{[], ◌≡◌, ◌+◌, ◌∙◌, ℕ, List, IfSome, map, sum_by, sym, subst, ap, arith, refl, length}
use Rattle.std.specs.Global.{Vec}
use Rattle.std.specs.Prelude.{Err, Option, Some, option_map}
use Rattle.std.proofs.lemmas.List.{length-map}
use Rattle.nv_top.proofs.RanLemmas.{told_at_hand}
use Rattle.nv_runner.specs.ToldRounds.{TellsRounds}
use Rattle.nv_plain.specs.Faults.{Rose}
use Rattle.nv_plain.specs.Faults.{saturated}
use Rattle.nv_pmem.specs.Part.{Part}
use Rattle.nv_pmem.specs.RowStates.{AreNow, row_tells_at}
use Rattle.nv_store.specs.Store.{Store}
use Rattle.nv_recover.specs.Standing.{files_of}
use Rattle.nv_open.specs.Unopened.{line_counts}
use Rattle.nv_table.specs.state.Opened.{mount_of}
use Rattle.nv_mount.specs.Telling.{mounted_lines}
use Rattle.nv_runner.specs.Faithful.{Basis}
use Rattle.nv_runner.specs.declared.stream.StreamError.TheVariants as ends
use Rattle.nv_header.proofs.InRow.{region_as}
use Rattle.nv_top.specs.Runs.{BeginsMount, basis_over}
use Rattle.nv_top.specs.Stopping.{IsAway}
use Rattle.nv_top.specs.Stops.{CountHasCause}
use Rattle.nv_top.specs.declared.show.Show.TheVariants as shows
use Rattle.nv_bench.specs.Benches.{BenchState}
use Rattle.nv_bench.specs.Holding.{Holding, named_stores}
use Rattle.nv_open.proofs.Homes.{all_behind, own_stores}
use Rattle.nv_store.proofs.RowReads.{length_now}
use Rattle.nv_top.specs.Lives.{AreLeftSo, HasLived}
use Rattle.nv_top.proofs.CauseLemmas.{cause_saturated}
use Rattle.nv_top.proofs.LifeLemmas.{left_same, lived_home, rest_lives}
use Rattle.nv_top.proofs.RanLemmas.{begins_all, runnable_all, unread}
use Rattle.nv_top.proofs.ReportedLemmas.{counted_not_turns, same_stop}
use Rattle.nv_top.proofs.RunLemmas.{quiet_stores}
use Rattle.nv_top.proofs.StoppingLemmas.{home_with, if_some, stop_grows}
use Rattle.nv_top.proofs.StreamStopLemmas.{stopped_as}
use Rattle.nv_top.proofs.stopping.stop_region.Goals as goal

pub returns-in-Ok-clause-ran : goal.returns-in-Ok-clause-ran
returns-in-Ok-clause-ran g c =
    let region = c.args.opened.region in
    let start = g.T.Bench.state c.args.bench.now in
    let input = c.args.input.now in
    let mount = c.in-Ok.mount in
    let pass = c.in-Ok.pass in
    let ran = c.stop_mount.ensures.ran in
    let lines = λ (parts : List Part). row_tells_at (map g.T.Part.Lines.history region.parts.items) (λ told. mounted_lines (mount_of mount.board.opened) pass.spare ≡ line_counts told) parts in
    stopped_as ran (λ basis counts over.
    let begins = begins_all shows.Report input (g.I.Source.left c.args.src.now) ran.ended ran.all ran.streamed.trace _ mount pass (c.in-Ok.ensures.begins over.0 over.1 over.2 over.3) in
    (subst (λ basis. BeginsMount basis ran.all mount pass) (sym over.4) begins, ap (λ (basis : Basis). basis.names) over.4 ∙ sym c.requires.lent, over.5 ∙ sym (lines over.0 over.2 c.in-Ok.ensures.lines)))
    (ap (λ count. saturated (start.faults + count)) c.in-Ok.ensures.counts) c.in-Ok.ensures.parts

pub returns-in-Err-clause-ran : goal.returns-in-Err-clause-ran
returns-in-Err-clause-ran g c =
    let history = g.T.Part.Lines.history in
    let held = g.T.Store.Backing.history in
    let region = c.args.opened.region in
    let stores = c.args.opened.stores.items in
    let input = c.args.input.now in
    let trace = input.trace in
    let start = g.T.Bench.state c.args.bench.now in
    let home = g.T.Bench.state c.give_back.new.self in
    let failed = c.in-Err.field-0 in
    let taken = c.give_back.ensures.taken in
    let streamed = unread shows.Report input (g.I.Source.left c.args.src.now) (g.O.Sink.written c.args.out.now) (g.I.Source.fault_count c.args.src.now) (g.O.Sink.fault_count c.args.out.now) c.requires.input c.requires.well_formed in
    let before = sum_by g.T.Part.Lines.fault_count region.parts.items + sum_by g.T.Store.Backing.fault_count stores in
    let after = sum_by g.T.Part.Lines.fault_count failed.parts.items + sum_by g.T.Store.Backing.fault_count failed.stores.items in
    let cause : CountHasCause {T = Vec ℕ} (saturated (start.faults + before)) home.faults (Err failed.stop) =
    cause_saturated {T = Vec ℕ} start.faults before after (saturated (start.faults + before)) home.faults (Err failed.stop) refl (ap (λ (s : BenchState). s.faults) taken) c.in-Err.ensures.cause in
    let tells : (basis : Basis) → TellsRounds (Rose (saturated (start.faults + before)) home.faults) c.args.options.worker basis trace [] [] = λ basis. told_at_hand _ c.args.options.worker basis input.more trace input.reader c.requires.input in
    let over_region = λ (parts : List Part) (now : List Store) (parts_are : AreNow (map history region.parts.items) parts) (now_are : AreNow (map held stores) now).
    let basis = basis_over region c.args.options.pages (files_of now) in
    let rest = rest_lives {Tells = TellsRounds (Rose (saturated (start.faults + before)) home.faults) c.args.options.worker} history held basis trace region.parts.items stores parts now region.next parts_are now_are (region_as c.args.opened.version region.is_region).tells (quiet_stores held stores now now_are c.requires.synced) refl (tells basis) in
    let left_so : AreLeftSo (TellsRounds (Rose (saturated (start.faults + before)) home.faults) c.args.options.worker) history held basis trace [] (line_counts parts) failed.parts.items failed.stores.items =
    left_same history held basis trace [] (line_counts parts) failed.parts.items region.parts.items failed.stores.items stores c.in-Err.ensures.same_parts c.in-Err.ensures.same_stores rest in
    if_some start.told (λ left. IsAway region.names left → HasLived (TellsRounds (Rose (saturated (start.faults + before)) home.faults) c.args.options.worker) basis trace [] (line_counts parts) left.stores home.told) (λ left told_is away.
    lived_home basis trace [] history held failed.parts.items failed.stores.items (line_counts parts) home.told left.stores (λ holding is. g.met.T.Bench.whole c.give_back.new.self holding is) left_so
    (λ disks are. all_behind region.names left.stores (named_stores region.names disks) away
    ∙ own_stores region.names disks (sym (length_now (map held failed.stores.items) disks are ∙ ap length c.in-Err.ensures.same_stores ∙ length-map stores held ∙ c.requires.stores)) region.is_region.names_are.distinct)
    (λ back disks back_are disks_are. c.give_back.ensures.told back disks back_are disks_are
    ∙ ap (λ (told : Option Holding). option_map (λ (holding : Holding). home_with holding start.lent back disks) told) told_is ∙ ap (λ names. Some (home_with left names back disks)) c.requires.lent)) in
    record {
      ended = Err ends.NoMemory;
      told = Err failed.stop;
      answered = refl;
      all = trace;
      shown = [];
      streamed = streamed;
      memory = λ is. refl;
      runnable = runnable_all shows.Report input (g.I.Source.left c.args.src.now) (Err ends.NoMemory) trace c.requires.input streamed.trace;
      turns = counted_not_turns (saturated (start.faults + before)) home.faults (Err failed.stop) cause;
      settled = λ armed. absurd (omega (arith, armed, ap (λ (s : BenchState). s.arms) taken));
      cause = λ same. cause;
      never = λ why is basis counts over. absurd (c.in-Err.ensures.never why (same_stop failed.stop _ is));
      life = λ basis counts over.
          let parts = over.0 in
          let lived = over_region parts over.1 over.2 over.3 in
          let Lived : Basis → List ℕ → Type 0 = λ basis counts. IfSome start.told (λ left. IsAway basis.names left → HasLived (TellsRounds (Rose (saturated (start.faults + before)) home.faults) c.args.options.worker) basis trace [] counts left.stores home.told) in
          subst (λ basis. Lived basis counts) (sym over.4) (subst (λ counts. Lived (basis_over region c.args.options.pages (files_of over.1)) counts) (sym over.5) lived);
      ran = tt;
    }

pub returns-in-Err-clause-never_falls : goal.returns-in-Err-clause-never_falls
returns-in-Err-clause-never_falls g c =
    let region = c.args.opened.region in
    let failed = c.in-Err.field-0 in
    let before = sum_by g.T.Part.Lines.fault_count region.parts.items + sum_by g.T.Store.Backing.fault_count c.args.opened.stores.items in
    let now = sum_by g.T.Part.Lines.fault_count failed.parts.items + sum_by g.T.Store.Backing.fault_count failed.stores.items in
    omega (arith, stop_grows before now failed.stop c.in-Err.ensures.cause, ap (λ (s : BenchState). s.faults) c.give_back.ensures.taken)
