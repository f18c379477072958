use Rattle.std.proofs.Common.{◌≡◌, ◌+◌, ◌<◌, ◌∙◌, sum_by, [], ℕ, List, All, Err, None, Some, length, map, refl, sym, ap, subst, arith}
use Rattle.std.specs.Prelude.{IfSome}
use Rattle.std.proofs.lemmas.Result.{IfOk-weaker, on_ok_weaker}
use Rattle.nv_plain.specs.Faults.{Rose, saturated}
use Rattle.nv_pmem.specs.Part.{Part}
use Rattle.nv_pmem.specs.RowStates.{AreNow, row_tells_at}
use Rattle.nv_pmem.specs.declared.picker.Pick.{Pick}
use Rattle.nv_store.specs.Store.{Store}
use Rattle.nv_bench.specs.Benches.{BenchState}
use Rattle.nv_bench.specs.Holding.{Holding, IsQuietHolding, NamedStore}
use Rattle.nv_open.specs.Adding.{all_names}
use Rattle.nv_open.specs.Lending.{without_stores}
use Rattle.nv_open.specs.Unopened.{line_counts}
use Rattle.nv_open.specs.declared.error.OpenError.TheVariants.{Refused}
use Rattle.nv_open.proofs.Homes.{all_away}
use Rattle.nv_recover.specs.Standing.{files_of}
use Rattle.nv_trace.specs.Said.{said_place}
use Rattle.nv_top.specs.Followed.{HasUsedTurnsOn, ShowsFollowed}
use Rattle.nv_top.specs.Headline.{IsRunRefused}
use Rattle.nv_top.specs.Runs.{basis_over}
use Rattle.nv_top.specs.Scheduling.{HasUsedTurns, ShowsScheduled}
use Rattle.nv_top.specs.Stopping.{IsAway}
use Rattle.nv_top.specs.Stops.{stop_of_opening}
use Rattle.nv_top.specs.declared.ending.Stop.TheVariants.{Region}
use Rattle.nv_top.proofs.CommandLemmas.{if_told, mid_told, told_at}
use Rattle.nv_top.proofs.HeadlineLemmas.{home_distinct, quiet_left}
use Rattle.nv_top.proofs.NameLemmas.{wanted_known}
use Rattle.nv_top.proofs.ReportedLemmas.{opened_basis, refused_life, run_refused}
use Rattle.nv_top.proofs.RowLemmas.{made_many, present}
use Rattle.nv_top.proofs.SchedulingLemmas.{all_from_lent, armed_none, from_lent, used_from_lent}
use Rattle.nv_top.proofs.StopLemmas.{err_has, opening_refused}
use Rattle.std.proofs.Common.{inr}
use Rattle.nv_top.specs.Lives.{HasLived, LeavesRun, TellsNothing}
use Rattle.nv_bench.specs.Opening.{opened as opened_parts}
use Rattle.nv_open.proofs.Layers.{good_begun}
use Rattle.nv_top.proofs.LifeLemmas.{lived_on, still_run}
use Rattle.nv_top.proofs.scheduling.follow_life.Goals as goal

-- a bench that tells isn't one that doesn't
not_both : {holding : Holding} → Some holding ≡ None → ⊥
not_both is = cc

pub schedule_region-requires-clause-quiet : goal.schedule_region-requires-clause-quiet
schedule_region-requires-clause-quiet g c κs within =
    let old = g.T.Bench.state c.args.bench.now in
    let With : BenchState → Type 0 = λ bench. IfSome bench.told IsQuietHolding in
    subst With (sym c.in_ok-opened.ensures.lent) (quiet_left c.images_follow_calls.ensures.blank c.in_ok-opened.opened.region.names old.told c.requires.at_home.quiet)

pub schedule_region-requires-clause-known : goal.schedule_region-requires-clause-known
schedule_region-requires-clause-known g c κs within =
    let known = c.in_ok-opened.ensures.known in
    let Known : List (List ℕ) → Type 0 = λ names. All (λ name. said_place name names < length names) c.args.trace.now.names in
    let wanted = c.in_ok-wanted.ensures ∙ c.names.ensures in
    subst Known (sym (known.1 ∙ ap (all_names known.0) wanted)) (wanted_known known.0 c.args.trace.now.names)

pub returns-clause-followed : goal.returns-clause-followed
returns-clause-followed g c =
    let history = g.T.Part.Lines.history in
    let held = g.T.Store.Backing.history in
    let old = g.T.Bench.state c.args.bench.now in
    let mid = g.T.Bench.state c.open.new.bench in
    let new = g.T.Bench.state c.schedule_region.new.bench in
    let trace = c.args.trace.now in
    let options = c.args.options in
    let place = c.args.place in
    let final = c.args.last in
    let made = c.in_ok-opened.ensures in
    let region = c.in_ok-opened.opened.region in
    let backing = c.in_ok-opened.opened.stores.items in
    let lent = saturated (mid.faults + (sum_by g.T.Part.Lines.fault_count region.parts.items + sum_by g.T.Store.Backing.fault_count backing)) in
    IfOk-weaker c.schedule_region.result
    (λ lines. (parts : List Part) (now : List Store) → AreNow (map history region.parts.items) parts → AreNow (map held backing) now
    → IfSome mid.told (λ left. IsAway region.names left → ShowsScheduled (Rose lent new.faults) options mid.picked (basis_over region options.pages (files_of now)) trace (length region.parts.items) left.stores new place final lines))
    (λ lines. IfSome old.told (λ holding. ShowsFollowed (Rose old.faults new.faults) options old.picked holding new trace place final lines))
    (λ lines ran.
    if_told old.told (λ holding. ShowsFollowed (Rose old.faults new.faults) options old.picked holding new trace place final lines) (λ holding told.
    let opened = told_at old.told _ holding told made.opened in
    let parts = present (map history region.parts.items) (told_at old.told _ holding told made.tell) in
    let basis = basis_over region options.pages (files_of opened.files.held) in
    let left : Holding = record { parts = []; stores = without_stores region.names holding.stores } in
    let Over : ℕ → List Pick → ℕ → List NamedStore → Type 0 = λ count before many others. ShowsScheduled (Rose count new.faults) options before basis trace many others new place final lines in
    let parts_made = made_many history region.parts.items _ parts (told_at old.told _ holding told made.lines) in
    let same : lent ≡ old.faults = omega (arith, made.counts) in
    let scheduled =
    subst (λ many. Over old.faults old.picked many left.stores) parts_made (subst (λ before. Over old.faults before (length region.parts.items) left.stores) (ap (λ (state : BenchState). state.picked) made.lent)
    (subst (λ count. Over count mid.picked (length region.parts.items) left.stores) same
    (told_at mid.told (λ left. IsAway region.names left → Over lent mid.picked (length region.parts.items) left.stores) left (mid_told old mid region.names holding made.lent c.requires.at_home.home told)
    (ran parts.states opened.files.held parts.are opened.files.are)
    (all_away region.names holding.stores (home_distinct old holding (g.met.T.Bench.named c.args.bench.now) told c.requires.at_home.home))))) in
    (record { basis = basis; begun = opened_basis options holding _ _ trace.names _ _ _ _ _ opened refl refl (c.in_ok-wanted.ensures ∙ c.names.ensures); scheduled = scheduled.0 }, scheduled.1)))
    c.schedule_region.ensures.scheduled

pub returns-clause-refused : goal.returns-clause-refused
returns-clause-refused g c why is =
    let old = g.T.Bench.state c.args.bench.now in
    let mid = g.T.Bench.state c.open.new.bench in
    let new = g.T.Bench.state c.schedule_region.new.bench in
    let made = c.in_ok-opened.ensures in
    let region = c.in_ok-opened.opened.region in
    let names = c.args.trace.now.names in
    if_told old.told (λ holding. IsRunRefused c.args.options holding names old new why × (new.picked ≡ old.picked)) (λ holding told.
    let opened = told_at old.told _ holding told made.opened in
    let parts = present (map g.T.Part.Lines.history region.parts.items) (told_at old.told _ holding told made.tell) in
    let some = mid_told old mid region.names holding made.lent c.requires.at_home.home told in
    let none = c.schedule_region.ensures.never why is parts.states opened.files.held parts.are opened.files.are in
    absurd (not_both (sym some ∙ none)))

pub returns-clause-unarmed : goal.returns-clause-unarmed
returns-clause-unarmed g c why is =
    let old = g.T.Bench.state c.args.bench.now in
    let mid = g.T.Bench.state c.open.new.bench in
    let new = g.T.Bench.state c.schedule_region.new.bench in
    let made = c.in_ok-opened.ensures in
    let region = c.in_ok-opened.opened.region in
    if_told old.told (λ holding. new.arms ≡ old.arms) (λ holding told.
    let opened = told_at old.told _ holding told made.opened in
    let parts = present (map g.T.Part.Lines.history region.parts.items) (told_at old.told _ holding told made.tell) in
    let some = mid_told old mid region.names holding made.lent c.requires.at_home.home told in
    absurd (not_both (sym some ∙ c.schedule_region.ensures.never why is parts.states opened.files.held parts.are opened.files.are)))

pub returns-in_err-opened-clause-unarmed : goal.returns-in_err-opened-clause-unarmed
returns-in_err-opened-clause-unarmed g c why is =
    let old = g.T.Bench.state c.args.bench.now in
    if_told old.told (λ holding. (g.T.Bench.state c.open.new.bench).arms ≡ old.arms) (λ holding told. ap (λ (state : BenchState). state.arms) c.in_err-opened.ensures.back)

pub returns-in_err-opened-clause-refused : goal.returns-in_err-opened-clause-refused
returns-in_err-opened-clause-refused g c why is =
    let old = g.T.Bench.state c.args.bench.now in
    let new = g.T.Bench.state c.open.new.bench in
    let error = c.in_err-opened.field-0.0 in
    let options = c.args.options in
    let names = c.args.trace.now.names in
    let stop : Region why ≡ stop_of_opening error = err_has c.from_residual-in_err-opened.result (λ stop. stop ≡ stop_of_opening error) (Region why) is c.from_residual-in_err-opened.ensures.1 in
    let error_is = opening_refused error why (sym stop) in
    let refused = run_refused options _ names old new (c.in_ok-wanted.ensures ∙ c.names.ensures) why _ (c.in_err-opened.ensures.refused why (ap Err error_is))
    (c.in_err-opened.ensures.unwritten why (ap Err error_is)) (λ many. c.in_err-opened.ensures.rests (ap Err (error_is ∙ ap Refused many))) refl refl in
    if_told old.told (λ holding. IsRunRefused options holding names old new why × (new.picked ≡ old.picked)) (λ holding told. (
      told_at old.told (λ holding. IsRunRefused options holding names old new why) holding told refused,
      ap (λ (state : BenchState). state.picked) c.in_err-opened.ensures.back,
    ))

pub returns-in_err-wanted-clause-cuts : goal.returns-in_err-wanted-clause-cuts
returns-in_err-wanted-clause-cuts g c = armed_none c.args.trace.now.tokens (g.T.Bench.state c.args.bench.now) (g.T.Bench.state c.args.bench.now) refl refl

pub returns-in_err-opened-clause-cuts : goal.returns-in_err-opened-clause-cuts
returns-in_err-opened-clause-cuts g c =
    armed_none c.args.trace.now.tokens (g.T.Bench.state c.args.bench.now) (g.T.Bench.state c.open.new.bench)
    (ap (λ (s : BenchState). s.arms) c.in_err-opened.ensures.back) (ap (λ (s : BenchState). s.armed) c.in_err-opened.ensures.back)

pub returns-clause-cuts : goal.returns-clause-cuts
returns-clause-cuts g c =
    from_lent c.args.trace.now.tokens (g.T.Bench.state c.args.bench.now) (g.T.Bench.state c.open.new.bench) (g.T.Bench.state c.schedule_region.new.bench)
    (ap (λ (s : BenchState). s.arms) c.in_ok-opened.ensures.lent) (ap (λ (s : BenchState). s.armed) c.in_ok-opened.ensures.lent) c.schedule_region.ensures.cuts

pub returns-clause-all_cuts : goal.returns-clause-all_cuts
returns-clause-all_cuts g c =
    let tokens = c.args.trace.now.tokens in
    let old = g.T.Bench.state c.args.bench.now in
    let lent = g.T.Bench.state c.open.new.bench in
    let new = g.T.Bench.state c.schedule_region.new.bench in
    on_ok_weaker c.schedule_region.result
    (all_from_lent tokens old lent new (ap (λ (s : BenchState). s.arms) c.in_ok-opened.ensures.lent) (ap (λ (s : BenchState). s.armed) c.in_ok-opened.ensures.lent)) c.schedule_region.ensures.all_cuts

pub returns-in_err-wanted-clause-life : goal.returns-in_err-wanted-clause-life
returns-in_err-wanted-clause-life g c =
    let old = g.T.Bench.state c.args.bench.now in
    still_run _ old old c.args.options c.args.trace.now c.images_follow_calls.ensures.quiet refl c.requires.at_home.quiet

pub returns-clause-life : goal.returns-clause-life
returns-clause-life g c =
    let history = g.T.Part.Lines.history in
    let old = g.T.Bench.state c.args.bench.now in
    let mid = g.T.Bench.state c.open.new.bench in
    let new = g.T.Bench.state c.schedule_region.new.bench in
    let trace = c.args.trace.now in
    let made = c.in_ok-opened.ensures in
    let region = c.in_ok-opened.opened.region in
    if_told old.told (λ was. LeavesRun TellsNothing c.args.options was trace [] new.told) (λ holding told.
    let opened = told_at old.told _ holding told made.opened in
    let parts = present (map history region.parts.items) (told_at old.told _ holding told made.tell) in
    let basis = basis_over region c.args.options.pages (files_of opened.files.held) in
    let left : Holding = record { parts = []; stores = without_stores region.names holding.stores } in
    let begun = opened_basis c.args.options holding _ _ trace.names _ _ _ _ _ opened refl refl (c.in_ok-wanted.ensures ∙ c.names.ensures) in
    record {
      untouched = λ kept bad. absurd (bad (good_begun holding.parts _ _ _ _ _ opened.begun kept));
      stands = λ stand. inr (record {
        basis = basis;
        begun = begun;
        lived = lived_on basis trace (line_counts parts.states) (line_counts (opened_parts (Some begun.geometry) holding.parts)) holding.stores new.told
            (row_tells_at (map history region.parts.items) (λ now. line_counts now ≡ line_counts (opened_parts (Some begun.geometry) holding.parts)) parts.states parts.are (told_at old.told _ holding told made.lines))
            (told_at mid.told (λ left. IsAway region.names left → HasLived TellsNothing basis trace [] (line_counts parts.states) left.stores new.told) left (mid_told old mid region.names holding made.lent c.requires.at_home.home told)
            (c.schedule_region.ensures.life parts.states opened.files.held parts.are opened.files.are)
            (all_away region.names holding.stores (home_distinct old holding (g.met.T.Bench.named c.args.bench.now) told c.requires.at_home.home)));
      });
    })

pub returns-clause-used : goal.returns-clause-used
returns-clause-used g c is =
    let old = g.T.Bench.state c.args.bench.now in
    let trace = c.args.trace.now in
    let options = c.args.options in
    let made = c.in_ok-opened.ensures in
    let region = c.in_ok-opened.opened.region in
    let mid = g.T.Bench.state c.open.new.bench in
    let new = g.T.Bench.state c.schedule_region.new.bench in
    let backing = c.in_ok-opened.opened.stores.items in
    let lent = saturated (mid.faults + (sum_by g.T.Part.Lines.fault_count region.parts.items + sum_by g.T.Store.Backing.fault_count backing)) in
    if_told old.told (λ holding. HasUsedTurnsOn options old new holding trace) (λ holding told.
    let opened = told_at old.told _ holding told made.opened in
    let parts = present (map g.T.Part.Lines.history region.parts.items) (told_at old.told _ holding told made.tell) in
    let basis = basis_over region options.pages (files_of opened.files.held) in
    let left : Holding = record { parts = []; stores = without_stores region.names holding.stores } in
    let Over : ℕ → ℕ → List NamedStore → BenchState → Type 0 = λ count many others bench. HasUsedTurns (Rose count new.faults) options basis trace many others bench new in
    let same : lent ≡ old.faults = omega (arith, made.counts) in
    let used = told_at mid.told (λ left. IsAway region.names left → Over lent (length region.parts.items) left.stores mid) left (mid_told old mid region.names holding made.lent c.requires.at_home.home told)
    (c.schedule_region.ensures.used is parts.states opened.files.held parts.are opened.files.are)
    (all_away region.names holding.stores (home_distinct old holding (g.met.T.Bench.named c.args.bench.now) told c.requires.at_home.home)) in
    record {
      basis = basis;
      begun = opened_basis options holding _ _ trace.names _ _ _ _ _ opened refl refl (c.in_ok-wanted.ensures ∙ c.names.ensures);
      used = used_from_lent (Rose old.faults new.faults) options basis trace _ left.stores old mid new
          (ap (λ (s : BenchState). s.arms) made.lent) (ap (λ (s : BenchState). s.armed) made.lent) (ap (λ (s : BenchState). s.picked) made.lent)
          (subst (λ many. Over old.faults many left.stores mid) (made_many g.T.Part.Lines.history region.parts.items _ parts (told_at old.told _ holding told made.lines)) (subst (λ count. Over count (length region.parts.items) left.stores mid) same used));
    })

pub returns-in_err-opened-clause-life : goal.returns-in_err-opened-clause-life
returns-in_err-opened-clause-life g c =
    let made = c.in_err-opened.ensures in
    refused_life c.args.options _ c.args.trace.now.names (g.T.Bench.state c.args.bench.now) (g.T.Bench.state c.open.new.bench) (c.in_ok-wanted.ensures ∙ c.names.ensures) _ c.args.trace.now refl _ refl refl made.standing made.untouched
