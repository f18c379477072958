use Rattle.std.proofs.Common.{◌≡◌, ◌≤◌, ◌<◌, ◌+◌, ◌++◌, ◌∙◌, [], ◌∷◌, Result, ℕ, List, All, Err, None, Some, inl, inr, length, map, refl, sym, ap, subst, sum_by, arith}
use Rattle.std.specs.Prelude.{IfSome, max}
use Rattle.std.proofs.lemmas.Result.{IfOk-weaker}
use Rattle.nv_runner.specs.ToldRounds.{TellsRounds}
use Rattle.nv_plain.specs.Faults.{Rose, saturated}
use Rattle.nv_pmem.specs.Part.{Part}
use Rattle.nv_pmem.specs.RowStates.{AreNow, row_tells_at}
use Rattle.nv_pmem.specs.declared.picker.Pick.{Pick}
use Rattle.nv_store.specs.Store.{Store}
use Rattle.nv_bench.specs.Benches.{BenchState}
use Rattle.nv_bench.specs.Holding.{Holding, IsQuietHolding, NamedStore}
use Rattle.nv_bench.specs.Naming.{AreDistinct, names_of}
use Rattle.nv_open.specs.Adding.{all_names}
use Rattle.nv_open.specs.Lending.{without_stores}
use Rattle.nv_open.specs.Unopened.{line_counts}
use Rattle.nv_open.specs.declared.error.OpenError.TheVariants.{Refused}
use Rattle.nv_open.specs.declared.error.Refusal.{Refusal}
use Rattle.nv_open.proofs.Homes.{all_away}
use Rattle.nv_recover.specs.Standing.{files_of}
use Rattle.nv_trace.specs.Said.{said_place}
use Rattle.nv_top.specs.Headline.{IsRunRefused, IsShownOf, history_of_shown}
use Rattle.nv_top.specs.Lives.{HasLived, LeavesRun}
use Rattle.nv_top.specs.Runs.{basis_over}
use Rattle.nv_top.specs.Stopped.{HasStoppedBehind}
use Rattle.nv_top.specs.Stopping.{IsAway, IsSettledStop}
use Rattle.std.specs.Global.{Vec}
use Rattle.nv_top.specs.Stops.{CountHasCause, stop_of_opening}
use Rattle.nv_top.specs.declared.ending.Stop.TheVariants.{NoMemory, Region}
use Rattle.nv_top.proofs.CauseLemmas.{error_grows}
use Rattle.nv_top.proofs.CommandLemmas.{if_told, mid_told, told_at}
use Rattle.nv_top.proofs.HeadlineLemmas.{home_distinct, quiet_left}
use Rattle.nv_top.proofs.NameLemmas.{wanted_known}
use Rattle.nv_bench.specs.Opening.{opened as opened_parts}
use Rattle.nv_open.proofs.Layers.{good_begun}
use Rattle.nv_top.proofs.LifeLemmas.{lived_on, still_run}
use Rattle.nv_top.proofs.RanLemmas.{runnable_all, unread}
use Rattle.nv_top.proofs.StreamStopLemmas.{as_error, as_told}
use Rattle.nv_runner.specs.Faithful.{Basis}
use Rattle.nv_runner.specs.Reports.{history_lines}
use Rattle.nv_runner.specs.Histories.{PlacedCall}
use Rattle.nv_runner.specs.declared.stream.StreamError.{StreamError}
use Rattle.nv_runner.specs.declared.stream.StreamError.TheVariants as ends
use Rattle.nv_top.specs.declared.show.Show.TheVariants as shows
use Rattle.nv_top.proofs.ReportedLemmas.{counted_not_turns, counted_settled, home_powered, home_unarmed, opened_basis, opening_counted, refused_life, region_of, run_refused}
use Rattle.nv_top.proofs.RowLemmas.{made_many, present}
use Rattle.nv_top.proofs.StopLemmas.{opening_refused}
use Rattle.nv_top.proofs.stopping.run_to_stop.Goals as goal

abbrev no_calls : List PlacedCall
no_calls = []

abbrev nothing_read : Result (Unit {0}) StreamError
nothing_read = Err ends.NoMemory

no_region : (why : Refusal) → as_told NoMemory ≡ as_told (Region why) → ⊥
no_region why is = cc

-- a bench that tells isn't one that doesn't
not_both : {holding : Holding} → Some holding ≡ None → ⊥
not_both is = cc

pub stop_region-requires-clause-quiet : goal.stop_region-requires-clause-quiet
stop_region-requires-clause-quiet g c κs within =
    let old = g.T.Bench.state c.args.bench.now in
    let With : BenchState → Type 0 = λ bench. IfSome bench.told IsQuietHolding in
    subst With (sym c.in_ok-opened.ensures.lent) (quiet_left c.images_follow_calls.ensures.blank c.in_ok-opened.opened.region.names old.told c.requires.ready.at_home.quiet)

pub stop_region-requires-clause-known : goal.stop_region-requires-clause-known
stop_region-requires-clause-known g c κs within =
    let known = c.in_ok-opened.ensures.known in
    let Known : List (List ℕ) → Type 0 = λ names. All (λ name. said_place name names < length names) c.args.input.now.trace.names in
    let wanted = c.in_ok-wanted.ensures ∙ c.names.ensures in
    subst Known (sym (known.1 ∙ ap (all_names known.0) wanted)) (wanted_known known.0 c.args.input.now.trace.names)

pub returns-in_err-wanted : goal.returns-in_err-wanted
returns-in_err-wanted g c =
    let old = g.T.Bench.state c.args.bench.now in
    let input = c.args.input.now in
    let streamed = unread shows.Report input (g.I.Source.left c.args.src.now) (g.O.Sink.written c.args.out.now) (g.I.Source.fault_count c.args.src.now) (g.O.Sink.fault_count c.args.out.now) c.requires.input c.requires.well_formed in
    record {
      ended = Err ends.NoMemory;
      told = Err NoMemory;
      answered = as_error c.from_residual.result NoMemory c.from_residual.ensures.1;
      all = input.trace;
      shown = [];
      streamed = streamed;
      memory = λ is. refl;
      runnable = runnable_all shows.Report input (g.I.Source.left c.args.src.now) (Err ends.NoMemory) input.trace c.requires.input streamed.trace;
      back = (inr refl, inr refl);
      cause = omega arith;
      turns = λ is. cc;
      never_falls = omega arith;
      life = still_run _ old old c.args.options input.trace c.images_follow_calls.ensures.quiet refl c.requires.ready.at_home.quiet;
      ran = tt;
      refused = λ why is. absurd (no_region why is);
      unbegun = λ why is. absurd (no_region why is);
    }

pub returns-in_err-opened : goal.returns-in_err-opened
returns-in_err-opened g c =
    let old = g.T.Bench.state c.args.bench.now in
    let new = g.T.Bench.state c.open.new.bench in
    let options = c.args.options in
    let input = c.args.input.now in
    let trace = input.trace in
    let error = c.in_err-opened.field-0.0 in
    let made = c.in_err-opened.ensures in
    let same = c.in_ok-wanted.ensures ∙ c.names.ensures in
    let settled = ap (λ (state : BenchState). state.settled) made.back in
    let before = c.requires.ready.settled in
    let low : new.settled ≤ old.faults = omega (arith, settled, before) in
    let cause : CountHasCause {T = Vec ℕ} old.faults new.faults (Err (stop_of_opening error)) = opening_counted old.faults new.faults error made.cause in
    let streamed = unread shows.Report input (g.I.Source.left c.args.src.now) (g.O.Sink.written c.args.out.now) (g.I.Source.fault_count c.args.src.now) (g.O.Sink.fault_count c.args.out.now) c.requires.input c.requires.well_formed in
    record {
      ended = Err ends.NoMemory;
      told = Err (stop_of_opening error);
      answered = as_error c.from_residual-in_err-opened.result (stop_of_opening error) c.from_residual-in_err-opened.ensures.1;
      all = trace;
      shown = [];
      streamed = streamed;
      memory = λ is. refl;
      runnable = runnable_all shows.Report input (g.I.Source.left c.args.src.now) (Err ends.NoMemory) trace c.requires.input streamed.trace;
      back = (inr made.back, inr (ap (λ (state : BenchState). state.picked) made.back));
      cause = counted_settled {T = Vec ℕ} old.faults new.faults new.settled (Err (stop_of_opening error)) low cause;
      turns = counted_not_turns {T = Vec ℕ} old.faults new.faults (Err (stop_of_opening error)) cause;
      never_falls = error_grows old.faults new.faults error made.cause;
      life = refused_life options _ trace.names old new same _ trace refl _ refl refl made.standing made.untouched;
      ran = tt;
      refused = λ why is.
          let error_is = opening_refused error why (region_of (stop_of_opening error) why is) in
          run_refused options _ trace.names old new same why _ (made.refused why (ap Err error_is)) (made.unwritten why (ap Err error_is)) (λ many. made.rests (ap Err (error_is ∙ ap Refused many))) refl refl;
      unbegun = λ why is. if_told old.told (λ holding. (new.arms ≡ old.arms) × (no_calls ≡ []) × (nothing_read ≡ nothing_read)) (λ holding told. (ap (λ (state : BenchState). state.arms) made.back, refl, refl));
    }

pub returns : goal.returns
returns g c =
    let history = g.T.Part.Lines.history in
    let held = g.T.Store.Backing.history in
    let old = g.T.Bench.state c.args.bench.now in
    let mid = g.T.Bench.state c.open.new.bench in
    let new = g.T.Bench.state c.stop_region.new.bench in
    let options = c.args.options in
    let made = c.in_ok-opened.ensures in
    let stopped = c.stop_region.ensures in
    let ran = stopped.ran in
    let told = ran.told in
    let region = c.in_ok-opened.opened.region in
    let backing = c.in_ok-opened.opened.stores.items in
    let at_home = c.requires.ready.at_home in
    let lent = saturated (mid.faults + (sum_by g.T.Part.Lines.fault_count region.parts.items + sum_by g.T.Store.Backing.fault_count backing)) in
    let same : lent ≡ old.faults = omega (arith, made.counts) in
    let names = c.in_ok-wanted.ensures ∙ c.names.ensures ∙ sym ran.streamed.trace.0.names in
    let distinct : (holding : Holding) → old.told ≡ Some holding → AreDistinct (names_of holding.stores) = λ holding told. home_distinct old holding (g.met.T.Bench.named c.args.bench.now) told at_home.home in
    let never : (why : Refusal) → told ≡ Err (Region why) → (P : Holding → Type 0) → IfSome old.told P = λ why is P.
    if_told old.told P (λ holding told.
    let opened = told_at old.told _ holding told made.opened in
    let parts = present (map history region.parts.items) (told_at old.told _ holding told made.tell) in
    absurd (not_both (sym (mid_told old mid region.names holding made.lent at_home.home told)
    ∙ ran.never why is (basis_over region options.pages (files_of opened.files.held)) (line_counts parts.states) (parts.states, opened.files.held, parts.are, opened.files.are, refl, refl)))) in
    record {
      ended = ran.ended;
      told = told;
      answered = ran.answered;
      all = ran.all;
      shown = ran.shown;
      streamed = ran.streamed;
      memory = ran.memory;
      runnable = ran.runnable;
      back = (
        elim stopped.back [
          | inl powered ↦ inl (home_powered c.args.k region.names old mid new at_home made.lent powered)
          | inr unarmed ↦ inr (home_unarmed c.args.k region.names old mid new at_home made.lent unarmed)
        ],
        elim stopped.picked [
          | inl once ↦ inl (once ∙ ap (λ (state : BenchState). c.args.options.image ∷ state.picked) made.lent)
          | inr not_yet ↦ inr (not_yet ∙ ap (λ (state : BenchState). state.picked) made.lent)
        ],
      );
      cause = elim stopped.back [
        | inl powered ↦ (
            let armed = ap (λ (state : BenchState). state.arms) powered in
            let no_less = stopped.no_less armed in
            let all : max old.faults new.settled ≡ new.settled = omega (arith, no_less, same) in
            subst (λ settled. IsSettledStop settled new.faults told) (sym all) (ran.settled armed)
            )
        | inr unarmed ↦ (
            let settled = ap (λ (state : BenchState). state.settled) (home_unarmed c.args.k region.names old mid new at_home made.lent unarmed) in
            let before = c.requires.ready.settled in
            let low : new.settled ≤ old.faults = omega (arith, settled, before) in
            counted_settled old.faults new.faults new.settled told low
            (subst (λ before. CountHasCause before new.faults told) same (ran.cause (ap (λ (state : BenchState). state.arms) unarmed)))
            )
      ];
      turns = ran.turns;
      never_falls = omega (arith, same, stopped.never_falls);
      life = if_told old.told (λ was. LeavesRun (TellsRounds (Rose old.faults new.faults) options.worker) options was ran.all ran.shown new.told) (λ holding told.
          let opened = told_at old.told _ holding told made.opened in
          let parts = present (map history region.parts.items) (told_at old.told _ holding told made.tell) in
          let basis = basis_over region options.pages (files_of opened.files.held) in
          let left : Holding = record { parts = []; stores = without_stores region.names holding.stores } in
          let begun = opened_basis options holding _ _ ran.all.names _ _ _ _ _ opened refl refl names in
          record {
            untouched = λ kept bad. absurd (bad (good_begun holding.parts _ _ _ _ _ opened.begun kept));
            stands = λ stand. inr (record {
              basis = basis;
              begun = begun;
              lived = subst (λ count. HasLived (TellsRounds (Rose count new.faults) options.worker) basis ran.all ran.shown (line_counts (opened_parts (Some begun.geometry) holding.parts)) holding.stores new.told) same (lived_on basis ran.all (line_counts parts.states) (line_counts (opened_parts (Some begun.geometry) holding.parts)) holding.stores new.told
                  (row_tells_at (map history region.parts.items) (λ now. line_counts now ≡ line_counts (opened_parts (Some begun.geometry) holding.parts)) parts.states parts.are (told_at old.told _ holding told made.lines))
                  (told_at mid.told (λ left. IsAway region.names left → HasLived (TellsRounds (Rose lent new.faults) options.worker) basis ran.all ran.shown (line_counts parts.states) left.stores new.told) left (mid_told old mid region.names holding made.lent at_home.home told)
                  (ran.life basis (line_counts parts.states) (parts.states, opened.files.held, parts.are, opened.files.are, refl, refl)) (all_away region.names holding.stores (distinct holding told))));
            });
          });
      ran = IfOk-weaker told
          (λ text. (basis : Basis) (counts : List ℕ) → (parts : List Part) × (now : List Store) × AreNow (map history region.parts.items) parts × AreNow (map held backing) now × (basis ≡ basis_over region options.pages (files_of now)) × (counts ≡ line_counts parts)
          → IfSome mid.told (λ left. IsAway basis.names left → HasStoppedBehind (Rose lent new.faults) options.worker options.image mid.picked basis ran.all ran.shown (length region.parts.items) left.stores new text.items))
          (λ text. IfSome old.told (λ holding. (run : IsShownOf (Some c.args.k) options old new holding ran.all (history_lines 0 ran.shown ++ text.items)) × (history_of_shown (Some c.args.k) options old new holding ran.all (history_lines 0 ran.shown ++ text.items) run ≡ ran.shown)))
          (λ text behind.
          if_told old.told (λ holding. (run : IsShownOf (Some c.args.k) options old new holding ran.all (history_lines 0 ran.shown ++ text.items)) × (history_of_shown (Some c.args.k) options old new holding ran.all (history_lines 0 ran.shown ++ text.items) run ≡ ran.shown)) (λ holding told.
          let opened = told_at old.told _ holding told made.opened in
          let parts = present (map history region.parts.items) (told_at old.told _ holding told made.tell) in
          let basis = basis_over region options.pages (files_of opened.files.held) in
          let left : Holding = record { parts = []; stores = without_stores region.names holding.stores } in
          let Over : ℕ → List Pick → ℕ → List NamedStore → Type 0 = λ count before many others. HasStoppedBehind (Rose count new.faults) options.worker options.image before basis ran.all ran.shown many others new text.items in
          let parts_made = made_many history region.parts.items _ parts (told_at old.told _ holding told made.lines) in
          let all : Over old.faults old.picked _ left.stores =
          subst (λ many. Over old.faults old.picked many left.stores) parts_made (subst (λ before. Over old.faults before (length region.parts.items) left.stores) (ap (λ (state : BenchState). state.picked) made.lent)
          (subst (λ count. Over count mid.picked (length region.parts.items) left.stores) same
          (told_at mid.told (λ left. IsAway region.names left → Over lent mid.picked (length region.parts.items) left.stores) left (mid_told old mid region.names holding made.lent at_home.home told)
          (behind basis (line_counts parts.states) (parts.states, opened.files.held, parts.are, opened.files.are, refl, refl))
          (all_away region.names holding.stores (distinct holding told))))) in
          (record { basis = basis; begun = opened_basis options holding _ _ ran.all.names _ _ _ _ _ opened refl refl names; stopped = all.0 }, all.1)))
          ran.ran;
      refused = λ why is. never why is (λ holding. IsRunRefused options holding ran.all.names old new why);
      unbegun = λ why is. never why is (λ holding. (new.arms ≡ old.arms) × (ran.shown ≡ []) × (ran.ended ≡ Err ends.NoMemory));
    }
