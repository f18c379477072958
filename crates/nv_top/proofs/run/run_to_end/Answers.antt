use Rattle.std.proofs.Common.{arith, ◌+◌, ◌≡◌, ◌<◌, ◌∙◌, ℕ, List, All, Some, length, map, refl, sym, ap, subst}
use Rattle.std.specs.Prelude.{IfOk, IfSome, IsErr, sum_by}
use Rattle.nv_top.proofs.RanLemmas.{told_as_failed}
use Rattle.nv_plain.specs.Layouts.{mount_version}
use Rattle.nv_plain.specs.Faults.{Rose}
use Rattle.nv_plain.specs.Faults.{saturated}
use Rattle.nv_bench.specs.Benches.{BenchState}
use Rattle.nv_runner.specs.Faithful.{Basis}
use Rattle.std.proofs.lemmas.Result.{IfOk-weaker}
use Rattle.nv_pmem.specs.Part.{Part}
use Rattle.nv_pmem.specs.RowStates.{AreNow, row_tells_at}
use Rattle.nv_store.specs.Store.{Store}
use Rattle.nv_recover.specs.Standing.{files_of}
use Rattle.nv_top.specs.Commands.{HasRunOnBehind}
use Rattle.nv_top.specs.Headline.{IsRunRefused}
use Rattle.nv_top.specs.Runs.{HasRunBehind, basis_over}
use Rattle.nv_top.specs.Shows.{trace_run}
use Rattle.nv_top.proofs.RanLemmas.{names_all, runnable_all, unread, unrun}
use Rattle.nv_top.proofs.CommandLemmas.{if_told, leaves, told_at}
use Rattle.nv_open.specs.Adding.{all_names}
use Rattle.nv_trace.specs.Said.{said_place}
use Rattle.nv_top.proofs.NameLemmas.{wanted_known}
use Rattle.nv_top.proofs.RowLemmas.{made_many, present}
use Rattle.std.proofs.Common.{Err}
use Rattle.nv_open.specs.declared.error.OpenError.TheVariants.{Refused}
use Rattle.nv_top.specs.Stops.{CountHasCause, stop_of_opening}
use Rattle.nv_open.specs.declared.error.Refusal.{Refusal}
use Rattle.nv_top.specs.declared.ending.Stop.TheVariants.{Device, NoMemory, Region}
use Rattle.nv_top.proofs.ReportedLemmas.{opened_basis, opening_counted, refused_life, run_refused}
use Rattle.nv_top.proofs.StopLemmas.{opening_refused, other_stops}
use Rattle.std.proofs.Common.{inr}
use Rattle.std.proofs.lemmas.List.{length-map}
use Rattle.nv_open.specs.Lending.{without_stores}
use Rattle.nv_open.specs.Unopened.{line_counts}
use Rattle.nv_open.proofs.Homes.{back_again}
use Rattle.nv_open.proofs.LogLaws.{states_many}
use Rattle.nv_top.specs.Lives.{LeavesRun, tells_as}
use Rattle.nv_top.proofs.CommandLemmas.{back_is}
use Rattle.nv_top.proofs.HeadlineLemmas.{home_distinct}
use Rattle.nv_bench.specs.Opening.{opened as opened_parts}
use Rattle.nv_open.proofs.Layers.{good_begun}
use Rattle.nv_top.proofs.LifeLemmas.{left_tells, lived_home, lived_on, still_run}
use Rattle.nv_top.proofs.CauseLemmas.{rose_within, run_counted, run_not_refused}
use Rattle.nv_top.proofs.run.run_to_end.Goals as goal
use Rattle.nv_top.proofs.run.run_to_end.Goals.{then-faults-before, else-faults-before}

pub run_region-parts-requires-clause-known : goal.run_region-parts-requires-clause-known
run_region-parts-requires-clause-known g c κs within =
    let known = c.in_ok-region.ensures.known in
    let names = c.args.input.now.trace.names in
    let Known : List (List ℕ) → Type 0 = λ all. All (λ name. said_place name all < length all) names in
    let wanted = c.in_ok-wanted.ensures ∙ c.names.ensures in
    subst Known (sym (known.1 ∙ ap (all_names known.0) wanted)) (wanted_known known.0 names)

pub returns-in_err-wanted-clause-ran : goal.returns-in_err-wanted-clause-ran
returns-in_err-wanted-clause-ran g c =
    let old = g.T.Bench.state c.args.bench.now in
    let all = trace_run c.args.show c.args.input.now.trace in
    let streamed = unread c.args.show c.args.input.now _ _ _ _ c.requires.input c.requires.well_formed in
    unrun c.args.show c.args.options c.args.input.now _ _ _ _ old old all c.from_residual.result NoMemory c.from_residual.ensures.1 streamed (runnable_all c.args.show c.args.input.now _ _ all c.requires.input streamed.trace) refl
    (still_run _ old old c.args.options all c.images_follow_calls.ensures.quiet refl c.requires.at_home.quiet) (λ why is. cc)

pub returns-in_err-region-clause-ran : goal.returns-in_err-region-clause-ran
returns-in_err-region-clause-ran g c =
    let old = g.T.Bench.state c.args.bench.now in
    let new = g.T.Bench.state c.open.new.bench in
    let made = c.in_err-region.ensures in
    let error = c.in_err-region.field-0.0 in
    let all = trace_run c.args.show c.args.input.now.trace in
    let streamed = unread c.args.show c.args.input.now _ _ _ _ c.requires.input c.requires.well_formed in
    let names = names_all c.args.show c.args.input.now _ _ all streamed.trace in
    let wanted = c.in_ok-wanted.ensures ∙ c.names.ensures in
    unrun c.args.show c.args.options c.args.input.now _ _ _ _ old new all c.from_residual-in_err-region.result (stop_of_opening error) c.from_residual-in_err-region.ensures.1 streamed
    (runnable_all c.args.show c.args.input.now _ _ all c.requires.input streamed.trace) (opening_counted old.faults new.faults error made.cause)
    (refused_life c.args.options _ c.args.input.now.trace.names old new wanted _ all (sym names) _ refl refl made.standing made.untouched)
    (λ why is.
    let error_is = opening_refused error why is in
    subst (λ names. IfSome old.told (λ holding. IsRunRefused c.args.options holding names old new why)) (sym names)
    (run_refused c.args.options _ c.args.input.now.trace.names old new wanted why _ (made.refused why (ap Err error_is)) (made.unwritten why (ap Err error_is)) (λ many. made.rests (ap Err (error_is ∙ ap Refused many))) refl refl))

pub returns-clause-ran : goal.returns-clause-ran
returns-clause-ran g c =
    let history = g.T.Part.Lines.history in
    let held = g.T.Store.Backing.history in
    let old = g.T.Bench.state c.args.bench.now in
    let mid = g.T.Bench.state c.open.new.bench in
    let after_it = g.T.Bench.state c.give_back.new.self in
    let options = c.args.options in
    let show = c.args.show in
    let made = c.in_ok-region.ensures in
    let region = c.in_ok-region.field-0.region in
    let stores = c.in_ok-region.field-0.stores.items in
    let came = c.run_region-parts.result in
    let ran = c.run_region-parts.ensures.ran in
    let all = ran.0 in
    let shown = ran.1 in
    let told = c.if-faults-before.told in
    let names = names_all show c.args.input.now _ came.ended all ran.2.trace in
    let basis : List Store → Basis = λ now. basis_over region options.pages (files_of now) in
    let first = sum_by g.T.Part.Lines.fault_count region.parts.items + sum_by g.T.Store.Backing.fault_count stores in
    let last = sum_by g.T.Part.Lines.fault_count came.parts.items + sum_by g.T.Store.Backing.fault_count came.stores.items in
    let faults : after_it.faults ≡ saturated (mid.faults + last) = ap (λ (s : BenchState). s.faults) c.give_back.ensures.taken in
    let lent : old.faults ≡ saturated (mid.faults + first) = omega (arith, made.counts) in
    let never : (why : Refusal) → told ≡ Err (Region why) → ⊥ = λ why is. elim c.if-faults-before.branch [
      | then-faults-before w ↦ other_stops Device (Region why) (λ same. cc) (sym w.told-is ∙ is)
      | else-faults-before w ↦ run_not_refused first last came.report why c.run_region-parts.ensures.cause (sym w.told-is ∙ is)
    ] in
    record {
      ended = came.ended;
      told = told;
      answered = c.answer.ensures;
      all = all;
      shown = shown;
      streamed = ran.2;
      memory = λ is. elim c.if-faults-before.branch [
        | then-faults-before w ↦ subst IsErr (sym w.told-is) refl
        | else-faults-before w ↦ subst IsErr (sym w.told-is) (c.run_region-parts.ensures.memory is)
      ];
      runnable = runnable_all show c.args.input.now _ came.ended all c.requires.input ran.2.trace;
      cause = elim c.if-faults-before.branch [
        | then-faults-before w ↦ subst (λ told. CountHasCause old.faults after_it.faults told) (sym w.told-is) (record {
          never_falls = omega (arith, w.if-faults-before.true, c.faults.ensures, c.faults-before.ensures);
          more = omega (arith, w.if-faults-before.true, c.faults.ensures, c.faults-before.ensures);
        })
        | else-faults-before w ↦ subst (λ told. CountHasCause old.faults after_it.faults told) (sym w.told-is)
            (run_counted first last old.faults mid.faults after_it.faults came.report c.run_region-parts.ensures.cause lent faults (omega (arith, w.if-faults-before.false, c.faults.ensures, c.faults-before.ensures)))
      ];
      life =
          if_told old.told (λ was. LeavesRun (tells_as show (Rose old.faults after_it.faults) options.worker) options was all shown after_it.told) (λ holding is.
          let opened = told_at old.told _ holding is made.opened in
          let parts = present (map history region.parts.items) (told_at old.told _ holding is made.tell) in
          let left = left_tells history held (basis opened.files.held) all shown (line_counts parts.states) came.parts.items came.stores.items
          (λ later tells. told_as_failed show options.worker (basis opened.files.held) all shown later (rose_within mid.faults first last old.faults after_it.faults lent faults) tells) (ran.3 parts.states opened.files.held parts.are opened.files.are) in
          let from = opened_basis options holding _ _ all.names _ _ _ _ _ opened refl refl (c.in_ok-wanted.ensures ∙ c.names.ensures ∙ sym names) in
          let counts = line_counts (opened_parts (Some from.geometry) holding.parts) in
          record {
            untouched = λ kept bad. absurd (bad (good_begun holding.parts _ _ _ _ _ opened.begun kept));
            stands = λ stand. inr (record {
              basis = basis opened.files.held;
              begun = from;
              lived = lived_on (basis opened.files.held) all (line_counts parts.states) counts holding.stores after_it.told
                  (row_tells_at (map history region.parts.items) (λ now. line_counts now ≡ counts) parts.states parts.are (told_at old.told _ holding is made.lines))
                  (lived_home (basis opened.files.held) all shown history held came.parts.items came.stores.items (line_counts parts.states) after_it.told (without_stores region.names holding.stores) (λ holding is. g.met.T.Bench.whole c.give_back.new.self holding is) left
                  (λ disks are. back_again region.names holding.stores disks (home_distinct old holding (g.met.T.Bench.named c.args.bench.now) is c.requires.at_home.home)
                  (sym (states_many (map held came.stores.items) disks are ∙ length-map came.stores.items held ∙ c.run_region-parts.ensures.count ∙ made.one_each)) region.is_region.names_are.distinct)
                  (λ now disks now_are disks_are. c.give_back.ensures.told now disks now_are disks_are ∙ back_is old mid region.names holding made.lent c.requires.at_home.home is now disks));
            });
          });
      ran = elim c.if-faults-before.branch [
        | then-faults-before w ↦ subst (λ told. IfOk told (λ text. IfSome old.told (λ holding. HasRunOnBehind show options holding after_it.told all shown text.items))) (sym w.told-is) tt
        | else-faults-before w ↦ subst (λ told. IfOk told (λ text. IfSome old.told (λ holding. HasRunOnBehind show options holding after_it.told all shown text.items))) (sym w.told-is)
            (IfOk-weaker came.report
            (λ text. (parts : List Part) (now : List Store) → AreNow (map history region.parts.items) parts → AreNow (map held stores) now
            → HasRunBehind history held show options.worker (basis now) all shown text.items came.parts.items came.stores.items)
            (λ text. IfSome old.told (λ holding. HasRunOnBehind show options holding after_it.told all shown text.items))
            (λ text run.
            if_told old.told (λ holding. HasRunOnBehind show options holding after_it.told all shown text.items) (λ holding is.
            let opened = told_at old.told _ holding is made.opened in
            let parts = present (map history region.parts.items) (told_at old.told _ holding is made.tell) in
            let both = run parts.states opened.files.held parts.are opened.files.are in
            let over = both.0 in (
              record {
                basis = basis opened.files.held;
                begun = opened_basis options holding _ _ all.names _ _ _ _ _ opened refl refl (c.in_ok-wanted.ensures ∙ c.names.ensures ∙ sym names);
                report = over.report;
                faithful = over.faithful;
                plain = over.plain;
                text_is = over.text_is;
                left = leaves old mid region.names holding made.lent c.requires.at_home.home is mount_version (Some _) history held _ came.parts.items came.stores.items after_it.told (c.run_region-parts.ensures.many ∙ made_many history region.parts.items _ parts (told_at old.told _ holding is made.lines)) over.left c.give_back.ensures.told;
                page_is = over.page_is;
                entries_is = over.entries_is;
                next_is = over.next_is;
              },
              both.1,
            )))
            ran.4)
      ];
      refused = λ why is. absurd (never why is);
      unbegun = λ why is. absurd (never why is);
    }
