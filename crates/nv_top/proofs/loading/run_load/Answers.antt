use Rattle.std.proofs.Common.{refl, sym, subst, arith, ◌∙◌}
use Rattle.std.specs.Prelude.{IfSome}
use Rattle.std.proofs.lemmas.Result.{IfOk-weaker}
use Rattle.nv_trace.specs.Shape.{IsWellFormed}
use Rattle.nv_trace.specs.Traced.{Traced}
use Rattle.nv_load.specs.Generated.{generated}
use Rattle.nv_top.specs.Commands.{HasRunOn}
use Rattle.nv_top.specs.Loads.{HasGenerated, load_options}
use Rattle.nv_top.specs.Ready.{IsRunnable}
use Rattle.nv_top.specs.Shows.{trace_run}
use Rattle.nv_top.specs.declared.show.Show.TheVariants.{Summary}
use Rattle.nv_top.proofs.CommandLemmas.{if_told, told_at}
use Rattle.nv_top.proofs.LifeLemmas.{still_run}
use Rattle.nv_top.proofs.LoadLemmas.{generated_so, load_run}
use Rattle.nv_top.proofs.RanLemmas.{nothing_written}
use Rattle.nv_top.proofs.loading.run_load.Goals as goal

pub returns-in_err-declare-clause-life : goal.returns-in_err-declare-clause-life
returns-in_err-declare-clause-life g c =
    let old = g.T.Bench.state c.args.bench.now in
    still_run _ old old load_options (generated c.args.load) c.images_follow_calls.ensures.quiet refl c.requires.at_home.quiet

pub returns-in_err-input-clause-life : goal.returns-in_err-input-clause-life
returns-in_err-input-clause-life g c =
    let old = g.T.Bench.state c.args.bench.now in
    still_run _ old old load_options (generated c.args.load) c.images_follow_calls.ensures.quiet refl c.requires.at_home.quiet

pub returns-in_err-declare-clause-unwritten : goal.returns-in_err-declare-clause-unwritten
returns-in_err-declare-clause-unwritten g c = (nothing_written (g.O.Sink.written c.args.out.now), refl)

pub returns-in_err-input-clause-unwritten : goal.returns-in_err-input-clause-unwritten
returns-in_err-input-clause-unwritten g c = (nothing_written (g.O.Sink.written c.args.out.now), refl)

pub run_to_end-requires-clause-input : goal.run_to_end-requires-clause-input
run_to_end-requires-clause-input g c κs within =
    let sound = c.generated_traces_are_sound.ensures.generated c.args.load c.requires.load in
    let read = c.in_ok-input.ensures in (
      c.requires.load,
      read.1,
      subst (λ (trace : Traced). IsRunnable (trace_run (Summary c.args.load) trace)) (sym (read.0 ∙ c.in_ok-declare.ensures)) (record { well_formed = sound.0; lines = sound.1; few = omega (arith, sound.2) }),
    )

pub run_to_end-requires-clause-well_formed : goal.run_to_end-requires-clause-well_formed
run_to_end-requires-clause-well_formed g c κs within = subst IsWellFormed (sym (c.in_ok-input.ensures.0 ∙ c.in_ok-declare.ensures)) c.generated_traces_are_sound.ensures.declared

-- all clauses are of one run
pub returns-clause-ran : goal.returns-clause-ran
returns-clause-ran g c =
    let old = g.T.Bench.state c.args.bench.now in
    let new = g.T.Bench.state c.run_to_end.new.bench in
    let load = c.args.load in
    let ran = (load_run load _ c.in_ok-input.input _ _ _ _ _ _ _ _ old new c.run_to_end.result c.options.ensures (c.in_ok-input.ensures.0 ∙ c.in_ok-declare.ensures) c.in_ok-input.ensures.1 c.run_to_end.ensures.ran).ran in
    IfOk-weaker c.run_to_end.result
    (λ text. IfSome old.told (λ holding. HasRunOn (Summary load) load_options holding new.told (generated load) text.items))
    (λ text. IfSome old.told (λ holding. HasGenerated load holding new.told text.items))
    (λ text over.
    if_told old.told (λ holding. HasGenerated load holding new.told text.items) (λ holding told.
    generated_so c.fresh_summaries_are_of_the_load.ensures load holding new.told text.items c.requires.load
    (told_at old.told (λ holding. HasRunOn (Summary load) load_options holding new.told (generated load) text.items) holding told over)))
    ran

pub returns-clause-refused : goal.returns-clause-refused
returns-clause-refused g c =
    (load_run c.args.load _ c.in_ok-input.input _ _ _ _ _ _ _ _ _ _ c.run_to_end.result c.options.ensures (c.in_ok-input.ensures.0 ∙ c.in_ok-declare.ensures) c.in_ok-input.ensures.1 c.run_to_end.ensures.ran).refused

pub returns-clause-life : goal.returns-clause-life
returns-clause-life g c =
    (load_run c.args.load _ c.in_ok-input.input _ _ _ _ _ _ _ _ _ _ c.run_to_end.result c.options.ensures (c.in_ok-input.ensures.0 ∙ c.in_ok-declare.ensures) c.in_ok-input.ensures.1 c.run_to_end.ensures.ran).life

pub returns-clause-cause : goal.returns-clause-cause
returns-clause-cause g c =
    (load_run c.args.load _ c.in_ok-input.input _ _ _ _ _ _ _ _ _ _ c.run_to_end.result c.options.ensures (c.in_ok-input.ensures.0 ∙ c.in_ok-declare.ensures) c.in_ok-input.ensures.1 c.run_to_end.ensures.ran).cause

pub returns-clause-unread : goal.returns-clause-unread
returns-clause-unread g c =
    (load_run c.args.load _ c.in_ok-input.input _ _ _ _ _ _ _ _ _ _ c.run_to_end.result c.options.ensures (c.in_ok-input.ensures.0 ∙ c.in_ok-declare.ensures) c.in_ok-input.ensures.1 c.run_to_end.ensures.ran).unread

pub returns-clause-unwritten : goal.returns-clause-unwritten
returns-clause-unwritten g c =
    (load_run c.args.load _ c.in_ok-input.input _ _ _ _ _ _ _ _ _ _ c.run_to_end.result c.options.ensures (c.in_ok-input.ensures.0 ∙ c.in_ok-declare.ensures) c.in_ok-input.ensures.1 c.run_to_end.ensures.ran).unwritten
