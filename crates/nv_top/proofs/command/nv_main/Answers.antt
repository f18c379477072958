use Rattle.std.proofs.Common.{◌++◌, Ok, Err, inl, refl, ap}
use Rattle.nv_open.specs.declared.error.Refusal.{Refusal}
use Rattle.nv_top.specs.declared.ending.TheConstants.{DONE}
use Rattle.nv_top.specs.Headline.{HasRefusal, IsShown}
use Rattle.nv_top.proofs.CommandLemmas.{if_told, told_at}
use Rattle.nv_runner.specs.Reports.{history_lines}
use Rattle.nv_top.proofs.SaidLemmas.{said_behind, said_by, said_stop}
use Rattle.nv_top.proofs.command.nv_main.Goals as goal

pub returns-in-Ok-clause-unrefused : goal.returns-in-Ok-clause-unrefused
returns-in-Ok-clause-unrefused g c is command over has =
    let old = g.B.Bench.state c.args.bench.now in
    let left = g.I.Source.left c.args.src.now in
    let new = g.B.Bench.state c.report.new.bench in
    let text = history_lines 0 c.in-Ok.ensures.0 ++ c.in-Ok.text.items in
    if_told old.told (λ holding. (why : Refusal) → ¬ (HasRefusal command left holding why)) (λ holding told.
    c.a_refused_region_shows_nothing.ensures.shown command left old new holding text has
    (told_at old.told (λ holding. IsShown command left old new holding text) holding told (c.in-Ok.ensures.1.report command over)))

pub returns-in-Ok-clause-came : goal.returns-in-Ok-clause-came
returns-in-Ok-clause-came g c =
    let shown = c.in-Ok.ensures.0 in
    let lines = c.in-Ok.ensures.2.whole (λ is. cc) in (
      Ok c.in-Ok.text,
      shown,
      c.in-Ok.ensures.1,
      said_behind (Ok c.in-Ok.text) (history_lines 0 shown) _ _ _ _ _ _ c.say.result (λ is. cc) lines.0 lines.1
          (said_by (Ok c.in-Ok.text) _ _ _ _ c.say.result DONE c.deref.result.now (λ is. cc) (inl (refl, c.deref.ensures.value)) c.say.ensures.front c.say.ensures.said c.say.ensures.fault c.say.ensures.sound),
    )

pub returns-in-Err-clause-came : goal.returns-in-Err-clause-came
returns-in-Err-clause-came g c =
    let shown = c.in-Err.ensures.0 in (
      Err c.in-Err.stop,
      shown,
      c.in-Err.ensures.1,
      said_stop c.in-Err.stop shown _ _ _ _ _ _ c.say_stop.result c.in-Err.ensures.2 c.say_stop.ensures.said
          (λ is. let same = c.say_stop.ensures.write is in (same.0, ap g.O.Sink.written same.1, ap g.O.Sink.fault_count same.1)),
    )
