use Rattle.std.proofs.Common.{[], Err, refl, sym, subst, ap, inr}
use Rattle.std.specs.Prelude.{IfSome, Some}
use Rattle.std.proofs.lemmas.Result.{IfOk-weaker, on_ok_weaker}
use Rattle.nv_plain.specs.Faults.{Rose}
use Rattle.nv_trace.specs.Forms.{has_rounds}
use Rattle.nv_trace.specs.declared.trace.Form.TheVariants as forms
use Rattle.nv_top.specs.Headline.{IsShown}
use Rattle.nv_top.specs.LifeRows.{ArePickedAll, ArePickedSome, IsPickedLast, IsUncutWhole, ShowsLives, UseTurns, all_tokens, picks_of}
use Rattle.nv_top.specs.Reported.{HasReported}
use Rattle.nv_top.specs.Scheduling.{IsArmedAt, IsArmedAtSome}
use Rattle.nv_top.specs.Stops.{stop_of_read}
use Rattle.nv_words.specs.declared.words.Command.TheVariants.{Sched}
use Rattle.nv_top.proofs.HeadlineLemmas.{of_held, of_read, schedule_refused}
use Rattle.nv_top.proofs.LifeLemmas.{life_unread, schedule_from}
use Rattle.nv_top.proofs.ReportedLemmas.{by_error, never_turns, not_run, read_reported, settled_reported, was_read}
use Rattle.nv_top.proofs.command.schedule_input.Goals as goal

pub schedule-requires-clause-no_rounds : goal.schedule-requires-clause-no_rounds
schedule-requires-clause-no_rounds g c κs within = ap has_rounds c.in_ok-trace.ensures.form

pub returns-in_err-trace : goal.returns-in_err-trace
returns-in_err-trace g c =
    let old = g.B.Bench.state c.args.bench.now in
    let given = g.I.Source.left c.args.src.now in
    let left = g.I.Source.left c.read_trace.new.src in
    let before = g.I.Source.fault_count c.args.src.now in
    let now = g.I.Source.fault_count c.read_trace.new.src in
    let error = c.in_err-trace.field-0.0 in
    let command = Sched c.args.options in
    by_error c.from_residual.result (stop_of_read error) (λ result. HasReported (Some command) given left before now old old [] result) c.from_residual.ensures.1
    (read_reported command given left before now old error c.requires.ready.at_home (λ has. has) (λ turns. absurd (never_turns error turns)) c.in_err-trace.ensures.refused
    (λ is. c.in_err-trace.ensures.failed (ap Err is)) (λ other. c.in_err-trace.ensures.kept (λ is. other (cc)))
    (life_unread (Rose old.faults old.faults) command given old old c.images_follow_calls.ensures.quiet refl c.requires.ready.at_home.quiet) (λ first run. absurd (not_run c.args.options run)))

pub returns : goal.returns
returns g c =
    let old = g.B.Bench.state c.args.bench.now in
    let new = g.B.Bench.state c.schedule.new.bench in
    let given = g.I.Source.left c.args.src.now in
    let left = g.I.Source.left c.read_trace.new.src in
    let faults = g.I.Source.fault_count c.args.src.now in
    let options = c.args.options in
    let trace = c.in_ok-trace.trace in
    let read = c.in_ok-trace.ensures in
    let made = c.schedule.ensures in
    let result = c.schedule.result in
    let cuts = inr (of_read forms.Sched given trace (λ trace. IsArmedAtSome (all_tokens trace) old new) read.form made.runnable read.whole made.cuts) in
    let all = on_ok_weaker result
    (λ (all : IsArmedAt (all_tokens trace) old new). of_read forms.Sched given trace (λ trace. IsArmedAt (all_tokens trace) old new) read.form made.runnable read.whole all)
    made.all_cuts in
    let picks = inr (of_read forms.Sched given trace (λ trace. ArePickedSome (picks_of options trace) old new) read.form made.runnable read.whole made.picked) in
    let all_picks = on_ok_weaker result
    (λ (all : ArePickedAll (picks_of options trace) old new). of_read forms.Sched given trace (λ trace. ArePickedAll (picks_of options trace) old new) read.form made.runnable read.whole all)
    made.all_picked in
    let uncut = on_ok_weaker result
    (λ (uncut : IsUncutWhole trace old new). of_read forms.Sched given trace (λ trace. IsUncutWhole trace old new) read.form made.runnable read.whole uncut)
    made.uncut in
    subst (λ now. HasReported (Some (Sched options)) given left faults now old new [] result) (sym (read.kept (λ is. cc)))
    (settled_reported (Sched options) given left faults old new result made.back made.cause made.never_falls (λ followed. was_read forms.Sched given left trace read.whole read.at_end) (cuts, all, picks, all_picks, uncut)
    (λ is. (
      of_read forms.Sched given trace (λ trace. IsPickedLast (picks_of options trace) old new) read.form made.runnable read.whole (made.turns is),
      of_held forms.Sched given old.told trace (λ holding. UseTurns options old new holding) read.form made.runnable read.whole (made.used is),
    ))
    (λ why is. schedule_refused options given old new trace why read.form made.runnable read.whole (made.refused why is))
    made.unarmed
    (schedule_from (Rose old.faults new.faults) options given old new trace read.form made.runnable read.whole made.life)
    (IfOk-weaker result
    (λ text. IfSome old.told (λ holding. ShowsLives options old new holding trace text.items))
    (λ text. IfSome old.told (λ holding. IsShown (Sched options) given old new holding text.items))
    (λ text ran. of_held forms.Sched given old.told trace (λ holding trace. ShowsLives options old new holding trace text.items) read.form made.runnable read.whole ran)
    made.followed))
