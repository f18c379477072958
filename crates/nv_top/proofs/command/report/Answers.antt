use Rattle.std.proofs.Common.{◌∙◌, ℕ, [], Err, Option, Some, map, refl, sym, subst, ap}
use Rattle.std.specs.Prelude.{string_bytes}
use Rattle.nv_plain.specs.Faults.{Rose}
use Rattle.nv_bench.specs.Benches.{BenchState}
use Rattle.nv_top.specs.Headline.{LeavesLife, command_over}
use Rattle.nv_top.specs.Reported.{HasReported}
use Rattle.nv_top.specs.Stops.{stop_of_words}
use Rattle.nv_words.specs.declared.words.Command.{Command}
use Rattle.nv_words.specs.declared.words.Command.TheVariants.{Recover, Look, Gen}
use Rattle.nv_open.specs.Unopened.{HasHeader, IsGood, IsUntouched, StandsAsBefore, TellsOf}
use Rattle.nv_top.proofs.CommandLemmas.{if_told, told_at}
use Rattle.nv_top.proofs.CompleteLemmas.{look_settled, look_unarmed}
use Rattle.nv_top.proofs.HeadlineLemmas.{load_limits, recovery_refused, run_limits, schedule_limits, stop_possible}
use Rattle.nv_top.proofs.LifeLemmas.{life_unread}
use Rattle.nv_top.proofs.ReportedLemmas.{by_error, counted_reported, shown_none, words_reported}
use Rattle.nv_top.proofs.command.report.Goals as goal

pub run_input-requires-clause-limits : goal.run_input-requires-clause-limits
run_input-requires-clause-limits g c κs within =
    run_limits g.B.Bench.can_lose_power (map string_bytes c.args.words.now) c.in-Run.options (c.in_ok-command.ensures.command ∙ ap Some c.in-Run.is)

pub run_input-requires-clause-stop : goal.run_input-requires-clause-stop
run_input-requires-clause-stop g c κs within =
    stop_possible g.B.Bench.can_lose_power (map string_bytes c.args.words.now) c.in-Run.options (c.in_ok-command.ensures.command ∙ ap Some c.in-Run.is)

pub schedule_input-requires-clause-limits : goal.schedule_input-requires-clause-limits
schedule_input-requires-clause-limits g c κs within =
    (schedule_limits g.B.Bench.can_lose_power (map string_bytes c.args.words.now) c.in-Sched.options (c.in_ok-command.ensures.command ∙ ap Some c.in-Sched.is)).0

pub schedule_input-requires-clause-images : goal.schedule_input-requires-clause-images
schedule_input-requires-clause-images g c κs within =
    (schedule_limits g.B.Bench.can_lose_power (map string_bytes c.args.words.now) c.in-Sched.options (c.in_ok-command.ensures.command ∙ ap Some c.in-Sched.is)).1

pub run_load-requires-clause-load : goal.run_load-requires-clause-load
run_load-requires-clause-load g c κs within =
    load_limits g.B.Bench.can_lose_power (map string_bytes c.args.words.now) c.in-Gen.load (c.in_ok-command.ensures.command ∙ ap Some c.in-Gen.is)

pub returns-in_err-command : goal.returns-in_err-command
returns-in_err-command g c =
    let old = g.B.Bench.state c.args.bench.now in
    let given = g.I.Source.left c.args.src.now in
    let faults = g.I.Source.fault_count c.args.src.now in
    let error = c.in_err-command.field-0.0 in
    let over = command_over g.B.Bench.can_lose_power (map string_bytes c.args.words.now) in
    shown_none over given given faults faults old old c.from_residual.result _ _
    (by_error c.from_residual.result (stop_of_words error) (λ result. HasReported over given given faults faults old old [] result) c.from_residual.ensures.1
    (words_reported over given faults old error c.requires.ready.at_home (λ is. c.in_err-command.ensures.usage (ap Err is))
    (λ command is. life_unread (Rose old.faults old.faults) command given old old c.images_follow_calls.ensures.quiet refl c.requires.ready.at_home.quiet)))

pub returns-in-Run : goal.returns-in-Run
returns-in-Run g c =
    let src = c.args.src.now in
    let new = c.run_input.new in
    let Reported : Option Command → Type 0 = λ over.
    HasReported over (g.I.Source.left src) (g.I.Source.left new.src) (g.I.Source.fault_count src) (g.I.Source.fault_count new.src) (g.B.Bench.state c.args.bench.now) (g.B.Bench.state new.bench) c.run_input.ensures.0 c.run_input.result in
    (c.run_input.ensures.0, subst Reported (sym (c.in_ok-command.ensures.command ∙ ap Some c.in-Run.is)) c.run_input.ensures.1, c.run_input.ensures.2)

pub returns-in-Sched : goal.returns-in-Sched
returns-in-Sched g c =
    let src = c.args.src.now in
    let new = c.schedule_input.new in
    let Reported : Option Command → Type 0 = λ over.
    HasReported over (g.I.Source.left src) (g.I.Source.left new.src) (g.I.Source.fault_count src) (g.I.Source.fault_count new.src) (g.B.Bench.state c.args.bench.now) (g.B.Bench.state new.bench) [] c.schedule_input.result in
    shown_none _ _ _ _ _ _ _ c.schedule_input.result _ _ (subst Reported (sym (c.in_ok-command.ensures.command ∙ ap Some c.in-Sched.is)) c.schedule_input.ensures)

pub returns-in-Recover : goal.returns-in-Recover
returns-in-Recover g c =
    let old = g.B.Bench.state c.args.bench.now in
    let new = g.B.Bench.state c.recover.new.bench in
    let given = g.I.Source.left c.args.src.now in
    let faults = g.I.Source.fault_count c.args.src.now in
    let made = c.recover.ensures in
    shown_none _ given given faults faults old new c.recover.result _ _
    (subst (λ over. HasReported over given given faults faults old new [] c.recover.result) (sym (c.in_ok-command.ensures.command ∙ ap Some c.in-Recover.is))
    (counted_reported Recover given given faults old new c.recover.result c.requires.ready made.back (ap (λ (state : BenchState). state.settled) made.back) (ap (λ (state : BenchState). state.arms) made.back) made.cause
    refl tt (λ why is. recovery_refused given old new why (made.refused why is) (made.unwritten why is))
    (if_told old.told (λ was. LeavesLife (Rose old.faults new.faults) Recover given old new was []) (λ was told. record {
      stands = told_at old.told (λ was. HasHeader was.parts → TellsOf (StandsAsBefore was) new.told) was told made.standing;
      untouched = told_at old.told (λ was. ¬ (IsGood was.parts) → TellsOf (IsUntouched was) new.told) was told made.untouched;
    }))
    made.recovered))

pub returns-in-Look : goal.returns-in-Look
returns-in-Look g c =
    let old = g.B.Bench.state c.args.bench.now in
    let new = g.B.Bench.state c.look.new.bench in
    let given = g.I.Source.left c.args.src.now in
    let faults = g.I.Source.fault_count c.args.src.now in
    let files = c.in-Look.files in
    let made = c.look.ensures in
    shown_none _ given given faults faults old new c.look.result _ _
    (subst (λ over. HasReported over given given faults faults old new [] c.look.result) (sym (c.in_ok-command.ensures.command ∙ ap Some c.in-Look.is))
    (counted_reported (Look files) given given faults old new c.look.result c.requires.ready made.left (look_settled files old new made.left) (look_unarmed files old new made.left) made.cause
    refl tt made.refused (if_told old.told (λ was. LeavesLife (Rose old.faults new.faults) (Look files) given old new was []) (λ was told. tt)) made.shown))

pub returns-in-Gen : goal.returns-in-Gen
returns-in-Gen g c =
    let old = g.B.Bench.state c.args.bench.now in
    let new = g.B.Bench.state c.run_load.new.bench in
    let given = g.I.Source.left c.args.src.now in
    let left = g.I.Source.left c.run_load.new.src in
    let faults = g.I.Source.fault_count c.args.src.now in
    let made = c.run_load.ensures in
    let reported = counted_reported (Gen c.in-Gen.load) given left faults old new c.run_load.result c.requires.ready made.back (ap (λ (state : BenchState). state.settled) made.back) (ap (λ (state : BenchState). state.arms) made.back) made.cause
    made.unread.0 tt made.refused made.life made.ran in
    let Told : ℕ → Option Command → Type 0 = λ reads over. HasReported over given left faults reads old new [] c.run_load.result in (
      [],
      subst (Told (g.I.Source.fault_count c.run_load.new.src)) (sym (c.in_ok-command.ensures.command ∙ ap Some c.in-Gen.is)) (subst (λ reads. Told reads (Some (Gen c.in-Gen.load))) (sym made.unread.1) reported),
      record { whole = λ other. made.unwritten; cut = λ is. absurd ((reported.write is).1 refl) },
    )
