use Rattle.std.proofs.Common.{[], Err, ap, refl}
use Rattle.std.specs.Prelude.{Some}
use Rattle.nv_plain.specs.Faults.{Rose}
use Rattle.nv_top.specs.Reported.{HasReported}
use Rattle.nv_top.specs.Stops.{stop_of_read}
use Rattle.nv_words.specs.declared.words.Command.TheVariants.{Run}
use Rattle.nv_top.proofs.LifeLemmas.{life_unread}
use Rattle.nv_top.proofs.ReportedLemmas.{by_error, read_reported, shown_none, unrun_at}
use Rattle.nv_top.proofs.RunInputLemmas.{still_read}
use Rattle.nv_top.proofs.command.run_input.Goals as goal

pub returns-in_err-input : goal.returns-in_err-input
returns-in_err-input g c =
    let old = g.B.Bench.state c.args.bench.now in
    let given = g.I.Source.left c.args.src.now in
    let left = g.I.Source.left c.first_round.new.src in
    let before = g.I.Source.fault_count c.args.src.now in
    let now = g.I.Source.fault_count c.first_round.new.src in
    let error = c.in_err-input.field-0.0 in
    let command = Run c.args.options in
    shown_none (Some command) given left before now old old c.from_residual.result _ _
    (by_error c.from_residual.result (stop_of_read error) (λ result. HasReported (Some command) given left before now old old [] result) c.from_residual.ensures.1
    (read_reported command given left before now old error c.requires.ready.at_home (λ has. has) tt c.in_err-input.ensures.refused
    (λ is. c.in_err-input.ensures.failed (ap Err is)) (λ other. c.in_err-input.ensures.kept (λ is. other (cc)))
    (life_unread (Rose old.faults old.faults) command given old old c.images_follow_calls.ensures.quiet refl c.requires.ready.at_home.quiet) (λ first run. unrun_at given error c.in_err-input.ensures.unrun first)))

pub returns : goal.returns
returns g c =
    let read = c.in_ok-input.ensures in
    still_read c.args.options c.in_ok-input.input _ _ _ _ _ _ _ _ _ _ _ _ c.run_rounds.result (read.kept (λ is. cc)) read.form read.begun c.run_rounds.ensures
