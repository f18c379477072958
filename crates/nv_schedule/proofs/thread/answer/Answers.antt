-- What is at hand gives the reply to its call.
use Rattle.std.proofs.Common.{sym, ap, ◌∙◌}
use Rattle.std.specs.Prelude.{Result}
use Rattle.nv_mirror.specs.declared.answers.Done.{Done}
use Rattle.nv_mirror.specs.declared.answers.Refusal.{Refusal}
use Rattle.nv_runner.specs.declared.answer.Answer.TheVariants.{Placed}
use Rattle.nv_schedule.specs.Hands.{list_at_hand}
use Rattle.nv_schedule.specs.Tries.{answer_of}
use Rattle.nv_schedule.proofs.thread.answer.Goals as goal

pub returns-in-Ok : goal.returns-in-Ok
returns-in-Ok c =
    ap (Placed c.in-Ok.done.place) (c.into_reply.ensures ∙ c.requires c.in-Ok.done.len)
    ∙ ap (λ (ended : Result Done Refusal). answer_of c.args.call.now (list_at_hand c.args.tried) ended c.args.drawn) (sym c.in-Ok.is)
