use Rattle.std.proofs.Common.{sym, ap, ◌∙◌, arith}
use Rattle.nv_schedule.specs.Turns.{next_kind_of}
use Rattle.nv_schedule.proofs.FollowLaws.{next_beyond, next_is}
use Rattle.nv_schedule.proofs.tokens.next_kind_at.Goals as goal

pub returns-then-place-callers : goal.returns-then-place-callers
returns-then-place-callers g c =
    let less = c.if-place-callers.true in
    c.next_kind.ensures ∙ ap next_kind_of c.index-callers-place.is ∙ sym (next_is c.args.callers.now c.args.place _ (omega (arith, less)))

pub returns-else-place-callers : goal.returns-else-place-callers
returns-else-place-callers g c =
    let less = c.if-place-callers.false in
    sym (next_beyond c.args.callers.now c.args.place (omega (arith, less)))
