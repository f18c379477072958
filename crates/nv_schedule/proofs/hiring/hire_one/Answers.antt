-- It stands behind the others.
use Rattle.std.proofs.Common.{List, ◌∷◌, ◌++◌, [], sym, ap, subst, ◌∙◌}
use Rattle.nv_schedule.specs.Fresh.{AreFresh, IsFresh}
use Rattle.nv_schedule.specs.Turns.{CallerState}
use Rattle.nv_schedule.proofs.FreshLaws.{fresh_more}
use Rattle.nv_schedule.proofs.hiring.hire_one.Goals as goal

pub returns-clause-fresh : goal.returns-clause-fresh
returns-clause-fresh g c =
    subst (λ (callers : List CallerState). AreFresh c.args.mount.now callers) (sym (c.push_reserved.ensures.items ∙ ap (λ l. l ++ c.in_ok-caller.caller ∷ []) c.reserve.ensures.items))
    (fresh_more c.args.mount.now c.args.callers.now.items c.in_ok-caller.caller c.requires.fresh
    (subst (λ n. IsFresh c.args.mount.now n c.in_ok-caller.caller) c.requires.count c.in_ok-caller.ensures.caller.0))

pub returns-clause-more : goal.returns-clause-more
returns-clause-more g c = (
  c.in_ok-caller.caller,
  c.push_reserved.ensures.items ∙ ap (λ l. l ++ c.in_ok-caller.caller ∷ []) c.reserve.ensures.items,
  c.in_ok-caller.ensures.caller.1,
)
