-- Taken: what pass 0 knows of those that it took in stays so as it sees more of the run.
use Rattle.std.proofs.Common.{◌≡◌, ℕ, ◌≤◌, List, [], ◌∷◌, inl, inr, refl, sym, ap, subst, ◌∙◌}
use Rattle.nv_core.specs.state.Words.{Sizes}
use Rattle.nv_core.specs.state.Passes.{IsOneOf}
use Rattle.nv_core.specs.steps.Ops.{Op, Join}
use Rattle.nv_core.specs.invariant.OneHistory.{IsPrefix}
use Rattle.nv_core.specs.state.Core.{Core, ended_stepped}
use Rattle.nv_core.specs.steps.Events.{Act, BeginsCall, TakesStep, CallsDevice, Event, IsRun, after_act, after_event, own}
use Rattle.nv_core.specs.steps.Opening.{opening}
use Rattle.nv_core.proofs.steps.RunLaws.{run_parts}
use Rattle.nv_table.specs.state.Opened.{Opened, mount_of, IsRunOf, state_of}
use Rattle.nv_table.specs.invariant.BetweenSteps.{KnowsTaken}
use Rattle.nv_table.specs.passes.Seats.{past_of}
use Rattle.nv_table.specs.state.Views.{Past, PassView, SeesAll, ended_of, numbers}
use Rattle.nv_table.proofs.invariant.Going.{own_else}
use Rattle.nv_table.proofs.state.ViewLaws.{own_none, sees_on}

-- ---- a pass that was taken in has no event any more

op_keeps : (op : Op) (ended : List ℕ) (number : ℕ) → IsOneOf ended number → IsOneOf (ended_stepped op ended) number
op_keeps (Join other) ended number one = inr one
op_keeps op ended number one = one

act_keeps : (sizes : Sizes) (by : ℕ) (core : Core) (act : Act) (number : ℕ) → IsOneOf core.ended number → IsOneOf (after_act sizes by act core).ended number
act_keeps sizes by core (BeginsCall call op found) number one = op_keeps op core.ended number one
act_keeps sizes by core (TakesStep op found) number one = op_keeps op core.ended number one
act_keeps sizes by core (CallsDevice work) number one = one

ended_quiet : (sizes : Sizes) (core : Core) (rest : List Event) (number : ℕ) → IsRun sizes core rest → IsOneOf core.ended number → own number rest ≡ []
ended_quiet sizes core [] number run one = refl
ended_quiet sizes core (event ∷ later) number run one =
    own_none number (event ∷ []) later (own_else number event (λ is. run.0.there (subst (IsOneOf core.ended) (sym is) one)))
    (ended_quiet sizes (after_event sizes event core) later number run.1 (act_keeps sizes event.by core event.act number one))

pub number_there : (pasts : List Past) (past : Past) → IsOneOf pasts past → IsOneOf (numbers pasts) past.number
number_there [] past one = one
number_there (first ∷ rest) past (inl is) = inl (ap (λ (p : Past). p.number) is)
number_there (first ∷ rest) past (inr later) = inr (number_there rest past later)

-- ---- it sees more

module _ (view : PassView) (run : List Event) (knows : KnowsTaken view) (is_run : IsRunOf view.opened run) (begins : IsPrefix view.run run) where
  -- they lie in that too
  pub behind_on : (past : Past) → IsOneOf view.ended past → SeesAll past.number past.run run
  behind_on past one =
      let parts = run_parts view.opened.sizes (opening (mount_of view.opened)) view.run begins.0 (subst (IsRunOf view.opened) begins.1 is_run) in
      let there : IsOneOf (ended_of view) past.number = subst (λ ns. IsOneOf ns past.number) (sym knows.same) (number_there view.ended past one) in
      subst (SeesAll past.number past.run) (sym begins.1)
      (sees_on past.number past.run view.run begins.0 (ended_quiet view.opened.sizes (state_of view.opened view.run) begins.0 past.number parts.1 there) (knows.behind past one))

  -- it has taken in no other
  pub knows_on : (new : PassView) → new.opened ≡ view.opened → new.ended ≡ view.ended → new.run ≡ run → ended_of new ≡ ended_of view → KnowsTaken new
  knows_on new opened ended run_is same = record {
    same = same ∙ knows.same ∙ sym (ap numbers ended);
    made = λ past one. subst (λ (o : Opened). past.number ≤ (state_of o past.run).made) (sym opened) (knows.made past (subst (λ (l : List Past). IsOneOf l past) ended one));
    behind = λ past one. subst (SeesAll past.number past.run) (sym run_is) (behind_on past (subst (λ (l : List Past). IsOneOf l past) ended one));
  }

  -- it has taken in another one
  pub knows_joined : (new last : PassView) → new.opened ≡ view.opened → last.opened ≡ view.opened → new.ended ≡ past_of last ∷ view.ended → new.run ≡ run
      → ended_of new ≡ last.number ∷ ended_of view → last.number ≤ (state_of last.opened last.run).made → SeesAll last.number last.run run → KnowsTaken new
  knows_joined new last opened opened_last ended run_is same made all = record {
    same = same ∙ ap (λ ns. last.number ∷ ns) knows.same ∙ sym (ap numbers ended);
    made = λ past one. subst (λ (o : Opened). past.number ≤ (state_of o past.run).made) (sym opened) (made_there past (subst (λ (l : List Past). IsOneOf l past) ended one));
    behind = λ past one. subst (SeesAll past.number past.run) (sym run_is) (behind_there past (subst (λ (l : List Past). IsOneOf l past) ended one));
  }
    where
      made_there : (past : Past) → IsOneOf (past_of last ∷ view.ended) past → past.number ≤ (state_of view.opened past.run).made
      made_there past (inl is) = subst (λ (p : Past). p.number ≤ (state_of view.opened p.run).made) (sym is) (subst (λ (o : Opened). last.number ≤ (state_of o last.run).made) opened_last made)
      made_there past (inr before) = knows.made past before

      behind_there : (past : Past) → IsOneOf (past_of last ∷ view.ended) past → SeesAll past.number past.run run
      behind_there past (inl is) = subst (λ (p : Past). SeesAll p.number p.run run) (sym is) all
      behind_there past (inr before) = behind_on past before
