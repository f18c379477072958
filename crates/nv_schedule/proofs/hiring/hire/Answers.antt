-- One thread more.
use Rattle.std.proofs.Common.{◌∷◌, [], length, map, refl, sym, ap, subst, ◌∙◌, arith, length-append}
use Rattle.nv_schedule.specs.Fresh.{AreFresh}
use Rattle.nv_schedule.specs.Turns.{CallerState}
use Rattle.nv_schedule.specs.declared.caller.Work.TheVariants.{Calls}
use Rattle.nv_schedule.proofs.EndLaws.{aside_on, aside_self}
use Rattle.nv_schedule.proofs.FreshLaws.{works_first, works_last, works_more}
use Rattle.nv_schedule.proofs.hiring.hire.Goals as goal

pub loop-number-preserved : goal.loop-number-preserved
loop-number-preserved g c =
    let so_far = c.loop-number.invariant in
    let more = c.in_ok-hire_one.ensures.more in
    record {
      zero = c.hire_one.ensures.zero;
      fresh = c.hire_one.ensures.fresh;
      count = c.hire_one.ensures.count;
      aside = aside_on c.args.zero.now c.loop-number.zero c.hire_one.new.zero so_far.aside c.hire_one.ensures.aside;
      ended = c.hire_one.ensures.ended ∙ so_far.ended;
      here = let both = length-append c.loop-number.callers.items (more.0 ∷ []) in let is = ap (λ l. length l) more.1 in let here = so_far.here in omega (arith, both, is, here);
      few = let less = c.loop-number-test.true in omega (arith, less);
      works = works_more c.args.calls.now c.loop-number.number c.loop-number.callers.items c.hire_one.new.callers.items more.0 so_far.works more.1 (more.2 ∙ ap Calls c.new-thread.ensures);
    }

pub loop-number-init : goal.loop-number-init
loop-number-init g c = record {
  zero = c.requires.zero;
  fresh = subst (AreFresh c.args.mount.now) (sym c.requires.none) (λ i d less. absurd (omega (arith, less)));
  count = c.requires.first ∙ sym (ap (λ l. length l) c.requires.none);
  aside = aside_self c.args.zero.now;
  ended = refl;
  here = ap (λ l. length l) c.requires.none;
  few = omega arith;
  works = ap (map (λ (caller : CallerState). caller.work)) c.requires.none;
}

pub returns-clause-aside : goal.returns-clause-aside
returns-clause-aside g c = aside_on c.args.zero.now c.loop-number.zero c.hire_one-2.new.zero c.loop-number.invariant.aside c.hire_one-2.ensures.aside

pub returns-in_err-hire_one-clause-aside : goal.returns-in_err-hire_one-clause-aside
returns-in_err-hire_one-clause-aside g c = aside_on c.args.zero.now c.loop-number.zero c.hire_one.new.zero c.loop-number.invariant.aside c.hire_one.ensures.aside

pub returns-clause-some : goal.returns-clause-some
returns-clause-some g c =
    let so_far = c.loop-number.invariant in
    let all = c.loop-number-test.false in
    let few = so_far.few in
    works_last c.args.calls.now c.args.batch c.loop-number.number c.loop-number.callers.items c.hire_one-2.new.callers.items _ c.hire_one-2.result so_far.works (omega (arith, all, few)) refl c.hire_one-2.ensures.more c.hire_one-2.ensures.none

pub returns-in_err-hire_one-clause-some : goal.returns-in_err-hire_one-clause-some
returns-in_err-hire_one-clause-some g c =
    let so_far = c.loop-number.invariant in
    works_first c.args.calls.now c.args.batch c.loop-number.number c.hire_one.new.callers.items (ap (map (λ (caller : CallerState). caller.work)) c.in_err-hire_one.ensures.none ∙ so_far.works) so_far.few
