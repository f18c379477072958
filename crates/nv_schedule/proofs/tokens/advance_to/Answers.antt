-- The advances of a token add up.
use Rattle.std.proofs.Common.{◌≡◌, Bool, false, List, [], ◌∷◌, ◌++◌, refl, sym, ap, subst, ◌∙◌, arith, length-append}
use Rattle.std.specs.Prelude.{Result, IfOk}
use Rattle.nv_core.specs.steps.Events.{Event}
use Rattle.nv_plain.specs.declared.memory.NoMemory.{NoMemory}
use Rattle.nv_schedule.specs.Following.{FallShort, OneTells, all_events, next_at}
use Rattle.nv_schedule.specs.Orders.{ComeBehind}
use Rattle.nv_schedule.specs.Reaches.{has_come, is_there}
use Rattle.nv_schedule.specs.declared.turned.Turned.{Turned}
use Rattle.nv_schedule.proofs.FaultLaws.{fails_only_cut, met_fault, unmet}
use Rattle.nv_schedule.proofs.FollowLaws.{all_events_on, behind_none, behind_on, fall_on, goes_nowhere, goes_to, next_within, none_come, none_there}
use Rattle.nv_schedule.proofs.SinceLaws.{all_both, all_self}
use Rattle.nv_schedule.proofs.tokens.advance_to.Goals as goal

pub loop-made-init : goal.loop-made-init
loop-made-init g c = record {
  stand = c.requires.stand;
  on = all_self c.args.mount.now.fds c.args.callers.now;
  workspace = c.requires.workspace;
  bare = c.requires.bare;
  view = c.requires.view;
  some = none_there c.args.reach (next_at c.args.callers.now c.args.place) (ap (is_there c.args.reach) (sym c.next_kind_at.ensures) ∙ sym c.at_point.ensures ∙ c.if-at_point.false);
  few = omega arith;
  advances = [];
  well = c.requires.well;
  fell = refl;
  count = refl;
  behind = behind_none c.args.view.run;
}

pub turn_at-later-requires-clause-within : goal.turn_at-later-requires-clause-within
turn_at-later-requires-clause-within g c = next_within c.loop-made.callers c.args.place c.loop-made.invariant.some

pub loop-made-preserved : goal.loop-made-preserved
loop-made-preserved g c =
    let so_far = c.loop-made.invariant in
    let how = c.in-Ok.turned in
    let told = subst (λ (r : Result Turned NoMemory). IfOk r (λ turned. (events : List Event) × OneTells c.args.mount.now.fds c.args.place turned events c.loop-made.callers c.turn_at-later.new.callers × ComeBehind events c.loop-made.view.run c.turn_at-later.result.0.run)) c.in-Ok.is c.turn_at-later.ensures.turned in
    let none = unmet c.args.cut how.faulted (sym c.ends.ensures ∙ c.if-ends.false) in
    let short : has_come c.args.reach how.answered (next_at c.turn_at-later.new.callers c.args.place) ≡ false =
    ap (has_come c.args.reach how.answered) (sym c.next_kind_at-in-loop-made.ensures) ∙ sym c.come_to_point.ensures ∙ c.if-come_to_point.false in
    record {
      stand = c.turn_at-later.ensures.stand;
      on = all_both c.args.mount.now.fds c.args.callers.now c.loop-made.callers c.turn_at-later.new.callers so_far.on c.turn_at-later.ensures.on;
      workspace = c.turn_at-later.ensures.workspace;
      bare = c.turn_at-later.ensures.bare;
      view = c.turn_at-later.ensures.view;
      some = none_come c.args.reach how.answered (next_at c.turn_at-later.new.callers c.args.place) short;
      few = let less = c.loop-made-test.true in omega (arith, less);
      advances = so_far.advances ++ told.0 ∷ [];
      well = λ uncut. told.1.well (none uncut) (so_far.well uncut);
      fell = fall_on c.args.mount.now.fds c.args.cut c.args.reach c.args.place c.args.callers.now c.loop-made.callers c.turn_at-later.new.callers so_far.advances told.0 how.answered so_far.fell told.1.one
          (fails_only_cut c.args.cut how.faulted told.0 (λ uncut. told.1.failed (so_far.well uncut)) none) short;
      count = let both = length-append so_far.advances (told.0 ∷ []) in let count = so_far.count in omega (arith, both, count);
      behind = subst (λ l. ComeBehind l c.args.view.run c.turn_at-later.result.0.run) (sym (all_events_on so_far.advances told.0))
          (behind_on (all_events so_far.advances) told.0 c.args.view.run c.loop-made.view.run c.turn_at-later.result.0.run so_far.behind told.2);
    }

pub returns-then-ends-clause-tells : goal.returns-then-ends-clause-tells
returns-then-ends-clause-tells g c =
    let so_far = c.loop-made.invariant in
    let how = c.in-Ok.turned in
    let told = subst (λ (r : Result Turned NoMemory). IfOk r (λ turned. (events : List Event) × OneTells c.args.mount.now.fds c.args.place turned events c.loop-made.callers c.turn_at-later.new.callers × ComeBehind events c.loop-made.view.run c.turn_at-later.result.0.run)) c.in-Ok.is c.turn_at-later.ensures.turned in
    let met = met_fault c.args.cut how.faulted (sym c.ends.ensures ∙ c.if-ends.true) in (
      ap (is_there c.args.reach) (sym c.next_kind_at.ensures) ∙ sym c.at_point.ensures ∙ c.if-at_point.false,
      met.0,
      so_far.advances ++ told.0 ∷ [],
      record {
        short = so_far.advances;
        middle = c.loop-made.callers;
        fell = subst (λ (cut : Bool). FallShort c.args.mount.now.fds cut c.args.reach c.args.place c.args.callers.now so_far.advances c.loop-made.callers) met.0 so_far.fell;
        answered = how.answered;
        last = told.0;
        one = told.1.one;
        failed = told.1.failed (so_far.well met.0) ∙ met.1;
        all = refl;
      },
      (let both = length-append so_far.advances (told.0 ∷ []) in let less = c.loop-made-test.true in let count = so_far.count in omega (arith, both, less, count)),
      subst (λ l. ComeBehind l c.args.view.run c.turn_at-later.result.0.run) (sym (all_events_on so_far.advances told.0))
          (behind_on (all_events so_far.advances) told.0 c.args.view.run c.loop-made.view.run c.turn_at-later.result.0.run so_far.behind told.2),
    )

pub returns-then-come_to_point-clause-tells : goal.returns-then-come_to_point-clause-tells
returns-then-come_to_point-clause-tells g c =
    let so_far = c.loop-made.invariant in
    let how = c.in-Ok.turned in
    let told = subst (λ (r : Result Turned NoMemory). IfOk r (λ turned. (events : List Event) × OneTells c.args.mount.now.fds c.args.place turned events c.loop-made.callers c.turn_at-later.new.callers × ComeBehind events c.loop-made.view.run c.turn_at-later.result.0.run)) c.in-Ok.is c.turn_at-later.ensures.turned in (
      so_far.advances ++ told.0 ∷ [],
      goes_to c.args.mount.now.fds c.args.cut c.args.reach c.args.place c.args.callers.now c.loop-made.callers c.turn_at-later.new.callers so_far.advances told.0 how.answered
          (ap (is_there c.args.reach) (sym c.next_kind_at.ensures) ∙ sym c.at_point.ensures ∙ c.if-at_point.false) so_far.fell told.1.one
          (fails_only_cut c.args.cut how.faulted told.0 (λ uncut. told.1.failed (so_far.well uncut)) (unmet c.args.cut how.faulted (sym c.ends.ensures ∙ c.if-ends.false)))
          (ap (has_come c.args.reach how.answered) (sym c.next_kind_at-in-loop-made.ensures) ∙ sym c.come_to_point.ensures ∙ c.if-come_to_point.true)
          (let less = c.loop-made-test.true in let count = so_far.count in omega (arith, less, count)),
      subst (λ l. ComeBehind l c.args.view.run c.turn_at-later.result.0.run) (sym (all_events_on so_far.advances told.0))
          (behind_on (all_events so_far.advances) told.0 c.args.view.run c.loop-made.view.run c.turn_at-later.result.0.run so_far.behind told.2),
    )

pub returns-then-come_to_point-clause-well : goal.returns-then-come_to_point-clause-well
returns-then-come_to_point-clause-well g c = λ uncut.
    let so_far = c.loop-made.invariant in
    let told = subst (λ (r : Result Turned NoMemory). IfOk r (λ turned. (events : List Event) × OneTells c.args.mount.now.fds c.args.place turned events c.loop-made.callers c.turn_at-later.new.callers × ComeBehind events c.loop-made.view.run c.turn_at-later.result.0.run)) c.in-Ok.is c.turn_at-later.ensures.turned in
    told.1.well (unmet c.args.cut c.in-Ok.turned.faulted (sym c.ends.ensures ∙ c.if-ends.false) uncut) (so_far.well uncut)

pub returns-then-at_point-clause-tells : goal.returns-then-at_point-clause-tells
returns-then-at_point-clause-tells g c = (
  [],
  goes_nowhere c.args.mount.now.fds c.args.cut c.args.reach c.args.place c.args.callers.now (ap (is_there c.args.reach) (sym c.next_kind_at.ensures) ∙ sym c.at_point.ensures ∙ c.if-at_point.true),
  behind_none c.args.view.run,
)

pub returns-clause-tells : goal.returns-clause-tells
returns-clause-tells g c =
    let so_far = c.loop-made.invariant in (
      ap (is_there c.args.reach) (sym c.next_kind_at.ensures) ∙ sym c.at_point.ensures ∙ c.if-at_point.false,
      so_far.advances,
      so_far.fell,
      (let all = c.loop-made-test.false in let few = so_far.few in let count = so_far.count in omega (arith, all, few, count)),
      so_far.behind,
    )

pub returns-then-ends-clause-on : goal.returns-then-ends-clause-on
returns-then-ends-clause-on g c = all_both c.args.mount.now.fds c.args.callers.now c.loop-made.callers c.turn_at-later.new.callers c.loop-made.invariant.on c.turn_at-later.ensures.on

pub returns-then-come_to_point-clause-on : goal.returns-then-come_to_point-clause-on
returns-then-come_to_point-clause-on g c = all_both c.args.mount.now.fds c.args.callers.now c.loop-made.callers c.turn_at-later.new.callers c.loop-made.invariant.on c.turn_at-later.ensures.on

pub returns-in_default-clause-on : goal.returns-in_default-clause-on
returns-in_default-clause-on g c = all_both c.args.mount.now.fds c.args.callers.now c.loop-made.callers c.turn_at-later.new.callers c.loop-made.invariant.on c.turn_at-later.ensures.on

pub returns-then-at_point-clause-on : goal.returns-then-at_point-clause-on
returns-then-at_point-clause-on g c = all_self c.args.mount.now.fds c.args.callers.now
