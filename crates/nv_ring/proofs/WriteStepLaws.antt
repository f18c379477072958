-- Write steps: of which kind each step of a running write is, and what comes of it.
use Rattle.std.proofs.Common.{◌≡◌, ℕ, ◌+◌, ◌^◌, ◌==◌, nat_lt, nat_le, Bool, true, false, if◌then◌else◌, ◌<◌, refl, ap, subst, sym, ◌∙◌, arith, eq-eqb, ne_eqb}
use Rattle.std.specs.Prelude.{Option, Some, None, Result, Ok, Err}
use Rattle.nv_core.specs.state.Words.{Sizes}
use Rattle.nv_table.specs.state.States.{PassState}
use Rattle.nv_table.specs.state.Views.{PassView}
use Rattle.nv_table.specs.steps.StepContracts.{Postcondition}
use Rattle.nv_op.specs.Kinds.{kind_of, kind_of_op}
use Rattle.nv_plain.specs.declared.call.FileCall.{FileCall}
use Rattle.nv_op.specs.Ops.{call_asked, core_op_of}
use Rattle.nv_op.specs.declared.asked.Asked.{Asked}
use Rattle.nv_op.specs.declared.kinds.Kind.TheVariants.{Load, Take}
use Rattle.nv_core.specs.state.Passes.{len_of}
use Rattle.nv_op.proofs.KindLaws.{kind_same}
use Rattle.nv_mirror.specs.declared.answers.Refusal.{Refusal}
use Rattle.nv_mirror.specs.declared.answers.Refusal.TheVariants.{RegionFault}
use Rattle.nv_ring.specs.declared.append.AppendMachine.{AppendMachine}
use Rattle.nv_ring.specs.declared.append.AppendControl.{AppendControl}
use Rattle.nv_ring.specs.declared.append.AppendControl.TheVariants.{Appended, Refused}
use Rattle.nv_ring.specs.declared.append.AppendControl.TheVariants as appends
use Rattle.nv_mirror.specs.declared.front.FrontMachine.{FrontMachine}
use Rattle.nv_mirror.specs.declared.front.FrontControl.{FrontControl}
use Rattle.nv_mirror.specs.declared.front.FrontControl.TheVariants.{Passed, Over}
use Rattle.nv_mirror.specs.declared.front.FrontControl.TheVariants as fronts
use Rattle.nv_mirror.specs.declared.pageless.PagelessControl.TheVariants as controls
use Rattle.nv_mirror.specs.declared.pageless.PagelessMachine.{PagelessMachine}
use Rattle.nv_mirror.specs.declared.release.ReleaseMachine.{ReleaseMachine}
use Rattle.nv_ring.specs.declared.write.RunningWrite.TheVariants.{Pageless, Front, Draw, Append, Release}
use Rattle.nv_ring.specs.Appends as append
use Rattle.nv_ring.specs.declared.numbers.DrawControl.{DrawControl}
use Rattle.nv_ring.specs.declared.numbers.DrawControl.TheVariants as draws
use Rattle.nv_ring.specs.declared.numbers.DrawMachine.{DrawMachine}
use Rattle.nv_ring.specs.Draws as draw
use Rattle.nv_ring.specs.Appends.{HasStepped, append_after_at, append_op_at, append_place_at, append_refusal_at, control_then, next_or}
use Rattle.nv_mirror.specs.Fronts as front
use Rattle.nv_mirror.specs.Fronts.{front_after, front_after_at, front_op, front_op_at, front_opens, front_refusal_at, locked}
use Rattle.nv_mirror.specs.Pageless as pageless
use Rattle.nv_mirror.specs.Pageless.{pageless_after, pageless_op, pageless_place_at, pageless_refusal_at}
use Rattle.nv_mirror.specs.Releases as release
use Rattle.nv_mirror.specs.Releases.{release_after, release_op, release_op_at}
use Rattle.nv_mirror.specs.PassSteps.{either_of, fault_in, is_stop, place_by}
use Rattle.nv_ring.specs.RunningWrites.{place_of, refusal_of}
use Rattle.nv_ring.specs.WriteSteps.{HasMadeOne, IsFresh, first_kind, part_fault}
use Rattle.nv_ring.proofs.DrawLaws.{draw_free}
use Rattle.nv_mirror.proofs.PartLaws.{TellsFaults, front_tells, none_more, of_both, pageless_tells, release_tells}
use Rattle.nv_mirror.proofs.StepLaws.{between_self, no_fault, taken_by}

part_faults : TellsFaults part_fault
part_faults = record { none = refl; busy = λ cell. refl; stopped = refl; spent = λ found. refl }

-- ---- a front

pub front_one : (m next : FrontMachine) {opens : Option FileCall} (start now new : PassState) (found : ℕ) → front.IsOpen m.control → front.IsUnderWay m start now
    → Postcondition now opens (core_op_of now.view (front_op m)) found new → next ≡ front_after now.view.opened.sizes m found → HasMadeOne (Front m) (Front next) now new
front_one m next {opens} start now new found runs way is next_is =
    let told = front_tells part_fault part_faults m next start now new found runs way is next_is in
    record { step = told.step; taken = told.taken; kind = told.kind; fault = told.fault; place = told.placed }

-- ---- a draw

module _ (sizes : Sizes) (m : DrawMachine) (found : ℕ) (view : PassView) where
  draw_place : (control : DrawControl) → place_by (core_op_of view (draw.draw_op_at m control)) found ≡ None
  draw_place draws.LoadHead = refl
  draw_place draws.LoadTail = refl
  draw_place draws.DrawNumbers = refl
  draw_place draws.Drawn = refl
  draw_place (draws.Refused refusal) = refl

  draw_fault : (control : DrawControl) → draw.IsOpen control → part_fault (draw.draw_refusal_at (draw.control_then sizes m control found)) ≡ part_fault (draw.draw_refusal_at control)
  draw_fault draws.LoadHead runs = of_both (λ c. part_fault (draw.draw_refusal_at c)) (nat_le (found + m.pages) (2 ^ 60)) _ _ None refl refl
  draw_fault draws.LoadTail runs = of_both (λ c. part_fault (draw.draw_refusal_at c)) (nat_le (m.head + m.pages) (found + sizes.entries)) _ _ None refl refl
  draw_fault draws.DrawNumbers runs = of_both (λ c. part_fault (draw.draw_refusal_at c)) (found == m.head) _ _ None refl refl
  draw_fault draws.Drawn runs = absurd runs
  draw_fault (draws.Refused refusal) runs = absurd runs

pub draw_one : (m next : DrawMachine) (start now new : PassState) (found : ℕ) → draw.IsOpen m.control → draw.IsUnderWay m start now
    → Postcondition now None (core_op_of now.view (draw.draw_op m)) found new → next ≡ draw.draw_after now.view.opened.sizes m found → HasMadeOne (Draw m) (Draw next) now new
draw_one m next start now new found runs way is next_is = record {
  step = record { opens = None; works = is.works; op = core_op_of now.view (draw.draw_op m); found = found };
  taken = taken_by now now new _ _ found (between_self now) is;
  kind = λ well. kind_same now.view (draw.draw_op m);
  fault = ap (λ (n : DrawMachine). part_fault (draw.draw_refusal_at n.control)) next_is ∙ draw_fault now.view.opened.sizes m found now.view m.control runs
      ∙ sym (ap (either_of (part_fault (draw.draw_refusal_at m.control))) (no_fault now new _ _ found (draw_free m m.control start now runs way.1) is) ∙ none_more (part_fault (draw.draw_refusal_at m.control)));
  place = sym (draw_place now.view.opened.sizes m found now.view m.control);
}

-- ---- an append

module _ (sizes : Sizes) (m : AppendMachine) (failed : Bool) (found : ℕ) (view : PassView) where
  abbrev then_at : AppendControl → AppendMachine
  then_at control = append_after_at sizes m control failed found

  append_place : (control : AppendControl) → append.IsOpen control
      → append_place_at (then_at control) (control_then sizes m control failed found) ≡ either_of (append_place_at m control) (place_by (core_op_of view (append_op_at m control failed)) found)
  append_place (appends.SeizeEntry seized) runs = of_both (append_place_at m) (seized + 1 == m.pages) _ _ None refl refl
  append_place appends.CommitGroup runs = by_failed failed
    where
      by_failed : (b : Bool) → append_place_at m (if b then appends.BreakEntry 0 else append.pledged_then m 0) ≡ place_by (core_op_of view (append.committed_op m b)) found
      by_failed true = refl
      by_failed false = of_both (append_place_at m) (0 + 1 == m.pages) _ _ None refl refl
  append_place (appends.PledgePage pledged) runs = of_both (append_place_at m) (pledged + 1 == m.pages) _ _ None refl refl
  append_place (appends.ReadyEntry ready) runs = of_both (append_place_at m) (ready + 1 == m.pages) _ _ None refl refl
  append_place appends.TakePlace runs = of_both (append_place_at (then_at appends.TakePlace)) (nat_lt m.length m.end) _ _ (Some found) refl refl
  append_place appends.GrowLength runs = refl
  append_place (appends.BreakEntry broken) runs = of_both (append_place_at m) (broken + 1 == m.pages) _ _ None refl refl
  append_place Appended runs = absurd runs
  append_place (Refused refusal) runs = absurd runs

  append_fault : (control : AppendControl) → append.IsOpen control
      → part_fault (append_refusal_at (control_then sizes m control failed found)) ≡ either_of (part_fault (append_refusal_at control)) (append.fault_if (is_stop (core_op_of view (append_op_at m control failed))))
  append_fault (appends.SeizeEntry seized) runs = of_both (λ c. part_fault (append_refusal_at c)) (seized + 1 == m.pages) _ _ None refl refl
  append_fault appends.CommitGroup runs = by_failed failed
    where
      by_failed : (b : Bool) → part_fault (append_refusal_at (if b then appends.BreakEntry 0 else append.pledged_then m 0)) ≡ append.fault_if (is_stop (core_op_of view (append.committed_op m b)))
      by_failed true = refl
      by_failed false = of_both (λ c. part_fault (append_refusal_at c)) (0 + 1 == m.pages) _ _ None refl refl
  append_fault (appends.PledgePage pledged) runs = of_both (λ c. part_fault (append_refusal_at c)) (pledged + 1 == m.pages) _ _ None refl refl
  append_fault (appends.ReadyEntry ready) runs = of_both (λ c. part_fault (append_refusal_at c)) (ready + 1 == m.pages) _ _ None refl refl
  append_fault appends.TakePlace runs = of_both (λ c. part_fault (append_refusal_at c)) (nat_lt m.length m.end) _ _ None refl refl
  append_fault appends.GrowLength runs = refl
  append_fault (appends.BreakEntry broken) runs = of_both (λ c. part_fault (append_refusal_at c)) (broken + 1 == m.pages) _ _ (Some RegionFault) refl refl
  append_fault Appended runs = absurd runs
  append_fault (Refused refusal) runs = absurd runs

  append_kind : (control : AppendControl) → append.fault_if (is_stop (core_op_of view (append_op_at m control failed))) ≡ None
      → kind_of_op (core_op_of view (append_op_at m control failed)) ≡ kind_of (append_op_at m control false)
  append_kind (appends.SeizeEntry seized) well = refl
  append_kind appends.CommitGroup well = by_failed failed well
    where
      by_failed : (b : Bool) → append.fault_if (is_stop (core_op_of view (append.committed_op m b))) ≡ None → kind_of_op (core_op_of view (append.committed_op m b)) ≡ kind_of (append.committed_op m false)
      by_failed true well = absurd cc
      by_failed false well = refl
  append_kind (appends.PledgePage pledged) well = refl
  append_kind (appends.ReadyEntry ready) well = refl
  append_kind appends.TakePlace well = refl
  append_kind appends.GrowLength well = refl
  append_kind (appends.BreakEntry broken) well = refl
  append_kind Appended well = refl
  append_kind (Refused refusal) well = refl

pub append_one : (m next : AppendMachine) (now new : PassState) → append.IsOpen m.control → HasStepped m next now new → HasMadeOne (Append m) (Append next) now new
append_one m next now new runs is =
    let sizes = now.view.opened.sizes in
    let fault : fault_in is.step.works ≡ append.fault_if (is_stop (core_op_of now.view (append_op_at m m.control is.failed))) = is.fault ∙ ap (λ op. append.fault_if (is_stop op)) is.op in record {
      step = is.step;
      taken = is.taken;
      kind = λ well. ap kind_of_op is.op ∙ append_kind sizes m is.failed is.step.found now.view m.control (sym fault ∙ well);
      fault = ap (λ (n : AppendMachine). part_fault (append_refusal_at n.control)) is.next ∙ append_fault sizes m is.failed is.step.found now.view m.control runs
          ∙ ap (either_of (part_fault (append_refusal_at m.control))) (sym fault);
      place = ap (λ (n : AppendMachine). append_place_at n n.control) is.next ∙ append_place sizes m is.failed is.step.found now.view m.control runs
          ∙ ap (λ op. either_of (append_place_at m m.control) (place_by op is.step.found)) (sym is.op);
    }

-- ---- a call without a page

pub pageless_one : (m next : PagelessMachine) {opens : Option FileCall} (start now new : PassState) (found : ℕ) → pageless.IsOpen m.control → pageless.IsUnderWay m start now
    → Postcondition now opens (core_op_of now.view (pageless_op m.control)) found new → next.control ≡ pageless_after m.control found
    → HasMadeOne (Pageless m) (Pageless next) now new
pageless_one m next {opens} start now new found runs way is next_is =
    let told = pageless_tells part_fault part_faults m next start now new found runs way is next_is in
    record { step = told.step; taken = told.taken; kind = told.kind; fault = told.fault; place = told.placed }

-- ---- what is given back

pub release_one : (m next : ReleaseMachine) (start now new : PassState) (found : ℕ) → release.IsOpen m.control → release.IsUnderWay m start now
    → Postcondition now None (core_op_of now.view (release_op m)) found new → next ≡ release_after m → HasMadeOne (Release m) (Release next) now new
release_one m next start now new found runs way is next_is =
    let told = release_tells part_fault part_faults m next start now new found runs way is next_is in
    record { step = told.step; taken = told.taken; kind = told.kind; fault = told.fault; place = told.placed }

-- ---- where a part is over

pub over_place : (result : Result ℕ Refusal) → place_of result ≡ pageless_place_at (controls.Over result)
over_place (Ok place) = refl
over_place (Err refusal) = refl

pub over_fault : (result : Result ℕ Refusal) → refusal_of result ≡ pageless_refusal_at (controls.Over result)
over_fault (Ok place) = refl
over_fault (Err refusal) = refl

-- ---- where it begins

kind_none : (len : ℕ) → len ≡ 0 → Load ≡ first_kind len
kind_none len none = ap (λ b. if b then Load else Take) (sym (eq-eqb len 0 none))

kind_some : (len : ℕ) → 0 < len → Take ≡ first_kind len
kind_some len some = ap (λ b. if b then Load else Take) (sym (ne_eqb len 0 (λ none. omega (arith, some, none))))

pub fresh_pageless : (sizes : Sizes) (asked : Asked) → len_of (call_asked asked) ≡ 0 → IsFresh sizes (call_asked asked) (Pageless record { asked = asked; control = controls.Begin })
fresh_pageless sizes asked none = record { kind = kind_none (len_of (call_asked asked)) none; place = refl; fault = refl; few = omega arith }

begun_front : (m : FrontMachine) (control : FrontControl) → m.control ≡ control → control ≡ fronts.Begin → Front m ≡ Front (record m { control = fronts.Begin })
begun_front m control is begins = ap (λ c. Front (record m { control = c })) (is ∙ begins)

fresh_at : (sizes : Sizes) (m : FrontMachine) → m.control ≡ fronts.Begin → front.Fits sizes m → IsFresh sizes (front.front_call_of m) (Front (record m { control = fronts.Begin }))
fresh_at sizes m begins fits = record {
  kind = kind_some (len_of (front.front_call_of m)) fits.some;
  place = refl;
  fault = refl;
  few = let stands = subst (front.FitsAt m) begins fits.stands in let first = fits.first in let last = fits.last in let none = stands.0 in omega (arith, first, last, none);
}

pub fresh_front : (sizes : Sizes) (asked : Asked) (m : FrontMachine) → m.asked ≡ asked → m.control ≡ fronts.Begin → front.Fits sizes m → IsFresh sizes (call_asked asked) (Front m)
fresh_front sizes asked m same begins fits =
    subst (λ a. IsFresh sizes (call_asked a) (Front m)) same
    (subst (λ w. IsFresh sizes (front.front_call_of m) w) (sym (begun_front m m.control refl begins)) (fresh_at sizes m begins fits))
