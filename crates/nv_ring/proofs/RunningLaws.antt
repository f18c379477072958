-- Running writes: each part goes on where the one before it ends, until the call is over.
use Rattle.std.proofs.Common.{◌≡◌, ◌≢◌, ℕ, ◌+◌, ◌<◌, ◌≤◌, Bool, true, false, if◌then◌else◌, length, refl, ap, subst, ◌∙◌, arith}
use Rattle.std.specs.Prelude.{Some, None, Result, Ok, Err}
use Rattle.std.proofs.lemmas.Bool.{lt-ltb}
use Rattle.nv_plain.specs.declared.call.FileCall.{FileCall}
use Rattle.nv_core.specs.state.Passes.{is_write, len_of}
use Rattle.nv_table.specs.state.States.{PassState}
use Rattle.nv_op.specs.declared.asked.Asked.{Asked}
use Rattle.nv_op.specs.declared.asked.Asked.TheVariants.{Read as AsksRead, Write as AsksWrite, Sync as AsksSync}
use Rattle.nv_op.specs.Ops.{call_asked}
use Rattle.nv_mirror.specs.declared.answers.Refusal.{Refusal}
use Rattle.nv_ring.specs.declared.append.AppendMachine.{AppendMachine}
use Rattle.nv_ring.specs.declared.append.AppendControl.TheVariants.{Appended, Refused}
use Rattle.nv_ring.specs.declared.append.AppendControl.TheVariants as appends
use Rattle.nv_mirror.specs.declared.front.FrontControl.{FrontControl}
use Rattle.nv_mirror.specs.declared.front.FrontMachine.{FrontMachine}
use Rattle.nv_mirror.specs.declared.front.FrontControl.TheVariants as fronts
use Rattle.nv_mirror.specs.declared.pageless.PagelessControl.TheVariants as controls
use Rattle.nv_mirror.specs.declared.pageless.PagelessMachine.{PagelessMachine}
use Rattle.nv_mirror.specs.declared.release.ReleaseControl.{ReleaseControl}
use Rattle.nv_mirror.specs.declared.release.ReleaseMachine.{ReleaseMachine}
use Rattle.nv_mirror.specs.declared.release.ReleaseControl.TheVariants as releases
use Rattle.nv_ring.specs.declared.write.RunningWrite.TheVariants.{Pageless, Front, Draw, Append, Release}
use Rattle.nv_ring.specs.Appends as append
use Rattle.nv_ring.specs.declared.numbers.DrawControl.{DrawControl}
use Rattle.nv_ring.specs.declared.numbers.DrawControl.TheVariants as draws
use Rattle.nv_ring.specs.declared.numbers.DrawMachine.{DrawMachine}
use Rattle.nv_ring.specs.Draws as draw
use Rattle.nv_ring.specs.Appends.{HasStepped, append_asked, append_measure, append_call_of, noted}
use Rattle.nv_mirror.specs.Controls.{IsMadeOver}
use Rattle.nv_mirror.specs.Fronts as front
use Rattle.nv_mirror.specs.Fronts.{front_after, front_after_at}
use Rattle.nv_core.specs.state.Words.{Sizes}
use Rattle.nv_ring.specs.declared.append.AppendControl.{AppendControl}
use Rattle.nv_mirror.specs.Pageless as pageless
use Rattle.nv_mirror.specs.Releases as release
use Rattle.nv_ring.specs.RunningWrites.{AsksForWrite, IsUnderWay, refusal_of, place_of, front_part, write_measure}
use Rattle.nv_ring.specs.Ways.{released_of, refused_of}
use Rattle.nv_mirror.proofs.EndsLaws.{call_over}
use Rattle.nv_mirror.proofs.PartLaws.{front_keeps}

pub pageless_over : (m : PagelessMachine) (result : Result ℕ Refusal) (call : FileCall) (start now : PassState) → m.control ≡ controls.Over result → IsUnderWay call (Pageless m) start now → IsMadeOver call (refusal_of result) (place_of result) start now
pageless_over m (Ok place) call start now control way =
    call_over (call_asked m.asked) call _ None (Some place) start now way.0 (subst (λ c. pageless.IsInCall m.asked c start now) control way.1.1) refl refl
pageless_over m (Err refusal) call start now control way =
    call_over (call_asked m.asked) call _ (Some refusal) None start now way.0 (subst (λ c. pageless.IsInCall m.asked c start now) control way.1.1) refl refl

pub front_over : (m : FrontMachine) (refusal : Refusal) (call : FileCall) (start now : PassState) → m.control ≡ fronts.Over refusal → IsUnderWay call (Front m) start now → IsMadeOver call (Some refusal) None start now
front_over m refusal call start now control way =
    call_over (front.front_call_of m) call _ (Some refusal) None start now way.0 (subst (λ c. front.IsInCall m c start now) control way.2.1) refl refl

pub release_over : (m : ReleaseMachine) (call : FileCall) (start now : PassState) → m.control ≡ releases.Over → IsUnderWay call (Release m) start now → IsMadeOver call None (Some m.place) start now
release_over m call start now control way =
    call_over (release.release_call_of m) call _ None (Some m.place) start now way.0 (subst (λ c. release.IsInCall m c start now) control way.1.1) refl refl

-- ---- a part is over nowhere else

pub open_front : (control : FrontControl) → (control ≡ fronts.Passed → ⊥) → ((refusal : Refusal) → control ≡ fronts.Over refusal → ⊥) → front.IsOpen control
open_front fronts.Passed passed over = absurd (passed refl)
open_front (fronts.Over refusal) passed over = absurd (over refusal refl)
open_front fronts.Begin passed over = tt
open_front fronts.TakePage passed over = tt
open_front fronts.LoadLength passed over = tt
open_front fronts.TakeSize passed over = tt
open_front fronts.LoadStop passed over = tt
open_front fronts.LoadOrder passed over = tt
open_front (fronts.GiveBack size refusal) passed over = tt

pub open_draw : (control : DrawControl) → (control ≡ draws.Drawn → ⊥) → ((refusal : Refusal) → control ≡ draws.Refused refusal → ⊥) → draw.IsOpen control
open_draw draws.Drawn drawn refused = absurd (drawn refl)
open_draw (draws.Refused refusal) drawn refused = absurd (refused refusal refl)
open_draw draws.LoadHead drawn refused = tt
open_draw draws.LoadTail drawn refused = tt
open_draw draws.DrawNumbers drawn refused = tt

pub open_append : (control : AppendControl) → (control ≡ Appended → ⊥) → ((refusal : Refusal) → control ≡ Refused refusal → ⊥) → append.IsOpen control
open_append Appended appended refused = absurd (appended refl)
open_append (Refused refusal) appended refused = absurd (refused refusal refl)
open_append (appends.SeizeEntry seized) appended refused = tt
open_append appends.CommitGroup appended refused = tt
open_append (appends.PledgePage pledged) appended refused = tt
open_append (appends.ReadyEntry ready) appended refused = tt
open_append appends.TakePlace appended refused = tt
open_append appends.GrowLength appended refused = tt
open_append (appends.BreakEntry broken) appended refused = tt

pub open_release : (control : ReleaseControl) → (control ≡ releases.Over → ⊥) → release.IsOpen control
open_release releases.Over over = absurd (over refl)
open_release releases.GiveSize over = tt
open_release (releases.GivePage given) over = tt

-- ---- what is given back first

pub released_open : (m : AppendMachine) (size : Bool) → release.IsOpen (if size then releases.GiveSize else releases.GivePage 0)
released_open m true = tt
released_open m false = tt

pub released_low : (m : AppendMachine) (size : Bool) → release.release_measure_at (released_of m) (if size then releases.GiveSize else releases.GivePage 0) ≤ 3 + m.pages
released_low m true = omega arith
released_low m false = omega arith

pub refused_low : (m : AppendMachine) (size : Bool) (refusal : Refusal) → front_part (refused_of m refusal) (fronts.GiveBack size refusal) ≤ 3 + m.pages
refused_low m true refusal = omega arith
refused_low m false refusal = omega arith

-- a write that has some bytes is one
pub writes_some : (m : AppendMachine) → 0 < length m.bytes.now → is_write (append_call_of m) ≡ true
writes_some m some = lt-ltb 0 (length m.bytes.now) some

pub asks_some : (asked : Asked) → AsksForWrite asked → len_of (call_asked asked) ≢ 0 → is_write (call_asked asked) ≡ true
asks_some (AsksWrite file at bytes) write some = lt-ltb 0 (length bytes.now) (omega (arith, some))
asks_some (AsksRead file at len) write some = absurd write
asks_some (AsksSync file) write some = absurd write

-- ---- a step goes on with the same call

draw_asks : (m : DrawMachine) (control : DrawControl) (found : ℕ) → draw.draw_asked (draw.noted m control found) ≡ draw.draw_asked m
draw_asks m draws.LoadHead found = refl
draw_asks m draws.LoadTail found = refl
draw_asks m draws.DrawNumbers found = refl
draw_asks m draws.Drawn found = refl
draw_asks m (draws.Refused refusal) found = refl

draw_pages : (m : DrawMachine) (control : DrawControl) (found : ℕ) → (draw.noted m control found).pages ≡ m.pages
draw_pages m draws.LoadHead found = refl
draw_pages m draws.LoadTail found = refl
draw_pages m draws.DrawNumbers found = refl
draw_pages m draws.Drawn found = refl
draw_pages m (draws.Refused refusal) found = refl

append_asks : (m : AppendMachine) (control : AppendControl) (found : ℕ) → append_asked (noted m control found) ≡ append_asked m
append_asks m (appends.SeizeEntry seized) found = refl
append_asks m appends.CommitGroup found = refl
append_asks m (appends.PledgePage pledged) found = refl
append_asks m (appends.ReadyEntry ready) found = refl
append_asks m appends.TakePlace found = refl
append_asks m appends.GrowLength found = refl
append_asks m Appended found = refl
append_asks m (appends.BreakEntry broken) found = refl
append_asks m (Refused refusal) found = refl

append_pages : (m : AppendMachine) (control : AppendControl) (found : ℕ) → (noted m control found).pages ≡ m.pages
append_pages m (appends.SeizeEntry seized) found = refl
append_pages m appends.CommitGroup found = refl
append_pages m (appends.PledgePage pledged) found = refl
append_pages m (appends.ReadyEntry ready) found = refl
append_pages m appends.TakePlace found = refl
append_pages m appends.GrowLength found = refl
append_pages m Appended found = refl
append_pages m (appends.BreakEntry broken) found = refl
append_pages m (Refused refusal) found = refl

pub append_falls : (m new : AppendMachine) (was now : PassState) → HasStepped m new was now → append_measure new < append_measure m → write_measure (Append new) < write_measure (Append m)
append_falls m new was now stepped falls =
    let pages : new.pages ≡ m.pages = ap (λ (n : AppendMachine). n.pages) stepped.next ∙ append_pages m m.control stepped.step.found in
    omega (arith, pages, falls)

pub front_goes : (sizes : Sizes) (m new : FrontMachine) (found : ℕ) (call : FileCall) (start now : PassState) → new ≡ front_after sizes m found → front.front_call_of m ≡ call → is_write (front.front_call_of m) ≡ true → front.IsUnderWay new start now → IsUnderWay call (Front new) start now
front_goes sizes m new found call start now is same write way =
    let asked = ap front.front_call_of is ∙ front_keeps front.front_call_of (λ f held sized length control. refl) sizes m m.control found in
    (asked ∙ same, ap is_write asked ∙ write, way)

pub append_goes : (m new : AppendMachine) (was now : PassState) (call : FileCall) (start : PassState) → HasStepped m new was now → append_call_of m ≡ call → append.IsUnderWay new start now → IsUnderWay call (Append new) start now
append_goes m new was now call start stepped same way =
    (ap append_call_of stepped.next ∙ ap call_asked (append_asks m m.control stepped.step.found) ∙ same, way)

pub draw_falls : (sizes : Sizes) (m new : DrawMachine) (found : ℕ) → new ≡ draw.draw_after sizes m found → draw.draw_measure new < draw.draw_measure m → write_measure (Draw new) < write_measure (Draw m)
draw_falls sizes m new found is falls =
    let pages : new.pages ≡ m.pages = ap (λ (n : DrawMachine). n.pages) is ∙ draw_pages m m.control found in
    omega (arith, pages, falls)

pub draw_goes : (sizes : Sizes) (m new : DrawMachine) (found : ℕ) (call : FileCall) (start now : PassState) → new ≡ draw.draw_after sizes m found → draw.draw_call_of m ≡ call → draw.IsUnderWay new start now → IsUnderWay call (Draw new) start now
draw_goes sizes m new found call start now is same way = (ap draw.draw_call_of is ∙ ap call_asked (draw_asks m m.control found) ∙ same, way)
