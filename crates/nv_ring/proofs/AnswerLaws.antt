-- Answers: what each step of a draw adds to what it has found, and its answer at the end.
use Rattle.std.proofs.Common.{◌≡◌, ℕ, ◌+◌, ◌<◌, ◌≤◌, ◌==◌, ◌^◌, nat_le, Bool, true, false, if◌then◌else◌, refl, sym, ap, subst, ◌∙◌, List, [], ◌∷◌, ◌++◌, arith, eq-eqb}
use Rattle.std.specs.Prelude.{None}
use Rattle.std.proofs.lemmas.Bool.{leb-true, leb-false, eqb-true, eqb-false, true≢false}
use Rattle.nv_core.specs.state.Words.{Sizes, HEAD, TAIL}
use Rattle.nv_core.specs.state.Passes.{Pass}
use Rattle.nv_core.specs.steps.Order.{Values, Work}
use Rattle.nv_core.specs.steps.Frames.{OwnEventsTell}
use Rattle.nv_core.specs.steps.Opening.{IsMount, opening}
use Rattle.nv_core.specs.steps.Events.{after_run}
use Rattle.nv_core.specs.invariant.InvariantLaws.{RunsAreSound}
use Rattle.nv_core.proofs.steps.RunLaws.{run_parts}
use Rattle.nv_table.specs.state.Views.{pass_of, values_of}
use Rattle.nv_table.specs.steps.SeatSteps.{AreDue, act_of, events}
use Rattle.nv_table.proofs.steps.CallLaws.{IsCallFree}
use Rattle.nv_ring.proofs.DrawLaws.{draw_free}
use Rattle.nv_core.specs.steps.Ops.{Op as CoreOp, Load as LoadWord, Draw as DrawAtHead}
use Rattle.nv_table.specs.state.Opened.{IsRunOf, mount_of}
use Rattle.nv_table.specs.state.States.{PassState}
use Rattle.nv_table.specs.steps.StepContracts.{Postcondition}
use Rattle.nv_op.specs.Ops.{core_op_of}
use Rattle.nv_mirror.specs.Controls.{Drawing}
use Rattle.nv_mirror.specs.declared.answers.Refusal.TheVariants.{Spent, Again, Raced}
use Rattle.nv_ring.specs.declared.numbers.DrawControl.{DrawControl}
use Rattle.nv_ring.specs.declared.numbers.DrawControl.TheVariants.{Drawn, Refused}
use Rattle.nv_ring.specs.declared.numbers.DrawControl.TheVariants as draws
use Rattle.nv_ring.specs.declared.numbers.DrawMachine.{DrawMachine}
use Rattle.nv_ring.specs.Draws.{HasComeAt, IsInCall, IsOpen, draw_after_at, draw_op_at}

-- ---- HEAD only rises

higher : (seen found : ℕ) → (found ≡ seen → ⊥) → seen ≤ found → seen < found
higher seen found other low = omega (arith, other, low)

none_due : (sizes : Sizes) (values : Values) (pass : Pass) (works : List Work) → IsCallFree pass.control → AreDue sizes values pass works → works ≡ []
none_due sizes values pass [] free due = refl
none_due sizes values pass (work ∷ later) free due = absurd (free sizes values pass work due.0.due)

-- What the exchange finds is at least HEAD as the pass saw it last: it is the word in the state where it came, which the pass has come to by its own events.
found_high : RunsAreSound → OwnEventsTell → (old new : PassState) (found : ℕ) → IsMount (mount_of old.view.opened) → IsCallFree (pass_of old.view).control → Postcondition old None DrawAtHead found new → (pass_of old.view).head ≤ found
found_high sound tell old new found mount free step =
    let opened = old.view.opened in
    let sizes = opened.sizes in
    let by = old.view.number in
    let first = opening (mount_of opened) in
    let run = step.steps.run in
    let none = none_due sizes (values_of old.view) (pass_of old.view) step.works free step.due in
    let parts = run_parts sizes first run (events by [] (act_of None DrawAtHead found)) (subst (λ works. IsRunOf opened (run ++ events by works (act_of None DrawAtHead found))) none step.steps.is_run) in
    let all = step.steps.knew.all in
    let known = tell (mount_of opened) by old.view.run all.rest mount (subst (IsRunOf opened) all.goes_on parts.0) step.steps.knew.made all.quiet in
    let pass : (after_run sizes first run).passes by ≡ pass_of old.view = ap (λ events. (after_run sizes first events).passes by) all.goes_on ∙ known.pass in
    let low : ((after_run sizes first run).passes by).head ≤ (after_run sizes first run).words HEAD = (sound (mount_of opened) run mount parts.0).loaded.head by in
    subst (λ (p : Pass). p.head ≤ found) pass (subst (λ n. ((after_run sizes first run).passes by).head ≤ n) parts.1.0.act.is low)

-- ---- the answers

module _ (m : DrawMachine) (began was new : PassState) (found : ℕ) where
  abbrev sizes : Sizes
  sizes = was.view.opened.sizes

  abbrev core_op : DrawControl → CoreOp
  core_op control = core_op_of was.view (draw_op_at m control)

  abbrev Comes : DrawMachine → Type 0
  Comes next = HasComeAt sizes next next.control began new

  from_head : Postcondition was None (LoadWord HEAD) found new → was ≡ began → (b : Bool) → nat_le (found + m.pages) (2 ^ 60) ≡ b
      → Comes (record m { head = found; control = if b then draws.LoadTail else Refused (Spent found) })
  from_head step so true is = (leb-true (found + m.pages) (2 ^ 60) is, (was, so, step))
  from_head step so false is = (leb-false (found + m.pages) (2 ^ 60) is, (was, so, step))

  from_tail : Postcondition was None (LoadWord TAIL) found new → HasComeAt sizes m draws.LoadTail began was → (b : Bool) → nat_le (m.head + m.pages) (found + sizes.entries) ≡ b
      → Comes (record m { control = if b then draws.DrawNumbers else Refused (Again m.head found) })
  from_tail step so true is = (found, so.0, leb-true (m.head + m.pages) (found + sizes.entries) is, (was, so.1, step))
  from_tail step so false is = (so.0, leb-false (m.head + m.pages) (found + sizes.entries) is, (was, so.1, step))

  -- the exchange finds no lower HEAD than the one that was loaded
  exchanged_high : RunsAreSound → OwnEventsTell → IsMount (mount_of was.view.opened) → (start : PassState) → IsInCall m draws.DrawNumbers start was → Postcondition was None DrawAtHead found new → m.head ≤ found
  exchanged_high sound tell mount start way step =
      subst (λ n. n ≤ found) (ap (λ (d : Drawing). d.head) way.called.mirrors) (found_high sound tell was new found mount (draw_free m draws.DrawNumbers start was tt way) step)

  from_draw : Postcondition was None DrawAtHead found new → m.head ≤ found → HasComeAt sizes m draws.DrawNumbers began was
      → ((now_is : found ≡ m.head) → ((pass_of new.view).first ≡ m.head) × ((pass_of new.view).entries ≡ m.pages))
      → (b : Bool) → (found == m.head) ≡ b → Comes (record m { control = if b then Drawn else Refused (Raced m.head found) })
  from_draw step low so own true is =
      let same = eqb-true found m.head is in
      (so.0, so.1, so.2, (was, so.3, subst (λ n. Postcondition was None DrawAtHead n new) same step), (own same).0, (own same).1)
  from_draw step low so own false is = (so.0, so.1, so.2, higher m.head found (eqb-false found m.head is) low, (was, so.3, step))

  pub comes_on : RunsAreSound → OwnEventsTell → IsMount (mount_of was.view.opened) → (start : PassState) → (control : DrawControl) → IsOpen control → IsInCall m control start was
      → Postcondition was None (core_op control) found new → IsInCall (draw_after_at sizes m control found) (draw_after_at sizes m control found).control start new
      → HasComeAt sizes m control began was → Comes (draw_after_at sizes m control found)
  comes_on sound tell mount start draws.LoadHead runs way step later so = from_head step so (nat_le (found + m.pages) (2 ^ 60)) refl
  comes_on sound tell mount start draws.LoadTail runs way step later so = from_tail step so (nat_le (m.head + m.pages) (found + sizes.entries)) refl
  comes_on sound tell mount start draws.DrawNumbers runs way step later so =
      from_draw step (exchanged_high sound tell mount start way step) so (λ same. own (found == m.head) (eq-eqb found m.head same) later) (found == m.head) refl
    where
      own : (b : Bool) → b ≡ true → IsInCall (record m { control = if b then Drawn else Refused (Raced m.head found) }) (if b then Drawn else Refused (Raced m.head found)) start new
          → ((pass_of new.view).first ≡ m.head) × ((pass_of new.view).entries ≡ m.pages)
      own true is later = (ap (λ (d : Drawing). d.first) later.called.mirrors, ap (λ (d : Drawing). d.entries) later.called.mirrors)
      own false is later = absurd (true≢false (sym is))
  comes_on sound tell mount start Drawn runs way step later so = absurd runs
  comes_on sound tell mount start (Refused refusal) runs way step later so = absurd runs
