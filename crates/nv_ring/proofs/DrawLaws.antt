-- Draws: the steps of a draw are the core's, and its answer is told by what they found.
use Rattle.std.proofs.Common.{◌≡◌, ℕ, ◌+◌, ◌<◌, ◌≤◌, ◌==◌, ◌^◌, ◌&&◌, nat_le, Bool, true, false, if◌then◌else◌, List, length, refl, sym, ap, subst, ◌∙◌, arith}
use Rattle.std.specs.Prelude.{Option, Some, None, not}
use Rattle.std.proofs.lemmas.Bool.{lt-ltb, leb-true, eqb-true}
use Rattle.nv_plain.specs.Histories.{Answered}
use Rattle.nv_core.specs.state.Passes.{Pass, WriteLoadTail, DrawNumbers, SeizeEntry, page_count}
use Rattle.nv_core.specs.state.Words.{Sizes}
use Rattle.nv_core.specs.steps.ControlSteps.{leaving}
use Rattle.nv_core.specs.steps.Ops.{Op}
use Rattle.nv_core.specs.steps.PassSteps.{stepped, left_after, mine_after}
use Rattle.nv_table.specs.state.Opened.{Opened}
use Rattle.nv_table.specs.state.States.{PassState}
use Rattle.nv_table.specs.state.Views.{pass_of}
use Rattle.nv_table.specs.steps.CallSteps.{Precondition}
use Rattle.nv_table.specs.steps.StepContracts.{Postcondition}
use Rattle.nv_table.proofs.steps.CallLaws.{IsCallFree}
use Rattle.nv_op.specs.Ops.{Fits as OpFits, core_op_of}
use Rattle.nv_mirror.specs.declared.answers.Refusal.{Refusal}
use Rattle.nv_mirror.specs.declared.answers.Refusal.TheVariants.{Spent, Again, Raced}
use Rattle.nv_mirror.specs.OwnSteps.{is_own}
use Rattle.nv_mirror.specs.PassSteps.{PassStep, either_of, head_by, head_in, place_by, refused_by, unless_room}
use Rattle.nv_mirror.specs.Controls.{Drawing, drawings, drawing_of, with_drawing, Told}
use Rattle.nv_mirror.proofs.ControlLaws.{mirror_due, mirror_on, told_kept}
use Rattle.nv_mirror.proofs.StepLaws.{opened_same}
use Rattle.nv_ring.specs.declared.append.AppendControl.TheVariants as appends
use Rattle.nv_ring.specs.declared.numbers.DrawControl.{DrawControl}
use Rattle.nv_ring.specs.declared.numbers.DrawControl.TheVariants.{Drawn, Refused}
use Rattle.nv_ring.specs.declared.numbers.DrawControl.TheVariants as draws
use Rattle.nv_ring.specs.declared.numbers.DrawMachine.{DrawMachine}
use Rattle.nv_ring.specs.Appends.{Before, locks}
use Rattle.nv_ring.specs.Draws.{append_at, append_of, draw_call_of, Fits, FitsAt, HasHead, IsInCall, IsOpen, draw_after_at, draw_is, draw_measure_at, draw_mirror_at, draw_op_at, draw_refusal_at}
use Rattle.nv_ring.proofs.AppendLaws.{leaves_locks, some_pages}

-- ---- when the steps are due

free_at : (m : DrawMachine) (control : DrawControl) (start now : PassState) → IsCallFree (draw_mirror_at now.view.opened.sizes m (record { head = 0; first = 0; entries = 0 }) control).mirrored_control.control → IsInCall m control start now → IsCallFree (pass_of now.view).control
free_at m draws.LoadHead start now free way = subst (λ (d : Drawing). IsCallFree d.mirrored_control.control) (sym way.called.mirrors) free
free_at m draws.LoadTail start now free way = subst (λ (d : Drawing). IsCallFree d.mirrored_control.control) (sym way.called.mirrors) free
free_at m draws.DrawNumbers start now free way = subst (λ (d : Drawing). IsCallFree d.mirrored_control.control) (sym way.called.mirrors) free
free_at m Drawn start now free way = subst (λ (d : Drawing). IsCallFree d.mirrored_control.control) (sym way.called.mirrors) free
free_at m (Refused refusal) start now free way = subst (λ (d : Drawing). IsCallFree d.mirrored_control.control) (sym way.called.mirrors) free

pub draw_free : (m : DrawMachine) (control : DrawControl) (start now : PassState) → IsOpen control → IsInCall m control start now → IsCallFree (pass_of now.view).control
draw_free m draws.LoadHead start now runs way = free_at m draws.LoadHead start now (λ sizes values pass work due. due) way
draw_free m draws.LoadTail start now runs way = free_at m draws.LoadTail start now (λ sizes values pass work due. due) way
draw_free m draws.DrawNumbers start now runs way = free_at m draws.DrawNumbers start now (λ sizes values pass work due. due) way
draw_free m Drawn start now runs way = absurd runs
draw_free m (Refused refusal) start now runs way = absurd runs

pub draw_due : (m : DrawMachine) (control : DrawControl) (start now : PassState) → IsOpen control → IsInCall m control start now → Precondition now None (core_op_of now.view (draw_op_at m control))
draw_due m draws.LoadHead start now runs way = mirror_due _ _ _ _ _ _ start now way.called _ tt (λ pass kept. refl) (λ pass. refl)
draw_due m draws.LoadTail start now runs way = mirror_due _ _ _ _ _ _ start now way.called _ tt (λ pass kept. refl) (λ pass. refl)
draw_due m draws.DrawNumbers start now runs way = mirror_due _ _ _ _ _ _ start now way.called _ tt (λ pass kept. refl) (λ pass. refl)
draw_due m Drawn start now runs way = absurd runs
draw_due m (Refused refusal) start now runs way = absurd runs

pub draw_fits : (m : DrawMachine) (control : DrawControl) (start now : PassState) → Fits now.view.opened.sizes m → IsOpen control → IsInCall m control start now → OpFits now.view.opened.sizes None (pass_of now.view) (draw_op_at m control)
draw_fits m draws.LoadHead start now fits runs way = tt
draw_fits m draws.LoadTail start now fits runs way = tt
draw_fits m draws.DrawNumbers start now fits runs way =
    (refl, sym (ap (λ (d : Drawing). d.head) way.called.mirrors), fits.write.pages ∙ sym (ap (λ (d : Drawing). page_count now.view.opened.sizes d.mirrored_control.call) way.called.mirrors))
draw_fits m Drawn start now fits runs way = absurd runs
draw_fits m (Refused refusal) start now fits runs way = absurd runs

-- ---- what follows a step

-- Where the core's control state leads, with what it is refused for, and HEAD as its steps loaded it, the machine goes.
record Leads (sizes : Sizes) (m : DrawMachine) (is : Drawing) (refusal : Option Refusal) (seen : ℕ) (next : DrawMachine) : Type 0 where
  fits : FitsAt next next.control
  before : Before
  mirrors : is ≡ draw_mirror_at sizes next before next.control
  refused : refusal ≡ draw_refusal_at next.control
  loaded : (steps : List PassStep) → head_in steps ≡ seen → HasHead next next.control steps

-- what is refused unless there is room
unless_so : (room : Bool) (refusal : Refusal) → (if true && not room then Some refusal else None) ≡ (if room then None else Some refusal)
unless_so true refusal = refl
unless_so false refusal = refl

module _ (sizes : Sizes) (m : DrawMachine) (fits : Fits sizes m) where
  pub some_drawn : 0 < m.pages
  some_drawn = some_pages sizes (append_at m appends.TakePlace) fits.write

  room_so : (room : Bool) (refusal : Refusal) → unless_room (draw_call_of m) room refusal ≡ (if room then None else Some refusal)
  room_so room refusal = ap (λ b. if b && not room then Some refusal else None) (lt-ltb 0 (length m.bytes.now) fits.write.some) ∙ unless_so room refusal

  -- a refusal
  refuse_leads : (head : ℕ) (before : Before) (refusal : Refusal) (seen : ℕ)
      → Leads sizes m (draw_is m (leaving (locks (append_of m))) before.head before.first before.entries) (Some refusal) seen (record m { head = head; control = Refused refusal })
  refuse_leads head before refusal seen =
      record { fits = tt; before = before; mirrors = ap (λ s. draw_is m s before.head before.first before.entries) (leaves_locks sizes (append_at m appends.TakePlace) fits.write); refused = refl; loaded = λ steps is. tt }

  heads_leads : (before : Before) (found : ℕ) (b : Bool) → (b ≡ true → found + m.pages ≤ 2 ^ 60)
      → Leads sizes m (draw_is m (if b then WriteLoadTail else leaving (locks (append_of m))) found before.first before.entries) (if b then None else Some (Spent found)) found
      (record m { head = found; control = if b then draws.LoadTail else Refused (Spent found) })
  heads_leads before found true room = record { fits = room refl; before = before; mirrors = refl; refused = refl; loaded = λ steps is. is }
  heads_leads before found false room = refuse_leads found (record before { head = found }) (Spent found) found

  tails_leads : (before : Before) (found seen : ℕ) (b : Bool) → m.head + m.pages ≤ 2 ^ 60 → seen ≡ m.head
      → Leads sizes m (draw_is m (if b then DrawNumbers else leaving (locks (append_of m))) m.head before.first before.entries) (if b then None else Some (Again m.head found)) seen
      (record m { control = if b then draws.DrawNumbers else Refused (Again m.head found) })
  tails_leads before found seen true low sees = record { fits = low; before = before; mirrors = refl; refused = refl; loaded = λ steps is. is ∙ sees }
  tails_leads before found seen false low sees = refuse_leads m.head (record before { head = m.head }) (Again m.head found) seen

  draws_leads : (before : Before) (found seen : ℕ) (b : Bool) → m.head + m.pages ≤ 2 ^ 60 → (b ≡ true → found ≡ m.head)
      → Leads sizes m (draw_is m (if b then SeizeEntry found else leaving (locks (append_of m))) (if b then found + m.pages else found) (if b then found else before.first) (if b then m.pages else before.entries))
      (if b then None else Some (Raced m.head found)) seen (record m { control = if b then Drawn else Refused (Raced m.head found) })
  draws_leads before found seen true low same = record {
    fits = low;
    before = record before { head = found + m.pages };
    mirrors = ap (λ n. draw_is m (SeizeEntry n) (found + m.pages) found m.pages) (let e : found ≡ found + 0 = omega arith in e) ∙ ap (λ n. draw_is m (SeizeEntry (n + 0)) (found + m.pages) n m.pages) (same refl);
    refused = refl;
    loaded = λ steps is. tt;
  }
  draws_leads before found seen false low same = refuse_leads m.head (record before { head = found }) (Raced m.head found) seen

module _ (m : DrawMachine) (start now new : PassState) (found : ℕ) (fits : Fits now.view.opened.sizes m) where
  abbrev here : Sizes
  here = now.view.opened.sizes

  abbrev Goes : DrawMachine → Type 0
  Goes next = Fits new.view.opened.sizes next × IsInCall next next.control start new

  abbrev core_op : DrawControl → Op
  core_op control = core_op_of now.view (draw_op_at m control)

  -- where the core's control state leads, the machine goes
  led : (control : DrawControl) (head : ℕ) (next_control : DrawControl) (then_is : Drawing) (refusal_then : Option Refusal)
      → IsOpen control → (way : IsInCall m control start now) → (step : Postcondition now None (core_op control) found new)
      → ((pass : Pass) (number : ℕ) (history : List Answered) → drawing_of (stepped here number history (core_op control) found (with_drawing (draw_mirror_at here m way.before control) pass)) ≡ then_is)
      → ((pass : Pass) → left_after pass (core_op control) ≡ pass.left) → is_own (draw_call_of m) (draw_refusal_at control) (core_op control) ≡ true
      → either_of (draw_refusal_at control) (refused_by here (draw_call_of m) (head_in way.called.steps) step.works (core_op control) found) ≡ refusal_then
      → place_by (core_op control) found ≡ None → Told way.called.asked None start new
      → Leads here m then_is refusal_then (head_by (core_op control) found (head_in way.called.steps)) (record m { head = head; control = next_control })
      → Goes (record m { head = head; control = next_control })
  led control head next_control then_is refusal_then runs way step goes leaves may refuses places told leads =
      let on = mirror_on drawings (draw_call_of m) None (draw_mirror_at here m way.before control) (draw_refusal_at control) None start now way.called (core_op control)
      None (draw_mirror_at new.view.opened.sizes next leads.before next_control) (draw_refusal_at next_control) None found new step (draw_free m control start now runs way)
      (λ pass number history. goes pass number history ∙ leads.mirrors ∙ ap (λ (o : Opened). draw_mirror_at o.sizes next leads.before next_control) (sym opened))
      leaves (refuses ∙ leads.refused) places may refl told in (
        subst (λ (o : Opened). Fits o.sizes next) (sym opened)
            record { write = record { allowed = fits.write.allowed; some = fits.write.some; end = fits.write.end; page = fits.write.page; pages = fits.write.pages; low = fits.write.low; stands = tt }; stands = leads.fits },
        record { before = leads.before; called = on.0; loaded = leads.loaded on.0.steps (ap head_in on.1) },
      )
    where
      opened : new.view.opened ≡ now.view.opened
      opened = opened_same now new None (core_op control) found step

      next : DrawMachine
      next = record m { head = head; control = next_control }

  -- none of its steps takes a place
  kept : (control : DrawControl) → IsOpen control → (way : IsInCall m control start now) → Postcondition now None (core_op control) found new
      → ((pass : Pass) (number : ℕ) (history : List Answered) → (stepped here number history (core_op control) found pass).seen ≡ pass.seen)
      → ((pass : Pass) (number : ℕ) → mine_after number pass (core_op control) ≡ pass.mine) → Told way.called.asked None start new
  kept control runs way step seen mine =
      told_kept way.called.asked None start now new way.called.told None (core_op control) found step (draw_free m control start now runs way) seen mine

  -- what it is refused for, if there is no room
  refused_so : (low : ℕ → Bool) (refusal : Refusal) → unless_room (draw_call_of m) (low (page_count here (draw_call_of m))) refusal ≡ (if low m.pages then None else Some refusal)
  refused_so low refusal = ap (λ count. unless_room (draw_call_of m) (low count) refusal) (sym fits.write.pages) ∙ room_so here m fits (low m.pages) refusal

  pub draw_on : (control : DrawControl) → FitsAt m control → IsOpen control → IsInCall m control start now → Postcondition now None (core_op control) found new → Goes (draw_after_at here m control found)
  draw_on draws.LoadHead stands runs way step =
      led draws.LoadHead _ _ _ _ runs way step
      (λ pass number history. ap (λ count. draw_is m (if nat_le (found + count) (2 ^ 60) then WriteLoadTail else leaving (locks (append_of m))) found way.before.first way.before.entries) (sym fits.write.pages))
      (λ pass. refl) refl (refused_so (λ count. nat_le (found + count) (2 ^ 60)) (Spent found)) refl (kept draws.LoadHead runs way step (λ pass number history. refl) (λ pass number. refl))
      (heads_leads here m fits way.before found (nat_le (found + m.pages) (2 ^ 60)) (leb-true (found + m.pages) (2 ^ 60)))
  draw_on draws.LoadTail stands runs way step =
      led draws.LoadTail _ _ _ _ runs way step
      (λ pass number history. ap (λ count. draw_is m (if nat_le (m.head + count) (found + here.entries) then DrawNumbers else leaving (locks (append_of m))) m.head way.before.first way.before.entries) (sym fits.write.pages))
      (λ pass. refl) refl
      (ap (λ head. unless_room (draw_call_of m) (nat_le (head + page_count here (draw_call_of m)) (found + here.entries)) (Again head found)) way.loaded
      ∙ refused_so (λ count. nat_le (m.head + count) (found + here.entries)) (Again m.head found))
      refl (kept draws.LoadTail runs way step (λ pass number history. refl) (λ pass number. refl))
      (tails_leads here m fits way.before found _ (nat_le (m.head + m.pages) (found + here.entries)) stands way.loaded)
  draw_on draws.DrawNumbers stands runs way step =
      led draws.DrawNumbers _ _ _ _ runs way step
      (λ pass number history. ap (λ count. draw_is m (if found == m.head then SeizeEntry found else leaving (locks (append_of m))) (if found == m.head then found + count else found) (if found == m.head then found else way.before.first) (if found == m.head then count else way.before.entries)) (sym fits.write.pages))
      (λ pass. refl) refl (ap (λ head. if found == head then None else Some (Raced head found)) way.loaded) refl (kept draws.DrawNumbers runs way step (λ pass number history. refl) (λ pass number. refl))
      (draws_leads here m fits way.before found _ (found == m.head) stands (eqb-true found m.head))
  draw_on Drawn stands runs way step = absurd runs
  draw_on (Refused refusal) stands runs way step = absurd runs

-- ---- it comes to its end

either_less : (b : Bool) (one other : DrawControl) (most : ℕ) → draw_measure_at one < most → draw_measure_at other < most → draw_measure_at (if b then one else other) < most
either_less true one other most low high = low
either_less false one other most low high = high

pub draw_less : (sizes : Sizes) (m : DrawMachine) (control : DrawControl) (found : ℕ) → IsOpen control → draw_measure_at (draw_after_at sizes m control found).control < draw_measure_at control
draw_less sizes m draws.LoadHead found runs = either_less (nat_le (found + m.pages) (2 ^ 60)) draws.LoadTail (Refused (Spent found)) _ (omega arith) (omega arith)
draw_less sizes m draws.LoadTail found runs = either_less (nat_le (m.head + m.pages) (found + sizes.entries)) draws.DrawNumbers (Refused (Again m.head found)) _ (omega arith) (omega arith)
draw_less sizes m draws.DrawNumbers found runs = either_less (found == m.head) Drawn (Refused (Raced m.head found)) _ (omega arith) (omega arith)
draw_less sizes m Drawn found runs = absurd runs
draw_less sizes m (Refused refusal) found runs = absurd runs
