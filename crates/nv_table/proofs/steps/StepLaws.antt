-- Steps: what a pass owns, as its slots and as what they show.
use Rattle.std.proofs.Common.{arith, ◌≡◌, refl, sym, ap, ◌∙◌, subst, inl, inr, ℕ, ◌<◌, ◌⊎◌, List, [], ◌∷◌, ◌++◌, take, drop, map, Option}
use Rattle.std.specs.Prelude.{Some, None}
use Rattle.std.proofs.lemmas.List.{take-append-drop}
use Rattle.nv_plain.specs.declared.call.FileCall.{FileCall}
use Rattle.atomic_table.specs.Seated.{TableId}
use Rattle.atomic_table.specs.Table.{Me}
use Rattle.nv_core.specs.state.Words.{Sizes, Word, place}
use Rattle.nv_core.specs.state.Values.{Value}
use Rattle.nv_core.specs.state.Passes.{IsOneOf, times}
use Rattle.nv_core.specs.steps.Ops.{Op, move_of, word_of, value_after}
use Rattle.nv_core.specs.steps.Order.{Work, Values, Enabled}
use Rattle.nv_core.specs.steps.StepKinds.{EnabledByKind}
use Rattle.nv_core.proofs.steps.NextSteps.{next_steps_may_come}
use Rattle.nv_core.specs.invariant.ControlFacts.{ControlFacts}
use Rattle.nv_table.specs.state.Changes.{changed}
use Rattle.nv_table.specs.invariant.Drawn.{lost_of, drawn_at, drawn_of, marks_of, IsFromHead, drawn_then, lost_then}
use Rattle.nv_table.specs.state.Layout.{word_total}
use Rattle.nv_table.specs.state.Opened.{mount_of, state_of}
use Rattle.nv_table.specs.invariant.BetweenSteps.{IsPass}
use Rattle.nv_table.specs.state.Views.{PassView, pass_of, values_of, still_owned, slot_times, OwnsSlots}
use Rattle.nv_plain.specs.Histories.{Answered}
use Rattle.nv_core.specs.state.Passes.{Pass, is_write}
use Rattle.nv_core.specs.steps.Opening.{IsMount}
use Rattle.nv_core.specs.steps.PassSteps.{begun, stepped}
use Rattle.nv_table.specs.steps.CallSteps.{Precondition, Stands}
use Rattle.nv_table.specs.steps.SeatSteps.{EnabledAt, IsInFront, SeatPrecondition, MayOpen, SeatPostcondition, values_then, pass_worked, pass_before, values_before, with_call}
use Rattle.nv_table.specs.steps.StepContracts.{PreconditionAt, Postcondition}
use Rattle.nv_table.specs.state.States.{BoardState, PassState, IsOf, Shift, Out, shown_in, shift_of}
use Rattle.nv_table.specs.state.Rotated.{IsTurned}
use Rattle.nv_table.specs.declared.acting.Change.{Change}
use Rattle.nv_table.specs.declared.stepping.Marks.{Marks}
use Rattle.nv_table.proofs.steps.OwnedSlotLaws.{still_owned_all}
use Rattle.nv_table.specs.invariant.CoreLaws.{CoreLaws}
use Rattle.nv_table.proofs.invariant.DrawnLaws.{Marked, calls_leave, worked_drawn, goes_on, begins_closed, begun_marks}
use Rattle.nv_table.proofs.state.LayoutLaws.{cell_there, place_within}
use Rattle.nv_table.proofs.state.ShiftLaws.{cell_out, shifted}
use Rattle.nv_table.proofs.steps.Onward.{next_word, next_found, next_on_word, next_stands, next_held}
use Rattle.nv_table.proofs.invariant.PassLaws.{pass_acted}
use Rattle.nv_table.proofs.steps.RunsOn.{IsPlain, is_plain, step_of}
use Rattle.nv_table.proofs.invariant.StepAt.{IsMadeAt, made_at}
use Rattle.nv_table.proofs.steps.TurnLaws.{times_turned, times_shown}

-- ---- one of some

one_both : {T : Type 0} (xs ys : List T) (one : T) → IsOneOf (xs ++ ys) one → IsOneOf xs one ⊎ IsOneOf ys one
one_both [] ys one is = inr is
one_both (x ∷ xs) ys one (inl is) = inl (inl is)
one_both (x ∷ xs) ys one (inr is) = elim (one_both xs ys one is) [ inl here ↦ inl (inr here) | inr there ↦ inr there ]

one_left : {T : Type 0} (xs ys : List T) (one : T) → IsOneOf xs one → IsOneOf (xs ++ ys) one
one_left [] ys one is = absurd is
one_left (x ∷ xs) ys one (inl is) = inl is
one_left (x ∷ xs) ys one (inr is) = inr (one_left xs ys one is)

one_right : {T : Type 0} (xs ys : List T) (one : T) → IsOneOf ys one → IsOneOf (xs ++ ys) one
one_right [] ys one is = is
one_right (x ∷ xs) ys one is = inr (one_right xs ys one is)

pub one_turned : {T : Type 0} (i : ℕ) (xs : List T) (one : T) → IsOneOf (drop i xs ++ take i xs) one → IsOneOf xs one
one_turned i xs one is = subst (λ all. IsOneOf all one) (take-append-drop i xs) (elim (one_both (drop i xs) (take i xs) one is) [
  | inl behind ↦ one_right (take i xs) (drop i xs) one behind
  | inr front ↦ one_left (take i xs) (drop i xs) one front
])

-- and the other way round
one_back : {T : Type 0} (i : ℕ) (xs : List T) (one : T) → IsOneOf xs one → IsOneOf (drop i xs ++ take i xs) one
one_back i xs one is = elim (one_both (take i xs) (drop i xs) one (subst (λ all. IsOneOf all one) (sym (take-append-drop i xs)) is)) [
  | inl front ↦ one_right (drop i xs) (take i xs) one front
  | inr behind ↦ one_left (drop i xs) (take i xs) one behind
]

pub one_shown : {S T : Type 0} (f : S → T) (xs : List S) (one : S) → IsOneOf xs one → IsOneOf (map f xs) (f one)
one_shown f [] one is = absurd is
one_shown f (x ∷ xs) one (inl is) = inl (ap f is)
one_shown f (x ∷ xs) one (inr is) = inr (one_shown f xs one is)

one_held : {S T : Type 0} (f : S → T) (xs : List S) (one : T) → IsOneOf (map f xs) one → (held : S) × IsOneOf xs held × (one ≡ f held)
one_held f [] one is = absurd is
one_held f (x ∷ xs) one (inl is) = (x, inl refl, is)
one_held f (x ∷ xs) one (inr is) = let more = one_held f xs one is in (more.0, inr more.1, more.2)

-- ---- what is owned

pub owns_slots_turned : {S : Type 0} (sizes : Sizes) (shown : S → Value) (kept : Values) (cells : List Word) (i : ℕ) (slots : List (ℕ × S))
    → OwnsSlots sizes shown kept cells slots → OwnsSlots sizes shown kept cells (drop i slots ++ take i slots)
owns_slots_turned sizes shown kept cells i slots is = record {
  within = λ slot held one. is.within slot held (one_turned i slots (slot, held) one);
  each = λ slot less. times_turned slot i slots ∙ is.each slot less;
  shows = λ slot held one. is.shows slot held (one_turned i slots (slot, held) one);
}

owns_slots_back : {S : Type 0} (sizes : Sizes) (shown : S → Value) (kept : Values) (cells : List Word) (i : ℕ) (slots : List (ℕ × S))
    → OwnsSlots sizes shown kept cells (drop i slots ++ take i slots) → OwnsSlots sizes shown kept cells slots
owns_slots_back sizes shown kept cells i slots is = record {
  within = λ slot held one. is.within slot held (one_back i slots (slot, held) one);
  each = λ slot less. sym (times_turned slot i slots) ∙ is.each slot less;
  shows = λ slot held one. is.shows slot held (one_back i slots (slot, held) one);
}

-- as slots, and as what these show
pub owns_slots_held : {S : Type 0} (sizes : Sizes) (shown : S → Value) (kept : Values) (cells : List Word) (slots : List (ℕ × S))
    → OwnsSlots sizes (λ value. value) kept cells (shown_in shown slots) → OwnsSlots sizes shown kept cells slots
owns_slots_held sizes shown kept cells slots is = record {
  within = λ slot held one. is.within slot (shown held) (one_shown (λ one. (one.0, shown one.1)) slots (slot, held) one);
  each = λ slot less. sym (times_shown shown slot slots) ∙ is.each slot less;
  shows = λ slot held one. is.shows slot (shown held) (one_shown (λ one. (one.0, shown one.1)) slots (slot, held) one);
}

pub owns_slots_shown : {S : Type 0} (sizes : Sizes) (shown : S → Value) (kept : Values) (cells : List Word) (slots : List (ℕ × S))
    → OwnsSlots sizes shown kept cells slots → OwnsSlots sizes (λ value. value) kept cells (shown_in shown slots)
owns_slots_shown {S} sizes shown kept cells slots is = record {
  within = λ slot value one. let held = one_held (λ one. (one.0, shown one.1)) slots (slot, value) one in
      is.within slot held.0.1 (subst (λ n. IsOneOf slots (n, held.0.1)) (sym (ap (λ z. z.0) held.2)) held.1);
  each = λ slot less. times_shown shown slot slots ∙ is.each slot less;
  shows = λ slot value one. let held = one_held (λ one. (one.0, shown one.1)) slots (slot, value) one in
      ap (λ z. z.1) held.2 ∙ is.shows slot held.0.1 (subst (λ n. IsOneOf slots (n, held.0.1)) (sym (ap (λ z. z.0) held.2)) held.1);
}

-- ---- a step

-- what a step asks of the seat, whose slots may stand in another order than when the pass was asked
pub may_act : {S : Type 0} (shown : S → Value) (pass : PassState) (me : Me S PassView) (opens : Option FileCall) (op : Op) (at : ℕ) (change : ℕ → ℕ)
    → me.0 ≡ pass.view → IsTurned pass.now (shown_in shown me.1)
    → ((found : ℕ) → IsInFront pass.view.opened.sizes (move_of pass.view.opened.sizes op found) me.1)
    → (said : List Work → Type 0) → (ready : PreconditionAt pass opens op at change) → said ready.works → (may : SeatPrecondition shown me opens op at change) × said may.works
may_act shown pass me opens op at change view turn front said ready so =
    let sizes = pass.view.opened.sizes in
    let kept = values_then pass.view opens op ready.works in
    let cells = still_owned (pass_of pass.view) in
    let may : SeatPrecondition shown (pass.view, me.1) opens op at change = record {
      works = ready.works;
      next = ready.next;
      owns_slots = owns_slots_held sizes shown kept cells me.1 (subst (OwnsSlots sizes (λ value. value) kept cells) (sym turn.1)
          (owns_slots_turned sizes (λ value. value) kept cells turn.0 pass.now ready.holds));
      front = front;
    } in
    subst (λ v. (may : SeatPrecondition shown (v, me.1) opens op at change) × said may.works) (sym view) (may, so)

-- what it makes of the first number of an open write, and of a faulted one
marked : {S : Type 0} → CoreLaws → (shown : S → Value) (old new : Me S PassView) (opens : Option FileCall) (op : Op) (found : ℕ) (change : Change) → IsPlain op → IsMount (mount_of old.0.opened)
    → SeatPostcondition shown old opens op found new → IsFromHead (marks_of opens op) change (pass_of old.0).head
    → Marked (marks_of opens op) change found (drawn_of (pass_of old.0)) (lost_of (pass_of old.0).faulted) (pass_of new.0)
marked {S} laws shown old new opens op found change plain mount acted head =
    subst (Marked (marks_of opens op) change found (drawn_of (pass_of old.0)) (lost_of (pass_of old.0).faulted)) (sym acted.pass) (by_call opens refl)
  where
    sizes : Sizes
    sizes = old.0.opened.sizes

    at : IsMadeAt old.0 acted.steps.run acted.works opens op found
    at = made_at laws.runs laws.own old.0 new.0 acted.works opens op found mount acted.steps

    worked_pass : Pass
    worked_pass = pass_worked sizes acted.works (pass_of old.0)

    history : List Answered
    history = (state_of old.0.opened acted.steps.run).history

    may : EnabledByKind sizes at.core.values (with_call sizes opens worked_pass) op
    may = next_steps_may_come sizes at.core.values (with_call sizes opens worked_pass) op
        (subst (λ p. Enabled sizes at.core.values p op) at.own (step_of sizes old.0.number at.core op plain at.may.may))

    stands : ControlFacts sizes (with_call sizes opens worked_pass)
    stands = subst (ControlFacts sizes) at.own (at.sound.control_facts old.0.number)

    same_drawn : drawn_of worked_pass ≡ drawn_of (pass_of old.0)
    same_drawn = calls_leave drawn_of worked_drawn sizes acted.works (pass_of old.0)

    same_lost : lost_of worked_pass.faulted ≡ lost_of (pass_of old.0).faulted
    same_lost = calls_leave (λ p. lost_of p.faulted) (λ sizes work pass. refl) sizes acted.works (pass_of old.0)

    by_call : (begins : Option FileCall) → opens ≡ begins
        → Marked (marks_of opens op) change found (drawn_of (pass_of old.0)) (lost_of (pass_of old.0).faulted) (stepped sizes old.0.number history op found (with_call sizes opens worked_pass))
    by_call None is =
        subst (λ o. Marked (marks_of o op) change found (drawn_of (pass_of old.0)) (lost_of (pass_of old.0).faulted) (stepped sizes old.0.number history op found (with_call sizes o worked_pass))) (sym is)
        (subst (λ d. Marked (marks_of None op) change found d (lost_of (pass_of old.0).faulted) (stepped sizes old.0.number history op found worked_pass)) same_drawn
        (subst (λ l. Marked (marks_of None op) change found (drawn_of worked_pass) l (stepped sizes old.0.number history op found worked_pass)) same_lost
        (goes_on sizes at.core.values old.0.number history found change worked_pass (subst (λ o. ControlFacts sizes (with_call sizes o worked_pass)) is stands) op
        (subst (λ o. EnabledByKind sizes at.core.values (with_call sizes o worked_pass) op) is may)
        (subst (λ o. IsFromHead (marks_of o op) change worked_pass.head) is
        (subst (IsFromHead (marks_of opens op) change) (sym (calls_leave (λ p. p.head) (λ sizes work pass. refl) sizes acted.works (pass_of old.0))) head)))))
    by_call (Some call) is =
        let first = subst (λ o. EnabledByKind sizes at.core.values (with_call sizes o worked_pass) op) is may in
        let none = begun_marks sizes at.core.values call worked_pass op first in
        let idle : MayOpen sizes (Some call) worked_pass = subst (λ o. MayOpen sizes o worked_pass) is at.begins in
        let closed : drawn_of worked_pass ≡ lost_of worked_pass.faulted = ap (drawn_at worked_pass.first (is_write worked_pass.call) (lost_of worked_pass.faulted)) idle.idle in
        let now = goes_on sizes at.core.values old.0.number history found change (begun sizes call worked_pass) (subst (λ o. ControlFacts sizes (with_call sizes o worked_pass)) is stands) op first
        (subst (λ m. IsFromHead m change worked_pass.head) (sym none) tt) in
        subst (λ o. Marked (marks_of o op) change found (drawn_of (pass_of old.0)) (lost_of (pass_of old.0).faulted) (stepped sizes old.0.number history op found (with_call sizes o worked_pass))) (sym is)
        record {
          drawn_is = now.drawn_is ∙ ap (λ m. drawn_then m change found (drawn_of (begun sizes call worked_pass)) (lost_of worked_pass.faulted)) none
              ∙ begins_closed sizes call worked_pass ∙ sym closed ∙ same_drawn;
          lost_is = now.lost_is ∙ ap (λ m. lost_then m (drawn_of (begun sizes call worked_pass)) (lost_of worked_pass.faulted)) none ∙ same_lost;
        }

module _ {S : Type 0} {drawn lost : Option ℕ} (pass : PassState) (me : Me S PassView) (number made joined : ℕ) (held : List ℕ) (room : ℕ) (opens : Option FileCall) (op : Op) (view : me.0 ≡ pass.view)
    (is : IsPass me.0 me.1 number made joined held room drawn lost) where
  -- as the pass's view
  own_pass : IsPass pass.view me.1 number made joined held room drawn lost
  own_pass = subst (λ s. IsPass s me.1 number made joined held room drawn lost) view is

  -- its word is one of the table's
  pub step_fits : (at : ℕ) (change : ℕ → ℕ) (board : BoardState) (words : ℕ) → CoreLaws → PreconditionAt pass opens op at change → IsOf board pass → words ≡ word_total board.opened.sizes → at < words
  step_fits at change board words laws ready of_board words_are =
      let on = next_on_word laws pass.view ready.works opens op at change pass.view.run own_pass.mount own_pass.run own_pass.known ready.next in
      let less = place_within pass.view.opened.sizes (next_word laws pass.view ready.works opens op at change pass.view.run own_pass.mount own_pass.run own_pass.known ready.next) on in
      let place_is = ready.next.word in
      let total = ap (λ o. word_total o.sizes) of_board.same_mount in
      omega (arith, less, place_is, total, words_are)

  -- a step that is due is on a word of the mount, and its pass stands
  pub due_stands : CoreLaws → (due : Precondition pass opens op) → Stands pass opens op due.works
  due_stands laws due =
      let sizes = pass.view.opened.sizes in
      let before = pass_before pass.view opens due.works in
      let next : EnabledAt pass.view due.works opens op (place sizes (word_of sizes before op)) (value_after sizes before op) = record {
        due = due.due;
        begins = due.begins;
        may = due.may;
        staying = due.staying;
        word = refl;
        value = λ core sound made is low. refl;
      } in
      record {
        on = next_on_word laws pass.view due.works opens op _ _ pass.view.run own_pass.mount own_pass.run own_pass.known next;
        stands = next_stands laws pass.view due.works opens op _ _ pass.view.run own_pass.mount own_pass.run own_pass.known next;
      }

  -- a slot that is to go is among the pass's, once
  pub goes_once : (at : ℕ) (change : ℕ → ℕ) (slot : ℕ) → CoreLaws → PreconditionAt pass opens op at change
      → ((found : ℕ) → shift_of pass.view.opened.sizes (move_of pass.view.opened.sizes op found) ≡ Out slot) → slot_times slot pass.now ≡ 1
  goes_once at change slot laws ready out =
      let sizes = pass.view.opened.sizes in
      let found = next_found laws pass.view ready.works opens op at change pass.view.run own_pass.mount own_pass.run own_pass.known ready.next in
      let cell = cell_out sizes (move_of sizes op found) slot (out found) in
      let once = next_held laws pass.view ready.works opens op at change pass.view.run own_pass.mount own_pass.run own_pass.known ready.next cell.0 cell.1 in
      let there = cell_there sizes cell.0 slot once.0 cell.2 in
      ready.holds.each slot there.0
      ∙ ap (λ c. times c (still_owned (pass_of pass.view))) there.1
      ∙ ap (times cell.0) (still_owned_all (pass_of pass.view) ready.next.staying)
      ∙ once.1

  -- what the pass has written down then
  pub step_keeps : CoreLaws → (shown : S → Value) (at : ℕ) (change : Change) (marks : Marks) (found : ℕ) (new : Me S PassView) (shift : Shift) → PreconditionAt pass opens op at (changed change)
      → marks_of opens op ≡ marks → IsFromHead marks change (pass_of pass.view).head → SeatPostcondition shown me opens op found new
      → shift_of pass.view.opened.sizes (move_of pass.view.opened.sizes op found) ≡ shift
      → IsPass new.0 new.1 number made joined (shifted shift held) room (drawn_then marks change found drawn lost) (lost_then marks drawn lost)
  step_keeps laws shown at change marks found new shift ready marks_are head acted moves =
      let plain = is_plain pass.view.opened.sizes (values_before pass.view ready.works) (pass_before pass.view opens ready.works) op ready.next.may in
      let now = marked laws shown me new opens op found change plain is.mount acted (subst (λ m. IsFromHead m change (pass_of me.0).head) (sym marks_are) (subst (λ s. IsFromHead marks change (pass_of s).head) (sym view) head)) in
      subst (λ s. IsPass new.0 new.1 number made joined (shifted s held) room (drawn_then marks change found drawn lost) (lost_then marks drawn lost))
      (ap (λ (s : PassView). shift_of s.opened.sizes (move_of s.opened.sizes op found)) view ∙ moves)
      (pass_acted shown me.0 me.1 number made joined held room opens op found new is acted
      (ap (λ d. drawn_then marks change found d lost) is.drawn_is ∙ ap (drawn_then marks change found (drawn_of (pass_of me.0))) is.lost_is
      ∙ sym (ap (λ m. drawn_then m change found (drawn_of (pass_of me.0)) (lost_of (pass_of me.0).faulted)) marks_are) ∙ sym now.drawn_is)
      (ap (λ d. lost_then marks d lost) is.drawn_is ∙ ap (lost_then marks (drawn_of (pass_of me.0))) is.lost_is
      ∙ sym (ap (λ m. lost_then m (drawn_of (pass_of me.0)) (lost_of (pass_of me.0).faulted)) marks_are) ∙ sym now.lost_is))

-- what the step tells the pass
pub acted_stepped : {S : Type 0} (shown : S → Value) (pass : PassState) (me : Me S PassView) (opens : Option FileCall) (op : Op) (found : ℕ) (new : Me S PassView) (table : TableId) {spare : List Value}
    → me.0 ≡ pass.view → IsTurned pass.now (shown_in shown me.1) → spare ≡ pass.spare → (said : List Work → Type 0) → (acted : SeatPostcondition shown me opens op found new) × said acted.works
    → (stepped : Postcondition pass opens op found record { table = table; view = new.0; now = shown_in shown new.1; spare = spare }) × said stepped.works
acted_stepped shown pass me opens op found new table {spare} view turned spare_is said acted_me =
    let sizes = pass.view.opened.sizes in
    let both = subst (λ s. (acted : SeatPostcondition shown (s, me.1) opens op found new) × said acted.works) view acted_me in
    let acted = both.0 in
    let kept = values_then pass.view opens op acted.works in
    let cells = still_owned (pass_of pass.view) in
    let stepped : Postcondition pass opens op found record { table = table; view = new.0; now = shown_in shown new.1; spare = spare } = record {
      works = acted.works;
      due = acted.due;
      holds = owns_slots_back sizes (λ value. value) kept cells turned.0 pass.now
          (subst (OwnsSlots sizes (λ value. value) kept cells) turned.1 (owns_slots_shown sizes shown kept cells me.1 acted.still_owned_before));
      steps = acted.steps;
      pass = acted.pass;
      kept = acted.kept;
      made = acted.made;
      ended = acted.ended;
      owns_slots = subst (λ o. OwnsSlots o.sizes (λ value. value) (values_of new.0) (still_owned (pass_of new.0)) (shown_in shown new.1))
          (sym (ap (λ (s : PassView). s.opened) acted.steps.is)) (owns_slots_shown sizes shown (values_of new.0) (still_owned (pass_of new.0)) new.1 acted.owns_slots);
      spare = spare_is;
    } in
    (stepped, both.1)
