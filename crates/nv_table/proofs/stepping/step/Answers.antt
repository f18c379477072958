-- A step, by which a slot goes, or none.
use Rattle.std.proofs.Common.{sym, ap, ◌∙◌, subst, arith, ◌≡◌, ℕ, ◌∷◌, map}
use Rattle.std.specs.Prelude.{Some}
use Rattle.std.specs.Vec.{vec_capacity}
use Rattle.nv_core.specs.steps.Ops.{move_of}
use Rattle.nv_table.specs.declared.stepping.Moves.{Moves}
use Rattle.nv_table.specs.declared.stepping.Moves.TheVariants.{Goes}
use Rattle.nv_table.specs.steps.SeatSteps.{IsFirst}
use Rattle.nv_table.specs.state.Changes.{changed}
use Rattle.nv_table.specs.state.SlotValues.{part_value, store_value, slot_value}
use Rattle.nv_table.specs.state.Layout.{word_total}
use Rattle.nv_table.specs.state.Views.{PassView}
use Rattle.nv_table.specs.state.States.{BoardState, PassState, Out, Shift, In, Rests, shown_in}
use Rattle.nv_table.proofs.invariant.PassLaws.{same_places, same_inherited, pass_fits}
use Rattle.nv_table.proofs.state.ShiftLaws.{same_slot, in_front, struck_out, comes_in, none_out, none_moves, shifted, written_first}
use Rattle.nv_table.proofs.steps.StepLaws.{may_act, step_fits, goes_once, step_keeps, acted_stepped}
use Rattle.nv_table.proofs.steps.TurnLaws.{first_held}
use Rattle.std.proofs.lemmas.List.{append-nil}
use Rattle.nv_table.specs.invariant.Drawn.{drawn_then, lost_then}
use Rattle.nv_table.specs.steps.Moving.{shift_said}
use Rattle.nv_table.specs.invariant.BetweenSteps.{IsPass}
use Rattle.nv_table.specs.steps.StepContracts.{Postcondition}
use Rattle.nv_table.proofs.stepping.step.Given.{Over}
use Rattle.nv_table.proofs.stepping.step.Goals.{After-coming}
use Rattle.nv_table.proofs.stepping.step.Goals as goal

-- ---- where a slot goes

-- what a caller says of a step by which a slot goes
goes_out : {moves : Moves} {slot : ℕ} {shift : (found : ℕ) → Shift} → moves ≡ Goes slot → ((found : ℕ) → shift found ≡ shift_said moves found) → (found : ℕ) → shift found ≡ Out slot
goes_out is says found = says found ∙ ap (λ m. shift_said m found) is

pub bring-requires : goal.bring-requires
bring-requires g c =
    let inside = c.pass.inside in
    goes_once c.args.pass.now inside.seat.me inside.number inside.made inside.joined inside.held.items (vec_capacity inside.held) g.E.StepSpec.opens g.E.StepSpec.op
    (ap (λ (p : PassState). p.view) c.pass.view_is) c.pass.invariant.0 c.args.place (changed c.args.change) c.in-Goes.slot
    c.laws_of_the_core.ensures
    c.requires.next.0 (goes_out c.in-Goes.is c.requires.moves)

pub act-found-requires-clause-place : goal.act-found-requires-clause-place
act-found-requires-clause-place g c =
    let inside = c.pass-in-Goes.inside in
    step_fits c.args.pass.now inside.seat.me inside.number inside.made inside.joined inside.held.items (vec_capacity inside.held) g.E.StepSpec.opens g.E.StepSpec.op
    (ap (λ (p : PassState). p.view) c.pass-in-Goes.view_is ∙ c.bring.ensures.same.view) c.pass-in-Goes.invariant.0 c.args.place (changed c.args.change)
    c.args.board.now c.board.inside.table.shared.table_id.words
    c.laws_of_the_core.ensures
    c.requires.next.0 c.requires.board (c.board.invariant.1 ∙ ap word_total (c.board.invariant.0 ∙ ap (λ (b : BoardState). b.opened.sizes) c.board.view_is))

pub act-found-requires-clause-may : goal.act-found-requires-clause-may
act-found-requires-clause-may g c =
    let shown = slot_value (part_value g.L.Lines.device g.L.Lines.history g.L.Lines.fault_count g.L.Lines.room) (store_value g.B.Backing.device g.B.Backing.history g.B.Backing.fault_count) in
    let me = c.pass-in-Goes.inside.seat.me in
    let turned = c.bring.ensures.same.turned in
    let first : IsFirst (Some c.in-Goes.slot) me.1 = first_held shown c.in-Goes.slot me.1 (subst (IsFirst (Some c.in-Goes.slot)) (sym (ap (λ (p : PassState). p.now) c.pass-in-Goes.view_is)) c.bring.ensures.first) in
    may_act shown c.args.pass.now me g.E.StepSpec.opens g.E.StepSpec.op c.args.place (changed c.args.change)
    (ap (λ (p : PassState). p.view) c.pass-in-Goes.view_is ∙ c.bring.ensures.same.view)
    (turned.0, ap (λ (p : PassState). p.now) c.pass-in-Goes.view_is ∙ turned.1)
    (λ found. in_front c.args.pass.now.view.opened.sizes (move_of c.args.pass.now.view.opened.sizes g.E.StepSpec.op found) me.1
    (λ slot out. subst (λ n. IsFirst (Some n) me.1) (same_slot (sym (goes_out c.in-Goes.is c.requires.moves found) ∙ out)) first))
    g.E.StepSpec.said c.requires.next.0 c.requires.next.1

pub invariant_of-pass : goal.invariant_of-pass
invariant_of-pass g c =
    let inside = c.pass-in-Goes.inside in
    let shown = slot_value (part_value g.L.Lines.device g.L.Lines.history g.L.Lines.fault_count g.L.Lines.room) (store_value g.B.Backing.device g.B.Backing.history g.B.Backing.fault_count) in
    rw (c.drawn-pass-inside.ensures, c.lost-pass-inside.ensures, c.pop.ensures.rest, c.pop.ensures.capacity, c.turn_held.new.held.ok.0, c.turn_held.ensures.items, c.turn_held.ensures.capacity, struck_out inside.held.items) (
      step_keeps c.args.pass.now inside.seat.me inside.number inside.made inside.joined inside.held.items (vec_capacity inside.held) g.E.StepSpec.opens g.E.StepSpec.op
          (ap (λ (p : PassState). p.view) c.pass-in-Goes.view_is ∙ c.bring.ensures.same.view) c.pass-in-Goes.invariant.0 c.laws_of_the_core.ensures shown c.args.place c.args.change c.args.marks c.act-found.result c.act-found.new.seat.me (Out c.in-Goes.slot)
          c.requires.next.0 c.requires.marks c.requires.head c.act-found.ensures.acted.0 (goes_out c.in-Goes.is c.requires.moves c.act-found.result),
      same_places (ap (λ (s : PassView). s.opened) c.act-found.ensures.acted.0.steps.is) c.pass-in-Goes.invariant.1,
      same_inherited c.pass-in-Goes.inside.seat.me.0 c.act-found.new.seat.me.0 (ap (λ (s : PassView). s.opened) c.act-found.ensures.acted.0.steps.is) (ap (λ (s : PassView). s.ended) c.act-found.ensures.acted.0.steps.is) c.pass-in-Goes.invariant.2,
    )

pub returns-in-Goes-clause-stepped : goal.returns-in-Goes-clause-stepped
returns-in-Goes-clause-stepped g c =
    let shown = slot_value (part_value g.L.Lines.device g.L.Lines.history g.L.Lines.fault_count g.L.Lines.room) (store_value g.B.Backing.device g.B.Backing.history g.B.Backing.fault_count) in
    let turned = c.bring.ensures.same.turned in
    acted_stepped shown c.args.pass.now c.pass-in-Goes.inside.seat.me g.E.StepSpec.opens g.E.StepSpec.op c.act-found.result c.act-found.new.seat.me c.act-found.new.seat.table_id
    (ap (λ (p : PassState). p.view) c.pass-in-Goes.view_is ∙ c.bring.ensures.same.view) (turned.0, ap (λ (p : PassState). p.now) c.pass-in-Goes.view_is ∙ turned.1)
    (ap (λ (p : PassState). p.spare) c.pass-in-Goes.view_is ∙ c.bring.ensures.same.spare) g.E.StepSpec.said c.act-found.ensures.acted

-- ---- where none goes

pub act-found-requires-in_default-clause-place : goal.act-found-requires-in_default-clause-place
act-found-requires-in_default-clause-place g c =
    let inside = c.pass-in_default.inside in
    step_fits c.args.pass.now inside.seat.me inside.number inside.made inside.joined inside.held.items (vec_capacity inside.held) g.E.StepSpec.opens g.E.StepSpec.op
    (ap (λ (p : PassState). p.view) c.pass-in_default.view_is) c.pass-in_default.invariant.0 c.args.place (changed c.args.change) c.args.board.now c.board.inside.table.shared.table_id.words
    c.laws_of_the_core.ensures
    c.requires.next.0 c.requires.board (c.board.invariant.1 ∙ ap word_total (c.board.invariant.0 ∙ ap (λ (b : BoardState). b.opened.sizes) c.board.view_is))

pub act-found-requires-in_default-clause-may : goal.act-found-requires-in_default-clause-may
act-found-requires-in_default-clause-may g c =
    let shown = slot_value (part_value g.L.Lines.device g.L.Lines.history g.L.Lines.fault_count g.L.Lines.room) (store_value g.B.Backing.device g.B.Backing.history g.B.Backing.fault_count) in
    let sizes = c.args.pass.now.view.opened.sizes in
    may_act shown c.args.pass.now c.pass-in_default.inside.seat.me g.E.StepSpec.opens g.E.StepSpec.op c.args.place (changed c.args.change)
    (ap (λ (p : PassState). p.view) c.pass-in_default.view_is)
    (0, ap (λ (p : PassState). p.now) c.pass-in_default.view_is ∙ sym (append-nil c.args.pass.now.now))
    (λ found. in_front sizes (move_of sizes g.E.StepSpec.op found) c.pass-in_default.inside.seat.me.1
    (λ slot out. absurd (none_out c.args.moves found slot c.in_default.not-Goes (sym (c.requires.moves found) ∙ out))))
    g.E.StepSpec.said c.requires.next.0 c.requires.next.1

-- What keeps the pass after a step that moves a slot so.
kept : (g : Over) (c : After-coming g) (shift : Shift) → shift_said c.args.moves c.act-found-in_default.result ≡ shift
    → IsPass c.act-found-in_default.new.seat.me.0 c.act-found-in_default.new.seat.me.1 c.pass-in_default.inside.number c.pass-in_default.inside.made c.pass-in_default.inside.joined
    (shifted shift c.pass-in_default.inside.held.items) (vec_capacity c.pass-in_default.inside.held)
    (drawn_then c.args.marks c.args.change c.act-found-in_default.result c.pass-in_default.inside.drawn c.pass-in_default.inside.lost) (lost_then c.args.marks c.pass-in_default.inside.drawn c.pass-in_default.inside.lost)
kept g c shift said =
    let inside = c.pass-in_default.inside in
    let shown = slot_value (part_value g.L.Lines.device g.L.Lines.history g.L.Lines.fault_count g.L.Lines.room) (store_value g.B.Backing.device g.B.Backing.history g.B.Backing.fault_count) in
    step_keeps c.args.pass.now inside.seat.me inside.number inside.made inside.joined inside.held.items (vec_capacity inside.held) g.E.StepSpec.opens g.E.StepSpec.op
    (ap (λ (p : PassState). p.view) c.pass-in_default.view_is) c.pass-in_default.invariant.0 c.laws_of_the_core.ensures shown c.args.place c.args.change c.args.marks c.act-found-in_default.result
    c.act-found-in_default.new.seat.me shift c.requires.next.0 c.requires.marks c.requires.head c.act-found-in_default.ensures.acted.0
    (c.requires.moves c.act-found-in_default.result ∙ said)

pub push_reserved-requires : goal.push_reserved-requires
push_reserved-requires g c =
    let inside = c.pass-in_default.inside in
    let fits = pass_fits c.act-found-in_default.new.seat.me.0 c.act-found-in_default.new.seat.me.1 inside.number inside.made inside.joined (c.in-Some.slot ∷ inside.held.items) (vec_capacity inside.held)
    c.laws_of_the_core.ensures.runs
    (kept g (goal.at.push_reserved-requires g c).After-coming (In c.in-Some.slot) (comes_in (shift_said c.args.moves c.act-found-in_default.result) c.in-Some.slot (c.coming.ensures ∙ c.in-Some.is))) in
    let many = inside.held.ok.0 in
    omega (arith, fits, many)

pub invariant_of-pass-in-Some : goal.invariant_of-pass-in-Some
invariant_of-pass-in-Some g c =
    rw (
      c.drawn-pass-inside-in_default.ensures,
      c.lost-pass-inside-in_default.ensures,
      c.turn_held-in-Some.ensures.items,
      c.turn_held-in-Some.ensures.capacity,
      c.push_reserved.ensures.items,
      c.push_reserved.ensures.capacity,
      written_first c.pass-in_default.inside.held.items c.in-Some.slot c.len-len.result (c.len-len.ensures ∙ c.pass-in_default.inside.held.ok.0),
    ) (
      kept g (goal.at.invariant_of-pass-in-Some g c).After-coming (In c.in-Some.slot) (comes_in (shift_said c.args.moves c.act-found-in_default.result) c.in-Some.slot (c.coming.ensures ∙ c.in-Some.is)),
      same_places (ap (λ (s : PassView). s.opened) c.act-found-in_default.ensures.acted.0.steps.is) c.pass-in_default.invariant.1,
      same_inherited c.pass-in_default.inside.seat.me.0 c.act-found-in_default.new.seat.me.0 (ap (λ (s : PassView). s.opened) c.act-found-in_default.ensures.acted.0.steps.is) (ap (λ (s : PassView). s.ended) c.act-found-in_default.ensures.acted.0.steps.is) c.pass-in_default.invariant.2,
    )

pub invariant_of-pass-in_default-coming : goal.invariant_of-pass-in_default-coming
invariant_of-pass-in_default-coming g c =
    rw (c.drawn-pass-inside-in_default.ensures, c.lost-pass-inside-in_default.ensures) (
      kept g (goal.at.invariant_of-pass-in_default-coming g c).After-coming Rests (none_moves c.args.moves c.act-found-in_default.result c.in_default.not-Goes (c.coming.ensures ∙ c.in_default-coming.is)),
      same_places (ap (λ (s : PassView). s.opened) c.act-found-in_default.ensures.acted.0.steps.is) c.pass-in_default.invariant.1,
      same_inherited c.pass-in_default.inside.seat.me.0 c.act-found-in_default.new.seat.me.0 (ap (λ (s : PassView). s.opened) c.act-found-in_default.ensures.acted.0.steps.is) (ap (λ (s : PassView). s.ended) c.act-found-in_default.ensures.acted.0.steps.is) c.pass-in_default.invariant.2,
    )

-- What the step tells, for both returns.
tells : (g : Over) (c : After-coming g) → (stepped : Postcondition c.args.pass.now g.E.StepSpec.opens g.E.StepSpec.op c.act-found-in_default.result record {
  table = c.act-found-in_default.new.seat.table_id;
  view = c.act-found-in_default.new.seat.me.0;
  now = shown_in (slot_value (part_value g.L.Lines.device g.L.Lines.history g.L.Lines.fault_count g.L.Lines.room) (store_value g.B.Backing.device g.B.Backing.history g.B.Backing.fault_count))
      c.act-found-in_default.new.seat.me.1;
  spare = map (part_value g.L.Lines.device g.L.Lines.history g.L.Lines.fault_count g.L.Lines.room) c.pass-in_default.inside.parts.items;
}) × g.E.StepSpec.said stepped.works
tells g c =
    acted_stepped (slot_value (part_value g.L.Lines.device g.L.Lines.history g.L.Lines.fault_count g.L.Lines.room) (store_value g.B.Backing.device g.B.Backing.history g.B.Backing.fault_count))
    c.args.pass.now c.pass-in_default.inside.seat.me g.E.StepSpec.opens g.E.StepSpec.op c.act-found-in_default.result c.act-found-in_default.new.seat.me c.act-found-in_default.new.seat.table_id
    (ap (λ (p : PassState). p.view) c.pass-in_default.view_is) (0, ap (λ (p : PassState). p.now) c.pass-in_default.view_is ∙ sym (append-nil c.args.pass.now.now)) (ap (λ (p : PassState). p.spare) c.pass-in_default.view_is) g.E.StepSpec.said c.act-found-in_default.ensures.acted

pub returns-in-Some-clause-stepped : goal.returns-in-Some-clause-stepped
returns-in-Some-clause-stepped g c = tells g (goal.at.returns-in-Some-clause-stepped g c).After-coming

pub returns-in_default-coming-clause-stepped : goal.returns-in_default-coming-clause-stepped
returns-in_default-coming-clause-stepped g c = tells g (goal.at.returns-in_default-coming-clause-stepped g c).After-coming
