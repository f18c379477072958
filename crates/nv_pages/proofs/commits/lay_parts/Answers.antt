-- The last part goes back into its slot, whose cell kept nothing.
use Rattle.std.proofs.Common.{◌≡◌, ℕ, ◌+◌, ◌∷◌, ◌++◌, [], ◌∙◌, length, map, ap, ap₂, subst, sym, arith, length-append, append_assoc}
use Rattle.nv_core.specs.state.Passes.{IsOneOf}
use Rattle.nv_core.specs.state.Values.{Value, Bare}
use Rattle.nv_table.specs.steps.Exchanges.{Exchanges}
use Rattle.nv_table.specs.state.SlotValues.{part_value}
use Rattle.nv_table.specs.state.Opened.{Opened}
use Rattle.nv_table.specs.state.Views.{slot_times}
use Rattle.nv_table.specs.state.States.{BoardState, PassState, IsOf}
use Rattle.nv_pages.specs.Commits.{HasLaid}
use Rattle.nv_pages.specs.PageWork.{entry_slot}
use Rattle.nv_pages.proofs.LaidLaws.{slot_still_owned, slot_bare, one_back, last_back, lying}
use Rattle.nv_pages.proofs.commits.lay_parts.Goals as goal

-- the slot of the last one of some
the_slot : (board : BoardState) (pass : PassState) (slot number first left : ℕ) → IsOf board pass → slot ≡ entry_slot board.opened.sizes number → number ≡ first + left → slot ≡ entry_slot pass.view.opened.sizes (first + left)
the_slot board pass slot number first left of is last = is ∙ ap₂ (λ (opened : Opened) (n : ℕ). entry_slot opened.sizes n) (sym of.same_mount) last

pub put-requires-clause-owns_slots : goal.put-requires-clause-owns_slots
put-requires-clause-owns_slots g c =
    let row = map (part_value g.L.Lines.device g.L.Lines.history g.L.Lines.fault_count g.L.Lines.room) c.args.parts.now.items in
    let left = length c.take_last.new.self.items in
    let many = ap length c.loop-parts.invariant.left.1 ∙ length-append c.loop-parts.parts.items c.loop-parts.invariant.left.0 in
    let more = ap length c.take_last.ensures.items ∙ length-append c.take_last.new.self.items (c.take_last.result ∷ []) in
    subst (λ slot. slot_times slot c.loop-parts.pass.now ≡ 1)
    (sym (the_slot c.args.board.now c.args.pass.now c.slot_of_entry-slot.result _ c.args.first left c.requires.board c.slot_of_entry-slot.ensures (omega (arith, more))))
    (slot_still_owned c.args.pass.now c.loop-parts.pass c.loop-parts.pass c.args.first (length c.args.parts.now.items) left row Bare Bare c.requires.entries (omega (arith, many, more))
    (subst (λ n. HasLaid c.args.first (length c.args.parts.now.items) (lying row n) c.args.pass.now c.loop-parts.pass) (omega (arith, more)) c.loop-parts.invariant.laid))

pub put-requires-clause-away : goal.put-requires-clause-away
put-requires-clause-away g c =
    let row = map (part_value g.L.Lines.device g.L.Lines.history g.L.Lines.fault_count g.L.Lines.room) c.args.parts.now.items in
    let left = length c.take_last.new.self.items in
    let many = ap length c.loop-parts.invariant.left.1 ∙ length-append c.loop-parts.parts.items c.loop-parts.invariant.left.0 in
    let more = ap length c.take_last.ensures.items ∙ length-append c.take_last.new.self.items (c.take_last.result ∷ []) in
    subst (λ slot. (value : Value) → IsOneOf c.loop-parts.pass.now (slot, value) → value ≡ Bare)
    (sym (the_slot c.args.board.now c.args.pass.now c.slot_of_entry-slot.result _ c.args.first left c.requires.board c.slot_of_entry-slot.ensures (omega (arith, more))))
    (slot_bare c.args.pass.now c.loop-parts.pass c.loop-parts.pass c.args.first (length c.args.parts.now.items) left row Bare Bare c.requires.entries (omega (arith, many, more))
    (subst (λ n. HasLaid c.args.first (length c.args.parts.now.items) (lying row n) c.args.pass.now c.loop-parts.pass) (omega (arith, more)) c.loop-parts.invariant.laid))

pub loop-parts-preserved : goal.loop-parts-preserved
loop-parts-preserved g c =
    let shown = part_value g.L.Lines.device g.L.Lines.history g.L.Lines.fault_count g.L.Lines.room in
    let row = map shown c.args.parts.now.items in
    let left = length c.take_last.new.self.items in
    let back = c.loop-parts.invariant.left.0 in
    let split = c.loop-parts.invariant.left.1 ∙ ap (λ items. items ++ back) c.take_last.ensures.items in
    let many = ap length c.loop-parts.invariant.left.1 ∙ length-append c.loop-parts.parts.items back in
    let more = ap length c.take_last.ensures.items ∙ length-append c.take_last.new.self.items (c.take_last.result ∷ []) in
    record {
      laid = one_back c.args.pass.now c.loop-parts.pass c.put.new.pass c.args.first (length c.args.parts.now.items) left row Bare (shown c.take_last.result) c.requires.entries (omega (arith, many, more))
          (subst (λ n. HasLaid c.args.first (length c.args.parts.now.items) (lying row n) c.args.pass.now c.loop-parts.pass) (omega (arith, more)) c.loop-parts.invariant.laid)
          (subst (λ slot. Exchanges slot Bare (shown c.take_last.result) c.loop-parts.pass c.put.new.pass)
          (the_slot c.args.board.now c.args.pass.now c.slot_of_entry-slot.result _ c.args.first left c.requires.board c.slot_of_entry-slot.ensures (omega (arith, more))) c.put.ensures)
          (sym (last_back shown c.args.parts.now.items c.take_last.new.self.items c.take_last.result back split));
      left = (c.take_last.result ∷ back, split ∙ append_assoc c.take_last.new.self.items (c.take_last.result ∷ []) back);
      places = omega arith;
    }
