-- An operation that is due is ready.
use Rattle.std.proofs.Common.{◌≡◌, ◌≤◌, sym, ap, subst, ◌∙◌}
use Rattle.nv_core.specs.steps.Ops.{Op as CoreOp, move_of}
use Rattle.nv_core.specs.state.Words.{Sizes, place}
use Rattle.nv_table.specs.state.Layout.{slot_of_cell}
use Rattle.nv_table.specs.state.Changes.{changed}
use Rattle.nv_table.specs.state.Keys.{sizes_of}
use Rattle.nv_table.specs.declared.layout.Layout.{Layout}
use Rattle.nv_table.specs.state.States.{PassState, shift_of}
use Rattle.nv_op.specs.declared.op.Op.{Op}
use Rattle.nv_table.specs.invariant.Drawn.{marks_of, IsFromHead}
use Rattle.nv_table.specs.declared.stepping.Marks.{Marks}
use Rattle.nv_table.specs.steps.Moving.{shift_said}
use Rattle.nv_table.specs.state.Opened.{Opened}
use Rattle.nv_table.specs.steps.StepContracts.{PreconditionAt}
use Rattle.nv_table.specs.state.Views.{pass_of, values_of}
use Rattle.nv_table.specs.steps.CallSteps.{Precondition, reply_at}
use Rattle.nv_table.specs.declared.acting.Change.{Change}
use Rattle.nv_table.specs.declared.stepping.Moves.{Moves}
use Rattle.nv_core.specs.state.Words.{IsWord}
use Rattle.nv_op.specs.Words.{core_word}
use Rattle.nv_op.specs.Ops.{word_of_op, moves_for, marks_for, core_op_of, opened_by}
use Rattle.nv_op.proofs.OpLaws.{op_stands, op_ready, moves_so, marks_alike, marks_so, head_so}
use Rattle.nv_op.proofs.performing.perform_by.Goals as goal

-- the word is one of the board's mount
word_there : (opened : Opened) (pass : PassState) (layout : Layout) (op : Op) → pass.view.opened ≡ opened → sizes_of layout ≡ opened.sizes
    → IsWord pass.view.opened.sizes (core_word (word_of_op pass.view.opened.sizes op)) → IsWord (sizes_of layout) (core_word (word_of_op (sizes_of layout) op))
word_there opened pass layout op mount same = subst (λ (s : Sizes). IsWord s (core_word (word_of_op s op))) (sym (same ∙ sym (ap (λ (o : Opened). o.sizes) mount)))

pub place-requires : goal.place-requires
place-requires g c =
    let pass = c.args.pass.now in
    word_there _ pass c.layout-layout.result c.args.op c.requires.board.same_mount c.layout-layout.ensures
    (op_stands pass g.E.StepSpec.opens g.E.StepSpec.op c.args.op c.requires.op c.requires.fits c.due_steps_stand.ensures c.requires.due.0).0

pub change-requires : goal.change-requires
change-requires g c =
    let pass = c.args.pass.now in
    (op_stands pass g.E.StepSpec.opens g.E.StepSpec.op c.args.op c.requires.op c.requires.fits c.due_steps_stand.ensures c.requires.due.0).1

pub moves-requires : goal.moves-requires
moves-requires g c =
    let pass = c.args.pass.now in
    word_there _ pass c.layout-layout.result c.args.op c.requires.board.same_mount c.layout-layout.ensures
    (op_stands pass g.E.StepSpec.opens g.E.StepSpec.op c.args.op c.requires.op c.requires.fits c.due_steps_stand.ensures c.requires.due.0).0

pub step-requires-clause-next : goal.step-requires-clause-next
step-requires-clause-next g c =
    let pass = c.args.pass.now in
    let view = pass.view in
    let reply = reply_at view.opened.sizes (values_of view) (pass_of view) (pass_of view).control in
    let same = c.layout-layout.ensures ∙ sym (ap (λ (o : Opened). o.sizes) c.requires.board.same_mount) in
    let few = subst (λ (s : Sizes). s.entries ≤ 1024) same c.layout-layout.result.limits.most_entries in
    let there = c.place.ensures ∙ ap (λ (s : Sizes). place s (core_word (word_of_op s c.args.op))) same in
    (subst
    (λ (core_op : CoreOp). (due : Precondition pass g.E.StepSpec.opens core_op) × g.E.StepSpec.said due.works → (is : PreconditionAt pass g.E.StepSpec.opens core_op c.place.result (changed c.change.result)) × g.E.StepSpec.said is.works)
    (sym c.requires.op)
    (λ due.
    subst (λ (change : Change). (is : PreconditionAt pass g.E.StepSpec.opens (core_op_of view c.args.op) c.place.result (changed change)) × g.E.StepSpec.said is.works) (sym c.change.ensures)
    (op_ready c.no_sound_state_allows.ensures.dirty pass g.E.StepSpec.opens reply c.args.op c.place.result g.E.StepSpec.said due.0 c.requires.fits few there due.1)))
    c.requires.due

pub step-requires-clause-moves : goal.step-requires-clause-moves
step-requires-clause-moves g c found =
    let pass = c.args.pass.now in
    let view = pass.view in
    let sizes = view.opened.sizes in
    let reply = reply_at sizes (values_of view) (pass_of view) (pass_of view).control in
    let same = c.layout-layout.ensures ∙ sym (ap (λ (o : Opened). o.sizes) c.requires.board.same_mount) in
    ap (λ (core_op : CoreOp). shift_of sizes (move_of sizes core_op found)) c.requires.op
    ∙ moves_so sizes reply c.args.op found
    ∙ sym (ap (λ (s : Sizes). shift_said (moves_for c.args.op (slot_of_cell s (core_word (word_of_op s c.args.op)))) found) same)
    ∙ sym (ap (λ (m : Moves). shift_said m found) c.moves.ensures)

pub step-requires-clause-marks : goal.step-requires-clause-marks
step-requires-clause-marks g c =
    let view = c.args.pass.now.view in
    let reply = reply_at view.opened.sizes (values_of view) (pass_of view) (pass_of view).control in
    ap (marks_of g.E.StepSpec.opens) c.requires.op
    ∙ marks_alike g.E.StepSpec.opens (opened_by c.args.opens) (core_op_of view c.args.op) c.requires.opens
    ∙ marks_so c.args.opens reply c.args.op ∙ sym c.marks.ensures

pub step-requires-clause-head : goal.step-requires-clause-head
step-requires-clause-head g c =
    let view = c.args.pass.now.view in
    subst (λ (marks : Marks). IsFromHead marks c.change.result (pass_of view).head) (sym c.marks.ensures)
    (subst (λ (change : Change). IsFromHead (marks_for c.args.opens c.args.op) change (pass_of view).head) (sym c.change.ensures)
    (head_so view.opened.sizes (pass_of view) g.E.StepSpec.opens c.args.opens c.args.op c.requires.fits))
