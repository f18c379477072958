-- Each part goes on where the one before it ends.
use Rattle.std.proofs.Common.{◌≤◌, arith, sym, ap, subst, ◌∙◌}
use Rattle.nv_op.specs.Ops.{call_asked}
use Rattle.nv_core.specs.state.Passes.{is_write}
use Rattle.nv_mirror.specs.declared.front.FrontMachine.{FrontMachine}
use Rattle.nv_mirror.specs.declared.release.ReleaseMachine.{ReleaseMachine}
use Rattle.nv_ring.specs.declared.write.RunningWrite.{RunningWrite}
use Rattle.nv_ring.specs.declared.write.RunningWrite.TheVariants.{Draw, Append}
use Rattle.nv_mirror.specs.Releases as release
use Rattle.nv_ring.specs.declared.append.AppendMachine.{AppendMachine}
use Rattle.nv_ring.specs.Appends.{append_call_of}
use Rattle.nv_ring.specs.Draws.{append_of}
use Rattle.nv_ring.specs.RunningWrites.{IsUnderWay, asked_in, front_part, write_measure}
use Rattle.nv_mirror.specs.Controls.{asked_at}
use Rattle.nv_mirror.specs.Fronts as front
use Rattle.nv_mirror.specs.Pageless as pageless
use Rattle.nv_mirror.specs.Pageless.{pageless_place_at, pageless_refusal_at}
use Rattle.nv_ring.specs.WriteSteps.{part_fault, write_fault, write_place}
use Rattle.nv_ring.proofs.WriteStepLaws.{over_fault, over_place}
use Rattle.nv_ring.proofs.RunningLaws.{pageless_over, front_over, release_over, released_open, refused_low, writes_some}
use Rattle.nv_ring.proofs.write.RunningWrite.settled.Goals as goal

pub returns-in-Over-control-clause-way : goal.returns-in-Over-control-clause-way
returns-in-Over-control-clause-way c call start now way =
    pageless_over c.in-Pageless.m c.in-Over-control.result call start now c.in-Over-control.is (subst (λ (w : RunningWrite). IsUnderWay call w start now) c.in-Pageless.is way)

pub returns-in-Over-control-2-clause-way : goal.returns-in-Over-control-2-clause-way
returns-in-Over-control-2-clause-way c call start now way =
    front_over c.in-Front.m c.in-Over-control-2.refusal call start now c.in-Over-control-2.is (subst (λ (w : RunningWrite). IsUnderWay call w start now) c.in-Front.is way)

pub returns-in-Appended-clause-settled : goal.returns-in-Appended-clause-settled
returns-in-Appended-clause-settled c = subst (λ (m : ReleaseMachine). release.IsOpen m.control) (sym c.release.ensures.machine) (released_open c.in-Append.m c.in-Append.m.sized)

pub returns-in-Appended-clause-way : goal.returns-in-Appended-clause-way
returns-in-Appended-clause-way c call start now way =
    let append = subst (λ (w : RunningWrite). IsUnderWay call w start now) c.in-Append.is way in
    (ap (λ (m : ReleaseMachine). call_asked m.asked) c.release.ensures.machine ∙ append.0, c.release.ensures.way start now append.1)

pub returns-in-Drawn-clause-way : goal.returns-in-Drawn-clause-way
returns-in-Drawn-clause-way c call start now way =
    let draw = subst (λ (w : RunningWrite). IsUnderWay call w start now) c.in-Draw.is way in
    (ap (λ (m : AppendMachine). append_call_of m) c.append.ensures.machine ∙ draw.0, c.append.ensures.way start now draw.1)

pub returns-in-Refused-clause-falls : goal.returns-in-Refused-clause-falls
returns-in-Refused-clause-falls c =
    let m = append_of c.in-Draw.m in
    subst (λ (w : RunningWrite). front_part c.give_back.result c.give_back.result.control ≤ write_measure w) (sym c.in-Draw.is)
    (subst (λ (f : FrontMachine). front_part f f.control ≤ write_measure (Draw c.in-Draw.m)) (sym c.give_back.ensures.machine.2) (let low = refused_low m m.sized c.give_back.ensures.machine.0 in omega (arith, low)))

pub returns-in-Refused-clause-way : goal.returns-in-Refused-clause-way
returns-in-Refused-clause-way c call start now way =
    let draw = subst (λ (w : RunningWrite). IsUnderWay call w start now) c.in-Draw.is way in (
      ap (λ (f : FrontMachine). call_asked f.asked) c.give_back.ensures.machine.2 ∙ draw.0,
      ap (λ (f : FrontMachine). is_write (call_asked f.asked)) c.give_back.ensures.machine.2 ∙ writes_some (append_of c.in-Draw.m) draw.1.0.write.some,
      c.give_back.ensures.way start now draw.1,
    )

pub returns-in-Refused-control-clause-falls : goal.returns-in-Refused-control-clause-falls
returns-in-Refused-control-clause-falls c =
    let m = c.in-Append.m in
    subst (λ (w : RunningWrite). front_part c.give_back-in-Refused-control.result c.give_back-in-Refused-control.result.control ≤ write_measure w) (sym c.in-Append.is)
    (subst (λ (f : FrontMachine). front_part f f.control ≤ write_measure (Append m)) (sym c.give_back-in-Refused-control.ensures.machine.2) (let low = refused_low m m.sized c.give_back-in-Refused-control.ensures.machine.0 in omega (arith, low)))

pub returns-in-Refused-control-clause-way : goal.returns-in-Refused-control-clause-way
returns-in-Refused-control-clause-way c call start now way =
    let m = c.in-Append.m in
    let append = subst (λ (w : RunningWrite). IsUnderWay call w start now) c.in-Append.is way in (
      ap (λ (f : FrontMachine). call_asked f.asked) c.give_back-in-Refused-control.ensures.machine.2 ∙ append.0,
      ap (λ (f : FrontMachine). is_write (call_asked f.asked)) c.give_back-in-Refused-control.ensures.machine.2 ∙ writes_some m append.1.0.some,
      c.give_back-in-Refused-control.ensures.way start now append.1,
    )

pub returns-in-Over-control-3-clause-way : goal.returns-in-Over-control-3-clause-way
returns-in-Over-control-3-clause-way c call start now way =
    release_over c.in-Release.m call start now c.in-Over-control-3.is (subst (λ (w : RunningWrite). IsUnderWay call w start now) c.in-Release.is way)

pub returns-in-Over-control-clause-place : goal.returns-in-Over-control-clause-place
returns-in-Over-control-clause-place c =
    over_place c.in-Over-control.result ∙ ap pageless_place_at (sym c.in-Over-control.is) ∙ ap write_place (sym c.in-Pageless.is)

pub returns-in-Over-control-clause-fault : goal.returns-in-Over-control-clause-fault
returns-in-Over-control-clause-fault c =
    ap part_fault (over_fault c.in-Over-control.result ∙ ap pageless_refusal_at (sym c.in-Over-control.is)) ∙ ap write_fault (sym c.in-Pageless.is)

-- ---- what it is asked as

pub returns-in-Over-control-clause-asks : goal.returns-in-Over-control-clause-asks
returns-in-Over-control-clause-asks c asked now =
    sym (ap (λ (w : RunningWrite). asked_in asked w now) c.in-Pageless.is ∙ ap (λ control. asked_at asked (pageless.has_begun control) now) c.in-Over-control.is)

pub returns-in-Passed-clause-asks : goal.returns-in-Passed-clause-asks
returns-in-Passed-clause-asks c asked now =
    sym (ap (λ (w : RunningWrite). asked_in asked w now) c.in-Front.is ∙ ap (λ control. asked_at asked (front.has_begun control) now) c.in-Passed.is)

pub returns-in-Over-control-2-clause-asks : goal.returns-in-Over-control-2-clause-asks
returns-in-Over-control-2-clause-asks c asked now =
    sym (ap (λ (w : RunningWrite). asked_in asked w now) c.in-Front.is ∙ ap (λ control. asked_at asked (front.has_begun control) now) c.in-Over-control-2.is)

pub returns-in-Drawn-clause-asks : goal.returns-in-Drawn-clause-asks
returns-in-Drawn-clause-asks c asked now = sym (ap (λ (w : RunningWrite). asked_in asked w now) c.in-Draw.is)

pub returns-in-Refused-clause-asks : goal.returns-in-Refused-clause-asks
returns-in-Refused-clause-asks c asked now =
    ap (λ (f : FrontMachine). asked_at asked (front.has_begun f.control) now) c.give_back.ensures.machine.2
    ∙ sym (ap (λ (w : RunningWrite). asked_in asked w now) c.in-Draw.is)

pub returns-in-Appended-clause-asks : goal.returns-in-Appended-clause-asks
returns-in-Appended-clause-asks c asked now = sym (ap (λ (w : RunningWrite). asked_in asked w now) c.in-Append.is)

pub returns-in-Refused-control-clause-asks : goal.returns-in-Refused-control-clause-asks
returns-in-Refused-control-clause-asks c asked now =
    ap (λ (f : FrontMachine). asked_at asked (front.has_begun f.control) now) c.give_back-in-Refused-control.ensures.machine.2
    ∙ sym (ap (λ (w : RunningWrite). asked_in asked w now) c.in-Append.is)

pub returns-in-Over-control-3-clause-asks : goal.returns-in-Over-control-3-clause-asks
returns-in-Over-control-3-clause-asks c asked now = sym (ap (λ (w : RunningWrite). asked_in asked w now) c.in-Release.is)
