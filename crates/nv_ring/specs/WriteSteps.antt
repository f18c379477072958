-- Write steps: what a running write does next and what has come of it so far, what one step of it is, and its list, which is put in and taken out.
use Rattle.std.specs.Prelude.{◌≡◌, ℕ, ◌+◌, ◌*◌, ◌≤◌, ◌==◌, false, if◌then◌else◌, List, Option, Some, None}
use Rattle.std.specs.Borrow.{Bor}
use Rattle.nv_plain.specs.declared.call.FileCall.{FileCall}
use Rattle.nv_core.specs.state.Passes.{len_of, page_count}
use Rattle.nv_core.specs.state.Words.{Sizes}
use Rattle.nv_table.specs.state.States.{PassState}
use Rattle.nv_op.specs.declared.kinds.Kind.{Kind}
use Rattle.nv_op.specs.declared.kinds.Kind.TheVariants.{Load, Take}
use Rattle.nv_op.specs.declared.op.Op.{Op}
use Rattle.nv_op.specs.declared.op.Op.TheVariants.{Place}
use Rattle.nv_op.specs.Kinds.{kind_of, kind_of_op}
use Rattle.nv_op.specs.Ops.{asked_with}
use Rattle.nv_mirror.specs.declared.answers.Refusal.{Refusal}
use Rattle.nv_mirror.specs.declared.answers.Refusal.TheVariants.{RegionFault}
use Rattle.nv_ring.specs.declared.append.AppendMachine.{AppendMachine}
use Rattle.nv_mirror.specs.declared.front.FrontMachine.{FrontMachine}
use Rattle.nv_mirror.specs.declared.pageless.PagelessMachine.{PagelessMachine}
use Rattle.nv_ring.specs.declared.write.RunningWrite.{RunningWrite}
use Rattle.nv_ring.specs.declared.write.RunningWrite.TheVariants.{Pageless, Front, Draw, Append, Release, Over}
use Rattle.nv_ring.specs.Draws.{draw_op, draw_refusal_at}
use Rattle.nv_ring.specs.Appends.{append_op, append_place_at, append_refusal_at}
use Rattle.nv_mirror.specs.Fronts.{front_op, front_refusal_at}
use Rattle.nv_mirror.specs.Pageless.{pageless_op, pageless_place_at, pageless_refusal_at}
use Rattle.nv_mirror.specs.PassSteps.{PassStep, HasTaken, either_of, fault_in, place_by}
use Rattle.nv_mirror.specs.Releases.{release_op}
use Rattle.nv_ring.specs.RunningWrites.{place_of, refusal_of, write_measure}

-- ---- its list

abbrev pub with_list : (list : Bor (List ℕ)) → RunningWrite → RunningWrite
with_list list (Pageless m) = Pageless (record m { asked = asked_with list m.asked })
with_list list (Front m) = Front (record m { asked = asked_with list m.asked })
with_list list (Draw m) = Draw (record m { bytes = list })
with_list list (Append m) = Append (record m { bytes = list })
with_list list (Release m) = Release (record m { asked = asked_with list m.asked })
with_list list (Over result) = Over result

-- ---- what comes next, and what has come of it

-- its next step, and the kind of that, where no device call before it has failed
abbrev pub write_op : RunningWrite → Op
write_op (Pageless m) = pageless_op m.control
write_op (Front m) = front_op m
write_op (Draw m) = draw_op m
write_op (Append m) = append_op m false
write_op (Release m) = release_op m
write_op (Over result) = Place

abbrev pub write_kind : RunningWrite → Kind
write_kind write = kind_of (write_op write)

-- its place, once it has one
abbrev pub write_place : RunningWrite → Option ℕ
write_place (Pageless m) = pageless_place_at m.control
write_place (Front m) = None
write_place (Draw m) = None
write_place (Append m) = append_place_at m m.control
write_place (Release m) = Some m.place
write_place (Over result) = place_of result

-- why it is refused, if it is
abbrev pub pageless_refused : PagelessMachine → Option Refusal
pageless_refused m = pageless_refusal_at m.control

abbrev pub front_refused : FrontMachine → Option Refusal
front_refused m = front_refusal_at m.control

abbrev pub append_refused : AppendMachine → Option Refusal
append_refused m = append_refusal_at m.control

-- the fault for which a call is refused, if it is that of a part
abbrev pub part_fault : Option Refusal → Option Refusal
part_fault (Some RegionFault) = Some RegionFault
part_fault refusal = None

abbrev pub write_fault : RunningWrite → Option Refusal
write_fault (Pageless m) = part_fault (pageless_refused m)
write_fault (Front m) = part_fault (front_refused m)
write_fault (Draw m) = part_fault (draw_refusal_at m.control)
write_fault (Append m) = part_fault (append_refused m)
write_fault (Release m) = None
write_fault (Over result) = part_fault (refusal_of result)

-- ---- a step

-- Its pass has made one step, behind the device calls that lie before it. It was of the kind that was said, where none of these has failed; the write has
-- had a fault where it had one before, or one of them has failed; and it has its place where it had one before, or took it by this step.
pub record HasMadeOne (write next : RunningWrite) (old new : PassState) : Type 0 where
  pub step : PassStep
  pub taken : HasTaken step old new
  pub kind : fault_in step.works ≡ None → kind_of_op step.op ≡ write_kind write
  pub fault : write_fault next ≡ either_of (write_fault write) (fault_in step.works)
  pub place : write_place next ≡ either_of (write_place write) (place_by step.op step.found)

-- ---- a write that has made no step

abbrev pub first_kind : (len : ℕ) → Kind
first_kind len = if len == 0 then Load else Take

-- Its first step takes a lock, or, where it has no bytes, loads STOP. Nothing has come of it yet, and no more steps than this may come.
pub record IsFresh (sizes : Sizes) (call : FileCall) (write : RunningWrite) : Type 0 where
  pub kind : write_kind write ≡ first_kind (len_of call)
  pub place : write_place write ≡ None
  pub fault : write_fault write ≡ None
  pub few : write_measure write ≤ 19 + 6 * page_count sizes call
