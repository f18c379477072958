-- Read steps: of which kind each step of a running read is, and what comes of it.
use Rattle.std.proofs.Common.{◌≡◌, ℕ, refl, sym, ap, subst, ◌∙◌}
use Rattle.std.specs.Prelude.{Option, Some, None, option_map, Ok, Err}
use Rattle.nv_table.specs.state.States.{PassState}
use Rattle.nv_table.specs.state.Views.{pass_of}
use Rattle.nv_table.specs.steps.StepContracts.{Postcondition}
use Rattle.nv_table.proofs.steps.CallLaws.{IsCallFree}
use Rattle.nv_op.specs.Ops.{core_op_of}
use Rattle.nv_op.specs.declared.op.Op.TheVariants.{Place}
use Rattle.nv_pages.specs.Altered.{IsAltered}
use Rattle.nv_mirror.specs.declared.answers.Done.{Done}
use Rattle.nv_mirror.specs.declared.front.FrontMachine.{FrontMachine}
use Rattle.nv_mirror.specs.declared.load.LoadMachine.{LoadMachine}
use Rattle.nv_mirror.specs.declared.pageless.PagelessMachine.{PagelessMachine}
use Rattle.nv_mirror.specs.declared.release.ReleaseMachine.{ReleaseMachine}
use Rattle.nv_mirror.specs.declared.visit.VisitMachine.{VisitMachine}
use Rattle.nv_mirror.specs.Controls.{MirroredControl}
use Rattle.nv_mirror.specs.Fronts as front
use Rattle.nv_mirror.specs.Loads as load
use Rattle.nv_mirror.specs.Pageless as pageless
use Rattle.nv_mirror.specs.PassSteps.{device_fault}
use Rattle.nv_mirror.specs.Releases as release
use Rattle.nv_mirror.specs.Visits as visit
use Rattle.nv_mirror.specs.Visits.{read_released}
use Rattle.nv_mirror.proofs.AlteredCalls.{taken_same}
use Rattle.nv_mirror.proofs.PartLaws.{device_faults, front_tells, load_tells, pageless_tells, release_tells}
use Rattle.nv_mirror.proofs.StepLaws.{between_self, no_fault, taken_by}
use Rattle.nv_plain.specs.declared.call.FileCall.{FileCall}
use Rattle.nv_cache.specs.declared.read.RunningRead.{RunningRead}
use Rattle.nv_cache.specs.declared.read.RunningRead.TheVariants.{Pageless, Front, Search, Load, TakePlace, Release, Over}
use Rattle.nv_cache.specs.ReadSteps.{HasMadeOne, answer_at, read_answer, read_fault, read_place}

pub front_one : (m next : FrontMachine) {opens : Option FileCall} (start now new : PassState) (found : ℕ) → front.IsOpen m.control → front.IsUnderWay m start now
    → Postcondition now opens (core_op_of now.view (front.front_op m)) found new → next ≡ front.front_after now.view.opened.sizes m found → HasMadeOne (Front m) (Front next) now new
front_one m next {opens} start now new found runs way is next_is =
    let told = front_tells device_fault device_faults m next start now new found runs way is next_is in
    record { step = told.step; taken = told.taken; kind = told.kind; fault = told.fault; place = told.placed }

pub pageless_one : (m next : PagelessMachine) {opens : Option FileCall} (start now new : PassState) (found : ℕ) → pageless.IsOpen m.control → pageless.IsUnderWay m start now
    → Postcondition now opens (core_op_of now.view (pageless.pageless_op m.control)) found new → next.control ≡ pageless.pageless_after m.control found
    → HasMadeOne (Pageless m) (Pageless next) now new
pageless_one m next {opens} start now new found runs way is next_is =
    let told = pageless_tells device_fault device_faults m next start now new found runs way is next_is in
    record { step = told.step; taken = told.taken; kind = told.kind; fault = told.fault; place = told.placed }

pub release_one : (m next : ReleaseMachine) (copied : ℕ) (start now new : PassState) (found : ℕ) → release.IsOpen m.control → release.IsUnderWay m start now
    → Postcondition now None (core_op_of now.view (release.release_op m)) found new → next ≡ release.release_after m → HasMadeOne (Release m copied) (Release next copied) now new
release_one m next copied start now new found runs way is next_is =
    let told = release_tells device_fault device_faults m next start now new found runs way is next_is in
    record { step = told.step; taken = told.taken; kind = told.kind; fault = told.fault; place = told.placed }

pub load_one : (of : VisitMachine) (m next : LoadMachine) (now new : PassState) → load.IsOpen m.control → load.HasStepped m next now new → HasMadeOne (Load of m) (Load of next) now new
load_one of m next now new runs is =
    let told = load_tells m next now new runs is in
    record { step = told.step; taken = told.taken; kind = told.kind; fault = told.fault; place = told.placed }

-- a read that takes its place
pub place_one : (m : VisitMachine) (next : ReleaseMachine) (list : Rattle.std.specs.Prelude.List ℕ) (start now new : PassState) (found : ℕ) → visit.IsUnderWay m list start now
    → Postcondition now None (core_op_of now.view Place) found new → next ≡ read_released m found → HasMadeOne (TakePlace m) (Release next m.copied) now new
place_one m next list start now new found way is next_is = record {
  step = record { opens = None; works = is.works; op = core_op_of now.view Place; found = found };
  taken = taken_by now now new _ _ found (between_self now) is;
  kind = λ well. refl;
  fault = sym (no_fault now new _ _ found free is);
  place = ap (λ (n : ReleaseMachine). Some n.place) next_is;
}
  where
    free : IsCallFree (pass_of now.view).control
    free = subst (λ (c : MirroredControl). IsCallFree c.control) (sym way.1.called.mirrors) (λ sizes values pass work due. due)

-- ---- a look behind it

-- A look at what the pass owns is no step: what the last one told is so still.
pub settled_one : (read next then_ : RunningRead) (old mid new : PassState) → HasMadeOne read next old mid → IsAltered (λ kept. kept) mid new → read_fault then_ ≡ read_fault next → read_place then_ ≡ read_place next → HasMadeOne read then_ old new
settled_one read next then_ old mid new one same fault place =
    record { step = one.step; taken = taken_same one.step old mid new same one.taken; kind = one.kind; fault = fault ∙ one.fault; place = place ∙ one.place }

-- its answer tells its place
pub answer_place : (read : RunningRead) → read_place read ≡ option_map (λ (done : Done). done.place) (read_answer read)
answer_place (Pageless m) = by (pageless.pageless_place_at m.control)
  where
    by : (place : Option ℕ) → place ≡ option_map (λ (done : Done). done.place) (answer_at place 0)
    by None = refl
    by (Some place) = refl
answer_place (Front m) = refl
answer_place (Search of m) = refl
answer_place (Load of m) = refl
answer_place (TakePlace m) = refl
answer_place (Release m copied) = refl
answer_place (Over (Ok done)) = refl
answer_place (Over (Err refusal)) = refl
