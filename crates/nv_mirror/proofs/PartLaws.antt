-- Parts: of which kind each step is of the parts that reads and writes share, and what comes of it.
use Rattle.std.proofs.Common.{◌≡◌, ℕ, zero, suc, ◌+◌, ◌-◌, ◌^◌, ◌==◌, nat_lt, Bool, true, false, if◌then◌else◌, refl, ap, subst, sym, ◌∙◌}
use Rattle.std.specs.Prelude.{Option, Some, None}
use Rattle.nv_plain.specs.declared.call.FileCall.{FileCall}
use Rattle.nv_core.specs.state.Words.{Sizes, Word}
use Rattle.nv_core.specs.steps.Ops.{Give}
use Rattle.nv_table.specs.state.States.{PassState}
use Rattle.nv_table.specs.state.Views.{PassView, pass_of}
use Rattle.nv_table.specs.steps.StepContracts.{Postcondition}
use Rattle.nv_table.proofs.steps.CallLaws.{IsCallFree}
use Rattle.nv_op.specs.declared.kinds.Kind.{Kind}
use Rattle.nv_op.specs.Kinds.{kind_of, kind_of_op}
use Rattle.nv_op.specs.Ops.{core_op_of}
use Rattle.nv_op.proofs.KindLaws.{kind_same}
use Rattle.nv_mirror.specs.declared.answers.Refusal.{Refusal}
use Rattle.nv_mirror.specs.declared.answers.Refusal.TheVariants.{Busy, Stopped, Spent, StoreFault}
use Rattle.nv_mirror.specs.declared.front.FrontMachine.{FrontMachine}
use Rattle.nv_mirror.specs.declared.front.FrontControl.{FrontControl}
use Rattle.nv_mirror.specs.declared.front.FrontControl.TheVariants.{Passed, Over}
use Rattle.nv_mirror.specs.declared.front.FrontControl.TheVariants as fronts
use Rattle.nv_mirror.specs.declared.load.LoadControl.{LoadControl}
use Rattle.nv_mirror.specs.declared.load.LoadControl.TheVariants.{Loaded, Refused, GiveBackStore, GiveBackCleanup}
use Rattle.nv_mirror.specs.declared.load.LoadControl.TheVariants as loads
use Rattle.nv_mirror.specs.declared.load.LoadMachine.{LoadMachine}
use Rattle.nv_mirror.specs.declared.pageless.PagelessControl.{PagelessControl}
use Rattle.nv_mirror.specs.declared.pageless.PagelessControl.TheVariants as controls
use Rattle.nv_mirror.specs.declared.pageless.PagelessMachine.{PagelessMachine}
use Rattle.nv_mirror.specs.declared.release.ReleaseMachine.{ReleaseMachine}
use Rattle.nv_mirror.specs.declared.release.ReleaseControl.{ReleaseControl}
use Rattle.nv_mirror.specs.declared.release.ReleaseControl.TheVariants as releases
use Rattle.nv_mirror.specs.Controls.{MirroredControl}
use Rattle.nv_mirror.specs.Fronts as front
use Rattle.nv_mirror.specs.Fronts.{front_after, front_after_at, front_op, front_op_at, front_opens, front_refusal_at, locked}
use Rattle.nv_mirror.specs.Loads as load
use Rattle.nv_mirror.specs.Loads.{HasStepped, fault_then, load_control_then, load_op, load_op_at, load_refusal_at}
use Rattle.nv_mirror.specs.Pageless as pageless
use Rattle.nv_mirror.specs.Pageless.{pageless_after, pageless_op, pageless_place_at, pageless_refusal_at}
use Rattle.nv_mirror.specs.PassSteps.{PassStep, HasTaken, device_fault, either_of, fault_in, place_by}
use Rattle.nv_mirror.specs.Releases as release
use Rattle.nv_mirror.specs.Releases.{release_after, release_op}
use Rattle.nv_mirror.proofs.FrontLaws.{free}
use Rattle.nv_mirror.proofs.PagelessLaws.{free as pageless_free}
use Rattle.nv_mirror.proofs.StepLaws.{between_self, no_fault, taken_by}

-- both of two are so
pub of_both : {T U : Type 0} (f : T → U) (b : Bool) (one other : T) (u : U) → f one ≡ u → f other ≡ u → f (if b then one else other) ≡ u
of_both f true one other u first second = first
of_both f false one other u first second = second

-- nothing more comes to a fault
pub none_more : (fault : Option Refusal) → either_of fault None ≡ fault
none_more None = refl
none_more (Some fault) = refl

-- which refusals are for a device fault: none of those that a front or a call without a page comes to
pub record TellsFaults (fault_of : Option Refusal → Option Refusal) : Type 0 where
  pub none : fault_of None ≡ None
  pub busy : (cell : ℕ) → fault_of (Some (Busy cell)) ≡ None
  pub stopped : fault_of (Some Stopped) ≡ None
  pub spent : (found : ℕ) → fault_of (Some (Spent found)) ≡ None

pub device_faults : TellsFaults device_fault
device_faults = record { none = refl; busy = λ cell. refl; stopped = refl; spent = λ found. refl }

-- What one step of a part tells: of which kind it was, where no device call before it has failed; and what came of it, by why it is refused, and its place,
-- before and behind the step.
pub record TellsStep (fault_of : Option Refusal → Option Refusal) (of_kind : Kind) (refused refused_then : Option Refusal) (place place_then : Option ℕ) (old new : PassState) : Type 0 where
  pub step : PassStep
  pub taken : HasTaken step old new
  pub kind : fault_in step.works ≡ None → kind_of_op step.op ≡ of_kind
  pub fault : fault_of refused_then ≡ either_of (fault_of refused) (fault_in step.works)
  pub placed : place_then ≡ either_of place (place_by step.op step.found)

-- ---- a front

rest_refused : (size : Bool) (held : ℕ) (refusal : Refusal) → front_refusal_at (front.rest size held refusal) ≡ Some refusal
rest_refused true zero refusal = refl
rest_refused true (suc held) refusal = refl
rest_refused false zero refusal = refl
rest_refused false (suc held) refusal = refl

module _ (fault_of : Option Refusal → Option Refusal) (tells : TellsFaults fault_of) (sizes : Sizes) (m : FrontMachine) (found : ℕ) where
  abbrev fault_behind : FrontMachine → Option Refusal
  fault_behind next = fault_of (front_refusal_at next.control)

  locked_fault : (b : Bool) → fault_behind (locked sizes m b) ≡ None
  locked_fault true = ap fault_of (of_both front_refusal_at (m.first + m.held + 1 == m.last) fronts.LoadLength fronts.TakePage None refl refl) ∙ tells.none
  locked_fault false = ap fault_of (rest_refused false m.held (Busy _)) ∙ tells.busy _

  front_fault : (control : FrontControl) → front.IsOpen control → fault_behind (front_after_at sizes m control found) ≡ fault_of (front_refusal_at control)
  front_fault fronts.Begin runs = locked_fault (found == 0) ∙ sym tells.none
  front_fault fronts.TakePage runs = locked_fault (found == 0) ∙ sym tells.none
  front_fault fronts.LoadLength runs = ap fault_of (of_both front_refusal_at _ fronts.TakeSize fronts.LoadStop None refl refl)
  front_fault fronts.TakeSize runs = of_both fault_behind (found == 0) _ _ (fault_of None) refl (ap fault_of (rest_refused false m.held (Busy _)) ∙ tells.busy _ ∙ sym tells.none)
  front_fault fronts.LoadStop runs = of_both fault_behind (found == 0) _ _ (fault_of None) refl (ap fault_of (rest_refused m.sized m.held Stopped) ∙ tells.stopped ∙ sym tells.none)
  front_fault fronts.LoadOrder runs = of_both fault_behind (nat_lt found (2 ^ 60)) _ _ (fault_of None) refl (ap fault_of (rest_refused m.sized m.held (Spent found)) ∙ tells.spent found ∙ sym tells.none)
  front_fault Passed runs = absurd runs
  front_fault (fronts.GiveBack true refusal) runs = ap fault_of (rest_refused false m.held refusal)
  front_fault (fronts.GiveBack false refusal) runs = ap fault_of (rest_refused false (m.held - 1) refusal)
  front_fault (Over refusal) runs = absurd runs

front_place : (m : FrontMachine) (found : ℕ) (view : PassView) (control : FrontControl) → place_by (core_op_of view (front_op_at m control)) found ≡ None
front_place m found view fronts.Begin = refl
front_place m found view fronts.TakePage = refl
front_place m found view fronts.LoadLength = refl
front_place m found view fronts.TakeSize = refl
front_place m found view fronts.LoadStop = refl
front_place m found view fronts.LoadOrder = refl
front_place m found view Passed = refl
front_place m found view (fronts.GiveBack true refusal) = refl
front_place m found view (fronts.GiveBack false refusal) = refl
front_place m found view (Over refusal) = refl

pub front_tells : (fault_of : Option Refusal → Option Refusal) → TellsFaults fault_of → (m next : FrontMachine) {opens : Option FileCall} (start now new : PassState) (found : ℕ) → front.IsOpen m.control → front.IsUnderWay m start now
    → Postcondition now opens (core_op_of now.view (front_op m)) found new → next ≡ front_after now.view.opened.sizes m found
    → TellsStep fault_of (kind_of (front_op m)) (front_refusal_at m.control) (front_refusal_at next.control) None None now new
front_tells fault_of tells m next {opens} start now new found runs way is next_is =
    let none = no_fault now new _ _ found (free m m.control start now runs way.1) is in record {
      step = record { opens = opens; works = is.works; op = core_op_of now.view (front_op m); found = found };
      taken = taken_by now now new _ _ found (between_self now) is;
      kind = λ well. kind_same now.view (front_op m);
      fault = ap (λ (n : FrontMachine). fault_of (front_refusal_at n.control)) next_is ∙ front_fault fault_of tells now.view.opened.sizes m found m.control runs
          ∙ sym (ap (either_of (fault_of (front_refusal_at m.control))) none ∙ none_more (fault_of (front_refusal_at m.control)));
      placed = sym (front_place m found now.view m.control);
    }

-- it asks for the same, of the same pages
pub front_keeps : {T : Type 0} (f : FrontMachine → T) → ((m : FrontMachine) (held : ℕ) (sized : Bool) (length : ℕ) (control : FrontControl) → f (record m { held = held; sized = sized; length = length; control = control }) ≡ f m)
    → (sizes : Sizes) (m : FrontMachine) (control : FrontControl) (found : ℕ) → f (front_after_at sizes m control found) ≡ f m
front_keeps f keeps sizes m fronts.Begin found = by (found == 0)
  where
    by : (b : Bool) → f (locked sizes m b) ≡ f m
    by true = keeps m _ _ _ _
    by false = keeps m _ _ _ _
front_keeps f keeps sizes m fronts.TakePage found = by (found == 0)
  where
    by : (b : Bool) → f (locked sizes m b) ≡ f m
    by true = keeps m _ _ _ _
    by false = keeps m _ _ _ _
front_keeps f keeps sizes m fronts.LoadLength found = keeps m _ _ _ _
front_keeps f keeps sizes m fronts.TakeSize found = of_both f (found == 0) _ _ (f m) (keeps m _ _ _ _) (keeps m _ _ _ _)
front_keeps f keeps sizes m fronts.LoadStop found = of_both f (found == 0) _ _ (f m) (keeps m _ _ _ _) (keeps m _ _ _ _)
front_keeps f keeps sizes m fronts.LoadOrder found = of_both f (nat_lt found (2 ^ 60)) _ _ (f m) (keeps m _ _ _ _) (keeps m _ _ _ _)
front_keeps f keeps sizes m (fronts.GiveBack true refusal) found = keeps m _ _ _ _
front_keeps f keeps sizes m (fronts.GiveBack false refusal) found = keeps m _ _ _ _
front_keeps f keeps sizes m Passed found = refl
front_keeps f keeps sizes m (Over refusal) found = refl

-- ---- a call without a page

pageless_place : (found : ℕ) (view : PassView) (control : PagelessControl) → pageless.IsOpen control
    → pageless_place_at (pageless_after control found) ≡ either_of (pageless_place_at control) (place_by (core_op_of view (pageless_op control)) found)
pageless_place found view controls.Begin runs = of_both pageless_place_at (found == 0) _ _ None refl refl
pageless_place found view controls.LoadOrder runs = of_both pageless_place_at (nat_lt found (2 ^ 60)) _ _ None refl refl
pageless_place found view controls.TakePlace runs = refl
pageless_place found view (controls.Over answer) runs = absurd runs

module _ (fault_of : Option Refusal → Option Refusal) (tells : TellsFaults fault_of) where
  pageless_fault : (found : ℕ) (control : PagelessControl) → pageless.IsOpen control → fault_of (pageless_refusal_at (pageless_after control found)) ≡ fault_of (pageless_refusal_at control)
  pageless_fault found controls.Begin runs = of_both (λ c. fault_of (pageless_refusal_at c)) (found == 0) _ _ (fault_of None) refl (tells.stopped ∙ sym tells.none)
  pageless_fault found controls.LoadOrder runs = of_both (λ c. fault_of (pageless_refusal_at c)) (nat_lt found (2 ^ 60)) _ _ (fault_of None) refl (tells.spent found ∙ sym tells.none)
  pageless_fault found controls.TakePlace runs = refl
  pageless_fault found (controls.Over answer) runs = absurd runs

  pub pageless_tells : (m next : PagelessMachine) {opens : Option FileCall} (start now new : PassState) (found : ℕ) → pageless.IsOpen m.control → pageless.IsUnderWay m start now
      → Postcondition now opens (core_op_of now.view (pageless_op m.control)) found new → next.control ≡ pageless_after m.control found
      → TellsStep fault_of (kind_of (pageless_op m.control)) (pageless_refusal_at m.control) (pageless_refusal_at next.control) (pageless_place_at m.control) (pageless_place_at next.control) now new
  pageless_tells m next {opens} start now new found runs way is next_is = record {
    step = record { opens = opens; works = is.works; op = core_op_of now.view (pageless_op m.control); found = found };
    taken = taken_by now now new _ _ found (between_self now) is;
    kind = λ well. kind_same now.view (pageless_op m.control);
    fault = ap (λ c. fault_of (pageless_refusal_at c)) next_is ∙ pageless_fault found m.control runs
        ∙ sym (ap (either_of (fault_of (pageless_refusal_at m.control))) (no_fault now new _ _ found (pageless_free m.asked m.control start now runs way.1) is) ∙ none_more (fault_of (pageless_refusal_at m.control)));
    placed = ap pageless_place_at next_is ∙ pageless_place found now.view m.control runs;
  }

-- ---- what is given back

release_free : (m : ReleaseMachine) (control : ReleaseControl) (start now : PassState) → release.IsOpen control → release.IsInCall m control start now → IsCallFree (pass_of now.view).control
release_free m releases.GiveSize start now runs way = subst (λ (c : MirroredControl). IsCallFree c.control) (sym way.mirrors) (λ sizes values pass work due. due)
release_free m (releases.GivePage given) start now runs way = subst (λ (c : MirroredControl). IsCallFree c.control) (sym way.mirrors) (λ sizes values pass work due. due)
release_free m releases.Over start now runs way = absurd runs

pub release_tells : (fault_of : Option Refusal → Option Refusal) → TellsFaults fault_of → (m next : ReleaseMachine) (start now new : PassState) (found : ℕ) → release.IsOpen m.control → release.IsUnderWay m start now
    → Postcondition now None (core_op_of now.view (release_op m)) found new → next ≡ release_after m
    → TellsStep fault_of (kind_of (release_op m)) None None (Some m.place) (Some next.place) now new
release_tells fault_of tells m next start now new found runs way is next_is = record {
  step = record { opens = None; works = is.works; op = core_op_of now.view (release_op m); found = found };
  taken = taken_by now now new _ _ found (between_self now) is;
  kind = λ well. kind_same now.view (release_op m);
  fault = sym (ap (either_of (fault_of None)) (no_fault now new _ _ found (release_free m m.control start now runs way.1) is) ∙ none_more (fault_of None));
  placed = ap (λ (n : ReleaseMachine). Some n.place) next_is;
}

-- it gives a cell back
pub release_gives : (m : ReleaseMachine) (view : PassView) (control : ReleaseControl) → release.IsOpen control → (cell : Word) × (core_op_of view (release.release_op_at m control) ≡ Give cell)
release_gives m view releases.GiveSize runs = (_, refl)
release_gives m view (releases.GivePage given) runs = (_, refl)
release_gives m view releases.Over runs = absurd runs

-- ---- a load

module _ (sizes : Sizes) (m : LoadMachine) (failed : Bool) (found : ℕ) where
  abbrev fault_next : LoadControl → Option Refusal
  fault_next control = device_fault (load_refusal_at control)

  behind_fault : (dirty : Bool) (refusal : Refusal) → fault_next (load.behind_store dirty refusal) ≡ device_fault (Some refusal)
  behind_fault true refusal = refl
  behind_fault false refusal = refl

  scan_fault : (number : ℕ) → fault_next (load.scanning_from m number) ≡ None
  scan_fault number = of_both fault_next (nat_lt number m.head) (loads.LoadEntry number) loads.GiveCleanup None refl refl

  load_fault : (control : LoadControl) → load.IsOpen control → fault_next (load_control_then sizes m control failed found) ≡ either_of (fault_next control) (fault_then control failed)
  load_fault loads.LoadDirty runs = of_both fault_next (found == 0) (loads.TakeStore false) loads.TakeCleanup None refl refl
  load_fault loads.TakeCleanup runs = of_both fault_next (found == 0) (loads.TakeStore true) (Refused (Busy _)) None refl refl
  load_fault (loads.TakeStore dirty) runs = of_both fault_next (found == 0) (loads.ReadStore dirty) (load.behind_store dirty (Busy _)) None refl (behind_fault dirty (Busy _))
  load_fault (loads.ReadStore dirty) runs = by failed
    where
      by : (b : Bool) → fault_next (if b then GiveBackStore dirty else (if dirty then loads.LoadHead else Loaded)) ≡ fault_then (loads.ReadStore dirty) b
      by true = refl
      by false = of_both fault_next dirty loads.LoadHead Loaded None refl refl
  load_fault loads.LoadHead runs = refl
  load_fault loads.LoadTail runs = scan_fault found
  load_fault (loads.LoadEntry number) runs = of_both fault_next _ (loads.HoldEntry number) (load.scanning_from m (number + 1)) None refl (scan_fault (number + 1))
  load_fault (loads.HoldEntry number) runs = refl
  load_fault (loads.ReadPiece number) runs = by failed
    where
      by : (b : Bool) → fault_next (if b then loads.ReturnEntry number else load.scanning_from m (number + 1)) ≡ fault_then (loads.ReadPiece number) b
      by true = refl
      by false = scan_fault (number + 1)
  load_fault loads.GiveCleanup runs = refl
  load_fault (loads.ReturnEntry number) runs = refl
  load_fault (GiveBackStore dirty) runs = behind_fault dirty StoreFault
  load_fault (GiveBackCleanup refusal) runs = sym (none_more (device_fault (Some refusal)))
  load_fault Loaded runs = absurd runs
  load_fault (Refused refusal) runs = absurd runs

  load_place : (view : PassView) (control : LoadControl) → load.IsOpen control → place_by (core_op_of view (load_op_at sizes m control failed)) found ≡ None
  load_place view loads.LoadDirty runs = refl
  load_place view loads.TakeCleanup runs = refl
  load_place view (loads.TakeStore dirty) runs = refl
  load_place view (loads.ReadStore dirty) runs = by failed
    where
      by : (b : Bool) → place_by (core_op_of view (load_op_at sizes m (loads.ReadStore dirty) b)) found ≡ None
      by true = refl
      by false = refl
  load_place view loads.LoadHead runs = refl
  load_place view loads.LoadTail runs = refl
  load_place view (loads.LoadEntry number) runs = refl
  load_place view (loads.HoldEntry number) runs = refl
  load_place view (loads.ReadPiece number) runs = by failed
    where
      by : (b : Bool) → place_by (core_op_of view (load_op_at sizes m (loads.ReadPiece number) b)) found ≡ None
      by true = refl
      by false = refl
  load_place view loads.GiveCleanup runs = refl
  load_place view (loads.ReturnEntry number) runs = refl
  load_place view (GiveBackStore dirty) runs = refl
  load_place view (GiveBackCleanup refusal) runs = refl
  load_place view Loaded runs = absurd runs
  load_place view (Refused refusal) runs = absurd runs

  -- of the kind that was said, where the device call before it has not failed
  load_kind : (view : PassView) (control : LoadControl) → fault_then control failed ≡ None → kind_of_op (core_op_of view (load_op_at sizes m control failed)) ≡ kind_of (load_op_at sizes m control false)
  load_kind view (loads.ReadStore dirty) well = by failed well
    where
      by : (b : Bool) → fault_then (loads.ReadStore dirty) b ≡ None → kind_of_op (core_op_of view (load_op_at sizes m (loads.ReadStore dirty) b)) ≡ kind_of (load_op_at sizes m (loads.ReadStore dirty) false)
      by true well = absurd cc
      by false well = refl
  load_kind view (loads.ReadPiece number) well = by failed well
    where
      by : (b : Bool) → fault_then (loads.ReadPiece number) b ≡ None → kind_of_op (core_op_of view (load_op_at sizes m (loads.ReadPiece number) b)) ≡ kind_of (load_op_at sizes m (loads.ReadPiece number) false)
      by true well = absurd cc
      by false well = refl
  load_kind view loads.LoadDirty well = refl
  load_kind view loads.TakeCleanup well = refl
  load_kind view (loads.TakeStore dirty) well = refl
  load_kind view loads.LoadHead well = refl
  load_kind view loads.LoadTail well = refl
  load_kind view (loads.LoadEntry number) well = refl
  load_kind view (loads.HoldEntry number) well = refl
  load_kind view loads.GiveCleanup well = refl
  load_kind view (loads.ReturnEntry number) well = refl
  load_kind view (GiveBackStore dirty) well = refl
  load_kind view (GiveBackCleanup refusal) well = refl
  load_kind view Loaded well = refl
  load_kind view (Refused refusal) well = refl

pub load_tells : (m next : LoadMachine) (now new : PassState) → load.IsOpen m.control → HasStepped m next now new
    → TellsStep device_fault (kind_of (load_op now.view.opened.sizes m false)) (load_refusal_at m.control) (load_refusal_at next.control) None None now new
load_tells m next now new runs is = record {
  step = is.step;
  taken = is.taken;
  kind = λ well. ap kind_of_op is.op ∙ load_kind now.view.opened.sizes m is.failed is.step.found now.view m.control (sym is.fault ∙ well);
  fault = ap (λ (n : LoadMachine). device_fault (load_refusal_at n.control)) is.next ∙ load_fault now.view.opened.sizes m is.failed is.step.found m.control runs
      ∙ ap (either_of (device_fault (load_refusal_at m.control))) (sym is.fault);
  placed = sym (ap (λ op. place_by op is.step.found) is.op ∙ load_place now.view.opened.sizes m is.failed is.step.found now.view m.control runs);
}
