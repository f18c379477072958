-- Load answers: each step of a load tells why it isn't loaded, or goes on.
use Rattle.std.proofs.Common.{◌≡◌, ℕ, ◌+◌, ◌==◌, nat_lt, Bool, true, false, if◌then◌else◌, List, [], ◌∷◌, inl, inr, refl, sym, ap, subst, ◌∙◌}
use Rattle.std.specs.Prelude.{Option, Some, None}
use Rattle.nv_core.specs.invariant.ControlFacts.{IsPage}
use Rattle.nv_core.specs.state.Words.{Sizes, CLEANUP, STORE, place, ready, is_entry_of}
use Rattle.nv_core.specs.steps.Order.{Work}
use Rattle.nv_table.specs.state.Opened.{Opened}
use Rattle.nv_table.specs.state.States.{PassState}
use Rattle.nv_table.specs.state.Views.{PassView}
use Rattle.nv_op.specs.Ops.{core_op_of}
use Rattle.nv_mirror.specs.declared.answers.Refusal.{Refusal}
use Rattle.nv_mirror.specs.declared.answers.Refusal.TheVariants.{Busy, StoreFault}
use Rattle.nv_mirror.specs.declared.load.LoadControl.{LoadControl}
use Rattle.nv_mirror.specs.declared.load.LoadControl.TheVariants.{Loaded, Refused, GiveBackStore, GiveBackCleanup}
use Rattle.nv_mirror.specs.declared.load.LoadControl.TheVariants as loads
use Rattle.nv_mirror.specs.declared.load.LoadMachine.{LoadMachine}
use Rattle.nv_mirror.specs.LoadAnswers.{HasRun, IsCaused}
use Rattle.nv_mirror.specs.Loads.{HasStepped, IsOpen, KeepsOthers, behind_store, fault_then, load_call_of, load_control_then, load_op_at, load_refusal_at, scanning_from}
use Rattle.nv_mirror.specs.PassSteps.{PassStep, HasMade, either_of, fault_in, head_in, refused_by}
use Rattle.nv_mirror.proofs.PartLaws.{of_both}
use Rattle.nv_mirror.proofs.ReadParts.{load_still, taken_opened}

module _ (sizes : Sizes) (m : LoadMachine) (failed : Bool) (found : ℕ) where
  behind_refused : (dirty : Bool) (refusal : Refusal) → load_refusal_at (behind_store dirty refusal) ≡ Some refusal
  behind_refused true refusal = refl
  behind_refused false refusal = refl

  scan_refused : (number : ℕ) → load_refusal_at (scanning_from m number) ≡ None
  scan_refused number = of_both load_refusal_at (nat_lt number m.head) (loads.LoadEntry number) loads.GiveCleanup None refl refl

  -- why it isn't loaded behind a step is told by that, or was told before
  load_refuses : (view : PassView) (head : ℕ) (works : List Work) (control : LoadControl) → IsOpen control → fault_in works ≡ fault_then control failed
      → either_of (load_refusal_at control) (refused_by sizes (load_call_of m) head works (core_op_of view (load_op_at sizes m control failed)) found) ≡ load_refusal_at (load_control_then sizes m control failed found)
  load_refuses view head works loads.LoadDirty runs fault = sym (of_both load_refusal_at (found == 0) (loads.TakeStore false) loads.TakeCleanup None refl refl)
  load_refuses view head works loads.TakeCleanup runs fault = by (found == 0)
    where
      by : (b : Bool) → (if b then None else Some (Busy (place sizes (CLEANUP m.page)))) ≡ load_refusal_at (if b then loads.TakeStore true else Refused (Busy (place sizes (CLEANUP m.page))))
      by true = refl
      by false = refl
  load_refuses view head works (loads.TakeStore dirty) runs fault = by (found == 0)
    where
      by : (b : Bool) → (if b then None else Some (Busy (place sizes (STORE m.file)))) ≡ load_refusal_at (if b then loads.ReadStore dirty else behind_store dirty (Busy (place sizes (STORE m.file))))
      by true = refl
      by false = sym (behind_refused dirty (Busy (place sizes (STORE m.file))))
  load_refuses view head works (loads.ReadStore dirty) runs fault = by failed fault
    where
      by : (b : Bool) → fault_in works ≡ fault_then (loads.ReadStore dirty) b → refused_by sizes (load_call_of m) head works (core_op_of view (load_op_at sizes m (loads.ReadStore dirty) b)) found ≡ load_refusal_at (load_control_then sizes m (loads.ReadStore dirty) b found)
      by true fault = fault
      by false fault = sym (of_both load_refusal_at dirty loads.LoadHead Loaded None refl refl)
  load_refuses view head works loads.LoadHead runs fault = refl
  load_refuses view head works loads.LoadTail runs fault = sym (scan_refused found)
  load_refuses view head works (loads.LoadEntry number) runs fault = sym (of_both load_refusal_at (is_entry_of ready m.page found) (loads.HoldEntry number) (scanning_from m (number + 1)) None refl (scan_refused (number + 1)))
  load_refuses view head works (loads.HoldEntry number) runs fault = refl
  load_refuses view head works (loads.ReadPiece number) runs fault = by failed fault
    where
      by : (b : Bool) → fault_in works ≡ fault_then (loads.ReadPiece number) b → refused_by sizes (load_call_of m) head works (core_op_of view (load_op_at sizes m (loads.ReadPiece number) b)) found ≡ load_refusal_at (load_control_then sizes m (loads.ReadPiece number) b found)
      by true fault = fault
      by false fault = sym (scan_refused (number + 1))
  load_refuses view head works loads.GiveCleanup runs fault = refl
  load_refuses view head works (loads.ReturnEntry number) runs fault = refl
  load_refuses view head works (GiveBackStore dirty) runs fault = sym (behind_refused dirty StoreFault)
  load_refuses view head works (GiveBackCleanup refusal) runs fault = refl
  load_refuses view head works Loaded runs fault = absurd runs
  load_refuses view head works (Refused refusal) runs fault = absurd runs

  -- and it is one of its causes
  caused : (refusal : Option Refusal) (control : LoadControl) → load_refusal_at control ≡ refusal → IsCaused sizes m refusal → IsCaused sizes m (load_refusal_at control)
  caused refusal control is cause = subst (IsCaused sizes m) (sym is) cause

  load_caused : (control : LoadControl) → IsOpen control → IsCaused sizes m (load_refusal_at control) → IsCaused sizes m (load_refusal_at (load_control_then sizes m control failed found))
  load_caused loads.LoadDirty runs cause = caused None _ (of_both load_refusal_at (found == 0) (loads.TakeStore false) loads.TakeCleanup None refl refl) tt
  load_caused loads.TakeCleanup runs cause = by (found == 0)
    where
      by : (b : Bool) → IsCaused sizes m (load_refusal_at (if b then loads.TakeStore true else Refused (Busy (place sizes (CLEANUP m.page)))))
      by true = tt
      by false = inl refl
  load_caused (loads.TakeStore dirty) runs cause = by (found == 0)
    where
      by : (b : Bool) → IsCaused sizes m (load_refusal_at (if b then loads.ReadStore dirty else behind_store dirty (Busy (place sizes (STORE m.file)))))
      by true = tt
      by false = caused (Some (Busy (place sizes (STORE m.file)))) _ (behind_refused dirty (Busy (place sizes (STORE m.file)))) (inr refl)
  load_caused (loads.ReadStore dirty) runs cause = by failed
    where
      by : (b : Bool) → IsCaused sizes m (load_refusal_at (if b then GiveBackStore dirty else (if dirty then loads.LoadHead else Loaded)))
      by true = tt
      by false = caused None _ (of_both load_refusal_at dirty loads.LoadHead Loaded None refl refl) tt
  load_caused loads.LoadHead runs cause = tt
  load_caused loads.LoadTail runs cause = caused None _ (scan_refused found) tt
  load_caused (loads.LoadEntry number) runs cause = caused None _ (of_both load_refusal_at (is_entry_of ready m.page found) (loads.HoldEntry number) (scanning_from m (number + 1)) None refl (scan_refused (number + 1))) tt
  load_caused (loads.HoldEntry number) runs cause = tt
  load_caused (loads.ReadPiece number) runs cause = by failed
    where
      by : (b : Bool) → IsCaused sizes m (load_refusal_at (if b then loads.ReturnEntry number else scanning_from m (number + 1)))
      by true = tt
      by false = caused None _ (scan_refused (number + 1)) tt
  load_caused loads.GiveCleanup runs cause = tt
  load_caused (loads.ReturnEntry number) runs cause = tt
  load_caused (GiveBackStore dirty) runs cause = caused (Some StoreFault) _ (behind_refused dirty StoreFault) tt
  load_caused (GiveBackCleanup refusal) runs cause = cause
  load_caused Loaded runs cause = absurd runs
  load_caused (Refused refusal) runs cause = absurd runs

-- ---- all its steps

-- it has made none yet
pub run_begins : (m : LoadMachine) (now : PassState) → m.control ≡ loads.LoadDirty → HasRun m m now now
run_begins m now at = record {
  steps = [];
  made = refl;
  refused = sym (ap load_refusal_at at);
  cause = subst (IsCaused now.view.opened.sizes m) (sym (ap load_refusal_at at)) tt;
  same = refl;
  others = λ page own other. refl;
}

made_opened : (steps : List PassStep) (was now : PassState) → HasMade steps was now → now.view.opened ≡ was.view.opened
made_opened [] was now made = ap (λ (p : PassState). p.view.opened) made
made_opened (step ∷ earlier) was now made = taken_opened step made.0 now made.2 ∙ made_opened earlier was made.0 made.1

pub run_on : (m one next : LoadMachine) (was now new : PassState) → HasRun m one was now → IsOpen one.control → HasStepped one next now new → KeepsOthers one now new → HasRun m next was new
run_on m one next was now new run runs is keeps =
    let sizes = was.view.opened.sizes in
    let opened = made_opened run.steps was now run.made in
    let same_call : load_call_of one ≡ load_call_of m = ap load_call_of run.same in
    let at_sizes = ap (λ (o : Opened). o.sizes) opened in
    let next_is : next.control ≡ load_control_then sizes one one.control is.failed is.step.found =
    ap (λ (l : LoadMachine). l.control) is.next ∙ ap (λ s. load_control_then s one one.control is.failed is.step.found) at_sizes in
    let op_is = is.op ∙ ap (λ s. core_op_of now.view (load_op_at s one one.control is.failed)) at_sizes in
    record {
      steps = is.step ∷ run.steps;
      made = (now, run.made, is.taken);
      refused =
          ap (λ r. either_of r (refused_by sizes (load_call_of m) (head_in run.steps) is.step.works is.step.op is.step.found)) run.refused
          ∙ ap (λ op. either_of (load_refusal_at one.control) (refused_by sizes (load_call_of m) (head_in run.steps) is.step.works op is.step.found)) op_is
          ∙ ap (λ call. either_of (load_refusal_at one.control) (refused_by sizes call (head_in run.steps) is.step.works (core_op_of now.view (load_op_at sizes one one.control is.failed)) is.step.found)) (sym same_call)
          ∙ load_refuses sizes one is.failed is.step.found now.view (head_in run.steps) is.step.works one.control runs is.fault
          ∙ ap load_refusal_at (sym next_is);
      cause = subst (λ control. IsCaused sizes m (load_refusal_at control)) (sym next_is)
          (subst (λ (l : LoadMachine). IsCaused sizes l (load_refusal_at (load_control_then sizes one one.control is.failed is.step.found))) run.same
          (load_caused sizes one is.failed is.step.found one.control runs (subst (λ (l : LoadMachine). IsCaused sizes l (load_refusal_at one.control)) (sym run.same) run.cause)));
      same = load_still m one next now new is run.same;
      others = λ page own other.
          keeps page (subst (λ (o : Opened). IsPage o.sizes (load_call_of one) page) (sym opened) (subst (λ c. IsPage sizes c page) (sym same_call) own)) (λ e. other (e ∙ ap (λ (l : LoadMachine). l.page) run.same))
          ∙ run.others page own other;
    }
