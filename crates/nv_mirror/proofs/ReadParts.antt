-- Read parts: what stays of a read as one of its parts makes a step.
use Rattle.std.proofs.Common.{◌≡◌, ℕ, List, refl, sym, ap, subst, ◌∙◌}
use Rattle.std.specs.Prelude.{None}
use Rattle.nv_core.specs.state.Passes.{Pass}
use Rattle.nv_core.specs.state.Words.{Word}
use Rattle.nv_core.specs.steps.Ops.{Give}
use Rattle.nv_plain.specs.declared.call.FileCall.{FileCall}
use Rattle.nv_table.specs.state.States.{PassState}
use Rattle.nv_table.specs.state.Views.{PassView, pass_of}
use Rattle.nv_table.specs.steps.StepContracts.{Postcondition}
use Rattle.nv_table.proofs.invariant.DrawnLaws.{calls_leave}
use Rattle.nv_core.specs.steps.PassSteps.{stepped}
use Rattle.nv_mirror.specs.declared.answers.Done.{Done}
use Rattle.nv_mirror.specs.declared.load.LoadControl.{LoadControl}
use Rattle.nv_mirror.specs.declared.load.LoadControl.TheVariants as loads
use Rattle.nv_mirror.specs.declared.load.LoadMachine.{LoadMachine}
use Rattle.nv_mirror.specs.declared.visit.VisitMachine.{VisitMachine}
use Rattle.nv_mirror.specs.Answers.{IsListPlaced}
use Rattle.nv_mirror.specs.Loads.{HasStepped, load_after, load_noted}
use Rattle.nv_mirror.specs.PassSteps.{PassStep, HasTaken}
use Rattle.nv_mirror.specs.Visits.{IsLoadOf, load_of}
use Rattle.nv_mirror.proofs.StepLaws.{opened_same}

-- the mount is the same behind a step with the device calls before it
pub taken_opened : (step : PassStep) (old new : PassState) → HasTaken step old new → new.view.opened ≡ old.view.opened
taken_opened step old new taken = opened_same taken.before new step.opens step.op step.found taken.stepped ∙ ap (λ (v : PassView). v.opened) taken.between.view

-- a load is that of the same page all along
noted_same : (load : LoadMachine) (control : LoadControl) (found : ℕ) → load_noted load control found ≡ record load { head = (load_noted load control found).head }
noted_same load loads.LoadHead found = refl
noted_same load loads.LoadDirty found = refl
noted_same load loads.TakeCleanup found = refl
noted_same load (loads.TakeStore dirty) found = refl
noted_same load (loads.ReadStore dirty) found = refl
noted_same load loads.LoadTail found = refl
noted_same load (loads.LoadEntry number) found = refl
noted_same load (loads.HoldEntry number) found = refl
noted_same load (loads.ReadPiece number) found = refl
noted_same load loads.GiveCleanup found = refl
noted_same load loads.Loaded found = refl
noted_same load (loads.ReturnEntry number) found = refl
noted_same load (loads.GiveBackStore dirty) found = refl
noted_same load (loads.GiveBackCleanup refusal) found = refl
noted_same load (loads.Refused refusal) found = refl

pub load_still : (first old new : LoadMachine) (was now : PassState) → HasStepped old new was now → old ≡ record first { head = old.head; control = old.control } → new ≡ record first { head = new.head; control = new.control }
load_still first old new was now stepped is =
    subst (λ (n : LoadMachine). n ≡ record first { head = n.head; control = n.control }) (sym stepped.next)
    (ap (λ (l : LoadMachine). record l { control = (load_after was.view.opened.sizes old stepped.failed stepped.step.found).control }) (noted_same old old.control stepped.step.found)
    ∙ ap (λ (l : LoadMachine). record l { head = (load_noted old old.control stepped.step.found).head; control = (load_after was.view.opened.sizes old stepped.failed stepped.step.found).control }) is)

pub load_of_still : (visit : VisitMachine) (old new : LoadMachine) (was now : PassState) → HasStepped old new was now → IsLoadOf old visit → IsLoadOf new visit
load_of_still visit old new was now stepped is = load_still (load_of visit) old new was now stepped is

-- what a placed read has told stays, where it gives something back
pub told_still : (asked : FileCall) (list : List ℕ) (start was now : PassState) (done : Done) (cell : Word) (found : ℕ) → Postcondition was None (Give cell) found now → IsListPlaced asked list start.view was.view done → IsListPlaced asked list start.view now.view done
told_still asked list start was now done cell found step told = record {
  bytes = told.bytes;
  rest = told.rest;
  list_is = told.list_is;
  count = told.count;
  placed = record {
    before = told.placed.before;
    begins = told.placed.begins;
    at = told.placed.at;
    seen = ap (λ (p : Pass). p.seen) step.pass ∙ calls_leave (λ (p : Pass). p.seen) (λ sizes work p. refl) was.view.opened.sizes step.works (pass_of was.view) ∙ told.placed.seen;
    mine = ap (λ (p : Pass). p.mine) step.pass ∙ calls_leave (λ (p : Pass). p.mine) (λ sizes work p. refl) was.view.opened.sizes step.works (pass_of was.view) ∙ told.placed.mine;
    plain = told.placed.plain;
  };
}
