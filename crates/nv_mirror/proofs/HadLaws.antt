-- Had pages: what a pass has of its read's pages, from one step to the next.
use Rattle.std.proofs.Common.{◌≡◌, ◌≢◌, ℕ, ◌==◌, Bool, true, false, if◌then◌else◌, List, [], ◌∷◌, ap, refl, ◌∙◌, arith, ne_eqb}
use Rattle.std.specs.Prelude.{None}
use Rattle.nv_core.specs.state.Words.{Sizes, STORE, ENTRY, PAGE, CLEANUP, slot_of_entry}
use Rattle.nv_core.specs.state.Values.{bytes_in}
use Rattle.nv_core.specs.state.Passes.{Pass, times}
use Rattle.nv_core.specs.state.Core.{values_stepped, values_given}
use Rattle.nv_core.specs.steps.Ops.{Op}
use Rattle.nv_core.specs.steps.Order.{Values, Work, page_bytes}
use Rattle.nv_core.specs.invariant.ControlFacts.{IsPage}
use Rattle.nv_core.proofs.invariant.LockLaws.{times_else}
use Rattle.nv_table.specs.steps.SeatSteps.{AreDue, values_then}
use Rattle.nv_table.specs.state.States.{PassState}
use Rattle.nv_table.specs.state.Views.{pass_of, values_of}
use Rattle.nv_table.specs.steps.StepContracts.{Postcondition}
use Rattle.nv_table.proofs.steps.CallLaws.{IsCallFree, stepped_there}
use Rattle.nv_mirror.specs.declared.load.LoadControl.{LoadControl}
use Rattle.nv_mirror.specs.declared.load.LoadControl.TheVariants.{Loaded, Refused, GiveBackStore, GiveBackCleanup}
use Rattle.nv_mirror.specs.declared.load.LoadControl.TheVariants as loads
use Rattle.nv_mirror.specs.declared.load.LoadMachine.{LoadMachine}
use Rattle.nv_mirror.specs.OwnedCells.{pages_from, with_if}
use Rattle.nv_mirror.specs.Controls.{Reading}
use Rattle.nv_mirror.specs.Loads.{load_call_of, load_control_at, Fits, IsInCall, IsPlain, KeepsOthers, bytes_had, load_locks, load_op_at, load_owned_at}
use Rattle.nv_op.specs.Ops.{core_op_of}
use Rattle.nv_mirror.proofs.LoadLaws.{load_free}
use Rattle.nv_mirror.proofs.CellLaws.{behind_size, page_inside}

-- ---- what a read has of a page

-- it is told by what it has fetched, and by the page's buffer
pub bytes_same : (fetched : List (ℕ × List ℕ)) (values other : Values) (page : ℕ) → other (PAGE page) ≡ values (PAGE page) → page_bytes fetched other page ≡ page_bytes fetched values page
bytes_same [] values other page same = ap bytes_in same
bytes_same (one ∷ rest) values other page same = ap (λ bytes. if one.0 == page then one.1 else bytes) (bytes_same rest values other page same)

-- another page that it fetches tells nothing
pub bytes_else : (fetched : List (ℕ × List ℕ)) (values : Values) (page other : ℕ) (bytes : List ℕ) → other ≢ page → page_bytes ((other, bytes) ∷ fetched) values page ≡ page_bytes fetched values page
bytes_else fetched values page other bytes ne = ap (λ b. if b then bytes else page_bytes fetched values page) (ne_eqb other page ne)

-- ---- its pages are owned

no_store : {page file : ℕ} → PAGE page ≡ STORE file → ⊥
no_store e = cc

no_cleanup : {page other : ℕ} → PAGE page ≡ CLEANUP other → ⊥
no_cleanup e = cc

no_entry : {page slot : ℕ} → PAGE page ≡ ENTRY slot → ⊥
no_entry e = cc

module _ (sizes : Sizes) (m : LoadMachine) (fits : Fits sizes m) (page : ℕ) (own : IsPage sizes (load_call_of m) page) where
  in_locks : times (PAGE page) (load_locks m) ≡ 1
  in_locks =
      behind_size page m.file m.sized (pages_from m.first m.pages)
      ∙ page_inside page m.first m.pages (let low = own.0 in let f = fits.first in omega (arith, low, f)) (let high = own.1 in let f = fits.first in let p = fits.pages in omega (arith, high, f, p))

  behind_cleanup : times (PAGE page) (CLEANUP m.page ∷ load_locks m) ≡ 1
  behind_cleanup = times_else (PAGE page) (CLEANUP m.page) (load_locks m) no_cleanup ∙ in_locks

  behind_if : (dirty : Bool) → times (PAGE page) (with_if dirty (CLEANUP m.page) (load_locks m)) ≡ 1
  behind_if true = behind_cleanup
  behind_if false = in_locks

  behind_store : (dirty : Bool) → times (PAGE page) (STORE m.file ∷ with_if dirty (CLEANUP m.page) (load_locks m)) ≡ 1
  behind_store dirty = times_else (PAGE page) (STORE m.file) (with_if dirty (CLEANUP m.page) (load_locks m)) no_store ∙ behind_if dirty

  behind_entry : (number : ℕ) → times (PAGE page) (ENTRY (slot_of_entry sizes number) ∷ CLEANUP m.page ∷ load_locks m) ≡ 1
  behind_entry number = times_else (PAGE page) (ENTRY (slot_of_entry sizes number)) (CLEANUP m.page ∷ load_locks m) no_entry ∙ behind_cleanup

  -- each page of the read once, wherever the load stands
  pub page_once : (control : LoadControl) → times (PAGE page) (load_owned_at sizes m control) ≡ 1
  page_once loads.LoadDirty = in_locks
  page_once loads.TakeCleanup = in_locks
  page_once (loads.TakeStore dirty) = behind_if dirty
  page_once (loads.ReadStore dirty) = behind_store dirty
  page_once loads.LoadHead = behind_cleanup
  page_once loads.LoadTail = behind_cleanup
  page_once (loads.LoadEntry number) = behind_cleanup
  page_once (loads.HoldEntry number) = behind_cleanup
  page_once (loads.ReadPiece number) = behind_entry number
  page_once loads.GiveCleanup = behind_cleanup
  page_once (loads.ReturnEntry number) = behind_entry number
  page_once (GiveBackStore dirty) = behind_store dirty
  page_once (GiveBackCleanup refusal) = behind_cleanup
  page_once Loaded = in_locks
  page_once (Refused refusal) = in_locks

-- ---- a step keeps it

pub no_works : (sizes : Sizes) (values : Values) (pass : Pass) (works : List Work) → IsCallFree pass.control → AreDue sizes values pass works → works ≡ []
no_works sizes values pass [] free due = refl
no_works sizes values pass (work ∷ later) free due = absurd (free sizes values pass work due.0.due)

module _ (m : LoadMachine) (control : LoadControl) (room : List ℕ) (start now : PassState) (fits : Fits now.view.opened.sizes m) (way : IsInCall m control room start now) where
  pub held_once : (page : ℕ) → IsPage now.view.opened.sizes (load_call_of m) page → times (PAGE page) (pass_of now.view).owned ≡ 1
  held_once page own = ap (λ (r : Reading). times (PAGE page) r.mirrored_control.owned) way.called.mirrors ∙ page_once now.view.opened.sizes m fits page own control

  -- where it leaves what the page's cell keeps, and what was fetched of it
  pub had_by : (before new : PassState) (op : Op) (found : ℕ) → before.view ≡ now.view → (is : Postcondition before None op found new) → (page : ℕ) → IsPage now.view.opened.sizes (load_call_of m) page
      → values_then before.view None op is.works (PAGE page) ≡ values_of before.view (PAGE page)
      → ((values : Values) → page_bytes (pass_of new.view).fetched values page ≡ page_bytes (pass_of before.view).fetched values page) → bytes_had new page ≡ bytes_had now page
  had_by before new op found same is page own kept fetched =
      fetched (values_of new.view)
      ∙ bytes_same (pass_of before.view).fetched (values_of before.view) (values_of new.view) page
      (is.kept (PAGE page) (λ none. let once = held_once page own in let there = ap (λ v. times (PAGE page) (pass_of v).owned) same in omega (arith, once, there, none)) ∙ kept)
      ∙ ap (λ v. page_bytes (pass_of v).fetched (values_of v) page) same

  -- a step before which nothing else comes
  pub plain_keeps : IsPlain control → (op : Op) (found : ℕ) (new : PassState) → Postcondition now None op found new → ((kept : Values) → values_stepped now.view.opened.sizes (pass_of now.view) op kept ≡ kept) → KeepsOthers m now new
  plain_keeps plain op found new is same page own other =
      let free = load_free m room start now control plain way in
      let none = no_works now.view.opened.sizes (values_of now.view) (pass_of now.view) is.works free is.due in
      had_by now new op found refl is page own (ap (λ works. values_then now.view None op works (PAGE page)) none ∙ ap (λ (values : Values). values (PAGE page)) (same (values_of now.view)))
      (λ values. ap (λ (p : Pass). page_bytes p.fetched values page) (stepped_there now new None op found free is))

  -- what the cells keep is the same
  pub plain_values : IsPlain control → (kept : Values) → values_stepped now.view.opened.sizes (pass_of now.view) (core_op_of now.view (load_op_at now.view.opened.sizes m control false)) kept ≡ kept
  plain_values plain kept = go control plain (ap (λ (r : Reading). r.mirrored_control.control) way.called.mirrors)
    where
      go : (at : LoadControl) → IsPlain at → (pass_of now.view).control ≡ load_control_at m way.before at
          → values_stepped now.view.opened.sizes (pass_of now.view) (core_op_of now.view (load_op_at now.view.opened.sizes m at false)) kept ≡ kept
      go loads.LoadDirty plain is = refl
      go loads.TakeCleanup plain is = refl
      go (loads.TakeStore dirty) plain is = refl
      go loads.LoadHead plain is = refl
      go loads.LoadTail plain is = refl
      go (loads.LoadEntry number) plain is = refl
      go (loads.HoldEntry number) plain is = refl
      go (loads.ReturnEntry number) plain is = refl
      go (GiveBackStore dirty) plain is = ap (λ there. values_given (pass_of now.view) there kept) is
      go (GiveBackCleanup refusal) plain is = ap (λ there. values_given (pass_of now.view) there kept) is
      go (loads.ReadStore dirty) plain is = absurd plain
      go (loads.ReadPiece number) plain is = absurd plain
      go loads.GiveCleanup plain is = absurd plain
      go Loaded plain is = absurd plain
      go (Refused refusal) plain is = absurd plain
