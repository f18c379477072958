-- Load works: the steps of a page's load behind the read of a device, or behind the filling of the page's buffer.
use Rattle.std.proofs.Common.{◌≡◌, ◌≢◌, ℕ, zero, suc, ◌+◌, ◌%◌, ◌==◌, nat_lt, Bool, true, false, if◌then◌else◌, List, [], ◌∷◌, refl, sym, ap, ap₂, subst, ◌∙◌}
use Rattle.std.specs.Prelude.{Some, None}
use Rattle.std.proofs.lemmas.Bool.{ltb-true}
use Rattle.nv_plain.specs.Files.{overwritten}
use Rattle.nv_plain.specs.Histories.{Answered}
use Rattle.nv_core.specs.state.Words.{Sizes, Word, SIZE, STORE, ENTRY, PAGE, CLEANUP, same, slot_of_entry}
use Rattle.nv_core.specs.state.Values.{PageRead, PieceRead, Made, Failed, called, filled}
use Rattle.nv_core.specs.state.Passes.{Pass, VisitPage, ReadLoadHead, LoadEntry, ReadPiece, ReturnEntry, GiveCleanup, fetched_bytes, times}
use Rattle.nv_core.specs.state.Core.{control_worked, values_given, values_worked, with_value, worked}
use Rattle.nv_core.specs.steps.Ops.{Op, Give, Return, Stop}
use Rattle.nv_core.specs.steps.Order.{Values, Work, CallDue, CallEnabled, SaysOf, next_step, page_bytes, page_start}
use Rattle.nv_core.specs.steps.PassSteps.{stepped, left_after, mine_after}
use Rattle.nv_core.specs.invariant.Shapes.{IsStore}
use Rattle.nv_core.proofs.invariant.LockLaws.{times_here, times_else}
use Rattle.nv_core.proofs.state.Changes.{by_word, number_self, word_else}
use Rattle.nv_table.specs.steps.SeatSteps.{pass_worked, values_before, values_then}
use Rattle.nv_table.specs.state.Opened.{Opened}
use Rattle.nv_table.specs.state.States.{PassState}
use Rattle.nv_table.specs.state.Views.{PassView, pass_of, values_of, still_owned, slot_times}
use Rattle.nv_table.specs.steps.CallSteps.{Precondition}
use Rattle.nv_table.specs.steps.StepContracts.{Postcondition}
use Rattle.nv_table.proofs.steps.CallLaws.{IsCallFree}
use Rattle.nv_table.proofs.steps.OwnedSlotLaws.{owns_slots_kept}
use Rattle.nv_table.proofs.state.LayoutLaws.{cell_there}
use Rattle.nv_pages.specs.Altered.{IsAltered}
use Rattle.nv_pages.specs.PageWork.{HasFailedCall, store_slot, with_page}
use Rattle.nv_op.specs.Ops.{core_op_of}
use Rattle.nv_mirror.specs.declared.load.LoadControl.{LoadControl}
use Rattle.nv_mirror.specs.declared.load.LoadControl.TheVariants.{Loaded, GiveBackStore}
use Rattle.nv_mirror.specs.declared.load.LoadControl.TheVariants as loads
use Rattle.nv_mirror.specs.declared.load.LoadMachine.{LoadMachine}
use Rattle.nv_mirror.specs.OwnSteps.{is_own}
use Rattle.nv_mirror.specs.OwnedCells.{pages_from, with_if}
use Rattle.nv_mirror.specs.PageReads.{HasFailedPageRead, page_read}
use Rattle.nv_mirror.specs.PieceReads.{HasFailedPieceRead, piece_read}
use Rattle.nv_mirror.specs.PassSteps.{IsBetweenSteps, either_of, fault_in, head_in, place_by, refused_by}
use Rattle.nv_mirror.specs.Controls.{Reading, readings, reading_of, with_reading, InCall}
use Rattle.nv_mirror.specs.Loads.{load_call_of, fault_then, Fits, FitsAt, HasStepped, IsInCall, IsMissed, IsUnderWay, KeepsOthers, Before, load_after, load_locks, load_mirror_at, load_op, load_refusal_at, scanning_from, values_fetched}
use Rattle.nv_mirror.proofs.HadLaws.{bytes_else, had_by, no_works}
use Rattle.nv_mirror.proofs.LoadLaws.{at}
use Rattle.nv_mirror.proofs.OwnedLaws.{slot_still_owned}
use Rattle.nv_mirror.proofs.PageLaws.{without_first}
use Rattle.nv_mirror.proofs.StepLaws.{opened_same, taken_by}
use Rattle.nv_mirror.proofs.StoreReadLaws.{may_end, may_leave, called_same, fail_end, fail_leave, called_any, bytes_said}
use Rattle.nv_mirror.proofs.WorkedLaws.{worked_due, worked_on, worked_told}

-- one that is under way, as at its control state
pub at_control : {m : LoadMachine} {control : LoadControl} {room : List ℕ} {start now : PassState} → IsUnderWay m room start now → m.control ≡ control → IsInCall m control room start now
at_control {m = m} {room = room} {start = start} {now = now} way at = subst (λ control. IsInCall m control room start now) at way.1

-- where its page begins, by a layout of the mount
pub from_is : (m : LoadMachine) (layout sizes : Sizes) (from : ℕ) → layout ≡ sizes → from ≡ page_start layout (load_call_of m) m.page → from ≡ page_start sizes (load_call_of m) m.page
from_is m layout sizes from same is = is ∙ ap (λ s. page_start s (load_call_of m) m.page) same

-- ---- each such step

pub between_by : (change : Values → Values) (old mid : PassState) → IsAltered change old mid → IsBetweenSteps old mid
between_by change old mid is = record { table = is.table; view = is.view; spare = is.spare }

module _ (m : LoadMachine) (control : LoadControl) (room : List ℕ) (start now : PassState) (way : IsInCall m control room start now) where
  abbrev here : Sizes
  here = now.view.opened.sizes

  abbrev is : Reading
  is = load_mirror_at here m room way.before control

  -- what is so of each pass that is what the machine has at hand is so of its own
  of_pass : (P : Pass → Type 0) → ((pass : Pass) → P (with_reading is pass)) → P (pass_of now.view)
  of_pass P all = subst P (subst (λ r. with_reading r (pass_of now.view) ≡ pass_of now.view) way.called.mirrors refl) (all (pass_of now.view))

  module _ (mid new : PassState) (between : IsBetweenSteps now mid) (works : List Work) (op : Op) (found : ℕ) (step : Postcondition mid None op found new) (told : step.works ≡ works) where
    opened : new.view.opened ≡ now.view.opened
    opened = opened_same mid new None op found step ∙ ap (λ (v : PassView). v.opened) between.view

    -- the machine goes on with the core
    works_on : (next_control : LoadControl) (room_then : List ℕ) (before : Before) → Fits here m → FitsAt m next_control
        → ((pass : Pass) (number : ℕ) (history : List Answered)
        → reading_of (stepped here number history op found (pass_worked here works (with_reading is pass))) ≡ load_mirror_at here (record m { control = next_control }) room_then before next_control)
        → ((pass : Pass) → left_after pass op ≡ pass.left)
        → either_of (load_refusal_at control) (refused_by here (load_call_of m) (head_in way.called.steps) works op found) ≡ load_refusal_at next_control → place_by op found ≡ None → is_own (load_call_of m) (load_refusal_at control) op ≡ true
        → ((sizes : Sizes) (number : ℕ) (history : List Answered) (pass : Pass) → (stepped sizes number history op found pass).seen ≡ pass.seen)
        → ((pass : Pass) (number : ℕ) → mine_after number pass op ≡ pass.mine) → ((state : PassState) → IsMissed (record m { control = next_control }) next_control state)
        → IsUnderWay (record m { control = next_control }) room_then start new
    works_on next_control room_then before fits stands goes leaves refuses places may seen mine missed = (
      subst (λ (o : Opened). Fits o.sizes next) (sym opened) record { allowed = fits.allowed; some = fits.some; first = fits.first; pages = fits.pages; own = fits.own; stands = stands },
      record {
        before = before;
        called = subst (λ (o : Opened). InCall readings (load_call_of m) None (load_mirror_at o.sizes next room_then before next_control) (load_refusal_at next_control) None start new) (sym opened)
            (worked_on readings (load_call_of m) is (load_refusal_at control) None start now mid way.called between op found new step (load_mirror_at here next room_then before next_control) (load_refusal_at next_control) None
            (λ number history mirrors.
            ap (λ w. reading_of (stepped mid.view.opened.sizes number history op found (pass_worked mid.view.opened.sizes w (pass_of mid.view)))) told
            ∙ ap (λ (v : PassView). reading_of (stepped v.opened.sizes number history op found (pass_worked v.opened.sizes works (pass_of v)))) between.view
            ∙ of_pass (λ p. reading_of (stepped here number history op found (pass_worked here works p)) ≡ load_mirror_at here next room_then before next_control) (λ pass. goes pass number history))
            leaves (ap (λ w. either_of (load_refusal_at control) (refused_by here (load_call_of m) (head_in way.called.steps) w op found)) told ∙ refuses) places may
            (worked_told readings (load_call_of m) is (load_refusal_at control) None start now mid way.called between op found new step seen mine));
        missed = missed new;
      },
    )
      where
        next : LoadMachine
        next = record m { control = next_control }

    -- what the read has of its other pages
    works_keep : Fits here m → ((p : ℕ) → p ≢ m.page → values_then now.view None op works (PAGE p) ≡ values_of now.view (PAGE p))
        → ((pass : Pass) (p : ℕ) (values : Values) → p ≢ m.page → page_bytes (pass_worked here works (with_reading is pass)).fetched values p ≡ page_bytes is.fetched values p) → KeepsOthers m now new
    works_keep fits kept fetched page own other =
        had_by m control room start now fits way mid new op found between.view step page own
        (ap (λ w. values_then mid.view None op w (PAGE page)) told ∙ ap (λ (v : PassView). values_then v None op works (PAGE page)) between.view ∙ kept page other
        ∙ sym (ap (λ (v : PassView). values_of v (PAGE page)) between.view))
        (λ values.
        ap (λ (p : Pass). page_bytes p.fetched values page) step.pass
        ∙ ap (λ w. page_bytes (pass_worked mid.view.opened.sizes w (pass_of mid.view)).fetched values page) told
        ∙ ap (λ (v : PassView). page_bytes (pass_worked v.opened.sizes works (pass_of v)).fetched values page) between.view
        ∙ of_pass (λ p. page_bytes (pass_worked here works p).fetched values page ≡ page_bytes p.fetched values page) (λ pass. fetched pass page values other)
        ∙ sym (ap (λ (v : PassView). page_bytes (pass_of v).fetched values page) between.view))

    -- it is the machine's next step
    pub works_stepped : (failed : Bool) (next : LoadMachine) → op ≡ core_op_of now.view (load_op here m failed) → fault_in works ≡ fault_then m.control failed → next ≡ load_after here m failed found → HasStepped m next now new
    works_stepped failed next op_is fault_is next_is = record {
      failed = failed;
      step = record { opens = None; works = step.works; op = op; found = found };
      taken = taken_by now mid new None op found between step;
      opens = refl;
      op = op_is;
      fault = ap fault_in told ∙ fault_is;
      next = next_is;
    }

-- ---- among its owned cells

pages_none : (cell : Word) (first count : ℕ) → ((page : ℕ) → cell ≢ PAGE page) → times cell (pages_from first count) ≡ 0
pages_none cell first zero ne = refl
pages_none cell first (suc count) ne = times_else cell (PAGE (first + count)) (pages_from first count) (ne (first + count)) ∙ pages_none cell first count ne

locks_none : (cell : Word) (m : LoadMachine) (sized : Bool) → ((page : ℕ) → cell ≢ PAGE page) → ((file : ℕ) → cell ≢ SIZE file) → times cell (with_if sized (SIZE m.file) (pages_from m.first m.pages)) ≡ 0
locks_none cell m true page size = times_else cell (SIZE m.file) (pages_from m.first m.pages) (size m.file) ∙ pages_none cell m.first m.pages page
locks_none cell m false page size = pages_none cell m.first m.pages page

store_alone : (m : LoadMachine) (dirty : Bool) → times (STORE m.file) (with_if dirty (CLEANUP m.page) (load_locks m)) ≡ 0
store_alone m dirty = by dirty
  where
    no_page : (page : ℕ) → STORE m.file ≡ PAGE page → ⊥
    no_page page e = cc

    no_size : (file : ℕ) → STORE m.file ≡ SIZE file → ⊥
    no_size file e = cc

    no_cleanup : STORE m.file ≡ CLEANUP m.page → ⊥
    no_cleanup e = cc

    by : (d : Bool) → times (STORE m.file) (with_if d (CLEANUP m.page) (load_locks m)) ≡ 0
    by true = times_else (STORE m.file) (CLEANUP m.page) (load_locks m) no_cleanup ∙ locks_none (STORE m.file) m m.sized no_page no_size
    by false = locks_none (STORE m.file) m m.sized no_page no_size

entry_alone : (slot : ℕ) (m : LoadMachine) → times (ENTRY slot) (CLEANUP m.page ∷ load_locks m) ≡ 0
entry_alone slot m = times_else (ENTRY slot) (CLEANUP m.page) (load_locks m) no_cleanup ∙ locks_none (ENTRY slot) m m.sized no_page no_size
  where
    no_page : (page : ℕ) → ENTRY slot ≡ PAGE page → ⊥
    no_page page e = cc

    no_size : (file : ℕ) → ENTRY slot ≡ SIZE file → ⊥
    no_size file e = cc

    no_cleanup : ENTRY slot ≡ CLEANUP m.page → ⊥
    no_cleanup e = cc

page_is : {one other : ℕ} → PAGE one ≡ PAGE other → one ≡ other
page_is e = cc

no_store : {page file : ℕ} → PAGE page ≡ STORE file → ⊥
no_store e = cc

no_entry : {page slot : ℕ} → PAGE page ≡ ENTRY slot → ⊥
no_entry e = cc

-- ---- the store is read

module _ (m : LoadMachine) (dirty : Bool) (room : List ℕ) (start now : PassState) (fits : Fits now.view.opened.sizes m) (way : IsInCall m (loads.ReadStore dirty) room start now) where
  abbrev sizes : Sizes
  sizes = now.view.opened.sizes

  abbrev from : ℕ
  from = page_start sizes (load_call_of m) m.page

  abbrev read : List ℕ → Work
  read bytes = record { cell = STORE m.file; job = PageRead from bytes; ending = Made }

  store_once : times (STORE m.file) (pass_of now.view).owned ≡ 1
  store_once =
      ap (λ (r : Reading). times (STORE m.file) r.mirrored_control.owned) way.called.mirrors
      ∙ times_here (STORE m.file) (with_if dirty (CLEANUP m.page) (load_locks m)) ∙ ap (λ n. 1 + n) (store_alone m dirty)

  pub store_slot_once : slot_times (store_slot sizes m.file) now.now ≡ 1
  store_slot_once =
      let there = cell_there sizes (STORE m.file) (store_slot sizes m.file) fits.allowed.known refl in
      slot_still_owned now (store_slot sizes m.file) (STORE m.file) way.called.still way.called.left there.0 there.1 ∙ store_once

  module _ (store : IsStore (values_of now.view (STORE m.file))) where
    same_values : (bytes : List ℕ) (cell : Word) → with_value (values_of now.view) (STORE m.file) (called (PageRead from bytes) Made (values_of now.view (STORE m.file))) cell ≡ values_of now.view cell
    same_values bytes cell =
        by_word (λ other v. v ≡ values_of now.view other) (values_of now.view) (STORE m.file) (called (PageRead from bytes) Made (values_of now.view (STORE m.file))) (called_same (values_of now.view (STORE m.file)) from bytes store) (λ other ne. refl) cell

    fetched_so : (pass : Pass) (d : Bool) (bytes : List ℕ) (cell : Word)
        → values_worked (record pass { control = Rattle.nv_core.specs.state.Passes.ReadStore m.page d }) (read bytes) (values_of now.view) cell ≡ values_fetched d m.page bytes (values_of now.view) cell
    fetched_so pass true bytes cell = same_values bytes cell
    fetched_so pass false bytes cell =
        ap (λ v. if same cell (PAGE m.page) then filled bytes v else with_value (values_of now.view) (STORE m.file) (called (PageRead from bytes) Made (values_of now.view (STORE m.file))) cell) (same_values bytes (PAGE m.page))
        ∙ ap (λ v. if same cell (PAGE m.page) then filled bytes (values_of now.view (PAGE m.page)) else v) (same_values bytes cell)

    fetched_then : (bytes : List ℕ) (cell : Word) → values_then now.view None (Give (STORE m.file)) (read bytes ∷ []) cell ≡ values_fetched dirty m.page bytes (values_of now.view) cell
    fetched_then bytes cell =
        of_pass m (loads.ReadStore dirty) room start now way
        (λ p. values_given (worked sizes (read bytes) p) (control_worked sizes p Made p.control) (values_worked p (read bytes) (values_of now.view)) cell ≡ values_fetched dirty m.page bytes (values_of now.view) cell)
        (λ pass. fetched_so (with_reading (load_mirror_at sizes m room way.before (loads.ReadStore dirty)) pass) dirty bytes cell)

    -- the store is given back next
    pub give_due : (bytes : List ℕ) (mid : PassState) → SaysOf sizes from bytes (values_of now.view (STORE m.file)) → IsAltered (values_fetched dirty m.page bytes) now mid
        → (due : Precondition mid None (Give (STORE m.file))) × (due.works ≡ page_read m.file from bytes)
    give_due bytes mid says altered =
        worked_due readings (load_call_of m) (load_mirror_at sizes m room way.before (loads.ReadStore dirty)) None None start now mid way.called (between_by (values_fetched dirty m.page bytes) now mid altered) (read bytes ∷ []) (Give (STORE m.file))
        (may, tt)
        (of_pass m (loads.ReadStore dirty) room start now way (λ p. next_step sizes (values_before now.view (read bytes ∷ [])) (pass_worked sizes (read bytes ∷ []) p) ≡ Some (Give (STORE m.file))) (λ pass. refl))
        (owns_slots_kept sizes (λ value. value) (values_fetched dirty m.page bytes (values_of now.view)) (values_then now.view None (Give (STORE m.file)) (read bytes ∷ [])) (still_owned (pass_of now.view)) mid.now (λ cell some. fetched_then bytes cell)
        (altered.owns_slots (values_of now.view) (still_owned (pass_of now.view)) way.called.still))
      where
        may : CallEnabled sizes (values_of now.view) (pass_of now.view) (read bytes)
        may = record {
          due = of_pass m (loads.ReadStore dirty) room start now way (λ p. CallDue sizes (values_of now.view) p (read bytes) p.control) (λ pass. record { bytes = bytes; cell = refl; job = refl; says = says });
          ends = may_end (values_of now.view (STORE m.file)) store;
          leaves = may_leave (values_of now.view (STORE m.file)) from bytes store;
          here = store_once;
        }

    -- or STOP is set
    pub fail_due : (mid : PassState) → HasFailedCall (STORE m.file) now mid → (due : Precondition mid None Stop) × HasFailedPageRead due.works
    fail_due mid failed =
        let due = worked_due readings (load_call_of m) (load_mirror_at sizes m room way.before (loads.ReadStore dirty)) None None start now mid way.called
        (record { table = failed.altered.table; view = failed.altered.view; spare = failed.altered.spare }) (work ∷ []) Stop (may, tt)
        (of_pass m (loads.ReadStore dirty) room start now way (λ p. next_step sizes (values_before now.view (work ∷ [])) (pass_worked sizes (work ∷ []) p) ≡ Some Stop) (λ pass. refl))
        (owns_slots_kept sizes (λ value. value) (with_value (values_of now.view) (STORE m.file) (called (PageRead 0 []) (Failed false failed.faults) (values_of now.view (STORE m.file)))) (values_then now.view None Stop (work ∷ [])) (still_owned (pass_of now.view)) mid.now
        (λ cell some. ap (λ v. with_value (values_of now.view) (STORE m.file) v cell) (called_any (values_of now.view (STORE m.file)) from failed.faults said.0 store))
        (failed.altered.owns_slots (values_of now.view) (still_owned (pass_of now.view)) way.called.still)) in
        (due.0, record { file = m.file; at = from; bytes = said.0; faults = failed.faults; is = due.1 })
      where
        said : (bytes : List ℕ) × SaysOf sizes from bytes (values_of now.view (STORE m.file))
        said = bytes_said sizes from (values_of now.view (STORE m.file)) store

        work : Work
        work = record { cell = STORE m.file; job = PageRead from said.0; ending = Failed false failed.faults }

        may : CallEnabled sizes (values_of now.view) (pass_of now.view) work
        may = record {
          due = of_pass m (loads.ReadStore dirty) room start now way (λ p. CallDue sizes (values_of now.view) p work p.control) (λ pass. record { bytes = said.0; cell = refl; job = refl; says = said.1 });
          ends = fail_end (values_of now.view (STORE m.file)) failed.faults store (failed.rose (values_of now.view) (still_owned (pass_of now.view)) way.called.still);
          leaves = fail_leave (values_of now.view (STORE m.file)) from failed.faults said.0 store;
          here = store_once;
        }

    module _ (mid new : PassState) (between : IsBetweenSteps now mid) (bytes : List ℕ) (found : ℕ) (step : Postcondition mid None (Give (STORE m.file)) found new) (told : step.works ≡ page_read m.file from bytes) where
      fetched_other : (d : Bool) (p : ℕ) → p ≢ m.page → values_fetched d m.page bytes (values_of now.view) (PAGE p) ≡ values_of now.view (PAGE p)
      fetched_other true p ne = refl
      fetched_other false p ne = word_else (values_of now.view) (PAGE m.page) (filled bytes (values_of now.view (PAGE m.page))) (PAGE p) (λ e. ne (page_is e))

      pub give_keeps : KeepsOthers m now new
      give_keeps =
          works_keep m (loads.ReadStore dirty) room start now way mid new between (page_read m.file from bytes) (Give (STORE m.file)) found step told fits
          (λ p ne. fetched_then bytes (PAGE p) ∙ fetched_other dirty p ne)
          (λ pass p values ne. bytes_else way.before.fetched values p m.page bytes (λ e. ne (sym e)))

pub give_on : (m : LoadMachine) (dirty : Bool) (room : List ℕ) (start now mid new : PassState) → Fits now.view.opened.sizes m → IsInCall m (loads.ReadStore dirty) room start now → IsBetweenSteps now mid → (bytes : List ℕ) (found : ℕ)
    → (step : Postcondition mid None (Give (STORE m.file)) found new) → step.works ≡ page_read m.file (page_start now.view.opened.sizes (load_call_of m) m.page) bytes
    → IsUnderWay (record m { control = if dirty then loads.LoadHead else Loaded }) bytes start new
give_on m true room start now mid new fits way between bytes found step told =
    works_on m (loads.ReadStore true) room start now way mid new between (page_read m.file (page_start now.view.opened.sizes (load_call_of m) m.page) bytes) (Give (STORE m.file)) found step told loads.LoadHead bytes way.before fits tt
    (λ pass number history. ap (λ owned. at m (ReadLoadHead m.page) owned way.before.head ((m.page, bytes) ∷ way.before.fetched)) (without_first (STORE m.file) (CLEANUP m.page ∷ load_locks m)))
    (λ pass. refl) refl refl refl (λ sizes number history pass. refl) (λ pass number. refl) (λ state. tt)
give_on m false room start now mid new fits way between bytes found step told =
    works_on m (loads.ReadStore false) room start now way mid new between (page_read m.file (page_start now.view.opened.sizes (load_call_of m) m.page) bytes) (Give (STORE m.file)) found step told Loaded bytes way.before fits tt
    (λ pass number history. ap (λ owned. at m (VisitPage (m.page + 1)) owned way.before.head ((m.page, bytes) ∷ way.before.fetched)) (without_first (STORE m.file) (load_locks m)))
    (λ pass. refl) refl refl refl (λ sizes number history pass. refl) (λ pass number. refl) (λ state. tt)

module _ (m : LoadMachine) (dirty : Bool) (room : List ℕ) (start now mid new : PassState) (fits : Fits now.view.opened.sizes m) (way : IsInCall m (loads.ReadStore dirty) room start now) (between : IsBetweenSteps now mid) (found : ℕ)
    (step : Postcondition mid None Stop found new) (failed : HasFailedPageRead step.works) where
  abbrev failed_read : List Work
  failed_read = record { cell = STORE failed.file; job = PageRead failed.at failed.bytes; ending = Failed false failed.faults } ∷ []

  pub fail_on : (room_then : List ℕ) → IsUnderWay (record m { control = GiveBackStore dirty }) room_then start new
  fail_on room_then =
      works_on m (loads.ReadStore dirty) room start now way mid new between failed_read Stop found step failed.is (GiveBackStore dirty) room_then way.before fits tt
      (λ pass number history. refl) (λ pass. refl) refl refl refl (λ sizes number history pass. refl) (λ pass number. refl) (λ state. tt)

  pub fail_keeps : KeepsOthers m now new
  fail_keeps =
      works_keep m (loads.ReadStore dirty) room start now way mid new between failed_read Stop found step failed.is fits
      (λ p ne. word_else (values_of now.view) (STORE failed.file) (called (PageRead failed.at failed.bytes) (Failed false failed.faults) (values_of now.view (STORE failed.file))) (PAGE p) no_store)
      (λ pass p values ne. refl)

-- ---- the piece of an entry is read

module _ (m : LoadMachine) (number : ℕ) (room : List ℕ) (start now : PassState) (fits : Fits now.view.opened.sizes m) (way : IsInCall m (loads.ReadPiece number) room start now) where
  abbrev piece_sizes : Sizes
  piece_sizes = now.view.opened.sizes

  abbrev cell : Word
  cell = ENTRY (slot_of_entry piece_sizes number)

  pub piece_stands : (pass_of now.view).control ≡ ReadPiece m.page number
  piece_stands = ap (λ (r : Reading). r.mirrored_control.control) way.called.mirrors

  pub piece_once : times (ENTRY (slot_of_entry now.view.opened.sizes number)) (pass_of now.view).owned ≡ 1
  piece_once =
      ap (λ (r : Reading). times cell r.mirrored_control.owned) way.called.mirrors ∙ times_here cell (CLEANUP m.page ∷ load_locks m) ∙ ap (λ n. 1 + n) (entry_alone (slot_of_entry piece_sizes number) m)

  module _ (mid new : PassState) (between : IsBetweenSteps now mid) (found : ℕ) where
    module _ (begins : ℕ) (bytes : List ℕ) (step : Postcondition mid None (Return number) found new) (told : step.works ≡ piece_read now.view.opened.sizes number begins bytes Made) where
      abbrev laid : List ℕ
      laid = overwritten room (begins % piece_sizes.page) bytes

      abbrev before_then : Before
      before_then = record { control = way.before.control; head = m.head; fetched = (m.page, room) ∷ way.before.fetched }

      laid_so : (control : Rattle.nv_core.specs.state.Passes.Control)
          → at m control (Rattle.nv_core.specs.state.Passes.without cell (cell ∷ CLEANUP m.page ∷ load_locks m)) m.head ((m.page, overwritten (if m.page == m.page then room else fetched_bytes way.before.fetched m.page) (begins % piece_sizes.page) bytes) ∷ (m.page, room) ∷ way.before.fetched)
          ≡ at m control (CLEANUP m.page ∷ load_locks m) m.head ((m.page, laid) ∷ (m.page, room) ∷ way.before.fetched)
      laid_so control =
          ap₂ (λ owned b. at m control owned m.head ((m.page, overwritten (if b then room else fetched_bytes way.before.fetched m.page) (begins % piece_sizes.page) bytes) ∷ (m.page, room) ∷ way.before.fetched))
          (without_first cell (CLEANUP m.page ∷ load_locks m)) (number_self m.page)

      by : (b : Bool) → nat_lt (number + 1) m.head ≡ b → IsUnderWay (record m { control = if b then loads.LoadEntry (number + 1) else loads.GiveCleanup }) laid start new
      by true low =
          works_on m (loads.ReadPiece number) room start now way mid new between (piece_read piece_sizes number begins bytes Made) (Return number) found step told (loads.LoadEntry (number + 1)) laid before_then fits (ltb-true (number + 1) m.head low)
          (λ pass n history. laid_so (if nat_lt (number + 1) m.head then LoadEntry m.page (number + 1) else GiveCleanup m.page) ∙ ap (λ b. at m (if b then LoadEntry m.page (number + 1) else GiveCleanup m.page) (CLEANUP m.page ∷ load_locks m) m.head ((m.page, laid) ∷ (m.page, room) ∷ way.before.fetched)) low)
          (λ pass. refl) refl refl refl (λ sizes number history pass. refl) (λ pass number. refl) (λ state. tt)
      by false low =
          works_on m (loads.ReadPiece number) room start now way mid new between (piece_read piece_sizes number begins bytes Made) (Return number) found step told loads.GiveCleanup laid before_then fits tt
          (λ pass n history. laid_so (if nat_lt (number + 1) m.head then LoadEntry m.page (number + 1) else GiveCleanup m.page) ∙ ap (λ b. at m (if b then LoadEntry m.page (number + 1) else GiveCleanup m.page) (CLEANUP m.page ∷ load_locks m) m.head ((m.page, laid) ∷ (m.page, room) ∷ way.before.fetched)) low)
          (λ pass. refl) refl refl refl (λ sizes number history pass. refl) (λ pass number. refl) (λ state. tt)

      pub return_on : IsUnderWay (record m { control = scanning_from m (number + 1) }) (overwritten room (begins % now.view.opened.sizes.page) bytes) start new
      return_on = by (nat_lt (number + 1) m.head) refl

      pub return_keeps : KeepsOthers m now new
      return_keeps =
          works_keep m (loads.ReadPiece number) room start now way mid new between (piece_read piece_sizes number begins bytes Made) (Return number) found step told fits
          (λ p ne. word_else (values_of now.view) cell (called (PieceRead begins bytes) Made (values_of now.view cell)) (PAGE p) no_entry)
          (λ pass p values ne. bytes_else ((m.page, room) ∷ way.before.fetched) values p m.page (overwritten (fetched_bytes ((m.page, room) ∷ way.before.fetched) m.page) (begins % piece_sizes.page) bytes) (λ e. ne (sym e)))

    module _ (step : Postcondition mid None Stop found new) (failed : HasFailedPieceRead step.works) where
      abbrev failed_piece : List Work
      failed_piece = record { cell = ENTRY failed.slot; job = PieceRead failed.at failed.bytes; ending = Failed false failed.faults } ∷ []

      pub break_on : IsUnderWay (record m { control = loads.ReturnEntry number }) room start new
      break_on =
          works_on m (loads.ReadPiece number) room start now way mid new between failed_piece Stop found step failed.is (loads.ReturnEntry number) room (record { control = way.before.control; head = m.head; fetched = (m.page, room) ∷ way.before.fetched }) fits tt
          (λ pass number history. refl) (λ pass. refl) refl refl refl (λ sizes number history pass. refl) (λ pass number. refl) (λ state. tt)

      pub break_keeps : KeepsOthers m now new
      break_keeps =
          works_keep m (loads.ReadPiece number) room start now way mid new between failed_piece Stop found step failed.is fits
          (λ p ne. word_else (values_of now.view) (ENTRY failed.slot) (called (PieceRead failed.at failed.bytes) (Failed false failed.faults) (values_of now.view (ENTRY failed.slot))) (PAGE p) no_entry)
          (λ pass p values ne. refl)

-- ---- the page is whole

module _ (m : LoadMachine) (room : List ℕ) (start now mid : PassState) (fits : Fits now.view.opened.sizes m) (way : IsInCall m loads.GiveCleanup room start now) (altered : IsAltered (with_page m.page room) now mid) where
  abbrev whole_sizes : Sizes
  whole_sizes = now.view.opened.sizes

  filled_then : (cell : Word) → values_then now.view None (Give (CLEANUP m.page)) [] cell ≡ with_page m.page room (values_of now.view) cell
  filled_then cell =
      of_pass m loads.GiveCleanup room start now way (λ p. values_given p p.control (values_of now.view) cell ≡ with_page m.page room (values_of now.view) cell)
      (λ pass. ap (λ b. with_value (values_of now.view) (PAGE m.page) (filled (if b then room else fetched_bytes way.before.fetched m.page) (values_of now.view (PAGE m.page))) cell) (number_self m.page))

  pub unlock_due : Precondition mid None (Give (CLEANUP m.page))
  unlock_due =
      (worked_due readings (load_call_of m) (load_mirror_at whole_sizes m room way.before loads.GiveCleanup) None None start now mid way.called (between_by (with_page m.page room) now mid altered) [] (Give (CLEANUP m.page)) tt
      (of_pass m loads.GiveCleanup room start now way (λ p. next_step whole_sizes (values_of now.view) p ≡ Some (Give (CLEANUP m.page))) (λ pass. refl))
      (owns_slots_kept whole_sizes (λ value. value) (with_page m.page room (values_of now.view)) (values_then now.view None (Give (CLEANUP m.page)) []) (still_owned (pass_of now.view)) mid.now (λ cell some. filled_then cell)
      (altered.owns_slots (values_of now.view) (still_owned (pass_of now.view)) way.called.still))).0

  module _ (new : PassState) (found : ℕ) (step : Postcondition mid None (Give (CLEANUP m.page)) found new) where
    pub unlock_alone : step.works ≡ []
    unlock_alone =
        no_works mid.view.opened.sizes (values_of mid.view) (pass_of mid.view) step.works
        (subst (λ (v : PassView). IsCallFree (pass_of v).control) (sym altered.view) (subst IsCallFree (sym (ap (λ (r : Reading). r.mirrored_control.control) way.called.mirrors)) (λ sizes values pass work due. due))) step.due

    pub unlock_on : IsUnderWay (record m { control = Loaded }) room start new
    unlock_on =
        works_on m loads.GiveCleanup room start now way mid new (between_by (with_page m.page room) now mid altered) [] (Give (CLEANUP m.page)) found step unlock_alone Loaded room way.before fits tt
        (λ pass number history. ap (λ owned. at m (VisitPage (m.page + 1)) owned way.before.head ((m.page, room) ∷ way.before.fetched)) (without_first (CLEANUP m.page) (load_locks m)))
        (λ pass. refl) refl refl refl (λ sizes number history pass. refl) (λ pass number. refl) (λ state. tt)

    pub unlock_keeps : KeepsOthers m now new
    unlock_keeps =
        works_keep m loads.GiveCleanup room start now way mid new (between_by (with_page m.page room) now mid altered) [] (Give (CLEANUP m.page)) found step unlock_alone fits
        (λ p ne. filled_then (PAGE p) ∙ word_else (values_of now.view) (PAGE m.page) (filled room (values_of now.view (PAGE m.page))) (PAGE p) (λ e. ne (page_is e)))
        (λ pass p values ne. refl)
