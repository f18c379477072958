-- Load slots: what the slots of its page, its store and its entry have.
use Rattle.std.proofs.Common.{◌≡◌, ℕ, ◌<◌, ◌≤◌, List, length, refl, sym, ap, subst, ◌∙◌, arith}
use Rattle.std.specs.Prelude.{Some}
use Rattle.nv_core.specs.state.Words.{Sizes, PAGE, STORE, page_total}
use Rattle.nv_core.specs.state.Values.{Buffer, ABuffer, Value}
use Rattle.nv_core.specs.state.Passes.{IsOneOf, times}
use Rattle.nv_core.specs.steps.Order.{Values}
use Rattle.nv_core.specs.steps.Opening.{IsMount}
use Rattle.nv_core.specs.invariant.Shapes.{CellsKeepShapes, HasShape, HaveShapes, IsStore}
use Rattle.nv_core.proofs.state.StepWords.{page_within}
use Rattle.nv_table.specs.state.Opened.{Opened, IsRunOf, mount_of}
use Rattle.nv_table.specs.state.States.{BoardState, PassState, IsOf}
use Rattle.nv_table.specs.state.Views.{OwnsSlots, pass_of, slot_times, still_owned, values_of}
use Rattle.nv_table.proofs.state.LayoutLaws.{cell_there}
use Rattle.nv_table.proofs.steps.OwnedSlotLaws.{still_owned_all}
use Rattle.nv_pages.specs.Altered.{IsAltered}
use Rattle.nv_pages.specs.PageWork.{page_slot, store_slot}
use Rattle.nv_mirror.specs.declared.load.LoadControl.{LoadControl}
use Rattle.nv_mirror.specs.declared.load.LoadMachine.{LoadMachine}
use Rattle.nv_mirror.specs.Loads.{load_call_of, Fits, IsInCall}
use Rattle.nv_mirror.proofs.HadLaws.{held_once}
use Rattle.nv_mirror.proofs.CellLaws.{room_in}
use Rattle.nv_mirror.proofs.StoreReadLaws.{store_by}

-- no more has changed than nothing
pub altered_self : (now : PassState) → IsAltered (λ kept. kept) now now
altered_self now = record { table = refl; view = refl; spare = refl; owns_slots = λ kept cells owns. owns }

-- ---- what its cells keep

module _ (board : BoardState) (pass : PassState) (of : IsOf board pass) (keep : CellsKeepShapes) (mount : IsMount (mount_of pass.view.opened)) (run : IsRunOf pass.view.opened pass.view.run)
    (first : HaveShapes board.opened.sizes.page (mount_of board.opened).values (mount_of board.opened).values) where
  pub shapes_kept : HaveShapes pass.view.opened.sizes.page (mount_of pass.view.opened).values (values_of pass.view)
  shapes_kept = keep (mount_of pass.view.opened) pass.view.run mount (subst (λ (o : Opened). HaveShapes o.sizes.page (mount_of o).values (mount_of o).values) (sym of.same_mount) first) run

  pub store_kept : (file : ℕ) → ((file : ℕ) → file < board.opened.sizes.files → IsStore ((mount_of board.opened).values (STORE file))) → file < pass.view.opened.sizes.files → IsStore (values_of pass.view (STORE file))
  store_kept file stores known =
      store_by pass.view.opened.sizes.page ((mount_of pass.view.opened).values (STORE file)) (values_of pass.view (STORE file))
      (subst (λ (o : Opened). file < o.sizes.files → IsStore ((mount_of o).values (STORE file))) (sym of.same_mount) (stores file) known) (shapes_kept (STORE file))

  -- and the slot of the store shows that
  pub store_shown : OwnsSlots pass.view.opened.sizes (λ value. value) (values_of pass.view) (still_owned (pass_of pass.view)) pass.now → (file : ℕ) → ((file : ℕ) → file < board.opened.sizes.files → IsStore ((mount_of board.opened).values (STORE file)))
      → file < pass.view.opened.sizes.files → (value : Value) → IsOneOf pass.now (store_slot board.opened.sizes file, value) → IsStore value
  store_shown still file stores known value one =
      let sizes = pass.view.opened.sizes in
      let there = cell_there sizes (STORE file) (store_slot sizes file) known refl in
      subst IsStore (sym (still.shows (store_slot sizes file) value (subst (λ (o : Opened). IsOneOf pass.now (store_slot o.sizes file, value)) (sym of.same_mount) one) ∙ ap (values_of pass.view) there.1)) (store_kept file stores known)

-- ---- its page

module _ (m : LoadMachine) (control : LoadControl) (room : List ℕ) (start now : PassState) (fits : Fits now.view.opened.sizes m) (way : IsInCall m control room start now) where
  abbrev sizes : Sizes
  sizes = now.view.opened.sizes

  pub page_there : m.page < page_total now.view.opened.sizes
  page_there = page_within sizes (load_call_of m) m.page fits.allowed fits.own

  -- where no device has changed what they keep
  module _ (mid : PassState) (altered : IsAltered (λ kept. kept) now mid) where
    still : OwnsSlots sizes (λ value. value) (values_of now.view) (still_owned (pass_of now.view)) mid.now
    still = altered.owns_slots (values_of now.view) (still_owned (pass_of now.view)) way.called.still

    pub page_slot_once : slot_times (page_slot now.view.opened.sizes m.page) mid.now ≡ 1
    page_slot_once =
        let there = cell_there sizes (PAGE m.page) (page_slot sizes m.page) page_there refl in
        still.each (page_slot sizes m.page) there.0 ∙ ap (λ c. times c (still_owned (pass_of now.view))) there.1
        ∙ ap (times (PAGE m.page)) (still_owned_all (pass_of now.view) way.called.left) ∙ held_once m control room start now fits way m.page fits.own

    pub page_room : (first : Values) → HaveShapes now.view.opened.sizes.page first (values_of now.view) → (bytes : List ℕ) → length bytes ≡ now.view.opened.sizes.page
        → (buffer : Buffer) → IsOneOf mid.now (page_slot now.view.opened.sizes m.page, ABuffer (Some buffer)) → length bytes ≤ length buffer.bytes
    page_room first shapes bytes long buffer one =
        let there = cell_there sizes (PAGE m.page) (page_slot sizes m.page) page_there refl in
        let room = room_in sizes.page (first (PAGE m.page)) buffer
        (subst (HasShape sizes.page (first (PAGE m.page))) (sym (still.shows (page_slot sizes m.page) (ABuffer (Some buffer)) one ∙ ap (values_of now.view) there.1)) (shapes (PAGE m.page))) in
        omega (arith, long, room)
