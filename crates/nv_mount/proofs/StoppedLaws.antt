-- Laws about how often the devices of a mount failed, when it is opened and when it is closed.
use Rattle.std.proofs.Common.{◌≡◌, ℕ, ◌+◌, ◌<◌, ◌≤◌, true, List, [], ◌∷◌, get_or, length, map, take, drop, inl, inr, refl, sym, ap, subst, ◌∙◌, arith, take-append-drop}
use Rattle.std.specs.Prelude.{Option, sum, sum_by}
use Rattle.std.proofs.lemmas.List.Sums.{sum_by-append, sum-map}
use Rattle.nv_plain.specs.Faults.{Rose}
use Rattle.nv_pmem.specs.Room.{Room}
use Rattle.nv_pmem.specs.Steps.{PartHistory}
use Rattle.nv_store.specs.Steps.{StoreHistory}
use Rattle.nv_core.specs.state.Words.{Sizes, Word, STOP}
use Rattle.nv_core.specs.state.Values.{Value, Bare, faults_of}
use Rattle.nv_core.specs.state.Passes.{Pass, IsOneOf}
use Rattle.nv_core.specs.state.Core.{Core}
use Rattle.nv_core.specs.steps.Opening.{IsMount}
use Rattle.nv_core.specs.invariant.InvariantLaws.{RunsAreSound}
use Rattle.nv_core.specs.steps.Frames.{EventsLeaveOthers, StepsAreOnWords}
use Rattle.nv_table.specs.declared.slot.PageBuffer.{PageBuffer}
use Rattle.nv_table.specs.passes.PassesMade.{PutsBack}
use Rattle.nv_table.specs.ends.Closing.{IsClosed}
use Rattle.nv_table.specs.state.SlotValues.{part_value, store_value, slot_value}
use Rattle.nv_table.specs.state.Layout.{slot_total, cell_of}
use Rattle.nv_table.specs.state.Opened.{Opened, mount_of, IsRunOf, state_of}
use Rattle.nv_table.specs.ends.OpeningSlots.{in_slots}
use Rattle.nv_table.specs.state.Views.{Past, PassView, pass_of, past_pass}
use Rattle.nv_table.specs.state.States.{BoardState, PassState, IsOf}
use Rattle.nv_table.proofs.passes.BetweenLaws.{puts_opened, puts_ended}
use Rattle.nv_mount.specs.declared.fds.Fd.{Fd}
use Rattle.nv_mount.specs.Mounts.{MountState, IsOpened}
use Rattle.nv_mount.specs.RisenCounts.{SawStop, failed_before}
use Rattle.nv_mount.proofs.CountLaws.{risen, sum_rose, sums_rise, parts_count, slots_count, grew, stopped_risen}

puts_stopped : (cells : List (Word × ℕ)) (old new : PassView) → PutsBack cells old new → (pass_of new).stopped ≡ (pass_of old).stopped
puts_stopped [] old new back = ap (λ (v : PassView). (pass_of v).stopped) back
puts_stopped (first ∷ others) old new back = puts_stopped others back.0 new back.2 ∙ ap (λ (p : Pass). p.stopped) back.1.pass

module _ {L B : Type 0} (device : L → ℕ) (history : L → PartHistory) (faults : L → ℕ) (room : L → Room) (store_device : B → ℕ) (store_history : B → StoreHistory) (store_faults : B → ℕ) where
  abbrev part : L → Value
  part = part_value device history faults room

  abbrev store : B → Value
  store = store_value store_device store_history store_faults

  -- the first of some parts, and the others
  both_parts : (n : ℕ) (parts : List L) → sum_by faults parts ≡ sum_by faults (take n parts) + sum_by faults (drop n parts)
  both_parts n parts = sym (ap (sum_by faults) (take-append-drop n parts)) ∙ sum_by-append faults (take n parts) (drop n parts)

  -- the counts of slots and of spare parts are those of all parts and stores
  counted : (n : ℕ) (parts : List L) (stores : List B) (buffers : List (Option PageBuffer)) (slots spare : List Value) → slots ≡ map (slot_value part store) (in_slots (take n parts) stores buffers)
      → map part (drop n parts) ≡ spare → sum_by faults_of slots + sum_by faults_of spare ≡ sum_by faults parts + sum_by store_faults stores
  counted n parts stores buffers slots spare slots_are spare_are =
      let a : sum_by faults_of slots ≡ sum_by faults (take n parts) + sum_by store_faults stores =
      ap (sum_by faults_of) slots_are ∙ slots_count part store faults store_faults (λ one. refl) (λ one. refl) (take n parts) stores buffers in
      let b : sum_by faults_of spare ≡ sum_by faults (drop n parts) =
      sym (ap (sum_by faults_of) spare_are) ∙ parts_count part store faults store_faults (λ one. refl) (λ one. refl) (drop n parts) in
      let c = both_parts n parts in
      omega (arith, a, b, c)

  -- at opening
  pub counts_opened : (sizes : Sizes) (next : ℕ) (parts : List L) (stores : List B) (fds : List Fd) (mount : MountState) (pass : PassState)
      → IsOpened (slot_value part store) store_device store_history store_faults sizes next parts stores fds mount pass → failed_before pass ≡ sum_by faults parts + sum_by store_faults stores
  counts_opened sizes next parts stores fds mount pass opened =
      let begun = opened.begun in
      ap (λ (v : PassView). sum_by faults_of v.opened.slots + sum_by faults_of pass.spare) begun.view
      ∙ counted (1 + sizes.entries) parts opened.asked begun.are_slots.buffers mount.board.opened.slots pass.spare
      (begun.slots_show ∙ ap (map (slot_value part store)) begun.are_slots.are) (sym begun.spare)
      ∙ ap (λ n. sum_by faults parts + n) (sym (sum-map store_faults opened.asked) ∙ ap (λ ns. sum ns) opened.same_faults ∙ sum-map store_faults stores)

  module _ (board : BoardState) (pass : PassState) (parts : List L) (stores : List B) (placed tail : ℕ) (of_board : IsOf board pass)
      (closed : IsClosed device store_device (slot_value part store) board pass parts stores placed tail)
      (sound : RunsAreSound) (others : EventsLeaveOthers) (words : StepsAreOnWords) (mount : IsMount (mount_of pass.view.opened)) where
    same : closed.last.opened ≡ pass.view.opened
    same = puts_opened closed.cells pass.view closed.last closed.back

    is_run : IsRunOf pass.view.opened closed.whole.run
    is_run = subst (λ (o : Opened). IsRunOf o closed.whole.run) same closed.whole.is_run

    abbrev core : Core
    core = state_of pass.view.opened closed.whole.run

    many : length pass.view.opened.slots ≡ slot_total pass.view.opened.sizes
    many = subst (λ (o : Opened). length o.slots ≡ slot_total o.sizes) (sym of_board.same_mount) closed.many_slots

    -- a STOP that a pass saw is set at the end
    saw_it : (number : ℕ) (seen : Pass) → core.passes number ≡ seen → seen.stopped ≡ true → core.words STOP ≡ 1
    saw_it number seen is stopped = (sound (mount_of pass.view.opened) closed.whole.run mount is_run).stop.stays number (ap (λ (p : Pass). p.stopped) is ∙ stopped)

    is_stopped : SawStop pass.view → core.words STOP ≡ 1
    is_stopped (inl own) =
        saw_it closed.last.number (pass_of closed.last) (subst (λ (o : Opened). (state_of o closed.whole.run).passes closed.last.number ≡ pass_of closed.last) same closed.whole.pass)
        (puts_stopped closed.cells pass.view closed.last closed.back ∙ own)
    is_stopped (inr other) =
        let past = other.0 in
        let there = subst (λ (pasts : List Past). IsOneOf pasts past) (sym (puts_ended closed.cells pass.view closed.last closed.back)) other.1 in
        saw_it past.number (past_pass pass.view.opened past)
        (subst (λ (o : Opened). (state_of o closed.whole.run).passes past.number ≡ past_pass o past) same (closed.whole.ended past there).1) other.2

    -- what the slots held then
    abbrev held : List Value
    held = map (slot_value part store) (in_slots (take (1 + board.opened.sizes.entries) parts) stores closed.buffers)

    each : (slot : ℕ) → slot < slot_total pass.view.opened.sizes → get_or held slot Bare ≡ core.values (cell_of pass.view.opened.sizes slot)
    each = subst (λ (o : Opened). (slot : ℕ) → slot < slot_total o.sizes → get_or held slot Bare ≡ (state_of o closed.whole.run).values (cell_of o.sizes slot)) same closed.whole.each

    -- what each slot held then has failed no less often than what it held at opening
    each_grew : (slot : ℕ) → slot < length pass.view.opened.slots → faults_of (get_or pass.view.opened.slots slot Bare) ≤ faults_of (get_or held slot Bare)
    each_grew slot less =
        subst (λ v. faults_of (get_or pass.view.opened.slots slot Bare) ≤ faults_of v) (sym (each slot (omega (arith, many, less))))
        (grew sound others words pass.view.opened mount closed.whole.run is_run many slot (omega (arith, many, less)))

    pub counts_grew : failed_before pass ≤ sum_by faults parts + sum_by store_faults stores
    counts_grew =
        let slots = sums_rise pass.view.opened.slots held each_grew in
        let all = counted (1 + board.opened.sizes.entries) parts stores closed.buffers held pass.spare refl closed.same_spare in
        omega (arith, slots, all)

    pub counts_rose : SawStop pass.view → Rose (failed_before pass) (sum_by faults parts + sum_by store_faults stores)
    counts_rose saw =
        let one = stopped_risen sound others words pass.view.opened mount closed.whole.run is_run many (is_stopped saw) in
        let slots = sum_rose pass.view.opened.slots held
        each_grew one.slot (omega (arith, many, one.within))
        (subst (λ v. Rose (faults_of (get_or pass.view.opened.slots one.slot Bare)) (faults_of v)) (sym (each one.slot one.within)) one.rose) in
        subst (Rose (failed_before pass)) (counted (1 + board.opened.sizes.entries) parts stores closed.buffers held pass.spare refl closed.same_spare)
        (risen (sum_by faults_of pass.view.opened.slots) (sum_by faults_of held) (sum_by faults_of pass.spare) (sum_by faults_of pass.spare) slots (omega arith))
