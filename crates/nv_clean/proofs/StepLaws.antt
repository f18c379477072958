-- Steps: what a step of a batch needs, and what it leaves.
use Rattle.std.proofs.Common.{◌≡◌, ◌≢◌, ℕ, zero, suc, ◌+◌, ◌<◌, ◌≤◌, ◌==◌, Bool, true, false, if◌then◌else◌, List, [], ◌∷◌, ◌++◌, length, refl, sym, ap, subst, ◌∙◌, arith, eqb-true, eq-eqb, ne_eqb, length-append}
use Rattle.std.specs.Prelude.{Some, None, nat_lt, not, ◌||◌}
use Rattle.std.specs.List.{list_any}
use Rattle.nv_plain.specs.Layouts.{mount_layout}
use Rattle.nv_core.specs.state.Words.{Sizes, Word, CLEANER, STORE, is_lock, page_of}
use Rattle.nv_core.specs.state.Cleaner.{Batch, CleanerControl, CleanerOp as CoreCleanerOp, TakeCleaner}
use Rattle.nv_core.specs.state.Cleaner as cleaner
use Rattle.nv_core.specs.state.Core.{Core}
use Rattle.nv_core.specs.state.Passes.{Idle, Cleaning, times}
use Rattle.nv_core.specs.steps.CleanerSteps.{after_cleaner_op, batch_with_page, count_of, finishing, group_file, holds_store, last_taken, may_pass, new_batch, next_cleaner_op, surveyed}
use Rattle.nv_core.specs.steps.Ops.{ByCleaner as CleanerStep, Comes, Stays, cleaner_move, moved}
use Rattle.nv_core.specs.steps.Opening.{IsMount}
use Rattle.nv_core.specs.invariant.InvariantLaws.{RunsAreSound}
use Rattle.nv_core.specs.invariant.Ownership.{HoldsLocks}
use Rattle.nv_core.specs.invariant.ControlFacts.{FactsAt}
use Rattle.nv_core.specs.invariant.Sound.{Sound}
use Rattle.nv_core.proofs.invariant.CleanerLocks.{cleaner_op_is}
use Rattle.nv_core.proofs.invariant.LockLaws.{times_here}
use Rattle.nv_table.specs.state.Opened.{Opened, mount_of, IsRunOf, state_of}
use Rattle.nv_table.specs.state.States.{PassState}
use Rattle.nv_table.specs.state.Views.{PassView, pass_of, values_of}
use Rattle.nv_table.specs.steps.CallSteps.{DueStepsStand, Precondition}
use Rattle.nv_table.specs.steps.SeatSteps.{pass_worked}
use Rattle.nv_table.specs.steps.StepContracts.{Postcondition}
use Rattle.nv_table.proofs.steps.CallLaws.{IsCallFree}
use Rattle.nv_mirror.proofs.StepLaws.{between_self, opened_same}
use Rattle.nv_clean.specs.declared.batch.CleanControl.{CleanControl}
use Rattle.nv_clean.specs.declared.batch.CleanControl.TheVariants as cleans
use Rattle.nv_clean.specs.Cleaning.{AreApart, CleanState, Fits, FitsAt, InBatch, IsBegun, IsEnd, IsPlain, IsUnderWay, OwnsAt, calls_refusal, control_at, control_of, files_then, inner_at}
use Rattle.nv_clean.specs.OwnedCells.{TakesCell, most_cells}
use Rattle.nv_clean.proofs.BatchLaws.{begins_on, no_works, idle_free, step_due, made_one, own_next, goes_on}
use Rattle.nv_clean.specs.CleanSteps.{HasMadeOne, clean_kind, first_refusal, kind_at, refusal_at}
use Rattle.nv_op.specs.declared.kinds.Kind.TheVariants.{Take}
use Rattle.nv_clean.specs.declared.batch.CleanRefusal.TheVariants.{Busy}
use Rattle.nv_clean.proofs.CleanStepLaws.{has_made, next_kind_is}
use Rattle.nv_clean.proofs.FactLaws.{IsCounted, counts as fact_counts, fits_at, owns_at, stores_there}
use Rattle.nv_clean.proofs.RoomLaws.{apart_few}

-- ---- control states that are plain

pub plain_at : (sizes : Sizes) (batch : Batch) (control : CleanControl) → IsPlain control → control_at sizes batch control ≡ Cleaning batch (inner_at sizes batch control)
plain_at sizes batch cleans.TakeHeader plain = refl
plain_at sizes batch cleans.LoadStop plain = refl
plain_at sizes batch cleans.LoadTail plain = refl
plain_at sizes batch cleans.LoadHead plain = refl
plain_at sizes batch (cleans.LoadEntry i) plain = refl
plain_at sizes batch (cleans.TakeCleanup i) plain = refl
plain_at sizes batch cleans.TakeStore plain = refl
plain_at sizes batch (cleans.HoldEntry i) plain = refl
plain_at sizes batch (cleans.CleanEntry i) plain = refl
plain_at sizes batch (cleans.SubtractDirty i) plain = refl
plain_at sizes batch (cleans.GiveCleanup i) plain = refl
plain_at sizes batch (cleans.ReturnEntry i end) plain = refl
plain_at sizes batch (cleans.ReturnFailed i end) plain = refl
plain_at sizes batch (cleans.UndoCleanup i) plain = refl
plain_at sizes batch (cleans.FreeEntry number) plain = refl
plain_at sizes batch cleans.AdvanceTail plain = refl
plain_at sizes batch (cleans.GiveStore file) plain = refl
plain_at sizes batch cleans.GiveHeader plain = refl
plain_at sizes batch cleans.GiveCleaner plain = refl
plain_at sizes batch cleans.GiveBack plain = refl
plain_at sizes batch cleans.Begin plain = absurd plain
plain_at sizes batch (cleans.WriteBack i) plain = absurd plain
plain_at sizes batch cleans.Retire plain = absurd plain
plain_at sizes batch cleans.Over plain = absurd plain

pub plain_free : (sizes : Sizes) (batch : Batch) (control : CleanControl) → IsPlain control → IsCallFree (control_at sizes batch control)
plain_free sizes batch cleans.TakeHeader plain s values pass work due = due
plain_free sizes batch cleans.LoadStop plain s values pass work due = due
plain_free sizes batch cleans.LoadTail plain s values pass work due = due
plain_free sizes batch cleans.LoadHead plain s values pass work due = due
plain_free sizes batch (cleans.LoadEntry i) plain s values pass work due = due
plain_free sizes batch (cleans.TakeCleanup i) plain s values pass work due = due
plain_free sizes batch cleans.TakeStore plain s values pass work due = due
plain_free sizes batch (cleans.HoldEntry i) plain s values pass work due = due
plain_free sizes batch (cleans.CleanEntry i) plain s values pass work due = due
plain_free sizes batch (cleans.SubtractDirty i) plain s values pass work due = due
plain_free sizes batch (cleans.GiveCleanup i) plain s values pass work due = due
plain_free sizes batch (cleans.ReturnEntry i end) plain s values pass work due = due
plain_free sizes batch (cleans.ReturnFailed i end) plain s values pass work due = due
plain_free sizes batch (cleans.UndoCleanup i) plain s values pass work due = due
plain_free sizes batch (cleans.FreeEntry number) plain s values pass work due = due
plain_free sizes batch cleans.AdvanceTail plain s values pass work due = due
plain_free sizes batch (cleans.GiveStore file) plain s values pass work due = due
plain_free sizes batch cleans.GiveHeader plain s values pass work due = due
plain_free sizes batch cleans.GiveCleaner plain s values pass work due = due
plain_free sizes batch cleans.GiveBack plain s values pass work due = due
plain_free sizes batch cleans.Begin plain s values pass work due = absurd plain
plain_free sizes batch (cleans.WriteBack i) plain s values pass work due = absurd plain
plain_free sizes batch cleans.Retire plain s values pass work due = absurd plain
plain_free sizes batch cleans.Over plain s values pass work due = absurd plain

-- ---- the files whose STORE a batch holds

with_file : (b : Bool) (file : ℕ) (files : List ℕ) → AreApart files → (b ≡ true → list_any (λ held. held == file) files ≡ false) → AreApart (if b then file ∷ files else files)
with_file true file files apart none = (none refl, apart)
with_file false file files apart none = apart

apart_then : (sizes : Sizes) (batch : Batch) (control : CleanControl) (found : ℕ) → AreApart batch.files → (control ≡ cleans.TakeStore → found ≡ 0 → holds_store batch (group_file sizes batch) ≡ false)
    → AreApart (files_then sizes batch control found)
apart_then sizes batch cleans.TakeStore found apart free = with_file (found == 0) (group_file sizes batch) batch.files apart (λ is. free refl (eqb-true found 0 is))
apart_then sizes batch cleans.Begin found apart free = apart
apart_then sizes batch cleans.TakeHeader found apart free = apart
apart_then sizes batch cleans.LoadStop found apart free = apart
apart_then sizes batch cleans.LoadTail found apart free = apart
apart_then sizes batch cleans.LoadHead found apart free = apart
apart_then sizes batch (cleans.LoadEntry i) found apart free = apart
apart_then sizes batch (cleans.TakeCleanup i) found apart free = apart
apart_then sizes batch (cleans.HoldEntry i) found apart free = apart
apart_then sizes batch (cleans.WriteBack i) found apart free = apart
apart_then sizes batch (cleans.CleanEntry i) found apart free = apart
apart_then sizes batch (cleans.SubtractDirty i) found apart free = apart
apart_then sizes batch (cleans.GiveCleanup i) found apart free = apart
apart_then sizes batch (cleans.ReturnEntry i end) found apart free = apart
apart_then sizes batch (cleans.ReturnFailed i end) found apart free = apart
apart_then sizes batch (cleans.UndoCleanup i) found apart free = apart
apart_then sizes batch cleans.Retire found apart free = apart
apart_then sizes batch (cleans.FreeEntry number) found apart free = apart
apart_then sizes batch cleans.AdvanceTail found apart free = apart
apart_then sizes batch (cleans.GiveStore file) found apart free = apart
apart_then sizes batch cleans.GiveHeader found apart free = apart
apart_then sizes batch cleans.GiveCleaner found apart free = apart
apart_then sizes batch cleans.GiveBack found apart free = apart
apart_then sizes batch cleans.Over found apart free = apart

-- ---- there is room for a cell that is taken

taken_last : (owned : List Word) (op : CoreCleanerOp) (found : ℕ) → last_taken owned ≡ Some op → TakesCell op found → length owned < most_cells
taken_last [] op found next takes = absurd (not_some next)
  where
    not_some : None ≡ Some op → ⊥
    not_some e = cc
taken_last (cell ∷ rest) op found next takes = go (is_lock cell) next
  where
    not_some : None ≡ Some op → ⊥
    not_some e = cc

    go : (b : Bool) → (if b then Some (cleaner.Give cell) else None) ≡ Some op → length (cell ∷ rest) < most_cells
    go true e = absurd (subst (λ o. TakesCell o found) (cleaner_op_is (cleaner.Give cell) op e) takes)
    go false e = absurd (not_some e)

pub takes_room : (sizes : Sizes) (owned : List Word) (batch : Batch) (control : CleanControl) (op : CoreCleanerOp) (found : ℕ) → IsPlain control → next_cleaner_op sizes owned batch (inner_at sizes batch control) ≡ Some op → TakesCell op found
    → OwnsAt owned control → length owned < most_cells
takes_room sizes owned batch cleans.TakeHeader op found plain next takes room = room
takes_room sizes owned batch (cleans.TakeCleanup i) op found plain next takes room = room
takes_room sizes owned batch cleans.TakeStore op found plain next takes room = room
takes_room sizes owned batch (cleans.HoldEntry i) op found plain next takes room = room
takes_room sizes owned batch cleans.GiveBack op found plain next takes room = taken_last owned op found next takes
takes_room sizes owned batch cleans.LoadStop op found plain next takes room = absurd (subst (λ o. TakesCell o found) (cleaner_op_is _ op next) takes)
takes_room sizes owned batch cleans.LoadTail op found plain next takes room = absurd (subst (λ o. TakesCell o found) (cleaner_op_is _ op next) takes)
takes_room sizes owned batch cleans.LoadHead op found plain next takes room = absurd (subst (λ o. TakesCell o found) (cleaner_op_is _ op next) takes)
takes_room sizes owned batch (cleans.LoadEntry i) op found plain next takes room = absurd (subst (λ o. TakesCell o found) (cleaner_op_is _ op next) takes)
takes_room sizes owned batch (cleans.CleanEntry i) op found plain next takes room = absurd (subst (λ o. TakesCell o found) (cleaner_op_is _ op next) takes)
takes_room sizes owned batch (cleans.SubtractDirty i) op found plain next takes room = absurd (subst (λ o. TakesCell o found) (cleaner_op_is _ op next) takes)
takes_room sizes owned batch (cleans.GiveCleanup i) op found plain next takes room = absurd (subst (λ o. TakesCell o found) (cleaner_op_is _ op next) takes)
takes_room sizes owned batch (cleans.ReturnEntry i end) op found plain next takes room = absurd (subst (λ o. TakesCell o found) (cleaner_op_is _ op next) takes)
takes_room sizes owned batch (cleans.ReturnFailed i end) op found plain next takes room = absurd (subst (λ o. TakesCell o found) (cleaner_op_is _ op next) takes)
takes_room sizes owned batch (cleans.UndoCleanup i) op found plain next takes room = absurd (subst (λ o. TakesCell o found) (cleaner_op_is _ op next) takes)
takes_room sizes owned batch (cleans.FreeEntry number) op found plain next takes room = absurd (subst (λ o. TakesCell o found) (cleaner_op_is _ op next) takes)
takes_room sizes owned batch cleans.AdvanceTail op found plain next takes room = absurd (subst (λ o. TakesCell o found) (cleaner_op_is _ op next) takes)
takes_room sizes owned batch (cleans.GiveStore file) op found plain next takes room = absurd (subst (λ o. TakesCell o found) (cleaner_op_is _ op next) takes)
takes_room sizes owned batch cleans.GiveHeader op found plain next takes room = absurd (subst (λ o. TakesCell o found) (cleaner_op_is _ op next) takes)
takes_room sizes owned batch cleans.GiveCleaner op found plain next takes room = absurd (subst (λ o. TakesCell o found) (cleaner_op_is _ op next) takes)
takes_room sizes owned batch cleans.Begin op found plain next takes room = absurd plain
takes_room sizes owned batch (cleans.WriteBack i) op found plain next takes room = absurd plain
takes_room sizes owned batch cleans.Retire op found plain next takes room = absurd plain
takes_room sizes owned batch cleans.Over op found plain next takes room = absurd plain

-- ---- the state that the pass has seen

module _ (sound : RunsAreSound) (now : PassState) (mount : IsMount (mount_of now.view.opened)) (run : IsRunOf now.view.opened now.view.run) where
  abbrev core : Core
  core = state_of now.view.opened now.view.run

  core_sound : Sound now.view.opened.sizes (mount_of now.view.opened).values core
  core_sound = sound (mount_of now.view.opened) now.view.run mount run

  module _ (stand : DueStepsStand now) (m : CleanState) (start : PassState) (way : IsUnderWay m start now) where
    abbrev sizes : Sizes
    sizes = now.view.opened.sizes

    abbrev inner : CleanerControl
    inner = inner_at sizes m.batch m.control

    pub plain_due : IsPlain m.control → (op : CoreCleanerOp) → next_cleaner_op sizes m.owned m.batch inner ≡ Some op → Precondition now None (CleanerStep op)
    plain_due plain op next = step_due (control_of sizes m) m.owned start now way.called m.batch inner op (plain_at sizes m.batch m.control plain) next

    pub plain_fits : IsPlain m.control → Fits sizes m
    plain_fits plain =
        fits_at sizes (mount_of now.view.opened).values core now.view.number core_sound m.batch m.control way.called.control_is
        (λ op next. (stand None (CleanerStep op) (plain_due plain op (ap (λ owned. next_cleaner_op sizes owned m.batch inner) (sym way.called.owned_is) ∙ next))).on)

    pub owns_fits : sizes.files ≤ mount_layout.file_limit → OwnsAt m.owned m.control
    owns_fits limit =
        subst (λ owned. OwnsAt owned m.control) way.called.owned_is (owns_at sizes (mount_of now.view.opened).values core now.view.number core_sound m.batch limit m.control way.called.control_is)

    module _ (plain : IsPlain m.control) (op : CoreCleanerOp) (found : ℕ) (new : PassState) (step : Postcondition now None (CleanerStep op) found new)
        (next : next_cleaner_op sizes m.owned m.batch inner ≡ Some op) where
      abbrev owned_then : List Word
      owned_then = moved (cleaner_move sizes op found) m.owned

      -- no device call came before it
      pub plain_works : step.works ≡ []
      plain_works = no_works sizes (values_of now.view) (pass_of now.view) step.works (subst IsCallFree (sym way.called.control_is) (plain_free sizes m.batch m.control plain)) step.due

      -- what its step tells
      pub plain_one : (s : Sizes) → s ≡ sizes → (then_is : CleanState) → then_is.refusal ≡ refusal_at s m.batch m.refusal m.control found → (IsEnd m.control → then_is.batch ≡ m.batch) → HasMadeOne s m then_is now new
      plain_one s same then_is refusal =
          has_made s m then_is now new (clean_kind m) None record {
            step = _;
            taken = made_one (control_of sizes m) m.owned start now way.called now (between_self now) op found new step;
            opens = refl;
            op = op;
            op_is = refl;
            kind_is = next_kind_is sizes m.owned m.batch m.control plain op next;
            refused = ap calls_refusal plain_works;
          } (λ well. refl) refusal (λ is. absurd (subst IsPlain is plain))

      plain_stands : (pass_worked sizes step.works (pass_of now.view)).control ≡ Cleaning m.batch inner
      plain_stands = ap (λ works. (pass_worked sizes works (pass_of now.view)).control) plain_works ∙ way.called.control_is ∙ plain_at sizes m.batch m.control plain

      -- the batch goes on with the core
      pub plain_on : InBatch (after_cleaner_op sizes owned_then m.batch inner found) owned_then start new
      plain_on =
          goes_on (control_of sizes m) m.owned start now way.called now (between_self now) op found new step
          (own_next (control_of sizes m) m.owned start now way.called now (between_self now) op found new step sizes m.batch inner plain_stands next) (Cleaning m.batch inner) plain_stands

      new_sound : Sound new.view.opened.sizes (mount_of new.view.opened).values (state_of new.view.opened new.view.run)
      new_sound =
          subst (λ (view : PassView). Sound view.opened.sizes (mount_of view.opened).values (state_of view.opened view.run)) (sym step.steps.is)
          (sound (mount_of now.view.opened) _ mount step.steps.is_run)

      -- the step is that of STORE where that is taken next
      taken_store : m.control ≡ cleans.TakeStore → op ≡ cleaner.Take (STORE (group_file sizes m.batch))
      taken_store at = cleaner_op_is (cleaner.Take (STORE (group_file sizes m.batch))) op (sym (ap (λ c. next_cleaner_op sizes m.owned m.batch (inner_at sizes m.batch c)) at) ∙ next)

      -- a STORE that was found free is none of the batch's
      store_free : m.control ≡ cleans.TakeStore → found ≡ 0 → op ≡ cleaner.Take (STORE (group_file sizes m.batch)) → holds_store m.batch (group_file sizes m.batch) ≡ false
      store_free at none is = free (holds_store m.batch (group_file sizes m.batch)) refl
        where
          owned_is : owned_then ≡ STORE (group_file sizes m.batch) ∷ m.owned
          owned_is = ap (λ o. moved (cleaner_move sizes o found) m.owned) is ∙ ap (λ f. moved (cleaner_move sizes (cleaner.Take (STORE (group_file sizes m.batch))) f) m.owned) none

          control_is : (pass_of new.view).control ≡ Cleaning (record m.batch { files = group_file sizes m.batch ∷ m.batch.files }) (cleaner.HoldEntry 0)
          control_is = plain_on.control_is ∙ ap (λ c. after_cleaner_op sizes owned_then m.batch (inner_at sizes m.batch c) found) at ∙ ap (after_cleaner_op sizes owned_then m.batch cleaner.TakeStore) none

          was : HoldsLocks sizes (pass_of now.view) (Cleaning m.batch cleaner.TakeStore)
          was = subst (HoldsLocks sizes (pass_of now.view)) (way.called.control_is ∙ ap (control_at sizes m.batch) at) (core_sound.ownership now.view.number).locks

          are : HoldsLocks new.view.opened.sizes (pass_of new.view) (Cleaning (record m.batch { files = group_file sizes m.batch ∷ m.batch.files }) (cleaner.HoldEntry 0))
          are = subst (HoldsLocks new.view.opened.sizes (pass_of new.view)) control_is (new_sound.ownership new.view.number).locks

          most_one : (b : Bool) → (if b then 1 else 0) ≤ 1
          most_one true = omega arith
          most_one false = omega arith

          free : (b : Bool) → holds_store m.batch (group_file sizes m.batch) ≡ b → holds_store m.batch (group_file sizes m.batch) ≡ false
          free false e = e
          free true e =
              let before : times (STORE (group_file sizes m.batch)) (pass_of now.view).owned ≡ (if holds_store m.batch (group_file sizes m.batch) then 1 else 0) = was (STORE (group_file sizes m.batch)) (λ slot e. cc) in
              let one : ◌≡◌ {A = ℕ} (if holds_store m.batch (group_file sizes m.batch) then 1 else 0) 1 = ap (λ b. if b then 1 else 0) e in
              let same_before : times (STORE (group_file sizes m.batch)) (pass_of now.view).owned ≡ times (STORE (group_file sizes m.batch)) m.owned = ap (times (STORE (group_file sizes m.batch))) way.called.owned_is in
              let after : times (STORE (group_file sizes m.batch)) (pass_of new.view).owned ≡ (if holds_store (record m.batch { files = group_file sizes m.batch ∷ m.batch.files }) (group_file sizes m.batch) then 1 else 0) = are (STORE (group_file sizes m.batch)) (λ slot e. cc) in
              let most = most_one (holds_store (record m.batch { files = group_file sizes m.batch ∷ m.batch.files }) (group_file sizes m.batch)) in
              let same_after : times (STORE (group_file sizes m.batch)) (pass_of new.view).owned ≡ times (STORE (group_file sizes m.batch)) (STORE (group_file sizes m.batch) ∷ m.owned) = ap (times (STORE (group_file sizes m.batch))) (plain_on.owned_is ∙ owned_is) in
              let here = times_here (STORE (group_file sizes m.batch)) m.owned in
              absurd (omega (arith, before, one, same_before, after, most, same_after, here))

      -- there is room for its file among those that the batch holds
      pub store_room : sizes.files ≤ mount_layout.file_limit → m.control ≡ cleans.TakeStore → found ≡ 0 → length m.batch.files < mount_layout.file_limit
      store_room limit at none =
          let few = apart_few (group_file sizes m.batch ∷ m.batch.files) sizes.files (store_free at none (taken_store at), way.apart) (λ file is. there file (group_file sizes m.batch == file) refl is) in
          omega (arith, few, limit)
        where
          stands : (pass_of now.view).control ≡ Cleaning m.batch cleaner.TakeStore
          stands = way.called.control_is ∙ ap (control_at sizes m.batch) at

          there : (file : ℕ) (b : Bool) → (group_file sizes m.batch == file) ≡ b → (b || holds_store m.batch file) ≡ true → file < sizes.files
          there file true is one =
              let fits : (0 < length m.batch.pages) × (group_file sizes m.batch < sizes.files) = subst (FitsAt sizes m.batch) at (plain_fits plain) in
              subst (λ f. f < sizes.files) (eqb-true (group_file sizes m.batch) file is) fits.1
          there file false is one = stores_there sizes (mount_of now.view.opened).values core now.view.number core_sound m.batch cleaner.TakeStore stands tt file one

      -- how many entries the group at hand has is known
      pub is_counted : IsCounted m.batch m.control found
      is_counted = go m.control refl
        where
          -- it has passed its leader
          counts : (i : ℕ) → m.control ≡ cleans.LoadEntry i → i ≡ 0 → may_pass m.batch found ≡ true → (1 ≤ count_of found) × (count_of found ≤ mount_layout.group_limit)
          counts i at none passes = by_next (nat_lt (0 + 1) (count_of found)) refl
            where
              after : Batch
              after = batch_with_page m.batch 0 found

              some : 0 < length (m.batch.pages ++ page_of found ∷ [])
              some = let more = length-append m.batch.pages (page_of found ∷ []) in omega (arith, more)

              control_is : (pass_of new.view).control ≡ surveyed after 0
              control_is = plain_on.control_is ∙ ap (λ c. after_cleaner_op sizes owned_then m.batch (inner_at sizes m.batch c) found) (at ∙ ap (λ i. cleans.LoadEntry i) none)
                  ∙ ap (λ b. if not b then finishing sizes owned_then m.batch else surveyed after 0) passes

              by_next : (b : Bool) → nat_lt (0 + 1) (count_of found) ≡ b → (1 ≤ count_of found) × (count_of found ≤ mount_layout.group_limit)
              by_next true is =
                  fact_counts new.view.opened.sizes (mount_of new.view.opened).values (state_of new.view.opened new.view.run) new.view.number new_sound after (cleaner.LoadEntry (0 + 1))
                  (control_is ∙ ap (λ b. if b then Cleaning after (cleaner.LoadEntry (0 + 1)) else Cleaning after (cleaner.TakeCleanup 0)) is) tt some
              by_next false is =
                  fact_counts new.view.opened.sizes (mount_of new.view.opened).values (state_of new.view.opened new.view.run) new.view.number new_sound after (cleaner.TakeCleanup 0)
                  (control_is ∙ ap (λ b. if b then Cleaning after (cleaner.LoadEntry (0 + 1)) else Cleaning after (cleaner.TakeCleanup 0)) is) tt some

          follows : (i : ℕ) → m.control ≡ cleans.LoadEntry i → (i ≡ 0 → ⊥) → i < m.batch.count
          follows zero at some = absurd (some refl)
          follows (suc i) at some =
              let facts : (length m.batch.pages ≡ suc i) × (suc i < m.batch.count) = subst (FactsAt sizes (pass_of now.view)) (way.called.control_is ∙ ap (control_at sizes m.batch) at) (core_sound.control_facts now.view.number).at in facts.1

          go : (control : CleanControl) → m.control ≡ control → IsCounted m.batch control found
          go (cleans.LoadEntry i) at = (counts i at, follows i at)
          go cleans.Begin at = tt
          go cleans.TakeHeader at = tt
          go cleans.LoadStop at = tt
          go cleans.LoadTail at = tt
          go cleans.LoadHead at = tt
          go (cleans.TakeCleanup i) at = tt
          go cleans.TakeStore at = tt
          go (cleans.HoldEntry i) at = tt
          go (cleans.WriteBack i) at = tt
          go (cleans.CleanEntry i) at = tt
          go (cleans.SubtractDirty i) at = tt
          go (cleans.GiveCleanup i) at = tt
          go (cleans.ReturnEntry i end) at = tt
          go (cleans.ReturnFailed i end) at = tt
          go (cleans.UndoCleanup i) at = tt
          go cleans.Retire at = tt
          go (cleans.FreeEntry number) at = tt
          go cleans.AdvanceTail at = tt
          go (cleans.GiveStore file) at = tt
          go cleans.GiveHeader at = tt
          go cleans.GiveCleaner at = tt
          go cleans.GiveBack at = tt
          go cleans.Over at = tt

      -- and they stay apart
      pub files_apart : AreApart (files_then sizes m.batch m.control found)
      files_apart = apart_then sizes m.batch m.control found way.apart (λ at none. store_free at none (taken_store at))

      -- ---- and so it is of what the machine has at hand

      abbrev IsThen : CleanState → List Word → Sizes → Type 0
      IsThen then_is owns s =
          owns ≡ moved (cleaner_move s op found) m.owned → then_is.owned ≡ owns
          → control_of s then_is ≡ after_cleaner_op s owns m.batch (inner_at s m.batch m.control) found → then_is.batch.files ≡ files_then s m.batch m.control found
          → IsUnderWay then_is start new

      is_then : (then_is : CleanState) (owns : List Word) → IsBegun then_is.control → IsThen then_is owns sizes
      is_then then_is owns begun move owned control files = record {
        called = subst (λ (o : Opened). InBatch (control_of o.sizes then_is) then_is.owned start new) (sym (opened_same now new None (CleanerStep op) found step))
            (subst (λ c. InBatch c then_is.owned start new) (sym (control ∙ ap (λ o. after_cleaner_op sizes o m.batch inner found) move))
            (subst (λ o. InBatch (after_cleaner_op sizes owned_then m.batch inner found) o start new) (sym (owned ∙ move)) plain_on));
        apart = subst AreApart (sym files) files_apart;
        fresh = λ at. absurd (subst IsBegun at begun);
      }

      pub way_then : (s : Sizes) → s ≡ sizes → (then_is : CleanState) (owns : List Word) → IsBegun then_is.control → IsThen then_is owns s
      way_then s same then_is owns begun = subst (IsThen then_is owns) (sym same) (is_then then_is owns begun)

-- ---- its first step

module _ (now : PassState) (m : CleanState) (at : m.control ≡ cleans.Begin) (start : PassState) (way : IsUnderWay m start now) (found : ℕ) (new : PassState) (step : Postcondition now None (CleanerStep (TakeCleaner m.batch.most)) found new) where
  -- where it has made no step the pass is idle
  begin_idle : (was : PassState) → was ≡ start → Postcondition was None (CleanerStep (TakeCleaner m.batch.most)) found new
      → InBatch (if found == 0 then Cleaning (new_batch m.batch.most) cleaner.TakeHeader else Idle) (moved (if found == 0 then Comes CLEANER else Stays) []) start new
  begin_idle was same taken =
      begins_on m.batch.most found start new way.called.idle (subst (λ p. Postcondition p None (CleanerStep (TakeCleaner m.batch.most)) found new) same taken)

  begin_on : InBatch (if found == 0 then Cleaning (new_batch m.batch.most) cleaner.TakeHeader else Idle) (moved (if found == 0 then Comes CLEANER else Stays) []) start new
  begin_on = begin_idle now (way.fresh at).2 step

  begin_works : step.works ≡ []
  begin_works = no_works now.view.opened.sizes (values_of now.view) (pass_of now.view) step.works
      (subst IsCallFree (sym (ap (λ (p : PassState). (pass_of p.view).control) (way.fresh at).2 ∙ way.called.idle.control)) idle_free) step.due

  opened_then : new.view.opened ≡ now.view.opened
  opened_then = opened_same now new None (CleanerStep (TakeCleaner m.batch.most)) found step

  begin_one : (sizes : Sizes) (then_is : CleanState) → then_is.refusal ≡ refusal_at sizes m.batch m.refusal cleans.Begin found → HasMadeOne sizes m then_is now new
  begin_one sizes then_is refusal =
      has_made sizes m then_is now new Take None record {
        step = _;
        taken = made_one _ m.owned start now way.called now (between_self now) (TakeCleaner m.batch.most) found new step;
        opens = refl;
        op = TakeCleaner m.batch.most;
        op_is = refl;
        kind_is = refl;
        refused = ap calls_refusal begin_works;
      } (λ well. sym (ap (kind_at m.batch) at)) (refusal ∙ ap (λ control. refusal_at sizes m.batch m.refusal control found) (sym at)) (λ is. refl) (λ is. absurd (subst IsEnd at is))

  pub one_free : found ≡ 0 → (sizes : Sizes) (then_is : CleanState) → then_is.refusal ≡ m.refusal → (was : CleanState) → m ≡ was → HasMadeOne sizes was then_is now new
  one_free none sizes then_is refusal was same =
      subst (λ m. HasMadeOne sizes m then_is now new) same
      (begin_one sizes then_is (refusal ∙ sym (ap (λ b. if b then m.refusal else first_refusal m.batch m.refusal (Busy 5)) (eq-eqb found 0 none))))

  pub one_held : found ≢ 0 → (sizes : Sizes) (then_is : CleanState) → then_is.refusal ≡ first_refusal m.batch m.refusal (Busy 5) → (was : CleanState) → m ≡ was → HasMadeOne sizes was then_is now new
  one_held some sizes then_is refusal was same =
      subst (λ m. HasMadeOne sizes m then_is now new) same
      (begin_one sizes then_is (refusal ∙ sym (ap (λ b. if b then m.refusal else first_refusal m.batch m.refusal (Busy 5)) (ne_eqb found 0 some))))

  -- CLEANER was free
  pub begin_free : found ≡ 0 → (then_is : CleanState) → then_is.control ≡ cleans.TakeHeader → then_is.batch ≡ m.batch → then_is.owned ≡ moved (if found == 0 then Comes CLEANER else Stays) m.owned → IsUnderWay then_is start new
  begin_free none then_is control batch owned = record {
    called = subst (λ c. InBatch c then_is.owned start new) (sym control_is) (subst (λ o. InBatch (Cleaning (new_batch m.batch.most) cleaner.TakeHeader) o start new) (sym owned_is)
        (subst (λ b. InBatch (if b then Cleaning (new_batch m.batch.most) cleaner.TakeHeader else Idle) (moved (if found == 0 then Comes CLEANER else Stays) []) start new) (eq-eqb found 0 none) begin_on));
    apart = subst (λ (b : Batch). AreApart b.files) (sym batch) way.apart;
    fresh = λ is. absurd (subst IsBegun (sym control ∙ is) tt);
  }
    where
      control_is : control_of new.view.opened.sizes then_is ≡ Cleaning (new_batch m.batch.most) cleaner.TakeHeader
      control_is = ap (control_at new.view.opened.sizes then_is.batch) control ∙ ap (λ b. Cleaning b cleaner.TakeHeader) (batch ∙ (way.fresh at).1)

      owned_is : then_is.owned ≡ moved (if found == 0 then Comes CLEANER else Stays) []
      owned_is = owned ∙ ap (moved (if found == 0 then Comes CLEANER else Stays)) (way.fresh at).0

  -- and where it was held the batch is over
  pub begin_held : found ≢ 0 → (then_is : CleanState) → then_is.control ≡ cleans.Over → then_is.batch ≡ m.batch → then_is.owned ≡ moved (if found == 0 then Comes CLEANER else Stays) m.owned → IsUnderWay then_is start new
  begin_held some then_is control batch owned = record {
    called = subst (λ c. InBatch c then_is.owned start new) (sym (ap (control_at new.view.opened.sizes then_is.batch) control)) (subst (λ o. InBatch Idle o start new) (sym owned_is)
        (subst (λ b. InBatch (if b then Cleaning (new_batch m.batch.most) cleaner.TakeHeader else Idle) (moved (if found == 0 then Comes CLEANER else Stays) []) start new) (ne_eqb found 0 some) begin_on));
    apart = subst (λ (b : Batch). AreApart b.files) (sym batch) way.apart;
    fresh = λ is. absurd (subst IsBegun (sym control ∙ is) tt);
  }
    where
      owned_is : then_is.owned ≡ moved (if found == 0 then Comes CLEANER else Stays) []
      owned_is = owned ∙ ap (moved (if found == 0 then Comes CLEANER else Stays)) (way.fresh at).0
