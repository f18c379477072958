-- Answers: what a machine notes of its batch is what the batch's steps came to.
use Rattle.std.proofs.Common.{◌≡◌, ◌⊎◌, inl, inr, ℕ, ◌+◌, ◌==◌, Bool, true, false, if◌then◌else◌, List, [], ◌∷◌, refl, sym, ap, ap₂, subst, ◌∙◌}
use Rattle.std.specs.Prelude.{Some, None, is_some}
use Rattle.nv_core.specs.state.Words.{Sizes, Word, STOP, HEAD, TAIL, HEADER, STORE, ENTRY, CLEANER, CLEANUP, place, slot_of_entry}
use Rattle.nv_core.specs.state.Cleaner.{Batch, CleanerControl, TakeHeader, LoadTail, LoadHead, WriteBack, CleanEntry, SubtractDirty, RefusedReturnEntry, FailedReturnEntry, RefusedGiveCleanup, SyncStores, MoveHeaderTail, FreeEntry, AdvanceTail, GiveStores, GiveHeader, GiveCleaner, SetStop, CleanerOp, TakeCleaner, Clean, Subtract, Free, MoveTail}
use Rattle.nv_core.specs.state.Cleaner as cleaner
use Rattle.nv_core.specs.state.Passes.{Control, Idle, Cleaning, Pass}
use Rattle.nv_core.specs.steps.CleanerSteps.{group_file, group_page, new_batch, next_cleaner_op}
use Rattle.nv_core.specs.steps.ControlSteps.{after_by_cleaner}
use Rattle.nv_core.specs.steps.Frames.{OwnEventsTell}
use Rattle.nv_core.specs.steps.Opening.{IsMount}
use Rattle.nv_core.specs.steps.Ops.{Op, ByCleaner, cleaner_move, moved}
use Rattle.nv_core.specs.steps.Order.{Work, IsBatchEntry, next_step, step_at}
use Rattle.nv_core.specs.invariant.InvariantLaws.{RunsAreSound}
use Rattle.nv_core.proofs.invariant.CleanerLocks.{cleaner_op_is}
use Rattle.nv_core.proofs.state.Choices.{if_both}
use Rattle.nv_table.specs.state.Opened.{Opened, mount_of}
use Rattle.nv_table.specs.state.States.{PassState}
use Rattle.nv_table.specs.state.Views.{PassView, pass_of, values_of}
use Rattle.nv_table.specs.steps.SeatSteps.{pass_worked}
use Rattle.nv_mirror.specs.PassSteps.{PassStep, HasMade, HasTaken}
use Rattle.nv_clean.specs.declared.batch.CleanRefusal.TheVariants.{Busy}
use Rattle.nv_clean.specs.Answers.{is_stop, retired_by}
use Rattle.nv_clean.specs.Cleaning.{calls_refusal}
use Rattle.nv_clean.specs.OwnSteps.{AreOwn, comes_in_batch, is_own}
use Rattle.nv_clean.proofs.TellLaws.{Amid, Tells, last_give}
use Rattle.nv_clean.proofs.ToldLaws.{is_made, mid_pass, none_due, one_step, told_then, works_on}

-- ---- what the next step of a batch is

abbrev pub stops_at : CleanerControl → Bool
stops_at (SetStop held) = true
stops_at inner = false

abbrev pub moves_at : CleanerControl → Bool
moves_at AdvanceTail = true
moves_at inner = false

pub record OpTold (inner : CleanerControl) (op : CleanerOp) : Type 0 where
  pub own : comes_in_batch (ByCleaner op) ≡ true
  pub stops : is_stop (ByCleaner op) ≡ stops_at inner
  pub moves : (tail : ℕ) → moves_at inner ≡ false → retired_by (ByCleaner op) tail ≡ None

told_as : (inner : CleanerControl) (one op : CleanerOp) → Some one ≡ Some op → comes_in_batch (ByCleaner one) ≡ true → is_stop (ByCleaner one) ≡ stops_at inner → ((tail : ℕ) → moves_at inner ≡ false → retired_by (ByCleaner one) tail ≡ None) → OpTold inner op
told_as inner one op next own stops moves = subst (OpTold inner) (sym (cleaner_op_is one op next)) record { own = own; stops = stops; moves = moves }

module _ (sizes : Sizes) (owned : List Word) (batch : Batch) where
  pub op_told : (inner : CleanerControl) (op : CleanerOp) → next_cleaner_op sizes owned batch inner ≡ Some op → OpTold inner op
  op_told TakeHeader op next = told_as TakeHeader (cleaner.Take HEADER) op next refl refl (λ tail plain. refl)
  op_told cleaner.LoadStop op next = told_as cleaner.LoadStop (cleaner.Load STOP) op next refl refl (λ tail plain. refl)
  op_told LoadTail op next = told_as LoadTail (cleaner.Load TAIL) op next refl refl (λ tail plain. refl)
  op_told LoadHead op next = told_as LoadHead (cleaner.Load HEAD) op next refl refl (λ tail plain. refl)
  op_told (cleaner.LoadEntry i) op next = told_as (cleaner.LoadEntry i) (cleaner.Load (ENTRY (slot_of_entry sizes (batch.reached + i)))) op next refl refl (λ tail plain. refl)
  op_told (cleaner.TakeCleanup i) op next = told_as (cleaner.TakeCleanup i) (cleaner.Take (CLEANUP (group_page batch i))) op next refl refl (λ tail plain. refl)
  op_told cleaner.TakeStore op next = told_as cleaner.TakeStore (cleaner.Take (STORE (group_file sizes batch))) op next refl refl (λ tail plain. refl)
  op_told (cleaner.HoldEntry i) op next = told_as (cleaner.HoldEntry i) (cleaner.Hold (batch.reached + i)) op next refl refl (λ tail plain. refl)
  op_told (CleanEntry i) op next = told_as (CleanEntry i) (Clean (batch.reached + i)) op next refl refl (λ tail plain. refl)
  op_told (SubtractDirty i) op next = told_as (SubtractDirty i) (Subtract (group_page batch i)) op next refl refl (λ tail plain. refl)
  op_told (cleaner.GiveCleanup i) op next = told_as (cleaner.GiveCleanup i) (cleaner.Give (CLEANUP (group_page batch i))) op next refl refl (λ tail plain. refl)
  op_told (RefusedReturnEntry i end) op next = told_as (RefusedReturnEntry i end) (cleaner.Return (batch.reached + i)) op next refl refl (λ tail plain. refl)
  op_told (FailedReturnEntry i end) op next = told_as (FailedReturnEntry i end) (cleaner.Return (batch.reached + i)) op next refl refl (λ tail plain. refl)
  op_told (RefusedGiveCleanup i) op next = told_as (RefusedGiveCleanup i) (cleaner.Give (CLEANUP (group_page batch i))) op next refl refl (λ tail plain. refl)
  op_told (FreeEntry number) op next = told_as (FreeEntry number) (Free number) op next refl refl (λ tail plain. refl)
  op_told AdvanceTail op next = told_as AdvanceTail (MoveTail batch.reached) op next refl refl (λ tail plain. absurd (cc))
  op_told (GiveStores (file ∷ rest)) op next = told_as (GiveStores (file ∷ rest)) (cleaner.Give (STORE file)) op next refl refl (λ tail plain. refl)
  op_told GiveHeader op next = told_as GiveHeader (cleaner.Give HEADER) op next refl refl (λ tail plain. refl)
  op_told GiveCleaner op next = told_as GiveCleaner (cleaner.Give CLEANER) op next refl refl (λ tail plain. refl)
  op_told (SetStop held) op next = told_as (SetStop held) cleaner.Stop op next refl refl (λ tail plain. refl)
  op_told cleaner.GiveBack op next = let gave = last_give owned op next in told_as cleaner.GiveBack (cleaner.Give gave.0) op (ap Some (sym gave.1)) refl refl (λ tail plain. refl)
  op_told inner op next = absurd (cc)

-- ---- a step

pub none_next : {T : Type 0} {value : T} → None ≡ Some value → ⊥
none_next e = cc

pub no_first : (op : CleanerOp) → comes_in_batch (ByCleaner op) ≡ true → IsBatchEntry (ByCleaner op) Idle → ⊥
no_first (TakeCleaner most) own entry = cc
no_first op own entry = entry

module _ (sound : RunsAreSound) (tell : OwnEventsTell) (old new : PassState) (works : List Work) (op : CleanerOp) (found : ℕ)
    (taken : HasTaken record { opens = None; works = works; op = ByCleaner op; found = found } old new) (mount : IsMount (mount_of old.view.opened)) where
  abbrev sizes : Sizes
  sizes = taken.before.view.opened.sizes

  abbrev mid : Pass
  mid = mid_pass sound tell old new works op found taken mount

  -- behind its device calls
  pub amid : (steps : List PassStep) → Tells sizes (pass_of taken.before.view).control steps → Amid sizes mid.control steps (calls_refusal works)
  amid steps t = subst (λ w. Amid sizes mid.control steps (calls_refusal w)) taken.works_are (works_on sizes steps taken.stepped.works (values_of taken.before.view) (pass_of taken.before.view) None t taken.stepped.due)

  next_any : (steps : List PassStep) → comes_in_batch (ByCleaner op) ≡ true → (control : Control) → mid.control ≡ control → Amid sizes control steps (calls_refusal works)
      → Tells sizes (pass_of new.view).control (one_step sound tell old new works op found taken mount ∷ steps)
  next_any steps own (Cleaning batch inner) at t = told_then sound tell old new works op found taken mount steps batch inner at t.0 t.1
  next_any steps own Idle at t =
      elim (subst (λ (p : Pass). (next_step sizes (is_made sound tell old new works op found taken mount).core.values p ≡ Some (ByCleaner op)) ⊎ IsBatchEntry (ByCleaner op) p.control) (is_made sound tell old new works op found taken mount).own (is_made sound tell old new works op found taken mount).may.may) [
        | inl next ↦ absurd (none_next (sym (ap (step_at sizes (is_made sound tell old new works op found taken mount).core.values mid) at) ∙ next))
        | inr entry ↦ absurd (no_first op own (subst (IsBatchEntry (ByCleaner op)) at entry))
      ]
  next_any steps own control at t = absurd t

  pub tells_next : (steps : List PassStep) → comes_in_batch (ByCleaner op) ≡ true → Tells sizes (pass_of taken.before.view).control steps → Tells sizes (pass_of new.view).control (one_step sound tell old new works op found taken mount ∷ steps)
  tells_next steps own t = next_any steps own mid.control refl (amid steps t)

  -- the first one
  pub works_none : (pass_of taken.before.view).control ≡ Idle → taken.stepped.works ≡ []
  works_none at = none_due sizes taken.stepped.works (values_of taken.before.view) (pass_of taken.before.view) Idle at (λ kept work due. due) taken.stepped.due

  pub tells_first : (pass_of taken.before.view).control ≡ Idle → (most : ℕ) → op ≡ TakeCleaner most → Tells sizes (pass_of new.view).control (one_step sound tell old new works op found taken mount ∷ [])
  tells_first at most first = subst (λ c. Tells sizes c (one_step sound tell old new works op found taken mount ∷ [])) (sym control_is) (subst (λ o. Tells sizes (begun_by o) (record { opens = None; works = works; op = ByCleaner o; found = found } ∷ [])) (sym first) begins)
    where
      begun_by : CleanerOp → Control
      begun_by o = after_by_cleaner sizes (moved (cleaner_move sizes o found) mid.owned) o found Idle

      control_is : (pass_of new.view).control ≡ begun_by op
      control_is = ap (λ (p : Pass). p.control) taken.stepped.pass ∙ ap (after_by_cleaner sizes (moved (cleaner_move sizes op found) mid.owned) op found) (ap (λ w. (pass_worked sizes w (pass_of taken.before.view)).control) (works_none at) ∙ at)

      begins : Tells sizes (begun_by (TakeCleaner most)) (record { opens = None; works = works; op = ByCleaner (TakeCleaner most); found = found } ∷ [])
      begins =
          if_both (λ c. Tells sizes c (record { opens = None; works = works; op = ByCleaner (TakeCleaner most); found = found } ∷ [])) (found == 0) (Cleaning (new_batch most) TakeHeader) Idle
          (λ e. ((record { tail_is = refl; cleaned_is = refl; refused_is = ap (λ b. is_some (if b then None else Some (Busy (place sizes CLEANER)))) e; retired_is = refl; freed_is = refl }, tt), refl))
          (λ e. (inl (ap (λ b. is_some (if b then None else Some (Busy (place sizes CLEANER)))) e, refl, refl), refl))

-- ---- all steps of a batch

pub own_is : (earlier : List PassStep) (op : Op) → is_own earlier op ≡ true → (one : CleanerOp) × (op ≡ ByCleaner one)
own_is [] (ByCleaner one) own = (one, refl)
own_is [] op own = absurd (cc)
own_is (step ∷ earlier) (ByCleaner one) own = (one, refl)
own_is (step ∷ earlier) op own = absurd (cc)

pub first_is : (op : CleanerOp) → is_own [] (ByCleaner op) ≡ true → (most : ℕ) × (op ≡ TakeCleaner most)
first_is (TakeCleaner most) own = (most, refl)
first_is op own = absurd (cc)

abbrev shaped : PassStep → CleanerOp → PassStep
shaped step op = record { opens = None; works = step.works; op = ByCleaner op; found = step.found }

-- it is of that shape
pub shape : (step : PassStep) (op : CleanerOp) → step.opens ≡ None → step.op ≡ ByCleaner op → step ≡ record { opens = None; works = step.works; op = ByCleaner op; found = step.found }
shape step op opens is = ap₂ (λ o p. record { opens = o; works = step.works; op = p; found = step.found }) opens is

pub made_opened : (steps : List PassStep) (start now : PassState) → HasMade steps start now → now.view.opened ≡ start.view.opened
made_opened [] start now same = ap (λ (p : PassState). p.view.opened) same
made_opened (step ∷ earlier) start now made =
    ap (λ (v : PassView). v.opened) made.2.stepped.steps.is ∙ ap (λ (v : PassView). v.opened) made.2.between.view ∙ made_opened earlier start made.0 made.1

module _ (sound : RunsAreSound) (tell : OwnEventsTell) (start : PassState) (mount : IsMount (mount_of start.view.opened)) (idle : (pass_of start.view).control ≡ Idle) where
  abbrev first_sizes : Sizes
  first_sizes = start.view.opened.sizes

  -- one more
  more : (step : PassStep) (earlier : List PassStep) (old now : PassState) → HasMade earlier start old → HasTaken step old now → step.opens ≡ None → is_own earlier step.op ≡ true
      → (earlier ≡ [] → (pass_of old.view).control ≡ Idle) → ((earlier ≡ [] → ⊥) → Tells first_sizes (pass_of old.view).control earlier) → Tells first_sizes (pass_of now.view).control (step ∷ earlier)
  more step earlier old now made taken opens own first told =
      let op = own_is earlier step.op own in
      by_shape op.0 (shape step op.0 opens op.1) earlier refl (subst (λ o. is_own earlier o ≡ true) op.1 own)
    where
      opened : old.view.opened ≡ start.view.opened
      opened = made_opened earlier start old made

      mount_old : IsMount (mount_of old.view.opened)
      mount_old = subst (λ (o : Opened). IsMount (mount_of o)) (sym opened) mount

      not_empty : {other : PassStep} {rest : List PassStep} → other ∷ rest ≡ [] → ⊥
      not_empty e = cc

      taken_as : (op : CleanerOp) → step ≡ record { opens = None; works = step.works; op = ByCleaner op; found = step.found } → HasTaken (record { opens = None; works = step.works; op = ByCleaner op; found = step.found }) old now
      taken_as op is = subst (λ s. HasTaken s old now) is taken

      same_sizes : (op : CleanerOp) (is : step ≡ record { opens = None; works = step.works; op = ByCleaner op; found = step.found }) → (taken_as op is).before.view.opened.sizes ≡ first_sizes
      same_sizes op is = ap (λ (v : PassView). v.opened.sizes) (taken_as op is).between.view ∙ ap (λ (o : Opened). o.sizes) opened

      conv : (s : Sizes) → s ≡ first_sizes → (one : PassStep) → step ≡ one → (steps : List PassStep) → earlier ≡ steps → Tells s (pass_of now.view).control (one ∷ steps) → Tells first_sizes (pass_of now.view).control (step ∷ earlier)
      conv s sizes_are one is steps same t =
          subst (λ e. Tells first_sizes (pass_of now.view).control (step ∷ e)) (sym same) (subst (λ x. Tells first_sizes (pass_of now.view).control (x ∷ steps)) (sym is) (subst (λ z. Tells z (pass_of now.view).control (one ∷ steps)) sizes_are t))

      by_shape : (op : CleanerOp) → step ≡ record { opens = None; works = step.works; op = ByCleaner op; found = step.found } → (steps : List PassStep) → earlier ≡ steps → is_own earlier (ByCleaner op) ≡ true → Tells first_sizes (pass_of now.view).control (step ∷ earlier)
      by_shape op is [] same own_op =
          let one = first_is op (subst (λ e. is_own e (ByCleaner op) ≡ true) same own_op) in
          conv (taken_as op is).before.view.opened.sizes (same_sizes op is) _ is [] same
          (tells_first sound tell old now step.works op step.found (taken_as op is) mount_old (ap (λ (v : PassView). (pass_of v).control) (taken_as op is).between.view ∙ first same) one.0 one.1)
      by_shape op is (other ∷ rest) same own_op =
          conv (taken_as op is).before.view.opened.sizes (same_sizes op is) _ is (other ∷ rest) same
          (tells_next sound tell old now step.works op step.found (taken_as op is) mount_old (other ∷ rest) (subst (λ e. is_own e (ByCleaner op) ≡ true) same own_op)
          (subst (λ (v : PassView). Tells v.opened.sizes (pass_of v).control (other ∷ rest)) (sym (taken_as op is).between.view)
          (subst (λ (o : Opened). Tells o.sizes (pass_of old.view).control (other ∷ rest)) (sym opened)
          (subst (Tells first_sizes (pass_of old.view).control) same (told (λ none. not_empty (sym same ∙ none)))))))

  pub tells_all : (steps : List PassStep) (now : PassState) → HasMade steps start now → AreOwn steps → (steps ≡ [] → ⊥) → Tells first_sizes (pass_of now.view).control steps
  tells_all [] now made own some = absurd (some refl)
  tells_all (step ∷ earlier) now made own some =
      more step earlier made.0 now made.1 made.2 own.0 own.1 (λ none. ap (λ (p : PassState). (pass_of p.view).control) (subst (λ e. HasMade e start made.0) none made.1) ∙ idle) (tells_all earlier made.0 made.1 own.2)
