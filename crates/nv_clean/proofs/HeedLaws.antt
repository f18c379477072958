-- Heeds: the batch of a pass that has seen STOP set comes no further than its load of STOP.
use Rattle.std.proofs.Common.{◌≡◌, ◌⊎◌, inl, inr, ℕ, ◌==◌, Bool, true, false, if◌then◌else◌, List, [], ◌∷◌, refl, sym, ap, ap₂, subst, ◌∙◌}
use Rattle.std.specs.Prelude.{Option, Some, None}
use Rattle.nv_core.specs.state.Words.{Sizes, Word, STOP, CLEANER, HEADER, place}
use Rattle.nv_core.specs.state.Cleaner.{Batch, CleanerControl, TakeHeader, CleanerOp, TakeCleaner, LoadTail}
use Rattle.nv_core.specs.state.Cleaner as cleaner
use Rattle.nv_core.specs.state.Passes.{Control, Idle, Cleaning, Pass}
use Rattle.nv_core.specs.steps.CleanerSteps.{after_cleaner_op, new_batch, withdrawing}
use Rattle.nv_core.specs.steps.ControlSteps.{after_by_cleaner}
use Rattle.nv_core.specs.steps.Frames.{OwnEventsTell}
use Rattle.nv_core.specs.steps.Opening.{IsMount}
use Rattle.nv_core.specs.steps.Ops.{ByCleaner, cleaner_move, moved, word_of}
use Rattle.nv_core.specs.steps.Order.{Values, Work, CleanerCallDue, IsBatchEntry, next_step, step_at}
use Rattle.nv_core.specs.steps.PassSteps.{stopped_after}
use Rattle.nv_core.specs.invariant.InvariantLaws.{RunsAreSound}
use Rattle.nv_core.proofs.invariant.CleanerLocks.{cleaner_op_is}
use Rattle.nv_table.specs.state.Opened.{Opened, mount_of}
use Rattle.nv_table.specs.state.States.{PassState}
use Rattle.nv_table.specs.state.Views.{PassView, pass_of, values_of}
use Rattle.nv_table.specs.steps.SeatSteps.{pass_worked}
use Rattle.nv_table.proofs.invariant.DrawnLaws.{calls_leave}
use Rattle.nv_mirror.specs.PassSteps.{PassStep, HasMade, HasTaken, either_of}
use Rattle.nv_clean.specs.declared.batch.CleanRefusal.{CleanRefusal}
use Rattle.nv_clean.specs.declared.batch.CleanRefusal.TheVariants.{Busy, Stopped}
use Rattle.nv_clean.specs.Answers.{BeginsWith, busy_at, cleans_in, refusal_in, refused_by, tail_in}
use Rattle.nv_clean.specs.Heeds.{HasSeenStop, IsHeld}
use Rattle.nv_clean.specs.OwnSteps.{AreOwn, comes_in_batch, is_own}
use Rattle.nv_clean.proofs.AnswerLaws.{made_opened, no_first, none_next, own_is, shape, tells_all, works_none}
use Rattle.nv_clean.proofs.TellLaws.{Tells, last_give, unpassed}
use Rattle.nv_clean.proofs.ToldLaws.{at_core, by_core, is_made, mid_pass, none_due}

-- ---- what it has seen stays seen

kept_if : (b one : Bool) → one ≡ true → (if b then one else true) ≡ true
kept_if true one seen = seen
kept_if false one seen = refl

stays_stopped : (pass : Pass) (op : CleanerOp) (found : ℕ) → pass.stopped ≡ true → stopped_after pass (ByCleaner op) found ≡ true
stays_stopped pass (cleaner.Load STOP) found seen = kept_if (found == 0) pass.stopped seen
stays_stopped pass cleaner.Stop found seen = refl
stays_stopped pass op found seen = seen

-- ---- where it stands

abbrev HeldBy : Sizes → Option CleanRefusal → Type 0
HeldBy sizes None = ⊥
HeldBy sizes (Some refusal) = IsHeld sizes refusal

abbrev pub Heeds : Sizes → Control → Option CleanRefusal → Type 0
Heeds sizes (Cleaning batch TakeHeader) refusal = refusal ≡ None
Heeds sizes (Cleaning batch cleaner.LoadStop) refusal = refusal ≡ None
Heeds sizes (Cleaning batch cleaner.GiveBack) refusal = HeldBy sizes refusal
Heeds sizes Idle refusal = HeldBy sizes refusal
Heeds sizes control refusal = ⊥

held_more : (sizes : Sizes) (one other : Option CleanRefusal) → HeldBy sizes one → HeldBy sizes (either_of one other)
held_more sizes None other held = absurd held
held_more sizes (Some refusal) other held = held

h_withdrawing : (sizes : Sizes) (owned : List Word) (batch : Batch) (refusal : Option CleanRefusal) → HeldBy sizes refusal → Heeds sizes (withdrawing owned batch) refusal
h_withdrawing sizes [] batch refusal held = held
h_withdrawing sizes (cell ∷ rest) batch refusal held = held

-- ---- a step

module _ (sound : RunsAreSound) (tell : OwnEventsTell) (old new : PassState) (works : List Work) (op : CleanerOp) (found : ℕ)
    (taken : HasTaken record { opens = None; works = works; op = ByCleaner op; found = found } old new) (mount : IsMount (mount_of old.view.opened)) (seen : HasSeenStop old) where
  abbrev sizes : Sizes
  sizes = taken.before.view.opened.sizes

  abbrev mid : Pass
  mid = mid_pass sound tell old new works op found taken mount

  abbrev made_step : PassStep
  made_step = record { opens = None; works = works; op = ByCleaner op; found = found }

  mid_seen : mid.stopped ≡ true
  mid_seen = calls_leave (λ (p : Pass). p.stopped) (λ s work p. refl) sizes taken.stepped.works (pass_of taken.before.view) ∙ subst (λ (v : PassView). (pass_of v).stopped ≡ true) (sym taken.between.view) seen

  pub seen_then : HasSeenStop new
  seen_then = ap (λ (p : Pass). p.stopped) taken.stepped.pass ∙ stays_stopped mid op found mid_seen

  control_by : (control : Control) → mid.control ≡ control → (pass_of new.view).control ≡ after_by_cleaner sizes (moved (cleaner_move sizes op found) mid.owned) op found control
  control_by control at = ap (λ (p : Pass). p.control) taken.stepped.pass ∙ ap (after_by_cleaner sizes (moved (cleaner_move sizes op found) mid.owned) op found) at

  -- a load of STOP finds it set
  found_set : op ≡ cleaner.Load STOP → found ≡ 1
  found_set load =
      let made = is_made sound tell old new works op found taken mount in
      sym (sym (ap (λ o. made.core.words (word_of sizes (made.core.passes taken.before.view.number) (ByCleaner o))) load) ∙ made.may.is)
      ∙ made.sound.stop.stays taken.before.view.number (ap (λ (p : Pass). p.stopped) made.own ∙ mid_seen)

  abbrev After : (steps : List PassStep) → CleanerOp → Control → Type 0
  After steps o control = Heeds sizes control (either_of (refusal_in sizes steps) (refused_by sizes (cleans_in steps) (tail_in steps) works (ByCleaner o) found))

  module _ (steps : List PassStep) where
    by_op : (batch : Batch) (inner : CleanerControl) (one : CleanerOp) → mid.control ≡ Cleaning batch inner → Some one ≡ Some op → After steps one (after_cleaner_op sizes (moved (cleaner_move sizes op found) mid.owned) batch inner found)
        → Heeds sizes (pass_of new.view).control (refusal_in sizes (made_step ∷ steps))
    by_op batch inner one at next is =
        subst (λ c. After steps op c) (sym (control_by (Cleaning batch inner) at)) (subst (λ o. After steps o (after_cleaner_op sizes (moved (cleaner_move sizes op found) mid.owned) batch inner found)) (sym (cleaner_op_is one op next)) is)

    h_header : (batch : Batch) → mid.control ≡ Cleaning batch TakeHeader → cleans_in steps ≡ false → refusal_in sizes steps ≡ None → Heeds sizes (pass_of new.view).control (refusal_in sizes (made_step ∷ steps))
    h_header batch at uncleaned none =
        by_op batch TakeHeader (cleaner.Take HEADER) at (by_core sound tell old new works op found taken mount batch TakeHeader at)
        (subst (λ r. Heeds sizes (if found == 0 then Cleaning batch cleaner.LoadStop else withdrawing (moved (cleaner_move sizes op found) mid.owned) batch) r) (sym (ap₂ (λ r (c : Bool). either_of r (if c then None else busy_at sizes HEADER found)) none uncleaned))
        (by_found (found == 0)))
      where
        by_found : (b : Bool) → Heeds sizes (if b then Cleaning batch cleaner.LoadStop else withdrawing (moved (cleaner_move sizes op found) mid.owned) batch) (if b then None else Some (Busy (place sizes HEADER)))
        by_found true = refl
        by_found false = h_withdrawing sizes (moved (cleaner_move sizes op found) mid.owned) batch (Some (Busy (place sizes HEADER))) (inr refl)

    h_stop : (batch : Batch) → mid.control ≡ Cleaning batch cleaner.LoadStop → refusal_in sizes steps ≡ None → Heeds sizes (pass_of new.view).control (refusal_in sizes (made_step ∷ steps))
    h_stop batch at none =
        let next = by_core sound tell old new works op found taken mount batch cleaner.LoadStop at in
        let set = found_set (cleaner_op_is (cleaner.Load STOP) op next) in
        by_op batch cleaner.LoadStop (cleaner.Load STOP) at next
        (subst (λ n. Heeds sizes (if n == 0 then Cleaning batch LoadTail else withdrawing (moved (cleaner_move sizes op found) mid.owned) batch) (either_of (refusal_in sizes steps) (if n == 0 then None else Some Stopped))) (sym set)
        (subst (λ r. Heeds sizes (withdrawing (moved (cleaner_move sizes op found) mid.owned) batch) (either_of r (Some Stopped))) (sym none) (h_withdrawing sizes (moved (cleaner_move sizes op found) mid.owned) batch (Some Stopped) tt)))

    h_back : (batch : Batch) → mid.control ≡ Cleaning batch cleaner.GiveBack → HeldBy sizes (refusal_in sizes steps) → Heeds sizes (pass_of new.view).control (refusal_in sizes (made_step ∷ steps))
    h_back batch at held =
        let gave = last_give mid.owned op (by_core sound tell old new works op found taken mount batch cleaner.GiveBack at) in
        by_op batch cleaner.GiveBack (cleaner.Give gave.0) at (ap Some (sym gave.1))
        (h_withdrawing sizes (moved (cleaner_move sizes op found) mid.owned) batch (either_of (refusal_in sizes steps) None) (held_more sizes (refusal_in sizes steps) None held))

    -- no device call comes before it
    mid_at : (batch : Batch) (inner : CleanerControl) → (pass_of taken.before.view).control ≡ Cleaning batch inner → ((kept : Values) (work : Work) → CleanerCallDue sizes kept batch work inner → ⊥) → mid.control ≡ Cleaning batch inner
    mid_at batch inner at none =
        ap (λ w. (pass_worked sizes w (pass_of taken.before.view)).control) (none_due sizes taken.stepped.works (values_of taken.before.view) (pass_of taken.before.view) (Cleaning batch inner) at none taken.stepped.due) ∙ at

    pub h_next : comes_in_batch (ByCleaner op) ≡ true → (control : Control) → (pass_of taken.before.view).control ≡ control → Tells sizes control steps → Heeds sizes control (refusal_in sizes steps) → Heeds sizes (pass_of new.view).control (refusal_in sizes (made_step ∷ steps))
    h_next own (Cleaning batch TakeHeader) at t h =
        let here = mid_at batch TakeHeader at (λ kept work due. due) in
        h_header batch here (t.0.0.cleaned_is ∙ unpassed sizes (mount_of taken.before.view.opened).values (is_made sound tell old new works op found taken mount).core taken.before.view.number (is_made sound tell old new works op found taken mount).sound batch steps None works found [] TakeHeader (at_core sound tell old new works op found taken mount steps batch TakeHeader here) tt) h
    h_next own (Cleaning batch cleaner.LoadStop) at t h = h_stop batch (mid_at batch cleaner.LoadStop at (λ kept work due. due)) h
    h_next own (Cleaning batch cleaner.GiveBack) at t h = h_back batch (mid_at batch cleaner.GiveBack at (λ kept work due. due)) h
    h_next own Idle at t h =
        let here = ap (λ w. (pass_worked sizes w (pass_of taken.before.view)).control) (works_none sound tell old new works op found taken mount at) ∙ at in
        let made = is_made sound tell old new works op found taken mount in
        elim (subst (λ (p : Pass). (next_step sizes made.core.values p ≡ Some (ByCleaner op)) ⊎ IsBatchEntry (ByCleaner op) p.control) made.own made.may.may) [
          | inl next ↦ absurd (none_next (sym (ap (step_at sizes made.core.values mid) here) ∙ next))
          | inr entry ↦ absurd (no_first op own (subst (IsBatchEntry (ByCleaner op)) here entry))
        ]
    h_next own control at t h = absurd h

  pub h_first : (pass_of taken.before.view).control ≡ Idle → (most : ℕ) → op ≡ TakeCleaner most → Heeds sizes (pass_of new.view).control (refusal_in sizes (made_step ∷ []))
  h_first at most first =
      subst (λ c. Heeds sizes c (refusal_in sizes (made_step ∷ [])))
      (sym (control_by Idle (ap (λ w. (pass_worked sizes w (pass_of taken.before.view)).control) (works_none sound tell old new works op found taken mount at) ∙ at)))
      (subst (λ o. Heeds sizes (after_by_cleaner sizes (moved (cleaner_move sizes o found) mid.owned) o found Idle) (refusal_in sizes (record { opens = None; works = works; op = ByCleaner o; found = found } ∷ []))) (sym first) (by_found (found == 0)))
    where
      by_found : (b : Bool) → Heeds sizes (if b then Cleaning (new_batch most) TakeHeader else Idle) (if b then None else Some (Busy (place sizes CLEANER)))
      by_found true = refl
      by_found false = inl refl

-- ---- all steps of a batch

module _ (sound : RunsAreSound) (tell : OwnEventsTell) (start : PassState) (mount : IsMount (mount_of start.view.opened)) (idle : (pass_of start.view).control ≡ Idle) where
  abbrev first_sizes : Sizes
  first_sizes = start.view.opened.sizes

  -- what it has seen of STOP stays so, and where it had seen that set it comes no further
  abbrev Holds : PassState → List PassStep → Type 0
  Holds now steps = HasSeenStop now × Heeds first_sizes (pass_of now.view).control (refusal_in first_sizes steps)

  module _ (step : PassStep) (earlier : List PassStep) (old now : PassState) (made : HasMade earlier start old) (taken : HasTaken step old now) (op : CleanerOp)
      (is : step ≡ record { opens = None; works = step.works; op = ByCleaner op; found = step.found }) (seen : HasSeenStop old) where
    opened : old.view.opened ≡ start.view.opened
    opened = made_opened earlier start old made

    mount_old : IsMount (mount_of old.view.opened)
    mount_old = subst (λ (o : Opened). IsMount (mount_of o)) (sym opened) mount

    abbrev taken_as : HasTaken (record { opens = None; works = step.works; op = ByCleaner op; found = step.found }) old now
    taken_as = subst (λ s. HasTaken s old now) is taken

    same_sizes : taken_as.before.view.opened.sizes ≡ first_sizes
    same_sizes = ap (λ (v : PassView). v.opened.sizes) taken_as.between.view ∙ ap (λ (o : Opened). o.sizes) opened

    conv : (s : Sizes) → s ≡ first_sizes → (one : PassStep) → step ≡ one → Heeds s (pass_of now.view).control (refusal_in s (one ∷ earlier)) → Heeds first_sizes (pass_of now.view).control (refusal_in first_sizes (step ∷ earlier))
    conv s sizes_are one same h =
        subst (λ x. Heeds first_sizes (pass_of now.view).control (refusal_in first_sizes (x ∷ earlier))) (sym same) (subst (λ z. Heeds z (pass_of now.view).control (refusal_in z (one ∷ earlier))) sizes_are h)

    now_seen : HasSeenStop now
    now_seen = seen_then sound tell old now step.works op step.found taken_as mount_old seen

    on_next : comes_in_batch (ByCleaner op) ≡ true → Tells first_sizes (pass_of old.view).control earlier → Heeds first_sizes (pass_of old.view).control (refusal_in first_sizes earlier) → Holds now (step ∷ earlier)
    on_next own t h = (
      now_seen,
      conv taken_as.before.view.opened.sizes same_sizes _ is
          (h_next sound tell old now step.works op step.found taken_as mount_old seen earlier own (pass_of taken_as.before.view).control refl
          (subst (λ (v : PassView). Tells v.opened.sizes (pass_of v).control earlier) (sym taken_as.between.view) (subst (λ (o : Opened). Tells o.sizes (pass_of old.view).control earlier) (sym opened) t))
          (subst (λ (v : PassView). Heeds v.opened.sizes (pass_of v).control (refusal_in v.opened.sizes earlier)) (sym taken_as.between.view)
          (subst (λ (o : Opened). Heeds o.sizes (pass_of old.view).control (refusal_in o.sizes earlier)) (sym opened) h))),
    )

  first_on : (step : PassStep) (now : PassState) → HasTaken step start now → (op : CleanerOp) → step ≡ record { opens = None; works = step.works; op = ByCleaner op; found = step.found } → HasSeenStop start → (most : ℕ) → op ≡ TakeCleaner most → Holds now (step ∷ [])
  first_on step now taken op is seen most first = (
    now_seen step [] start now refl taken op is seen,
    conv step [] start now refl taken op is seen (taken_as step [] start now refl taken op is seen).before.view.opened.sizes (same_sizes step [] start now refl taken op is seen) _ is
        (h_first sound tell start now step.works op step.found (taken_as step [] start now refl taken op is seen) (mount_old step [] start now refl taken op is seen) seen
        (ap (λ (v : PassView). (pass_of v).control) (taken_as step [] start now refl taken op is seen).between.view ∙ idle) most first),
  )

  pub heeds_all : (most : ℕ) (steps : List PassStep) (now : PassState) → HasMade steps start now → AreOwn steps → BeginsWith most steps → HasSeenStop start → Holds now steps
  heeds_all most [] now made own begins seen = absurd begins
  heeds_all most (step ∷ []) now made own begins seen =
      let op = own_is [] step.op own.1 in
      subst (λ (old : PassState). HasTaken step old now → Holds now (step ∷ [])) (sym made.1)
      (λ taken. first_on step now taken op.0 (shape step op.0 own.0 op.1) seen most (cleaner_is op.0 most (sym op.1 ∙ begins))) made.2
    where
      cleaner_is : (one : CleanerOp) (most : ℕ) → ByCleaner one ≡ ByCleaner (TakeCleaner most) → one ≡ TakeCleaner most
      cleaner_is one most e = cc
  heeds_all most (step ∷ (other ∷ earlier)) now made own begins seen =
      let op = own_is (other ∷ earlier) step.op own.1 in
      let before = heeds_all most (other ∷ earlier) made.0 made.1 own.2 begins seen in
      on_next step (other ∷ earlier) made.0 now made.1 made.2 op.0 (shape step op.0 own.0 op.1) before.0 (subst (λ o. is_own (other ∷ earlier) o ≡ true) op.1 own.1)
      (tells_all sound tell start mount idle (other ∷ earlier) made.0 made.1 own.2 not_empty) before.1
    where
      not_empty : other ∷ earlier ≡ [] → ⊥
      not_empty e = cc

  -- so it is where it is over
  pub heeds_over : (most : ℕ) (steps : List PassStep) (now : PassState) → HasMade steps start now → AreOwn steps → BeginsWith most steps → HasSeenStop start → (pass_of now.view).control ≡ Idle
      → (refusal : CleanRefusal) × (refusal_in first_sizes steps ≡ Some refusal) × IsHeld first_sizes refusal
  heeds_over most steps now made own begins seen stands = go (refusal_in first_sizes steps) refl (subst (λ c. Heeds first_sizes c (refusal_in first_sizes steps)) stands (heeds_all most steps now made own begins seen).1)
    where
      go : (r : Option CleanRefusal) → refusal_in first_sizes steps ≡ r → HeldBy first_sizes (refusal_in first_sizes steps) → (refusal : CleanRefusal) × (refusal_in first_sizes steps ≡ Some refusal) × IsHeld first_sizes refusal
      go None is held = absurd (subst (HeldBy first_sizes) is held)
      go (Some refusal) is held = (refusal, is, subst (HeldBy first_sizes) is held)
