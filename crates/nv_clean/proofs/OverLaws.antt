-- Over: what a batch begins with, and what is so where it is over.
use Rattle.std.proofs.Common.{◌≡◌, ◌⊎◌, inl, inr, ℕ, ◌-◌, ◌<◌, ◌≤◌, Bool, true, false, if◌then◌else◌, List, [], ◌∷◌, refl, sym, ap, ap₂, subst, ◌∙◌, arith, ◌+◌}
use Rattle.std.specs.Prelude.{Option, Some, None, is_some, Result, Ok, Err}
use Rattle.nv_core.specs.state.Words.{Sizes, Word, SIZE, STORE, ENTRY, TAIL}
use Rattle.nv_core.specs.state.Core.{Core}
use Rattle.nv_core.specs.state.Passes.{Idle, IsFilling, IsHeldEntry, times}
use Rattle.nv_core.specs.steps.CleanerSteps.{new_batch}
use Rattle.nv_core.specs.steps.Frames.{OwnEventsTell}
use Rattle.nv_core.specs.steps.Opening.{IsMount}
use Rattle.nv_core.specs.steps.Order.{Values}
use Rattle.nv_core.specs.invariant.InvariantLaws.{RunsAreSound}
use Rattle.nv_core.specs.invariant.Ownership.{HoldsLocks, Ownership}
use Rattle.nv_core.specs.invariant.Sound.{Sound}
use Rattle.nv_core.proofs.invariant.LockLaws.{times_here}
use Rattle.nv_table.specs.invariant.Idle.{IsIdle}
use Rattle.nv_table.specs.state.Opened.{mount_of, IsRunOf, state_of}
use Rattle.nv_table.specs.state.States.{PassState}
use Rattle.nv_table.specs.state.Views.{pass_of}
use Rattle.nv_mirror.specs.PassSteps.{PassStep}
use Rattle.nv_mount.specs.LoneWords.{word_then}
use Rattle.nv_clean.specs.declared.batch.CleanControl.{CleanControl}
use Rattle.nv_clean.specs.declared.batch.CleanControl.TheVariants as cleans
use Rattle.nv_clean.specs.declared.batch.CleanRefusal.{CleanRefusal}
use Rattle.nv_clean.specs.declared.batch.CleanRefusal.TheVariants.{Stopped, RegionFault, StoreFault}
use Rattle.nv_clean.specs.declared.clean.Cleaned.{Cleaned}
use Rattle.nv_clean.specs.Answers.{BegunFor, BeginsWith, IsCleanOver, IsTold, answer_at, answered_as, cleans_in, refusal_in, retired_in, retires_in, stops_in, tail_in, tells_stop}
use Rattle.nv_clean.specs.Cleaning.{CleanState, InBatch, IsOpen, IsUnderWay, control_at, is_over}
use Rattle.nv_clean.specs.CleanSteps.{is_fault}
use Rattle.nv_clean.specs.Heeds.{HasSeenStop, IsHeld}
use Rattle.nv_clean.specs.Stored.{IsStored}
use Rattle.nv_clean.specs.WordsLeft.{ArePassing, held_by}
use Rattle.nv_clean.proofs.AnswerLaws.{tells_all}
use Rattle.nv_clean.proofs.BoundLaws.{Bounded, bounded_all}
use Rattle.nv_clean.proofs.BatchLaws.{batch_begins, batch_ends}
use Rattle.nv_clean.proofs.CountLaws.{Counted, IsCounted, counted_all}
use Rattle.nv_clean.proofs.FaultLaws.{no_faults}
use Rattle.nv_clean.proofs.HeedLaws.{heeds_all, heeds_over}
use Rattle.nv_clean.proofs.SeenLaws.{cleaned_none, found_all, held_all, passing_all, set_all}
use Rattle.nv_clean.proofs.TellLaws.{Tells, WasRefused, HasRetired}

-- ---- its beginning

abbrev pub new_machine : (most : ℕ) → CleanState
new_machine most = record { batch = new_batch most; owned = []; control = cleans.Begin; refusal = None }

pub new_way : (most : ℕ) (start : PassState) → IsIdle start → IsUnderWay (new_machine most) start start
new_way most start idle = record { called = batch_begins start idle; apart = tt; fresh = λ at. (refl, refl, refl, refl) }

pub new_told : (most : ℕ) (start : PassState) → IsTold most (new_machine most) start start
new_told most start = record { steps = []; made = refl; own = tt; begun = (refl, refl); refused = refl; stops = refl; moved = λ n is. absurd (cc); retired = λ over none. absurd (cc) }

-- ---- its end

pub over_at : (control : CleanControl) → is_over control ≡ true → control ≡ cleans.Over
over_at cleans.Over is = refl
over_at control is = absurd (cc)

pub open_at : (control : CleanControl) → is_over control ≡ false → IsOpen control
open_at cleans.Over is = absurd (cc)
open_at control is = tt

-- an idle pass owns nothing
module _ (sizes : Sizes) (first : Values) (core : Core) (by : ℕ) (sound : Sound sizes first core) (idle : (core.passes by).control ≡ Idle) where
  either_zero : (b : Bool) → ◌≡◌ {A = ℕ} (if b then 0 else 0) 0
  either_zero true = refl
  either_zero false = refl

  owns : Ownership sizes (core.passes by)
  owns = sound.ownership by

  locks : HoldsLocks sizes (core.passes by) Idle
  locks = subst (HoldsLocks sizes (core.passes by)) idle owns.locks

  none : (cell : Word) → times cell (core.passes by).owned ≡ 0
  none (ENTRY slot) = owns.none slot (λ number fills. absurd (subst (λ s. IsFilling s (core.passes by).first (core.passes by).entries number) idle fills)) (λ number held. absurd (subst (λ s. IsHeldEntry s number) idle held))
  none (SIZE file) = locks (SIZE file) (λ slot e. cc) ∙ either_zero _
  none (STORE file) = locks (STORE file) (λ slot e. cc) ∙ either_zero _
  none cell = locks cell (λ slot e. cc)

  pub idle_owns : (core.passes by).owned ≡ []
  idle_owns = go (core.passes by).owned refl
    where
      go : (cells : List Word) → (core.passes by).owned ≡ cells → cells ≡ []
      go [] is = refl
      go (cell ∷ rest) is = let nothing = none cell in let same : times cell (core.passes by).owned ≡ times cell (cell ∷ rest) = ap (times cell) is in let here = times_here cell rest in absurd (omega (arith, nothing, same, here))

module _ (sound : RunsAreSound) (m : CleanState) (start now : PassState) (mount : IsMount (mount_of now.view.opened)) (run : IsRunOf now.view.opened now.view.run) (way : IsUnderWay m start now) (over : m.control ≡ cleans.Over) where
  control_is : (pass_of now.view).control ≡ Idle
  control_is = way.called.control_is ∙ ap (control_at now.view.opened.sizes m.batch) over

  owned_is : m.owned ≡ []
  owned_is = sym way.called.owned_is ∙ idle_owns now.view.opened.sizes (mount_of now.view.opened).values (state_of now.view.opened now.view.run) now.view.number (sound (mount_of now.view.opened) now.view.run mount run) control_is

  pub over_idle : IsIdle now
  over_idle = batch_ends start now (subst (λ owned. InBatch Idle owned start now) owned_is (subst (λ c. InBatch c m.owned start now) (ap (control_at now.view.opened.sizes m.batch) over) way.called))

begins_at : (most : ℕ) (m : CleanState) (control : CleanControl) → control ≡ cleans.Over → (steps : List PassStep) → BegunFor most m control steps → BeginsWith most steps
begins_at most m cleans.Over is steps begun = begun
begins_at most m control is steps begun = absurd (cc)

pub begins_none : (most : ℕ) (steps : List PassStep) → BeginsWith most steps → steps ≡ [] → ⊥
begins_none most [] begins none = begins
begins_none most (step ∷ earlier) begins none = cc

module _ (sound : RunsAreSound) (tell : OwnEventsTell) (most : ℕ) (m : CleanState) (start now : PassState) (mount : IsMount (mount_of start.view.opened)) (way : IsUnderWay m start now) (told : IsTold most m start now) (over : m.control ≡ cleans.Over) where
  begins : BeginsWith most told.steps
  begins = begins_at most m m.control over told.steps told.begun

  stands : (pass_of now.view).control ≡ Idle
  stands = way.called.control_is ∙ ap (control_at now.view.opened.sizes m.batch) over

  ended : WasRefused start.view.opened.sizes told.steps ⊎ HasRetired start.view.opened.sizes told.steps
  ended = (subst (λ c. Tells start.view.opened.sizes c told.steps) stands (tells_all sound tell start mount way.called.idle.control told.steps now told.made told.own (begins_none most told.steps begins))).0

  not_both : (b : Bool) → b ≡ true → b ≡ false → ⊥
  not_both b is is_not = cc

  abbrev refusal : Option CleanRefusal
  refusal = refusal_in start.view.opened.sizes told.steps

  seen_on : HasSeenStop start → HasSeenStop now
  seen_on seen = (heeds_all sound tell start mount way.called.idle.control most told.steps now told.made told.own begins seen).0

  held_as : (r : Option CleanRefusal) → m.refusal ≡ r → HasSeenStop start → (why : CleanRefusal) × (answer_at m.batch r ≡ Err why) × IsHeld start.view.opened.sizes why
  held_as r is seen =
      let held = heeds_over sound tell start mount way.called.idle.control most told.steps now told.made told.own begins seen stands in
      (held.0, ap (answer_at m.batch) (sym is ∙ told.refused ∙ held.1), held.2)

  counted : IsCounted start.view.opened.sizes told.steps
  counted = subst (λ c. Counted start.view.opened.sizes c told.steps) stands (counted_all sound tell start mount way.called.idle.control most told.steps now told.made told.own begins)

  -- it has given all back
  held_none : (pass_of now.view).owned ≡ [] → held_by start.view.opened.sizes told.steps ≡ []
  held_none owned_none = sym (held_all start way.called.idle.owned told.steps now told.made told.own) ∙ owned_none

  stops_are : (r : Option CleanRefusal) → m.refusal ≡ r → stops_in told.steps ≡ is_fault r
  stops_are r is = told.stops ∙ ap is_fault is

  stop_seen : (why : CleanRefusal) → m.refusal ≡ Some why → tells_stop (Err why) ≡ true → HasSeenStop now
  stop_seen Stopped is stop = found_all start start.view.opened.sizes told.steps now told.made told.own (sym told.refused ∙ is)
  stop_seen RegionFault is stop = set_all start told.steps now told.made told.own (stops_are (Some RegionFault) is)
  stop_seen StoreFault is stop = set_all start told.steps now told.made told.own (stops_are (Some StoreFault) is)
  stop_seen why is stop = absurd (cc)

  -- refused by no fault it has cleaned nothing
  left_so : (why : CleanRefusal) → m.refusal ≡ Some why → retires_in told.steps ≡ false → is_fault (Some why) ≡ false → ArePassing told.steps
  left_so why is unretired sound_still = passing_all told.steps told.own unclean unretired unset (λ page. counted.dirty page ∙ cleaned_none told.steps unclean page)
    where
      unset : stops_in told.steps ≡ false
      unset = stops_are (Some why) is ∙ sound_still

      unclean : cleans_in told.steps ≡ false
      unclean = elim (counted.left (ap is_some (sym told.refused ∙ is))) [
        | inl none ↦ none
        | inr set ↦ absurd (not_both (stops_in told.steps) set unset)
      ]

  other_is : (one other : CleanRefusal) → ◌≡◌ {A = Result Cleaned CleanRefusal} (Err one) (Err other) → one ≡ other
  other_is one other e = cc

  by_refusal : (pass_of now.view).owned ≡ [] → ((below : ℕ) → below ≤ (pass_of now.view).tail → IsStored now.view below) → (pass_of now.view).tail ≤ word_then now.view TAIL → (r : Option CleanRefusal) → m.refusal ≡ r → IsCleanOver most start now (answer_at m.batch r)
  by_refusal owned store behind (Some why) is = record {
    steps = told.steps;
    made = told.made;
    own = told.own;
    begins = begins;
    answer = ap (λ o. answered_as o (retired_in told.steps)) (sym told.refused ∙ is);
    some = tt;
    whole = tt;
    bounded = tt;
    stored = tt;
    past = tt;
    retires = go ended;
    stops = told.stops ∙ ap is_fault is;
    held = held_none owned;
    dirty = counted.dirty;
    left = λ refusal same none. left_so why is (go ended) (ap (λ r. is_fault (Some r)) (other_is why refusal same) ∙ none);
    told = stop_seen why is;
    stays = seen_on;
    heeds = held_as (Some why) is;
    faults = no_faults told.steps start now told.made told.own;
  }
    where
      go : WasRefused start.view.opened.sizes told.steps ⊎ HasRetired start.view.opened.sizes told.steps → retires_in told.steps ≡ false
      go (inl was) = was.2
      go (inr had) = absurd (not_both (is_some refusal) (ap is_some (sym told.refused ∙ is)) had.told.0)
  by_refusal owned store behind None is = record {
    steps = told.steps;
    made = told.made;
    own = told.own;
    begins = begins;
    answer = ap₂ answered_as (sym told.refused ∙ is) retired.0;
    some = let more = retired.1 in omega (arith, more);
    whole = counted.whole (m.batch.reached - m.batch.tail) retired.0;
    bounded = (subst (λ c. Bounded start.view.opened.sizes most c told.steps) stands (bounded_all sound tell start mount way.called.idle.control most told.steps now told.made told.own begins)) (m.batch.reached - m.batch.tail) retired.0;
    stored = store (tail_in told.steps + (m.batch.reached - m.batch.tail)) (told.moved (m.batch.reached - m.batch.tail) retired.0);
    past = (told.moved (m.batch.reached - m.batch.tail) retired.0, behind);
    retires = go ended;
    stops = told.stops ∙ ap is_fault is;
    held = held_none owned;
    dirty = counted.dirty;
    left = λ refusal same none. absurd (cc);
    told = λ tells. absurd (cc);
    stays = seen_on;
    heeds = held_as None is;
    faults = no_faults told.steps start now told.made told.own;
  }
    where
      retired : (retired_in told.steps ≡ Some (m.batch.reached - m.batch.tail)) × (m.batch.tail < m.batch.reached)
      retired = told.retired over is

      go : WasRefused start.view.opened.sizes told.steps ⊎ HasRetired start.view.opened.sizes told.steps → retires_in told.steps ≡ true
      go (inl was) = absurd (not_both (is_some refusal) was.0 (ap is_some (sym told.refused ∙ is)))
      go (inr had) = had.told.2

  pub over_told : IsIdle now → ((below : ℕ) → below ≤ (pass_of now.view).tail → IsStored now.view below) → (pass_of now.view).tail ≤ word_then now.view TAIL → IsCleanOver most start now (answer_at m.batch m.refusal)
  over_told idle store behind = by_refusal idle.owned store behind m.refusal refl

  pub over_low : m.refusal ≡ None → m.batch.tail ≤ m.batch.reached
  over_low none = let retired = (told.retired over none).1 in omega (arith, retired)
