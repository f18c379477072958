-- Seen: what a pass has seen of STOP and TAIL where its batch is over, and what it owns.
use Rattle.std.proofs.Common.{◌≡◌, ◌⊎◌, inl, inr, ℕ, ◌≤◌, ◌==◌, ◌+◌, Bool, true, false, ◌||◌, if◌then◌else◌, List, [], ◌∷◌, refl, sym, ap, ap₂, subst, ◌∙◌, arith, eq-eqb}
use Rattle.std.specs.Prelude.{Option, Some, None, is_some, Ok, Err, Result}
use Rattle.nv_core.specs.state.Words.{Sizes, Word, STOP, HEAD, TAIL, ENTRY, STORE, CLEANER, place}
use Rattle.nv_core.specs.state.Cleaner.{CleanerOp, TakeCleaner, Subtract}
use Rattle.nv_core.specs.state.Cleaner as cleaner
use Rattle.nv_core.specs.state.Passes.{Pass}
use Rattle.nv_core.specs.invariant.Ownership.{one_if}
use Rattle.nv_core.specs.state.Values.{CallEnding, Made, Failed, Refused}
use Rattle.nv_core.specs.steps.Ops.{Op, ByCleaner, move_of, moved}
use Rattle.nv_core.specs.steps.Order.{Work}
use Rattle.nv_core.specs.steps.PassSteps.{stopped_after}
use Rattle.nv_table.specs.state.Opened.{Opened}
use Rattle.nv_table.specs.state.States.{PassState}
use Rattle.nv_table.specs.state.Views.{PassView, pass_of}
use Rattle.nv_table.specs.steps.SeatSteps.{pass_worked}
use Rattle.nv_table.proofs.invariant.DrawnLaws.{calls_leave}
use Rattle.nv_mirror.specs.PassSteps.{PassStep, HasMade, HasTaken, either_of}
use Rattle.nv_clean.specs.declared.batch.CleanRefusal.{CleanRefusal}
use Rattle.nv_clean.specs.declared.batch.CleanRefusal.TheVariants.{Idle as IdleRefusal, Busy, Stopped, RegionFault, StoreFault, NoMemory}
use Rattle.nv_clean.specs.declared.clean.Cleaned.{Cleaned}
use Rattle.nv_clean.specs.Answers.{cleans_in, is_clean, is_retiring, is_stop, refusal_in, refused_by, retires_in, stops_in, tail_in, unless_cleaned}
use Rattle.nv_clean.specs.Cleaning.{call_refusal, calls_refusal}
use Rattle.nv_clean.specs.Heeds.{HasSeenStop}
use Rattle.nv_clean.specs.OwnSteps.{AreOwn, comes_in_batch, is_own}
use Rattle.nv_clean.specs.WordsLeft.{ArePassing, cleaned_of, cleans, held_by, is_passing, lowered_of, lowers}
use Rattle.nv_clean.proofs.AnswerLaws.{made_opened, own_is, shape}

-- ---- one step

module _ (step : PassStep) (old now : PassState) (taken : HasTaken step old now) (op : CleanerOp) (opens : step.opens ≡ None) (is : step.op ≡ ByCleaner op) where
  taken_as : HasTaken (record { opens = None; works = step.works; op = ByCleaner op; found = step.found }) old now
  taken_as = subst (λ s. HasTaken s old now) (shape step op opens is) taken

  abbrev sizes : Sizes
  sizes = taken_as.before.view.opened.sizes

  abbrev mid : Pass
  mid = pass_worked sizes taken_as.stepped.works (pass_of taken_as.before.view)

  -- device calls tell it nothing
  mid_stopped : mid.stopped ≡ (pass_of old.view).stopped
  mid_stopped = calls_leave (λ (p : Pass). p.stopped) (λ s work p. refl) sizes taken_as.stepped.works (pass_of taken_as.before.view) ∙ ap (λ (v : PassView). (pass_of v).stopped) taken_as.between.view

  mid_owned : mid.owned ≡ (pass_of old.view).owned
  mid_owned = calls_leave (λ (p : Pass). p.owned) (λ s work p. refl) sizes taken_as.stepped.works (pass_of taken_as.before.view) ∙ ap (λ (v : PassView). (pass_of v).owned) taken_as.between.view

  seen_by : (pass_of now.view).stopped ≡ stopped_after mid (ByCleaner op) step.found
  seen_by = ap (λ (p : Pass). p.stopped) taken_as.stepped.pass

  owned_by : (s : Sizes) → old.view.opened.sizes ≡ s → (pass_of now.view).owned ≡ moved (move_of s step.op step.found) (pass_of old.view).owned
  owned_by s same =
      ap (λ (p : Pass). p.owned) taken_as.stepped.pass ∙ ap₂ (λ z o. moved (move_of z (ByCleaner op) step.found) o) (ap (λ (v : PassView). v.opened.sizes) taken_as.between.view ∙ same) mid_owned
      ∙ ap (λ o. moved (move_of s o step.found) (pass_of old.view).owned) (sym is)

  kept_if : (b one : Bool) → one ≡ true → (if b then one else true) ≡ true
  kept_if true one seen = seen
  kept_if false one seen = refl

  stays : (one : CleanerOp) (found : ℕ) → mid.stopped ≡ true → stopped_after mid (ByCleaner one) found ≡ true
  stays (cleaner.Load STOP) found seen = kept_if (found == 0) mid.stopped seen
  stays cleaner.Stop found seen = refl
  stays one found seen = seen

  -- what it has seen of STOP stays so
  seen_on : HasSeenStop old → HasSeenStop now
  seen_on seen = seen_by ∙ stays op step.found (mid_stopped ∙ seen)

  set_by : (one : CleanerOp) → is_stop (ByCleaner one) ≡ true → stopped_after mid (ByCleaner one) step.found ≡ true
  set_by cleaner.Stop sets = refl
  set_by one sets = absurd (cc)

  -- it has set STOP
  sets_then : is_stop step.op ≡ true → HasSeenStop now
  sets_then sets = seen_by ∙ set_by op (ap is_stop (sym is) ∙ sets)

  no_value : {T : Type 0} {value : T} → None ≡ Some value → ⊥
  no_value e = cc

  not_stopped : (n : ℕ) → Some (Busy n) ≡ Some Stopped → ⊥
  not_stopped n e = cc

  not_idle : (n : ℕ) → Some (IdleRefusal n) ≡ Some Stopped → ⊥
  not_idle n e = cc

  busy_not : (b : Bool) (n : ℕ) → (if b then None else Some (Busy n)) ≡ Some Stopped → ⊥
  busy_not true n e = no_value e
  busy_not false n e = not_stopped n e

  idle_not : (b : Bool) (n : ℕ) → (if b then None else Some (IdleRefusal n)) ≡ Some Stopped → ⊥
  idle_not true n e = no_value e
  idle_not false n e = not_idle n e

  looks_not : (b : Bool) (n : ℕ) → (if b then Some (IdleRefusal n) else None) ≡ Some Stopped → ⊥
  looks_not true n e = not_idle n e
  looks_not false n e = no_value e

  unless_not : (b : Bool) (one : Option CleanRefusal) → (one ≡ Some Stopped → ⊥) → unless_cleaned b one ≡ Some Stopped → ⊥
  unless_not true one never e = no_value e
  unless_not false one never e = never e

  call_not : (cell : Word) (ending : CallEnding) (rest : Option CleanRefusal) → (rest ≡ Some Stopped → ⊥) → either_of (call_refusal cell ending) rest ≡ Some Stopped → ⊥
  call_not cell ending rest never e = by_said (call_refusal cell ending) refl
    where
      other : (cell : Word) (ending : CallEnding) → call_refusal cell ending ≡ Some Stopped → ⊥
      other cell Made e = no_value e
      other cell Refused e = cc
      other (STORE file) (Failed came faults) e = cc
      other cell (Failed came faults) e = cc

      by_said : (said : Option CleanRefusal) → call_refusal cell ending ≡ said → ⊥
      by_said None said = never (sym (ap (λ o. either_of o rest) said) ∙ e)
      by_said (Some refusal) said = other cell ending (said ∙ (sym (ap (λ o. either_of o rest) said) ∙ e))

  calls_not : (works : List Work) → calls_refusal works ≡ Some Stopped → ⊥
  calls_not [] e = no_value e
  calls_not (work ∷ later) e = call_not work.cell work.ending (calls_refusal later) (calls_not later) e

  by_load : (found : ℕ) (b : Bool) → (if b then None else Some Stopped) ≡ Some Stopped → (if b then mid.stopped else true) ≡ true
  by_load found true e = absurd (no_value e)
  by_load found false e = refl

  -- or found it set
  finds_by : (z : Sizes) (cleaned : Bool) (tail : ℕ) (works : List Work) (one : CleanerOp) → refused_by z cleaned tail works (ByCleaner one) step.found ≡ Some Stopped → stopped_after mid (ByCleaner one) step.found ≡ true
  finds_by z cleaned tail works (TakeCleaner most) e = absurd (busy_not (step.found == 0) (place z CLEANER) e)
  finds_by z cleaned tail works (cleaner.Take cell) e = absurd (unless_not cleaned _ (busy_not (step.found == 0) (place z cell)) e)
  finds_by z cleaned tail works (cleaner.Load STOP) e = by_load step.found (step.found == 0) e
  finds_by z cleaned tail works (cleaner.Load HEAD) e = absurd (idle_not _ tail e)
  finds_by z cleaned tail works (cleaner.Load (ENTRY slot)) e = absurd (unless_not cleaned _ (looks_not _ tail) e)
  finds_by z cleaned tail works (cleaner.Return number) e = absurd (unless_not cleaned (calls_refusal works) (calls_not works) e)
  finds_by z cleaned tail works cleaner.Stop e = refl
  finds_by z cleaned tail works one e = absurd (no_value e)

  finds_then : (z : Sizes) (cleaned : Bool) (tail : ℕ) → refused_by z cleaned tail step.works step.op step.found ≡ Some Stopped → HasSeenStop now
  finds_then z cleaned tail e = seen_by ∙ finds_by z cleaned tail step.works op (ap (λ o. refused_by z cleaned tail step.works o step.found) (sym is) ∙ e)

-- ---- all steps of a batch

module _ (start : PassState) where
  -- STOP was set by one of them
  pub set_all : (steps : List PassStep) (now : PassState) → HasMade steps start now → AreOwn steps → stops_in steps ≡ true → HasSeenStop now
  set_all [] now made own stops = absurd (cc)
  set_all (step ∷ earlier) now made own stops = by_step (λ before. set_all earlier made.0 made.1 own.2 before) (is_stop step.op) refl
    where
      one : (op : CleanerOp) × (step.op ≡ ByCleaner op)
      one = own_is earlier step.op own.1

      by_step : (stops_in earlier ≡ true → HasSeenStop made.0) → (b : Bool) → is_stop step.op ≡ b → HasSeenStop now
      by_step again true sets = sets_then step made.0 now made.2 one.0 own.0 one.1 sets
      by_step again false sets = seen_on step made.0 now made.2 one.0 own.0 one.1 (again (sym (ap (λ b. b || stops_in earlier) sets) ∙ stops))

  -- or found set
  pub found_all : (z : Sizes) (steps : List PassStep) (now : PassState) → HasMade steps start now → AreOwn steps → refusal_in z steps ≡ Some Stopped → HasSeenStop now
  found_all z [] now made own is = absurd (cc)
  found_all z (step ∷ earlier) now made own is = by_earlier (λ before. found_all z earlier made.0 made.1 own.2 before) (refusal_in z earlier) refl
    where
      one : (op : CleanerOp) × (step.op ≡ ByCleaner op)
      one = own_is earlier step.op own.1

      by_earlier : (refusal_in z earlier ≡ Some Stopped → HasSeenStop made.0) → (r : Option CleanRefusal) → refusal_in z earlier ≡ r → HasSeenStop now
      by_earlier again None none = finds_then step made.0 now made.2 one.0 own.0 one.1 z (cleans_in earlier) (tail_in earlier) (sym (ap (λ r. either_of r (refused_by z (cleans_in earlier) (tail_in earlier) step.works step.op step.found)) none) ∙ is)
      by_earlier again (Some refusal) some = seen_on step made.0 now made.2 one.0 own.0 one.1 (again (some ∙ (sym (ap (λ r. either_of r (refused_by z (cleans_in earlier) (tail_in earlier) step.works step.op step.found)) some) ∙ is)))

  -- what it owns is what they hold
  pub held_all : (pass_of start.view).owned ≡ [] → (steps : List PassStep) (now : PassState) → HasMade steps start now → AreOwn steps → (pass_of now.view).owned ≡ held_by start.view.opened.sizes steps
  held_all none [] now made own = ap (λ (p : PassState). (pass_of p.view).owned) made ∙ none
  held_all none (step ∷ earlier) now made own =
      let one = own_is earlier step.op own.1 in
      owned_by step made.0 now made.2 one.0 own.0 one.1 start.view.opened.sizes (ap (λ (o : Opened). o.sizes) (made_opened earlier start made.0 made.1))
      ∙ ap (moved (move_of start.view.opened.sizes step.op step.found)) (held_all none earlier made.0 made.1 own.2)

-- ---- steps that clean nothing, retire nothing and set no STOP

or_first : (one other : Bool) → (one || other) ≡ false → one ≡ false
or_first true other none = absurd (cc)
or_first false other none = refl

or_second : (one other : Bool) → (one || other) ≡ false → other ≡ false
or_second true other none = absurd (cc)
or_second false other none = none

no_sum : (one other : ℕ) → one + other ≡ 0 → (one ≡ 0) × (other ≡ 0)
no_sum one other none = (omega (arith, none), omega (arith, none))

-- they clean no entry of any page
pub cleaned_none : (steps : List PassStep) → cleans_in steps ≡ false → (page : ℕ) → cleaned_of page steps ≡ 0
cleaned_none [] none page = refl
cleaned_none (step ∷ earlier) none page =
    let here = no_clean step.op step.found (or_first (is_clean step.op) (cleans_in earlier) none) in
    let before = cleaned_none earlier (or_second (is_clean step.op) (cleans_in earlier) none) page in
    omega (arith, here, before)
  where
    no_clean : (op : Op) (found : ℕ) → is_clean op ≡ false → cleans page op found ≡ 0
    no_clean (ByCleaner (cleaner.Clean number)) found none = absurd (cc)
    no_clean op found none = refl

one_is : (n : ℕ) → one_if (n == n) ≡ 1
one_is n = ap one_if (eq-eqb n n refl)

passing_by : (op : CleanerOp) → is_clean (ByCleaner op) ≡ false → is_retiring (ByCleaner op) ≡ false → is_stop (ByCleaner op) ≡ false → ((page : ℕ) → lowers page (ByCleaner op) ≡ 0) → is_passing (ByCleaner op) ≡ true
passing_by (TakeCleaner most) unclean unretired unset unlowered = refl
passing_by (cleaner.Load word) unclean unretired unset unlowered = refl
passing_by (cleaner.Take cell) unclean unretired unset unlowered = refl
passing_by (cleaner.Give cell) unclean unretired unset unlowered = refl
passing_by (cleaner.Hold number) unclean unretired unset unlowered = refl
passing_by (cleaner.Return number) unclean unretired unset unlowered = refl
passing_by (Subtract page) unclean unretired unset unlowered = let one = one_is page in let none = unlowered page in absurd (omega (arith, one, none))
passing_by op unclean unretired unset unlowered = absurd (cc)

pub passing_all : (steps : List PassStep) → AreOwn steps → cleans_in steps ≡ false → retires_in steps ≡ false → stops_in steps ≡ false → ((page : ℕ) → lowered_of page steps ≡ 0) → ArePassing steps
passing_all [] own unclean unretired unset unlowered = tt
passing_all (step ∷ earlier) own unclean unretired unset unlowered =
    let one = own_is earlier step.op own.1 in (
      ap is_passing one.1
          ∙ passing_by one.0 (ap is_clean (sym one.1) ∙ or_first (is_clean step.op) (cleans_in earlier) unclean) (ap is_retiring (sym one.1) ∙ or_first (is_retiring step.op) (retires_in earlier) unretired)
          (ap is_stop (sym one.1) ∙ or_first (is_stop step.op) (stops_in earlier) unset)
          (λ page. ap (lowers page) (sym one.1) ∙ (no_sum (lowers page step.op) (lowered_of page earlier) (unlowered page)).0),
      passing_all earlier own.2 (or_second (is_clean step.op) (cleans_in earlier) unclean) (or_second (is_retiring step.op) (retires_in earlier) unretired) (or_second (is_stop step.op) (stops_in earlier) unset)
          (λ page. (no_sum (lowers page step.op) (lowered_of page earlier) (unlowered page)).1),
    )
