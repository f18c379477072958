-- Runs on: the core after some device calls of a pass and its next step, where the pass and what its cells keep are known, but not the rest.
use Rattle.std.proofs.Common.{◌≡◌, ◌≢◌, ℕ, ◌≤◌, if◌then◌else◌, List, [], ◌∷◌, ◌++◌, map, Option, Some, None, refl, sym, ap, subst, ◌∙◌}
use Rattle.nv_plain.specs.declared.call.FileCall.{FileCall}
use Rattle.nv_core.specs.state.Words.{Sizes, Word, IsWord, same}
use Rattle.nv_core.specs.state.Passes.{Pass, IsOneOf, times}
use Rattle.nv_core.specs.steps.Ops.{Op, Split, PutBack, Join, word_of, value_after}
use Rattle.nv_core.specs.steps.Order.{Values, Work, Enabled, CallEnabled}
use Rattle.nv_core.specs.state.Core.{Core, with_number, worked, values_worked, values_stepped, changes, changed_pass, made_stepped, ended_stepped, after_step, after_work, after_begin}
use Rattle.nv_core.specs.steps.PassSteps.{begun, stepped, left_after}
use Rattle.nv_core.specs.steps.Events.{Event, Act, TakesStep, CallsDevice, StepEnabled, FoundEnabled, ActEnabled, EventEnabled, IsStaying, after_act, after_event, after_run, IsRun}
use Rattle.nv_core.specs.steps.Opening.{IsMount, opening}
use Rattle.nv_core.specs.invariant.Sound.{Sound}
use Rattle.nv_core.specs.invariant.Ownership.{Ownership}
use Rattle.nv_core.specs.invariant.ControlFacts.{ControlFacts}
use Rattle.nv_core.specs.steps.Frames.{AgreeOn, DependsOnOwned, IsOnWord}
use Rattle.nv_core.proofs.state.Changes.{number_here, number_else}
use Rattle.nv_core.proofs.steps.RunLaws.{run_both, after_parts}
use Rattle.nv_core.proofs.invariant.Reach.{sound_begin}
use Rattle.nv_table.specs.state.Opened.{Opened, mount_of, IsRunOf, state_of}
use Rattle.nv_table.specs.steps.SeatSteps.{AreDue, pass_worked, values_after, act_of, with_call, MayOpen}
use Rattle.nv_table.specs.invariant.CoreLaws.{CoreLaws}
use Rattle.nv_core.proofs.steps.NextSteps.{next_steps_may_come}

-- ---- what runs lead to

-- each run from a core on leads to a sound state, in which the next step is on a word
abbrev pub GoesWell : Sizes → Values → Core → Type 0
GoesWell sizes first core =
    (more : List Event) → IsRun sizes core more
    → Sound sizes first (after_run sizes core more) × ((by : ℕ) (act : Act) → ActEnabled sizes by (after_run sizes core more) act → IsOnWord sizes by (after_run sizes core more) act)

pub goes_well : CoreLaws → (opened : Opened) (run : List Event) → IsMount (mount_of opened) → IsRunOf opened run → GoesWell opened.sizes (mount_of opened).values (state_of opened run)
goes_well laws opened run mount is_run more is_more =
    let both = run_both opened.sizes (opening (mount_of opened)) run more is_run is_more in
    subst
    (λ (core : Core). Sound opened.sizes (mount_of opened).values core × ((by : ℕ) (act : Act) → ActEnabled opened.sizes by core act → IsOnWord opened.sizes by core act))
    (after_parts opened.sizes (opening (mount_of opened)) run more)
    (laws.runs (mount_of opened) (run ++ more) mount both, λ by act may. laws.words (mount_of opened) (run ++ more) by act mount both may)

pub well_after : (sizes : Sizes) (first : Values) (core : Core) (event : Event) → GoesWell sizes first core → EventEnabled sizes event core → GoesWell sizes first (after_event sizes event core)
well_after sizes first core event well come more is_more = well (event ∷ more) (come, is_more)

-- ---- device calls

-- the events of some device calls
abbrev pub calls : (by : ℕ) → List Work → List Event
calls by works = map (λ work. record { by = by; act = CallsDevice work }) works

-- They may come, and leave of a core these; the pass was known, and what the cells that it owns keep.
pub record Worked (sizes : Sizes) (first : Values) (by : ℕ) (core next : Core) (pass : Pass) (values : Values) (works : List Work) : Type 0 where
  pub is_run : IsRun sizes core (calls by works)
  pub well : GoesWell sizes first next
  pub pass_is : next.passes by ≡ pass_worked sizes works pass
  pub owned : (pass_worked sizes works pass).owned ≡ pass.owned
  pub left : (pass_worked sizes works pass).left ≡ pass.left
  pub agree : AgreeOn pass (values_after sizes works pass values) next.values
  pub away : (cell : Word) → times cell pass.owned ≡ 0 → next.values cell ≡ core.values cell
  pub others : (other : ℕ) → other ≢ by → next.passes other ≡ core.passes other
  pub words : next.words ≡ core.words
  pub history : next.history ≡ core.history
  pub made : next.made ≡ core.made
  pub ended : next.ended ≡ core.ended

module _ (laws : CoreLaws) (sizes : Sizes) (first : Values) (by : ℕ) where
  -- it sees its owned cells
  pub sees_owned : (core : Core) (pass : Pass) (values : Values) → Sound sizes first core → core.passes by ≡ pass → AgreeOn pass values core.values → DependsOnOwned sizes pass values core.values
  sees_owned core pass values sound is agree = laws.owned sizes pass values core.values (subst (Ownership sizes) is (sound.ownership by)) (subst (ControlFacts sizes) is (sound.control_facts by)) agree

  -- one of them
  record Called (core : Core) (pass : Pass) (values : Values) (work : Work) : Type 0 where
    come : EventEnabled sizes record { by = by; act = CallsDevice work } core
    well : GoesWell sizes first (after_work sizes by work core)
    pass_is : (after_work sizes by work core).passes by ≡ worked sizes work pass
    agree : AgreeOn pass (values_worked pass work values) (after_work sizes by work core).values
    away : (cell : Word) → times cell (core.passes by).owned ≡ 0 → (after_work sizes by work core).values cell ≡ core.values cell

  call_comes : (work : Work) (core : Core) (pass : Pass) (values : Values) → GoesWell sizes first core → by ≤ core.made → (IsOneOf core.ended by → ⊥)
      → core.passes by ≡ pass → AgreeOn pass values core.values → pass.left ≡ [] → CallEnabled sizes values pass work → Called core pass values work
  call_comes work core pass values well made there is agree left may = record {
    come = come;
    well = well_after sizes first core event well come;
    pass_is = number_here core.passes by (worked sizes work (core.passes by)) ∙ ap (worked sizes work) is;
    agree = subst (λ p. AgreeOn pass (values_worked pass work values) (values_worked p work core.values)) (sym is) (sees.worked work may);
    away = (laws.others sizes first core event (well [] tt).0 come).values;
  }
    where
      event : Event
      event = record { by = by; act = CallsDevice work }

      sees : DependsOnOwned sizes pass values core.values
      sees = sees_owned core pass values (well [] tt).0 is agree

      come : EventEnabled sizes event core
      come = record {
        made = made;
        there = there;
        staying = ap (λ (p : Pass). p.left) is ∙ left;
        act = subst (λ p. CallEnabled sizes core.values p work) (sym is) (sees.works work may);
      }

  both_come : (work : Work) (later : List Work) (core : Core) (pass : Pass) (values : Values) → core.passes by ≡ pass → Called core pass values work
      → Worked sizes first by (after_work sizes by work core) (after_run sizes (after_work sizes by work core) (calls by later)) (worked sizes work pass) (values_worked pass work values) later
      → Worked sizes first by core (after_run sizes core (calls by (work ∷ later))) pass values (work ∷ later)
  both_come work later core pass values is one again = record {
    is_run = (one.come, again.is_run);
    well = again.well;
    pass_is = again.pass_is;
    owned = again.owned;
    left = again.left;
    agree = again.agree;
    away = λ cell none. again.away cell none ∙ one.away cell (ap (λ (p : Pass). times cell p.owned) is ∙ none);
    others = λ other ne. again.others other ne ∙ number_else core.passes by (worked sizes work (core.passes by)) other ne;
    words = again.words;
    history = again.history;
    made = again.made;
    ended = again.ended;
  }

  pub works_come : (works : List Work) (core : Core) (pass : Pass) (values : Values) → GoesWell sizes first core → by ≤ core.made → (IsOneOf core.ended by → ⊥)
      → core.passes by ≡ pass → AgreeOn pass values core.values → pass.left ≡ [] → AreDue sizes values pass works → Worked sizes first by core (after_run sizes core (calls by works)) pass values works
  works_come [] core pass values well made there is agree left due = record {
    is_run = tt;
    well = well;
    pass_is = is;
    owned = refl;
    left = refl;
    agree = agree;
    away = λ cell none. refl;
    others = λ other ne. refl;
    words = refl;
    history = refl;
    made = refl;
    ended = refl;
  }
  works_come (work ∷ later) core pass values well made there is agree left due =
      let one = call_comes work core pass values well made there is agree left due.0 in
      both_come work later core pass values is one
      (works_come later (after_work sizes by work core) (worked sizes work pass) (values_worked pass work values) one.well made there one.pass_is one.agree left due.1)

-- ---- steps

-- a step by the order of steps, as all are but those between passes
abbrev pub IsPlain : Op → Type 0
IsPlain Split = ⊥
IsPlain (PutBack cell) = ⊥
IsPlain (Join number) = ⊥
IsPlain op = Unit {0}

pub is_plain : (sizes : Sizes) (values : Values) (pass : Pass) (op : Op) → Enabled sizes values pass op → IsPlain op
is_plain sizes values pass Split may = absurd (next_steps_may_come sizes values pass Split may)
is_plain sizes values pass (PutBack cell) may = absurd (next_steps_may_come sizes values pass (PutBack cell) may)
is_plain sizes values pass (Join number) may = absurd (next_steps_may_come sizes values pass (Join number) may)
is_plain sizes values pass op may = tt

-- what may come by it follows the order of steps
pub step_of : (sizes : Sizes) (by : ℕ) (core : Core) (op : Op) → IsPlain op → StepEnabled sizes by core op → Enabled sizes core.values (core.passes by) op
step_of sizes by core Split is may = absurd is
step_of sizes by core (PutBack cell) is may = absurd is
step_of sizes by core (Join number) is may = absurd is
step_of sizes by core op is may = may

-- what it changes
record Plain (sizes : Sizes) (by : ℕ) (core : Core) (op : Op) (found : ℕ) : Type 0 where
  which : changes by core.made op ≡ by
  into : changed_pass sizes by core op found ≡ stepped sizes by core.history op found (core.passes by)
  made : made_stepped op core.made ≡ core.made
  ended : ended_stepped op core.ended ≡ core.ended
  may : Enabled sizes core.values (core.passes by) op → StepEnabled sizes by core op

plain : (sizes : Sizes) (by : ℕ) (core : Core) (op : Op) (found : ℕ) → IsPlain op → Plain sizes by core op found
plain sizes by core Split found is = absurd is
plain sizes by core (PutBack cell) found is = absurd is
plain sizes by core (Join number) found is = absurd is
plain sizes by core op found is = record { which = refl; into = refl; made = refl; ended = refl; may = λ m. m }

pub left_stays : (pass : Pass) (op : Op) → IsPlain op → left_after pass op ≡ pass.left
left_stays pass (PutBack cell) is = absurd is
left_stays pass op is = refl

-- What a step leaves of a core, by the pass as it was.
pub record Stepped (sizes : Sizes) (by : ℕ) (core next : Core) (pass : Pass) (op : Op) (found : ℕ) : Type 0 where
  pub may : Enabled sizes core.values pass op → StepEnabled sizes by core op
  pub pass_is : next.passes by ≡ stepped sizes by core.history op found pass
  pub others : (other : ℕ) → other ≢ by → next.passes other ≡ core.passes other
  pub words : (other : Word) → next.words other ≡ (if same other (word_of sizes pass op) then value_after sizes pass op found else core.words other)
  pub values : (cell : Word) → next.values cell ≡ values_stepped sizes pass op core.values cell
  pub made : next.made ≡ core.made
  pub ended : next.ended ≡ core.ended

pub step_comes : (sizes : Sizes) (by : ℕ) (core : Core) (pass : Pass) (op : Op) (found : ℕ) → core.passes by ≡ pass → IsPlain op → Stepped sizes by core (after_step sizes by op found core) pass op found
step_comes sizes by core pass op found is simple = subst (λ p. Stepped sizes by core (after_step sizes by op found core) p op found) is record {
  may = p.may;
  pass_is = subst (λ number. with_number core.passes number (changed_pass sizes by core op found) by ≡ stepped sizes by core.history op found (core.passes by)) (sym p.which) (number_here core.passes by (changed_pass sizes by core op found) ∙ p.into);
  others = λ other ne. number_else core.passes (changes by core.made op) (changed_pass sizes by core op found) other (λ e. ne (e ∙ p.which));
  words = λ other. refl;
  values = λ cell. refl;
  made = p.made;
  ended = p.ended;
}
  where
    p : Plain sizes by core op found
    p = plain sizes by core op found simple

-- ---- a call that begins by a step

-- the core as the step finds it
abbrev pub core_with : Sizes → (by : ℕ) → Option FileCall → Core → Core
core_with sizes by None core = core
core_with sizes by (Some call) core = after_begin sizes by call core

-- What the call changes of a core, by the pass as it was, and how the two come as one event.
pub record Opens (sizes : Sizes) (first : Values) (by : ℕ) (core : Core) (pass : Pass) (opens : Option FileCall) : Type 0 where
  pub sound : Sound sizes first (core_with sizes by opens core)
  pub pass_is : (core_with sizes by opens core).passes by ≡ with_call sizes opens pass
  pub owned : (with_call sizes opens pass).owned ≡ pass.owned
  pub left : (with_call sizes opens pass).left ≡ pass.left
  pub others : (other : ℕ) → other ≢ by → (core_with sizes by opens core).passes other ≡ core.passes other
  pub words : (core_with sizes by opens core).words ≡ core.words
  pub values : (core_with sizes by opens core).values ≡ core.values
  pub history : (core_with sizes by opens core).history ≡ core.history
  pub made : (core_with sizes by opens core).made ≡ core.made
  pub ended : (core_with sizes by opens core).ended ≡ core.ended
  pub may : (op : Op) (found : ℕ) → FoundEnabled sizes by (core_with sizes by opens core) op found → ActEnabled sizes by core (act_of opens op found)
  pub after_is : (op : Op) (found : ℕ) → after_act sizes by (act_of opens op found) core ≡ after_step sizes by op found (core_with sizes by opens core)
  pub on : (op : Op) (found : ℕ) → IsOnWord sizes by core (act_of opens op found) → IsWord sizes (word_of sizes ((core_with sizes by opens core).passes by) op)

pub opens_call : (sizes : Sizes) (first : Values) (by : ℕ) (core : Core) (pass : Pass) (opens : Option FileCall) → Sound sizes first core → by ≤ core.made → core.passes by ≡ pass → MayOpen sizes opens pass → Opens sizes first by core pass opens
opens_call sizes first by core pass None sound made is open_ = record {
  sound = sound;
  pass_is = is;
  owned = refl;
  left = refl;
  others = λ other ne. refl;
  words = refl;
  values = refl;
  history = refl;
  made = refl;
  ended = refl;
  may = λ op found find. find;
  after_is = λ op found. refl;
  on = λ op found on. on;
}
opens_call sizes first by core pass (Some call) sound made is open_ = record {
  sound = sound_begin sizes first by core call sound made begins;
  pass_is = number_here core.passes by (begun sizes call (core.passes by)) ∙ ap (begun sizes call) is;
  owned = refl;
  left = refl;
  others = λ other ne. number_else core.passes by (begun sizes call (core.passes by)) other ne;
  words = refl;
  values = refl;
  history = refl;
  made = refl;
  ended = refl;
  may = λ op found find. (begins, find);
  after_is = λ op found. refl;
  on = λ op found on. on;
}
  where
    begins : MayOpen sizes (Some call) (core.passes by)
    begins = subst (MayOpen sizes (Some call)) (sym is) open_

-- a pass that has put nothing back may make it
pub stays : (act : Act) (pass : Pass) → pass.left ≡ [] → IsStaying act pass
stays (TakesStep (PutBack cell) found) pass left = tt
stays act pass left = left
