-- Step at: the state in which a pass makes a step, after the device calls that lie before it.
use Rattle.std.proofs.Common.{◌≡◌, ◌≢◌, ℕ, ◌≤◌, List, [], ◌∷◌, ◌++◌, refl, ap, subst, ◌∙◌}
use Rattle.std.specs.Prelude.{Option, Some, None}
use Rattle.nv_plain.specs.declared.call.FileCall.{FileCall}
use Rattle.nv_core.specs.state.Words.{Sizes}
use Rattle.nv_core.specs.steps.Ops.{Op}
use Rattle.nv_core.specs.steps.Order.{Values, Work}
use Rattle.nv_core.specs.state.Core.{Core, worked, after_step, after_work}
use Rattle.nv_core.specs.steps.PassSteps.{begun}
use Rattle.nv_core.specs.steps.Events.{Event, FoundEnabled, ActEnabled, IsRun, after_act, after_run}
use Rattle.nv_core.specs.steps.Opening.{IsMount, opening}
use Rattle.nv_core.specs.invariant.InvariantLaws.{RunsAreSound}
use Rattle.nv_core.specs.steps.Frames.{OwnEventsTell}
use Rattle.nv_core.specs.invariant.Sound.{Sound}
use Rattle.nv_core.proofs.state.Changes.{number_here, number_else}
use Rattle.nv_core.proofs.invariant.Reach.{sound_begin}
use Rattle.nv_core.proofs.steps.RunLaws.{run_parts, run_both, after_parts}
use Rattle.nv_table.specs.steps.SeatSteps.{StepTells, MayOpen, act_of, events, pass_worked, with_call}
use Rattle.nv_table.specs.state.Opened.{mount_of, IsRunOf, state_of}
use Rattle.nv_table.specs.state.Views.{PassView, pass_of}
use Rattle.nv_table.proofs.invariant.Going.{told_of}
use Rattle.nv_table.proofs.steps.RunsOn.{calls, core_with}

-- ---- what device calls leave

module _ (sizes : Sizes) (by : ℕ) where
  pub calls_stay : {T : Type 0} (f : Core → T) → ((work : Work) (core : Core) → f (after_work sizes by work core) ≡ f core)
      → (works : List Work) (core : Core) → f (after_run sizes core (calls by works)) ≡ f core
  calls_stay f stays [] core = refl
  calls_stay f stays (work ∷ later) core = calls_stay f stays later (after_work sizes by work core) ∙ stays work core

  calls_own : (works : List Work) (core : Core) → (after_run sizes core (calls by works)).passes by ≡ pass_worked sizes works (core.passes by)
  calls_own [] core = refl
  calls_own (work ∷ later) core =
      calls_own later (after_work sizes by work core) ∙ ap (pass_worked sizes later) (number_here core.passes by (worked sizes work (core.passes by)))

  calls_others : (other : ℕ) → other ≢ by → (works : List Work) (core : Core) → (after_run sizes core (calls by works)).passes other ≡ core.passes other
  calls_others other ne works core = calls_stay (λ c. c.passes other) (λ work before. number_else before.passes by (worked sizes work (before.passes by)) other ne) works core

-- ---- the call that begins by the step

module _ (sizes : Sizes) (by : ℕ) (core : Core) where
  finds : (opens : Option FileCall) (op : Op) (found : ℕ) → ActEnabled sizes by core (act_of opens op found) → FoundEnabled sizes by (core_with sizes by opens core) op found
  finds None op found may = may
  finds (Some call) op found may = may.1

  begins_soundly : (first : Values) (opens : Option FileCall) (op : Op) (found : ℕ) → Sound sizes first core → by ≤ core.made → ActEnabled sizes by core (act_of opens op found)
      → Sound sizes first (core_with sizes by opens core)
  begins_soundly first None op found sound made may = sound
  begins_soundly first (Some call) op found sound made may = sound_begin sizes first by core call sound made may.0

  begins_own : (opens : Option FileCall) → (core_with sizes by opens core).passes by ≡ with_call sizes opens (core.passes by)
  begins_own None = refl
  begins_own (Some call) = number_here core.passes by (begun sizes call (core.passes by))

  begins_others : (opens : Option FileCall) (other : ℕ) → other ≢ by → (core_with sizes by opens core).passes other ≡ core.passes other
  begins_others None other ne = refl
  begins_others (Some call) other ne = number_else core.passes by (begun sizes call (core.passes by)) other ne

  begins_open : (opens : Option FileCall) (op : Op) (found : ℕ) → ActEnabled sizes by core (act_of opens op found) → MayOpen sizes opens (core.passes by)
  begins_open None op found may = tt
  begins_open (Some call) op found may = may.0

  begins_words : (opens : Option FileCall) → (core_with sizes by opens core).words ≡ core.words
  begins_words None = refl
  begins_words (Some call) = refl

  steps_then : (opens : Option FileCall) (op : Op) (found : ℕ) → after_act sizes by (act_of opens op found) core ≡ after_step sizes by op found (core_with sizes by opens core)
  steps_then None op found = refl
  steps_then (Some call) op found = refl

-- ---- the state

-- It is sound, the step may come there, and it differs from that of the run by its pass alone, which is known.
pub record IsMadeAt (old : PassView) (run : List Event) (works : List Work) (opens : Option FileCall) (op : Op) (found : ℕ) : Type 0 where
  pub core : Core
  pub is_run : IsRunOf old.opened run
  pub before : Sound old.opened.sizes (mount_of old.opened).values (state_of old.opened run)
  pub sound : Sound old.opened.sizes (mount_of old.opened).values core
  pub may : FoundEnabled old.opened.sizes old.number core op found
  pub begins : MayOpen old.opened.sizes opens (pass_worked old.opened.sizes works (pass_of old))
  pub own : core.passes old.number ≡ with_call old.opened.sizes opens (pass_worked old.opened.sizes works (pass_of old))
  pub others : (other : ℕ) → other ≢ old.number → core.passes other ≡ (state_of old.opened run).passes other
  pub words : core.words ≡ (state_of old.opened run).words
  pub next : state_of old.opened (run ++ events old.number works (act_of opens op found)) ≡ after_step old.opened.sizes old.number op found core

pub made_at : RunsAreSound → OwnEventsTell → (old new : PassView) (works : List Work) (opens : Option FileCall) (op : Op) (found : ℕ) → IsMount (mount_of old.opened)
    → (steps : StepTells old works (act_of opens op found) new) → IsMadeAt old steps.run works opens op found
made_at sound tell old new works opens op found mount steps =
    record {
      core = core_with sizes by opens called;
      is_run = whole.0;
      before = sound (mount_of old.opened) run mount whole.0;
      sound = begins_soundly sizes by called (mount_of old.opened).values opens op found sound_called made later.1.0.act;
      may = finds sizes by called opens op found later.1.0.act;
      begins = subst (MayOpen sizes opens) own_called (begins_open sizes by called opens op found later.1.0.act);
      own = begins_own sizes by called opens
          ∙ ap (with_call sizes opens) own_called;
      others = λ other ne. begins_others sizes by called opens other ne ∙ calls_others sizes by other ne works (state_of old.opened run);
      words = begins_words sizes by called opens ∙ calls_stay sizes by (λ c. c.words) (λ work core. refl) works (state_of old.opened run);
      next = after_parts sizes first run (calls by works ++ event ∷ []) ∙ after_parts sizes (state_of old.opened run) (calls by works) (event ∷ []) ∙ steps_then sizes by called opens op found;
    }
  where
    sizes : Sizes
    sizes = old.opened.sizes

    by : ℕ
    by = old.number

    first : Core
    first = opening (mount_of old.opened)

    run : List Event
    run = steps.run

    event : Event
    event = record { by = by; act = act_of opens op found }

    called : Core
    called = after_run sizes (state_of old.opened run) (calls by works)

    whole : IsRunOf old.opened run × IsRun sizes (state_of old.opened run) (events by works (act_of opens op found))
    whole = run_parts sizes first run (events by works (act_of opens op found)) steps.is_run

    later : IsRun sizes (state_of old.opened run) (calls by works) × IsRun sizes called (event ∷ [])
    later = run_parts sizes (state_of old.opened run) (calls by works) (event ∷ []) whole.1

    sound_called : Sound sizes (mount_of old.opened).values called
    sound_called = subst (Sound sizes (mount_of old.opened).values) (after_parts sizes first run (calls by works))
        (sound (mount_of old.opened) (run ++ calls by works) mount (run_both sizes first run (calls by works) whole.0 later.0))

    own_called : called.passes by ≡ pass_worked sizes works (pass_of old)
    own_called = calls_own sizes by works (state_of old.opened run)
        ∙ ap (pass_worked sizes works) (told_of tell old.opened by old.run run mount whole.0 steps.knew.all steps.knew.made).pass

    made : by ≤ called.made
    made = later.1.0.made
