-- Tails: TAIL stays where no pass makes a cleaner's step.
use Rattle.std.proofs.Common.{◌≡◌, ℕ, false, List, [], ◌∷◌, refl, ◌∙◌}
use Rattle.std.specs.Prelude.{All}
use Rattle.std.proofs.lemmas.List.Elements.{All-nil, All-cons, All-head, All-tail}
use Rattle.nv_core.specs.state.Words.{Sizes, TAIL}
use Rattle.nv_core.specs.state.Core.{Core, after_begin}
use Rattle.nv_core.specs.steps.Ops.{Op, Take, ByCleaner}
use Rattle.nv_core.specs.steps.Events.{Act, BeginsCall, TakesStep, CallsDevice, Event, after_act, after_event, after_run, IsRun}
use Rattle.nv_core.specs.steps.Opening.{opening}
use Rattle.nv_core.proofs.steps.ByKind.{ActEnabledByKind, act_kind}
use Rattle.nv_core.proofs.steps.WordLaws.{touches}
use Rattle.nv_core.proofs.invariant.KeepsLoaded.{tail_is}
use Rattle.nv_table.specs.state.Opened.{Opened, IsRunOf, mount_of, state_of}
use Rattle.nv_runner.specs.Runs.{CleansNothing, is_cleaning, is_cleaning_op}

-- a step that is none of a cleaner leaves it
leaves_tail : (op : Op) → is_cleaning_op op ≡ false → touches op TAIL ≡ false
leaves_tail (ByCleaner cleaner_op) none = absurd (cc)
leaves_tail (Take cell) none = refl
leaves_tail op none = refl

act_still : (sizes : Sizes) (by : ℕ) (core : Core) (act : Act) → ActEnabledByKind sizes by core act → is_cleaning act ≡ false → (after_act sizes by act core).words TAIL ≡ core.words TAIL
act_still sizes by core (BeginsCall call op found) may none = tail_is sizes by (after_begin sizes by call core) op found may.1 (leaves_tail op none)
act_still sizes by core (TakesStep op found) may none = tail_is sizes by core op found may (leaves_tail op none)
act_still sizes by core (CallsDevice work) may none = refl

run_still : (sizes : Sizes) (run : List Event) (core : Core) → IsRun sizes core run → All (λ event. is_cleaning event.act ≡ false) run → (after_run sizes core run).words TAIL ≡ core.words TAIL
run_still sizes [] core is none = refl
run_still sizes (event ∷ later) core is none =
    run_still sizes later (after_event sizes event core) is.1 (All-tail (λ (event : Event). is_cleaning event.act ≡ false) event later none)
    ∙ act_still sizes event.by core event.act (act_kind sizes event.by core event.act is.0.act) (All-head (λ (event : Event). is_cleaning event.act ≡ false) event later none)

-- what no pass cleans, nobody does
nobody_cleans : (run : List Event) → ((number : ℕ) → CleansNothing number run) → All (λ event. is_cleaning event.act ≡ false) run
nobody_cleans [] none = All-nil (λ (event : Event). is_cleaning event.act ≡ false)
nobody_cleans (event ∷ later) none =
    All-cons (λ (event : Event). is_cleaning event.act ≡ false) event later (All-head (λ (other : Event). other.by ≡ event.by → is_cleaning other.act ≡ false) event later (none event.by) refl)
    (nobody_cleans later (λ number. All-tail (λ (other : Event). other.by ≡ number → is_cleaning other.act ≡ false) event later (none number)))

-- so TAIL is as at opening
pub tail_still : (opened : Opened) (run : List Event) → IsRunOf opened run → ((number : ℕ) → CleansNothing number run) → (state_of opened run).words TAIL ≡ opened.next
tail_still opened run is none = run_still opened.sizes run (opening (mount_of opened)) is (nobody_cleans run none)
