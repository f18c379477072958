-- Each event keeps HEAD at what was drawn, and leaves no pass with less.
use Rattle.std.proofs.Common.{◌≡◌, ◌≢◌, ℕ, ◌+◌, ◌<◌, ◌≤◌, ◌==◌, Bool, true, false, if◌then◌else◌, List, [], ◌∷◌, ◌++◌, refl, sym, ap, subst, ◌∙◌, arith, le_trans}
use Rattle.nv_core.specs.state.Totals.{total}
use Rattle.nv_core.specs.state.Words.{Sizes, HEAD}
use Rattle.nv_core.specs.state.Passes.{Pass, page_count}
use Rattle.nv_core.specs.steps.Ops.{Op, Draw, Split, PutBack, Join}
use Rattle.nv_core.specs.steps.PassSteps.{begun}
use Rattle.nv_core.specs.steps.Order.{Values}
use Rattle.nv_core.specs.state.Core.{Core, with_number, changes, changed_pass, after_step, after_begin, worked}
use Rattle.nv_core.specs.steps.Events.{Act, BeginsCall, TakesStep, CallsDevice, Event, EventEnabled, after_act, after_event, after_run, IsRun, own}
use Rattle.nv_core.specs.steps.Opening.{opening, opening_pass}
use Rattle.nv_core.specs.invariant.Draws.{placed_entries, faulted_entries, drawn_of, drawn_by_all, IdlePassesHaveDrawn, CountsDraws, EventsCountDraws, RunsCountDraws, UnmadeHaveDrawnNothing, DrawsGrow, OnlyOwnEventsDraw, HeadsAreBounded, open_entries}
use Rattle.nv_core.specs.invariant.InvariantLaws.{OpeningIsSound, EventsKeepSound, RunsAreSound}
use Rattle.nv_core.specs.invariant.Sound.{Sound}
use Rattle.nv_core.proofs.state.Changes.{by_number, word_here}
use Rattle.nv_core.proofs.state.TotalLaws.{total_changed, total_made, total_up_to, total_apart, total_most, total_zeros}
use Rattle.nv_core.proofs.steps.ByKind.{FoundEnabledByKind, ActEnabledByKind, act_kind}
use Rattle.nv_core.proofs.steps.FrameLaws.{others_all}
use Rattle.nv_core.proofs.steps.RunLaws.{run_parts, after_parts}
use Rattle.nv_core.proofs.steps.WordLaws.{untouched}
use Rattle.nv_core.proofs.invariant.DrawnSteps.{undrawn, drew, begun_undrawn, worked_undrawn}
use Rattle.nv_core.proofs.invariant.Reach.{sound_begin}

-- between two calls nothing is open
pub idle_passes_have_drawn : IdlePassesHaveDrawn
idle_passes_have_drawn sizes pass idle = let none : open_entries sizes pass.call pass.control ≡ 0 = ap (open_entries sizes pass.call) idle in omega (arith, none)

-- a pass that isn't made yet
unmade : (sizes : Sizes) (first : Values) (core : Core) (number : ℕ) → Sound sizes first core → core.made < number → drawn_of sizes (core.passes number) ≡ 0
unmade sizes first core number sound late =
    let unborn = sound.numbers.unborn number late in
    let placed = ap (placed_entries sizes) unborn.mine in
    let faulted = ap (faulted_entries sizes) unborn.faulted in
    let idle = idle_passes_have_drawn sizes (core.passes number) unborn.idle in
    omega (arith, placed, faulted, idle)

-- ---- what an act draws

-- HEAD, the total and the one pass go up by the same; no pass has drawn less, and of the passes only that one more.
record Draws (sizes : Sizes) (by : ℕ) (core later : Core) : Type 0 where
  pub many : ℕ
  pub head : later.words HEAD ≡ core.words HEAD + many
  pub all : drawn_by_all sizes later ≡ drawn_by_all sizes core + many
  pub each : (number : ℕ) → drawn_of sizes (core.passes number) ≤ drawn_of sizes (later.passes number)
  pub others : (number : ℕ) → number ≢ by → drawn_of sizes (later.passes number) ≡ drawn_of sizes (core.passes number)

-- what a step draws, by HEAD and by the pass that it changes
record Gains (sizes : Sizes) (by : ℕ) (core : Core) (op : Op) (found : ℕ) : Type 0 where
  pub many : ℕ
  pub head : (after_step sizes by op found core).words HEAD ≡ core.words HEAD + many
  pub now : drawn_of sizes (changed_pass sizes by core op found) ≡ drawn_of sizes (core.passes (changes by core.made op)) + many

won_or_lost : (found many : ℕ) (won : Bool) → (if won then found + many else found) ≡ found + (if won then many else 0)
won_or_lost found many true = refl
won_or_lost found many false = omega arith

gains : (sizes : Sizes) (first : Values) (by : ℕ) (core : Core) (op : Op) (found : ℕ) → Sound sizes first core → FoundEnabledByKind sizes by core op found → Gains sizes by core op found
gains sizes first by core Split found sound may = record {
  many = 0;
  head = let same = untouched sizes by core Split found may HEAD refl in omega (arith, same);
  now = let none = unmade sizes first core (core.made + 1) sound (omega arith) in omega (arith, none);
}
gains sizes first by core (PutBack cell) found sound may = record { many = 0; head = let same = untouched sizes by core (PutBack cell) found may HEAD refl in omega (arith, same); now = omega arith }
gains sizes first by core (Join number) found sound may = record { many = 0; head = let same = untouched sizes by core (Join number) found may HEAD refl in omega (arith, same); now = omega arith }
gains sizes first by core Draw found sound may = record {
  many = if found == (core.passes by).head then page_count sizes (core.passes by).call else 0;
  head = word_here core.words HEAD _ ∙ won_or_lost found (page_count sizes (core.passes by).call) (found == (core.passes by).head)
      ∙ ap (λ f. f + (if found == (core.passes by).head then page_count sizes (core.passes by).call else 0)) (sym may.is);
  now = drew sizes (core.passes by) found by core.history (sound.control_facts by) may.may;
}
gains sizes first by core op found sound may = record {
  many = 0;
  head = let same = untouched sizes by core op found may HEAD refl in omega (arith, same);
  now = let same = undrawn sizes core.values (core.passes by) found by core.history op refl (sound.control_facts by) (sound.made.each by) may.may in omega (arith, same);
}

-- a pass changes
total_by : (sizes : Sizes) (made by many : ℕ) (passes : ℕ → Pass) (now : Pass) → by ≤ made → drawn_of sizes now ≡ drawn_of sizes (passes by) + many
    → total (made + 1) (λ n. drawn_of sizes (with_number passes by now n)) ≡ total (made + 1) (λ n. drawn_of sizes (passes n)) + many
total_by sizes made by many passes now here drawn = let changed = total_changed (made + 1) by (drawn_of sizes) passes now (omega (arith, here)) in omega (arith, changed, drawn)

all_drawn : (sizes : Sizes) (first : Values) (by : ℕ) (core : Core) (op : Op) (found : ℕ) → Sound sizes first core → by ≤ core.made → (gained : Gains sizes by core op found) → drawn_by_all sizes (after_step sizes by op found core) ≡ drawn_by_all sizes core + gained.many
all_drawn sizes first by core Split found sound here gained =
    let made = total_made (core.made + 1) (drawn_of sizes) core.passes (changed_pass sizes by core Split found) in
    let none = unmade sizes first core (core.made + 1) sound (omega arith) in
    let now = gained.now in
    omega (arith, made, none, now)
all_drawn sizes first by core op found sound here gained = total_by sizes core.made by gained.many core.passes (changed_pass sizes by core op found) here gained.now

-- of a pass that isn't the one that steps, the step changes no draw, be it the one that it makes
other_draws : (sizes : Sizes) (first : Values) (by : ℕ) (core : Core) (op : Op) (found : ℕ) → Sound sizes first core → changes by core.made op ≢ by → drawn_of sizes (changed_pass sizes by core op found) ≡ drawn_of sizes (core.passes (changes by core.made op))
other_draws sizes first by core Split found sound ne = let none = unmade sizes first core (core.made + 1) sound (omega arith) in omega (arith, none)
other_draws sizes first by core op found sound ne = absurd (ne refl)

step_draws : (sizes : Sizes) (first : Values) (by : ℕ) (core : Core) (op : Op) (found : ℕ) → Sound sizes first core → by ≤ core.made → FoundEnabledByKind sizes by core op found → Draws sizes by core (after_step sizes by op found core)
step_draws sizes first by core op found sound here may = record {
  many = gained.many;
  head = gained.head;
  all = all_drawn sizes first by core op found sound here gained;
  each = by_number (λ n (p : Pass). drawn_of sizes (core.passes n) ≤ drawn_of sizes p) core.passes (changes by core.made op) (changed_pass sizes by core op found) (let now = gained.now in omega (arith, now)) (λ n ne. omega arith);
  others = by_number (λ n (p : Pass). n ≢ by → drawn_of sizes p ≡ drawn_of sizes (core.passes n)) core.passes (changes by core.made op) (changed_pass sizes by core op found) (other_draws sizes first by core op found sound) (λ n ne _. refl);
}
  where
    gained : Gains sizes by core op found
    gained = gains sizes first by core op found sound may

-- a call that begins, and a device call, draw nothing
one_draws : (sizes : Sizes) (by : ℕ) (core : Core) (now : Pass) (values : Values) → by ≤ core.made → drawn_of sizes now ≡ drawn_of sizes (core.passes by) → Draws sizes by core record core { values = values; passes = with_number core.passes by now }
one_draws sizes by core now values here same = record {
  many = 0;
  head = omega arith;
  all = total_by sizes core.made by 0 core.passes now here (omega (arith, same));
  each = by_number (λ n (p : Pass). drawn_of sizes (core.passes n) ≤ drawn_of sizes p) core.passes by now (omega (arith, same)) (λ n ne. omega arith);
  others = by_number (λ n (p : Pass). n ≢ by → drawn_of sizes p ≡ drawn_of sizes (core.passes n)) core.passes by now (λ _. same) (λ n ne _. refl);
}

both_draw : (sizes : Sizes) (by : ℕ) (core next later : Core) → Draws sizes by core next → Draws sizes by next later → Draws sizes by core later
both_draw sizes by core next later one other = record {
  many = one.many + other.many;
  head = let a = one.head in let b = other.head in omega (arith, a, b);
  all = let a = one.all in let b = other.all in omega (arith, a, b);
  each = λ n. le_trans (one.each n) (other.each n);
  others = λ n ne. other.others n ne ∙ one.others n ne;
}

act_draws : (sizes : Sizes) (first : Values) (by : ℕ) (core : Core) (act : Act) → Sound sizes first core → by ≤ core.made → ActEnabledByKind sizes by core act → Draws sizes by core (after_act sizes by act core)
act_draws sizes first by core (BeginsCall call op found) sound here may =
    both_draw sizes by core (after_begin sizes by call core) (after_act sizes by (BeginsCall call op found) core)
    (one_draws sizes by core (begun sizes call (core.passes by)) core.values here (begun_undrawn sizes call (core.passes by) may.0.idle))
    (step_draws sizes first by (after_begin sizes by call core) op found (sound_begin sizes first by core call sound here may.0) here may.1)
act_draws sizes first by core (TakesStep op found) sound here may = step_draws sizes first by core op found sound here may
act_draws sizes first by core (CallsDevice work) sound here may = one_draws sizes by core (worked sizes work (core.passes by)) _ here (worked_undrawn sizes core.values (core.passes by) work may)

event_draws : (sizes : Sizes) (first : Values) (core : Core) (event : Event) → Sound sizes first core → EventEnabled sizes event core → Draws sizes event.by core (after_event sizes event core)
event_draws sizes first core event sound may = act_draws sizes first event.by core event.act sound may.made (act_kind sizes event.by core event.act may.act)

-- ---- HEAD

pub events_count_draws : EventsCountDraws
events_count_draws sizes first next core event sound may counts =
    let draws = event_draws sizes first core event sound may in let head = draws.head in let all = draws.all in omega (arith, counts, head, all)

run_counts : EventsKeepSound → (sizes : Sizes) (first : Values) (next : ℕ) (run : List Event) (core : Core) → Sound sizes first core → IsRun sizes core run → CountsDraws sizes next core → CountsDraws sizes next (after_run sizes core run)
run_counts keep sizes first next [] core sound is counts = counts
run_counts keep sizes first next (event ∷ later) core sound is counts =
    run_counts keep sizes first next later (after_event sizes event core) (keep sizes first core event sound is.0) is.1 (events_count_draws sizes first next core event sound is.0 counts)

pub runs_count_draws : OpeningIsSound → EventsKeepSound → RunsCountDraws
runs_count_draws opens keep mount run is_mount is =
    run_counts keep mount.sizes mount.values mount.next run (opening mount) (opens mount is_mount) is
    (let none = total_zeros (0 + 1) (λ n. drawn_of mount.sizes (opening_pass mount)) (λ n below. refl) in omega (arith, none))

-- ---- the passes

pub unmade_have_drawn_nothing : RunsAreSound → UnmadeHaveDrawnNothing
unmade_have_drawn_nothing sound mount number run is_mount is late = unmade mount.sizes mount.values (after_run mount.sizes (opening mount) run) number (sound mount run is_mount is) late

run_grows : EventsKeepSound → (sizes : Sizes) (first : Values) (number : ℕ) (more : List Event) (core : Core) → Sound sizes first core → IsRun sizes core more
    → drawn_of sizes (core.passes number) ≤ drawn_of sizes ((after_run sizes core more).passes number)
run_grows keep sizes first number [] core sound is = omega arith
run_grows keep sizes first number (event ∷ later) core sound is =
    le_trans ((event_draws sizes first core event sound is.0).each number) (run_grows keep sizes first number later (after_event sizes event core) (keep sizes first core event sound is.0) is.1)

pub draws_grow : EventsKeepSound → RunsAreSound → DrawsGrow
draws_grow keep sound mount number run more is_mount is =
    let parts = run_parts mount.sizes (opening mount) run more is in
    subst (λ (core : Core). drawn_of mount.sizes ((after_run mount.sizes (opening mount) run).passes number) ≤ drawn_of mount.sizes (core.passes number)) (sym (after_parts mount.sizes (opening mount) run more))
    (run_grows keep mount.sizes mount.values number more (after_run mount.sizes (opening mount) run) (sound mount run is_mount parts.0) parts.1)

run_leaves : EventsKeepSound → (sizes : Sizes) (first : Values) (number : ℕ) (more : List Event) (core : Core) → Sound sizes first core → IsRun sizes core more → own number more ≡ []
    → drawn_of sizes ((after_run sizes core more).passes number) ≡ drawn_of sizes (core.passes number)
run_leaves keep sizes first number [] core sound is none = refl
run_leaves keep sizes first number (event ∷ later) core sound is none =
    let rest = others_all number event later none in
    run_leaves keep sizes first number later (after_event sizes event core) (keep sizes first core event sound is.0) is.1 rest.1 ∙ (event_draws sizes first core event sound is.0).others number rest.0

pub only_own_events_draw : EventsKeepSound → RunsAreSound → OnlyOwnEventsDraw
only_own_events_draw keep sound mount number run more is_mount is none =
    let parts = run_parts mount.sizes (opening mount) run more is in
    subst (λ (core : Core). drawn_of mount.sizes (core.passes number) ≡ drawn_of mount.sizes ((after_run mount.sizes (opening mount) run).passes number)) (sym (after_parts mount.sizes (opening mount) run more))
    (run_leaves keep mount.sizes mount.values number more (after_run mount.sizes (opening mount) run) (sound mount run is_mount parts.0) parts.1 none)

-- ---- a bound of HEAD

less_of_others : (same : Bool) (few many : ℕ) → few ≤ many → (if same then 0 else few) ≤ (if same then 0 else many)
less_of_others true few many less = omega arith
less_of_others false few many less = less

pub heads_are_bounded : OpeningIsSound → EventsKeepSound → RunsAreSound → HeadsAreBounded
heads_are_bounded opens keep sound mount number count run more is_mount is made =
    let parts = run_parts mount.sizes (opening mount) run more is in
    let counts = runs_count_draws opens keep mount run is_mount parts.0 in
    let within = total_up_to (core.made + 1) count (λ n. drawn_of mount.sizes (core.passes n)) (omega (arith, made)) in
    let apart = total_apart count number (λ n. drawn_of mount.sizes (core.passes n)) in
    let grown = total_most count (λ n. if n == number then 0 else drawn_of mount.sizes (core.passes n)) (λ n. if n == number then 0 else drawn_of mount.sizes (later.passes n))
    (λ n below. less_of_others (n == number) _ _ (draws_grow keep sound mount n run more is_mount is)) in
    omega (arith, counts, within, apart, grown)
  where
    core : Core
    core = after_run mount.sizes (opening mount) run

    later : Core
    later = after_run mount.sizes (opening mount) (run ++ more)
