-- Newcomers: the passes that pass 0 makes and takes in, in the run.
use Rattle.std.proofs.Common.{◌≡◌, ◌≢◌, ℕ, ◌+◌, ◌<◌, ◌≤◌, ◌==◌, false, true, List, [], ◌∷◌, ◌++◌, refl, sym, ap, subst, ◌∙◌, arith, append-nil}
use Rattle.std.specs.Prelude.{All, Option}
use Rattle.std.proofs.lemmas.Bool.{ne_eqb}
use Rattle.std.proofs.lemmas.List.{append_assoc}
use Rattle.std.proofs.lemmas.List.Elements.{All-append, All-cons, All-nil}
use Rattle.nv_core.specs.state.Words.{Sizes}
use Rattle.nv_core.specs.state.Core.{Core}
use Rattle.nv_core.specs.steps.Ops.{Op, Split, Join}
use Rattle.nv_core.specs.steps.Events.{Act, BeginsCall, TakesStep, CallsDevice, Event, after_act, after_event, after_run, IsRun, own}
use Rattle.nv_core.specs.steps.Opening.{opening}
use Rattle.nv_core.specs.invariant.Draws.{drawn_of}
use Rattle.nv_core.proofs.state.Choices.{when_false}
use Rattle.nv_core.proofs.steps.FrameLaws.{others_all}
use Rattle.nv_core.proofs.steps.RunLaws.{run_parts, after_parts}
use Rattle.nv_core.proofs.invariant.KeepsLoaded.{more_made}
use Rattle.nv_core.proofs.invariant.HistoryLaws.{begins_all}
use Rattle.nv_table.specs.passes.PassesMade.{IsSplit, IsTakenIn}
use Rattle.nv_table.specs.passes.Seats.{PassingTells, joined}
use Rattle.nv_table.specs.state.Opened.{Opened, mount_of, state_of}
use Rattle.nv_table.specs.state.States.{PassState}
use Rattle.nv_table.specs.state.Views.{PassView, pass_of}
use Rattle.nv_runner.specs.Newcomers.{JoinsGoOn, NewcomersAreUnborn, NewcomersBeginBehind, SplitsGoOn}
use Rattle.nv_runner.specs.Runs.{CleansNothing, GoesOn, OnlyMakesPasses, is_cleaning, is_cleaning_op, is_of_passes, is_of_passes_op}
use Rattle.nv_runner.proofs.RunLaws.{others_any, others_clean}

-- ---- a pass that isn't made yet has no events

own_other : (number : ℕ) (event : Event) (later : List Event) → event.by ≢ number → own number later ≡ [] → own number (event ∷ later) ≡ []
own_other number event later ne none = when_false (event.by == number) (event ∷ own number later) (own number later) (ne_eqb event.by number ne) ∙ none

own_both : (number : ℕ) (one other : List Event) → own number one ≡ [] → own number other ≡ [] → own number (one ++ other) ≡ []
own_both number [] other first last = last
own_both number (event ∷ later) other first last =
    let apart = others_all number event later first in own_other number event (later ++ other) (λ is. apart.0 (sym is)) (own_both number later other apart.1 last)

more_then : (sizes : Sizes) (by : ℕ) (core : Core) (act : Act) → core.made ≤ (after_act sizes by act core).made
more_then sizes by core (BeginsCall call op found) = more_made op core.made
more_then sizes by core (TakesStep op found) = more_made op core.made
more_then sizes by core (CallsDevice work) = omega arith

run_more : (sizes : Sizes) (run : List Event) (core : Core) → core.made ≤ (after_run sizes core run).made
run_more sizes [] core = omega arith
run_more sizes (event ∷ later) core =
    let one = more_then sizes event.by core event.act in let rest = run_more sizes later (after_event sizes event core) in omega (arith, one, rest)

pub unmade_own : (sizes : Sizes) (number : ℕ) (run : List Event) (core : Core) → IsRun sizes core run → (after_run sizes core run).made < number → own number run ≡ []
unmade_own sizes number [] core is late = refl
unmade_own sizes number (event ∷ later) core is late =
    let made = is.0.made in
    let one = more_then sizes event.by core event.act in
    let rest = run_more sizes later (after_event sizes event core) in
    own_other number event later (λ same. omega (arith, made, one, rest, late, same)) (unmade_own sizes number later (after_event sizes event core) is.1 late)

-- ---- a step between passes

-- the run goes on by it
passing_run : (old new : PassView) (op : Op) (found : ℕ) (is : PassingTells old op found new) → new.run ≡ old.run ++ (is.knew.all.rest ++ record { by = old.number; act = TakesStep op found } ∷ [])
passing_run old new op found is =
    let last = record { by = old.number; act = TakesStep op found } ∷ [] in
    ap (λ (v : PassView). v.run) is.is ∙ ap (λ r. r ++ last) is.knew.all.goes_on ∙ append_assoc old.run is.knew.all.rest last

passing_on : (worker : Option ℕ) (before : PassView) (old new : PassState) (op : Op) (found : ℕ) → before.opened ≡ old.view.opened → before.number ≡ old.view.number → before.run ≡ old.view.run → is_cleaning_op op ≡ false
    → (middle : PassView) → new.view.opened ≡ middle.opened → new.view.number ≡ middle.number → new.view.run ≡ middle.run → PassingTells before op found middle → GoesOn worker 0 old new
passing_on worker before old new op found opened number run plain middle new_opened new_number new_run is =
    let event : Event = record { by = before.number; act = TakesStep op found } in
    let rest = is.knew.all.rest in
    let Plain : Event → Type 0 = λ event. event.by ≡ before.number → is_cleaning event.act ≡ false in
    let drawn_by : PassView → ℕ = λ view. drawn_of view.opened.sizes (pass_of view) in
    record {
      more = rest ++ event ∷ [];
      run = new_run ∙ passing_run before middle op found is ∙ ap (λ r. r ++ (rest ++ event ∷ [])) run;
      drawn = (let a = same_drawn new.view middle new_opened new_number new_run in
          let b = same_drawn before old.view opened number run in
          let c = ap (λ (o : Opened). drawn_of o.sizes (pass_of middle)) (ap (λ (v : PassView). v.opened) is.is) in
          let d : drawn_of before.opened.sizes (pass_of middle) ≡ drawn_of before.opened.sizes (pass_of before) = ap (drawn_of before.opened.sizes) is.pass in
          omega (arith, a, b, c, d));
      calls = λ none.
          subst (λ n. CleansNothing n (rest ++ event ∷ [])) number
          (All-append Plain rest (event ∷ []) (others_clean before.number rest is.knew.all.quiet) (All-cons Plain event [] (λ same. plain) (All-nil Plain)));
    }
  where
    same_drawn : (one other : PassView) → one.opened ≡ other.opened → one.number ≡ other.number → one.run ≡ other.run → drawn_of one.opened.sizes (pass_of one) ≡ drawn_of other.opened.sizes (pass_of other)
    same_drawn one other opened number run =
        ap (λ (o : Opened). drawn_of o.sizes ((state_of o one.run).passes one.number)) opened
        ∙ ap (λ n. drawn_of other.opened.sizes ((state_of other.opened one.run).passes n)) number
        ∙ ap (λ r. drawn_of other.opened.sizes ((state_of other.opened r).passes other.number)) run

-- and the pass makes no other
passing_makes : (before : PassView) (old new : PassState) (op : Op) (found : ℕ) → before.number ≡ old.view.number → before.run ≡ old.view.run → is_of_passes_op op ≡ true
    → (middle : PassView) → new.view.run ≡ middle.run → PassingTells before op found middle → OnlyMakesPasses old new
passing_makes before old new op found number run plain middle new_run is =
    let event : Event = record { by = before.number; act = TakesStep op found } in
    let rest = is.knew.all.rest in
    let Made : ℕ → Event → Type 0 = λ n event. event.by ≡ n → is_of_passes event.act ≡ true in
    record {
      more = rest ++ event ∷ [];
      run = new_run ∙ passing_run before middle op found is ∙ ap (λ r. r ++ (rest ++ event ∷ [])) run;
      only = subst (λ n. All (Made n) (rest ++ event ∷ [])) number
          (All-append (Made before.number) rest (event ∷ []) (others_any (λ event. is_of_passes event.act ≡ true) before.number rest is.knew.all.quiet)
          (All-cons (Made before.number) event [] (λ same. plain) (All-nil (Made before.number))));
    }

pub split_makes : (old new other : PassState) → IsSplit old new other → OnlyMakesPasses old new
split_makes old new other is = passing_makes old.view old new Split is.found refl refl refl is.middle (ap (λ (p : PassState). p.view.run) is.parent_is) is.made

pub join_makes : (old other new : PassState) → IsTakenIn old other new → OnlyMakesPasses old new
join_makes old other new is = passing_makes (joined old.view is.last) old new (Join other.view.number) is.found refl refl refl is.view (ap (λ (p : PassState). p.view.run) is.is) is.taken

pub makes_both : (old middle new : PassState) → middle.view.number ≡ old.view.number → OnlyMakesPasses old middle → OnlyMakesPasses middle new → OnlyMakesPasses old new
makes_both old middle new same first last =
    let Made : ℕ → Event → Type 0 = λ n event. event.by ≡ n → is_of_passes event.act ≡ true in
    record {
      more = first.more ++ last.more;
      run = last.run ∙ ap (λ r. r ++ last.more) first.run ∙ append_assoc old.view.run first.more last.more;
      only = All-append (Made old.view.number) first.more last.more first.only (subst (λ n. All (Made n) last.more) same last.only);
    }

pub makes_none : (old new : PassState) → new ≡ old → OnlyMakesPasses old new
makes_none old new same = record {
  more = [];
  run = ap (λ (p : PassState). p.view.run) same ∙ sym (append-nil old.view.run);
  only = All-nil (λ (event : Event). event.by ≡ old.view.number → is_of_passes event.act ≡ true);
}

-- ---- laws

pub newcomers_are_unborn : NewcomersAreUnborn
newcomers_are_unborn old new other is =
    let made = is.made in
    let sizes = old.view.opened.sizes in
    let first = opening (mount_of old.view.opened) in
    let event : Event = record { by = old.view.number; act = TakesStep Split is.found } in
    let parts = run_parts sizes first made.run (event ∷ []) made.is_run in
    let core = state_of old.view.opened made.run in
    let by = parts.1.0.made in
    let late : (after_run sizes core (event ∷ [])).made ≡ core.made + 1 = refl in
    let number : other.view.number ≡ core.made + 1 =
    ap (λ (p : PassState). p.view.number) is.child_is ∙ ap (λ (v : PassView). (state_of v.opened v.run).made) made.is ∙ ap (λ (c : Core). c.made) (after_parts sizes first made.run (event ∷ [])) ∙ late in
    let run : other.view.run ≡ made.run ++ event ∷ [] = ap (λ (p : PassState). p.view.run) is.child_is ∙ ap (λ (v : PassView). v.run) made.is in
    ap (own other.view.number) run
    ∙ own_both other.view.number made.run (event ∷ []) (unmade_own sizes other.view.number made.run first parts.0 (omega (arith, number)))
    (own_other other.view.number event [] (λ same. omega (arith, same, by, number)) refl)

pub newcomers_begin_behind : NewcomersBeginBehind
newcomers_begin_behind old new other knows is past there =
    let all = knows.behind past there in
    let later = passing_run old.view is.middle Split is.found is.made in
    let run : other.view.run ≡ is.middle.run = ap (λ (p : PassState). p.view.run) is.child_is in
    begins_all past.run old.view.run other.view.run (all.rest, all.goes_on) (is.made.knew.all.rest ++ record { by = old.view.number; act = TakesStep Split is.found } ∷ [], run ∙ later)

pub splits_go_on : SplitsGoOn
splits_go_on worker old new other is =
    passing_on worker old.view old new Split is.found refl refl refl refl is.middle (ap (λ (p : PassState). p.view.opened) is.parent_is) (ap (λ (p : PassState). p.view.number) is.parent_is) (ap (λ (p : PassState). p.view.run) is.parent_is) is.made

pub joins_go_on : JoinsGoOn
joins_go_on worker old other new is =
    passing_on worker (joined old.view is.last) old new (Join other.view.number) is.found refl refl refl refl is.view (ap (λ (p : PassState). p.view.opened) is.is) (ap (λ (p : PassState). p.view.number) is.is) (ap (λ (p : PassState). p.view.run) is.is) is.taken
