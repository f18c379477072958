-- Runs: how one goes on by the steps of a pass.
use Rattle.std.proofs.Common.{◌≡◌, ℕ, ◌+◌, Bool, true, false, if◌then◌else◌, List, [], ◌∷◌, ◌++◌, refl, sym, ap, subst, ◌∙◌, arith, append-nil}
use Rattle.std.specs.Prelude.{All, Option, Some, None}
use Rattle.std.proofs.lemmas.List.{append_assoc}
use Rattle.std.proofs.lemmas.List.Elements.{All-nil, All-cons, All-append}
use Rattle.nv_plain.specs.declared.call.FileCall.{FileCall}
use Rattle.nv_core.specs.state.Words.{Sizes}
use Rattle.nv_core.specs.state.Passes.{Pass}
use Rattle.nv_core.specs.steps.Ops.{Op, Stop}
use Rattle.nv_core.specs.steps.Order.{Work}
use Rattle.nv_core.specs.steps.PassSteps.{faulted_after}
use Rattle.nv_core.specs.steps.Events.{Act, CallsDevice, Event, own}
use Rattle.nv_core.specs.invariant.Draws.{entries_of, faulted_entries}
use Rattle.nv_core.proofs.steps.FrameLaws.{others_all}
use Rattle.nv_table.specs.steps.SeatSteps.{act_of, events, pass_before, pass_worked, with_call}
use Rattle.nv_table.specs.steps.StepContracts.{Postcondition}
use Rattle.nv_table.specs.state.Opened.{Opened}
use Rattle.nv_table.specs.state.States.{PassState}
use Rattle.nv_table.specs.state.Views.{PassView, pass_of}
use Rattle.nv_table.proofs.invariant.DrawnLaws.{calls_leave}
use Rattle.nv_mirror.specs.PassSteps.{PassStep, HasMade, is_stop}
use Rattle.nv_clean.specs.OwnSteps as batches
use Rattle.nv_runner.specs.Runs.{CleansNothing, is_cleaning, is_cleaning_op}

-- ---- what a pass has done meanwhile

-- The entries of the calls that faults ended, of a pass.
abbrev pub faulted : PassState → ℕ
faulted pass = faulted_entries pass.view.opened.sizes (pass_of pass.view).faulted

-- It has seen a run go on, in which some of its calls were ended by faults, of so many entries; and no step of a cleaner is its own where none may be.
pub record Went (calls : Bool) (many : ℕ) (old new : PassState) : Type 0 where
  pub more : List Event
  pub run : new.view.run ≡ old.view.run ++ more
  pub opened : new.view.opened ≡ old.view.opened
  pub number : new.view.number ≡ old.view.number
  pub faults : faulted new ≡ faulted old + many
  pub nothing : calls ≡ true → CleansNothing old.view.number more

pub went_nowhere : (calls : Bool) (old new : PassState) → new ≡ old → Went calls 0 old new
went_nowhere calls old new same = record {
  more = [];
  run = ap (λ (p : PassState). p.view.run) same ∙ sym (append-nil old.view.run);
  opened = ap (λ (p : PassState). p.view.opened) same;
  number = ap (λ (p : PassState). p.view.number) same;
  faults = (let is = ap faulted same in omega (arith, is));
  nothing = λ only. All-nil (λ (event : Event). event.by ≡ old.view.number → is_cleaning event.act ≡ false);
}

pub went_both : (calls : Bool) (one other : ℕ) (old middle new : PassState) → Went calls one old middle → Went calls other middle new → Went calls (one + other) old new
went_both calls one other old middle new first last = record {
  more = first.more ++ last.more;
  run = last.run ∙ ap (λ r. r ++ last.more) first.run ∙ append_assoc old.view.run first.more last.more;
  opened = last.opened ∙ first.opened;
  number = last.number ∙ first.number;
  faults = (let a = first.faults in let b = last.faults in omega (arith, a, b));
  nothing = λ only.
      All-append (λ (event : Event). event.by ≡ old.view.number → is_cleaning event.act ≡ false) first.more last.more (first.nothing only) (subst (λ n. CleansNothing n last.more) first.number (last.nothing only));
}

-- so many are as many as other ones
pub went_as : (calls : Bool) (one other : ℕ) (old new : PassState) → one ≡ other → Went calls one old new → Went calls other old new
went_as calls one other old new same went = subst (λ n. Went calls n old new) same went

-- ---- one step

-- of events of others anything is so that is said of its own
pub others_any : (P : Event → Type 0) (number : ℕ) (rest : List Event) → own number rest ≡ [] → All (λ event. event.by ≡ number → P event) rest
others_any P number [] none = All-nil (λ (event : Event). event.by ≡ number → P event)
others_any P number (event ∷ later) none =
    let apart = others_all number event later none in
    All-cons (λ (event : Event). event.by ≡ number → P event) event later (λ is. absurd (apart.0 (sym is))) (others_any P number later apart.1)

pub others_clean : (number : ℕ) (rest : List Event) → own number rest ≡ [] → CleansNothing number rest
others_clean number rest none = others_any (λ event. is_cleaning event.act ≡ false) number rest none

act_cleans : (opens : Option FileCall) (op : Op) (found : ℕ) → is_cleaning (act_of opens op found) ≡ is_cleaning_op op
act_cleans None op found = refl
act_cleans (Some call) op found = refl

-- its own
own_clean : (number : ℕ) (works : List Work) (act : Act) → is_cleaning act ≡ false → CleansNothing number (events number works act)
own_clean number [] act none =
    All-cons (λ (event : Event). event.by ≡ number → is_cleaning event.act ≡ false) record { by = number; act = act } [] (λ is. none) (All-nil (λ (event : Event). event.by ≡ number → is_cleaning event.act ≡ false))
own_clean number (work ∷ later) act none =
    All-cons (λ (event : Event). event.by ≡ number → is_cleaning event.act ≡ false) record { by = number; act = CallsDevice work } (events number later act) (λ is. refl) (own_clean number later act none)

-- the calls that faults ended, as the step finds them, and behind it
with_call_faulted : (sizes : Sizes) (opens : Option FileCall) (pass : Pass) → (with_call sizes opens pass).faulted ≡ pass.faulted
with_call_faulted sizes None pass = refl
with_call_faulted sizes (Some call) pass = refl

before_faulted : (view : PassView) (opens : Option FileCall) (works : List Work) → (pass_before view opens works).faulted ≡ (pass_of view).faulted
before_faulted view opens works =
    with_call_faulted view.opened.sizes opens (pass_worked view.opened.sizes works (pass_of view)) ∙ calls_leave (λ (p : Pass). p.faulted) (λ sizes work p. refl) view.opened.sizes works (pass_of view)

faulted_more : (sizes : Sizes) (pass : Pass) (op : Op) → faulted_entries sizes (faulted_after pass op) ≡ faulted_entries sizes pass.faulted + (if is_stop op then entries_of sizes pass.call else 0)
faulted_more sizes pass Stop = omega arith
faulted_more sizes pass op = omega arith

-- a step, which may set STOP and so end its call
pub step_went : (calls : Bool) (old new : PassState) (opens : Option FileCall) (op : Op) (found : ℕ) → (calls ≡ true → is_cleaning_op op ≡ false) → (is : Postcondition old opens op found new)
    → Went calls (if is_stop op then entries_of old.view.opened.sizes (pass_before old.view opens is.works).call else 0) old new
step_went calls old new opens op found plain is =
    let number = old.view.number in
    let come = events number is.works (act_of opens op found) in
    let all = is.steps.knew.all in
    let there = pass_before old.view opens is.works in
    let opened : new.view.opened ≡ old.view.opened = ap (λ (view : PassView). view.opened) is.steps.is in
    record {
      more = all.rest ++ come;
      run = ap (λ (view : PassView). view.run) is.steps.is ∙ ap (λ r. r ++ come) all.goes_on ∙ append_assoc old.view.run all.rest come;
      opened = opened;
      number = ap (λ (view : PassView). view.number) is.steps.is;
      faults = ap (λ (o : Opened). faulted_entries o.sizes (pass_of new.view).faulted) opened ∙ ap (λ (p : Pass). faulted_entries old.view.opened.sizes p.faulted) is.pass
          ∙ faulted_more old.view.opened.sizes there op
          ∙ ap (λ faults. faulted_entries old.view.opened.sizes faults + (if is_stop op then entries_of old.view.opened.sizes there.call else 0)) (before_faulted old.view opens is.works);
      nothing = λ only.
          All-append (λ (event : Event). event.by ≡ number → is_cleaning event.act ≡ false) all.rest come (others_clean number all.rest all.quiet) (own_clean number is.works (act_of opens op found) (act_cleans opens op found ∙ plain only));
    }

-- one that doesn't
pub plain_went : (calls : Bool) (old new : PassState) (opens : Option FileCall) (op : Op) (found : ℕ) → (calls ≡ true → is_cleaning_op op ≡ false) → is_stop op ≡ false → Postcondition old opens op found new → Went calls 0 old new
plain_went calls old new opens op found plain no_stop is =
    went_as calls _ 0 old new (ap (λ b. if b then entries_of old.view.opened.sizes (pass_before old.view opens is.works).call else 0) no_stop) (step_went calls old new opens op found plain is)

-- behind a moment in which the pass showed device calls
pub between_went : (calls : Bool) (many : ℕ) (middle before new : PassState) → before.view ≡ middle.view → Went calls many before new → Went calls many middle new
between_went calls many middle before new same went = record {
  more = went.more;
  run = went.run ∙ ap (λ (v : PassView). v.run ++ went.more) same;
  opened = went.opened ∙ ap (λ (v : PassView). v.opened) same;
  number = went.number ∙ ap (λ (v : PassView). v.number) same;
  faults = went.faults ∙ ap (λ (v : PassView). faulted_entries v.opened.sizes (pass_of v).faulted + many) same;
  nothing = λ only. subst (λ (v : PassView). CleansNothing v.number went.more) same (went.nothing only);
}

-- ---- a batch

batch_stop : (earlier : List PassStep) (op : Op) → batches.is_own earlier op ≡ true → is_stop op ≡ false
batch_stop [] Stop own = absurd (cc)
batch_stop (step ∷ earlier) Stop own = absurd (cc)
batch_stop earlier op own = refl

pub batch_went : (steps : List PassStep) (start now : PassState) → HasMade steps start now → batches.AreOwn steps → Went false 0 start now
batch_went [] start now made own = went_nowhere false start now made
batch_went (step ∷ earlier) start now made own =
    let taken = made.2 in
    went_both false 0 0 start made.0 now (batch_went earlier start made.0 made.1 own.2)
    (between_went false 0 made.0 taken.before now taken.between.view (plain_went false taken.before now step.opens step.op step.found (λ only. absurd (cc)) (batch_stop earlier step.op own.1) taken.stepped))
