-- Words: what a load found of a word, and how far HEAD, TAIL and ORDER have come later.
use Rattle.std.proofs.Common.{◌≡◌, ℕ, ◌≤◌, List, [], ◌∷◌, ◌++◌, map, ap, subst, ◌∙◌, arith, le_trans}
use Rattle.std.specs.Prelude.{Option, Some, None}
use Rattle.std.proofs.lemmas.List.{append_assoc}
use Rattle.nv_plain.specs.declared.call.FileCall.{FileCall}
use Rattle.nv_core.specs.state.Words.{Sizes, Word, ORDER, HEAD, TAIL}
use Rattle.nv_core.specs.state.Core.{Core, after_begin}
use Rattle.nv_core.specs.steps.Ops.{Op, Load}
use Rattle.nv_core.specs.steps.Order.{Values}
use Rattle.nv_core.specs.steps.Events.{Act, BeginsCall, TakesStep, CallsDevice, Event, after_act, after_event, after_run, IsRun}
use Rattle.nv_core.specs.steps.Opening.{IsMount, opening}
use Rattle.nv_core.specs.invariant.InvariantLaws.{EventsKeepSound, RunsAreSound}
use Rattle.nv_core.specs.invariant.LaterHistories.{HistoriesGoOn}
use Rattle.nv_core.specs.invariant.Sound.{Sound}
use Rattle.nv_core.proofs.state.Changes.{word_here}
use Rattle.nv_core.proofs.steps.ByKind.{ActEnabledByKind, act_kind}
use Rattle.nv_core.proofs.steps.RunLaws.{run_parts, after_parts}
use Rattle.nv_core.proofs.invariant.KeepsLoaded.{head_up, tail_up}
use Rattle.nv_core.proofs.invariant.Reach.{sound_begin}
use Rattle.nv_table.specs.steps.SeatSteps.{act_of, events}
use Rattle.nv_table.specs.steps.StepContracts.{Postcondition}
use Rattle.nv_table.specs.state.Opened.{Opened, mount_of, IsRunOf, state_of}
use Rattle.nv_table.specs.state.States.{PassState}
use Rattle.nv_table.specs.state.Views.{PassView}
use Rattle.nv_runner.specs.Refusals.{word_seen}

-- ---- HEAD and TAIL over events

record Rises (core later : Core) : Type 0 where
  head : core.words HEAD ≤ later.words HEAD
  tail : core.words TAIL ≤ later.words TAIL

act_rises : (sizes : Sizes) (first : Values) (by : ℕ) (core : Core) (act : Act) → Sound sizes first core → by ≤ core.made → ActEnabledByKind sizes by core act → Rises core (after_act sizes by act core)
act_rises sizes first by core (BeginsCall call op found) sound here may =
    let begun = after_begin sizes by call core in
    record { head = head_up sizes by begun op found may.1; tail = tail_up sizes first by begun found op (sound_begin sizes first by core call sound here may.0) may.1 }
act_rises sizes first by core (TakesStep op found) sound here may = record { head = head_up sizes by core op found may; tail = tail_up sizes first by core found op sound may }
act_rises sizes first by core (CallsDevice work) sound here may = record { head = omega arith; tail = omega arith }

run_rises : EventsKeepSound → (sizes : Sizes) (first : Values) (more : List Event) (core : Core) → Sound sizes first core → IsRun sizes core more → Rises core (after_run sizes core more)
run_rises keep sizes first [] core sound is = record { head = omega arith; tail = omega arith }
run_rises keep sizes first (event ∷ later) core sound is =
    let next = after_event sizes event core in
    let one = act_rises sizes first event.by core event.act sound is.0.made (act_kind sizes event.by core event.act is.0.act) in
    let rest = run_rises keep sizes first later next (keep sizes first core event sound is.0) is.1 in
    record { head = le_trans one.head rest.head; tail = le_trans one.tail rest.tail }

-- ---- what passes see

-- the laws of the core that these words rest on
pub record WordLaws : Type 0 where
  pub keep : EventsKeepSound
  pub sound : RunsAreSound
  pub on : HistoriesGoOn

-- the words of a later pass are no lower
pub record SeesNoLower (old new : PassState) : Type 0 where
  pub next : new.view.opened.next ≡ old.view.opened.next
  pub order : word_seen old ORDER ≤ word_seen new ORDER
  pub head : word_seen old HEAD ≤ word_seen new HEAD
  pub tail : word_seen old TAIL ≤ word_seen new TAIL

-- where it has seen a longer run of the same mount
pub sees_on : WordLaws → (old new : PassState) (more : List Event) → IsMount (mount_of old.view.opened) → new.view.opened ≡ old.view.opened → new.view.run ≡ old.view.run ++ more
    → IsRunOf old.view.opened (old.view.run ++ more) → SeesNoLower old new
sees_on laws old new more mount opened goes_on is_run =
    let sizes = old.view.opened.sizes in
    let first = opening (mount_of old.view.opened) in
    let parts = run_parts sizes first old.view.run more is_run in
    let rises = run_rises laws.keep sizes (mount_of old.view.opened).values more (state_of old.view.opened old.view.run) (laws.sound (mount_of old.view.opened) old.view.run mount parts.0) parts.1 in
    let history = laws.on (mount_of old.view.opened) old.view.run more mount is_run in
    let order = (laws.sound (mount_of old.view.opened) (old.view.run ++ more) mount is_run).history.order in
    let split = after_parts sizes first old.view.run more in
    let there : (word : Word) → word_seen new word ≡ (state_of old.view.opened (old.view.run ++ more)).words word =
    λ word. ap (λ (o : Opened). (state_of o new.view.run).words word) opened ∙ ap (λ (r : List Event). (state_of old.view.opened r).words word) goes_on in
    record {
      next = ap (λ (o : Opened). o.next) opened;
      order = let a = history.most in let b = there ORDER in omega (arith, a, b, order);
      head = let a = rises.head in let b = there HEAD in let c = ap (λ (core : Core). core.words HEAD) split in omega (arith, a, b, c);
      tail = let a = rises.tail in let b = there TAIL in let c = ap (λ (core : Core). core.words TAIL) split in omega (arith, a, b, c);
    }

-- and TAIL is no lower than at opening
pub tail_least : WordLaws → (pass : PassState) → IsMount (mount_of pass.view.opened) → IsRunOf pass.view.opened pass.view.run → pass.view.opened.next ≤ word_seen pass TAIL
tail_least laws pass mount is_run =
    let first = mount_of pass.view.opened in
    (run_rises laws.keep pass.view.opened.sizes first.values pass.view.run (opening first) (laws.sound first [] mount tt) is_run).tail

-- as behind each step of its own
pub step_sees : WordLaws → (old new : PassState) (opens : Option FileCall) (op : Op) (found : ℕ) → IsMount (mount_of old.view.opened) → Postcondition old opens op found new → SeesNoLower old new
step_sees laws old new opens op found mount is =
    let come = events old.view.number is.works (act_of opens op found) in
    let rest = is.steps.knew.all.rest in
    let longer : is.steps.run ++ come ≡ old.view.run ++ (rest ++ come) = ap (λ r. r ++ come) is.steps.knew.all.goes_on ∙ append_assoc old.view.run rest come in
    sees_on laws old new (rest ++ come) mount (ap (λ (view : PassView). view.opened) is.steps.is) (ap (λ (view : PassView). view.run) is.steps.is ∙ longer) (subst (IsRunOf old.view.opened) longer is.steps.is_run)

-- ---- what a load found

word_after : (sizes : Sizes) (core : Core) (by : ℕ) (opens : Option FileCall) (word : Word) (found : ℕ) → (after_event sizes record { by = by; act = act_of opens (Load word) found } core).words word ≡ found
word_after sizes core by None word found = word_here core.words word found
word_after sizes core by (Some call) word found = word_here core.words word found

-- is what the word is then
pub load_found : (old new : PassState) (opens : Option FileCall) (word : Word) (found : ℕ) → Postcondition old opens (Load word) found new → word_seen new word ≡ found
load_found old new opens word found is =
    let opened = old.view.opened in
    let by = old.view.number in
    let calls : List Event = map (λ work. record { by = by; act = CallsDevice work }) is.works in
    let last : List Event = record { by = by; act = act_of opens (Load word) found } ∷ [] in
    let run = is.steps.run in
    ap (λ (view : PassView). (state_of view.opened view.run).words word) is.steps.is
    ∙ ap (λ (core : Core). core.words word) (after_parts opened.sizes (opening (mount_of opened)) run (calls ++ last) ∙ after_parts opened.sizes (state_of opened run) calls last)
    ∙ word_after opened.sizes (after_run opened.sizes (state_of opened run) calls) by opens word found
