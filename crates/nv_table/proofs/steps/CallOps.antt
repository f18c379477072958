-- Call operations: the words and values of a load, a take and a place, and what a step found its word at.
use Rattle.std.proofs.Common.{◌≡◌, ℕ, zero, suc, ◌+◌, ◌-◌, ◌/◌, ◌%◌, ◌<◌, ◌≤◌, ◌==◌, true, List, [], ◌∷◌, ◌++◌, length, inl, inr, refl, sym, ap, subst, ◌∙◌, arith}
use Rattle.std.specs.Prelude.{Option, Some, None}
use Rattle.std.specs.Bool.{then_some}
use Rattle.std.proofs.lemmas.Nat.{mod_below}
use Rattle.nv_plain.specs.Histories.{Answered}
use Rattle.nv_plain.specs.declared.call.FileCall.{FileCall}
use Rattle.nv_plain.specs.Made.{reply_from}
use Rattle.nv_core.specs.state.Words.{Sizes, Word, ORDER, SIZE, STORE, PAGE, CLEANUP, is_lock, first_page_word}
use Rattle.nv_core.specs.state.Passes.{Pass, plain_call}
use Rattle.nv_core.specs.state.Cleaner as cleaner
use Rattle.nv_core.specs.steps.Ops.{Op, Load, Take, ByCleaner, word_of, value_after}
use Rattle.nv_core.specs.steps.Order.{Work}
use Rattle.nv_core.specs.steps.StepKinds.{MayTake, EnabledByKind}
use Rattle.nv_core.specs.state.Core.{Core, after_work, after_begin}
use Rattle.nv_core.specs.steps.Events.{ActEnabled, after_run, TakesStep, Act}
use Rattle.nv_core.specs.steps.Opening.{IsMount, opening}
use Rattle.nv_core.specs.invariant.InvariantLaws.{RunsAreSound}
use Rattle.nv_core.specs.invariant.Sound.{Sound}
use Rattle.nv_core.proofs.steps.RunLaws.{run_parts, run_both, after_parts}
use Rattle.nv_core.proofs.steps.WordLaws.{cleaner_op_locks}
use prog.Atomic.{either}
use Rattle.nv_table.specs.steps.SeatSteps.{act_of, events, pass_worked, pass_before, values_before, StepTells}
use Rattle.nv_table.specs.state.Layout.{of_page, word_of_place, slot_of_cell}
use Rattle.nv_table.specs.state.Opened.{Opened, mount_of, state_of}
use Rattle.nv_table.specs.steps.StepContracts.{Postcondition}
use Rattle.nv_table.specs.state.Views.{PassView, pass_of, values_of}
use Rattle.nv_table.specs.state.States.{PassState}
use Rattle.nv_table.specs.steps.CallSteps.{Precondition, IsTake, IsPlaced, place_op, answered_at, reply_at}
use Rattle.nv_table.proofs.invariant.DrawnLaws.{calls_leave}
use Rattle.nv_table.proofs.state.LayoutLaws.{at_page}
use Rattle.nv_table.proofs.steps.RunsOn.{calls}
use Rattle.nv_core.proofs.steps.NextSteps.{next_steps_may_come}

-- ---- places

-- the slot of a page's words
page_slot : (sizes : Sizes) (page which : ℕ) → which < 3 → slot_of_cell sizes (of_page page which) ≡ then_some (which == 0) (1 + sizes.entries + sizes.files + page)
page_slot sizes page zero low = refl
page_slot sizes page (suc zero) low = refl
page_slot sizes page (suc (suc zero)) low = refl
page_slot sizes page (suc (suc (suc more))) low = absurd (omega arith)

pub slot_at_page : (sizes : Sizes) (p : ℕ) → first_page_word sizes ≤ p
    → slot_of_cell sizes (word_of_place sizes p) ≡ then_some ((p - first_page_word sizes) % 3 == 0) (1 + sizes.entries + sizes.files + (p - first_page_word sizes) / 3)
slot_at_page sizes p past =
    ap (slot_of_cell sizes) (at_page sizes p past)
    ∙ page_slot sizes ((p - first_page_word sizes) / 3) ((p - first_page_word sizes) % 3) (mod_below (p - first_page_word sizes) 3 (omega arith))

-- ---- kinds of step

-- What a operation is made on, and what it makes of that word, whatever the pass.
pub record IsOn (sizes : Sizes) (op : Op) (word : Word) (value : ℕ → ℕ) : Type 0 where
  pub word_is : (pass : Pass) → word_of sizes pass op ≡ word
  pub value_is : (pass : Pass) (found : ℕ) → value_after sizes pass op found ≡ value found

pub load_on : (sizes : Sizes) (word : Word) → IsOn sizes (Load word) word (λ found. found)
load_on sizes word = record { word_is = λ pass. refl; value_is = λ pass found. refl }

pub place_on : (sizes : Sizes) (view : PassView) → IsOn sizes (place_op view) ORDER (λ found. found + 1)
place_on sizes view = record { word_is = λ pass. refl; value_is = λ pass found. refl }

-- ---- locks

may_be : (pass : PassState) (opens : Option FileCall) (op is : Op) → op ≡ is → (due : Precondition pass opens op)
    → EnabledByKind pass.view.opened.sizes (values_before pass.view due.works) (pass_before pass.view opens due.works) is
may_be pass opens op is e due =
    let values = values_before pass.view due.works in let before = pass_before pass.view opens due.works in
    subst (EnabledByKind pass.view.opened.sizes values before) e (next_steps_may_come pass.view.opened.sizes values before op due.may)

taken_lock : (pass : Pass) (cell : Word) → MayTake pass cell → is_lock cell ≡ true
taken_lock pass (PAGE page) may = refl
taken_lock pass (SIZE file) may = refl
taken_lock pass (STORE file) may = refl
taken_lock pass (CLEANUP page) may = refl
taken_lock pass cell may = absurd may

-- what is to be taken is a lock
pub due_lock : (pass : PassState) (opens : Option FileCall) (op : Op) (cell : Word) → IsTake op cell → Precondition pass opens op → is_lock cell ≡ true
due_lock pass opens op cell (inl e) due = taken_lock (pass_before pass.view opens due.works) cell (may_be pass opens op (Take cell) e due)
due_lock pass opens op cell (inr e) due =
    let before = pass_before pass.view opens due.works in
    cleaner_op_locks pass.view.opened.sizes before (cleaner.Take cell) before.control (may_be pass opens op (ByCleaner (cleaner.Take cell)) e due)

-- and then it is 1
pub locked : (found : ℕ) → found ≤ 1 → 1 ≡ either (found == 0) 1 found
locked zero low = refl
locked (suc zero) low = refl
locked (suc (suc more)) low = absurd (omega arith)

-- ---- the state in which a step found its word

calls_keep : (sizes : Sizes) (by : ℕ) (works : List Work) (core : Core) → (after_run sizes core (calls by works)).history ≡ core.history
calls_keep sizes by [] core = refl
calls_keep sizes by (work ∷ later) core = calls_keep sizes by later (after_work sizes by work core)

found_word : (sizes : Sizes) (by : ℕ) (core : Core) (opens : Option FileCall) (op : Op) (found : ℕ) → ActEnabled sizes by core (act_of opens op found)
    → (pass : Pass) × (core.words (word_of sizes pass op) ≡ found)
found_word sizes by core None op found may = (core.passes by, may.is)
found_word sizes by core (Some call) op found may = ((after_begin sizes by call core).passes by, may.1.is)

-- a sound one, with the history so far
pub record FoundIn (opened : Opened) (word : Word) (found : ℕ) (history : List Answered) : Type 0 where
  pub core : Core
  pub sound : Sound opened.sizes (mount_of opened).values core
  pub word_is : core.words word ≡ found
  pub history_is : core.history ≡ history

pub found_in : RunsAreSound → (old new : PassState) (opens : Option FileCall) (op : Op) (found : ℕ) (word : Word) (value : ℕ → ℕ)
    → IsMount (mount_of old.view.opened) → IsOn old.view.opened.sizes op word value → (stepped : Postcondition old opens op found new)
    → FoundIn old.view.opened word found (state_of old.view.opened stepped.steps.run).history
found_in sound old new opens op found word value mount on stepped =
    let opened = old.view.opened in
    let sizes = opened.sizes in
    let by = old.view.number in
    let first = opening (mount_of opened) in
    let run = stepped.steps.run in
    let before = calls by stepped.works in
    let act = act_of opens op found in
    let whole = run_parts sizes first run (events by stepped.works act) stepped.steps.is_run in
    let later = run_parts sizes (after_run sizes first run) before (record { by = by; act = act } ∷ []) whole.1 in
    let core = after_run sizes (after_run sizes first run) before in
    let at = found_word sizes by core opens op found later.1.0.act in
    record {
      core = core;
      sound = subst (Sound sizes (mount_of opened).values) (after_parts sizes first run before)
          (sound (mount_of opened) (run ++ before) mount (run_both sizes first run before whole.0 later.0));
      word_is = ap core.words (sym (on.word_is at.0)) ∙ at.1;
      history_is = calls_keep sizes by stepped.works (after_run sizes first run);
    }

-- ---- the place of a call

-- what a pass makes behind its step is what it was asked, as made
made_then : RunsAreSound → (old new : PassView) (works : List Work) (act : Act) → IsMount (mount_of old.opened) → StepTells old works act new → (pass_of new).call ≡ plain_call (pass_of new).asked
made_then sound old new works act mount told =
    subst (λ view. (pass_of view).call ≡ plain_call (pass_of view).asked) (sym told.is)
    ((sound (mount_of old.opened) (told.run ++ events old.number works act) mount told.is_run).made.each old.number)

pub placed : RunsAreSound → (old new : PassState) (found : ℕ) → IsMount (mount_of old.view.opened) → Postcondition old None (place_op old.view) found new
    → IsPlaced old.view new.view found
placed sound old new found mount stepped =
    let sizes = old.view.opened.sizes in
    let at = found_in sound old new None (place_op old.view) found ORDER (λ n. n + 1) mount (place_on sizes old.view) stepped in
    let history = (state_of old.view.opened stepped.steps.run).history in
    let reply = reply_at sizes (values_of old.view) (pass_of old.view) (pass_of old.view).control in
    let asked = calls_leave (λ p. p.asked) (λ sizes work pass. refl) sizes stepped.works (pass_of old.view) in
    let then_call = ap (λ (p : Pass). p.call) stepped.pass ∙ calls_leave (λ p. p.call) (λ sizes work pass. refl) sizes stepped.works (pass_of old.view) in
    let then_asked = ap (λ (p : Pass). plain_call p.asked) stepped.pass ∙ ap plain_call asked in
    record {
      made = sym then_call ∙ made_then sound old.view new.view stepped.works (TakesStep (place_op old.view) found) mount stepped.steps ∙ then_asked;
      before = history;
      count = sym at.word_is ∙ at.sound.history.order ∙ ap length at.history_is;
      seen = ap (λ (p : Pass). p.seen) stepped.pass ∙ ap (λ c. history ++ record { caller = old.view.number; call = c; reply = reply_from c reply } ∷ []) asked;
      mine = ap (λ (p : Pass). p.mine) stepped.pass
          ∙ ap (λ c. (pass_worked sizes stepped.works (pass_of old.view)).mine ++ record { caller = old.view.number; call = c; reply = reply_from c reply } ∷ []) asked
          ∙ ap (λ l. l ++ answered_at old.view ∷ []) (calls_leave (λ p. p.mine) (λ sizes work pass. refl) sizes stepped.works (pass_of old.view));
    }
