-- What the events of a pass up to its next step leave of the core, as the table has to know it.
use Rattle.std.proofs.Common.{◌≡◌, ◌≢◌, ℕ, ◌+◌, ◌≤◌, ◌<◌, ◌^◌, ◌==◌, if◌then◌else◌, List, [], ◌∷◌, ◌++◌, Option, inl, inr, refl, sym, ap, subst, ◌∙◌, arith, le_trans}
use Rattle.std.proofs.lemmas.Bool.{cases_eq as cases, ne_eqb}
use Rattle.nv_plain.specs.declared.call.FileCall.{FileCall}
use Rattle.nv_core.specs.state.Words.{Sizes, Word, CLEANER, IsWord, same}
use Rattle.nv_core.specs.state.Cleaner.{CleanerOp, TakeCleaner, Clean}
use Rattle.nv_core.specs.state.Cleaner as cleaner
use Rattle.nv_core.specs.steps.CleanerSteps.{cleaner_word}
use Rattle.nv_core.specs.state.Passes.{Pass, IsOneOf, times}
use Rattle.nv_core.specs.steps.Ops.{Op, Take, Give, Seize, Ready, Break, Hold, Return, ByCleaner, Move, Stays, Comes, Goes, moved, move_of, cleaner_move, word_of, value_after}
use Rattle.nv_core.specs.steps.Order.{Values, Work, Enabled}
use Rattle.nv_core.specs.state.Core.{Core, values_stepped, after_step}
use Rattle.nv_core.specs.steps.PassSteps.{stepped}
use Rattle.nv_core.specs.steps.Events.{Event, Act, CallsDevice, EventEnabled, FoundEnabled, after_run, IsRun, own}
use Rattle.nv_core.specs.steps.Opening.{IsMount, opening}
use Rattle.nv_core.specs.invariant.Locks.{Locks}
use Rattle.nv_core.specs.invariant.Ownership.{Ownership}
use Rattle.nv_core.specs.invariant.ControlFacts.{ControlFacts}
use Rattle.nv_core.specs.invariant.Sound.{Sound}
use Rattle.nv_core.specs.steps.Frames.{AgreeOn, StaysKnown, DependsOnOwned}
use Rattle.nv_core.proofs.invariant.LockLaws.{times_here, times_without, only_holder}
use Rattle.nv_core.proofs.steps.RunLaws.{run_both, after_parts}
use Rattle.nv_table.specs.state.Opened.{Opened, mount_of, IsRunOf, state_of}
use Rattle.nv_table.specs.state.Views.{PassView, pass_of, values_of, KnowsRun}
use Rattle.nv_table.specs.steps.SeatSteps.{AreDue, pass_worked, values_after, with_call, MayOpen, EnabledAt, act_of, events, pass_before, values_then}
use Rattle.nv_table.specs.invariant.CoreLaws.{CoreLaws}
use Rattle.nv_table.proofs.state.ViewLaws.{made_seen, told_on}
use Rattle.nv_table.proofs.state.Held.{if_both, IsInOwned, goes_held}
use Rattle.nv_table.proofs.steps.RunsOn.{GoesWell, goes_well, well_after, calls, Worked, sees_owned, works_come, IsPlain, is_plain, left_stays, Stepped, step_comes, core_with, Opens, opens_call, stays}

-- a cell that comes was no pass's, and one that goes is in none then
abbrev pub IsPassed : (move : Move) (number : ℕ) → (old new : Core) → Type 0
IsPassed Stays number old new = Unit {0}
IsPassed (Comes cell) number old new = (other : ℕ) → times cell (old.passes other).owned ≡ 0
IsPassed (Goes cell) number old new = (times cell (old.passes number).owned ≡ 1) × ((other : ℕ) → times cell (new.passes other).owned ≡ 0)

-- the cell that moves is the step's word
abbrev pub IsOfWord : Move → Word → Type 0
IsOfWord Stays word = Unit {0}
IsOfWord (Comes cell) word = cell ≡ word
IsOfWord (Goes cell) word = cell ≡ word

-- The state at the end of a run, and that after some events of one pass: one word has got a value, and what moved is the cell of that word.
pub record Onward (opened : Opened) (number : ℕ) (run more : List Event) (word : Word) (value : ℕ) (move : Move) (keeping : Values) (next : Pass) : Type 0 where
  pub is_run : IsRunOf opened (run ++ more)
  pub others_quiet : (other : ℕ) → other ≢ number → own other more ≡ []
  pub made : (state_of opened (run ++ more)).made ≡ (state_of opened run).made
  pub ended : (state_of opened (run ++ more)).ended ≡ (state_of opened run).ended
  pub passes : (other : ℕ) → other ≢ number → (state_of opened (run ++ more)).passes other ≡ (state_of opened run).passes other
  pub words : (other : Word) → (state_of opened (run ++ more)).words other ≡ (if same other word then value else (state_of opened run).words other)
  pub on : IsWord opened.sizes word
  pub values : (cell : Word) → times cell ((state_of opened run).passes number).owned ≡ 0
      → (state_of opened (run ++ more)).values cell ≡ (state_of opened run).values cell
  pub kept : (cell : Word) → times cell ((state_of opened run).passes number).owned ≢ 0 → (state_of opened (run ++ more)).values cell ≡ keeping cell
  pub pass : (state_of opened (run ++ more)).passes number ≡ next
  pub owned : ((state_of opened (run ++ more)).passes number).owned ≡ moved move ((state_of opened run).passes number).owned
  pub left : ((state_of opened run).passes number).left ≡ []
  pub left_then : ((state_of opened (run ++ more)).passes number).left ≡ []
  pub passed : IsPassed move number (state_of opened run) (state_of opened (run ++ more))
  pub of_word : IsOfWord move word

-- ---- what moves

cleaner_op_of_word : (sizes : Sizes) (cleaner_op : CleanerOp) (found : ℕ) → IsOfWord (cleaner_move sizes cleaner_op found) (cleaner_word sizes cleaner_op)
cleaner_op_of_word sizes (TakeCleaner most) found = if_both (λ m. IsOfWord m CLEANER) (found == 0) (Comes CLEANER) Stays refl tt
cleaner_op_of_word sizes (cleaner.Take cell) found = if_both (λ m. IsOfWord m cell) (found == 0) (Comes cell) Stays refl tt
cleaner_op_of_word sizes (cleaner.Give cell) found = refl
cleaner_op_of_word sizes (cleaner.Hold number) found = refl
cleaner_op_of_word sizes (cleaner.Return number) found = refl
cleaner_op_of_word sizes (Clean number) found = refl
cleaner_op_of_word sizes cleaner_op found = tt

op_of_word : (sizes : Sizes) (pass : Pass) (op : Op) (found : ℕ) → IsOfWord (move_of sizes op found) (word_of sizes pass op)
op_of_word sizes pass (Take cell) found = if_both (λ m. IsOfWord m cell) (found == 0) (Comes cell) Stays refl tt
op_of_word sizes pass (Give cell) found = refl
op_of_word sizes pass (Seize number) found = refl
op_of_word sizes pass (Ready number) found = refl
op_of_word sizes pass (Break number) found = refl
op_of_word sizes pass (ByCleaner cleaner_op) found = cleaner_op_of_word sizes cleaner_op found
op_of_word sizes pass (Hold number) found = refl
op_of_word sizes pass (Return number) found = refl
op_of_word sizes pass op found = tt

-- each cell is one pass's at most, before and after
move_passes : (move : Move) (by : ℕ) (old new : Core) → Locks old → Locks new → ((other : ℕ) → other ≢ by → new.passes other ≡ old.passes other)
    → (new.passes by).owned ≡ moved move (old.passes by).owned → IsInOwned move (old.passes by).owned → IsPassed move by old new
move_passes Stays by old new before then_ others owned held = tt
move_passes (Comes cell) by old new before then_ others owned held = λ other.
    let more : times cell (new.passes by).owned ≡ 1 + times cell (old.passes by).owned = ap (times cell) owned ∙ times_here cell (old.passes by).owned in
    let one = only_holder (then_.keyed cell) by (omega (arith, more)) in
    elim (cases other by) [
      | inl e ↦ subst (λ n. times cell (old.passes n).owned ≡ 0) (sym e) (let once = one.1 in omega (arith, more, once))
      | inr ne ↦ ap (λ (p : Pass). times cell p.owned) (sym (others other ne)) ∙ one.2 other ne
    ]
move_passes (Goes cell) by old new before then_ others owned held =
    let one = only_holder (before.keyed cell) by held in
    let less : times cell (new.passes by).owned + 1 ≡ times cell (old.passes by).owned = ap (λ h. times cell h + 1) owned ∙ times_without cell (old.passes by).owned held in (
      one.1,
      λ other. elim (cases other by) [
        | inl e ↦ subst (λ n. times cell (new.passes n).owned ≡ 0) (sym e) (let once = one.1 in omega (arith, less, once))
        | inr ne ↦ ap (λ (p : Pass). times cell p.owned) (others other ne) ∙ one.2 other ne
      ],
    )

-- ---- the core

-- What the events leave of a core.
record Leads (sizes : Sizes) (by : ℕ) (old new : Core) (word : Word) (value : ℕ) (move : Move) (keeping : Values) (next : Pass) : Type 0 where
  made : new.made ≡ old.made
  ended : new.ended ≡ old.ended
  passes : (other : ℕ) → other ≢ by → new.passes other ≡ old.passes other
  words : (other : Word) → new.words other ≡ (if same other word then value else old.words other)
  on : IsWord sizes word
  values : (cell : Word) → times cell (old.passes by).owned ≡ 0 → new.values cell ≡ old.values cell
  kept : (cell : Word) → times cell (old.passes by).owned ≢ 0 → new.values cell ≡ keeping cell
  pass : new.passes by ≡ next
  owned : (new.passes by).owned ≡ moved move (old.passes by).owned
  left : (old.passes by).left ≡ []
  left_then : (new.passes by).left ≡ []
  passed : IsPassed move by old new
  of_word : IsOfWord move word

-- the core as the step finds it, and the pass
abbrev core_found : Sizes → (by : ℕ) → List Work → Option FileCall → Core → Core
core_found sizes by works opens core = core_with sizes by opens (after_run sizes core (calls by works))

abbrev pass_found : Sizes → List Work → Option FileCall → Pass → Pass
pass_found sizes works opens pass = with_call sizes opens (pass_worked sizes works pass)

-- A step that may come by what is known of the pass and its owned cells, and the value of its word after it.
record Next (sizes : Sizes) (first : Values) (by : ℕ) (core : Core) (pass : Pass) (values : Values) (works : List Work) (opens : Option FileCall) (op : Op) (found value : ℕ) : Type 0 where
  well : GoesWell sizes first core
  made : by ≤ core.made
  there : IsOneOf core.ended by → ⊥
  pass_is : core.passes by ≡ pass
  agree : AgreeOn pass values core.values
  left : pass.left ≡ []
  due : AreDue sizes values pass works
  begins : MayOpen sizes opens (pass_worked sizes works pass)
  may : Enabled sizes (values_after sizes works pass values) (pass_found sizes works opens pass) op
  found_is : core.words (word_of sizes (pass_found sizes works opens pass) op) ≡ found
  value_is : (next : Core) → Sound sizes first next → next.made ≡ core.made → next.passes by ≡ pass_worked sizes works pass → next.words ≡ core.words
      → value_after sizes (pass_found sizes works opens pass) op found ≡ value

-- the parts of the way
record Way (sizes : Sizes) (first : Values) (by : ℕ) (core : Core) (pass : Pass) (values : Values) (works : List Work) (opens : Option FileCall) (op : Op) (found value : ℕ) : Type 0 where
  next : Next sizes first by core pass values works opens op found value
  calls_come : Worked sizes first by core (after_run sizes core (calls by works)) pass values works
  begins : Opens sizes first by (after_run sizes core (calls by works)) (pass_worked sizes works pass) opens
  steps : Stepped sizes by (core_found sizes by works opens core) (after_step sizes by op found (core_found sizes by works opens core)) (pass_found sizes works opens pass) op found
  sees : DependsOnOwned sizes (pass_found sizes works opens pass) (values_after sizes works pass values) (core_found sizes by works opens core).values
  plain : IsPlain op
  held : IsInOwned (move_of sizes op found) (pass_found sizes works opens pass).owned

module _ (laws : CoreLaws) (sizes : Sizes) (first : Values) (by : ℕ) (core : Core) (pass : Pass) (values : Values) (works : List Work) (opens : Option FileCall) (op : Op) (found value : ℕ) where
  way : Next sizes first by core pass values works opens op found value → Way sizes first by core pass values works opens op found value
  way n =
      let w = works_come laws sizes first by works core pass values n.well n.made n.there n.pass_is n.agree n.left n.due in
      let o = opens_call sizes first by (after_run sizes core (calls by works)) (pass_worked sizes works pass) opens (w.well [] tt).0 (subst (λ m. by ≤ m) (sym w.made) n.made) w.pass_is n.begins in
      let plain = is_plain sizes (values_after sizes works pass values) (pass_found sizes works opens pass) op n.may in
      record {
        next = n;
        calls_come = w;
        begins = o;
        steps = step_comes sizes by (core_found sizes by works opens core) (pass_found sizes works opens pass) op found o.pass_is plain;
        sees = sees_owned laws sizes first by (core_found sizes by works opens core) (pass_found sizes works opens pass) (values_after sizes works pass values) o.sound o.pass_is
            (λ cell has. w.agree cell (subst (λ h. times cell h ≢ 0) (o.owned ∙ w.owned) has) ∙ ap (λ (v : Values). v cell) (sym o.values));
        plain = plain;
        held = goes_held sizes (pass_found sizes works opens pass) (subst (Ownership sizes) o.pass_is (o.sound.ownership by)) (subst (ControlFacts sizes) o.pass_is (o.sound.control_facts by)) (values_after sizes works pass values) op found n.may;
      }

-- ---- the step's event

module _ (laws : CoreLaws) (sizes : Sizes) (first : Values) (by : ℕ) (core : Core) (pass : Pass) (values : Values) (works : List Work) (opens : Option FileCall) (op : Op) (found value : ℕ)
    (way : Way sizes first by core pass values works opens op found value) where
  -- the owned cells and what was put back, as it began and at the step
  owned_same : (pass_found sizes works opens pass).owned ≡ (core.passes by).owned
  owned_same = way.begins.owned ∙ way.calls_come.owned ∙ sym (ap (λ (p : Pass). p.owned) way.next.pass_is)

  worked_owned : ((after_run sizes core (calls by works)).passes by).owned ≡ (core.passes by).owned
  worked_owned = ap (λ (p : Pass). p.owned) way.calls_come.pass_is ∙ way.calls_come.owned ∙ sym (ap (λ (p : Pass). p.owned) way.next.pass_is)

  worked_left : ((after_run sizes core (calls by works)).passes by).left ≡ []
  worked_left = ap (λ (p : Pass). p.left) way.calls_come.pass_is ∙ way.calls_come.left ∙ way.next.left

  finds : FoundEnabled sizes by (core_found sizes by works opens core) op found
  finds = record {
    may = way.steps.may (way.sees.steps op way.next.may);
    is = ap (λ (p : Pass). (core_found sizes by works opens core).words (word_of sizes p op)) way.begins.pass_is
        ∙ ap (λ (w : Word → ℕ). w (word_of sizes (pass_found sizes works opens pass) op)) (way.begins.words ∙ way.calls_come.words) ∙ way.next.found_is;
  }

  comes : EventEnabled sizes record { by = by; act = act_of opens op found } (after_run sizes core (calls by works))
  comes = record {
    made = subst (λ m. by ≤ m) (sym way.calls_come.made) way.next.made;
    there = subst (λ e. IsOneOf e by → ⊥) (sym way.calls_come.ended) way.next.there;
    staying = stays (act_of opens op found) ((after_run sizes core (calls by works)).passes by) worked_left;
    act = way.begins.may op found finds;
  }

  sound_then : Sound sizes first (after_step sizes by op found (core_found sizes by works opens core))
  sound_then = subst (Sound sizes first) (way.begins.after_is op found) (well_after sizes first (after_run sizes core (calls by works)) record { by = by; act = act_of opens op found } way.calls_come.well comes [] tt).0

  away_then : (cell : Word) → times cell (core.passes by).owned ≡ 0 → (after_step sizes by op found (core_found sizes by works opens core)).values cell ≡ core.values cell
  away_then cell none =
      ap (λ (c : Core). c.values cell) (sym (way.begins.after_is op found))
      ∙ (laws.others sizes first (after_run sizes core (calls by works)) record { by = by; act = act_of opens op found } (way.calls_come.well [] tt).0 comes).values cell (ap (times cell) worked_owned ∙ none)
      ∙ way.calls_come.away cell (ap (λ (p : Pass). times cell p.owned) (sym way.next.pass_is) ∙ none)

  leads : Leads sizes by core (after_step sizes by op found (core_found sizes by works opens core)) (word_of sizes (pass_found sizes works opens pass) op) value (move_of sizes op found)
      (values_stepped sizes (pass_found sizes works opens pass) op (values_after sizes works pass values)) (stepped sizes by core.history op found (pass_found sizes works opens pass))
  leads = record {
    made = way.steps.made ∙ way.begins.made ∙ way.calls_come.made;
    ended = way.steps.ended ∙ way.begins.ended ∙ way.calls_come.ended;
    passes = others;
    words = λ other. way.steps.words other
        ∙ ap (λ v. if same other (word_of sizes (pass_found sizes works opens pass) op) then v else (core_found sizes by works opens core).words other)
        (way.next.value_is (after_run sizes core (calls by works)) (way.calls_come.well [] tt).0 way.calls_come.made way.calls_come.pass_is way.calls_come.words)
        ∙ ap (λ (w : Word → ℕ). if same other (word_of sizes (pass_found sizes works opens pass) op) then value else w other) (way.begins.words ∙ way.calls_come.words);
    on = subst (λ (p : Pass). IsWord sizes (word_of sizes p op)) way.begins.pass_is (way.begins.on op found ((way.calls_come.well [] tt).1 by (act_of opens op found) (way.begins.may op found finds)));
    values = away_then;
    kept = λ cell has. way.steps.values cell ∙ sym (way.sees.stepped op way.next.may cell (subst (λ h. times cell h ≢ 0) (sym owned_same) has));
    pass = pass_then;
    owned = owned_then;
    left = ap (λ (p : Pass). p.left) way.next.pass_is ∙ way.next.left;
    left_then = ap (λ (p : Pass). p.left) way.steps.pass_is ∙ left_stays (pass_found sizes works opens pass) op way.plain ∙ way.begins.left ∙ way.calls_come.left ∙ way.next.left;
    passed = move_passes (move_of sizes op found) by core _ (way.next.well [] tt).0.locks sound_then.locks others owned_then (subst (IsInOwned (move_of sizes op found)) owned_same way.held);
    of_word = op_of_word sizes (pass_found sizes works opens pass) op found;
  }
    where
      others : (other : ℕ) → other ≢ by → (after_step sizes by op found (core_found sizes by works opens core)).passes other ≡ core.passes other
      others other ne = way.steps.others other ne ∙ way.begins.others other ne ∙ way.calls_come.others other ne

      pass_then : (after_step sizes by op found (core_found sizes by works opens core)).passes by ≡ stepped sizes by core.history op found (pass_found sizes works opens pass)
      pass_then = way.steps.pass_is ∙ ap (λ h. stepped sizes by h op found (pass_found sizes works opens pass)) (way.begins.history ∙ way.calls_come.history)

      owned_then : ((after_step sizes by op found (core_found sizes by works opens core)).passes by).owned ≡ moved (move_of sizes op found) (core.passes by).owned
      owned_then = ap (λ (p : Pass). p.owned) pass_then ∙ ap (moved (move_of sizes op found)) owned_same

  -- the events, and the core after them
  comes_all : IsRun sizes core (events by works (act_of opens op found))
  comes_all = run_both sizes core (calls by works) (record { by = by; act = act_of opens op found } ∷ []) way.calls_come.is_run (comes, tt)

  then_is : after_run sizes core (events by works (act_of opens op found)) ≡ after_step sizes by op found (core_found sizes by works opens core)
  then_is = after_parts sizes core (calls by works) (record { by = by; act = act_of opens op found } ∷ []) ∙ way.begins.after_is op found

-- none of them is another pass's
owned_all : (by other : ℕ) (works : List Work) (act : Act) → other ≢ by → own other (events by works act) ≡ []
owned_all by other [] act ne = ap (λ b. if b then record { by = by; act = act } ∷ [] else []) (ne_eqb by other (λ e. ne (sym e)))
owned_all by other (work ∷ later) act ne =
    ap (λ b. if b then record { by = by; act = CallsDevice work } ∷ own other (events by later act) else own other (events by later act)) (ne_eqb by other (λ e. ne (sym e))) ∙ owned_all by other later act ne

-- ---- the run

onward : (opened : Opened) (number : ℕ) (run more : List Event) (new : Core) (word : Word) (value : ℕ) (move : Move) (keeping : Values) (next : Pass) → IsRunOf opened run
    → IsRun opened.sizes (state_of opened run) more → ((other : ℕ) → other ≢ number → own other more ≡ []) → after_run opened.sizes (state_of opened run) more ≡ new
    → Leads opened.sizes number (state_of opened run) new word value move keeping next → Onward opened number run more word value move keeping next
onward opened number run more new word value move keeping next is_run come others_quiet new_is led = record {
  is_run = run_both opened.sizes (opening (mount_of opened)) run more is_run come;
  others_quiet = others_quiet;
  made = there.made;
  ended = there.ended;
  passes = there.passes;
  words = there.words;
  on = there.on;
  values = there.values;
  kept = there.kept;
  pass = there.pass;
  owned = there.owned;
  left = there.left;
  left_then = there.left_then;
  passed = there.passed;
  of_word = there.of_word;
}
  where
    there : Leads opened.sizes number (state_of opened run) (state_of opened (run ++ more)) word value move keeping next
    there = subst (λ (core : Core). Leads opened.sizes number (state_of opened run) core word value move keeping next) (sym (after_parts opened.sizes (opening (mount_of opened)) run more ∙ new_is)) led

-- of its own mount
goes_on_own : CoreLaws → (view : PassView) (works : List Work) (opens : Option FileCall) (op : Op) (at : ℕ) (change : ℕ → ℕ) (run : List Event)
    → IsMount (mount_of view.opened) → IsRunOf view.opened run → (state_of view.opened run).made ≤ 2 ^ 32 → KnowsRun view.opened run view → EnabledAt view works opens op at change
    → (found : ℕ) → found < 2 ^ 64 → (state_of view.opened run).words (word_of view.opened.sizes (pass_before view opens works) op) ≡ found
    → Onward view.opened view.number run (events view.number works (act_of opens op found)) (word_of view.opened.sizes (pass_before view opens works) op) (change found)
    (move_of view.opened.sizes op found) (values_then view opens op works)
    (stepped view.opened.sizes view.number (state_of view.opened run).history op found (pass_before view opens works))
goes_on_own laws view works opens op at change run mount is_run few knows may found small found_is =
    onward view.opened view.number run (events view.number works (act_of opens op found)) _ _ _ _ _ _ is_run
    (comes_all laws view.opened.sizes (mount_of view.opened).values view.number (state_of view.opened run) (pass_of view) (values_of view) works opens op found (change found) here)
    (λ other ne. owned_all view.number other works (act_of opens op found) ne)
    (then_is laws view.opened.sizes (mount_of view.opened).values view.number (state_of view.opened run) (pass_of view) (values_of view) works opens op found (change found) here)
    (leads laws view.opened.sizes (mount_of view.opened).values view.number (state_of view.opened run) (pass_of view) (values_of view) works opens op found (change found) here)
  where
    told : StaysKnown view.number (state_of view.opened view.run) (state_of view.opened run)
    told = told_on laws view.opened run view mount is_run knows

    value_is : (next : Core) → Sound view.opened.sizes (mount_of view.opened).values next → next.made ≡ (state_of view.opened run).made
        → next.passes view.number ≡ pass_worked view.opened.sizes works (pass_of view) → next.words ≡ (state_of view.opened run).words
        → value_after view.opened.sizes (pass_before view opens works) op found ≡ change found
    value_is next sound made pass_is words =
        let is : next.words (word_of view.opened.sizes (pass_before view opens works) op) ≡ found = ap (λ (w : Word → ℕ). w (word_of view.opened.sizes (pass_before view opens works) op)) words ∙ found_is in
        subst (λ v. value_after view.opened.sizes (pass_before view opens works) op v ≡ change v) is
        (may.value next sound (subst (λ m. m ≤ 2 ^ 32) (sym made) few) pass_is (subst (λ v. v < 2 ^ 64) (sym is) small))

    here : Way view.opened.sizes (mount_of view.opened).values view.number (state_of view.opened run) (pass_of view) (values_of view) works opens op found (change found)
    here = way laws view.opened.sizes (mount_of view.opened).values view.number (state_of view.opened run) (pass_of view) (values_of view) works opens op found (change found) record {
      well = goes_well laws view.opened run mount is_run;
      made = le_trans knows.made (made_seen view.opened view.number view.run run knows.all);
      there = knows.there;
      pass_is = told.pass;
      agree = λ cell has. sym (told.values cell has);
      left = may.staying;
      due = may.due;
      begins = may.begins;
      may = may.may;
      found_is = found_is;
      value_is = value_is;
    }

-- A step that may come by what its seat knows may come behind the run, with the device calls before it.
pub goes_on : CoreLaws → (opened : Opened) (view : PassView) (works : List Work) (opens : Option FileCall) (op : Op) (at : ℕ) (change : ℕ → ℕ) (run : List Event)
    → IsMount (mount_of opened) → IsRunOf opened run → (state_of opened run).made ≤ 2 ^ 32 → KnowsRun opened run view → EnabledAt view works opens op at change
    → (found : ℕ) → found < 2 ^ 64 → (state_of opened run).words (word_of view.opened.sizes (pass_before view opens works) op) ≡ found
    → Onward opened view.number run (events view.number works (act_of opens op found)) (word_of view.opened.sizes (pass_before view opens works) op) (change found)
    (move_of view.opened.sizes op found) (values_then view opens op works)
    (stepped view.opened.sizes view.number (state_of opened run).history op found (pass_before view opens works))
goes_on laws opened view works opens op at change run mount is_run few knows may found small found_is =
    subst GoesOn knows.mount (λ m r f k i. goes_on_own laws view works opens op at change run m r f k may found small i) mount is_run few knows found_is
  where
    GoesOn : Opened → Type 0
    GoesOn o = IsMount (mount_of o) → IsRunOf o run → (state_of o run).made ≤ 2 ^ 32 → KnowsRun o run view
        → (state_of o run).words (word_of view.opened.sizes (pass_before view opens works) op) ≡ found
        → Onward o view.number run (events view.number works (act_of opens op found)) (word_of view.opened.sizes (pass_before view opens works) op) (change found)
        (move_of view.opened.sizes op found) (values_then view opens op works)
        (stepped view.opened.sizes view.number (state_of o run).history op found (pass_before view opens works))

-- ---- the next step

module _ (laws : CoreLaws) (view : PassView) (works : List Work) (opens : Option FileCall) (op : Op) (at : ℕ) (change : ℕ → ℕ) (run : List Event)
    (mount : IsMount (mount_of view.opened)) (is_run : IsRunOf view.opened run) (knows : KnowsRun view.opened run view) (may : EnabledAt view works opens op at change) where
  abbrev pub next_word : Word
  next_word = word_of view.opened.sizes (pass_before view opens works) op

  -- as its word stands at the end of the run
  abbrev pub next_found : ℕ
  next_found = (state_of view.opened run).words next_word

  abbrev next_value : ℕ
  next_value = value_after view.opened.sizes (pass_before view opens works) op next_found

  next_told : StaysKnown view.number (state_of view.opened view.run) (state_of view.opened run)
  next_told = told_on laws view.opened run view mount is_run knows

  next_way : Way view.opened.sizes (mount_of view.opened).values view.number (state_of view.opened run) (pass_of view) (values_of view) works opens op next_found next_value
  next_way = way laws view.opened.sizes (mount_of view.opened).values view.number (state_of view.opened run) (pass_of view) (values_of view) works opens op next_found next_value record {
    well = goes_well laws view.opened run mount is_run;
    made = le_trans knows.made (made_seen view.opened view.number view.run run knows.all);
    there = knows.there;
    pass_is = next_told.pass;
    agree = λ cell has. sym (next_told.values cell has);
    left = may.staying;
    due = may.due;
    begins = may.begins;
    may = may.may;
    found_is = refl;
    value_is = λ later sound made pass_is words. refl;
  }

  -- Its word is one of the mount's.
  pub next_on_word : IsWord view.opened.sizes next_word
  next_on_word = (leads laws view.opened.sizes (mount_of view.opened).values view.number (state_of view.opened run) (pass_of view) (values_of view) works opens op next_found next_value next_way).on

  -- The pass stands where it finds it.
  pub next_stands : ControlFacts view.opened.sizes (pass_before view opens works)
  next_stands = subst (ControlFacts view.opened.sizes) next_way.begins.pass_is (next_way.begins.sound.control_facts view.number)

  -- A cell that goes is too, and is among the owned cells of the pass once.
  pub next_held : (cell : Word) → move_of view.opened.sizes op next_found ≡ Goes cell
      → IsWord view.opened.sizes cell × (times cell ((state_of view.opened run).passes view.number).owned ≡ 1)
  next_held cell goes =
      let led = leads laws view.opened.sizes (mount_of view.opened).values view.number (state_of view.opened run) (pass_of view) (values_of view) works opens op next_found next_value next_way in
      let of_word : cell ≡ next_word = subst (λ move. IsOfWord move next_word) goes led.of_word in (
        subst (IsWord view.opened.sizes) (sym of_word) led.on,
        (subst (λ move. IsPassed move view.number (state_of view.opened run)
            (after_step view.opened.sizes view.number op next_found (core_found view.opened.sizes view.number works opens (state_of view.opened run)))) goes led.passed).0,
      )
