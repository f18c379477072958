-- Left: what a pass has put back is among its owned cells, its owned cells are words of the mount, and it owns what it has not put back.
use Rattle.std.proofs.Common.{◌≡◌, ◌≢◌, ◌⊎◌, ℕ, zero, suc, ◌+◌, ◌-◌, ◌≤◌, ◌==◌, Bool, true, false, if◌then◌else◌, List, [], ◌∷◌, ◌++◌, inl, inr, refl, sym, ap, subst, ◌∙◌, arith, append_assoc, append-nil}
use Rattle.nv_plain.specs.declared.call.FileCall.{FileCall}
use Rattle.nv_core.specs.state.Words.{Sizes, Word, IsWord, same}
use Rattle.nv_core.specs.state.Passes.{Pass, times, without}
use Rattle.nv_core.specs.state.Cleaner.{CleanerOp, TakeCleaner}
use Rattle.nv_core.specs.state.Cleaner as cleaner
use Rattle.nv_core.specs.steps.CleanerSteps.{cleaner_word}
use Rattle.nv_core.specs.steps.Ops.{Op, Take, Seize, Hold, ByCleaner, Split, PutBack, Move, Stays, Comes, Goes, cleaner_move, move_of, moved, word_of}
use Rattle.nv_core.specs.steps.Order.{Work}
use Rattle.nv_core.specs.state.Core.{Core, changes, changed_pass, after_step, after_begin, after_work}
use Rattle.nv_core.specs.steps.Events.{Act, BeginsCall, TakesStep, CallsDevice, Event, StepEnabled, ActEnabled, IsStaying, after_act, after_event, after_run, IsRun}
use Rattle.nv_core.specs.steps.Opening.{Mount, IsMount, opening}
use Rattle.nv_core.specs.steps.Frames.{StepsAreOnWords, IsOnWord}
use Rattle.nv_core.proofs.state.Changes.{same_true, differ, by_number, number_here}
use Rattle.nv_core.proofs.invariant.LockLaws.{times_here, times_else, times_without, times_without_else}
use Rattle.nv_core.proofs.steps.RunLaws.{run_parts, after_parts}
use Rattle.nv_table.specs.state.Views.{without_all, still_owned}
use Rattle.nv_table.proofs.steps.OwnedSlotLaws.{few_left}

-- ---- hands without some

-- two words are one, or not
pub word_cases : (one other : Word) → (one ≡ other) ⊎ (one ≢ other)
word_cases one other = go (same one other) refl
  where
    go : (b : Bool) → same one other ≡ b → (one ≡ other) ⊎ (one ≢ other)
    go true e = inl (same_true one other e)
    go false e = inr (differ one other e)

-- where a cell is not, nothing goes
without_none : (cell : Word) (owned : List Word) → times cell owned ≡ 0 → without cell owned ≡ owned
without_none cell [] none = refl
without_none cell (first ∷ rest) none = go (without_none cell rest) (same cell first) refl
  where
    go : (times cell rest ≡ 0 → without cell rest ≡ rest) → (b : Bool) → same cell first ≡ b → (if b then rest else first ∷ without cell rest) ≡ first ∷ rest
    go again true e = let t = ap (λ b. (if b then 1 else 0) + times cell rest) e in absurd (omega (arith, t, none))
    go again false e = let t = ap (λ b. (if b then 1 else 0) + times cell rest) e in ap (λ more. first ∷ more) (again (omega (arith, t, none)))

pub without_here : (cell : Word) (owned : List Word) → times cell (without cell owned) ≡ times cell owned - 1
without_here cell owned = go (times cell owned) refl
  where
    go : (n : ℕ) → times cell owned ≡ n → times cell (without cell owned) ≡ times cell owned - 1
    go zero none = let t = ap (times cell) (without_none cell owned none) in omega (arith, t, none)
    go (suc n) some = let t = times_without cell owned (omega (arith, some)) in omega (arith, t)

-- how often a cell is left where some were put back
pub times_left : (cell : Word) (left owned : List Word) → times cell (without_all left owned) ≡ times cell owned - times cell left
times_left cell [] owned = omega arith
times_left cell (first ∷ rest) owned = go (times_left cell rest owned) (word_cases cell first)
  where
    go : times cell (without_all rest owned) ≡ times cell owned - times cell rest → (cell ≡ first) ⊎ (cell ≢ first)
        → times cell (without first (without_all rest owned)) ≡ times cell owned - times cell (first ∷ rest)
    go again (inl e) =
        let a = subst (λ w. times cell (without w (without_all rest owned)) ≡ times cell (without_all rest owned) - 1) e (without_here cell (without_all rest owned)) in
        let b = subst (λ w. times cell (w ∷ rest) ≡ 1 + times cell rest) e (times_here cell rest) in
        omega (arith, a, b, again)
    go again (inr ne) =
        let a = times_without_else cell first (without_all rest owned) ne in
        let b = times_else cell first rest ne in
        omega (arith, a, b, again)

-- what a pass owns is among its owned cells
pub still_owned_in_owned : (cell : Word) (pass : Pass) → times cell (still_owned pass) ≤ times cell pass.owned
still_owned_in_owned cell pass = few_left cell pass.left pass.owned

-- ---- what was put back is among the owned cells

abbrev pub LeftWithin : Pass → Type 0
LeftWithin pass = (cell : Word) → times cell pass.left ≤ times cell pass.owned

abbrev AllWithin : Core → Type 0
AllWithin core = (number : ℕ) → LeftWithin (core.passes number)

-- where nothing was put back
none_left : (pass : Pass) (owned : List Word) → pass.left ≡ [] → (cell : Word) → times cell pass.left ≤ times cell owned
none_left pass owned none cell = let t : times cell pass.left ≡ 0 = ap (times cell) none in omega (arith, t)

left_changed : (sizes : Sizes) (by : ℕ) (core : Core) (op : Op) (found : ℕ) → StepEnabled sizes by core op → IsStaying (TakesStep op found) (core.passes by) → LeftWithin (core.passes by)
    → LeftWithin (changed_pass sizes by core op found)
left_changed sizes by core Split found may staying within = λ cell. omega arith
left_changed sizes by core (PutBack gone) found may staying within = λ cell. go cell (word_cases cell gone)
  where
    go : (cell : Word) → (cell ≡ gone) ⊎ (cell ≢ gone) → times cell (gone ∷ (core.passes by).left) ≤ times cell (core.passes by).owned
    go cell (inl e) =
        subst (λ w. times w (gone ∷ (core.passes by).left) ≤ times w (core.passes by).owned) (sym e)
        (let t = times_here gone (core.passes by).left in let w = within gone in omega (arith, t, w, may))
    go cell (inr ne) = let t = times_else cell gone (core.passes by).left ne in let w = within cell in omega (arith, t, w)
left_changed sizes by core op found may staying within = none_left (core.passes by) (moved (move_of sizes op found) (core.passes by).owned) staying

left_step : (sizes : Sizes) (by : ℕ) (core : Core) (op : Op) (found : ℕ) → StepEnabled sizes by core op → IsStaying (TakesStep op found) (core.passes by) → AllWithin core → AllWithin (after_step sizes by op found core)
left_step sizes by core op found may staying all =
    by_number (λ n p. LeftWithin p) core.passes (changes by core.made op) (changed_pass sizes by core op found) (left_changed sizes by core op found may staying (all by)) (λ n ne. all n)

left_begin : (sizes : Sizes) (by : ℕ) (core : Core) (call : FileCall) → AllWithin core → AllWithin (after_begin sizes by call core)
left_begin sizes by core call all = by_number (λ n p. LeftWithin p) core.passes by _ (all by) (λ n ne. all n)

left_work : (sizes : Sizes) (by : ℕ) (core : Core) (work : Work) → AllWithin core → AllWithin (after_work sizes by work core)
left_work sizes by core work all = by_number (λ n p. LeftWithin p) core.passes by _ (all by) (λ n ne. all n)

does_stay : (op : Op) (found : ℕ) (pass : Pass) → pass.left ≡ [] → IsStaying (TakesStep op found) pass
does_stay (PutBack cell) found pass none = tt
does_stay op found pass none = none

left_act : (sizes : Sizes) (by : ℕ) (core : Core) (act : Act) → ActEnabled sizes by core act → IsStaying act (core.passes by) → AllWithin core → AllWithin (after_act sizes by act core)
left_act sizes by core (BeginsCall call op found) may staying all =
    left_step sizes by (after_begin sizes by call core) op found may.1.may
    (does_stay op found ((after_begin sizes by call core).passes by) (ap (λ (p : Pass). p.left) (number_here core.passes by _) ∙ staying))
    (left_begin sizes by core call all)
left_act sizes by core (TakesStep op found) may staying all = left_step sizes by core op found may.may staying all
left_act sizes by core (CallsDevice work) may staying all = left_work sizes by core work all

left_run : (sizes : Sizes) (core : Core) (run : List Event) → IsRun sizes core run → AllWithin core → AllWithin (after_run sizes core run)
left_run sizes core [] is all = all
left_run sizes core (event ∷ later) is all = left_run sizes (after_event sizes event core) later is.1 (left_act sizes event.by core event.act is.0.act is.0.staying all)

-- What a pass has put back is never more than what it holds.
pub left_within : (mount : Mount) (run : List Event) → IsRun mount.sizes (opening mount) run → (number : ℕ) → LeftWithin ((after_run mount.sizes (opening mount) run).passes number)
left_within mount run is = left_run mount.sizes (opening mount) run is (λ number cell. omega arith)

-- ---- hands are words of the mount

abbrev AreWords : Sizes → List Word → Type 0
AreWords sizes owned = (cell : Word) → times cell owned ≢ 0 → IsWord sizes cell

abbrev AllWords : Sizes → Core → Type 0
AllWords sizes core = (number : ℕ) → AreWords sizes (core.passes number).owned

if_both : {T : Type 0} (P : T → Type 0) (b : Bool) (one other : T) → P one → P other → P (if b then one else other)
if_both P true one other so not_so = so
if_both P false one other so not_so = not_so

-- a cell that comes is the step's word
abbrev pub IsComing : Move → Word → Type 0
IsComing (Comes cell) word = cell ≡ word
IsComing move word = Unit {0}

cleaner_op_comes : (sizes : Sizes) (cleaner_op : CleanerOp) (found : ℕ) → IsComing (cleaner_move sizes cleaner_op found) (cleaner_word sizes cleaner_op)
cleaner_op_comes sizes (TakeCleaner most) found = if_both (λ m. IsComing m (cleaner_word sizes (TakeCleaner most))) (found == 0) _ Stays refl tt
cleaner_op_comes sizes (cleaner.Take cell) found = if_both (λ m. IsComing m (cleaner_word sizes (cleaner.Take cell))) (found == 0) _ Stays refl tt
cleaner_op_comes sizes (cleaner.Hold number) found = refl
cleaner_op_comes sizes cleaner_op found = tt

pub comes : (sizes : Sizes) (pass : Pass) (op : Op) (found : ℕ) → IsComing (move_of sizes op found) (word_of sizes pass op)
comes sizes pass (Take cell) found = if_both (λ m. IsComing m cell) (found == 0) (Comes cell) Stays refl tt
comes sizes pass (Seize number) found = refl
comes sizes pass (Hold number) found = refl
comes sizes pass (ByCleaner cleaner_op) found = cleaner_op_comes sizes cleaner_op found
comes sizes pass op found = tt

words_moved : (sizes : Sizes) (word : Word) (owned : List Word) (move : Move) → IsComing move word → IsWord sizes word → AreWords sizes owned → AreWords sizes (moved move owned)
words_moved sizes word owned Stays coming on all = all
words_moved sizes word owned (Comes one) coming on all = λ cell some. elim (word_cases cell one) [
  | inl e ↦ subst (IsWord sizes) (sym (e ∙ coming)) on
  | inr ne ↦ all cell (λ none. let t = times_else cell one owned ne in some (t ∙ none))
]
words_moved sizes word owned (Goes one) coming on all = λ cell some. all cell (λ none. elim (word_cases cell one) [
  | inl e ↦ let t = subst (λ w. times cell (without w owned) ≡ times cell owned - 1) e (without_here cell owned) in some (omega (arith, t, none))
  | inr ne ↦ some (times_without_else cell one owned ne ∙ none)
])

words_changed : (sizes : Sizes) (by : ℕ) (core : Core) (op : Op) (found : ℕ) → IsWord sizes (word_of sizes (core.passes by) op) → AreWords sizes (core.passes by).owned
    → AreWords sizes (changed_pass sizes by core op found).owned
words_changed sizes by core Split found on all = λ cell some. absurd (some refl)
words_changed sizes by core op found on all =
    words_moved sizes (word_of sizes (core.passes by) op) (core.passes by).owned (move_of sizes op found) (comes sizes (core.passes by) op found) on all

words_step : (sizes : Sizes) (by : ℕ) (core : Core) (op : Op) (found : ℕ) → IsWord sizes (word_of sizes (core.passes by) op) → AllWords sizes core → AllWords sizes (after_step sizes by op found core)
words_step sizes by core op found on all =
    by_number (λ n p. AreWords sizes p.owned) core.passes (changes by core.made op) (changed_pass sizes by core op found) (words_changed sizes by core op found on (all by)) (λ n ne. all n)

words_act : (sizes : Sizes) (by : ℕ) (core : Core) (act : Act) → IsOnWord sizes by core act → AllWords sizes core → AllWords sizes (after_act sizes by act core)
words_act sizes by core (BeginsCall call op found) on all =
    words_step sizes by (after_begin sizes by call core) op found on (by_number (λ n p. AreWords sizes p.owned) core.passes by _ (all by) (λ n ne. all n))
words_act sizes by core (TakesStep op found) on all = words_step sizes by core op found on all
words_act sizes by core (CallsDevice work) on all = by_number (λ n p. AreWords sizes p.owned) core.passes by _ (all by) (λ n ne. all n)

words_run : StepsAreOnWords → (mount : Mount) → IsMount mount → (later before : List Event) → IsRun mount.sizes (opening mount) (before ++ later)
    → AllWords mount.sizes (after_run mount.sizes (opening mount) before) → AllWords mount.sizes (after_run mount.sizes (opening mount) (before ++ later))
words_run words mount is_mount [] before is all = subst (λ run. AllWords mount.sizes (after_run mount.sizes (opening mount) run)) (sym (append-nil before)) all
words_run words mount is_mount (event ∷ later) before is all =
    let parts = run_parts mount.sizes (opening mount) before (event ∷ later) is in
    let joined : (before ++ event ∷ []) ++ later ≡ before ++ event ∷ later = append_assoc before (event ∷ []) later in
    let next = words_act mount.sizes event.by (after_run mount.sizes (opening mount) before) event.act (words mount before event.by event.act is_mount parts.0 parts.1.0.act) all in
    subst (λ run. AllWords mount.sizes (after_run mount.sizes (opening mount) run)) joined
    (words_run words mount is_mount later (before ++ event ∷ []) (subst (IsRun mount.sizes (opening mount)) (sym joined) is)
    (subst (AllWords mount.sizes) (sym (after_parts mount.sizes (opening mount) before (event ∷ []))) next))

-- Every cell that some pass owns is a word of the mount.
pub owned_are_words : StepsAreOnWords → (mount : Mount) (run : List Event) → IsMount mount → IsRun mount.sizes (opening mount) run
    → (number : ℕ) (cell : Word) → times cell ((after_run mount.sizes (opening mount) run).passes number).owned ≢ 0 → IsWord mount.sizes cell
owned_are_words words mount run is_mount is = words_run words mount is_mount run [] is (λ number cell some. absurd (some refl))
