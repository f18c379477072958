-- Unmoved: a refused write changes no word but locks, and gives these back.
use Rattle.std.proofs.Common.{◌≡◌, ℕ, ◌==◌, Bool, true, false, if◌then◌else◌, List, [], ◌∷◌, length, refl, sym, ap, subst, ◌∙◌}
use Rattle.std.specs.Prelude.{Option, Some, None, Result, Ok, Err}
use Rattle.nv_plain.specs.Modes.{can_write}
use Rattle.nv_plain.specs.declared.call.FileCall.{FileCall}
use Rattle.nv_core.specs.invariant.InvariantLaws.{RunsAreSound}
use Rattle.nv_core.specs.state.Passes.{Pass}
use Rattle.nv_core.specs.state.Words.{Sizes, Word}
use Rattle.nv_core.specs.steps.Frames.{OwnEventsTell}
use Rattle.nv_core.specs.steps.Opening.{IsMount}
use Rattle.nv_core.specs.steps.Ops.{Op, Load, Take, Give, Draw, Comes, Stays, moved, move_of}
use Rattle.nv_table.specs.invariant.Idle.{IsIdle}
use Rattle.nv_table.specs.state.Opened.{mount_of}
use Rattle.nv_table.specs.state.States.{PassState}
use Rattle.nv_table.specs.state.Views.{PassView, pass_of}
use Rattle.nv_table.specs.steps.SeatSteps.{pass_before, pass_worked, with_call}
use Rattle.nv_table.proofs.invariant.DrawnLaws.{calls_leave}
use Rattle.nv_mirror.specs.declared.answers.Done.{Done}
use Rattle.nv_mirror.specs.declared.answers.Refusal.{Refusal}
use Rattle.nv_mirror.specs.OwnSteps.{AreOwnAs}
use Rattle.nv_mirror.specs.PassSteps.{PassStep, HasMade, head_in, refusal_in}
use Rattle.nv_calls.specs.histories.Unmoved.{AreLocking, LeavesWords, held_after, held_by, is_locking}
use Rattle.nv_calls.specs.calls.Asks.{IsMadeAsWrite, asks_write}
use Rattle.nv_calls.specs.calls.EarlyRefusals.{early_refusal}
use Rattle.nv_calls.specs.calls.EndedCalls.{IsCallOver}
use Rattle.nv_calls.specs.fsync.SyncRuns.{file_of_fd}
use Rattle.nv_calls.specs.writes.WriteLaws.{RefusedWritesLeaveWords, RefusedWritesLeaveWordsAs}
use Rattle.nv_calls.proofs.histories.WriteStages.{locking}

-- ---- what the steps hold

taken_so : (b : Bool) (cell : Word) (held : List Word) → moved (if b then Comes cell else Stays) held ≡ (if b then cell ∷ held else held)
taken_so true cell held = refl
taken_so false cell held = refl

moved_so : (sizes : Sizes) (op : Op) (head found : ℕ) (held : List Word) → is_locking head op found ≡ true → moved (move_of sizes op found) held ≡ held_after op found held
moved_so sizes (Load word) head found held moves = refl
moved_so sizes (Take cell) head found held moves = taken_so (found == 0) cell held
moved_so sizes (Give cell) head found held moves = refl
moved_so sizes Draw head found held moves = refl
moved_so sizes op head found held moves = absurd (cc)

with_owned : (sizes : Sizes) (opens : Option FileCall) (pass : Pass) → (with_call sizes opens pass).owned ≡ pass.owned
with_owned sizes None pass = refl
with_owned sizes (Some one) pass = refl

held_so : (steps : List PassStep) (start now : PassState) → HasMade steps start now → AreLocking steps → (pass_of start.view).owned ≡ [] → (pass_of now.view).owned ≡ held_by steps
held_so [] start now all moves none = ap (λ (p : PassState). (pass_of p.view).owned) all ∙ none
held_so (step ∷ earlier) start now all moves none =
    let is = all.2.stepped in
    let old = all.2.before.view in
    ap (λ (p : Pass). p.owned) is.pass
    ∙ moved_so old.opened.sizes step.op (head_in earlier) step.found (pass_before old step.opens is.works).owned moves.0
    ∙ ap (held_after step.op step.found)
    (with_owned old.opened.sizes step.opens (pass_worked old.opened.sizes is.works (pass_of old))
    ∙ calls_leave (λ (p : Pass). p.owned) (λ sizes work p. refl) old.opened.sizes is.works (pass_of old)
    ∙ ap (λ (v : PassView). (pass_of v).owned) all.2.between.view ∙ held_so earlier start all.0 all.1 moves.1 none)

-- ---- a write that is over

over_leaves : RunsAreSound → OwnEventsTell → (by : Option Refusal) (file : Option ℕ) (asks : ℕ → FileCall) (at : ℕ) (bytes : List ℕ) (start now : PassState) (result : Result Done Refusal) → IsMadeAsWrite asks at bytes
    → IsMount (mount_of start.view.opened) → IsIdle start → IsCallOver by file asks start now result → LeavesWords start now result
over_leaves sound tell (Some refusal) file asks at bytes start now result is_made mount idle over = record { steps = []; made = over.1; left = λ unplaced mild. (tt, refl) }
over_leaves sound tell None file asks at bytes start now (Ok done) is_made mount idle over = record { steps = over.2.steps; made = over.2.made; left = λ unplaced mild. absurd (cc) }
over_leaves sound tell None file asks at bytes start now (Err refusal) is_made mount idle over =
    let ended = over.2 in
    let sizes = start.view.opened.sizes in
    let asked = asks over.0 in
    let own = subst (λ one. AreOwnAs sizes asked one ended.steps) (is_made over.0) ended.own in
    let refused = subst (λ one. refusal_in sizes one ended.steps ≡ Some refusal) (is_made over.0) ended.refused in
    record {
      steps = ended.steps;
      made = ended.made;
      left = λ unplaced mild.
          let moves = locking sound tell sizes over.0 at bytes asked (is_made over.0) start mount ended.steps now refusal ended.made own refused mild in
          (moves, sym (held_so ended.steps start now ended.made moves idle.owned) ∙ ended.idle.owned);
    }

pub made_writes_leave_words : RunsAreSound → OwnEventsTell → RefusedWritesLeaveWordsAs
made_writes_leave_words sound tell asks fds fd at bytes start now result is_made mount idle over =
    over_leaves sound tell (early_refusal can_write start.view.opened.sizes fds fd at (length bytes)) (file_of_fd fds fd) asks at bytes start now result is_made mount idle over

pub refused_writes_leave_words : RunsAreSound → OwnEventsTell → RefusedWritesLeaveWords
refused_writes_leave_words sound tell fds fd at bytes start now result = made_writes_leave_words sound tell (asks_write at bytes) fds fd at bytes start now result (λ file. refl)
