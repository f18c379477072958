-- Going on: what a pass knows at the start of a call it knows at each step of it.
use Rattle.std.proofs.Common.{◌≡◌, ℕ, ◌≤◌, true, List, [], ◌∷◌, length, refl, sym, ap, subst, ◌∙◌, arith}
use Rattle.std.specs.Prelude.{Option, Some, None, Result, Ok, Err, IfOk}
use Rattle.nv_plain.specs.declared.call.FileCall.{FileCall}
use Rattle.nv_plain.specs.declared.call.FileCall.TheVariants.{Sync}
use Rattle.nv_plain.specs.declared.call.Reply.TheVariants.{Done as Replied}
use Rattle.nv_core.specs.invariant.InvariantLaws.{RunsAreSound}
use Rattle.nv_core.specs.state.Passes.{Pass, plain_call}
use Rattle.nv_core.specs.state.Words.{STOP, ORDER}
use Rattle.nv_core.specs.steps.Frames.{Covers, OwnEventsTell}
use Rattle.nv_core.specs.steps.Opening.{IsMount}
use Rattle.nv_core.specs.steps.Ops.{Op, Load, Place}
use Rattle.nv_table.specs.invariant.BetweenSteps.{KnowsTaken}
use Rattle.nv_table.specs.passes.Known.{FindsNoLess, known_by}
use Rattle.nv_table.specs.state.Opened.{Opened, mount_of}
use Rattle.nv_table.specs.state.States.{PassState}
use Rattle.nv_table.specs.state.Views.{PassView}
use Rattle.nv_table.specs.steps.StepContracts.{Postcondition}
use Rattle.nv_table.proofs.passes.KnownLaws.{covers_all, covers_same, steps_find_what_is_known, steps_forget_nothing}
use Rattle.nv_mount.specs.declared.fds.Fd.{Fd}
use Rattle.nv_mirror.specs.declared.answers.Done.{Done}
use Rattle.nv_mirror.specs.declared.answers.Refusal.{Refusal}
use Rattle.nv_mirror.specs.declared.answers.Refusal.TheVariants.{BadFd, Stopped, Spent}
use Rattle.nv_mirror.specs.Answers.{place_in_answer}
use Rattle.nv_mirror.specs.PassSteps.{PassStep, HasMade, either_of, place_by, place_in}
use Rattle.nv_calls.specs.calls.EndedCalls.{IsCallOver}
use Rattle.nv_calls.specs.fsync.SyncRuns.{IsSyncRun, file_of_fd}
use Rattle.nv_calls.specs.histories.GoingOn.{GoesOn, SyncGoesOn, SyncsGoOn}
use Rattle.nv_calls.proofs.histories.HeedsLaws.{FindsStop, comes_to_stop, stopped_is}

-- ---- what is known through some steps

-- what is so of the pass behind them
pub record KnowsOn (start now : PassState) : Type 0 where
  pub mount : IsMount (mount_of now.view.opened)
  pub taken : now.view.number ≡ 0 → KnowsTaken now.view
  pub covers : Covers (known_by start.view) (known_by now.view)

module _ (sound : RunsAreSound) (tell : OwnEventsTell) (start : PassState) (mount : IsMount (mount_of start.view.opened)) (taken : start.view.number ≡ 0 → KnowsTaken start.view) where
  knows_between : (middle before : PassState) → before.view ≡ middle.view → KnowsOn start middle → KnowsOn start before
  knows_between middle before same knows = record {
    mount = subst (λ (v : PassView). IsMount (mount_of v.opened)) (sym same) knows.mount;
    taken = subst (λ (v : PassView). v.number ≡ 0 → KnowsTaken v) (sym same) knows.taken;
    covers = subst (λ (v : PassView). Covers (known_by start.view) (known_by v)) (sym same) knows.covers;
  }

  knows_step : (old new : PassState) (opens : Option FileCall) (op : Op) (found : ℕ) → Postcondition old opens op found new → KnowsOn start old → KnowsOn start new
  knows_step old new opens op found is knows =
      let next = steps_forget_nothing sound tell old new opens op found knows.mount knows.taken is in
      record {
        mount = subst (λ (o : Opened). IsMount (mount_of o)) (sym (ap (λ (v : PassView). v.opened) is.steps.is)) knows.mount;
        taken = next.1;
        covers = covers_all (known_by start.view) (known_by old.view) (known_by new.view) knows.covers next.0;
      }

  knows_self : KnowsOn start start
  knows_self = record { mount = mount; taken = taken; covers = covers_same (known_by start.view) }

  pub knows_made : (steps : List PassStep) (now : PassState) → HasMade steps start now → KnowsOn start now
  knows_made [] now made = subst (λ (p : PassState). KnowsOn start p) (sym made) knows_self
  knows_made (step ∷ earlier) now made =
      knows_step made.2.before now step.opens step.op step.found made.2.stepped (knows_between made.0 made.2.before made.2.between.view (knows_made earlier made.0 made.1))

  -- the pass as a step of them finds it, and what the step finds
  pub knows_before : (step : PassStep) (earlier : List PassStep) (now : PassState) → (made : HasMade (step ∷ earlier) start now) → KnowsOn start made.2.before
  knows_before step earlier now made = knows_between made.0 made.2.before made.2.between.view (knows_made earlier made.0 made.1)

  pub finds_known : (step : PassStep) (earlier : List PassStep) (now : PassState) → (made : HasMade (step ∷ earlier) start now) → (op : Op) → step.op ≡ op → FindsNoLess (known_by made.2.before.view) op step.found
  finds_known step earlier now made op is =
      let knows = knows_before step earlier now made in
      steps_find_what_is_known sound tell made.2.before now step.opens op step.found knows.mount knows.taken (subst (λ d. Postcondition made.2.before step.opens d step.found now) is made.2.stepped)

  stop_known : (known_by start.view).stopped ≡ true → FindsStop start
  stop_known set step earlier now made is = finds_known step earlier now made (Load STOP) is ((knows_before step earlier now made).covers.stopped set)

  -- ---- its place

  place_of : (op : Op) (found place : ℕ) → place_by op found ≡ Some place → (known : Pass) → Covers (known_by start.view) known → FindsNoLess known op found
      → length (known_by start.view).seen ≤ place
  place_of (Place reply) found place is known covers finds =
      let same : found ≡ place = cc in let less = covers.seen in let low : length known.seen ≤ found = finds in omega (arith, same, less, low)
  place_of op found place is known covers finds = absurd (cc)

  placed_behind : (steps : List PassStep) (now : PassState) (place : ℕ) → HasMade steps start now → place_in steps ≡ Some place → length (known_by start.view).seen ≤ place
  placed_behind [] now place made is = absurd (cc)
  placed_behind (step ∷ earlier) now place made is = by (place_in earlier) refl (placed_behind earlier made.0 place made.1)
    where
      by : (before : Option ℕ) → place_in earlier ≡ before → (place_in earlier ≡ Some place → length (known_by start.view).seen ≤ place) → length (known_by start.view).seen ≤ place
      by (Some one) so placed = placed (so ∙ sym (ap (λ p. either_of p (place_by step.op step.found)) so) ∙ is)
      by None so placed =
          place_of step.op step.found place (sym (ap (λ p. either_of p (place_by step.op step.found)) so) ∙ is) (known_by made.2.before.view) (knows_before step earlier now made).covers (finds_known step earlier now made step.op refl)

  -- ---- a call that is over

  ok_behind : (steps : List PassStep) (now : PassState) (result : Result Done Refusal) → HasMade steps start now → place_in steps ≡ place_in_answer result → IfOk result (λ done. length (known_by start.view).seen ≤ done.place)
  ok_behind steps now (Ok done) made is = placed_behind steps now done.place made is
  ok_behind steps now (Err refusal) made is = tt

  by_goes : (early : Option Refusal) (file : Option ℕ) (asks : ℕ → FileCall) (now : PassState) (result : Result Done Refusal) → IsCallOver early file asks start now result → GoesOn start now result
  by_goes (Some refusal) file asks now result over = record {
    steps = [];
    made = over.1;
    heeds = λ set loads. absurd (cc);
    behind = subst (λ r. IfOk r (λ (done : Done). length (known_by start.view).seen ≤ done.place)) (sym over.0) tt;
    keeps = (knows_made [] now over.1).covers;
  }
  by_goes None file asks now result over = record {
    steps = over.2.steps;
    made = over.2.made;
    heeds = λ set loads. stopped_is result (sym over.2.refused ∙ comes_to_stop start.view.opened.sizes (plain_call (asks over.0)) start (stop_known set) (asks over.0) over.2.steps now over.2.made over.2.own loads);
    behind = ok_behind over.2.steps now result over.2.made over.2.placed;
    keeps = (knows_made over.2.steps now over.2.made).covers;
  }

  pub over_goes : (early : Option Refusal) (file : Option ℕ) (asks : ℕ → FileCall) (now : PassState) (result : Result Done Refusal) → IsCallOver early file asks start now result → GoesOn start now result
  over_goes early file asks now result over = by_goes early file asks now result over

  -- ---- an fsync

  not_zero : {T : Type 0} → ◌≡◌ {A = ℕ} 0 1 → T
  not_zero is = absurd (omega arith)

  first_finds : (file found : ℕ) (now : PassState) → Postcondition start (Some (Sync file)) (Load STOP) found now → (known_by start.view).stopped ≡ true → found ≡ 1
  first_finds file found now is set = steps_find_what_is_known sound tell start now (Some (Sync file)) (Load STOP) found mount taken is set

  sync_heeds : (file : ℕ) (now : PassState) (result : Result Done Refusal) → IsSyncRun (Some file) start now result → (known_by start.view).stopped ≡ true → result ≡ Err Stopped
  sync_heeds file now (Err Stopped) run set = refl
  sync_heeds file now (Err (Spent found)) run set = not_zero (first_finds file 0 run.begun run.stop set)
  sync_heeds file now (Ok done) run set = not_zero (first_finds file 0 run.begun run.stop set)
  sync_heeds file now result run set = absurd run

  sync_behind : (file : Option ℕ) (now : PassState) (result : Result Done Refusal) → IsSyncRun file start now result → IfOk result (λ done. length (known_by start.view).seen ≤ done.place)
  sync_behind (Some file) now (Ok done) run =
      let begun = knows_step start run.begun (Some (Sync file)) (Load STOP) 0 run.stop knows_self in
      let loaded = knows_step run.begun run.loaded None (Load ORDER) run.found run.order begun in
      let low : length (known_by run.loaded.view).seen ≤ done.place = steps_find_what_is_known sound tell run.loaded now None (Place Replied) done.place loaded.mount loaded.taken run.places in
      let less = loaded.covers.seen in
      omega (arith, low, less)
  sync_behind None now (Ok done) run = absurd run
  sync_behind file now (Err refusal) run = tt

  sync_keeps : (file : Option ℕ) (now : PassState) (result : Result Done Refusal) → IsSyncRun file start now result → KnowsOn start now
  sync_keeps None now (Err BadFd) run = subst (λ (p : PassState). KnowsOn start p) (sym run) knows_self
  sync_keeps (Some file) now (Err Stopped) run = knows_step start now (Some (Sync file)) (Load STOP) run.found run.stop knows_self
  sync_keeps (Some file) now (Err (Spent found)) run =
      knows_step run.begun now None (Load ORDER) found run.order (knows_step start run.begun (Some (Sync file)) (Load STOP) 0 run.stop knows_self)
  sync_keeps (Some file) now (Ok done) run =
      knows_step run.loaded now None (Place Replied) done.place run.places
      (knows_step run.begun run.loaded None (Load ORDER) run.found run.order (knows_step start run.begun (Some (Sync file)) (Load STOP) 0 run.stop knows_self))
  sync_keeps file now result run = absurd run

  pub sync_goes : (fds : List Fd) (fd : ℕ) (now : PassState) (result : Result Done Refusal) → IsSyncRun (file_of_fd fds fd) start now result → SyncGoesOn fds fd start now result
  sync_goes fds fd now result run = record {
    heeds = λ set file is. sync_heeds file now result (subst (λ one. IsSyncRun one start now result) is run) set;
    behind = sync_behind (file_of_fd fds fd) now result run;
    keeps = (sync_keeps (file_of_fd fds fd) now result run).covers;
  }

pub syncs_go_on : RunsAreSound → OwnEventsTell → SyncsGoOn
syncs_go_on sound tell fds fd start now result mount taken run = sync_goes sound tell start mount taken fds fd now result run
