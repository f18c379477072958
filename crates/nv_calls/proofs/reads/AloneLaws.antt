-- Alone: reads of pass 0 while no other pass is out.
use Rattle.std.proofs.Common.{◌≡◌, ℕ, ◌+◌, ◌*◌, ◌^◌, ◌==◌, nat_lt, Bool, true, false, if◌then◌else◌, List, [], ◌∷◌, length, refl, sym, subst, ◌∙◌, eq-eqb}
use Rattle.std.specs.Prelude.{Option, Some, None, Result, min}
use Rattle.std.specs.List.{slice_get}
use Rattle.nv_plain.specs.Layouts.{mount_layout}
use Rattle.nv_plain.specs.Modes.{can_read}
use Rattle.nv_plain.specs.Pieces.{pages_touched}
use Rattle.nv_plain.specs.declared.call.FileCall.{FileCall}
use Rattle.nv_core.specs.state.Words.{Sizes, Word, STOP, ORDER, HEAD, TAIL, STORE, ENTRY, PAGE, place}
use Rattle.nv_core.specs.state.Passes.{plain_call}
use Rattle.nv_core.specs.state.Values.{CallEnding, Failed}
use Rattle.nv_core.specs.steps.Ops.{Op, Load, Take, Stop, Draw}
use Rattle.nv_core.specs.steps.Opening.{IsMount}
use Rattle.nv_core.specs.steps.Order.{Work}
use Rattle.nv_table.specs.passes.Alone.{IsAlone, StaysAlone, NoLockIsHeld}
use Rattle.nv_table.specs.state.Opened.{mount_of}
use Rattle.nv_table.specs.invariant.BetweenSteps.{KnowsTaken}
use Rattle.nv_table.specs.steps.StepContracts.{Postcondition}
use Rattle.nv_table.specs.state.Views.{PassView}
use Rattle.nv_table.specs.state.States.{PassState}
use Rattle.nv_mount.specs.declared.fds.Fd.{Fd}
use Rattle.nv_mirror.specs.declared.answers.Done.{Done}
use Rattle.nv_mirror.specs.declared.answers.Refusal.{Refusal}
use Rattle.nv_mirror.specs.declared.answers.Refusal.TheVariants.{BadFd, TooFar, TooLong, Busy, Stopped, Spent, Again, Raced}
use Rattle.nv_calls.specs.calls.Asks.{asks_read}
use Rattle.nv_calls.specs.calls.EarlyRefusals.{early_refusal, early_fd_refusal, early_range_refusal}
use Rattle.nv_calls.specs.calls.EndedCalls.{IsOverBy}
use Rattle.nv_calls.specs.fsync.SyncRuns.{file_of_fd}
use Rattle.nv_calls.specs.reads.Reads.{IsReadDoneAs}
use Rattle.nv_mirror.specs.Answers.{refusal_in_answer}
use Rattle.nv_calls.specs.reads.ReadsAlone.{NoReadIsBusy, NoReadIsBusyAs}
use Rattle.nv_mirror.specs.PassSteps.{PassStep, HasMade, either_of, busy_at, if_own, fault_at, fault_by, fault_in, refused_by, refusal_in, head_in}

-- ---- refusals that name no lock

-- it is not that a lock was found held
abbrev pub IsOther : Option Refusal → Type 0
IsOther (Some (Busy cell)) = ⊥
IsOther refusal = Unit {0}

pub other_of : (refusal : Option Refusal) (cell : ℕ) → IsOther refusal → refusal ≡ Some (Busy cell) → ⊥
other_of refusal cell other is = subst IsOther is other

choice : (b : Bool) (one two : Option Refusal) → IsOther one → IsOther two → IsOther (if b then one else two)
choice true one two first second = first
choice false one two first second = second

either : (one two : Option Refusal) → IsOther one → IsOther two → IsOther (either_of one two)
either (Some refusal) two first second = first
either None two first second = second

fault_other : (cell : Word) → IsOther (fault_at cell)
fault_other (STORE file) = tt
fault_other (ENTRY slot) = tt
fault_other cell = tt

work_other : (cell : Word) (ending : CallEnding) → IsOther (fault_by cell ending)
work_other cell (Failed came faults) = fault_other cell
work_other cell ending = tt

faults_other : (works : List Work) → IsOther (fault_in works)
faults_other [] = tt
faults_other (work ∷ later) = either (fault_by work.cell work.ending) (fault_in later) (work_other work.cell work.ending) (faults_other later)

range_other : (sizes : Sizes) (at len : ℕ) → IsOther (early_range_refusal sizes at len)
range_other sizes at len =
    choice (nat_lt (sizes.page * sizes.pages) (at + len)) (Some TooFar) (if nat_lt (min mount_layout.group_limit sizes.entries) (pages_touched at len sizes.page) then Some TooLong else None) tt
    (choice (nat_lt (min mount_layout.group_limit sizes.entries) (pages_touched at len sizes.page)) (Some TooLong) None tt tt)

pub early_other : (sizes : Sizes) (fds : List Fd) (fd at len : ℕ) → IsOther (early_refusal can_read sizes fds fd at len)
early_other sizes fds fd at len = by (slice_get fds fd)
  where
    by : (one : Option Fd) → IsOther (early_fd_refusal can_read sizes one at len)
    by None = tt
    by (Some one) = choice (can_read one.mode) (early_range_refusal sizes at len) (Some BadFd) (range_other sizes at len) tt

-- ---- a lock that was found held is one that a step took

found_other : (sizes : Sizes) (call : FileCall) (head : ℕ) (works : List Work) (op : Op) (found : ℕ) → ((cell : Word) → op ≡ Take cell → found ≡ 0) → IsOther (refused_by sizes call head works op found)
found_other sizes call head works (Take (PAGE page)) found open_ =
    subst (λ b. IsOther (if b then None else if_own sizes call page (busy_at sizes (PAGE page) found))) (sym (eq-eqb found 0 (open_ (PAGE page) refl))) tt
found_other sizes call head works (Take cell) found open_ = subst (λ b. IsOther (if b then None else Some (Busy (place sizes cell)))) (sym (eq-eqb found 0 (open_ cell refl))) tt
found_other sizes call head works (Load STOP) found open_ = choice (found == 0) None (Some Stopped) tt tt
found_other sizes call head works (Load ORDER) found open_ = choice (nat_lt found (2 ^ 60)) None (Some (Spent found)) tt tt
found_other sizes call head works (Load HEAD) found open_ = choice _ (Some (Spent found)) None tt tt
found_other sizes call head works (Load TAIL) found open_ = choice _ (Some (Again head found)) None tt tt
found_other sizes call head works Draw found open_ = choice (found == head) None (Some (Raced head found)) tt tt
found_other sizes call head works Stop found open_ = faults_other works
found_other sizes call head works op found open_ = tt

module _ (alone : StaysAlone) (locks : NoLockIsHeld) where
  -- what is so of the pass after some steps, and of the first refusal among them
  record AreOpen (sizes : Sizes) (call : FileCall) (steps : List PassStep) (now : PassState) : Type 0 where
    mount : IsMount (mount_of now.view.opened)
    knows : KnowsTaken now.view
    alone_still : IsAlone now.view
    other : IsOther (refusal_in sizes call steps)

  all_open : (sizes : Sizes) (call : FileCall) (steps : List PassStep) (start now : PassState) → HasMade steps start now → IsMount (mount_of start.view.opened) → KnowsTaken start.view → IsAlone start.view
      → AreOpen sizes call steps now
  all_open sizes call [] start now made mount knows is =
      record { mount = subst (λ (p : PassState). IsMount (mount_of p.view.opened)) (sym made) mount; knows = subst (λ (p : PassState). KnowsTaken p.view) (sym made) knows; alone_still = subst (λ (p : PassState). IsAlone p.view) (sym made) is; other = tt }
  all_open sizes call (step ∷ earlier) start now made mount knows is =
      let so_far = all_open sizes call earlier start made.0 made.1 mount knows is in
      let taken = made.2 in
      let mount_then : IsMount (mount_of taken.before.view.opened) = subst (λ (v : PassView). IsMount (mount_of v.opened)) (sym taken.between.view) so_far.mount in
      let knows_then : KnowsTaken taken.before.view = subst KnowsTaken (sym taken.between.view) so_far.knows in
      let alone_then : IsAlone taken.before.view = subst IsAlone (sym taken.between.view) so_far.alone_still in
      let next = alone taken.before now step.opens step.op step.found mount_then knows_then alone_then taken.stepped in
      record {
        mount = subst (λ (v : PassView). IsMount (mount_of v.opened)) (sym taken.stepped.steps.is) mount_then;
        knows = next.0;
        alone_still = next.1;
        other = either (refusal_in sizes call earlier) (refused_by sizes call (head_in earlier) step.works step.op step.found) so_far.other
            (found_other sizes call (head_in earlier) step.works step.op step.found
            (λ cell at. locks taken.before now step.opens cell step.found mount_then knows_then alone_then (subst (λ op. Postcondition taken.before step.opens op step.found now) at taken.stepped)));
      }

  pub no_made_read_is_busy : NoReadIsBusyAs
  no_made_read_is_busy asks fds fd at list start now result cell mount knows is over busy =
      by (early_refusal can_read start.view.opened.sizes fds fd at (length list)) (early_other start.view.opened.sizes fds fd at (length list)) over
    where
      by : (refusal : Option Refusal) → IsOther refusal → IsOverBy refusal (file_of_fd fds fd) (λ file. IsReadDoneAs (asks (length list) file) list start now result) start now result → ⊥
      by (Some refusal) other ended = subst (λ (r : Result Done Refusal). IsOther (refusal_in_answer r)) (sym ended.0 ∙ busy) other
      by None other ended =
          let over = ended.2.over in
          subst (λ (r : Result Done Refusal). IsOther (refusal_in_answer r)) busy
          (subst IsOther over.refused (all_open start.view.opened.sizes (plain_call (asks (length list) ended.0)) over.steps start now over.made mount knows is).other)

  pub no_read_is_busy : NoReadIsBusy
  no_read_is_busy fds fd at list start now result = no_made_read_is_busy (asks_read at) fds fd at list start now result
