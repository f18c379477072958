-- Machines: what the steps of a sync are, one after another, and what they tell at its end.
use Rattle.std.proofs.Common.{◌≡◌, ℕ, ◌==◌, ◌^◌, nat_lt, Bool, true, false, if◌then◌else◌, refl, sym, ap, subst, ◌∙◌, eqb-true}
use Rattle.std.proofs.lemmas.Bool.{eqb-false, ltb-true, ltb-false}
use Rattle.std.specs.Prelude.{List, Option, Some, None, Result, Ok, Err}
use Rattle.nv_plain.specs.declared.call.FileCall.TheVariants.{Sync}
use Rattle.nv_plain.specs.declared.call.Reply.{Reply}
use Rattle.nv_core.specs.state.Words.{STOP, ORDER}
use Rattle.nv_core.specs.steps.Ops.{Op as CoreOp, Load, Place}
use Rattle.nv_core.specs.steps.Order.{plain_reply}
use Rattle.nv_table.specs.state.States.{PassState}
use Rattle.nv_table.specs.state.Views.{pass_of}
use Rattle.nv_table.specs.steps.StepContracts.{Postcondition}
use Rattle.nv_mount.specs.declared.fds.Fd.{Fd}
use Rattle.nv_op.specs.declared.asked.Asked.TheVariants.{Sync as AsksSync}
use Rattle.nv_op.specs.Kinds.{kind_of}
use Rattle.nv_op.specs.Ops.{begun_as, call_asked, core_op_of, opened_by}
use Rattle.nv_mirror.specs.declared.answers.Refusal.{Refusal}
use Rattle.nv_mirror.specs.declared.answers.Refusal.TheVariants.{Stopped, Spent}
use Rattle.nv_mirror.specs.declared.pageless.PagelessControl.{PagelessControl}
use Rattle.nv_mirror.specs.declared.pageless.PagelessControl.TheVariants.{Over}
use Rattle.nv_mirror.specs.declared.pageless.PagelessControl.TheVariants as controls
use Rattle.nv_mirror.specs.declared.pageless.PagelessMachine.{PagelessMachine}
use Rattle.nv_mirror.specs.Answers.{IsPlacedAs}
use Rattle.nv_mirror.specs.Controls.{MirroredControl, asked_at}
use Rattle.nv_mirror.specs.PassSteps.{either_of, place_by}
use Rattle.nv_mirror.specs.Pageless as pageless
use Rattle.nv_mirror.specs.Pageless.{pageless_after, pageless_measure, pageless_op, pageless_opens, pageless_opens_at, pageless_place_at}
use Rattle.nv_mirror.proofs.ControlLaws.{place_plainly}
use Rattle.nv_mirror.proofs.AskedLaws.{pageless_asks}
use Rattle.nv_mirror.proofs.EndsLaws.{call_over}
use Rattle.nv_calls.proofs.calls.OverLaws.{over_asked}
use Rattle.nv_mirror.proofs.PartLaws.{pageless_tells}
use Rattle.nv_calls.specs.calls.Advances.{IsOneStep}
use Rattle.nv_calls.specs.calls.CallAnswers.{answer_of, done_at, done_of}
use Rattle.nv_calls.specs.declared.syncing.SyncControl.TheVariants as syncs
use Rattle.nv_calls.specs.declared.syncing.SyncMachine.{SyncMachine}
use Rattle.nv_calls.specs.fsync.SyncRuns.{IsSyncRun, file_of_fd}
use Rattle.nv_calls.specs.fsync.SyncMachines.{IsOfFile, IsRunning, IsSyncEnded, SyncGoes, SyncSteps, at_step, progress_at, standing}

-- ---- one step more

module _ (file : ℕ) (start now new : PassState) (found : ℕ) where
  stop_steps : (b : Bool) → found == 0 ≡ b → Postcondition start (Some (Sync file)) (Load STOP) found new → SyncSteps file (if b then controls.LoadOrder else Over (Err Stopped)) start new
  stop_steps true zero is = subst (λ n. Postcondition start (Some (Sync file)) (Load STOP) n new) (eqb-true found 0 zero) is
  stop_steps false some is = record { found = found; stop = is; set = eqb-false found 0 some }

  order_steps : (b : Bool) → nat_lt found (2 ^ 60) ≡ b → Postcondition start (Some (Sync file)) (Load STOP) 0 now → Postcondition now None (Load ORDER) found new
      → SyncSteps file (if b then controls.TakePlace else Over (Err (Spent found))) start new
  order_steps true low stop is = record { begun = now; found = found; stop = stop; order = is; low = ltb-true found (2 ^ 60) low }
  order_steps false high stop is = record { begun = now; stop = stop; order = is; spent = ltb-false found (2 ^ 60) high }

  steps_on : (control : PagelessControl) → pageless.IsOpen control → pageless.IsInCall (AsksSync file) control start now → SyncSteps file control start now
      → Postcondition now (begun_as (Sync file) (opened_by (pageless_opens_at (AsksSync file) control))) (core_op_of now.view (pageless_op control)) found new → SyncSteps file (pageless_after control found) start new
  steps_on controls.Begin runs way steps is = stop_steps (found == 0) refl (subst (λ (p : PassState). Postcondition p (Some (Sync file)) (Load STOP) found new) steps is)
  steps_on controls.LoadOrder runs way steps is = order_steps (nat_lt found (2 ^ 60)) refl steps is
  steps_on controls.TakePlace runs way steps is = record {
    begun = steps.begun;
    loaded = now;
    found = steps.found;
    stop = steps.stop;
    order = steps.order;
    low = steps.low;
    places = subst (λ (op : CoreOp). Postcondition now None op found new)
        (place_plainly now (ap (λ (c : MirroredControl). c.control) way.mirrors) ∙ ap (λ (c : MirroredControl). Place (plain_reply c.call)) way.mirrors) is;
  }
  steps_on (Over result) runs way steps is = absurd runs

-- of a running one, whose machine makes the step
runs_on : (file : ℕ) (sync next : PagelessMachine) (start now new : PassState) (found : ℕ) → pageless.IsOpen sync.control → next.asked ≡ sync.asked
    → Postcondition now (begun_as (call_asked sync.asked) (opened_by (pageless_opens sync))) (core_op_of now.view (pageless_op sync.control)) found new → next.control ≡ pageless_after sync.control found
    → pageless.IsUnderWay next start new → IsRunning file sync start now → IsRunning file next start new
runs_on file sync next start now new found runs same is next_is way before = record {
  asked = same ∙ before.asked;
  asks = subst (λ call. asked_at call (pageless.has_begun next.control) new ≡ asked_at call (pageless.has_begun sync.control) now) (ap call_asked before.asked)
      (pageless_asks (call_asked sync.asked) sync next (core_op_of now.view (pageless_op sync.control)) found now new is next_is)
      ∙ before.asks;
  way = way;
  steps = subst (λ (c : PagelessControl). SyncSteps file c start new) (sym next_is)
      (steps_on file start now new found sync.control runs (subst (λ asked. pageless.IsInCall asked sync.control start now) before.asked before.way.1) before.steps
      (subst (λ asked. Postcondition now (begun_as (call_asked asked) (opened_by (pageless_opens_at asked sync.control))) (core_op_of now.view (pageless_op sync.control)) found new) before.asked is));
}

-- of a descriptor's file
pub steps_of : (fds : List Fd) (fd : ℕ) (sync next : PagelessMachine) (start now new : PassState) (found : ℕ) → pageless.IsOpen sync.control → next.asked ≡ sync.asked
    → Postcondition now (begun_as (call_asked sync.asked) (opened_by (pageless_opens sync))) (core_op_of now.view (pageless_op sync.control)) found new → next.control ≡ pageless_after sync.control found
    → pageless.IsUnderWay next start new → IsOfFile fds fd sync start now → IsOfFile fds fd next start new
steps_of fds fd sync next start now new found runs same is next_is way of =
    record { file = of.file; file_is = of.file_is; running = runs_on of.file sync next start now new found runs same is next_is way of.running }

-- ---- the end

ended_by : (file : ℕ) (result : Result ℕ Refusal) (start now : PassState) → pageless.IsInCall (AsksSync file) (Over result) start now → (pass_of now.view).asked ≡ Sync file → IsSyncRun (Some file) start now (answer_of 0 result)
    → IsSyncEnded (Some file) start now (answer_of 0 result)
ended_by file (Ok place) start now way asks run =
    let over = over_asked (Sync file) None (Some place) start now (Sync file) (call_over (Sync file) (Sync file) _ None (Some place) start now refl way refl refl) asks in
    record {
      idle = over.idle;
      later = over.later;
      spare = over.spare;
      told = ((subst (λ (reply : Reply). IsPlacedAs start.view now.view (Sync file) reply place) over.told.1 over.told.2, λ files. refl), refl);
      sync_run = run;
    }
ended_by file (Err refusal) start now way asks run =
    let over = over_asked (Sync file) (Some refusal) None start now (Sync file) (call_over (Sync file) (Sync file) _ (Some refusal) None start now refl way refl refl) asks in
    record { idle = over.idle; later = over.later; spare = over.spare; told = over.told; sync_run = run }

ended : (file : ℕ) (sync : PagelessMachine) (result : Result ℕ Refusal) (start now : PassState) → sync.control ≡ Over result → IsRunning file sync start now → IsSyncEnded (Some file) start now (answer_of 0 result)
ended file sync result start now is running =
    ended_by file result start now (subst (λ c. pageless.IsInCall (AsksSync file) c start now) is (subst (λ asked. pageless.IsInCall asked sync.control start now) running.asked running.way.1))
    (subst (λ control. asked_at (Sync file) (pageless.has_begun control) now ≡ Sync file) is running.asks)
    (subst (λ (c : PagelessControl). SyncSteps file c start now) is running.steps)

pub ended_of : (fds : List Fd) (fd : ℕ) (sync : PagelessMachine) (result : Result ℕ Refusal) (start now : PassState) → sync.control ≡ Over result → IsOfFile fds fd sync start now
    → IsSyncEnded (file_of_fd fds fd) start now (answer_of 0 result)
ended_of fds fd sync result start now is of = subst (λ (file : Option ℕ). IsSyncEnded file start now (answer_of 0 result)) (sym of.file_is) (ended of.file sync result start now is of.running)

-- ---- an advance

-- its pass has made one step
pub one_step : (m : SyncMachine) (sync next : PagelessMachine) (start old new : PassState) (found : ℕ) → sync.control ≡ at_step m.control → pageless.IsOpen sync.control → pageless.IsUnderWay sync start old
    → Postcondition old (begun_as (call_asked sync.asked) (opened_by (pageless_opens sync))) (core_op_of old.view (pageless_op sync.control)) found new → next.control ≡ pageless_after sync.control found
    → IsOneStep (standing m) (standing (record m { control = syncs.Running next })) old new
one_step m sync next start old new found stands runs way is next_is =
    let one = pageless_tells (λ refusal. None) record { none = refl; busy = λ cell. refl; stopped = refl; spent = λ found. refl } sync next start old new found runs way is next_is in
    record {
      step = one.step;
      is = one.taken;
      kind = λ well. one.kind well ∙ ap (λ c. kind_of (pageless_op c)) stands;
      fault = one.fault;
      place = one.placed ∙ ap (λ c. either_of (pageless_place_at c) (place_by one.step.op one.step.found)) stands;
    }

answered : (result : Result ℕ Refusal) → done_at 0 (pageless_place_at (Over result)) ≡ done_of (answer_of 0 result)
answered (Ok place) = refl
answered (Err refusal) = refl

goes_at : (fds : List Fd) (m : SyncMachine) (next : PagelessMachine) (start new : PassState) (control : PagelessControl) → next.control ≡ control → IsOfFile fds m.fd next start new
    → SyncGoes fds start (record m { control = syncs.Running next }) new (progress_at control)
goes_at fds m next start new (Over result) is of = (
  ap (λ c. done_at 0 (pageless_place_at c)) is ∙ answered result,
  ended_of fds m.fd next result start new is of,
)
goes_at fds m next start new controls.Begin is of = (subst pageless.IsOpen (sym is) tt, of)
goes_at fds m next start new controls.LoadOrder is of = (subst pageless.IsOpen (sym is) tt, of)
goes_at fds m next start new controls.TakePlace is of = (subst pageless.IsOpen (sym is) tt, of)

pub goes_on : (fds : List Fd) (m : SyncMachine) (next : PagelessMachine) (start new : PassState) → IsOfFile fds m.fd next start new
    → SyncGoes fds start (record m { control = syncs.Running next }) new (progress_at next.control)
goes_on fds m next start new of = goes_at fds m next start new next.control refl of
