-- Faults that calls are refused for: they are of the devices whose counts rose.
use Rattle.std.proofs.Common.{◌≡◌, ℕ, ◌+◌, ◌-◌, ◌^◌, ◌≤◌, Bool, true, false, List, [], ◌∷◌, ◌++◌, get_or, map, inl, inr, refl, sym, ap, subst, ◌∙◌, arith, le_trans}
use Rattle.std.specs.Prelude.{Option, Some, None, MatchOption, ⊤, min}
use Rattle.std.proofs.lemmas.Bool.{true≢false}
use Rattle.nv_plain.specs.Faults.{Rose}
use Rattle.nv_core.specs.state.Words.{Sizes, Word, ENTRY, STORE, IsWord}
use Rattle.nv_core.specs.state.Values.{Value, Bare, CallEnding, Made, Failed, Refused, called, faults_of}
use Rattle.nv_core.specs.state.Passes.{IsOneOf, Pass}
use Rattle.nv_core.specs.state.Core.{Core, after_begin, values_stepped, values_worked}
use Rattle.nv_core.specs.steps.Ops.{Op}
use Rattle.nv_core.specs.steps.Order.{CallEnabled, CallMayEnd, Values, Work}
use Rattle.nv_core.specs.steps.Events.{Act, ActEnabled, BeginsCall, CallsDevice, Event, IsRun, TakesStep, after_act, after_event, after_run}
use Rattle.nv_core.specs.steps.Opening.{IsMount, opening}
use Rattle.nv_core.specs.invariant.InvariantLaws.{RunsAreSound}
use Rattle.nv_core.specs.invariant.OneHistory.{IsPrefix}
use Rattle.nv_core.specs.invariant.Sound.{Sound}
use Rattle.nv_core.proofs.state.Changes.{word_here}
use Rattle.nv_core.proofs.state.ValueLaws.{faults_robbed, faults_rose, faults_steady, faults_worked, steady_stepped, steady_worked}
use Rattle.nv_core.proofs.state.WorkWords.{worked_word}
use Rattle.nv_core.proofs.steps.RunLaws.{after_parts, run_parts}
use Rattle.nv_table.specs.state.Opened.{IsRunOf, Opened, mount_of, state_of}
use Rattle.nv_table.specs.state.States.{PassState}
use Rattle.nv_table.proofs.state.LayoutLaws.{cell_there}
use Rattle.nv_mount.specs.WholeRuns.{IsWholeRun}
use Rattle.nv_mirror.specs.PassSteps.{fault_at, fault_by, is_fault}
use Rattle.nv_mirror.specs.declared.answers.Refusal.{Refusal}
use Rattle.nv_mirror.specs.declared.answers.Refusal.TheVariants.{BadFd, TooFar, TooLong, Busy, Stopped, Spent, Again, Raced, RegionFault, StoreFault}
use Rattle.nv_trace.specs.declared.trace_call.TracedCall.{TracedCall}
use Rattle.nv_runner.specs.EndedRuns.{IsRefusedSo, batch_of}
use Rattle.nv_runner.specs.FailedDevices.{FaultsAreOfTheirDevices, HasFailedFor, PartHasFailed, StoreHasFailed}
use Rattle.nv_runner.specs.Refusals.{IsCause, MetFault, early_of_call}
use Rattle.nv_runner.specs.Sorted.{RefusedCall, refused_call}
use Rattle.nv_runner.proofs.CauseLaws.{early_such}
use Rattle.nv_runner.proofs.FaithfulLaws.{refused_there}
use Rattle.nv_runner.proofs.histories.HistoryMembers.{of_each, one_left}

-- ---- counts

rose_on : (before was now : ℕ) → Rose before was → was ≤ now → Rose before now
rose_on before was now rose up = record { never_falls = le_trans rose.never_falls up; more = le_trans rose.more up }

rose_from : (before was now : ℕ) → before ≤ was → Rose was now → Rose before now
rose_from before was now low rose = record { never_falls = le_trans low rose.never_falls; more = le_trans (least before was low (2 ^ 64 - 1)) rose.more }
  where
    least : (before was : ℕ) → before ≤ was → (most : ℕ) → min (before + 1) most ≤ min (was + 1) most
    least before was low most = omega arith

step_up : (sizes : Sizes) (pass : Pass) (op : Op) (values : Values) (cell : Word) → faults_of (values cell) ≤ faults_of (values_stepped sizes pass op values cell)
step_up sizes pass op values cell = let same = steady_stepped faults_of faults_steady faults_robbed sizes pass op values cell in omega (arith, same)

-- no event lowers the count of a device
act_up : (sizes : Sizes) (by : ℕ) (core : Core) (act : Act) → ActEnabled sizes by core act → (cell : Word) → faults_of (core.values cell) ≤ faults_of ((after_act sizes by act core).values cell)
act_up sizes by core (BeginsCall call op found) may cell = step_up sizes ((after_begin sizes by call core).passes by) op core.values cell
act_up sizes by core (TakesStep op found) may cell = step_up sizes (core.passes by) op core.values cell
act_up sizes by core (CallsDevice work) may cell = faults_worked (core.passes by) work core.values may.ends cell

run_up : (sizes : Sizes) (core : Core) (run : List Event) → IsRun sizes core run → (cell : Word) → faults_of (core.values cell) ≤ faults_of ((after_run sizes core run).values cell)
run_up sizes core [] is cell = omega arith
run_up sizes core (event ∷ later) is cell = le_trans (act_up sizes event.by core event.act is.0.act cell) (run_up sizes (after_event sizes event core) later is.1 cell)

-- one that ends by a fault raises that of its device
failed_call : (sizes : Sizes) (by : ℕ) (core : Core) (work : Work) (came : Bool) (faults : ℕ) → work.ending ≡ Failed came faults → CallEnabled sizes core.values (core.passes by) work
    → Rose (faults_of (core.values work.cell)) (faults_of (values_worked (core.passes by) work core.values work.cell))
failed_call sizes by core work came faults how may =
    let here = subst (λ (e : CallEnding). Rose (faults_of (core.values work.cell)) (faults_of (called work.job e (core.values work.cell)))) (sym how)
    (faults_rose work.job came faults (core.values work.cell) (subst (CallMayEnd (core.values work.cell)) how may.ends)) in
    let is : faults_of (values_worked (core.passes by) work core.values work.cell) ≡ faults_of (called work.job work.ending (core.values work.cell)) =
    steady_worked faults_of faults_steady (core.passes by) work core.values work.cell ∙ ap faults_of (word_here core.values work.cell (called work.job work.ending (core.values work.cell))) in
    subst (Rose (faults_of (core.values work.cell))) (sym is) here

-- ---- a call of a run

split_at : (run : List Event) (event : Event) → IsOneOf run event → (front : List Event) × (back : List Event) × (run ≡ front ++ event ∷ back)
split_at [] event one = absurd one
split_at (first ∷ later) event (inl same) = ([], later, ap (λ (e : Event). e ∷ later) (sym same))
split_at (first ∷ later) event (inr there) = let rest = split_at later event there in (first ∷ rest.0, rest.1, ap (λ (l : List Event). first ∷ l) rest.2)

-- the device of a call that failed: its count rose, from the opening to the end of the run
module _ (sound : RunsAreSound) (opened : Opened) (mount : IsMount (mount_of opened)) (run : List Event) (is_run : IsRunOf opened run) (by : ℕ) (work : Work) (one : IsOneOf run (record { by = by; act = CallsDevice work })) where
  abbrev event : Event
  event = record { by = by; act = CallsDevice work }

  parts : (front : List Event) × (back : List Event) × (run ≡ front ++ event ∷ back)
  parts = split_at run event one

  abbrev front : List Event
  front = parts.0

  abbrev core : Core
  core = state_of opened front

  both_runs : IsRun opened.sizes (opening (mount_of opened)) front × IsRun opened.sizes core (event ∷ parts.1)
  both_runs = run_parts opened.sizes (opening (mount_of opened)) front (event ∷ parts.1) (subst (IsRunOf opened) parts.2 is_run)

  is_sound : Sound opened.sizes (mount_of opened).values core
  is_sound = sound (mount_of opened) front mount both_runs.0

  may : CallEnabled opened.sizes core.values (core.passes by) work
  may = both_runs.1.0.act

  pub on_word : IsWord opened.sizes work.cell
  on_word = worked_word opened.sizes (mount_of opened).values by core work is_sound may

  pub count_rose : (came : Bool) (faults : ℕ) → work.ending ≡ Failed came faults → Rose (faults_of ((mount_of opened).values work.cell)) (faults_of ((state_of opened run).values work.cell))
  count_rose came faults how =
      let at_end : (state_of opened run).values work.cell ≡ (after_run opened.sizes (after_event opened.sizes event core) parts.1).values work.cell =
      ap (λ r. (state_of opened r).values work.cell) parts.2 ∙ ap (λ (c : Core). c.values work.cell) (after_parts opened.sizes (opening (mount_of opened)) front (event ∷ parts.1)) in
      let up = run_up opened.sizes (after_event opened.sizes event core) parts.1 both_runs.1.1 work.cell in
      subst (λ v. Rose (faults_of ((mount_of opened).values work.cell)) (faults_of v)) (sym at_end)
      (rose_from _ _ _ (is_sound.stop.never_fell work.cell) (rose_on _ _ _ (failed_call opened.sizes by core work came faults how may) up))

-- ---- which device it is

ended_so : (cell : Word) (ending : CallEnding) (fault : Refusal) → fault_by cell ending ≡ Some fault → (came : Bool) × (faults : ℕ) × (ending ≡ Failed came faults) × (fault_at cell ≡ Some fault)
ended_so cell (Failed came faults) fault is = (came, faults, refl, is)
ended_so cell Made fault is = absurd (cc)
ended_so cell Refused fault is = absurd (cc)

entry_of_fault : (cell : Word) → fault_at cell ≡ Some RegionFault → (slot : ℕ) × (cell ≡ ENTRY slot)
entry_of_fault (ENTRY slot) is = (slot, refl)
entry_of_fault (STORE file) is = absurd (cc)
entry_of_fault cell is = absurd (cc)

store_of_fault : (cell : Word) → fault_at cell ≡ Some StoreFault → (file : ℕ) × (cell ≡ STORE file)
store_of_fault (STORE file) is = (file, refl)
store_of_fault (ENTRY slot) is = absurd (cc)
store_of_fault cell is = absurd (cc)

module _ (sound : RunsAreSound) (zero now : PassState) (mount : IsMount (mount_of zero.view.opened)) (part_values store_values : List Value) (placed tail : ℕ) (whole : IsWholeRun zero.view part_values store_values placed tail)
    (behind : IsPrefix now.view.run zero.view.run) where
  abbrev opened_then : Opened
  opened_then = zero.view.opened

  there : (fault : Refusal) (met : MetFault now fault) → IsOneOf zero.view.run (record { by = now.view.number; act = CallsDevice met.work })
  there fault met = subst (λ r. IsOneOf r (record { by = now.view.number; act = CallsDevice met.work })) (sym behind.1) (one_left now.view.run behind.0 _ met.made)

  word_rose : (fault : Refusal) (met : MetFault now fault) → IsWord opened_then.sizes met.work.cell × Rose (faults_of ((mount_of opened_then).values met.work.cell)) (faults_of ((state_of opened_then zero.view.run).values met.work.cell))
  word_rose fault met =
      let how = ended_so met.work.cell met.work.ending fault met.failed in (
        on_word sound opened_then mount zero.view.run whole.is_run now.view.number met.work (there fault met),
        count_rose sound opened_then mount zero.view.run whole.is_run now.view.number met.work (there fault met) how.0 how.1 how.2,
      )

  pub part_failed : MetFault now RegionFault → PartHasFailed opened_then part_values
  part_failed met =
      let how = ended_so met.work.cell met.work.ending RegionFault met.failed in
      let entry = entry_of_fault met.work.cell how.3 in
      let is = word_rose RegionFault met in
      let Risen : Word → Type 0 = λ cell. IsWord opened_then.sizes cell × Rose (faults_of ((mount_of opened_then).values cell)) (faults_of ((state_of opened_then zero.view.run).values cell)) in
      let here = subst Risen entry.1 is in
      let low = here.0 in
      let shown : get_or part_values (1 + entry.0) Bare ≡ (state_of opened_then zero.view.run).values (ENTRY entry.0) =
      whole.parts_show (1 + entry.0) (omega (arith, low)) ∙ ap (state_of opened_then zero.view.run).values (cell_there opened_then.sizes (ENTRY entry.0) (1 + entry.0) low refl).1 in record {
        slot = 1 + entry.0;
        there = omega (arith, low);
        rose = subst (λ v. Rose (faults_of (get_or opened_then.slots (1 + entry.0) Bare)) (faults_of v)) (sym shown) here.1;
      }

  pub store_failed : MetFault now StoreFault → StoreHasFailed opened_then store_values
  store_failed met =
      let how = ended_so met.work.cell met.work.ending StoreFault met.failed in
      let store = store_of_fault met.work.cell how.3 in
      let is = word_rose StoreFault met in
      let Risen : Word → Type 0 = λ cell. IsWord opened_then.sizes cell × Rose (faults_of ((mount_of opened_then).values cell)) (faults_of ((state_of opened_then zero.view.run).values cell)) in
      let here = subst Risen store.1 is in
      let low = here.0 in record {
        file = store.0;
        there = low;
        rose = subst (λ v. Rose (faults_of (get_or opened_then.slots (1 + opened_then.sizes.entries + store.0) Bare)) (faults_of v)) (sym (whole.stores_show store.0 low)) here.1;
      }

-- ---- a refused call

-- a device's fault bars no call
never_early : (early : Option Refusal) (Cause : Type 0) (fault : Refusal) → is_fault (Some fault) ≡ true → MatchOption early ⊤ (λ refusal. is_fault (Some refusal) ≡ false) → MatchOption early Cause (λ bar. fault ≡ bar) → Cause
never_early None Cause fault is free cause = cause
never_early (Some bar) Cause fault is free cause = absurd (true≢false (sym is ∙ ap (λ (r : Refusal). is_fault (Some r)) cause ∙ free))

pub faults_are_of_their_devices : RunsAreSound → FaultsAreOfTheirDevices
faults_are_of_their_devices sound fds plan calls start zero sorted part_values store_values part_row store_row faults placed tail mount out closed =
    let refused : List RefusedCall = map refused_call sorted.refused.items in
    of_each (λ (r : RefusedCall). HasFailedFor zero.view.opened part_values store_values r.refusal) refused (λ r one. by r.refusal r.call (out.causes r.call r.refusal (refused_there out.made sorted out.sorted.0 r one)))
  where
    by : (refusal : Refusal) (call : TracedCall) → IsRefusedSo fds (batch_of plan) out.made zero call refusal → HasFailedFor zero.view.opened part_values store_values refusal
    by RegionFault call told =
        let cause = never_early (early_of_call told.now.view.opened.sizes fds call.call) (IsCause told.now.view.opened.sizes (batch_of plan) call.call told.now RegionFault) RegionFault refl
        (early_such (λ refusal. is_fault (Some refusal) ≡ false) refl refl refl told.now.view.opened.sizes fds call.call) told.cause in
        part_failed sound zero told.now mount part_values store_values placed tail closed.whole told.behind cause.2
    by StoreFault call told =
        let cause = never_early (early_of_call told.now.view.opened.sizes fds call.call) (IsCause told.now.view.opened.sizes (batch_of plan) call.call told.now StoreFault) StoreFault refl
        (early_such (λ refusal. is_fault (Some refusal) ≡ false) refl refl refl told.now.view.opened.sizes fds call.call) told.cause in
        store_failed sound zero told.now mount part_values store_values placed tail closed.whole told.behind cause.2
    by BadFd call told = tt
    by TooFar call told = tt
    by TooLong call told = tt
    by (Busy cell) call told = tt
    by Stopped call told = tt
    by (Spent found) call told = tt
    by (Again head tail) call told = tt
    by (Raced seen found) call told = tt
