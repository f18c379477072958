-- Faults: how the device calls of a commit end, and what is told of them then.
use Rattle.std.proofs.Common.{◌≡◌, ◌⊎◌, ℕ, ◌+◌, ◌==◌, Bool, true, false, if◌then◌else◌, List, [], ◌∷◌, length, inl, inr, refl, sym, ap, ap₂, subst, ◌∙◌}
use Rattle.std.specs.Prelude.{Option, Some, None}
use Rattle.nv_core.specs.state.Words.{Sizes}
use Rattle.nv_core.specs.state.Values.{Value, Bare, APart, AStore, ABuffer, PartStep, CallEnding, Made, Failed, Refused}
use Rattle.nv_core.specs.state.Spares.{Spares}
use Rattle.nv_pmem.specs.Steps.{LineStep}
use Rattle.nv_core.specs.state.Passes.{Control, Pass, CommitGroup, PledgePage, SetStopAfterCommit, first_page}
use Rattle.nv_core.specs.state.Core.{control_worked, worked, values_worked}
use Rattle.nv_core.specs.steps.Order.{Values, Work, CallDue, CallMayEnd, CallMayLeave, IsNextCall, commit_steps}
use Rattle.nv_table.specs.steps.SeatSteps.{AreDue, pass_worked}
use Rattle.nv_mirror.specs.declared.answers.Refusal.{Refusal}
use Rattle.nv_mirror.specs.declared.answers.Refusal.TheVariants.{RegionFault}
use Rattle.nv_mirror.specs.PassSteps.{fault_in, fault_at, fault_by, either_of}

-- STOP isn't due after a commit
abbrev IsNoStop : Control → Type 0
IsNoStop SetStopAfterCommit = ⊥
IsNoStop control = Unit {0}

-- One of them, that of an entry's part, has failed, and STOP is due; or none has, and it isn't.
abbrev Ends : Control → (fault : Option Refusal) → Type 0
Ends control fault = ((control ≡ SetStopAfterCommit) × (fault ≡ Some RegionFault)) ⊎ (IsNoStop control × (fault ≡ None))

-- a part refuses no step
refuses_none : (value : Value) (step : LineStep) (spares : Spares) → CallMayEnd value Refused → CallMayLeave value (PartStep step spares) Refused → ⊥
refuses_none Bare step spares ends leaves = ends
refuses_none (APart device before) step spares ends leaves = ends
refuses_none (AStore device) step spares ends leaves = leaves
refuses_none (ABuffer buffer) step spares ends leaves = ends

module _ (sizes : Sizes) where
  -- no call is due where a page is pledged next, or STOP set
  pledging : (works : List Work) (values : Values) (pass : Pass) (page : ℕ) → pass.control ≡ PledgePage page → AreDue sizes values pass works → Ends (pass_worked sizes works pass).control (fault_in works)
  pledging [] values pass page at due = inr (subst IsNoStop (sym at) tt, refl)
  pledging (work ∷ later) values pass page at due = absurd (subst (CallDue sizes values pass work) at due.0.due)

  stopping : (works : List Work) (values : Values) (pass : Pass) → pass.control ≡ SetStopAfterCommit → AreDue sizes values pass works → works ≡ []
  stopping [] values pass at due = refl
  stopping (work ∷ later) values pass at due = absurd (subst (CallDue sizes values pass work) at due.0.due)

  module _ (work : Work) (later : List Work) (values : Values) (pass : Pass) (calls : ℕ) (at : pass.control ≡ CommitGroup calls) (due : AreDue sizes values pass (work ∷ later))
      (again : (calls : ℕ) → (worked sizes work pass).control ≡ CommitGroup calls → Ends (pass_worked sizes later (worked sizes work pass)).control (fault_in later)) where
    next : IsNextCall sizes pass calls work
    next = subst (CallDue sizes values pass work) at due.0.due

    abbrev Then : CallEnding → Type 0
    Then ending = Ends (pass_worked sizes later (worked sizes work pass)).control (either_of (fault_by work.cell ending) (fault_in later))

    made : (b : Bool) → (worked sizes work pass).control ≡ (if b then PledgePage (first_page sizes pass.call) else CommitGroup (calls + 1)) → Then Made
    made true there = pledging later (values_worked pass work values) (worked sizes work pass) (first_page sizes pass.call) there due.1
    made false there = again (calls + 1) there

    failed : (came : Bool) (faults : ℕ) → (worked sizes work pass).control ≡ SetStopAfterCommit → Then (Failed came faults)
    failed came faults there =
        let none = stopping later (values_worked pass work values) (worked sizes work pass) there due.1 in
        inl (
          ap (λ works. (pass_worked sizes works (worked sizes work pass)).control) none ∙ there,
          ap₂ (λ cell works. either_of (fault_at cell) (fault_in works)) next.cell none,
        )

    by_ending : (ending : CallEnding) → work.ending ≡ ending → Then ending
    by_ending Made is = made (calls + 1 == length (commit_steps sizes pass pass.call)) (ap₂ (λ ending control. control_worked sizes pass ending control) is at)
    by_ending (Failed came faults) is = failed came faults (ap₂ (λ ending control. control_worked sizes pass ending control) is at)
    by_ending Refused is =
        absurd (refuses_none (values work.cell) next.row.step next.spares (subst (CallMayEnd (values work.cell)) is due.0.ends)
        (subst (λ job. CallMayLeave (values work.cell) job Refused) next.job (subst (CallMayLeave (values work.cell) work.job) is due.0.leaves)))

  ends : (works : List Work) (values : Values) (pass : Pass) (calls : ℕ) → pass.control ≡ CommitGroup calls → AreDue sizes values pass works → Ends (pass_worked sizes works pass).control (fault_in works)
  ends [] values pass calls at due = inr (subst IsNoStop (sym at) tt, refl)
  ends (work ∷ later) values pass calls at due =
      by_ending work later values pass calls at due (λ more there. ends later (values_worked pass work values) (worked sizes work pass) more there due.1) work.ending refl

  module _ (works : List Work) (values : Values) (pass : Pass) (calls : ℕ) (at : pass.control ≡ CommitGroup calls) (due : AreDue sizes values pass works) where
    -- where STOP is due a part has failed
    pub stop_tells : (pass_worked sizes works pass).control ≡ SetStopAfterCommit → fault_in works ≡ Some RegionFault
    stop_tells stops = elim (ends works values pass calls at due) [ inl fault ↦ fault.1 | inr none ↦ absurd (subst IsNoStop stops none.0) ]

    -- and none where a page is pledged next
    pub pledge_tells : (page : ℕ) → (pass_worked sizes works pass).control ≡ PledgePage page → fault_in works ≡ None
    pledge_tells page pledges = elim (ends works values pass calls at due) [ inl fault ↦ absurd (apart (sym pledges ∙ fault.0)) | inr none ↦ none.1 ]
      where
        apart : PledgePage page ≡ SetStopAfterCommit → ⊥
        apart e = cc

    -- and the other way
    pub fault_stops : fault_in works ≡ Some RegionFault → (pass_worked sizes works pass).control ≡ SetStopAfterCommit
    fault_stops fails = elim (ends works values pass calls at due) [ inl fault ↦ fault.0 | inr none ↦ absurd (clash (sym none.1 ∙ fails)) ]
      where
        clash : {T : Type 0} {one : T} → None ≡ Some one → ⊥
        clash e = cc
