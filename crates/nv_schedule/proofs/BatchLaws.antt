-- Batches: a new one begins where its pass is idle; one goes on, or is over.
use Rattle.std.proofs.Common.{◌≡◌, ℕ, [], ◌∷◌, refl, sym, subst}
use Rattle.std.specs.Prelude.{Some, None, Result}
use Rattle.nv_core.specs.steps.CleanerSteps.{new_batch}
use Rattle.nv_table.specs.invariant.Idle.{IsIdle}
use Rattle.nv_table.specs.state.States.{PassState}
use Rattle.nv_clean.proofs.BatchLaws.{batch_begins}
use Rattle.nv_clean.specs.Answers.{BatchGoes, HasEnded, IsBatchUnderWay}
use Rattle.nv_clean.specs.Cleaning.{CleanState, IsOpen}
use Rattle.nv_clean.specs.declared.batch.CleanControl.TheVariants as cleans
use Rattle.nv_clean.specs.declared.batch.CleanRefusal.{CleanRefusal}
use Rattle.nv_clean.specs.declared.clean.CleanProgress.TheVariants.{More, Ended}
use Rattle.nv_clean.specs.declared.clean.Cleaned.{Cleaned}
use Rattle.nv_schedule.specs.Callers.{CleanerHasCome, IsAtBatch}

abbrev pub new_machine : (most : ℕ) → CleanState
new_machine most = record { batch = new_batch most; owned = []; control = cleans.Begin; refusal = None }

pub fresh_batch : (most : ℕ) (start : PassState) → IsIdle start → IsBatchUnderWay most (new_machine most) start start
fresh_batch most start idle = record {
  way = record { called = batch_begins start idle; apart = tt; fresh = λ at. (refl, refl, refl, refl) };
  told = record { steps = []; made = refl; own = tt; begun = (refl, refl); refused = refl; stops = refl; moved = λ n is. absurd (cc); retired = λ over none. absurd (cc) };
}

pub batch_at : (most : ℕ) (begun now : PassState) (machine : CleanState) → machine ≡ new_machine most → IsAtBatch most None begun now → IsAtBatch most (Some machine) begun now
batch_at most begun now machine is at =
    subst (λ (m : CleanState). IsOpen m.control × IsBatchUnderWay most m begun now) (sym is)
    (tt, subst (λ (p : PassState). IsBatchUnderWay most (new_machine most) p now) at.0 (fresh_batch most now at.1))

-- the next one is taken up
pub batch_taken_up : (most : ℕ) (start now : PassState) (machine : CleanState) → machine ≡ new_machine most
    → CleanerHasCome (record { most = most; machine = None }) start now → CleanerHasCome (record { most = most; machine = Some machine }) start now
batch_taken_up most start now machine is come = record {
  results = come.results;
  last = come.last;
  batches = come.batches;
  at = subst (λ (m : CleanState). IsOpen m.control × IsBatchUnderWay most m come.last now) (sym is)
      (tt, subst (λ (p : PassState). IsBatchUnderWay most (new_machine most) p now) come.at.0 (fresh_batch most now come.at.1));
}

-- it goes on
pub batch_more : (most : ℕ) (old new : CleanState) (start pass now : PassState) → CleanerHasCome (record { most = most; machine = Some old }) start pass
    → ((most : ℕ) (begun : PassState) → IsBatchUnderWay most old begun pass → BatchGoes most begun new now More) → CleanerHasCome (record { most = most; machine = Some new }) start now
batch_more most old new start pass now come goes = record { results = come.results; last = come.last; batches = come.batches; at = goes most come.last come.at.1 }

-- it is over
pub batch_over : (most : ℕ) (old new : CleanState) (start pass now : PassState) (result : Result Cleaned CleanRefusal) → CleanerHasCome (record { most = most; machine = Some old }) start pass
    → ((most : ℕ) (begun : PassState) → IsBatchUnderWay most old begun pass → BatchGoes most begun new now (Ended result)) → CleanerHasCome (record { most = most; machine = None }) start now
batch_over most old new start pass now result come goes =
    let ended : HasEnded most come.last now result = goes most come.last come.at.1 in
    record { results = result ∷ come.results; last = now; batches = (come.last, come.batches, ended); at = (refl, ended.idle) }
