-- Runs: both rounds of a load, and what is told of them.
use Rattle.std.proofs.Common.{◌≡◌, ℕ, ◌^◌, ◌<◌, List, [], ◌++◌, length, map, inl, inr, refl, sym, ap, subst, ◌∙◌, arith, append-nil, length-append}
use Rattle.std.specs.Prelude.{IsErr, IsPermutation, OnOk, Option, Result, Ok, Err}
use Rattle.std.specs.Global.{Global}
use Rattle.std.proofs.lemmas.List.{map-append}
use Rattle.std.proofs.lemmas.List.Sorted.{IsPermutation-append, IsPermutation-append_comm, IsPermutation-trans}
use Rattle.nv_table.specs.state.States.{PassState}
use Rattle.nv_mount.specs.declared.fds.Fd.{Fd}
use Rattle.nv_trace.specs.declared.trace_call.TracedCall.{TracedCall}
use Rattle.nv_runner.specs.EndedRuns.{HasOutcome, IsOutcomeOf}
use Rattle.nv_runner.specs.Histories.{placed_calls}
use Rattle.nv_runner.specs.Lists.{MadeCall, calls_made}
use Rattle.nv_runner.specs.Rounds.{HasRunRound}
use Rattle.nv_runner.specs.Shifts.{HasRun}
use Rattle.nv_runner.specs.Sorted.{placed_call}
use Rattle.nv_runner.specs.declared.plan.Plan.{Plan}
use Rattle.nv_runner.specs.declared.run_error.RunError.{RunError}
use Rattle.nv_runner.specs.declared.sorted.SortedCalls.{SortedCalls}
use Rattle.nv_runner.proofs.histories.HistoryMembers.{one_either, one_left, one_right}
use Rattle.nv_load.specs.Counts.{counts_of, counts_of_placed}
use Rattle.nv_load.specs.Generated.{first_round, generated_calls, second_round}
use Rattle.nv_load.specs.LoadRuns.{HasCountedRound, HaveCountedBoth, IsCountOf, if_ok}
use Rattle.nv_load.specs.declared.counts.Counts.{Counts}
use Rattle.nv_load.specs.declared.load.Load.{Load}
use Rattle.nv_load.proofs.CountLaws.{calls_joined, counts_moved}
use Rattle.nv_load.proofs.SortLaws.{sorted_out}

-- what was ended says nothing of its end
never_ok : {T E : Type 0} (A : Type 0) (result : Result T E) → IsErr result → OnOk result A
never_ok A (Ok done) ended = absurd (cc)
never_ok A (Err error) ended = tt

-- none of a round was made
pub none_made : {E : Type 0} (fds : List Fd) (worker : Option ℕ) (calls : List TracedCall) (before : List MadeCall) (zero : PassState) (counts : Counts) (result : Result (Unit {0}) E) → IsErr result → HasRun fds worker before zero
    → HasCountedRound fds worker calls before zero counts counts result
none_made fds worker calls before zero counts result ended run = record {
  made = [];
  ran = record { run = run; within = λ m there. absurd there; few = omega arith };
  all = never_ok _ result ended;
  counted = λ earlier is. is ∙ ap counts_of (sym (append-nil earlier));
}

module _ {E : Type 0} (fds : List Fd) (worker : Option ℕ) (load : Load) (middle zero : PassState) where
  -- the first round was ended
  pub first_only : (old new : Counts) (first_result result : Result (Unit {0}) E) → IsErr result → HasCountedRound fds worker first_round [] zero old new first_result → old ≡ counts_of [] → HaveCountedBoth fds worker load zero new result
  first_only old new first_result result ended first none = record {
    made = first.made;
    run = subst (λ l. HasRun fds worker l zero) (append-nil first.made) first.ran.run;
    within = λ m there. one_left first_round (second_round load) m.call (first.ran.within m there);
    few = (let few = first.ran.few in omega (arith, few, length-append first_round (second_round load)));
    all = never_ok _ result ended;
    counted = first.counted [] none;
  }

  all_of : (first second : List MadeCall) (result : Result (Unit {0}) E) → IsPermutation (calls_made first) first_round → OnOk result (IsPermutation (calls_made second) (second_round load))
      → OnOk result (IsPermutation (calls_made (second ++ first)) (generated_calls load))
  all_of first second (Err error) ones others = tt
  all_of first second (Ok done) ones others =
      subst (λ l. IsPermutation l (generated_calls load)) (sym (map-append (λ (m : MadeCall). m.call) second first))
      (IsPermutation-trans (calls_made second ++ calls_made first) (second_round load ++ first_round) (generated_calls load)
      (IsPermutation-append (calls_made second) (second_round load) (calls_made first) first_round others ones) (IsPermutation-append_comm (second_round load) first_round))

  -- so was the second, behind it
  pub both_made : (old mid new : Counts) (result : Result (Unit {0}) E) (first : List MadeCall) → IsPermutation (calls_made first) first_round → HasRunRound fds worker first_round [] first middle → mid ≡ counts_of first
      → HasCountedRound fds worker (second_round load) first zero mid new result → HaveCountedBoth fds worker load zero new result
  both_made old mid new result first ones ran counted second = record {
    made = second.made ++ first;
    run = second.ran.run;
    within = λ m there. elim (one_either second.made first m there) [
      | inl later ↦ one_right first_round (second_round load) m.call (second.ran.within m later)
      | inr earlier ↦ one_left first_round (second_round load) m.call (ran.within m earlier)
    ];
    few =
        (let few = ran.few in let more = second.ran.few in omega (arith, few, more, length-append first_round (second_round load), length-append second.made first));
    all = all_of first second.made result ones second.all;
    counted = second.counted first counted ∙ ap counts_of_placed (calls_joined first second.made)
        ∙ counts_moved (placed_calls first ++ placed_calls second.made) (placed_calls second.made ++ placed_calls first) (IsPermutation-append_comm (placed_calls first) (placed_calls second.made))
        ∙ ap counts_of_placed (sym (calls_joined second.made first));
  }

-- what is told is what was counted of the calls, sorted out
pub told_so : Global → (fds : List Fd) (plan : Plan) (calls : List TracedCall) (made : List MadeCall) (start zero : PassState) (counts : Counts) (ended : Result (Unit {0}) RunError) → length made < 2 ^ 63 → counts ≡ counts_of made
    → ((outcome : Result SortedCalls RunError) → IsOutcomeOf ended made outcome → HasOutcome fds plan calls start outcome zero)
    → (outcome : Result SortedCalls RunError) × HasOutcome fds plan calls start outcome zero × IsCountOf (if_ok ended counts) outcome
told_so alloc fds plan calls made start zero counts (Ok done) few is has =
    let sorted = sorted_out alloc made few in
    (Ok sorted.0, has (Ok sorted.0) sorted.1, is ∙ counts_moved (placed_calls made) (map placed_call sorted.0.placed.items) sorted.1.placed)
told_so alloc fds plan calls made start zero counts (Err error) few is has = (Err error, has (Err error) refl, refl)
