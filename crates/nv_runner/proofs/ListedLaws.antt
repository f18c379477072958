-- Listed: the calls of a round, put down behind those before it.
use Rattle.std.proofs.Common.{◌≡◌, ℕ, List, [], ◌++◌, inl, inr, sym, ap, subst, ◌∙◌, arith, append-nil}
use Rattle.std.specs.Prelude.{IfOk, IsErr, IsOk, IsPermutation, Option, Result, Ok, Err, OnOk}
use Rattle.std.specs.List.{flat_map}
use Rattle.std.proofs.lemmas.List.{map-append}
use Rattle.std.proofs.lemmas.List.Sorted.{IsPermutation-append, IsPermutation-append_comm, IsPermutation-map, IsPermutation-refl, IsPermutation-trans, length_permutation}
use Rattle.nv_table.specs.state.States.{PassState}
use Rattle.nv_mount.specs.declared.fds.Fd.{Fd}
use Rattle.nv_trace.specs.declared.trace_call.TracedCall.{TracedCall}
use Rattle.nv_runner.specs.Lists.{MadeCall, calls_made}
use Rattle.nv_runner.specs.Rounds.{AreCallsOf, AreMoreOf, HasRunListed, HasRunRound}
use Rattle.nv_runner.specs.Shifts.{HasRun}
use Rattle.nv_runner.specs.Sorted.{AreSortedOut}
use Rattle.nv_runner.specs.StreamRounds.{HasRunSorted}
use Rattle.nv_runner.specs.declared.sorted.SortedCalls.{SortedCalls}
use Rattle.nv_runner.proofs.histories.HistoryMembers.{one_either, one_moved}

-- in whatever order they are listed, they are those of the same shifts
pub run_moved : (fds : List Fd) (worker : Option ℕ) (made listed : List MadeCall) (zero : PassState) → HasRun fds worker made zero → IsPermutation listed made → HasRun fds worker listed zero
run_moved fds worker made listed zero run moved = record {
  shifts = run.shifts;
  pasts = run.pasts;
  each = run.each;
  in_order = run.in_order;
  listed = IsPermutation-trans listed made (flat_map (λ shift. shift.made) run.shifts) moved run.listed;
}

-- each is of the round or was there before
pub more_listed : (calls : List TracedCall) (made before listed : List MadeCall) → AreCallsOf calls made → IsPermutation listed (made ++ before) → AreMoreOf calls before listed
more_listed calls made before listed within moved m one = elim (one_either made before m (one_moved listed (made ++ before) m moved one)) [
  | inl new ↦ inr (within m new)
  | inr old ↦ inl old
]

-- none of a round was made, and nothing more is listed
pub none_listed : {E : Type 0} (fds : List Fd) (worker : Option ℕ) (calls : List TracedCall) (before : List MadeCall) (zero : PassState) (old new : List MadeCall) (result : Result (Unit {0}) E) → IsErr result → HasRun fds worker before zero → new ≡ old
    → HasRunListed fds worker calls before zero old new result
none_listed fds worker calls before zero old new (Ok done) ended run same = absurd (cc)
none_listed fds worker calls before zero old new (Err error) ended run same = record {
  made = [];
  ran = record { run = run; within = λ m there. absurd there; few = omega arith };
  listed = subst (λ l. IsPermutation l old) (sym same) (IsPermutation-refl old);
  all = tt;
}

-- what went well said more
pub on_ok : {T E A B : Type 0} (result : Result T E) → OnOk result A → (A → B) → OnOk result B
on_ok (Ok done) all more = more all
on_ok (Err error) all more = tt

-- all of the round are there then
pub all_listed : {T E : Type 0} (result : Result T E) (calls : List TracedCall) (made before listed : List MadeCall) → OnOk result (IsPermutation (calls_made made) calls) → IsPermutation listed (made ++ before)
    → OnOk result (IsPermutation (calls_made listed) (calls_made before ++ calls))
all_listed (Err error) calls made before listed all moved = tt
all_listed (Ok done) calls made before listed all moved =
    IsPermutation-trans (calls_made listed) (calls_made (made ++ before)) (calls_made before ++ calls) (IsPermutation-map (λ (m : MadeCall). m.call) listed (made ++ before) moved)
    (subst (λ l. IsPermutation l (calls_made before ++ calls)) (sym (map-append (λ (m : MadeCall). m.call) made before))
    (IsPermutation-trans (calls_made made ++ calls_made before) (calls ++ calls_made before) (calls_made before ++ calls)
    (IsPermutation-append (calls_made made) calls (calls_made before) (calls_made before) all (IsPermutation-refl (calls_made before))) (IsPermutation-append_comm calls (calls_made before))))

-- ---- a round alone

-- those that were listed, where nothing was before
listed_alone : (made old listed : List MadeCall) → old ≡ [] → IsPermutation listed (made ++ old) → IsPermutation listed made
listed_alone made old listed none moved = subst (IsPermutation listed) (ap (λ l. made ++ l) none ∙ append-nil made) moved

round_alone : (fds : List Fd) (worker : Option ℕ) (calls : List TracedCall) (before made listed : List MadeCall) (zero : PassState) → HasRunRound fds worker calls before made zero → IsPermutation listed made → HasRunRound fds worker calls before listed zero
round_alone fds worker calls before made listed zero ran moved = record {
  run = run_moved fds worker (made ++ before) (listed ++ before) zero ran.run (IsPermutation-append listed made before before moved (IsPermutation-refl before));
  within = λ m one. ran.within m (one_moved listed made m moved one);
  few = (let long = length_permutation listed made moved in let few = ran.few in omega (arith, long, few));
}

-- they are sorted out, or there is no memory for it
sorted_if : {E : Type 0} (calls : List TracedCall) (listed : List MadeCall) (result : Result SortedCalls E) → IfOk result (λ sorted. AreSortedOut listed sorted) → IsPermutation (calls_made listed) calls
    → IfOk result (λ sorted. AreSortedOut listed sorted × IsPermutation (calls_made listed) calls)
sorted_if calls listed (Ok sorted) out all = (out, all)
sorted_if calls listed (Err error) out all = tt

pub round_sorted : {E F : Type 0} (fds : List Fd) (worker : Option ℕ) (calls : List TracedCall) (before old listed : List MadeCall) (zero : PassState) (ended : Result (Unit {0}) F) (result : Result SortedCalls E) → IsOk ended → old ≡ []
    → HasRunListed fds worker calls before zero old listed ended → IfOk result (λ sorted. AreSortedOut listed sorted) → HasRunSorted fds worker calls before zero result
round_sorted fds worker calls before old listed zero (Err error) result fine none ran out = absurd (cc)
round_sorted fds worker calls before old listed zero (Ok done) result fine none ran out =
    let moved = listed_alone ran.made old listed none ran.listed in
    record {
      made = listed;
      ran = round_alone fds worker calls before ran.made listed zero ran.ran moved;
      sorted = sorted_if calls listed result out (IsPermutation-trans (calls_made listed) (calls_made ran.made) calls (IsPermutation-map (λ (m : MadeCall). m.call) listed ran.made moved) ran.all);
    }

unsorted : {E : Type 0} (calls : List TracedCall) (made : List MadeCall) (result : Result SortedCalls E) → IsErr result → IfOk result (λ sorted. AreSortedOut made sorted × IsPermutation (calls_made made) calls)
unsorted calls made (Ok sorted) wanting = absurd (cc)
unsorted calls made (Err error) wanting = tt

-- not all of them were made
pub round_unsorted : {E F : Type 0} (fds : List Fd) (worker : Option ℕ) (calls : List TracedCall) (before old listed : List MadeCall) (zero : PassState) (ended : Result (Unit {0}) F) (result : Result SortedCalls E) → IsErr result
    → HasRunListed fds worker calls before zero old listed ended → HasRunSorted fds worker calls before zero result
round_unsorted fds worker calls before old listed zero ended result wanting ran = record { made = ran.made; ran = ran.ran; sorted = unsorted calls ran.made result wanting }
