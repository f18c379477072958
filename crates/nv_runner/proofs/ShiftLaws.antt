-- Shifts: the workers of a round are shifts behind all before them.
use Rattle.std.proofs.Common.{◌≡◌, ◌≢◌, ℕ, ◌+◌, ◌<◌, ◌==◌, true, List, [], ◌∷◌, ◌++◌, length, map, get_or, inl, inr, refl, sym, ap, subst, ◌∙◌, arith, length-append}
use Rattle.std.specs.Prelude.{Option, IsPermutation, All, slice_index_or}
use Rattle.std.specs.List.{AllByRecursion, AllPairs, flat_map}
use Rattle.std.specs.List.Sorted.{IsStrictlyIncreasing}
use Rattle.std.proofs.lemmas.Bool.{eqb-true}
use Rattle.std.proofs.lemmas.List.{get_or-map, get_or_append_left, length-map, map-append}
use Rattle.std.proofs.lemmas.List.Concat.{flat_map-append}
use Rattle.std.proofs.lemmas.List.Elements.{All-filter, All-nil, filter_passes, recursion_from_All}
use Rattle.std.proofs.lemmas.List.Kept.{AllPairs-filter, AllPairs-from_increasing}
use Rattle.std.proofs.lemmas.List.Sorted.{IsPermutation-append_right, IsPermutation-refl, IsPermutation-sym, IsPermutation-trans}
use Rattle.nv_core.specs.invariant.OneHistory.{IsPrefix}
use Rattle.nv_core.specs.state.Passes.{IsOneOf}
use Rattle.nv_table.specs.passes.Seats.{past_of}
use Rattle.nv_table.specs.state.Opened.{Opened, state_of}
use Rattle.nv_table.specs.state.States.{PassState}
use Rattle.nv_table.specs.state.Views.{AreDistinctNumbers, Past, pass_of}
use Rattle.nv_mount.specs.Mounts.{MountState}
use Rattle.nv_mount.specs.declared.fds.Fd.{Fd}
use Rattle.nv_trace.specs.declared.trace_call.TracedCall.{TracedCall}
use Rattle.nv_runner.specs.Lists.{MadeCall, calls_made}
use Rattle.nv_runner.specs.Shifts.{AreInOrder, ComesBehind, HasRun, IsShift, Shift, calls_of_thread}
use Rattle.nv_runner.specs.Workers.{HasServed, WorkerState}
use Rattle.nv_runner.proofs.histories.HistoryMembers.{of_each, of_one, one_either, one_in_joined, one_left, one_mapped, one_moved}

-- ---- some first ones of a thread's calls

-- lines of calls that stand in the order of their lines
line_pairs : (calls : List TracedCall) → IsStrictlyIncreasing (map (λ (c : TracedCall). c.line) calls) → AllPairs (λ (a b : TracedCall). a.line < b.line) calls
line_pairs calls rise i j d less within =
    let line : TracedCall → ℕ = λ c. c.line in
    let long = length-map calls line in
    let pair = AllPairs-from_increasing (map line calls) rise i j 0 less (omega (arith, long)) in
    let first = get_or-map line calls i d 0 (omega arith) in
    let second = get_or-map line calls j d 0 within in
    omega (arith, pair, first, second)

-- the lines of a thread's first ones rise too
lines_rise : (calls : List TracedCall) (thread : ℕ) (made : List MadeCall) (left : List TracedCall) → IsStrictlyIncreasing (map (λ (c : TracedCall). c.line) calls)
    → calls_made made ++ left ≡ calls_of_thread thread calls → IsStrictlyIncreasing (map (λ (m : MadeCall). m.call.line) made)
lines_rise calls thread [] left rise some k below = absurd (omega arith)
lines_rise calls thread (m ∷ more) left rise some k below =
    let made : List MadeCall = m ∷ more in
    let long = length-map made (λ (m : MadeCall). m.call.line) in
    let long_calls = length-map made (λ (m : MadeCall). m.call) in
    let kept = AllPairs-filter (λ (a b : TracedCall). a.line < b.line) (λ c. c.thread == thread) calls (line_pairs calls rise) in
    let longer : length (calls_made made ++ left) ≡ length (calls_of_thread thread calls) = ap length some in
    let joined = length-append (calls_made made) left in
    let there : (slice_index_or (calls_of_thread thread calls) k m.call).line < (slice_index_or (calls_of_thread thread calls) (k + 1) m.call).line = kept k (k + 1) m.call (omega arith) (omega (arith, long, long_calls, longer, joined, below)) in
    let at : (i : ℕ) → i < length made → get_or (map (λ (m : MadeCall). m.call.line) made) i 0 ≡ (get_or (calls_of_thread thread calls) i m.call).line = λ i within.
    get_or-map (λ (m : MadeCall). m.call.line) made i m 0 within
    ∙ ap (λ (c : TracedCall). c.line)
    (sym (ap (λ l. get_or l i m.call) (sym some) ∙ get_or_append_left (calls_made made) left m.call i (omega (arith, long_calls, within)) ∙ get_or-map (λ (m : MadeCall). m.call) made i m m.call within)) in
    omega (arith, there, at k (omega (arith, long, below)), at (k + 1) (omega (arith, long, below)))

-- no call was made, and no pass
pub run_first : (fds : List Fd) (batch : Option ℕ) (made : List MadeCall) (zero : PassState) → made ≡ [] → zero.view.ended ≡ [] → HasRun fds batch made zero
run_first fds batch made zero none new = record {
  shifts = [];
  pasts = sym new;
  each = All-nil (IsShift fds batch zero.view.opened);
  in_order = tt;
  listed = subst (λ l. IsPermutation l []) (sym none) (IsPermutation-refl []);
}

module _ {L B : Type 0} (mount : MountState) (batch : Option ℕ) (ended : List Past) (calls : List TracedCall) (round : ℕ) (rounds : All (λ (c : TracedCall). c.round ≡ round) calls)
    (lines : IsStrictlyIncreasing (map (λ (c : TracedCall). c.line) calls)) where
  abbrev Served : WorkerState L B → Type 0
  Served worker = HasServed mount batch ended calls worker

  abbrev shift_of : (worker : WorkerState L B) → Served worker → Shift
  shift_of worker served = record { made = worker.made; start = served.start; now = worker.pass }

  is_shift : (worker : WorkerState L B) (served : Served worker) → IsShift mount.fds batch mount.board.opened (shift_of worker served)
  is_shift worker served = record {
    mount = served.newcomer.mount;
    fresh = served.newcomer.fresh;
    unborn = served.newcomer.unborn;
    unfailed = served.newcomer.unfailed;
    last = served.last;
    made = served.each;
    behind = served.behind;
    batches = served.batches;
    quiet = served.quiet;
    on = served.on;
    keeps = served.keeps;
    number = served.number;
    still_mount = served.ready.board.same_mount;
    idle = served.ready.idle;
    in_lines = lines_rise calls worker.thread worker.made served.left lines served.some;
  }

  -- a call that it made is of the round, and of its thread
  its_call : (worker : WorkerState L B) → Served worker → (m : MadeCall) → IsOneOf worker.made m → (m.call.round ≡ round) × (m.call.thread ≡ worker.thread)
  its_call worker served m one =
      let among : IsOneOf (calls_of_thread worker.thread calls) m.call =
      subst (λ l. IsOneOf l m.call) served.some (one_left (calls_made worker.made) served.left m.call (one_mapped (λ (m : MadeCall). m.call) worker.made m one)) in (
        of_one (λ (c : TracedCall). c.round ≡ round) (calls_of_thread worker.thread calls) m.call (All-filter (λ (c : TracedCall). c.thread == worker.thread) (λ (c : TracedCall). c.round ≡ round) calls rounds) among,
        eqb-true m.call.thread worker.thread (of_one (λ (c : TracedCall). (c.thread == worker.thread) ≡ true) (calls_of_thread worker.thread calls) m.call (filter_passes (λ (c : TracedCall). c.thread == worker.thread) calls) among),
      )

  -- two of one round are of two threads
  beside : (one other : WorkerState L B) (served : Served one) (served_other : Served other) → one.thread ≢ other.thread → ComesBehind (shift_of one served) (shift_of other served_other)
  beside one other served served_other differ a b is_a is_b =
      let of_a = its_call one served a is_a in
      let of_b = its_call other served_other b is_b in
      inr (of_a.0 ∙ sym of_b.0, λ same. differ (sym of_a.1 ∙ same ∙ of_b.1))

  -- one of an earlier round was taken in before
  behind : (made : List MadeCall) → All (λ (m : MadeCall). m.call.round < round) made → (earlier : Shift) → ((m : MadeCall) → IsOneOf earlier.made m → IsOneOf made m)
      → IsOneOf ended (past_of earlier.now.view) → earlier.now.view.opened ≡ mount.board.opened → (worker : WorkerState L B) (served : Served worker) → ComesBehind (shift_of worker served) earlier
  behind made older earlier listed taken opened worker served a b is_a is_b =
      let of_a = its_call worker served a is_a in
      let old = of_one (λ (m : MadeCall). m.call.round < round) made b older (listed b is_b) in
      let view = earlier.now.view in
      inl (
        omega (arith, of_a.0, old),
        subst (λ (o : Opened). IsPrefix ((state_of o view.run).passes view.number).seen (pass_of served.start.view).seen) (sym opened) (served.newcomer.seen (past_of view) taken),
        served.newcomer.behind (past_of view) taken,
      )

  -- ---- all workers of the round

  abbrev shifts_of : (workers : List (WorkerState L B)) → AllByRecursion Served workers → List Shift
  shifts_of [] served = []
  shifts_of (worker ∷ more) served = shift_of worker served.0 ∷ shifts_of more served.1

  pasts_there : (workers : List (WorkerState L B)) (served : AllByRecursion Served workers) → map (λ (s : Shift). past_of s.now.view) (shifts_of workers served) ≡ map (λ (w : WorkerState L B). past_of w.pass.view) workers
  pasts_there [] served = refl
  pasts_there (worker ∷ more) served = ap (λ l. past_of worker.pass.view ∷ l) (pasts_there more served.1)

  made_there : (workers : List (WorkerState L B)) (served : AllByRecursion Served workers) → flat_map (λ (s : Shift). s.made) (shifts_of workers served) ≡ flat_map (λ (w : WorkerState L B). w.made) workers
  made_there [] served = refl
  made_there (worker ∷ more) served = ap (λ l. worker.made ++ l) (made_there more served.1)

  each_there : (workers : List (WorkerState L B)) (served : AllByRecursion Served workers) (s : Shift) → IsOneOf (shifts_of workers served) s → IsShift mount.fds batch mount.board.opened s
  each_there [] served s one = absurd one
  each_there (worker ∷ more) served s (inl is) = subst (IsShift mount.fds batch mount.board.opened) (sym is) (is_shift worker served.0)
  each_there (worker ∷ more) served s (inr later) = each_there more served.1 s later

  beside_all : (worker : WorkerState L B) (is : Served worker) (others : List (WorkerState L B)) (served : AllByRecursion Served others) → (IsOneOf (map (λ (w : WorkerState L B). w.thread) others) worker.thread → ⊥)
      → (s : Shift) → IsOneOf (shifts_of others served) s → ComesBehind (shift_of worker is) s
  beside_all worker is [] served differ s one = absurd one
  beside_all worker is (other ∷ more) served differ s (inl here) = subst (ComesBehind (shift_of worker is)) (sym here) (beside worker other is served.0 (λ same. differ (inl same)))
  beside_all worker is (other ∷ more) served differ s (inr later) = beside_all worker is more served.1 (λ one. differ (inr one)) s later

  in_order_there : (workers : List (WorkerState L B)) (served : AllByRecursion Served workers) (before : List Shift) → AreDistinctNumbers (map (λ (w : WorkerState L B). w.thread) workers) → AreInOrder before
      → ((s : Shift) → IsOneOf before s → (worker : WorkerState L B) (is : Served worker) → ComesBehind (shift_of worker is) s) → AreInOrder (shifts_of workers served ++ before)
  in_order_there [] served before differ ordered later = ordered
  in_order_there (worker ∷ more) served before differ ordered later = (
    of_each (ComesBehind (shift_of worker served.0)) (shifts_of more served.1 ++ before)
        (λ s one. elim (one_either (shifts_of more served.1) before s one) [ inl here ↦ beside_all worker served.0 more served.1 differ.0 s here | inr old ↦ later s old worker served.0 ]),
    in_order_there more served.1 before differ.1 ordered later,
  )

  -- with them the calls that were made are those of shifts that pass 0 has taken in
  module _ (made made_then : List MadeCall) (zero new : PassState) (run : HasRun mount.fds batch made zero) (opened : zero.view.opened ≡ mount.board.opened) (taken : zero.view.ended ≡ ended)
      (older : All (λ (m : MadeCall). m.call.round < round) made) (workers : List (WorkerState L B)) (all : All Served workers) (differ : AreDistinctNumbers (map (λ (w : WorkerState L B). w.thread) workers))
      (opened_then : new.view.opened ≡ mount.board.opened) (taken_then : new.view.ended ≡ map (λ (w : WorkerState L B). past_of w.pass.view) workers ++ ended)
      (listed : IsPermutation made_then (flat_map (λ (w : WorkerState L B). w.made) workers ++ made)) where
    served_all : AllByRecursion Served workers
    served_all = recursion_from_All Served workers all

    of_old : (s : Shift) → IsOneOf run.shifts s → IsShift mount.fds batch mount.board.opened s
    of_old s one = subst (λ (o : Opened). IsShift mount.fds batch o s) opened (of_one (IsShift mount.fds batch zero.view.opened) run.shifts s run.each one)

    old_later : (s : Shift) → IsOneOf run.shifts s → (worker : WorkerState L B) (is : Served worker) → ComesBehind (shift_of worker is) s
    old_later s one worker is =
        behind made older s
        (λ m there. one_moved (flat_map (λ (s : Shift). s.made) run.shifts) made m (IsPermutation-sym made (flat_map (λ (s : Shift). s.made) run.shifts) run.listed) (one_in_joined (λ (s : Shift). s.made) run.shifts s m one there))
        (subst (λ (l : List Past). IsOneOf l (past_of s.now.view)) (run.pasts ∙ taken) (one_mapped (λ (s : Shift). past_of s.now.view) run.shifts s one)) (of_old s one).still_mount worker is

    each_then : (s : Shift) → IsOneOf (shifts_of workers served_all ++ run.shifts) s → IsShift mount.fds batch new.view.opened s
    each_then s one =
        subst (λ (o : Opened). IsShift mount.fds batch o s) (sym opened_then)
        (elim (one_either (shifts_of workers served_all) run.shifts s one) [ inl here ↦ each_there workers served_all s here | inr old ↦ of_old s old ])

    pub run_on : HasRun mount.fds batch made_then new
    run_on = record {
      shifts = shifts_of workers served_all ++ run.shifts;
      pasts = map-append (λ (s : Shift). past_of s.now.view) (shifts_of workers served_all) run.shifts
          ∙ ap (λ l. l ++ map (λ (s : Shift). past_of s.now.view) run.shifts) (pasts_there workers served_all)
          ∙ ap (λ l. map (λ (w : WorkerState L B). past_of w.pass.view) workers ++ l) (run.pasts ∙ taken) ∙ sym taken_then;
      each = of_each (IsShift mount.fds batch new.view.opened) (shifts_of workers served_all ++ run.shifts) each_then;
      in_order = in_order_there workers served_all run.shifts differ run.in_order old_later;
      listed = subst (IsPermutation made_then) (sym (flat_map-append (λ (s : Shift). s.made) (shifts_of workers served_all) run.shifts ∙ ap (λ l. l ++ flat_map (λ (s : Shift). s.made) run.shifts) (made_there workers served_all)))
          (IsPermutation-trans made_then (flat_map (λ (w : WorkerState L B). w.made) workers ++ made) (flat_map (λ (w : WorkerState L B). w.made) workers ++ flat_map (λ (s : Shift). s.made) run.shifts) listed
          (IsPermutation-append_right (flat_map (λ (w : WorkerState L B). w.made) workers) made (flat_map (λ (s : Shift). s.made) run.shifts) run.listed));
    }
