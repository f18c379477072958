-- Fresh: a caller that has begun nothing has come to where it is.
use Rattle.std.proofs.Common.{◌≡◌, ◌⊎◌, ℕ, ◌+◌, ◌<◌, ◌≤◌, false, List, [], ◌∷◌, ◌++◌, length, map, inl, inr, refl, sym, ap, subst, ◌∙◌, arith, append_assoc, length-append}
use Rattle.std.proofs.lemmas.Bool.{cases_lt}
use Rattle.std.proofs.lemmas.List.{append-nil, get_or_append_left, get_or_push, map-append, take-append-drop}
use Rattle.std.proofs.lemmas.List.FromFn.{map-range_with_len_more, take-map-range_with_len}
use Rattle.std.specs.Prelude.{OnErr, OnOk, Option, None, Result, Ok, Err, drop, slice_index_or, take}
use Rattle.nv_plain.specs.declared.memory.NoMemory.{NoMemory}
use Rattle.nv_table.specs.invariant.Idle.{IsIdle}
use Rattle.nv_table.specs.state.States.{PassState}
use Rattle.nv_clean.specs.Cleaning.{CleanState}
use Rattle.nv_mount.specs.Mounts.{MountState}
use Rattle.nv_mount.specs.declared.fds.Fd.{Fd}
use Rattle.nv_runner.specs.Lists.{MadeCall}
use Rattle.nv_runner.specs.Shifts.{calls_of_thread}
use Rattle.nv_trace.specs.declared.trace_call.TracedCall.{TracedCall}
use Rattle.nv_schedule.specs.declared.caller.Work.{Work}
use Rattle.nv_schedule.specs.declared.caller.Work.TheVariants.{Calls, Batches}
use Rattle.nv_schedule.specs.declared.hand.Hand.{Hand}
use Rattle.nv_schedule.specs.Callers.{AreAnswered, IsAtBatch, IsAtCall}
use Rattle.nv_schedule.specs.Fresh.{AreFresh, IsFresh, IsFreshWork, thread_works, works_of}
use Rattle.nv_schedule.specs.Turns.{CallerState, HasCome}
use Rattle.nv_schedule.proofs.ThreadLaws.{at_next}

pub fresh_come : (fds : List Fd) (work : Work) (pass : PassState) → IsFreshWork work → IsIdle pass → HasCome fds work pass pass
fresh_come fds (Calls thread) pass fresh idle = record {
  last = pass;
  made = subst (λ (made : List MadeCall). AreAnswered fds made pass pass) (sym fresh.1) refl;
  at = subst (λ (hand : Option Hand). IsAtCall fds thread.left hand pass pass) (sym fresh.0) (at_next fds thread.left pass idle);
  unbegun = λ not. (fresh.0, refl);
}
fresh_come fds (Batches cleaner) pass fresh idle = record {
  results = [];
  last = pass;
  batches = refl;
  at = subst (λ (machine : Option CleanState). IsAtBatch cleaner.most machine pass pass) (sym fresh) (refl, idle);
}

-- one more
pub fresh_more : (mount : MountState) (callers : List CallerState) (caller : CallerState) → AreFresh mount callers → IsFresh mount (length callers) caller → AreFresh mount (callers ++ caller ∷ [])
fresh_more mount callers caller fresh one i d less = by (cases_lt i (length callers))
  where
    by : (i < length callers) ⊎ (length callers ≤ i) → IsFresh mount i (slice_index_or (callers ++ caller ∷ []) i d)
    by (inl low) = subst (IsFresh mount i) (sym (get_or_append_left callers (caller ∷ []) d i low)) (fresh i d low)
    by (inr high) =
        let both = length-append callers (caller ∷ []) in
        let is : i ≡ length callers = omega (arith, less, high, both) in
        subst (IsFresh mount i) (sym (get_or_push callers caller d i (sym is))) (subst (λ n. IsFresh mount n caller) (sym is) one)

-- the works of threads, and then of one more
pub works_more : (calls : List TracedCall) (number : ℕ) (old new : List CallerState) (caller : CallerState) → map (λ (one : CallerState). one.work) old ≡ thread_works calls number → new ≡ old ++ caller ∷ []
    → caller.work ≡ Calls (record { left = calls_of_thread number calls; begun = false; hand = None; made = [] }) → map (λ (one : CallerState). one.work) new ≡ thread_works calls (number + 1)
works_more calls number old new caller works more is =
    ap (map (λ (one : CallerState). one.work)) more
    ∙ map-append (λ (one : CallerState). one.work) old (caller ∷ [])
    ∙ ap (λ l. l ++ caller.work ∷ []) works
    ∙ ap (λ w. thread_works calls number ++ w ∷ []) is
    ∙ sym (map-range_with_len_more (λ n. Calls (record { left = calls_of_thread n calls; begun = false; hand = None; made = [] })) 0 number number (omega arith))

-- those of a schedule, or the first ones of them
abbrev IsFront : (calls : List TracedCall) → (batch : ℕ) → List CallerState → Type 0
IsFront calls batch callers = (unmade : List Work) × (map (λ (one : CallerState). one.work) callers ++ unmade ≡ works_of calls batch)

pub works_first : (calls : List TracedCall) (batch number : ℕ) (callers : List CallerState) → map (λ (one : CallerState). one.work) callers ≡ thread_works calls number → number ≤ 8 → IsFront calls batch callers
works_first calls batch number callers works few =
    let cleaner : List Work = Batches (record { most = batch; machine = None }) ∷ [] in
    let later = drop number (thread_works calls 8) in
    let front : take number (thread_works calls 8) ≡ thread_works calls number =
    take-map-range_with_len (λ n. Calls (record { left = calls_of_thread n calls; begun = false; hand = None; made = [] })) 0 8 number few in (
      later ++ cleaner,
      sym (append_assoc (map (λ (one : CallerState). one.work) callers) later cleaner)
          ∙ ap (λ l. (l ++ later) ++ cleaner) (works ∙ sym front)
          ∙ ap (λ l. l ++ cleaner) (take-append-drop number (thread_works calls 8)),
    )

-- where the cleaner comes behind all threads, or there was no memory for it
pub works_last : (calls : List TracedCall) (batch number : ℕ) (old new : List CallerState) (work : Work) (result : Result (Unit {0}) NoMemory) → map (λ (one : CallerState). one.work) old ≡ thread_works calls number → number ≡ 8
    → work ≡ Batches (record { most = batch; machine = None }) → OnOk result ((caller : CallerState) × (new ≡ old ++ caller ∷ []) × (caller.work ≡ work)) → OnErr result (new ≡ old) → IsFront calls batch new
works_last calls batch number old new work (Ok done) works all is more none = (
  [],
  append-nil (map (λ (one : CallerState). one.work) new)
      ∙ ap (map (λ (one : CallerState). one.work)) more.1
      ∙ map-append (λ (one : CallerState). one.work) old (more.0 ∷ [])
      ∙ ap (λ l. l ++ more.0.work ∷ []) (works ∙ ap (thread_works calls) all)
      ∙ ap (λ w. thread_works calls 8 ++ w ∷ []) (more.2 ∙ is),
)
works_last calls batch number old new work (Err wanting) works all is more none =
    works_first calls batch number new (ap (map (λ (one : CallerState). one.work)) none ∙ works) (omega (arith, all))
