-- Begun: of each thread the calls that a schedule tells of are the first ones.
use Rattle.std.proofs.Common.{◌≡◌, ℕ, ◌+◌, ◌<◌, ◌≤◌, Bool, true, false, List, [], ◌∷◌, ◌++◌, length, map, inl, inr, refl, sym, ap, ap₂, subst, ◌∙◌, arith, append_assoc, eqb}
use Rattle.std.specs.Prelude.{None, Option, Some, Result, Ok, slice_index_or}
use Rattle.std.specs.List.{range_with_len}
use Rattle.std.proofs.lemmas.Bool.{cases_lt}
use Rattle.std.proofs.lemmas.List.{append-nil, get_or-append-add, get_or-map, get_or_append_left, length-append, length-map, map-append}
use Rattle.std.proofs.lemmas.List.Elements.{filter-append}
use Rattle.std.proofs.lemmas.List.FromFn.{get_or-map-range_with_len, length-range_with_len}
use Rattle.nv_core.specs.state.Passes.{IsOneOf}
use Rattle.nv_table.specs.invariant.Drawn.{drawn_by}
use Rattle.nv_table.specs.state.States.{PassState}
use Rattle.nv_mount.specs.Mounts.{MountState}
use Rattle.nv_trace.specs.declared.trace_call.TracedCall.{TracedCall}
use Rattle.nv_runner.specs.declared.answer.Answer.{Answer}
use Rattle.nv_runner.specs.Lists.{MadeCall, calls_made}
use Rattle.nv_runner.specs.Rounds.{AreInLineOrder}
use Rattle.nv_runner.specs.Shifts.{calls_of_thread}
use Rattle.nv_runner.specs.Sorted.{HaveOwnLines}
use Rattle.nv_runner.proofs.histories.HistoryMembers.{one_left, one_right}
use Rattle.nv_schedule.specs.Begun.{AreBegun, AreFirstOfThread, SchedulesBegin, listed_calls, unanswered_calls}
use Rattle.nv_schedule.specs.Fresh.{thread_works, works_of}
use Rattle.nv_schedule.specs.Listed.{all_listed, all_unanswered, listed, listed_by, listed_present, told_present, unanswered, unanswered_by, unanswered_present}
use Rattle.nv_schedule.specs.Scheduled.{HasFollowed, HaveCalled, HaveComeSince, asked_by}
use Rattle.nv_schedule.specs.Turns.{CallerState}
use Rattle.nv_schedule.specs.declared.caller.Work.{Work}
use Rattle.nv_schedule.specs.declared.caller.Work.TheVariants.{Calls, Batches}
use Rattle.nv_schedule.specs.declared.schedule_error.ScheduleError.{ScheduleError}
use Rattle.nv_trace.specs.declared.token.Token.{Token}
use Rattle.nv_schedule.proofs.ThreadLists.{AreOfThread, EachOwn, front_rises, joined, kept_one, none_joined, one_joined, one_kept, own_by_thread, rising_own, thread_rises}

-- ---- what a thread's calls tell of all

module _ (calls told untold : List TracedCall) (first : (thread : ℕ) → AreFirstOfThread calls told untold thread) where
  both : (thread : ℕ) → calls_of_thread thread calls ≡ calls_of_thread thread (told ++ untold) ++ (first thread).left
  both thread = (first thread).first ∙ ap (λ l. l ++ (first thread).left) (sym (filter-append (λ (call : TracedCall). eqb call.thread thread) told untold))

  -- each is a call of the trace
  pub begun_within : (call : TracedCall) → IsOneOf (told ++ untold) call → IsOneOf calls call
  begun_within call one =
      let kept = one_kept call.thread (told ++ untold) call one refl in
      (kept_one call.thread calls call (subst (λ l. IsOneOf l call) (sym (both call.thread)) (one_left (calls_of_thread call.thread (told ++ untold)) (first call.thread).left call kept))).0

  -- and they are each of a line of its own
  begun_own : AreInLineOrder calls → HaveOwnLines (told ++ untold)
  begun_own order =
      own_by_thread calls (told ++ untold) (rising_own calls order) begun_within
      (λ thread. rising_own (calls_of_thread thread (told ++ untold))
      (front_rises (calls_of_thread thread (told ++ untold)) (first thread).left (subst AreInLineOrder (both thread) (thread_rises thread calls order))))

-- ---- of one caller

-- what is told of its calls are the first ones of all that it was asked for
pub record AreFirstOf (asked told untold : List TracedCall) : Type 0 where
  pub left : List TracedCall
  pub first : asked ≡ (told ++ untold) ++ left
  pub at_most_one : length untold ≤ 1

-- those that it has left begin with its present one, which is told once, or not at all
present_first : (begun : Bool) (all : List TracedCall) (answer : Option Answer) → AreFirstOf all (calls_made (listed_present all answer)) (unanswered_present begun all answer)
present_first true [] None = record { left = []; first = refl; at_most_one = omega arith }
present_first true [] (Some answer) = record { left = []; first = refl; at_most_one = omega arith }
present_first false [] None = record { left = []; first = refl; at_most_one = omega arith }
present_first false [] (Some answer) = record { left = []; first = refl; at_most_one = omega arith }
present_first true (call ∷ later) None = record { left = later; first = refl; at_most_one = omega arith }
present_first true (call ∷ later) (Some answer) = record { left = later; first = refl; at_most_one = omega arith }
present_first false (call ∷ later) None = record { left = call ∷ later; first = refl; at_most_one = omega arith }
present_first false (call ∷ later) (Some answer) = record { left = later; first = refl; at_most_one = omega arith }

first_of : (work : Work) (drawn : Option ℕ) → AreFirstOf (asked_by work) (calls_made (listed_by work drawn)) (unanswered_by work drawn)
first_of (Calls thread) drawn =
    let answer = told_present thread.hand drawn in
    let present = present_first thread.begun thread.left answer in
    let more = listed_present thread.left answer in
    let untold = unanswered_present thread.begun thread.left answer in
    let made = calls_made thread.made in
    record {
      left = present.left;
      first = ap (λ l. made ++ l) (present.first ∙ append_assoc (calls_made more) untold present.left)
          ∙ sym (append_assoc made (calls_made more) (untold ++ present.left))
          ∙ sym (append_assoc (made ++ calls_made more) untold present.left)
          ∙ ap (λ l. (l ++ untold) ++ present.left) (sym (map-append (λ (m : MadeCall). m.call) thread.made more));
      at_most_one = present.at_most_one;
    }
first_of (Batches cleaner) drawn = record { left = []; first = refl; at_most_one = omega arith }

-- ---- of the callers of a trace

abbrev fresh_thread : (calls : List TracedCall) → (number : ℕ) → Work
fresh_thread calls number = Calls (record { left = calls_of_thread number calls; begun = false; hand = None; made = [] })

abbrev fresh_cleaner : (batch : ℕ) → Work
fresh_cleaner batch = Batches (record { most = batch; machine = None })

threads_long : (calls : List TracedCall) → length (thread_works calls 8) ≡ 8
threads_long calls = length-map (range_with_len 0 8) (fresh_thread calls) ∙ length-range_with_len 0 8

nothing_left : (xs ys : List TracedCall) → [] ≡ xs ++ ys → (xs ≡ []) × (ys ≡ [])
nothing_left [] ys none = (refl, sym none)
nothing_left (x ∷ xs) ys none = absurd (let long = ap length none in omega (arith, long))

module _ (mount : MountState) (calls : List TracedCall) (batch : ℕ) (first then_ : List CallerState) (unmade : List Work) (works : map (λ caller. caller.work) first ++ unmade ≡ works_of calls batch)
    (come : HaveComeSince mount.fds first then_) (count : length then_ ≡ length first) where
  abbrev work_of : CallerState → Work
  work_of caller = caller.work

  pub most_nine : length first ≤ 9
  most_nine =
      let works_long = ap length works in
      let mapped = length-map first work_of in
      let all = length-append (map work_of first) unmade in
      let both = length-append (thread_works calls 8) (fresh_cleaner batch ∷ []) in
      let threads = threads_long calls in
      omega (arith, works_long, mapped, all, both, threads)

  at_first : (i : ℕ) (d : CallerState) (e : Work) → i < length first → (slice_index_or first i d).work ≡ slice_index_or (works_of calls batch) i e
  at_first i d e less =
      sym (get_or-map work_of first i d e less)
      ∙ sym (get_or_append_left (map work_of first) unmade e i (let mapped = length-map first work_of in omega (arith, less, mapped)))
      ∙ ap (λ l. slice_index_or l i e) works

  thread_at : (i : ℕ) (d : CallerState) → i < length first → i < 8 → (slice_index_or first i d).work ≡ fresh_thread calls i
  thread_at i d there less =
      let e = fresh_cleaner batch in
      let threads = threads_long calls in
      at_first i d e there
      ∙ get_or_append_left (thread_works calls 8) (e ∷ []) e i (omega (arith, less, threads))
      ∙ get_or-map-range_with_len (fresh_thread calls) 0 8 i i e less (omega arith)

  cleaner_at : (d : CallerState) → 8 < length first → (slice_index_or first 8 d).work ≡ fresh_cleaner batch
  cleaner_at d there =
      let e = fresh_cleaner batch in
      let threads = threads_long calls in
      let place : length (thread_works calls 8) + 0 ≡ 8 = omega (arith, threads) in
      at_first 8 d e there
      ∙ ap (λ n. slice_index_or (works_of calls batch) n e) (sym place)
      ∙ get_or-append-add (thread_works calls 8) (e ∷ []) 0 e

  asked_of : (i : ℕ) (d : CallerState) → i < length first → asked_by (slice_index_or then_ i d).work ≡ asked_by (slice_index_or first i d).work
  asked_of i d less = (come i d less).asked

  abbrev told_by : CallerState → List TracedCall
  told_by caller = calls_made (listed caller)

  -- of each thread, and of the cleaner nothing is told
  pub own_first : (i : ℕ) (d : CallerState) → i < length first → AreFirstOf (calls_of_thread i calls) (told_by (slice_index_or then_ i d)) (unanswered (slice_index_or then_ i d))
  own_first i d less = elim (cases_lt i 8) [
    | inl thread ↦ (
        let to = slice_index_or then_ i d in
        let are = first_of to.work (drawn_by to.pass.view) in
        record { left = are.left; first = sym (asked_of i d less ∙ ap asked_by (thread_at i d less thread)) ∙ are.first; at_most_one = are.at_most_one }
        )
    | inr past ↦ (
        let to = slice_index_or then_ i d in
        let most = most_nine in
        let place : i ≡ 8 = omega (arith, less, most, past) in
        let are = first_of to.work (drawn_by to.pass.view) in
        let nobody : asked_by to.work ≡ [] =
        asked_of i d less ∙ ap (λ n. asked_by (slice_index_or first n d).work) place ∙ ap asked_by (cleaner_at d (omega (arith, less, place))) in
        let told = (nothing_left (told_by to ++ unanswered to) are.left (sym nobody ∙ are.first)).0 in
        record { left = calls_of_thread i calls; first = sym (ap (λ l. l ++ calls_of_thread i calls) told); at_most_one = are.at_most_one }
        )
  ]

  -- ---- of all

  own_of : (i : ℕ) (d : CallerState) → i < length first → AreOfThread i (told_by (slice_index_or then_ i d) ++ unanswered (slice_index_or then_ i d))
  own_of i d less call one =
      let are = own_first i d less in
      (kept_one i calls call (subst (λ l. IsOneOf l call) (sym are.first) (one_left (told_by (slice_index_or then_ i d) ++ unanswered (slice_index_or then_ i d)) are.left call one))).1

  sum_is : (i thread : ℕ) → thread ≡ i → thread ≡ 0 + i
  sum_is i thread is = omega (arith, is)

  each_told : EachOwn told_by 0 then_
  each_told i d less call one = sum_is i call.thread (own_of i d (omega (arith, less, count)) call (one_left (told_by (slice_index_or then_ i d)) (unanswered (slice_index_or then_ i d)) call one))

  each_untold : EachOwn unanswered 0 then_
  each_untold i d less call one = sum_is i call.thread (own_of i d (omega (arith, less, count)) call (one_right (told_by (slice_index_or then_ i d)) (unanswered (slice_index_or then_ i d)) call one))

  told_joined : (callers : List CallerState) → calls_made (all_listed callers) ≡ joined told_by callers
  told_joined [] = refl
  told_joined (caller ∷ later) = map-append (λ (m : MadeCall). m.call) (all_listed later) (listed caller) ∙ ap (λ l. l ++ calls_made (listed caller)) (told_joined later)

  untold_joined : (callers : List CallerState) → all_unanswered callers ≡ joined unanswered callers
  untold_joined [] = refl
  untold_joined (caller ∷ later) = ap (λ l. l ++ unanswered caller) (untold_joined later)

  module _ (d : CallerState) (told untold : List TracedCall) (told_are : told ≡ calls_made (all_listed then_)) (untold_are : untold ≡ all_unanswered then_) where
    told_all : told ≡ joined told_by then_
    told_all = told_are ∙ told_joined then_

    untold_all : untold ≡ joined unanswered then_
    untold_all = untold_are ∙ untold_joined then_

    of_caller : (i : ℕ) → i < length first → AreFirstOfThread calls told untold i
    of_caller i less =
        let within : i < length then_ = omega (arith, less, count) in
        let are = own_first i d less in
        let told_is : calls_of_thread i told ≡ told_by (slice_index_or then_ i d) = ap₂ calls_of_thread (sum_is i i refl) told_all ∙ one_joined told_by 0 i then_ d each_told within in
        let untold_is : calls_of_thread i untold ≡ unanswered (slice_index_or then_ i d) = ap₂ calls_of_thread (sum_is i i refl) untold_all ∙ one_joined unanswered 0 i then_ d each_untold within in
        record {
          left = are.left;
          first = are.first ∙ sym (ap₂ (λ xs ys. (xs ++ ys) ++ are.left) told_is untold_is);
          at_most_one = subst (λ l. length l ≤ 1) (sym untold_is) are.at_most_one;
        }

    of_nobody : (i : ℕ) → length first ≤ i → AreFirstOfThread calls told untold i
    of_nobody i past =
        let apart : (j : ℕ) → j < length then_ → i ≡ 0 + j → ⊥ = λ j within is. omega (arith, past, within, is, count) in
        let told_is : calls_of_thread i told ≡ [] = ap (calls_of_thread i) told_all ∙ none_joined told_by 0 i then_ each_told apart in
        let untold_is : calls_of_thread i untold ≡ [] = ap (calls_of_thread i) untold_all ∙ none_joined unanswered 0 i then_ each_untold apart in
        record {
          left = calls_of_thread i calls;
          first = sym (ap₂ (λ xs ys. (xs ++ ys) ++ calls_of_thread i calls) told_is untold_is);
          at_most_one = subst (λ l. length l ≤ 1) (sym untold_is) (omega arith);
        }

    pub of_thread : (thread : ℕ) → AreFirstOfThread calls told untold thread
    of_thread thread = elim (cases_lt thread (length first)) [ inl less ↦ of_caller thread less | inr past ↦ of_nobody thread past ]

    -- ---- lines

    pub are_begun : AreInLineOrder calls → AreBegun calls told untold
    are_begun order = record { first = of_thread; own_lines = begun_own calls told untold of_thread order }

pub any_caller : PassState → CallerState
any_caller pass = record { pass = pass; work = Batches (record { most = 0; machine = None }) }

-- those of a schedule that was followed
abbrev pub called_of : (mount : MountState) (tokens : List Token) (calls : List TracedCall) (batch : ℕ) (done : Result (Unit {0}) ScheduleError) (then_ : List CallerState) (zero : PassState) → HasFollowed mount tokens calls batch done then_ zero
    → HaveCalled mount calls batch then_ zero
called_of mount tokens calls batch done then_ zero followed = record {
  first = followed.first;
  fresh = followed.fresh;
  unmade = [];
  works = append-nil (map (λ caller. caller.work) followed.first) ∙ followed.works;
  count = followed.count;
  come = followed.come;
  taken = followed.taken;
  told = followed.told;
  none = followed.none;
  left_open = followed.left_open;
}

-- what is told of them
pub called_begin : (mount : MountState) (calls : List TracedCall) (batch : ℕ) (then_ : List CallerState) (zero : PassState) (told untold : List TracedCall) → HaveCalled mount calls batch then_ zero → told ≡ calls_made (all_listed then_)
    → untold ≡ all_unanswered then_ → AreInLineOrder calls → AreBegun calls told untold
called_begin mount calls batch then_ zero told untold called told_are untold_are order =
    are_begun mount calls batch called.first then_ called.unmade called.works called.come called.count (any_caller zero) told untold told_are untold_are order

pub schedules_begin : SchedulesBegin
schedules_begin mount tokens calls batch then_ zero told followed are order =
    called_begin mount calls batch then_ zero (listed_calls told) (unanswered_calls told) (called_of mount tokens calls batch (Ok tt) then_ zero followed) (ap calls_made are.answered) are.unanswered order
