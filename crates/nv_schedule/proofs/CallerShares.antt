-- Caller shares: what is told of the callers of a schedule makes up the history.
use Rattle.std.proofs.Common.{◌≡◌, ℕ, suc, ◌+◌, ◌<◌, List, [], ◌∷◌, ◌++◌, length, map, inl, inr, refl, sym, ap, ap₂, subst, ◌∙◌, arith, append_assoc}
use Rattle.std.specs.Prelude.{All, IsPermutation, Ok, slice_index_or}
use Rattle.std.specs.List.{flat_map, range_with_len}
use Rattle.std.specs.List.Sorted.{IsNonDecreasingBy, IsStrictlyIncreasing}
use Rattle.std.proofs.lemmas.Bool.{cases_eq}
use Rattle.std.proofs.lemmas.List.{map-append}
use Rattle.std.proofs.lemmas.List.Elements.{All-cons, All-nil}
use Rattle.std.proofs.lemmas.List.Sorted.{IsPermutation-append_comm, IsPermutation-append_right, IsPermutation-map, IsPermutation-refl, IsPermutation-trans}
use Rattle.nv_plain.specs.Histories.{Answered}
use Rattle.nv_core.specs.state.Passes.{IsOneOf}
use Rattle.nv_core.specs.invariant.OneHistory.{calls_by}
use Rattle.nv_table.specs.invariant.Drawn.{drawn_by}
use Rattle.nv_table.specs.state.States.{PassState}
use Rattle.nv_table.specs.state.Views.{AreDistinctNumbers, Past, pass_of}
use Rattle.nv_mount.specs.Mounts.{MountState}
use Rattle.nv_mount.specs.OneHistories.{HasOneHistory}
use Rattle.nv_mount.specs.WholeRuns.{history_then}
use Rattle.nv_mount.specs.declared.fds.Fd.{Fd}
use Rattle.nv_trace.specs.declared.trace_call.TracedCall.{TracedCall}
use Rattle.nv_runner.specs.Histories.{AreHistory, PlacedCall, placed_calls}
use Rattle.nv_runner.specs.Lists.{MadeCall, Stand, calls_made, made_calls, placed}
use Rattle.nv_runner.specs.Rounds.{AreInLineOrder}
use Rattle.nv_runner.specs.Shifts.{calls_of_thread}
use Rattle.nv_runner.specs.Sorted.{HaveOwnLines, OpenedCall, RefusedCall, opened_call, opened_made, placed_call, placed_made, refused_call, refused_made}
use Rattle.nv_runner.proofs.histories.HistoryMembers.{of_each, of_one, one_left, one_mapped}
use Rattle.nv_runner.proofs.histories.HistoryThreads.{threads_are_legal}
use Rattle.nv_runner.proofs.LineLaws.{open_in_lines, refused_in_lines}
use Rattle.nv_runner.proofs.RoundLists.{distinct_range, in_range}
use Rattle.nv_schedule.specs.Begun.{listed_calls, unanswered_calls}
use Rattle.nv_schedule.specs.Growing.{number_of}
use Rattle.nv_schedule.specs.Listed.{all_listed, all_unanswered, listed, listed_by, unanswered}
use Rattle.nv_schedule.specs.Scheduled.{HaveCalled}
use Rattle.nv_schedule.specs.Shares.{AreShares, IsShareOf, Share}
use Rattle.nv_schedule.specs.SortedOut.{AreOfOneRound, SchedulesAreLegal, SchedulesAreTold}
use Rattle.nv_schedule.specs.Told.{IsToldOfWork}
use Rattle.nv_schedule.specs.Turns.{CallerState}
use Rattle.nv_schedule.specs.declared.caller.Work.{Work}
use Rattle.nv_schedule.specs.declared.caller.Work.TheVariants.{Calls, Batches}
use Rattle.nv_schedule.proofs.BegunLaws.{AreFirstOf, any_caller, begun_within, called_begin, called_of, own_first, schedules_begin}
use Rattle.nv_schedule.proofs.EndLaws.{past_of_some, stood_number}
use Rattle.nv_schedule.proofs.ShareLaws.{shares_are_history}
use Rattle.nv_schedule.proofs.ThreadLists.{front_rises, kept_one, thread_rises}

-- ---- a caller's share

-- what its pass had seen; the cleaner has no calls
abbrev seen_by : Work → PassState → List Answered
seen_by (Calls thread) start = (pass_of start.view).seen
seen_by (Batches cleaner) start = []

abbrev pub share_of : (place : ℕ) → (first then_ : CallerState) → Share
share_of place first then_ = record { number = number_of first; thread = place; seen = seen_by then_.work first.pass; made = listed then_ }

abbrev pub shares_from : (place : ℕ) → (first then_ : List CallerState) → List Share
shares_from place [] then_ = []
shares_from place (caller ∷ later) [] = []
shares_from place (caller ∷ later) (now ∷ others) = share_of place caller now ∷ shares_from (place + 1) later others

-- how its calls stand
stands_as : (fds : List Fd) (number : ℕ) (work : Work) (now start : PassState) (history : List Answered) → IsToldOfWork fds number work now start history
    → Stand fds number (seen_by work start) (listed_by work (drawn_by now.view)) history × (calls_by number history ≡ placed fds number (listed_by work (drawn_by now.view)))
stands_as fds number (Calls thread) now start history told = (told.stand, told.own)
stands_as fds number (Batches cleaner) now start history none = ((history, refl), none)

-- ---- what is so of each

abbrev pub EachIs : (d : CallerState) → (ℕ → CallerState → CallerState → Type 0) → (place : ℕ) → (first then_ : List CallerState) → Type 0
EachIs d Is place first then_ = (i : ℕ) → i < length first → Is (place + i) (slice_index_or first i d) (slice_index_or then_ i d)

each_later : (d : CallerState) (Is : ℕ → CallerState → CallerState → Type 0) (place : ℕ) (caller now : CallerState) (later others : List CallerState) → EachIs d Is place (caller ∷ later) (now ∷ others) → EachIs d Is (place + 1) later others
each_later d Is place caller now later others each i less =
    let at : place + suc i ≡ place + 1 + i = omega arith in
    subst (λ n. Is n (slice_index_or later i d) (slice_index_or others i d)) at (each (suc i) (omega (arith, less)))

each_first : (d : CallerState) (Is : ℕ → CallerState → CallerState → Type 0) (place : ℕ) (caller now : CallerState) (later others : List CallerState) → EachIs d Is place (caller ∷ later) (now ∷ others) → Is place caller now
each_first d Is place caller now later others each = let at : place + 0 ≡ place = omega arith in subst (λ n. Is n caller now) at (each 0 (omega arith))

pub each_share : (d : CallerState) (P : Share → Type 0) (place : ℕ) (first then_ : List CallerState) → EachIs d (λ n caller now. P (share_of n caller now)) place first then_ → All P (shares_from place first then_)
each_share d P place [] then_ each = All-nil P
each_share d P place (caller ∷ later) [] each = All-nil P
each_share d P place (caller ∷ later) (now ∷ others) each =
    let Is : ℕ → CallerState → CallerState → Type 0 = λ n one other. P (share_of n one other) in
    All-cons P (share_of place caller now) (shares_from (place + 1) later others) (each_first d Is place caller now later others each)
    (each_share d P (place + 1) later others (each_later d Is place caller now later others each))

-- the passes come one behind the other, and so do the threads
share_passes : (d : CallerState) (place : ℕ) (first then_ : List CallerState) → length then_ ≡ length first → EachIs d (λ n caller now. number_of caller ≡ n + 1) place first then_
    → map (λ (s : Share). s.number) (shares_from place first then_) ≡ range_with_len (place + 1) (length first)
share_passes d place [] then_ long each = refl
share_passes d place (caller ∷ later) [] long each = absurd (omega (arith, long))
share_passes d place (caller ∷ later) (now ∷ others) long each =
    let Is : ℕ → CallerState → CallerState → Type 0 = λ n one other. number_of one ≡ n + 1 in
    ap₂ (λ n l. n ∷ l) (each_first d Is place caller now later others each) (share_passes d (place + 1) later others (omega (arith, long)) (each_later d Is place caller now later others each))

share_threads : (place : ℕ) (first then_ : List CallerState) → length then_ ≡ length first → map (λ (s : Share). s.thread) (shares_from place first then_) ≡ range_with_len place (length first)
share_threads place [] then_ long = refl
share_threads place (caller ∷ later) [] long = absurd (omega (arith, long))
share_threads place (caller ∷ later) (now ∷ others) long = ap (λ l. place ∷ l) (share_threads (place + 1) later others (omega (arith, long)))

-- and all that is listed is theirs
pub listed_shares : (place : ℕ) (first then_ : List CallerState) → length then_ ≡ length first → IsPermutation (all_listed then_) (flat_map (λ (s : Share). s.made) (shares_from place first then_))
listed_shares place [] [] long = IsPermutation-refl []
listed_shares place [] (now ∷ others) long = absurd (omega (arith, long))
listed_shares place (caller ∷ later) [] long = absurd (omega (arith, long))
listed_shares place (caller ∷ later) (now ∷ others) long =
    let more = flat_map (λ (s : Share). s.made) (shares_from (place + 1) later others) in
    IsPermutation-trans (all_listed others ++ listed now) (listed now ++ all_listed others) (listed now ++ more) (IsPermutation-append_comm (all_listed others) (listed now))
    (IsPermutation-append_right (listed now) (all_listed others) more (listed_shares (place + 1) later others (omega (arith, long))))

-- ---- lists

twice_mapped : (made : List MadeCall) → map (λ (m : MadeCall). m.call.line) made ≡ map (λ (call : TracedCall). call.line) (calls_made made)
twice_mapped [] = refl
twice_mapped (m ∷ later) = ap (λ (lines : List ℕ). m.call.line ∷ lines) (twice_mapped later)

distinct_front : (xs ys : List ℕ) → AreDistinctNumbers (xs ++ ys) → AreDistinctNumbers xs
distinct_front [] ys distinct = tt
distinct_front (x ∷ xs) ys distinct = (λ there. distinct.0 (one_left xs ys x there), distinct_front xs ys distinct.1)

pub own_front : (calls more : List TracedCall) → HaveOwnLines (calls ++ more) → HaveOwnLines calls
own_front calls more own =
    distinct_front (map (λ (call : TracedCall). call.line) calls) (map (λ (call : TracedCall). call.line) more) (subst AreDistinctNumbers (map-append (λ (call : TracedCall). call.line) calls more) own)

call_alone : {X : Type 0} (made : X → MadeCall) (xs : List X) → calls_made (map made xs) ≡ map (λ x. (made x).call) xs
call_alone made [] = refl
call_alone made (x ∷ xs) = ap (λ (l : List TracedCall). (made x).call ∷ l) (call_alone made xs)

parts_alone : (placed : List PlacedCall) (refused : List RefusedCall) (opened : List OpenedCall) → calls_made (map placed_made placed ++ map refused_made refused ++ map opened_made opened)
    ≡ map (λ p. p.call) placed ++ map (λ r. r.call) refused ++ map (λ o. o.call) opened
parts_alone placed refused opened =
    map-append (λ (m : MadeCall). m.call) (map placed_made placed ++ map refused_made refused) (map opened_made opened)
    ∙ ap₂ (λ (xs ys : List TracedCall). xs ++ ys)
    (map-append (λ (m : MadeCall). m.call) (map placed_made placed) (map refused_made refused)
    ∙ ap₂ (λ (xs ys : List TracedCall). xs ++ ys) (call_alone placed_made placed) (call_alone refused_made refused))
    (call_alone opened_made opened)

-- ---- of a schedule

module _ (mount : MountState) (calls : List TracedCall) (batch : ℕ) (then_ : List CallerState) (zero_then : PassState) (placed_count : ℕ) (called : HaveCalled mount calls batch then_ zero_then)
    (history : HasOneHistory zero_then.view placed_count) (order : AreInLineOrder calls) where
  pub told_first : (i : ℕ) (d : CallerState) → i < length called.first → AreFirstOf (calls_of_thread i calls) (calls_made (listed (slice_index_or then_ i d))) (unanswered (slice_index_or then_ i d))
  told_first i d less = own_first mount calls batch called.first then_ called.unmade called.works called.come called.count i d less

  -- what is listed of it are calls of its thread in the trace
  pub told_there : (i : ℕ) (d : CallerState) → i < length called.first → (m : MadeCall) → IsOneOf (listed (slice_index_or then_ i d)) m → IsOneOf calls m.call × (m.call.thread ≡ i)
  told_there i d less m one =
      let told = calls_made (listed (slice_index_or then_ i d)) in
      let untold = unanswered (slice_index_or then_ i d) in
      let are = told_first i d less in
      kept_one i calls m.call
      (subst (λ l. IsOneOf l m.call) (sym are.first) (one_left (told ++ untold) are.left m.call (one_left told untold m.call (one_mapped (λ (m : MadeCall). m.call) (listed (slice_index_or then_ i d)) m one))))

  pub told_rises : (i : ℕ) (d : CallerState) → i < length called.first → AreInLineOrder (calls_made (listed (slice_index_or then_ i d)))
  told_rises i d less =
      let told = calls_made (listed (slice_index_or then_ i d)) in
      let untold = unanswered (slice_index_or then_ i d) in
      let are = told_first i d less in
      front_rises told (untold ++ are.left) (subst AreInLineOrder (are.first ∙ append_assoc told untold are.left) (thread_rises i calls order))

  pub share_at : (i : ℕ) (d : CallerState) → i < length called.first → IsShareOf mount.fds (history_then zero_then.view) (share_of i (slice_index_or called.first i d) (slice_index_or then_ i d))
  share_at i d less =
      let from = slice_index_or called.first i d in
      let to = slice_index_or then_ i d in
      let stands = stands_as mount.fds (number_of from) to.work to.pass from.pass (history_then zero_then.view) (called.told i d less) in
      record {
        own = of_each (λ (m : MadeCall). m.call.thread ≡ i) (listed to) (λ m one. (told_there i d less m one).1);
        in_lines = subst IsStrictlyIncreasing (sym (twice_mapped (listed to))) (told_rises i d less);
        stand = stands.0;
        placed_are = stands.1;
      }

  numbers_are : map (λ (s : Share). s.number) (shares_from 0 called.first then_) ≡ range_with_len (0 + 1) (length called.first)
  numbers_are = share_passes (any_caller zero_then) 0 called.first then_ called.count (λ i less. (let n = (called.fresh i (any_caller zero_then) less).number in omega (arith, n)))

  -- each pass that was taken in has one
  pub past_listed : (past : Past) → IsOneOf zero_then.view.ended past → IsOneOf (map (λ (s : Share). s.number) (shares_from 0 called.first then_)) past.number
  past_listed past one =
      let whose = past_of_some then_ zero_then.view.ended past called.taken one in
      let d = any_caller zero_then in
      let place = whose.place in
      let within = whose.there in
      let count = called.count in
      let less : place < length called.first = omega (arith, within, count) in
      let stood = stood_number (slice_index_or then_ place d).pass past (whose.stood d) in
      let same = (called.come place d less).number in
      let fresh = (called.fresh place d less).number in
      subst (λ l. IsOneOf l past.number) (sym numbers_are) (in_range (0 + 1) (length called.first) past.number (omega (arith, stood, same, fresh)) (omega (arith, stood, same, fresh, less)))

  nobody_else : (number : ℕ) → (IsOneOf (map (λ (s : Share). s.number) (shares_from 0 called.first then_)) number → ⊥) → calls_by number (history_then zero_then.view) ≡ []
  nobody_else number absent = elim (cases_eq number zero_then.view.number) [
    | inl same ↦ ap (λ n. calls_by n (history_then zero_then.view)) same ∙ history.own ∙ called.none
    | inr ne ↦ history.others number ne (λ past one is. absent (subst (IsOneOf (map (λ (s : Share). s.number) (shares_from 0 called.first then_))) is (past_listed past one)))
  ]

  at_place : (i : ℕ) → IsShareOf mount.fds (history_then zero_then.view) (share_of i (slice_index_or called.first i (any_caller zero_then)) (slice_index_or then_ i (any_caller zero_then)))
      → IsShareOf mount.fds (history_then zero_then.view) (share_of (0 + i) (slice_index_or called.first i (any_caller zero_then)) (slice_index_or then_ i (any_caller zero_then)))
  at_place i is =
      let place : i ≡ 0 + i = omega arith in
      subst (λ n. IsShareOf mount.fds (history_then zero_then.view) (share_of n (slice_index_or called.first i (any_caller zero_then)) (slice_index_or then_ i (any_caller zero_then)))) place is

  pub are_shares : AreShares mount.fds (history_then zero_then.view) (shares_from 0 called.first then_)
  are_shares = record {
    each = each_share (any_caller zero_then) (IsShareOf mount.fds (history_then zero_then.view)) 0 called.first then_ (λ i less. at_place i (share_at i (any_caller zero_then) less));
    passes = subst AreDistinctNumbers (sym numbers_are) (distinct_range (0 + 1) (length called.first));
    threads = subst AreDistinctNumbers (sym (share_threads 0 called.first then_ called.count)) (distinct_range 0 (length called.first));
    others = nobody_else;
  }

-- The placed ones among all that is listed, sorted by their places, are the history.
pub called_history : (mount : MountState) (calls : List TracedCall) (batch : ℕ) (then_ : List CallerState) (zero : PassState) (placed : ℕ) (made : List MadeCall) (sorted : List PlacedCall) → HaveCalled mount calls batch then_ zero
    → HasOneHistory zero.view placed → made ≡ all_listed then_ → AreInLineOrder calls → AreOfOneRound calls → IsPermutation (placed_calls made) sorted → IsNonDecreasingBy (λ p. p.place) sorted
    → AreHistory mount.fds sorted (history_then zero.view)
called_history mount calls batch then_ zero placed made sorted called history are order one_round moved rises =
    let begun = called_begin mount calls batch then_ zero (calls_made made) (all_unanswered then_) called (ap calls_made are) refl order in
    let shares = shares_from 0 called.first then_ in
    let theirs : IsPermutation made (flat_map (λ (s : Share). s.made) shares) =
    subst (λ l. IsPermutation l (flat_map (λ (s : Share). s.made) shares)) (sym are) (listed_shares 0 called.first then_ called.count) in
    let rounds : All (λ (m : MadeCall). m.call.round ≡ one_round.0) made =
    of_each (λ (m : MadeCall). m.call.round ≡ one_round.0) made
    (λ m one. of_one (λ (call : TracedCall). call.round ≡ one_round.0) calls m.call one_round.1
    (begun_within calls (calls_made made) (all_unanswered then_) begun.first m.call (one_left (calls_made made) (all_unanswered then_) m.call (one_mapped (λ (m : MadeCall). m.call) made m one)))) in
    shares_are_history mount.fds (history_then zero.view) shares made one_round.0 sorted (are_shares mount calls batch then_ zero placed called history order) theirs rounds moved rises

pub schedules_are_told : SchedulesAreTold
schedules_are_told mount tokens calls batch then_ zero told sorted part_values store_values parts stores faults placed tail followed are closed order one_round out =
    let made = made_calls told.answered.items in
    let begun = schedules_begin mount tokens calls batch then_ zero told followed are order in
    let own = own_front (listed_calls told) (unanswered_calls told) begun.own_lines in
    let each = map placed_made (map placed_call sorted.placed.items) ++ map refused_made (map refused_call sorted.refused.items) ++ map opened_made (map opened_call sorted.open_calls.items) in
    record {
      placed = called_history mount calls batch then_ zero placed made (map placed_call sorted.placed.items) (called_of mount tokens calls batch (Ok tt) then_ zero followed) closed.history are.answered order one_round out.placed out.by_place;
      listed = subst (IsPermutation (listed_calls told)) (parts_alone (map placed_call sorted.placed.items) (map refused_call sorted.refused.items) (map opened_call sorted.open_calls.items))
          (IsPermutation-map (λ (m : MadeCall). m.call) made each out.listed);
      in_lines = refused_in_lines made (map refused_call sorted.refused.items) own out.refused out.by_line;
      open_in_lines = open_in_lines made (map opened_call sorted.open_calls.items) own out.left_open out.open_by_line;
    }

pub schedules_are_legal : SchedulesAreLegal
schedules_are_legal mount tokens calls batch then_ zero told sorted part_values store_values parts stores faults placed tail followed calls_are closed order one_round out on_file on_files files next log opens =
    let are = schedules_are_told mount tokens calls batch then_ zero told sorted part_values store_values parts stores faults placed tail followed calls_are closed order one_round out in
    let legal = threads_are_legal mount.fds on_file (map placed_call sorted.placed.items) (history_then zero.view) files on_files are.placed (closed.history.legal files next log opens) in
    (legal.1, legal.2)
