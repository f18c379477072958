-- How many calls of each thread a life lists, and the calls that it leaves.
use Rattle.std.proofs.Common.{◌≡◌, ◌+◌, ◌≤◌, ◌<◌, ◌^◌, ◌++◌, ℕ, Bool, true, false, cond, eqb, leb, List, [], ◌∷◌, length, map, filter, drop, take, get_or, append_assoc, All, refl, sym, ap, ◌∙◌, arith}
use Rattle.std.specs.Prelude.{slice_index_or, sum_by}
use Rattle.std.specs.List.Sorted.{IsStrictlyIncreasing}
use Rattle.std.proofs.Math.Seq.{drop-append_seam, drop-nil}
use Rattle.std.proofs.lemmas.Bool.{eqb-true, leb-false, leb-true}
use Rattle.std.proofs.lemmas.List.{length-append, map-append, take_more}
use Rattle.std.proofs.lemmas.List.Elements.{All-head, All-tail, filter-append}
use Rattle.std.proofs.lemmas.List.Sorted.{sum_by-IsPermutation}
use Rattle.std.proofs.lemmas.List.Sums.{sum_by-cons}
use Rattle.nv_plain.specs.Faults.{saturated}
use Rattle.nv_trace.specs.Grammar.{last_thread}
use Rattle.nv_trace.specs.declared.trace_call.TracedCall.{TracedCall}
use Rattle.nv_runner.specs.FaithfulRuns.{shown_call}
use Rattle.nv_runner.specs.Histories.{PlacedCall}
use Rattle.nv_runner.specs.Reports.{OpenCall, ShownRefusal}
use Rattle.nv_runner.specs.Shifts.{calls_of_thread}
use Rattle.nv_runner.specs.Sorted.{placed_call}
use Rattle.nv_runner.specs.declared.shown.Shown.{Shown}
use Rattle.nv_runner.specs.declared.sorted.Placed.{Placed}
use Rattle.nv_schedule.specs.FaithfulSchedules.{BeginThreads}
use Rattle.nv_top.specs.LifeLines.{AreCounts}
use Rattle.nv_top.specs.LifeRows.{AreNotBegun}
use Rattle.nv_top.specs.Outcomes.{fated_call}
use Rattle.nv_top.specs.declared.outcome.Fated.{Fated}

-- ---- one more

one_more : (thread : ℕ) (calls : List TracedCall) (call : TracedCall) → length (calls_of_thread thread (calls ++ call ∷ [])) ≡ length (calls_of_thread thread calls) + cond (eqb call.thread thread) 1 0
one_more thread calls call =
    let of_it : TracedCall → Bool = λ call. eqb call.thread thread in
    ap length (filter-append of_it calls (call ∷ [])) ∙ length-append (calls_of_thread thread calls) (calls_of_thread thread (call ∷ [])) ∙ by (of_it call)
  where
    by : (is : Bool) → length (calls_of_thread thread calls) + length (cond is (call ∷ []) []) ≡ length (calls_of_thread thread calls) + cond is 1 0
    by true = refl
    by false = refl

pub counted_more : (calls : List TracedCall) (call : TracedCall) (counts more : List ℕ) → AreCounts calls counts
    → ((thread : ℕ) → thread ≤ last_thread → slice_index_or more thread 0 ≡ saturated (slice_index_or counts thread 0 + cond (eqb call.thread thread) 1 0)) → AreCounts (calls ++ call ∷ []) more
counted_more calls call counts more are each thread few =
    let here = are thread few in
    let new = each thread few in
    let all = one_more thread calls call in
    omega (arith, here, new, all)

-- one more of those that are looked at in their order
pub one_looked : {X : Type 0} (call_of : X → TracedCall) (front : List TracedCall) (all : List X) (index : ℕ) (item : X) → index < length all → item ≡ get_or all index item
    → (front ++ map call_of (take index all)) ++ call_of item ∷ [] ≡ front ++ map call_of (take (index + 1) all)
one_looked call_of front all index item inside is =
    append_assoc front (map call_of (take index all)) (call_of item ∷ [])
    ∙ ap (λ calls. front ++ calls) (sym (map-append call_of (take index all) (item ∷ [])) ∙ ap (map call_of) (ap (λ one. take index all ++ one ∷ []) is ∙ sym (take_more all index item inside)))

-- the calls of the lists that a report is made of are those that it lists
map_again : {X Y Z : Type 0} (f : Y → Z) (g : X → Y) (xs : List X) → map (λ x. f (g x)) xs ≡ map f (map g xs)
map_again f g [] = refl
map_again f g (x ∷ xs) = ap (λ rest. f (g x) ∷ rest) (map_again f g xs)

pub listed_are : (placed : List Placed) (shown : List Shown) (fated : List Fated) (refused : List ShownRefusal) → map shown_call shown ≡ refused
    → map (λ (p : Placed). p.call.now) placed ++ map (λ (r : Shown). r.call.now) shown ++ map (λ (o : Fated). o.call.now) fated
    ≡ map (λ (p : PlacedCall). p.call) (map placed_call placed) ++ map (λ (r : ShownRefusal). r.call) refused ++ map (λ (o : OpenCall). o.call) (map fated_call fated)
listed_are placed shown fated refused same =
    let front = map (λ (p : PlacedCall). p.call) (map placed_call placed) in
    let back = map (λ (o : Fated). o.call.now) fated in
    ap (λ calls. calls ++ map (λ (r : Shown). r.call.now) shown ++ back) (map_again (λ (p : PlacedCall). p.call) placed_call placed)
    ∙ ap (λ calls. front ++ calls ++ back) (map_again (λ (r : ShownRefusal). r.call) shown_call shown ∙ ap (map (λ (r : ShownRefusal). r.call)) same)
    ∙ ap (λ calls. front ++ map (λ (r : ShownRefusal). r.call) refused ++ calls) (map_again (λ (o : OpenCall). o.call) fated_call fated)

pub counted_none : (counts : List ℕ) → ((thread : ℕ) → thread ≤ last_thread → slice_index_or counts thread 0 ≡ 0) → AreCounts [] counts
counted_none counts none thread few = none thread few

-- ---- what is left

filter_counts : (keep : TracedCall → Bool) (calls : List TracedCall) → length (filter keep calls) ≡ sum_by (λ call. cond (keep call) 1 0) calls
filter_counts keep [] = refl
filter_counts keep (call ∷ calls) = by (keep call) (filter_counts keep calls) ∙ sym (sum_by-cons (λ call. cond (keep call) 1 0) call calls)
  where
    by : (is : Bool) → length (filter keep calls) ≡ sum_by (λ call. cond (keep call) 1 0) calls → length (cond is (call ∷ filter keep calls) (filter keep calls)) ≡ cond is 1 0 + sum_by (λ call. cond (keep call) 1 0) calls
    by true rest = omega (arith, rest)
    by false rest = omega (arith, rest)

filter_few : (keep : TracedCall → Bool) (calls : List TracedCall) → length (filter keep calls) ≤ length calls
filter_few keep [] = omega arith
filter_few keep (call ∷ calls) = by (keep call) (filter_few keep calls)
  where
    by : (is : Bool) → length (filter keep calls) ≤ length calls → length (cond is (call ∷ filter keep calls) (filter keep calls)) ≤ length (call ∷ calls)
    by true rest = omega (arith, rest)
    by false rest = omega (arith, rest)

pub no_front : {X : Type 0} (xs ys : List X) → xs ++ ys ≡ [] → xs ≡ []
no_front [] ys none = refl
no_front (x ∷ xs) ys none = cc

-- of a thread past the last one there is none
none_past : (thread : ℕ) → last_thread < thread → (calls : List TracedCall) → All (λ call. call.thread ≤ last_thread) calls → calls_of_thread thread calls ≡ []
none_past thread past [] few = refl
none_past thread past (call ∷ calls) few =
    by (eqb call.thread thread) refl (All-head (λ (call : TracedCall). call.thread ≤ last_thread) call calls few) (none_past thread past calls (All-tail (λ (call : TracedCall). call.thread ≤ last_thread) call calls few))
  where
    by : (is : Bool) → eqb call.thread thread ≡ is → call.thread ≤ last_thread → calls_of_thread thread calls ≡ [] → cond is (call ∷ calls_of_thread thread calls) (calls_of_thread thread calls) ≡ []
    by true same low rest = let here = eqb-true call.thread thread same in absurd (omega (arith, here, low, past))
    by false other low rest = rest

-- Where a report lists each thread's first calls, and so many of each are dropped, these are left.
pub are_left : (calls listed left : List TracedCall) (counts : List ℕ) → BeginThreads calls listed → AreCounts listed counts → length calls < 2 ^ 64 → All (λ call. call.thread ≤ last_thread) calls
    → ((thread : ℕ) → calls_of_thread thread left ≡ drop (slice_index_or counts thread 0) (calls_of_thread thread calls)) → IsStrictlyIncreasing (map (λ call. call.line) left) → AreNotBegun calls listed left
are_left calls listed left counts begin counts_are few threads dropped rise = record {
  begun = begin.begun;
  each_once = begin.each_once;
  first = λ thread. by thread (leb thread last_thread) refl;
  in_order = rise;
}
  where
    of_it : ℕ → TracedCall → Bool
    of_it thread call = eqb call.thread thread

    as_many : (thread : ℕ) → length (calls_of_thread thread begin.begun) ≡ length (calls_of_thread thread listed)
    as_many thread =
        filter_counts (of_it thread) begin.begun ∙ sum_by-IsPermutation (λ (call : TracedCall). cond (of_it thread call) 1 0) listed begin.begun begin.each_once ∙ sym (filter_counts (of_it thread) listed)

    by : (thread : ℕ) (low : Bool) → leb thread last_thread ≡ low → calls_of_thread thread calls ≡ calls_of_thread thread begin.begun ++ calls_of_thread thread left
    by thread true low =
        let first = begin.first thread in
        let begun = calls_of_thread thread begin.begun in
        let whole : length (calls_of_thread thread calls) ≡ length begun + length (begin.left thread) = ap length first ∙ length-append begun (begin.left thread) in
        let count : slice_index_or counts thread 0 ≡ length begun =
        omega (arith, counts_are thread (leb-true thread last_thread low), as_many thread, whole, filter_few (of_it thread) calls, few) in
        let rest : calls_of_thread thread left ≡ begin.left thread =
        dropped thread ∙ ap (λ count. drop count (calls_of_thread thread calls)) count ∙ ap (drop (length begun)) first ∙ drop-append_seam begun (begin.left thread) in
        first ∙ ap (λ rest. begun ++ rest) (sym rest)
    by thread false past =
        let none : calls_of_thread thread calls ≡ [] = none_past thread (leb-false thread last_thread past) calls threads in
        let begun : calls_of_thread thread begin.begun ≡ [] = no_front (calls_of_thread thread begin.begun) (begin.left thread) (sym (begin.first thread) ∙ none) in
        let rest : calls_of_thread thread left ≡ [] = dropped thread ∙ ap (drop (slice_index_or counts thread 0)) none ∙ drop-nil (slice_index_or counts thread 0) in
        none ∙ sym (ap (λ front. front ++ calls_of_thread thread left) begun ∙ rest)
