-- Rounds: how those of a trace follow one another.
use Rattle.std.proofs.Common.{◌≡◌, ◌≢◌, ℕ, ◌+◌, ◌<◌, List, [], ◌∷◌, ◌++◌, length, map, get_or, take, refl, sym, ap, subst, ◌∙◌, arith, append_assoc, append-nil, length-append, inl, inr}
use Rattle.std.specs.Prelude.{All, IsPermutation, slice_index_or}
use Rattle.std.specs.List.Sorted.{IsStrictlyIncreasing}
use Rattle.std.proofs.lemmas.List.{get_or-append-add, get_or-drop, get_or-take, get_or_append_left, length-drop, length-take, map-append}
use Rattle.std.proofs.lemmas.List.Sorted.{IsPermutation-append_left, IsPermutation-refl, IsPermutation-trans}
use Rattle.nv_core.specs.state.Passes.{IsOneOf}
use Rattle.nv_trace.specs.declared.trace_call.TracedCall.{TracedCall}
use Rattle.nv_runner.specs.Lists.{MadeCall, calls_made}
use Rattle.nv_runner.specs.Rounds.{AreCallsOf, AreInLineOrder, AreInRoundOrder, AreMoreOf, IsNextRound, IsRoundLong}
use Rattle.nv_runner.proofs.histories.HistoryMembers.{of_each, of_one, one_either, one_left, one_mapped, one_moved, one_right}

-- ---- parts of lists that rise

rises_back : (front rest : List ℕ) → IsStrictlyIncreasing (front ++ rest) → IsStrictlyIncreasing rest
rises_back front rest rise k below =
    let long = length-append front rest in
    let pair = rise (length front + k) (omega (arith, long, below)) in
    let first = get_or-append-add front rest k 0 in
    let second = get_or-append-add front rest (k + 1) 0 in
    let same : length front + k + 1 ≡ length front + (k + 1) = omega arith in
    omega (arith, pair, first, second, ap (λ i. get_or (front ++ rest) i 0) same)

rises_front : (front rest : List ℕ) → IsStrictlyIncreasing (front ++ rest) → IsStrictlyIncreasing front
rises_front front rest rise k below =
    let long = length-append front rest in
    let pair = rise k (omega (arith, long, below)) in
    omega (arith, pair, get_or_append_left front rest 0 k (omega arith), get_or_append_left front rest 0 (k + 1) below)

-- a part of some calls that stand in the order of their lines does too
pub lines_within : (before front later : List TracedCall) → AreInLineOrder (before ++ (front ++ later)) → AreInLineOrder front
lines_within before front later order =
    let lines : TracedCall → ℕ = λ call. call.line in
    rises_front (map lines front) (map lines later)
    (subst IsStrictlyIncreasing (map-append lines front later)
    (rises_back (map lines before) (map lines (front ++ later)) (subst IsStrictlyIncreasing (map-append lines before (front ++ later)) order)))

pub rounds_behind : (before rest : List TracedCall) → AreInRoundOrder (before ++ rest) → AreInRoundOrder rest
rounds_behind before rest order i j d low within =
    let long = length-append before rest in
    let pair = order (length before + i) (length before + j) d (omega arith) (omega (arith, long, within)) in
    let first = ap (λ (c : TracedCall). c.round) (get_or-append-add before rest i d) in
    let second = ap (λ (c : TracedCall). c.round) (get_or-append-add before rest j d) in
    omega (arith, pair, first, second)

-- ---- the calls that are left

-- Some calls are left, and those before them were made, in rounds before theirs.
pub record AreLeft (calls rest : List TracedCall) (made : List MadeCall) : Type 0 where
  pub done : List TracedCall
  pub split : calls ≡ done ++ rest
  pub listed : IsPermutation (calls_made made) done
  pub before : (one other : TracedCall) → IsOneOf done one → IsOneOf rest other → one.round < other.round

-- the first of them are the next round
pub next_round : (threads round : ℕ) (calls rest front later : List TracedCall) (made : List MadeCall) → AreLeft calls rest made → rest ≡ front ++ later → 0 < length rest
    → ((d : TracedCall) → (slice_index_or rest 0 d).round ≡ round) → All (λ (c : TracedCall). c.round ≡ round) front → All (λ (c : TracedCall). c.thread < threads) calls → AreInLineOrder calls
    → IsNextRound threads front made
next_round threads round calls [] front later made left split some first one below order = absurd (omega arith)
next_round threads round calls (here ∷ more) front later made left split some first one below order =
    let whole : calls ≡ left.done ++ (front ++ later) = left.split ∙ ap (λ l. left.done ++ l) split in
    let is : here.round ≡ round = first here in
    record {
      round = round;
      one = one;
      before = of_each (λ (m : MadeCall). m.call.round < round) made
          (λ m among. (let low = left.before m.call here (one_moved (calls_made made) left.done m.call left.listed (one_mapped (λ (m : MadeCall). m.call) made m among)) (inl refl) in omega (arith, low, is)));
      below = of_each (λ (c : TracedCall). c.thread < threads) front
          (λ c among. of_one (λ (c : TracedCall). c.thread < threads) calls c below (subst (λ l. IsOneOf l c) (sym whole) (one_right left.done (front ++ later) c (one_left front later c among))));
      line_order = lines_within left.done front later (subst AreInLineOrder whole order);
    }

-- when it was made, the others are left
pub left_on : (round : ℕ) (calls rest front later : List TracedCall) (made now : List MadeCall) → AreLeft calls rest made → rest ≡ front ++ later → All (λ (c : TracedCall). c.round ≡ round) front
    → All (λ (c : TracedCall). round < c.round) later → IsPermutation (calls_made now) (calls_made made ++ front) → AreLeft calls later now
left_on round calls rest front later made now left split one after listed = record {
  done = left.done ++ front;
  split = left.split ∙ ap (λ l. left.done ++ l) split ∙ sym (append_assoc left.done front later);
  listed = IsPermutation-trans (calls_made now) (calls_made made ++ front) (left.done ++ front) listed (IsPermutation-append_left front (calls_made made) left.done left.listed);
  before = λ c d is_c is_d. elim (one_either left.done front c is_c) [
    | inl old ↦ left.before c d old (subst (λ l. IsOneOf l d) (sym split) (one_right front later d is_d))
    | inr new ↦ (let here = of_one (λ (c : TracedCall). c.round ≡ round) front c one new in let there = of_one (λ (c : TracedCall). round < c.round) later d after is_d in omega (arith, here, there))
  ];
}

pub left_first : (calls : List TracedCall) (made : List MadeCall) → made ≡ [] → AreLeft calls calls made
left_first calls made none = record {
  done = [];
  split = refl;
  listed = subst (λ l. IsPermutation (calls_made l) []) (sym none) (IsPermutation-refl []);
  before = λ one other is. absurd is;
}

pub left_none : (calls rest : List TracedCall) (made : List MadeCall) → AreLeft calls rest made → length rest ≡ 0 → IsPermutation (calls_made made) calls
left_none calls [] made left none = subst (IsPermutation (calls_made made)) (sym (left.split ∙ append-nil left.done)) left.listed
left_none calls (first ∷ more) made left none = absurd (omega (arith, none))

-- those that were made are some of all
pub left_within : (calls rest : List TracedCall) (made : List MadeCall) → AreLeft calls rest made → AreCallsOf calls made
left_within calls rest made left m one =
    subst (λ l. IsOneOf l m.call) (sym left.split) (one_left left.done rest m.call (one_moved (calls_made made) left.done m.call left.listed (one_mapped (λ (m : MadeCall). m.call) made m one)))

-- and so they are with some of the next round
pub more_within : (calls rest front later : List TracedCall) (made now : List MadeCall) → AreLeft calls rest made → rest ≡ front ++ later → AreMoreOf front made now → AreCallsOf calls now
more_within calls rest front later made now left split more m one = elim (more m one) [
  | inl old ↦ left_within calls rest made left m old
  | inr new ↦ subst (λ l. IsOneOf l m.call) (sym (left.split ∙ ap (λ l. left.done ++ l) split)) (one_right left.done (front ++ later) m.call (one_left front later m.call new))
]

-- the calls that are left don't fall either
pub left_order : (calls rest : List TracedCall) (made : List MadeCall) → AreLeft calls rest made → AreInRoundOrder calls → AreInRoundOrder rest
left_order calls rest made left order = rounds_behind left.done rest (subst AreInRoundOrder left.split order)

-- ---- how long a round is

-- the next call is of another round
pub round_ends : (calls : List TracedCall) (round count : ℕ) → AreInRoundOrder calls → 0 < count → count < length calls → All (λ (c : TracedCall). c.round ≡ round) (take count calls)
    → ((d : TracedCall) → (get_or calls count d).round ≢ round) → IsRoundLong calls count
round_ends calls round count order some less one other =
    let first : (d : TracedCall) → (get_or calls 0 d).round ≡ round = λ d. ap (λ (c : TracedCall). c.round) (sym (get_or-take count calls 0 d some)) ∙ one 0 d (let long = length-take count calls in omega (arith, long)) in
    record {
      round = round;
      first = first;
      some = some;
      within = omega arith;
      one = one;
      later = λ k d inside. (
          let low = order 0 count d (omega arith) less in
          let high = order count (count + k) d (omega arith) (omega (arith, length-drop count calls, inside)) in
          let here = first d in
          let differ = other d in
          let there = ap (λ (c : TracedCall). c.round) (get_or-drop count calls k d) in
          omega (arith, low, high, here, differ, there)
          );
    }

-- no call is
pub round_is_all : (calls : List TracedCall) (round : ℕ) → 0 < length calls → All (λ (c : TracedCall). c.round ≡ round) (take (length calls) calls) → IsRoundLong calls (length calls)
round_is_all calls round some one = record {
  round = round;
  first = λ d. ap (λ (c : TracedCall). c.round) (sym (get_or-take (length calls) calls 0 d some)) ∙ one 0 d (let long = length-take (length calls) calls in omega (arith, long));
  some = some;
  within = omega arith;
  one = one;
  later = λ k d inside. absurd (omega (arith, length-drop (length calls) calls, inside));
}
