-- Thread lists: the calls of a thread among those of all callers.
use Rattle.std.proofs.Common.{◌≡◌, ◌≢◌, ℕ, zero, suc, ◌+◌, ◌<◌, cond, List, [], ◌∷◌, ◌++◌, length, map, inl, inr, refl, sym, ap, ap₂, subst, ◌∙◌, arith, append-nil, eqb, eq-eqb, ne_eqb}
use Rattle.std.specs.Prelude.{slice_index_or}
use Rattle.std.specs.List.{AllPairs}
use Rattle.std.specs.List.Sorted.{IsStrictlyIncreasing}
use Rattle.std.proofs.lemmas.Bool.{cases_eq}
use Rattle.std.proofs.lemmas.List.{get_or-map, get_or_append_left, length-append, length-map, map-append}
use Rattle.std.proofs.lemmas.List.Elements.{filter-append}
use Rattle.std.proofs.lemmas.List.Kept.{AllPairs-filter, AllPairs-from_increasing}
use Rattle.nv_core.specs.state.Passes.{IsOneOf}
use Rattle.nv_trace.specs.declared.trace_call.TracedCall.{TracedCall}
use Rattle.nv_runner.specs.Rounds.{AreInLineOrder}
use Rattle.nv_runner.specs.Shifts.{calls_of_thread}
use Rattle.nv_runner.specs.Sorted.{HaveOwnLines}
use Rattle.nv_runner.proofs.histories.HistoryMembers.{one_mapped, one_of_mapped}
use Rattle.nv_runner.proofs.LineLaws.{rising_distinct}
use Rattle.nv_schedule.specs.Turns.{CallerState}

-- ---- one call

call_here : (thread : ℕ) (call : TracedCall) (calls : List TracedCall) → call.thread ≡ thread → calls_of_thread thread (call ∷ calls) ≡ call ∷ calls_of_thread thread calls
call_here thread call calls is = ap (λ b. cond b (call ∷ calls_of_thread thread calls) (calls_of_thread thread calls)) (eq-eqb call.thread thread is)

call_apart : (thread : ℕ) (call : TracedCall) (calls : List TracedCall) → call.thread ≢ thread → calls_of_thread thread (call ∷ calls) ≡ calls_of_thread thread calls
call_apart thread call calls ne = ap (λ b. cond b (call ∷ calls_of_thread thread calls) (calls_of_thread thread calls)) (ne_eqb call.thread thread ne)

-- ---- the calls of one thread

pub one_kept : (thread : ℕ) (calls : List TracedCall) (call : TracedCall) → IsOneOf calls call → call.thread ≡ thread → IsOneOf (calls_of_thread thread calls) call
one_kept thread [] call one is = absurd one
one_kept thread (first ∷ rest) call (inl same) is =
    subst (λ l. IsOneOf l call) (sym (call_here thread first rest (sym (ap (λ (c : TracedCall). c.thread) same) ∙ is))) (inl same)
one_kept thread (first ∷ rest) call (inr later) is = elim (cases_eq first.thread thread) [
  | inl here ↦ subst (λ l. IsOneOf l call) (sym (call_here thread first rest here)) (inr (one_kept thread rest call later is))
  | inr ne ↦ subst (λ l. IsOneOf l call) (sym (call_apart thread first rest ne)) (one_kept thread rest call later is)
]

kept_here : (thread : ℕ) (first call : TracedCall) (rest : List TracedCall) → first.thread ≡ thread → (IsOneOf (calls_of_thread thread rest) call → IsOneOf rest call × (call.thread ≡ thread))
    → IsOneOf (first ∷ calls_of_thread thread rest) call → IsOneOf (first ∷ rest) call × (call.thread ≡ thread)
kept_here thread first call rest here later (inl same) = (inl same, ap (λ (c : TracedCall). c.thread) same ∙ here)
kept_here thread first call rest here later (inr one) = (let found = later one in (inr found.0, found.1))

pub kept_one : (thread : ℕ) (calls : List TracedCall) (call : TracedCall) → IsOneOf (calls_of_thread thread calls) call → IsOneOf calls call × (call.thread ≡ thread)
kept_one thread [] call one = absurd one
kept_one thread (first ∷ rest) call one = elim (cases_eq first.thread thread) [
  | inl here ↦ kept_here thread first call rest here (kept_one thread rest call) (subst (λ l. IsOneOf l call) (call_here thread first rest here) one)
  | inr ne ↦ (let found = kept_one thread rest call (subst (λ l. IsOneOf l call) (call_apart thread first rest ne) one) in (inr found.0, found.1))
]

-- all of some calls are of one thread
abbrev pub AreOfThread : (thread : ℕ) → List TracedCall → Type 0
AreOfThread thread calls = (call : TracedCall) → IsOneOf calls call → call.thread ≡ thread

pub own_kept : (thread : ℕ) (calls : List TracedCall) → AreOfThread thread calls → calls_of_thread thread calls ≡ calls
own_kept thread [] own = refl
own_kept thread (first ∷ rest) own = call_here thread first rest (own first (inl refl)) ∙ ap (λ l. first ∷ l) (own_kept thread rest (λ call one. own call (inr one)))

pub others_gone : (thread other : ℕ) (calls : List TracedCall) → AreOfThread other calls → thread ≢ other → calls_of_thread thread calls ≡ []
others_gone thread other [] own ne = refl
others_gone thread other (first ∷ rest) own ne =
    call_apart thread first rest (λ is. ne (sym is ∙ own first (inl refl))) ∙ others_gone thread other rest (λ call one. own call (inr one)) ne

-- ---- those of all callers, the last one's first

abbrev pub joined : (CallerState → List TracedCall) → List CallerState → List TracedCall
joined calls_by [] = []
joined calls_by (caller ∷ later) = joined calls_by later ++ calls_by caller

-- each caller's calls are of the thread of its place
abbrev pub EachOwn : (CallerState → List TracedCall) → (from : ℕ) → List CallerState → Type 0
EachOwn calls_by from callers = (i : ℕ) (d : CallerState) → i < length callers → AreOfThread (from + i) (calls_by (slice_index_or callers i d))

own_later : (calls_by : CallerState → List TracedCall) (from : ℕ) (caller : CallerState) (later : List CallerState) → EachOwn calls_by from (caller ∷ later) → EachOwn calls_by (from + 1) later
own_later calls_by from caller later own i d less =
    let place : from + suc i ≡ from + 1 + i = omega arith in
    subst (λ n. AreOfThread n (calls_by (slice_index_or later i d))) place (own (suc i) d (omega (arith, less)))

own_first : (calls_by : CallerState → List TracedCall) (from : ℕ) (caller : CallerState) (later : List CallerState) → EachOwn calls_by from (caller ∷ later) → AreOfThread from (calls_by caller)
own_first calls_by from caller later own = let place : from + 0 ≡ from = omega arith in subst (λ n. AreOfThread n (calls_by caller)) place (own 0 caller (omega arith))

-- of a thread of no caller
pub none_joined : (calls_by : CallerState → List TracedCall) (from thread : ℕ) (callers : List CallerState) → EachOwn calls_by from callers → ((i : ℕ) → i < length callers → thread ≢ from + i)
    → calls_of_thread thread (joined calls_by callers) ≡ []
none_joined calls_by from thread [] own apart = refl
none_joined calls_by from thread (caller ∷ later) own apart =
    filter-append (λ (call : TracedCall). eqb call.thread thread) (joined calls_by later) (calls_by caller)
    ∙ ap₂ (λ xs ys. xs ++ ys)
    (none_joined calls_by (from + 1) thread later (own_later calls_by from caller later own) (λ i less is. apart (suc i) (omega (arith, less)) (omega (arith, is))))
    (others_gone thread from (calls_by caller) (own_first calls_by from caller later own) (λ is. apart 0 (omega arith) (omega (arith, is))))

-- of that of one
pub one_joined : (calls_by : CallerState → List TracedCall) (from i : ℕ) (callers : List CallerState) (d : CallerState) → EachOwn calls_by from callers → i < length callers
    → calls_of_thread (from + i) (joined calls_by callers) ≡ calls_by (slice_index_or callers i d)
one_joined calls_by from i [] d own less = absurd (omega (arith, less))
one_joined calls_by from zero (caller ∷ later) d own less =
    let place : from + 0 ≡ from = omega arith in
    ap (λ n. calls_of_thread n (joined calls_by (caller ∷ later))) place
    ∙ filter-append (λ (call : TracedCall). eqb call.thread from) (joined calls_by later) (calls_by caller)
    ∙ ap₂ (λ xs ys. xs ++ ys) (none_joined calls_by (from + 1) from later (own_later calls_by from caller later own) (λ i less is. absurd (omega (arith, is))))
    (own_kept from (calls_by caller) (own_first calls_by from caller later own))
one_joined calls_by from (suc i) (caller ∷ later) d own less =
    let place : from + suc i ≡ from + 1 + i = omega arith in
    filter-append (λ (call : TracedCall). eqb call.thread (from + suc i)) (joined calls_by later) (calls_by caller)
    ∙ ap₂ (λ xs ys. xs ++ ys)
    (ap (λ n. calls_of_thread n (joined calls_by later)) place ∙ one_joined calls_by (from + 1) i later d (own_later calls_by from caller later own) (omega (arith, less)))
    (others_gone (from + suc i) from (calls_by caller) (own_first calls_by from caller later own) (λ is. absurd (omega (arith, is))))
    ∙ append-nil (calls_by (slice_index_or later i d))

-- ---- lines

abbrev line_of : TracedCall → ℕ
line_of call = call.line

-- the lines of a thread's calls rise where those of all do
pub pairs_of : (calls : List TracedCall) → AreInLineOrder calls → AllPairs (λ a b. a.line < b.line) calls
pairs_of calls order i j d before within =
    let rise = AllPairs-from_increasing (map line_of calls) order i j d.line before (omega (arith, length-map calls line_of, within)) in
    omega (arith, rise, get_or-map line_of calls i d d.line (omega (arith, before, within)), get_or-map line_of calls j d d.line within)

rise_of : (calls : List TracedCall) → AllPairs (λ a b. a.line < b.line) calls → AreInLineOrder calls
rise_of [] pairs k within = absurd (omega (arith, within))
rise_of (first ∷ rest) pairs k within =
    let long = length-map (first ∷ rest) line_of in
    let up = pairs k (k + 1) first (omega arith) (omega (arith, long, within)) in
    omega (arith, up, get_or-map line_of (first ∷ rest) k first 0 (omega (arith, long, within)), get_or-map line_of (first ∷ rest) (k + 1) first 0 (omega (arith, long, within)))

pub thread_rises : (thread : ℕ) (calls : List TracedCall) → AreInLineOrder calls → AreInLineOrder (calls_of_thread thread calls)
thread_rises thread calls order = rise_of (calls_of_thread thread calls) (AllPairs-filter (λ (a b : TracedCall). a.line < b.line) (λ (call : TracedCall). eqb call.thread thread) calls (pairs_of calls order))

-- and so do those of the first ones
pub front_rises : (front rest : List TracedCall) → AreInLineOrder (front ++ rest) → AreInLineOrder front
front_rises front rest order k below =
    let lines : List ℕ = map line_of front in
    let whole = map-append line_of front rest in
    let long = length-append lines (map line_of rest) in
    let all : IsStrictlyIncreasing (lines ++ map line_of rest) = subst IsStrictlyIncreasing whole order in
    let pair = all k (omega (arith, long, below)) in
    omega (arith, pair, get_or_append_left lines (map line_of rest) 0 k (omega (arith, below)), get_or_append_left lines (map line_of rest) 0 (k + 1) below)

-- ---- no two of one line

one_of_line : (calls : List TracedCall) (a b : TracedCall) → HaveOwnLines calls → IsOneOf calls a → IsOneOf calls b → a.line ≡ b.line → a ≡ b
one_of_line [] a b distinct one other same = absurd one
one_of_line (first ∷ rest) a b distinct (inl is) (inl also) same = is ∙ sym also
one_of_line (first ∷ rest) a b distinct (inl is) (inr later) same =
    let line : b.line ≡ first.line = sym same ∙ ap line_of is in
    absurd (distinct.0 (subst (IsOneOf (map line_of rest)) line (one_mapped line_of rest b later)))
one_of_line (first ∷ rest) a b distinct (inr later) (inl is) same =
    let line : a.line ≡ first.line = same ∙ ap line_of is in
    absurd (distinct.0 (subst (IsOneOf (map line_of rest)) line (one_mapped line_of rest a later)))
one_of_line (first ∷ rest) a b distinct (inr one) (inr other) same = one_of_line rest a b distinct.1 one other same

pub rising_own : (calls : List TracedCall) → AreInLineOrder calls → HaveOwnLines calls
rising_own calls order = rising_distinct (map line_of calls) (AllPairs-from_increasing (map line_of calls) order)

-- Some of the calls are each of a line of its own, where all are, and those of each thread.
pub own_by_thread : (calls some : List TracedCall) → HaveOwnLines calls → ((call : TracedCall) → IsOneOf some call → IsOneOf calls call) → ((thread : ℕ) → HaveOwnLines (calls_of_thread thread some)) → HaveOwnLines some
own_by_thread calls [] own within each = tt
own_by_thread calls (first ∷ rest) own within each = (
  apart,
  own_by_thread calls rest own (λ call one. within call (inr one)) later,
)
  where
    here : HaveOwnLines (first ∷ calls_of_thread first.thread rest)
    here = subst HaveOwnLines (call_here first.thread first rest refl) (each first.thread)

    apart : IsOneOf (map line_of rest) first.line → ⊥
    apart there =
        let found = one_of_mapped line_of rest first.line there in
        let same : found.0 ≡ first = one_of_line calls found.0 first own (within found.0 (inr found.1)) (within first (inl refl)) found.2 in
        let kept = one_kept first.thread rest found.0 found.1 (ap (λ (c : TracedCall). c.thread) same) in
        here.0 (subst (IsOneOf (map line_of (calls_of_thread first.thread rest))) found.2 (one_mapped line_of (calls_of_thread first.thread rest) found.0 kept))

    later : (thread : ℕ) → HaveOwnLines (calls_of_thread thread rest)
    later thread = elim (cases_eq first.thread thread) [
      | inl is ↦ (subst HaveOwnLines (call_here thread first rest is) (each thread)).1
      | inr ne ↦ subst HaveOwnLines (call_apart thread first rest ne) (each thread)
    ]
