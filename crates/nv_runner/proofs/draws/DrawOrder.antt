-- Draw order: calls in the order of their times, and numbers one after another.
use Rattle.std.proofs.Common.{◌≡◌, ℕ, ◌+◌, ◌<◌, ◌≤◌, nat_lt, Bool, true, false, if◌then◌else◌, List, [], ◌∷◌, ◌++◌, map, filter, inl, inr, refl, sym, ap, subst, ◌∙◌, arith}
use Rattle.std.specs.Prelude.{IsPermutation}
use Rattle.std.specs.List.{flat_map}
use Rattle.std.proofs.lemmas.Bool.{le-ltb, lt-ltb, ltb-false, ltb-true}
use Rattle.std.proofs.lemmas.List.Sorted.{IsPermutation-cons, IsPermutation-middle, IsPermutation-refl, IsPermutation-sym, IsPermutation-trans}
use Rattle.nv_core.specs.state.Passes.{IsOneOf}
use Rattle.nv_core.specs.state.Words.{Sizes}
use Rattle.nv_core.proofs.state.Choices.{if_both}
use Rattle.nv_trace.specs.declared.trace_call.TraceCall.{TraceCall}
use Rattle.nv_trace.specs.declared.trace_call.TracedCall.{TracedCall}
use Rattle.nv_runner.specs.Entries.{entries_taken}
use Rattle.nv_runner.specs.DrawnNumbers.{AreInARow, DrawnCall}
use Rattle.nv_runner.specs.Histories.{ComesBefore, KeepOrder}
use Rattle.nv_runner.specs.Lists.{MadeCall}
use Rattle.nv_runner.specs.RunRefusals.{calls_that_drew}
use Rattle.nv_runner.specs.Runs.{entries_if, has_drawn}
use Rattle.nv_runner.proofs.draws.DrawTimes.{Timed, drew_by}
use Rattle.nv_runner.proofs.histories.HistoryMembers.{of_each, one_moved, one_of_mapped}
use Rattle.nv_runner.proofs.histories.HistorySums.{added, added_append, added_none, added_same}

-- ---- by their times

-- each of some calls has a time no later than those behind it
abbrev pub DontFall : List Timed → Type 0
DontFall [] = Unit {0}
DontFall (first ∷ later) = ((t : Timed) → IsOneOf later t → first.time ≤ t.time) × DontFall later

abbrev put : Timed → List Timed → List Timed
put t [] = t ∷ []
put t (first ∷ later) = if nat_lt first.time t.time then first ∷ put t later else t ∷ first ∷ later

abbrev pub in_time : List Timed → List Timed
in_time [] = []
in_time (t ∷ later) = put t (in_time later)

put_moved : (t : Timed) (xs : List Timed) → IsPermutation (t ∷ xs) (put t xs)
put_moved t [] = IsPermutation-refl (t ∷ [])
put_moved t (first ∷ later) =
    if_both (λ l. IsPermutation (t ∷ first ∷ later) l) (nat_lt first.time t.time) (first ∷ put t later) (t ∷ first ∷ later)
    (λ _. IsPermutation-trans (t ∷ first ∷ later) (first ∷ t ∷ later) (first ∷ put t later) (IsPermutation-sym (first ∷ t ∷ later) (t ∷ first ∷ later) (IsPermutation-middle (first ∷ []) t later))
    (IsPermutation-cons first (t ∷ later) (put t later) (put_moved t later)))
    (λ _. IsPermutation-refl (t ∷ first ∷ later))

pub time_moved : (xs : List Timed) → IsPermutation xs (in_time xs)
time_moved [] = IsPermutation-refl []
time_moved (t ∷ later) = IsPermutation-trans (t ∷ later) (t ∷ in_time later) (put t (in_time later)) (IsPermutation-cons t later (in_time later) (time_moved later)) (put_moved t (in_time later))

put_rises : (t : Timed) (xs : List Timed) → DontFall xs → DontFall (put t xs)
put_rises t [] rise = ((λ u one. absurd one), tt)
put_rises t (first ∷ later) rise =
    if_both DontFall (nat_lt first.time t.time) (first ∷ put t later) (t ∷ first ∷ later)
    (λ less. (
      (λ u one. elim (one_moved (put t later) (t ∷ later) u (IsPermutation-sym (t ∷ later) (put t later) (put_moved t later)) one) [
        | inl is ↦ (let below = ltb-true first.time t.time less in let same = ap (λ (u : Timed). u.time) is in omega (arith, below, same))
        | inr there ↦ rise.0 u there
      ]),
      put_rises t later rise.1,
    ))
    (λ more. (
      (λ u one. elim one [
        | inl is ↦ (let least = ltb-false first.time t.time more in let same = ap (λ (u : Timed). u.time) is in omega (arith, least, same))
        | inr there ↦ (let least = ltb-false first.time t.time more in let up = rise.0 u there in omega (arith, least, up))
      ]),
      rise,
    ))

pub time_rises : (xs : List Timed) → DontFall (in_time xs)
time_rises [] = tt
time_rises (t ∷ later) = put_rises t (in_time later) (time_rises later)

-- ---- in order

-- of two calls the one that comes before the other has the earlier time
abbrev pub AreOrdered : List Timed → Type 0
AreOrdered xs = (a b : Timed) → IsOneOf xs a → IsOneOf xs b → ComesBefore a.made.call b.made.call → a.time < b.time

abbrev pub call_of : Timed → TracedCall
call_of t = t.made.call

pub keep_order : (xs : List Timed) → DontFall xs → AreOrdered xs → KeepOrder (map call_of xs)
keep_order [] rise ordered = tt
keep_order (first ∷ later) rise ordered = (
  of_each (λ (other : TracedCall). ComesBefore other first.made.call → ⊥) (map call_of later)
      (λ other one comes.
      let from = one_of_mapped call_of later other one in
      let up = rise.0 from.0 from.1 in
      let less = ordered from.0 first (inr from.1) (inl refl) (subst (λ (c : TracedCall). ComesBefore c first.made.call) (sym from.2) comes) in
      omega (arith, up, less)),
  keep_order later rise.1 (λ a b one there comes. ordered a b (inr one) (inr there) comes),
)

-- ---- numbers

module _ (taken : TraceCall → ℕ) where
  abbrev pub takes : Timed → ℕ
  takes t = taken t.made.call.call

  -- each call with its number, from one on
  abbrev pub numbered : (next : ℕ) → List Timed → List DrawnCall
  numbered next [] = []
  numbered next (t ∷ later) = record { call = t.made.call; number = next } ∷ numbered (next + takes t) later

  pub in_a_row : (next : ℕ) (xs : List Timed) → AreInARow taken next (numbered next xs)
  in_a_row next [] = tt
  in_a_row next (t ∷ later) = (refl, in_a_row (next + takes t) later)

  pub numbered_calls : (next : ℕ) (xs : List Timed) → map (λ (d : DrawnCall). d.call) (numbered next xs) ≡ map call_of xs
  numbered_calls next [] = refl
  numbered_calls next (t ∷ later) = ap (λ l. t.made.call ∷ l) (numbered_calls (next + takes t) later)

  numbered_at : (next : ℕ) (before after : List Timed) (t : Timed) → IsOneOf (numbered next (before ++ t ∷ after)) (record { call = t.made.call; number = next + added takes before })
  numbered_at next [] after t = inl (ap (λ n. record { call = t.made.call; number = n }) (let same : next + 0 ≡ next = omega arith in same))
  numbered_at next (first ∷ before) after t =
      inr (subst (λ n. IsOneOf (numbered (next + takes first) (before ++ t ∷ after)) (record { call = t.made.call; number = n }))
      (let same : next + takes first + added takes before ≡ next + (takes first + added takes before) = omega arith in same) (numbered_at (next + takes first) before after t))

  -- what the calls had drawn when so many events had come
  abbrev pub takes_by : (count : ℕ) → Timed → ℕ
  takes_by count t = entries_if (nat_lt t.time count) (takes t)

  takes_most : (count : ℕ) (t : Timed) → takes_by count t ≤ takes t
  takes_most count t = by (nat_lt t.time count)
    where
      by : (b : Bool) → entries_if b (takes t) ≤ takes t
      by true = omega arith
      by false = omega arith

  most_of : (count : ℕ) (xs : List Timed) → added (takes_by count) xs ≤ added takes xs
  most_of count [] = omega arith
  most_of count (t ∷ later) = let here = takes_most count t in let rest = most_of count later in omega (arith, here, rest)

  record SplitAt (xs : List Timed) (t : Timed) : Type 0 where
    before : List Timed
    after : List Timed
    are : xs ≡ before ++ t ∷ after

  split_at : (xs : List Timed) (t : Timed) → IsOneOf xs t → SplitAt xs t
  split_at [] t one = absurd one
  split_at (first ∷ later) t (inl is) = record { before = []; after = later; are = ap (λ u. u ∷ later) (sym is) }
  split_at (first ∷ later) t (inr one) = let found = split_at later t one in record { before = first ∷ found.before; after = found.after; are = ap (λ l. first ∷ l) found.are }

  -- those before a call have no later time, those behind it no earlier one
  before_least : (before after : List Timed) (t : Timed) → DontFall (before ++ t ∷ after) → (u : Timed) → IsOneOf before u → u.time ≤ t.time
  before_least [] after t rise u one = absurd one
  before_least (first ∷ before) after t rise u (inl is) = let up = rise.0 t (there before) in let same = ap (λ (u : Timed). u.time) is in omega (arith, up, same)
    where
      there : (xs : List Timed) → IsOneOf (xs ++ t ∷ after) t
      there [] = inl refl
      there (x ∷ xs) = inr (there xs)
  before_least (first ∷ before) after t rise u (inr one) = before_least before after t rise.1 u one

  after_most : (before after : List Timed) (t : Timed) → DontFall (before ++ t ∷ after) → (u : Timed) → IsOneOf after u → t.time ≤ u.time
  after_most [] after t rise u one = rise.0 u one
  after_most (first ∷ before) after t rise u one = after_most before after t rise.1 u one

  -- A call's number is the one that it drew, where so many entries had been drawn by its time, and its own too one event later.
  pub number_told : (next found : ℕ) (xs : List Timed) (t : Timed) → IsOneOf xs t → DontFall xs → found ≡ next + added (takes_by t.time) xs → found + takes t ≡ next + added (takes_by (t.time + 1)) xs
      → IsOneOf (numbered next xs) (record { call = t.made.call; number = found })
  number_told next found xs t one rise by_then behind =
      subst (λ l. IsOneOf (numbered next l) (record { call = t.made.call; number = found })) (sym split.are)
      (subst (λ n. IsOneOf (numbered next (split.before ++ t ∷ split.after)) (record { call = t.made.call; number = n })) same (numbered_at next split.before split.after t))
    where
      split : SplitAt xs t
      split = split_at xs t one

      rise_so : DontFall (split.before ++ t ∷ split.after)
      rise_so = subst DontFall split.are rise

      parts : (count : ℕ) → added (takes_by count) xs ≡ added (takes_by count) split.before + (takes_by count t + added (takes_by count) split.after)
      parts count = ap (added (takes_by count)) split.are ∙ added_append (takes_by count) split.before (t ∷ split.after)

      same : next + added takes split.before ≡ found
      same =
          let all_before : added (takes_by (t.time + 1)) split.before ≡ added takes split.before =
          added_same (takes_by (t.time + 1)) takes split.before
          (λ u there. (let low = before_least split.before split.after t rise_so u there in ap (λ b. entries_if b (takes u)) (lt-ltb u.time (t.time + 1) (omega (arith, low))))) in
          let here : takes_by (t.time + 1) t ≡ takes t = ap (λ b. entries_if b (takes t)) (lt-ltb t.time (t.time + 1) (omega arith)) in
          let not_here : takes_by t.time t ≡ 0 = ap (λ b. entries_if b (takes t)) (le-ltb t.time t.time (omega arith)) in
          let none_after : added (takes_by t.time) split.after ≡ 0 =
          added_none (takes_by t.time) split.after (λ u there. (let up = after_most split.before split.after t rise_so u there in ap (λ b. entries_if b (takes u)) (le-ltb u.time t.time up))) in
          let first = parts t.time in
          let second = parts (t.time + 1) in
          let most = most_of t.time split.before in
          omega (arith, by_then, behind, all_before, here, not_here, none_after, first, second, most)

-- ---- those that have drawn

abbrev pub drew_so : Timed → Bool
drew_so t = has_drawn t.made.answer

-- the calls that drew among some, as a list for each
abbrev pub one_drawing : MadeCall → List TracedCall
one_drawing m = if has_drawn m.answer then m.call ∷ [] else []

pub drawing_each : (made : List MadeCall) → calls_that_drew made ≡ flat_map one_drawing made
drawing_each [] = refl
drawing_each (m ∷ later) = by (has_drawn m.answer) (drawing_each later)
  where
    by : (b : Bool) → calls_that_drew later ≡ flat_map one_drawing later
        → map (λ (m : MadeCall). m.call) (if b then m ∷ filter (λ (m : MadeCall). has_drawn m.answer) later else filter (λ (m : MadeCall). has_drawn m.answer) later)
        ≡ (if b then m.call ∷ [] else []) ++ flat_map one_drawing later
    by true same = ap (λ l. m.call ∷ l) same
    by false same = same

pub drawing_timed : (xs : List Timed) → calls_that_drew (map (λ (t : Timed). t.made) xs) ≡ map call_of (filter drew_so xs)
drawing_timed [] = refl
drawing_timed (t ∷ later) = by (has_drawn t.made.answer) (drawing_timed later)
  where
    rest : List MadeCall
    rest = filter (λ (m : MadeCall). has_drawn m.answer) (map (λ (t : Timed). t.made) later)

    by : (b : Bool) → map (λ (m : MadeCall). m.call) rest ≡ map call_of (filter drew_so later)
        → map (λ (m : MadeCall). m.call) (if b then t.made ∷ rest else rest) ≡ map call_of (if b then t ∷ filter drew_so later else filter drew_so later)
    by true same = ap (λ l. t.made.call ∷ l) same
    by false same = same

pub drew_of_those : (sizes : Sizes) (count : ℕ) (xs : List Timed) → added (drew_by sizes count) xs ≡ added (takes_by (entries_taken sizes.page) count) (filter drew_so xs)
drew_of_those sizes count [] = refl
drew_of_those sizes count (t ∷ later) = by (has_drawn t.made.answer) (drew_of_those sizes count later)
  where
    rest : List Timed
    rest = filter drew_so later

    nothing : (b : Bool) → entries_if b 0 ≡ 0
    nothing true = refl
    nothing false = refl

    by : (b : Bool) → added (drew_by sizes count) later ≡ added (takes_by (entries_taken sizes.page) count) rest
        → entries_if (nat_lt t.time count) (entries_if b (entries_taken sizes.page t.made.call.call)) + added (drew_by sizes count) later ≡ added (takes_by (entries_taken sizes.page) count) (if b then t ∷ rest else rest)
    by true same = ap (λ n. entries_if (nat_lt t.time count) (entries_taken sizes.page t.made.call.call) + n) same
    by false same = let none = nothing (nat_lt t.time count) in omega (arith, none, same)

pub one_kept : (xs : List Timed) (t : Timed) → IsOneOf xs t → drew_so t ≡ true → IsOneOf (filter drew_so xs) t
one_kept [] t one drawn_so = absurd one
one_kept (first ∷ later) t (inl is) drawn_so =
    subst (λ b. IsOneOf (if b then first ∷ filter drew_so later else filter drew_so later) t) (sym (ap drew_so (sym is) ∙ drawn_so)) (inl is)
one_kept (first ∷ later) t (inr one) drawn_so =
    let there = one_kept later t one drawn_so in
    if_both (λ l. IsOneOf l t) (drew_so first) (first ∷ filter drew_so later) (filter drew_so later) (λ _. inr there) (λ _. there)

pub of_kept : (xs : List Timed) (t : Timed) → IsOneOf (filter drew_so xs) t → IsOneOf xs t × (drew_so t ≡ true)
of_kept [] t one = absurd one
of_kept (first ∷ later) t one = by (drew_so first) refl one (λ there. of_kept later t there)
  where
    by : (b : Bool) → drew_so first ≡ b → IsOneOf (if b then first ∷ filter drew_so later else filter drew_so later) t → (IsOneOf (filter drew_so later) t → IsOneOf later t × (drew_so t ≡ true))
        → IsOneOf (first ∷ later) t × (drew_so t ≡ true)
    by true is (inl same) rest = (inl same, ap drew_so same ∙ is)
    by true is (inr there) rest = let found = rest there in (inr found.0, found.1)
    by false is there rest = let found = rest there in (inr found.0, found.1)
