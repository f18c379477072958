-- Sorted calls: those that don't fall by place, and are at each place once.
use Rattle.std.proofs.Common.{◌≡◌, ℕ, zero, suc, ◌+◌, ◌<◌, ◌≤◌, List, [], ◌∷◌, ◌++◌, length, map, inl, inr, refl, sym, ap, subst, ◌∙◌, arith}
use Rattle.std.specs.List.{AllZip}
use Rattle.std.specs.List.Sorted.{IsNonDecreasingBy}
use Rattle.std.proofs.lemmas.Bool.{cases_eq, cases_lt}
use Rattle.std.proofs.lemmas.List.{append_assoc, get_or_at, length_push}
use Rattle.std.proofs.lemmas.List.Elements.{All-map}
use Rattle.nv_plain.specs.Histories.{Answered}
use Rattle.nv_core.specs.state.Passes.{IsOneOf}
use Rattle.nv_mount.specs.declared.fds.Fd.{Fd}
use Rattle.nv_trace.specs.declared.trace_call.TracedCall.{TracedCall}
use Rattle.nv_runner.specs.Histories.{AreAtPlaces, ComesBefore, KeepOrder, PlacedCall, StandsAs}
use Rattle.nv_runner.proofs.histories.HistoryMembers.{contained, of_each}
use Rattle.nv_runner.proofs.histories.HistorySums.{added, added_none, if_same, same_counts, other_counts}
use Rattle.nv_runner.proofs.histories.HistoryRows.{IsIn}

-- how many of some are at a place
abbrev pub times_at : List PlacedCall → (place : ℕ) → ℕ
times_at calls place = added (λ p. if_same p.place place) calls

-- the first of them is at the least place
least_first : (first : PlacedCall) (later : List PlacedCall) → IsNonDecreasingBy (λ p. p.place) (first ∷ later) → (p : PlacedCall) → IsOneOf later p → first.place ≤ p.place
least_first first later rises p one =
    let there = contained later p one in
    let within = there.1 in
    let up = rises 0 (suc there.0) p (omega arith) (omega arith) in
    subst (λ (q : PlacedCall). first.place ≤ q.place) there.2 up

later_rise : (first : PlacedCall) (later : List PlacedCall) → IsNonDecreasingBy (λ p. p.place) (first ∷ later) → IsNonDecreasingBy (λ p. p.place) later
later_rise first later rises i j d before within = rises (suc i) (suc j) d (omega arith) (omega arith)

-- some calls are at each of so many places once, and nowhere else
pub record AreOnceAt (from count : ℕ) (calls : List PlacedCall) : Type 0 where
  pub inside : (place : ℕ) → from ≤ place → place < from + count → times_at calls place ≡ 1
  pub before : (place : ℕ) → place < from → times_at calls place ≡ 0
  pub behind : (place : ℕ) → from + count ≤ place → times_at calls place ≡ 0

-- so the first of them is at the first place
first_at : (from count : ℕ) (first : PlacedCall) (later : List PlacedCall) → IsNonDecreasingBy (λ p. p.place) (first ∷ later) → AreOnceAt from count (first ∷ later)
    → (first.place ≡ from) × (from < from + count)
first_at from count first later rises once = elim (cases_lt first.place from) [
  | inl low ↦ absurd (let none = once.before first.place low in omega (arith, here))
  | inr least ↦ elim (cases_lt first.place (from + count)) [
    | inr high ↦ absurd (let none = once.behind first.place high in omega (arith, here))
    | inl within ↦ elim (cases_lt from first.place) [
      | inl above ↦ absurd (
          let one = once.inside from (omega arith) (omega arith) in
          let other = other_counts first.place from (λ is. omega arith) in
          let none : times_at later from ≡ 0 =
          added_none (λ p. if_same p.place from) later (λ p there. (let up = least_first first later rises p there in other_counts p.place from (λ is. omega arith))) in
          omega arith
          )
      | inr most ↦ (omega arith, omega arith)
    ]
  ]
]
  where
    here : if_same first.place first.place ≡ 1
    here = same_counts first.place first.place refl

-- and those behind it are at the others
later_once : (from count : ℕ) (first : PlacedCall) (later : List PlacedCall) → first.place ≡ from → AreOnceAt from (suc count) (first ∷ later) → AreOnceAt (from + 1) count later
later_once from count first later is once = record {
  inside = λ place least most. (
      let one = once.inside place (omega arith) (omega arith) in
      let other = other_counts first.place place (λ same. omega arith) in
      omega arith
      );
  before = λ place low. elim (cases_eq first.place place) [
    | inl same ↦ (
        let one = once.inside place (omega arith) (omega arith) in
        let here = same_counts first.place place same in
        omega arith
        )
    | inr ne ↦ (
        let none = once.before place (below place low ne) in
        omega arith
        )
  ];
  behind = λ place high. (let none = once.behind place (omega arith) in omega arith);
}
  where
    below : (place : ℕ) → place < from + 1 → (first.place ≡ place → ⊥) → place < from
    below place low ne = elim (cases_eq from place) [ inl same ↦ absurd (ne (is ∙ same)) | inr other ↦ omega arith ]

-- Some that don't fall, and are at each of so many places once, are as many, one behind the other.
pub at_places : (calls : List PlacedCall) (from count : ℕ) → IsNonDecreasingBy (λ p. p.place) calls → AreOnceAt from count calls → AreAtPlaces from calls × (length calls ≡ count)
at_places [] from zero rises once = (tt, refl)
at_places [] from (suc count) rises once = absurd (let one = once.inside from (omega arith) (omega arith) in omega arith)
at_places (first ∷ later) from zero rises once = absurd (let low = (first_at from zero first later rises once).1 in omega arith)
at_places (first ∷ later) from (suc count) rises once =
    let is = (first_at from (suc count) first later rises once).0 in
    let rest = at_places later (from + 1) count (later_rise first later rises) (later_once from count first later is once) in
    ((is, rest.0), ap (λ n. suc n) rest.1)

-- each is behind where they begin
behind_from : (calls : List PlacedCall) (from : ℕ) → AreAtPlaces from calls → (p : PlacedCall) → IsOneOf calls p → from ≤ p.place
behind_from [] from at p one = absurd one
behind_from (first ∷ later) from at p (inl is) = let same = ap (λ (q : PlacedCall). q.place) is in let here = at.0 in omega arith
behind_from (first ∷ later) from at p (inr one) = let least = behind_from later (from + 1) at.1 p one in omega arith

-- ---- entry for entry

-- Calls at the places from one on, each of which stands in its place of a history, are the history from there on.
pub stand_in_turn : (fds : List Fd) (before rest : List Answered) (calls : List PlacedCall) → AreAtPlaces (length before) calls → length calls ≡ length rest
    → ((p : PlacedCall) → IsOneOf calls p → IsIn fds [] (before ++ rest) p) → AllZip (StandsAs fds) calls rest
stand_in_turn fds before [] [] at long each = tt
stand_in_turn fds before (entry ∷ rest) [] at long each = absurd (omega arith)
stand_in_turn fds before [] (p ∷ calls) at long each = absurd (omega arith)
stand_in_turn fds before (entry ∷ rest) (p ∷ calls) at long each =
    let here = each p (inl refl) in
    let same : here.entry ≡ entry = sym (here.at entry) ∙ get_or_at before entry rest entry p.place (sym at.0) in
    let whole : before ++ entry ∷ rest ≡ (before ++ entry ∷ []) ++ rest = sym (append_assoc before (entry ∷ []) rest) in
    let from : length (before ++ entry ∷ []) ≡ length before + 1 = length_push before entry in (
      subst (StandsAs fds p) same here.stands,
      stand_in_turn fds (before ++ entry ∷ []) rest calls (subst (λ n. AreAtPlaces n calls) (sym from) at.1) (omega arith)
          (λ q one. subst (λ (l : List Answered). IsIn fds [] l q) whole (each q (inr one))),
    )

-- ---- order

-- places tell the order of calls that have to keep one
abbrev pub PlacesKeep : List PlacedCall → Type 0
PlacesKeep calls = (p q : PlacedCall) → IsOneOf calls p → IsOneOf calls q → ComesBefore q.call p.call → q.place < p.place

pub keep_order : (calls : List PlacedCall) (from : ℕ) → AreAtPlaces from calls → PlacesKeep calls → KeepOrder (map (λ p. p.call) calls)
keep_order [] from at keep = tt
keep_order (first ∷ later) from at keep =
    let none : (q : PlacedCall) → IsOneOf later q → ComesBefore q.call first.call → ⊥ = λ q one comes. (
    let low = keep first q (inl refl) (inr one) comes in
    let least = behind_from later (from + 1) at.1 q one in
    let here = at.0 in
    omega arith
    ) in (
      All-map (λ (other : TracedCall). ComesBefore other first.call → ⊥) (λ (q : PlacedCall). q.call) later (of_each (λ (q : PlacedCall). ComesBefore q.call first.call → ⊥) later none),
      keep_order later (from + 1) at.1 (λ p q one other. keep p q (inr one) (inr other)),
    )
