-- Lines: calls that are each of a line of its own.
use Rattle.std.proofs.Common.{◌≡◌, ◌≢◌, ℕ, zero, suc, ◌+◌, ◌<◌, ◌≤◌, List, [], ◌∷◌, map, get_or, inl, inr, refl, sym, ap, subst, ◌∙◌, arith}
use Rattle.std.specs.Prelude.{IsPermutation}
use Rattle.std.specs.List.{AllPairs, flat_map}
use Rattle.std.specs.List.Sorted.{IsNonDecreasingBy, IsStrictlyIncreasing}
use Rattle.std.proofs.lemmas.Bool.{cases_lt}
use Rattle.std.proofs.lemmas.List.{get_or-map, get_or_default, length-map}
use Rattle.std.proofs.lemmas.List.Kept.{AllPairs-from_increasing}
use Rattle.std.proofs.lemmas.List.Sorted.{IsPermutation-map, IsPermutation-sym}
use Rattle.nv_table.specs.state.Views.{AreDistinctNumbers}
use Rattle.nv_trace.specs.declared.trace_call.TracedCall.{TracedCall}
use Rattle.nv_runner.specs.declared.answer.Answer.{Answer}
use Rattle.nv_runner.specs.declared.answer.Answer.TheVariants.{Placed, Refused, Open}
use Rattle.nv_runner.specs.Histories.{RoundsRise}
use Rattle.nv_runner.specs.Lists.{MadeCall, calls_made}
use Rattle.nv_runner.specs.Sorted.{HaveOwnLines, LinesTellRounds, OpenInLines, OpenedCall, RefusedCall, RefusedInLines, opened_in_answer, refused_in_answer}
use Rattle.nv_runner.proofs.histories.HistoryMembers.{contained, one_at, one_moved}
use Rattle.nv_runner.proofs.histories.HistorySums.{added, added_append, added_mapped, added_moved, if_same, once_there, same_counts, some_there, times_there}
use Rattle.nv_runner.proofs.SortedLaws.{falls_not}

-- ---- numbers of which no two are one

-- each is there once
pub distinct_once : (numbers : List ℕ) → ((number : ℕ) → times_there number numbers ≤ 1) → AreDistinctNumbers numbers
distinct_once [] once = tt
distinct_once (first ∷ rest) once = (
  λ one. (let few = once first in let here = same_counts first first refl in let there = some_there first rest one in omega arith),
  distinct_once rest (λ number. (let few = once number in omega arith)),
)

pub distinct_moved : (xs ys : List ℕ) → IsPermutation xs ys → AreDistinctNumbers xs → AreDistinctNumbers ys
distinct_moved xs ys moved distinct =
    distinct_once ys (λ number. (let same = added_moved (if_same number) xs ys moved in let few = once_there number xs distinct in omega arith))

pub rising_distinct : (xs : List ℕ) → AllPairs (λ x y. x < y) xs → AreDistinctNumbers xs
rising_distinct [] rise = tt
rising_distinct (first ∷ rest) rise = (
  λ one. (
      let there = contained rest first one in
      let up = rise 0 (suc there.0) first (omega arith) (omega (arith, there.1)) in
      let at = there.2 in
      omega arith
      ),
  rising_distinct rest (λ i j d before within. rise (suc i) (suc j) d (omega arith) (omega arith)),
)

-- so those that don't fall rise
strictly : (xs : List ℕ) → IsNonDecreasingBy (λ x. x) xs → AreDistinctNumbers xs → IsStrictlyIncreasing xs
strictly [] rises distinct k within = absurd (omega arith)
strictly (x ∷ xs) rises distinct zero within =
    let up = rises 0 1 0 (omega arith) within in
    let ne : x ≢ get_or xs 0 0 = λ same. distinct.0 (one_at xs 0 0 x (omega arith) (sym same)) in
    omega arith
strictly (x ∷ xs) rises distinct (suc k) within =
    let later = strictly xs (λ i j d before inside. rises (suc i) (suc j) d (omega arith) (omega arith)) distinct.1 k (omega arith) in
    let next : suc k + 1 ≡ suc (k + 1) = omega arith in
    subst (λ n. get_or xs k 0 < get_or (x ∷ xs) n 0) (sym next) later

-- ---- calls that were answered so, of which each tells its line

module _ {X : Type 0} (line : X → ℕ) (in_answer : TracedCall → Answer → List X) (one_few : (number : ℕ) (call : TracedCall) (answer : Answer) → added (λ x. if_same number (line x)) (in_answer call answer) ≤ if_same number call.line) where
  few : (number : ℕ) (made : List MadeCall) → added (λ x. if_same number (line x)) (flat_map (λ m. in_answer m.call m.answer) made) ≤ times_there number (map (λ c. c.line) (calls_made made))
  few number [] = omega arith
  few number (m ∷ later) =
      let parts = added_append (λ (x : X). if_same number (line x)) (in_answer m.call m.answer) (flat_map (λ l. in_answer l.call l.answer) later) in
      let one = one_few number m.call m.answer in
      let rest = few number later in
      omega arith

  in_lines : (made : List MadeCall) (xs : List X) → HaveOwnLines (calls_made made) → IsPermutation (flat_map (λ m. in_answer m.call m.answer) made) xs → IsNonDecreasingBy line xs → IsStrictlyIncreasing (map line xs)
  in_lines made xs own moved rises = strictly (map line xs) (falls_not line (λ n. n) xs rises) (distinct_once (map line xs) once)
    where
      once : (number : ℕ) → times_there number (map line xs) ≤ 1
      once number =
          let mapped = added_mapped (if_same number) line xs in
          let same = added_moved (λ (x : X). if_same number (line x)) (flat_map (λ m. in_answer m.call m.answer) made) xs moved in
          let low = few number made in
          let most = once_there number (map (λ (c : TracedCall). c.line) (calls_made made)) own in
          omega arith

refused_few : (number : ℕ) (call : TracedCall) (answer : Answer) → added (λ (r : RefusedCall). if_same number r.call.line) (refused_in_answer call answer) ≤ if_same number call.line
refused_few number call (Placed place reply) = omega arith
refused_few number call (Refused refusal) = omega arith
refused_few number call (Open first) = omega arith

pub refused_in_lines : RefusedInLines
refused_in_lines made refused own moved rises = in_lines (λ (r : RefusedCall). r.call.line) refused_in_answer refused_few made refused own moved rises

opened_few : (number : ℕ) (call : TracedCall) (answer : Answer) → added (λ (o : OpenedCall). if_same number o.call.line) (opened_in_answer call answer) ≤ if_same number call.line
opened_few number call (Placed place reply) = omega arith
opened_few number call (Refused refusal) = omega arith
opened_few number call (Open first) = omega arith

pub open_in_lines : OpenInLines
open_in_lines made opened own moved rises = in_lines (λ (o : OpenedCall). o.call.line) opened_in_answer opened_few made opened own moved rises

-- ---- rounds

rounds_rise : (calls : List TracedCall) → AllPairs (λ x y. x < y) (map (λ c. c.line) calls) → IsNonDecreasingBy (λ c. c.round) calls → RoundsRise calls
rounds_rise calls rise rounds a b one other low early =
    let at = contained calls a one in
    let also = contained calls b other in
    elim (cases_lt also.0 at.0) [
      | inl before ↦ (
          let up = rise also.0 at.0 0 before (omega (arith, at.1, length-map calls (λ (c : TracedCall). c.line))) in
          let line_a = get_or-map (λ (c : TracedCall). c.line) calls at.0 a 0 at.1 ∙ ap (λ (c : TracedCall). c.line) at.2 in
          let line_b = get_or-map (λ (c : TracedCall). c.line) calls also.0 b 0 also.1 ∙ ap (λ (c : TracedCall). c.line) also.2 in
          omega arith
          )
      | inr behind ↦ (
          let up = rounds at.0 also.0 a behind also.1 in
          let round_a = ap (λ (c : TracedCall). c.round) at.2 in
          let round_b = ap (λ (c : TracedCall). c.round) (get_or_default calls also.0 a b also.1 ∙ also.2) in
          omega arith
          )
    ]

pub lines_tell_rounds : LinesTellRounds
lines_tell_rounds calls listed lines rounds moved =
    let rise = AllPairs-from_increasing (map (λ (c : TracedCall). c.line) calls) lines in
    let back : IsPermutation listed calls = IsPermutation-sym calls listed moved in (
      distinct_moved (map (λ (c : TracedCall). c.line) calls) (map (λ (c : TracedCall). c.line) listed) (IsPermutation-map (λ (c : TracedCall). c.line) calls listed moved)
          (rising_distinct (map (λ (c : TracedCall). c.line) calls) rise),
      λ a b one other. rounds_rise calls rise rounds a b (one_moved listed calls a back one) (one_moved listed calls b back other),
    )
