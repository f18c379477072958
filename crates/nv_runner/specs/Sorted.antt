-- Sorted: the answers of some calls, those that have a place apart from those that were refused, and from those that were left open.
use Rattle.std.specs.Prelude.{ℕ, List, [], ◌∷◌, ◌++◌, map, IsPermutation}
use Rattle.std.specs.List.{flat_map}
use Rattle.std.specs.List.Sorted.{IsNonDecreasingBy, IsStrictlyIncreasing}
use Rattle.nv_mirror.specs.declared.answers.Refusal.{Refusal}
use Rattle.nv_table.specs.state.Views.{AreDistinctNumbers}
use Rattle.nv_trace.specs.declared.trace_call.TracedCall.{TracedCall}
use Rattle.nv_runner.specs.declared.answer.Answer.{Answer}
use Rattle.nv_runner.specs.declared.answer.Answer.TheVariants as answers
use Rattle.nv_runner.specs.declared.sorted.Open.{Open}
use Rattle.nv_runner.specs.declared.sorted.Placed.{Placed}
use Rattle.nv_runner.specs.declared.sorted.Refused.{Refused}
use Rattle.nv_runner.specs.declared.sorted.SortedCalls.{SortedCalls}
use Rattle.nv_runner.specs.Histories.{PlacedCall, RoundsRise, placed_calls}
use Rattle.nv_runner.specs.Lists.{MadeCall, calls_made}

-- a call that has no place, and why
pub record RefusedCall : Type 0 where
  pub call : TracedCall
  pub refusal : Refusal

abbrev pub refused_in_answer : TracedCall → Answer → List RefusedCall
refused_in_answer call (answers.Refused refusal) = record { call = call; refusal = refusal } ∷ []
refused_in_answer call answer = []

-- those of some calls that were refused
abbrev pub refused_calls : List MadeCall → List RefusedCall
refused_calls made = flat_map (λ m. refused_in_answer m.call m.answer) made

-- a write that a device fault ended, and the first number that it drew
pub record OpenedCall : Type 0 where
  pub call : TracedCall
  pub number : ℕ

abbrev pub opened_in_answer : TracedCall → Answer → List OpenedCall
opened_in_answer call (answers.Open number) = record { call = call; number = number } ∷ []
opened_in_answer call answer = []

-- those of some calls that were left open
abbrev pub opened_calls : List MadeCall → List OpenedCall
opened_calls made = flat_map (λ m. opened_in_answer m.call m.answer) made

-- without where the call lies in memory
abbrev pub placed_call : Placed → PlacedCall
placed_call placed = record { place = placed.place; call = placed.call.now; reply = placed.reply }

abbrev pub refused_call : Refused → RefusedCall
refused_call refused = record { call = refused.call.now; refusal = refused.refusal }

abbrev pub opened_call : Open → OpenedCall
opened_call opened = record { call = opened.call.now; number = opened.number }

-- with what they were answered
abbrev pub placed_made : PlacedCall → MadeCall
placed_made placed = record { call = placed.call; answer = answers.Placed placed.place placed.reply }

abbrev pub refused_made : RefusedCall → MadeCall
refused_made refused = record { call = refused.call; answer = answers.Refused refused.refusal }

abbrev pub opened_made : OpenedCall → MadeCall
opened_made opened = record { call = opened.call; answer = answers.Open opened.number }

-- Some calls are sorted out by what they were answered: all that have a place, by their places, all that were refused, by their lines, and so all that were left open; and each is one of these.
pub record AreSortedOut (made : List MadeCall) (sorted : SortedCalls) : Type 0 where
  pub placed : IsPermutation (placed_calls made) (map placed_call sorted.placed.items)
  pub by_place : IsNonDecreasingBy (λ p. p.place) (map placed_call sorted.placed.items)
  pub refused : IsPermutation (refused_calls made) (map refused_call sorted.refused.items)
  pub by_line : IsNonDecreasingBy (λ r. r.call.line) (map refused_call sorted.refused.items)
  pub left_open : IsPermutation (opened_calls made) (map opened_call sorted.open_calls.items)
  pub open_by_line : IsNonDecreasingBy (λ o. o.call.line) (map opened_call sorted.open_calls.items)
  pub listed : IsPermutation made (map placed_made (map placed_call sorted.placed.items) ++ map refused_made (map refused_call sorted.refused.items) ++ map opened_made (map opened_call sorted.open_calls.items))

-- ---- lines

-- no two of some calls are of one line
abbrev pub HaveOwnLines : List TracedCall → Type 0
HaveOwnLines calls = AreDistinctNumbers (map (λ call. call.line) calls)

-- Refused calls that don't fall by line rise by it, where no two calls are of one line.
abbrev pub RefusedInLines : Type 0
RefusedInLines =
    (made : List MadeCall) (refused : List RefusedCall) → HaveOwnLines (calls_made made) → IsPermutation (refused_calls made) refused → IsNonDecreasingBy (λ r. r.call.line) refused
    → IsStrictlyIncreasing (map (λ r. r.call.line) refused)

-- So do those that were left open.
abbrev pub OpenInLines : Type 0
OpenInLines =
    (made : List MadeCall) (opened : List OpenedCall) → HaveOwnLines (calls_made made) → IsPermutation (opened_calls made) opened → IsNonDecreasingBy (λ o. o.call.line) opened
    → IsStrictlyIncreasing (map (λ o. o.call.line) opened)

-- Calls whose lines rise are each of a line of its own, in whatever order they are listed; and lines of a later round stand behind those of an earlier one, where rounds don't fall.
abbrev pub LinesTellRounds : Type 0
LinesTellRounds =
    (calls listed : List TracedCall) → IsStrictlyIncreasing (map (λ call. call.line) calls) → IsNonDecreasingBy (λ call. call.round) calls → IsPermutation calls listed
    → HaveOwnLines listed × RoundsRise listed
