-- The calls of a trace stand in the order of their lines, where each line has a larger number than those before it.
use Rattle.std.proofs.Common.{◌≡◌, ◌+◌, ◌<◌, ℕ, List, [], ◌∷◌, ◌++◌, length, map, inl, inr, refl, sym, subst, arith}
use Rattle.std.specs.Prelude.{All}
use Rattle.std.specs.List.Sorted.{IsStrictlyIncreasing}
use Rattle.std.proofs.lemmas.Bool.{cases_lt}
use Rattle.std.proofs.lemmas.List.{get_or_append_left, get_or_push, length_push, map_push}
use Rattle.std.proofs.lemmas.List.Elements.{All-map, All-push, All-weaker}
use Rattle.nv_trace.specs.Reading.{with_statement}
use Rattle.nv_trace.specs.Shape.{IsNumberedBelow}
use Rattle.nv_trace.specs.Traced.{Traced, empty_trace}
use Rattle.nv_trace.specs.declared.trace.Form.{Form}
use Rattle.nv_trace.specs.declared.statement.Statement.{Statement}
use Rattle.nv_trace.specs.declared.statement.Statement.TheVariants.{File, Opened, Call, Round}
use Rattle.nv_trace.specs.declared.trace_call.TracedCall.{TracedCall}

-- a number above all others, at their end
pub IsStrictlyIncreasing-push : (xs : List ℕ) (y : ℕ) → IsStrictlyIncreasing xs → All (λ x. x < y) xs → IsStrictlyIncreasing (xs ++ y ∷ [])
IsStrictlyIncreasing-push xs y rises below k in_range =
    let total = length_push xs y in
    let this = get_or_append_left xs (y ∷ []) 0 k (omega arith) in
    elim (cases_lt (k + 1) (length xs)) [
      | inl inner ↦ omega (arith, this, get_or_append_left xs (y ∷ []) 0 (k + 1) inner, rises k inner)
      | inr outer ↦ omega (arith, this, get_or_push xs y 0 (k + 1) (omega arith), below k 0 (omega arith))
    ]

-- a line that is no call
pub numbered_later : (trace : Traced) (number : ℕ) → IsNumberedBelow number trace → IsNumberedBelow (number + 1) trace
numbered_later trace number numbered = record {
  line_order = numbered.line_order;
  below = All-weaker (λ traced. traced.line < number) (λ traced. traced.line < number + 1) (λ traced below. omega arith) trace.calls numbered.below;
  few = omega (arith, numbered.few);
}

numbered_call : (trace : Traced) (number : ℕ) (traced : TracedCall) → traced.line ≡ number → IsNumberedBelow number trace → IsNumberedBelow (number + 1) (record trace { calls = trace.calls ++ traced ∷ [] })
numbered_call trace number traced is numbered =
    let line : TracedCall → ℕ = λ traced. traced.line in
    record {
      line_order =
          subst IsStrictlyIncreasing (sym (map_push line trace.calls traced))
          (IsStrictlyIncreasing-push (map line trace.calls) traced.line numbered.line_order (All-map (λ n. n < traced.line) line trace.calls (λ k d inside. omega (arith, is, numbered.below k d inside))));
      below = All-push (λ traced. traced.line < number + 1) trace.calls traced (numbered_later trace number numbered).below (omega (arith, is));
      few = omega (arith, length_push trace.calls traced, numbered.few);
    }

-- one more statement
pub numbered_on : (trace : Traced) (number : ℕ) (statement : Statement) → IsNumberedBelow number trace → IsNumberedBelow (number + 1) (with_statement trace number statement)
numbered_on trace number (File name) numbered = let on = numbered_later trace number numbered in record { line_order = on.line_order; below = on.below; few = on.few }
numbered_on trace number (Opened descriptor) numbered = let on = numbered_later trace number numbered in record { line_order = on.line_order; below = on.below; few = on.few }
numbered_on trace number (Call thread call) numbered = numbered_call trace number (record { line = number; round = trace.rounds; thread = thread; call = call }) refl numbered
numbered_on trace number Round numbered = let on = numbered_later trace number numbered in record { line_order = on.line_order; below = on.below; few = on.few }

-- a trace of no lines
pub numbered_none : (form : Form) (number : ℕ) → 0 < number → IsNumberedBelow number (empty_trace form)
numbered_none form number some = record { line_order = λ k in_range. absurd (omega arith); below = λ k d in_range. absurd (omega arith); few = some }
