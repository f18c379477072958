-- Lines of the calls of a run: no two of them are of one line.
use Rattle.std.proofs.Common.{◌≡◌, ℕ, List, [], ◌∷◌, ◌++◌, map, inl, inr, refl, sym, ap, subst, ◌∙◌, arith}
use Rattle.std.specs.Prelude.{All, Option}
use Rattle.std.specs.List.{flat_map}
use Rattle.std.specs.List.Sorted.{IsStrictlyIncreasing}
use Rattle.std.proofs.lemmas.List.{map-append}
use Rattle.std.proofs.lemmas.List.Elements.{All-head, All-tail}
use Rattle.std.proofs.lemmas.List.Kept.{AllPairs-from_increasing}
use Rattle.std.proofs.lemmas.List.Sorted.{IsPermutation-map, IsPermutation-sym}
use Rattle.nv_core.specs.state.Passes.{IsOneOf}
use Rattle.nv_table.specs.state.Opened.{Opened}
use Rattle.nv_table.specs.state.States.{PassState}
use Rattle.nv_table.specs.state.Views.{AreDistinctNumbers}
use Rattle.nv_mount.specs.declared.fds.Fd.{Fd}
use Rattle.nv_trace.specs.declared.trace_call.TracedCall.{TracedCall}
use Rattle.nv_runner.specs.Lists.{MadeCall, calls_made}
use Rattle.nv_runner.specs.Rounds.{AreCallsOf}
use Rattle.nv_runner.specs.Shifts.{AreInOrder, ComesBehind, HasRun, IsShift, Shift}
use Rattle.nv_runner.specs.Sorted.{HaveOwnLines}
use Rattle.nv_runner.proofs.histories.HistoryMembers.{of_one, one_either, one_in_joined, one_moved, one_of_joined, one_of_mapped, one_mapped}
use Rattle.nv_runner.proofs.LineLaws.{distinct_moved, rising_distinct}

-- one call of a line
one_of_line : (calls : List TracedCall) (a b : TracedCall) → AreDistinctNumbers (map (λ (call : TracedCall). call.line) calls) → IsOneOf calls a → IsOneOf calls b → a.line ≡ b.line → a ≡ b
one_of_line [] a b distinct one other same = absurd one
one_of_line (first ∷ rest) a b distinct (inl is) (inl also) same = is ∙ sym also
one_of_line (first ∷ rest) a b distinct (inl is) (inr later) same =
    let line : b.line ≡ first.line = sym same ∙ ap (λ (call : TracedCall). call.line) is in
    absurd (distinct.0 (subst (IsOneOf (map (λ (call : TracedCall). call.line) rest)) line (one_mapped (λ (call : TracedCall). call.line) rest b later)))
one_of_line (first ∷ rest) a b distinct (inr later) (inl is) same =
    let line : a.line ≡ first.line = same ∙ ap (λ (call : TracedCall). call.line) is in
    absurd (distinct.0 (subst (IsOneOf (map (λ (call : TracedCall). call.line) rest)) line (one_mapped (λ (call : TracedCall). call.line) rest a later)))
one_of_line (first ∷ rest) a b distinct (inr one) (inr other) same = one_of_line rest a b distinct.1 one other same

-- numbers of two lists that have none in common
distinct_both : (xs ys : List ℕ) → AreDistinctNumbers xs → AreDistinctNumbers ys → ((n : ℕ) → IsOneOf xs n → IsOneOf ys n → ⊥) → AreDistinctNumbers (xs ++ ys)
distinct_both [] ys one other apart = other
distinct_both (x ∷ xs) ys one other apart = (
  λ there. elim (one_either xs ys x there) [ inl left ↦ one.0 left | inr right ↦ apart x (inl refl) right ],
  distinct_both xs ys one.1 other (λ n left right. apart n (inr left) right),
)

abbrev line_of : MadeCall → ℕ
line_of m = m.call.line

mapped_twice : (made : List MadeCall) → map line_of made ≡ map (λ (call : TracedCall). call.line) (calls_made made)
mapped_twice [] = refl
mapped_twice (m ∷ later) = ap (λ (lines : List ℕ). m.call.line ∷ lines) (mapped_twice later)

module _ (fds : List Fd) (worker : Option ℕ) (opened : Opened) (calls : List TracedCall) (distinct : AreDistinctNumbers (map (λ (call : TracedCall). call.line) calls)) where
  shift_lines : (shifts : List Shift) → All (IsShift fds worker opened) shifts → AreInOrder shifts → ((s : Shift) (m : MadeCall) → IsOneOf shifts s → IsOneOf s.made m → IsOneOf calls m.call)
      → AreDistinctNumbers (map line_of (flat_map (λ (s : Shift). s.made) shifts))
  shift_lines [] are ordered within = tt
  shift_lines (first ∷ rest) are ordered within =
      let is = All-head (IsShift fds worker opened) first rest are in
      let own = rising_distinct (map line_of first.made) (AllPairs-from_increasing (map line_of first.made) is.in_lines) in
      let later = shift_lines rest (All-tail (IsShift fds worker opened) first rest are) ordered.1 (λ s m there one. within s m (inr there) one) in
      subst AreDistinctNumbers (sym (map-append line_of first.made (flat_map (λ (s : Shift). s.made) rest)))
      (distinct_both (map line_of first.made) (map line_of (flat_map (λ (s : Shift). s.made) rest)) own later apart)
    where
      apart : (n : ℕ) → IsOneOf (map line_of first.made) n → IsOneOf (map line_of (flat_map (λ (s : Shift). s.made) rest)) n → ⊥
      apart n one other =
          let a = one_of_mapped line_of first.made n one in
          let b = one_of_mapped line_of (flat_map (λ (s : Shift). s.made) rest) n other in
          let from = one_of_joined (λ (s : Shift). s.made) rest b.0 b.1 in
          let behind = of_one (ComesBehind first) rest from.0 ordered.0 from.1 in
          let same : a.0.call ≡ b.0.call =
          one_of_line calls a.0.call b.0.call distinct (within first a.0 (inl refl) a.1) (within from.0 b.0 (inr from.1) from.2) (a.2 ∙ sym b.2) in
          elim (behind a.0 b.0 a.1 from.2) [
            | inl round ↦ (let less = round.0 in let at = ap (λ (call : TracedCall). call.round) same in omega (arith, less, at))
            | inr beside ↦ beside.1 (ap (λ (call : TracedCall). call.thread) same)
          ]

-- No two calls of a run of calls whose lines rise are of one line.
pub run_lines : (fds : List Fd) (worker : Option ℕ) (calls : List TracedCall) (made : List MadeCall) (zero : PassState) → HasRun fds worker made zero → IsStrictlyIncreasing (map (λ (call : TracedCall). call.line) calls)
    → AreCallsOf calls made → HaveOwnLines (calls_made made)
run_lines fds worker calls made zero run rise within =
    let all = flat_map (λ (s : Shift). s.made) run.shifts in
    let back = IsPermutation-sym made all run.listed in
    let lines = map (λ (call : TracedCall). call.line) calls in
    let distinct = shift_lines fds worker zero.view.opened calls (rising_distinct lines (AllPairs-from_increasing lines rise)) run.shifts run.each run.in_order
    (λ s m there one. within m (one_moved all made m back (one_in_joined (λ (s : Shift). s.made) run.shifts s m there one))) in
    subst AreDistinctNumbers (mapped_twice made) (distinct_moved (map line_of all) (map line_of made) (IsPermutation-map line_of all made back) distinct)
