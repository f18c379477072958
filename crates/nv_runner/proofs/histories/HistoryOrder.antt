-- Order: the lines of placed calls, and their places.
use Rattle.std.proofs.Common.{◌≡◌, ℕ, suc, ◌<◌, List, [], ◌∷◌, ◌++◌, map, inl, inr, sym, ap, ◌∙◌, arith}
use Rattle.std.specs.List.{AllPairs}
use Rattle.nv_plain.specs.Histories.{Answered}
use Rattle.nv_core.specs.state.Passes.{IsOneOf}
use Rattle.nv_mount.specs.declared.fds.Fd.{Fd}
use Rattle.nv_trace.specs.declared.trace_call.TracedCall.{TracedCall}
use Rattle.nv_runner.specs.declared.answer.Answer.{Answer}
use Rattle.nv_runner.specs.declared.answer.Answer.TheVariants.{Placed}
use Rattle.nv_runner.specs.Lists.{MadeCall}
use Rattle.nv_runner.specs.Histories.{PlacedCall, placed_calls, placed_in_answer}
use Rattle.nv_runner.proofs.histories.HistoryMembers.{contained, one_mapped, one_of_joined}
use Rattle.nv_runner.proofs.histories.HistoryRows.{AreRow, head_before}

-- ---- where a placed call comes from

-- it is the call that was answered so
made_from : (call : TracedCall) (answer : Answer) (p : PlacedCall) → IsOneOf (placed_in_answer call answer) p → call ≡ p.call
made_from call (Placed place reply) p (inl is) = sym (ap (λ (q : PlacedCall). q.call) is)
made_from call (Placed place reply) p (inr none) = absurd none
made_from call answer p one = absurd one

pub made_of : (made : List MadeCall) (p : PlacedCall) → IsOneOf (placed_calls made) p → (m : MadeCall) × IsOneOf made m × (m.call ≡ p.call)
made_of made p one =
    let found = one_of_joined (λ (m : MadeCall). placed_in_answer m.call m.answer) made p one in
    (found.0, found.1, made_from found.0.call found.0.answer p found.2)

-- ---- lines

-- each line stands below those behind it
abbrev pub LinesRise : List PlacedCall → Type 0
LinesRise [] = Unit {0}
LinesRise (p ∷ later) = ((q : PlacedCall) → IsOneOf later q → p.call.line < q.call.line) × LinesRise later

one_rises : (call : TracedCall) (answer : Answer) (later : List PlacedCall) → ((q : PlacedCall) → IsOneOf later q → call.line < q.call.line) → LinesRise later
    → LinesRise (placed_in_answer call answer ++ later)
one_rises call (Placed place reply) later below rises = (below, rises)
one_rises call answer later below rises = rises

pub lines_rise : (made : List MadeCall) → AllPairs (λ x y. x < y) (map (λ m. m.call.line) made) → LinesRise (placed_calls made)
lines_rise [] rise = tt
lines_rise (m ∷ later) rise =
    one_rises m.call m.answer (placed_calls later) below (lines_rise later (λ i j d before within. rise (suc i) (suc j) d (omega arith) (omega arith)))
  where
    below : (q : PlacedCall) → IsOneOf (placed_calls later) q → m.call.line < q.call.line
    below q one =
        let found = made_of later q one in
        let there = contained (map (λ (l : MadeCall). l.call.line) later) found.0.call.line (one_mapped (λ (l : MadeCall). l.call.line) later found.0 found.1) in
        let up = rise 0 (suc there.0) found.0.call.line (omega arith) (omega (arith, there.1)) in
        let same = ap (λ (c : TracedCall). c.line) found.2 in
        let at = there.2 in
        omega arith

-- what lines tell of two calls of a row
pub record LinesTell (p q : PlacedCall) : Type 0 where
  pub before : q.call.line < p.call.line → q.place < p.place
  pub same : q.call.line ≡ p.call.line → q.call ≡ p.call

pub row_lines : (fds : List Fd) (number : ℕ) (seen : List Answered) (row : List PlacedCall) (history : List Answered) → AreRow fds number seen row history → LinesRise row
    → (p q : PlacedCall) → IsOneOf row p → IsOneOf row q → LinesTell p q
row_lines fds number seen [] history are rise p q one other = absurd one
row_lines fds number seen (first ∷ later) history are rise p q (inl is) (inl other_is) =
    let same : q ≡ p = other_is ∙ sym is in
    let line = ap (λ (c : PlacedCall). c.call.line) same in
    record { before = λ low. absurd (omega arith); same = λ _. ap (λ (c : PlacedCall). c.call) same }
row_lines fds number seen (first ∷ later) history are rise p q (inl is) (inr other) =
    let up = rise.0 q other in
    let line = ap (λ (c : PlacedCall). c.call.line) is in
    record { before = λ low. absurd (omega arith); same = λ same. absurd (omega arith) }
row_lines fds number seen (first ∷ later) history are rise p q (inr one) (inl other_is) =
    let up = rise.0 p one in
    let line = ap (λ (c : PlacedCall). c.call.line) other_is in
    let place = ap (λ (c : PlacedCall). c.place) other_is in
    let before = head_before fds number seen first later history are p one in
    record { before = λ low. omega arith; same = λ same. absurd (omega arith) }
row_lines fds number seen (first ∷ later) history are rise p q (inr one) (inr other) = row_lines fds number are.0 later history are.2 rise.1 p q one other
