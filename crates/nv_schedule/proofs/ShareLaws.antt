-- Shares: the placed calls of each pass's share, sorted by their places, are the history.
use Rattle.std.proofs.Common.{◌≡◌, ℕ, ◌<◌, ◌≤◌, List, [], ◌∷◌, length, map, get_or, inl, inr, refl, sym, ap, subst, ◌∙◌, arith}
use Rattle.std.specs.Prelude.{All, IsPermutation}
use Rattle.std.specs.List.{flat_map}
use Rattle.std.specs.List.Sorted.{IsNonDecreasingBy}
use Rattle.std.proofs.lemmas.Bool.{cases_lt}
use Rattle.std.proofs.lemmas.List.Kept.{AllPairs-from_increasing}
use Rattle.std.proofs.lemmas.List.Sorted.{IsPermutation-sym}
use Rattle.nv_plain.specs.Histories.{Answered}
use Rattle.nv_core.specs.state.Passes.{IsOneOf}
use Rattle.nv_core.specs.invariant.OneHistory.{calls_by}
use Rattle.nv_table.specs.state.Views.{AreDistinctNumbers}
use Rattle.nv_mount.specs.declared.fds.Fd.{Fd}
use Rattle.nv_trace.specs.declared.trace_call.TracedCall.{TracedCall}
use Rattle.nv_runner.specs.Histories.{AreHistory, ComesBefore, PlacedCall, placed_calls, placed_in_answer}
use Rattle.nv_runner.specs.Lists.{MadeCall}
use Rattle.nv_runner.proofs.histories.HistoryCounts.{hits, hits_at, hits_none, hits_past, own_hits}
use Rattle.nv_runner.proofs.histories.HistoryMembers.{of_one, one_in_joined, one_mapped, one_moved, one_of_joined}
use Rattle.nv_runner.proofs.histories.HistoryOrder.{LinesRise, lines_rise, made_of, row_lines}
use Rattle.nv_runner.proofs.histories.HistoryRows.{AreRow, IsIn, as_many, row_is_in, stand_in_row}
use Rattle.nv_runner.proofs.histories.HistorySorted.{AreOnceAt, at_places, keep_order, stand_in_turn, times_at}
use Rattle.nv_runner.proofs.histories.HistorySums.{added, added_joined, added_mapped, added_moved, added_none, added_same, if_same, once_there, same_counts, some_there, times_there}
use Rattle.nv_schedule.specs.Shares.{AreShares, IsShareOf, Share, SharesAreHistory}

-- ---- two shares

-- one of a thread
one_of_thread : (shares : List Share) (s t : Share) → AreDistinctNumbers (map (λ (share : Share). share.thread) shares) → IsOneOf shares s → IsOneOf shares t → s.thread ≡ t.thread → s ≡ t
one_of_thread [] s t distinct one other same = absurd one
one_of_thread (first ∷ rest) s t distinct (inl is) (inl also) same = is ∙ sym also
one_of_thread (first ∷ rest) s t distinct (inl is) (inr later) same =
    let thread : t.thread ≡ first.thread = sym same ∙ ap (λ (share : Share). share.thread) is in
    absurd (distinct.0 (subst (IsOneOf (map (λ (share : Share). share.thread) rest)) thread (one_mapped (λ (share : Share). share.thread) rest t later)))
one_of_thread (first ∷ rest) s t distinct (inr later) (inl is) same =
    let thread : s.thread ≡ first.thread = same ∙ ap (λ (share : Share). share.thread) is in
    absurd (distinct.0 (subst (IsOneOf (map (λ (share : Share). share.thread) rest)) thread (one_mapped (λ (share : Share). share.thread) rest s later)))
one_of_thread (first ∷ rest) s t distinct (inr one) (inr other) same = one_of_thread rest s t distinct.1 one other same

-- a history with a place has an entry
some_entry : (history : List Answered) (place : ℕ) → place < length history → Answered
some_entry [] place within = absurd (omega arith)
some_entry (first ∷ later) place within = first

module _ (fds : List Fd) (history : List Answered) (shares : List Share) (made : List MadeCall) (are : AreShares fds history shares) (listed : IsPermutation made (flat_map (λ (s : Share). s.made) shares)) where
  share_is : (share : Share) → IsOneOf shares share → IsShareOf fds history share
  share_is share one = of_one (IsShareOf fds history) shares share are.each one

  row : (share : Share) → IsOneOf shares share → AreRow fds share.number share.seen (placed_calls share.made) history
  row share one = stand_in_row fds share.number share.seen share.made history (share_is share one).stand

  all : (share : Share) → IsOneOf shares share → length (calls_by share.number history) ≡ length (placed_calls share.made)
  all share one = ap length (share_is share one).placed_are ∙ as_many fds share.number share.seen share.made history (share_is share one).stand

  rise : (share : Share) → IsOneOf shares share → LinesRise (placed_calls share.made)
  rise share one = lines_rise share.made (AllPairs-from_increasing (map (λ (m : MadeCall). m.call.line) share.made) (share_is share one).in_lines)

  abbrev passes : List ℕ
  passes = map (λ (s : Share). s.number) shares

  -- ---- the places

  -- a placed call's share
  share_of : (p : PlacedCall) → IsOneOf (placed_calls made) p → (share : Share) × IsOneOf shares share × IsOneOf (placed_calls share.made) p
  share_of p one =
      let m = one_of_joined (λ (m : MadeCall). placed_in_answer m.call m.answer) made p one in
      let moved = one_moved made (flat_map (λ (s : Share). s.made) shares) m.0 listed m.1 in
      let share = one_of_joined (λ (s : Share). s.made) shares m.0 moved in
      (share.0, share.1, one_in_joined (λ (l : MadeCall). placed_in_answer l.call l.answer) share.0.made m.0 p share.2 m.2)

  -- how many have a place, by the passes that have it
  times_by_pass : (place : ℕ) → times_at (placed_calls made) place ≡ added (λ number. hits number history place) passes
  times_by_pass place =
      let of_answer : MadeCall → ℕ = λ m. times_at (placed_in_answer m.call m.answer) place in
      added_joined (λ (p : PlacedCall). if_same p.place place) (λ (m : MadeCall). placed_in_answer m.call m.answer) made
      ∙ added_moved of_answer made (flat_map (λ (s : Share). s.made) shares) listed
      ∙ added_joined of_answer (λ (s : Share). s.made) shares
      ∙ added_same (λ (s : Share). added of_answer s.made) (λ (s : Share). hits s.number history place) shares (λ s one.
      sym (added_joined (λ (p : PlacedCall). if_same p.place place) (λ (m : MadeCall). placed_in_answer m.call m.answer) s.made)
      ∙ own_hits fds s.number s.seen (placed_calls s.made) history (row s one) (all s one) place)
      ∙ sym (added_mapped (λ number. hits number history place) (λ (s : Share). s.number) shares)

  -- who called is one of the passes
  caller_there : (place : ℕ) (d : Answered) → place < length history → 1 ≤ times_there (get_or history place d).caller passes
  caller_there place d within =
      let caller = (get_or history place d).caller in
      elim (cases_lt 0 (times_there caller passes)) [
        | inl some ↦ some
        | inr none ↦ absurd (
            let nobody : calls_by caller history ≡ [] = are.others caller (λ one. (let there = some_there caller passes one in omega arith)) in
            let none_there = hits_none caller history place (ap length nobody) in
            let here = hits_at caller history place d within in
            let one = same_counts caller caller refl in
            omega arith
            )
      ]

  once_at : AreOnceAt 0 (length history) (placed_calls made)
  once_at = record {
    inside = λ place least most. inside place (omega arith);
    before = λ place low. absurd (omega arith);
    behind = λ place high. times_by_pass place ∙ added_none (λ number. hits number history place) passes (λ number one. hits_past number history place (omega arith));
  }
    where
      caller_once : (place : ℕ) (d : Answered) → place < length history → added (λ number. hits number history place) passes ≡ 1
      caller_once place d within =
          let caller = (get_or history place d).caller in
          let same : added (λ number. hits number history place) passes ≡ times_there caller passes =
          added_same (λ number. hits number history place) (if_same caller) passes (λ number one. hits_at number history place d within) in
          let most = once_there caller passes are.passes in
          let least = caller_there place d within in
          omega arith

      inside : (place : ℕ) → place < length history → times_at (placed_calls made) place ≡ 1
      inside place within = times_by_pass place ∙ caller_once place (some_entry history place within) within

  -- ---- the order

  thread_of : (share : Share) → IsOneOf shares share → (p : PlacedCall) → IsOneOf (placed_calls share.made) p → p.call.thread ≡ share.thread
  thread_of share one p there =
      let m = made_of share.made p there in
      sym (ap (λ (c : TracedCall). c.thread) m.2) ∙ of_one (λ (l : MadeCall). l.call.thread ≡ share.thread) share.made m.0 (share_is share one).own m.1

  round_of : (round : ℕ) → All (λ (m : MadeCall). m.call.round ≡ round) made → (p : PlacedCall) → IsOneOf (placed_calls made) p → p.call.round ≡ round
  round_of round one_round p there =
      let m = made_of made p there in
      sym (ap (λ (c : TracedCall). c.round) m.2) ∙ of_one (λ (l : MadeCall). l.call.round ≡ round) made m.0 one_round m.1

  places_keep : (round : ℕ) → All (λ (m : MadeCall). m.call.round ≡ round) made → (p q : PlacedCall) → IsOneOf (placed_calls made) p → IsOneOf (placed_calls made) q → ComesBefore q.call p.call → q.place < p.place
  places_keep round one_round p q one other (inl before) = absurd (let a = round_of round one_round p one in let b = round_of round one_round q other in omega (arith, a, b, before))
  places_keep round one_round p q one other (inr comes) =
      let s = share_of p one in
      let t = share_of q other in
      let thread : s.0.thread ≡ t.0.thread = sym (thread_of s.0 s.1 p s.2) ∙ sym comes.0 ∙ thread_of t.0 t.1 q t.2 in
      let same = one_of_thread shares s.0 t.0 are.threads s.1 t.1 thread in
      let of_q : IsOneOf (placed_calls s.0.made) q = subst (λ (v : Share). IsOneOf (placed_calls v.made) q) (sym same) t.2 in
      (row_lines fds s.0.number s.0.seen (placed_calls s.0.made) history (row s.0 s.1) (rise s.0 s.1) p q s.2 of_q).before comes.1

  -- ---- sorted

  in_place : (p : PlacedCall) → IsOneOf (placed_calls made) p → IsIn fds [] history p
  in_place p one =
      let s = share_of p one in
      let found = row_is_in fds s.0.number s.0.seen (placed_calls s.0.made) history (row s.0 s.1) p s.2 in
      record { behind = omega arith; within = found.within; entry = found.entry; at = found.at; stands = found.stands }

  are_history : (round : ℕ) (sorted : List PlacedCall) → All (λ (m : MadeCall). m.call.round ≡ round) made → IsPermutation (placed_calls made) sorted → IsNonDecreasingBy (λ p. p.place) sorted → AreHistory fds sorted history
  are_history round sorted one_round moved rises =
      let back : IsPermutation sorted (placed_calls made) = IsPermutation-sym (placed_calls made) sorted moved in
      let from : (p : PlacedCall) → IsOneOf sorted p → IsOneOf (placed_calls made) p = λ p one. one_moved sorted (placed_calls made) p back one in
      let same : (place : ℕ) → times_at sorted place ≡ times_at (placed_calls made) place = λ place. added_moved (λ (p : PlacedCall). if_same p.place place) sorted (placed_calls made) back in
      let once : AreOnceAt 0 (length history) sorted = record {
        inside = λ place least most. same place ∙ once_at.inside place least most;
        before = λ place low. same place ∙ once_at.before place low;
        behind = λ place high. same place ∙ once_at.behind place high;
      } in
      let at = at_places sorted 0 (length history) rises once in record {
        places = at.0;
        each = stand_in_turn fds [] history sorted at.0 at.1 (λ p one. in_place p (from p one));
        in_order = keep_order sorted 0 at.0 (λ p q one other. places_keep round one_round p q (from p one) (from q other));
      }

pub shares_are_history : SharesAreHistory
shares_are_history fds history shares made round sorted are listed one_round moved rises = are_history fds history shares made are listed round sorted one_round moved rises
