-- Histories: the placed calls of a run, sorted by their places.
use Rattle.std.proofs.Common.{◌≡◌, ℕ, ◌<◌, ◌≤◌, List, [], ◌∷◌, ◌++◌, length, map, get_or, inl, inr, refl, sym, ap, subst, ◌∙◌, arith}
use Rattle.std.specs.Prelude.{◌⊎◌, Option, IsPermutation}
use Rattle.std.specs.List.{flat_map}
use Rattle.std.specs.List.Sorted.{IsNonDecreasingBy}
use Rattle.std.proofs.lemmas.Bool.{cases_lt, cases_order}
use Rattle.std.proofs.lemmas.List.Kept.{AllPairs-from_increasing}
use Rattle.std.proofs.lemmas.List.Sorted.{IsPermutation-sym}
use Rattle.nv_plain.specs.Histories.{Answered}
use Rattle.nv_core.specs.state.Passes.{Pass, IsOneOf}
use Rattle.nv_core.specs.invariant.OneHistory.{IsPrefix, calls_by}
use Rattle.nv_table.specs.passes.Seats.{past_of}
use Rattle.nv_table.specs.state.Opened.{Opened, state_of}
use Rattle.nv_table.specs.state.States.{PassState}
use Rattle.nv_table.specs.state.Views.{Past, numbers, pass_of, past_pass}
use Rattle.nv_mount.specs.declared.fds.Fd.{Fd}
use Rattle.nv_trace.specs.declared.trace_call.TracedCall.{TracedCall}
use Rattle.nv_runner.specs.Lists.{MadeCall, placed}
use Rattle.nv_runner.specs.Shifts.{AreInOrder, ComesBehind, HasRun, IsShift, Shift}
use Rattle.nv_runner.specs.Histories.{AreHistory, ComesBefore, IsHistoryOfPasses, PlacedCall, RoundsRise, SortedAreHistory, placed_calls, placed_in_answer}
use Rattle.nv_runner.proofs.ListLaws.{made_mine, made_stand}
use Rattle.nv_runner.proofs.histories.HistoryMembers.{of_one, one_in_joined, one_mapped, one_moved, one_of_joined}
use Rattle.nv_runner.proofs.histories.HistorySums.{added, added_joined, added_mapped, added_moved, added_none, added_same, if_same, once_there, same_counts, some_there, times_there}
use Rattle.nv_runner.proofs.histories.HistoryRows.{AreRow, IsIn, as_many, prefix_length, prefix_refl, row_is_in, stand_in_row}
use Rattle.nv_runner.proofs.histories.HistoryCounts.{hits, hits_at, hits_none, hits_past, own_hits}
use Rattle.nv_runner.proofs.histories.HistoryOrder.{LinesRise, LinesTell, lines_rise, made_of, row_lines}
use Rattle.nv_runner.proofs.histories.HistorySorted.{AreOnceAt, at_places, keep_order, stand_in_turn, times_at}

-- ---- two shifts

-- of two of some shifts one comes behind the other, or they are one
two_shifts : (shifts : List Shift) → AreInOrder shifts → (one other : Shift) → IsOneOf shifts one → IsOneOf shifts other → (one ≡ other) ⊎ (ComesBehind one other ⊎ ComesBehind other one)
two_shifts [] order one other there also = absurd there
two_shifts (first ∷ later) order one other (inl is) (inl also_is) = inl (is ∙ sym also_is)
two_shifts (first ∷ later) order one other (inl is) (inr also) =
    inr (inl (subst (λ (s : Shift). ComesBehind s other) (sym is) (of_one (ComesBehind first) later other order.0 also)))
two_shifts (first ∷ later) order one other (inr there) (inl also_is) =
    inr (inr (subst (λ (s : Shift). ComesBehind s one) (sym also_is) (of_one (ComesBehind first) later one order.0 there)))
two_shifts (first ∷ later) order one other (inr there) (inr also) = two_shifts later order.1 one other there also

-- the placed calls of a shift, in a history that begins with all that its pass has seen
record StandsIn (fds : List Fd) (history : List Answered) (shift : Shift) : Type 0 where
  pub row : AreRow fds shift.now.view.number (pass_of shift.start.view).seen (placed_calls shift.made) history
  pub all : length (calls_by shift.now.view.number history) ≡ length (placed_calls shift.made)
  pub seen : (p : PlacedCall) → IsOneOf (placed_calls shift.made) p → p.place < length (pass_of shift.now.view).seen
  pub rise : LinesRise (placed_calls shift.made)

-- one call comes behind another where it is of a later round, behind all that the other's pass had seen
behind_it : (fds : List Fd) (history : List Answered) (later earlier : Shift) → StandsIn fds history later → StandsIn fds history earlier
    → IsPrefix (pass_of earlier.now.view).seen (pass_of later.start.view).seen
    → (p q : PlacedCall) → IsOneOf (placed_calls later.made) p → IsOneOf (placed_calls earlier.made) q → q.place < p.place
behind_it fds history later earlier in_later in_earlier begins p q one other =
    let least = (row_is_in fds later.now.view.number (pass_of later.start.view).seen (placed_calls later.made) history in_later.row p one).behind in
    let most = in_earlier.seen q other in
    let long = prefix_length (pass_of earlier.now.view).seen (pass_of later.start.view).seen begins in
    omega arith

-- lines of a later round stand behind those of an earlier one, for two calls
abbrev LinesFit : (a b : TracedCall) → Type 0
LinesFit a b = a.line < b.line → b.round < a.round → ⊥

-- within a shift
same_shift : (p q : PlacedCall) → LinesTell p q → LinesFit p.call q.call → ComesBefore q.call p.call → q.place < p.place
same_shift p q tell fit (inr thread) = tell.before thread.1
same_shift p q tell fit (inl round) = elim (cases_order q.call.line p.call.line) [
  | inl same ↦ absurd (let r = ap (λ (c : TracedCall). c.round) (tell.same same) in omega arith)
  | inr (inl low) ↦ tell.before low
  | inr (inr high) ↦ absurd (fit high round)
]

module _ (fds : List Fd) (history : List Answered) (one other : Shift) (in_one : StandsIn fds history one) (in_other : StandsIn fds history other) (p q : PlacedCall)
    (of_p : IsOneOf (placed_calls one.made) p) (of_q : IsOneOf (placed_calls other.made) q) (fit : LinesFit q.call p.call) where
  -- a call of a later shift
  from_behind : ComesBehind one other → ComesBefore q.call p.call → q.place < p.place
  from_behind behind comes =
      let m = made_of one.made p of_p in
      let l = made_of other.made q of_q in
      let round_m = ap (λ (c : TracedCall). c.round) m.2 in
      let round_l = ap (λ (c : TracedCall). c.round) l.2 in
      let thread_m = ap (λ (c : TracedCall). c.thread) m.2 in
      let thread_l = ap (λ (c : TracedCall). c.thread) l.2 in
      elim (behind m.0 l.0 m.1 l.1) [
        | inl later ↦ behind_it fds history one other in_one in_other later.1 p q of_p of_q
        | inr apart ↦ absurd (elim comes [
          | inl round ↦ (let e = apart.0 in omega arith)
          | inr thread ↦ apart.1 (thread_m ∙ sym thread.0 ∙ sym thread_l)
        ])
      ]

  -- a call of an earlier shift
  from_before : ComesBehind other one → ComesBefore q.call p.call → q.place < p.place
  from_before behind comes =
      let m = made_of one.made p of_p in
      let l = made_of other.made q of_q in
      let round_m = ap (λ (c : TracedCall). c.round) m.2 in
      let round_l = ap (λ (c : TracedCall). c.round) l.2 in
      let thread_m = ap (λ (c : TracedCall). c.thread) m.2 in
      let thread_l = ap (λ (c : TracedCall). c.thread) l.2 in
      absurd (elim (behind l.0 m.0 l.1 m.1) [
        | inl later ↦ elim comes [
          | inl round ↦ (let e = later.0 in omega arith)
          | inr thread ↦ (let e = later.0 in fit thread.1 (omega arith))
        ]
        | inr apart ↦ elim comes [
          | inl round ↦ (let e = apart.0 in omega arith)
          | inr thread ↦ apart.1 (thread_l ∙ thread.0 ∙ sym thread_m)
        ]
      ])

-- ---- a run

-- a history with a place has an entry
some_entry : (history : List Answered) (place : ℕ) → place < length history → Answered
some_entry [] place within = absurd (omega arith)
some_entry (first ∷ later) place within = first

module _ (fds : List Fd) (worker : Option ℕ) (made : List MadeCall) (zero : PassState) (history : List Answered) (run : HasRun fds worker made zero) (is : IsHistoryOfPasses zero.view history)
  where
    past_there : (shift : Shift) → IsOneOf run.shifts shift → IsOneOf zero.view.ended (past_of shift.now.view)
    past_there shift one = subst (λ (pasts : List Past). IsOneOf pasts (past_of shift.now.view)) run.pasts (one_mapped (λ (s : Shift). past_of s.now.view) run.shifts shift one)

    stands_in : (shift : Shift) → IsOneOf run.shifts shift → StandsIn fds history shift
    stands_in shift one =
        let start = shift.start in
        let now = shift.now in
        let shifted : IsShift fds worker zero.view.opened shift = of_one (IsShift fds worker zero.view.opened) run.shifts shift run.each one in
        let there = past_there shift one in
        let same : past_pass zero.view.opened (past_of now.view) ≡ pass_of now.view = ap (λ (o : Opened). (state_of o now.view.run).passes now.view.number) (sym shifted.still_mount) in
        let begins : IsPrefix (pass_of shifted.last.view).seen history =
        subst (λ (l : List Answered). IsPrefix l history) (ap (λ (p : Pass). p.seen) same ∙ shifted.quiet.seen) (is.seen (past_of now.view) there) in
        let stand = made_stand fds worker shift.made start shifted.last shifted.made history begins in
        let alone = made_stand fds worker shift.made start shifted.last shifted.made (pass_of shifted.last.view).seen (prefix_refl (pass_of shifted.last.view).seen) in
        let mine : calls_by now.view.number history ≡ placed fds start.view.number shift.made =
        is.joined (past_of now.view) there ∙ ap (λ (p : Pass). p.mine) same ∙ shifted.quiet.mine
        ∙ made_mine fds worker shift.made start shifted.last shifted.made ∙ ap (λ (l : List Answered). l ++ placed fds start.view.number shift.made) shifted.fresh in record {
          row = subst (λ n. AreRow fds n (pass_of start.view).seen (placed_calls shift.made) history) (sym shifted.number)
              (stand_in_row fds start.view.number (pass_of start.view).seen shift.made history stand);
          all = ap length mine ∙ as_many fds start.view.number (pass_of start.view).seen shift.made history stand;
          seen = λ p of_p. subst (λ n. p.place < n) (ap length (sym shifted.quiet.seen))
              (row_is_in fds start.view.number (pass_of start.view).seen (placed_calls shift.made) (pass_of shifted.last.view).seen
              (stand_in_row fds start.view.number (pass_of start.view).seen shift.made (pass_of shifted.last.view).seen alone) p of_p).within;
          rise = lines_rise shift.made (AllPairs-from_increasing (map (λ (m : MadeCall). m.call.line) shift.made) shifted.in_lines);
        }

    -- ---- the places

    -- a placed call's shift
    shift_of : (p : PlacedCall) → IsOneOf (placed_calls made) p → (shift : Shift) × IsOneOf run.shifts shift × IsOneOf (placed_calls shift.made) p
    shift_of p one =
        let m = one_of_joined (λ (m : MadeCall). placed_in_answer m.call m.answer) made p one in
        let moved = one_moved made (flat_map (λ (s : Shift). s.made) run.shifts) m.0 run.listed m.1 in
        let shift = one_of_joined (λ (s : Shift). s.made) run.shifts m.0 moved in
        (shift.0, shift.1, one_in_joined (λ (l : MadeCall). placed_in_answer l.call l.answer) shift.0.made m.0 p shift.2 m.2)

    -- how many have a place, by the passes that have it
    times_by_pass : (place : ℕ) → times_at (placed_calls made) place ≡ added (λ number. hits number history place) (numbers zero.view.ended)
    times_by_pass place =
        let of_answer : MadeCall → ℕ = λ m. times_at (placed_in_answer m.call m.answer) place in
        added_joined (λ (p : PlacedCall). if_same p.place place) (λ (m : MadeCall). placed_in_answer m.call m.answer) made
        ∙ added_moved of_answer made (flat_map (λ (s : Shift). s.made) run.shifts) run.listed
        ∙ added_joined of_answer (λ (s : Shift). s.made) run.shifts
        ∙ added_same (λ (s : Shift). added of_answer s.made) (λ (s : Shift). hits s.now.view.number history place) run.shifts (λ s one.
        sym (added_joined (λ (p : PlacedCall). if_same p.place place) (λ (m : MadeCall). placed_in_answer m.call m.answer) s.made)
        ∙ own_hits fds s.now.view.number (pass_of s.start.view).seen (placed_calls s.made) history (stands_in s one).row (stands_in s one).all place)
        ∙ sym (added_mapped (λ (past : Past). hits past.number history place) (λ (s : Shift). past_of s.now.view) run.shifts)
        ∙ ap (added (λ (past : Past). hits past.number history place)) run.pasts
        ∙ sym (added_mapped (λ number. hits number history place) (λ (past : Past). past.number) zero.view.ended)

    -- who called is one of the passes that were taken in
    caller_there : (place : ℕ) (d : Answered) → place < length history → 1 ≤ times_there (get_or history place d).caller (numbers zero.view.ended)
    caller_there place d within =
        let caller = (get_or history place d).caller in
        elim (cases_lt 0 (times_there caller (numbers zero.view.ended))) [
          | inl some ↦ some
          | inr none ↦ absurd (
              let nobody : calls_by caller history ≡ [] = is.others caller (λ past one same.
              (let there = some_there caller (numbers zero.view.ended) (subst (IsOneOf (numbers zero.view.ended)) same (one_mapped (λ (past : Past). past.number) zero.view.ended past one)) in omega arith)) in
              let none_there = hits_none caller history place (ap length nobody) in
              let here = hits_at caller history place d within in
              let one = same_counts caller caller refl in
              omega arith
              )
        ]

    once_at : AreOnceAt 0 (length history) (placed_calls made)
    once_at = record {
      inside = λ place least most. inside place (omega arith);
      before = λ place low. absurd (omega arith);
      behind = λ place high. times_by_pass place ∙ added_none (λ number. hits number history place) (numbers zero.view.ended) (λ number one. hits_past number history place (omega arith));
    }
      where
        caller_once : (place : ℕ) (d : Answered) → place < length history → added (λ number. hits number history place) (numbers zero.view.ended) ≡ 1
        caller_once place d within =
            let caller = (get_or history place d).caller in
            let same : added (λ number. hits number history place) (numbers zero.view.ended) ≡ times_there caller (numbers zero.view.ended) =
            added_same (λ number. hits number history place) (if_same caller) (numbers zero.view.ended) (λ number one. hits_at number history place d within) in
            let most = once_there caller (numbers zero.view.ended) is.distinct in
            let least = caller_there place d within in
            omega arith

        inside : (place : ℕ) → place < length history → times_at (placed_calls made) place ≡ 1
        inside place within = times_by_pass place ∙ caller_once place (some_entry history place within) within

    -- ---- the order

    places_keep : RoundsRise (map (λ m. m.call) made) → (p q : PlacedCall) → IsOneOf (placed_calls made) p → IsOneOf (placed_calls made) q → ComesBefore q.call p.call → q.place < p.place
    places_keep rounds p q one other comes =
        let s = shift_of p one in
        let t = shift_of q other in
        let in_s = stands_in s.0 s.1 in
        let in_t = stands_in t.0 t.1 in
        let there = call_there p one in
        let also = call_there q other in
        elim (two_shifts run.shifts run.in_order s.0 t.0 s.1 t.1) [
          | inl same ↦ (
              let of_q : IsOneOf (placed_calls s.0.made) q = subst (λ (v : Shift). IsOneOf (placed_calls v.made) q) (sym same) t.2 in
              same_shift p q (row_lines fds s.0.now.view.number (pass_of s.0.start.view).seen (placed_calls s.0.made) history in_s.row in_s.rise p q s.2 of_q)
              (rounds p.call q.call there also) comes
              )
          | inr (inl behind) ↦ from_behind fds history s.0 t.0 in_s in_t p q s.2 t.2 (rounds q.call p.call also there) behind comes
          | inr (inr before) ↦ from_before fds history s.0 t.0 in_s in_t p q s.2 t.2 (rounds q.call p.call also there) before comes
        ]
      where
        call_there : (r : PlacedCall) → IsOneOf (placed_calls made) r → IsOneOf (map (λ m. m.call) made) r.call
        call_there r one =
            let m = made_of made r one in
            subst (IsOneOf (map (λ (l : MadeCall). l.call) made)) m.2 (one_mapped (λ (l : MadeCall). l.call) made m.0 m.1)

    -- ---- sorted

    pub are_history : (sorted : List PlacedCall) → RoundsRise (map (λ m. m.call) made) → IsPermutation (placed_calls made) sorted → IsNonDecreasingBy (λ p. p.place) sorted
        → AreHistory fds sorted history
    are_history sorted rounds moved rises =
        let back : IsPermutation sorted (placed_calls made) = IsPermutation-sym (placed_calls made) sorted moved in
        let from : (p : PlacedCall) → IsOneOf sorted p → IsOneOf (placed_calls made) p = λ p one. one_moved sorted (placed_calls made) p back one in
        let same : (place : ℕ) → times_at sorted place ≡ times_at (placed_calls made) place = λ place. added_moved (λ (p : PlacedCall). if_same p.place place) sorted (placed_calls made) back in
        let once : AreOnceAt 0 (length history) sorted = record {
          inside = λ place least most. same place ∙ once_at.inside place least most;
          before = λ place low. same place ∙ once_at.before place low;
          behind = λ place high. same place ∙ once_at.behind place high;
        } in
        let at = at_places sorted 0 (length history) rises once in record {
          places = at.0;
          each = stand_in_turn fds [] history sorted at.0 at.1 (λ p one. in_place p (from p one));
          in_order = keep_order sorted 0 at.0 (λ p q one other. places_keep rounds p q (from p one) (from q other));
        }
      where
        in_place : (p : PlacedCall) → IsOneOf (placed_calls made) p → IsIn fds [] history p
        in_place p one =
            let s = shift_of p one in
            let found = row_is_in fds s.0.now.view.number (pass_of s.0.start.view).seen (placed_calls s.0.made) history (stands_in s.0 s.1).row p s.2 in
            record { behind = omega arith; within = found.within; entry = found.entry; at = found.at; stands = found.stands }

pub sorted_are_history : SortedAreHistory
sorted_are_history fds worker made zero history sorted run is rounds moved rises = are_history fds worker made zero history run is sorted rounds moved rises
