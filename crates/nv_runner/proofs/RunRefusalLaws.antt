-- Refusals of a whole run: what had been drawn by then, and that nothing was retired.
use Rattle.std.proofs.Common.{◌≡◌, ◌≢◌, ◌⊎◌, ℕ, ◌+◌, ◌<◌, ◌≤◌, ◌==◌, nat_lt, ◌&&◌, ◌||◌, Bool, true, false, List, [], ◌∷◌, ◌++◌, map, get_or, suc, inl, inr, refl, sym, ap, ap₂, subst, ◌∙◌, arith}
use Rattle.std.specs.Prelude.{Option, None}
use Rattle.std.specs.List.{AllPairs, flat_map}
use Rattle.std.proofs.lemmas.List.Sorted.{IsPermutation-sym}
use Rattle.std.proofs.lemmas.Bool.{cases_eq, cases_lt, ne_eqb, le-ltb}
use Rattle.std.proofs.lemmas.List.{append-nil}
use Rattle.std.proofs.lemmas.List.Elements.{All-append}
use Rattle.std.proofs.lemmas.List.Kept.{AllPairs-from_increasing}
use Rattle.nv_core.specs.state.Passes.{IsOneOf}
use Rattle.nv_core.specs.state.Words.{Sizes, HEAD}
use Rattle.nv_core.specs.steps.Events.{Event, own}
use Rattle.nv_core.specs.steps.Opening.{IsMount, opening}
use Rattle.nv_core.specs.invariant.Draws.{drawn_of, RunsCountDraws, UnmadeHaveDrawnNothing}
use Rattle.nv_core.specs.invariant.OneHistory.{IsPrefix}
use Rattle.nv_core.proofs.invariant.HistoryLaws.{begins_all}
use Rattle.nv_core.proofs.steps.RunLaws.{run_parts}
use Rattle.nv_table.specs.passes.Seats.{past_of}
use Rattle.nv_table.specs.state.Opened.{Opened, IsRunOf, mount_of, state_of}
use Rattle.nv_table.specs.state.States.{PassState}
use Rattle.nv_table.specs.state.Views.{AreDistinctNumbers, Past, SeesAll, numbers, pass_of}
use Rattle.nv_mount.specs.declared.fds.Fd.{Fd}
use Rattle.nv_mirror.specs.declared.answers.Refusal.{Refusal}
use Rattle.nv_trace.specs.declared.trace_call.TracedCall.{TracedCall}
use Rattle.nv_runner.specs.Entries.{entries_of_calls}
use Rattle.nv_runner.specs.declared.answer.Answer.TheVariants.{Refused}
use Rattle.nv_runner.specs.Faithful.{is_later, not_later}
use Rattle.nv_runner.specs.Histories.{RoundsRise}
use Rattle.nv_runner.specs.Lists.{MadeCall, calls_made}
use Rattle.nv_runner.specs.Refusals.{RefusalsHaveCauses, word_seen}
use Rattle.nv_runner.specs.RunRefusals.{IsRefusedInRun, IsRunOfPasses, calls_that_drew}
use Rattle.nv_runner.specs.Runs.{CleansNothing, is_cleaning}
use Rattle.nv_runner.specs.Shifts.{AreInOrder, ComesBehind, HasRun, IsShift, Shift}
use Rattle.nv_runner.proofs.draws.DrawnSums.{added_most, drew, drew_all, drew_before, drew_total, is_before, listed_total, total_listed}
use Rattle.nv_runner.proofs.histories.HistoryMembers.{contained, of_one, one_in_joined, one_left, one_mapped, one_moved, one_of_joined, one_of_mapped, one_right}
use Rattle.nv_runner.proofs.histories.HistorySums.{added, added_append, added_joined, added_mapped, added_moved, added_same}
use Rattle.nv_runner.proofs.RefusalWords.{WordLaws, sees_on, tail_least}
use Rattle.nv_runner.proofs.RunLaws.{others_clean}
use Rattle.nv_runner.proofs.RunTails.{tail_still}
use Rattle.nv_runner.proofs.StopSeen.{seen_by_zero}
use Rattle.nv_runner.proofs.ShiftRuns.{Chain, DrawnLaws, MadeAt, ShiftDraws, chain, drawn, drawn_absent, drawn_here, drawn_in, drawn_less, made_at_one, shift_draws}

-- ---- calls that don't come later

both_false : (one other : Bool) → one ≡ false → other ≡ false → (one || other) ≡ false
both_false one other first last = ap₂ (λ a b. a || b) first last

and_false : (one other : Bool) → (one ≡ true → other ≡ false) → (one && other) ≡ false
and_false true other none = none refl
and_false false other none = refl

-- of an earlier round, or of another thread in the same one
not_after : (call other : TracedCall) → (call.line < other.line → other.round < call.round → ⊥) → (other.round < call.round) ⊎ ((call.round ≡ other.round) × (call.thread ≢ other.thread)) → is_later call other ≡ false
not_after call other rise (inl before) =
    both_false ((other.thread == call.thread) && nat_lt call.line other.line) (nat_lt call.round other.round)
    (and_false (other.thread == call.thread) (nat_lt call.line other.line) (λ _. le-ltb call.line other.line (elim (cases_lt call.line other.line) [ inl less ↦ absurd (rise less before) | inr more ↦ more ])))
    (le-ltb call.round other.round (omega (arith, before)))
not_after call other rise (inr beside) =
    both_false ((other.thread == call.thread) && nat_lt call.line other.line) (nat_lt call.round other.round)
    (ap (λ b. b && nat_lt call.line other.line) (ne_eqb other.thread call.thread (λ is. beside.1 (sym is)))) (let same = beside.0 in le-ltb call.round other.round (omega (arith, same)))

-- of an earlier line, or the call itself
not_below : (call other : TracedCall) → other.line ≤ call.line → (call.round < other.round → ⊥) → is_later call other ≡ false
not_below call other less rise =
    both_false ((other.thread == call.thread) && nat_lt call.line other.line) (nat_lt call.round other.round)
    (and_false (other.thread == call.thread) (nat_lt call.line other.line) (λ _. le-ltb call.line other.line less))
    (le-ltb call.round other.round (elim (cases_lt call.round other.round) [ inl later ↦ absurd (rise later) | inr more ↦ more ]))

-- those before a call of its pass
lines_below : (before after : List MadeCall) (m other : MadeCall) → AllPairs (λ x y. x < y) (map (λ c. c.call.line) (before ++ m ∷ after)) → IsOneOf before other → other.call.line < m.call.line
lines_below [] after m other rise one = absurd one
lines_below (first ∷ before) after m other rise (inl is) =
    let there = contained (map (λ (c : MadeCall). c.call.line) (before ++ m ∷ after)) m.call.line (one_mapped (λ (c : MadeCall). c.call.line) (before ++ m ∷ after) m (one_right before (m ∷ after) m (inl refl))) in
    let up = rise 0 (there.0 + 1) m.call.line (omega arith) (let a = there.1 in omega (arith, a)) in
    let same = ap (λ (c : MadeCall). c.call.line) is in
    let at = there.2 in
    at_next there.0 up same at
  where
    at_next : (i : ℕ) → first.call.line < get_or (first.call.line ∷ map (λ (c : MadeCall). c.call.line) (before ++ m ∷ after)) (i + 1) m.call.line → other.call.line ≡ first.call.line
        → get_or (map (λ (c : MadeCall). c.call.line) (before ++ m ∷ after)) i m.call.line ≡ m.call.line → other.call.line < m.call.line
    at_next i up same at =
        let next : suc i ≡ i + 1 = omega arith in
        let more : first.call.line < get_or (map (λ (c : MadeCall). c.call.line) (before ++ m ∷ after)) i m.call.line =
        subst (λ k. first.call.line < get_or (first.call.line ∷ map (λ (c : MadeCall). c.call.line) (before ++ m ∷ after)) k m.call.line) (sym next) up in
        omega (arith, more, same, at)
lines_below (first ∷ before) after m other rise (inr one) =
    lines_below before after m other
    (λ i j d less within.
    subst (λ k. get_or (map (λ (c : MadeCall). c.call.line) (before ++ m ∷ after)) i d < get_or (first.call.line ∷ map (λ (c : MadeCall). c.call.line) (before ++ m ∷ after)) k d) (let e : j + 1 ≡ suc j = omega arith in e)
    (subst (λ k. get_or (first.call.line ∷ map (λ (c : MadeCall). c.call.line) (before ++ m ∷ after)) k d < get_or (first.call.line ∷ map (λ (c : MadeCall). c.call.line) (before ++ m ∷ after)) (j + 1) d)
    (let e : i + 1 ≡ suc i = omega arith in e) (rise (i + 1) (j + 1) d (omega (arith, less)) (omega (arith, within)))))
    one

-- ---- shifts, as they stand to one

abbrev StandsTo : Shift → Shift → Type 0
StandsTo one other = (other ≡ one) ⊎ (ComesBehind one other ⊎ ComesBehind other one)

stand_to : (shifts : List Shift) (one other : Shift) → AreInOrder shifts → IsOneOf shifts one → IsOneOf shifts other → StandsTo one other
stand_to [] one other ordered here there = absurd here
stand_to (first ∷ rest) one other ordered (inl is) (inl same) = inl (same ∙ sym is)
stand_to (first ∷ rest) one other ordered (inl is) (inr later) = inr (inl (subst (λ s. ComesBehind s other) (sym is) (of_one (ComesBehind first) rest other ordered.0 later)))
stand_to (first ∷ rest) one other ordered (inr later) (inl same) =
    inr (inr (subst (λ s. ComesBehind s one) (sym same) (of_one (ComesBehind first) rest one ordered.0 later)))
stand_to (first ∷ rest) one other ordered (inr here) (inr there) = stand_to rest one other ordered.1 here there

-- a call of a later round among some, or none
later_there : (call : TracedCall) (made : List MadeCall) → ((a : MadeCall) × IsOneOf made a × (call.round < a.call.round)) ⊎ ((a : MadeCall) → IsOneOf made a → a.call.round ≤ call.round)
later_there call [] = inr (λ a one. absurd one)
later_there call (first ∷ rest) = elim (cases_lt call.round first.call.round) [
  | inl later ↦ inl (first, inl refl, later)
  | inr not_so ↦ elim (later_there call rest) [
    | inl found ↦ inl (found.0, inr found.1, found.2)
    | inr none ↦ inr (λ a one. elim one [ inl is ↦ (let same = ap (λ (c : MadeCall). c.call.round) is in omega (arith, same, not_so)) | inr there ↦ none a there ])
  ]
]

-- ---- a run

module _ (words : WordLaws) (counts : RunsCountDraws) (draws : DrawnLaws) (fds : List Fd) (worker : Option ℕ) (made : List MadeCall) (zero : PassState) (run : HasRun fds worker made zero)
    (mount : IsMount (mount_of zero.view.opened)) (whole : IsRunOfPasses zero.view) where
  abbrev opened : Opened
  opened = zero.view.opened

  abbrev all : List Event
  all = zero.view.run

  pub made_there : (shift : Shift) (m : MadeCall) → IsOneOf run.shifts shift → IsOneOf shift.made m → IsOneOf made m
  made_there shift m there one =
      one_moved (flat_map (λ (s : Shift). s.made) run.shifts) made m (IsPermutation-sym made (flat_map (λ (s : Shift). s.made) run.shifts) run.listed)
      (one_in_joined (λ (s : Shift). s.made) run.shifts shift m there one)

  pub call_there : (m : MadeCall) → IsOneOf made m → IsOneOf (calls_made made) m.call
  call_there m one = one_mapped (λ (c : MadeCall). c.call) made m one

  pub past_there : (shift : Shift) → IsOneOf run.shifts shift → IsOneOf zero.view.ended (past_of shift.now.view)
  past_there shift there = subst (λ l. IsOneOf l (past_of shift.now.view)) run.pasts (one_mapped (λ (s : Shift). past_of s.now.view) run.shifts shift there)

  pub sees_all : (shift : Shift) → IsOneOf run.shifts shift → SeesAll shift.now.view.number shift.now.view.run all
  sees_all shift there = whole.joined (past_of shift.now.view) (past_there shift there)

  pub shift_is : (shift : Shift) → IsOneOf run.shifts shift → IsShift fds worker opened shift
  shift_is shift there = of_one (IsShift fds worker opened) run.shifts shift run.each there

  draws_of : (shift : Shift) → IsOneOf run.shifts shift → ShiftDraws draws opened mount shift all
  draws_of shift there =
      let is = shift_is shift there in
      shift_draws draws opened mount fds worker shift all is (sees_all shift there) whole.is_run

  -- a shift of a pass's number, or none
  number_there : (shifts : List Shift) (number : ℕ) → ((shift : Shift) × IsOneOf shifts shift × (shift.now.view.number ≡ number)) ⊎ ((shift : Shift) → IsOneOf shifts shift → shift.now.view.number ≢ number)
  number_there [] number = inr (λ shift there. absurd there)
  number_there (first ∷ rest) number = elim (cases_eq first.now.view.number number) [
    | inl is ↦ inl (first, inl refl, is)
    | inr ne ↦ elim (number_there rest number) [
      | inl found ↦ inl (found.0, inr found.1, found.2)
      | inr none ↦ inr (λ shift there. elim there [ inl same ↦ (λ is. ne (ap (λ (s : Shift). s.now.view.number) (sym same) ∙ is)) | inr later ↦ none shift later ])
    ]
  ]

  -- and where there is none no event of that pass comes
  pub nobody_there : (number : ℕ) → number ≢ zero.view.number → ((shift : Shift) → IsOneOf run.shifts shift → shift.now.view.number ≢ number) → own number all ≡ []
  nobody_there number ne none = whole.others number ne absent
    where
      absent : (past : Past) → IsOneOf zero.view.ended past → past.number ≢ number
      absent past there =
          let found = one_of_mapped (λ (s : Shift). past_of s.now.view) run.shifts past (subst (λ l. IsOneOf l past) (sym run.pasts) there) in
          λ is. none found.0 found.1 (ap (λ (p : Past). p.number) found.2 ∙ is)

  -- ---- TAIL

  shift_cleans : worker ≡ None → (shift : Shift) → IsOneOf run.shifts shift → CleansNothing shift.now.view.number all
  shift_cleans none shift there =
      let is = shift_is shift there in
      let sees = sees_all shift there in
      let made_chain = chain fds worker opened.sizes shift.made shift.start is.last (ap (λ (o : Opened). o.sizes) is.mount) is.made in
      let number = shift.now.view.number in
      let Plain : Event → Type 0 = λ event. event.by ≡ number → is_cleaning event.act ≡ false in
      let parts : all ≡ ((shift.start.view.run ++ made_chain.on.more) ++ is.on.more) ++ sees.rest =
      sees.goes_on ∙ ap (λ r. r ++ sees.rest) (is.on.run ∙ ap (λ r. r ++ is.on.more) made_chain.on.run) in
      subst (CleansNothing number) (sym parts)
      (All-append Plain ((shift.start.view.run ++ made_chain.on.more) ++ is.on.more) sees.rest
      (All-append Plain (shift.start.view.run ++ made_chain.on.more) is.on.more
      (All-append Plain shift.start.view.run made_chain.on.more
      (others_clean number shift.start.view.run (ap (λ n. own n shift.start.view.run) is.number ∙ is.unborn)) (subst (λ n. CleansNothing n made_chain.on.more) (sym is.number) (made_chain.on.calls none)))
      (subst (λ n. CleansNothing n is.on.more) (made_chain.number ∙ sym is.number) (is.on.calls none)))
      (others_clean number sees.rest sees.quiet))

  all_clean : worker ≡ None → CleansNothing zero.view.number all → (number : ℕ) → CleansNothing number all
  all_clean none own_clean number = elim (cases_eq number zero.view.number) [
    | inl is ↦ subst (λ n. CleansNothing n all) (sym is) own_clean
    | inr ne ↦ elim (number_there run.shifts number) [
      | inl found ↦ subst (λ n. CleansNothing n all) found.2 (shift_cleans none found.0 found.1)
      | inr absent ↦ others_clean number all (nobody_there number ne absent)
    ]
  ]

  -- ---- room

  -- what the calls have drawn the passes have
  pub room : UnmadeHaveDrawnNothing → AreDistinctNumbers (numbers zero.view.ended) → worker ≡ None → CleansNothing zero.view.number all → entries_of_calls opened.sizes.page (calls_that_drew made) ≤ opened.sizes.entries
  room unmade distinct none own_clean =
      let core = state_of opened all in
      let counted = counts (mount_of opened) all mount whole.is_run in
      let still = tail_still opened all whole.is_run (all_clean none own_clean) in
      let window = (words.sound (mount_of opened) all mount whole.is_run).window.room in
      let drawn_now : ℕ → ℕ = λ number. drawn draws opened mount number all in
      let shift_number : Shift → ℕ = λ s. s.now.view.number in
      let names : numbers zero.view.ended ≡ map shift_number run.shifts = ap numbers (sym run.pasts) ∙ mapped_twice run.shifts in
      let listed = listed_total (map shift_number run.shifts) (core.made + 1) drawn_now (subst AreDistinctNumbers names distinct)
      (λ n past. unmade (mount_of opened) n all mount whole.is_run (omega (arith, past))) in
      let by_shift = added_mapped drawn_now shift_number run.shifts in
      let ends = added_same (λ (s : Shift). drawn_now s.now.view.number) (λ (s : Shift). drawn_in opened.sizes s.made) run.shifts (λ s there. (draws_of s there).ends) in
      let joined_calls = added_joined (drew opened.sizes) (λ (s : Shift). s.made) run.shifts in
      let moved = added_moved (drew opened.sizes) made (flat_map (λ (s : Shift). s.made) run.shifts) run.listed in
      let entries = drew_total opened.sizes made in
      omega (arith, counted, still, window, listed, by_shift, ends, joined_calls, moved, entries)
    where
      mapped_twice : (shifts : List Shift) → numbers (map (λ (s : Shift). past_of s.now.view) shifts) ≡ map (λ (s : Shift). s.now.view.number) shifts
      mapped_twice [] = refl
      mapped_twice (first ∷ rest) = ap (λ l. first.now.view.number ∷ l) (mapped_twice rest)

  -- ---- HEAD

  pub head_counts : UnmadeHaveDrawnNothing → AreDistinctNumbers (numbers zero.view.ended) → drawn_of zero.view.opened.sizes (pass_of zero.view) ≡ 0
      → (state_of opened all).words HEAD ≡ opened.next + entries_of_calls opened.sizes.page (calls_that_drew made)
  head_counts unmade distinct idle =
      let core = state_of opened all in
      let counted = counts (mount_of opened) all mount whole.is_run in
      let drawn_now : ℕ → ℕ = λ number. drawn draws opened mount number all in
      let shift_number : Shift → ℕ = λ s. s.now.view.number in
      let names : numbers zero.view.ended ≡ map shift_number run.shifts = ap numbers (sym run.pasts) ∙ mapped_twice run.shifts in
      let least = listed_total (map shift_number run.shifts) (core.made + 1) drawn_now (subst AreDistinctNumbers names distinct)
      (λ n past. unmade (mount_of opened) n all mount whole.is_run (omega (arith, past))) in
      let most = total_listed (map shift_number run.shifts) (core.made + 1) drawn_now nothing in
      let by_shift = added_mapped drawn_now shift_number run.shifts in
      let ends = added_same (λ (s : Shift). drawn_now s.now.view.number) (λ (s : Shift). drawn_in opened.sizes s.made) run.shifts (λ s there. (draws_of s there).ends) in
      let joined_calls = added_joined (drew opened.sizes) (λ (s : Shift). s.made) run.shifts in
      let moved = added_moved (drew opened.sizes) made (flat_map (λ (s : Shift). s.made) run.shifts) run.listed in
      let entries = drew_total opened.sizes made in
      omega (arith, counted, least, most, by_shift, ends, joined_calls, moved, entries)
    where
      mapped_twice : (shifts : List Shift) → numbers (map (λ (s : Shift). past_of s.now.view) shifts) ≡ map (λ (s : Shift). s.now.view.number) shifts
      mapped_twice [] = refl
      mapped_twice (first ∷ rest) = ap (λ l. first.now.view.number ∷ l) (mapped_twice rest)

      nothing : (n : ℕ) → (IsOneOf (map (λ (s : Shift). s.now.view.number) run.shifts) n → ⊥) → drawn draws opened mount n all ≡ 0
      nothing n absent = elim (cases_eq n zero.view.number) [
        | inl is ↦ ap (λ k. drawn draws opened mount k all) is ∙ idle
        | inr ne ↦ drawn_absent draws opened mount n all all ([], sym (append-nil all)) whole.is_run (nobody_there n ne (λ s there is. absent (subst (IsOneOf (map (λ (s : Shift). s.now.view.number) run.shifts)) is (one_mapped (λ (s : Shift). s.now.view.number) run.shifts s there))))
      ]

  -- ---- a refused call

  module _ (causes : RefusalsHaveCauses) (idle : drawn_of zero.view.opened.sizes (pass_of zero.view) ≡ 0) (rise : RoundsRise (calls_made made)) (call : TracedCall) (refusal : Refusal) (shift : Shift) (there : IsOneOf run.shifts shift) (is : IsShift fds worker opened shift)
      (at : MadeAt fds worker shift.made (record { call = call; answer = Refused refusal }) shift.start is.last) where
    abbrev m : MadeCall
    m = record { call = call; answer = Refused refusal }

    abbrev now : PassState
    now = at.now

    abbrev sizes : Sizes
    sizes = opened.sizes

    first : Chain worker (drawn_in sizes at.before) shift.start at.old
    first = chain fds worker sizes at.before shift.start at.old (ap (λ (o : Opened). o.sizes) is.mount) at.first

    now_opened : now.view.opened ≡ opened
    now_opened = at.told.opened ∙ first.opened ∙ is.mount

    last : Chain worker (drawn_in sizes at.after) now is.last
    last = chain fds worker sizes at.after now is.last (ap (λ (o : Opened). o.sizes) now_opened) at.rest

    to_end : IsPrefix now.view.run shift.now.view.run
    to_end = begins_all now.view.run is.last.view.run shift.now.view.run (last.on.more, last.on.run) (is.on.more, is.on.run)

    begins : IsPrefix now.view.run all
    begins = begins_all now.view.run shift.now.view.run all to_end ((sees_all shift there).rest, (sees_all shift there).goes_on)

    now_run : IsRunOf opened now.view.run
    now_run = (run_parts opened.sizes (opening (mount_of opened)) now.view.run begins.0 (subst (IsRunOf opened) begins.1 whole.is_run)).0

    m_there : IsOneOf shift.made m
    m_there = subst (λ l. IsOneOf l m) (sym at.are) (one_right at.before (m ∷ at.after) m (inl refl))

    -- what a pass had drawn by then
    abbrev drawn_then : ℕ → ℕ
    drawn_then number = drawn draws opened mount number now.view.run

    abbrev before_it : List MadeCall → ℕ
    before_it calls = added (drew_before sizes call) calls

    -- the pass itself
    own_draws : drawn_then shift.now.view.number ≡ drawn_in sizes at.before + drew sizes m
    own_draws =
        let number : now.view.number ≡ shift.now.view.number = at.told.later.number ∙ first.number ∙ sym is.number in
        let here = drawn_here draws opened mount now now_opened in
        let as_now = ap drawn_then number in
        let start = drawn_here draws opened mount shift.start is.mount in
        let none = ap (λ n. drawn draws opened mount n shift.start.view.run) (sym is.number) ∙ (draws_of shift there).begins in
        let one = first.on.drawn in
        let other = at.told.on.drawn in
        let same = ap (λ (o : Opened). drew o.sizes m) now_opened in
        omega (arith, here, as_now, start, none, one, other, same)

    before_line : (other : MadeCall) → IsOneOf at.before other → drew_before sizes call other ≡ drew sizes other
    before_line other one =
        let below = lines_below at.before at.after m other (subst (λ l. AllPairs (λ x y. x < y) (map (λ (c : MadeCall). c.call.line) l)) at.are (AllPairs-from_increasing (map (λ (c : MadeCall). c.call.line) shift.made) is.in_lines)) one in
        let one_there = made_there shift other there (subst (λ l. IsOneOf l other) (sym at.are) (one_left at.before (m ∷ at.after) other one)) in
        is_before sizes call other
        (not_below call other.call (omega (arith, below)) (rise other.call call (call_there other one_there) (call_there m (made_there shift m there m_there)) below))

    own_bound : drawn_then shift.now.view.number ≤ before_it shift.made
    own_bound =
        let parts = ap before_it at.are ∙ added_append (drew_before sizes call) at.before (m ∷ at.after) in
        let same = added_same (drew_before sizes call) (drew sizes) at.before before_line in
        let itself = is_before sizes call m (not_below call call (omega arith) (λ later. omega (arith, later))) in
        let drawn_own = own_draws in
        omega (arith, parts, same, itself, drawn_own)

    -- one of the calls of another shift, which doesn't come later
    other_before : (other : Shift) (o : MadeCall) → IsOneOf run.shifts other → IsOneOf other.made o → (o.call.round < call.round) ⊎ ((call.round ≡ o.call.round) × (call.thread ≢ o.call.thread))
        → drew_before sizes call o ≡ drew sizes o
    other_before other o other_in one apart =
        is_before sizes call o (not_after call o.call (rise call o.call (call_there m (made_there shift m there m_there)) (call_there o (made_there other o other_in one))) apart)

    whole_bound : (other : Shift) → IsOneOf run.shifts other → ((o : MadeCall) → IsOneOf other.made o → (o.call.round < call.round) ⊎ ((call.round ≡ o.call.round) × (call.thread ≢ o.call.thread)))
        → drawn_then other.now.view.number ≤ before_it other.made
    whole_bound other other_in apart =
        let grown = drawn_less draws opened mount other.now.view.number now.view.run all begins whole.is_run in
        let ends = (draws_of other other_in).ends in
        let same = added_same (drew_before sizes call) (drew sizes) other.made (λ o one. other_before other o other_in one (apart o one)) in
        omega (arith, grown, ends, same)

    -- a shift that began later has drawn nothing
    begun_bound : (other : Shift) → IsOneOf run.shifts other → IsPrefix shift.now.view.run other.start.view.run → drawn_then other.now.view.number ≤ before_it other.made
    begun_bound other other_in behind =
        let lies = (draws_of other other_in).lies in
        let start_run = (run_parts opened.sizes (opening (mount_of opened)) other.start.view.run lies.0 (subst (IsRunOf opened) lies.1 whole.is_run)).0 in
        let grown = drawn_less draws opened mount other.now.view.number now.view.run other.start.view.run (begins_all now.view.run shift.now.view.run other.start.view.run to_end behind) start_run in
        let none = (draws_of other other_in).begins in
        omega (arith, grown, none)

    shift_bound : (other : Shift) → IsOneOf run.shifts other → drawn_then other.now.view.number ≤ before_it other.made
    shift_bound other other_in = elim (stand_to run.shifts shift other run.in_order there other_in) [
      | inl same ↦ subst (λ (s : Shift). drawn_then s.now.view.number ≤ before_it s.made) (sym same) own_bound
      | inr apart ↦ elim apart [
        | inl before ↦ whole_bound other other_in (λ o one. elim (before m o m_there one) [ inl earlier ↦ inl earlier.0 | inr beside ↦ inr beside ])
        | inr behind ↦ elim (later_there call other.made) [
          | inl found ↦ (elim (behind found.0 m found.1 m_there) [
            | inl later ↦ begun_bound other other_in later.2
            | inr beside ↦ (let same = beside.0 in let less = found.2 in absurd (omega (arith, same, less)))
          ])
          | inr none ↦ whole_bound other other_in
              (λ o one. elim (behind o m one m_there) [
                | inl later ↦ (let round = later.0 in let most = none o one in absurd (omega (arith, round, most)))
                | inr beside ↦ inr (sym beside.0, λ same. beside.1 (sym same))
              ])
        ]
      ]
    ]

    -- passes of no shift have drawn nothing
    absent_none : (number : ℕ) → (IsOneOf (map (λ (s : Shift). s.now.view.number) run.shifts) number → ⊥) → drawn_then number ≡ 0
    absent_none number absent = elim (cases_eq number zero.view.number) [
      | inl same ↦ (let grown = drawn_less draws opened mount zero.view.number now.view.run all begins whole.is_run in let at_zero = ap drawn_then same in omega (arith, grown, at_zero, idle))
      | inr ne ↦ drawn_absent draws opened mount number now.view.run all begins whole.is_run
          (nobody_there number ne (λ s s_there same. absent (subst (IsOneOf (map (λ (s : Shift). s.now.view.number) run.shifts)) same (one_mapped (λ (s : Shift). s.now.view.number) run.shifts s s_there))))
    ]

    head_bound : word_seen now HEAD ≤ opened.next + entries_of_calls sizes.page (not_later call (calls_that_drew made))
    head_bound =
        let numbers = map (λ (s : Shift). s.now.view.number) run.shifts in
        let there_is = ap (λ (o : Opened). (state_of o now.view.run).words HEAD) now_opened in
        let counted = counts (mount_of opened) now.view.run mount now_run in
        let listed = total_listed numbers ((state_of opened now.view.run).made + 1) drawn_then absent_none in
        let by_shift = added_mapped drawn_then (λ (s : Shift). s.now.view.number) run.shifts in
        let bounded = added_most (λ (s : Shift). drawn_then s.now.view.number) (λ (s : Shift). before_it s.made) run.shifts shift_bound in
        let joined_calls = added_joined (drew_before sizes call) (λ (s : Shift). s.made) run.shifts in
        let moved = added_moved (drew_before sizes call) made (flat_map (λ (s : Shift). s.made) run.shifts) run.listed in
        let entries = drew_all sizes call made in
        omega (arith, there_is, counted, listed, by_shift, bounded, joined_calls, moved, entries)

    pub refused_in_run : IsRefusedInRun fds worker made zero call refusal
    refused_in_run =
        let now_mount = subst (λ (o : Opened). IsMount (mount_of o)) (sym now_opened) mount in
        let sees = sees_on words now zero begins.0 now_mount (sym now_opened) begins.1 (subst (λ (o : Opened). IsRunOf o (now.view.run ++ begins.0)) (sym now_opened) (subst (IsRunOf opened) begins.1 whole.is_run)) in
        let order_is = (words.sound (mount_of opened) all mount whole.is_run).history.order in
        let order = sees.order in
        record {
          now = now;
          opened = now_opened;
          cause = causes fds worker call.call at.old now refusal now_mount at.told;
          seen = seen_by_zero fds worker shift zero is (past_there shift there) at.after now at.rest;
          order = omega (arith, order, order_is);
          head = head_bound;
          tail = λ none own_clean.
              let up = tail_least words now now_mount (subst (λ (o : Opened). IsRunOf o now.view.run) (sym now_opened) now_run) in
              let next = ap (λ (o : Opened). o.next) now_opened in
              let still = tail_still opened all whole.is_run (all_clean none own_clean) in
              let most = sees.tail in
              omega (arith, up, next, still, most);
          behind = begins;
        }

  pub refusals_in_runs : RefusalsHaveCauses → drawn_of zero.view.opened.sizes (pass_of zero.view) ≡ 0 → RoundsRise (calls_made made) → (call : TracedCall) (refusal : Refusal) → IsOneOf made (record { call = call; answer = Refused refusal }) → IsRefusedInRun fds worker made zero call refusal
  refusals_in_runs causes idle rise call refusal one =
      let found = one_of_joined (λ (s : Shift). s.made) run.shifts (record { call = call; answer = Refused refusal }) (one_moved made (flat_map (λ (s : Shift). s.made) run.shifts) _ run.listed one) in
      let is = shift_is found.0 found.1 in
      refused_in_run causes idle rise call refusal found.0 found.1 is (made_at_one fds worker found.0.made _ found.0.start is.last is.made found.2)
