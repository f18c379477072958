-- Refusals of a schedule: what had been drawn by then.
use Rattle.std.proofs.Common.{◌≡◌, ◌≢◌, ℕ, suc, ◌+◌, ◌<◌, ◌≤◌, ◌==◌, nat_lt, ◌&&◌, ◌||◌, Bool, true, false, List, [], ◌∷◌, ◌++◌, length, map, inl, inr, refl, sym, ap, ap₂, subst, ◌∙◌, arith}
use Rattle.std.specs.Prelude.{All, None, Ok, Option, Some, Result, slice_index_or}
use Rattle.std.specs.List.{AllPairs, flat_map}
use Rattle.std.proofs.lemmas.List.{map-append}
use Rattle.std.proofs.lemmas.Bool.{cases_eq, ne_eqb, le-ltb, true≢false}
use Rattle.nv_plain.specs.declared.call.Reply.{Reply}
use Rattle.nv_core.specs.state.Passes.{IsOneOf, Pass}
use Rattle.nv_core.specs.state.Values.{Value}
use Rattle.nv_core.specs.state.Words.{HEAD, Sizes, Word}
use Rattle.nv_core.specs.steps.Events.{Event}
use Rattle.nv_core.specs.steps.Opening.{IsMount, opening}
use Rattle.nv_core.specs.invariant.Draws.{RunsCountDraws, drawn_of}
use Rattle.nv_core.specs.steps.Frames.{EventsLeaveOthers, OwnEventsTell}
use Rattle.nv_core.specs.invariant.OneHistory.{IsPrefix, calls_by}
use Rattle.nv_core.proofs.invariant.HistoryLaws.{begins_all}
use Rattle.nv_core.proofs.steps.RunLaws.{run_parts}
use Rattle.nv_table.specs.invariant.Drawn.{drawn_by}
use Rattle.nv_table.specs.passes.Seats.{past_of}
use Rattle.nv_table.specs.state.Opened.{IsRunOf, Opened, mount_of, state_of}
use Rattle.nv_table.specs.state.States.{PassState}
use Rattle.nv_table.specs.state.Views.{Past, SeesAll, pass_of, past_pass}
use Rattle.nv_table.proofs.passes.BetweenLaws.{puts_opened}
use Rattle.nv_mount.specs.Mounts.{MountState}
use Rattle.nv_mount.specs.OneHistories.{HasOneHistory}
use Rattle.nv_mount.specs.WholeRuns.{IsWholeRun, history_then}
use Rattle.nv_mirror.specs.PassSteps.{either_of}
use Rattle.nv_mirror.specs.declared.answers.Done.{Done}
use Rattle.nv_mirror.specs.declared.answers.Refusal.{Refusal}
use Rattle.nv_trace.specs.declared.token.Token.{Token}
use Rattle.nv_trace.specs.declared.trace_call.TracedCall.{TracedCall}
use Rattle.nv_runner.specs.Entries.{entries_of_calls}
use Rattle.nv_runner.specs.declared.answer.Answer.{Answer}
use Rattle.nv_runner.specs.declared.answer.Answer.TheVariants.{Refused}
use Rattle.nv_runner.specs.Faithful.{is_later, not_later}
use Rattle.nv_runner.specs.Lists.{MadeCall, calls_made, placed}
use Rattle.nv_runner.specs.Refusals as refusals
use Rattle.nv_runner.specs.Refusals.{word_seen}
use Rattle.nv_runner.specs.Rounds.{AreInLineOrder}
use Rattle.nv_runner.specs.RunRefusals.{calls_that_drew}
use Rattle.nv_runner.proofs.draws.DrawnSums.{added_most, drew, drew_all, drew_before, is_before, total_listed}
use Rattle.nv_runner.proofs.histories.HistoryMembers.{contained, of_one, one_either, one_left, one_mapped, one_right}
use Rattle.nv_runner.proofs.histories.HistorySums.{added, added_append, added_joined, added_mapped, added_moved, added_same}
use Rattle.nv_runner.proofs.RefusalWords.{WordLaws, sees_on}
use Rattle.nv_runner.proofs.ShiftRuns.{Chain, DrawnLaws, MadeAt, chain, drawn, drawn_absent, drawn_here, drawn_in, drawn_less, drawn_none, drawn_same, made_at_one}
use Rattle.nv_schedule.specs.Callers.{ThreadHasCome, ThreadState}
use Rattle.nv_schedule.specs.Growing.{number_of}
use Rattle.nv_schedule.specs.Listed.{all_listed, has_drawn_at_hand, listed, listed_by, listed_of, listed_present, open_answer, placed_answer, placed_at_hand, reply_at_hand, told_present}
use Rattle.nv_schedule.specs.RefusedCalls.{IsRefusedThere, RefusalsHaveCauses}
use Rattle.nv_schedule.specs.Scheduled.{HasFollowed, IsTakenAsItStood}
use Rattle.nv_schedule.specs.Shares.{Share}
use Rattle.nv_schedule.specs.Turns.{CallerState, HasCome}
use Rattle.nv_schedule.specs.declared.caller.Work.{Work}
use Rattle.nv_schedule.specs.declared.caller.Work.TheVariants.{Calls, Batches}
use Rattle.nv_schedule.specs.declared.hand.Hand.{Hand}
use Rattle.nv_schedule.specs.declared.schedule_error.ScheduleError.{ScheduleError}
use Rattle.nv_schedule.proofs.AnswerLaws.{CallLaws, HaveBeenMade, all_answered}
use Rattle.nv_schedule.proofs.BegunLaws.{any_caller, called_of}
use Rattle.nv_schedule.proofs.CallerShares.{each_share, listed_shares, past_listed, share_at, shares_from, told_rises, told_there}
use Rattle.nv_schedule.proofs.EndLaws.{HasPast, past_at, stood_number}
use Rattle.nv_schedule.proofs.GrownLaws.{HasGrown, answered_grown, at_call_grown, caller_grown, grown_on, puts_begin, puts_left}
use Rattle.nv_schedule.proofs.PresentDrawn.{cleaner_none, thread_few}
use Rattle.nv_schedule.proofs.ZeroDrawn.{zero_same}
use Rattle.nv_schedule.proofs.ThreadLists.{front_rises, pairs_of}
use Rattle.nv_schedule.proofs.ToldLaws.{history_mine}
use Rattle.nv_schedule.proofs.UnbarredLaws.{listed_of_some}

-- ---- a refused call was answered

never_told : (placed_is : Option Done) (reply : ℕ → Reply) (has_drawn : Bool) (drawn_is : Option ℕ) (refusal : Refusal) → either_of (placed_answer placed_is reply) (open_answer has_drawn drawn_is) ≡ Some (Refused refusal) → ⊥
never_told (Some done) reply has_drawn drawn_is refusal is = cc
never_told None reply true (Some number) refusal is = cc
never_told None reply true None refusal is = cc
never_told None reply false drawn_is refusal is = cc

never_present : (hand : Option Hand) (drawn_is : Option ℕ) (refusal : Refusal) → told_present hand drawn_is ≡ Some (Refused refusal) → ⊥
never_present None drawn_is refusal is = cc
never_present (Some hand) drawn_is refusal is = never_told (placed_at_hand hand) (reply_at_hand hand) (has_drawn_at_hand hand) drawn_is refusal is

never_listed : (left : List TracedCall) (answer : Option Answer) (call : TracedCall) (refusal : Refusal) → (answer ≡ Some (Refused refusal) → ⊥) → IsOneOf (listed_present left answer) (record { call = call; answer = Refused refusal }) → ⊥
never_listed [] answer call refusal never one = one
never_listed (first ∷ later) None call refusal never one = one
never_listed (first ∷ later) (Some answer) call refusal never (inl is) = never (ap Some (sym (ap (λ (m : MadeCall). m.answer) is)))
never_listed (first ∷ later) (Some answer) call refusal never (inr none) = none

refused_made : (thread : ThreadState) (drawn_is : Option ℕ) (call : TracedCall) (refusal : Refusal) → IsOneOf (listed_of thread drawn_is) (record { call = call; answer = Refused refusal })
    → IsOneOf thread.made (record { call = call; answer = Refused refusal })
refused_made thread drawn_is call refusal one =
    elim (one_either thread.made (listed_present thread.left (told_present thread.hand drawn_is)) (record { call = call; answer = Refused refusal }) one) [
      | inl there ↦ there
      | inr present ↦ absurd (never_listed thread.left (told_present thread.hand drawn_is) call refusal (never_present thread.hand drawn_is refusal) present)
    ]

-- ---- calls that don't come later, in one round

one_of_both : (one other : Bool) → one ≡ false → other ≡ false → (one || other) ≡ false
one_of_both one other first last = ap₂ (λ a b. a || b) first last

and_false : (one other : Bool) → (one ≡ true → other ≡ false) → (one && other) ≡ false
and_false true other none = none refl
and_false false other none = refl

not_later_by : (call other : TracedCall) → other.round ≡ call.round → ((other.thread == call.thread) ≡ true → other.line ≤ call.line) → is_later call other ≡ false
not_later_by call other round line =
    one_of_both ((other.thread == call.thread) && nat_lt call.line other.line) (nat_lt call.round other.round)
    (and_false (other.thread == call.thread) (nat_lt call.line other.line) (λ same. le-ltb call.line other.line (line same)))
    (le-ltb call.round other.round (omega (arith, round)))

-- of another thread
apart_is_no_later : (call other : TracedCall) → other.round ≡ call.round → other.thread ≢ call.thread → is_later call other ≡ false
apart_is_no_later call other round ne = not_later_by call other round (λ same. absurd (true≢false (sym same ∙ ne_eqb other.thread call.thread ne)))

-- of an earlier line, or the call itself
earlier_is_no_later : (call other : TracedCall) → other.round ≡ call.round → other.line ≤ call.line → is_later call other ≡ false
earlier_is_no_later call other round line = not_later_by call other round (λ _. line)

-- those before a call of its thread stand in earlier lines
first_below : (first : TracedCall) (rest : List TracedCall) (call : TracedCall) → AllPairs (λ a b. a.line < b.line) (first ∷ rest) → IsOneOf rest call → first.line < call.line
first_below first rest call pairs one =
    let there = contained rest call one in
    subst (λ (c : TracedCall). first.line < c.line) there.2 (pairs 0 (suc there.0) call (omega arith) (let within = there.1 in omega (arith, within)))

lines_below : (before after : List MadeCall) (m other : MadeCall) → AllPairs (λ a b. a.line < b.line) (calls_made (before ++ m ∷ after)) → IsOneOf before other → other.call.line < m.call.line
lines_below [] after m other pairs one = absurd one
lines_below (first ∷ before) after m other pairs (inl is) =
    let up = first_below first.call (calls_made (before ++ m ∷ after)) m.call pairs (one_mapped (λ (c : MadeCall). c.call) (before ++ m ∷ after) m (one_right before (m ∷ after) m (inl refl))) in
    let same = ap (λ (c : MadeCall). c.call.line) is in
    omega (arith, up, same)
lines_below (first ∷ before) after m other pairs (inr one) = lines_below before after m other (λ i j d less within. pairs (suc i) (suc j) d (omega (arith, less)) (omega (arith, within))) one

-- ---- a pass that was taken in as it stood

past_same : (opened : Opened) (pass : PassState) (past : Past) → pass.view.opened ≡ opened → (stood : IsTakenAsItStood pass past) → past_pass opened past ≡ pass_of stood.last
past_same opened pass past same stood =
    ap (past_pass opened) stood.is ∙ ap (λ (o : Opened). past_pass o (past_of stood.last)) (sym same ∙ sym (puts_opened stood.cells pass.view stood.last stood.back))

-- what is so of all but what it still owns
pub stood_same : {X : Type 0} (read_of : Pass → X) (stays : (pass : Pass) (left : List Word) → read_of (record pass { left = left }) ≡ read_of pass) (opened : Opened) (pass : PassState) (past : Past) → pass.view.opened ≡ opened
    → (stood : IsTakenAsItStood pass past) → read_of (past_pass opened past) ≡ read_of (pass_of pass.view)
stood_same read_of stays opened pass past same stood = ap read_of (past_same opened pass past same stood) ∙ puts_left read_of stays stood.cells pass.view stood.last stood.back

-- the run that it had seen is a first part of the run
stood_begins : (pass : PassState) (past : Past) (run : List Event) → IsTakenAsItStood pass past → SeesAll past.number past.run run → IsPrefix pass.view.run run
stood_begins pass past run stood sees =
    begins_all pass.view.run past.run run (subst (λ (p : Past). IsPrefix pass.view.run p.run) (sym stood.is) (puts_begin stood.cells pass.view stood.last stood.back)) (sees.rest, sees.goes_on)

-- ---- a schedule

module _ (words : WordLaws) (call_laws : CallLaws) (causes : refusals.RefusalsHaveCauses) (mount : MountState) (tokens : List Token) (calls : List TracedCall) (batch : ℕ) (done : Result (Unit {0}) ScheduleError)
    (then_ : List CallerState) (zero_then : PassState) (parts stores : List Value) (placed_count tail : ℕ) (followed : HasFollowed mount tokens calls batch done then_ zero_then)
    (whole : IsWholeRun zero_then.view parts stores placed_count tail) (is_mount : IsMount (mount_of zero_then.view.opened)) (same : mount.board.opened ≡ zero_then.view.opened) where
  abbrev opened : Opened
  opened = zero_then.view.opened

  abbrev sizes : Sizes
  sizes = zero_then.view.opened.sizes

  -- ---- a caller

  module _ (i : ℕ) (d : CallerState) (less : i < length followed.first) where
    there : i < length then_
    there = let n = followed.count in omega (arith, less, n)

    past : HasPast then_ zero_then.view.ended i d
    past = past_at then_ zero_then.view.ended i d followed.taken there

    from_opened : (slice_index_or followed.first i d).pass.view.opened ≡ opened
    from_opened = (followed.fresh i d less).board.same_mount ∙ same

    number : number_of (slice_index_or then_ i d) ≡ number_of (slice_index_or followed.first i d)
    number = (followed.come i d less).number

    sees : SeesAll past.past.number past.past.run zero_then.view.run
    sees = whole.joined past.past past.one

    grown : HasGrown (slice_index_or followed.first i d).pass (slice_index_or then_ i d).pass
    grown =
        caller_grown call_laws mount.fds (slice_index_or then_ i d).work (slice_index_or followed.first i d).pass (slice_index_or then_ i d).pass
        (subst (λ (o : Opened). IsMount (mount_of o)) (sym from_opened) is_mount) (followed.fresh i d less).idle (followed.come i d less).come

    to_opened : (slice_index_or then_ i d).pass.view.opened ≡ opened
    to_opened = grown.opened ∙ from_opened

    begins : IsPrefix (slice_index_or then_ i d).pass.view.run zero_then.view.run
    begins = stood_begins (slice_index_or then_ i d).pass past.past zero_then.view.run past.stood sees

  -- ---- what its pass has drawn

  module _ (tell : OwnEventsTell) (draws : DrawnLaws) (history : HasOneHistory zero_then.view placed_count) (order : AreInLineOrder calls) (i : ℕ) (d : CallerState) (less : i < length followed.first) where
    drawn_end : drawn draws opened is_mount (number_of (slice_index_or then_ i d)) zero_then.view.run ≡ drawn_of sizes (pass_of (slice_index_or then_ i d).pass.view)
    drawn_end =
        let its_past = past i d less in
        subst (λ n. drawn draws opened is_mount n zero_then.view.run ≡ drawn_of sizes (pass_of (slice_index_or then_ i d).pass.view)) (stood_number (slice_index_or then_ i d).pass its_past.past its_past.stood)
        (drawn_same draws opened is_mount its_past.past.number its_past.past.run zero_then.view.run (sees i d less) whole.is_run
        ∙ stood_same (drawn_of sizes) (λ pass left. refl) opened (slice_index_or then_ i d).pass its_past.past (to_opened i d less) its_past.stood)

    mine : (pass_of (slice_index_or then_ i d).pass.view).mine ≡ placed mount.fds (number_of (slice_index_or followed.first i d)) (listed (slice_index_or then_ i d))
    mine =
        let its_past = past i d less in
        sym (history_mine zero_then.view placed_count history (slice_index_or then_ i d).pass its_past.past (to_opened i d less) its_past.stood its_past.one)
        ∙ ap (λ n. calls_by n (history_then zero_then.view)) (number i d less)
        ∙ (share_at mount calls batch then_ zero_then placed_count (called_of mount tokens calls batch done then_ zero_then followed) history order i d less).placed_are

    -- none where it began
    none_first : drawn draws opened is_mount (number_of (slice_index_or followed.first i d)) (slice_index_or followed.first i d).pass.view.run ≡ 0
    none_first =
        let start = (slice_index_or followed.first i d).pass in
        let start_begins = begins_all start.view.run (slice_index_or then_ i d).pass.view.run zero_then.view.run ((grown i d less).more, (grown i d less).run) (begins i d less) in
        drawn_none draws opened is_mount start.view.number start.view.run zero_then.view.run start_begins whole.is_run (followed.fresh i d less).unborn

    work_few : (work : Work) → HasCome mount.fds work (slice_index_or followed.first i d).pass (slice_index_or then_ i d).pass
        → (pass_of (slice_index_or then_ i d).pass.view).mine ≡ placed mount.fds (number_of (slice_index_or followed.first i d)) (listed_by work (drawn_by (slice_index_or then_ i d).pass.view))
        → drawn_of (slice_index_or followed.first i d).pass.view.opened.sizes (pass_of (slice_index_or then_ i d).pass.view)
        ≤ added (drew (slice_index_or followed.first i d).pass.view.opened.sizes) (listed_by work (drawn_by (slice_index_or then_ i d).pass.view))
    work_few (Calls thread) come its_mine =
        let start = (slice_index_or followed.first i d).pass in
        let none = drawn_here draws opened is_mount start (from_opened i d less) ∙ none_first in
        thread_few words tell call_laws mount.fds thread start (slice_index_or then_ i d).pass (subst (λ (o : Opened). IsMount (mount_of o)) (sym (from_opened i d less)) is_mount) (followed.fresh i d less).idle none come
    work_few (Batches cleaner) come its_mine =
        let start = (slice_index_or followed.first i d).pass in
        let none = drawn_here draws opened is_mount start (from_opened i d less) ∙ none_first in
        let nothing = cleaner_none cleaner start (slice_index_or then_ i d).pass (followed.fresh i d less).idle none its_mine come in
        omega (arith, nothing)

    drawn_most : drawn draws opened is_mount (number_of (slice_index_or then_ i d)) zero_then.view.run ≤ added (drew sizes) (listed (slice_index_or then_ i d))
    drawn_most =
        let few = subst (λ (o : Opened). drawn_of o.sizes (pass_of (slice_index_or then_ i d).pass.view) ≤ added (drew o.sizes) (listed (slice_index_or then_ i d))) (from_opened i d less)
        (work_few (slice_index_or then_ i d).work (followed.come i d less).come mine) in
        let same_end = drawn_end in
        omega (arith, few, same_end)

  -- ---- a refused call

  module _ (call : TracedCall) (refusal : Refusal) (i : ℕ) (d : CallerState) (less : i < length followed.first) (thread : ThreadState)
      (is_thread : (slice_index_or then_ i d).work ≡ Calls thread) (one : IsOneOf thread.made (record { call = call; answer = Refused refusal })) where
    abbrev m : MadeCall
    m = record { call = call; answer = Refused refusal }

    abbrev start : PassState
    start = (slice_index_or followed.first i d).pass

    abbrev end : PassState
    end = (slice_index_or then_ i d).pass

    start_mount : IsMount (mount_of start.view.opened)
    start_mount = subst (λ (o : Opened). IsMount (mount_of o)) (sym (from_opened i d less)) is_mount

    come : ThreadHasCome mount.fds thread start end
    come = subst (λ (w : Work). HasCome mount.fds w start end) is_thread (followed.come i d less).come

    made : HaveBeenMade mount.fds thread.made start come.last
    made = all_answered call_laws mount.fds thread.made start come.last start_mount (followed.fresh i d less).idle come.made

    at : MadeAt mount.fds None thread.made m start come.last
    at = made_at_one mount.fds None thread.made m start come.last made.each one

    first : Chain None (drawn_in sizes at.before) start at.old
    first = chain mount.fds None sizes at.before start at.old (ap (λ (o : Opened). o.sizes) (from_opened i d less)) at.first

    now_opened : at.now.view.opened ≡ opened
    now_opened = at.told.opened ∙ first.opened ∙ from_opened i d less

    last_opened : come.last.view.opened ≡ opened
    last_opened = made.opened ∙ from_opened i d less

    to_end : HasGrown at.now end
    to_end =
        grown_on at.now come.last end (answered_grown mount.fds at.after at.now come.last at.rest)
        (at_call_grown call_laws mount.fds thread.left thread.hand come.last end (subst (λ (o : Opened). IsMount (mount_of o)) (sym last_opened) is_mount) come.at)

    now_begins : IsPrefix at.now.view.run zero_then.view.run
    now_begins = begins_all at.now.view.run end.view.run zero_then.view.run (to_end.more, to_end.run) (begins i d less)

    now_run : IsRunOf opened at.now.view.run
    now_run = (run_parts opened.sizes (opening (mount_of opened)) at.now.view.run now_begins.0 (subst (IsRunOf opened) now_begins.1 whole.is_run)).0

    module _ (tell : OwnEventsTell) (counts : RunsCountDraws) (draws : DrawnLaws) (history : HasOneHistory zero_then.view placed_count) (order : AreInLineOrder calls)
        (idle : drawn draws opened is_mount zero_then.view.number zero_then.view.run ≡ 0) (round : ℕ) (rounds : All (λ (c : TracedCall). c.round ≡ round) calls) where
      -- ---- what had been drawn by then

      abbrev drawn_then : ℕ → ℕ
      drawn_then number = drawn draws opened is_mount number at.now.view.run

      abbrev before_it : List MadeCall → ℕ
      before_it ms = added (drew_before sizes call) ms

      -- by the pass itself
      own_draws : drawn_then (number_of (slice_index_or followed.first i d)) ≡ drawn_in sizes at.before
      own_draws =
          let number : at.now.view.number ≡ start.view.number = at.told.later.number ∙ first.number in
          let here = drawn_here draws opened is_mount at.now now_opened in
          let as_now = ap drawn_then number in
          let at_start = drawn_here draws opened is_mount start (from_opened i d less) in
          let none = none_first tell draws history order i d less in
          let before = first.on.drawn in
          let itself = at.told.on.drawn in
          omega (arith, here, as_now, at_start, none, before, itself)

      abbrev more : List MadeCall
      more = listed_present thread.left (told_present thread.hand (drawn_by (slice_index_or then_ i d).pass.view))

      all_are : listed (slice_index_or then_ i d) ≡ thread.made ++ more
      all_are = ap (λ (w : Work). listed_by w (drawn_by (slice_index_or then_ i d).pass.view)) is_thread

      there_too : (other : MadeCall) → IsOneOf thread.made other → IsOneOf (listed (slice_index_or then_ i d)) other
      there_too other there_one = subst (λ l. IsOneOf l other) (sym all_are) (one_left thread.made more other there_one)

      round_of : (j : ℕ) → j < length followed.first → (other : MadeCall) → IsOneOf (listed (slice_index_or then_ j d)) other → other.call.round ≡ round
      round_of j within other is_there =
          of_one (λ (c : TracedCall). c.round ≡ round) calls other.call rounds (told_there mount calls batch then_ zero_then placed_count (called_of mount tokens calls batch done then_ zero_then followed) history order j d within other is_there).0

      thread_of : (j : ℕ) → j < length followed.first → (other : MadeCall) → IsOneOf (listed (slice_index_or then_ j d)) other → other.call.thread ≡ j
      thread_of j within other is_there = (told_there mount calls batch then_ zero_then placed_count (called_of mount tokens calls batch done then_ zero_then followed) history order j d within other is_there).1

      pairs : AllPairs (λ a b. a.line < b.line) (calls_made (at.before ++ m ∷ at.after))
      pairs =
          let rises = told_rises mount calls batch then_ zero_then placed_count (called_of mount tokens calls batch done then_ zero_then followed) history order i d less in
          let both : AreInLineOrder (calls_made thread.made ++ calls_made more) =
          subst AreInLineOrder (ap calls_made all_are ∙ map-append (λ (c : MadeCall). c.call) thread.made more) rises in
          subst (λ l. AllPairs (λ a b. a.line < b.line) (calls_made l)) at.are (pairs_of (calls_made thread.made) (front_rises (calls_made thread.made) (calls_made more) both))

      before_there : (other : MadeCall) → IsOneOf at.before other → IsOneOf thread.made other
      before_there other is_there = subst (λ l. IsOneOf l other) (sym at.are) (one_left at.before (m ∷ at.after) other is_there)

      before_line : (other : MadeCall) → IsOneOf at.before other → drew_before sizes call other ≡ drew sizes other
      before_line other is_there =
          let below = lines_below at.before at.after m other pairs is_there in
          is_before sizes call other
          (earlier_is_no_later call other.call (round_of i less other (there_too other (before_there other is_there)) ∙ sym (round_of i less m (there_too m one))) (omega (arith, below)))

      own_bound : drawn_then (number_of (slice_index_or followed.first i d)) ≤ before_it (listed (slice_index_or then_ i d))
      own_bound =
          let whole_is = ap before_it all_are ∙ added_append (drew_before sizes call) thread.made more in
          let parts = ap before_it at.are ∙ added_append (drew_before sizes call) at.before (m ∷ at.after) in
          let same_there = added_same (drew_before sizes call) (drew sizes) at.before before_line in
          let drew_own = own_draws in
          omega (arith, whole_is, parts, same_there, drew_own)

      -- by another one
      other_bound : (j : ℕ) → j < length followed.first → j ≢ i → drawn_then (number_of (slice_index_or followed.first j d)) ≤ before_it (listed (slice_index_or then_ j d))
      other_bound j within ne =
          let grew = drawn_less draws opened is_mount (number_of (slice_index_or followed.first j d)) at.now.view.run zero_then.view.run now_begins whole.is_run in
          let most = drawn_most tell draws history order j d within in
          let same_number = ap (λ n. drawn draws opened is_mount n zero_then.view.run) (number j d within) in
          let same_there = added_same (drew_before sizes call) (drew sizes) (listed (slice_index_or then_ j d)) (λ other is_there. is_before sizes call other
          (apart_is_no_later call other.call (round_of j within other is_there ∙ sym (round_of i less m (there_too m one)))
          (λ is. ne (sym (thread_of j within other is_there) ∙ is ∙ thread_of i less m (there_too m one))))) in
          omega (arith, grew, most, same_number, same_there)

      caller_bound : (j : ℕ) → j < length followed.first → drawn_then (number_of (slice_index_or followed.first j d)) ≤ before_it (listed (slice_index_or then_ j d))
      caller_bound j within = elim (cases_eq j i) [
        | inl is ↦ subst (λ n. drawn_then (number_of (slice_index_or followed.first n d)) ≤ before_it (listed (slice_index_or then_ n d))) (sym is) own_bound
        | inr ne ↦ other_bound j within ne
      ]

      -- passes of no share have drawn nothing
      absent_none : (number : ℕ) → (IsOneOf (map (λ (s : Share). s.number) (shares_from 0 followed.first then_)) number → ⊥) → drawn_then number ≡ 0
      absent_none number absent = elim (cases_eq number zero_then.view.number) [
        | inl is ↦ (let grew = drawn_less draws opened is_mount zero_then.view.number at.now.view.run zero_then.view.run now_begins whole.is_run in let at_zero = ap drawn_then is in let none = idle in omega (arith, grew, at_zero, none))
        | inr ne ↦ drawn_absent draws opened is_mount number at.now.view.run zero_then.view.run now_begins whole.is_run
            (whole.others number ne (λ one there_one is. absent (subst (IsOneOf (map (λ (s : Share). s.number) (shares_from 0 followed.first then_))) is
            (past_listed mount calls batch then_ zero_then placed_count (called_of mount tokens calls batch done then_ zero_then followed) history order one there_one))))
      ]

      head_bound : word_seen at.now HEAD ≤ opened.next + entries_of_calls sizes.page (not_later call (calls_that_drew (all_listed then_)))
      head_bound =
          let mine = shares_from 0 followed.first then_ in
          let there_is = ap (λ (o : Opened). (state_of o at.now.view.run).words HEAD) now_opened in
          let counted = counts (mount_of opened) at.now.view.run is_mount now_run in
          let total_is = total_listed (map (λ (s : Share). s.number) mine) ((state_of opened at.now.view.run).made + 1) drawn_then absent_none in
          let by_share = added_mapped drawn_then (λ (s : Share). s.number) mine in
          let bounds = each_share d (λ (s : Share). drawn_then s.number ≤ before_it s.made) 0 followed.first then_ caller_bound in
          let bounded = added_most (λ (s : Share). drawn_then s.number) (λ (s : Share). before_it s.made) mine (λ s s_there. of_one (λ (s : Share). drawn_then s.number ≤ before_it s.made) mine s bounds s_there) in
          let joined_calls = added_joined (drew_before sizes call) (λ (s : Share). s.made) mine in
          let moved = added_moved (drew_before sizes call) (all_listed then_) (flat_map (λ (s : Share). s.made) mine) (listed_shares 0 followed.first then_ followed.count) in
          let entries = drew_all sizes call (all_listed then_) in
          omega (arith, there_is, counted, total_is, by_share, bounded, joined_calls, moved, entries)

      pub refused_there : IsRefusedThere mount.fds (all_listed then_) zero_then call refusal
      refused_there =
          let now_mount = subst (λ (o : Opened). IsMount (mount_of o)) (sym now_opened) is_mount in
          let sees_more = sees_on words at.now zero_then now_begins.0 now_mount (sym now_opened) now_begins.1
          (subst (λ (o : Opened). IsRunOf o (at.now.view.run ++ now_begins.0)) (sym now_opened) (subst (IsRunOf opened) now_begins.1 whole.is_run)) in
          let order_is = (words.sound (mount_of opened) zero_then.view.run is_mount whole.is_run).history.order in
          let low = sees_more.order in
          let its_past = past i d less in
          record {
            now = at.now;
            opened = now_opened;
            cause = causes mount.fds None call.call at.old at.now refusal now_mount at.told;
            seen = λ saw. inr (
              its_past.past,
              its_past.one,
              stood_same (λ (p : Pass). p.stopped) (λ pass left. refl) opened end its_past.past (to_opened i d less) its_past.stood ∙ to_end.stays saw,
            );
            order = omega (arith, low, order_is);
            head = head_bound;
            tail = sees_more.tail;
          }

  -- ---- any refused call

  module _ (tell : OwnEventsTell) (counts : RunsCountDraws) (draws : DrawnLaws) (history : HasOneHistory zero_then.view placed_count) (order : AreInLineOrder calls)
      (idle : drawn draws opened is_mount zero_then.view.number zero_then.view.run ≡ 0) (round : ℕ) (rounds : All (λ (c : TracedCall). c.round ≡ round) calls) where
    work_refused : (call : TracedCall) (refusal : Refusal) (i : ℕ) (d : CallerState) (less : i < length followed.first) (work : Work)
        → (slice_index_or then_ i d).work ≡ work → IsOneOf (listed_by work (drawn_by (slice_index_or then_ i d).pass.view)) (record { call = call; answer = Refused refusal })
        → IsRefusedThere mount.fds (all_listed then_) zero_then call refusal
    work_refused call refusal i d less (Calls thread) is one =
        refused_there call refusal i d less thread is (refused_made thread (drawn_by (slice_index_or then_ i d).pass.view) call refusal one) tell counts draws history order idle round rounds
    work_refused call refusal i d less (Batches cleaner) is one = absurd one

    pub all_refused : (call : TracedCall) (refusal : Refusal) → IsOneOf (all_listed then_) (record { call = call; answer = Refused refusal })
        → IsRefusedThere mount.fds (all_listed then_) zero_then call refusal
    all_refused call refusal one =
        let whose = listed_of_some then_ (record { call = call; answer = Refused refusal }) one in
        let d = any_caller zero_then in
        let less : whose.place < length followed.first = (let n = followed.count in let within = whose.there in omega (arith, within, n)) in
        work_refused call refusal whose.place d less (slice_index_or then_ whose.place d).work refl (whose.one d)

-- the laws that these rest on
pub record RefusalLaws : Type 0 where
  pub words : WordLaws
  pub calls : CallLaws
  pub causes : refusals.RefusalsHaveCauses
  pub tell : OwnEventsTell
  pub leave : EventsLeaveOthers
  pub counts : RunsCountDraws
  pub draws : DrawnLaws

pub refusals_have_causes : RefusalLaws → RefusalsHaveCauses
refusals_have_causes laws mount tokens calls batch then_ zero told part_values store_values parts stores faults placed tail is_mount same followed are closed order one_round call refusal one =
    let opened : mount.board.opened ≡ zero.view.opened = sym same in
    let mount_is = subst (λ (o : Opened). IsMount (mount_of o)) opened is_mount in
    let none = zero_same laws.leave laws.words.keep zero.view.opened.sizes (mount_of zero.view.opened).values (opening (mount_of zero.view.opened)) zero.view.run (laws.words.sound (mount_of zero.view.opened) [] mount_is tt) closed.whole.is_run
    followed.deedless in
    let idle : drawn laws.draws zero.view.opened mount_is zero.view.number zero.view.run ≡ 0 = (let at_zero = ap (λ n. drawn laws.draws zero.view.opened mount_is n zero.view.run) followed.number in omega (arith, at_zero, none)) in
    subst (λ l. IsRefusedThere mount.fds l zero call refusal) (sym are.answered)
    (all_refused laws.words laws.calls laws.causes mount tokens calls batch (Ok tt) then_ zero part_values store_values placed tail followed closed.whole mount_is opened laws.tell laws.counts laws.draws closed.history order idle one_round.0 one_round.1
    call refusal (subst (λ l. IsOneOf l (record { call = call; answer = Refused refusal })) are.answered one))
