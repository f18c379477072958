-- How a run of rounds ends, as they are read.
use Rattle.std.proofs.Common.{◌≡◌, ◌≢◌, ℕ, suc, ◌+◌, ◌<◌, ◌≤◌, Bool, true, false, List, [], ◌∷◌, ◌++◌, length, map, take, inl, inr, refl, sym, ap, subst, ◌∙◌, arith, append_assoc, append-nil, length-append}
use Rattle.std.specs.Prelude.{All, IsPermutation, Option, Some, None, IfSome, Result, Ok, Err}
use Rattle.std.proofs.lemmas.Bool.{false≢true}
use Rattle.std.proofs.lemmas.List.{length-map, map-append}
use Rattle.std.proofs.lemmas.List.Elements.{All-nil}
use Rattle.std.proofs.lemmas.List.Sorted.{IsPermutation-append, IsPermutation-append_comm, IsPermutation-sym, IsPermutation-trans, length_permutation}
use Rattle.nv_core.specs.state.Passes.{IsOneOf}
use Rattle.nv_table.specs.state.States.{PassState}
use Rattle.nv_mount.specs.declared.fds.Fd.{Fd}
use Rattle.nv_trace.specs.NextRound.{IsRoundRefused, ahead}
use Rattle.nv_trace.specs.ReadRounds.{behind_calls, without_calls}
use Rattle.nv_trace.specs.Report.{history_text}
use Rattle.nv_trace.specs.Shape.{IsWellFormed}
use Rattle.nv_trace.specs.Streams.{Appends}
use Rattle.nv_trace.specs.Traced.{Traced}
use Rattle.nv_trace.specs.declared.read_error.ReadError.{ReadError}
use Rattle.nv_trace.specs.declared.read_error.ReadError.TheVariants as read_errors
use Rattle.nv_trace.specs.declared.reader.LineReader.{LineReader}
use Rattle.nv_trace.specs.declared.trace_call.TracedCall.{TracedCall}
use Rattle.nv_runner.specs.declared.kept.KeptCalls.{KeptCalls}
use Rattle.nv_runner.specs.declared.sorted.SortedCalls.{SortedCalls}
use Rattle.nv_runner.specs.declared.stream.StreamError.{StreamError}
use Rattle.nv_runner.specs.declared.stream.StreamError.TheVariants.{NoMemory, Read, Write}
use Rattle.nv_runner.specs.Histories.{PlacedCall, placed_calls, placed_in_answer}
use Rattle.nv_runner.specs.KeptRounds.{AreKept, AreRoundsOver}
use Rattle.nv_runner.specs.Lists.{MadeCall, calls_made}
use Rattle.nv_runner.specs.Reports.{history_lines}
use Rattle.nv_runner.specs.Rounds.{AreCallsOf, HasRunRound}
use Rattle.nv_runner.specs.Sorted.{AreSortedOut, OpenedCall, RefusedCall, opened_call, placed_call, refused_call}
use Rattle.nv_runner.specs.StreamRounds.{ArePartedAs, HasKeptRound, HasRunRead, HasRunSorted, HasRunWritten, StandInTurn}
use Rattle.nv_runner.specs.Streams.{HasWritten, IsAllRead, stream_error}
use Rattle.nv_runner.proofs.histories.HistoryMembers.{of_each, of_one, one_either, one_left, one_mapped, one_moved, one_of_joined, one_right}
use Rattle.nv_runner.proofs.LifeLaws.{falls_nowhere, placed_among, sorted_by}
use Rattle.nv_runner.proofs.streams.StreamLists.{turn_by_place}
use Rattle.nv_runner.proofs.streams.StreamParts.{parted_so, parts_few, parts_joined, placed_joined}
use Rattle.nv_runner.proofs.streams.StreamReads.{HandIs, hand_ended, hand_refused}
use Rattle.nv_runner.proofs.streams.StreamSteps.{HaveRunSoFar, IsTraceSoFar, of_made, trace_is}

-- ---- lines

lines_joined : (from : ℕ) (first later : List PlacedCall) → history_lines from (first ++ later) ≡ history_lines from first ++ history_lines (from + length first) later
lines_joined from [] later = (let same : from ≡ from + 0 = omega arith in ap (λ n. history_lines n later) same)
lines_joined from (p ∷ first) later =
    let text = history_text from p.call.thread p.call.call p.reply in
    let rest = history_lines (from + 1) first in
    let same : from + 1 + length first ≡ from + suc (length first) = omega arith in
    ap (λ l. text ++ l) (lines_joined (from + 1) first later) ∙ sym (append_assoc text rest (history_lines (from + 1 + length first) later)) ∙ ap (λ n. (text ++ rest) ++ history_lines n later) same

appended_twice : (old middle new : Option (List ℕ)) (first later : List ℕ) → Appends old middle first → Appends middle new later → Appends old new (first ++ later)
appended_twice None middle new first later one two = tt
appended_twice (Some text) middle new first later one two =
    subst (λ m. IfSome m (λ written. new ≡ Some (written ++ later))) one two ∙ ap Some (append_assoc text first later)

taken_behind : (first : List ℕ) (n : ℕ) (later : List ℕ) → first ++ take n later ≡ take (length first + n) (first ++ later)
taken_behind [] n later = (let same : n ≡ 0 + n = omega arith in ap (λ m. take m later) same)
taken_behind (x ∷ first) n later =
    let same : suc (length first + n) ≡ suc (length first) + n = omega arith in
    ap (λ l. x ∷ l) (taken_behind first n later) ∙ ap (λ m. take m (x ∷ (first ++ later))) same

none_behind : (first later : List PlacedCall) → first ++ later ≡ [] → later ≡ []
none_behind [] later none = none
none_behind (p ∷ first) later none = absurd (cc)

-- ---- rounds that are over

-- all calls were made, and all that have a place are shown
all_over : (calls : List TracedCall) (made : List MadeCall) → IsPermutation (calls_made made) calls → AreRoundsOver calls made []
all_over calls made all = record {
  few = (let long = length_permutation (calls_made made) calls all in let same = length-map made (λ (m : MadeCall). m.call) in omega (arith, long, same));
  all_made = λ call earlier. one_moved calls (calls_made made) call (IsPermutation-sym (calls_made made) calls all) earlier.0;
  late = All-nil (λ (p : PlacedCall). All (λ (c : TracedCall). c.round ≤ p.call.round) calls);
}

-- ---- one round

-- memory was wanting, before anything was written
pub round_wanting : {E : Type 0} (fds : List Fd) (worker : Option ℕ) (calls : List TracedCall) (earlier : List MadeCall) (zero : PassState) (text : Option (List ℕ)) (old new : KeptCalls) (sorted : Result SortedCalls E) → HasRunSorted fds worker calls earlier zero sorted
    → HasRunWritten fds worker calls earlier zero text text old new (Err NoMemory)
round_wanting fds worker calls earlier zero text old new sorted ran = record { made = ran.made; ran = ran.ran; ended = refl }

-- all of its calls were made, sorted out and kept
pub round_kept : (calls : List TracedCall) (made : List MadeCall) (before now : Option (List ℕ)) (old new : KeptCalls) (ended : Result (Unit {0}) StreamError) (sorted : SortedCalls) → AreSortedOut made sorted → IsPermutation (calls_made made) calls
    → ((p : List PlacedCall) (r : List RefusedCall) (o : List OpenedCall) → AreKept old p r o → AreKept new (p ++ map placed_call sorted.placed.items) (r ++ map refused_call sorted.refused.items) (o ++ map opened_call sorted.open_calls.items))
    → HasWritten before now ended (history_lines old.placed (map placed_call sorted.placed.items)) → (ended ≡ Err Write → map placed_call sorted.placed.items ≢ []) → HasKeptRound calls made before now old new ended
round_kept calls made before now old new ended sorted out all kept written wrote = record {
  all = all;
  placed = map placed_call sorted.placed.items;
  refused = map refused_call sorted.refused.items;
  opened = map opened_call sorted.open_calls.items;
  parted = parted_so made sorted out;
  kept = kept;
  written = written;
  wrote = wrote;
}

-- no more are listed of a kind than the round has calls
pub kinds_few : (calls : List TracedCall) (made : List MadeCall) (sorted : SortedCalls) → AreSortedOut made sorted → length made ≤ length calls → (length sorted.placed.items ≤ length calls) × (length sorted.refused.items ≤ length calls)
kinds_few calls made sorted out few =
    let parts = parts_few made (map placed_call sorted.placed.items) (map refused_call sorted.refused.items) (map opened_call sorted.open_calls.items) (parted_so made sorted out) in
    let placed = length-map sorted.placed.items placed_call in
    let refused = length-map sorted.refused.items refused_call in
    (omega (arith, parts.0, placed, few), omega (arith, parts.1, refused, few))

module _ (fds : List Fd) (worker : Option ℕ) (calls : List TracedCall) (earlier made : List MadeCall) (zero : PassState) (before now : Option (List ℕ)) (old new : KeptCalls) (text : List ℕ) (sorted : SortedCalls) (ran : HasRunRound fds worker calls earlier made zero)
    (out : AreSortedOut made sorted) (all : IsPermutation (calls_made made) calls)
    (kept : (p : List PlacedCall) (r : List RefusedCall) (o : List OpenedCall) → AreKept old p r o → AreKept new (p ++ map placed_call sorted.placed.items) (r ++ map refused_call sorted.refused.items) (o ++ map opened_call sorted.open_calls.items))
    (lines : text ≡ history_lines old.placed (map placed_call sorted.placed.items)) where
  -- the sink took all of their lines
  pub round_written : Appends before now text → HasRunWritten fds worker calls earlier zero before now old new (Ok tt)
  round_written written = record { made = made; ran = ran; ended = round_kept calls made before now old new (Ok tt) sorted out all kept (subst (Appends before now) lines written) (λ is. absurd (cc)) }

  -- the sink failed
  pub round_unwritten : text ≢ [] → (count : ℕ) × Appends before now (take count text) → HasRunWritten fds worker calls earlier zero before now old new (Err Write)
  round_unwritten some front = record {
    made = made;
    ran = ran;
    ended =
        round_kept calls made before now old new (Err Write) sorted out all kept (front.0, subst (λ l. Appends before now (take front.0 l)) lines front.1)
        (λ _ none. some (lines ∙ ap (history_lines old.placed) none));
  }

-- ---- one round more

module _ (more : Bool) (first now : Traced) (reader : LineReader) (before : List TracedCall) (trace : IsTraceSoFar more first now reader before) (fds : List Fd) (worker : Option ℕ)
    (start text new_text : Option (List ℕ)) (kept new_kept : KeptCalls) (was zero : PassState) (run : HaveRunSoFar fds worker before start text kept was) where
  earlier_rounds : All (λ (m : MadeCall). m.call.round < trace.hand.round) run.made
  earlier_rounds = of_made (λ call. call.round < trace.hand.round) before run.made trace.earlier run.all

  earlier_lines : All (λ (m : MadeCall). m.call.line < trace.from) run.made
  earlier_lines = of_made (λ call. call.line < trace.from) before run.made trace.above run.all

  of_calls : (P : TracedCall → Type 0) (made : List MadeCall) → All P now.calls → AreCallsOf now.calls made → All (λ (m : MadeCall). P m.call) made
  of_calls P made all within = of_each (λ (m : MadeCall). P m.call) made (λ m one. of_one P now.calls m.call all (within m one))

  -- its calls with those of the rounds before it
  all_calls : (made : List MadeCall) → IsPermutation (calls_made made) now.calls → IsPermutation (calls_made (made ++ run.made)) (before ++ now.calls)
  all_calls made all =
      subst (λ l. IsPermutation l (before ++ now.calls)) (sym (map-append (λ (m : MadeCall). m.call) made run.made))
      (IsPermutation-trans (calls_made made ++ calls_made run.made) (now.calls ++ before) (before ++ now.calls) (IsPermutation-append (calls_made made) now.calls (calls_made run.made) before all run.all) (IsPermutation-append_comm now.calls before))

  calls_within : (made : List MadeCall) → AreCallsOf now.calls made → AreCallsOf (before ++ now.calls) (made ++ run.made)
  calls_within made within m one = elim (one_either made run.made m one) [
    | inl new ↦ one_right before now.calls m.call (within m new)
    | inr old ↦ one_left before now.calls m.call (one_moved (calls_made run.made) before m.call run.all (one_mapped (λ (m : MadeCall). m.call) run.made m old))
  ]

  module _ (made : List MadeCall) (ended : Result (Unit {0}) StreamError) (within : AreCallsOf now.calls made) (round : HasKeptRound now.calls made text new_text kept new_kept ended) where
    parts : ArePartedAs (made ++ run.made) (run.placed ++ round.placed) (run.refused ++ round.refused) (run.opened ++ round.opened)
    parts =
        parts_joined trace.hand.round trace.from run.made made earlier_rounds (of_calls (λ call. call.round ≡ trace.hand.round) made trace.hand.one within) earlier_lines (of_calls (λ call. trace.from ≤ call.line) made trace.below within)
        run.placed round.placed run.refused round.refused run.opened round.opened run.parted round.parted

    lines : history_lines 0 (run.placed ++ round.placed) ≡ history_lines 0 run.placed ++ history_lines kept.placed round.placed
    lines =
        (let same : 0 + length run.placed ≡ kept.placed = (let is = run.kept_are.placed_are in omega (arith, is)) in
        lines_joined 0 run.placed round.placed ∙ ap (λ n. history_lines 0 run.placed ++ history_lines n round.placed) same)

  -- there are no more of them than lines
  made_few : (made : List MadeCall) → length made ≤ length now.calls → length (made ++ run.made) ≤ 67108865
  made_few made few =
      let both = length-append made run.made in
      let long = length_permutation (calls_made run.made) before run.all in
      let same = length-map run.made (λ (m : MadeCall). m.call) in
      let most = trace.few in
      let line = trace.hand.at_line.number in
      let taken = trace.hand.at_line.taken in
      omega (arith, few, both, long, same, most, line, taken)

  -- it was made, and its lines were written
  pub ran_on : HasRunWritten fds worker now.calls run.made zero text new_text kept new_kept (Ok tt) → HaveRunSoFar fds worker (before ++ now.calls) start new_text new_kept zero
  ran_on written =
      let round = written.ended in
      record {
        made = written.made ++ run.made;
        run = written.ran.run;
        all = all_calls written.made round.all;
        placed = run.placed ++ round.placed;
        refused = run.refused ++ round.refused;
        opened = run.opened ++ round.opened;
        parted = parts written.made (Ok tt) written.ran.within round;
        kept_are = round.kept run.placed run.refused run.opened run.kept_are;
        written = subst (Appends start new_text) (sym (lines written.made (Ok tt) written.ran.within round)) (appended_twice start text new_text (history_lines 0 run.placed) (history_lines kept.placed round.placed) run.written round.written);
      }

  -- ---- the run ends there

  module _ (first_more : Bool) (start_reader : LineReader) (told left : Option (List ℕ)) (formed : IsWellFormed now) (hand : HandIs first_more more first start_reader told now reader left before) where
    -- the sink failed
    write_ended : HasRunWritten fds worker now.calls run.made zero text new_text kept new_kept (Err Write) → HasRunRead fds worker first_more first start_reader told start new_text new_kept zero (Err Write)
    write_ended written =
        let round = written.ended in
        let both = parts written.made (Err Write) written.ran.within round in
        let all = run.placed ++ round.placed in
        record {
          all = behind_calls before now;
          trace = trace_is more first now reader before trace formed;
          read = hand_ended first start_reader now reader before first_more more told left (Err Write) trace.hand.at_line hand tt (λ _. tt);
          made = written.made ++ run.made;
          run = written.ran.run;
          within = calls_within written.made written.ran.within;
          few = made_few written.made written.ran.few;
          all_made = λ _. all_calls written.made round.all;
          placed = all;
          later = [];
          refused = run.refused ++ round.refused;
          opened = run.opened ++ round.opened;
          placed_are = subst (IsPermutation (placed_calls (written.made ++ run.made))) (sym (append-nil all)) both.placed_are;
          in_turn = subst StandInTurn (sym (append-nil all)) both.in_turn;
          over = all_over (before ++ now.calls) (written.made ++ run.made) (all_calls written.made round.all);
          parted = λ _. both;
          kept_are = λ _. round.kept run.placed run.refused run.opened run.kept_are;
          written = (
            length (history_lines 0 run.placed) + round.written.0,
            subst (Appends start new_text)
                (taken_behind (history_lines 0 run.placed) round.written.0 (history_lines kept.placed round.placed) ∙ ap (take (length (history_lines 0 run.placed) + round.written.0)) (sym (lines written.made (Err Write) written.ran.within round)))
                (appended_twice start text new_text (history_lines 0 run.placed) (take round.written.0 (history_lines kept.placed round.placed)) run.written round.written.1),
          );
          wrote = λ is none. round.wrote is (none_behind run.placed round.placed none);
        }

    -- what was made of the round at hand is of the last round, and all of the earlier ones was made
    over_here : (made : List MadeCall) (later : List PlacedCall) → HasRunRound fds worker now.calls run.made made zero → IsPermutation (placed_calls made) later → AreRoundsOver (before ++ now.calls) (made ++ run.made) later
    over_here made later ran moved = record {
      few =
          (let joined = length-append made run.made in
          let calls = length-append before now.calls in
          let long = length_permutation (calls_made run.made) before run.all in
          let same = length-map run.made (λ (m : MadeCall). m.call) in
          let few = ran.few in
          omega (arith, joined, calls, long, same, few));
      all_made = λ call earlier.
          (let other = earlier.1.0 in
          let less = earlier.1.2 in
          let most = at_most other earlier.1.1 in
          elim (one_either before now.calls call earlier.0) [
            | inl old ↦
                subst (λ l. IsOneOf l call) (sym (map-append (λ (m : MadeCall). m.call) made run.made))
                (one_right (calls_made made) (calls_made run.made) call (one_moved before (calls_made run.made) call (IsPermutation-sym (calls_made run.made) before run.all) old))
            | inr new ↦ absurd (let is = of_one (λ (c : TracedCall). c.round ≡ trace.hand.round) now.calls call trace.hand.one new in omega (arith, less, most, is))
          ]);
      late = of_each (λ (p : PlacedCall). All (λ (c : TracedCall). c.round ≤ p.call.round) (before ++ now.calls)) later (λ p one.
          of_each (λ (c : TracedCall). c.round ≤ p.call.round) (before ++ now.calls) (λ c there.
          let most = at_most c there in
          let from = one_of_joined (λ (m : MadeCall). placed_in_answer m.call m.answer) made p (one_moved later (placed_calls made) p (IsPermutation-sym (placed_calls made) later moved) one) in
          let same = ap (λ (t : TracedCall). t.round) (placed_among from.0.call from.0.answer p from.2) in
          let is = of_one (λ (t : TracedCall). t.round ≡ trace.hand.round) now.calls from.0.call trace.hand.one (ran.within from.0 from.1) in
          omega (arith, most, same, is)));
    }
      where
        at_most : (c : TracedCall) → IsOneOf (before ++ now.calls) c → c.round ≤ trace.hand.round
        at_most c one = elim (one_either before now.calls c one) [
          | inl old ↦ (let less = of_one (λ (t : TracedCall). t.round < trace.hand.round) before c trace.earlier old in omega (arith, less))
          | inr new ↦ (let is = of_one (λ (t : TracedCall). t.round ≡ trace.hand.round) now.calls c trace.hand.one new in omega (arith, is))
        ]

    -- memory was wanting
    memory_ended : HasRunWritten fds worker now.calls run.made zero text new_text kept new_kept (Err NoMemory) → HasRunRead fds worker first_more first start_reader told start new_text new_kept zero (Err NoMemory)
    memory_ended written =
        let some = sorted_by (λ (p : PlacedCall). p.place) (placed_calls written.made) in
        let both = placed_joined trace.hand.round trace.from run.made written.made earlier_rounds (of_calls (λ call. call.round ≡ trace.hand.round) written.made trace.hand.one written.ran.within) earlier_lines
        (of_calls (λ call. trace.from ≤ call.line) written.made trace.below written.ran.within) run.placed some.0 run.parted.placed_are run.parted.in_turn some.1
        (turn_by_place some.0 (falls_nowhere (λ (p : PlacedCall). p.place) some.0 some.2)) in
        record {
          all = behind_calls before now;
          trace = trace_is more first now reader before trace formed;
          read = hand_ended first start_reader now reader before first_more more told left (Err NoMemory) trace.hand.at_line hand tt (λ _. tt);
          made = written.made ++ run.made;
          run = written.ran.run;
          within = calls_within written.made written.ran.within;
          few = made_few written.made written.ran.few;
          all_made = λ differ. absurd (differ refl);
          placed = run.placed;
          later = some.0;
          refused = run.refused;
          opened = run.opened;
          placed_are = both.0;
          in_turn = both.1;
          over = over_here written.made some.0 written.ran some.1;
          parted = λ differ. absurd (differ refl);
          kept_are = λ differ. absurd (differ refl);
          written = subst (λ t. Appends start t (history_lines 0 run.placed)) (sym written.ended) run.written;
          wrote = λ is. absurd (cc);
        }

    pub ended_here : (error : StreamError) → HasRunWritten fds worker now.calls run.made zero text new_text kept new_kept (Err error) → HasRunRead fds worker first_more first start_reader told start new_text new_kept zero (Err error)
    ended_here NoMemory written = memory_ended written
    ended_here (Read error) written = absurd written.ended
    ended_here Write written = write_ended written

-- ---- no round follows

module _ (first now : Traced) (reader : LineReader) (before : List TracedCall) (fds : List Fd) (worker : Option ℕ) (start text : Option (List ℕ)) (kept : KeptCalls) (zero : PassState) (first_more : Bool) (start_reader : LineReader)
    (told left : Option (List ℕ)) (formed : IsWellFormed now) (run : HaveRunSoFar fds worker (before ++ now.calls) start text kept zero) where
  run_ended : (more : Bool) (ended : Result (Unit {0}) StreamError) → IsTraceSoFar more first now reader before → IfSome told (λ input. IsAllRead first_more first start_reader (ahead start_reader ++ input) ended (behind_calls before now))
      → HasWritten start text ended (history_lines 0 run.placed) → ended ≢ Err Write → HasRunRead fds worker first_more first start_reader told start text kept zero ended
  run_ended more ended trace read written unfailed = record {
    all = behind_calls before now;
    trace = trace_is more first now reader before trace formed;
    read = read;
    made = run.made;
    run = run.run;
    within = λ m one. one_moved (calls_made run.made) (before ++ now.calls) m.call run.all (one_mapped (λ (m : MadeCall). m.call) run.made m one);
    few =
        (let long = length_permutation (calls_made run.made) (before ++ now.calls) run.all in
        let both = length-append before now.calls in
        let same = length-map run.made (λ (m : MadeCall). m.call) in
        let most = trace.few in
        let line = trace.hand.at_line.number in
        let taken = trace.hand.at_line.taken in
        omega (arith, long, both, same, most, line, taken));
    all_made = λ _. run.all;
    placed = run.placed;
    later = [];
    refused = run.refused;
    opened = run.opened;
    placed_are = subst (IsPermutation (placed_calls run.made)) (sym (append-nil run.placed)) run.parted.placed_are;
    in_turn = subst StandInTurn (sym (append-nil run.placed)) run.parted.in_turn;
    over = all_over (before ++ now.calls) run.made run.all;
    parted = λ _. run.parted;
    kept_are = λ _. run.kept_are;
    written = written;
    wrote = λ is. absurd (unfailed is);
  }

  -- the one at hand was the last
  pub last_here : IsTraceSoFar false first now reader before → HandIs first_more false first start_reader told now reader left before → HasRunRead fds worker first_more first start_reader told start text kept zero (Ok tt)
  last_here trace hand = run_ended false (Ok tt) trace (hand_ended first start_reader now reader before first_more false told left (Ok tt) trace.hand.at_line hand tt (λ is. absurd (false≢true is))) run.written (λ is. absurd (cc))

  written_as : (error : ReadError) → HasWritten start text (Err (stream_error error)) (history_lines 0 run.placed)
  written_as (read_errors.Bad bad) = run.written
  written_as read_errors.InputLong = run.written
  written_as read_errors.Failed = run.written
  written_as read_errors.NoMemory = run.written

  unfailed_as : (error : ReadError) (ended : Result (Unit {0}) StreamError) → ended ≡ Err (stream_error error) → ended ≢ Err Write
  unfailed_as (read_errors.Bad bad) ended is fails = absurd (cc)
  unfailed_as read_errors.InputLong ended is fails = absurd (cc)
  unfailed_as read_errors.Failed ended is fails = absurd (cc)
  unfailed_as read_errors.NoMemory ended is fails = absurd (cc)

  -- the next one is refused
  pub refused_here : (next : Traced) (error : ReadError) → IsTraceSoFar true first now reader before → HandIs first_more true first start_reader told now reader left before
      → IfSome left (λ rest. IsRoundRefused (without_calls now) reader (ahead reader ++ rest) next error) → HasRunRead fds worker first_more first start_reader told start text kept zero (Err (stream_error error))
  refused_here next error trace hand refused =
      run_ended true (Err (stream_error error)) trace (hand_refused first start_reader now reader before first_more told left next error trace.hand.at_line hand refused) (written_as error) (unfailed_as error (Err (stream_error error)) refl)
