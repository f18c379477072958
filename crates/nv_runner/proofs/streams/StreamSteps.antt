-- The rounds so far: those that ended were made and their lines written, and one is at hand.
use Rattle.std.proofs.Common.{◌≡◌, ℕ, ◌+◌, ◌-◌, ◌<◌, ◌≤◌, Bool, true, false, if◌then◌else◌, List, [], ◌++◌, length, map, refl, sym, ap, subst, ◌∙◌, arith, append-nil, length-append}
use Rattle.std.specs.Prelude.{All, IsPermutation, Option, Some, None, IfSome, Result, Ok}
use Rattle.std.specs.List.Sorted.{IsStrictlyIncreasing}
use Rattle.std.proofs.lemmas.Bool.{false≢true}
use Rattle.std.proofs.lemmas.List.{length-map, map-append}
use Rattle.std.proofs.lemmas.List.Elements.{All-append, All-map, All-nil, All-weaker}
use Rattle.std.proofs.lemmas.List.Sorted.{IsPermutation-refl, length_permutation}
use Rattle.nv_table.specs.state.States.{PassState}
use Rattle.nv_mount.specs.declared.fds.Fd.{Fd}
use Rattle.nv_trace.specs.Grammar.{last_thread}
use Rattle.nv_trace.specs.NextRound.{IsAtLine, IsLastRound, ahead}
use Rattle.nv_trace.specs.NextRound as next_rounds
use Rattle.nv_trace.specs.ReadRounds.{behind_calls, without_calls}
use Rattle.nv_trace.specs.RoundCalls.{AddsCalls}
use Rattle.nv_trace.specs.Shape.{IsCallWithin, IsNumberedBelow, IsWellFormed}
use Rattle.nv_trace.specs.Streams.{Appends, counted}
use Rattle.nv_trace.specs.Traced.{Traced, lines_in, thread_count}
use Rattle.nv_trace.specs.declared.read_error.ReadError.{ReadError}
use Rattle.nv_trace.specs.declared.reader.LineReader.{LineReader}
use Rattle.nv_trace.specs.declared.trace_call.TracedCall.{TracedCall}
use Rattle.nv_runner.specs.declared.kept.KeptCalls.{KeptCalls}
use Rattle.nv_runner.specs.Histories.{PlacedCall}
use Rattle.nv_runner.specs.KeptRounds.{AreKept}
use Rattle.nv_runner.specs.Lists.{MadeCall, calls_made}
use Rattle.nv_runner.specs.Reports.{history_lines}
use Rattle.nv_runner.specs.Rounds.{IsNextRound}
use Rattle.nv_runner.specs.Shifts.{HasRun}
use Rattle.nv_runner.specs.Sorted.{OpenedCall, RefusedCall}
use Rattle.nv_runner.specs.StreamRounds.{ArePartedAs}
use Rattle.nv_runner.specs.Streams.{IsRoundAtHand, IsTraceFrom}
use Rattle.nv_runner.proofs.histories.HistoryMembers.{of_each, of_one, one_mapped, one_moved}
use Rattle.nv_runner.proofs.ShiftLaws.{run_first}
use Rattle.nv_runner.proofs.TraceLaws.{threads_below}
use Rattle.nv_runner.proofs.streams.StreamLists.{falls_not_joined, rising_few, rising_joined}
use Rattle.nv_runner.proofs.streams.StreamParts.{few_shown, parts_few}
use Rattle.nv_runner.proofs.streams.StreamReads.{HandIs, IsHandOf, first_hand, hand_next}

-- ---- rounds, counted

counted_one : (rounds next : ℕ) → rounds ≤ 67108864 → next ≡ counted rounds → next ≡ rounds + 1
counted_one rounds next few is = grind (arith, few, is)

counted_up : (rounds next : ℕ) → rounds ≤ 67108864 → next ≡ counted rounds → rounds < next
counted_up rounds next few is = (let one = counted_one rounds next few is in omega (arith, one))

-- ---- the trace of the rounds

-- A round is at hand behind others, with whose calls it is a trace that may be run, where its own is.
pub record IsTraceSoFar (more : Bool) (first now : Traced) (reader : LineReader) (before : List TracedCall) : Type 0 where
  pub hand : IsRoundAtHand more now reader
  pub form : now.form ≡ first.form
  pub names : now.names ≡ first.names
  pub descriptors : now.descriptors ≡ first.descriptors
  -- the rounds before it, and their lines, which end below this one
  pub earlier : All (λ call. call.round < hand.round) before
  pub from : ℕ
  pub above : All (λ call. call.line < from) before
  pub below : All (λ call. from ≤ call.line) now.calls
  pub reached : from ≤ reader.pending.number
  -- fewer calls than lines
  pub few : length before + length now.calls < reader.pending.number
  pub lines : IsStrictlyIncreasing (lines_in (behind_calls before now))
  pub formed : IsWellFormed now → IsWellFormed (behind_calls before now)

abbrev line_of : TracedCall → ℕ
line_of call = call.line

-- the first round
pub first_trace : (more : Bool) (first : Traced) (reader : LineReader) → IsRoundAtHand more first reader → IsTraceSoFar more first first reader []
first_trace more first reader hand = record {
  hand = hand;
  form = refl;
  names = refl;
  descriptors = refl;
  earlier = All-nil (λ (call : TracedCall). call.round < hand.round);
  from = 0;
  above = All-nil (λ (call : TracedCall). call.line < 0);
  below = λ k d within. omega arith;
  reached = omega arith;
  few = (let few = hand.numbered.few in omega (arith, few));
  lines = hand.numbered.line_order;
  formed = λ formed. formed;
}

-- the calls of a trace with those of a round behind it
formed_next : (before : List TracedCall) (now next : Traced) → IsWellFormed (behind_calls before now) → IsWellFormed next → next.descriptors ≡ now.descriptors → now.rounds ≤ next.rounds → All (λ call. call.round ≡ now.rounds) next.calls
    → IsWellFormed (behind_calls (before ++ now.calls) next)
formed_next before now next first second same rounds all = record {
  names = second.names;
  allowed = second.allowed;
  distinct = second.distinct;
  descriptors = second.descriptors;
  files = second.files;
  calls =
      All-append (λ (call : TracedCall). IsCallWithin (length next.descriptors) call.call) (before ++ now.calls) next.calls
      (subst (λ l. All (λ (call : TracedCall). IsCallWithin (length l) call.call) (before ++ now.calls)) (sym same) first.calls) second.calls;
  threads = All-append (λ (call : TracedCall). call.thread ≤ last_thread) (before ++ now.calls) next.calls first.threads second.threads;
  rounds =
      All-append (λ (call : TracedCall). call.round ≤ next.rounds) (before ++ now.calls) next.calls
      (All-weaker (λ (call : TracedCall). call.round ≤ now.rounds) (λ call. call.round ≤ next.rounds) (λ call less. omega (arith, less, rounds)) (before ++ now.calls) first.rounds) second.rounds;
  round_order =
      falls_not_joined (λ (call : TracedCall). call.round) now.rounds (before ++ now.calls) next.calls first.round_order second.round_order first.rounds
      (All-weaker (λ (call : TracedCall). call.round ≡ now.rounds) (λ call. now.rounds ≤ call.round) (λ call is. omega (arith, is)) next.calls all);
  no_rounds = second.no_rounds;
  tokens = second.tokens;
  no_tokens = second.no_tokens;
  lives = second.lives;
  no_lives = second.no_lives;
}

module _ (first now : Traced) (reader : LineReader) (before : List TracedCall) where
  -- Another round was read behind the one at hand, which a line had ended.
  module _ (trace : IsTraceSoFar true first now reader before) (next : Traced) (new : LineReader) (adds : AddsCalls reader.pending.number (without_calls now) next) where
    few_rounds : now.rounds ≤ 67108864
    few_rounds = (let few = trace.hand.few refl in let taken = trace.hand.at_line.taken in omega (arith, few, taken))

    its_round : All (λ call. call.round ≡ now.rounds) next.calls
    its_round = subst (All (λ (call : TracedCall). call.round ≡ now.rounds)) (sym adds.behind) adds.round

    its_lines : All (λ call. reader.pending.number ≤ call.line) next.calls
    its_lines = subst (All (λ (call : TracedCall). reader.pending.number ≤ call.line)) (sym adds.behind) adds.lines

    declared : (next.names ≡ now.names) × (next.descriptors ≡ now.descriptors)
    declared = adds.declared (let rises = trace.hand.ended refl in omega (arith, rises))

    bare : IsNumberedBelow reader.pending.number (without_calls now)
    bare = record {
      line_order = λ k within. absurd (omega (arith, within));
      below = All-nil (λ (call : TracedCall). call.line < reader.pending.number);
      few = (let few = trace.hand.numbered.few in omega (arith, few));
    }

    pub hand_of_next : (more : Bool) → IsAtLine new → (more ≡ true → next.rounds ≡ counted now.rounds) → (more ≡ true → reader.taken < new.taken)
        → (IsNumberedBelow reader.pending.number (without_calls now) → IsNumberedBelow new.pending.number next) → (hand : IsRoundAtHand more next new) × (hand.round ≡ now.rounds)
    hand_of_next more at_line counts further numbered = (
      record {
        at_line = at_line;
        numbered = numbered bare;
        round = now.rounds;
        one = its_round;
        ended = λ is. counted_up now.rounds next.rounds few_rounds (counts is);
        few = λ is. (let few = trace.hand.few refl in let on = further is in let up = counted_one now.rounds next.rounds few_rounds (counts is) in omega (arith, few, on, up));
      },
      refl,
    )

    below_number : All (λ call. call.line < reader.pending.number) (before ++ now.calls)
    below_number =
        All-append (λ (call : TracedCall). call.line < reader.pending.number) before now.calls
        (All-weaker (λ (call : TracedCall). call.line < trace.from) (λ call. call.line < reader.pending.number) (λ call below. (let reached = trace.reached in omega (arith, below, reached))) before trace.above)
        trace.hand.numbered.below

    -- each call of the next one has a line of its own, behind the others
    few_calls : (number : ℕ) → IsNumberedBelow number next → reader.pending.number ≤ number → length (before ++ now.calls) + length next.calls < number
    few_calls number numbered onward =
        let long = length-map next.calls line_of in
        let run = rising_few (map line_of next.calls) reader.pending.number number numbered.line_order (All-map (λ n. reader.pending.number ≤ n) line_of next.calls its_lines) (All-map (λ n. n < number) line_of next.calls numbered.below) onward in
        let both = length-append before now.calls in
        let few = trace.few in
        omega (arith, long, run, both, few)

    pub trace_next : (more : Bool) → IsWellFormed now → (hand : IsRoundAtHand more next new) → hand.round ≡ now.rounds → next.form ≡ now.form → reader.pending.number ≤ new.pending.number → IsTraceSoFar more first next new (before ++ now.calls)
    trace_next more formed hand round form onward = record {
      hand = hand;
      form = form ∙ trace.form;
      names = declared.0 ∙ trace.names;
      descriptors = declared.1 ∙ trace.descriptors;
      earlier =
          (let rises = trace.hand.ended refl in
          All-append (λ (call : TracedCall). call.round < hand.round) before now.calls
          (All-weaker (λ (call : TracedCall). call.round < trace.hand.round) (λ call. call.round < hand.round) (λ call less. omega (arith, less, rises, round)) before trace.earlier)
          (All-weaker (λ (call : TracedCall). call.round ≡ trace.hand.round) (λ call. call.round < hand.round) (λ call is. omega (arith, is, rises, round)) now.calls trace.hand.one));
      from = reader.pending.number;
      above = below_number;
      below = its_lines;
      reached = onward;
      few = few_calls new.pending.number hand.numbered onward;
      lines =
          subst IsStrictlyIncreasing (sym (map-append line_of (before ++ now.calls) next.calls))
          (rising_joined reader.pending.number (map line_of (before ++ now.calls)) (map line_of next.calls) trace.lines hand.numbered.line_order (All-map (λ n. n < reader.pending.number) line_of (before ++ now.calls) below_number)
          (All-map (λ n. reader.pending.number ≤ n) line_of next.calls its_lines));
      formed =
          λ its_own. formed_next before now next (trace.formed formed) its_own declared.1 (adds.rounds (let few = few_rounds in omega (arith, few))) its_round;
    }

-- what they are as one trace
pub trace_is : (more : Bool) (first now : Traced) (reader : LineReader) (before : List TracedCall) → IsTraceSoFar more first now reader before → IsWellFormed now → IsTraceFrom first (behind_calls before now)
trace_is more first now reader before trace formed = record {
  form = trace.form;
  names = trace.names;
  descriptors = trace.descriptors;
  well_formed = trace.formed formed;
  lines = trace.lines;
  few =
      (let few = trace.few in
      let both = length-append before now.calls in
      let line = trace.hand.at_line.number in
      let taken = trace.hand.at_line.taken in
      omega (arith, few, both, line, taken));
}

-- ---- the run

-- The rounds before the one at hand were made, and what is to be kept of them was taken.
pub record HaveRunSoFar (fds : List Fd) (worker : Option ℕ) (before : List TracedCall) (start now : Option (List ℕ)) (kept : KeptCalls) (zero : PassState) : Type 0 where
  pub made : List MadeCall
  pub run : HasRun fds worker made zero
  pub all : IsPermutation (calls_made made) before
  pub placed : List PlacedCall
  pub refused : List RefusedCall
  pub opened : List OpenedCall
  pub parted : ArePartedAs made placed refused opened
  pub kept_are : AreKept kept placed refused opened
  pub written : Appends start now (history_lines 0 placed)

-- what holds of each call that was to be made holds of those that were
pub of_made : (P : TracedCall → Type 0) (calls : List TracedCall) (made : List MadeCall) → All P calls → IsPermutation (calls_made made) calls → All (λ m. P m.call) made
of_made P calls made all moved =
    of_each (λ (m : MadeCall). P m.call) made (λ m one. of_one P calls m.call all (one_moved (calls_made made) calls m.call moved (one_mapped (λ (m : MadeCall). m.call) made m one)))

-- the calls of the round at hand are the next
pub next_at_hand : (more : Bool) (first now : Traced) (reader : LineReader) (before : List TracedCall) (made : List MadeCall) → IsTraceSoFar more first now reader before → IsPermutation (calls_made made) before
    → IsNextRound (thread_count now) now.calls made
next_at_hand more first now reader before made trace all = record {
  round = trace.hand.round;
  one = trace.hand.one;
  before = of_made (λ call. call.round < trace.hand.round) before made trace.earlier all;
  below = threads_below now.calls 1;
  line_order = trace.hand.numbered.line_order;
}

-- there is room for more in the counts
pub counts_few : (more : Bool) (first now : Traced) (reader : LineReader) (before : List TracedCall) (fds : List Fd) (worker : Option ℕ) (start text : Option (List ℕ)) (kept : KeptCalls) (zero : PassState) → IsTraceSoFar more first now reader before
    → HaveRunSoFar fds worker before start text kept zero → (kept.placed + length now.calls ≤ 67108865) × (kept.refused_count + length now.calls ≤ 67108865)
counts_few more first now reader before fds worker start text kept zero trace run =
    let few = trace.few in
    let line = trace.hand.at_line.number in
    let taken = trace.hand.at_line.taken in
    let parts = parts_few run.made run.placed run.refused run.opened run.parted in
    let long = length_permutation (calls_made run.made) before run.all in
    let same = length-map run.made (λ (m : MadeCall). m.call) in
    let shown = few_shown run.refused in
    let placed = run.kept_are.placed_are in
    let refused = run.kept_are.refused_are in
    (omega (arith, few, line, taken, parts.0, long, same, placed), omega (arith, few, line, taken, parts.1, long, same, shown, refused))

-- ---- amid the run

-- The rounds so far, and the one at hand.
pub record IsAmid (fds : List Fd) (worker : Option ℕ) (first_more more : Bool) (first : Traced) (start : LineReader) (now : Traced) (reader : LineReader) (told left : Option (List ℕ)) (start_text text : Option (List ℕ)) (kept : KeptCalls) (zero : PassState) : Type 0 where
  pub before : List TracedCall
  pub trace : IsTraceSoFar more first now reader before
  pub run : HaveRunSoFar fds worker before start_text text kept zero
  pub hand : HandIs first_more more first start told now reader left before
  pub at_end : more ≡ false → first_more ≡ true → IfSome told (λ _. left ≡ Some [])

none_written : (text : Option (List ℕ)) → Appends text text []
none_written None = tt
none_written (Some text) = ap Some (sym (append-nil text))

pub first_amid : (fds : List Fd) (worker : Option ℕ) (more : Bool) (first : Traced) (start : LineReader) (told text : Option (List ℕ)) (kept : KeptCalls) (zero : PassState) → IsRoundAtHand more first start → AreKept kept [] [] [] → zero.view.ended ≡ []
    → IsAmid fds worker more more first start first start told told text text kept zero
first_amid fds worker more first start told text kept zero hand none new = record {
  before = [];
  trace = first_trace more first start hand;
  run = record {
    made = [];
    run = run_first fds worker [] zero refl new;
    all = IsPermutation-refl [];
    placed = [];
    refused = [];
    opened = [];
    parted = record {
      placed_are = IsPermutation-refl [];
      in_turn = tt;
      refused_are = IsPermutation-refl [];
      by_line = λ i j d before within. absurd (omega (arith, within));
      opened_are = IsPermutation-refl [];
      open_by_line = λ i j d before within. absurd (omega (arith, within));
    };
    kept_are = none;
    written = none_written text;
  };
  hand = first_hand more first start told;
  at_end = λ is other. absurd (false≢true (sym is ∙ other));
}

ended_told : (A : List ℕ → List ℕ → Type 0) (told left new_left : Option (List ℕ)) → IfSome told (λ input. (rest : List ℕ) × (left ≡ Some rest) × A input rest) → IfSome left (λ _. new_left ≡ Some []) → IfSome told (λ _. new_left ≡ Some [])
ended_told A None left new_left hand ended = tt
ended_told A (Some input) left new_left hand ended = subst (λ left. IfSome left (λ _. new_left ≡ Some [])) hand.1 ended

first_only : (A B : List ℕ → Type 0) (left : Option (List ℕ)) → IfSome left (λ rest. A rest × B rest) → IfSome left A
first_only A B None both = tt
first_only A B (Some rest) both = both.0

-- the next round was read
pub amid_next : (fds : List Fd) (worker : Option ℕ) (first_more more : Bool) (first : Traced) (start : LineReader) (now : Traced) (reader : LineReader) (next : Traced) (new : LineReader) (told left new_left start_text text : Option (List ℕ)) (kept : KeptCalls) (zero : PassState)
    (before : List TracedCall) → IsTraceSoFar true first now reader before → HandIs first_more true first start told now reader left before → HaveRunSoFar fds worker (before ++ now.calls) start_text text kept zero → IsWellFormed now
    → AddsCalls reader.pending.number (without_calls now) next → IsAtLine new → (more ≡ true → next.rounds ≡ counted now.rounds) → (more ≡ true → reader.taken < new.taken) → (IsNumberedBelow reader.pending.number (without_calls now) → IsNumberedBelow new.pending.number next)
    → next.form ≡ now.form → reader.pending.number ≤ new.pending.number
    → (more ≡ true → IfSome left (λ rest. (later : List ℕ) × (new_left ≡ Some later) × next_rounds.IsNextRound (without_calls now) reader (ahead reader ++ rest) next new (ahead new ++ later)))
    → (more ≡ false → IfSome left (λ rest. (new_left ≡ Some []) × IsLastRound (without_calls now) reader (ahead reader ++ rest) next))
    → IsAmid fds worker first_more more first start next new told new_left start_text text kept zero
amid_next fds worker first_more more first start now reader next new told left new_left start_text text kept zero before trace hand run formed adds at_line counts further numbered form onward round last =
    let at_hand = hand_of_next first now reader before trace next new adds more at_line counts further numbered in
    record {
      before = before ++ now.calls;
      trace = trace_next first now reader before trace next new adds more formed at_hand.0 at_hand.1 form onward;
      run = run;
      hand = hand_next first start now reader next new before first_more more told left new_left hand round last;
      at_end = λ is _.
          ended_told (λ input rest. IsHandOf first_more true first start (ahead start ++ input) now reader (ahead reader ++ rest) before) told left new_left hand
          (first_only (λ _. new_left ≡ Some []) (λ rest. IsLastRound (without_calls now) reader (ahead reader ++ rest) next) left (last is));
    }

-- So it is where the calls were dropped before the next round was read.
pub amid_read : (fds : List Fd) (worker : Option ℕ) (first_more more : Bool) (first : Traced) (start : LineReader) (now dropped : Traced) (reader : LineReader) (next : Traced) (new : LineReader) (told left new_left start_text text : Option (List ℕ)) (kept : KeptCalls)
    (zero : PassState) (before : List TracedCall) (result : Result Bool ReadError) → result ≡ Ok more → IsTraceSoFar true first now reader before → HandIs first_more true first start told now reader left before → HaveRunSoFar fds worker (before ++ now.calls) start_text text kept zero → IsWellFormed now → dropped ≡ without_calls now
    → AddsCalls reader.pending.number dropped next → IsAtLine new → (result ≡ Ok true → next.rounds ≡ counted dropped.rounds) → (result ≡ Ok true → reader.taken < new.taken) → (IsNumberedBelow reader.pending.number dropped → IsNumberedBelow new.pending.number next)
    → next.form ≡ dropped.form → reader.pending.number ≤ new.pending.number
    → (result ≡ Ok true → IfSome left (λ rest. (later : List ℕ) × (new_left ≡ Some later) × next_rounds.IsNextRound dropped reader (ahead reader ++ rest) next new (ahead new ++ later)))
    → (result ≡ Ok false → IfSome left (λ rest. (new_left ≡ Some []) × IsLastRound dropped reader (ahead reader ++ rest) next))
    → IsAmid fds worker first_more more first start next new told new_left start_text text kept zero
amid_read fds worker first_more more first start now dropped reader next new told left new_left start_text text kept zero before result ok trace hand run formed is adds at_line counts further numbered form onward round last =
    amid_next fds worker first_more more first start now reader next new told left new_left start_text text kept zero before trace hand run formed (subst (λ t. AddsCalls reader.pending.number t next) is adds) at_line
    (λ m. counts (ok ∙ ap Ok m) ∙ ap (λ (t : Traced). counted t.rounds) is) (λ m. further (ok ∙ ap Ok m)) (subst (λ t. IsNumberedBelow reader.pending.number t → IsNumberedBelow new.pending.number next) is numbered) (form ∙ ap (λ (t : Traced). t.form) is) onward
    (λ m. subst (λ t. IfSome left (λ rest. (later : List ℕ) × (new_left ≡ Some later) × next_rounds.IsNextRound t reader (ahead reader ++ rest) next new (ahead new ++ later))) is (round (ok ∙ ap Ok m)))
    (λ m. subst (λ t. IfSome left (λ rest. (new_left ≡ Some []) × IsLastRound t reader (ahead reader ++ rest) next)) is (last (ok ∙ ap Ok m)))

-- each further round was read of more bytes
pub fewer_left : (more : Bool) (old new : ℕ) → old ≤ 67108864 → (more ≡ true → old < new) → (if more then 67108865 - new else 0) < 67108865 - old
fewer_left true old new few further = (let on = further refl in omega (arith, few, on))
fewer_left false old new few further = omega (arith, few)
