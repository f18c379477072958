-- The outcome of rounds that were run as they were read.
use Rattle.std.proofs.Common.{◌≡◌, ◌≢◌, ℕ, Bool, List, [], ◌++◌, map, refl, sym, ap, subst, ◌∙◌, arith, length-append}
use Rattle.std.specs.Prelude.{IsErr, IsOk, IsPermutation, Option, OnOk, Result, Ok, Err}
use Rattle.std.specs.Global.{Global}
use Rattle.std.specs.List.Sorted.{IsNonDecreasingBy}
use Rattle.std.proofs.lemmas.List.{get_or_append_left}
use Rattle.std.proofs.lemmas.List.Sorted.{IsPermutation-refl, IsPermutation-sym}
use Rattle.nv_pmem.specs.Steps.{PartHistory}
use Rattle.nv_store.specs.Steps.{StoreHistory}
use Rattle.nv_core.specs.state.Values.{Value}
use Rattle.nv_table.specs.state.States.{PassState}
use Rattle.nv_table.specs.state.Views.{PassView, first_view, pass_of}
use Rattle.nv_mount.specs.WholeRuns.{history_then}
use Rattle.nv_mount.specs.declared.fds.Fd.{Fd}
use Rattle.nv_trace.specs.Traced.{Traced}
use Rattle.nv_trace.specs.declared.reader.LineReader.{LineReader}
use Rattle.nv_trace.specs.declared.trace_call.TracedCall.{TracedCall}
use Rattle.nv_runner.specs.declared.kept.KeptCalls.{KeptCalls}
use Rattle.nv_runner.specs.declared.plan.Plan.{Plan}
use Rattle.nv_runner.specs.declared.run_error.RunError.{RunError}
use Rattle.nv_runner.specs.declared.run_error.RunError.TheVariants as run_errors
use Rattle.nv_runner.specs.declared.sorted.SortedCalls.{SortedCalls}
use Rattle.nv_runner.specs.declared.stream.StreamError.{StreamError}
use Rattle.nv_runner.specs.declared.stream.StreamError.TheVariants.{NoMemory}
use Rattle.nv_runner.specs.EndedRuns.{HasOutcome, IsClosedBy, IsOutcomeOf, batch_of}
use Rattle.nv_runner.specs.Histories.{PlacedCall, placed_calls}
use Rattle.nv_runner.specs.KeptRounds.{AreFirstPlaced, AreKept, AreRoundsOver}
use Rattle.nv_runner.specs.Lists.{MadeCall}
use Rattle.nv_runner.specs.Rounds.{AreInLineOrder, AreInRoundOrder}
use Rattle.nv_runner.specs.Sorted.{opened_call, refused_call}
use Rattle.nv_runner.specs.StreamRounds.{HasRunRead, StandInTurn, kept_if}
use Rattle.nv_runner.specs.Streams.{HasStreamed}
use Rattle.nv_runner.proofs.histories.HistoryLaws.{sorted_are_history}
use Rattle.nv_runner.proofs.histories.HistoryMembers.{one_moved}
use Rattle.nv_runner.proofs.LifeLaws.{falls_nowhere, sorted_by}
use Rattle.nv_runner.proofs.LineLaws.{lines_tell_rounds}
use Rattle.nv_runner.proofs.OutcomeLaws.{rises_within}
use Rattle.nv_runner.proofs.ToldLaws.{history_of_others}
use Rattle.nv_runner.proofs.streams.StreamLists.{places_in_turn}
use Rattle.nv_runner.proofs.streams.StreamParts.{sorted_so}

-- the first part of a list that doesn't fall
falls_first : (first later : List PlacedCall) → IsNonDecreasingBy (λ p. p.place) (first ++ later) → IsNonDecreasingBy (λ p. p.place) first
falls_first first later rises i j d before within =
    let long = length-append first later in
    let up = rises i j d before (omega (arith, long, within)) in
    let one = ap (λ (p : PlacedCall). p.place) (get_or_append_left first later d i (omega arith)) in
    let other = ap (λ (p : PlacedCall). p.place) (get_or_append_left first later d j within) in
    omega (arith, up, one, other)

-- calls of a run that stand in turn don't fall by place
by_place : (fds : List Fd) (plan : Plan) (calls : List TracedCall) (start zero : PassState) (outcome : Result SortedCalls RunError) (part_values store_values : List Value) (parts : List PartHistory) (stores : List StoreHistory) (faults count tail : ℕ)
    → AreInLineOrder calls → AreInRoundOrder calls → start.view ≡ first_view start.view.opened → (out : HasOutcome fds plan calls start outcome zero) → IsClosedBy zero part_values store_values parts stores faults count tail
    → (placed : List PlacedCall) → IsPermutation (placed_calls out.made) placed → StandInTurn placed → IsNonDecreasingBy (λ p. p.place) placed
by_place fds plan calls start zero outcome part_values store_values left_parts left_stores faults count tail lines rounds new out closed placed moved turn =
    let none : (pass_of zero.view).mine ≡ [] = out.run_out.unplaced.mine ∙ ap (λ (v : PassView). (pass_of v).mine) new in
    let all = history_of_others zero.view count closed.whole.is_run out.run_out.taken none closed.history in
    let rise = rises_within calls out.made (lines_tell_rounds calls calls lines rounds (IsPermutation-refl calls)).1 out.within in
    let sorted = sorted_by (λ (p : PlacedCall). p.place) (placed_calls out.made) in
    let are = sorted_are_history fds (batch_of plan) out.made zero (history_then zero.view) sorted.0 out.run_out.run all rise sorted.1 (falls_nowhere (λ (p : PlacedCall). p.place) sorted.0 sorted.2) in
    places_in_turn sorted.0 placed are.places are.in_order
    (λ p one. one_moved (placed_calls out.made) sorted.0 p sorted.1 (one_moved placed (placed_calls out.made) p (IsPermutation-sym (placed_calls out.made) placed moved) one)) turn

-- what the outcome of such a run gives
abbrev pub Gives : (fds : List Fd) (plan : Plan) (calls : List TracedCall) (start zero : PassState) (made : List MadeCall) (ran : Result (Unit {0}) RunError) → Type 0
Gives fds plan calls start zero made ran = (outcome : Result SortedCalls RunError) → IsOutcomeOf ran made outcome → (out : HasOutcome fds plan calls start outcome zero) × (out.made ≡ made)

module _ (alloc : Global) (fds : List Fd) (plan : Plan) (start zero was : PassState) (more : Bool) (first : Traced) (reader : LineReader) (told before now : Option (List ℕ)) (ended : Result (Unit {0}) StreamError) (kept : KeptCalls)
    (read : HasRunRead fds (batch_of plan) more first reader told before now kept was ended) (new : start.view ≡ first_view start.view.opened) (part_values store_values : List Value) (parts : List PartHistory) (stores : List StoreHistory) (faults count tail : ℕ)
    (closed : IsClosedBy zero part_values store_values parts stores faults count tail) where
  abbrev calls : List TracedCall
  calls = read.all.calls

  lined : (outcome : Result SortedCalls RunError) (out : HasOutcome fds plan calls start outcome zero) → out.made ≡ read.made → IsNonDecreasingBy (λ p. p.place) (read.placed ++ read.later)
  lined outcome out same =
      by_place fds plan calls start zero outcome part_values store_values parts stores faults count tail read.trace.lines read.trace.well_formed.round_order new out closed (read.placed ++ read.later)
      (subst (λ made. IsPermutation (placed_calls made) (read.placed ++ read.later)) (sym same) read.placed_are) read.in_turn

  first_of : (outcome : Result SortedCalls RunError) (out : HasOutcome fds plan calls start outcome zero) → out.made ≡ read.made → AreFirstPlaced out.made read.placed
  first_of outcome out same = record {
    later = read.later;
    all = subst (λ made. IsPermutation (placed_calls made) (read.placed ++ read.later)) (sym same) read.placed_are;
    by_place = lined outcome out same;
  }

  over_of : (outcome : Result SortedCalls RunError) (out : HasOutcome fds plan calls start outcome zero) → out.made ≡ read.made → AreRoundsOver calls out.made read.later
  over_of outcome out same = subst (λ made. AreRoundsOver calls made read.later) (sym same) read.over

  -- it was not brought to its end
  not_ended : (error : RunError) → Gives fds plan calls start zero read.made (Err error) → HasStreamed fds plan start more first reader told before now ended (Err error) zero
  unfolding first_of
  not_ended error gives =
      let out = gives (Err error) refl in
      record {
        all = read.all;
        trace = read.trace;
        read = read.read;
        outcome = Err error;
        ran = out.0;
        kept = refl;
        shown = read.placed;
        first_shown = first_of (Err error) out.0 out.1;
        over = over_of (Err error) out.0 out.1;
        all_shown = tt;
        written = read.written;
        wrote = read.wrote;
      }

  -- all was made
  all_ended : ended ≢ Err NoMemory → Gives fds plan calls start zero read.made (Ok tt) → HasStreamed fds plan start more first reader told before now ended (Ok kept) zero
  unfolding first_of
  all_ended there gives =
      let parted = read.parted there in
      let early = gives (Err run_errors.NoMemory) refl in
      let rises = falls_first read.placed read.later (lined (Err run_errors.NoMemory) early.0 early.1) in
      let few = read.few in
      let sorting = sorted_so alloc read.made read.placed read.refused read.opened (omega (arith, few)) parted.placed_are rises parted.refused_are parted.by_line parted.opened_are parted.open_by_line in
      let out = gives (Ok sorting.sorted) sorting.out in
      record {
        all = read.all;
        trace = read.trace;
        read = read.read;
        outcome = Ok sorting.sorted;
        ran = out.0;
        kept =
            subst (λ l. AreKept kept l (map refused_call sorting.sorted.refused.items) (map opened_call sorting.sorted.open_calls.items)) (sym sorting.placed_are)
            (subst (λ l. AreKept kept read.placed l (map opened_call sorting.sorted.open_calls.items)) (sym sorting.refused_are) (subst (AreKept kept read.placed read.refused) (sym sorting.opened_are) (read.kept_are there)));
        shown = read.placed;
        first_shown = first_of (Ok sorting.sorted) out.0 out.1;
        over = over_of (Ok sorting.sorted) out.0 out.1;
        all_shown = sym sorting.placed_are;
        written = read.written;
        wrote = read.wrote;
      }

  pub streamed : (ran : Result (Unit {0}) RunError) → (IsOk ran → ended ≢ Err NoMemory) → Gives fds plan calls start zero read.made ran → HasStreamed fds plan start more first reader told before now ended (kept_if ran kept) zero
  streamed (Ok done) there gives = all_ended (there refl) gives
  streamed (Err error) there gives = not_ended error gives

-- what went well said this
pub of_ok : {T E A : Type 0} (result : Result T E) → IsOk result → OnOk result A → A
of_ok (Ok done) fine all = all
of_ok (Err error) fine all = absurd (cc)

-- where memory was wanting nothing is told
pub none_told : {E : Type 0} (ran : Result (Unit {0}) RunError) (rounds : Result (Unit {0}) E) (ended : Result (Unit {0}) StreamError) (kept : KeptCalls) (told : Result KeptCalls RunError) → (IsOk ran → IsOk rounds) → OnOk rounds (ended ≢ Err NoMemory)
    → told ≡ kept_if ran kept → ended ≡ Err NoMemory → IsErr told
none_told (Ok done) rounds ended kept told brought all is wanting = absurd (of_ok rounds (brought refl) all wanting)
none_told (Err error) rounds ended kept told brought all is wanting = subst IsErr (sym is) refl
