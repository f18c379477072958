-- Shown lives: by the one history, and by why each call of a round that is over isn't shown.
use Rattle.std.proofs.Common.{◌≡◌, ℕ, ◌+◌, ◌^◌, ◌<◌, ◌≤◌, ◌==◌, ◌&&◌, ◌||◌, not, nat_lt, Bool, true, false, List, [], ◌∷◌, ◌++◌, length, map, inl, inr, refl, sym, ap, subst, ◌∙◌, arith}
use Rattle.std.specs.Prelude.{◌⊎◌, All, IsPermutation, Option, Some, None, is_some, Result}
use Rattle.std.proofs.lemmas.Bool.{lt-ltb, true≢false}
use Rattle.std.proofs.lemmas.List.{length-append}
use Rattle.std.proofs.lemmas.List.Sorted.{length_permutation}
use Rattle.std.proofs.lemmas.Slice.Zip.{AllZip-long}
use Rattle.nv_core.specs.state.Passes.{IsOneOf}
use Rattle.nv_core.specs.state.Words.{Sizes}
use Rattle.nv_table.specs.state.Opened.{Opened}
use Rattle.nv_table.specs.state.States.{PassState}
use Rattle.nv_mount.specs.RisenCounts.{SawStop}
use Rattle.nv_mount.specs.WholeRuns.{history_then}
use Rattle.nv_mount.specs.declared.fds.Fd.{Fd}
use Rattle.nv_mirror.specs.declared.answers.Refusal as mirror
use Rattle.nv_trace.specs.Shape.{IsCallWithin, IsWellFormed}
use Rattle.nv_trace.specs.Traced.{Traced}
use Rattle.nv_trace.specs.declared.trace_call.TracedCall.{TracedCall}
use Rattle.nv_runner.specs.declared.answer.Answer.{Answer}
use Rattle.nv_runner.specs.declared.answer.Answer.TheVariants.{Placed, Refused, Open}
use Rattle.nv_runner.specs.declared.plan.Plan.{Plan}
use Rattle.nv_runner.specs.declared.run_error.RunError.{RunError}
use Rattle.nv_runner.specs.declared.sorted.SortedCalls.{SortedCalls}
use Rattle.nv_runner.specs.EndedRuns.{HasOutcome, batch_of}
use Rattle.nv_runner.specs.Entries.{entries_of_calls, entries_taken}
use Rattle.nv_runner.specs.Faithful.{Basis, is_later, not_later}
use Rattle.nv_runner.specs.FaithfulRuns.{IsMountOf, shown_refusal}
use Rattle.nv_runner.specs.Histories.{AreAtPlaces, PlacedCall, StandsAs, placed_calls, placed_in_answer}
use Rattle.nv_runner.specs.KeptRounds.{AreRoundsOver, IsOfEarlierRound}
use Rattle.nv_runner.specs.Lists.{MadeCall}
use Rattle.nv_runner.specs.RunRefusals.{calls_that_drew}
use Rattle.nv_runner.specs.Runs.{entries_if}
use Rattle.nv_runner.specs.ShownLives.{RunsLeaveShownLives}
use Rattle.nv_runner.specs.Sorted.{placed_made}
use Rattle.nv_runner.specs.ToldRounds.{WasRefusedBehind}
use Rattle.nv_runner.proofs.CauseLaws.{StoodSo, entries_alike, is_allowed_so, is_shown}
use Rattle.nv_runner.proofs.LifeLaws.{left_by}
use Rattle.nv_runner.proofs.draws.DrawnSums.{drew_all, drew_before}
use Rattle.nv_runner.proofs.histories.HistoryMembers.{of_one, one_either, one_in_joined, one_mapped, one_moved, one_of_mapped}
use Rattle.nv_runner.proofs.histories.HistorySums.{added, added_append, added_mapped, added_moved, added_none}

-- ---- places

-- the first of some places
first_places : (from : ℕ) (first later : List PlacedCall) → AreAtPlaces from (first ++ later) → AreAtPlaces from first
first_places from [] later at = tt
first_places from (p ∷ first) later at = (at.0, first_places (from + 1) first later at.1)

-- no more have a place than were made
placed_few : (made : List MadeCall) → length (placed_calls made) ≤ length made
placed_few [] = omega arith
placed_few (m ∷ later) =
    let rest = placed_few later in
    let both = length-append (placed_in_answer m.call m.answer) (placed_calls later) in
    let one = one_few m.call m.answer in
    omega (arith, rest, both, one)
  where
    one_few : (call : TracedCall) (answer : Answer) → length (placed_in_answer call answer) ≤ 1
    one_few call (Placed place reply) = omega arith
    one_few call (Refused refusal) = omega arith
    one_few call (Open number) = omega arith

-- ---- what was drawn, where no call was left open

-- what a placed call drew, unless it comes later than this one
abbrev weight : Sizes → TracedCall → PlacedCall → ℕ
weight sizes call p = drew_before sizes call (placed_made p)

-- no call was left open
abbrev NoneOpen : List MadeCall → Type 0
NoneOpen made = (c : TracedCall) (number : ℕ) → IsOneOf made (record { call = c; answer = Open number }) → ⊥

module _ (sizes : Sizes) (call : TracedCall) where
  placed_weights : (made : List MadeCall) → NoneOpen made → added (drew_before sizes call) made ≡ added (weight sizes call) (placed_calls made)
  placed_weights [] none = refl
  placed_weights (m ∷ later) none =
      let rest = placed_weights later (λ c number one. none c number (inr one)) in
      let both = added_append (weight sizes call) (placed_in_answer m.call m.answer) (placed_calls later) in
      let here = one_weight m.call m.answer (λ number is. none m.call number (inl (ap (λ answer. record { call = m.call; answer = answer }) (sym is)))) in
      omega (arith, rest, both, here)
    where
      none_if : (b : Bool) → entries_if b 0 ≡ 0
      none_if true = refl
      none_if false = refl

      one_weight : (c : TracedCall) (answer : Answer) → ((number : ℕ) → answer ≡ Open number → ⊥) → drew_before sizes call (record { call = c; answer = answer }) ≡ added (weight sizes call) (placed_in_answer c answer)
      one_weight c (Placed place reply) none = omega arith
      one_weight c (Refused refusal) none = none_if (not (is_later call c))
      one_weight c (Open number) none = absurd (none number refl)

  drew_placed : (placed : List PlacedCall) → calls_that_drew (map placed_made placed) ≡ map (λ (p : PlacedCall). p.call) placed
  drew_placed [] = refl
  drew_placed (p ∷ placed) = ap (λ (l : List TracedCall). p.call ∷ l) (drew_placed placed)

  later_weight : (p : PlacedCall) → call.round < p.call.round → weight sizes call p ≡ 0
  later_weight p less =
      ap (λ b. entries_if (not ((p.call.thread == call.thread && nat_lt call.line p.call.line) || b)) (entries_taken sizes.page p.call.call)) (lt-ltb call.round p.call.round less) ∙ by (p.call.thread == call.thread && nat_lt call.line p.call.line)
    where
      by : (b : Bool) → entries_if (not (b || true)) (entries_taken sizes.page p.call.call) ≡ 0
      by true = refl
      by false = refl

  -- the calls that drew, and don't come later than this one, are among those that were shown
  shown_drew : (made : List MadeCall) (shown later : List PlacedCall) → NoneOpen made → IsPermutation (placed_calls made) (shown ++ later) → ((p : PlacedCall) → IsOneOf later p → call.round < p.call.round)
      → entries_of_calls sizes.page (not_later call (calls_that_drew made)) ≡ entries_of_calls sizes.page (not_later call (map (λ (p : PlacedCall). p.call) shown))
  shown_drew made shown later none moved behind =
      let all = drew_all sizes call made in
      let placed = placed_weights made none in
      let same = added_moved (weight sizes call) (placed_calls made) (shown ++ later) moved in
      let parts = added_append (weight sizes call) shown later in
      let nothing = added_none (weight sizes call) later (λ p one. later_weight p (behind p one)) in
      let ones = added_mapped (drew_before sizes call) placed_made shown in
      let theirs = drew_all sizes call (map placed_made shown) ∙ ap (λ (l : List TracedCall). entries_of_calls sizes.page (not_later call l)) (drew_placed shown) in
      omega (arith, all, placed, same, parts, nothing, ones, theirs)

-- ---- rounds that are over

-- what an option has
some_of : {X : Type 0} (option : Option X) → is_some option ≡ true → (x : X) × (option ≡ Some x)
some_of None some = absurd (true≢false (sym some))
some_of (Some x) some = (x, refl)

module _ (basis : Basis) (trace : Traced) (fds : List Fd) (plan : Plan) (start zero : PassState) (outcome : Result SortedCalls RunError) (shown later : List PlacedCall)
    (formed : IsWellFormed trace) (there : IsMountOf basis trace zero.view.opened fds) (out : HasOutcome fds plan trace.calls start outcome zero) (moved : IsPermutation (placed_calls out.made) (shown ++ later))
    (few : length (history_then zero.view) < 2 ^ 60) (over : AreRoundsOver trace.calls out.made later) (unfailed : SawStop zero.view → ⊥) where
  behind : (call : TracedCall) → IsOfEarlierRound trace.calls call → (p : PlacedCall) → IsOneOf later p → call.round < p.call.round
  behind call earlier p one =
      let other = earlier.1.0 in
      let less = earlier.1.2 in
      let most = of_one (λ (c : TracedCall). c.round ≤ p.call.round) trace.calls other (of_one (λ (q : PlacedCall). All (λ (c : TracedCall). c.round ≤ q.call.round) trace.calls) later p over.late one) earlier.1.1 in
      omega (arith, less, most)

  refused_so : (call : TracedCall) (refusal : mirror.Refusal) → IsOneOf out.made (record { call = call; answer = Refused refusal }) → IsOfEarlierRound trace.calls call → WasRefusedBehind plan.worker basis trace shown call
  refused_so call refusal one earlier =
      let told = out.causes call refusal one in
      let drew = map (λ (p : PlacedCall). p.call) shown in
      let head = told.head in
      let order = told.order in
      let next = there.next in
      let drawn = shown_drew zero.view.opened.sizes call out.made shown later (λ c number one. unfailed (out.open_stopped c number one).0) moved (behind call earlier) ∙ entries_alike basis trace zero.view.opened fds there (not_later call drew) in
      let stood : StoodSo ⊥ basis (batch_of plan) drew call told.now = record {
        stopped = λ seen. unfailed (told.seen seen);
        order = omega (arith, order, few);
        head = omega (arith, head, next, drawn);
        tail = λ none. told.tail none tt ∙ sym next;
      } in
      let within : IsCallWithin (length trace.descriptors) call.call = of_one (λ (c : TracedCall). IsCallWithin (length trace.descriptors) c.call) trace.calls call formed.calls earlier.0 in
      let found = some_of (shown_refusal refusal) (is_shown ⊥ basis trace zero.view.opened fds there plan drew call told.now told.opened stood refusal told.cause) in
      (found.0, is_allowed_so ⊥ basis trace zero.view.opened fds there plan drew call told.now told.opened within stood refusal found.0 found.1 told.cause)

  one_told : (call : TracedCall) (answer : Answer) → IsOneOf out.made (record { call = call; answer = answer }) → IsOfEarlierRound trace.calls call
      → IsOneOf (map (λ (p : PlacedCall). p.call) shown) call ⊎ WasRefusedBehind plan.worker basis trace shown call
  one_told call (Placed place reply) one earlier =
      let p : PlacedCall = record { place = place; call = call; reply = reply } in
      let here = one_moved (placed_calls out.made) (shown ++ later) p moved (one_in_joined (λ (m : MadeCall). placed_in_answer m.call m.answer) out.made (record { call = call; answer = Placed place reply }) p one (inl refl)) in
      elim (one_either shown later p here) [
        | inl first ↦ inl (one_mapped (λ (q : PlacedCall). q.call) shown p first)
        | inr last ↦ absurd (let less = behind call earlier p last in omega (arith, less))
      ]
  one_told call (Refused refusal) one earlier = inr (refused_so call refusal one earlier)
  one_told call (Open number) one earlier = absurd (unfailed (out.open_stopped call number one).0)

  all_told : (call : TracedCall) → IsOfEarlierRound trace.calls call → IsOneOf (map (λ (p : PlacedCall). p.call) shown) call ⊎ WasRefusedBehind plan.worker basis trace shown call
  all_told call earlier =
      let from = one_of_mapped (λ (m : MadeCall). m.call) out.made call (over.all_made call earlier) in
      subst (λ c. IsOfEarlierRound trace.calls c → IsOneOf (map (λ (p : PlacedCall). p.call) shown) c ⊎ WasRefusedBehind plan.worker basis trace shown c) from.2 (one_told from.0.call from.0.answer from.1) earlier

-- ---- a run

pub runs_leave_shown_lives : RunsLeaveShownLives
runs_leave_shown_lives basis trace fds plan start ended outcome shown part_values store_values parts stores faults count tail formed lines is region new out first closed =
    let left = left_by basis trace fds plan start ended outcome part_values store_values parts stores faults count tail formed lines is region new out closed (shown ++ first.later) first.all first.by_place in
    let there = subst (λ (o : Opened). IsMountOf basis trace o fds) (sym out.run_out.mount) is in (
      first_places 0 shown first.later left.are.places,
      record { later = first.later; is = left.is; images = left.images },
      λ few over.
          let long = AllZip-long (StandsAs fds) (shown ++ first.later) (history_then ended.view) left.are.each in
          let placed = length_permutation (placed_calls out.made) (shown ++ first.later) first.all in
          let most = placed_few out.made in
          let made = over.few in
          record {
            late = over.late;
            told = λ unfailed. all_told basis trace fds plan start ended outcome shown first.later formed there out first.all (omega (arith, few, long, placed, most, made)) over unfailed;
          },
    )
