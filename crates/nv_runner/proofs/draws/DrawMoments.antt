-- Draw moments: the first part of a run behind which a call drew its numbers.
use Rattle.std.proofs.Common.{◌≡◌, ℕ, ◌+◌, ◌<◌, ◌≤◌, ◌==◌, nat_lt, true, List, [], ◌∷◌, ◌++◌, length, inl, inr, refl, sym, ap, subst, ◌∙◌, arith, append-nil, append_assoc, length-append}
use Rattle.std.specs.Prelude.{Option}
use Rattle.std.proofs.lemmas.Bool.{cases_lt, eqb-true, ltb-true, true≢false}
use Rattle.nv_plain.specs.Histories.{Answered}
use Rattle.std.specs.List.{concat}
use Rattle.nv_plain.specs.Pieces.{pages_touched}
use Rattle.nv_plain.specs.declared.call.FileCall.{FileCall}
use Rattle.nv_core.specs.state.Passes.{Pass, is_write, plain_call}
use Rattle.nv_core.specs.state.Words.{Sizes, HEAD}
use Rattle.nv_core.specs.state.Core.{Core}
use Rattle.nv_core.specs.steps.Events.{Event, IsRun, after_event, after_run}
use Rattle.nv_core.specs.steps.Opening.{IsMount, opening}
use Rattle.nv_core.specs.invariant.Draws.{drawn_of, entries_of, placed_entries}
use Rattle.nv_core.specs.invariant.OneHistory.{IsPrefix}
use Rattle.nv_core.proofs.state.Choices.{if_both}
use Rattle.nv_core.proofs.steps.RunLaws.{after_parts, run_parts}
use Rattle.nv_core.proofs.invariant.HistoryLaws.{begins_all}
use Rattle.nv_table.specs.state.Opened.{Opened, IsRunOf, mount_of, state_of}
use Rattle.nv_table.specs.state.States.{PassState}
use Rattle.nv_table.specs.state.Views.{pass_of}
use Rattle.nv_mount.specs.declared.fds.Fd.{Fd}
use Rattle.nv_calls.specs.histories.Faults.{OpenWrite, open_in, open_writes}
use Rattle.nv_trace.specs.declared.trace_call.TraceCall.{TraceCall}
use Rattle.nv_trace.specs.declared.trace_call.TraceCall.TheVariants.{Pread, Pwrite, Preadv, Pwritev, Fsync}
use Rattle.nv_runner.specs.Entries.{entries_taken}
use Rattle.nv_runner.specs.declared.answer.Answer.{Answer}
use Rattle.nv_runner.specs.declared.answer.Answer.TheVariants.{Placed, Refused, Open}
use Rattle.nv_runner.specs.Calls.{IsAnswered, call_on, opened_on}
use Rattle.nv_runner.specs.Runs.{entries_drawn, has_drawn}
use Rattle.nv_runner.proofs.draws.DrawRuns.{DrawsAt, draws_at}
use Rattle.nv_runner.proofs.draws.DrawSteps.{ended_calls, ended_entries, opened_entries}
use Rattle.nv_runner.proofs.PassLaws.{shorter_begins}
use Rattle.nv_runner.proofs.RefusalWords.{WordLaws}
use Rattle.nv_runner.proofs.ShiftRuns.{DrawnLaws, drawn, drawn_less}

-- ---- the entries of a call

call_takes : (sizes : Sizes) (call : TraceCall) (file : ℕ) → entries_of sizes (plain_call (call_on call file)) ≡ entries_taken sizes.page call
call_takes sizes (Pread fd at len) file = refl
call_takes sizes (Pwrite fd at bytes) file = refl
call_takes sizes (Preadv fd at lens) file = refl
call_takes sizes (Pwritev fd at parts) file = refl
call_takes sizes (Fsync fd) file = refl

-- a write of some bytes takes one
some_taken : (sizes : Sizes) (at len : ℕ) → nat_lt 0 len ≡ true → 1 ≤ pages_touched at len sizes.page
some_taken sizes at len some =
    if_both (λ n. 1 ≤ n) (len == 0) 0 _ (λ is. absurd (let more = ltb-true 0 len some in let none = eqb-zero len is in omega (arith, more, none))) (λ _. omega arith)
  where
    eqb-zero : (n : ℕ) → (n == 0) ≡ true → n ≡ 0
    eqb-zero n is = eqb-true n 0 is

takes_some : (sizes : Sizes) (call : TraceCall) (file : ℕ) → is_write (plain_call (call_on call file)) ≡ true → 1 ≤ entries_taken sizes.page call
takes_some sizes (Pread fd at len) file write = absurd (true≢false (sym write))
takes_some sizes (Pwrite fd at bytes) file write = some_taken sizes at (length bytes) write
takes_some sizes (Preadv fd at lens) file write = absurd (true≢false (sym write))
takes_some sizes (Pwritev fd at parts) file write = some_taken sizes at (length (concat parts)) write
takes_some sizes (Fsync fd) file write = absurd (true≢false (sym write))

placed_more : (sizes : Sizes) (calls : List Answered) (one : Answered) → placed_entries sizes (calls ++ one ∷ []) ≡ placed_entries sizes calls + entries_of sizes (plain_call one.call)
placed_more sizes [] one = omega arith
placed_more sizes (first ∷ rest) one = let again = placed_more sizes rest one in omega (arith, again)

-- ---- what a call adds to what its pass has ended

-- It has ended one call more where it drew, and what that drew.
pub record Adds (sizes : Sizes) (call : TraceCall) (answer : Answer) (old now : Pass) : Type 0 where
  pub entries : ended_entries sizes now ≡ ended_entries sizes old + entries_drawn sizes call answer
  pub more : has_drawn answer ≡ true → ended_calls now ≡ ended_calls old + 1
  pub opened : (number : ℕ) → answer ≡ Open number → (1 ≤ entries_taken sizes.page call) × ((write : FileCall) × (open_in now.faulted ≡ record { call = write; first = number } ∷ open_in old.faulted))

adds : (fds : List Fd) (worker : Option ℕ) (call : TraceCall) (start now : PassState) (answer : Answer) → IsAnswered fds worker call start now answer
    → Adds now.view.opened.sizes call answer (pass_of start.view) (pass_of now.view)
adds fds worker call start now (Placed place reply) is =
    let sizes = now.view.opened.sizes in
    let old = pass_of start.view in
    let new = pass_of now.view in
    let mine = is.told.2.mine in
    let one : Answered = record { caller = start.view.number; call = call_on call is.told.0; reply = reply } in
    let long : length new.mine ≡ length (old.mine ++ one ∷ []) = ap (λ l. length l) mine in
    let joined = length-append old.mine (one ∷ []) in
    let opens : open_in new.faulted ≡ open_in old.faulted = is.opens in
    let opened = ap (λ l. length l) opens in
    let entries = ap (opened_entries sizes) opens in
    let placed : placed_entries sizes new.mine ≡ placed_entries sizes old.mine + entries_of sizes (plain_call one.call) = ap (placed_entries sizes) mine ∙ placed_more sizes old.mine one in
    let takes = call_takes sizes call is.told.0 in
    record { entries = omega (arith, placed, entries, takes); more = λ _. omega (arith, long, joined, opened); opened = λ number e. absurd (cc) }
adds fds worker call start now (Refused refusal) is =
    let sizes = now.view.opened.sizes in
    let mine = ap (placed_entries sizes) is.told.kept.mine in
    let entries = ap (opened_entries sizes) is.opens in
    record { entries = omega (arith, mine, entries); more = λ e. absurd (true≢false (sym e)); opened = λ number e. absurd (cc) }
adds fds worker call start now (Open number) is =
    let sizes = now.view.opened.sizes in
    let old = pass_of start.view in
    let new = pass_of now.view in
    let mine : new.mine ≡ old.mine = is.told.kept.mine in
    let placed = ap (placed_entries sizes) mine in
    let placed_too = ap (λ l. length l) mine in
    let one : OpenWrite = record { call = plain_call (call_on call is.told.file); first = number } in
    let opens : open_in new.faulted ≡ one ∷ open_in old.faulted = is.opens ∙ ap (λ file. opened_on file call number ++ open_writes start) is.told.file_is in
    let opened = ap (λ l. length l) opens in
    let entries : opened_entries sizes (open_in new.faulted) ≡ entries_of sizes one.call + opened_entries sizes (open_in old.faulted) = ap (opened_entries sizes) opens in
    let takes = call_takes sizes call is.told.file in
    record {
      entries = omega (arith, placed, entries, takes);
      more = λ _. omega (arith, placed_too, opened);
      opened = λ other e. (takes_some sizes call is.told.file is.told.write, (one.call, subst (λ n. open_in new.faulted ≡ record { call = one.call; first = n } ∷ open_in old.faulted) (same number other e) opens));
    }
  where
    same : (a b : ℕ) → ◌≡◌ {A = Answer} (Open a) (Open b) → a ≡ b
    same a b e = cc

-- ---- in a run

module _ (words : WordLaws) (draws : DrawnLaws) (opened : Opened) (mount : IsMount (mount_of opened)) (all : List Event) (is_run : IsRunOf opened all) where
  abbrev pub sizes : Sizes
  sizes = opened.sizes

  abbrev pub drawn_at : (number : ℕ) → (run : List Event) → ℕ
  drawn_at number run = drawn draws opened mount number run

  abbrev pub head_at : List Event → ℕ
  head_at run = (state_of opened run).words HEAD

  abbrev pub pass_at : (number : ℕ) → (run : List Event) → Pass
  pass_at number run = (state_of opened run).passes number

  -- of two first parts of the run the longer one has no less
  pub part_less : (number : ℕ) (one other : List Event) → IsPrefix one all → IsPrefix other all → length one ≤ length other → drawn_at number one ≤ drawn_at number other
  part_less number one other begins begins_other short =
      drawn_less draws opened mount number one other (shorter_begins one other all begins begins_other short)
      (run_parts opened.sizes (opening (mount_of opened)) other begins_other.0 (subst (IsRunOf opened) begins_other.1 is_run)).0

  -- From one first part on to another a pass makes a call, which is answered so. It drew between: behind this one it had drawn nothing of the call, and one event later all of it; HEAD was the number that an open one tells.
  pub record Moment (number : ℕ) (from to : List Event) (call : TraceCall) (answer : Answer) : Type 0 where
    pub run : List Event
    pub lies : IsPrefix run all
    pub least : length from ≤ length run
    pub most : has_drawn answer ≡ true → length run < length to
    pub low : (other : List Event) → IsPrefix other all → length other ≤ length run → drawn_at number other ≤ drawn_at number from
    pub high : (other : List Event) → IsPrefix other all → length run < length other → drawn_at number to ≤ drawn_at number other
    pub told : (found : ℕ) → answer ≡ Open found
        → (found ≡ head_at run) × ((next : List Event) × IsPrefix next all × (length next ≡ length run + 1) × (head_at next ≡ found + entries_taken sizes.page call))

  -- all that a pass has drawn its ended calls have
  abbrev pub IsBare : (number : ℕ) → (run : List Event) → Type 0
  IsBare number run = ended_entries sizes (pass_at number run) ≡ drawn_at number run

  module _ (number : ℕ) (from more to : List Event) (goes_on : to ≡ from ++ more) (lies : IsPrefix to all) (call : TraceCall) (answer : Answer)
      (adds_so : Adds sizes call answer (pass_at number from) (pass_at number to)) (drew : drawn_at number to ≡ drawn_at number from + entries_drawn sizes call answer) (bare : IsBare number from) where
    bare_then : IsBare number to
    bare_then = let entries = adds_so.entries in omega (arith, entries, drew, bare)

    begins : IsPrefix from all
    begins = begins_all from to all (more, goes_on) lies

    long : length to ≡ length from + length more
    long = ap (λ l. length l) goes_on ∙ length-append from more

    -- an event came where one more call is ended
    some_came : has_drawn answer ≡ true → length from < length to
    some_came drawn_so = go more goes_on
      where
        go : (rest : List Event) → to ≡ from ++ rest → length from < length to
        go [] is =
            let same : to ≡ from = is ∙ append-nil from in
            let one = adds_so.more drawn_so in
            let still = ap (λ r. ended_calls (pass_at number r)) same in
            absurd (omega (arith, one, still))
        go (event ∷ rest) is = let joined = length-append from (event ∷ rest) in let longer = ap (λ l. length l) is in omega (arith, joined, longer)

    -- a call that takes no entry draws nothing at any time
    idle_moment : entries_drawn sizes call answer ≡ 0 → ((found : ℕ) → answer ≡ Open found → ⊥) → Moment number from to call answer
    idle_moment none placed = record {
      run = from;
      lies = begins;
      least = omega arith;
      most = some_came;
      low = λ other other_lies short. part_less number other from other_lies begins short;
      high = λ other other_lies longer. let less = part_less number from other begins other_lies (omega (arith, longer)) in omega (arith, less, drew, none);
      told = λ found is. absurd (placed found is);
    }

    -- one that takes some does so at one event
    drawing_moment : has_drawn answer ≡ true → 1 ≤ entries_drawn sizes call answer → Moment number from to call answer
    drawing_moment drawn_so some = record {
      run = at;
      lies = begins_all at next all (at_event ∷ [], refl) next_lies;
      least = let joined = length-append from found.before in omega (arith, joined);
      most = λ _. let short = next_short in let one = next_long in omega (arith, short, one);
      low = λ other other_lies short.
          let less = part_less number other at other_lies (begins_all at next all (at_event ∷ [], refl) next_lies) short in
          let old = found.old in
          let same = ap (λ (c : Core). drawn_of sizes (c.passes number)) at_is in
          omega (arith, less, old, same);
      high = λ other other_lies longer.
          let one = next_long in
          let less = part_less number next other next_lies other_lies (omega (arith, longer, one)) in
          let now = found.now in
          let same = ap (λ (c : Core). drawn_of sizes (c.passes number)) next_is in
          let there = ap (λ (c : Core). drawn_of sizes (c.passes number)) to_is in
          omega (arith, less, now, same, there);
      told = told_so;
    }
      where
        start : Core
        start = state_of opened from

        last : Core
        last = after_run sizes start more

        to_is : state_of opened to ≡ last
        to_is = ap (state_of opened) goes_on ∙ after_parts sizes (opening (mount_of opened)) from more

        parts : IsRun sizes (opening (mount_of opened)) from × IsRun sizes start more
        parts = run_parts sizes (opening (mount_of opened)) from more (subst (IsRunOf opened) goes_on (run_parts sizes (opening (mount_of opened)) to lies.0 (subst (IsRunOf opened) lies.1 is_run)).0)

        found : DrawsAt words.keep sizes (mount_of opened).values number start more
        found =
            let one = adds_so.more drawn_so in
            let ended = ap (λ (c : Core). ended_calls (c.passes number)) to_is in
            let settled = ap (λ (c : Core). ended_entries sizes (c.passes number)) to_is in
            let there = ap (λ (c : Core). drawn_of sizes (c.passes number)) to_is in
            let then_ = bare_then in
            draws_at words.keep sizes (mount_of opened).values number start more record { sound = words.sound (mount_of opened) from mount parts.0; run = parts.1 } bare (omega (arith, one, ended)) (omega (arith, settled, there, then_))
            (omega (arith, there, drew, some))

        at_event : Event
        at_event = found.event

        at : List Event
        at = from ++ found.before

        next : List Event
        next = at ++ at_event ∷ []

        next_long : length next ≡ length at + 1
        next_long = length-append at (at_event ∷ [])

        to_parts : to ≡ next ++ found.after
        to_parts =
            goes_on ∙ ap (λ l. from ++ l) found.are ∙ sym (append_assoc from found.before (at_event ∷ found.after)) ∙ sym (append_assoc at (at_event ∷ []) found.after)

        next_lies : IsPrefix next all
        next_lies = begins_all next to all (found.after, to_parts) lies

        next_short : length next ≤ length to
        next_short = let whole = ap (λ l. length l) to_parts in let joined = length-append next found.after in omega (arith, whole, joined)

        at_is : state_of opened at ≡ after_run sizes start found.before
        at_is = after_parts sizes (opening (mount_of opened)) from found.before

        next_is : state_of opened next ≡ after_event sizes at_event (after_run sizes start found.before)
        next_is = after_parts sizes (opening (mount_of opened)) at (at_event ∷ []) ∙ ap (after_event sizes at_event) at_is

        first_same : (one other : OpenWrite) (rest before : List OpenWrite) → one ∷ rest ≡ other ∷ before → one.first ≡ other.first
        first_same one other rest before is = let same : one ≡ other = cc in ap (λ (w : OpenWrite). w.first) same

        told_so : (told : ℕ) → answer ≡ Open told
            → (told ≡ head_at at) × ((after : List Event) × IsPrefix after all × (length after ≡ length at + 1) × (head_at after ≡ told + entries_taken sizes.page call))
        told_so told is =
            let opens = adds_so.opened told is in
            let now : open_in (last.passes number).faulted ≡ record { call = opens.1.0; first = told } ∷ open_in (start.passes number).faulted =
            ap (λ (c : Core). open_in (c.passes number).faulted) (sym to_is) ∙ opens.1.1 in
            let before : List OpenWrite = open_in (start.passes number).faulted in
            let first : told ≡ head_at at = elim found.opened [
              | inl same ↦ absurd (let a = ap (λ (l : List OpenWrite). length l) now in let b = ap (λ (l : List OpenWrite). length l) same in omega (arith, a, b))
              | inr more ↦ first_same record { call = opens.1.0; first = told } record { call = more.0; first = (after_run sizes start found.before).words HEAD } before before (sym now ∙ more.1)
                  ∙ sym (ap (λ (c : Core). c.words HEAD) at_is)
            ] in
            let head = found.head in
            let at_head = ap (λ (c : Core). c.words HEAD) at_is in
            let next_head = ap (λ (c : Core). c.words HEAD) next_is in
            let there = ap (λ (c : Core). drawn_of sizes (c.passes number)) to_is in
            let entries : entries_drawn sizes call answer ≡ entries_taken sizes.page call = ap (entries_drawn sizes call) is in
            (first, (next, next_lies, next_long, omega (arith, first, head, at_head, next_head, there, drew, entries)))

    -- so it is of each call
    pub moment : Moment number from to call answer
    moment = elim (cases_lt 0 (entries_drawn sizes call answer)) [
      | inl some ↦ drawing_moment (drew_some answer some) some
      | inr none ↦ idle_moment (omega (arith, none))
          (λ found is. (let some = (adds_so.opened found is).0 in let entries : entries_drawn sizes call answer ≡ entries_taken sizes.page call = ap (entries_drawn sizes call) is in omega (arith, none, some, entries)))
    ]
      where
        drew_some : (a : Answer) → 0 < entries_drawn sizes call a → has_drawn a ≡ true
        drew_some (Placed place reply) some = refl
        drew_some (Refused refusal) some = absurd (omega (arith, some))
        drew_some (Open found) some = refl

  -- ---- a call that a pass of the run made

  -- as the pass stands in the run
  pub stands_at : (number : ℕ) (pass : PassState) → pass.view.opened ≡ opened → pass.view.number ≡ number → pass_of pass.view ≡ pass_at number pass.view.run
  stands_at number pass same is = ap (λ (o : Opened). (state_of o pass.view.run).passes pass.view.number) same ∙ ap (λ n. pass_at n pass.view.run) is

  -- its moment, and that all it had drawn is ended behind it
  pub record IsTimed (number : ℕ) (old now : PassState) (call : TraceCall) (answer : Answer) : Type 0 where
    pub moment : Moment number old.view.run now.view.run call answer
    pub bare : IsBare number now.view.run
    pub drew : drawn_at number now.view.run ≡ drawn_at number old.view.run + entries_drawn sizes call answer

  pub timed : (fds : List Fd) (worker : Option ℕ) (number : ℕ) (call : TraceCall) (old now : PassState) (answer : Answer) → IsAnswered fds worker call old now answer → old.view.opened ≡ opened → old.view.number ≡ number
      → IsPrefix now.view.run all → IsBare number old.view.run → IsTimed number old now call answer
  timed fds worker number call old now answer is same number_is lies bare =
      let now_same : now.view.opened ≡ opened = is.opened ∙ same in
      let now_number : now.view.number ≡ number = is.later.number ∙ number_is in
      let old_at = stands_at number old same number_is in
      let now_at = stands_at number now now_same now_number in
      let From : Sizes → Pass → Pass → Type 0 = λ s one other. Adds s call answer one other in
      let adds_so : Adds sizes call answer (pass_at number old.view.run) (pass_at number now.view.run) =
      subst (λ p. From sizes (pass_at number old.view.run) p) now_at (subst (λ p. From sizes p (pass_of now.view)) old_at (subst (λ (o : Opened). From o.sizes (pass_of old.view) (pass_of now.view)) now_same (adds fds worker call old now answer is))) in
      let drew_then = is.on.drawn in
      let a : drawn_of now.view.opened.sizes (pass_of now.view) ≡ drawn_at number now.view.run = ap (λ (o : Opened). drawn_of o.sizes (pass_of now.view)) now_same ∙ ap (drawn_of sizes) now_at in
      let b : drawn_of old.view.opened.sizes (pass_of old.view) ≡ drawn_at number old.view.run = ap (λ (o : Opened). drawn_of o.sizes (pass_of old.view)) same ∙ ap (drawn_of sizes) old_at in
      let c = ap (λ (o : Opened). entries_drawn o.sizes call answer) now_same in
      let drew : drawn_at number now.view.run ≡ drawn_at number old.view.run + entries_drawn sizes call answer = omega (arith, drew_then, a, b, c) in
      record {
        moment = moment number old.view.run is.on.more now.view.run is.on.run lies call answer adds_so drew bare;
        bare = bare_then number old.view.run is.on.more now.view.run is.on.run lies call answer adds_so drew bare;
        drew = drew;
      }
