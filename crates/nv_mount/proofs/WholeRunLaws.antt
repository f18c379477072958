-- Laws about the run of a mount that is closed: what pass 0 has seen is all of it, but that it puts back what its cells keep.
use Rattle.std.proofs.Common.{◌≡◌, ◌≢◌, ℕ, zero, suc, ◌+◌, ◌<◌, ◌≤◌, if◌then◌else◌, List, [], ◌∷◌, ◌++◌, length, get_or, map, inl, inr, refl, sym, ap, subst, ◌∙◌, arith, eq-eqb, append-nil, append_assoc}
use Rattle.std.proofs.lemmas.Bool.{cases_eq, cases_lt}
use Rattle.std.proofs.lemmas.List.{length-map}
use Rattle.nv_plain.specs.Histories.{Answered}
use Rattle.nv_core.specs.state.Words.{Word, TAIL, STORE}
use Rattle.nv_core.specs.state.Values.{Value, Bare}
use Rattle.nv_core.specs.state.Passes.{IsOneOf}
use Rattle.nv_core.specs.state.Core.{Core}
use Rattle.nv_core.specs.steps.Events.{Event, TakesStep, IsRun, after_event, own}
use Rattle.nv_core.specs.steps.Frames.{OwnEventsTell}
use Rattle.nv_core.specs.steps.Opening.{IsMount, opening}
use Rattle.nv_core.specs.steps.Ops.{PutBack}
use Rattle.nv_core.specs.steps.Order.{Values}
use Rattle.nv_core.specs.invariant.InvariantLaws.{RunsAreSound}
use Rattle.nv_core.proofs.steps.RunLaws.{run_parts, after_parts}
use Rattle.nv_table.specs.ends.Closing.{IsClosed}
use Rattle.nv_table.specs.invariant.BetweenSteps.{KnowsTaken}
use Rattle.nv_table.specs.passes.PassesMade.{PutsBack}
use Rattle.nv_table.specs.state.Layout.{cell_of}
use Rattle.nv_table.specs.state.Opened.{Opened, mount_of, IsRunOf, state_of}
use Rattle.nv_table.specs.state.SlotValues.{slot_value}
use Rattle.nv_table.specs.state.States.{BoardState, PassState, IsOf}
use Rattle.nv_table.specs.state.Views.{Past, PassView, SeesAll, past_pass, made_of, ended_of, numbers, values_of}
use Rattle.nv_table.proofs.ends.ClosedLaws.{part_kept, store_kept}
use Rattle.nv_table.proofs.invariant.Going.{own_else, told_of}
use Rattle.nv_table.proofs.passes.BetweenLaws.{puts_number, puts_opened, distinct_run}
use Rattle.nv_table.proofs.state.Counting.{all_there}
use Rattle.nv_table.proofs.state.ViewLaws.{made_on, own_none}
use Rattle.nv_mount.specs.WholeRuns.{IsWholeRun}

-- ---- nobody else has an event

-- every pass but pass 0 was taken in
abbrev AllAreTaken : Core → Type 0
AllAreTaken core = (number : ℕ) → 1 ≤ number → number ≤ core.made → IsOneOf core.ended number

-- then only pass 0 may go on
only_first : (opened : Opened) (by : ℕ) (run more : List Event) → by ≡ 0 → AllAreTaken (state_of opened run) → IsRunOf opened more → SeesAll by run more → more ≡ run
only_first opened by run more first all is_run sees =
    let parts = run_parts opened.sizes (opening (mount_of opened)) run sees.rest (subst (IsRunOf opened) sees.goes_on is_run) in
    sees.goes_on ∙ ap (λ rest. run ++ rest) (none sees.rest parts.1 (subst (λ n. own n sees.rest ≡ []) first sees.quiet)) ∙ append-nil run
  where
    not_empty : (event : Event) (more : List Event) → event ∷ more ≡ [] → ⊥
    not_empty event more e = let n = ap length e in omega (arith, n)

    none : (rest : List Event) → IsRun opened.sizes (state_of opened run) rest → own 0 rest ≡ [] → rest ≡ []
    none [] is quiet = refl
    none (event ∷ later) is quiet = elim (cases_eq event.by 0) [
      | inl e ↦ absurd (not_empty event (own 0 later) (sym (ap (λ b. if b then event ∷ own 0 later else own 0 later) (eq-eqb event.by 0 e)) ∙ quiet))
      | inr ne ↦ absurd (is.0.there (all event.by (omega (arith, ne)) is.0.made))
    ]

-- a pass that isn't made has none
unborn_quiet : (opened : Opened) (number : ℕ) (run more : List Event) → IsRun opened.sizes (state_of opened run) more → (state_of opened (run ++ more)).made < number → own number more ≡ []
unborn_quiet opened number run [] is high = refl
unborn_quiet opened number run (event ∷ later) is high =
    let low = is.0.made in
    let grows = made_on opened run (event ∷ later) in
    own_none number (event ∷ []) later (own_else number event (λ e. omega (arith, low, grows, high, e)))
    (unborn_quiet opened number (run ++ event ∷ []) later
    (subst (λ c. IsRun opened.sizes c later) (sym (after_parts opened.sizes (opening (mount_of opened)) run (event ∷ []))) is.1)
    (subst (λ l. (state_of opened l).made < number) (sym (append_assoc run (event ∷ []) later)) high))

-- ---- what is put back stays as it is

-- a state that differs from another in what a pass has put back alone
record StaysPut (core next : Core) : Type 0 where
  pub values : next.values ≡ core.values
  pub tail : next.words TAIL ≡ core.words TAIL
  pub history : next.history ≡ core.history
  pub made : next.made ≡ core.made
  pub ended : next.ended ≡ core.ended

put_on : (core middle next : Core) → StaysPut core middle → StaysPut middle next → StaysPut core next
put_on core middle next one other = record {
  values = other.values ∙ one.values;
  tail = other.tail ∙ one.tail;
  history = other.history ∙ one.history;
  made = other.made ∙ one.made;
  ended = other.ended ∙ one.ended;
}

still_taken : (core next : Core) → StaysPut core next → AllAreTaken core → AllAreTaken next
still_taken core next put all number some within =
    subst (λ ns. IsOneOf ns number) (sym put.ended) (all number some (subst (λ n. number ≤ n) put.made within))

puts_only : (cells : List (Word × ℕ)) (old new : PassView) → PutsBack cells old new → old.number ≡ 0 → AllAreTaken (state_of old.opened old.run) → StaysPut (state_of old.opened old.run) (state_of old.opened new.run)
puts_only [] old new back first all = subst (λ (v : PassView). StaysPut (state_of old.opened old.run) (state_of old.opened v.run)) (sym back) record { values = refl; tail = refl; history = refl; made = refl; ended = refl }
puts_only (one ∷ others) old new back first all =
    let tells = back.1 in
    let event : Event = record { by = old.number; act = TakesStep (PutBack one.0) one.1 } in
    let core : Core = state_of old.opened old.run in
    let parts = run_parts old.opened.sizes (opening (mount_of old.opened)) tells.run (event ∷ []) tells.is_run in
    let same = only_first old.opened old.number old.run tells.run first all parts.0 tells.knew.all in
    let opened_is : back.0.opened ≡ old.opened = ap (λ (v : PassView). v.opened) tells.is in
    let next : state_of old.opened back.0.run ≡ after_event old.opened.sizes event core =
    ap (λ (v : PassView). state_of old.opened v.run) tells.is ∙ after_parts old.opened.sizes (opening (mount_of old.opened)) tells.run (event ∷ [])
    ∙ ap (λ run. after_event old.opened.sizes event (state_of old.opened run)) same in
    let put : StaysPut core (state_of old.opened back.0.run) =
    subst (StaysPut core) (sym next) record { values = refl; tail = refl; history = append-nil core.history; made = refl; ended = refl } in
    put_on core (state_of old.opened back.0.run) (state_of old.opened new.run) put
    (subst (λ o. StaysPut (state_of o back.0.run) (state_of o new.run)) opened_is
    (puts_only others back.0 new back.2 (ap (λ (v : PassView). v.number) tells.is ∙ first)
    (subst (λ o. AllAreTaken (state_of o back.0.run)) (sym opened_is) (still_taken core (state_of old.opened back.0.run) put all))))

-- ---- pass 0, which has taken in all others

-- a number among those of some passes is that of one of them
numbered : (pasts : List Past) (number : ℕ) → IsOneOf (numbers pasts) number → (past : Past) × IsOneOf pasts past × (past.number ≡ number)
numbered [] number one = absurd one
numbered (past ∷ pasts) number (inl is) = (past, inl refl, sym is)
numbered (past ∷ pasts) number (inr later) = let found = numbered pasts number later in (found.0, inr found.1, found.2)

-- an element of a list, and what it shows
pub there : {X Y Z : Type 0} (shows : X → Y) (tells : X → Z) (y : Y) (z : Z) (xs : List X) (i : ℕ) → i < length xs
    → (one : X) × ((none : X) → get_or xs i none ≡ one) × (get_or (map shows xs) i y ≡ shows one) × (get_or (map tells xs) i z ≡ tells one)
there shows tells y z [] i less = absurd (omega arith)
there shows tells y z (x ∷ xs) zero less = (x, (λ none. refl), refl, refl)
there shows tells y z (x ∷ xs) (suc i) less = there shows tells y z xs i (omega arith)

module _ (sound : RunsAreSound) (view : PassView) (mount : IsMount (mount_of view.opened)) (is_run : IsRunOf view.opened view.run) (zero_is : view.number ≡ 0)
    (knows : KnowsTaken view) (all : length view.ended ≡ made_of view) where
  ended_there : AllAreTaken (state_of view.opened view.run)
  ended_there number some within =
      let many : length (ended_of view) ≡ made_of view = ap length knows.same ∙ length-map view.ended (λ (past : Past). past.number) ∙ all in
      all_there (ended_of view) (made_of view) (distinct_run view.opened.sizes (opening (mount_of view.opened)) view.run is_run tt)
      (sound (mount_of view.opened) view.run mount is_run).numbers.ended many number some within

  -- each number of a pass that was made is that of one that was taken in
  pub all_taken : (number : ℕ) → 1 ≤ number → number ≤ made_of view → (past : Past) × IsOneOf view.ended past × (past.number ≡ number)
  all_taken number some within = numbered view.ended number (subst (λ (ns : List ℕ). IsOneOf ns number) knows.same (ended_there number some within))

  -- and no other one was made
  pub not_made : (number : ℕ) → number ≢ view.number → ((past : Past) → IsOneOf view.ended past → past.number ≢ number) → made_of view < number
  not_made number ne none = elim (cases_lt (made_of view) number) [
    | inl high ↦ high
    | inr low ↦ absurd (let found = all_taken number (omega (arith, zero_is, ne)) low in none found.0 found.1 found.2)
  ]

  -- a pass that was taken in is as it was then
  pub joined_then : OwnEventsTell → (past : Past) → IsOneOf view.ended past → (state_of view.opened view.run).passes past.number ≡ past_pass view.opened past
  joined_then tell past one = (told_of tell view.opened past.number past.run view.run mount is_run (knows.behind past one) (knows.made past one)).pass

module _ {L B : Type 0} (part : L → Value) (store : B → Value) (device : L → ℕ) (store_device : B → ℕ)
    (board : BoardState) (pass : PassState) (parts : List L) (stores : List B) (placed tail : ℕ) (of_board : IsOf board pass)
    (closed : IsClosed device store_device (slot_value part store) board pass parts stores placed tail)
    (sound : RunsAreSound) (mount : IsMount (mount_of pass.view.opened)) (is_run : IsRunOf pass.view.opened pass.view.run)
    (zero_is : pass.view.number ≡ 0) (knows : KnowsTaken pass.view) (all : length pass.view.ended ≡ made_of pass.view) where
  abbrev opened : Opened
  opened = pass.view.opened

  abbrev at_last : Core
  at_last = state_of opened pass.view.run

  same : closed.last.opened ≡ opened
  same = puts_opened closed.cells pass.view closed.last closed.back

  -- the state of the whole run is the one that it saw last, but for what it has put back
  put : StaysPut at_last (state_of opened closed.whole.run)
  put =
      let taken = ended_there sound pass.view mount is_run zero_is knows all in
      let back = puts_only closed.cells pass.view closed.last closed.back zero_is taken in
      subst (λ run. StaysPut at_last (state_of opened run))
      (sym (only_first opened closed.last.number closed.last.run closed.whole.run (puts_number closed.cells pass.view closed.last closed.back ∙ zero_is)
      (still_taken at_last (state_of opened closed.last.run) back taken) (subst (λ o. IsRunOf o closed.whole.run) same closed.whole.is_run) closed.whole.knew.all)) back

  -- so are the values of its cells
  kept : (cell : Word) (value : Value) → value ≡ (state_of board.opened closed.whole.run).values cell → value ≡ values_of pass.view cell
  kept cell value is = is ∙ ap (λ (o : Opened). (state_of o closed.whole.run).values cell) (sym of_board.same_mount) ∙ ap (λ (vs : Values). vs cell) put.values

  pub parts_many : 1 + opened.sizes.entries ≤ length parts
  parts_many = subst (λ (o : Opened). 1 + o.sizes.entries ≤ length parts) (sym of_board.same_mount) closed.many_parts

  pub stores_many : length stores ≡ opened.sizes.files
  stores_many = closed.many_stores ∙ sym (ap (λ (o : Opened). o.sizes.files) of_board.same_mount)

  pub whole_run : IsWholeRun pass.view (map part parts) (map store stores) placed tail
  whole_run = record {
    is_run = is_run;
    joined = knows.behind;
    others = λ number ne none. unborn_quiet opened number [] pass.view.run is_run (not_made sound pass.view mount is_run zero_is knows all number ne none);
    count = closed.whole.order ∙ ap (λ (o : Opened). length (state_of o closed.whole.run).history) same ∙ ap (λ (calls : List Answered). length calls) put.history;
    tail_is = closed.whole.retired ∙ ap (λ (o : Opened). (state_of o closed.whole.run).words TAIL) same ∙ put.tail;
    parts_show = λ i least.
        let one = there part part Bare Bare parts i (let many = parts_many in omega (arith, many, least)) in
        one.2 ∙ ap part (sym (one.1 one.0))
        ∙ kept (cell_of opened.sizes i) _ (part_kept part store device store_device board pass parts stores placed tail of_board closed i one.0 (subst (λ (o : Opened). i ≤ o.sizes.entries) of_board.same_mount least)
        ∙ ap (λ (o : Opened). (state_of board.opened closed.whole.run).values (cell_of o.sizes i)) (sym of_board.same_mount));
    stores_show = λ file less.
        let one = there store store Bare Bare stores file (let many = stores_many in omega (arith, many, less)) in
        one.2 ∙ ap store (sym (one.1 one.0))
        ∙ kept (STORE file) _ (store_kept part store device store_device board pass parts stores placed tail of_board closed file one.0 (subst (λ (o : Opened). file < o.sizes.files) of_board.same_mount less));
  }
