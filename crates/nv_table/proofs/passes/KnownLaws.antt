-- Known: what a join adds to it, and that no step finds less.
use Rattle.std.proofs.Common.{◌≡◌, ◌≢◌, ℕ, ◌+◌, ◌≤◌, ◌<◌, ◌==◌, ◌||◌, nat_lt, Bool, true, false, if◌then◌else◌, List, [], ◌∷◌, ◌++◌, length, inl, inr, refl, sym, ap, ap₂, subst, ◌∙◌, arith, eqb-true, eq-eqb, ne_eqb}
use Rattle.std.specs.Prelude.{Option, Some, None}
use Rattle.std.proofs.lemmas.Bool.{cases_eq, cases_lt, ltb-true}
use Rattle.std.proofs.lemmas.List.{length-append}
use Rattle.nv_plain.specs.Histories.{Answered}
use Rattle.nv_plain.specs.declared.call.FileCall.{FileCall}
use Rattle.nv_core.specs.invariant.InvariantLaws.{RunsAreSound}
use Rattle.nv_core.specs.invariant.OneHistory.{IsPrefix}
use Rattle.nv_core.specs.invariant.Sound.{Sound}
use Rattle.nv_core.specs.state.Cleaner.{MoveTail}
use Rattle.nv_core.specs.state.Cleaner as cleaner
use Rattle.nv_core.specs.state.Core.{Core, longer, with_seen}
use Rattle.nv_core.specs.state.Passes.{Pass, IsOneOf}
use Rattle.nv_core.specs.state.Words.{Sizes, Word, STOP, ORDER, HEAD, TAIL}
use Rattle.nv_core.specs.steps.Frames.{Covers, OwnEventsTell}
use Rattle.nv_core.specs.steps.Opening.{IsMount, opening}
use Rattle.nv_core.specs.steps.Ops.{Op, Load, Place, Stop, Draw, ByCleaner, Join, value_after}
use Rattle.nv_core.specs.steps.PassSteps.{stepped, head_after, tail_after, stopped_after, seen_after, as_answered}
use Rattle.nv_core.specs.steps.Order.{Values, Work}
use Rattle.nv_core.proofs.state.Choices.{if_both}
use Rattle.nv_core.proofs.steps.ByKind.{FoundEnabledByKind, find_kind}
use Rattle.nv_core.proofs.steps.CleanerOps.{retires_hand}
use Rattle.nv_core.proofs.steps.RunLaws.{run_parts}
use Rattle.nv_table.specs.invariant.BetweenSteps.{KnowsTaken}
use Rattle.nv_table.specs.passes.Known.{FindsNoLess, StepsFindWhatIsKnown, StepsForgetNothing, known_by, knowing, taken_by}
use Rattle.nv_table.specs.passes.PassesMade.{IsTakenIn, PutsBack}
use Rattle.nv_table.specs.passes.Seats.{joined, past_of}
use Rattle.nv_table.specs.state.Opened.{Opened, mount_of, IsRunOf, state_of}
use Rattle.nv_table.specs.state.States.{PassState}
use Rattle.nv_table.specs.state.Views.{Past, PassView, SeesAll, ended_of, numbers, pass_of, past_pass}
use Rattle.nv_table.specs.steps.SeatSteps.{act_of, events, pass_before, pass_worked, with_call}
use Rattle.nv_table.specs.steps.StepContracts.{Postcondition}
use Rattle.nv_table.proofs.invariant.DrawnLaws.{calls_leave}
use Rattle.nv_table.proofs.invariant.Going.{told_of}
use Rattle.nv_table.proofs.invariant.PassLaws.{step_begins}
use Rattle.nv_table.proofs.invariant.StepAt.{IsMadeAt, made_at}
use Rattle.nv_table.proofs.passes.BetweenLaws.{puts_number, puts_opened}
use Rattle.nv_table.proofs.steps.TakenLaws.{behind_on, knows_on, number_there}

-- ---- a join

-- a pass knows of another no more than what that has seen
abbrev same_seen : Pass → Pass → Type 0
same_seen one other = (known : Pass) → with_seen known one ≡ with_seen known other

puts_seen : (cells : List (Word × ℕ)) (old new : PassView) → PutsBack cells old new → same_seen (pass_of new) (pass_of old)
puts_seen [] old new back = λ known. ap (λ (v : PassView). with_seen known (pass_of v)) back
puts_seen (first ∷ others) old new back = λ known. puts_seen others back.0 new back.2 known ∙ ap (with_seen known) back.1.pass

if_zero : {T : Type 0} (number : ℕ) (one other : T) → number ≡ 0 → (if number == 0 then one else other) ≡ one
if_zero number one other zero_is = ap (λ b. if b then one else other) (eq-eqb number 0 zero_is)

pub learns : (old other new : PassState) → old.view.number ≡ 0 → other.view.opened ≡ old.view.opened → IsTakenIn old other new → known_by new.view ≡ with_seen (known_by old.view) (pass_of other.view)
learns old other new zero_is same taken =
    let opened = old.view.opened in
    let past : Past = past_of taken.last in
    let old_taken : taken_by old.view ≡ old.view.ended = if_zero old.view.number old.view.ended [] zero_is in
    let last_opened : opened ≡ taken.last.opened = sym (puts_opened taken.cells other.view taken.last taken.back ∙ same) in
    let there : taken_by taken.view ≡ past ∷ old.view.ended =
    if_zero taken.view.number taken.view.ended [] (ap (λ (v : PassView). v.number) taken.taken.is ∙ zero_is) ∙ ap (λ (v : PassView). v.ended) taken.taken.is in
    ap (λ (p : PassState). known_by p.view) taken.is
    ∙ ap₂ (λ (o : Opened) (pasts : List Past). knowing o pasts (pass_of taken.view)) (ap (λ (v : PassView). v.opened) taken.taken.is) there
    ∙ ap (knowing opened (past ∷ old.view.ended)) taken.taken.pass
    ∙ ap (λ pasts. with_seen (knowing opened pasts (pass_of old.view)) (past_pass opened past)) (sym old_taken)
    ∙ ap (λ (o : Opened). with_seen (known_by old.view) (past_pass o past)) last_opened
    ∙ puts_seen taken.cells other.view taken.last taken.back (known_by old.view)

-- ---- what is known lies in the state

record LiesIn (core : Core) (known : Pass) : Type 0 where
  seen : IsPrefix known.seen core.history
  head : known.head ≤ core.words HEAD
  tail : known.tail ≤ core.words TAIL
  stopped : known.stopped ≡ true → core.words STOP ≡ 1

lies_of : (sizes : Sizes) (first : Values) (core : Core) (number : ℕ) → Sound sizes first core → LiesIn core (core.passes number)
lies_of sizes first core number sound =
    record { seen = sound.history.seen number; head = sound.loaded.head number; tail = sound.loaded.tail number; stopped = sound.stop.stays number }

either_set : {T : Type 0} (one other : Bool) → (one ≡ true → T) → (other ≡ true → T) → (one || other) ≡ true → T
either_set true other first second set = first refl
either_set false other first second set = second set

both_lie : (core : Core) (one other : Pass) → LiesIn core one → LiesIn core other → LiesIn core (with_seen one other)
both_lie core one other first second = record {
  seen = if_both (λ l. IsPrefix l core.history) (nat_lt (length one.seen) (length other.seen)) other.seen one.seen (λ _. second.seen) (λ _. first.seen);
  head = let a = first.head in let b = second.head in omega (arith, a, b);
  tail = let a = first.tail in let b = second.tail in omega (arith, a, b);
  stopped = either_set one.stopped other.stopped first.stopped second.stopped;
}

all_lie : (core : Core) (opened : Opened) (pasts : List Past) (pass : Pass) → ((past : Past) → IsOneOf pasts past → LiesIn core (past_pass opened past)) → LiesIn core pass → LiesIn core (knowing opened pasts pass)
all_lie core opened [] pass each own = own
all_lie core opened (past ∷ before) pass each own =
    both_lie core (knowing opened before pass) (past_pass opened past) (all_lie core opened before pass (λ one is. each one (inr is)) own) (each past (inl refl))

shorter : (known : Pass) (core : Core) → IsPrefix known.seen core.history → length known.seen ≤ length core.history
shorter known core begins = let whole = ap length begins.1 ∙ length-append known.seen begins.0 in omega (arith, whole)

finds : (sizes : Sizes) (first : Values) (by : ℕ) (core : Core) (known : Pass) (op : Op) (found : ℕ) → Sound sizes first core → FoundEnabledByKind sizes by core op found → LiesIn core known → FindsNoLess known op found
finds sizes first by core known (Load STOP) found sound may lies = λ set. sym may.is ∙ lies.stopped set
finds sizes first by core known (Load ORDER) found sound may lies = let is = may.is in let order = sound.history.order in let less = shorter known core lies.seen in omega (arith, is, order, less)
finds sizes first by core known (Load HEAD) found sound may lies = let is = may.is in let less = lies.head in omega (arith, is, less)
finds sizes first by core known (Load TAIL) found sound may lies = let is = may.is in let less = lies.tail in omega (arith, is, less)
finds sizes first by core known Draw found sound may lies = let is = may.is in let less = lies.head in omega (arith, is, less)
finds sizes first by core known (Place reply) found sound may lies = let is = may.is in let order = sound.history.order in let less = shorter known core lies.seen in omega (arith, is, order, less)
finds sizes first by core known (ByCleaner (cleaner.Load STOP)) found sound may lies = λ set. sym may.is ∙ lies.stopped set
finds sizes first by core known (ByCleaner (cleaner.Load HEAD)) found sound may lies = let is = may.is in let less = lies.head in omega (arith, is, less)
finds sizes first by core known (ByCleaner (cleaner.Load TAIL)) found sound may lies = let is = may.is in let less = lies.tail in omega (arith, is, less)
finds sizes first by core known op found sound may lies = tt

-- ---- a pass after a step of its own

pub covers_same : (pass : Pass) → Covers pass pass
covers_same pass = record { seen = omega arith; head = omega arith; tail = omega arith; stopped = λ set. set }

pub covers_all : (one two three : Pass) → Covers one two → Covers two three → Covers one three
covers_all one two three first second = record {
  seen = let a = first.seen in let b = second.seen in omega (arith, a, b);
  head = let a = first.head in let b = second.head in omega (arith, a, b);
  tail = let a = first.tail in let b = second.tail in omega (arith, a, b);
  stopped = λ set. second.stopped (first.stopped set);
}

longer_on : (one two other : List Answered) → length one ≤ length two → length (longer one other) ≤ length (longer two other)
longer_on one two other less =
    if_both (λ l. length l ≤ length (longer two other)) (nat_lt (length one) (length other)) other one
    (λ _. if_both (λ l. length other ≤ length l) (nat_lt (length two) (length other)) other two (λ _. omega arith) (λ late. not_less (length two) (length other) late))
    (λ _. if_both (λ l. length one ≤ length l) (nat_lt (length two) (length other)) other two (λ soon. let l = ltb-true (length two) (length other) soon in omega (arith, l, less)) (λ _. less))
  where
    not_less : (a b : ℕ) → nat_lt a b ≡ false → b ≤ a
    not_less a b late = grind (arith)

or_on : (one two other : Bool) → (one ≡ true → two ≡ true) → (one || other) ≡ true → (two || other) ≡ true
or_on one true other on set = refl
or_on true false other on set = absurd (false_true (on refl))
  where
    false_true : false ≡ true → ⊥
    false_true is = cc
or_on false false other on set = set

seen_on : (one two other : Pass) → Covers one two → Covers (with_seen one other) (with_seen two other)
seen_on one two other covers = record {
  seen = longer_on one.seen two.seen other.seen covers.seen;
  head = let less = covers.head in omega (arith, less);
  tail = let less = covers.tail in omega (arith, less);
  stopped = or_on one.stopped two.stopped other.stopped covers.stopped;
}

knowing_on : (opened : Opened) (pasts : List Past) (one two : Pass) → Covers one two → Covers (knowing opened pasts one) (knowing opened pasts two)
knowing_on opened [] one two covers = covers
knowing_on opened (past ∷ before) one two covers = seen_on (knowing opened before one) (knowing opened before two) (past_pass opened past) (knowing_on opened before one two covers)

-- what is known is no less than what the pass has seen itself
longer_own : (one other : List Answered) → length one ≤ length (longer one other)
longer_own one other = if_both (λ l. length one ≤ length l) (nat_lt (length one) (length other)) other one (λ soon. let l = ltb-true (length one) (length other) soon in omega (arith, l)) (λ _. omega arith)

or_own : (one other : Bool) → one ≡ true → (one || other) ≡ true
or_own one other set = ap (λ b. b || other) set

covers_knowing : (opened : Opened) (pasts : List Past) (pass : Pass) → Covers pass (knowing opened pasts pass)
covers_knowing opened [] pass = covers_same pass
covers_knowing opened (past ∷ before) pass =
    let known = knowing opened before pass in
    covers_all pass known (with_seen known (past_pass opened past)) (covers_knowing opened before pass)
    record { seen = longer_own known.seen (past_pass opened past).seen; head = omega arith; tail = omega arith; stopped = or_own known.stopped (past_pass opened past).stopped }

pub covers_own : (view : PassView) → Covers (pass_of view) (known_by view)
covers_own view = covers_knowing view.opened (taken_by view) (pass_of view)

-- each of the four by its kind
module _ (sizes : Sizes) (first : Values) (by : ℕ) (core : Core) (sound : Sound sizes first core) where
  abbrev mover : Pass
  mover = core.passes by

  head_on : (op : Op) (found : ℕ) → FoundEnabledByKind sizes by core op found → mover.head ≤ head_after sizes mover op found
  head_on (Load HEAD) found may = let is = may.is in let less = sound.loaded.head by in omega (arith, is, less)
  head_on Draw found may =
      let is = may.is in
      let less = sound.loaded.head by in
      if_both (λ head. mover.head ≤ head) (found == mover.head) _ found (λ _. omega (arith, is, less)) (λ _. omega (arith, is, less))
  head_on (ByCleaner (cleaner.Load HEAD)) found may = let is = may.is in let less = sound.loaded.head by in omega (arith, is, less)
  head_on (Load word) found may = omega arith
  head_on (ByCleaner (cleaner.Load word)) found may = omega arith
  head_on (ByCleaner cleaner_op) found may = omega arith
  head_on op found may = omega arith

  tail_on : (op : Op) (found : ℕ) → FoundEnabledByKind sizes by core op found → mover.tail ≤ tail_after mover op found
  tail_on (Load TAIL) found may = let is = may.is in let less = sound.loaded.tail by in omega (arith, is, less)
  tail_on (ByCleaner (cleaner.Load TAIL)) found may = let is = may.is in let less = sound.loaded.tail by in omega (arith, is, less)
  tail_on (ByCleaner (MoveTail tail)) found may = let low = (retires_hand sizes first core sound by found tail may).low in let less = sound.loaded.tail by in omega (arith, low, less)
  tail_on (Load word) found may = omega arith
  tail_on (ByCleaner (cleaner.Load word)) found may = omega arith
  tail_on (ByCleaner cleaner_op) found may = omega arith
  tail_on op found may = omega arith

stays_if : (b one : Bool) → one ≡ true → (if b then one else true) ≡ true
stays_if true one set = set
stays_if false one set = refl

stopped_on : (pass : Pass) (op : Op) (found : ℕ) → pass.stopped ≡ true → stopped_after pass op found ≡ true
stopped_on pass (Load STOP) found set = stays_if (found == 0) pass.stopped set
stopped_on pass Stop found set = refl
stopped_on pass (ByCleaner (cleaner.Load STOP)) found set = stays_if (found == 0) pass.stopped set
stopped_on pass (ByCleaner cleaner.Stop) found set = refl
stopped_on pass op found set = set

seen_grows : (number : ℕ) (history : List Answered) (pass : Pass) (op : Op) → length pass.seen ≤ length history → length pass.seen ≤ length (seen_after number history pass op)
seen_grows number history pass (Place reply) less = let whole = length-append history (as_answered number pass reply ∷ []) in omega (arith, whole, less)
seen_grows number history pass op less = omega arith

-- ---- a step

-- what a pass has seen, which neither device calls nor a call that begins change
abbrev sight : Pass → List Answered × ℕ × ℕ × Bool
sight pass = (pass.seen, pass.head, pass.tail, pass.stopped)

lies_as : (core : Core) (one other : Pass) → sight one ≡ sight other → LiesIn core one → LiesIn core other
lies_as core one other same lies = record {
  seen = subst (λ l. IsPrefix l core.history) (ap (λ s. s.0) same) lies.seen;
  head = subst (λ n. n ≤ core.words HEAD) (ap (λ s. s.1) same) lies.head;
  tail = subst (λ n. n ≤ core.words TAIL) (ap (λ s. s.2) same) lies.tail;
  stopped = λ set. lies.stopped (ap (λ s. s.3) same ∙ set);
}

covers_as : (one two other : Pass) → sight one ≡ sight two → Covers one other → Covers two other
covers_as one two other same covers = record {
  seen = subst (λ l. length l ≤ length other.seen) (ap (λ s. s.0) same) covers.seen;
  head = subst (λ n. n ≤ other.head) (ap (λ s. s.1) same) covers.head;
  tail = subst (λ n. n ≤ other.tail) (ap (λ s. s.2) same) covers.tail;
  stopped = λ set. covers.stopped (ap (λ s. s.3) same ∙ set);
}

opens_leave : (sizes : Sizes) (opens : Option FileCall) (pass : Pass) → sight (with_call sizes opens pass) ≡ sight pass
opens_leave sizes None pass = refl
opens_leave sizes (Some call) pass = refl

same_sight : (view : PassView) (opens : Option FileCall) (works : List Work) → sight (pass_before view opens works) ≡ sight (pass_of view)
same_sight view opens works =
    opens_leave view.opened.sizes opens (pass_worked view.opened.sizes works (pass_of view)) ∙ calls_leave sight (λ sizes work pass. refl) view.opened.sizes works (pass_of view)

module _ (sound : RunsAreSound) (tell : OwnEventsTell) (old new : PassState) (opens : Option FileCall) (op : Op) (found : ℕ) (mount : IsMount (mount_of old.view.opened)) (knows : old.view.number ≡ 0 → KnowsTaken old.view)
    (is : Postcondition old opens op found new) where
  abbrev opened : Opened
  opened = old.view.opened

  abbrev by : ℕ
  by = old.view.number

  at : IsMadeAt old.view is.steps.run is.works opens op found
  at = made_at sound tell old.view new.view is.works opens op found mount is.steps

  may : FoundEnabledByKind opened.sizes by at.core op found
  may = find_kind opened.sizes by at.core op found at.may

  -- the pass as it finds it
  abbrev there : Pass
  there = pass_before old.view opens is.works

  old_run : IsRunOf opened old.view.run
  old_run = (run_parts opened.sizes (opening (mount_of opened)) old.view.run is.steps.knew.all.rest (subst (IsRunOf opened) is.steps.knew.all.goes_on at.is_run)).0

  -- those that were taken in stand there as they stood
  past_there : by ≡ 0 → (past : Past) → IsOneOf old.view.ended past → at.core.passes past.number ≡ past_pass opened past
  past_there zero_is past one =
      let taken = knows zero_is in
      let known : IsOneOf (ended_of old.view) past.number = subst (λ ns. IsOneOf ns past.number) (sym taken.same) (number_there old.view.ended past one) in
      let some = ((sound (mount_of opened) old.view.run mount old_run).numbers.ended past.number known).0 in
      at.others past.number (λ same. let zero_then : past.number ≡ 0 = same ∙ zero_is in omega (arith, some, zero_then))
      ∙ (told_of tell opened past.number past.run is.steps.run mount at.is_run (behind_on old.view is.steps.run taken at.is_run (is.steps.knew.all.rest, is.steps.knew.all.goes_on) past one) (taken.made past one)).pass

  taken_lie : (zero : Bool) → (by == 0) ≡ zero → (past : Past) → IsOneOf (if zero then old.view.ended else []) past → LiesIn at.core (past_pass opened past)
  taken_lie true zero past one =
      subst (LiesIn at.core) (past_there (eqb-true by 0 zero) past one) (lies_of opened.sizes (mount_of opened).values at.core past.number at.sound)
  taken_lie false zero past one = absurd one

  own_lies : LiesIn at.core (pass_of old.view)
  own_lies = lies_as at.core (at.core.passes by) (pass_of old.view) (ap sight at.own ∙ same_sight old.view opens is.works) (lies_of opened.sizes (mount_of opened).values at.core by at.sound)

  known_lies : LiesIn at.core (known_by old.view)
  known_lies = all_lie at.core opened (taken_by old.view) (pass_of old.view) (taken_lie (by == 0) refl) own_lies

  step_finds : FindsNoLess (known_by old.view) op found
  step_finds = finds opened.sizes (mount_of opened).values by at.core (known_by old.view) op found at.sound may known_lies

  -- ---- what it knows then

  own_covers : Covers (pass_of old.view) (pass_of new.view)
  own_covers =
      let before = (told_of tell opened by old.view.run is.steps.run mount at.is_run is.steps.knew.all is.steps.knew.made).pass in
      let begins : IsPrefix (pass_of old.view).seen (state_of opened is.steps.run).history = subst (λ (p : Pass). IsPrefix p.seen (state_of opened is.steps.run).history) before (at.before.history.seen by) in
      let less : length there.seen ≤ length (state_of opened is.steps.run).history =
      subst (λ s. length s ≤ length (state_of opened is.steps.run).history) (sym (ap (λ s. s.0) (same_sight old.view opens is.works)))
      (shorter (pass_of old.view) (state_of opened is.steps.run) begins) in
      covers_as there (pass_of old.view) (pass_of new.view) (same_sight old.view opens is.works)
      (subst (λ (p : Pass). Covers there p) (sym is.pass) record {
        seen = seen_grows by (state_of opened is.steps.run).history there op less;
        head = subst (λ (p : Pass). p.head ≤ head_after opened.sizes p op found) at.own (head_on opened.sizes (mount_of opened).values by at.core at.sound op found may);
        tail = subst (λ (p : Pass). p.tail ≤ tail_after p op found) at.own (tail_on opened.sizes (mount_of opened).values by at.core at.sound op found may);
        stopped = stopped_on there op found;
      })

  step_covers : Covers (known_by old.view) (known_by new.view)
  step_covers =
      subst (λ (p : Pass). Covers (known_by old.view) p) (sym (ap (λ (v : PassView). knowing v.opened (taken_by v) (pass_of new.view)) is.steps.is))
      (knowing_on opened (taken_by old.view) (pass_of old.view) (pass_of new.view) own_covers)

  taken_then : new.view.number ≡ 0 → KnowsTaken new.view
  taken_then zero_is =
      let zero_before : by ≡ 0 = sym (ap (λ (v : PassView). v.number) is.steps.is) ∙ zero_is in
      knows_on old.view (is.steps.run ++ events by is.works (act_of opens op found)) (knows zero_before) is.steps.is_run (step_begins old.view is.works (act_of opens op found) new.view is.steps) new.view
      (ap (λ (v : PassView). v.opened) is.steps.is) (ap (λ (v : PassView). v.ended) is.steps.is) (ap (λ (v : PassView). v.run) is.steps.is) (is.ended zero_before)

pub steps_find_what_is_known : RunsAreSound → OwnEventsTell → StepsFindWhatIsKnown
steps_find_what_is_known sound tell old new opens op found mount knows is = step_finds sound tell old new opens op found mount knows is

pub steps_forget_nothing : RunsAreSound → OwnEventsTell → StepsForgetNothing
steps_forget_nothing sound tell old new opens op found mount knows is =
    (step_covers sound tell old new opens op found mount knows is, taken_then sound tell old new opens op found mount knows is)
