-- Between: what is so of a pass after the making, the putting back and the taking in of passes.
use Rattle.std.proofs.Common.{◌≡◌, ◌≢◌, ℕ, ◌+◌, ◌-◌, ◌<◌, ◌≤◌, ◌^◌, true, List, [], ◌∷◌, ◌++◌, length, take, drop, map, inl, inr, refl, sym, ap, ap₂, subst, ◌∙◌, arith, append_assoc}
use Rattle.std.specs.Prelude.{Option, Some, None}
use Rattle.std.proofs.lemmas.Bool.{cases_eq}
use Rattle.std.proofs.lemmas.List.{length-append, length-map}
use Rattle.atomic_table.specs.Seated.{TableId}
use Rattle.atomic_table.specs.Table.{Me, rest}
use Rattle.nv_core.specs.state.Words.{Sizes, Word, HEADER, ENTRY, STORE, PAGE, IsWord, keeps_something}
use Rattle.nv_core.specs.state.Values.{Value}
use Rattle.nv_core.specs.state.Passes.{Pass, IsOneOf, times}
use Rattle.nv_core.specs.steps.Ops.{Op, Split, PutBack, Join}
use Rattle.nv_core.specs.steps.Order.{Values}
use Rattle.nv_core.specs.invariant.OneHistory.{IsPrefix}
use Rattle.nv_core.specs.state.Core.{Core, ended_stepped, after_begin, newcomer}
use Rattle.nv_core.specs.steps.Events.{Act, BeginsCall, TakesStep, CallsDevice, Event, StepEnabled, ActEnabled, after_act, after_event, after_run, IsRun}
use Rattle.nv_core.specs.invariant.InvariantLaws.{RunsAreSound}
use Rattle.nv_core.specs.steps.Opening.{IsMount, opening}
use Rattle.nv_core.specs.steps.Frames.{StepsAreOnWords}
use Rattle.nv_core.proofs.state.Changes.{number_here}
use Rattle.nv_table.specs.steps.SeatSteps.{went, IsFirst}
use Rattle.nv_table.specs.passes.PassesMade.{IsShownStill, PutsBack, IsTakenIn}
use Rattle.nv_table.specs.invariant.Drawn.{lost_of, drawn_of}
use Rattle.nv_table.specs.state.Layout.{slot_total, slot_of_cell, cell_of}
use Rattle.nv_table.specs.state.Opened.{Opened, mount_of, IsRunOf, state_of}
use Rattle.nv_table.specs.invariant.BetweenSteps.{IsKeeper, KnowsTaken, IsPass}
use Rattle.nv_table.specs.passes.Seats.{parent, child, past_of, imported, joined, PassingTells, MayPutBack, HasPutBack, MayJoin}
use Rattle.nv_table.specs.state.Views.{SeesAll, PassView, Past, pass_of, values_of, made_of, ended_of, still_owned, slot_times, AreDistinctNumbers, OwnsSlots, KnowsRun}
use Rattle.nv_table.specs.state.States.{PassState, shown_in}
use Rattle.nv_table.proofs.steps.OwnedSlotLaws.{still_owned_none, owns_slots_some}
use Rattle.nv_table.proofs.state.Counting.{few_there}
use Rattle.nv_table.proofs.invariant.Going.{after_one}
use Rattle.nv_table.proofs.state.LayoutLaws.{slot_there, cell_there}
use Rattle.nv_table.proofs.passes.LeftLaws.{owned_are_words}
use Rattle.nv_table.proofs.state.ViewLaws.{sees_self}
use Rattle.nv_table.proofs.steps.StepLaws.{owns_slots_held, owns_slots_shown}
use Rattle.nv_table.proofs.steps.TakenLaws.{knows_on, knows_joined}
use Rattle.nv_table.proofs.steps.TurnLaws.{first_slot}

-- ---- what pass 0 knows of those that it took in, after a step between passes by which it took in none

passed_begins : (old new : PassView) (op : Op) (found : ℕ) → (passed : PassingTells old op found new)
    → IsPrefix old.run (passed.run ++ record { by = old.number; act = TakesStep op found } ∷ [])
passed_begins old new op found passed = (
  passed.knew.all.rest ++ record { by = old.number; act = TakesStep op found } ∷ [],
  ap (λ run. run ++ record { by = old.number; act = TakesStep op found } ∷ []) passed.knew.all.goes_on ∙ append_assoc old.run passed.knew.all.rest _,
)

passed_taken : (old new : PassView) (op : Op) (found : ℕ) → PassingTells old op found new → KnowsTaken old → (then_ : PassView) → then_.opened ≡ new.opened → then_.ended ≡ new.ended → then_.run ≡ new.run
    → ended_of new ≡ ended_of old → KnowsTaken then_
passed_taken old new op found passed knows then_ opened ended run same =
    knows_on old new.run knows (subst (λ (v : PassView). IsRunOf old.opened v.run) (sym passed.is) passed.is_run)
    (subst (λ (v : PassView). IsPrefix old.run v.run) (sym passed.is) (passed_begins old new op found passed))
    then_ (opened ∙ ap (λ (v : PassView). v.opened) passed.is) (ended ∙ ap (λ (v : PassView). v.ended) passed.is) run
    (ap₂ (λ (o : Opened) (events : List Event). (state_of o events).ended) opened run ∙ same)

-- ---- a pass after a step between passes, whatever pass 0 then keeps of the others

module _ {S : Type 0} (old new : PassView) (op : Op) (found : ℕ) (passed : PassingTells old op found new)
    (live : old.live ≡ true) (number : ℕ) (number_is : number ≡ old.number) (mount : IsMount (mount_of old.opened)) where
  pub pass_then : {drawn lost : Option ℕ} (seated : ℕ) (ended : List Past) (slots : List (ℕ × S)) (made joined : ℕ) (held : List ℕ) (room : ℕ)
      → (old.number ≡ 0 → IsKeeper (record new { seated = seated; ended = ended }) made joined)
      → ((slot : ℕ) → slot_total old.opened.sizes ≤ slot → slot_times slot slots ≡ 0)
      → ((slot : ℕ) → slot < slot_total old.opened.sizes → slot_times slot slots ≡ times (cell_of old.opened.sizes slot) (still_owned (pass_of new)))
      → map (λ one. one.0) slots ≡ held → slot_total old.opened.sizes ≤ room → drawn ≡ drawn_of (pass_of old) → lost ≡ lost_of (pass_of old).faulted
      → IsPass (record new { seated = seated; ended = ended }) slots number made joined held room drawn lost
  pass_then seated ended slots made joined held room keeper within each written roomy drawn_is lost_is = let opened_then : new.opened ≡ old.opened = ap (λ (v : PassView). v.opened) passed.is in record {
    live = ap (λ (v : PassView). v.live) passed.is ∙ live;
    number_is = number_is ∙ sym (ap (λ (v : PassView). v.number) passed.is);
    mount = subst (λ o. IsMount (mount_of o)) (sym opened_then) mount;
    run = subst (λ (v : PassView). IsRunOf v.opened v.run) (sym passed.is) passed.is_run;
    known = let k = subst (λ o. KnowsRun o new.run new) (sym opened_then) passed.knows in record { mount = k.mount; all = k.all; made = k.made; there = k.there };
    keeper = λ zero. keeper (sym (ap (λ (v : PassView). v.number) passed.is) ∙ zero);
    within = λ slot more. within slot (subst (λ (o : Opened). slot_total o.sizes ≤ slot) opened_then more);
    each = λ slot less. subst (λ (o : Opened). slot_times slot slots ≡ times (cell_of o.sizes slot) (still_owned (pass_of new))) (sym opened_then)
        (each slot (subst (λ (o : Opened). slot < slot_total o.sizes) opened_then less));
    written = written;
    roomy = subst (λ (o : Opened). slot_total o.sizes ≤ room) (sym opened_then) roomy;
    drawn_is = drawn_is ∙ sym (ap drawn_of passed.pass);
    lost_is = lost_is ∙ sym (ap (λ (p : Pass). lost_of p.faulted) passed.pass);
  }

-- ---- a pass that is told something

pub imported_pass : {S : Type 0} {drawn lost : Option ℕ} (view other : PassView) (slots : List (ℕ × S)) (number made count : ℕ) (held : List ℕ) (room : ℕ) → IsPass view slots number made count held room drawn lost
    → IsPass (imported view other) slots number made count held room drawn lost
imported_pass view other slots number made count held room is = record {
  live = is.live;
  number_is = is.number_is;
  mount = is.mount;
  run = is.run;
  known = let k = is.known in record { mount = k.mount; all = k.all; made = k.made; there = k.there };
  keeper = λ zero. (let k = is.keeper zero in record { made_is = k.made_is; seated = k.seated; few = k.few; taken = record { same = k.taken.same; made = k.taken.made; behind = k.taken.behind }; count = k.count });
  within = is.within;
  each = is.each;
  written = is.written;
  roomy = is.roomy;
  drawn_is = is.drawn_is;
  lost_is = is.lost_is;
}

-- ---- a new pass

-- the new pass is the newcomer of the state in which it was made
pub made_fresh : (old middle : PassView) (found : ℕ) → (made : PassingTells old Split found middle) → pass_of (child middle) ≡ newcomer (state_of old.opened made.run)
made_fresh old middle found made =
    let event : Event = record { by = old.number; act = TakesStep Split found } in
    ap (λ (v : PassView). pass_of (child v)) made.is
    ∙ ap (λ (c : Core). c.passes c.made) (after_one old.opened made.run event)
    ∙ number_here (state_of old.opened made.run).passes ((state_of old.opened made.run).made + 1) _

module _ {S : Type 0} {drawn lost : Option ℕ} (old middle : PassView) (found : ℕ) (passed : PassingTells old Split found middle) (slots : List (ℕ × S)) (number made joined : ℕ) (held : List ℕ) (room : ℕ)
    (is : IsPass old slots number made joined held room drawn lost) (zero_is : old.number ≡ 0) where
  made_then : made_of middle ≡ made + 1
  made_then = passed.made zero_is ∙ ap (λ n. n + 1) (is.keeper zero_is).made_is

  pub parent_pass : made + 1 ≤ 2 ^ 32 → IsPass (parent middle) slots number (made + 1) joined held room drawn lost
  parent_pass few =
      let keeper = is.keeper zero_is in
      pass_then old middle Split found passed is.live number is.number_is is.mount (made_of middle) middle.ended slots (made + 1) joined held room
      (λ zero. record {
        made_is = made_then;
        seated = made_then;
        few = few;
        taken = passed_taken old middle Split found passed keeper.taken (parent middle) refl refl refl (passed.ended zero_is);
        count = keeper.count ∙ sym (ap (λ (v : PassView). length v.ended) passed.is);
      })
      is.within (λ slot less. is.each slot less ∙ sym (ap (λ p. times (cell_of old.opened.sizes slot) (still_owned p)) passed.pass)) is.written is.roomy is.drawn_is is.lost_is

  -- what is so of it
  child_has : {T : Type 0} (f : Pass → T) → f (pass_of (child middle)) ≡ f (newcomer (state_of old.opened passed.run))
  child_has f = ap f (made_fresh old middle found passed)

  pub child_pass : RunsAreSound → (room_now : ℕ) → slot_total old.opened.sizes ≤ room_now → IsPass {S = S} (child middle) [] (made + 1) 0 0 [] room_now None None
  child_pass sound room_now roomy =
      let opened_is : middle.opened ≡ old.opened = ap (λ (v : PassView). v.opened) passed.is in
      record {
        live = ap (λ (v : PassView). v.live) passed.is ∙ is.live;
        number_is = sym made_then;
        mount = subst (λ o. IsMount (mount_of o)) (sym opened_is) is.mount;
        run = subst (λ (v : PassView). IsRunOf v.opened v.run) (sym passed.is) passed.is_run;
        known = record {
          mount = refl;
          all = sees_self (made_of middle) middle.run;
          made = omega arith;
          there = λ one. not_taken (subst (λ ended. IsOneOf ended (made_of middle)) (passed.ended zero_is) one);
        };
        keeper = λ none. absurd (let e = made_then in omega (arith, e, none));
        within = λ slot more. refl;
        each = λ slot less. sym (still_owned_none (cell_of middle.opened.sizes slot) (pass_of (child middle)) (child_has (λ p. times (cell_of middle.opened.sizes slot) p.owned)));
        written = refl;
        roomy = subst (λ (o : Opened). slot_total o.sizes ≤ room_now) (sym opened_is) roomy;
        drawn_is = sym (child_has drawn_of);
        lost_is = sym (child_has (λ p. lost_of p.faulted));
      }
    where
      not_taken : IsOneOf (ended_of old) (made_of middle) → ⊥
      not_taken one =
          let low = ((sound (mount_of old.opened) old.run is.mount is.run).numbers.ended (made_of middle) one).1 in
          let e = passed.made zero_is in
          omega (arith, low, e)

-- ---- the first of what a pass owns goes home

module _ {S : Type 0} (shown : S → Value) (sizes : Sizes) (kept : Values) (cells : List Word) where
  pub first_within : (slots : List (ℕ × S)) → slots ≢ [] → OwnsSlots sizes shown kept cells slots → first_slot slots < slot_total sizes
  first_within [] some owns_slots = absurd (some refl)
  first_within (first ∷ others) some owns_slots = owns_slots.within first.0 first.1 (inl refl)

  first_still_owned : (slots : List (ℕ × S)) → slots ≢ [] → OwnsSlots sizes shown kept cells slots → 1 ≤ times (cell_of sizes (first_slot slots)) cells
  first_still_owned [] some owns_slots = absurd (some refl)
  first_still_owned (first ∷ others) some owns_slots = owns_slots_some sizes shown kept cells (first ∷ others) owns_slots first.0 first.1 (inl refl)

stands_first : {S : Type 0} (slots : List (ℕ × S)) → slots ≢ [] → IsFirst (Some (first_slot slots)) slots
stands_first [] some = absurd (some refl)
stands_first (first ∷ others) some = (first.1, refl)

pub may_leave : {S : Type 0} (shown : S → Value) (me : Me S PassView) → me.1 ≢ [] → OwnsSlots me.0.opened.sizes shown (values_of me.0) (still_owned (pass_of me.0)) me.1
    → MayPutBack shown me (cell_of me.0.opened.sizes (first_slot me.1))
may_leave shown me some owns_slots = record {
  owns_slots = owns_slots;
  has = λ none. let one = first_still_owned shown me.0.opened.sizes (values_of me.0) (still_owned (pass_of me.0)) me.1 some owns_slots in omega (arith, one, none);
  front = subst (λ slot. IsFirst slot me.1) (sym (slot_there me.0.opened.sizes (first_slot me.1) (first_within shown me.0.opened.sizes (values_of me.0) (still_owned (pass_of me.0)) me.1 some owns_slots)).0)
      (stands_first me.1 some);
}

-- what contracts see of a pass, as its seat's
module _ {S : Type 0} (shown : S → Value) (table : TableId) (me : Me S PassView) {spare : List Value} (pass : PassState)
    (view : record { table = table; view = me.0; now = shown_in shown me.1; spare = spare } ≡ pass) where
  pub still_held : IsShownStill pass → OwnsSlots me.0.opened.sizes shown (values_of me.0) (still_owned (pass_of me.0)) me.1
  still_held still = owns_slots_held me.0.opened.sizes shown (values_of me.0) (still_owned (pass_of me.0)) me.1 (subst IsShownStill (sym view) still)

  pub some_held : pass.now ≢ [] → me.1 ≢ []
  some_held some none = some (sym (ap (λ (p : PassState). p.now) view) ∙ ap (shown_in shown) none)

-- the slots behind the first
rest_times : {S : Type 0} (slot : ℕ) (slots : List (ℕ × S)) → slot_times slot slots ≡ 0 → slot_times slot (rest slots) ≡ 0
rest_times slot [] none = refl
rest_times slot (first ∷ others) none = omega (arith, none)

rest_written : {S : Type 0} (slots : List (ℕ × S)) → map (λ one. one.0) (rest slots) ≡ drop 1 (map (λ one. one.0) slots)
rest_written [] = refl
rest_written (first ∷ others) = refl

rest_fewer : {S : Type 0} (slots : List (ℕ × S)) → slots ≢ [] → length (rest slots) + 1 ≡ length slots
rest_fewer [] some = absurd (some refl)
rest_fewer (first ∷ others) some = omega arith

-- the numbers behind the first, where this one went behind them and then away
pub popped : (held turned now : List ℕ) (len : ℕ) → turned ≡ drop 1 held ++ take 1 held → len ≡ length turned → now ≡ take (len - 1) turned → now ≡ drop 1 held
popped held turned now len turned_is len_is now_is = now_is ∙ ap (λ n. take (n - 1) turned) len_is ∙ ap (λ (l : List ℕ). take (length l - 1) l) turned_is ∙ all_but held
  where
    front : (xs : List ℕ) (x : ℕ) → take (length xs) (xs ++ x ∷ []) ≡ xs
    front [] x = refl
    front (y ∷ ys) x = ap (λ zs. y ∷ zs) (front ys x)

    all_but : (xs : List ℕ) → take (length (drop 1 xs ++ take 1 xs) - 1) (drop 1 xs ++ take 1 xs) ≡ drop 1 xs
    all_but [] = refl
    all_but (x ∷ xs) = let many : length (xs ++ x ∷ []) - 1 ≡ length xs = simp length-append (omega arith) in ap (λ n. take n (xs ++ x ∷ [])) many ∙ front xs x

module _ {S : Type 0} (shown : S → Value) (old new : Me S PassView) (found : ℕ) (left : HasPutBack shown old (cell_of old.0.opened.sizes (first_slot old.1)) found new)
    (some : old.1 ≢ []) (owns_slots : OwnsSlots old.0.opened.sizes shown (values_of old.0) (still_owned (pass_of old.0)) old.1) where
  slots_then : new.1 ≡ rest old.1
  slots_then = subst (λ slot. went slot old.1 new.1)
      (slot_there old.0.opened.sizes (first_slot old.1) (first_within shown old.0.opened.sizes (values_of old.0) (still_owned (pass_of old.0)) old.1 some owns_slots)).0
      left.went

  pub left_fewer : length new.1 + 1 ≡ length old.1
  left_fewer = ap (λ (l : List (ℕ × S)). length l + 1) slots_then ∙ rest_fewer old.1 some

  pub left_still : OwnsSlots new.0.opened.sizes (λ value. value) (values_of new.0) (still_owned (pass_of new.0)) (shown_in shown new.1)
  left_still =
      subst (λ (o : Opened). OwnsSlots o.sizes (λ value. value) (values_of new.0) (still_owned (pass_of new.0)) (shown_in shown new.1)) (sym (ap (λ (v : PassView). v.opened) left.passed.is))
      (owns_slots_shown old.0.opened.sizes shown (values_of new.0) (still_owned (pass_of new.0)) new.1 left.owns_slots)

  pub left_pass : {drawn lost : Option ℕ} (number made joined : ℕ) (held held_now : List ℕ) (room room_now : ℕ) → IsPass old.0 old.1 number made joined held room drawn lost → held_now ≡ drop 1 held → room_now ≡ room
      → IsPass new.0 new.1 number made joined held_now room_now drawn lost
  left_pass number made joined held held_now room room_now is held_is room_is =
      pass_then old.0 new.0 (PutBack (cell_of old.0.opened.sizes (first_slot old.1))) found left.passed is.live number is.number_is is.mount new.0.seated new.0.ended new.1 made joined held_now room_now
      (λ zero. (let keeper = is.keeper zero in record {
        made_is = left.passed.made zero ∙ keeper.made_is;
        seated = ap (λ (v : PassView). v.seated) left.passed.is ∙ keeper.seated;
        few = keeper.few;
        taken = passed_taken old.0 new.0 (PutBack (cell_of old.0.opened.sizes (first_slot old.1))) found left.passed keeper.taken new.0 refl refl refl (left.passed.ended zero);
        count = keeper.count ∙ sym (ap (λ (v : PassView). length v.ended) left.passed.is);
      }))
      (λ slot more. ap (slot_times slot) slots_then ∙ rest_times slot old.1 (is.within slot more))
      left.owns_slots.each
      (ap (map (λ one. one.0)) slots_then ∙ rest_written old.1 ∙ ap (drop 1) is.written ∙ sym held_is)
      (let roomy = is.roomy in omega (arith, roomy, room_is)) is.drawn_is is.lost_is

-- ---- what was put back

pub puts_more : (cells : List (Word × ℕ)) (one : Word × ℕ) (old middle new : PassView) → PutsBack cells old middle → PutsBack (one ∷ []) middle new → PutsBack (cells ++ one ∷ []) old new
puts_more [] one old middle new back more = subst (λ v. PutsBack (one ∷ []) v new) back more
puts_more (first ∷ others) one old middle new back more = (back.0, back.1, puts_more others one back.0 middle new back.2 more)

pub puts_number : (cells : List (Word × ℕ)) (old new : PassView) → PutsBack cells old new → new.number ≡ old.number
puts_number [] old new back = ap (λ (v : PassView). v.number) back
puts_number (first ∷ others) old new back = puts_number others back.0 new back.2 ∙ ap (λ (v : PassView). v.number) back.1.is

pub puts_opened : (cells : List (Word × ℕ)) (old new : PassView) → PutsBack cells old new → new.opened ≡ old.opened
puts_opened [] old new back = ap (λ (v : PassView). v.opened) back
puts_opened (first ∷ others) old new back = puts_opened others back.0 new back.2 ∙ ap (λ (v : PassView). v.opened) back.1.is

pub puts_owned : (cells : List (Word × ℕ)) (old new : PassView) → PutsBack cells old new → (pass_of new).owned ≡ (pass_of old).owned
puts_owned [] old new back = ap (λ (v : PassView). (pass_of v).owned) back
puts_owned (first ∷ others) old new back = puts_owned others back.0 new back.2 ∙ ap (λ (p : Pass). p.owned) back.1.pass

-- pass 0 then knows of as many passes, and of the same that it took in
pub puts_made : (cells : List (Word × ℕ)) (old new : PassView) → PutsBack cells old new → old.number ≡ 0 → made_of new ≡ made_of old
puts_made [] old new back zero_is = ap made_of back
puts_made (first ∷ others) old new back zero_is = puts_made others back.0 new back.2 (ap (λ (v : PassView). v.number) back.1.is ∙ zero_is) ∙ back.1.made zero_is

pub puts_ended : (cells : List (Word × ℕ)) (old new : PassView) → PutsBack cells old new → new.ended ≡ old.ended
puts_ended [] old new back = ap (λ (v : PassView). v.ended) back
puts_ended (first ∷ others) old new back = puts_ended others back.0 new back.2 ∙ ap (λ (v : PassView). v.ended) back.1.is

-- what shows nothing is nothing
pub none_shown : {S : Type 0} (shown : S → Value) (slots : List (ℕ × S)) → shown_in shown slots ≡ [] → slots ≡ []
none_shown shown [] none = refl
none_shown shown (first ∷ others) none = absurd cc

-- a pass that owns nothing
pub bare_held : {S : Type 0} (shown : S → Value) (table : TableId) (me : Me S PassView) (spare : List Value) (pass : PassState)
    → record { table = table; view = me.0; now = shown_in shown me.1; spare = spare } ≡ pass
    → ((slot : ℕ) → slot < slot_total me.0.opened.sizes → slot_times slot me.1 ≡ times (cell_of me.0.opened.sizes slot) (still_owned (pass_of me.0)))
    → pass.now ≡ [] → IsShownStill pass
bare_held shown table me spare pass view each none =
    let bare : me.1 ≡ [] = none_shown shown me.1 (ap (λ (p : PassState). p.now) view ∙ none) in
    let still : IsShownStill (record { table = table; view = me.0; now = []; spare = spare }) = record {
      within = λ slot held one. absurd one;
      each = λ slot less. sym (ap (slot_times slot) bare) ∙ each slot less;
      shows = λ slot held one. absurd one;
    } in
    subst IsShownStill (ap (λ slots. record { table = table; view = me.0; now = shown_in shown slots; spare = spare }) (sym bare) ∙ view) still

-- a cell that keeps something has a slot
has_slot : (sizes : Sizes) (cell : Word) → keeps_something cell ≡ true → (slot : ℕ) × (slot_of_cell sizes cell ≡ Some slot)
has_slot sizes HEADER keeps = (0, refl)
has_slot sizes (ENTRY entry) keeps = (1 + entry, refl)
has_slot sizes (STORE file) keeps = (1 + sizes.entries + file, refl)
has_slot sizes (PAGE page) keeps = (1 + sizes.entries + sizes.files + page, refl)
has_slot sizes cell keeps = absurd cc

-- a pass that owns no slot's cell owns none that keeps something
pub owns_slots_none : StepsAreOnWords → (view : PassView) → IsMount (mount_of view.opened) → IsRunOf view.opened view.run
    → ((slot : ℕ) → slot < slot_total view.opened.sizes → times (cell_of view.opened.sizes slot) (still_owned (pass_of view)) ≡ 0)
    → (cell : Word) → keeps_something cell ≡ true → times cell (still_owned (pass_of view)) ≡ 0
owns_slots_none words view mount run none cell keeps = elim (cases_eq (times cell (pass_of view).owned) 0) [
  | inl bare ↦ still_owned_none cell (pass_of view) bare
  | inr some ↦
      let word : IsWord view.opened.sizes cell = owned_are_words words (mount_of view.opened) view.run mount run view.number cell some in
      let slot = has_slot view.opened.sizes cell keeps in
      let at = cell_there view.opened.sizes cell slot.0 word slot.1 in
      subst (λ c. times c (still_owned (pass_of view)) ≡ 0) at.1 (none slot.0 at.0)
]

-- ---- how many passes were taken in

distinct_op : (sizes : Sizes) (by : ℕ) (core : Core) (op : Op) → StepEnabled sizes by core op → AreDistinctNumbers core.ended → AreDistinctNumbers (ended_stepped op core.ended)
distinct_op sizes by core (Join number) may apart = (may.3, apart)
distinct_op sizes by core op may apart = apart

distinct_act : (sizes : Sizes) (by : ℕ) (core : Core) (act : Act) → ActEnabled sizes by core act → AreDistinctNumbers core.ended → AreDistinctNumbers (after_act sizes by act core).ended
distinct_act sizes by core (BeginsCall call op found) may apart = distinct_op sizes by (after_begin sizes by call core) op may.1.may apart
distinct_act sizes by core (TakesStep op found) may apart = distinct_op sizes by core op may.may apart
distinct_act sizes by core (CallsDevice work) may apart = apart

pub distinct_run : (sizes : Sizes) (core : Core) (run : List Event) → IsRun sizes core run → AreDistinctNumbers core.ended → AreDistinctNumbers (after_run sizes core run).ended
distinct_run sizes core [] is apart = apart
distinct_run sizes core (event ∷ later) is apart = distinct_run sizes (after_event sizes event core) later is.1 (distinct_act sizes event.by core event.act is.0.act apart)

-- no more than were made
pub few_taken : RunsAreSound → {S : Type 0} {drawn lost : Option ℕ} (view : PassView) (slots : List (ℕ × S)) (number made joined : ℕ) (held : List ℕ) (room : ℕ) → IsPass view slots number made joined held room drawn lost → view.number ≡ 0
    → joined ≤ made
few_taken sound view slots number made joined held room is zero_is =
    let keeper = is.keeper zero_is in
    let few = few_there (ended_of view) (made_of view) (distinct_run view.opened.sizes (opening (mount_of view.opened)) view.run is.run tt)
    (sound (mount_of view.opened) view.run is.mount is.run).numbers.ended in
    let many = ap length keeper.taken.same ∙ length-map view.ended (λ (past : Past). past.number) in
    omega (arith, few, many, keeper.count, keeper.made_is)

-- ---- a pass is taken in

pub joined_pass : {S : Type 0} {drawn lost : Option ℕ} (old last new : PassView) (found : ℕ) (slots : List (ℕ × S)) (number made count : ℕ) (held : List ℕ) (room : ℕ)
    → IsPass old slots number made count held room drawn lost → PassingTells (joined old last) (Join last.number) found new
    → last.opened ≡ old.opened → last.number ≤ (state_of last.opened last.run).made → SeesAll last.number last.run new.run → IsPass new slots number made (count + 1) held room drawn lost
joined_pass old last new found slots number made count held room is passed same_mount last_made all =
    pass_then (joined old last) new (Join last.number) found passed is.live number is.number_is is.mount new.seated new.ended slots made (count + 1) held room
    (λ zero. (let keeper = is.keeper zero in record {
      made_is = passed.made zero ∙ keeper.made_is;
      seated = ap (λ (v : PassView). v.seated) passed.is ∙ keeper.seated;
      few = keeper.few;
      taken = knows_joined old new.run keeper.taken (subst (λ (v : PassView). IsRunOf old.opened v.run) (sym passed.is) passed.is_run)
          (subst (λ (v : PassView). IsPrefix old.run v.run) (sym passed.is) (passed_begins (joined old last) new (Join last.number) found passed))
          new last (ap (λ (v : PassView). v.opened) passed.is) same_mount (ap (λ (v : PassView). v.ended) passed.is) refl (passed.ended zero) last_made all;
      count = ap (λ n. n + 1) keeper.count ∙ more old.ended ∙ sym (ap (λ (v : PassView). length v.ended) passed.is);
    }))
    is.within (λ slot less. is.each slot less ∙ sym (ap (λ p. times (cell_of old.opened.sizes slot) (still_owned p)) passed.pass)) is.written is.roomy is.drawn_is is.lost_is
  where
    more : (l : List Past) → length l + 1 ≡ length (past_of last ∷ l)
    more l = omega arith

-- the last of those that were taken in, if there is one
abbrev pub last_taken : List Past → Past
last_taken [] = record { number = 0; run = [] }
last_taken (past ∷ before) = past

pub may_join : {S : Type 0} {drawn lost : Option ℕ} (old last now : PassView) (slots : List (ℕ × S)) (number made count : ℕ) (held : List ℕ) (room : ℕ) → IsPass old slots number made count held room drawn lost
    → now ≡ joined old last → old.number ≡ 0 → (pass_of old).left ≡ [] → MayJoin now (last_taken now.ended) (drop 1 now.ended)
may_join old last now slots number made count held room is now_is zero_is staying =
    subst (λ (v : PassView). MayJoin v (last_taken v.ended) (drop 1 v.ended)) (sym now_is)
    record { zero = zero_is; staying = staying; last = refl; fresh = (is.keeper zero_is).taken.same }

pub passed_in : (old last now new : PassView) (found : ℕ) → now ≡ joined old last → PassingTells now (Join (last_taken now.ended).number) found new → PassingTells (joined old last) (Join last.number) found new
passed_in old last now new found now_is passed = subst (λ (v : PassView). PassingTells v (Join (last_taken v.ended).number) found new) now_is passed

pub is_taken_in : {S : Type 0} (shown : S → Value) (table table_now : TableId) (me me_now : Me S PassView) {spare : List Value} (pass other : PassState) (last : PassView) (cells : List (Word × ℕ)) (found : ℕ)
    → record { table = table; view = me.0; now = shown_in shown me.1; spare = spare } ≡ pass → PutsBack cells other.view last → table_now ≡ table → me_now.1 ≡ me.1
    → PassingTells (joined me.0 last) (Join last.number) found me_now.0 → SeesAll last.number last.run me_now.0.run → IsTakenIn pass other record { table = table_now; view = me_now.0; now = shown_in shown me_now.1; spare = spare }
is_taken_in shown table table_now me me_now {spare = spare} pass other last cells found view back table_is slots_are passed all = record {
  cells = cells;
  last = last;
  back = back;
  found = found;
  view = me_now.0;
  taken = subst (λ (v : PassView). PassingTells (joined v last) (Join other.view.number) found me_now.0) (ap (λ (p : PassState). p.view) view)
      (subst (λ n. PassingTells (joined me.0 last) (Join n) found me_now.0) (puts_number cells other.view last back) passed);
  is = ap (λ t. record { table = t; view = me_now.0; now = shown_in shown me_now.1; spare = spare }) table_is
      ∙ ap (λ slots. record { table = table; view = me_now.0; now = shown_in shown slots; spare = spare }) slots_are
      ∙ ap (λ (p : PassState). record p { view = me_now.0 }) view;
  behind = subst (λ n. SeesAll n last.run me_now.0.run) (puts_number cells other.view last back) all;
}
