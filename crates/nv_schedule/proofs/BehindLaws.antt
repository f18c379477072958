-- Behind: a step that its pass makes between two looks at a view comes behind the run that the view tells.
use Rattle.std.proofs.Common.{◌≡◌, ℕ, suc, ◌+◌, ◌≤◌, nat_lt, Bool, true, false, if◌then◌else◌, List, [], ◌∷◌, ◌++◌, length, inl, inr, refl, sym, ap, subst, ◌∙◌, arith, eq-eqb, length-append, ltb-false, ltb-true}
use Rattle.std.proofs.lemmas.List.{append-nil, append_assoc}
use Rattle.nv_core.specs.invariant.OneHistory.{IsPrefix}
use Rattle.nv_core.specs.steps.Events.{Act, CallsDevice, Event, own}
use Rattle.nv_core.specs.steps.Order.{Work}
use Rattle.nv_table.proofs.state.ViewLaws.{own_both}
use Rattle.nv_table.specs.passes.Moments.{SharesMoment, longer}
use Rattle.nv_table.specs.state.States.{PassState}
use Rattle.nv_table.specs.state.Views.{PassView, SeesAll}
use Rattle.nv_table.specs.steps.SeatSteps.{act_of, events}
use Rattle.nv_mirror.specs.PassSteps.{HasTaken, PassStep}
use Rattle.nv_schedule.specs.Orders.{ComeBehind, InTurn}
use Rattle.std.specs.Prelude.{Result, Ok, Err, IfOk}
use Rattle.nv_plain.specs.declared.memory.NoMemory.{NoMemory}
use Rattle.nv_mount.specs.declared.fds.Fd.{Fd}
use Rattle.nv_schedule.specs.Turns.{CallerState, MovesBy, TurnTells, events_of}
use Rattle.nv_schedule.specs.declared.turned.Turned.{Turned}
use Rattle.nv_schedule.proofs.OrderLaws.{in_turn_both, in_turn_more}

-- ---- first parts

-- of two first parts of one run the shorter one is a first part of the other
ordered : (xs a ys b : List Event) → xs ++ a ≡ ys ++ b → length xs ≤ length ys → IsPrefix xs ys
ordered [] a ys b same few = (ys, refl)
ordered (x ∷ xs) a [] b same few = absurd (omega (arith, few))
ordered (x ∷ xs) a (y ∷ ys) b same few =
    let first : x ≡ y = cc in
    let again = ordered xs a ys b (cc) (omega (arith, few)) in
    (again.0, ap (λ e. e ∷ ys) (sym first) ∙ ap (λ l. x ∷ l) again.1)

pub begins_both : (xs ys zs : List Event) → IsPrefix xs ys → IsPrefix ys zs → IsPrefix xs zs
begins_both xs ys zs a b = (a.0 ++ b.0, b.1 ∙ ap (λ l. l ++ b.0) a.1 ∙ append_assoc xs a.0 b.0)

module _ (one other run : List Event) (a : IsPrefix one run) (b : IsPrefix other run) where
  chosen : (c : Bool) → nat_lt (length one) (length other) ≡ c
      → IsPrefix one (if c then other else one) × IsPrefix other (if c then other else one) × IsPrefix (if c then other else one) run
  chosen true is = (ordered one a.0 other b.0 (sym a.1 ∙ b.1) (let l = ltb-true (length one) (length other) is in omega (arith, l)), ([], sym (append-nil other)), b)
  chosen false is = (([], sym (append-nil one)), ordered other b.0 one a.0 (sym b.1 ∙ a.1) (ltb-false (length one) (length other) is), a)

  longer_begins : IsPrefix one (longer one other) × IsPrefix other (longer one other) × IsPrefix (longer one other) run
  longer_begins = chosen (nat_lt (length one) (length other)) refl

pub in_turn_on : (trail xs ys : List Event) → IsPrefix xs ys → InTurn trail xs → InTurn trail ys
in_turn_on trail xs ys begins turn = subst (InTurn trail) (sym begins.1) (in_turn_more trail xs begins.0 turn)

-- ---- the events of a step

pub own_if : (number : ℕ) (event : Event) (later : List Event) → event.by ≡ number → own number (event ∷ later) ≡ event ∷ own number later
own_if number event later is = ap (λ (b : Bool). if b then event ∷ own number later else own number later) (eq-eqb event.by number is)

pub own_all : (number : ℕ) (works : List Work) (act : Act) → own number (events number works act) ≡ events number works act
own_all number [] act = own_if number (record { by = number; act = act }) [] refl
own_all number (work ∷ later) act = own_if number (record { by = number; act = CallsDevice work }) (events number later act) refl ∙ ap (λ l. record { by = number; act = CallsDevice work } ∷ l) (own_all number later act)

some_first : (number : ℕ) (works : List Work) (act : Act) → (first : Event) × (later : List Event) × (events number works act ≡ first ∷ later) × (first.by ≡ number)
some_first number [] act = (record { by = number; act = act }, [], refl, refl)
some_first number (work ∷ more) act = (record { by = number; act = CallsDevice work }, events number more act, refl, refl)

-- A pass has made these events, behind a run in which it had made no more than it had seen.
pub record MadeOne (made : List Event) (old new : PassState) : Type 0 where
  pub run : List Event
  pub is : new.view.run ≡ run ++ made
  pub before : own old.view.number run ≡ own old.view.number old.view.run
  pub first : Event
  pub later : List Event
  pub made_is : made ≡ first ∷ later
  pub first_by : first.by ≡ old.view.number
  pub all : own old.view.number made ≡ made
  pub number : new.view.number ≡ old.view.number

pub own_seen : (number : ℕ) (seen run : List Event) → SeesAll number seen run → own number run ≡ own number seen
own_seen number seen run all = ap (own number) all.goes_on ∙ own_both number seen all.rest ∙ ap (λ l. own number seen ++ l) all.quiet ∙ append-nil (own number seen)

pub made_one : (step : PassStep) (old new : PassState) → HasTaken step old new → MadeOne (events_of old.view.number step) old new
made_one step old new taken = subst (λ (v : PassView). MadeOne (events_of v.number step) (record old { view = v }) new) taken.between.view (go taken.stepped.works taken.works_are)
  where
    go : (works : List Work) → taken.stepped.works ≡ step.works → MadeOne (events_of taken.before.view.number step) (record old { view = taken.before.view }) new
    go works is =
        let tells = taken.stepped.steps in
        let some = some_first taken.before.view.number step.works (act_of step.opens step.op step.found) in
        record {
          run = tells.run;
          is = ap (λ (v : PassView). v.run) tells.is ∙ ap (λ w. tells.run ++ events taken.before.view.number w (act_of step.opens step.op step.found)) is;
          before = own_seen taken.before.view.number taken.before.view.run tells.run tells.knew.all;
          first = some.0;
          later = some.1;
          made_is = some.2;
          first_by = some.3;
          all = own_all taken.before.view.number step.works (act_of step.opens step.op step.found);
          number = ap (λ (v : PassView). v.number) tells.is;
        }

-- a run that goes on past another one with a pass's event has one more of the pass
same_behind : (xs ys zs : List Event) → xs ++ ys ≡ xs ++ zs → ys ≡ zs
same_behind [] ys zs same = same
same_behind (x ∷ xs) ys zs same = same_behind xs ys zs (cc)

past_more : (number : ℕ) (run past rest made others : List Event) (first : Event) (later : List Event) → made ≡ first ∷ later → first.by ≡ number → run ++ (past ++ rest) ≡ run ++ (made ++ others) → 1 ≤ length past
    → length (own number run) + 1 ≤ length (own number (run ++ past))
past_more number run [] rest made others first later is by same some = absurd (omega (arith, some))
past_more number run (event ∷ past) rest made others first later is by same some =
    let behind : event ∷ (past ++ rest) ≡ first ∷ (later ++ others) = same_behind run (event ∷ (past ++ rest)) (made ++ others) same ∙ ap (λ l. l ++ others) is in
    let one : event ≡ first = cc in
    let all = ap length (own_both number run (event ∷ past) ∙ ap (λ l. own number run ++ l) (own_if number event past (ap (λ (e : Event). e.by) one ∙ by))) in
    let both = length-append (own number run) (event ∷ own number past) in
    omega (arith, all, both)

-- ---- in order

module _ (before : List Event) (old new : PassState) (shares : SharesMoment old.view before) (shares_then : SharesMoment new.view (longer old.view.run before)) where
  middle : List Event
  middle = longer old.view.run before

  seen_begins : IsPrefix old.view.run shares.run
  seen_begins = (shares.knows.all.rest, shares.knows.all.goes_on)

  middle_is : IsPrefix old.view.run (longer old.view.run before) × IsPrefix before (longer old.view.run before) × IsPrefix (longer old.view.run before) shares.run
  middle_is = longer_begins old.view.run before shares.run seen_begins shares.begins

  after_is : IsPrefix new.view.run (longer new.view.run (longer old.view.run before)) × IsPrefix (longer old.view.run before) (longer new.view.run (longer old.view.run before)) × IsPrefix (longer new.view.run (longer old.view.run before)) shares_then.run
  after_is = longer_begins new.view.run (longer old.view.run before) shares_then.run (shares_then.knows.all.rest, shares_then.knows.all.goes_on) shares_then.begins

  -- the view tells none of its later events
  few : length (own old.view.number (longer old.view.run before)) ≤ length (own old.view.number old.view.run)
  few =
      let whole = ap length (ap (own old.view.number) middle_is.2.1 ∙ own_both old.view.number (longer old.view.run before) middle_is.2.0) in
      let both = length-append (own old.view.number (longer old.view.run before)) (own old.view.number middle_is.2.0) in
      let seen = ap length (own_seen old.view.number old.view.run shares.run shares.knows.all) in
      omega (arith, whole, both, seen)

  module _ (made : List Event) (one : MadeOne made old new) where
    both_are : one.run ++ (made ++ shares_then.knows.all.rest) ≡ longer old.view.run before ++ shares_then.begins.0
    both_are =
        sym (append_assoc one.run made shares_then.knows.all.rest) ∙ ap (λ l. l ++ shares_then.knows.all.rest) (sym one.is) ∙ sym shares_then.knows.all.goes_on ∙ shares_then.begins.1

    -- so the view's run is a first part of that before the step
    not_past : suc (length one.run) ≤ length (longer old.view.run before) → ⊥
    not_past more =
        let past = ordered one.run (made ++ shares_then.knows.all.rest) (longer old.view.run before) shares_then.begins.0 both_are (omega (arith, more)) in
        let most = few in
        let own_run = ap length one.before in
        let longer_still = past_more old.view.number one.run past.0 shares_then.begins.0 made shares_then.knows.all.rest one.first one.later one.made_is one.first_by
        (sym (append_assoc one.run past.0 shares_then.begins.0) ∙ ap (λ l. l ++ shares_then.begins.0) (sym past.1) ∙ sym both_are)
        (let l = ap length past.1 in let b = length-append one.run past.0 in omega (arith, more, l, b)) in
        let is = ap (λ l. length (own old.view.number l)) past.1 in
        omega (arith, most, own_run, longer_still, is)

    goes_before : IsPrefix (longer old.view.run before) one.run
    goes_before = by (nat_lt (length one.run) (length (longer old.view.run before))) refl
      where
        by : (b : Bool) → nat_lt (length one.run) (length (longer old.view.run before)) ≡ b → IsPrefix (longer old.view.run before) one.run
        by true is = absurd (not_past (let l = ltb-true (length one.run) (length (longer old.view.run before)) is in omega (arith, l)))
        by false is = ordered (longer old.view.run before) shares_then.begins.0 one.run (made ++ shares_then.knows.all.rest) (sym both_are) (ltb-false (length one.run) (length (longer old.view.run before)) is)

  step_behind : (made : List Event) → MadeOne made old new → ComeBehind made before (longer new.view.run (longer old.view.run before))
  step_behind made one trail turn =
      in_turn_on (trail ++ made) new.view.run (longer new.view.run (longer old.view.run before)) after_is.0
      (subst (InTurn (trail ++ made)) (sym one.is)
      (in_turn_both trail one.run made (in_turn_on trail before one.run (begins_both before (longer old.view.run before) one.run middle_is.1 (goes_before made one)) turn)))

  pub comes_behind : {allowed : Type 0} (made : List Event) → MovesBy allowed made old new → ComeBehind made before (longer new.view.run (longer old.view.run before))
  comes_behind made (inl none) trail turn =
      subst (λ l. InTurn l (longer new.view.run (longer old.view.run before))) (sym (ap (λ l. trail ++ l) none.1 ∙ append-nil trail))
      (in_turn_on trail before (longer new.view.run (longer old.view.run before)) (begins_both before (longer old.view.run before) (longer new.view.run (longer old.view.run before)) middle_is.1 after_is.1) turn)
  comes_behind made (inr step) trail turn = step_behind made (subst (λ l. MadeOne l old new) (sym step.2) (made_one step.0 old new step.1)) trail turn

-- a caller's advance between two looks
pub turned_behind : (fds : List Fd) (result : Result Turned NoMemory) (old mid turned new : CallerState) (view before after : List Event) → mid ≡ old → turned ≡ new → before ≡ longer old.pass.view.run view
    → after ≡ longer new.pass.view.run before → SharesMoment old.pass.view view → SharesMoment new.pass.view before → IfOk result (λ told. (made : List Event) × TurnTells fds told made mid turned)
    → IfOk result (λ told. (made : List Event) × TurnTells fds told made old new × ComeBehind made view after)
turned_behind fds (Err none) old mid turned new view before after same same_new before_is after_is_ shares shares_then told = tt
turned_behind fds (Ok how) old mid turned new view before after same same_new before_is after_is_ shares shares_then told =
    let one = subst (λ (from : CallerState). TurnTells fds how told.0 from new) same (subst (λ (to : CallerState). TurnTells fds how told.0 mid to) same_new told.1) in (
      told.0,
      one,
      subst (ComeBehind told.0 view) (sym (after_is_ ∙ ap (longer new.pass.view.run) before_is))
          (comes_behind view old.pass new.pass shares (subst (SharesMoment new.pass.view) before_is shares_then) told.0 one.turn.moved),
    )
