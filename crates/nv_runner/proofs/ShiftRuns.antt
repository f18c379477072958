-- Shifts in a run: what their passes had drawn by then.
use Rattle.std.proofs.Common.{◌≡◌, ℕ, ◌≤◌, ◌==◌, List, [], ◌∷◌, ◌++◌, inl, inr, false, refl, sym, ap, subst, ◌∙◌, arith, append-nil}
use Rattle.std.specs.Prelude.{Option}
use Rattle.std.proofs.lemmas.Bool.{ne_eqb}
use Rattle.std.proofs.lemmas.List.{append_assoc}
use Rattle.std.proofs.lemmas.List.Elements.{All-nil}
use Rattle.nv_core.specs.state.Passes.{IsOneOf}
use Rattle.nv_core.specs.state.Words.{Sizes}
use Rattle.nv_core.specs.steps.Events.{Event, own}
use Rattle.nv_core.specs.steps.Opening.{IsMount, opening}
use Rattle.nv_core.specs.invariant.Draws.{drawn_of, DrawsGrow, OnlyOwnEventsDraw}
use Rattle.nv_core.specs.invariant.OneHistory.{IsPrefix}
use Rattle.nv_core.proofs.state.Choices.{when_false}
use Rattle.nv_core.proofs.steps.FrameLaws.{others_all}
use Rattle.nv_core.proofs.steps.RunLaws.{run_parts}
use Rattle.nv_table.specs.state.Opened.{Opened, IsRunOf, mount_of, state_of}
use Rattle.nv_table.specs.state.States.{PassState}
use Rattle.nv_table.specs.state.Views.{SeesAll, pass_of}
use Rattle.nv_mount.specs.declared.fds.Fd.{Fd}
use Rattle.nv_runner.specs.Calls.{IsAnswered}
use Rattle.nv_runner.specs.Lists.{AreMade, MadeCall}
use Rattle.nv_runner.specs.Runs.{GoesOn, entries_drawn, is_cleaning}
use Rattle.nv_runner.specs.Shifts.{IsShift, Shift}
use Rattle.nv_runner.proofs.draws.DrawnSums.{drew}
use Rattle.nv_runner.proofs.histories.HistorySums.{added}
use Rattle.nv_runner.proofs.TryLaws.{on_both}

-- ---- a call among those of a pass

-- It was answered in its turn, with the calls before and behind it.
pub record MadeAt (fds : List Fd) (worker : Option ℕ) (made : List MadeCall) (m : MadeCall) (start last : PassState) : Type 0 where
  pub before : List MadeCall
  pub after : List MadeCall
  pub old : PassState
  pub now : PassState
  pub are : made ≡ before ++ m ∷ after
  pub first : AreMade fds worker before start old
  pub told : IsAnswered fds worker m.call.call old now m.answer
  pub rest : AreMade fds worker after now last

pub made_at_one : (fds : List Fd) (worker : Option ℕ) (made : List MadeCall) (m : MadeCall) (start last : PassState) → AreMade fds worker made start last → IsOneOf made m → MadeAt fds worker made m start last
made_at_one fds worker [] m start last all one = absurd one
made_at_one fds worker (first ∷ later) m start last all (inl is) = record {
  before = [];
  after = later;
  old = start;
  now = all.0;
  are = ap (λ c. c ∷ later) (sym is);
  first = refl;
  told = subst (λ (c : MadeCall). IsAnswered fds worker c.call.call start all.0 c.answer) (sym is) all.1;
  rest = all.2;
}
made_at_one fds worker (first ∷ later) m start last all (inr one) =
    let found = made_at_one fds worker later m all.0 last all.2 one in
    record {
      before = first ∷ found.before;
      after = found.after;
      old = found.old;
      now = found.now;
      are = ap (λ l. first ∷ l) found.are;
      first = (all.0, all.1, found.first);
      told = found.told;
      rest = found.rest;
    }

-- ---- the run of some calls

-- what some calls have drawn
abbrev pub drawn_in : Sizes → List MadeCall → ℕ
drawn_in sizes made = added (drew sizes) made

pub record Chain (worker : Option ℕ) (many : ℕ) (start last : PassState) : Type 0 where
  pub on : GoesOn worker many start last
  pub opened : last.view.opened ≡ start.view.opened
  pub number : last.view.number ≡ start.view.number

pub on_none : (worker : Option ℕ) (start last : PassState) → last ≡ start → GoesOn worker 0 start last
on_none worker start last same = record {
  more = [];
  run = ap (λ (p : PassState). p.view.run) same ∙ sym (append-nil start.view.run);
  drawn = (let is = ap (λ (p : PassState). drawn_of p.view.opened.sizes (pass_of p.view)) same in omega (arith, is));
  calls = λ none. All-nil (λ (event : Event). event.by ≡ start.view.number → is_cleaning event.act ≡ false);
}

one_on : (worker : Option ℕ) (sizes : Sizes) (m : MadeCall) (old now : PassState) → now.view.opened.sizes ≡ sizes → GoesOn worker (entries_drawn now.view.opened.sizes m.call.call m.answer) old now → GoesOn worker (drew sizes m) old now
one_on worker sizes m old now same on = subst (λ s. GoesOn worker (entries_drawn s m.call.call m.answer) old now) same on

pub chain : (fds : List Fd) (worker : Option ℕ) (sizes : Sizes) (made : List MadeCall) (start last : PassState) → start.view.opened.sizes ≡ sizes → AreMade fds worker made start last → Chain worker (drawn_in sizes made) start last
chain fds worker sizes [] start last same all =
    record { on = on_none worker start last all; opened = ap (λ (p : PassState). p.view.opened) all; number = ap (λ (p : PassState). p.view.number) all }
chain fds worker sizes (m ∷ later) start last same all =
    let middle = all.0 in
    let told = all.1 in
    let then_ : middle.view.opened.sizes ≡ sizes = ap (λ (o : Opened). o.sizes) told.opened ∙ same in
    let rest = chain fds worker sizes later middle last then_ all.2 in
    record {
      on = on_both worker (drew sizes m) (drawn_in sizes later) start middle last told.later.number (one_on worker sizes m start middle then_ told.on) rest.on;
      opened = rest.opened ∙ told.opened;
      number = rest.number ∙ told.later.number;
    }

-- ---- what a pass has drawn in a run

-- none of its own events is in a first part of a run that has none
own_first : (number : ℕ) (first rest : List Event) → own number (first ++ rest) ≡ [] → own number first ≡ []
own_first number [] rest none = refl
own_first number (event ∷ later) rest none =
    let apart = others_all number event (later ++ rest) none in
    when_false (event.by == number) (event ∷ own number later) (own number later) (ne_eqb event.by number (λ is. apart.0 (sym is))) ∙ own_first number later rest apart.1

pub record DrawnLaws : Type 0 where
  pub grow : DrawsGrow
  pub own : OnlyOwnEventsDraw

module _ (laws : DrawnLaws) (opened : Opened) (mount : IsMount (mount_of opened)) where
  abbrev pub drawn : (number : ℕ) → (run : List Event) → ℕ
  drawn number run = drawn_of opened.sizes ((state_of opened run).passes number)

  pub drawn_less : (number : ℕ) (first run : List Event) → IsPrefix first run → IsRunOf opened run → drawn number first ≤ drawn number run
  drawn_less number first run begins is_run =
      subst (λ r. drawn number first ≤ drawn number r) (sym begins.1) (laws.grow (mount_of opened) number first begins.0 mount (subst (IsRunOf opened) begins.1 is_run))

  pub drawn_same : (number : ℕ) (first run : List Event) → SeesAll number first run → IsRunOf opened run → drawn number run ≡ drawn number first
  drawn_same number first run all is_run =
      ap (drawn number) all.goes_on ∙ laws.own (mount_of opened) number first all.rest mount (subst (IsRunOf opened) all.goes_on is_run) all.quiet

  pub drawn_none : (number : ℕ) (first run : List Event) → IsPrefix first run → IsRunOf opened run → own number first ≡ [] → drawn number first ≡ 0
  drawn_none number first run begins is_run none =
      let part = (run_parts opened.sizes (opening (mount_of opened)) first begins.0 (subst (IsRunOf opened) begins.1 is_run)).0 in
      let same = laws.own (mount_of opened) number [] first mount part none in
      let zero : drawn number [] ≡ 0 = omega arith in same ∙ zero

  pub drawn_absent : (number : ℕ) (first run : List Event) → IsPrefix first run → IsRunOf opened run → own number run ≡ [] → drawn number first ≡ 0
  drawn_absent number first run begins is_run none =
      drawn_none number first run begins is_run (own_first number first begins.0 (ap (own number) (sym begins.1) ∙ none))

  pub drawn_here : (pass : PassState) → pass.view.opened ≡ opened → drawn_of pass.view.opened.sizes (pass_of pass.view) ≡ drawn pass.view.number pass.view.run
  drawn_here pass same = ap (λ (o : Opened). drawn_of o.sizes ((state_of o pass.view.run).passes pass.view.number)) same

  -- ---- a shift

  -- What its pass drew before it, by its end, and how it lies in the run.
  pub record ShiftDraws (shift : Shift) (run : List Event) : Type 0 where
    pub lies : IsPrefix shift.start.view.run run
    pub begins : drawn shift.now.view.number shift.start.view.run ≡ 0
    pub ends : drawn shift.now.view.number run ≡ drawn_in opened.sizes shift.made

  pub shift_draws : (fds : List Fd) (worker : Option ℕ) (shift : Shift) (run : List Event) → IsShift fds worker opened shift → SeesAll shift.now.view.number shift.now.view.run run → IsRunOf opened run → ShiftDraws shift run
  shift_draws fds worker shift run is all is_run =
      let start = shift.start in
      let now = shift.now in
      let made = chain fds worker opened.sizes shift.made start is.last (ap (λ (o : Opened). o.sizes) is.mount) is.made in
      let more : now.view.run ≡ start.view.run ++ (made.on.more ++ is.on.more) = is.on.run ∙ ap (λ r. r ++ is.on.more) made.on.run ∙ append_assoc start.view.run made.on.more is.on.more in
      let whole : run ≡ start.view.run ++ ((made.on.more ++ is.on.more) ++ all.rest) = all.goes_on ∙ ap (λ r. r ++ all.rest) more ∙ append_assoc start.view.run (made.on.more ++ is.on.more) all.rest in
      let none : drawn start.view.number start.view.run ≡ 0 = drawn_none start.view.number start.view.run run ((made.on.more ++ is.on.more) ++ all.rest, whole) is_run is.unborn in
      let first = drawn_here start is.mount in
      let last = drawn_here now is.still_mount in
      let one = made.on.drawn in
      let other = is.on.drawn in
      let there = drawn_same now.view.number now.view.run run all is_run in
      record {
        lies = ((made.on.more ++ is.on.more) ++ all.rest, whole);
        begins = ap (λ n. drawn n start.view.run) is.number ∙ none;
        ends = omega (arith, none, first, last, one, other, there);
      }
