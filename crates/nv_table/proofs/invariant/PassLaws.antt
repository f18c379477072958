-- Passes: what keeps a pass between its steps.
use Rattle.std.proofs.Common.{arith, ◌≡◌, refl, sym, ap, ap₂, ◌∙◌, subst, inl, inr, ℕ, ◌≤◌, ◌++◌, List, [], ◌∷◌, length, take, drop, append_assoc}
use Rattle.std.specs.Prelude.{Option}
use Rattle.std.proofs.lemmas.Bool.{cases_eq, cases_lt}
use Rattle.std.proofs.lemmas.List.{length-map}
use Rattle.nv_plain.specs.declared.call.FileCall.{FileCall}
use Rattle.atomic_table.specs.Table.{Me}
use Rattle.nv_core.specs.state.Words.{Word}
use Rattle.nv_core.specs.state.Values.{Value}
use Rattle.nv_core.specs.state.Passes.{IsOneOf, times}
use Rattle.nv_core.specs.steps.Ops.{Op, move_of}
use Rattle.nv_core.specs.invariant.InvariantLaws.{RunsAreSound}
use Rattle.nv_core.specs.steps.Opening.{IsMount}
use Rattle.nv_core.proofs.invariant.LockLaws.{only_holder}
use Rattle.nv_core.specs.invariant.OneHistory.{IsPrefix}
use Rattle.nv_core.specs.steps.Order.{Work}
use Rattle.nv_core.specs.steps.Events.{Act}
use Rattle.nv_table.specs.steps.SeatSteps.{SeatPostcondition, StepTells, act_of, events}
use Rattle.nv_table.specs.invariant.Drawn.{lost_of, drawn_of, or_else, inherited_of}
use Rattle.nv_table.specs.passes.Seats.{past_of}
use Rattle.nv_table.specs.state.Layout.{slot_total, cell_of}
use Rattle.nv_table.specs.state.Opened.{Opened, mount_of, IsRunOf}
use Rattle.nv_table.specs.invariant.BetweenSteps.{IsKeeper, IsPass, HasPlacesBack}
use Rattle.nv_table.specs.state.Views.{PassView, KnowsRun, pass_of, past_pass, still_owned, slot_times}
use Rattle.nv_table.specs.state.States.{shift_of}
use Rattle.nv_table.proofs.steps.OwnedSlotLaws.{few_left, slot_else}
use Rattle.nv_table.proofs.state.ShiftLaws.{shifted, moved_written}
use Rattle.nv_table.proofs.state.RoomLaws.{few_of}
use Rattle.nv_table.proofs.steps.TakenLaws.{knows_on}
use Rattle.nv_table.proofs.steps.TurnLaws.{times_turned, map_turned}

-- its slots may stand in another order
pub pass_turned : {S : Type 0} {drawn lost : Option ℕ} (view : PassView) (slots : List (ℕ × S)) (number made joined : ℕ) (held : List ℕ) (room i : ℕ)
    → IsPass view slots number made joined held room drawn lost
    → IsPass view (drop i slots ++ take i slots) number made joined (drop i held ++ take i held) room drawn lost
pass_turned view slots number made joined held room i is = record {
  live = is.live;
  number_is = is.number_is;
  mount = is.mount;
  run = is.run;
  known = is.known;
  keeper = is.keeper;
  within = λ slot more. times_turned slot i slots ∙ is.within slot more;
  each = λ slot less. times_turned slot i slots ∙ is.each slot less;
  written = map_turned (λ one. one.0) i slots ∙ ap (λ all. drop i all ++ take i all) is.written;
  roomy = is.roomy;
  drawn_is = is.drawn_is;
  lost_is = is.lost_is;
}

-- it has the same places in the same mount
pub same_places : {L B : Type 0} {opened now : Opened} {number part_places store_places : ℕ} {parts : List L} {stores : List B} → now ≡ opened
    → HasPlacesBack opened.sizes number parts part_places stores store_places → HasPlacesBack now.sizes number parts part_places stores store_places
same_places {number = number} {part_places = part_places} {store_places = store_places} {parts = parts} {stores = stores} same has =
    subst (λ (o : Opened). HasPlacesBack o.sizes number parts part_places stores store_places) (sym same) has

-- what it has inherited is that of those that it took in
pub same_inherited : {inherited : Option ℕ} (old new : PassView) → new.opened ≡ old.opened → new.ended ≡ old.ended → inherited ≡ inherited_of old.opened old.ended → inherited ≡ inherited_of new.opened new.ended
same_inherited old new opened ended is = is ∙ sym (ap₂ inherited_of opened ended)

pub joined_inherited : {drawn inherited : Option ℕ} (old last new : PassView) → new.opened ≡ old.opened → new.ended ≡ past_of last ∷ old.ended → last.opened ≡ old.opened → drawn ≡ drawn_of (pass_of last)
    → inherited ≡ inherited_of old.opened old.ended → or_else drawn inherited ≡ inherited_of new.opened new.ended
joined_inherited old last new opened ended same drawn_is inherited_is =
    ap₂ or_else (drawn_is ∙ ap (λ (o : Opened). drawn_of (past_pass o (past_of last))) same) inherited_is ∙ sym (ap₂ inherited_of opened ended)

-- ---- a step

none_there : {S : Type 0} (slots : List (ℕ × S)) (slot : ℕ) → ((held : S) → IsOneOf slots (slot, held) → ⊥) → slot_times slot slots ≡ 0
none_there [] slot none = refl
none_there (first ∷ rest) slot none = elim (cases_eq slot first.0) [
  | inl is ↦ absurd (none first.1 (inl (ap (λ n. (n, first.1)) is)))
  | inr ne ↦ slot_else slot first.0 first.1 rest ne ∙ none_there rest slot (λ held one. none held (inr one))
]

-- its run goes on behind what it had seen
pub step_begins : (old : PassView) (works : List Work) (act : Act) (new : PassView) → (steps : StepTells old works act new) → IsPrefix old.run (steps.run ++ events old.number works act)
step_begins old works act new steps = (
  steps.knew.all.rest ++ events old.number works act,
  ap (λ run. run ++ events old.number works act) steps.knew.all.goes_on ∙ append_assoc old.run steps.knew.all.rest (events old.number works act),
)

-- A step keeps it, and the pass writes down which slot moved.
pub pass_acted : {S : Type 0} {drawn lost drawn_now lost_now : Option ℕ} (shown : S → Value) (view : PassView) (slots : List (ℕ × S)) (number made joined : ℕ) (held : List ℕ) (room : ℕ)
    (opens : Option FileCall) (op : Op) (found : ℕ) (new : Me S PassView)
    → IsPass view slots number made joined held room drawn lost → SeatPostcondition shown (view, slots) opens op found new
    → drawn_now ≡ drawn_of (pass_of new.0) → lost_now ≡ lost_of (pass_of new.0).faulted
    → IsPass new.0 new.1 number made joined (shifted (shift_of view.opened.sizes (move_of view.opened.sizes op found)) held) room drawn_now lost_now
pass_acted shown view slots number made joined held room opens op found new is acted drawn_is lost_is = record {
  live = ap (λ (s : PassView). s.live) acted.steps.is ∙ is.live;
  number_is = is.number_is ∙ sym same_number;
  mount = subst (λ o. IsMount (mount_of o)) (sym same_mount) is.mount;
  run = subst (λ (s : PassView). IsRunOf s.opened s.run) (sym acted.steps.is) acted.steps.is_run;
  known = subst (λ o. KnowsRun o new.0.run new.0) (sym same_mount) acted.knows;
  keeper = keeper;
  within = λ slot more. none_there new.1 slot (λ one is_one. let less = acted.owns_slots.within slot one is_one in let at = ap (λ o. slot_total o.sizes) same_mount in omega (arith, more, less, at));
  each = λ slot less. acted.owns_slots.each slot (let at = ap (λ o. slot_total o.sizes) same_mount in omega (arith, less, at))
      ∙ ap (λ o. times (cell_of o.sizes slot) (still_owned (pass_of new.0))) (sym same_mount);
  written = moved_written view.opened.sizes (move_of view.opened.sizes op found) slots new.1 acted.moved
      ∙ ap (shifted (shift_of view.opened.sizes (move_of view.opened.sizes op found))) is.written;
  roomy = subst (λ o. slot_total o.sizes ≤ room) (sym same_mount) is.roomy;
  drawn_is = drawn_is;
  lost_is = lost_is;
}
  where
    same_mount : new.0.opened ≡ view.opened
    same_mount = ap (λ (s : PassView). s.opened) acted.steps.is

    same_number : new.0.number ≡ view.number
    same_number = ap (λ (s : PassView). s.number) acted.steps.is

    keeper : new.0.number ≡ 0 → IsKeeper new.0 made joined
    keeper zero =
        let number_zero : view.number ≡ 0 = sym same_number ∙ zero in
        let old = is.keeper number_zero in
        record {
          made_is = acted.made number_zero ∙ old.made_is;
          seated = ap (λ (s : PassView). s.seated) acted.steps.is ∙ old.seated;
          few = old.few;
          taken = knows_on view (acted.steps.run ++ events view.number acted.works (act_of opens op found)) old.taken acted.steps.is_run
              (step_begins view acted.works (act_of opens op found) new.0 acted.steps) new.0 same_mount (ap (λ (s : PassView). s.ended) acted.steps.is) (ap (λ (s : PassView). s.run) acted.steps.is) (acted.ended number_zero);
          count = old.count ∙ ap (λ (s : PassView). length s.ended) (sym acted.steps.is);
        }

-- What a pass has written down is no more than it has room for: its slots are those of cells that it owns, each there once.
pub pass_fits : {S : Type 0} {drawn lost : Option ℕ} (view : PassView) (slots : List (ℕ × S)) (number made joined : ℕ) (held : List ℕ) (room : ℕ) → RunsAreSound
    → IsPass view slots number made joined held room drawn lost → length held ≤ room
pass_fits view slots number made joined held room runs is =
    let few = few_of slots (slot_total view.opened.sizes) once is.within in
    let many : length slots ≡ length held = sym (length-map slots (λ one. one.0)) ∙ ap length is.written in
    let roomy = is.roomy in omega (arith, few, many, roomy)
  where
    once_held : (cell : Word) → times cell (pass_of view).owned ≤ 1
    once_held cell = elim (cases_lt 1 (times cell (pass_of view).owned)) [
      | inl more ↦
          let one = (only_holder ((runs (mount_of view.opened) view.run is.mount is.run).locks.keyed cell) view.number (omega (arith, more))).1 in
          omega (arith, one)
      | inr few ↦ few
    ]

    once : (slot : ℕ) → slot_times slot slots ≤ 1
    once slot = elim (cases_lt slot (slot_total view.opened.sizes)) [
      | inl low ↦
          let e = is.each slot low in
          let few = few_left (cell_of view.opened.sizes slot) (pass_of view).left (pass_of view).owned in
          let one = once_held (cell_of view.opened.sizes slot) in
          omega (arith, e, few, one)
      | inr high ↦ let none = is.within slot high in omega (arith, none)
    ]
