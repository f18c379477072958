-- Seats: the steps between passes keep the invariant.
use Rattle.std.proofs.Common.{◌≡◌, ◌≢◌, ◌⊎◌, ℕ, zero, suc, ◌+◌, ◌<◌, ◌≤◌, true, List, [], ◌∷◌, length, drop, Option, Some, None, inl, inr, refl, sym, ap, subst, ◌∙◌, arith}
use Rattle.std.specs.Prelude.{slice_index, slice_set}
use Rattle.std.proofs.lemmas.Bool.{cases_eq}
use mathlib.Core.Option.{Option as Home, some, none, some-injective, some-ne-none}
use lib.ListN.{get_elem?}
use Rattle.atomic_table.specs.Table.{State, Me, Act, keeps, gives, carried_after, put_back, rest, Valid, stepped, Allows}
use Rattle.atomic_table.proofs.Lists.{set_here, set_else}
use Rattle.nv_core.specs.state.Words.{Word, IsWord, keeps_something}
use Rattle.nv_core.specs.state.Values.{Value}
use Rattle.nv_core.specs.state.Passes.{Pass, IsOneOf, times, without}
use Rattle.nv_core.specs.steps.Ops.{Split, PutBack, Join}
use Rattle.nv_core.specs.state.Core.{Core}
use Rattle.nv_core.specs.steps.Events.{EventEnabled}
use Rattle.nv_core.specs.invariant.Sound.{Sound}
use Rattle.nv_core.proofs.state.Changes.{by_number, number_here, number_else}
use Rattle.nv_core.proofs.invariant.LockLaws.{only_holder, times_without, times_without_else}
use Rattle.nv_table.specs.state.Layout.{slot_total, slot_of_cell, cell_of}
use Rattle.nv_table.specs.state.Opened.{Opened, mount_of, state_of}
use Rattle.nv_table.specs.state.Views.{SeesAll, Past, PassView, pass_of, values_of, made_of, numbers, still_owned, OwnsSlots, AreDistinctNumbers}
use Rattle.nv_table.specs.steps.SeatSteps.{went, IsFirst}
use Rattle.nv_table.specs.invariant.TableInvariant.{IsKept, AtHome, OutWith, IsTakenInWhole, KeeperKnows, TableInvariant}
use Rattle.nv_table.specs.passes.Seats.{after_passing, PassingTells, MaySplit, MayPutBack, HasPutBack, MayJoin}
use Rattle.nv_table.specs.invariant.CoreLaws.{CoreLaws}
use Rattle.nv_table.proofs.state.LayoutLaws.{cell_there}
use Rattle.nv_table.proofs.passes.LeftLaws.{times_left, still_owned_in_owned, left_within, owned_are_words}
use Rattle.nv_table.proofs.steps.OwnedSlotLaws.{owns_slots_kept, owns_slots_cells, owns_slots_given, cell_apart, cells_apart}
use Rattle.nv_table.proofs.state.ViewLaws.{made_seen}
use Rattle.nv_table.proofs.invariant.Going.{after_one, told_of, sees_more}
use Rattle.nv_table.proofs.invariant.PassingKeepsInvariant.{kept_same, stop_same, tells_of, is_made, found_is, event_of, then_of, next_of, passed_of, shows_then}

-- ---- what a step gives

-- a new view and an act, that keep the invariant
abbrev Goes : {S : Type 0} → (State S PassView → Type 0) → State S PassView → (id : ℕ) → Me S PassView → (ℕ → Me S PassView → Type 0) → Type 0
Goes {S = S} holds s id old told =
    (w : PassView) × (a : Act S) × Valid s.homes old.1 a × holds (stepped s 0 (slice_index s.words 0) id old.1 w a) × told (slice_index s.words 0) (w, carried_after old.1 a)

-- the state at the end of the run is sound
sound_of : {S : Type 0} (laws : CoreLaws) (shown : S → Value) (opened : Opened) (s : State S PassView) (shows : TableInvariant shown opened s) → Sound opened.sizes (mount_of opened).values (state_of opened shows.run)
sound_of laws shown opened s shows = laws.runs (mount_of opened) shows.run shows.mount shows.is_run

-- ---- a new pass

module _ {S : Type 0} (laws : CoreLaws) (shown : S → Value) (s : State S PassView) (id : ℕ) (old : Me S PassView) (shows : TableInvariant shown old.0.opened s) (at : get_elem? s.views id ≡ some old.0) (live : old.0.live ≡ true) where
  module _ (may : MaySplit old.0) where
    split_come : EventEnabled old.0.opened.sizes (event_of laws shown s id old.0 shows at live Split) (state_of old.0.opened shows.run)
    split_come = record {
      made = is_made laws shown s id old.0 shows at live;
      there = (shows.knows id old.0 at live).there;
      staying = ap (λ (p : Pass). p.left) (tells_of laws shown s id old.0 shows at live).pass ∙ may.staying;
      act = record { may = may.zero; is = found_is laws shown s id old.0 shows at live };
    }

    -- the newcomer owns nothing, as before it was made
    split_same : (cell : Word) (number : ℕ)
        → times cell (still_owned ((then_of laws shown s id old.0 shows at live Split).passes number)) ≡ times cell (still_owned ((state_of old.0.opened shows.run).passes number))
    split_same cell =
        let core = state_of old.0.opened shows.run in
        let unborn = (sound_of laws shown old.0.opened s shows).numbers.unborn (core.made + 1) (omega arith) in
        let less = still_owned_in_owned cell (core.passes (core.made + 1)) in
        let bare : times cell (core.passes (core.made + 1)).owned ≡ 0 = ap (times cell) unborn.owned in
        by_number (λ n p. times cell (still_owned p) ≡ times cell (still_owned (core.passes n))) core.passes (core.made + 1) _ (omega (arith, less, bare)) (λ n ne. refl)

    splits_at : Goes (TableInvariant shown old.0.opened) s id old (λ found new. PassingTells old.0 Split found new.0 × (new.1 ≡ old.1))
    splits_at =
        let core = state_of old.0.opened shows.run in
        let tells = tells_of laws shown s id old.0 shows at live in
        let made_is : core.made ≡ made_of old.0 = tells.made may.zero in
        let few = may.few in
        let zero = may.zero in (
          next_of laws shown s id old.0 shows at live Split,
          keeps,
          tt,
          shows_then laws shown s id old.0 shows at live Split split_come (λ seat view there_ live_. (shows.knows seat view there_ live_).there) s.homes
              (omega (arith, made_is, few))
              (stop_same core.words (slice_index s.words 0) (found_is laws shown s id old.0 shows at live))
              (λ slot less. kept_same shown core (then_of laws shown s id old.0 shows at live Split) (cell_of old.0.opened.sizes slot) (get_elem? s.homes slot) refl (split_same (cell_of old.0.opened.sizes slot)) (shows.homes slot less))
              (λ seat view there_ live_ none. (shows.keeper seat view there_ live_ none).taken),
          (
            passed_of laws shown s id old.0 shows at live Split split_come (λ seat view there_ live_. (shows.knows seat view there_ live_).there)
                (number_else core.passes (core.made + 1) _ old.0.number (λ e. omega (arith, e, zero))) (λ cell. refl),
            refl,
          ),
        )

pub splits_allow : {S : Type 0} (shown : S → Value) (opened : Opened) (slots id : ℕ) (old : Me S PassView) → CoreLaws → old.0.live ≡ true → MaySplit old.0
    → Allows (TableInvariant shown opened) slots id old 0 (λ n. n) (λ found new. PassingTells old.0 Split found new.0 × (new.1 ≡ old.1))
splits_allow shown opened slots id old laws live may s shows count at small =
    let e = (shows.knows id old.0 at live).mount in
    subst (λ o. Goes (TableInvariant shown o) s id old (λ found new. PassingTells old.0 Split found new.0 × (new.1 ≡ old.1))) e
    (splits_at laws shown s id old (subst (λ o. TableInvariant shown o s) (sym e) shows) at live may)

-- ---- a cell is put back

-- a slot of the list at which a value is
there_within : {A : Type 0} (l : List A) (i : ℕ) (a : A) → get_elem? l i ≡ some a → i < length l
there_within [] i a e = absurd (some-ne-none a (sym e))
there_within (x ∷ xs) zero a e = omega arith
there_within (x ∷ xs) (suc i) a e = let again = there_within xs i a e in omega (arith, again)

-- whatever is kept there, the home is one of the table's
home_within : {S : Type 0} (shown : S → Value) (core : Core) (cell : Word) (homes : List (Home S)) (slot : ℕ) → IsKept shown core cell (get_elem? homes slot) → slot < length homes
home_within shown core cell homes slot (AtHome held is shows nobody) = there_within homes slot (some held) is
home_within shown core cell homes slot (OutWith by is once) = there_within homes slot none is

module _ {S : Type 0} (laws : CoreLaws) (shown : S → Value) (s : State S PassView) (id : ℕ) (old : Me S PassView) (shows : TableInvariant shown old.0.opened s) (at : get_elem? s.views id ≡ some old.0) (live : old.0.live ≡ true)
    (cell : Word) (may : MayPutBack shown old cell) where
  abbrev left_core : Core
  left_core = state_of old.0.opened shows.run

  abbrev left_then : Core
  left_then = then_of laws shown s id old.0 shows at live (PutBack cell)

  left_pass : left_core.passes old.0.number ≡ pass_of old.0
  left_pass = (tells_of laws shown s id old.0 shows at live).pass

  -- it owns the cell, which is a word of the mount
  left_has : times cell (still_owned (left_core.passes old.0.number)) ≢ 0
  left_has bare = may.has (ap (λ (p : Pass). times cell (still_owned p)) (sym left_pass) ∙ bare)

  left_holds : 1 ≤ times cell (left_core.passes old.0.number).owned
  left_holds = let has = left_has in let few = still_owned_in_owned cell (left_core.passes old.0.number) in omega (arith, has, few)

  left_word : IsWord old.0.opened.sizes cell
  left_word = owned_are_words laws.words (mount_of old.0.opened) shows.run shows.mount shows.is_run old.0.number cell (let has = left_holds in omega (arith, has))

  -- once, and no other pass does
  left_once : (times cell (left_core.passes old.0.number).owned ≡ 1) × ((number : ℕ) → number ≢ old.0.number → times cell (left_core.passes number).owned ≡ 0)
  left_once = let only = only_holder ((sound_of laws shown old.0.opened s shows).locks.keyed cell) old.0.number left_holds in (only.1, only.2)

  left_come : EventEnabled old.0.opened.sizes (event_of laws shown s id old.0 shows at live (PutBack cell)) left_core
  left_come = record {
    made = is_made laws shown s id old.0 shows at live;
    there = (shows.knows id old.0 at live).there;
    staying = tt;
    act = record {
      may = λ all.
          let has = left_has in
          let left = times_left cell (left_core.passes old.0.number).left (left_core.passes old.0.number).owned in
          omega (arith, has, left, all);
      is = found_is laws shown s id old.0 shows at live;
    };
  }

  -- what passes own then
  left_here : left_then.passes old.0.number ≡ after_passing (PutBack cell) (left_core.passes old.0.number)
  left_here = number_here left_core.passes old.0.number _

  left_still_owned : still_owned (left_then.passes old.0.number) ≡ without cell (still_owned (left_core.passes old.0.number))
  left_still_owned = ap still_owned left_here

  left_else : (other : Word) → other ≢ cell → (number : ℕ) → times other (still_owned (left_then.passes number)) ≡ times other (still_owned (left_core.passes number))
  left_else other ne = by_number (λ n p. times other (still_owned p) ≡ times other (still_owned (left_core.passes n))) left_core.passes old.0.number _
      (times_without_else other cell (still_owned (left_core.passes old.0.number)) ne) (λ n off. refl)

  left_gone : (number : ℕ) → times cell (still_owned (left_then.passes number)) ≡ 0
  left_gone = by_number (λ n p. times cell (still_owned p) ≡ 0) left_core.passes old.0.number _
      (let has = left_has in
      let few = still_owned_in_owned cell (left_core.passes old.0.number) in
      let one = left_once.0 in
      let less = times_without cell (still_owned (left_core.passes old.0.number)) (omega (arith, has)) in
      omega (arith, few, one, less))
      (λ n off. let few = still_owned_in_owned cell (left_core.passes n) in let none = left_once.1 n off in omega (arith, few, none))

  -- the other slots are kept as they were
  left_kept : (slot : ℕ) → slot < slot_total old.0.opened.sizes → cell_of old.0.opened.sizes slot ≢ cell → IsKept shown left_then (cell_of old.0.opened.sizes slot) (get_elem? s.homes slot)
  left_kept slot less ne = kept_same shown left_core left_then (cell_of old.0.opened.sizes slot) (get_elem? s.homes slot) refl (left_else (cell_of old.0.opened.sizes slot) ne) (shows.homes slot less)

  left_there : (seat : ℕ) (view : PassView) → get_elem? s.views seat ≡ some view → view.live ≡ true → IsOneOf left_then.ended view.number → ⊥
  left_there seat view there alive = (shows.knows seat view there alive).there

  abbrev left_next : PassView
  left_next = next_of laws shown s id old.0 shows at live (PutBack cell)

  left_passed : PassingTells old.0 (PutBack cell) (slice_index s.words 0) left_next
  left_passed = passed_of laws shown s id old.0 shows at live (PutBack cell) left_come left_there left_here (λ other. refl)

  left_shows : (homes : List (Home S)) → ((slot : ℕ) → slot < slot_total old.0.opened.sizes → IsKept shown left_then (cell_of old.0.opened.sizes slot) (get_elem? homes slot))
      → TableInvariant shown old.0.opened record { words = slice_set s.words 0 (slice_index s.words 0); homes = homes; views = slice_set s.views id left_next }
  left_shows homes kept = shows_then laws shown s id old.0 shows at live (PutBack cell) left_come left_there homes shows.few
      (stop_same left_core.words (slice_index s.words 0) (found_is laws shown s id old.0 shows at live)) kept
      (λ seat view there alive none. (shows.keeper seat view there alive none).taken)

  -- what the seat owns then: what the cells keep is as it was
  left_values : (other : Word) → times other (still_owned (pass_of old.0)) ≢ 0 → values_of left_next other ≡ values_of old.0 other
  left_values other has =
      ap (λ (c : Core). c.values other) (after_one old.0.opened shows.run (event_of laws shown s id old.0 shows at live (PutBack cell)))
      ∙ (tells_of laws shown s id old.0 shows at live).values other (λ bare. let few = still_owned_in_owned other (pass_of old.0) in omega (arith, has, few, bare))

  left_owns_slots : (slots : List (ℕ × S)) → OwnsSlots old.0.opened.sizes shown (values_of left_next) (without cell (still_owned (pass_of old.0))) slots
      → OwnsSlots old.0.opened.sizes shown (values_of left_next) (still_owned (pass_of left_next)) slots
  left_owns_slots slots owns_slots = subst (λ cells. OwnsSlots old.0.opened.sizes shown (values_of left_next) cells slots) (sym (ap still_owned left_passed.pass)) owns_slots

  still_owned_then : OwnsSlots old.0.opened.sizes shown (values_of left_next) (still_owned (pass_of old.0)) old.1
  still_owned_then = owns_slots_kept old.0.opened.sizes shown (values_of old.0) (values_of left_next) (still_owned (pass_of old.0)) old.1 left_values may.owns_slots

  abbrev LeftGoes : Type 0
  LeftGoes = Goes (TableInvariant shown old.0.opened) s id old (λ found new. HasPutBack shown old cell found new)

  -- a cell that has no slot
  leaves_bare : slot_of_cell old.0.opened.sizes cell ≡ None → LeftGoes
  leaves_bare e = (
    left_next,
    keeps,
    tt,
    left_shows s.homes (λ slot less. left_kept slot less (cell_apart old.0.opened.sizes slot cell less e)),
    record {
      passed = left_passed;
      went = subst (λ slot. went slot old.1 old.1) (sym e) refl;
      owns_slots = left_owns_slots old.1
          (owns_slots_cells old.0.opened.sizes shown (values_of left_next) (still_owned (pass_of old.0)) (without cell (still_owned (pass_of old.0))) old.1
          (λ slot less. times_without_else (cell_of old.0.opened.sizes slot) cell (still_owned (pass_of old.0)) (cell_apart old.0.opened.sizes slot cell less e)) still_owned_then);
    },
  )

  -- one that has a slot: it goes home
  module _ (slot : ℕ) (e : slot_of_cell old.0.opened.sizes cell ≡ Some slot) (held : S) (first : old.1 ≡ (slot, held) ∷ rest old.1) where
    slot_is : (slot < slot_total old.0.opened.sizes) × (cell_of old.0.opened.sizes slot ≡ cell)
    slot_is = cell_there old.0.opened.sizes cell slot left_word e

    slot_home : IsKept shown left_then (cell_of old.0.opened.sizes slot) (get_elem? (slice_set s.homes slot (some held)) slot)
    slot_home = AtHome held
        (set_here s.homes slot (some held) (home_within shown left_core (cell_of old.0.opened.sizes slot) s.homes slot (shows.homes slot slot_is.0)))
        (may.owns_slots.shows slot held (subst (λ slots. IsOneOf slots (slot, held)) (sym first) (inl refl))
        ∙ sym ((tells_of laws shown s id old.0 shows at live).values (cell_of old.0.opened.sizes slot)
        (subst (λ c. times c (pass_of old.0).owned ≢ 0) (sym slot_is.1) (let has = may.has in let few = still_owned_in_owned cell (pass_of old.0) in omega (arith, has, few)))))
        (subst (λ c. (number : ℕ) → times c (still_owned (left_then.passes number)) ≡ 0) (sym slot_is.1) left_gone)

    slot_homes : (other : ℕ) → other < slot_total old.0.opened.sizes → IsKept shown left_then (cell_of old.0.opened.sizes other) (get_elem? (slice_set s.homes slot (some held)) other)
    slot_homes other less = elim (cases_eq other slot) [
      | inl is ↦ subst (λ n. IsKept shown left_then (cell_of old.0.opened.sizes n) (get_elem? (slice_set s.homes slot (some held)) n)) (sym is) slot_home
      | inr ne ↦
          subst (IsKept shown left_then (cell_of old.0.opened.sizes other)) (sym (set_else s.homes slot other (some held) ne))
          (left_kept other less (λ is. cells_apart old.0.opened.sizes other slot less slot_is.0 ne (is ∙ sym slot_is.1)))
    ]

    leaves_slot : LeftGoes
    leaves_slot = (
      left_next,
      gives,
      tt,
      left_shows (put_back s.homes old.1)
          (λ other less. subst (λ homes. IsKept shown left_then (cell_of old.0.opened.sizes other) (get_elem? homes other)) (sym (ap (put_back s.homes) first)) (slot_homes other less)),
      record {
        passed = left_passed;
        went = subst (λ slot. went slot old.1 (rest old.1)) (sym e) refl;
        owns_slots = left_owns_slots (rest old.1)
            (subst (λ c. OwnsSlots old.0.opened.sizes shown (values_of left_next) (without c (still_owned (pass_of old.0))) (rest old.1)) slot_is.1
            (owns_slots_given old.0.opened.sizes shown (values_of left_next) (still_owned (pass_of old.0)) (rest old.1) slot held
            (subst (OwnsSlots old.0.opened.sizes shown (values_of left_next) (still_owned (pass_of old.0))) first still_owned_then)));
      },
    )

  leaves_by : (slot : Option ℕ) → slot_of_cell old.0.opened.sizes cell ≡ slot → IsFirst slot old.1 → LeftGoes
  leaves_by None e first = leaves_bare e
  leaves_by (Some slot) e first = leaves_slot slot e first.0 first.1

  leaves_at : LeftGoes
  leaves_at = leaves_by (slot_of_cell old.0.opened.sizes cell) refl may.front

pub leaves_allow : {S : Type 0} (shown : S → Value) (opened : Opened) (slots id : ℕ) (old : Me S PassView) (cell : Word) → CoreLaws → old.0.live ≡ true → MayPutBack shown old cell
    → Allows (TableInvariant shown opened) slots id old 0 (λ n. n) (λ found new. HasPutBack shown old cell found new)
leaves_allow shown opened slots id old cell laws live may s shows count at small =
    let e = (shows.knows id old.0 at live).mount in
    subst (λ o. Goes (TableInvariant shown o) s id old (λ found new. HasPutBack shown old cell found new)) e
    (leaves_at laws shown s id old (subst (λ o. TableInvariant shown o s) (sym e) shows) at live cell may)

-- ---- a pass is taken in

module _ {S : Type 0} (laws : CoreLaws) (shown : S → Value) (s : State S PassView) (id : ℕ) (old : Me S PassView) (shows : TableInvariant shown old.0.opened s) (at : get_elem? s.views id ≡ some old.0) (live : old.0.live ≡ true)
    (past : Past) (before : List Past) (may : MayJoin old.0 past before) where
  abbrev join_core : Core
  join_core = state_of old.0.opened shows.run

  abbrev join_then : Core
  join_then = then_of laws shown s id old.0 shows at live (Join past.number)

  join_keeps : KeeperKnows old.0.opened shows.run s.views old.0
  join_keeps = shows.keeper id old.0 at live may.zero

  join_last : IsOneOf old.0.ended past
  join_last = subst (λ pasts. IsOneOf pasts past) (sym may.last) (inl refl)

  join_over : IsTakenInWhole old.0.opened shows.run old.0.seated past
  join_over = join_keeps.ended past join_last

  -- the core has taken in those before it
  join_ended : join_core.ended ≡ numbers before
  join_ended = (tells_of laws shown s id old.0 shows at live).ended may.zero ∙ may.fresh

  join_fresh : IsOneOf join_core.ended past.number → ⊥
  join_fresh one = (subst (λ pasts. AreDistinctNumbers (numbers pasts)) may.last join_keeps.once).0 (subst (λ ended. IsOneOf ended past.number) join_ended one)

  -- it has put back all that it holds
  join_bare : (cell : Word) → keeps_something cell ≡ true → times cell (join_core.passes past.number).left ≡ times cell (join_core.passes past.number).owned
  join_bare cell kept =
      let is = (told_of laws.own old.0.opened past.number past.run shows.run shows.mount shows.is_run join_over.all join_over.made).pass in
      let bare : times cell (still_owned (join_core.passes past.number)) ≡ 0 = ap (λ (p : Pass). times cell (still_owned p)) is ∙ join_over.bare cell kept in
      let left = times_left cell (join_core.passes past.number).left (join_core.passes past.number).owned in
      let within = left_within (mount_of old.0.opened) shows.run shows.is_run past.number cell in
      omega (arith, bare, left, within)

  join_come : EventEnabled old.0.opened.sizes (event_of laws shown s id old.0 shows at live (Join past.number)) join_core
  join_come = record {
    made = is_made laws shown s id old.0 shows at live;
    there = (shows.knows id old.0 at live).there;
    staying = ap (λ (p : Pass). p.left) (tells_of laws shown s id old.0 shows at live).pass ∙ may.staying;
    act = record {
      may = (
        may.zero,
        λ zero. (let low = join_over.some in omega (arith, low, zero)),
        (let low = join_over.made in let more = made_seen old.0.opened past.number past.run shows.run join_over.all in omega (arith, low, more)),
        join_fresh,
        join_bare,
      );
      is = found_is laws shown s id old.0 shows at live;
    };
  }

  join_there : (seat : ℕ) (view : PassView) → get_elem? s.views seat ≡ some view → view.live ≡ true → IsOneOf join_then.ended view.number → ⊥
  join_there seat view there alive (inl is) = join_keeps.gone past join_last seat view there alive is
  join_there seat view there alive (inr one) = (shows.knows seat view there alive).there one

  join_same : (cell : Word) (number : ℕ) → times cell (still_owned (join_then.passes number)) ≡ times cell (still_owned (join_core.passes number))
  join_same cell = by_number (λ n p. times cell (still_owned p) ≡ times cell (still_owned (join_core.passes n))) join_core.passes old.0.number _ refl (λ n ne. refl)

  -- those that were taken in are the core's
  join_taken : (seat : ℕ) (view : PassView) → get_elem? s.views seat ≡ some view → view.live ≡ true → view.number ≡ 0 → (join_then.ended ≡ numbers view.ended) ⊎ (join_then.ended ≡ numbers (drop 1 view.ended))
  join_taken seat view there alive is_zero =
      let here : seat ≡ id = shows.apart seat id view old.0 there at alive live (is_zero ∙ sym may.zero) in
      let same : old.0 ≡ view = some-injective old.0 view (sym at ∙ ap (get_elem? s.views) (sym here) ∙ there) in
      inl (ap (λ ended. past.number ∷ ended) join_ended ∙ sym (ap numbers may.last) ∙ ap (λ (w : PassView). numbers w.ended) same)

  joins_at : Goes (TableInvariant shown old.0.opened) s id old (λ found new. PassingTells old.0 (Join past.number) found new.0 × (new.1 ≡ old.1) × SeesAll past.number past.run new.0.run)
  joins_at = (
    next_of laws shown s id old.0 shows at live (Join past.number),
    keeps,
    tt,
    shows_then laws shown s id old.0 shows at live (Join past.number) join_come join_there s.homes shows.few
        (stop_same join_core.words (slice_index s.words 0) (found_is laws shown s id old.0 shows at live))
        (λ slot less. kept_same shown join_core join_then (cell_of old.0.opened.sizes slot) (get_elem? s.homes slot) refl (join_same (cell_of old.0.opened.sizes slot)) (shows.homes slot less))
        join_taken,
    (
      passed_of laws shown s id old.0 shows at live (Join past.number) join_come join_there (number_here join_core.passes old.0.number _) (λ cell. refl),
      refl,
      sees_more past.number past.run shows.run (event_of laws shown s id old.0 shows at live (Join past.number))
          (λ same. (let low = join_over.some in let zero = may.zero in omega (arith, low, zero, same))) join_over.all,
    ),
  )

pub joins_allow : {S : Type 0} (shown : S → Value) (opened : Opened) (slots id : ℕ) (old : Me S PassView) (past : Past) (before : List Past) → CoreLaws → old.0.live ≡ true → MayJoin old.0 past before
    → Allows (TableInvariant shown opened) slots id old 0 (λ n. n) (λ found new. PassingTells old.0 (Join past.number) found new.0 × (new.1 ≡ old.1) × SeesAll past.number past.run new.0.run)
joins_allow shown opened slots id old past before laws live may s shows count at small =
    let e = (shows.knows id old.0 at live).mount in
    subst (λ o. Goes (TableInvariant shown o) s id old (λ found new. PassingTells old.0 (Join past.number) found new.0 × (new.1 ≡ old.1) × SeesAll past.number past.run new.0.run)) e
    (joins_at laws shown s id old (subst (λ o. TableInvariant shown o s) (sym e) shows) at live past before may)
