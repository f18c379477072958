-- A step of a seat keeps the invariant: the words and the slots at home show the state after it.
use Rattle.std.proofs.Common.{◌≡◌, ◌≢◌, ℕ, zero, suc, ◌+◌, ◌<◌, Bool, true, false, if◌then◌else◌, List, [], ◌∷◌, ◌++◌, length, set, inl, inr, refl, sym, ap, subst, ◌∙◌, arith, length-set, get_or-set_same, get_or-set_other}
use Rattle.std.specs.Prelude.{Option, Some, None, slice_index}
use Rattle.std.proofs.lemmas.Bool.{cases_eq}
use mathlib.Core.Option.{Option as Home, none, some, some-ne-none}
use lib.ListN.{get_elem?}
use Rattle.nv_plain.specs.declared.call.FileCall.{FileCall}
use Rattle.atomic_table.specs.Table.{State, Me, Act as TableAct, keeps, takes, gives, rest, carried_after, homes_after, Valid, stepped as table_stepped, Allows}
use Rattle.atomic_table.proofs.Lists.{set_else}
use Rattle.nv_core.specs.state.Words.{Sizes, Word, IsWord, place, same}
use Rattle.nv_core.specs.state.Values.{Value}
use Rattle.nv_core.specs.state.Passes.{Pass, times, without}
use Rattle.nv_core.specs.steps.Ops.{Op, Move, Stays, Comes, Goes, moved, move_of, word_of}
use Rattle.nv_core.specs.steps.Order.{Work}
use Rattle.nv_core.specs.state.Core.{Core}
use Rattle.nv_core.specs.steps.PassSteps.{stepped}
use Rattle.nv_core.specs.steps.Events.{Event, own}
use Rattle.nv_core.specs.steps.Frames.{StaysKnown}
use Rattle.nv_core.proofs.state.Changes.{same_true, differ}
use Rattle.nv_core.proofs.invariant.LockLaws.{times_here, times_else, times_without_else}
use Rattle.nv_table.specs.state.Layout.{slot_total, slot_of_cell, cell_of}
use Rattle.nv_table.specs.state.Opened.{Opened, state_of}
use Rattle.nv_table.specs.state.Views.{PassView, pass_of, still_owned, OwnsSlots, KnowsRun}
use Rattle.nv_table.specs.steps.SeatSteps.{act_of, events, pass_before, values_then, came, went, Moved, IsFirst, IsInFront, SeatPrecondition, SeatPostcondition}
use Rattle.nv_table.specs.invariant.TableInvariant.{IsKept, AtHome, OutWith, TableInvariant}
use Rattle.nv_table.specs.invariant.CoreLaws.{CoreLaws}
use Rattle.nv_table.proofs.steps.Onward.{IsPassed, IsOfWord, Onward, goes_on, next_on_word}
use Rattle.nv_table.proofs.state.LayoutLaws.{slot_there, cell_there, place_within}
use Rattle.nv_table.proofs.steps.OwnedSlotLaws.{still_owned_none, still_owned_all, cells_apart, cell_apart, owns_slots_kept, owns_slots_cells, owns_slots_taken, owns_slots_given}
use Rattle.nv_table.proofs.state.ViewLaws.{onto, told_on, knows_onto, views_seen, views_know, views_apart, views_keep}

-- what a list has at a place where it is set
set_there : {A : Type 0} (l : List A) (i : ℕ) (a b : A) → get_elem? l i ≡ some b → get_elem? (set l i a) i ≡ some a
set_there [] i a b e = absurd (some-ne-none b (sym e))
set_there (x ∷ xs) zero a b e = refl
set_there (x ∷ xs) (suc i) a b e = set_there xs i a b e

-- ---- the slots of a state, and those of a later one in which a cell of one pass has moved

module _ {S : Type 0} (sizes : Sizes) (shown : S → Value) (number : ℕ) (core next : Core)
    (left : (core.passes number).left ≡ []) (left_then : (next.passes number).left ≡ [])
    (others : (other : ℕ) → other ≢ number → next.passes other ≡ core.passes other)
    (values : (cell : Word) → times cell (core.passes number).owned ≡ 0 → next.values cell ≡ core.values cell) where
  -- a cell that hasn't moved is with whom it was
  with_same : (cell : Word) → times cell (next.passes number).owned ≡ times cell (core.passes number).owned → (by : ℕ) → times cell (still_owned (next.passes by)) ≡ times cell (still_owned (core.passes by))
  with_same cell is by = elim (cases_eq by number) [
    | inl own ↦
        subst (λ n. times cell (still_owned (next.passes n)) ≡ times cell (still_owned (core.passes n))) (sym own)
        (ap (times cell) (still_owned_all (next.passes number) left_then) ∙ is ∙ sym (ap (times cell) (still_owned_all (core.passes number) left)))
    | inr other ↦ ap (λ pass. times cell (still_owned pass)) (others by other)
  ]

  -- so its slot stays as it is
  kept_same : (cell : Word) (home home_then : Home (Home S)) → home_then ≡ home → times cell (next.passes number).owned ≡ times cell (core.passes number).owned
      → IsKept shown core cell home → IsKept shown next cell home_then
  kept_same cell home home_then e is (AtHome held at shows free) =
      AtHome held (e ∙ at)
      (shows ∙ sym (values cell (sym (ap (times cell) (still_owned_all (core.passes number) left)) ∙ free number)))
      (λ by. with_same cell is by ∙ free by)
  kept_same cell home home_then e is (OutWith by at once) = OutWith by (e ∙ at) (with_same cell is by ∙ once)

  -- one that has come to the pass is out
  kept_out : (cell : Word) (home : Home (Home S)) → home ≡ some none → times cell (next.passes number).owned ≡ 1 → IsKept shown next cell home
  kept_out cell home at once = OutWith number at (ap (times cell) (still_owned_all (next.passes number) left_then) ∙ once)

  -- and one that no pass has is at home
  kept_home : (cell : Word) (home : Home (Home S)) (held : S) → home ≡ some (some held) → shown held ≡ next.values cell → ((other : ℕ) → times cell (next.passes other).owned ≡ 0)
      → IsKept shown next cell home
  kept_home cell home held at shows free = AtHome held at shows (λ other. still_owned_none cell (next.passes other) (free other))

  -- ---- what moves

  -- the act of a seat by which a cell moves, and what it leaves
  pub record Moves (homes : List (Home S)) (slots : List (ℕ × S)) (move : Move) : Type 0 where
    pub act : TableAct S
    pub valid : Valid homes slots act
    pub kept : (slot : ℕ) → slot < slot_total sizes → IsKept shown next (cell_of sizes slot) (get_elem? (homes_after homes slots act) slot)
    pub moved : Moved sizes move slots (carried_after slots act)
    pub owns_slots : OwnsSlots sizes shown next.values (still_owned (next.passes number)) (carried_after slots act)

  module _ (homes : List (Home S)) (kept : (slot : ℕ) → slot < slot_total sizes → IsKept shown core (cell_of sizes slot) (get_elem? homes slot)) where
    -- the slots of the cells then among the owned cells are what it owns
    all_still_owned : (owned : List Word) (slots : List (ℕ × S)) → (next.passes number).owned ≡ owned → OwnsSlots sizes shown next.values owned slots
        → OwnsSlots sizes shown next.values (still_owned (next.passes number)) slots
    all_still_owned owned slots is owns_slots = subst (λ cells. OwnsSlots sizes shown next.values cells slots) (sym (still_owned_all (next.passes number) left_then ∙ is)) owns_slots

    module _ (slots : List (ℕ × S)) (owns_slots : OwnsSlots sizes shown next.values (core.passes number).owned slots) where
      -- no slot moves
      none_moves : (move : Move) → ((slot : ℕ) → slot < slot_total sizes → times (cell_of sizes slot) (next.passes number).owned ≡ times (cell_of sizes slot) (core.passes number).owned)
          → Moved sizes move slots slots → Moves homes slots move
      none_moves move same_times stays = record {
        act = keeps;
        valid = tt;
        kept = λ slot low. kept_same (cell_of sizes slot) (get_elem? homes slot) (get_elem? homes slot) refl (same_times slot low) (kept slot low);
        moved = stays;
        owns_slots = all_still_owned (next.passes number).owned slots refl (owns_slots_cells sizes shown next.values (core.passes number).owned (next.passes number).owned slots same_times owns_slots);
      }

      -- a slot comes
      slot_comes : (slot : ℕ) → slot < slot_total sizes → ((other : ℕ) → times (cell_of sizes slot) (core.passes other).owned ≡ 0)
          → (next.passes number).owned ≡ cell_of sizes slot ∷ (core.passes number).owned → Moves homes slots (Comes (cell_of sizes slot))
      slot_comes slot low free owned = by_home (kept slot low)
        where
          by_home : IsKept shown core (cell_of sizes slot) (get_elem? homes slot) → Moves homes slots (Comes (cell_of sizes slot))
          by_home (OutWith by at once) = absurd (let z = still_owned_none (cell_of sizes slot) (core.passes by) (free by) in omega (arith, z, once))
          by_home (AtHome held at shows with_none) = record {
            act = takes slot held;
            valid = at;
            kept = λ other below. elim (cases_eq other slot) [
              | inl is ↦
                  subst (λ n. IsKept shown next (cell_of sizes n) (get_elem? (set homes slot none) n)) (sym is)
                  (kept_out (cell_of sizes slot) (get_elem? (set homes slot none) slot) (set_there homes slot none (some held) at)
                  (ap (times (cell_of sizes slot)) owned ∙ times_here (cell_of sizes slot) (core.passes number).owned ∙ ap (λ n. 1 + n) (free number)))
              | inr ne ↦
                  kept_same (cell_of sizes other) (get_elem? homes other) (get_elem? (set homes slot none) other) (set_else homes slot other none ne)
                  (ap (times (cell_of sizes other)) owned ∙ times_else (cell_of sizes other) (cell_of sizes slot) (core.passes number).owned (cells_apart sizes other slot below low ne))
                  (kept other below)
            ];
            moved = subst (λ o. came o slots ((slot, held) ∷ slots)) (sym (slot_there sizes slot low).0) (held, refl);
            owns_slots = all_still_owned (cell_of sizes slot ∷ (core.passes number).owned) ((slot, held) ∷ slots) owned
                (owns_slots_taken sizes shown next.values (core.passes number).owned slots slot held low (shows ∙ sym (values (cell_of sizes slot) (free number))) owns_slots);
          }

    -- the first slot goes
    slot_goes : (slot : ℕ) (held : S) (slots : List (ℕ × S)) → slot < slot_total sizes → ((other : ℕ) → times (cell_of sizes slot) (next.passes other).owned ≡ 0)
        → (next.passes number).owned ≡ without (cell_of sizes slot) (core.passes number).owned
        → OwnsSlots sizes shown next.values (core.passes number).owned ((slot, held) ∷ slots) → Moves homes ((slot, held) ∷ slots) (Goes (cell_of sizes slot))
    slot_goes slot held slots low free owned owns_slots = record {
      act = gives;
      valid = tt;
      kept = λ other below. elim (cases_eq other slot) [
        | inl is ↦
            subst (λ n. IsKept shown next (cell_of sizes n) (get_elem? (set homes slot (some held)) n)) (sym is)
            (kept_home (cell_of sizes slot) (get_elem? (set homes slot (some held)) slot) held (there (kept slot low)) (owns_slots.shows slot held (inl refl)) free)
        | inr ne ↦
            kept_same (cell_of sizes other) (get_elem? homes other) (get_elem? (set homes slot (some held)) other) (set_else homes slot other (some held) ne)
            (ap (times (cell_of sizes other)) owned ∙ times_without_else (cell_of sizes other) (cell_of sizes slot) (core.passes number).owned (cells_apart sizes other slot below low ne))
            (kept other below)
      ];
      moved = subst (λ o. went o ((slot, held) ∷ slots) slots) (sym (slot_there sizes slot low).0) refl;
      owns_slots = all_still_owned (without (cell_of sizes slot) (core.passes number).owned) slots owned (owns_slots_given sizes shown next.values (core.passes number).owned slots slot held owns_slots);
    }
      where
        there : IsKept shown core (cell_of sizes slot) (get_elem? homes slot) → get_elem? (set homes slot (some held)) slot ≡ some (some held)
        there (AtHome was at shows with_none) = set_there homes slot (some held) (some was) at
        there (OutWith by at once) = set_there homes slot (some held) none at

    module _ (slots : List (ℕ × S)) (owns_slots : OwnsSlots sizes shown next.values (core.passes number).owned slots) where
      comes : (cell : Word) → IsWord sizes cell → IsPassed (Comes cell) number core next → (next.passes number).owned ≡ cell ∷ (core.passes number).owned → Moves homes slots (Comes cell)
      comes cell is free owned = by_slot (slot_of_cell sizes cell) refl
        where
          by_slot : (o : Option ℕ) → slot_of_cell sizes cell ≡ o → Moves homes slots (Comes cell)
          by_slot None e = none_moves slots owns_slots (Comes cell)
              (λ slot low. ap (times (cell_of sizes slot)) owned ∙ times_else (cell_of sizes slot) cell (core.passes number).owned (cell_apart sizes slot cell low e))
              (subst (λ o. came o slots slots) (sym e) refl)
          by_slot (Some slot) e =
              let at = cell_there sizes cell slot is e in
              subst (λ c. ((other : ℕ) → times c (core.passes other).owned ≡ 0) → (next.passes number).owned ≡ c ∷ (core.passes number).owned → Moves homes slots (Comes c)) at.1
              (slot_comes slots owns_slots slot at.0) free owned

      goes : (cell : Word) → IsWord sizes cell → IsPassed (Goes cell) number core next → (next.passes number).owned ≡ without cell (core.passes number).owned → IsFirst (slot_of_cell sizes cell) slots → Moves homes slots (Goes cell)
      goes cell is passed owned front = by_slot (slot_of_cell sizes cell) refl
        where
          by_slot : (o : Option ℕ) → slot_of_cell sizes cell ≡ o → Moves homes slots (Goes cell)
          by_slot None e = none_moves slots owns_slots (Goes cell)
              (λ slot low. ap (times (cell_of sizes slot)) owned ∙ times_without_else (cell_of sizes slot) cell (core.passes number).owned (cell_apart sizes slot cell low e))
              (subst (λ o. went o slots slots) (sym e) refl)
          by_slot (Some slot) e =
              let at = cell_there sizes cell slot is e in
              let first = subst (λ o. IsFirst o slots) e front in
              subst (λ l. Moves homes l (Goes cell)) (sym first.1)
              (subst (λ c. ((other : ℕ) → times c (next.passes other).owned ≡ 0) → (next.passes number).owned ≡ without c (core.passes number).owned → Moves homes ((slot, first.0) ∷ rest slots) (Goes c)) at.1
              (λ free less. slot_goes slot first.0 (rest slots) at.0 free less (subst (OwnsSlots sizes shown next.values (core.passes number).owned) first.1 owns_slots)) passed.1 owned)

      moves : (move : Move) (word : Word) → IsWord sizes word → IsOfWord move word → IsPassed move number core next → (next.passes number).owned ≡ moved move (core.passes number).owned
          → IsInFront sizes move slots → Moves homes slots move
      moves Stays word on is passed owned front = none_moves slots owns_slots Stays (λ slot low. ap (times (cell_of sizes slot)) owned) refl
      moves (Comes cell) word on is passed owned front = comes cell (subst (IsWord sizes) (sym is) on) passed owned
      moves (Goes cell) word on is passed owned front = goes cell (subst (IsWord sizes) (sym is) on) passed owned front

-- ---- the step

module _ {S : Type 0} (shown : S → Value) (old : Me S PassView) (opens : Option FileCall) (op : Op) (at : ℕ) (change : ℕ → ℕ)
    (laws : CoreLaws) (live : old.0.live ≡ true) (may : SeatPrecondition shown old opens op at change)
    (said : List Work → Type 0) (so : said may.works) (state : State S PassView) (shows : TableInvariant shown old.0.opened state) (id : ℕ) (there : get_elem? state.views id ≡ some old.0)
    (low : slice_index state.words at < 18446744073709551616) where
  abbrev sizes : Sizes
  sizes = old.0.opened.sizes

  abbrev core : Core
  core = state_of old.0.opened shows.run

  abbrev found : ℕ
  found = slice_index state.words at

  abbrev word : Word
  word = word_of sizes (pass_before old.0 opens may.works) op

  abbrev more : List Event
  more = events old.0.number may.works (act_of opens op found)

  abbrev next : Core
  next = state_of old.0.opened (shows.run ++ more)

  knows : KnowsRun old.0.opened shows.run old.0
  knows = shows.knows id old.0 there live

  on : IsWord sizes word
  on = next_on_word laws old.0 may.works opens op at change shows.run shows.mount shows.is_run knows may.next

  found_is : core.words word ≡ found
  found_is = sym (shows.words word on) ∙ ap (slice_index state.words) may.next.word

  onward : Onward old.0.opened old.0.number shows.run more word (change found) (move_of sizes op found) (values_then old.0 opens op may.works)
      (stepped sizes old.0.number core.history op found (pass_before old.0 opens may.works))
  onward = goes_on laws old.0.opened old.0 may.works opens op at change shows.run shows.mount shows.is_run shows.few knows may.next found low found_is

  told : StaysKnown old.0.number (state_of old.0.opened old.0.run) core
  told = told_on laws old.0.opened shows.run old.0 shows.mount shows.is_run knows

  -- what the seat has taken is what its pass's cells keep after the step, but for what moves
  owns_slots_now : OwnsSlots sizes shown next.values (core.passes old.0.number).owned old.1
  owns_slots_now =
      owns_slots_kept sizes shown (values_then old.0 opens op may.works) next.values (core.passes old.0.number).owned old.1 onward.kept
      (subst (λ cells. OwnsSlots sizes shown (values_then old.0 opens op may.works) cells old.1)
      (still_owned_all (pass_of old.0) may.next.staying ∙ ap (λ (p : Pass). p.owned) (sym told.pass)) may.owns_slots)

  made_moves : Moves sizes shown old.0.number core next onward.left onward.left_then onward.passes onward.values state.homes old.1 (move_of sizes op found)
  made_moves = moves sizes shown old.0.number core next onward.left onward.left_then onward.passes onward.values state.homes shows.homes old.1 owns_slots_now
      (move_of sizes op found) word onward.on onward.of_word onward.passed onward.owned (may.front found)

  within : at < length state.words
  within = let less = place_within sizes word on in let is = may.next.word in let count = shows.count in omega (arith, less, is, count)

  words_then : (other : Word) → IsWord sizes other → slice_index (set state.words at (change found)) (place sizes other) ≡ next.words other
  words_then other is_other = by_test (same other word) refl
    where
      by_test : (b : Bool) → same other word ≡ b → slice_index (set state.words at (change found)) (place sizes other) ≡ next.words other
      by_test true e =
          ap (slice_index (set state.words at (change found))) (ap (place sizes) (same_true other word e) ∙ may.next.word)
          ∙ get_or-set_same state.words at (change found) 0 within
          ∙ sym (onward.words other ∙ ap (λ b. if b then change found else core.words other) e)
      by_test false e =
          get_or-set_other state.words at (place sizes other) (change found) 0 (λ is. differ other word e (laws.places sizes other word is_other on (is ∙ sym may.next.word)))
          ∙ shows.words other is_other
          ∙ sym (onward.words other ∙ ap (λ b. if b then change found else core.words other) e)

  shows_then : TableInvariant shown old.0.opened (table_stepped state at (change found) id old.1 (onto old.0 shows.run more) made_moves.act)
  shows_then = record {
    mount = shows.mount;
    run = shows.run ++ more;
    is_run = onward.is_run;
    few = let is = onward.made in let few = shows.few in omega (arith, is, few);
    count = length-set state.words at (change found) ∙ shows.count;
    words = words_then;
    homes = made_moves.kept;
    seen = views_seen shown old.0.opened state shows id old.0 there live more onward.others_quiet onward.ended;
    knows = views_know shown old.0.opened state shows id old.0 there live more onward.others_quiet onward.ended;
    apart = views_apart shown old.0.opened state shows id old.0 there live more onward.others_quiet onward.ended;
    keeper = views_keep shown old.0.opened state shows id old.0 there live more onward.others_quiet onward.ended;
  }

  acted : SeatPostcondition shown old opens op found (onto old.0 shows.run more, carried_after old.1 made_moves.act)
  acted = record {
    works = may.works;
    due = may.next.due;
    still_owned_before = may.owns_slots;
    steps = record { run = shows.run; is_run = onward.is_run; knew = knows; imported = (shows.seen id old.0 there).1; is = refl };
    knows = knows_onto old.0.opened shows.run more old.0 onward.others_quiet onward.ended knows;
    pass = onward.pass;
    kept = λ cell has. onward.kept cell (subst (λ (p : Pass). times cell p.owned ≢ 0) (sym told.pass) has);
    made = λ zero. onward.made ∙ told.made zero;
    ended = λ zero. onward.ended ∙ told.ended zero;
    moved = made_moves.moved;
    owns_slots = made_moves.owns_slots;
  }

  pub allowed : (view : PassView) × (act : TableAct S) × Valid state.homes old.1 act × TableInvariant shown old.0.opened (table_stepped state at (change found) id old.1 view act)
      × ((acted : SeatPostcondition shown old opens op found (view, carried_after old.1 act)) × said acted.works)
  unfolding acted
  allowed = (onto old.0 shows.run more, made_moves.act, made_moves.valid, shows_then, (acted, so))

pub acts_allow : {S : Type 0} (shown : S → Value) (opened : Opened) (slots id : ℕ) (old : Me S PassView) (opens : Option FileCall) (op : Op) (at : ℕ) (change : ℕ → ℕ)
    → CoreLaws → old.0.live ≡ true → (said : List Work → Type 0) → (may : SeatPrecondition shown old opens op at change) × said may.works
    → Allows (TableInvariant shown opened) slots id old at change (λ found new. (acted : SeatPostcondition shown old opens op found new) × said acted.works)
acts_allow shown opened slots id old opens op at change laws live said may state shows count there low =
    subst (λ o. TableInvariant shown o state → (view : PassView) × (act : TableAct _) × Valid state.homes old.1 act
    × TableInvariant shown o (table_stepped state at (change (slice_index state.words at)) id old.1 view act)
    × ((acted : SeatPostcondition shown old opens op (slice_index state.words at) (view, carried_after old.1 act)) × said acted.works))
    (shows.knows id old.0 there live).mount
    (λ at_own. allowed shown old opens op at change laws live may.0 said may.1 state at_own id there low)
    shows
