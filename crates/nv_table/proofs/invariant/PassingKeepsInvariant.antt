-- Passing: one event of a seat's pass, on the word STOP, which it loads, keeps the invariant.
use Rattle.std.proofs.Common.{◌≡◌, ◌≢◌, ◌⊎◌, ℕ, ◌<◌, ◌≤◌, ◌^◌, true, List, [], ◌∷◌, ◌++◌, drop, inl, inr, refl, sym, ap, subst, ◌∙◌, arith}
use Rattle.std.specs.Prelude.{slice_index, slice_set}
use Rattle.std.proofs.lemmas.List.{length-set, set-get_or}
use mathlib.Core.Option.{Option as Home, some}
use lib.ListN.{get_elem?}
use Rattle.atomic_table.specs.Table.{State}
use Rattle.atomic_table.proofs.Lists.{at_set}
use Rattle.nv_core.specs.state.Words.{Word, STOP, place}
use Rattle.nv_core.specs.state.Values.{Value}
use Rattle.nv_core.specs.state.Passes.{IsOneOf, times}
use Rattle.nv_core.specs.invariant.OneHistory.{IsPrefix}
use Rattle.nv_core.specs.steps.Ops.{Op}
use Rattle.nv_core.specs.state.Core.{Core, with_value, made_stepped, ended_stepped}
use Rattle.nv_core.specs.steps.Events.{TakesStep, Event, EventEnabled, after_event}
use Rattle.nv_core.specs.steps.Frames.{StaysKnown}
use Rattle.nv_core.proofs.state.Changes.{by_word}
use Rattle.nv_core.proofs.invariant.KeepsHistory.{begins_more}
use Rattle.nv_table.specs.state.Layout.{slot_total, cell_of}
use Rattle.nv_table.specs.state.Opened.{Opened, state_of}
use Rattle.nv_table.specs.state.Views.{PassView, numbers, still_owned, KnowsRun, AllBegin}
use Rattle.nv_table.specs.invariant.TableInvariant.{IsKept, AtHome, OutWith, KeeperKnows, TableInvariant}
use Rattle.nv_table.specs.passes.Seats.{PassingTells, after_passing}
use Rattle.nv_table.specs.invariant.CoreLaws.{CoreLaws}
use Rattle.nv_table.proofs.state.ViewLaws.{begins_self, all_begin_on, sees_self, made_on, made_seen, told_on}
use Rattle.nv_table.proofs.invariant.Going.{own_more, sees_more, over_more, after_one, run_one}

-- ---- seats

-- a seat as it was before, with the same number, and live where it is now
pub record Was (views : List PassView) (seat : ℕ) (view : PassView) : Type 0 where
  pub view_then : PassView
  pub there : get_elem? views seat ≡ some view_then
  pub number : view_then.number ≡ view.number
  pub live : view.live ≡ true → view_then.live ≡ true

pub was_same : (views : List PassView) (seat : ℕ) (view : PassView) → get_elem? views seat ≡ some view → Was views seat view
was_same views seat view at = record { view_then = view; there = at; number = refl; live = λ live. live }

-- the seats as they were, but for one that has another view of the same pass
pub was : (views : List PassView) (id : ℕ) (old new : PassView) → get_elem? views id ≡ some old → old.number ≡ new.number → (new.live ≡ true → old.live ≡ true)
    → (seat : ℕ) (view : PassView) → get_elem? (slice_set views id new) seat ≡ some view → Was views seat view
was views id old new at number live seat view there = elim (at_set views id seat new view there) [
  | inl is ↦ subst (Was views seat) is.1 record { view_then = old; there = subst (λ i. get_elem? views i ≡ some old) (sym is.0) at; number = number; live = live }
  | inr is ↦ was_same views seat view is.1
]

-- two live seats of one pass are one
abbrev pub AreApart : List PassView → Type 0
AreApart views =
    (one other : ℕ) (view view_other : PassView) → get_elem? views one ≡ some view → get_elem? views other ≡ some view_other
    → view.live ≡ true → view_other.live ≡ true → view.number ≡ view_other.number → one ≡ other

pub apart_still : (views now : List PassView) → AreApart views → ((seat : ℕ) (view : PassView) → get_elem? now seat ≡ some view → view.live ≡ true → Was views seat view) → AreApart now
apart_still views now apart were one other view view_other at at_other live live_other e =
    let w = were one view at live in
    let o = were other view_other at_other live_other in
    apart one other w.view_then o.view_then w.there o.there (w.live live) (o.live live_other) (w.number ∙ e ∙ sym o.number)

-- what pass 0's seat keeps of seats that were there
pub keeps_still : (opened : Opened) (run : List Event) (views now : List PassView) (keeper : PassView) → ((seat : ℕ) (view : PassView) → get_elem? now seat ≡ some view → view.live ≡ true → Was views seat view)
    → KeeperKnows opened run views keeper → KeeperKnows opened run now keeper
keeps_still opened run views now keeper were keeps = record {
  seated = λ seat view at live. let w = were seat view at live in let low = keeps.seated seat w.view_then w.there (w.live live) in let n = w.number in omega (arith, low, n);
  unborn = keeps.unborn;
  ended = keeps.ended;
  gone = λ past one seat view at live e. let w = were seat view at live in keeps.gone past one seat w.view_then w.there (w.live live) (w.number ∙ e);
  once = keeps.once;
  taken = keeps.taken;
}

-- and at a longer run, by one event of a pass that has a seat
pub keeps_more : (opened : Opened) (run : List Event) (views : List PassView) (keeper : PassView) (event : Event) (id : ℕ) (by : PassView) (longer : List Event)
    → get_elem? views id ≡ some by → by.live ≡ true → event.by ≡ by.number
    → ((state_of opened (run ++ event ∷ [])).ended ≡ numbers keeper.ended) ⊎ ((state_of opened (run ++ event ∷ [])).ended ≡ numbers (drop 1 keeper.ended))
    → KeeperKnows opened run views keeper → KeeperKnows opened (run ++ event ∷ []) views (record keeper { run = longer })
keeps_more opened run views keeper event id by longer at live is taken keeps = record {
  seated = keeps.seated;
  unborn = λ n less. own_more n run event (λ e. let low = keeps.seated id by at live in omega (arith, low, e, is, less)) (keeps.unborn n less);
  ended = λ past one. over_more opened run keeper.seated past event (λ e. keeps.gone past one id by at live (sym is ∙ e)) (keeps.ended past one);
  gone = keeps.gone;
  once = keeps.once;
  taken = taken;
}

-- ---- words

pub stop_same : (words : Word → ℕ) (found : ℕ) → words STOP ≡ found → (word : Word) → with_value words STOP found word ≡ words word
stop_same words found e = by_word (λ word value. value ≡ words word) words STOP found (sym e) (λ word ne. refl)

-- ---- homes

-- a slot is kept as it was where its cell is
pub kept_same : {S : Type 0} (shown : S → Value) (old new : Core) (cell : Word) (home : Home (Home S)) → new.values cell ≡ old.values cell
    → ((number : ℕ) → times cell (still_owned (new.passes number)) ≡ times cell (still_owned (old.passes number))) → IsKept shown old cell home → IsKept shown new cell home
kept_same shown old new cell home value same (AtHome held is shows nobody) = AtHome held is (shows ∙ sym value) (λ number. same number ∙ nobody number)
kept_same shown old new cell home value same (OutWith by is once) = OutWith by is (same by ∙ once)

-- ---- an event

module _ {S : Type 0} (laws : CoreLaws) (shown : S → Value) (s : State S PassView) (id : ℕ) (v : PassView) (shows : TableInvariant shown v.opened s) (at : get_elem? s.views id ≡ some v) (live : v.live ≡ true) where
  abbrev pub core_of : Core
  core_of = state_of v.opened shows.run

  -- the seat's pass at the end of the run
  pub tells_of : StaysKnown v.number (state_of v.opened v.run) (state_of v.opened shows.run)
  tells_of = told_on laws v.opened shows.run v shows.mount shows.is_run (shows.knows id v at live)

  pub is_made : v.number ≤ (state_of v.opened shows.run).made
  is_made = let k = shows.knows id v at live in let low = k.made in let more = made_seen v.opened v.number v.run shows.run k.all in omega (arith, low, more)

  pub found_is : (state_of v.opened shows.run).words STOP ≡ slice_index s.words 0
  found_is = sym (shows.words STOP tt)

  module _ (op : Op) where
    abbrev pub event_of : Event
    event_of = record { by = v.number; act = TakesStep op (slice_index s.words 0) }

    abbrev pub then_of : Core
    then_of = after_event v.opened.sizes event_of core_of

    abbrev pub next_of : PassView
    next_of = record v { run = shows.run ++ event_of ∷ [] }

    module _ (come : EventEnabled v.opened.sizes event_of core_of)
        (there : (seat : ℕ) (view : PassView) → get_elem? s.views seat ≡ some view → view.live ≡ true → IsOneOf then_of.ended view.number → ⊥) where
      is_then : state_of v.opened (shows.run ++ event_of ∷ []) ≡ then_of
      is_then = after_one v.opened shows.run event_of

      knows_next : KnowsRun v.opened (shows.run ++ event_of ∷ []) next_of
      knows_next = record {
        mount = refl;
        all = sees_self v.number (shows.run ++ event_of ∷ []);
        made = let low = is_made in let more = made_on v.opened shows.run (event_of ∷ []) in omega (arith, low, more);
        there = λ one. there id v at live (subst (λ (c : Core). IsOneOf c.ended v.number) is_then one);
      }

      pub passed_of : then_of.passes v.number ≡ after_passing op (core_of.passes v.number) → ((cell : Word) → then_of.values cell ≡ core_of.values cell)
          → PassingTells v op (slice_index s.words 0) next_of
      passed_of same kept = record {
        run = shows.run;
        is_run = run_one v.opened shows.run event_of shows.is_run come;
        knew = shows.knows id v at live;
        told = (shows.seen id v at).1;
        is = refl;
        knows = knows_next;
        pass = ap (λ (c : Core). c.passes v.number) is_then ∙ same ∙ ap (after_passing op) tells_of.pass;
        kept = λ cell has. ap (λ (c : Core). c.values cell) is_then ∙ kept cell ∙ tells_of.values cell has;
        made = λ zero. ap (λ (c : Core). c.made) is_then ∙ ap (made_stepped op) (tells_of.made zero);
        ended = λ zero. ap (λ (c : Core). c.ended) is_then ∙ ap (ended_stepped op) (tells_of.ended zero);
      }

      -- another's seat
      knows_other : (seat : ℕ) (view : PassView) → seat ≢ id → get_elem? s.views seat ≡ some view → view.live ≡ true → KnowsRun v.opened (shows.run ++ event_of ∷ []) view
      knows_other seat view ne at_other live_other =
          let k = shows.knows seat view at_other live_other in
          record {
            mount = k.mount;
            all = sees_more view.number view.run shows.run event_of (λ e. ne (shows.apart seat id view v at_other at live_other live (sym e))) k.all;
            made = k.made;
            there = λ one. there seat view at_other live_other (subst (λ (c : Core). IsOneOf c.ended view.number) is_then one);
          }

      were : (seat : ℕ) (view : PassView) → get_elem? (slice_set s.views id next_of) seat ≡ some view → view.live ≡ true → Was s.views seat view
      were seat view at_now live_now = was s.views id v next_of at refl (λ is. is) seat view at_now

      pub shows_then : (homes : List (Home S))
          → made_stepped op core_of.made ≤ 2 ^ 32
          → ((word : Word) → then_of.words word ≡ core_of.words word)
          → ((slot : ℕ) → slot < slot_total v.opened.sizes → IsKept shown then_of (cell_of v.opened.sizes slot) (get_elem? homes slot))
          → ((seat : ℕ) (view : PassView) → get_elem? s.views seat ≡ some view → view.live ≡ true → view.number ≡ 0 → (then_of.ended ≡ numbers view.ended) ⊎ (then_of.ended ≡ numbers (drop 1 view.ended)))
          → TableInvariant shown v.opened record { words = slice_set s.words 0 (slice_index s.words 0); homes = homes; views = slice_set s.views id next_of }
      shows_then homes few words kept taken = record {
        mount = shows.mount;
        run = shows.run ++ event_of ∷ [];
        is_run = run_one v.opened shows.run event_of shows.is_run come;
        few = subst (λ (c : Core). c.made ≤ 2 ^ 32) (sym is_then) few;
        count = length-set s.words 0 (slice_index s.words 0) ∙ shows.count;
        words = λ word is.
            ap (λ ws. slice_index ws (place v.opened.sizes word)) (set-get_or s.words 0 0) ∙ shows.words word is ∙ sym (words word) ∙ sym (ap (λ (c : Core). c.words word) is_then);
        homes = λ slot less. subst (λ (c : Core). IsKept shown c (cell_of v.opened.sizes slot) (get_elem? homes slot)) (sym is_then) (kept slot less);
        seen = λ seat view at_now. elim (at_set s.views id seat next_of view at_now) [
          | inl is ↦ subst (λ (w : PassView). IsPrefix w.run (shows.run ++ event_of ∷ []) × AllBegin w.told (shows.run ++ event_of ∷ [])) is.1
              (begins_self (shows.run ++ event_of ∷ []), all_begin_on v.told shows.run (event_of ∷ []) (shows.seen id v at).1)
          | inr is ↦ let seen = shows.seen seat view is.1 in (begins_more view.run shows.run (event_of ∷ []) seen.0, all_begin_on view.told shows.run (event_of ∷ []) seen.1)
        ];
        knows = λ seat view at_now live_now. elim (at_set s.views id seat next_of view at_now) [
          | inl is ↦ subst (KnowsRun v.opened (shows.run ++ event_of ∷ [])) is.1 knows_next
          | inr is ↦ knows_other seat view is.0 is.1 live_now
        ];
        apart = apart_still s.views (slice_set s.views id next_of) shows.apart were;
        keeper = λ seat view at_now live_now zero. keeps_still v.opened (shows.run ++ event_of ∷ []) s.views (slice_set s.views id next_of) view were (elim (at_set s.views id seat next_of view at_now) [
          | inl is ↦ subst (KeeperKnows v.opened (shows.run ++ event_of ∷ []) s.views) is.1
              (let none : v.number ≡ 0 = ap (λ (w : PassView). w.number) is.1 ∙ zero in
              keeps_more v.opened shows.run s.views v event_of id v (shows.run ++ event_of ∷ []) at live refl (now_taken v (taken id v at live none)) (shows.keeper id v at live none))
          | inr is ↦ keeps_more v.opened shows.run s.views view event_of id v view.run at live refl (now_taken view (taken seat view is.1 live_now zero)) (shows.keeper seat view is.1 live_now zero)
        ]);
      }
        where
          now_taken : (view : PassView) → (then_of.ended ≡ numbers view.ended) ⊎ (then_of.ended ≡ numbers (drop 1 view.ended))
              → ((state_of v.opened (shows.run ++ event_of ∷ [])).ended ≡ numbers view.ended) ⊎ ((state_of v.opened (shows.run ++ event_of ∷ [])).ended ≡ numbers (drop 1 view.ended))
          now_taken view is = subst (λ (c : Core). (c.ended ≡ numbers view.ended) ⊎ (c.ended ≡ numbers (drop 1 view.ended))) (sym is_then) is
