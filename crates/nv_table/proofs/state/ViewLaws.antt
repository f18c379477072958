-- Views: what the seats know of a run still holds as the run goes on.
use Rattle.std.proofs.Common.{◌≡◌, ◌≢◌, ◌⊎◌, ℕ, ◌≤◌, ◌==◌, true, List, [], ◌∷◌, ◌++◌, drop, set, inl, inr, refl, sym, ap, subst, ◌∙◌, arith, append_assoc, append-nil, le_trans}
use Rattle.std.proofs.lemmas.List.Elements.{filter-append}
use mathlib.Core.Option.{some}
use lib.ListN.{get_elem?}
use Rattle.atomic_table.specs.Table.{State}
use Rattle.atomic_table.proofs.Lists.{at_set}
use Rattle.nv_core.specs.state.Words.{Sizes}
use Rattle.nv_core.specs.state.Values.{Value}
use Rattle.nv_core.specs.state.Passes.{IsOneOf}
use Rattle.nv_core.specs.steps.Ops.{Op, Split}
use Rattle.nv_core.specs.state.Core.{Core, made_stepped}
use Rattle.nv_core.specs.invariant.OneHistory.{IsPrefix}
use Rattle.nv_core.specs.steps.Events.{Event, Act, BeginsCall, TakesStep, CallsDevice, after_act, after_event, after_run, own}
use Rattle.nv_core.specs.steps.Opening.{opening}
use Rattle.nv_core.specs.steps.Frames.{StaysKnown}
use Rattle.nv_core.specs.steps.Opening.{IsMount}
use Rattle.nv_core.proofs.invariant.KeepsHistory.{begins_more}
use Rattle.nv_core.proofs.steps.RunLaws.{after_parts}
use Rattle.nv_table.specs.state.Opened.{Opened, mount_of, IsRunOf, state_of}
use Rattle.nv_table.specs.state.Views.{Past, PassView, numbers, AllBegin, SeesAll, KnowsRun}
use Rattle.nv_table.specs.invariant.TableInvariant.{IsTakenInWhole, KeeperKnows, TableInvariant}
use Rattle.nv_table.specs.invariant.CoreLaws.{CoreLaws}

-- ---- runs that go on

pub begins_self : {T : Type 0} (whole : List T) → IsPrefix whole whole
begins_self whole = ([], sym (append-nil whole))

-- and the runs that it was told of still begin it
pub all_begin_on : (notes : List (List Event)) (whole more : List Event) → AllBegin notes whole → AllBegin notes (whole ++ more)
all_begin_on [] whole more all = tt
all_begin_on (exported ∷ rest) whole more all = (begins_more exported whole more all.0, all_begin_on rest whole more all.1)

pub own_both : (number : ℕ) (run more : List Event) → own number (run ++ more) ≡ own number run ++ own number more
own_both number run more = filter-append (λ event. event.by == number) run more

pub own_none : (number : ℕ) (run more : List Event) → own number run ≡ [] → own number more ≡ [] → own number (run ++ more) ≡ []
own_none number run more none none_more = own_both number run more ∙ ap (λ l. l ++ own number more) none ∙ none_more

pub sees_on : (number : ℕ) (seen run more : List Event) → own number more ≡ [] → SeesAll number seen run → SeesAll number seen (run ++ more)
sees_on number seen run more none sees = record {
  rest = sees.rest ++ more;
  goes_on = ap (λ l. l ++ more) sees.goes_on ∙ append_assoc seen sees.rest more;
  quiet = own_none number sees.rest more sees.quiet none;
}

pub sees_self : (number : ℕ) (run : List Event) → SeesAll number run run
sees_self number run = record { rest = []; goes_on = sym (append-nil run); quiet = refl }

-- ---- passes are made, and never unmade

more_made : (made : ℕ) (op : Op) → made ≤ made_stepped op made
more_made made Split = omega arith
more_made made op = omega arith

more_by : (sizes : Sizes) (by : ℕ) (core : Core) (act : Act) → core.made ≤ (after_act sizes by act core).made
more_by sizes by core (BeginsCall call op found) = more_made core.made op
more_by sizes by core (TakesStep op found) = more_made core.made op
more_by sizes by core (CallsDevice work) = omega arith

more_after : (sizes : Sizes) (core : Core) (more : List Event) → core.made ≤ (after_run sizes core more).made
more_after sizes core [] = omega arith
more_after sizes core (event ∷ later) = le_trans (more_by sizes event.by core event.act) (more_after sizes (after_event sizes event core) later)

pub made_on : (opened : Opened) (run more : List Event) → (state_of opened run).made ≤ (state_of opened (run ++ more)).made
made_on opened run more =
    subst (λ core. (state_of opened run).made ≤ core.made) (sym (after_parts opened.sizes (opening (mount_of opened)) run more)) (more_after opened.sizes (state_of opened run) more)

pub made_seen : (opened : Opened) (number : ℕ) (seen run : List Event) → SeesAll number seen run → (state_of opened seen).made ≤ (state_of opened run).made
made_seen opened number seen run sees = subst (λ l. (state_of opened seen).made ≤ (state_of opened l).made) (sym sees.goes_on) (made_on opened seen sees.rest)

-- ---- what a seat has seen is so at the end of the run

pub told_on : CoreLaws → (opened : Opened) (run : List Event) (view : PassView) → IsMount (mount_of opened) → IsRunOf opened run → KnowsRun opened run view
    → StaysKnown view.number (state_of opened view.run) (state_of opened run)
told_on laws opened run view is_mount is_run knows =
    subst (λ l. StaysKnown view.number (state_of opened view.run) (state_of opened l)) (sym knows.all.goes_on)
    (laws.own (mount_of opened) view.number view.run knows.all.rest is_mount (subst (IsRunOf opened) knows.all.goes_on is_run) knows.made knows.all.quiet)

-- ---- a seat's pass goes on

-- the view of a seat, after some more events of its pass
abbrev pub onto : PassView → (run more : List Event) → PassView
onto view run more = record view { run = run ++ more }

-- Some events of one pass came, by which no pass was taken in.
module _ (opened : Opened) (run more : List Event) (view : PassView) (others : (other : ℕ) → other ≢ view.number → own other more ≡ [])
    (ended : (state_of opened (run ++ more)).ended ≡ (state_of opened run).ended) where
  -- its own seat has seen all of them
  pub knows_onto : KnowsRun opened run view → KnowsRun opened (run ++ more) (onto view run more)
  knows_onto knows = record {
    mount = knows.mount;
    all = sees_self view.number (run ++ more);
    made =
        let seen = made_seen opened view.number view.run run knows.all in
        let later = made_on opened run more in
        le_trans knows.made (le_trans seen later);
    there = λ one. knows.there (subst (λ l. IsOneOf l view.number) ended one);
  }

  -- and the others miss nothing of their own
  pub knows_other : (other : PassView) → other.number ≢ view.number → KnowsRun opened run other → KnowsRun opened (run ++ more) other
  knows_other other ne knows = record {
    mount = knows.mount;
    all = sees_on other.number other.run run more (others other.number ne) knows.all;
    made = knows.made;
    there = λ one. knows.there (subst (λ l. IsOneOf l other.number) ended one);
  }

  -- pass 0's seat keeps what it kept of them
  module _ (views : List PassView) (id : ℕ) (there : get_elem? views id ≡ some view) (live : view.live ≡ true) (keeper : PassView) (keeps : KeeperKnows opened run views keeper) where
    seated_on : (seat : ℕ) (one : PassView) → get_elem? (set views id (onto view run more)) seat ≡ some one → one.live ≡ true → one.number ≤ keeper.seated
    seated_on seat one at alive = elim (at_set views id seat (onto view run more) one at) [
      | inl here ↦ subst (λ (s : PassView). s.number ≤ keeper.seated) here.1 (keeps.seated id view there live)
      | inr else_ ↦ keeps.seated seat one else_.1 alive
    ]

    over_on : (past : Past) → IsOneOf keeper.ended past → IsTakenInWhole opened (run ++ more) keeper.seated past
    over_on past one =
        let over = keeps.ended past one in
        record {
          some = over.some;
          within = over.within;
          all = sees_on past.number past.run run more (others past.number (λ is. keeps.gone past one id view there live (sym is))) over.all;
          made = over.made;
          bare = over.bare;
        }

    gone_on : (past : Past) → IsOneOf keeper.ended past → (seat : ℕ) (one : PassView) → get_elem? (set views id (onto view run more)) seat ≡ some one → one.live ≡ true → one.number ≡ past.number → ⊥
    gone_on past is seat one at alive number = elim (at_set views id seat (onto view run more) one at) [
      | inl here ↦ keeps.gone past is id view there live (ap (λ (s : PassView). s.number) here.1 ∙ number)
      | inr else_ ↦ keeps.gone past is seat one else_.1 alive number
    ]

    pub keeps_onto : KeeperKnows opened (run ++ more) (set views id (onto view run more)) keeper
    keeps_onto = record {
      seated = seated_on;
      unborn = λ number past. let low = keeps.seated id view there live in own_none number run more (keeps.unborn number past) (others number (λ is. omega (arith, past, low, is)));
      ended = over_on;
      gone = gone_on;
      once = keeps.once;
      taken = subst (λ l. (l ≡ numbers keeper.ended) ⊎ (l ≡ numbers (drop 1 keeper.ended))) (sym ended) keeps.taken;
    }

-- what is kept does not name the keeper's run
keeps_same : (opened : Opened) (run : List Event) (views : List PassView) (keeper : PassView) (before more : List Event) → KeeperKnows opened run views keeper → KeeperKnows opened run views (onto keeper before more)
keeps_same opened run views keeper before more keeps = record {
  seated = keeps.seated;
  unborn = keeps.unborn;
  ended = keeps.ended;
  gone = keeps.gone;
  once = keeps.once;
  taken = keeps.taken;
}

-- ---- the views that the rule speaks of, after some more events of one seat's pass

module _ {S : Type 0} (shown : S → Value) (opened : Opened) (state : State S PassView) (shows : TableInvariant shown opened state)
    (id : ℕ) (view : PassView) (there : get_elem? state.views id ≡ some view) (live : view.live ≡ true)
    (more : List Event) (others : (other : ℕ) → other ≢ view.number → own other more ≡ [])
    (ended : (state_of opened (shows.run ++ more)).ended ≡ (state_of opened shows.run).ended) where
  pub views_seen : (seat : ℕ) (one : PassView) → get_elem? (set state.views id (onto view shows.run more)) seat ≡ some one
      → IsPrefix one.run (shows.run ++ more) × AllBegin one.told (shows.run ++ more)
  views_seen seat one at = elim (at_set state.views id seat (onto view shows.run more) one at) [
    | inl here ↦
        subst (λ (s : PassView). IsPrefix s.run (shows.run ++ more) × AllBegin s.told (shows.run ++ more)) here.1
        (begins_self (shows.run ++ more), all_begin_on view.told shows.run more (shows.seen id view there).1)
    | inr else_ ↦ let seen = shows.seen seat one else_.1 in (begins_more one.run shows.run more seen.0, all_begin_on one.told shows.run more seen.1)
  ]

  -- another seat is another pass's
  pub views_differ : (seat : ℕ) (one : PassView) → seat ≢ id → get_elem? state.views seat ≡ some one → one.live ≡ true → one.number ≢ view.number
  views_differ seat one ne at alive is = ne (shows.apart seat id one view at there alive live is)

  pub views_know : (seat : ℕ) (one : PassView) → get_elem? (set state.views id (onto view shows.run more)) seat ≡ some one → one.live ≡ true → KnowsRun opened (shows.run ++ more) one
  views_know seat one at alive = elim (at_set state.views id seat (onto view shows.run more) one at) [
    | inl here ↦ subst (KnowsRun opened (shows.run ++ more)) here.1 (knows_onto opened shows.run more view others ended (shows.knows id view there live))
    | inr else_ ↦ knows_other opened shows.run more view others ended one (views_differ seat one else_.0 else_.1 alive) (shows.knows seat one else_.1 alive)
  ]

  pub views_apart : (one other : ℕ) (view_one view_other : PassView) → get_elem? (set state.views id (onto view shows.run more)) one ≡ some view_one
      → get_elem? (set state.views id (onto view shows.run more)) other ≡ some view_other
      → view_one.live ≡ true → view_other.live ≡ true → view_one.number ≡ view_other.number → one ≡ other
  views_apart one other view_one view_other at_one at_other alive alive_other is = elim (at_set state.views id one (onto view shows.run more) view_one at_one) [
    | inl here ↦ elim (at_set state.views id other (onto view shows.run more) view_other at_other) [
      | inl here_too ↦ here.0 ∙ sym here_too.0
      | inr else_ ↦ absurd (views_differ other view_other else_.0 else_.1 alive_other (sym (ap (λ (s : PassView). s.number) here.1 ∙ is)))
    ]
    | inr else_ ↦ elim (at_set state.views id other (onto view shows.run more) view_other at_other) [
      | inl here ↦ absurd (views_differ one view_one else_.0 else_.1 alive (is ∙ sym (ap (λ (s : PassView). s.number) here.1)))
      | inr else_too ↦ shows.apart one other view_one view_other else_.1 else_too.1 alive alive_other is
    ]
  ]

  pub views_keep : (seat : ℕ) (one : PassView) → get_elem? (set state.views id (onto view shows.run more)) seat ≡ some one → one.live ≡ true → one.number ≡ 0
      → KeeperKnows opened (shows.run ++ more) (set state.views id (onto view shows.run more)) one
  views_keep seat one at alive zero = elim (at_set state.views id seat (onto view shows.run more) one at) [
    | inl here ↦
        subst (KeeperKnows opened (shows.run ++ more) (set state.views id (onto view shows.run more))) here.1
        (keeps_same opened (shows.run ++ more) (set state.views id (onto view shows.run more)) view shows.run more
        (keeps_onto opened shows.run more view others ended state.views id there live view (shows.keeper id view there live (ap (λ (s : PassView). s.number) here.1 ∙ zero))))
    | inr else_ ↦ keeps_onto opened shows.run more view others ended state.views id there live one (shows.keeper seat one else_.1 alive zero)
  ]
