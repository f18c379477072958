-- Moments: a seat that is told a run, looks at the table and forgets it again keeps the invariant, and sees a moment.
use Rattle.std.proofs.Common.{◌≡◌, ℕ, Bool, true, false, if◌then◌else◌, nat_lt, length, List, [], ◌∷◌, ◌++◌, refl, sym, ap, subst, ◌∙◌, inl, inr}
use Rattle.std.specs.Prelude.{slice_index, slice_set}
use mathlib.Core.Option.{some}
use lib.ListN.{get_elem?}
use Rattle.atomic_table.specs.Table.{Me, keeps, Splits as SplitsTo, Allows}
use Rattle.atomic_table.proofs.Lists.{at_set, set_again}
use Rattle.nv_core.specs.state.Values.{Value}
use Rattle.nv_core.specs.steps.Events.{Event}
use Rattle.nv_core.specs.invariant.OneHistory.{IsPrefix}
use Rattle.nv_table.specs.passes.Seats.{imported}
use Rattle.nv_table.specs.state.Opened.{IsRunOf, Opened}
use Rattle.nv_table.specs.state.Views.{PassView, KnowsRun, AllBegin}
use Rattle.nv_table.specs.invariant.TableInvariant.{KeeperKnows, TableInvariant}
use Rattle.nv_table.specs.passes.Moments.{SeesTold, SharesMoment, forgetful, last_told, told_back, told_before}
use Rattle.nv_table.proofs.invariant.PassingKeepsInvariant.{Was, was, apart_still, keeps_still}
use Rattle.nv_table.proofs.invariant.PartLaws.{Views, views_of, with_views, not_live, snoc_cases}

-- ---- forgetting

-- what it was told before begins a run too
told_less : (told : List (List Event)) (run : List Event) → AllBegin told run → AllBegin (told_before told) run
told_less [] run begin = tt
told_less (last ∷ before) run begin = begin.1

-- and so does what it was told last
told_last : (told : List (List Event)) (run : List Event) → AllBegin told run → IsPrefix (last_told told) run
told_last [] run begin = (run, refl)
told_last (last ∷ before) run begin = begin.0

either_begins : (b : Bool) (one other run : List Event) → IsPrefix one run → IsPrefix other run → IsPrefix (if b then other else one) run
either_begins true one other run a c = c
either_begins false one other run a c = a

module _ (opened : Opened) (run : List Event) (views : List PassView) (them : Views opened run views) (id : ℕ) (v : PassView) (at : get_elem? views id ≡ some v) where
  abbrev forgot : List PassView
  forgot = slice_set views id (forgetful v) ++ told_back v ∷ []

  -- a live view is one that was there, or the forgetful one
  forgot_live : (seat : ℕ) (view : PassView) → get_elem? forgot seat ≡ some view → view.live ≡ true → get_elem? (slice_set views id (forgetful v)) seat ≡ some view
  forgot_live seat view there live = elim (snoc_cases (slice_set views id (forgetful v)) (told_back v) view seat there) [
    | inl is ↦ is
    | inr is ↦ absurd (not_live view (sym (ap (λ (w : PassView). w.live) is.1)) live)
  ]

  forgot_were : (seat : ℕ) (view : PassView) → get_elem? forgot seat ≡ some view → view.live ≡ true → Was views seat view
  forgot_were seat view there live = was views id v (forgetful v) at refl (λ is. is) seat view (forgot_live seat view there live)

  forgot_seen : (seat : ℕ) (view : PassView) → get_elem? (slice_set views id (forgetful v)) seat ≡ some view → IsPrefix view.run run × AllBegin view.told run
  forgot_seen seat view there = elim (at_set views id seat (forgetful v) view there) [
    | inl is ↦ subst (λ (w : PassView). IsPrefix w.run run × AllBegin w.told run) is.1 ((them.seen id v at).0, told_less v.told run (them.seen id v at).1)
    | inr is ↦ them.seen seat view is.1
  ]

  forgot_knows : (seat : ℕ) (view : PassView) → get_elem? (slice_set views id (forgetful v)) seat ≡ some view → view.live ≡ true → KnowsRun opened run view
  forgot_knows seat view there live = elim (at_set views id seat (forgetful v) view there) [
    | inl is ↦ subst (KnowsRun opened run) is.1
        (let k = them.knows id v at (ap (λ (w : PassView). w.live) is.1 ∙ live) in record { mount = k.mount; all = k.all; made = k.made; there = k.there })
    | inr is ↦ them.knows seat view is.1 live
  ]

  forgot_keeper : (seat : ℕ) (view : PassView) → get_elem? (slice_set views id (forgetful v)) seat ≡ some view → view.live ≡ true → view.number ≡ 0 → KeeperKnows opened run views view
  forgot_keeper seat view there live zero = elim (at_set views id seat (forgetful v) view there) [
    | inl is ↦ subst (KeeperKnows opened run views) is.1
        (let k = them.keeper id v at (ap (λ (w : PassView). w.live) is.1 ∙ live) (ap (λ (w : PassView). w.number) is.1 ∙ zero) in
        record { seated = k.seated; unborn = k.unborn; ended = k.ended; gone = k.gone; once = k.once; taken = k.taken })
    | inr is ↦ them.keeper seat view is.1 live zero
  ]

  with_forgot : Views opened run forgot
  with_forgot = record {
    seen = λ seat view there. elim (snoc_cases (slice_set views id (forgetful v)) (told_back v) view seat there) [
      | inl is ↦ forgot_seen seat view is
      | inr is ↦ subst (λ (w : PassView). IsPrefix w.run run × AllBegin w.told run) is.1 (either_begins (nat_lt (length v.run) (length (last_told v.told))) v.run (last_told v.told) run (them.seen id v at).0 (told_last v.told run (them.seen id v at).1), tt)
    ];
    knows = λ seat view there live. forgot_knows seat view (forgot_live seat view there live) live;
    apart = apart_still views forgot them.apart forgot_were;
    keeper = λ seat view there live zero. keeps_still opened run views forgot view forgot_were (forgot_keeper seat view (forgot_live seat view there live) live zero);
  }

pub forgets : {S : Type 0} (shown : S → Value) (opened : Opened) (id : ℕ) (v : PassView) → SplitsTo (TableInvariant shown opened) id v (forgetful v) (told_back v)
forgets shown opened id v s shows at =
    with_views shown opened s shows (slice_set s.views id (forgetful v) ++ told_back v ∷ []) (with_forgot opened shows.run s.views (views_of shown opened s shows) id v at)

-- ---- looking

word_again : (words : List ℕ) → slice_set words 0 (slice_index words 0) ≡ words
word_again [] = refl
word_again (word ∷ words) = refl

-- a load of word 0 leaves the table and the seat as they are, and the seat sees a moment
pub looks : {S : Type 0} (shown : S → Value) (opened : Opened) (slots id : ℕ) (old : Me S PassView) → old.0.live ≡ true
    → Allows (TableInvariant shown opened) slots id old 0 (λ n. n) (λ found new. (new ≡ old) × SeesTold old.0)
looks shown opened slots id old live s shows count at small =
    let knows = shows.knows id old.0 at live in (
      old.0,
      keeps,
      tt,
      subst (λ words. TableInvariant shown opened record { words = words; homes = s.homes; views = slice_set s.views id old.0 }) (sym (word_again s.words))
          (subst (λ views. TableInvariant shown opened record { words = s.words; homes = s.homes; views = views }) (sym (set_again s.views id old.0 at)) shows),
      (
        refl,
        record {
          run = shows.run;
          is_run = subst (λ o. IsRunOf o shows.run) (sym knows.mount) shows.is_run;
          knows = subst (λ o. KnowsRun o shows.run old.0) (sym knows.mount) knows;
          told = (shows.seen id old.0 at).1;
        },
      ),
    )

-- and where an exported view was told last, that moment is shared with it
pub shares : (view other : PassView) → SeesTold (imported view other) → SharesMoment view other.run
shares view other sees = record {
  run = sees.run;
  is_run = sees.is_run;
  knows = let k = sees.knows in record { mount = k.mount; all = k.all; made = k.made; there = k.there };
  begins = sees.told.0;
}
