-- Parts: a seat that is cut in two, told something or taken in keeps the invariant.
use Rattle.std.proofs.Common.{◌≡◌, ◌≢◌, ◌⊎◌, ℕ, zero, suc, ◌+◌, ◌<◌, ◌≤◌, true, false, List, [], ◌∷◌, ◌++◌, length, drop, inl, inr, refl, sym, ap, subst, ◌∙◌, arith, true≢false}
use Rattle.std.specs.Prelude.{slice_set}
use mathlib.Core.Option.{some, some-injective, some-ne-none}
use lib.ListN.{get_elem?}
use Rattle.atomic_table.specs.Table.{State, Splits as SplitsTo, Joins as JoinsTo}
use Rattle.atomic_table.proofs.Lists.{at_set, set_again}
use Rattle.nv_core.specs.state.Words.{Word, keeps_something}
use Rattle.nv_core.specs.state.Values.{Value}
use Rattle.nv_core.specs.state.Passes.{IsOneOf, times}
use Rattle.nv_core.specs.invariant.OneHistory.{IsPrefix}
use Rattle.nv_core.specs.steps.Events.{Event, own}
use Rattle.nv_table.specs.state.Opened.{Opened, state_of}
use Rattle.nv_table.specs.state.Views.{Past, PassView, pass_of, made_of, ended_of, numbers, still_owned, past_pass, KnowsRun, AllBegin}
use Rattle.nv_table.specs.invariant.TableInvariant.{IsTakenInWhole, KeeperKnows, TableInvariant}
use Rattle.nv_table.specs.passes.Seats.{parent, child, exported, imported, past_of, joined, spent}
use Rattle.nv_table.specs.invariant.CoreLaws.{CoreLaws}
use Rattle.nv_table.proofs.state.ViewLaws.{told_on}
use Rattle.nv_table.proofs.invariant.Going.{own_end, over_wider}
use Rattle.nv_table.proofs.invariant.PassingKeepsInvariant.{Was, was_same, was, AreApart, apart_still, keeps_still}

-- ---- other views

-- what the rule says of the views
pub record Views (opened : Opened) (run : List Event) (views : List PassView) : Type 0 where
  pub seen : (seat : ℕ) (view : PassView) → get_elem? views seat ≡ some view → IsPrefix view.run run × AllBegin view.told run
  pub knows : (seat : ℕ) (view : PassView) → get_elem? views seat ≡ some view → view.live ≡ true → KnowsRun opened run view
  pub apart : AreApart views
  pub keeper : (seat : ℕ) (view : PassView) → get_elem? views seat ≡ some view → view.live ≡ true → view.number ≡ 0 → KeeperKnows opened run views view

pub views_of : {S : Type 0} (shown : S → Value) (opened : Opened) (s : State S PassView) (shows : TableInvariant shown opened s) → Views opened shows.run s.views
views_of shown opened s shows = record { seen = shows.seen; knows = shows.knows; apart = shows.apart; keeper = shows.keeper }

pub with_views : {S : Type 0} (shown : S → Value) (opened : Opened) (s : State S PassView) (shows : TableInvariant shown opened s) (views : List PassView) → Views opened shows.run views
    → TableInvariant shown opened record { words = s.words; homes = s.homes; views = views }
with_views shown opened s shows views them = record {
  mount = shows.mount;
  run = shows.run;
  is_run = shows.is_run;
  few = shows.few;
  count = shows.count;
  words = shows.words;
  homes = shows.homes;
  seen = them.seen;
  knows = them.knows;
  apart = them.apart;
  keeper = them.keeper;
}

-- one that is dead is not live
pub not_live : (view : PassView) → view.live ≡ false → view.live ≡ true → ⊥
not_live view dead live = true≢false (sym live ∙ dead)

-- ---- one more view

pub snoc_cases : {A : Type 0} (l : List A) (a b : A) (j : ℕ) → get_elem? (l ++ a ∷ []) j ≡ some b → (get_elem? l j ≡ some b) ⊎ ((j ≡ length l) × (a ≡ b))
snoc_cases [] a b zero e = inr (refl, some-injective a b e)
snoc_cases [] a b (suc j) e = absurd (some-ne-none b (sym e))
snoc_cases (x ∷ xs) a b zero e = inl e
snoc_cases (x ∷ xs) a b (suc j) e = elim (snoc_cases xs a b j e) [ inl there ↦ inl there | inr is ↦ inr (ap suc is.0, is.1) ]

-- ---- an exported view

module _ (opened : Opened) (run : List Event) (views : List PassView) (them : Views opened run views) (id : ℕ) (v : PassView) (at : get_elem? views id ≡ some v) where
  noted : (seat : ℕ) (view : PassView) → get_elem? (views ++ exported v ∷ []) seat ≡ some view → view.live ≡ true → get_elem? views seat ≡ some view
  noted seat view there live = elim (snoc_cases views (exported v) view seat there) [
    | inl is ↦ is
    | inr is ↦ absurd (not_live view (sym (ap (λ (w : PassView). w.live) is.1)) live)
  ]

  noted_were : (seat : ℕ) (view : PassView) → get_elem? (views ++ exported v ∷ []) seat ≡ some view → view.live ≡ true → Was views seat view
  noted_were seat view there live = was_same views seat view (noted seat view there live)

  with_exported : Views opened run (views ++ exported v ∷ [])
  with_exported = record {
    seen = λ seat view there. elim (snoc_cases views (exported v) view seat there) [
      | inl is ↦ them.seen seat view is
      | inr is ↦ subst (λ (w : PassView). IsPrefix w.run run × AllBegin w.told run) is.1 ((them.seen id v at).0, tt)
    ];
    knows = λ seat view there live. them.knows seat view (noted seat view there live) live;
    apart = apart_still views (views ++ exported v ∷ []) them.apart noted_were;
    keeper = λ seat view there live is_zero. keeps_still opened run views (views ++ exported v ∷ []) view noted_were (them.keeper seat view (noted seat view there live) live is_zero);
  }

pub notes : {S : Type 0} (shown : S → Value) (opened : Opened) (id : ℕ) (v : PassView) → SplitsTo (TableInvariant shown opened) id v v (exported v)
notes shown opened id v s shows at =
    with_views shown opened s shows (slice_set s.views id v ++ exported v ∷ [])
    (subst (λ views. Views opened shows.run (views ++ exported v ∷ [])) (sym (set_again s.views id v at)) (with_exported opened shows.run s.views (views_of shown opened s shows) id v at))

-- ---- a new pass's seat

module _ (opened : Opened) (run : List Event) (views : List PassView) (them : Views opened run views) (id : ℕ) (v : PassView) (at : get_elem? views id ≡ some v) (live : v.live ≡ true) (is_zero : v.number ≡ 0)
    (mount : v.opened ≡ opened) (one_more : made_of v ≡ v.seated + 1) where
  parted_keeps : KeeperKnows opened run views v
  parted_keeps = them.keeper id v at live is_zero

  parted_knows : KnowsRun opened run v
  parted_knows = them.knows id v at live

  -- the views are as they were but for pass 0's, and one is new
  abbrev Parted : ℕ → PassView → Type 0
  Parted seat view = ((seat ≡ id) × (parent v ≡ view)) ⊎ (((seat ≢ id) × (get_elem? views seat ≡ some view)) ⊎ ((seat ≡ length (slice_set views id (parent v))) × (child v ≡ view)))

  parted : (seat : ℕ) (view : PassView) → get_elem? (slice_set views id (parent v) ++ child v ∷ []) seat ≡ some view → Parted seat view
  parted seat view there = elim (snoc_cases (slice_set views id (parent v)) (child v) view seat there) [
    | inl is ↦ elim (at_set views id seat (parent v) view is) [ inl here ↦ inl here | inr other ↦ inr (inl other) ]
    | inr is ↦ inr (inr is)
  ]

  parted_was : (seat : ℕ) (view : PassView) → get_elem? (slice_set views id (parent v)) seat ≡ some view → Was views seat view
  parted_was seat view there = was views id v (parent v) at refl (λ is. is) seat view there

  -- those that were there are of numbers below the new one
  parted_low : (seat : ℕ) (view : PassView) → get_elem? (slice_set views id (parent v)) seat ≡ some view → view.live ≡ true → view.number < made_of v
  parted_low seat view there alive =
      let w = parted_was seat view there in
      let low = parted_keeps.seated seat w.view_then w.there (w.live alive) in
      let number = w.number in
      omega (arith, low, number, one_more)

  parted_unseen : own (made_of v) parted_knows.all.rest ≡ []
  parted_unseen = own_end (made_of v) v.run parted_knows.all.rest run parted_knows.all.goes_on (parted_keeps.unborn (made_of v) (omega (arith, one_more)))

  -- what was taken in is of numbers below it
  numbers_low : (pasts : List Past) → ((past : Past) → IsOneOf pasts past → past.number ≤ v.seated) → (number : ℕ) → IsOneOf (numbers pasts) number → number ≤ v.seated
  numbers_low [] low number one = absurd one
  numbers_low (first ∷ rest) low number (inl is) = let less = low first (inl refl) in omega (arith, is, less)
  numbers_low (first ∷ rest) low number (inr one) = numbers_low rest (λ past later. low past (inr later)) number one

  dropped_low : (pasts : List Past) → ((past : Past) → IsOneOf pasts past → past.number ≤ v.seated) → (number : ℕ) → IsOneOf (numbers (drop 1 pasts)) number → number ≤ v.seated
  dropped_low [] low number one = absurd one
  dropped_low (first ∷ rest) low number one = numbers_low rest (λ past later. low past (inr later)) number one

  parted_fresh : IsOneOf (state_of opened run).ended (made_of v) → ⊥
  parted_fresh one = elim parted_keeps.taken [
    | inl is ↦ let low = numbers_low v.ended (λ past there. (parted_keeps.ended past there).within) (made_of v) (subst (λ ended. IsOneOf ended (made_of v)) is one) in omega (arith, low, one_more)
    | inr is ↦ let low = dropped_low v.ended (λ past there. (parted_keeps.ended past there).within) (made_of v) (subst (λ ended. IsOneOf ended (made_of v)) is one) in omega (arith, low, one_more)
  ]

  knows_child : KnowsRun opened run (child v)
  knows_child = record {
    mount = mount;
    all = record { rest = parted_knows.all.rest; goes_on = parted_knows.all.goes_on; quiet = parted_unseen };
    made = subst (λ o. made_of v ≤ (state_of o v.run).made) mount (omega arith);
    there = parted_fresh;
  }

  knows_parent : KnowsRun opened run (parent v)
  knows_parent = record { mount = parted_knows.mount; all = parted_knows.all; made = parted_knows.made; there = parted_knows.there }

  parted_apart : AreApart (slice_set views id (parent v) ++ child v ∷ [])
  parted_apart one other view view_other there there_other alive alive_other same =
      go (snoc_cases (slice_set views id (parent v)) (child v) view one there) (snoc_cases (slice_set views id (parent v)) (child v) view_other other there_other)
    where
      go : (get_elem? (slice_set views id (parent v)) one ≡ some view) ⊎ ((one ≡ length (slice_set views id (parent v))) × (child v ≡ view))
          → (get_elem? (slice_set views id (parent v)) other ≡ some view_other) ⊎ ((other ≡ length (slice_set views id (parent v))) × (child v ≡ view_other)) → one ≡ other
      go (inl a) (inl b) = apart_still views (slice_set views id (parent v)) them.apart (λ seat w at_seat _. parted_was seat w at_seat) one other view view_other a b alive alive_other same
      go (inl a) (inr b) = let low = parted_low one view a alive in let number = ap (λ (w : PassView). w.number) b.1 in absurd (omega (arith, low, number, same))
      go (inr a) (inl b) = let low = parted_low other view_other b alive_other in let number = ap (λ (w : PassView). w.number) a.1 in absurd (omega (arith, low, number, same))
      go (inr a) (inr b) = a.0 ∙ sym b.0

  keeps_parent : KeeperKnows opened run (slice_set views id (parent v) ++ child v ∷ []) (parent v)
  keeps_parent = record {
    seated = λ seat view there alive. elim (snoc_cases (slice_set views id (parent v)) (child v) view seat there) [
      | inl is ↦ let low = parted_low seat view is alive in omega (arith, low)
      | inr is ↦ let number = ap (λ (w : PassView). w.number) is.1 in omega (arith, number)
    ];
    unborn = λ number less. parted_keeps.unborn number (omega (arith, less, one_more));
    ended = λ past one. over_wider opened run v.seated (made_of v) past (omega (arith, one_more)) (parted_keeps.ended past one);
    gone = λ past one seat view there alive same. elim (snoc_cases (slice_set views id (parent v)) (child v) view seat there) [
      | inl is ↦ let w = parted_was seat view is in parted_keeps.gone past one seat w.view_then w.there (w.live alive) (w.number ∙ same)
      | inr is ↦
          let number = ap (λ (w : PassView). w.number) is.1 in
          let low = (parted_keeps.ended past one).within in
          omega (arith, number, low, same, one_more)
    ];
    once = parted_keeps.once;
    taken = parted_keeps.taken;
  }

  with_parts : Views opened run (slice_set views id (parent v) ++ child v ∷ [])
  with_parts = record {
    seen = λ seat view there. elim (parted seat view there) [
      | inl is ↦ subst (λ (w : PassView). IsPrefix w.run run × AllBegin w.told run) is.1 (them.seen id v at)
      | inr more ↦ elim more [
        | inl is ↦ them.seen seat view is.1
        | inr is ↦ subst (λ (w : PassView). IsPrefix w.run run × AllBegin w.told run) is.1 ((them.seen id v at).0, tt)
      ]
    ];
    knows = λ seat view there alive. elim (parted seat view there) [
      | inl is ↦ subst (KnowsRun opened run) is.1 knows_parent
      | inr more ↦ elim more [ inl is ↦ them.knows seat view is.1 alive | inr is ↦ subst (KnowsRun opened run) is.1 knows_child ]
    ];
    apart = parted_apart;
    keeper = λ seat view there alive none. elim (parted seat view there) [
      | inl is ↦ subst (KeeperKnows opened run (slice_set views id (parent v) ++ child v ∷ [])) is.1 keeps_parent
      | inr more ↦ elim more [
        | inl is ↦ absurd (is.0 (them.apart seat id view v is.1 at alive live (none ∙ sym is_zero)))
        | inr is ↦ let number = ap (λ (w : PassView). w.number) is.1 in absurd (omega (arith, number, none, one_more))
      ]
    ];
  }

pub parts : {S : Type 0} (shown : S → Value) (opened : Opened) (id : ℕ) (v : PassView) → v.live ≡ true → v.number ≡ 0 → made_of v ≡ v.seated + 1
    → SplitsTo (TableInvariant shown opened) id v (parent v) (child v)
parts shown opened id v live is_zero one_more s shows at =
    with_views shown opened s shows (slice_set s.views id (parent v) ++ child v ∷ [])
    (with_parts opened shows.run s.views (views_of shown opened s shows) id v at live is_zero (shows.knows id v at live).mount one_more)

-- ---- two seats

module _ (opened : Opened) (run : List Event) (views : List PassView) (them : Views opened run views) (id : ℕ) (v : PassView) (at : get_elem? views id ≡ some v) (other : ℕ) (w : PassView) (both : PassView) where
  -- the other's view, before
  other_at : (other ≡ id → ⊥) → get_elem? (slice_set views id both) other ≡ some w → get_elem? views other ≡ some w
  other_at ne there = elim (at_set views id other both w there) [ inl is ↦ absurd (ne is.0) | inr is ↦ is.1 ]

  -- a view after: what is left of the other's, the joint one, or one as it was
  abbrev Met : ℕ → PassView → Type 0
  Met seat view = ((seat ≡ other) × (spent ≡ view)) ⊎ (((seat ≡ id) × (both ≡ view)) ⊎ ((seat ≢ other) × (seat ≢ id) × (get_elem? views seat ≡ some view)))

  met : (seat : ℕ) (view : PassView) → get_elem? (slice_set (slice_set views id both) other spent) seat ≡ some view → Met seat view
  met seat view there = elim (at_set (slice_set views id both) other seat spent view there) [
    | inl is ↦ inl is
    | inr off ↦ elim (at_set views id seat both view off.1) [ inl is ↦ inr (inl is) | inr is ↦ inr (inr (off.0, is.0, is.1)) ]
  ]

  -- a live one is not the other's
  met_live : (seat : ℕ) (view : PassView) → get_elem? (slice_set (slice_set views id both) other spent) seat ≡ some view → view.live ≡ true
      → ((seat ≡ id) × (both ≡ view)) ⊎ ((seat ≢ other) × (seat ≢ id) × (get_elem? views seat ≡ some view))
  met_live seat view there alive = elim (met seat view there) [
    | inl is ↦ absurd (not_live view (sym (ap (λ (one : PassView). one.live) is.1)) alive)
    | inr is ↦ is
  ]

  met_seen : IsPrefix both.run run × AllBegin both.told run → (seat : ℕ) (view : PassView) → get_elem? (slice_set (slice_set views id both) other spent) seat ≡ some view → IsPrefix view.run run × AllBegin view.told run
  met_seen seen seat view there = elim (met seat view there) [
    | inl is ↦ subst (λ (one : PassView). IsPrefix one.run run × AllBegin one.told run) is.1 ((run, refl), tt)
    | inr more ↦ elim more [
      | inl is ↦ subst (λ (one : PassView). IsPrefix one.run run × AllBegin one.told run) is.1 seen
      | inr is ↦ them.seen seat view is.2
    ]
  ]

  met_knows : KnowsRun opened run both → (seat : ℕ) (view : PassView) → get_elem? (slice_set (slice_set views id both) other spent) seat ≡ some view → view.live ≡ true → KnowsRun opened run view
  met_knows knows seat view there alive = elim (met_live seat view there alive) [
    | inl is ↦ subst (KnowsRun opened run) is.1 knows
    | inr is ↦ them.knows seat view is.2 alive
  ]

  met_were : v.number ≡ both.number → (both.live ≡ true → v.live ≡ true) → (seat : ℕ) (view : PassView) → get_elem? (slice_set (slice_set views id both) other spent) seat ≡ some view → view.live ≡ true
      → Was views seat view
  met_were number live seat view there alive = elim (met_live seat view there alive) [
    | inl is ↦ subst (Was views seat) is.1 record { view_then = v; there = subst (λ i. get_elem? views i ≡ some v) (sym is.0) at; number = number; live = live }
    | inr is ↦ was_same views seat view is.2
  ]

  -- a live seat's pass is not the other's
  met_apart : (other ≡ id → ⊥) → get_elem? views other ≡ some w → w.live ≡ true → v.live ≡ true → v.number ≡ both.number → (seat : ℕ) (view : PassView)
      → get_elem? (slice_set (slice_set views id both) other spent) seat ≡ some view → view.live ≡ true → view.number ≡ w.number → ⊥
  met_apart ne there_w live_w live_v number seat view there alive same = elim (met_live seat view there alive) [
    | inl is ↦ ne (them.apart other id w v there_w at live_w live_v (sym same ∙ sym (ap (λ (one : PassView). one.number) is.1) ∙ sym number))
    | inr is ↦ is.0 (them.apart seat other view w is.2 there_w alive live_w same)
  ]

-- ---- what an exported view tells

pub hears : {S : Type 0} (shown : S → Value) (opened : Opened) (id : ℕ) (v : PassView) (other : ℕ) (w : PassView) → v.live ≡ true → w.live ≡ false → JoinsTo (TableInvariant shown opened) id v other w (imported v w) spent
hears shown opened id v other w live dead s shows at ne there = with_views shown opened s shows (slice_set (slice_set s.views id (imported v w)) other spent) record {
  seen = met_seen opened shows.run s.views them id v at other w (imported v w) ((shows.seen id v at).0, ((shows.seen other w was_at).0, (shows.seen id v at).1));
  knows = met_knows opened shows.run s.views them id v at other w (imported v w) (let k = shows.knows id v at live in record { mount = k.mount; all = k.all; made = k.made; there = k.there });
  apart = apart_still s.views (slice_set (slice_set s.views id (imported v w)) other spent) shows.apart were;
  keeper = λ seat view at_seat alive is_zero. keeps_still opened shows.run s.views (slice_set (slice_set s.views id (imported v w)) other spent) view were
      (elim (met_live opened shows.run s.views them id v at other w (imported v w) seat view at_seat alive) [
        | inl is ↦ subst (KeeperKnows opened shows.run s.views) is.1
            (let k = shows.keeper id v at live (ap (λ (one : PassView). one.number) is.1 ∙ is_zero) in record { seated = k.seated; unborn = k.unborn; ended = k.ended; gone = k.gone; once = k.once; taken = k.taken })
        | inr is ↦ shows.keeper seat view is.2 alive is_zero
      ]);
}
  where
    them : Views opened shows.run s.views
    them = views_of shown opened s shows

    was_at : get_elem? s.views other ≡ some w
    was_at = other_at opened shows.run s.views them id v at other w (imported v w) ne there

    were : (seat : ℕ) (view : PassView) → get_elem? (slice_set (slice_set s.views id (imported v w)) other spent) seat ≡ some view → view.live ≡ true → Was s.views seat view
    were = met_were opened shows.run s.views them id v at other w (imported v w) refl (λ is. is)

-- ---- a pass's seat is given up

-- one of the numbers of some is one's
number_of : (pasts : List Past) (number : ℕ) → IsOneOf (numbers pasts) number → (past : Past) × IsOneOf pasts past × (past.number ≡ number)
number_of [] number one = absurd one
number_of (first ∷ rest) number (inl is) = (first, inl refl, sym is)
number_of (first ∷ rest) number (inr one) = let later = number_of rest number one in (later.0, inr later.1, later.2)

module _ (opened : Opened) (run : List Event) (views : List PassView) (them : Views opened run views) (id : ℕ) (v : PassView) (at : get_elem? views id ≡ some v) (other : ℕ) (w : PassView)
    (ne : other ≡ id → ⊥) (there : get_elem? views other ≡ some w) (live : v.live ≡ true) (is_zero : v.number ≡ 0) (live_w : w.live ≡ true) (not_zero : w.number ≢ 0)
    (bare : (cell : Word) → keeps_something cell ≡ true → times cell (still_owned (pass_of w)) ≡ 0) (taken : (state_of opened run).ended ≡ numbers v.ended) where
  joined_keeps : KeeperKnows opened run views v
  joined_keeps = them.keeper id v at live is_zero

  joined_over : IsTakenInWhole opened run v.seated (past_of w)
  joined_over = record {
    some = omega (arith, not_zero);
    within = joined_keeps.seated other w there live_w;
    all = (them.knows other w there live_w).all;
    made = (them.knows other w there live_w).made;
    bare = subst (λ o. (cell : Word) → keeps_something cell ≡ true → times cell (still_owned (past_pass o (past_of w))) ≡ 0) (them.knows other w there live_w).mount bare;
  }

  joined_were : (seat : ℕ) (view : PassView) → get_elem? (slice_set (slice_set views id (joined v w)) other spent) seat ≡ some view → view.live ≡ true → Was views seat view
  joined_were = met_were opened run views them id v at other w (joined v w) refl (λ is. is)

  keeps_joined : KeeperKnows opened run (slice_set (slice_set views id (joined v w)) other spent) (joined v w)
  keeps_joined =
      let still = keeps_still opened run views (slice_set (slice_set views id (joined v w)) other spent) v joined_were joined_keeps in
      record {
        seated = still.seated;
        unborn = still.unborn;
        ended = λ past one. over past one;
        gone = λ past one. gone past one;
        once = (λ one. (let past = number_of v.ended w.number one in joined_keeps.gone past.0 past.1 other w there live_w (sym past.2)), joined_keeps.once);
        taken = inr taken;
      }
    where
      over : (past : Past) → IsOneOf (past_of w ∷ v.ended) past → IsTakenInWhole opened run v.seated past
      over past (inl is) = subst (IsTakenInWhole opened run v.seated) (sym is) joined_over
      over past (inr one) = joined_keeps.ended past one

      gone : (past : Past) → IsOneOf (past_of w ∷ v.ended) past → (seat : ℕ) (view : PassView) → get_elem? (slice_set (slice_set views id (joined v w)) other spent) seat ≡ some view → view.live ≡ true
          → view.number ≡ past.number → ⊥
      gone past (inl is) seat view at_seat alive same = met_apart opened run views them id v at other w (joined v w) ne there live_w live refl seat view at_seat alive (same ∙ ap (λ (one : Past). one.number) is)
      gone past (inr one) seat view at_seat alive same = (keeps_still opened run views (slice_set (slice_set views id (joined v w)) other spent) v joined_were joined_keeps).gone past one seat view at_seat alive same

  with_joined : Views opened run (slice_set (slice_set views id (joined v w)) other spent)
  with_joined = record {
    seen = met_seen opened run views them id v at other w (joined v w) (them.seen id v at);
    knows = met_knows opened run views them id v at other w (joined v w) (let k = them.knows id v at live in record { mount = k.mount; all = k.all; made = k.made; there = k.there });
    apart = apart_still views (slice_set (slice_set views id (joined v w)) other spent) them.apart joined_were;
    keeper = λ seat view at_seat alive none. elim (met_live opened run views them id v at other w (joined v w) seat view at_seat alive) [
      | inl is ↦ subst (KeeperKnows opened run (slice_set (slice_set views id (joined v w)) other spent)) is.1 keeps_joined
      | inr is ↦ absurd (is.1 (them.apart seat id view v is.2 at alive live (none ∙ sym is_zero)))
    ];
  }

pub takes_in : {S : Type 0} (shown : S → Value) (opened : Opened) (id : ℕ) (v : PassView) (other : ℕ) (w : PassView) → CoreLaws → v.live ≡ true → v.number ≡ 0 → w.live ≡ true → w.number ≢ 0
    → ((cell : Word) → keeps_something cell ≡ true → times cell (still_owned (pass_of w)) ≡ 0) → ended_of v ≡ numbers v.ended → JoinsTo (TableInvariant shown opened) id v other w (joined v w) spent
takes_in shown opened id v other w laws live is_zero live_w not_zero bare whole s shows at ne there =
    let them = views_of shown opened s shows in
    let k = shows.knows id v at live in
    with_views shown opened s shows (slice_set (slice_set s.views id (joined v w)) other spent)
    (with_joined opened shows.run s.views them id v at other w ne (other_at opened shows.run s.views them id v at other w (joined v w) ne there) live is_zero live_w not_zero bare
    ((told_on laws opened shows.run v shows.mount shows.is_run k).ended is_zero ∙ sym (ap (λ o. (state_of o v.run).ended) k.mount) ∙ whole))
