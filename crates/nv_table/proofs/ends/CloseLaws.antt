-- Closing: where pass 0 has taken in all others and none owns anything, the slots hold what the cells keep.
use Rattle.std.proofs.Common.{◌≡◌, ℕ, ◌<◌, zero, suc, ◌≤◌, ◌+◌, ◌-◌, nat_lt, true, List, [], ◌∷◌, length, get_or, map, inl, inr, refl, sym, ap, ap₂, subst, ◌∙◌, arith}
use mathlib.Core.Option.{some, some-injective, some-ne-none}
use lib.ListN.{get_elem?}
use Rattle.std.proofs.lemmas.Bool.{cases_eq, cases_lt}
use Rattle.std.proofs.lemmas.List.{length-map}
use Rattle.atomic_table.specs.Table.{State, Final, Seen}
use Rattle.nv_core.specs.state.Words.{Sizes, Word, ORDER, TAIL, HEADER, ENTRY, STORE, PAGE, keeps_something}
use Rattle.nv_core.specs.state.Values.{Value, Bare}
use Rattle.nv_core.specs.state.Passes.{Pass, IsOneOf, times}
use Rattle.nv_core.specs.state.Core.{Core}
use Rattle.nv_core.specs.steps.Events.{Event}
use Rattle.nv_core.specs.invariant.InvariantLaws.{RunsAreSound}
use Rattle.nv_core.specs.steps.Frames.{StaysKnown, OwnEventsTell}
use Rattle.nv_core.specs.invariant.Sound.{Sound}
use Rattle.nv_table.specs.state.Layout.{cell_of}
use Rattle.nv_table.specs.state.Opened.{Opened, mount_of, IsRunOf, state_of}
use Rattle.nv_table.specs.state.Views.{Past, PassView, SeesAll, KnowsRun, pass_of, made_of, still_owned, without_all, numbers, past_pass}
use Rattle.nv_table.specs.invariant.TableInvariant.{IsKept, AtHome, OutWith, KeeperKnows, TableInvariant}
use Rattle.nv_table.specs.ends.CompleteRuns.{IsCompleteRun}
use Rattle.nv_table.proofs.state.Counting.{all_there}
use Rattle.nv_table.proofs.state.Held.{if_both}

-- what a value at a place of a list shows
shown_there : {S : Type 0} (shown : S → Value) (xs : List S) (slot : ℕ) (held : S) → get_elem? xs slot ≡ some held → get_or (map shown xs) slot Bare ≡ shown held
shown_there shown [] slot held is = absurd (some-ne-none held (sym is))
shown_there shown (one ∷ rest) zero held is = ap shown (some-injective one held is)
shown_there shown (one ∷ rest) (suc slot) held is = shown_there shown rest slot held is

-- the pass of a number among those that were taken in
past_there : (pasts : List Past) (number : ℕ) → IsOneOf (numbers pasts) number → (past : Past) × IsOneOf pasts past × (past.number ≡ number)
past_there [] number one = absurd one
past_there (first ∷ rest) number (inl e) = (first, inl refl, sym e)
past_there (first ∷ rest) number (inr later) = let one = past_there rest number later in (one.0, inr one.1, one.2)

-- the cell of a slot keeps something
slot_keeps : (sizes : Sizes) (slot : ℕ) → keeps_something (cell_of sizes slot) ≡ true
slot_keeps sizes slot =
    if_both (λ c. keeps_something c ≡ true) (nat_lt slot 1) HEADER _ refl
    (if_both (λ c. keeps_something c ≡ true) (nat_lt slot (1 + sizes.entries)) (ENTRY (slot - 1)) _ refl
    (if_both (λ c. keeps_something c ≡ true) (nat_lt slot (1 + sizes.entries + sizes.files)) (STORE (slot - (1 + sizes.entries))) (PAGE (slot - (1 + sizes.entries + sizes.files))) refl refl))

-- one pass owns what another does that is the same
same_still_owned : (one other : Pass) → one ≡ other → (cell : Word) → times cell (still_owned one) ≡ times cell (still_owned other)
same_still_owned one other e cell = ap (λ p. times cell (still_owned p)) e

module _ {S : Type 0} (shown : S → Value) (sound : RunsAreSound) (tell : OwnEventsTell) (id : ℕ) (v : PassView) (s : State S PassView) (shows : TableInvariant shown v.opened s)
    (view : get_elem? s.views id ≡ some v) (live : v.live ≡ true) (is_zero : v.number ≡ 0) (all : made_of v ≡ v.seated) (taken : length v.ended ≡ v.seated)
    (bare : (cell : Word) → keeps_something cell ≡ true → times cell (still_owned (pass_of v)) ≡ 0) where
  last : Core
  last = state_of v.opened shows.run

  knows : KnowsRun v.opened shows.run v
  knows = shows.knows id v view live

  keeps : KeeperKnows v.opened shows.run s.views v
  keeps = shows.keeper id v view live is_zero

  is_sound : Sound v.opened.sizes (mount_of v.opened).values (state_of v.opened shows.run)
  is_sound = sound (mount_of v.opened) shows.run shows.mount shows.is_run

  told : (number : ℕ) (seen : List Event) → SeesAll number seen shows.run → number ≤ (state_of v.opened seen).made → StaysKnown number (state_of v.opened seen) (state_of v.opened shows.run)
  told number seen sees made =
      subst (λ run. StaysKnown number (state_of v.opened seen) (state_of v.opened run)) (sym sees.goes_on)
      (tell (mount_of v.opened) number seen sees.rest shows.mount (subst (IsRunOf v.opened) sees.goes_on shows.is_run) made sees.quiet)

  past_within : (q : ℕ) → IsOneOf (numbers v.ended) q → (1 ≤ q) × (q ≤ v.seated)
  past_within q one =
      let past = past_there v.ended q one in
      let over = keeps.ended past.0 past.1 in
      let e = past.2 in
      (omega (arith, over.some), omega (arith, over.within))

  -- no pass owns anything
  past_none : (past : Past) → IsOneOf v.ended past → (cell : Word) → keeps_something cell ≡ true → times cell (still_owned ((state_of v.opened shows.run).passes past.number)) ≡ 0
  past_none past one cell kept =
      let over = keeps.ended past one in
      same_still_owned ((state_of v.opened shows.run).passes past.number) (past_pass v.opened past) (told past.number past.run over.all over.made).pass cell ∙ over.bare cell kept

  keeper_none : (cell : Word) → keeps_something cell ≡ true → times cell (still_owned ((state_of v.opened shows.run).passes v.number)) ≡ 0
  keeper_none cell kept = same_still_owned ((state_of v.opened shows.run).passes v.number) (pass_of v) (told v.number v.run knows.all (omega arith)).pass cell ∙ bare cell kept

  later_none : (number : ℕ) → v.seated < number → (cell : Word) → times cell (still_owned ((state_of v.opened shows.run).passes number)) ≡ 0
  later_none number over cell =
      let seen = told v.number v.run knows.all (omega arith) in
      let made = seen.made is_zero in
      let unborn = is_sound.numbers.unborn number (omega arith) in
      ap₂ (λ left owned. times cell (without_all left owned)) unborn.left unborn.owned

  none_still_owned : (number : ℕ) (cell : Word) → keeps_something cell ≡ true → times cell (still_owned ((state_of v.opened shows.run).passes number)) ≡ 0
  none_still_owned number cell kept = elim (cases_eq number v.number) [
    | inl e ↦ subst (λ n. times cell (still_owned ((state_of v.opened shows.run).passes n)) ≡ 0) (sym e) (keeper_none cell kept)
    | inr ne ↦ elim (cases_lt v.seated number) [
      | inl over ↦ later_none number over cell
      | inr under ↦
          let among = all_there (numbers v.ended) v.seated keeps.once past_within (omega (arith, length-map v.ended (λ (past : Past). past.number))) number (omega arith) under in
          let past = past_there v.ended number among in
          subst (λ n. times cell (still_owned ((state_of v.opened shows.run).passes n)) ≡ 0) past.2 (past_none past.0 past.1 cell kept)
    ]
  ]

  whole : (words : List ℕ) (xs : List S) → s.words ≡ words → ((k : ℕ) (y : S) → get_elem? s.homes k ≡ some (some y) → get_elem? xs k ≡ some y)
      → IsCompleteRun v (map shown xs) (get_or words 1 0) (get_or words 3 0)
  whole words xs same homes = record {
    run = shows.run;
    is_run = shows.is_run;
    knew = knows;
    imported = (shows.seen id v view).1;
    pass = (told v.number v.run knows.all knows.made).pass;
    ended = λ past one. let over = keeps.ended past one in (over.all, (told past.number past.run over.all over.made).pass);
    unborn = keeps.unborn;
    each = λ slot less. at_home slot (shows.homes slot less);
    order = ap (λ ws. get_or ws 1 0) (sym same) ∙ shows.words ORDER tt ∙ is_sound.history.order;
    retired = ap (λ ws. get_or ws 3 0) (sym same) ∙ shows.words TAIL tt;
  }
    where
      at_home : (slot : ℕ) → IsKept shown (state_of v.opened shows.run) (cell_of v.opened.sizes slot) (get_elem? s.homes slot)
          → get_or (map shown xs) slot Bare ≡ (state_of v.opened shows.run).values (cell_of v.opened.sizes slot)
      at_home slot (AtHome held at is none) = shown_there shown xs slot held (homes slot held at) ∙ is
      at_home slot (OutWith by at one) = absurd (let none = none_still_owned by (cell_of v.opened.sizes slot) (slot_keeps v.opened.sizes slot) in omega arith)

-- What is known when the table is closed: pass 0's seat has seen all, each pass that was made has got a seat and was taken in, and pass 0 owns nothing.
pub closes : RunsAreSound → OwnEventsTell → {S : Type 0} (shown : S → Value) (opened : Opened) (id : ℕ) (v : PassView) (words : List ℕ) (xs : List S)
    → Final (Seen (TableInvariant shown opened) id v) words xs → v.live ≡ true → v.number ≡ 0 → made_of v ≡ v.seated → length v.ended ≡ v.seated
    → ((cell : Word) → keeps_something cell ≡ true → times cell (still_owned (pass_of v)) ≡ 0) → IsCompleteRun v (map shown xs) (get_or words 1 0) (get_or words 3 0)
closes sound tell shown opened id v words xs final live is_zero all taken bare =
    let mount = (final.1.0.knows id v final.1.1 live).mount in
    whole shown sound tell id v final.0 (subst (λ o. TableInvariant shown o final.0) (sym mount) final.1.0) final.1.1 live is_zero all taken bare words xs final.2 final.4
