-- Tries: each step of a search goes on with what its tries have found.
use Rattle.std.proofs.Common.{◌≡◌, ◌≢◌, ℕ, suc, ◌+◌, ◌*◌, ◌%◌, ◌==◌, nat_lt, Bool, true, false, if◌then◌else◌, refl, sym, ap, subst, ◌∙◌, arith}
use Rattle.std.specs.Prelude.{Option, Some, None}
use Rattle.std.proofs.lemmas.Bool.{eqb-true, eqb-false}
use Rattle.nv_core.specs.invariant.Ownership.{is_among}
use Rattle.nv_core.specs.state.Core.{with_value}
use Rattle.nv_core.specs.state.Passes.{Pass, times}
use Rattle.nv_core.specs.state.Values.{emptied, lacks_buffer, received}
use Rattle.nv_core.specs.state.Words.{Sizes, HINT, PAGE}
use Rattle.nv_core.specs.steps.Ops.{Load, Take, Give, Turn}
use Rattle.nv_core.specs.steps.Frames.{AgreeOn}
use Rattle.nv_core.specs.steps.Order.{Values}
use Rattle.nv_core.proofs.state.Changes.{word_here}
use Rattle.nv_table.specs.state.States.{PassState}
use Rattle.nv_table.specs.state.Views.{pass_of, values_of}
use Rattle.nv_op.specs.Ops.{core_op_of}
use Rattle.nv_mirror.specs.PassSteps.{HasTaken}
use Rattle.nv_cache.specs.declared.search.SearchControl.{SearchControl}
use Rattle.nv_cache.specs.declared.search.SearchControl.TheVariants.{Found, NotFound}
use Rattle.nv_cache.specs.declared.search.SearchControl.TheVariants as searches
use Rattle.nv_cache.specs.declared.search.SearchMachine.{SearchMachine}
use Rattle.nv_cache.specs.Searches.{Fits, FitsAt, HasSearchedAt, IsAtTry, IsOpen, IsVictim, KnowsAt, again, search_after_at, search_call_of, search_op_at, search_owned_at, values_moved_at}
use Rattle.nv_cache.specs.Tries.{AllFoundNothing, FoundNothing, OwnPage, HeldVictim, EmptyVictim, HasTurned, HasHinted, HoldsVictim, plain_step}
use Rattle.nv_cache.proofs.SearchFacts.{among_own, lacks_no_more, lacks_still, not_own, victim_apart, victim_once}
use Rattle.nv_cache.proofs.SearchLaws.{page_there, robbed_here}

module _ (sizes : Sizes) (m : SearchMachine) (began now new : PassState) (found : ℕ) (fits : Fits sizes m) where
  abbrev kept : Values
  kept = values_of now.view

  abbrev was : Pass
  was = pass_of now.view

  abbrev lacks_then : Bool
  lacks_then = lacks_buffer (values_of new.view (PAGE m.page))

  abbrev Nothing : (tries : ℕ) → PassState → Type 0
  Nothing tries there = AllFoundNothing sizes (search_call_of m) m.page tries began there

  -- a try more that found nothing
  one_more : (before : ℕ) (middle : PassState) → m.tries ≡ before + 1 → Nothing before middle → FoundNothing sizes (search_call_of m) m.page middle new → lacks_then ≡ true → Nothing m.tries new
  one_more before middle is nothing one lacks = subst (λ n. Nothing n new) (let e : suc before ≡ m.tries = omega (arith, is) in e) (middle, nothing, one, lacks)

  again_by : (given : Option ℕ) (more : Bool) → Nothing m.tries new
      → HasSearchedAt sizes (record m { control = if more then searches.TurnHand given else NotFound given }) (if more then searches.TurnHand given else NotFound given) began new
  again_by given true nothing = nothing
  again_by given false nothing = nothing

  -- a try begins
  turned_by : Nothing m.tries now → HasTaken (plain_step (Turn m.page) found) now new → IsAtTry sizes (record m { tries = m.tries + 1 }) began (λ middle. HasTurned sizes m.page (found % sizes.buffers) middle new)
  turned_by nothing taken = (m.tries, refl, now, nothing, record { hand = found; buffer_is = refl; made = (now, refl, taken) })

  hinted_by : lacks_then ≡ true → (buffer : ℕ) (own : Bool) → is_among m.first (m.first + m.pages) found ≡ own → IsAtTry sizes m began (λ middle. HasTurned sizes m.page buffer middle now) → HasTaken (plain_step (Load (HINT buffer)) found) now new
      → HasSearchedAt sizes (if own then again sizes m None else record m { control = searches.TakeVictim buffer found }) (if own then again sizes m None else record m { control = searches.TakeVictim buffer found }).control began new
  hinted_by lacks buffer true is so taken =
      let try = so.4 in
      let taken_there = subst (λ b. HasTaken (plain_step (Load (HINT b)) found) now new) try.buffer_is taken in
      again_by None (nat_lt m.tries (2 * sizes.buffers)) (one_more so.0 so.2 so.1 so.3 (OwnPage try.hand found (among_own sizes m fits found is) (now, try.made, taken_there)) lacks)
  hinted_by lacks buffer false is so taken =
      let try = so.4 in
      let taken_there = subst (λ b. HasTaken (plain_step (Load (HINT b)) found) now new) try.buffer_is taken in
      (so.0, so.1, so.2, so.3, record { hand = try.hand; buffer_is = try.buffer_is; made = (now, try.made, taken_there) })

  taken_by : lacks_then ≡ true → (buffer victim : ℕ) → IsVictim sizes m victim → (free : Bool) → (found == 0) ≡ free → IsAtTry sizes m began (λ middle. HasHinted sizes m.page buffer victim middle now) → HasTaken (plain_step (Take (PAGE victim)) found) now new
      → HasSearchedAt sizes (if free then record m { control = searches.GiveVictim buffer victim } else again sizes m None) (if free then record m { control = searches.GiveVictim buffer victim } else again sizes m None).control began new
  taken_by lacks buffer victim at true is so taken =
      let try = so.4 in
      (so.0, so.1, so.2, so.3, record { hand = try.hand; buffer_is = try.buffer_is; made = (now, try.made, subst (λ n. HasTaken (plain_step (Take (PAGE victim)) n) now new) (eqb-true found 0 is) taken) })
  taken_by lacks buffer victim at false is so taken =
      let try = so.4 in
      again_by None (nat_lt m.tries (2 * sizes.buffers)) (one_more so.0 so.2 so.1 so.3 (HeldVictim try.hand victim found (not_own sizes m fits victim at.1) (eqb-false found 0 is) (now, try.made, taken)) lacks)

  given_by : (buffer victim : ℕ) → IsVictim sizes m victim → values_of new.view (PAGE victim) ≡ emptied (kept (PAGE victim)) → lacks_buffer (kept (PAGE m.page)) ≡ true → values_of new.view (PAGE m.page) ≡ received (kept (PAGE victim)) (kept (PAGE m.page)) → (lacks : Bool) → lacks_then ≡ lacks
      → IsAtTry sizes m began (λ middle. HoldsVictim sizes m.page buffer victim middle now) → HasTaken (plain_step (Give (PAGE victim)) found) now new
      → HasSearchedAt sizes (if lacks then again sizes m (Some buffer) else record m { control = searches.SetHint buffer }) (if lacks then again sizes m (Some buffer) else record m { control = searches.SetHint buffer }).control began new
  given_by buffer victim at emptied_there lacked received_there true is so taken =
      let try = so.4 in
      again_by (Some buffer) (nat_lt m.tries (2 * sizes.buffers))
      (one_more so.0 so.2 so.1 so.3
      (EmptyVictim try.hand victim found (not_own sizes m fits victim at.1) (now, try.made, taken) (lacks_still (kept (PAGE victim)) (kept (PAGE m.page)) lacked (sym (ap lacks_buffer received_there) ∙ is))) is)
  given_by buffer victim at emptied_there lacked received_there false is so taken =
      let try = so.4 in
      let has = lacks_no_more (kept (PAGE victim)) (kept (PAGE m.page)) lacked (sym (ap lacks_buffer received_there) ∙ is) in (
        so.0,
        so.1,
        so.2,
        so.3,
        record {
          hand = try.hand;
          victim = victim;
          given = found;
          elsewhere = not_own sizes m fits victim at.1;
          buffer_is = try.buffer_is;
          made = (now, try.made, taken);
          had = has.had;
          emptied = ap lacks_buffer emptied_there ∙ has.emptied;
          moved = received_there ∙ has.moved;
        },
      )

  -- what the page keeps then
  there : (control : SearchControl) → FitsAt sizes m control → AgreeOn was (values_of new.view) (values_moved_at m control kept) → was.owned ≡ search_owned_at m control
      → values_of new.view (PAGE m.page) ≡ values_moved_at m control kept (PAGE m.page)
  there control at moves owns = moves (PAGE m.page) (subst (λ cells. times (PAGE m.page) cells ≢ 0) (sym owns) (page_there sizes m control fits at))

  pub searched_on : (control : SearchControl) → IsOpen control → FitsAt sizes m control → KnowsAt kept m control → AgreeOn was (values_of new.view) (values_moved_at m control kept) → was.owned ≡ search_owned_at m control
      → HasTaken (plain_step (core_op_of now.view (search_op_at m control)) found) now new → HasSearchedAt sizes m control began now
      → HasSearchedAt sizes (search_after_at sizes m control found lacks_then) (search_after_at sizes m control found lacks_then).control began new
  searched_on (searches.Begin from) runs at knows moves owns taken so = turned_by (subst (λ n. Nothing n now) (sym at.1) so) taken
  searched_on (searches.TurnHand given) runs at knows moves owns taken so = turned_by so taken
  searched_on (searches.LoadHint buffer) runs at knows moves owns taken so =
      hinted_by (ap lacks_buffer (there (searches.LoadHint buffer) at moves owns) ∙ knows) buffer (is_among m.first (m.first + m.pages) found) refl so taken
  searched_on (searches.TakeVictim buffer victim) runs at knows moves owns taken so =
      taken_by (ap lacks_buffer (there (searches.TakeVictim buffer victim) at moves owns) ∙ knows) buffer victim at.1 (found == 0) refl so taken
  searched_on (searches.GiveVictim buffer victim) runs at knows moves owns taken so =
      given_by buffer victim at.1
      (moves (PAGE victim) (subst (λ cells. times (PAGE victim) cells ≢ 0) (sym owns) (λ none. let once = victim_once sizes m fits victim at.1 in omega (arith, once, none)))
      ∙ word_here (with_value kept (PAGE m.page) (received (kept (PAGE victim)) (kept (PAGE m.page)))) (PAGE victim) (emptied (kept (PAGE victim))))
      knows (there (searches.GiveVictim buffer victim) at moves owns ∙ robbed_here victim m.page kept (victim_apart sizes m fits victim at.1)) lacks_then refl so taken
  searched_on (searches.SetHint buffer) runs at knows moves owns taken so =
      (so.0, so.1, so.2, so.3, record { middle = now; robbed = so.4; hint = found; hinted = taken; still = there (searches.SetHint buffer) at moves owns })
  searched_on (Found buffer) runs at knows moves owns taken so = absurd runs
  searched_on (NotFound given) runs at knows moves owns taken so = absurd runs
