-- Ends: how a search goes on from step to step, and what it has found at its end.
use Rattle.std.proofs.Common.{◌≡◌, ℕ, zero, suc, ◌+◌, ◌*◌, ◌<◌, ◌==◌, ◌&&◌, nat_lt, Bool, true, false, if◌then◌else◌, refl, sym, ap, ap₂, subst, ◌∙◌, arith}
use Rattle.std.specs.Prelude.{Option, Some, None}
use Rattle.std.proofs.lemmas.Bool.{le-ltb, true≢false}
use Rattle.nv_core.specs.invariant.Ownership.{is_among}
use Rattle.nv_core.specs.steps.Ops.{Load, Turn, Hint}
use Rattle.nv_core.specs.steps.Order.{miss, next_step, step_at}
use Rattle.nv_mirror.specs.Controls.{MirroredControl}
use Rattle.nv_core.specs.state.Values.{lacks_buffer}
use Rattle.nv_core.specs.state.Words.{Sizes, PAGE, DIRTY}
use Rattle.nv_table.specs.state.States.{PassState}
use Rattle.nv_table.specs.state.Views.{pass_of, values_of}
use Rattle.nv_cache.specs.declared.search.SearchControl.{SearchControl}
use Rattle.nv_cache.specs.declared.search.SearchControl.TheVariants.{Found, NotFound}
use Rattle.nv_cache.specs.declared.search.SearchControl.TheVariants as searches
use Rattle.nv_cache.specs.declared.search.SearchMachine.{SearchMachine}
use Rattle.nv_cache.specs.Searches.{EndsWith, FitsAt, HasFound, HasSearched, HasSearchedAt, HasStepped, IsInCall, IsOver, IsUnderWay, KnowsAt, again, search_after_at, locks, search_call_of, search_control_at, search_mirror_at}
use Rattle.nv_cache.specs.Tries.{AllFoundNothing, IsOutcome}
use Rattle.nv_cache.proofs.KeepsLaws.{IsOfSearch}

-- a step changes where the search stands, and how many tries have begun
of_search : (sizes : Sizes) (m : SearchMachine) (control : SearchControl) (found : ℕ) (lacks : Bool) → IsOfSearch m (search_after_at sizes m control found lacks)
of_search sizes m (searches.Begin from) found lacks = refl
of_search sizes m (searches.TurnHand given) found lacks = refl
of_search sizes m (searches.LoadHint buffer) found lacks = by (is_among m.first (m.first + m.pages) found)
  where
    by : (own : Bool) → IsOfSearch m (if own then again sizes m None else record m { control = searches.TakeVictim buffer found })
    by true = refl
    by false = refl
of_search sizes m (searches.TakeVictim buffer victim) found lacks = by (found == 0)
  where
    by : (free : Bool) → IsOfSearch m (if free then record m { control = searches.GiveVictim buffer victim } else again sizes m None)
    by true = refl
    by false = refl
of_search sizes m (searches.GiveVictim buffer victim) found true = refl
of_search sizes m (searches.GiveVictim buffer victim) found false = refl
of_search sizes m (searches.SetHint buffer) found lacks = refl
of_search sizes m (Found buffer) found lacks = refl
of_search sizes m (NotFound given) found lacks = refl

pub stepped_same : (first m next : SearchMachine) (was now : PassState) → IsOfSearch first m → HasStepped m next was now → IsOfSearch first next
stepped_same first m next was now same one =
    let after : IsOfSearch m next =
    subst (IsOfSearch m) (sym one.next) (of_search was.view.opened.sizes m m.control one.found (lacks_buffer (values_of now.view (PAGE m.page)))) in
    after ∙ ap (λ (s : SearchMachine). record s { tries = next.tries; control = next.control }) same

module _ (m : SearchMachine) (start began now : PassState) (way : IsUnderWay m start now) (searched : HasSearched m began now) where
  found_outcome : (buffer : ℕ) → m.control ≡ Found buffer → IsOutcome now.view.opened.sizes (search_call_of m) m.page (Some buffer) began now
  found_outcome buffer is =
      let so = subst (λ control. HasSearchedAt now.view.opened.sizes m control began now) is searched in
      let few = way.fits.tries in let one = so.1 in
      (so.0, omega (arith, few, one), so.2, so.3, so.4)

  no_outcome : (given : Option ℕ) → m.control ≡ NotFound given → IsOutcome now.view.opened.sizes (search_call_of m) m.page None began now
  no_outcome given is =
      let nothing = subst (λ control. HasSearchedAt now.view.opened.sizes m control began now) is searched in
      let all = subst (FitsAt now.view.opened.sizes m) is way.fits.stands in
      subst (λ n. AllFoundNothing now.view.opened.sizes (search_call_of m) m.page n began now) all nothing

  -- a page that has got a buffer isn't one for which all tries found nothing
  not_all : (buffer tries : ℕ) → m.control ≡ Found buffer → 0 < tries → AllFoundNothing now.view.opened.sizes (search_call_of m) m.page tries began now → ⊥
  not_all buffer zero is some all = omega (arith, some)
  not_all buffer (suc tries) is some all =
      let has = subst (KnowsAt (values_of now.view) m) is way.knows in
      true≢false (sym all.3 ∙ ap lacks_buffer has.1)

  -- there are tries, since the buffer that it found is one of the mount
  some_tries : (buffer : ℕ) → m.control ≡ Found buffer → 0 < 2 * now.view.opened.sizes.buffers
  some_tries buffer is = let low = subst (FitsAt now.view.opened.sizes m) is way.fits.stands in omega (arith, low)

  pub has_found : (found : Option ℕ) → EndsWith found m.control → HasFound found m began now
  has_found (Some buffer) ends =
      record { outcome = found_outcome buffer ends; none = λ all. absurd (not_all buffer (2 * now.view.opened.sizes.buffers) ends (some_tries buffer ends) all) }
  has_found None ends = record { outcome = no_outcome ends.0 ends.1; none = λ all. refl }

-- where it is over DIRTY of the page is loaded next
pub looks_up : (m : SearchMachine) (start now : PassState) (control : SearchControl) → IsOver control → FitsAt now.view.opened.sizes m control → KnowsAt (values_of now.view) m control → IsInCall m control start now
    → next_step now.view.opened.sizes (values_of now.view) (pass_of now.view) ≡ Some (Load (DIRTY m.page))
looks_up m start now control ends at knows called =
    ap (λ (c : MirroredControl). step_at now.view.opened.sizes (values_of now.view) (pass_of now.view) c.control) called.mirrors ∙ by control ends at knows
  where
    enough : (tries most : ℕ) → tries ≡ most → nat_lt tries most ≡ false
    enough tries most is = le-ltb tries most (omega (arith, is))

    missed : lacks_buffer (values_of now.view (PAGE m.page)) ≡ true → m.tries ≡ 2 * now.view.opened.sizes.buffers → miss now.view.opened.sizes (values_of now.view) m.page m.tries ≡ Load (DIRTY m.page)
    missed lacks all = ap₂ (λ a b. if a && b then Turn m.page else Load (DIRTY m.page)) lacks (enough m.tries (2 * now.view.opened.sizes.buffers) all)

    by : (control : SearchControl) → IsOver control → FitsAt now.view.opened.sizes m control → KnowsAt (values_of now.view) m control
        → step_at now.view.opened.sizes (values_of now.view) (pass_of now.view) (search_control_at m control) ≡ Some (Load (DIRTY m.page))
    by (Found buffer) ends at knows = ap (λ lacks. Some (if lacks && nat_lt m.tries (2 * now.view.opened.sizes.buffers) then Turn m.page else Load (DIRTY m.page))) (ap lacks_buffer knows.1)
    by (NotFound None) ends at knows = ap Some (missed knows at)
    by (NotFound (Some buffer)) ends at knows = ap (λ lacks. Some (if lacks then miss now.view.opened.sizes (values_of now.view) m.page m.tries else Hint buffer m.page)) knows ∙ ap Some (missed knows at)
    by (searches.Begin from) ends at knows = absurd ends
    by (searches.TurnHand given) ends at knows = absurd ends
    by (searches.LoadHint buffer) ends at knows = absurd ends
    by (searches.TakeVictim buffer victim) ends at knows = absurd ends
    by (searches.GiveVictim buffer victim) ends at knows = absurd ends
    by (searches.SetHint buffer) ends at knows = absurd ends

-- and all that its read owns is its locks, wherever it stands
pub owned_over : (m : SearchMachine) (control : SearchControl) → IsOver control → search_mirror_at m control ≡ record (search_mirror_at m control) { owned = locks m }
owned_over m (Found buffer) ends = refl
owned_over m (NotFound given) ends = refl
owned_over m (searches.Begin from) ends = absurd ends
owned_over m (searches.TurnHand given) ends = absurd ends
owned_over m (searches.LoadHint buffer) ends = absurd ends
owned_over m (searches.TakeVictim buffer victim) ends = absurd ends
owned_over m (searches.GiveVictim buffer victim) ends = absurd ends
owned_over m (searches.SetHint buffer) ends = absurd ends
