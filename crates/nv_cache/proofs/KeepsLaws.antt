-- Keeps: what all steps of a search leave as it was.
use Rattle.std.proofs.Common.{◌≡◌, ◌≢◌, sym, ap, subst, ◌∙◌, refl}
use Rattle.nv_core.specs.state.Core.{with_value}
use Rattle.nv_core.specs.state.Passes.{Pass, times}
use Rattle.nv_core.specs.state.Values.{received}
use Rattle.nv_core.specs.state.Words.{Sizes, Word, PAGE}
use Rattle.nv_core.specs.steps.Order.{Values}
use Rattle.nv_core.proofs.state.Changes.{word_else}
use Rattle.nv_table.specs.state.States.{PassState}
use Rattle.nv_table.specs.state.Views.{pass_of, values_of}
use Rattle.nv_mirror.specs.Controls.{MirroredControl}
use Rattle.nv_cache.specs.declared.search.SearchControl.{SearchControl}
use Rattle.nv_cache.specs.declared.search.SearchControl.TheVariants.{Found, NotFound}
use Rattle.nv_cache.specs.declared.search.SearchControl.TheVariants as searches
use Rattle.nv_cache.specs.declared.search.SearchMachine.{SearchMachine}
use Rattle.nv_cache.specs.Searches.{Fits, FitsAt, IsSameBut, IsUnderWay, Keeps, KeepsRest, locks, search_owned_at, values_moved_at}
use Rattle.nv_cache.proofs.BufferLaws.{times_more}
use Rattle.nv_cache.proofs.SearchFacts.{victim_absent}

same_still : (first was now : Pass) → IsSameBut first was → IsSameBut was now → IsSameBut first now
same_still first was now one other = other ∙ ap (λ (pass : Pass). record pass { control = now.control; owned = now.owned }) one

-- a lock of the read is owned all along
own_lock : (m : SearchMachine) (control : SearchControl) (cell : Word) → times cell (locks m) ≢ 0 → times cell (search_owned_at m control) ≢ 0
own_lock m (searches.GiveVictim buffer victim) cell some = times_more cell (PAGE victim) (locks m) some
own_lock m (searches.Begin from) cell some = some
own_lock m (searches.TurnHand given) cell some = some
own_lock m (searches.LoadHint buffer) cell some = some
own_lock m (searches.TakeVictim buffer victim) cell some = some
own_lock m (searches.SetHint buffer) cell some = some
own_lock m (Found buffer) cell some = some
own_lock m (NotFound given) cell some = some

-- and its cell keeps what it kept, but for the page that is missed
still_kept : (sizes : Sizes) (m : SearchMachine) (control : SearchControl) (values : Values) (cell : Word) → Fits sizes m → FitsAt sizes m control → times cell (locks m) ≢ 0 → cell ≢ PAGE m.page
    → values_moved_at m control values cell ≡ values cell
still_kept sizes m (searches.GiveVictim buffer victim) values cell fits at some ne =
    word_else (with_value values (PAGE m.page) (received (values (PAGE victim)) (values (PAGE m.page)))) (PAGE victim) _ cell (λ e. some (ap (λ c. times c (locks m)) e ∙ victim_absent sizes m fits victim at.1))
    ∙ word_else values (PAGE m.page) _ cell ne
still_kept sizes m (searches.Begin from) values cell fits at some ne = refl
still_kept sizes m (searches.TurnHand given) values cell fits at some ne = refl
still_kept sizes m (searches.LoadHint buffer) values cell fits at some ne = refl
still_kept sizes m (searches.TakeVictim buffer victim) values cell fits at some ne = refl
still_kept sizes m (searches.SetHint buffer) values cell fits at some ne = refl
still_kept sizes m (Found buffer) values cell fits at some ne = refl
still_kept sizes m (NotFound given) values cell fits at some ne = refl

-- the read of a search is the same all along
abbrev pub IsOfSearch : SearchMachine → SearchMachine → Type 0
IsOfSearch first m = m ≡ record first { tries = m.tries; control = m.control }

pub keeps_on : (first m : SearchMachine) (begun start was now : PassState) → IsOfSearch first m → KeepsRest first begun was → IsUnderWay m start was → Keeps m was now → KeepsRest first begun now
keeps_on first m begun start was now is rest way keeps = record {
  pass = same_still (pass_of begun.view) (pass_of was.view) (pass_of now.view) rest.pass keeps.pass;
  cells = λ cell some ne.
      let here : times cell (locks m) ≢ 0 = subst (λ s. times cell (locks s) ≢ 0) (sym is) some in
      let other : cell ≢ PAGE m.page = subst (λ s. cell ≢ PAGE s.page) (sym is) ne in
      keeps.cells cell (subst (λ (c : MirroredControl). times cell c.owned ≢ 0) (sym way.called.mirrors) (own_lock m m.control cell here))
      ∙ still_kept was.view.opened.sizes m m.control (values_of was.view) cell way.fits way.fits.stands here other
      ∙ rest.cells cell some ne;
}

pub keeps_self : (m : SearchMachine) (begun : PassState) → KeepsRest m begun begun
keeps_self m begun = record { pass = refl; cells = λ cell some ne. refl }

-- where the search stands changes nothing of it
pub keeps_rest_same : (first m : SearchMachine) (was now : PassState) → IsOfSearch first m → KeepsRest first was now → KeepsRest m was now
keeps_rest_same first m was now is keeps = record {
  pass = keeps.pass;
  cells = λ cell some ne. keeps.cells cell (subst (λ s. times cell (locks s) ≢ 0) is some) (subst (λ s. cell ≢ PAGE s.page) is ne);
}
