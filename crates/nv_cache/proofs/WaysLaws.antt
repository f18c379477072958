-- Ways: where a read lacks a buffer it searches one, and where the search is over it loads the page.
use Rattle.std.proofs.Common.{◌≡◌, ◌≢◌, ℕ, zero, suc, ◌-◌, ◌<◌, ◌≤◌, refl, ap, subst, ◌∙◌, arith}
use Rattle.std.specs.Prelude.{None, min}
use Rattle.nv_core.specs.invariant.ControlFacts.{IsPage}
use Rattle.nv_core.specs.state.Passes.{Pass, VisitPage, end_read, first_page, times}
use Rattle.nv_core.specs.state.Words.{Sizes, PAGE}
use Rattle.nv_core.specs.steps.Order.{page_bytes}
use Rattle.nv_plain.specs.Pieces.{pages_touched}
use Rattle.nv_plain.specs.declared.call.FileCall.TheVariants.{Read}
use Rattle.nv_table.specs.state.States.{PassState}
use Rattle.nv_table.specs.state.Views.{pass_of, values_of}
use Rattle.nv_mirror.specs.Controls.{control_mirror, InCall}
use Rattle.nv_mirror.specs.declared.load.LoadMachine.{LoadMachine}
use Rattle.nv_mirror.specs.Loads as load
use Rattle.nv_mirror.specs.Loads.{bytes_had}
use Rattle.nv_mirror.specs.OwnedCells.{pages_from}
use Rattle.nv_mirror.proofs.HadLaws.{bytes_same}
use Rattle.nv_mirror.proofs.CellLaws.{behind_size, page_inside, page_is}
use Rattle.nv_cache.specs.declared.search.SearchMachine.{SearchMachine}
use Rattle.nv_cache.specs.Searches.{Fits, IsOver, IsUnderWay, Keeps, KeepsRest, locks, search_call_of, search_control_at}
use Rattle.nv_cache.specs.Ways.{LacksBuffer, load_of, search_for}
use Rattle.nv_cache.proofs.EndLaws.{looks_up, owned_over}
use Rattle.nv_cache.proofs.KeepsLaws.{keeps_on, keeps_self}
use Rattle.nv_cache.proofs.SearchFacts.{own_page}

-- a read that has bytes of a page asks for some
some_bytes : (sizes : Sizes) (file at len length page : ℕ) → first_page sizes (Read file at len) ≤ page → page < end_read sizes (Read file at len) length → 0 < len
some_bytes sizes file at zero length page low within =
    let none : pages_touched at (min 0 (length - at)) sizes.page ≡ 0 = ap (λ n. pages_touched at n sizes.page) (let z : min 0 (length - at) ≡ 0 = omega arith in z) in
    absurd (omega (arith, low, within, none))
some_bytes sizes file at (suc len) length page low within = omega arith

pub load_fits : (sizes : Sizes) (m : SearchMachine) → Fits sizes m → load.Fits sizes (load_of m)
load_fits sizes m fits = record {
  allowed = fits.allowed;
  some = some_bytes sizes m.file m.at m.len m.length m.page (let first = fits.first in let own = fits.own in omega (arith, first, own)) fits.within;
  first = fits.first;
  pages = fits.pages;
  own = own_page sizes m fits;
  stands = tt;
}

pub load_missed : (m : SearchMachine) (start now : PassState) → IsOver m.control → IsUnderWay m start now → load.Misses (load_of m) start now
load_missed m start now ends way = record {
  control = search_control_at m m.control;
  called = subst (λ is. InCall control_mirror (search_call_of m) None is None None start now) (owned_over m m.control ends) way.called;
  next = looks_up m start now m.control ends way.fits.stands way.knows way.called;
}

-- ---- where a read lacks a buffer

pub search_begins : (m : LoadMachine) (from : ℕ) (start now : PassState) → load.Fits now.view.opened.sizes m → load.IsReading m (VisitPage from) start now → LacksBuffer m from now → IsUnderWay (search_for m from) start now
search_begins m from start now fits reading lacking = record {
  fits = record {
    allowed = fits.allowed;
    first = fits.first;
    pages = fits.pages;
    own = let first = fits.first in let own = fits.own.0 in omega (arith, first, own);
    within = lacking.within;
    tries = omega arith;
    stands = (lacking.behind, refl, lacking.some);
  };
  knows = (lacking.passed, lacking.lacks);
  called = reading;
}

-- ---- what a step keeps of the read's pages

pub bytes_kept : (m : SearchMachine) (start was now : PassState) → IsUnderWay m start was → Keeps m was now → (page : ℕ) → IsPage was.view.opened.sizes (search_call_of m) page → page ≢ m.page → bytes_had now page ≡ bytes_had was page
bytes_kept m start was now way keeps page own other =
    let rest : KeepsRest m was now = keeps_on m m was start was now refl (keeps_self m was) way keeps in
    let low = own.0 in
    let high = own.1 in
    let first = way.fits.first in
    let pages = way.fits.pages in
    let once : times (PAGE page) (locks m) ≡ 1 =
    behind_size page m.file m.sized (pages_from m.first m.pages) ∙ page_inside page m.first m.pages (omega (arith, low, first)) (omega (arith, high, first, pages)) in
    ap (λ fetched. page_bytes fetched (values_of now.view) page) (ap (λ (p : Pass). p.fetched) rest.pass)
    ∙ bytes_same (pass_of was.view).fetched (values_of was.view) (values_of now.view) page (rest.cells (PAGE page) (λ none. omega (arith, once, none)) (λ e. other (page_is e)))
