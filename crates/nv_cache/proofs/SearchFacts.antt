-- Search facts: the pages, cells and slots of a search, and what it knows where it begins.
use Rattle.std.proofs.Common.{◌≡◌, ◌≢◌, ◌⊎◌, ℕ, zero, suc, ◌+◌, ◌<◌, ◌≤◌, ◌&&◌, nat_le, nat_lt, Bool, true, false, [], ◌∷◌, inl, inr, refl, sym, ap, subst, ◌∙◌, arith}
use Rattle.std.specs.Prelude.{Some, None}
use Rattle.std.proofs.lemmas.Bool.{cases_lt, le-ltb, lt-leb, true≢false}
use Rattle.nv_core.specs.invariant.ControlFacts.{IsPage}
use Rattle.nv_core.specs.invariant.Ownership.{is_among}
use Rattle.nv_core.specs.state.Passes.{times}
use Rattle.nv_core.specs.state.Values.{Value, Bare, APart, AStore, ABuffer, buffers_in, bytes_in, emptied, is_valid, lacks_buffer, received}
use Rattle.nv_core.specs.state.Words.{Sizes, PAGE, page_total}
use Rattle.nv_core.proofs.invariant.LockLaws.{times_here, times_else}
use Rattle.nv_core.proofs.state.PageLaws.{read_within}
use Rattle.nv_core.proofs.state.StepWords.{page_within}
use Rattle.nv_table.specs.passes.PassesMade.{IsShownStill}
use Rattle.nv_table.specs.state.States.{PassState}
use Rattle.nv_table.specs.state.Views.{pass_of, still_owned, slot_times}
use Rattle.nv_table.proofs.state.LayoutLaws.{cell_there}
use Rattle.nv_table.proofs.steps.OwnedSlotLaws.{still_owned_all}
use Rattle.nv_pages.specs.PageWork.{page_slot}
use Rattle.nv_mirror.specs.OwnedCells.{pages_from}
use Rattle.nv_mirror.proofs.PageLaws.{page_among}
use Rattle.nv_mirror.proofs.CellLaws.{behind_size, page_inside, page_is}
use Rattle.nv_cache.specs.declared.search.SearchMachine.{SearchMachine}
use Rattle.nv_cache.specs.Searches.{Fits, IsVictim, locks, search_call_of}

-- ---- pages

not_among : (first end page : ℕ) → is_among first end page ≡ false → (page < first) ⊎ (end ≤ page)
not_among first end page none = elim (cases_lt page first) [
  | inl low ↦ inl low
  | inr past ↦ elim (cases_lt page end) [ inl less ↦ absurd (true≢false (sym (page_among first end page past less) ∙ none)) | inr more ↦ inr more ]
]

page_outside : (page first count : ℕ) → (page < first) ⊎ (first + count ≤ page) → times (PAGE page) (pages_from first count) ≡ 0
page_outside page first zero out = refl
page_outside page first (suc count) out =
    times_else (PAGE page) (PAGE (first + count)) (pages_from first count) (λ e. elim out [ inl low ↦ (let i = page_is e in omega (arith, i, low)) | inr high ↦ (let i = page_is e in omega (arith, i, high)) ])
    ∙ page_outside page first count (elim out [ inl low ↦ inl low | inr high ↦ inr (omega (arith, high)) ])

module _ (sizes : Sizes) (m : SearchMachine) (fits : Fits sizes m) where
  -- the page that is missed is one of the call's
  pub page_below : m.page < m.first + m.pages
  page_below = let first = fits.first in let pages = fits.pages in let within = fits.within in let end = read_within sizes (search_call_of m) m.length in omega (arith, first, pages, within, end)

  pub own_page : IsPage sizes (search_call_of m) m.page
  own_page = let first = fits.first in let pages = fits.pages in let own = fits.own in let below = page_below in (omega (arith, first, own), omega (arith, first, pages, below))

  pub page_low : m.page < page_total sizes
  page_low = page_within sizes (search_call_of m) m.page fits.allowed own_page

  -- and it is owned once
  pub page_once : times (PAGE m.page) (locks m) ≡ 1
  page_once =
      behind_size m.page m.file m.sized (pages_from m.first m.pages)
      ∙ page_inside m.page m.first m.pages fits.own (let own = fits.own in let below = page_below in omega (arith, own, below))

  -- a page is one of the call's where it is among these
  pub among_own : (page : ℕ) → is_among m.first (m.first + m.pages) page ≡ true → IsPage sizes (search_call_of m) page
  among_own page is = elim (cases_lt page m.first) [
    | inl low ↦ absurd (true≢false (sym is ∙ outside_false m.first (m.first + m.pages) page (inl low)))
    | inr past ↦ elim (cases_lt page (m.first + m.pages)) [
      | inl less ↦ (let first = fits.first in omega (arith, first, past), let first = fits.first in let pages = fits.pages in omega (arith, first, pages, less))
      | inr more ↦ absurd (true≢false (sym is ∙ outside_false m.first (m.first + m.pages) page (inr more)))
    ]
  ]
    where
      never : (b : Bool) → (b && false) ≡ false
      never true = refl
      never false = refl

      outside_false : (first end page : ℕ) → (page < first) ⊎ (end ≤ page) → is_among first end page ≡ false
      outside_false first end page (inl low) = ap (λ b. b && nat_lt page end) (lt-leb first page low)
      outside_false first end page (inr high) = ap (λ b. nat_le first page && b) (le-ltb page end high) ∙ never (nat_le first page)

  pub not_own : (page : ℕ) → is_among m.first (m.first + m.pages) page ≡ false → IsPage sizes (search_call_of m) page → ⊥
  not_own page none own = true≢false (sym (page_among m.first (m.first + m.pages) page (let first = fits.first in let low = own.0 in omega (arith, first, low)) (let first = fits.first in let pages = fits.pages in let high = own.1 in omega (arith, first, pages, high))) ∙ none)

  -- a victim is none of the read's owned cells
  module _ (victim : ℕ) (is : IsVictim sizes m victim) where
    pub victim_absent : times (PAGE victim) (locks m) ≡ 0
    victim_absent =
        behind_size victim m.file m.sized (pages_from m.first m.pages)
        ∙ page_outside victim m.first m.pages
        (elim (not_among m.first (m.first + m.pages) victim is.1) [ inl low ↦ inl low | inr high ↦ inr (let own = fits.own in let below = page_below in omega (arith, own, below, high)) ])

    pub victim_apart : victim ≢ m.page
    victim_apart e = let absent = victim_absent in let once = subst (λ p. times (PAGE p) (locks m) ≡ 1) (sym e) page_once in omega (arith, absent, once)

    pub victim_once : times (PAGE victim) (PAGE victim ∷ locks m) ≡ 1
    victim_once = times_here (PAGE victim) (locks m) ∙ ap (λ n. 1 + n) victim_absent

    pub page_once_still : times (PAGE m.page) (PAGE victim ∷ locks m) ≡ 1
    page_once_still = times_else (PAGE m.page) (PAGE victim) (locks m) (λ e. victim_apart (sym (page_is e))) ∙ page_once

-- ---- slots

-- the slot of a page that is owned once is owned once
pub slot_once : (now : PassState) (page : ℕ) → IsShownStill now → (pass_of now.view).left ≡ [] → page < page_total now.view.opened.sizes → times (PAGE page) (pass_of now.view).owned ≡ 1
    → slot_times (page_slot now.view.opened.sizes page) now.now ≡ 1
slot_once now page still left low once =
    let slot = page_slot now.view.opened.sizes page in
    let there = cell_there now.view.opened.sizes (PAGE page) slot low refl in
    still.each slot there.0 ∙ ap (λ c. times c (still_owned (pass_of now.view))) there.1 ∙ ap (times (PAGE page)) (still_owned_all (pass_of now.view) left) ∙ once

-- ---- buffers

-- a cell that lacks a buffer has none that is valid
pub lacking_invalid : (value : Value) → lacks_buffer value ≡ true → is_valid value ≡ false
lacking_invalid Bare lacks = refl
lacking_invalid (APart device spares) lacks = refl
lacking_invalid (AStore device) lacks = refl
lacking_invalid (ABuffer None) lacks = refl
lacking_invalid (ABuffer (Some buffer)) lacks = absurd cc

-- it lacks one still where the victim has none
pub lacks_still : (victim value : Value) → lacks_buffer value ≡ true → lacks_buffer (received victim value) ≡ true → buffers_in victim ≡ 0
lacks_still Bare value lacks still = refl
lacks_still (APart device spares) value lacks still = refl
lacks_still (AStore device) value lacks still = refl
lacks_still (ABuffer None) value lacks still = refl
lacks_still (ABuffer (Some buffer)) (ABuffer None) lacks still = absurd cc
lacks_still (ABuffer (Some buffer)) (ABuffer (Some other)) lacks still = absurd cc
lacks_still (ABuffer (Some buffer)) Bare lacks still = absurd cc
lacks_still (ABuffer (Some buffer)) (APart device spares) lacks still = absurd cc
lacks_still (ABuffer (Some buffer)) (AStore device) lacks still = absurd cc

-- else it has that of the victim
pub record HasVictims (victim value : Value) : Type 0 where
  pub had : buffers_in victim ≡ 1
  pub emptied : lacks_buffer (emptied victim) ≡ true
  pub moved : received victim value ≡ ABuffer (Some record { bytes = bytes_in victim; valid = false })

pub lacks_no_more : (victim value : Value) → lacks_buffer value ≡ true → lacks_buffer (received victim value) ≡ false → HasVictims victim value
lacks_no_more (ABuffer (Some buffer)) (ABuffer None) lacks still = record { had = refl; emptied = refl; moved = refl }
lacks_no_more (ABuffer (Some buffer)) (ABuffer (Some other)) lacks still = absurd cc
lacks_no_more (ABuffer (Some buffer)) Bare lacks still = absurd cc
lacks_no_more (ABuffer (Some buffer)) (APart device spares) lacks still = absurd cc
lacks_no_more (ABuffer (Some buffer)) (AStore device) lacks still = absurd cc
lacks_no_more (ABuffer None) value lacks still = absurd (true≢false (sym lacks ∙ still))
lacks_no_more Bare value lacks still = absurd (true≢false (sym lacks ∙ still))
lacks_no_more (APart device spares) value lacks still = absurd (true≢false (sym lacks ∙ still))
lacks_no_more (AStore device) value lacks still = absurd (true≢false (sym lacks ∙ still))
