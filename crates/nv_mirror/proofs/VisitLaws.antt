-- Visits: a read copies what the buffers of its pages have, and knows what comes next.
use Rattle.std.proofs.Common.{◌≡◌, ◌⊎◌, ℕ, ◌+◌, ◌%◌, ◌<◌, ◌≤◌, nat_lt, Bool, true, false, List, length, inl, inr, refl, sym, ap, subst, ◌∙◌, arith}
use Rattle.std.specs.Prelude.{Some, None}
use Rattle.std.proofs.lemmas.Bool.{cases_eq, ltb-true}
use Rattle.nv_plain.specs.Files.{bytes_at}
use Rattle.nv_core.specs.state.Words.{Sizes, DIRTY, PAGE, page_total}
use Rattle.nv_core.specs.state.Values.{is_valid, bytes_in, lacks_buffer}
use Rattle.nv_core.specs.state.Passes.{end_read, covered, times}
use Rattle.nv_core.specs.invariant.ControlFacts.{IsPage}
use Rattle.nv_core.specs.steps.Ops as core
use Rattle.nv_core.specs.steps.Order.{Values}
use Rattle.nv_core.proofs.steps.NextSteps.{steps_are_next}
use Rattle.nv_core.specs.steps.StepKinds.{IsMiss, JustNow}
use Rattle.nv_core.proofs.state.PageLaws.{read_within}
use Rattle.nv_core.proofs.state.StepWords.{page_within}
use Rattle.nv_table.specs.passes.PassesMade.{IsShownStill}
use Rattle.nv_table.specs.state.Opened.{IsRunOf}
use Rattle.nv_table.specs.state.States.{PassState}
use Rattle.nv_table.specs.state.Views.{PassView, OwnsSlots, pass_of, slot_times, still_owned, values_of}
use Rattle.nv_table.proofs.state.LayoutLaws.{cell_there}
use Rattle.nv_table.proofs.steps.OwnedSlotLaws.{still_owned_all}
use Rattle.nv_pages.specs.Altered.{IsAltered}
use Rattle.nv_pages.specs.PageWork.{OfKept, page_slot}
use Rattle.nv_mirror.specs.declared.visit.VisitControl.{VisitControl}
use Rattle.nv_mirror.specs.declared.visit.VisitControl.TheVariants as visits
use Rattle.nv_mirror.specs.declared.visit.VisitMachine.{VisitMachine}
use Rattle.nv_mirror.specs.Controls.{MirroredControl, control_mirror}
use Rattle.nv_mirror.specs.Copied.{IsPut}
use Rattle.nv_mirror.specs.OwnedCells.{pages_from}
use Rattle.nv_mirror.specs.Visits.{Fits, IsInCall, KnowsAt, page_piece, visit_call_of, visit_mirror}
use Rattle.nv_mirror.proofs.AlteredCalls.{by_slots, called_same}
use Rattle.nv_mirror.proofs.CopiedLaws.{copied_most, copied_more}
use Rattle.nv_mirror.proofs.FetchedLaws.{AreBelow, IsBelow, load_head, bytes_above, fetched_below}
use Rattle.nv_mirror.proofs.CellLaws.{behind_size, page_inside}

-- what is so of what its cells keep is so of what they kept at its last step
pub of_kept : (old new : PassState) (P : Values → Type 0) → IsAltered (λ kept. kept) old new → IsShownStill old → OfKept new P → P (values_of old.view)
of_kept old new P is still all =
    all (values_of old.view) (still_owned (pass_of old.view))
    (subst (λ (v : PassView). OwnsSlots v.opened.sizes (λ value. value) (values_of old.view) (still_owned (pass_of old.view)) new.now) (sym is.view) (is.owns_slots (values_of old.view) (still_owned (pass_of old.view)) still))

-- it fits wherever it is in its list
pub visit_fits : (sizes : Sizes) (m : VisitMachine) (from page copied : ℕ) (control : VisitControl) → Fits sizes m → Fits sizes (record m { from = from; page = page; copied = copied; control = control })
visit_fits sizes m from page copied control fits = record { allowed = fits.allowed; some = fits.some; first = fits.first; pages = fits.pages }

-- a page that has bytes of the reply, by a layout of the mount
pub before_end : (m : VisitMachine) (layout sizes : Sizes) (page : ℕ) (has : Bool) → layout ≡ sizes → has ≡ nat_lt page (end_read layout (visit_call_of m) m.length) → has ≡ true → page < end_read sizes (visit_call_of m) m.length
before_end m layout sizes page has same is so = subst (λ s. page < end_read s (visit_call_of m) m.length) same (ltb-true page (end_read layout (visit_call_of m) m.length) (sym is ∙ so))

module _ (m : VisitMachine) (control : VisitControl) (list : List ℕ) (start now : PassState) (fits : Fits now.view.opened.sizes m) (way : IsInCall m control list start now) (more : m.page < end_read now.view.opened.sizes (visit_call_of m) m.length) where
  abbrev sizes : Sizes
  sizes = now.view.opened.sizes

  visit_own : IsPage sizes (visit_call_of m) m.page
  visit_own = let within = read_within sizes (visit_call_of m) m.length in let low = way.copied.from in (low, omega (arith, within, more))

  pub visit_there : m.page < page_total now.view.opened.sizes
  visit_there = page_within sizes (visit_call_of m) m.page fits.allowed visit_own

  visit_once : times (PAGE m.page) (pass_of now.view).owned ≡ 1
  visit_once =
      ap (λ (c : MirroredControl). times (PAGE m.page) c.owned) way.called.mirrors
      ∙ behind_size m.page m.file m.sized (pages_from m.first m.pages)
      ∙ page_inside m.page m.first m.pages (let low = visit_own.0 in let f = fits.first in omega (arith, low, f)) (let high = visit_own.1 in let f = fits.first in let p = fits.pages in omega (arith, high, f, p))

  pub visit_slot : (mid : PassState) → IsAltered (λ kept. kept) now mid → slot_times (page_slot now.view.opened.sizes m.page) mid.now ≡ 1
  visit_slot mid altered =
      let there = cell_there sizes (PAGE m.page) (page_slot sizes m.page) visit_there refl in
      (altered.owns_slots (values_of now.view) (still_owned (pass_of now.view)) way.called.still).each (page_slot sizes m.page) there.0 ∙ ap (λ c. times c (still_owned (pass_of now.view))) there.1
      ∙ ap (times (PAGE m.page)) (still_owned_all (pass_of now.view) way.called.left) ∙ visit_once

  -- what it has fetched lies below
  below : IsRunOf now.view.opened now.view.run → AreBelow (pass_of now.view).fetched m.from
  below run =
      subst (λ control. IsBelow (pass_of now.view).fetched (load_head control)) (ap (λ (c : MirroredControl). c.control) way.called.mirrors) (fetched_below now.view.opened now.view.run now.view.number run)

  -- a page whose buffer is valid was copied
  pub visit_more : 1 ≤ now.view.opened.sizes.page → IsRunOf now.view.opened now.view.run → (begins size count : ℕ) (list_then : List ℕ) → begins ≡ (page_piece now.view.opened.sizes (visit_call_of m) m.length m.page).at % now.view.opened.sizes.page
      → size ≡ (page_piece now.view.opened.sizes (visit_call_of m) m.length m.page).size → length list_then ≡ length list
      → IsPut (values_of now.view (PAGE m.page)) begins m.copied size list list_then (Some count) → IsInCall (record m { page = m.page + 1; copied = m.copied + count }) visits.Look list_then start now
  visit_more some run begins size count list_then begins_is size_is long put = record {
    called = way.called;
    later = let later = way.later in omega (arith, later);
    valid = λ p low high. elim (cases_eq p m.page) [
      | inl same ↦ subst (λ n. is_valid (values_of now.view (PAGE n)) ≡ true) (sym same) put.0
      | inr ne ↦ way.valid p low (omega (arith, high, ne))
    ];
    copied = copied_more sizes (visit_call_of m) m.length list m.copied (values_of now.view) (pass_of now.view).fetched m.page some more way.copied (bytes_at (bytes_in (values_of now.view (PAGE m.page))) begins size) put.2 list_then count
        (ap (λ n. bytes_at (bytes_in (values_of now.view (PAGE m.page))) n size) begins_is
        ∙ ap (bytes_at (bytes_in (values_of now.view (PAGE m.page))) ((page_piece sizes (visit_call_of m) m.length m.page).at % sizes.page)) size_is
        ∙ ap (λ b. bytes_at b ((page_piece sizes (visit_call_of m) m.length m.page).at % sizes.page) (page_piece sizes (visit_call_of m) m.length m.page).size)
        (sym (bytes_above (pass_of now.view).fetched (values_of now.view) m.from m.page (below run) way.later)))
        put.1 put.3;
    room = long ∙ way.room;
    knows = tt;
  }

  -- there is room for it
  pub visit_room : 1 ≤ now.view.opened.sizes.page → (from size : ℕ) → from ≡ (page_piece now.view.opened.sizes (visit_call_of m) m.length m.page).from → from + size ≤ covered (visit_call_of m) m.length → m.copied + size ≤ length list
  visit_room some from size from_is inside =
      let most = copied_most sizes (visit_call_of m) m.length list m.copied (values_of now.view) (pass_of now.view).fetched m.page some more way.copied in
      let room = way.room in
      let few : covered (visit_call_of m) m.length ≤ m.len = omega arith in
      omega (arith, most, from_is, inside, room, few)

-- ---- what comes next

module _ (m : VisitMachine) (list : List ℕ) (start now : PassState) (way : IsInCall m visits.Look list start now) (more : m.page < end_read now.view.opened.sizes (visit_call_of m) m.length) (missed : is_valid (values_of now.view (PAGE m.page)) ≡ false) where
  -- the page is missed
  miss : IsMiss now.view.opened.sizes (values_of now.view) (pass_of now.view) m.page 0
  miss = JustNow m.from
      record {
        control = ap (λ (c : MirroredControl). c.control) way.called.mirrors;
        later = way.later;
        within = subst (λ (c : MirroredControl). m.page < end_read now.view.opened.sizes c.call c.length) (sym way.called.mirrors) more;
        passed = way.valid;
        missed = missed;
      }
      refl

  -- and its DIRTY is loaded next, where it doesn't lack a buffer, or there is none
  pub visit_loads : (lacks_buffer (values_of now.view (PAGE m.page)) ≡ false) ⊎ (now.view.opened.sizes.buffers ≡ 0) → KnowsAt m visits.Load now
  visit_loads enough = (
    more,
    elim (steps_are_next now.view.opened.sizes (values_of now.view) (pass_of now.view) (core.Load (DIRTY m.page))
        (record { tries = 0; miss = miss; enough = elim enough [ inl not ↦ inl not | inr none ↦ inr (omega (arith, none)) ] }))
        [ inl next ↦ next | inr batch ↦ absurd batch ],
  )

-- a read at its pages that looked at what it owns is there still
pub visit_altered : (m : VisitMachine) (control : VisitControl) (list : List ℕ) (start now mid : PassState) → IsAltered (λ kept. kept) now mid → IsInCall m visits.Look list start now → KnowsAt m control now
    → IsInCall (record m { control = control }) control list start mid
visit_altered m control list start now mid same way knows =
    by_slots now mid same (λ state. IsInCall (record m { control = control }) control list start state) record {
      called = called_same control_mirror (visit_call_of m) (visit_mirror m) None None start now mid same way.called;
      later = way.later;
      valid = way.valid;
      copied = record { from = way.copied.from; till = way.copied.till; rest = way.copied.rest; list_is = way.copied.list_is; count = way.copied.count };
      room = way.room;
      knows = knows_so control knows;
    }
  where
    knows_so : (control : VisitControl) → KnowsAt m control now → KnowsAt (record m { control = control }) control (record now { now = mid.now })
    knows_so visits.Look knows = knows
    knows_so visits.Search knows = knows
    knows_so visits.Load knows = knows
    knows_so visits.TakePlace knows = knows
