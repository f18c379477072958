-- Read measures: a read comes to its end, since each step of a part, and each way on to the next one, leaves fewer that may still come.
use Rattle.std.proofs.Common.{◌≡◌, ℕ, zero, suc, ◌+◌, ◌-◌, ◌*◌, ◌<◌, ◌≤◌, ◌^◌, Bool, true, false, if◌then◌else◌, refl, sym, ap, subst, ◌∙◌, arith}
use Rattle.std.proofs.Math.Nat.{mul-le-mul_left}
use Rattle.nv_core.specs.state.Words.{Sizes}
use Rattle.nv_mirror.specs.declared.answers.Refusal.{Refusal}
use Rattle.nv_mirror.specs.declared.front.FrontControl.{FrontControl}
use Rattle.nv_mirror.specs.declared.front.FrontControl.TheVariants as fronts
use Rattle.nv_mirror.specs.declared.front.FrontMachine.{FrontMachine}
use Rattle.nv_mirror.specs.Fronts.{front_after, front_after_at, front_measure, rest, IsOpen}
use Rattle.nv_core.specs.state.Passes.{end_read}
use Rattle.nv_core.proofs.state.PageLaws.{read_within}
use Rattle.nv_mirror.specs.declared.load.LoadMachine.{LoadMachine}
use Rattle.nv_mirror.specs.declared.visit.VisitMachine.{VisitMachine}
use Rattle.nv_mirror.specs.Loads.{load_measure}
use Rattle.nv_mirror.specs.Visits.{Fits, load_of, visit_call_of}
use Rattle.nv_mirror.proofs.PartLaws.{front_keeps}
use Rattle.nv_cache.specs.declared.read.RunningRead.TheVariants.{Front, Search, Load}
use Rattle.nv_cache.specs.declared.search.SearchMachine.{SearchMachine}
use Rattle.nv_cache.specs.RunningReads.{end_steps, is_back, load_steps, page_steps, pages_left, read_measure, visit_steps}
use Rattle.nv_cache.specs.Searches.{search_measure}
use Rattle.nv_cache.specs.Ways.{search_for}

-- ---- a front

rest_back : (size : Bool) (held : ℕ) (refusal : Refusal) → is_back (rest size held refusal) ≡ true
rest_back true zero refusal = refl
rest_back true (suc held) refusal = refl
rest_back false zero refusal = refl
rest_back false (suc held) refusal = refl

-- one that goes back goes on to do so
back_stays : (sizes : Sizes) (m : FrontMachine) (control : FrontControl) (found : ℕ) → IsOpen control → is_back control ≡ true → is_back (front_after_at sizes m control found).control ≡ true
back_stays sizes m (fronts.GiveBack true refusal) found runs back = rest_back false m.held refusal
back_stays sizes m (fronts.GiveBack false refusal) found runs back = rest_back false (m.held - 1) refusal
back_stays sizes m (fronts.Over refusal) found runs back = absurd runs
back_stays sizes m control found runs back = absurd (cc)

part_less : (old new more : ℕ) (b c : Bool) → new < old → (b ≡ true → c ≡ true) → new + (if c then 0 else more) < old + (if b then 0 else more)
part_less old new more true true less stays = omega (arith, less)
part_less old new more true false less stays = let never : false ≡ true = stays refl in absurd (cc)
part_less old new more false true less stays = omega (arith, less)
part_less old new more false false less stays = omega (arith, less)

pub front_falls : (sizes : Sizes) (m next : FrontMachine) (found : ℕ) → IsOpen m.control → next ≡ front_after sizes m found → front_measure next < front_measure m → read_measure sizes (Front next) < read_measure sizes (Front m)
front_falls sizes m next found runs is less =
    let span : next.last - next.first ≡ m.last - m.first = ap (λ (f : FrontMachine). f.last - f.first) is ∙ front_keeps (λ f. f.last - f.first) (λ f held sized length control. refl) sizes m m.control found in
    subst (λ n. front_measure next + (if is_back next.control then 0 else visit_steps sizes n n) < read_measure sizes (Front m)) (sym span)
    (part_less (front_measure m) (front_measure next) (visit_steps sizes (m.last - m.first) (m.last - m.first)) (is_back m.control) (is_back next.control) less
    (λ back. ap (λ (f : FrontMachine). is_back f.control) is ∙ back_stays sizes m m.control found runs back))

-- ---- a look at pages

-- what is done for one page more, where some are left
pub one_more : (cost one left most : ℕ) → one ≤ cost → 1 ≤ left → left ≤ most → one + cost * (left - 1) ≤ cost * most
one_more cost one left most low some few =
    let whole = mul-le-mul_left cost few in
    let all : cost * left ≡ cost + cost * (left - 1) = grown cost left some in
    omega (arith, low, whole, all)
  where
    grown : (cost left : ℕ) → 1 ≤ left → cost * left ≡ cost + cost * (left - 1)
    grown cost zero some = absurd (omega (arith, some))
    grown cost (suc n) some = ap (λ k. cost * k) (let e : suc n ≡ (suc n - 1) + 1 = omega arith in e) ∙ (let e : cost * ((suc n - 1) + 1) ≡ cost + cost * (suc n - 1) = omega arith in e)

whole : (one part most tail tail_then : ℕ) → one + part ≤ most → tail ≡ tail_then → one + (part + tail) ≤ most + tail_then
whole one part most tail tail_then fits same = omega (arith, fits, same)

-- it is the read that it was before a look
abbrev pub HasLookedOn : VisitMachine → VisitMachine → Type 0
HasLookedOn v m = m ≡ record v { page = m.page; copied = m.copied; control = m.control }

module _ (sizes : Sizes) (v m : VisitMachine) (same : HasLookedOn v m) (later : m.from ≤ m.page) (within : m.page < m.first + m.pages) where
  pages_same : m.pages ≡ v.pages
  pages_same = ap (λ (n : VisitMachine). n.pages) same

  some_left : 1 ≤ pages_left m
  some_left = omega (arith, within)

  fewer_left : pages_left m ≤ v.first + v.pages - v.from
  fewer_left = let first = ap (λ (n : VisitMachine). n.first) same in let from = ap (λ (n : VisitMachine). n.from) same in let pages = pages_same in omega (arith, first, from, pages, later)

  -- a search of the page that it misses, or a load, with what comes behind it
  looked_few : (one : ℕ) → one ≤ page_steps sizes → one + visit_steps sizes m.pages (pages_left m - 1) ≤ visit_steps sizes v.pages (v.first + v.pages - v.from)
  looked_few one low =
      whole one (page_steps sizes * (pages_left m - 1)) (page_steps sizes * (v.first + v.pages - v.from)) (end_steps m.pages) (end_steps v.pages)
      (one_more (page_steps sizes) one (pages_left m) (v.first + v.pages - v.from) low some_left fewer_left) (ap end_steps pages_same)

  pub search_few : (s : SearchMachine) (from : ℕ) → s ≡ search_for (load_of m) from → read_measure sizes (Search m s) ≤ visit_steps sizes v.pages (v.first + v.pages - v.from)
  search_few s from is =
      looked_few (search_measure sizes s + load_steps) (let measure : search_measure sizes s ≡ 4 * (2 * sizes.buffers - 0) + 1 = ap (search_measure sizes) is in omega (arith, measure))

  pub load_few : (l : LoadMachine) → l ≡ load_of m → read_measure sizes (Load m l) ≤ visit_steps sizes v.pages (v.first + v.pages - v.from)
  load_few l is = looked_few (load_measure l) (let measure : load_measure l ≡ 3 * 2 ^ 64 + 7 = ap load_measure is in omega (arith, measure))

-- the page is one of the read's
pub page_within : (m : VisitMachine) (sizes : Sizes) → Fits sizes m → m.page < end_read sizes (visit_call_of m) m.length → m.page < m.first + m.pages
page_within m sizes fits more = let inside = read_within sizes (visit_call_of m) m.length in let first = fits.first in let pages = fits.pages in omega (arith, inside, more, first, pages)
