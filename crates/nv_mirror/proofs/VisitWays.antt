-- Visit ways: a read goes on from its front to its pages, and between these and their loads.
use Rattle.std.proofs.Common.{◌≡◌, ℕ, ◌+◌, ◌-◌, ◌%◌, ◌<◌, ◌≤◌, nat_lt, true, if◌then◌else◌, List, ◌++◌, length, take, drop, refl, sym, ap, subst, ◌∙◌, arith}
use Rattle.std.specs.Prelude.{None}
use Rattle.std.proofs.lemmas.List.{length-take, length-drop}
use Rattle.nv_plain.specs.Files.{bytes_at}
use Rattle.nv_plain.specs.Pieces.{pages_touched}
use Rattle.nv_core.specs.state.Passes.{VisitPage, TakePlace, first_page, end_read, covered, is_read, len_of}
use Rattle.nv_core.specs.state.Words.{Sizes}
use Rattle.nv_core.specs.invariant.ControlFacts.{IsPage}
use Rattle.nv_core.proofs.crash.CrashPieces.{piece_page}
use Rattle.nv_core.proofs.state.PageLaws.{read_within}
use Rattle.nv_table.specs.state.Opened.{Opened}
use Rattle.nv_table.specs.state.States.{PassState}
use Rattle.nv_table.specs.state.Views.{pass_of, values_of}
use Rattle.nv_mirror.specs.declared.load.LoadControl.TheVariants as loads
use Rattle.nv_mirror.specs.declared.load.LoadMachine.{LoadMachine}
use Rattle.nv_mirror.specs.declared.visit.VisitControl.TheVariants as visits
use Rattle.nv_mirror.specs.declared.visit.VisitMachine.{VisitMachine}
use Rattle.nv_op.specs.declared.asked.Asked.TheVariants.{Read as AsksRead}
use Rattle.nv_op.specs.Ops.{call_asked}
use Rattle.nv_mirror.specs.declared.front.FrontControl.TheVariants as fronts
use Rattle.nv_mirror.specs.declared.front.FrontMachine.{FrontMachine}
use Rattle.nv_mirror.specs.Fronts as fronted
use Rattle.nv_mirror.specs.Fronts.{front_call_of, size_in}
use Rattle.nv_mirror.specs.Controls.{control_mirror, InCall}
use Rattle.nv_mirror.specs.Loads as load
use Rattle.nv_mirror.specs.Loads.{IsReading, KeepsOthers, bytes_had, load_call_of}
use Rattle.nv_mirror.specs.Visits.{Carries, Fits, HasCopied, IsInCall, IsLoadOf, IsUnderWay, front, load_of, page_piece, visit_call_of, visit_mirror, visits_next}
use Rattle.nv_mirror.proofs.CopiedLaws.{copied_most, copied_more, copied_same, some_bytes}
use Rattle.nv_mirror.proofs.LoadWays.{load_begins, load_had, load_reads}

-- ---- from its front to its pages

module _ (f : FrontMachine) (file from len : ℕ) (list : List ℕ) (start now : PassState) (asks : f.asked ≡ AsksRead file from len) (passed : f.control ≡ fronts.Passed) (reads : is_read (front_call_of f) ≡ true) (long : length list ≡ size_in f) (way : fronted.IsUnderWay f start now) where
  abbrev g : FrontMachine
  g = record f { asked = AsksRead file from len }

  abbrev visiting : VisitMachine
  visiting = record { file = file; at = from; len = len; first = f.first; pages = f.held; sized = f.sized; length = f.length; from = f.first; page = f.first; copied = 0; control = visits.Look }

  as_read : fronted.IsUnderWay g start now
  as_read = subst (λ a. fronted.IsUnderWay (record f { asked = a }) start now) asks way

  over : fronted.IsInCall g fronts.Passed start now
  over = subst (λ control. fronted.IsInCall g control start now) passed as_read.1

  pages : f.first + f.held ≡ f.last
  pages = subst (fronted.FitsAt g) passed as_read.0.stands

  some : nat_lt 0 len ≡ true
  some = ap (λ a. is_read (call_asked a)) (sym asks) ∙ reads

  none : f.first - first_page now.view.opened.sizes (visit_call_of visiting) ≡ 0
  none = let first = as_read.0.first in omega (arith, first)

  pub front_visits : IsUnderWay visiting list start now
  front_visits = (
    record {
      allowed = as_read.0.allowed;
      some = as_read.0.some;
      first = as_read.0.first;
      pages = let p = pages in let first = as_read.0.first in let l = as_read.0.last in omega (arith, p, first, l);
    },
    record {
      called = subst (λ b. InCall control_mirror (visit_call_of visiting) None (record (visit_mirror visiting) { control = if b then VisitPage f.first else TakePlace }) None None start now) some over;
      later = let e : f.first ≤ f.first = omega arith in e;
      valid = λ p low high. absurd (omega (arith, low, high));
      copied = record {
        from = let first = as_read.0.first in omega (arith, first);
        till = let first = as_read.0.first in omega (arith, first);
        rest = list;
        list_is = ap (λ n. front now.view.opened.sizes (values_of now.view) (visit_call_of visiting) f.length (pass_of now.view).fetched n ++ list) (sym none);
        count = ap (λ n. length (front now.view.opened.sizes (values_of now.view) (visit_call_of visiting) f.length (pass_of now.view).fetched n)) (sym none);
      };
      room = long ∙ ap (λ a. len_of (call_asked a)) asks;
      knows = tt;
    },
  )

-- ---- from its pages to a load

module _ (m : VisitMachine) (list : List ℕ) (start now : PassState) (at : m.control ≡ visits.Load) (way : IsUnderWay m list start now) where
  on : IsInCall m visits.Load list start now
  on = subst (λ control. IsInCall m control list start now) at way.1

  own : IsPage now.view.opened.sizes (visit_call_of m) m.page
  own = let within = read_within now.view.opened.sizes (visit_call_of m) m.length in let low = on.copied.from in let more = on.knows.0 in (low, omega (arith, within, more))

  pub visit_loading : (room : List ℕ) → load.IsUnderWay (load_of m) room start now
  visit_loading room =
      load_begins (load_of m) room start now
      (record { allowed = way.0.allowed; some = way.0.some; first = way.0.first; pages = way.0.pages; own = own; stands = tt })
      refl
      (record { control = VisitPage m.from; called = on.called; next = on.knows.1 })

  pub visit_carries : Carries m list now
  visit_carries = record { more = on.knows.0; copied = on.copied; room = on.room }

-- ---- while that is under way

pub carries_on : (m : VisitMachine) (list : List ℕ) (load : LoadMachine) (old new : PassState) → IsLoadOf load m → KeepsOthers load old new → new.view.opened ≡ old.view.opened → Carries m list old → Carries m list new
carries_on m list load old new is keeps same carries =
    subst (λ (o : Opened). (m.page < end_read o.sizes (visit_call_of m) m.length) → HasCopied o.sizes (visit_call_of m) m.length list m.copied (values_of new.view) (pass_of new.view).fetched m.page → Carries m list new) same
    (λ more copied. record { more = more; copied = copied; room = carries.room }) carries.more
    (copied_same old.view.opened.sizes (visit_call_of m) m.length list m.copied (values_of old.view) (values_of new.view) (pass_of old.view).fetched (pass_of new.view).fetched m.page
    (λ p low high. by_load (ap (λ (l : LoadMachine). load_call_of l) is) (ap (λ (l : LoadMachine). l.page) is) p low high) carries.copied)
  where
    by_load : load_call_of load ≡ visit_call_of m → load.page ≡ m.page → (p : ℕ) → first_page old.view.opened.sizes (visit_call_of m) ≤ p → p < m.page → bytes_had new p ≡ bytes_had old p
    by_load call page p low high =
        keeps p
        (subst (λ c. IsPage old.view.opened.sizes c p) (sym call)
        (low, let within = read_within old.view.opened.sizes (visit_call_of m) m.length in let more = carries.more in omega (arith, within, more, high)))
        (λ e. omega (arith, e, high, page))

-- ---- and behind it

module _ (m : VisitMachine) (room list : List ℕ) (now : PassState) (carries : Carries m list now) (some : 1 ≤ now.view.opened.sizes.page) where
  abbrev sizes : Sizes
  sizes = now.view.opened.sizes

  -- the bytes of the page that belong to the reply lie in it
  pub piece_inside : (page_piece now.view.opened.sizes (visit_call_of m) m.length m.page).at % now.view.opened.sizes.page + (page_piece now.view.opened.sizes (visit_call_of m) m.length m.page).size ≤ now.view.opened.sizes.page
  piece_inside =
      let low = carries.copied.from in let more = carries.more in
      let there : m.page - first_page sizes (visit_call_of m) < pages_touched m.at (covered (visit_call_of m) m.length) sizes.page = omega (arith, low, more) in
      piece_page m.at (covered (visit_call_of m) m.length) sizes.page some (some_bytes m.at (covered (visit_call_of m) m.length) sizes.page (omega (arith, there))) (m.page - first_page sizes (visit_call_of m)) there

  -- and there is room for them in the list
  pub piece_most : m.copied ≤ (page_piece now.view.opened.sizes (visit_call_of m) m.length m.page).from
  piece_most = copied_most sizes (visit_call_of m) m.length list m.copied (values_of now.view) (pass_of now.view).fetched m.page some carries.more carries.copied

  module _ (start : PassState) (fits : Fits now.view.opened.sizes m) (l : LoadMachine) (is : IsLoadOf l m) (at : l.control ≡ loads.Loaded) (way : load.IsUnderWay l room start now) (long : length room ≡ now.view.opened.sizes.page) where
    piece_at : ℕ
    piece_at = (page_piece sizes (visit_call_of m) m.length m.page).at % sizes.page

    piece_size : ℕ
    piece_size = (page_piece sizes (visit_call_of m) m.length m.page).size

    reading : (l : LoadMachine) → l ≡ record (load_of m) { head = l.head; control = l.control } → IsReading l (VisitPage (l.page + 1)) start now → IsReading (load_of m) (VisitPage (m.page + 1)) start now
    reading l is reads = subst (λ (x : LoadMachine). IsReading x (VisitPage (x.page + 1)) start now) is reads

    pub passed_on : (list_then rest : List ℕ) → length list_then ≡ length list
        → list_then ≡ take m.copied list ++ (bytes_at room ((page_piece now.view.opened.sizes (visit_call_of m) m.length m.page).at % now.view.opened.sizes.page) (page_piece now.view.opened.sizes (visit_call_of m) m.length m.page).size ++ rest)
        → IsUnderWay (visits_next m (page_piece now.view.opened.sizes (visit_call_of m) m.length m.page).size) list_then start now
    passed_on list_then rest as_long list_is = (
      record { allowed = fits.allowed; some = fits.some; first = fits.first; pages = fits.pages },
      record {
        called = reading l is (load_reads l room start now at way);
        later = let e : m.page + 1 ≤ m.page + 1 = omega arith in e;
        valid = λ p low high. absurd (omega (arith, low, high));
        copied = copied_more sizes (visit_call_of m) m.length list m.copied (values_of now.view) (pass_of now.view).fetched m.page some carries.more carries.copied
            (bytes_at room ((page_piece sizes (visit_call_of m) m.length m.page).at % sizes.page) (page_piece sizes (visit_call_of m) m.length m.page).size) rest list_then (page_piece sizes (visit_call_of m) m.length m.page).size
            (ap (λ b. bytes_at b ((page_piece sizes (visit_call_of m) m.length m.page).at % sizes.page) (page_piece sizes (visit_call_of m) m.length m.page).size) (sym had))
            many list_is;
        room = as_long ∙ carries.room;
        knows = tt;
      },
    )
      where
        had : bytes_had now m.page ≡ room
        had = ap (bytes_had now) (sym (ap (λ (x : LoadMachine). x.page) is)) ∙ load_had l room start now at way

        many : (page_piece sizes (visit_call_of m) m.length m.page).size ≡ length (bytes_at room ((page_piece sizes (visit_call_of m) m.length m.page).at % sizes.page) (page_piece sizes (visit_call_of m) m.length m.page).size)
        many =
            let lies = piece_inside in
            let taken = length-take (page_piece sizes (visit_call_of m) m.length m.page).size (drop ((page_piece sizes (visit_call_of m) m.length m.page).at % sizes.page) room) in
            let after = length-drop ((page_piece sizes (visit_call_of m) m.length m.page).at % sizes.page) room in
            omega (arith, lies, taken, after, long)
