-- Ways: one machine of a call goes on where another one ends.
use Rattle.std.proofs.Common.{◌≡◌, refl, ℕ, ◌+◌, ◌-◌, ◌<◌, ◌≤◌, ◌^◌, Bool, true, false, if◌then◌else◌, sym, ap, ap₂, subst, ◌∙◌, arith}
use Rattle.std.specs.Prelude.{Option, Some, None}
use Rattle.nv_plain.specs.declared.call.FileCall.{FileCall}
use Rattle.nv_core.specs.state.Passes.{GiveSize, GivePage, IsAllowed, first_page, page_count, len_of, at_of}
use Rattle.nv_core.specs.state.Words.{Sizes, SIZE}
use Rattle.nv_table.specs.state.States.{PassState}
use Rattle.nv_mirror.specs.declared.answers.Refusal.{Refusal}
use Rattle.nv_ring.specs.declared.append.AppendMachine.{AppendMachine}
use Rattle.nv_ring.specs.declared.append.AppendControl.TheVariants.{Appended, Refused}
use Rattle.nv_ring.specs.declared.append.AppendControl.TheVariants as appends
use Rattle.nv_mirror.specs.declared.front.FrontMachine.{FrontMachine}
use Rattle.nv_mirror.specs.declared.front.FrontControl.TheVariants as fronts
use Rattle.nv_mirror.specs.declared.release.ReleaseControl.TheVariants as releases
use Rattle.nv_ring.specs.Appends as append
use Rattle.nv_ring.specs.Appends.{append_call_of, append_mirror_at}
use Rattle.nv_ring.specs.declared.numbers.DrawMachine.{DrawMachine}
use Rattle.nv_ring.specs.declared.numbers.DrawControl.TheVariants as draws
use Rattle.nv_ring.specs.Draws as draw
use Rattle.nv_mirror.specs.Fronts as front
use Rattle.nv_mirror.specs.Releases as release
use Rattle.nv_mirror.specs.Controls.{Drawing, control_mirror, drawings, InCall}
use Rattle.nv_mirror.specs.OwnedCells.{pages_from, with_if}
use Rattle.nv_ring.specs.Ways.{released_of, refused_of}
use Rattle.nv_ring.proofs.BehindLaws.{draw_behind}
use Rattle.nv_ring.proofs.DrawLaws.{some_drawn}
use Rattle.nv_ring.proofs.AppendLaws.{some_pages}

-- what a write has at hand begins with what every call with pages has
coarser : (call : FileCall) (opens : Option FileCall) (is : Drawing) (refusal : Option Refusal) (place : Option ℕ) (start now : PassState) → InCall drawings call opens is refusal place start now
    → InCall control_mirror call opens is.mirrored_control refusal place start now
coarser call opens is refusal place start now called = record {
  idle = called.idle;
  steps = called.steps;
  made = called.made;
  own = called.own;
  refused = called.refused;
  plain = called.plain;
  asked = called.asked;
  makes = called.makes;
  asks = called.asks;
  placed = called.placed;
  later = called.later;
  spare = called.spare;
  mount = called.mount;
  still = called.still;
  left = called.left;
  fresh = called.fresh;
  told = called.told;
  mirrors = ap (λ (d : Drawing). d.mirrored_control) called.mirrors;
}

-- ---- from the front to the draw, and from there to the append

-- The numbers of the draw are the front's.
pub draw_fits : (sizes : Sizes) (f : FrontMachine) (m : DrawMachine) → front.Fits sizes f → front.HasPages f → draw.Behind f m → m.end ≡ f.end → m.control ≡ draws.LoadHead → f.last ≤ 2 ^ 50 → draw.Fits sizes m
draw_fits sizes f m fits pages behind end control low = record {
  write = record {
    allowed = subst (IsAllowed sizes) (sym behind.call) fits.allowed;
    some = subst (λ call. 0 < len_of call) (sym behind.call) fits.some;
    end = end ∙ fits.end ∙ ap (λ call. at_of call + len_of call) (sym behind.call);
    page = behind.page ∙ fits.first ∙ ap (first_page sizes) (sym behind.call);
    pages = (let p = pages in let n = behind.pages in let first = fits.first in let l = fits.last in let e : m.pages ≡ page_count sizes (front.front_call_of f) = omega (arith, p, n, first, l) in e) ∙ ap (page_count sizes) (sym behind.call);
    low = let p = behind.page in let n = behind.pages in let h = pages in omega (arith, p, n, h, low);
    stands = tt;
  };
  stands = subst (draw.FitsAt m) (sym control) tt;
}

pub draw_way : (f : FrontMachine) (m : DrawMachine) (start now : PassState) → f.control ≡ fronts.Passed → draw.Behind f m → m.end ≡ f.end → m.control ≡ draws.LoadHead → f.last ≤ 2 ^ 50 → front.IsUnderWay f start now → draw.IsUnderWay m start now
draw_way f m start now passed behind end control low way = (
  draw_fits now.view.opened.sizes f m way.0 (subst (front.FitsAt f) passed way.0.stands) behind end control low,
  subst (λ c. draw.IsInCall m c start now) (sym control) (draw_behind f m start now behind (subst (λ c. front.IsInCall f c start now) passed way.1)),
)

pub append_way : (m : DrawMachine) (start now : PassState) → m.control ≡ draws.Drawn → draw.IsUnderWay m start now → append.IsUnderWay (draw.append_of m) start now
append_way m start now control way = (
  record {
    allowed = way.0.write.allowed;
    some = way.0.write.some;
    end = way.0.write.end;
    page = way.0.write.page;
    pages = way.0.write.pages;
    low = way.0.write.low;
    stands = (some_drawn now.view.opened.sizes m way.0, subst (draw.FitsAt m) control way.0.stands);
  },
  record { before = drawn.before; called = drawn.called },
)
  where
    drawn : draw.IsInCall m draws.Drawn start now
    drawn = subst (λ c. draw.IsInCall m c start now) control way.1

-- ---- from the append to what it gives back

release_is : (sizes : Sizes) (m : AppendMachine) (before : append.Before) (size : Bool) → m.sized ≡ size
    → (append_mirror_at sizes m before Appended).mirrored_control ≡ release.release_mirror_at (released_of m) (if size then releases.GiveSize else releases.GivePage 0)
release_is sizes m before true is =
    ap (λ b. record (append_mirror_at sizes m before Appended).mirrored_control { control = if b then GiveSize else GivePage m.page; owned = with_if b (SIZE m.file) (pages_from m.page m.pages) }) is
release_is sizes m before false is =
    ap (λ b. record (append_mirror_at sizes m before Appended).mirrored_control { control = if b then GiveSize else GivePage m.page; owned = with_if b (SIZE m.file) (pages_from m.page m.pages) }) is
    ∙ ap₂ (λ page count. record (append_mirror_at sizes m before Appended).mirrored_control { control = GivePage page; owned = pages_from page count }) (let e : m.page ≡ m.page + 0 = omega arith in e) (let e : m.pages ≡ m.pages - 0 = omega arith in e)

release_stands : (m : AppendMachine) (size : Bool) → 0 < m.pages → release.FitsAt (released_of m) (if size then releases.GiveSize else releases.GivePage 0)
release_stands m true some = tt
release_stands m false some = some

pub release_way : (m : AppendMachine) (start now : PassState) → m.control ≡ Appended → append.IsUnderWay m start now → release.IsUnderWay (released_of m) start now
release_way m start now control way = (
  record { page = way.0.page; pages = way.0.pages; some = some_pages now.view.opened.sizes m way.0; low = (let low = way.0.low in omega (arith, low)); stands = release_stands m m.sized (some_pages now.view.opened.sizes m way.0) },
  subst (λ state. InCall control_mirror (append_call_of m) None state None (Some m.place) start now) (release_is now.view.opened.sizes m appended.before m.sized refl)
      (coarser (append_call_of m) None (append_mirror_at now.view.opened.sizes m appended.before Appended) None (Some m.place) start now appended.called),
)
  where
    appended : append.IsInCall m Appended start now
    appended = subst (λ c. append.IsInCall m c start now) control way.1

back_stands : (m : AppendMachine) (size : Bool) (refusal : Refusal) → 0 < m.pages → front.FitsAt (refused_of m refusal) (fronts.GiveBack size refusal)
back_stands m true refusal some = tt
back_stands m false refusal some = some

back_fits : (sizes : Sizes) (m : AppendMachine) (refusal : Refusal) → append.Fits sizes m → front.Fits sizes (refused_of m refusal)
back_fits sizes m refusal fits = record {
  allowed = fits.allowed;
  some = fits.some;
  end = fits.end;
  first = fits.page;
  last = ap₂ (λ a b. a + b) fits.page fits.pages;
  within = let e : m.page + m.pages ≤ m.page + m.pages = omega arith in e;
  stands = back_stands m m.sized refusal (some_pages sizes m fits);
}

pub give_back_way : (m : AppendMachine) (start now : PassState) (refusal : Refusal) → m.control ≡ Refused refusal → append.IsUnderWay m start now → front.IsUnderWay (refused_of m refusal) start now
give_back_way m start now refusal control way = (
  back_fits now.view.opened.sizes m refusal way.0,
  coarser (append_call_of m) None (append_mirror_at now.view.opened.sizes m refused.before (Refused refusal)) (Some refusal) None start now refused.called,
)
  where
    refused : append.IsInCall m (Refused refusal) start now
    refused = subst (λ c. append.IsInCall m c start now) control way.1

pub undrawn_way : (m : DrawMachine) (start now : PassState) (refusal : Refusal) → m.control ≡ draws.Refused refusal → draw.IsUnderWay m start now → front.IsUnderWay (refused_of (draw.append_of m) refusal) start now
undrawn_way m start now refusal control way = (
  back_fits now.view.opened.sizes (draw.append_at m appends.TakePlace) refusal way.0.write,
  coarser (draw.draw_call_of m) None (draw.draw_mirror_at now.view.opened.sizes m refused.before (draws.Refused refusal)) (Some refusal) None start now refused.called,
)
  where
    refused : draw.IsInCall m (draws.Refused refusal) start now
    refused = subst (λ c. draw.IsInCall m c start now) control way.1
