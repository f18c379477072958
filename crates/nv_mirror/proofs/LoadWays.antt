-- Load ways: where the load of a page begins, and how its read goes on.
use Rattle.std.proofs.Common.{◌≡◌, ℕ, ◌+◌, ◌<◌, ◌≤◌, ◌^◌, Bool, true, false, if◌then◌else◌, List, refl, sym, ap, ap₂, subst, ◌∙◌, arith}
use Rattle.std.specs.Prelude.{Option, Some, None}
use Rattle.nv_plain.specs.declared.call.FileCall.{FileCall}
use Rattle.nv_core.specs.state.Passes.{VisitPage}
use Rattle.nv_core.specs.state.Words.{Sizes}
use Rattle.nv_core.specs.steps.Order.{page_bytes}
use Rattle.nv_core.proofs.state.Changes.{number_self}
use Rattle.nv_table.specs.state.Limits.{MountIsWithinLimits}
use Rattle.nv_table.specs.state.States.{PassState}
use Rattle.nv_table.specs.state.Views.{pass_of, values_of}
use Rattle.nv_mirror.specs.declared.answers.Refusal.{Refusal}
use Rattle.nv_mirror.specs.declared.front.FrontControl.TheVariants as fronts
use Rattle.nv_mirror.specs.declared.load.LoadControl.TheVariants.{Loaded, Refused}
use Rattle.nv_mirror.specs.declared.load.LoadControl.TheVariants as loads
use Rattle.nv_mirror.specs.declared.load.LoadMachine.{LoadMachine}
use Rattle.nv_mirror.specs.Fronts as front
use Rattle.nv_mirror.specs.Controls.{MirroredControl, Reading, control_mirror, readings, InCall}
use Rattle.nv_mirror.specs.Loads.{Fits, IsInCall, IsReading, IsUnderWay, Misses, bytes_had, given_back, load_call_of}
use Rattle.nv_mirror.proofs.PageLaws.{some_touched}
use Rattle.nv_mirror.proofs.CellLaws.{last_low}

module _ (call : FileCall) (refusal : Option Refusal) (place : Option ℕ) (start now : PassState) where
  -- what a load has at hand begins with what every call with pages has
  pub reading_plainly : (is : Reading) → InCall readings call None is refusal place start now → InCall control_mirror call None is.mirrored_control refusal place start now
  reading_plainly is called = record {
    idle = called.idle;
    steps = called.steps;
    made = called.made;
    own = called.own;
    refused = called.refused;
    plain = called.plain;
    asked = called.asked;
    makes = called.makes;
    asks = called.asks;
    placed = called.placed;
    later = called.later;
    spare = called.spare;
    mount = called.mount;
    still = called.still;
    left = called.left;
    fresh = called.fresh;
    told = called.told;
    mirrors = ap (λ (r : Reading). r.mirrored_control) called.mirrors;
  }

  -- and of these it is any that its pass has
  pub reading_of_plain : (is : MirroredControl) → InCall control_mirror call None is refusal place start now
      → InCall readings call None (record { mirrored_control = is; head = (pass_of now.view).head; fetched = (pass_of now.view).fetched }) refusal place start now
  reading_of_plain is called = record {
    idle = called.idle;
    steps = called.steps;
    made = called.made;
    own = called.own;
    refused = called.refused;
    plain = called.plain;
    asked = called.asked;
    makes = called.makes;
    asks = called.asks;
    placed = called.placed;
    later = called.later;
    spare = called.spare;
    mount = called.mount;
    still = called.still;
    left = called.left;
    fresh = called.fresh;
    told = called.told;
    mirrors = ap (λ (c : MirroredControl). record { mirrored_control = c; head = (pass_of now.view).head; fetched = (pass_of now.view).fetched }) called.mirrors;
  }

module _ (m : LoadMachine) (room : List ℕ) (start now : PassState) where
  pub load_begins : Fits now.view.opened.sizes m → m.control ≡ loads.LoadDirty → Misses m start now → IsUnderWay m room start now
  load_begins fits at misses = (
    fits,
    subst (λ control. IsInCall m control room start now) (sym at) record {
      before = record { control = misses.control; head = (pass_of now.view).head; fetched = (pass_of now.view).fetched };
      called = reading_of_plain (load_call_of m) None None start now _ misses.called;
      missed = misses.next;
    },
  )

  loaded : m.control ≡ Loaded → IsUnderWay m room start now → IsInCall m Loaded room start now
  loaded at way = subst (λ control. IsInCall m control room start now) at way.1

  pub load_had : m.control ≡ Loaded → IsUnderWay m room start now → bytes_had now m.page ≡ room
  load_had at way =
      let on = loaded at way in
      ap (λ (r : Reading). page_bytes r.fetched (values_of now.view) m.page) on.called.mirrors
      ∙ ap (λ b. if b then room else page_bytes on.before.fetched (values_of now.view) m.page) (number_self m.page)

  pub load_reads : m.control ≡ Loaded → IsUnderWay m room start now → IsReading m (VisitPage (m.page + 1)) start now
  load_reads at way = reading_plainly (load_call_of m) None None start now _ (loaded at way).called

  back_stands : (size : Bool) (refusal : Refusal) → 0 < m.pages → front.FitsAt (given_back m refusal) (fronts.GiveBack size refusal)
  back_stands true refusal some = tt
  back_stands false refusal some = some

  some_held : Fits now.view.opened.sizes m → 0 < m.pages
  some_held fits = subst (λ n. 0 < n) (sym fits.pages) (some_touched m.at m.len now.view.opened.sizes.page fits.some)

  pub load_back : (refusal : Refusal) → m.control ≡ Refused refusal → IsUnderWay m room start now → front.IsUnderWay (given_back m refusal) start now
  load_back refusal at way = (
    record {
      allowed = way.0.allowed;
      some = way.0.some;
      end = refl;
      first = way.0.first;
      last = ap₂ (λ a b. a + b) way.0.first way.0.pages;
      within = let e : m.first + m.pages ≤ m.first + m.pages = omega arith in e;
      stands = back_stands m.sized refusal (some_held way.0);
    },
    reading_plainly (load_call_of m) (Some refusal) None start now _ (subst (λ control. IsInCall m control room start now) at way.1).called,
  )

-- its numbers are small
pub load_low : (sizes : Sizes) (m : LoadMachine) → MountIsWithinLimits sizes → Fits sizes m → m.first + m.pages ≤ 2 ^ 50
load_low sizes m limits fits = let low = last_low sizes (load_call_of m) limits fits.allowed in let f = fits.first in let p = fits.pages in omega (arith, low, f, p)
