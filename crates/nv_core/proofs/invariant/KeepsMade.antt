-- Every event keeps what passes make: a call is set with what was asked, and neither changes after.
use Rattle.std.proofs.Common.{◌≡◌, ℕ, refl}
use Rattle.nv_plain.specs.declared.call.FileCall.{FileCall}
use Rattle.nv_core.specs.state.Words.{Sizes}
use Rattle.nv_core.specs.state.Passes.{Pass, plain_call}
use Rattle.nv_core.specs.steps.Ops.{Op, Split}
use Rattle.nv_core.specs.steps.Order.{Work}
use Rattle.nv_core.specs.steps.PassSteps.{begun}
use Rattle.nv_core.specs.state.Core.{Core, changes, changed_pass, worked, after_step, after_begin, after_work}
use Rattle.nv_core.specs.invariant.Made.{Made}
use Rattle.nv_core.proofs.state.Changes.{by_number}
use Rattle.nv_core.proofs.steps.Inherits.{inherits}

abbrev IsMade : Pass → Type 0
IsMade pass = pass.call ≡ plain_call pass.asked

pub made_step : (sizes : Sizes) (by : ℕ) (core : Core) (op : Op) (found : ℕ) → Made core → Made (after_step sizes by op found core)
made_step sizes by core op found was =
    record { each = by_number (λ n p. IsMade p) core.passes (changes by core.made op) (changed_pass sizes by core op found) (here op) (λ n ne. was.each n) }
  where
    here : (op : Op) → IsMade (changed_pass sizes by core op found)
    here Split = inherits IsMade core (λ one other is also. is) was.each (λ pass is. is)
    here op = was.each by

pub made_begin : (sizes : Sizes) (by : ℕ) (core : Core) (call : FileCall) → Made core → Made (after_begin sizes by call core)
made_begin sizes by core call was = record { each = by_number (λ n p. IsMade p) core.passes by (begun sizes call (core.passes by)) refl (λ n ne. was.each n) }

pub made_work : (sizes : Sizes) (by : ℕ) (core : Core) (work : Work) → Made core → Made (after_work sizes by work core)
made_work sizes by core work was = record { each = by_number (λ n p. IsMade p) core.passes by (worked sizes work (core.passes by)) (was.each by) (λ n ne. was.each n) }
