-- Pledges: the piece of a write that is laid over the buffer of a page, and the pledge of the page behind it.
use Rattle.std.specs.Prelude.{◌≡◌, ℕ, ◌≤◌, List, [], length, Some, None}
use Rattle.nv_plain.specs.declared.call.FileCall.{FileCall}
use Rattle.nv_core.specs.state.Words.{Sizes, PAGE}
use Rattle.nv_core.specs.state.Values.{Buffer, ABuffer}
use Rattle.nv_core.specs.state.Passes.{PledgePage, times}
use Rattle.nv_core.specs.state.Core.{with_value}
use Rattle.nv_core.specs.steps.Ops.{Pledge, patched_by}
use Rattle.nv_core.specs.steps.Order.{Values, Work}
use Rattle.nv_table.specs.steps.SeatSteps.{AreDue, pass_worked, values_before}
use Rattle.nv_table.specs.steps.StepContracts.{Postcondition}
use Rattle.nv_table.specs.state.Views.{OwnsSlots, pass_of, values_of, still_owned}
use Rattle.nv_table.specs.state.States.{PassState}
use Rattle.nv_mirror.specs.PassSteps.{IsBetweenSteps, fault_in}

-- the piece of a write on a page is laid over the page's buffer, where that counts
abbrev pub with_piece_on : Sizes → (write : FileCall) (page : ℕ) → Values → Values
with_piece_on sizes write page kept = with_value kept (PAGE page) (patched_by sizes write page (kept (PAGE page)))

-- A pass stands before the pledge of a page of its write, behind device calls that are due and ended well, if there are any: what it owns shows what these leave. The page
-- is among its owned cells, and has room for a page's bytes where it has a buffer.
pub record IsBeforePledge (write : FileCall) (page : ℕ) (pass : PassState) : Type 0 where
  pub works : List Work
  pub due : AreDue pass.view.opened.sizes (values_of pass.view) (pass_of pass.view) works
  pub well : fault_in works ≡ None
  pub control : (pass_worked pass.view.opened.sizes works (pass_of pass.view)).control ≡ PledgePage page
  pub makes : (pass_of pass.view).call ≡ write
  pub staying : (pass_of pass.view).left ≡ []
  pub once : times (PAGE page) (pass_of pass.view).owned ≡ 1
  pub shown : OwnsSlots pass.view.opened.sizes (λ value. value) (values_before pass.view works) (still_owned (pass_of pass.view)) pass.now
  pub room : (buffer : Buffer) → values_before pass.view works (PAGE page) ≡ ABuffer (Some buffer) → pass.view.opened.sizes.page ≤ length buffer.bytes

-- It has pledged the page: the buffer was changed before.
pub record HasPledged (page found : ℕ) (old new : PassState) : Type 0 where
  pub before : PassState
  pub between : IsBetweenSteps old before
  pub stepped : Postcondition before None (Pledge page) found new
  pub well : fault_in stepped.works ≡ None
