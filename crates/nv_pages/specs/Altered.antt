-- Altered cells: a pass of which no more has changed than what some of its cells keep.
use Rattle.std.specs.Prelude.{◌≡◌, List}
use Rattle.nv_core.specs.state.Words.{Word}
use Rattle.nv_core.specs.steps.Order.{Values}
use Rattle.nv_table.specs.state.Views.{OwnsSlots}
use Rattle.nv_table.specs.state.States.{PassState}

-- It owns the same cells. Whatever they kept, they keep now what the change makes of it.
pub record IsAltered (change : Values → Values) (old new : PassState) : Type 0 where
  pub table : new.table ≡ old.table
  pub view : new.view ≡ old.view
  pub spare : new.spare ≡ old.spare
  pub owns_slots : (kept : Values) (cells : List Word)
      → OwnsSlots old.view.opened.sizes (λ value. value) kept cells old.now → OwnsSlots old.view.opened.sizes (λ value. value) (change kept) cells new.now
