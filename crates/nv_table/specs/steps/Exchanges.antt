-- Exchanges: what a pass owns, when one of its slots gets something else.
use Rattle.std.specs.Prelude.{◌≡◌, ◌≢◌, ℕ, List}
use Rattle.nv_core.specs.state.Values.{Value}
use Rattle.nv_core.specs.state.Passes.{IsOneOf}
use Rattle.nv_table.specs.state.Views.{slot_times}
use Rattle.nv_table.specs.state.States.{PassState}

-- One slot held something, and something else comes into it; the others stay.
pub record IsExchanged (slot : ℕ) (out into : Value) (old new : List (ℕ × Value)) : Type 0 where
  pub was : IsOneOf old (slot, out)
  pub here : (value : Value) → IsOneOf new (slot, value) → value ≡ into
  pub times_same : (other : ℕ) → slot_times other new ≡ slot_times other old
  pub others : (other : ℕ) (value : Value) → other ≢ slot → IsOneOf new (other, value) → IsOneOf old (other, value)

-- a pass of which no more than that changes
pub record Exchanges (slot : ℕ) (out into : Value) (old new : PassState) : Type 0 where
  pub table : new.table ≡ old.table
  pub view : new.view ≡ old.view
  pub slots : IsExchanged slot out into old.now new.now
  pub spare : new.spare ≡ old.spare
