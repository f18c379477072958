-- Shapes: what each cell keeps, whatever its device tells.
use Rattle.std.specs.Prelude.{ℕ, ◌≤◌, List, Option, Some, None, length}
use Rattle.nv_core.specs.state.Words.{Word}
use Rattle.nv_core.specs.state.Values.{Buffer, Value, Bare, APart, AStore, ABuffer}
use Rattle.nv_core.specs.steps.Order.{Values}
use Rattle.nv_core.specs.steps.Events.{Event, after_run, IsRun}
use Rattle.nv_core.specs.steps.Opening.{Mount, IsMount, opening}

-- a buffer, if there is one, has at least a page
abbrev pub HasPageLength : (page : ℕ) → Option Buffer → Type 0
HasPageLength page None = Unit {0}
HasPageLength page (Some buffer) = page ≤ length buffer.bytes

-- Two values of one shape: nothing, two parts, two stores, or two places for a buffer, where the second buffer has at least a page.
abbrev pub HasShape : (page : ℕ) → (first now : Value) → Type 0
HasShape page Bare Bare = Unit {0}
HasShape page (APart one spares) (APart other spares_other) = Unit {0}
HasShape page (AStore one) (AStore other) = Unit {0}
HasShape page (ABuffer one) (ABuffer other) = HasPageLength page other
HasShape page first now = ⊥

-- each cell keeps what some values say, by its shape
abbrev pub HaveShapes : (page : ℕ) → (first now : Values) → Type 0
HaveShapes page first now = (cell : Word) → HasShape page (first cell) (now cell)

-- a cell keeps a store
abbrev pub IsStore : Value → Type 0
IsStore (AStore device) = Unit {0}
IsStore value = ⊥

-- After every run each cell keeps a value of the shape that it had at opening, where the buffers that the mount began with have a page each.
abbrev pub CellsKeepShapes : Type 0
CellsKeepShapes =
    (mount : Mount) (events : List Event)
    → IsMount mount → HaveShapes mount.sizes.page mount.values mount.values → IsRun mount.sizes (opening mount) events
    → HaveShapes mount.sizes.page mount.values (after_run mount.sizes (opening mount) events).values
