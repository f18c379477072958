-- Workspace lends: what a workspace ends as, where a part of it was lent.
use Rattle.std.specs.Prelude.{ℕ, List}
use Rattle.std.specs.Borrow.{Lends, MutBor, Fml, RattleType, Array, u8}
use Rattle.std.specs.Global.{Vec}
use Rattle.std.specs.Vec.{with_items}
use Rattle.std.specs.contracts.alloc.Global as global
use Rattle.std.specs.contracts.impls.GlobalAllocator.TheImpl.{ghosts}
use Rattle.std.specs.contracts.vec.Vec as vec
use Rattle.nv_table.specs.state.Workspaces.{WorkspaceState}
use Rattle.nv_table.specs.contracts.workspace.Workspace.{the_row}

-- vectors, as the logic holds them
abbrev pub vec_row : RattleType → RattleType
vec_row T = vec.the_row T global.the_row ghosts

module _ (L B : RattleType) (workspace : MutBor (WorkspaceState L.Denot B.Denot)) where
  -- the bytes that were last written lie on it, and all else stays
  abbrev pub LendsPage : MutBor (List ℕ) → Fml
  LendsPage r = Lends (the_row L B) (Array u8 0) workspace r (λ bytes. record workspace.now { page = with_items workspace.now.page bytes })

  abbrev pub LendsPiece : MutBor (List ℕ) → Fml
  LendsPiece r = Lends (the_row L B) (Array u8 0) workspace r (λ bytes. record workspace.now { piece = with_items workspace.now.piece bytes })

  -- the devices that it was left with
  abbrev pub LendsParts : MutBor (Vec L.Denot) → Fml
  LendsParts r = Lends (the_row L B) (vec_row L) workspace r (λ parts. record workspace.now { parts = parts })

  abbrev pub LendsStores : MutBor (Vec B.Denot) → Fml
  LendsStores r = Lends (the_row L B) (vec_row B) workspace r (λ stores. record workspace.now { stores = stores })
