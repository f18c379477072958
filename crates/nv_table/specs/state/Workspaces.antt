-- Workspaces: the memory that a pass's calls work in.
use Rattle.std.specs.Prelude.{◌≡◌, ℕ, ◌≤◌, length, min, vec_capacity}
use Rattle.std.specs.Global.{Vec}
use Rattle.nv_plain.specs.Layouts.{mount_layout}
use Rattle.nv_core.specs.state.Words.{Sizes}

-- what lies on one: a page, a piece of an entry, and devices that are out of their slots
pub record WorkspaceState (L B : Type 0) : Type 0 where
  pub page : Vec ℕ
  pub piece : Vec ℕ
  pub parts : Vec L
  pub stores : Vec B

-- It has room for a mount's: a page, a piece, the parts of a group's entries and all stores.
pub record IsWorkspace {L B : Type 0} (sizes : Sizes) (workspace : WorkspaceState L B) : Type 0 where
  pub page : length workspace.page.items ≡ sizes.page
  pub piece : length workspace.piece.items ≡ sizes.page
  pub parts : min mount_layout.group_limit sizes.entries ≤ vec_capacity workspace.parts
  pub stores : sizes.files ≤ vec_capacity workspace.stores
