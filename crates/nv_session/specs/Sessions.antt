-- Sessions: a pass and its workspace over one mount, between two calls.
use Rattle.std.specs.Prelude.{◌≡◌, ◌≢◌, true, [], length}
use Rattle.nv_bench.specs.Benches.{BenchState}
use Rattle.nv_table.specs.invariant.Idle.{IsIdle}
use Rattle.nv_table.specs.passes.Alone.{IsAlone}
use Rattle.nv_table.specs.state.States.{IsOf, PassState}
use Rattle.nv_table.specs.state.Workspaces.{IsWorkspace, WorkspaceState}
use Rattle.nv_mount.specs.Mounts.{MountState}

-- What each call asks: the pass is of the mount and between two calls, and the workspace is of the mount's sizes, with nothing on it.
pub record IsReady {L B : Type 0} (mount : MountState) (pass : PassState) (workspace : WorkspaceState L B) : Type 0 where
  pub board : IsOf mount.board pass
  pub idle : IsIdle pass
  pub workspace_is : IsWorkspace mount.board.opened.sizes workspace
  pub bare : workspace.parts.items ≡ []

-- A thread's session is of the mount that its type names, by a pass that pass 0 made.
pub record IsSession {L B : Type 0} (named mount : MountState) (pass : PassState) (workspace : WorkspaceState L B) : Type 0 where
  pub same : mount ≡ named
  pub ready : IsReady mount pass workspace
  pub other : pass.view.number ≢ 0

-- the first thread's session: what its bench has lent, its mount, and pass 0
pub record FirstState : Type 0 where
  pub bench : BenchState
  pub mount : MountState
  pub pass : PassState

-- No other pass is out, and the bench has lent the region and one store for each file.
pub record IsFirst {L B : Type 0} (bench : BenchState) (mount : MountState) (pass : PassState) (workspace : WorkspaceState L B) : Type 0 where
  pub ready : IsReady mount pass workspace
  pub alone : IsAlone pass.view
  pub open_is : bench.is_open ≡ true
  pub lent : length bench.lent ≡ mount.board.opened.sizes.files

-- the mount that a type names where no call has picked one
abbrev pub no_mount : MountState
no_mount = record {
  board = record {
    table = record { words = 0; slots = 0; views_name = 0; atom = 0; block = 0; offset = 0; slot_names = [] };
    opened = record { sizes = record { page = 0; files = 0; pages = 0; entries = 0; buffers = 0 }; next = 0; lengths = []; slots = [] };
  };
  fds = [];
}
