-- Works: what threads do at the same time, each by a session of its own.
use Rattle.std.specs.Prelude.{◌≡◌, List, ◌++◌, map, reverse, All}
use Rattle.nv_table.specs.passes.Seats.{past_of}
use Rattle.nv_table.specs.state.States.{PassState}
use Rattle.nv_table.specs.state.Views.{Past}
use Rattle.nv_mount.specs.Mounts.{MountState}
use Rattle.nv_runner.specs.Workers.{IsNewcomer}

-- a thread's session and its work, while it is out
pub record SeatState (W : Type 0) : Type 0 where
  pub session : PassState
  pub work : W

-- The work says this of what it has done.
abbrev pub HasDone : {W : Type 0} → (does : MountState → W → W → PassState → PassState → Type 0) → MountState → (old new : SeatState W) → Type 0
HasDone does mount old new = does mount old.work new.work old.session new.session

-- one work that was done: what it was and what it came to, and its session's pass at first and at last
pub record Shift (W : Type 0) : Type 0 where
  pub before : W
  pub after : W
  pub start : PassState
  pub last : PassState

-- Its pass was new, and began with all that those had seen which pass 0 had taken in; and the work says this of it.
pub record IsShift {W : Type 0} (does : MountState → W → W → PassState → PassState → Type 0) (mount : MountState) (ended : List Past) (shift : Shift W) : Type 0 where
  pub newcomer : IsNewcomer mount.board.opened ended shift.start
  pub did : does mount shift.before shift.after shift.start shift.last

-- Each of some works was done by a session of its own, all at the same time. Pass 0 has taken in the passes with which they ended, in the order of the works; the last one stands first.
pub record HaveWorked {W : Type 0} (does : MountState → W → W → PassState → PassState → Type 0) (mount : MountState) (works done : List W) (old new : PassState) : Type 0 where
  pub shifts : List (Shift W)
  pub each : All (IsShift does mount old.view.ended) shifts
  pub works_are : works ≡ reverse (map (λ shift. shift.before) shifts)
  pub done_are : done ≡ reverse (map (λ shift. shift.after) shifts)
  pub ended : new.view.ended ≡ map (λ shift. past_of shift.last.view) shifts ++ old.view.ended
