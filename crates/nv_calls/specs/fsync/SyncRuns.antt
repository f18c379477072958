-- Sync runs: by which steps of its own a pass comes to each answer, and what these found.
use Rattle.std.specs.Prelude.{◌≡◌, ◌≢◌, ℕ, ◌<◌, ◌≤◌, ◌^◌, List, Option, Some, None, option_map, Result, Ok, Err}
use Rattle.std.specs.List.{slice_get}
use Rattle.nv_plain.specs.declared.call.FileCall.TheVariants.{Sync}
use Rattle.nv_plain.specs.declared.call.Reply.TheVariants.{Done as Replied}
use Rattle.nv_core.specs.state.Words.{STOP, ORDER}
use Rattle.nv_core.specs.steps.Ops.{Load, Place}
use Rattle.nv_table.specs.steps.StepContracts.{Postcondition}
use Rattle.nv_table.specs.state.States.{PassState}
use Rattle.nv_mount.specs.declared.fds.Fd.{Fd}
use Rattle.nv_mirror.specs.declared.answers.Done.{Done}
use Rattle.nv_mirror.specs.declared.answers.Refusal.{Refusal}
use Rattle.nv_mirror.specs.declared.answers.Refusal.TheVariants.{BadFd, Stopped, Spent}

-- the file of a descriptor's number, if there is that descriptor
abbrev pub file_of_fd : List Fd → (fd : ℕ) → Option ℕ
file_of_fd fds fd = option_map (λ fd. fd.file) (slice_get fds fd)

-- The call began with a load of STOP, which found another number than 0.
pub record FoundStopped (file : ℕ) (old new : PassState) : Type 0 where
  pub found : ℕ
  pub stop : Postcondition old (Some (Sync file)) (Load STOP) found new
  pub set : found ≢ 0

-- The load of STOP found 0, and the load of ORDER then this number, which is used up.
pub record FoundSpent (file found : ℕ) (old new : PassState) : Type 0 where
  pub begun : PassState
  pub stop : Postcondition old (Some (Sync file)) (Load STOP) 0 begun
  pub order : Postcondition begun None (Load ORDER) found new
  pub spent : 2 ^ 60 ≤ found

-- The load of STOP found 0, the load of ORDER then a number that is not used up, and the third step took this place.
pub record TookPlace (file place : ℕ) (old new : PassState) : Type 0 where
  pub begun : PassState
  pub loaded : PassState
  pub found : ℕ
  pub stop : Postcondition old (Some (Sync file)) (Load STOP) 0 begun
  pub order : Postcondition begun None (Load ORDER) found loaded
  pub low : found < 2 ^ 60
  pub places : Postcondition loaded None (Place Replied) place new

-- The steps of an fsync of a file, or of no file, that was answered so. Where there is no file, none came.
abbrev pub IsSyncRun : Option ℕ → (old new : PassState) → Result Done Refusal → Type 0
IsSyncRun None old new (Err BadFd) = new ≡ old
IsSyncRun (Some file) old new (Err Stopped) = FoundStopped file old new
IsSyncRun (Some file) old new (Err (Spent found)) = FoundSpent file found old new
IsSyncRun (Some file) old new (Ok done) = TookPlace file done.place old new
IsSyncRun file old new result = ⊥
