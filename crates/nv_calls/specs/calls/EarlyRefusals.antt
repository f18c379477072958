-- Early refusals: reads and writes that are refused before their first step, by what they ask for alone.
use Rattle.std.specs.Prelude.{◌≡◌, ℕ, ◌+◌, ◌*◌, ◌<◌, ◌≤◌, Bool, nat_lt, min, if◌then◌else◌, List, Option, Some, None, Result, Ok, Err}
use Rattle.std.specs.List.{slice_get}
use Rattle.nv_plain.specs.Layouts.{mount_layout}
use Rattle.nv_plain.specs.Pieces.{pages_touched}
use Rattle.nv_plain.specs.declared.mode.Mode.{Mode}
use Rattle.nv_core.specs.state.Words.{Sizes}
use Rattle.nv_mount.specs.declared.fds.Fd.{Fd}
use Rattle.nv_mirror.specs.declared.answers.Refusal.{Refusal}
use Rattle.nv_mirror.specs.declared.answers.Refusal.TheVariants.{BadFd, TooFar, TooLong}
use Rattle.nv_calls.specs.fsync.SyncRuns.{file_of_fd}

-- It ends past the last page of a file, or touches more pages than a group has entries.
abbrev pub early_range_refusal : Sizes → (at len : ℕ) → Option Refusal
early_range_refusal sizes at len =
    if nat_lt (sizes.page * sizes.pages) (at + len) then Some TooFar
    else (if nat_lt (min mount_layout.group_limit sizes.entries) (pages_touched at len sizes.page) then Some TooLong
    else None)

-- A range that is not refused so lies in a file, and touches no more pages than a group has entries.
pub record IsInRange (sizes : Sizes) (at len : ℕ) : Type 0 where
  pub early : early_range_refusal sizes at len ≡ None
  pub near : at + len ≤ sizes.page * sizes.pages
  pub short : pages_touched at len sizes.page ≤ min mount_layout.group_limit sizes.entries

abbrev pub RangeIsAdmitted : Sizes → (at len : ℕ) → Result (Unit {0}) Refusal → Type 0
RangeIsAdmitted sizes at len (Ok done) = IsInRange sizes at len
RangeIsAdmitted sizes at len (Err refusal) = early_range_refusal sizes at len ≡ Some refusal

-- There is no such descriptor, or it was not opened for such a call; or else its range is refused.
abbrev pub early_fd_refusal : (may : Mode → Bool) → Sizes → Option Fd → (at len : ℕ) → Option Refusal
early_fd_refusal may sizes None at len = Some BadFd
early_fd_refusal may sizes (Some one) at len = if may one.mode then early_range_refusal sizes at len else Some BadFd

abbrev pub early_refusal : (may : Mode → Bool) → Sizes → List Fd → (fd at len : ℕ) → Option Refusal
early_refusal may sizes fds fd at len = early_fd_refusal may sizes (slice_get fds fd) at len

-- There is such a file, it has room for so many bytes, and these touch no more pages than a group has entries.
pub record IsInFile (sizes : Sizes) (file at len : ℕ) : Type 0 where
  pub known : file < sizes.files
  pub near : at + len ≤ sizes.page * sizes.pages
  pub short : pages_touched at len sizes.page ≤ min mount_layout.group_limit sizes.entries

-- ---- the test

-- A call that is not refused so is one of its descriptor's file, within what the core allows.
pub record IsAdmitted (may : Mode → Bool) (sizes : Sizes) (fds : List Fd) (fd at len file : ℕ) : Type 0 where
  pub early : early_refusal may sizes fds fd at len ≡ None
  pub file_is : file_of_fd fds fd ≡ Some file
  pub known : file < sizes.files
  pub near : at + len ≤ sizes.page * sizes.pages
  pub short : pages_touched at len sizes.page ≤ min mount_layout.group_limit sizes.entries

abbrev pub Admits : (may : Mode → Bool) → Sizes → List Fd → (fd at len : ℕ) → Result ℕ Refusal → Type 0
Admits may sizes fds fd at len (Ok file) = IsAdmitted may sizes fds fd at len file
Admits may sizes fds fd at len (Err refusal) = early_refusal may sizes fds fd at len ≡ Some refusal
