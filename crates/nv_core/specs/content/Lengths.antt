-- Lengths: how the LENGTH of a file stands to its length after the history.
use Rattle.std.specs.Prelude.{◌≡◌, ℕ, ◌+◌, ◌<◌, ◌≤◌, List, length}
use Rattle.nv_plain.specs.Files.{Files, contents_of}
use Rattle.nv_core.specs.state.Words.{Sizes, LENGTH, SIZE}
use Rattle.nv_core.specs.state.Passes.{GrowLength, Pass, file_of, at_of, len_of, times}
use Rattle.nv_core.specs.state.Core.{Core}
use Rattle.nv_core.specs.steps.Events.{Event, after_run, IsRun}
use Rattle.nv_core.specs.steps.Opening.{Mount, IsMount, opening}
use Rattle.nv_core.specs.content.PagesAfter.{files_now}

-- the length of a file after the history
abbrev pub length_now : Files → Core → (file : ℕ) → ℕ
length_now opening core file = length (contents_of (files_now opening core) file)

-- a pass has placed a write that extends a file, and is to set its LENGTH
abbrev pub IsGrowing : Pass → (file : ℕ) → Type 0
IsGrowing pass file = (pass.control ≡ GrowLength) × (file_of pass.call ≡ file)

-- such a pass holds SIZE, and the file ends where its write does
pub record Extends (opening : Files) (core : Core) (number file : ℕ) : Type 0 where
  pub size : times (SIZE file) (core.passes number).owned ≡ 1
  pub ends : length_now opening core file ≡ at_of (core.passes number).call + len_of (core.passes number).call

-- LENGTH is at most the length after the history, and it is that length but while a pass is to set it.
pub record Lengths (sizes : Sizes) (opening : Files) (core : Core) : Type 0 where
  pub most : (file : ℕ) → file < sizes.files → core.words (LENGTH file) ≤ length_now opening core file
  pub is : (file : ℕ) → file < sizes.files → ((number : ℕ) → IsGrowing (core.passes number) file → ⊥) → core.words (LENGTH file) ≡ length_now opening core file
  pub extends : (number file : ℕ) → IsGrowing (core.passes number) file → Extends opening core number file

-- a mount's lengths are those of these files
pub record AreLengthsOf (files : Files) (mount : Mount) : Type 0 where
  pub count : length files.contents ≡ mount.sizes.files
  pub each : (file : ℕ) → file < mount.sizes.files → mount.lengths file ≡ length (contents_of files file)

-- After every run from the opening each LENGTH is that of its file after the history, but while a write has yet to say so. The stores may
-- tell nothing.
abbrev pub LengthsFollowTheHistory : Type 0
LengthsFollowTheHistory =
    (mount : Mount) (files : Files) (events : List Event) → IsMount mount → AreLengthsOf files mount
    → IsRun mount.sizes (opening mount) events → Lengths mount.sizes files (after_run mount.sizes (opening mount) events)
