-- Open runs: what the calls come to that a run left open.
use Rattle.std.specs.Prelude.{◌≡◌, ℕ, List, [], IsPermutation, Option}
use Rattle.std.specs.List.{flat_map}
use Rattle.nv_plain.specs.Files.{Files}
use Rattle.nv_plain.specs.Images.{Image}
use Rattle.nv_plain.specs.Recovered.{recovered}
use Rattle.nv_plain.specs.Made.{after_calls}
use Rattle.nv_core.specs.state.Passes.{Fault}
use Rattle.nv_table.specs.state.States.{PassState}
use Rattle.nv_mount.specs.WholeWrites.{RecoversTo, faults_then}
use Rattle.nv_mount.specs.declared.fds.Fd.{Fd}
use Rattle.nv_calls.specs.fsync.SyncRuns.{file_of_fd}
use Rattle.nv_calls.specs.histories.Faults.{OpenWrite, open_in, open_writes}
use Rattle.nv_runner.specs.Calls.{fd_of, opened_on}
use Rattle.nv_runner.specs.Lists.{MadeCall}
use Rattle.nv_runner.specs.OpenWrites.{kept_open}
use Rattle.nv_runner.specs.Shifts.{HasRun}
use Rattle.nv_runner.specs.Sorted.{OpenedCall, opened_calls}

-- a call that was left open, as its pass keeps it: that of its descriptor's file
abbrev pub open_of : List Fd → OpenedCall → List OpenWrite
open_of fds one = opened_on (file_of_fd fds (fd_of one.call.call)) one.call.call one.number

-- The writes that faults ended in a run, in whatever pass, are the calls that were left open, each once, where pass 0 has none.
abbrev pub OpenInRun : Type 0
OpenInRun =
    (fds : List Fd) (worker : Option ℕ) (made : List MadeCall) (zero : PassState) → HasRun fds worker made zero → open_writes zero ≡ []
    → (left : List OpenedCall) → IsPermutation (opened_calls made) left → IsPermutation (flat_map (open_of fds) left) (open_in (faults_then zero.view))

-- ---- what a power failure makes of them

-- Where an image recovers to some files and then those of some faults that are kept, in any order, it recovers to those files and then those of the calls that were left open that are kept, in the order in
-- which they are listed.
abbrev pub LeftOpenAreKept : Type 0
LeftOpenAreKept =
    (fds : List Fd) (left : List OpenedCall) (faults : List Fault) (files : Files) (image : Image) (bytes : Files) → IsPermutation (flat_map (open_of fds) left) (open_in faults)
    → RecoversTo files faults image bytes
    → (recovered image bytes).files ≡ after_calls (kept_open (recovered image bytes).first (recovered image bytes).groups (flat_map (open_of fds) left)) files
