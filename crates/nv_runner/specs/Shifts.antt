-- Shifts: what one pass did for a thread in a round, from its making until it was taken in.
use Rattle.std.specs.Prelude.{◌≡◌, ◌≢◌, ◌⊎◌, ℕ, ◌<◌, ◌==◌, List, [], ◌∷◌, map, filter, All, IsPermutation, Option}
use Rattle.std.specs.List.{flat_map}
use Rattle.std.specs.List.Sorted.{IsStrictlyIncreasing}
use Rattle.nv_core.specs.state.Passes.{IsOneOf}
use Rattle.nv_core.specs.steps.Events.{own}
use Rattle.nv_core.specs.invariant.OneHistory.{IsPrefix}
use Rattle.nv_table.specs.invariant.Idle.{IsIdle}
use Rattle.nv_table.specs.passes.Seats.{past_of}
use Rattle.nv_table.specs.state.Opened.{Opened}
use Rattle.nv_table.specs.state.States.{PassState}
use Rattle.nv_table.specs.state.Views.{pass_of}
use Rattle.nv_mount.specs.declared.fds.Fd.{Fd}
use Rattle.nv_mirror.specs.Answers.{IsUnplaced}
use Rattle.nv_calls.specs.histories.Faults.{open_writes}
use Rattle.nv_trace.specs.declared.trace_call.TracedCall.{TracedCall}
use Rattle.nv_runner.specs.Lists.{AreMade, MadeCall}
use Rattle.nv_runner.specs.OpenWrites.{KeepsFaults}
use Rattle.nv_runner.specs.Runs.{GoesOn}
use Rattle.nv_runner.specs.Tries.{HasRunBatches}

-- the calls of a thread among some
abbrev pub calls_of_thread : (thread : ℕ) → List TracedCall → List TracedCall
calls_of_thread thread calls = filter (λ call. call.thread == thread) calls

-- the calls of a round among some
abbrev pub calls_of_round : (round : ℕ) → List TracedCall → List TracedCall
calls_of_round round calls = filter (λ call. call.round == round) calls

-- the calls that a pass made, and how it stood before the first of them and when it was taken in
pub record Shift : Type 0 where
  pub made : List MadeCall
  pub start : PassState
  pub now : PassState

-- It was fresh, and no event of its pass came before it; it made these calls one behind the other, and is idle. It did nothing behind the last of them; one that made none, as the cleaner, may have run batches, and did
-- nothing else: these placed nothing and drew nothing, and left the writes that faults had ended.
pub record IsShift (fds : List Fd) (worker : Option ℕ) (opened : Opened) (shift : Shift) : Type 0 where
  pub mount : shift.start.view.opened ≡ opened
  pub fresh : (pass_of shift.start.view).mine ≡ []
  pub unborn : own shift.start.view.number shift.start.view.run ≡ []
  pub unfailed : open_writes shift.start ≡ []
  pub last : PassState
  pub made : AreMade fds worker shift.made shift.start last
  pub behind : (shift.made ≡ []) ⊎ (shift.now ≡ last)
  pub batches : HasRunBatches worker last shift.now
  pub quiet : IsUnplaced last.view shift.now.view
  pub on : GoesOn worker 0 last shift.now
  pub keeps : KeepsFaults last shift.now
  pub number : shift.now.view.number ≡ shift.start.view.number
  pub still_mount : shift.now.view.opened ≡ opened
  pub idle : IsIdle shift.now
  pub in_lines : IsStrictlyIncreasing (map (λ m. m.call.line) shift.made)

-- A shift comes behind another one: its calls are of later rounds, and it began with all that the other had seen, in a run behind the other's; or the two are of two threads in one round.
abbrev pub ComesBehind : (later earlier : Shift) → Type 0
ComesBehind later earlier =
    (a b : MadeCall) → IsOneOf later.made a → IsOneOf earlier.made b
    → ((b.call.round < a.call.round) × IsPrefix (pass_of earlier.now.view).seen (pass_of later.start.view).seen × IsPrefix earlier.now.view.run later.start.view.run) ⊎ ((a.call.round ≡ b.call.round) × (a.call.thread ≢ b.call.thread))

-- each shift comes behind those that are listed after it
abbrev pub AreInOrder : List Shift → Type 0
AreInOrder [] = Unit {0}
AreInOrder (later ∷ earlier) = All (ComesBehind later) earlier × AreInOrder earlier

-- The calls that were made are those of some shifts, all of which pass 0 has taken in, the last one first, and no other.
pub record HasRun (fds : List Fd) (worker : Option ℕ) (made : List MadeCall) (zero : PassState) : Type 0 where
  pub shifts : List Shift
  pub pasts : map (λ shift. past_of shift.now.view) shifts ≡ zero.view.ended
  pub each : All (IsShift fds worker zero.view.opened) shifts
  pub in_order : AreInOrder shifts
  pub listed : IsPermutation made (flat_map (λ shift. shift.made) shifts)
