-- Open writes: those of a pass's calls that device faults ended.
use Rattle.std.specs.Prelude.{◌≡◌, ℕ, ◌==◌, ◌||◌, nat_lt, Bool, List, [], ◌∷◌, ◌++◌, map, filter, Option, Some}
use Rattle.std.specs.List.{list_any}
use Rattle.nv_plain.specs.declared.call.FileCall.{FileCall}
use Rattle.nv_core.specs.state.Passes.{Fault}
use Rattle.nv_table.specs.state.States.{PassState}
use Rattle.nv_mount.specs.WholeWrites.{kept_writes}
use Rattle.nv_mount.specs.declared.fds.Fd.{Fd}
use Rattle.nv_mirror.specs.declared.answers.Refusal.{Refusal}
use Rattle.nv_mirror.specs.declared.answers.Refusal.TheVariants.{RegionFault, StoreFault}
use Rattle.nv_calls.specs.histories.Faults.{OpenWrite, open_in, open_writes}
use Rattle.nv_calls.specs.histories.Heeds.{HasSeenStop}
use Rattle.nv_runner.specs.declared.answer.Answer.{Answer}
use Rattle.nv_runner.specs.declared.answer.Answer.TheVariants.{Refused, Open}
use Rattle.nv_runner.specs.Calls.{opened_by}
use Rattle.nv_runner.specs.Lists.{AreMade, MadeCall}

-- what a write without a place is answered, where its pass's last open write has this number, if it has one
abbrev pub without_place : Refusal → (drawn : Option ℕ) → Answer
without_place RegionFault (Some number) = Open number
without_place StoreFault (Some number) = Open number
without_place refusal drawn = Refused refusal

-- A pass keeps the open writes that it had, and no other; and where it knew that STOP is set it still does.
pub record KeepsFaults (old new : PassState) : Type 0 where
  pub opens : open_writes new ≡ open_writes old
  pub stays : HasSeenStop old → HasSeenStop new

-- those that the answers of some calls tell of, the last of them first
abbrev pub opened : List Fd → List MadeCall → List OpenWrite
opened fds [] = []
opened fds (m ∷ later) = opened fds later ++ opened_by fds m.call.call m.answer

-- The pass's open writes are those, in front of what it had before its calls, and no other.
abbrev pub OpenAreFaults : Type 0
OpenAreFaults =
    (fds : List Fd) (worker : Option ℕ) (made : List MadeCall) (start now : PassState) → AreMade fds worker made start now → open_writes now ≡ opened fds made ++ open_writes start

-- ---- what a power failure keeps of them

-- An open write is kept where its first number lies below the first one that recovery finds, or is among its groups.
abbrev pub is_kept_open : (first : ℕ) (groups : List ℕ) → OpenWrite → Bool
is_kept_open first groups write = nat_lt write.first first || list_any (λ leader. leader == write.first) groups

-- those of some open writes that are kept, as calls, in their order
abbrev pub kept_open : (first : ℕ) (groups : List ℕ) → List OpenWrite → List FileCall
kept_open first groups writes = map (λ write. write.call) (filter (is_kept_open first groups) writes)

-- The kept writes among some faults are those that are kept of the open ones among them.
abbrev pub KeptAreOpen : Type 0
KeptAreOpen = (first : ℕ) (groups : List ℕ) (faults : List Fault) → kept_writes first groups faults ≡ kept_open first groups (open_in faults)
