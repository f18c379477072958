-- Refusals of writes: what one that is refused tells of HEAD, of TAIL and of stores, and what it is refused for while no other pass is out.
use Rattle.std.specs.Prelude.{ℕ, ◌<◌, ◌≤◌, ◌≡◌, List, length, Result, Err}
use Rattle.nv_plain.specs.declared.call.FileCall.{FileCall}
use Rattle.nv_core.specs.state.Passes.{Pass}
use Rattle.nv_core.specs.steps.Opening.{IsMount}
use Rattle.nv_table.specs.invariant.BetweenSteps.{KnowsTaken}
use Rattle.nv_table.specs.passes.Alone.{IsAlone}
use Rattle.nv_table.specs.passes.Known.{known_by}
use Rattle.nv_table.specs.state.Opened.{mount_of}
use Rattle.nv_table.specs.state.States.{PassState}
use Rattle.nv_mount.specs.declared.fds.Fd.{Fd}
use Rattle.nv_mirror.specs.declared.answers.Done.{Done}
use Rattle.nv_mirror.specs.declared.answers.Refusal.{Refusal}
use Rattle.nv_mirror.specs.declared.answers.Refusal.TheVariants.{Busy, Again, Raced, StoreFault}
use Rattle.nv_calls.specs.calls.Asks.{IsMadeAsWrite}
use Rattle.nv_calls.specs.writes.Writes.{IsWriteOver, IsWriteOverAs}

-- Where another write drew its numbers HEAD has risen, from no lower than it was known; a full log shows HEAD and TAIL no lower than they were known; and no store has failed, since a write calls none.
abbrev pub IsWriteRefusal : (known : Pass) → Result Done Refusal → Type 0
IsWriteRefusal known (Err (Raced seen found)) = (known.head ≤ seen) × (seen < found)
IsWriteRefusal known (Err (Again head tail)) = (known.head ≤ head) × (known.tail ≤ tail)
IsWriteRefusal known (Err StoreFault) = ⊥
IsWriteRefusal known result = Unit {0}

-- No lock was found held, and no other write drew its numbers.
abbrev pub MeetsNobody : Result Done Refusal → Type 0
MeetsNobody (Err (Busy cell)) = ⊥
MeetsNobody (Err (Raced seen found)) = ⊥
MeetsNobody result = Unit {0}

-- ---- laws: so is each write that is over, whatever made its steps, and whatever it was asked as

abbrev pub WritesTellWhatIsKnownAs : Type 0
WritesTellWhatIsKnownAs =
    (asks : (file : ℕ) → FileCall) (fds : List Fd) (fd at : ℕ) (bytes : List ℕ) (start now : PassState) (result : Result Done Refusal)
    → IsMadeAsWrite asks at bytes → IsMount (mount_of start.view.opened) → (start.view.number ≡ 0 → KnowsTaken start.view) → IsWriteOverAs asks fds fd at (length bytes) start now result
    → IsWriteRefusal (known_by start.view) result

abbrev pub WritesTellWhatIsKnown : Type 0
WritesTellWhatIsKnown =
    (fds : List Fd) (fd at : ℕ) (bytes : List ℕ) (start now : PassState) (result : Result Done Refusal)
    → IsMount (mount_of start.view.opened) → (start.view.number ≡ 0 → KnowsTaken start.view) → IsWriteOver fds fd at bytes start now result → IsWriteRefusal (known_by start.view) result

-- and, of pass 0, while no other pass is out
abbrev pub WritesAloneMeetNobodyAs : Type 0
WritesAloneMeetNobodyAs =
    (asks : (file : ℕ) → FileCall) (fds : List Fd) (fd at : ℕ) (bytes : List ℕ) (start now : PassState) (result : Result Done Refusal)
    → IsMadeAsWrite asks at bytes → IsMount (mount_of start.view.opened) → KnowsTaken start.view → IsAlone start.view → IsWriteOverAs asks fds fd at (length bytes) start now result → MeetsNobody result

abbrev pub WritesAloneMeetNobody : Type 0
WritesAloneMeetNobody =
    (fds : List Fd) (fd at : ℕ) (bytes : List ℕ) (start now : PassState) (result : Result Done Refusal)
    → IsMount (mount_of start.view.opened) → KnowsTaken start.view → IsAlone start.view → IsWriteOver fds fd at bytes start now result → MeetsNobody result
