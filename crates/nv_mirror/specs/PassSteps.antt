-- Pass steps: what a pass has done in a call, and what came of it.
use Rattle.std.specs.Prelude.{◌≡◌, ℕ, ◌+◌, ◌==◌, ◌^◌, nat_lt, nat_le, Bool, true, false, not, ◌&&◌, ◌||◌, if◌then◌else◌, List, [], ◌∷◌, Option, Some, None}
use Rattle.nv_plain.specs.declared.call.FileCall.{FileCall}
use Rattle.nv_core.specs.state.Words.{Sizes, Word, STOP, ORDER, HEAD, TAIL, STORE, ENTRY, PAGE, place}
use Rattle.nv_core.specs.state.Values.{CallEnding, Failed}
use Rattle.nv_core.specs.state.Passes.{first_page, end_page, page_count, is_write}
use Rattle.nv_core.specs.steps.Ops.{Op, Load, Take, Place, Stop, Draw}
use Rattle.nv_core.specs.invariant.Ownership.{is_among}
use Rattle.nv_core.specs.steps.Order.{Work}
use Rattle.nv_table.specs.steps.StepContracts.{Postcondition}
use Rattle.nv_table.specs.state.States.{PassState}
use Rattle.nv_mirror.specs.declared.answers.Refusal.{Refusal}
use Rattle.nv_mirror.specs.declared.answers.Refusal.TheVariants.{Busy, Stopped, Spent, Again, Raced, RegionFault, StoreFault}

-- a step that a pass has made: the call that it began, if it did, the device calls that lie before it, the kind, and what its word was found at
pub record PassStep : Type 0 where
  pub opens : Option FileCall
  pub works : List Work
  pub op : Op
  pub found : ℕ

-- a pass between two steps: what it owns may show device calls
pub record IsBetweenSteps (old new : PassState) : Type 0 where
  pub table : new.table ≡ old.table
  pub view : new.view ≡ old.view
  pub spare : new.spare ≡ old.spare

-- A pass has made this step, after these device calls.
pub record HasTaken (step : PassStep) (old new : PassState) : Type 0 where
  pub before : PassState
  pub between : IsBetweenSteps old before
  pub stepped : Postcondition before step.opens step.op step.found new
  pub works_are : stepped.works ≡ step.works

-- It has made these steps, the last of them first, and nothing else.
abbrev pub HasMade : List PassStep → (start now : PassState) → Type 0
HasMade [] start now = now ≡ start
HasMade (step ∷ earlier) start now = (middle : PassState) × HasMade earlier start middle × HasTaken step middle now

-- ---- why a call is refused

-- the first of two, if there is one
abbrev pub either_of : {T : Type 0} → Option T → Option T → Option T
either_of (Some one) other = Some one
either_of None other = other

-- the answer to a lock of the call that was found held
abbrev pub busy_at : Sizes → Word → (found : ℕ) → Option Refusal
busy_at sizes cell found = if found == 0 then None else Some (Busy (place sizes cell))

-- a page's lock is one of the call's, or a victim's
abbrev pub if_own : Sizes → FileCall → (page : ℕ) → Option Refusal → Option Refusal
if_own sizes call page refusal = if is_among (first_page sizes call) (end_page sizes call) page then refusal else None

-- the fault of a device: that of an entry's part, or of a store
abbrev pub fault_at : Word → Option Refusal
fault_at (STORE file) = Some StoreFault
fault_at (ENTRY slot) = Some RegionFault
fault_at cell = None

abbrev pub fault_by : Word → CallEnding → Option Refusal
fault_by cell (Failed came faults) = fault_at cell
fault_by cell ending = None

-- the first that failed among some device calls
abbrev pub fault_in : List Work → Option Refusal
fault_in [] = None
fault_in (work ∷ later) = either_of (fault_by work.cell work.ending) (fault_in later)

-- HEAD as some steps loaded it last, the last of them first
abbrev pub head_by : Op → (found head : ℕ) → ℕ
head_by (Load HEAD) found head = found
head_by op found head = head

abbrev pub head_in : List PassStep → ℕ
head_in [] = 0
head_in (step ∷ earlier) = head_by step.op step.found (head_in earlier)

-- a write is refused, unless there is room for it
abbrev pub unless_room : FileCall → (room : Bool) → Refusal → Option Refusal
unless_room call room refusal = if is_write call && not room then Some refusal else None

-- What a step refuses its call for, if it does, where this call loaded HEAD as it was: a lock that is found held, but that of a page which is no page of
-- the call, a victim's; STOP that is set, ORDER that is used up; of a write, HEAD that leaves too few numbers, TAIL so far below HEAD that its entries have
-- no room, HEAD that another write has moved since; and STOP is set after a device fault.
abbrev pub refused_by : Sizes → FileCall → (head : ℕ) → List Work → Op → (found : ℕ) → Option Refusal
refused_by sizes call head works (Take (PAGE page)) found = if found == 0 then None else if_own sizes call page (busy_at sizes (PAGE page) found)
refused_by sizes call head works (Take cell) found = busy_at sizes cell found
refused_by sizes call head works (Load STOP) found = if found == 0 then None else Some Stopped
refused_by sizes call head works (Load ORDER) found = if nat_lt found (2 ^ 60) then None else Some (Spent found)
refused_by sizes call head works (Load HEAD) found = unless_room call (nat_le (found + page_count sizes call) (2 ^ 60)) (Spent found)
refused_by sizes call head works (Load TAIL) found = unless_room call (nat_le (head + page_count sizes call) (found + sizes.entries)) (Again head found)
refused_by sizes call head works Draw found = if found == head then None else Some (Raced head found)
refused_by sizes call head works Stop found = fault_in works
refused_by sizes call head works op found = None

-- the first refusal among some steps, the last of them first
abbrev pub refusal_in : Sizes → FileCall → List PassStep → Option Refusal
refusal_in sizes call [] = None
refusal_in sizes call (step ∷ earlier) = either_of (refusal_in sizes call earlier) (refused_by sizes call (head_in earlier) step.works step.op step.found)

-- ---- the place that it takes

-- a step takes the place that it finds ORDER at
abbrev pub place_by : Op → (found : ℕ) → Option ℕ
place_by (Place reply) found = Some found
place_by op found = None

abbrev pub place_in : List PassStep → Option ℕ
place_in [] = None
place_in (step ∷ earlier) = either_of (place_in earlier) (place_by step.op step.found)

-- ---- a device fault

-- whether a step sets STOP, as a call does when one of its device calls has failed
abbrev pub is_stop : Op → Bool
is_stop Stop = true
is_stop op = false

abbrev pub stops_in : List PassStep → Bool
stops_in [] = false
stops_in (step ∷ earlier) = stops_in earlier || is_stop step.op

-- the fault for which a call is refused, if it is that of a device
abbrev pub device_fault : Option Refusal → Option Refusal
device_fault (Some RegionFault) = Some RegionFault
device_fault (Some StoreFault) = Some StoreFault
device_fault refusal = None

-- whether it is
abbrev pub is_fault : Option Refusal → Bool
is_fault (Some RegionFault) = true
is_fault (Some StoreFault) = true
is_fault refusal = false
