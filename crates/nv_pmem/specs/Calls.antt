-- Calls: what calls of devices make of what is seen of them, one after another. Each may fail, and then no other comes.
use Rattle.std.specs.Prelude.{◌≡◌, ◌⊎◌, ℕ, ◌<◌, List, [], ◌∷◌, ◌++◌, length, slice_index_or, slice_set, Result, OnOk, OnErr}
use Rattle.nv_plain.specs.Faults.{Rose}
use Rattle.nv_pmem.specs.Room.{Room}
use Rattle.nv_pmem.specs.RoomSteps.{IsOnLine, RoomAfter, RoomAfterFault}
use Rattle.nv_pmem.specs.Rows.{RowStep}
use Rattle.nv_pmem.specs.Runs.{grown}
use Rattle.nv_pmem.specs.Steps.{LineStep, PartHistory, after_line_step}

-- ---- what is seen of a part, and how one call of it ends

-- the states that it has had, the room of its lines, and how often it has failed
pub record Seen : Type 0 where
  pub history : PartHistory
  pub room : Room
  pub faults : ℕ

abbrev pub seen_of : {P : Type 0} → (P → PartHistory) → (P → Room) → (P → ℕ) → P → Seen
seen_of history room faults part = record { history = history part; room = room part; faults = faults part }

-- It ended well: its step was made, on a line that is there, and no fault was counted.
pub record EndedWell (step : LineStep) (old new : Seen) : Type 0 where
  pub line : IsOnLine step old.room
  pub history : new.history ≡ grown after_line_step step old.history
  pub room : RoomAfter step old.room new.room
  pub faults : new.faults ≡ old.faults

-- It failed: its step was made or not, and the part's count of faults rose.
pub record EndedBadly (step : LineStep) (old new : Seen) : Type 0 where
  pub history : (new.history ≡ old.history) ⊎ (new.history ≡ grown after_line_step step old.history)
  pub room : RoomAfterFault step old.room new.room
  pub faults : Rose old.faults new.faults

-- A call on one part of a row: every other part is as it was.
pub record OnOne (One : LineStep → Seen → Seen → Type 0) (call : RowStep) (old new : List Seen) : Type 0 where
  pub was : Seen
  pub now : Seen
  pub there : call.part < length old
  pub before : slice_index_or old call.part was ≡ was
  pub after : new ≡ slice_set old call.part now
  pub one : One call.step was now

-- ---- several calls

-- one after another, each ended in one way
abbrev pub Through : {T S : Type 0} → (T → S → S → Type 0) → List T → (old new : S) → Type 0
Through One [] old new = new ≡ old
Through {S = S} One (call ∷ calls) old new = (next : S) × One call old next × Through One calls next new

pub record EachEnded {T S : Type 0} (One : T → S → S → Type 0) (calls : List T) (old new : S) : Type 0 where
  pub each : Through One calls old new

-- The first so many ended well, the next one failed, and the rest never came.
pub record OneFailed {T S : Type 0} (Well Badly : T → S → S → Type 0) (calls : List T) (old new : S) : Type 0 where
  pub made : List T
  pub failed : T
  pub rest : List T
  pub are : calls ≡ made ++ failed ∷ rest
  pub between : S
  pub before : EachEnded Well made old between
  pub last : Badly failed between new

-- How calls ended, by the answer that came: all of them well, or one badly.
pub record CallsEnded {T S A E : Type 0} (Well Badly : T → S → S → Type 0) (calls : List T) (old new : S) (result : Result A E) : Type 0 where
  pub well : OnOk result (EachEnded Well calls old new)
  pub failed : OnErr result (OneFailed Well Badly calls old new)

-- the calls of a part, and those of a row
abbrev pub PartCalls : {A E : Type 0} → List LineStep → (old new : Seen) → Result A E → Type 0
PartCalls steps old new result = CallsEnded EndedWell EndedBadly steps old new result

abbrev pub RowCalls : {A E : Type 0} → List RowStep → (old new : List Seen) → Result A E → Type 0
RowCalls calls old new result = CallsEnded (OnOne EndedWell) (OnOne EndedBadly) calls old new result
