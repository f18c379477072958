-- Clean steps: what a batch does next and what has come of it so far, and what one step of it is.
use Rattle.std.specs.Prelude.{◌≡◌, ℕ, ◌+◌, ◌==◌, nat_lt, Bool, true, false, not, ◌&&◌, ◌||◌, if◌then◌else◌, length, Option, Some, None}
use Rattle.nv_core.specs.state.Words.{Sizes, CLEANER, HEADER, STORE, CLEANUP, place}
use Rattle.nv_core.specs.state.Cleaner.{Batch, CleanerOp, TakeCleaner}
use Rattle.nv_core.specs.steps.Ops.{ByCleaner}
use Rattle.nv_core.specs.steps.CleanerSteps.{group_file, group_page, may_pass}
use Rattle.nv_table.specs.state.States.{PassState}
use Rattle.nv_op.specs.declared.kinds.Kind.{Kind}
use Rattle.nv_op.specs.declared.kinds.Kind.TheVariants.{Load, Take, Give, Hold, Return, Subtract, Free, Tail}
use Rattle.nv_op.specs.Kinds.{kind_of_op}
use Rattle.nv_mirror.specs.PassSteps.{PassStep, HasTaken, either_of}
use Rattle.nv_clean.specs.declared.batch.CleanControl.{CleanControl}
use Rattle.nv_clean.specs.declared.batch.CleanControl.TheVariants as cleans
use Rattle.nv_clean.specs.declared.batch.CleanRefusal.{CleanRefusal}
use Rattle.nv_clean.specs.declared.batch.CleanRefusal.TheVariants.{Idle, Busy, Stopped, RegionFault, StoreFault}
use Rattle.nv_clean.specs.Cleaning.{CleanState, IsEnd, calls_refusal}

-- ---- what comes next

-- the kind of its next step, where each device call before it ends well
abbrev pub kind_at : Batch → CleanControl → Kind
kind_at batch cleans.Begin = Take
kind_at batch cleans.TakeHeader = Take
kind_at batch cleans.LoadStop = Load
kind_at batch cleans.LoadTail = Load
kind_at batch cleans.LoadHead = Load
kind_at batch (cleans.LoadEntry at) = Load
kind_at batch (cleans.TakeCleanup at) = Take
kind_at batch cleans.TakeStore = Take
kind_at batch (cleans.HoldEntry at) = Hold
kind_at batch (cleans.WriteBack at) = if at + 1 == length batch.pages then Return else Hold
kind_at batch (cleans.CleanEntry at) = Return
kind_at batch (cleans.SubtractDirty at) = Subtract
kind_at batch (cleans.GiveCleanup at) = Give
kind_at batch (cleans.ReturnEntry at end) = Return
kind_at batch (cleans.ReturnFailed at end) = Return
kind_at batch (cleans.UndoCleanup at) = Give
kind_at batch cleans.Retire = Free
kind_at batch (cleans.FreeEntry number) = Free
kind_at batch cleans.AdvanceTail = Tail
kind_at batch (cleans.GiveStore file) = Give
kind_at batch cleans.GiveHeader = Give
kind_at batch cleans.GiveCleaner = Give
kind_at batch cleans.GiveBack = Give
kind_at batch cleans.Over = Load

abbrev pub clean_kind : CleanState → Kind
clean_kind m = kind_at m.batch m.control

-- ---- why it has cleaned nothing

-- a device has failed
abbrev pub is_fault : Option CleanRefusal → Bool
is_fault (Some RegionFault) = true
is_fault (Some StoreFault) = true
is_fault refusal = false

-- where its first group can't be cleaned: the first reason stays
abbrev pub first_refusal : Batch → (was : Option CleanRefusal) → CleanRefusal → Option CleanRefusal
first_refusal batch was refusal = either_of was (if batch.reached == batch.tail then Some refusal else None)

-- a lock was found held
abbrev pub unless_free : Batch → (was : Option CleanRefusal) → (found cell : ℕ) → Option CleanRefusal
unless_free batch was found cell = if found == 0 then was else first_refusal batch was (Busy cell)

-- what a step says of it that found this, by where it stood
abbrev pub refusal_at : Sizes → Batch → (was : Option CleanRefusal) → CleanControl → (found : ℕ) → Option CleanRefusal
refusal_at sizes batch was cleans.Begin found = unless_free batch was found (place sizes CLEANER)
refusal_at sizes batch was cleans.TakeHeader found = unless_free batch was found (place sizes HEADER)
refusal_at sizes batch was cleans.LoadStop found = if found == 0 then was else first_refusal batch was Stopped
refusal_at sizes batch was cleans.LoadHead found = if nat_lt batch.reached found then was else first_refusal batch was (Idle batch.tail)
refusal_at sizes batch was (cleans.LoadEntry at) found = if at == 0 && not (may_pass batch found) then first_refusal batch was (Idle batch.tail) else was
refusal_at sizes batch was (cleans.TakeCleanup at) found = unless_free batch was found (place sizes (CLEANUP (group_page batch at)))
refusal_at sizes batch was cleans.TakeStore found = unless_free batch was found (place sizes (STORE (group_file sizes batch)))
refusal_at sizes batch was control found = was

-- and the device calls before it
abbrev pub refusal_then : Sizes → CleanState → (calls : Option CleanRefusal) → (found : ℕ) → Option CleanRefusal
refusal_then sizes m None found = refusal_at sizes m.batch m.refusal m.control found
refusal_then sizes m (Some RegionFault) found = Some RegionFault
refusal_then sizes m (Some StoreFault) found = Some StoreFault
refusal_then sizes m (Some refusal) found = first_refusal m.batch m.refusal refusal

-- ---- a step

-- Its pass has made one step, behind the device calls that lie before it: the take of CLEANER, where it had made none. It was of the kind that was said, where each of
-- these calls has ended well. Why it cleaned nothing, if it did, follows from what the step found, and from how those calls ended; and a device has failed where one had
-- before, or at one of them. What it has cleaned is told to its end.
pub record HasMadeOne (sizes : Sizes) (m next : CleanState) (old new : PassState) : Type 0 where
  pub step : PassStep
  pub taken : HasTaken step old new
  pub opens : step.opens ≡ None
  pub op : CleanerOp
  pub op_is : step.op ≡ ByCleaner op
  pub begins : m.control ≡ cleans.Begin → op ≡ TakeCleaner m.batch.most
  pub kind : calls_refusal step.works ≡ None → kind_of_op step.op ≡ clean_kind m
  pub refusal : next.refusal ≡ refusal_then sizes m (calls_refusal step.works) step.found
  pub fault : is_fault next.refusal ≡ (is_fault m.refusal || is_fault (calls_refusal step.works))
  pub ends : IsEnd m.control → next.batch ≡ m.batch

-- It has made a step of this kind, behind device calls that ended so.
pub record HasSteppedBehind (kind : Kind) (refusal : Option CleanRefusal) (was now : PassState) : Type 0 where
  pub step : PassStep
  pub taken : HasTaken step was now
  pub opens : step.opens ≡ None
  pub op : CleanerOp
  pub op_is : step.op ≡ ByCleaner op
  pub kind_is : kind_of_op step.op ≡ kind
  pub refused : calls_refusal step.works ≡ refusal
