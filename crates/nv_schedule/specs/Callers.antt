-- Callers: the threads of a schedule, each with the calls that it has left, and its cleaner.
use Rattle.std.specs.Prelude.{◌≡◌, ◌≢◌, ℕ, Bool, true, false, List, [], ◌∷◌, ◌++◌, Option, Some, None, Result}
use Rattle.nv_core.specs.state.Words.{Sizes}
use Rattle.nv_table.specs.invariant.Drawn.{drawn_by}
use Rattle.nv_table.specs.invariant.Idle.{IsIdle}
use Rattle.nv_table.specs.state.States.{PassState}
use Rattle.nv_mount.specs.declared.fds.Fd.{Fd}
use Rattle.nv_op.specs.declared.kinds.Kind.{Kind}
use Rattle.nv_op.specs.declared.kinds.Kind.TheVariants.{Take}
use Rattle.nv_mirror.specs.declared.answers.Done.{Done}
use Rattle.nv_mirror.specs.declared.answers.Refusal.{Refusal}
use Rattle.nv_clean.specs.Answers.{HasEnded, IsBatchUnderWay}
use Rattle.nv_clean.specs.CleanSteps.{clean_kind}
use Rattle.nv_clean.specs.Cleaning.{CleanState, IsOpen}
use Rattle.nv_clean.specs.declared.batch.CleanRefusal.{CleanRefusal}
use Rattle.nv_clean.specs.declared.clean.Cleaned.{Cleaned}
use Rattle.nv_trace.specs.declared.trace_call.TraceCall.{TraceCall}
use Rattle.nv_trace.specs.declared.trace_call.TracedCall.{TracedCall}
use Rattle.nv_runner.specs.declared.answer.Answer.{Answer}
use Rattle.nv_runner.specs.Lists.{MadeCall}
use Rattle.nv_schedule.specs.declared.hand.Hand.{Hand}
use Rattle.nv_schedule.specs.Hands.{IsTrying, kind_at_first, kind_at_hand}
use Rattle.nv_schedule.specs.Tries.{IsTryOver, WereTried, answer_of, begins_anew}

-- ---- calls that are over

-- A call was answered so, by the last of its tries.
pub record IsAnsweredBy (fds : List Fd) (call : TraceCall) (start now : PassState) (answer : Answer) : Type 0 where
  pub begun : PassState
  pub tried : WereTried fds call start begun
  pub list : List ℕ
  pub result : Result Done Refusal
  pub over : IsTryOver fds call list begun now result
  pub for_good : begins_anew call result ≡ false
  pub answer_is : answer ≡ answer_of call list result (drawn_by now.view)

-- These calls were answered so, one behind the other: each from where the one before it had left the pass.
abbrev pub AreAnswered : List Fd → List MadeCall → (start now : PassState) → Type 0
AreAnswered fds [] start now = now ≡ start
AreAnswered fds (m ∷ later) start now = (middle : PassState) × IsAnsweredBy fds m.call.call start middle m.answer × AreAnswered fds later middle now

-- ---- a thread

-- the calls that it has left, its present one first; whether that has begun, by an advance, and what it has of it at hand; and what the others were answered
pub record ThreadState : Type 0 where
  pub left : List TracedCall
  pub begun : Bool
  pub hand : Option Hand
  pub made : List MadeCall

-- What its pass is at since the last of its calls was answered: nothing, where none is left; its present call, which begins with its next step or is under way, maybe behind tries after which it began anew.
abbrev pub IsAtCall : List Fd → List TracedCall → Option Hand → (last now : PassState) → Type 0
IsAtCall fds [] hand last now = (hand ≡ None) × (now ≡ last) × IsIdle now
IsAtCall fds (call ∷ later) None last now = WereTried fds call.call last now × IsIdle now
IsAtCall fds (call ∷ later) (Some hand) last now = (begun : PassState) × WereTried fds call.call last begun × IsTrying fds call.call hand begun now

-- What has come of its present call behind one more advance: it goes on, or begins anew with the next step; or it was answered, and the pass is idle.
abbrev pub CallGoes : List Fd → TracedCall → (later : List TracedCall) → Option Hand → (last now : PassState) → Option Answer → Type 0
CallGoes fds call later hand last now None = IsAtCall fds (call ∷ later) hand last now
CallGoes fds call later hand last now (Some answer) = (hand ≡ None) × IsAnsweredBy fds call.call last now answer × IsIdle now

-- So it has come to where it is. Of a call that hasn't begun nothing was done.
pub record ThreadHasCome (fds : List Fd) (thread : ThreadState) (start now : PassState) : Type 0 where
  pub last : PassState
  pub made : AreAnswered fds thread.made start last
  pub at : IsAtCall fds thread.left thread.hand last now
  pub unbegun : thread.begun ≡ false → (thread.hand ≡ None) × (now ≡ last)

-- the kind of its next step, where it has a call left
abbrev pub kind_at_call : Sizes → TraceCall → Option Hand → Kind
kind_at_call sizes call None = kind_at_first call
kind_at_call sizes call (Some hand) = kind_at_hand sizes hand

abbrev pub next_of_calls : Sizes → List TracedCall → Option Hand → Option Kind
next_of_calls sizes [] hand = None
next_of_calls sizes (call ∷ later) hand = Some (kind_at_call sizes call.call hand)

-- Its present call was answered by an advance, and the next one hasn't begun; or not, and it has.
abbrev pub CallEnds : (answered : Bool) → (old new : ThreadState) → Type 0
CallEnds false old new = (new.left ≡ old.left) × (new.made ≡ old.made) × (new.begun ≡ true)
CallEnds true old new = (m : MadeCall) × (old.left ≡ m.call ∷ new.left) × (new.made ≡ old.made ++ m ∷ []) × (new.begun ≡ false)

-- ---- a cleaner

-- the most entries of its batches, and its present one, where that has begun
pub record BatchState : Type 0 where
  pub most : ℕ
  pub machine : Option CleanState

-- Some batches came one after another, the last of them first, and were answered so.
abbrev pub AreBatches : (most : ℕ) → List (Result Cleaned CleanRefusal) → (start now : PassState) → Type 0
AreBatches most [] start now = now ≡ start
AreBatches most (last ∷ earlier) start now = (middle : PassState) × AreBatches most earlier start middle × HasEnded most middle now last

abbrev pub IsAtBatch : (most : ℕ) → Option CleanState → (last now : PassState) → Type 0
IsAtBatch most None last now = (now ≡ last) × IsIdle now
IsAtBatch most (Some machine) last now = IsOpen machine.control × IsBatchUnderWay most machine last now

pub record CleanerHasCome (cleaner : BatchState) (start now : PassState) : Type 0 where
  pub results : List (Result Cleaned CleanRefusal)
  pub last : PassState
  pub batches : AreBatches cleaner.most results start last
  pub at : IsAtBatch cleaner.most cleaner.machine last now

abbrev pub kind_at_batch : Option CleanState → Kind
kind_at_batch None = Take
kind_at_batch (Some machine) = clean_kind machine

abbrev pub BatchEnds : (answered : Bool) → Option CleanState → Type 0
BatchEnds true machine = machine ≡ None
BatchEnds false machine = machine ≢ None
