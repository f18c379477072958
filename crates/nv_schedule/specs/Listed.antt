-- Listed: the calls that a thread has begun, with what a schedule tells of them.
use Rattle.std.specs.Prelude.{ℕ, Bool, true, false, List, [], ◌∷◌, ◌++◌, take, Option, Some, None}
use Rattle.nv_plain.specs.Calls.{filled}
use Rattle.nv_plain.specs.declared.call.Reply.{Reply}
use Rattle.nv_plain.specs.declared.call.Reply.TheVariants as replies
use Rattle.nv_table.specs.invariant.Drawn.{drawn_by}
use Rattle.nv_mirror.specs.declared.answers.Done.{Done}
use Rattle.nv_mirror.specs.declared.front.FrontMachine.{FrontMachine}
use Rattle.nv_mirror.specs.Fronts.{front_refusal_at}
use Rattle.nv_mirror.specs.PassSteps.{either_of, is_fault}
use Rattle.nv_ring.specs.declared.write.RunningWrite.TheVariants.{Front, Append, Release}
use Rattle.nv_calls.specs.declared.writing.WriteControl.{WriteControl}
use Rattle.nv_calls.specs.declared.writing.WriteControl.TheVariants.{Running}
use Rattle.nv_calls.specs.fsync.SyncMachines as syncs
use Rattle.nv_calls.specs.reads.ReadMachines as reads
use Rattle.nv_calls.specs.writes.WriteMachines as writes
use Rattle.nv_trace.specs.declared.trace_call.TracedCall.{TracedCall}
use Rattle.nv_runner.specs.declared.answer.Answer.{Answer}
use Rattle.nv_runner.specs.declared.answer.Answer.TheVariants.{Placed, Open}
use Rattle.nv_runner.specs.Lists.{MadeCall}
use Rattle.nv_schedule.specs.Callers.{ThreadState}
use Rattle.nv_schedule.specs.Turns.{CallerState}
use Rattle.nv_schedule.specs.declared.caller.Work.{Work}
use Rattle.nv_schedule.specs.declared.caller.Work.TheVariants.{Calls, Batches}
use Rattle.nv_schedule.specs.declared.hand.Hand.{Hand}
use Rattle.nv_schedule.specs.declared.hand.Hand.TheVariants.{Reading, Writing, ReadingParts, WritingParts, Syncing}

-- ---- a call in mid-call

-- its place, once it has one, and how many bytes its reply tells
abbrev pub placed_at_hand : Hand → Option Done
placed_at_hand (Reading read) = reads.placed_by read.machine
placed_at_hand (Writing machine) = writes.placed_by machine
placed_at_hand (ReadingParts read) = reads.placed_by read.machine
placed_at_hand (WritingParts write) = writes.placed_by write.machine
placed_at_hand (Syncing machine) = syncs.placed_by machine

-- the reply of one that has its place
abbrev pub reply_at_hand : Hand → (len : ℕ) → Reply
reply_at_hand (Reading read) len = replies.Bytes (take len read.list.items)
reply_at_hand (Writing machine) len = replies.Count len
reply_at_hand (ReadingParts read) len = replies.Parts (filled read.parts.lens (take len read.parts.list))
reply_at_hand (WritingParts write) len = replies.Count len
reply_at_hand (Syncing machine) len = replies.Done

-- A write has drawn its numbers: it goes its way through the log, or is placed; or a device fault has ended it, and it gives back what it holds.
abbrev pub ends_by_fault : FrontMachine → Bool
ends_by_fault m = is_fault (front_refusal_at m.control)

abbrev pub has_drawn : WriteControl → Bool
has_drawn (Running (Front m)) = ends_by_fault m
has_drawn (Running (Append m)) = true
has_drawn (Running (Release m)) = true
has_drawn control = false

abbrev pub has_drawn_at_hand : Hand → Bool
has_drawn_at_hand (Writing machine) = has_drawn machine.control
has_drawn_at_hand (WritingParts write) = has_drawn write.machine.control
has_drawn_at_hand hand = false

abbrev pub placed_answer : Option Done → (reply : ℕ → Reply) → Option Answer
placed_answer None reply = None
placed_answer (Some done) reply = Some (Placed done.place (reply done.len))

abbrev pub open_answer : (has_drawn : Bool) → (drawn : Option ℕ) → Option Answer
open_answer true (Some number) = Some (Open number)
open_answer has_drawn drawn = None

-- What it is told as, where its pass tells this number: placed, once it has its place; else a write that has drawn is open; and any other call is told as nothing.
abbrev pub told_at_hand : Hand → (drawn : Option ℕ) → Option Answer
told_at_hand hand drawn = either_of (placed_answer (placed_at_hand hand) (reply_at_hand hand)) (open_answer (has_drawn_at_hand hand) drawn)

-- ---- all calls that are begun

-- a thread's present one, of which it has this at hand
abbrev pub told_present : Option Hand → (drawn : Option ℕ) → Option Answer
told_present None drawn = None
told_present (Some hand) drawn = told_at_hand hand drawn

-- listed where it is told as something
abbrev pub listed_as : TracedCall → Option Answer → List MadeCall
listed_as call None = []
listed_as call (Some answer) = record { call = call; answer = answer } ∷ []

abbrev pub listed_present : (left : List TracedCall) → Option Answer → List MadeCall
listed_present [] answer = []
listed_present (call ∷ later) answer = listed_as call answer

-- and else, where it has begun, among those that aren't answered
abbrev pub unanswered_present : (begun : Bool) → (left : List TracedCall) → Option Answer → List TracedCall
unanswered_present true (call ∷ later) None = call ∷ []
unanswered_present begun left answer = []

-- A thread's: those that were answered, and behind them its present one.
abbrev pub listed_of : ThreadState → (drawn : Option ℕ) → List MadeCall
listed_of thread drawn = thread.made ++ listed_present thread.left (told_present thread.hand drawn)

abbrev pub unanswered_of : ThreadState → (drawn : Option ℕ) → List TracedCall
unanswered_of thread drawn = unanswered_present thread.begun thread.left (told_present thread.hand drawn)

-- a caller's
abbrev pub listed_by : Work → (drawn : Option ℕ) → List MadeCall
listed_by (Calls thread) drawn = listed_of thread drawn
listed_by (Batches cleaner) drawn = []

abbrev pub unanswered_by : Work → (drawn : Option ℕ) → List TracedCall
unanswered_by (Calls thread) drawn = unanswered_of thread drawn
unanswered_by (Batches cleaner) drawn = []

abbrev pub listed : CallerState → List MadeCall
listed caller = listed_by caller.work (drawn_by caller.pass.view)

abbrev pub unanswered : CallerState → List TracedCall
unanswered caller = unanswered_by caller.work (drawn_by caller.pass.view)

-- those of some callers: each one's in their order, and the last one's first
abbrev pub all_listed : List CallerState → List MadeCall
all_listed [] = []
all_listed (caller ∷ later) = all_listed later ++ listed caller

abbrev pub all_unanswered : List CallerState → List TracedCall
all_unanswered [] = []
all_unanswered (caller ∷ later) = all_unanswered later ++ unanswered caller
