-- Next kinds: the kind of the step that a pass makes next, by where it stands in the core.
use Rattle.std.specs.Prelude.{◌≡◌, ◌+◌, ◌==◌, if◌then◌else◌, List, [], ◌∷◌, length, Option, Some, None}
use Rattle.nv_core.specs.state.Cleaner.{Batch, CleanerControl, WriteBack, SyncStores, MoveHeaderTail}
use Rattle.nv_core.specs.state.Cleaner as cleaner
use Rattle.nv_core.specs.state.Passes.{Control, Idle, ReadPiece, CommitGroup, Cleaning, Pass}
use Rattle.nv_core.specs.state.Words.{Sizes}
use Rattle.nv_core.specs.steps.Ops.{Op}
use Rattle.nv_core.specs.steps.Order.{Values, next_step}
use Rattle.nv_table.specs.state.States.{PassState}
use Rattle.nv_table.specs.state.Views.{PassView, pass_of, values_of}
use Rattle.nv_mount.specs.declared.fds.Fd.{Fd}
use Rattle.nv_op.specs.Kinds.{kind_of_op}
use Rattle.nv_op.specs.declared.kinds.Kind.{Kind}
use Rattle.nv_op.specs.declared.kinds.Kind.TheVariants.{Take, Give, Pledge, Hold, Return, Free}
use Rattle.nv_trace.specs.declared.trace_call.TracedCall.{TracedCall}
use Rattle.nv_schedule.specs.Hands.{kind_at_first}
use Rattle.nv_schedule.specs.Turns.{CallerState, HasCome, next_kind_of}
use Rattle.nv_schedule.specs.declared.caller.Work.{Work}
use Rattle.nv_schedule.specs.declared.caller.Work.TheVariants.{Calls, Batches}

-- the kind of the step behind device calls of a batch that end well; where it has none else it gives back
abbrev pub kind_in_batch : Batch → CleanerControl → Kind
kind_in_batch batch (cleaner.ReadPiece i) = if i + 1 == length batch.pages then Return else Hold
kind_in_batch batch (WriteBack i) = if i + 1 == length batch.pages then Return else Hold
kind_in_batch batch (SyncStores files) = Free
kind_in_batch batch (MoveHeaderTail calls) = Free
kind_in_batch batch inner = Give

-- behind device calls that end well; and the first one of what an idle pass does next
abbrev pub kind_behind : (first : Kind) → Control → Kind
kind_behind first Idle = first
kind_behind first (ReadPiece page number) = Return
kind_behind first (CommitGroup calls) = Pledge
kind_behind first (Cleaning batch inner) = kind_in_batch batch inner
kind_behind first control = Give

abbrev pub kind_or : Kind → Option Op → Kind
kind_or kind None = kind
kind_or kind (Some op) = kind_of_op op

-- The kind of the step that a pass makes next, where each device call before it ends well: of the step that may come, or of the one behind the device calls that are due; and the first one, where it is idle.
abbrev pub core_kind : Sizes → Values → Pass → (first : Kind) → Kind
core_kind sizes values pass first = kind_or (kind_behind first pass.control) (next_step sizes values pass)

abbrev pub kind_seen : PassView → (first : Kind) → Kind
kind_seen view first = core_kind view.opened.sizes (values_of view) (pass_of view) first

-- that of a thread with these calls left, of which the first one is present; none where there is none left
abbrev pub kind_with : PassView → List TracedCall → Option Kind
kind_with view [] = None
kind_with view (call ∷ later) = Some (kind_seen view (kind_at_first call.call))

-- and of a cleaner, whose batch begins with a take
abbrev pub core_next : PassView → Work → Option Kind
core_next view (Calls thread) = kind_with view thread.left
core_next view (Batches cleaner) = Some (kind_seen view Take)

-- What a caller makes next, by which a token is told to be at its point, is what the core has next of its pass: it follows from where the pass stands, and from which calls are left.
abbrev pub NextStepsAreTheCores : Type 0
NextStepsAreTheCores = (fds : List Fd) (caller : CallerState) (start : PassState) → HasCome fds caller.work start caller.pass → next_kind_of caller ≡ core_next caller.pass.view caller.work
