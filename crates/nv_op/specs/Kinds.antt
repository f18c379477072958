-- Kinds: how schedules name the steps.
use Rattle.nv_plain.specs.declared.call.Reply.TheVariants.{Done}
use Rattle.nv_core.specs.steps.Ops.{Op, Take as TakeOp, Give as GiveOp, Place as PlaceOp, Stop as StopOp, Draw as DrawOp, Seize as SeizeOp, Pledge as PledgeOp, Ready as ReadyOp, Grow as GrowOp, Break as BreakOp, Hold as HoldOp, Return as ReturnOp, Turn, Hint as HintOp, ByCleaner}
use Rattle.nv_core.specs.state.Cleaner.{CleanerOp, TakeCleaner, Clean, Subtract as SubtractOp, Free as FreeOp, MoveTail}
use Rattle.nv_core.specs.state.Cleaner as cleaner
use Rattle.nv_op.specs.Ops.{core_op_at}
use Rattle.nv_op.specs.declared.op.Op.{Op as Step}
use Rattle.nv_op.specs.declared.kinds.Kind.{Kind}
use Rattle.nv_op.specs.declared.kinds.Kind.TheVariants.{Load, Take, Give, Place, Stop, Draw, Seize, Pledge, Ready, Grow, Break, Hold, Return, Subtract, Free, Tail, Hand, Hint}

-- of a cleaner's step
abbrev pub kind_of_cleaner_op : CleanerOp → Kind
kind_of_cleaner_op (TakeCleaner most) = Take
kind_of_cleaner_op (cleaner.Load word) = Load
kind_of_cleaner_op (cleaner.Take cell) = Take
kind_of_cleaner_op (cleaner.Give cell) = Give
kind_of_cleaner_op (cleaner.Hold number) = Hold
kind_of_cleaner_op (cleaner.Return number) = Return
kind_of_cleaner_op (Clean number) = Return
kind_of_cleaner_op (SubtractOp page) = Subtract
kind_of_cleaner_op (FreeOp number) = Free
kind_of_cleaner_op (MoveTail tail) = Tail
kind_of_cleaner_op cleaner.Stop = Stop

-- of any step; those between passes load STOP
abbrev pub kind_of_op : Op → Kind
kind_of_op (TakeOp cell) = Take
kind_of_op (GiveOp cell) = Give
kind_of_op (PlaceOp reply) = Place
kind_of_op StopOp = Stop
kind_of_op DrawOp = Draw
kind_of_op (SeizeOp number) = Seize
kind_of_op (PledgeOp page) = Pledge
kind_of_op (ReadyOp number) = Ready
kind_of_op GrowOp = Grow
kind_of_op (BreakOp number) = Break
kind_of_op (HoldOp number) = Hold
kind_of_op (ReturnOp number) = Return
kind_of_op (Turn page) = Hand
kind_of_op (HintOp buffer page) = Hint
kind_of_op (ByCleaner cleaner_op) = kind_of_cleaner_op cleaner_op
kind_of_op op = Load

-- of a step as its machine says it: whatever the reply of a place
abbrev pub kind_of : Step → Kind
kind_of op = kind_of_op (core_op_at Done op)
