-- Kinds: a step is of the kind that its machine says, whatever it replies.
use Rattle.std.proofs.Common.{◌≡◌, refl}
use Rattle.nv_table.specs.state.Views.{PassView}
use Rattle.nv_op.specs.declared.op.Op.{Op}
use Rattle.nv_op.specs.declared.op.Op.TheVariants.{Load, Take, Give, Place, Stop, Draw, Seize, Pledge, Ready, Grow, Break, Hold, Return, Turn, Hint, ByCleaner}
use Rattle.nv_op.specs.Kinds.{kind_of, kind_of_op}
use Rattle.nv_op.specs.Ops.{core_op_of}

pub kind_same : (view : PassView) (op : Op) → kind_of_op (core_op_of view op) ≡ kind_of op
kind_same view (Load word) = refl
kind_same view (Take cell) = refl
kind_same view (Give cell) = refl
kind_same view Place = refl
kind_same view Stop = refl
kind_same view (Draw head count) = refl
kind_same view (Seize number) = refl
kind_same view (Pledge page) = refl
kind_same view (Ready number word) = refl
kind_same view (Grow file length) = refl
kind_same view (Break number) = refl
kind_same view (Hold number) = refl
kind_same view (Return number) = refl
kind_same view (Turn page) = refl
kind_same view (Hint buffer page) = refl
kind_same view (ByCleaner cleaner_op) = refl
