-- Laws of the order of steps: its table is the same as the order by kinds, and no two steps are ever allowed.
use Rattle.std.specs.Prelude.{◌≡◌, ◌≢◌}
use Rattle.nv_core.specs.state.Words.{Sizes}
use Rattle.nv_core.specs.state.Passes.{Idle, Pass}
use Rattle.nv_core.specs.steps.Ops.{Op}
use Rattle.nv_core.specs.steps.Order.{Values, Enabled, Work, CallEnabled}
use Rattle.nv_core.specs.steps.StepKinds.{EnabledByKind}

-- A step may come exactly where it may by its kind.
abbrev pub StepsAreNext : Type 0
StepsAreNext = (sizes : Sizes) (values : Values) (pass : Pass) (op : Op) → EnabledByKind sizes values pass op → Enabled sizes values pass op

abbrev pub NextStepsMayCome : Type 0
NextStepsMayCome = (sizes : Sizes) (values : Values) (pass : Pass) (op : Op) → Enabled sizes values pass op → EnabledByKind sizes values pass op

-- No two steps are ever allowed, but that an idle pass may begin any batch; and none where a device call may come.
abbrev pub NoTwoSteps : Type 0
NoTwoSteps = (sizes : Sizes) (values : Values) (pass : Pass) (one other : Op)
    → pass.control ≢ Idle → Enabled sizes values pass one → Enabled sizes values pass other → one ≡ other

abbrev pub NoStepBesideADeviceCall : Type 0
NoStepBesideADeviceCall = (sizes : Sizes) (values : Values) (pass : Pass) (work : Work) (op : Op)
    → CallEnabled sizes values pass work → Enabled sizes values pass op → ⊥
