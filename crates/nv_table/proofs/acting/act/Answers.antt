-- Each kind of change is a step that the rule allows.
use Rattle.std.proofs.Common.{◌≡◌, ℕ, true, List, subst, Option}
use Rattle.nv_plain.specs.declared.call.FileCall.{FileCall}
use Rattle.atomic_table.specs.Table.{Me, Allows}
use Rattle.nv_core.specs.steps.Ops.{Op}
use Rattle.nv_core.specs.steps.Order.{Work}
use Rattle.nv_core.specs.state.Values.{Value}
use Rattle.nv_table.specs.declared.acting.Change.{Change}
use Rattle.nv_table.specs.steps.SeatSteps.{SeatPrecondition, SeatPostcondition}
use Rattle.nv_table.specs.state.Changes.{changed}
use Rattle.nv_table.specs.invariant.CoreLaws.{CoreLaws}
use Rattle.nv_table.specs.state.Keys.{opened_of}
use Rattle.nv_table.specs.state.Opened.{Opened}
use Rattle.nv_table.specs.invariant.TableInvariant.{TableInvariant}
use Rattle.nv_table.specs.state.Views.{PassView}
use Rattle.nv_table.proofs.invariant.StepsKeepInvariant.{acts_allow}
use Rattle.nv_table.proofs.acting.act.Goals as goal

allowed : {S : Type 0} (shown : S → Value) (opened : Opened) (slots id : ℕ) (old : Me S PassView) (opens : Option FileCall) (op : Op) (at : ℕ) (change is : Change)
    → CoreLaws → old.0.live ≡ true
    → (said : List Work → Type 0) → (may : SeatPrecondition shown old opens op at (changed change)) × said may.works → change ≡ is
    → Allows (TableInvariant shown opened) slots id old at (changed is) (λ found new. (acted : SeatPostcondition shown old opens op found new) × said acted.works)
allowed shown opened slots id old opens op at change is laws live said may e =
    acts_allow shown opened slots id old opens op at (changed is) laws live said
    (subst (λ c. (may : SeatPrecondition shown old opens op at (changed c)) × said may.works) e may)

pub load-requires : goal.load-requires
load-requires g c = (
  c.requires.table,
  c.requires.place,
  allowed g.S.Shown.shown (opened_of g.S.Shown.shown c.args.shared.now.key.value) c.args.shared.now.table_id.slots c.args.seat.now.id c.args.seat.now.me
      g.E.StepSpec.opens g.E.StepSpec.op c.args.place c.args.change _
      c.laws_of_the_core.ensures c.requires.live g.E.StepSpec.said c.requires.may c.in-Keep.is,
)

pub fetch_add-requires : goal.fetch_add-requires
fetch_add-requires g c = (
  c.requires.table,
  c.requires.place,
  allowed g.S.Shown.shown (opened_of g.S.Shown.shown c.args.shared.now.key.value) c.args.shared.now.table_id.slots c.args.seat.now.id c.args.seat.now.me
      g.E.StepSpec.opens g.E.StepSpec.op c.args.place c.args.change _
      c.laws_of_the_core.ensures c.requires.live g.E.StepSpec.said c.requires.may c.in-Add.is,
)

pub fetch_sub-requires : goal.fetch_sub-requires
fetch_sub-requires g c = (
  c.requires.table,
  c.requires.place,
  allowed g.S.Shown.shown (opened_of g.S.Shown.shown c.args.shared.now.key.value) c.args.shared.now.table_id.slots c.args.seat.now.id c.args.seat.now.me
      g.E.StepSpec.opens g.E.StepSpec.op c.args.place c.args.change _
      c.laws_of_the_core.ensures c.requires.live g.E.StepSpec.said c.requires.may c.in-Subtract.is,
)

pub swap-requires : goal.swap-requires
swap-requires g c = (
  c.requires.table,
  c.requires.place,
  allowed g.S.Shown.shown (opened_of g.S.Shown.shown c.args.shared.now.key.value) c.args.shared.now.table_id.slots c.args.seat.now.id c.args.seat.now.me
      g.E.StepSpec.opens g.E.StepSpec.op c.args.place c.args.change _
      c.laws_of_the_core.ensures c.requires.live g.E.StepSpec.said c.requires.may c.in-Set.is,
)

pub compare_exchange-requires : goal.compare_exchange-requires
compare_exchange-requires g c = (
  c.requires.table,
  c.requires.place,
  allowed g.S.Shown.shown (opened_of g.S.Shown.shown c.args.shared.now.key.value) c.args.shared.now.table_id.slots c.args.seat.now.id c.args.seat.now.me
      g.E.StepSpec.opens g.E.StepSpec.op c.args.place c.args.change _
      c.laws_of_the_core.ensures c.requires.live g.E.StepSpec.said c.requires.may c.in-Exchange.is,
)
