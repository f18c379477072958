-- The batch goes on with the core, be it that a device call has failed or not.
use Rattle.std.proofs.Common.{◌+◌, ◌<◌, length, ◌∙◌, sym, ap, subst, arith}
use Rattle.std.specs.Prelude.{Some, None}
use Rattle.nv_core.specs.steps.CleanerSteps.{rising_files}
use Rattle.nv_op.specs.declared.kinds.Kind.TheVariants.{Free, Stop}
use Rattle.nv_table.specs.state.Opened.{mount_of, state_of}
use Rattle.nv_clean.specs.declared.batch.CleanControl.TheVariants as cleans
use Rattle.nv_clean.specs.declared.batch.CleanRefusal.TheVariants.{RegionFault, StoreFault}
use Rattle.nv_clean.specs.CleanSteps.{kind_at, refusal_at}
use Rattle.nv_clean.specs.Cleaning.{CallsDevices, CleanState, IsAfterCalls, IsLow, control_at}
use Rattle.nv_clean.proofs.CleanStepLaws.{made_behind}
use Rattle.nv_clean.specs.Measures.{clean_measure, retiring_measure}
use Rattle.nv_clean.proofs.FactLaws.{retires}
use Rattle.nv_clean.proofs.MeasureLaws.{retire_measure}
use Rattle.nv_clean.proofs.RetireLaws.{frees_next, some_not_none}
use Rattle.nv_clean.proofs.batch.CleanMachine.retire.Goals as goal

pub stop_behind-requires-clause-said : goal.stop_behind-requires-clause-said
stop_behind-requires-clause-said g c works = (λ said. said, λ stands ended. (stands, ended))

pub stop_behind-requires-clause-way : goal.stop_behind-requires-clause-way
stop_behind-requires-clause-way g c = (c.requires.way.0, c.args.pass.now, c.in_default.ensures.failed c.requires.way.0 c.requires.way.1)

pub returns-in_default-clause-one : goal.returns-in_default-clause-one
returns-in_default-clause-one g c =
    made_behind c.args.board.now.opened.sizes c.args.self.now c.stop_behind.new.self c.args.pass.now c.stop_behind.new.pass Stop (Some StoreFault)
    (subst CallsDevices (sym c.requires.at) tt) (c.stop_behind.ensures.one c.requires.way.0 c.args.pass.now (c.in_default.ensures.failed c.requires.way.0 c.requires.way.1)) (some_not_none StoreFault) (λ found. c.stop_behind.ensures.refusal)

pub returns-in_default-clause-falls : goal.returns-in_default-clause-falls
returns-in_default-clause-falls g c =
    let was = retire_measure c.args.board.now.opened.sizes c.args.self.now c.requires.at in
    let less = c.stop_behind.ensures.falls in omega (arith, was, less)

pub returns-in_default-clause-way : goal.returns-in_default-clause-way
returns-in_default-clause-way g c start way = c.stop_behind.ensures.way start c.args.pass.now (c.in_default.ensures.failed start way)

pub move_tail-requires-clause-synced : goal.move_tail-requires-clause-synced
move_tail-requires-clause-synced g c = (c.requires.way.0, c.args.pass.now, c.in-Ok.ensures.synced c.requires.way.0 c.requires.way.1)

pub stop_behind-requires-in_default-move_tail-clause-said : goal.stop_behind-requires-in_default-move_tail-clause-said
stop_behind-requires-in_default-move_tail-clause-said g c works = (λ said. said, λ stands ended. (stands, ended))

pub stop_behind-requires-in_default-move_tail-clause-way : goal.stop_behind-requires-in_default-move_tail-clause-way
stop_behind-requires-in_default-move_tail-clause-way g c =
    (c.requires.way.0, c.args.pass.now, c.in_default-move_tail.ensures.failed c.requires.way.0 c.args.pass.now (c.in-Ok.ensures.synced c.requires.way.0 c.requires.way.1))

pub returns-in_default-move_tail-clause-one : goal.returns-in_default-move_tail-clause-one
returns-in_default-move_tail-clause-one g c =
    made_behind c.args.board.now.opened.sizes c.args.self.now c.stop_behind-in_default-move_tail.new.self c.args.pass.now c.stop_behind-in_default-move_tail.new.pass Stop (Some RegionFault)
    (subst CallsDevices (sym c.requires.at) tt) (c.stop_behind-in_default-move_tail.ensures.one c.requires.way.0 c.args.pass.now (c.in_default-move_tail.ensures.failed c.requires.way.0 c.args.pass.now (c.in-Ok.ensures.synced c.requires.way.0 c.requires.way.1)))
    (some_not_none RegionFault) (λ found. c.stop_behind-in_default-move_tail.ensures.refusal)

pub returns-in_default-move_tail-clause-falls : goal.returns-in_default-move_tail-clause-falls
returns-in_default-move_tail-clause-falls g c =
    let was = retire_measure c.args.board.now.opened.sizes c.args.self.now c.requires.at in
    let less = c.stop_behind-in_default-move_tail.ensures.falls in omega (arith, was, less)

pub returns-in_default-move_tail-clause-way : goal.returns-in_default-move_tail-clause-way
returns-in_default-move_tail-clause-way g c start way =
    c.stop_behind-in_default-move_tail.ensures.way start c.args.pass.now (c.in_default-move_tail.ensures.failed start c.args.pass.now (c.in-Ok.ensures.synced start way))

pub step_behind-requires-clause-said : goal.step_behind-requires-clause-said
step_behind-requires-clause-said g c works = (λ said. said, λ stands ended. (stands, ended))

pub step_behind-requires-clause-fits : goal.step_behind-requires-clause-fits
step_behind-requires-clause-fits g c =
    let m = c.args.self.now in
    let pass = c.args.pass.now in
    let sizes = pass.view.opened.sizes in
    subst (λ (m : CleanState). IsLow m.batch × (m.batch.tail < m.batch.reached)) (sym c.self.view_is)
    (retires sizes (mount_of pass.view.opened).values (state_of pass.view.opened pass.view.run) pass.view.number (c.runs_are_sound.ensures.runs (mount_of pass.view.opened) pass.view.run c.sees_a_run.ensures.mount c.sees_a_run.ensures.run) m.batch
    (rising_files sizes m.batch) (c.requires.way.1.called.control_is ∙ ap (control_at sizes m.batch) c.requires.at))

pub step_behind-requires-clause-way : goal.step_behind-requires-clause-way
step_behind-requires-clause-way g c = (
  c.requires.way.0,
  c.args.pass.now,
  subst (λ (m : CleanState). IsAfterCalls (record m { control = cleans.FreeEntry m.batch.tail }) c.requires.way.0 c.args.pass.now c.move_tail.new.pass) (sym c.self.view_is)
      (frees_next c.args.self.now c.requires.way.0 c.args.pass.now c.move_tail.new.pass (c.in-Ok-move_tail.ensures.moved c.requires.way.0 c.args.pass.now (c.in-Ok.ensures.synced c.requires.way.0 c.requires.way.1))),
)

pub returns-clause-one : goal.returns-clause-one
returns-clause-one g c =
    let m = c.args.self.now in
    made_behind c.args.board.now.opened.sizes m c.step_behind.new.self c.args.pass.now c.step_behind.new.pass Free None
    (subst CallsDevices (sym c.requires.at) tt) (c.step_behind.ensures.one c.requires.way.0 c.args.pass.now
    (subst (λ (m : CleanState). IsAfterCalls (record m { control = cleans.FreeEntry m.batch.tail }) c.requires.way.0 c.args.pass.now c.move_tail.new.pass) (sym c.self.view_is)
    (frees_next m c.requires.way.0 c.args.pass.now c.move_tail.new.pass (c.in-Ok-move_tail.ensures.moved c.requires.way.0 c.args.pass.now (c.in-Ok.ensures.synced c.requires.way.0 c.requires.way.1))))) (λ well. sym (ap (kind_at m.batch) c.requires.at))
    (λ found. c.step_behind.ensures.refusal ∙ ap (λ (m : CleanState). m.refusal) c.self.view_is ∙ sym (ap (λ control. refusal_at c.args.board.now.opened.sizes m.batch m.refusal control found) c.requires.at))

pub returns-clause-falls : goal.returns-clause-falls
returns-clause-falls g c =
    let sizes = c.args.board.now.opened.sizes in
    subst (λ most. clean_measure sizes c.step_behind.new.self < most)
    (ap (λ (m : CleanState). length m.owned + retiring_measure sizes m.batch) c.self.view_is ∙ sym (retire_measure sizes c.args.self.now c.requires.at)) c.step_behind.ensures.falls

pub returns-clause-way : goal.returns-clause-way
returns-clause-way g c start way =
    c.step_behind.ensures.way start c.args.pass.now
    (subst (λ (m : CleanState). IsAfterCalls (record m { control = cleans.FreeEntry m.batch.tail }) start c.args.pass.now c.move_tail.new.pass) (sym c.self.view_is)
    (frees_next c.args.self.now start c.args.pass.now c.move_tail.new.pass (c.in-Ok-move_tail.ensures.moved start c.args.pass.now (c.in-Ok.ensures.synced start way))))
