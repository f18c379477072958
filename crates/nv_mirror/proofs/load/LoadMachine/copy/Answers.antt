-- The page is read, and the store is given back, or STOP is set.
use Rattle.std.proofs.Common.{◌≡◌, true, false, refl, sym, ap, subst, ◌∙◌}
use Rattle.std.specs.Prelude.{None}
use Rattle.nv_core.specs.steps.Ops.{Give, Stop}
use Rattle.nv_core.specs.state.Words.{STORE}
use Rattle.nv_table.specs.state.Opened.{Opened}
use Rattle.nv_table.specs.state.Keys.{sizes_of}
use Rattle.nv_table.specs.steps.CallSteps.{Precondition}
use Rattle.nv_op.specs.Ops.{core_op_of}
use Rattle.nv_mirror.specs.PageReads.{page_read}
use Rattle.nv_mirror.specs.PassSteps.{fault_in}
use Rattle.nv_mirror.specs.declared.load.LoadControl.TheVariants as loads
use Rattle.nv_mirror.specs.Loads.{HasStepped, IsUnderWay, fault_then, load_after_at, load_op_at}
use Rattle.nv_mirror.proofs.LoadWorks.{at_control, between_by, from_is, give_due, give_on, give_keeps, fail_due, fail_on, fail_keeps, works_stepped}
use Rattle.nv_mirror.proofs.load.LoadMachine.copy.Goals as goal

pub perform_after-requires-clause-due : goal.perform_after-requires-clause-due
perform_after-requires-clause-due g c =
    fail_due c.args.self.now c.args.dirty c.requires.way.0 c.requires.way.1 c.args.pass.now c.requires.way.2.0 (at_control c.requires.way.2 c.requires.at) c.in_default.ensures.store c.fetch.new.pass c.in_default.ensures.failed

pub returns-in_default-clause-one : goal.returns-in_default-clause-one
returns-in_default-clause-one g c =
    let m = c.args.self.now in
    let pass = c.args.pass.now in
    let failed = c.in_default.ensures.failed in
    let step = c.perform_after.ensures.stepped.0 in
    works_stepped m (loads.ReadStore c.args.dirty) c.requires.way.0 c.requires.way.1 pass (at_control c.requires.way.2 c.requires.at) c.fetch.new.pass c.perform_after.new.pass
    (record { table = failed.altered.table; view = failed.altered.view; spare = failed.altered.spare }) step.works Stop c.perform_after.result step refl true _
    (ap (λ control. core_op_of pass.view (load_op_at pass.view.opened.sizes m control true)) (sym c.requires.at))
    (ap fault_in c.perform_after.ensures.stepped.1.is ∙ ap (λ control. fault_then control true) (sym c.requires.at))
    (ap (λ control. load_after_at pass.view.opened.sizes m control true c.perform_after.result) (sym c.requires.at))

pub returns-in_default-clause-others : goal.returns-in_default-clause-others
returns-in_default-clause-others g c =
    let failed = c.in_default.ensures.failed in
    fail_keeps c.args.self.now c.args.dirty c.requires.way.0 c.requires.way.1 c.args.pass.now c.fetch.new.pass c.perform_after.new.pass c.requires.way.2.0 (at_control c.requires.way.2 c.requires.at)
    (record { table = failed.altered.table; view = failed.altered.view; spare = failed.altered.spare }) c.perform_after.result c.perform_after.ensures.stepped.0 c.perform_after.ensures.stepped.1

pub returns-in_default-clause-way : goal.returns-in_default-clause-way
returns-in_default-clause-way g c laid start way =
    let failed = c.in_default.ensures.failed in
    fail_on c.args.self.now c.args.dirty laid start c.args.pass.now c.fetch.new.pass c.perform_after.new.pass way.0 (at_control way c.requires.at)
    (record { table = failed.altered.table; view = failed.altered.view; spare = failed.altered.spare }) c.perform_after.result c.perform_after.ensures.stepped.0 c.perform_after.ensures.stepped.1 c.fetch.new.room

pub perform_read-requires-clause-due : goal.perform_read-requires-clause-due
perform_read-requires-clause-due g c =
    let m = c.args.self.now in
    let pass = c.args.pass.now in
    let same = c.layout.ensures ∙ sym (ap (λ (o : Opened). o.sizes) c.requires.board.same_mount) in
    subst (λ at. (due : Precondition c.fetch.new.pass None (Give (STORE m.file))) × (due.works ≡ page_read m.file at c.fetch.new.room)) (sym (from_is m (sizes_of c.layout.result) pass.view.opened.sizes c.page_start-at.result same c.page_start-at.ensures))
    (give_due m c.args.dirty c.requires.way.0 c.requires.way.1 pass c.requires.way.2.0 (at_control c.requires.way.2 c.requires.at) c.in-Ok.ensures.store c.fetch.new.room c.fetch.new.pass c.in-Ok.ensures.says c.in-Ok.ensures.altered)

pub returns-clause-one : goal.returns-clause-one
returns-clause-one g c =
    let m = c.args.self.now in
    let pass = c.args.pass.now in
    let dirty = c.args.dirty in
    let new = c.perform_read.new.pass in
    let found = c.perform_read.result in
    let step = c.perform_read.ensures.stepped.0 in
    subst (λ control. HasStepped m (record m { control = control }) pass new) (sym c.behind_fetch-self.ensures)
    (works_stepped m (loads.ReadStore dirty) c.requires.way.0 c.requires.way.1 pass (at_control c.requires.way.2 c.requires.at) c.fetch.new.pass new
    (between_by _ pass c.fetch.new.pass c.in-Ok.ensures.altered) step.works (Give (STORE m.file)) found step refl false _
    (ap (λ control. core_op_of pass.view (load_op_at pass.view.opened.sizes m control false)) (sym c.requires.at))
    (ap fault_in c.perform_read.ensures.stepped.1 ∙ ap (λ control. fault_then control false) (sym c.requires.at))
    (ap (λ control. load_after_at pass.view.opened.sizes m control false found) (sym c.requires.at)))

pub returns-clause-others : goal.returns-clause-others
returns-clause-others g c =
    let m = c.args.self.now in
    let pass = c.args.pass.now in
    let same = c.layout.ensures ∙ sym (ap (λ (o : Opened). o.sizes) c.requires.board.same_mount) in
    let step = c.perform_read.ensures.stepped.0 in
    give_keeps m c.args.dirty c.requires.way.0 c.requires.way.1 pass c.requires.way.2.0 (at_control c.requires.way.2 c.requires.at) c.in-Ok.ensures.store c.fetch.new.pass c.perform_read.new.pass
    (between_by _ pass c.fetch.new.pass c.in-Ok.ensures.altered) c.fetch.new.room c.perform_read.result step
    (subst (λ at. step.works ≡ page_read m.file at c.fetch.new.room) (from_is m (sizes_of c.layout.result) pass.view.opened.sizes c.page_start-at.result same c.page_start-at.ensures) c.perform_read.ensures.stepped.1)

pub returns-clause-way : goal.returns-clause-way
returns-clause-way g c laid start way =
    let m = c.args.self.now in
    let pass = c.args.pass.now in
    let same = c.layout.ensures ∙ sym (ap (λ (o : Opened). o.sizes) c.requires.board.same_mount) in
    let step = c.perform_read.ensures.stepped.0 in
    subst (λ control. IsUnderWay (record m { control = control }) c.fetch.new.room start c.perform_read.new.pass) (sym c.behind_fetch-self.ensures)
    (give_on m c.args.dirty laid start pass c.fetch.new.pass c.perform_read.new.pass way.0 (at_control way c.requires.at)
    (between_by _ pass c.fetch.new.pass c.in-Ok.ensures.altered) c.fetch.new.room c.perform_read.result step
    (subst (λ at. step.works ≡ page_read m.file at c.fetch.new.room) (from_is m (sizes_of c.layout.result) pass.view.opened.sizes c.page_start-at.result same c.page_start-at.ensures) c.perform_read.ensures.stepped.1))
