-- The step is the core's.
use Rattle.std.proofs.Common.{◌≡◌, ◌<◌, ◌≤◌, length, ◌∙◌, sym, ap, subst}
use Rattle.std.specs.Prelude.{Some}
use Rattle.nv_plain.specs.Layouts.{mount_layout}
use Rattle.nv_core.specs.state.Words.{Sizes}
use Rattle.nv_core.specs.steps.CleanerSteps.{next_cleaner_op}
use Rattle.nv_op.specs.CleanerOps.{core_cleaner_op}
use Rattle.nv_table.specs.state.Keys.{sizes_of}
use Rattle.nv_table.specs.state.Opened.{Opened}
use Rattle.nv_clean.specs.declared.batch.CleanControl.TheVariants as cleans
use Rattle.nv_clean.specs.Cleaning.{CleanState, Fits, IsEnd, IsPlain, IsUnderWay, inner_at}
use Rattle.nv_clean.specs.CleanSteps.{HasMadeOne, refusal_at}
use Rattle.nv_clean.specs.OwnedCells.{most_cells}
use Rattle.nv_core.specs.steps.CleanerSteps.{after_cleaner_op}
use Rattle.nv_core.specs.steps.Ops.{cleaner_move, moved}
use Rattle.nv_clean.specs.Measures.{clean_measure}
use Rattle.nv_clean.proofs.MeasureLaws.{step_falls}
use Rattle.nv_clean.proofs.StepLaws.{is_counted, plain_fits, plain_one, owns_fits, takes_room, store_room, way_then}
use Rattle.nv_clean.proofs.batch.CleanMachine.step.Goals as goal

pub next-op-requires-clause-fits : goal.next-op-requires-clause-fits
next-op-requires-clause-fits g c =
    let same = c.layout-layout.ensures ∙ sym (ap (λ (o : Opened). o.sizes) c.requires.board.same_mount) in
    subst (λ (s : Sizes). Fits s c.args.self.now) (sym same)
    (plain_fits c.runs_are_sound.ensures.runs c.args.pass.now c.sees_a_run.ensures.mount c.sees_a_run.ensures.run c.due_steps_stand.ensures c.args.self.now c.requires.way.0 c.requires.way.1 c.requires.plain)

pub next-op-requires-clause-owns : goal.next-op-requires-clause-owns
next-op-requires-clause-owns g c =
    let same = c.layout-layout.ensures ∙ sym (ap (λ (o : Opened). o.sizes) c.requires.board.same_mount) in
    owns_fits c.runs_are_sound.ensures.runs c.args.pass.now c.sees_a_run.ensures.mount c.sees_a_run.ensures.run c.due_steps_stand.ensures c.args.self.now c.requires.way.0 c.requires.way.1
    (subst (λ (s : Sizes). s.files ≤ mount_layout.file_limit) same c.layout-layout.result.limits.most_files)

pub follow-requires-clause-room : goal.follow-requires-clause-room
follow-requires-clause-room g c takes =
    let same = c.layout-layout.ensures ∙ sym (ap (λ (o : Opened). o.sizes) c.requires.board.same_mount) in
    let owns = owns_fits c.runs_are_sound.ensures.runs c.args.pass.now c.sees_a_run.ensures.mount c.sees_a_run.ensures.run c.due_steps_stand.ensures c.args.self.now c.requires.way.0 c.requires.way.1
    (subst (λ (s : Sizes). s.files ≤ mount_layout.file_limit) same c.layout-layout.result.limits.most_files) in
    subst (λ (m : CleanState). length m.owned < most_cells) (sym c.self.view_is)
    (takes_room (sizes_of c.layout-layout.result) c.args.self.now.owned c.args.self.now.batch c.args.self.now.control (core_cleaner_op c.next-op.result) c.perform-found.result c.requires.plain c.next-op.ensures.next takes owns)

pub follow-requires-2-clause-fits : goal.follow-requires-2-clause-fits
follow-requires-2-clause-fits g c =
    let same = c.layout-layout.ensures ∙ sym (ap (λ (o : Opened). o.sizes) c.requires.board.same_mount) in
    subst (λ (m : CleanState). Fits (sizes_of c.layout-layout.result) m) (sym c.self.view_is)
    (subst (λ (s : Sizes). Fits s c.args.self.now) (sym same)
    (plain_fits c.runs_are_sound.ensures.runs c.args.pass.now c.sees_a_run.ensures.mount c.sees_a_run.ensures.run c.due_steps_stand.ensures c.args.self.now c.requires.way.0 c.requires.way.1 c.requires.plain))

pub follow-requires-2-clause-room : goal.follow-requires-2-clause-room
follow-requires-2-clause-room g c at none =
    let same = c.layout-layout.ensures ∙ sym (ap (λ (o : Opened). o.sizes) c.requires.board.same_mount) in
    subst (λ (m : CleanState). length m.batch.files < mount_layout.file_limit) (sym c.self.view_is)
    (store_room c.runs_are_sound.ensures.runs c.args.pass.now c.sees_a_run.ensures.mount c.sees_a_run.ensures.run c.due_steps_stand.ensures c.args.self.now c.requires.way.0 c.requires.way.1 c.requires.plain
    (core_cleaner_op c.next-op.result) c.perform-found.result c.perform-found.new.pass c.perform-found.ensures.stepped
    (subst (λ (s : Sizes). next_cleaner_op s c.args.self.now.owned c.args.self.now.batch (inner_at s c.args.self.now.batch c.args.self.now.control) ≡ Some (core_cleaner_op c.next-op.result)) same c.next-op.ensures.next)
    (subst (λ (s : Sizes). s.files ≤ mount_layout.file_limit) same c.layout-layout.result.limits.most_files)
    (subst (λ (m : CleanState). m.control ≡ cleans.TakeStore) c.self.view_is at) none)

pub returns-clause-one : goal.returns-clause-one
returns-clause-one g c =
    let same = c.layout-layout.ensures ∙ sym (ap (λ (o : Opened). o.sizes) c.requires.board.same_mount) in
    subst (λ (s : Sizes). HasMadeOne s c.args.self.now c.follow-2.new.self c.args.pass.now c.perform-found.new.pass) c.layout-layout.ensures
    (plain_one c.runs_are_sound.ensures.runs c.args.pass.now c.sees_a_run.ensures.mount c.sees_a_run.ensures.run c.due_steps_stand.ensures c.args.self.now c.requires.way.0 c.requires.way.1 c.requires.plain
    (core_cleaner_op c.next-op.result) c.perform-found.result c.perform-found.new.pass c.perform-found.ensures.stepped
    (subst (λ (s : Sizes). next_cleaner_op s c.args.self.now.owned c.args.self.now.batch (inner_at s c.args.self.now.batch c.args.self.now.control) ≡ Some (core_cleaner_op c.next-op.result)) same c.next-op.ensures.next)
    (sizes_of c.layout-layout.result) same c.follow-2.new.self
    (c.follow-2.ensures.refusal ∙ ap (λ (m : CleanState). refusal_at (sizes_of c.layout-layout.result) m.batch m.refusal m.control c.perform-found.result) c.self.view_is)
    (λ is. c.follow-2.ensures.ends (subst (λ (m : CleanState). IsEnd m.control) (sym c.self.view_is) is) ∙ ap (λ (m : CleanState). m.batch) c.self.view_is))

pub returns-clause-falls : goal.returns-clause-falls
returns-clause-falls g c =
    let m = c.args.self.now in
    let sizes = sizes_of c.layout-layout.result in
    let op = core_cleaner_op c.next-op.result in
    let found = c.perform-found.result in
    let same = c.layout-layout.ensures ∙ sym (ap (λ (o : Opened). o.sizes) c.requires.board.same_mount) in
    let next = subst (λ (s : Sizes). next_cleaner_op s m.owned m.batch (inner_at s m.batch m.control) ≡ Some op) same c.next-op.ensures.next in
    subst (λ (s : Sizes). clean_measure s c.follow-2.new.self < clean_measure s m) c.layout-layout.ensures
    (step_falls sizes m c.follow-2.new.self op found c.follow.new.self c.requires.plain
    (subst (λ (s : Sizes). Fits s m) (sym same) (plain_fits c.runs_are_sound.ensures.runs c.args.pass.now c.sees_a_run.ensures.mount c.sees_a_run.ensures.run c.due_steps_stand.ensures m c.requires.way.0 c.requires.way.1 c.requires.plain))
    (is_counted c.runs_are_sound.ensures.runs c.args.pass.now c.sees_a_run.ensures.mount c.sees_a_run.ensures.run c.due_steps_stand.ensures m c.requires.way.0 c.requires.way.1 c.requires.plain op found c.perform-found.new.pass c.perform-found.ensures.stepped next)
    c.next-op.ensures.next (c.follow.ensures ∙ ap (λ (m : CleanState). moved (cleaner_move sizes op found) m.owned) c.self.view_is) c.follow-2.ensures.owned c.follow-2.ensures.begun
    (c.follow-2.ensures.control ∙ ap (λ (m : CleanState). after_cleaner_op sizes c.follow.new.self m.batch (inner_at sizes m.batch m.control) found) c.self.view_is))

pub returns-clause-way : goal.returns-clause-way
returns-clause-way g c start way =
    let same = c.layout-layout.ensures ∙ sym (ap (λ (o : Opened). o.sizes) c.requires.board.same_mount) in
    way_then c.runs_are_sound.ensures.runs c.args.pass.now c.sees_a_run.ensures.mount c.sees_a_run.ensures.run c.due_steps_stand.ensures _ start
    (subst (λ (m : CleanState). IsUnderWay m start c.args.pass.now) (sym c.self.view_is) way)
    (subst (λ (m : CleanState). IsPlain m.control) (sym c.self.view_is) c.requires.plain)
    (core_cleaner_op c.next-op.result) c.perform-found.result c.perform-found.new.pass c.perform-found.ensures.stepped
    (subst (λ (m : CleanState). next_cleaner_op c.args.pass.now.view.opened.sizes m.owned m.batch (inner_at c.args.pass.now.view.opened.sizes m.batch m.control) ≡ Some (core_cleaner_op c.next-op.result)) (sym c.self.view_is)
    (subst (λ (s : Sizes). next_cleaner_op s c.args.self.now.owned c.args.self.now.batch (inner_at s c.args.self.now.batch c.args.self.now.control) ≡ Some (core_cleaner_op c.next-op.result)) same c.next-op.ensures.next))
    (sizes_of c.layout-layout.result) same c.follow-2.new.self c.follow.new.self c.follow-2.ensures.begun
    c.follow.ensures c.follow-2.ensures.owned c.follow-2.ensures.control c.follow-2.ensures.files
